-- The words for a refusal: where it is, how much it rejects, and why.
use Rattle.std.specs.Prelude.{ℕ, List, ◌++◌, codes, decimal}
use Rattle.cwr_shape.specs.Format.ReasonTexts.{level_text, reason_text}
use Rattle.cwr_judge.specs.declared.refusals.Refusal.{Refusal}

-- its record, its field, its level and its reason
abbrev pub refusal_text : Refusal → List ℕ
refusal_text r =
    codes "record " ++ decimal r.rec ++ codes " field " ++ decimal r.field ++ codes " level " ++ level_text r.level ++ codes " "
    ++ reason_text r.reason
