-- The text of a member whose cell has a byte.
use Rattle.std.proofs.Common.{◌≡◌, ℕ, Bool, true, false, List, [], ◌∷◌, ◌++◌, length, refl, sym, ◌∙◌, true≢false}
use Rattle.std.specs.Prelude.{◌==◌, codes}
use Rattle.json.specs.Print.{escape}
use Rattle.cwr_json.specs.declared.encodings.Encoding.{Encoding}
use Rattle.cwr_json.specs.Format.Encodings.{characters}
use Rattle.cwr_state_rows.specs.Format.RowTexts.{member}

pub member_there : (enc : Encoding) (key cell : List ℕ) (b : Bool) → b ≡ (length cell == 0) → b ≡ false
    → key ++ codes "\"" ++ escape (characters enc cell) ++ codes "\"" ≡ member enc key cell
member_there enc key [] b is some = absurd (true≢false (sym is ∙ some))
member_there enc key (x ∷ rest) b is some = refl
