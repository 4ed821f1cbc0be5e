-- What is added of advice.
use Rattle.std.proofs.Common.{◌≡◌, ℕ, ◌+◌, Bool, true, List, [], Option, Some, None, refl}
use Rattle.std.proofs.Common.{sym, ap, ◌∙◌, append-nil, arith}
use Rattle.std.specs.Prelude.{nat_lt, slice_get}
use Rattle.std.specs.List.{flat_map}
use Rattle.std.specs.Option.{option_to_list}
use Rattle.std.proofs.lemmas.Bool.{lt-ltb, ltb-true}
use Rattle.cwr_lines.specs.Format.Records.{RecordValue}
use Rattle.cwr_notes.specs.Format.WorkNames.{work_of}
use Rattle.cwr_advice.specs.declared.rules.Advice.{Advice}
use Rattle.cwr_advise.specs.Format.AdviceTexts.{lines_at_record, noted_advice}

-- where no record has that place nothing is written of it
pub noted_none : (apart : Bool) (group sequence n : ℕ) (t : List RecordValue) (a : Advice) → None ≡ slice_get t a.rec
    → noted_advice apart group sequence n t a ≡ []
unfolding noted_advice
noted_none apart group sequence n t a e =
    ap (λ (o : Option RecordValue). flat_map (lines_at_record apart group sequence (n + a.rec) (work_of t) a) (option_to_list o)) (sym e)

pub noted_some : (apart : Bool) (group sequence n : ℕ) (t : List RecordValue) (a : Advice) (r : RecordValue)
    → Some r ≡ slice_get t a.rec
    → lines_at_record apart group sequence (n + a.rec) (work_of t) a r ≡ noted_advice apart group sequence n t a
unfolding noted_advice
noted_some apart group sequence n t a r e =
    sym (append-nil (lines_at_record apart group sequence (n + a.rec) (work_of t) a r))
    ∙ ap (λ (o : Option RecordValue). flat_map (lines_at_record apart group sequence (n + a.rec) (work_of t) a) (option_to_list o)) e

-- something is found where findings are, or advice is
pub found_first : (m n : ℕ) → nat_lt 0 m ≡ true → nat_lt 0 (m + n) ≡ true
found_first m n h = lt-ltb 0 (m + n) (omega (arith, ltb-true 0 m h))

pub found_second : (m n : ℕ) → nat_lt 0 n ≡ true → nat_lt 0 (m + n) ≡ true
found_second m n h = lt-ltb 0 (m + n) (omega (arith, ltb-true 0 n h))
