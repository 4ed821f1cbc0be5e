-- What is written of records that may be there.
use Rattle.std.proofs.Common.{◌≡◌, ℕ, ◌+◌, Bool, List, [], Option, Some, None, sym, ap, ◌∙◌, append-nil}
use Rattle.std.specs.Prelude.{slice_get}
use Rattle.std.specs.List.{flat_map}
use Rattle.std.specs.Option.{option_to_list}
use Rattle.cwr_lines.specs.Format.Records.{RecordValue}
use Rattle.cwr_findings.specs.declared.rules.Rule.{Rule}
use Rattle.cwr_findings.specs.declared.rules.Finding.{Finding}
use Rattle.cwr_notes.specs.Format.FindingNotes.{finding_notes, noted_at, noted_cells, notes_on}
use Rattle.cwr_notes.specs.Format.WorkNames.{work_line, work_of}

-- ---- of records that may be there

-- where no record has that place nothing is written of it
pub noted_none : (n : ℕ) (t : List RecordValue) (rule : Rule) (place : ℕ) → None ≡ slice_get t place
    → noted_at n t rule place ≡ []
unfolding noted_at
noted_none n t rule place e = ap (λ (o : Option RecordValue). flat_map (noted_cells (n + place) rule) (option_to_list o)) (sym e)

pub noted_some : (n : ℕ) (t : List RecordValue) (rule : Rule) (place : ℕ) (r : RecordValue) → Some r ≡ slice_get t place
    → noted_cells (n + place) rule r ≡ noted_at n t rule place
unfolding noted_at
noted_some n t rule place r e =
    sym (append-nil (noted_cells (n + place) rule r))
    ∙ ap (λ (o : Option RecordValue). flat_map (noted_cells (n + place) rule) (option_to_list o)) e

pub notes_none : (apart : Bool) (n : ℕ) (t : List RecordValue) (f : Finding) → None ≡ slice_get t f.rec
    → finding_notes apart n t f ≡ []
unfolding finding_notes
notes_none apart n t f e = ap (λ (o : Option RecordValue). flat_map (notes_on apart n t f) (option_to_list o)) (sym e)

pub notes_some : (apart : Bool) (n : ℕ) (t : List RecordValue) (f : Finding) (r : RecordValue) → Some r ≡ slice_get t f.rec
    → notes_on apart n t f r ≡ finding_notes apart n t f
unfolding finding_notes
notes_some apart n t f r e =
    sym (append-nil (notes_on apart n t f r)) ∙ ap (λ (o : Option RecordValue). flat_map (notes_on apart n t f) (option_to_list o)) e

-- ---- of a transaction's header

pub work_none : (t : List RecordValue) → None ≡ slice_get t 0 → work_of t ≡ []
unfolding work_of
work_none t e = ap (λ (o : Option RecordValue). flat_map work_line (option_to_list o)) (sym e)

pub work_some : (t : List RecordValue) (r : RecordValue) → Some r ≡ slice_get t 0 → work_line r ≡ work_of t
unfolding work_of
work_some t r e = sym (append-nil (work_line r)) ∙ ap (λ (o : Option RecordValue). flat_map work_line (option_to_list o)) e
