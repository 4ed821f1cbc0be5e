-- The last writer among records, with one more of them, and publishers that name it.
use Rattle.std.proofs.Common.{◌≡◌, ℕ, ◌+◌, Bool, true, false, not, cond, List, [], ◌∷◌, ◌++◌, length, take, refl, sym, ap, ap₂, ◌∙◌}
use Rattle.std.specs.Prelude.{Option, Some, None, filter, slice_get, ◌&&◌}
use Rattle.std.specs.List.{last_or}
use Rattle.std.specs.Str.{bytes_eq}
use Rattle.std.proofs.lemmas.Bool.{and_left, and_right}
use Rattle.std.proofs.lemmas.List.{append-nil}
use Rattle.std.proofs.lemmas.List.Elements.{filter-append}
use Rattle.std.proofs.lemmas.Slice.Eq.{bytes_eq-Decides}
use Rattle.cwr_fields.specs.declared.kinds.Kind.TheVariants as kinds
use Rattle.cwr_fields.specs.Format.Bytes.{is_spaces}
use Rattle.cwr_lines.specs.Format.Records.{RecordValue, IsRecord, cell_named}
use Rattle.cwr_findings.specs.Format.Findings.{has_party_number, is_a, is_blank}
use Rattle.cwr_findings.proofs.lemmas.OneMore.{take_more}
use Rattle.cwr_findings.proofs.lemmas.RuleTests.{cell_of_field}
use Rattle.cwr_advice.specs.Format.Rules.{is_writer, last_writer, names_other_writer}
use Rattle.cwr_advice.specs.Steps.Kept.{IsLastWriter}
use Rattle.cwr_advice.proofs.lemmas.AdvisedFields.{all_three, named_number, named_writer}
use Rattle.cwr_advice.proofs.lemmas.CalmRecords.{front_taken}

-- ---- the last one

last_pushed : (o : Option RecordValue) (xs : List RecordValue) (r : RecordValue) → last_or o (xs ++ r ∷ []) ≡ Some r
last_pushed o [] r = refl
last_pushed o (x ∷ xs) r = last_pushed (Some x) xs r

last_kept : (rs : List RecordValue) (r : RecordValue) (b : Bool)
    → last_or None (filter is_writer rs ++ cond b (r ∷ []) []) ≡ cond b (Some r) (last_writer rs)
last_kept rs r true = last_pushed None (filter is_writer rs) r
last_kept rs r false = ap (last_or None) (append-nil (filter is_writer rs))

last_more : (rs : List RecordValue) (r : RecordValue) (b : Bool) → is_writer r ≡ b
    → last_writer (rs ++ r ∷ []) ≡ cond b (Some r) (last_writer rs)
last_more rs r b e =
    ap (last_or None) (filter-append is_writer rs (r ∷ []))
    ∙ ap (λ (c : Bool). last_or None (filter is_writer rs ++ cond c (r ∷ []) [])) e ∙ last_kept rs r b

-- a writer is the last one
last_here : (rs : List RecordValue) (r : RecordValue) → is_writer r ≡ true → last_writer (rs ++ r ∷ []) ≡ Some r
last_here rs r e = last_more rs r true e

-- and with another record it is the same one
last_before : (rs : List RecordValue) (r : RecordValue) → is_writer r ≡ false → last_writer (rs ++ r ∷ []) ≡ last_writer rs
last_before rs r e = last_more rs r false e

-- ---- looked for from the end back

pub writer_here : (t : List RecordValue) (i k : ℕ) (r : RecordValue) → i + 1 ≡ k → slice_get t i ≡ Some r → is_writer r ≡ true
    → last_writer (take k t) ≡ Some r
writer_here t i k r next e h =
    ap (λ (n : ℕ). last_writer (take n t)) (sym next) ∙ ap last_writer (take_more t i r e) ∙ last_here (take i t) r h

pub writer_before : (t : List RecordValue) (i k : ℕ) (r : RecordValue) → i + 1 ≡ k → slice_get t i ≡ Some r → is_writer r ≡ false
    → last_writer (take k t) ≡ last_writer (take i t)
writer_before t i k r next e h =
    ap (λ (n : ℕ). last_writer (take n t)) (sym next) ∙ ap last_writer (take_more t i r e) ∙ last_before (take i t) r h

pub no_writer_first : (number : List ℕ) (t : List RecordValue) → has_party_number number (last_writer (take 0 t)) ≡ false
no_writer_first number [] = refl
no_writer_first number (x ∷ t) = refl

-- ---- its number

-- one writer more
pub known_by : (t : List RecordValue) (r : RecordValue) (cell : List ℕ) (writer : Option (List ℕ)) → is_writer r ≡ true
    → IsRecord r → cell ≡ cell_of_field r 4
    → ((number : List ℕ) → writer ≡ Some number → number ≡ cell) → IsLastWriter (t ++ r ∷ []) writer
known_by t r cell writer writes fits e same = λ number is.
    ap (has_party_number number) (last_here t r writes)
    ∙ (bytes_eq-Decides number (cell_named "interested party number" r)).1 (same number is ∙ named_number r cell e writes fits)

-- and another record
pub known_still : (t : List RecordValue) (r : RecordValue) (writer : Option (List ℕ)) → is_writer r ≡ false
    → IsLastWriter t writer → IsLastWriter (t ++ r ∷ []) writer
known_still t r writer other h = λ number is. ap (has_party_number number) (last_before t r other) ∙ h number is

-- ---- who names it

-- no publisher of a writer
pub names_nobody : (t : List RecordValue) (k : ℕ) (r : RecordValue) → is_a kinds.Pwr r ≡ false → names_other_writer t k r ≡ false
names_nobody t k r h =
    and_left (is_a kinds.Pwr r && not (is_blank "writer interested party number" r)) _ (and_left (is_a kinds.Pwr r) _ h)

-- a blank number
pub names_none : (t : List RecordValue) (k : ℕ) (r : RecordValue) (cell : List ℕ) → is_a kinds.Pwr r ≡ true → IsRecord r
    → cell ≡ cell_of_field r 8 → is_spaces cell ≡ true → names_other_writer t k r ≡ false
names_none t k r cell pwr fits e blank =
    and_left (is_a kinds.Pwr r && not (is_blank "writer interested party number" r)) _ (and_right (is_a kinds.Pwr r) _
    (ap not (ap is_spaces (sym (named_writer r cell e pwr fits)) ∙ blank)))

-- a number of which it is known whether the last writer has it
pub names_by : (t : List RecordValue) (k : ℕ) (r : RecordValue) (cell : List ℕ) (has : Bool) → is_a kinds.Pwr r ≡ true → IsRecord r
    → cell ≡ cell_of_field r 8 → is_spaces cell ≡ false → has ≡ has_party_number cell (last_writer (take k t))
    → not has ≡ names_other_writer t k r
names_by t k r cell has pwr fits e filled known =
    let named = named_writer r cell e pwr fits in
    ap not (known ∙ ap (λ (n : List ℕ). has_party_number n (last_writer (take k t))) named)
    ∙ all_three (is_a kinds.Pwr r) (not (is_blank "writer interested party number" r)) _ pwr
    (ap not (ap is_spaces (sym named) ∙ filled))

-- the number of the last writer
pub names_last : (t : List RecordValue) (r : RecordValue) (cell number : List ℕ) → is_a kinds.Pwr r ≡ true → IsRecord r
    → cell ≡ cell_of_field r 8 → bytes_eq cell number ≡ true → has_party_number number (last_writer t) ≡ true
    → names_other_writer (t ++ r ∷ []) (length t) r ≡ false
names_last t r cell number pwr fits e same known =
    let named : cell_named "writer interested party number" r ≡ number =
    sym (named_writer r cell e pwr fits) ∙ (bytes_eq-Decides cell number).0 same in
    and_right (is_a kinds.Pwr r && not (is_blank "writer interested party number" r)) _
    (ap not (ap₂ (λ (n : List ℕ) (l : List RecordValue). has_party_number n (last_writer l)) named (front_taken t r) ∙ known))
