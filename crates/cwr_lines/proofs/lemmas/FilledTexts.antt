-- Texts that are filled up with spaces.
use Rattle.std.proofs.Common.{◌≡◌, ℕ, ◌+◌, ◌-◌, ◌≤◌, List, ◌++◌, length, take, replicate, sym, ap, ◌∙◌, append_assoc, append-nil}
use Rattle.std.proofs.Common.{arith}
use Rattle.std.specs.Prelude.{Result, Ok, Err}
use Rattle.std.specs.Result.{IsOk, OnOk}
use Rattle.std.proofs.lemmas.Bool.{false≢true}
use Rattle.std.proofs.lemmas.List.{length-append, length-replicate, replicate-append-replicate, take-replicate}
use Rattle.std.proofs.lemmas.List.Sums.{sum_by-cons}
use Rattle.cwr_fields.specs.Format.Bytes.{filled}
use Rattle.cwr_fields.specs.declared.kinds.Kind.{Kind}
use Rattle.cwr_fields.specs.Format.Layouts.{FieldLayout, record_type, fields_after_type, line_width}

pub length-filled : (width : ℕ) (text : List ℕ) → length (filled width text) ≡ length text + (width - length text)
length-filled width text =
    length-append text (replicate (width - length text) 32)
    ∙ ap (λ (n : ℕ). length text + n) (length-replicate (width - length text) 32)

-- filled up twice is filled up to the larger width
pub filled-filled : (m n : ℕ) (text : List ℕ) → m ≤ n → filled n (filled m text) ≡ filled n text
filled-filled m n text h =
    let more : ℕ = n - length (filled m text) in
    let count : (m - length text) + more ≡ n - length text = omega (arith, length-filled m text) in
    let joined : replicate (m - length text) 32 ++ replicate more 32 ≡ replicate (n - length text) 32 =
    replicate-append-replicate (m - length text) more 32 ∙ ap (λ (k : ℕ). replicate k 32) count in
    rw append_assoc (ap (λ (x : List ℕ). text ++ x) joined)

-- a text that is as wide already is filled up
pub filled_already : (width : ℕ) (text : List ℕ) → width ≤ length text → text ≡ filled width text
filled_already width text h =
    let none : width - length text ≡ 0 = omega arith in
    sym (append-nil text) ∙ ap (λ (n : ℕ). text ++ replicate n 32) (sym none)

-- each line has the three bytes of its record type
pub line_width_least : (kind : Kind) → 3 ≤ line_width kind
line_width_least kind = omega (arith, sum_by-cons (λ (f : FieldLayout). f.width) record_type (fields_after_type kind))

abbrev spaces : ℕ → List ℕ
spaces n = replicate n 32

-- spaces appended, as many as are missing, to a text that has room for them; they are cut from so many spaces
pub filled_by_extending : {T E : Type 0} (r : Result T E) (spare most width missing : ℕ) (old new : List ℕ) → most ≤ spare
    → width ≤ most → length old ≤ most → missing ≡ width - length old
    → (length old + length (take missing (spaces spare)) ≤ most → IsOk r) → OnOk r (new ≡ old ++ take missing (spaces spare))
    → new ≡ filled width old
filled_by_extending (Ok x) spare most width missing old new s h k e v o =
    o ∙ ap (λ (x : List ℕ). old ++ x) (take-replicate missing spare 32 (omega arith) ∙ ap spaces e)
filled_by_extending (Err x) spare most width missing old new s h k e v o =
    let count : length (take missing (spaces spare)) ≡ missing =
    ap length (take-replicate missing spare 32 (omega arith)) ∙ length-replicate missing 32 in
    absurd (false≢true (v (omega arith)))
