-- What records tell that an item lacks, one after another.
use Rattle.std.proofs.Common.{◌≡◌, ℕ, zero, suc, ◌+◌, List, [], ◌∷◌, Some, None, drop, refl, sym, ap, ◌∙◌, add-one}
use Rattle.std.specs.Prelude.{slice_get, unwrap_or}
use Rattle.std.proofs.Math.Seq.{drop-cons}
use Rattle.std.proofs.lemmas.Option.{get_or_from_slice_get, slice_get_within}
use Rattle.cwr_lines.specs.Format.Records.{RecordValue}
use Rattle.cwr_write.specs.declared.hints.Lack.{Lack}
use Rattle.cwr_write.specs.Format.Lacks.{lack_after, lack_told}

-- the record at a place tells it
pub told_next : (before : Lack) (t : List RecordValue) (i : ℕ) (r : RecordValue) → slice_get t i ≡ Some r
    → lack_told (unwrap_or (lack_after r.kind r) before) (drop (i + 1) t) ≡ lack_told before (drop i t)
told_next before t i r e =
    ap (λ (k : ℕ). lack_told (unwrap_or (lack_after r.kind r) before) (drop k t)) (add-one i)
    ∙ sym (ap (lack_told before) (drop-cons t i r (slice_get_within t i r e)
    ∙ ap (λ (q : RecordValue). q ∷ drop (suc i) t) (get_or_from_slice_get t i r r e)))

-- no record stands there
told_past : (before : Lack) (t : List RecordValue) (i : ℕ) → slice_get t i ≡ None
    → lack_told before (drop (suc i) t) ≡ lack_told before (drop i t)
told_past before [] zero e = refl
told_past before [] (suc i) e = refl
told_past before (r ∷ t) zero e = absurd (cc e)
told_past before (r ∷ t) (suc i) e = told_past before t i e

pub told_none : (before : Lack) (t : List RecordValue) (i : ℕ) → slice_get t i ≡ None
    → lack_told before (drop (i + 1) t) ≡ lack_told before (drop i t)
told_none before t i e = ap (λ (k : ℕ). lack_told before (drop k t)) (add-one i) ∙ told_past before t i e
