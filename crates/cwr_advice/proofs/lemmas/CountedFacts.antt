-- What is asked of all records, with one more of them.
use Prim.Native.String.{String}
use Rattle.std.proofs.Common.{◌≡◌, ℕ, ◌+◌, Bool, true, false, cond, List, [], ◌∷◌, ◌++◌, refl, sym, ap, ap₂, ◌∙◌, arith}
use Rattle.std.specs.Prelude.{◌||◌, filter, min}
use Rattle.std.specs.List.{list_any, sum_by, count_by}
use Rattle.std.proofs.lemmas.List.Elements.{filter-append}
use Rattle.std.proofs.lemmas.List.Folds.{list_any-append}
use Rattle.std.proofs.lemmas.List.Sums.{sum_by-append, sum_by_push}
use Rattle.cwr_lines.specs.Format.Records.{RecordValue}
use Rattle.cwr_findings.specs.Format.Findings.{share_of}
use Rattle.cwr_findings.specs.Steps.Walks.{capped}
use Rattle.cwr_findings.proofs.lemmas.RuleTests.{or_none}

pub any_more : (p : RecordValue → Bool) (rs : List RecordValue) (r : RecordValue) (a b : Bool) → a ≡ list_any p rs → b ≡ p r
    → (a || b) ≡ list_any p (rs ++ r ∷ [])
any_more p rs r a b e f = ap₂ (λ (x y : Bool). x || y) e (f ∙ sym (or_none (p r))) ∙ sym (list_any-append p rs (r ∷ []))

capped_more : (a b m s n : ℕ) → a ≡ capped s → b ≡ m → n ≡ min (a + b) 18446744073709551615 → n ≡ capped (s + m)
capped_more a b m s n p q r = omega (arith, p, q, r)

one_kept : (f : RecordValue → ℕ) (r : RecordValue) (b : Bool) → sum_by f (cond b (r ∷ []) []) ≡ cond b (f r) 0
one_kept f r true = omega arith
one_kept f r false = refl

kept_more : (f : RecordValue → ℕ) (keep : RecordValue → Bool) (rs : List RecordValue) (r : RecordValue)
    → sum_by f (filter keep (rs ++ r ∷ [])) ≡ sum_by f (filter keep rs) + cond (keep r) (f r) 0
kept_more f keep rs r =
    ap (sum_by f) (filter-append keep rs (r ∷ [])) ∙ sum_by-append f (filter keep rs) (filter keep (r ∷ []))
    ∙ ap (λ (n : ℕ). sum_by f (filter keep rs) + n) (one_kept f r (keep r))

-- with the shares in a right of one record more, where that is kept
pub kept_sum_more : (right : String) (keep : RecordValue → Bool) (rs : List RecordValue) (r : RecordValue) (a b n : ℕ)
    → a ≡ capped (sum_by (share_of right) (filter keep rs)) → b ≡ cond (keep r) (share_of right r) 0
    → n ≡ min (a + b) 18446744073709551615 → n ≡ capped (sum_by (share_of right) (filter keep (rs ++ r ∷ [])))
kept_sum_more right keep rs r a b n p q e =
    capped_more a b (cond (keep r) (share_of right r) 0) (sum_by (share_of right) (filter keep rs)) n p q e
    ∙ sym (ap capped (kept_more (share_of right) keep rs r))

-- how many pass, with one record more
pub counted_more : (p : RecordValue → Bool) (rs : List RecordValue) (r : RecordValue) (a b n : ℕ) → a ≡ capped (count_by p rs)
    → b ≡ cond (p r) 1 0 → n ≡ min (a + b) 18446744073709551615
    → n ≡ capped (count_by p (rs ++ r ∷ []))
counted_more p rs r a b n e f h =
    capped_more a b (cond (p r) 1 0) (count_by p rs) n e f h ∙ sym (ap capped (sum_by_push (λ x. cond (p x) 1 0) rs r))
