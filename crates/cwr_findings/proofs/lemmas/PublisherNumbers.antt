-- A set of the publishers' numbers, one record after another.
use Rattle.std.proofs.Common.{◌≡◌, ℕ, ◌+◌, ◌≤◌, Bool, true, false, cond, List, [], ◌∷◌, length, take, refl, sym, ap, ◌∙◌, subst}
use Rattle.std.proofs.Common.{arith, is_eq, nat_cmp, bytes_eq}
use Rattle.std.specs.Prelude.{Some, ◌||◌, ◌&&◌, slice_get}
use Rattle.std.specs.Borrow.{Bor}
use Rattle.std.specs.BTreeSet.{BTreeSet, Updates, contains_by}
use Rattle.std.specs.Cmp.Lexicographic.{slice_cmp, nat_list_eq_equiv}
use Rattle.std.specs.List.{list_any}
use Rattle.std.proofs.lemmas.List.{take_all}
use Rattle.std.proofs.lemmas.List.Folds.{list_any-append}
use Rattle.std.proofs.lemmas.Map.Text.{is_eq-slice_cmp}
use Rattle.cwr_fields.specs.declared.kinds.Kind.TheVariants as kinds
use Rattle.cwr_lines.specs.Format.Records.{RecordValue, IsRecord, cell_named}
use Rattle.cwr_findings.specs.Format.Findings.{is_a}
use Rattle.cwr_findings.specs.Steps.Walks.{HasNumbersOf, is_publisher}
use Rattle.cwr_findings.proofs.lemmas.KindTests.{kind_of}
use Rattle.cwr_findings.proofs.lemmas.OneMore.{take_more}
use Rattle.cwr_findings.proofs.lemmas.RuleTests.{cell_of_field, publisher_of_number}

either : (a b : Bool) → cond a true b ≡ (b || (a || false))
either true true = refl
either true false = refl
either false true = refl
either false false = refl

neither : (b : Bool) → b ≡ (b || (false || false))
neither true = refl
neither false = refl

no_and : (a b : Bool) → a ≡ false → (a && b) ≡ false
no_and false b e = refl
no_and true b e = absurd (cc e)

-- what a test finds among one record more
any_more : (p : RecordValue → Bool) (t : List RecordValue) (k : ℕ) (r : RecordValue) → slice_get t k ≡ Some r
    → list_any p (take (k + 1) t) ≡ (list_any p (take k t) || (p r || false))
any_more p t k r there = ap (list_any p) (take_more t k r there) ∙ list_any-append p (take k t) (r ∷ [])

-- a number is equal to another both ways
same_either_way : (xs ys : List ℕ) → is_eq (slice_cmp nat_cmp xs ys) ≡ bytes_eq ys xs
same_either_way xs ys = is_eq-slice_cmp xs ys ∙ nat_list_eq_equiv.symm xs ys

-- one more SPU record, whose number is added
pub one_more_publisher : (t : List RecordValue) (k : ℕ) (r : RecordValue) (key : Bor (List ℕ)) (old new : BTreeSet (Bor (List ℕ)))
    → slice_get t k ≡ Some r → is_a kinds.Spu r ≡ true → IsRecord r → key.now ≡ cell_of_field r 5
    → HasNumbersOf (take k t) old → Updates (λ x y. slice_cmp nat_cmp x.now y.now) old new key true
    → HasNumbersOf (take (k + 1) t) new
one_more_publisher t k r key old new there spu fits shows h updates = λ number.
    let test : is_eq (slice_cmp nat_cmp key.now number.now) ≡ is_publisher number.now r =
    same_either_way key.now number.now ∙ ap (bytes_eq number.now) shows
    ∙ publisher_of_number r number.now (kind_of kinds.Spu r spu) fits in
    updates.0 number
    ∙ ap (λ (b : Bool). cond b true (contains_by (λ k. slice_cmp nat_cmp number.now k.now) old)) test
    ∙ ap (cond (is_publisher number.now r) true) (h number)
    ∙ either (is_publisher number.now r) (list_any (is_publisher number.now) (take k t))
    ∙ sym (any_more (is_publisher number.now) t k r there)

-- one more record of another kind
pub one_more_other : (t : List RecordValue) (k : ℕ) (r : RecordValue) (numbers : BTreeSet (Bor (List ℕ))) → slice_get t k ≡ Some r
    → is_a kinds.Spu r ≡ false → HasNumbersOf (take k t) numbers → HasNumbersOf (take (k + 1) t) numbers
one_more_other t k r numbers there other h = λ number.
    let test : is_publisher number.now r ≡ false =
    no_and (is_a kinds.Spu r) (bytes_eq number.now (cell_named "interested party number" r)) other in
    h number
    ∙ neither (list_any (is_publisher number.now) (take k t))
    ∙ ap (λ (b : Bool). list_any (is_publisher number.now) (take k t) || (b || false)) (sym test)
    ∙ sym (any_more (is_publisher number.now) t k r there)

-- the records up to their end are all of them
pub all_numbers : (t : List RecordValue) (k n : ℕ) (numbers : BTreeSet (Bor (List ℕ))) → length t ≤ k → k ≤ n
    → HasNumbersOf (take k t) numbers → HasNumbersOf (take n t) numbers
all_numbers t k n numbers end more h =
    subst (λ (l : List RecordValue). HasNumbersOf l numbers) (take_all k t end ∙ sym (take_all n t (omega (arith, end, more)))) h
