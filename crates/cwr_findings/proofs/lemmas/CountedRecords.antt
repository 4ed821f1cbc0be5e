-- Counts over the records of a transaction, with one more of them.
use Rattle.std.proofs.Common.{◌≡◌, ℕ, zero, suc, ◌+◌, ◌<◌, Bool, true, false, cond, List, [], ◌∷◌, ◌++◌, length, refl, sym, ap}
use Rattle.std.proofs.Common.{ap₂, ◌∙◌, arith, inl, inr, true≢false}
use Rattle.std.specs.Prelude.{◌⊎◌, ◌&&◌, ◌||◌, Some, filter, slice_get, min}
use Rattle.std.specs.List.{list_any, count_by}
use mir.Val.{bool_byte}
use Rattle.std.proofs.lemmas.List.Sums.{sum_by_push}
use Rattle.std.proofs.lemmas.List.Folds.{list_any-append}
use Rattle.std.proofs.lemmas.Option.{slice_get_within}
use Rattle.cwr_fields.specs.declared.kinds.Kind.TheVariants as kinds
use Rattle.cwr_lines.specs.Format.Records.{RecordValue, cell_named}
use Rattle.cwr_findings.specs.declared.totals.TransactionTotals.{TransactionTotals}
use Rattle.cwr_findings.specs.Format.Findings.{is_a, is_author, is_owner, names_author}
use Rattle.cwr_findings.specs.Steps.Walks.{AreTotals, capped}
use Rattle.cwr_findings.proofs.lemmas.AddedShares.{nothing_more, owners_more}
use Rattle.cwr_findings.proofs.lemmas.KindTests.{is_of_no_kind}
use Rattle.cwr_findings.proofs.lemmas.RuleTests.{or_none}

pub author_more : (rs : List RecordValue) (r : RecordValue) (a b : Bool) → a ≡ list_any is_author rs → b ≡ is_author r
    → (a || b) ≡ list_any is_author (rs ++ r ∷ [])
author_more rs r a b e f =
    ap₂ (λ (x y : Bool). x || y) e (f ∙ sym (or_none (is_author r))) ∙ sym (list_any-append is_author rs (r ∷ []))

capped_more : (a b m s n : ℕ) → a ≡ capped s → b ≡ m → n ≡ min (a + b) 18446744073709551615 → n ≡ capped (s + m)
capped_more a b m s n p q r = omega (arith, p, q, r)

-- the number of a test
pub byte_is : (b : Bool) → bool_byte b ≡ cond b 1 0
byte_is true = refl
byte_is false = refl

pub components_more : (rs : List RecordValue) (r : RecordValue) (a b n : ℕ) → a ≡ capped (count_by (is_a kinds.Com) rs)
    → b ≡ cond (is_a kinds.Com r) 1 0 → n ≡ min (a + b) 18446744073709551615
    → n ≡ capped (count_by (is_a kinds.Com) (rs ++ r ∷ []))
components_more rs r a b n p q e =
    capped_more a b (cond (is_a kinds.Com r) 1 0) (count_by (is_a kinds.Com) rs) n p q e
    ∙ sym (ap capped (sum_by_push (λ x. cond (is_a kinds.Com x) 1 0) rs r))

-- a record of the longer list is one of the shorter, or the new one
pushed : (rs : List RecordValue) (r : RecordValue) (i : ℕ) (p : RecordValue) → slice_get (rs ++ r ∷ []) i ≡ Some p
    → (slice_get rs i ≡ Some p) ⊎ ((r ≡ p) × (i ≡ length rs))
pushed [] r zero p e = inr (cc e, refl)
pushed [] r (suc i) p e = absurd (cc e)
pushed (x ∷ rs) r zero p e = inl e
pushed (x ∷ rs) r (suc i) p e = elim (pushed rs r i p e) [ inl q ↦ inl q | inr q ↦ inr (q.0, ap suc q.1) ]

-- up to where the publishers stand
abbrev pub StandBefore : ℕ → List RecordValue → Type 0
StandBefore end rs = (i : ℕ) (p : RecordValue) → slice_get rs i ≡ Some p → is_a kinds.Spu p ≡ true → i < end

pub publishers_same : (rs : List RecordValue) (r : RecordValue) (end : ℕ) → StandBefore end rs → is_a kinds.Spu r ≡ false
    → StandBefore end (rs ++ r ∷ [])
publishers_same rs r end h no_spu =
    λ i p e q. elim (pushed rs r i p e)
    [ inl there ↦ h i p there q | inr new ↦ absurd (true≢false (sym q ∙ sym (ap (is_a kinds.Spu) new.0) ∙ no_spu)) ]

pub publishers_more : (rs : List RecordValue) (r : RecordValue) (k : ℕ) → length rs ≡ k → StandBefore (k + 1) (rs ++ r ∷ [])
publishers_more rs r k many =
    λ i p e q. elim (pushed rs r i p e)
    [ inl there ↦ omega (arith, slice_get_within rs i p there, many) | inr new ↦ omega (arith, new.1, many) ]

-- ---- records that count nothing

no_or : (a b : Bool) → a ≡ false → b ≡ false → (a || b) ≡ false
no_or a b e f = ap (λ (x : Bool). x || b) e ∙ f

pub counts_nothing : (rs : List RecordValue) (r : RecordValue) (x : TransactionTotals) → AreTotals rs x → (r.kind ≡ kinds.Spu → ⊥)
    → (r.kind ≡ kinds.Opu → ⊥) → (r.kind ≡ kinds.Swr → ⊥) → (r.kind ≡ kinds.Owr → ⊥)
    → (r.kind ≡ kinds.Com → ⊥) → AreTotals (rs ++ r ∷ []) x
counts_nothing rs r x h no_spu no_opu no_swr no_owr no_com = record {
  ownership = owners_more rs r x.ownership false (sym no_owner) (nothing_more (filter is_owner rs) x.ownership h.ownership);
  author = sym (or_none x.has_author) ∙ author_more rs r x.has_author false h.author (sym no_author);
  components =
      components_more rs r x.components 0 x.components h.components
      (ap (λ (b : Bool). cond b 1 0) (sym (is_of_no_kind kinds.Com r no_com))) (omega (arith, h.components));
  publishers = publishers_same rs r x.publishers_end h.publishers spu;
}
  where
    spu : is_a kinds.Spu r ≡ false
    spu = is_of_no_kind kinds.Spu r no_spu

    no_writer : (is_a kinds.Swr r || is_a kinds.Owr r) ≡ false
    no_writer = no_or (is_a kinds.Swr r) (is_a kinds.Owr r) (is_of_no_kind kinds.Swr r no_swr) (is_of_no_kind kinds.Owr r no_owr)

    no_owner : is_owner r ≡ false
    no_owner = no_or (is_a kinds.Spu r || is_a kinds.Opu r || is_a kinds.Swr r) (is_a kinds.Owr r)
        (no_or (is_a kinds.Spu r || is_a kinds.Opu r) (is_a kinds.Swr r)
        (no_or (is_a kinds.Spu r) (is_a kinds.Opu r) spu (is_of_no_kind kinds.Opu r no_opu))
        (is_of_no_kind kinds.Swr r no_swr)) (is_of_no_kind kinds.Owr r no_owr)

    no_author : is_author r ≡ false
    no_author = ap (λ (b : Bool). b && names_author (cell_named "designation" r)) no_writer
