-- The shares of records, added up.
use Prim.Native.String.{String}
use Rattle.std.proofs.Common.{◌≡◌, ℕ, ◌+◌, ◌<◌, ◌≤◌, ◌^◌, Bool, true, cond, List, [], ◌∷◌, ◌++◌, length, refl, sym, ap, ◌∙◌}
use Rattle.std.proofs.Common.{arith, subst, inl, inr}
use Rattle.std.specs.Prelude.{min, filter, ◌||◌, ◌⊎◌}
use Rattle.std.specs.List.{sum_by}
use Rattle.std.proofs.lemmas.List.Sums.{sum_by-append}
use Rattle.std.specs.Str.{bytes_eq}
use Rattle.std.proofs.lemmas.List.{append-nil}
use Rattle.std.proofs.lemmas.List.Elements.{filter-append}
use Rattle.cwr_fields.specs.declared.kinds.Kind.{Kind}
use Rattle.cwr_fields.specs.declared.kinds.Kind.TheVariants as kinds
use Rattle.cwr_fields.specs.declared.codes.Role.{Role}
use Rattle.cwr_fields.specs.Format.Bytes.{number_of}
use Rattle.cwr_fields.specs.Format.Codes.{role_code}
use Rattle.cwr_lines.specs.Format.Records.{RecordValue, IsRecord, cell_named}
use Rattle.cwr_findings.specs.Format.Fields.{IsField}
use Rattle.cwr_findings.specs.Format.Findings.{share_of, is_owner, is_party, of_role}
use Rattle.cwr_findings.specs.declared.shares.Shares.{Shares}
use Rattle.cwr_findings.specs.Steps.Walks.{AddUpTo, capped, is_kind}
use Rattle.cwr_findings.proofs.lemmas.KindTests.{kind_of}
use Rattle.cwr_findings.proofs.lemmas.NamedCells.{named_cell, cell_width}
use Rattle.cwr_findings.proofs.lemmas.NumberCells.{share_is_number}
use Rattle.cwr_findings.proofs.lemmas.RuleFields.{role_of_ipa}
use Rattle.cwr_findings.proofs.lemmas.RuleTests.{cell_of_field}

-- a sum of capped sums, capped
pub capped_sum : (a b s m n : ℕ) → a ≡ capped s → b ≡ capped m → n ≡ min (a + b) 18446744073709551615 → n ≡ capped (s + m)
capped_sum a b s m n p q r = omega (arith, p, q, r)

pub nothing_more : (rs : List RecordValue) (s : Shares) → AddUpTo rs s → AddUpTo (rs ++ []) s
nothing_more rs s h = subst (λ (l : List RecordValue). AddUpTo l s) (sym (append-nil rs)) h

-- the kinds of owners
abbrev pub can_own : Kind → Bool
can_own kind = is_kind kinds.Spu kind || is_kind kinds.Opu kind || is_kind kinds.Swr kind || is_kind kinds.Owr kind

pub only_writer : (this_kind : Kind) → can_own this_kind ≡ true → (this_kind ≡ kinds.Spu → ⊥) → (this_kind ≡ kinds.Opu → ⊥)
    → (this_kind ≡ kinds.Swr) ⊎ (this_kind ≡ kinds.Owr)
only_writer kinds.Swr h spu opu = inl refl
only_writer kinds.Owr h spu opu = inr refl
only_writer kinds.Spu h spu opu = absurd (spu refl)
only_writer kinds.Opu h spu opu = absurd (opu refl)
only_writer this_kind h spu opu = absurd (cc h)

-- ---- one record

pub share_is_five : (right : String) (r : RecordValue) (j : ℕ) (cell : List ℕ) → cell ≡ cell_of_field r j
    → IsField right r.kind j 5 → IsRecord r → length cell ≡ 5
share_is_five right r j cell e field fits = omega (arith, ap length e, cell_width right r.kind j 5 r field refl fits)

pub share_is_short : (right : String) (r : RecordValue) (j : ℕ) (cell : List ℕ) → cell ≡ cell_of_field r j
    → IsField right r.kind j 5 → IsRecord r → length cell ≤ 8
share_is_short right r j cell e field fits = omega (arith, share_is_five right r j cell e field fits)

capped_one : (x y : ℕ) → x ≡ y → x < 10 ^ 10 → x ≡ capped (0 + y)
capped_one x y e small = omega (arith, e, small)

pub one_share : (right : String) (r : RecordValue) (j : ℕ) (cell : List ℕ) (x : ℕ) → cell ≡ cell_of_field r j
    → IsField right r.kind j 5 → IsRecord r → x ≡ number_of cell → x < 10 ^ 10
    → x ≡ capped (sum_by (share_of right) (r ∷ []))
one_share right r j cell x e field fits number small =
    capped_one x (share_of right r)
    (number ∙ ap number_of (e ∙ named_cell right r.kind j 5 r field refl fits) ∙ share_is_number (cell_named right r)) small

-- with the shares of more records
pub share_more : (right : String) (rs : List RecordValue) (r : RecordValue) (a b n : ℕ) → a ≡ capped (sum_by (share_of right) rs)
    → b ≡ capped (sum_by (share_of right) (r ∷ []))
    → n ≡ min (a + b) 18446744073709551615 → n ≡ capped (sum_by (share_of right) (rs ++ r ∷ []))
share_more right rs r a b n p q e =
    capped_sum a b (sum_by (share_of right) rs) (sum_by (share_of right) (r ∷ [])) n p q e
    ∙ sym (ap capped (sum_by-append (share_of right) rs (r ∷ [])))

-- ---- parties

pub role_more : (role : Role) (rs : List RecordValue) (r : RecordValue) (s : Shares) (cell : List ℕ) (b : Bool)
    → cell ≡ cell_of_field r 4 → is_party r ≡ true → IsRecord r → b ≡ bytes_eq cell (role_code role)
    → AddUpTo (of_role role rs ++ cond b (r ∷ []) []) s → AddUpTo (of_role role (rs ++ r ∷ [])) s
role_more role rs r s cell b e party fits same h =
    let test : b ≡ bytes_eq (cell_named "agreement role" r) (role_code role) =
    same ∙ ap (λ (text : List ℕ). bytes_eq text (role_code role))
    (e ∙ named_cell "agreement role" kinds.Ipa 4 2 r role_of_ipa (kind_of kinds.Ipa r party) fits) in
    subst (λ (l : List RecordValue). AddUpTo l s)
    (ap (λ (c : Bool). of_role role rs ++ cond c (r ∷ []) []) test
    ∙ sym (filter-append (λ x. bytes_eq (cell_named "agreement role" x) (role_code role)) rs (r ∷ []))) h

-- ---- owners

pub owners_more : (rs : List RecordValue) (r : RecordValue) (s : Shares) (b : Bool) → b ≡ is_owner r
    → AddUpTo (filter is_owner rs ++ cond b (r ∷ []) []) s → AddUpTo (filter is_owner (rs ++ r ∷ [])) s
owners_more rs r s b e h =
    subst (λ (l : List RecordValue). AddUpTo l s)
    (ap (λ (c : Bool). filter is_owner rs ++ cond c (r ∷ []) []) e ∙ sym (filter-append is_owner rs (r ∷ []))) h
