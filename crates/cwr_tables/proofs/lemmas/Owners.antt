-- The owners of a work among its first records, with one record more: their shares added up, and whether a name calls for quotes.
use Prim.Native.String.{String}
use Rattle.std.proofs.Common.{◌≡◌, ℕ, ◌+◌, Bool, true, false, cond, List, [], ◌∷◌, ◌++◌, take, refl, sym, ap, ap₂, ◌∙◌, arith}
use Rattle.std.proofs.Common.{append-nil}
use Rattle.std.specs.Prelude.{Option, None, Some, slice_get, codes, ◌&&◌, ◌||◌}
use Rattle.std.specs.List.{flat_map, join_by, list_all, list_any, sum_by}
use Rattle.std.proofs.lemmas.Bool.{and_parts}
use Rattle.std.proofs.lemmas.List.Elements.{filter-append}
use Rattle.std.proofs.lemmas.List.Folds.{list_all-append, list_any-append}
use Rattle.std.proofs.lemmas.List.Sums.{sum_by-append, sum_by-cons}
use Rattle.cwr_fields.specs.Format.Bytes.{is_spaces, number_of}
use Rattle.cwr_lines.specs.Format.Records.{RecordValue, cell_named}
use Rattle.cwr_findings.specs.Format.Findings.{is_blank, share_of}
use Rattle.cwr_findings.proofs.lemmas.NumberCells.{share_is_number}
use Rattle.cwr_findings.proofs.lemmas.OneMore.{take_more}
use Rattle.cwr_json.specs.declared.encodings.Encoding.{Encoding}
use Rattle.cwr_tables.specs.declared.works.Side.{Side}
use Rattle.cwr_tables.specs.declared.works.Sums.{Sums}
use Rattle.cwr_tables.specs.Format.Tables.{calls_for_quotes}
use Rattle.cwr_tables.specs.Format.WorkTables.{is_on, name_of_owner, owners, total}
use Rattle.cwr_tables.specs.Steps.WorkTexts.{both, name_needs_quotes, quotes, stated_share}

pub owners_more : (side : Side) (t : List RecordValue) (i : ℕ) (r : RecordValue) → Some r ≡ slice_get t i
    → owners side (take (i + 1) t) ≡ owners side (take i t) ++ cond (is_on side r) (r ∷ []) []
owners_more side t i r e = ap (owners side) (take_more t i r (sym e)) ∙ filter-append (is_on side) (take i t) (r ∷ [])

-- ---- shares

-- the share in a cell
pub share_in_cell : (right : String) (r : RecordValue) (share : Option ℕ) (cell : List ℕ)
    → share ≡ cond (is_spaces cell) None (Some (number_of cell)) → cell ≡ cell_named right r → share ≡ stated_share right r
share_in_cell right r share cell e named =
    e ∙ ap (λ (x : List ℕ). cond (is_spaces x) None (Some (number_of x))) named
    ∙ ap (λ (n : ℕ). cond (is_blank right r) None (Some n)) (share_is_number (cell_named right r))

no_share : (right : String) (r : RecordValue) → is_blank right r ≡ true → share_of right r ≡ 0
no_share right r h = ap (λ (b : Bool). cond b 0 (number_of (cell_named right r))) h

-- blank shares add up to nothing
no_shares : (right : String) (rs : List RecordValue) → list_all (is_blank right) rs ≡ true → sum_by (share_of right) rs ≡ 0
no_shares right [] h = refl
no_shares right (r ∷ rs) h =
    let parts = and_parts (is_blank right r) (list_all (is_blank right) rs) h in
    omega (arith, sum_by-cons (share_of right) r rs, no_share right r parts.0, no_shares right rs parts.1)

both_none : (o : Option ℕ) → both o None ≡ o
both_none None = refl
both_none (Some n) = refl

total_by : (a b : Bool) (s n : ℕ) → (a ≡ true → s ≡ 0) → (b ≡ true → n ≡ 0)
    → cond (a && (b && true)) None (Some (s + (0 + n))) ≡ both (cond a None (Some s)) (cond b None (Some n))
total_by true true s n before here = refl
total_by true false s n before here =
    let none : s ≡ 0 = before refl in
    let same : s + (0 + n) ≡ n = omega (arith, none) in ap Some same
total_by false true s n before here =
    let none : n ≡ 0 = here refl in
    let same : s + (0 + n) ≡ s = omega (arith, none) in ap Some same
total_by false false s n before here = let same : s + (0 + n) ≡ s + n = omega arith in ap Some same

total_if : (right : String) (rs : List RecordValue) (r : RecordValue) (b : Bool)
    → total right (rs ++ cond b (r ∷ []) []) ≡ both (total right rs) (cond b (stated_share right r) None)
total_if right rs r true =
    ap₂ (λ (blank : Bool) (n : ℕ). cond blank None (Some n)) (list_all-append (is_blank right) rs (r ∷ []))
    (sum_by-append (share_of right) rs (r ∷ []))
    ∙ total_by (list_all (is_blank right) rs) (is_blank right r) (sum_by (share_of right) rs) (share_of right r)
    (no_shares right rs) (no_share right r)
total_if right rs r false = ap (total right) (append-nil rs) ∙ sym (both_none (total right rs))

pub total_more : (right : String) (side : Side) (t : List RecordValue) (i : ℕ) (r : RecordValue) → Some r ≡ slice_get t i
    → total right (owners side (take (i + 1) t))
    ≡ both (total right (owners side (take i t))) (cond (is_on side r) (stated_share right r) None)
total_more right side t i r e =
    ap (total right) (owners_more side t i r e) ∙ total_if right (owners side (take i t)) r (is_on side r)

pub same_sums : (s : Sums) (a b c : Option ℕ) → s.performing ≡ a → s.mechanical ≡ b → s.synchronization ≡ c
    → s ≡ record { performing = a; mechanical = b; synchronization = c }
same_sums s a b c p q r = λ i. record { performing = p i; mechanical = q i; synchronization = r i }

-- ---- quotes

any_flat : {X : Type 0} (f : X → List ℕ) (xs : List X)
    → list_any calls_for_quotes (flat_map (λ y. codes "; " ++ f y) xs) ≡ list_any (λ y. list_any calls_for_quotes (f y)) xs
any_flat f [] = refl
any_flat f (x ∷ xs) =
    list_any-append calls_for_quotes (codes "; " ++ f x) (flat_map (λ y. codes "; " ++ f y) xs)
    ∙ ap (λ (b : Bool). list_any calls_for_quotes (f x) || b) (any_flat f xs)

any_joined : {X : Type 0} (f : X → List ℕ) (xs : List X)
    → list_any calls_for_quotes (join_by f (codes "; ") xs) ≡ list_any (λ y. list_any calls_for_quotes (f y)) xs
any_joined f [] = refl
any_joined f (x ∷ xs) =
    list_any-append calls_for_quotes (f x) (flat_map (λ y. codes "; " ++ f y) xs)
    ∙ ap (λ (b : Bool). list_any calls_for_quotes (f x) || b) (any_flat f xs)

abbrev name_quotes : Encoding → Side → RecordValue → Bool
name_quotes enc side r = list_any calls_for_quotes (name_of_owner enc side r)

or_false : (a : Bool) → (a || false) ≡ a
or_false true = refl
or_false false = refl

any_if : (p : RecordValue → Bool) (rs : List RecordValue) (r : RecordValue) (b : Bool)
    → list_any p (rs ++ cond b (r ∷ []) []) ≡ (list_any p rs || cond b (p r) false)
any_if p rs r true = list_any-append p rs (r ∷ []) ∙ ap (λ (b : Bool). list_any p rs || b) (or_false (p r))
any_if p rs r false = ap (list_any p) (append-nil rs) ∙ sym (or_false (list_any p rs))

pub quotes_more : (enc : Encoding) (side : Side) (t : List RecordValue) (i : ℕ) (r : RecordValue) → Some r ≡ slice_get t i
    → quotes enc side (take (i + 1) t) ≡ (quotes enc side (take i t) || name_needs_quotes enc side r)
quotes_more enc side t i r e =
    any_joined (name_of_owner enc side) (owners side (take (i + 1) t))
    ∙ ap (list_any (name_quotes enc side)) (owners_more side t i r e)
    ∙ any_if (name_quotes enc side) (owners side (take i t)) r (is_on side r)
    ∙ ap (λ (b : Bool). b || name_needs_quotes enc side r) (sym (any_joined (name_of_owner enc side) (owners side (take i t))))
