-- The names of the owners among the first records, with one record more.
use Rattle.std.proofs.Common.{◌≡◌, ℕ, ◌+◌, Bool, true, false, cond, List, [], ◌∷◌, ◌++◌, take, refl, sym, ap, ◌∙◌}
use Rattle.std.proofs.Common.{append_assoc, append-nil}
use Rattle.std.specs.Prelude.{Some, slice_get, codes, ◌||◌}
use Rattle.std.specs.List.{flat_map, join_by, list_any}
use Rattle.std.proofs.lemmas.Grind.{flat_map-append}
use Rattle.std.proofs.lemmas.List.Folds.{list_any-append}
use Rattle.cwr_lines.specs.Format.Records.{RecordValue}
use Rattle.cwr_findings.proofs.lemmas.OneMore.{take_more}
use Rattle.cwr_json.specs.declared.encodings.Encoding.{Encoding}
use Rattle.cwr_tables.specs.declared.works.Side.{Side}
use Rattle.cwr_tables.specs.Format.Tables.{doubled}
use Rattle.cwr_tables.specs.Format.WorkTables.{is_on, name_of_owner, names, owners}
use Rattle.cwr_tables.specs.Steps.WorkTexts.{between, has_owners, owner_text, within}
use Rattle.cwr_tables.proofs.lemmas.Owners.{owners_more}

abbrev semicolon : List ℕ
semicolon = codes "; "

abbrev has_some : {X : Type 0} → List X → Bool
has_some [] = false
has_some (x ∷ xs) = true

join_more : {X : Type 0} (f : X → List ℕ) (xs : List X) (x : X)
    → join_by f semicolon (xs ++ x ∷ []) ≡ join_by f semicolon xs ++ (between (has_some xs) ++ f x)
join_more f [] x = append-nil (f x)
join_more f (y ∷ ys) x =
    let g : _ → List ℕ = λ z. semicolon ++ f z in
    ap (λ (l : List ℕ). f y ++ l) (flat_map-append g ys (x ∷ []) ∙ ap (λ (l : List ℕ). flat_map g ys ++ l) (append-nil (g x)))
    ∙ sym (append_assoc (f y) (flat_map g ys) (g x))

within-append : (quoted : Bool) (a b : List ℕ) → within quoted (a ++ b) ≡ within quoted a ++ within quoted b
within-append true a b = flat_map-append doubled a b
within-append false a b = refl

-- two parts with a space between them
pub within_both : (quoted : Bool) (a b : List ℕ)
    → (within quoted a ++ codes " ") ++ within quoted b ≡ within quoted (a ++ (codes " " ++ b))
within_both true a b =
    append_assoc (within true a) (codes " ") (within true b) ∙ sym (flat_map-append doubled a (codes " " ++ b))
within_both false a b = append_assoc a (codes " ") b

within_between : (quoted later : Bool) → within quoted (between later) ≡ between later
within_between true true = refl
within_between true false = refl
within_between false true = refl
within_between false false = refl

some_if : {X : Type 0} (b : Bool) (x : X) (xs : List X) (c : Bool) → has_some xs ≡ c → has_some (cond b (x ∷ xs) xs) ≡ (b || c)
some_if true x xs c h = refl
some_if false x xs c h = h

some_owners : (side : Side) (t : List RecordValue) → has_some (owners side t) ≡ has_owners side t
some_owners side [] = refl
some_owners side (r ∷ t) = some_if (is_on side r) r (owners side t) (has_owners side t) (some_owners side t)

-- ---- with one record more

text_more : (enc : Encoding) (side : Side) (quoted : Bool) (r : RecordValue) (before : List RecordValue) (later b : Bool) → has_some before ≡ later
    → within quoted (join_by (name_of_owner enc side) semicolon (before ++ cond b (r ∷ []) []))
    ≡ within quoted (join_by (name_of_owner enc side) semicolon before)
    ++ cond b (between later ++ within quoted (name_of_owner enc side r)) []
text_more enc side quoted r before later true h =
    ap (within quoted) (join_more (name_of_owner enc side) before r)
    ∙ within-append quoted (join_by (name_of_owner enc side) semicolon before) (between (has_some before) ++ name_of_owner enc side r)
    ∙ ap (λ (l : List ℕ). within quoted (join_by (name_of_owner enc side) semicolon before) ++ l)
    (within-append quoted (between (has_some before)) (name_of_owner enc side r)
    ∙ ap (λ (l : List ℕ). l ++ within quoted (name_of_owner enc side r)) (within_between quoted (has_some before) ∙ ap between h))
text_more enc side quoted r before later false h =
    ap (λ (l : List RecordValue). within quoted (join_by (name_of_owner enc side) semicolon l)) (append-nil before)
    ∙ sym (append-nil (within quoted (join_by (name_of_owner enc side) semicolon before)))

pub names_more : (enc : Encoding) (side : Side) (quoted later : Bool) (t : List RecordValue) (i : ℕ) (r : RecordValue) → Some r ≡ slice_get t i
    → later ≡ has_owners side (take i t)
    → within quoted (names enc side (take (i + 1) t)) ≡ within quoted (names enc side (take i t)) ++ owner_text enc side quoted later r
names_more enc side quoted later t i r e h =
    ap (λ (l : List RecordValue). within quoted (join_by (name_of_owner enc side) semicolon l)) (owners_more side t i r e)
    ∙ text_more enc side quoted r (owners side (take i t)) later (is_on side r) (some_owners side (take i t) ∙ sym h)

or_false : (a : Bool) → (a || false) ≡ a
or_false true = refl
or_false false = refl

pub has_owners_more : (side : Side) (t : List RecordValue) (i : ℕ) (r : RecordValue) → Some r ≡ slice_get t i
    → has_owners side (take (i + 1) t) ≡ (has_owners side (take i t) || is_on side r)
has_owners_more side t i r e =
    ap (list_any (is_on side)) (take_more t i r (sym e)) ∙ list_any-append (is_on side) (take i t) (r ∷ [])
    ∙ ap (λ (b : Bool). has_owners side (take i t) || b) (or_false (is_on side r))

-- no records have no names
pub names_none : (enc : Encoding) (side : Side) (quoted : Bool) → within quoted (names enc side []) ≡ []
names_none enc side true = refl
names_none enc side false = refl
