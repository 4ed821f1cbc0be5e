-- What is shown of a record is data of that record.
use Rattle.std.proofs.Common.{◌≡◌, ℕ, ◌-◌, Bool, true, false, not, cond, ◌&&◌, List, [], ◌∷◌, ◌++◌, length, replicate, Option}
use Rattle.std.proofs.Common.{Some, None, refl, sym, ap, ap₂, subst, ◌∙◌, arith, true≢false}
use Rattle.std.specs.Prelude.{◌==◌}
use Rattle.std.specs.List.{AllZip, list_all, list_any}
use Rattle.std.specs.Str.{bytes_eq}
use Rattle.std.proofs.lemmas.Bool.{and_parts, eqb-true, not-true, or_parts, or_from, or_left, or_right}
use Rattle.std.proofs.lemmas.List.{length-append, length-replicate}
use Rattle.std.proofs.lemmas.Slice.Eq.{bytes_eq-Decides}
use Rattle.json.specs.Json.{Json, string, Members, member}
use Rattle.json.specs.Strict.{keys}
use Rattle.cwr_fields.specs.declared.cell_types.CellType.{CellType}
use Rattle.cwr_fields.specs.declared.cell_types.CellType.TheVariants.{Constant}
use Rattle.cwr_fields.specs.declared.cell_types.Word.{Word}
use Rattle.cwr_fields.specs.declared.cell_types.Word.TheVariants as words
use Rattle.cwr_fields.specs.Format.Bytes.{filled, is_spaces, trimmed}
use Rattle.cwr_fields.specs.Format.Codes.{word_text}
use Rattle.cwr_fields.specs.Format.Cells.{Allows}
use Rattle.cwr_fields.specs.Format.Kinds.{letters}
use Rattle.cwr_fields.specs.Format.Layouts.{FieldLayout}
use Rattle.cwr_lines.specs.Format.Records.{RecordValue, IsCellOf, IsRecord, blank_cell, carried_fields}
use Rattle.cwr_fields.proofs.lemmas.TrimmedTexts.{spaces_after}
use Rattle.cwr_json.specs.declared.encodings.Encoding.{Encoding}
use Rattle.cwr_json.specs.Format.Encodings.{characters}
use Rattle.cwr_json.specs.Format.Forms.{key_of, kind_key, with_cell, cell_members, record_members, is_note, told, first_of}
use Rattle.cwr_json.specs.Format.Forms.{is_known, are_distinct, IsCellFrom, IsDataOf}
use Rattle.cwr_json.proofs.lemmas.Encoded.{read_back}
use Rattle.cwr_json.proofs.lemmas.FieldsShown.{length-trimmed-le}
use Rattle.cwr_json.proofs.lemmas.GoodKeys.{keys_of, is_told, good_keys}

-- ---- tests

pub same_bytes : (xs : List ℕ) → bytes_eq xs xs ≡ true
same_bytes xs = (bytes_eq-Decides xs xs).1 refl

pub bytes_same : (xs ys : List ℕ) → bytes_eq xs ys ≡ true → xs ≡ ys
bytes_same xs ys e = (bytes_eq-Decides xs ys).0 e

-- a key that is among others isn't one that isn't
pub apart : (k l : List ℕ) (ks : List (List ℕ)) → list_any (bytes_eq k) ks ≡ true → list_any (bytes_eq l) ks ≡ false
    → bytes_eq k l ≡ false
apart k l ks there away = by (bytes_eq k l) refl
  where
    by : (b : Bool) → bytes_eq k l ≡ b → b ≡ false
    by false e = refl
    by true e = absurd (true≢false (sym there ∙ ap (λ (x : List ℕ). list_any (bytes_eq x) ks) (bytes_same k l e) ∙ away))

-- ---- the members of cells

abbrev value_of : Encoding → List ℕ → Json
value_of enc cell = string (characters enc (trimmed cell))

-- a blank cell is no member
cell_cases : (enc : Encoding) (P : Members → Type 0) (f : FieldLayout) (cell : List ℕ) (more : Members) → P more
    → P (member (key_of f.name) (value_of enc cell) more) → P (with_cell enc f cell more)
cell_cases enc P f cell more blank shown = by (is_spaces cell)
  where
    by : (b : Bool) → P (cond b more (member (key_of f.name) (value_of enc cell) more))
    by true = blank
    by false = shown

-- each of them says something
pub told_text : (k s : List ℕ) (more : Members) → not (is_note k) ≡ true
    → told (member k (string s) more) ≡ member k (string s) (told more)
unfolding told
told_text k s more t = ap (λ (b : Bool). cond b (member k (string s) (told more)) (told more)) t

told_cells : (enc : Encoding) (fields : List FieldLayout) (cells : List (List ℕ)) → list_all is_told fields ≡ true
    → told (cell_members enc fields cells) ≡ cell_members enc fields cells
unfolding told cell_members
told_cells enc [] cells h = refl
told_cells enc (f ∷ fields) [] h = refl
told_cells enc (f ∷ fields) (cell ∷ cells) h =
    let parts = and_parts (is_told f) (list_all is_told fields) h in
    let more : Members = cell_members enc fields cells in
    let ih : told more ≡ more = told_cells enc fields cells parts.1 in
    cell_cases enc (λ (ms : Members). told ms ≡ ms) f cell more ih
    (told_text (key_of f.name) (characters enc (trimmed cell)) more parts.0
    ∙ ap (λ (ms : Members). member (key_of f.name) (value_of enc cell) ms) ih)

all_keys : (enc : Encoding) (p : List ℕ → Bool) (fields : List FieldLayout) (cells : List (List ℕ))
    → list_all (λ f. p (key_of f.name)) fields ≡ true → list_all p (keys (cell_members enc fields cells)) ≡ true
unfolding cell_members
all_keys enc p [] cells h = refl
all_keys enc p (f ∷ fields) [] h = refl
all_keys enc p (f ∷ fields) (cell ∷ cells) h =
    let parts = and_parts (p (key_of f.name)) (list_all (λ g. p (key_of g.name)) fields) h in
    let ih : list_all p (keys (cell_members enc fields cells)) ≡ true = all_keys enc p fields cells parts.1 in
    cell_cases enc (λ (ms : Members). list_all p (keys ms) ≡ true) f cell (cell_members enc fields cells) ih
    (ap₂ (λ (x y : Bool). x && y) parts.0 ih)

none_keys : (enc : Encoding) (p : List ℕ → Bool) (fields : List FieldLayout) (cells : List (List ℕ))
    → list_any p (keys_of fields) ≡ false → list_any p (keys (cell_members enc fields cells)) ≡ false
unfolding cell_members
none_keys enc p [] cells h = refl
none_keys enc p (f ∷ fields) [] h = refl
none_keys enc p (f ∷ fields) (cell ∷ cells) h =
    let parts = or_parts (p (key_of f.name)) (list_any p (keys_of fields)) h in
    let ih : list_any p (keys (cell_members enc fields cells)) ≡ false = none_keys enc p fields cells parts.1 in
    cell_cases enc (λ (ms : Members). list_any p (keys ms) ≡ false) f cell (cell_members enc fields cells) ih
    (or_from (p (key_of f.name)) (list_any p (keys (cell_members enc fields cells))) parts.0 ih)

distinct_keys : (enc : Encoding) (fields : List FieldLayout) (cells : List (List ℕ)) → are_distinct (keys_of fields) ≡ true
    → are_distinct (keys (cell_members enc fields cells)) ≡ true
unfolding cell_members
distinct_keys enc [] cells h = refl
distinct_keys enc (f ∷ fields) [] h = refl
distinct_keys enc (f ∷ fields) (cell ∷ cells) h =
    let parts = and_parts (not (list_any (bytes_eq (key_of f.name)) (keys_of fields))) (are_distinct (keys_of fields)) h in
    let ih : are_distinct (keys (cell_members enc fields cells)) ≡ true = distinct_keys enc fields cells parts.1 in
    let none : list_any (bytes_eq (key_of f.name)) (keys (cell_members enc fields cells)) ≡ false =
    none_keys enc (bytes_eq (key_of f.name)) fields cells (not-true _ parts.0) in
    cell_cases enc (λ (ms : Members). are_distinct (keys ms) ≡ true) f cell (cell_members enc fields cells) ih
    (ap₂ (λ (x y : Bool). not x && y) none ih)

-- ---- the member of a key

first_none : (enc : Encoding) (k : List ℕ) (fields : List FieldLayout) (cells : List (List ℕ))
    → list_any (bytes_eq k) (keys_of fields) ≡ false → first_of k (cell_members enc fields cells) ≡ None
unfolding first_of cell_members
first_none enc k [] cells h = refl
first_none enc k (f ∷ fields) [] h = refl
first_none enc k (f ∷ fields) (cell ∷ cells) h =
    let parts = or_parts (bytes_eq k (key_of f.name)) (list_any (bytes_eq k) (keys_of fields)) h in
    let more : Members = cell_members enc fields cells in
    let ih : first_of k more ≡ None = first_none enc k fields cells parts.1 in
    cell_cases enc (λ (ms : Members). first_of k ms ≡ None) f cell more ih
    (ap (λ (b : Bool). cond b (Some (value_of enc cell)) (first_of k more)) parts.0 ∙ ih)

-- of its own cell
abbrev shown_of : Encoding → List ℕ → Option Json
shown_of enc cell = cond (is_spaces cell) None (Some (value_of enc cell))

own_member : (b : Bool) (k : List ℕ) (j : Json) (more : Members) → first_of k more ≡ None
    → first_of k (cond b more (member k j more)) ≡ cond b None (Some j)
unfolding first_of
own_member true k j more e = e
own_member false k j more e = ap (λ (b : Bool). cond b (Some j) (first_of k more)) (same_bytes k)

other_member : (k l : List ℕ) (j : Json) (more : Members) → bytes_eq k l ≡ false → first_of k (member l j more) ≡ first_of k more
unfolding first_of
other_member k l j more e = ap (λ (b : Bool). cond b (Some j) (first_of k more)) e

-- ---- a cell from what is shown of it

spaces_are : (cell : List ℕ) → is_spaces cell ≡ true → cell ≡ replicate (length cell) 32
spaces_are [] h = refl
spaces_are (b ∷ cell) h =
    let parts = and_parts (b == 32) (is_spaces cell) h in
    ap₂ (λ (x : ℕ) (l : List ℕ). x ∷ l) (eqb-true b 32 parts.0) (spaces_are cell parts.1)

word_shown : (word : Word) → is_spaces (word_text word) ≡ true → ⊥
word_shown words.Edi e = true≢false (sym e)
word_shown words.Group e = true≢false (sym e)

blank_again : (ty : CellType) (width : ℕ) (cell : List ℕ) → length cell ≡ width → Allows ty cell → is_spaces cell ≡ true
    → cell ≡ blank_cell ty width
blank_again (Constant word) width cell l h e = absurd (word_shown word (sym (ap is_spaces h) ∙ e))
blank_again ty width cell l h e = spaces_are cell e ∙ ap (λ (n : ℕ). replicate n 32) l

whole_again : (width : ℕ) (cell : List ℕ) → length cell ≡ width → cell ≡ filled width (trimmed cell)
whole_again width cell l =
    let p = spaces_after cell in
    let count : p.0 ≡ width - length (trimmed cell) =
    omega (arith, ap length p.1, length-append (trimmed cell) (replicate p.0 32), length-replicate {A = ℕ} p.0 32) in
    p.1 ∙ ap (λ (n : ℕ). trimmed cell ++ replicate n 32) count

from_shown : (enc : Encoding) (f : FieldLayout) (cell : List ℕ) → IsCellOf f cell → IsCellFrom enc f (shown_of enc cell) cell
from_shown enc f cell h = by (is_spaces cell) refl
  where
    by : (b : Bool) → is_spaces cell ≡ b → IsCellFrom enc f (cond b None (Some (value_of enc cell))) cell
    by true e = blank_again f.ty f.width cell h.0 h.1 e
    by false e =
        (trimmed cell, read_back enc (trimmed cell), omega (arith, length-trimmed-le cell, h.0), whole_again f.width cell h.0)

-- members in which each key of the fields has the value that it has among those of the cells
own_cells : (enc : Encoding) (ms : Members) (fields : List FieldLayout) (cells : List (List ℕ))
    → are_distinct (keys_of fields) ≡ true
    → ((k : List ℕ) → list_any (bytes_eq k) (keys_of fields) ≡ true → first_of k ms ≡ first_of k (cell_members enc fields cells))
    → AllZip IsCellOf fields cells
    → AllZip (λ f cell. IsCellFrom enc f (first_of (key_of f.name) ms) cell) fields cells
unfolding cell_members
own_cells enc ms [] [] d same h = tt
own_cells enc ms [] (cell ∷ cells) d same h = absurd h
own_cells enc ms (f ∷ fields) [] d same h = absurd h
own_cells enc ms (f ∷ fields) (cell ∷ cells) d same h =
    let parts = and_parts (not (list_any (bytes_eq (key_of f.name)) (keys_of fields))) (are_distinct (keys_of fields)) d in
    let away : list_any (bytes_eq (key_of f.name)) (keys_of fields) ≡ false = not-true _ parts.0 in
    let more : Members = cell_members enc fields cells in
    let here : first_of (key_of f.name) ms ≡ shown_of enc cell =
    same (key_of f.name) (or_left (bytes_eq (key_of f.name) (key_of f.name)) _ (same_bytes (key_of f.name)))
    ∙ own_member (is_spaces cell) (key_of f.name) (value_of enc cell) more (first_none enc (key_of f.name) fields cells away) in
    let later : (k : List ℕ) → list_any (bytes_eq k) (keys_of fields) ≡ true → first_of k ms ≡ first_of k more = λ k there.
    same k (or_right (bytes_eq k (key_of f.name)) _ there)
    ∙ cell_cases enc (λ (ns : Members). first_of k ns ≡ first_of k more) f cell more refl
    (other_member k (key_of f.name) (value_of enc cell) more (apart k (key_of f.name) (keys_of fields) there away)) in (
      subst (λ (o : Option Json). IsCellFrom enc f o cell) (sym here) (from_shown enc f cell h.0),
      own_cells enc ms fields cells parts.1 later h.1,
    )

-- ---- a record

kind_first : (j : Json) (more : Members) → first_of kind_key (member kind_key j more) ≡ Some j
unfolding first_of
kind_first j more = refl

pub own_data : (enc : Encoding) (r : RecordValue) → IsRecord r → IsDataOf enc (told (record_members enc r)) r
own_data enc r h =
    let g = good_keys r.kind in
    let fields : List FieldLayout = carried_fields r.kind in
    let more : Members = cell_members enc fields r.cells in
    let parts = and_parts (not (list_any (bytes_eq kind_key) (keys_of fields))) (are_distinct (keys_of fields)) g.distinct in
    let away : list_any (bytes_eq kind_key) (keys_of fields) ≡ false = not-true _ parts.0 in
    let whole : told (record_members enc r) ≡ record_members enc r =
    told_text kind_key (letters r.kind) more refl
    ∙ ap (λ (ms : Members). member kind_key (string (letters r.kind)) ms) (told_cells enc fields r.cells g.told) in
    let data_of : IsDataOf enc (record_members enc r) r = record {
      kind = kind_first (string (letters r.kind)) more;
      known = all_keys enc (is_known r.kind) fields r.cells g.known;
      once =
          ap₂ (λ (x y : Bool). not x && y) (none_keys enc (bytes_eq kind_key) fields r.cells away)
          (distinct_keys enc fields r.cells parts.1);
      cells =
          own_cells enc (record_members enc r) fields r.cells parts.1
          (λ k there. other_member k kind_key (string (letters r.kind)) more (apart k kind_key (keys_of fields) there away)) h;
      fits = h;
    } in
    subst (λ (ms : Members). IsDataOf enc ms r) (sym whole) data_of
