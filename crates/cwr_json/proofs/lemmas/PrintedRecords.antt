-- The text of records is their data, printed.
use Rattle.std.proofs.Common.{◌≡◌, ℕ, zero, suc, ◌+◌, ◌<◌, ◌≤◌, Bool, true, false, not, cond, List, [], ◌∷◌, ◌++◌, filter, refl}
use Rattle.std.proofs.Common.{sym, ap, ap₂, ◌∙◌, arith, lit≤, append_assoc}
use Rattle.std.specs.Prelude.{◌&&◌, nat_le, nat_eq, codes, max}
use Rattle.std.specs.List.{list_all}
use Rattle.std.proofs.lemmas.Bool.{and_parts, not-true, eqb-false, leb-true}
use Rattle.json.specs.Token.{Token}
use Rattle.json.specs.Json.{string, object, Members, member}
use Rattle.json.specs.Tree.{json_tokens, members_tokens, items_tokens, depth, members_depth, items_depth, HasNumbers}
use Rattle.json.specs.Tree.{MembersHaveNumbers, ItemsHaveNumbers}
use Rattle.json.specs.Print.{escape, escape_byte, print_from}
use Rattle.json.proofs.Printed.Strings.{escape_byte_plain}
use Rattle.cwr_fields.specs.Format.Bytes.{is_spaces, trimmed}
use Rattle.cwr_fields.specs.declared.kinds.Kind.{Kind}
use Rattle.cwr_fields.specs.declared.kinds.Kind.TheVariants.{Hdr}
use Rattle.cwr_fields.specs.Format.Kinds.{letters}
use Rattle.cwr_fields.specs.Format.Layouts.{FieldLayout, layout}
use Rattle.cwr_lines.specs.Format.Records.{RecordValue, carried_fields}
use Rattle.cwr_json.specs.declared.encodings.Encoding.{Encoding}
use Rattle.cwr_json.specs.Format.Encodings.{characters}
use Rattle.cwr_json.specs.Format.Forms.{key_of, cell_members, record_members, records_items}
use Rattle.cwr_json.specs.Steps.FormTexts.{spelled, members_beside, member_texts, record_text, listed_text, listed_texts}

-- ---- what stands for itself

abbrev is_simple : ℕ → Bool
is_simple b = nat_le 32 b && (not (nat_eq b 34) && not (nat_eq b 92))

escape_simple : (text : List ℕ) → list_all is_simple text ≡ true → escape text ≡ text
escape_simple [] h = refl
escape_simple (b ∷ text) h =
    let parts = and_parts (is_simple b) (list_all is_simple text) h in
    let low = and_parts (nat_le 32 b) (not (nat_eq b 34) && not (nat_eq b 92)) parts.0 in
    let marks = and_parts (not (nat_eq b 34)) (not (nat_eq b 92)) low.1 in
    ap₂ (λ (k l : List ℕ). k ++ l) (escape_byte_plain b (eqb-false b 34 (not-true (nat_eq b 34) marks.0))
    (eqb-false b 92 (not-true (nat_eq b 92) marks.1)) (leb-true 32 b low.0)) (escape_simple text parts.1)

-- the keys of a kind's fields, and the letters of the kind
abbrev has_simple_key : FieldLayout → Bool
has_simple_key f = list_all is_simple (key_of f.name)

abbrev is_simple_kind : Kind → Bool
is_simple_kind kind = list_all is_simple (letters kind) && list_all has_simple_key (layout kind)

simple_kind : (kind : Kind) → is_simple_kind kind ≡ true
simple_kind Hdr = refl
simple_kind this_kind = refl

carried_pass : (p : FieldLayout → Bool) (fields : List FieldLayout) → list_all p fields ≡ true
    → list_all p (filter (λ f. not f.derived) fields) ≡ true
carried_pass p [] h = refl
carried_pass p (f ∷ fields) h =
    let parts = and_parts (p f) (list_all p fields) h in kept f.derived (carried_pass p fields parts.1) parts.0
  where
    kept : (b : Bool) → list_all p (filter (λ g. not g.derived) fields) ≡ true → p f ≡ true
        → list_all p (cond (not b) (f ∷ filter (λ g. not g.derived) fields) (filter (λ g. not g.derived) fields)) ≡ true
    kept true rest here = rest
    kept false rest here = ap₂ (λ (x y : Bool). x && y) here rest

-- ---- members

member_case : (b : Bool) (k s key value : List ℕ) (more : Members) (rest : List Token) (others after : List ℕ) → escape k ≡ key
    → escape s ≡ value
    → print_from true (members_tokens more ++ rest) ≡ others ++ after
    → print_from true (members_tokens (cond b more (member k (string s) more)) ++ rest)
    ≡ (cond b [] (44 ∷ 34 ∷ (((key ++ 34 ∷ 58 ∷ 34 ∷ []) ++ value) ++ 34 ∷ [])) ++ others) ++ after
unfolding print_from
member_case true k s key value more rest others after ek es ih = ih
member_case false k s key value more rest others after ek es ih =
    let written : List ℕ → List ℕ → List ℕ → List ℕ =
    λ x y l. 44 ∷ 34 ∷ (((x ++ 34 ∷ []) ++ 58 ∷ []) ++ (34 ∷ ((y ++ 34 ∷ []) ++ l))) in
    let more_text : List ℕ = others ++ after in
    let tail : List ℕ = 34 ∷ ((value ++ 34 ∷ []) ++ more_text) in
    let marks : List ℕ = 34 ∷ 58 ∷ 34 ∷ [] in
    ap₂ (λ (x y : List ℕ). written x y (print_from true (members_tokens more ++ rest))) ek es
    ∙ ap (λ (l : List ℕ). written key value l) ih
    ∙ ap (λ (l : List ℕ). 44 ∷ 34 ∷ l) (append_assoc (key ++ 34 ∷ []) (58 ∷ []) tail ∙ append_assoc key (34 ∷ []) (58 ∷ tail)
    ∙ ap (λ (l : List ℕ). key ++ (34 ∷ 58 ∷ 34 ∷ l)) (append_assoc value (34 ∷ []) more_text)
    ∙ sym (append_assoc ((key ++ marks) ++ value) (34 ∷ []) more_text ∙ append_assoc (key ++ marks) value (34 ∷ more_text)
    ∙ append_assoc key marks (value ++ 34 ∷ more_text)))
    ∙ sym (append_assoc (44 ∷ 34 ∷ (((key ++ marks) ++ value) ++ 34 ∷ [])) others after)

members_printed : (enc : Encoding) (fields : List FieldLayout) (cells : List (List ℕ)) (rest : List Token)
    → list_all has_simple_key fields ≡ true
    → print_from true (members_tokens (cell_members enc fields cells) ++ rest)
    ≡ members_beside enc fields cells ++ (125 ∷ print_from true rest)
unfolding cell_members print_from
members_printed enc [] cells rest h = refl
members_printed enc (f ∷ fields) [] rest h = refl
members_printed enc (f ∷ fields) (cell ∷ cells) rest h =
    let parts = and_parts (has_simple_key f) (list_all has_simple_key fields) h in
    member_case (is_spaces cell) (key_of f.name) (characters enc (trimmed cell)) (key_of f.name) (spelled enc (trimmed cell))
    (cell_members enc fields cells) rest (members_beside enc fields cells) (125 ∷ print_from true rest)
    (escape_simple (key_of f.name) parts.0) refl (members_printed enc fields cells rest parts.1)

-- ---- a record, wherever a value may stand

pub record_printed : (enc : Encoding) (r : RecordValue) (rest : List Token)
    → print_from false (json_tokens (object (record_members enc r)) ++ rest) ≡ record_text enc r ++ print_from true rest
unfolding member_texts print_from escape_byte
record_printed enc r rest =
    let simple = and_parts (list_all is_simple (letters r.kind)) (list_all has_simple_key (layout r.kind)) (simple_kind r.kind) in
    let name : escape (letters r.kind) ≡ letters r.kind = escape_simple (letters r.kind) simple.0 in
    let others : List ℕ = members_beside enc (carried_fields r.kind) r.cells in
    let after : List ℕ = 125 ∷ print_from true rest in
    let ih = members_printed enc (carried_fields r.kind) r.cells rest (carried_pass has_simple_key (layout r.kind) simple.1) in
    ap₂ (λ (x l : List ℕ). codes "{\"record_type\":\"" ++ ((x ++ 34 ∷ []) ++ l)) name ih
    ∙ sym (append_assoc (codes "{\"record_type\":\"" ++ (letters r.kind ++ 34 ∷ [])) others after)
    ∙ sym
    (append_assoc ((codes "{\"record_type\":\"" ++ (letters r.kind ++ 34 ∷ [])) ++ others) (125 ∷ []) (print_from true rest))

-- ---- it reads back

cells_numbers : (enc : Encoding) (fields : List FieldLayout) (cells : List (List ℕ))
    → MembersHaveNumbers (cell_members enc fields cells)
unfolding cell_members
cells_numbers enc [] cells = tt
cells_numbers enc (f ∷ fields) [] = tt
cells_numbers enc (f ∷ fields) (cell ∷ cells) =
    either (is_spaces cell) (cell_members enc fields cells) (cells_numbers enc fields cells)
  where
    either : (b : Bool) (more : Members) → MembersHaveNumbers more
        → MembersHaveNumbers (cond b more (member (key_of f.name) (string (characters enc (trimmed cell))) more))
    either true more h = h
    either false more h = (tt, h)

cells_flat : (enc : Encoding) (fields : List FieldLayout) (cells : List (List ℕ))
    → members_depth (cell_members enc fields cells) ≡ 0
unfolding cell_members
cells_flat enc [] cells = refl
cells_flat enc (f ∷ fields) [] = refl
cells_flat enc (f ∷ fields) (cell ∷ cells) = either (is_spaces cell) (cell_members enc fields cells) (cells_flat enc fields cells)
  where
    either : (b : Bool) (more : Members) → members_depth more ≡ 0
        → members_depth (cond b more (member (key_of f.name) (string (characters enc (trimmed cell))) more)) ≡ 0
    either true more h = h
    either false more h = ap (λ (n : ℕ). max 0 n) h

pub record_flat : (enc : Encoding) (r : RecordValue) → depth (object (record_members enc r)) ≡ 1
record_flat enc r = ap (λ (n : ℕ). suc (max 0 n)) (cells_flat enc (carried_fields r.kind) r.cells)

pub record_numbers : (enc : Encoding) (r : RecordValue) → HasNumbers (object (record_members enc r))
record_numbers enc r = (tt, cells_numbers enc (carried_fields r.kind) r.cells)

-- ---- an item

pub listed_later : (enc : Encoding) (n : ℕ) (r : RecordValue) → 0 < n → listed_text enc n r ≡ 44 ∷ record_text enc r
listed_later enc zero r h = absurd (omega arith)
listed_later enc (suc n) r h = refl

later_printed : (enc : Encoding) (n : ℕ) (rs : List RecordValue) (rest : List Token) → 0 < n
    → print_from true (items_tokens (records_items enc rs) ++ rest) ≡ listed_texts enc n rs ++ (93 ∷ print_from true rest)
unfolding records_items print_from
later_printed enc n [] rest h = refl
later_printed enc n (r ∷ rs) rest h =
    let later : List Token = items_tokens (records_items enc rs) ++ rest in
    let after : List ℕ = 93 ∷ print_from true rest in
    ap (print_from true) (append_assoc (json_tokens (object (record_members enc r))) (items_tokens (records_items enc rs)) rest)
    ∙ ap (λ (l : List ℕ). 44 ∷ l) (record_printed enc r later
    ∙ ap (λ (l : List ℕ). record_text enc r ++ l) (later_printed enc (n + 1) rs rest (omega arith)))
    ∙ sym (append_assoc (44 ∷ record_text enc r) (listed_texts enc (n + 1) rs) after)
    ∙ ap (λ (l : List ℕ). (l ++ listed_texts enc (n + 1) rs) ++ after) (sym (listed_later enc n r h))

-- the records of an item
pub items_printed : (enc : Encoding) (rs : List RecordValue) (rest : List Token)
    → print_from false (items_tokens (records_items enc rs) ++ rest) ≡ listed_texts enc 0 rs ++ (93 ∷ print_from true rest)
unfolding records_items print_from
items_printed enc [] rest = refl
items_printed enc (r ∷ rs) rest =
    let later : List Token = items_tokens (records_items enc rs) ++ rest in
    ap (print_from false) (append_assoc (json_tokens (object (record_members enc r))) (items_tokens (records_items enc rs)) rest)
    ∙ record_printed enc r later ∙ ap (λ (l : List ℕ). record_text enc r ++ l) (later_printed enc 1 rs rest (lit≤ tt))
    ∙ sym (append_assoc (record_text enc r) (listed_texts enc 1 rs) (93 ∷ print_from true rest))

pub items_numbers : (enc : Encoding) (rs : List RecordValue) → ItemsHaveNumbers (records_items enc rs)
unfolding records_items
items_numbers enc [] = tt
items_numbers enc (r ∷ rs) = (record_numbers enc r, items_numbers enc rs)

pub items_shallow : (enc : Encoding) (rs : List RecordValue) → items_depth (records_items enc rs) ≤ 1
unfolding records_items
items_shallow enc [] = lit≤ tt
items_shallow enc (r ∷ rs) =
    most (depth (object (record_members enc r))) (items_depth (records_items enc rs)) (record_flat enc r) (items_shallow enc rs)
  where
    most : (a b : ℕ) → a ≡ 1 → b ≤ 1 → max a b ≤ 1
    most a b e h = grind (arith, e, h)
