-- The lines of a transmission's data are data of its items, and of no other's.
use Rattle.std.proofs.Common.{◌≡◌, ℕ, zero, suc, ◌+◌, ◌-◌, ◌%◌, ◌^◌, ◌<◌, ◌≤◌, Bool, true, false, not, cond, ◌&&◌, List, [], ◌∷◌}
use Rattle.std.proofs.Common.{◌++◌, length, map, take, replicate, Option, Some, None, IsUtf8, refl, sym, ap, ap₂, subst, ◌∙◌}
use Rattle.std.proofs.Common.{arith, inl, inr, append_assoc}
use Rattle.std.specs.Prelude.{◌==◌, codes, decimal, count_by, nat_lt, IfSome}
use Rattle.std.specs.List.{AllZip, AllByRecursion, after_last, enumerate_from, flat_map, list_all, list_any, suffix_len}
use Rattle.std.proofs.lemmas.Bool.{and_parts, cases_eq, cases_lt, eqb-true, lt-ltb, not-true, or_from}
use Rattle.std.proofs.lemmas.Fmt.{decimal_by_steps}
use Rattle.std.proofs.lemmas.List.{length-append}
use Rattle.std.proofs.lemmas.List.Folds.{list_all-append, list_any-append}
use Rattle.std.proofs.lemmas.List.Sums.{sum_by-append, sum_by-take-drop}
use Rattle.std.proofs.lemmas.Str.{IsUtf8-append, IsUtf8-nil}
use Rattle.json.specs.Json.{string, number, array, object, Members, no_members, member}
use Rattle.json.specs.Print.{escape, escape_byte, print, print_from, quoted, separator, token_text}
use Rattle.json.specs.Token.{Token}
use Rattle.json.specs.Tree.{items_tokens, json_tokens, members_tokens}
use Rattle.json.proofs.Printed.Strings.{escape_byte_plain}
use Rattle.json.proofs.Printed.Utf8.{IsUtf8-are_ascii, IsUtf8-quoted, IsUtf8-separator, are_ascii}
use Rattle.cwr_fields.specs.Format.Bytes.{is_spaces, trimmed}
use Rattle.cwr_fields.specs.declared.kinds.Kind.{Kind}
use Rattle.cwr_fields.specs.declared.kinds.Kind.TheVariants.{Hdr}
use Rattle.cwr_fields.specs.Format.Kinds.{letters}
use Rattle.cwr_fields.specs.Format.Layouts.{FieldLayout}
use Rattle.cwr_lines.specs.Format.Lines.{is_lf}
use Rattle.cwr_lines.specs.Format.Records.{RecordValue, IsCellOf, IsRecord, carried_fields}
use Rattle.cwr_fields.proofs.lemmas.TrimmedTexts.{spaces_after}
use Rattle.cwr_values.specs.declared.items.Item.{Item}
use Rattle.cwr_values.specs.declared.items.Item.TheVariants.{Opened, GroupOpened, Transaction, GroupClosed, Ended}
use Rattle.cwr_fields.specs.declared.codes.TransactionType.{TransactionType}
use Rattle.cwr_values.specs.Format.Values.{GroupValue, TransmissionValue, IsGroup, IsTransaction, IsTransmission, type_of}
use Rattle.cwr_values.proofs.lemmas.OneSpelling.{one_value}
use Rattle.cwr_judge.specs.Format.Items.{group_items, is_transaction, item_records, opens_group, records_in, value_items}
use Rattle.cwr_json.specs.declared.encodings.Encoding.{Encoding}
use Rattle.cwr_json.specs.declared.notes.Notes.{Notes}
use Rattle.cwr_json.specs.Format.Encodings.{characters}
use Rattle.cwr_json.specs.Format.Forms.{cell_members, data_lines, item_data, item_line, key_of, kind_key, notes_if}
use Rattle.cwr_json.specs.Format.Forms.{record_members, records_items, records_key, with_group_notes, with_notes}
use Rattle.cwr_json.specs.Format.Laws.{AreBelow}
use Rattle.cwr_json.proofs.lemmas.OneItem.{own_item}
use Rattle.cwr_json.proofs.lemmas.PrintedItems.{item_reads}
use Rattle.cwr_write.specs.Format.Endings.{said_lines}
use Rattle.cwr_write.specs.Format.Imports.{AreLines, SaysItem, is_blank_line}
use Rattle.cwr_write.specs.Format.Laws.{OneTransmission, OwnLines}
use Rattle.cwr_write.specs.Format.Faults.{AreBytes}
use Rattle.cwr_write.specs.Steps.Lines.{NoFeed}
use Rattle.cwr_write.proofs.lemmas.ShownUtf8.{characters_utf8}
use Rattle.cwr_write.proofs.lemmas.ByteCells.{allowed_bytes}
use Rattle.cwr_write.proofs.lemmas.ItemsInOrder.{own_heads, records_in_value}
use Rattle.cwr_write.proofs.lemmas.LinesTaken.{lines_once, same_records}

-- ---- texts in UTF-8, without line feeds

record Fine (text : List ℕ) : Type 0 where
  utf8 : IsUtf8 text
  one_line : NoFeed text

fine_none : Fine []
fine_none = record { utf8 = IsUtf8-nil; one_line = refl }

fine_both : (xs ys : List ℕ) → Fine xs → Fine ys → Fine (xs ++ ys)
fine_both xs ys p q =
    record {
      utf8 = IsUtf8-append xs ys p.utf8 q.utf8;
      one_line = list_any-append is_lf xs ys ∙ or_from (list_any is_lf xs) (list_any is_lf ys) p.one_line q.one_line;
    }

-- bytes below 128, no line feed
abbrev is_plain_byte : ℕ → Bool
is_plain_byte b = nat_lt b 128 && not (b == 10)

abbrev are_plain : List ℕ → Bool
are_plain text = list_all is_plain_byte text

plain_ascii : (text : List ℕ) → are_plain text ≡ true → are_ascii text ≡ true
plain_ascii [] h = refl
plain_ascii (b ∷ text) h =
    let parts = and_parts (is_plain_byte b) (are_plain text) h in
    ap₂ (λ (x y : Bool). x && y) (and_parts (nat_lt b 128) (not (b == 10)) parts.0).0 (plain_ascii text parts.1)

plain_line : (text : List ℕ) → are_plain text ≡ true → NoFeed text
plain_line [] h = refl
plain_line (b ∷ text) h =
    let parts = and_parts (is_plain_byte b) (are_plain text) h in
    or_from (b == 10) (list_any is_lf text) (not-true (b == 10) (and_parts (nat_lt b 128) (not (b == 10)) parts.0).1)
    (plain_line text parts.1)

fine_plain : (text : List ℕ) → are_plain text ≡ true → Fine text
fine_plain text h = record { utf8 = IsUtf8-are_ascii text (plain_ascii text h); one_line = plain_line text h }

-- ---- strings

abbrev feedless_below : ℕ → Bool
feedless_below zero = true
feedless_below (suc n) = not (list_any is_lf (escape_byte n)) && feedless_below n

feedless : feedless_below 128 ≡ true
unfolding escape_byte
feedless = refl

below : (n : ℕ) → feedless_below n ≡ true → (x : ℕ) → x < n → NoFeed (escape_byte x)
below zero e x h = absurd (omega arith)
below (suc n) e x h =
    let p = and_parts (not (list_any is_lf (escape_byte n))) (feedless_below n) e in
    elim (cases_eq x n) [
      | inl same ↦ subst (λ (m : ℕ). NoFeed (escape_byte m)) (sym same) (not-true (list_any is_lf (escape_byte n)) p.0)
      | inr other ↦ below n p.1 x (omega arith)
    ]

escaped_byte : (x : ℕ) → NoFeed (escape_byte x)
escaped_byte x = elim (cases_lt x 128) [
  | inl small ↦ below 128 feedless x small
  | inr big ↦ subst NoFeed (sym (escape_byte_plain x (λ e. omega arith) (λ e. omega arith) (omega arith)))
      (or_from (x == 10) false (far x big) refl)
]
  where
    far : (n : ℕ) → 128 ≤ n → (n == 10) ≡ false
    far n h = by (n == 10) refl
      where
        by : (b : Bool) → (n == 10) ≡ b → b ≡ false
        by false e = refl
        by true e = absurd (omega (arith, eqb-true n 10 e, h))

escaped : (s : List ℕ) → NoFeed (escape s)
escaped [] = refl
escaped (x ∷ s) =
    list_any-append is_lf (escape_byte x) (escape s)
    ∙ or_from (list_any is_lf (escape_byte x)) (list_any is_lf (escape s)) (escaped_byte x) (escaped s)

quoted_line : (s : List ℕ) → NoFeed (quoted s)
quoted_line s = list_any-append is_lf (escape s) (34 ∷ []) ∙ or_from (list_any is_lf (escape s)) false (escaped s) refl

fine_string : (s : List ℕ) → IsUtf8 s → Fine (quoted s)
fine_string s u = record { utf8 = IsUtf8-quoted s u; one_line = quoted_line s }

fine_key : (s : List ℕ) → IsUtf8 s → Fine (quoted s ++ 58 ∷ [])
fine_key s u = fine_both (quoted s) (58 ∷ []) (fine_string s u) (fine_plain (58 ∷ []) refl)

-- ---- tokens

abbrev FineToken : Token → Type 0
FineToken t = Fine (token_text t)

comma : (b : Bool) → NoFeed (cond b (44 ∷ []) [])
comma true = refl
comma false = refl

fine_print : (b : Bool) (ts : List Token) → AllByRecursion FineToken ts → Fine (print_from b ts)
unfolding print_from
fine_print b [] h = fine_none
fine_print b (t ∷ ts) h =
    fine_both (separator b t) (token_text t ++ print_from _ ts) (record { utf8 = IsUtf8-separator b t; one_line = comma _ })
    (fine_both (token_text t) (print_from _ ts) h.0 (fine_print _ ts h.1))

tokens_both : (xs ys : List Token) → AllByRecursion FineToken xs → AllByRecursion FineToken ys
    → AllByRecursion FineToken (xs ++ ys)
tokens_both [] ys h k = k
tokens_both (x ∷ xs) ys h k = (h.0, tokens_both xs ys h.1 k)

-- ---- records

abbrev is_ascii_key : FieldLayout → Bool
is_ascii_key f = are_ascii (key_of f.name)

abbrev is_ascii_kind : Kind → Bool
is_ascii_kind kind = are_ascii (letters kind) && list_all is_ascii_key (carried_fields kind)

ascii_kind : (kind : Kind) → is_ascii_kind kind ≡ true
ascii_kind Hdr = refl
ascii_kind this_kind = refl

trimmed_bytes : (f : FieldLayout) (cell : List ℕ) → IsCellOf f cell → AreBytes (trimmed cell)
trimmed_bytes f cell h =
    let p = spaces_after cell in
    (and_parts (list_all (λ b. nat_lt b 256) (trimmed cell)) (list_all (λ b. nat_lt b 256) (replicate p.0 32)) (sym
    (list_all-append (λ b. nat_lt b 256) (trimmed cell) (replicate p.0 32)) ∙ ap
    (λ (l : List ℕ). list_all (λ b. nat_lt b 256) l) (sym p.1) ∙ allowed_bytes f.ty cell h.1)).0

cells_fine : (enc : Encoding) (fields : List FieldLayout) (cells : List (List ℕ)) → list_all is_ascii_key fields ≡ true
    → AllZip IsCellOf fields cells → AllByRecursion FineToken (members_tokens (cell_members enc fields cells))
unfolding cell_members
cells_fine enc [] cells a h = (fine_plain (125 ∷ []) refl, tt)
cells_fine enc (f ∷ fields) [] a h = absurd h
cells_fine enc (f ∷ fields) (cell ∷ cells) a h = by (is_spaces cell) (cells_fine enc fields cells parts.1 h.1)
  where
    parts : (is_ascii_key f ≡ true) × (list_all is_ascii_key fields ≡ true)
    parts = and_parts (is_ascii_key f) (list_all is_ascii_key fields) a

    by : (b : Bool) → AllByRecursion FineToken (members_tokens (cell_members enc fields cells))
        → AllByRecursion FineToken (members_tokens (cond b (cell_members enc fields cells)
        (member (key_of f.name) (string (characters enc (trimmed cell))) (cell_members enc fields cells))))
    by true more = more
    by false more = (
      fine_key (key_of f.name) (IsUtf8-are_ascii (key_of f.name) parts.0),
      (fine_string (characters enc (trimmed cell)) (characters_utf8 enc (trimmed cell) (trimmed_bytes f cell h.0)), more),
    )

record_fine : (enc : Encoding) (r : RecordValue) → IsRecord r
    → AllByRecursion FineToken (json_tokens (object (record_members enc r)))
record_fine enc r h =
    let ascii = and_parts (are_ascii (letters r.kind)) (list_all is_ascii_key (carried_fields r.kind)) (ascii_kind r.kind) in (
      fine_plain (123 ∷ []) refl,
      (
        fine_key kind_key (IsUtf8-are_ascii kind_key refl),
        (
          fine_string (letters r.kind)
              (IsUtf8-are_ascii (letters r.kind) ascii.0),
          cells_fine enc (carried_fields r.kind) r.cells ascii.1 h,
        ),
      ),
    )

records_fine : (enc : Encoding) (rs : List RecordValue) → AllByRecursion IsRecord rs
    → AllByRecursion FineToken (items_tokens (records_items enc rs))
unfolding records_items
records_fine enc [] h = (fine_plain (93 ∷ []) refl, tt)
records_fine enc (r ∷ rs) h =
    tokens_both (json_tokens (object (record_members enc r))) (items_tokens (records_items enc rs)) (record_fine enc r h.0)
    (records_fine enc rs h.1)

-- ---- notes

decimal_plain : (n : ℕ) → n < 2 ^ 64 → are_plain (decimal n) ≡ true
decimal_plain n h = decimal_by_steps (λ m ds. are_plain ds ≡ true) one more n h
  where
    digit : (m : ℕ) → m < 10 → is_plain_byte (48 + m) ≡ true
    digit m k = ap₂ (λ (x y : Bool). x && not y) (lt-ltb (48 + m) 128 (omega arith)) (far (48 + m) (omega arith))
      where
        far : (x : ℕ) → 48 ≤ x → (x == 10) ≡ false
        far x g = by (x == 10) refl
          where
            by : (b : Bool) → (x == 10) ≡ b → b ≡ false
            by false e = refl
            by true e = absurd (omega (arith, eqb-true x 10 e, g))

    one : (m : ℕ) → m < 10 → are_plain ((48 + m) ∷ []) ≡ true
    one m k = ap (λ (x : Bool). x && true) (digit m k)

    more : (m : ℕ) (ds : List ℕ) → 10 ≤ m → are_plain ds ≡ true → are_plain (ds ++ (48 + m % 10) ∷ []) ≡ true
    more m ds k e =
        list_all-append is_plain_byte ds ((48 + m % 10) ∷ []) ∙ ap₂ (λ (x y : Bool). x && y) e (one (m % 10) (omega arith))

note_fine : (key : List ℕ) (n : ℕ) (more : Members) → are_ascii key ≡ true → n < 2 ^ 64
    → AllByRecursion FineToken (members_tokens more)
    → AllByRecursion FineToken (members_tokens (member key (number (decimal n)) more))
note_fine key n more a h k = (fine_key key (IsUtf8-are_ascii key a), (fine_plain (decimal n) (decimal_plain n h), k))

group_notes_fine : (n : Notes) (i : Item) (more : Members) → AreBelow n → AllByRecursion FineToken (members_tokens more)
    → AllByRecursion FineToken (members_tokens (with_group_notes n i more))
group_notes_fine n (Opened r) more b h = h
group_notes_fine n (GroupOpened r) more b h = note_fine (codes "_group") n.group more refl b.0 h
group_notes_fine n (Transaction t) more b h =
    note_fine (codes "_group") n.group (member (codes "_transaction") (number (decimal n.transaction)) more) refl b.0
    (note_fine (codes "_transaction") n.transaction more refl b.1 h)
group_notes_fine n (GroupClosed r) more b h = note_fine (codes "_group") n.group more refl b.0 h
group_notes_fine n Ended more b h = h

notes_fine : (notes : Option Notes) (i : Item) (more : Members) → IfSome notes AreBelow
    → AllByRecursion FineToken (members_tokens more) → AllByRecursion FineToken (members_tokens (with_notes notes i more))
notes_fine None i more b h = h
notes_fine (Some n) i more b h =
    group_notes_fine n i (member (codes "_line") (number (decimal n.line)) more) b
    (note_fine (codes "_line") n.line more refl b.2 h)

-- ---- the line of an item

line_fine : (enc : Encoding) (notes : Option Notes) (i : Item) → IfSome notes AreBelow → AllByRecursion IsRecord (item_records i)
    → Fine (print (json_tokens (item_data enc notes i)))
line_fine enc notes i b h =
    let records : AllByRecursion FineToken
    (members_tokens (member records_key (array (records_items enc (item_records i))) no_members))
    = (
      fine_key records_key (IsUtf8-are_ascii records_key refl),
      (
        fine_plain (91 ∷ []) refl,
        tokens_both
            (items_tokens (records_items enc (item_records i))) (members_tokens no_members) (records_fine enc (item_records i) h)
            (fine_plain (125 ∷ []) refl, tt),
      ),
    ) in
    fine_print false (json_tokens (item_data enc notes i)) (
      fine_plain (123 ∷ []) refl,
      notes_fine notes i (member records_key (array (records_items enc (item_records i))) no_members) b records,
    )

says_own : (enc : Encoding) (notes : Option Notes) (i : Item) → IfSome notes AreBelow → AllByRecursion IsRecord (item_records i)
    → SaysItem enc (print (json_tokens (item_data enc notes i))) i
says_own enc notes i b h =
    record {
      value = item_data enc notes i;
      utf8 = (line_fine enc notes i b h).utf8;
      text = item_reads enc notes i b;
      says = own_item enc notes i h;
    }

not_blank : (enc : Encoding) (notes : Option Notes) (i : Item)
    → is_blank_line (print (json_tokens (item_data enc notes i))) ≡ false
unfolding print_from
not_blank enc notes i = refl

-- ---- all lines

line_of : (enc : Encoding) → Bool → List Item → ℕ × Item → List ℕ
line_of enc noted items p = print (json_tokens (item_data enc (notes_if noted (take p.0 items) p.1) p.1))

-- each has its place below the limit of notes
AreNoted : Bool → List Item → List (ℕ × Item) → Type 0
AreNoted noted items ps =
    AllByRecursion (λ p. IfSome (notes_if noted (take p.0 items) p.1) AreBelow × AllByRecursion IsRecord (item_records p.1)) ps

lines_are : (enc : Encoding) (noted : Bool) (items : List Item) (ps : List (ℕ × Item)) → AreNoted noted items ps
    → AreLines (map (line_of enc noted items) ps) (flat_map (λ p. item_line enc (notes_if noted (take p.0 items) p.1) p.1) ps)
unfolding AreLines AreNoted line_of
lines_are enc noted items [] h = refl
lines_are enc noted items (p ∷ ps) h =
    let notes : Option Notes = notes_if noted (take p.0 items) p.1 in
    let line : List ℕ = print (json_tokens (item_data enc notes p.1)) in
    let more : List ℕ = flat_map (λ q. item_line enc (notes_if noted (take q.0 items) q.1) q.1) ps in (
      (line_fine enc notes p.1 h.0.0 h.0.1).one_line,
      inl (more, append_assoc line (10 ∷ []) more, lines_are enc noted items ps h.1),
    )

all_said : (enc : Encoding) (noted : Bool) (items : List Item) (ps : List (ℕ × Item))
    → said_lines (map (line_of enc noted items) ps) ≡ map (line_of enc noted items) ps
unfolding line_of
all_said enc noted items [] = refl
all_said enc noted items (p ∷ ps) =
    ap (λ (b : Bool). cond (not b) (line_of enc noted items p ∷ said_lines (map (line_of enc noted items) ps))
    (said_lines (map (line_of enc noted items) ps))) (not_blank enc (notes_if noted (take p.0 items) p.1) p.1)
    ∙ ap (λ (l : List (List ℕ)). line_of enc noted items p ∷ l) (all_said enc noted items ps)

each_says : (enc : Encoding) (noted : Bool) (items : List Item) (ps : List (ℕ × Item)) → AreNoted noted items ps
    → AllZip (SaysItem enc) (map (line_of enc noted items) ps) (map (λ p. p.1) ps)
unfolding AreNoted line_of
each_says enc noted items [] h = tt
each_says enc noted items (p ∷ ps) h =
    (says_own enc (notes_if noted (take p.0 items) p.1) p.1 h.0.0 h.0.1, each_says enc noted items ps h.1)

numbered : (n : ℕ) (items : List Item) → map (λ p. p.1) (enumerate_from n items) ≡ items
numbered n [] = refl
numbered n (i ∷ items) = ap (λ (l : List Item). i ∷ l) (numbered (n + 1) items)

-- ---- the places of notes

record Sound (i : Item) : Type 0 where
  each : AllByRecursion IsRecord (item_records i)
  some : 1 ≤ length (item_records i)

sound_both : (xs ys : List Item) → AllByRecursion Sound xs → AllByRecursion Sound ys → AllByRecursion Sound (xs ++ ys)
sound_both [] ys h k = k
sound_both (x ∷ xs) ys h k = (h.0, sound_both xs ys h.1 k)

sound_transactions : (ty : TransactionType) (ts : List (List RecordValue)) → AllByRecursion (IsTransaction ty) ts
    → AllByRecursion Sound (map Transaction ts)
sound_transactions ty [] h = tt
sound_transactions ty (t ∷ ts) h = (
  record { each = h.0.0; some = omega (arith, ap length (own_heads ty (Transaction t) h.0).whole) },
  sound_transactions ty ts h.1,
)

sound_groups : (gs : List GroupValue) → AllByRecursion IsGroup gs → AllByRecursion Sound (flat_map group_items gs)
sound_groups [] h = tt
sound_groups (g ∷ gs) h =
    sound_both (group_items g) (flat_map group_items gs) (
      record { each = (h.0.head.1, tt); some = omega arith },
      sound_both (map Transaction g.transactions) (GroupClosed g.foot ∷ [])
          (sound_transactions (type_of g.head) g.transactions h.0.each)
          (record { each = (h.0.foot.1, tt); some = omega arith }, tt),
    ) (sound_groups gs h.1)

sound_items : (v : TransmissionValue) → IsTransmission v → AllByRecursion Sound (value_items v)
sound_items v h = (
  record { each = (h.opening.1, tt); some = omega arith },
  sound_both (flat_map group_items v.groups) (Ended ∷ [])
      (sound_groups v.groups h.each) (record { each = (tt, tt); some = omega arith }, tt),
)

sound_taken : (n : ℕ) (items : List Item) → AllByRecursion Sound items → AllByRecursion Sound (take n items)
sound_taken zero items h = tt
sound_taken (suc n) [] h = tt
sound_taken (suc n) (i ∷ items) h = (h.0, sound_taken n items h.1)

fewer_records : (n : ℕ) (items : List Item) → length (records_in (take n items)) ≤ length (records_in items)
fewer_records zero items = omega arith
fewer_records (suc n) [] = omega arith
fewer_records (suc n) (i ∷ items) =
    omega (
      arith,
      fewer_records n items,
      length-append (item_records i) (records_in (take n items)),
      length-append (item_records i) (records_in items),
    )

at_most_one : (b : Bool) → cond b 1 0 ≤ 1
at_most_one true = omega arith
at_most_one false = omega arith

-- there are no more items of a kind than records
few_items : (test : Item → Bool) (items : List Item) → AllByRecursion Sound items
    → count_by test items ≤ length (records_in items)
few_items test [] h = omega arith
few_items test (i ∷ items) h =
    omega (
      arith,
      at_most_one (test i),
      h.0.some,
      few_items test items h.1,
      length-append (item_records i) (records_in items),
      sum_by-append (λ (x : Item). cond (test x) 1 0) (i ∷ []) items,
    )

few_after : (items : List Item) → AllByRecursion Sound items
    → count_by is_transaction (after_last opens_group items) ≤ length (records_in items)
few_after items h =
    let n : ℕ = length items - suffix_len (λ (i : Item). not (opens_group i)) items in
    omega (arith, few_items is_transaction items h, sum_by-take-drop (λ (x : Item). cond (is_transaction x) 1 0) items n)

notes_below : (noted : Bool) (items : List Item) (k : ℕ) (i : Item) → AllByRecursion Sound items
    → length (records_in items) < 2 ^ 64 - 1 → IfSome (notes_if noted (take k items) i) AreBelow
notes_below false items k i h few = tt
notes_below true items k i h few =
    let before : List Item = take k items in
    let sound : AllByRecursion Sound before = sound_taken k items h in (
      omega (arith, few, fewer_records k items, few_items opens_group before sound, at_most_one (opens_group i)),
      omega (arith, few, fewer_records k items, few_after before sound),
      omega (arith, few, fewer_records k items),
    )

are_noted : (noted : Bool) (items : List Item) (n : ℕ) (rest : List Item) → AllByRecursion Sound items
    → length (records_in items) < 2 ^ 64 - 1 → AllByRecursion Sound rest → AreNoted noted items (enumerate_from n rest)
unfolding AreNoted
are_noted noted items n [] h few k = tt
are_noted noted items n (i ∷ rest) h few k =
    ((notes_below noted items n i h few, k.0.each), are_noted noted items (n + 1) rest h few k.1)

-- ---- the laws

pub own_lines : OwnLines
unfolding data_lines line_of
own_lines enc noted most v h few short =
    let items : List Item = value_items v in
    let ps : List (ℕ × Item) = enumerate_from 0 items in
    let sound = sound_items v h in
    let noted_all : AreNoted noted items ps =
    are_noted noted items 0 items sound
    (subst (λ (rs : List RecordValue). length rs < 2 ^ 64 - 1) (sym (records_in_value v)) few) sound in
    record {
      lines = map (line_of enc noted items) ps;
      are = lines_are enc noted items ps noted_all;
      short = short;
      each =
          subst (λ (l : List (List ℕ)). AllZip (SaysItem enc) l items) (sym (all_said enc noted items ps)) (subst
          (AllZip (SaysItem enc) (map (line_of enc noted items) ps)) (numbered 0 items) (each_says enc noted items ps noted_all));
    }

pub one_transmission : OneTransmission
one_transmission enc most others text v w h k s t =
    let same : s.lines ≡ t.lines = lines_once s.lines t.lines text s.are t.are in
    one_value v w h k
    (sym (records_in_value v) ∙ same_records enc (said_lines t.lines) (value_items v) (value_items w)
    (subst (λ (l : List (List ℕ)). AllZip (SaysItem enc) (said_lines l) (value_items v)) same s.each) t.each
    ∙ records_in_value w)
