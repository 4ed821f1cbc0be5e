-- The text of an item is its data, printed, and reads back as that.
use Rattle.std.proofs.Common.{◌≡◌, ℕ, suc, ◌≤◌, true, false, List, [], ◌∷◌, ◌++◌, Option, Some, None, refl, sym, ap, ◌∙◌, arith}
use Rattle.std.proofs.Common.{append_assoc}
use Rattle.std.specs.Prelude.{codes, decimal, max, IfSome}
use Rattle.json.specs.Json.{number, array, Members, no_members, member}
use Rattle.json.specs.Tree.{members_tokens, items_tokens, members_depth, items_depth, MembersHaveNumbers}
use Rattle.json.specs.Token.{Token}
use Rattle.json.specs.Print.{quoted, escape_byte, print_from}
use Rattle.json.proofs.Printed.Decimals.{IsNumber-decimal}
use Rattle.json.proofs.Printed.Trees.{document-print}
use Rattle.cwr_lines.specs.Format.Records.{RecordValue}
use Rattle.cwr_values.specs.declared.items.Item.{Item}
use Rattle.cwr_values.specs.declared.items.Item.TheVariants.{Opened, GroupOpened, Transaction, GroupClosed, Ended}
use Rattle.cwr_judge.specs.Format.Items.{item_records}
use Rattle.cwr_json.specs.declared.encodings.Encoding.{Encoding}
use Rattle.cwr_json.specs.declared.notes.Notes.{Notes}
use Rattle.cwr_json.specs.Format.Forms.{records_key, records_items, with_notes, with_group_notes, item_data, item_line}
use Rattle.cwr_json.specs.Format.Laws.{AreBelow, LinesReadBack}
use Rattle.cwr_json.specs.Steps.FormTexts.{note_text, group_notes_text, notes_text, listed_texts, item_text}
use Rattle.cwr_json.proofs.lemmas.PrintedRecords.{items_numbers, items_printed, items_shallow}

-- members have this text, and a comma before it where they come after others
record Prints (ms : Members) (text : List ℕ) : Type 0 where
  pub first : print_from false (members_tokens ms) ≡ text
  pub later : print_from true (members_tokens ms) ≡ 44 ∷ text

-- ---- notes

note_prints : (key name : List ℕ) (n : ℕ) (more : Members) (text : List ℕ) → quoted key ++ 58 ∷ [] ≡ name → Prints more text
    → Prints (member key (number (decimal n)) more) (note_text name n ++ text)
unfolding print_from
note_prints key name n more text e p =
    let shown : (quoted key ++ 58 ∷ []) ++ (decimal n ++ print_from true (members_tokens more)) ≡ note_text name n ++ text =
    ap (λ (l : List ℕ). (quoted key ++ 58 ∷ []) ++ (decimal n ++ l)) p.later
    ∙ ap (λ (l : List ℕ). l ++ (decimal n ++ (44 ∷ text))) e
    ∙ sym (append_assoc name (decimal n) (44 ∷ text))
    ∙ sym (append_assoc (name ++ decimal n) (44 ∷ []) text) in
    record { first = shown; later = ap (λ (l : List ℕ). 44 ∷ l) shown }

group_prints : (n : ℕ) (more : Members) (text : List ℕ) → Prints more text
    → Prints (member (codes "_group") (number (decimal n)) more) (note_text (codes "\"_group\":") n ++ text)
unfolding escape_byte
group_prints n more text p = note_prints (codes "_group") (codes "\"_group\":") n more text refl p

transaction_prints : (n : ℕ) (more : Members) (text : List ℕ) → Prints more text
    → Prints (member (codes "_transaction") (number (decimal n)) more) (note_text (codes "\"_transaction\":") n ++ text)
unfolding escape_byte
transaction_prints n more text p = note_prints (codes "_transaction") (codes "\"_transaction\":") n more text refl p

line_prints : (n : ℕ) (more : Members) (text : List ℕ) → Prints more text
    → Prints (member (codes "_line") (number (decimal n)) more) (note_text (codes "\"_line\":") n ++ text)
unfolding escape_byte
line_prints n more text p = note_prints (codes "_line") (codes "\"_line\":") n more text refl p

same_text : (ms : Members) (text other : List ℕ) → text ≡ other → Prints ms text → Prints ms other
same_text ms text other e p = record { first = p.first ∙ e; later = p.later ∙ ap (λ (l : List ℕ). 44 ∷ l) e }

group_notes_print : (n : Notes) (item : Item) (more : Members) (text : List ℕ) → Prints more text
    → Prints (with_group_notes n item more) (group_notes_text n item ++ text)
group_notes_print n (Opened r) more text p = p
group_notes_print n (GroupOpened r) more text p = group_prints n.group more text p
group_notes_print n (GroupClosed r) more text p = group_prints n.group more text p
group_notes_print n Ended more text p = p
group_notes_print n (Transaction t) more text p =
    let second : List ℕ = note_text (codes "\"_transaction\":") n.transaction in
    let both =
    group_prints n.group (member (codes "_transaction") (number (decimal n.transaction)) more) (second ++ text)
    (transaction_prints n.transaction more text p) in
    same_text (with_group_notes n (Transaction t) more) _ _
    (sym (append_assoc (note_text (codes "\"_group\":") n.group) second text)) both

notes_print : (notes : Option Notes) (item : Item) (more : Members) (text : List ℕ) → Prints more text
    → Prints (with_notes notes item more) (notes_text notes item ++ text)
notes_print None item more text p = p
notes_print (Some n) item more text p =
    let line : List ℕ = note_text (codes "\"_line\":") n.line in
    let both =
    group_notes_print n item (member (codes "_line") (number (decimal n.line)) more) (line ++ text)
    (line_prints n.line more text p) in
    same_text (with_notes (Some n) item more) _ _ (sym (append_assoc (group_notes_text n item) line text)) both

-- ---- the records, and the whole

abbrev only_records : Encoding → List RecordValue → Members
only_records enc rs = member records_key (array (records_items enc rs)) no_members

records_print : (enc : Encoding) (rs : List RecordValue)
    → Prints (only_records enc rs) (codes "\"records\":[" ++ (listed_texts enc 0 rs ++ codes "]}"))
unfolding print_from escape_byte
records_print enc rs =
    let inside : print_from false (items_tokens (records_items enc rs) ++ Token.end_object ∷ [])
    ≡ listed_texts enc 0 rs ++ codes "]}" =
    items_printed enc rs (Token.end_object ∷ []) in
    record {
      first = ap (λ (l : List ℕ). codes "\"records\":[" ++ l) inside;
      later = ap (λ (l : List ℕ). codes ",\"records\":[" ++ l) inside;
    }

pub item_printed : (enc : Encoding) (notes : Option Notes) (item : Item) → item_text enc notes item ≡ item_line enc notes item
unfolding print_from
item_printed enc notes item =
    let rs : List RecordValue = item_records item in
    let named : List ℕ = notes_text notes item in
    let key : List ℕ = codes "\"records\":[" in
    let placed : List ℕ = listed_texts enc 0 rs in
    let ends : List ℕ = codes "]}" in
    let p = notes_print notes item (only_records enc rs) (key ++ (placed ++ ends)) (records_print enc rs) in
    let inside : named ++ (key ++ (placed ++ ends)) ≡ ((named ++ key) ++ placed) ++ ends =
    sym (append_assoc named key (placed ++ ends)) ∙ sym (append_assoc (named ++ key) placed ends) in
    sym (ap (λ (l : List ℕ). 123 ∷ (l ++ 10 ∷ [])) (p.first ∙ inside)
    ∙ ap (λ (l : List ℕ). 123 ∷ l) (append_assoc ((named ++ key) ++ placed) ends (10 ∷ [])))

-- ---- it reads back

group_numbers : (n : Notes) (item : Item) (more : Members) → AreBelow n → MembersHaveNumbers more
    → MembersHaveNumbers (with_group_notes n item more)
group_numbers n (Opened r) more b h = h
group_numbers n (GroupOpened r) more b h = (IsNumber-decimal n.group b.0, h)
group_numbers n (Transaction t) more b h = (IsNumber-decimal n.group b.0, (IsNumber-decimal n.transaction b.1, h))
group_numbers n (GroupClosed r) more b h = (IsNumber-decimal n.group b.0, h)
group_numbers n Ended more b h = h

notes_numbers : (notes : Option Notes) (item : Item) (more : Members) → IfSome notes AreBelow → MembersHaveNumbers more
    → MembersHaveNumbers (with_notes notes item more)
notes_numbers None item more b h = h
notes_numbers (Some n) item more b h =
    group_numbers n item (member (codes "_line") (number (decimal n.line)) more) b (IsNumber-decimal n.line b.2, h)

group_depth : (n : Notes) (item : Item) (more : Members) → members_depth (with_group_notes n item more) ≡ members_depth more
group_depth n (Opened r) more = refl
group_depth n (GroupOpened r) more = below (members_depth more)
  where
    below : (a : ℕ) → max 0 a ≡ a
    below a = omega arith
group_depth n (Transaction t) more = below (members_depth more)
  where
    below : (a : ℕ) → max 0 (max 0 a) ≡ a
    below a = omega arith
group_depth n (GroupClosed r) more = below (members_depth more)
  where
    below : (a : ℕ) → max 0 a ≡ a
    below a = omega arith
group_depth n Ended more = refl

notes_depth : (notes : Option Notes) (item : Item) (more : Members)
    → members_depth (with_notes notes item more) ≡ members_depth more
notes_depth None item more = refl
notes_depth (Some n) item more =
    group_depth n item (member (codes "_line") (number (decimal n.line)) more) ∙ below (members_depth more)
  where
    below : (a : ℕ) → max 0 a ≡ a
    below a = omega arith

pub item_reads : LinesReadBack
item_reads enc notes item b =
    document-print (item_data enc notes item)
    (notes_numbers notes item (only_records enc (item_records item)) b (items_numbers enc (item_records item), tt))
    (shallow (members_depth (with_notes notes item (only_records enc (item_records item))))
    (items_depth (records_items enc (item_records item))) (notes_depth notes item (only_records enc (item_records item)))
    (items_shallow enc (item_records item)))
  where
    shallow : (d a : ℕ) → d ≡ max (suc a) 0 → a ≤ 1 → suc d ≤ 128
    shallow d a e h = grind (arith, e, h)
