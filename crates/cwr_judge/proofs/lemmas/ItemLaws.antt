-- The items of a transmission's rows are those of its parts.
use Rattle.std.proofs.Common.{◌≡◌, ℕ, suc, ◌+◌, ◌^◌, ◌<◌, ◌≤◌, Bool, true, false, not, ◌&&◌, List, [], ◌∷◌, ◌++◌, length, map}
use Rattle.std.proofs.Common.{refl, sym, ap, ap₂, subst, ◌∙◌, arith, append_assoc, append-nil}
use Rattle.std.specs.Prelude.{◌==◌, sum, sum_by}
use Rattle.std.specs.List.{AllByRecursion, flat_map}
use Rattle.std.proofs.lemmas.List.{length-map}
use Rattle.std.proofs.lemmas.List.Sums.{sum_by-cons}
use Rattle.cwr_fields.specs.declared.codes.TransactionType.{TransactionType}
use Rattle.cwr_fields.specs.declared.kinds.Kind.{Kind}
use Rattle.cwr_fields.specs.declared.kinds.Kind.TheVariants as kinds
use Rattle.cwr_lines.specs.Format.Records.{RecordValue, IsRecord, Row, row_of, record_of}
use Rattle.cwr_lines.proofs.lemmas.RowLaws.{record_of-row_of}
use Rattle.cwr_shape.specs.declared.limits.Limits.{Limits}
use Rattle.cwr_shape.specs.Format.Outlines.{symbols_of}
use Rattle.cwr_shape.specs.Format.Numbers.{group_records}
use Rattle.cwr_shape.proofs.lemmas.HeadFirst.{part_class}
use Rattle.cwr_values.specs.Format.Values.{GroupValue, TransmissionValue, IsTransaction, IsTransmission, IsGroup, FitsIn, type_of}
use Rattle.cwr_values.specs.Format.Values.{symbol_of, outline_of}
use Rattle.cwr_values.specs.Format.Rows.{rows, records_of, lengths_of_value}
use Rattle.cwr_values.proofs.lemmas.OneCutIntoParts.{IsOnePart}
use Rattle.cwr_values.proofs.lemmas.Spelling.{length-records_of}
use Rattle.cwr_values.proofs.lemmas.RowsByParts.{rows_of_transactions, rows_of_group, rows_of_groups, foot_row, trailer_row, rows-parts}
use Rattle.cwr_values.proofs.lemmas.OneSpelling.{parts_of, symbols-outline}
use Rattle.cwr_values.specs.declared.items.Item.{Item}
use Rattle.cwr_values.specs.declared.items.Item.TheVariants.{Opened, GroupOpened, Transaction, GroupClosed, Ended}
use Rattle.cwr_fields.specs.Format.Kinds.{is_in_transaction}
use Rattle.cwr_judge.specs.Format.Items.{record_sequence, continues_transaction, own_item, items_at, items_after, items}
use Rattle.cwr_judge.specs.Format.Items.{group_items, value_items}
use Rattle.cwr_judge.proofs.lemmas.ItemsOfTransactions.{items-append, inside_kind, Ready, idle, start, IsInsideRow, items_given}
use Rattle.cwr_judge.proofs.lemmas.ItemsOfTransactions.{transactions_walked}

-- ---- group by group

-- rows that give these items, and leave none waiting
record Gives (before xs : List Row) (whole : List Item) : Type 0 where
  gives : items_after before xs ≡ whole
  ready : Ready (before ++ xs) []

around : (row : Row) → is_in_transaction row.kind ≡ false → continues_transaction row ≡ false
around row h = ap (λ (b : Bool). b && not (record_sequence row == 0)) h

is_inside : (ty : TransactionType) (t : List RecordValue) → IsTransaction ty t → IsOnePart (λ r. part_class ty (symbol_of r)) t
    → IsInsideRow t
is_inside ty t h p = record {
  some = omega (arith, ap length p.whole);
  inside =
      subst (AllByRecursion (λ r. is_in_transaction r.kind ≡ true)) (sym p.whole)
      (inside_kind ty p.head.kind p.head (one_not_zero (part_class ty (symbol_of p.head)) 0 p.first), later p.rest p.later);
  in_order = h.0;
}
  where
    one_not_zero : (n m : ℕ) → n ≡ suc m → n ≡ 0 → ⊥
    one_not_zero n m e z = omega arith

    later : (rs : List RecordValue) → AllByRecursion (λ r. part_class ty (symbol_of r) ≡ 2) rs
        → AllByRecursion (λ r. is_in_transaction r.kind ≡ true) rs
    later [] h = tt
    later (r ∷ rs) h = (inside_kind ty r.kind r (one_not_zero (part_class ty (symbol_of r)) 1 h.0), later rs h.1)

are_inside : (ty : TransactionType) (ts : List (List RecordValue)) → AllByRecursion (IsTransaction ty) ts
    → AllByRecursion (IsOnePart (λ r. part_class ty (symbol_of r))) ts → AllByRecursion IsInsideRow ts
are_inside ty [] h p = tt
are_inside ty (t ∷ ts) h p = (is_inside ty t h.0 p.0, are_inside ty ts h.1 p.1)

head_item : (ns : List ℕ) (r : RecordValue) (k : Kind) → r.kind ≡ k → IsRecord r → (make : RecordValue → Item)
    → ((row : Row) → own_item k row ≡ make (record_of row) ∷ []) → own_item r.kind (row_of ns r) ≡ make r ∷ []
head_item ns r k e h make is_own =
    ap (λ (l : Kind). own_item l (row_of ns r)) e ∙ is_own (row_of ns r)
    ∙ ap (λ (x : RecordValue). make x ∷ []) (record_of-row_of ns r h)

group_gives : (before : List Row) (i : ℕ) (g : GroupValue) → Ready before [] → IsGroup g
    → sum (map length g.transactions) ≤ 10 ^ 8 → Gives before (rows_of_group i g) (group_items g)
unfolding items_after
group_gives before i g h k short =
    let head : Row = row_of ((i + 1) ∷ []) g.head in
    let foot : Row = foot_row i g in
    let is_head : is_in_transaction head.kind ≡ false = ap is_in_transaction k.head.0 in
    let is_foot : is_in_transaction foot.kind ≡ false = ap is_in_transaction k.foot.0 in
    let opens : items_at before head ≡ GroupOpened g.head ∷ [] =
    h head (around head is_head) ∙ head_item ((i + 1) ∷ []) g.head kinds.Grh k.head.0 k.head.1 GroupOpened (λ row. refl) in
    let xs : List Row = rows_of_transactions 0 g.transactions in
    let walk =
    transactions_walked (before ++ head ∷ []) [] 0 g.transactions (idle before head is_head)
    (are_inside (type_of g.head) g.transactions k.each (parts_of (type_of g.head) g.transactions k.each)) short in
    let closes : items_at ((before ++ head ∷ []) ++ xs) foot ≡ walk.left ++ GroupClosed g.foot ∷ [] =
    walk.ready foot (around foot is_foot)
    ∙ ap (λ (x : List Item). walk.left ++ x) (head_item _ g.foot kinds.Grt k.foot.0 k.foot.1 GroupClosed (λ row. refl)) in
    let inner : items_after (before ++ head ∷ []) (xs ++ foot ∷ []) ≡ map Transaction g.transactions ++ GroupClosed g.foot ∷ [] =
    items-append (before ++ head ∷ []) xs (foot ∷ [])
    ∙ ap₂ (λ (a b : List Item). a ++ b) walk.gives (append-nil (items_at ((before ++ head ∷ []) ++ xs) foot) ∙ closes)
    ∙ sym (append_assoc walk.given walk.left (GroupClosed g.foot ∷ []))
    ∙ ap (λ (x : List Item). x ++ GroupClosed g.foot ∷ []) walk.in_all in record {
      gives = ap₂ (λ (a b : List Item). a ++ b) opens inner;
      ready =
          subst (λ (b : List Row). Ready b []) (append_assoc before (head ∷ xs) (foot ∷ []))
          (idle (before ++ head ∷ xs) foot is_foot);
    }

groups_give : (before : List Row) (i : ℕ) (gs : List GroupValue) → Ready before [] → AllByRecursion IsGroup gs
    → sum_by group_records (map (λ g. map length g.transactions) gs) ≤ 10 ^ 8
    → Gives before (rows_of_groups i gs) (flat_map group_items gs)
unfolding items_after
groups_give before i [] h k short =
    record { gives = refl; ready = subst (λ (b : List Row). Ready b []) (sym (append-nil before)) h }
groups_give before i (g ∷ gs) h k short =
    let total = sum_by-cons group_records (map length g.transactions) (map (λ f. map length f.transactions) gs) in
    let one = group_gives before i g h k.0 (omega (arith, total, short)) in
    let rest = groups_give (before ++ rows_of_group i g) (i + 1) gs one.ready k.1 (omega (arith, total, short)) in record {
      gives =
          items_given before (rows_of_group i g) (rows_of_groups (i + 1) gs) (group_items g) (flat_map group_items gs) one.gives
          rest.gives;
      ready =
          subst (λ (b : List Row). Ready b []) (append_assoc before (rows_of_group i g) (rows_of_groups (i + 1) gs)) rest.ready;
    }

-- the whole of a transmission
pub items_of_parts : (limits : Limits) (v : TransmissionValue) → IsTransmission v → FitsIn limits v → limits.records < 10 ^ 8
    → items (rows v) ≡ value_items v
unfolding items_after
items_of_parts limits v h k a =
    let symbols : length (symbols_of (outline_of v)) ≡ length (records_of v) =
    ap length (symbols-outline v h) ∙ length-map (records_of v) symbol_of in
    let short : sum_by group_records (lengths_of_value v) ≤ 10 ^ 8 = omega (arith, k.0, symbols, length-records_of v, a) in
    let opening : Row = row_of [] v.opening in
    let is_opening : is_in_transaction opening.kind ≡ false = ap is_in_transaction h.opening.0 in
    let opens : items_at [] opening ≡ Opened v.opening ∷ [] =
    start opening (around opening is_opening)
    ∙ head_item [] v.opening kinds.Hdr h.opening.0 h.opening.1 Opened (λ row. refl) in
    let groups = groups_give (opening ∷ []) 0 v.groups (idle [] opening is_opening) h.each short in
    let ends : items_at (opening ∷ rows_of_groups 0 v.groups) (trailer_row v) ≡ Ended ∷ [] = groups.ready (trailer_row v) refl in
    ap (items_after []) (rows-parts v)
    ∙ ap₂ (λ (a b : List Item). a ++ b) opens
    (items-append (opening ∷ []) (rows_of_groups 0 v.groups) (trailer_row v ∷ [])
    ∙ ap₂ (λ (a b : List Item). a ++ b) groups.gives
    (append-nil (items_at (opening ∷ rows_of_groups 0 v.groups) (trailer_row v)) ∙ ends))
