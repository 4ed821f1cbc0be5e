-- What a whole transmission has in a column is what its groups have there, and their transactions.
use Rattle.std.proofs.Common.{◌≡◌, ℕ, ◌+◌, Bool, false, List, [], ◌∷◌, ◌++◌, map, refl, sym, ap, ◌∙◌, append-nil, arith, if◌then◌else◌}
use Rattle.std.specs.Prelude.{◌==◌, ◌||◌, flat_map, sum_by}
use Rattle.std.specs.List.{AllByRecursion}
use Rattle.std.proofs.lemmas.Bool.{or_parts}
use Rattle.std.proofs.lemmas.List.Concat.{flat_map-append}
use Rattle.std.proofs.lemmas.List.Sums.{sum_by-cons}
use Rattle.cwr_fields.specs.declared.kinds.Kind.{Kind}
use Rattle.cwr_fields.specs.declared.kinds.Kind.TheVariants as kinds
use Rattle.cwr_lines.specs.Format.Records.{RecordValue}
use Rattle.cwr_values.specs.declared.items.Item.{Item}
use Rattle.cwr_values.specs.declared.items.Item.TheVariants as items
use Rattle.cwr_values.specs.Format.Values.{GroupValue, IsTransmission, TransmissionValue}
use Rattle.cwr_judge.specs.Format.Items.{group_items}
use Rattle.cwr_parts.specs.Format.Splits.{join_of}
use Rattle.cwr_summary.specs.declared.columns.Column.{Column}
use Rattle.cwr_summary.specs.declared.columns.Column.TheVariants.{Groups, Records}
use Rattle.cwr_summary.specs.Format.Columns.{place}
use Rattle.cwr_summary.specs.Format.Laws.{amount, counts_kind, is_of_ends, is_of_groups}
use Rattle.cwr_summary.specs.Format.Summaries.{Part, item_parts, parts_of, record_part, total}
use Rattle.cwr_summary.proofs.lemmas.Summed.{add_up}

-- what stands in no place of the column adds nothing to it
pub nothing_there : (column : Column) (p : Part) → (place p.0 == place column) ≡ false → total column (p ∷ []) ≡ 0
nothing_there column p other =
    sum_by-cons (λ (q : Part). if place q.0 == place column then q.1 else 0) p []
    ∙ ap (λ (b : Bool). (if b then p.1 else 0) + 0) other

-- nor does a record of another kind
pub no_record : (column : Column) (r : RecordValue) (this_kind : Kind) → r.kind ≡ this_kind → counts_kind this_kind column ≡ false
    → total column (record_part r ∷ []) ≡ 0
no_record column r this_kind is other =
    nothing_there column (record_part r) (ap (λ (k : Kind). place (Records k) == place column) is ∙ other)

-- but for its HDR and its TRL a transmission has what its groups have
pub by_groups : (column : Column) (v : TransmissionValue) → is_of_ends column ≡ false → v.opening.kind ≡ kinds.Hdr
    → amount column v ≡ total column (parts_of (flat_map group_items v.groups))
by_groups column v other is =
    let others = or_parts (counts_kind kinds.Hdr column) (counts_kind kinds.Trl column) other in
    let inside : List Item = flat_map group_items v.groups in
    let first = add_up column (items.Opened v.opening ∷ []) (inside ++ items.Ended ∷ []) in
    let last = add_up column inside (items.Ended ∷ []) in
    let opened : total column (parts_of (items.Opened v.opening ∷ [])) ≡ 0 = no_record column v.opening kinds.Hdr is others.0 in
    let ended : total column (parts_of (items.Ended ∷ [])) ≡ 0 = nothing_there column (Records kinds.Trl, 1) others.1 in
    omega (arith, first, last, opened, ended)

-- what is joined
groups_together : (column : Column) (vs : List TransmissionValue)
    → total column (parts_of (flat_map group_items (flat_map (λ w. w.groups) vs)))
    ≡ sum_by (λ w. total column (parts_of (flat_map group_items w.groups))) vs
groups_together column [] = refl
groups_together column (v ∷ vs) =
    let rest : List GroupValue = flat_map (λ w. w.groups) vs in
    let all = ap (λ (l : List Item). total column (parts_of l)) (flat_map-append group_items v.groups rest) in
    let both = add_up column (flat_map group_items v.groups) (flat_map group_items rest) in
    let more = groups_together column vs in
    let one = sum_by-cons (λ (w : TransmissionValue). total column (parts_of (flat_map group_items w.groups))) v vs in
    omega (arith, all, both, more, one)

each_by_groups : (column : Column) (vs : List TransmissionValue) → is_of_ends column ≡ false → AllByRecursion IsTransmission vs
    → sum_by (amount column) vs ≡ sum_by (λ w. total column (parts_of (flat_map group_items w.groups))) vs
each_by_groups column [] other each = refl
each_by_groups column (v ∷ vs) other each =
    let one = by_groups column v other each.0.opening.0 in
    let more = each_by_groups column vs other each.1 in
    let left = sum_by-cons (amount column) v vs in
    let right = sum_by-cons (λ (w : TransmissionValue). total column (parts_of (flat_map group_items w.groups))) v vs in
    omega (arith, one, more, left, right)

pub joins_add : (column : Column) (v : TransmissionValue) (others : List TransmissionValue) → is_of_ends column ≡ false
    → AllByRecursion IsTransmission (v ∷ others) → amount column (join_of v others) ≡ sum_by (amount column) (v ∷ others)
joins_add column v others other each =
    by_groups column (join_of v others) other each.0.opening.0 ∙ groups_together column (v ∷ others)
    ∙ sym (each_by_groups column (v ∷ others) other each)

-- ---- groups

-- what a transaction has in a column
abbrev pub of_transaction : Column → List RecordValue → ℕ
of_transaction column t = total column (item_parts (items.Transaction t))

of_transactions : (column : Column) (ts : List (List RecordValue))
    → total column (parts_of (map items.Transaction ts)) ≡ sum_by (of_transaction column) ts
of_transactions column [] = refl
of_transactions column (t ∷ ts) =
    let front : List Item = items.Transaction t ∷ [] in
    let both = add_up column front (map items.Transaction ts) in
    let one : total column (parts_of front) ≡ of_transaction column t =
    ap (total column) (append-nil (item_parts (items.Transaction t))) in
    let more = of_transactions column ts in
    let all = sum_by-cons (of_transaction column) t ts in
    omega (arith, both, one, more, all)

-- but for its GRH and its GRT a group has what its transactions have
pub of_group : (column : Column) (g : GroupValue) → is_of_groups column ≡ false → g.head.kind ≡ kinds.Grh → g.foot.kind ≡ kinds.Grt
    → total column (parts_of (group_items g)) ≡ sum_by (of_transaction column) g.transactions
of_group column g other head foot =
    let last = or_parts ((place Groups == place column) || counts_kind kinds.Grh column) (counts_kind kinds.Grt column) other in
    let first = or_parts (place Groups == place column) (counts_kind kinds.Grh column) last.0 in
    let inside : List Item = map items.Transaction g.transactions in
    let opening : List Item = items.GroupOpened g.head ∷ [] in
    let closing : List Item = items.GroupClosed g.foot ∷ [] in
    let parts : List Part = record_part g.head ∷ [] in
    let front = add_up column opening (inside ++ closing) in
    let back = add_up column inside closing in
    let all = of_transactions column g.transactions in
    let two : total column (parts_of opening) ≡ total column ((Groups, 1) ∷ []) + total column parts =
    total_of_two column (Groups, 1) (record_part g.head) in
    let groups : total column ((Groups, 1) ∷ []) ≡ 0 = nothing_there column (Groups, 1) first.0 in
    let heads : total column parts ≡ 0 = no_record column g.head kinds.Grh head first.1 in
    let feet : total column (parts_of closing) ≡ 0 = no_record column g.foot kinds.Grt foot last.1 in
    omega (arith, front, back, all, two, groups, heads, feet)
  where
    total_of_two : (column : Column) (p q : Part) → total column (p ∷ q ∷ []) ≡ total column (p ∷ []) + total column (q ∷ [])
    total_of_two column p q =
        let f : Part → ℕ = λ x. if place x.0 == place column then x.1 else 0 in
        let both = sum_by-cons f p (q ∷ []) in
        let one = sum_by-cons f p [] in
        omega (arith, both, one)
