-- A record that continues the open transaction gives no item.
use Rattle.std.proofs.Common.{◌≡◌, ◌+◌, ◌-◌, ◌<◌, ◌≤◌, Bool, true, false, not, cond, ◌&&◌, List, [], ◌∷◌, ◌++◌, length, map, refl}
use Rattle.std.proofs.Common.{sym, ap, ap₂, subst, ◌∙◌, arith, append_assoc, append-nil, true≢false}
use Rattle.std.specs.Prelude.{Option, Some, None, ◌==◌, is_some}
use Rattle.std.specs.List.{AllByRecursion, last_or}
use Rattle.std.proofs.lemmas.Bool.{ne_eqb, and_parts}
use Rattle.std.proofs.lemmas.List.{length-append, length-map, length-drop}
use Rattle.cwr_fields.specs.declared.codes.TransactionType.{TransactionType}
use Rattle.cwr_fields.specs.declared.codes.TransactionType.TheVariants.{Agreement, NewWork, RevisedWork, Acknowledgement}
use Rattle.cwr_fields.specs.declared.kinds.Kind.TheVariants as kinds
use Rattle.cwr_lines.specs.Format.Records.{RecordValue, IsRecord, Row}
use Rattle.cwr_shape.specs.declared.symbols.Symbol.{Symbol}
use Rattle.cwr_shape.specs.declared.symbols.Symbol.TheVariants.{Plain, Grh}
use Rattle.cwr_shape.specs.declared.stages.Stage.{Stage}
use Rattle.cwr_shape.specs.declared.stages.Stage.TheVariants as stages
use Rattle.cwr_shape.specs.declared.stages.TransactionStep.TheVariants as steps
use Rattle.cwr_shape.specs.Format.Outlines.{Continues}
use Rattle.cwr_shape.specs.Steps.NextStages.{next_stage}
use Rattle.cwr_shape.specs.Format.LastSymbols.{is_grh}
use Rattle.cwr_shape.specs.Steps.Stages.{stage_after}
use Rattle.cwr_shape.specs.Format.AnyTransmission.{Any}
use Rattle.cwr_shape.specs.Steps.Left.{StandsAt}
use Rattle.cwr_shape.specs.Steps.Counting.{scope_at}
use Rattle.cwr_shape.specs.Format.NextSymbols as tallies_there
use Rattle.cwr_shape.specs.Format.NextSymbols.{is_header_of, type_after, transactions_begun, open_type, open_group, scope_by}
use Rattle.cwr_shape.specs.Format.NextSymbols.{scope_after, open_records}
use Rattle.cwr_shape.proofs.lemmas.OneMore.{after_last-snoc}
use Rattle.cwr_shape.proofs.lemmas.StageStands.{next_exact}
use Rattle.cwr_shape.proofs.lemmas.ScopesNamed.{scope_stands}
use Rattle.cwr_shape.proofs.lemmas.TallySteps.{stands_type}
use Rattle.cwr_values.specs.declared.items.Item.{Item}
use Rattle.cwr_values.specs.declared.items.Item.TheVariants.{Transaction}
use Rattle.cwr_values.specs.Format.Values.{symbol_of}
use Rattle.cwr_values.specs.Format.Begins.{row_after, rows_after, rows_so_far}
use Rattle.cwr_fields.specs.Format.Kinds.{is_in_transaction}
use Rattle.cwr_judge.specs.Format.Items.{record_sequence, continues_transaction, ends_transaction, transaction_at_end, own_item}
use Rattle.cwr_judge.specs.Format.Items.{items_after}
use Rattle.cwr_judge.specs.Steps.Open.{items_so_far, open_of, continues_open, Stays}
use Rattle.cwr_judge.proofs.lemmas.ItemsOfTransactions.{no_item}
use Rattle.cwr_judge.proofs.lemmas.OneMoreRecord.{IsInner, inner_record_symbol, is_header, count_after_header, later_sequence}
use Rattle.cwr_judge.proofs.lemmas.OneMoreRecord.{scope-snoc, goes_inside, symbols-snoc, open_longer}
use Rattle.cwr_judge.proofs.lemmas.EndingRecord.{after_few, items_next}

-- ---- what stands before a record that continues

start_none : (s : Symbol) → IsInner s → is_some (next_stage stages.Start s) ≡ true → ⊥
start_none (Plain kinds.Hdr) inner some = true≢false (sym inner)
start_none s inner some = true≢false (sym some)

opened_none : (s : Symbol) → IsInner s → is_some (next_stage stages.Opened s) ≡ true → ⊥
opened_none (Grh t) inner some = true≢false (sym inner)
opened_none s inner some = true≢false (sym some)

closed_none : (s : Symbol) → IsInner s → is_some (next_stage stages.Closed s) ≡ true → ⊥
closed_none (Grh t) inner some = true≢false (sym inner)
closed_none (Plain kinds.Trl) inner some = true≢false (sym inner)
closed_none s inner some = true≢false (sym some)

ended_none : (s : Symbol) → is_some (next_stage stages.Ended s) ≡ true → ⊥
ended_none s some = true≢false (sym some)

group_none : (ty : TransactionType) (s : Symbol) → is_header_of ty s ≡ false
    → is_some (next_stage (stages.Within ty steps.InGroup) s) ≡ true → ⊥
group_none Agreement (Plain kinds.Agr) h some = true≢false h
group_none NewWork (Plain kinds.Nwr) h some = true≢false h
group_none RevisedWork (Plain kinds.Rev) h some = true≢false h
group_none Acknowledgement (Plain kinds.Ack) h some = true≢false h
group_none Agreement s h some = true≢false (sym some)
group_none NewWork s h some = true≢false (sym some)
group_none RevisedWork s h some = true≢false (sym some)
group_none Acknowledgement s h some = true≢false (sym some)

goes_before : (xs : List Symbol) (s : Symbol) → Continues Any (xs ++ s ∷ []) → Continues Any xs
goes_before xs s (groups, whole, any, more) = (groups, whole, any, (s ∷ more.0, more.1 ∙ append_assoc xs (s ∷ []) more.0))

next_some : (xs : List Symbol) (s : Symbol) → Continues Any (xs ++ s ∷ []) → is_some (next_stage (stage_after xs) s) ≡ true
next_some xs s g =
    (next_exact xs (stage_after xs) s (next_stage (stage_after xs) s) refl
    (record { begins = goes_before xs s g; named = refl })).1 g

-- before a record that continues a transaction one is open
inner_at : (xs : List Symbol) (stage : Stage) (s : Symbol) → StandsAt xs stage → IsInner s → is_header_of (open_type xs) s ≡ false
    → is_some (next_stage stage s) ≡ true
    → tallies_there.has_open_transaction (scope_at stage) ≡ true
inner_at xs stages.Start s st inner h some = absurd (start_none s inner some)
inner_at xs stages.Opened s st inner h some = absurd (opened_none s inner some)
inner_at xs stages.Closed s st inner h some = absurd (closed_none s inner some)
inner_at xs stages.Ended s st inner h some = absurd (ended_none s some)
inner_at xs (stages.Within ty steps.InGroup) s st inner h some =
    absurd (group_none ty s (ap (λ (t : TransactionType). is_header_of t s) (stands_type xs ty steps.InGroup st) ∙ h) some)
inner_at xs (stages.Within ty step) s st inner h some = refl

open_before : (records : List RecordValue) (s : Symbol) → IsInner s → is_header_of (open_type (map symbol_of records)) s ≡ false
    → Continues Any (map symbol_of records ++ s ∷ [])
    → tallies_there.has_open_transaction (scope_after (map symbol_of records)) ≡ true
open_before records s inner h g =
    let xs : List Symbol = map symbol_of records in
    let st : StandsAt xs (stage_after xs) = record { begins = goes_before xs s g; named = refl } in
    ap tallies_there.has_open_transaction (sym (scope_stands xs (stage_after xs) st))
    ∙ inner_at xs (stage_after xs) s st inner h (next_some xs s g)

-- ---- fewer records stand after the last header than there are

-- a transmission begins with its header, and a group with its own
record Headed (xs : List Symbol) : Type 0 where
  ty : TransactionType
  rest : List Symbol
  whole : xs ≡ Plain kinds.Hdr ∷ Grh ty ∷ rest

headed_by : (xs rest more : List Symbol) (t : TransactionType) → Plain kinds.Hdr ∷ Grh t ∷ more ≡ xs ++ rest
    → tallies_there.has_open_transaction (scope_after xs) ≡ true → Headed xs
headed_by [] rest more t e is_open = absurd (true≢false (sym is_open))
headed_by (x ∷ []) rest more t e is_open =
    let same : Plain kinds.Hdr ≡ x =
    cc e in
    absurd (true≢false (sym is_open ∙ ap (λ (s : Symbol). tallies_there.has_open_transaction (scope_by (Some s))) (sym same)))
headed_by (x ∷ y ∷ zs) rest more t e is_open =
    let first : x ≡ Plain kinds.Hdr = cc e in
    let second : y ≡ Grh t = cc e in
    record { ty = t; rest = zs; whole = ap₂ (λ (a b : Symbol). a ∷ b ∷ zs) first second }

headed : (xs : List Symbol) → Continues Any xs → tallies_there.has_open_transaction (scope_after xs) ≡ true → Headed xs
headed xs ([], whole, any, more) is_open = absurd (omega (arith, whole.0))
headed xs (g ∷ gs, whole, any, more) is_open = headed_by xs more.0 _ g.ty more.1 is_open

-- fewer stand in the open group than there are, and so with more of them
group_few : (front ys : List Symbol) → length (open_group front) < length front
    → length (open_group (front ++ ys)) < length (front ++ ys)
group_few front [] h = subst (λ (xs : List Symbol). length (open_group xs) < length xs) (sym (append-nil front)) h
group_few front (y ∷ ys) h =
    subst (λ (xs : List Symbol). length (open_group xs) < length xs) (append_assoc front (y ∷ []) ys)
    (group_few (front ++ y ∷ []) ys (by (is_grh y) (ap length (after_last-snoc is_grh front y))))
  where
    by : (b : Bool) → length (open_group (front ++ y ∷ [])) ≡ length (cond b [] (open_group front ++ y ∷ []))
        → length (open_group (front ++ y ∷ [])) < length (front ++ y ∷ [])
    by true e = omega (arith, e, length-append front (y ∷ []))
    by false e = omega (arith, e, length-append front (y ∷ []), length-append (open_group front) (y ∷ []), h)

after_header_fewer : (records : List RecordValue) → Continues Any (map symbol_of records)
    → tallies_there.has_open_transaction (scope_after (map symbol_of records)) ≡ true
    → count_after_header records < length records
after_header_fewer records g is_open =
    let xs : List Symbol = map symbol_of records in
    let h = headed xs g is_open in
    let few : length (open_group xs) < length xs =
    subst (λ (ys : List Symbol). length (open_group ys) < length ys) (sym h.whole)
    (group_few (Plain kinds.Hdr ∷ Grh h.ty ∷ []) h.rest (omega arith)) in
    omega (arith, few, after_few (is_header_of (open_type xs)) (open_group xs), length-map records symbol_of)

-- ---- one more record continues the open transaction

quiet : (o : Option Row) (rows : List Row) (row : Row) → continues_transaction row ≡ true → own_item row.kind row ≡ []
    → cond (ends_transaction o row) (Transaction (transaction_at_end o rows) ∷ []) [] ++ own_item row.kind row ≡ []
quiet None rows row on own = own
quiet (Some last) rows row on own =
    ap (λ (c : Bool). cond (is_in_transaction last.kind && not c) (Transaction (transaction_at_end (Some last) rows) ∷ []) []
    ++ own_item row.kind row) on
    ∙ by (is_in_transaction last.kind)
    ∙ own
  where
    by : (b : Bool) → cond (b && false) (Transaction (transaction_at_end (Some last) rows) ∷ []) [] ++ own_item row.kind row
        ≡ own_item row.kind row
    by true = refl
    by false = refl

pub continuing_stays : (records : List RecordValue) (r : RecordValue) → AllByRecursion IsRecord (records ++ r ∷ [])
    → Continues Any (map symbol_of (records ++ r ∷ [])) → length records ≤ 99999999
    → continues_open (map symbol_of records) (symbol_of r) ≡ true → Stays records r
continuing_stays records r h g few e =
    let xs : List Symbol = map symbol_of records in
    let s : Symbol = symbol_of r in
    let parts =
    and_parts (transactions_begun Acknowledgement (xs ++ s ∷ []) == transactions_begun Acknowledgement xs)
    (tallies_there.has_open_transaction (scope_after (xs ++ s ∷ []))) e in
    let inner : IsInner s = sym (scope-snoc xs s) ∙ parts.1 in
    let inside : is_in_transaction r.kind ≡ true = sym (inner_record_symbol r) ∙ inner in
    let later : is_header records r ≡ false = not_true (is_header records r) (sym (goes_inside xs s inner) ∙ e) in
    let goes : Continues Any (xs ++ s ∷ []) = subst (Continues Any) (symbols-snoc records r) g in
    let is_open : tallies_there.has_open_transaction (scope_after xs) ≡ true = open_before records s inner later goes in
    let fewer : count_after_header records < length records = after_header_fewer records (goes_before xs s goes) is_open in
    let row : Row = row_after records r in
    let sequence : record_sequence row ≡ count_after_header records + 1 =
    later_sequence records r inside later (omega (arith, fewer, few)) in
    let on : continues_transaction row ≡ true =
    ap₂ (λ (b c : Bool). b && not c) inside (ne_eqb (record_sequence row) 0 (λ z. omega (arith, z, sequence))) in
    let now : open_records xs ≡ 1 + count_after_header records =
    ap (λ (b : Bool). cond b (1 + count_after_header records) 0) is_open in
    record {
      inside = inside;
      some = omega (arith, now, fewer, length-drop (length records - open_records xs) records);
      longer = open_longer records r inside later is_open;
      nothing = items_next records r
          ∙ ap (λ (is : List Item). items_so_far records ++ is)
          (quiet (last_or None (rows_so_far records)) (rows_so_far records) row on (no_item r.kind row inside))
          ∙ append-nil (items_so_far records);
    }
  where
    not_true : (b : Bool) → not b ≡ true → b ≡ false
    not_true true k = absurd (true≢false (sym k))
    not_true false k = refl

-- ---- the open transaction

-- before the first record none is open
pub no_open : open_of [] ≡ []
no_open = refl

-- and there are no items
pub no_items : items_so_far [] ≡ []
unfolding items_after rows_after
no_items = refl
