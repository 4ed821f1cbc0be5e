-- The table after all items of a transmission.
use Rattle.std.proofs.Common.{◌≡◌, List, [], ◌∷◌, ◌++◌, refl, sym, ap, ap₂, ◌∙◌, append_assoc, append-nil}
use Rattle.std.specs.Prelude.{fold, map}
use Rattle.std.specs.List.{flat_map}
use Rattle.cwr_lines.specs.Format.Records.{RecordValue}
use Rattle.cwr_values.specs.declared.items.Item.{Item}
use Rattle.cwr_values.specs.declared.items.Item.TheVariants.{Opened, Transaction, GroupClosed, Ended}
use Rattle.cwr_values.specs.Format.Values.{GroupValue, TransmissionValue}
use Rattle.cwr_judge.specs.Format.Items.{group_items, value_items}
use Rattle.cwr_sent.specs.declared.created.Created.{Created}
use Rattle.cwr_sent.specs.declared.facts.SentFacts.{SentFacts}
use Rattle.cwr_sent.specs.declared.tables.Sent.{Sent}
use Rattle.cwr_sent.specs.Format.GroupRows.{GroupRows, fresh}
use Rattle.cwr_sent.specs.Format.SentFacts.{SentContent, content_of, created_of, facts_in, facts_of}
use Rattle.cwr_sent.specs.Format.SentRows.{IsFresh, content_in}
use Rattle.cwr_sent.specs.Steps.SentTables.{Filled, filled_after, filled_in, filled_with, nothing_filled}

fold_both : (f : Filled) (xs ys : List Item) → fold filled_with f (xs ++ ys) ≡ fold filled_with (fold filled_with f xs) ys
fold_both f [] ys = refl
fold_both f (x ∷ xs) ys = fold_both (filled_with f x) xs ys

abbrev begun : Created → List GroupRows → List SentFacts → Filled
begun created closed facts = record { created = created; closed = closed; open_one = fresh facts }

transactions : (created : Created) (closed : List GroupRows) (facts : List SentFacts) (ts : List (List RecordValue))
    → fold filled_with (begun created closed facts) (map Transaction ts) ≡ begun created closed (facts ++ map facts_of ts)
transactions created closed facts [] = ap (begun created closed) (sym (append-nil facts))
transactions created closed facts (t ∷ ts) =
    transactions created closed (facts ++ facts_of t ∷ []) ts
    ∙ ap (begun created closed) (append_assoc facts (facts_of t ∷ []) (map facts_of ts))

one_group : (created : Created) (closed : List GroupRows) (g : GroupValue)
    → fold filled_with (begun created closed []) (group_items g)
    ≡ begun created (closed ++ fresh (map facts_of g.transactions) ∷ []) []
one_group created closed g =
    fold_both (begun created closed []) (map Transaction g.transactions) (GroupClosed g.foot ∷ [])
    ∙ ap (λ (f : Filled). filled_with f (GroupClosed g.foot)) (transactions created closed [] g.transactions)

abbrev rows_of : List GroupValue → List GroupRows
rows_of gs = map fresh (map (λ (g : GroupValue). map facts_of g.transactions) gs)

groups : (created : Created) (closed : List GroupRows) (gs : List GroupValue)
    → fold filled_with (begun created closed []) (flat_map group_items gs) ≡ begun created (closed ++ rows_of gs) []
groups created closed [] = ap (λ (l : List GroupRows). begun created l []) (sym (append-nil closed))
groups created closed (g ∷ gs) =
    fold_both (begun created closed []) (group_items g) (flat_map group_items gs)
    ∙ ap (λ (f : Filled). fold filled_with f (flat_map group_items gs)) (one_group created closed g)
    ∙ groups created (closed ++ fresh (map facts_of g.transactions) ∷ []) gs
    ∙ ap (λ (l : List GroupRows). begun created l [])
    (append_assoc closed (fresh (map facts_of g.transactions) ∷ []) (rows_of gs))

-- all groups are closed, and none of their transactions is answered
pub filled_whole : (v : TransmissionValue)
    → filled_after (value_items v) ≡ begun (created_of v.opening) (map fresh (facts_in v)) []
filled_whole v =
    fold_both (begun (created_of v.opening) [] []) (flat_map group_items v.groups) (Ended ∷ [])
    ∙ ap (λ (f : Filled). filled_with f Ended) (groups (created_of v.opening) [] v.groups)

-- one more of the items
pub filled_more : (items : List Item) (item : Item) → filled_with (filled_after items) item ≡ filled_after (items ++ item ∷ [])
filled_more items item = sym (fold_both nothing_filled items (item ∷ []))

-- the open group is answered by none
pub none_open : (items : List Item) (f : Filled) → f.open_one.answers ≡ [] → (fold filled_with f items).open_one.answers ≡ []
none_open [] f h = h
none_open (Opened r ∷ items) f h = none_open items (filled_with f (Opened r)) h
none_open (Transaction t ∷ items) f h = none_open items (filled_with f (Transaction t)) refl
none_open (GroupClosed r ∷ items) f h = none_open items (filled_with f (GroupClosed r)) refl
none_open (item ∷ items) f h = none_open items (filled_with f item) h

-- ---- what a table then shows

same_facts : (fs : List (List SentFacts)) → map (λ (g : GroupRows). g.facts) (map fresh fs) ≡ fs
same_facts [] = refl
same_facts (f ∷ fs) = ap (λ (l : List (List SentFacts)). f ∷ l) (same_facts fs)

pub content_whole : (sent : Sent) (v : TransmissionValue)
    → filled_in sent ≡ begun (created_of v.opening) (map fresh (facts_in v)) [] → content_in sent ≡ content_of v
content_whole sent v e =
    ap (λ (f : Filled). record { created = f.created; groups = map (λ (g : GroupRows). g.facts) f.closed }) e
    ∙ ap (λ (l : List (List SentFacts)). record { created = created_of v.opening; groups = l }) (same_facts (facts_in v))

pub fresh_whole : (sent : Sent) (v : TransmissionValue)
    → filled_in sent ≡ begun (created_of v.opening) (map fresh (facts_in v)) [] → IsFresh sent
fresh_whole sent v e =
    ap (λ (f : Filled). f.closed) e
    ∙ ap (λ (c : SentContent). map fresh c.groups) (sym (content_whole sent v e))
