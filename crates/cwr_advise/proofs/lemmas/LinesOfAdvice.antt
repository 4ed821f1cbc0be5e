-- What is written of items is what is written of all but the last, and then of the last.
use Rattle.std.proofs.Common.{◌≡◌, ℕ, ◌+◌, Bool, true, false, cond, List, [], ◌∷◌, ◌++◌, length, take, refl, sym, ap, ap₂, ◌∙◌}
use Rattle.std.proofs.Common.{Option, None, append-nil}
use Rattle.std.specs.Prelude.{count_by, flat_map}
use Rattle.std.specs.List.{after_last}
use Rattle.std.specs.Option.{is_some}
use Rattle.cwr_lines.specs.Format.Records.{RecordValue}
use Rattle.cwr_values.specs.declared.items.Item.{Item}
use Rattle.cwr_values.specs.declared.items.Item.TheVariants.{Ended, GroupClosed, GroupOpened, Opened, Transaction}
use Rattle.cwr_judge.specs.Format.Items.{is_transaction, opens_group, records_in}
use Rattle.cwr_findings.specs.declared.rules.Finding.{Finding}
use Rattle.cwr_findings.specs.Format.Findings.{findings}
use Rattle.cwr_findings.specs.Format.ReportLines.{finding_line}
use Rattle.cwr_tools.specs.declared.totals.Totals.{Totals}
use Rattle.cwr_notes.specs.Format.FindingNotes.{explained_finding}
use Rattle.cwr_tools.specs.Format.Reports.{transaction_lines}
use Rattle.cwr_tools.specs.Steps.Counts.{IsCount}
use Rattle.cwr_tools.proofs.lemmas.LinesOfItems.{lines_from-snoc}
use Rattle.cwr_advice.specs.declared.rules.Advice.{Advice}
use Rattle.cwr_advice.specs.declared.rules.AdviceRule.TheVariants.{A5a}
use Rattle.cwr_advice.specs.declared.said.Said.{Said}
use Rattle.cwr_advice.specs.Format.Rules.{advice_of, cell_at}
use Rattle.cwr_advise.specs.declared.item_advice.Manner.{Manner}
use Rattle.cwr_advise.specs.declared.repeats.Place.{Place}
use Rattle.cwr_advise.specs.declared.repeats.Repeated.{Repeated}
use Rattle.cwr_advise.specs.Format.AdviceLines.{advice_at_item, advice_on, advised_in, advised_item, advised_lines, own_advice}
use Rattle.cwr_advise.specs.Format.AdviceLines.{said_in}
use Rattle.cwr_advise.specs.Format.AdviceTexts.{noted_advice}
use Rattle.cwr_advise.specs.Format.RepeatedWorks.{is_repeated, place_after, place_of, repeated_advice, repeated_in, repeated_text}
use Rattle.cwr_advise.specs.Format.RepeatedWorks.{told_place, work_header, works_in}
use Rattle.cwr_advise.specs.Format.ToldAdvice.{is_told, told_after}
use Rattle.cwr_advise.specs.Steps.AdviceCounts.{counts_after, counts_of, counts_with, is_told_by}
use Rattle.cwr_advise.specs.Steps.AdvisedItems.{advised_at}
use Rattle.cwr_advise.specs.Steps.KeptWorks.{counts_with_repeated, repeated_at, shown_if, shown_repeated}
use Rattle.cwr_advise.proofs.lemmas.AdviceCounted.{after-append, counts-more, told-by, told-same}
use Rattle.cwr_advise.proofs.lemmas.LevelsTold.{never_repeated}
use Rattle.cwr_advise.proofs.lemmas.WorksKept.{none_taken, of_items-snoc}

advised_lines-snoc : (manner : Manner) (limit : ℕ) (given : List Item) (item : Item)
    → advised_lines manner limit (given ++ item ∷ [])
    ≡ advised_lines manner limit given ++ advised_item manner limit given item
unfolding advised_lines
advised_lines-snoc manner limit given item = lines_from-snoc (advised_item manner limit) given item

-- no items have no lines
pub advised_none : (manner : Manner) (limit : ℕ) → advised_lines manner limit [] ≡ []
unfolding advised_lines
advised_none manner limit = refl

-- ---- the advice

advice_on-snoc : (limit : ℕ) (given : List Item) (item : Item)
    → advice_on limit (given ++ item ∷ []) ≡ advice_on limit given ++ advice_at_item limit given item
unfolding advice_on
advice_on-snoc limit given item = of_items-snoc (advice_at_item limit) given item

pub advice_none : (limit : ℕ) → advice_on limit [] ≡ []
unfolding advice_on
advice_none limit = refl

with_one : (counts : List ℕ) (b : Bool)
    → counts_after counts (cond b (repeated_advice ∷ []) []) ≡ cond b (counts_with counts A5a) counts
with_one counts true = refl
with_one counts false = refl

with_repeated : (counts : List ℕ) (repeated : Repeated) (b : Bool) → is_some repeated.first ≡ b
    → counts_after counts (cond b (repeated_advice ∷ []) []) ≡ counts_with_repeated counts repeated
with_repeated counts repeated b e =
    with_one counts b ∙ ap (λ (c : Bool). cond c (counts_with counts A5a) counts) (sym e)

-- how much of it comes from each rule, with that on an item more
pub counts_next : (limit : ℕ) (said : Said) (told : Repeated) (given : List Item) (item : Item) → said ≡ said_in given
    → is_some told.first ≡ is_repeated limit given item
    → counts_of (advice_on limit (given ++ item ∷ []))
    ≡ counts_with_repeated (counts_after (counts_of (advice_on limit given)) (own_advice said item)) told
counts_next limit said told given item e first =
    let own : List Advice = own_advice (said_in given) item in
    let works : List Advice = cond (is_repeated limit given item) (repeated_advice ∷ []) [] in
    ap counts_of (advice_on-snoc limit given item)
    ∙ sym (counts-more (advice_on limit given) (own ++ works))
    ∙ after-append (counts_of (advice_on limit given)) own works
    ∙ with_repeated (counts_after (counts_of (advice_on limit given)) own) told (is_repeated limit given item) first
    ∙ ap (λ (s : Said). counts_with_repeated (counts_after (counts_of (advice_on limit given)) (own_advice s item)) told) (sym e)

-- ---- the lines

-- an item's own lines, by the numbers of the items before it, and by how much advice there is on them
own_lines : (manner : Manner) (c : Totals) (said : Said) (earlier : List Advice) (given : List Item) (item : Item) → IsCount c given
    → said ≡ said_in given
    → advised_in manner earlier (said_in given) (count_by opens_group given)
    (count_by is_transaction (after_last opens_group given)) (length (records_in given) + 1) item
    ≡ advised_at manner (counts_of earlier) said c item
own_lines manner c said earlier given item k e =
    ap (λ (s : Said). advised_in manner earlier s (count_by opens_group given)
    (count_by is_transaction (after_last opens_group given)) (length (records_in given) + 1) item) (sym e)
    ∙ ap₂ (λ (group sequence : ℕ). advised_in manner earlier said group sequence (length (records_in given) + 1) item)
    (sym k.groups) (sym k.in_group)
    ∙ ap (λ (n : ℕ). advised_in manner earlier said c.groups c.in_group (n + 1) item) (sym k.records)
    ∙ by item
  where
    by : (it : Item) → advised_in manner earlier said c.groups c.in_group (c.records + 1) it
        ≡ advised_at manner (counts_of earlier) said c it
    by (Transaction t) =
        ap (λ (l : List ℕ). transaction_lines manner.explained manner.apart c.groups c.in_group (c.records + 1) t ++ l)
        (ap (flat_map (noted_advice manner.apart c.groups c.in_group (c.records + 1) t))
        (sym (told-by manner.all earlier (advice_of said t))))
    by (Opened r) = refl
    by (GroupOpened r) = refl
    by (GroupClosed r) = refl
    by Ended = refl

-- what is told of it among the works before, by the counts
works_lines : (manner : Manner) (limit : ℕ) (c : Totals) (said : Said) (told : Repeated) (given : List Item) (item : Item)
    → said ≡ said_in given
    → ((shown : Bool) → repeated_at limit c item (shown_if shown told) ≡ repeated_in shown limit given item)
    → repeated_in (is_told manner.all (advice_on limit given ++ own_advice (said_in given) item) A5a) limit given item
    ≡ repeated_at limit c item (shown_repeated manner.all
    (counts_after (counts_of (advice_on limit given)) (own_advice said item)) told)
works_lines manner limit c said told given item e tells =
    let earlier : List Advice = advice_on limit given ++ own_advice (said_in given) item in
    sym (tells (is_told manner.all earlier A5a))
    ∙ ap (λ (shown : Bool). repeated_at limit c item (shown_if shown told)) (sym (told-same manner.all earlier A5a)
    ∙ ap (λ (counts : List ℕ). is_told_by manner.all counts A5a)
    (sym (counts-more (advice_on limit given) (own_advice (said_in given) item))))
    ∙ ap (λ (s : Said). repeated_at limit c item (shown_repeated manner.all
    (counts_after (counts_of (advice_on limit given)) (own_advice s item)) told)) (sym e)

-- with one item more
pub advised_more : (manner : Manner) (limit : ℕ) (c : Totals) (said : Said) (told : Repeated) (given : List Item) (item : Item)
    → IsCount c given → said ≡ said_in given
    → ((shown : Bool) → repeated_at limit c item (shown_if shown told) ≡ repeated_in shown limit given item)
    → advised_lines manner limit (given ++ item ∷ [])
    ≡ advised_lines manner limit given ++ (advised_at manner (counts_of (advice_on limit given)) said c item
    ++ repeated_at limit c item (shown_repeated manner.all
    (counts_after (counts_of (advice_on limit given)) (own_advice said item)) told))
advised_more manner limit c said told given item k e tells =
    advised_lines-snoc manner limit given item
    ∙ ap₂ (λ (own works : List ℕ). advised_lines manner limit given ++ (own ++ works))
    (own_lines manner c said (advice_on limit given) given item k e) (works_lines manner limit c said told given item e tells)

-- with one item more, by the items before it
pub advised_next : (manner : Manner) (limit : ℕ) (given : List Item) (item : Item)
    → advised_lines manner limit (given ++ item ∷ [])
    ≡ advised_lines manner limit given ++ advised_item manner limit given item
advised_next manner limit given item = advised_lines-snoc manner limit given item

-- ---- what is passed over

none_of_each : {X : Type 0} (f : X → List ℕ) → ((x : X) → f x ≡ []) → (xs : List X) → flat_map f xs ≡ []
none_of_each f none [] = refl
none_of_each f none (x ∷ xs) = ap₂ (λ (a b : List ℕ). a ++ b) (none x) (none_of_each f none xs)

none_told : (shown : Bool) → told_place shown None ≡ None
none_told true = refl
none_told false = refl

-- where no numbers are kept, nothing is told of works among others
unrepeated : (shown : Bool) (given : List Item) (item : Item) → repeated_in shown 0 given item ≡ []
unrepeated shown given item =
    none_of_each (λ h. repeated_text 0 (place_after given) h
    (told_place shown (place_of (cell_at h 6) (take 0 (works_in given)))) false) (λ h. ap
    (λ (works : List (List ℕ × Place)). repeated_text 0 (place_after given) h (told_place shown (place_of (cell_at h 6) works))
    false) (none_taken (works_in given))
    ∙ ap (λ (first : Option Place). repeated_text 0 (place_after given) h first false) (none_told shown)) (work_header item)

no_findings : (explained apart : Bool) (group sequence n : ℕ) (t : List RecordValue) → findings t ≡ []
    → transaction_lines explained apart group sequence n t ≡ []
no_findings false apart group sequence n t e = ap (λ (found : List Finding). flat_map (finding_line group sequence) found) e
no_findings true apart group sequence n t e =
    ap (λ (found : List Finding). flat_map (explained_finding apart group sequence n t) found) e

-- a transaction without findings, and without advice on it, has no lines
pub advised_passed : (manner : Manner) (given : List Item) (t : List RecordValue) → findings t ≡ []
    → advice_of (said_in given) t ≡ [] → advised_lines manner 0 (given ++ Transaction t ∷ []) ≡ advised_lines manner 0 given
advised_passed manner given t none quiet =
    let group : ℕ = count_by opens_group given in
    let sequence : ℕ = count_by is_transaction (after_last opens_group given) in
    let n : ℕ = length (records_in given) + 1 in
    let shown : Bool = is_told manner.all (advice_on 0 given ++ advice_of (said_in given) t) A5a in
    advised_lines-snoc manner 0 given (Transaction t)
    ∙ ap₂ (λ (lines : List ℕ) (all : List Advice). advised_lines manner 0 given
    ++ ((lines ++ flat_map (noted_advice manner.apart group sequence n t) (told_after manner.all (advice_on 0 given) all))
    ++ repeated_in shown 0 given (Transaction t))) (no_findings manner.explained manner.apart group sequence n t none) quiet
    ∙ ap (λ (works : List ℕ). advised_lines manner 0 given ++ works) (unrepeated shown given (Transaction t))
    ∙ append-nil (advised_lines manner 0 given)

-- nor does it add to the counts
pub counts_passed : (limit : ℕ) (given : List Item) (t : List RecordValue) → limit ≡ 0 → advice_of (said_in given) t ≡ []
    → counts_of (advice_on limit (given ++ Transaction t ∷ [])) ≡ counts_of (advice_on limit given)
counts_passed limit given t zero quiet =
    ap counts_of (advice_on-snoc limit given (Transaction t)
    ∙ ap₂ (λ (own : List Advice) (b : Bool). advice_on limit given ++ (own ++ cond b (repeated_advice ∷ []) [])) quiet
    (ap (λ (n : ℕ). is_repeated n given (Transaction t)) zero ∙ never_repeated given (Transaction t))
    ∙ append-nil (advice_on limit given))
