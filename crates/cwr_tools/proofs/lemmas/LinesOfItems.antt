-- The lines of items are those of all but the last, and then those of the last.
use Rattle.std.proofs.Common.{◌≡◌, ℕ, ◌+◌, ◌<◌, Bool, true, false, cond, inl, inr, ◌⊎◌, List, [], ◌∷◌, ◌++◌, length, take, Option}
use Rattle.std.proofs.Common.{Some, refl, sym, ap, ap₂, ◌∙◌, arith, append_assoc, append-nil}
use Rattle.std.specs.Prelude.{count_by}
use Rattle.std.specs.List.{after_last, enumerate_from, flat_map}
use Rattle.std.proofs.Math.Seq.{take-append_seam}
use Rattle.std.proofs.lemmas.Grind.{flat_map-append}
use Rattle.std.proofs.lemmas.List.{take-append-le}
use Rattle.cwr_lines.specs.Format.Records.{RecordValue}
use Rattle.cwr_values.specs.declared.items.Item.{Item}
use Rattle.cwr_values.specs.declared.items.Item.TheVariants as items
use Rattle.cwr_judge.specs.Format.Items.{is_transaction, item_records, opens_group, records_in}
use Rattle.cwr_json.specs.declared.notes.Notes.{Notes}
use Rattle.cwr_findings.specs.declared.rules.Finding.{Finding}
use Rattle.cwr_findings.specs.Format.Findings.{findings}
use Rattle.cwr_findings.specs.Format.ReportLines.{finding_line}
use Rattle.cwr_json.specs.declared.encodings.Encoding.{Encoding}
use Rattle.cwr_json.specs.Format.Forms.{data_lines, item_line, notes_if}
use Rattle.cwr_tools.specs.declared.totals.Totals.{Totals}
use Rattle.cwr_notes.specs.Format.RecordTexts.{record_lines, numbered_records}
use Rattle.cwr_tools.specs.Format.Texts.{check_lines, finding_lines, finding_lines_in, show_lines}
use Rattle.cwr_notes.specs.Format.FindingNotes.{explained_finding, explained_findings, explained_in, explained_lines}
use Rattle.cwr_tools.specs.Format.Reports.{has_findings, transaction_lines}
use Rattle.cwr_tools.specs.Steps.Counts.{IsCount}
use Rattle.cwr_tools.specs.Steps.Reports.{findings_at, lines_told, notes_at}

-- ---- records

pub numbered_records-append : (n : ℕ) (records more : List RecordValue)
    → numbered_records n (records ++ more) ≡ numbered_records n records ++ numbered_records (n + length records) more
numbered_records-append n [] more = ap (λ (m : ℕ). numbered_records m more) (omega arith)
numbered_records-append n (r ∷ records) more =
    ap (λ (l : List ℕ). record_lines n r ++ l)
    (numbered_records-append (n + 1) records more
    ∙ ap (λ (m : ℕ). numbered_records (n + 1) records ++ numbered_records m more) (omega arith))
    ∙ sym (append_assoc (record_lines n r) (numbered_records (n + 1) records) (numbered_records (n + length (r ∷ records)) more))

-- ---- findings

-- the lines of items, which stand at these places of a list, by the items before each
abbrev pub lines_from : (List Item → Item → List ℕ) → List Item → ℕ → List Item → List ℕ
lines_from line all n items = flat_map (λ p. line (take p.0 all) p.1) (enumerate_from n items)

-- go by the items before them
same_fronts : (line : List Item → Item → List ℕ) (items : List Item) (n : ℕ) (all more : List Item)
    → ((k : ℕ) → k < n + length items → take k all ≡ take k more) → lines_from line all n items ≡ lines_from line more n items
same_fronts line [] n all more h = refl
same_fronts line (item ∷ items) n all more h =
    ap₂ (λ (before : List Item) (l : List ℕ). line before item ++ l) (h n (omega arith))
    (same_fronts line items (n + 1) all more (λ k lt. h k (omega (arith, lt))))

enumerate_from-snoc : {X : Type 0} (n : ℕ) (xs : List X) (x : X)
    → enumerate_from n (xs ++ x ∷ []) ≡ enumerate_from n xs ++ (n + length xs, x) ∷ []
enumerate_from-snoc {X = X} n [] x = ap (λ (m : ℕ). (m, x) ∷ []) (omega arith)
enumerate_from-snoc {X = X} n (y ∷ xs) x =
    ap (λ (l : List (ℕ × X)). (n, y) ∷ l)
    (enumerate_from-snoc (n + 1) xs x ∙ ap (λ (m : ℕ). enumerate_from (n + 1) xs ++ (m, x) ∷ []) (omega arith))

pub lines_from-snoc : (line : List Item → Item → List ℕ) (given : List Item) (item : Item)
    → lines_from line (given ++ item ∷ []) 0 (given ++ item ∷ []) ≡ lines_from line given 0 given ++ line given item
lines_from-snoc line given item =
    let all : List Item = given ++ item ∷ [] in
    let one : (ℕ × Item) → List ℕ = λ p. line (take p.0 all) p.1 in
    ap (flat_map one) (enumerate_from-snoc 0 given item)
    ∙ flat_map-append one (enumerate_from 0 given) ((0 + length given, item) ∷ [])
    ∙ ap₂ (λ (xs ys : List ℕ). xs ++ ys)
    (same_fronts line given 0 all given (λ k lt. take-append-le k given (item ∷ []) (omega (arith, lt))))
    (append-nil (line (take (0 + length given) all) item)
    ∙ ap (λ (before : List Item). line before item)
    (ap (λ (n : ℕ). take n all) (omega arith) ∙ take-append_seam given (item ∷ [])))

check_lines-snoc : (given : List Item) (item : Item)
    → check_lines (given ++ item ∷ []) ≡ check_lines given ++ finding_lines given item
unfolding check_lines
check_lines-snoc given item = lines_from-snoc finding_lines given item

explained_lines-snoc : (apart : Bool) (given : List Item) (item : Item)
    → explained_lines apart (given ++ item ∷ []) ≡ explained_lines apart given ++ explained_findings apart given item
unfolding explained_lines
explained_lines-snoc apart given item = lines_from-snoc (explained_findings apart) given item

-- ---- data

abbrev data_line : Encoding → Bool → List Item → Item → List ℕ
data_line enc noted before item = item_line enc (notes_if noted before item) item

data_lines-snoc : (enc : Encoding) (noted : Bool) (given : List Item) (item : Item)
    → data_lines enc noted (given ++ item ∷ []) ≡ data_lines enc noted given ++ data_line enc noted given item
unfolding data_lines
data_lines-snoc enc noted given item = lines_from-snoc (data_line enc noted) given item

-- the notes are those that are counted
counted_notes : (noted : Bool) (c : Totals) (given : List Item) (item : Item) → IsCount c given
    → notes_if noted given item ≡ notes_at noted c item
counted_notes false c given item k = refl
counted_notes true c given item k =
    let opened : ℕ = cond (opens_group item) 1 0 in
    let at : ℕ → ℕ → ℕ → Notes =
    λ groups in_group records. record { group = groups + opened; transaction = in_group; line = records + 1 } in
    ap (λ (n : ℕ). Some (at n (count_by is_transaction (after_last opens_group given)) (length (records_in given))))
    (sym k.groups)
    ∙ ap₂ (λ (n m : ℕ). Some (at c.groups n m)) (sym k.in_group) (sym k.records)

-- ---- all of them

-- no items have no lines
pub told_none : (explained up_to_fault : Bool) → (lines_told explained up_to_fault).lines [] ≡ []
unfolding check_lines explained_lines
told_none false false = refl
told_none false true = refl
told_none true false = refl
told_none true true = refl

check_more : (c : Totals) (given : List Item) (item : Item) → IsCount c given
    → check_lines (given ++ item ∷ []) ≡ check_lines given ++ finding_lines_in c.groups c.in_group item
check_more c given item k =
    check_lines-snoc given item
    ∙ ap₂ (λ (group sequence : ℕ). check_lines given ++ finding_lines_in group sequence item) (sym k.groups) (sym k.in_group)

explained_more : (apart : Bool) (c : Totals) (given : List Item) (item : Item) → IsCount c given
    → explained_lines apart (given ++ item ∷ [])
    ≡ explained_lines apart given ++ explained_in apart c.groups c.in_group (c.records + 1) item
explained_more apart c given item k =
    explained_lines-snoc apart given item
    ∙ ap₂ (λ (group sequence : ℕ). explained_lines apart given
    ++ explained_in apart group sequence (length (records_in given) + 1) item) (sym k.groups) (sym k.in_group)
    ∙ ap (λ (n : ℕ). explained_lines apart given ++ explained_in apart c.groups c.in_group (n + 1) item) (sym k.records)

pub told_more : (explained up_to_fault : Bool) (c : Totals) (given : List Item) (item : Item) → IsCount c given
    → (lines_told explained up_to_fault).lines (given ++ item ∷ [])
    ≡ (lines_told explained up_to_fault).lines given ++ findings_at explained up_to_fault c item
told_more false false c given item k = check_more c given item k
told_more false true c given item k = check_more c given item k
told_more true false c given item k = explained_more false c given item k
told_more true true c given item k = explained_more true c given item k

-- a transaction without findings has no lines
check_clean : (given : List Item) (t : List RecordValue) → findings t ≡ []
    → check_lines (given ++ items.Transaction t ∷ []) ≡ check_lines given
check_clean given t none =
    check_lines-snoc given (items.Transaction t)
    ∙ ap (λ (found : List Finding). check_lines given ++ flat_map
    (finding_line (count_by opens_group given) (count_by is_transaction (after_last opens_group given))) found) none
    ∙ append-nil (check_lines given)

explained_clean : (apart : Bool) (given : List Item) (t : List RecordValue) → findings t ≡ []
    → explained_lines apart (given ++ items.Transaction t ∷ []) ≡ explained_lines apart given
explained_clean apart given t none =
    explained_lines-snoc apart given (items.Transaction t)
    ∙ ap (λ (found : List Finding). explained_lines apart given ++ flat_map (explained_finding apart (count_by opens_group given)
    (count_by is_transaction (after_last opens_group given)) (length (records_in given) + 1) t) found) none
    ∙ append-nil (explained_lines apart given)

pub told_passed : (explained up_to_fault : Bool) (given : List Item) (t : List RecordValue) → findings t ≡ []
    → (lines_told explained up_to_fault).lines (given ++ items.Transaction t ∷ [])
    ≡ (lines_told explained up_to_fault).lines given
told_passed false false given t none = check_clean given t none
told_passed false true given t none = check_clean given t none
told_passed true false given t none = explained_clean false given t none
told_passed true true given t none = explained_clean true given t none

-- with a transaction more, which begins after so many records
pub told_transaction : (explained up_to_fault : Bool) (c : Totals) (given : List Item) (item : Item) (t : List RecordValue)
    (before : ℕ) → IsCount c given → item ≡ items.Transaction t → before ≡ c.records
    → (lines_told explained up_to_fault).lines (given ++ item ∷ [])
    ≡ (lines_told explained up_to_fault).lines given ++ transaction_lines explained up_to_fault c.groups c.in_group (before + 1) t
told_transaction explained up_to_fault c given item t before k is e =
    told_more explained up_to_fault c given item k
    ∙ ap (λ (l : List ℕ). (lines_told explained up_to_fault).lines given ++ l) (by explained)
  where
    by : (with_notes : Bool)
        → findings_at with_notes up_to_fault c item ≡ transaction_lines with_notes up_to_fault c.groups c.in_group (before + 1) t
    by false = ap (finding_lines_in c.groups c.in_group) is
    by true = ap₂ (λ (n : ℕ) (it : Item). explained_in up_to_fault c.groups c.in_group (n + 1) it) (sym e) is

-- with any other item, which has no findings
pub told_other : (explained up_to_fault : Bool) (c : Totals) (given : List Item) (item : Item) → IsCount c given
    → is_transaction item ≡ false
    → (lines_told explained up_to_fault).lines (given ++ item ∷ []) ≡ (lines_told explained up_to_fault).lines given ++ []
told_other explained up_to_fault c given item k other =
    told_more explained up_to_fault c given item k
    ∙ ap (λ (l : List ℕ). (lines_told explained up_to_fault).lines given ++ l) (by explained item other)
  where
    by : (with_notes : Bool) (it : Item) → is_transaction it ≡ false → findings_at with_notes up_to_fault c it ≡ []
    by false (items.Transaction t) e = absurd (cc e)
    by true (items.Transaction t) e = absurd (cc e)
    by false (items.Opened r) e = refl
    by true (items.Opened r) e = refl
    by false (items.GroupOpened r) e = refl
    by true (items.GroupOpened r) e = refl
    by false (items.GroupClosed r) e = refl
    by true (items.GroupClosed r) e = refl
    by false items.Ended e = refl
    by true items.Ended e = refl

-- which items are none
pub no_transaction : (item : Item) → ((r : RecordValue) × (item ≡ items.Opened r))
    ⊎ (((r : RecordValue) × (item ≡ items.GroupOpened r))
    ⊎ (((r : RecordValue) × (item ≡ items.GroupClosed r)) ⊎ (item ≡ items.Ended))) → is_transaction item ≡ false
no_transaction item (inl (r, e)) = ap is_transaction e
no_transaction item (inr (inl (r, e))) = ap is_transaction e
no_transaction item (inr (inr (inl (r, e)))) = ap is_transaction e
no_transaction item (inr (inr (inr e))) = ap is_transaction e

-- memory is taken for a transaction with findings
pub told_memory : (explained up_to_fault : Bool) (item : Item) (t : List RecordValue) → item ≡ items.Transaction t
    → has_findings (items.Transaction t) ≡ (lines_told explained up_to_fault).take_memory item
told_memory false false item t is = ap has_findings (sym is)
told_memory true false item t is = ap has_findings (sym is)
told_memory false true item t is = ap has_findings (sym is)
told_memory true true item t is = ap has_findings (sym is)

pub records_none : show_lines [] ≡ []
unfolding show_lines
records_none = refl

pub data_none : (enc : Encoding) (noted : Bool) → data_lines enc noted [] ≡ []
unfolding data_lines
data_none enc noted = refl

data_more : (enc : Encoding) (noted : Bool) (c : Totals) (given : List Item) (item : Item) → IsCount c given
    → data_lines enc noted (given ++ item ∷ []) ≡ data_lines enc noted given ++ item_line enc (notes_at noted c item) item
data_more enc noted c given item k =
    data_lines-snoc enc noted given item
    ∙ ap (λ (n : Option Notes). data_lines enc noted given ++ item_line enc n item) (counted_notes noted c given item k)

-- the same with these notes
pub noted_more : (enc : Encoding) (noted : Bool) (c : Totals) (given : List Item) (item : Item) (notes : Option Notes)
    → IsCount c given → notes ≡ notes_at noted c item
    → data_lines enc noted (given ++ item ∷ []) ≡ data_lines enc noted given ++ item_line enc notes item
noted_more enc noted c given item notes k e =
    data_more enc noted c given item k ∙ ap (λ (n : Option Notes). data_lines enc noted given ++ item_line enc n item) (sym e)

records_more : (c : Totals) (given : List Item) (item : Item) → IsCount c given
    → show_lines (given ++ item ∷ []) ≡ show_lines given ++ numbered_records (c.records + 1) (item_records item)
unfolding show_lines
records_more c given item k =
    ap (numbered_records 1) (flat_map-append item_records given (item ∷ [])
    ∙ ap (λ (l : List RecordValue). records_in given ++ l) (append-nil (item_records item)))
    ∙ numbered_records-append 1 (records_in given) (item_records item)
    ∙ ap (λ (n : ℕ). numbered_records 1 (records_in given) ++ numbered_records n (item_records item)) (omega (arith, k.records))

-- the same from this number
pub records_from : (c : Totals) (given : List Item) (item : Item) (before : ℕ) → IsCount c given → before ≡ c.records
    → show_lines (given ++ item ∷ []) ≡ show_lines given ++ numbered_records (before + 1) (item_records item)
records_from c given item before k e =
    records_more c given item k ∙ ap (λ (n : ℕ). show_lines given ++ numbered_records (n + 1) (item_records item)) (sym e)
