-- The acknowledgements in files that are read one after another are those of each, whatever came before it.
use Rattle.std.proofs.Common.{◌≡◌, ℕ, Bool, true, false, cond, List, [], ◌∷◌, ◌++◌, refl, sym, ap, subst, ◌∙◌, append-nil, append_assoc, inl, inr}
use Rattle.std.specs.Prelude.{fold}
use Rattle.std.specs.List.{All, flat_map}
use Rattle.std.specs.List.Sorted.{IsPermutation}
use Rattle.std.proofs.lemmas.List.Elements.{All-contains}
use Rattle.std.proofs.lemmas.List.Sorted.{IsPermutation-sym}
use Rattle.cwr_lines.specs.Format.Records.{RecordValue}
use Rattle.cwr_values.specs.declared.items.Item.{Item}
use Rattle.cwr_values.specs.declared.items.Item.TheVariants.{Opened, GroupOpened, Transaction, GroupClosed, Ended}
use Rattle.cwr_delivery.specs.Format.Acknowledgements.{is_ack}
use Rattle.cwr_delivery.specs.Format.Told.{Delivered, History, Told, no_history, read_after}
use Rattle.cwr_state_rows.specs.Format.Laws.{BeginsOpened, HaveOwnDays, told_in}
use Rattle.cwr_state_rows.specs.Format.StateRows.{rows_of}
use Rattle.cwr_state_rows.proofs.lemmas.Members.{IsIn, flat_alike, to_contains}
use Rattle.cwr_state_rows.proofs.lemmas.RowLaws.{alike_rows, moved_in}

-- what was read before stands before it
after_others : (items : List Item) (r : RecordValue) (before told : List Told)
    → (read_after (record { opening = r; told = before ++ told }) items).told
    ≡ before ++ (read_after (record { opening = r; told = told }) items).told
after_others [] r before told = refl
after_others (Opened q ∷ items) r before told = after_others items q before told
after_others (Transaction [] ∷ items) r before told = after_others items r before told
after_others (Transaction (a ∷ rest) ∷ items) r before told =
    by (is_ack a) (λ more. after_others items r before more)
  where
    new : Told
    new = record { opening = r; head = a; records = a ∷ rest }

    by : (b : Bool)
        → ((more : List Told) → (read_after (record { opening = r; told = before ++ more }) items).told
        ≡ before ++ (read_after (record { opening = r; told = more }) items).told)
        → (read_after (cond b (record { opening = r; told = (before ++ told) ++ new ∷ [] })
        (record { opening = r; told = before ++ told })) items).told
        ≡ before
        ++ (read_after (cond b (record { opening = r; told = told ++ new ∷ [] }) (record { opening = r; told = told })) items).told
    by true rest =
        ap (λ (l : List Told). (read_after (record { opening = r; told = l }) items).told) (append_assoc before told (new ∷ []))
        ∙ rest (told ++ new ∷ [])
    by false rest = rest told
after_others (GroupOpened q ∷ items) r before told = after_others items r before told
after_others (GroupClosed q ∷ items) r before told = after_others items r before told
after_others (Ended ∷ items) r before told = after_others items r before told

-- those of one file
abbrev told_of_file : List Item → List Told
told_of_file file = (read_after no_history file).told

with_file : (file : List Item) (history : History) → BeginsOpened file
    → (read_after history file).told ≡ history.told ++ told_of_file file
with_file [] history begins = sym (append-nil history.told)
with_file (Opened r ∷ items) history begins =
    ap (λ (l : List Told). (read_after (record { opening = r; told = l }) items).told) (sym (append-nil history.told))
    ∙ after_others items r history.told []
with_file (Transaction t ∷ items) history begins = absurd begins
with_file (GroupOpened r ∷ items) history begins = absurd begins
with_file (GroupClosed r ∷ items) history begins = absurd begins
with_file (Ended ∷ items) history begins = absurd begins

with_files : (files : List (List Item)) (history : History) → ((file : List Item) → IsIn files file → BeginsOpened file)
    → (fold read_after history files).told ≡ history.told ++ flat_map told_of_file files
with_files [] history each = sym (append-nil history.told)
with_files (file ∷ files) history each =
    with_files files (read_after history file) (λ other there. each other (inr there))
    ∙ ap (λ (l : List Told). l ++ flat_map told_of_file files) (with_file file history (each file (inl refl)))
    ∙ append_assoc history.told (told_of_file file) (flat_map told_of_file files)

alike_files : (files other : List (List Item)) → ((file : List Item) → IsIn files file → BeginsOpened file)
    → ((file : List Item) → IsIn other file → BeginsOpened file) → ((file : List Item) → IsIn files file → IsIn other file)
    → (s : Told) → IsIn (told_in files) s → IsIn (told_in other) s
alike_files files other each each_other there s h =
    subst (λ (l : List Told). IsIn l s) (sym (with_files other no_history each_other))
    (flat_alike told_of_file files other there s
    (subst (λ (l : List Told). IsIn l s) (with_files files no_history each) h))

pub any_order_of_files : (delivered : Delivered) (files other : List (List Item)) (names : List (List ℕ))
    → IsPermutation files other → All BeginsOpened files → HaveOwnDays delivered (told_in files)
    → rows_of delivered (told_in files) names ≡ rows_of delivered (told_in other) names
any_order_of_files delivered files other names moved begins =
    let there = moved_in files other moved in
    let back = moved_in other files (IsPermutation-sym files other moved) in
    let each : (file : List Item) → IsIn files file → BeginsOpened file
    = λ file h. All-contains BeginsOpened files file begins (to_contains files file h) in
    let each_other : (file : List Item) → IsIn other file → BeginsOpened file = λ file h. each file (back file h) in
    alike_rows delivered (told_in files) (told_in other) names (alike_files files other each each_other there)
    (alike_files other files each_other each back)
