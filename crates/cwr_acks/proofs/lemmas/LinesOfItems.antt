-- The lines of items are those of all but the last, and then those of the last.
use Rattle.std.proofs.Common.{◌≡◌, ℕ, zero, suc, ◌+◌, ◌<◌, ◌≤◌, Bool, true, false, cond, List, [], ◌∷◌, ◌++◌, length, take, refl}
use Rattle.std.proofs.Common.{sym, ap, ap₂, subst, ◌∙◌, arith, append-nil, append_assoc}
use Rattle.std.specs.Prelude.{◌&&◌, ◌||◌, not, Option, Some, None, option_map, codes, count_by, decimal, is_none, is_some, map, slice_get, slice_index, zip}
use Rattle.std.specs.List.{enumerate_from, flat_map, list_any}
use Rattle.std.specs.Option.{option_and_then}
use Rattle.std.proofs.Math.Seq.{take-append_seam}
use Rattle.std.proofs.lemmas.List.{length-append}
use Rattle.std.proofs.lemmas.List.Folds.{list_any-append}
use Rattle.std.proofs.lemmas.List.Sums.{sum_by-append, sum_by-cons}
use Rattle.std.proofs.lemmas.Option.{slice_get-map}
use Rattle.json.specs.Print.{quoted}
use Rattle.cwr_fields.specs.declared.message_codes.TransactionStatus.{TransactionStatus}
use Rattle.cwr_fields.specs.Format.MessageCodes.{status_code, transaction_statuses}
use Rattle.cwr_lines.specs.Format.Records.{RecordValue}
use Rattle.cwr_values.specs.declared.items.Item.{Item}
use Rattle.cwr_values.specs.declared.items.Item.TheVariants as items
use Rattle.cwr_judge.specs.Format.Items.{is_transaction}
use Rattle.cwr_json.specs.declared.encodings.Encoding.{Encoding}
use Rattle.cwr_encode.proofs.lemmas.Numbered.{numbered}
use Rattle.cwr_tools.specs.declared.totals.Totals.{Totals}
use Rattle.cwr_tools.specs.Steps.Counts.{HasRoomToCount, IsCount}
use Rattle.cwr_tools.proofs.lemmas.LinesOfItems.{lines_from-snoc}
use Rattle.cwr_sent.specs.declared.facts.SentFacts.{SentFacts}
use Rattle.cwr_sent.specs.Format.GroupRows.{GroupRows, KeptFor}
use Rattle.cwr_sent.specs.Format.SentFacts.{SentContent}
use Rattle.cwr_sent.specs.Format.SentRows.{SentShown, content_shown}
use Rattle.cwr_sent.specs.Steps.Links.{is_for}
use Rattle.cwr_delivery.specs.declared.outcomes.Notes.{Notes}
use Rattle.cwr_delivery.specs.declared.outcomes.Outcome.{Outcome}
use Rattle.cwr_delivery.specs.declared.outcomes.Outcome.TheVariants as outcomes
use Rattle.cwr_delivery.specs.Format.Acknowledgements.{has_status, is_ack, is_answer, is_message, worst_level}
use Rattle.cwr_delivery.specs.Format.Answering.{wants_answer}
use Rattle.cwr_delivery.specs.Format.Told.{Delivered, History, Told, is_answered, notes_on, read_after, read_with}
use Rattle.cwr_delivery.specs.Steps.Deliveries.{Held, notes_held, taken_with}
use Rattle.cwr_delivery.specs.Steps.Keeping.{Keeps, group_at}
use Rattle.cwr_delivery.proofs.lemmas.Keeping.{answered_kept, keeps_opened, keeps_told, notes_told}
use Rattle.cwr_delivery.proofs.lemmas.NamedCells.{or_false}
use Rattle.cwr_acks.specs.declared.counts.Answers.{Answers}
use Rattle.cwr_acks.specs.declared.forms.Cells.{Cells}
use Rattle.cwr_acks.specs.declared.forms.Form.{Form}
use Rattle.cwr_acks.specs.declared.forms.Form.TheVariants as forms
use Rattle.cwr_acks.specs.Format.AckLines.{is_told, Matched, Telling, ack_lines, answer_as, counts_after, counts_as, lines_after}
use Rattle.cwr_acks.specs.Format.AckLines.{keeps_of, lines_of_acks, matched_after, name_of_notes, name_of_outcome, note_lines_if, shown_name, shown_telling}
use Rattle.cwr_acks.specs.Format.AckLines.{unanswered_as, unanswered_if, unanswered_in}
use Rattle.cwr_acks.specs.Format.AckLines.{unanswered_in_one}
use Rattle.cwr_acks.specs.Format.AckTexts.{ack_text, message_text, name_before, sent_part, status_part, unanswered_text}
use Rattle.cwr_acks.specs.Steps.AckSteps.{HasRoom, IsAnswers, IsKept, answers_of, held_after, line_held, lines_held, lines_of_held, answer_parts, answers_with}
use Rattle.cwr_acks.specs.Steps.AckSteps.{counts_in, counts_parts, group_lines, held_lines, kept_if, kept_with}
use Rattle.cwr_acks.specs.Steps.AckSteps.{lines_at, message_in, no_answers, notes_if, one_more_if}
use Rattle.cwr_acks.specs.Steps.AckSteps.{row_line, sent_lines, unanswered_parts}
use Rattle.cwr_acks.specs.Steps.DataTexts.{ack_members, counts_data_text, name_member, unanswered_members}
use Rattle.cwr_acks.proofs.lemmas.NamedParts.{numbered_alike}
use Rattle.cwr_acks.proofs.lemmas.PrintedAcks.{ack_shown, counts_shown, messages_from, unanswered_shown}

-- ---- counts

-- without items there are none
pub answers_none : IsAnswers no_answers []
answers_none = record { all = refl; each = refl }

one_more : (b : Bool) (n : ℕ) → one_more_if b n ≡ n + (0 + cond b 1 0)
one_more true n = omega arith
one_more false n = omega arith

count_more : (p : Item → Bool) (given : List Item) (item : Item)
    → one_more_if (p item) (count_by p given) ≡ count_by p (given ++ item ∷ [])
count_more p given item =
    let snoc : count_by p (given ++ item ∷ []) ≡ count_by p given + (0 + cond (p item) 1 0) =
    sum_by-append (λ (x : Item). cond (p x) 1 0) given (item ∷ []) in
    one_more (p item) (count_by p given) ∙ sym snoc

each_more : (given : List Item) (item : Item) (ss : List TransactionStatus)
    → map (λ (p : TransactionStatus × ℕ). one_more_if (has_status p.0 item) p.1)
    (zip ss (map (λ s. count_by (has_status s) given) ss))
    ≡ map (λ s. count_by (has_status s) (given ++ item ∷ [])) ss
each_more given item [] = refl
each_more given item (s ∷ ss) =
    ap₂ (λ (n : ℕ) (l : List ℕ). n ∷ l) (count_more (has_status s) given item) (each_more given item ss)

pub answers_more : (answers : Answers) (given : List Item) (item : Item) → IsAnswers answers given
    → IsAnswers (answers_with answers item) (given ++ item ∷ [])
answers_more answers given item h = record {
  all = ap (one_more_if (is_answer item)) h.all ∙ count_more is_answer given item;
  each =
      ap
      (λ (ns : List ℕ). map (λ (p : TransactionStatus × ℕ). one_more_if (has_status p.0 item) p.1) (zip transaction_statuses ns))
      h.each
      ∙ each_more given item transaction_statuses;
}

-- ---- room

fewer_if : (a b : Bool) → (a ≡ true → b ≡ true) → cond a 1 0 ≤ cond b 1 0
fewer_if true true h = omega arith
fewer_if true false h = absurd (cc (h refl))
fewer_if false b h = omega arith

fewer : (p q : Item → Bool) → ((item : Item) → p item ≡ true → q item ≡ true) → (given : List Item)
    → count_by p given ≤ count_by q given
fewer p q h [] = omega arith
fewer p q h (item ∷ given) =
    let one : count_by p (item ∷ given) ≡ cond (p item) 1 0 + count_by p given =
    sum_by-cons (λ (x : Item). cond (p x) 1 0) item given in
    let two : count_by q (item ∷ given) ≡ cond (q item) 1 0 + count_by q given =
    sum_by-cons (λ (x : Item). cond (q x) 1 0) item given in
    omega (arith, one, two, fewer_if (p item) (q item) (h item), fewer p q h given)

answer_is : (item : Item) → is_answer item ≡ true → is_transaction item ≡ true
answer_is (items.Transaction t) h = refl
answer_is (items.Opened r) h = absurd (cc h)
answer_is (items.GroupOpened r) h = absurd (cc h)
answer_is (items.GroupClosed r) h = absurd (cc h)
answer_is items.Ended h = absurd (cc h)

status_is : (s : TransactionStatus) (item : Item) → has_status s item ≡ true → is_transaction item ≡ true
status_is s (items.Transaction t) h = refl
status_is s (items.Opened r) h = absurd (cc h)
status_is s (items.GroupOpened r) h = absurd (cc h)
status_is s (items.GroupClosed r) h = absurd (cc h)
status_is s items.Ended h = absurd (cc h)

each_small : (f : TransactionStatus → ℕ) (most : ℕ) → ((s : TransactionStatus) → f s ≤ most)
    → (ss : List TransactionStatus) (k : ℕ)
    → slice_index (map f ss) k ≤ most
each_small f most h [] k = omega arith
each_small f most h (s ∷ ss) zero = h s
each_small f most h (s ∷ ss) (suc j) = each_small f most h ss j

pub answers_room : (answers : Answers) (c : Totals) (given : List Item) → IsAnswers answers given → IsCount c given
    → HasRoomToCount c → HasRoom answers
answers_room answers c given h k room = record {
  all = omega (arith, h.all, fewer is_answer is_transaction answer_is given, k.transactions, room.transactions);
  each = λ n. subst (λ (ns : List ℕ). slice_index ns n ≤ 199999998) (sym h.each)
      (each_small (λ s. count_by (has_status s) given) 199999998
      (λ s. omega (arith, fewer (has_status s) is_transaction (status_is s) given, k.transactions, room.transactions))
      transaction_statuses n);
  ten = ap length h.each;
}

-- ---- an acknowledgement

-- a message more
any_snoc : (front : List RecordValue) (r : RecordValue)
    → list_any is_message (front ++ r ∷ []) ≡ (list_any is_message front || is_message r)
any_snoc front r =
    list_any-append is_message front (r ∷ []) ∙ ap (λ (b : Bool). list_any is_message front || b) (or_false (is_message r))

-- the messages of a list, each told whether one came before
messages_after : (enc : Encoding) (front rest : List RecordValue)
    → numbered (λ n r. message_in (forms.Json enc) (list_any is_message (take n (front ++ rest))) r) (length front) rest
    ≡ messages_from enc (list_any is_message front) rest
messages_after enc front [] = refl
messages_after enc front (r ∷ rest) =
    let all : List RecordValue = front ++ r ∷ rest in
    let part : List RecordValue → ℕ → RecordValue → List ℕ = λ l n x. message_in (forms.Json enc) (list_any is_message (take n l)) x in
    let next : List RecordValue = front ++ r ∷ [] in
    let number : length front + 1 ≡ length next = omega (arith, length-append front (r ∷ [])) in
    let same : all ≡ next ++ rest = sym (append_assoc front (r ∷ []) rest) in
    let more : numbered (part all) (length front + 1) rest ≡ messages_from enc (list_any is_message front || is_message r) rest
    = ap₂ (λ (l : List RecordValue) (n : ℕ). numbered (part l) n rest) same number ∙ messages_after enc next rest
    ∙ ap (λ (b : Bool). messages_from enc b rest)
    (any_snoc front r) in
    ap₂ (λ (l m : List ℕ). l ++ m)
    (ap (λ (l : List RecordValue). message_in (forms.Json enc) (list_any is_message l) r) (take-append_seam front (r ∷ rest))) more

name_of : (f : List ℕ → List ℕ) (names : List (List ℕ)) (o : Outcome)
    → name_of_outcome (map f names) o ≡ option_map f (name_of_outcome names o)
name_of f names (outcomes.Answers i facts) = slice_get-map f names i
name_of f names outcomes.Unsent = refl
name_of f names outcomes.Unclear = refl
name_of f names (outcomes.Retyped this_kind) = refl
name_of f names (outcomes.Renumbered own) = refl

name_told : (f : List ℕ → List ℕ) (names : List (List ℕ)) (notes : Option Notes)
    → name_of_notes (map f names) notes ≡ option_map f (name_of_notes names notes)
name_told f names None = refl
name_told f names (Some notes) = name_of f names notes.outcome

plain_name : (cells : Cells) (o : Option (List ℕ)) → option_map (shown_name (forms.Words cells)) o ≡ o
plain_name cells None = refl
plain_name cells (Some n) = refl

quoted_name : (enc : Encoding) (o : Option (List ℕ)) → option_map (shown_name (forms.Json enc)) o ≡ option_map quoted o
quoted_name enc None = refl
quoted_name enc (Some n) = refl

answer_at : (form : Form) (statuses : List TransactionStatus) (file : Option (List ℕ)) (names : List (List ℕ)) (notes : Option Notes)
    (a : RecordValue) (t : List RecordValue)
    → answer_parts (shown_telling (record { form = form; statuses = statuses; file = file; names = names })) notes a t
    ≡ answer_as form (record { form = form; statuses = statuses; file = file; names = names }) notes a t
answer_at (forms.Words cells) statuses file names notes a t =
    let text : List ℕ = ack_text cells a (worst_level t) in
    let name : Option (List ℕ) = name_of_notes (map (shown_name (forms.Words cells)) names) notes in
    ap (λ (l : List ℕ). ((text ++ (sent_part name ++ codes "\n")) ++ l) ++ note_lines_if cells notes a) (numbered_alike (message_text cells) 0 t)
    ∙ ap (λ (l : List ℕ). (l ++ flat_map (message_text cells) t) ++ note_lines_if cells notes a)
    (sym (append_assoc text (sent_part name) (codes "\n")))
    ∙ ap (λ (o : Option (List ℕ)). (((text ++ sent_part o) ++ codes "\n") ++ flat_map (message_text cells) t) ++ note_lines_if cells notes a)
    (name_told (shown_name (forms.Words cells)) names notes ∙ plain_name cells (name_of_notes names notes))
answer_at (forms.Json enc) statuses file names notes a t =
    let name : Option (List ℕ) = name_of_notes names notes in
    let parts : Option (List ℕ) → Option (List ℕ) → List ℕ → List ℕ =
    λ f n l. (((((codes "{" ++ name_member (codes "\"file\":") f) ++ name_member (codes "\"sent\":") n)
    ++ ack_members enc notes a (worst_level t)) ++ []) ++ l) ++ codes "]}\n" in
    ap (parts (option_map (shown_name (forms.Json enc)) file) (name_of_notes (map (shown_name (forms.Json enc)) names) notes))
    (messages_after enc [] t)
    ∙ ap₂ (λ (f n : Option (List ℕ)). parts f n (messages_from enc false t)) (quoted_name enc file)
    (name_told (shown_name (forms.Json enc)) names notes ∙ quoted_name enc name)
    ∙ ack_shown enc file name notes a t

answer_is_told : (telling : Telling) (notes : Option Notes) (a : RecordValue) (t : List RecordValue)
    → answer_parts (shown_telling telling) notes a t ≡ answer_as telling.form telling notes a t
answer_is_told telling notes a t = answer_at telling.form telling.statuses telling.file telling.names notes a t

-- ---- counts

parts_are : (f : TransactionStatus → ℕ) (ss : List TransactionStatus)
    → flat_map (λ (p : TransactionStatus × ℕ). status_part (status_code p.0) p.1) (zip ss (map f ss))
    ≡ flat_map (λ s. status_part (status_code s) (f s)) ss
parts_are f [] = refl
parts_are f (s ∷ ss) = ap (λ (l : List ℕ). status_part (status_code s) (f s) ++ l) (parts_are f ss)

counts_at : (form : Form) (file : Option (List ℕ)) (answers : Answers) (n : ℕ) (f : TransactionStatus → ℕ) → answers.all ≡ n
    → answers.by_status ≡ map f transaction_statuses
    → counts_parts form (option_map (shown_name form) file) answers ≡ counts_as form file n f
counts_at (forms.Words cells) file answers n f all each =
    ap₂ (λ (m : ℕ) (ns : List ℕ). codes "ACKS " ++ decimal m
    ++ flat_map (λ (p : TransactionStatus × ℕ). status_part (status_code p.0) p.1)
    (zip transaction_statuses ns) ++ codes "\n") all each
    ∙ ap (λ (l : List ℕ). codes "ACKS " ++ decimal n ++ l ++ codes "\n") (parts_are f transaction_statuses)
counts_at (forms.Json enc) file answers n f all each =
    ap₂ (λ (m : ℕ) (ns : List ℕ). (codes "{" ++ name_member (codes "\"file\":") (option_map (shown_name (forms.Json enc)) file))
    ++ counts_data_text m ns) all each
    ∙ ap (λ (o : Option (List ℕ)). (codes "{" ++ name_member (codes "\"file\":") o)
    ++ counts_data_text n (map f transaction_statuses)) (quoted_name enc file)
    ∙ counts_shown file n f

counts_are : (telling : Telling) (answers : Answers) (given : List Item) → IsAnswers answers given
    → counts_in (shown_telling telling) answers ≡ counts_after telling given
counts_are telling answers given h =
    counts_at telling.form telling.file answers (count_by is_answer given) (λ s. count_by (has_status s) given) h.all h.each

same_none : (f : List ℕ → List ℕ) (o : Option (List ℕ)) → is_none o ≡ is_none (option_map f o)
same_none f None = refl
same_none f (Some n) = refl

-- ---- what isn't answered

unanswered_are : (form : Form) (name : Option (List ℕ)) (g t : ℕ) (f : SentFacts)
    → unanswered_parts form (option_map (shown_name form) name) g t f ≡ unanswered_as form name g t f
unanswered_are (forms.Words cells) name g t f =
    ap (λ (o : Option (List ℕ)). name_before o ++ unanswered_text cells g t f) (plain_name cells name)
unanswered_are (forms.Json enc) name g t f =
    ap (λ (o : Option (List ℕ)). (codes "{\"unanswered\":{" ++ name_member (codes "\"sent\":") o) ++ unanswered_members enc g t f)
    (quoted_name enc name)
    ∙ unanswered_shown enc name g t f

row_is : (telling : Telling) (name : Option (List ℕ)) (g t : ℕ) (f : SentFacts) (kept told : Bool) → kept ≡ told
    → cond (wants_answer f && not kept) (unanswered_parts telling.form (option_map (shown_name telling.form) name) g t f) []
    ≡ unanswered_if told telling.form name g t f
row_is telling name g t f kept told same =
    ap₂ (λ (b : Bool) (l : List ℕ). cond (wants_answer f && not b) l []) same (unanswered_are telling.form name g t f)

rows_are : (telling : Telling) (d : Delivered) (told : List Told) (i g : ℕ) (name : Option (List ℕ)) (ks : List KeptFor) (t : ℕ)
    (fs : List SentFacts)
    → ((u : ℕ) → t ≤ u → u < t + length fs → list_any (is_for u) ks ≡ is_answered d told i g u)
    → numbered (row_line (shown_telling telling) (option_map (shown_name telling.form) name) g ks) t fs
    ≡ flat_map (λ (q : ℕ × SentFacts). unanswered_if (is_answered d told i g q.0) telling.form name g q.0 q.1) (enumerate_from t fs)
rows_are telling d told i g name ks t [] h = refl
rows_are telling d told i g name ks t (f ∷ fs) h =
    ap₂ (λ (a b : List ℕ). a ++ b)
    (row_is telling name g t f (list_any (is_for t) ks) (is_answered d told i g t) (h t (omega arith) (omega arith)))
    (rows_are telling d told i g name ks (t + 1) fs (λ u lo hi. h u (omega (arith, lo)) (omega (arith, hi))))

groups_are : (telling : Telling) (d : Delivered) (told : List Told) (i k n : ℕ) (name : Option (List ℕ)) (gs : List GroupRows)
    → n ≡ suc k
    → ((j : ℕ) (group : GroupRows) (t : ℕ) → slice_get gs j ≡ Some group → t < length group.facts
    → list_any (is_for t) group.answers ≡ is_answered d told i (suc (k + j)) t)
    → numbered (group_lines (shown_telling telling) (option_map (shown_name telling.form) name)) n gs
    ≡ flat_map (λ (p : ℕ × List SentFacts). flat_map
    (λ (q : ℕ × SentFacts). unanswered_if (is_answered d told i p.0 q.0) telling.form name p.0 q.0 q.1) (enumerate_from 0 p.1))
    (enumerate_from n (map (λ (g : GroupRows). g.facts) gs))
groups_are telling d told i k n name [] is h = refl
groups_are telling d told i k n name (g ∷ gs) is h =
    ap₂ (λ (a b : List ℕ). a ++ b)
    (rows_are telling d told i n name g.answers 0 g.facts (λ u lo hi.
    h 0 g u refl (omega (arith, hi)) ∙ ap (λ (m : ℕ). is_answered d told i m u) (omega (arith, is))))
    (groups_are telling d told i (suc k) (n + 1) name gs (omega (arith, is)) (λ j group t at within.
    h (suc j) group t at within
    ∙ ap (λ (m : ℕ). is_answered d told i m t) (let e : suc (k + suc j) ≡ suc (suc k + j) = omega arith in e)))

sents_are : (telling : Telling) (d : Delivered) (told : List Told) (i : ℕ) (ss : List SentShown)
    → ((j : ℕ) (s : SentShown) → slice_get ss j ≡ Some s → (g : ℕ) (group : GroupRows) (t : ℕ) → slice_get s.groups g ≡ Some group
    → t < length group.facts → list_any (is_for t) group.answers ≡ is_answered d told (i + j) (suc g) t)
    → numbered (sent_lines (shown_telling telling)) i ss
    ≡ flat_map (λ (p : ℕ × SentContent). unanswered_in_one telling d told p.0 p.1) (enumerate_from i (map content_shown ss))
sents_are telling d told i [] h = refl
sents_are telling d told i (s ∷ ss) h =
    ap₂ (λ (a b : List ℕ). a ++ b)
    (ap (λ (o : Option (List ℕ)). numbered (group_lines (shown_telling telling) o) 1 s.groups)
    (slice_get-map (shown_name telling.form) telling.names i)
    ∙ groups_are telling d told i 0 1 (slice_get telling.names i) s.groups refl (λ j group t at within.
    h 0 s refl j group t at within ∙ ap₂ (λ (m n : ℕ). is_answered d told m n t)
    (let e : i + 0 ≡ i = omega arith in e) (let e : suc j ≡ suc (0 + j) = omega arith in e)))
    (sents_are telling d told (i + 1) ss (λ j x at g group t there within.
    h (suc j) x at g group t there within
    ∙ ap (λ (m : ℕ). is_answered d told m (suc g) t) (let e : i + suc j ≡ i + 1 + j = omega arith in e)))

in_sent : (sent : List SentShown) (i g : ℕ) (s : SentShown) (group : GroupRows) → slice_get sent i ≡ Some s
    → slice_get s.groups g ≡ Some group → group_at sent i g ≡ Some group
in_sent sent i g s group at there =
    ap (λ (o : Option SentShown). option_and_then (λ (x : SentShown). slice_get x.groups g) o) at ∙ there

held_are : (telling : Telling) (d : Delivered) (history : History) (h : Held) → Keeps d history h
    → held_lines (shown_telling telling) h ≡ unanswered_in telling d history.told
held_are telling d history h keeps =
    sents_are telling d history.told 0 h.sent (λ i s at g group t there within.
    answered_kept d history h i g t group keeps (in_sent h.sent i g s group at there) within
    ∙ ap (λ (m : ℕ). is_answered d history.told m (suc g) t) (let e : i ≡ 0 + i = omega arith in e))
    ∙ ap (λ (x : Delivered). flat_map (λ (p : ℕ × SentContent). unanswered_in_one telling d history.told p.0 p.1)
    (enumerate_from 0 x.sent)) keeps.sent_is

-- ---- what is kept

read_more : (history : History) (given : List Item) (item : Item)
    → read_after history (given ++ item ∷ []) ≡ read_with (read_after history given) item
read_more history [] item = refl
read_more history (x ∷ given) item = read_more (read_with history x) given item

keeps_transaction : (d : Delivered) (history : History) (h : Held) (a : RecordValue) (rest : List RecordValue) (b : Bool)
    → is_ack a ≡ b → Keeps d history h
    → Keeps d (read_with history (items.Transaction (a ∷ rest))) (kept_with h (items.Transaction (a ∷ rest)))
keeps_transaction d history h a rest true ack keeps =
    subst (λ (c : Bool). Keeps d (read_with history (items.Transaction (a ∷ rest))) (cond c (taken_with h a (a ∷ rest)) h)) (sym ack)
    (keeps_told d history h a rest ack keeps)
keeps_transaction d history h a rest false ack keeps = rw ack keeps

keeps_more : (d : Delivered) (history : History) (h : Held) (item : Item) → Keeps d history h
    → Keeps d (read_with history item) (kept_with h item)
keeps_more d history h (items.Opened r) keeps = keeps_opened d history h r keeps
keeps_more d history h (items.Transaction []) keeps = keeps
keeps_more d history h (items.Transaction (a ∷ rest)) keeps = keeps_transaction d history h a rest (is_ack a) refl keeps
keeps_more d history h (items.GroupOpened r) keeps = keeps
keeps_more d history h (items.GroupClosed r) keeps = keeps
keeps_more d history h items.Ended keeps = keeps

pub kept_more : (held : Option Held) (matched : Option Matched) (given : List Item) (item : Item) → IsKept held matched given
    → IsKept (kept_if held item) matched (given ++ item ∷ [])
kept_more None None given item k = k
kept_more (Some h) (Some m) given item k =
    subst (λ (x : History). Keeps m.delivered x (kept_with h item)) (sym (read_more m.history given item))
    (keeps_more m.delivered (read_after m.history given) h item k)
kept_more None (Some m) given item k = absurd k
kept_more (Some h) None given item k = absurd k

held_more : (held : Option Held) (given : List Item) (item : Item)
    → held_after held (given ++ item ∷ []) ≡ kept_if (held_after held given) item
held_more held [] item = refl
held_more held (x ∷ given) item = held_more (kept_if held x) given item

pub held_after_more : (held now : Option Held) (given : List Item) (item : Item) → now ≡ held_after held given
    → kept_if now item ≡ held_after held (given ++ item ∷ [])
held_after_more held now given item e = ap (λ (h : Option Held). kept_if h item) e ∙ sym (held_more held given item)

keeps_on : (held : Option Held) (matched : Option Matched) (before items : List Item) → IsKept held matched before
    → IsKept (held_after held items) matched (before ++ items)
keeps_on held matched before [] k = subst (λ (l : List Item). IsKept held matched l) (sym (append-nil before)) k
keeps_on held matched before (x ∷ items) k =
    subst (λ (l : List Item). IsKept (held_after held (x ∷ items)) matched l) (append_assoc before (x ∷ []) items)
    (keeps_on (kept_if held x) matched (before ++ x ∷ []) items (kept_more held matched before x k))

-- what is left of it is that of what was read before, and of the items
kept_left : (held : Option Held) (matched : Option Matched) (given : List Item) → IsKept held matched given
    → IsKept held (matched_after matched given) []
kept_left None None given k = k
kept_left (Some h) (Some m) given k = k
kept_left None (Some m) given k = absurd k
kept_left (Some h) None given k = absurd k

pub left_after : (held left : Option Held) (matched : Option Matched) (given : List Item) (answers : Answers) → IsKept held matched []
    → left ≡ held_after held given → answers ≡ answers_of given
    → IsKept left (matched_after matched given) [] × IsAnswers answers given
left_after held left matched given answers k e counted = (
  kept_left left matched given
      (subst (λ (h : Option Held). IsKept h matched given) (sym e) (keeps_on held matched [] given k)),
  subst (λ (a : Answers). IsAnswers a given) (sym counted) (record { all = refl; each = refl }),
)

-- ---- all lines

some_transaction : (telling : Telling) (d : Delivered) (history : History) (h : Held) (a : RecordValue) (rest : List RecordValue)
    (told b : Bool) → is_ack a ≡ b → Keeps d history h
    → cond (b && told) (answer_as telling.form telling
    (Some (notes_on d history.told (record { opening = history.opening; head = a; records = a ∷ rest }))) a (a ∷ rest)) []
    ≡ cond (b && told) (answer_parts (shown_telling telling) (cond b (Some (notes_held h a (a ∷ rest))) None) a (a ∷ rest)) []
some_transaction telling d history h a rest told true ack keeps =
    ap (λ (l : List ℕ). cond told l [])
    (sym (answer_is_told telling (Some (notes_held h a (a ∷ rest))) a (a ∷ rest)
    ∙ ap (λ (n : Notes). answer_as telling.form telling (Some n) a (a ∷ rest)) (notes_told d history h a rest ack keeps)))
some_transaction telling d history h a rest told false ack keeps = refl

lines_of : (telling : Telling) (matched : Option Matched) (held : Option Held) (answers : Answers) (given : List Item) (item : Item)
    → IsAnswers answers given → IsKept held matched given
    → lines_after telling matched given item
    ≡ lines_at (shown_telling telling) (kept_if held item) (notes_if held item) answers item
lines_of telling matched held answers given (items.Opened r) h k = refl
lines_of telling matched held answers given (items.GroupOpened r) h k = refl
lines_of telling matched held answers given (items.GroupClosed r) h k = refl
lines_of telling matched held answers given (items.Transaction []) h k = refl
lines_of telling None None answers given (items.Transaction (a ∷ rest)) h k =
    ap (λ (l : List ℕ). cond (is_ack a && is_told telling.statuses (a ∷ rest)) l []) (sym (answer_is_told telling None a (a ∷ rest)))
lines_of telling (Some m) (Some x) answers given (items.Transaction (a ∷ rest)) h k =
    some_transaction telling m.delivered (read_after m.history given) x a rest (is_told telling.statuses (a ∷ rest)) (is_ack a) refl k
lines_of telling (Some m) None answers given (items.Transaction (a ∷ rest)) h k = absurd k
lines_of telling None (Some x) answers given (items.Transaction (a ∷ rest)) h k = absurd k
lines_of telling None None answers given items.Ended h k =
    ap₂ (λ (b : Bool) (l : List ℕ). cond b [] [] ++ l) (same_none (shown_name telling.form) telling.file)
    (sym (counts_are telling answers given h))
lines_of telling (Some m) (Some x) answers given items.Ended h k =
    ap₂ (λ (l n : List ℕ). l ++ n)
    (ap₂ (λ (b : Bool) (l : List ℕ). cond b l []) (same_none (shown_name telling.form) telling.file)
    (sym (held_are telling m.delivered (read_after m.history given) x k)))
    (sym (counts_are telling answers given h))
lines_of telling (Some m) None answers given items.Ended h k = absurd k
lines_of telling None (Some x) answers given items.Ended h k = absurd k

-- the numbers of items
pub are_answers : (given : List Item) → IsAnswers (answers_of given) given
are_answers given = record { all = refl; each = refl }

pub answers_of_more : (answers : Answers) (given : List Item) (item : Item) → answers ≡ answers_of given
    → answers_with answers item ≡ answers_of (given ++ item ∷ [])
answers_of_more answers given item e =
    ap (λ (a : Answers). answers_with a item) e
    ∙ (let h = answers_more (answers_of given) given item (are_answers given) in λ z. record { all = h.all z; by_status = h.each z })

pub answers_of_room : (answers : Answers) (c : Totals) (given : List Item) → answers ≡ answers_of given → IsCount c given
    → HasRoomToCount c → HasRoom answers
answers_of_room answers c given e k room =
    subst HasRoom (sym e) (answers_room (answers_of given) c given (are_answers given) k room)

-- without items there are no lines
pub lines_none : (telling : Telling) (held : Option Held) → lines_held telling held [] ≡ []
unfolding lines_held
lines_none telling held = refl

pub lines_more : (telling : Telling) (held : Option Held) (given : List Item) (item : Item)
    → lines_held telling held (given ++ item ∷ []) ≡ lines_held telling held given ++ line_held telling held given item
unfolding lines_held
lines_more telling held given item = lines_from-snoc (line_held telling held) given item

-- the lines by what is kept are those of what was sent and read
line_told : (telling : Telling) (matched : Option Matched) (held : Option Held) (before : List Item) (item : Item)
    → IsKept held matched [] → line_held (shown_telling telling) held before item ≡ lines_after telling matched before item
line_told telling matched held before item k =
    sym (lines_of telling matched (held_after held before) (answers_of before) before item (are_answers before)
    (keeps_on held matched [] before k))

lines_told : (telling : Telling) (matched : Option Matched) (held : Option Held) → IsKept held matched [] → (items : List Item)
    → lines_held (shown_telling telling) held items ≡ ack_lines telling matched items
unfolding lines_held ack_lines
lines_told telling matched held k items =
    ap (λ (f : List Item → Item → List ℕ). flat_map (λ (q : ℕ × Item). f (take q.0 items) q.1) (enumerate_from 0 items))
    (λ z before item. line_told telling matched held before item k z)

matched_kept : (held : Option Held) (matched : Option Matched) (given : List Item) → IsKept held matched given
    → is_some held ≡ is_some matched
matched_kept None None given k = refl
matched_kept (Some d) (Some m) given k = refl
matched_kept None (Some m) given k = absurd k
matched_kept (Some d) None given k = absurd k

pub same_lines : (telling shown : Telling) (matched : Option Matched) (held : Option Held) → shown ≡ shown_telling telling
    → IsKept held matched [] → lines_of_held shown held ≡ lines_of_acks telling matched
same_lines telling shown matched held so k =
    ap (λ (t : Telling). lines_of_held t held) so
    ∙ (λ z. record {
      lines = λ items. lines_told telling matched held k items z;
      last = λ items verdict. [];
      take_memory = λ item. matched_kept held matched [] k z && keeps_of item;
    })
