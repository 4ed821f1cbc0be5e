-- The lines of JSON are their data, printed.
use Rattle.std.proofs.Common.{◌≡◌, ℕ, Bool, true, false, cond, List, [], ◌∷◌, ◌++◌, drop, Option, Some, None, refl, sym, ap, ◌∙◌}
use Rattle.std.proofs.Common.{append-nil, append_assoc, subst}
use Rattle.std.specs.Prelude.{◌||◌, codes, decimal, map, option_map, zip}
use Rattle.json.specs.Token.{Token}
use Rattle.json.specs.Json.{array, item, no_members, number, object, string}
use Rattle.json.specs.Tree.{items_tokens, json_tokens}
use Rattle.json.specs.Print.{escape, escape_byte, print_from, quoted}
use Rattle.cwr_fields.specs.declared.message_codes.TransactionStatus.{TransactionStatus}
use Rattle.cwr_fields.specs.declared.message_codes.TransactionStatus.TheVariants as status
use Rattle.cwr_fields.specs.Format.Bytes.{trimmed}
use Rattle.cwr_fields.specs.Format.MessageCodes.{status_code, transaction_statuses}
use Rattle.cwr_fields.specs.declared.kinds.Kind.{Kind}
use Rattle.cwr_fields.specs.declared.kinds.Kind.TheVariants.{Hdr}
use Rattle.cwr_fields.specs.Format.Kinds.{letters}
use Rattle.cwr_lines.specs.Format.Records.{RecordValue, cell_named}
use Rattle.cwr_json.specs.declared.encodings.Encoding.{Encoding}
use Rattle.cwr_json.specs.Format.Encodings.{characters}
use Rattle.cwr_sent.specs.declared.facts.SentFacts.{SentFacts}
use Rattle.cwr_delivery.specs.declared.outcomes.Notes.{Notes}
use Rattle.cwr_delivery.specs.Format.Acknowledgements.{is_message, status_in, worst_level}
use Rattle.cwr_delivery.specs.Format.Answering.{group_of, sequence_of}
use Rattle.cwr_acks.specs.declared.forms.Form.TheVariants as forms
use Rattle.cwr_acks.specs.Format.AckTexts.{number_part, status_words, words_of}
use Rattle.cwr_acks.specs.Format.AckData.{ack_data, counts_data, data_line, message_data, message_items, place_data}
use Rattle.cwr_acks.specs.Format.AckData.{unanswered_data, with_cell_if, with_counts}
use Rattle.cwr_acks.specs.Steps.AckSteps.{message_in}
use Rattle.cwr_acks.specs.Steps.DataTexts.{ack_members, cell_member, cell_member_if, comma_if, count_key, count_members}
use Rattle.cwr_acks.specs.Steps.DataTexts.{counts_data_text, level_member, message_part, name_member, notes_members_if}
use Rattle.cwr_acks.specs.Steps.DataTexts.{shown_cell, unanswered_members}
use Rattle.cwr_delivery.proofs.lemmas.NamedCells.{or_false, or_true}
use Rattle.cwr_acks.proofs.lemmas.PrintedParts.{Begins, Follows, array_shown, begins_alone, begins_member, cell_follows}
use Rattle.cwr_acks.proofs.lemmas.PrintedParts.{cell_follows_if, cell_shown, follows_last, follows_none, level_follows}
use Rattle.cwr_acks.proofs.lemmas.PrintedParts.{line_shown, notes_follow, number_follows, number_follows_if, number_shown}
use Rattle.cwr_acks.proofs.lemmas.PrintedParts.{object_listed, object_shown, opens_member, opens_name, text_follows}

-- ---- what stands for itself

plain_words : (s : TransactionStatus) → escape (words_of s) ≡ words_of s
unfolding escape_byte
plain_words status.Conflict = refl
plain_words this_status = refl

plain_status : (o : Option TransactionStatus) → escape (status_words o) ≡ status_words o
plain_status None = refl
plain_status (Some s) = plain_words s

plain_letters : (this_kind : Kind) → escape (letters this_kind) ≡ letters this_kind
unfolding escape_byte
plain_letters Hdr = refl
plain_letters this_kind = refl

key_later : (s : TransactionStatus) → 44 ∷ (quoted (status_code s) ++ 58 ∷ []) ≡ count_key true (status_code s)
unfolding escape_byte
key_later status.Conflict = refl
key_later this_status = refl

-- ---- messages

regroup_message : (k o p a b c d e f rest : List ℕ)
    → k ++ ((o ++ ((p ++ (a ++ (b ++ (c ++ (d ++ e))))) ++ f)) ++ rest)
    ≡ (((((((k ++ (o ++ p)) ++ a) ++ b) ++ c) ++ d) ++ e) ++ f) ++ rest
regroup_message k o p a b c d e f rest = simp append_assoc

-- one, wherever a value may stand
message_shown : (enc : Encoding) (later : Bool) (m : RecordValue) (rest : List Token)
    → print_from later (json_tokens (message_data enc m) ++ rest) ≡ message_part enc later m ++ print_from true rest
unfolding escape_byte
message_shown enc later m rest =
    let first : List ℕ = cell_named "message level" m in
    let last : List ℕ = cell_named "message text" m in
    let parts =
    begins_member (codes "level") (codes "\"level\":") (shown_cell enc first) (string (characters enc (trimmed first))) _ _
    refl (cell_shown enc first)
    (cell_follows enc (codes "type") (codes ",\"type\":") (cell_named "message type" m) _ _ refl
    (number_follows_if (codes "record") (codes ",\"record\":") (cell_named "original record sequence" m) _ _ refl
    (cell_follows_if enc (codes "record_type") (codes ",\"record_type\":") (cell_named "message record type" m) _ _ refl
    (cell_follows_if enc (codes "validation") (codes ",\"validation\":") (cell_named "validation number" m) _ _ refl
    (follows_last (codes "text") (codes ",\"text\":") (shown_cell enc last) (string (characters enc (trimmed last))) refl
    (cell_shown enc last)))))) in
    object_listed _ _ parts later rest
    ∙ regroup_message (comma_if later) (123 ∷ []) (codes "\"level\":" ++ shown_cell enc first)
    (cell_member enc (codes ",\"type\":") (cell_named "message type" m))
    (number_part (codes ",\"record\":") (cell_named "original record sequence" m))
    (cell_member_if enc (codes ",\"record_type\":") (cell_named "message record type" m))
    (cell_member_if enc (codes ",\"validation\":") (cell_named "validation number" m)) (cell_member enc (codes ",\"text\":") last)
    (125 ∷ []) (print_from true rest)

-- those of records, each told whether one came before
abbrev pub messages_from : Encoding → Bool → List RecordValue → List ℕ
messages_from enc later [] = []
messages_from enc later (r ∷ rest) = message_in (forms.Json enc) later r ++ messages_from enc (later || is_message r) rest

ending : (later : Bool) (rest : List Token) → print_from later (Token.end_array ∷ rest) ≡ 93 ∷ print_from true rest
unfolding print_from
ending true rest = refl
ending false rest = refl

one_listed : (enc : Encoding) (later : Bool) (r : RecordValue) (t : List RecordValue) (rest : List Token) (b : Bool)
    → print_from true (items_tokens (message_items enc t) ++ rest) ≡ messages_from enc true t ++ 93 ∷ print_from true rest
    → print_from later (items_tokens (message_items enc t) ++ rest) ≡ messages_from enc later t ++ 93 ∷ print_from true rest
    → print_from later (items_tokens (cond b (item (message_data enc r) (message_items enc t)) (message_items enc t)) ++ rest)
    ≡ (cond b (message_part enc later r) [] ++ messages_from enc (later || b) t) ++ 93 ∷ print_from true rest
one_listed enc later r t rest true after same =
    ap (print_from later) (append_assoc (json_tokens (message_data enc r)) (items_tokens (message_items enc t)) rest)
    ∙ message_shown enc later r (items_tokens (message_items enc t) ++ rest)
    ∙ ap (λ (l : List ℕ). message_part enc later r ++ l) after
    ∙ sym (append_assoc (message_part enc later r) (messages_from enc true t) (93 ∷ print_from true rest))
    ∙ ap (λ (b : Bool). (message_part enc later r ++ messages_from enc b t) ++ 93 ∷ print_from true rest) (sym (or_true later))
one_listed enc later r t rest false after same =
    same ∙ ap (λ (b : Bool). messages_from enc b t ++ 93 ∷ print_from true rest) (sym (or_false later))

items_listed : (enc : Encoding) (later : Bool) (t : List RecordValue) (rest : List Token)
    → print_from later (items_tokens (message_items enc t) ++ rest) ≡ messages_from enc later t ++ 93 ∷ print_from true rest
items_listed enc later [] rest = ending later rest
items_listed enc later (r ∷ t) rest = one_listed enc later r t rest (is_message r) (items_listed enc true t rest) (items_listed enc later t rest)

-- ---- an acknowledgement

regroup_ack : (o fi se p w1 w q g1 g t1 t y l s r ti nt m1 m b c e : List ℕ)
    → (o ++ ((fi ++ (se ++ (p ++ ((w1 ++ (w ++ q))
    ++ ((g1 ++ g) ++ ((t1 ++ t) ++ (y ++ (l ++ (s ++ (r ++ (ti ++ (nt ++ (m1 ++ (m ++ b)))))))))))))) ++ c)) ++ e
    ≡ (((((o ++ fi) ++ se) ++ (((((((((((p ++ w1) ++ w) ++ q) ++ ((((g1 ++ g) ++ t1) ++ t) ++ y)) ++ l) ++ s) ++ r) ++ ti) ++ nt)
    ++ m1))) ++ []) ++ m) ++ (b ++ (c ++ e))
regroup_ack o fi se p w1 w q g1 g t1 t y l s r ti nt m1 m b c e = simp (append_assoc, append-nil)

pub ack_shown : (enc : Encoding) (file sent : Option (List ℕ)) (notes : Option Notes) (a : RecordValue) (t : List RecordValue)
    → ((((codes "{" ++ name_member (codes "\"file\":") (option_map quoted file))
    ++ name_member (codes "\"sent\":") (option_map quoted sent)) ++ ack_members enc notes a (worst_level t)) ++ []
    ++ messages_from enc false t) ++ codes "]}\n" ≡ data_line (ack_data enc file sent notes a t)
unfolding escape_byte
ack_shown enc file sent notes a t =
    let first : List ℕ = cell_named "transaction status" a in
    let words : List ℕ = status_words (status_in a) in
    let texts : List ℕ = messages_from enc false t in
    let parts =
    begins_member (codes "status") (codes "\"status\":") (shown_cell enc first) (string (characters enc (trimmed first))) _ _
    refl (cell_shown enc first)
    (text_follows (codes "words") (codes ",\"words\":") words _ _ refl (plain_status (status_in a))
    (number_follows (codes "group") (codes ",\"group\":") (group_of a) _ _ refl
    (number_follows (codes "transaction") (codes ",\"transaction\":") (sequence_of a) _ _ refl
    (cell_follows enc (codes "type") (codes ",\"type\":") (cell_named "original transaction type" a) _ _ refl
    (level_follows (worst_level t) _ _
    (cell_follows_if enc (codes "submitter") (codes ",\"submitter\":") (cell_named "submitter creation number" a) _ _ refl
    (cell_follows_if enc (codes "recipient") (codes ",\"recipient\":") (cell_named "recipient creation number" a) _ _ refl
    (cell_follows_if enc (codes "title") (codes ",\"title\":") (cell_named "creation title" a) _ _ refl
    (notes_follow enc notes _ _
    (follows_last (codes "messages") (codes ",\"messages\":") (91 ∷ (texts ++ 93 ∷ [])) (array (message_items enc t)) refl
    (array_shown (message_items enc t) texts (λ rest. items_listed enc false t rest)))))))))))) in
    let whole =
    opens_name (codes "file") (codes "\"file\":") file _ _ refl
    (opens_name (codes "sent") (codes "\"sent\":") sent _ _ refl (opens_member (codes "status") _ _ _ parts)) in
    sym (line_shown (ack_data enc file sent notes a t) _ (object_shown _ _ whole.first)
    ∙ regroup_ack (123 ∷ []) (name_member (codes "\"file\":") (option_map quoted file))
    (name_member (codes "\"sent\":") (option_map quoted sent)) (codes "\"status\":" ++ shown_cell enc first) (codes ",\"words\":\"") words
    (34 ∷ []) (codes ",\"group\":") (decimal (group_of a))
    (codes ",\"transaction\":") (decimal (sequence_of a))
    (cell_member enc (codes ",\"type\":") (cell_named "original transaction type" a)) (level_member (worst_level t))
    (cell_member_if enc (codes ",\"submitter\":") (cell_named "submitter creation number" a))
    (cell_member_if enc (codes ",\"recipient\":") (cell_named "recipient creation number" a))
    (cell_member_if enc (codes ",\"title\":") (cell_named "creation title" a)) (notes_members_if enc notes)
    (codes ",\"messages\":[") texts (93 ∷ []) (125 ∷ []) (10 ∷ []))

-- ---- the end

regroup_unanswered : (o p se g1 g t1 t y1 y q su c e : List ℕ)
    → (o ++ ((p ++ (o ++ ((se ++ ((g1 ++ g) ++ ((t1 ++ t) ++ ((y1 ++ (y ++ q)) ++ su)))) ++ c))) ++ c)) ++ e
    ≡ ((o ++ (p ++ o)) ++ se) ++ ((((((((g1 ++ g) ++ t1) ++ t) ++ y1) ++ y) ++ q) ++ su) ++ (c ++ (c ++ e)))
regroup_unanswered o p se g1 g t1 t y1 y q su c e = simp append_assoc

submitter_follows : (enc : Encoding) (own : List ℕ)
    → Follows (with_cell_if enc (codes "submitter") own no_members) (cell_member_if enc (codes ",\"submitter\":") own)
unfolding escape_byte
submitter_follows enc own =
    subst (λ (l : List ℕ). Follows (with_cell_if enc (codes "submitter") own no_members) l)
    (append-nil (cell_member_if enc (codes ",\"submitter\":") own))
    (cell_follows_if enc (codes "submitter") (codes ",\"submitter\":") own no_members [] refl follows_none)

pub unanswered_shown : (enc : Encoding) (sent : Option (List ℕ)) (g t : ℕ) (f : SentFacts)
    → (codes "{\"unanswered\":{" ++ name_member (codes "\"sent\":") (option_map quoted sent)) ++ unanswered_members enc g t f
    ≡ data_line (unanswered_data enc sent g t f)
unfolding escape_byte
unanswered_shown enc sent g t f =
    let parts =
    begins_member (codes "group") (codes "\"group\":") (decimal g) (number (decimal g)) _ _ refl (number_shown (decimal g))
    (number_follows (codes "transaction") (codes ",\"transaction\":") t _ _ refl
    (text_follows (codes "type") (codes ",\"type\":") (letters f.kind) _ _ refl (plain_letters f.kind) (submitter_follows enc f.number))) in
    let place = opens_name (codes "sent") (codes "\"sent\":") sent _ _ refl (opens_member (codes "group") _ _ _ parts) in
    let whole =
    begins_alone (codes "unanswered") (codes "\"unanswered\":") _ (place_data enc sent g t f) refl (object_shown _ _ place.first) in
    sym (line_shown (unanswered_data enc sent g t f) _ (object_shown _ _ whole)
    ∙ regroup_unanswered (123 ∷ []) (codes "\"unanswered\":") (name_member (codes "\"sent\":") (option_map quoted sent))
    (codes "\"group\":") (decimal g) (codes ",\"transaction\":") (decimal t) (codes ",\"type\":\"")
    (letters f.kind) (34 ∷ []) (cell_member_if enc (codes ",\"submitter\":") f.number) (125 ∷ []) (10 ∷ []))

counts_follow : (f : TransactionStatus → ℕ) (ss : List TransactionStatus)
    → Follows (with_counts f ss) (count_members true (zip ss (map f ss)))
counts_follow f [] = follows_none
counts_follow f (s ∷ ss) =
    number_follows (status_code s) (count_key true (status_code s)) (f s) _ _ (key_later s) (counts_follow f ss)

counts_begin : (f : TransactionStatus → ℕ)
    → Begins (with_counts f transaction_statuses) (count_members false (zip transaction_statuses (map f transaction_statuses)))
unfolding escape_byte
counts_begin f =
    begins_member (codes "CO") (count_key false (codes "CO")) (decimal (f status.Conflict)) (number (decimal (f status.Conflict)))
    _ _ refl
    (number_shown (decimal (f status.Conflict)))
    (counts_follow f (drop 1 transaction_statuses))

regroup_counts : (o fi p n s m c e : List ℕ)
    → (o ++ ((fi ++ ((p ++ n) ++ (s ++ (m ++ c)))) ++ c)) ++ e ≡ (o ++ fi) ++ ((((p ++ n) ++ s) ++ m) ++ (c ++ (c ++ e)))
regroup_counts o fi p n s m c e = simp append_assoc

pub counts_shown : (file : Option (List ℕ)) (n : ℕ) (f : TransactionStatus → ℕ)
    → (codes "{" ++ name_member (codes "\"file\":") (option_map quoted file)) ++ counts_data_text n (map f transaction_statuses)
    ≡ data_line (counts_data file n f)
unfolding escape_byte
counts_shown file n f =
    let all : List ℕ = decimal n in
    let each : List ℕ = count_members false (zip transaction_statuses (map f transaction_statuses)) in
    let parts = begins_member (codes "acks") (codes "\"acks\":") all (number all) _ _ refl (number_shown all)
    (follows_last (codes "statuses") (codes ",\"statuses\":") (123 ∷ (each ++ 125 ∷ []))
    (object (with_counts f transaction_statuses)) refl
    (object_shown _ _ (counts_begin f))) in
    let whole = opens_name (codes "file") (codes "\"file\":") file _ _ refl (opens_member (codes "acks") _ _ _ parts) in
    sym (line_shown (counts_data file n f) _ (object_shown _ _ whole.first)
    ∙ regroup_counts (123 ∷ []) (name_member (codes "\"file\":") (option_map quoted file)) (codes "\"acks\":") all
    (codes ",\"statuses\":{") each (125 ∷ []) (10 ∷ []))
