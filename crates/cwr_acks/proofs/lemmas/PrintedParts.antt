-- The text of data, member by member, and of what holds them.
use Rattle.std.proofs.Common.{◌≡◌, ℕ, Bool, true, false, cond, List, [], ◌∷◌, ◌++◌, Option, Some, None, refl, sym, ap, subst, ◌∙◌}
use Rattle.std.proofs.Common.{append_assoc, append-nil}
use Rattle.std.specs.Prelude.{codes, decimal, option_map}
use Rattle.json.specs.Token.{Token}
use Rattle.json.specs.Json.{Json, boolean, number, string, array, object, Items, Members, no_members, member}
use Rattle.json.specs.Tree.{json_tokens, members_tokens, items_tokens}
use Rattle.json.specs.Print.{escape, escape_byte, print_from, quoted}
use Rattle.cwr_fields.specs.declared.message_codes.MessageLevel.{MessageLevel}
use Rattle.cwr_fields.specs.declared.message_codes.MessageLevel.TheVariants as level
use Rattle.cwr_fields.specs.Format.Bytes.{is_spaces, number_of, trimmed}
use Rattle.cwr_fields.specs.Format.MessageCodes.{level_code}
use Rattle.cwr_json.specs.declared.encodings.Encoding.{Encoding}
use Rattle.cwr_json.specs.Format.Encodings.{characters}
use Rattle.cwr_acks.specs.Format.AckTexts.{number_part}
use Rattle.cwr_acks.specs.Format.AckData.{data_line, with_cell, with_cell_if, with_level, with_mark, with_number, with_number_if}
use Rattle.cwr_acks.specs.Format.AckData.{with_name, with_notes_if, with_outcome, with_text}
use Rattle.cwr_fields.specs.declared.kinds.Kind.{Kind}
use Rattle.cwr_fields.specs.declared.kinds.Kind.TheVariants.{Hdr}
use Rattle.cwr_fields.specs.Format.Kinds.{letters}
use Rattle.cwr_delivery.specs.declared.outcomes.Notes.{Notes}
use Rattle.cwr_delivery.specs.declared.outcomes.Outcome.{Outcome}
use Rattle.cwr_delivery.specs.declared.outcomes.Outcome.TheVariants as outcomes
use Rattle.cwr_acks.specs.Steps.DataTexts.{cell_member, cell_member_if, comma_if, level_member, mark_part, name_member, notes_members_if}
use Rattle.cwr_acks.specs.Steps.DataTexts.{outcome_member, shown_cell}

-- a value has this text, whatever follows
pub record IsShownAs (j : Json) (text : List ℕ) : Type 0 where
  pub shown : (rest : List Token) → print_from false (json_tokens j ++ rest) ≡ text ++ print_from true rest

-- members have this text up to the bracket that closes them, as the first of an object
pub record Begins (ms : Members) (text : List ℕ) : Type 0 where
  pub shown : (rest : List Token) → print_from false (members_tokens ms ++ rest) ≡ text ++ 125 ∷ print_from true rest

-- and after others
pub record Follows (ms : Members) (text : List ℕ) : Type 0 where
  pub shown : (rest : List Token) → print_from true (members_tokens ms ++ rest) ≡ text ++ 125 ∷ print_from true rest

-- ---- values

pub string_shown : (s value : List ℕ) → escape s ≡ value → IsShownAs (string s) (34 ∷ (value ++ 34 ∷ []))
unfolding print_from
string_shown s value e = record { shown = λ rest. ap (λ (l : List ℕ). (34 ∷ (l ++ 34 ∷ [])) ++ print_from true rest) e }

pub number_shown : (s : List ℕ) → IsShownAs (number s) s
unfolding print_from
number_shown s = record { shown = λ rest. refl }

true_shown : IsShownAs (boolean true) (codes "true")
unfolding print_from
true_shown = record { shown = λ rest. refl }

pub cell_shown : (enc : Encoding) (cell : List ℕ) → IsShownAs (string (characters enc (trimmed cell))) (shown_cell enc cell)
cell_shown enc cell =
    string_shown (characters enc (trimmed cell)) (escape (characters enc (trimmed cell))) refl

pub array_shown : (js : Items) (text : List ℕ)
    → ((rest : List Token) → print_from false (items_tokens js ++ rest) ≡ text ++ 93 ∷ print_from true rest)
    → IsShownAs (array js) (91 ∷ (text ++ 93 ∷ []))
unfolding print_from
array_shown js text h =
    record { shown = λ rest. ap (λ (l : List ℕ). 91 ∷ l) (h rest ∙ sym (append_assoc text (93 ∷ []) (print_from true rest))) }

-- an object, after other values or as the first
pub object_listed : (ms : Members) (text : List ℕ) → Begins ms text → (later : Bool) (rest : List Token)
    → print_from later (json_tokens (object ms) ++ rest) ≡ comma_if later ++ ((123 ∷ (text ++ 125 ∷ [])) ++ print_from true rest)
unfolding print_from
object_listed ms text b false rest =
    ap (λ (l : List ℕ). 123 ∷ l) (b.shown rest ∙ sym (append_assoc text (125 ∷ []) (print_from true rest)))
object_listed ms text b true rest =
    ap (λ (l : List ℕ). 44 ∷ 123 ∷ l) (b.shown rest ∙ sym (append_assoc text (125 ∷ []) (print_from true rest)))

pub object_shown : (ms : Members) (text : List ℕ) → Begins ms text → IsShownAs (object ms) (123 ∷ (text ++ 125 ∷ []))
object_shown ms text b = record { shown = λ rest. object_listed ms text b false rest }

pub line_shown : (j : Json) (text : List ℕ) → IsShownAs j text → data_line j ≡ text ++ 10 ∷ []
unfolding print_from
line_shown j text h =
    ap (λ (l : List ℕ). l ++ 10 ∷ []) (ap (print_from false) (sym (append-nil (json_tokens j))) ∙ h.shown [] ∙ append-nil text)

-- ---- members

pub follows_none : Follows no_members []
unfolding print_from
follows_none = record { shown = λ rest. refl }

pub follows_member : (key name value : List ℕ) (j : Json) (more : Members) (text : List ℕ) → 44 ∷ (quoted key ++ 58 ∷ []) ≡ name
    → IsShownAs j value
    → Follows more text
    → Follows (member key j more) ((name ++ value) ++ text)
unfolding print_from
follows_member key name value j more text e v m = record {
  shown =
      λ rest. ap (λ (ts : List Token). 44 ∷ ((quoted key ++ 58 ∷ []) ++ print_from false ts))
      (append_assoc (json_tokens j) (members_tokens more) rest)
      ∙ ap (λ (l : List ℕ). 44 ∷ ((quoted key ++ 58 ∷ []) ++ l))
      (v.shown (members_tokens more ++ rest) ∙ ap (λ (l : List ℕ). value ++ l) (m.shown rest))
      ∙ ap (λ (l : List ℕ). l ++ (value ++ (text ++ 125 ∷ print_from true rest))) e
      ∙ sym (append_assoc (name ++ value) text (125 ∷ print_from true rest)
      ∙ append_assoc name value (text ++ 125 ∷ print_from true rest));
}

pub begins_member : (key name value : List ℕ) (j : Json) (more : Members) (text : List ℕ) → quoted key ++ 58 ∷ [] ≡ name
    → IsShownAs j value → Follows more text
    → Begins (member key j more) ((name ++ value) ++ text)
unfolding print_from
begins_member key name value j more text e v m = record {
  shown =
      λ rest. ap (λ (ts : List Token). (quoted key ++ 58 ∷ []) ++ print_from false ts)
      (append_assoc (json_tokens j) (members_tokens more) rest)
      ∙ ap (λ (l : List ℕ). (quoted key ++ 58 ∷ []) ++ l)
      (v.shown (members_tokens more ++ rest) ∙ ap (λ (l : List ℕ). value ++ l) (m.shown rest))
      ∙ ap (λ (l : List ℕ). l ++ (value ++ (text ++ 125 ∷ print_from true rest))) e
      ∙ sym (append_assoc (name ++ value) text (125 ∷ print_from true rest)
      ∙ append_assoc name value (text ++ 125 ∷ print_from true rest));
}

-- the last of some, and one alone
pub follows_last : (key name value : List ℕ) (j : Json) → 44 ∷ (quoted key ++ 58 ∷ []) ≡ name → IsShownAs j value
    → Follows (member key j no_members) (name ++ value)
follows_last key name value j e v =
    subst (λ (l : List ℕ). Follows (member key j no_members) l) (append-nil (name ++ value))
    (follows_member key name value j no_members [] e v follows_none)

pub begins_alone : (key name value : List ℕ) (j : Json) → quoted key ++ 58 ∷ [] ≡ name → IsShownAs j value
    → Begins (member key j no_members) (name ++ value)
begins_alone key name value j e v =
    subst (λ (l : List ℕ). Begins (member key j no_members) l) (append-nil (name ++ value))
    (begins_member key name value j no_members [] e v follows_none)

-- ---- members of each sort

pub text_follows : (key name s : List ℕ) (more : Members) (text : List ℕ) → 44 ∷ (quoted key ++ 58 ∷ []) ≡ name → escape s ≡ s
    → Follows more text
    → Follows (with_text key s more) ((name ++ 34 ∷ (s ++ 34 ∷ [])) ++ text)
text_follows key name s more text e plain m =
    follows_member key name (34 ∷ (s ++ 34 ∷ [])) (string s) more text e (string_shown s s plain) m

pub number_follows : (key name : List ℕ) (n : ℕ) (more : Members) (text : List ℕ) → 44 ∷ (quoted key ++ 58 ∷ []) ≡ name
    → Follows more text
    → Follows (with_number key n more) ((name ++ decimal n) ++ text)
number_follows key name n more text e m =
    follows_member key name (decimal n) (number (decimal n)) more text e (number_shown (decimal n)) m

pub number_follows_if : (key name cell : List ℕ) (more : Members) (text : List ℕ) → 44 ∷ (quoted key ++ 58 ∷ []) ≡ name
    → Follows more text
    → Follows (with_number_if key cell more) (number_part name cell ++ text)
number_follows_if key name cell more text e m = by (is_spaces cell)
  where
    by : (b : Bool)
        → Follows (cond b more (with_number key (number_of cell) more)) (cond b [] (name ++ decimal (number_of cell)) ++ text)
    by true = m
    by false = number_follows key name (number_of cell) more text e m

pub cell_follows : (enc : Encoding) (key name cell : List ℕ) (more : Members) (text : List ℕ) → 44 ∷ (quoted key ++ 58 ∷ []) ≡ name
    → Follows more text
    → Follows (with_cell enc key cell more) (cell_member enc name cell ++ text)
cell_follows enc key name cell more text e m =
    follows_member key name (shown_cell enc cell) (string (characters enc (trimmed cell))) more text e (cell_shown enc cell) m

pub cell_follows_if : (enc : Encoding) (key name cell : List ℕ) (more : Members) (text : List ℕ) → 44 ∷ (quoted key ++ 58 ∷ []) ≡ name
    → Follows more text
    → Follows (with_cell_if enc key cell more) (cell_member_if enc name cell ++ text)
cell_follows_if enc key name cell more text e m = by (is_spaces cell)
  where
    by : (b : Bool) → Follows (cond b more (with_cell enc key cell more)) (cond b [] (cell_member enc name cell) ++ text)
    by true = m
    by false = cell_follows enc key name cell more text e m

pub mark_follows : (key mark : List ℕ) (there : Bool) (more : Members) (text : List ℕ)
    → (44 ∷ (quoted key ++ 58 ∷ [])) ++ codes "true" ≡ mark
    → Follows more text
    → Follows (with_mark key there more) (mark_part mark there ++ text)
mark_follows key mark true more text e m =
    subst (λ (l : List ℕ). Follows (member key (boolean true) more) (l ++ text)) e
    (follows_member key (44 ∷ (quoted key ++ 58 ∷ [])) (codes "true") (boolean true) more text refl true_shown m)
mark_follows key mark false more text e m = m

plain_level : (l : MessageLevel) → escape (level_code l) ≡ level_code l
unfolding escape_byte
plain_level level.EntireFile = refl
plain_level this_level = refl

pub level_follows : (worst : Option MessageLevel) (more : Members) (text : List ℕ) → Follows more text
    → Follows (with_level worst more) (level_member worst ++ text)
unfolding escape_byte
level_follows None more text m = m
level_follows (Some l) more text m =
    text_follows (codes "level") (codes ",\"level\":") (level_code l) more text refl (plain_level l) m

-- ---- members that open an object

-- they are the first of it, or stand after others
pub record Opens (ms : Members) (text : List ℕ) : Type 0 where
  pub first : Begins ms text
  pub later : Follows ms (44 ∷ text)

pub opens_member : (key : List ℕ) (j : Json) (more : Members) (text : List ℕ) → Begins (member key j more) text
    → Opens (member key j more) text
unfolding print_from
opens_member key j more text b = record { first = b; later = record { shown = λ rest. ap (λ (l : List ℕ). 44 ∷ l) (b.shown rest) } }

-- so they do with a name before them
pub opens_name : (key name : List ℕ) (o : Option (List ℕ)) (ms : Members) (text : List ℕ) → quoted key ++ 58 ∷ [] ≡ name
    → Opens ms text → Opens (with_name key o ms) (name_member name (option_map quoted o) ++ text)
opens_name key name None ms text e h = h
opens_name key name (Some n) ms text e h =
    let value : List ℕ = quoted n in
    let b : Begins (member key (string n) ms) ((name ++ value) ++ 44 ∷ text) =
    begins_member key name value (string n) ms (44 ∷ text) e (string_shown n (escape n) refl) h.later in
    opens_member key (string n) ms ((name ++ value ++ codes ",") ++ text)
    (subst (λ (l : List ℕ). Begins (member key (string n) ms) l) (sym (append_assoc (name ++ value) (codes ",") text)) b)

-- ---- what is told of an acknowledgement

plain_letters : (this_kind : Kind) → escape (letters this_kind) ≡ letters this_kind
unfolding escape_byte
plain_letters Hdr = refl
plain_letters this_kind = refl

pub outcome_follows : (enc : Encoding) (o : Outcome) (more : Members) (text : List ℕ) → Follows more text
    → Follows (with_outcome enc o more) (outcome_member enc o ++ text)
unfolding escape_byte
outcome_follows enc (outcomes.Answers sent facts) more text m = m
outcome_follows enc outcomes.Unsent more text m = mark_follows (codes "unsent") (codes ",\"unsent\":true") true more text refl m
outcome_follows enc outcomes.Unclear more text m = mark_follows (codes "unclear") (codes ",\"unclear\":true") true more text refl m
outcome_follows enc (outcomes.Retyped this_kind) more text m =
    text_follows (codes "retyped") (codes ",\"retyped\":") (letters this_kind) more text refl (plain_letters this_kind) m
outcome_follows enc (outcomes.Renumbered own) more text m =
    cell_follows enc (codes "renumbered") (codes ",\"renumbered\":") own more text refl m

regroup_notes : (u o r a text : List ℕ) → u ++ (o ++ (r ++ (a ++ text))) ≡ (((u ++ o) ++ r) ++ a) ++ text
regroup_notes u o r a text = simp append_assoc

pub notes_follow : (enc : Encoding) (notes : Option Notes) (more : Members) (text : List ℕ) → Follows more text
    → Follows (with_notes_if enc notes more) (notes_members_if enc notes ++ text)
unfolding escape_byte
notes_follow enc None more text m = m
notes_follow enc (Some notes) more text m =
    subst (λ (l : List ℕ). Follows (with_notes_if enc (Some notes) more) l)
    (regroup_notes (mark_part (codes ",\"unkeyed\":true") notes.unkeyed) (outcome_member enc notes.outcome)
    (mark_part (codes ",\"retitled\":true") notes.retitled) (mark_part (codes ",\"again\":true") notes.again) text)
    (mark_follows (codes "unkeyed") (codes ",\"unkeyed\":true") notes.unkeyed _ _ refl
    (outcome_follows enc notes.outcome _ _
    (mark_follows (codes "retitled") (codes ",\"retitled\":true") notes.retitled _ _ refl
    (mark_follows (codes "again") (codes ",\"again\":true") notes.again more text refl m))))
