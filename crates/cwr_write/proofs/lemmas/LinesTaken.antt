-- What is taken of a text line by line.
use Rattle.std.proofs.Common.{◌≡◌, ◌≢◌, ℕ, ◌+◌, ◌<◌, ◌≤◌, Bool, true, false, cond, List, [], ◌∷◌, ◌++◌, length, drop, Option}
use Rattle.std.proofs.Common.{Some, None, refl, sym, ap, ap₂, subst, ◌∙◌, arith, inl, inr, append_assoc, append-nil, true≢false}
use Rattle.std.specs.Prelude.{◌||◌, ◌==◌, not, IfSome}
use Rattle.std.proofs.lemmas.Bool.{eqb-true, or_from, or_parts}
use Rattle.std.specs.Io.{StartsWith}
use Rattle.std.specs.List.{AllZip, filter, list_any}
use Rattle.json.specs.Json.{Json, document}
use Rattle.cwr_fields.specs.declared.codes.TransactionType.{TransactionType}
use Rattle.cwr_fields.specs.declared.codes.TransactionType.TheVariants.{Acknowledgement}
use Rattle.cwr_lines.specs.Format.Records.{RecordValue}
use Rattle.cwr_shape.specs.Format.Ranges.{LimitValues}
use Rattle.std.proofs.lemmas.List.Elements.{filter-append}
use Rattle.cwr_values.specs.declared.items.Item.{Item}
use Rattle.cwr_json.specs.declared.encodings.Encoding.{Encoding}
use Rattle.cwr_write.specs.Format.Imports.{AreLines, SaysItem, SaysItems, is_blank_line}
use Rattle.cwr_values.specs.Format.Values.{TransmissionValue, IsTransmission, FitsIn}
use Rattle.cwr_judge.specs.Format.Items.{AreFirstItems, item_records, records_in, value_items}
use Rattle.cwr_json.specs.Format.Forms.{IsItemData}
use Rattle.cwr_json.proofs.lemmas.OneItem.{one_data}
use Rattle.cwr_write.specs.declared.writing.Reached.TheVariants as reached_to
use Rattle.cwr_write.specs.declared.refusals.LineFault.{LineFault}
use Rattle.cwr_write.specs.declared.refusals.Why.{Why}
use Rattle.cwr_write.specs.declared.refusals.Why.TheVariants.{TooLong}
use Rattle.cwr_write.specs.Format.Faults.{IsOfLine, IsReason, IsReasonOf, reached_after}
use Rattle.cwr_write.specs.Format.Endings.{AreShort, AreTaken, EndsEarly, EndsWell, SaysFirst, SaysTransmission, StopsAtLine}
use Rattle.cwr_write.specs.Format.Endings.{said_lines}
use Rattle.cwr_write.specs.Steps.Taking.{SaidSoFar}
use Rattle.cwr_write.proofs.lemmas.ItemsInOrder.{AreOwn, next_type, own_first, own_heads, own_value, same_item}
use Rattle.cwr_write.proofs.lemmas.TakenItems.{value_ends}
use Rattle.std.proofs.lemmas.List.{length-append, take-append-drop}
use Rattle.std.proofs.lemmas.List.Folds.{list_any-append}
use Rattle.cwr_lines.specs.Format.Lines.{is_lf}
use Rattle.cwr_write.specs.Steps.Lines.{Exceeds, ExceedsWith, IsTakenOf, NoFeed, SoFar, TakesLineOf, TakesPart}

no_feed_both : (xs ys : List ℕ) → NoFeed xs → NoFeed ys → NoFeed (xs ++ ys)
no_feed_both xs ys p q = list_any-append is_lf xs ys ∙ ap₂ (λ (a : Bool) (b : Bool). a || b) p q

-- a part more
pub so_far_more : (left mid after : Option (List ℕ)) (line new : List ℕ) → SoFar left mid line
    → TakesPart mid after line new (Some false) → SoFar left after new
so_far_more None mid after line new s p = tt
so_far_more (Some text) mid after line new (rest, mid_is, split, none) p =
    let part = subst (λ (o : Option (List ℕ)). TakesPart o after line new (Some false)) mid_is p in
    let grown : new ≡ line ++ part.0 = part.5 in (
      part.1,
      part.3,
      split ∙ ap (λ (l : List ℕ). line ++ l) part.2 ∙ sym (append_assoc line part.0 part.1)
          ∙ ap (λ (l : List ℕ). l ++ part.1) (sym grown),
      subst NoFeed (sym grown) (no_feed_both line part.0 none part.4),
    )

-- the line with its line feed
pub line_ended : (left mid after : Option (List ℕ)) (line new : List ℕ) → SoFar left mid line
    → TakesPart mid after line new (Some true) → TakesLineOf left after new true
line_ended None mid after line new s p = tt
line_ended (Some text) mid after line new (rest, mid_is, split, none) p =
    let part = subst (λ (o : Option (List ℕ)). TakesPart o after line new (Some true)) mid_is p in
    let grown : new ≡ line ++ part.0 = part.5 in (
      subst NoFeed (sym grown) (no_feed_both line part.0 none part.4),
      inl (
        part.1,
        split ∙ ap (λ (l : List ℕ). line ++ l) part.2 ∙ sym (append_assoc line part.0 (10 ∷ part.1))
            ∙ ap (λ (l : List ℕ). l ++ 10 ∷ part.1) (sym grown),
        part.3,
      ),
    )

-- what exceeds a line's bytes
pub exceeded : (most : ℕ) (left : Option (List ℕ)) (piece part rest line : List ℕ) → IfSome left (λ text. StartsWith text piece)
    → piece ≡ part ++ rest → NoFeed part → most < length line + length part → ExceedsWith most left line
exceeded most None piece part rest line begins e none h = tt
exceeded most (Some text) piece part rest line begins e none h =
    let others : List ℕ = drop (length piece) text in (
      part,
      rest ++ others,
      sym (take-append-drop (length piece) text) ∙ ap (λ (l : List ℕ). l ++ others) (begins ∙ e)
          ∙ append_assoc part rest others,
      none,
      h,
    )

-- also after a part of it
pub exceeds_more : (most : ℕ) (left mid : Option (List ℕ)) (line : List ℕ) → SoFar left mid line → ExceedsWith most mid line
    → ExceedsWith most left []
exceeds_more most None mid line s x = tt
exceeds_more most (Some text) mid line (rest, mid_is, split, none) x =
    let p = subst (λ (o : Option (List ℕ)). ExceedsWith most o line) mid_is x in (
      line ++ p.0,
      p.1,
      split ∙ ap (λ (l : List ℕ). line ++ l) p.2
          ∙ sym (append_assoc line p.0 p.1),
      no_feed_both line p.0 none p.3,
      omega (arith, p.4, length-append line p.0),
    )

-- ---- all lines of a text

nothing_left : (tail : List (List ℕ)) → AreLines tail [] → tail ≡ []
unfolding AreLines
nothing_left [] h = refl
nothing_left (l ∷ ls) (none, inl (rest, e, h)) = absurd (omega (arith, ap length e, length-append l (10 ∷ rest)))
nothing_left (l ∷ ls) (none, inr (e, some, last)) = absurd (omega (arith, ap length e, some))

-- a line before the others
line_before : (text : List ℕ) (after : Option (List ℕ)) (line : List ℕ) → IsTakenOf text after line true
    → (rest : List ℕ) × (after ≡ Some rest) × ((tail : List (List ℕ)) → AreLines tail rest → AreLines (line ∷ tail) text)
unfolding AreLines
line_before text after line (none, inl (rest, e, a)) = (rest, a, λ tail h. (none, inl (rest, e, h)))
line_before text after line (none, inr (e, some, a)) = ([], a, λ tail h. (none, inr (e, some, nothing_left tail h)))

pub said_none : (enc : Encoding) (most : ℕ) (left : Option (List ℕ)) → IfSome left (λ text. SaidSoFar enc most 0 text left [])
said_none enc most None = tt
said_none enc most (Some text) =
    record { lines = []; rest = text; after_is = refl; with_rest = λ tail h. h; each = tt; number = refl; short = tt }

kept_line : (line : List ℕ) (b : Bool) → not (is_blank_line line) ≡ b
    → filter (λ l. not (is_blank_line l)) (line ∷ []) ≡ cond b (line ∷ []) []
kept_line line b e = ap (λ (x : Bool). cond x (line ∷ []) []) e

all_with : (enc : Encoding) (xs : List (List ℕ)) (ys : List Item) (x : List ℕ) (y : Item) → AllZip (SaysItem enc) xs ys
    → SaysItem enc x y → AllZip (SaysItem enc) (xs ++ x ∷ []) (ys ++ y ∷ [])
all_with enc [] [] x y h s = (s, h)
all_with enc [] (z ∷ ys) x y h s = absurd h
all_with enc (w ∷ xs) [] x y h s = absurd h
all_with enc (w ∷ xs) (z ∷ ys) x y h s = (h.0, all_with enc xs ys x y h.1 s)

short_with : (most : ℕ) (lines : List (List ℕ)) (line : List ℕ) → AreShort most lines → length line ≤ most
    → AreShort most (lines ++ line ∷ [])
short_with most [] line h k = (k, tt)
short_with most (l ∷ lines) line h k = (h.0, short_with most lines line h.1 k)

-- a line more, with the items that it gives
with_line : (enc : Encoding) (most n : ℕ) (text : List ℕ) (mid after : Option (List ℕ)) (line : List ℕ) (items more : List Item)
    → (h : SaidSoFar enc most n text mid items) → TakesLineOf mid after line true → length line ≤ most
    → AllZip (SaysItem enc) (said_lines h.lines ++ said_lines (line ∷ [])) (items ++ more)
    → SaidSoFar enc most (n + 1) text after (items ++ more)
with_line enc most n text mid after line items more h t k each =
    let one = line_before h.rest after line (subst (λ (o : Option (List ℕ)). TakesLineOf o after line true) h.after_is t) in
    record {
      lines = h.lines ++ line ∷ [];
      rest = one.0;
      after_is = one.1;
      with_rest =
          λ tail a. subst (λ (l : List (List ℕ)). AreLines l text) (sym (append_assoc h.lines (line ∷ []) tail))
          (h.with_rest (line ∷ tail) (one.2 tail a));
      each =
          subst (λ (l : List (List ℕ)). AllZip (SaysItem enc) l (items ++ more))
          (sym (filter-append (λ l. not (is_blank_line l)) h.lines (line ∷ []))) each;
      number = omega (arith, h.number, length-append h.lines (line ∷ []));
      short = short_with most h.lines line h.short k;
    }

-- a blank line more
pub said_blank : (enc : Encoding) (most n : ℕ) (left mid after : Option (List ℕ)) (line : List ℕ) (items : List Item)
    → IfSome left (λ text. SaidSoFar enc most n text mid items) → TakesLineOf mid after line true → length line ≤ most
    → is_blank_line line ≡ true
    → IfSome left (λ text. SaidSoFar enc most (n + 1) text after items)
said_blank enc most n None mid after line items h t k b = tt
said_blank enc most n (Some text) mid after line items h t k b =
    subst (SaidSoFar enc most (n + 1) text after) (append-nil items)
    (with_line enc most n text mid after line items [] h t k
    (subst (λ (l : List (List ℕ)). AllZip (SaysItem enc) (said_lines h.lines ++ l) (items ++ []))
    (sym (kept_line line false (ap not b)))
    (subst (λ (l : List (List ℕ)). AllZip (SaysItem enc) l (items ++ [])) (sym (append-nil (said_lines h.lines)))
    (subst (AllZip (SaysItem enc) (said_lines h.lines)) (sym (append-nil items)) h.each))))

-- a line more that is data of an item
pub said_item : (enc : Encoding) (most n : ℕ) (left mid after : Option (List ℕ)) (line : List ℕ) (items : List Item) (item : Item)
    → IfSome left (λ text. SaidSoFar enc most n text mid items) → TakesLineOf mid after line true → length line ≤ most
    → is_blank_line line ≡ false → SaysItem enc line item
    → IfSome left (λ text. SaidSoFar enc most (n + 1) text after (items ++ item ∷ []))
said_item enc most n None mid after line items item h t k b s = tt
said_item enc most n (Some text) mid after line items item h t k b s =
    with_line enc most n text mid after line items (item ∷ []) h t k
    (subst (λ (l : List (List ℕ)). AllZip (SaysItem enc) (said_lines h.lines ++ l) (items ++ item ∷ []))
    (sym (kept_line line true (ap not b))) (all_with enc (said_lines h.lines) items line item h.each s))

-- all lines
lines_all : (enc : Encoding) (most n : ℕ) (text : List ℕ) (mid after : Option (List ℕ)) (line : List ℕ) (items : List Item)
    (h : SaidSoFar enc most n text mid items) → TakesLineOf mid after line false → AreLines h.lines text
unfolding AreLines
lines_all enc most n text mid after line items h t =
    let none = subst (λ (o : Option (List ℕ)). TakesLineOf o after line false) h.after_is t in
    subst (λ (l : List (List ℕ)). AreLines l text) (append-nil h.lines) (h.with_rest [] none.0)

pub said_all : (enc : Encoding) (most n : ℕ) (left mid after : Option (List ℕ)) (line : List ℕ) (items : List Item)
    → IfSome left (λ text. SaidSoFar enc most n text mid items) → TakesLineOf mid after line false
    → IfSome left (λ text. SaysItems enc text items)
said_all enc most n None mid after line items h t = tt
said_all enc most n (Some text) mid after line items h t =
    record { lines = h.lines; are = lines_all enc most n text mid after line items h t; each = h.each }

-- ---- the lines of a text

record Cut (text : List ℕ) : Type 0 where
  lines : List (List ℕ)
  are : AreLines lines text

-- a byte before the first line
byte_before : (b : ℕ) (text : List ℕ) (lines : List (List ℕ)) → (b == 10) ≡ false → AreLines lines text → Cut (b ∷ text)
unfolding AreLines
byte_before b text [] n a =
    record
    { lines = (b ∷ []) ∷ []; are = (or_from (b == 10) false n refl, inr (ap (λ (l : List ℕ). b ∷ l) a, omega arith, refl)) }
byte_before b text (l ∷ ls) n (none, inl (rest, e, h)) =
    record
    { lines = (b ∷ l) ∷ ls; are = (or_from (b == 10) (list_any is_lf l) n none, inl (rest, ap (λ (x : List ℕ). b ∷ x) e, h)) }
byte_before b text (l ∷ ls) n (none, inr (e, some, last)) =
    record {
      lines = (b ∷ l) ∷ ls;
      are = (or_from (b == 10) (list_any is_lf l) n none, inr (ap (λ (x : List ℕ). b ∷ x) e, omega arith, last));
    }

feed_before : (text : List ℕ) (lines : List (List ℕ)) → AreLines lines text → Cut (10 ∷ text)
unfolding AreLines
feed_before text lines a = record { lines = [] ∷ lines; are = (refl, inl (text, refl, a)) }

lines_of : (text : List ℕ) → Cut text
unfolding AreLines
lines_of [] = record { lines = []; are = refl }
lines_of (b ∷ text) = by (b == 10) refl (lines_of text)
  where
    by : (x : Bool) → (b == 10) ≡ x → Cut text → Cut (b ∷ text)
    by true e c = subst Cut (ap (λ (n : ℕ). n ∷ text) (sym (eqb-true b 10 e))) (feed_before text c.lines c.are)
    by false e c = byte_before b text c.lines e c.are

-- no line feed stands before the first one
feed_apart : (xs ys l r : List ℕ) → NoFeed xs → xs ++ ys ≡ l ++ 10 ∷ r → length xs ≤ length l
feed_apart [] ys l r h e = omega arith
feed_apart (x ∷ xs) ys [] r h e =
    let is : x ≡ 10 =
    cc e in absurd (true≢false (sym (ap (λ (n : ℕ). n == 10) is) ∙ (or_parts (x == 10) (list_any is_lf xs) h).0))
feed_apart (x ∷ xs) ys (b ∷ l) r h e =
    let more = feed_apart xs ys l r (or_parts (x == 10) (list_any is_lf xs) h).1 (cc e) in omega (arith, more)

same_line : (l m r s : List ℕ) → NoFeed l → NoFeed m → l ++ 10 ∷ r ≡ m ++ 10 ∷ s → (l ≡ m) × (r ≡ s)
same_line [] [] r s h k e = (refl, cc e)
same_line [] (b ∷ m) r s h k e =
    let is : 10 ≡ b =
    cc e in absurd (true≢false (sym (ap (λ (n : ℕ). n == 10) (sym is)) ∙ (or_parts (b == 10) (list_any is_lf m) k).0))
same_line (b ∷ l) [] r s h k e =
    let is : b ≡ 10 = cc e in absurd (true≢false (sym (ap (λ (n : ℕ). n == 10) is) ∙ (or_parts (b == 10) (list_any is_lf l) h).0))
same_line (b ∷ l) (c ∷ m) r s h k e =
    let first : b ≡ c = cc e in
    let more = same_line l m r s (or_parts (b == 10) (list_any is_lf l) h).1 (or_parts (c == 10) (list_any is_lf m) k).1 (cc e) in
    (ap₂ (λ (x : ℕ) (xs : List ℕ). x ∷ xs) first more.0, more.1)

no_feed_there : (l m r : List ℕ) → NoFeed l → l ≡ m ++ 10 ∷ r → ⊥
no_feed_there [] [] r h e = cc e
no_feed_there [] (c ∷ m) r h e = cc e
no_feed_there (b ∷ l) [] r h e =
    let is : b ≡ 10 = cc e in true≢false (sym (ap (λ (n : ℕ). n == 10) is) ∙ (or_parts (b == 10) (list_any is_lf l) h).0)
no_feed_there (b ∷ l) (c ∷ m) r h e = no_feed_there l m r (or_parts (b == 10) (list_any is_lf l) h).1 (cc e)

none_in : (l : List ℕ) → [] ≡ l → 0 < length l → ⊥
none_in l e h = omega (arith, ap length e, h)

none_fed : (l r : List ℕ) → [] ≡ l ++ 10 ∷ r → ⊥
none_fed [] r e = cc e
none_fed (b ∷ l) r e = cc e

-- a text has its lines in one way
pub lines_once : (ls ks : List (List ℕ)) (text : List ℕ) → AreLines ls text → AreLines ks text → ls ≡ ks
unfolding AreLines
lines_once [] [] text a b = refl
lines_once [] (k ∷ ks) text a (none, inl (rest, e, h)) = absurd (none_fed k rest (sym a ∙ e))
lines_once [] (k ∷ ks) text a (none, inr (e, some, last)) = absurd (none_in k (sym a ∙ e) some)
lines_once (l ∷ ls) [] text (none, inl (rest, e, h)) b = absurd (none_fed l rest (sym b ∙ e))
lines_once (l ∷ ls) [] text (none, inr (e, some, last)) b = absurd (none_in l (sym b ∙ e) some)
lines_once (l ∷ ls) (k ∷ ks) text (none, inl (rest, e, h)) (other, inl (more, f, g)) =
    let same = same_line l k rest more none other (sym e ∙ f) in
    ap₂ (λ (x : List ℕ) (xs : List (List ℕ)). x ∷ xs) same.0 (lines_once ls ks more (subst (AreLines ls) same.1 h) g)
lines_once (l ∷ ls) (k ∷ ks) text (none, inl (rest, e, h)) (other, inr (f, some, last)) =
    absurd (no_feed_there k l rest other (sym f ∙ e))
lines_once (l ∷ ls) (k ∷ ks) text (none, inr (e, some, last)) (other, inl (more, f, g)) =
    absurd (no_feed_there l k more none (sym e ∙ f))
lines_once (l ∷ ls) (k ∷ ks) text (none, inr (e, some, last)) (other, inr (f, there, end)) =
    ap₂ (λ (x : List ℕ) (xs : List (List ℕ)). x ∷ xs) (sym e ∙ f) (last ∙ sym end)

-- and no more lines than bytes
fewer : (ls : List (List ℕ)) (text : List ℕ) → AreLines ls text → length ls ≤ length text
unfolding AreLines
fewer [] text a = omega arith
fewer (l ∷ ls) text (none, inl (rest, e, h)) = omega (arith, fewer ls rest h, ap length e, length-append l (10 ∷ rest))
fewer (l ∷ ls) text (none, inr (e, some, last)) = omega (arith, ap length e, ap length last, some)

pub few_lines : (enc : Encoding) (most n : ℕ) (text : List ℕ) (mid : Option (List ℕ)) (items : List Item)
    → SaidSoFar enc most n text mid items → n ≤ length text
few_lines enc most n text mid items h =
    let c = lines_of h.rest in
    omega (arith, h.number, fewer (h.lines ++ c.lines) text (h.with_rest c.lines c.are), length-append h.lines c.lines)

-- ---- the first line that isn't taken

-- the lines from one on that is too long
record LongLine (most : ℕ) (text : List ℕ) : Type 0 where
  line : List ℕ
  after : List (List ℕ)
  are : AreLines (line ∷ after) text
  long : most < length line

long_line : (most : ℕ) (text : List ℕ) → Exceeds most text [] → LongLine most text
unfolding AreLines
long_line most text x = by (lines_of text)
  where
    by : Cut text → LongLine most text
    by c = on c.lines c.are
      where
        on : (ls : List (List ℕ)) → AreLines ls text → LongLine most text
        on [] a = absurd (omega (arith, ap length (sym x.2 ∙ a), length-append x.0 x.1, x.4))
        on (l ∷ ls) (none, inl (rest, e, h)) =
            record {
              line = l;
              after = ls;
              are = (none, inl (rest, e, h));
              long = omega (arith, x.4, feed_apart x.0 x.1 l rest x.3 (sym x.2 ∙ e));
            }
        on (l ∷ ls) (none, inr (e, some, last)) =
            record {
              line = l;
              after = ls;
              are = (none, inr (e, some, last));
              long = omega (arith, x.4, ap length (sym x.2 ∙ e), length-append x.0 x.1);
            }

last_short : (most : ℕ) (lines : List (List ℕ)) (line : List ℕ) → AreShort most (lines ++ line ∷ []) → length line ≤ most
last_short most [] line h = h.0
last_short most (l ∷ lines) line h = last_short most lines line h.1

pub stops_long : (enc : Encoding) (limits : LimitValues) (most n : ℕ) (f : LineFault) (left mid : Option (List ℕ))
    (items : List Item) → f.why ≡ TooLong → IsOfLine f → IfSome left (λ text. SaidSoFar enc most n text mid items) → ExceedsWith
    most mid [] → AreFirstItems limits items → IfSome left (λ text. StopsAtLine enc limits most text (n + 1) f)
stops_long enc limits most n fault None mid items why first h x f = tt
stops_long enc limits most n fault (Some text) mid items why first h x f =
    let there = long_line most h.rest (subst (λ (o : Option (List ℕ)). ExceedsWith most o []) h.after_is x) in
    record {
      before = h.lines;
      line = there.line;
      after = there.after;
      are = h.with_rest (there.line ∷ there.after) there.are;
      number = ap (λ (m : ℕ). m + 1) h.number;
      taken = record { items = items; short = h.short; each = h.each; first = f };
      stops = λ t. omega (arith, last_short most h.lines there.line t.short, there.long);
      reason = subst (λ (w : Why). IsReasonOf enc limits most items there.line fault w) (sym why) (first, there.long);
    }

-- ---- items that lines say

pub value_once : (line : List ℕ) (j k : Json) → document line ≡ Some j → document line ≡ Some k → j ≡ k
value_once line j k e f = let both : Some j ≡ Some k = sym e ∙ f in cc both

pub says_once : (enc : Encoding) (line : List ℕ) (i w : Item) → SaysItem enc line i → SaysItem enc line w
    → item_records i ≡ item_records w
says_once enc line i w s t =
    one_data enc s.value (item_records i) (item_records w) s.says
    (subst (λ (j : Json). IsItemData enc j (item_records w)) (sym (value_once line s.value t.value s.text t.text)) t.says)

pub same_records : (enc : Encoding) (lines : List (List ℕ)) (xs ys : List Item) → AllZip (SaysItem enc) lines xs
    → AllZip (SaysItem enc) lines ys → records_in xs ≡ records_in ys
same_records enc [] [] [] h k = refl
same_records enc [] [] (y ∷ ys) h k = absurd k
same_records enc [] (x ∷ xs) ys h k = absurd h
same_records enc (l ∷ lines) [] ys h k = absurd h
same_records enc (l ∷ lines) (x ∷ xs) [] h k = absurd k
same_records enc (l ∷ lines) (x ∷ xs) (y ∷ ys) h k =
    ap₂ (λ (a : List RecordValue) (b : List RecordValue). a ++ b) (says_once enc l x y h.0 k.0)
    (same_records enc lines xs ys h.1 k.1)

same_items : (enc : Encoding) (ty tz : TransactionType) (lines : List (List ℕ)) (xs ys : List Item) → AreOwn ty xs → AreOwn tz ys
    → AllZip (SaysItem enc) lines xs → AllZip (SaysItem enc) lines ys → xs ≡ ys
same_items enc ty tz [] [] [] p q h k = refl
same_items enc ty tz [] [] (y ∷ ys) p q h k = absurd k
same_items enc ty tz [] (x ∷ xs) ys p q h k = absurd h
same_items enc ty tz (l ∷ lines) [] ys p q h k = absurd h
same_items enc ty tz (l ∷ lines) (x ∷ xs) [] p q h k = absurd k
same_items enc ty tz (l ∷ lines) (x ∷ xs) (y ∷ ys) p q h k =
    ap₂ (λ (a : Item) (b : List Item). a ∷ b)
    (same_item x y (own_heads ty x p.0) (own_heads tz y q.0) (says_once enc l x y h.0 k.0))
    (same_items enc (next_type ty x) (next_type tz y) lines xs ys p.1 q.1 h.1 k.1)

-- a list beside two, one after the other
record BothBeside (enc : Encoding) (xs ys : List (List ℕ)) (items : List Item) : Type 0 where
  front : List Item
  back : List Item
  whole : items ≡ front ++ back
  before : AllZip (SaysItem enc) xs front
  after : AllZip (SaysItem enc) ys back

beside : (enc : Encoding) (xs ys : List (List ℕ)) (items : List Item) → AllZip (SaysItem enc) (xs ++ ys) items
    → BothBeside enc xs ys items
beside enc [] ys items h = record { front = []; back = items; whole = refl; before = tt; after = h }
beside enc (x ∷ xs) ys [] h = absurd h
beside enc (x ∷ xs) ys (i ∷ items) h =
    let p = beside enc xs ys items h.1 in
    record {
      front = i ∷ p.front;
      back = p.back;
      whole = ap (λ (l : List Item). i ∷ l) p.whole;
      before = (h.0, p.before);
      after = p.after;
    }

first_front : (limits : LimitValues) (xs ys : List Item) → AreFirstItems limits (xs ++ ys) → AreFirstItems limits xs
first_front limits xs ys f =
    record
    { value = f.value; whole = f.whole; within = f.within; rest = ys ++ f.rest; split = f.split ∙ append_assoc xs ys f.rest }

-- with a line that isn't blank, none is taken that says no item with which a transmission begins
none_with : (enc : Encoding) (limits : LimitValues) (most : ℕ) (lines : List (List ℕ)) (line : List ℕ) (items : List Item)
    → AllZip (SaysItem enc) (said_lines lines) items → AreFirstItems limits items → is_blank_line line ≡ false
    → ((i : Item) → SaysItem enc line i → ¬ AreFirstItems limits (items ++ i ∷ []))
    → ¬ AreTaken enc limits most (lines ++ line ∷ [])
none_with enc limits most lines line items each f b none t =
    let kept : said_lines (lines ++ line ∷ []) ≡ said_lines lines ++ line ∷ [] =
    filter-append (λ l. not (is_blank_line l)) lines (line ∷ [])
    ∙ ap (λ (l : List (List ℕ)). said_lines lines ++ l) (kept_line line true (ap not b)) in
    let p =
    beside enc (said_lines lines) (line ∷ []) t.items
    (subst (λ (l : List (List ℕ)). AllZip (SaysItem enc) l t.items) kept t.each) in
    let first : AreFirstItems limits (p.front ++ p.back) = subst (AreFirstItems limits) p.whole t.first in
    let same : p.front ≡ items =
    same_items enc Acknowledgement Acknowledgement (said_lines lines) p.front items
    (own_first limits p.front (first_front limits p.front p.back first)) (own_first limits items f) p.before each in
    by p.back p.after (subst (λ (l : List Item). AreFirstItems limits (l ++ p.back)) same first)
  where
    by : (back : List Item) → AllZip (SaysItem enc) (line ∷ []) back → AreFirstItems limits (items ++ back) → ⊥
    by [] h g = h
    by (i ∷ []) h g = none i h.0 g
    by (i ∷ j ∷ back) h g = h.1

pub stops_line : (enc : Encoding) (limits : LimitValues) (most n : ℕ) (why : LineFault) (left mid after : Option (List ℕ))
    (line : List ℕ) (items : List Item) → IfSome left (λ text. SaidSoFar enc most n text mid items) → TakesLineOf mid after line
    true → is_blank_line line ≡ false
    → AreFirstItems limits items → ((i : Item) → SaysItem enc line i → ¬ AreFirstItems limits (items ++ i ∷ []))
    → IsReason enc limits most items line why → IfSome left (λ text. StopsAtLine enc limits most text (n + 1) why)
stops_line enc limits most n why None mid after line items h t b f none reason = tt
stops_line enc limits most n why (Some text) mid after line items h t b f none reason =
    let one = line_before h.rest after line (subst (λ (o : Option (List ℕ)). TakesLineOf o after line true) h.after_is t) in
    let others = lines_of one.0 in
    record {
      before = h.lines;
      line = line;
      after = others.lines;
      are = h.with_rest (line ∷ others.lines) (one.2 others.lines others.are);
      number = ap (λ (m : ℕ). m + 1) h.number;
      taken = record { items = items; short = h.short; each = h.each; first = f };
      stops = none_with enc limits most h.lines line items h.each f b none;
      reason = reason;
    }

-- the first lines that were taken, and what follows them
pub said_first : (enc : Encoding) (most n : ℕ) (left mid : Option (List ℕ)) (items : List Item)
    → IfSome left (λ text. SaidSoFar enc most n text mid items) → IfSome left (λ text. SaysFirst enc text n items)
said_first enc most n None mid items h = tt
said_first enc most n (Some text) mid items h =
    let c = lines_of h.rest in
    record { lines = h.lines; rest = c.lines; are = h.with_rest c.lines c.are; number = h.number; each = h.each }

-- all lines are the first ones
pub all_first : (enc : Encoding) (left : Option (List ℕ)) (items : List Item) → IfSome left (λ text. SaysItems enc text items)
    → IfSome left (λ text. (n : ℕ) × SaysFirst enc text n items)
all_first enc None items h = tt
all_first enc (Some text) items h = (
  length h.lines,
  record {
    lines = h.lines;
    rest = [];
    are = subst (λ (l : List (List ℕ)). AreLines l text) (sym (append-nil h.lines)) h.are;
    number = refl;
    each = h.each;
  },
)

-- ---- the end of the input

pub ends_early : (enc : Encoding) (limits : LimitValues) (most n : ℕ) (left mid after : Option (List ℕ)) (line : List ℕ)
    (items : List Item) → IfSome left (λ text. SaidSoFar enc most n text mid items) → TakesLineOf mid after line false
    → AreFirstItems limits items
    → reached_after reached_to.Begun items ≢ reached_to.End → IfSome left (λ text. EndsEarly enc limits most text n)
ends_early enc limits most n None mid after line items h t f open_still = tt
ends_early enc limits most n (Some text) mid after line items h t f open_still = record {
  lines = h.lines;
  are = lines_all enc most n text mid after line items h t;
  number = h.number;
  taken = record { items = items; short = h.short; each = h.each; first = f };
  unended =
      λ v whole each. open_still (ap (reached_after reached_to.Begun) (same_items enc Acknowledgement Acknowledgement
      (said_lines h.lines) items (value_items v) (own_first limits items f) (own_value v whole) h.each each) ∙ value_ends v);
}

pub ends_well : (enc : Encoding) (limits : LimitValues) (most n : ℕ) (left mid after : Option (List ℕ)) (line : List ℕ)
    (items : List Item) (v : TransmissionValue) → IfSome left (λ text. SaidSoFar enc most n text mid items) → TakesLineOf mid
    after line false
    → IsTransmission v → FitsIn limits v → value_items v ≡ items → IfSome left (λ text. EndsWell enc limits most text n)
ends_well enc limits most n None mid after line items v h t whole within same = tt
ends_well enc limits most n (Some text) mid after line items v h t whole within same = record {
  lines = h.lines;
  are = lines_all enc most n text mid after line items h t;
  number = h.number;
  value = v;
  whole = whole;
  within = within;
  short = h.short;
  each = subst (AllZip (SaysItem enc) (said_lines h.lines)) (sym same) h.each;
}

-- ---- nothing else is refused

short_front : (most : ℕ) (xs ys : List (List ℕ)) → AreShort most (xs ++ ys) → AreShort most xs
short_front most [] ys h = tt
short_front most (x ∷ xs) ys h = (h.0, short_front most xs ys h.1)

-- the lines of a transmission's items are taken, from the first on
taken_front : (enc : Encoding) (limits : LimitValues) (most : ℕ) (xs ys : List (List ℕ)) (v : TransmissionValue)
    → IsTransmission v → FitsIn limits v → AreShort most (xs ++ ys)
    → AllZip (SaysItem enc) (said_lines (xs ++ ys)) (value_items v) → AreTaken enc limits most xs
taken_front enc limits most xs ys v whole within short each =
    let p =
    beside enc (said_lines xs) (said_lines ys) (value_items v) (subst
    (λ (l : List (List ℕ)). AllZip (SaysItem enc) l (value_items v)) (filter-append (λ l. not (is_blank_line l)) xs ys)
    each) in
    record {
      items = p.front;
      short = short_front most xs ys short;
      each = p.before;
      first = record { value = v; whole = whole; within = within; rest = p.back; split = p.whole };
    }

pub never_stops : (enc : Encoding) (limits : LimitValues) (most n : ℕ) (text : List ℕ) (why : LineFault) (v : TransmissionValue)
    → IsTransmission v → FitsIn limits v → SaysTransmission enc most text v → StopsAtLine enc limits most text n why → ⊥
never_stops enc limits most n text why v whole within s t =
    let all : s.lines ≡ (t.before ++ t.line ∷ []) ++ t.after =
    lines_once s.lines (t.before ++ t.line ∷ t.after) text s.are t.are ∙ sym (append_assoc t.before (t.line ∷ []) t.after) in
    t.stops (taken_front enc limits most (t.before ++ t.line ∷ []) t.after v whole within (subst (AreShort most) all s.short)
    (subst (λ (l : List (List ℕ)). AllZip (SaysItem enc) (said_lines l) (value_items v)) all s.each))

pub never_early : (enc : Encoding) (limits : LimitValues) (most n : ℕ) (text : List ℕ) (v : TransmissionValue) → IsTransmission v
    → SaysTransmission enc most text v → EndsEarly enc limits most text n → ⊥
never_early enc limits most n text v whole s t =
    t.unended v whole (subst (λ (l : List (List ℕ)). AllZip (SaysItem enc) (said_lines l) (value_items v))
    (lines_once s.lines t.lines text s.are t.are) s.each)
