-- A text ends with one line at most, and the last bytes of a text show it.
use Rattle.std.proofs.Common.{◌≡◌, ◌≢◌, ℕ, ◌+◌, ◌-◌, ◌<◌, ◌≤◌, Bool, true, false, List, [], ◌∷◌, ◌++◌, length, take, drop, refl}
use Rattle.std.proofs.Common.{sym, ap, subst, ◌∙◌, arith, inl, inr, append_assoc, append-nil}
use Rattle.std.specs.Prelude.{◌⊎◌, ◌↔◌, ◌||◌, ◌==◌, IsFalse, Option, None, Some, IfSome, MatchOption}
use Rattle.std.specs.List.{list_any}
use Rattle.std.proofs.lemmas.Bool.{eqb-true, false≢true, true≢false}
use Rattle.std.proofs.lemmas.List.{append_cancel_right, drop-append-le, length-append, length-take-le, nil_from_length, take_all}
use Rattle.std.proofs.lemmas.List.{take-append-drop}
use Rattle.std.proofs.Math.Seq.{drop-append_seam}
use Rattle.cwr_lines.specs.declared.lines.LineEnd.{LineEnd}
use Rattle.cwr_lines.specs.declared.lines.LineEnd.TheVariants as line_ends
use Rattle.cwr_lines.specs.Format.Lines.{is_lf}
use Rattle.cwr_lines.specs.Steps.Held.{FillsLongest, HeldLine, IsHeld, Stops, Takes, empty_line, text_by}
use Rattle.cwr_decode.specs.declared.last_bytes.LastBytes.{LastBytes}
use Rattle.cwr_decode.specs.Steps.LastReads.{HoldsLast, bytes_read, last_held}
use Rattle.cwr_decode.specs.Steps.Represents.{EndsInLf}
use Rattle.cwr_causes.specs.declared.lines_at_end.LineAtEnd.{LineAtEnd}
use Rattle.cwr_causes.specs.Steps.LinesAtEnd.{EndsInLine, EndsWithLine, IsAfterFeed, IsBeforeLine, IsFound, IsLastLine, NoLineKnown}

abbrev pub NoLf : List ℕ → Type 0
NoLf line = IsFalse (list_any is_lf line)

or_true : (a b : Bool) → b ≡ true → (a || b) ≡ true
or_true true b h = refl
or_true false b h = h

-- a line feed is found wherever it stands
has_feed : (xs ys : List ℕ) → list_any is_lf ((xs ++ 10 ∷ []) ++ ys) ≡ true
has_feed [] ys = refl
has_feed (x ∷ xs) ys = or_true (x == 10) (list_any is_lf ((xs ++ 10 ∷ []) ++ ys)) (has_feed xs ys)

-- one number is at most another, or above it
compared : (m n : ℕ) → (m ≤ n) ⊎ (n < m)
compared m n = mathlib.Core.Logic.dite (native.Mathlib.Decide.dec_le m n) (λ p. inl p) (λ p. inr (omega arith))

-- a line begins after each line feed
pub starts_later : (a b c d : List ℕ) → a ++ b ≡ c ++ d → NoLf b → EndsInLf c → length b ≤ length d
starts_later a b c d e none (g, c_is) = by (compared (length a) (length g))
  where
    sizes : length a + length b ≡ length g + 1 + length d
    sizes = omega (arith, length-append a b, ap length e, length-append c d, ap length c_is, length-append g (10 ∷ []))

    by : (length a ≤ length g) ⊎ (length g < length a) → length b ≤ length d
    by (inr later) = omega (arith, sizes)
    by (inl early) =
        let rest : b ≡ (drop (length a) g ++ 10 ∷ []) ++ d =
        sym (drop-append_seam a b) ∙ ap (drop (length a)) (e ∙ ap (λ (l : List ℕ). l ++ d) c_is)
        ∙ drop-append-le (length a) (g ++ 10 ∷ []) d (omega (arith, early, length-append g (10 ∷ [])))
        ∙ ap (λ (l : List ℕ). l ++ d) (drop-append-le (length a) g (10 ∷ []) early) in
        absurd (false≢true (sym none ∙ ap (list_any is_lf) rest ∙ has_feed (drop (length a) g) d))

-- two parts of one text are equal where their lengths are
same_split : (a b c d : List ℕ) → a ++ b ≡ c ++ d → length b ≡ length d → (a ≡ c) × (b ≡ d)
same_split a b c d e n =
    let sizes : length a ≡ length c = omega (arith, n, length-append a b, ap length e, length-append c d) in
    let same : b ≡ d =
    sym (drop-append_seam a b) ∙ ap (drop (length a)) e ∙ ap (λ (k : ℕ). drop k (c ++ d)) sizes ∙ drop-append_seam c d in
    (append_cancel_right a c d (ap (λ (l : List ℕ). a ++ l) (sym same) ∙ e), same)

-- a text ends with one line
pub one_line : (a b c d : List ℕ) → a ++ b ≡ c ++ d → NoLf b → NoLf d → IsBeforeLine a → IsBeforeLine c → (a ≡ c) × (b ≡ d)
one_line a b c d e none other (inl x) (inl y) =
    same_split a b c d e (omega (arith, ap length x, ap length y, length-append a b, ap length e, length-append c d))
one_line a b c d e none other (inl x) (inr y) =
    same_split a b c d e
    (omega (arith, ap length x, starts_later a b c d e none y, length-append a b, ap length e, length-append c d))
one_line a b c d e none other (inr x) (inl y) =
    same_split a b c d e
    (omega (arith, ap length y, starts_later c d a b (sym e) other x, length-append a b, ap length e, length-append c d))
one_line a b c d e none other (inr x) (inr y) =
    same_split a b c d e (omega (arith, starts_later a b c d e none y, starts_later c d a b (sym e) other x))

-- so many bytes with no line feed are a whole line
long_line : (a b c d : List ℕ) → a ++ b ≡ c ++ d → NoLf b → 1024 ≤ length b → length d ≤ 1024 → IsBeforeLine c → (a ≡ c) × (b ≡ d)
long_line a b c d e none long short (inl y) =
    same_split a b c d e (omega (arith, long, short, ap length y, length-append a b, ap length e, length-append c d))
long_line a b c d e none long short (inr y) = same_split a b c d e (omega (arith, long, short, starts_later a b c d e none y))

-- the last part of a text, which is long enough, shows the line with which it ends
line_in : (before text found front line : List ℕ) → (before ≡ []) ⊎ (1024 ≤ length text) → (h : IsAfterFeed text found)
    → before ++ text ≡ front ++ line → NoLf line → IsBeforeLine front → length line ≤ 1024
    → (before ++ h.front ≡ front) × (found ≡ line)
line_in before text found front line enough h e none begins short = by h.begins enough
  where
    split : (before ++ h.front) ++ found ≡ front ++ line
    split = append_assoc before h.front found ∙ ap (λ (l : List ℕ). before ++ l) (sym h.split) ∙ e

    by : IsBeforeLine h.front → (before ≡ []) ⊎ (1024 ≤ length text) → (before ++ h.front ≡ front) × (found ≡ line)
    by (inr (g, is)) any = one_line (before ++ h.front) found front line split h.no_lf none
        (inr (before ++ g, ap (λ (l : List ℕ). before ++ l) is ∙ sym (append_assoc before g (10 ∷ [])))) begins
    by (inl is) (inl x) =
        one_line (before ++ h.front) found front line split h.no_lf none (inl (ap (λ (l : List ℕ). l ++ h.front) x ∙ is)) begins
    by (inl is) (inr long) = long_line (before ++ h.front) found front line split h.no_lf
        (omega (arith, long, ap length h.split, length-append h.front found, ap length is)) short begins

-- ---- a line that is taken again

-- a whole line is taken, and stays open
pub taken_whole : (bytes : List ℕ) (used : ℕ) (line : HeldLine) → Takes empty_line bytes used line → IsHeld line
    → length bytes ≤ 1024 → NoLf bytes → line ≡ record { bytes = bytes; ended = line_ends.Open }
taken_whole bytes used line t held short none = by line.ended refl t.text t.stops held.full
  where
    by : (n : LineEnd) → line.ended ≡ n → text_by n line.bytes ≡ [] ++ take used bytes → Stops n bytes used
        → FillsLongest n (length line.bytes) → line ≡ record { bytes = bytes; ended = line_ends.Open }
    by line_ends.Open is e s f =
        ap (λ (n : LineEnd). record { bytes = line.bytes; ended = n }) is
        ∙ ap (λ (l : List ℕ). record { bytes = l; ended = line_ends.Open }) (e ∙ take_all used bytes (omega (arith, s)))
    by line_ends.Line is e s f =
        let split : (line.bytes ++ 10 ∷ []) ++ drop used bytes ≡ bytes =
        ap (λ (l : List ℕ). l ++ drop used bytes) e ∙ take-append-drop used bytes in
        absurd (false≢true (sym none ∙ ap (list_any is_lf) (sym split) ∙ has_feed line.bytes (drop used bytes)))
    by line_ends.Over is e s f = absurd (omega (arith, f, s.0, short, ap length e, length-take-le used bytes t.within))

-- ---- the line that was read last

-- what was found is it
found_is : (read front line before text : List ℕ) (feed : ℕ) (last : LastBytes) (found : LineAtEnd) → HoldsLast read last
    → (h : IsAfterFeed text found.bytes.now) → (before ++ h.front ≡ front) × (found.bytes.now ≡ line)
    → length read ≡ length (before ++ text) + feed → (found.ended ≡ true) ↔ EndsInLf read
    → found.offset ≡ bytes_read last - length found.bytes.now - feed → IsFound read front line found
found_is read front line before text feed last found held h is size ended offset = record {
  bytes = is.1;
  ended = ended;
  offset =
      λ few. omega (
        arith,
        few,
        offset,
        held.counted,
        size,
        length-append before text,
        ap length h.split,
        length-append h.front found.bytes.now,
        ap length is.0,
        length-append before h.front,
      );
}

-- what was read ends with the line feed that is held
read_with_feed : (read text : List ℕ) (last : LastBytes) → (held : HoldsLast read last) → last_held last ≡ text ++ 10 ∷ []
    → read ≡ (held.before ++ text) ++ 10 ∷ []
read_with_feed read text last held whole =
    held.split ∙ ap (λ (l : List ℕ). held.before ++ l) whole ∙ sym (append_assoc held.before text (10 ∷ []))

-- with its line feed, what stands before it and the line were found
pub held_ended : (read front line text found : List ℕ) (last : LastBytes) → (held : HoldsLast read last)
    → EndsWithLine read front line → last_held last ≡ text ++ 10 ∷ [] → (h : IsAfterFeed text found)
    → (held.before ++ h.front ≡ front) × (found ≡ line)
held_ended read front line text found last held ends whole h = by ends.split
  where
    read_is : read ≡ (held.before ++ text) ++ 10 ∷ []
    read_is = read_with_feed read text last held whole

    enough : (held.before ≡ []) ⊎ (1025 ≤ length (last_held last)) → (held.before ≡ []) ⊎ (1024 ≤ length text)
    enough (inl x) = inl x
    enough (inr x) = inr (omega (arith, x, ap length whole, length-append text (10 ∷ [])))

    by : (read ≡ (front ++ line) ++ 10 ∷ []) ⊎ ((read ≡ front ++ line) × (0 < length line))
        → (held.before ++ h.front ≡ front) × (found ≡ line)
    by (inl e) =
        line_in held.before text found front line (enough held.enough) h
        (append_cancel_right (held.before ++ text) (front ++ line) (10 ∷ []) (sym read_is ∙ e)) ends.no_lf ends.begins ends.short
    by (inr (e, some)) =
        let none =
        starts_later front line ((held.before ++ text) ++ 10 ∷ []) []
        (sym e ∙ read_is ∙ sym (append-nil ((held.before ++ text) ++ 10 ∷ []))) ends.no_lf (held.before ++ text, refl) in
        absurd (omega (arith, none, some))

pub found_ended : (read front line text : List ℕ) (last : LastBytes) (found : LineAtEnd) → HoldsLast read last
    → EndsWithLine read front line → last_held last ≡ text ++ 10 ∷ [] → found.ended ≡ true → IsAfterFeed text found.bytes.now
    → found.offset ≡ bytes_read last - length found.bytes.now - 1 → IsFound read front line found
found_ended read front line text last found held ends whole fed h offset =
    found_is read front line held.before text 1 last found held h
    (held_ended read front line text found.bytes.now last held ends whole h)
    (omega (arith, ap length (read_with_feed read text last held whole), length-append (held.before ++ text) (10 ∷ [])))
    (λ _. (held.before ++ text, read_with_feed read text last held whole), λ _. fed) offset

-- without one, too
pub held_open : (read front line found : List ℕ) (last : LastBytes) → (held : HoldsLast read last) → EndsWithLine read front line
    → ((xs : List ℕ) → last_held last ≢ xs ++ 10 ∷ []) → (h : IsAfterFeed (last_held last) found)
    → (held.before ++ h.front ≡ front) × (found ≡ line)
held_open read front line found last held ends other h = by ends.split
  where
    enough : (held.before ≡ []) ⊎ (1025 ≤ length (last_held last)) → (held.before ≡ []) ⊎ (1024 ≤ length (last_held last))
    enough (inl x) = inl x
    enough (inr x) = inr (omega (arith, x))

    room : (held.before ≡ []) ⊎ (1025 ≤ length (last_held last)) → read ≡ (front ++ line) ++ 10 ∷ []
        → length held.before ≤ length (front ++ line)
    room (inl x) e = omega (arith, ap length x)
    room (inr x) e =
        omega (
          arith,
          x,
          ap length held.split,
          length-append held.before (last_held last),
          ap length e,
          length-append (front ++ line) (10 ∷ []),
        )

    by : (read ≡ (front ++ line) ++ 10 ∷ []) ⊎ ((read ≡ front ++ line) × (0 < length line))
        → (held.before ++ h.front ≡ front) × (found ≡ line)
    by (inl e) = absurd (other (drop (length held.before) (front ++ line))
        (sym (drop-append_seam held.before (last_held last)) ∙ ap (drop (length held.before)) (sym held.split ∙ e)
        ∙ drop-append-le (length held.before) (front ++ line) (10 ∷ []) (room held.enough e)))
    by (inr (e, some)) =
        line_in held.before (last_held last) found front line (enough held.enough) h (sym held.split ∙ e) ends.no_lf ends.begins
        ends.short

pub found_open : (read front line : List ℕ) (last : LastBytes) (found : LineAtEnd) → HoldsLast read last
    → EndsWithLine read front line → ((xs : List ℕ) → last_held last ≢ xs ++ 10 ∷ []) → found.ended ≡ false
    → IsAfterFeed (last_held last) found.bytes.now → found.offset ≡ bytes_read last - length found.bytes.now - 0
    → IsFound read front line found
found_open read front line last found held ends other unfed h offset =
    found_is read front line held.before (last_held last) 0 last found held h
    (held_open read front line found.bytes.now last held ends other h) (omega (arith, ap length held.split))
    (λ fed. absurd (false≢true (sym unfed ∙ fed)), λ e. absurd (no_feed e.0 e.1 held.enough)) offset
  where
    -- what is held has a byte, and so its last one is that of all that was read
    no_feed : (xs : List ℕ) → read ≡ xs ++ 10 ∷ [] → (held.before ≡ []) ⊎ (1025 ≤ length (last_held last)) → ⊥
    no_feed xs e enough = other (drop (length held.before) xs)
        (sym (drop-append_seam held.before (last_held last)) ∙ ap (drop (length held.before)) (sym held.split ∙ e)
        ∙ drop-append-le (length held.before) xs (10 ∷ []) (room enough))
      where
        room : (held.before ≡ []) ⊎ (1025 ≤ length (last_held last)) → length held.before ≤ length xs
        room (inl x) = omega (arith, ap length x)
        room (inr x) =
            omega
            (arith, x, ap length held.split, length-append held.before (last_held last), ap length e, length-append xs (10 ∷ []))

-- ---- the line before

abbrev pub after_of : (text front line : List ℕ) → IsLastLine text front line → IsAfterFeed text line
after_of text front line h = record { front = front; split = h.split; no_lf = h.no_lf; begins = h.begins }

-- the last of lines that are held is the last of all that were read
pub line_held : (before lines line : List ℕ) (is_all : Bool) → EndsInLine lines is_all line → (is_all ≡ true → before ≡ [])
    → EndsInLine (before ++ lines) true line
line_held before lines line is_all h all = record {
  front = before ++ h.front;
  split =
      ap (λ (l : List ℕ). before ++ l) h.split ∙ sym (append_assoc before (h.front ++ line) (10 ∷ []))
      ∙ ap (λ (l : List ℕ). l ++ 10 ∷ []) (sym (append_assoc before h.front line));
  no_lf = h.no_lf;
  begins = by is_all all h.known h.begins;
  known = λ e. absurd (true≢false e);
}
  where
    later : EndsInLf h.front → IsBeforeLine (before ++ h.front)
    later (g, is) = inr (before ++ g, ap (λ (l : List ℕ). before ++ l) is ∙ sym (append_assoc before g (10 ∷ [])))

    by : (b : Bool) → (b ≡ true → before ≡ []) → (b ≡ false → EndsInLf h.front) → IsBeforeLine h.front
        → IsBeforeLine (before ++ h.front)
    by true none known begins = subst (λ (l : List ℕ). IsBeforeLine (l ++ h.front)) (sym (none refl)) begins
    by false none known begins = later (known refl)

-- what stands before all that is held is nothing where all is
none_before : (read : List ℕ) (last : LastBytes) → (held : HoldsLast read last) → read ≡ last_held last → held.before ≡ []
none_before read last held is =
    nil_from_length held.before (omega (arith, ap length held.split, ap length is, length-append held.before (last_held last)))

pub before_ended : (read front line text lines found : List ℕ) (last : LastBytes) (is_all : Bool) (before : List ℕ)
    → HoldsLast read last → EndsWithLine read front line → last_held last ≡ text ++ 10 ∷ [] → IsLastLine text lines found
    → EndsInLine lines is_all before → (is_all ≡ true → read ≡ last_held last) → EndsInLine front true before
before_ended read front line text lines found last is_all before held ends whole h b all =
    subst (λ (l : List ℕ). EndsInLine l true before)
    (held_ended read front line text found last held ends whole (after_of text lines found h)).0
    (line_held held.before lines before is_all b (λ e. none_before read last held (all e)))

pub before_open : (read front line lines found : List ℕ) (last : LastBytes) (is_all : Bool) (before : List ℕ)
    → HoldsLast read last → EndsWithLine read front line → ((xs : List ℕ) → last_held last ≢ xs ++ 10 ∷ [])
    → IsLastLine (last_held last) lines found → EndsInLine lines is_all before → (is_all ≡ true → read ≡ last_held last)
    → EndsInLine front true before
before_open read front line lines found last is_all before held ends other h b all =
    subst (λ (l : List ℕ). EndsInLine l true before)
    (held_open read front line found last held ends other (after_of (last_held last) lines found h)).0
    (line_held held.before lines before is_all b (λ e. none_before read last held (all e)))

map_some : {A : Type 0} {P Q : A → Type 0} (o : Option A) → ((x : A) → P x → Q x) → IfSome o P → IfSome o Q
map_some None f h = tt
map_some (Some x) f h = f x h

-- the line before was found
pub before_found : {A : Type 0} (view : A → List ℕ) (o : Option A) (read front line bytes text lines found : List ℕ)
    (last : LastBytes) (ended is_all : Bool) → HoldsLast read last → EndsWithLine read front line → bytes ≡ last_held last
    → (ended ≡ true → bytes ≡ text ++ 10 ∷ []) → (ended ≡ false → text ≡ bytes)
    → (ended ≡ false → (xs : List ℕ) → bytes ≢ xs ++ 10 ∷ []) → IsLastLine text lines found
    → (is_all ≡ true → read ≡ last_held last)
    → IfSome o (λ x. EndsInLine lines is_all (view x)) → IfSome o (λ x. EndsInLine front true (view x))
before_found view o read front line bytes text lines found last ended is_all held ends same fed whole other h all =
    map_some o (λ x b. by ended fed whole other (view x) b)
  where
    by : (e : Bool) → (e ≡ true → bytes ≡ text ++ 10 ∷ []) → (e ≡ false → text ≡ bytes)
        → (e ≡ false → (xs : List ℕ) → bytes ≢ xs ++ 10 ∷ []) → (before : List ℕ) → EndsInLine lines is_all before
        → EndsInLine front true before
    by true f p q before b =
        before_ended read front line text lines found last is_all before held ends (sym same ∙ f refl) h b all
    by false f p q before b =
        before_open read front line lines found last is_all before held ends (λ xs e. q refl xs (same ∙ e))
        (subst (λ (l : List ℕ). IsLastLine l lines found) (p refl ∙ same) h) b all

-- ---- where no line before is told

pub where_some : {A : Type 0} (N : Type 0) (S : A → Type 0) (o : Option A) → MatchOption o N S → IfSome o S
where_some N S None h = tt
where_some N S (Some x) h = h

pub where_none : {A : Type 0} (N : Type 0) (S : A → Type 0) (o : Option A) → MatchOption o N S → o ≡ None → N
where_none N S None h e = h
where_none N S (Some x) h e = absurd (cc e)

-- no line ends without a line feed
pub no_line_open : (lines : List ℕ) (is_all : Bool) → ((xs : List ℕ) → lines ≢ xs ++ 10 ∷ []) → NoLineKnown lines is_all
no_line_open lines is_all other line h = other (h.front ++ line) h.split

-- of the first line that is held the begin isn't known, where others stand before it
pub no_line_first : (lines text front line : List ℕ) → lines ≡ text ++ 10 ∷ [] → IsLastLine text front line → length front ≡ 0
    → NoLineKnown lines false
no_line_first lines text front line e l empty other h = by (h.known refl)
  where
    same : front ≡ h.front
    same =
        (one_line front line h.front other
        (sym l.split ∙ append_cancel_right text (h.front ++ other) (10 ∷ []) (sym e ∙ h.split)) l.no_lf h.no_lf l.begins h.begins).0

    by : EndsInLf h.front → ⊥
    by (g, is) = absurd (omega (arith, empty, ap length same, ap length is, length-append g (10 ∷ [])))

-- what is held before the line is what was found before it
shown_is : (before shown lines front : List ℕ) → before ++ lines ≡ front → front ≡ before ++ shown → lines ≡ shown
shown_is before shown lines front e f =
    sym (drop-append_seam before lines) ∙ ap (drop (length before)) (e ∙ f) ∙ drop-append_seam before shown

none_known : (read shown lines : List ℕ) (last : LastBytes) (is_all : Bool) → (held : HoldsLast read last) → lines ≡ shown
    → (is_all ≡ false → read ≢ last_held last) → NoLineKnown lines is_all → NoLineKnown shown (length held.before == 0)
none_known read shown lines last is_all held same part none line h = none line (record {
  front = h.front;
  split = same ∙ h.split;
  no_lf = h.no_lf;
  begins = h.begins;
  known = λ e. by (length held.before == 0) refl e;
})
  where
    by : (b : Bool) → (length held.before == 0) ≡ b → is_all ≡ false → EndsInLf h.front
    by true zero e =
        absurd (part e (held.split
        ∙ ap (λ (l : List ℕ). l ++ last_held last) (nil_from_length held.before (eqb-true (length held.before) 0 zero))))
    by false some e = h.known some

pub before_untold : (read front line shown bytes text lines found : List ℕ) (last : LastBytes) (ended is_all : Bool)
    → (held : HoldsLast read last) → EndsWithLine read front line → front ≡ held.before ++ shown → bytes ≡ last_held last
    → (ended ≡ true → bytes ≡ text ++ 10 ∷ []) → (ended ≡ false → text ≡ bytes)
    → (ended ≡ false → (xs : List ℕ) → bytes ≢ xs ++ 10 ∷ []) → IsLastLine text lines found
    → (is_all ≡ false → read ≢ last_held last) → NoLineKnown lines is_all → NoLineKnown shown (length held.before == 0)
before_untold read front line shown bytes text lines found last ended is_all held ends split same fed whole other h part none =
    none_known read shown lines last is_all held (shown_is held.before shown lines front (by ended fed whole other) split) part none
  where
    by : (e : Bool) → (e ≡ true → bytes ≡ text ++ 10 ∷ []) → (e ≡ false → text ≡ bytes)
        → (e ≡ false → (xs : List ℕ) → bytes ≢ xs ++ 10 ∷ []) → held.before ++ lines ≡ front
    by true f p q = (held_ended read front line text found last held ends (sym same ∙ f refl) (after_of text lines found h)).0
    by false f p q =
        let there = subst (λ (l : List ℕ). IsLastLine l lines found) (p refl ∙ same) h in
        (held_open read front line found last held ends (λ xs e. q refl xs (same ∙ e)) (after_of (last_held last) lines found there)).0
