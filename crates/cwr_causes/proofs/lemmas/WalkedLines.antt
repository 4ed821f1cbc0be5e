-- How numbers go on, byte by byte and line by line.
use Rattle.std.proofs.Common.{◌≡◌, ℕ, ◌+◌, ◌-◌, ◌<◌, ◌≤◌, Bool, true, false, ◌&&◌, ◌||◌, List, [], ◌∷◌, ◌++◌, length}
use Rattle.std.proofs.Common.{take, drop, Option, Some, None, refl, sym, ap, ap₂, subst, subst₂, ◌∙◌, arith, inl, inr, append_assoc, length-append}
use Rattle.std.specs.Prelude.{◌^◌, ◌==◌, ◌⊎◌, min, nat_lt, slice_set, if◌then◌else◌, IfSome}
use Rattle.std.specs.List.{AllByRecursion, list_any, onto_first, slice_split}
use Rattle.std.specs.Str.{bytes_eq}
use Rattle.std.specs.Io.{StartsWith}
use Rattle.std.specs.Io.KnownBytes.{Consumes, IsAtEnd}
use Rattle.std.proofs.KnownBytes.{Consumes-nil, Consumes-trans}
use Rattle.std.proofs.lemmas.Bool.{eqb-true, ltb-true, ltb-false, le-ltb, lt-ltb, ne_eqb, or_from, or_parts, or_left, true≢false}
use Rattle.std.proofs.lemmas.List.{append-nil, drop-take, length-set, length-take, take-append-le, take-take, take_all, take_more_set}
use Rattle.std.proofs.lemmas.Grind.{flat_map-append}
use Rattle.std.proofs.lemmas.List.Folds.{list_any-append}
use Rattle.std.proofs.lemmas.List.Splits.{slice_split-cons_no}
use Rattle.std.proofs.lemmas.Slice.Eq.{bytes_eq-Decides}
use Rattle.cwr_fields.specs.declared.kinds.Kind.{Kind}
use Rattle.cwr_fields.specs.Format.Bytes.{digits, number_of}
use Rattle.cwr_fields.proofs.lemmas.Digits.{length-digits}
use Rattle.cwr_fields.proofs.lemmas.LineFeeds.{NoLf, NoLf-append}
use Rattle.cwr_fields.proofs.lemmas.Spellings.{are_digits-digits, number_of-fits}
use Rattle.cwr_lines.specs.Format.Lines.{is_lf, raw_lines}
use Rattle.cwr_decode.specs.Steps.Represents.{text_of}
use Rattle.cwr_decode.proofs.lemmas.RawLines.{raw_begins}
use Rattle.cwr_causes.specs.declared.ahead.Ahead.{Ahead}
use Rattle.cwr_causes.specs.declared.ahead.Sequence.{Sequence}
use Rattle.cwr_causes.specs.declared.ahead.Sequence.TheVariants.{Records, Transactions}
use Rattle.cwr_causes.specs.declared.ahead.Walk.{Walk}
use Rattle.cwr_causes.specs.Format.NumbersAfter.{IsAhead, IsSeenAhead, TellsNumbers, begins_other, ends_numbers, first_number, go_on, have_ended, is_outside}
use Rattle.cwr_causes.specs.Format.NumbersAfter.{numbers_of_line, numbers_on}
use Rattle.cwr_causes.specs.Format.Refusals.{first_kind}
use Rattle.cwr_causes.specs.Format.Sequences.{capped_number, sequence_in, sequence_of}
use Rattle.cwr_causes.specs.Format.Trailing.{TakesMore}
use Rattle.cwr_causes.specs.Format.WrongNumbers.{is_number}
use Rattle.cwr_causes.specs.Steps.Walks.{HasWalked, Walks, WalksAs, WalksNoMore, WalksOn, WalksOver, WalksPiece, ahead_with, with_byte, with_end}
use Rattle.cwr_causes.specs.Steps.Walks.{with_front, with_line, with_number, with_numbers}

-- ---- a number that stands in a line is less than the largest one of 64 bits

abbrev IsSmall : Option ℕ → Type 0
IsSmall number = IfSome number (λ n. n < 2 ^ 64 - 1)

small_if : (text : List ℕ) (b : Bool) → bytes_eq text (digits 8 (capped_number text)) ≡ b
    → IsSmall (if b then Some (capped_number text) else None)
small_if text false e = tt
small_if text true e =
    let number : ℕ = capped_number text in
    let same : text ≡ digits 8 number = (bytes_eq-Decides text (digits 8 number)).0 e in
    let fits : number_of (digits 8 number) < 10 ^ length (digits 8 number) =
    number_of-fits (digits 8 number) (are_digits-digits 8 number) in
    let low : number_of text < 10 ^ 8 =
    subst (λ (k : ℕ). number_of text < 10 ^ k) (length-digits 8 number)
    (subst (λ (t : List ℕ). number_of t < 10 ^ length (digits 8 number)) (sym same) fits) in
    small_min (number_of text) low
  where
    small_min : (n : ℕ) → n < 10 ^ 8 → min n (2 ^ 64 - 1) < 2 ^ 64 - 1
    small_min n h = omega (arith, h)

small_number : (start : ℕ) (line : List ℕ) → IsSmall (sequence_in start line)
small_number start line =
    let text : List ℕ = take 8 (drop start line) in small_if text (bytes_eq text (digits 8 (capped_number text))) refl

small_numbers : (which : Sequence) (line : List ℕ) → AllByRecursion IsSmall (numbers_of_line which line)
small_numbers Transactions line = by (is_number (sequence_in 11 line) 0)
  where
    by : (b : Bool) → AllByRecursion IsSmall (if b then sequence_in 3 line ∷ [] else [])
    by true = (small_number 3 line, tt)
    by false = tt
small_numbers Records line = (small_number 11 line, tt)

-- where the next number is counted no further than the largest one, none is taken for it
no_number : (m : Option ℕ) (n : ℕ) → IsSmall m → is_number m (min n (2 ^ 64 - 1)) ≡ is_number m n
no_number None n h = refl
no_number (Some m) n h = by (nat_lt n (2 ^ 64 - 1)) refl
  where
    by : (b : Bool) → nat_lt n (2 ^ 64 - 1) ≡ b → (m == min n (2 ^ 64 - 1)) ≡ (m == n)
    by true e = let low : n < 2 ^ 64 - 1 = ltb-true n (2 ^ 64 - 1) e in ap (λ (k : ℕ). m == k) (omega (arith, low))
    by false e =
        let high : 2 ^ 64 - 1 ≤ n = ltb-false n (2 ^ 64 - 1) e in
        ne_eqb m (min n (2 ^ 64 - 1)) (omega (arith, high, h)) ∙ sym (ne_eqb m n (omega (arith, high, h)))

-- ---- one number more

go_on-append : (n : ℕ) (ms : List (Option ℕ)) (m : Option ℕ)
    → go_on n (ms ++ m ∷ []) ≡ (go_on n ms && is_number m (n + length ms))
go_on-append n [] m = and_true (is_number m n) ∙ ap (is_number m) (omega arith)
  where
    and_true : (b : Bool) → (b && true) ≡ b
    and_true true = refl
    and_true false = refl
go_on-append n (k ∷ ms) m =
    ap (λ (b : Bool). is_number k n && b)
    (go_on-append (n + 1) ms m ∙ ap (λ (j : ℕ). go_on (n + 1) ms && is_number m j) (omega arith))
    ∙ sym (and_assoc (is_number k n) (go_on (n + 1) ms) (is_number m (n + length (k ∷ ms))))
  where
    and_assoc : (a b c : Bool) → ((a && b) && c) ≡ (a && (b && c))
    and_assoc true b c = refl
    and_assoc false b c = refl

first_with : (ms : List (Option ℕ)) (m first : Option ℕ) (count : ℕ) → count ≡ min (length ms) (2 ^ 64 - 1)
    → first ≡ first_number ms → (if count == 0 then m else first) ≡ first_number (ms ++ m ∷ [])
first_with [] m first count c e = ap (λ (k : ℕ). if k == 0 then m else first) c
first_with (k ∷ ms) m first count c e =
    ap (λ (b : Bool). if b then m else first) (ne_eqb count 0 (omega (arith, c))) ∙ e

-- what is told of some numbers is told of them and of one more
tells_more : (n : ℕ) (ms : List (Option ℕ)) (ahead : Ahead) (m : Option ℕ) (next : ℕ) → TellsNumbers n ms ahead
    → next ≡ min (n + 1 + length ms) (2 ^ 64 - 1) → IsSmall m → TellsNumbers n (ms ++ m ∷ []) (ahead_with ahead m next)
tells_more n ms ahead m next t e h = record {
  count = omega (arith, t.count, length-append ms (m ∷ []));
  first = first_with ms m ahead.first ahead.count t.count t.first;
  goes_on =
      ap₂ (λ (a b : Bool). a && b) t.goes_on (ap (is_number m) e ∙ no_number m (n + 1 + length ms) h)
      ∙ sym (go_on-append (n + 1) ms m);
}

-- so it is of the numbers of a line, and nothing else changes
record HasTold (n : ℕ) (ms : List (Option ℕ)) (old new : Walk) : Type 0 where
  tells : TellsNumbers n ms new.ahead
  next : new.next ≡ min (n + 1 + length ms) (2 ^ 64 - 1)
  sequence : new.sequence ≡ old.sequence
  front : new.front ≡ old.front
  ended : new.ended ≡ old.ended

tells_all : (n : ℕ) (ms ks : List (Option ℕ)) (old walk : Walk) → HasTold n ms old walk → AllByRecursion IsSmall ks
    → HasTold n (ms ++ ks) old (with_numbers walk ks)
tells_all n ms [] old walk t h = subst (λ (l : List (Option ℕ)). HasTold n l old walk) (sym (append-nil ms)) t
tells_all n ms (k ∷ ks) old walk t h =
    subst (λ (l : List (Option ℕ)). HasTold n l old (with_numbers (with_number walk k) ks)) (append_assoc ms (k ∷ []) ks)
    (tells_all n (ms ++ k ∷ []) ks old (with_number walk k)
    (record {
      tells = tells_more n ms walk.ahead k walk.next t.tells t.next h.0;
      next = omega (arith, t.next, length-append ms (k ∷ []));
      sequence = t.sequence;
      front = t.front;
      ended = t.ended;
    })
    h.1)

-- ---- one line more

numbers_here : (which : Sequence) (line : List ℕ) (lines : List (List ℕ)) → ends_numbers which line ≡ false
    → numbers_on which (line ∷ lines) ≡ numbers_of_line which line ++ numbers_on which lines
numbers_here which line lines h =
    ap (λ (b : Bool). if b then [] else numbers_of_line which line ++ numbers_on which lines) h

numbers_end : (which : Sequence) (line : List ℕ) (lines : List (List ℕ)) → ends_numbers which line ≡ true
    → numbers_on which (line ∷ lines) ≡ []
numbers_end which line lines h =
    ap (λ (b : Bool). if b then [] else numbers_of_line which line ++ numbers_on which lines) h

-- where the numbers haven't ended on some lines, those on the lines after them follow
numbers_after : (which : Sequence) (lines more : List (List ℕ)) → have_ended which lines ≡ false
    → numbers_on which (lines ++ more) ≡ numbers_on which lines ++ numbers_on which more
numbers_after which [] more h = refl
numbers_after which (line ∷ lines) more h =
    let p = or_parts (ends_numbers which line) (have_ended which lines) h in
    numbers_here which line (lines ++ more) p.0
    ∙ ap (λ (l : List (Option ℕ)). numbers_of_line which line ++ l) (numbers_after which lines more p.1)
    ∙ sym (append_assoc (numbers_of_line which line) (numbers_on which lines) (numbers_on which more))
    ∙ ap (λ (l : List (Option ℕ)). l ++ numbers_on which more) (sym (numbers_here which line lines p.0))

-- where they have, no line after them adds one
stay_by : (which : Sequence) (line : List ℕ) (lines more : List (List ℕ)) (b : Bool) → ends_numbers which line ≡ b
    → (have_ended which lines ≡ true → numbers_on which (lines ++ more) ≡ numbers_on which lines)
    → (b || have_ended which lines) ≡ true → numbers_on which (line ∷ (lines ++ more)) ≡ numbers_on which (line ∷ lines)
stay_by which line lines more true e later h = numbers_end which line (lines ++ more) e ∙ sym (numbers_end which line lines e)
stay_by which line lines more false e later h =
    numbers_here which line (lines ++ more) e
    ∙ ap (λ (l : List (Option ℕ)). numbers_of_line which line ++ l) (later h)
    ∙ sym (numbers_here which line lines e)

numbers_stay : (which : Sequence) (lines more : List (List ℕ)) → have_ended which lines ≡ true
    → numbers_on which (lines ++ more) ≡ numbers_on which lines
numbers_stay which [] more h = absurd (true≢false (sym h))
numbers_stay which (line ∷ lines) more h =
    stay_by which line lines more (ends_numbers which line) refl (numbers_stay which lines more) h

-- ---- the front of a line says all

front_kind : (line : List ℕ) → first_kind (take 19 line) ≡ first_kind line
front_kind [] = refl
front_kind (a ∷ []) = refl
front_kind (a ∷ b ∷ []) = refl
front_kind (a ∷ b ∷ c ∷ line) = refl

front_sequence : (start : ℕ) (line : List ℕ) → start + 8 ≤ 19 → sequence_in start (take 19 line) ≡ sequence_in start line
front_sequence start line h =
    let whole : start + (19 - start) ≡ 19 = omega (arith, h) in
    let long : 8 ≤ 19 - start = omega (arith, h) in
    ap sequence_of
    (ap (λ (k : ℕ). take 8 (drop start (take k line))) (sym whole)
    ∙ ap (take 8) (drop-take start (19 - start) line)
    ∙ take-take 8 (19 - start) (drop start line) long)

short_front : (line : List ℕ) (b : Bool) → nat_lt (length line) 19 ≡ b → nat_lt (length (take 19 line)) 19 ≡ b
short_front line true e =
    let low : length line < 19 = ltb-true (length line) 19 e in
    lt-ltb (length (take 19 line)) 19 (omega (arith, low, length-take 19 line))
short_front line false e =
    let high : 19 ≤ length line = ltb-false (length line) 19 e in
    le-ltb (length (take 19 line)) 19 (omega (arith, high, length-take 19 line))

front_ends : (which : Sequence) (line : List ℕ) → ends_numbers which (take 19 line) ≡ ends_numbers which line
front_ends which line =
    ap₂ (λ (a b : Bool). a || b) (short_front line (nat_lt (length line) 19) refl)
    (ap₂ (λ (k : Option Kind) (r : Option ℕ). is_outside k || begins_other which r) (front_kind line)
    (front_sequence 11 line (omega arith)))

front_numbers : (which : Sequence) (line : List ℕ) → numbers_of_line which (take 19 line) ≡ numbers_of_line which line
front_numbers Transactions line =
    ap₂ (λ (r t : Option ℕ). if is_number r 0 then t ∷ [] else []) (front_sequence 11 line (omega arith))
    (front_sequence 3 line (omega arith))
front_numbers Records line = ap (λ (r : Option ℕ). r ∷ []) (front_sequence 11 line (omega arith))

-- ---- one byte more

-- the line in hand is whole, and none of the next one was read
text_with : (lines : List (List ℕ)) (rest : List ℕ)
    → (text_of lines ++ rest) ++ 10 ∷ [] ≡ text_of (lines ++ rest ∷ []) ++ []
text_with lines rest =
    append_assoc (text_of lines) rest (10 ∷ [])
    ∙ ap (λ (l : List ℕ). text_of lines ++ l) (sym (append-nil (rest ++ 10 ∷ [])))
    ∙ sym (flat_map-append (λ (line : List ℕ). line ++ 10 ∷ []) lines (rest ∷ []))
    ∙ sym (append-nil (text_of (lines ++ rest ∷ [])))

no_lf_with : (lines : List (List ℕ)) (line : List ℕ) → AllByRecursion NoLf lines → NoLf line
    → AllByRecursion NoLf (lines ++ line ∷ [])
no_lf_with [] line h k = (k, tt)
no_lf_with (first ∷ lines) line h k = (h.0, no_lf_with lines line h.1 k)

ended_with : (which : Sequence) (lines : List (List ℕ)) (line : List ℕ) (b : Bool) → have_ended which lines ≡ false
    → ends_numbers which line ≡ b → have_ended which (lines ++ line ∷ []) ≡ b
ended_with which lines line b h e =
    list_any-append (ends_numbers which) lines (line ∷ [])
    ∙ ap₂ (λ (x y : Bool). x || (y || false)) h e ∙ or_false b
  where
    or_false : (b : Bool) → (b || false) ≡ b
    or_false true = refl
    or_false false = refl

-- the walk goes on as long as it hasn't ended
walks_on : (n : ℕ) (read : List ℕ) (walk : Walk) → walk.ended ≡ false → WalksOn n read walk → Walks n read walk
walks_on n read walk e w = subst (λ (b : Bool). WalksAs b n read walk) (sym e) w

walked_on : (n : ℕ) (read : List ℕ) (walk : Walk) → walk.ended ≡ false → Walks n read walk → WalksOn n read walk
walked_on n read walk e w = subst (λ (b : Bool). WalksAs b n read walk) e w

walked_no_more : (n : ℕ) (read : List ℕ) (walk : Walk) → walk.ended ≡ true → Walks n read walk → WalksNoMore n read walk
walked_no_more n read walk e w = subst (λ (b : Bool). WalksAs b n read walk) e w

-- on the line that was read to its end the numbers have ended
ends_here : (n : ℕ) (read : List ℕ) (walk : Walk) → (w : WalksOn n read walk) → ends_numbers walk.sequence w.rest ≡ true
    → Walks n (read ++ 10 ∷ []) (record walk { ended = true; filled = 0 })
ends_here n read walk w e = record {
  lines = w.lines ++ w.rest ∷ [];
  rest = [];
  split = ap (λ (l : List ℕ). l ++ 10 ∷ []) w.split ∙ text_with w.lines w.rest;
  no_lf = no_lf_with w.lines w.rest w.no_lf w.rest_no_lf;
  ended = ended_with walk.sequence w.lines w.rest true w.going e;
  tells =
      subst (λ (l : List (Option ℕ)). TellsNumbers n l walk.ahead)
      (sym (numbers_after walk.sequence w.lines (w.rest ∷ []) w.going
      ∙ ap (λ (l : List (Option ℕ)). numbers_on walk.sequence w.lines ++ l) (numbers_end walk.sequence w.rest [] e)
      ∙ append-nil (numbers_on walk.sequence w.lines)))
      w.tells;
}

-- or its number follows
follows_here : (n : ℕ) (read : List ℕ) (walk : Walk) → (w : WalksOn n read walk) → ends_numbers walk.sequence w.rest ≡ false
    → WalksOn n (read ++ 10 ∷ []) (record (with_numbers walk (numbers_of_line walk.sequence w.rest)) { filled = 0 })
follows_here n read walk w e =
    let ms : List (Option ℕ) = numbers_on walk.sequence w.lines in
    let ks : List (Option ℕ) = numbers_of_line walk.sequence w.rest in
    let told : HasTold n (ms ++ ks) walk (with_numbers walk ks) =
    tells_all n ms ks walk walk (record { tells = w.tells; next = w.next; sequence = refl; front = refl; ended = refl })
    (small_numbers walk.sequence w.rest) in
    let which : Sequence = (with_numbers walk ks).sequence in
    let same : numbers_on which (w.lines ++ w.rest ∷ []) ≡ ms ++ ks =
    ap (λ (s : Sequence). numbers_on s (w.lines ++ w.rest ∷ [])) told.sequence
    ∙ numbers_after walk.sequence w.lines (w.rest ∷ []) w.going
    ∙ ap (λ (l : List (Option ℕ)). ms ++ l) (numbers_here walk.sequence w.rest [] e ∙ append-nil ks) in
    record {
      lines = w.lines ++ w.rest ∷ [];
      rest = [];
      split = ap (λ (l : List ℕ). l ++ 10 ∷ []) w.split ∙ text_with w.lines w.rest;
      no_lf = no_lf_with w.lines w.rest w.no_lf w.rest_no_lf;
      rest_no_lf = refl;
      going =
          ap (λ (s : Sequence). have_ended s (w.lines ++ w.rest ∷ [])) told.sequence
          ∙ ended_with walk.sequence w.lines w.rest false w.going e;
      tells = subst (λ (l : List (Option ℕ)). TellsNumbers n l (with_numbers walk ks).ahead) (sym same) told.tells;
      next = told.next ∙ ap (λ (l : List (Option ℕ)). min (n + 1 + length l) (2 ^ 64 - 1)) (sym same);
      room = ap length told.front ∙ w.room;
      filled = omega arith;
      front = refl;
    }

-- so the line feed is read
line_taken : (n : ℕ) (read : List ℕ) (walk : Walk) → walk.ended ≡ false → WalksOn n read walk
    → Walks n (read ++ 10 ∷ []) (with_end walk)
line_taken n read walk going w =
    subst (λ (line : List ℕ). Walks n (read ++ 10 ∷ []) (record (with_line walk line) { filled = 0 })) (sym w.front)
    (subst₂
    (λ (b : Bool) (ks : List (Option ℕ)).
    Walks n (read ++ 10 ∷ []) (record (if b then record walk { ended = true } else with_numbers walk ks) { filled = 0 }))
    (sym (front_ends walk.sequence w.rest)) (sym (front_numbers walk.sequence w.rest))
    (by (ends_numbers walk.sequence w.rest) refl))
  where
    by : (b : Bool) → ends_numbers walk.sequence w.rest ≡ b
        → Walks n (read ++ 10 ∷ [])
        (record (if b then record walk { ended = true } else with_numbers walk (numbers_of_line walk.sequence w.rest))
        { filled = 0 })
    by true e = ends_here n read walk w e
    by false e =
        let ks : List (Option ℕ) = numbers_of_line walk.sequence w.rest in
        walks_on n (read ++ 10 ∷ []) (record (with_numbers walk ks) { filled = 0 })
        ((tells_all n (numbers_on walk.sequence w.lines) ks walk walk
        (record { tells = w.tells; next = w.next; sequence = refl; front = refl; ended = refl })
        (small_numbers walk.sequence w.rest)).ended
        ∙ going)
        (follows_here n read walk w e)

-- another byte of the line in hand
front_taken : (n : ℕ) (read : List ℕ) (walk : Walk) (byte : ℕ) → (byte == 10) ≡ false → WalksOn n read walk
    → WalksOn n (read ++ byte ∷ []) (with_front walk byte)
front_taken n read walk byte other w = by (nat_lt walk.filled 19) refl
  where
    grown : read ++ byte ∷ [] ≡ text_of w.lines ++ (w.rest ++ byte ∷ [])
    grown = ap (λ (l : List ℕ). l ++ byte ∷ []) w.split ∙ append_assoc (text_of w.lines) w.rest (byte ∷ [])

    plain : NoLf (w.rest ++ byte ∷ [])
    plain = NoLf-append w.rest (byte ∷ []) w.rest_no_lf (or_from (byte == 10) false other refl)

    more : length (w.rest ++ byte ∷ []) ≡ length w.rest + 1
    more = length-append w.rest (byte ∷ [])

    by : (b : Bool) → nat_lt walk.filled 19 ≡ b
        → WalksOn n (read ++ byte ∷ [])
        (if b then record walk { front = slice_set walk.front walk.filled byte; filled = walk.filled + 1 } else walk)
    by true e =
        let low : walk.filled < 19 = ltb-true walk.filled 19 e in
        let all : walk.filled ≡ length w.rest = omega (arith, low, w.filled) in
        let here : walk.filled < length walk.front = omega (arith, low, w.room) in
        let whole : take 19 w.rest ≡ w.rest = take_all 19 w.rest (omega (arith, low, w.filled)) in
        let room : length w.rest + 1 ≤ 19 = omega (arith, low, all) in
        record {
          lines = w.lines;
          rest = w.rest ++ byte ∷ [];
          split = grown;
          no_lf = w.no_lf;
          rest_no_lf = plain;
          going = w.going;
          tells = w.tells;
          next = w.next;
          room = length-set walk.front walk.filled byte ∙ w.room;
          filled = omega (arith, all, more, room);
          front =
              take_more_set walk.front walk.filled byte here
              ∙ ap (λ (l : List ℕ). l ++ byte ∷ []) (w.front ∙ whole)
              ∙ sym (take_all 19 (w.rest ++ byte ∷ []) (omega (arith, more, room)));
        }
    by false e =
        let high : 19 ≤ walk.filled = ltb-false walk.filled 19 e in
        let long : 19 ≤ length w.rest = omega (arith, high, w.filled) in
        record {
          lines = w.lines;
          rest = w.rest ++ byte ∷ [];
          split = grown;
          no_lf = w.no_lf;
          rest_no_lf = plain;
          going = w.going;
          tells = w.tells;
          next = w.next;
          room = w.room;
          filled = omega (arith, w.filled, more, long);
          front = w.front ∙ sym (take-append-le 19 w.rest (byte ∷ []) long);
        }

front_open : (walk : Walk) (byte : ℕ) → (with_front walk byte).ended ≡ walk.ended
front_open walk byte = by (nat_lt walk.filled 19)
  where
    by : (b : Bool)
        → (if b then record walk { front = slice_set walk.front walk.filled byte; filled = walk.filled + 1 } else walk).ended
        ≡ walk.ended
    by true = refl
    by false = refl

byte_taken : (n : ℕ) (read : List ℕ) (walk : Walk) (byte : ℕ) → walk.ended ≡ false → Walks n read walk
    → Walks n (read ++ byte ∷ []) (with_byte walk byte)
byte_taken n read walk byte going walks = by (byte == 10) refl
  where
    w : WalksOn n read walk
    w = walked_on n read walk going walks

    by : (b : Bool) → (byte == 10) ≡ b → Walks n (read ++ byte ∷ []) (if b then with_end walk else with_front walk byte)
    by true e =
        subst (λ (k : ℕ). Walks n (read ++ k ∷ []) (with_end walk)) (sym (eqb-true byte 10 e)) (line_taken n read walk going w)
    by false e =
        walks_on n (read ++ byte ∷ []) (with_front walk byte) (front_open walk byte ∙ going) (front_taken n read walk byte e w)

-- after the numbers have ended nothing changes
rest_taken : (n : ℕ) (read more : List ℕ) (walk : Walk) → walk.ended ≡ true → Walks n read walk → Walks n (read ++ more) walk
rest_taken n read more walk e walks =
    let w : WalksNoMore n read walk = walked_no_more n read walk e walks in
    subst (λ (b : Bool). WalksAs b n (read ++ more) walk) (sym e)
    (record {
      lines = w.lines;
      rest = w.rest ++ more;
      split = ap (λ (l : List ℕ). l ++ more) w.split ∙ append_assoc (text_of w.lines) w.rest more;
      no_lf = w.no_lf;
      ended = w.ended;
      tells = w.tells;
    })

-- ---- pieces

pub over_none : (walk : Walk) → walk.filled ≤ 19 → WalksOver [] walk walk
over_none walk h =
    (refl, h, λ n read w. subst (λ (l : List ℕ). Walks n l walk) (sym (append-nil read)) w)

-- which numbers are followed stays the same
sequence_all : (walk : Walk) (ks : List (Option ℕ)) → (with_numbers walk ks).sequence ≡ walk.sequence
sequence_all walk [] = refl
sequence_all walk (k ∷ ks) = sequence_all (with_number walk k) ks

abbrev Kept : Walk → Walk → Type 0
Kept old new = (new.sequence ≡ old.sequence) × (new.filled ≤ 19)

kept_front : (walk : Walk) (byte : ℕ) (b : Bool) → walk.filled ≤ 19 → nat_lt walk.filled 19 ≡ b
    → Kept walk (if b then record walk { front = slice_set walk.front walk.filled byte; filled = walk.filled + 1 } else walk)
kept_front walk byte true h e = let low : walk.filled < 19 = ltb-true walk.filled 19 e in (refl, omega (arith, low))
kept_front walk byte false h e = (refl, h)

kept_line : (walk : Walk) (b : Bool) (ks : List (Option ℕ))
    → Kept walk (record (if b then record walk { ended = true } else with_numbers walk ks) { filled = 0 })
kept_line walk true ks = (refl, omega arith)
kept_line walk false ks = (sequence_all walk ks, omega arith)

kept_byte : (walk : Walk) (byte : ℕ) (b : Bool) → walk.filled ≤ 19
    → Kept walk (if b then with_end walk else with_front walk byte)
kept_byte walk byte true h =
    kept_line walk (ends_numbers walk.sequence (take walk.filled walk.front))
    (numbers_of_line walk.sequence (take walk.filled walk.front))
kept_byte walk byte false h = kept_front walk byte (nat_lt walk.filled 19) h refl

pub over_byte : (done : List ℕ) (byte : ℕ) (old walk new : Walk) → WalksOver done old walk → walk.ended ≡ false
    → new ≡ with_byte walk byte → WalksOver (done ++ byte ∷ []) old new
over_byte done byte old walk new o going e =
    subst (WalksOver (done ++ byte ∷ []) old) (sym e)
    (let kept : Kept walk (with_byte walk byte) = kept_byte walk byte (byte == 10) o.1 in (
      kept.0 ∙ o.0,
      kept.1,
      λ n read w. subst (λ (l : List ℕ). Walks n l (with_byte walk byte)) (append_assoc read done (byte ∷ []))
          (byte_taken n (read ++ done) walk byte going (o.2 n read w)),
    ))

pub over_rest : (done : List ℕ) (byte : ℕ) (old walk : Walk) → WalksOver done old walk → walk.ended ≡ true
    → WalksOver (done ++ byte ∷ []) old walk
over_rest done byte old walk o e = (
  o.0,
  o.1,
  λ n read w. subst (λ (l : List ℕ). Walks n l walk) (append_assoc read done (byte ∷ []))
      (rest_taken n (read ++ done) (byte ∷ []) walk e (o.2 n read w)),
)

-- ---- the whole walk

-- nothing was read yet
pub walks_none : (n : ℕ) (walk : Walk) → walk.ended ≡ false → TellsNumbers n [] walk.ahead
    → walk.next ≡ min (n + 1) (2 ^ 64 - 1) → length walk.front ≡ 19 → walk.filled ≡ 0 → Walks n [] walk
walks_none n walk going tells next room none =
    walks_on n [] walk going
    (record {
      lines = [];
      rest = [];
      split = refl;
      no_lf = tt;
      rest_no_lf = refl;
      going = refl;
      tells = tells;
      next = omega (arith, next);
      room = room;
      filled = none ∙ omega arith;
      front = ap (λ (k : ℕ). take k walk.front) none;
    })

pub begun : (which : Sequence) (n : ℕ) (left : Option (List ℕ)) (walk : Walk) → Walks n [] walk → walk.ended ≡ false
    → walk.sequence ≡ which → walk.filled ≡ 0 → HasWalked which n left left 0 walk
begun which n left walk w going same none = record {
  more = [];
  consumed = Consumes-nil left;
  walks = w;
  going = going;
  same = same;
  within = omega (arith, none);
  each = omega arith;
}

-- a piece more was read
pub walked_more : (which : Sequence) (n : ℕ) (left mid after : Option (List ℕ)) (pieces : ℕ) (old new : Walk) (at_end : Bool)
    → at_end ≡ false → new.ended ≡ false → HasWalked which n left mid pieces old → WalksPiece mid after old new at_end
    → HasWalked which n left after (pieces + 1) new
walked_more which n left mid after pieces old new at_end e going h p = record {
  more = h.more ++ p.piece;
  consumed = Consumes-trans left mid after h.more p.piece h.consumed p.consumed;
  walks = p.walks.2 n h.more h.walks;
  going = going;
  same = p.walks.0 ∙ h.same;
  within = p.walks.1;
  each = omega (arith, h.each, p.some e, length-append h.more p.piece);
}

-- without a line feed there is no line
no_lines : (rest : List ℕ) → NoLf rest → raw_lines rest ≡ []
no_lines rest h = ap (λ (ps : List (List ℕ)). take (length ps - 1) ps) (one_part rest h)
  where
    one_part : (rest : List ℕ) → NoLf rest → slice_split is_lf rest ≡ rest ∷ []
    one_part [] h = refl
    one_part (b ∷ rest) h =
        let p = or_parts (is_lf b) (list_any is_lf rest) h in
        slice_split-cons_no is_lf b rest p.0 ∙ ap (onto_first b) (one_part rest p.1)

-- what is told of the lines that were read
read_on : (n : ℕ) (read : List ℕ) (walk : Walk) → WalksOn n read walk
    → TellsNumbers n (numbers_on walk.sequence (raw_lines read)) walk.ahead
read_on n read walk w =
    subst (λ (l : List (List ℕ)). TellsNumbers n (numbers_on walk.sequence l) walk.ahead)
    (sym (ap raw_lines w.split ∙ raw_begins w.lines w.rest w.no_lf ∙ ap (λ (l : List (List ℕ)). w.lines ++ l) (no_lines w.rest w.rest_no_lf)
    ∙ append-nil w.lines))
    w.tells

record TellsRead (n : ℕ) (read : List ℕ) (walk : Walk) : Type 0 where
  tells : TellsNumbers n (numbers_on walk.sequence (raw_lines read)) walk.ahead
  ended : walk.ended ≡ true → have_ended walk.sequence (raw_lines read) ≡ true

read_no_more : (n : ℕ) (read : List ℕ) (walk : Walk) → WalksNoMore n read walk → TellsRead n read walk
read_no_more n read walk w =
    let lines : raw_lines read ≡ w.lines ++ raw_lines w.rest =
    ap raw_lines w.split ∙ raw_begins w.lines w.rest w.no_lf in
    record {
      tells =
          subst (λ (l : List (Option ℕ)). TellsNumbers n l walk.ahead)
          (sym (ap (numbers_on walk.sequence) lines ∙ numbers_stay walk.sequence w.lines (raw_lines w.rest) w.ended)) w.tells;
      ended =
          λ e. ap (have_ended walk.sequence) lines
          ∙ list_any-append (ends_numbers walk.sequence) w.lines (raw_lines w.rest)
          ∙ or_left (have_ended walk.sequence w.lines) (have_ended walk.sequence (raw_lines w.rest)) w.ended;
    }

tells_read : (n : ℕ) (read : List ℕ) (walk : Walk) → Walks n read walk → TellsRead n read walk
tells_read n read walk w = by walk.ended refl
  where
    by : (b : Bool) → walk.ended ≡ b → TellsRead n read walk
    by true e = read_no_more n read walk (walked_no_more n read walk e w)
    by false e = record {
      tells = read_on n read walk (walked_on n read walk e w);
      ended = λ t. absurd (true≢false (sym t ∙ e));
    }

ends_reader : (left mid after : Option (List ℕ)) (more : List ℕ) → Consumes left mid more → IfSome mid (λ bytes. IsAtEnd after)
    → IfSome left (λ bytes. IsAtEnd after)
ends_reader None mid after more c h = tt
ends_reader (Some xs) None after more c h = absurd c
ends_reader (Some xs) (Some ys) after more c h = h

-- the reader's end was reached, or the numbers have ended
pub ahead_to_end : (which : Sequence) (n : ℕ) (left mid after : Option (List ℕ)) (pieces : ℕ) (old new : Walk) (at_end : Bool)
    → (at_end ≡ true) ⊎ (new.ended ≡ true) → HasWalked which n left mid pieces old → WalksPiece mid after old new at_end
    → IsAhead which n left after new.ahead
ahead_to_end which n left mid after pieces old new at_end e h p =
    let read : List ℕ = h.more ++ p.piece in
    let same : new.sequence ≡ which = p.walks.0 ∙ h.same in
    let told : TellsRead n read new = tells_read n read new (p.walks.2 n h.more h.walks) in
    record {
      more = read;
      consumed = Consumes-trans left mid after h.more p.piece h.consumed p.consumed;
      tells = subst (λ (s : Sequence). TellsNumbers n (numbers_on s (raw_lines read)) new.ahead) same told.tells;
      all =
          λ going. inl
          (over e (λ t. ap (λ (s : Sequence). have_ended s (raw_lines read)) (sym same) ∙ told.ended t) going);
    }
  where
    over : (at_end ≡ true) ⊎ (new.ended ≡ true) → (new.ended ≡ true → have_ended which (raw_lines (h.more ++ p.piece)) ≡ true)
        → have_ended which (raw_lines (h.more ++ p.piece)) ≡ false → IfSome left (λ bytes. IsAtEnd after)
    over (inl t) k going = ends_reader left mid after h.more h.consumed (p.over t)
    over (inr t) k going = absurd (true≢false (sym (k t) ∙ going))

-- or so many pieces were read
pub ahead_so_far : (which : Sequence) (n : ℕ) (left after : Option (List ℕ)) (pieces : ℕ) (walk : Walk) → 64 ≤ pieces
    → HasWalked which n left after pieces walk → IsAhead which n left after walk.ahead
ahead_so_far which n left after pieces walk many h = record {
  more = h.more;
  consumed = h.consumed;
  tells =
      subst (λ (s : Sequence). TellsNumbers n (numbers_on s (raw_lines h.more)) walk.ahead) h.same
      (tells_read n h.more walk h.walks).tells;
  all = λ going. inr (omega (arith, many, h.each));
}

-- whatever was read was taken
pub taken_piece : (which : Sequence) (n : ℕ) (left mid after : Option (List ℕ)) (pieces : ℕ) (old new : Walk) (at_end : Bool)
    → HasWalked which n left mid pieces old → WalksPiece mid after old new at_end → TakesMore left after
taken_piece which n left mid after pieces old new at_end h p =
    (h.more ++ p.piece, Consumes-trans left mid after h.more p.piece h.consumed p.consumed)

pub taken_walked : (which : Sequence) (n : ℕ) (left after : Option (List ℕ)) (pieces : ℕ) (walk : Walk)
    → HasWalked which n left after pieces walk → TakesMore left after
taken_walked which n left after pieces walk h = (h.more, h.consumed)

-- what was seen of the lines after the number
pub seen_ahead : (which : Sequence) (n : ℕ) (left : Option (List ℕ)) (old new : Walk) (piece : List ℕ) → old.sequence ≡ which
    → Walks n [] old → WalksOver piece old new → IfSome left (λ bytes. StartsWith bytes piece)
    → IfSome left (λ bytes. length piece ≡ 0 → bytes ≡ []) → IsSeenAhead which n left new.ahead
seen_ahead which n left old new piece same begun over front some = record {
  seen = piece;
  front = front;
  some = some;
  tells =
      subst (λ (s : Sequence). TellsNumbers n (numbers_on s (raw_lines piece)) new.ahead) (over.0 ∙ same)
      (tells_read n piece new (over.2 n [] begun)).tells;
}
