-- The line at the front of a text, and where its bytes stand.
use Rattle.std.proofs.Common.{◌≡◌, ℕ, ◌-◌, ◌<◌, ◌≤◌, List, [], ◌∷◌, ◌++◌, length, take, Option, Some, refl, sym, ap, subst, ◌∙◌}
use Rattle.std.proofs.Common.{arith, inl, inr}
use Rattle.std.specs.Prelude.{◌⊎◌, ◌↔◌, IsTrue}
use Rattle.std.proofs.lemmas.List.{length-append, length-take-le, take_all, take-take}
use Rattle.cwr_fields.specs.declared.kinds.Kind.TheVariants.{Trl}
use Rattle.cwr_lines.specs.declared.lines.LineEnd.{LineEnd}
use Rattle.cwr_lines.specs.declared.lines.LineEnd.TheVariants.{Open, Line, Over}
use Rattle.cwr_lines.specs.Format.Records.{RecordValue}
use Rattle.cwr_lines.specs.Format.Lines.{without_cr}
use Rattle.cwr_lines.specs.Steps.Held.{HeldLine, Stops, held_record, text_by}
use Rattle.cwr_shape.specs.declared.symbols.Symbol.{Symbol}
use Rattle.cwr_shape.specs.declared.symbols.Symbol.TheVariants.{Plain}
use Rattle.cwr_shape.specs.Steps.Tallies.{TallyValue, IsTallyOf}
use Rattle.cwr_values.specs.Format.Values.{symbol_of}
use Rattle.cwr_judge.specs.Steps.Judged.{IsCounted}
use Rattle.cwr_decode.specs.Steps.TextLines.{AcceptsLine, FirstLine, IsCutOff, IsLastLine}
use Rattle.cwr_decode.proofs.lemmas.AfterAcceptedLine.{is_line}
use Rattle.cwr_decode.specs.declared.indexing.Accepted.{Accepted}
use Rattle.cwr_decode.specs.Steps.TakenLines.{BeginsWithLine, TakesLine}

-- the line's bytes stand at the front of the text
pub front_is : (rest : List ℕ) (taken : ℕ) (line : HeldLine) → FirstLine rest taken line → line.ended ≡ Line
    → take (length line.bytes) rest ≡ line.bytes
front_is rest taken line f ended = by f.taken
  where
    by : IsCutOff rest taken line ⊎ IsLastLine rest taken line → take (length line.bytes) rest ≡ line.bytes
    by (inl c) =
        let text : line.bytes ++ 10 ∷ [] ≡ take taken rest = ap (λ (e : LineEnd). text_by e line.bytes) (sym ended) ∙ c.text_is in
        let enough : length line.bytes ≤ taken =
        omega (arith, ap length text, length-append line.bytes (10 ∷ []), length-take-le taken rest f.within) in
        sym (take-take (length line.bytes) taken rest enough) ∙ ap (take (length line.bytes)) (sym text)
        ∙ front line.bytes (10 ∷ [])
      where
        front : (xs ys : List ℕ) → take (length xs) (xs ++ ys) ≡ xs
        front [] ys = refl
        front (x ∷ xs) ys = ap (λ (l : List ℕ). x ∷ l) (front xs ys)
    by (inr l) = take_all (length line.bytes) rest (omega (arith, ap length l.bytes)) ∙ sym l.bytes

-- the text has at least the line's bytes
pub line_within : (rest : List ℕ) (taken : ℕ) (line : HeldLine) → FirstLine rest taken line → length line.bytes ≤ length rest
line_within rest taken line f = by f.taken
  where
    at_least : (e : LineEnd) (bytes : List ℕ) → length bytes ≤ length (text_by e bytes)
    at_least Open bytes = omega arith
    at_least Line bytes = omega (arith, length-append bytes (10 ∷ []))
    at_least Over bytes = omega arith

    by : IsCutOff rest taken line ⊎ IsLastLine rest taken line → length line.bytes ≤ length rest
    by (inl c) = omega (arith, at_least line.ended line.bytes, ap length c.text_is, length-take-le taken rest f.within, f.within)
    by (inr l) = omega (arith, ap length l.bytes)

-- a line that ended by its line feed is the first one
pub first_of : (text : List ℕ) (taken : ℕ) (line : HeldLine) → BeginsWithLine text taken line → FirstLine text taken line
first_of text taken line b =
    let stops : 0 < taken = subst (λ (e : LineEnd). Stops e text taken) b.ended b.takes.stops in
    record {
      within = b.takes.within;
      some = stops;
      ended = λ e. no (sym b.ended ∙ e);
      held = b.held;
      taken = inl (record { text_is = b.takes.text; stops = b.takes.stops });
    }
  where
    no : Line ≡ Open → ⊥
    no e = cc e

-- what is carried is one record
same_record : (o : Option RecordValue) (r q : RecordValue) → o ≡ Some r → o ≡ Some q → r ≡ q
same_record o r q e f = let same : Some r ≡ Some q = sym e ∙ f in cc same

-- of a line that stands whole in the text, and that quick tests find good; `found` is its record
pub quick_line : (tally new : TallyValue) (xs : List Symbol) (text : List ℕ) (line : HeldLine) (found : RecordValue)
    (got : Accepted) → IsTallyOf tally xs → BeginsWithLine text got.taken line → IsCounted tally line new
    → held_record line ≡ Some found → IsTrue got.last ↔ (symbol_of found ≡ Plain Trl)
    → got.length ≤ length (take (got.taken - 1) text)
    → take got.length (take (got.taken - 1) text) ≡ without_cr (take (got.taken - 1) text) → TakesLine tally xs text got new
quick_line tally new xs text line found got st b q carried last few body =
    let first : FirstLine text got.taken line = first_of text got.taken line b in
    let next = q.next xs st in
    let same : symbol_of found ≡ q.symbol =
    ap symbol_of (same_record (held_record line) found q.accepted carried q.carried) ∙ next.symbol in
    let whole : line.bytes ++ 10 ∷ [] ≡ take got.taken text =
    ap (λ (e : LineEnd). text_by e line.bytes) (sym b.ended) ∙ b.takes.text in
    let long : length line.bytes ≡ got.taken - 1 =
    omega (arith, ap length whole, length-append line.bytes (10 ∷ []), length-take-le got.taken text b.takes.within) in
    let bytes : take (got.taken - 1) text ≡ line.bytes =
    ap (λ (k : ℕ). take k text) (sym long) ∙ front_is text got.taken line first b.ended in
    record {
      line = line;
      first = first;
      accepted =
          record {
            symbol = q.symbol;
            accepted = q.accepted;
            next = next;
            limits = q.limits;
            stands = q.stands xs st;
            trailer = subst (λ (s : Symbol). IsTrue got.last ↔ (s ≡ Plain Trl)) same last;
          };
      few = subst (λ (b : List ℕ). got.length ≤ length b) bytes few;
      body = subst (λ (b : List ℕ). take got.length b ≡ without_cr b) bytes body;
    }

-- of a line that was taken into a buffer
pub slow_line : (tally new : TallyValue) (xs : List Symbol) (text : List ℕ) (line : HeldLine) (n : ℕ) (got : Accepted)
    → FirstLine text got.taken line → AcceptsLine tally xs line got.last new → n ≡ length line.bytes
    → got.length ≤ length (take n text) → take got.length (take n text) ≡ without_cr (take n text)
    → TakesLine tally xs text got new
slow_line tally new xs text line n got first a len few body =
    let ended : line.ended ≡ Line = is_line tally.limits xs line a.symbol a.accepted a.next first.ended in
    let bytes : take n text ≡ line.bytes = ap (λ (k : ℕ). take k text) len ∙ front_is text got.taken line first ended in
    record {
      line = line;
      first = first;
      accepted = a;
      few = subst (λ (b : List ℕ). got.length ≤ length b) bytes few;
      body = subst (λ (b : List ℕ). take got.length b ≡ without_cr b) bytes body;
    }
