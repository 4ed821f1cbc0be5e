-- What a decoder represents after a line that is accepted.
use Rattle.std.proofs.Common.{◌≡◌, ℕ, ◌≤◌, Bool, true, false, cond, List, [], ◌∷◌, ◌++◌, length, map, Option, Some, None, refl}
use Rattle.std.proofs.Common.{sym, ap, ap₂, subst, ◌∙◌, append-nil, arith, true≢false}
use Rattle.std.specs.Prelude.{◌≢◌, IfSome}
use Rattle.std.specs.List.{AllZip, AllByRecursion}
use Rattle.std.proofs.lemmas.List.{length-map}
use Rattle.cwr_fields.specs.declared.kinds.Kind.{Kind}
use Rattle.cwr_fields.specs.declared.kinds.Kind.TheVariants as kinds
use Rattle.cwr_lines.specs.declared.lines.LineEnd.{LineEnd}
use Rattle.cwr_lines.specs.declared.lines.LineEnd.TheVariants.{Open, Line, Over}
use Rattle.cwr_lines.specs.Format.Records.{RecordValue, Row, IsRecord}
use Rattle.cwr_lines.specs.Format.Lines.{IsLineOf, excess_as}
use Rattle.cwr_lines.specs.Steps.Held.{HeldLine, IsHeld, held_kind, held_body, held_cells, held_text, text_by, carried_by}
use Rattle.cwr_lines.specs.Steps.Held.{ended_too_long, HoldsBy, held_record, held_excess}
use Rattle.cwr_shape.specs.declared.symbols.Symbol.{Symbol}
use Rattle.cwr_shape.specs.Format.Outlines.{IsWhole}
use Rattle.cwr_shape.specs.Format.Ranges.{LimitValues, AreInRange}
use Rattle.cwr_shape.specs.Steps.Tallies as tallies
use Rattle.cwr_shape.proofs.lemmas.WithinByFronts.{fits_along}
use Rattle.cwr_shape.specs.Format.NextSymbols.{passed_limit}
use Rattle.cwr_shape.specs.Steps.Tallies.{TallyValue}
use Rattle.cwr_values.specs.declared.items.Item.{Item}
use Rattle.cwr_values.specs.declared.items.Item.TheVariants as items
use Rattle.cwr_values.specs.Format.Values.{symbol_of}
use Rattle.cwr_values.specs.Format.Begins.{row_after, rows_so_far}
use Rattle.cwr_values.proofs.lemmas.RowAt.{rows_so_far-snoc}
use Rattle.cwr_decode.specs.declared.outcomes.Outcome.{Outcome}
use Rattle.cwr_decode.specs.declared.outcomes.Outcome.TheVariants as outcomes
use Rattle.cwr_fields.specs.Format.Kinds.{is_in_transaction}
use Rattle.cwr_judge.specs.Steps.Judged.{IsNext}
use Rattle.cwr_decode.specs.Steps.Machines.{Standing, Empties, Accepts, Follows, with_tally, pending, held_list, held_of}
use Rattle.cwr_judge.specs.Steps.Open.{items_so_far, open_of, continues_open, ended_transaction, item_of}
use Rattle.cwr_decode.specs.Steps.Represents.{AreAccepted, IsInput, Represents, items_in, text_of}
use Rattle.cwr_judge.proofs.lemmas.NextLines.{next_is_line}
use Rattle.cwr_judge.proofs.lemmas.EndingRecord.{ends_closes}
use Rattle.cwr_judge.proofs.lemmas.ContinuingRecord.{continuing_stays}
use Rattle.cwr_decode.proofs.lemmas.ClosedTexts.{text_of-push}
use Rattle.cwr_decode.proofs.lemmas.AfterRecord.{MayEnter, enters_stands, enters_empties, empties_by, symbols-snoc, few_records}

-- a line ended after the accepted ones
pub record HasLine (d : Standing) (input : List ℕ) (given : List Item) : Type 0 where
  pub in_range : AreInRange d.tally.limits
  pub lines : List (List ℕ)
  pub records : List RecordValue
  pub read : AreAccepted d.tally lines records
  pub left : IsWhole (map symbol_of records) → ⊥
  pub split : IsInput d.finished input (text_of lines ++ held_text d.line)
  pub ended : d.line.ended ≢ Open
  pub line : IsHeld d.line
  pub held : d.held ≡ held_of (open_of records)
  pub given_are : given ≡ items_so_far records

-- ---- one more line

fronts : (P : List Symbol → Type 0) (xs : List Symbol) (s : Symbol) → ((front rest : List Symbol) → xs ≡ front ++ rest → P front)
    → P (xs ++ s ∷ []) → (front rest : List Symbol) → xs ++ s ∷ [] ≡ front ++ rest → P front
fronts P xs s h p [] rest e = h [] xs refl
fronts P [] s h p (f ∷ front) rest e =
    let first : s ≡ f = cc e in
    let nothing : [] ≡ front ++ rest = cc e in
    subst P (ap₂ (λ (a : Symbol) (l : List Symbol). a ∷ l) first (empty_front front rest nothing)) p
  where
    empty_front : (front rest : List Symbol) → [] ≡ front ++ rest → [] ≡ front
    empty_front [] rest q = refl
    empty_front (f ∷ front) rest q = absurd (cc q)
fronts P (x ∷ xs) s h p (f ∷ front) rest e =
    let first : x ≡ f = cc e in
    let more : xs ++ s ∷ [] ≡ front ++ rest = cc e in
    subst (λ (a : Symbol). P (a ∷ front)) first (fronts (λ (l : List Symbol). P (x ∷ l)) xs s
    (λ g r q. h (x ∷ g) r (ap (λ (l : List Symbol). x ∷ l) q)) p front rest more)

pub all_snoc : (records : List RecordValue) (r : RecordValue) → AllByRecursion IsRecord records → IsRecord r
    → AllByRecursion IsRecord (records ++ r ∷ [])
all_snoc [] r h k = (k, tt)
all_snoc (q ∷ records) r h k = (h.0, all_snoc records r h.1 k)

zip_snoc : (rows : List Row) (lines : List (List ℕ)) (row : Row) (line : List ℕ) → AllZip IsLineOf rows lines → IsLineOf row line
    → AllZip IsLineOf (rows ++ row ∷ []) (lines ++ line ∷ [])
zip_snoc [] [] row line h k = (k, tt)
zip_snoc [] (l ∷ lines) row line h k = absurd h
zip_snoc (q ∷ rows) [] row line h k = absurd h
zip_snoc (q ∷ rows) (l ∷ lines) row line h k = (h.0, zip_snoc rows lines row line h.1 k)

-- the line of a record that may come next is read too
pub reads_more : (tally next : TallyValue) (lines : List (List ℕ)) (records : List RecordValue) (line : HeldLine) (s : Symbol)
    (r : RecordValue) → AreAccepted tally lines records → IsHeld line → line.ended ≡ Line
    → IsNext tally.limits (map symbol_of records) line s r → next.limits ≡ tally.limits
    → tallies.IsTallyOf next (map symbol_of records ++ s ∷ [])
    → AreAccepted next (lines ++ line.bytes ∷ []) (records ++ r ∷ [])
reads_more tally next lines records line s r read held ended n limits stands =
    let xs : List Symbol = map symbol_of records in
    let symbols : map symbol_of (records ++ r ∷ []) ≡ xs ++ s ∷ [] =
    symbols-snoc records r ∙ ap (λ (x : Symbol). xs ++ x ∷ []) n.symbol in
    let is_line : IsLineOf (row_after records r) line.bytes =
    next_is_line tally.limits xs line line.bytes s r held (holds line.ended line.bytes ended) held.no_lf n in
    record {
      counted = subst (tallies.IsTallyOf next) (sym symbols) stands;
      in_order = all_snoc records r read.in_order n.in_order;
      rows =
          subst (λ (rows : List Row). AllZip IsLineOf rows (lines ++ line.bytes ∷ [])) (sym (rows_so_far-snoc records r))
          (zip_snoc (rows_so_far records) lines (row_after records r) line.bytes read.rows is_line);
      within = λ front rest e.
          subst (λ (l : LimitValues). passed_limit l front ≡ None) (sym limits)
          (fronts (λ (f : List Symbol). passed_limit tally.limits f ≡ None) xs s read.within
          (fits_along tally.limits n.may_come.0 (xs ++ s ∷ []) n.may_come.3.0 n.may_come.1 n.may_come.2 n.may_come.3.1) front
          rest (sym symbols ∙ e));
    }
  where
    holds : (e : LineEnd) (bytes : List ℕ) → e ≡ Line → HoldsBy e bytes bytes
    holds Open bytes e = absurd (cc e)
    holds Line bytes e = refl
    holds Over bytes e = absurd (cc e)

-- a line that is too long has bad excess
too_long_bad : (o : Option Kind) (h : HeldLine) (cells : List (List ℕ)) (r : RecordValue) → carried_by o cells ≡ Some r
    → excess_as o true (held_body h) ≡ false → ⊥
too_long_bad None h cells r e f = absurd (cc e)
too_long_bad (Some kind) h cells r e f = true≢false f

pub never_too_long : (h : HeldLine) (r : RecordValue) → held_record h ≡ Some r → held_excess h ≡ false → h.ended ≡ Over → ⊥
never_too_long h r carried excess o =
    too_long_bad (held_kind h) h (held_cells h) r carried
    (sym (ap (λ (e : LineEnd). excess_as (held_kind h) (ended_too_long e) (held_body h)) o) ∙ excess)

pub is_line : (limits : LimitValues) (xs : List Symbol) (h : HeldLine) (s : Symbol) (r : RecordValue) → IsNext limits xs h s r
    → h.ended ≢ Open → h.ended ≡ Line
is_line limits xs h s r n ended = by h.ended ended (never_too_long h r n.carried n.excess)
  where
    by : (e : LineEnd) → e ≢ Open → (e ≡ Over → ⊥) → e ≡ Line
    by Open p q = absurd (p refl)
    by Line p q = refl
    by Over p q = absurd (q refl)

-- ---- an accepted line

no_item : (kind : Kind) (r : RecordValue) → is_in_transaction kind ≡ true → item_of kind r ≡ []
no_item kinds.Hdr r h = absurd (true≢false (sym h))
no_item kinds.Grh r h = absurd (true≢false (sym h))
no_item kinds.Grt r h = absurd (true≢false (sym h))
no_item kinds.Trl r h = absurd (true≢false (sym h))
no_item kind r h = refl

nothing_held : (records : List RecordValue) → None ≡ held_of records → records ≡ []
nothing_held [] e = refl
nothing_held (r ∷ records) e = absurd (cc e)

something_held : (whole records : List RecordValue) → Some whole ≡ held_of records
    → (records ≡ whole) × (ended_transaction records ≡ items.Transaction whole ∷ [])
something_held whole [] e = absurd (cc e)
something_held whole (r ∷ records) e =
    let same : whole ≡ r ∷ records = cc e in
    (sym same, ap (λ (t : List RecordValue). items.Transaction t ∷ []) (sym same))

pub list_held : (records : List RecordValue) → held_list (held_of records) ≡ records
list_held [] = refl
list_held (r ∷ records) = refl

-- an accepted line's record and the lines up to it
record Accepted (d : Standing) (input : List ℕ) (given : List Item) (next : TallyValue) (r : RecordValue) : Type 0 where
  in_range : AreInRange next.limits
  lines : List (List ℕ)
  earlier : List (List ℕ)
  waits : lines ≡ earlier ++ d.line.bytes ∷ []
  records : List RecordValue
  read : AreAccepted next lines (records ++ r ∷ [])
  split : IsInput d.finished input (text_of lines)
  few : length records ≤ 99999999
  held : d.held ≡ held_of (open_of records)
  given_are : given ≡ items_so_far records

-- the record continues the open transaction
goes_in : (d : Standing) (input : List ℕ) (given : List Item) (next : TallyValue) (r : RecordValue)
    (a : Accepted d input given next r) → true ≡ continues_open (map symbol_of a.records) (symbol_of r)
    → MayEnter (with_tally d next) input given r.kind r
goes_in d input given next r a g =
    let stays = continuing_stays a.records r a.read.in_order a.read.counted.stands.begins a.few (sym g) in
    record {
      of_kind = refl;
      in_range = a.in_range;
      lines = a.lines;
      records = a.records;
      read = a.read;
      split = a.split;
      given_are =
          ap (λ (is : List Item). given ++ is) (no_item r.kind r stays.inside) ∙ append-nil given ∙ a.given_are
          ∙ sym stays.nothing;
      open_now =
          stays.longer ∙ ap (λ (rs : List RecordValue). rs ++ r ∷ []) (sym (ap held_list a.held ∙ list_held (open_of a.records)))
          ∙ sym (ap (λ (b : Bool). cond b (held_list d.held ++ r ∷ []) []) stays.inside);
      none = λ e. absurd (true≢false (sym stays.inside ∙ e));
    }

-- no transaction is open
goes_after : (d : Standing) (input : List ℕ) (given : List Item) (next : TallyValue) (r : RecordValue)
    (a : Accepted d input given next r) → None ≡ d.held → false ≡ continues_open (map symbol_of a.records) (symbol_of r)
    → MayEnter (with_tally d next) input given r.kind r
goes_after d input given next r a h g =
    let closes = ends_closes a.records r a.read.in_order a.read.counted.stands.begins a.few (sym g) in
    let nothing : open_of a.records ≡ [] = nothing_held (open_of a.records) (h ∙ a.held) in
    record {
      of_kind = refl;
      in_range = a.in_range;
      lines = a.lines;
      records = a.records;
      read = a.read;
      split = a.split;
      given_are =
          ap (λ (is : List Item). is ++ item_of r.kind r) (a.given_are ∙ sym (append-nil (items_so_far a.records)))
          ∙ sym (closes.given
          ∙ ap (λ (rs : List RecordValue). items_so_far a.records ++ ended_transaction rs ++ item_of r.kind r) nothing);
      open_now =
          closes.open_now ∙ ap (λ (o : Option (List RecordValue)). cond (is_in_transaction r.kind) (held_list o ++ r ∷ []) []) h;
      none = λ e. sym h;
    }

follows_empties : (d : Standing) (input : List ℕ) (given : List Item) (next : TallyValue) (r : RecordValue) (continues : Bool)
    (held : Option (List RecordValue)) (out : Option Outcome) (new : Standing) (a : Accepted d input given next r)
    → held ≡ d.held → continues ≡ continues_open (map symbol_of a.records) (symbol_of r)
    → Follows continues held r (with_tally d next) out new → IfSome out (λ o. Empties o new)
follows_empties d input given next r true held out new a h g f =
    enters_empties (with_tally d next) input given r.kind r out new (goes_in d input given next r a g) f
follows_empties d input given next r false None out new a h g f =
    enters_empties (with_tally d next) input given r.kind r out new (goes_after d input given next r a h g) f
follows_empties d input given next r false (Some whole) out new a h g f =
    empties_by new (pending (with_tally d next)) out (Some (outcomes.Item (items.Transaction whole))) f.0 f.1 refl

follows_stands : (d : Standing) (input : List ℕ) (given : List Item) (next : TallyValue) (r : RecordValue) (continues : Bool)
    (held : Option (List RecordValue)) (out : Option Outcome) (new : Standing) (a : Accepted d input given next r)
    → held ≡ d.held → continues ≡ continues_open (map symbol_of a.records) (symbol_of r) → held_record d.line ≡ Some r
    → Follows continues held r (with_tally d next) out new → Represents new input (given ++ items_in out)
follows_stands d input given next r true held out new a h g l f =
    enters_stands (with_tally d next) input given r.kind r out new (goes_in d input given next r a g) f
follows_stands d input given next r false None out new a h g l f =
    enters_stands (with_tally d next) input given r.kind r out new (goes_after d input given next r a h g) f
follows_stands d input given next r false (Some whole) out new a h g l f =
    let held = something_held whole (open_of a.records) (h ∙ a.held) in
    subst (λ (q : Standing). Represents q input (given ++ items_in out)) (sym f.1)
    (subst (λ (o : Option Outcome). Represents (pending (with_tally d next)) input (given ++ items_in o)) (sym f.0)
    (record {
      in_range = a.in_range;
      here = record {
        lines = a.lines;
        earlier = a.earlier;
        waits = a.waits;
        records = a.records;
        last = r;
        read = a.read;
        split = a.split;
        ends = sym g;
        line = l;
        held = refl;
        given_are = ap₂ (λ (is js : List Item). is ++ js) a.given_are (sym held.1);
      };
    }))

-- the text of a line that ended
line_text : (line : HeldLine) → line.ended ≡ Line → held_text line ≡ line.bytes ++ 10 ∷ []
line_text line e = ap (λ (x : LineEnd). text_by x line.bytes) e

-- the line's record and the lines up to it
abbrev accepted_line : (d : Standing) (input : List ℕ) (given : List Item) (out : Option Outcome) (new : Standing)
    → HasLine d input given → (a : Accepts d out new) → Accepted d input given a.tally a.accepted
accepted_line d input given out new h a =
    let xs : List Symbol = map symbol_of h.records in
    let n = a.next xs h.read.counted in
    let line = is_line d.tally.limits xs d.line a.symbol a.accepted n h.ended in
    let text : text_of h.lines ++ held_text d.line ≡ text_of (h.lines ++ d.line.bytes ∷ []) =
    ap (λ (t : List ℕ). text_of h.lines ++ t) (line_text d.line line) ∙ sym (text_of-push h.lines d.line.bytes) in
    let few : length (map symbol_of h.records) ≤ 99999999 = few_records d.tally h.lines h.records h.in_range h.read in
    record {
      in_range = subst AreInRange (sym a.limits) h.in_range;
      lines = h.lines ++ d.line.bytes ∷ [];
      earlier = h.lines;
      waits = refl;
      records = h.records;
      read =
          reads_more d.tally a.tally h.lines h.records d.line a.symbol a.accepted h.read h.line line n a.limits
          (a.stands xs h.read.counted);
      split = subst (IsInput d.finished input) text h.split;
      few = omega (arith, few, length-map h.records symbol_of);
      held = h.held;
      given_are = h.given_are;
    }

-- whether the line's record continues the open transaction
same_going : (d : Standing) (input : List ℕ) (given : List Item) (out : Option Outcome) (new : Standing)
    (h : HasLine d input given) (a : Accepts d out new) → a.continues ≡ continues_open (map symbol_of h.records)
    (symbol_of a.accepted)
same_going d input given out new h a =
    let xs : List Symbol = map symbol_of h.records in
    let symbol : symbol_of a.accepted ≡ a.symbol = (a.next xs h.read.counted).symbol in
    a.same xs h.read.counted ∙ ap (continues_open xs) (sym symbol)

pub accept_stands : (d : Standing) (input : List ℕ) (given : List Item) (out : Option Outcome) (new : Standing)
    → HasLine d input given → Accepts d out new → Represents new input (given ++ items_in out)
accept_stands d input given out new h a =
    follows_stands d input given a.tally a.accepted a.continues d.held out new (accepted_line d input given out new h a) refl
    (same_going d input given out new h a) a.carried a.follows

pub accept_empties : (d : Standing) (input : List ℕ) (given : List Item) (out : Option Outcome) (new : Standing)
    → HasLine d input given → Accepts d out new → IfSome out (λ o. Empties o new)
accept_empties d input given out new h a =
    follows_empties d input given a.tally a.accepted a.continues d.held out new (accepted_line d input given out new h a) refl
    (same_going d input given out new h a) a.follows
