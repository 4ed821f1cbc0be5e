-- From a fair state nothing is told of the rows that follow.
use Rattle.std.proofs.Common.{◌≡◌, ◌≢◌, ℕ, ◌<◌, ◌≤◌, Bool, true, false, cond, true≢false, List, [], ◌∷◌, ◌++◌, map, Option, Some}
use Rattle.std.proofs.Common.{None, refl, sym, ap, subst, ◌∙◌, arith, inl, inr, append_assoc, append-nil}
use Rattle.std.specs.Prelude.{◌⊎◌, ◌==◌, is_some}
use Rattle.std.specs.List.{AllByRecursion, AllZip}
use Rattle.std.proofs.lemmas.List.{map-append}
use Rattle.cwr_lint.specs.Format.FaultsOfLines.{Asking}
use Rattle.cwr_fields.specs.declared.kinds.Kind.{Kind}
use Rattle.cwr_lines.specs.Format.Lines.{IsLineOf}
use Rattle.cwr_lines.specs.Format.Records.{RecordValue, IsRecord, row_of}
use Rattle.cwr_lines.proofs.lemmas.GoodLinesAreRows.{line_is_good}
use Rattle.cwr_shape.specs.declared.symbols.Symbol.{Symbol}
use Rattle.cwr_shape.specs.declared.stages.Stage.{Stage}
use Rattle.cwr_shape.specs.declared.stages.Stage.TheVariants.{Start, Opened, Within, Closed}
use Rattle.cwr_shape.specs.declared.symbols.Symbol.TheVariants.{Plain, Grh}
use Rattle.cwr_fields.specs.declared.kinds.Kind.TheVariants as kinds
use Rattle.cwr_shape.specs.declared.tallies.Counts.{Counts}
use Rattle.cwr_shape.specs.Format.NextSymbols.{MayCome, counts_of, is_header_of}
use Rattle.cwr_shape.specs.Format.Outlines.{Continues, IsWithin}
use Rattle.cwr_shape.specs.Format.Ranges.{AreInRange, LimitValues}
use Rattle.cwr_shape.specs.Steps.Counting.{counts_with, stage_type}
use Rattle.cwr_shape.specs.Steps.Left.{StandsAt}
use Rattle.cwr_shape.specs.Steps.NextStages.{next_stage}
use Rattle.cwr_shape.proofs.lemmas.TallySteps.{counted_next}
use Rattle.cwr_values.specs.Format.Begins.{numbers_after, row_after, rows_after}
use Rattle.cwr_values.specs.Format.Values.{symbol_of}
use Rattle.cwr_judge.specs.declared.refusals.Refusal.{Refusal}
use Rattle.cwr_lint_lines.specs.declared.judged_lines.Judged.{Judged}
use Rattle.cwr_lint_lines.specs.declared.judged_lines.Judged.TheVariants.{Known as Of}
use Rattle.cwr_lint_lines.specs.declared.states.LintState.{LintState}
use Rattle.cwr_lint_lines.specs.Format.FaultsAtFields.{LineCut, cut_of, fields_end, number_in}
use Rattle.cwr_lint_lines.specs.Steps.JudgedLines.{is_misplaced, judged_as, judged_by, judged_cut, known_as, scope_by}
use Rattle.cwr_lint.specs.Steps.Walks.{Walk, WalksLine, WalksLines, judged_line, state_by}
use Rattle.cwr_lint.proofs.lemmas.FairStates.{Fair, Fresh, GoesOn}
use Rattle.cwr_lint.proofs.lemmas.GoodFronts.{comes_next, front_continues, front_itself, tally_at}
use Rattle.cwr_lint.proofs.lemmas.GoodLines.{HasOtherCell, IsDerivedIn, line_goes_on}
use Rattle.cwr_lint.proofs.lemmas.QuietLines.{AllowsFrom, nothing_told, quiet_at}
use Rattle.cwr_lint.proofs.lemmas.RowsGoOn.{is_ended}
use Rattle.cwr_lint.proofs.lemmas.StagesWithin.{first_step, foot_goes, foot_is, further_goes, header_goes, inside_is, is_foot}

-- ---- one line

-- nothing was told, and the state is fair
pub record IsQuiet (told : List Refusal) (stage : Stage) (c : Counts) (st : LintState) (over : Bool) : Type 0 where
  pub nothing : told ≡ []
  pub fair : Fair stage c st
  pub over_is : st.over ≡ over

pub quiet_line : (asked : Asking) (old new : Walk) (l : LineCut) (kind : Kind) (k from : ℕ) (stage : Stage) (c : Counts)
    (over : Bool) (told : List Refusal) (text : List ℕ) → GoesOn l kind k stage c old.state over → AllowsFrom l kind from → l.kind
    ≡ Some kind → l.excess ≡ false
    → 1 ≤ from → ((j : ℕ) → from ≤ j → j ≢ k) → WalksLine asked old l from told text new → IsQuiet told stage c new.state over
quiet_line asked old new l kind k from stage c over told text goes allows known excess one apart w = record {
  nothing = nothing_told asked (judged_line old.state l) from (fields_end l.kind) told w.tells.lines
      (λ j found a b t. quiet_at (judged_line old.state l) kind from j found known placed excess (number j (apart j a)) allows
      (omega (arith, one, a)) a t) w.tells.tells;
  fair = subst (Fair stage c) (sym state) goes.fair;
  over_is = ap (λ (s : LintState). s.over) state ∙ goes.over_is;
} where
  judged : judged_as old.state l ≡ Of (known_as old.state kind l)
  judged = ap (λ (o : Option Kind). judged_by o old.state l) known

  placed : (judged_line old.state l).misplaced ≡ false
  placed = ap is_misplaced judged ∙ goes.misplaced

  state : new.state ≡ state_by (Of (known_as old.state kind l)) old.state l
  state = w.state ∙ ap (λ (x : Judged). state_by x old.state l) judged

  number : (j : ℕ) → j ≢ k → number_in (judged_line old.state l) j ≡ None
  number j other = ap (λ (x : Judged). number_in (judged_cut old.state.lines (scope_by old.state.group) l x) j) judged
      ∙ ap (λ (b : Bool). cond b None (cond (j == 2) (known_as old.state kind l).numbers.second (cond (j == 3)
      (known_as old.state kind l).numbers.third
      (cond (j == 4) (known_as old.state kind l).numbers.fourth None)))) goes.misplaced ∙ goes.quiet j other

-- ---- one row

-- the front of a transmission within the limits, and its next record
pub record IsAt (limits : LimitValues) (before : List RecordValue) (r : RecordValue) (stage : Stage) : Type 0 where
  pub range : AreInRange limits
  pub stands : StandsAt (map symbol_of before) stage
  pub begun : stage ≢ Start
  pub within : Continues (IsWithin limits) (map symbol_of before)
  pub in_order : IsRecord r
  pub comes : MayCome limits (map symbol_of before) (symbol_of r)

-- the stage after it
pub record IsAfter (before : List RecordValue) (r : RecordValue) (stage to : Stage) : Type 0 where
  pub next : next_stage stage (symbol_of r) ≡ Some to
  pub stands : StandsAt (map symbol_of (before ++ r ∷ [])) to

pub row_quiet : (asked : Asking) (limits : LimitValues) (before : List RecordValue) (r : RecordValue) (stage : Stage)
    (line other : List ℕ) (k from : ℕ) (old new : Walk) (told : List Refusal) (text : List ℕ) → IsAt limits before r stage
    → IsLineOf (row_after before r) line
    → HasOtherCell k line other → IsDerivedIn r.kind k → (k < from) ⊎ (k ≡ 0) → 1 ≤ from
    → Fair stage (counts_of (map symbol_of before)) old.state → (k ≢ 0 → Fresh old.state)
    → WalksLine asked old (cut_of other) from told text new
    → (to : Stage) × IsAfter before r stage to
    × IsQuiet told to (counts_of (map symbol_of (before ++ r ∷ []))) new.state (is_ended to)
row_quiet asked limits before r stage line other k from old new told text at l same derived late one fair fresh w =
    let xs : List Symbol = map symbol_of before in
    let s : Symbol = symbol_of r in
    let on = comes_next limits xs stage s at.range at.stands at.comes in
    let tally = tally_at limits xs stage at.stands at.within in
    let goes =
    line_goes_on limits (record { limits = limits; stage = stage; counts = counts_of xs }) xs r on.to line other old.state k
    from at.begun tally at.in_order at.comes on.next on.small l same derived late fair fresh in
    let grown : map symbol_of (before ++ r ∷ []) ≡ xs ++ s ∷ [] = map-append symbol_of before (r ∷ []) in
    let counted : counts_with (stage_type stage) (counts_of xs) s ≡ counts_of (map symbol_of (before ++ r ∷ [])) =
    counted_next (record { limits = limits; stage = stage; counts = counts_of xs }) xs s tally (ap is_some on.next)
    ∙ sym (ap counts_of grown) in
    let quiet =
    quiet_line asked old new (cut_of other) r.kind k from on.to (counts_with (stage_type stage) (counts_of xs) s)
    (is_ended on.to) told text goes.0 goes.1 goes.2 same.excess one (λ j a q. apart late j a q) w in (
      on.to,
      record { next = on.next; stands = subst (λ (ys : List Symbol). StandsAt ys on.to) (sym grown) on.stands },
      subst (λ (c : Counts). IsQuiet told on.to c new.state (is_ended on.to)) counted quiet,
    )
  where
    apart : (k < from) ⊎ (k ≡ 0) → (j : ℕ) → from ≤ j → j ≡ k → ⊥
    apart (inl h) j a q = omega (arith, h, a, q)
    apart (inr h) j a q = omega (arith, h, a, q, one)

-- the same line
pub same_line : (line : List ℕ) (ns : List ℕ) (r : RecordValue) → IsRecord r → IsLineOf (row_of ns r) line
    → HasOtherCell 0 line line
same_line line ns r h l =
    record { kind = refl; excess = (line_is_good ns r line h l).excess; many = refl; elsewhere = λ j ne. refl }

-- ---- the rows that follow

-- the lines begin with the others, or the others with the lines
abbrev pub Agree : List (List ℕ) → List (List ℕ) → Type 0
Agree [] others = Unit {0}
Agree (line ∷ lines) [] = Unit {0}
Agree (line ∷ lines) (other ∷ others) = (line ≡ other) × Agree lines others

pub not_start : (stage to : Stage) (s : Symbol) → next_stage stage s ≡ Some to → to ≢ Start
not_start stage to s e q = never stage s (e ∙ ap (λ (x : Stage). Some x) q)
  where
    never : (x : Stage) (y : Symbol) → next_stage x y ≡ Some Start → ⊥
    never (Within ty step) y e = by (is_foot y) (is_header_of ty y) refl refl
      where
        by : (foot header : Bool) → is_foot y ≡ foot → is_header_of ty y ≡ header → ⊥
        by true header f d =
            let it : Start ≡ Closed = foot_goes ty step Start (ap (next_stage (Within ty step)) (sym (foot_is y f)) ∙ e) in cc it
        by false true f d = let it : Start ≡ Within ty (first_step ty) = header_goes ty step y Start e d in cc it
        by false false f d =
            let later =
            inside_is ty Start (further_goes ty step y Start e d f).inside in let it : Start ≡ Within ty later.0 =
            later.1 in cc it
    never Start (Plain kinds.Hdr) e = cc e
    never Opened (Grh ty) e = cc e
    never Closed (Grh ty) e = cc e
    never Closed (Plain kinds.Trl) e = cc e
    never x y e = cc e

pub rest_quiet : (asked : Asking) (limits : LimitValues) (before rest : List RecordValue) (stage : Stage)
    (lines rows : List (List ℕ)) (old new : Walk) (told : List Refusal) (text : List ℕ) → AreInRange limits → AllByRecursion
    IsRecord rest
    → Continues (IsWithin limits) (map symbol_of (before ++ rest)) → StandsAt (map symbol_of before) stage → stage ≢ Start
    → Fair stage (counts_of (map symbol_of before)) old.state → old.state.over ≡ is_ended stage
    → ((last : Stage) → StandsAt (map symbol_of (before ++ rest)) last → is_ended last ≡ true)
    → AllZip IsLineOf (rows_after before rest) rows → Agree lines rows → WalksLines asked old lines told text new → told ≡ []
unfolding rows_after
rest_quiet asked limits before rest stage [] rows old new told text range order w st begun fair over last z agree walks = walks.0
rest_quiet asked limits before [] stage (line ∷ lines) rows old new told text range order w st begun fair over last z agree
    walks =
    absurd (true≢false (sym
    (last stage (subst (λ (l : List RecordValue). StandsAt (map symbol_of l) stage) (sym (append-nil before)) st)) ∙ sym over
    ∙ walks.0))
rest_quiet asked limits before (r ∷ rest) stage (line ∷ lines) [] old new told text range order w st begun fair over last z agree
    walks =
    absurd z
rest_quiet asked limits before (r ∷ rest) stage (line ∷ lines) (row ∷ rows) old new told text range order w st begun fair over
    last z agree (on, between, here, first, later, more, one, walks, e, f) =
    let xs : List Symbol = map symbol_of before in
    let whole : Continues (IsWithin limits) (xs ++ symbol_of r ∷ map symbol_of rest) =
    subst (Continues (IsWithin limits)) (map-append symbol_of before (r ∷ rest)) w in
    let at : IsAt limits before r stage =
    record {
      range = range;
      stands = st;
      begun = begun;
      within = front_itself limits xs (symbol_of r ∷ map symbol_of rest) whole;
      in_order = order.0;
      comes = front_continues limits xs (symbol_of r) (map symbol_of rest) whole;
    } in
    let l : IsLineOf (row_after before r) line = subst (IsLineOf (row_after before r)) (sym agree.0) z.0 in
    let q =
    row_quiet asked limits before r stage line line 0 1 old between here first at l
    (same_line line (numbers_after xs r.kind) r order.0 l) (inl refl) (inr refl) (omega arith) fair
    (λ zero_is. absurd (zero_is refl)) one in
    let assoc : (before ++ r ∷ []) ++ rest ≡ before ++ r ∷ rest = append_assoc before (r ∷ []) rest in
    let none : later ≡ [] = rest_quiet asked limits (before ++ r ∷ []) rest q.0 lines rows between new later more range order.1
    (subst (λ (rs : List RecordValue). Continues (IsWithin limits) (map symbol_of rs)) (sym assoc) w) q.1.stands
    (not_start stage q.0 (symbol_of r) q.1.next) q.2.fair q.2.over_is
    (λ end stands. last end (subst (λ (rs : List RecordValue). StandsAt (map symbol_of rs) end) assoc stands)) z.1 agree.1
    walks in
    e ∙ ap (λ (t : List Refusal). t ++ later) q.2.nothing ∙ none
