-- The steps of a decoder, put together.
use Rattle.std.proofs.Common.{◌≡◌, ℕ, Bool, true, false, ◌&&◌, List, [], ◌∷◌, ◌++◌, Option, Some, None, refl, sym, ap, ap₂, subst}
use Rattle.std.proofs.Common.{◌∙◌, inl, inr}
use Rattle.std.specs.Prelude.{◌==◌, Result, Ok, Err, MatchResult, IsSomeAnd}
use Rattle.std.proofs.lemmas.Bool.{eq-eqb, ne_eqb}
use Rattle.cwr_fields.specs.declared.kinds.Kind.{Kind}
use Rattle.cwr_fields.specs.declared.kinds.Kind.TheVariants.{Hdr, Grh, Grt, Trl}
use Rattle.cwr_lines.specs.Format.Growth.{AsksMemory}
use Rattle.cwr_lines.specs.Format.Records.{RecordValue, IsRecord}
use Rattle.cwr_lines.specs.Steps.Held.{HeldLine, carried_by, held_cells, held_excess, held_kind, held_record}
use Rattle.cwr_shape.specs.declared.symbols.Symbol.{Symbol}
use Rattle.cwr_shape.specs.declared.tallies.Scope.{Scope}
use Rattle.cwr_shape.specs.declared.tallies.Scope.TheVariants as scopes
use Rattle.cwr_shape.specs.Format.NextSymbols.{has_open_transaction}
use Rattle.cwr_shape.specs.Steps.Tallies.{TallyValue, IsTallyOf}
use Rattle.cwr_values.specs.declared.items.Item.{Item}
use Rattle.cwr_values.specs.declared.items.Item.TheVariants as items
use Rattle.std.specs.declared.alloc.AllocError.{AllocError}
use Rattle.cwr_decode.specs.declared.outcomes.Outcome.{Outcome}
use Rattle.cwr_judge.specs.declared.judging.LineFault.{LineFault}
use Rattle.cwr_judge.specs.Steps.Judged.{IsNext, IsOfNone, IsFirstFault}
use Rattle.cwr_decode.specs.declared.outcomes.Outcome.TheVariants as outcomes
use Rattle.cwr_decode.specs.declared.machine.State.TheVariants as states
use Rattle.cwr_fields.specs.Format.Kinds.{is_in_transaction as inside_kind}
use Rattle.cwr_judge.specs.Steps.Open.{continues_open}
use Rattle.cwr_decode.specs.Steps.Machines.{Standing, Adds, FinishesRecord, Enters, EntersTransaction, Follows, HandsOut, Judges}
use Rattle.cwr_decode.specs.Steps.Machines.{ReportsFault, with_tally, held_list, reading, stopped}

-- ---- the record of a line

pub same_record : (h : HeldLine) (r s : RecordValue) → held_record h ≡ Some r → held_record h ≡ Some s → r ≡ s
same_record h r s er es = ap or_r (sym er ∙ es)
  where
    or_r : Option RecordValue → RecordValue
    or_r None = r
    or_r (Some q) = q

-- ---- whether a record continues the open transaction

pub inside_scope : (p : Scope) → p ≡ scopes.Transaction → has_open_transaction p ≡ true
inside_scope p e = ap has_open_transaction e

pub outside_scope : (p : Scope) → (p ≡ scopes.Transaction → ⊥) → has_open_transaction p ≡ false
outside_scope scopes.Transaction h = absurd (h refl)
outside_scope scopes.File h = refl
outside_scope scopes.Group h = refl

pub continuing_yes : (m n a b : ℕ) (p : Bool) → m ≡ a → n ≡ b → m ≡ n → p ≡ true → true ≡ ((a == b) && p)
continuing_yes m n a b p e f g h = sym (ap₂ (λ (u v : Bool). u && v) (eq-eqb a b (sym e ∙ g ∙ f)) h)

pub continuing_outside : (m n a b : ℕ) (p : Bool) → m ≡ a → n ≡ b → m ≡ n → p ≡ false → false ≡ ((a == b) && p)
continuing_outside m n a b p e f g h = sym (ap₂ (λ (u v : Bool). u && v) (eq-eqb a b (sym e ∙ g ∙ f)) h)

pub continuing_begins : (m n a b : ℕ) (p : Bool) → m ≡ a → n ≡ b → (m ≡ n → ⊥) → (m == n) ≡ ((a == b) && p)
continuing_begins m n a b p e f g = ne_eqb m n g ∙ sym (ap (λ (u : Bool). u && p) (ne_eqb a b (λ h. g (e ∙ h ∙ sym f))))

-- ---- a record that is entered

-- the same with these records held
abbrev pub holding : Standing → Option (List RecordValue) → Standing
holding d held = record { line = d.line; tally = d.tally; held = held; state = d.state; finished = d.finished }

around_enters : (item : Item) (d : Standing) (result : Result (Option Item) AllocError) (held : Option (List RecordValue))
    (out : Option Outcome) (new : Standing)
    → ((h : Option (List RecordValue)) → FinishesRecord (Ok (Some item)) (holding d h) out new
    → (out ≡ Some (outcomes.Item item)) × (new ≡ reading d h))
    → (result ≡ Ok (Some item)) × (held ≡ d.held) → FinishesRecord result (holding d held) out new
    → (out ≡ Some (outcomes.Item item)) × (new ≡ reading d d.held)
around_enters item d result held out new reported a g =
    let now = reported held (subst (λ (x : Result (Option Item) AllocError). FinishesRecord x (holding d held) out new) a.0 g) in
    (now.0, now.1 ∙ ap (reading d) a.1)

last_enters : (d : Standing) (result : Result (Option Item) AllocError) (held : Option (List RecordValue)) (out : Option Outcome)
    (new : Standing)
    → (result ≡ Ok (Some items.Ended)) × (held ≡ d.held) → FinishesRecord result (holding d held) out new
    → (out ≡ Some (outcomes.Item items.Ended)) × (new ≡ stopped d states.Ended)
last_enters d result held out new a g =
    subst (λ (x : Result (Option Item) AllocError). FinishesRecord x (holding d held) out new) a.0 g

inside_enters : (r : RecordValue) (d : Standing) (result : Result (Option Item) AllocError) (held : Option (List RecordValue))
    (out : Option Outcome) (new : Standing)
    → MatchResult result (λ item. (item ≡ None) × (held ≡ Some (held_list d.held ++ r ∷ [])))
    (λ fault. AsksMemory (held_list d.held) r) → FinishesRecord result (holding d held) out new
    → EntersTransaction r d out new
inside_enters r d (Err fault) held out new a g =
    subst (λ (o : Option Outcome). EntersTransaction r d o new) (sym g.0) (refl, g.1, a)
inside_enters r d (Ok item) held out new a g =
    let now = subst (λ (x : Option Item). FinishesRecord (Ok x) (holding d held) out new) a.0 g in
    subst (λ (o : Option Outcome). EntersTransaction r d o new) (sym now.0) (now.1 ∙ ap (reading d) a.1)

-- an accepted record is added, and then reading continues
pub adds_enters : (kind : Kind) (r : RecordValue) (d : Standing) (result : Result (Option Item) AllocError)
    (held : Option (List RecordValue)) (out : Option Outcome) (new : Standing)
    → Adds kind r d.held result held → FinishesRecord result (holding d held) out new → Enters kind r d out new
adds_enters Hdr r d result held out new a g = around_enters (items.Opened r) d result held out new (λ h k. k) a g
adds_enters Grh r d result held out new a g = around_enters (items.GroupOpened r) d result held out new (λ h k. k) a g
adds_enters Grt r d result held out new a g = around_enters (items.GroupClosed r) d result held out new (λ h k. k) a g
adds_enters Trl r d result held out new a g = last_enters d result held out new a g
adds_enters kind r d result held out new a g = inside_enters r d result held out new a g

-- ---- a line that is judged

-- the line is refused
pub refused_judged : (d : Standing) (tally : TallyValue) (line cut : HeldLine) (kind : Option Kind) (fault : LineFault)
    (outcome : Outcome) (new : Standing) → tally ≡ d.tally → line ≡ d.line → cut ≡ line → kind ≡ held_kind cut
    → ((xs : List Symbol) → IsTallyOf tally xs → IsOfNone tally.limits xs cut)
    → ((xs : List Symbol) → IsTallyOf tally xs → IsFirstFault tally.limits xs cut fault.field fault.reason)
    → ReportsFault d kind fault outcome new → Judges d (Some outcome) new
refused_judged d tally line cut kind fault outcome new t l c k none first reports =
    let same : cut ≡ d.line = c ∙ l in
    inr (record {
      fault = fault;
      none =
          λ xs st. subst (λ (h : HeldLine). IsOfNone d.tally.limits xs h) same (subst
          (λ (u : TallyValue). IsOfNone u.limits xs cut) t (none xs (subst (λ (u : TallyValue). IsTallyOf u xs) (sym t) st)));
      first = λ xs st. subst (λ (h : HeldLine). IsFirstFault d.tally.limits xs h fault.field fault.reason) same
          (subst (λ (u : TallyValue). IsFirstFault u.limits xs cut fault.field fault.reason) t
          (first xs (subst (λ (u : TallyValue). IsTallyOf u xs) (sym t) st)));
      reports = subst (λ (q : Option Kind). ReportsFault d q fault outcome new) (k ∙ ap held_kind same) reports;
    })

-- the line is accepted
pub accepted_line : (d : Standing) (tally next : TallyValue) (line cut : HeldLine) (s : Symbol) (r : RecordValue)
    (continues : Bool) (out : Option Outcome) (new : Standing) → tally ≡ d.tally → line ≡ d.line → cut ≡ line
    → (held_record cut ≡ Some r) × IsRecord r × (held_excess cut ≡ false)
    → ((xs : List Symbol) → IsTallyOf tally xs → IsNext tally.limits xs cut s r) → next.limits ≡ tally.limits
    → ((xs : List Symbol) → IsTallyOf tally xs → IsTallyOf next (xs ++ s ∷ []))
    → ((xs : List Symbol) → IsTallyOf tally xs → continues ≡ continues_open xs s)
    → Follows continues d.held r (with_tally d next) out new → Judges d out new
accepted_line d tally next line cut s r continues out new t l c carried is_next limits stands same follows =
    inl (record {
      symbol = s;
      accepted = r;
      carried = ap held_record (sym (c ∙ l)) ∙ carried.0;
      in_order = carried.1;
      excess = ap held_excess (sym (c ∙ l)) ∙ carried.2;
      next =
          λ xs st. subst (λ (h : HeldLine). IsNext d.tally.limits xs h s r) (c ∙ l)
          (subst (λ (u : TallyValue). IsNext u.limits xs cut s r) t (is_next xs (back xs st)));
      tally = next;
      limits = limits ∙ ap (λ (u : TallyValue). u.limits) t;
      stands = λ xs st. stands xs (back xs st);
      continues = continues;
      same = λ xs st. same xs (back xs st);
      follows = follows;
    })
  where
    back : (xs : List Symbol) → IsTallyOf d.tally xs → IsTallyOf tally xs
    back xs st = subst (λ (u : TallyValue). IsTallyOf u xs) (sym t) st

-- an accepted line waits, since the open transaction is handed out first
pub waits_now : (d : Standing) (next : TallyValue) (cut : HeldLine) (s : Symbol) (r : RecordValue) (continues : Bool)
    (whole : List RecordValue) (taken left : Option (List RecordValue)) → cut ≡ d.line
    → (held_record cut ≡ Some r) × IsRecord r × (held_excess cut ≡ false)
    → ((xs : List Symbol) → IsTallyOf d.tally xs → IsNext d.tally.limits xs cut s r) → next.limits ≡ d.tally.limits
    → ((xs : List Symbol) → IsTallyOf d.tally xs → IsTallyOf next (xs ++ s ∷ []))
    → ((xs : List Symbol) → IsTallyOf d.tally xs → continues ≡ continues_open xs s) → HandsOut continues d.held taken left
    → taken ≡ Some whole
    → Judges d (Some (outcomes.Item (items.Transaction whole)))
    (record { line = d.line; tally = next; held = left; state = states.Pending; finished = d.finished })
waits_now d next cut s r continues whole taken left c carried ok limits stands same hands is_whole =
    accepted_line d d.tally next d.line cut s r continues (Some (outcomes.Item (items.Transaction whole)))
    (record { line = d.line; tally = next; held = left; state = states.Pending; finished = d.finished }) refl refl c carried
    ok limits stands same
    (by continues d.held taken left hands is_whole)
  where
    by : (b : Bool) (held taken left : Option (List RecordValue)) → HandsOut b held taken left → taken ≡ Some whole
        → Follows b held r (with_tally d next) (Some (outcomes.Item (items.Transaction whole)))
        (record { line = d.line; tally = next; held = left; state = states.Pending; finished = d.finished })
    by true held taken left h e = absurd (nothing (sym h.0 ∙ e))
      where
        nothing : None ≡ Some whole → ⊥
        nothing f = cc f
    by false held taken left h e =
        subst (λ (q : Option (List RecordValue)). Follows false q r (with_tally d next)
        (Some (outcomes.Item (items.Transaction whole)))
        (record { line = d.line; tally = next; held = left; state = states.Pending; finished = d.finished }))
        (sym e ∙ h.0)
        (refl, λ i. record { line = d.line; tally = next; held = h.1 i; state = states.Pending; finished = d.finished })

-- an accepted line is entered
pub enters_now : (d : Standing) (next : TallyValue) (cut : HeldLine) (s : Symbol) (r : RecordValue) (continues : Bool)
    (taken left : Option (List RecordValue)) (result : Result (Option Item) AllocError) (held : Option (List RecordValue))
    (out : Option Outcome) (new : Standing) → cut ≡ d.line
    → (held_record cut ≡ Some r) × IsRecord r × (held_excess cut ≡ false)
    → ((xs : List Symbol) → IsTallyOf d.tally xs → IsNext d.tally.limits xs cut s r) → next.limits ≡ d.tally.limits
    → ((xs : List Symbol) → IsTallyOf d.tally xs → IsTallyOf next (xs ++ s ∷ []))
    → ((xs : List Symbol) → IsTallyOf d.tally xs → continues ≡ continues_open xs s) → HandsOut continues d.held taken left
    → taken ≡ None
    → Adds r.kind r left result held → FinishesRecord result
    (record { line = d.line; tally = next; held = held; state = d.state; finished = d.finished }) out new → Judges d out new
enters_now d next cut s r continues taken left result held out new c carried ok limits stands same hands none adds goes =
    accepted_line d d.tally next d.line cut s r continues out new refl refl c carried ok limits stands same
    (by continues d.held taken left hands none adds)
  where
    by : (b : Bool) (old taken left : Option (List RecordValue)) → HandsOut b old taken left → taken ≡ None
        → Adds r.kind r left result held → Follows b old r (holding (with_tally d next) old) out new
    by true old taken left h e a =
        adds_enters r.kind r (holding (with_tally d next) old) result held out new
        (subst (λ (q : Option (List RecordValue)). Adds r.kind r q result held) h.1 a) goes
    by false None taken left h e a =
        adds_enters r.kind r (holding (with_tally d next) None) result held out new
        (subst (λ (q : Option (List RecordValue)). Adds r.kind r q result held) h.1 a) goes
    by false (Some whole) taken left h e a = absurd (something (sym h.0 ∙ e))
      where
        something : Some whole ≡ None → ⊥
        something f = cc f

-- a record of a kind that stands inside transactions is added to those that are held
pub adds_inside : (kind : Kind) (r : RecordValue) (d new : Standing) → inside_kind kind ≡ true
    → new ≡ reading d (Some (held_list d.held ++ r ∷ [])) → Enters kind r d None new
adds_inside Hdr r d new i e = absurd (cc i)
adds_inside Grh r d new i e = absurd (cc i)
adds_inside Grt r d new i e = absurd (cc i)
adds_inside Trl r d new i e = absurd (cc i)
adds_inside kind r d new i e = e

-- the kind of the record that a line carries is the line's
pub carried_kind : (h : HeldLine) (r : RecordValue) → held_record h ≡ Some r → held_kind h ≡ Some r.kind
carried_kind h r e = by (held_kind h) e
  where
    by : (kind : Option Kind) → carried_by kind (held_cells h) ≡ Some r → kind ≡ Some r.kind
    by None f = absurd (cc f)
    by (Some kind) f = ap (λ (k : Kind). Some k) (ap (λ (q : Option RecordValue). kind_or kind q) f)
      where
        kind_or : Kind → Option RecordValue → Kind
        kind_or k None = k
        kind_or k (Some q) = q.kind

-- an accepted line's record is added to those that are held
pub added_now : (d : Standing) (next : TallyValue) (cut : HeldLine) (s : Symbol) (r : RecordValue) (continues : Bool)
    (held : List RecordValue) (new : Standing) → cut ≡ d.line → IsSomeAnd (held_kind cut) (λ kind. inside_kind kind ≡ true)
    → (held_record cut ≡ Some r) × IsRecord r × (held_excess cut ≡ false)
    → ((xs : List Symbol) → IsTallyOf d.tally xs → IsNext d.tally.limits xs cut s r) → next.limits ≡ d.tally.limits
    → ((xs : List Symbol) → IsTallyOf d.tally xs → IsTallyOf next (xs ++ s ∷ []))
    → ((xs : List Symbol) → IsTallyOf d.tally xs → continues ≡ continues_open xs s) → continues ≡ true → d.held ≡ Some held
    → new ≡ reading (with_tally d next) (Some (held ++ r ∷ [])) → Judges d None new
added_now d next cut s r continues held new c inside carried ok limits stands same on has e =
    let of_kind : inside_kind r.kind ≡ true =
    subst (λ (q : Option Kind). IsSomeAnd q (λ kind. inside_kind kind ≡ true)) (carried_kind cut r carried.0) inside in
    let longer : held ++ r ∷ [] ≡ held_list d.held ++ r ∷ [] =
    ap (λ (q : Option (List RecordValue)). held_list q ++ r ∷ []) (sym has) in
    accepted_line d d.tally next d.line cut s r continues None new refl refl c carried ok limits stands same
    (subst (λ (b : Bool). Follows b d.held r (with_tally d next) None new) (sym on)
    (adds_inside r.kind r (with_tally d next) new of_kind
    (e ∙ ap (λ (xs : List RecordValue). reading (with_tally d next) (Some xs)) longer)))
