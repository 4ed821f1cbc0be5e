-- What a lint holds after records of a good text, of which one may have had a wrong number: whatever it counts by the numbers, what is there
-- is counted right, and each sequence awaits the number that belongs there.
use Rattle.std.proofs.Common.{◌≡◌, ◌≢◌, ℕ, ◌+◌, ◌-◌, ◌≤◌, Bool, true, false, cond, true≢false, Option, Some, None, refl, sym, ap}
use Rattle.std.proofs.Common.{subst, ◌∙◌, arith, inl, inr}
use Rattle.std.specs.Prelude.{◌==◌, ◌&&◌, ◌||◌, not, is_some}
use Rattle.std.proofs.lemmas.Bool.{eqb-true}
use Rattle.cwr_fields.specs.declared.codes.TransactionType.{TransactionType}
use Rattle.cwr_fields.specs.declared.codes.TransactionType.TheVariants.{Agreement, NewWork, RevisedWork, Acknowledgement}
use Rattle.cwr_fields.specs.declared.kinds.Kind.{Kind}
use Rattle.cwr_fields.specs.declared.kinds.Kind.TheVariants as kinds
use Rattle.cwr_shape.specs.declared.symbols.Symbol.{Symbol}
use Rattle.cwr_shape.specs.declared.symbols.Symbol.TheVariants.{Plain, Ipa, Grh}
use Rattle.cwr_shape.specs.declared.stages.Stage.{Stage}
use Rattle.cwr_shape.specs.declared.stages.Stage.TheVariants.{Opened, Within, Closed, Ended}
use Rattle.cwr_shape.specs.declared.stages.TransactionStep.{TransactionStep}
use Rattle.cwr_shape.specs.declared.stages.TransactionStep.TheVariants.{InGroup}
use Rattle.cwr_shape.specs.declared.tallies.Counts.{Counts}
use Rattle.cwr_shape.specs.Format.Numbers.{symbol_kind}
use Rattle.cwr_shape.specs.Format.NextSymbols.{is_header_of}
use Rattle.cwr_shape.specs.Steps.Counting.{HaveRoom, counts_with, counts_with_group, counts_with_header, counts_with_other}
use Rattle.cwr_shape.specs.Steps.NextStages.{header_step, next_stage, within}
use Rattle.cwr_lint_lines.specs.declared.following.Awaiting.{Awaiting}
use Rattle.cwr_lint_lines.specs.declared.numbers.Belonging.{Belonging}
use Rattle.cwr_lint_lines.specs.declared.numbers.Belonging.TheVariants.{Unsaid, Same, Moved, Strange}
use Rattle.cwr_lint_lines.specs.declared.numbers.WrongNumbers.{WrongNumbers}
use Rattle.cwr_lint_lines.specs.declared.states.OpenTransaction.{OpenTransaction}
use Rattle.cwr_lint_lines.specs.declared.states.OpenGroup.{OpenGroup}
use Rattle.cwr_lint_lines.specs.declared.states.LintState.{LintState}
use Rattle.cwr_lint_lines.specs.declared.takings.Taking.{Taking}
use Rattle.cwr_lint_lines.specs.declared.takings.Taking.TheVariants as takings
use Rattle.cwr_lint_lines.specs.Format.FaultsAtFields.{LineCut}
use Rattle.cwr_lint_lines.specs.Steps.Following.{after, is_number, just, one_more, passing, takes, wanted}
use Rattle.cwr_lint_lines.specs.Steps.Cells.{number_at, role_in, role_or_assignor, type_in, type_of_header}
use Rattle.cwr_lint_lines.specs.Steps.States.{bars, is_id, is_type, is_whole, may_have, next_in, next_of, open_transaction}
use Rattle.cwr_lint_lines.specs.Steps.States.{transaction_or, unheaded}
use Rattle.cwr_lint_lines.specs.Steps.Numbers.{belonging, count_of_all_records, count_of_all_transactions, count_of_group_records}
use Rattle.cwr_lint_lines.specs.Steps.Numbers.{count_of_group_transactions, count_of_groups, is_borne_by, third_wrong}
use Rattle.cwr_lint_lines.specs.Steps.Numbers.{wanted_count, awaited_of, wrong_by, wrong_in_foot, wrong_in_header}
use Rattle.cwr_lint_lines.specs.Steps.Numbers.{wrong_in_trailer, wrong_numbers, wrong_of_current, wrong_of_foot, wrong_of_further}
use Rattle.cwr_lint_lines.specs.Steps.Takings.{begins_in, goes_on_by, goes_on_in, heads_copy, is_first, is_misplaced}
use Rattle.cwr_lint_lines.specs.Steps.Takings.{is_misplaced_header_in, taking, taking_inside, taking_of_foot_in}
use Rattle.cwr_lint_lines.specs.Steps.Takings.{taking_of_further_in, taking_of_header, taking_of_header_in}
use Rattle.cwr_lint_lines.specs.Steps.NextStates.{after_line, counted_line, group_further, ids_after_foot, is_end, moved_to}
use Rattle.cwr_lint_lines.specs.Steps.NextStates.{next_beside, next_by, run_with, stage_in, stage_of_party, stage_with}
use Rattle.cwr_lint_lines.specs.Steps.NextStates.{state_with, with_belonging, with_foot_in, with_further, with_header, with_line}
use Rattle.cwr_lint_lines.specs.Steps.NextStates.{with_line_of, with_numbers_of, with_transaction_in}
use Rattle.cwr_lint_lines.specs.Steps.JudgedLines.{known_as, number_of}
use Rattle.cwr_lint.proofs.lemmas.Awaited.{Stands, after_is, counted_none, same_eqb, settled_is, wanted_none}
use Rattle.cwr_lint.proofs.lemmas.StagesWithin.{IsFurther, first_step, foot_goes, further_goes, header_goes, inside_is, is_before}
use Rattle.cwr_lint.proofs.lemmas.StagesWithin.{is_foot, is_further, whole_before}

-- ---- fair and fresh states

pub record FairTransaction (c : Counts) (t : OpenTransaction) : Type 0 where
  pub number : t.number + 1 ≡ c.in_group
  pub next : t.next.expected ≡ c.after_header + 1

abbrev pub FairCurrent : Counts → Option OpenTransaction → Type 0
FairCurrent c None = ⊥
FairCurrent c (Some t) = FairTransaction c t

pub record FairGroup (ty : TransactionType) (c : Counts) (g : OpenGroup) : Type 0 where
  pub id : g.id ≡ c.groups
  pub ty_is : g.ty ≡ Some ty
  pub declared : g.declared ≡ Some ty
  pub lines : g.lines ≡ c.after_grh + 1
  pub headers : g.headers ≡ c.in_group
  pub next : g.next.expected ≡ c.in_group

-- before its first header, or after it
abbrev pub FairAt : Bool → TransactionType → Counts → OpenGroup → Type 0
FairAt true ty c g = FairGroup ty c g × (g.current ≡ None) × (g.has_line ≡ false)
FairAt false ty c g = FairGroup ty c g × FairCurrent c g.current

abbrev pub FairOpen : Stage → Counts → Option OpenGroup → Type 0
FairOpen (Within ty step) c None = ⊥
FairOpen (Within ty step) c (Some g) = FairAt (is_before step) ty c g
FairOpen stage c None = Unit {0}
FairOpen stage c (Some g) = ⊥

pub record Fair (stage : Stage) (c : Counts) (st : LintState) : Type 0 where
  pub stage_is : st.stage ≡ Some stage
  pub since : st.since ≡ c.records
  pub groups : st.groups ≡ c.groups
  pub headers : st.headers ≡ c.transactions
  pub ids : st.ids.expected ≡ c.groups + 1
  pub group : FairOpen stage c st.group

-- each sequence lets just the awaited number pass
pub record FreshTransaction (t : OpenTransaction) : Type 0 where
  pub other : t.other ≡ None
  pub next : t.next ≡ just t.next.expected

abbrev pub FreshCurrent : Option OpenTransaction → Type 0
FreshCurrent None = Unit {0}
FreshCurrent (Some t) = FreshTransaction t

abbrev pub FreshOpen : Option OpenGroup → Type 0
FreshOpen None = Unit {0}
FreshOpen (Some g) = (g.next ≡ just g.next.expected) × FreshCurrent g.current

pub record Fresh (st : LintState) : Type 0 where
  pub ids : st.ids ≡ just st.ids.expected
  pub group : FreshOpen st.group

-- ---- the line that comes next

abbrev pub Named : Symbol → LineCut → Type 0
Named (Ipa role) l = role_in l ≡ Some role
Named (Grh ty) l = type_in l ≡ Some ty
Named (Plain _) l = Unit {0}

-- it is of the symbol's kind
pub record IsRowLine (s : Symbol) (l : LineCut) : Type 0 where
  pub kind : l.kind ≡ Some (symbol_kind s)
  pub excess : l.excess ≡ false
  pub named : Named s l

-- It isn't misplaced, no number is told but in field k, and the state stays fair.
pub record GoesOn (l : LineCut) (kind : Kind) (k : ℕ) (stage : Stage) (c : Counts) (st : LintState) (over : Bool) : Type 0 where
  pub misplaced : (known_as st kind l).misplaced ≡ false
  pub quiet : (j : ℕ) → j ≢ k → number_of (known_as st kind l).numbers j ≡ None
  pub fair : Fair stage c (state_with st (known_as st kind l).taken (known_as st kind l).misplaced kind l)
  pub over_is : is_end (known_as st kind l).taken ≡ over

goes_by : (l : LineCut) (kind : Kind) (k : ℕ) (stage : Stage) (c : Counts) (st : LintState) (taken : Taking)
    → taking st kind l ≡ taken → is_misplaced taken st kind l ≡ false
    → ((j : ℕ) → j ≢ k → number_of (wrong_numbers st taken kind l) j ≡ None)
    → Fair stage c (counted_line st.lines (is_end taken) (after_line st taken false kind l))
    → GoesOn l kind k stage c st (is_end taken)
goes_by l kind k stage c st taken p q r f = record {
  misplaced = ap (λ (t : Taking). is_misplaced t st kind l) p ∙ q;
  quiet = λ j other. ap (λ (t : Taking). number_of (wrong_numbers st t kind l) j) p ∙ r j other;
  fair =
      subst (λ (t : Taking). Fair stage c (state_with st t (is_misplaced t st kind l) kind l)) (sym p)
      (subst (λ (b : Bool). Fair stage c (state_with st taken b kind l)) (sym q) f);
  over_is = ap is_end p;
}

-- ---- small facts

and_false : (b : Bool) → (b && false) ≡ false
and_false true = refl
and_false false = refl

or_true : (b : Bool) → (b || true) ≡ true
or_true true = refl
or_true false = refl

other_of : (j k : ℕ) → (j == k) ≡ false → j ≢ k
other_of j k e q = true≢false (sym (same_eqb j k q) ∙ e)

of_type : (ty : TransactionType) → is_type (Some ty) ty ≡ true
of_type Agreement = refl
of_type NewWork = refl
of_type RevisedWork = refl
of_type Acknowledgement = refl

type_sym : (a b : TransactionType) → is_type (Some a) b ≡ is_type (Some b) a
type_sym Agreement Agreement = refl
type_sym Agreement NewWork = refl
type_sym Agreement RevisedWork = refl
type_sym Agreement Acknowledgement = refl
type_sym NewWork Agreement = refl
type_sym NewWork NewWork = refl
type_sym NewWork RevisedWork = refl
type_sym NewWork Acknowledgement = refl
type_sym RevisedWork Agreement = refl
type_sym RevisedWork NewWork = refl
type_sym RevisedWork RevisedWork = refl
type_sym RevisedWork Acknowledgement = refl
type_sym Acknowledgement Agreement = refl
type_sym Acknowledgement NewWork = refl
type_sym Acknowledgement RevisedWork = refl
type_sym Acknowledgement Acknowledgement = refl

-- none of the three is told but in field k
quiet_at : (w : WrongNumbers) (k j : ℕ) → (k ≢ 2 → w.second ≡ None) → (k ≢ 3 → w.third ≡ None) → (k ≢ 4 → w.fourth ≡ None) → j ≢ k
    → number_of w j ≡ None
quiet_at w k j two three four other = by (j == 2) (j == 3) (j == 4) refl refl refl
  where
    apart : (m : ℕ) → (j == m) ≡ true → k ≢ m
    apart m e q = other (eqb-true j m e ∙ sym q)

    by : (a b d : Bool) → (j == 2) ≡ a → (j == 3) ≡ b → (j == 4) ≡ d
        → cond a w.second (cond b w.third (cond d w.fourth None)) ≡ None
    by true b d e f g = two (apart 2 e)
    by false true d e f g = three (apart 3 f)
    by false false true e f g = four (apart 4 g)
    by false false false e f g = refl

-- a number stands, where it isn't that of field k
stands_by : (k m n : ℕ) (x : Option ℕ) (a : Awaiting) → 2 ≤ m → (k ≢ m → x ≡ Some n) → (k ≢ 0 → a ≡ just n) → Stands a n x
stands_by k m n x a two right fresh = by (k == m) refl
  where
    by : (b : Bool) → (k == m) ≡ b → Stands a n x
    by true e = inr (fresh (λ z. absurd (omega (arith, two, z, eqb-true k m e))))
    by false e = inl (right (other_of k m e))

fresh_is : (a : Awaiting) (n : ℕ) → a.expected ≡ n → a ≡ just a.expected → a ≡ just n
fresh_is a n e f = f ∙ ap just e

-- no record bars itself
not_barred : (st : LintState) (stage to : Stage) (s : Symbol) → st.stage ≡ Some stage → next_stage stage s ≡ Some to
    → bars st s ≡ false
not_barred st stage to s e f =
    ap (λ (o : Option Stage). is_some o && not (is_some (next_of o s))) e ∙ ap (λ (o : Option Stage). not (is_some o)) f

-- ---- GRH

abbrev pub between : Stage → Bool
between Opened = true
between Closed = true
between stage = false

head_placed : (st : LintState) (stage : Stage) (l : LineCut) → between stage ≡ true → st.stage ≡ Some stage
    → is_misplaced takings.OpensGroup st kinds.Grh l ≡ false
head_placed st Opened l b e = ap (λ (o : Option Stage). is_some o && not (is_some (next_of o (Grh Acknowledgement)))) e
head_placed st Closed l b e = ap (λ (o : Option Stage). is_some o && not (is_some (next_of o (Grh Acknowledgement)))) e
head_placed st stage l b e = absurd (true≢false (sym b))

pub head_goes : (stage : Stage) (ty : TransactionType) (c : Counts) (st : LintState) (l : LineCut) (k : ℕ) → between stage ≡ true
    → Fair stage c st → HaveRoom c → IsRowLine (Grh ty) l
    → (k ≢ 3 → number_at l 3 ≡ Some (c.groups + 1)) → (k ≢ 0 → Fresh st)
    → GoesOn l kinds.Grh k (Within ty InGroup) (counts_with_group c) st false
head_goes stage ty c st l k b h room row right fresh =
    let ids : Stands st.ids (c.groups + 1) (number_at l 3) =
    stands_by k 3 (c.groups + 1) (number_at l 3) st.ids (omega arith) right
    (λ z. fresh_is st.ids (c.groups + 1) h.ids (fresh z).ids) in
    goes_by l kinds.Grh k (Within ty InGroup) (counts_with_group c) st takings.OpensGroup (rw row.excess refl)
    (head_placed st stage l b h.stage_is)
    (λ j other. quiet_at (third_wrong (wanted st.ids (number_at l 3))) k j (λ _. refl)
    (λ z. wanted_none st.ids (c.groups + 1) (number_at l 3) h.ids (right z)) (λ _. refl) other)
    (record {
      stage_is = ap stage_in row.named;
      since = omega (arith, h.since, room.records);
      groups = omega (arith, h.groups, room.groups);
      headers = h.headers;
      ids = after_is st.ids (c.groups + 1) (number_at l 3) h.ids (omega (arith, room.groups)) ids;
      group = (
        record {
          id = settled_is st.ids (c.groups + 1) (number_at l 3) h.ids ids;
          ty_is = row.named;
          declared = row.named;
          lines = refl;
          headers = refl;
          next = refl;
        },
        refl,
        refl,
      );
    })

-- ---- a header

-- what its kind says
record HeaderKind (ty : TransactionType) (s : Symbol) (c : Counts) : Type 0 where
  taking_is : (st : LintState) (l : LineCut) → taking st (symbol_kind s) l ≡ taking_of_header st ty (symbol_kind s) l
  counts : counts_with ty c s ≡ counts_with_header c
  begun : within ty (header_step ty (Plain (symbol_kind s))) ≡ Some (Within ty (first_step ty))

header_kind_of : (ty : TransactionType) (s : Symbol) (c : Counts) → is_header_of ty s ≡ true → HeaderKind ty s c
header_kind_of Agreement (Plain kinds.Agr) c h = record { taking_is = λ st l. refl; counts = refl; begun = refl }
header_kind_of NewWork (Plain kinds.Nwr) c h = record { taking_is = λ st l. refl; counts = refl; begun = refl }
header_kind_of RevisedWork (Plain kinds.Rev) c h = record { taking_is = λ st l. refl; counts = refl; begun = refl }
header_kind_of Acknowledgement (Plain kinds.Ack) c h = record { taking_is = λ st l. refl; counts = refl; begun = refl }
header_kind_of ty s c h = absurd (true≢false (sym h))

not_before_first : (ty : TransactionType) → is_before (first_step ty) ≡ false
not_before_first Agreement = refl
not_before_first NewWork = refl
not_before_first RevisedWork = refl
not_before_first Acknowledgement = refl

may_have_own : (g : OpenGroup) (ty : TransactionType) → g.ty ≡ Some ty → may_have g ty ≡ true
may_have_own g ty e =
    ap (λ (b : Bool). b || is_type g.declared ty) (ap (λ (o : Option TransactionType). is_type o ty) e ∙ of_type ty)

-- its numbers don't go on in the open transaction
goes_on_zero : (x y : Option ℕ) (t : OpenTransaction) → y ≡ Some 0 → goes_on_by x y t ≡ false
goes_on_zero None y t e = ap (λ (o : Option ℕ). goes_on_by None o t) e
goes_on_zero (Some n) y t e =
    ap (λ (o : Option ℕ). goes_on_by (Some n) o t) e ∙ and_false ((n == t.number) || is_number t.other n)

goes_on_other : (x y : Option ℕ) (n : ℕ) (t : OpenTransaction) → x ≡ Some n → t.number + 1 ≡ n → t.other ≡ None
    → goes_on_by x y t ≡ false
goes_on_other x None n t e f g = ap (λ (o : Option ℕ). goes_on_by o None t) e
goes_on_other x (Some r) n t e f g = ap (λ (o : Option ℕ). goes_on_by o (Some r) t) e
    ∙ ap (λ (o : Option ℕ). ((n == t.number) || is_number o n) && (not (r == 0) && takes t.next r)) g ∙ by (n == t.number) refl
  where
    by : (b : Bool) → (n == t.number) ≡ b → ((b || false) && (not (r == 0) && takes t.next r)) ≡ false
    by true q = absurd (omega (arith, f, eqb-true n t.number q))
    by false q = refl

goes_on_none : (c : Counts) (g : OpenGroup) (l : LineCut) (before : Bool) (ty : TransactionType) (k : ℕ) → FairAt before ty c g
    → (k ≢ 2 → number_at l 2 ≡ Some c.in_group) → (k ≢ 3 → number_at l 3 ≡ Some 0) → (k ≢ 0 → FreshCurrent g.current)
    → goes_on_in l g.current ≡ false
goes_on_none c g l true ty k h two three fresh = ap (goes_on_in l) h.1
goes_on_none c g l false ty k h two three fresh = by g.current h.1 fresh
  where
    by : (o : Option OpenTransaction) → FairCurrent c o → (k ≢ 0 → FreshCurrent o) → goes_on_in l o ≡ false
    by None f fr = absurd f
    by (Some t) f fr = at (k == 3) refl
      where
        at : (b : Bool) → (k == 3) ≡ b → goes_on_by (number_at l 2) (number_at l 3) t ≡ false
        at true e =
            goes_on_other (number_at l 2) (number_at l 3) c.in_group t (two (λ q. absurd (omega (arith, q, eqb-true k 3 e))))
            f.number (fr (λ q. absurd (omega (arith, q, eqb-true k 3 e)))).other
        at false e = goes_on_zero (number_at l 2) (number_at l 3) t (three (other_of k 3 e))

begins_own : (st : LintState) (g : OpenGroup) (ty : TransactionType) (kind : Kind) (l : LineCut) → g.ty ≡ Some ty
    → goes_on_in l g.current ≡ false → begins_in st g ty kind l ≡ true
begins_own st g ty kind l e f =
    let copy : heads_copy st g ty kind ≡ false =
    ap (λ (b : Bool). is_some (next_in st (Plain kind)) && not b)
    (ap (λ (o : Option TransactionType). is_type o ty) e ∙ of_type ty) ∙ and_false (is_some (next_in st (Plain kind))) in
    let last : (is_first l || cond (is_some g.ty) (may_have g ty) (not (is_some (number_at l 3)))) ≡ true =
    ap (λ (o : Option TransactionType). is_first l || cond (is_some o) (may_have g ty) (not (is_some (number_at l 3)))) e
    ∙ ap (λ (b : Bool). is_first l || b) (may_have_own g ty e) ∙ or_true (is_first l) in
    ap (λ (b : Bool). (not b && not (goes_on_in l g.current))
    && (is_first l || cond (is_some g.ty) (may_have g ty) (not (is_some (number_at l 3))))) copy
    ∙ ap (λ (b : Bool). not b && (is_first l || cond (is_some g.ty) (may_have g ty) (not (is_some (number_at l 3))))) f ∙ last

header_placed : (st : LintState) (g : OpenGroup) (ty : TransactionType) (step : TransactionStep) (c : Counts)
    → st.stage ≡ Some (Within ty step) → FairAt (is_before step) ty c g
    → (is_before step || is_some (next_stage (Within ty step) (Plain kinds.Grt))) ≡ true
    → is_misplaced_header_in (Some g) st ty ≡ false
header_placed st g ty step c e h whole =
    ap (λ (b : Bool). b || ((is_some st.stage && g.has_line) && not (is_whole st)))
    (ap (λ (b : Bool). is_some g.ty && not b) (may_have_own g ty (own (is_before step) h)) ∙ and_false (is_some g.ty))
    ∙ by (is_before step) h whole
  where
    own : (b : Bool) → FairAt b ty c g → g.ty ≡ Some ty
    own true f = f.0.ty_is
    own false f = f.0.ty_is

    by : (b : Bool) → FairAt b ty c g → (b || is_some (next_stage (Within ty step) (Plain kinds.Grt))) ≡ true
        → ((is_some st.stage && g.has_line) && not (is_whole st)) ≡ false
    by true f w =
        ap (λ (d : Bool). (is_some st.stage && d) && not (is_whole st)) f.2
        ∙ ap (λ (d : Bool). d && not (is_whole st)) (and_false (is_some st.stage))
    by false f w =
        ap (λ (d : Bool). (is_some st.stage && g.has_line) && not d)
        (ap (λ (o : Option Stage). is_some (next_of o (Plain kinds.Grt))) e ∙ w) ∙ and_false (is_some st.stage && g.has_line)

group_of_fair : (b : Bool) (ty : TransactionType) (c : Counts) (g : OpenGroup) → FairAt b ty c g → FairGroup ty c g
group_of_fair true ty c g h = h.0
group_of_fair false ty c g h = h.0

same_either : {X : Type 0} (b : Bool) (x y z : X) → x ≡ z → y ≡ z → cond b x y ≡ z
same_either true x y z p q = p
same_either false x y z p q = q

header_in : (ty : TransactionType) (c : Counts) (g : OpenGroup) (l : LineCut) (k : ℕ) → FairGroup ty c g → HaveRoom c
    → (k ≢ 2 → number_at l 2 ≡ Some c.in_group) → (k ≢ 0 → g.next ≡ just g.next.expected)
    → FairAt false ty (counts_with_header c) (with_header g false ty l)
header_in ty c g l k h room two fresh =
    let next : Stands g.next c.in_group (number_at l 2) =
    stands_by k 2 c.in_group (number_at l 2) g.next (omega arith) two (λ z. fresh_is g.next c.in_group h.next (fresh z)) in (
      record {
        id = h.id;
        ty_is = same_either ((not (is_some g.ty) || not g.has_header) || may_have g ty) (Some ty) g.ty (Some ty) refl h.ty_is;
        declared = same_either (is_some g.ty) g.declared (Some ty) (Some ty) h.declared refl;
        lines = omega (arith, h.lines, room.after_grh);
        headers = omega (arith, h.headers, room.in_group);
        next = after_is g.next c.in_group (number_at l 2) h.next (omega (arith, room.in_group)) next;
      },
      record {
        number = ap (λ (n : ℕ). n + 1) (settled_is g.next c.in_group (number_at l 2) h.next next);
        next = after_is (just 0) 0 (number_at l 3) refl (omega arith) (inr refl);
      },
    )

pub header_goes_on : (ty : TransactionType) (step : TransactionStep) (s : Symbol) (to : Stage) (c : Counts) (st : LintState)
    (l : LineCut) (k : ℕ) → next_stage (Within ty step) s ≡ Some to → is_header_of ty s ≡ true → Fair (Within ty step) c st
    → HaveRoom c
    → IsRowLine s l → (k ≢ 2 → number_at l 2 ≡ Some c.in_group) → (k ≢ 3 → number_at l 3 ≡ Some 0) → (k ≢ 0 → Fresh st)
    → GoesOn l (symbol_kind s) k to (counts_with ty c s) st false
header_goes_on ty step s to c st l k e header h room row two three fresh = by st.group refl h.group (λ z. (fresh z).group)
  where
    facts : HeaderKind ty s c
    facts = header_kind_of ty s c header

    to_is : to ≡ Within ty (first_step ty)
    to_is = header_goes ty step s to e header

    by : (o : Option OpenGroup) → st.group ≡ o → FairOpen (Within ty step) c o → (k ≢ 0 → FreshOpen o)
        → GoesOn l (symbol_kind s) k to (counts_with ty c s) st false
    by None q f fr = absurd f
    by (Some g) q f fr =
        let own = group_of_fair (is_before step) ty c g f in
        let begins =
        begins_own st g ty (symbol_kind s) l own.ty_is
        (goes_on_none c g l (is_before step) ty k f two three (λ z. (fr z).1)) in
        let taken : taking st (symbol_kind s) l ≡ takings.Header ty =
        facts.taking_is st l ∙ ap (λ (o : Option OpenGroup). taking_of_header_in o st ty (symbol_kind s) l) q
        ∙ ap (λ (b : Bool). cond b (takings.Header ty)
        (cond (is_some (next_in st (Plain (symbol_kind s))) && may_have g ty) takings.Other takings.Further)) begins in
        let placed : is_misplaced (takings.Header ty) st (symbol_kind s) l ≡ false =
        ap (λ (o : Option OpenGroup). is_misplaced_header_in o st ty) q
        ∙ header_placed st g ty step c h.stage_is f (whole_before ty step s to e header) in
        let counted = header_in ty c g l k own room two (λ z. (fr z).0) in
        let fair : Fair (Within ty (first_step ty)) (counts_with_header c)
        (counted_line st.lines false (with_transaction_in (Some g) st false ty (symbol_kind s) l)) =
        record {
          stage_is = facts.begun;
          since = omega (arith, h.since, room.records);
          groups = h.groups;
          headers = omega (arith, h.headers, room.transactions);
          ids = h.ids;
          group =
              subst (λ (b : Bool). FairAt b ty (counts_with_header c) (with_header g false ty l)) (sym (not_before_first ty))
              counted;
        } in
        goes_by l (symbol_kind s) k to (counts_with ty c s) st (takings.Header ty) taken placed
        (λ j other. quiet_at (wrong_numbers st (takings.Header ty) (symbol_kind s) l) k j
        (λ z. ap (λ (o : Option OpenGroup). (wrong_numbers_in o).second) q ∙ wanted_none g.next c.in_group (number_at l 2)
        own.next (two z)) (λ z. wanted_none (just 0) 0 (number_at l 3) refl (three z)) (λ _. refl) other)
        (subst (λ (x : Stage). Fair x (counts_with ty c s)
        (counted_line st.lines false (with_transaction_in st.group st false ty (symbol_kind s) l))) (sym to_is)
        (subst (λ (x : Counts). Fair (Within ty (first_step ty)) x
        (counted_line st.lines false (with_transaction_in st.group st false ty (symbol_kind s) l))) (sym facts.counts)
        (subst (λ (o : Option OpenGroup). Fair (Within ty (first_step ty)) (counts_with_header c)
        (counted_line st.lines false (with_transaction_in o st false ty (symbol_kind s) l))) (sym q) fair)))
      where
        wrong_numbers_in : Option OpenGroup → WrongNumbers
        wrong_numbers_in o = wrong_in_header (awaited_of o) l

-- ---- a further record

record FurtherKind (ty : TransactionType) (s : Symbol) (c : Counts) (l : LineCut) : Type 0 where
  taking_is : (st : LintState) → taking st (symbol_kind s) l ≡ taking_inside (type_of_header (symbol_kind s)) st (symbol_kind s) l
  other_type : is_type (type_of_header (symbol_kind s)) ty ≡ false
  plain : (ty2 : TransactionType) → type_of_header (symbol_kind s) ≡ Some ty2 → s ≡ Plain (symbol_kind s)
  placed : (st : LintState) → is_misplaced takings.Further st (symbol_kind s) l ≡ bars st s
  stage_is : (st : LintState) → stage_with st (symbol_kind s) l ≡ next_in st s
  counts : is_header_of ty s ≡ false → counts_with ty c s ≡ counts_with_other c

other_counts : (ty : TransactionType) (c : Counts) (s : Symbol) → is_header_of ty s ≡ false
    → cond (is_header_of ty s) (counts_with_header c) (counts_with_other c) ≡ counts_with_other c
other_counts ty c s e = ap (λ (b : Bool). cond b (counts_with_header c) (counts_with_other c)) e

not_type : (b : Bool) → not b ≡ true → b ≡ false
not_type true h = absurd (true≢false (sym h))
not_type false h = refl

further_kind_of : (ty : TransactionType) (s : Symbol) (c : Counts) (l : LineCut) → is_further ty s ≡ true → Named s l
    → FurtherKind ty s c l
further_kind_of ty (Ipa role) c l h n = record {
  taking_is = λ st. refl;
  other_type = refl;
  plain = λ ty2 e. absurd (cc e);
  placed = λ st. ap (λ (o : _). bars st (Ipa (role_or_assignor o))) n;
  stage_is = λ st. ap (λ (o : _). stage_of_party o (next_in st (Ipa (role_or_assignor o)))) n;
  counts = other_counts ty c (Ipa role);
}
further_kind_of ty (Grh t) c l h n = absurd (true≢false (sym h))
further_kind_of ty (Plain kinds.Hdr) c l h n = absurd (true≢false (sym h))
further_kind_of ty (Plain kinds.Grh) c l h n = absurd (true≢false (sym h))
further_kind_of ty (Plain kinds.Grt) c l h n = absurd (true≢false (sym h))
further_kind_of ty (Plain kinds.Trl) c l h n = absurd (true≢false (sym h))
further_kind_of ty (Plain kinds.Ipa) c l h n = absurd (true≢false (sym h))
further_kind_of ty (Plain kind) c l h n = record {
  taking_is = λ st. refl;
  other_type = not_type (is_type (type_of_header kind) ty) h;
  plain = λ ty2 e. refl;
  placed = λ st. refl;
  stage_is = λ st. refl;
  counts = other_counts ty c (Plain kind);
}

zero_none : (n : ℕ) → is_number (Some (n + 1)) 0 ≡ false
zero_none n = by ((n + 1) == 0) refl
  where
    by : (b : Bool) → ((n + 1) == 0) ≡ b → b ≡ false
    by true e = absurd (omega (arith, eqb-true (n + 1) 0 e))
    by false e = refl

-- no further record has the numbers of the next header
not_next : (c : Counts) (g : OpenGroup) (t : OpenTransaction) (l : LineCut) (k : ℕ) → FairTransaction c t
    → g.next.expected ≡ c.in_group → (k ≢ 2 → number_at l 2 ≡ Some (c.in_group - 1))
    → (k ≢ 3 → number_at l 3 ≡ Some (c.after_header + 1))
    → ((is_some g.current && is_first l) && is_number (number_at l 2) g.next.expected) ≡ false
not_next c g t l k f next two three = by (k == 3) refl
  where
    by : (b : Bool) → (k == 3) ≡ b → ((is_some g.current && is_first l) && is_number (number_at l 2) g.next.expected) ≡ false
    by true e =
        ap (λ (o : Option ℕ). (is_some g.current && is_first l) && is_number o g.next.expected)
        (two (λ q. absurd (omega (arith, q, eqb-true k 3 e))))
        ∙ ap (λ (b : Bool). (is_some g.current && is_first l) && b) (apart ((c.in_group - 1) == g.next.expected) refl)
        ∙ and_false (is_some g.current && is_first l)
      where
        apart : (b : Bool) → ((c.in_group - 1) == g.next.expected) ≡ b → b ≡ false
        apart true q = absurd (omega (arith, eqb-true (c.in_group - 1) g.next.expected q, next, f.number))
        apart false q = refl
    by false e =
        ap (λ (o : Option ℕ). (is_some g.current && is_number o 0) && is_number (number_at l 2) g.next.expected)
        (three (other_of k 3 e))
        ∙ ap (λ (b : Bool). (is_some g.current && b) && is_number (number_at l 2) g.next.expected) (zero_none c.after_header)
        ∙ ap (λ (b : Bool). b && is_number (number_at l 2) g.next.expected) (and_false (is_some g.current))

-- it is taken for one
further_taken : (ty : TransactionType) (s : Symbol) (c : Counts) (st : LintState) (g : OpenGroup) (t : OpenTransaction)
    (l : LineCut) (k : ℕ) (to : Stage) → FurtherKind ty s c l → st.group ≡ Some g → FairGroup ty c g → FairTransaction c t
    → next_in st s ≡ Some to
    → (k ≢ 2 → number_at l 2 ≡ Some (c.in_group - 1)) → (k ≢ 3 → number_at l 3 ≡ Some (c.after_header + 1))
    → taking st (symbol_kind s) l ≡ takings.Further
further_taken ty s c st g t l k to facts q own f next two three =
    facts.taking_is st ∙ by (type_of_header (symbol_kind s)) refl facts.other_type
  where
    by : (o : Option TransactionType) → type_of_header (symbol_kind s) ≡ o → is_type o ty ≡ false
        → taking_inside o st (symbol_kind s) l ≡ takings.Further
    by None e other =
        ap (λ (x : Option OpenGroup). taking_of_further_in x l) q
        ∙ ap (λ (b : Bool). cond b takings.Other takings.Further) (not_next c g t l k f own.next two three)
    by (Some ty2) e other =
        let foreign : is_type g.ty ty2 ≡ false =
        ap (λ (x : Option TransactionType). is_type x ty2) own.ty_is ∙ type_sym ty ty2 ∙ other in
        let foreign2 : is_type g.declared ty2 ≡ false =
        ap (λ (x : Option TransactionType). is_type x ty2) own.declared ∙ type_sym ty ty2 ∙ other in
        let comes : is_some (next_in st (Plain (symbol_kind s))) ≡ true =
        ap (λ (x : Symbol). is_some (next_in st x)) (sym (facts.plain ty2 e)) ∙ ap is_some next in
        let copy : heads_copy st g ty2 (symbol_kind s) ≡ true =
        ap (λ (b : Bool). b && not (is_type g.ty ty2)) comes ∙ ap not foreign in
        let no : begins_in st g ty2 (symbol_kind s) l ≡ false =
        ap (λ (b : Bool). (not b && not (goes_on_in l g.current))
        && (is_first l || cond (is_some g.ty) (may_have g ty2) (not (is_some (number_at l 3))))) copy in
        let may : may_have g ty2 ≡ false = ap (λ (b : Bool). b || is_type g.declared ty2) foreign ∙ foreign2 in
        ap (λ (x : Option OpenGroup). taking_of_header_in x st ty2 (symbol_kind s) l) q
        ∙ ap (λ (b : Bool). cond b (takings.Header ty2)
        (cond (is_some (next_in st (Plain (symbol_kind s))) && may_have g ty2) takings.Other takings.Further)) no
        ∙ ap (λ (b : Bool). cond (is_some (next_in st (Plain (symbol_kind s))) && b) takings.Other takings.Further) may
        ∙ ap (λ (b : Bool). cond b takings.Other takings.Further) (and_false (is_some (next_in st (Plain (symbol_kind s)))))

-- which transaction it says
stays_in : (t : OpenTransaction) (x : Option ℕ) (k : ℕ) → (k ≢ 2 → x ≡ Some t.number) → (k ≢ 0 → t.other ≡ None) → (n : ℕ)
    → belonging t x ≢ Moved n
stays_in t x k two fresh n = by (k == 2) refl x two
  where
    by : (b : Bool) → (k == 2) ≡ b → (y : Option ℕ) → (k ≢ 2 → y ≡ Some t.number) → belonging t y ≢ Moved n
    by false e y w q =
        absurd (cc (sym (ap (belonging t) (w (other_of k 2 e)) ∙ ap
        (λ (b : Bool). cond b Same (cond (is_number t.other t.number) (Moved t.number) (Strange t.number)))
        (same_eqb t.number t.number refl)) ∙ q))
    by true e None w q = absurd (cc q)
    by true e (Some m) w q =
        at (m == t.number) (sym (ap (λ (o : Option ℕ). cond (m == t.number) Same (cond (is_number o m) (Moved m) (Strange m)))
        (fresh (λ z. absurd (omega (arith, z, eqb-true k 2 e))))) ∙ q)
      where
        at : (b : Bool) → cond b Same (cond false (Moved m) (Strange m)) ≡ Moved n → ⊥
        at true r = cc r
        at false r = cc r

number_kept : (t : OpenTransaction) (b : Belonging) (r : Option ℕ) (run : ℕ) → ((n : ℕ) → b ≢ Moved n)
    → (with_belonging t b r run).number ≡ t.number
number_kept t Unsaid r run h = refl
number_kept t Same r run h = refl
number_kept t (Moved n) r run h = absurd (h n refl)
number_kept t (Strange n) r run h = refl

next_of_it : (t : OpenTransaction) (b : Belonging) (r : Option ℕ) (run : ℕ) → (with_belonging t b r run).next ≡ after t.next r
next_of_it t Unsaid r run = refl
next_of_it t Same r run = refl
next_of_it t (Moved n) r run = refl
next_of_it t (Strange n) r run = refl

awaited_kept : (b : Belonging) (a : Awaiting) → (next_by b a).expected ≡ a.expected
awaited_kept Unsaid a = refl
awaited_kept Same a = refl
awaited_kept (Moved n) a = refl
awaited_kept (Strange n) a = refl

second_none : (b : Belonging) (t : OpenTransaction) (l : LineCut) → ((n : ℕ) → b ≢ Strange n) → (wrong_by b t l).second ≡ None
second_none Unsaid t l h = refl
second_none Same t l h = refl
second_none (Moved n) t l h = refl
second_none (Strange n) t l h = absurd (h n refl)

third_none : (b : Belonging) (t : OpenTransaction) (l : LineCut) → wanted t.next (number_at l 3) ≡ None
    → (wrong_by b t l).third ≡ None
third_none Unsaid t l h = h
third_none Same t l h = h
third_none (Moved n) t l h = h
third_none (Strange n) t l h = refl

fourth_none : (b : Belonging) (t : OpenTransaction) (l : LineCut) → (wrong_by b t l).fourth ≡ None
fourth_none Unsaid t l = refl
fourth_none Same t l = refl
fourth_none (Moved n) t l = refl
fourth_none (Strange n) t l = refl

same_says : (t : OpenTransaction) (x : Option ℕ) (n : ℕ) → x ≡ Some t.number → belonging t x ≢ Strange n
same_says t x n e q =
    absurd (cc (sym (ap (belonging t) e ∙ ap
    (λ (b : Bool). cond b Same (cond (is_number t.other t.number) (Moved t.number) (Strange t.number)))
    (same_eqb t.number t.number refl)) ∙ q))

further_in : (ty : TransactionType) (c : Counts) (g : OpenGroup) (t : OpenTransaction) (l : LineCut) (k run : ℕ)
    → FairGroup ty c g → FairTransaction c t → HaveRoom c → g.current ≡ Some t → ((n : ℕ) → belonging t (number_at l 2) ≢ Moved n)
    → Stands t.next (c.after_header + 1) (number_at l 3)
    → FairAt false ty (counts_with_other c) (with_line_of g t (belonging t (number_at l 2)) (number_at l 3) run)
further_in ty c g t l k run h f room opened_now stays third = (
  record {
    id = h.id;
    ty_is = h.ty_is;
    declared = h.declared;
    lines = omega (arith, h.lines, room.after_grh);
    headers = h.headers;
    next =
        awaited_kept (belonging t (number_at l 2)) (next_beside g.current g.next t.number)
        ∙ ap (λ (o : Option OpenTransaction). (next_beside o g.next t.number).expected) opened_now ∙ h.next;
  },
  record {
    number = ap (λ (n : ℕ). n + 1) (number_kept t (belonging t (number_at l 2)) (number_at l 3) run stays) ∙ f.number;
    next =
        ap (λ (a : Awaiting). a.expected) (next_of_it t (belonging t (number_at l 2)) (number_at l 3) run)
        ∙ after_is t.next (c.after_header + 1) (number_at l 3) f.next (omega (arith, room.after_header)) third;
  },
)

pub further_goes_on : (ty : TransactionType) (step : TransactionStep) (s : Symbol) (to : Stage) (c : Counts) (st : LintState)
    (l : LineCut) (k : ℕ) → next_stage (Within ty step) s ≡ Some to → is_header_of ty s ≡ false → is_foot s ≡ false → Fair
    (Within ty step) c st → HaveRoom c
    → IsRowLine s l → (k ≢ 2 → number_at l 2 ≡ Some (c.in_group - 1)) → (k ≢ 3 → number_at l 3 ≡ Some (c.after_header + 1))
    → (k ≢ 0 → Fresh st) → GoesOn l (symbol_kind s) k to (counts_with ty c s) st false
further_goes_on ty step s to c st l k e no_header no_foot h room row two three fresh =
    by st.group refl h.group (λ z. (fresh z).group)
  where
    goes : IsFurther ty step s to
    goes = further_goes ty step s to e no_header no_foot

    facts : FurtherKind ty s c l
    facts = further_kind_of ty s c l goes.further row.named

    next : next_in st s ≡ Some to
    next = ap (λ (o : Option Stage). next_of o s) h.stage_is ∙ e

    to_is : (later : TransactionStep) × (to ≡ Within ty later) × (is_before later ≡ false)
    to_is = inside_is ty to goes.inside

    by : (o : Option OpenGroup) → st.group ≡ o → FairOpen (Within ty step) c o → (k ≢ 0 → FreshOpen o)
        → GoesOn l (symbol_kind s) k to (counts_with ty c s) st false
    by None q f fr = absurd f
    by (Some g) q f fr = at g.current refl (subst (λ (b : Bool). FairAt b ty c g) goes.begun f) (λ z. (fr z).1)
      where
        at : (o : Option OpenTransaction) → g.current ≡ o → FairGroup ty c g × FairCurrent c g.current
            → (k ≢ 0 → FreshCurrent g.current) → GoesOn l (symbol_kind s) k to (counts_with ty c s) st false
        at None opened_now fa fre = absurd (subst (FairCurrent c) opened_now fa.1)
        at (Some t) opened_now fa fre =
            let own = fa.0 in
            let ft : FairTransaction c t = subst (FairCurrent c) opened_now fa.1 in
            let frt : k ≢ 0 → FreshTransaction t = λ z. subst FreshCurrent opened_now (fre z) in
            let mine : k ≢ 2 → number_at l 2 ≡ Some t.number = λ z. two z ∙ ap Some (omega (arith, ft.number)) in
            let third : Stands t.next (c.after_header + 1) (number_at l 3) =
            stands_by k 3 (c.after_header + 1) (number_at l 3) t.next (omega arith) three
            (λ z. fresh_is t.next (c.after_header + 1) ft.next (frt z).next) in
            let taken = further_taken ty s c st g t l k to facts q own ft next two three in
            let placed : is_misplaced takings.Further st (symbol_kind s) l ≡ false =
            facts.placed st ∙ not_barred st (Within ty step) to s h.stage_is e in
            let wrong : wrong_of_further st.group l ≡ wrong_by (belonging t (number_at l 2)) t l =
            ap (λ (o : Option OpenGroup). wrong_of_further o l) q
            ∙ ap (λ (o : Option OpenTransaction). wrong_of_current o l) opened_now in
            let run : ℕ = run_with (open_transaction g).run (number_at l 3) in
            let counted : FairAt false ty (counts_with_other c)
            (with_line_of g t (belonging t (number_at l 2)) (number_at l 3) run) =
            further_in ty c g t l k run own ft room opened_now (stays_in t (number_at l 2) k mine (λ z. (frt z).other)) third in
            let grown : with_numbers_of g l ≡ with_line_of g t (belonging t (number_at l 2)) (number_at l 3) run =
            ap (λ (o : Option OpenTransaction). with_line g (transaction_or o (unheaded g.next 1)) (number_at l 2)
            (number_at l 3) run) opened_now in
            let fair : Fair (Within ty to_is.0) (counts_with_other c)
            (counted_line st.lines false (moved_to st (Some to) (Some (with_numbers_of g l)))) =
            record {
              stage_is = ap Some to_is.1;
              since = omega (arith, h.since, room.records);
              groups = h.groups;
              headers = h.headers;
              ids = h.ids;
              group =
                  subst (λ (b : Bool). FairAt b ty (counts_with_other c) (with_numbers_of g l)) (sym to_is.2)
                  (subst (FairAt false ty (counts_with_other c)) (sym grown) counted);
            } in
            goes_by l (symbol_kind s) k to (counts_with ty c s) st takings.Further taken placed
            (λ j other. ap (λ (w : WrongNumbers). number_of w j) wrong ∙ quiet_at (wrong_by (belonging t (number_at l 2)) t l) k j
            (λ z. second_none (belonging t (number_at l 2)) t l (λ n. same_says t (number_at l 2) n (mine z)))
            (λ z. third_none (belonging t (number_at l 2)) t l
            (wanted_none t.next (c.after_header + 1) (number_at l 3) ft.next (three z)))
            (λ z. fourth_none (belonging t (number_at l 2)) t l) other)
            (subst (λ (x : Stage). Fair x (counts_with ty c s) (counted_line st.lines false (with_further st (symbol_kind s) l)))
            (sym to_is.1)
            (subst (λ (x : Counts). Fair (Within ty to_is.0) x (counted_line st.lines false (with_further st (symbol_kind s) l)))
            (sym (facts.counts no_header))
            (subst (λ (x : Option Stage). Fair (Within ty to_is.0) (counts_with_other c)
            (counted_line st.lines false (moved_to st x (group_further st.group l)))) (sym (facts.stage_is st ∙ next))
            (subst (λ (o : Option OpenGroup). Fair (Within ty to_is.0) (counts_with_other c)
            (counted_line st.lines false (moved_to st (Some to) (group_further o l)))) (sym q) fair))))

-- ---- GRT

foot_counts : (ty : TransactionType) (c : Counts) → counts_with ty c (Plain kinds.Grt) ≡ counts_with_other c
foot_counts Agreement c = refl
foot_counts NewWork c = refl
foot_counts RevisedWork c = refl
foot_counts Acknowledgement c = refl

ids_kept : (g : OpenGroup) (ids : Awaiting) (x : Option ℕ) → (ids_after_foot g ids x).expected ≡ ids.expected
ids_kept g ids None = refl
ids_kept g ids (Some id) = by (is_id g (Some id))
  where
    by : (b : Bool) → (cond b ids (passing ids (one_more id))).expected ≡ ids.expected
    by true = refl
    by false = refl

own_id : (g : OpenGroup) (x : Option ℕ) (n : ℕ) → g.id ≡ n → x ≡ Some n
    → cond (is_some x && not (is_id g x)) (Some g.id) None ≡ None
own_id g x n e is =
    ap (λ (o : Option ℕ). cond (is_some o && not (is_id g o)) (Some g.id) None) is
    ∙ ap (λ (b : Bool). cond (not (b || is_number g.other_id n)) (Some g.id) None) (same_eqb n g.id (sym e))

pub foot_goes_on : (ty : TransactionType) (step : TransactionStep) (to : Stage) (c : Counts) (st : LintState) (l : LineCut)
    (k : ℕ) → next_stage (Within ty step) (Plain kinds.Grt) ≡ Some to → Fair (Within ty step) c st → HaveRoom c → IsRowLine
    (Plain kinds.Grt) l
    → (k ≢ 2 → number_at l 2 ≡ Some c.groups) → (k ≢ 3 → number_at l 3 ≡ Some c.in_group)
    → (k ≢ 4 → number_at l 4 ≡ Some (c.after_grh + 2)) → GoesOn l kinds.Grt k to (counts_with ty c (Plain kinds.Grt)) st false
foot_goes_on ty step to c st l k e h room row two three four = by st.group refl h.group
  where
    by : (o : Option OpenGroup) → st.group ≡ o → FairOpen (Within ty step) c o
        → GoesOn l kinds.Grt k to (counts_with ty c (Plain kinds.Grt)) st false
    by None q f = absurd f
    by (Some g) q f =
        let own = group_of_fair (is_before step) ty c g f in
        let taken : taking st kinds.Grt l ≡ takings.ClosesGroup =
        ap (λ (o : Option OpenGroup). taking_of_foot_in o l) q ∙ ap (λ (b : Bool). cond
        ((b && not (is_id g (number_at l 2))) && not (is_borne_by (count_of_group_records g) (number_at l 4))) takings.Other
        takings.ClosesGroup) row.excess in
        let fair : Fair Closed (counts_with_other c) (counted_line st.lines false (with_foot_in (Some g) st false l)) = record {
          stage_is = refl;
          since = omega (arith, h.since, room.records);
          groups = h.groups;
          headers = h.headers;
          ids = ids_kept g st.ids (number_at l 2) ∙ h.ids;
          group = tt;
        } in
        goes_by l kinds.Grt k to (counts_with ty c (Plain kinds.Grt)) st takings.ClosesGroup taken
        (not_barred st (Within ty step) to (Plain kinds.Grt) h.stage_is e)
        (λ j other. ap (λ (o : Option OpenGroup). number_of (wrong_of_foot o l) j) q ∙ quiet_at (wrong_in_foot g l) k j
        (λ z. own_id g (number_at l 2) c.groups own.id (two z))
        (λ z. counted_none (count_of_group_transactions g) c.in_group (number_at l 3) own.headers (three z))
        (λ z. counted_none (count_of_group_records g) (c.after_grh + 2) (number_at l 4) (omega (arith, own.lines, room.after_grh))
        (four z)) other)
        (subst (λ (x : Stage). Fair x (counts_with ty c (Plain kinds.Grt))
        (counted_line st.lines false (with_foot_in st.group st false l))) (sym (foot_goes ty step to e))
        (subst (λ (x : Counts). Fair Closed x (counted_line st.lines false (with_foot_in st.group st false l)))
        (sym (foot_counts ty c))
        (subst (λ (o : Option OpenGroup). Fair Closed (counts_with_other c)
        (counted_line st.lines false (with_foot_in o st false l))) (sym q) fair)))

-- ---- TRL

none_some : (x : Option ℕ) (n : ℕ) → x ≡ None → cond (is_some x) (Some n) None ≡ None
none_some x n e = ap (λ (o : Option ℕ). cond (is_some o) (Some n) None) e

nothing_open : (c : Counts) (o : Option OpenGroup) → FairOpen Closed c o → FairOpen Ended (counts_with_other c) o
nothing_open c None f = tt
nothing_open c (Some g) f = absurd f

pub trailer_goes_on : (c : Counts) (st : LintState) (l : LineCut) (k : ℕ) → Fair Closed c st → HaveRoom c
    → IsRowLine (Plain kinds.Trl) l
    → (k ≢ 2 → number_at l 2 ≡ Some c.groups) → (k ≢ 3 → number_at l 3 ≡ Some c.transactions)
    → (k ≢ 4 → number_at l 4 ≡ Some (c.records + 1)) → GoesOn l kinds.Trl k Ended (counts_with_other c) st true
trailer_goes_on c st l k h room row two three four =
    goes_by l kinds.Trl k Ended (counts_with_other c) st takings.Ends (rw row.excess refl)
    (not_barred st Closed Ended (Plain kinds.Trl) h.stage_is refl)
    (λ j other. quiet_at (wrong_in_trailer st l) k j
    (λ z. none_some (wanted_count (count_of_groups st) (number_at l 2)) st.groups
    (counted_none (count_of_groups st) c.groups (number_at l 2) h.groups (two z)))
    (λ z. counted_none (count_of_all_transactions st) c.transactions (number_at l 3) h.headers (three z))
    (λ z. counted_none (count_of_all_records st) (c.records + 1) (number_at l 4) (omega (arith, h.since, room.records)) (four z))
    other)
    (record {
      stage_is = refl;
      since = omega (arith, h.since, room.records);
      groups = h.groups;
      headers = h.headers;
      ids = h.ids;
      group = nothing_open c st.group h.group;
    })
