-- From a fair state a lint goes on with the next row of a transmission, though one of its numbers is another, and stays fair.
use Rattle.std.proofs.Common.{◌≡◌, ◌≢◌, ℕ, ◌+◌, ◌-◌, ◌<◌, ◌≤◌, Bool, true, false, true≢false, Some, refl, sym, ap, subst, ◌∙◌}
use Rattle.std.proofs.Common.{arith}
use Rattle.std.specs.Prelude.{◌^◌}
use Prim.Native.String.{String}
use Rattle.cwr_fields.specs.Format.Layouts.{FieldLayout, field_at, number}
use Rattle.cwr_shape.specs.Steps.Needs.{needs_at}
use Rattle.cwr_fields.specs.declared.codes.TransactionType.{TransactionType}
use Rattle.cwr_fields.specs.declared.codes.TransactionType.TheVariants.{Agreement, NewWork, RevisedWork, Acknowledgement}
use Rattle.cwr_fields.specs.declared.kinds.Kind.{Kind}
use Rattle.cwr_fields.specs.declared.kinds.Kind.TheVariants as kinds
use Rattle.cwr_shape.specs.declared.symbols.Symbol.{Symbol}
use Rattle.cwr_shape.specs.declared.symbols.Symbol.TheVariants.{Plain, Ipa, Grh}
use Rattle.cwr_shape.specs.declared.stages.Stage.{Stage}
use Rattle.cwr_shape.specs.declared.stages.Stage.TheVariants.{Start, Opened, Within, Closed, Ended}
use Rattle.cwr_shape.specs.declared.stages.TransactionStep.{TransactionStep}
use Rattle.cwr_shape.specs.declared.stages.TransactionStep.TheVariants.{InGroup}
use Rattle.cwr_shape.specs.declared.tallies.Counts.{Counts}
use Rattle.cwr_shape.specs.Format.Numbers.{number_in, symbol_kind}
use Rattle.cwr_shape.specs.Format.ExpectedNumbers.{expected_numbers}
use Rattle.cwr_shape.specs.Format.NextSymbols.{is_header_of}
use Rattle.cwr_shape.specs.Steps.Counting.{HaveRoom, counts_with, number_inside, stage_type}
use Rattle.cwr_shape.specs.Steps.NextStages.{next_stage}
use Rattle.cwr_shape.proofs.lemmas.InnerNumbers.{IsInside, inside_number}
use Rattle.cwr_lint_lines.specs.declared.states.LintState.{LintState}
use Rattle.cwr_lint_lines.specs.Format.FaultsAtFields.{LineCut}
use Rattle.cwr_lint_lines.specs.Steps.Cells.{number_at}
use Rattle.cwr_lint.proofs.lemmas.FairStates.{Fair, Fresh, GoesOn, IsRowLine, foot_goes_on, further_goes_on, head_goes, header_goes_on}
use Rattle.cwr_lint.proofs.lemmas.FairStates.{trailer_goes_on}
use Rattle.cwr_lint.proofs.lemmas.StagesWithin.{foot_goes, foot_is, further_goes, header_goes, inside_is, is_foot, is_further}

-- the transmission is over
abbrev pub is_ended : Stage → Bool
is_ended Ended = true
is_ended stage = false

-- the numbers that belong in the line stand there, but in field k
abbrev pub HasNumbers : Stage → Counts → Kind → ℕ → LineCut → Type 0
HasNumbers stage c kind k l =
    (j n : ℕ) (f : FieldLayout) → 2 ≤ j → field_at kind j ≡ Some f → f.derived ≡ true
    → number_in kind j (expected_numbers (stage_type stage) c kind) ≡ Some n → n < 10 ^ f.width → f.width ≤ 10 → k ≢ j
    → number_at l j ≡ Some n

-- the counts are small, and stay so
pub record AreSmall (c : Counts) (s : Symbol) (to : Stage) : Type 0 where
  pub records : c.records + 1 + (needs_at to).records ≤ 99999999
  pub groups : c.groups ≤ 99999
  pub head : (ty : TransactionType) → s ≡ Grh ty → c.groups + 1 ≤ 99999
  pub transactions : c.transactions ≤ c.records
  pub in_group : c.in_group ≤ c.records
  pub after_grh : c.after_grh ≤ c.records
  pub after_header : c.after_header ≤ c.records

pub have_room : (c : Counts) (s : Symbol) (to : Stage) → AreSmall c s to → HaveRoom c
have_room c s to h = record {
  records = omega (arith, h.records);
  groups = omega (arith, h.groups);
  transactions = omega (arith, h.records, h.transactions);
  in_group = omega (arith, h.records, h.in_group);
  after_grh = omega (arith, h.records, h.after_grh);
  after_header = omega (arith, h.records, h.after_header);
}

abbrev eight : String → FieldLayout
eight name = number name 8

inside_second : (kind : Kind) → IsInside kind → field_at kind 2 ≡ Some (eight "transaction sequence")
inside_second kinds.Hdr h = absurd (h.0 refl)
inside_second kinds.Grh h = absurd (h.1 refl)
inside_second kinds.Grt h = absurd (h.2 refl)
inside_second kinds.Trl h = absurd (h.3 refl)
inside_second kind h = refl

inside_third : (kind : Kind) → IsInside kind → field_at kind 3 ≡ Some (eight "record sequence")
inside_third kinds.Hdr h = absurd (h.0 refl)
inside_third kinds.Grh h = absurd (h.1 refl)
inside_third kinds.Grt h = absurd (h.2 refl)
inside_third kinds.Trl h = absurd (h.3 refl)
inside_third kind h = refl

-- ---- the numbers of a record inside a transaction

inside_of_header : (ty : TransactionType) (s : Symbol) → is_header_of ty s ≡ true
    → IsInside (symbol_kind s) × (is_header_of ty (Plain (symbol_kind s)) ≡ true)
inside_of_header Agreement (Plain kinds.Agr) h = (((λ e. cc e), (λ e. cc e), (λ e. cc e), (λ e. cc e)), refl)
inside_of_header NewWork (Plain kinds.Nwr) h = (((λ e. cc e), (λ e. cc e), (λ e. cc e), (λ e. cc e)), refl)
inside_of_header RevisedWork (Plain kinds.Rev) h = (((λ e. cc e), (λ e. cc e), (λ e. cc e), (λ e. cc e)), refl)
inside_of_header Acknowledgement (Plain kinds.Ack) h = (((λ e. cc e), (λ e. cc e), (λ e. cc e), (λ e. cc e)), refl)
inside_of_header ty s h = absurd (true≢false (sym h))

no_party_header : (ty : TransactionType) → is_header_of ty (Plain kinds.Ipa) ≡ false
no_party_header Agreement = refl
no_party_header NewWork = refl
no_party_header RevisedWork = refl
no_party_header Acknowledgement = refl

inside_of_further : (ty : TransactionType) (s : Symbol) → is_further ty s ≡ true → is_header_of ty s ≡ false
    → IsInside (symbol_kind s) × (is_header_of ty (Plain (symbol_kind s)) ≡ false)
inside_of_further ty (Ipa role) h not_it = (((λ e. cc e), (λ e. cc e), (λ e. cc e), (λ e. cc e)), no_party_header ty)
inside_of_further ty (Grh t) h not_it = absurd (true≢false (sym h))
inside_of_further ty (Plain kinds.Hdr) h not_it = absurd (true≢false (sym h))
inside_of_further ty (Plain kinds.Grh) h not_it = absurd (true≢false (sym h))
inside_of_further ty (Plain kinds.Grt) h not_it = absurd (true≢false (sym h))
inside_of_further ty (Plain kinds.Trl) h not_it = absurd (true≢false (sym h))
inside_of_further ty (Plain kind) h not_it = (((λ e. cc e), (λ e. cc e), (λ e. cc e), (λ e. cc e)), not_it)

number_there : (ty : TransactionType) (c : Counts) (kind : Kind) (b : Bool) (j n : ℕ) → IsInside kind
    → is_header_of ty (Plain kind) ≡ b → number_inside b c j ≡ Some n → number_in kind j (expected_numbers ty c kind) ≡ Some n
number_there ty c kind b j n inside header e =
    inside_number ty c kind j inside ∙ ap (λ (x : Bool). number_inside x c j) header ∙ e

-- ---- one row more

within_goes_on : (ty : TransactionType) (step : TransactionStep) (s : Symbol) (to : Stage) (c : Counts) (st : LintState)
    (l : LineCut) (k : ℕ) → next_stage (Within ty step) s ≡ Some to → Fair (Within ty step) c st → AreSmall c s to → IsRowLine s l
    → HasNumbers (Within ty step) c (symbol_kind s) k l → (k ≢ 0 → Fresh st)
    → GoesOn l (symbol_kind s) k to (counts_with ty c s) st (is_ended to)
within_goes_on ty step s to c st l k e h small row numbers fresh = by (is_foot s) (is_header_of ty s) refl refl
  where
    room : HaveRoom c
    room = have_room c s to small

    Goes : Symbol → Bool → Type 0
    Goes x over = GoesOn l (symbol_kind x) k to (counts_with ty c x) st over

    closed : to ≡ Closed → c.records + 2 ≤ 99999999
    closed q = omega (arith, subst (λ (x : Stage). c.records + 1 + (needs_at x).records ≤ 99999999) q small.records)

    by : (foot header : Bool) → is_foot s ≡ foot → is_header_of ty s ≡ header
        → GoesOn l (symbol_kind s) k to (counts_with ty c s) st (is_ended to)
    by true header f d =
        let it : s ≡ Plain kinds.Grt = foot_is s f in
        let on : next_stage (Within ty step) (Plain kinds.Grt) ≡ Some to = ap (next_stage (Within ty step)) (sym it) ∙ e in
        let has : HasNumbers (Within ty step) c kinds.Grt k l =
        subst (λ (x : Symbol). HasNumbers (Within ty step) c (symbol_kind x) k l) it numbers in
        let goes =
        foot_goes_on ty step to c st l k on h room (subst (λ (x : Symbol). IsRowLine x l) it row)
        (λ z. has 2 c.groups _ (omega arith) refl refl refl (omega (arith, small.groups)) (omega arith) z)
        (λ z. has 3 c.in_group _ (omega arith) refl refl refl (omega (arith, small.records, small.in_group)) (omega arith)
        z) (λ z. has 4 (c.after_grh + 2) _ (omega arith) refl refl refl
        (omega (arith, small.after_grh, closed (foot_goes ty step to on))) (omega arith) z) in
        subst (λ (x : Stage). GoesOn l (symbol_kind s) k to (counts_with ty c s) st (is_ended x)) (sym (foot_goes ty step to on))
        (subst (λ (x : Symbol). Goes x false) (sym it) goes)
    by false true f d =
        let facts = inside_of_header ty s d in
        let goes =
        header_goes_on ty step s to c st l k e d h room row (λ z. numbers 2 c.in_group _ (omega arith)
        (inside_second (symbol_kind s) facts.0) refl
        (number_there ty c (symbol_kind s) true 2 c.in_group facts.0 facts.1 refl)
        (omega (arith, small.records, small.in_group)) (omega arith) z)
        (λ z. numbers 3 0 _ (omega arith) (inside_third (symbol_kind s) facts.0) refl
        (number_there ty c (symbol_kind s) true 3 0 facts.0 facts.1 refl) (omega arith) (omega arith) z) fresh in
        subst (λ (x : Stage). GoesOn l (symbol_kind s) k to (counts_with ty c s) st (is_ended x))
        (sym (header_goes ty step s to e d)) goes
    by false false f d =
        let further = further_goes ty step s to e d f in
        let facts = inside_of_further ty s further.further d in
        let later = inside_is ty to further.inside in
        let goes =
        further_goes_on ty step s to c st l k e d f h room row (λ z. numbers 2 (c.in_group - 1) _ (omega arith)
        (inside_second (symbol_kind s) facts.0) refl
        (number_there ty c (symbol_kind s) false 2 (c.in_group - 1) facts.0 facts.1 refl)
        (omega (arith, small.records, small.in_group)) (omega arith) z)
        (λ z. numbers 3 (c.after_header + 1) _ (omega arith) (inside_third (symbol_kind s) facts.0) refl
        (number_there ty c (symbol_kind s) false 3 (c.after_header + 1) facts.0 facts.1 refl)
        (omega (arith, small.records, small.after_header)) (omega arith) z) fresh in
        subst (λ (x : Stage). GoesOn l (symbol_kind s) k to (counts_with ty c s) st (is_ended x)) (sym later.1) goes

-- after HDR
pub row_goes_on : (stage : Stage) (s : Symbol) (to : Stage) (c : Counts) (st : LintState) (l : LineCut) (k : ℕ) → stage ≢ Start
    → next_stage stage s ≡ Some to → Fair stage c st → AreSmall c s to → IsRowLine s l
    → HasNumbers stage c (symbol_kind s) k l → (k ≢ 0 → Fresh st)
    → GoesOn l (symbol_kind s) k to (counts_with (stage_type stage) c s) st (is_ended to)
row_goes_on (Within ty step) s to c st l k some e h small row numbers fresh =
    within_goes_on ty step s to c st l k e h small row numbers fresh
row_goes_on Start s to c st l k some e h small row numbers fresh = absurd (some refl)
row_goes_on Opened (Grh ty) to c st l k some e h small row numbers fresh =
    let it : Within ty InGroup ≡ to = cc e in
    subst (λ (x : Stage). GoesOn l kinds.Grh k x (counts_with Acknowledgement c (Grh ty)) st (is_ended x)) it (head_goes Opened ty
    c st l k refl h (have_room c (Grh ty) to small) row
    (λ z. numbers 3 (c.groups + 1) _ (omega arith) refl refl refl (omega (arith, small.head ty refl)) (omega arith) z) fresh)
row_goes_on Closed (Grh ty) to c st l k some e h small row numbers fresh =
    let it : Within ty InGroup ≡ to = cc e in
    subst (λ (x : Stage). GoesOn l kinds.Grh k x (counts_with Acknowledgement c (Grh ty)) st (is_ended x)) it (head_goes Closed ty
    c st l k refl h (have_room c (Grh ty) to small) row
    (λ z. numbers 3 (c.groups + 1) _ (omega arith) refl refl refl (omega (arith, small.head ty refl)) (omega arith) z) fresh)
row_goes_on Closed (Plain kinds.Trl) to c st l k some e h small row numbers fresh =
    let it : Ended ≡ to = cc e in
    subst (λ (x : Stage). GoesOn l kinds.Trl k x (counts_with Acknowledgement c (Plain kinds.Trl)) st (is_ended x)) it
    (trailer_goes_on c st l k h (have_room c (Plain kinds.Trl) to small) row (λ z. numbers 2 c.groups _ (omega arith) refl refl
    refl (omega (arith, small.groups)) (omega arith) z) (λ z. numbers 3 c.transactions _ (omega arith) refl refl refl
    (omega (arith, small.records, small.transactions)) (omega arith) z)
    (λ z. numbers 4 (c.records + 1) _ (omega arith) refl refl refl (omega (arith, small.records)) (omega arith) z))
row_goes_on stage s to c st l k some e h small row numbers fresh = absurd (cc e)
