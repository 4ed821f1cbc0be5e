-- What comes after a stage inside a group: the header of a transaction, a further record of one, or the group's foot.
use Rattle.std.proofs.Common.{◌≡◌, Bool, true, false, true≢false, List, [], ◌∷◌, Option, Some, None, refl, sym, ap, ◌∙◌, lit<}
use Rattle.std.specs.Prelude.{◌&&◌, ◌||◌, not, is_some}
use Rattle.std.specs.List.{list_all}
use Rattle.cwr_fields.specs.declared.codes.Role.TheVariants.{Assignor, Acquirer}
use Rattle.cwr_fields.specs.declared.codes.TransactionType.{TransactionType}
use Rattle.cwr_fields.specs.declared.codes.TransactionType.TheVariants.{Agreement, NewWork, RevisedWork, Acknowledgement}
use Rattle.cwr_fields.specs.declared.kinds.Kind.TheVariants as kinds
use Rattle.cwr_fields.specs.Format.Kinds.{is_in_transaction}
use Rattle.cwr_shape.specs.declared.symbols.Symbol.{Symbol}
use Rattle.cwr_shape.specs.declared.symbols.Symbol.TheVariants.{Plain, Ipa, Grh}
use Rattle.cwr_shape.specs.declared.stages.Stage.{Stage}
use Rattle.cwr_shape.specs.declared.stages.Stage.TheVariants.{Within, Closed}
use Rattle.cwr_shape.specs.declared.stages.TransactionStep.{TransactionStep}
use Rattle.cwr_shape.specs.declared.stages.TransactionStep.TheVariants as steps
use Rattle.cwr_shape.specs.Format.NextSymbols.{is_header_of}
use Rattle.cwr_shape.specs.Steps.NextStages.{header_step, next_stage, within}
use Rattle.cwr_shape.proofs.lemmas.AllSymbols.{all_symbols, of_each}
use Rattle.cwr_shape.proofs.lemmas.PrefixFree.{among_passes}
use Rattle.cwr_lint_lines.specs.Steps.Cells.{type_of_header}
use Rattle.cwr_lint_lines.specs.Steps.States.{is_type}

-- ---- words

-- the step is that before the first header
abbrev pub is_before : TransactionStep → Bool
is_before steps.InGroup = true
is_before step = false

-- the stage is inside a transaction of a group of the type
abbrev pub is_inside : TransactionType → Stage → Bool
is_inside ty (Within t step) = is_type (Some t) ty && not (is_before step)
is_inside ty stage = false

-- the foot of a group
abbrev pub is_foot : Symbol → Bool
is_foot (Plain kinds.Grt) = true
is_foot s = false

-- the record stands in a transaction, and where its kind is that of a header then of another type's
abbrev pub is_further : TransactionType → Symbol → Bool
is_further ty (Plain kinds.Ipa) = false
is_further ty (Plain kind) = is_in_transaction kind && not (is_type (type_of_header kind) ty)
is_further ty (Ipa role) = true
is_further ty (Grh t) = false

-- the first step of a transaction of the type
abbrev pub first_step : TransactionType → TransactionStep
first_step Agreement = steps.Agreed
first_step NewWork = steps.Work
first_step RevisedWork = steps.Work
first_step Acknowledgement = steps.Acked

-- ---- each step in a group of each type

abbrev all_types : List TransactionType
all_types = Agreement ∷ NewWork ∷ RevisedWork ∷ Acknowledgement ∷ []

each_type : (test : TransactionType → Bool) (ty : TransactionType) → list_all test all_types ≡ true → test ty ≡ true
each_type test Agreement h = among_passes test all_types Agreement 0 h (lit< tt)
each_type test NewWork h = among_passes test all_types Agreement 1 h (lit< tt)
each_type test RevisedWork h = among_passes test all_types Agreement 2 h (lit< tt)
each_type test Acknowledgement h = among_passes test all_types Agreement 3 h (lit< tt)

abbrev all_steps : List TransactionStep
all_steps =
    steps.InGroup ∷ steps.Acked ∷ steps.Agreed ∷ steps.Territories ∷ steps.OneSide Assignor ∷ steps.OneSide Acquirer ∷ steps.Both
    ∷ steps.Work ∷ steps.Controlled ∷ steps.Other ∷ steps.Writer ∷ steps.OtherWriter ∷ steps.Tail ∷ []

each_step : (test : TransactionStep → Bool) (step : TransactionStep) → list_all test all_steps ≡ true → test step ≡ true
each_step test steps.InGroup h = among_passes test all_steps steps.InGroup 0 h (lit< tt)
each_step test steps.Acked h = among_passes test all_steps steps.InGroup 1 h (lit< tt)
each_step test steps.Agreed h = among_passes test all_steps steps.InGroup 2 h (lit< tt)
each_step test steps.Territories h = among_passes test all_steps steps.InGroup 3 h (lit< tt)
each_step test (steps.OneSide Assignor) h = among_passes test all_steps steps.InGroup 4 h (lit< tt)
each_step test (steps.OneSide Acquirer) h = among_passes test all_steps steps.InGroup 5 h (lit< tt)
each_step test steps.Both h = among_passes test all_steps steps.InGroup 6 h (lit< tt)
each_step test steps.Work h = among_passes test all_steps steps.InGroup 7 h (lit< tt)
each_step test steps.Controlled h = among_passes test all_steps steps.InGroup 8 h (lit< tt)
each_step test steps.Other h = among_passes test all_steps steps.InGroup 9 h (lit< tt)
each_step test steps.Writer h = among_passes test all_steps steps.InGroup 10 h (lit< tt)
each_step test steps.OtherWriter h = among_passes test all_steps steps.InGroup 11 h (lit< tt)
each_step test steps.Tail h = among_passes test all_steps steps.InGroup 12 h (lit< tt)

-- what the check computes of each of them holds of any
everywhere : (test : TransactionType → TransactionStep → Bool)
    → list_all (λ ty. list_all (test ty) all_steps) all_types ≡ true → (ty : TransactionType) (step : TransactionStep)
    → test ty step ≡ true
everywhere test h ty step = each_step (test ty) step (each_type (λ t. list_all (test t) all_steps) ty h)

-- ---- tests of each symbol

-- a further record leads on in the transaction
abbrev pub goes_inside : TransactionType → Symbol → Option Stage → Bool
goes_inside ty s None = true
goes_inside ty s (Some to) = is_further ty s && is_inside ty to

abbrev pub further_test : TransactionType → TransactionStep → Symbol → Bool
further_test ty step s =
    (is_header_of ty s || is_foot s) || (goes_inside ty s (next_stage (Within ty step) s)
    && (not (is_some (next_stage (Within ty step) s)) || not (is_before step)))

further_passes : (ty : TransactionType) (step : TransactionStep) (s : Symbol) → further_test ty step s ≡ true
further_passes ty step s =
    of_each (further_test ty step) s (everywhere (λ t p. list_all (further_test t p) all_symbols) refl ty step)

-- a header comes first in a group, or after a whole transaction
abbrev pub header_test : TransactionType → TransactionStep → Symbol → Bool
header_test ty step s =
    not (is_header_of ty s) || (not (is_some (next_stage (Within ty step) s))
    || (is_before step || is_some (next_stage (Within ty step) (Plain kinds.Grt))))

header_passes : (ty : TransactionType) (step : TransactionStep) (s : Symbol) → header_test ty step s ≡ true
header_passes ty step s =
    of_each (header_test ty step) s (everywhere (λ t p. list_all (header_test t p) all_symbols) refl ty step)

-- it leads to the first step
abbrev pub is_begun : TransactionType → Option Stage → Bool
is_begun ty None = true
is_begun Agreement (Some (Within Agreement steps.Agreed)) = true
is_begun NewWork (Some (Within NewWork steps.Work)) = true
is_begun RevisedWork (Some (Within RevisedWork steps.Work)) = true
is_begun Acknowledgement (Some (Within Acknowledgement steps.Acked)) = true
is_begun ty (Some stage) = false

abbrev pub begun_test : TransactionType → TransactionStep → Symbol → Bool
begun_test ty step s = not (is_header_of ty s) || is_begun ty (next_stage (Within ty step) s)

begun_passes : (ty : TransactionType) (step : TransactionStep) (s : Symbol) → begun_test ty step s ≡ true
begun_passes ty step s =
    of_each (begun_test ty step) s (everywhere (λ t p. list_all (begun_test t p) all_symbols) refl ty step)

-- ---- what that says

or_left : (a b : Bool) → (a || b) ≡ true → a ≡ false → b ≡ true
or_left true b h e = absurd (true≢false e)
or_left false b h e = h

and_both : (a b : Bool) → (a && b) ≡ true → (a ≡ true) × (b ≡ true)
and_both true true h = (refl, refl)
and_both true false h = absurd (true≢false (sym h))
and_both false b h = absurd (true≢false (sym h))

not_true : (b : Bool) → b ≡ true → not b ≡ false
not_true b h = ap not h

not_false : (b : Bool) → not b ≡ true → b ≡ false
not_false true h = absurd (true≢false (sym h))
not_false false h = refl

some_there : (stage to : Stage) (s : Symbol) → next_stage stage s ≡ Some to → is_some (next_stage stage s) ≡ true
some_there stage to s e = ap is_some e

-- a further record
pub record IsFurther (ty : TransactionType) (step : TransactionStep) (s : Symbol) (to : Stage) : Type 0 where
  pub further : is_further ty s ≡ true
  pub inside : is_inside ty to ≡ true
  pub begun : is_before step ≡ false

pub further_goes : (ty : TransactionType) (step : TransactionStep) (s : Symbol) (to : Stage)
    → next_stage (Within ty step) s ≡ Some to → is_header_of ty s ≡ false → is_foot s ≡ false → IsFurther ty step s to
further_goes ty step s to e no_header no_foot =
    let none : (is_header_of ty s || is_foot s) ≡ false = ap (λ (b : Bool). b || is_foot s) no_header ∙ no_foot in
    let both =
    and_both (goes_inside ty s (next_stage (Within ty step) s))
    (not (is_some (next_stage (Within ty step) s)) || not (is_before step))
    (or_left (is_header_of ty s || is_foot s) _ (further_passes ty step s) none) in
    let goes : (is_further ty s && is_inside ty to) ≡ true = sym (ap (goes_inside ty s) e) ∙ both.0 in
    let parts = and_both (is_further ty s) (is_inside ty to) goes in
    record {
      further = parts.0;
      inside = parts.1;
      begun = not_false (is_before step) (or_left
          (not (is_some (next_stage (Within ty step) s))) (not (is_before step)) both.1
          (not_true _ (some_there (Within ty step) to s e)));
    }

-- inside a transaction of the type
pub inside_is : (ty : TransactionType) (to : Stage) → is_inside ty to ≡ true
    → (step : TransactionStep) × (to ≡ Within ty step) × (is_before step ≡ false)
inside_is Agreement (Within Agreement step) h = (step, refl, not_false (is_before step) h)
inside_is NewWork (Within NewWork step) h = (step, refl, not_false (is_before step) h)
inside_is RevisedWork (Within RevisedWork step) h = (step, refl, not_false (is_before step) h)
inside_is Acknowledgement (Within Acknowledgement step) h = (step, refl, not_false (is_before step) h)
inside_is ty to h = absurd (true≢false (sym h))

-- before a header the transaction is whole, if there is one
pub whole_before : (ty : TransactionType) (step : TransactionStep) (s : Symbol) (to : Stage)
    → next_stage (Within ty step) s ≡ Some to → is_header_of ty s ≡ true
    → (is_before step || is_some (next_stage (Within ty step) (Plain kinds.Grt))) ≡ true
whole_before ty step s to e h =
    or_left (not (is_some (next_stage (Within ty step) s))) _
    (or_left (not (is_header_of ty s)) _ (header_passes ty step s) (not_true _ h))
    (not_true _ (some_there (Within ty step) to s e))

begun_is : (ty : TransactionType) (to : Stage) → is_begun ty (Some to) ≡ true → to ≡ Within ty (first_step ty)
begun_is Agreement (Within Agreement steps.Agreed) h = refl
begun_is NewWork (Within NewWork steps.Work) h = refl
begun_is RevisedWork (Within RevisedWork steps.Work) h = refl
begun_is Acknowledgement (Within Acknowledgement steps.Acked) h = refl
begun_is ty to h = absurd (true≢false (sym h))

pub header_goes : (ty : TransactionType) (step : TransactionStep) (s : Symbol) (to : Stage)
    → next_stage (Within ty step) s ≡ Some to → is_header_of ty s ≡ true → to ≡ Within ty (first_step ty)
header_goes ty step s to e h =
    begun_is ty to (sym (ap (is_begun ty) e) ∙ or_left (not (is_header_of ty s)) _ (begun_passes ty step s) (not_true _ h))

-- the header's kind
pub header_is : (ty : TransactionType) (s : Symbol) → is_header_of ty s ≡ true
    → (within ty (header_step ty s) ≡ Some (Within ty (first_step ty)))
header_is Agreement (Plain kinds.Agr) h = refl
header_is NewWork (Plain kinds.Nwr) h = refl
header_is RevisedWork (Plain kinds.Rev) h = refl
header_is Acknowledgement (Plain kinds.Ack) h = refl
header_is ty s h = absurd (true≢false (sym h))

-- a foot closes the group
abbrev pub is_closed : Option Stage → Bool
is_closed None = true
is_closed (Some Closed) = true
is_closed (Some stage) = false

abbrev pub foot_test : TransactionType → TransactionStep → Bool
foot_test ty step =
    is_closed (next_stage (Within ty step) (Plain kinds.Grt))
    && (not (is_before step) || not (is_some (next_stage (Within ty step) (Plain kinds.Grt))))

foot_passes : (ty : TransactionType) (step : TransactionStep) → foot_test ty step ≡ true
foot_passes ty step = everywhere foot_test refl ty step

closed_is : (to : Stage) → is_closed (Some to) ≡ true → to ≡ Closed
closed_is Closed h = refl
closed_is to h = absurd (true≢false (sym h))

pub foot_goes : (ty : TransactionType) (step : TransactionStep) (to : Stage)
    → next_stage (Within ty step) (Plain kinds.Grt) ≡ Some to → to ≡ Closed
foot_goes ty step to e =
    closed_is to
    (sym (ap is_closed e) ∙ (and_both (is_closed (next_stage (Within ty step) (Plain kinds.Grt))) _ (foot_passes ty step)).0)

pub foot_is : (s : Symbol) → is_foot s ≡ true → s ≡ Plain kinds.Grt
foot_is (Plain kinds.Grt) h = refl
foot_is s h = absurd (true≢false (sym h))
