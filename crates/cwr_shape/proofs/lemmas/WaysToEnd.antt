-- From each stage one way to end has exactly the numbers of the table.
use Rattle.std.proofs.Common.{◌≡◌, true, List, [], ◌∷◌, ◌++◌, length, Some, refl, sym, ap, subst, ◌∙◌, true≢false, append-nil}
use Rattle.std.specs.List.{count_by}
use Rattle.std.proofs.lemmas.Bool.{and_parts}
use Rattle.cwr_fields.specs.declared.codes.Role.TheVariants.{Assignor, Acquirer}
use Rattle.cwr_fields.specs.declared.codes.TransactionType.{TransactionType}
use Rattle.cwr_fields.specs.declared.codes.TransactionType.TheVariants.{Agreement, NewWork, RevisedWork, Acknowledgement}
use Rattle.cwr_fields.specs.declared.kinds.Kind.TheVariants as kinds
use Rattle.cwr_shape.specs.declared.symbols.Symbol.{Symbol}
use Rattle.cwr_shape.specs.declared.symbols.Symbol.TheVariants.{Plain, Ipa, Grh}
use Rattle.cwr_shape.specs.declared.stages.Stage.{Stage}
use Rattle.cwr_shape.specs.declared.stages.Stage.TheVariants as stages
use Rattle.cwr_shape.specs.declared.stages.TransactionStep.{TransactionStep}
use Rattle.cwr_shape.specs.declared.stages.TransactionStep.TheVariants as steps
use Rattle.cwr_shape.specs.declared.stages.Needs.{Needs}
use Rattle.cwr_shape.specs.Format.Shapes.{Matches, pattern_of}
use Rattle.cwr_shape.specs.Format.Outlines.{IsWhole}
use Rattle.cwr_shape.specs.Format.LastSymbols.{is_grh}
use Rattle.cwr_shape.specs.Steps.Stages.{other_role}
use Rattle.cwr_shape.specs.Steps.Left.{left, left_of, rest_of, is_stage, StandsAt}
use Rattle.cwr_shape.specs.Steps.Needs.{transaction_to_come, needs_at}
use Rattle.cwr_shape.proofs.lemmas.Matcher.{nullable, nullable_complete}
use Rattle.cwr_shape.proofs.lemmas.StageRuns.{run, comes_to, comes_back}
use Rattle.cwr_shape.proofs.lemmas.StageStands.{stands_leaves}

-- ---- one way to end

-- what still comes in the transaction
abbrev pub shortest_rest : TransactionStep → List Symbol
shortest_rest steps.Agreed = Plain kinds.Ter ∷ Ipa Assignor ∷ Ipa Acquirer ∷ []
shortest_rest steps.Territories = Ipa Assignor ∷ Ipa Acquirer ∷ []
shortest_rest (steps.OneSide role) = Ipa (other_role role) ∷ []
shortest_rest steps.Work = Plain kinds.Swr ∷ []
shortest_rest steps.Controlled = Plain kinds.Swr ∷ []
shortest_rest steps.Other = Plain kinds.Swr ∷ []
shortest_rest step = []

-- the shortest transaction of a type
abbrev pub shortest : TransactionType → List Symbol
shortest Agreement = Plain kinds.Agr ∷ shortest_rest steps.Agreed
shortest NewWork = Plain kinds.Nwr ∷ shortest_rest steps.Work
shortest RevisedWork = Plain kinds.Rev ∷ shortest_rest steps.Work
shortest Acknowledgement = Plain kinds.Ack ∷ []

abbrev pub ending : List Symbol
ending = Plain kinds.Grt ∷ Plain kinds.Trl ∷ []

abbrev pub way_out : Stage → List Symbol
way_out stages.Start = Plain kinds.Hdr ∷ Grh Acknowledgement ∷ Plain kinds.Ack ∷ ending
way_out stages.Opened = Grh Acknowledgement ∷ Plain kinds.Ack ∷ ending
way_out (stages.Within ty steps.InGroup) = shortest ty ++ ending
way_out (stages.Within ty step) = shortest_rest step ++ ending
way_out stages.Closed = Plain kinds.Trl ∷ []
way_out stages.Ended = []

-- it ends
pub ends : (stage : Stage) → is_stage stage ≡ true → run stage (way_out stage) ≡ Some stages.Ended
unfolding run
ends stages.Start h = refl
ends stages.Opened h = refl
ends stages.Closed h = refl
ends stages.Ended h = refl
ends (stages.Within Agreement steps.InGroup) h = refl
ends (stages.Within Agreement steps.Agreed) h = refl
ends (stages.Within Agreement steps.Territories) h = refl
ends (stages.Within Agreement (steps.OneSide Assignor)) h = refl
ends (stages.Within Agreement (steps.OneSide Acquirer)) h = refl
ends (stages.Within Agreement steps.Both) h = refl
ends (stages.Within NewWork steps.InGroup) h = refl
ends (stages.Within NewWork steps.Work) h = refl
ends (stages.Within NewWork steps.Controlled) h = refl
ends (stages.Within NewWork steps.Other) h = refl
ends (stages.Within NewWork steps.Writer) h = refl
ends (stages.Within NewWork steps.OtherWriter) h = refl
ends (stages.Within NewWork steps.Tail) h = refl
ends (stages.Within RevisedWork steps.InGroup) h = refl
ends (stages.Within RevisedWork steps.Work) h = refl
ends (stages.Within RevisedWork steps.Controlled) h = refl
ends (stages.Within RevisedWork steps.Other) h = refl
ends (stages.Within RevisedWork steps.Writer) h = refl
ends (stages.Within RevisedWork steps.OtherWriter) h = refl
ends (stages.Within RevisedWork steps.Tail) h = refl
ends (stages.Within Acknowledgement steps.InGroup) h = refl
ends (stages.Within Acknowledgement steps.Acked) h = refl
ends (stages.Within Acknowledgement steps.Agreed) h = refl
ends (stages.Within Acknowledgement steps.Territories) h = refl
ends (stages.Within Acknowledgement (steps.OneSide Assignor)) h = refl
ends (stages.Within Acknowledgement (steps.OneSide Acquirer)) h = refl
ends (stages.Within Acknowledgement steps.Both) h = refl
ends (stages.Within Acknowledgement steps.Work) h = refl
ends (stages.Within Acknowledgement steps.Controlled) h = refl
ends (stages.Within Acknowledgement steps.Other) h = refl
ends (stages.Within Acknowledgement steps.Writer) h = refl
ends (stages.Within Acknowledgement steps.OtherWriter) h = refl
ends (stages.Within Acknowledgement steps.Tail) h = refl
ends stage h = absurd (true≢false (sym h))

-- with exactly the numbers of the table
pub record HasNeedNumbers (stage : Stage) (rest : List Symbol) (needs : Needs) : Type 0 where
  pub records : needs.records ≡ length rest
  pub groups : needs.groups ≡ count_by is_grh rest
  pub transaction : needs.transaction ≡ transaction_to_come stage rest

pub way_out_has : (stage : Stage) → is_stage stage ≡ true → HasNeedNumbers stage (way_out stage) (needs_at stage)
way_out_has stages.Start h = record { records = refl; groups = refl; transaction = refl }
way_out_has stages.Opened h = record { records = refl; groups = refl; transaction = refl }
way_out_has stages.Closed h = record { records = refl; groups = refl; transaction = refl }
way_out_has stages.Ended h = record { records = refl; groups = refl; transaction = refl }
way_out_has (stages.Within Agreement steps.InGroup) h = record { records = refl; groups = refl; transaction = refl }
way_out_has (stages.Within Agreement steps.Agreed) h = record { records = refl; groups = refl; transaction = refl }
way_out_has (stages.Within Agreement steps.Territories) h = record { records = refl; groups = refl; transaction = refl }
way_out_has (stages.Within Agreement (steps.OneSide Assignor)) h = record { records = refl; groups = refl; transaction = refl }
way_out_has (stages.Within Agreement (steps.OneSide Acquirer)) h = record { records = refl; groups = refl; transaction = refl }
way_out_has (stages.Within Agreement steps.Both) h = record { records = refl; groups = refl; transaction = refl }
way_out_has (stages.Within NewWork steps.InGroup) h = record { records = refl; groups = refl; transaction = refl }
way_out_has (stages.Within NewWork steps.Work) h = record { records = refl; groups = refl; transaction = refl }
way_out_has (stages.Within NewWork steps.Controlled) h = record { records = refl; groups = refl; transaction = refl }
way_out_has (stages.Within NewWork steps.Other) h = record { records = refl; groups = refl; transaction = refl }
way_out_has (stages.Within NewWork steps.Writer) h = record { records = refl; groups = refl; transaction = refl }
way_out_has (stages.Within NewWork steps.OtherWriter) h = record { records = refl; groups = refl; transaction = refl }
way_out_has (stages.Within NewWork steps.Tail) h = record { records = refl; groups = refl; transaction = refl }
way_out_has (stages.Within RevisedWork steps.InGroup) h = record { records = refl; groups = refl; transaction = refl }
way_out_has (stages.Within RevisedWork steps.Work) h = record { records = refl; groups = refl; transaction = refl }
way_out_has (stages.Within RevisedWork steps.Controlled) h = record { records = refl; groups = refl; transaction = refl }
way_out_has (stages.Within RevisedWork steps.Other) h = record { records = refl; groups = refl; transaction = refl }
way_out_has (stages.Within RevisedWork steps.Writer) h = record { records = refl; groups = refl; transaction = refl }
way_out_has (stages.Within RevisedWork steps.OtherWriter) h = record { records = refl; groups = refl; transaction = refl }
way_out_has (stages.Within RevisedWork steps.Tail) h = record { records = refl; groups = refl; transaction = refl }
way_out_has (stages.Within Acknowledgement steps.InGroup) h = record { records = refl; groups = refl; transaction = refl }
way_out_has (stages.Within Acknowledgement steps.Acked) h = record { records = refl; groups = refl; transaction = refl }
way_out_has (stages.Within Acknowledgement steps.Agreed) h = record { records = refl; groups = refl; transaction = refl }
way_out_has (stages.Within Acknowledgement steps.Territories) h = record { records = refl; groups = refl; transaction = refl }
way_out_has (stages.Within Acknowledgement (steps.OneSide Assignor)) h =
    record { records = refl; groups = refl; transaction = refl }
way_out_has (stages.Within Acknowledgement (steps.OneSide Acquirer)) h =
    record { records = refl; groups = refl; transaction = refl }
way_out_has (stages.Within Acknowledgement steps.Both) h = record { records = refl; groups = refl; transaction = refl }
way_out_has (stages.Within Acknowledgement steps.Work) h = record { records = refl; groups = refl; transaction = refl }
way_out_has (stages.Within Acknowledgement steps.Controlled) h = record { records = refl; groups = refl; transaction = refl }
way_out_has (stages.Within Acknowledgement steps.Other) h = record { records = refl; groups = refl; transaction = refl }
way_out_has (stages.Within Acknowledgement steps.Writer) h = record { records = refl; groups = refl; transaction = refl }
way_out_has (stages.Within Acknowledgement steps.OtherWriter) h = record { records = refl; groups = refl; transaction = refl }
way_out_has (stages.Within Acknowledgement steps.Tail) h = record { records = refl; groups = refl; transaction = refl }
way_out_has stage h = absurd (true≢false (sym h))

-- ---- runs to the end are what makes symbols whole

pub runs_whole : (xs rest : List Symbol) (stage : Stage) → StandsAt xs stage → run stage rest ≡ Some stages.Ended
    → IsWhole (xs ++ rest)
runs_whole xs rest stage st e =
    let here = stands_leaves xs stage st in
    let matched : Matches (left stage) (rest ++ []) = comes_back stage rest [] stages.Ended here.real e ([], refl, tt) in
    (here.leaves rest).1 (subst (Matches (left stage)) (append-nil rest) matched)

-- only at the end nothing more need come
ended_only : (to : Stage) → nullable (left to) ≡ true → to ≡ stages.Ended
unfolding nullable
ended_only stages.Start h = absurd (true≢false (sym h))
ended_only stages.Opened h = absurd (true≢false (sym h))
ended_only stages.Closed h = absurd (true≢false (sym h))
ended_only stages.Ended h = refl
ended_only (stages.Within ty steps.InGroup) h =
    absurd (true≢false (sym (and_parts (nullable (pattern_of ty)) (nullable (rest_of ty)) h).1))
ended_only (stages.Within ty step) h = absurd (true≢false (sym (and_parts (nullable (left_of step)) (nullable (rest_of ty)) h).1))

pub whole_runs : (xs rest : List Symbol) (stage : Stage) → StandsAt xs stage → IsWhole (xs ++ rest)
    → run stage rest ≡ Some stages.Ended
whole_runs xs rest stage st w =
    let here = stands_leaves xs stage st in
    let come = comes_to stage rest [] here.real (subst (Matches (left stage)) (sym (append-nil rest)) ((here.leaves rest).0 w)) in
    come.is ∙ ap Some (ended_only come.to (nullable_complete (left come.to) come.left_there))
