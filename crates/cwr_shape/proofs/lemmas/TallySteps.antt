-- A tally that represents some symbols represents one more, expects the numbers of each transmission that continues so, and bars what may not come.
use Rattle.std.proofs.Common.{◌≡◌, ℕ, Bool, true, false, cond, List, [], ◌∷◌, ◌++◌, length, Option, Some, None, refl, sym, ap}
use Rattle.std.proofs.Common.{subst, ◌∙◌, true≢false}
use Rattle.std.specs.Prelude.{is_some, slice_index_or}
use Rattle.std.specs.List.{filter, last_or}
use Rattle.cwr_fields.specs.declared.codes.TransactionType.{TransactionType}
use Rattle.cwr_fields.specs.declared.codes.TransactionType.TheVariants.{Agreement, NewWork, RevisedWork, Acknowledgement}
use Rattle.cwr_fields.specs.declared.kinds.Kind.{Kind}
use Rattle.cwr_fields.specs.declared.kinds.Kind.TheVariants as kinds
use Rattle.cwr_shape.specs.declared.symbols.Symbol.{Symbol}
use Rattle.cwr_fields.specs.Format.Kinds.{is_carried}
use Rattle.cwr_shape.specs.declared.symbols.Symbol.TheVariants.{Plain, Ipa, Grh}
use Rattle.cwr_shape.specs.declared.stages.Stage.{Stage}
use Rattle.cwr_shape.specs.declared.stages.Stage.TheVariants as stages
use Rattle.cwr_shape.specs.declared.stages.TransactionStep.{TransactionStep}
use Rattle.cwr_shape.specs.declared.tallies.Counts.{Counts}
use Rattle.cwr_shape.specs.Format.Outlines.{Continues, IsWithin}
use Rattle.cwr_shape.specs.Format.Numbers.{symbol_kind, number_in, numbers_of, lengths_of, IsNumberAt}
use Rattle.cwr_shape.specs.declared.stages.TransactionStep.TheVariants as steps
use Rattle.cwr_shape.specs.Format.Shapes.{without_carried}
use Rattle.cwr_shape.specs.Format.LastSymbols.{is_grh, group_of}
use Rattle.cwr_shape.specs.Steps.Stages.{step_after, stage_by}
use Rattle.cwr_shape.specs.Steps.NextStages.{next_stage}
use Rattle.cwr_shape.specs.Format.AnyTransmission.{Any}
use Rattle.cwr_shape.specs.Steps.Left.{StandsAt}
use Rattle.cwr_shape.specs.Format.NextSymbols.{is_header_of, open_type, counts_of}
use Rattle.cwr_shape.specs.Steps.Tallies.{TallyValue, IsTallyOf}
use Rattle.cwr_shape.specs.Format.ExpectedNumbers.{expected_numbers}
use Rattle.cwr_shape.specs.Steps.Counting.{stage_type, counts_with, counts_with_header, counts_with_other}
use Rattle.cwr_shape.proofs.lemmas.Matcher.{without-cons}
use Rattle.cwr_shape.proofs.lemmas.StageStands.{next_exact}
use Rattle.cwr_shape.proofs.lemmas.OneMore.{counts-snoc}
use Rattle.cwr_shape.proofs.lemmas.NumbersAreCounted.{numbers_counted}

-- ---- the type of the open group is the stage's

type_at_last : (o p : Option Symbol) (xs : List Symbol) (t : TransactionType) → (o ≡ Some (Grh t) → group_of p ≡ t)
    → last_or o xs ≡ Some (Grh t) → group_of (last_or p (filter is_grh xs)) ≡ t
type_at_last o p [] t h e = h e
type_at_last o p (Grh u ∷ xs) t h e = type_at_last (Some (Grh u)) (Some (Grh u)) xs t one_type e
  where
    one_type : Some (Grh u) ≡ Some (Grh t) → u ≡ t
    one_type k = cc k
type_at_last o p (s ∷ xs) t h e = type_at_last (Some s) p xs t (λ k. absurd (cc k)) e

one_type : (t u : TransactionType) (p q : TransactionStep) → stages.Within t p ≡ stages.Within u q → t ≡ u
one_type t u p q e = cc e

-- what a stage says of its type
pub says_type : (o : Option Symbol) (xs : List Symbol) (ty : TransactionType) (step : TransactionStep) → last_or None xs ≡ o
    → stages.Within ty step ≡ stage_by o xs → ty ≡ open_type xs
says_type None xs ty step l e = absurd (cc e)
says_type (Some (Plain kinds.Hdr)) xs ty step l e = absurd (cc e)
says_type (Some (Plain kinds.Grt)) xs ty step l e = absurd (cc e)
says_type (Some (Plain kinds.Trl)) xs ty step l e = absurd (cc e)
says_type (Some (Grh t)) xs ty step l e =
    one_type ty t step steps.InGroup e ∙ sym (type_at_last None None xs t (λ k. absurd (cc k)) l)
says_type (Some s) xs ty step l e = one_type ty (open_type xs) step (step_after s xs) e

-- the last GRH is no carried record
grh_there : (xs : List Symbol) → filter is_grh (without_carried xs) ≡ filter is_grh xs
grh_there [] = refl
grh_there (Grh t ∷ xs) = ap (λ (l : List Symbol). Grh t ∷ l) (grh_there xs)
grh_there (Ipa role ∷ xs) = grh_there xs
grh_there (Plain kind ∷ xs) =
    ap (filter is_grh) (without-cons (Plain kind) xs (is_carried kind) refl) ∙ by (is_carried kind) ∙ grh_there xs
  where
    by : (b : Bool)
        → filter is_grh (cond b (without_carried xs) (Plain kind ∷ without_carried xs)) ≡ filter is_grh (without_carried xs)
    by true = refl
    by false = refl

-- the type of the group in which symbols stand
pub stands_type : (xs : List Symbol) (ty : TransactionType) (step : TransactionStep) → StandsAt xs (stages.Within ty step)
    → ty ≡ open_type xs
stands_type xs ty step st =
    says_type (last_or None (without_carried xs)) (without_carried xs) ty step refl st.named
    ∙ ap (λ (l : List Symbol). group_of (last_or None l)) (grh_there xs)

-- with the one type and with the other the next record is counted alike
record Alike (t u : TransactionType) (c : Counts) (s : Symbol) : Type 0 where
  numbers : expected_numbers t c (symbol_kind s) ≡ expected_numbers u c (symbol_kind s)
  counts : counts_with t c s ≡ counts_with u c s

header_no_header : (ty : TransactionType) → is_header_of ty (Plain kinds.Hdr) ≡ false
header_no_header Agreement = refl
header_no_header NewWork = refl
header_no_header RevisedWork = refl
header_no_header Acknowledgement = refl

trailer_no_header : (ty : TransactionType) → is_header_of ty (Plain kinds.Trl) ≡ false
trailer_no_header Agreement = refl
trailer_no_header NewWork = refl
trailer_no_header RevisedWork = refl
trailer_no_header Acknowledgement = refl

alike_plain : (t u : TransactionType) (c : Counts) (kind : Kind) → expected_numbers t c kind ≡ expected_numbers u c kind
    → is_header_of t (Plain kind) ≡ false → is_header_of u (Plain kind) ≡ false → Alike t u c (Plain kind)
alike_plain t u c kind n e f = record {
  numbers = n;
  counts = by_test (is_header_of t (Plain kind)) e ∙ sym (by_test (is_header_of u (Plain kind)) f);
}
  where
    by_test : (b : Bool) → b ≡ false → cond b (counts_with_header c) (counts_with_other c) ≡ counts_with_other c
    by_test b h = ap (λ (d : Bool). cond d (counts_with_header c) (counts_with_other c)) h

alike : (xs : List Symbol) (stage : Stage) (s : Symbol) (c : Counts) → StandsAt xs stage → is_some (next_stage stage s) ≡ true
    → Alike (stage_type stage) (open_type xs) c s
alike xs (stages.Within ty step) s c st h =
    subst (λ (t : TransactionType). Alike ty t c s) (stands_type xs ty step st) (record { numbers = refl; counts = refl })
alike xs stages.Start (Plain kinds.Hdr) c st h =
    alike_plain Acknowledgement (open_type xs) c kinds.Hdr refl refl (header_no_header (open_type xs))
alike xs stages.Opened (Grh t) c st h = record { numbers = refl; counts = refl }
alike xs stages.Closed (Grh t) c st h = record { numbers = refl; counts = refl }
alike xs stages.Closed (Plain kinds.Trl) c st h =
    alike_plain Acknowledgement (open_type xs) c kinds.Trl refl refl (trailer_no_header (open_type xs))
alike xs stage s c st h = absurd (true≢false (sym h))

-- ---- one more symbol

-- counted with the code's type
pub counted_next : (t : TallyValue) (xs : List Symbol) (s : Symbol) → IsTallyOf t xs → is_some (next_stage t.stage s) ≡ true
    → counts_with (stage_type t.stage) t.counts s ≡ counts_of (xs ++ s ∷ [])
counted_next t xs s st h =
    (alike xs t.stage s t.counts st.stands h).counts ∙ ap (λ (c : Counts). counts_with (open_type xs) c s) st.counted
    ∙ counts-snoc xs s

-- what continues has a next stage
pub goes_next : (t : TallyValue) (xs : List Symbol) (s : Symbol) → IsTallyOf t xs → Continues Any (xs ++ s ∷ [])
    → is_some (next_stage t.stage s) ≡ true
goes_next t xs s st g = (next_exact xs t.stage s (next_stage t.stage s) refl st.stands).1 g

pub stands_next : (t next : TallyValue) (xs : List Symbol) (s : Symbol) → IsTallyOf t xs → StandsAt (xs ++ s ∷ []) next.stage
    → is_some (next_stage t.stage s) ≡ true
    → next.counts ≡ counts_with (stage_type t.stage) t.counts s → Continues (IsWithin next.limits) (xs ++ s ∷ [])
    → IsTallyOf next (xs ++ s ∷ [])
stands_next t next xs s st on h e w = record { stands = on; counted = e ∙ counted_next t xs s st h; within = w }

-- the numbers of each transmission that continues so
pub expects_numbers : (t : TallyValue) (xs : List Symbol) (kind : Kind) (j : ℕ) (n : Option ℕ) → IsTallyOf t xs
    → n ≡ number_in kind j (expected_numbers (stage_type t.stage) t.counts kind) → IsNumberAt xs kind j n
expects_numbers t xs kind j n st e groups s rest h split k =
    let goes : Continues Any (xs ++ s ∷ []) = (groups, h, tt, (rest, split ∙ sym (appended xs s rest))) in
    let here = (alike xs t.stage s t.counts st.stands (goes_next t xs s st goes)).numbers in
    let same : expected_numbers (stage_type t.stage) t.counts kind
    ≡ slice_index_or (numbers_of (lengths_of groups)) (length xs) []
    = ap (expected_numbers (stage_type t.stage) t.counts) (sym k) ∙ here
    ∙ ap (λ (c : Counts). expected_numbers (open_type xs) c (symbol_kind s)) st.counted
    ∙ sym (numbers_counted groups xs s rest h split) in
    e ∙ ap (number_in kind j) same
  where
    appended : (ys : List Symbol) (t : Symbol) (zs : List Symbol) → (ys ++ t ∷ []) ++ zs ≡ ys ++ (t ∷ zs)
    appended [] t zs = refl
    appended (y ∷ ys) t zs = ap (λ (l : List Symbol). y ∷ l) (appended ys t zs)
