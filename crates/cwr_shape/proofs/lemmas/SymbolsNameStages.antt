-- What the last symbols say of their stage, and what one more symbol changes in that.
use Rattle.std.proofs.Common.{◌≡◌, Bool, true, false, cond, not, ◌&&◌, ◌||◌, List, [], ◌∷◌, ◌++◌, Option, Some, refl, sym, ap}
use Rattle.std.proofs.Common.{◌∙◌, true≢false}
use Rattle.std.specs.List.{list_any, after_last}
use Rattle.std.proofs.lemmas.Bool.{and_parts}
use Rattle.std.proofs.lemmas.List.Folds.{list_any-append}
use Rattle.cwr_fields.specs.declared.codes.Role.{Role}
use Rattle.cwr_fields.specs.declared.codes.Role.TheVariants.{Assignor, Acquirer}
use Rattle.cwr_fields.specs.declared.codes.TransactionType.{TransactionType}
use Rattle.cwr_fields.specs.declared.codes.TransactionType.TheVariants.{Agreement, NewWork, RevisedWork, Acknowledgement}
use Rattle.cwr_fields.specs.declared.kinds.Kind.TheVariants as kinds
use Rattle.cwr_shape.specs.declared.symbols.Symbol.{Symbol}
use Rattle.cwr_shape.specs.declared.symbols.Symbol.TheVariants.{Plain, Ipa, Grh}
use Rattle.cwr_shape.specs.declared.stages.Stage.{Stage}
use Rattle.cwr_shape.specs.declared.stages.Stage.TheVariants as stages
use Rattle.cwr_shape.specs.declared.stages.TransactionStep.{TransactionStep}
use Rattle.cwr_shape.specs.declared.stages.TransactionStep.TheVariants as steps
use Rattle.cwr_shape.specs.Format.LastSymbols.{is_grh, latest, group_of}
use Rattle.cwr_shape.specs.Steps.Stages.{is_ipa, is_ipa_of, is_writer, pwr_step, step_after, stage_by}
use Rattle.cwr_shape.proofs.lemmas.OneMore.{after_last-snoc}

-- ---- tests of sameness

unfoldable pub same_type : TransactionType → TransactionType → Bool
same_type Agreement Agreement = true
same_type NewWork NewWork = true
same_type RevisedWork RevisedWork = true
same_type Acknowledgement Acknowledgement = true
same_type t u = false

same_type_sound : (t u : TransactionType) → same_type t u ≡ true → t ≡ u
unfolding same_type
same_type_sound Agreement Agreement h = refl
same_type_sound NewWork NewWork h = refl
same_type_sound RevisedWork RevisedWork h = refl
same_type_sound Acknowledgement Acknowledgement h = refl
same_type_sound t u h = absurd (true≢false (sym h))

unfoldable pub same_step : TransactionStep → TransactionStep → Bool
same_step steps.InGroup steps.InGroup = true
same_step steps.Acked steps.Acked = true
same_step steps.Agreed steps.Agreed = true
same_step steps.Territories steps.Territories = true
same_step (steps.OneSide Assignor) (steps.OneSide Assignor) = true
same_step (steps.OneSide Acquirer) (steps.OneSide Acquirer) = true
same_step steps.Both steps.Both = true
same_step steps.Work steps.Work = true
same_step steps.Controlled steps.Controlled = true
same_step steps.Other steps.Other = true
same_step steps.Writer steps.Writer = true
same_step steps.OtherWriter steps.OtherWriter = true
same_step steps.Tail steps.Tail = true
same_step t u = false

same_step_sound : (t u : TransactionStep) → same_step t u ≡ true → t ≡ u
unfolding same_step
same_step_sound steps.InGroup steps.InGroup h = refl
same_step_sound steps.Acked steps.Acked h = refl
same_step_sound steps.Agreed steps.Agreed h = refl
same_step_sound steps.Territories steps.Territories h = refl
same_step_sound (steps.OneSide Assignor) (steps.OneSide Assignor) h = refl
same_step_sound (steps.OneSide Acquirer) (steps.OneSide Acquirer) h = refl
same_step_sound steps.Both steps.Both h = refl
same_step_sound steps.Work steps.Work h = refl
same_step_sound steps.Controlled steps.Controlled h = refl
same_step_sound steps.Other steps.Other h = refl
same_step_sound steps.Writer steps.Writer h = refl
same_step_sound steps.OtherWriter steps.OtherWriter h = refl
same_step_sound steps.Tail steps.Tail h = refl
same_step_sound t u h = absurd (true≢false (sym h))

unfoldable pub same_stage : Stage → Stage → Bool
same_stage stages.Start stages.Start = true
same_stage stages.Opened stages.Opened = true
same_stage (stages.Within t p) (stages.Within u q) = same_type t u && same_step p q
same_stage stages.Closed stages.Closed = true
same_stage stages.Ended stages.Ended = true
same_stage t u = false

within_same : (t u : TransactionType) (p q : TransactionStep) → t ≡ u → p ≡ q → stages.Within t p ≡ stages.Within u q
within_same t u p q e f = cc (e, f)

pub same_stage_sound : (t u : Stage) → same_stage t u ≡ true → t ≡ u
unfolding same_stage
same_stage_sound stages.Start stages.Start h = refl
same_stage_sound stages.Opened stages.Opened h = refl
same_stage_sound (stages.Within t p) (stages.Within u q) h =
    let b = and_parts (same_type t u) (same_step p q) h in within_same t u p q (same_type_sound t u b.0) (same_step_sound p q b.1)
same_stage_sound stages.Closed stages.Closed h = refl
same_stage_sound stages.Ended stages.Ended h = refl
same_stage_sound t u h = absurd (true≢false (sym h))

unfoldable pub same_bool : Bool → Bool → Bool
same_bool true true = true
same_bool false false = true
same_bool a b = false

pub same_bool_sound : (a b : Bool) → same_bool a b ≡ true → a ≡ b
unfolding same_bool
same_bool_sound true true h = refl
same_bool_sound false false h = refl
same_bool_sound a b h = absurd (true≢false (sym h))

-- ---- what symbols say of their stage

-- the last writer is one whom the submitter doesn't control
abbrev pub other_writer : Option Symbol → Bool
other_writer (Some (Plain kinds.Owr)) = true
other_writer w = false

-- the parties at the end have one of the role
abbrev pub side : Role → List Symbol → Bool
side role xs = list_any (is_ipa_of role) (after_last (λ s. not (is_ipa s)) xs)

-- the stage after a symbol, by the group's type, the last writer, and the sides of the parties at the end
unfoldable pub name_of : Symbol → TransactionType → Bool → Bool → Bool → Stage
name_of (Plain kinds.Hdr) ty o a b = stages.Opened
name_of (Grh t) ty o a b = stages.Within t steps.InGroup
name_of (Plain kinds.Grt) ty o a b = stages.Closed
name_of (Plain kinds.Trl) ty o a b = stages.Ended
name_of (Ipa Assignor) ty o a b = stages.Within ty (cond b steps.Both (steps.OneSide Assignor))
name_of (Ipa Acquirer) ty o a b = stages.Within ty (cond a steps.Both (steps.OneSide Acquirer))
name_of (Plain kinds.Pwr) ty o a b = stages.Within ty (cond o steps.OtherWriter steps.Writer)
name_of s ty o a b = stages.Within ty (step_after s [])

pwr_by : (w : Option Symbol) → pwr_step w ≡ cond (other_writer w) steps.OtherWriter steps.Writer
pwr_by (Some (Plain kinds.Owr)) = refl
pwr_by w = refl

pub named : (s : Symbol) (ys : List Symbol)
    → stage_by (Some s) ys
    ≡ name_of s (group_of (latest is_grh ys)) (other_writer (latest is_writer ys)) (side Assignor ys) (side Acquirer ys)
unfolding name_of
named (Plain kinds.Pwr) ys = ap (stages.Within (group_of (latest is_grh ys))) (pwr_by (latest is_writer ys))
named (Ipa Assignor) ys = refl
named (Ipa Acquirer) ys = refl
named (Grh t) ys = refl
named (Plain kinds.Hdr) ys = refl
named (Plain kinds.Grt) ys = refl
named (Plain kinds.Trl) ys = refl
named s ys = refl

-- ---- one more symbol

-- the type of the group, the last writer and the sides, with one more symbol
abbrev pub type_next : Symbol → TransactionType → TransactionType
type_next (Grh t) ty = t
type_next s ty = ty

abbrev pub writer_next : Symbol → Bool → Bool
writer_next (Plain kinds.Swr) o = false
writer_next (Plain kinds.Owr) o = true
writer_next s o = o

abbrev pub side_next : Role → Symbol → Bool → Bool
side_next role s a = cond (is_ipa s) (a || is_ipa_of role s) false

pub type_more : (s : Symbol) (g : Option Symbol) → group_of (cond (is_grh s) (Some s) g) ≡ type_next s (group_of g)
type_more (Grh t) g = refl
type_more s g = refl

pub writer_more : (s : Symbol) (w : Option Symbol) → other_writer (cond (is_writer s) (Some s) w) ≡ writer_next s (other_writer w)
writer_more (Plain kinds.Swr) w = refl
writer_more (Plain kinds.Owr) w = refl
writer_more s w = refl

abbrev is_other : Symbol → Bool
is_other s = not (is_ipa s)

side_by : (role : Role) (xs : List Symbol) (s : Symbol) (b : Bool)
    → after_last is_other (xs ++ s ∷ []) ≡ cond (not b) [] (after_last is_other xs ++ s ∷ [])
    → side role (xs ++ s ∷ []) ≡ cond b (side role xs || is_ipa_of role s) false
side_by role xs s true e =
    ap (list_any (is_ipa_of role)) e ∙ list_any-append (is_ipa_of role) (after_last is_other xs) (s ∷ [])
    ∙ ap (λ (b : Bool). side role xs || b) (or_false (is_ipa_of role s))
  where
    or_false : (b : Bool) → (b || false) ≡ b
    or_false true = refl
    or_false false = refl
side_by role xs s false e = ap (list_any (is_ipa_of role)) e

pub side-snoc : (role : Role) (xs : List Symbol) (s : Symbol) → side role (xs ++ s ∷ []) ≡ side_next role s (side role xs)
side-snoc role xs s = side_by role xs s (is_ipa s) (after_last-snoc is_other xs s)
