-- What is left of a transmission at each stage, as a pattern, and that the table of stages follows it.
use Rattle.std.proofs.Common.{◌≡◌, Bool, true, ◌&&◌, List, ◌∷◌, Option, Some, None, refl, sym, subst, true≢false}
use Rattle.std.specs.List.{list_all}
use Rattle.std.proofs.lemmas.Bool.{and_parts}
use Rattle.cwr_fields.specs.declared.codes.Role.TheVariants.{Assignor, Acquirer}
use Rattle.cwr_fields.specs.declared.codes.TransactionType.TheVariants.{Agreement, NewWork, RevisedWork, Acknowledgement}
use Rattle.cwr_shape.specs.declared.symbols.Symbol.{Symbol}
use Rattle.cwr_shape.specs.declared.stages.Stage.{Stage}
use Rattle.cwr_shape.specs.declared.stages.Stage.TheVariants as stages
use Rattle.cwr_shape.specs.declared.stages.TransactionStep.TheVariants as steps
use Rattle.cwr_shape.specs.Format.Shapes.{Pattern, Matches}
use Rattle.cwr_shape.specs.Steps.NextStages.{next_stage}
use Rattle.cwr_shape.specs.Steps.Left.{is_stage, left}
use Rattle.cwr_shape.proofs.lemmas.AllSymbols.{all_symbols, of_each}
use Rattle.cwr_shape.proofs.lemmas.Matcher.{nullable, after, is_dead, dead_sound}
use Rattle.cwr_shape.proofs.lemmas.NormalForms.{same_list, same, same_sound, seq, contains, insert, alt, both, carry, norm, norm_alike}
use Rattle.cwr_shape.proofs.lemmas.NormalForms.{follows}

-- what the pattern leaves is what is left at the stage; no stage, and nothing is
unfoldable pub leads : Option Stage → Pattern → Bool
leads None p = is_dead p
leads (Some stage) p = same p (norm (left stage)) && is_stage stage

unfoldable pub follows_table : Stage → Symbol → Bool
follows_table stage s = leads (next_stage stage s) (norm (after s (left stage)))

abbrev AllFollow : Stage → Type 0
AllFollow stage = list_all (follows_table stage) all_symbols ≡ true

start_follows : AllFollow stages.Start
unfolding follows_table leads nullable after is_dead same_list same seq contains insert alt both carry norm
start_follows = refl

opened_follows : AllFollow stages.Opened
unfolding follows_table leads nullable after is_dead same_list same seq contains insert alt both carry norm
opened_follows = refl

closed_follows : AllFollow stages.Closed
unfolding follows_table leads nullable after is_dead same_list same seq contains insert alt both carry norm
closed_follows = refl

ended_follows : AllFollow stages.Ended
unfolding follows_table leads nullable after is_dead same_list same seq contains insert alt both carry norm
ended_follows = refl

agreement_ingroup_follows : AllFollow (stages.Within Agreement steps.InGroup)
unfolding follows_table leads nullable after is_dead same_list same seq contains insert alt both carry norm
agreement_ingroup_follows = refl

agreement_agreed_follows : AllFollow (stages.Within Agreement steps.Agreed)
unfolding follows_table leads nullable after is_dead same_list same seq contains insert alt both carry norm
agreement_agreed_follows = refl

agreement_territories_follows : AllFollow (stages.Within Agreement steps.Territories)
unfolding follows_table leads nullable after is_dead same_list same seq contains insert alt both carry norm
agreement_territories_follows = refl

agreement_side_assignor_follows : AllFollow (stages.Within Agreement (steps.OneSide Assignor))
unfolding follows_table leads nullable after is_dead same_list same seq contains insert alt both carry norm
agreement_side_assignor_follows = refl

agreement_side_acquirer_follows : AllFollow (stages.Within Agreement (steps.OneSide Acquirer))
unfolding follows_table leads nullable after is_dead same_list same seq contains insert alt both carry norm
agreement_side_acquirer_follows = refl

agreement_both_follows : AllFollow (stages.Within Agreement steps.Both)
unfolding follows_table leads nullable after is_dead same_list same seq contains insert alt both carry norm
agreement_both_follows = refl

newwork_ingroup_follows : AllFollow (stages.Within NewWork steps.InGroup)
unfolding follows_table leads nullable after is_dead same_list same seq contains insert alt both carry norm
newwork_ingroup_follows = refl

newwork_work_follows : AllFollow (stages.Within NewWork steps.Work)
unfolding follows_table leads nullable after is_dead same_list same seq contains insert alt both carry norm
newwork_work_follows = refl

newwork_controlled_follows : AllFollow (stages.Within NewWork steps.Controlled)
unfolding follows_table leads nullable after is_dead same_list same seq contains insert alt both carry norm
newwork_controlled_follows = refl

newwork_other_follows : AllFollow (stages.Within NewWork steps.Other)
unfolding follows_table leads nullable after is_dead same_list same seq contains insert alt both carry norm
newwork_other_follows = refl

newwork_writer_follows : AllFollow (stages.Within NewWork steps.Writer)
unfolding follows_table leads nullable after is_dead same_list same seq contains insert alt both carry norm
newwork_writer_follows = refl

newwork_otherwriter_follows : AllFollow (stages.Within NewWork steps.OtherWriter)
unfolding follows_table leads nullable after is_dead same_list same seq contains insert alt both carry norm
newwork_otherwriter_follows = refl

newwork_tail_follows : AllFollow (stages.Within NewWork steps.Tail)
unfolding follows_table leads nullable after is_dead same_list same seq contains insert alt both carry norm
newwork_tail_follows = refl

revisedwork_ingroup_follows : AllFollow (stages.Within RevisedWork steps.InGroup)
unfolding follows_table leads nullable after is_dead same_list same seq contains insert alt both carry norm
revisedwork_ingroup_follows = refl

revisedwork_work_follows : AllFollow (stages.Within RevisedWork steps.Work)
unfolding follows_table leads nullable after is_dead same_list same seq contains insert alt both carry norm
revisedwork_work_follows = refl

revisedwork_controlled_follows : AllFollow (stages.Within RevisedWork steps.Controlled)
unfolding follows_table leads nullable after is_dead same_list same seq contains insert alt both carry norm
revisedwork_controlled_follows = refl

revisedwork_other_follows : AllFollow (stages.Within RevisedWork steps.Other)
unfolding follows_table leads nullable after is_dead same_list same seq contains insert alt both carry norm
revisedwork_other_follows = refl

revisedwork_writer_follows : AllFollow (stages.Within RevisedWork steps.Writer)
unfolding follows_table leads nullable after is_dead same_list same seq contains insert alt both carry norm
revisedwork_writer_follows = refl

revisedwork_otherwriter_follows : AllFollow (stages.Within RevisedWork steps.OtherWriter)
unfolding follows_table leads nullable after is_dead same_list same seq contains insert alt both carry norm
revisedwork_otherwriter_follows = refl

revisedwork_tail_follows : AllFollow (stages.Within RevisedWork steps.Tail)
unfolding follows_table leads nullable after is_dead same_list same seq contains insert alt both carry norm
revisedwork_tail_follows = refl

acknowledgement_ingroup_follows : AllFollow (stages.Within Acknowledgement steps.InGroup)
unfolding follows_table leads nullable after is_dead same_list same seq contains insert alt both carry norm
acknowledgement_ingroup_follows = refl

acknowledgement_acked_follows : AllFollow (stages.Within Acknowledgement steps.Acked)
unfolding follows_table leads nullable after is_dead same_list same seq contains insert alt both carry norm
acknowledgement_acked_follows = refl

acknowledgement_agreed_follows : AllFollow (stages.Within Acknowledgement steps.Agreed)
unfolding follows_table leads nullable after is_dead same_list same seq contains insert alt both carry norm
acknowledgement_agreed_follows = refl

acknowledgement_territories_follows : AllFollow (stages.Within Acknowledgement steps.Territories)
unfolding follows_table leads nullable after is_dead same_list same seq contains insert alt both carry norm
acknowledgement_territories_follows = refl

acknowledgement_side_assignor_follows : AllFollow (stages.Within Acknowledgement (steps.OneSide Assignor))
unfolding follows_table leads nullable after is_dead same_list same seq contains insert alt both carry norm
acknowledgement_side_assignor_follows = refl

acknowledgement_side_acquirer_follows : AllFollow (stages.Within Acknowledgement (steps.OneSide Acquirer))
unfolding follows_table leads nullable after is_dead same_list same seq contains insert alt both carry norm
acknowledgement_side_acquirer_follows = refl

acknowledgement_both_follows : AllFollow (stages.Within Acknowledgement steps.Both)
unfolding follows_table leads nullable after is_dead same_list same seq contains insert alt both carry norm
acknowledgement_both_follows = refl

acknowledgement_work_follows : AllFollow (stages.Within Acknowledgement steps.Work)
unfolding follows_table leads nullable after is_dead same_list same seq contains insert alt both carry norm
acknowledgement_work_follows = refl

acknowledgement_controlled_follows : AllFollow (stages.Within Acknowledgement steps.Controlled)
unfolding follows_table leads nullable after is_dead same_list same seq contains insert alt both carry norm
acknowledgement_controlled_follows = refl

acknowledgement_other_follows : AllFollow (stages.Within Acknowledgement steps.Other)
unfolding follows_table leads nullable after is_dead same_list same seq contains insert alt both carry norm
acknowledgement_other_follows = refl

acknowledgement_writer_follows : AllFollow (stages.Within Acknowledgement steps.Writer)
unfolding follows_table leads nullable after is_dead same_list same seq contains insert alt both carry norm
acknowledgement_writer_follows = refl

acknowledgement_otherwriter_follows : AllFollow (stages.Within Acknowledgement steps.OtherWriter)
unfolding follows_table leads nullable after is_dead same_list same seq contains insert alt both carry norm
acknowledgement_otherwriter_follows = refl

acknowledgement_tail_follows : AllFollow (stages.Within Acknowledgement steps.Tail)
unfolding follows_table leads nullable after is_dead same_list same seq contains insert alt both carry norm
acknowledgement_tail_follows = refl

-- at each stage the table follows the patterns
all_follow : (stage : Stage) → is_stage stage ≡ true → AllFollow stage
all_follow stages.Start h = start_follows
all_follow stages.Opened h = opened_follows
all_follow stages.Closed h = closed_follows
all_follow stages.Ended h = ended_follows
all_follow (stages.Within Agreement steps.InGroup) h = agreement_ingroup_follows
all_follow (stages.Within Agreement steps.Agreed) h = agreement_agreed_follows
all_follow (stages.Within Agreement steps.Territories) h = agreement_territories_follows
all_follow (stages.Within Agreement (steps.OneSide Assignor)) h = agreement_side_assignor_follows
all_follow (stages.Within Agreement (steps.OneSide Acquirer)) h = agreement_side_acquirer_follows
all_follow (stages.Within Agreement steps.Both) h = agreement_both_follows
all_follow (stages.Within NewWork steps.InGroup) h = newwork_ingroup_follows
all_follow (stages.Within NewWork steps.Work) h = newwork_work_follows
all_follow (stages.Within NewWork steps.Controlled) h = newwork_controlled_follows
all_follow (stages.Within NewWork steps.Other) h = newwork_other_follows
all_follow (stages.Within NewWork steps.Writer) h = newwork_writer_follows
all_follow (stages.Within NewWork steps.OtherWriter) h = newwork_otherwriter_follows
all_follow (stages.Within NewWork steps.Tail) h = newwork_tail_follows
all_follow (stages.Within RevisedWork steps.InGroup) h = revisedwork_ingroup_follows
all_follow (stages.Within RevisedWork steps.Work) h = revisedwork_work_follows
all_follow (stages.Within RevisedWork steps.Controlled) h = revisedwork_controlled_follows
all_follow (stages.Within RevisedWork steps.Other) h = revisedwork_other_follows
all_follow (stages.Within RevisedWork steps.Writer) h = revisedwork_writer_follows
all_follow (stages.Within RevisedWork steps.OtherWriter) h = revisedwork_otherwriter_follows
all_follow (stages.Within RevisedWork steps.Tail) h = revisedwork_tail_follows
all_follow (stages.Within Acknowledgement steps.InGroup) h = acknowledgement_ingroup_follows
all_follow (stages.Within Acknowledgement steps.Acked) h = acknowledgement_acked_follows
all_follow (stages.Within Acknowledgement steps.Agreed) h = acknowledgement_agreed_follows
all_follow (stages.Within Acknowledgement steps.Territories) h = acknowledgement_territories_follows
all_follow (stages.Within Acknowledgement (steps.OneSide Assignor)) h = acknowledgement_side_assignor_follows
all_follow (stages.Within Acknowledgement (steps.OneSide Acquirer)) h = acknowledgement_side_acquirer_follows
all_follow (stages.Within Acknowledgement steps.Both) h = acknowledgement_both_follows
all_follow (stages.Within Acknowledgement steps.Work) h = acknowledgement_work_follows
all_follow (stages.Within Acknowledgement steps.Controlled) h = acknowledgement_controlled_follows
all_follow (stages.Within Acknowledgement steps.Other) h = acknowledgement_other_follows
all_follow (stages.Within Acknowledgement steps.Writer) h = acknowledgement_writer_follows
all_follow (stages.Within Acknowledgement steps.OtherWriter) h = acknowledgement_otherwriter_follows
all_follow (stages.Within Acknowledgement steps.Tail) h = acknowledgement_tail_follows
all_follow stage h = absurd (true≢false (sym h))

-- what follows a symbol at a stage is what is left at the next
pub record Goes (stage : Stage) (s : Symbol) (xs : List Symbol) : Type 0 where
  pub to : Stage
  pub is : next_stage stage s ≡ Some to
  pub real : is_stage to ≡ true
  pub left_there : Matches (left to) xs

goes_by : (stage : Stage) (s : Symbol) (xs : List Symbol) (o : Option Stage) → next_stage stage s ≡ o
    → leads o (norm (after s (left stage))) ≡ true → Matches (norm (after s (left stage))) xs → Goes stage s xs
unfolding leads
goes_by stage s xs None e h m = absurd (dead_sound (norm (after s (left stage))) xs h m)
goes_by stage s xs (Some to) e h m =
    let b = and_parts (same (norm (after s (left stage))) (norm (left to))) (is_stage to) h in
    let form : norm (after s (left stage)) ≡ norm (left to) = same_sound _ _ b.0 in
    record
    { to = to; is = e; real = b.1; left_there = (norm_alike (left to) xs).0 (subst (λ (p : Pattern). Matches p xs) form m) }

followed : (stage : Stage) (s : Symbol) → is_stage stage ≡ true → leads (next_stage stage s) (norm (after s (left stage))) ≡ true
unfolding follows_table
followed stage s real = of_each (follows_table stage) s (all_follow stage real)

-- where a transmission continues with a symbol, the table does, and the rest is left there
pub table_continues : (stage : Stage) (s : Symbol) (xs : List Symbol) → is_stage stage ≡ true → Matches (left stage) (s ∷ xs)
    → Goes stage s xs
table_continues stage s xs real m =
    goes_by stage s xs (next_stage stage s) refl (followed stage s real) ((follows s (left stage) xs).1 m)

goes_back_by : (stage : Stage) (s : Symbol) (to : Stage) (xs : List Symbol) (o : Option Stage) → o ≡ Some to
    → leads o (norm (after s (left stage))) ≡ true → Matches (left to) xs → Matches (norm (after s (left stage))) xs
unfolding leads
goes_back_by stage s to xs None e h m = absurd (none_is_some to e)
  where
    none_is_some : (x : Stage) → None ≡ Some x → ⊥
    none_is_some x k = cc k
goes_back_by stage s to xs (Some other) e h m =
    let b = and_parts (same (norm (after s (left stage))) (norm (left other))) (is_stage other) h in
    let form : norm (after s (left stage)) ≡ norm (left other) = same_sound _ _ b.0 in
    let there : other ≡ to = cc e in
    subst (λ (p : Pattern). Matches p xs) (sym form)
    ((norm_alike (left other) xs).1 (subst (λ (t : Stage). Matches (left t) xs) (sym there) m))

-- and where the table continues, what is left there is left after the symbol
pub goes_back : (stage : Stage) (s : Symbol) (to : Stage) (xs : List Symbol) → is_stage stage ≡ true
    → next_stage stage s ≡ Some to → Matches (left to) xs → Matches (left stage) (s ∷ xs)
goes_back stage s to xs real e m =
    (follows s (left stage) xs).0 (goes_back_by stage s to xs (next_stage stage s) e (followed stage s real) m)

real_by : (p : Pattern) (to : Stage) (o : Option Stage) → o ≡ Some to → leads o p ≡ true → is_stage to ≡ true
unfolding leads
real_by p to None e h = absurd (none_is_some to e)
  where
    none_is_some : (x : Stage) → None ≡ Some x → ⊥
    none_is_some x k = cc k
real_by p to (Some other) e h =
    let there : other ≡ to = cc e in
    subst (λ (t : Stage). is_stage t ≡ true) there (and_parts (same p (norm (left other))) (is_stage other) h).1

pub next_is_stage : (stage : Stage) (s : Symbol) (to : Stage) → is_stage stage ≡ true → next_stage stage s ≡ Some to
    → is_stage to ≡ true
next_is_stage stage s to real e = real_by (norm (after s (left stage))) to (next_stage stage s) e (followed stage s real)
