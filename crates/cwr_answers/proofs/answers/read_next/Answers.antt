use Rattle.std.proofs.Common.{◌∙◌, Bor, List, None, Option, Some, ℕ, Vec, Global, ap, inl, map, sym, subst}
use Rattle.std.specs.Prelude.{IfOk, IfSome, Result, option_map}
use Rattle.cwr_tools.specs.declared.verdicts.ToolFault.{ToolFault}
use Rattle.cwr_files.specs.Steps.Inputs.{remaining_of}
use Rattle.cwr_files.proofs.lemmas.Reads.{if_read}
use Rattle.cwr_endings.specs.declared.judgements.Judgement.{Judgement}
use Rattle.cwr_endings.specs.Format.Endings.{IsStatusBy}
use Rattle.cwr_reports.specs.Format.Endings.{Counts}
use Rattle.cwr_reports.proofs.lemmas.Pieces.{left_first}
use Rattle.cwr_acks.specs.Steps.AckSteps.{held_if}
use Rattle.cwr_answers.specs.Format.Endings.{wanted_of}
use Rattle.cwr_answers.specs.Steps.Reading.{AreShown}
use Rattle.cwr_answers.proofs.lemmas.Kept.{tells_so}
use Rattle.cwr_answers.proofs.lemmas.States.{next_failed, next_good}
use Rattle.cwr_answers.proofs.answers.read_next.Goals as goal

pub read_input-reading-requires-clause-told : goal.read_input-reading-requires-clause-told
read_input-reading-requires-clause-told g c =
    let form = c.args.answering.now.form in
    let one = c.in-Ok-told_name.ensures.shown in
    tells_so form c.manner-manner.result c.manner-manner.ensures.form (Some one.0)
    (ap (option_map {T = Bor (List ℕ)} {U = List ℕ} (λ n. n.now)) c.manner-manner.ensures.file
    ∙ ap (λ (name : List ℕ). Some name) (c.as_slice.ensures.value ∙ one.1))
    (subst (λ (names : List (Vec ℕ Global)). AreShown form (map (λ n. n.items) names)) (sym c.manner-manner.ensures.names) c.requires.shown)

pub returns-in-Ok-judged-clause-counted : goal.returns-in-Ok-judged-clause-counted
returns-in-Ok-judged-clause-counted g c = λ first is.
    let left : Option (List ℕ) = remaining_of g.S.Reader.Read.remaining g.I.Read.remaining c.in-Ok.input in
    let limits = c.args.answering.now.limits in
    let whole = c.args.answering.now.whole in
    let held = g.S.Store.held c.args.store.now in
    let status = c.in-Ok-judged.judgement.status in
    inl (
      status,
      c.count.ensures.status,
      if_read held first (Some c.args.name.now) left (λ text. IsStatusBy (Counts None) limits (wanted_of whole) text status)
          (left_first held g.I.Read.remaining c.args.standard.now first c.args.name.now left c.in-Ok.ensures.left c.in-Ok.ensures.there is)
          (subst (λ (r : Result Judgement ToolFault). IfOk r (λ judgement. IfSome left (λ text. IsStatusBy (Counts None) limits (wanted_of whole)
          text judgement.status))) c.in-Ok-judged.is c.read_input-reading.ensures.judges),
    )

pub returns-in-Ok-judged-clause-answers : goal.returns-in-Ok-judged-clause-answers
returns-in-Ok-judged-clause-answers g c = λ first is matched kept.
    let left : Option (List ℕ) = remaining_of g.S.Reader.Read.remaining g.I.Read.remaining c.in-Ok.input in
    let held = g.S.Store.held c.args.store.now in
    next_good c.args.answering.now.limits held first c.args.name.now left matched (held_if c.read_input-reading.result.0.delivery)
    c.read_input-reading.result.1 c.in-Ok-judged.judgement c.args.sums.now.status c.count.new.self.status
    (left_first held g.I.Read.remaining c.args.standard.now first c.args.name.now left c.in-Ok.ensures.left c.in-Ok.ensures.there is)
    c.in-Ok-judged.is c.count.ensures.status (c.read_input-reading.ensures.answers matched kept)

pub returns-in-Err-clause-answers : goal.returns-in-Err-clause-answers
returns-in-Err-clause-answers g c = λ first is matched kept.
    next_failed c.args.answering.now.limits (g.S.Store.held c.args.store.now) first c.args.name.now matched
    (held_if c.args.reading.delivery) c.args.sums.now.status c.count_failed.new.self.status c.count_failed.ensures.status

pub returns-in-Err-Reader-clause-answers : goal.returns-in-Err-Reader-clause-answers
returns-in-Err-Reader-clause-answers g c = λ first is matched kept.
    next_failed c.args.answering.now.limits (g.S.Store.held c.args.store.now) first c.args.name.now matched
    (held_if c.read_input-reading.result.0.delivery) c.args.sums.now.status c.count_failed-in-Err-Reader.new.self.status
    c.count_failed-in-Err-Reader.ensures.status
