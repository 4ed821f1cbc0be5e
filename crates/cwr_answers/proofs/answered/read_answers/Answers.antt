use Rattle.std.proofs.Common.{List, ℕ, Option}
use Rattle.cwr_files.specs.Steps.Inputs.{remaining_of}
use Rattle.cwr_endings.proofs.lemmas.StatusesOnTexts.{from_source}
use Rattle.cwr_acks.specs.Steps.AckSteps.{held_if}
use Rattle.cwr_answers.specs.Steps.Seeking.{ReadsIfGood}
use Rattle.cwr_answers.proofs.lemmas.AnsweredPlaces.{answers_read_so, unfailed_so}
use Rattle.cwr_answers.proofs.answered.read_answers.Goals as goal

pub returns-clause-answers : goal.returns-clause-answers
returns-clause-answers g c =
    λ matched kept.
    from_source (λ (left : Option (List ℕ)). ReadsIfGood c.args.answered.now.limits left matched (held_if c.acks-delivery.result.1)
    c.judged-judged.result) (remaining_of g.S.Reader.Read.remaining g.I.Read.remaining) c.args.input c.new-reader.result.inner _
    c.new-reader.ensures.inner c.new-reader.ensures.ahead
    (answers_read_so c.args.answered.now.limits c.args.answered.now.whole _ _ c.acks-delivery.result.3 c.look_after-look.result
    c.judged-judged.result c.args.delivery c.acks-delivery.result.1 c.acks-delivery.result.2 matched c.judged-judged.ensures
    c.acks-delivery.ensures.kept kept)

pub returns-clause-failures : goal.returns-clause-failures
returns-clause-failures g c =
    unfailed_so c.args.answered.now.whole c.acks-delivery.result.3 c.look_after-look.result c.judged-judged.result _ _ _ _ _
    c.judged-judged.ensures c.new-reader.ensures.failures c.acks-delivery.ensures.reader_failures c.look_after-look.ensures.failures
    c.end_input-told.ensures.failures
