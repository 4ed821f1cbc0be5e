use Rattle.std.proofs.Common.{Bor, List, None, Option, ℕ, Vec, Global, ap, map, sym, subst}
use Rattle.std.specs.Prelude.{option_map}
use Rattle.cwr_acks.specs.Steps.AckSteps.{held_if}
use Rattle.cwr_files.specs.Format.Files.{Texts}
use Rattle.cwr_files.specs.Steps.Inputs.{remaining_of}
use Rattle.cwr_answers.specs.Steps.Reading.{AreShown}
use Rattle.cwr_answers.proofs.lemmas.Ends.{left_of_first}
use Rattle.cwr_answers.proofs.lemmas.Kept.{tells_so}
use Rattle.cwr_answers.proofs.lemmas.States.{alone_good}
use Rattle.cwr_answers.proofs.answers.read_alone.Goals as goal

pub read_input-reading-requires-clause-told : goal.read_input-reading-requires-clause-told
read_input-reading-requires-clause-told g c =
    let form = c.args.answering.now.form in
    tells_so form c.manner-manner.result c.manner-manner.ensures.form None
    (ap (option_map {T = Bor (List ℕ)} {U = List ℕ} (λ n. n.now)) c.manner-manner.ensures.file)
    (subst (λ (names : List (Vec ℕ Global)). AreShown form (map (λ n. n.items) names)) (sym c.manner-manner.ensures.names) c.requires.shown)

pub returns-in-Ok-judged-clause-answers : goal.returns-in-Ok-judged-clause-answers
returns-in-Ok-judged-clause-answers g c = λ first is matched kept.
    let left : Option (List ℕ) = remaining_of g.S.Reader.Read.remaining g.I.Read.remaining c.in-Ok.input in
    let held : Option Texts = g.S.Store.held c.args.store.now in
    let name : Option (List ℕ) = option_map (λ n. n.now) c.args.name in
    alone_good c.args.answering.now.limits held first name left matched (held_if c.read_input-reading.result.0.delivery)
    c.read_input-reading.result.1 c.in-Ok-judged.judgement
    (left_of_first held g.I.Read.remaining c.args.standard.now first name left c.in-Ok.ensures.left c.in-Ok.ensures.there is)
    c.in-Ok-judged.is (c.read_input-reading.ensures.answers matched kept)
