use Rattle.std.proofs.Common.{ℕ, List, Option, Some, ap, ◌∙◌}
use Rattle.std.specs.Prelude.{IfSome}
use Rattle.cwr_values.specs.Format.Values.{TransmissionValue}
use Rattle.cwr_judge.specs.Format.Ends.{IsAccepted}
use Rattle.cwr_files.specs.Format.Files.{Texts, counted_on}
use Rattle.cwr_files.specs.Format.Inputs.{is_standard}
use Rattle.cwr_files.specs.Steps.Inputs.{IsLeftOf, remaining_of}
use Rattle.cwr_files.proofs.lemmas.Reads.{if_read, left_lent, lent_on}
use Rattle.cwr_endings.proofs.lemmas.StatusesOnTexts.{from_source}
use Rattle.cwr_answers.proofs.lemmas.AnsweredPlaces.{front_taken}
use Rattle.cwr_answers.proofs.answered.read_what_was_sent.Goals as goal

pub returns-in-Ok-read-clause-sent : goal.returns-in-Ok-read-clause-sent
returns-in-Ok-read-clause-sent g c = (
  c.in-Ok-read.ensures.fresh,
  λ input lent.
      let name : List ℕ = c.args.answered.now.sent.now in
      let held : Option Texts = g.S.Store.held c.args.store.now in
      let left : Option (List ℕ) = remaining_of g.S.Reader.Read.remaining g.I.Read.remaining c.in-Ok.input in
      let takes = c.in-Ok-read.ensures.takes in
      let v : TransmissionValue = takes.0 in
      let opened : IsLeftOf held (g.I.Read.remaining input) (Some name) left
      = left_lent (is_standard (Some name)) held g.I.Read.remaining input c.args.standard.now name left lent c.in-Ok.ensures.there
      c.in-Ok.ensures.left in
      let taken : IfSome left (λ text. (n : ℕ) × IsAccepted c.args.answered.now.limits text v n)
      = from_source (λ (known : Option (List ℕ)). IfSome known (λ text. (n : ℕ) × IsAccepted c.args.answered.now.limits text v n))
      (remaining_of g.S.Reader.Read.remaining g.I.Read.remaining) c.in-Ok.input c.new-reader.result.inner _ c.new-reader.ensures.inner
      c.new-reader.ensures.ahead (front_taken c.args.answered.now.limits _ _ v takes.1) in
      (v, if_read held (g.I.Read.remaining input) (Some name) left _ opened taken, takes.2),
)

pub returns-in-Ok-read-clause-failures : goal.returns-in-Ok-read-clause-failures
returns-in-Ok-read-clause-failures g c =
    c.end_input-told.ensures.failures
    ∙ ap (λ (n : ℕ). counted_on n (g.S.Store.failures c.open_input.new.store)) (c.in-Ok-read.ensures.failures ∙ c.new-reader.ensures.failures)
    ∙ c.in-Ok.ensures.opened

pub returns-in-Ok-read-clause-standard : goal.returns-in-Ok-read-clause-standard
returns-in-Ok-read-clause-standard g c =
    λ input lent. lent_on (is_standard (Some c.args.answered.now.sent.now)) input c.args.standard.now c.open_input.new.standard lent
    c.open_input.ensures.standard

pub returns-in-Ok-verdict_of-clause-standard : goal.returns-in-Ok-verdict_of-clause-standard
returns-in-Ok-verdict_of-clause-standard g c =
    λ input lent. lent_on (is_standard (Some c.args.answered.now.sent.now)) input c.args.standard.now c.open_input.new.standard lent
    c.open_input.ensures.standard
