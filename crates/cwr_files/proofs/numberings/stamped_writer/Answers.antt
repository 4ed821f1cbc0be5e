use Rattle.std.proofs.Common.{◌≡◌, List, Option, ℕ, ap, subst, ◌∙◌}
use Rattle.std.specs.Prelude.{IfOk}
use Rattle.cwr_files.specs.Format.Written.{text_of_stamped}
use Rattle.cwr_files.specs.Steps.Gathering.{written_to}
use Rattle.cwr_files.proofs.lemmas.Stamps.{known_empty}
use Rattle.cwr_files.proofs.numberings.stamped_writer.Goals as goal

pub returns-clause-empty : goal.returns-clause-empty
returns-clause-empty g c = λ empty.
    let contents = g.F.Write.contents in
    let it = c.new.result in
    subst (λ (x : Option (List ℕ)). IfOk c.gathered.result (λ writer. written_to (text_of_stamped contents) writer ≡ x))
    (known_empty it.cells it.given.text (contents it.file) c.new.ensures.given (ap contents c.new.ensures.file ∙ empty))
    c.gathered.ensures.contents
