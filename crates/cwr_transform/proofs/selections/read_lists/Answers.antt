use Rattle.std.proofs.Common.{List, Option, ℕ, subst}
use Rattle.std.specs.Prelude.{option_map}
use Rattle.cwr_files.specs.Format.Files.{Texts}
use Rattle.cwr_files.specs.Steps.Inputs.{standard_left}
use Rattle.cwr_transform.specs.Format.Lists.{place_in}
use Rattle.cwr_transform.specs.Format.Missing.{same_place}
use Rattle.cwr_transform.specs.Steps.Lists.{ReadsSaid}
use Rattle.cwr_transform.proofs.selections.read_lists.Goals as goal

pub returns-in-Ok-read_values-clause-places_said : goal.returns-in-Ok-read_values-clause-places_said
returns-in-Ok-read_values-clause-places_said g c =
    let name : Option (List ℕ) = option_map (λ n. n.now) c.args.selection.now.places in
    let values = option_map (λ l. l.values) c.in-Ok-read_values.places in
    let text : Option (List ℕ) = option_map (λ l. l.text.items) c.in-Ok-read_values.places in
    subst
    (λ (o : Option g.row.I.Denot). ReadsSaid same_place place_in (g.S.Store.held c.args.store.now) (standard_left g.I.Read.remaining o) name
    values text)
    c.read_values.ensures.standard
    (subst
    (λ (h : Option Texts). ReadsSaid same_place place_in h (standard_left g.I.Read.remaining c.read_values.new.standard) name values text)
    c.read_values.ensures.kept c.in-Ok-read_values.ensures.said)
