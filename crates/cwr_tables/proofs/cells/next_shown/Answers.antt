use Rattle.std.proofs.Common.{ℕ, List, ap}
use Rattle.cwr_devices.proofs.lemmas.Adding.{adds_as}
use Rattle.cwr_json.specs.Format.Encodings.{characters}
use Rattle.cwr_tables.specs.Steps.RowTexts.{next_cell}
use Rattle.cwr_tables.proofs.cells.next_shown.Goals as goal

pub returns : goal.returns
returns g c =
    adds_as (ap (λ (shown : List ℕ). next_cell (characters c.args.encoding shown)) c.trimmed.ensures) c.next_characters.ensures
