use Rattle.std.proofs.Common.{ℕ, ◌+◌, ◌/◌, ◌%◌, List, [], ◌∷◌, sym, ◌∙◌, append_assoc}
use Rattle.std.specs.Prelude.{codes, decimal}
use Rattle.cwr_devices.proofs.lemmas.Adding.{adds_as, adds_both}
use Rattle.cwr_tables.proofs.lemmas.PlainTexts.{percent_cell}
use Rattle.cwr_tables.proofs.work_texts.percent.Goals as goal

pub returns : goal.returns
returns g c =
    let n : ℕ = c.args.share in
    let digits : List ℕ = (48 + n / 10 % 10) ∷ (48 + n % 10) ∷ [] in
    adds_as (sym (append_assoc (decimal (n / 100)) (codes ".") digits) ∙ percent_cell n c.ranges.share.fits)
    (adds_both c.number.ensures c.text.ensures)
