use Rattle.std.proofs.Common.{ℕ, ◌+◌, List, ap, ◌∙◌}
use Rattle.std.specs.List.{flat_map}
use Rattle.cwr_devices.proofs.lemmas.Adding.{adds_as, adds_both}
use Rattle.cwr_notes.specs.Format.FindingNotes.{head_lines, noted_at, tail_lines}
use Rattle.cwr_notes.proofs.finding_notes.notes_on.Goals as goal

pub returns : goal.returns
returns g c =
    adds_both (adds_both
    (adds_as (ap (λ (work : List ℕ). head_lines (c.args.first + c.args.finding.now.rec) work c.args.finding.now c.args.shown.now)
    c.requires.work) c.head_lines.ensures)
    (adds_as (ap (flat_map (noted_at c.args.first c.args.transaction.now c.args.finding.now.rule))
    (c.as_slice.ensures.value ∙ c.requires.found.first)) c.other_cells.ensures))
    (adds_as (ap (λ (n : ℕ). tail_lines c.args.apart c.args.finding.now.rule n c.args.transaction.now) c.requires.found.counted)
    c.tail_lines.ensures)
