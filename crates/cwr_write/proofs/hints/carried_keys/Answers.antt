use Rattle.std.proofs.Common.{◌<◌, ◌≤◌, length, get_or, sym, arith}
use Rattle.std.proofs.lemmas.Option.{slice_get-get_or, slice_get_past}
use Rattle.cwr_fields.specs.Format.Layouts.{layout, record_type}
use Rattle.cwr_devices.proofs.lemmas.Adding.{adds_all, adds_as, adds_next, adds_nothing}
use Rattle.cwr_write.specs.Format.OutcomeTexts.{carried_key}
use Rattle.cwr_write.proofs.lemmas.FieldsFound.{carried_at}
use Rattle.cwr_write.proofs.hints.carried_keys.Goals as goal

pub loop-before-init : goal.loop-before-init
loop-before-init g c = adds_nothing

pub loop-before-preserved : goal.loop-before-preserved
loop-before-preserved g c =
    let within : c.loop-before.before < length (layout c.args.kind) =
    omega (arith, c.loop-before-test.true, c.fields-before-end.ensures) in
    adds_next carried_key (layout c.args.kind) c.loop-before.before (get_or (layout c.args.kind) c.loop-before.before record_type)
    (sym (slice_get-get_or (layout c.args.kind) c.loop-before.before record_type within)) c.loop-before.invariant
    (adds_as (carried_at c.args.kind c.loop-before.before within) c.carried_if.ensures)

pub returns : goal.returns
returns g c =
    let all : length (layout c.args.kind) ≤ c.loop-before.before =
    omega (arith, c.loop-before-test.false, c.fields-before-end.ensures) in
    adds_all carried_key (layout c.args.kind) c.loop-before.before
    (sym (slice_get_past (layout c.args.kind) c.loop-before.before all)) c.loop-before.invariant
