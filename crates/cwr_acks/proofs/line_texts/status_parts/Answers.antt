use Rattle.std.proofs.Common.{◌≡◌, ℕ, suc, ◌<◌, ◌+◌, List, length, ap, sym, ◌∙◌, arith}
use Rattle.std.proofs.lemmas.Option.{slice_get-get_or}
use Rattle.cwr_devices.proofs.lemmas.Adding.{adds_as, adds_both, adds_nothing}
use Rattle.cwr_fields.specs.Format.MessageCodes.{transaction_statuses}
use Rattle.cwr_acks.proofs.lemmas.Statuses.{parts_more, parts_to, parts_whole}
use Rattle.cwr_acks.proofs.line_texts.status_parts.Goals as goal

pub loop-i-init : goal.loop-i-init
loop-i-init g c = adds_nothing

pub loop-i-preserved : goal.loop-i-preserved
loop-i-preserved g c =
    let i : ℕ = c.loop-i.i in
    let ns : List ℕ = c.args.answers.now.by_status in
    let next : suc i ≡ i + 1 = omega arith in
    let within : i < length ns = omega (arith, c.requires, c.loop-i-test.true) in
    adds_as (sym (parts_more ns i _ (slice_get-get_or transaction_statuses i _ c.loop-i-test.true) within)
    ∙ ap (λ (n : ℕ). parts_to n ns) next) (adds_both c.loop-i.invariant c.status_part.ensures)

pub returns : goal.returns
returns g c =
    adds_as (parts_whole c.loop-i.i c.args.answers.now.by_status c.requires c.loop-i-test.false c.loop-i.auto.i-end) c.loop-i.invariant
