use Rattle.std.proofs.Common.{map, ap, sym, subst, ◌∙◌}
use Rattle.cwr_values.specs.declared.items.Item.{Item}
use Rattle.cwr_values.specs.declared.items.Item.TheVariants.{Opened, GroupOpened, GroupClosed}
use Rattle.cwr_values.specs.Format.Values.{symbol_of}
use Rattle.cwr_encode.specs.Steps.Encoders.{encoder_limits}
use Rattle.cwr_write.specs.Steps.Taking.{JudgesGiven}
use Rattle.cwr_write.proofs.items.write_item.Goals as goal

pub returns-in-Opened-clause-judged : goal.returns-in-Opened-clause-judged
returns-in-Opened-clause-judged g c =
    λ start records e. subst
    (λ (i : Item). JudgesGiven (encoder_limits c.args.encoder.now) i (map symbol_of records) c.open.result) (ap Opened c.to_record.ensures.value ∙ sym c.in-Opened.is)
    (c.open.ensures.judged c.requires start records e)

pub returns-in-GroupOpened-clause-judged : goal.returns-in-GroupOpened-clause-judged
returns-in-GroupOpened-clause-judged g c =
    λ start records e. subst
    (λ (i : Item). JudgesGiven (encoder_limits c.args.encoder.now) i (map symbol_of records) c.group.result)
    (ap GroupOpened c.to_record-in-GroupOpened.ensures.value ∙ sym c.in-GroupOpened.is) (c.group.ensures.judged c.requires start records e)

pub returns-in-Transaction-clause-judged : goal.returns-in-Transaction-clause-judged
returns-in-Transaction-clause-judged g c =
    λ start records e. subst
    (λ (i : Item). JudgesGiven (encoder_limits c.args.encoder.now) i (map symbol_of records) c.transaction.result)
    (sym c.in-Transaction.is) (c.transaction.ensures.judged c.requires start records e)

pub returns-in-GroupClosed-clause-judged : goal.returns-in-GroupClosed-clause-judged
returns-in-GroupClosed-clause-judged g c =
    λ start records e. subst
    (λ (i : Item). JudgesGiven (encoder_limits c.args.encoder.now) i (map symbol_of records) c.end_group.result)
    (ap GroupClosed c.to_record-in-GroupClosed.ensures.value ∙ sym c.in-GroupClosed.is) (c.end_group.ensures.judged c.requires start records e)
