use Rattle.std.proofs.Common.{sym}
use Rattle.cwr_select.proofs.selecting.encode_control.Goals as goal

pub returns-in-Opened-clause-judged : goal.returns-in-Opened-clause-judged
returns-in-Opened-clause-judged g c =
    λ start records e. rw c.in-Opened.is (rw (sym c.to_record.ensures.value)
    (c.open.ensures.judged c.requires.unfailed start records e))

pub returns-in-GroupOpened-clause-judged : goal.returns-in-GroupOpened-clause-judged
returns-in-GroupOpened-clause-judged g c =
    λ start records e. rw c.in-GroupOpened.is (rw (sym c.to_record-in-GroupOpened.ensures.value)
    (c.group.ensures.judged c.requires.unfailed start records e))

pub returns-in-GroupClosed-clause-judged : goal.returns-in-GroupClosed-clause-judged
returns-in-GroupClosed-clause-judged g c =
    λ start records e. rw c.in-GroupClosed.is (rw (sym c.to_record-in-GroupClosed.ensures.value)
    (c.end_group.ensures.judged c.requires.unfailed start records e))
