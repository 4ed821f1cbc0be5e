use Rattle.std.proofs.Common.{◌≡◌, sym, ◌∙◌, arith}
use Rattle.cwr_fields.specs.Format.Members.{member_with}
use Rattle.cwr_fields.specs.Format.SenderCodes.{sender_text, senders}
use Rattle.cwr_fields.proofs.lemmas.Members.{member_listed}
use Rattle.cwr_fields.proofs.lemmas.Spellings.{number_spelled}
use Rattle.cwr_fields.proofs.lemmas.Senders.{digits_sender}
use Rattle.cwr_fields.proofs.sender_types.SenderTypeCell.read.Goals as goal

pub returns-in-None-clause-some : goal.returns-in-None-clause-some
returns-in-None-clause-some c =
    let found : c.member_of.result ≡ member_with sender_text senders 2 c.args.cell.now =
    member_listed c.senders.result sender_text senders 2 c.args.cell.now c.member_of.result c.senders.ensures c.if-cell-ne2.false
    c.member_of.ensures in
    digits_sender c.args.cell.now _ c.if-cell-ne2.false (sym found ∙ c.in-None.is) (
      λ h. ((number_spelled c.args.cell.now).0 (c.read.ensures.some.0 (sym c.map.ensures.variant ∙ h)).1).1,
      λ h. c.map.ensures.variant
          ∙ c.read.ensures.some.1 (c.if-cell-ne2.false, (number_spelled c.args.cell.now).1 (omega arith, h)),
    )
