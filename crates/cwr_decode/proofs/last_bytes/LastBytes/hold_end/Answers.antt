use Rattle.std.proofs.Common.{◌≡◌, ◌-◌, length, take, drop, ap, ◌∙◌, arith}
use Rattle.std.proofs.lemmas.List.{length-drop}
use Rattle.cwr_decode.proofs.lemmas.LastHeld.{end_slice, filled_by, holds_end, length_end}
use Rattle.cwr_decode.proofs.last_bytes.LastBytes.hold_end.Goals as goal

pub returns : goal.returns
returns c = λ read h.
    let held : c.try_extend_from_slice-fits.new.self.items ≡ drop (length c.args.bytes.now - 1025) c.args.bytes.now =
    filled_by c.try_extend_from_slice-fits.result c.truncate.new.self.items c.try_extend_from_slice-fits.new.self.items (take
    (length c.args.bytes.now - (length c.args.bytes.now - 1025))
    (drop (length c.args.bytes.now - 1025) c.args.bytes.now)) c.truncate.ensures.items
    (omega (
      arith,
      c.requires,
      ap length (end_slice (length c.args.bytes.now - 1025) c.args.bytes.now),
      length-drop
          (length c.args.bytes.now - 1025)
          c.args.bytes.now,
    )) c.try_extend_from_slice-fits.ensures.variant.1 c.try_extend_from_slice-fits.ensures.ok
    ∙ end_slice (length c.args.bytes.now - 1025) c.args.bytes.now in
    holds_end read c.args.bytes.now c.args.self.now _ (length c.args.bytes.now - 1025) h held
    (omega (arith, length_end c.args.bytes.now c.try_extend_from_slice-fits.new.self.items 1025 held c.requires))
    c.saturating_add-self.ensures
