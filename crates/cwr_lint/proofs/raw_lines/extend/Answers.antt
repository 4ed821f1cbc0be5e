use Rattle.cwr_lint.proofs.lemmas.RawLines.{extended}
use Rattle.cwr_lint.proofs.raw_lines.extend.Goals as goal

pub returns : goal.returns
returns c =
    extended c.try_extend_from_slice-fits.result c.args.text.now.items c.args.bytes.now
    c.try_extend_from_slice-fits.new.self.items c.args.room c.min.result c.requires c.min.ensures
    c.try_extend_from_slice-fits.ensures.variant.1 c.try_extend_from_slice-fits.ensures.ok
