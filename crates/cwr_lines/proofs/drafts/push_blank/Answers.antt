use Rattle.cwr_lines.proofs.lemmas.BlankCells.{word_pushed}
use Rattle.cwr_lines.proofs.drafts.push_blank.Goals as goal

pub returns-in-Constant : goal.returns-in-Constant
returns-in-Constant c =
    word_pushed c.try_extend_from_slice-fits.result c.args.place.ty c.in-Constant.word c.args.place.width c.args.place.start
    c.args.line.now.items c.try_extend_from_slice-fits.new.self.items
    c.text.result.now c.in-Constant.is c.requires.width c.requires.begins c.requires.within c.text.ensures
    c.try_extend_from_slice-fits.ensures.variant.1 c.try_extend_from_slice-fits.ensures.ok
