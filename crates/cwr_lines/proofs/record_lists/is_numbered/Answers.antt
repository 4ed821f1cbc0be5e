use Rattle.std.proofs.Common.{◌≡◌, take, sym, ◌∙◌}
use Rattle.std.proofs.lemmas.Bool.{not-false}
use Rattle.std.proofs.lemmas.Slice.Eq.{bytes_eq-Decides}
use Rattle.cwr_fields.specs.Format.Kinds.{letters}
use Rattle.cwr_lines.proofs.lemmas.NumberedKept.{numbered}
use Rattle.cwr_lines.proofs.record_lists.is_numbered.Goals as goal

pub returns : goal.returns
returns c = λ yes.
    let both = c.are_in.ensures yes in
    let named : letters c.args.kind ≡ take 3 c.args.line.now =
    sym c.letters.ensures
    ∙ (bytes_eq-Decides c.letters.result.now (take 3 c.args.line.now)).0 (not-false _ (sym c.ne.ensures ∙ c.if-ne.false)) in
    numbered c.args.kind c.args.line.now c.args.transaction c.args.place
    (sym c.is_in_transaction.ensures ∙ c.if-not-is_in_transaction.false) c.requires named both.0 both.1
