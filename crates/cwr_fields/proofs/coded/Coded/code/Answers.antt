use Rattle.std.proofs.Common.{sym, ap, ◌∙◌}
use Rattle.cwr_fields.proofs.lemmas.Members.{code_at}
use Rattle.cwr_fields.proofs.coded.Coded.code.Goals as goal

pub returns : goal.returns
returns g c =
    ap (λ p. p.1.now) (sym c.index-list-position.is)
    ∙ code_at c.list.result.now g.Self.Coded.code g.Self.Coded.members c.position.result c.args.self c.index-list-position.result
    c.list.ensures c.position.ensures c.index-list-position.is
