use Rattle.std.proofs.Common.{◌≡◌, length, IsSome, sym, subst, ◌∙◌}
use Rattle.cwr_fields.specs.Format.Members.{member_with}
use Rattle.cwr_fields.proofs.lemmas.Members.{member_listed, found_where_code, cell_of_found}
use Rattle.cwr_fields.proofs.coded.AnyCell.read.Goals as goal

pub returns-clause-some : goal.returns-clause-some
returns-clause-some g c =
    let C = g.C.Coded in
    let wide : length c.args.cell.now ≡ C.CODE_WIDTH = c.if-cell-CODE_WIDTH.false ∙ c.CODE_WIDTH.ensures in
    let found : c.member_of.result ≡ member_with C.code C.members C.CODE_WIDTH c.args.cell.now =
    member_listed c.list.result.now C.code C.members C.CODE_WIDTH c.args.cell.now c.member_of.result c.list.ensures wide
    c.member_of.ensures in
    let both = found_where_code C.code C.members C.CODE_WIDTH c.args.cell.now in
    let spells = g.met.C.Coded.spells c.args.cell.now in
    (λ h. (wide, spells.1 (both.0 (subst IsSome found h))), λ p. subst IsSome (sym found) (both.1 (spells.0 p.1)))

pub returns-clause-value : goal.returns-clause-value
returns-clause-value g c =
    let C = g.C.Coded in
    let wide : length c.args.cell.now ≡ C.CODE_WIDTH = c.if-cell-CODE_WIDTH.false ∙ c.CODE_WIDTH.ensures in
    let found : c.member_of.result ≡ member_with C.code C.members C.CODE_WIDTH c.args.cell.now =
    member_listed c.list.result.now C.code C.members C.CODE_WIDTH c.args.cell.now c.member_of.result c.list.ensures wide
    c.member_of.ensures in
    cell_of_found C.code C.members C.CODE_WIDTH c.args.cell.now c.member_of.result (sym found)
