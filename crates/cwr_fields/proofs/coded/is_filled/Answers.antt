use Rattle.std.proofs.Common.{◌≡◌, ◌↔◌, ℕ, List, length, IsTrue, subst, false}
use Rattle.cwr_fields.specs.Format.Bytes.{filled}
use Rattle.cwr_fields.proofs.lemmas.Members.{fills, begins_otherwise}
use Rattle.cwr_fields.proofs.coded.is_filled.Goals as goal

pub returns-in-Some : goal.returns-in-Some
returns-in-Some c =
    subst (λ (code : List ℕ). IsTrue c.is_spaces.result ↔ (c.args.cell.now ≡ filled (length c.args.cell.now) code))
    c.as_bytes.ensures.value
    (fills c.as_bytes.result.now c.args.cell.now c.in-Some.rest.now c.is_spaces.result c.in-Some.ensures.cases
    c.is_spaces.ensures)

pub returns-in-None : goal.returns-in-None
returns-in-None c =
    subst (λ (code : List ℕ). IsTrue false ↔ (c.args.cell.now ≡ filled (length c.args.cell.now) code)) c.as_bytes.ensures.value
    (begins_otherwise c.as_bytes.result.now c.args.cell.now c.in-None.ensures.cases)
