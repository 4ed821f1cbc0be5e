use Rattle.std.proofs.Common.{◌≡◌, ℕ, List, ap, sym, ◌∙◌, subst, arith, w64}
use Rattle.std.specs.Int.{from_le_bytes, to_le_bytes}
use Rattle.std.proofs.lemmas.Bool.{eqb-true}
use Rattle.std.proofs.lemmas.List.{take_all}
use Rattle.std.proofs.lemmas.Nat.{le_bytes_8}
use Rattle.cwr_fields.proofs.spelled.are_same.Goals as goal

pub returns-in-Some-Some : goal.returns-in-Some-Some
returns-in-Some-Some c = λ taken.
    let same : c.from_le_bytes.result ≡ c.from_le_bytes-in-Some-Some.result =
    eqb-true c.from_le_bytes.result c.from_le_bytes-in-Some-Some.result taken in
    let cell : c.args.cell.now ≡ c.in-Some-Some.cell.now =
    sym (take_all 8 c.args.cell.now (omega (arith, c.requires.cell))) ∙ sym c.in-Some-Some.ensures.cases.same in
    let text : c.args.text.now ≡ c.in-Some-Some.text.now =
    sym (take_all 8 c.args.text.now (omega (arith, c.requires.text))) ∙ sym c.in-Some-Some.ensures'.cases.same in
    sym (le_bytes_8 c.args.cell.now c.from_le_bytes.result c.requires.cell (λ i. omega (arith, c.type_inv.cell i))
    (subst (λ (l : List ℕ). c.from_le_bytes.result ≡ from_le_bytes w64 l) (sym cell) c.from_le_bytes.ensures))
    ∙ ap (to_le_bytes w64) same
    ∙ le_bytes_8 c.args.text.now c.from_le_bytes-in-Some-Some.result c.requires.text (λ i. omega
    (arith, c.type_inv.text i)) (subst (λ (l : List ℕ). c.from_le_bytes-in-Some-Some.result ≡ from_le_bytes w64 l) (sym text)
    c.from_le_bytes-in-Some-Some.ensures)
