use Rattle.std.proofs.Common.{◌≡◌, ◌++◌, ◌∙◌, ℕ, List, sym, subst, append_assoc}
use Rattle.std.specs.Prelude.{codes, decimal}
use Rattle.std.specs.Fmt.{HasWritten}
use Rattle.cwr_values.proofs.transmissions.ValueFaultDisplay.fmt.Goals as goal

five_joined : (a b c d e : List ℕ) → a ++ (b ++ (c ++ (d ++ e))) ≡ a ++ b ++ c ++ d ++ e
five_joined a b c d e =
    sym (append_assoc (a ++ b ++ c) d e ∙ append_assoc (a ++ b) c (d ++ e) ∙ append_assoc a b (c ++ (d ++ e)))

-- src/transmissions.rt:64:5
pub returns-in-Transaction-clause-writes : goal.returns-in-Transaction-clause-writes
returns-in-Transaction-clause-writes g c plain ok =
    let group : List ℕ = decimal c.in-Transaction.group in
    let transaction : List ℕ = decimal c.in-Transaction.transaction in
    let joined = five_joined (codes "group ") group (codes ", transaction ") transaction (codes ": too many records") in
    rw c.in-Transaction.is
    (subst (λ (text : List ℕ). HasWritten {W = g.row.O.Denot} g.O.Write.write_str_gives c.args.f.now text c.write.new.self) joined
    (c.write.ensures.writes plain ok))
