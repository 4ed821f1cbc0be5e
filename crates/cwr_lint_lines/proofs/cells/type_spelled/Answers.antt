use Rattle.std.proofs.Common.{◌≡◌, true≢false, Option, Some, None, refl, sym, option_map}
use Rattle.cwr_fields.specs.declared.codes.TransactionType.{TransactionType}
use Rattle.cwr_fields.specs.declared.kinds.Kind.TheVariants.{Grh as GrhKind}
use Rattle.cwr_shape.specs.declared.symbols.Symbol.TheVariants.{Grh}
use Rattle.cwr_shape.specs.Format.Candidates.{type_in}
use Rattle.cwr_judge.proofs.lemmas.FirstFaults.{no_type}
use Rattle.cwr_lint_lines.proofs.cells.type_spelled.Goals as goal

none_of : (o : Option TransactionType) → None ≡ option_map Grh o → None ≡ o
none_of None e = refl
none_of (Some x) e = absurd (cc e)

pub returns-in-None : goal.returns-in-None
returns-in-None c =
    none_of (type_in c.args.cell.now)
    (no_type GrhKind 2 c.args.cell.now refl refl (λ q. true≢false (sym (c.in-None.ensures.some.1 q))))
