use Rattle.std.proofs.Common.{◌≡◌, true≢false, Option, Some, None, refl, sym, option_map}
use Rattle.cwr_fields.specs.declared.codes.Role.{Role}
use Rattle.cwr_fields.specs.declared.kinds.Kind.TheVariants.{Ipa as IpaKind}
use Rattle.cwr_shape.specs.declared.symbols.Symbol.TheVariants.{Ipa}
use Rattle.cwr_shape.specs.Format.Candidates.{role_in}
use Rattle.cwr_judge.proofs.lemmas.FirstFaults.{no_role}
use Rattle.cwr_lint_lines.proofs.cells.role_spelled.Goals as goal

none_of : (o : Option Role) → None ≡ option_map Ipa o → None ≡ o
none_of None e = refl
none_of (Some x) e = absurd (cc e)

pub returns-in-None : goal.returns-in-None
returns-in-None c =
    none_of (role_in c.args.cell.now)
    (no_role IpaKind 4 c.args.cell.now refl refl (λ q. true≢false (sym (c.in-None.ensures.some.1 q))))
