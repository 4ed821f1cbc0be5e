use Rattle.std.proofs.Common.{◌≡◌, ◌∙◌, refl, sym, ap, true≢false}
use Rattle.std.specs.Prelude.{Option, Some, None, option_and_then, option_map, unwrap_or}
use Rattle.cwr_fields.specs.declared.codes.TransactionType.{TransactionType}
use Rattle.cwr_fields.specs.declared.codes.TransactionType.TheVariants.{Acknowledgement}
use Rattle.cwr_fields.specs.declared.kinds.Kind.TheVariants as kinds
use Rattle.cwr_shape.specs.declared.symbols.Symbol.TheVariants.{Grh}
use Rattle.cwr_shape.specs.Format.Candidates.{type_in}
use Rattle.cwr_judge.proofs.lemmas.FirstFaults.{no_type}
use Rattle.cwr_renumber.proofs.renumbered_lines.type_named.Goals as goal

none_named : (o : Option TransactionType) → None ≡ option_map Grh o → o ≡ None
none_named None e = refl
none_named (Some ty) e = cc e

pub returns-in-None : goal.returns-in-None
returns-in-None c =
    let none : type_in c.in-Some.cell.now ≡ None =
    none_named (type_in c.in-Some.cell.now)
    (no_type kinds.Grh 2 c.in-Some.cell.now refl refl (λ q. true≢false (sym (c.in-None.ensures.some.1 q)))) in
    sym (ap (λ o. unwrap_or (option_and_then type_in o) Acknowledgement) (sym c.in-Some.ensures)
    ∙ ap (λ o. unwrap_or o Acknowledgement) none)
