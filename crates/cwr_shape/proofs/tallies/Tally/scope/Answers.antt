use Rattle.std.proofs.Common.{List, subst, ◌≡◌, ◌∙◌}
use Rattle.cwr_shape.specs.declared.symbols.Symbol.{Symbol}
use Rattle.cwr_shape.specs.Format.NextSymbols.{scope_after}
use Rattle.cwr_shape.specs.Steps.Tallies.{TallyValue, IsTallyOf}
use Rattle.cwr_shape.proofs.lemmas.ScopesNamed.{scope_stands}
use Rattle.cwr_shape.proofs.tallies.Tally.scope.Goals as goal

pub returns : goal.returns
returns c = subst (λ (t : TallyValue). (xs : List Symbol) → IsTallyOf t xs → c.scope_at.result ≡ scope_after xs) c.self.view_is
    (λ xs st. c.scope_at.ensures ∙ scope_stands xs c.self.inside.stage st.stands)
