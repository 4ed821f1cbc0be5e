use Rattle.std.proofs.Common.{Err, ap, refl}
use Rattle.std.specs.Prelude.{is_some}
use Rattle.cwr_values.specs.declared.transactions.PushFault.TheVariants.{Memory}
use Rattle.cwr_values.proofs.lemmas.Beginnings.{more_exact, more_stands, none_is_some, ok_is_refused, memory_is_misplaced}
use Rattle.cwr_values.proofs.transactions.Transaction.push.Goals as goal

pub push_at-requires : goal.push_at-requires
push_at-requires c =
    more_stands c.self.inside.step c.in-Some.step c.self.inside.records c.args.self.now c.symbol_of.result c.args.next
    c.self.invariant c.self.view_is c.symbol_of.ensures c.in-Some.ensures.value

pub returns-in_default-clause-misplaced : goal.returns-in_default-clause-misplaced
returns-in_default-clause-misplaced c =
    let more =
    more_exact c.self.inside.step c.self.inside.records c.args.self.now c.symbol_of.result c.args.next
    c.next.result c.self.invariant c.self.view_is c.symbol_of.ensures c.next.ensures.some in
    (λ e. none_is_some c.next.result _ c.in_default.is more, λ n. refl)

pub returns-in-Ok-clause-misplaced : goal.returns-in-Ok-clause-misplaced
returns-in-Ok-clause-misplaced c =
    let more =
    more_exact c.self.inside.step c.self.inside.records c.args.self.now c.symbol_of.result c.args.next
    c.next.result c.self.invariant c.self.view_is c.symbol_of.ensures c.next.ensures.some in
    (λ e. absurd (ok_is_refused e), λ n. absurd (n (more.0 (ap is_some c.in-Some.is))))

pub returns-in-Err-clause-misplaced : goal.returns-in-Err-clause-misplaced
returns-in-Err-clause-misplaced c =
    let more =
    more_exact c.self.inside.step c.self.inside.records c.args.self.now c.symbol_of.result c.args.next
    c.next.result c.self.invariant c.self.view_is c.symbol_of.ensures c.next.ensures.some in
    (λ e. absurd (memory_is_misplaced (Err Memory) refl e), λ n. absurd (n (more.0 (ap is_some c.in-Some.is))))
