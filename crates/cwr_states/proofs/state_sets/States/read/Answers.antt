use Rattle.std.proofs.Common.{◌≡◌, ◌==◌, length, Some, None, arith, rules, ap, sym, ◌∙◌}
use Rattle.std.specs.List.{after_first, before_first, position_or_len}
use Rattle.cwr_states.specs.Format.StateNames.{state_named}
use Rattle.cwr_states.specs.Format.StateSets.{names_in, with_names, with_state}
use Rattle.cwr_states.proofs.lemmas.NamesLemmas.{first_is_added, first_is_none, only_is_none}
use Rattle.cwr_states.proofs.state_sets.States.read.Goals as goal

pub returns-in_err-named : goal.returns-in_err-named
returns-in_err-named c =
    let split = c.in-Some.ensures.byte (omega arith) (λ w o found. found) in
    let unnamed : state_named (before_first (λ b. b == 44) c.loop-name.rest.now) ≡ None =
    ap state_named (sym split.0) ∙ (sym c.named.ensures ∙ c.in_err-named.was) in
    c.from_residual.ensures
    ∙ (sym (first_is_none c.loop-name.states c.loop-name.rest.now split.2 unnamed) ∙ c.loop-name.invariant.1)

pub loop-name-preserved : goal.loop-name-preserved
loop-name-preserved c =
    let split = c.in-Some.ensures.byte (omega arith) (λ w o found. found) in
    let named : state_named (before_first (λ b. b == 44) c.loop-name.rest.now) ≡ Some c.in_ok-named.field-0 =
    ap state_named (sym split.0) ∙ (sym c.named.ensures ∙ c.in_ok-named.was) in
    let added : with_names c.with-states.result (names_in c.in-Some.after.now)
    ≡ with_names (with_state c.loop-name.states c.in_ok-named.field-0)
    (names_in (after_first (λ b. b == 44) c.loop-name.rest.now)) =
    ap (λ it. with_names it (names_in c.in-Some.after.now)) c.with-states.ensures.value
    ∙ ap (λ text. with_names (with_state c.loop-name.states c.in_ok-named.field-0) (names_in text)) split.1 in (
      search rules,
      added
          ∙ (sym (first_is_added c.loop-name.states c.loop-name.rest.now c.in_ok-named.field-0 split.2 named)
          ∙ c.loop-name.invariant.1),
    )

pub returns-in_err-named-2 : goal.returns-in_err-named-2
returns-in_err-named-2 c =
    let alone : position_or_len (λ b. b == 44) c.loop-name.rest.now ≡ length c.loop-name.rest.now =
    c.in_default.ensures.byte (omega arith) (λ w o found. found) in
    c.from_residual-in_err-named-2.ensures
    ∙ (sym (only_is_none c.loop-name.states c.loop-name.rest.now alone (sym c.named-2.ensures ∙ c.in_err-named-2.was))
    ∙ c.loop-name.invariant.1)
