use Rattle.std.proofs.Common.{◌≡◌, ◌==◌, length, Some, None, arith, rules, ap, sym, ◌∙◌}
use Rattle.std.specs.List.{after_first, before_first, position_or_len}
use Rattle.cwr_states.specs.Format.StateSets.{names_in}
use Rattle.cwr_words.specs.Format.Words.{with_kind, with_kinds}
use Rattle.cwr_words.proofs.lemmas.KindNames.{first_is_added, first_is_none, only_name}
use Rattle.cwr_words.proofs.words.kinds_of.Goals as goal

pub returns-in_err-kinds : goal.returns-in_err-kinds
returns-in_err-kinds c =
    let split = c.in-Some.ensures.byte (omega arith) (λ w o found. found) in
    let unnamed : with_kind c.loop-name.kinds (before_first (λ b. b == 44) c.loop-name.rest.now) ≡ None =
    ap (with_kind c.loop-name.kinds) (sym split.0) ∙ (sym c.with_kind.ensures ∙ c.in_err-kinds.was) in
    c.from_residual.ensures
    ∙ (sym (first_is_none c.loop-name.kinds c.loop-name.rest.now split.2 unnamed) ∙ c.loop-name.invariant.1)

pub loop-name-preserved : goal.loop-name-preserved
loop-name-preserved c =
    let split = c.in-Some.ensures.byte (omega arith) (λ w o found. found) in
    let named : with_kind c.loop-name.kinds (before_first (λ b. b == 44) c.loop-name.rest.now) ≡ Some c.in_ok-kinds.kinds =
    ap (with_kind c.loop-name.kinds) (sym split.0) ∙ (sym c.with_kind.ensures ∙ c.in_ok-kinds.was) in
    let added : with_kinds c.in_ok-kinds.kinds (names_in c.in-Some.after.now)
    ≡ with_kinds c.in_ok-kinds.kinds (names_in (after_first (λ b. b == 44) c.loop-name.rest.now)) =
    ap (λ text. with_kinds c.in_ok-kinds.kinds (names_in text)) split.1 in (
      search rules,
      added ∙ (sym (first_is_added c.loop-name.kinds c.loop-name.rest.now c.in_ok-kinds.kinds split.2 named) ∙ c.loop-name.invariant.1),
    )

pub returns : goal.returns
returns c =
    let alone : position_or_len (λ b. b == 44) c.loop-name.rest.now ≡ length c.loop-name.rest.now =
    c.in_default.ensures.byte (omega arith) (λ w o found. found) in
    c.with_kind-2.ensures ∙ (sym (only_name c.loop-name.kinds c.loop-name.rest.now alone) ∙ c.loop-name.invariant.1)
