use Rattle.std.proofs.Common.{◌≡◌, ◌<◌, ℕ, List, Bool, false, length, get_or, sym, ap, subst, ◌∙◌, arith}
use Rattle.json.specs.Value.{value_view}
use Rattle.std.proofs.Math.ListN.{set}
use Rattle.std.proofs.Common.{true}
use Rattle.cwr_write.specs.Steps.Filling.{IsFilled, names_field, with_last}
use Rattle.cwr_write.proofs.lemmas.FilledDrafts.{filled_set, filled_type}
use Rattle.cwr_write.proofs.lemmas.RecordReasons.{repeated_reason, unknown_reason, value_reason}
use Rattle.cwr_write.proofs.lemmas.NoRecordData.{repeated_key, unfit_value, unknown_key}
use Rattle.cwr_write.proofs.records.Filling.take.Goals as goal

pub returns-then-j-eq1-clause-ok : goal.returns-then-j-eq1-clause-ok
returns-then-j-eq1-clause-ok c = λ ms h.
    let seen : List Bool = c.args.self.now.seen in
    let at : c.from-2.result ≡ 1 = c.from-2.ensures ∙ c.if-j-eq1.true in
    let names : names_field c.args.self.now.kind 1 c.args.key.now ≡ true =
    subst (λ (j : ℕ). names_field c.args.self.now.kind j c.args.key.now ≡ true) c.if-j-eq1.true c.in-Some.ensures in
    let unmarked : get_or seen 1 false ≡ false =
    ap (λ (j : ℕ). get_or seen j false) (sym c.if-j-eq1.true ∙ sym c.from.ensures) ∙ c.if-self-from.false in
    let room : 1 < length seen = omega arith in
    subst (λ (j : ℕ). IsFilled c.args.encoding c.args.self.now.kind (with_last ms c.args.key.now (value_view c.args.value.now))
    c.args.self.now.draft (set seen j true)) (sym at)
    (filled_type c.args.encoding c.args.self.now.kind ms c.args.self.now.draft seen c.args.key.now (value_view c.args.value.now)
    room names unmarked h)

pub returns-in-Ok-clause-ok : goal.returns-in-Ok-clause-ok
returns-in-Ok-clause-ok c = λ ms h.
    let seen : List Bool = c.args.self.now.seen in
    let unmarked : get_or seen c.in-Some.j false ≡ false =
    ap (λ (j : ℕ). get_or seen j false) (sym c.from.ensures) ∙ c.if-self-from.false in
    let room : c.in-Some.j < length seen = omega arith in
    let value : IsFilled c.args.encoding c.args.self.now.kind (with_last ms c.args.key.now (value_view c.args.value.now))
    c.set_value.new.draft (set seen c.in-Some.j true) =
    filled_set c.args.encoding c.args.self.now.kind ms c.args.self.now.draft c.set_value.new.draft seen c.in-Some.j c.args.key.now
    c.in-Ok.ensures.ok.0 room c.in-Some.ensures unmarked h (value_view c.args.value.now) c.in-Ok.ensures.ok.1
    c.in-Ok.ensures.ok.2 in
    subst (λ (j : ℕ). IsFilled c.args.encoding c.args.self.now.kind (with_last ms c.args.key.now (value_view c.args.value.now))
    c.set_value.new.draft (set seen j true)) (sym c.from-2.ensures) value

pub returns-in_default-clause-err : goal.returns-in_default-clause-err
returns-in_default-clause-err c =
    λ ms h. unknown_key c.args.encoding c.args.self.now.kind ms c.args.key.now (value_view c.args.value.now) c.in_default.ensures

pub returns-then-self-from-clause-err : goal.returns-then-self-from-clause-err
returns-then-self-from-clause-err c = λ ms h.
    repeated_key c.args.encoding c.args.self.now.kind ms c.args.key.now (value_view c.args.value.now)
    (h.marked c.in-Some.j c.args.key.now c.in-Some.ensures
    (ap (λ (j : ℕ). get_or c.args.self.now.seen j false) (sym c.from.ensures) ∙ c.if-self-from.true))

pub returns-in-Err-clause-err : goal.returns-in-Err-clause-err
returns-in-Err-clause-err c = λ ms h.
    let unmarked : get_or c.args.self.now.seen c.in-Some.j false ≡ false =
    ap (λ (j : ℕ). get_or c.args.self.now.seen j false) (sym c.from.ensures) ∙ c.if-self-from.false in
    unfit_value c.args.encoding c.args.self.now.kind ms c.args.key.now (value_view c.args.value.now) c.in-Some.j c.in-Some.ensures
    c.if-j-eq1.false (h.marks c.in-Some.j c.args.key.now c.in-Some.ensures unmarked) (c.in-Err.ensures.err h.kind_is)

pub returns-in_default-clause-reason : goal.returns-in_default-clause-reason
returns-in_default-clause-reason c =
    λ ms rest h. unknown_reason c.args.encoding c.args.self.now.kind ms rest c.text_key.result c.args.key.now
    (value_view c.args.value.now) c.text_key.ensures c.in_default.ensures

pub returns-then-self-from-clause-reason : goal.returns-then-self-from-clause-reason
returns-then-self-from-clause-reason c = λ ms rest h.
    repeated_reason c.args.encoding c.args.self.now.kind ms rest c.in-Some.j c.args.key.now (value_view c.args.value.now)
    c.in-Some.ensures
    (h.marked c.in-Some.j c.args.key.now c.in-Some.ensures
    (ap (λ (j : ℕ). get_or c.args.self.now.seen j false) (sym c.from.ensures) ∙ c.if-self-from.true))

pub returns-in-Err-clause-reason : goal.returns-in-Err-clause-reason
returns-in-Err-clause-reason c = λ ms rest h.
    let unmarked : get_or c.args.self.now.seen c.in-Some.j false ≡ false =
    ap (λ (j : ℕ). get_or c.args.self.now.seen j false) (sym c.from.ensures) ∙ c.if-self-from.false in
    value_reason c.args.encoding c.args.self.now.kind ms rest c.in-Some.j c.args.key.now (value_view c.args.value.now)
    c.in-Err.why c.in-Some.ensures (h.marks c.in-Some.j c.args.key.now c.in-Some.ensures unmarked)
    (c.in-Err.ensures.reason h.kind_is)
