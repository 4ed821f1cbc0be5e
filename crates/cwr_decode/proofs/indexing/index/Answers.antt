use Rattle.std.proofs.Common.{rules, ℕ, ◌+◌, ◌-◌, ◌≤◌, Bool, List, Option, map, take, drop, length, refl, sym, subst, ◌∙◌, arith}
use Rattle.std.specs.Prelude.{IfSome, IsNone}
use Rattle.std.proofs.lemmas.List.{length-drop}
use Rattle.cwr_shape.specs.declared.symbols.Symbol.{Symbol}
use Rattle.cwr_values.specs.Format.Values.{symbol_of}
use Rattle.cwr_decode.specs.Steps.TextLines.{AcceptsLine}
use Rattle.cwr_decode.proofs.lemmas.WalkedText.{all_left}
use Rattle.cwr_decode.specs.declared.indexing.Accepted.{Accepted}
use Rattle.cwr_decode.specs.Steps.TakenLines.{RefusesText, TakesLine}
use Rattle.cwr_decode.proofs.lemmas.IndexedText.{ends_accepted, ends_refused, ends_truncated, indexed_more, indexed_none}
use Rattle.cwr_decode.proofs.indexing.index.Goals as goal

pub lines-init : goal.lines-init
lines-init c = (
  indexed_none c.args.limits c.args.text.now c.new-tally.result c.args.entries.now c.new-tally.ensures.limits
      c.new-tally.ensures.in_range c.new-tally.ensures.stands,
  c.new-line.ensures,
)

pub overflow_add-used : goal.overflow_add-used
overflow_add-used c =
    let i = c.lines.invariant.0 in
    let xs : List Symbol = map symbol_of i.walked.records in
    let t : TakesLine c.lines.tally xs (drop c.lines.used c.args.text.now) c.in-Ok-Some.accepted c.take_line.new.tally =
    subst (λ (rest : List ℕ). TakesLine c.lines.tally xs rest c.in-Ok-Some.accepted c.take_line.new.tally)
    (all_left c.lines.used c.args.text.now)
    (subst (λ (o : Option Accepted). IfSome o (λ got. TakesLine c.lines.tally xs
    (take (length c.args.text.now - c.lines.used) (drop c.lines.used c.args.text.now)) got
    c.take_line.new.tally)) c.in-Ok-Some.field-0-is (c.in-Ok-Some.ensures.some xs i.walked.read.counted)) in
    let within : c.lines.used + c.in-Ok-Some.accepted.taken ≤ length c.args.text.now =
    omega (arith, t.first.within, length-drop c.lines.used c.args.text.now, i.walked.within) in
    search rules

pub returns-then-accepted : goal.returns-then-accepted
returns-then-accepted c =
    let i = c.lines.invariant.0 in
    let xs : List Symbol = map symbol_of i.walked.records in
    let t : TakesLine c.lines.tally xs (drop c.lines.used c.args.text.now) c.in-Ok-Some.accepted c.take_line.new.tally =
    subst (λ (rest : List ℕ). TakesLine c.lines.tally xs rest c.in-Ok-Some.accepted c.take_line.new.tally)
    (all_left c.lines.used c.args.text.now)
    (subst (λ (o : Option Accepted). IfSome o (λ got. TakesLine c.lines.tally xs
    (take (length c.args.text.now - c.lines.used) (drop c.lines.used c.args.text.now)) got
    c.take_line.new.tally)) c.in-Ok-Some.field-0-is (c.in-Ok-Some.ensures.some xs i.walked.read.counted)) in
    ends_accepted c.args.limits c.args.text.now c.lines.used c.in-Ok-Some.accepted.taken c.records-records.result c.lines.tally
    c.take_line.new.tally t.line c.args.entries.now c.lines.entries c.put_entry.new.entries _ i t.first
    (subst (λ (b : Bool). AcceptsLine c.lines.tally xs t.line b c.take_line.new.tally) c.if-accepted.true t.accepted)
    (c.records-records.ensures.counted xs i.walked.read.counted)
    (record {
      at = refl;
      within = t.few;
      value = t.body;
      group = c.groups.ensures.counted;
      transaction = c.transactions.ensures.counted;
    }) c.put_entry.ensures

pub lines-smaller : goal.lines-smaller
lines-smaller c =
    let i = c.lines.invariant.0 in
    let xs : List Symbol = map symbol_of i.walked.records in
    let t : TakesLine c.lines.tally xs (drop c.lines.used c.args.text.now) c.in-Ok-Some.accepted c.take_line.new.tally =
    subst (λ (rest : List ℕ). TakesLine c.lines.tally xs rest c.in-Ok-Some.accepted c.take_line.new.tally)
    (all_left c.lines.used c.args.text.now)
    (subst (λ (o : Option Accepted). IfSome o (λ got. TakesLine c.lines.tally xs
    (take (length c.args.text.now - c.lines.used) (drop c.lines.used c.args.text.now)) got
    c.take_line.new.tally)) c.in-Ok-Some.field-0-is (c.in-Ok-Some.ensures.some xs i.walked.read.counted)) in
    omega (arith, t.first.some, t.first.within, length-drop c.lines.used c.args.text.now, i.walked.within)

pub lines-preserved : goal.lines-preserved
lines-preserved c =
    let i = c.lines.invariant.0 in
    let xs : List Symbol = map symbol_of i.walked.records in
    let t : TakesLine c.lines.tally xs (drop c.lines.used c.args.text.now) c.in-Ok-Some.accepted c.take_line.new.tally =
    subst (λ (rest : List ℕ). TakesLine c.lines.tally xs rest c.in-Ok-Some.accepted c.take_line.new.tally)
    (all_left c.lines.used c.args.text.now)
    (subst (λ (o : Option Accepted). IfSome o (λ got. TakesLine c.lines.tally xs
    (take (length c.args.text.now - c.lines.used) (drop c.lines.used c.args.text.now)) got
    c.take_line.new.tally)) c.in-Ok-Some.field-0-is (c.in-Ok-Some.ensures.some xs i.walked.read.counted)) in (
      indexed_more c.args.limits c.args.text.now c.lines.used c.in-Ok-Some.accepted.taken c.records-records.result c.lines.tally
          c.take_line.new.tally t.line c.args.entries.now c.lines.entries c.put_entry.new.entries _ i t.first
          (subst (λ (b : Bool). AcceptsLine c.lines.tally xs t.line b c.take_line.new.tally) c.if-accepted.false t.accepted)
          (c.records-records.ensures.counted xs i.walked.read.counted)
          (record {
            at = refl;
            within = t.few;
            value = t.body;
            group = c.groups.ensures.counted;
            transaction = c.transactions.ensures.counted;
          }) c.put_entry.ensures,
      c.in-Ok-Some.ensures.line refl,
    )

pub returns-in-Ok-None : goal.returns-in-Ok-None
returns-in-Ok-None c =
    let i = c.lines.invariant.0 in
    let xs : List Symbol = map symbol_of i.walked.records in
    ends_truncated c.args.limits c.args.text.now c.lines.used c.records-records.result c.lines.tally c.args.entries.now c.lines.entries i (sym (all_left
    c.lines.used c.args.text.now) ∙ (c.in-Ok-None.ensures.none
    (subst (λ (o : Option Accepted). IsNone o) (sym c.in-Ok-None.field-0-is) refl)).0) (c.records-records.ensures.counted xs i.walked.read.counted)

pub returns-in-Err : goal.returns-in-Err
returns-in-Err c =
    let i = c.lines.invariant.0 in
    let xs : List Symbol = map symbol_of i.walked.records in
    let r : RefusesText c.lines.tally xs (drop c.lines.used c.args.text.now) c.in-Err.refusal =
    subst (λ (rest : List ℕ). RefusesText c.lines.tally xs rest c.in-Err.refusal) (all_left c.lines.used c.args.text.now)
    (c.in-Err.ensures.err xs i.walked.read.counted) in
    ends_refused c.args.limits c.args.text.now c.lines.used r.taken c.records-records.result c.lines.tally r.line
    c.args.entries.now c.lines.entries c.in-Err.refusal i r.first r.refused
    (c.records-records.ensures.counted xs i.walked.read.counted)
