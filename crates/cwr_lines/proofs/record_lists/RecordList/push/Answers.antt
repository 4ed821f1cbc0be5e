use Rattle.std.proofs.Common.{◌∙◌, ◌∷◌, ◌++◌, [], List, arith, length, ap, sym}
use Rattle.std.specs.Prelude.{Result, Ok, Err, OnErr}
use Rattle.cwr_fields.specs.declared.kinds.Kind.{Kind}
use Rattle.cwr_lines.specs.declared.record_lists.LineStart.{LineStart}
use Rattle.cwr_fields.specs.Format.Layouts.{line_width}
use Rattle.cwr_lines.specs.Steps.Carried.{record_in}
use Rattle.cwr_lines.proofs.lemmas.KeptRecords.{asks_for_line, asks_for_place, keeps_more, shows_more}
use Rattle.cwr_lines.proofs.record_lists.RecordList.push.Goals as goal

whatever_fails : {A E : Type 0} (r : Result A E) (P : Type 0) → P → OnErr r P
whatever_fails (Ok x) P p = tt
whatever_fails (Err e) P p = p

pub returns-in_err-make_start-clause-asks : goal.returns-in_err-make_start-clause-asks
returns-in_err-make_start-clause-asks c =
    whatever_fails c.from_residual.result _
    (asks_for_place c.self.inside.text.items c.self.inside.starts.items c.args.self.now c.args.next.now c.self.view_is
    c.in_err-make_start.ensures.asks)

pub returns-in_err-add_line-clause-asks : goal.returns-in_err-add_line-clause-asks
returns-in_err-add_line-clause-asks c =
    whatever_fails c.from_residual-in_err-add_line.result _
    (asks_for_line c.self.inside.text.items c.whole_line-line.result.now c.self.inside.starts.items c.args.self.now
    c.args.next.now c.kind.result
    c.self.invariant.0 c.self.view_is (c.whole_line-line.ensures.whole ∙ ap line_width (sym c.kind.ensures.value))
    c.kind.ensures.value c.in_err-add_line.ensures.asks)

pub invariant_of-self-2 : goal.invariant_of-self-2
invariant_of-self-2 c =
    let p : LineStart = record { kind = c.kind.result; start = length c.as_slice.result.now } in
    let start = c.in_ok-make_start.ensures.ok in (
      keeps_more c.self.inside.text.items c.whole_line-line.result.now c.add_line.new.text.items c.self.inside.starts.items
          c.push_reserved.new.self.items p c.args.next.now c.self.invariant.0
          (ap length c.as_slice.ensures.value) (c.whole_line-line.ensures.whole ∙ ap line_width (sym c.kind.ensures.value))
          (c.whole_line-line.ensures.carries
          ∙ ap (λ (k : Kind). record_in k c.whole_line-line.result.now) (sym c.kind.ensures.value))
          c.kind.ensures.fits c.in_ok-add_line.ensures.ok
          (c.push_reserved.ensures.items ∙ ap (λ (l : List LineStart). l ++ p ∷ []) c.make_start.ensures.items),
      (
        c.add_line.ensures.room,
        record {
          holds = omega (arith, start.holds, c.push_reserved.ensures.len, c.make_start.ensures.len);
          within = omega (arith, start.within, c.push_reserved.ensures.capacity);
          power = start.power;
          enough = start.enough;
        },
      ),
    )

pub returns-clause-ok : goal.returns-clause-ok
returns-clause-ok c =
    let p : LineStart = record { kind = c.kind.result; start = length c.as_slice.result.now } in
    shows_more c.self.inside.text.items c.whole_line-line.result.now c.add_line.new.text.items c.self.inside.starts.items
    c.push_reserved.new.self.items p c.args.self.now c.args.next.now c.self.invariant.0 c.self.view_is
    (ap length c.as_slice.ensures.value) (c.whole_line-line.ensures.whole ∙ ap line_width (sym c.kind.ensures.value))
    (c.whole_line-line.ensures.carries ∙ ap (λ (k : Kind). record_in k c.whole_line-line.result.now) (sym c.kind.ensures.value))
    c.in_ok-add_line.ensures.ok
    (c.push_reserved.ensures.items ∙ ap (λ (l : List LineStart). l ++ p ∷ []) c.make_start.ensures.items)
