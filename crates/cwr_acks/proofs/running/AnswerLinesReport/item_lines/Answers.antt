use Rattle.std.proofs.Common.{Bool, [], ◌∷◌, ◌++◌, ap, length, sym, refl, ◌∙◌}
use Rattle.std.specs.Prelude.{◌&&◌}
use Rattle.cwr_acks.specs.declared.counts.Answers.{Answers}
use Rattle.cwr_acks.specs.Format.AckLines.{keeps_of, telling_of}
use Rattle.cwr_acks.specs.Steps.AckSteps.{held_if, kept_if, lines_at, lines_of_held, notes_if}
use Rattle.cwr_acks.proofs.lemmas.LinesOfItems.{answers_of_more, answers_of_room, held_after_more}
use Rattle.cwr_acks.proofs.lemmas.OneItem.{lines_added, still_some}
use Rattle.cwr_tools.proofs.lemmas.ReportSteps.{memory_refused, next_added, next_lines}
use Rattle.cwr_acks.proofs.running.AnswerLinesReport.item_lines.Goals as goal

pub lines_at-requires : goal.lines_at-requires
lines_at-requires g c = ap (λ (a : Answers). length a.by_status) c.requires.stands.3.2

pub count_answer-requires : goal.count_answer-requires
count_answer-requires g c =
    let s = c.requires.stands in answers_of_room c.args.self.now.answers c.args.arg3.now s.1 s.3.2 s.2 c.requires.room

pub returns-in_err-notes-clause-adds : goal.returns-in_err-notes-clause-adds
returns-in_err-notes-clause-adds g c = λ of given counted here.
    let self = c.args.self.now in
    let telling = telling_of self.manner in
    let held = held_if self.delivery in
    let item = c.args.item.now in
    let text = lines_at telling (kept_if held item) (notes_if held item) self.answers item in
    next_lines g.W.Target.contents g.W.Target.failures of (lines_of_held telling g.B.Before.held) given item text
    c.from_residual.result c.args.pen.now c.args.pen.now here.0
    (lines_added telling g.B.Before.held held (kept_if held item) (notes_if held item) self.answers given item here.1 here.2 refl refl)
    (memory_refused g.W.Target.contents g.W.Target.failures _ text c.from_residual.result _ c.args.pen.now c.args.pen.now
    c.from_residual.ensures.1 (
      ap (λ (b : Bool). b && keeps_of item) (sym (still_some self.delivery g.B.Before.held given here.1)) ∙ c.in_err-notes.ensures.asks,
      refl,
    ))

pub returns-clause-adds : goal.returns-clause-adds
returns-clause-adds g c = λ of given counted here.
    let self = c.args.self.now in
    let telling = telling_of self.manner in
    next_added of (lines_of_held telling g.B.Before.held) given c.args.item.now here.0
    (lines_added telling g.B.Before.held (held_if self.delivery) (held_if c.keep_item_if.new.delivery) c.in_ok-notes.notes
    self.answers given c.args.item.now here.1 here.2 c.in_ok-notes.ensures.kept c.in_ok-notes.ensures.notes) c.lines_at.ensures

pub returns-clause-stands : goal.returns-clause-stands
returns-clause-stands g c = λ of given counted here.
    let self = c.args.self.now in
    let more = given ++ c.args.item.now ∷ [] in (
      here.0,
      c.in_ok-notes.ensures.kept ∙ held_after_more g.B.Before.held (held_if self.delivery) given c.args.item.now here.1,
      c.count_answer.ensures ∙ answers_of_more self.answers given c.args.item.now here.2,
    )
