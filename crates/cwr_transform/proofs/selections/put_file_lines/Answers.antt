use Rattle.cwr_transform.proofs.lemmas.SelectionsTold.{fault_out, lines_out, text_out}
use Rattle.cwr_transform.proofs.selections.put_file_lines.Goals as goal

pub returns-clause-told : goal.returns-clause-told
returns-clause-told g c = λ numbers places ps say knows has.
    lines_out g.W.Target.contents g.W.Target.failures _ c.args.selected.now.outcome c.put_lines_if-put.result c.hand_on.result.1 c.args.lines
    c.hand_on.result.0 c.new-sink.result c.put_lines_if-put.new.sink c.new-sink.ensures.writer c.new-sink.ensures.empty
    c.new-sink.ensures.unfailed c.hand_on.ensures.kept c.hand_on.ensures.failures (c.put_lines_if-put.ensures.told numbers places ps say knows has)

pub returns-clause-fault : goal.returns-clause-fault
returns-clause-fault g c =
    fault_out g.W.Target.contents g.W.Target.failures c.args.selected.now.outcome c.put_lines_if-put.result c.hand_on.result.1 c.args.lines
    c.hand_on.result.0 c.new-sink.result c.put_lines_if-put.new.sink c.new-sink.ensures.writer c.new-sink.ensures.empty
    c.new-sink.ensures.unfailed c.hand_on.ensures.kept c.hand_on.ensures.failures c.put_lines_if-put.ensures.fault

pub returns-clause-none : goal.returns-clause-none
returns-clause-none g c = λ none.
    text_out g.W.Target.contents g.W.Target.failures _ c.put_lines_if-put.result c.hand_on.result.1 c.args.lines
    c.hand_on.result.0 c.new-sink.result c.put_lines_if-put.new.sink c.new-sink.ensures.writer c.new-sink.ensures.empty
    c.new-sink.ensures.unfailed c.hand_on.ensures.kept c.hand_on.ensures.failures (c.put_lines_if-put.ensures.none c.new-sink.ensures.unfailed none)
