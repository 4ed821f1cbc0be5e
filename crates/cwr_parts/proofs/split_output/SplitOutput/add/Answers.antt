use Rattle.std.proofs.Common.{List, [], ◌∷◌, sym, subst}
use Rattle.cwr_values.specs.declared.items.Item.{Item}
use Rattle.cwr_parts.specs.Steps.SplitOutputs.{MayPut, PutsOn, head_of, opening_of}
use Rattle.std.specs.Prelude.{Ok}
use Rattle.cwr_parts.proofs.lemmas.WritersCounted.{bytes_then}
use Rattle.cwr_parts.proofs.lemmas.OutputAdded.{all_added, may_add, may_begin, may_enter, same_head}
use Rattle.cwr_parts.proofs.split_output.SplitOutput.add.Goals as goal

pub begin-requires-clause-may : goal.begin-requires-clause-may
begin-requires-clause-may g c =
    may_begin g.W.Target.contents (opening_of c.args.opening.now c.args.self.now) (head_of c.args.head.now c.args.self.now)
    (c.args.transaction.now ∷ []) c.args.self.now.encoder c.requires.may

pub enter_group-requires-clause-may : goal.enter_group-requires-clause-may
enter_group-requires-clause-may g c =
    let same = same_head c.args.head.now c.args.self.now c.begin.new.self c.begin.ensures.group in
    subst (λ (l : List Item). MayPut g.W.Target.contents l c.begin.new.self.encoder) (sym same)
    (may_enter g.W.Target.contents g.W.Target.failures (opening_of c.args.opening.now c.args.self.now)
    (head_of c.args.head.now c.args.self.now) (c.args.transaction.now ∷ []) c.args.self.now.encoder c.begin.new.self.encoder
    c.requires.may c.in_ok-begin.ensures.puts)

pub put-requires-clause-may : goal.put-requires-clause-may
put-requires-clause-may g c =
    let same = same_head c.args.head.now c.args.self.now c.begin.new.self c.begin.ensures.group in
    let entered =
    subst (λ (l : List Item). PutsOn g.W.Target.contents g.W.Target.failures l c.begin.new.self.encoder
    c.enter_group.new.self.encoder) same c.in_ok-enter_group.ensures.puts in
    may_add g.W.Target.contents g.W.Target.failures (opening_of c.args.opening.now c.args.self.now)
    (head_of c.args.head.now c.args.self.now) (c.args.transaction.now ∷ []) c.args.self.now.encoder c.begin.new.self.encoder
    c.enter_group.new.self.encoder c.requires.may c.in_ok-begin.ensures.puts entered

pub returns-clause-puts : goal.returns-clause-puts
returns-clause-puts g c =
    let same = same_head c.args.head.now c.args.self.now c.begin.new.self c.begin.ensures.group in
    let entered =
    subst (λ (l : List Item). PutsOn g.W.Target.contents g.W.Target.failures l c.begin.new.self.encoder
    c.enter_group.new.self.encoder) same c.in_ok-enter_group.ensures.puts in
    all_added g.W.Target.contents g.W.Target.failures (opening_of c.args.opening.now c.args.self.now)
    (head_of c.args.head.now c.args.self.now) (c.args.transaction.now ∷ []) c.args.self.now.encoder c.begin.new.self.encoder
    c.enter_group.new.self.encoder c.put.new.encoder c.in_ok-begin.ensures.puts entered c.in_ok-put.ensures.puts

pub returns-clause-written : goal.returns-clause-written
returns-clause-written g c =
    bytes_then g.W.Target.contents tt (Ok tt) c.args.self.now.encoder c.enter_group.new.self.encoder c.put.new.encoder
    (bytes_then g.W.Target.contents tt (Ok tt) c.args.self.now.encoder c.begin.new.self.encoder c.enter_group.new.self.encoder
    c.in_ok-begin.ensures.written c.in_ok-enter_group.ensures.written)
    c.in_ok-put.ensures.written
