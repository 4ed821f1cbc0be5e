use Rattle.std.proofs.Common.{[], ◌∷◌, Option, ap, refl}
use Rattle.std.specs.Prelude.{option_map}
use Rattle.std.specs.Option.{option_to_list}
use Rattle.cwr_values.specs.declared.items.Item.{Item}
use Rattle.cwr_parts.proofs.lemmas.OutputAdded.{may_add, may_begin, may_enter}
use Rattle.cwr_tools.proofs.lemmas.ReportsOn.{same_fault}
use Rattle.cwr_select.specs.Steps.Sent.{sent_item}
use Rattle.cwr_select.proofs.lemmas.ItemsWritten.{all_written, head_failed, may_held, opening_failed, transaction_failed}
use Rattle.cwr_select.proofs.selecting.Selecting.select.Goals as goal

pub put_held-requires-clause-may : goal.put_held-requires-clause-may
put_held-requires-clause-may g c =
    let sent : Option Item → Option Item = option_map (sent_item c.args.works) in
    may_begin g.W.Target.contents (option_to_list (sent c.take.result)) (option_to_list (sent c.args.self.now.held.head))
    (c.args.transaction.now ∷ []) c.args.self.now.encoder
    (may_held g.W.Target.contents (sent c.args.self.now.held.opening) (sent c.take.result) (sent c.args.self.now.held.head)
    (sent c.args.self.now.held.head) c.args.transaction.now c.args.self.now.encoder (ap sent c.take.ensures.value) refl
    c.requires.may)

pub returns-in_err-put_held-clause-writes : goal.returns-in_err-put_held-clause-writes
returns-in_err-put_held-clause-writes g c =
    let sent : Option Item → Option Item = option_map (sent_item c.args.works) in
    opening_failed g.W.Target.contents g.W.Target.failures (sent c.args.self.now.held.opening) (sent c.take.result)
    (sent c.args.self.now.held.head) c.args.transaction.now c.from_residual.result c.in_err-put_held.field-0.0
    c.args.self.now.encoder c.put_held.new.encoder (ap sent c.take.ensures.value)
    (same_fault c.from_residual.result c.in_err-put_held.field-0.0 c.from_residual.ensures.1) c.in_err-put_held.ensures

pub put_held-requires-2-clause-may : goal.put_held-requires-2-clause-may
put_held-requires-2-clause-may g c =
    let sent : Option Item → Option Item = option_map (sent_item c.args.works) in
    may_enter g.W.Target.contents g.W.Target.failures (option_to_list (sent c.take.result))
    (option_to_list (sent c.take-2.result)) (c.args.transaction.now ∷ []) c.args.self.now.encoder c.put_held.new.encoder
    (may_held g.W.Target.contents (sent c.args.self.now.held.opening) (sent c.take.result) (sent c.args.self.now.held.head)
    (sent c.take-2.result) c.args.transaction.now c.args.self.now.encoder (ap sent c.take.ensures.value)
    (ap sent c.take-2.ensures.value) c.requires.may) c.in_ok-put_held.ensures

pub returns-in_err-put_held-2-clause-writes : goal.returns-in_err-put_held-2-clause-writes
returns-in_err-put_held-2-clause-writes g c =
    let sent : Option Item → Option Item = option_map (sent_item c.args.works) in
    head_failed g.W.Target.contents g.W.Target.failures (sent c.args.self.now.held.opening) (sent c.take.result)
    (sent c.args.self.now.held.head) (sent c.take-2.result) c.args.transaction.now c.from_residual-in_err-put_held-2.result
    c.in_err-put_held-2.field-0.0 c.args.self.now.encoder c.put_held.new.encoder c.put_held-2.new.encoder
    (ap sent c.take.ensures.value) (ap sent c.take-2.ensures.value)
    (same_fault c.from_residual-in_err-put_held-2.result c.in_err-put_held-2.field-0.0
    c.from_residual-in_err-put_held-2.ensures.1) c.in_ok-put_held.ensures c.in_err-put_held-2.ensures

pub put-requires-clause-may : goal.put-requires-clause-may
put-requires-clause-may g c =
    let sent : Option Item → Option Item = option_map (sent_item c.args.works) in
    may_add g.W.Target.contents g.W.Target.failures (option_to_list (sent c.take.result))
    (option_to_list (sent c.take-2.result)) (c.args.transaction.now ∷ []) c.args.self.now.encoder c.put_held.new.encoder
    c.put_held-2.new.encoder
    (may_held g.W.Target.contents (sent c.args.self.now.held.opening) (sent c.take.result) (sent c.args.self.now.held.head)
    (sent c.take-2.result) c.args.transaction.now c.args.self.now.encoder (ap sent c.take.ensures.value)
    (ap sent c.take-2.ensures.value) c.requires.may) c.in_ok-put_held.ensures c.in_ok-put_held-2.ensures

pub returns-in_err-put-clause-writes : goal.returns-in_err-put-clause-writes
returns-in_err-put-clause-writes g c =
    let sent : Option Item → Option Item = option_map (sent_item c.args.works) in
    transaction_failed g.W.Target.contents g.W.Target.failures (sent c.args.self.now.held.opening) (sent c.take.result)
    (sent c.args.self.now.held.head) (sent c.take-2.result) c.args.transaction.now c.from_residual-in_err-put.result
    c.in_err-put.field-0.0 c.args.self.now.encoder c.put_held.new.encoder c.put_held-2.new.encoder c.put.new.encoder
    (ap sent c.take.ensures.value) (ap sent c.take-2.ensures.value)
    (same_fault c.from_residual-in_err-put.result c.in_err-put.field-0.0 c.from_residual-in_err-put.ensures.1)
    c.in_ok-put_held.ensures c.in_ok-put_held-2.ensures c.in_err-put.ensures

pub returns-clause-writes : goal.returns-clause-writes
returns-clause-writes g c =
    let sent : Option Item → Option Item = option_map (sent_item c.args.works) in
    all_written g.W.Target.contents g.W.Target.failures (sent c.args.self.now.held.opening) (sent c.take.result)
    (sent c.args.self.now.held.head) (sent c.take-2.result) c.args.transaction.now tt c.args.self.now.encoder
    c.put_held.new.encoder c.put_held-2.new.encoder c.put.new.encoder (ap sent c.take.ensures.value)
    (ap sent c.take-2.ensures.value) c.in_ok-put_held.ensures c.in_ok-put_held-2.ensures c.in_ok-put.ensures
