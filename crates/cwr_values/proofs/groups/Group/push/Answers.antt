use Rattle.std.proofs.Common.{List, [], ◌∷◌, ◌++◌, arith, refl, sym, ap, subst, ◌∙◌}
use Rattle.cwr_fields.specs.declared.codes.TransactionType.{TransactionType}
use Rattle.cwr_lines.specs.Format.Records.{RecordValue}
use Rattle.cwr_values.specs.Format.Values.{GroupValue, type_of}
use Rattle.cwr_values.specs.Format.Begun.{HasHeaderOf}
use Rattle.cwr_values.proofs.lemmas.Grouping.{of_type, takes_more}
use Rattle.cwr_values.proofs.groups.Group.push.Goals as goal

pub make_room-requires-clause-power : goal.make_room-requires-clause-power
make_room-requires-clause-power c = (2, refl)

pub invariant_of-self : goal.invariant_of-self
invariant_of-self c =
    let own : GroupValue =
    record { head = c.self.inside.head; transactions = c.self.inside.transactions.items; foot = c.self.inside.foot } in
    let header : HasHeaderOf (type_of own.head) c.args.transaction =
    subst (λ (ty : TransactionType). HasHeaderOf ty c.args.transaction)
    (c.ty.ensures ∙ sym (ap (λ (g : GroupValue). type_of g.head) c.self.view_is)) (c.is_of.ensures.0 c.if-not-is_of.false) in
    let whole =
    of_type (type_of own.head) c.args.transaction c.complete.ensures.begun header
    (c.complete.ensures.whole.0 c.if-not-complete.false) in
    let added =
    c.push_reserved.ensures.items
    ∙ ap (λ (ts : List (List RecordValue)). ts ++ c.args.transaction ∷ []) c.make_room.ensures.items in
    let room = c.in-Ok.ensures.ok in (
      takes_more own.head own.foot own.transactions c.push_reserved.new.self.items c.args.transaction c.self.invariant.0 whole
          added,
      record {
        holds = omega (arith, room.holds, c.push_reserved.ensures.len, c.make_room.ensures.len);
        within = omega (arith, room.within, c.push_reserved.ensures.capacity);
        power = room.power;
        enough = room.enough;
      },
    )
