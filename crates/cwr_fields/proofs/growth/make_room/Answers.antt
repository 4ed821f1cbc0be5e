use Rattle.std.proofs.Common.{ap, arith, length, ◌∙◌, sym}
use Rattle.std.specs.Prelude.{◌≡◌, Result, Ok, Err, OnErr, vec_len}
use Rattle.cwr_fields.proofs.growth.make_room.Goals as goal

whatever_fails : {A E : Type 0} (r : Result A E) (P : Type 0) → P → OnErr r P
whatever_fails (Ok x) P p = tt
whatever_fails (Err e) P p = p

pub returns-clause-asks : goal.returns-clause-asks
returns-clause-asks g c =
    let room = c.requires.room in
    let count : length c.args.list.now.items ≡ vec_len c.args.list.now =
    ap length (sym c.as_slice-len.ensures.value) ∙ c.as_slice-len.ensures.len in
    whatever_fails c.grow.result _ (λ some. (
      c.args.room,
      (
        room.power (omega (
          arith,
          some,
          count,
          room.holds,
        )),
        (
          room.enough (omega (arith, some, count, room.holds)),
          (
            omega (arith, count, room.holds),
            omega (arith, count, room.holds, c.as_slice-len.ensures.len, c.if-more-room.false),
          ),
        ),
      ),
    ))
