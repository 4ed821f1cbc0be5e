use Rattle.std.proofs.Common.{◌≡◌, length, sym, subst}
use Rattle.std.proofs.lemmas.Result.{IfErr-weaker}
use Rattle.cwr_json.specs.Format.Encodings.{StandFor}
use Rattle.cwr_json.proofs.lemmas.Encoded.{one_text}
use Rattle.cwr_write.specs.Format.Faults.{AreBytes}
use Rattle.cwr_write.proofs.lemmas.ByteCells.{fits_bytes, narrow}
use Rattle.cwr_write.proofs.lemmas.CharactersRead.{each_stands, stand_each}
use Rattle.cwr_write.proofs.lemmas.RecordReasons.{bytes_reason, unset_err, wider}
use Rattle.cwr_write.proofs.records.set_each.Goals as goal

pub returns-then-not-are_bytes-clause-err : goal.returns-then-not-are_bytes-clause-err
returns-then-not-are_bytes-clause-err c = λ cell stands fits.
    c.are_bytes.ensures.no c.if-not-are_bytes.true cell (fits_bytes c.args.draft.now.kind c.args.j cell fits).0
    (each_stands c.args.encoding c.args.text.now cell c.requires stands)

pub returns-then-not-are_bytes-clause-reason : goal.returns-then-not-are_bytes-clause-reason
returns-then-not-are_bytes-clause-reason c = λ f at d. (
  d,
  λ cell bytes stands. c.are_bytes.ensures.no c.if-not-are_bytes.true cell bytes
      (each_stands c.args.encoding c.args.text.now cell c.requires stands),
)

pub returns-in-Some-clause-err : goal.returns-in-Some-clause-err
returns-in-Some-clause-err c =
    let stands : StandFor c.args.encoding c.args.text.now c.as_slice.result.now =
    subst (StandFor c.args.encoding c.args.text.now) (sym c.as_slice.ensures.value)
    (stand_each c.args.encoding c.args.text.now c.in-Some.cell.items c.requires c.in-Some.ensures) in
    unset_err c.args.encoding c.args.draft.now.kind c.args.j c.args.text.now c.as_slice.result.now c.set_bytes.result stands
    c.set_bytes.ensures.err

pub returns-in-Some-clause-reason : goal.returns-in-Some-clause-reason
returns-in-Some-clause-reason c =
    let stands : StandFor c.args.encoding c.args.text.now c.as_slice.result.now =
    subst (StandFor c.args.encoding c.args.text.now) (sym c.as_slice.ensures.value)
    (stand_each c.args.encoding c.args.text.now c.in-Some.cell.items c.requires c.in-Some.ensures) in
    let there = c.are_bytes.ensures.yes c.if-not-are_bytes.false in
    let same : there.0 ≡ c.as_slice.result.now =
    one_text c.args.encoding c.args.text.now there.0 c.as_slice.result.now
    (stand_each c.args.encoding c.args.text.now there.0 c.requires there.2) stands in
    let bytes : AreBytes c.as_slice.result.now = subst AreBytes same there.1 in
    IfErr-weaker c.set_bytes.result _ _
    (λ why h f at d. bytes_reason c.args.encoding c.args.draft.now.kind c.args.j f c.args.text.now c.as_slice.result.now why at d
    stands bytes h) c.set_bytes.ensures.reason

pub returns-in-None-clause-err : goal.returns-in-None-clause-err
returns-in-None-clause-err c = λ cell stands fits.
    let b = fits_bytes c.args.draft.now.kind c.args.j cell fits in
    c.in-None.ensures cell b.0 b.1 (each_stands c.args.encoding c.args.text.now cell c.requires stands)

pub returns-in-None-clause-reason : goal.returns-in-None-clause-reason
returns-in-None-clause-reason c = λ f at d.
    let there = c.are_bytes.ensures.yes c.if-not-are_bytes.false in (
      d,
      (
        there.0,
        there.1,
        stand_each c.args.encoding c.args.text.now there.0 c.requires there.2,
        wider f.width (length there.0)
            (narrow c.args.draft.now.kind c.args.j f at) (λ few. c.in-None.ensures there.0 there.1 few there.2),
      ),
    )
