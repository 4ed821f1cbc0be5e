use Rattle.std.proofs.Common.{◌≡◌, ◌+◌, List, Some, refl, sym, ap, ◌∙◌, arith}
use Rattle.std.specs.Prelude.{slice_get}
use Rattle.std.proofs.lemmas.Option.{slice_get_read}
use Rattle.cwr_sent.specs.Format.GroupRows.{GroupRows}
use Rattle.cwr_sent.specs.Format.SentRows.{shown_in}
use Rattle.cwr_state_rows.specs.Steps.HeldPlaces.{group_places}
use Rattle.cwr_state_rows.proofs.lemmas.NumberedMore.{added_on, flat_more}
use Rattle.cwr_state_rows.proofs.places.add_sent.Goals as goal

pub loop-group-preserved : goal.loop-group-preserved
loop-group-preserved c =
    let there : Some c.group-item.result ≡ slice_get (shown_in c.args.sent.now).groups c.loop-group.group-index =
    sym (slice_get_read c.groups-group-items.result.now _ c.loop-group.group-index c.group-item.result refl c.loop-group-test.true
    c.group-item.is)
    ∙ ap (λ (l : List GroupRows). slice_get l c.loop-group.group-index) c.groups-group-items.ensures in
    record {
      place = ap (λ n. n + 1) c.loop-group.invariant.place;
      added =
          added_on _ _ _ _ _ _ c.loop-group.invariant.added c.in_ok-add_group.ensures
          (flat_more (group_places c.args.states.now c.args.files.now) 1 (shown_in c.args.sent.now).groups c.loop-group.group-index
          c.in_ok-number.field-0 c.group-item.result there (omega (arith, c.in_ok-number.ensures, c.loop-group.invariant.place)));
    }
