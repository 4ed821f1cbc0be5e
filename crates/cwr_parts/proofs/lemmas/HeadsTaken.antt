-- A split takes HDR or GRH: it knows it from then on.
use Rattle.std.proofs.Common.{◌≡◌, List, [], ◌∷◌, Some, refl, sym, subst, arith}
use Rattle.cwr_lines.specs.Format.Records.{RecordValue}
use Rattle.cwr_values.specs.declared.items.Item.{Item}
use Rattle.cwr_values.specs.declared.items.Item.TheVariants.{Opened, GroupOpened}
use Rattle.cwr_values.specs.Format.Values.{GroupValue}
use Rattle.cwr_parts.specs.declared.splitting.Splitting.{Splitting}
use Rattle.cwr_parts.specs.Steps.SplitOutputs.{HoldsOutput, Told}
use Rattle.cwr_parts.specs.Steps.SplitStages.{SplitStage, Between, Inside, Start, open_items, parts_at, split_stage_after}
use Rattle.cwr_parts.specs.Steps.SplitItems.{HoldsStage, IsTaken, MayTake}
use Rattle.cwr_parts.proofs.lemmas.StagesOfItems.{adds_none, at_item}

-- ---- HDR

pub opening_taken : {O W : Type 0} (told : Told O W) (r : RecordValue)
    (s : Splitting W) (now : O) (may : MayTake told (Opened r) s now)
    → IsTaken told (split_stage_after s.size may.stage (Opened r)) (parts_at s.size may.stage (Opened r))
    (Opened r) s (record s { opening = Some (Opened r) }) now now
opening_taken {W = W} told r s now may =
    let at : may.stage ≡ Start = at_item s.limits s.size may.value may.whole may.stage (Opened r) may.rest may.remains in
    let had = subst (λ (p : SplitStage). HoldsStage told p s now) at may.holds in
    let next : Splitting W = record s { opening = Some (Opened r) } in
    subst (λ (p : SplitStage). IsTaken told (split_stage_after s.size p (Opened r))
    (parts_at s.size p (Opened r)) (Opened r) s next now now) (sym at) (record {
      holds =
          record {
            opening = refl;
            head = tt;
            output = had.output;
            count = had.count;
            group = had.group;
            none = had.none;
            counted = had.counted;
          };
      texts = adds_none (told.texts now) (told.texts now) refl;
      counts = record { failures = refl; given_up = refl };
      limits = refl;
      size = refl;
      outputs = omega arith;
      transactions = omega arith;
    })

-- ---- GRH

same_items : (o : RecordValue) (closed : List GroupValue) (h : RecordValue)
    → open_items (Between o closed) ≡ open_items (Inside o closed h [])
same_items o [] h = refl
same_items o (g ∷ gs) h = refl

pub head_taken : {O W : Type 0} (told : Told O W) (r : RecordValue)
    (s : Splitting W) (now : O) (may : MayTake told (GroupOpened r) s now)
    → IsTaken told (split_stage_after s.size may.stage (GroupOpened r))
    (parts_at s.size may.stage (GroupOpened r)) (GroupOpened r) s (record s { head = Some (GroupOpened r) }) now now
head_taken {W = W} told r s now may =
    let at = at_item s.limits s.size may.value may.whole may.stage (GroupOpened r) may.rest may.remains in
    let o : RecordValue = at.0 in
    let closed : List GroupValue = at.1 in
    let had = subst (λ (p : SplitStage). HoldsStage told p s now) at.2 may.holds in
    let next : Splitting W = record s { head = Some (GroupOpened r) } in
    subst (λ (p : SplitStage). IsTaken told (split_stage_after s.size p (GroupOpened r))
    (parts_at s.size p (GroupOpened r)) (GroupOpened r) s next now now) (sym at.2) (record {
      holds = record {
        opening = had.opening;
        head = refl;
        output =
            subst (λ (l : List Item). HoldsOutput told.contents told.writer_failures s.limits (told.texts now) l s.output)
            (same_items o closed r)
            had.output;
        count = omega (arith, had.count);
        group = had.group;
        none = λ e. had.none (omega (arith, e));
        counted = omega (arith, had.counted);
      };
      texts = adds_none (told.texts now) (told.texts now) refl;
      counts = record { failures = refl; given_up = refl };
      limits = refl;
      size = refl;
      outputs = omega arith;
      transactions = omega arith;
    })
