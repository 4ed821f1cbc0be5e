use Rattle.std.proofs.Common.{ℕ, Bool, cond, List, [], ◌∷◌, ◌++◌, take, sym, subst, ap, ◌∙◌, arith}
use Rattle.cwr_notes.specs.Format.FindingNotes.{positions}
use Rattle.cwr_notes.specs.Steps.OtherRecords.{AreListed, is_other}
use Rattle.cwr_notes.proofs.lemmas.OthersListed.{places_taken}
use Rattle.cwr_notes.proofs.other_records.positions_of.Goals as goal

pub loop-at-preserved : goal.loop-at-preserved
loop-at-preserved c =
    let there = sym c.record.ensures.value ∙ c.in-Some.is in
    record {
      found = subst (λ (all : List ℕ). AreListed all c.add_if.new.self)
          (ap (λ (b : Bool). positions (is_other c.args.rule) (take c.loop-at.at c.args.transaction.now)
          ++ cond b (c.loop-at.at ∷ []) []) c.is_other.ensures
          ∙ sym (places_taken (is_other c.args.rule) c.args.transaction.now c.loop-at.at c.in-Some.shown there))
          (c.add_if.ensures.listed _ c.loop-at.invariant.found);
      few = omega (arith, c.add_if.ensures.count, c.loop-at.invariant.few);
    }
