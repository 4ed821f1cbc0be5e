-- What was read last, from item to item and at the end of a run.
use Rattle.std.proofs.Common.{◌≡◌, ℕ, List, [], ◌++◌, Option, Some, None, sym, subst, ◌∙◌}
use Rattle.std.specs.Prelude.{Result, Err, IfOk, IfSome, IsSomeAnd}
use Rattle.std.specs.Io.KnownBytes.{Consumes}
use Rattle.std.proofs.KnownBytes.{Consumes-nil}
use Rattle.std.proofs.lemmas.List.{append_cancel_right}
use Rattle.cwr_shape.specs.declared.limits.Limits.{Limits}
use Rattle.cwr_values.specs.declared.items.Item.{Item}
use Rattle.cwr_decode.specs.declared.last_bytes.LastBytes.{LastBytes}
use Rattle.cwr_decode.specs.declared.readings.LastRead.{LastRead}
use Rattle.cwr_decode.specs.declared.readings.ReadFault.{ReadFault}
use Rattle.cwr_decode.specs.declared.readings.ReadFault.TheVariants as faults
use Rattle.cwr_decode.specs.Steps.LastReads.{AreHeld, HoldsLast, IsFrontOf, ReadsLast}
use Rattle.cwr_decode.proofs.lemmas.LastHeld.{reads_on}
use Rattle.cwr_tools.specs.declared.verdicts.Verdict.{Verdict}
use Rattle.cwr_tools.specs.declared.verdicts.Verdict.TheVariants.{Good}
use Rattle.cwr_tools.specs.declared.verdicts.ToolFault.{ToolFault}
use Rattle.cwr_tools.specs.Format.Verdicts.{IsVerdictOf}
use Rattle.cwr_tools.specs.Steps.Verdicts.{IsReadLast, StopsAfter, StopsAt}

-- just the bytes that the reader lost were read, and the last of them are held
pub record HoldsRead (before now : Option (List ℕ)) (last : Option LastBytes) : Type 0 where
  pub read : List ℕ
  pub consumed : Consumes before now read
  pub held : AreHeld read last

pub holds_none : (before : Option (List ℕ)) (last : Option LastBytes) → AreHeld [] last → HoldsRead before before last
holds_none before last h = record { read = []; consumed = Consumes-nil before; held = h }

pub holds_more : (before left after : Option (List ℕ)) (old new : Option LastBytes) → HoldsRead before left old
    → ReadsLast left after old new → HoldsRead before after new
holds_more before left after old new h r =
    let on =
    reads_on before left after old new h.read h.consumed h.held r in
    record { read = h.read ++ r.bytes; consumed = on.0; held = on.1 }

-- known bytes are lost in one way
consumed_once : (before after : Option (List ℕ)) (xs ys : List ℕ) → Consumes before after xs → Consumes before after ys
    → IfSome before (λ text. xs ≡ ys)
consumed_once None after xs ys p q = tt
consumed_once (Some text) None xs ys p q = absurd p
consumed_once (Some text) (Some rest) xs ys p q = append_cancel_right xs ys rest (sym p ∙ q)

-- what is held is of the bytes that the decoder was fed
held_of_stop : (before after : Option (List ℕ)) (input : List ℕ) (last : LastBytes) → Consumes before after input
    → HoldsRead before after (Some last) → IfSome before (λ text. HoldsLast input last)
held_of_stop before after input last c h = by before (consumed_once before after h.read input h.consumed c)
  where
    by : (b : Option (List ℕ)) → IfSome b (λ text. h.read ≡ input) → IfSome b (λ text. HoldsLast input last)
    by None e = tt
    by (Some text) e = subst (λ (l : List ℕ). HoldsLast l last) e h.held

stopped_at : (limits : Limits) (fault : ReadFault) (before after : Option (List ℕ)) (given : List Item) (last : LastRead)
    → (stop : StopsAfter limits fault before after given)
    → IsFrontOf last stop.0.decoder → HoldsRead before after (Some last.bytes) → StopsAt limits fault before after last
stopped_at limits fault before after given last stop front h =
    (stop.0, front, held_of_stop before after stop.0.read.input last.bytes stop.0.read.consumed h)

-- the run stopped with that fault
fault_last : (limits : Limits) (before after : Option (List ℕ)) (given : List Item) (last : LastRead) (fault : ReadFault)
    (result : Result Verdict ToolFault) → (stop : StopsAfter limits fault before after given)
    → IsFrontOf last stop.0.decoder → HoldsRead before after (Some last.bytes) → IsVerdictOf fault result
    → IfOk result (λ verdict. IsSomeAnd (Some last) (IsReadLast limits before after verdict))
fault_last limits before after given last faults.Reader result stop front h e =
    subst (λ (r : Result Verdict ToolFault). IfOk r (λ verdict. IsSomeAnd (Some last) (IsReadLast limits before after verdict)))
    (sym e) tt
fault_last limits before after given last faults.Memory result stop front h e =
    subst (λ (r : Result Verdict ToolFault). IfOk r (λ verdict. IsSomeAnd (Some last) (IsReadLast limits before after verdict)))
    (sym e) tt
fault_last limits before after given last (faults.Refused refusal) result stop front h e =
    subst (λ (r : Result Verdict ToolFault). IfOk r (λ verdict. IsSomeAnd (Some last) (IsReadLast limits before after verdict)))
    (sym e)
    (stopped_at limits (faults.Refused refusal) before after given last stop front h)
fault_last limits before after given last (faults.Truncated records) result stop front h e =
    subst (λ (r : Result Verdict ToolFault). IfOk r (λ verdict. IsSomeAnd (Some last) (IsReadLast limits before after verdict)))
    (sym e)
    (stopped_at limits (faults.Truncated records) before after given last stop front h)

-- all was read
good_last : (limits : Limits) (before after : Option (List ℕ)) (last : LastRead) (verdict : Verdict)
    (groups transactions records : ℕ) → verdict ≡ Good groups transactions records → HoldsRead before after (Some last.bytes)
    → IsReadLast limits before after verdict last
good_last limits before after last verdict groups transactions records e h =
    subst (λ (v : Verdict). IsReadLast limits before after v last) (sym e) (h.read, h.consumed, h.held)

-- what was read last is answered where the last bytes are held
abbrev pub AnswersHeld : (held : Option LastBytes) (answered : Option LastRead) → Type 0
AnswersHeld held answered = (read : List ℕ) → AreHeld read held → IsSomeAnd answered (λ last. HoldsLast read last.bytes)

answers_read : (before after : Option (List ℕ)) (held : Option LastBytes) (last : LastRead) → HoldsRead before after held
    → AnswersHeld held (Some last) → HoldsRead before after (Some last.bytes)
answers_read before after held last h same = record { read = h.read; consumed = h.consumed; held = same h.read h.held }

-- so it is answered with that fault
pub fault_answered : (limits : Limits) (before after : Option (List ℕ)) (given : List Item) (held : Option LastBytes)
    (answered : Option LastRead) (fault : ReadFault) (result : Result Verdict ToolFault)
    → (stop : StopsAfter limits fault before after given)
    → IfSome answered (λ last. IsFrontOf last stop.0.decoder)
    → HoldsRead before after held → AnswersHeld held answered → IsVerdictOf fault result
    → IfOk result (λ verdict. IsSomeAnd answered (IsReadLast limits before after verdict))
fault_answered limits before after given held None fault result stop front h same e = absurd (same h.read h.held)
fault_answered limits before after given held (Some last) fault result stop front h same e =
    fault_last limits before after given last fault result stop front (answers_read before after held last h same) e

-- and where all was read
pub good_answered : (limits : Limits) (before after : Option (List ℕ)) (held : Option LastBytes) (answered : Option LastRead)
    (verdict : Verdict) (groups transactions records : ℕ) → verdict ≡ Good groups transactions records
    → HoldsRead before after held → AnswersHeld held answered → IsSomeAnd answered (IsReadLast limits before after verdict)
good_answered limits before after held None verdict groups transactions records e h same = absurd (same h.read h.held)
good_answered limits before after held (Some last) verdict groups transactions records e h same =
    good_last limits before after last verdict groups transactions records e (answers_read before after held last h same)

-- a fault says nothing
pub err_last : (limits : Limits) (before after : Option (List ℕ)) (last : Option LastRead) (result : Result Verdict ToolFault)
    (fault : ToolFault) → result ≡ Err fault → IfOk result (λ verdict. IsSomeAnd last (IsReadLast limits before after verdict))
err_last limits before after last result fault e =
    subst (λ (r : Result Verdict ToolFault). IfOk r (λ verdict. IsSomeAnd last (IsReadLast limits before after verdict))) (sym e)
    tt
