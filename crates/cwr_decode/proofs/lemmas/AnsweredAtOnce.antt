-- What is answered before a piece is looked at.
use Rattle.std.proofs.Common.{◌≡◌, ℕ, Bool, false, List, [], ◌++◌, Option, Some, None, refl, sym, ap, subst, ◌∙◌, append-nil}
use Rattle.std.proofs.Common.{arith, true≢false}
use Rattle.std.specs.Prelude.{IfSome}
use Rattle.cwr_lines.specs.Format.Records.{RecordValue}
use Rattle.cwr_lines.specs.Steps.Held.{held_record}
use Rattle.cwr_shape.specs.Format.Ranges.{LimitValues}
use Rattle.cwr_decode.specs.declared.outcomes.Outcome.{Outcome}
use Rattle.cwr_decode.specs.declared.outcomes.Outcome.TheVariants as outcomes
use Rattle.cwr_decode.specs.declared.machine.State.{State}
use Rattle.cwr_decode.specs.declared.machine.State.TheVariants as states
use Rattle.cwr_decode.specs.Steps.Machines.{Standing, IsReady, Settles, EntersHeld, again}
use Rattle.cwr_decode.specs.Steps.Represents.{IsRight, items_out}
use Rattle.cwr_decode.specs.Steps.Calls.{CarriesOn, IsLive, Feeds, seen_input}
use Rattle.cwr_decode.proofs.lemmas.StepsWithoutBytes.{IsPlain, carried_same, settled, enters_rest}
use Rattle.cwr_decode.proofs.lemmas.RightAnswers.{plain_right}

-- ---- what is answered before the piece is looked at

-- what is settled without an answer was live
pub settles_live : (st : State) (d new : Standing) → Settles st d None new → IsLive st
settles_live states.Reading d new e = refl
settles_live states.Pending d new e = refl
settles_live states.Ended d new e = absurd (cc e.0)
settles_live (states.Refused r) d new e = absurd (cc e.0)
settles_live (states.Truncated n) d new e = absurd (cc e.0)
settles_live states.Memory d new e = absurd (cc e.0)

-- a live state settles with an item or out of memory
pub settles_plain : (st : State) (d new : Standing) (o : Outcome) → IsLive st → Settles st d (Some o) new → IsPlain o
settles_plain states.Reading d new o l e = absurd (cc e.0)
settles_plain states.Pending d new o l e = by (held_record d.line) e
  where
    by : (r : Option RecordValue) → EntersHeld r d (Some o) new → IsPlain o
    by None k = absurd k
    by (Some r) k = (enters_rest r.kind r d (Some o) new k).plain
settles_plain states.Ended d new o l e = absurd (cc l)
settles_plain (states.Refused r) d new o l e = absurd (cc l)
settles_plain (states.Truncated n) d new o l e = absurd (cc l)
settles_plain states.Memory d new o l e = absurd (cc l)

-- what is live and answers without a byte has a record that waits
pub settles_pending : (st : State) (d new : Standing) (o : Outcome) → IsLive st → Settles st d (Some o) new → st ≡ states.Pending
settles_pending states.Reading d new o l e = absurd (cc e.0)
settles_pending states.Pending d new o l e = refl
settles_pending states.Ended d new o l e = absurd (cc l)
settles_pending (states.Refused r) d new o l e = absurd (cc l)
settles_pending (states.Truncated n) d new o l e = absurd (cc l)
settles_pending states.Memory d new o l e = absurd (cc l)

one_outcome : (o p : Outcome) → Some o ≡ Some p → o ≡ p
one_outcome o p e = cc e

-- what was answered for good is answered again
pub settles_again : (st : State) (d new : Standing) (o : Outcome) → Settles st d (Some o) new
    → IfSome (again st) (λ p. (o ≡ p) × (new ≡ d))
settles_again states.Reading d new o e = tt
settles_again states.Pending d new o e = tt
settles_again states.Ended d new o e = (one_outcome o outcomes.Done e.0, e.1)
settles_again (states.Refused r) d new o e = (one_outcome o (outcomes.Refused r) e.0, e.1)
settles_again (states.Truncated n) d new o e = (one_outcome o (outcomes.Truncated n) e.0, e.1)
settles_again states.Memory d new o e = (one_outcome o outcomes.Memory e.0, e.1)

pub settles_more : (st : State) (d new : Standing) → Settles st d (Some outcomes.More) new → ⊥
settles_more states.Reading d new e = absurd (cc e.0)
settles_more states.Pending d new e = settles_plain states.Pending d new outcomes.More refl e
settles_more states.Ended d new e = absurd (cc e.0)
settles_more (states.Refused r) d new e = absurd (cc e.0)
settles_more (states.Truncated n) d new e = absurd (cc e.0)
settles_more states.Memory d new e = absurd (cc e.0)

pub if_some : (o : Option Outcome) (P Q : Outcome → Type 0) → ((p : Outcome) → P p → Q p) → IfSome o P → IfSome o Q
if_some None P Q f h = tt
if_some (Some p) P Q f h = f p h

-- it is answered with no byte used
pub settled_feeds : (old new : Standing) (piece : List ℕ) (o : Outcome) → IsReady old.state old.finished old.line
    → old.finished ≡ false → Settles old.state old (Some o) new → Feeds old piece 0 o new
settled_feeds old new piece o ready fresh e =
    let m = settled old.state old new (Some o) refl ready e in
    let on : CarriesOn old piece 0 (Some o) old.finished new =
    carried_same old new (λ input. input) (λ input. input ++ []) old.finished old.finished (Some o)
    (λ input. sym (append-nil input)) refl m.carries in
    record {
      carries = on;
      within = omega arith;
      right = λ l input given st.
          subst (λ (b : Bool). IsRight old.tally.limits o b (input ++ []) (seen_input b input piece) (given ++ items_out o))
          (sym fresh)
          (subst (λ (k : LimitValues). IsRight k o false (input ++ []) (input ++ piece) (given ++ items_out o)) on.limits
          (plain_right new o false (input ++ []) (input ++ piece) piece (given ++ items_out o) (on.finished ∙ fresh)
          (ap (λ (x : List ℕ). x ++ piece) (sym (append-nil input))) (λ z. absurd (true≢false (sym z)))
          (on.stands input given st) on.leaves (settles_plain old.state old new o l e)));
      again =
          if_some (again old.state) (λ p. (o ≡ p) × (new ≡ old)) (λ p. (o ≡ p) × (0 ≡ 0) × (new ≡ old)) (λ p h. (h.0, refl, h.1))
          (settles_again old.state old new o e);
      more = λ q. absurd (settles_more old.state old new (subst (λ (x : Outcome). Settles old.state old (Some x) new) q e));
      unused = λ z. refl;
      alone = λ w. (refl, λ q. settles_more old.state old new (subst (λ (x : Outcome). Settles old.state old (Some x) new) q e));
      memory = λ q l input given st few. (settles_pending old.state old new o l e, refl);
      kept = λ input given st. omega (arith, m.counts);
    }
