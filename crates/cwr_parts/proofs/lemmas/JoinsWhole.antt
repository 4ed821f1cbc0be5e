-- A join that added all inputs and wrote TRL has written the transmission to which they are joined, or its writer failed.
use Rattle.std.proofs.Common.{◌≡◌, ◌<◌, ℕ, List, [], ◌∷◌, ◌++◌, length, Option, inr, refl, sym, ap, subst, ◌∙◌, arith}
use Rattle.std.specs.Prelude.{Result, Ok, Err}
use Rattle.std.specs.Io.KnownBytes.{Appends}
use Rattle.std.proofs.lemmas.List.{length-append}
use Rattle.cwr_shape.specs.declared.limits.Limits.{Limits}
use Rattle.cwr_shape.specs.Format.Ranges.{AreInRange, LimitValues}
use Rattle.cwr_values.specs.Format.Values.{TransmissionValue, FitsIn}
use Rattle.cwr_values.specs.Format.Rows.{canonical_text}
use Rattle.cwr_encode.specs.Format.Finishing.{HasFront}
use Rattle.cwr_parts.specs.declared.joined.Joined.{Joined}
use Rattle.cwr_tools.specs.declared.verdicts.JoinFault.{JoinFault}
use Rattle.cwr_tools.specs.declared.verdicts.JoinReport.{JoinReport}
use Rattle.cwr_tools.specs.declared.verdicts.ToolFault.{ToolFault}
use Rattle.cwr_parts.specs.Format.Joins.{AreJoined, CountsInputFault, TakesInput, TakeInputs, join_report}
use Rattle.cwr_parts.specs.Steps.Joins.{FailsToWrite, Joins, StopsBy}
use Rattle.cwr_parts.specs.Steps.Joined.{AddsAll, EndsJoin, EndsWithAll, HasJoinedAll, joined_writer}
use Rattle.cwr_parts.proofs.lemmas.InputsJoined.{taken_many, taken_whole}

-- as many readers as before
left_many : {R : Type 0} (limits : Limits) (remaining : R → Option (List ℕ)) (failures : R → ℕ) (olds : List R)
    (vs : List TransmissionValue) (news : List R) → TakeInputs limits remaining failures olds vs news
    → length olds ≡ length news
left_many limits remaining failures [] [] [] h = refl
left_many limits remaining failures (o ∷ olds) (v ∷ vs) (n ∷ news) h =
    omega (arith, left_many limits remaining failures olds vs news h.1)
left_many limits remaining failures olds vs news h = absurd h

pub ready_to_end : {R W : Type 0} (limits : Limits) (remaining : R → Option (List ℕ)) (failures : R → ℕ)
    (contents : W → Option (List ℕ)) (before after : List R) (old j : Joined W)
    → AreInRange limits → 0 < length before → AddsAll limits remaining failures contents before after old j
    → HasJoinedAll contents (length after) j
ready_to_end limits remaining failures contents before after old j range some h = record {
  start = contents (joined_writer old);
  inputs = h.inputs;
  counted =
      omega (
        arith,
        taken_many limits remaining failures before h.inputs after h.taken,
        left_many limits remaining failures before h.inputs after h.taken,
      );
  range = subst AreInRange (sym h.limits_are) range;
  some = omega (arith, some, left_many limits remaining failures before h.inputs after h.taken);
  each = taken_whole limits remaining failures before h.inputs after h.taken;
  joined = h.joined;
}

-- ---- the last input

record AreTakenToLast {R : Type 0} (limits : Limits) (remaining : R → Option (List ℕ)) (failures : R → ℕ) (olds : List R)
    (vs : List TransmissionValue) (news : List R) : Type 0 where
  earlier : List R
  hand : R
  finished : List R
  left : R
  inputs : List TransmissionValue
  last : TransmissionValue
  olds_are : olds ≡ earlier ++ hand ∷ []
  news_are : news ≡ finished ++ left ∷ []
  inputs_are : vs ≡ inputs ++ last ∷ []
  taken : TakeInputs limits remaining failures earlier inputs finished
  last_taken : TakesInput limits remaining failures hand last left

to_last : {R : Type 0} (limits : Limits) (remaining : R → Option (List ℕ)) (failures : R → ℕ) (o : R) (olds : List R)
    (v : TransmissionValue) (vs : List TransmissionValue) (n : R) (news : List R)
    → TakeInputs limits remaining failures (o ∷ olds) (v ∷ vs) (n ∷ news)
    → AreTakenToLast limits remaining failures (o ∷ olds) (v ∷ vs) (n ∷ news)
to_last limits remaining failures o [] v [] n [] h = record {
  earlier = [];
  hand = o;
  finished = [];
  left = n;
  inputs = [];
  last = v;
  olds_are = refl;
  news_are = refl;
  inputs_are = refl;
  taken = tt;
  last_taken = h.0;
}
to_last {R = R} limits remaining failures o (p ∷ olds) v (w ∷ vs) n (m ∷ news) h =
    let t = to_last limits remaining failures p olds w vs m news h.1 in
    record {
      earlier = o ∷ t.earlier;
      hand = t.hand;
      finished = n ∷ t.finished;
      left = t.left;
      inputs = v ∷ t.inputs;
      last = t.last;
      olds_are = ap (λ (l : List R). o ∷ l) t.olds_are;
      news_are = ap (λ (l : List R). n ∷ l) t.news_are;
      inputs_are = ap (λ (l : List TransmissionValue). v ∷ l) t.inputs_are;
      taken = (h.0, t.taken);
      last_taken = t.last_taken;
    }
to_last limits remaining failures o olds v vs n news h = absurd h.1

taken_to_last : {R : Type 0} (limits : Limits) (remaining : R → Option (List ℕ)) (failures : R → ℕ) (olds : List R)
    (vs : List TransmissionValue) (news : List R) → 0 < length olds → TakeInputs limits remaining failures olds vs news
    → AreTakenToLast limits remaining failures olds vs news
taken_to_last limits remaining failures (o ∷ olds) (v ∷ vs) (n ∷ news) some h =
    to_last limits remaining failures o olds v vs n news h
taken_to_last limits remaining failures [] [] [] some h = absurd (omega (arith, some))
taken_to_last limits remaining failures olds vs news some h = absurd h

-- ---- the answers

pub joins_end : {R W : Type 0} (limits : Limits) (remaining : R → Option (List ℕ)) (failures : R → ℕ)
    (contents : W → Option (List ℕ)) (counts : W → ℕ) (before after : List R) (old j : Joined W) (writer new : W)
    (result : Result JoinReport JoinFault)
    → joined_writer old ≡ writer → 0 < length before → AddsAll limits remaining failures contents before after old j
    → EndsJoin contents counts (length after) j new result
    → Joins limits remaining failures contents before after writer new result
joins_end {R = R} {W = W} limits remaining failures contents counts before after old j writer new result same some h ends =
    by result (ends.1 start h.inputs (omega (arith, many, left)) (omega (arith, some, left))
    (taken_whole limits remaining failures before h.inputs after h.taken) h.joined)
  where
    start : Option (List ℕ)
    start = contents (joined_writer old)

    left : length before ≡ length after
    left = left_many limits remaining failures before h.inputs after h.taken

    many : length before ≡ length h.inputs
    many = taken_many limits remaining failures before h.inputs after h.taken

    by : (answer : Result JoinReport JoinFault) → EndsWithAll contents (length after) start h.inputs j new answer
        → Joins limits remaining failures contents before after writer new answer
    by (Ok report) e = record {
      inputs = h.inputs;
      taken = h.taken;
      joined = e.joined;
      joined_of = e.joined_of;
      whole = e.whole;
      within = subst (λ (l : LimitValues). FitsIn l e.joined) h.limits_are e.within;
      written = subst (λ (w : W). Appends (contents w) (contents new) (canonical_text e.joined)) same e.ends.1;
      reported = e.ends.0 ∙ ap (λ (n : ℕ). join_report n e.joined) (sym left);
    }
    by (Err stopped) e =
        let t = taken_to_last limits remaining failures before h.inputs after some h.taken in
        let fails : FailsToWrite {R = R} limits e.ends.1 contents t.inputs (remaining t.hand) (remaining t.left) [] writer new =
        record {
          text = canonical_text e.joined;
          text_is = inr (
            record {
              last = t.last;
              taken = t.last_taken.takes;
              joined = e.joined;
              joined_of = subst (λ (l : List TransmissionValue). AreJoined l e.joined) t.inputs_are e.joined_of;
              whole = e.whole;
              within = subst (λ (l : LimitValues). FitsIn l e.joined) h.limits_are e.within;
              text_is = refl;
            },
            refl,
          );
          front = subst (λ (w : W). HasFront contents (contents w) new (canonical_text e.joined) e.ends.1) same e.ends.3;
        } in
        record {
          earlier = t.earlier;
          hand = t.hand;
          later = [];
          finished = t.finished;
          left = t.left;
          before_are = t.olds_are;
          after_are = t.news_are;
          number = omega (arith, e.ends.0, left, ap length t.olds_are, length-append t.earlier (t.hand ∷ []));
          inputs = t.inputs;
          taken = t.taken;
          stops =
              subst
              (λ (f : ToolFault). StopsBy {R = R} limits f contents t.inputs (remaining t.hand) (remaining t.left) [] writer new)
              (sym e.ends.2) fails;
          counts =
              subst (λ (f : ToolFault). CountsInputFault f (failures t.hand) (failures t.left)) (sym e.ends.2) t.last_taken.quiet;
        }
