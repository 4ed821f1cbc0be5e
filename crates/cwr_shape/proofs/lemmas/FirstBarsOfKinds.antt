-- What bars all of some symbols is what bars the one of them that needs least.
use Rattle.std.proofs.Common.{◌≡◌, ℕ, zero, suc, ◌+◌, ◌≤◌, Bool, true, false, cond, not, ◌&&◌, List, [], ◌∷◌, ◌++◌, Option, Some}
use Rattle.std.proofs.Common.{None, refl, sym, ap, subst, ◌∙◌, arith, true≢false, leb-true}
use Rattle.std.specs.Prelude.{nat_le, Result, Ok, Err}
use Rattle.std.specs.List.{list_all, IsAmong}
use Rattle.std.proofs.lemmas.Bool.{and_parts}
use Rattle.cwr_fields.specs.declared.codes.Role.{Role}
use Rattle.cwr_fields.specs.declared.codes.Role.TheVariants.{Assignor, Acquirer}
use Rattle.cwr_fields.specs.declared.codes.TransactionType.{TransactionType}
use Rattle.cwr_fields.specs.declared.codes.TransactionType.TheVariants.{Agreement, NewWork, RevisedWork, Acknowledgement}
use Rattle.cwr_fields.specs.declared.kinds.Kind.{Kind}
use Rattle.cwr_fields.specs.declared.kinds.Kind.TheVariants as kinds
use Rattle.cwr_shape.specs.declared.symbols.Symbol.{Symbol}
use Rattle.cwr_shape.specs.declared.symbols.Symbol.TheVariants.{Plain, Ipa, Grh}
use Rattle.cwr_shape.specs.declared.stages.Stage.{Stage}
use Rattle.cwr_shape.specs.declared.stages.Stage.TheVariants as stages
use Rattle.cwr_shape.specs.declared.stages.TransactionStep.TheVariants as steps
use Rattle.cwr_shape.specs.declared.limits.LimitKind.{LimitKind}
use Rattle.cwr_shape.specs.declared.limits.LimitKind.TheVariants.{Records, Groups, Transaction}
use Rattle.cwr_shape.specs.declared.tallies.Bar.{Bar}
use Rattle.cwr_shape.specs.declared.tallies.Bar.TheVariants.{Misplaced, Limit}
use Rattle.cwr_shape.specs.declared.tallies.Counts.{Counts}
use Rattle.cwr_shape.specs.Format.Ranges.{LimitValues}
use Rattle.cwr_shape.specs.Format.Outlines.{KeepsTo, IsWithin, Continues}
use Rattle.cwr_shape.specs.Steps.NextStages.{next_stage}
use Rattle.cwr_shape.specs.Steps.Needs.{AreAtMost, needs_at}
use Rattle.cwr_shape.specs.Format.AnyTransmission.{Any}
use Rattle.cwr_shape.specs.Steps.Left.{StandsAt, is_stage}
use Rattle.cwr_shape.specs.Format.Candidates.{candidates}
use Rattle.cwr_shape.specs.Format.NextSymbols.{has_open_transaction, open_type, counts_of, IsBarred, ContinuesWith}
use Rattle.cwr_shape.specs.Format.NextSymbols.{IsBarredAmong, Answers, AnswersAmong}
use Rattle.cwr_shape.specs.Steps.Tallies.{TallyValue, IsTallyOf}
use Rattle.cwr_shape.specs.Steps.Counting.{counts_with, scope_at, wanted_role}
use Rattle.cwr_shape.proofs.lemmas.StageStands.{stands_leaves, next_exact, next_stands}
use Rattle.cwr_shape.proofs.lemmas.PrefixFree.{among_passes}
use Rattle.cwr_shape.proofs.lemmas.OneMore.{counts-snoc}
use Rattle.cwr_shape.proofs.lemmas.LimitsByNeeds.{kept_within}
use Rattle.cwr_shape.proofs.lemmas.WhatMayCome.{goes_any}
use Rattle.cwr_shape.proofs.lemmas.FirstBars.{Next, record_sum, group_sum, transaction_sum, room_comes, comes_room}

-- ---- some symbols

-- of some symbols one by which a transmission continues wherever it does by any of them
pub record IsBestAmong (limits : LimitValues) (xs ss : List Symbol) (best : Symbol) : Type 0 where
  pub among : IsAmong ss best
  pub any : ContinuesWith xs ss Any → Continues Any (xs ++ best ∷ [])
  pub within : ContinuesWith xs ss (IsWithin limits) → Continues (IsWithin limits) (xs ++ best ∷ [])
  pub keeps : (limit : LimitKind) → ContinuesWith xs ss (KeepsTo limit limits)
      → Continues (KeepsTo limit limits) (xs ++ best ∷ [])

-- what bars it bars all of them
pub barred_best : (limits : LimitValues) (xs ss : List Symbol) (best : Symbol) (bar : Bar) → IsBestAmong limits xs ss best
    → IsBarred limits xs best bar → IsBarredAmong limits xs ss bar
barred_best limits xs ss best Misplaced b h = λ g. h (b.any g)
barred_best limits xs ss best (Limit Records) b h = ((best, b.among, h.0), λ g. h.1 (b.keeps Records g))
barred_best limits xs ss best (Limit Groups) b h = ((best, b.among, h.0), λ g. h.1 (b.keeps Groups g))
barred_best limits xs ss best (Limit Transaction) b h =
    ((best, b.among, h.0), (best, b.among, h.1), λ g. h.2 (b.keeps Transaction g))

abbrev pub both_or_neither : Bool → Bool → Bool
both_or_neither true b = b
both_or_neither false b = not b

both_or_neither_sound : (a b : Bool) → both_or_neither a b ≡ true → a ≡ b
both_or_neither_sound true true h = refl
both_or_neither_sound false false h = refl
both_or_neither_sound true false h = absurd (true≢false (sym h))
both_or_neither_sound false true h = absurd (true≢false (sym h))

abbrev pub is_open : Stage → Bool
is_open stage = has_open_transaction (scope_at stage)

-- the other stage needs no more than the one
unfoldable pub beats : Option Stage → Option Stage → Bool
beats None o = true
beats (Some next) None = false
beats (Some next) (Some to) =
    nat_le (needs_at to).records (needs_at next).records && (nat_le (needs_at to).groups (needs_at next).groups
    && (nat_le (needs_at to).transaction (needs_at next).transaction && both_or_neither (is_open to) (is_open next)))

abbrev pub parties : List Symbol
parties = Ipa Assignor ∷ Ipa Acquirer ∷ []

abbrev pub groups : List Symbol
groups = Grh Agreement ∷ Grh NewWork ∷ Grh RevisedWork ∷ Grh Acknowledgement ∷ []

-- no party needs less than the wanted one, and no group less than one of acknowledgements
best_beats : (stage : Stage) → is_stage stage ≡ true
    → list_all (λ s. beats (next_stage stage s) (next_stage stage (Ipa (wanted_role stage)))) parties && list_all
    (λ s. beats (next_stage stage s) (next_stage stage (Grh Acknowledgement))) groups ≡ true
unfolding beats
best_beats stages.Start h = refl
best_beats stages.Opened h = refl
best_beats stages.Closed h = refl
best_beats stages.Ended h = refl
best_beats (stages.Within Agreement steps.InGroup) h = refl
best_beats (stages.Within Agreement steps.Agreed) h = refl
best_beats (stages.Within Agreement steps.Territories) h = refl
best_beats (stages.Within Agreement (steps.OneSide Assignor)) h = refl
best_beats (stages.Within Agreement (steps.OneSide Acquirer)) h = refl
best_beats (stages.Within Agreement steps.Both) h = refl
best_beats (stages.Within NewWork steps.InGroup) h = refl
best_beats (stages.Within NewWork steps.Work) h = refl
best_beats (stages.Within NewWork steps.Controlled) h = refl
best_beats (stages.Within NewWork steps.Other) h = refl
best_beats (stages.Within NewWork steps.Writer) h = refl
best_beats (stages.Within NewWork steps.OtherWriter) h = refl
best_beats (stages.Within NewWork steps.Tail) h = refl
best_beats (stages.Within RevisedWork steps.InGroup) h = refl
best_beats (stages.Within RevisedWork steps.Work) h = refl
best_beats (stages.Within RevisedWork steps.Controlled) h = refl
best_beats (stages.Within RevisedWork steps.Other) h = refl
best_beats (stages.Within RevisedWork steps.Writer) h = refl
best_beats (stages.Within RevisedWork steps.OtherWriter) h = refl
best_beats (stages.Within RevisedWork steps.Tail) h = refl
best_beats (stages.Within Acknowledgement steps.InGroup) h = refl
best_beats (stages.Within Acknowledgement steps.Acked) h = refl
best_beats (stages.Within Acknowledgement steps.Agreed) h = refl
best_beats (stages.Within Acknowledgement steps.Territories) h = refl
best_beats (stages.Within Acknowledgement (steps.OneSide Assignor)) h = refl
best_beats (stages.Within Acknowledgement (steps.OneSide Acquirer)) h = refl
best_beats (stages.Within Acknowledgement steps.Both) h = refl
best_beats (stages.Within Acknowledgement steps.Work) h = refl
best_beats (stages.Within Acknowledgement steps.Controlled) h = refl
best_beats (stages.Within Acknowledgement steps.Other) h = refl
best_beats (stages.Within Acknowledgement steps.Writer) h = refl
best_beats (stages.Within Acknowledgement steps.OtherWriter) h = refl
best_beats (stages.Within Acknowledgement steps.Tail) h = refl
best_beats stage h = absurd (true≢false (sym h))

-- another symbol by which the stage continues, to where no more is needed
record Better (stage : Stage) (best : Symbol) (next : Stage) : Type 0 where
  to : Stage
  is : next_stage stage best ≡ Some to
  at_most : AreAtMost (needs_at to) (needs_at next)
  same_open : is_open to ≡ is_open next

by_beats : (stage : Stage) (best : Symbol) (next : Stage) (o p : Option Stage) → o ≡ Some next → next_stage stage best ≡ p
    → beats o p ≡ true → Better stage best next
unfolding beats
by_beats stage best next None p e f h = absurd (cc e)
by_beats stage best next (Some other) None e f h = absurd (true≢false (sym h))
by_beats stage best next (Some other) (Some to) e f h =
    let same : other ≡ next = cc e in
    let a = and_parts (nat_le (needs_at to).records (needs_at other).records) _ h in
    let b = and_parts (nat_le (needs_at to).groups (needs_at other).groups) _ a.1 in
    let c = and_parts (nat_le (needs_at to).transaction (needs_at other).transaction) _ b.1 in
    subst (Better stage best) same (record {
      to = to;
      is = f;
      at_most = record { records = leb-true _ _ a.0; groups = leb-true _ _ b.0; transaction = leb-true _ _ c.0 };
      same_open = both_or_neither_sound (is_open to) (is_open other) c.1;
    })

-- ---- one of them continues wherever any does

-- among symbols that are counted alike
record MovesTo (t : TallyValue) (xs ss : List Symbol) (best : Symbol) : Type 0 where
  before : IsTallyOf t xs
  one : 1 ≤ t.limits.transaction
  among : IsAmong ss best
  beaten : (s : Symbol) → IsAmong ss s → beats (next_stage t.stage s) (next_stage t.stage best) ≡ true
  alike : (s : Symbol) → IsAmong ss s → counts_of (xs ++ s ∷ []) ≡ counts_of (xs ++ best ∷ [])

-- the stage after a symbol by which some transmission continues
stage_on : (t : TallyValue) (xs : List Symbol) (s : Symbol) → IsTallyOf t xs → Continues Any (xs ++ s ∷ []) → (o : Option Stage)
    → o ≡ next_stage t.stage s → (next : Stage) × (next_stage t.stage s ≡ Some next) × StandsAt (xs ++ s ∷ []) next
stage_on t xs s st g None e = absurd (true≢false (sym ((next_exact xs t.stage s None e st.stands).1 g)))
stage_on t xs s st g (Some next) e = (next, sym e, next_stands xs t.stage s (Some next) e st.stands)

record Both (t : TallyValue) (xs : List Symbol) (s best : Symbol) : Type 0 where
  next : Stage
  to : Stage
  here : Next t xs s next (counts_of (xs ++ s ∷ []))
  there : Next t xs best to (counts_of (xs ++ s ∷ []))
  at_most : AreAtMost (needs_at to) (needs_at next)
  same_open : is_open to ≡ is_open next

both_go : (t : TallyValue) (xs ss : List Symbol) (s best : Symbol) → MovesTo t xs ss best → IsAmong ss s
    → Continues Any (xs ++ s ∷ []) → Both t xs s best
both_go t xs ss s best m among g =
    let on = stage_on t xs s m.before g (next_stage t.stage s) refl in
    let b = by_beats t.stage best on.0 (next_stage t.stage s) (next_stage t.stage best) on.1 refl (m.beaten s among) in
    record {
      next = on.0;
      to = b.to;
      here = record { before = m.before; on = on.2; same = refl; one = m.one; kept = kept_within t.limits xs m.before.within };
      there = record {
        before = m.before;
        on = next_stands xs t.stage best (Some b.to) (sym b.is) m.before.stands;
        same = m.alike s among;
        one = m.one;
        kept = kept_within t.limits xs m.before.within;
      };
      at_most = b.at_most;
      same_open = b.same_open;
    }

open_alike : (c : Counts) (x y : Bool) → x ≡ y → ◌≡◌ {A = ℕ} (cond x (1 + c.after_header) 0) (cond y (1 + c.after_header) 0)
open_alike c x y e = ap (λ (b : Bool). cond b (1 + c.after_header) 0) e

keeps_moves : (t : TallyValue) (xs ss : List Symbol) (best : Symbol) → MovesTo t xs ss best → (limit : LimitKind)
    → ContinuesWith xs ss (KeepsTo limit t.limits) → Continues (KeepsTo limit t.limits) (xs ++ best ∷ [])
keeps_moves t xs ss best m limit (s, among, g) = by limit g (both_go t xs ss s best m among (goes_any (xs ++ s ∷ []) g))
  where
    by : (l : LimitKind) → Continues (KeepsTo l t.limits) (xs ++ s ∷ []) → Both t xs s best
        → Continues (KeepsTo l t.limits) (xs ++ best ∷ [])
    by Records k b =
        (record_sum t xs best b.to (counts_of (xs ++ s ∷ [])) b.there).1
        (omega (arith, b.at_most.records, (record_sum t xs s b.next (counts_of (xs ++ s ∷ [])) b.here).0 k))
    by Groups k b =
        (group_sum t xs best b.to (counts_of (xs ++ s ∷ [])) b.there).1
        (omega (arith, b.at_most.groups, (group_sum t xs s b.next (counts_of (xs ++ s ∷ [])) b.here).0 k))
    by Transaction k b = (transaction_sum t xs best b.to (counts_of (xs ++ s ∷ [])) b.there).1
        (omega (
          arith,
          b.at_most.transaction,
          (transaction_sum t xs s b.next (counts_of (xs ++ s ∷ [])) b.here).0 k,
          open_alike (counts_of (xs ++ s ∷ [])) (is_open b.to) (is_open b.next) b.same_open,
        ))

within_moves : (t : TallyValue) (xs ss : List Symbol) (best : Symbol) → MovesTo t xs ss best
    → ContinuesWith xs ss (IsWithin t.limits) → Continues (IsWithin t.limits) (xs ++ best ∷ [])
within_moves t xs ss best m (s, among, g) =
    let b = both_go t xs ss s best m among (goes_any (xs ++ s ∷ []) g) in
    let room = comes_room t xs s b.next (counts_of (xs ++ s ∷ [])) b.here g in
    room_comes t xs best b.to (counts_of (xs ++ s ∷ [])) b.there (record {
      records = omega (arith, b.at_most.records, room.records);
      groups = omega (arith, b.at_most.groups, room.groups);
      transaction =
          omega (
            arith,
            b.at_most.transaction,
            room.transaction,
            open_alike (counts_of (xs ++ s ∷ [])) (is_open b.to) (is_open b.next) b.same_open,
          );
    })

any_moves : (t : TallyValue) (xs ss : List Symbol) (best : Symbol) → MovesTo t xs ss best → ContinuesWith xs ss Any
    → Continues Any (xs ++ best ∷ [])
any_moves t xs ss best m (s, among, g) = (both_go t xs ss s best m among g).there.on.begins

is_best : (t : TallyValue) (xs ss : List Symbol) (best : Symbol) → MovesTo t xs ss best → IsBestAmong t.limits xs ss best
is_best t xs ss best m =
    record
    { among = m.among; any = any_moves t xs ss best m; within = within_moves t xs ss best m; keeps = keeps_moves t xs ss best m }

-- the answer for the best is the answer for all
pub answers_best : (t : TallyValue) (xs ss : List Symbol) (best : Symbol) (r : Result (Unit {0}) Bar)
    → IsBestAmong t.limits xs ss best → Answers t.limits xs best r → AnswersAmong t.limits xs ss r
answers_best t xs ss best (Ok u) b a = (best, b.among, a)
answers_best t xs ss best (Err bar) b a = barred_best t.limits xs ss best bar b a

among_party : (r : Role) → IsAmong parties (Ipa r)
among_party Assignor = (0, (omega arith, refl))
among_party Acquirer = (1, (omega arith, refl))

-- a party is no header
party_counts : (ty : TransactionType) (c : Counts) (r u : Role) → counts_with ty c (Ipa r) ≡ counts_with ty c (Ipa u)
party_counts Agreement c r u = refl
party_counts NewWork c r u = refl
party_counts RevisedWork c r u = refl
party_counts Acknowledgement c r u = refl

parties_alike : (xs : List Symbol) (s : Symbol) (r : Role) → IsAmong parties s
    → counts_of (xs ++ s ∷ []) ≡ counts_of (xs ++ Ipa r ∷ [])
parties_alike xs s r (zero, h) =
    ap (λ (u : Symbol). counts_of (xs ++ u ∷ [])) h.1 ∙ sym (counts-snoc xs (Ipa Assignor))
    ∙ party_counts (open_type xs) (counts_of xs) Assignor r ∙ counts-snoc xs (Ipa r)
parties_alike xs s r (suc zero, h) =
    ap (λ (u : Symbol). counts_of (xs ++ u ∷ [])) h.1 ∙ sym (counts-snoc xs (Ipa Acquirer))
    ∙ party_counts (open_type xs) (counts_of xs) Acquirer r ∙ counts-snoc xs (Ipa r)
parties_alike xs s r (suc (suc i), h) = absurd (omega (arith, h.0))

groups_alike : (xs : List Symbol) (s : Symbol) → IsAmong groups s
    → counts_of (xs ++ s ∷ []) ≡ counts_of (xs ++ Grh Acknowledgement ∷ [])
groups_alike xs s (zero, h) =
    ap (λ (u : Symbol). counts_of (xs ++ u ∷ [])) h.1 ∙ sym (counts-snoc xs (Grh Agreement))
    ∙ counts-snoc xs (Grh Acknowledgement)
groups_alike xs s (suc zero, h) =
    ap (λ (u : Symbol). counts_of (xs ++ u ∷ [])) h.1 ∙ sym (counts-snoc xs (Grh NewWork)) ∙ counts-snoc xs (Grh Acknowledgement)
groups_alike xs s (suc (suc zero), h) =
    ap (λ (u : Symbol). counts_of (xs ++ u ∷ [])) h.1 ∙ sym (counts-snoc xs (Grh RevisedWork))
    ∙ counts-snoc xs (Grh Acknowledgement)
groups_alike xs s (suc (suc (suc zero)), h) = ap (λ (u : Symbol). counts_of (xs ++ u ∷ [])) h.1
groups_alike xs s (suc (suc (suc (suc i))), h) = absurd (omega (arith, h.0))

-- a test that all pass is passed by each
passed_each : (test : Symbol → Bool) (ss : List Symbol) (s : Symbol) → list_all test ss ≡ true → IsAmong ss s → test s ≡ true
passed_each test ss s h k = ap test k.1.1 ∙ among_passes test ss s k.0 h k.1.0

pub best_party : (t : TallyValue) (xs : List Symbol) → IsTallyOf t xs → 1 ≤ t.limits.transaction
    → IsBestAmong t.limits xs parties (Ipa (wanted_role t.stage))
best_party t xs st one =
    let beats_all =
    and_parts (list_all (λ s. beats (next_stage t.stage s) (next_stage t.stage (Ipa (wanted_role t.stage)))) parties)
    (list_all (λ s. beats (next_stage t.stage s) (next_stage t.stage (Grh Acknowledgement))) groups)
    (best_beats t.stage (stands_leaves xs t.stage st.stands).real) in
    is_best t xs parties (Ipa (wanted_role t.stage)) (record {
      before = st;
      one = one;
      among = among_party (wanted_role t.stage);
      beaten =
          λ s k. passed_each (λ u. beats (next_stage t.stage u) (next_stage t.stage (Ipa (wanted_role t.stage)))) parties s
          beats_all.0 k;
      alike = λ s k. parties_alike xs s (wanted_role t.stage) k;
    })

pub best_group : (t : TallyValue) (xs : List Symbol) → IsTallyOf t xs → 1 ≤ t.limits.transaction
    → IsBestAmong t.limits xs groups (Grh Acknowledgement)
best_group t xs st one =
    let beats_all =
    and_parts (list_all (λ s. beats (next_stage t.stage s) (next_stage t.stage (Ipa (wanted_role t.stage)))) parties)
    (list_all (λ s. beats (next_stage t.stage s) (next_stage t.stage (Grh Acknowledgement))) groups)
    (best_beats t.stage (stands_leaves xs t.stage st.stands).real) in
    is_best t xs groups (Grh Acknowledgement) (record {
      before = st;
      one = one;
      among = (3, (omega arith, refl));
      beaten =
          λ s k. passed_each (λ u. beats (next_stage t.stage u) (next_stage t.stage (Grh Acknowledgement))) groups s beats_all.1
          k;
      alike = λ s k. groups_alike xs s k;
    })

-- one symbol is the best of one
pub best_one : (limits : LimitValues) (xs : List Symbol) (s : Symbol) → IsBestAmong limits xs (s ∷ []) s
best_one limits xs s = record {
  among = (0, (omega arith, refl));
  any = λ g. subst (λ (u : Symbol). Continues Any (xs ++ u ∷ [])) (alone g.0 g.1) g.2;
  within = λ g. subst (λ (u : Symbol). Continues (IsWithin limits) (xs ++ u ∷ [])) (alone g.0 g.1) g.2;
  keeps = λ limit g. subst (λ (u : Symbol). Continues (KeepsTo limit limits) (xs ++ u ∷ [])) (alone g.0 g.1) g.2;
}
  where
    alone : (u : Symbol) → IsAmong (s ∷ []) u → u ≡ s
    alone u (zero, h) = h.1
    alone u (suc i, h) = absurd (omega (arith, h.0))

-- a kind that is neither IPA nor GRH has one symbol
pub one_symbol : (kind : Kind) → (kind ≡ kinds.Ipa → ⊥) → (kind ≡ kinds.Grh → ⊥) → candidates (Some kind) [] ≡ Plain kind ∷ []
one_symbol kinds.Ipa h k = absurd (h refl)
one_symbol kinds.Grh h k = absurd (k refl)
one_symbol kind h k = refl
