-- Within which limits a transmission continues by a whole transaction of the open group's type: by sums.
use Rattle.std.proofs.Common.{◌≡◌, ℕ, ◌+◌, ◌≤◌, Bool, true, false, cond, List, [], ◌∷◌, ◌++◌, length, refl, sym, ap, subst, ◌∙◌}
use Rattle.std.proofs.Common.{arith, append_assoc, append-nil}
use Rattle.std.specs.Prelude.{◌↔◌}
use Rattle.std.specs.List.{count_by}
use Rattle.std.proofs.lemmas.List.{length-append}
use Rattle.cwr_fields.specs.declared.codes.TransactionType.{TransactionType}
use Rattle.cwr_fields.specs.declared.kinds.Kind.TheVariants as kinds
use Rattle.cwr_shape.specs.declared.symbols.Symbol.{Symbol}
use Rattle.cwr_shape.specs.declared.symbols.Symbol.TheVariants.{Plain}
use Rattle.cwr_shape.specs.declared.stages.Stage.{Stage}
use Rattle.cwr_shape.specs.declared.limits.LimitKind.TheVariants.{Records, Groups, Transaction}
use Rattle.cwr_shape.specs.declared.tallies.Counts.{Counts}
use Rattle.cwr_shape.specs.Format.Shapes.{IsShape}
use Rattle.cwr_shape.specs.Format.LastSymbols.{is_grh}
use Rattle.cwr_shape.specs.Steps.Stages.{stage_after}
use Rattle.cwr_shape.specs.Steps.Needs.{needs_at}
use Rattle.cwr_shape.specs.Format.Outlines.{KeepsTo, IsWithin, Continues}
use Rattle.cwr_shape.specs.Format.AnyTransmission.{Any}
use Rattle.cwr_shape.specs.Steps.Left.{StandsAt}
use Rattle.cwr_shape.specs.Format.NextSymbols.{open_type, counts_of, open_records}
use Rattle.cwr_shape.specs.Steps.Tallies.{TallyValue, IsTallyOf}
use Rattle.cwr_shape.specs.Steps.Counting.{counts_with, counts_with_header}
use Rattle.cwr_shape.proofs.lemmas.TransactionNumbers.{headed_shape}
use Rattle.cwr_shape.proofs.lemmas.WithinByFronts.{Keeps, is_of_transaction, open_by, inner_forth}
use Rattle.cwr_shape.proofs.lemmas.LimitsByNeeds.{records_reach, groups_reach, transaction_reach, transaction_goes, within_goes}
use Rattle.cwr_shape.proofs.lemmas.LimitsByNeeds.{open_named, KeptSoFar, kept_within, to_start}
use Rattle.cwr_encode.specs.Format.Encoders.{reached, IsInGroup, IsBetween}
use Rattle.cwr_encode.proofs.lemmas.Comes.{Ending, ending_at, least_transaction}
use Rattle.cwr_shape.proofs.lemmas.CountedOn.{counted_after_transaction}
use Rattle.cwr_encode.proofs.lemmas.Ready.{takes}

at_most : (b : Bool) (n limit : ℕ) → n ≤ limit → cond b n 0 ≤ limit
at_most true n limit h = h
at_most false n limit h = omega (arith, h)

-- a transaction that isn't too long keeps to the limit record by record
keeps_transaction : (limit : ℕ) (ty : TransactionType) (c : Counts) (t : List Symbol) → IsShape ty t → length t ≤ limit
    → Keeps limit ty c t
keeps_transaction limit ty c t shape few =
    let h = headed_shape ty t shape in
    let inner : Keeps limit ty (counts_with_header c) (h.rest ++ []) =
    inner_forth limit ty (counts_with_header c) h.rest [] h.inner (omega (arith, few, ap length h.whole)) (λ d. tt) in
    let rest : Keeps limit ty (counts_with_header c) h.rest =
    subst (Keeps limit ty (counts_with_header c)) (append-nil h.rest) inner in
    subst (Keeps limit ty c) (sym h.whole) (
      subst (λ (d : Counts). open_by h.head d ≤ limit) (sym (h.counts c))
          (at_most (is_of_transaction h.head) (1 + 0) limit (omega (arith, few, ap length h.whole))),
      subst (λ (u : TransactionType). Keeps limit u (counts_with ty c h.head) h.rest) (sym h.same_type)
          (subst (λ (d : Counts). Keeps limit ty d h.rest) (sym (h.counts c)) rest),
    )

-- what continues to more symbols continues to fewer
pub goes_front : (xs ys : List Symbol) → Continues Any (xs ++ ys) → Continues Any xs
goes_front xs ys g = (g.0, g.1, tt, (ys ++ g.3.0, g.3.1 ∙ append_assoc xs ys g.3.0))

-- the transmissions that continue by the transaction
pub record Reaches (tally : TallyValue) (xs t : List Symbol) : Type 0 where
  pub ends : Continues Any ((xs ++ t) ++ Plain kinds.Grt ∷ [])
  pub records : Continues (KeepsTo Records tally.limits) (xs ++ t) ↔ (tally.counts.records + 2 + length t ≤ tally.limits.records)
  pub groups : Continues (KeepsTo Groups tally.limits) (xs ++ t)
  pub transaction : Continues (KeepsTo Transaction tally.limits) (xs ++ t) ↔ (length t ≤ tally.limits.transaction)
  pub both : tally.counts.records + 2 + length t ≤ tally.limits.records → length t ≤ tally.limits.transaction
      → Continues (IsWithin tally.limits) (xs ++ t)

pub reaches : (tally : TallyValue) (xs t : List Symbol) (ty : TransactionType) → IsTallyOf tally xs → open_type xs ≡ ty
    → IsInGroup (reached xs) → IsBetween xs → IsShape ty t → Reaches tally xs t
reaches tally xs t ty st same inside between shape =
    let ys : List Symbol = xs ++ t in
    let goes : Continues Any (ys ++ Plain kinds.Grt ∷ []) = takes xs t tally.stage ty st.stands same inside between shape in
    let stage : Stage = stage_after ys in
    let on : StandsAt ys stage = record { begins = goes_front ys (Plain kinds.Grt ∷ []) goes; named = refl } in
    let e : Ending stage = ending_at ys stage on goes in
    let counted = counted_after_transaction ty xs t same shape in
    let one : 1 ≤ tally.limits.transaction = least_transaction tally.limits xs st.within in
    let long : open_records ys ≡ length t =
    open_named ys stage on ∙ e.opened (counts_of ys) ∙ omega (arith, counted.counted_after) in
    let total : length ys ≡ tally.counts.records + length t =
    omega (arith, length-append xs t, ap (λ (c : Counts). c.records) st.counted) in
    let within = st.within in
    let few : count_by is_grh xs + (needs_at tally.stage).groups ≤ tally.limits.groups =
    (groups_reach tally.limits xs tally.stage st.stands).0 (within.0, within.1, within.2.1, within.3) in
    let groups : count_by is_grh ys + (needs_at stage).groups ≤ tally.limits.groups =
    omega (arith, few, counted.groups_counted, e.groups) in
    let by_records = records_reach tally.limits ys stage on in
    let kept : length t ≤ tally.limits.transaction → KeptSoFar tally.limits ys = λ h.
    to_start tally.limits.transaction xs t (kept_within tally.limits xs within) (subst
    (λ (u : TransactionType). Keeps tally.limits.transaction u (counts_of xs) t) (sym same)
    (keeps_transaction tally.limits.transaction ty (counts_of xs) t shape h)) in
    record {
      ends = goes;
      records = (λ g. omega (arith, by_records.0 g, total, e.records), λ h. by_records.1 (omega (arith, h, total, e.records)));
      groups = (groups_reach tally.limits ys stage on).1 groups;
      transaction = (
        λ g. omega (arith, transaction_reach tally.limits ys stage on one g, long, e.transaction),
        λ h. transaction_goes tally.limits ys stage on one (kept h) (omega (arith, h, long, e.transaction)),
      );
      both =
          λ h k. within_goes tally.limits ys stage on one (kept k) (omega (arith, h, total, e.records)) groups
          (omega (arith, k, long, e.transaction));
    }
