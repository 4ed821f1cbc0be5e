-- What a whole run has put, and what its writer then has.
use Rattle.std.proofs.Common.{◌≡◌, ℕ, ◌+◌, ◌-◌, false, true≢false, List, [], ◌++◌, length, Option, Some, None, refl, sym, ap, ap₂, subst, ◌∙◌, inr}
use Rattle.std.proofs.Common.{arith, length-append}
use Rattle.std.proofs.KnownBytes.{Appends-trans}
use Rattle.std.specs.Prelude.{◌^◌, min, Result, Ok, Err}
use Rattle.std.specs.Io.KnownBytes.{Appends, GrowsBy, Keeps}
use Rattle.cwr_shape.specs.declared.limits.Limits.{Limits}
use Rattle.cwr_devices.specs.declared.sinks.Sink.{Sink}
use Rattle.cwr_devices.specs.Steps.Sinks.{HasWritten, writer_of, written_of}
use Rattle.cwr_encode.specs.Format.Finishing.{HasFront}
use Rattle.cwr_encode.proofs.lemmas.Ends.{all_written, appends_kept}
use Rattle.cwr_values.specs.declared.items.Item.{Item}
use Rattle.cwr_tools.specs.declared.verdicts.Verdict.{Verdict}
use Rattle.cwr_tools.specs.declared.verdicts.ToolFault.{ToolFault}
use Rattle.cwr_tools.specs.declared.verdicts.ToolFault.TheVariants.{Writer}
use Rattle.cwr_tools.specs.declared.verdicts.ToolFault.TheVariants as faults
use Rattle.cwr_tools.specs.Format.Reports.{CountsAfter, CountsWritten, ItemLines}
use Rattle.cwr_tools.specs.Steps.Reports.{IsPut, PutsLines, PutsReport, Reports}
use Rattle.cwr_tools.specs.Steps.Verdicts.{IsRightVerdict}
use Rattle.cwr_tools.proofs.lemmas.ReportSteps.{put_both}

-- ---- the line of the verdict

-- it was put after the lines of these items
pub verdict_put : {W : Type 0} (of : ItemLines) (limits : Limits) (before after : Option (List ℕ))
    (contents : W → Option (List ℕ)) (failures : W → ℕ) (verdict : Verdict) (given : List Item) (u : Unit {0})
    (old mid new : Sink W)
    → IsRightVerdict limits before verdict after given → IsPut contents failures (of.lines given) old mid
    → PutsLines contents failures false (of.last given verdict) (Ok u) mid new
    → PutsReport of of.last limits before after contents failures (Ok verdict) old new
verdict_put of limits before after contents failures verdict given u old mid new right h p =
    (given, right, put_both contents failures (of.lines given) (of.last given verdict) (Ok tt) old mid new h p)

-- the writer failed in it
pub verdict_cut : {W : Type 0} (of : ItemLines) (limits : Limits) (before after : Option (List ℕ))
    (contents : W → Option (List ℕ)) (failures : W → ℕ) (verdict : Verdict) (given : List Item) (fault : ToolFault)
    (old mid new : Sink W) → IsRightVerdict limits before verdict after given → IsPut contents failures (of.lines given) old mid
    → PutsLines contents failures false (of.last given verdict) (Err fault) mid new
    → PutsReport of of.last limits before after contents failures (Err fault) old new
verdict_cut of limits before after contents failures verdict given (Writer n) old mid new right h p = (
  given,
  of.lines given ++ of.last given verdict,
  inr (verdict, right, refl),
  put_both contents failures (of.lines given) (of.last given verdict) (Err (record { written = n })) old mid new h p,
)
verdict_cut of limits before after contents failures verdict given faults.Memory old mid new right h p = absurd (true≢false (sym p.0))
verdict_cut of limits before after contents failures verdict given faults.Reader old mid new right h p = absurd p
verdict_cut of limits before after contents failures verdict given (faults.Refused r) old mid new right h p = absurd p
verdict_cut of limits before after contents failures verdict given (faults.Truncated r) old mid new right h p = absurd p
verdict_cut of limits before after contents failures verdict given faults.Output old mid new right h p = absurd p
verdict_cut of limits before after contents failures verdict given (faults.Limit l) old mid new right h p = absurd p

-- ---- what the writer has

appended : {W : Type 0} (contents : W → Option (List ℕ)) (failures : W → ℕ) (text : List ℕ) (writer new : W) (first sink : Sink W)
    → HasWritten contents (contents writer) [] first → Keeps (contents (writer_of sink)) (contents new)
    → IsPut contents failures text first sink → Appends (contents writer) (contents new) text
appended contents failures text writer new first sink empty kept p =
    (all_written contents (contents writer) text text sink new (written_of sink) refl p.failed kept refl
    (p.written (contents writer) [] empty)).appended

front : {W : Type 0} (contents : W → Option (List ℕ)) (text : List ℕ) (writer new : W) (sink : Sink W) (n : ℕ)
    → Keeps (contents (writer_of sink)) (contents new) → HasWritten contents (contents writer) text sink → n ≡ written_of sink
    → HasFront contents (contents writer) new text n
front contents text writer new sink n kept h counted = record {
  bytes = h.bytes;
  rest = h.rest;
  split = h.split;
  has = record {
    appended = appends_kept (contents writer) (contents (writer_of sink)) (contents new) h.bytes h.appended kept;
    counted = counted ∙ h.counted;
  };
}

-- all was handed on
pub reports_flushed : {W : Type 0} (of : ItemLines) (limits : Limits) (before after : Option (List ℕ))
    (contents : W → Option (List ℕ)) (failures : W → ℕ) (verdict : Verdict) (writer mid new : W) (first sink : Sink W)
    → HasWritten contents (contents writer) [] first → mid ≡ writer_of sink
    → Keeps (contents mid) (contents new) → PutsReport of of.last limits before after contents failures (Ok verdict) first sink
    → Reports of limits before after contents writer new (Ok verdict)
reports_flushed {W = W} of limits before after contents failures verdict writer mid new first sink empty out kept h = (
  h.0,
  h.1,
  appended contents failures (of.lines h.0 ++ of.last h.0 verdict) writer new first sink empty
      (subst (λ (w : W). Keeps (contents w) (contents new)) out kept) h.2,
)

-- the writer couldn't hand it on
pub reports_stuck : {W : Type 0} (of : ItemLines) (limits : Limits) (before after : Option (List ℕ))
    (contents : W → Option (List ℕ)) (failures : W → ℕ) (verdict : Verdict) (writer mid new : W) (first sink : Sink W) (n : ℕ)
    → HasWritten contents (contents writer) [] first → mid ≡ writer_of sink
    → n ≡ written_of sink → Keeps (contents mid) (contents new)
    → PutsReport of of.last limits before after contents failures (Ok verdict) first sink
    → Reports of limits before after contents writer new (Err (Writer n))
reports_stuck {W = W} of limits before after contents failures verdict writer mid new first sink n empty out counted kept h = (
  h.0,
  of.lines h.0 ++ of.last h.0 verdict,
  inr (verdict, h.1, refl),
  front contents (of.lines h.0 ++ of.last h.0 verdict) writer new sink n
      (subst (λ (w : W). Keeps (contents w) (contents new)) out kept) (h.2.written (contents writer) [] empty) counted,
)

same_bytes : (bytes : Option (List ℕ)) → Keeps bytes bytes
same_bytes None = tt
same_bytes (Some text) = refl

-- a run that came to no verdict
pub reports_failed : {W : Type 0} (of : ItemLines) (limits : Limits) (before after : Option (List ℕ))
    (contents : W → Option (List ℕ)) (failures : W → ℕ) (fault : ToolFault) (writer new : W) (first sink : Sink W)
    → HasWritten contents (contents writer) [] first → new ≡ writer_of sink
    → PutsReport of of.last limits before after contents failures (Err fault) first sink
    → Reports of limits before after contents writer new (Err fault)
reports_failed of limits before after contents failures fault writer new first sink empty out h = by fault h where
  kept : Keeps (contents (writer_of sink)) (contents new)
  kept = subst (λ (w : _). Keeps (contents (writer_of sink)) (contents w)) (sym out) (same_bytes (contents (writer_of sink)))

  by : (f : ToolFault) → PutsReport of of.last limits before after contents failures (Err f) first sink
      → Reports of limits before after contents writer new (Err f)
  by faults.Reader p = (p.0, p.1, appended contents failures (of.lines p.0) writer new first sink empty kept p.2)
  by faults.Memory p = (p.0, p.1, appended contents failures (of.lines p.0) writer new first sink empty kept p.2)
  by (Writer n) p = (
    p.0,
    p.1,
    p.2,
    front contents p.1 writer new sink n kept (p.3.written (contents writer) [] empty) p.3.fault,
  )
  by (faults.Refused r) p = absurd p
  by (faults.Truncated r) p = absurd p
  by faults.Output p = absurd p
  by (faults.Limit l) p = absurd p

-- ---- how many bytes were written

put_text : {W : Type 0} (of : ItemLines) (end : List Item → Verdict → List ℕ) (limits : Limits) (before after : Option (List ℕ))
    (contents : W → Option (List ℕ)) (failures : W → ℕ) (result : Result Verdict ToolFault) (writer : W) (first sink : Sink W)
    → HasWritten contents (contents writer) [] first
    → PutsReport of end limits before after contents failures result first sink
    → (text : List ℕ) × HasWritten contents (contents writer) text sink
put_text of end limits before after contents failures (Ok verdict) writer first sink empty h =
    (of.lines h.0 ++ end h.0 verdict, h.2.written (contents writer) [] empty)
put_text of end limits before after contents failures (Err faults.Reader) writer first sink empty h =
    (of.lines h.0, h.2.written (contents writer) [] empty)
put_text of end limits before after contents failures (Err faults.Memory) writer first sink empty h =
    (of.lines h.0, h.2.written (contents writer) [] empty)
put_text of end limits before after contents failures (Err (Writer n)) writer first sink empty h =
    (h.1, h.3.written (contents writer) [] empty)
put_text of end limits before after contents failures (Err (faults.Refused refusal)) writer first sink empty h = absurd h
put_text of end limits before after contents failures (Err (faults.Truncated records)) writer first sink empty h = absurd h
put_text of end limits before after contents failures (Err faults.Output) writer first sink empty h = absurd h
put_text of end limits before after contents failures (Err (faults.Limit limit)) writer first sink empty h = absurd h

-- so many as the sink counts
pub counts_put : {W : Type 0} (of : ItemLines) (limits : Limits) (before after : Option (List ℕ)) (contents : W → Option (List ℕ))
    (failures : W → ℕ) (result : Result Verdict ToolFault) (writer mid new : W) (first sink : Sink W) (n : ℕ)
    → HasWritten contents (contents writer) [] first → mid ≡ writer_of sink → n ≡ written_of sink → Keeps (contents mid) (contents new)
    → PutsReport of of.last limits before after contents failures result first sink
    → GrowsBy (contents writer) (contents new) n
counts_put {W = W} of limits before after contents failures result writer mid new first sink n empty out counted kept h =
    let put = put_text of of.last limits before after contents failures result writer first sink empty h in
    let had = front contents put.0 writer new sink n (subst (λ (w : W). Keeps (contents w) (contents new)) out kept) put.1 counted in
    (had.bytes, had.has.appended, had.has.counted)

-- where nothing was handed on
pub counts_kept : {W : Type 0} (of : ItemLines) (limits : Limits) (before after : Option (List ℕ)) (contents : W → Option (List ℕ))
    (failures : W → ℕ) (result : Result Verdict ToolFault) (writer new : W) (first sink : Sink W) (n : ℕ)
    → HasWritten contents (contents writer) [] first → new ≡ writer_of sink → n ≡ written_of sink
    → PutsReport of of.last limits before after contents failures result first sink
    → GrowsBy (contents writer) (contents new) n
counts_kept of limits before after contents failures result writer new first sink n empty out counted h =
    counts_put of limits before after contents failures result writer new new first sink n empty out counted
    (same_bytes (contents new)) h

-- so many as a report's fault says
counts_front : {W : Type 0} (contents : W → Option (List ℕ)) (old new : W) (text : List ℕ) (n : ℕ)
    → HasFront contents (contents old) new text n → GrowsBy (contents old) (contents new) n
counts_front contents old new text n h = (h.bytes, h.has.appended, h.has.counted)

pub counts_reported : {W : Type 0} (of : ItemLines) (limits : Limits) (before after : Option (List ℕ))
    (contents : W → Option (List ℕ)) (old new : W) (result : Result Verdict ToolFault)
    → Reports of limits before after contents old new result → CountsWritten contents old new result
counts_reported of limits before after contents old new (Ok verdict) h = tt
counts_reported of limits before after contents old new (Err (Writer written)) h = counts_front contents old new h.1 written h.3
counts_reported of limits before after contents old new (Err faults.Reader) h = tt
counts_reported of limits before after contents old new (Err faults.Memory) h = tt
counts_reported of limits before after contents old new (Err (faults.Refused refusal)) h = tt
counts_reported of limits before after contents old new (Err (faults.Truncated records)) h = tt
counts_reported of limits before after contents old new (Err faults.Output) h = tt
counts_reported of limits before after contents old new (Err (faults.Limit limit)) h = tt

-- the bytes of two parts of a run, one after the other
min_sum : (a b n : ℕ) → min (min a n + min b n) n ≡ min (a + b) n
min_sum a b n = omega arith

pub counts_all : {W : Type 0} (contents : W → Option (List ℕ)) (old between new : W) (before : ℕ) (result : Result Verdict ToolFault)
    → GrowsBy (contents old) (contents between) before → CountsAfter contents before between new result
    → CountsWritten contents old new result
counts_all contents old between new before (Ok verdict) g c = tt
counts_all contents old between new before (Err (Writer written)) g c = (
  g.0 ++ c.1.0,
  Appends-trans (contents old) (contents between) (contents new) g.0 c.1.0 g.1 c.1.1,
  c.2 ∙ ap₂ (λ (a b : ℕ). min (a + b) (2 ^ 64 - 1)) g.2 c.1.2 ∙ min_sum (length g.0) (length c.1.0) (2 ^ 64 - 1)
      ∙ ap (λ (n : ℕ). min n (2 ^ 64 - 1)) (sym (length-append g.0 c.1.0)),
)
counts_all contents old between new before (Err faults.Reader) g c = tt
counts_all contents old between new before (Err faults.Memory) g c = tt
counts_all contents old between new before (Err (faults.Refused refusal)) g c = tt
counts_all contents old between new before (Err (faults.Truncated records)) g c = tt
counts_all contents old between new before (Err faults.Output) g c = tt
counts_all contents old between new before (Err (faults.Limit limit)) g c = tt
