-- What a report adds and puts, from what stands before the items to what stands for the verdict, where it writes the lines of `it`.
use Rattle.std.proofs.Common.{◌≡◌, ℕ, Bool, List, [], ◌∷◌, ◌++◌, length, Option, refl, sym, ap, subst, ◌∙◌, false, true, true≢false, append_assoc, arith}
use Rattle.std.specs.Prelude.{◌≢◌, nat_lt, Result, Ok, Err}
use Rattle.std.proofs.lemmas.Bool.{lt-ltb}
use Rattle.std.specs.Result.{IsErrAnd}
use Rattle.cwr_devices.specs.declared.pens.Pen.{Pen}
use Rattle.cwr_devices.specs.declared.sinks.Sink.{Sink}
use Rattle.cwr_devices.specs.declared.sinks.SinkFault.{SinkFault}
use Rattle.cwr_devices.specs.Steps.Pens.{Adds}
use Rattle.cwr_devices.specs.Steps.Sinks.{CountsOn, HasWritten, PutsText, has_failed, writer_of}
use Rattle.cwr_devices.proofs.lemmas.Adding.{adds_as}
use Rattle.cwr_values.specs.declared.items.Item.{Item}
use Rattle.cwr_tools.specs.declared.verdicts.ToolFault.{ToolFault}
use Rattle.cwr_tools.specs.declared.verdicts.Verdict.{Verdict}
use Rattle.cwr_tools.specs.Format.Reports.{ItemLines}
use Rattle.cwr_tools.specs.Steps.Reports.{AddsLines, AddsNext, IsPut, PutsLines, tool_result}

-- ---- what is added

-- memory was refused for it
pub memory_refused : {W E : Type 0} (contents : W → Option (List ℕ)) (failures : W → ℕ) (take_memory : Bool) (text : List ℕ)
    (result : Result (Unit {0}) E) (fault : E) (old new : Pen W) → IsErrAnd result (λ e. e ≡ fault)
    → (take_memory ≡ true) × (new ≡ old) → AddsLines contents failures take_memory text result old new
memory_refused contents failures take_memory text (Ok u) fault old new is refused = absurd is
memory_refused contents failures take_memory text (Err e) fault old new is refused = refused

-- what isn't empty has an element
pub some_there : {A : Type 0} (xs : List A) → xs ≢ [] → nat_lt 0 (length xs) ≡ true
some_there [] h = absurd (h refl)
some_there (x ∷ xs) h = lt-ltb 0 (length (x ∷ xs)) (omega arith)

-- before the items
pub first_lines : {W : Type 0} {contents : W → Option (List ℕ)} {failures : W → ℕ} {text : List ℕ} {old new : Pen W} (of it : ItemLines)
    → of ≡ it → text ≡ it.lines [] → Adds contents failures text old new → Adds contents failures (of.lines []) old new
first_lines of it e none p = adds_as (none ∙ ap (λ (lines : ItemLines). lines.lines []) (sym e)) p

-- an item
pub next_lines : {W E : Type 0} (contents : W → Option (List ℕ)) (failures : W → ℕ) (of it : ItemLines) (given : List Item)
    (item : Item) (text : List ℕ) (result : Result (Unit {0}) E) (old new : Pen W) → of ≡ it
    → it.lines (given ++ item ∷ []) ≡ it.lines given ++ text
    → AddsLines contents failures (it.take_memory item) text result old new
    → AddsNext contents failures of given item result old new
next_lines contents failures of it given item text result old new e more p =
    subst (λ (lines : ItemLines). AddsNext contents failures lines given item result old new) (sym e) (text, more, p)

-- an item whose lines are added whatever memory there is
pub next_added : {W : Type 0} {contents : W → Option (List ℕ)} {failures : W → ℕ} {text : List ℕ} {old new : Pen W} (of it : ItemLines)
    (given : List Item) (item : Item) → of ≡ it → it.lines (given ++ item ∷ []) ≡ it.lines given ++ text
    → Adds contents failures text old new → AddsNext {E = Unit {0}} contents failures of given item (Ok tt) old new
next_added {contents = contents} {failures = failures} {text = text} {old = old} {new = new} of it given item e more p =
    next_lines {E = Unit {0}} contents failures of it given item text (Ok tt) old new e more p

-- the verdict
pub last_lines : {W : Type 0} {contents : W → Option (List ℕ)} {failures : W → ℕ} {old new : Pen W} (of it : ItemLines)
    (given : List Item) (verdict : Verdict) → of ≡ it → Adds contents failures (it.last given verdict) old new
    → Adds contents failures (of.last given verdict) old new
last_lines of it given verdict e p = adds_as (ap (λ (lines : ItemLines). lines.last given verdict) (sym e)) p

-- ---- what is put

-- the answer of a sink, as one of a run
pub told_put : {W : Type 0} (contents : W → Option (List ℕ)) (failures : W → ℕ) (take_memory : Bool) (text : List ℕ)
    (put : Result (Unit {0}) SinkFault) (result : Result (Unit {0}) ToolFault) (old new : Sink W) → result ≡ tool_result put
    → PutsText contents failures text put old new → PutsLines contents failures take_memory text result old new
told_put contents failures take_memory text (Ok u) result old new e p =
    subst (λ (r : Result (Unit {0}) ToolFault). PutsLines contents failures take_memory text r old new) (sym e) p
told_put contents failures take_memory text (Err fault) result old new e p =
    subst (λ (r : Result (Unit {0}) ToolFault). PutsLines contents failures take_memory text r old new) (sym e) p

-- after a text that was put another one is put, or the writer fails in that
pub put_both : {W : Type 0} (contents : W → Option (List ℕ)) (failures : W → ℕ) (a b : List ℕ) (result : Result (Unit {0}) SinkFault)
    (old mid new : Sink W) → IsPut contents failures a old mid → PutsText contents failures b result mid new
    → PutsText contents failures (a ++ b) result old new
put_both {W = W} contents failures a b result old mid new p q = record {
  written =
      λ start before h. subst (λ (l : List ℕ). HasWritten contents start l new) (append_assoc before a b)
      (q.written start (before ++ a) (p.written start before h));
  fault = q.fault;
  failed = q.failed;
  failures_counted =
      λ unfailed. subst (λ (n : ℕ). CountsOn result n (failures (writer_of new))) (p.failures_counted unfailed)
      (q.failures_counted p.failed);
  again = λ failed. absurd (true≢false (sym failed ∙ sym (ap has_failed (p.again failed)) ∙ p.failed));
}
