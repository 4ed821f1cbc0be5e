use Rattle.std.proofs.Common.{◌≡◌, ◌∙◌, ℕ, List, [], ◌++◌, Option, Some, Vec, Global, ap, append-nil, subst, sym}
use Rattle.std.specs.Io.KnownBytes.{Appends}
use Rattle.cwr_devices.specs.declared.counted.Counted.{Counted}
use Rattle.cwr_tools.specs.Format.Texts.{verdict_line}
use Rattle.cwr_summaries.proofs.lemmas.Written.{all_of}
use Rattle.cwr_summaries.proofs.summaries.verdict_text.Goals as goal

pub returns-in-Ok-clause-text : goal.returns-in-Ok-clause-text
returns-in-Ok-clause-text c =
    let line : List ℕ = verdict_line c.args.verdict.now in
    let was : Option (List ℕ) = Some c.new-2.result.inner.items in
    let now : Option (List ℕ) = Some c.put_verdict_line.new.sink.writer.inner.items in
    let has = c.in-Ok.ensures.written _ [] c.new-sink.ensures.empty in
    let whole : line ≡ has.bytes =
    has.split ∙ ap (λ (l : List ℕ). has.bytes ++ l) (has.whole c.in-Ok.ensures.failed) ∙ append-nil has.bytes in
    all_of was now c.new.result.items c.into_inner-in-Ok.result.items line (ap (λ (v : Vec ℕ Global). Some v.items) c.new-2.ensures.inner)
    c.new.ensures.items
    (ap (λ (k : Counted (Vec ℕ Global)). Some k.inner.items) (sym c.into_inner.ensures)
    ∙ ap (λ (v : Vec ℕ Global). Some v.items) (sym c.into_inner-in-Ok.ensures))
    (subst (λ (l : List ℕ). Appends was now l) (sym whole) has.appended)
