use Rattle.std.proofs.Common.{◌≡◌, ℕ, ◌≤◌, List, length, sym, ap, subst, ◌∙◌, arith}
use Rattle.std.specs.Prelude.{IsSomeAnd}
use Rattle.cwr_fields.specs.Format.Bytes.{trimmed}
use Rattle.cwr_fields.specs.declared.kinds.Kind.{Kind}
use Rattle.cwr_fields.specs.Format.Layouts.{field_with_start, layout}
use Rattle.cwr_lines.specs.Format.Records.{RecordValue}
use Rattle.cwr_lines.specs.Steps.Carried.{record_in}
use Rattle.cwr_lines.proofs.lemmas.BlankFields.{blank_from, blank_here, blank_past}
use Rattle.cwr_lines.proofs.records.RecordRef.filled_fields.Goals as goal

pub loop-filled-init : goal.loop-filled-init
loop-filled-init c =
    let all : c.fields-filled.result ≡ length (layout c.args.self.now.kind) =
    c.fields-filled.ensures ∙ ap (λ (kind : Kind). length (layout kind)) c.requires in
    (omega (arith, all), λ j h. blank_past c.args.self.now j (omega (arith, h, all)))

pub loop-filled-preserved : goal.loop-filled-preserved
loop-filled-preserved c =
    let line = c.self.inside.line.now in
    let same : c.args.kind ≡ c.self.inside.kind = c.requires ∙ sym (ap (λ (r : RecordValue). r.kind) c.self.view_is) in
    let there : IsSomeAnd (field_with_start c.args.kind c.loop-filled.filled) (λ p. length (trimmed line) ≤ p.0) =
    subst (λ (text : List ℕ). IsSomeAnd (field_with_start c.args.kind c.loop-filled.filled) (λ p. length text ≤ p.0))
    c.trimmed_line-end.ensures (c.starts_behind.ensures c.if-starts_behind.true) in (
      omega (arith, c.loop-filled.invariant.0),
      λ j h. blank_from c.args.self.now c.loop-filled.filled j c.loop-filled.invariant.1
          (blank_here c.args.kind line c.loop-filled.filled c.args.self.now (ap (λ (k : Kind). record_in k line) same ∙ c.self.view_is) there) h,
    )

pub returns-else-starts_behind-clause-blank : goal.returns-else-starts_behind-clause-blank
returns-else-starts_behind-clause-blank c = c.loop-filled.invariant.1
