use Rattle.std.proofs.Common.{◌≡◌, ℕ, ◌+◌, sym, ap, ◌∙◌, arith}
use Rattle.std.specs.Prelude.{option_map}
use Rattle.std.specs.List.{enumerate_from}
use Rattle.std.proofs.lemmas.Option.{slice_get_within}
use Rattle.cwr_sent.specs.declared.facts.SentFacts.{SentFacts}
use Rattle.cwr_devices.proofs.lemmas.Adding.{adds_all, adds_as, adds_next, adds_nothing, numbered_none, numbered_there}
use Rattle.cwr_acks.specs.Format.AckLines.{telling_of}
use Rattle.cwr_acks.specs.Steps.AckSteps.{row_line}
use Rattle.cwr_acks.proofs.unanswered.group_lines.Goals as goal

pub loop-facts-init : goal.loop-facts-init
loop-facts-init g c = record { within = omega arith; adds = adds_nothing }

pub prove-unreachable-requires : goal.prove-unreachable-requires
prove-unreachable-requires g c =
    let w = slice_get_within c.args.group.now.facts c.loop-facts.t c.in-Some.facts (sym c.facts.ensures ∙ c.in-Some.is) in
    omega (arith, w, c.len-count.ensures, c.if-prove.true)

pub row_line-requires : goal.row_line-requires
row_line-requires g c =
    slice_get_within c.args.group.now.facts c.loop-facts.t c.in-Some.facts (sym c.facts.ensures ∙ c.in-Some.is)

pub loop-facts-preserved : goal.loop-facts-preserved
loop-facts-preserved g c =
    let w = slice_get_within c.args.group.now.facts c.loop-facts.t c.in-Some.facts (sym c.facts.ensures ∙ c.in-Some.is) in
    let line : ℕ → SentFacts → _ = row_line (telling_of c.args.manner.now) (option_map (λ n. n.now) c.args.name) c.args.number
    c.args.group.now.answers in
    let number : c.loop-facts.t ≡ 0 + c.loop-facts.t = omega arith in
    record {
      within = omega (arith, w);
      adds =
          adds_next (λ (p : ℕ × SentFacts). line p.0 p.1) (enumerate_from 0 c.args.group.now.facts) c.loop-facts.t
          (0 + c.loop-facts.t, c.in-Some.facts)
          (numbered_there 0 c.loop-facts.t c.args.group.now.facts c.in-Some.facts (sym c.in-Some.is ∙ c.facts.ensures))
          c.loop-facts.invariant.adds (adds_as (ap (λ (n : ℕ). line n c.in-Some.facts) number) c.row_line.ensures);
    }

pub loop-facts-smaller : goal.loop-facts-smaller
loop-facts-smaller g c =
    let w = slice_get_within c.args.group.now.facts c.loop-facts.t c.in-Some.facts (sym c.facts.ensures ∙ c.in-Some.is) in
    omega (arith, w)

pub returns : goal.returns
returns g c =
    adds_all (λ (p : ℕ × SentFacts). row_line (telling_of c.args.manner.now) (option_map (λ n. n.now) c.args.name) c.args.number
    c.args.group.now.answers p.0 p.1) (enumerate_from 0 c.args.group.now.facts) c.loop-facts.t
    (numbered_none 0 c.loop-facts.t c.args.group.now.facts (sym c.in_default.is ∙ c.facts.ensures)) c.loop-facts.invariant.adds
