use Rattle.std.proofs.Common.{◌≡◌, ℕ, ◌+◌, ◌-◌, true, false, [], ◌∷◌, drop, get_or, sym, ap, ◌∙◌, arith}
use Rattle.std.proofs.lemmas.List.{length-drop}
use Rattle.cwr_json.specs.Format.Encodings.{begins_escape, has_escape}
use Rattle.cwr_json.proofs.lemmas.Encoded.{escape_here, escape_later, escape_nowhere}
use Rattle.cwr_json.proofs.spelling.has_escape.Goals as goal

pub returns-then-begins_escape : goal.returns-then-begins_escape
returns-then-begins_escape c =
    let back : c.loop-i.i - 1 + 1 ≡ c.loop-i.i = omega (arith, c.loop-i.invariant.begun) in
    let here : begins_escape (get_or c.args.text.now (c.loop-i.i - 1) 0) (get_or c.args.text.now (c.loop-i.i - 1 + 1) 0 ∷ [])
    ≡ true
    = ap (λ (n : ℕ). begins_escape (get_or c.args.text.now (c.loop-i.i - 1) 0) (get_or c.args.text.now n 0 ∷ [])) back
    ∙ sym c.begins_escape.ensures ∙ c.if-begins_escape.true in
    sym (c.loop-i.invariant.same
    ∙ escape_here c.args.text.now (c.loop-i.i - 1) (omega (arith, c.loop-i.invariant.begun, c.loop-i-test.true)) here)

pub loop-i-preserved : goal.loop-i-preserved
loop-i-preserved c =
    let back : c.loop-i.i - 1 + 1 ≡ c.loop-i.i = omega (arith, c.loop-i.invariant.begun) in
    let next : c.loop-i.i ≡ c.loop-i.i + 1 - 1 = omega arith in
    let here : begins_escape (get_or c.args.text.now (c.loop-i.i - 1) 0) (get_or c.args.text.now (c.loop-i.i - 1 + 1) 0 ∷ [])
    ≡ false
    = ap (λ (n : ℕ). begins_escape (get_or c.args.text.now (c.loop-i.i - 1) 0) (get_or c.args.text.now n 0 ∷ [])) back
    ∙ sym c.begins_escape.ensures ∙ c.if-begins_escape.false in
    record {
      begun = omega (arith, c.loop-i.invariant.begun);
      same =
          c.loop-i.invariant.same
          ∙ escape_later c.args.text.now (c.loop-i.i - 1) (omega (arith, c.loop-i.invariant.begun, c.loop-i-test.true)) here
          ∙ ap (λ (n : ℕ). has_escape (drop n c.args.text.now)) (back ∙ next);
    }

pub returns : goal.returns
returns c =
    sym (c.loop-i.invariant.same ∙ escape_nowhere (drop (c.loop-i.i - 1) c.args.text.now)
    (omega (arith, c.loop-i.invariant.begun, c.loop-i-test.false, length-drop (c.loop-i.i - 1) c.args.text.now)))
