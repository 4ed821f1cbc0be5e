use Rattle.std.proofs.Common.{◌≡◌, ◌<◌, ℕ, List, take, drop, map, length, sym, ap, ◌∙◌, arith}
use Rattle.std.proofs.lemmas.Simd.{length-chunk, leading_from_mask_l, trailing_mask_l}
use Rattle.cwr_fields.specs.Format.Bytes.{is_control}
use Rattle.cwr_lines.proofs.lemmas.ControlMasks.{control_bits}
use Rattle.cwr_lines.proofs.lines.pads.before_control.Goals as goal
use lib.Lanes.{mask_l}
use lib.Count.{count_trailing_zeros}

pub returns-then-found-eq0 : goal.returns-then-found-eq0
returns-then-found-eq0 c =
    let bytes : List ℕ = take 32 (drop c.args.at c.args.text.now) in
    let long : length bytes ≡ 32 = length-chunk c.args.at 32 c.args.text.now c.requires in
    let bits = control_bits bytes long in
    sym (leading_from_mask_l is_control bytes (sym bits ∙ c.if-found-eq0.true) ∙ long)

pub returns-else-found-eq0 : goal.returns-else-found-eq0
returns-else-found-eq0 c =
    let bytes : List ℕ = take 32 (drop c.args.at c.args.text.now) in
    let long : length bytes ≡ 32 = length-chunk c.args.at 32 c.args.text.now c.requires in
    let bits = control_bits bytes long in
    let some : 0 < mask_l (map is_control bytes) = omega (arith, bits, c.if-found-eq0.false) in
    ap (count_trailing_zeros 64) bits ∙ trailing_mask_l is_control 64 bytes (omega (arith, long)) some
