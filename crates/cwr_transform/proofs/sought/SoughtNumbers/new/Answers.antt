use Rattle.std.proofs.Common.{◌≡◌, ◌==◌, ℕ, ◌<◌, false, not, length, map, get_or, ap, ◌∙◌, arith, rules}
use Rattle.std.specs.Str.{bytes_eq}
use Rattle.std.proofs.lemmas.List.{get_or-map, length-map}
use Rattle.cwr_transform.proofs.lemmas.SoughtValues.{bytes_equiv, noted_none}
use Rattle.cwr_transform.proofs.sought.SoughtNumbers.new.Goals as goal

pub returns-clause-noted : goal.returns-clause-noted
returns-clause-noted c =
    let firsts = c.resize.new.self in
    let made : length firsts.items ≡ length c.args.listed.now =
    omega (arith, firsts.ok.0, c.in_ok-resize.ensures.len, c.len-count.ensures) in
    let none : Rattle.std.specs.Vec.vec_len c.reserve_exact.new.self ≡ 0 =
    omega (arith, c.in_ok-reserve_exact.ensures.len, c.new-firsts.ensures.len) in
    noted_none bytes_eq bytes_equiv c.args.listed.now (map (λ (first : ℕ). not (first == 0)) firsts.items) c.requires
    (length-map firsts.items (λ (first : ℕ). not (first == 0)) ∙ made)
    (λ i lt.
    let within : i < length firsts.items = omega (arith, made, lt) in
    let zero : get_or firsts.items i 0 ≡ 0 =
    c.in_ok-resize.ensures.by_index.1 i 0 (search rules) (omega (arith, none)) (omega (arith, lt, c.len-count.ensures)) in
    get_or-map (λ (first : ℕ). not (first == 0)) firsts.items i 0 false within ∙ ap (λ (first : ℕ). not (first == 0)) zero)
