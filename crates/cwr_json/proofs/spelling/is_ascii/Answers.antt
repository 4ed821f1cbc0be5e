use Rattle.std.proofs.Common.{ℕ, List, ◌++◌, ◌<◌, get_or, length, take, sym, ap₂, subst, ◌≡◌, ◌∙◌, ltb-true, arith}
use Rattle.std.proofs.lemmas.Bool.{and_parts}
use Rattle.std.proofs.lemmas.List.{take_all, take_more}
use Rattle.cwr_json.specs.Format.Encodings.{byte_by_byte}
use Rattle.cwr_json.proofs.lemmas.Characters.{character_low, characters_same, each_more, each_none}
use Rattle.cwr_json.proofs.spelling.is_ascii.Goals as goal

pub loop-b-init : goal.loop-b-init
loop-b-init c = λ h enc. each_none enc

pub loop-b-preserved : goal.loop-b-preserved
loop-b-preserved c = λ h enc.
    let i : ℕ = c.loop-b.b-index in
    let cell : List ℕ = c.args.cell.now in
    let b : ℕ = get_or cell i 0 in
    let within : i < length cell = omega arith in
    let p = and_parts _ _ h in
    each_more enc cell i within
    ∙ ap₂ (λ (l m : List ℕ). l ++ m) (c.loop-b.invariant p.0 enc) (character_low enc b (ltb-true b 128 p.1))
    ∙ sym (take_more cell i 0 within)

pub returns : goal.returns
returns c = λ h enc.
    let cell : List ℕ = c.args.cell.now in
    let all : take c.loop-b.b-index cell ≡ cell = take_all c.loop-b.b-index cell (omega arith) in
    characters_same enc cell (subst (λ (l : List ℕ). byte_by_byte enc l ≡ l) all (c.loop-b.invariant h enc))
