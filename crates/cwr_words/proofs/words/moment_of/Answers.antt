use Rattle.std.proofs.Common.{◌≡◌, ◌∷◌, ◌++◌, ◌-◌, ℕ, List, false, true, ap₂, subst, sym, ◌∙◌, arith, length}
use Rattle.std.specs.Prelude.{take, drop}
use Rattle.std.proofs.lemmas.List.{length-drop, take_all}
use Rattle.cwr_fields.specs.declared.cell_types.CellType.TheVariants as types
use Rattle.cwr_fields.specs.Format.Cells.{Allows}
use Rattle.cwr_moments.specs.Format.Moments.{moment_text}
use Rattle.cwr_words.proofs.lemmas.Moments.{has_day, has_time, is_long, is_marked, parted}
use Rattle.cwr_words.proofs.words.moment_of.Goals.{then-bytes-ne15-via-then-bytes-ne15, then-bytes-ne15-via-else-bytes-ne15+then-bytes-ne84}
use Rattle.cwr_words.proofs.words.moment_of.Goals as goal

pub returns-then-bytes-ne15 : goal.returns-then-bytes-ne15
returns-then-bytes-ne15 c = λ m e.
    let bytes : List ℕ = c.as_bytes-bytes.result.now in
    let same : moment_text m ≡ bytes = e ∙ sym c.as_bytes-bytes.ensures.value in
    elim c.then-bytes-ne15.branch [
      | then-bytes-ne15-via-then-bytes-ne15 w ↦ w.if-bytes-ne15.true (is_long m bytes same)
      | then-bytes-ne15-via-else-bytes-ne15+then-bytes-ne84 w ↦ w.if-bytes-ne84.true (is_marked m bytes same)
    ]

pub returns-in_err-read : goal.returns-in_err-read
returns-in_err-read c = rw c.from_residual.ensures (λ m e.
    let bytes : List ℕ = c.as_bytes-bytes.result.now in
    let same : moment_text m ≡ bytes = e ∙ sym c.as_bytes-bytes.ensures.value in
    let there : false ≡ true = c.in_err-read.ensures.some.1 (has_day m bytes same) in cc)

pub returns-in_err-read-2 : goal.returns-in_err-read-2
returns-in_err-read-2 c = rw c.from_residual-in_err-read-2.ensures (λ m e.
    let bytes : List ℕ = c.as_bytes-bytes.result.now in
    let same : moment_text m ≡ bytes = e ∙ sym c.as_bytes-bytes.ensures.value in
    let long : length bytes ≡ 15 = c.if-bytes-ne15.false in
    let whole : take (length bytes - 9) (drop 9 bytes) ≡ drop 9 bytes =
    take_all (length bytes - 9) (drop 9 bytes) (omega (arith, long, length-drop 9 bytes)) in
    let there : false ≡ true =
    c.in_err-read-2.ensures.some.1 (subst (λ (t : List ℕ). (length t ≡ 6) × Allows types.Time t) (sym whole) (has_time m bytes same)) in cc)

pub returns : goal.returns
returns c =
    let bytes : List ℕ = c.as_bytes-bytes.result.now in
    ap₂ (λ (xs ys : List ℕ). xs ++ 84 ∷ ys) c.in_ok-read.ensures.value c.in_ok-read-2.ensures.value
    ∙ parted bytes c.if-bytes-ne15.false c.if-bytes-ne84.false ∙ c.as_bytes-bytes.ensures.value
