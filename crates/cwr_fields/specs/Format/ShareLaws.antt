-- What a share's cell holds, and that shares meet the laws of cells.
use Rattle.std.proofs.Common.{◌≡◌, refl, sym, ap, length, ℕ, ◌≤◌, List, replicate, arith, inl, inr}
use Rattle.std.specs.Prelude.{Option, Some, None}
use Rattle.std.specs.Option.{ForSome}
use denote.Struct.Props.{props}
use Rattle.cwr_fields.specs.declared.cell_types.CellType.TheVariants as types
use Rattle.cwr_fields.specs.Format.Bytes.{digits}
use Rattle.cwr_fields.specs.Format.Cells.{Allows}
use Rattle.cwr_fields.specs.Format.NumberLaws.{number_width, number_equal, not_spaces}

-- that a share is at most the whole has one proof
pub whole_prop : (o : Option ℕ) → IsProp (ForSome o (λ n. n ≤ 10000))
whole_prop o = hlevel props

-- the text of a share
abbrev pub share_text : Option ℕ → List ℕ
share_text None = replicate 5 32
share_text (Some n) = digits 5 n

pub share_width : (o : Option ℕ) → length (share_text o) ≡ 5
share_width None = refl
share_width (Some n) = number_width 5 n

pub share_fits : (o : Option ℕ) → ForSome o (λ n. n ≤ 10000) → Allows types.Share (share_text o)
share_fits None h = inl refl
share_fits (Some n) h = inr (n, h n refl, refl)

pub share_equal : (x y : Option ℕ) → ForSome x (λ n. n ≤ 10000) → ForSome y (λ n. n ≤ 10000) → share_text x ≡ share_text y → x ≡ y
share_equal None None h k e = refl
share_equal None (Some n) h k e = absurd (not_spaces 4 n (sym e))
share_equal (Some n) None h k e = absurd (not_spaces 4 n e)
share_equal (Some n) (Some m) h k e =
    let hn : n ≤ 10000 = h n refl in
    let km : m ≤ 10000 = k m refl in
    ap Some (number_equal 5 n m (omega arith) (omega arith) e)
