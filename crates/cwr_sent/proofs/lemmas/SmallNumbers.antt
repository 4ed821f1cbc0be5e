-- The number that up to eight bytes write fits 32 bits, whatever the bytes are.
use Rattle.std.proofs.Common.{◌≡◌, ℕ, zero, suc, ◌+◌, ◌-◌, ◌*◌, ◌<◌, ◌≤◌, List, [], ◌∷◌, length, arith}
use Rattle.std.specs.Prelude.{fold, slice_index}
use Rattle.cwr_fields.specs.Format.Bytes.{number_of}

abbrev most : ℕ → ℕ → ℕ
most n zero = n
most n (suc k) = most (10 * n + 207) k

abbrev read_on : ℕ → List ℕ → ℕ
read_on n cell = fold (λ n b. 10 * n + (b - 48)) n cell

at_most : (cell : List ℕ) (n m : ℕ) → ((k : ℕ) → slice_index cell k < 256) → n ≤ m → read_on n cell ≤ most m (length cell)
at_most [] n m small h = h
at_most (b ∷ cell) n m small h =
    let first : b < 256 = small 0 in
    at_most cell (10 * n + (b - 48)) (10 * m + 207) (λ k. small (suc k)) (omega (arith, h, first))

more : (n k : ℕ) → n ≤ most n k
more n zero = omega arith
more n (suc k) = let h = more (10 * n + 207) k in omega (arith, h)

up_to : (n k j : ℕ) → k ≤ j → most n k ≤ most n j
up_to n zero j h = more n j
up_to n (suc k) zero h = absurd (omega (arith, h))
up_to n (suc k) (suc j) h = up_to (10 * n + 207) k j (omega (arith, h))

pub small_fits : (cell : List ℕ) → ((k : ℕ) → slice_index cell k < 256) → length cell ≤ 8 → number_of cell < 4294967296
small_fits cell small short =
    let a = at_most cell 0 0 small (omega arith) in
    let b = up_to 0 (length cell) 8 short in
    omega (arith, a, b)
