-- Members of code tables, their codes, and the cells that hold these.
use Rattle.std.specs.Prelude.{ℕ, List, find, Option}
use Rattle.std.specs.Str.{bytes_eq}
use Rattle.cwr_fields.specs.Format.Bytes.{filled}

-- a member and its code
abbrev pub coded : {C : Type 0} → (C → List ℕ) → C → C × List ℕ
coded code x = (x, code x)

-- the first of the members whose code, filled up with spaces, the cell is
abbrev pub member_with : {C : Type 0} → (C → List ℕ) → List C → ℕ → List ℕ → Option C
member_with code members width cell = find (λ x. bytes_eq cell (filled width (code x))) members
