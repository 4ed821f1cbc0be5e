-- The line of the sums of several files.
use Rattle.std.specs.Prelude.{◌≡◌, ℕ, ◌-◌, ◌^◌, min, Bool, true, false, List, ◌++◌, count_by, Option, Some, None, codes, decimal}
use Rattle.cwr_tools.specs.declared.verdicts.Verdict.{Verdict}
use Rattle.cwr_tools.specs.declared.verdicts.Verdict.TheVariants.{Good, Refused, Truncated}
use Rattle.cwr_endings.specs.declared.sums.Sums.{Sums}

-- the verdict on a file, or none where it failed: one of each kind
abbrev pub is_good : Option Verdict → Bool
is_good (Some (Good groups transactions records)) = true
is_good end = false

abbrev pub is_refused : Option Verdict → Bool
is_refused (Some (Refused refusal)) = true
is_refused end = false

abbrev pub is_truncated : Option Verdict → Bool
is_truncated (Some (Truncated records)) = true
is_truncated end = false

abbrev pub is_failed : Option Verdict → Bool
is_failed None = true
is_failed (Some verdict) = false

-- how many of the files are so; the highest number stands for more too
abbrev pub how_many : (Option Verdict → Bool) → List (Option Verdict) → ℕ
how_many is_so ends = min (count_by is_so ends) (2 ^ 64 - 1)

-- the sums over these files
pub record AreSums (sums : Sums) (ends : List (Option Verdict)) : Type 0 where
  pub good : sums.good ≡ how_many is_good ends
  pub refused : sums.refused ≡ how_many is_refused ends
  pub truncated : sums.truncated ≡ how_many is_truncated ends
  pub failed : sums.failed ≡ how_many is_failed ends

-- the line that says how many files were named, and how many of them are good, refused or truncated, or failed
abbrev pub sums_line : ℕ → List (Option Verdict) → List ℕ
sums_line files ends =
    codes "FILES " ++ (decimal files ++ (codes " good " ++ (decimal (how_many is_good ends) ++ (codes " refused "
    ++ (decimal (how_many is_refused ends) ++ (codes " truncated " ++ (decimal (how_many is_truncated ends) ++ (codes " failed "
    ++ (decimal (how_many is_failed ends) ++ codes "\n")))))))))
