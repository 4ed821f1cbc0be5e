-- What an index answers to C.
use Rattle.std.specs.Prelude.{◌≡◌, ◌⊎◌, ℕ, List, IsSome}
use Rattle.cwr_shape.specs.Format.Ranges.{limit_values, range_fault}
use Rattle.cwr_decode.specs.declared.endings.End.{End}
use Rattle.cwr_calls.specs.declared.verdicts.CwrVerdict.{CwrVerdict}
use Rattle.cwr_decode.specs.declared.indexing.IndexEntry.{IndexEntry}
use Rattle.cwr_calls.specs.Format.VerdictNumbers.{ended, end_in_c}
use Rattle.cwr_decode.specs.Format.Entries.{IndexesTo}

-- a limit isn't in its range
abbrev pub IsOutOfRange : ℕ → ℕ → ℕ → Type 0
IsOutOfRange records groups transaction = IsSome (range_fault (limit_values records groups transaction))

-- 4 where a limit is out of its range, and then nothing is counted; else the text's end, and the index
abbrev pub Indexes : ℕ → ℕ → ℕ → List ℕ → List IndexEntry → List IndexEntry → ℕ → CwrVerdict → Type 0
Indexes records groups transaction text old entries count told =
    (IsOutOfRange records groups transaction × (told ≡ ended 4) × (count ≡ 0) × (entries ≡ old))
    ⊎ ((end : End) × (told ≡ end_in_c end) × IndexesTo (limit_values records groups transaction) text old entries count end)
