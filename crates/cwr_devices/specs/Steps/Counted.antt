-- What a `Counted` shows of itself.
use Rattle.std.specs.Prelude.{ℕ, Bool}
use Rattle.cwr_devices.specs.declared.counted.Counted.{Counted}

-- the writer in it
abbrev pub inner_of : {W : Type 0} → Counted W → W
inner_of counted = counted.inner

-- how many calls failed
abbrev pub failures_of : {W : Type 0} → Counted W → ℕ
failures_of counted = counted.failures

-- all that was written was handed on
abbrev pub has_handed_on : {W : Type 0} → Counted W → Bool
has_handed_on counted = counted.handed_on
