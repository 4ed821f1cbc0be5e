-- What was seen of control bytes, lane by lane.
use Rattle.std.specs.Prelude.{ℕ, Bool, ◌||◌, nat_lt}
use Rattle.std.specs.List.{list_any}
use Rattle.cwr_fields.specs.declared.lanes.SeenLanes.{SeenLanes}

-- a byte below the space
abbrev pub is_low : ℕ → Bool
is_low b = nat_lt b 32

-- a mark, which no zero is
abbrev pub is_marked : ℕ → Bool
is_marked b = nat_lt 0 b

-- some byte was below the space, or 127
abbrev pub has_seen : SeenLanes → Bool
has_seen s = list_any is_low s.least || list_any is_marked s.deleted
