-- How numbers don't go on as they began, or aren't what came.
use Rattle.std.specs.Prelude.{ℕ, ◌-◌, ◌^◌, min, List, Bool, true, false, not, ◌&&◌, ◌||◌, ◌==◌, nat_lt, Option, Some, None, unwrap_or, if◌then◌else◌}
use Rattle.cwr_fields.specs.Format.Bytes.{are_digits, number_of}
use Rattle.cwr_renumber.specs.declared.jumps.Count.{Count}
use Rattle.cwr_renumber.specs.declared.jumps.Counting.{Counting}
use Rattle.cwr_renumber.specs.declared.jumps.Step.{Step}
use Rattle.cwr_renumber.specs.declared.jumps.Step.TheVariants.{Again, Back, Counts, Group, OfAnother, OfAnotherGroup, Transaction}

-- ---- a number in a cell

-- the number that digits write, or the largest one of 32 bits where that is larger
abbrev pub capped_number : List ℕ → ℕ
capped_number digits = min (number_of digits) (2 ^ 32 - 1)

-- the number of a cell, where its bytes are all digits
abbrev pub number_in : List ℕ → Option ℕ
number_in cell = if are_digits cell then Some (capped_number cell) else None

-- ---- a record in mid-transaction

-- its record sequence is higher than the one before; where that is 0 nothing was counted
abbrev pub own_jump : Option ℕ → Option ℕ → Option Step
own_jump (Some before) (Some here) =
    if nat_lt before here || (before == 0) then None else (if here == before then Some (Again here) else Some (Back before here))
own_jump None here = None
own_jump (Some before) None = None

-- both its sequences are 0: nothing was counted
abbrev pub is_uncounted : Option ℕ → Option ℕ → Bool
is_uncounted (Some transaction) (Some own) = (transaction == 0) && (own == 0)
is_uncounted transaction own = false

-- it has another transaction sequence than the line before
abbrev pub other_jump : Option ℕ → Option ℕ → Option Step
other_jump (Some before) (Some here) = if before == here then None else Some (OfAnother before here)
other_jump None here = None
other_jump (Some before) None = None

abbrev pub jump_or : Option Step → Option Step → Option Step
jump_or None other = other
jump_or (Some step) other = Some step

-- its transaction sequence is that of the line before, and its own goes on
abbrev pub record_jump : Counting → Option ℕ → Option ℕ → Option Step
record_jump before transaction own =
    if is_uncounted transaction own then own_jump before.own own
    else jump_or (other_jump before.transaction transaction) (own_jump before.own own)

-- ---- a header

-- a transaction sequence is one more than the one before, and 0 in the first transaction of a group; as long as nothing was counted 0 comes
-- after 0
abbrev pub goes_on : Bool → Option ℕ → ℕ → Bool
goes_on counted None here = here == 0
goes_on counted (Some before) here = (here - before == 1) || ((not counted) && ((before == 0) && (here == 0)))

abbrev pub header_jump : Counting → Option ℕ → Option Step
header_jump before None = None
header_jump before (Some here) =
    if goes_on before.counted before.transaction here then None else Some (Transaction before.transaction here)

-- how the sequences of a line don't go on: a header, or another record
abbrev pub jump_of : Counting → Bool → Option ℕ → Option ℕ → Option Step
jump_of before header transaction own =
    if header then header_jump before transaction else record_jump before transaction own

-- ---- the records of a group

-- the ID in GRH is one more than that of the group before, and 1 in the first one; where it is 0 nothing was counted
abbrev pub opened_jump : Option ℕ → Option ℕ → Option Step
opened_jump before None = None
opened_jump before (Some here) = if (here == 0) || (here - unwrap_or before 0 == 1) then None else Some (Group before here)

-- the ID in GRT is that in GRH, where both were counted
abbrev pub closed_jump : Option ℕ → Option ℕ → Option Step
closed_jump None closed = None
closed_jump (Some opened) None = None
closed_jump (Some opened) (Some closed) =
    if (opened == 0) || ((closed == 0) || (opened == closed)) then None else Some (OfAnotherGroup opened closed)

-- a count that is filled in, and not with so many
abbrev pub miscount : Option ℕ → ℕ → Option Count
miscount None came = None
miscount (Some told) came = if (told == 0) || (told == came) then None else Some (record { told = told; came = came })

-- the counts of GRT or TRL that aren't what came
abbrev pub counts_jump : Option Count → Option Count → Option Count → Option Step
counts_jump None None None = None
counts_jump groups transactions records = Some (Counts groups transactions records)

-- ---- what stands before the next line

-- the number, or where there is none the one before
abbrev pub latest : Option ℕ → Option ℕ → Option ℕ
latest (Some here) before = Some here
latest None before = before

-- the number isn't 0
abbrev pub is_counted : Option ℕ → Bool
is_counted None = false
is_counted (Some number) = not (number == 0)

abbrev pub counting_after : Counting → Bool → Option ℕ → Option ℕ → Counting
counting_after before header transaction own =
    record {
      counted = before.counted || (is_counted transaction || is_counted own);
      transaction = if not header && is_uncounted transaction own then before.transaction else latest transaction before.transaction;
      own = latest own before.own;
    }

-- ---- what a jump means

-- by it records may have come into the transaction or the group before theirs
abbrev pub is_mixed : Step → Bool
is_mixed (Back before here) = true
is_mixed (OfAnother before here) = true
is_mixed (OfAnotherGroup opened closed) = true
is_mixed step = false

-- the same of what was found at a line
abbrev pub is_mixed_by : Option Step → Bool
is_mixed_by None = false
is_mixed_by (Some step) = is_mixed step
