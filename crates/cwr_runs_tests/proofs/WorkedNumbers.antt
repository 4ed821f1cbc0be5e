-- How numbers go on after a wrong one, on worked lines.
use Rattle.std.proofs.Common.{◌≡◌, ℕ, true, false, List, [], ◌∷◌, ◌++◌, Some, None, refl}
use Rattle.std.specs.Prelude.{codes}
use Rattle.cwr_fields.specs.Format.Bytes.{digits}
use Rattle.cwr_lines.specs.Format.Lines.{raw_lines}
use Rattle.cwr_causes.specs.Format.NumbersAfter.{first_number, followed_at, go_on, have_ended, numbers_on}

-- the fronts of lines: two works with a writer each, the foot of their group, and a work after it
abbrev two_works : List (List ℕ)
two_works =
    codes "NWR0000000200000000" ∷ codes "SWR0000000200000001" ∷ codes "REV0000000300000000" ∷ codes "SWR0000000300000001"
    ∷ codes "GRT000010000000400000010" ∷ codes "NWR0000000000000000" ∷ []

-- their transactions' numbers, up to the foot
their_numbers : numbers_on (followed_at 2) two_works ≡ Some 2 ∷ Some 3 ∷ []
unfolding digits
their_numbers = refl

they_end : have_ended (followed_at 2) two_works ≡ true
unfolding digits
they_end = refl

-- the rest of a work, and the header of the next one
abbrev rest_of_work : List (List ℕ)
rest_of_work =
    codes "SWT0000000200000003" ∷ codes "PWR0000000200000004" ∷ codes "SWR0000000200000009" ∷ codes "NWR0000000300000000"
    ∷ codes "SWR0000000300000001" ∷ []

-- the records' numbers, up to that header
its_numbers : numbers_on (followed_at 3) rest_of_work ≡ Some 3 ∷ Some 4 ∷ Some 9 ∷ []
unfolding digits
its_numbers = refl

-- where no eight digits stand, there is no number
no_number : numbers_on (followed_at 3) (codes "SWR00000002000000 3" ∷ codes "SWR0000000200000004" ∷ []) ≡ None ∷ Some 4 ∷ []
unfolding digits
no_number = refl

-- a line that ends before its sequences do ends them, and so does one of no kind
short_line : numbers_on (followed_at 3) (codes "SWR000000020000000" ∷ codes "SWR0000000200000004" ∷ []) ≡ []
unfolding digits
short_line = refl

unknown_line : numbers_on (followed_at 3) (codes "SWR0000000200000003" ∷ codes "XYZ0000000200000004" ∷ []) ≡ Some 3 ∷ []
unfolding digits
unknown_line = refl

-- what has no line feed yet is no line
cut_line : numbers_on (followed_at 3) (raw_lines (codes "SWR0000000200000003\nSWR0000000200000004")) ≡ Some 3 ∷ []
unfolding digits
cut_line = refl

-- they go on after 2, and not after 1
three_and_four : go_on 3 (Some 3 ∷ Some 4 ∷ []) ≡ true
three_and_four = refl

not_after_one : go_on 2 (Some 3 ∷ Some 4 ∷ []) ≡ false
not_after_one = refl

none_between : go_on 3 (Some 3 ∷ None ∷ Some 5 ∷ []) ≡ false
none_between = refl

first_of_them : first_number (Some 3 ∷ Some 4 ∷ []) ≡ Some 3
first_of_them = refl
