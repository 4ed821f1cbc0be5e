-- What is told of a selection, on worked lists and transactions.
use Rattle.std.proofs.Common.{◌≡◌, ℕ, true, false, List, [], ◌∷◌, Some, None, refl}
use Rattle.std.specs.Prelude.{codes}
use Rattle.std.specs.Fmt.{digits as plain_digits}
use Rattle.std.specs.Str.{bytes_eq}
use Rattle.cwr_fields.specs.Format.Bytes.{trimmed}
use Rattle.cwr_transform.specs.Format.Missing.{Placed, lacks_one, places_of, same_place}
use Rattle.cwr_transform.specs.Format.Told.{firsts_after, missing_place, number_lines, numbers_told, place_lines, places_told, selected_line}

-- the places of two transactions of the first group, and of one of the second
abbrev three : List Placed
three =
    record { group = 1; place = 0; records = [] } ∷ record { group = 1; place = 1; records = [] }
    ∷ record { group = 2; place = 0; records = [] } ∷ []

three_of_1200 : selected_line (record { selected = 3; transactions = 1200 }) ≡ codes "SELECTED 3 of 1200\n"
unfolding plain_digits
three_of_1200 = refl

-- a number that none has, that one has, and that two have
none_has_it : number_lines (codes "W0099") [] ≡ codes "MISSING W0099\n"
none_has_it = refl

one_has_it : number_lines (codes "W0001") ((2, 0) ∷ []) ≡ []
one_has_it = refl

two_have_it : number_lines (codes "W0001") ((1, 0) ∷ (12, 3) ∷ [])
    ≡ codes "TWICE W0001 group 1 transaction 0\nTWICE W0001 group 12 transaction 3\n"
unfolding plain_digits
two_have_it = refl

-- a number is told once, where it stands first
told_once : numbers_told (codes "W2" ∷ codes "W1" ∷ codes "W2" ∷ []) [] ≡ codes "MISSING W2\nMISSING W1\n"
unfolding trimmed
told_once = refl

-- so are places that no transaction has
no_such_places : places_told ((9, 9) ∷ (1, 1) ∷ (2, 1) ∷ (9, 9) ∷ []) three
    ≡ codes "MISSING group 9 transaction 9\nMISSING group 2 transaction 1\n"
unfolding plain_digits missing_place
no_such_places = refl

-- one of them is missing, or none is
one_is_missing : lacks_one same_place (Some ((1, 0) ∷ (2, 1) ∷ [])) (places_of three) ≡ true
one_is_missing = refl

none_is_missing : lacks_one same_place (Some ((2, 0) ∷ (1, 0) ∷ [])) (places_of three) ≡ false
none_is_missing = refl

without_a_list : lacks_one same_place None (places_of three) ≡ false
without_a_list = refl
