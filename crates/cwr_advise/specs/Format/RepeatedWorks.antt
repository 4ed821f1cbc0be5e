-- Works of a transmission whose submitter's work numbers stand in works before them.
use Rattle.std.specs.Prelude.{ℕ, ◌+◌, Bool, not, ◌&&◌, ◌==◌, nat_lt, if◌then◌else◌, List, [], ◌∷◌, ◌++◌, codes, decimal, length}
use Rattle.std.specs.Prelude.{map, filter, take, count_by, flat_map, Option, Some, None}
use Rattle.std.specs.List.{after_last, enumerate_from, list_any}
use Rattle.std.specs.Option.{is_some, option_to_list}
use Rattle.std.specs.Str.{bytes_eq}
use Rattle.cwr_lines.specs.Format.Records.{RecordValue}
use Rattle.cwr_values.specs.declared.items.Item.{Item}
use Rattle.cwr_values.specs.declared.items.Item.TheVariants.{Transaction}
use Rattle.cwr_judge.specs.Format.Items.{is_transaction, opens_group, records_in}
use Rattle.cwr_notes.specs.Format.FindingNotes.{where_line}
use Rattle.cwr_notes.specs.Format.WorkNames.{work_line}
use Rattle.cwr_advice.specs.declared.rules.Advice.{Advice}
use Rattle.cwr_advice.specs.declared.rules.AdviceRule.TheVariants.{A5a}
use Rattle.cwr_advice.specs.Format.Rules.{cell_at, is_header}
use Rattle.cwr_advise.specs.declared.repeats.Place.{Place}
use Rattle.cwr_advise.specs.Format.AdviceTexts.{advice_line, cell_line, words_line}

-- ---- the works

-- the header of a work that is to be sent
abbrev pub work_header : Item → List RecordValue
work_header (Transaction t) = filter is_header (take 1 t)
work_header item = []

-- where a transaction stands that comes after these items
abbrev pub place_after : List Item → Place
place_after before =
    record {
      group = count_by opens_group before;
      sequence = count_by is_transaction (after_last opens_group before);
      line = length (records_in before) + 1;
    }

-- the work that the item is, which comes after these items: its number, which is field 6 of its header, and where it stands
abbrev pub work_in : List Item → Item → List (List ℕ × Place)
work_in before item = map (λ h. (cell_at h 6, place_after before)) (work_header item)

-- the works among the items, in their order
unfoldable pub works_in : List Item → List (List ℕ × Place)
works_in items = flat_map (λ p. work_in (take p.0 items) p.1) (enumerate_from 0 items)

-- where the first of the works with that number stands
abbrev pub place_of : List ℕ → List (List ℕ × Place) → Option Place
place_of number [] = None
place_of number (w ∷ works) = if bytes_eq w.0 number then Some w.1 else place_of number works

-- the item is a work whose number stands in a work before it; the numbers of so many works are kept
abbrev pub is_repeated : ℕ → List Item → Item → Bool
is_repeated limit before item =
    list_any (λ h. is_some (place_of (cell_at h 6) (take limit (works_in before)))) (work_header item)

-- ---- what is told of them

-- A5a is broken by the header of a work, at its number
abbrev pub repeated_advice : Advice
repeated_advice = record { rec = 0; field = 6; rule = A5a }

-- where the first work with the number stands
abbrev pub first_line : Place → List ℕ
first_line first =
    codes "  first     line " ++ decimal first.line ++ codes ", group " ++ decimal first.group ++ codes " transaction "
    ++ decimal first.sequence ++ 10 ∷ []

-- the lines on a work that stands there and has this header, and on the first one with its number
abbrev pub repeated_lines : Place → RecordValue → Place → List ℕ
repeated_lines place h first =
    advice_line place.group place.sequence repeated_advice ++ where_line place.line h.kind ++ work_line h
    ++ cell_line place.line h 6 ++ first_line first ++ words_line repeated_advice

-- the line on the first work whose number isn't kept
abbrev pub limit_line : ℕ → Place → List ℕ
limit_line limit place =
    codes "LIMIT repeated " ++ decimal limit ++ codes " group " ++ decimal place.group ++ codes " transaction "
    ++ decimal place.sequence ++ 10 ∷ []

-- the lines on a work: those on the first one with its number, where there is one, and that on the limit, where it is the first beyond
abbrev pub repeated_text : ℕ → Place → RecordValue → Option Place → Bool → List ℕ
repeated_text limit place h first is_beyond =
    flat_map (repeated_lines place h) (option_to_list first) ++ (if is_beyond then limit_line limit place else [])

-- where the first work with the number stands, where that is told
abbrev pub told_place : Bool → Option Place → Option Place
told_place told first = if told then first else None

-- The lines on an item that comes after these items. The numbers of so many works are kept, and with these it is compared; with the limit 0
-- nothing is. That its number stands in a work before is told or not.
abbrev pub repeated_in : Bool → ℕ → List Item → Item → List ℕ
repeated_in told limit before item =
    flat_map (λ h. repeated_text limit (place_after before) h (told_place told (place_of (cell_at h 6) (take limit (works_in before))))
    (nat_lt 0 limit && (length (works_in before) == limit))) (work_header item)

-- memory is taken for its number
abbrev pub keeps_number : ℕ → Item → Bool
keeps_number limit item = nat_lt 0 limit && not (length (work_header item) == 0)
