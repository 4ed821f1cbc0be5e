-- Lines that are made of the front of one and the rest of another: what stood between them was lost.
use Rattle.std.specs.Prelude.{ℕ, ◌==◌, ◌&&◌, nat_lt, Bool, false, List, [], ◌∷◌, ◌++◌, codes, decimal, Option, None, Some, if◌then◌else◌}
use Rattle.std.specs.Char.{is_ascii_uppercase}
use Rattle.std.specs.List.{concat}
use Rattle.cwr_causes.specs.declared.sequences.RecordNumbers.{RecordNumbers}
use Rattle.cwr_causes.specs.Format.Misplacements.{numbers_by}
use Rattle.cwr_causes.specs.Format.Sequences.{sequence_in}
use Rattle.cwr_causes.specs.Format.Texts.{label_words}

-- the sequences of a further record of the same transaction
abbrev pub is_further : RecordNumbers → Option RecordNumbers → Bool
is_further here None = false
is_further here (Some there) = (there.transaction == here.transaction) && nat_lt here.own there.own

-- a text begins with the last letter of a record type, and with such sequences behind it
abbrev pub goes_on_with : RecordNumbers → List ℕ → Bool
goes_on_with here [] = false
goes_on_with here (b ∷ rest) =
    is_ascii_uppercase b && is_further here (numbers_by (sequence_in 0 rest) (sequence_in 8 rest))

-- what a line with those sequences has from the first place on at which it does so
abbrev pub later_record : RecordNumbers → List ℕ → Option (List ℕ)
later_record here [] = None
later_record here (b ∷ rest) = if goes_on_with here (b ∷ rest) then Some (b ∷ rest) else later_record here rest

-- the same of a line that has sequences
abbrev pub lost_block : Option RecordNumbers → List ℕ → Option (List ℕ)
lost_block None line = None
lost_block (Some here) line = later_record here line

-- the note on it, by the byte with which those sequences begin, from 1
unfoldable pub lost_block_line : ℕ → List ℕ
lost_block_line first =
    concat
    (label_words (codes "note") ∷ codes "the sequences of a later record of this transaction stand from byte " ∷ decimal first
    ∷ codes " on: the front of this line and the rest of that one came together, and what stood between them is lost; get the file again\n" ∷ [])
