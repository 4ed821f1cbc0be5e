-- Worked stages, needs and candidates.
use Prim.Native.String.{String}
use Rattle.std.proofs.Common.{◌≡◌, ℕ, List, [], ◌∷◌, ◌++◌, length, map, drop, Some, None, refl}
use Rattle.std.specs.Prelude.{codes, count_by}
use Rattle.cwr_fields.specs.declared.codes.Role.TheVariants.{Assignor, Acquirer}
use Rattle.cwr_fields.specs.declared.codes.TransactionType.{TransactionType}
use Rattle.cwr_fields.specs.declared.codes.TransactionType.TheVariants.{Agreement, NewWork, RevisedWork, Acknowledgement}
use Rattle.cwr_fields.specs.declared.kinds.Kind.{Kind}
use Rattle.cwr_fields.specs.declared.kinds.Kind.TheVariants as kinds
use Rattle.cwr_shape.specs.declared.symbols.Symbol.{Symbol}
use Rattle.cwr_shape.specs.declared.symbols.Symbol.TheVariants.{Plain, Ipa, Grh}
use Rattle.cwr_shape.specs.declared.stages.Stage.TheVariants as stages
use Rattle.cwr_shape.specs.declared.stages.TransactionStep.TheVariants as steps
use Rattle.cwr_shape.specs.declared.stages.Needs.{Needs}
use Rattle.cwr_shape.specs.Format.Outlines.{GroupOutline, symbols_of}
use Rattle.cwr_shape.specs.Format.LastSymbols.{is_grh}
use Rattle.cwr_shape.specs.Steps.Stages.{stage_after}
use Rattle.cwr_shape.specs.Steps.Needs.{transaction_to_come}
use Rattle.cwr_shape.specs.Format.Candidates.{candidates}

-- shorter names

abbrev p : Kind → Symbol
p = Plain

abbrev one_group : TransactionType → List Symbol → List GroupOutline
one_group ty t = record { ty = ty; transactions = t ∷ [] } ∷ []

abbrev needs : ℕ → ℕ → ℕ → Needs
needs r g t = record { records = r; groups = g; transaction = t }

abbrev after : TransactionType → List Symbol → List Symbol
after ty t = p kinds.Hdr ∷ Grh ty ∷ t

-- ---- how far symbols have come

stages_seen : (stage_after [] ≡ stages.Start) × (stage_after (p kinds.Hdr ∷ []) ≡ stages.Opened)
    × (stage_after (after Agreement []) ≡ stages.Within Agreement steps.InGroup)
    × (stage_after (after Agreement (p kinds.Agr ∷ p kinds.Ter ∷ Ipa Assignor ∷ Ipa Assignor ∷ []))
    ≡ stages.Within Agreement (steps.OneSide Assignor))
    × (stage_after (after Agreement (p kinds.Agr ∷ p kinds.Ter ∷ Ipa Assignor ∷ Ipa Acquirer ∷ p kinds.Ter ∷ Ipa Acquirer ∷ []))
    ≡ stages.Within Agreement (steps.OneSide Acquirer))
    × (stage_after (after Agreement (p kinds.Agr ∷ p kinds.Ter ∷ Ipa Assignor ∷ Ipa Acquirer ∷ Ipa Acquirer ∷ []))
    ≡ stages.Within Agreement steps.Both)
    × (stage_after (after NewWork (p kinds.Nwr ∷ p kinds.Swr ∷ p kinds.Pwr ∷ p kinds.Owr ∷ p kinds.Pwr ∷ []))
    ≡ stages.Within NewWork steps.OtherWriter)
    × (stage_after (after NewWork (p kinds.Nwr ∷ p kinds.Owr ∷ p kinds.Swr ∷ p kinds.Pwr ∷ []))
    ≡ stages.Within NewWork steps.Writer)
    × (stage_after (after NewWork (p kinds.Nwr ∷ p kinds.Swr ∷ p kinds.Alt ∷ [])) ≡ stages.Within NewWork steps.Tail)
    × (stage_after (after Acknowledgement (p kinds.Ack ∷ p kinds.Grt ∷ [])) ≡ stages.Closed)
stages_seen = (refl, refl, refl, refl, refl, refl, refl, refl, refl, refl)

-- ---- the shortest way on from each stage

-- the transmission begins with the symbols, and those after them have these numbers
abbrev EndsWith : List Symbol → List GroupOutline → Needs → Type 0
EndsWith xs groups needs = let rest : List Symbol = drop (length xs) (symbols_of groups) in
    (symbols_of groups ≡ xs ++ rest) × (needs.records ≡ length rest) × (needs.groups ≡ count_by is_grh rest)
    × (needs.transaction ≡ transaction_to_come (stage_after xs) rest)

abbrev shortest_agreement : List Symbol
shortest_agreement = p kinds.Agr ∷ p kinds.Ter ∷ Ipa Assignor ∷ Ipa Acquirer ∷ []

start : EndsWith [] (one_group Acknowledgement (p kinds.Ack ∷ [])) (needs 5 1 1)
start = (refl, refl, refl, refl)

opened : EndsWith (p kinds.Hdr ∷ []) (one_group Acknowledgement (p kinds.Ack ∷ [])) (needs 4 1 1)
opened = (refl, refl, refl, refl)

in_agreements : EndsWith (after Agreement []) (one_group Agreement shortest_agreement) (needs 6 0 4)
in_agreements = (refl, refl, refl, refl)

in_works : EndsWith (after NewWork []) (one_group NewWork (p kinds.Nwr ∷ p kinds.Owr ∷ [])) (needs 4 0 2)
in_works = (refl, refl, refl, refl)

in_acknowledgements : EndsWith (after Acknowledgement []) (one_group Acknowledgement (p kinds.Ack ∷ [])) (needs 3 0 1)
in_acknowledgements = (refl, refl, refl, refl)

acked : EndsWith (after Acknowledgement (p kinds.Ack ∷ [])) (one_group Acknowledgement (p kinds.Ack ∷ [])) (needs 2 0 0)
acked = (refl, refl, refl, refl)

agreed : EndsWith (after Agreement (p kinds.Agr ∷ [])) (one_group Agreement shortest_agreement) (needs 5 0 3)
agreed = (refl, refl, refl, refl)

territories : EndsWith (after Agreement (p kinds.Agr ∷ p kinds.Ter ∷ [])) (one_group Agreement shortest_agreement) (needs 4 0 2)
territories = (refl, refl, refl, refl)

one_side : EndsWith (after Agreement (p kinds.Agr ∷ p kinds.Ter ∷ Ipa Assignor ∷ [])) (one_group Agreement shortest_agreement)
    (needs 3 0 1)
one_side = (refl, refl, refl, refl)

both : EndsWith (after Agreement shortest_agreement) (one_group Agreement shortest_agreement) (needs 2 0 0)
both = (refl, refl, refl, refl)

work : EndsWith (after NewWork (p kinds.Nwr ∷ [])) (one_group NewWork (p kinds.Nwr ∷ p kinds.Owr ∷ [])) (needs 3 0 1)
work = (refl, refl, refl, refl)

controlled : EndsWith (after NewWork (p kinds.Nwr ∷ p kinds.Spu ∷ p kinds.Spt ∷ []))
    (one_group NewWork (p kinds.Nwr ∷ p kinds.Spu ∷ p kinds.Spt ∷ p kinds.Owr ∷ [])) (needs 3 0 1)
controlled = (refl, refl, refl, refl)

writer : EndsWith (after NewWork (p kinds.Nwr ∷ p kinds.Swr ∷ [])) (one_group NewWork (p kinds.Nwr ∷ p kinds.Swr ∷ []))
    (needs 2 0 0)
writer = (refl, refl, refl, refl)

other : EndsWith (after NewWork (p kinds.Nwr ∷ p kinds.Opu ∷ []))
    (one_group NewWork (p kinds.Nwr ∷ p kinds.Opu ∷ p kinds.Swr ∷ [])) (needs 3 0 1)
other = (refl, refl, refl, refl)

other_writer : EndsWith (after RevisedWork (p kinds.Rev ∷ p kinds.Owr ∷ []))
    (one_group RevisedWork (p kinds.Rev ∷ p kinds.Owr ∷ [])) (needs 2 0 0)
other_writer = (refl, refl, refl, refl)

tail : EndsWith (after NewWork (p kinds.Nwr ∷ p kinds.Swr ∷ p kinds.Com ∷ []))
    (one_group NewWork (p kinds.Nwr ∷ p kinds.Swr ∷ p kinds.Com ∷ [])) (needs 2 0 0)
tail = (refl, refl, refl, refl)

closed : EndsWith (after Acknowledgement (p kinds.Ack ∷ p kinds.Grt ∷ [])) (one_group Acknowledgement (p kinds.Ack ∷ []))
    (needs 1 0 0)
closed = (refl, refl, refl, refl)

ended : EndsWith (symbols_of (one_group Acknowledgement (p kinds.Ack ∷ []))) (one_group Acknowledgement (p kinds.Ack ∷ []))
    (needs 0 0 0)
ended = (refl, refl, refl, refl)

-- ---- longer ways on: the third number is of the open transaction alone, or where none is open of the next one

abbrev two_groups : List GroupOutline
two_groups =
    record { ty = Acknowledgement; transactions = (p kinds.Ack ∷ []) ∷ (p kinds.Ack ∷ p kinds.Msg ∷ p kinds.Msg ∷ []) ∷ [] }
    ∷ one_group Agreement shortest_agreement

before_a_longer_one : EndsWith (after Acknowledgement (p kinds.Ack ∷ [])) two_groups (needs 11 1 0)
before_a_longer_one = (refl, refl, refl, refl)

in_the_longer_one : EndsWith (after Acknowledgement (p kinds.Ack ∷ p kinds.Ack ∷ [])) two_groups (needs 10 1 2)
in_the_longer_one = (refl, refl, refl, refl)

before_another_group : EndsWith (after Acknowledgement (p kinds.Ack ∷ p kinds.Ack ∷ p kinds.Msg ∷ p kinds.Msg ∷ p kinds.Grt ∷ []))
    two_groups (needs 7 1 4)
before_another_group = (refl, refl, refl, refl)

-- ---- what the cells of a line say of its symbol

abbrev cells : List String → List (List ℕ)
cells texts = map codes texts

ipa_seen : (candidates (Some kinds.Ipa) [] ≡ Ipa Assignor ∷ Ipa Acquirer ∷ [])
    × (candidates (Some kinds.Ipa) (cells ("IPA" ∷ "00000000" ∷ "00000002" ∷ [])) ≡ Ipa Assignor ∷ Ipa Acquirer ∷ [])
    × (candidates (Some kinds.Ipa) (cells ("IPA" ∷ "00000000" ∷ "00000002" ∷ "AS" ∷ [])) ≡ Ipa Assignor ∷ [])
    × (candidates (Some kinds.Ipa) (cells ("IPA" ∷ "00000000" ∷ "00000002" ∷ "AC" ∷ "           " ∷ [])) ≡ Ipa Acquirer ∷ [])
    × (candidates (Some kinds.Ipa) (cells ("IPA" ∷ "00000000" ∷ "00000002" ∷ "as" ∷ [])) ≡ Ipa Assignor ∷ Ipa Acquirer ∷ [])
ipa_seen = (refl, refl, refl, refl, refl)

grh_seen : (candidates (Some kinds.Grh) (cells ("GRH" ∷ []))
    ≡ Grh Agreement ∷ Grh NewWork ∷ Grh RevisedWork ∷ Grh Acknowledgement ∷ [])
    × (candidates (Some kinds.Grh) (cells ("GRH" ∷ "REV" ∷ [])) ≡ Grh RevisedWork ∷ [])
    × (candidates (Some kinds.Grh) (cells ("GRH" ∷ "ISW" ∷ []))
    ≡ Grh Agreement ∷ Grh NewWork ∷ Grh RevisedWork ∷ Grh Acknowledgement ∷ [])
grh_seen = (refl, refl, refl)

others_seen : (candidates (Some kinds.Ack) (cells ("ACK" ∷ "00000000" ∷ [])) ≡ p kinds.Ack ∷ [])
    × (candidates None (cells ("hdr" ∷ [])) ≡ [])
others_seen = (refl, refl)
