-- The part of the canonical text that some records make, and how each call of an encoder is answered.
use Rattle.std.specs.Prelude.{◌≡◌, ℕ, List, [], ◌∷◌, ◌++◌, map, Option, Some, None, Result, Ok, Err}
use Rattle.std.specs.List.{last_or, flat_map}
use Rattle.cwr_fields.specs.declared.kinds.Kind.TheVariants as kinds
use Rattle.cwr_lines.specs.Format.Records.{RecordValue}
use Rattle.cwr_shape.specs.declared.symbols.Symbol.{Symbol}
use Rattle.cwr_shape.specs.declared.symbols.Symbol.TheVariants.{Plain, Grh}
use Rattle.cwr_shape.specs.declared.tallies.Bar.TheVariants as bars
use Rattle.cwr_shape.specs.Format.Ranges.{LimitValues}
use Rattle.cwr_shape.specs.Format.Outlines.{IsWithin, Continues}
use Rattle.cwr_shape.specs.Format.AnyTransmission.{Any}
use Rattle.cwr_shape.specs.Format.NextSymbols.{IsBarredFirst, open_type}
use Rattle.cwr_values.specs.Format.Values.{symbol_of}
use Rattle.cwr_values.specs.Format.Begun.{HasHeaderOf, IsWholeTransaction}
use Rattle.cwr_values.specs.Format.Rows.{canonical_line}
use Rattle.cwr_values.specs.Format.Begins.{rows_so_far}
use Rattle.cwr_encode.specs.declared.encoders.Reached.{Reached}
use Rattle.cwr_encode.specs.declared.encoders.Reached.TheVariants as reached_to
use Rattle.cwr_encode.specs.declared.encoders.EncodeFault.{EncodeFault}
use Rattle.cwr_encode.specs.declared.encoders.EncodeFault.TheVariants.{OutOfOrder, WrongKind, Incomplete, Limit, Writer}

-- the canonical text of the rows of some records: it depends on them alone
abbrev pub part_of : List RecordValue → List ℕ
part_of records = flat_map canonical_line (rows_so_far records)

-- ---- how far records have come

-- by the last of them
abbrev pub reached_by : Option Symbol → Reached
reached_by None = reached_to.Nothing
reached_by (Some (Plain kinds.Hdr)) = reached_to.Opening
reached_by (Some (Grh ty)) = reached_to.GroupHead
reached_by (Some (Plain kinds.Grt)) = reached_to.GroupFoot
reached_by (Some (Plain kinds.Trl)) = reached_to.End
reached_by (Some s) = reached_to.Inside

abbrev pub reached : List Symbol → Reached
reached xs = reached_by (last_or None xs)

-- no transaction is open that isn't whole: where one came last, its group may end
abbrev pub IsBetween : List Symbol → Type 0
IsBetween xs = reached xs ≡ reached_to.Inside → Continues Any (xs ++ Plain kinds.Grt ∷ [])

-- ---- what a call does

-- The answer to a call that adds symbols, where it may come, where what it is given is of the right kind, and where that
-- and what it ends are whole: the first fault that holds, or none. A fault of the writer comes only where no other holds.
abbrev pub JudgesCall : {A : Type 0} → Type 0 → Type 0 → Type 0 → LimitValues → List Symbol → List Symbol → Result A EncodeFault
    → Type 0
JudgesCall comes right whole limits xs added (Err OutOfOrder) = ¬ comes
JudgesCall comes right whole limits xs added (Err WrongKind) = comes × ¬ right
JudgesCall comes right whole limits xs added (Err Incomplete) = comes × right × ¬ whole
JudgesCall comes right whole limits xs added (Err (Limit limit)) =
    comes × right × whole × IsBarredFirst limits (λ P. Continues P (xs ++ added)) (bars.Limit limit)
JudgesCall comes right whole limits xs added (Err (Writer written)) =
    comes × right × whole × Continues (IsWithin limits) (xs ++ added)
JudgesCall comes right whole limits xs added (Ok x) = comes × right × whole × Continues (IsWithin limits) (xs ++ added)

-- the answer isn't a limit
abbrev pub IsUnlimited : {A : Type 0} → Result A EncodeFault → Type 0
IsUnlimited (Err (Limit limit)) = ⊥
IsUnlimited answer = Unit {0}

-- the caller made no mistake: the call may come, it is given what is of the right kind, and what that and what it ends are
-- is whole
abbrev pub IsNoMistake : {A : Type 0} → Result A EncodeFault → Type 0
IsNoMistake (Ok x) = Unit {0}
IsNoMistake (Err (Limit limit)) = Unit {0}
IsNoMistake (Err (Writer written)) = Unit {0}
IsNoMistake (Err fault) = ⊥

-- ---- each call

-- HDR comes first
abbrev pub JudgesOpening : LimitValues → RecordValue → List Symbol → Result (Unit {0}) EncodeFault → Type 0
JudgesOpening limits r xs answer =
    JudgesCall (reached xs ≡ reached_to.Nothing) (r.kind ≡ kinds.Hdr) (Unit {0}) limits xs (symbol_of r ∷ []) answer

-- a group comes after HDR, or after another group
abbrev pub MayBeginGroup : Reached → Type 0
MayBeginGroup reached_to.Opening = Unit {0}
MayBeginGroup reached_to.GroupFoot = Unit {0}
MayBeginGroup r = ⊥

abbrev pub JudgesGroup : LimitValues → RecordValue → List Symbol → Result (Unit {0}) EncodeFault → Type 0
JudgesGroup limits r xs answer =
    JudgesCall (MayBeginGroup (reached xs)) (r.kind ≡ kinds.Grh) (Unit {0}) limits xs (symbol_of r ∷ []) answer

-- a transaction, and the group's end, come in an open group
abbrev pub IsInGroup : Reached → Type 0
IsInGroup reached_to.GroupHead = Unit {0}
IsInGroup reached_to.Inside = Unit {0}
IsInGroup r = ⊥

abbrev pub JudgesTransaction : LimitValues → List RecordValue → List Symbol → Result (Unit {0}) EncodeFault → Type 0
JudgesTransaction limits t xs answer =
    JudgesCall (IsInGroup (reached xs)) (HasHeaderOf (open_type xs) t) (IsWholeTransaction t) limits xs (map symbol_of t) answer

-- a group ends that has a transaction
abbrev pub JudgesFoot : LimitValues → RecordValue → List Symbol → Result (Unit {0}) EncodeFault → Type 0
JudgesFoot limits r xs answer =
    JudgesCall (IsInGroup (reached xs)) (r.kind ≡ kinds.Grt) (reached xs ≡ reached_to.Inside) limits xs (symbol_of r ∷ []) answer
