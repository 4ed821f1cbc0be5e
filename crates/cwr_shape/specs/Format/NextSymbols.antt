-- What is open after some symbols, what is counted of them, and which symbol may come next.
use Rattle.std.specs.Prelude.{ℕ, ◌+◌, Bool, true, false, nat_lt, List, [], ◌∷◌, ◌++◌, length, count_by, Option, Some, None}
use Rattle.std.specs.Prelude.{Result, MatchResult, if◌then◌else◌}
use Rattle.std.specs.List.{after_last, last_or, IsAmong}
use Rattle.cwr_fields.specs.declared.codes.TransactionType.{TransactionType}
use Rattle.cwr_fields.specs.declared.codes.TransactionType.TheVariants.{Agreement, NewWork, RevisedWork, Acknowledgement}
use Rattle.cwr_fields.specs.declared.kinds.Kind.{Kind}
use Rattle.cwr_fields.specs.declared.kinds.Kind.TheVariants as kinds
use Rattle.cwr_shape.specs.declared.symbols.Symbol.{Symbol}
use Rattle.cwr_shape.specs.declared.symbols.Symbol.TheVariants.{Plain, Grh}
use Rattle.cwr_shape.specs.declared.limits.LimitKind.{LimitKind}
use Rattle.cwr_shape.specs.declared.limits.LimitKind.TheVariants.{Records, Groups, Transaction}
use Rattle.cwr_shape.specs.declared.tallies.Counts.{Counts}
use Rattle.cwr_shape.specs.declared.tallies.Bar.{Bar}
use Rattle.cwr_shape.specs.declared.tallies.Bar.TheVariants as bars
use Rattle.cwr_shape.specs.declared.tallies.Scope.{Scope}
use Rattle.cwr_shape.specs.declared.tallies.Scope.TheVariants as scopes
use Rattle.cwr_shape.specs.Format.Ranges.{LimitValues}
use Rattle.cwr_shape.specs.Format.Outlines.{GroupOutline, KeepsTo, IsWithin, Continues}
use Rattle.cwr_shape.specs.Format.LastSymbols.{is_grh, latest, group_of}
use Rattle.cwr_shape.specs.Format.AnyTransmission.{Any}
use Rattle.cwr_shape.specs.Format.Candidates.{candidates}

-- the header of the type's transactions
abbrev pub header_kind : TransactionType → Kind
header_kind Agreement = kinds.Agr
header_kind NewWork = kinds.Nwr
header_kind RevisedWork = kinds.Rev
header_kind Acknowledgement = kinds.Ack

-- the symbol is the header of a transaction of the type
abbrev pub is_header_of : TransactionType → Symbol → Bool
is_header_of Agreement (Plain kinds.Agr) = true
is_header_of NewWork (Plain kinds.Nwr) = true
is_header_of RevisedWork (Plain kinds.Rev) = true
is_header_of Acknowledgement (Plain kinds.Ack) = true
is_header_of ty s = false

-- the type of the open group, after a symbol in a group of the type
abbrev pub type_after : TransactionType → Symbol → TransactionType
type_after ty (Grh t) = t
type_after ty s = ty

-- how many transactions begin among the symbols, of which the first stands in a group of the type
abbrev pub transactions_begun : TransactionType → List Symbol → ℕ
transactions_begun ty [] = 0
transactions_begun ty (s ∷ xs) = (if is_header_of ty s then 1 else 0) + transactions_begun (type_after ty s) xs

-- the type of the open group; before the first GRH no record is a header
abbrev pub open_type : List Symbol → TransactionType
open_type xs = group_of (latest is_grh xs)

-- the records after the last GRH
abbrev pub open_group : List Symbol → List Symbol
open_group xs = after_last is_grh xs

-- the records after the last header in the open group
abbrev pub after_header : List Symbol → List Symbol
after_header xs = after_last (is_header_of (open_type xs)) (open_group xs)

-- what is counted of some symbols
abbrev pub counts_of : List Symbol → Counts
counts_of xs = record {
  records = length xs;
  groups = count_by is_grh xs;
  transactions = transactions_begun Acknowledgement xs;
  in_group = count_by (is_header_of (open_type xs)) (open_group xs);
  after_grh = length (open_group xs);
  after_header = length (after_header xs);
}

-- what is open after a symbol
abbrev pub scope_by : Option Symbol → Scope
scope_by None = scopes.File
scope_by (Some (Grh ty)) = scopes.Group
scope_by (Some (Plain kinds.Hdr)) = scopes.File
scope_by (Some (Plain kinds.Grt)) = scopes.File
scope_by (Some (Plain kinds.Trl)) = scopes.File
scope_by (Some s) = scopes.Transaction

-- what is open after some symbols
abbrev pub scope_after : List Symbol → Scope
scope_after xs = scope_by (last_or None xs)

-- a transaction is open
abbrev pub has_open_transaction : Scope → Bool
has_open_transaction scopes.Transaction = true
has_open_transaction place = false

-- how many records the open transaction has, if one is open
abbrev pub open_records : List Symbol → ℕ
open_records xs = if has_open_transaction (scope_after xs) then 1 + length (after_header xs) else 0

-- the first limit that some symbols have passed
abbrev pub passed_limit : LimitValues → List Symbol → Option LimitKind
passed_limit limits xs = if nat_lt limits.records (length xs) then Some Records
    else (if nat_lt limits.groups (count_by is_grh xs) then Some Groups
    else (if nat_lt limits.transaction (open_records xs) then Some Transaction else None))

-- after these symbols that one may come: some transmission within the limits continues so
abbrev pub MayCome : LimitValues → List Symbol → Symbol → Type 0
MayCome limits xs s = Continues (IsWithin limits) (xs ++ s ∷ [])

-- The first bar of what a transmission continues with, where ContinuesSo says that one with a property does: no transmission continues
-- so, or none that keeps to a limit, each limit tried alone, in their order.
abbrev pub IsBarredFirst : LimitValues → ((List GroupOutline → Type 0) → Type 0) → Bar → Type 0
IsBarredFirst limits ContinuesSo bars.Misplaced = ¬ ContinuesSo Any
IsBarredFirst limits ContinuesSo (bars.Limit Records) = ContinuesSo Any × ¬ ContinuesSo (KeepsTo Records limits)
IsBarredFirst limits ContinuesSo (bars.Limit Groups) =
    ContinuesSo (KeepsTo Records limits) × ¬ ContinuesSo (KeepsTo Groups limits)
IsBarredFirst limits ContinuesSo (bars.Limit Transaction) =
    ContinuesSo (KeepsTo Records limits) × ContinuesSo (KeepsTo Groups limits) × ¬ ContinuesSo (KeepsTo Transaction limits)

-- why one symbol may not come
abbrev pub IsBarred : LimitValues → List Symbol → Symbol → Bar → Type 0
IsBarred limits xs s bar = IsBarredFirst limits (λ P. Continues P (xs ++ s ∷ [])) bar

-- the answer for one symbol
abbrev pub Answers : LimitValues → List Symbol → Symbol → Result (Unit {0}) Bar → Type 0
Answers limits xs s answer = MatchResult answer (λ _. MayCome limits xs s) (IsBarred limits xs s)

-- some transmission, of which P holds, continues with one of these symbols
abbrev pub ContinuesWith : List Symbol → List Symbol → (List GroupOutline → Type 0) → Type 0
ContinuesWith xs ss P = (s : Symbol) × IsAmong ss s × Continues P (xs ++ s ∷ [])

-- why none of these symbols may come
abbrev pub IsBarredAmong : LimitValues → List Symbol → List Symbol → Bar → Type 0
IsBarredAmong limits xs ss bar = IsBarredFirst limits (ContinuesWith xs ss) bar

-- the answer for some symbols: one of them may come, or the first bar
abbrev pub AnswersAmong : LimitValues → List Symbol → List Symbol → Result (Unit {0}) Bar → Type 0
AnswersAmong limits xs ss answer = MatchResult answer (λ _. ContinuesWith xs ss (IsWithin limits)) (IsBarredAmong limits xs ss)

-- the answer for a kind: its records may have these symbols
abbrev pub AnswersKind : LimitValues → List Symbol → Kind → Result (Unit {0}) Bar → Type 0
AnswersKind limits xs kind answer = AnswersAmong limits xs (candidates (Some kind) []) answer
