-- Whether a line that was cut may come next, after records of which these symbols were seen.
use Rattle.std.specs.Prelude.{◌≡◌, ◌≢◌, ℕ, ◌+◌, ◌<◌, ◌≤◌, ◌==◌, Bool, true, false, List, [], ◌∷◌, ◌++◌, length, Option, Some}
use Rattle.std.specs.Prelude.{None, option_map, IfSome, IsSomeAnd, IfOk, IfErr, Result, if◌then◌else◌}
use Rattle.std.specs.List.{IsAmong}
use Rattle.cwr_fields.specs.declared.cell_types.CellType.{CellType}
use Rattle.cwr_fields.specs.Format.Bytes.{digits}
use Rattle.cwr_fields.specs.Format.Cells.{Allows, HasFault}
use Rattle.cwr_fields.specs.declared.kinds.Kind.{Kind}
use Rattle.cwr_fields.specs.declared.kinds.Kind.TheVariants as kinds
use Rattle.cwr_fields.specs.Format.Layouts.{FieldLayout, layout, field_at}
use Rattle.cwr_lines.specs.Format.Records.{RecordValue, IsRecord}
use Rattle.cwr_lines.specs.Steps.Held.{HeldLine, held_kind, held_cell, held_record, held_excess}
use Rattle.cwr_shape.specs.declared.symbols.Symbol.{Symbol}
use Rattle.cwr_shape.specs.declared.symbols.Symbol.TheVariants.{Ipa, Grh}
use Rattle.cwr_shape.specs.declared.reasons.Reason.{Reason}
use Rattle.cwr_shape.specs.declared.reasons.Reason.TheVariants.{UnknownKind, Misplaced, Cell, Number, Limit, Excess}
use Rattle.cwr_shape.specs.declared.tallies.Bar.{Bar}
use Rattle.cwr_shape.specs.declared.tallies.Bar.TheVariants as bars
use Rattle.cwr_shape.specs.Format.Ranges.{LimitValues}
use Rattle.cwr_shape.specs.Format.Numbers.{symbol_kind, IsNumberAt}
use Rattle.cwr_shape.specs.Format.Outlines.{Continues}
use Rattle.cwr_shape.specs.Format.AnyTransmission.{Any}
use Rattle.cwr_shape.specs.Format.Candidates.{candidates, role_in, type_in}
use Rattle.cwr_shape.specs.Format.NextSymbols.{MayCome, IsBarred, IsBarredAmong}
use Rattle.cwr_shape.specs.Steps.Tallies.{TallyValue, IsTallyOf}
use Rattle.cwr_values.specs.Format.Values.{symbol_of}
use Rattle.cwr_judge.specs.declared.judging.LineFault.{LineFault}

-- the cell is the number that belongs in field j of the next record, in that width
pub record IsNumberCell (xs : List Symbol) (kind : Kind) (j width : ℕ) (cell : Option (List ℕ)) : Type 0 where
  pub number : ℕ
  pub belongs : IsNumberAt xs kind j (Some number)
  pub spelled : cell ≡ Some (digits width number)

-- cell j of the line, where that field is derived, is the number that belongs there
abbrev pub HasNumberAt : List Symbol → HeldLine → Kind → ℕ → Type 0
HasNumberAt xs h kind j =
    (f : FieldLayout) → field_at kind j ≡ Some f → f.derived ≡ true → IsNumberCell xs kind j f.width (held_cell h j)

-- where some record of the kind may come, this is not so
abbrev pub Lacks : List Symbol → Kind → Type 0 → Type 0
Lacks xs kind P = (s : Symbol) → symbol_kind s ≡ kind → Continues Any (xs ++ s ∷ []) → ¬ P

-- each derived cell after the record type is the number that belongs there
abbrev pub HasNumbers : List Symbol → HeldLine → Kind → Type 0
HasNumbers xs h kind = (j : ℕ) → 2 ≤ j → HasNumberAt xs h kind j

-- the line is that of the record, which has the symbol and may come next
pub record IsNext (limits : LimitValues) (xs : List Symbol) (h : HeldLine) (s : Symbol) (r : RecordValue) : Type 0 where
  pub carried : held_record h ≡ Some r
  pub in_order : IsRecord r
  pub symbol : symbol_of r ≡ s
  pub may_come : MayCome limits xs s
  pub numbers : HasNumbers xs h r.kind
  pub excess : held_excess h ≡ false

-- the line is that of a record that may come next, and that is counted
pub record IsCounted (old : TallyValue) (h : HeldLine) (new : TallyValue) : Type 0 where
  pub symbol : Symbol
  pub accepted : RecordValue
  pub carried : held_record h ≡ Some accepted
  pub in_order : IsRecord accepted
  pub excess : held_excess h ≡ false
  pub next : (xs : List Symbol) → IsTallyOf old xs → IsNext old.limits xs h symbol accepted
  pub limits : new.limits ≡ old.limits
  pub stands : (xs : List Symbol) → IsTallyOf old xs → IsTallyOf new (xs ++ symbol ∷ [])

-- the line is that of no record that may come next
abbrev pub IsOfNone : LimitValues → List Symbol → HeldLine → Type 0
IsOfNone limits xs h = (s : Symbol) (r : RecordValue) → ¬ IsNext limits xs h s r

-- ---- the first field that is wrong

-- the symbol that the cell in field j of a record of the kind names: GRH's type is in its second field, IPA's role in its fourth
abbrev pub named_symbol : Kind → ℕ → List ℕ → Option Symbol
named_symbol kinds.Grh j cell = if j == 2 then option_map Grh (type_in cell) else None
named_symbol kinds.Ipa j cell = if j == 4 then option_map Ipa (role_in cell) else None
named_symbol this_kind j cell = None

-- the reason of a bar
abbrev pub bar_reason : Bar → Reason
bar_reason bars.Misplaced = Misplaced
bar_reason (bars.Limit limit) = Limit limit

-- a carried cell is one of its type, and a record of the symbol that it names may come
abbrev pub IsGoodText : LimitValues → List Symbol → Kind → ℕ → CellType → List ℕ → Type 0
IsGoodText limits xs kind j ty cell = Allows ty cell × IfSome (named_symbol kind j cell) (MayCome limits xs)

-- why it isn't: the first of these that holds
abbrev pub IsTextFault : LimitValues → List Symbol → Kind → ℕ → CellType → List ℕ → Reason → Type 0
IsTextFault limits xs this_kind j ty cell (Cell fault) = HasFault ty cell fault
IsTextFault limits xs this_kind j ty cell Misplaced =
    Allows ty cell × IsSomeAnd (named_symbol this_kind j cell) (λ s. IsBarred limits xs s bars.Misplaced)
IsTextFault limits xs this_kind j ty cell (Limit limit) =
    Allows ty cell × IsSomeAnd (named_symbol this_kind j cell) (λ s. IsBarred limits xs s (bars.Limit limit))
IsTextFault limits xs this_kind j ty cell reason = ⊥

-- why a derived cell isn't the number: the first of these that holds
abbrev pub IsNumberFault : CellType → List ℕ → ℕ → Reason → Type 0
IsNumberFault ty cell n (Cell fault) = HasFault ty cell fault
IsNumberFault ty cell n (Number expected) = (expected ≡ n) × Allows ty cell × (cell ≢ digits (length cell) n)
IsNumberFault ty cell n reason = ⊥

-- a cell of a field is good: a derived one is the number that belongs there
abbrev pub IsGoodNextCell : Bool → LimitValues → List Symbol → Kind → ℕ → FieldLayout → List ℕ → Type 0
IsGoodNextCell true limits xs this_kind j f cell = (n : ℕ) × IsNumberAt xs this_kind j (Some n) × (cell ≡ digits (length cell) n)
IsGoodNextCell false limits xs this_kind j f cell = IsGoodText limits xs this_kind j f.ty cell

-- why it isn't
abbrev pub IsFaultBy : Bool → LimitValues → List Symbol → Kind → ℕ → FieldLayout → List ℕ → Reason → Type 0
IsFaultBy true limits xs this_kind j f cell reason =
    (n : ℕ) × IsNumberAt xs this_kind j (Some n) × IsNumberFault f.ty cell n reason
IsFaultBy false limits xs this_kind j f cell reason = IsTextFault limits xs this_kind j f.ty cell reason

-- the line's cell in field j, which is after the record type, is good
abbrev pub IsGoodAt : LimitValues → List Symbol → HeldLine → Kind → ℕ → Type 0
IsGoodAt limits xs h kind j =
    IsSomeAnd (field_at kind j) (λ f. IsSomeAnd (held_cell h j) (IsGoodNextCell f.derived limits xs kind j f))

-- why it isn't
abbrev pub HasReasonAt : LimitValues → List Symbol → HeldLine → Kind → ℕ → Reason → Type 0
HasReasonAt limits xs h kind j reason =
    IsSomeAnd (field_at kind j) (λ f. IsSomeAnd (held_cell h j) (λ cell. IsFaultBy f.derived limits xs kind j f cell reason))

-- some record of the kind may come
abbrev pub MayComeOf : LimitValues → List Symbol → Kind → Type 0
MayComeOf limits xs kind = (s : Symbol) × IsAmong (candidates (Some kind) []) s × MayCome limits xs s

-- what is wrong at a field of a line of the kind: none of its records may come; or one of them may, and the reason holds
-- of a cell, or the field is the one after the last and the line's excess is bad
pub data IsWrongAt (limits : LimitValues) (xs : List Symbol) (h : HeldLine) (kind : Kind) : ℕ → Reason → Type 0 where
  barred : (bar : Bar) → IsBarredAmong limits xs (candidates (Some kind) []) bar → IsWrongAt limits xs h kind 1 (bar_reason bar)
  cell : (j : ℕ) (reason : Reason) → 2 ≤ j → MayComeOf limits xs kind → HasReasonAt limits xs h kind j reason
      → IsWrongAt limits xs h kind j reason
  past_last : MayComeOf limits xs kind → held_excess h ≡ true → IsWrongAt limits xs h kind (length (layout kind) + 1) Excess

-- the field is wrong for the reason, and each one before it is good
pub record IsFirstWrong (limits : LimitValues) (xs : List Symbol) (h : HeldLine) (kind : Kind) (field : ℕ)
    (reason : Reason) : Type 0 where
  pub here : IsWrongAt limits xs h kind field reason
  pub before : (i : ℕ) → 2 ≤ i → i < field → IsGoodAt limits xs h kind i

-- the first field of a line that is wrong, and why
abbrev pub IsFirstBy : Option Kind → LimitValues → List Symbol → HeldLine → ℕ → Reason → Type 0
IsFirstBy None limits xs h field reason = (field ≡ 1) × (reason ≡ UnknownKind)
IsFirstBy (Some this_kind) limits xs h field reason = IsFirstWrong limits xs h this_kind field reason

abbrev pub IsFirstFault : LimitValues → List Symbol → HeldLine → ℕ → Reason → Type 0
IsFirstFault limits xs h field reason = IsFirstBy (held_kind h) limits xs h field reason

-- ---- after any records that are tallied so

-- the symbol is counted
abbrev pub Counts : TallyValue → Symbol → TallyValue → Type 0
Counts old s new = (xs : List Symbol) → IsTallyOf old xs → IsTallyOf new (xs ++ s ∷ [])

-- the line is found to be that of a record with its symbol that may come next
abbrev pub FindsNext : {E : Type 0} → TallyValue → HeldLine → Result (Symbol × RecordValue) E → Type 0
FindsNext t h result =
    (xs : List Symbol) → IsTallyOf t xs → IfOk result (λ found. IsNext t.limits xs h found.0 found.1)

-- it is found to be that of none
abbrev pub FindsNone : {A E : Type 0} → TallyValue → HeldLine → Result A E → Type 0
FindsNone t h result = (xs : List Symbol) → IsTallyOf t xs → IfErr result (λ _. IsOfNone t.limits xs h)

-- and its first field that is wrong is found
abbrev pub FindsFirst : {A : Type 0} → TallyValue → HeldLine → Result A LineFault → Type 0
FindsFirst t h result =
    (xs : List Symbol) → IsTallyOf t xs → IfErr result (λ fault. IsFirstFault t.limits xs h fault.field fault.reason)
