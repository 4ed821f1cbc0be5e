-- What laws over encoders say.
use Rattle.std.specs.Prelude.{◌≡◌, List, [], ◌∷◌, ◌++◌, map, Result}
use Rattle.cwr_fields.specs.declared.kinds.Kind.{Kind}
use Rattle.cwr_lines.specs.Format.Records.{RecordValue}
use Rattle.cwr_shape.specs.declared.symbols.Symbol.{Symbol}
use Rattle.cwr_shape.specs.Format.AnyTransmission.{Any}
use Rattle.cwr_shape.specs.Format.NextSymbols.{open_type}
use Rattle.cwr_shape.specs.Format.Outlines.{Continues}
use Rattle.cwr_shape.specs.Format.Ranges.{LimitValues}
use Rattle.cwr_shape.specs.Steps.Tallies.{IsTallyOf, TallyValue}
use Rattle.cwr_values.specs.Format.Begun.{HasHeaderOf, IsWholeTransaction}
use Rattle.cwr_values.specs.Format.Values.{symbol_of}
use Rattle.cwr_encode.specs.declared.encoders.EncodeFault.{EncodeFault}
use Rattle.cwr_encode.specs.Format.Encoders.{IsNoMistake, JudgesTransaction}

-- a call with a record of the kind that is judged so, and with which some transmission continues, is no mistake
abbrev pub IsNoMistakeWith : Kind → (LimitValues → RecordValue → List Symbol → Result (Unit {0}) EncodeFault → Type 0) → Type 0
IsNoMistakeWith kind Judges =
    (t : TallyValue) (xs : List Symbol) (r : RecordValue) (answer : Result (Unit {0}) EncodeFault) → IsTallyOf t xs
    → r.kind ≡ kind → Continues Any (xs ++ symbol_of r ∷ []) → Judges t.limits r xs answer → IsNoMistake answer

-- so is one with a whole transaction of the open group's type
abbrev pub WholeTransactionIsNoMistake : Type 0
WholeTransactionIsNoMistake =
    (t : TallyValue) (xs : List Symbol) (records : List RecordValue) (answer : Result (Unit {0}) EncodeFault) → IsTallyOf t xs
    → HasHeaderOf (open_type xs) records → IsWholeTransaction records → Continues Any (xs ++ map symbol_of records)
    → JudgesTransaction t.limits records xs answer → IsNoMistake answer
