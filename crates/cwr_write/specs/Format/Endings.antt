-- How a run over lines of JSON ends: all lines are taken, or up to which line no transmission continues.
use Rattle.std.specs.Prelude.{◌≡◌, ℕ, ◌+◌, ◌-◌, ◌^◌, ◌<◌, ◌≤◌, not, List, [], ◌∷◌, ◌++◌, length, IfSome, Option, Result, Ok}
use Rattle.std.specs.Prelude.{Err}
use Rattle.std.specs.Io.KnownBytes.{Appends}
use Rattle.std.specs.List.{AllZip, AllByRecursion, filter}
use Rattle.cwr_shape.specs.Format.Ranges.{LimitValues}
use Rattle.cwr_shape.specs.declared.limits.Limits.{Limits}
use Rattle.cwr_values.specs.Format.Values.{TransmissionValue, IsTransmission, FitsIn}
use Rattle.cwr_values.specs.Format.Rows.{canonical_text}
use Rattle.cwr_values.specs.declared.items.Item.{Item}
use Rattle.cwr_judge.specs.Format.Items.{AreFirstItems, records_in, value_items}
use Rattle.cwr_encode.specs.Format.Encoders.{part_of}
use Rattle.cwr_encode.specs.Format.Finishing.{HasAll, HasFront}
use Rattle.cwr_json.specs.declared.encodings.Encoding.{Encoding}
use Rattle.cwr_write.specs.Format.Faults.{IsReason}
use Rattle.cwr_write.specs.declared.refusals.LineFault.{LineFault}
use Rattle.cwr_write.specs.Format.Imports.{AreLines, SaysItem, given_in, is_blank_line}
use Rattle.cwr_write.specs.declared.writing.Written.{Written}
use Rattle.cwr_write.specs.declared.writing.WriteFault.{WriteFault}
use Rattle.cwr_write.specs.declared.writing.WriteFault.TheVariants.{Refused, Early, Reader, Writer, Memory}

-- the lines that say something
abbrev pub said_lines : List (List ℕ) → List (List ℕ)
said_lines lines = filter (λ line. not (is_blank_line line)) lines

-- no line has more than so many bytes
abbrev pub AreShort : ℕ → List (List ℕ) → Type 0
AreShort most lines = AllByRecursion (λ line. length line ≤ most) lines

-- The text's lines but for the blank ones are data of the transmission's items, one by one, and no line has more than so many bytes.
pub record SaysTransmission (enc : Encoding) (most : ℕ) (text : List ℕ) (v : TransmissionValue) : Type 0 where
  pub lines : List (List ℕ)
  pub are : AreLines lines text
  pub short : AreShort most lines
  pub each : AllZip (SaysItem enc) (said_lines lines) (value_items v)

-- With these lines some transmission within the limits begins: but for the blank ones they are data of its first items, and no line
-- has more than so many bytes.
pub record AreTaken (enc : Encoding) (limits : LimitValues) (most : ℕ) (lines : List (List ℕ)) : Type 0 where
  pub items : List Item
  pub short : AreShort most lines
  pub each : AllZip (SaysItem enc) (said_lines lines) items
  pub first : AreFirstItems limits items

-- Line n, blank ones counted, is the first up to which no transmission continues, and the reason is true of it.
pub record StopsAtLine (enc : Encoding) (limits : LimitValues) (most : ℕ) (text : List ℕ) (n : ℕ) (fault : LineFault) : Type 0
  where
    pub before : List (List ℕ)
    pub line : List ℕ
    pub after : List (List ℕ)
    pub are : AreLines (before ++ line ∷ after) text
    pub number : n ≡ length before + 1
    pub taken : AreTaken enc limits most before
    pub stops : ¬ AreTaken enc limits most (before ++ line ∷ [])
    pub reason : IsReason enc limits most taken.items line fault

-- All n lines are taken, and no transmission ends with them.
pub record EndsEarly (enc : Encoding) (limits : LimitValues) (most : ℕ) (text : List ℕ) (n : ℕ) : Type 0 where
  pub lines : List (List ℕ)
  pub are : AreLines lines text
  pub number : n ≡ length lines
  pub taken : AreTaken enc limits most lines
  pub unended : (v : TransmissionValue) → IsTransmission v → ¬ AllZip (SaysItem enc) (said_lines lines) (value_items v)

-- All n lines are taken, and a transmission within the limits ends with them.
pub record EndsWell (enc : Encoding) (limits : LimitValues) (most : ℕ) (text : List ℕ) (n : ℕ) : Type 0 where
  pub lines : List (List ℕ)
  pub are : AreLines lines text
  pub number : n ≡ length lines
  pub value : TransmissionValue
  pub whole : IsTransmission value
  pub within : FitsIn limits value
  pub short : AreShort most lines
  pub each : AllZip (SaysItem enc) (said_lines lines) (value_items value)

-- how a run over the text ends, unless a device or memory failed
abbrev pub EndsAtLine : Encoding → LimitValues → ℕ → List ℕ → Result Written WriteFault → Type 0
EndsAtLine enc limits most text (Ok w) = EndsWell enc limits most text w.lines
EndsAtLine enc limits most text (Err (Refused r)) = StopsAtLine enc limits most text r.line r.fault
EndsAtLine enc limits most text (Err (Early n)) = EndsEarly enc limits most text n
EndsAtLine enc limits most text (Err fault) = Unit {0}

-- after what the writer had, the canonical text of the transmission is written, unless a device or memory failed
abbrev pub WritesTransmission : {W : Type 0} → (W → Option (List ℕ)) → W → W → TransmissionValue → Result Written WriteFault
    → Type 0
WritesTransmission contents old new v (Ok w) = HasAll contents (contents old) new (canonical_text v) w.bytes
WritesTransmission contents old new v (Err Reader) = Unit {0}
WritesTransmission contents old new v (Err (Writer written)) = Unit {0}
WritesTransmission contents old new v (Err Memory) = Unit {0}
WritesTransmission contents old new v (Err fault) = ⊥

-- so it is where lines say a transmission within the limits
abbrev pub WritesWhatIsSaid : {W : Type 0} → Limits → Encoding → ℕ → List ℕ → (W → Option (List ℕ)) → W → W
    → Result Written WriteFault → Type 0
WritesWhatIsSaid limits enc most text contents old new result =
    length text < 2 ^ 64 - 1 → (v : TransmissionValue) → IsTransmission v → FitsIn limits v → SaysTransmission enc most text v
    → WritesTransmission contents old new v result

-- ---- what is written where no transmission is

-- the text's first n lines but for the blank ones are data of the items, one by one
pub record SaysFirst (enc : Encoding) (text : List ℕ) (n : ℕ) (items : List Item) : Type 0 where
  pub lines : List (List ℕ)
  pub rest : List (List ℕ)
  pub are : AreLines (lines ++ rest) text
  pub number : n ≡ length lines
  pub each : AllZip (SaysItem enc) (said_lines lines) items

-- After what the writer had, all that the first n lines give is written, and no TRL: the canonical text of the records of their
-- items, with which some transmission within the limits begins.
pub record LeavesLines {W : Type 0} (enc : Encoding) (limits : LimitValues) (left : Option (List ℕ))
    (contents : W → Option (List ℕ)) (old new : W) (n : ℕ) : Type 0 where
  pub items : List Item
  pub said : IfSome left (λ text. SaysFirst enc text n items)
  pub first : AreFirstItems limits items
  pub written : Appends (contents old) (contents new) (part_of (given_in items))

-- So many of the first bytes of such a text are written, where it may end with TRL.
pub record LeavesBytes {W : Type 0} (enc : Encoding) (limits : LimitValues) (left : Option (List ℕ))
    (contents : W → Option (List ℕ)) (old new : W) (written : ℕ) : Type 0 where
  pub items : List Item
  pub said : IfSome left (λ text. (n : ℕ) × SaysFirst enc text n items)
  pub first : AreFirstItems limits items
  pub front : HasFront contents (contents old) new (part_of (records_in items)) written

-- What is written: of the lines before the refused one, of all lines where the input ends early, or of some lines where the reader or
-- memory failed; and where the writer did, so many bytes as are told.
abbrev pub LeavesAfter : {W : Type 0} → Encoding → LimitValues → Option (List ℕ) → (W → Option (List ℕ)) → W → W → WriteFault
    → Type 0
LeavesAfter enc limits left contents old new (Refused r) = LeavesLines enc limits left contents old new (r.line - 1)
LeavesAfter enc limits left contents old new (Early n) = LeavesLines enc limits left contents old new n
LeavesAfter enc limits left contents old new (Writer written) = LeavesBytes enc limits left contents old new written
LeavesAfter enc limits left contents old new fault = (n : ℕ) × LeavesLines enc limits left contents old new n
