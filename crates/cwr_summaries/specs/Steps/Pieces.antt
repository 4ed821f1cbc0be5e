-- What is taken of a reader, piece by piece.
use Rattle.cwr_devices.specs.Format.Failures.{one_more_failure}
use Rattle.cwr_endings.specs.declared.endings.Look.TheVariants as looks
use Rattle.cwr_endings.specs.declared.judgements.Judgement.{Judgement}
use Rattle.cwr_endings.specs.declared.endings.Look.{Look}
use Rattle.cwr_tools.specs.declared.verdicts.ToolFault.{ToolFault}
use Rattle.cwr_tools.specs.declared.verdicts.ToolFault.TheVariants.{Reader}
use Rattle.std.specs.Prelude.{◌≡◌, ℕ, List, Option, length, IfSome, Result, Ok, Err}
use Rattle.std.specs.Io.KnownBytes.{Consumes, IsAtEnd}

-- a piece of so many bytes, which has none only at the end
pub record IsPiece (left after : Option (List ℕ)) (count : ℕ) : Type 0 where
  pub piece : List ℕ
  pub consumed : Consumes left after piece
  pub counted : count ≡ length piece
  pub at_end : count ≡ 0 → IfSome left (λ bytes. IsAtEnd after)

-- a fault of the reader is answered only where it counted one more failure
abbrev pub CountsFault : {A : Type 0} → Result A ToolFault → ℕ → ℕ → Type 0
CountsFault (Err Reader) old new = new ≡ one_more_failure old
CountsFault result old new = new ≡ old

-- where a look at what follows failed nothing more was read, and that is the reader's fault
abbrev pub CountsAfter : Look → Result ℕ ToolFault → ℕ → ℕ → Type 0
CountsAfter looks.Failed (Ok bytes) old new = ⊥
CountsAfter looks.Failed (Err fault) old new = (fault ≡ Reader) × (new ≡ old)
CountsAfter look result old new = CountsFault result old new

-- so it is of what was read of an input once that was judged
abbrev pub CountsRest : Result Judgement ToolFault → Result ℕ ToolFault → ℕ → ℕ → Type 0
CountsRest (Ok judgement) result old new = CountsAfter judgement.look result old new
CountsRest (Err fault) result old new = new ≡ old
