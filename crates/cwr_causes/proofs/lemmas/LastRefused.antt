-- What is said of the line with which the bytes end that were read.
use Rattle.std.proofs.Common.{◌≡◌, ℕ, Bool, true, false, List, Bor, option_map, refl, subst}
use Rattle.std.specs.Prelude.{Option, Some, None, IfSome}
use Rattle.cwr_fields.specs.declared.kinds.Kind.{Kind}
use Rattle.cwr_judge.specs.declared.refusals.Refusal.{Refusal}
use Rattle.cwr_shape.specs.declared.limits.Limits.{Limits}
use Rattle.cwr_shape.specs.declared.stages.Stage.{Stage}
use Rattle.cwr_causes.specs.declared.ahead.Ahead.{Ahead}
use Rattle.cwr_causes.specs.declared.beyond.Beyond.{Beyond}
use Rattle.cwr_causes.specs.declared.lines_at_end.LineAtEnd.{LineAtEnd}
use Rattle.cwr_causes.specs.Format.Refusals.{RefusedLine, first_kind}
use Rattle.cwr_causes.specs.Steps.Refused.{ExplainsLine, ahead_in, goes_on, last_refused}

-- a refused line, part by part
abbrev pub line_with : List ℕ → Refusal → LineAtEnd → Option (List ℕ) → Option Kind → Bool → Option Ahead → List ℕ → RefusedLine
line_with name refusal line before this_kind is_too_long ahead work =
    record {
      name = name;
      refusal = refusal;
      bytes = line.bytes.now;
      ended = line.ended;
      offset = line.offset;
      before = before;
      kind = this_kind;
      is_too_long = is_too_long;
      ahead = ahead;
      is_first = true;
      is_later = false;
      work = work;
    }

pub of_last : (limits : Limits) (stage : Option Stage) (name : List ℕ) (refusal : Refusal) (line : LineAtEnd) (before : Option (List ℕ)) (beyond : Beyond)
    (this_kind : Option Kind) (long : Bool) (ahead : Option Ahead) (work old new : List ℕ) → this_kind ≡ first_kind line.bytes.now
    → long ≡ goes_on beyond → ahead ≡ ahead_in beyond
    → ExplainsLine limits stage (line_with name refusal line before this_kind long ahead work) old new
    → ExplainsLine limits stage (last_refused name refusal line before beyond work) old new
of_last limits stage name refusal line before beyond this_kind long ahead work old new k l a h =
    subst (λ x. ExplainsLine limits stage (line_with name refusal line before (first_kind line.bytes.now) (goes_on beyond) x work) old new) a
    (subst (λ x. ExplainsLine limits stage (line_with name refusal line before (first_kind line.bytes.now) x ahead work) old new) l
    (subst (λ x. ExplainsLine limits stage (line_with name refusal line before x long ahead work) old new) k h))

pub seen_before : (P : List ℕ → Type 0) (before : Option (Bor (List ℕ))) → IfSome before (λ b. P b.now)
    → IfSome (option_map (λ b. b.now) before) P
seen_before P None h = tt
seen_before P (Some b) h = h

pub unseen_before : (before : Option (Bor (List ℕ))) → option_map (λ b. b.now) before ≡ None → before ≡ None
unseen_before None e = refl
unseen_before (Some b) e = absurd (cc e)
