-- What is said part by part.
use Rattle.std.proofs.Common.{◌≡◌, ℕ, Bool, true, false, List, [], ◌++◌, sym, ◌∙◌, ap, append_assoc, append-nil}
use Rattle.std.specs.Prelude.{Option, Result, Ok, Err, OnOk, if◌then◌else◌}
use Rattle.std.proofs.lemmas.Bool.{false≢true, true≢false}
use Rattle.cwr_decode.specs.declared.readings.LastRead.{LastRead}
use Rattle.cwr_decode.specs.Steps.LastReads.{bytes_read}
use Rattle.cwr_causes.specs.declared.lines_at_end.LineAtEnd.{LineAtEnd}
use Rattle.cwr_causes.specs.Format.ComingTexts.{coming_words}
use Rattle.cwr_causes.specs.Format.TruncatedTexts.{end_words, last_cut_off_words, rest_words}
use Rattle.cwr_causes.specs.Steps.Coming.{coming_at}
use Rattle.cwr_causes.specs.Steps.LinesAtEnd.{IsLineAtEnd}
use Rattle.cwr_causes.specs.Format.Handling.{handling_words}
use Rattle.cwr_causes.specs.Format.Signs.{signs_words}
use Rattle.cwr_causes.specs.Steps.Refused.{ExplainsEnd, truncation_words, wanted_words, whole_words}
use Rattle.cwr_shape.specs.declared.limits.Limits.{Limits}
use Rattle.cwr_shape.specs.declared.stages.Stage.{Stage}
use Rattle.cwr_causes.specs.Format.Heads.{head_words}
use Rattle.cwr_causes.specs.Format.Refusals.{RefusedLine, first_kind, refused_level_words}

-- three parts, one after another
pub three_said : (old a b new p q r : List ℕ) → a ≡ old ++ p → b ≡ a ++ q → new ≡ b ++ r → new ≡ old ++ ((p ++ q) ++ r)
three_said old a b new p q r first second third =
    third
    ∙ ap (λ xs. xs ++ r) (second ∙ ap (λ xs. xs ++ q) first ∙ append_assoc old p q)
    ∙ append_assoc old (p ++ q) r

-- one part, and then the others
said_more : (old a new p rest : List ℕ) → a ≡ old ++ p → new ≡ a ++ rest → new ≡ old ++ (p ++ rest)
said_more old a new p rest first others = others ∙ ap (λ xs. xs ++ rest) first ∙ append_assoc old p rest

-- the last part
said_last : (old new p : List ℕ) → new ≡ old ++ p → new ≡ old ++ (p ++ [])
said_last old new p h = h ∙ ap (λ xs. old ++ xs) (sym (append-nil p))

-- what is said of a refusal, part by part
pub refusal_said : (limits : Limits) (stage : Option Stage) (r : RefusedLine) (cell : Option (List ℕ)) (old a b c d e : List ℕ)
    → a ≡ old ++ head_words r cell → b ≡ a ++ wanted_words limits stage r cell → c ≡ b ++ refused_level_words r
    → d ≡ c ++ handling_words r cell → e ≡ d ++ signs_words r → e ≡ old ++ whole_words limits stage r cell
unfolding whole_words
refusal_said limits stage r cell old a b c d e head wanted level handling signs =
    said_more old a e _ _ head
    (said_more a b e _ _ wanted (said_more b c e _ _ level (said_more c d e _ _ handling (said_last d e _ signs))))

-- what is said of an end that comes too early, part by part
pub truncated_said : (name : List ℕ) (records : ℕ) (last : LastRead) (line : LineAtEnd) (old a b c d : List ℕ)
    → IsLineAtEnd last.bytes line → a ≡ old ++ end_words name (first_kind line.bytes.now) records (bytes_read last.bytes)
    → b ≡ a ++ coming_words (coming_at last.stage)
    → c ≡ b ++ last_cut_off_words records line.bytes.now line.ended (first_kind line.bytes.now)
    → d ≡ c ++ rest_words records → ExplainsEnd name records last old d
unfolding truncation_words
truncated_said name records last line old a b c d is end coming cut missing =
    record {
      line = line;
      is_last = is;
      said = said_more old a d _ _ end (said_more a b d _ _ coming (said_more b c d _ _ cut (said_last c d _ missing)));
    }

-- what follows where a call succeeds
pub on_ok : {X E P Q : Type 0} (result : Result X E) → (P → Q) → OnOk result P → OnOk result Q
on_ok (Ok x) f p = f p
on_ok (Err e) f p = tt

-- what is said where something is so
pub said_if : (b : Bool) (old new x y : List ℕ) → b ≡ true → new ≡ old ++ x → new ≡ old ++ (if b then x else y)
said_if true old new x y e h = h
said_if false old new x y e h = absurd (false≢true e)

-- and where it isn't
pub said_else : (b : Bool) (old new x y : List ℕ) → b ≡ false → new ≡ old ++ y → new ≡ old ++ (if b then x else y)
said_else true old new x y e h = absurd (true≢false e)
said_else false old new x y e h = h
