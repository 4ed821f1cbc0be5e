-- The records of a text's lines are written, line by line, up to the text's end or to TRL's line.
use Rattle.std.proofs.Common.{◌≡◌, ℕ, ◌+◌, ◌<◌, ◌≤◌, Bool, true, false, List, [], ◌∷◌, ◌++◌, length, take, drop, Option, Some}
use Rattle.std.proofs.Common.{refl, sym, ap, ap₂, subst, ◌∙◌, arith, append_assoc, append-nil, inl, inr, true≢false}
use Rattle.std.specs.Prelude.{◌⊎◌}
use Rattle.std.specs.List.{AllZip}
use Rattle.std.proofs.Math.Seq.{take-add}
use Rattle.std.proofs.lemmas.List.{length-drop, take_all, take-append-drop}
use Rattle.cwr_fields.specs.declared.kinds.Kind.TheVariants.{Trl}
use Rattle.cwr_lines.specs.declared.lines.LineEnd.{LineEnd}
use Rattle.cwr_lines.specs.declared.lines.LineEnd.TheVariants.{Line}
use Rattle.cwr_lines.specs.Format.Lines.{closed}
use Rattle.cwr_lines.specs.Format.Records.{RecordValue}
use Rattle.cwr_lines.specs.Steps.Held.{HeldLine, held_excess, held_kind, text_by}
use Rattle.cwr_encode.specs.declared.encoders.Encoder.{Encoder}
use Rattle.cwr_decode.specs.Steps.Represents.{IsInput, text_of}
use Rattle.cwr_decode.specs.Steps.TextLines.{FirstLine, IsCutOff, IsLastLine}
use Rattle.cwr_decode.proofs.lemmas.ClosedTexts.{closed_more, closed_open, closed_text, text_of-push}
use Rattle.cwr_calls.specs.Format.LineRecords.{CarriesRecord}
use Rattle.cwr_calls.specs.Steps.Writings.{GoesOn, HoldsRecord, WritesLines, WritesOn}
use Rattle.cwr_decode.proofs.lemmas.CarriedLines.{is_line}
use Rattle.cwr_calls.proofs.lemmas.CarriedLines.{carries_record, kind_by_bytes, line_ended, record_line_ended}
use Rattle.cwr_calls.proofs.lemmas.WrittenRecords.{goes_nowhere, goes_then}

-- so many bytes of the text are these lines; the last may lack its line feed where the text ends with it
pub record HasLines (text : List ℕ) (used : ℕ) (lines : List (List ℕ)) : Type 0 where
  pub input_ended : Bool
  pub within : used ≤ length text
  pub late : input_ended ≡ true → used ≡ length text
  pub split : IsInput input_ended (take used text) (text_of lines)

pub no_lines : (text : List ℕ) → HasLines text 0 []
no_lines text = record { input_ended = false; within = omega arith; late = λ e. absurd (true≢false (sym e)); split = refl }

-- with one line more
pub one_line_more : (text : List ℕ) (used count : ℕ) (lines : List (List ℕ)) (line : HeldLine) → HasLines text used lines
    → FirstLine (drop used text) count line → line.ended ≡ Line
    → HasLines text (used + count) (lines ++ line.bytes ∷ [])
one_line_more text used count lines line h f ended = by h.input_ended h.late h.split f.taken
  where
    inside : used + count ≤ length text
    inside = omega (arith, f.within, length-drop used text, h.within)

    cut_off : take used text ≡ text_of lines → IsCutOff (drop used text) count line
        → HasLines text (used + count) (lines ++ line.bytes ∷ [])
    cut_off split c = record {
      input_ended = false;
      within = inside;
      late = λ e. absurd (true≢false (sym e));
      split =
          take-add used count text ∙ ap₂ (λ (x y : List ℕ). x ++ y) split (sym c.text_is)
          ∙ ap (λ (e : LineEnd). text_of lines ++ text_by e line.bytes) ended ∙ sym (text_of-push lines line.bytes);
    }

    last : take used text ≡ text_of lines → IsLastLine (drop used text) count line
        → HasLines text (used + count) (lines ++ line.bytes ∷ [])
    last split l =
        let all : used + count ≡ length text = omega (arith, l.all, length-drop used text, h.within) in
        let whole : take (used + count) text ≡ text_of lines ++ line.bytes =
        ap (λ (n : ℕ). take n text) all ∙ take_all (length text) text (omega arith) ∙ sym (take-append-drop used text)
        ∙ ap₂ (λ (x y : List ℕ). x ++ y) split (sym l.bytes) in
        let some : 0 < length line.bytes = omega (arith, f.some, l.all, ap length l.bytes) in
        record {
          input_ended = true;
          within = inside;
          late = λ e. all;
          split = ap closed whole ∙ closed_open lines line.bytes f.held.no_lf some ∙ sym (text_of-push lines line.bytes);
        }

    by : (b : Bool) → (b ≡ true → used ≡ length text) → IsInput b (take used text) (text_of lines)
        → IsCutOff (drop used text) count line ⊎ IsLastLine (drop used text) count line
        → HasLines text (used + count) (lines ++ line.bytes ∷ [])
    by true late split t = absurd (omega (arith, late refl, f.within, f.some, length-drop used text))
    by false late split (inl c) = cut_off split c
    by false late split (inr l) = last split l

-- all of the text is these lines
all_lines : (text : List ℕ) (used : ℕ) (lines : List (List ℕ)) → HasLines text used lines → drop used text ≡ []
    → closed text ≡ text_of lines ++ []
all_lines text used lines h nothing =
    by h.input_ended (subst (λ (x : List ℕ). IsInput h.input_ended x (text_of lines)) whole h.split)
    ∙ sym (append-nil (text_of lines))
  where
    whole : take used text ≡ text
    whole =
        sym (append-nil (take used text)) ∙ ap (λ (x : List ℕ). take used text ++ x) (sym nothing) ∙ take-append-drop used text

    by : (b : Bool) → IsInput b text (text_of lines) → closed text ≡ text_of lines
    by false e = ap closed e ∙ closed_text lines
    by true e = e

-- the text goes on behind these lines
lines_and_rest : (text : List ℕ) (used : ℕ) (lines : List (List ℕ)) → HasLines text used lines
    → (rest : List ℕ) × (closed text ≡ text_of lines ++ rest)
lines_and_rest text used lines h = by h.input_ended h.late h.split
  where
    by : (b : Bool) → (b ≡ true → used ≡ length text) → IsInput b (take used text) (text_of lines)
        → (rest : List ℕ) × (closed text ≡ text_of lines ++ rest)
    by false late e = (
      closed (drop used text),
      ap closed (sym (take-append-drop used text) ∙ ap (λ (x : List ℕ). x ++ drop used text) e)
          ∙ closed_more lines (drop used text),
    )
    by true late e =
        let whole : take used text ≡ text = ap (λ (n : ℕ). take n text) (late refl) ∙ take_all (length text) text (omega arith) in
        ([], ap closed (sym whole) ∙ e ∙ sym (append-nil (text_of lines)))

-- ---- what was written of them

zip_push : (R : List ℕ → RecordValue → Type 0) (xs : List (List ℕ)) (ys : List RecordValue) (x : List ℕ) (y : RecordValue)
    → AllZip R xs ys → R x y → AllZip R (xs ++ x ∷ []) (ys ++ y ∷ [])
zip_push R [] [] x y h r = (r, tt)
zip_push R [] (b ∷ ys) x y h r = absurd h
zip_push R (a ∷ xs) [] x y h r = absurd h
zip_push R (a ∷ xs) (b ∷ ys) x y h r = (h.0, zip_push R xs ys x y h.1 r)

-- so many bytes of the text were read, and their records are written but for those that are held
pub record WrittenTo {W : Type 0} (contents : W → Option (List ℕ)) (text : List ℕ) (used : ℕ) (held : List RecordValue)
    (old new : Encoder W) : Type 0 where
  pub lines : List (List ℕ)
  pub records : List RecordValue
  pub has : HasLines text used lines
  pub each : AllZip CarriesRecord lines records
  pub more : List RecordValue
  pub goes_on : GoesOn contents more old new
  pub same : more ++ held ≡ records

pub written_none : {W : Type 0} (contents : W → Option (List ℕ)) (text : List ℕ) (held : List RecordValue) (e : Encoder W)
    → held ≡ [] → WrittenTo contents text 0 held e e
written_none contents text held e nothing =
    record
    { lines = []; records = []; has = no_lines text; each = tt; more = []; goes_on = goes_nowhere contents e; same = nothing }

pub written_more : {W : Type 0} (contents : W → Option (List ℕ)) (text : List ℕ) (used count : ℕ) (line : HeldLine)
    (r : RecordValue) (held left : List RecordValue) (old mid new : Encoder W)
    → WrittenTo contents text used held old mid → FirstLine (drop used text) count line → HoldsRecord line r
    → WritesOn contents (r ∷ []) held left mid new → WrittenTo contents text (used + count) left old new
written_more contents text used count line r held left old mid new w f h o =
    let ended : line.ended ≡ Line = record_line_ended line r f.ended h in
    record {
      lines = w.lines ++ line.bytes ∷ [];
      records = w.records ++ r ∷ [];
      has = one_line_more text used count w.lines line w.has f ended;
      each = zip_push CarriesRecord w.lines w.records line.bytes r w.each (carries_record line r ended f.held h);
      more = w.more ++ o.more;
      goes_on = goes_then contents w.more o.more old mid new w.goes_on o.goes_on;
      same =
          append_assoc w.more o.more left ∙ ap (λ (l : List RecordValue). w.more ++ l) o.same
          ∙ sym (append_assoc w.more held (r ∷ [])) ∙ ap (λ (l : List RecordValue). l ++ r ∷ []) w.same;
    }

-- what was held is written too
all_written : {W : Type 0} (contents : W → Option (List ℕ)) (text : List ℕ) (used : ℕ) (held : List RecordValue)
    (old mid new : Encoder W) (w : WrittenTo contents text used held old mid) → GoesOn contents held mid new → GoesOn contents
    w.records old new
all_written contents text used held old mid new w g =
    subst (λ (rs : List RecordValue). GoesOn contents rs old new) w.same (goes_then contents w.more held old mid new w.goes_on g)

-- the text has ended
pub written_all : {W : Type 0} (contents : W → Option (List ℕ)) (text : List ℕ) (used : ℕ) (held : List RecordValue)
    (old mid new : Encoder W)
    → WrittenTo contents text used held old mid → drop used text ≡ [] → GoesOn contents held mid new
    → WritesLines contents text old new
written_all contents text used held old mid new w nothing g = (
  w.records,
  record { lines = w.lines; rest = []; split = all_lines text used w.lines w.has nothing; each = w.each; left = inl refl },
  all_written contents text used held old mid new w g,
)

-- the line of TRL comes next
pub written_to_trailer : {W : Type 0} (contents : W → Option (List ℕ)) (text : List ℕ) (used count : ℕ) (line : HeldLine)
    (held : List RecordValue) (old mid new : Encoder W)
    → WrittenTo contents text used held old mid → FirstLine (drop used text) count line → held_kind line ≡ Some Trl
    → held_excess line ≡ false → GoesOn contents held mid new → WritesLines contents text old new
written_to_trailer contents text used count line held old mid new w f named excess g =
    let ended : line.ended ≡ Line = line_ended line Trl f.ended named excess in
    let after =
    lines_and_rest text (used + count) (w.lines ++ line.bytes ∷ [])
    (one_line_more text used count w.lines line w.has f ended) in
    let split : closed text ≡ text_of w.lines ++ (line.bytes ++ 10 ∷ after.0) =
    after.1 ∙ ap (λ (l : List ℕ). l ++ after.0) (text_of-push w.lines line.bytes)
    ∙ append_assoc (text_of w.lines) (line.bytes ++ 10 ∷ []) after.0
    ∙ ap (λ (l : List ℕ). text_of w.lines ++ l) (append_assoc line.bytes (10 ∷ []) after.0) in (
      w.records,
      record {
        lines = w.lines;
        rest = line.bytes ++ 10 ∷ after.0;
        split = split;
        each = w.each;
        left = inr (line.bytes, after.0, refl, is_line line f.held, kind_by_bytes line Trl ended named);
      },
      all_written contents text used held old mid new w g,
    )
