-- What a writer has once a whole text was put to a new sink.
use Rattle.std.proofs.Common.{◌≡◌, ℕ, List, [], ◌∷◌, Option, refl, sym, ap, subst, ◌∙◌}
use Rattle.std.specs.Prelude.{Result, Ok, Err, IfOk, IfErr}
use Rattle.std.specs.Io.KnownBytes.{Keeps}
use Rattle.cwr_devices.specs.Format.Failures.{one_more_failure}
use Rattle.cwr_lines.specs.Format.Records.{RecordValue, row_of}
use Rattle.cwr_values.specs.Format.Rows.{canonical_line}
use Rattle.cwr_encode.specs.declared.encoders.EncodeFault.{EncodeFault}
use Rattle.cwr_encode.specs.declared.encoders.EncodeFault.TheVariants.{Writer}
use Rattle.cwr_devices.specs.declared.sinks.Sink.{Sink}
use Rattle.cwr_devices.specs.Steps.Sinks.{HasWritten, Puts, writer_of, written_of}
use Rattle.cwr_encode.specs.Format.Finishing.{HasFront}
use Rattle.cwr_encode.specs.Format.Whole.{WritesAll}
use Rattle.cwr_encode.proofs.lemmas.Ends.{all_written, appends_kept, kept_same}

-- the line of three numbers
pub line_of_three : (a b d m n o : ℕ) (r q : RecordValue) → a ≡ m → b ≡ n → d ≡ o → r ≡ q
    → canonical_line (row_of (a ∷ b ∷ d ∷ []) r) ≡ canonical_line (row_of (m ∷ n ∷ o ∷ []) q)
line_of_three a b d m n o r q x y z e = cc (x, y, z, e)

front : {W : Type 0} (contents : W → Option (List ℕ)) (start : Option (List ℕ)) (text : List ℕ) (sink : Sink W) (new : W)
    → Keeps (contents (writer_of sink)) (contents new)
    → HasWritten contents start text sink → HasFront contents start new text (written_of sink)
front contents start text sink new kept h = record {
  bytes = h.bytes;
  rest = h.rest;
  split = h.split;
  has =
      record
      { appended = appends_kept start (contents (writer_of sink)) (contents new) h.bytes h.appended kept; counted = h.counted };
}

-- it was put whole, and the writer handed it on, or failed to
pub all_flushed : {W : Type 0} (contents : W → Option (List ℕ)) (failures : W → ℕ) (text : List ℕ) (writer new : W)
    (first sink : Sink W) (u : Unit {0}) (E : Type 0) (result : Result ℕ EncodeFault) → writer_of first ≡ writer
    → HasWritten contents (contents writer) [] first → Puts {E = E} contents failures text (Ok u) first sink
    → Keeps (contents (writer_of sink)) (contents new)
    → IfOk result (λ n. (n ≡ written_of sink) × (failures new ≡ failures (writer_of sink)))
    → IfErr result (λ f. (f ≡ Writer (written_of sink)) × (failures new ≡ one_more_failure (failures (writer_of sink))))
    → WritesAll contents failures text writer new result
all_flushed contents failures text writer new first sink u E (Ok n) same empty p kept ok err = (
  ok.1 ∙ p.counts ∙ ap failures same,
  all_written contents (contents writer) text text sink new n refl p.failed kept ok.0
      (p.written (contents writer) [] empty),
)
all_flushed contents failures text writer new first sink u E (Err f) same empty p kept ok err =
    subst (λ (x : EncodeFault). WritesAll contents failures text writer new (Err x)) (sym err.0) (
      err.1 ∙ ap one_more_failure (p.counts ∙ ap failures same),
      front contents (contents writer) text sink new kept (p.written (contents writer) [] empty),
    )

-- the writer failed before that
pub cut_off : {W E : Type 0} (contents : W → Option (List ℕ)) (failures : W → ℕ) (text : List ℕ) (writer new : W)
    (first sink : Sink W) (fault : E) (n : ℕ) → writer_of first ≡ writer
    → HasWritten contents (contents writer) [] first → Puts contents failures text (Err fault) first sink → n ≡ written_of sink
    → new ≡ writer_of sink
    → WritesAll contents failures text writer new (Err (Writer n))
cut_off contents failures text writer new first sink fault n same empty p counted kept =
    subst (λ (w : _). WritesAll contents failures text writer w (Err (Writer n))) (sym kept)
    (subst (λ (m : ℕ). WritesAll contents failures text writer (writer_of sink) (Err (Writer m))) (sym counted) (
      p.counts ∙ ap one_more_failure (ap failures same),
      front contents (contents writer) text sink (writer_of sink)
          (kept_same (contents (writer_of sink))) (p.written (contents writer) [] empty),
    ))
