-- What a selection leaves written where it stops.
use Rattle.std.proofs.Common.{◌≡◌, ℕ, List, [], ◌∷◌, ◌++◌, map, Option, false, subst, ◌∙◌, inl, inr, refl}
use Rattle.std.specs.Prelude.{Result, Ok, Err, IfErr}
use Rattle.cwr_lines.specs.Format.Records.{RecordValue}
use Rattle.cwr_shape.specs.declared.limits.Limits.{Limits}
use Rattle.cwr_shape.specs.Format.Outlines.{Continues, IsWithin}
use Rattle.cwr_shape.specs.Format.Ranges.{LimitValues}
use Rattle.cwr_values.specs.Format.Values.{symbol_of}
use Rattle.cwr_judge.specs.Format.Items.{records_in}
use Rattle.cwr_encode.specs.declared.encoders.Encoder.{Encoder}
use Rattle.cwr_encode.specs.Format.Encoders.{part_of}
use Rattle.cwr_encode.specs.Format.Written.{IsPart}
use Rattle.cwr_encode.specs.Steps.Encoders.{Encodes, encoder_limits, is_stopped, target_of}
use Rattle.cwr_encode.proofs.lemmas.PartLaws.{has_part}
use Rattle.cwr_tools.specs.declared.verdicts.ToolFault.{ToolFault}
use Rattle.cwr_tools.specs.declared.verdicts.ToolFault.TheVariants as tool_faults
use Rattle.cwr_parts.specs.Format.Joins.{WritesPart}
use Rattle.cwr_parts.proofs.lemmas.ToldItems.{handed_before, memory_before, reader_before, refused_before, truncated_before}
use Rattle.cwr_select.specs.declared.reports.SelectReport.{SelectReport}
use Rattle.cwr_select.specs.declared.selecting.Selecting.{Selecting}
use Rattle.cwr_select.specs.declared.changes.Changes.{Changes}
use Rattle.cwr_select.specs.Format.Created.{created_at}
use Rattle.cwr_select.specs.Format.Selections.{Choice}
use Rattle.cwr_select.specs.Format.Sent.{sent_text}
use Rattle.cwr_select.specs.Steps.Selecting.{EndsSelection, Finishes, LeavesSelected, SelectsItems, written_of}
use Rattle.cwr_select.proofs.lemmas.SelectionsEnded.{selects_all, written_whole}

-- records that were accepted have a part
has_part_of : {W : Type 0} (limits : Limits) (contents : W → Option (List ℕ)) (start : Option (List ℕ))
    (records : List RecordValue) (e : Encoder W) → encoder_limits e ≡ limits → Encodes contents start records e
    → IsPart limits records (part_of records)
has_part_of limits contents start records e same h =
    has_part limits records h.in_order
    (subst (λ (l : LimitValues). Continues (IsWithin l) (map symbol_of records)) same h.counted.within)

-- which is written where the writer didn't fail
part_written : {W : Type 0} (limits : Limits) (contents : W → Option (List ℕ)) (records : List RecordValue) (old new : Encoder W)
    → encoder_limits new ≡ limits → is_stopped new ≡ false → Encodes contents (contents (target_of old)) records new
    → WritesPart limits contents records (target_of old) (target_of new)
part_written limits contents records old new same unfailed h = record {
  text = part_of records;
  part = has_part_of limits contents (contents (target_of old)) records new same h;
  written = written_whole contents (contents (target_of old)) (part_of records) new.sink unfailed h.written;
}

-- in the items of the input
pub left_in_items : {W : Type 0} (limits : Limits) (changes : Changes) (choice : Choice) (contents : W → Option (List ℕ))
    (failures : W → ℕ)
    (before after : Option (List ℕ)) (old s : Selecting W) (fault : ToolFault) → encoder_limits old.encoder ≡ limits
    → Encodes contents (contents (target_of old.encoder)) [] old.encoder
    → SelectsItems limits changes choice contents failures before after (Err fault) old s
    → LeavesSelected limits changes choice before after contents (target_of old.encoder) (target_of s.encoder) fault
left_in_items limits changes choice contents failures before after old s tool_faults.Reader same encodes h = record {
  given = h.given;
  before_it = reader_before limits before after h.given h.stops;
  written =
      part_written limits contents (records_in (written_of changes choice h.given)) old.encoder s.encoder (h.on.limits ∙ same)
      h.on.unfailed (h.on.more (contents (target_of old.encoder)) [] encodes);
}
left_in_items limits changes choice contents failures before after old s tool_faults.Memory same encodes (inl h) = inl (record {
  given = h.given;
  before_it = memory_before limits before after h.given h.stops;
  written =
      part_written limits contents (records_in (written_of changes choice h.given)) old.encoder s.encoder (h.on.limits ∙ same)
      h.on.unfailed (h.on.more (contents (target_of old.encoder)) [] encodes);
})
left_in_items limits changes choice contents failures before after old s tool_faults.Memory same encodes (inr h) = inr (
  h.some,
  record {
    given = h.given;
    item = h.item;
    before_it = handed_before limits tool_faults.Output before after (h.given ++ h.item ∷ []) h.handed_out (λ text read given k. k);
    written =
        part_written limits contents (records_in (written_of changes choice h.given)) old.encoder s.encoder (h.on.limits ∙ same)
        h.on.unfailed (h.on.more (contents (target_of old.encoder)) [] encodes);
  },
)
left_in_items limits changes choice contents failures before after old s (tool_faults.Refused refusal) same encodes h = record {
  given = h.given;
  before_it = refused_before limits refusal before after h.given h.stops;
  written =
      part_written limits contents (records_in (written_of changes choice h.given)) old.encoder s.encoder (h.on.limits ∙ same)
      h.on.unfailed (h.on.more (contents (target_of old.encoder)) [] encodes);
}
left_in_items limits changes choice contents failures before after old s (tool_faults.Truncated records) same encodes h = record {
  given = h.given;
  before_it = truncated_before limits records before after h.given h.stops;
  written =
      part_written limits contents (records_in (written_of changes choice h.given)) old.encoder s.encoder (h.on.limits ∙ same)
      h.on.unfailed (h.on.more (contents (target_of old.encoder)) [] encodes);
}
left_in_items limits changes choice contents failures before after old s (tool_faults.Writer n) same encodes h =
    let records : List RecordValue = records_in h.fails.begun in
    let now = h.fails.more (contents (target_of old.encoder)) [] encodes in (
      part_of records,
      inl (record {
        given = h.given;
        before_it = handed_before limits (tool_faults.Writer n) before after h.given h.handed_out (λ text read given k. k);
        begun = h.fails.begun;
        others = h.fails.others;
        split = h.fails.split;
        part = has_part_of limits contents (contents (target_of old.encoder)) records s.encoder (h.fails.limits ∙ same) now;
      }),
      record {
        bytes = now.written.bytes;
        rest = now.written.rest;
        split = now.written.split;
        has = record { appended = now.written.appended; counted = h.fails.counted ∙ now.written.counted };
      },
    )
left_in_items limits changes choice contents failures before after old s tool_faults.Output same encodes h = absurd h
left_in_items limits changes choice contents failures before after old s (tool_faults.Limit l) same encodes h = absurd h

-- at the end
pub left_at_end : {W : Type 0} (limits : Limits) (changes : Changes) (choice : Choice) (contents : W → Option (List ℕ))
    (failures : W → ℕ)
    (before after : Option (List ℕ)) (old s : Selecting W) (new : W) (result : Result SelectReport ToolFault)
    → encoder_limits old.encoder ≡ limits → Encodes contents (contents (target_of old.encoder)) [] old.encoder
    → SelectsItems limits changes choice contents failures before after (Ok tt) old s → Finishes contents s new result
    → IfErr result (LeavesSelected limits changes choice before after contents (target_of old.encoder) new)
left_at_end limits changes choice contents failures before after old s new result same encodes h f =
    by result (f (contents (target_of old.encoder)) changes.works choice (created_at changes.created h.value)
    (selects_all limits changes choice contents failures before after old s same encodes h))
  where
    by : (r : Result SelectReport ToolFault)
        → EndsSelection contents (contents (target_of old.encoder)) changes.works choice (created_at changes.created h.value) new r
        → IfErr r (LeavesSelected limits changes choice before after contents (target_of old.encoder) new)
    by (Ok report) e = tt
    by (Err (tool_faults.Writer n)) e =
        (sent_text changes choice h.value, inr (record { value = h.value; taken = h.taken; text_is = refl }), e)
    by (Err tool_faults.Reader) e = absurd e
    by (Err tool_faults.Memory) e = absurd e
    by (Err (tool_faults.Refused r)) e = absurd e
    by (Err (tool_faults.Truncated r)) e = absurd e
    by (Err tool_faults.Output) e = absurd e
    by (Err (tool_faults.Limit l)) e = absurd e
