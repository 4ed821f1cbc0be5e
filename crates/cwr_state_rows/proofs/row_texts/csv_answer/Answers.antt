use Rattle.std.proofs.Common.{◌++◌, ℕ, List, ap, ◌∙◌, drop, take}
use Rattle.std.specs.Prelude.{codes}
use Rattle.cwr_devices.proofs.lemmas.Adding.{adds_as, adds_both}
use Rattle.cwr_fields.specs.Format.Bytes.{trimmed}
use Rattle.cwr_sent.specs.declared.answers.AnsweringFile.{AnsweringFile}
use Rattle.cwr_state_rows.specs.Format.RowTexts.{next_shown}
use Rattle.cwr_state_rows.proofs.row_texts.csv_answer.Goals as goal

pub returns : goal.returns
returns g c =
    let shown : List ℕ → List ℕ = next_shown c.args.encoding in
    adds_both (adds_both (adds_both (adds_both
    (adds_as (ap (λ (l : List ℕ). shown (trimmed l)) (c.spaced.ensures
    ∙ ap (λ (f : AnsweringFile). take 2 f.sender ++ codes " " ++ drop 2 f.sender) c.file_of.ensures)) c.next_trimmed.ensures)
    (adds_as (ap shown (c.as_bytes.ensures.value ∙ c.code.ensures)) c.next_characters.ensures))
    (adds_as (ap shown (c.as_slice.ensures.value ∙ c.date.ensures.value)) c.next_characters-2.ensures)) c.next_trimmed-2.ensures)
    (adds_as (ap shown c.level.ensures.value) c.next_characters-3.ensures)
