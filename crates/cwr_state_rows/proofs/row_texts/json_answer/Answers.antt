use Rattle.std.proofs.Common.{◌++◌, ℕ, List, ap, ◌∙◌, drop, take}
use Rattle.std.specs.Prelude.{codes}
use Rattle.cwr_devices.proofs.lemmas.Adding.{adds_as, adds_both}
use Rattle.cwr_fields.specs.Format.Bytes.{trimmed}
use Rattle.cwr_sent.specs.declared.answers.AnsweringFile.{AnsweringFile}
use Rattle.cwr_state_rows.specs.Format.RowTexts.{member}
use Rattle.cwr_state_rows.proofs.row_texts.json_answer.Goals as goal

pub returns : goal.returns
returns g c =
    let shown : List ℕ → List ℕ → List ℕ = member c.args.encoding in
    adds_both (adds_both (adds_both (adds_both
    (adds_as (ap (λ (l : List ℕ). shown (codes ",\"society\":") (trimmed l)) (c.spaced-sender.ensures
    ∙ ap (λ (f : AnsweringFile). take 2 f.sender ++ codes " " ++ drop 2 f.sender) c.file_of.ensures)) c.member_trimmed.ensures)
    (adds_as (ap (shown (codes ",\"status\":")) (c.as_bytes.ensures.value ∙ c.code.ensures)) c.member.ensures))
    (adds_as (ap (shown (codes ",\"processed\":")) (c.as_slice.ensures.value ∙ c.date-processed.ensures.value)) c.member-2.ensures))
    c.member_trimmed-2.ensures) (adds_as (ap (shown (codes ",\"level\":")) c.level.ensures.value) c.member-3.ensures)
