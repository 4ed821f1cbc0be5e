use Rattle.std.proofs.Common.{◌++◌, ◌∙◌, ap, string_bytes}
use Rattle.cwr_causes.specs.Format.Refusals.{first_kind}
use Rattle.cwr_causes.specs.Format.TruncatedTexts.{end_words, last_cut_off_words}
use Rattle.cwr_causes.proofs.lemmas.SaidInParts.{on_ok, truncated_said}
use Rattle.cwr_causes.proofs.truncated_words.add_truncated.Goals as goal

pub returns : goal.returns
returns c =
    let line = c.line_at_end-line.result in
    let name = c.args.name.now in
    let records = c.args.records in
    on_ok c.add_rest.result
    (λ h. truncated_said name records c.args.last.now line _ _ _ _ _ c.line_at_end-line.ensures
    (c.in_ok-add_end.ensures
    ∙ ap (λ k. string_bytes c.args.text.now ++ end_words name k records c.read.result) c.kind_of-kind.ensures
    ∙ ap (λ n. string_bytes c.args.text.now ++ end_words name (first_kind line.bytes.now) records n) c.read.ensures)
    c.in_ok-add_coming.ensures
    (c.in_ok-add_last_cut_off.ensures
    ∙ ap (λ k. string_bytes c.add_coming.new.text ++ last_cut_off_words records line.bytes.now line.ended k)
    c.kind_of-kind.ensures)
    h)
    c.add_rest.ensures
