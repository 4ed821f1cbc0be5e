use Rattle.std.proofs.Common.{◌++◌, ◌∙◌, ap, string_bytes}
use Rattle.cwr_causes.specs.Format.Refusals.{byte_of_file_words, range_beyond_words}
use Rattle.cwr_causes.proofs.lemmas.SaidInParts.{on_ok, three_said}
use Rattle.cwr_causes.proofs.causes.add_range_beyond.Goals as goal

pub returns : goal.returns
unfolding range_beyond_words
returns c =
    on_ok c.add_byte_of_file.result
    (λ h. three_said _ _ _ _ _ _ _ c.in_ok-add_range.ensures c.in_ok-add_end_byte.ensures
    (h ∙ ap (λ n. string_bytes c.add_end_byte.new.text ++ byte_of_file_words n) c.saturating_add.ensures))
    c.add_byte_of_file.ensures
