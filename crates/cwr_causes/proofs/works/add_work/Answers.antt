use Rattle.std.proofs.Common.{◌≡◌, ◌++◌, ◌-◌, ℕ, List, length, take, sym, ap, subst, ◌∙◌}
use Rattle.std.specs.Prelude.{OnOk, codes, flat_map, string_bytes}
use Rattle.cwr_causes.specs.Format.RefusedWorks.{shown_line}
use Rattle.cwr_causes.specs.Format.Texts.{byte_words}
use Rattle.cwr_causes.proofs.lemmas.Utf8Texts.{shown_bytes, shown_text}
use Rattle.cwr_causes.proofs.works.add_work.Goals as goal

pub returns-in-Ok : goal.returns-in-Ok
returns-in-Ok c =
    subst (λ (l : List ℕ). OnOk c.add_words.result (string_bytes c.add_words.new.text ≡ string_bytes c.args.text.now ++ l))
    (c.in-Ok.ensures.cases.0 ∙ sym (shown_text c.as_slice-line.result.now c.in-Ok.ensures.cases.1)
    ∙ ap shown_line c.as_slice-line.ensures.value) c.add_words.ensures

pub returns-in-Err : goal.returns-in-Err
returns-in-Err c =
    let line : List ℕ = c.as_slice-line.result.now in
    let upto : c.saturating_sub.result ≡ length line - 1 = c.saturating_sub.ensures in
    subst (λ (l : List ℕ). OnOk c.add_escaped.result (string_bytes c.add_escaped.new.text ≡ string_bytes c.args.text.now ++ l))
    (ap (λ (k : ℕ). flat_map byte_words (take k line) ++ codes "\n") upto
    ∙ sym (shown_bytes line c.in-Err.ensures.cases.0) ∙ ap shown_line c.as_slice-line.ensures.value) c.add_escaped.ensures
