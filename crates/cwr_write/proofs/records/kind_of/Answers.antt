use Rattle.std.proofs.Common.{sym, ap, ◌∙◌}
use Rattle.json.specs.Json.{string}
use Rattle.json.specs.Value.{value_view}
use Rattle.cwr_fields.specs.Format.Kinds.{kind_of}
use Rattle.cwr_lines.proofs.lemmas.GoodLinesAreRows.{letters-of}
use Rattle.cwr_write.proofs.lemmas.CharactersRead.{string_of}
use Rattle.cwr_write.proofs.records.kind_of.Goals as goal

pub returns-in-Some-of-clause-ok : goal.returns-in-Some-of-clause-ok
returns-in-Some-of-clause-ok c =
    string_of (value_view c.args.value.now) c.in-Some.text.now (sym c.in-Some.ensures)
    ∙ ap string (sym
    (letters-of c.in-Some.text.now c.in-Some-of.kind (ap kind_of (sym c.as_bytes.ensures.value) ∙ sym c.in-Some-of.ensures)))
