use Rattle.std.proofs.Common.{sym, ap, ◌∙◌}
use Rattle.cwr_fields.specs.declared.kinds.Kind.{Kind}
use Rattle.cwr_shape.specs.Format.NextSymbols.{open_type, counts_of}
use Rattle.cwr_shape.specs.Format.ExpectedNumbers.{expected_numbers}
use Rattle.cwr_shape.proofs.lemmas.NumbersAreCounted.{numbers_counted}
use Rattle.cwr_shape.proofs.laws.numbers_depend_on_records_before.Goals as goal

pub returns : goal.returns
returns c = λ groups others xs s t rest more h k e f same.
    numbers_counted groups xs s rest h e ∙ ap (λ (kind : Kind). expected_numbers (open_type xs) (counts_of xs) kind) same
    ∙ sym (numbers_counted others xs t more k f)
