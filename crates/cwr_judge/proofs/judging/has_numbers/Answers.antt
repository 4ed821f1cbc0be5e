use Rattle.std.proofs.Common.{lit≤}
use Rattle.cwr_judge.proofs.lemmas.NumberCells.{all_numbers}
use Rattle.cwr_judge.proofs.judging.has_numbers.Goals as goal

pub returns-then-not-has_number-clause-no : goal.returns-then-not-has_number-clause-no
returns-then-not-has_number-clause-no c =
    λ xs st t s k g all. c.has_number.ensures.no xs st c.if-not-has_number.true s k g (all 2 (lit≤ tt))

pub returns-then-not-has_number-2-clause-no : goal.returns-then-not-has_number-2-clause-no
returns-then-not-has_number-2-clause-no c =
    λ xs st t s k g all. c.has_number-2.ensures.no xs st c.if-not-has_number-2.true s k g (all 3 (lit≤ tt))

pub returns-clause-yes : goal.returns-clause-yes
returns-clause-yes c = λ xs st t.
    all_numbers xs c.args.line.now c.args.kind (c.has_number.ensures.yes xs st c.if-not-has_number.false)
    (c.has_number-2.ensures.yes xs st c.if-not-has_number-2.false) (c.has_number-3.ensures.yes xs st t)

pub returns-clause-no : goal.returns-clause-no
returns-clause-no c = λ xs st t s k g all. c.has_number-3.ensures.no xs st t s k g (all 4 (lit≤ tt))
