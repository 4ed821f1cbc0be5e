use Rattle.std.proofs.Common.{ℕ, List, Some, subst}
use Rattle.std.specs.Prelude.{IfErr}
use Rattle.cwr_decode.specs.Format.Headline.{Means, text_in}
use Rattle.cwr_decode.specs.Steps.PiecesLeft.{text_left}
use Rattle.cwr_decode.specs.Steps.Runs.{StopsText}
use Rattle.cwr_decode.proofs.lemmas.Headlines.{no_failures, run_means, means_accepted, means_refused, means_truncated, stops_text}
use Rattle.cwr_decode.proofs.piecewise.read_pieces.Goals as goal

-- the answer is the end of the pieces put together
its_end : (c : goal.After-read_all) → Means c.args.limits (text_in c.args.pieces.now) c.read_all.result
its_end c =
    let e = c.read_all.ensures in
    subst (λ (text : List ℕ). Means c.args.limits text c.read_all.result) c.new-reader.ensures
    (run_means c.args.limits (text_left c.new-reader.result) c.read_all.result (Some (text_left c.read_all.new.reader)) e.takes
    e.stops (no_failures c.read_all.result 0 e.failures))

pub returns-clause-means : goal.returns-clause-means
returns-clause-means c = its_end c

pub returns-clause-accepted : goal.returns-clause-accepted
returns-clause-accepted c = λ v n a. means_accepted c.args.limits (text_in c.args.pieces.now) c.read_all.result v n (its_end c) a

pub returns-clause-refused : goal.returns-clause-refused
returns-clause-refused c =
    λ refusal r. means_refused c.args.limits (text_in c.args.pieces.now) c.read_all.result refusal (its_end c) r

pub returns-clause-truncated : goal.returns-clause-truncated
returns-clause-truncated c =
    λ records t. means_truncated c.args.limits (text_in c.args.pieces.now) c.read_all.result records (its_end c) t

pub returns-clause-stops : goal.returns-clause-stops
returns-clause-stops c =
    subst (λ (text : List ℕ). IfErr c.read_all.result (λ fault. StopsText c.args.limits fault text)) c.new-reader.ensures
    (stops_text c.args.limits (text_left c.new-reader.result) c.read_all.result (Some (text_left c.read_all.new.reader))
    c.read_all.ensures.stops)
