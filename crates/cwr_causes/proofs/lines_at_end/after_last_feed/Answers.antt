use Rattle.std.proofs.Common.{refl}
use Rattle.cwr_causes.proofs.lemmas.FeedPlaces.{after_none, after_some}
use Rattle.cwr_causes.proofs.lines_at_end.after_last_feed.Goals as goal

pub returns-in-Some : goal.returns-in-Some
returns-in-Some c = after_some c.args.text.now _ c.in-Some.at c.in-Some.ensures refl

pub returns-in-None : goal.returns-in-None
returns-in-None c = after_none c.args.text.now c.in-None.ensures
