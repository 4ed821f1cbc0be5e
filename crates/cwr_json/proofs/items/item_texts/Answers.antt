use Rattle.std.proofs.Common.{sym, ap}
use Rattle.cwr_judge.specs.Format.Items.{item_records}
use Rattle.cwr_devices.proofs.lemmas.Adding.{adds_as}
use Rattle.cwr_json.specs.Steps.FormTexts.{listed_texts, member_texts}
use Rattle.cwr_json.proofs.items.item_texts.Goals as goal

pub returns-in-Ended : goal.returns-in-Ended
unfolding member_texts
returns-in-Ended g c =
    adds_as (sym (ap (λ item. listed_texts c.args.encoding 0 (item_records item)) c.in-Ended.is)) c.text.ensures
