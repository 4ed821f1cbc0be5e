use Rattle.cwr_devices.proofs.lemmas.Adding.{adds_as, adds_both}
use Rattle.cwr_json.proofs.lemmas.PrintedItems.{item_printed}
use Rattle.cwr_json.proofs.items.item_line.Goals as goal

pub returns : goal.returns
returns g c =
    adds_as (item_printed c.args.encoding c.args.notes c.args.item.now)
    (adds_both (adds_both c.opening_text.ensures c.item_texts.ensures) c.text.ensures)
