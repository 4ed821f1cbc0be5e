use Rattle.std.proofs.Common.{◌∙◌, [], ◌∷◌, ap, sym}
use Rattle.cwr_judge.specs.Format.Items.{item_records}
use Rattle.cwr_lines.specs.Format.Records.{RecordValue}
use Rattle.cwr_summaries.proofs.lemmas.Digesting.{encoded_so}
use Rattle.cwr_summaries.proofs.summed_files.encoder_after.Goals.{in-Opened, in-GroupOpened, in-Transaction, in-GroupClosed}
use Rattle.cwr_summaries.proofs.summed_files.encoder_after.Goals as goal

pub returns-in-Ok : goal.returns-in-Ok
returns-in-Ok c = λ given h.
    elim c.match-item.branch [
      | in-Opened w ↦ encoded_so (λ it. 0) c.args.item.now (w.to_record.result ∷ []) given c.args.encoder w.open-put.new.self
          c.match-item.encoder c.match-item.put w.open-put.result c.in-Ok.field-0 (w.open-put.ensures.adds h.1)
          (ap item_records w.in-Opened.is ∙ ap (λ (r : RecordValue). r ∷ []) (sym w.to_record.ensures.value)) w.put-is c.in-Ok.is
          w.encoder-is h
      | in-GroupOpened w ↦ encoded_so (λ it. 0) c.args.item.now (w.to_record-in-GroupOpened.result ∷ []) given c.args.encoder
          w.group-put.new.self c.match-item.encoder c.match-item.put w.group-put.result c.in-Ok.field-0 (w.group-put.ensures.adds h.1)
          (ap item_records w.in-GroupOpened.is ∙ ap (λ (r : RecordValue). r ∷ []) (sym w.to_record-in-GroupOpened.ensures.value)) w.put-is
          c.in-Ok.is w.encoder-is h
      | in-Transaction w ↦ encoded_so (λ it. 0) c.args.item.now _ given c.args.encoder w.transaction-put.new.self c.match-item.encoder
          c.match-item.put w.transaction-put.result c.in-Ok.field-0 (w.transaction-put.ensures.adds h.1) (ap item_records w.in-Transaction.is)
          w.put-is c.in-Ok.is w.encoder-is h
      | in-GroupClosed w ↦ encoded_so (λ it. 0) c.args.item.now (w.to_record-in-GroupClosed.result ∷ []) given c.args.encoder
          w.end_group-put.new.self c.match-item.encoder c.match-item.put w.end_group-put.result c.in-Ok.field-0
          (w.end_group-put.ensures.adds h.1)
          (ap item_records w.in-GroupClosed.is ∙ ap (λ (r : RecordValue). r ∷ []) (sym w.to_record-in-GroupClosed.ensures.value)) w.put-is
          c.in-Ok.is w.encoder-is h
    ]
