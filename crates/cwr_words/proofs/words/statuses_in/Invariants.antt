use Rattle.std.proofs.Common.{◌≡◌, map, take}
use Rattle.cwr_fields.specs.Format.MessageCodes.{status_code}
use Rattle.cwr_words.specs.Format.Words.{codes_in}
use Rattle.cwr_words.proofs.words.statuses_in.Given as goal

abbrev pub invariant-loop-text : goal.invariant-loop-text
invariant-loop-text l = map status_code l.statuses.items ≡ codes_in (map (λ text. text.now) (take l.text-index l.text-items))
