use Rattle.std.proofs.Common.{◌≡◌, ◌++◌, map, take}
use Rattle.cwr_fields.specs.Format.MessageCodes.{status_code}
use Rattle.cwr_words.proofs.words.with_statuses.Given as goal

abbrev pub invariant-loop-code : goal.invariant-loop-code
invariant-loop-code l =
    map status_code l.statuses.items ≡ map status_code l.initial.statuses.items ++ map (λ code. code.now) (take l.code-index l.code-items)
