use Rattle.std.proofs.Common.{◌≡◌, length}
use denote.Text.{Utf8}
use denote.Shadow.{shadow}
use Rattle.cwr_states.specs.Format.StateSets.{names_in}
use Rattle.cwr_words.specs.Format.Words.{kinds_in, with_kinds}
use Rattle.cwr_words.proofs.words.kinds_of.Given as goal

abbrev pub invariant-loop-name : goal.invariant-loop-name
invariant-loop-name l = shadow (Utf8 l.rest) × (with_kinds l.kinds (names_in l.rest) ≡ kinds_in l.fn.names)

abbrev pub decreases-loop-name : goal.decreases-loop-name
decreases-loop-name l = length l.rest
