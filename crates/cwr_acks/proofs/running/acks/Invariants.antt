use Rattle.cwr_acks.specs.Steps.AckSteps.{held_if}
use Rattle.cwr_acks.proofs.running.acks.Given as goal

abbrev pub ghosts-write_answers : goal.ghosts-write_answers
ghosts-write_answers g a = record { held = held_if a.delivery }
