use Rattle.cwr_files.specs.Steps.Inputs.{remaining_of}
use Rattle.cwr_summaries.proofs.summaries.read_input.Given as goal

abbrev pub ghosts-read_whole : goal.ghosts-read_whole
ghosts-read_whole g a = record {
  whole = remaining_of g.S.Reader.Read.remaining g.I.Read.remaining a.input;
  digests = a.summing.now.digests;
}
