use Rattle.cwr_files.specs.Steps.Inputs.{remaining_of}
use Rattle.cwr_transform.proofs.lemmas.ImportFails.{input_fails}
use Rattle.cwr_transform.proofs.lemmas.ImportsEnd.{import_ends}
use Rattle.cwr_transform.proofs.lemmas.ImportsWritten.{import_handed, import_told}
use Rattle.cwr_transform.proofs.imports.import_input.Goals as goal

pub returns-clause-ends : goal.returns-clause-ends
returns-clause-ends g c = import_ends c.args.import.now _ _ _ _ c.import_from-output.ensures.judges c.import_ending.ensures

pub returns-clause-failed : goal.returns-clause-failed
returns-clause-failed g c = input_fails c.import_from-output.result.1 _ _ _ _ c.import_from-output.ensures.reads c.import_ending.ensures

pub returns-clause-told : goal.returns-clause-told
returns-clause-told g c =
    import_told g.W.Target.contents g.W.Target.handed_on c.args.import.now
    (remaining_of g.S.Reader.Read.remaining g.I.Read.remaining c.args.input) c.args.output c.import_from-output.result.0
    c.end_output-output.result _ c.import_ending.result c.import_from-output.result.1 c.import_from-output.ensures.written
    c.end_output-output.ensures c.import_ending.ensures

pub returns-clause-handed_on : goal.returns-clause-handed_on
returns-clause-handed_on g c =
    import_handed g.W.Target.contents g.W.Target.handed_on c.args.import.now
    (remaining_of g.S.Reader.Read.remaining g.I.Read.remaining c.args.input) c.args.output c.import_from-output.result.0
    c.end_output-output.result _ c.import_ending.result c.import_from-output.result.1 c.import_from-output.ensures.handed_on
    c.end_output-output.ensures c.import_ending.ensures
