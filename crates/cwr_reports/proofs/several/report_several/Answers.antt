use Rattle.std.proofs.Common.{ℕ, ◌<◌, ◌≤◌, List, [], Bor, length, get_or, map, take, Option, refl, sym, subst, ◌∙◌, arith, inl}
use Rattle.std.specs.Prelude.{Result, Ok}
use Rattle.std.specs.Str.{bytes_eq}
use Rattle.std.proofs.lemmas.List.{length-map, take_all}
use Rattle.cwr_files.specs.Format.Files.{Texts}
use Rattle.cwr_files.proofs.lemmas.Reads.{words_more}
use Rattle.cwr_endings.specs.declared.stops.Stop.{Stop}
use Rattle.cwr_reports.specs.Format.Endings.{IsWorstOf, advice_asked}
use Rattle.cwr_devices.specs.Format.Failures.{most_failures}
use Rattle.cwr_reports.specs.Steps.Several.{CountsNext, IsNext}
use Rattle.cwr_reports.specs.Steps.Marked.{ArePieces, CountsOutput, Piece, TellsNext}
use Rattle.cwr_endings.specs.declared.endings.Status.{Status}
use Rattle.cwr_reports.proofs.lemmas.MarkedLines.{appends_none}
use Rattle.cwr_reports.proofs.lemmas.Pieces.{first_of, no_pieces, pieces_more}
use Rattle.cwr_files.proofs.lemmas.Reads.{lent_on}
use Rattle.cwr_reports.proofs.lemmas.WorstOf.{worst_more}
use Rattle.cwr_reports.proofs.several.report_several.Goals as goal

pub loop-name-preserved : goal.loop-name-preserved
loop-name-preserved g c =
    let d : Bor (List ℕ) = record { ref_ptr = (0, 0); now = [] } in
    let i : ℕ = c.loop-name.name-index in
    let asked = c.args.asked.now in
    let before : List (List ℕ) = take i (map {A = Bor (List ℕ)} {B = List ℕ} (λ w. w.now) c.args.names.now) in
    let name : List ℕ = (get_or c.args.names.now i d).now in
    let now = c.report_next-after.new.tally.sums.status in
    let next : IsNext (advice_asked asked) asked.limits asked.wanted (g.S.Store.held c.args.store.now) g.I.Read.remaining
    c.loop-name.standard name c.loop-name.tally.sums.status now
    = subst (λ (h : Option Texts). IsNext (advice_asked asked) asked.limits asked.wanted h g.I.Read.remaining c.loop-name.standard name
    c.loop-name.tally.sums.status now) c.loop-name.invariant.kept
    (subst (λ (r : Result (Unit {0}) Stop). CountsNext (advice_asked asked) asked.limits asked.wanted (g.S.Store.held c.loop-name.store)
    g.I.Read.remaining c.loop-name.standard name c.loop-name.tally.sums.status now r) c.in-Ok.is c.report_next-after.ensures.counted) in
    record {
      worst = subst (λ (ws : List (List ℕ)). IsWorstOf (advice_asked asked) asked.limits asked.wanted (g.S.Store.held c.args.store.now)
          (g.I.Read.remaining c.args.standard) ws now) (sym (words_more c.args.names.now i d (omega arith)))
          (worst_more (advice_asked asked) asked.limits asked.wanted (g.S.Store.held c.args.store.now) g.I.Read.remaining c.args.standard
          c.loop-name.standard before name c.loop-name.tally.sums.status now c.loop-name.invariant.lent c.loop-name.invariant.worst next);
      lent = lent_on (bytes_eq name _) c.args.standard c.loop-name.standard c.report_next-after.new.standard c.loop-name.invariant.lent
          c.report_next-after.ensures.standard;
      kept = c.report_next-after.ensures.kept ∙ c.loop-name.invariant.kept;
      making = c.report_next-after.ensures.making ∙ c.loop-name.invariant.making;
      output = subst (λ (r : Result (Unit {0}) Stop). CountsOutput r (g.W.Target.failures c.loop-name.lines)
          (g.W.Target.failures c.report_next-after.result.0)) c.in-Ok.is c.report_next-after.ensures.output ∙ c.loop-name.invariant.output;
      told = λ few.
          let held = g.S.Store.held c.args.store.now in
          let first = g.I.Read.remaining c.args.standard in
          let below : g.W.Target.failures c.loop-name.lines < most_failures =
          subst (λ (n : ℕ). n < most_failures) (sym c.loop-name.invariant.output) few in
          subst (λ (ws : List (List ℕ)). (pieces : List Piece) × ArePieces asked c.args.explained held first ws g.W.Target.contents
          c.args.lines c.report_next-after.result.0 (g.S.Store.failures c.args.store.now) (g.S.Store.failures c.report_next-after.new.store)
          c.report_next-after.new.tally.sums pieces) (sym (words_more c.args.names.now i d (omega arith)))
          (pieces_more asked c.args.explained held first before name g.W.Target.contents c.args.lines c.loop-name.lines
          c.report_next-after.result.0 (g.S.Store.failures c.args.store.now) (g.S.Store.failures c.loop-name.store)
          (g.S.Store.failures c.report_next-after.new.store) c.loop-name.tally.sums c.report_next-after.new.tally.sums
          (c.loop-name.invariant.told few)
          (subst (λ (h : Option Texts). TellsNext asked c.args.explained h first name g.W.Target.contents c.loop-name.lines
          c.report_next-after.result.0 (g.S.Store.failures c.loop-name.store) (g.S.Store.failures c.report_next-after.new.store)
          c.loop-name.tally.sums c.report_next-after.new.tally.sums (Ok tt)) c.loop-name.invariant.kept
          (subst (λ (r : Result (Unit {0}) Stop). TellsNext asked c.args.explained (g.S.Store.held c.loop-name.store) first name
          g.W.Target.contents c.loop-name.lines c.report_next-after.result.0 (g.S.Store.failures c.loop-name.store)
          (g.S.Store.failures c.report_next-after.new.store) c.loop-name.tally.sums c.report_next-after.new.tally.sums r) c.in-Ok.is
          (c.report_next-after.ensures.told first
          (first_of g.I.Read.remaining c.args.standard c.loop-name.standard c.loop-name.invariant.lent) below))));
    }

pub returns-clause-ends : goal.returns-clause-ends
returns-clause-ends g c =
    let i : ℕ = c.loop-name.name-index in
    let asked = c.args.asked.now in
    let words : List (List ℕ) = map {A = Bor (List ℕ)} {B = List ℕ} (λ w. w.now) c.args.names.now in
    let enough : length words ≤ i = rw length-map (omega arith) in
    subst (λ (ws : List (List ℕ)). IsWorstOf (advice_asked asked) asked.limits asked.wanted (g.S.Store.held c.args.store.now)
    (g.I.Read.remaining c.args.standard) ws c.loop-name.tally.sums.status) (take_all i words enough) c.loop-name.invariant.worst

pub loop-name-init : goal.loop-name-init
loop-name-init g c =
    let asked = c.args.asked.now in
    let held = g.S.Store.held c.args.store.now in
    let first = g.I.Read.remaining c.args.standard in
    record {
      worst = subst (λ (s : Status). IsWorstOf (advice_asked asked) asked.limits asked.wanted held first [] s) (sym c.new.ensures.status)
          (λ k d lt. absurd (omega (arith, lt)));
      lent = inl refl;
      kept = refl;
      making = refl;
      output = refl;
      told = λ few.
          no_pieces asked c.args.explained held first g.W.Target.contents c.args.lines (g.S.Store.failures c.args.store.now) c.new.result
          (appends_none (g.W.Target.contents c.args.lines)) c.new.ensures.sums c.new.ensures.status;
    }
