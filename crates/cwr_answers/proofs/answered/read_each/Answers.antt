use Rattle.std.proofs.Common.{◌≡◌, ℕ, ◌≤◌, List, [], Bor, length, get_or, map, take, Option, Some, refl, sym, subst, ◌∙◌, arith}
use Rattle.std.specs.Prelude.{OnOk, Result}
use Rattle.std.specs.List.{flat_map}
use Rattle.std.proofs.lemmas.List.{length-map, take_all}
use Rattle.cwr_judge.specs.Format.Items.{value_items}
use Rattle.cwr_tools.specs.declared.verdicts.ToolFault.{ToolFault}
use Rattle.cwr_acks.specs.Format.AckLines.{matched_after}
use Rattle.cwr_acks.specs.Steps.AckSteps.{held_if}
use Rattle.cwr_files.specs.Format.Files.{Texts}
use Rattle.cwr_files.specs.Format.Inputs.{is_standard}
use Rattle.cwr_files.specs.Steps.Inputs.{IsLeftOf, remaining_of, standard_left}
use Rattle.cwr_files.proofs.lemmas.Reads.{if_read, left_lent, lent_on, words_more}
use Rattle.cwr_endings.specs.declared.judgements.Judgement.{Judgement}
use Rattle.cwr_answers.specs.Steps.Seeking.{ReadsEach, ReadsIfGood}
use Rattle.cwr_answers.proofs.lemmas.AnsweredPlaces.{each_more, each_none}
use Rattle.cwr_answers.proofs.answered.read_each.Goals as goal

pub loop-name-init : goal.loop-name-init
loop-name-init g c = record {
  standard = λ input lent. lent;
  failures = refl;
  kept = refl;
  making = refl;
  answers = λ input lent matched kept.
      each_none c.args.answered.now.limits (g.S.Store.held c.args.store.now) (g.I.Read.remaining input) matched (held_if c.args.delivery) kept;
}

pub loop-name-preserved : goal.loop-name-preserved
loop-name-preserved g c =
    let d : Bor (List ℕ) = record { ref_ptr = (0, 0); now = [] } in
    let i : ℕ = c.loop-name.name-index in
    let words : List (Bor (List ℕ)) = c.args.answered.now.files.now in
    let name : List ℕ = (get_or words i d).now in
    let limits = c.args.answered.now.limits in
    let held : Option Texts = g.S.Store.held c.args.store.now in
    let left : Option (List ℕ) = remaining_of g.S.Reader.Read.remaining g.I.Read.remaining c.in-Ok.input in
    let after = held_if c.read_answers-after.result.0 in
    record {
      standard = λ input lent.
          lent_on (is_standard (Some name)) input c.loop-name.standard c.open_input.new.standard (c.loop-name.invariant.standard input lent)
          c.open_input.ensures.standard;
      failures =
          subst (λ (r : Result Judgement ToolFault). OnOk r (g.S.Store.failures c.read_answers-after.new.store
          ≡ g.S.Store.failures c.open_input.new.store)) c.in-Ok-read.is c.read_answers-after.ensures.failures
          ∙ c.in-Ok.ensures.opened ∙ c.loop-name.invariant.failures;
      kept = c.read_answers-after.ensures.kept ∙ c.open_input.ensures.kept ∙ c.loop-name.invariant.kept;
      making = c.read_answers-after.ensures.making ∙ c.open_input.ensures.making ∙ c.loop-name.invariant.making;
      answers = λ input lent matched kept.
          let before = c.loop-name.invariant.answers input lent matched kept in
          let then = matched_after matched (flat_map value_items before.answers) in
          let good = subst (λ (r : Result Judgement ToolFault). ReadsIfGood limits left then after r) c.in-Ok-read.is
          (c.read_answers-after.ensures.answers then before.kept) c.in-Good.is in
          let opened : IsLeftOf held (g.I.Read.remaining input) (Some name) left
          = left_lent (is_standard (Some name)) held g.I.Read.remaining input c.loop-name.standard name left
          (c.loop-name.invariant.standard input lent) c.in-Ok.ensures.there
          (subst (λ (h : Option Texts). IsLeftOf h (standard_left g.I.Read.remaining c.loop-name.standard) (Some name) left)
          c.loop-name.invariant.kept c.in-Ok.ensures.left) in
          subst (λ (ws : List (List ℕ)). ReadsEach limits held (g.I.Read.remaining input) ws matched after)
          (sym (words_more words i d (omega arith)))
          (each_more limits held (g.I.Read.remaining input) (take i (map {A = Bor (List ℕ)} {B = List ℕ} (λ w. w.now) words)) name matched
          (held_if c.loop-name.delivery) after before good.value
          (if_read held (g.I.Read.remaining input) (Some name) left _ opened good.taken) good.kept);
    }

pub returns : goal.returns
returns g c =
    let i : ℕ = c.loop-name.name-index in
    let words : List (List ℕ) = map {A = Bor (List ℕ)} {B = List ℕ} (λ w. w.now) c.args.answered.now.files.now in
    let enough : length words ≤ i = rw length-map (omega arith) in
    record {
      answers = λ input lent matched kept.
          subst (λ (ws : List (List ℕ)). ReadsEach c.args.answered.now.limits (g.S.Store.held c.args.store.now) (g.I.Read.remaining input) ws
          matched (held_if c.loop-name.delivery)) (take_all i words enough) (c.loop-name.invariant.answers input lent matched kept);
      failures = c.loop-name.invariant.failures;
      kept = c.loop-name.invariant.kept;
      making = c.loop-name.invariant.making;
      standard = c.loop-name.invariant.standard;
    }

pub returns-in-Err-clause-standard : goal.returns-in-Err-clause-standard
returns-in-Err-clause-standard g c =
    let name : List ℕ = (get_or c.args.answered.now.files.now c.loop-name.name-index (record { ref_ptr = (0, 0); now = [] })).now in
    λ input lent. lent_on (is_standard (Some name)) input c.loop-name.standard c.open_input.new.standard
    (c.loop-name.invariant.standard input lent) c.open_input.ensures.standard

pub returns-in-Err-read-clause-standard : goal.returns-in-Err-read-clause-standard
returns-in-Err-read-clause-standard g c =
    let name : List ℕ = (get_or c.args.answered.now.files.now c.loop-name.name-index (record { ref_ptr = (0, 0); now = [] })).now in
    λ input lent. lent_on (is_standard (Some name)) input c.loop-name.standard c.open_input.new.standard
    (c.loop-name.invariant.standard input lent) c.open_input.ensures.standard

pub returns-in_default : goal.returns-in_default
returns-in_default g c =
    let name : List ℕ = (get_or c.args.answered.now.files.now c.loop-name.name-index (record { ref_ptr = (0, 0); now = [] })).now in
    record {
      answers = λ input lent matched kept. tt;
      failures = tt;
      kept = c.read_answers-after.ensures.kept ∙ c.open_input.ensures.kept ∙ c.loop-name.invariant.kept;
      making = c.read_answers-after.ensures.making ∙ c.open_input.ensures.making ∙ c.loop-name.invariant.making;
      standard = λ input lent. lent_on (is_standard (Some name)) input c.loop-name.standard c.open_input.new.standard
          (c.loop-name.invariant.standard input lent) c.open_input.ensures.standard;
    }
