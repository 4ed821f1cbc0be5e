use Rattle.std.proofs.Common.{rules, Bor, ℕ, ◌+◌, ◌++◌, ◌∷◌, [], List, Option, get_or, take, subst, ◌∙◌, arith}
use Rattle.std.specs.Prelude.{Some}
use Rattle.cwr_files.specs.Format.Files.{Texts}
use Rattle.cwr_files.specs.Format.Inputs.{is_standard}
use Rattle.cwr_files.specs.Steps.Inputs.{IsLeftOf, remaining_of}
use Rattle.cwr_files.proofs.lemmas.Reads.{left_lent, lent_on}
use Rattle.cwr_transform.specs.Format.Joins.{IsUnreadBy}
use Rattle.cwr_transform.proofs.lemmas.JoinFails.{unopened_counted}
use Rattle.cwr_transform.proofs.lemmas.JoinInputs.{new_left, read_more}
use Rattle.cwr_transform.proofs.lemmas.JoinsEnd.{unopened}
use Rattle.cwr_transform.specs.Steps.Joins.{ReadEach, left_of}
use Rattle.cwr_transform.proofs.join_inputs.open_inputs.Goals as goal

pub returns-in-Err-clause-unopened : goal.returns-in-Err-clause-unopened
returns-in-Err-clause-unopened g c =
    let d : Bor (List ℕ) = record { ref_ptr = (0, 0); now = [] } in
    unopened (Some (get_or c.args.names.now c.loop-name.name-index d).now) c.loop-name.standard _ _ c.in-Err.fault
    c.in-Err.ensures.unopened

pub returns-in-Err-clause-counted : goal.returns-in-Err-clause-counted
returns-in-Err-clause-counted g c =
    let d : Bor (List ℕ) = record { ref_ptr = (0, 0); now = [] } in
    subst (λ (n : ℕ). IsUnreadBy c.in-Err.fault n (g.S.Store.failures c.open_input.new.store)) c.loop-name.invariant.failures
    (unopened_counted (Some (get_or c.args.names.now c.loop-name.name-index d).now) c.loop-name.standard _ _ c.in-Err.fault
    c.in-Err.ensures.unopened)

pub loop-name-preserved : goal.loop-name-preserved
loop-name-preserved g c =
    let d : Bor (List ℕ) = record { ref_ptr = (0, 0); now = [] } in
    let i : ℕ = c.loop-name.name-index in
    let name : List ℕ = (get_or c.args.names.now i d).now in
    let lefts = left_of g.S.Reader.Read.remaining g.I.Read.remaining in
    let left : Option (List ℕ) = remaining_of g.S.Reader.Read.remaining g.I.Read.remaining c.in-Ok.input in
    let standard : Option (List ℕ) = g.I.Read.remaining c.args.standard in
    let opened : IsLeftOf (g.S.Store.held c.args.store.now) standard (Some name) left
    = subst (λ (h : Option Texts). IsLeftOf h standard (Some name) left) c.loop-name.invariant.kept
    (left_lent (is_standard (Some name)) (g.S.Store.held c.loop-name.store) g.I.Read.remaining c.args.standard c.loop-name.standard name left
    c.loop-name.invariant.lent c.in-Ok.ensures.there c.in-Ok.ensures.left) in
    record {
      opened = subst (λ (l : List _). ReadEach (g.S.Store.held c.args.store.now) standard lefts (take (i + 1) c.args.names.now) l)
          {x = c.loop-name.readers.items ++ c.new.result ∷ []} {y = c.push.new.self.items} (search rules)
          (read_more (g.S.Store.held c.args.store.now) standard lefts c.args.names.now c.loop-name.readers.items c.new.result i d
          (omega arith) c.loop-name.invariant.opened
          (new_left g.S.Reader.Read.remaining g.I.Read.remaining c.new.result c.in-Ok.input (g.S.Store.held c.args.store.now) standard
          (Some name) c.new.ensures.inner c.new.ensures.ahead opened));
      lent = lent_on (is_standard (Some name)) c.args.standard c.loop-name.standard c.open_input.new.standard c.loop-name.invariant.lent
          c.open_input.ensures.standard;
      kept = c.open_input.ensures.kept ∙ c.loop-name.invariant.kept;
      making = c.open_input.ensures.making ∙ c.loop-name.invariant.making;
      failures = c.in-Ok.ensures.opened ∙ c.loop-name.invariant.failures;
    }
