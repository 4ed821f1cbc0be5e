use Rattle.std.proofs.Common.{ℕ, List, [], Bor, get_or, map, take, sym, subst, ◌∙◌, arith}
use Rattle.std.specs.Prelude.{IfSome}
use Rattle.cwr_files.proofs.lemmas.Reads.{words_more}
use Rattle.cwr_endings.specs.Format.Endings.{IsNoInput}
use Rattle.cwr_endings.proofs.lemmas.Apart.{apart_more}
use Rattle.cwr_endings.proofs.written.refuse_input.Goals as goal

pub loop-word-preserved : goal.loop-word-preserved
loop-word-preserved g c =
    let d : Bor (List ℕ) = record { ref_ptr = (0, 0); now = [] } in
    let i : ℕ = c.loop-word.word-index in
    let before : List (List ℕ) = take i (map {A = Bor (List ℕ)} {B = List ℕ} (λ w. w.now) c.args.words.now) in
    record {
      apart = subst (λ (ws : List (List ℕ)). IfSome (g.S.Store.held c.args.store.now) (IsNoInput c.args.out.now ws))
          (sym (words_more c.args.words.now i d (omega arith)))
          (apart_more (g.S.Store.held c.args.store.now) (g.S.Store.held c.loop-word.store) c.args.out.now c.path_of_input.result.now before
          (get_or c.args.words.now i d).now c.are_one.result c.loop-word.invariant.kept c.path_of_input.ensures c.are_one.ensures.one
          c.if-are_one.false c.loop-word.invariant.apart);
      kept = c.are_one.ensures.kept ∙ c.loop-word.invariant.kept;
      making = c.are_one.ensures.making ∙ c.loop-word.invariant.making;
      failures = c.are_one.ensures.failures ∙ c.loop-word.invariant.failures;
    }
