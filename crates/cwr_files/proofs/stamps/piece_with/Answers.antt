use Rattle.std.proofs.Common.{◌≡◌, ◌++◌, List, Option, take, subst, sym, ℕ}
use Rattle.cwr_files.specs.Format.Stamps.{created_by}
use Rattle.cwr_files.proofs.lemmas.Stamps.{created_grows}
use Rattle.cwr_files.proofs.stamps.piece_with.Goals as goal

pub returns-in-Some-clause-piece : goal.returns-in-Some-clause-piece
returns-in-Some-clause-piece c = λ given n counted few.
    subst (λ (o : Option (List ℕ)). created_by o (given ++ take n c.args.text.now) ≡ created_by o given ++ take n c.next_piece.result.now)
    (sym c.in-Some.is)
    (created_grows c.in-Some.cells given c.args.text.now c.next_piece.result.now c.args.at n c.next_piece.ensures.wide counted
    c.next_piece.ensures.piece few)
