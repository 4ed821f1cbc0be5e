-- A name is apart from the inputs that words name.
use Rattle.std.proofs.Common.{◌≡◌, ℕ, Bool, false, ◌&&◌, List, [], ◌∷◌, ◌++◌, Option, Some, None, sym, subst, ◌∙◌}
use Rattle.std.specs.Prelude.{IfSome}
use Rattle.std.specs.Option.{is_some}
use Rattle.std.specs.Str.{bytes_eq}
use Rattle.std.proofs.lemmas.List.Elements.{All-push}
use Rattle.cwr_files.specs.Format.Files.{AreOne, Texts}
use Rattle.cwr_files.specs.Format.Inputs.{path_of_input}
use Rattle.cwr_endings.specs.Format.Endings.{IsNoInput}

-- from those of one word more
pub apart_more : (held here : Option Texts) (out path : List ℕ) (words : List (List ℕ)) (word : List ℕ) (found : Bool) → here ≡ held
    → path ≡ path_of_input word → AreOne here out path found → found ≡ false → IfSome held (IsNoInput out words)
    → IfSome held (IsNoInput out (words ++ word ∷ []))
apart_more held here out path words word found kept is one other apart =
    by held apart (subst (λ (h : Option Texts). AreOne h out path found) kept one)
  where
    by : (h : Option Texts) → IfSome h (IsNoInput out words) → AreOne h out path found → IfSome h (IsNoInput out (words ++ word ∷ []))
    by None a o = tt
    by (Some texts) a o =
        All-push (λ (w : List ℕ). (is_some (texts out) && bytes_eq out (path_of_input w)) ≡ false) words word a
        (subst (λ (q : List ℕ). (is_some (texts out) && bytes_eq out q) ≡ false) is (sym o ∙ other))
