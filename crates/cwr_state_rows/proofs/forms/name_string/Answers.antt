use Rattle.std.proofs.Common.{◌≡◌, ℕ, [], List, ◌∷◌, ◌++◌, append-nil, ap, ap₂, ◌∙◌}
use Rattle.json.specs.Print.{print, print_from, quoted}
use Rattle.json.specs.Token.{Token, string}
use Rattle.cwr_state_rows.proofs.forms.name_string.Goals as goal

one_string : (name : List ℕ) → print (string name ∷ []) ≡ quoted name
unfolding print_from
one_string name = append-nil (quoted name)

pub returns : goal.returns
returns c =
    c.into_inner.ensures.items
    ∙ ap₂ (λ (l : List ℕ) (ts : List Token). l ++ print ts)
    (c.in_ok-string.ensures.room.0 ∙ c.new-writer.ensures.before ∙ c.new.ensures.items)
    (c.in_ok-string.ensures.ok ∙ ap (λ (ts : List Token). ts ++ string c.args.name.now ∷ []) c.new-writer.ensures.tokens)
    ∙ one_string c.args.name.now
