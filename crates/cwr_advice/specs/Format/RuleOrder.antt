-- The rules of advice in their order, which is that of the table in docs/ADVICE.md.
use Rattle.std.specs.Prelude.{ℕ, List, [], ◌∷◌}
use Rattle.cwr_advice.specs.declared.rules.AdviceRule.{AdviceRule}
use Rattle.cwr_advice.specs.declared.rules.AdviceRule.TheVariants.{A1a, A1b, A2a, A2b, A2c, A2d, A2e, A2f, A2g, A2h, A3a, A3b}
use Rattle.cwr_advice.specs.declared.rules.AdviceRule.TheVariants.{A3c, A3d, A3e, A4a, A4b, A4c, A4d, A5a, A6a, A6b, A6c, A7a}
use Rattle.cwr_advice.specs.declared.rules.AdviceRule.TheVariants.{A8a, A8b, A8c, A8d, A8e, A9a, A9b, A9c}

-- all of them
unfoldable pub all_rules : List AdviceRule
all_rules =
    A1a ∷ A1b ∷ A2a ∷ A2b ∷ A2c ∷ A2d ∷ A2e ∷ A2f ∷ A2g ∷ A2h ∷ A3a ∷ A3b ∷ A3c ∷ A3d ∷ A3e ∷ A4a ∷ A4b ∷ A4c ∷ A4d ∷ A5a ∷
    A6a ∷ A6b ∷ A6c ∷ A7a ∷ A8a ∷ A8b ∷ A8c ∷ A8d ∷ A8e ∷ A9a ∷ A9b ∷ A9c ∷ []

-- the place of a rule among them, from 0
abbrev pub place_of_rule : AdviceRule → ℕ
place_of_rule A1a = 0
place_of_rule A1b = 1
place_of_rule A2a = 2
place_of_rule A2b = 3
place_of_rule A2c = 4
place_of_rule A2d = 5
place_of_rule A2e = 6
place_of_rule A2f = 7
place_of_rule A2g = 8
place_of_rule A2h = 9
place_of_rule A3a = 10
place_of_rule A3b = 11
place_of_rule A3c = 12
place_of_rule A3d = 13
place_of_rule A3e = 14
place_of_rule A4a = 15
place_of_rule A4b = 16
place_of_rule A4c = 17
place_of_rule A4d = 18
place_of_rule A5a = 19
place_of_rule A6a = 20
place_of_rule A6b = 21
place_of_rule A6c = 22
place_of_rule A7a = 23
place_of_rule A8a = 24
place_of_rule A8b = 25
place_of_rule A8c = 26
place_of_rule A8d = 27
place_of_rule A8e = 28
place_of_rule A9a = 29
place_of_rule A9b = 30
place_of_rule A9c = 31
