-- A transmission that was read has few items.
use Rattle.std.proofs.Common.{◌≡◌, ℕ, ◌≤◌, Bool, true, false, List, [], ◌++◌, length, Option, Some, None, refl, sym, subst}
use Rattle.cwr_shape.specs.declared.limits.Limits.{Limits}
use Rattle.cwr_values.specs.declared.items.Item.{Item}
use Rattle.cwr_decode.specs.Steps.Runs.{HasReadAll}
use Rattle.cwr_tools.specs.Format.Viewing.{SeesText}
use Rattle.cwr_tools.proofs.lemmas.Viewed.{sees_text}
use Rattle.cwr_select.specs.Steps.Selecting.{HasFewItems}

-- who saw nothing, and who saw so many
abbrev counted : Bool → List Item → Type 0
counted true items = items ≡ []
counted false items = length items ≤ 199999998

few_so : (limits : Limits) (before : Option (List ℕ)) → SeesText limits counted before true false → HasFewItems limits before
few_so limits None h = tt
few_so limits (Some text) h = λ v n a. h v n a [] refl

pub few_read : (limits : Limits) (before after : Option (List ℕ)) (given : List Item) → HasReadAll limits before after given
    → length given ≤ 199999998 → HasFewItems limits before
few_read limits before after given read few =
    few_so limits before
    (sees_text limits counted before after true false given read
    (λ items none. subst (λ (l : List Item). length (l ++ given) ≤ 199999998) (sym none) few))
