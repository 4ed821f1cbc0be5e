-- The lines of one item more, as a report adds them.
use Rattle.std.proofs.Common.{◌≡◌, List, [], ◌∷◌, ◌++◌, Option, Some, None, refl, sym, ap, ap₂, ◌∙◌}
use Rattle.std.specs.Prelude.{is_some}
use Rattle.cwr_values.specs.declared.items.Item.{Item}
use Rattle.cwr_delivery.specs.declared.deliveries.Delivery.{Delivery}
use Rattle.cwr_delivery.specs.declared.outcomes.Notes.{Notes}
use Rattle.cwr_delivery.specs.Steps.Deliveries.{Held}
use Rattle.cwr_acks.specs.declared.counts.Answers.{Answers}
use Rattle.cwr_acks.specs.Format.AckLines.{Telling}
use Rattle.cwr_acks.specs.Steps.AckSteps.{answers_of, held_after, held_if, kept_if, lines_at, lines_held, notes_if}
use Rattle.cwr_acks.proofs.lemmas.LinesOfItems.{lines_more}

-- the lines that were added are those of the item after the others
pub lines_added : (telling : Telling) (held old new : Option Held) (notes : Option Notes) (answers : Answers) (given : List Item)
    (item : Item) → old ≡ held_after held given → answers ≡ answers_of given → new ≡ kept_if old item → notes ≡ notes_if old item
    → lines_held telling held (given ++ item ∷ []) ≡ lines_held telling held given ++ lines_at telling new notes answers item
lines_added telling held old new notes answers given item was counted kept told =
    lines_more telling held given item
    ∙ ap (λ (x : Option Held). lines_held telling held given
    ++ lines_at telling (kept_if x item) (notes_if x item) (answers_of given) item) (sym was)
    ∙ ap₂ (λ (x : Option Held) (n : Option Notes). lines_held telling held given ++ lines_at telling x n (answers_of given) item)
    (sym kept) (sym told)
    ∙ ap (λ (a : Answers). lines_held telling held given ++ lines_at telling new notes a item) (sym counted)

-- a delivery stays one, and nothing stays nothing
some_kept : (held : Option Held) (item : Item) → is_some (kept_if held item) ≡ is_some held
some_kept None item = refl
some_kept (Some h) item = refl

some_after : (held : Option Held) (given : List Item) → is_some (held_after held given) ≡ is_some held
some_after held [] = refl
some_after held (x ∷ given) = some_after (kept_if held x) given ∙ some_kept held x

some_held : (delivery : Option Delivery) → is_some delivery ≡ is_some (held_if delivery)
some_held None = refl
some_held (Some d) = refl

pub still_some : (delivery : Option Delivery) (held : Option Held) (given : List Item) → held_if delivery ≡ held_after held given
    → is_some delivery ≡ is_some held
still_some delivery held given e = some_held delivery ∙ ap is_some e ∙ some_after held given
