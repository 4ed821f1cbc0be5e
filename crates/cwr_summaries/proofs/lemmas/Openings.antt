-- The HDR among items, with one item more.
use Rattle.std.proofs.Common.{◌≡◌, Bool, true, false, List, [], ◌∷◌, ◌++◌, Some, refl, if◌then◌else◌}
use Rattle.cwr_fields.specs.declared.kinds.Kind.TheVariants as kinds
use Rattle.cwr_values.specs.declared.items.Item.{Item}
use Rattle.cwr_values.specs.declared.items.Item.TheVariants.{Opened, GroupOpened, Transaction, GroupClosed, Ended}
use Rattle.cwr_findings.specs.Format.Findings.{is_a}
use Rattle.cwr_summaries.specs.Format.Rows.{opening_in}
use Rattle.cwr_summaries.specs.Steps.Rows.{first_of}

pub opening_more : (given : List Item) (item : Item) → opening_in (given ++ item ∷ []) ≡ first_of (opening_in given) (opening_in (item ∷ []))
opening_more [] item = refl
opening_more (Opened r ∷ rest) item = by (is_a kinds.Hdr r) (opening_more rest item)
  where
    by : (b : Bool) → opening_in (rest ++ item ∷ []) ≡ first_of (opening_in rest) (opening_in (item ∷ []))
        → (if b then Some r else opening_in (rest ++ item ∷ []))
        ≡ first_of (if b then Some r else opening_in rest) (opening_in (item ∷ []))
    by true more = refl
    by false more = more
opening_more (GroupOpened r ∷ rest) item = opening_more rest item
opening_more (Transaction t ∷ rest) item = opening_more rest item
opening_more (GroupClosed r ∷ rest) item = opening_more rest item
opening_more (Ended ∷ rest) item = opening_more rest item
