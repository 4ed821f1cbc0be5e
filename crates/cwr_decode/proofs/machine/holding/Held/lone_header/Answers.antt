use Rattle.std.proofs.Common.{◌≡◌, Option, Some, List, [], ◌∷◌, length, refl, ap, sym, subst, ◌∙◌, arith}
use Rattle.std.specs.Prelude.{IfSome, slice_get}
use Rattle.cwr_lines.specs.Format.Records.{RecordValue}
use Rattle.cwr_decode.specs.Steps.HeldLists.{open_records}
use Rattle.cwr_decode.proofs.machine.holding.Held.lone_header.Goals as goal

lone : (records : List RecordValue) (found : Option RecordValue) → length records ≡ 1 → found ≡ slice_get records 0
    → IfSome found (λ header. Some records ≡ Some (header ∷ []))
lone [] found one first = absurd (omega (arith, one))
lone (x ∷ y ∷ records) found one first = absurd (omega (arith, one))
lone (x ∷ []) found one first =
    subst (λ (o : Option RecordValue). IfSome o (λ header. Some (x ∷ []) ≡ Some (header ∷ []))) (sym first) refl

pub returns : goal.returns
returns c =
    subst (λ (o : Option (List RecordValue)). IfSome c.record.result (λ header. o ≡ Some (header ∷ [])))
    (sym (ap open_records c.in-Open.is) ∙ c.self.view_is)
    (lone c.in-Open.transaction c.record.result (omega (arith, c.if-len-ne1.false, c.len.ensures.len)) c.record.ensures.value)
