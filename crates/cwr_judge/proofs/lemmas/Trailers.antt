-- Symbols that begin a transmission are whole exactly where the last is that of TRL.
use Rattle.std.proofs.Common.{◌≡◌, List, [], ◌∷◌, ◌++◌, Some, None, refl, sym, ap, subst, ◌∙◌, append-nil}
use Rattle.std.specs.List.{last_or, flat_map}
use Rattle.cwr_fields.specs.declared.kinds.Kind.TheVariants.{Hdr, Trl}
use Rattle.cwr_shape.specs.declared.symbols.Symbol.{Symbol}
use Rattle.cwr_shape.specs.declared.symbols.Symbol.TheVariants.{Plain}
use Rattle.cwr_shape.specs.declared.stages.Stage.TheVariants as stages
use Rattle.cwr_shape.specs.Format.Outlines.{group_symbols, IsWhole, Continues}
use Rattle.cwr_shape.specs.Format.AnyTransmission.{Any}
use Rattle.cwr_shape.specs.Steps.Left.{StandsAt}
use Rattle.cwr_shape.proofs.lemmas.StageNames.{stage_after-snoc}
use Rattle.cwr_shape.proofs.lemmas.OneMore.{last_or-snoc}
use Rattle.cwr_shape.proofs.lemmas.StageStands.{stands_leaves}

pub trailer_ends : (xs : List Symbol) → Continues Any (xs ++ Plain Trl ∷ []) → IsWhole (xs ++ Plain Trl ∷ [])
trailer_ends xs g =
    let ys : List Symbol = xs ++ Plain Trl ∷ [] in
    let stands : StandsAt ys stages.Ended = record { begins = g; named = sym (stage_after-snoc xs (Plain Trl) refl) } in
    subst IsWhole (append-nil ys) (((stands_leaves ys stages.Ended stands).leaves []).1 ([], refl, tt))

last_is : (xs : List Symbol) (s : Symbol) → IsWhole (xs ++ s ∷ []) → Some s ≡ Some (Plain Trl)
last_is xs s w =
    sym (last_or-snoc None xs s) ∙ ap (last_or None) w.2 ∙ last_or-snoc None (Plain Hdr ∷ flat_map group_symbols w.0) (Plain Trl)

pub whole_ends : (xs : List Symbol) (s : Symbol) → IsWhole (xs ++ s ∷ []) → s ≡ Plain Trl
whole_ends xs s w = let same = last_is xs s w in cc same
