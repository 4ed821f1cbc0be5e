-- Behind a whole transaction of the open group's type the group may end.
use Rattle.std.proofs.Common.{◌≡◌, List, [], ◌∷◌, ◌++◌, inl, inr, refl, sym, subst, ◌∙◌, arith, append_assoc, append-nil}
use Rattle.cwr_fields.specs.declared.codes.TransactionType.{TransactionType}
use Rattle.cwr_fields.specs.declared.kinds.Kind.{Kind}
use Rattle.cwr_fields.specs.declared.kinds.Kind.TheVariants as kinds
use Rattle.cwr_shape.specs.declared.symbols.Symbol.{Symbol}
use Rattle.cwr_shape.specs.declared.symbols.Symbol.TheVariants.{Plain}
use Rattle.cwr_shape.specs.declared.stages.Stage.{Stage}
use Rattle.cwr_shape.specs.declared.stages.Stage.TheVariants as stages
use Rattle.cwr_shape.specs.declared.stages.TransactionStep.{TransactionStep}
use Rattle.cwr_shape.specs.declared.stages.TransactionStep.TheVariants as steps
use Rattle.cwr_shape.specs.Format.Shapes.{Pattern, many, Matches, IsShape, pattern_of, a}
use Rattle.cwr_shape.specs.Format.Outlines.{IsWhole, Continues}
use Rattle.cwr_shape.specs.Format.AnyTransmission.{Any}
use Rattle.cwr_shape.specs.Steps.Left.{StandsAt, left, left_of, any_group, rest_of, closing}
use Rattle.cwr_shape.specs.Format.NextSymbols.{open_type}
use Rattle.cwr_shape.proofs.lemmas.StageStands.{stands_leaves}
use Rattle.cwr_shape.proofs.lemmas.TallySteps.{stands_type}
use Rattle.cwr_encode.specs.declared.encoders.Reached.TheVariants as reached_to
use Rattle.cwr_encode.specs.Format.Encoders.{reached, IsInGroup, IsBetween}
use Rattle.cwr_encode.specs.Steps.Encoders.{reached_at}
use Rattle.cwr_encode.proofs.lemmas.Comes.{reached_stands, ending_at, Ending}

-- GRT and TRL
abbrev pub foot_and_trailer : List Symbol
foot_and_trailer = Plain kinds.Grt ∷ Plain kinds.Trl ∷ []

many_none : (p : Pattern) → Matches (many p) []
many_none p = ([], refl, tt)

one : (kind : Kind) → Matches (a kind) (Plain kind ∷ [])
one kind = (Plain kind, (0, (omega arith, refl)), refl)

closes : Matches closing (Plain kinds.Trl ∷ [])
closes = let none = many_none any_group in let last = one kinds.Trl in ([], Plain kinds.Trl ∷ [], refl, none, last)

-- the group ends, and the transmission with it
ends_now : (ty : TransactionType) → Matches (rest_of ty) foot_and_trailer
ends_now ty =
    let none = many_none (pattern_of ty) in
    let foot = one kinds.Grt in
    ([], foot_and_trailer, refl, none, (Plain kinds.Grt ∷ [], Plain kinds.Trl ∷ [], refl, foot, closes))

-- one more transaction, and then they end
ends_after : (ty : TransactionType) (t : List Symbol) → IsShape ty t → Matches (rest_of ty) (t ++ foot_and_trailer)
ends_after ty t shape =
    let foot = one kinds.Grt in (
      t,
      foot_and_trailer,
      refl,
      (t ∷ [], sym (append-nil t), (shape, tt)),
      (Plain kinds.Grt ∷ [], Plain kinds.Trl ∷ [], refl, foot, closes),
    )

-- a transaction that may end is whole as it is
whole_now : (ty : TransactionType) (step : TransactionStep) → Ending (stages.Within ty step) → Matches (left_of step) []
whole_now ty steps.Acked e = ([], [], refl, ([], refl, tt), inl ([], refl, tt))
whole_now ty steps.Both e = ([], [], refl, (inr (([], refl, tt)), inr (([], refl, tt))), ([], refl, tt))
whole_now ty steps.Writer e = ([], [], refl, ([], refl, tt), ([], [], refl, ([], refl, tt), ([], refl, tt)))
whole_now ty steps.OtherWriter e = ([], [], refl, ([], refl, tt), ([], [], refl, ([], refl, tt), ([], refl, tt)))
whole_now ty steps.Tail e = ([], refl, tt)
whole_now ty steps.InGroup e = absurd (cc e.inside)
whole_now ty step e = absurd (cc e.goes)

-- what the whole transmission that ends so says
ends_whole : (xs t : List Symbol) → IsWhole (xs ++ (t ++ foot_and_trailer)) → Continues Any ((xs ++ t) ++ Plain kinds.Grt ∷ [])
ends_whole xs t w = (
  w.0,
  w.1,
  tt,
  (
    Plain kinds.Trl ∷ [],
    sym w.2 ∙ sym (append_assoc xs t foot_and_trailer)
        ∙ sym (append_assoc (xs ++ t) (Plain kinds.Grt ∷ []) (Plain kinds.Trl ∷ [])),
  ),
)

pub takes : (xs t : List Symbol) (stage : Stage) (ty : TransactionType) → StandsAt xs stage → open_type xs ≡ ty
    → IsInGroup (reached xs) → IsBetween xs → IsShape ty t → Continues Any ((xs ++ t) ++ Plain kinds.Grt ∷ [])
takes xs t stage ty st same inside between shape = by stage st (subst IsInGroup (sym (reached_stands xs stage st)) inside)
  where
    later : (u : TransactionType) (step : TransactionStep) → StandsAt xs (stages.Within u step)
        → reached_at (stages.Within u step) ≡ reached_to.Inside
        → (Matches (left_of step) [] → Matches (left (stages.Within u step)) (t ++ foot_and_trailer))
        → Continues Any ((xs ++ t) ++ Plain kinds.Grt ∷ [])
    later u step s r f =
        let goes = between (sym (reached_stands xs (stages.Within u step) s) ∙ r) in
        ends_whole xs t (((stands_leaves xs (stages.Within u step) s).leaves (t ++ foot_and_trailer)).1
        (f (whole_now u step (ending_at xs (stages.Within u step) s goes))))

    by : (g : Stage) → StandsAt xs g → IsInGroup (reached_at g) → Continues Any ((xs ++ t) ++ Plain kinds.Grt ∷ [])
    by stages.Start s k = absurd k
    by stages.Opened s k = absurd k
    by stages.Closed s k = absurd k
    by stages.Ended s k = absurd k
    by (stages.Within u steps.InGroup) s k =
        let e : u ≡ ty = stands_type xs u steps.InGroup s ∙ same in
        let own : IsShape u t = subst (λ (v : TransactionType). IsShape v t) (sym e) shape in
        let now = ends_now u in
        ends_whole xs t (((stands_leaves xs (stages.Within u steps.InGroup) s).leaves (t ++ foot_and_trailer)).1
        (t, foot_and_trailer, refl, own, now))
    by (stages.Within u step) s k =
        let e : u ≡ ty = stands_type xs u step s ∙ same in
        let own : IsShape u t = subst (λ (v : TransactionType). IsShape v t) (sym e) shape in
        let after = ends_after u t own in
        later u step s refl (λ m. ([], t ++ foot_and_trailer, refl, m, after))
