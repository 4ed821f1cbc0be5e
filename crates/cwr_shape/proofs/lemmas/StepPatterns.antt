-- What is left of a transaction at each step, and that the table of steps follows it.
use Rattle.std.proofs.Common.{◌≡◌, Bool, true, ◌&&◌, List, [], ◌∷◌, ◌++◌, Option, Some, None, refl, sym, ap, subst, ◌∙◌}
use Rattle.std.proofs.Common.{true≢false, append_assoc, append-nil}
use Rattle.std.specs.Prelude.{◌↔◌, IsSome, IfSome, IsTrue, is_some}
use Rattle.std.specs.List.{list_all}
use Rattle.std.proofs.lemmas.Bool.{and_parts}
use Rattle.cwr_fields.specs.declared.codes.Role.TheVariants.{Assignor, Acquirer}
use Rattle.cwr_fields.specs.declared.codes.TransactionType.{TransactionType}
use Rattle.cwr_fields.specs.declared.codes.TransactionType.TheVariants.{Agreement, NewWork, RevisedWork, Acknowledgement}
use Rattle.cwr_fields.specs.declared.kinds.Kind.TheVariants as kinds
use Rattle.cwr_shape.specs.declared.symbols.Symbol.{Symbol}
use Rattle.cwr_shape.specs.declared.symbols.Symbol.TheVariants.{Plain, Ipa}
use Rattle.cwr_shape.specs.declared.stages.TransactionStep.{TransactionStep}
use Rattle.cwr_shape.specs.declared.stages.TransactionStep.TheVariants as steps
use Rattle.cwr_shape.specs.Format.Shapes.{Pattern, Matches, pattern_of, IsShape}
use Rattle.cwr_shape.specs.Steps.NextStages.{header_step, step_on, may_end}
use Rattle.cwr_shape.specs.Steps.Left.{left_of, is_inside, StandsAtStep, ContinuesIn}
use Rattle.cwr_shape.proofs.lemmas.Matcher.{nullable, nullable_sound, nullable_complete, after, after_all, is_dead, dead_sound}
use Rattle.cwr_shape.proofs.lemmas.Matcher.{accepts_sound}
use Rattle.cwr_shape.proofs.lemmas.NormalForms.{same_list, same, same_sound, seq, contains, insert, alt, both, carry, norm, norm_alike}
use Rattle.cwr_shape.proofs.lemmas.NormalForms.{follows}
use Rattle.cwr_shape.proofs.lemmas.AllSymbols.{all_symbols, of_each}
use Rattle.cwr_shape.proofs.lemmas.StepNames.{first_named, on_named}

-- what the pattern leaves is what is left at the step; no step, and nothing is
unfoldable leads_in : Option TransactionStep → Pattern → Bool
leads_in None p = is_dead p
leads_in (Some step) p = same p (norm (left_of step)) && is_inside step

unfoldable first_follows : TransactionType → Symbol → Bool
first_follows ty s = leads_in (header_step ty s) (norm (after s (pattern_of ty)))

unfoldable step_follows : TransactionStep → Symbol → Bool
step_follows step s = leads_in (step_on step s) (norm (after s (left_of step)))

agreement_first : list_all (first_follows Agreement) all_symbols ≡ true
unfolding first_follows leads_in nullable after is_dead same_list same seq contains insert alt both carry norm
agreement_first = refl

newwork_first : list_all (first_follows NewWork) all_symbols ≡ true
unfolding first_follows leads_in nullable after is_dead same_list same seq contains insert alt both carry norm
newwork_first = refl

revisedwork_first : list_all (first_follows RevisedWork) all_symbols ≡ true
unfolding first_follows leads_in nullable after is_dead same_list same seq contains insert alt both carry norm
revisedwork_first = refl

acknowledgement_first : list_all (first_follows Acknowledgement) all_symbols ≡ true
unfolding first_follows leads_in nullable after is_dead same_list same seq contains insert alt both carry norm
acknowledgement_first = refl

first_follow : (ty : TransactionType) → list_all (first_follows ty) all_symbols ≡ true
first_follow Agreement = agreement_first
first_follow NewWork = newwork_first
first_follow RevisedWork = revisedwork_first
first_follow Acknowledgement = acknowledgement_first

agreed_on : list_all (step_follows steps.Agreed) all_symbols ≡ true
unfolding step_follows leads_in nullable after is_dead same_list same seq contains insert alt both carry norm
agreed_on = refl

territories_on : list_all (step_follows steps.Territories) all_symbols ≡ true
unfolding step_follows leads_in nullable after is_dead same_list same seq contains insert alt both carry norm
territories_on = refl

side_assignor_on : list_all (step_follows (steps.OneSide Assignor)) all_symbols ≡ true
unfolding step_follows leads_in nullable after is_dead same_list same seq contains insert alt both carry norm
side_assignor_on = refl

side_acquirer_on : list_all (step_follows (steps.OneSide Acquirer)) all_symbols ≡ true
unfolding step_follows leads_in nullable after is_dead same_list same seq contains insert alt both carry norm
side_acquirer_on = refl

both_on : list_all (step_follows steps.Both) all_symbols ≡ true
unfolding step_follows leads_in nullable after is_dead same_list same seq contains insert alt both carry norm
both_on = refl

work_on : list_all (step_follows steps.Work) all_symbols ≡ true
unfolding step_follows leads_in nullable after is_dead same_list same seq contains insert alt both carry norm
work_on = refl

controlled_on : list_all (step_follows steps.Controlled) all_symbols ≡ true
unfolding step_follows leads_in nullable after is_dead same_list same seq contains insert alt both carry norm
controlled_on = refl

other_on : list_all (step_follows steps.Other) all_symbols ≡ true
unfolding step_follows leads_in nullable after is_dead same_list same seq contains insert alt both carry norm
other_on = refl

writer_on : list_all (step_follows steps.Writer) all_symbols ≡ true
unfolding step_follows leads_in nullable after is_dead same_list same seq contains insert alt both carry norm
writer_on = refl

otherwriter_on : list_all (step_follows steps.OtherWriter) all_symbols ≡ true
unfolding step_follows leads_in nullable after is_dead same_list same seq contains insert alt both carry norm
otherwriter_on = refl

tail_on : list_all (step_follows steps.Tail) all_symbols ≡ true
unfolding step_follows leads_in nullable after is_dead same_list same seq contains insert alt both carry norm
tail_on = refl

acked_on : list_all (step_follows steps.Acked) all_symbols ≡ true
unfolding step_follows leads_in nullable after is_dead same_list same seq contains insert alt both carry norm
acked_on = refl

step_follow : (step : TransactionStep) → is_inside step ≡ true → list_all (step_follows step) all_symbols ≡ true
step_follow steps.Agreed h = agreed_on
step_follow steps.Territories h = territories_on
step_follow (steps.OneSide Assignor) h = side_assignor_on
step_follow (steps.OneSide Acquirer) h = side_acquirer_on
step_follow steps.Both h = both_on
step_follow steps.Work h = work_on
step_follow steps.Controlled h = controlled_on
step_follow steps.Other h = other_on
step_follow steps.Writer h = writer_on
step_follow steps.OtherWriter h = otherwriter_on
step_follow steps.Tail h = tail_on
step_follow steps.Acked h = acked_on
step_follow steps.InGroup h = absurd (true≢false (sym h))

first_led : (ty : TransactionType) (s : Symbol) → leads_in (header_step ty s) (norm (after s (pattern_of ty))) ≡ true
unfolding first_follows
first_led ty s = of_each (first_follows ty) s (first_follow ty)

step_led : (step : TransactionStep) (s : Symbol) → is_inside step ≡ true
    → leads_in (step_on step s) (norm (after s (left_of step))) ≡ true
unfolding step_follows
step_led step s real = of_each (step_follows step) s (step_follow step real)

-- what follows a symbol is what is left at a step
record GoesIn (o : Option TransactionStep) (xs : List Symbol) : Type 0 where
  pub to : TransactionStep
  pub is : o ≡ Some to
  pub real : is_inside to ≡ true
  pub left_there : Matches (left_of to) xs

led_on : (p : Pattern) (xs : List Symbol) (o : Option TransactionStep) → leads_in o (norm p) ≡ true → Matches (norm p) xs
    → GoesIn o xs
unfolding leads_in
led_on p xs None h m = absurd (dead_sound (norm p) xs h m)
led_on p xs (Some to) h m =
    let b = and_parts (same (norm p) (norm (left_of to))) (is_inside to) h in
    record {
      to = to;
      is = refl;
      real = b.1;
      left_there =
          (norm_alike (left_of to) xs).0 (subst (λ (q : Pattern). Matches q xs) (same_sound (norm p) (norm (left_of to)) b.0) m);
    }

led_real : (p : Pattern) (to : TransactionStep) (o : Option TransactionStep) → o ≡ Some to → leads_in o (norm p) ≡ true
    → is_inside to ≡ true
unfolding leads_in
led_real p to None e h = absurd (none_is_some to e)
  where
    none_is_some : (x : TransactionStep) → None ≡ Some x → ⊥
    none_is_some x k = cc k
led_real p to (Some other) e h =
    let there : other ≡ to =
    cc e in subst (λ (t : TransactionStep). is_inside t ≡ true) there
    (and_parts (same (norm p) (norm (left_of other))) (is_inside other) h).1

led_back : (p : Pattern) (xs : List Symbol) (to : TransactionStep) (o : Option TransactionStep) → o ≡ Some to
    → leads_in o (norm p) ≡ true → Matches (left_of to) xs → Matches (norm p) xs
unfolding leads_in
led_back p xs to None e h m = absurd (none_is_some to e)
  where
    none_is_some : (x : TransactionStep) → None ≡ Some x → ⊥
    none_is_some x k = cc k
led_back p xs to (Some other) e h m =
    let b = and_parts (same (norm p) (norm (left_of other))) (is_inside other) h in
    let there : other ≡ to = cc e in
    subst (λ (q : Pattern). Matches q xs) (sym (same_sound (norm p) (norm (left_of other)) b.0))
    ((norm_alike (left_of other) xs).1 (subst (λ (t : TransactionStep). Matches (left_of t) xs) (sym there) m))

-- something is left at each step
left_in : (step : TransactionStep) → is_inside step ≡ true → (rest : List Symbol) × Matches (left_of step) rest
unfolding nullable after after_all
left_in steps.Acked h = ([], accepts_sound [] (left_of steps.Acked) refl)
left_in steps.Agreed h = (
  Plain kinds.Ter ∷ Ipa Assignor ∷ Ipa Acquirer ∷ [],
  accepts_sound (Plain kinds.Ter ∷ Ipa Assignor ∷ Ipa Acquirer ∷ []) (left_of steps.Agreed) refl,
)
left_in steps.Territories h =
    (Ipa Assignor ∷ Ipa Acquirer ∷ [], accepts_sound (Ipa Assignor ∷ Ipa Acquirer ∷ []) (left_of steps.Territories) refl)
left_in (steps.OneSide Assignor) h =
    (Ipa Acquirer ∷ [], accepts_sound (Ipa Acquirer ∷ []) (left_of (steps.OneSide Assignor)) refl)
left_in (steps.OneSide Acquirer) h =
    (Ipa Assignor ∷ [], accepts_sound (Ipa Assignor ∷ []) (left_of (steps.OneSide Acquirer)) refl)
left_in steps.Both h = ([], accepts_sound [] (left_of steps.Both) refl)
left_in steps.Work h = (Plain kinds.Swr ∷ [], accepts_sound (Plain kinds.Swr ∷ []) (left_of steps.Work) refl)
left_in steps.Controlled h = (Plain kinds.Swr ∷ [], accepts_sound (Plain kinds.Swr ∷ []) (left_of steps.Controlled) refl)
left_in steps.Other h = (Plain kinds.Swr ∷ [], accepts_sound (Plain kinds.Swr ∷ []) (left_of steps.Other) refl)
left_in steps.Writer h = ([], accepts_sound [] (left_of steps.Writer) refl)
left_in steps.OtherWriter h = ([], accepts_sound [] (left_of steps.OtherWriter) refl)
left_in steps.Tail h = ([], accepts_sound [] (left_of steps.Tail) refl)
left_in steps.InGroup h = absurd (true≢false (sym h))

-- where a transaction may end, nothing may be left
ends_led : (step : TransactionStep) → is_inside step ≡ true → nullable (left_of step) ≡ may_end step
unfolding nullable
ends_led steps.Acked h = refl
ends_led steps.Agreed h = refl
ends_led steps.Territories h = refl
ends_led (steps.OneSide Assignor) h = refl
ends_led (steps.OneSide Acquirer) h = refl
ends_led steps.Both h = refl
ends_led steps.Work h = refl
ends_led steps.Controlled h = refl
ends_led steps.Other h = refl
ends_led steps.Writer h = refl
ends_led steps.OtherWriter h = refl
ends_led steps.Tail h = refl
ends_led steps.InGroup h = absurd (true≢false (sym h))

goes_by : (o : Option TransactionStep) (xs : List Symbol) → GoesIn o xs → IsSome o
goes_by o xs g = ap is_some g.is

one_step : (x y : TransactionStep) → Some x ≡ Some y → x ≡ y
one_step x y e = cc e

-- symbols that stand in a transaction of the type begin one
pub stands_goes : (ty : TransactionType) (xs : List Symbol) (step : TransactionStep) → StandsAtStep ty xs step → ContinuesIn ty xs
stands_goes ty xs step st = let rest = left_in step st.inside in (rest.0, (st.leaves rest.0).1 rest.1)

-- a transaction begins by its header
first_begins : (ty : TransactionType) (s : Symbol) (o : Option TransactionStep) → header_step ty s ≡ o → IsSome o
    → ContinuesIn ty (s ∷ [])
first_begins ty s None e some = absurd (true≢false (sym some))
first_begins ty s (Some to) e some =
    let rest = left_in to (led_real (after s (pattern_of ty)) to (header_step ty s) e (first_led ty s)) in (
      rest.0,
      (follows s (pattern_of ty) rest.0).0
          (led_back (after s (pattern_of ty)) rest.0 to (header_step ty s) e (first_led ty s) rest.1),
    )

pub first_exact : (ty : TransactionType) (s : Symbol) → IsSome (header_step ty s) ↔ ContinuesIn ty (s ∷ [])
first_exact ty s = (
  first_begins ty s (header_step ty s) refl,
  λ g. goes_by (header_step ty s) g.0
      (led_on (after s (pattern_of ty)) g.0 (header_step ty s) (first_led ty s) ((follows s (pattern_of ty) g.0).1 g.1)),
)

pub first_goes : (ty : TransactionType) (s : Symbol) (o : Option TransactionStep) → o ≡ header_step ty s → IsSome o
    ↔ ContinuesIn ty (s ∷ [])
first_goes ty s o e = subst (λ (x : Option TransactionStep). IsSome x ↔ ContinuesIn ty (s ∷ [])) (sym e) (first_exact ty s)

pub first_stands : (ty : TransactionType) (s : Symbol) (o : Option TransactionStep) → o ≡ header_step ty s
    → IfSome o (StandsAtStep ty (s ∷ []))
first_stands ty s None e = tt
first_stands ty s (Some to) e = record {
  inside = led_real (after s (pattern_of ty)) to (header_step ty s) (sym e) (first_led ty s);
  named = first_named ty s to (sym e);
  leaves = λ rest. (
    λ m. let on =
        led_on (after s (pattern_of ty)) rest (header_step ty s) (first_led ty s) ((follows s (pattern_of ty) rest).1 m) in
        subst (λ (t : TransactionStep). Matches (left_of t) rest) (one_step on.to to (sym on.is ∙ sym e)) on.left_there,
    λ m. (follows s (pattern_of ty) rest).0
        (led_back (after s (pattern_of ty)) rest to (header_step ty s) (sym e) (first_led ty s) m),
  );
}

-- and continues by the table
on_begins : (ty : TransactionType) (xs : List Symbol) (step : TransactionStep) (s : Symbol) → StandsAtStep ty xs step
    → (o : Option TransactionStep) → step_on step s ≡ o → IsSome o → ContinuesIn ty (xs ++ s ∷ [])
on_begins ty xs step s st None e some = absurd (true≢false (sym some))
on_begins ty xs step s st (Some to) e some =
    let rest = left_in to (led_real (after s (left_of step)) to (step_on step s) e (step_led step s st.inside)) in
    let m =
    (follows s (left_of step) rest.0).0
    (led_back (after s (left_of step)) rest.0 to (step_on step s) e (step_led step s st.inside) rest.1) in
    (rest.0, subst (IsShape ty) (sym (append_assoc xs (s ∷ []) rest.0)) ((st.leaves (s ∷ rest.0)).1 m))

on_goes : (ty : TransactionType) (xs : List Symbol) (step : TransactionStep) (s : Symbol) (rest : List Symbol)
    → StandsAtStep ty xs step → IsShape ty ((xs ++ s ∷ []) ++ rest) → GoesIn (step_on step s) rest
on_goes ty xs step s rest st shape =
    let m = (st.leaves (s ∷ rest)).0 (subst (IsShape ty) (append_assoc xs (s ∷ []) rest) shape) in
    led_on (after s (left_of step)) rest (step_on step s) (step_led step s st.inside) ((follows s (left_of step) rest).1 m)

pub on_exact : (ty : TransactionType) (xs : List Symbol) (step : TransactionStep) (s : Symbol) (o : Option TransactionStep)
    → o ≡ step_on step s → StandsAtStep ty xs step → IsSome o ↔ ContinuesIn ty (xs ++ s ∷ [])
on_exact ty xs step s o e st =
    subst (λ (x : Option TransactionStep). IsSome x ↔ ContinuesIn ty (xs ++ s ∷ [])) (sym e)
    (on_begins ty xs step s st (step_on step s) refl, λ g. goes_by (step_on step s) g.0 (on_goes ty xs step s g.0 st g.1))

pub on_stands : (ty : TransactionType) (xs : List Symbol) (step : TransactionStep) (s : Symbol) (o : Option TransactionStep)
    → o ≡ step_on step s → StandsAtStep ty xs step → IfSome o (StandsAtStep ty (xs ++ s ∷ []))
on_stands ty xs step s None e st = tt
on_stands ty xs step s (Some to) e st = record {
  inside = led_real (after s (left_of step)) to (step_on step s) (sym e) (step_led step s st.inside);
  named = on_named ty xs step s to (stands_goes ty xs step st) st.named st.inside (sym e);
  leaves = λ rest. (
    λ shape. let on = on_goes ty xs step s rest st shape in
        subst (λ (t : TransactionStep). Matches (left_of t) rest) (one_step on.to to (sym on.is ∙ sym e)) on.left_there,
    λ m. subst (IsShape ty) (sym (append_assoc xs (s ∷ []) rest))
        ((st.leaves (s ∷ rest)).1 ((follows s (left_of step) rest).0
        (led_back (after s (left_of step)) rest to (step_on step s) (sym e) (step_led step s st.inside) m))),
  );
}

-- and is whole where it may end
pub ends_exact : (ty : TransactionType) (xs : List Symbol) (step : TransactionStep) (b : Bool) → b ≡ may_end step
    → StandsAtStep ty xs step → IsTrue b ↔ IsShape ty xs
ends_exact ty xs step b e st = (
  λ h. subst (IsShape ty) (append-nil xs)
      ((st.leaves []).1 (nullable_sound (left_of step) (ends_led step st.inside ∙ sym e ∙ h))),
  λ shape. e ∙ sym (ends_led step st.inside)
      ∙ nullable_complete (left_of step) ((st.leaves []).0 (subst (IsShape ty) (sym (append-nil xs)) shape)),
)
