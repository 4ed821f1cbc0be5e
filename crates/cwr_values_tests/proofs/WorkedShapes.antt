-- Symbols that are a transaction, and symbols that are none.
use Rattle.std.proofs.Common.{◌≡◌, ◌<◌, List, [], ◌∷◌, ◌++◌, length, refl, sym, subst, ◌∙◌, append_assoc, arith}
use Rattle.std.specs.List.{AllByRecursion, flat_map}
use Rattle.cwr_fields.specs.declared.codes.Role.TheVariants.{Assignor, Acquirer}
use Rattle.cwr_fields.specs.declared.codes.TransactionType.{TransactionType}
use Rattle.cwr_fields.specs.declared.codes.TransactionType.TheVariants.{Agreement, NewWork, RevisedWork, Acknowledgement}
use Rattle.cwr_fields.specs.declared.kinds.Kind.{Kind}
use Rattle.cwr_fields.specs.declared.kinds.Kind.TheVariants.{Hdr, Grt, Trl, Agr, Ter, Nwr, Rev, Spu, Opu, Spt, Swr, Owr, Swt, Pwr}
use Rattle.cwr_fields.specs.declared.kinds.Kind.TheVariants.{Alt, Ewt, Per, Rec, Ack, Msg, Npa, Ind, Ari}
use Rattle.cwr_shape.specs.declared.symbols.Symbol.{Symbol}
use Rattle.cwr_shape.specs.declared.symbols.Symbol.TheVariants.{Plain, Ipa, Grh}
use Rattle.cwr_shape.specs.Format.Shapes.{IsShape, pattern_of, BeginsShape}
use Rattle.cwr_shape.specs.Format.Outlines.{Continues, group_symbols}
use Rattle.cwr_shape.proofs.lemmas.Matcher.{accepts_sound, no_match, no_begin, nullable, after, after_all, is_dead}

abbrev p : Kind → Symbol
p = Plain

many_kinds : IsShape NewWork (p Nwr ∷ p Spu ∷ p Spt ∷ p Opu ∷ p Swr ∷ p Swt ∷ p Pwr ∷ p Owr ∷ p Alt ∷ p Per ∷ p Rec ∷ [])
unfolding nullable after after_all
many_kinds = accepts_sound _ (pattern_of NewWork) refl

other_order : IsShape NewWork (p Nwr ∷ p Spu ∷ p Spt ∷ p Opu ∷ p Swr ∷ p Swt ∷ p Pwr ∷ p Owr ∷ p Rec ∷ p Per ∷ p Alt ∷ [])
unfolding nullable after after_all
other_order = accepts_sound _ (pattern_of NewWork) refl

two_blocks : IsShape Agreement (p Agr ∷ p Ter ∷ Ipa Assignor ∷ Ipa Acquirer ∷ p Ter ∷ Ipa Acquirer ∷ Ipa Assignor ∷ [])
unfolding nullable after after_all
two_blocks = accepts_sound _ (pattern_of Agreement) refl

-- records that are carried as text, at some places
carried_in_a_work : IsShape NewWork (p Nwr ∷ p Ind ∷ p Spu ∷ p Ari ∷ p Spt ∷ p Swr ∷ p Ind ∷ p Alt ∷ p Ari ∷ [])
unfolding nullable after after_all
carried_in_a_work = accepts_sound _ (pattern_of NewWork) refl

carried_in_an_agreement : IsShape Agreement (p Agr ∷ p Npa ∷ p Ter ∷ Ipa Assignor ∷ p Npa ∷ Ipa Acquirer ∷ p Npa ∷ [])
unfolding nullable after after_all
carried_in_an_agreement = accepts_sound _ (pattern_of Agreement) refl

-- but not before a header, nor in an acknowledgement; and they don't stand for a writer, nor let one come late
carried_first : (rest : List Symbol) → ¬ IsShape NewWork (p Ind ∷ rest)
unfolding nullable after after_all is_dead
carried_first rest = no_begin (p Ind ∷ []) rest (pattern_of NewWork) refl

carried_message : (rest : List Symbol) → ¬ IsShape Acknowledgement (p Ack ∷ p Ari ∷ rest)
unfolding nullable after after_all is_dead
carried_message rest = no_begin (p Ack ∷ p Ari ∷ []) rest (pattern_of Acknowledgement) refl

carried_for_a_writer : ¬ IsShape NewWork (p Nwr ∷ p Ind ∷ [])
unfolding nullable after after_all
carried_for_a_writer = no_match _ (pattern_of NewWork) refl

writer_after_carried : (rest : List Symbol) → ¬ IsShape NewWork ((p Nwr ∷ p Swr ∷ p Alt ∷ p Ind ∷ p Swr ∷ []) ++ rest)
unfolding nullable after after_all is_dead
writer_after_carried rest = no_begin (p Nwr ∷ p Swr ∷ p Alt ∷ p Ind ∷ p Swr ∷ []) rest (pattern_of NewWork) refl

revised : IsShape RevisedWork (p Rev ∷ p Swr ∷ [])
unfolding nullable after after_all
revised = accepts_sound _ (pattern_of RevisedWork) refl

acknowledged : IsShape Acknowledgement (p Ack ∷ p Msg ∷ p Msg ∷ [])
unfolding nullable after after_all
acknowledged = accepts_sound _ (pattern_of Acknowledgement) refl

-- with the copy of a work, or of an agreement with a carried record
copied_work : IsShape Acknowledgement (p Ack ∷ p Msg ∷ p Nwr ∷ p Swr ∷ [])
unfolding nullable after after_all
copied_work = accepts_sound _ (pattern_of Acknowledgement) refl

copied_agreement : IsShape Acknowledgement (p Ack ∷ p Agr ∷ p Npa ∷ p Ter ∷ Ipa Assignor ∷ Ipa Acquirer ∷ [])
unfolding nullable after after_all
copied_agreement = accepts_sound _ (pattern_of Acknowledgement) refl

-- but no second copy, no message after it, and none that isn't whole
second_copy : (rest : List Symbol) → ¬ IsShape Acknowledgement ((p Ack ∷ p Nwr ∷ p Swr ∷ p Nwr ∷ []) ++ rest)
unfolding nullable after after_all is_dead
second_copy rest = no_begin (p Ack ∷ p Nwr ∷ p Swr ∷ p Nwr ∷ []) rest (pattern_of Acknowledgement) refl

late_message : (rest : List Symbol) → ¬ IsShape Acknowledgement ((p Ack ∷ p Nwr ∷ p Swr ∷ p Msg ∷ []) ++ rest)
unfolding nullable after after_all is_dead
late_message rest = no_begin (p Ack ∷ p Nwr ∷ p Swr ∷ p Msg ∷ []) rest (pattern_of Acknowledgement) refl

copy_begun : ¬ IsShape Acknowledgement (p Ack ∷ p Agr ∷ p Ter ∷ Ipa Assignor ∷ [])
unfolding nullable after after_all
copy_begun = no_match _ (pattern_of Acknowledgement) refl

-- a block of one side is none
one_side : ¬ IsShape Agreement (p Agr ∷ p Ter ∷ Ipa Assignor ∷ Ipa Assignor ∷ [])
unfolding nullable after after_all
one_side = no_match _ (pattern_of Agreement) refl

one_side_of_two : ¬ IsShape Agreement (p Agr ∷ p Ter ∷ Ipa Assignor ∷ Ipa Acquirer ∷ p Ter ∷ Ipa Assignor ∷ [])
unfolding nullable after after_all
one_side_of_two = no_match _ (pattern_of Agreement) refl

bare_work : ¬ IsShape NewWork (p Nwr ∷ [])
unfolding nullable after after_all
bare_work = no_match _ (pattern_of NewWork) refl

no_writer : ¬ IsShape NewWork (p Nwr ∷ p Spu ∷ [])
unfolding nullable after after_all
no_writer = no_match _ (pattern_of NewWork) refl

-- a publisher after a writer begins nothing, nor a writer after a title
late_publisher : (rest : List Symbol) → ¬ IsShape NewWork ((p Nwr ∷ p Swr ∷ p Spu ∷ []) ++ rest)
unfolding nullable after after_all is_dead
late_publisher rest = no_begin (p Nwr ∷ p Swr ∷ p Spu ∷ []) rest (pattern_of NewWork) refl

late_writer : (rest : List Symbol) → ¬ IsShape NewWork ((p Nwr ∷ p Swr ∷ p Ewt ∷ p Swr ∷ []) ++ rest)
unfolding nullable after after_all is_dead
late_writer rest = no_begin (p Nwr ∷ p Swr ∷ p Ewt ∷ p Swr ∷ []) rest (pattern_of NewWork) refl

no_swt_after_owr : (rest : List Symbol) → ¬ IsShape NewWork ((p Nwr ∷ p Owr ∷ p Swt ∷ []) ++ rest)
unfolding nullable after after_all is_dead
no_swt_after_owr rest = no_begin (p Nwr ∷ p Owr ∷ p Swt ∷ []) rest (pattern_of NewWork) refl

wrong_header : (rest : List Symbol) → ¬ IsShape NewWork (p Rev ∷ rest)
unfolding nullable after after_all is_dead
wrong_header rest = no_begin (p Rev ∷ []) rest (pattern_of NewWork) refl

-- a writer's record begins no transaction
no_begin_by_writer : ¬ BeginsShape (p Swr ∷ [])
unfolding nullable after after_all is_dead
no_begin_by_writer (Agreement, rest, m) = no_begin (p Swr ∷ []) rest (pattern_of Agreement) refl m
no_begin_by_writer (NewWork, rest, m) = no_begin (p Swr ∷ []) rest (pattern_of NewWork) refl m
no_begin_by_writer (RevisedWork, rest, m) = no_begin (p Swr ∷ []) rest (pattern_of RevisedWork) refl m
no_begin_by_writer (Acknowledgement, rest, m) = no_begin (p Swr ∷ []) rest (pattern_of Acknowledgement) refl m

-- no transmission begins with two headers
two_headers : ¬ Continues (λ groups. Unit {0}) (p Hdr ∷ p Hdr ∷ [])
two_headers ([], w, q, b) = absurd (omega (arith, w.0))
two_headers (g ∷ groups, w, q, b) = let second : Grh g.ty ≡ p Hdr = cc (b.1) in cc second

-- nor does a group of new works with a revised one
revised_among_new : ¬ Continues (λ groups. Unit {0}) (p Hdr ∷ Grh NewWork ∷ p Rev ∷ [])
unfolding nullable after after_all is_dead
revised_among_new ([], w, q, b) = absurd (omega (arith, w.0))
revised_among_new (g ∷ groups, w, q, b) = by g.ty g.transactions w.1.0.0 w.1.0.1 (cc (b.1)) (cc (b.1))
  where
    inside : (ts : List (List Symbol)) (rest : List Symbol) (more : List Symbol) → 0 < length ts
        → AllByRecursion (IsShape NewWork) ts → (flat_map (λ t. t) ts ++ more) ≡ p Rev ∷ rest → ⊥
    inside [] rest more h k e = absurd (omega arith)
    inside ([] ∷ ts) rest more h k e = no_match [] (pattern_of NewWork) refl k.0
    inside ((s ∷ t) ∷ ts) rest more h k e =
        let same : s ≡ p Rev = cc e in
        no_begin (p Rev ∷ []) t (pattern_of NewWork) refl (subst (λ (x : Symbol). IsShape NewWork (x ∷ t)) same k.0)

    by : (ty : TransactionType) (ts : List (List Symbol)) → 0 < length ts → AllByRecursion (IsShape ty) ts → ty ≡ NewWork
        → (((flat_map (λ t. t) ts ++ p Grt ∷ []) ++ flat_map group_symbols groups) ++ p Trl ∷ []) ≡ p Rev ∷ b.0 → ⊥
    by ty ts h k e f =
        inside ts b.0 (p Grt ∷ (flat_map group_symbols groups ++ p Trl ∷ [])) h (subst (λ (u : TransactionType). AllByRecursion
        (IsShape u) ts) e k) (sym (append_assoc (flat_map (λ t. t) ts ++ p Grt ∷ []) (flat_map group_symbols groups) (p Trl ∷ [])
        ∙ append_assoc (flat_map (λ t. t) ts) (p Grt ∷ []) (flat_map group_symbols groups ++ p Trl ∷ [])) ∙ f)
