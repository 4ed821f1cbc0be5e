-- Orders of records without carried ones are those that they were before these were taken.
use Rattle.std.proofs.Common.{◌≡◌, Bool, true, false, not, ◌&&◌, List, [], ◌∷◌, ◌++◌, refl, sym, ap, ap₂, subst, ◌∙◌, inl}
use Rattle.std.proofs.Common.{inr, true≢false, append_assoc, append-nil}
use Rattle.std.specs.Prelude.{◌↔◌}
use Rattle.std.specs.List.{AllByRecursion, list_all}
use Rattle.std.proofs.lemmas.Bool.{and_parts}
use Rattle.std.proofs.lemmas.List.Folds.{list_all-append}
use Rattle.cwr_fields.specs.declared.codes.TransactionType.{TransactionType}
use Rattle.cwr_fields.specs.declared.codes.TransactionType.TheVariants.{Agreement, NewWork, RevisedWork, Acknowledgement}
use Rattle.cwr_fields.specs.declared.kinds.Kind.TheVariants as kinds
use Rattle.cwr_shape.specs.declared.symbols.Symbol.{Symbol}
use Rattle.cwr_shape.specs.declared.symbols.Symbol.TheVariants.{Plain}
use Rattle.cwr_shape.specs.Format.Shapes.{Pattern, one_of, ◌then◌, many, carrying, Matches, is_carried_symbol, without_carried}
use Rattle.cwr_shape.specs.Format.Shapes.{IsShape, a, some, block, publisher, writer, tail_record, copy}
use Rattle.cwr_shape.specs.Format.UncarriedOrder.{IsUncarriedShape, IsUncarriedGroup, IsUncarriedWhole, AreFormer, is_former}
use Rattle.cwr_shape.specs.Format.UncarriedOrder.{uncarried_pattern, IsUncopiedShape, IsUncopiedGroup, IsUncopiedWhole}
use Rattle.cwr_shape.specs.Format.UncarriedOrder.{AreUncopied, is_uncopied}
use Rattle.cwr_shape.specs.Format.Outlines.{GroupOutline, IsGroupOutline, IsWhole}
use Rattle.cwr_shape.proofs.lemmas.Matcher.{without-cons, empty_only}
use Rattle.cwr_shape.proofs.lemmas.HeadFirst.{rest_after_head}
use Rattle.cwr_shape.proofs.lemmas.PrefixFree.{only, matched_pass}

abbrev is_ordered : Symbol → Bool
is_ordered s = not (is_carried_symbol s)

not_carried : (b : Bool) → not b ≡ true → b ≡ false
not_carried true h = absurd (true≢false (sym h))
not_carried false h = refl

-- no symbol is that of a carried record
abbrev HasNoCarried : List Symbol → Type 0
HasNoCarried xs = list_all is_ordered xs ≡ true

-- where none is carried none is taken out
none_out : (xs : List Symbol) → HasNoCarried xs → without_carried xs ≡ xs
none_out [] h = refl
none_out (s ∷ xs) h =
    let parts = and_parts (is_ordered s) (list_all is_ordered xs) h in
    without-cons s xs false (not_carried (is_carried_symbol s) parts.0) ∙ ap (λ (ys : List Symbol). s ∷ ys) (none_out xs parts.1)

-- a header and a pattern, with carried records among it or without
with_carried : (head p : Pattern) (xs : List Symbol) → only is_ordered p ≡ true → Matches (head then p) xs
    → Matches (head then carrying p) xs
with_carried head p xs h m =
    (m.0, m.1, m.2, m.3, subst (Matches p) (sym (none_out m.1 (matched_pass is_ordered p h m.1 m.4))) m.4)

without : (head p : Pattern) (xs : List Symbol) → HasNoCarried xs → Matches (head then carrying p) xs → Matches (head then p) xs
without head p xs h m =
    let all : list_all is_ordered (m.0 ++ m.1) ≡ true = ap (list_all is_ordered) (sym m.2) ∙ h in
    let rest : HasNoCarried m.1 =
    (and_parts (list_all is_ordered m.0) (list_all is_ordered m.1) (sym (list_all-append is_ordered m.0 m.1) ∙ all)).1 in
    (m.0, m.1, m.2, m.3, subst (Matches p) (none_out m.1 rest) m.4)

-- an acknowledgement without a copy
no_copy : (xs : List Symbol) → Matches (a kinds.Ack then many (a kinds.Msg)) xs
    → Matches (a kinds.Ack then many (a kinds.Msg) then copy) xs
no_copy xs m = (m.0, m.1, m.2, m.3, (m.1, [], sym (append-nil m.1), m.4, inl ([], refl, tt)))

-- a header of a copy isn't one of the symbols that pass
begins_copy : (pass : Symbol → Bool) (s : Symbol) (p : Pattern) (front more : List Symbol) → pass s ≡ false
    → Matches (one_of (s ∷ []) then p) more → list_all pass (front ++ more) ≡ true → ⊥
begins_copy pass s p front more e m h =
    let b = rest_after_head s p more m in
    let all : list_all pass (front ++ s ∷ b.0) ≡ true = ap (λ (ys : List Symbol). list_all pass (front ++ ys)) (sym b.1) ∙ h in
    let rest = (and_parts (list_all pass front) (list_all pass (s ∷ b.0)) (sym (list_all-append pass front (s ∷ b.0)) ∙ all)).1 in
    true≢false (sym (and_parts (pass s) (list_all pass b.0) rest).0 ∙ e)

-- no header of a copy passes
record PassesNoCopy (pass : Symbol → Bool) : Type 0 where
  agreement : pass (Plain kinds.Agr) ≡ false
  new_work : pass (Plain kinds.Nwr) ≡ false
  revised_work : pass (Plain kinds.Rev) ≡ false

copy_none : (pass : Symbol → Bool) → PassesNoCopy pass → (front more : List Symbol) → Matches copy more
    → list_all pass (front ++ more) ≡ true → more ≡ []
copy_none pass none_passes front more (inl m) h = empty_only more m
copy_none pass none_passes front more (inr (inl m)) h =
    absurd (begins_copy pass (Plain kinds.Agr) (carrying (some block)) front more none_passes.agreement m h)
copy_none pass none_passes front more (inr (inr (inl m))) h =
    absurd (begins_copy pass (Plain kinds.Nwr) (carrying (many publisher then some writer then many tail_record)) front more
    none_passes.new_work m h)
copy_none pass none_passes front more (inr (inr (inr m))) h =
    absurd (begins_copy pass (Plain kinds.Rev) (carrying (many publisher then some writer then many tail_record)) front more
    none_passes.revised_work m h)

without_copy : (pass : Symbol → Bool) → PassesNoCopy pass → (xs : List Symbol) → list_all pass xs ≡ true
    → Matches (a kinds.Ack then many (a kinds.Msg) then copy) xs → Matches (a kinds.Ack then many (a kinds.Msg)) xs
without_copy pass none_passes xs h m =
    let rest = m.4 in
    let split : xs ≡ (m.0 ++ rest.0) ++ rest.1 =
    m.2 ∙ ap (λ (ys : List Symbol). m.0 ++ ys) rest.2 ∙ sym (append_assoc m.0 rest.0 rest.1) in
    let none : rest.1 ≡ [] = copy_none pass none_passes (m.0 ++ rest.0) rest.1 rest.4 (ap (list_all pass) (sym split) ∙ h) in
    let messages : m.1 ≡ rest.0 = rest.2 ∙ ap (λ (ys : List Symbol). rest.0 ++ ys) none ∙ append-nil rest.0 in
    (m.0, m.1, m.2, m.3, subst (Matches (many (a kinds.Msg))) (sym messages) rest.3)

pub uncarried_forth : (ty : TransactionType) (xs : List Symbol) → IsUncarriedShape ty xs → IsShape ty xs
unfolding only
uncarried_forth Agreement xs m = with_carried (a kinds.Agr) (some block) xs refl m
uncarried_forth NewWork xs m = with_carried (a kinds.Nwr) (many publisher then some writer then many tail_record) xs refl m
uncarried_forth RevisedWork xs m = with_carried (a kinds.Rev) (many publisher then some writer then many tail_record) xs refl m
uncarried_forth Acknowledgement xs m = no_copy xs m

are_former : (ty : TransactionType) → only (is_former ty) (uncarried_pattern ty) ≡ true
unfolding only
are_former Agreement = refl
are_former NewWork = refl
are_former RevisedWork = refl
are_former Acknowledgement = refl

back : (ty : TransactionType) (xs : List Symbol) → AreFormer ty xs → IsShape ty xs → IsUncarriedShape ty xs
back Agreement xs h m = without (a kinds.Agr) (some block) xs h m
back NewWork xs h m = without (a kinds.Nwr) (many publisher then some writer then many tail_record) xs h m
back RevisedWork xs h m = without (a kinds.Rev) (many publisher then some writer then many tail_record) xs h m
back Acknowledgement xs h m =
    without_copy (is_former Acknowledgement) (record { agreement = refl; new_work = refl; revised_work = refl }) xs h m

pub uncarried_exact : (ty : TransactionType) (xs : List Symbol) → IsUncarriedShape ty xs ↔ (IsShape ty xs × AreFormer ty xs)
uncarried_exact ty xs = (
  λ m. (uncarried_forth ty xs m, matched_pass (is_former ty) (uncarried_pattern ty) (are_former ty) xs m),
  λ m. back ty xs m.1 m.0,
)

-- what each of a list has, each has that follows from it
pub all_follow : {X : Type 0} (P Q : X → Type 0) → ((x : X) → P x → Q x) → (xs : List X) → AllByRecursion P xs
    → AllByRecursion Q xs
all_follow P Q f [] h = h
all_follow P Q f (x ∷ xs) h = (f x h.0, all_follow P Q f xs h.1)

group_kept : (g : GroupOutline) → IsUncarriedGroup g → IsGroupOutline g
group_kept g h =
    (h.0, all_follow (IsUncarriedShape g.ty) (IsShape g.ty) (λ t m. ((uncarried_exact g.ty t).0 m).0) g.transactions h.1)

pub whole_kept : (xs : List Symbol) → IsUncarriedWhole xs → IsWhole xs
whole_kept xs h = (h.0, (h.1, all_follow IsUncarriedGroup IsGroupOutline group_kept h.0 h.2), h.3)

-- ---- with carried records

pub uncopied_forth : (ty : TransactionType) (xs : List Symbol) → IsUncopiedShape ty xs → IsShape ty xs
unfolding only
uncopied_forth Agreement xs m = m
uncopied_forth NewWork xs m = m
uncopied_forth RevisedWork xs m = m
uncopied_forth Acknowledgement xs m = no_copy xs m

-- any symbol passes
all_pass : (pass : Symbol → Bool) → ((s : Symbol) → pass s ≡ true) → (xs : List Symbol) → list_all pass xs ≡ true
all_pass pass each [] = refl
all_pass pass each (s ∷ xs) = ap₂ (λ (a b : Bool). a && b) (each s) (all_pass pass each xs)

messages_pass : only (is_uncopied Acknowledgement) (a kinds.Ack then many (a kinds.Msg)) ≡ true
unfolding only
messages_pass = refl

are_uncopied : (ty : TransactionType) (xs : List Symbol) → IsUncopiedShape ty xs → AreUncopied ty xs
are_uncopied Agreement xs m = all_pass (is_uncopied Agreement) (λ s. refl) xs
are_uncopied NewWork xs m = all_pass (is_uncopied NewWork) (λ s. refl) xs
are_uncopied RevisedWork xs m = all_pass (is_uncopied RevisedWork) (λ s. refl) xs
are_uncopied Acknowledgement xs m =
    matched_pass (is_uncopied Acknowledgement) (a kinds.Ack then many (a kinds.Msg)) messages_pass xs m

uncopied_back : (ty : TransactionType) (xs : List Symbol) → AreUncopied ty xs → IsShape ty xs → IsUncopiedShape ty xs
unfolding only
uncopied_back Agreement xs h m = m
uncopied_back NewWork xs h m = m
uncopied_back RevisedWork xs h m = m
uncopied_back Acknowledgement xs h m =
    without_copy (is_uncopied Acknowledgement) (record { agreement = refl; new_work = refl; revised_work = refl }) xs h m

pub uncopied_exact : (ty : TransactionType) (xs : List Symbol) → IsUncopiedShape ty xs ↔ (IsShape ty xs × AreUncopied ty xs)
uncopied_exact ty xs = (λ m. (uncopied_forth ty xs m, are_uncopied ty xs m), λ m. uncopied_back ty xs m.1 m.0)

uncopied_group_kept : (g : GroupOutline) → IsUncopiedGroup g → IsGroupOutline g
uncopied_group_kept g h = (h.0, all_follow (IsUncopiedShape g.ty) (IsShape g.ty) (uncopied_forth g.ty) g.transactions h.1)

pub uncopied_whole_kept : (xs : List Symbol) → IsUncopiedWhole xs → IsWhole xs
uncopied_whole_kept xs h = (h.0, (h.1, all_follow IsUncopiedGroup IsGroupOutline uncopied_group_kept h.0 h.2), h.3)
