-- At the first field that is wrong no transmission within the limits continues from the line.
use Rattle.std.proofs.Common.{◌≡◌, ℕ, zero, suc, ◌<◌, ◌≤◌, Bool, true, false, not, ◌&&◌, ◌||◌, cond, List, [], ◌∷◌, length, take}
use Rattle.std.proofs.Common.{drop, option_map, refl, sym, ap, subst, ◌∙◌, arith, true≢false, ltb, ltb-true}
use Rattle.std.specs.Prelude.{Option, Some, None, IsSomeAnd, slice_get, slice_index, option_and_then, ◌==◌}
use Rattle.std.specs.List.{IsAmong, list_all}
use Rattle.std.proofs.lemmas.Bool.{and_parts, eqb-true}
use Rattle.cwr_fields.specs.declared.cell_types.CellType.{CellType}
use Rattle.cwr_fields.specs.declared.cell_types.CellType.TheVariants as types
use Rattle.cwr_fields.specs.declared.codes.Role.{Role}
use Rattle.cwr_fields.specs.declared.codes.TransactionType.{TransactionType}
use Rattle.cwr_fields.specs.Format.Bytes.{digits}
use Rattle.cwr_fields.specs.Format.Cells.{Allows}
use Rattle.cwr_fields.proofs.lemmas.Digits.{length-digits}
use Rattle.cwr_fields.proofs.lemmas.Spellings.{are_digits-digits, number_spelled}
use Rattle.cwr_fields.specs.declared.kinds.Kind.{Kind}
use Rattle.cwr_fields.specs.declared.kinds.Kind.TheVariants as kinds
use Rattle.cwr_fields.specs.Format.Layouts.{FieldLayout, layout, fields_after_type}
use Rattle.cwr_lines.specs.Format.Records.{IsGoodCell, rest_if}
use Rattle.cwr_lines.specs.Format.GoodCells.{AreGood}
use Rattle.cwr_lines.specs.Steps.Held.{HeldLine, IsCutAs, held_kind, held_cell, held_cells, held_excess}
use Rattle.cwr_lines.proofs.lemmas.HeldLaws.{length-held_cell}
use Rattle.cwr_shape.specs.declared.symbols.Symbol.{Symbol}
use Rattle.cwr_shape.specs.declared.symbols.Symbol.TheVariants.{Ipa, Grh}
use Rattle.cwr_shape.specs.declared.limits.LimitKind.TheVariants as limit_kinds
use Rattle.cwr_shape.specs.declared.reasons.Reason.{Reason}
use Rattle.cwr_shape.specs.declared.reasons.Reason.TheVariants as reasons
use Rattle.cwr_shape.specs.declared.tallies.Bar.{Bar}
use Rattle.cwr_shape.specs.declared.tallies.Bar.TheVariants as bars
use Rattle.cwr_shape.specs.Format.Ranges.{LimitValues}
use Rattle.cwr_shape.specs.Format.Candidates.{candidates, role_in, type_in, parties_of, groups_of}
use Rattle.cwr_shape.specs.Format.NextSymbols.{open_type, counts_of, MayCome, IsBarred, IsBarredAmong}
use Rattle.cwr_shape.proofs.lemmas.WhatMayCome.{comes_any, comes_unbarred}
use Rattle.cwr_values.specs.Format.Begins.{numbers_after}
use Rattle.cwr_judge.specs.Format.GoodFronts.{HasGoodFront}
use Rattle.cwr_judge.specs.Steps.Judged as judged
use Rattle.cwr_judge.specs.Steps.Judged.{MayComeOf, HasReasonAt, IsWrongAt, named_symbol, barred, cell, past_last}
use Rattle.cwr_judge.proofs.lemmas.FirstFaults.{candidate_kind}
use Rattle.cwr_judge.proofs.lemmas.FrontCells.{of_parties, of_groups}
use Rattle.cwr_judge.proofs.lemmas.FrontsBeforeFaults.{GoodIn}
use Rattle.cwr_judge.proofs.lemmas.NextLines.{agree_by, Agree, number_by_field, numbers_agree, number_next, cell_after}
use Rattle.cwr_judge.proofs.lemmas.NumberCells.{one_number}
use Rattle.cwr_judge.proofs.lemmas.MixedCells.{taken_at}
use Rattle.cwr_judge.proofs.lemmas.GoodFrontsContinue.{only_among}

-- ---- the fields of numbers

abbrev is_number : CellType → Bool
is_number types.Number = true
is_number ty = false

-- a derived field is of a number, and not empty
abbrev number_field : FieldLayout → Bool
number_field f = not f.derived || (is_number f.ty && ltb 0 f.width)

each_number : (kind : Kind) → list_all number_field (fields_after_type kind) ≡ true
each_number kinds.Hdr = refl
each_number this_kind = refl

passes_at : (p : FieldLayout → Bool) (fields : List FieldLayout) (k : ℕ) (f : FieldLayout) → list_all p fields ≡ true
    → slice_get fields k ≡ Some f → p f ≡ true
passes_at p [] k f h e = absurd (cc e)
passes_at p (g ∷ fields) zero f h e = let same : g ≡ f = cc e in ap p (sym same) ∙ (and_parts (p g) (list_all p fields) h).0
passes_at p (g ∷ fields) (suc k) f h e = passes_at p fields k f (and_parts (p g) (list_all p fields) h).1 e

-- digits are a number
digits_hold : (ty : CellType) (width n : ℕ) → is_number ty ≡ true → 0 < width → Allows ty (digits width n)
digits_hold types.Number width n e w =
    (number_spelled (digits width n)).1 (omega (arith, w, length-digits width n), are_digits-digits width n)
digits_hold ty width n e w = absurd (true≢false (sym e))

derived_holds : (kind : Kind) (k : ℕ) (f : FieldLayout) (n : ℕ) → slice_get (fields_after_type kind) k ≡ Some f → f.derived ≡ true
    → Allows f.ty (digits f.width n)
derived_holds kind k f n e d = by f.derived d (passes_at number_field (fields_after_type kind) k f (each_number kind) e)
  where
    by : (b : Bool) → b ≡ true → (not b || (is_number f.ty && ltb 0 f.width)) ≡ true → Allows f.ty (digits f.width n)
    by true h p =
        let both = and_parts (is_number f.ty) (ltb 0 f.width) p in digits_hold f.ty f.width n both.0 (ltb-true 0 f.width both.1)
    by false h p = absurd (true≢false (sym h))

-- ---- a good cell

in_one : (b : Bool) (f : FieldLayout) (number : Option ℕ) (n : ℕ) (c : List ℕ) → agree_by b number n → IsGoodCell b f n c
    → GoodIn b f number c
in_one true f number n c a g = (n, a, g)
in_one false f number n c a g = g

in_front : (m : ℕ) (fields : List FieldLayout) (ns : List ℕ) (number : ℕ → Option ℕ) (cells : List (List ℕ))
    → Agree fields ns number → AreGood (take m fields) ns (take m cells)
    → (k : ℕ) (f : FieldLayout) (c : List ℕ) → k < m → slice_get fields k ≡ Some f → slice_get cells k ≡ Some c
    → GoodIn f.derived f (number k) c
in_front zero fields ns number cells a g k f c h e q = absurd (omega (arith, h))
in_front (suc m) [] ns number cells a g k f c h e q = absurd (cc e)
in_front (suc m) (d ∷ fields) ns number [] a g k f c h e q = absurd g
in_front (suc m) (d ∷ fields) ns number (x ∷ cells) a g zero f c h e q =
    let field : d ≡ f = cc e in
    let here : x ≡ c = cc q in
    subst (λ (y : List ℕ). GoodIn f.derived f (number 0) y) here (subst (λ (l : FieldLayout). GoodIn l.derived l (number 0) x)
    field (in_one d.derived d (number 0) (slice_index ns 0) x a.0 g.0))
in_front (suc m) (d ∷ fields) ns number (x ∷ cells) a g (suc k) f c h e q =
    in_front m fields (rest_if d.derived ns) (λ i. number (suc i)) cells a.1 g.1 k f c (omega (arith, h)) e q

-- ---- symbols

-- what holds of the symbol that a cell names holds of the one that the first cells up to it name
pub named_holds : (kind : Kind) (i : ℕ) (c : List ℕ) (cells : List (List ℕ)) (s : Symbol) (P : Symbol → Type 0)
    → slice_get cells i ≡ Some c → IsAmong (candidates (Some kind) cells) s
    → IsSomeAnd (named_symbol kind (suc i) c) P → P s
named_holds kinds.Ipa i c cells s P there among t = by (suc i == 4) refl t
  where
    role : slice_get cells 3 ≡ Some c → (o : Option Role) → role_in c ≡ o → IsSomeAnd (option_map Ipa o) P → P s
    role at None e q = absurd q
    role at (Some r) e q =
        subst P (sym (only_among (Ipa r) s
        (subst (λ (o : Option Role). IsAmong (parties_of o) s) (ap (option_and_then role_in) at ∙ e) among))) q

    by : (b : Bool) → (suc i == 4) ≡ b → IsSomeAnd (cond b (option_map Ipa (role_in c)) None) P → P s
    by true e q =
        let at : suc i ≡ 4 = eqb-true (suc i) 4 e in
        let index : i ≡ 3 = omega (arith, at) in
        role (ap (λ (j : ℕ). slice_get cells j) (sym index) ∙ there) (role_in c) refl q
    by false e q = absurd q
named_holds kinds.Grh i c cells s P there among t = by (suc i == 2) refl t
  where
    type_by : slice_get cells 1 ≡ Some c → (o : Option TransactionType) → type_in c ≡ o → IsSomeAnd (option_map Grh o) P → P s
    type_by at None e q = absurd q
    type_by at (Some r) e q =
        subst P (sym (only_among (Grh r) s
        (subst (λ (o : Option TransactionType). IsAmong (groups_of o) s) (ap (option_and_then type_in) at ∙ e) among))) q

    by : (b : Bool) → (suc i == 2) ≡ b → IsSomeAnd (cond b (option_map Grh (type_in c)) None) P → P s
    by true e q =
        let at : suc i ≡ 2 = eqb-true (suc i) 2 e in
        let index : i ≡ 1 = omega (arith, at) in
        type_by (ap (λ (j : ℕ). slice_get cells j) (sym index) ∙ there) (type_in c) refl q
    by false e q = absurd q
named_holds kind i c cells s P there among t = absurd t

-- a symbol that some cells name is among all of the kind
pub among_all : (kind : Kind) (cells : List (List ℕ)) (s : Symbol) → IsAmong (candidates (Some kind) cells) s
    → IsAmong (candidates (Some kind) []) s
among_all kinds.Ipa cells s a = by (option_and_then role_in (slice_get cells 3)) a
  where
    by : (o : Option Role) → IsAmong (parties_of o) s → IsAmong (candidates (Some kinds.Ipa) []) s
    by (Some role) q = subst (IsAmong (candidates (Some kinds.Ipa) [])) (sym (only_among (Ipa role) s q)) (of_parties role)
    by None q = q
among_all kinds.Grh cells s a = by (option_and_then type_in (slice_get cells 1)) a
  where
    by : (o : Option TransactionType) → IsAmong (groups_of o) s → IsAmong (candidates (Some kinds.Grh) []) s
    by (Some ty) q = subst (IsAmong (candidates (Some kinds.Grh) [])) (sym (only_among (Grh ty) s q)) (of_groups ty)
    by None q = q
among_all kind cells s a = a

-- none of them may come where they are barred
none_among : (limits : LimitValues) (xs ss : List Symbol) (bar : Bar) (s : Symbol) → IsBarredAmong limits xs ss bar → IsAmong ss s
    → MayCome limits xs s → ⊥
none_among limits xs ss bars.Misplaced s b a m = b (s, a, comes_any limits xs s m)
none_among limits xs ss (bars.Limit limit_kinds.Records) s b a m = b.1 (s, a, (m.0, m.1, m.2.0, m.3))
none_among limits xs ss (bars.Limit limit_kinds.Groups) s b a m = b.1 (s, a, (m.0, m.1, m.2.1, m.3))
none_among limits xs ss (bars.Limit limit_kinds.Transaction) s b a m = b.2 (s, a, (m.0, m.1, m.2.2, m.3))

-- ---- a fault of a good cell

-- the front of a held line of a kind
record Front (limits : LimitValues) (xs : List Symbol) (h : HeldLine) (kind : Kind) (m : ℕ) : Type 0 where
  good : AreGood (take m (fields_after_type kind)) (numbers_after xs kind) (take m (drop 1 (held_cells h)))
  excess : length (layout kind) < suc m → held_excess h ≡ false
  symbol : Symbol
  among : IsAmong (candidates (Some kind) (take (suc m) (held_cells h))) symbol
  may_come : MayCome limits xs symbol

held_front : (limits : LimitValues) (xs : List Symbol) (h : HeldLine) (line : List ℕ) (kind : Kind) (m : ℕ) → IsCutAs h line
    → held_kind h ≡ Some kind → HasGoodFront limits xs line m → Front limits xs h kind m
held_front limits xs h line kind m cut known g =
    let there : Some g.kind ≡ Some kind = sym g.known ∙ sym cut.kind ∙ known in
    let same : g.kind ≡ kind = cc there in
    subst (λ (k : Kind). Front limits xs h k m) same
    (record {
      good =
          subst
          (λ (cs : List (List ℕ)). AreGood (take m (fields_after_type g.kind)) (numbers_after xs g.kind) (take m (drop 1 cs)))
          (sym cut.cells) g.good;
      excess = λ far. cut.excess ∙ g.excess far;
      symbol = g.symbol;
      among =
          subst (λ (cs : List (List ℕ)). IsAmong (candidates (Some g.kind) (take (suc m) cs)) g.symbol) (sym cut.cells) g.among;
      may_come = g.continues;
    })

number_fault : (kind : Kind) (k : ℕ) (f : FieldLayout) (c : List ℕ) (n : ℕ) (reason : Reason)
    → slice_get (fields_after_type kind) k ≡ Some f → f.derived ≡ true → length c ≡ f.width → c ≡ digits f.width n
    → judged.IsNumberFault f.ty c n reason → ⊥
number_fault kind k f c n (reasons.Cell fault) e d wide text w =
    w.0 (subst (Allows f.ty) (sym text) (derived_holds kind k f n e d))
number_fault kind k f c n (reasons.Number expected) e d wide text w = w.2 (text ∙ ap (λ (i : ℕ). digits i n) (sym wide))
number_fault kind k f c n reason e d wide text w = w

text_fault : (limits : LimitValues) (xs : List Symbol) (h : HeldLine) (kind : Kind) (i : ℕ) (ty : CellType) (c : List ℕ)
    (reason : Reason) (g : Front limits xs h kind i) → slice_get (take (suc i) (held_cells h)) i ≡ Some c
    → Allows ty c → judged.IsTextFault limits xs kind (suc i) ty c reason → ⊥
text_fault limits xs h kind i ty c (reasons.Cell fault) g there holds w = w.0 holds
text_fault limits xs h kind i ty c reasons.Misplaced g there holds w =
    comes_unbarred limits xs g.symbol bars.Misplaced
    (named_holds kind i c (take (suc i) (held_cells h)) g.symbol (λ s. IsBarred limits xs s bars.Misplaced) there g.among w.1)
    g.may_come
text_fault limits xs h kind i ty c (reasons.Limit limit) g there holds w =
    comes_unbarred limits xs g.symbol (bars.Limit limit) (named_holds kind i c (take (suc i) (held_cells h)) g.symbol
    (λ s. IsBarred limits xs s (bars.Limit limit)) there g.among w.1) g.may_come
text_fault limits xs h kind i ty c reason g there holds w = w

fault_by : (b : Bool) (limits : LimitValues) (xs : List Symbol) (h : HeldLine) (kind : Kind) (k : ℕ) (f : FieldLayout)
    (c : List ℕ) (reason : Reason) (g : Front limits xs h kind (suc k)) → MayComeOf limits xs kind → b ≡ f.derived
    → slice_get (fields_after_type kind) k ≡ Some f → slice_get (take (suc (suc k)) (held_cells h)) (suc k) ≡ Some c
    → length c ≡ f.width → GoodIn b f (number_by_field kind (numbers_after xs kind) k) c
    → judged.IsFaultBy b limits xs kind (suc (suc k)) f c reason → ⊥
fault_by true limits xs h kind k f c reason g (s, among, may) d e there wide good w =
    let numbers : Some w.0 ≡ Some good.0 =
    one_number xs kind (suc (suc k)) (Some w.0) (number_by_field kind (numbers_after xs kind) k) s (candidate_kind kind s among)
    (comes_any limits xs s may) w.1 (number_next xs kind (suc (suc k))) ∙ good.1 in
    let same : w.0 ≡ good.0 = cc numbers in
    number_fault kind k f c w.0 reason e (sym d) wide (good.2 ∙ ap (digits f.width) (sym same)) w.2
fault_by false limits xs h kind k f c reason g may d e there wide good w =
    text_fault limits xs h kind (suc k) f.ty c reason g there good w

-- what holds of something that is there
pub record There {A : Type 0} (o : Option A) (P : A → Type 0) : Type 0 where
  pub value : A
  pub is : o ≡ Some value
  pub holds : P value

pub there_of : {A : Type 0} (o : Option A) (P : A → Type 0) → IsSomeAnd o P → There o P
there_of None P s = absurd s
there_of (Some a) P s = record { value = a; is = refl; holds = s }

fault_in : (limits : LimitValues) (xs : List Symbol) (h : HeldLine) (kind : Kind) (j m : ℕ) (reason : Reason)
    → held_kind h ≡ Some kind → 2 ≤ j → j ≡ suc m → MayComeOf limits xs kind → Front limits xs h kind m
    → HasReasonAt limits xs h kind j reason → ⊥
fault_in limits xs h kind zero m reason known from e may g w = absurd (omega (arith, from))
fault_in limits xs h kind (suc zero) m reason known from e may g w = absurd (omega (arith, from))
fault_in limits xs h kind (suc (suc k)) m reason known from e may g w =
    let index : m ≡ suc k = omega (arith, e) in
    let front : Front limits xs h kind (suc k) = subst (λ (i : ℕ). Front limits xs h kind i) index g in
    let f =
    there_of (slice_get (fields_after_type kind) k)
    (λ f. IsSomeAnd (held_cell h (suc (suc k))) (λ c. judged.IsFaultBy f.derived limits xs kind (suc (suc k)) f c reason))
    w in
    let c =
    there_of (held_cell h (suc (suc k))) (λ c. judged.IsFaultBy f.value.derived limits xs kind (suc (suc k)) f.value c reason)
    f.holds in
    let at : slice_get (drop 1 (held_cells h)) k ≡ Some c.value = sym (cell_after h kind k known) ∙ c.is in
    let good =
    in_front (suc k) (fields_after_type kind) (numbers_after xs kind) (number_by_field kind (numbers_after xs kind))
    (drop 1 (held_cells h)) (numbers_agree (open_type xs) (counts_of xs) kind) front.good k f.value c.value (omega arith) f.is
    at in
    fault_by f.value.derived limits xs h kind k f.value c.value reason front may refl f.is
    (taken_at (suc (suc k)) (suc k) (held_cells h) (omega arith) ∙ after_one (held_cells h) k ∙ at)
    (length-held_cell h kind (suc (suc k)) f.value c.value known f.is c.is) good c.holds
  where
    after_one : (cells : List (List ℕ)) (i : ℕ) → slice_get cells (suc i) ≡ slice_get (drop 1 cells) i
    after_one [] i = refl
    after_one (x ∷ cells) i = refl

-- no good front ends with a field that is wrong
none_wrong : (limits : LimitValues) (xs : List Symbol) (h : HeldLine) (kind : Kind) (field m : ℕ) (reason : Reason)
    → held_kind h ≡ Some kind → field ≡ suc m → Front limits xs h kind m → IsWrongAt limits xs h kind field reason → ⊥
none_wrong limits xs h kind field m reason known e g (barred bar b) =
    none_among limits xs (candidates (Some kind) []) bar g.symbol b
    (among_all kind (take (suc m) (held_cells h)) g.symbol g.among) g.may_come
none_wrong limits xs h kind field m reason known e g (cell j r from may fault) =
    fault_in limits xs h kind j m r known from e may g fault
none_wrong limits xs h kind field m reason known e g (past_last may excess) =
    true≢false (sym excess ∙ g.excess (omega (arith, e)))

pub none_at_fault : (limits : LimitValues) (xs : List Symbol) (h : HeldLine) (line : List ℕ) (kind : Kind) (m : ℕ)
    (reason : Reason) → IsCutAs h line → held_kind h ≡ Some kind → IsWrongAt limits xs h kind (suc m) reason
    → HasGoodFront limits xs line m → ⊥
none_at_fault limits xs h line kind m reason cut known w g =
    none_wrong limits xs h kind (suc m) m reason known refl (held_front limits xs h line kind m cut known g) w
