-- The members of a record's cells, field by field.
use Rattle.std.proofs.Common.{◌≡◌, ℕ, zero, suc, ◌+◌, ◌-◌, ◌<◌, ◌≤◌, Bool, true, false, not, cond, List, [], ◌∷◌, ◌++◌, length}
use Rattle.std.proofs.Common.{take, filter, Option, Some, None, refl, sym, ap, ap₂, subst, ◌∙◌, arith, append_assoc, append-nil}
use Rattle.std.specs.Prelude.{slice_get, IfSome, IsTrue, nat_lt}
use Rattle.std.proofs.lemmas.Bool.{ltb-false, ltb-true}
use Rattle.std.specs.Option.{option_and_then}
use Rattle.std.proofs.lemmas.List.{take_all}
use Rattle.std.proofs.lemmas.Option.{slice_get-get_or}
use Rattle.cwr_fields.specs.declared.kinds.Kind.{Kind}
use Rattle.cwr_fields.specs.Format.Bytes.{is_spaces}
use Rattle.cwr_fields.specs.Format.Layouts.{FieldLayout, layout, record_type, field_with_start}
use Rattle.cwr_lines.specs.Format.Records.{RecordValue}
use Rattle.cwr_lines.specs.Format.Carried.{carried_at, record_cell}
use Rattle.cwr_lines.proofs.lemmas.CarriedCells.{carried_count}
use Rattle.cwr_json.specs.declared.encodings.Encoding.{Encoding}
use Rattle.cwr_json.proofs.lemmas.FieldsShown.{carried_field}
use Rattle.cwr_json.specs.Steps.FormTexts.{field_member, member_of, member_text, members_beside, member_texts}

-- ---- the member of one field

pub member_of-none : (enc : Encoding) (o : Option FieldLayout) → member_of enc o None ≡ []
member_of-none enc None = refl
member_of-none enc (Some f) = refl

member_of-and : (enc : Encoding) (o : Option FieldLayout) (cell : Option (List ℕ))
    → member_of enc o (option_and_then (λ _. cell) o) ≡ member_of enc o cell
member_of-and enc None cell = refl
member_of-and enc (Some f) cell = refl

pub field_member-some : (enc : Encoding) (r : RecordValue) (j : ℕ) (p : ℕ × FieldLayout) (cell : List ℕ)
    → Some cell ≡ record_cell r j → Some p ≡ field_with_start r.kind j → field_member enc r j ≡ member_text enc p.1 cell
field_member-some enc r j p cell e place =
    ap₂ (λ (o : Option FieldLayout) (found : Option (List ℕ)). member_of enc o found) (carried_field r j p cell e place) (sym e)

-- ---- the members of the first fields

abbrev carried : List FieldLayout → List FieldLayout
carried fields = filter (λ f. not f.derived) fields

-- the members of a record's cells in its first fields
abbrev pub members_before : Encoding → RecordValue → ℕ → List ℕ
members_before enc r i = members_beside enc (carried (take i (layout r.kind))) r.cells

after_first : (enc : Encoding) (b : Bool) (g : FieldLayout) (fields more : List FieldLayout) (cells : List (List ℕ))
    (line : Option (List ℕ) → List ℕ) → line None ≡ []
    → ((rest : List (List ℕ))
    → members_beside enc more rest ≡ members_beside enc fields rest ++ line (slice_get rest (length fields)))
    → members_beside enc (cond (not b) (g ∷ more) more) cells ≡ members_beside enc (cond (not b) (g ∷ fields) fields) cells
    ++ line (slice_get cells (length (cond (not b) (g ∷ fields) fields)))
after_first enc true g fields more cells line none h = h cells
after_first enc false g fields more [] line none h = sym none
after_first enc false g fields more (c ∷ cells) line none h =
    ap (λ (l : List ℕ). member_text enc g c ++ l) (h cells)
    ∙ sym (append_assoc (member_text enc g c) (members_beside enc fields cells) (line (slice_get cells (length fields))))

first_alone : (enc : Encoding) (b : Bool) (g : FieldLayout) (cells : List (List ℕ))
    → members_beside enc (cond (not b) (g ∷ []) []) cells ≡ member_of enc (cond b None (Some g)) (slice_get cells 0)
first_alone enc true g cells = refl
first_alone enc false g [] = refl
first_alone enc false g (c ∷ cells) = append-nil (member_text enc g c)

member_more : (enc : Encoding) (fields : List FieldLayout) (i : ℕ) (f : FieldLayout) (cells : List (List ℕ))
    → slice_get fields i ≡ Some f
    → members_beside enc (carried (take (suc i) fields)) cells ≡ members_beside enc (carried (take i fields)) cells
    ++ member_of enc (cond f.derived None (Some f)) (slice_get cells (carried_count (take i fields)))
member_more enc [] i f cells e = absurd (cc e)
member_more enc (g ∷ fields) zero f cells e =
    let same : g ≡ f = cc e in
    first_alone enc g.derived g cells
    ∙ ap (λ (x : FieldLayout). member_of enc (cond x.derived None (Some x)) (slice_get cells 0)) same
member_more enc (g ∷ fields) (suc i) f cells e =
    after_first enc g.derived g (carried (take i fields)) (carried (take (suc i) fields)) cells
    (member_of enc (cond f.derived None (Some f))) (member_of-none enc (cond f.derived None (Some f)))
    (λ rest. member_more enc fields i f rest e)

-- with one field more
pub members_more : (enc : Encoding) (r : RecordValue) (i : ℕ) → i < length (layout r.kind)
    → members_before enc r (i + 1) ≡ members_before enc r i ++ field_member enc r (i + 1)
members_more enc r i h =
    let number : suc i ≡ i + 1 = omega arith in
    subst (λ (n : ℕ). members_before enc r n ≡ members_before enc r i ++ field_member enc r n) number (by (layout-at r.kind i h))
  where
    layout-at : (kind : Kind) (n : ℕ) → n < length (layout kind) → (f : FieldLayout) × (slice_get (layout kind) n ≡ Some f)
    layout-at kind n within = (_, slice_get-get_or (layout kind) n record_type within)

    by : (f : FieldLayout) × (slice_get (layout r.kind) i ≡ Some f)
        → members_before enc r (suc i) ≡ members_before enc r i ++ field_member enc r (suc i)
    by (f, e) =
        let before : suc i - 1 ≡ i = omega arith in
        let is_carried : cond f.derived None (Some f) ≡ carried_at r.kind (suc i) =
        ap (option_and_then (λ (g : FieldLayout). cond g.derived None (Some g))) (sym e) in
        let cell : Option (List ℕ) = slice_get r.cells (carried_count (take i (layout r.kind))) in
        let line : member_of enc (cond f.derived None (Some f)) cell ≡ field_member enc r (suc i) =
        ap (λ (o : Option FieldLayout). member_of enc o cell) is_carried
        ∙ sym (member_of-and enc (carried_at r.kind (suc i)) cell)
        ∙ ap (λ (n : ℕ). member_of enc (carried_at r.kind (suc i))
        (option_and_then (λ _. slice_get r.cells (carried_count (take n (layout r.kind)))) (carried_at r.kind (suc i)))) (sym
        before) in
        member_more enc (layout r.kind) i f r.cells e ∙ ap (λ (l : List ℕ). members_before enc r i ++ l) line

-- with all of them
pub members_whole : (enc : Encoding) (r : RecordValue) (i : ℕ) → length (layout r.kind) ≤ i
    → members_before enc r i ≡ member_texts enc r
unfolding member_texts
members_whole enc r i h =
    ap (λ (fields : List FieldLayout). members_beside enc (carried fields) r.cells) (take_all i (layout r.kind) h)

-- ---- the fields that are filled

-- a blank cell has no member
member_blank : (enc : Encoding) (r : RecordValue) (j : ℕ) → IfSome (record_cell r j) (λ cell. IsTrue (is_spaces cell))
    → field_member enc r j ≡ []
member_blank enc r j h = by (carried_at r.kind j) (record_cell r j) h where
  by : (o : Option FieldLayout) (cell : Option (List ℕ)) → IfSome cell (λ cell. IsTrue (is_spaces cell)) → member_of enc o cell ≡ []
  by None cell h = refl
  by (Some f) None h = refl
  by (Some f) (Some cell) h = rw h refl

-- so the fields that have all that is filled are as good as all
pub members_filled : (enc : Encoding) (r : RecordValue) (filled i : ℕ) → i ≡ filled → filled ≤ length (layout r.kind)
    → ((j : ℕ) → filled < j → IfSome (record_cell r j) (λ cell. IsTrue (is_spaces cell)))
    → members_before enc r i ≡ member_texts enc r
members_filled enc r filled i is h blank =
    ap (members_before enc r) is ∙ up (length (layout r.kind)) h (omega arith) ∙ members_whole enc r (length (layout r.kind)) (omega arith)
  where
    next : (n : ℕ) (b : Bool) → nat_lt filled (suc n) ≡ b → filled ≤ suc n → suc n ≤ length (layout r.kind)
        → (filled ≤ n → members_before enc r filled ≡ members_before enc r n)
        → members_before enc r filled ≡ members_before enc r (suc n)
    next n true e h within before =
        let number : n + 1 ≡ suc n = omega arith in
        before (omega (arith, ltb-true filled (suc n) e)) ∙ sym (append-nil (members_before enc r n))
        ∙ ap (λ (text : List ℕ). members_before enc r n ++ text)
        (sym (member_blank enc r (n + 1) (blank (n + 1) (omega (arith, ltb-true filled (suc n) e)))))
        ∙ sym (members_more enc r n (omega (arith, within))) ∙ ap (members_before enc r) number
    next n false e h within before =
        let last : filled ≡ suc n = omega (arith, h, ltb-false filled (suc n) e) in ap (members_before enc r) last

    up : (n : ℕ) → filled ≤ n → n ≤ length (layout r.kind) → members_before enc r filled ≡ members_before enc r n
    up zero h within = let none : filled ≡ zero = omega (arith, h) in ap (members_before enc r) none
    up (suc n) h within =
        next n (nat_lt filled (suc n)) refl h within (λ below. up n below (omega (arith, within)))
