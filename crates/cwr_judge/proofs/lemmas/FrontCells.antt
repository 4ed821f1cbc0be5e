-- The first cells of a record's row are good, and name a symbol that the record has.
use Rattle.std.proofs.Common.{◌≡◌, ℕ, zero, suc, Bool, true, false, List, [], ◌∷◌, take, drop, refl, sym, ap, subst, ◌∙◌, arith}
use Rattle.std.proofs.Common.{ltb-true, ltb-false}
use Rattle.std.specs.Prelude.{Option, Some, None, slice_get, nat_lt, unwrap_or, option_and_then}
use Rattle.std.specs.List.{IsAmong}
use Rattle.cwr_fields.specs.declared.codes.Role.{Role}
use Rattle.cwr_fields.specs.declared.codes.Role.TheVariants.{Assignor, Acquirer}
use Rattle.cwr_fields.specs.declared.codes.TransactionType.{TransactionType}
use Rattle.cwr_fields.specs.declared.codes.TransactionType.TheVariants.{Agreement, NewWork, RevisedWork, Acknowledgement}
use Rattle.cwr_fields.specs.Format.Bytes.{filled}
use Rattle.cwr_fields.specs.declared.kinds.Kind.{Kind}
use Rattle.cwr_fields.specs.declared.kinds.Kind.TheVariants as kinds
use Rattle.cwr_fields.specs.Format.Kinds.{letters, kind_of}
use Rattle.cwr_fields.specs.Format.Layouts.{FieldLayout, fields_after_type}
use Rattle.cwr_lines.specs.Format.Records.{RecordValue, IsRecord, rest_if, row_cells, row_of}
use Rattle.cwr_lines.specs.Format.GoodCells.{AreGood}
use Rattle.cwr_lines.specs.Format.Lines.{line_kind, line_cells, line_body, cells_as}
use Rattle.cwr_fields.proofs.lemmas.AllKinds.{kind_of-letters}
use Rattle.cwr_fields.proofs.lemmas.AllKinds.{letters-injective}
use Rattle.cwr_lines.proofs.lemmas.GoodLinesAreRows.{good_cells}
use Rattle.cwr_shape.specs.declared.symbols.Symbol.{Symbol}
use Rattle.cwr_shape.specs.declared.symbols.Symbol.TheVariants.{Plain, Ipa, Grh}
use Rattle.cwr_shape.specs.Format.Candidates.{candidates, role_in, type_in, parties_of, groups_of}
use Rattle.cwr_values.specs.Format.Values.{symbol_of}
use Rattle.cwr_judge.proofs.lemmas.MixedCells.{taken_at, taken_none, line_parts}
use Rattle.cwr_judge.proofs.lemmas.GoodFrontsContinue.{role_held, type_held}

-- good cells are good as far as they are taken
pub good_front : (m : ℕ) (fields : List FieldLayout) (ns : List ℕ) (cells : List (List ℕ)) → AreGood fields ns cells
    → AreGood (take m fields) ns (take m cells)
good_front zero fields ns cells g = tt
good_front (suc m) [] ns cells g = tt
good_front (suc m) (f ∷ fields) ns [] g = g
good_front (suc m) (f ∷ fields) ns (c ∷ cells) g = (g.0, good_front m fields (rest_if f.derived ns) cells g.1)

pub taken_after : (m : ℕ) (cells : List (List ℕ)) → drop 1 (take (suc m) cells) ≡ take m (drop 1 cells)
taken_after zero [] = refl
taken_after (suc m) [] = refl
taken_after m (c ∷ cells) = refl

first_taken : (m : ℕ) (cells others : List (List ℕ)) → take (suc m) cells ≡ take (suc m) others
    → slice_get cells 0 ≡ slice_get others 0
first_taken m cells others e =
    sym (taken_at (suc m) 0 cells (omega arith)) ∙ ap (λ (l : List (List ℕ)). slice_get l 0) e
    ∙ taken_at (suc m) 0 others (omega arith)

-- a line whose first cell is the letters of a kind is of that kind
pub kind_by_letters : (kind : Kind) (line : List ℕ) → Some (letters kind) ≡ slice_get (line_cells line) 0
    → line_kind line ≡ Some kind
kind_by_letters kind line e = by (line_kind line) refl
  where
    by : (o : Option Kind) → line_kind line ≡ o → line_kind line ≡ Some kind
    by None k =
        let cells : line_cells line ≡ take 3 (filled 3 (line_body line)) ∷ [] =
        ap (λ (o : Option Kind). cells_as o (line_body line)) k in
        let there : Some (letters kind) ≡ Some (take 3 (filled 3 (line_body line))) =
        e ∙ ap (λ (l : List (List ℕ)). slice_get l 0) cells in
        let first : letters kind ≡ take 3 (filled 3 (line_body line)) = cc there in
        ap kind_of (sym first) ∙ kind_of-letters kind
    by (Some other) k =
        let parts = line_parts other line k in
        let there : Some (letters kind) ≡ Some (letters other) = e ∙ ap (λ (l : List (List ℕ)). slice_get l 0) parts.0 in
        let first : letters kind ≡ letters other = cc there in
        k ∙ ap Some (sym (letters-injective kind other first))

-- ---- the symbol

pub among_itself : (s : Symbol) → IsAmong (s ∷ []) s
among_itself s = (0, (omega arith, refl))

pub of_parties : (role : Role) → IsAmong (Ipa Assignor ∷ Ipa Acquirer ∷ []) (Ipa role)
of_parties Assignor = (0, (omega arith, refl))
of_parties Acquirer = (1, (omega arith, refl))

pub of_groups : (ty : TransactionType)
    → IsAmong (Grh Agreement ∷ Grh NewWork ∷ Grh RevisedWork ∷ Grh Acknowledgement ∷ []) (Grh ty)
of_groups Agreement = (0, (omega arith, refl))
of_groups NewWork = (1, (omega arith, refl))
of_groups RevisedWork = (2, (omega arith, refl))
of_groups Acknowledgement = (3, (omega arith, refl))

-- a party's role is among those that its cell names
party_named : (cells : List (List ℕ)) → IsRecord (record { kind = kinds.Ipa; cells = cells }) → IsAmong
    (parties_of (role_in (unwrap_or (slice_get cells 0) [])))
    (Ipa (unwrap_or (role_in (unwrap_or (slice_get cells 0) [])) Assignor))
party_named [] h = absurd h
party_named (c ∷ cells) h =
    let r =
    role_held c h.0.1 in
    subst (λ (o : Option Role). IsAmong (parties_of o) (Ipa (unwrap_or o Assignor))) (sym r.1) (among_itself (Ipa r.0))

group_named : (cells : List (List ℕ)) → IsRecord (record { kind = kinds.Grh; cells = cells }) → IsAmong
    (groups_of (type_in (unwrap_or (slice_get cells 0) [])))
    (Grh (unwrap_or (type_in (unwrap_or (slice_get cells 0) [])) Acknowledgement))
group_named [] h = absurd h
group_named (c ∷ cells) h =
    let r =
    type_held c h.0.1 in subst (λ (o : Option TransactionType). IsAmong (groups_of o) (Grh (unwrap_or o Acknowledgement)))
    (sym r.1) (among_itself (Grh r.0))

-- the first cells of a record's row name its symbol, among others
pub symbol_named : (kind : Kind) (m : ℕ) (ns : List ℕ) (cells : List (List ℕ)) → IsRecord (record { kind = kind; cells = cells })
    → IsAmong (candidates (Some kind) (take (suc m) (row_of ns (record { kind = kind; cells = cells })).cells))
    (symbol_of (record { kind = kind; cells = cells }))
symbol_named kinds.Ipa m ns cells h = by (nat_lt 2 m) refl
  where
    row : List (List ℕ)
    row = row_cells (fields_after_type kinds.Ipa) ns cells

    role : Role
    role = unwrap_or (role_in (unwrap_or (slice_get cells 0) [])) Assignor

    named : slice_get row 2 ≡ Some (unwrap_or (slice_get cells 0) [])
    named = refl

    by : (b : Bool) → nat_lt 2 m ≡ b
        → IsAmong (parties_of (option_and_then role_in (slice_get (take (suc m) (letters kinds.Ipa ∷ row)) 3))) (Ipa role)
    by true e =
        subst (λ (o : Option (List ℕ)). IsAmong (parties_of (option_and_then role_in o)) (Ipa role))
        (sym (taken_at m 2 row (ltb-true 2 m e) ∙ named)) (party_named cells h)
    by false e =
        subst (λ (o : Option (List ℕ)). IsAmong (parties_of (option_and_then role_in o)) (Ipa role))
        (sym (taken_none m 2 row (ltb-false 2 m e))) (of_parties role)
symbol_named kinds.Grh m ns cells h = by (nat_lt 0 m) refl
  where
    row : List (List ℕ)
    row = row_cells (fields_after_type kinds.Grh) ns cells

    ty : TransactionType
    ty = unwrap_or (type_in (unwrap_or (slice_get cells 0) [])) Acknowledgement

    named : slice_get row 0 ≡ Some (unwrap_or (slice_get cells 0) [])
    named = refl

    by : (b : Bool) → nat_lt 0 m ≡ b
        → IsAmong (groups_of (option_and_then type_in (slice_get (take (suc m) (letters kinds.Grh ∷ row)) 1))) (Grh ty)
    by true e =
        subst (λ (o : Option (List ℕ)). IsAmong (groups_of (option_and_then type_in o)) (Grh ty))
        (sym (taken_at m 0 row (ltb-true 0 m e) ∙ named)) (group_named cells h)
    by false e =
        subst (λ (o : Option (List ℕ)). IsAmong (groups_of (option_and_then type_in o)) (Grh ty))
        (sym (taken_none m 0 row (ltb-false 0 m e))) (of_groups ty)
symbol_named kind m ns cells h = among_itself (Plain kind)

-- ---- a line with the first cells of a record's row

pub record HasFrontOf (ns : List ℕ) (r : RecordValue) (line : List ℕ) (m : ℕ) : Type 0 where
  pub known : line_kind line ≡ Some r.kind
  pub good : AreGood (take m (fields_after_type r.kind)) ns (take m (drop 1 (line_cells line)))
  pub among : IsAmong (candidates (Some r.kind) (take (suc m) (line_cells line))) (symbol_of r)

pub front_of : (ns : List ℕ) (r : RecordValue) (line : List ℕ) (m : ℕ) → IsRecord r
    → take (suc m) (row_of ns r).cells ≡ take (suc m) (line_cells line) → HasFrontOf ns r line m
front_of ns r line m h e =
    let fields : List FieldLayout = fields_after_type r.kind in
    let row : List (List ℕ) = row_cells fields ns r.cells in
    let after : take m row ≡ take m (drop 1 (line_cells line)) = ap (drop 1) e ∙ taken_after m (line_cells line) in
    record {
      known = kind_by_letters r.kind line (first_taken m (letters r.kind ∷ row) (line_cells line) e);
      good = subst (AreGood (take m fields) ns) after (good_front m fields ns row (good_cells fields ns r.cells h));
      among =
          subst (λ (l : List (List ℕ)). IsAmong (candidates (Some r.kind) l) (symbol_of r)) e
          (symbol_named r.kind m ns r.cells h);
    }
