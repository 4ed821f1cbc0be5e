-- A line whose cells are good, one by one, is that of a record's row.
use Rattle.std.proofs.Common.{◌≡◌, ℕ, zero, suc, ◌+◌, ◌-◌, ◌<◌, ◌≤◌, Bool, true, false, not, cond, ltb, List, [], ◌∷◌, ◌++◌}
use Rattle.std.proofs.Common.{length, map, take, drop, filter, replicate, refl, sym, ap, ap₂, subst, ◌∙◌, arith, append_assoc}
use Rattle.std.specs.Prelude.{Option, Some, find, slice_get, slice_index, unwrap_or, if◌then◌else◌, ◌==◌}
use Rattle.std.specs.List.{AllZip, concat, zip}
use Rattle.std.specs.Str.{bytes_eq}
use Rattle.std.proofs.lemmas.Bool.{and_parts, eqb-true, or_parts, ltb-true, ltb-false, not-false}
use Rattle.std.proofs.lemmas.List.{length-append, length-replicate, length-drop, length-take-le, replicate-append-replicate}
use Rattle.std.proofs.lemmas.List.Sums.{sum_by-cons}
use Rattle.std.proofs.lemmas.List.{take-append-le, take-append-drop}
use Rattle.std.proofs.Math.Seq.{take-add}
use Rattle.std.proofs.lemmas.List.{take_all}
use Rattle.std.proofs.lemmas.Slice.Eq.{bytes_eq-Decides}
use Rattle.cwr_fields.specs.Format.Bytes.{digits, trimmed, before_trimmed, filled, is_spaces}
use Rattle.cwr_fields.proofs.lemmas.LineFeeds.{NoLf}
use Rattle.cwr_fields.specs.declared.kinds.Kind.{Kind}
use Rattle.cwr_fields.specs.Format.Kinds.{all_kinds, letters, kind_of}
use Rattle.cwr_fields.specs.Format.Layouts.{FieldLayout, layout, fields_after_type, total_width, line_width, record_type}
use Rattle.cwr_lines.specs.Format.Records.{RecordValue, IsCellOf, IsRecord, rest_if, row_cells, row_of, IsGoodCell}
use Rattle.cwr_lines.specs.Format.GoodCells.{AreGood}
use Rattle.cwr_lines.proofs.lemmas.RowLaws.{IsRow-row_of}
use Rattle.cwr_lines.proofs.lemmas.CutLaws.{line_is_cut}
use Rattle.cwr_lines.specs.Format.Lines.{IsLineOf, longest_line, without_cr, is_too_long, line_body, pieces, line_kind}
use Rattle.cwr_lines.specs.Format.Lines.{line_cells, cells_as, excess_as, has_bad_excess}

-- what is carried in cells, by their fields
abbrev pub carried_in : List FieldLayout → List (List ℕ) → List (List ℕ)
carried_in fields cells = map (λ p. p.1) (filter (λ p. not p.0.derived) (zip fields cells))

abbrev Wide : List FieldLayout → List (List ℕ) → Type 0
Wide fields cells = AllZip (λ f text. length text ≡ f.width) fields cells

abbrev Again : List FieldLayout → List ℕ → List (List ℕ) → Type 0
Again fields ns cells =
    (row_cells fields ns (carried_in fields cells) ≡ cells)
    × AllZip IsCellOf (filter (λ g. not g.derived) fields) (carried_in fields cells)

again_by : (b : Bool) (f : FieldLayout) (fields : List FieldLayout) (ns : List ℕ) (c : List ℕ) (cells : List (List ℕ))
    → length c ≡ f.width → IsGoodCell b f (slice_index ns 0) c → Again fields (rest_if b ns) cells
    → let carried : List (List ℕ) = map (λ p. p.1) (cond (not b)
    ((f, c) ∷ filter (λ (p : FieldLayout × List ℕ). not p.0.derived) (zip fields cells))
    (filter (λ (p : FieldLayout × List ℕ). not p.0.derived) (zip fields cells))) in
    ((if b then digits f.width (slice_index ns 0) else unwrap_or (slice_get carried 0) [])
    ∷ row_cells fields (rest_if b ns) (rest_if (not b) carried) ≡ c ∷ cells)
    × AllZip IsCellOf (cond (not b) (f ∷ filter (λ g. not g.derived) fields) (filter (λ g. not g.derived) fields)) carried
again_by true f fields ns c cells w g ih = (ap₂ (λ (x : List ℕ) (xs : List (List ℕ)). x ∷ xs) (sym g) ih.0, ih.1)
again_by false f fields ns c cells w g ih = (ap (λ (xs : List (List ℕ)). c ∷ xs) ih.0, ((w, g), ih.1))

-- good cells are those of the row of what they carry
pub cells_again : (fields : List FieldLayout) (ns : List ℕ) (cells : List (List ℕ)) → Wide fields cells → AreGood fields ns cells
    → Again fields ns cells
cells_again [] ns [] w g = (refl, tt)
cells_again [] ns (c ∷ cells) w g = absurd w
cells_again (f ∷ fields) ns [] w g = absurd g
cells_again (f ∷ fields) ns (c ∷ cells) w g =
    again_by f.derived f fields ns c cells w.0 g.0 (cells_again fields (rest_if f.derived ns) cells w.1 g.1)

-- ---- a text cut into pieces

pub total-cons : (f : FieldLayout) (fields : List FieldLayout) → total_width (f ∷ fields) ≡ f.width + total_width fields
total-cons f fields = sum_by-cons (λ (g : FieldLayout). g.width) f fields

pub pieces_wide : (fields : List FieldLayout) (text : List ℕ) → total_width fields ≤ length text
    → Wide fields (pieces (map (λ f. f.width) fields) text)
pieces_wide [] text h = tt
pieces_wide (f ∷ fields) text h =
    let total = total-cons f fields in
    (length-take-le f.width text (omega arith), pieces_wide fields (drop f.width text) (omega (arith, length-drop f.width text)))

concat-pieces : (fields : List FieldLayout) (text : List ℕ)
    → concat (pieces (map (λ f. f.width) fields) text) ≡ take (total_width fields) text
concat-pieces [] text = refl
concat-pieces (f ∷ fields) text =
    ap (λ (xs : List ℕ). take f.width text ++ xs) (concat-pieces fields (drop f.width text))
    ∙ sym (take-add f.width (total_width fields) text) ∙ ap (λ (n : ℕ). take n text) (sym (total-cons f fields))

-- ---- the kind and its letters

kind_among : (kinds : List Kind) (text : List ℕ) (k : Kind) → find (λ kind. bytes_eq (letters kind) text) kinds ≡ Some k
    → letters k ≡ text
kind_among [] text k e = absurd (cc e)
kind_among (kind ∷ kinds) text k e = by (kind_among kinds text k) (bytes_eq (letters kind) text) refl e
  where
    by : (find (λ j. bytes_eq (letters j) text) kinds ≡ Some k → letters k ≡ text) → (b : Bool) → bytes_eq (letters kind) text ≡ b
        → cond b (Some kind) (find (λ j. bytes_eq (letters j) text) kinds) ≡ Some k → letters k ≡ text
    by ih true h f = let same : kind ≡ k = cc f in ap letters (sym same) ∙ (bytes_eq-Decides (letters kind) text).0 h
    by ih false h f = ih f

-- a text that names a kind is its letters
pub letters-of : (text : List ℕ) (k : Kind) → kind_of text ≡ Some k → letters k ≡ text
letters-of text k e = kind_among all_kinds text k e

-- ---- trailing spaces

trimmed-spaces : (n : ℕ) → trimmed (replicate n 32) ≡ []
unfolding trimmed
trimmed-spaces zero = refl
trimmed-spaces (suc n) = ap (before_trimmed 32) (trimmed-spaces n)

-- spaces after a text are trimmed
pub trimmed-append-spaces : (x : List ℕ) (n : ℕ) → trimmed (x ++ replicate n 32) ≡ trimmed x
unfolding trimmed
trimmed-append-spaces [] n = trimmed-spaces n
trimmed-append-spaces (b ∷ x) n = ap (before_trimmed b) (trimmed-append-spaces x n)

-- what is all spaces is so many of them
spaces_are : (x : List ℕ) → is_spaces x ≡ true → x ≡ replicate (length x) 32
spaces_are [] h = refl
spaces_are (b ∷ x) h =
    let p = and_parts (b == 32) (is_spaces x) h in ap₂ (λ (c : ℕ) (cs : List ℕ). c ∷ cs) (eqb-true b 32 p.0) (spaces_are x p.1)

-- a text of which nothing but spaces stands after a width is, but for trailing spaces, its front filled up to the width
front_filled : (w : ℕ) (body : List ℕ) → is_spaces (drop w body) ≡ true → trimmed (take w (filled w body)) ≡ trimmed body
front_filled w body h = by (ltb w (length body)) refl
  where
    short : length body ≤ w → trimmed (take w (filled w body)) ≡ trimmed body
    short s =
        let whole : length (filled w body) ≡ w =
        omega (arith, length-append body (replicate (w - length body) 32), length-replicate {A = ℕ} (w - length body) 32) in
        ap trimmed (take_all w (filled w body) (omega arith)) ∙ trimmed-append-spaces body (w - length body)

    long : w ≤ length body → trimmed (take w (filled w body)) ≡ trimmed body
    long s =
        let none : w - length body ≡ 0 = omega arith in
        let front : take w (filled w body) ≡ take w body = take-append-le w body (replicate (w - length body) 32) s in
        let whole : body ≡ take w body ++ replicate (length (drop w body)) 32 =
        sym (take-append-drop w body) ∙ ap (λ (x : List ℕ). take w body ++ x) (spaces_are (drop w body) h) in
        ap trimmed front ∙ sym (ap trimmed whole ∙ trimmed-append-spaces (take w body) (length (drop w body)))

    by : (b : Bool) → ltb w (length body) ≡ b → trimmed (take w (filled w body)) ≡ trimmed body
    by true e = let less : w < length body = ltb-true w (length body) e in long (omega arith)
    by false e = short (ltb-false w (length body) e)

-- ---- the line

length-filled : (w : ℕ) (body : List ℕ) → w ≤ length (filled w body)
length-filled w body =
    omega (arith, length-append body (replicate (w - length body) 32), length-replicate {A = ℕ} (w - length body) 32)

-- filled up further, the first three bytes are the same
pub three-filled : (w : ℕ) (body : List ℕ) → 3 ≤ w → take 3 (filled w body) ≡ take 3 (filled 3 body)
three-filled w body h =
    let a : ℕ = 3 - length body in
    let b : ℕ = (w - length body) - (3 - length body) in
    let split : filled w body ≡ filled 3 body ++ replicate b 32 =
    ap (λ (n : ℕ). body ++ replicate n 32) (omega arith)
    ∙ ap (λ (x : List ℕ). body ++ x) (sym (replicate-append-replicate a b 32))
    ∙ sym (append_assoc body (replicate a 32) (replicate b 32)) in
    ap (take 3) split ∙ take-append-le 3 (filled 3 body) (replicate b 32) (length-filled 3 body)

-- the row of a record, whose line it is
pub record IsRecordLine (numbers : List ℕ) (kind : Kind) (line : List ℕ) : Type 0 where
  pub value : RecordValue
  pub of_kind : value.kind ≡ kind
  pub in_order : IsRecord value
  pub is_line : IsLineOf (row_of numbers value) line

-- a line of a kind with good cells and nothing after them is that of a record's row
pub good_line_is_row : (numbers : List ℕ) (kind : Kind) (line : List ℕ) → NoLf line → line_kind line ≡ Some kind
    → has_bad_excess line ≡ false
    → AreGood (fields_after_type kind) numbers (drop 1 (line_cells line)) → IsRecordLine numbers kind line
good_line_is_row numbers kind line no_lf k excess good =
    let body : List ℕ = line_body line in
    let fields : List FieldLayout = fields_after_type kind in
    let width : ℕ = line_width kind in
    let wide : width ≡ 3 + total_width fields = total-cons record_type fields in
    let bad =
    or_parts (is_too_long line) (not (is_spaces (drop width body)))
    (sym (ap (λ (o : Option Kind). excess_as o (is_too_long line) body) k) ∙ excess) in
    let short : length line ≤ longest_line = ltb-false longest_line (length line) bad.0 in
    let same : body ≡ without_cr line = ap (λ (b : Bool). cond b (take longest_line line) (without_cr line)) bad.0 in
    let text : List ℕ = filled width body in
    let after : List (List ℕ) = pieces (map (λ f. f.width) fields) (drop 3 text) in
    let cells : line_cells line ≡ take 3 text ∷ after = ap (λ (o : Option Kind). cells_as o body) k in
    let enough : total_width fields ≤ length (drop 3 text) = omega (arith, wide, length-filled width body, length-drop 3 text) in
    let again =
    cells_again fields numbers after (pieces_wide fields (drop 3 text) enough)
    (subst (λ (cs : List (List ℕ)). AreGood fields numbers (drop 1 cs)) cells good) in
    let first : letters kind ≡ take 3 text =
    letters-of (take 3 (filled 3 body)) kind k ∙ sym (three-filled width body (omega arith)) in
    let whole : letters kind ++ concat (row_cells fields numbers (carried_in fields after)) ≡ take width text =
    ap₂ (λ (x : List ℕ) (xs : List (List ℕ)). x ++ concat xs) first again.0 ∙ concat-pieces (layout kind) text in
    record {
      value = record { kind = kind; cells = carried_in fields after };
      of_kind = refl;
      in_order = again.1;
      is_line = (
        no_lf,
        short,
        sym (ap trimmed whole ∙ front_filled width body (not-false (is_spaces (drop width body)) bad.1) ∙ ap trimmed same),
      );
    }

good_of_by : (b : Bool) (f : FieldLayout) (fields : List FieldLayout) (ns : List ℕ) (cells : List (List ℕ))
    → ((ns' : List ℕ) (cells' : List (List ℕ)) → AllZip IsCellOf (filter (λ g. not g.derived) fields) cells'
    → AreGood fields ns' (row_cells fields ns' cells'))
    → AllZip IsCellOf (cond (not b) (f ∷ filter (λ g. not g.derived) fields) (filter (λ g. not g.derived) fields)) cells
    → IsGoodCell b f (slice_index ns 0) (if b then digits f.width (slice_index ns 0) else unwrap_or (slice_get cells 0) [])
    × AreGood fields (rest_if b ns) (row_cells fields (rest_if b ns) (rest_if (not b) cells))
good_of_by true f fields ns cells ih h = (refl, ih (drop 1 ns) cells h)
good_of_by false f fields ns [] ih h = absurd h
good_of_by false f fields ns (c ∷ cells) ih h = (h.0.1, ih ns cells h.1)

-- the cells of a record's row are good
pub good_cells : (fields : List FieldLayout) (ns : List ℕ) (cells : List (List ℕ))
    → AllZip IsCellOf (filter (λ g. not g.derived) fields) cells → AreGood fields ns (row_cells fields ns cells)
good_cells [] ns cells h = tt
good_cells (f ∷ fields) ns cells h = good_of_by f.derived f fields ns cells (good_cells fields) h

-- what the line of a record's row is cut into
pub record IsCutGood (numbers : List ℕ) (kind : Kind) (line : List ℕ) : Type 0 where
  pub kind_is : line_kind line ≡ Some kind
  pub excess : has_bad_excess line ≡ false
  pub good : AreGood (fields_after_type kind) numbers (drop 1 (line_cells line))

-- the line of a record's row has its kind, good cells and nothing after them
pub line_is_good : (numbers : List ℕ) (r : RecordValue) (line : List ℕ) → IsRecord r → IsLineOf (row_of numbers r) line
    → IsCutGood numbers r.kind line
line_is_good numbers r line h l =
    let cut = line_is_cut (row_of numbers r) line (IsRow-row_of numbers r h) l in
    record {
      kind_is = cut.kind;
      excess = cut.excess;
      good =
          subst (λ (cs : List (List ℕ)). AreGood (fields_after_type r.kind) numbers (drop 1 cs)) (sym cut.cells)
          (good_cells (fields_after_type r.kind) numbers r.cells h);
    }
