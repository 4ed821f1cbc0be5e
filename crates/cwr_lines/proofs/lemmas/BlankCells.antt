-- The blank cells of a kind, one after the other, carry the blank record.
use Rattle.std.proofs.Common.{◌≡◌, ℕ, zero, suc, ◌+◌, ◌<◌, ◌≤◌, Bool, true, false, not, ◌&&◌, cond, List, [], ◌∷◌, ◌++◌, length}
use Rattle.std.proofs.Common.{map, take, filter, option_map, slice_get, refl, sym, ap, ◌∙◌, arith, append-nil, append_assoc}
use Rattle.std.proofs.Common.{add-one, get_or}
use Rattle.std.specs.Prelude.{Some, unwrap_or, ◌==◌, Result, Ok, Err, IsOk, OnOk}
use Rattle.std.specs.Option.{ForSome}
use Rattle.std.specs.List.{AllZip, concat, list_all, zip}
use Rattle.std.proofs.lemmas.Bool.{and_parts, eqb-true, false≢true}
use Rattle.std.proofs.lemmas.List.{length-replicate, length-map, take_all}
use Rattle.std.proofs.lemmas.List.Sums.{sum_by-cons}
use Rattle.std.proofs.lemmas.Option.{slice_get-map}
use Rattle.cwr_fields.specs.declared.cell_types.CellType.{CellType}
use Rattle.cwr_fields.specs.declared.cell_types.CellType.TheVariants.{Text, Required, Number, OptNumber, Date, OptDate, Time}
use Rattle.cwr_fields.specs.declared.cell_types.CellType.TheVariants.{OptTime, OptDuration, Share, Flag, Code, OptCode, Constant}
use Rattle.cwr_fields.specs.declared.cell_types.Word.{Word}
use Rattle.cwr_fields.specs.declared.cell_types.Word.TheVariants.{Edi, Group}
use Rattle.cwr_fields.specs.Format.Cells.{type_width}
use Rattle.cwr_fields.specs.Format.Codes.{word_text}
use Rattle.cwr_fields.specs.declared.kinds.Kind.{Kind}
use Rattle.cwr_fields.specs.declared.layouts.Field.{Field}
use Rattle.cwr_fields.specs.Format.Layouts.{FieldLayout, layout, fields_with_starts, total_width}
use Rattle.cwr_lines.specs.Format.Lines.{pieces}
use Rattle.cwr_lines.specs.Format.Records.{blank_cell, blank_record}
use Rattle.cwr_lines.specs.Steps.Carried.{carried_cells, record_in}
use Rattle.cwr_fields.specs.Steps.Views.{field_view}
use Rattle.cwr_fields.proofs.lemmas.AllKinds.{line_width_widest}
use Rattle.cwr_lines.proofs.lemmas.CarriedCells.{widths}
use Rattle.cwr_lines.proofs.lemmas.CellParts.{field_part_within}
use Rattle.cwr_fields.proofs.lemmas.FieldStarts.{without_starts}
use Rattle.cwr_lines.proofs.lemmas.CutLaws.{pieces_of}
use Rattle.cwr_lines.proofs.lemmas.GoodLinesAreRows.{carried_in}
use Rattle.cwr_lines.proofs.lemmas.RowLaws.{length-concat}
use Rattle.cwr_fields.proofs.lemmas.TypeWidths.{is_wide, all_wide, type_width-field}

-- a field's cell in which nothing was set
abbrev pub blank_of : FieldLayout → List ℕ
blank_of f = blank_cell f.ty f.width

-- the blank cells of some fields, one after the other
abbrev pub blank_text : List FieldLayout → List ℕ
blank_text fields = concat (map blank_of fields)

length-word : (word : Word) → length (word_text word) ≡ 5
length-word Edi = refl
length-word Group = refl

-- a blank cell has its field's width
length-blank_cell : (ty : CellType) (width : ℕ) → unwrap_or (option_map (λ w. w == width) (type_width ty)) true ≡ true
    → length (blank_cell ty width) ≡ width
length-blank_cell Text width h = length-replicate width 32
length-blank_cell Required width h = length-replicate width 32
length-blank_cell Number width h = length-replicate width 32
length-blank_cell OptNumber width h = length-replicate width 32
length-blank_cell Date width h = length-replicate width 32
length-blank_cell OptDate width h = length-replicate width 32
length-blank_cell Time width h = length-replicate width 32
length-blank_cell OptTime width h = length-replicate width 32
length-blank_cell OptDuration width h = length-replicate width 32
length-blank_cell Share width h = length-replicate width 32
length-blank_cell Flag width h = length-replicate width 32
length-blank_cell (Code table) width h = length-replicate width 32
length-blank_cell (OptCode table) width h = length-replicate width 32
length-blank_cell (Constant word) width h = length-word word ∙ eqb-true 5 width h

-- the blank cells of fields, each as wide as its type has it, have their fields' widths
blanks_wide : (fields : List FieldLayout) → list_all is_wide fields ≡ true
    → AllZip (λ f text. length text ≡ f.width) fields (map blank_of fields)
blanks_wide [] h = tt
blanks_wide (f ∷ fields) h =
    let p = and_parts (is_wide f) (list_all is_wide fields) h in (length-blank_cell f.ty f.width p.0, blanks_wide fields p.1)

carried_first : (b : Bool) (f : FieldLayout) (fields : List FieldLayout) (rest : List (FieldLayout × List ℕ))
    → map (λ p. p.1) rest ≡ map blank_of (filter (λ g. not g.derived) fields)
    → map (λ p. p.1) (cond (not b) ((f, blank_of f) ∷ rest) rest)
    ≡ map blank_of (cond (not b) (f ∷ filter (λ g. not g.derived) fields) (filter (λ g. not g.derived) fields))
carried_first true f fields rest h = h
carried_first false f fields rest h = ap (λ (xs : List (List ℕ)). blank_of f ∷ xs) h

-- what is carried in blank cells
carried_in-blanks : (fields : List FieldLayout)
    → carried_in fields (map blank_of fields) ≡ map blank_of (filter (λ f. not f.derived) fields)
carried_in-blanks [] = refl
carried_in-blanks (f ∷ fields) =
    carried_first f.derived f fields (filter (λ p. not p.0.derived) (zip fields (map blank_of fields))) (carried_in-blanks fields)

-- the blank line of a kind carries the blank record
pub record_in-blank : (kind : Kind) → record_in kind (blank_text (layout kind)) ≡ blank_record kind
unfolding carried_cells
record_in-blank kind =
    let cut : pieces (widths kind) (blank_text (layout kind)) ≡ map blank_of (layout kind) =
    ap (pieces (widths kind)) (sym (append-nil (blank_text (layout kind))))
    ∙ pieces_of (layout kind) (map blank_of (layout kind)) [] (blanks_wide (layout kind) (all_wide kind)) in
    let cells : carried_in (layout kind) (pieces (widths kind) (blank_text (layout kind)))
    ≡ map blank_of (filter (λ f. not f.derived) (layout kind)) =
    ap (carried_in (layout kind)) cut ∙ carried_in-blanks (layout kind) in
    λ i. record { kind = kind; cells = cells i }

-- ---- a blank line, cell by cell

wide_front : (fields : List FieldLayout) (k : ℕ) → list_all is_wide fields ≡ true → list_all is_wide (take k fields) ≡ true
wide_front fields zero h = refl
wide_front [] (suc k) h = refl
wide_front (f ∷ fields) (suc k) h =
    let p = and_parts (is_wide f) (list_all is_wide fields) h in
    ap (λ (b : Bool). b && list_all is_wide (take k fields)) p.0 ∙ wide_front fields k p.1

item_at : (items : List Field) (k : ℕ) (d : Field) → k < length items → slice_get items k ≡ Some (get_or items k d)
item_at [] k d h = absurd (omega arith)
item_at (x ∷ items) zero d h = refl
item_at (x ∷ items) (suc k) d h = item_at items k d (omega arith)

start_by : (at : ℕ) (fields : List FieldLayout) (k : ℕ) (p : ℕ × FieldLayout)
    → slice_get (fields_with_starts at fields) k ≡ Some p → p.0 ≡ at + total_width (take k fields)
start_by at [] k p e = absurd (cc e)
start_by at (f ∷ fields) zero p e = let same : (at, f) ≡ p = cc e in rw (← same) (omega arith)
start_by at (f ∷ fields) (suc k) p e =
    omega (arith, start_by (at + f.width) fields k p e, sum_by-cons (λ (g : FieldLayout). g.width) f (take k fields))

-- a place of the table, and what stands before it in a blank line
pub record IsFieldAt (kind : Kind) (k : ℕ) (place : Field) : Type 0 where
  pub found : slice_get (fields_with_starts 0 (layout kind)) k ≡ Some (field_view place)
  pub field : slice_get (layout kind) k ≡ Some (field_view place).1

pub is_field_at : (kind : Kind) (items : List Field) (k : ℕ) (d : Field)
    → map field_view items ≡ fields_with_starts 0 (layout kind) → k < length items → IsFieldAt kind k (get_or items k d)
is_field_at kind items k d e h =
    let found : slice_get (fields_with_starts 0 (layout kind)) k ≡ Some (field_view (get_or items k d)) =
    ap (λ (xs : List (ℕ × FieldLayout)). slice_get xs k) (sym e) ∙ slice_get-map field_view items k
    ∙ ap (option_map field_view) (item_at items k d h) in
    record
    { found = found; field = sym (without_starts 0 (layout kind) k) ∙ ap (option_map (λ (p : ℕ × FieldLayout). p.1)) found }

-- the blank cells before a field end where it starts
pub blank_begins : (kind : Kind) (k : ℕ) (place : Field) (text : List ℕ) → IsFieldAt kind k place
    → text ≡ blank_text (take k (layout kind)) → length text ≡ place.start
blank_begins kind k place text h e =
    let count : length text ≡ total_width (take k (layout kind)) =
    ap length e ∙ length-concat (take k (layout kind)) (map blank_of (take k (layout kind)))
    (blanks_wide (take k (layout kind)) (wide_front (layout kind) k (all_wide kind))) in
    omega (arith, count, start_by 0 (layout kind) k (field_view place) h.found)

pub field_in_line : (kind : Kind) (k : ℕ) (place : Field) → IsFieldAt kind k place → place.start + place.width ≤ 719
field_in_line kind k place h =
    omega (arith, field_part_within 0 (layout kind) k (field_view place) h.found, line_width_widest kind)

pub width_is_type : (kind : Kind) (k : ℕ) (place : Field) → IsFieldAt kind k place → (w : ℕ) → type_width place.ty ≡ Some w
    → w ≡ place.width
width_is_type kind k place h w e = sym (type_width-field kind (suc k) (field_view place).1 w h.field e)

blank_next : (fields : List FieldLayout) (k : ℕ) (f : FieldLayout) → slice_get fields k ≡ Some f
    → blank_text (take (suc k) fields) ≡ blank_text (take k fields) ++ blank_of f
blank_next [] k f e = absurd (cc e)
blank_next (g ∷ fields) zero f e = let same : g ≡ f = cc e in append-nil (blank_of g) ∙ ap blank_of same
blank_next (g ∷ fields) (suc k) f e =
    ap (λ (x : List ℕ). blank_of g ++ x) (blank_next fields k f e)
    ∙ sym (append_assoc (blank_of g) (blank_text (take k fields)) (blank_of f))

-- with the blank cell of the next field
pub blank_more : (kind : Kind) (k : ℕ) (place : Field) (old new : List ℕ) → IsFieldAt kind k place
    → old ≡ blank_text (take k (layout kind)) → new ≡ old ++ blank_cell place.ty place.width
    → new ≡ blank_text (take (k + 1) (layout kind))
blank_more kind k place old new h e n =
    rw add-one (n ∙ ap (λ (x : List ℕ). x ++ blank_cell place.ty place.width) e
    ∙ sym (blank_next (layout kind) k (field_view place).1 h.field))

pub length-with_starts : (at : ℕ) (fields : List FieldLayout) → length (fields_with_starts at fields) ≡ length fields
length-with_starts at [] = refl
length-with_starts at (f ∷ fields) = ap suc (length-with_starts (at + f.width) fields)

-- the blank cells of all fields are the blank line
pub blank_whole : (kind : Kind) (items : List Field) (k : ℕ) (text : List ℕ)
    → map field_view items ≡ fields_with_starts 0 (layout kind) → length items ≤ k → text ≡ blank_text (take k (layout kind))
    → text ≡ blank_text (layout kind)
blank_whole kind items k text e h t =
    let count : length items ≡ length (layout kind) =
    sym (length-map items field_view) ∙ ap length e ∙ length-with_starts 0 (layout kind) in
    t ∙ ap blank_text (take_all k (layout kind) (omega arith))

-- a word that is appended is the blank cell of its field
pub word_pushed : {T E : Type 0} (r : Result T E) (ty : CellType) (word : Word) (width start : ℕ) (old new text : List ℕ)
    → ty ≡ Constant word → ForSome (type_width ty) (λ w. w ≡ width)
    → length old ≡ start → start + width ≤ 719 → text ≡ word_text word → (length old + length text ≤ 719 → IsOk r)
    → OnOk r (new ≡ old ++ text) → new ≡ old ++ blank_cell ty width
word_pushed (Ok x) ty word width start old new text e f b w t v o =
    o ∙ ap (λ (z : List ℕ). old ++ z) (t ∙ ap (λ (z : CellType). blank_cell z width) (sym e))
word_pushed (Err x) ty word width start old new text e f b w t v o =
    let five : 5 ≡ width = f 5 (ap type_width e) in
    let count : length text ≡ 5 = ap length t ∙ length-word word in
    absurd (false≢true (v (omega arith)))
