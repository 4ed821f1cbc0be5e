-- The line of a row is cut into the row's cells.
use Rattle.std.proofs.Common.{◌≡◌, ℕ, zero, suc, ◌+◌, ◌-◌, ◌≤◌, Bool, true, false, not, cond, ◌||◌, List, [], ◌∷◌, ◌++◌, length}
use Rattle.std.proofs.Common.{map, take, drop, replicate, refl, sym, ap, ap₂, ◌∙◌, append_assoc, arith}
use Rattle.std.specs.Prelude.{Option, Some}
use Rattle.cwr_fields.specs.declared.kinds.Kind.{Kind}
use Rattle.std.specs.List.{AllZip, concat}
use Rattle.std.proofs.lemmas.Bool.{le-ltb}
use Rattle.std.proofs.lemmas.List.{length-append, length-replicate, replicate-append-replicate}
use Rattle.std.proofs.Math.Seq.{take-append_seam, drop-append_seam, drop-append-add}
use Rattle.cwr_fields.specs.Format.Bytes.{is_spaces, trimmed, filled}
use Rattle.cwr_fields.specs.Format.Kinds.{letters, kind_of}
use Rattle.cwr_fields.specs.Format.Layouts.{FieldLayout, layout, line_width}
use Rattle.cwr_lines.specs.Format.Records.{Row, IsRow, full_line}
use Rattle.cwr_lines.specs.Format.Lines.{IsLineOf, longest_line, without_cr, is_too_long, line_body, pieces, line_kind}
use Rattle.cwr_lines.specs.Format.Lines.{line_cells, cells_as, excess_as, has_bad_excess}
use Rattle.cwr_fields.proofs.lemmas.TrimmedTexts.{spaces_after}
use Rattle.cwr_fields.proofs.lemmas.AllKinds.{kind_of-letters, length-letters, trimmed-letters}
use Rattle.cwr_lines.proofs.lemmas.RowLaws.{length-concat, begins_with}

pub pieces_of : (fields : List FieldLayout) (cells : List (List ℕ)) (rest : List ℕ)
    → AllZip (λ f text. length text ≡ f.width) fields cells → pieces (map (λ f. f.width) fields) (concat cells ++ rest) ≡ cells
pieces_of [] [] rest h = refl
pieces_of [] (c ∷ cells) rest h = absurd h
pieces_of (f ∷ fields) [] rest h = absurd h
pieces_of (f ∷ fields) (c ∷ cells) rest h =
    let whole : (c ++ concat cells) ++ rest ≡ c ++ (concat cells ++ rest) = append_assoc c (concat cells) rest in
    let first : take f.width ((c ++ concat cells) ++ rest) ≡ c =
    ap (take f.width) whole ∙ ap (λ (n : ℕ). take n (c ++ (concat cells ++ rest))) (sym h.0)
    ∙ take-append_seam c (concat cells ++ rest) in
    let others : drop f.width ((c ++ concat cells) ++ rest) ≡ concat cells ++ rest =
    ap (drop f.width) whole ∙ ap (λ (n : ℕ). drop n (c ++ (concat cells ++ rest))) (sym h.0)
    ∙ drop-append_seam c (concat cells ++ rest) in
    ap₂ (λ (a : List ℕ) (b : List (List ℕ)). a ∷ b) first
    (ap (pieces (map (λ g. g.width) fields)) others ∙ pieces_of fields cells rest h.1)

spaces_all : (n : ℕ) → is_spaces (replicate n 32) ≡ true
spaces_all zero = refl
spaces_all (suc n) = spaces_all n

-- two texts that differ in trailing spaces alone
pub record SameButSpaces (x y : List ℕ) : Type 0 where
  pub text : List ℕ
  pub m : ℕ
  pub n : ℕ
  pub first : x ≡ text ++ replicate m 32
  pub second : y ≡ text ++ replicate n 32

same_but_spaces : (x y : List ℕ) → trimmed x ≡ trimmed y → SameButSpaces x y
same_but_spaces x y e =
    let p = spaces_after x in
    let q = spaces_after y in
    record { text = trimmed x; m = p.0; n = q.0; first = p.1; second = q.1 ∙ ap (λ (t : List ℕ). t ++ replicate q.0 32) (sym e) }

-- filled up to the length of the second, the first is the second and spaces
filled_same : (x y : List ℕ) → SameButSpaces x y → (j : ℕ) × (filled (length y) x ≡ y ++ replicate j 32)
filled_same x y s =
    let lx : length x ≡ length s.text + s.m =
    ap length s.first ∙ length-append s.text (replicate s.m 32)
    ∙ ap (λ (k : ℕ). length s.text + k) (length-replicate s.m 32) in
    let ly : length y ≡ length s.text + s.n =
    ap length s.second ∙ length-append s.text (replicate s.n 32)
    ∙ ap (λ (k : ℕ). length s.text + k) (length-replicate s.n 32) in
    let more : ℕ = length y - length x in
    let count : s.m + more ≡ s.n + (s.m + more - s.n) = omega arith in (
      s.m + more - s.n,
      ap (λ (t : List ℕ). t ++ replicate more 32) s.first ∙ append_assoc s.text (replicate s.m 32) (replicate more 32)
          ∙ ap (λ (t : List ℕ). s.text ++ t) (replicate-append-replicate s.m more 32 ∙ ap (λ (k : ℕ). replicate k 32) count
          ∙ sym (replicate-append-replicate s.n (s.m + more - s.n) 32))
          ∙ sym (append_assoc s.text (replicate s.n 32) (replicate (s.m + more - s.n) 32))
          ∙ ap (λ (t : List ℕ). t ++ replicate (s.m + more - s.n) 32) (sym s.second),
    )

drop_spaces : (k n : ℕ) → (j : ℕ) × (drop {A = ℕ} k (replicate n 32) ≡ replicate j 32)
drop_spaces zero n = (n, refl)
drop_spaces (suc k) zero = (0, refl)
drop_spaces (suc k) (suc n) = drop_spaces k n

-- what stands after the length of the second is spaces
excess_same : (x y : List ℕ) → SameButSpaces x y → is_spaces (drop (length y) x) ≡ true
excess_same x y s =
    let ly : length y ≡ length s.text + s.n =
    ap length s.second ∙ length-append s.text (replicate s.n 32)
    ∙ ap (λ (k : ℕ). length s.text + k) (length-replicate s.n 32) in
    let d = drop_spaces s.n s.m in
    let rest : drop (length y) x ≡ replicate d.0 32 =
    ap (λ (k : ℕ). drop k x) ly ∙ ap (drop (length s.text + s.n)) s.first ∙ drop-append-add s.text (replicate s.m 32) s.n
    ∙ d.1 in
    ap is_spaces rest ∙ spaces_all d.0

pub not_too_long : (line : List ℕ) → length line ≤ longest_line → is_too_long line ≡ false
not_too_long line h = le-ltb longest_line (length line) h

pub body_of : (line : List ℕ) → length line ≤ longest_line → line_body line ≡ without_cr line
body_of line h = ap (λ (b : Bool). cond b (take longest_line line) (without_cr line)) (not_too_long line h)

kind_of_body : (row : Row) (body : List ℕ) → IsRow row → trimmed body ≡ trimmed (full_line row)
    → kind_of (take 3 (filled 3 body)) ≡ Some row.kind
kind_of_body row body h e =
    let b = begins_with row h in
    let t = trimmed-letters row.kind b.0 in
    let s = spaces_after body in
    let front : trimmed body ≡ letters row.kind ++ t.0 = e ∙ ap trimmed b.1 ∙ t.1 in
    let whole : filled 3 body ≡ letters row.kind ++ (t.0 ++ (replicate s.0 32 ++ replicate (3 - length body) 32)) =
    ap (λ (x : List ℕ). x ++ replicate (3 - length body) 32) (s.1 ∙ ap (λ (x : List ℕ). x ++ replicate s.0 32) front)
    ∙ append_assoc (letters row.kind ++ t.0) (replicate s.0 32) (replicate (3 - length body) 32)
    ∙ append_assoc (letters row.kind) t.0 (replicate s.0 32 ++ replicate (3 - length body) 32) in
    ap (λ (x : List ℕ). kind_of (take 3 x)) whole
    ∙ ap (λ (n : ℕ). kind_of (take n (letters row.kind ++ (t.0 ++ (replicate s.0 32 ++ replicate (3 - length body) 32)))))
    (sym (length-letters row.kind))
    ∙ ap kind_of (take-append_seam (letters row.kind) (t.0 ++ (replicate s.0 32 ++ replicate (3 - length body) 32)))
    ∙ kind_of-letters row.kind

-- what a line of a row is cut into
pub record IsCutInto (line : List ℕ) (row : Row) : Type 0 where
  pub kind : line_kind line ≡ Some row.kind
  pub cells : line_cells line ≡ row.cells
  pub excess : has_bad_excess line ≡ false

pub line_is_cut : (row : Row) (line : List ℕ) → IsRow row → IsLineOf row line → IsCutInto line row
line_is_cut row line h l =
    let body : line_body line ≡ without_cr line = body_of line l.1 in
    let kind : line_kind line ≡ Some row.kind =
    ap (λ (b : List ℕ). kind_of (take 3 (filled 3 b))) body ∙ kind_of_body row (without_cr line) h l.2 in
    let width : length (full_line row) ≡ line_width row.kind = length-concat (layout row.kind) row.cells h.widths in
    let same : SameButSpaces (without_cr line) (full_line row) = same_but_spaces (without_cr line) (full_line row) l.2 in
    let fill = filled_same (without_cr line) (full_line row) same in
    record {
      kind = kind;
      cells =
          ap₂ cells_as kind body
          ∙ ap (λ (n : ℕ). pieces (map (λ f. f.width) (layout row.kind)) (filled n (without_cr line))) (sym width)
          ∙ ap (pieces (map (λ f. f.width) (layout row.kind))) fill.1
          ∙ pieces_of (layout row.kind) row.cells (replicate fill.0 32) h.widths;
      excess =
          ap (λ (k : Option Kind). excess_as k (is_too_long line) (line_body line)) kind
          ∙ ap₂ (λ (o : Bool) (b : List ℕ). o || not (is_spaces (drop (line_width row.kind) b))) (not_too_long line l.1) body
          ∙ ap (λ (n : ℕ). not (is_spaces (drop n (without_cr line)))) (sym width)
          ∙ ap not (excess_same (without_cr line) (full_line row) same);
    }
