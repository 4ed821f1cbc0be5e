-- The canonical text of a transmission, group by group.
use Rattle.std.proofs.Common.{◌≡◌, ℕ, ◌+◌, List, [], ◌∷◌, ◌++◌, length, map, refl, ap, ap₂, ◌∙◌, append-nil}
use Rattle.std.specs.Prelude.{sum_by}
use Rattle.std.specs.List.{flat_map, enumerate_from}
use Rattle.std.proofs.lemmas.List.{length-map}
use Rattle.std.proofs.lemmas.List.Concat.{flat_map-append}
use Rattle.cwr_lines.specs.Format.Records.{RecordValue, Row, row_of}
use Rattle.cwr_shape.specs.Format.Numbers.{group_records, all_records}
use Rattle.cwr_values.specs.Format.Values.{GroupValue, TransmissionValue}
use Rattle.cwr_values.specs.Format.Rows.{canonical_line, canonical_text, lengths_of_value, trailer}
use Rattle.cwr_values.proofs.lemmas.RowsByParts.{rows_inside, rows_of_transactions, rows_of_group, rows_of_groups, foot_row, trailer_row}
use Rattle.cwr_values.proofs.lemmas.RowsByParts.{rows-parts}
use Rattle.cwr_encode.specs.Steps.Texts.{text_from}
use Rattle.cwr_encode.specs.Steps.GroupTexts.{text_of_group, text_of_groups}

inside_text : (j k : ℕ) (rs : List RecordValue) → flat_map canonical_line (rows_inside j k rs) ≡ text_from j k rs
inside_text j k [] = refl
inside_text j k (r ∷ rs) = ap (λ (l : List ℕ). canonical_line (row_of (j ∷ k ∷ []) r) ++ l) (inside_text j (k + 1) rs)

transactions_text : (j : ℕ) (ts : List (List RecordValue))
    → flat_map canonical_line (rows_of_transactions j ts) ≡ flat_map (λ p. text_from p.0 0 p.1) (enumerate_from j ts)
transactions_text j [] = refl
transactions_text j (t ∷ ts) =
    flat_map-append canonical_line (rows_inside j 0 t) (rows_of_transactions (j + 1) ts)
    ∙ ap₂ (λ (a b : List ℕ). a ++ b) (inside_text j 0 t) (transactions_text (j + 1) ts)

-- rows with one more at the end
with_last : (rs : List Row) (r : Row) → flat_map canonical_line (rs ++ r ∷ []) ≡ flat_map canonical_line rs ++ canonical_line r
with_last rs r =
    flat_map-append canonical_line rs (r ∷ [])
    ∙ ap (λ (l : List ℕ). flat_map canonical_line rs ++ l) (append-nil (canonical_line r))

foot_same : (n : ℕ) (g : GroupValue)
    → row_of (n ∷ length (map length g.transactions) ∷ group_records (map length g.transactions) ∷ []) g.foot
    ≡ row_of (n ∷ length g.transactions ∷ group_records (map length g.transactions) ∷ []) g.foot
foot_same n g =
    ap (λ (m : ℕ). row_of (n ∷ m ∷ group_records (map length g.transactions) ∷ []) g.foot) (length-map g.transactions length)

group_text : (i : ℕ) (g : GroupValue) → flat_map canonical_line (rows_of_group i g) ≡ text_of_group (i + 1) g
group_text i g =
    ap (λ (l : List ℕ). canonical_line (row_of ((i + 1) ∷ []) g.head) ++ l)
    (with_last (rows_of_transactions 0 g.transactions) (foot_row i g)
    ∙ ap₂ (λ (a : List ℕ) (r : Row). a ++ canonical_line r) (transactions_text 0 g.transactions) (foot_same (i + 1) g))

groups_text : (i : ℕ) (gs : List GroupValue)
    → flat_map canonical_line (rows_of_groups i gs) ≡ flat_map (λ p. text_of_group p.0 p.1) (enumerate_from (i + 1) gs)
groups_text i [] = refl
groups_text i (g ∷ gs) =
    flat_map-append canonical_line (rows_of_group i g) (rows_of_groups (i + 1) gs)
    ∙ ap₂ (λ (a b : List ℕ). a ++ b) (group_text i g) (groups_text (i + 1) gs)

last_same : (v : TransmissionValue) → trailer_row v
    ≡ row_of (length v.groups ∷ sum_by length (lengths_of_value v) ∷ all_records (lengths_of_value v) ∷ []) trailer
last_same v =
    ap (λ (m : ℕ). row_of (m ∷ sum_by length (lengths_of_value v) ∷ all_records (lengths_of_value v) ∷ []) trailer)
    (length-map v.groups (λ g. map length g.transactions))

-- TRL's line
abbrev pub last_line : TransmissionValue → List ℕ
last_line v =
    canonical_line (row_of (length v.groups ∷ sum_by length (lengths_of_value v) ∷ all_records (lengths_of_value v) ∷ []) trailer)

-- HDR, the groups, TRL
pub text-parts : (v : TransmissionValue)
    → canonical_text v ≡ canonical_line (row_of [] v.opening) ++ (text_of_groups v.groups ++ last_line v)
unfolding canonical_text
text-parts v =
    ap (flat_map canonical_line) (rows-parts v)
    ∙ ap (λ (l : List ℕ). canonical_line (row_of [] v.opening) ++ l)
    (with_last (rows_of_groups 0 v.groups) (trailer_row v)
    ∙ ap₂ (λ (a : List ℕ) (r : Row). a ++ canonical_line r) (groups_text 0 v.groups) (last_same v))
