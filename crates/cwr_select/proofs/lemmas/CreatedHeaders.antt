-- The cells of HDR, and that with those of a moment they are a record.
use Rattle.std.proofs.Common.{◌≡◌, ℕ, ◌<◌, Bool, true, false, cond, List, [], ◌∷◌, length}
use Rattle.std.proofs.Common.{refl, sym, ap, ap₂, subst, ◌∙◌, arith}
use Rattle.std.specs.Prelude.{drop, is_some, nat_lt, unwrap_or}
use Rattle.std.specs.List.{AllZip}
use Rattle.cwr_fields.specs.declared.kinds.Kind.{Kind}
use Rattle.cwr_fields.specs.declared.kinds.Kind.TheVariants as kinds
use Rattle.cwr_fields.specs.Format.Bytes.{number_of}
use Rattle.cwr_fields.specs.Format.DateLaws.{day_fits, day_width}
use Rattle.cwr_fields.specs.Format.TimeLaws.{time_fits, time_width}
use Rattle.cwr_fields.specs.Format.Layouts.{FieldLayout}
use Rattle.cwr_lines.specs.Format.Carried.{carried_at, record_cell, set_cell}
use Rattle.cwr_lines.specs.Format.Records.{IsCellOf, IsRecord, RecordValue, carried_fields, cell_named}
use Rattle.cwr_moments.specs.declared.moments.Moment.{Moment}
use Rattle.cwr_select.specs.Format.Created.{created_header, day_cell, later_day, time_cell}
use Rattle.cwr_select.specs.Steps.Headers.{IsWholeCell}
use Rattle.cwr_select.proofs.lemmas.WholeCells.{shown_cell}

-- ---- the cells of HDR

-- a cell of an HDR record is whole
pub header_cell : (r : RecordValue) (j : ℕ) (text : List ℕ) → r.kind ≡ kinds.Hdr → IsRecord r
    → text ≡ unwrap_or (record_cell r j) [] → is_some (carried_at kinds.Hdr j) ≡ true → IsWholeCell kinds.Hdr j text
header_cell r j text e fits is some =
    subst (λ (k : Kind). IsWholeCell k j text) e
    (shown_cell r j text fits is (ap (λ (k : Kind). is_some (carried_at k j)) e ∙ some))

pub later_cell : (a b : List ℕ) → IsWholeCell kinds.Hdr 8 a → IsWholeCell kinds.Hdr 8 b → IsWholeCell kinds.Hdr 8 (later_day a b)
later_cell a b h k = by (nat_lt (number_of a) (number_of b))
  where
    by : (c : Bool) → IsWholeCell kinds.Hdr 8 (cond c b a)
    by true = k
    by false = h

pub day_is_cell : (m : Moment) → IsWholeCell kinds.Hdr 8 (day_cell m)
day_is_cell m =
    (day_width m.date.year m.date.month m.date.day, day_fits m.date.year m.date.month m.date.day m.date.after_zero m.date.civil)

pub time_is_cell : (m : Moment) → IsWholeCell kinds.Hdr 7 (time_cell m)
time_is_cell m = (
  time_width m.time.hour m.time.minute m.time.second,
  time_fits 24 m.time.hour m.time.minute m.time.second m.time.hours m.time.minutes m.time.seconds,
)

-- its eight cells
pub record AreHeaderCells (r : RecordValue) : Type 0 where
  pub sender_type : List ℕ
  pub sender : List ℕ
  pub name : List ℕ
  pub version : List ℕ
  pub date : List ℕ
  pub time : List ℕ
  pub transmitted : List ℕ
  pub characters : List ℕ
  pub record_is : r ≡ record {
    kind = kinds.Hdr;
    cells = sender_type ∷ sender ∷ name ∷ version ∷ date ∷ time ∷ transmitted ∷ characters ∷ [];
  }

first_cell : (fields : List FieldLayout) (cells : List (List ℕ)) → 0 < length fields → AllZip IsCellOf fields cells
    → (c : List ℕ) × (rest : List (List ℕ)) × (cells ≡ c ∷ rest) × AllZip IsCellOf (drop 1 fields) rest
first_cell [] cells some h = absurd (omega (arith, some))
first_cell (f ∷ fields) [] some h = absurd h
first_cell (f ∷ fields) (c ∷ rest) some h = (c, rest, refl, h.1)

no_cell : (cells : List (List ℕ)) → AllZip IsCellOf [] cells → cells ≡ []
no_cell [] h = refl
no_cell (c ∷ rest) h = absurd h

-- HDR's carried fields from one on
abbrev fields_from : ℕ → List FieldLayout
fields_from n = drop n (carried_fields kinds.Hdr)

pub header_cells : (r : RecordValue) → r.kind ≡ kinds.Hdr → IsRecord r → AreHeaderCells r
header_cells r e fits =
    let all = subst (λ (k : Kind). AllZip IsCellOf (carried_fields k) r.cells) e fits in
    let a = first_cell (fields_from 0) r.cells (omega arith) all in
    let b = first_cell (fields_from 1) a.1 (omega arith) a.3 in
    let c = first_cell (fields_from 2) b.1 (omega arith) b.3 in
    let d = first_cell (fields_from 3) c.1 (omega arith) c.3 in
    let f = first_cell (fields_from 4) d.1 (omega arith) d.3 in
    let g = first_cell (fields_from 5) f.1 (omega arith) f.3 in
    let h = first_cell (fields_from 6) g.1 (omega arith) g.3 in
    let k = first_cell (fields_from 7) h.1 (omega arith) h.3 in
    let none : k.1 ≡ [] = no_cell k.1 k.3 in
    let cells : r.cells ≡ a.0 ∷ b.0 ∷ c.0 ∷ d.0 ∷ f.0 ∷ g.0 ∷ h.0 ∷ k.0 ∷ [] =
    a.2 ∙ ap (λ (l : List (List ℕ)). a.0 ∷ l) (b.2 ∙ ap (λ (l : List (List ℕ)). b.0 ∷ l) (c.2
    ∙ ap (λ (l : List (List ℕ)). c.0 ∷ l) (d.2 ∙ ap (λ (l : List (List ℕ)). d.0 ∷ l) (f.2
    ∙ ap (λ (l : List (List ℕ)). f.0 ∷ l) (g.2 ∙ ap (λ (l : List (List ℕ)). g.0 ∷ l) (h.2
    ∙ ap (λ (l : List (List ℕ)). h.0 ∷ l) (k.2 ∙ ap (λ (l : List (List ℕ)). k.0 ∷ l) none))))))) in
    record {
      sender_type = a.0;
      sender = b.0;
      name = c.0;
      version = d.0;
      date = f.0;
      time = g.0;
      transmitted = h.0;
      characters = k.0;
      record_is = λ i. record { kind = e i; cells = cells i };
    }

-- the cell of a field, and none where it has none
abbrev cell_of : RecordValue → ℕ → List ℕ
cell_of r j = unwrap_or (record_cell r j) []

-- the transmission date is its eighth field
transmitted_named : (r : RecordValue) → r.kind ≡ kinds.Hdr → IsRecord r → cell_of r 8 ≡ cell_named "transmission date" r
transmitted_named r e fits =
    let h = header_cells r e fits in
    let known : RecordValue = record {
      kind = kinds.Hdr;
      cells = h.sender_type ∷ h.sender ∷ h.name ∷ h.version ∷ h.date ∷ h.time ∷ h.transmitted ∷ h.characters ∷ [];
    } in
    let own : cell_of known 8 ≡ cell_named "transmission date" known = refl in
    ap (λ (s : RecordValue). cell_of s 8) h.record_is ∙ own
    ∙ ap (λ (s : RecordValue). cell_named "transmission date" s) (sym h.record_is)

-- a copy of its cells in which those of the moment are set
pub assembled : (m : Moment) (r : RecordValue) (shown day time date : List ℕ) → r.kind ≡ kinds.Hdr → IsRecord r
    → shown ≡ cell_of r 8 → day ≡ day_cell m → time ≡ time_cell m → date ≡ later_day shown day
    → set_cell 8 date (set_cell 7 time (set_cell 6 day (record { kind = kinds.Hdr; cells = r.cells }))) ≡ created_header m r
assembled m r shown day time date e fits s d t l =
    let same : record { kind = kinds.Hdr; cells = r.cells } ≡ r = λ i. record { kind = sym e i; cells = r.cells } in
    let named : shown ≡ cell_named "transmission date" r = s ∙ transmitted_named r e fits in
    let last : date ≡ later_day (cell_named "transmission date" r) (day_cell m) = l ∙ ap₂ later_day named d in
    λ i. set_cell 8 (last i) (set_cell 7 (t i) (set_cell 6 (d i) (same i)))

-- and that is a record
right_of : (m : Moment) (a b c d day time e f : List ℕ)
    → IsRecord (record { kind = kinds.Hdr; cells = a ∷ b ∷ c ∷ d ∷ day ∷ time ∷ e ∷ f ∷ [] })
    → IsRecord (created_header m (record { kind = kinds.Hdr; cells = a ∷ b ∷ c ∷ d ∷ day ∷ time ∷ e ∷ f ∷ [] }))
right_of m a b c d day time e f h = (
  h.0,
  (
    h.1.0,
    (
      h.1.1.0,
      (
        h.1.1.1.0,
        (
          day_is_cell m,
          (
            (
              time_width m.time.hour m.time.minute m.time.second,
              time_fits 24 m.time.hour m.time.minute m.time.second m.time.hours m.time.minutes m.time.seconds,
            ),
            (later_cell e (day_cell m) h.1.1.1.1.1.1.0 (day_is_cell m), (h.1.1.1.1.1.1.1.0, tt)),
          ),
        ),
      ),
    ),
  ),
)

pub right_header : (m : Moment) (r : RecordValue) → r.kind ≡ kinds.Hdr → IsRecord r → IsRecord (created_header m r)
right_header m r e fits =
    let h = header_cells r e fits in
    subst (λ (s : RecordValue). IsRecord (created_header m s)) (sym h.record_is)
    (right_of m h.sender_type h.sender h.name h.version h.date h.time h.transmitted h.characters
    (subst IsRecord h.record_is fits))
