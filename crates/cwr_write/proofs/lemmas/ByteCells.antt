-- The cells of each field are bytes, at most 700.
use Rattle.std.proofs.Common.{◌≡◌, ℕ, zero, suc, ◌+◌, ◌-◌, ◌/◌, ◌%◌, ◌<◌, ◌≤◌, Bool, true, ◌&&◌, List, [], ◌∷◌, ◌++◌, length}
use Rattle.std.proofs.Common.{replicate, Option, Some, None, refl, sym, ap, ap₂, subst, ◌∙◌, inl, inr, arith}
use Rattle.std.specs.Prelude.{◌==◌, IsSomeAnd, nat_le, nat_lt, slice_get, slice_index_or}
use Rattle.std.specs.List.{list_all, IsAmong}
use Rattle.std.proofs.lemmas.List.Folds.{list_all-append}
use Rattle.std.proofs.lemmas.Bool.{and_parts, eqb-true, lt-ltb}
use Rattle.cwr_fields.specs.declared.cell_types.CellType.{CellType}
use Rattle.cwr_fields.specs.declared.cell_types.CellType.TheVariants.{Text, Required, Number, OptNumber, Date, OptDate, Time}
use Rattle.cwr_fields.specs.declared.cell_types.CellType.TheVariants.{OptTime, OptDuration, Share, Flag, Code, OptCode, Constant}
use Rattle.cwr_fields.specs.declared.tables.Table.{Table}
use Rattle.cwr_fields.specs.declared.tables.Table.TheVariants as tables
use Rattle.cwr_fields.specs.declared.cell_types.Word.{Word}
use Rattle.cwr_fields.specs.declared.cell_types.Word.TheVariants as words
use Rattle.cwr_fields.specs.Format.Bytes.{digits, filled, is_plain, is_spaces}
use Rattle.cwr_fields.specs.Format.Codes.{codes_of, code_width, word_text}
use Rattle.cwr_fields.specs.Format.Cells.{Allows, SpellsDay, SpellsTime, SpellsCode, IsCodeOf, flag_texts}
use Rattle.cwr_fields.specs.declared.kinds.Kind.{Kind}
use Rattle.cwr_fields.specs.declared.kinds.Kind.TheVariants.{Hdr}
use Rattle.cwr_fields.specs.Format.Layouts.{FieldLayout, layout, field_at}
use Rattle.cwr_lines.specs.Format.Carried.{carried_at}
use Rattle.cwr_lines.proofs.lemmas.CarriedCells.{open_some}
use Rattle.cwr_write.specs.Format.Faults.{AreBytes}
use Rattle.cwr_write.specs.Steps.Filling.{FitsField}

abbrev are_bytes : List ℕ → Bool
are_bytes text = list_all (λ b. nat_lt b 256) text

both : (xs ys : List ℕ) → AreBytes xs → AreBytes ys → AreBytes (xs ++ ys)
both xs ys h k = list_all-append (λ b. nat_lt b 256) xs ys ∙ ap₂ (λ (x y : Bool). x && y) h k

one : (b : ℕ) → b < 256 → AreBytes (b ∷ [])
one b h = ap (λ (x : Bool). x && true) (lt-ltb b 256 h)

repeated : (n b : ℕ) → b < 256 → AreBytes (replicate n b)
repeated zero b h = refl
repeated (suc n) b h = ap₂ (λ (x y : Bool). x && y) (lt-ltb b 256 h) (repeated n b h)

of_digits : (width n : ℕ) → AreBytes (digits width n)
unfolding digits
of_digits zero n = refl
of_digits (suc width) n =
    both (digits width (n / 10)) ((48 + n % 10) ∷ []) (of_digits width (n / 10)) (one (48 + n % 10) (omega arith))

plain : (cell : List ℕ) → is_plain cell ≡ true → AreBytes cell
plain [] h = refl
plain (b ∷ cell) h =
    let parts = and_parts _ (is_plain cell) h in
    ap₂ (λ (x y : Bool). x && y) (and_parts (nat_lt b 256) _ parts.0).0 (plain cell parts.1)

spaces : (cell : List ℕ) → is_spaces cell ≡ true → AreBytes cell
spaces [] h = refl
spaces (b ∷ cell) h =
    let parts = and_parts (b == 32) (is_spaces cell) h in
    let here : b ≡ 32 = eqb-true b 32 parts.0 in
    ap₂ (λ (x y : Bool). x && y) (lt-ltb b 256 (omega arith)) (spaces cell parts.1)

among_all : (p : List ℕ → Bool) (list : List (List ℕ)) (x : List ℕ) (i : ℕ) → list_all p list ≡ true → i < length list
    → p (slice_index_or list i x) ≡ true
among_all p [] x i h k = absurd (omega arith)
among_all p (y ∷ list) x zero h k = (and_parts (p y) (list_all p list) h).0
among_all p (y ∷ list) x (suc i) h k = among_all p list x i (and_parts (p y) (list_all p list) h).1 (omega arith)

among : (list : List (List ℕ)) (x : List ℕ) → list_all are_bytes list ≡ true → IsAmong list x → AreBytes x
among list x h m = subst AreBytes (sym m.1.1) (among_all are_bytes list x m.0 h m.1.0)

codes_are : (table : Table) → list_all are_bytes (codes_of table) ≡ true
codes_are tables.Sender = refl
codes_are tables.TransactionType = refl
codes_are tables.AgreementType = refl
codes_are tables.Role = refl
codes_are tables.Prior = refl
codes_are tables.PostTerm = refl
codes_are tables.Sales = refl
codes_are tables.Sign = refl
codes_are tables.Category = refl
codes_are tables.Version = refl
codes_are tables.Composite = refl
codes_are tables.Excerpt = refl
codes_are tables.Publisher = refl
codes_are tables.Designation = refl
codes_are tables.Title = refl
codes_are tables.Status = refl
codes_are tables.Message = refl
codes_are tables.Recording = refl
codes_are tables.Technique = refl

code_of : (table : Table) (width : ℕ) (cell : List ℕ) → IsCodeOf (codes_of table) width cell → AreBytes cell
code_of table width cell c =
    subst AreBytes (sym c.2) (both c.0 (replicate (width - length c.0) 32) (among (codes_of table) c.0 (codes_are table) c.1)
    (repeated (width - length c.0) 32 (omega arith)))

code : (table : Table) (cell : List ℕ) → SpellsCode table cell → AreBytes cell
code tables.Sender cell (inl c) = code_of tables.Sender 2 cell c
code tables.Sender cell (inr c) = subst AreBytes (sym c.2) (of_digits 2 c.0)
code table cell c = code_of table (code_width table) cell c

day : (cell : List ℕ) → SpellsDay cell → AreBytes cell
day cell s =
    subst AreBytes (sym s.5) (both (digits 4 s.0 ++ digits 2 s.1) (digits 2 s.2)
    (both (digits 4 s.0) (digits 2 s.1) (of_digits 4 s.0) (of_digits 2 s.1)) (of_digits 2 s.2))

time : (bound : ℕ) (cell : List ℕ) → SpellsTime bound cell → AreBytes cell
time bound cell s =
    subst AreBytes (sym s.6) (both (digits 2 s.0 ++ digits 2 s.1) (digits 2 s.2)
    (both (digits 2 s.0) (digits 2 s.1) (of_digits 2 s.0) (of_digits 2 s.1)) (of_digits 2 s.2))

same : (n b : ℕ) (cell : List ℕ) → b < 256 → cell ≡ replicate n b → AreBytes cell
same n b cell h e = subst AreBytes (sym e) (repeated n b h)

word : (w : Word) → AreBytes (word_text w)
word words.Edi = refl
word words.Group = refl

pub allowed_bytes : (ty : CellType) (cell : List ℕ) → Allows ty cell → AreBytes cell
allowed_bytes Text cell h = plain cell h
allowed_bytes Required cell h = plain cell h.0
allowed_bytes Number cell s = subst AreBytes (sym s.3) (of_digits (length cell) s.0)
allowed_bytes OptNumber cell (inl h) = spaces cell h
allowed_bytes OptNumber cell (inr s) = subst AreBytes (sym s.3) (of_digits (length cell) s.0)
allowed_bytes Date cell s = day cell s
allowed_bytes OptDate cell (inl e) = same 8 32 cell (omega arith) e
allowed_bytes OptDate cell (inr (inl e)) = same 8 48 cell (omega arith) e
allowed_bytes OptDate cell (inr (inr s)) = day cell s
allowed_bytes Time cell s = time 24 cell s
allowed_bytes OptTime cell (inl e) = same 6 32 cell (omega arith) e
allowed_bytes OptTime cell (inr s) = time 24 cell s
allowed_bytes OptDuration cell (inl e) = same 6 32 cell (omega arith) e
allowed_bytes OptDuration cell (inr s) = time 100 cell s
allowed_bytes Share cell (inl e) = same 5 32 cell (omega arith) e
allowed_bytes Share cell (inr s) = subst AreBytes (sym s.2) (of_digits 5 s.0)
allowed_bytes Flag cell m = among flag_texts cell refl m
allowed_bytes (Code table) cell c = code table cell c
allowed_bytes (OptCode table) cell (inl e) = same (code_width table) 32 cell (omega arith) e
allowed_bytes (OptCode table) cell (inr c) = code table cell c
allowed_bytes (Constant w) cell e = subst AreBytes (sym e) (word w)

-- ---- widths

abbrev is_narrow : FieldLayout → Bool
is_narrow f = nat_le f.width 700

all_narrow : (kind : Kind) → list_all is_narrow (layout kind) ≡ true
all_narrow Hdr = refl
all_narrow this_kind = refl

passes : (p : FieldLayout → Bool) (fields : List FieldLayout) (i : ℕ) (f : FieldLayout) → list_all p fields ≡ true
    → slice_get fields i ≡ Some f → p f ≡ true
passes p [] i f h e = absurd (cc e)
passes p (g ∷ fields) zero f h e = let first : g ≡ f = cc e in ap p (sym first) ∙ (and_parts (p g) (list_all p fields) h).0
passes p (g ∷ fields) (suc i) f h e = passes p fields i f (and_parts (p g) (list_all p fields) h).1 e

pub narrow : (kind : Kind) (j : ℕ) (f : FieldLayout) → field_at kind j ≡ Some f → f.width ≤ 700
narrow kind zero f e = absurd (cc e)
narrow kind (suc i) f e = by f.width (passes is_narrow (layout kind) i f (all_narrow kind) e)
  where
    by : (w : ℕ) → nat_le w 700 ≡ true → w ≤ 700
    by w h = grind (arith, h)

-- ---- a text that is one of a field

pub fits_bytes : (kind : Kind) (j : ℕ) (text : List ℕ) → FitsField kind j text → AreBytes text × (length text ≤ 700)
fits_bytes kind j text h = by (carried_at kind j) refl h
  where
    by : (o : Option FieldLayout) → carried_at kind j ≡ o
        → IsSomeAnd o (λ f. (length text ≤ f.width) × Allows f.ty (filled f.width text)) → AreBytes text × (length text ≤ 700)
    by None e k = absurd k
    by (Some f) e k = (
      (and_parts (are_bytes text) (are_bytes (replicate (f.width - length text) 32)) (sym
          (list_all-append (λ b. nat_lt b 256) text (replicate (f.width - length text) 32)) ∙ allowed_bytes f.ty
          (filled f.width text) k.1)).0,
      omega (arith, k.0, narrow kind j f (open_some (field_at kind j) f e).0),
    )
