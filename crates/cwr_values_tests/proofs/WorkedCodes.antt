-- Worked codes: the cells of each table are codes of it, and a text for each is none.
use Rattle.std.proofs.Common.{◌≡◌, ℕ, zero, suc, ◌+◌, ◌%◌, ◌<◌, true, false, List, [], ◌∷◌, length, refl, sym, ap, ◌∙◌, arith}
use Rattle.std.proofs.Common.{true≢false, inl, inr, lit<}
use Rattle.std.specs.Prelude.{codes, map, slice_index, slice_index_or}
use Rattle.std.specs.List.{list_all, list_any}
use Rattle.std.specs.Str.{bytes_eq}
use Rattle.std.proofs.lemmas.Bool.{or_left, or_right}
use Rattle.std.proofs.lemmas.Slice.Eq.{bytes_eq-Decides}
use Rattle.cwr_fields.specs.declared.cell_types.CellType.TheVariants.{Code, OptCode}
use Rattle.cwr_fields.specs.declared.cell_types.CellFault.TheVariants.{Blank, NotACode}
use Rattle.cwr_fields.specs.declared.tables.Table.{Table}
use Rattle.cwr_fields.specs.declared.tables.Table.TheVariants as tables
use Rattle.cwr_fields.specs.Format.Bytes.{digits, filled}
use Rattle.cwr_fields.specs.Format.Codes.{codes_of, code_width}
use Rattle.cwr_fields.specs.Format.Cells.{Allows, HasFault, IsCodeOf, SpellsCode}
use Rattle.cwr_fields.proofs.lemmas.CellTests.{holds_test}

-- the cells of each table
abbrev cells_of : Table → List (List ℕ)
cells_of table = map (filled (code_width table)) (codes_of table)

-- each of them fits
cells_fit : (table : Table) → list_all (holds_test (Code table)) (cells_of table) ≡ true
unfolding holds_test
cells_fit tables.Sender = refl
cells_fit tables.TransactionType = refl
cells_fit tables.AgreementType = refl
cells_fit tables.Role = refl
cells_fit tables.Prior = refl
cells_fit tables.PostTerm = refl
cells_fit tables.Sales = refl
cells_fit tables.Sign = refl
cells_fit tables.Category = refl
cells_fit tables.Version = refl
cells_fit tables.Composite = refl
cells_fit tables.Excerpt = refl
cells_fit tables.Publisher = refl
cells_fit tables.Designation = refl
cells_fit tables.Title = refl
cells_fit tables.Status = refl
cells_fit tables.Message = refl
cells_fit tables.Recording = refl
cells_fit tables.Technique = refl

-- a code is found by the test
found : (f : List ℕ → List ℕ) (list : List (List ℕ)) (cell code : List ℕ) (i : ℕ) → i < length list
    → code ≡ slice_index_or list i code → cell ≡ f code → list_any (λ c. bytes_eq cell (f c)) list ≡ true
found f [] cell code i h e s = absurd (omega arith)
found f (c ∷ list) cell code zero h e s =
    or_left (bytes_eq cell (f c)) (list_any (λ d. bytes_eq cell (f d)) list) ((bytes_eq-Decides cell (f c)).1 (s ∙ ap f e))
found f (c ∷ list) cell code (suc i) h e s =
    or_right (bytes_eq cell (f c)) (list_any (λ d. bytes_eq cell (f d)) list) (found f list cell code i (omega arith) e s)

no_code : (list : List (List ℕ)) (width : ℕ) (cell : List ℕ) → list_any (λ code. bytes_eq cell (filled width code)) list ≡ false
    → ¬ IsCodeOf list width cell
no_code list width cell h c = true≢false (sym (found (filled width) list cell c.0 c.1.0 c.1.1.0 c.1.1.1 c.2) ∙ h)

-- a text of each table's width that is no code of it
abbrev stranger : Table → List ℕ
stranger tables.Sender = codes "XX"
stranger tables.TransactionType = codes "ISW"
stranger tables.AgreementType = codes "OX"
stranger tables.Role = codes "AX"
stranger tables.Prior = codes "X"
stranger tables.PostTerm = codes "X"
stranger tables.Sales = codes "X"
stranger tables.Sign = codes "X"
stranger tables.Category = codes "ROC"
stranger tables.Version = codes "ORX"
stranger tables.Composite = codes "COX"
stranger tables.Excerpt = codes "MOX"
stranger tables.Publisher = codes "EX"
stranger tables.Designation = codes "AX"
stranger tables.Title = codes "AX"
stranger tables.Status = codes "ZZ"
stranger tables.Message = codes "X"
stranger tables.Recording = codes "X"
stranger tables.Technique = codes "X"

no_digits : (n : ℕ) → codes "XX" ≡ digits 2 n → ⊥
unfolding digits
no_digits n e = let last : 88 ≡ 48 + n % 10 = ap (λ (c : List ℕ). slice_index c 1) e in omega arith

strangers : (table : Table) → HasFault (Code table) (stranger table) NotACode
strangers tables.Sender = (outside, refl)
  where
    outside : ¬ SpellsCode tables.Sender (codes "XX")
    outside (inl c) = no_code (codes_of tables.Sender) 2 (codes "XX") refl c
    outside (inr s) = no_digits s.0 s.2
strangers tables.TransactionType = (no_code (codes_of tables.TransactionType) 3 (codes "ISW") refl, refl)
strangers tables.AgreementType = (no_code (codes_of tables.AgreementType) 2 (codes "OX") refl, refl)
strangers tables.Role = (no_code (codes_of tables.Role) 2 (codes "AX") refl, refl)
strangers tables.Prior = (no_code (codes_of tables.Prior) 1 (codes "X") refl, refl)
strangers tables.PostTerm = (no_code (codes_of tables.PostTerm) 1 (codes "X") refl, refl)
strangers tables.Sales = (no_code (codes_of tables.Sales) 1 (codes "X") refl, refl)
strangers tables.Sign = (no_code (codes_of tables.Sign) 1 (codes "X") refl, refl)
strangers tables.Category = (no_code (codes_of tables.Category) 3 (codes "ROC") refl, refl)
strangers tables.Version = (no_code (codes_of tables.Version) 3 (codes "ORX") refl, refl)
strangers tables.Composite = (no_code (codes_of tables.Composite) 3 (codes "COX") refl, refl)
strangers tables.Excerpt = (no_code (codes_of tables.Excerpt) 3 (codes "MOX") refl, refl)
strangers tables.Publisher = (no_code (codes_of tables.Publisher) 2 (codes "EX") refl, refl)
strangers tables.Designation = (no_code (codes_of tables.Designation) 2 (codes "AX") refl, refl)
strangers tables.Title = (no_code (codes_of tables.Title) 2 (codes "AX") refl, refl)
strangers tables.Status = (no_code (codes_of tables.Status) 2 (codes "ZZ") refl, refl)
strangers tables.Message = (no_code (codes_of tables.Message) 1 (codes "X") refl, refl)
strangers tables.Recording = (no_code (codes_of tables.Recording) 1 (codes "X") refl, refl)
strangers tables.Technique = (no_code (codes_of tables.Technique) 1 (codes "X") refl, refl)

-- a sender may also be two digits, and a code cell may not be spaces
sender_digits : Allows (Code tables.Sender) (codes "07")
unfolding digits
sender_digits = inr (7, lit< tt, refl)

blank_status : HasFault (Code tables.Status) (codes "  ") Blank
blank_status = (no_code (codes_of tables.Status) 2 (codes "  ") refl, refl)

blank_category : Allows (OptCode tables.Category) (codes "   ")
blank_category = inl refl
