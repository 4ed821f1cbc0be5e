-- Records that fit, one for each symbol: so each order of records that is a whole one is that of some transmission, whatever its first records are.
use Rattle.std.proofs.Common.{◌≡◌, ℕ, ◌-◌, Bool, true, false, ◌&&◌, List, [], ◌∷◌, ◌++◌, map, drop, replicate, codes, refl, sym}
use Rattle.std.proofs.Common.{ap, ap₂, subst, ◌∙◌, true≢false}
use Rattle.std.specs.Prelude.{unwrap_or, slice_get}
use Rattle.std.specs.List.{list_all, AllByRecursion, flat_map}
use Rattle.std.proofs.lemmas.Bool.{and_parts}
use Rattle.std.proofs.lemmas.List.{map-append}
use Rattle.std.proofs.lemmas.List.Folds.{list_all-append}
use Rattle.cwr_fields.specs.declared.cell_types.CellType.{CellType}
use Rattle.cwr_fields.specs.declared.cell_types.CellType.TheVariants.{Required, Number, Date, Time, Code, Constant}
use Rattle.cwr_fields.specs.declared.codes.Role.TheVariants.{Assignor, Acquirer}
use Rattle.cwr_fields.specs.declared.codes.TransactionType.{TransactionType}
use Rattle.cwr_fields.specs.declared.codes.TransactionType.TheVariants.{Agreement, NewWork, RevisedWork, Acknowledgement}
use Rattle.cwr_fields.specs.Format.Bytes.{filled, digits}
use Rattle.cwr_fields.proofs.lemmas.CellTests.{holds_test, number_test, day_test, time_test}
use Rattle.cwr_fields.specs.Format.Codes.{codes_of, code_width, word_text, role_code, type_code}
use Rattle.cwr_fields.specs.declared.kinds.Kind.{Kind}
use Rattle.cwr_fields.specs.declared.kinds.Kind.TheVariants as kinds
use Rattle.cwr_lines.specs.Format.Records.{RecordValue, IsRecord, carried_fields}
use Rattle.cwr_lines.proofs.lemmas.RecordTest.{record_test, record_sound}
use Rattle.cwr_shape.specs.declared.symbols.Symbol.{Symbol}
use Rattle.cwr_shape.specs.declared.symbols.Symbol.TheVariants.{Plain, Ipa, Grh}
use Rattle.cwr_shape.specs.Format.Shapes.{IsShape, pattern_of}
use Rattle.cwr_shape.specs.Format.Outlines.{GroupOutline, group_symbols, symbols_of, IsGroupOutline, IsOutline}
use Rattle.cwr_shape.proofs.lemmas.PrefixFree.{only, matched_pass}
use Rattle.cwr_values.specs.Format.Values.{TransmissionValue, IsTransmission, symbol_of, outline_of}
use Rattle.cwr_values.specs.Format.Rows.{records_of}
use Rattle.cwr_values.proofs.lemmas.OneTransmissionOfRecords.{built}

-- a cell of each type
abbrev pub some_cell : CellType → ℕ → List ℕ
some_cell Required width = 65 ∷ replicate (width - 1) 32
some_cell Number width = replicate width 48
some_cell Date width = codes "20240101"
some_cell Time width = codes "000000"
some_cell (Code table) width = filled (code_width table) (unwrap_or (slice_get (codes_of table) 0) [])
some_cell (Constant word) width = word_text word
some_cell ty width = replicate width 32

-- a record of each kind
abbrev pub some_record : Kind → RecordValue
some_record kind = record { kind = kind; cells = map (λ f. some_cell f.ty f.width) (carried_fields kind) }

-- with another first cell
abbrev pub with_first : List ℕ → RecordValue → RecordValue
with_first cell r = record { kind = r.kind; cells = cell ∷ drop 1 r.cells }

-- a record of each symbol
abbrev pub witness : Symbol → RecordValue
witness (Plain kind) = some_record kind
witness (Ipa role) = with_first (role_code role) (some_record kinds.Ipa)
witness (Grh ty) = with_first (type_code ty) (some_record kinds.Grh)

-- the symbol is one of a record: IPA has a role, and GRH a type
abbrev pub is_of_record : Symbol → Bool
is_of_record (Plain kinds.Ipa) = false
is_of_record (Plain kinds.Grh) = false
is_of_record s = true

fits_by_test : (s : Symbol) → record_test (witness s) ≡ true
unfolding holds_test number_test day_test time_test digits
fits_by_test (Plain kinds.Hdr) = refl
fits_by_test (Plain this_kind) = refl
fits_by_test (Ipa Assignor) = refl
fits_by_test (Ipa Acquirer) = refl
fits_by_test (Grh Agreement) = refl
fits_by_test (Grh NewWork) = refl
fits_by_test (Grh RevisedWork) = refl
fits_by_test (Grh Acknowledgement) = refl

pub witness_fits : (s : Symbol) → IsRecord (witness s)
witness_fits s = record_sound (witness s) (fits_by_test s)

pub witness_symbol : (s : Symbol) → is_of_record s ≡ true → symbol_of (witness s) ≡ s
witness_symbol (Plain kinds.Ipa) h = absurd (true≢false (sym h))
witness_symbol (Plain kinds.Grh) h = absurd (true≢false (sym h))
witness_symbol (Ipa Assignor) h = refl
witness_symbol (Ipa Acquirer) h = refl
witness_symbol (Grh Agreement) h = refl
witness_symbol (Grh NewWork) h = refl
witness_symbol (Grh RevisedWork) h = refl
witness_symbol (Grh Acknowledgement) h = refl
witness_symbol (Plain kind) h = refl

pub witnesses_symbols : (xs : List Symbol) → list_all is_of_record xs ≡ true → map symbol_of (map witness xs) ≡ xs
witnesses_symbols [] h = refl
witnesses_symbols (s ∷ xs) h =
    let p = and_parts (is_of_record s) (list_all is_of_record xs) h in
    ap₂ (λ (a : Symbol) (l : List Symbol). a ∷ l) (witness_symbol s p.0) (witnesses_symbols xs p.1)

pub witnesses_fit : (xs : List Symbol) → AllByRecursion IsRecord (map witness xs)
witnesses_fit [] = tt
witnesses_fit (s ∷ xs) = (witness_fits s, witnesses_fit xs)

-- ---- the symbols of a whole order are those of records

named : (ty : TransactionType) → only is_of_record (pattern_of ty) ≡ true
unfolding only
named Agreement = refl
named NewWork = refl
named RevisedWork = refl
named Acknowledgement = refl

both_pass : (xs ys : List Symbol) → list_all is_of_record xs ≡ true → list_all is_of_record ys ≡ true
    → list_all is_of_record (xs ++ ys) ≡ true
both_pass xs ys h k = list_all-append is_of_record xs ys ∙ ap₂ (λ (a b : Bool). a && b) h k

transactions_pass : (ty : TransactionType) (ts : List (List Symbol)) → AllByRecursion (IsShape ty) ts
    → list_all is_of_record (flat_map (λ t. t) ts) ≡ true
transactions_pass ty [] h = refl
transactions_pass ty (t ∷ ts) h =
    both_pass t (flat_map (λ u. u) ts) (matched_pass is_of_record (pattern_of ty) (named ty) t h.0) (transactions_pass ty ts h.1)

groups_pass : (groups : List GroupOutline) → AllByRecursion IsGroupOutline groups
    → list_all is_of_record (flat_map group_symbols groups) ≡ true
groups_pass [] h = refl
groups_pass (g ∷ groups) h =
    both_pass (group_symbols g) (flat_map group_symbols groups)
    (both_pass (flat_map (λ t. t) g.transactions) (Plain kinds.Grt ∷ []) (transactions_pass g.ty g.transactions h.0.1) refl)
    (groups_pass groups h.1)

pub whole_pass : (groups : List GroupOutline) → IsOutline groups → list_all is_of_record (symbols_of groups) ≡ true
whole_pass groups h = both_pass (flat_map group_symbols groups) (Plain kinds.Trl ∷ []) (groups_pass groups h.1) refl

rest_pass : (xs ys : List Symbol) → list_all is_of_record (xs ++ ys) ≡ true → list_all is_of_record ys ≡ true
rest_pass [] ys h = h
rest_pass (x ∷ xs) ys h = rest_pass xs ys (and_parts (is_of_record x) (list_all is_of_record (xs ++ ys)) h).1

-- ---- some transmission continues so

-- a transmission of this order that begins with these records
pub record Completed (groups : List GroupOutline) (records : List RecordValue) : Type 0 where
  pub value : TransmissionValue
  pub whole : IsTransmission value
  pub outline : outline_of value ≡ groups
  pub more : List RecordValue
  pub begins : records_of value ≡ records ++ more

all_append : (rs qs : List RecordValue) → AllByRecursion IsRecord rs → AllByRecursion IsRecord qs
    → AllByRecursion IsRecord (rs ++ qs)
all_append [] qs h k = k
all_append (r ∷ rs) qs h k = (h.0, all_append rs qs h.1 k)

pub completed : (groups : List GroupOutline) (records : List RecordValue) (rest : List Symbol) → IsOutline groups
    → AllByRecursion IsRecord records → symbols_of groups ≡ map symbol_of records ++ rest → Completed groups records
completed groups records rest h k e =
    let ws : List RecordValue = map witness rest in
    let pass : list_all is_of_record rest ≡ true =
    rest_pass (map symbol_of records) rest
    (subst (λ (l : List Symbol). list_all is_of_record l ≡ true) e (whole_pass groups h)) in
    let symbols : map symbol_of (records ++ ws) ≡ symbols_of groups =
    map-append symbol_of records ws ∙ ap (λ (l : List Symbol). map symbol_of records ++ l) (witnesses_symbols rest pass)
    ∙ sym e in
    let b = built groups (records ++ ws) h symbols (all_append records ws k (witnesses_fit rest)) in
    record { value = b.value; whole = b.whole; outline = b.outline; more = ws; begins = b.records_are }
