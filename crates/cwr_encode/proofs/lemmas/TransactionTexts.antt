-- The canonical text of a transaction's rows: its records are numbered on.
use Rattle.std.proofs.Common.{◌≡◌, ℕ, zero, suc, ◌+◌, ◌-◌, true, List, [], ◌∷◌, ◌++◌, map, take, refl, sym, ap, ap₂, subst, ◌∙◌}
use Rattle.std.proofs.Common.{arith, append_assoc, append-nil}
use Rattle.std.specs.Prelude.{Some, slice_get}
use Rattle.std.specs.List.{list_all, flat_map}
use Rattle.std.proofs.lemmas.Bool.{and_parts}
use Rattle.std.proofs.lemmas.List.{map-append}
use Rattle.cwr_fields.specs.declared.codes.TransactionType.{TransactionType}
use Rattle.cwr_lines.specs.Format.Records.{RecordValue, row_of}
use Rattle.cwr_shape.specs.declared.symbols.Symbol.{Symbol}
use Rattle.cwr_shape.specs.Format.Numbers.{symbol_kind}
use Rattle.cwr_shape.specs.Format.Shapes.{IsShape}
use Rattle.cwr_shape.specs.Format.NextSymbols.{open_type, counts_of}
use Rattle.cwr_shape.specs.Format.ExpectedNumbers.{expected_numbers}
use Rattle.cwr_shape.proofs.lemmas.TransactionNumbers.{Headed, is_inner, headed_shape, inner_symbol}
use Rattle.cwr_values.specs.Format.Values.{symbol_of}
use Rattle.cwr_values.specs.Format.Rows.{canonical_line}
use Rattle.cwr_values.specs.Format.Begins.{numbers_after, rows_after}
use Rattle.cwr_values.proofs.lemmas.RowAt.{kind_of_symbol}
use Rattle.cwr_encode.specs.Steps.Texts.{text_from}
use Rattle.cwr_shape.proofs.lemmas.CountedOn.{Inside, inside_header, inside_more}

-- with one more record
pub text-snoc : (j k : ℕ) (rs : List RecordValue) (i : ℕ) (r : RecordValue) → slice_get rs i ≡ Some r
    → text_from j k (take (suc i) rs) ≡ text_from j k (take i rs) ++ canonical_line (row_of (j ∷ (k + i) ∷ []) r)
text-snoc j k [] i r e = absurd (cc e)
text-snoc j k (q ∷ rs) zero r e =
    let same : q ≡ r = cc e in
    append-nil (canonical_line (row_of (j ∷ k ∷ []) q))
    ∙ ap₂ (λ (n : ℕ) (x : RecordValue). canonical_line (row_of (j ∷ n ∷ []) x)) (omega arith) same
text-snoc j k (q ∷ rs) (suc i) r e =
    ap (λ (l : List ℕ). canonical_line (row_of (j ∷ k ∷ []) q) ++ l)
    (text-snoc j (k + 1) rs i r e
    ∙ ap (λ (n : ℕ). text_from j (k + 1) (take i rs) ++ canonical_line (row_of (j ∷ n ∷ []) r)) (omega arith))
    ∙ sym (append_assoc (canonical_line (row_of (j ∷ k ∷ []) q)) (text_from j (k + 1) (take i rs))
    (canonical_line (row_of (j ∷ (k + suc i) ∷ []) r)))

symbols-snoc : (before : List RecordValue) (r : RecordValue)
    → map symbol_of (before ++ r ∷ []) ≡ map symbol_of before ++ symbol_of r ∷ []
symbols-snoc before r = map-append symbol_of before (r ∷ [])

inner_text : (ty : TransactionType) (groups j k : ℕ) (before rs : List RecordValue) → Inside ty groups j k (map symbol_of before)
    → list_all (is_inner ty) (map symbol_of rs) ≡ true
    → flat_map canonical_line (rows_after before rs) ≡ text_from j k rs
unfolding rows_after
inner_text ty groups j k before [] h a = refl
inner_text ty groups j k before (r ∷ rs) h a =
    let xs : List Symbol = map symbol_of before in
    let p = and_parts (is_inner ty (symbol_of r)) (list_all (is_inner ty) (map symbol_of rs)) a in
    let here = inner_symbol ty (counts_of xs) (symbol_of r) p.0 in
    let pair : ((counts_of xs).in_group - 1) ∷ ((counts_of xs).after_header + 1) ∷ [] ≡ j ∷ k ∷ []
    = ap₂ (λ (m n : ℕ). m ∷ n ∷ []) (omega (arith, h.in_group_counted)) h.counted_after in
    let numbers : numbers_after xs r.kind ≡ j ∷ k ∷ [] =
    ap (expected_numbers (open_type xs) (counts_of xs)) (sym (kind_of_symbol r))
    ∙ ap (λ (t : TransactionType). expected_numbers t (counts_of xs) (symbol_kind (symbol_of r))) h.same_type ∙ here.numbers
    ∙ pair in
    let next : Inside ty groups j (k + 1) (map symbol_of (before ++ r ∷ [])) =
    subst (Inside ty groups j (k + 1)) (sym (symbols-snoc before r)) (inside_more ty groups j k xs (symbol_of r) h p.0) in
    ap₂ (λ (a b : List ℕ). a ++ b) (ap (λ (ns : List ℕ). canonical_line (row_of ns r)) numbers)
    (inner_text ty groups j (k + 1) (before ++ r ∷ []) rs next p.1)

headed_text : (ty : TransactionType) (before : List RecordValue) (r : RecordValue) (rs : List RecordValue)
    → open_type (map symbol_of before) ≡ ty → Headed ty (map symbol_of (r ∷ rs))
    → flat_map canonical_line (rows_after before (r ∷ rs)) ≡ text_from (counts_of (map symbol_of before)).in_group 0 (r ∷ rs)
unfolding rows_after
headed_text ty before r rs e h =
    let xs : List Symbol = map symbol_of before in
    let head : symbol_of r ≡ h.head = cc h.whole in
    let rest : map symbol_of rs ≡ h.rest = cc h.whole in
    let numbers : numbers_after xs r.kind ≡ (counts_of xs).in_group ∷ 0 ∷ [] =
    ap (expected_numbers (open_type xs) (counts_of xs)) (sym (kind_of_symbol r) ∙ ap symbol_kind head)
    ∙ ap (λ (t : TransactionType). expected_numbers t (counts_of xs) (symbol_kind h.head)) e ∙ h.first (counts_of xs) in
    let next : Inside ty (counts_of xs).groups (counts_of xs).in_group 1 (map symbol_of (before ++ r ∷ []))
    = subst (Inside ty (counts_of xs).groups (counts_of xs).in_group 1)
    (ap (λ (s : Symbol). xs ++ s ∷ []) (sym head) ∙ sym (symbols-snoc before r))
    (inside_header ty xs h.head e h.counts h.same_type) in
    ap₂ (λ (a b : List ℕ). a ++ b) (ap (λ (ns : List ℕ). canonical_line (row_of ns r)) numbers)
    (inner_text ty (counts_of xs).groups (counts_of xs).in_group 1 (before ++ r ∷ []) rs next
    (ap (list_all (is_inner ty)) rest ∙ h.inner))

-- the text of a whole transaction in a group of its type
pub transaction_text : (ty : TransactionType) (before t : List RecordValue) → open_type (map symbol_of before) ≡ ty
    → IsShape ty (map symbol_of t)
    → flat_map canonical_line (rows_after before t) ≡ text_from (counts_of (map symbol_of before)).in_group 0 t
transaction_text ty before [] e shape = none (headed_shape ty [] shape)
  where
    none : Headed ty []
        → flat_map canonical_line (rows_after before []) ≡ text_from (counts_of (map symbol_of before)).in_group 0 []
    none h = absurd (cc h.whole)
transaction_text ty before (r ∷ rs) e shape = headed_text ty before r rs e (headed_shape ty (map symbol_of (r ∷ rs)) shape)
