-- A line that carries a record is, with its numbers put right, the canonical line of that one.
use Rattle.std.proofs.Common.{◌≡◌, ℕ, ◌<◌, ◌≤◌, Bool, true, false, List, [], ◌∷◌, ◌++◌, length, take, Option, Some, None, nat_lt}
use Rattle.std.proofs.Common.{refl, sym, ap, ap₂, ◌∙◌, arith, true≢false}
use Rattle.std.specs.Prelude.{option_and_then, unwrap_or, if◌then◌else◌}
use Rattle.std.proofs.lemmas.Bool.{lt-ltb}
use Rattle.std.proofs.lemmas.List.{take-take}
use Rattle.cwr_fields.specs.declared.codes.TransactionType.{TransactionType}
use Rattle.cwr_fields.specs.declared.codes.TransactionType.TheVariants.{Agreement, NewWork, RevisedWork, Acknowledgement}
use Rattle.cwr_fields.specs.declared.kinds.Kind.{Kind}
use Rattle.cwr_fields.specs.declared.kinds.Kind.TheVariants as kinds
use Rattle.cwr_lines.specs.declared.lines.LineEnd.TheVariants.{Line}
use Rattle.cwr_fields.specs.Format.Kinds.{letters}
use Rattle.cwr_fields.specs.Format.Bytes.{filled}
use Rattle.cwr_fields.specs.Format.Layouts.{line_width}
use Rattle.cwr_lines.specs.Format.Lines.{body_kind, cells_as, without_cr}
use Rattle.cwr_lines.specs.Format.Records.{RecordValue, record_of, row_of}
use Rattle.cwr_lines.specs.Steps.Carried.{record_in}
use Rattle.cwr_lines.specs.Steps.Held.{HeldLine, IsFilled, cell_as, filled_as, held_record}
use Rattle.cwr_lines.specs.Steps.Numbered.{numbered_as, numbered_part, set_as}
use Rattle.cwr_lines.proofs.lemmas.GoodLinesAreRows.{letters-of, three-filled}
use Rattle.cwr_lines.proofs.lemmas.HeldRecords.{first_bytes, record_held}
use Rattle.cwr_lines.proofs.lemmas.NumberedLines.{full_line-numbered}
use Rattle.cwr_lines.proofs.lemmas.NumbersOfKinds.{line_width_least}
use Rattle.cwr_fields.specs.declared.codes.Role.{Role}
use Rattle.cwr_shape.specs.declared.symbols.Symbol.{Symbol}
use Rattle.cwr_shape.specs.declared.symbols.Symbol.TheVariants.{Plain, Ipa, Grh}
use Rattle.cwr_shape.specs.declared.tallies.Counts.{Counts}
use Rattle.cwr_shape.specs.Format.Candidates.{type_in}
use Rattle.cwr_shape.specs.Format.ExpectedNumbers.{expected_numbers}
use Rattle.cwr_shape.specs.Format.NextSymbols.{counts_of, is_header_of, open_type, type_after}
use Rattle.cwr_shape.specs.Steps.Counting.{counts_with, counts_with_header, counts_with_other}
use Rattle.cwr_shape.specs.Steps.Numberings.{NumberingValue, numbering_with, three_numbers}
use Rattle.cwr_shape.proofs.lemmas.OneMore.{counts-snoc, open_type_after, types_after}
use Rattle.cwr_values.specs.Format.Begins.{numbers_after}
use Rattle.cwr_values.specs.Format.Rows.{canonical_line}
use Rattle.cwr_values.specs.Format.Values.{symbol_of}
use Rattle.cwr_decode.specs.Format.Entries.{carried_as}
use Rattle.cwr_decode.proofs.lemmas.CarriedLines.{carried_line}
use Rattle.cwr_renumber.specs.Format.Lines.{Carries}
use Rattle.cwr_renumber.specs.Steps.Renumbered.{counted_as, line_by, numbering_after, numbering_by, numbers_by}

-- the line as it is held
abbrev pub whole : List ℕ → HeldLine
whole line = record { bytes = line; ended = Line }

-- of three numbers a line takes those that it takes of all
three_suffice : (kind : Kind) (ns line : List ℕ) → numbered_part kind (three_numbers ns) line ≡ numbered_part kind ns line
three_suffice kinds.Hdr ns line = refl
three_suffice kinds.Grh ns line = refl
three_suffice kinds.Grt ns line = refl
three_suffice kinds.Trl ns line = refl
three_suffice this_kind ns line = refl

-- a line that carries a record names a kind
kind_of_record : (o : Option Kind) (body : List ℕ) (r : RecordValue) → carried_as o body ≡ Some r
    → (kind : Kind) × (o ≡ Some kind)
kind_of_record None body r e = absurd (cc e)
kind_of_record (Some this_kind) body r e = (this_kind, refl)

-- the line is of that kind, and its first bytes and its cells carry the record
pub record IsOfKind (line : List ℕ) (r : RecordValue) : Type 0 where
  pub kind : Kind
  pub named : body_kind (without_cr line) ≡ Some kind
  pub front_is : r ≡ record_in kind (take (line_width kind) (filled (line_width kind) (without_cr line)))
  pub cells_are : r ≡ record_of (record { kind = kind; cells = cells_as (Some kind) (without_cr line) })

pub of_kind : (line : List ℕ) (r : RecordValue) → Carries line r → IsOfKind line r
of_kind line r h =
    let body : List ℕ = without_cr line in
    let k = kind_of_record (body_kind body) body r h.carries in
    let text : List ℕ = filled (line_width k.0) body in
    let parts : IsFilled text (Some k.0) (whole line) = record { known = sym k.1; parts = refl } in
    let held : held_record (whole line) ≡ Some (record_in k.0 (take (line_width k.0) text)) =
    record_held text k.0 (whole line) parts in
    let front : Some r ≡ Some (record_in k.0 (take (line_width k.0) text)) =
    sym h.carries ∙ carried_line (whole line) (record_in k.0 (take (line_width k.0) text)) refl held in
    let cells : Some r ≡ Some (record_of (record { kind = k.0; cells = cells_as (Some k.0) body })) =
    sym h.carries ∙ ap (λ (o : Option Kind). carried_as o body) k.1 in
    record { kind = k.0; named = k.1; front_is = cc front; cells_are = cc cells }

-- ---- the canonical line

text_of_front : (kind : Kind) (ns front : List ℕ) → length front ≡ line_width kind → letters kind ≡ take 3 front
    → (take 3 front ++ numbered_part kind (three_numbers ns) front) ++ 13 ∷ 10 ∷ []
    ≡ canonical_line (row_of ns (record_in kind front))
text_of_front kind ns front wide named =
    ap (λ (x : List ℕ). x ++ 13 ∷ 10 ∷ [])
    (ap₂ (λ (x y : List ℕ). x ++ y) (sym named) (three_suffice kind ns front) ∙ sym (full_line-numbered kind ns front wide))

-- the line with the numbers that are counted of the records before it
pub line_of_record : (n : NumberingValue) (xs : List Symbol) (line : List ℕ) (r : RecordValue) → Carries line r
    → n.ty ≡ open_type xs → n.counts ≡ counts_of xs
    → line_by n (whole line) ≡ canonical_line (row_of (numbers_after xs r.kind) r)
line_of_record n xs line r h ty counts =
    let k = of_kind line r h in
    let body : List ℕ = without_cr line in
    let text : List ℕ = filled (line_width k.kind) body in
    let front : List ℕ = take (line_width k.kind) text in
    let wide : length front ≡ line_width k.kind =
    first_bytes text k.kind (line_width k.kind) (whole line) (record { known = sym k.named; parts = refl }) refl in
    let least : 24 ≤ line_width k.kind = line_width_least k.kind in
    let three : letters k.kind ≡ take 3 front =
    letters-of (take 3 (filled 3 body)) k.kind k.named ∙ sym (take-take 3 (line_width k.kind) text (omega (arith, least))
    ∙ three-filled (line_width k.kind) body (omega (arith, least))) in
    let as_set : line_by n (whole line)
    ≡ (take 3 front ++ numbered_part k.kind (three_numbers (expected_numbers n.ty n.counts k.kind)) front) ++ 13 ∷ 10 ∷ [] =
    ap₂ (λ (o : Option Kind) (b : Bool). numbered_as o (numbers_by o n) (set_as o b (filled_as o body)) ++ 13 ∷ 10 ∷ []) k.named
    h.excess in
    as_set
    ∙ ap₂ (λ (t : TransactionType)
    (c : Counts). (take 3 front ++ numbered_part k.kind (three_numbers (expected_numbers t c k.kind)) front) ++ 13 ∷ 10
    ∷ []) ty counts
    ∙ text_of_front k.kind (numbers_after xs k.kind) front wide three
    ∙ ap (λ (q : RecordValue). canonical_line (row_of (numbers_after xs q.kind) q)) (sym k.front_is)

-- ---- what is counted with it

never_heads : (ty : TransactionType) (role : Role)
    → (is_header_of ty (Plain kinds.Ipa) ≡ false) × (is_header_of ty (Ipa role) ≡ false)
never_heads Agreement role = (refl, refl)
never_heads NewWork role = (refl, refl)
never_heads RevisedWork role = (refl, refl)
never_heads Acknowledgement role = (refl, refl)

parties_alike : (n : NumberingValue) (role : Role) → numbering_with n (Plain kinds.Ipa) ≡ numbering_with n (Ipa role)
parties_alike n role =
    let h = never_heads n.ty role in
    let counts : counts_with n.ty n.counts (Plain kinds.Ipa) ≡ counts_with n.ty n.counts (Ipa role) =
    ap (λ (b : Bool). if b then counts_with_header n.counts else counts_with_other n.counts) (h.0 ∙ sym h.1) in
    ap (λ (c : Counts). if nat_lt n.counts.records 999999999 then (record { ty = n.ty; counts = c }) else n) counts

alike : (n : NumberingValue) (kind : Kind) (line : List ℕ) → body_kind (without_cr line) ≡ Some kind
    → numbering_with n (counted_as kind (whole line))
    ≡ numbering_with n (symbol_of (record_of (record { kind = kind; cells = cells_as (Some kind) (without_cr line) })))
alike n kinds.Ipa line named = parties_alike n _
alike n kinds.Grh line named =
    ap (λ (o : Option Kind). numbering_with n
    (Grh (unwrap_or (option_and_then type_in (cell_as o (cells_as o (without_cr line)) 2)) Acknowledgement))) named
alike n this_kind line named = refl

-- the numbering goes on with the record's symbol
pub counted_record : (n : NumberingValue) (line : List ℕ) (r : RecordValue) → Carries line r
    → numbering_after n (whole line) ≡ numbering_with n (symbol_of r)
counted_record n line r h =
    let k = of_kind line r h in
    ap (λ (o : Option Kind). numbering_by o n (whole line)) k.named ∙ alike n k.kind line k.named
    ∙ ap (λ (q : RecordValue). numbering_with n (symbol_of q)) (sym k.cells_are)

types_more : (ty : TransactionType) (xs : List Symbol) (s : Symbol)
    → types_after ty (xs ++ s ∷ []) ≡ type_after (types_after ty xs) s
types_more ty [] s = refl
types_more ty (x ∷ xs) s = types_more (type_after ty x) xs s

taken_if : (b : Bool) (n m : NumberingValue) → b ≡ true → (if b then m else n) ≡ m
taken_if true n m e = refl
taken_if false n m e = absurd (true≢false (sym e))

-- and is that of one symbol more
pub numbering_more : (n : NumberingValue) (xs : List Symbol) (s : Symbol) → n.ty ≡ open_type xs → n.counts ≡ counts_of xs
    → length xs < 999999999
    → ((numbering_with n s).ty ≡ open_type (xs ++ s ∷ [])) × ((numbering_with n s).counts ≡ counts_of (xs ++ s ∷ []))
numbering_more n xs s ty counts few =
    let next : NumberingValue = record { ty = type_after n.ty s; counts = counts_with n.ty n.counts s } in
    let yes : nat_lt n.counts.records 999999999 ≡ true =
    ap (λ (c : Counts). nat_lt c.records 999999999) counts ∙ lt-ltb (length xs) 999999999 few in
    let same : numbering_with n s ≡ next = taken_if (nat_lt n.counts.records 999999999) n next yes in (
      ap (λ (m : NumberingValue). m.ty) same ∙ ap (λ (t : TransactionType). type_after t s) (ty ∙ open_type_after xs)
          ∙ sym (types_more Acknowledgement xs s) ∙ sym (open_type_after (xs ++ s ∷ [])),
      ap (λ (m : NumberingValue). m.counts) same ∙ ap₂ (λ (t : TransactionType) (c : Counts). counts_with t c s) ty counts
          ∙ counts-snoc xs s,
    )
