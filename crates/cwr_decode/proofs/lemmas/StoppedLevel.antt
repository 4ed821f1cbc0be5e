-- The level that a decoder reports is that of the raw line, by the kind of the line before it.
use Rattle.std.proofs.Common.{◌≡◌, ℕ, ◌-◌, List, [], ◌∷◌, ◌++◌, length, map, refl, sym, ap, ap₂, ◌∙◌, arith}
use Rattle.std.specs.Prelude.{Option, Some, None, slice_get, option_and_then}
use Rattle.std.specs.List.{AllZip, AllByRecursion, last_or}
use Rattle.cwr_fields.specs.declared.kinds.Kind.{Kind}
use Rattle.cwr_fields.specs.declared.kinds.Kind.TheVariants as kinds
use Rattle.cwr_lines.specs.Format.Records.{RecordValue, IsRecord}
use Rattle.cwr_lines.specs.Format.Lines.{IsLineOf, line_kind}
use Rattle.cwr_lines.specs.Steps.Held.{HoldsLine}
use Rattle.cwr_lines.proofs.lemmas.CutLaws.{line_is_cut}
use Rattle.cwr_lines.proofs.lemmas.HeldLaws.{held_line_is_cut}
use Rattle.cwr_lines.proofs.lemmas.RowLaws.{IsRow-row_of}
use Rattle.cwr_shape.specs.declared.symbols.Symbol.{Symbol}
use Rattle.cwr_shape.specs.declared.tallies.Scope.{Scope}
use Rattle.cwr_shape.specs.Format.Levels.{level_of, scope_after_kind}
use Rattle.cwr_shape.specs.Format.NextSymbols.{scope_by, scope_after}
use Rattle.cwr_values.specs.declared.items.Item.{Item}
use Rattle.cwr_values.specs.Format.Values.{symbol_of, symbol_by}
use Rattle.cwr_values.specs.Format.Begins.{row_after, rows_after, rows_so_far}
use Rattle.cwr_judge.specs.declared.refusals.Refusal.{Refusal}
use Rattle.cwr_judge.specs.Format.Ends.{last_kind}
use Rattle.cwr_decode.specs.Steps.Machines.{Standing}
use Rattle.cwr_decode.specs.Steps.Represents.{IsStopped}

-- what is open after a record follows from its kind
scope_of_record : (r : RecordValue) → scope_by (Some (symbol_of r)) ≡ scope_after_kind (Some r.kind)
scope_of_record r = by r.kind
  where
    by : (k : Kind) → scope_by (Some (symbol_by k r)) ≡ scope_after_kind (Some k)
    by kinds.Ipa = refl
    by kinds.Grh = refl
    by kinds.Hdr = refl
    by kinds.Grt = refl
    by kinds.Trl = refl
    by k = refl

scope_of_lines : (o : Option Symbol) (p : Option (List ℕ)) (before rs : List RecordValue) (lines : List (List ℕ))
    → scope_by o ≡ scope_after_kind (option_and_then line_kind p) → AllByRecursion IsRecord rs
    → AllZip IsLineOf (rows_after before rs) lines
    → scope_by (last_or o (map symbol_of rs)) ≡ scope_after_kind (option_and_then line_kind (last_or p lines))
unfolding rows_after
scope_of_lines o p before [] [] e h z = e
scope_of_lines o p before [] (line ∷ lines) e h z = absurd z
scope_of_lines o p before (r ∷ rs) [] e h z = absurd z
scope_of_lines o p before (r ∷ rs) (line ∷ lines) e h z =
    let cut = line_is_cut (row_after before r) line (IsRow-row_of _ r h.0) z.0 in
    scope_of_lines (Some (symbol_of r)) (Some line) (before ++ r ∷ []) rs lines
    (scope_of_record r ∙ ap scope_after_kind (sym cut.kind)) h.1 z.1

last_get : (x : List ℕ) (xs : List (List ℕ)) → last_or (Some x) xs ≡ slice_get (x ∷ xs) (length xs)
last_get x [] = refl
last_get x (y ∷ ys) = last_get y ys

last_line : (lines : List (List ℕ)) → last_or None lines ≡ slice_get lines (length lines - 1)
last_line [] = refl
last_line (x ∷ xs) =
    let n : length xs ≡ length (x ∷ xs) - 1 = omega arith in last_get x xs ∙ ap (λ (i : ℕ). slice_get (x ∷ xs) i) n

-- what is open after the records follows from the last of their lines
pub scope_of_last : (records : List RecordValue) (lines : List (List ℕ)) → AllByRecursion IsRecord records
    → AllZip IsLineOf (rows_so_far records) lines → scope_after (map symbol_of records) ≡ scope_after_kind (last_kind lines)
scope_of_last records lines h z =
    scope_of_lines None None [] records lines refl h z
    ∙ ap (λ (o : Option (List ℕ)). scope_after_kind (option_and_then line_kind o)) (last_line lines)

pub stopped_level : (d : Standing) (input : List ℕ) (given : List Item) (refusal : Refusal) (line : List ℕ)
    → (s : IsStopped d input given refusal) → HoldsLine s.line line
    → refusal.level ≡ level_of (line_kind line) refusal.field refusal.reason (scope_after_kind (last_kind s.lines))
stopped_level d input given refusal line s holds =
    let cut = held_line_is_cut s.line line s.is_held holds in
    s.level ∙ ap₂ (λ (k : Option Kind) (p : Scope). level_of k refusal.field refusal.reason p) cut.kind
    (scope_of_last s.records s.lines s.read.in_order s.read.rows)
