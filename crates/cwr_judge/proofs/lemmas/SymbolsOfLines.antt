-- What a transmission continues from by the symbols that accepted lines name is what it continues from by those of their records.
use Rattle.std.proofs.Common.{◌≡◌, ℕ, List, [], ◌∷◌, ◌++◌, map, ap, ap₂, ◌∙◌, refl}
use Rattle.std.specs.List.{AllZip, AllByRecursion, IsAmong}
use Rattle.cwr_lines.specs.Format.Records.{RecordValue, IsRecord}
use Rattle.cwr_lines.specs.Format.Lines.{IsLineOf, line_kind, line_cells}
use Rattle.cwr_shape.specs.declared.symbols.Symbol.{Symbol}
use Rattle.cwr_shape.specs.Format.Outlines.{GroupOutline}
use Rattle.cwr_shape.specs.Format.Candidates.{candidates, ContinuesAmong}
use Rattle.cwr_shape.specs.Format.NextSymbols.{ContinuesWith}
use Rattle.cwr_values.specs.Format.Values.{symbol_of}
use Rattle.cwr_values.specs.Format.Begins.{numbers_after, rows_after, rows_so_far}
use Rattle.cwr_judge.proofs.lemmas.LineRecords.{line_names, line_names_it}

-- what the lines name
abbrev pub named_by_lines : List (List ℕ) → List (List Symbol)
named_by_lines lines = map (λ line. candidates (line_kind line) (line_cells line)) lines

-- the set has this symbol alone
record Alone (set : List Symbol) (x : Symbol) : Type 0 where
  has : IsAmong set x
  only : (t : Symbol) → IsAmong set t → t ≡ x

all_alone : (before rs : List RecordValue) (lines : List (List ℕ)) → AllByRecursion IsRecord rs
    → AllZip IsLineOf (rows_after before rs) lines → AllZip Alone (named_by_lines lines) (map symbol_of rs)
unfolding rows_after
all_alone before [] [] h z = tt
all_alone before [] (line ∷ lines) h z = absurd z
all_alone before (r ∷ rs) [] h z = absurd z
all_alone before (r ∷ rs) (line ∷ lines) h z = (
  record {
    has = line_names_it (numbers_after (map symbol_of before) r.kind) r line h.0 z.0;
    only = λ t a. line_names (numbers_after (map symbol_of before) r.kind) r line t h.0 z.0 a;
  },
  all_alone (before ++ r ∷ []) rs lines h.1 z.1,
)

-- symbols each of which is in its set, where the last set is another
record EndsIn (xs cs ys : List Symbol) : Type 0 where
  symbol : Symbol
  among : IsAmong cs symbol
  are : ys ≡ xs ++ symbol ∷ []

ends_in : (sets : List (List Symbol)) (xs cs ys : List Symbol) → AllZip Alone sets xs → AllZip IsAmong (sets ++ cs ∷ []) ys
    → EndsIn xs cs ys
ends_in [] [] cs [] a z = absurd z
ends_in [] [] cs (y ∷ []) a z = record { symbol = y; among = z.0; are = refl }
ends_in [] [] cs (y ∷ z ∷ ys) a q = absurd q.1
ends_in [] (x ∷ xs) cs ys a z = absurd a
ends_in (set ∷ sets) [] cs ys a z = absurd a
ends_in (set ∷ sets) (x ∷ xs) cs [] a z = absurd z
ends_in (set ∷ sets) (x ∷ xs) cs (y ∷ ys) a z =
    let e = ends_in sets xs cs ys a.1 z.1 in
    record { symbol = e.symbol; among = e.among; are = ap₂ (λ (s : Symbol) (l : List Symbol). s ∷ l) (a.0.only y z.0) e.are }

all_among : (sets : List (List Symbol)) (xs cs : List Symbol) (s : Symbol) → AllZip Alone sets xs → IsAmong cs s
    → AllZip IsAmong (sets ++ cs ∷ []) (xs ++ s ∷ [])
all_among [] [] cs s a m = (m, tt)
all_among [] (x ∷ xs) cs s a m = absurd a
all_among (set ∷ sets) [] cs s a m = absurd a
all_among (set ∷ sets) (x ∷ xs) cs s a m = (a.0.has, all_among sets xs cs s a.1 m)

pub among_with : (P : List GroupOutline → Type 0) (records : List RecordValue) (lines : List (List ℕ)) (cs : List Symbol)
    → AllByRecursion IsRecord records → AllZip IsLineOf (rows_so_far records) lines
    → ContinuesAmong P (named_by_lines lines ++ cs ∷ []) → ContinuesWith (map symbol_of records) cs P
among_with P records lines cs h z (groups, whole, p, (ys, rest, begins, each)) =
    let e = ends_in (named_by_lines lines) (map symbol_of records) cs ys (all_alone [] records lines h z) each in
    (e.symbol, e.among, (groups, whole, p, (rest, begins ∙ ap (λ (l : List Symbol). l ++ rest) e.are)))

pub with_among : (P : List GroupOutline → Type 0) (records : List RecordValue) (lines : List (List ℕ)) (cs : List Symbol)
    → AllByRecursion IsRecord records → AllZip IsLineOf (rows_so_far records) lines
    → ContinuesWith (map symbol_of records) cs P → ContinuesAmong P (named_by_lines lines ++ cs ∷ [])
with_among P records lines cs h z (s, among, (groups, whole, p, (rest, begins))) = (
  groups,
  whole,
  p,
  (
    map symbol_of records ++ s ∷ [],
    rest,
    begins,
    all_among (named_by_lines lines) (map symbol_of records) cs s (all_alone [] records lines h z) among,
  ),
)
