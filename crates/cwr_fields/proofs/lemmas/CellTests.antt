-- Tests that compute whether a cell is one of its type. A test that passes shows that it is.
use Rattle.std.proofs.Common.{◌≡◌, ℕ, suc, ◌^◌, ◌<◌, ◌≤◌, Bool, true, false, not, ◌&&◌, ◌||◌, ltb, leb, List, [], ◌∷◌, ◌++◌}
use Rattle.std.proofs.Common.{length, take, drop, replicate, refl, sym, subst, inl, inr, arith, true≢false, pos}
use Rattle.std.specs.Prelude.{◌⊎◌}
use Rattle.std.specs.List.{list_any, IsAmong}
use Rattle.std.specs.Str.{bytes_eq}
use Rattle.std.proofs.lemmas.Bool.{and_parts, or_cases, ltb-true, leb-true, not-true}
use Rattle.std.proofs.lemmas.Slice.Eq.{bytes_eq-Decides}
use Rattle.std.proofs.lemmas.Int.{ints}
use Rattle.jiff.specs.Words.{IsDate, days_in_month}
use Rattle.cwr_fields.specs.declared.cell_types.CellType.{CellType}
use Rattle.cwr_fields.specs.declared.cell_types.CellType.TheVariants.{Text, Required, Number, OptNumber, Date, OptDate, Time}
use Rattle.cwr_fields.specs.declared.cell_types.CellType.TheVariants.{OptTime, OptDuration, Share, Flag, Code, OptCode, Constant}
use Rattle.cwr_fields.specs.declared.tables.Table.{Table}
use Rattle.cwr_fields.specs.declared.tables.Table.TheVariants as tables
use Rattle.cwr_fields.specs.Format.Bytes.{is_plain, is_spaces, digits, number_of, filled}
use Rattle.cwr_fields.specs.Format.Codes.{codes_of, code_width, word_text}
use Rattle.cwr_fields.specs.Format.Cells.{Allows, SpellsNumber, SpellsDay, SpellsTime, SpellsShare, SpellsCode, flag_texts}
use Rattle.cwr_fields.proofs.lemmas.NumbersInParts.{year_part, month_part, day_part}

same : (xs ys : List ℕ) → bytes_eq xs ys ≡ true → xs ≡ ys
same xs ys h = (bytes_eq-Decides xs ys).0 h

unfoldable pub number_test : List ℕ → Bool
number_test cell =
    ltb 0 (length cell) && (ltb (number_of cell) (10 ^ length cell) && bytes_eq cell (digits (length cell) (number_of cell)))

number_sound : (cell : List ℕ) → number_test cell ≡ true → SpellsNumber cell
unfolding number_test
number_sound cell h =
    let p = and_parts _ _ h in
    let q = and_parts _ _ p.1 in (
      number_of cell,
      ltb-true 0 (length cell) p.0,
      ltb-true (number_of cell) (10 ^ length cell) q.0,
      same cell (digits (length cell) (number_of cell)) q.1,
    )

abbrev pub date_test : ℕ → ℕ → ℕ → Bool
date_test y m d = leb 1 y && (leb y 9999 && (leb 1 m && (leb m 12 && (leb 1 d && leb d (days_in_month (pos y) m)))))

date_sound : (y m d : ℕ) → date_test y m d ≡ true → (0 < y) × IsDate (pos y) (pos m) (pos d)
date_sound y m d h =
    let a = and_parts _ _ h in
    let b = and_parts _ _ a.1 in
    let c = and_parts _ _ b.1 in
    let e = and_parts _ _ c.1 in
    let f = and_parts _ _ e.1 in
    let y1 : 1 ≤ y = leb-true 1 y a.0 in
    let y2 : y ≤ 9999 = leb-true y 9999 b.0 in
    let m1 : 1 ≤ m = leb-true 1 m c.0 in
    let m2 : m ≤ 12 = leb-true m 12 e.0 in
    let d1 : 1 ≤ d = leb-true 1 d f.0 in
    let d2 : d ≤ days_in_month (pos y) m = leb-true d (days_in_month (pos y) m) f.1 in
    (omega arith, omega (arith, ints))

unfoldable pub day_test : List ℕ → Bool
day_test cell =
    date_test (year_part cell) (month_part cell) (day_part cell) && bytes_eq cell
    (digits 4 (year_part cell) ++ digits 2 (month_part cell) ++ digits 2 (day_part cell))

day_sound : (cell : List ℕ) → day_test cell ≡ true → SpellsDay cell
unfolding day_test
day_sound cell h =
    let p = and_parts _ _ h in
    let d = date_sound (year_part cell) (month_part cell) (day_part cell) p.0 in
    (year_part cell, month_part cell, day_part cell, d.0, d.1, same cell _ p.1)

abbrev pub hours : List ℕ → ℕ
hours cell = number_of (take 2 cell)

abbrev pub minutes : List ℕ → ℕ
minutes cell = number_of (take 2 (drop 2 cell))

abbrev pub seconds : List ℕ → ℕ
seconds cell = number_of (take 2 (drop 4 cell))

unfoldable pub time_test : ℕ → List ℕ → Bool
time_test bound cell =
    ltb (hours cell) bound && (ltb (minutes cell) 60
    && (ltb (seconds cell) 60 && bytes_eq cell (digits 2 (hours cell) ++ digits 2 (minutes cell) ++ digits 2 (seconds cell))))

time_sound : (bound : ℕ) (cell : List ℕ) → time_test bound cell ≡ true → SpellsTime bound cell
unfolding time_test
time_sound bound cell h =
    let a = and_parts _ _ h in
    let b = and_parts _ _ a.1 in
    let c = and_parts _ _ b.1 in
    (hours cell, minutes cell, seconds cell, ltb-true _ _ a.0, ltb-true _ _ b.0, ltb-true _ _ c.0, same cell _ c.1)

unfoldable pub share_test : List ℕ → Bool
share_test cell = leb (number_of cell) 10000 && bytes_eq cell (digits 5 (number_of cell))

share_sound : (cell : List ℕ) → share_test cell ≡ true → SpellsShare cell
unfolding share_test
share_sound cell h = let p = and_parts _ _ h in (number_of cell, leb-true _ _ p.0, same cell _ p.1)

abbrev FoundBy : (List ℕ → List ℕ) → List (List ℕ) → List ℕ → Type 0
FoundBy f list cell = (code : List ℕ) × IsAmong list code × (cell ≡ f code)

found_first : (f : List ℕ → List ℕ) (c : List ℕ) (list : List (List ℕ)) (cell : List ℕ)
    → (list_any (λ code. bytes_eq cell (f code)) list ≡ true → FoundBy f list cell)
    → (bytes_eq cell (f c) ≡ true) ⊎ (list_any (λ code. bytes_eq cell (f code)) list ≡ true) → FoundBy f (c ∷ list) cell
found_first f c list cell ih (inl e) = (c, (0, (omega arith, refl)), same cell (f c) e)
found_first f c list cell ih (inr e) = let m = ih e in (m.0, (suc m.1.0, (omega (arith, m.1.1.0), m.1.1.1)), m.2)

among_sound : (f : List ℕ → List ℕ) (list : List (List ℕ)) (cell : List ℕ) → list_any (λ code. bytes_eq cell (f code)) list ≡ true
    → FoundBy f list cell
among_sound f [] cell h = absurd (true≢false (sym h))
among_sound f (c ∷ list) cell h =
    found_first f c list cell (among_sound f list cell)
    (or_cases (bytes_eq cell (f c)) (list_any (λ code. bytes_eq cell (f code)) list) h)

abbrev pub code_test : Table → List ℕ → Bool
code_test table cell = list_any (λ code. bytes_eq cell (filled (code_width table) code)) (codes_of table)

code_sound : (table : Table) (cell : List ℕ) → code_test table cell ≡ true → SpellsCode table cell
code_sound tables.Sender cell h = inl (among_sound (filled 2) (codes_of tables.Sender) cell h)
code_sound table cell h = among_sound (filled (code_width table)) (codes_of table) cell h

flag_sound : (cell : List ℕ) → list_any (λ code. bytes_eq cell code) flag_texts ≡ true → IsAmong flag_texts cell
flag_sound cell h = let m = among_sound (λ c. c) flag_texts cell h in subst (IsAmong flag_texts) (sym m.2) m.1

-- the cell is one of the type; two digits of a sender type aren't seen
unfoldable pub holds_test : CellType → List ℕ → Bool
holds_test Text cell = is_plain cell
holds_test Required cell = is_plain cell && not (is_spaces cell)
holds_test Number cell = number_test cell
holds_test OptNumber cell = is_spaces cell || number_test cell
holds_test Date cell = day_test cell
holds_test OptDate cell = bytes_eq cell (replicate 8 32) || (bytes_eq cell (replicate 8 48) || day_test cell)
holds_test Time cell = time_test 24 cell
holds_test OptTime cell = bytes_eq cell (replicate 6 32) || time_test 24 cell
holds_test OptDuration cell = bytes_eq cell (replicate 6 32) || time_test 100 cell
holds_test Share cell = bytes_eq cell (replicate 5 32) || share_test cell
holds_test Flag cell = list_any (λ code. bytes_eq cell code) flag_texts
holds_test (Code table) cell = code_test table cell
holds_test (OptCode table) cell = bytes_eq cell (replicate (code_width table) 32) || code_test table cell
holds_test (Constant word) cell = bytes_eq cell (word_text word)

either : {P Q : Type 0} (a b : Bool) → (a ≡ true → P) → (b ≡ true → Q) → (a || b) ≡ true → P ⊎ Q
either true b f g h = inl (f refl)
either false b f g h = inr (g h)

pub holds_sound : (ty : CellType) (cell : List ℕ) → holds_test ty cell ≡ true → Allows ty cell
unfolding holds_test
holds_sound Text cell h = h
holds_sound Required cell h = let p = and_parts _ _ h in (p.0, not-true _ p.1)
holds_sound Number cell h = number_sound cell h
holds_sound OptNumber cell h = either _ _ (λ e. e) (number_sound cell) h
holds_sound Date cell h = day_sound cell h
holds_sound OptDate cell h = either _ _ (same cell (replicate 8 32)) (either _ _ (same cell (replicate 8 48)) (day_sound cell)) h
holds_sound Time cell h = time_sound 24 cell h
holds_sound OptTime cell h = either _ _ (same cell (replicate 6 32)) (time_sound 24 cell) h
holds_sound OptDuration cell h = either _ _ (same cell (replicate 6 32)) (time_sound 100 cell) h
holds_sound Share cell h = either _ _ (same cell (replicate 5 32)) (share_sound cell) h
holds_sound Flag cell h = flag_sound cell h
holds_sound (Code table) cell h = code_sound table cell h
holds_sound (OptCode table) cell h = either _ _ (same cell (replicate (code_width table) 32)) (code_sound table cell) h
holds_sound (Constant word) cell h = same cell (word_text word) h
