-- The lines that a text is broken into.
use Rattle.std.proofs.Common.{◌≡◌, ℕ, ◌+◌, ◌≤◌, ◌⊎◌, Bool, true, false, not, ◌&&◌, ◌==◌, List, [], ◌∷◌, ◌++◌, length, slice_index, nat_lt, refl, sym, ap, ◌∙◌, subst, inl, inr, arith, append_assoc, append-nil, add-zero, lt-ltb, ltb-false, eqb-true}
use Rattle.std.proofs.lemmas.Bool.{and_parts}
use Rattle.std.proofs.lemmas.List.Sums.{sum_by-append, sum_by_push}
use Rattle.cwr_terminal.specs.Format.Breaks.{breaks, broken, column_of, columns, may_break, new_line, word_columns}
use Rattle.cwr_terminal.specs.Format.Laws.{BrokenToFit, Fits, IsShownIn, IsUnbreakable, last_of}
use Rattle.cwr_terminal.proofs.lemmas.Broken.{broken_none, broken_on, broken_there, word_by}

-- ---- where a line may be broken, with another behind it

may_break_before : (before b c : ℕ) (text : List ℕ)
    → may_break before (b ∷ c ∷ text) ≡ ((b == 32) && not (before == 32) && not (c == 32))
may_break_before before b c text =
    ap (λ (x : Bool). x && (b == 32) && not (before == 32) && not (c == 32)) (lt-ltb 1 (length (b ∷ c ∷ text)) (omega arith))

-- not at a byte with another text behind it, so not without that
alone : (before b : ℕ) (front text : List ℕ) → may_break before (b ∷ (front ++ text)) ≡ false → may_break before (b ∷ front) ≡ false
alone before b [] text h = refl
alone before b (c ∷ front) text h = may_break_before before b c front ∙ sym (may_break_before before b c (front ++ text)) ∙ h

-- nowhere in the front may a line be broken, with that text behind it
abbrev HoldsTogether : ℕ → List ℕ → List ℕ → Type 0
HoldsTogether before [] text = Unit {0}
HoldsTogether before (b ∷ front) text = (may_break before (b ∷ (front ++ text)) ≡ false) × HoldsTogether b front text

holds_alone : (before : ℕ) (front text : List ℕ) → HoldsTogether before front text → IsUnbreakable before front
holds_alone before [] text h = tt
holds_alone before (b ∷ front) text h = (alone before b front text h.0, holds_alone b front text h.1)

holds_more : (before b : ℕ) (front text : List ℕ) → HoldsTogether before front (b ∷ text)
    → may_break (last_of before front) (b ∷ text) ≡ false → HoldsTogether before (front ++ b ∷ []) text
holds_more before b [] text h e = (e, tt)
holds_more before b (a ∷ front) text h e = (
  ap (λ (l : List ℕ). may_break before (a ∷ l)) (append_assoc front (b ∷ []) text) ∙ h.0,
  holds_more a b front text h.1 e,
)

last_more : (before b : ℕ) (front : List ℕ) → last_of before (front ++ b ∷ []) ≡ b
last_more before b [] = refl
last_more before b (a ∷ front) = last_more a b front

-- ---- the line so far

-- with the rest of its last word it fits, or it is one word
abbrev IsOpen : ℕ → ℕ → List ℕ → List ℕ → Type 0
IsOpen width start front text =
    (start + columns front + word_columns (last_of 32 front) text ≤ width) ⊎ HoldsTogether 32 front text

-- what the lines of a text are
abbrev Lined : ℕ → ℕ → ℕ → List ℕ → List ℕ → Type 0
Lined indent width start text seen =
    (first : List ℕ) × (lines : List (List ℕ)) × IsShownIn indent width start text seen first lines

-- a line that ends fits, or is one word
fits_so_far : (width start : ℕ) (front text : List ℕ) → IsOpen width start front text → Fits width start front
fits_so_far width start front text (inl h) = inl (omega arith)
fits_so_far width start front text (inr h) = inr (holds_alone 32 front text h)

-- it ends the text
last_line : (indent width start : ℕ) (front : List ℕ) → IsOpen width start front []
    → Lined indent width start (front ++ []) (front ++ broken indent width (start + columns front) (last_of 32 front) [])
last_line indent width start front opened = (
  front,
  [],
  record {
    spaced = append-nil front;
    indented = ap (λ (l : List ℕ). front ++ l) (broken_none indent width (start + columns front) (last_of 32 front)) ∙ append-nil front;
    fit = fits_so_far width start front [] opened;
    full = tt;
  },
)

-- it is broken at a space
line_ends : (indent width start : ℕ) (front text : List ℕ) → IsOpen width start front (32 ∷ text)
    → breaks width (start + columns front) (last_of 32 front) (32 ∷ text) ≡ true
    → Lined indent width indent text (broken indent width indent 32 text)
    → Lined indent width start (front ++ 32 ∷ text) (front ++ broken indent width (start + columns front) (last_of 32 front) (32 ∷ text))
line_ends indent width start front text opened e rest = (
  front,
  rest.0 ∷ rest.1,
  record {
    spaced = ap (λ (l : List ℕ). front ++ 32 ∷ l) rest.2.spaced;
    indented =
        ap (λ (l : List ℕ). front ++ l) (broken_there indent width (start + columns front) (last_of 32 front) 32 text e
        ∙ ap (λ (l : List ℕ). new_line indent ++ l) rest.2.indented);
    fit = (fits_so_far width start front (32 ∷ text) opened, rest.2.fit);
    full = (
      ap (λ (l : List ℕ). breaks width (start + columns front) (last_of 32 front) (32 ∷ l)) (sym rest.2.spaced) ∙ e,
      rest.2.full,
    );
  },
)

-- a line may be broken at a space alone
at_space : (before b : ℕ) (text : List ℕ) → may_break before (b ∷ text) ≡ true → b ≡ 32
at_space before b text may =
    let three = (and_parts (nat_lt 1 (length (b ∷ text)) && (b == 32) && not (before == 32)) (not (slice_index text 0 == 32)) may).0 in
    let two = (and_parts (nat_lt 1 (length (b ∷ text)) && (b == 32)) (not (before == 32)) three).0 in
    eqb-true b 32 (and_parts (nat_lt 1 (length (b ∷ text))) (b == 32) two).1

-- it goes on with a byte
open_by : (width start b : ℕ) (front text : List ℕ) (x : Bool) → may_break (last_of 32 front) (b ∷ text) ≡ x
    → breaks width (start + columns front) (last_of 32 front) (b ∷ text) ≡ false
    → IsOpen width start front (b ∷ text) → IsOpen width start (front ++ b ∷ []) text
open_by width start b front text true may e opened =
    let is : b ≡ 32 = at_space (last_of 32 front) b text may in
    let over : nat_lt width (start + columns front + 1 + word_columns 32 text) ≡ false =
    ap (λ (y : Bool). y && nat_lt width (start + columns front + 1 + word_columns 32 text)) (sym may) ∙ e in
    let room : start + columns front + 1 + word_columns 32 text ≤ width =
    ltb-false width (start + columns front + 1 + word_columns 32 text) over in
    let one : column_of b ≡ 1 = ap column_of is in
    let more : columns (front ++ b ∷ []) ≡ columns front + column_of b = sum_by_push column_of front b in
    let word : word_columns (last_of 32 (front ++ b ∷ [])) text ≡ word_columns 32 text =
    ap (λ (z : ℕ). word_columns z text) (last_more 32 b front ∙ is) in
    inl (omega arith)
open_by width start b front text false may e (inl h) =
    let more : columns (front ++ b ∷ []) ≡ columns front + column_of b = sum_by_push column_of front b in
    let word : word_columns (last_of 32 (front ++ b ∷ [])) text ≡ word_columns b text =
    ap (λ (z : ℕ). word_columns z text) (last_more 32 b front) in
    let first : word_columns (last_of 32 front) (b ∷ text) ≡ column_of b + word_columns b text =
    word_by (last_of 32 front) b text false may in
    inl (omega arith)
open_by width start b front text false may e (inr h) = inr (holds_more 32 b front text h may)

line_goes : (indent width start b : ℕ) (front text : List ℕ)
    → breaks width (start + columns front) (last_of 32 front) (b ∷ text) ≡ false
    → Lined indent width start ((front ++ b ∷ []) ++ text)
    ((front ++ b ∷ []) ++ broken indent width (start + columns (front ++ b ∷ [])) (last_of 32 (front ++ b ∷ [])) text)
    → Lined indent width start (front ++ b ∷ text) (front ++ broken indent width (start + columns front) (last_of 32 front) (b ∷ text))
line_goes indent width start b front text e rest =
    let columns_on : start + columns front + columns (b ∷ []) ≡ start + columns (front ++ b ∷ []) =
    (let more : columns (front ++ b ∷ []) ≡ columns front + columns (b ∷ []) = sum_by-append column_of front (b ∷ []) in omega arith) in
    let behind : broken indent width (start + columns front + columns (b ∷ [])) b text
    ≡ broken indent width (start + columns (front ++ b ∷ [])) (last_of 32 (front ++ b ∷ [])) text =
    ap (λ (c : ℕ). broken indent width c b text) columns_on
    ∙ ap (λ (z : ℕ). broken indent width (start + columns (front ++ b ∷ [])) z text) (sym (last_more 32 b front)) in (
      rest.0,
      rest.1,
      record {
        spaced = sym (append_assoc front (b ∷ []) text) ∙ rest.2.spaced;
        indented =
            ap (λ (l : List ℕ). front ++ l) (broken_on indent width (start + columns front) (last_of 32 front) b text e
            ∙ ap (λ (l : List ℕ). b ∷ l) behind)
            ∙ sym (append_assoc front (b ∷ []) (broken indent width (start + columns (front ++ b ∷ [])) (last_of 32 (front ++ b ∷ [])) text))
            ∙ rest.2.indented;
        fit = rest.2.fit;
        full = rest.2.full;
      },
    )

-- ---- a text

step : (indent width start b : ℕ) (front text : List ℕ) → IsOpen width start front (b ∷ text) → (x : Bool)
    → breaks width (start + columns front) (last_of 32 front) (b ∷ text) ≡ x
    → Lined indent width indent text (broken indent width indent 32 text)
    → (IsOpen width start (front ++ b ∷ []) text → Lined indent width start ((front ++ b ∷ []) ++ text)
    ((front ++ b ∷ []) ++ broken indent width (start + columns (front ++ b ∷ [])) (last_of 32 (front ++ b ∷ [])) text))
    → Lined indent width start (front ++ b ∷ text) (front ++ broken indent width (start + columns front) (last_of 32 front) (b ∷ text))
step indent width start b front text opened true e rest on =
    let may = (and_parts (may_break (last_of 32 front) (b ∷ text))
    (nat_lt width (start + columns front + 1 + word_columns 32 text)) e).0 in
    subst
    (λ (z : ℕ). IsOpen width start front (z ∷ text) → breaks width (start + columns front) (last_of 32 front) (z ∷ text) ≡ true
    → Lined indent width start (front ++ z ∷ text) (front ++ broken indent width (start + columns front) (last_of 32 front) (z ∷ text)))
    (sym (at_space (last_of 32 front) b text may))
    (λ o h. line_ends indent width start front text o h rest)
    opened
    e
step indent width start b front text opened false e rest on =
    line_goes indent width start b front text e
    (on (open_by width start b front text (may_break (last_of 32 front) (b ∷ text)) refl e opened))

lined : (indent width start : ℕ) (front text : List ℕ) → IsOpen width start front text
    → Lined indent width start (front ++ text) (front ++ broken indent width (start + columns front) (last_of 32 front) text)
lined indent width start front [] opened = last_line indent width start front opened
lined indent width start front (b ∷ text) opened =
    step indent width start b front text opened (breaks width (start + columns front) (last_of 32 front) (b ∷ text)) refl
    (subst (λ (c : ℕ). Lined indent width indent text (broken indent width c 32 text)) (add-zero indent)
    (lined indent width indent [] text (inr tt)))
    (λ o. lined indent width start (front ++ b ∷ []) text o)

pub broken_to_fit : BrokenToFit
broken_to_fit indent width column text =
    subst (λ (c : ℕ). Lined indent width column text (broken indent width c 32 text)) (add-zero column)
    (lined indent width column [] text (inr tt))
