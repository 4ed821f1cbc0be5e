-- What is shown of a text in parts.
use Rattle.std.proofs.Common.{◌≡◌, ℕ, suc, ◌+◌, ◌<◌, Bool, true, false, ◌==◌, cond, List, [], ◌∷◌, ◌++◌, Option, Some, None, is_some, length, take, drop, ◌≤◌, refl, sym, ap, ◌∙◌, arith, append-nil, append_assoc, length-append, le-ltb, lt-ltb}
use Rattle.cwr_terminal.specs.declared.styles.Style.{Style}
use Rattle.cwr_terminal.specs.Format.Shown.{HasNoLineFeed, own_from, shown_after, shown_behind_name, shown_line}
use Rattle.cwr_terminal.specs.Steps.Held.{shown_behind, shown_rest}

-- one byte, which isn't a line feed, and one that is
after_byte : (style : Style) (line : List ℕ) (b : ℕ) (text : List ℕ) → (b == 10) ≡ false
    → shown_after style line (b ∷ text) ≡ shown_after style (line ++ b ∷ []) text
unfolding shown_after
after_byte style line b text e =
    ap (λ (x : Bool). cond x (shown_line style line ++ 10 ∷ shown_after style [] text) (shown_after style (line ++ b ∷ []) text)) e

pub after_feed : (style : Style) (line : List ℕ) (b : ℕ) (text : List ℕ) → (b == 10) ≡ true
    → shown_after style line (b ∷ text) ≡ shown_line style line ++ 10 ∷ shown_after style [] text
unfolding shown_after
after_feed style line b text e =
    ap (λ (x : Bool). cond x (shown_line style line ++ 10 ∷ shown_after style [] text) (shown_after style (line ++ b ∷ []) text)) e

pub after_nothing : (style : Style) (line : List ℕ) → shown_after style line [] ≡ shown_line style line
unfolding shown_after
after_nothing style line = refl

rest_byte : (style : Style) (b : ℕ) (text : List ℕ) → (b == 10) ≡ false → shown_rest style (b ∷ text) ≡ b ∷ shown_rest style text
unfolding shown_rest
rest_byte style b text e = ap (λ (x : Bool). cond x (10 ∷ shown_after style [] text) (b ∷ shown_rest style text)) e

rest_feed : (style : Style) (b : ℕ) (text : List ℕ) → (b == 10) ≡ true → shown_rest style (b ∷ text) ≡ 10 ∷ shown_after style [] text
unfolding shown_rest
rest_feed style b text e = ap (λ (x : Bool). cond x (10 ∷ shown_after style [] text) (b ∷ shown_rest style text)) e

pub rest_of_nothing : (style : Style) → shown_rest style [] ≡ []
unfolding shown_rest
rest_of_nothing style = refl

-- what has no line feed goes on with the line
pub behind : (style : Style) (line part more : List ℕ) → HasNoLineFeed part
    → shown_after style line (part ++ more) ≡ shown_after style (line ++ part) more
behind style line [] more none = ap (λ (l : List ℕ). shown_after style l more) (sym (append-nil line))
behind style line (b ∷ part) more none =
    after_byte style line b (part ++ more) (none 0 (omega arith))
    ∙ behind style (line ++ b ∷ []) part more (λ k lt. none (suc k) (omega arith))
    ∙ ap (λ (l : List ℕ). shown_after style l more) (append_assoc line (b ∷ []) part)

-- and with the rest of one
rest_behind : (style : Style) (part more : List ℕ) → HasNoLineFeed part
    → shown_rest style (part ++ more) ≡ part ++ shown_rest style more
rest_behind style [] more none = refl
rest_behind style (b ∷ part) more none =
    rest_byte style b (part ++ more) (none 0 (omega arith))
    ∙ ap (λ (l : List ℕ). b ∷ l) (rest_behind style part more (λ k lt. none (suc k) (omega arith)))

-- a line that is too long is left as it is
pub long : (style : Style) (line : List ℕ) → 1024 < length line → shown_line style line ≡ line
unfolding shown_line
long style line h = rw (lt-ltb 1024 (length line) h) refl

-- one that isn't is shown behind its name
pub short : (style : Style) (line : List ℕ) → length line ≤ 1024
    → shown_line style line
    ≡ shown_behind_name style (take (own_from style.lines line) line) (drop (own_from style.lines line) line)
unfolding shown_line
short style line h = rw (le-ltb 1024 (length line) h) refl

long_by : (style : Style) (line : List ℕ) (b : ℕ) (more : List ℕ) → 1024 < length line → (x : Bool) → (b == 10) ≡ x
    → shown_after style (line ++ b ∷ []) more ≡ (line ++ b ∷ []) ++ shown_rest style more
    → shown_after style line (b ∷ more) ≡ line ++ shown_rest style (b ∷ more)
long_by style line b more h true e on =
    after_feed style line b more e ∙ ap (λ (l : List ℕ). l ++ 10 ∷ shown_after style [] more) (long style line h)
    ∙ ap (λ (l : List ℕ). line ++ l) (sym (rest_feed style b more e))
long_by style line b more h false e on =
    after_byte style line b more e ∙ on ∙ append_assoc line (b ∷ []) (shown_rest style more)
    ∙ ap (λ (l : List ℕ). line ++ l) (sym (rest_byte style b more e))

-- so its rest may be, once it is known to be
long_after : (style : Style) (line more : List ℕ) → 1024 < length line
    → shown_after style line more ≡ line ++ shown_rest style more
long_after style line [] h =
    after_nothing style line ∙ long style line h ∙ sym (append-nil line)
    ∙ ap (λ (l : List ℕ). line ++ l) (sym (rest_of_nothing style))
long_after style line (b ∷ more) h =
    long_by style line b more h (b == 10) refl
    (long_after style (line ++ b ∷ []) more (let e : length (line ++ b ∷ []) ≡ length line + 1 = length-append line (b ∷ []) in omega arith))

-- ---- what is held

-- a part of a line whose start was handed on is handed on
pub passed : (style : Option Style) (passes : Bool) (line part more : List ℕ) → passes ≡ true → HasNoLineFeed part
    → shown_behind style passes line (part ++ more) ≡ part ++ shown_behind style passes line more
passed None passes line part more e none = refl
passed (Some style) true line part more e none = rest_behind style part more none
passed (Some style) false line part more e none = cc

-- one of another line is added to what is held
pub added : (style : Option Style) (passes : Bool) (line part more : List ℕ) → is_some style ≡ true → passes ≡ false → HasNoLineFeed part
    → shown_behind style passes line (part ++ more) ≡ shown_behind style passes (line ++ part) more
added None passes line part more e f none = cc
added (Some style) true line part more e f none = cc
added (Some style) false line part more e f none = behind style line part more none

-- where that would be too long all of it is handed on
pub over : (style : Option Style) (passes : Bool) (line part more : List ℕ) → is_some style ≡ true → passes ≡ false → HasNoLineFeed part
    → 1024 < length line + length part
    → shown_behind style passes line (part ++ more) ≡ (line ++ part) ++ shown_behind style true line more
over None passes line part more e f none h = cc
over (Some style) true line part more e f none h = cc
over (Some style) false line part more e f none h =
    behind style line part more none
    ∙ long_after style (line ++ part) more (let e : length (line ++ part) ≡ length line + length part = length-append line part in omega arith)

-- a line feed ends a line, and what follows begins one
pub ended : (style : Style) (passes : Bool) (line more : List ℕ)
    → shown_behind (Some style) passes line (10 ∷ more) ≡ shown_behind (Some style) passes line [] ++ 10 ∷ shown_after style [] more
ended style true line more =
    rest_feed style 10 more refl ∙ ap (λ (l : List ℕ). l ++ 10 ∷ shown_after style [] more) (sym (rest_of_nothing style))
ended style false line more =
    after_feed style line 10 more refl ∙ ap (λ (l : List ℕ). l ++ 10 ∷ shown_after style [] more) (sym (after_nothing style line))
