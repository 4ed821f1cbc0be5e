-- What an output takes, call by call.
use Rattle.std.proofs.Common.{◌≡◌, ℕ, ◌+◌, ◌<◌, ◌≤◌, Bool, true, false, ◌==◌, ◌↔◌, Result, Ok, Err, IsOk, OnOk, OnErr, List, [], ◌∷◌, ◌++◌, Option, Some, None, is_some, length, take, slice_index, refl, sym, ap, ◌∙◌, subst, arith, append_assoc, eqb-true}
use Rattle.std.proofs.Common.{inl, inr}
use Rattle.std.proofs.lemmas.Bool.{cases_lt}
use Rattle.std.specs.Result.{is_err}
use Rattle.std.proofs.KnownBytes.{Appends-kept, Appends-nil, Appends-trans}
use Rattle.std.specs.Io.KnownBytes.{Appends, Keeps}
use Rattle.std.proofs.lemmas.List.{get_or-take, length-take-le, take_more}
use Rattle.cwr_terminal.specs.declared.styled.Styled.{Styled}
use Rattle.cwr_terminal.specs.declared.styles.Style.{Style}
use Rattle.cwr_terminal.specs.Format.Shown.{HasNoLineFeed, shown_after, shown_line, shown_text}
use Rattle.cwr_terminal.specs.Steps.Held.{HoldsNothing, Shows, Takes, shown_behind, to_show}
use Rattle.cwr_terminal.proofs.lemmas.Parts.{added, after_nothing, ended, over, passed, rest_of_nothing}

-- an output that keeps its bytes was given none
pub appends_nothing : (x y : Option (List ℕ)) → Keeps x y → Appends x y []
appends_nothing x y e = Appends-kept x x y [] (Appends-nil x) e

-- parts are taken one after another
pub takes_more : {W : Type 0} (contents : W → Option (List ℕ)) (a b c : Styled W) (p q : List ℕ)
    → Takes contents a b p → Takes contents b c q → Takes contents a c (p ++ q)
takes_more contents a b c p q first then = (
  first.0 ++ then.0,
  Appends-trans (contents a.output) (contents b.output) (contents c.output) first.0 then.0 first.1 then.1,
  (λ more. ap (to_show a) (append_assoc p q more) ∙ first.2 (q ++ more) ∙ ap (λ (l : List ℕ). first.0 ++ l) (then.2 more)
      ∙ sym (append_assoc first.0 then.0 (to_show c more))),
  then.3 ∙ first.3,
)

-- a line feed ends what is held
ended_as : (o : Option Style) (passes : Bool) (line more : List ℕ) (style : Style) → o ≡ Some style
    → shown_behind o passes line (10 ∷ more) ≡ shown_behind o passes line [] ++ 10 ∷ shown_after style [] more
ended_as None passes line more style e = cc
ended_as (Some s) passes line more style e =
    let same : s ≡ style = cc in
    ended s passes line more ∙ ap (λ (x : Style). shown_behind (Some s) passes line [] ++ 10 ∷ shown_after x [] more) same

-- a line feed is taken: what is held is shown, and then it is written
pub takes_end : {W : Type 0} (contents : W → Option (List ℕ)) (style : Style) (a b c : Styled W)
    → a.style ≡ Some style → Shows contents a b → HoldsNothing b → b.style ≡ a.style
    → c.style ≡ b.style → ((text : List ℕ) → to_show c text ≡ to_show b text) → Appends (contents b.output) (contents c.output) (10 ∷ [])
    → Takes contents a c (10 ∷ [])
takes_end contents style a b c styled shows holds kept same still wrote = (
  to_show a [] ++ 10 ∷ [],
  Appends-trans (contents a.output) (contents b.output) (contents c.output) (to_show a []) (10 ∷ []) shows wrote,
  (λ more. ended_as a.style a.passes a.line.items more style styled
      ∙ ap (λ (l : List ℕ). to_show a [] ++ 10 ∷ l) (sym (rest more))
      ∙ sym (append_assoc (to_show a []) (10 ∷ []) (to_show c more))),
  same ∙ kept,
)
  where
    rest : (more : List ℕ) → to_show c more ≡ shown_after style [] more
    rest more =
        still more ∙ holds more ∙ ap (λ (o : Option Style). shown_text o more) (kept ∙ styled)

-- what is to be shown depends on these alone
same_shown : (o p : Option Style) (x y : Bool) (l m text : List ℕ) → o ≡ p → x ≡ y → l ≡ m
    → shown_behind o x l text ≡ shown_behind p y m text
same_shown o p x y l m text e f g =
    ap (λ (z : Option Style). shown_behind z x l text) e ∙ ap (λ (z : Bool). shown_behind p z l text) f
    ∙ ap (λ (z : List ℕ). shown_behind p y z text) g

-- a part of a line is handed on, where its start was
pub takes_passed : {W : Type 0} (contents : W → Option (List ℕ)) (a b : Styled W) (part : List ℕ)
    → a.passes ≡ true → HasNoLineFeed part → b.style ≡ a.style → b.passes ≡ a.passes → b.line.items ≡ a.line.items
    → Appends (contents a.output) (contents b.output) part → Takes contents a b part
takes_passed contents a b part passes none style passing line wrote = (
  part,
  wrote,
  (λ more. passed a.style a.passes a.line.items part more passes none
      ∙ ap (λ (l : List ℕ). part ++ l)
      (same_shown a.style b.style a.passes b.passes a.line.items b.line.items more (sym style) (sym passing) (sym line))),
  style,
)

-- it is added to what is held
pub takes_held : {W : Type 0} (contents : W → Option (List ℕ)) (a b : Styled W) (part : List ℕ)
    → is_some a.style ≡ true → a.passes ≡ false → HasNoLineFeed part → b.style ≡ a.style → b.passes ≡ a.passes
    → b.line.items ≡ a.line.items ++ part → b.output ≡ a.output → Takes contents a b part
takes_held {W = W} contents a b part some plain none style passing line output = (
  [],
  subst (λ (w : W). Appends (contents a.output) (contents w) []) (sym output) (Appends-nil (contents a.output)),
  (λ more. added a.style a.passes a.line.items part more some plain none
      ∙ same_shown a.style b.style a.passes b.passes (a.line.items ++ part) b.line.items more (sym style) (sym passing) (sym line)),
  style,
)

-- all that is held is handed on, and then it, where together they are too long
pub takes_over : {W : Type 0} (contents : W → Option (List ℕ)) (a b : Styled W) (mid : W) (part : List ℕ)
    → is_some a.style ≡ true → a.passes ≡ false → HasNoLineFeed part → 1024 < length a.line.items + length part
    → b.style ≡ a.style → b.passes ≡ true → b.line.items ≡ a.line.items
    → Appends (contents a.output) (contents mid) a.line.items → Appends (contents mid) (contents b.output) part → Takes contents a b part
takes_over contents a b mid part some plain none much style passing line first then = (
  a.line.items ++ part,
  Appends-trans (contents a.output) (contents mid) (contents b.output) a.line.items part first then,
  (λ more. over a.style a.passes a.line.items part more some plain none much
      ∙ ap (λ (l : List ℕ). (a.line.items ++ part) ++ l)
      (same_shown a.style b.style true b.passes a.line.items b.line.items more (sym style) (sym passing) (sym line))),
  style,
)

-- nothing is held behind the end of a line
pub holds_nothing : (o : Option Style) (passes : Bool) (line text : List ℕ) → passes ≡ false → line ≡ []
    → shown_behind o passes line text ≡ shown_text o text
holds_nothing None passes line text e f = refl
holds_nothing (Some style) true line text e f = cc
holds_nothing (Some style) false line text e f = ap (λ (l : List ℕ). shown_after style l text) f

-- what is written there: the line as it is shown, or nothing more of it
pub end_is_line : (o : Option Style) (passes : Bool) (line : List ℕ) (style : Style) → o ≡ Some style → passes ≡ false
    → shown_behind o passes line [] ≡ shown_line style line
end_is_line None passes line style e f = cc
end_is_line (Some s) true line style e f = cc
end_is_line (Some s) false line style e f =
    let same : s ≡ style = cc in
    after_nothing s line ∙ ap (λ (x : Style). shown_line x line) same

pub end_is_nothing : (o : Option Style) (passes : Bool) (line : List ℕ) (style : Style) → o ≡ Some style → passes ≡ true
    → shown_behind o passes line [] ≡ []
end_is_nothing None passes line style e f = cc
end_is_nothing (Some s) true line style e f = rest_of_nothing s
end_is_nothing (Some s) false line style e f = cc

-- ---- whether there was room

pub ok_at : {T E P : Type 0} (r : Result T E) → is_err r ≡ false → OnOk r P → P
ok_at (Ok x) e h = h
ok_at (Err y) e h = cc

pub on_err_at : {T E P : Type 0} (r : Result T E) → is_err r ≡ true → OnErr r P → P
on_err_at (Ok x) e h = cc
on_err_at (Err y) e h = h

pub not_ok_at : {T E : Type 0} (r : Result T E) {n : ℕ} → is_err r ≡ true → IsOk r ↔ (n ≤ 1024) → 1024 < n
not_ok_at (Ok x) e h = cc
not_ok_at (Err y) {n = n} e h = elim (cases_lt 1024 n) [ inl much ↦ much | inr few ↦ (let ok : false ≡ true = h.1 few in cc) ]

-- ---- the first line feed

not_true : (b : Bool) → (b ≡ true → ⊥) → b ≡ false
not_true true h = absurd (h refl)
not_true false h = refl

-- no byte before it is one
pub none_before : (text : List ℕ) (n : ℕ) → n ≤ length text → ((k : ℕ) → 0 ≤ k → k < n → (slice_index text k == 10) ≡ true → ⊥)
    → HasNoLineFeed (take n text)
none_before text n most none k lt =
    let below : k < n = (let e : length (take n text) ≡ n = length-take-le n text most in omega arith) in
    ap (λ (b : ℕ). b == 10) (get_or-take n text k 0 below) ∙ not_true (slice_index text k == 10) (none k (omega arith) below)

pub none_within : (text : List ℕ) → ((k : ℕ) → 0 ≤ k → k < length text → (slice_index text k == 10) ≡ true → ⊥) → HasNoLineFeed text
none_within text none k lt = not_true (slice_index text k == 10) (none k (omega arith) lt)

-- and what stands up to it are the bytes before it, and it
pub up_to : (text : List ℕ) (n : ℕ) → n < length text → (slice_index text n == 10) ≡ true → take n text ++ 10 ∷ [] ≡ take (n + 1) text
up_to text n lt e =
    ap (λ (b : ℕ). take n text ++ b ∷ []) (sym (eqb-true (slice_index text n) 10 e)) ∙ sym (take_more text n 0 lt)
