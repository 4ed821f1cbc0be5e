-- What is read under a word.
use Rattle.std.proofs.Common.{◌≡◌, ℕ, ◌+◌, ◌<◌, Bool, true, false, List, [], ◌∷◌, ◌++◌, length, take, map, get_or, Option, Some, None, Bor, sym, ap, subst, ◌∙◌, true≢false, inl, inr}
use Rattle.std.specs.Prelude.{IfSome, IsSome}
use Rattle.std.proofs.lemmas.Option.{none-some}
use Rattle.std.proofs.lemmas.List.{take_more, get_or-map, length-map}
use Rattle.cwr_files.specs.Format.Files.{Texts}
use Rattle.cwr_files.specs.Format.Inputs.{IfRead, IfReadAt, IfThere, IsThereOrRead, is_standard, text_at, text_of}
use Rattle.cwr_files.specs.Steps.Inputs.{IsLeftAt, IsLeftOf, IsThereFor, standard_after, standard_left}

there : (found left : Option (List ℕ)) (is : List ℕ → Type 0) → IsSome found → left ≡ found → IfSome left is → IfThere found is
there None left is some e h = absurd (true≢false (sym some))
there (Some text) left is some e h = subst (λ (o : Option (List ℕ)). IfSome o is) e h

read_at : (b : Bool) (held : Option Texts) (standard : Option (List ℕ)) (name : List ℕ) (left : Option (List ℕ)) (is : List ℕ → Type 0)
    → IsLeftAt b held standard name left → IfSome left is → IfReadAt b held standard name is
read_at true held standard name left is e h = subst (λ (o : Option (List ℕ)). IfSome o is) e h
read_at false None standard name left is e h = tt
read_at false (Some texts) standard name left is e h = there (texts name) left is e.0 e.1 h

-- what is so of the bytes that are left of an input is so of what was read under its word
pub if_read : (held : Option Texts) (standard name left : Option (List ℕ)) (is : List ℕ → Type 0) → IsLeftOf held standard name left
    → IfSome left is → IfRead held standard name is
if_read held standard None left is e h = subst (λ (o : Option (List ℕ)). IfSome o is) e h
if_read held standard (Some name) left is e h = read_at (is_standard (Some name)) held standard name left is e h

some_so : (found : Option (List ℕ)) (is other : List ℕ → Type 0) → ((text : List ℕ) → is text → other text) → IfSome found is → IfSome found other
some_so None is other so h = tt
some_so (Some text) is other so h = so text h

there_so : (found : Option (List ℕ)) (is other : List ℕ → Type 0) → ((text : List ℕ) → is text → other text) → IfThere found is
    → IfThere found other
there_so None is other so h = absurd h
there_so (Some text) is other so h = so text h

read_so_at : (b : Bool) (held : Option Texts) (standard : Option (List ℕ)) (name : List ℕ) (is other : List ℕ → Type 0)
    → ((text : List ℕ) → is text → other text) → IfReadAt b held standard name is → IfReadAt b held standard name other
read_so_at true held standard name is other so h = some_so standard is other so h
read_so_at false None standard name is other so h = tt
read_so_at false (Some texts) standard name is other so h = there_so (texts name) is other so h

-- what follows from what is so of it is so of it too
pub read_so : (held : Option Texts) (standard name : Option (List ℕ)) (is other : List ℕ → Type 0)
    → ((text : List ℕ) → is text → other text) → IfRead held standard name is → IfRead held standard name other
read_so held standard None is other so h = some_so standard is other so h
read_so held standard (Some name) is other so h = read_so_at (is_standard (Some name)) held standard name is other so h

-- the first words, and one more
pub words_more : (words : List (Bor (List ℕ))) (i : ℕ) (d : Bor (List ℕ)) → i < length words
    → take (i + 1) (map (λ w. w.now) words) ≡ take i (map (λ w. w.now) words) ++ ((get_or words i d).now ∷ [])
words_more words i d h =
    let inside : i < length (map {A = Bor (List ℕ)} {B = List ℕ} (λ w. w.now) words) = rw length-map h in
    take_more (map {A = Bor (List ℕ)} {B = List ℕ} (λ w. w.now) words) i d.now inside
    ∙ ap (λ (n : List ℕ). take i (map {A = Bor (List ℕ)} {B = List ℕ} (λ w. w.now) words) ++ (n ∷ []))
    (get_or-map {X = Bor (List ℕ)} {Y = List ℕ} (λ w. w.now) words i d d.now h)

-- ---- standard input, which is there once

-- it is lent on
pub lent_on : {I : Type 0} (b : Bool) (input : I) (standard after : Option I) → IsThereOrRead input standard → after ≡ standard_after b standard
    → IsThereOrRead input after
lent_on true input standard after lent e = inr e
lent_on false input standard after lent e = subst (λ (o : Option _). IsThereOrRead input o) (sym e) lent

standard_lent : {I : Type 0} (of_standard : I → Option (List ℕ)) (input : I) (standard : Option I) (left : Option (List ℕ))
    → IsThereOrRead input standard → IsSome standard → left ≡ standard_left of_standard standard → left ≡ of_standard input
standard_lent of_standard input None left lent there e = absurd (true≢false (sym there))
standard_lent {I = I} of_standard input (Some other) left lent there e =
    elim lent [
      | inl is ↦ e ∙ ap (λ (o : Option I). standard_left of_standard o) is
      | inr is ↦ absurd (none-some other (sym is))
    ]

-- what is left of what was opened is what the word names, where standard input is lent
pub left_lent : {I : Type 0} (b : Bool) (held : Option Texts) (of_standard : I → Option (List ℕ)) (input : I) (standard : Option I)
    (name : List ℕ) (left : Option (List ℕ)) → IsThereOrRead input standard → IsThereFor b standard
    → IsLeftAt b held (standard_left of_standard standard) name left → IsLeftAt b held (of_standard input) name left
left_lent true held of_standard input standard name left lent there h = standard_lent of_standard input standard left lent there h
left_lent false None of_standard input standard name left lent there h = tt
left_lent false (Some texts) of_standard input standard name left lent there h = h

-- ---- the text that a word names

text_left_at : (b : Bool) (held : Option Texts) (standard : Option (List ℕ)) (name : List ℕ) (left : Option (List ℕ)) (text : List ℕ)
    → IsLeftAt b held standard name left → text_at b held standard name ≡ Some text → left ≡ Some text
text_left_at true held standard name left text h e = h ∙ e
text_left_at false None standard name left text h e = absurd (none-some text e)
text_left_at false (Some texts) standard name left text h e = h.1 ∙ e

-- it is left of what was opened
pub text_left : (held : Option Texts) (standard : Option (List ℕ)) (name : List ℕ) (left : Option (List ℕ)) (text : List ℕ)
    → IsLeftOf held standard (Some name) left → text_of held standard name ≡ Some text → left ≡ Some text
text_left held standard name left text h e = text_left_at (is_standard (Some name)) held standard name left text h e

some_there : (left : Option (List ℕ)) → IfSome left (λ text. Unit {0})
some_there None = tt
some_there (Some text) = tt

-- and is there
pub is_there : (held : Option Texts) (standard : Option (List ℕ)) (name : List ℕ) (left : Option (List ℕ))
    → IsLeftOf held standard (Some name) left → IfRead held standard (Some name) (λ text. Unit {0})
is_there held standard name left h = if_read held standard (Some name) left (λ text. Unit {0}) h (some_there left)
