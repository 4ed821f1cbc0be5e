-- Names in two parts, and what is added of the elements of a list.
use Rattle.std.proofs.Common.{◌≡◌, Bool, false, true≢false, ℕ, ◌+◌, ◌<◌, ◌≤◌, List, [], ◌∷◌, ◌++◌, length, take, get_or, Option, sym, ap, subst, ◌∙◌, append_assoc, append-nil}
use Rattle.std.specs.Prelude.{◌==◌, Result, codes, sum_by}
use Rattle.std.specs.List.{flat_map}
use Rattle.json.specs.Print.{escape}
use Rattle.cwr_json.specs.declared.encodings.Encoding.TheVariants.{Latin1}
use Rattle.cwr_json.specs.Format.Encodings.{characters}
use Rattle.cwr_summary_rows.specs.declared.forms.Form.{Form}
use Rattle.cwr_summary_rows.specs.declared.forms.Form.TheVariants.{Json}
use Rattle.cwr_summary_rows.specs.Format.Cells.{bytes_cell, start}
use Rattle.std.proofs.lemmas.List.{take_all, take_more}
use Rattle.std.proofs.lemmas.Grind.{flat_map-append}
use Rattle.std.proofs.lemmas.List.Sums.{sum_by_more}
use Rattle.cwr_devices.specs.declared.pens.Pen.{Pen}
use Rattle.cwr_devices.specs.declared.sinks.Sink.{Sink}
use Rattle.cwr_devices.specs.declared.sinks.SinkFault.{SinkFault}
use Rattle.cwr_devices.specs.Steps.Pens.{Adds, PutsHeld}
use Rattle.cwr_devices.proofs.lemmas.Adding.{adds_as, adds_both}

-- with the next element's text
pub adds_element : {W A : Type 0} {contents : W → Option (List ℕ)} {failures : W → ℕ} {old mid new : Pen W} (f : A → List ℕ) (xs : List A)
    (i : ℕ) (d : A) → i < length xs → Adds contents failures (flat_map f (take i xs)) old mid
    → Adds contents failures (f (get_or xs i d)) mid new → Adds contents failures (flat_map f (take (i + 1) xs)) old new
adds_element f xs i d h p q =
    adds_as (sym (ap (flat_map f) (take_more xs i d h) ∙ flat_map-append f (take i xs) (get_or xs i d ∷ [])
    ∙ ap (λ (l : List ℕ). flat_map f (take i xs) ++ l) (append-nil (f (get_or xs i d))))) (adds_both p q)

-- with those of all
pub adds_elements : {W A : Type 0} {contents : W → Option (List ℕ)} {failures : W → ℕ} {old new : Pen W} (f : A → List ℕ) (xs : List A)
    (i : ℕ) → length xs ≤ i → Adds contents failures (flat_map f (take i xs)) old new → Adds contents failures (flat_map f xs) old new
adds_elements f xs i h p = adds_as (ap (flat_map f) (take_all i xs h)) p

-- the sum of a list's elements with the next one
pub next_sum : {A : Type 0} (f : A → ℕ) (xs : List A) (i : ℕ) (d : A) (n : ℕ) → i < length xs → n ≡ f (get_or xs i d)
    → sum_by f (take (i + 1) xs) ≡ sum_by f (take i xs) + n
next_sum f xs i d n h e = sum_by_more f xs i d h ∙ ap (λ (k : ℕ). sum_by f (take i xs) + k) (sym e)

-- four texts one after the other
four : (a b c d : List ℕ) → a ++ b ++ c ++ d ≡ a ++ (b ++ c ++ d) ++ []
four a b c d =
    ap (λ (l : List ℕ). l ++ d) (append_assoc a b c) ∙ append_assoc a (b ++ c) d ∙ sym (append-nil (a ++ (b ++ c ++ d)))

-- a cell of bytes in JSON, where there is one
json_there : (name text : List ℕ) (b : Bool) → b ≡ (length text == 0) → b ≡ false
    → start Json (name ++ []) ++ codes "\"" ++ escape (characters Latin1 text) ++ codes "\"" ≡ bytes_cell Json name text
json_there name [] b is some = absurd (true≢false (sym is ∙ some))
json_there name (x ∷ rest) b is some =
    ap (λ (n : List ℕ). start Json n ++ codes "\"" ++ escape (characters Latin1 (x ∷ rest)) ++ codes "\"") (append-nil name)
    ∙ four (start Json name) (codes "\"") (escape (characters Latin1 (x ∷ rest))) (codes "\"")

pub json_bytes : (form : Form) → form ≡ Json → (name text : List ℕ) (b : Bool) → b ≡ (length text == 0) → b ≡ false
    → start form (name ++ []) ++ codes "\"" ++ escape (characters Latin1 text) ++ codes "\"" ≡ bytes_cell form name text
json_bytes form e name text b is some =
    subst (λ (f : Form). start f (name ++ []) ++ codes "\"" ++ escape (characters Latin1 text) ++ codes "\"" ≡ bytes_cell f name text) (sym e)
    (json_there name text b is some)

-- what was put to a sink was put to that one
pub puts_there : {W : Type 0} {contents : W → Option (List ℕ)} {failures : W → ℕ} {result : Result (Unit {0}) SinkFault} {old new then : Sink W}
    {held : List ℕ} → new ≡ then → PutsHeld contents failures result old held then → PutsHeld contents failures result old held new
puts_there {W = W} {contents = contents} {failures = failures} {result = result} {old = old} {held = held} e h =
    subst (λ (s : Sink W). PutsHeld contents failures result old held s) (sym e) h
