-- What is added of bytes, one by one.
use Rattle.std.proofs.Common.{ℕ, ◌+◌, ◌<◌, ◌≤◌, List, [], ◌∷◌, ◌++◌, length, take, get_or, Option, sym, ap, ◌∙◌, append-nil}
use Rattle.std.specs.List.{flat_map}
use Rattle.std.proofs.lemmas.List.{take_all, take_more}
use Rattle.std.proofs.lemmas.Grind.{flat_map-append}
use Rattle.cwr_devices.specs.declared.pens.Pen.{Pen}
use Rattle.cwr_devices.specs.Steps.Pens.{Adds}
use Rattle.cwr_devices.proofs.lemmas.Adding.{adds_as, adds_both}

-- with the next byte's text
pub adds_byte : {W : Type 0} {contents : W → Option (List ℕ)} {failures : W → ℕ} {old mid new : Pen W} (f : ℕ → List ℕ) (bytes : List ℕ)
    (i : ℕ) → i < length bytes → Adds contents failures (flat_map f (take i bytes)) old mid
    → Adds contents failures (f (get_or bytes i 0)) mid new → Adds contents failures (flat_map f (take (i + 1) bytes)) old new
adds_byte f bytes i h p q =
    adds_as (sym (ap (flat_map f) (take_more bytes i 0 h) ∙ flat_map-append f (take i bytes) (get_or bytes i 0 ∷ [])
    ∙ ap (λ (l : List ℕ). flat_map f (take i bytes) ++ l) (append-nil (f (get_or bytes i 0))))) (adds_both p q)

-- with those of all
pub adds_bytes : {W : Type 0} {contents : W → Option (List ℕ)} {failures : W → ℕ} {old new : Pen W} (f : ℕ → List ℕ) (bytes : List ℕ)
    (i : ℕ) → length bytes ≤ i → Adds contents failures (flat_map f (take i bytes)) old new
    → Adds contents failures (flat_map f bytes) old new
adds_bytes f bytes i h p = adds_as (ap (flat_map f) (take_all i bytes h)) p
