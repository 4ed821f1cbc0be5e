-- Digests that are asked for or not.
use Rattle.std.specs.Prelude.{◌≡◌, ℕ, ◌-◌, ◌^◌, min, Bool, List, Option, None, Some, length, IfSome, if◌then◌else◌}
use Rattle.sha2.specs.Sha256.{sha256}

-- the digest of a text, where that is asked for
abbrev pub digest_of : Bool → List ℕ → Option (List ℕ)
digest_of digests text = if digests then Some (sha256 text) else None

-- where the bytes of an input are known they are so many, and the digest is theirs
abbrev pub HasBytes : Bool → Option (List ℕ) → ℕ → Option (List ℕ) → Type 0
HasBytes digests left bytes digest = IfSome left (λ text. (bytes ≡ min (length text) (2 ^ 64 - 1)) × (digest ≡ digest_of digests text))
