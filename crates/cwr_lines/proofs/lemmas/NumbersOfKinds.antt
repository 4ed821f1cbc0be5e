-- What is known of the numbered line of each kind.
use Rattle.std.proofs.Common.{◌≡◌, ℕ, ◌≤◌, List, ◌++◌, length, drop, refl, lit≤}
use Rattle.std.specs.Prelude.{slice_index}
use Rattle.cwr_fields.specs.Format.Bytes.{digits}
use Rattle.cwr_fields.specs.declared.kinds.Kind.{Kind}
use Rattle.cwr_fields.specs.declared.kinds.Kind.TheVariants.{Hdr, Grh, Grt, Trl}
use Rattle.cwr_fields.specs.Format.Kinds.{letters}
use Rattle.cwr_fields.specs.Format.Layouts.{line_width}
use Rattle.cwr_lines.specs.Steps.Numbered.{numbered_part}

-- a record inside a transaction
pub numbered_inside : (kind : Kind) (ns line : List ℕ) → (kind ≡ Hdr → ⊥) → (kind ≡ Grh → ⊥) → (kind ≡ Grt → ⊥) → (kind ≡ Trl → ⊥)
    → numbered_part kind ns line ≡ digits 8 (slice_index ns 0) ++ (digits 8 (slice_index ns 1) ++ drop 19 line)
numbered_inside Hdr ns line a b c d = absurd (a refl)
numbered_inside Grh ns line a b c d = absurd (b refl)
numbered_inside Grt ns line a b c d = absurd (c refl)
numbered_inside Trl ns line a b c d = absurd (d refl)
numbered_inside kind ns line a b c d = refl

-- a kind is named by three bytes
pub letters_long : (kind : Kind) → length (letters kind) ≡ 3
letters_long Hdr = refl
letters_long this_kind = refl

-- no line is narrower than that of TRL
pub line_width_least : (kind : Kind) → 24 ≤ line_width kind
line_width_least Hdr = lit≤ tt
line_width_least this_kind = lit≤ tt
