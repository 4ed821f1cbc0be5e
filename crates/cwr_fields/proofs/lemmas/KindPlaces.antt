-- The kind that stands at the place of its letters.
use Rattle.std.proofs.Common.{◌≡◌, ℕ, ◌+◌, ◌*◌, List, [], ◌∷◌, refl, sym, ap, ◌∙◌}
use Rattle.std.specs.Prelude.{◌%◌, slice_index_or}
use Rattle.cwr_fields.specs.declared.kinds.Kind.{Kind}
use Rattle.cwr_fields.specs.declared.kinds.Kind.TheVariants as kinds
use Rattle.cwr_fields.specs.Format.Kinds.{letters}

-- the table of the code, written by tools/kind_cells
abbrev pub at_places : List Kind
at_places =
    kinds.Hdr ∷ kinds.Hdr ∷ kinds.Hdr ∷ kinds.Hdr ∷ kinds.Hdr ∷ kinds.Ter ∷ kinds.Trl ∷ kinds.Grt
    ∷ kinds.Hdr ∷ kinds.Spt ∷ kinds.Hdr ∷ kinds.Spu ∷ kinds.Swr ∷ kinds.Hdr ∷ kinds.Hdr ∷ kinds.Hdr
    ∷ kinds.Swt ∷ kinds.Hdr ∷ kinds.Hdr ∷ kinds.Hdr ∷ kinds.Hdr ∷ kinds.Hdr ∷ kinds.Hdr ∷ kinds.Ins
    ∷ kinds.Hdr ∷ kinds.Hdr ∷ kinds.Hdr ∷ kinds.Ver ∷ kinds.Hdr ∷ kinds.Hdr ∷ kinds.Hdr ∷ kinds.Hdr
    ∷ kinds.Hdr ∷ kinds.Hdr ∷ kinds.Hdr ∷ kinds.Hdr ∷ kinds.Ack ∷ kinds.Hdr ∷ kinds.Xrf ∷ kinds.Hdr
    ∷ kinds.Hdr ∷ kinds.Hdr ∷ kinds.Hdr ∷ kinds.Hdr ∷ kinds.Npa ∷ kinds.Hdr ∷ kinds.Hdr ∷ kinds.Ari
    ∷ kinds.Msg ∷ kinds.Hdr ∷ kinds.Hdr ∷ kinds.Hdr ∷ kinds.Hdr ∷ kinds.Hdr ∷ kinds.Agr ∷ kinds.Hdr
    ∷ kinds.Hdr ∷ kinds.Hdr ∷ kinds.Hdr ∷ kinds.Hdr ∷ kinds.Hdr ∷ kinds.Hdr ∷ kinds.Hdr ∷ kinds.Alt
    ∷ kinds.Hdr ∷ kinds.Hdr ∷ kinds.Hdr ∷ kinds.Nat ∷ kinds.Hdr ∷ kinds.Nct ∷ kinds.Npn ∷ kinds.Net
    ∷ kinds.Hdr ∷ kinds.Hdr ∷ kinds.Com ∷ kinds.Hdr ∷ kinds.Hdr ∷ kinds.Nwn ∷ kinds.Npr ∷ kinds.Hdr
    ∷ kinds.Hdr ∷ kinds.Rec ∷ kinds.Hdr ∷ kinds.Orn ∷ kinds.Hdr ∷ kinds.Nwr ∷ kinds.Hdr ∷ kinds.Now
    ∷ kinds.Nvt ∷ kinds.Per ∷ kinds.Hdr ∷ kinds.Hdr ∷ kinds.Hdr ∷ kinds.Opt ∷ kinds.Hdr ∷ kinds.Opu
    ∷ kinds.Owr ∷ kinds.Hdr ∷ kinds.Hdr ∷ kinds.Hdr ∷ kinds.Owt ∷ kinds.Hdr ∷ kinds.Hdr ∷ kinds.Hdr
    ∷ kinds.Hdr ∷ kinds.Hdr ∷ kinds.Hdr ∷ kinds.Pwr ∷ kinds.Hdr ∷ kinds.Hdr ∷ kinds.Hdr ∷ kinds.Grh
    ∷ kinds.Hdr ∷ kinds.Hdr ∷ kinds.Hdr ∷ kinds.Hdr ∷ kinds.Hdr ∷ kinds.Ipa ∷ kinds.Ewt ∷ kinds.Rev
    ∷ kinds.Hdr ∷ kinds.Ind ∷ kinds.Hdr ∷ kinds.Hdr ∷ kinds.Hdr ∷ kinds.Hdr ∷ kinds.Hdr ∷ kinds.Hdr ∷ []

-- the place that three letters give
abbrev pub place_of : List ℕ → ℕ
place_of (a ∷ b ∷ c ∷ []) = (11 * a + b + 2 * c) % 128
place_of text = 0

-- each kind stands at its own place
at_own_place : (kind : Kind) → slice_index_or at_places (place_of (letters kind)) kinds.Hdr ≡ kind
at_own_place kinds.Hdr = refl
at_own_place this_kind = refl

pub guessed : (kind : Kind) (a b c : ℕ) → letters kind ≡ a ∷ b ∷ c ∷ []
    → slice_index_or at_places ((11 * a + b + 2 * c) % 128) kinds.Hdr ≡ kind
guessed kind a b c e = ap (λ (text : List ℕ). slice_index_or at_places (place_of text) kinds.Hdr) (sym e) ∙ at_own_place kind
