-- The shares of owners in the right of a rule, added up one by one.
use Prim.Native.String.{String}
use Rattle.std.proofs.Common.{◌≡◌, ℕ, ◌+◌, Bool, true, false, cond, List, [], ◌∷◌, take, refl, sym, ap, ◌∙◌, arith}
use Rattle.std.specs.Prelude.{filter, ◌||◌, Some, slice_get}
use Rattle.std.specs.List.{sum_by}
use Rattle.std.proofs.lemmas.Bool.{or_left, or_right, or_from}
use Rattle.std.proofs.lemmas.List.Sums.{sum_by-append}
use Rattle.std.proofs.lemmas.List.Elements.{filter-append}
use Rattle.cwr_fields.specs.declared.kinds.Kind.TheVariants as kinds
use Rattle.cwr_fields.specs.Format.Bytes.{number_of}
use Rattle.cwr_lines.specs.Format.Records.{RecordValue, IsRecord, cell_named}
use Rattle.cwr_findings.specs.declared.rules.Rule.{Rule}
use Rattle.cwr_findings.specs.declared.rules.Rule.TheVariants.{V3, V4}
use Rattle.cwr_findings.specs.Format.Fields.{IsField}
use Rattle.cwr_findings.specs.Format.Findings.{is_a, is_owner, ownership, share_of}
use Rattle.cwr_findings.proofs.lemmas.NamedCells.{named_cell}
use Rattle.cwr_findings.proofs.lemmas.NumberCells.{share_is_number}
use Rattle.cwr_findings.proofs.lemmas.OneMore.{take_more}
use Rattle.cwr_findings.proofs.lemmas.RuleTests.{cell_of_field}
use Rattle.cwr_notes.specs.Format.FindingNotes.{right_of}

share_by : (right : String) (r : RecordValue) (b : Bool)
    → sum_by (share_of right) (cond b (r ∷ []) []) ≡ cond b (share_of right r) 0
share_by right r true = omega arith
share_by right r false = refl

-- with one record more
pub owned_more : (right : String) (t : List RecordValue) (i : ℕ) (r : RecordValue) → slice_get t i ≡ Some r
    → ownership right (take (i + 1) t) ≡ ownership right (take i t) + cond (is_owner r) (share_of right r) 0
owned_more right t i r e =
    ap (ownership right) (take_more t i r e)
    ∙ ap (sum_by (share_of right)) (filter-append is_owner (take i t) (r ∷ []))
    ∙ sum_by-append (share_of right) (filter is_owner (take i t)) (filter is_owner (r ∷ []))
    ∙ ap (λ (n : ℕ). ownership right (take i t) + n) (share_by right r (is_owner r))

-- ---- owners by their kinds

abbrev or_four : Bool → Bool → Bool → Bool → Bool
or_four a b c d = a || b || c || d

pub owner_spu : (r : RecordValue) → is_a kinds.Spu r ≡ true → is_owner r ≡ true
owner_spu r h = ap (λ (x : Bool). or_four x (is_a kinds.Opu r) (is_a kinds.Swr r) (is_a kinds.Owr r)) h

pub owner_opu : (r : RecordValue) → is_a kinds.Opu r ≡ true → is_owner r ≡ true
owner_opu r h = by (is_a kinds.Spu r) (is_a kinds.Opu r) h
  where
    by : (a b : Bool) → b ≡ true → or_four a b (is_a kinds.Swr r) (is_a kinds.Owr r) ≡ true
    by true b e = refl
    by false b e = ap (λ (x : Bool). or_four false x (is_a kinds.Swr r) (is_a kinds.Owr r)) e

pub owner_swr : (r : RecordValue) → is_a kinds.Swr r ≡ true → is_owner r ≡ true
owner_swr r h =
    or_left (is_a kinds.Spu r || is_a kinds.Opu r || is_a kinds.Swr r) (is_a kinds.Owr r)
    (or_right (is_a kinds.Spu r || is_a kinds.Opu r) (is_a kinds.Swr r) h)

pub owner_owr : (r : RecordValue) → is_a kinds.Owr r ≡ true → is_owner r ≡ true
owner_owr r h = or_right (is_a kinds.Spu r || is_a kinds.Opu r || is_a kinds.Swr r) (is_a kinds.Owr r) h

pub no_owner : (r : RecordValue) → is_a kinds.Spu r ≡ false → is_a kinds.Opu r ≡ false → is_a kinds.Swr r ≡ false
    → is_a kinds.Owr r ≡ false → is_owner r ≡ false
no_owner r spu opu swr owr =
    or_from (is_a kinds.Spu r || is_a kinds.Opu r || is_a kinds.Swr r) (is_a kinds.Owr r)
    (or_from (is_a kinds.Spu r || is_a kinds.Opu r) (is_a kinds.Swr r) (or_from (is_a kinds.Spu r) (is_a kinds.Opu r) spu opu)
    swr) owr

-- ---- the share of one record

-- the share that a field holds is that in the right which it is of
pub read_share : (right : String) (rule : Rule) (r : RecordValue) (j : ℕ) (cell : List ℕ) (x : ℕ) → cell ≡ cell_of_field r j
    → IsField right r.kind j 5 → IsRecord r → x ≡ number_of cell → right_of rule ≡ right → x ≡ share_of (right_of rule) r
read_share right rule r j cell x e field fits number same =
    number ∙ ap number_of (e ∙ named_cell right r.kind j 5 r field refl fits) ∙ share_is_number (cell_named right r)
    ∙ ap (λ (w : String). share_of w r) (sym same)

pub third_right : (rule : Rule) → (rule ≡ V3 → ⊥) → (rule ≡ V4 → ⊥) → right_of rule ≡ "sr share"
third_right V3 h k = absurd (h refl)
third_right V4 h k = absurd (k refl)
third_right rule h k = refl
