-- Facts that hold of each kind, one by one.
use Rattle.std.proofs.Common.{◌≡◌, ℕ, ◌≤◌, false, List, [], ◌∷◌, ◌++◌, length, refl, sym, ap, ◌∙◌, lit≤, find, None, arith}
use Rattle.std.specs.Prelude.{Some, slice_index}
use Rattle.std.specs.Str.{bytes_eq}
use Rattle.std.proofs.lemmas.Bool.{false_from_ne_true}
use Rattle.std.proofs.lemmas.Slice.Eq.{bytes_eq-Decides}
use Rattle.cwr_fields.specs.Format.Bytes.{trimmed}
use Rattle.cwr_fields.proofs.lemmas.LineFeeds.{NoLf}
use Rattle.cwr_fields.specs.declared.kinds.Kind.{Kind}
use Rattle.cwr_fields.specs.declared.kinds.Kind.TheVariants.{Hdr}
use Rattle.cwr_fields.specs.Format.Kinds.{all_kinds, letters, kind_of}
use Rattle.cwr_fields.specs.Format.Layouts.{layout, line_width}
use Rattle.cwr_fields.proofs.lemmas.TrimmedTexts.{trimmed_three}

-- three letters name one kind
pub kind_of-letters : (kind : Kind) → kind_of (letters kind) ≡ Some kind
kind_of-letters Hdr = refl
kind_of-letters this_kind = refl

-- and each kind has letters of its own
pub letters-injective : (j k : Kind) → letters j ≡ letters k → j ≡ k
letters-injective j k e =
    let same : Some j ≡ Some k = sym (kind_of-letters j) ∙ ap kind_of e ∙ kind_of-letters k in
    cc same

-- each kind has three letters
pub length-letters : (kind : Kind) → length (letters kind) ≡ 3
length-letters Hdr = refl
length-letters this_kind = refl

-- one after another
pub three_letters : (kind : Kind)
    → letters kind ≡ slice_index (letters kind) 0 ∷ slice_index (letters kind) 1 ∷ slice_index (letters kind) 2 ∷ []
three_letters Hdr = refl
three_letters this_kind = refl

-- letters have no line feed
pub NoLf-letters : (kind : Kind) → NoLf (letters kind)
NoLf-letters Hdr = refl
NoLf-letters this_kind = refl

-- no line is wider than the widest
pub line_width_widest : (kind : Kind) → line_width kind ≤ 719
line_width_widest Hdr = lit≤ tt
line_width_widest this_kind = lit≤ tt

-- with CR and without LF a full line fits
pub line_width_most : (kind : Kind) → line_width kind ≤ 1023
line_width_most kind = omega (arith, line_width_widest kind)

-- how many fields a kind has at most
pub few_fields : (kind : Kind) → length (layout kind) ≤ 28
few_fields Hdr = lit≤ tt
few_fields this_kind = lit≤ tt

-- letters aren't trimmed
pub trimmed-letters : (kind : Kind) (rest : List ℕ) → (ys : List ℕ) × (trimmed (letters kind ++ rest) ≡ letters kind ++ ys)
trimmed-letters Hdr rest = trimmed_three _ _ _ rest refl
trimmed-letters this_kind rest = trimmed_three _ _ _ rest refl

none_among : (kinds : List Kind) (text : List ℕ) → ((kind : Kind) → letters kind ≡ text → ⊥)
    → find (λ kind. bytes_eq (letters kind) text) kinds ≡ None
none_among [] text h = refl
none_among (kind ∷ kinds) text h =
    let other : bytes_eq (letters kind) text ≡ false =
    false_from_ne_true (bytes_eq (letters kind) text) (λ e. h kind ((bytes_eq-Decides (letters kind) text).0 e)) in
    rw other (none_among kinds text h)

-- a text that is no kind's letters names no kind
pub kind_of-other : (text : List ℕ) → ((kind : Kind) → letters kind ≡ text → ⊥) → kind_of text ≡ None
kind_of-other text h = none_among all_kinds text h

-- a text that isn't three bytes long names no kind
pub kind_of-other_length : (text : List ℕ) → (length text ≡ 3 → ⊥) → kind_of text ≡ None
kind_of-other_length text h = kind_of-other text (λ kind e. h (sym (ap length e) ∙ length-letters kind))
