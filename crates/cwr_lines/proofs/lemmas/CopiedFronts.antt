-- The front of a piece that is copied step by step, up to its first control byte.
use Rattle.std.proofs.Common.{◌≡◌, ℕ, suc, ◌+◌, ◌≤◌, Bool, true, false, cond, not, ◌&&◌, ltb, List, [], ◌∷◌, ◌++◌, length, take, drop}
use Rattle.std.proofs.Common.{get_or, Fits, w8, refl, sym, ap, ap₂, ◌∙◌, arith}
use Rattle.std.specs.List.{prefix_len}
use Rattle.std.proofs.lemmas.Bool.{lt-ltb}
use Rattle.std.proofs.lemmas.List.{take-take}
use Rattle.std.proofs.lemmas.List.Folds.{list_all-append}
use Rattle.std.proofs.lemmas.List.Sums.{prefix_len-le-length}
use Rattle.std.proofs.lemmas.Simd.{length-chunk, chunk-fits}
use Rattle.std.proofs.Math.Seq.{take-add}
use Rattle.cwr_fields.specs.Format.Bytes.{is_control, is_plain}
use lib.Lanes.{Each1}

-- no control byte
abbrev is_free : ℕ → Bool
is_free b = not (is_control b)

first_plain : (free : Bool) (b n : ℕ) (bytes : List ℕ) → is_free b ≡ free → Fits w8 b → is_plain (take n bytes) ≡ true
    → is_plain (take (cond free (1 + n) 0) (b ∷ bytes)) ≡ true
first_plain false b n bytes e f h = refl
first_plain true b n bytes e f h =
    let more : 1 + n ≡ suc n = omega arith in
    rw more (ap₂ (λ (x y : Bool). x && y) (ap₂ (λ (x y : Bool). x && y) (lt-ltb b 256 f.fits) e) h)

-- what stands before the first control byte is plain
free_plain : (bytes : List ℕ) → Each1 (Fits w8) bytes → is_plain (take (prefix_len is_free bytes) bytes) ≡ true
free_plain [] h = refl
free_plain (b ∷ bytes) h = first_plain (is_free b) b (prefix_len is_free bytes) bytes refl h.0 (free_plain bytes h.1)

-- one step more: so many of the next bytes are no control bytes
pub record IsFurther (text piece : List ℕ) (at : ℕ) : Type 0 where
  pub same : take at text ≡ take at piece
  pub plain : is_plain (take at piece) ≡ true

pub further : (text more piece : List ℕ) (at free : ℕ) → at + 32 ≤ length piece → ((k : ℕ) → Fits w8 (get_or piece k 0))
    → IsFurther text piece at → take (at + 32) more ≡ take at text ++ take 32 (drop at piece)
    → free ≡ prefix_len is_free (take 32 (drop at piece)) → (free ≤ 32) × IsFurther more piece (at + free)
further text more piece at free seen fits before copied counted =
    let lanes : List ℕ = take 32 (drop at piece) in
    let long : length lanes ≡ 32 = length-chunk at 32 piece seen in
    let few : free ≤ 32 = omega (arith, counted, long, prefix_len-le-length is_free lanes) in
    let whole : take (at + 32) more ≡ take (at + 32) piece =
    copied ∙ ap (λ (x : List ℕ). x ++ lanes) before.same ∙ sym (take-add at 32 piece) in
    let next : is_plain (take free (drop at piece)) ≡ true =
    ap is_plain (sym (take-take free 32 (drop at piece) few)) ∙ ap (λ (n : ℕ). is_plain (take n lanes)) counted
    ∙ free_plain lanes (chunk-fits w8 at 32 piece fits) in (
      few,
      record {
        same =
            sym (take-take (at + free) (at + 32) more (omega arith)) ∙ ap (take (at + free)) whole
            ∙ take-take (at + free) (at + 32) piece (omega arith);
        plain =
            ap is_plain (take-add at free piece)
            ∙ list_all-append (λ b. ltb b 256 && is_free b) (take at piece) (take free (drop at piece))
            ∙ ap₂ (λ (x y : Bool). x && y) before.plain next;
      },
    )
