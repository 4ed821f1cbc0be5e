-- The first line of a text that continues, after bytes without a line feed, with one that is no line feed.
use Rattle.std.proofs.Common.{◌≡◌, ◌≢◌, ℕ, Bool, true, false, ◌||◌, List, [], ◌∷◌, ◌++◌, refl, sym, ap, ap₂, ◌∙◌, arith}
use Rattle.std.proofs.Common.{append_assoc, inl, inr}
use Rattle.std.specs.Prelude.{◌⊎◌, ◌==◌}
use Rattle.std.proofs.lemmas.Bool.{ne_eqb, eqb-true}
use Rattle.std.proofs.lemmas.List.{length-append}
use Rattle.cwr_fields.proofs.lemmas.LineFeeds.{NoLf, NoLf-append}
use Rattle.cwr_lines.specs.Format.Lines.{closed}
use Rattle.cwr_lines.proofs.lemmas.LineLaws.{text_of-cons}
use Rattle.cwr_decode.proofs.lemmas.ClosedTexts.{closed_line, closed_more}

-- a text up to its first line feed
record Parted (text : List ℕ) : Type 0 where
  front : List ℕ
  after : List ℕ
  split : text ≡ front ++ 10 ∷ after
  no_lf : NoLf front

first_part : (text : List ℕ) → NoLf text ⊎ Parted text
first_part [] = inl refl
first_part (b ∷ text) = by (b == 10) refl (first_part text)
  where
    by : (x : Bool) → (b == 10) ≡ x → NoLf text ⊎ Parted text → NoLf (b ∷ text) ⊎ Parted (b ∷ text)
    by true e r = inr (record { front = []; after = text; split = ap (λ (c : ℕ). c ∷ text) (eqb-true b 10 e); no_lf = refl })
    by false e (inl h) = inl (ap₂ (λ (p q : Bool). p || q) e h)
    by false e (inr p) =
        inr (record {
          front = b ∷ p.front;
          after = p.after;
          split = ap (λ (t : List ℕ). b ∷ t) p.split;
          no_lf = ap₂ (λ (p q : Bool). p || q) e p.no_lf;
        })

-- the first raw line of bytes that continue with one that is no line feed
pub record LongLine (bytes : List ℕ) (next : ℕ) (rest : List ℕ) : Type 0 where
  pub more : List ℕ
  pub after : List ℕ
  pub closes : closed (bytes ++ next ∷ rest) ≡ (bytes ++ next ∷ more) ++ 10 ∷ after
  pub no_lf : NoLf (bytes ++ next ∷ more)

pub long_line : (bytes : List ℕ) (next : ℕ) (rest : List ℕ) → NoLf bytes → next ≢ 10 → LongLine bytes next rest
long_line bytes next rest h other = by (first_part rest)
  where
    whole : (x : List ℕ) → NoLf x → NoLf (bytes ++ next ∷ x)
    whole x n = NoLf-append bytes (next ∷ x) h (ap₂ (λ (p q : Bool). p || q) (ne_eqb next 10 other) n)

    by : NoLf rest ⊎ Parted rest → LongLine bytes next rest
    by (inl n) =
        record {
          more = rest;
          after = [];
          closes = closed_line (bytes ++ next ∷ rest) (whole rest n) (omega (arith, length-append bytes (next ∷ rest)));
          no_lf = whole rest n;
        }
    by (inr p) =
        let line : List ℕ = bytes ++ next ∷ p.front in
        record {
          more = p.front;
          after = closed p.after;
          closes =
              ap closed (ap (λ (t : List ℕ). bytes ++ next ∷ t) p.split ∙ sym (append_assoc bytes (next ∷ p.front) (10 ∷ p.after))
              ∙ sym (text_of-cons line [] p.after))
              ∙ closed_more (line ∷ []) p.after ∙ text_of-cons line [] (closed p.after);
          no_lf = whole p.front p.no_lf;
        }
