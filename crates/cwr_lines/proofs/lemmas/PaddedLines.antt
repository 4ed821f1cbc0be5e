-- A line of a known kind that is filled up in a pad.
use Rattle.std.proofs.Common.{◌≡◌, ℕ, ◌-◌, ◌≤◌, ◌<◌, eqb, nat_lt, Bool, true, false, cond, not, ◌&&◌, List, [], ◌∷◌, ◌++◌}
use Rattle.std.proofs.Common.{length, take, drop, refl, sym, subst, ap, ◌∙◌, arith}
use Rattle.std.specs.Prelude.{Some}
use Rattle.std.specs.List.{list_any}
use Rattle.std.specs.Str.{bytes_eq}
use Rattle.std.proofs.lemmas.Bool.{and_parts, eqb-true, false_from_ne_true, true≢false}
use Rattle.std.proofs.lemmas.List.{append-nil, length-append, length-take, length-take-le, take-take}
use Rattle.std.proofs.Math.Seq.{take-append_seam}
use Rattle.cwr_fields.specs.Format.Bytes.{is_control, is_plain, filled}
use Rattle.cwr_fields.proofs.lemmas.LineFeeds.{NoLf, NoLf-append, NoLf-plain}
use Rattle.cwr_fields.specs.declared.kinds.Kind.{Kind}
use Rattle.cwr_lines.specs.declared.lines.LineEnd.TheVariants.{Line}
use Rattle.cwr_fields.specs.Format.Kinds.{kind_of}
use Rattle.cwr_fields.specs.Format.Layouts.{line_width}
use Rattle.cwr_lines.specs.Format.Lines.{is_lf, without_cr}
use Rattle.cwr_lines.specs.Steps.Held.{HeldLine, IsHeld, IsKept, IsCut, held_body, held_kind, line_kept}
use Rattle.cwr_lines.specs.Steps.Held.{return_if}
use Rattle.cwr_lines.specs.Steps.Pads.{Copies, EndsAt}
use Rattle.cwr_fields.proofs.lemmas.AllKinds.{line_width_most}
use Rattle.cwr_lines.proofs.lemmas.CellParts.{plain_drop}
use Rattle.cwr_lines.proofs.lemmas.FilledTexts.{filled_already}
use Rattle.cwr_lines.proofs.lemmas.PlainLines.{ended_plain}
use Rattle.cwr_lines.proofs.lemmas.RowLaws.{without_cr-added}

-- the first bytes of the piece, as many as are counted, are filled up to the width, and a line end follows them in the piece
pub record IsPadded (text piece : List ℕ) (width count : ℕ) (returned : Bool) : Type 0 where
  pub least : 3 ≤ count
  pub most : count ≤ width
  pub within : count < length piece
  pub plain : is_plain (take count piece) ≡ true
  pub fills : text ≡ filled width (take count piece)
  pub ends : EndsAt piece count returned

pub padded : (copied text piece : List ℕ) (width count : ℕ) (returned : Bool) → Copies copied piece count
    → take width text ≡ filled width (take count copied) → 3 ≤ count → count ≤ width → EndsAt piece count returned
    → IsPadded (take width text) piece width count returned
padded copied text piece width count returned c b least most ends =
    record {
      least = least;
      most = most;
      within = c.within;
      plain = c.plain;
      fills = b ∙ ap (filled width) c.same;
      ends = ends;
    }

-- plain text doesn't end with a carriage return
no_return : (last : List ℕ) → is_plain last ≡ true → bytes_eq last (13 ∷ []) ≡ false
no_return [] h = refl
no_return (b ∷ rest) h =
    false_from_ne_true (bytes_eq (b ∷ rest) (13 ∷ [])) (λ e.
    let here : b ≡ 13 = eqb-true b 13 (and_parts (eqb b 13) (bytes_eq rest []) e).0 in
    let plain : (nat_lt b 256 && not (is_control b)) ≡ true =
    (and_parts (nat_lt b 256 && not (is_control b)) (is_plain rest) h).0 in
    true≢false (sym (subst (λ (x : ℕ). (nat_lt x 256 && not (is_control x)) ≡ true) here plain)))

kept_whole : (bytes : List ℕ) → is_plain bytes ≡ true → without_cr bytes ≡ bytes
kept_whole bytes h =
    ap (λ (b : Bool). cond b (take (length bytes - 1) bytes) bytes)
    (no_return (drop (length bytes - 1) bytes) (plain_drop (length bytes - 1) bytes h))

body_kept : (bytes : List ℕ) (returned : Bool) → is_plain bytes ≡ true → without_cr (bytes ++ return_if returned) ≡ bytes
body_kept bytes true h = without_cr-added bytes
body_kept bytes false h = ap without_cr (append-nil bytes) ∙ kept_whole bytes h

no_feed : (bytes : List ℕ) (returned : Bool) → is_plain bytes ≡ true → NoLf (bytes ++ return_if returned)
no_feed bytes true h = NoLf-append bytes (13 ∷ []) (NoLf-plain bytes h) refl
no_feed bytes false h = NoLf-append bytes [] (NoLf-plain bytes h) refl

few : (bytes : List ℕ) (returned : Bool) → length bytes ≤ 1023 → length (bytes ++ return_if returned) ≤ 1024
few bytes true h = omega (arith, length-append bytes (13 ∷ []))
few bytes false h = omega (arith, length-append {A = ℕ} bytes [])

module _ (kind : Kind) (text piece : List ℕ) (width count : ℕ) (returned : Bool) (e : width ≡ line_width kind)
    (p : IsPadded text piece width count returned) where
  abbrev bytes : List ℕ
  bytes = take count piece

  abbrev line : HeldLine
  line = line_kept text count returned Line

  long : length bytes ≡ count
  long = length-take-le count piece (omega (arith, p.within))

  -- what was taken is the front of the text
  front : take count text ≡ bytes
  front =
      ap (take count) p.fills ∙ ap (λ (n : ℕ). take n (filled width bytes)) (sym long) ∙ take-append_seam bytes _

  taken : line.bytes ≡ bytes ++ return_if returned
  taken = ap (λ (x : List ℕ). x ++ return_if returned) front

  pub padded_held : IsHeld line
  padded_held =
      record {
        no_lf = ap (list_any is_lf) taken ∙ no_feed bytes returned p.plain;
        short =
            subst (λ (x : List ℕ). length x ≤ 1024) (sym taken)
            (few bytes returned (omega (arith, long, p.most, e, line_width_most kind)));
        full = tt;
      }

  body : held_body line ≡ bytes
  body = ap without_cr taken ∙ body_kept bytes returned p.plain

  pub padded_kind : kind_of (take 3 piece) ≡ Some kind → held_kind line ≡ Some kind
  padded_kind k =
      ap (λ (x : List ℕ). kind_of (take 3 (filled 3 x))) body
      ∙ ap (λ (x : List ℕ). kind_of (take 3 x)) (sym (filled_already 3 bytes (omega (arith, long, p.least))))
      ∙ ap kind_of (take-take 3 count piece p.least) ∙ k

  kept : kind_of (take 3 piece) ≡ Some kind → IsKept text count returned (Some kind) Line
  kept k =
      record {
        fits = omega (arith, ap length front, long, length-take count text);
        held = padded_held;
        keeps = record {
          known = sym (padded_kind k);
          parts = p.fills ∙ ap (λ (n : ℕ). filled n bytes) e ∙ ap (filled (line_width kind)) (sym body);
        };
      }

  pub padded_cut : kind_of (take 3 piece) ≡ Some kind → IsCut text count returned (Some kind) Line true
  padded_cut k = (
    (kept k, λ o. absurd cc),
    λ _. ended_plain text count returned (Some kind) Line (kept k) (refl, ap is_plain front ∙ p.plain),
  )
