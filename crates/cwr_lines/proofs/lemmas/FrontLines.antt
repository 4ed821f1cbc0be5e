-- What a piece is that begins with plain text, a carriage return and a line feed.
use Rattle.std.proofs.Common.{◌≡◌, ℕ, ◌+◌, ◌≤◌, true, List, [], ◌∷◌, ◌++◌, length, take, get_or, refl, sym, subst, ap, ◌∙◌, arith}
use Rattle.std.specs.Prelude.{Some}
use Rattle.std.specs.List.{list_any}
use Rattle.std.proofs.lemmas.List.{take_more, take_all, length-take-le, take-take}
use Rattle.cwr_fields.specs.Format.Bytes.{is_plain, filled}
use Rattle.cwr_fields.proofs.lemmas.LineFeeds.{NoLf, NoLf-append, NoLf-plain}
use Rattle.cwr_fields.specs.declared.kinds.Kind.{Kind}
use Rattle.cwr_lines.specs.declared.lines.LineEnd.TheVariants.{Line}
use Rattle.cwr_fields.specs.Format.Kinds.{kind_of}
use Rattle.cwr_fields.specs.Format.Layouts.{line_width}
use Rattle.cwr_lines.specs.Format.Lines.{is_lf}
use Rattle.cwr_lines.specs.Steps.Held.{HeldLine, Takes, IsHeld, IsKept, IsClosed, IsFilled, empty_line, held_body, line_kept}
use Rattle.cwr_fields.proofs.lemmas.AllKinds.{line_width_most}
use Rattle.cwr_lines.proofs.lemmas.FilledTexts.{filled_already, line_width_least}
use Rattle.cwr_lines.proofs.lemmas.RowLaws.{without_cr-added}

-- the piece begins with so many bytes, none of them a control byte, and then CR and LF
pub record Begins (piece : List ℕ) (width : ℕ) : Type 0 where
  pub within : width + 2 ≤ length piece
  pub plain : is_plain (take width piece) ≡ true
  pub carriage : get_or piece width 0 ≡ 13
  pub feed : get_or piece (width + 1) 0 ≡ 10

-- that line, as it is kept
abbrev pub front : List ℕ → ℕ → HeldLine
front piece width = line_kept (take width piece) width true Line

length_front : (piece : List ℕ) (width : ℕ) → Begins piece width → length (take width piece) ≡ width
length_front piece width b = length-take-le width piece (omega (arith, b.within))

body : (piece : List ℕ) (width : ℕ) → Begins piece width → take width (take width piece) ≡ take width piece
body piece width b = take_all width (take width piece) (omega (arith, length_front piece width b))

-- the line with its carriage return
returned : (piece : List ℕ) (width : ℕ) → Begins piece width → (front piece width).bytes ≡ take (width + 1) piece
returned piece width b =
    ap (λ (x : List ℕ). x ++ 13 ∷ []) (body piece width b) ∙ ap (λ (c : ℕ). take width piece ++ c ∷ []) (sym b.carriage)
    ∙ sym (take_more piece width 0 (omega (arith, b.within)))

-- the line with its end
ended : (piece : List ℕ) (width : ℕ) → Begins piece width → (front piece width).bytes ++ 10 ∷ [] ≡ take (width + 2) piece
ended piece width b =
    let two : width + 1 + 1 ≡ width + 2 = omega arith in
    ap (λ (x : List ℕ). x ++ 10 ∷ []) (returned piece width b) ∙ ap (λ (c : ℕ). take (width + 1) piece ++ c ∷ []) (sym b.feed)
    ∙ sym (take_more piece (width + 1) 0 (omega (arith, b.within))) ∙ ap (λ (n : ℕ). take n piece) two

pub front_taken : (piece : List ℕ) (width : ℕ) → Begins piece width → Takes empty_line piece (width + 2) (front piece width)
front_taken piece width b = record { within = b.within; text = ended piece width b; stops = omega arith }

no_feed : (piece : List ℕ) (width : ℕ) → Begins piece width → NoLf (front piece width).bytes
no_feed piece width b =
    ap (λ (x : List ℕ). list_any is_lf (x ++ 13 ∷ [])) (body piece width b)
    ∙ NoLf-append (take width piece) (13 ∷ []) (NoLf-plain (take width piece) b.plain) refl

pub front_held : (piece : List ℕ) (width : ℕ) → width ≤ 1023 → Begins piece width → IsHeld (front piece width)
front_held piece width most b =
    record {
      no_lf = no_feed piece width b;
      short =
          omega (arith, ap length (returned piece width b), length-take-le (width + 1) piece (omega (arith, b.within)), most);
      full = tt;
    }

front_body : (piece : List ℕ) (width : ℕ) → Begins piece width → held_body (front piece width) ≡ take width piece
front_body piece width b = without_cr-added (take width (take width piece)) ∙ body piece width b

front_filled : (kind : Kind) (piece : List ℕ) → Begins piece (line_width kind) → kind_of (take 3 piece) ≡ Some kind
    → IsFilled (take (line_width kind) piece) (Some kind) (front piece (line_width kind))
front_filled kind piece b k =
    let width : ℕ = line_width kind in
    let wide : length (take width piece) ≡ width = length_front piece width b in
    let three : filled 3 (held_body (front piece width)) ≡ take width piece =
    ap (filled 3) (front_body piece width b)
    ∙ sym (filled_already 3 (take width piece) (omega (arith, wide, line_width_least kind))) in
    record {
      known =
          sym (ap (λ (text : List ℕ). kind_of (take 3 text)) three ∙ ap kind_of (take-take 3 width piece (line_width_least kind))
          ∙ k);
      parts =
          sym
          (ap (filled width) (front_body piece width b) ∙ sym (filled_already width (take width piece) (omega (arith, wide))));
    }

pub front_kept : (kind : Kind) (piece : List ℕ) → Begins piece (line_width kind) → kind_of (take 3 piece) ≡ Some kind
    → IsKept (take (line_width kind) piece) (line_width kind) true (Some kind) Line
front_kept kind piece b k =
    record {
      fits = omega (arith, length_front piece (line_width kind) b);
      held = front_held piece (line_width kind) (line_width_most kind) b;
      keeps = front_filled kind piece b k;
    }

pub front_closed : (kind : Kind) (piece : List ℕ) (width : ℕ) → width ≡ line_width kind → Begins piece width
    → kind_of (take 3 piece) ≡ Some kind → IsClosed (take width piece) width true (Some kind) Line
front_closed kind piece width e b k =
    subst (λ (n : ℕ). IsClosed (take n piece) n true (Some kind) Line) (sym e)
    (front_kept kind piece (subst (Begins piece) e b) k, λ o. absurd cc)

pub front_held_of : (kind : Kind) (piece : List ℕ) (width : ℕ) → width ≡ line_width kind → Begins piece width
    → IsHeld (front piece width)
front_held_of kind piece width e b = front_held piece width (omega (arith, e, line_width_most kind)) b
