-- What is left of a source stays while a line is loaded.
use Rattle.std.proofs.Common.{◌≡◌, ◌≢◌, ℕ, Bool, true, false, List, [], ◌++◌, length, drop, Option, Some, None, sym, ap, ap₂, ◌∙◌}
use Rattle.std.proofs.Common.{arith, refl}
use Rattle.std.specs.Prelude.{IfSome, IsSomeAnd, option_map, if◌then◌else◌}
use Rattle.std.specs.Io.KnownBytes.{Keeps}
use Rattle.std.proofs.lemmas.List.{drop_all, length-append}
use Rattle.cwr_lines.specs.declared.lines.LineEnd.{LineEnd}
use Rattle.cwr_lines.specs.declared.lines.LineEnd.TheVariants.{Open}
use Rattle.cwr_lines.specs.Steps.Held.{HeldLine, IsHeld, ended_too_long, held_kind}
use Rattle.cwr_lines.specs.Steps.Numbered.{line_end, numbered_as, set_text}
use Rattle.cwr_shape.specs.Steps.Numberings.{NumberingValue}
use Rattle.cwr_renumber.specs.Steps.Renumbered.{line_by, numbering_after, numbers_by, segments, renumber_from, text_from}
use Rattle.cwr_renumber.specs.Steps.Takings.{EndsAs}
use Rattle.cwr_renumber.proofs.lemmas.LinesOfText.{first_by}

-- what is left of the line that is handed out and of the later ones
abbrev pub left_by : ℕ → List ℕ → Bool → NumberingValue → List ℕ → Option (List ℕ) → Option (List ℕ)
left_by at out over n held left = option_map (λ rest. drop at out ++ (if over then [] else text_from n held rest)) left

none_left : (at end : ℕ) (out : List ℕ) → at ≡ end → end ≡ length out → drop at out ≡ []
none_left at end out e long = ap (λ (k : ℕ). drop k out) (e ∙ long) ∙ drop_all (length out) out (omega arith)

-- nothing is left of the line that is handed out, and the lines from here on are those that are left
later_left : (at end : ℕ) (out held rest : List ℕ) (over : Bool) (n : NumberingValue) → at ≡ end → end ≡ length out → over ≡ false
    → drop at out ++ (if over then [] else text_from n held rest) ≡ text_from n held rest
later_left at end out held rest over n e long more =
    ap₂ (λ (x : List ℕ) (b : Bool). x ++ (if b then [] else text_from n held rest)) (none_left at end out e long) more

-- at the end of the source nothing is left
pub end_left : (before after : Option (List ℕ)) (old new out : List ℕ) (at end : ℕ) (over : Bool) (n : NumberingValue) → at ≡ end
    → end ≡ length out → over ≡ false
    → IfSome before (λ left. IsSomeAnd after (λ rest. EndsAs Open new (old ++ left) rest))
    → IfSome (left_by at out over n old before) (λ left. left ≡ [])
end_left None after old new out at end over n e long more k = tt
end_left (Some left) None old new out at end over n e long more k = absurd k
end_left (Some left) (Some rest) old new out at end over n e long more k =
    later_left at end out old left over n e long more ∙ ap (λ (t : List ℕ). renumber_from n (segments t)) k.1

-- a line is taken, with the numbers that belong in it
pub line_left : (before after : Option (List ℕ)) (old out text : List ℕ) (at end : ℕ) (over long : Bool) (n next : NumberingValue)
    (h : HeldLine) (ended : LineEnd) → at ≡ end → end ≡ length out → over ≡ false
    → h.ended ≡ ended → ended ≢ Open → IsHeld h
    → IfSome before (λ left. IsSomeAnd after (λ rest. EndsAs ended h.bytes (old ++ left) rest))
    → text ≡ line_by n h → next ≡ numbering_after n h → long ≡ ended_too_long ended
    → Keeps (left_by at out over n old before) (left_by 0 text long next [] after)
line_left None after old out text at end over long n next h ended e all more by not_open held k t c l = tt
line_left (Some left) None old out text at end over long n next h ended e all more by not_open held k t c l = absurd k
line_left (Some left) (Some rest) old out text at end over long n next h ended e all more by not_open held k t c l =
    ap₂ (λ (x : List ℕ) (m : NumberingValue). x ++ (if long then [] else renumber_from m (segments rest))) t c
    ∙ ap (λ (b : Bool). line_by n h ++ (if b then [] else renumber_from (numbering_after n h) (segments rest))) l
    ∙ sym (first_by ended n h (old ++ left) rest by not_open held k)
    ∙ sym (later_left at end out old left over n e all more)

some_end : (long : Bool) → length (line_end long) ≡ 2
some_end true = refl
some_end false = refl

-- and it isn't empty
pub some_line : (n : NumberingValue) (h : HeldLine) (text : List ℕ) → text ≡ line_by n h → 0 ≡ length text → ⊥
some_line n h text t none =
    let cells : List ℕ = numbered_as (held_kind h) (numbers_by (held_kind h) n) (set_text h) in
    absurd (omega
    (arith, none, ap length t, length-append cells (line_end (ended_too_long h.ended)), some_end (ended_too_long h.ended)))
