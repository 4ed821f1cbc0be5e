-- What a terminal will be shown yet.
use Rattle.std.specs.Prelude.{◌≡◌, ℕ, Bool, true, false, ◌==◌, List, [], ◌∷◌, ◌++◌, Option, Some, None, if◌then◌else◌}
use Rattle.std.specs.Io.KnownBytes.{Appends}
use Rattle.cwr_terminal.specs.declared.styled.Styled.{Styled}
use Rattle.cwr_terminal.specs.declared.styles.Style.{Style}
use Rattle.cwr_terminal.specs.Format.Shown.{shown_after, shown_text}

abbrev pub output_of : {W : Type 0} → Styled W → W
output_of styled = styled.output

abbrev pub style_of : {W : Type 0} → Styled W → Option Style
style_of styled = styled.style

-- the bytes that were given, where these are known: those of the output that all is handed on to as it is
abbrev pub plain_contents : Option Style → Option (List ℕ) → Option (List ℕ)
plain_contents None contents = contents
plain_contents (Some style) contents = None

-- the rest of a line as it is, and the lines behind it
unfoldable pub shown_rest : Style → List ℕ → List ℕ
shown_rest style [] = []
shown_rest style (b ∷ text) = if b == 10 then 10 ∷ shown_after style [] text else b ∷ shown_rest style text

-- a text behind what was given so far, where that began this line, or passed the start of it
abbrev pub shown_behind : Option Style → Bool → List ℕ → List ℕ → List ℕ
shown_behind None passes line text = text
shown_behind (Some style) true line text = shown_rest style text
shown_behind (Some style) false line text = shown_after style line text

-- all that is written of a text that comes next, up to a flush
abbrev pub to_show : {W : Type 0} → Styled W → List ℕ → List ℕ
to_show styled text = shown_behind styled.style styled.passes styled.line.items text

-- These bytes were given: some were written, so that with those to come all are shown as they would have been.
abbrev pub Takes : {W : Type 0} → (W → Option (List ℕ)) → Styled W → Styled W → List ℕ → Type 0
Takes contents old new given =
    (written : List ℕ)
    × Appends (contents old.output) (contents new.output) written
    × ((more : List ℕ) → to_show old (given ++ more) ≡ written ++ to_show new more)
    × (new.style ≡ old.style)

-- What was held is written as it is shown.
abbrev pub Shows : {W : Type 0} → (W → Option (List ℕ)) → Styled W → Styled W → Type 0
Shows contents old new = Appends (contents old.output) (contents new.output) (to_show old [])

-- Nothing is held: what comes next is shown as a text of its own.
abbrev pub HoldsNothing : {W : Type 0} → Styled W → Type 0
HoldsNothing styled = (text : List ℕ) → to_show styled text ≡ shown_text styled.style text
