-- What the header of a transmission says of its characters, and texts that don't go with that.
use Rattle.std.specs.Prelude.{ℕ, Bool, false, not, ◌&&◌, ◌||◌, ◌==◌, nat_eq, nat_lt, List, [], ◌∷◌, codes, if◌then◌else◌}
use Rattle.std.specs.List.{list_all, starts_with}
use Rattle.std.specs.Str.{is_utf8, str_eq_ignore_ascii_case}
use Rattle.cwr_fields.specs.Format.Bytes.{is_spaces, trimmed}
use Rattle.cwr_advice.specs.declared.characters.Characters.{Characters}
use Rattle.cwr_advice.specs.declared.characters.Characters.TheVariants.{Unsaid, Utf8, Other}

-- it names UTF-8, with its hyphen or without, in upper case or lower case
abbrev pub names_utf8 : List ℕ → Bool
names_utf8 cell =
    str_eq_ignore_ascii_case (trimmed cell) (codes "UTF-8") || str_eq_ignore_ascii_case (trimmed cell) (codes "UTF8")

-- what the header's character set says
abbrev pub characters_in : List ℕ → Characters
characters_in cell = if names_utf8 cell then Utf8 else if is_spaces cell then Unsaid else Other

-- every byte is one of ASCII
abbrev pub is_ascii : List ℕ → Bool
is_ascii cell = list_all (λ b. nat_lt b 128) cell

-- The text doesn't go with what is said: it has characters of several bytes in UTF-8, and nothing is said, or it isn't UTF-8 as it is
-- said. Of other sets of characters nothing is known.
abbrev pub is_unlike : Characters → List ℕ → Bool
is_unlike Unsaid cell = not (is_ascii cell) && is_utf8 cell
is_unlike Utf8 cell = not (is_utf8 cell)
is_unlike Other cell = false

-- The bytes EF BF BD stand somewhere in the text: U+FFFD in UTF-8, which a conversion writes for a letter that it can't read.
abbrev pub has_lost_letter : List ℕ → Bool
has_lost_letter [] = false
has_lost_letter (b ∷ rest) = ((b == 239) && starts_with nat_eq rest (191 ∷ 189 ∷ [])) || has_lost_letter rest

-- what follows & where HTML writes one of & < > " and ' by its name or its number
abbrev pub begins_with_name : List ℕ → Bool
begins_with_name text =
    starts_with nat_eq text (codes "amp;") || starts_with nat_eq text (codes "lt;") || starts_with nat_eq text (codes "gt;")
    || starts_with nat_eq text (codes "quot;") || starts_with nat_eq text (codes "#39;")

abbrev pub is_ampersand : ℕ → Bool
is_ampersand b = b == 38

-- a character of HTML stands so somewhere in the text
abbrev pub has_html : List ℕ → Bool
has_html [] = false
has_html (b ∷ rest) = (is_ampersand b && begins_with_name rest) || has_html rest
