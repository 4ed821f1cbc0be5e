-- How lines are shown on terminals.
use Rattle.std.specs.Prelude.{ℕ, Bool, true, false, ◌&&◌, ◌||◌, nat_lt, is_some, length, Option, Some, None, if◌then◌else◌}
use Rattle.cwr_terminal.specs.declared.styles.Lines.{Lines}
use Rattle.cwr_terminal.specs.declared.styles.Lines.TheVariants.{Told, Named, Help}
use Rattle.cwr_terminal.specs.declared.styles.Style.{Style}
use Rattle.cwr_words.specs.declared.words.Colouring.{Colouring}
use Rattle.cwr_words.specs.declared.words.Colouring.TheVariants as colourings
use Rattle.cwr_words.specs.declared.words.Work.{Work}
use Rattle.cwr_words.specs.declared.words.Work.TheVariants.{Check, Explain, Lint, Advise}
use Rattle.cwr.specs.declared.terminal.Terminals.{Terminals}

-- those on so many files
abbrev pub lines_on : ℕ → Lines
lines_on count = if nat_lt 1 count then Named else Told

-- a work's lines on standard output, where these are verdicts, faults, findings and advice with what explains them
abbrev pub lines_of : Work → Option Lines
lines_of (Check judging) = Some (lines_on (length judging.files.items))
lines_of (Explain judging) = Some (lines_on (length judging.files.items))
lines_of (Lint words) = Some (lines_on (length words.files.items))
lines_of (Advise words) = Some (lines_on (length words.judging.files.items))
lines_of work = None

-- their first words have colours
abbrev pub has_colours : Colouring → Terminals → Bool
has_colours colourings.Always terminals = true
has_colours colourings.Never terminals = false
has_colours colourings.Auto terminals = terminals.output && terminals.colours

-- how many columns they have at most
abbrev pub width_of : Terminals → Option ℕ
width_of terminals = if terminals.output then Some terminals.columns else None

-- they are shown so, or written as they are
abbrev pub style_with : Option Lines → Option ℕ → Bool → Option Style
style_with None width coloured = None
style_with (Some lines) width coloured =
    if is_some width || coloured then Some (record { width = width; coloured = coloured; lines = lines }) else None

abbrev pub style_of : Work → Colouring → Terminals → Option Style
style_of work colouring terminals = style_with (lines_of work) (width_of terminals) (has_colours colouring terminals)

-- help on standard error is shown so, or written as it is
abbrev pub help_style : Terminals → Option Style
help_style terminals =
    if terminals.error then Some (record { width = Some terminals.columns; coloured = false; lines = Help }) else None
