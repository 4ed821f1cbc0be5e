-- The bytes that were given to an output, where nothing is cleared on it.
use Rattle.std.specs.Prelude.{ℕ, Bool, true, false, List, Option, None}
use Rattle.cwr_terminal.specs.Steps.Held.{plain_contents}
use Rattle.cwr_words.specs.declared.words.Task.{Task}
use Rattle.cwr.specs.declared.terminal.Cleared.{Cleared}
use Rattle.cwr.specs.declared.terminal.Terminals.{Terminals}
use Rattle.cwr.specs.Format.Styles.{style_of}

-- the output, and whether it is a terminal
abbrev pub cleared_output : {O : Type 0} → Cleared O → O
cleared_output cleared = cleared.output

abbrev pub clears : {O : Type 0} → Cleared O → Bool
clears cleared = cleared.is_terminal

-- those of what is no terminal, where they are known
abbrev pub plain_unless : Bool → Option (List ℕ) → Option (List ℕ)
plain_unless true contents = None
plain_unless false contents = contents

-- the bytes of standard output, where these are known, and lines are written to it as they are
abbrev pub plain_on : Terminals → Task → Option (List ℕ) → Option (List ℕ)
plain_on terminals task contents =
    plain_contents (style_of task.work task.colouring terminals) (plain_unless terminals.output contents)
