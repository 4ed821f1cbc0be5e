-- The command line: the subcommands of `cwr`, and the words that each of them takes. A parse reads their names, places and numbers by it.
use Rattle.std.specs.Prelude.{◌∷◌, ◌++◌, [], ℕ, List, Some, false, true, codes, pos}
use Rattle.clap.specs.Lexer.{usize_max}
use Rattle.clap.specs.Simple.{new_shape}
use Rattle.clap.specs.Walk.{Text}
use Rattle.clap.specs.Words.{App, Rule, Shape, new_rule}
use Rattle.clap.specs.declared.builder.ArgAction.TheVariants.{Append, SetTrue}
use Rattle.clap.specs.declared.builder.value_parser.ValueParser.TheVariants as parsers

-- `--ID`
abbrev pub flag : Text → Rule
flag id = record (new_rule id) { long = Some id; action = Some SetTrue }

-- `--ID TEXT`
abbrev pub option : Text → Rule
option id = record (new_rule id) { long = Some id; value_names = 1 }

-- `--ID TEXT`, any number of times
abbrev pub options : Text → Rule
options id = record (option id) { action = Some Append }

-- `--ID TEXT`, which is that one where it isn't given
abbrev pub option_or : Text → Text → Rule
option_or id without = record (option id) { defaults = without ∷ [] }

-- `--ID NUMBER`, from the least to the most, which is that one where it isn't given
abbrev pub number_or : Text → ℕ → ℕ → Text → Rule
number_or id least most without = record (option_or id without) { parser = Some (parsers.Signed (pos least) (pos most)) }

-- `-LETTER TEXT`, under an id
abbrev pub letter : Text → ℕ → Rule
letter id short = record (new_rule id) { short = Some short; value_names = 1 }

-- `-LETTER NUMBER`, from the least to the most, which may not be left out
abbrev pub needed_number : Text → ℕ → ℕ → ℕ → Rule
needed_number id short least most = record (letter id short) { required = true; parser = Some (parsers.Signed (pos least) (pos most)) }

-- a text by its place, which may be left out, or not
abbrev pub place : Text → Rule
place id = new_rule id

abbrev pub needed : Text → Rule
needed id = record (new_rule id) { required = true }

-- the texts from a place on
abbrev pub places : Text → Rule
places id = record (new_rule id) { range = Some (record { start_inclusive = 1; end_inclusive = usize_max }) }

-- a subcommand with these words, in their order
abbrev pub subcommand : Text → List Rule → Shape
subcommand name rules = record (new_shape name) { rules = rules }

-- the limits
abbrev pub limits : List Rule
limits =
    number_or (codes "records") 5 99999999 (codes "99999999") ∷ number_or (codes "groups") 1 99999 (codes "99999")
    ∷ number_or (codes "transaction") 1 999999 (codes "999999") ∷ []

-- how a run is shown
abbrev pub shows : List Rule
shows = flag (codes "progress") ∷ flag (codes "no-progress") ∷ option_or (codes "color") (codes "auto") ∷ []

-- what may follow a transmission
abbrev pub ends : List Rule
ends = flag (codes "whole") ∷ []

-- the words of each subcommand that reads transmissions
abbrev pub reads : List Rule
reads = limits ++ ends ++ shows

-- the level of findings that ends a run as a refusal does
abbrev pub fail_on : Rule
fail_on = option (codes "fail-on")

-- a file, and files
abbrev pub file : Rule
file = place (codes "FILE")

abbrev pub files : Rule
files = places (codes "FILE")

-- the option that names what is written, under an id; 111 is o
abbrev pub written : Text → Rule
written id = letter id 111

abbrev pub check : Shape
check = subcommand (codes "check") (reads ++ fail_on ∷ flag (codes "quiet") ∷ files ∷ [])

abbrev pub show : Shape
show = subcommand (codes "show") (reads ++ fail_on ∷ file ∷ [])

abbrev pub explain : Shape
explain = subcommand (codes "explain") (reads ++ fail_on ∷ flag (codes "quiet") ∷ files ∷ [])

abbrev pub lint : Shape
lint = subcommand (codes "lint")
    (reads ++ flag (codes "explain") ∷ flag (codes "advice") ∷ flag (codes "all") ∷ flag (codes "quiet") ∷ files ∷ [])

abbrev pub advise : Shape
advise = subcommand (codes "advise")
    (reads ++ fail_on ∷ flag (codes "quiet") ∷ flag (codes "all") ∷ number_or (codes "repeated") 0 99999999 (codes "0") ∷ files ∷ [])

abbrev pub json : Shape
json = subcommand (codes "json") (reads ++ file ∷ written (codes "OUT") ∷ flag (codes "numbers") ∷ flag (codes "utf8") ∷ [])

abbrev pub csv : Shape
csv = subcommand (codes "csv") (reads ++ needed (codes "KIND") ∷ file ∷ written (codes "OUT") ∷ flag (codes "utf8") ∷ [])

abbrev pub acks : Shape
acks = subcommand (codes "acks")
    (reads ++ options (codes "sent") ∷ flag (codes "json") ∷ flag (codes "by-place") ∷ flag (codes "state") ∷ fail_on
    ∷ options (codes "status") ∷ flag (codes "utf8") ∷ files ∷ [])

abbrev pub summary : Shape
summary = subcommand (codes "summary")
    (reads ++ flag (codes "csv") ∷ flag (codes "json") ∷ flag (codes "no-digest") ∷ flag (codes "advice") ∷ flag (codes "quiet") ∷ files ∷ [])

abbrev pub write : Shape
write = subcommand (codes "write")
    (limits ++ shows ++ number_or (codes "line") 1 1000000000 (codes "64000000") ∷ flag (codes "utf8") ∷ written (codes "OUT") ∷ file ∷ [])

abbrev pub split : Shape
split = subcommand (codes "split")
    (reads ++ fail_on ∷ flag (codes "new") ∷ option (codes "created") ∷ needed_number (codes "N") 110 1 99999999 ∷ needed (codes "FILE")
    ∷ place (codes "PREFIX") ∷ written (codes "o") ∷ [])

abbrev pub join : Shape
join = subcommand (codes "join")
    (reads ++ fail_on ∷ flag (codes "new") ∷ flag (codes "same-sender") ∷ number_or (codes "repeated") 0 99999999 (codes "0")
    ∷ written (codes "o") ∷ needed (codes "OUT") ∷ files ∷ [])

abbrev pub renumber : Shape
renumber = subcommand (codes "renumber")
    (reads ++ fail_on ∷ flag (codes "new") ∷ flag (codes "anyway") ∷ file ∷ place (codes "OUT") ∷ written (codes "o") ∷ [])

abbrev pub select : Shape
select = subcommand (codes "select")
    (reads ++ option (codes "works") ∷ option (codes "places") ∷ option (codes "kind") ∷ option (codes "party") ∷ option (codes "state")
    ∷ options (codes "answers") ∷ flag (codes "by-place") ∷ flag (codes "not") ∷ option (codes "created") ∷ flag (codes "same-created")
    ∷ option (codes "as") ∷ flag (codes "new") ∷ fail_on ∷ file ∷ written (codes "OUT") ∷ [])

abbrev pub manual : Shape
manual = subcommand (codes "manual") []

-- those that read transmissions and tell of them
unfoldable pub readings : List Shape
readings = check ∷ show ∷ explain ∷ lint ∷ advise ∷ json ∷ csv ∷ acks ∷ summary ∷ []

-- those that write transmissions, and the last one
unfoldable pub writings : List Shape
writings = write ∷ split ∷ join ∷ renumber ∷ select ∷ manual ∷ []

unfoldable pub subcommands : List Shape
subcommands = readings ++ writings

-- The words of the program: one of these subcommands, or none. It has a version.
unfoldable pub grammar : App
grammar = record { top = record (new_shape (codes "cwr")) { is_leaf = false; has_version = true }; subs = subcommands }
