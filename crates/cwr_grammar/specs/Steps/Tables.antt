-- What the tables of the code say, in the words of the command line.
use Rattle.std.specs.Prelude.{◌++◌, [], ℤ, List, Some, true, fold, pos, codes}
use Rattle.std.specs.Int.{int_max, int_min}
use Rattle.clap.specs.Simple.{on_top}
use Rattle.clap.specs.Values.{signed_between}
use Rattle.clap.specs.Walk.{Text}
use Rattle.clap.specs.Words.{App, Rule, Shape, new_app, with_rule, with_subcommand}
use Rattle.clap.specs.declared.builder.value_parser.ValueParser.{ValueParser}
use Rattle.cwr_grammar.specs.Format.CommandLine.{flag, letter, limits, needed, option, option_or, options, place, places, reads, shows}
use Rattle.cwr_grammar.specs.declared.grammar.Common.{Common}
use Rattle.cwr_grammar.specs.declared.grammar.Common.TheVariants as common
use Rattle.cwr_grammar.specs.declared.grammar.Form.{Form}
use Rattle.cwr_grammar.specs.declared.grammar.Form.TheVariants as forms
use Rattle.cwr_grammar.specs.declared.grammar.Subcommand.{Subcommand}
use Rattle.cwr_grammar.specs.declared.grammar.Word.{Word}

-- numbers of 32 bits from the least to the most
abbrev pub between : ℤ → ℤ → ValueParser
between least most = signed_between (int_max (pos 0) least) (int_min (pos 4294967295) most)

-- a word of that form, under an id
abbrev pub rule_of_form : Text → Form → Rule
rule_of_form id forms.Flag = flag id
rule_of_form id (forms.Limit least most without) = record (option_or id without.now) { parser = Some (between least most) }
rule_of_form id forms.Level = option id
rule_of_form id forms.WorkKind = option id
rule_of_form id (forms.Names name) = options id
rule_of_form id (forms.NamesBeside name other) = options id
rule_of_form id (forms.StatusesWithout other) = options id
rule_of_form id (forms.FlagBeside other) = flag id
rule_of_form id (forms.FlagWithout other) = flag id
rule_of_form id (forms.NameBeside name other) = option id
rule_of_form id (forms.Letter short) = letter id short
rule_of_form id (forms.Short short name) = letter id short
rule_of_form id (forms.InPlace short other) = letter id short
rule_of_form id (forms.Named name) = option id
rule_of_form id (forms.Count short most) = record (letter id short) { required = true; parser = Some (between (pos 1) most) }
rule_of_form id (forms.OneOf words) = needed id
rule_of_form id forms.Coloring = option_or id (codes "auto")
rule_of_form id forms.File = place id
rule_of_form id forms.Files = places id
rule_of_form id forms.Needed = needed id

abbrev pub rule_of_word : Word → Rule
rule_of_word word = rule_of_form word.id.now word.form

-- a command with these words after its own
abbrev pub with_words : App → List Word → App
with_words app words = fold (λ made word. with_rule made (rule_of_word word)) app words

-- the words that stand before a subcommand's own
abbrev pub common_rules : Common → List Rule
common_rules common.Nothing = []
common_rules common.Limits = limits ++ shows
common_rules common.Reading = reads

-- a command with these rules after its own
abbrev pub with_rules : App → List Rule → App
with_rules app rules = fold with_rule app rules

abbrev pub app_of_subcommand : Subcommand → App
app_of_subcommand it = with_words (with_rules (new_app it.name.now) (common_rules it.common)) it.own.now

-- the program without subcommands
abbrev pub bare : App
bare = on_top (λ shape. record shape { has_version = true }) (new_app (codes "cwr"))

-- a command with these subcommands after its own
abbrev pub with_subcommands : App → List Subcommand → App
with_subcommands app subcommands = fold (λ made it. with_subcommand made (app_of_subcommand it).top) app subcommands

-- the same, of what a parse reads of them
abbrev pub with_shapes : App → List Shape → App
with_shapes app shapes = fold with_subcommand app shapes
