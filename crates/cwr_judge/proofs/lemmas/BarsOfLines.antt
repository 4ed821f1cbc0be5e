-- What the lines of records bar is what the records bar.
use Rattle.std.proofs.Common.{ℕ, List, [], ◌∷◌, ◌++◌, map}
use Rattle.std.specs.List.{AllZip, AllByRecursion}
use Rattle.cwr_lines.specs.Format.Records.{RecordValue, IsRecord}
use Rattle.cwr_lines.specs.Format.Lines.{IsLineOf}
use Rattle.cwr_shape.specs.declared.symbols.Symbol.{Symbol}
use Rattle.cwr_shape.specs.declared.limits.LimitKind.TheVariants as limit_kinds
use Rattle.cwr_shape.specs.declared.tallies.Bar.{Bar}
use Rattle.cwr_shape.specs.declared.tallies.Bar.TheVariants as bars
use Rattle.cwr_shape.specs.Format.Ranges.{LimitValues}
use Rattle.cwr_shape.specs.Format.Outlines.{GroupOutline, KeepsTo, IsWithin}
use Rattle.cwr_shape.specs.Format.AnyTransmission.{Any}
use Rattle.cwr_shape.specs.Format.Bars.{Bars}
use Rattle.cwr_shape.specs.Format.NextSymbols.{ContinuesWith, IsBarredFirst}
use Rattle.cwr_values.specs.Format.Values.{symbol_of}
use Rattle.cwr_values.specs.Format.Begins.{rows_so_far}
use Rattle.cwr_judge.proofs.lemmas.SymbolsOfLines.{named_by_lines, among_with, with_among}

-- no transmission continues with one of these symbols, or none that keeps to the limit
abbrev pub BarsWith : LimitValues → List Symbol → List Symbol → Bar → Type 0
BarsWith limits xs cs bars.Misplaced = ¬ ContinuesWith xs cs Any
BarsWith limits xs cs (bars.Limit limit) = ¬ ContinuesWith xs cs (KeepsTo limit limits)

pub bars_seen : (limits : LimitValues) (records : List RecordValue) (lines : List (List ℕ)) (cs : List Symbol) (bar : Bar)
    → AllByRecursion IsRecord records → AllZip IsLineOf (rows_so_far records) lines
    → BarsWith limits (map symbol_of records) cs bar → Bars limits (named_by_lines lines ++ cs ∷ []) bar
bars_seen limits records lines cs bars.Misplaced h z b = λ g. b (among_with Any records lines cs h z g)
bars_seen limits records lines cs (bars.Limit limit) h z b = λ g. b (among_with (KeepsTo limit limits) records lines cs h z g)

pub seen_bars : (limits : LimitValues) (records : List RecordValue) (lines : List (List ℕ)) (cs : List Symbol) (bar : Bar)
    → AllByRecursion IsRecord records → AllZip IsLineOf (rows_so_far records) lines
    → Bars limits (named_by_lines lines ++ cs ∷ []) bar → BarsWith limits (map symbol_of records) cs bar
seen_bars limits records lines cs bars.Misplaced h z b = λ g. b (with_among Any records lines cs h z g)
seen_bars limits records lines cs (bars.Limit limit) h z b = λ g. b (with_among (KeepsTo limit limits) records lines cs h z g)

-- the first bar is one of them
pub first_bars : (limits : LimitValues) (xs cs : List Symbol) (bar : Bar) → IsBarredFirst limits (ContinuesWith xs cs) bar
    → BarsWith limits xs cs bar
first_bars limits xs cs bars.Misplaced b = b
first_bars limits xs cs (bars.Limit limit_kinds.Records) b = b.1
first_bars limits xs cs (bars.Limit limit_kinds.Groups) b = b.1
first_bars limits xs cs (bars.Limit limit_kinds.Transaction) b = b.2

-- what keeps to something is a transmission
pub any_with : (P : List GroupOutline → Type 0) (xs cs : List Symbol) → ContinuesWith xs cs P → ContinuesWith xs cs Any
any_with P xs cs (s, among, (groups, whole, p, begins)) = (s, among, (groups, whole, tt, begins))

-- where some transmission within the limits continues, nothing bars
pub none_bars : (limits : LimitValues) (xs cs : List Symbol) (bar : Bar) → ContinuesWith xs cs (IsWithin limits)
    → ¬ BarsWith limits xs cs bar
none_bars limits xs cs bars.Misplaced (s, among, (groups, whole, within, begins)) b = b (s, among, (groups, whole, tt, begins))
none_bars limits xs cs (bars.Limit limit_kinds.Records) (s, among, (groups, whole, within, begins)) b =
    b (s, among, (groups, whole, within.0, begins))
none_bars limits xs cs (bars.Limit limit_kinds.Groups) (s, among, (groups, whole, within, begins)) b =
    b (s, among, (groups, whole, within.1, begins))
none_bars limits xs cs (bars.Limit limit_kinds.Transaction) (s, among, (groups, whole, within, begins)) b =
    b (s, among, (groups, whole, within.2, begins))
