use Rattle.std.proofs.Common.{◌≡◌, true, Bool, false, cond, sym, ap, ap₂, ◌∙◌}
use Rattle.std.specs.Prelude.{◌||◌}
use Rattle.std.specs.List.{list_any}
use Rattle.cwr_lines.specs.Format.Records.{cell_named}
use Rattle.cwr_tables.specs.declared.works.Side.{Side}
use Rattle.cwr_tables.specs.declared.works.Side.TheVariants.{Publishers, Writers}
use Rattle.cwr_tables.specs.Format.Tables.{calls_for_quotes}
use Rattle.cwr_tables.specs.Format.WorkTables.{is_on, name_of_owner}
use Rattle.cwr_tables.specs.Steps.WorkTexts.{name_needs_quotes}
use Rattle.cwr_tables.proofs.lemmas.NamedOwners.{cell_is}
use Rattle.cwr_tables.proofs.lemmas.QuotedCharacters.{quotes_in_both, quotes_shown}
use Rattle.cwr_tables.proofs.lemmas.WorkFields.{first_name, last_name, publisher_name}
use Rattle.cwr_tables.proofs.works.name_needs_quotes.Goals as goal

pub returns-then-not-is_on : goal.returns-then-not-is_on
returns-then-not-is_on c = λ enc.
    sym (ap (λ (b : Bool). cond b (list_any calls_for_quotes (name_of_owner enc c.args.side c.args.shown.now)) false)
    (sym c.is_on.ensures ∙ c.if-not-is_on.true))

pub returns-in-Writers : goal.returns-in-Writers
returns-in-Writers c = λ enc.
    let r = c.args.shown.now in
    let on : is_on Writers r ≡ true =
    sym (ap (λ (side : Side). is_on side r) c.in-Writers.is) ∙ sym c.is_on.ensures ∙ c.if-not-is_on.false in
    let last = cell_is "last name" r 5 45 c.cell.result.now c.cell.ensures.value (last_name r on) c.cell.ensures.fits in
    let first = cell_is "first name" r 6 30 c.cell-in-Writers.result.now c.cell-in-Writers.ensures.value (first_name r on) c.cell-in-Writers.ensures.fits in
    ap₂ (λ (x y : Bool). x || y) (c.needs_quotes.ensures ∙ ap (list_any calls_for_quotes) last)
    (c.needs_quotes-in-Writers.ensures ∙ ap (list_any calls_for_quotes) first)
    ∙ sym (quotes_in_both enc (cell_named "last name" r) (cell_named "first name" r))
    ∙ sym (ap (λ (b : Bool). cond b (list_any calls_for_quotes (name_of_owner enc Writers r)) false) on)
    ∙ sym (ap (λ (side : Side). name_needs_quotes enc side r) c.in-Writers.is)

pub returns-in-Publishers : goal.returns-in-Publishers
returns-in-Publishers c = λ enc.
    let r = c.args.shown.now in
    let on : is_on Publishers r ≡ true =
    sym (ap (λ (side : Side). is_on side r) c.in-Publishers.is) ∙ sym c.is_on.ensures ∙ c.if-not-is_on.false in
    let name =
    cell_is "publisher name" r 6 45 c.cell-in-Publishers.result.now c.cell-in-Publishers.ensures.value (publisher_name r on)
    c.cell-in-Publishers.ensures.fits in
    c.needs_quotes-in-Publishers.ensures ∙ ap (list_any calls_for_quotes) name
    ∙ sym (quotes_shown enc (cell_named "publisher name" r))
    ∙ sym (ap (λ (b : Bool). cond b (list_any calls_for_quotes (name_of_owner enc Publishers r)) false) on)
    ∙ sym (ap (λ (side : Side). name_needs_quotes enc side r) c.in-Publishers.is)
