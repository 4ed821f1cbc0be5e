use Rattle.std.proofs.Common.{◌≡◌, ℕ, Bool, true, false, cond, List, [], ◌++◌, sym, ap, ◌∙◌, append-nil}
use Rattle.std.specs.Prelude.{codes}
use Rattle.cwr_fields.specs.Format.Bytes.{is_spaces, trimmed}
use Rattle.cwr_lines.specs.Format.Records.{cell_named}
use Rattle.cwr_devices.proofs.lemmas.Adding.{adds_as, adds_both}
use Rattle.cwr_json.specs.Format.Encodings.{characters}
use Rattle.cwr_tables.specs.Format.RecordTables.{shown_cell}
use Rattle.cwr_tables.specs.Steps.WorkTexts.{within}
use Rattle.cwr_tables.proofs.lemmas.NamedOwners.{cell_is}
use Rattle.cwr_tables.proofs.lemmas.NamesJoined.{within_both}
use Rattle.cwr_tables.proofs.lemmas.WorkFields.{first_name, last_name}
use Rattle.cwr_tables.proofs.work_texts.writer_name.Goals as goal

pub returns-then-is_spaces : goal.returns-then-is_spaces
returns-then-is_spaces g c =
    let last =
    cell_is "last name" c.args.shown.now 5 45 c.cell.result.now c.cell.ensures.value (last_name c.args.shown.now c.requires)
    c.cell.ensures.fits in
    let first =
    cell_is "first name" c.args.shown.now 6 30 c.cell-first.result.now c.cell-first.ensures.value
    (first_name c.args.shown.now c.requires) c.cell-first.ensures.fits in
    let blank : is_spaces (cell_named "first name" c.args.shown.now) ≡ true =
    ap is_spaces (sym first) ∙ sym c.is_spaces.ensures ∙ c.if-is_spaces.true in
    let one : List ℕ = shown_cell c.args.encoding (cell_named "last name" c.args.shown.now) in
    let two : List ℕ = shown_cell c.args.encoding (cell_named "first name" c.args.shown.now) in
    adds_as (ap (λ (part : List ℕ). within c.args.quoted (characters c.args.encoding part)) (c.trimmed.ensures ∙ ap trimmed last)
    ∙ ap (within c.args.quoted) (sym (ap (λ (b : Bool). one ++ cond b [] (codes " " ++ two)) blank ∙ append-nil one)))
    c.within.ensures

pub returns : goal.returns
returns g c =
    let last =
    cell_is "last name" c.args.shown.now 5 45 c.cell.result.now c.cell.ensures.value (last_name c.args.shown.now c.requires)
    c.cell.ensures.fits in
    let first =
    cell_is "first name" c.args.shown.now 6 30 c.cell-first.result.now c.cell-first.ensures.value
    (first_name c.args.shown.now c.requires) c.cell-first.ensures.fits in
    let some : is_spaces (cell_named "first name" c.args.shown.now) ≡ false =
    ap is_spaces (sym first) ∙ sym c.is_spaces.ensures ∙ c.if-is_spaces.false in
    let one : List ℕ = shown_cell c.args.encoding (cell_named "last name" c.args.shown.now) in
    let two : List ℕ = shown_cell c.args.encoding (cell_named "first name" c.args.shown.now) in
    let part : List ℕ → List ℕ = λ it. within c.args.quoted (characters c.args.encoding it) in
    adds_as (within_both c.args.quoted one two
    ∙ ap (within c.args.quoted) (sym (ap (λ (b : Bool). one ++ cond b [] (codes " " ++ two)) some)))
    (adds_both (adds_both (adds_as (ap part (c.trimmed.ensures ∙ ap trimmed last)) c.within.ensures) c.text.ensures)
    (adds_as (ap part (c.trimmed-2.ensures ∙ ap trimmed first)) c.within-2.ensures))
