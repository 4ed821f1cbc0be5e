-- The text of a work's row is that of its pieces.
use Rattle.std.proofs.Common.{◌≡◌, ℕ, Bool, true, false, List, [], ◌∷◌, ◌++◌, refl, sym, ap, ◌∙◌, append_assoc, append-nil, cond}
use Rattle.std.specs.Prelude.{codes, decimal, Some, None, slice_get}
use Rattle.cwr_fields.specs.Format.Kinds.{letters}
use Rattle.cwr_lines.specs.Format.Records.{RecordValue, cell_named}
use Rattle.cwr_json.specs.declared.encodings.Encoding.{Encoding}
use Rattle.cwr_tables.specs.declared.places.Place.{Place}
use Rattle.cwr_tables.specs.declared.works.Side.TheVariants.{Publishers, Writers}
use Rattle.cwr_tables.specs.declared.works.Sums.{Sums}
use Rattle.cwr_tables.specs.Format.Tables.{cell_text, row_text}
use Rattle.cwr_tables.specs.Format.RecordTables.{shown_cell}
use Rattle.cwr_tables.specs.Format.WorkTables.{is_header, names, percent, sums, transaction_row, work_cells, work_heading}
use Rattle.cwr_tables.specs.Steps.RowTexts.{next_cell}
use Rattle.cwr_tables.specs.Steps.WorkTexts.{front_text, tail_text}

pub heading_is : codes
    "group,transaction,record_type,submitter_work_number,title,iswc,writers,publishers,writers_pr_share,writers_mr_share,writers_sr_share,publishers_pr_share,publishers_mr_share,publishers_sr_share\r\n"
    ≡ work_heading
unfolding row_text cell_text
heading_is = refl

in_turn : (a b c d e f w p k l m n o q z : List ℕ)
    → (((((((a ++ b) ++ c) ++ d) ++ e) ++ f) ++ w) ++ p) ++ ((((k ++ l) ++ m) ++ ((n ++ o) ++ q)) ++ z)
    ≡ (a ++ (b ++ (c ++ (d ++ (e ++ (f ++ (w ++ (p ++ (k ++ (l ++ (m ++ (n ++ (o ++ (q ++ [])))))))))))))) ++ z
in_turn a b c d e f w p k l m n o q z = simp (append_assoc, append-nil)

-- the row
joined : (a b c d e f w p k l m n o q : List ℕ)
    → ((cell_text a ++ next_cell b ++ next_cell c ++ next_cell d ++ next_cell e ++ next_cell f ++ next_cell w) ++ next_cell p)
    ++ ((next_cell k ++ next_cell l ++ next_cell m) ++ (next_cell n ++ next_cell o ++ next_cell q) ++ codes "\r\n")
    ≡ row_text (a ∷ b ∷ c ∷ d ∷ e ∷ f ∷ w ∷ p ∷ k ∷ l ∷ m ∷ n ∷ o ∷ q ∷ [])
unfolding row_text
joined a b c d e f w p k l m n o q =
    in_turn (cell_text a) (next_cell b) (next_cell c) (next_cell d) (next_cell e) (next_cell f) (next_cell w) (next_cell p)
    (next_cell k) (next_cell l) (next_cell m) (next_cell n) (next_cell o) (next_cell q) (codes "\r\n")

pub row_is : (enc : Encoding) (place : Place) (head : RecordValue) (t : List RecordValue) → is_header head ≡ true → Some head ≡ slice_get t 0
    → ((front_text enc place head ++ next_cell (names enc Writers t)) ++ next_cell (names enc Publishers t))
    ++ tail_text (sums Writers t) (sums Publishers t) ≡ transaction_row enc place t
row_is enc place head [] h e = absurd (cc e)
row_is enc place head (x ∷ rest) h e =
    let same : x ≡ head = cc e in
    let t : List RecordValue = x ∷ rest in
    let s : Sums = sums Writers t in
    let o : Sums = sums Publishers t in
    joined (decimal place.group) (decimal place.transaction) (letters head.kind)
    (shown_cell enc (cell_named "submitter work number" head)) (shown_cell enc (cell_named "title" head))
    (shown_cell enc (cell_named "iswc" head))
    (names enc Writers t) (names enc Publishers t) (percent s.performing) (percent s.mechanical) (percent s.synchronization)
    (percent o.performing) (percent o.mechanical) (percent o.synchronization)
    ∙ ap (λ (r : RecordValue). row_text (work_cells enc place r t)) (sym same)
    ∙ sym (ap (λ (b : Bool). cond b (row_text (work_cells enc place x t)) []) (ap is_header same ∙ h))

pub no_row : (enc : Encoding) (place : Place) (head : RecordValue) (t : List RecordValue) → is_header head ≡ false → Some head ≡ slice_get t 0
    → transaction_row enc place t ≡ []
no_row enc place head [] h e = refl
no_row enc place head (x ∷ rest) h e =
    let same : x ≡ head = cc e in
    ap (λ (b : Bool). cond b (row_text (work_cells enc place x (x ∷ rest))) []) (ap is_header same ∙ h)

pub no_records : (enc : Encoding) (place : Place) (t : List RecordValue) → None ≡ slice_get t 0 → transaction_row enc place t ≡ []
no_records enc place [] e = refl
no_records enc place (x ∷ rest) e = absurd (cc e)
