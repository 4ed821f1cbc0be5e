-- No cell of any type has a line feed.
use Rattle.std.proofs.Common.{◌≡◌, ℕ, zero, suc, ◌+◌, ◌-◌, ◌/◌, ◌%◌, ◌<◌, Bool, true, false, not, ◌&&◌, ltb, List, [], ◌∷◌, ◌++◌}
use Rattle.std.proofs.Common.{length, replicate, refl, sym, subst, ◌∙◌, inl, inr, arith, true≢false}
use Rattle.std.specs.Prelude.{◌==◌, slice_index_or}
use Rattle.std.specs.List.{list_any, list_all, IsAmong}
use Rattle.std.proofs.lemmas.List.Folds.{list_any-append}
use Rattle.std.proofs.lemmas.Bool.{eqb-true, ne_eqb, and_parts, not-true, or_from, false_from_ne_true}
use Rattle.cwr_fields.specs.declared.cell_types.CellType.{CellType}
use Rattle.cwr_fields.specs.declared.cell_types.CellType.TheVariants.{Text, Required, Number, OptNumber, Date, OptDate, Time}
use Rattle.cwr_fields.specs.declared.cell_types.CellType.TheVariants.{OptTime, OptDuration, Share, Flag, Code, OptCode, Constant}
use Rattle.cwr_fields.specs.declared.tables.Table.{Table}
use Rattle.cwr_fields.specs.declared.tables.Table.TheVariants as tables
use Rattle.cwr_fields.specs.declared.cell_types.Word.{Word}
use Rattle.cwr_fields.specs.declared.cell_types.Word.TheVariants as words
use Rattle.cwr_fields.specs.Format.Bytes.{digits, is_plain, is_spaces, is_control}
use Rattle.cwr_fields.specs.Format.Codes.{codes_of, code_width, word_text}
use Rattle.cwr_fields.specs.Format.Cells.{Allows, SpellsDay, SpellsTime, SpellsCode, IsCodeOf, flag_texts}

-- no byte is a line feed
abbrev pub has_lf : List ℕ → Bool
has_lf cell = list_any (λ b. b == 10) cell

abbrev pub NoLf : List ℕ → Type 0
NoLf cell = has_lf cell ≡ false

pub NoLf-append : (xs ys : List ℕ) → NoLf xs → NoLf ys → NoLf (xs ++ ys)
NoLf-append xs ys h k = list_any-append (λ b. b == 10) xs ys ∙ or_from (has_lf xs) (has_lf ys) h k

pub NoLf-replicate : (n b : ℕ) → (b == 10) ≡ false → NoLf (replicate n b)
NoLf-replicate zero b h = refl
NoLf-replicate (suc n) b h = or_from (b == 10) (has_lf (replicate n b)) h (NoLf-replicate n b h)

pub NoLf-digits : (width n : ℕ) → NoLf (digits width n)
unfolding digits
NoLf-digits zero n = refl
NoLf-digits (suc width) n =
    let here : ((48 + n % 10) == 10) ≡ false = ne_eqb (48 + n % 10) 10 (omega arith) in
    NoLf-append (digits width (n / 10)) ((48 + n % 10) ∷ []) (NoLf-digits width (n / 10))
    (or_from ((48 + n % 10) == 10) false here refl)

-- a plain byte is no line feed
plain_byte : (b : ℕ) → (ltb b 256 && not (is_control b)) ≡ true → (b == 10) ≡ false
plain_byte b h = false_from_ne_true (b == 10) (λ e.
    let at : (ltb 10 256 && not (is_control 10)) ≡ true =
    subst (λ (x : ℕ). (ltb x 256 && not (is_control x)) ≡ true) (eqb-true b 10 e) h in
    true≢false (sym at))

pub NoLf-plain : (cell : List ℕ) → is_plain cell ≡ true → NoLf cell
NoLf-plain [] h = refl
NoLf-plain (b ∷ cell) h =
    let parts = and_parts (ltb b 256 && not (is_control b)) (is_plain cell) h in
    or_from (b == 10) (has_lf cell) (plain_byte b parts.0) (NoLf-plain cell parts.1)

NoLf-spaces : (cell : List ℕ) → is_spaces cell ≡ true → NoLf cell
NoLf-spaces [] h = refl
NoLf-spaces (b ∷ cell) h =
    let parts = and_parts (b == 32) (is_spaces cell) h in
    let here : b ≡ 32 = eqb-true b 32 parts.0 in
    or_from (b == 10) (has_lf cell) (ne_eqb b 10 (omega arith)) (NoLf-spaces cell parts.1)

-- what passes a test that each of some texts passes
among_all : (p : List ℕ → Bool) (list : List (List ℕ)) (x : List ℕ) (i : ℕ) → list_all p list ≡ true → i < length list
    → p (slice_index_or list i x) ≡ true
among_all p [] x i h k = absurd (omega arith)
among_all p (y ∷ list) x zero h k = (and_parts (p y) (list_all p list) h).0
among_all p (y ∷ list) x (suc i) h k = among_all p list x i (and_parts (p y) (list_all p list) h).1 (omega arith)

NoLf-among : (list : List (List ℕ)) (x : List ℕ) → list_all (λ c. not (has_lf c)) list ≡ true → IsAmong list x → NoLf x
NoLf-among list x h m =
    let there : not (has_lf (slice_index_or list m.0 x)) ≡ true = among_all (λ c. not (has_lf c)) list x m.0 h m.1.0 in
    subst NoLf (sym m.1.1) (not-true (has_lf (slice_index_or list m.0 x)) there)

no_code_has_lf : (table : Table) → list_all (λ c. not (has_lf c)) (codes_of table) ≡ true
no_code_has_lf tables.Sender = refl
no_code_has_lf tables.TransactionType = refl
no_code_has_lf tables.AgreementType = refl
no_code_has_lf tables.Role = refl
no_code_has_lf tables.Prior = refl
no_code_has_lf tables.PostTerm = refl
no_code_has_lf tables.Sales = refl
no_code_has_lf tables.Sign = refl
no_code_has_lf tables.Category = refl
no_code_has_lf tables.Version = refl
no_code_has_lf tables.Composite = refl
no_code_has_lf tables.Excerpt = refl
no_code_has_lf tables.Publisher = refl
no_code_has_lf tables.Designation = refl
no_code_has_lf tables.Title = refl
no_code_has_lf tables.Status = refl
no_code_has_lf tables.Message = refl
no_code_has_lf tables.Recording = refl
no_code_has_lf tables.Technique = refl

NoLf-code_of : (table : Table) (width : ℕ) (cell : List ℕ) → IsCodeOf (codes_of table) width cell → NoLf cell
NoLf-code_of table width cell c =
    subst NoLf (sym c.2) (NoLf-append c.0 (replicate (width - length c.0) 32)
    (NoLf-among (codes_of table) c.0 (no_code_has_lf table) c.1) (NoLf-replicate (width - length c.0) 32 refl))

NoLf-code : (table : Table) (cell : List ℕ) → SpellsCode table cell → NoLf cell
NoLf-code tables.Sender cell (inl c) = NoLf-code_of tables.Sender 2 cell c
NoLf-code tables.Sender cell (inr c) = subst NoLf (sym c.2) (NoLf-digits 2 c.0)
NoLf-code table cell c = NoLf-code_of table (code_width table) cell c

NoLf-day : (cell : List ℕ) → SpellsDay cell → NoLf cell
NoLf-day cell s =
    subst NoLf (sym s.5) (NoLf-append (digits 4 s.0 ++ digits 2 s.1) (digits 2 s.2)
    (NoLf-append (digits 4 s.0) (digits 2 s.1) (NoLf-digits 4 s.0) (NoLf-digits 2 s.1)) (NoLf-digits 2 s.2))

NoLf-time : (bound : ℕ) (cell : List ℕ) → SpellsTime bound cell → NoLf cell
NoLf-time bound cell s =
    subst NoLf (sym s.6) (NoLf-append (digits 2 s.0 ++ digits 2 s.1) (digits 2 s.2)
    (NoLf-append (digits 2 s.0) (digits 2 s.1) (NoLf-digits 2 s.0) (NoLf-digits 2 s.1)) (NoLf-digits 2 s.2))

NoLf-same : (n b : ℕ) (cell : List ℕ) → (b == 10) ≡ false → cell ≡ replicate n b → NoLf cell
NoLf-same n b cell h e = subst NoLf (sym e) (NoLf-replicate n b h)

NoLf-word : (word : Word) → NoLf (word_text word)
NoLf-word words.Edi = refl
NoLf-word words.Group = refl

pub NoLf-Allows : (ty : CellType) (cell : List ℕ) → Allows ty cell → NoLf cell
NoLf-Allows Text cell h = NoLf-plain cell h
NoLf-Allows Required cell h = NoLf-plain cell h.0
NoLf-Allows Number cell s = subst NoLf (sym s.3) (NoLf-digits (length cell) s.0)
NoLf-Allows OptNumber cell (inl h) = NoLf-spaces cell h
NoLf-Allows OptNumber cell (inr s) = subst NoLf (sym s.3) (NoLf-digits (length cell) s.0)
NoLf-Allows Date cell s = NoLf-day cell s
NoLf-Allows OptDate cell (inl e) = NoLf-same 8 32 cell refl e
NoLf-Allows OptDate cell (inr (inl e)) = NoLf-same 8 48 cell refl e
NoLf-Allows OptDate cell (inr (inr s)) = NoLf-day cell s
NoLf-Allows Time cell s = NoLf-time 24 cell s
NoLf-Allows OptTime cell (inl e) = NoLf-same 6 32 cell refl e
NoLf-Allows OptTime cell (inr s) = NoLf-time 24 cell s
NoLf-Allows OptDuration cell (inl e) = NoLf-same 6 32 cell refl e
NoLf-Allows OptDuration cell (inr s) = NoLf-time 100 cell s
NoLf-Allows Share cell (inl e) = NoLf-same 5 32 cell refl e
NoLf-Allows Share cell (inr s) = subst NoLf (sym s.2) (NoLf-digits 5 s.0)
NoLf-Allows Flag cell m = NoLf-among flag_texts cell refl m
NoLf-Allows (Code table) cell c = NoLf-code table cell c
NoLf-Allows (OptCode table) cell (inl e) = NoLf-same (code_width table) 32 cell refl e
NoLf-Allows (OptCode table) cell (inr c) = NoLf-code table cell c
NoLf-Allows (Constant word) cell e = subst NoLf (sym e) (NoLf-word word)
