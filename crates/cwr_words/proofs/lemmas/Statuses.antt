-- Statuses by their codes.
use Rattle.std.proofs.Common.{◌≡◌, ◌<◌, ◌+◌, ◌++◌, ℕ, zero, suc, true, false, List, [], ◌∷◌, Option, Some, None, Bor, ap, arith, length, map, refl, subst, sym, take, drop, ◌∙◌}
use Rattle.std.specs.Prelude.{◌↔◌, IfSome, IsSome, fold}
use Rattle.std.proofs.Math.Seq.{drop-append_seam, take-append_seam}
use Rattle.std.proofs.lemmas.List.{append-nil, append_assoc, drop-map, map-append, take-append-drop, take-map}
use Rattle.std.proofs.lemmas.List.Sums.{fold_more}
use Rattle.std.specs.List.{slice_index_or}
use Rattle.cwr_states.specs.Format.StateSets.{names_in}
use Rattle.cwr_words.specs.Format.Words.{IsAnswer, codes_in}
use Rattle.cwr_fields.specs.declared.cell_types.CellType.TheVariants.{Code}
use Rattle.cwr_fields.specs.declared.tables.Table.TheVariants as tables
use Rattle.cwr_fields.specs.Format.Cells.{Allows}
use Rattle.cwr_fields.specs.Format.Members.{member_with}
use Rattle.cwr_fields.specs.Format.MemberLaws.{cell_is_code}
use Rattle.cwr_fields.specs.declared.message_codes.TransactionStatus.{TransactionStatus}
use Rattle.cwr_fields.specs.declared.message_codes.TransactionStatus.TheVariants as status
use Rattle.cwr_fields.specs.Format.Bytes.{filled}
use Rattle.cwr_fields.specs.Format.MessageCodes.{status_code, transaction_statuses}

-- a code is as wide as its cells
pub filled_code : (s : TransactionStatus) → filled 2 (status_code s) ≡ status_code s
filled_code status.Conflict = refl
filled_code status.Duplicate = refl
filled_code status.TransactionAccepted = refl
filled_code status.RegistrationAccepted = refl
filled_code status.AcceptedWithChanges = refl
filled_code status.ReadyForPayment = refl
filled_code status.ChangedReadyForPayment = refl
filled_code status.Rejected = refl
filled_code status.NoParticipation = refl
filled_code status.ClaimRejected = refl

code_width : (s : TransactionStatus) → length (status_code s) ≡ 2
code_width status.Conflict = refl
code_width s = refl

found_code : (s : TransactionStatus) → member_with status_code transaction_statuses 2 (filled 2 (status_code s)) ≡ Some s
found_code status.Conflict = refl
found_code s = refl

-- and is a cell of the table
abbrev IsCell : List ℕ → Type 0
IsCell text = (length text ≡ 2) × Allows (Code tables.Status) text

fits_code : (s : TransactionStatus) → IsCell (status_code s)
fits_code s =
    (code_width s, subst (Allows (Code tables.Status)) (filled_code s) (cell_is_code status_code transaction_statuses 2 s (found_code s)))

-- so the status that a cell holds has that code, and where it holds none no status has it
pub coded : (o : Option TransactionStatus) (cell code : List ℕ) → cell ≡ code → IsSome o ↔ IsCell cell
    → IfSome o (λ s. filled 2 (status_code s) ≡ cell) → IsAnswer (λ s. status_code s ≡ code) o
coded None cell code same some h = λ s e.
    let there : false ≡ true = some.1 (subst IsCell (e ∙ sym same) (fits_code s)) in cc
coded (Some s) cell code same some h = sym (filled_code s) ∙ h ∙ same

fold_of_map : {X Y Z : Type 0} (f : Z → Y → Z) (g : X → Y) (z : Z) (xs : List X) → fold f z (map g xs) ≡ fold (λ seen x. f seen (g x)) z xs
fold_of_map f g z [] = refl
fold_of_map f g z (x ∷ xs) = fold_of_map f g (f z (g x)) xs

-- the codes of one more text
pub more_codes : (texts : List (Bor (List ℕ))) (i : ℕ) (d : Bor (List ℕ)) → i < length texts
    → codes_in (map (λ text. text.now) (take (i + 1) texts))
    ≡ codes_in (map (λ text. text.now) (take i texts)) ++ names_in (slice_index_or texts i d).now
more_codes texts i d within =
    let f : List (List ℕ) → List ℕ → List (List ℕ) = λ seen text. seen ++ names_in text in
    fold_of_map f (λ (text : Bor (List ℕ)). text.now) [] (take (i + 1) texts)
    ∙ fold_more (λ (seen : List (List ℕ)) (text : Bor (List ℕ)). seen ++ names_in text.now) [] texts i d within
    ∙ ap (λ (seen : List (List ℕ)). seen ++ names_in (slice_index_or texts i d).now)
    (sym (fold_of_map f (λ (text : Bor (List ℕ)). text.now) [] (take i texts)))

-- ---- where a text is no status's code, no statuses have the codes

-- statuses with these codes have one for each
coded_at : (all : List TransactionStatus) (codes : List (Bor (List ℕ))) (n : ℕ) (d : Bor (List ℕ))
    → map status_code all ≡ map (λ code. code.now) codes → n < length codes
    → (s : TransactionStatus) × (status_code s ≡ (slice_index_or codes n d).now)
coded_at [] [] n d e within = absurd (omega (arith, within))
coded_at [] (code ∷ codes) n d e within = absurd (cc e)
coded_at (s ∷ all) [] n d e within = absurd (omega (arith, within))
coded_at (s ∷ all) (code ∷ codes) zero d e within = let first : status_code s ≡ code.now = cc in (s, first)
coded_at (s ∷ all) (code ∷ codes) (suc n) d e within =
    let rest : map status_code all ≡ map (λ code. code.now) codes = cc in coded_at all codes n d rest (omega (arith, within))

-- so there are none where one of the codes after others is none's
pub uncoded : (before : List (List ℕ)) (codes : List (Bor (List ℕ))) (n : ℕ) (d : Bor (List ℕ)) (all : List TransactionStatus)
    → n < length codes → ((s : TransactionStatus) → status_code s ≡ (slice_index_or codes n d).now → ⊥)
    → map status_code all ≡ before ++ map (λ code. code.now) codes → ⊥
uncoded before codes n d all within none e =
    let last : map status_code (drop (length before) all) ≡ map (λ code. code.now) codes =
    sym (drop-map status_code (length before) all) ∙ ap (drop (length before)) e ∙ drop-append_seam before (map (λ code. code.now) codes) in
    let s = coded_at (drop (length before) all) codes n d last within in none s.0 s.1

-- the codes of more texts are more codes
codes_after : (seen : List (List ℕ)) (texts : List (List ℕ)) → fold (λ seen text. seen ++ names_in text) seen texts ≡ seen ++ codes_in texts
codes_after seen [] = sym (append-nil seen)
codes_after seen (text ∷ texts) =
    codes_after (seen ++ names_in text) texts ∙ append_assoc seen (names_in text) (codes_in texts)
    ∙ ap (λ (after : List (List ℕ)). seen ++ after) (sym (codes_after (names_in text) texts))

pub codes_append : (xs ys : List (List ℕ)) → codes_in (xs ++ ys) ≡ codes_in xs ++ codes_in ys
codes_append [] ys = refl
codes_append (x ∷ xs) ys =
    codes_after (names_in x) (xs ++ ys) ∙ ap (λ (after : List (List ℕ)). names_in x ++ after) (codes_append xs ys)
    ∙ sym (append_assoc (names_in x) (codes_in xs) (codes_in ys))
    ∙ ap (λ (front : List (List ℕ)). front ++ codes_in ys) (sym (codes_after (names_in x) xs))

-- and where those of some texts are none's, those of all are
pub uncoded_texts : (texts : List (Bor (List ℕ))) (i : ℕ) (d : Bor (List ℕ)) → i < length texts
    → ((all : List TransactionStatus) → map status_code all
    ≡ codes_in (map (λ text. text.now) (take i texts)) ++ names_in (slice_index_or texts i d).now → ⊥)
    → (all : List TransactionStatus) → map status_code all ≡ codes_in (map (λ text. text.now) texts) → ⊥
uncoded_texts texts i d within none all e =
    let front = codes_in (map (λ (text : Bor (List ℕ)). text.now) (take (i + 1) texts)) in
    let rest = codes_in (map (λ (text : Bor (List ℕ)). text.now) (drop (i + 1) texts)) in
    let parts : codes_in (map (λ (text : Bor (List ℕ)). text.now) texts) ≡ front ++ rest =
    ap (λ (xs : List (Bor (List ℕ))). codes_in (map (λ text. text.now) xs)) (sym (take-append-drop (i + 1) texts))
    ∙ ap codes_in (map-append (λ (text : Bor (List ℕ)). text.now) (take (i + 1) texts) (drop (i + 1) texts))
    ∙ codes_append (map (λ text. text.now) (take (i + 1) texts)) (map (λ text. text.now) (drop (i + 1) texts)) in
    none (take (length front) all)
    (sym (take-map status_code (length front) all) ∙ ap (take (length front)) (e ∙ parts) ∙ take-append_seam front rest ∙ more_codes texts i d within)
