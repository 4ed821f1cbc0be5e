-- Symbols are listed one by one.
use Rattle.std.proofs.Common.{◌≡◌, ℕ, ◌+◌, ◌<◌, ◌≤◌, ◌||◌, Bool, true, false, List, ◌∷◌, ◌++◌, sym, ap, ◌∙◌, refl, append_assoc, append-nil}
use Rattle.std.proofs.Common.{add-one, drop, drop-cons, get_or, length, codes}
use Rattle.std.proofs.lemmas.List.{drop_all}
use Rattle.cwr_shape.specs.declared.symbols.Symbol.{Symbol}
use Rattle.cwr_causes.specs.Format.ComingTexts.{is_listed, listed_symbols, one_listed, symbols_words}
use Rattle.cwr_causes.specs.Format.MisplacedTexts.{alternatives_after, one_alternative}

-- the words of one symbol, and of those behind it
listed_cons : (carried follows : Bool) (symbol : Symbol) (rest : List Symbol)
    → listed_symbols carried follows (symbol ∷ rest)
    ≡ one_listed (is_listed carried symbol) follows symbol
    ++ listed_symbols carried (follows || is_listed carried symbol) rest
unfolding listed_symbols
listed_cons carried follows symbol rest = refl

-- with the words of one symbol, and those of the symbols behind it, stand the words of them all
pub listed_on : (carried follows next : Bool) (d : Symbol) (xs : List Symbol) (i : ℕ) (old new : List ℕ) → i < length xs
    → new ≡ old ++ one_listed (is_listed carried (get_or xs i d)) follows (get_or xs i d)
    → next ≡ (follows || is_listed carried (get_or xs i d))
    → new ++ listed_symbols carried next (drop (i + 1) xs) ≡ old ++ listed_symbols carried follows (drop i xs)
listed_on carried follows next d xs i old new h e f =
    let at : drop i xs ≡ get_or xs i d ∷ drop (i + 1) xs =
    drop-cons xs i d h ∙ ap (λ (k : ℕ). get_or xs i d ∷ drop k xs) (sym (add-one i)) in
    ap (λ ys. ys ++ listed_symbols carried next (drop (i + 1) xs)) e
    ∙ ap
    (λ (b : Bool).
    (old ++ one_listed (is_listed carried (get_or xs i d)) follows (get_or xs i d)) ++ listed_symbols carried b (drop (i + 1) xs)) f
    ∙ append_assoc old _ _
    ∙ ap (λ ys. old ++ ys) (sym (listed_cons carried follows (get_or xs i d) (drop (i + 1) xs)))
    ∙ ap (λ (ys : List Symbol). old ++ listed_symbols carried follows ys) (sym at)

-- behind the last one nothing stands but the line's end
pub listed_all : (carried follows : Bool) (xs : List Symbol) (i : ℕ) (old text new : List ℕ) → length xs ≤ i
    → text ++ listed_symbols carried follows (drop i xs) ≡ old ++ listed_symbols carried false xs → new ≡ text ++ codes "\n"
    → new ≡ old ++ symbols_words carried xs
unfolding listed_symbols symbols_words
listed_all carried follows xs i old text new h e f =
    f
    ∙ ap (λ ys. ys ++ codes "\n")
    (sym (append-nil text) ∙ ap (λ (ys : List Symbol). text ++ listed_symbols carried follows ys) (sym (drop_all i xs h)) ∙ e)
    ∙ append_assoc old _ _

-- so stand those of symbols of which one is meant
pub alternatives_on : (follows : Bool) (d : Symbol) (xs : List Symbol) (i : ℕ) (old new : List ℕ) → i < length xs
    → new ≡ old ++ one_alternative follows (get_or xs i d)
    → new ++ alternatives_after true (drop (i + 1) xs) ≡ old ++ alternatives_after follows (drop i xs)
unfolding alternatives_after
alternatives_on follows d xs i old new h e =
    let at : drop i xs ≡ get_or xs i d ∷ drop (i + 1) xs =
    drop-cons xs i d h ∙ ap (λ (k : ℕ). get_or xs i d ∷ drop k xs) (sym (add-one i)) in
    ap (λ ys. ys ++ alternatives_after true (drop (i + 1) xs)) e
    ∙ append_assoc old _ _
    ∙ ap (λ (ys : List Symbol). old ++ alternatives_after follows ys) (sym at)

-- behind the last one of these nothing stands
pub alternatives_all : (follows : Bool) (xs : List Symbol) (i : ℕ) (old text : List ℕ) → length xs ≤ i
    → text ++ alternatives_after follows (drop i xs) ≡ old ++ alternatives_after false xs
    → text ≡ old ++ alternatives_after false xs
unfolding alternatives_after
alternatives_all follows xs i old text h e =
    sym (append-nil text) ∙ ap (λ (ys : List Symbol). text ++ alternatives_after follows ys) (sym (drop_all i xs h)) ∙ e
