-- Which records may come, in words.
use Rattle.std.specs.Prelude.{ℕ, Bool, true, false, not, ◌||◌, List, [], ◌∷◌, ◌++◌, codes, if◌then◌else◌}
use Rattle.std.specs.List.{concat, list_any}
use Rattle.cwr_fields.specs.Format.Codes.{role_code, type_code}
use Rattle.cwr_fields.specs.Format.Kinds.{is_carried, letters}
use Rattle.cwr_shape.specs.declared.symbols.Symbol.{Symbol}
use Rattle.cwr_shape.specs.declared.symbols.Symbol.TheVariants.{Plain, Ipa, Grh}
use Rattle.cwr_causes.specs.Format.Texts.{label_words}

-- a symbol as an order of records names it
abbrev pub symbol_words : Symbol → List ℕ
symbol_words (Plain this_kind) = letters this_kind
symbol_words (Ipa role) = codes "IPA of role " ++ role_code role
symbol_words (Grh ty) = codes "GRH of type " ++ type_code ty

-- the symbol is that of a record that is carried as text
abbrev pub is_carried_symbol : Symbol → Bool
is_carried_symbol (Plain this_kind) = is_carried this_kind
is_carried_symbol (Ipa role) = false
is_carried_symbol (Grh ty) = false

-- it is one of those that are asked for: of those that are carried as text, or of the others
abbrev pub is_listed : Bool → Symbol → Bool
is_listed carried symbol = if carried then is_carried_symbol symbol else not (is_carried_symbol symbol)

-- what stands before a symbol where another one stands before that
abbrev pub separator : Bool → List ℕ
separator follows = if follows then codes ", " else []

-- a symbol, if it is listed
abbrev pub one_listed : Bool → Bool → Symbol → List ℕ
one_listed listed follows symbol = if listed then separator follows ++ symbol_words symbol else []

-- those of the symbols that are asked for, with commas between them, where one stands before them or none does
unfoldable pub listed_symbols : Bool → Bool → List Symbol → List ℕ
listed_symbols carried follows [] = []
listed_symbols carried follows (symbol ∷ rest) =
    one_listed (is_listed carried symbol) follows symbol ++ listed_symbols carried (follows || is_listed carried symbol) rest

-- the same as the rest of a line
unfoldable pub symbols_words : Bool → List Symbol → List ℕ
symbols_words carried symbols = listed_symbols carried false symbols ++ codes "\n"

-- those that are carried as text, on a line of their own
unfoldable pub carried_line : List Symbol → List ℕ
carried_line symbols = (label_words (codes "") ++ codes "or, carried as text, ") ++ symbols_words true symbols

-- the same, if there are some
abbrev pub carried_words : List Symbol → List ℕ
carried_words symbols = if list_any is_carried_symbol symbols then carried_line symbols else []

-- the lines that say which records may come, where these are their symbols
unfoldable pub coming_words : List Symbol → List ℕ
coming_words symbols = concat (label_words (codes "expected") ∷ symbols_words false symbols ∷ carried_words symbols ∷ [])
