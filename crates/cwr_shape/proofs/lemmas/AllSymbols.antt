-- Every symbol stands in one list, so what the check computes of each of them holds of any.
use Rattle.std.proofs.Common.{◌≡◌, Bool, true, List, ◌∷◌, map, refl, sym, subst}
use Rattle.std.specs.List.{list_all}
use Rattle.cwr_fields.specs.declared.codes.Role.TheVariants.{Assignor, Acquirer}
use Rattle.cwr_fields.specs.declared.codes.TransactionType.TheVariants.{Agreement, NewWork, RevisedWork, Acknowledgement}
use Rattle.cwr_fields.specs.declared.kinds.Kind.TheVariants.{Hdr}
use Rattle.cwr_fields.specs.Format.Kinds.{all_kinds}
use Rattle.cwr_shape.specs.declared.symbols.Symbol.{Symbol}
use Rattle.cwr_shape.specs.declared.symbols.Symbol.TheVariants.{Plain, Ipa, Grh}
use Rattle.cwr_shape.proofs.lemmas.Matcher.{has, has_among}
use Rattle.cwr_shape.proofs.lemmas.PrefixFree.{among_passes}

-- every symbol
abbrev pub all_symbols : List Symbol
all_symbols =
    Ipa Assignor ∷ Ipa Acquirer ∷ Grh Agreement ∷ Grh NewWork ∷ Grh RevisedWork ∷ Grh Acknowledgement ∷ map Plain all_kinds

is_there : (s : Symbol) → has s all_symbols ≡ true
is_there (Ipa Assignor) = refl
is_there (Ipa _) = refl
is_there (Grh Agreement) = refl
is_there (Grh _) = refl
is_there (Plain Hdr) = refl
is_there (Plain _) = refl

-- a test of every symbol is one of each
pub of_each : (test : Symbol → Bool) (s : Symbol) → list_all test all_symbols ≡ true → test s ≡ true
of_each test s h =
    let found = has_among s all_symbols (is_there s) in
    subst (λ (t : Symbol). test t ≡ true) (sym found.1.1) (among_passes test all_symbols s found.0 h found.1.0)
