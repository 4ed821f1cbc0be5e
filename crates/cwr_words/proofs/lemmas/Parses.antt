-- What a parse finds, in rows.
use Rattle.std.proofs.Common.{◌≡◌, ℕ, List, [], false, Option, Some, None, Result, Ok, Err, IfErr, IfOk, inl, inr, refl, subst}
use Rattle.std.specs.Prelude.{MatchResult, is_some, option_map}
use Rattle.clap.proofs.WalkLemmas.{first_value-rows, one_text-rows, raw_values-rows}
use Rattle.clap.specs.Words.{FailsBy, IsAmong, Kinds, Row, has_subcommand, kind_of, rows_of, subcommand_name_of, subcommand_rows_of}
use Rattle.clap.specs.declared.error.Error.{Error}
use Rattle.clap.specs.declared.error.kind.ErrorKind.TheVariants as kind
use Rattle.clap.specs.declared.parser.matches.ArgMatches.{ArgMatches}
use Rattle.clap.specs.declared.parser.matches.Found.{Found}
use Rattle.cwr_words.specs.Format.Words.{given_in}
use Rattle.cwr_words.specs.Steps.Matches.{given_by}

-- what was found gives what its rows give
pub by_rows : (found : Found) → given_by found ≡ given_in (rows_of found)
by_rows found = λ i. record {
  first = λ id. first_value-rows found id i;
  read = λ id. one_text-rows found id i;
  all = λ id. raw_values-rows found id i;
}

abbrev parsed : {B : Type 0} → (B → List ℕ) → (B → List Row) → B → List ℕ × List Row
parsed name rows b = (name b, rows b)

named : {B : Type 0} (name : B → List ℕ) (rows : B → List Row) (o : Option B) (n : List ℕ) (r : List Row) → Some n ≡ option_map name o
    → Some r ≡ option_map (λ (p : List ℕ × List Row). p.1) (option_map (parsed name rows) o) → option_map (parsed name rows) o ≡ Some (n, r)
named name rows None n r e h = cc
named name rows (Some b) n r e h = cc

-- the subcommand that was met, by its name and its rows
pub subcommand_met : (m : ArgMatches) (name : List ℕ) (rows : List Row) → Some name ≡ subcommand_name_of m
    → Some rows ≡ option_map (λ (p : List ℕ × List Row). p.1) (subcommand_rows_of m) → subcommand_rows_of m ≡ Some (name, rows)
subcommand_met m name rows e h = named _ _ _ name rows e h

unnamed : {B : Type 0} (name : B → List ℕ) (rows : B → List Row) (o : Option B) → false ≡ is_some o → option_map (parsed name rows) o ≡ None
unnamed name rows None e = refl
unnamed name rows (Some b) e = cc

pub none_met : (m : ArgMatches) → false ≡ has_subcommand m → subcommand_rows_of m ≡ None
none_met m e = unnamed _ _ _ e

-- what holds where a parse was taken
pub where_taken : {A E : Type 0} (r : Result A E) (P : A → Type 0) (Q : E → Type 0) → MatchResult r P Q → IfOk r P
where_taken (Ok a) P Q h = h
where_taken (Err e) P Q h = tt

-- where no fault is found, memory was lacking
pub where_refused : {A : Type 0} (r : Result A Error) (kinds : Kinds) → FailsBy kinds r
    → IfErr r (λ e. kinds ≡ [] → kind_of e ≡ kind.OutOfMemory)
where_refused (Ok a) kinds h = tt
where_refused (Err e) kinds (inl memory) = λ none. memory
where_refused (Err e) kinds (inr among) = λ none. absurd (subst (IsAmong (kind_of e)) none among)
