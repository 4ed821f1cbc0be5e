-- A run ends as it may where there is no memory to begin it.
use Rattle.std.proofs.Common.{Bool, true, false, List, [], ◌∷◌, ℕ, Option, Some, None, map}
use Rattle.std.specs.Prelude.{Err, option_map}
use Rattle.std.specs.Option.{is_some}
use Rattle.cwr_shape.specs.declared.limits.Limits.{Limits}
use Rattle.cwr_states.specs.declared.state_sets.States.{States}
use Rattle.cwr_words.specs.declared.words.Work.{Work}
use Rattle.cwr_words.specs.declared.words.Work.TheVariants.{Check, Show, Explain, Lint, Advise, Json, Csv, Acks, Summary, Write, Split}
use Rattle.cwr_words.specs.declared.words.Work.TheVariants.{Join, Renumber, Select, Manual}
use Rattle.cwr_files.specs.declared.faults.Fault.TheVariants.{Memory}
use Rattle.cwr_files.specs.Format.Files.{Texts}
use Rattle.cwr_endings.specs.declared.endings.Wanted.{Wanted}
use Rattle.cwr_endings.specs.declared.stops.Stop.TheVariants as stops
use Rattle.cwr.specs.Format.Endings.{EndsAsAnswers, EndsAsData, EndsOnFiles, EndsOnWork}
use Rattle.cwr.proofs.lemmas.ApartNamed.{stopped_apart}

of_files : (advice : Option (Bool × ℕ)) (limits : Limits) (wanted : Wanted) (held : Option Texts) (standard : Option (List ℕ))
    (names : List (List ℕ)) → EndsOnFiles advice limits wanted held standard names (Err (stops.Fault Memory))
of_files advice limits wanted held standard [] = tt
of_files advice limits wanted held standard (name ∷ []) = tt
of_files advice limits wanted held standard (name ∷ other ∷ names) = tt

of_data : (limits : Limits) (wanted : Wanted) (held : Option Texts) (standard name : Option (List ℕ)) (to_file : Bool)
    → EndsAsData None limits wanted held standard name to_file (Err (stops.Fault Memory))
of_data limits wanted held standard name false = tt
of_data limits wanted held standard name true = tt

of_answers : (limits : Limits) (whole by_place : Bool) (fail_on : States) (held : Option Texts) (standard : Option (List ℕ)) (names sent : List (List ℕ))
    → EndsAsAnswers limits whole by_place fail_on held standard names sent (Err (stops.Fault Memory))
of_answers limits whole by_place fail_on held standard [] [] = tt
of_answers limits whole by_place fail_on held standard (name ∷ []) [] = tt
of_answers limits whole by_place fail_on held standard (name ∷ other ∷ names) [] = tt
of_answers limits whole by_place fail_on held standard [] (one ∷ sent) = tt
of_answers limits whole by_place fail_on held standard (name ∷ []) (one ∷ sent) = tt
of_answers limits whole by_place fail_on held standard (name ∷ other ∷ names) (one ∷ sent) = tt

pub unbegun : (limits : Limits) (whole : Bool) (work : Work) (held : Option Texts) (standard : Option (List ℕ))
    → EndsOnWork limits whole work held standard (Err (stops.Fault Memory))
unbegun limits whole (Check judging) held standard =
    of_files None limits (record { whole = whole; fail_on = judging.fail_on }) held standard (map (λ name. name.now) judging.files.items)
unbegun limits whole (Explain judging) held standard =
    of_files None limits (record { whole = whole; fail_on = judging.fail_on }) held standard (map (λ name. name.now) judging.files.items)
unbegun limits whole (Show words) held standard = tt
unbegun limits whole (Lint words) held standard =
    of_files None limits (record { whole = whole; fail_on = None }) held standard (map (λ name. name.now) words.files.items)
unbegun limits whole (Advise words) held standard =
    of_files (Some (words.all, words.repeated)) limits (record { whole = whole; fail_on = words.judging.fail_on }) held standard
    (map (λ name. name.now) words.judging.files.items)
unbegun limits whole (Json words) held standard =
    of_data limits (record { whole = whole; fail_on = None }) held standard (option_map (λ name. name.now) words.file) (is_some words.out)
unbegun limits whole (Csv words) held standard =
    of_data limits (record { whole = whole; fail_on = None }) held standard (option_map (λ name. name.now) words.file) (is_some words.out)
unbegun limits whole (Acks words) held standard =
    of_answers limits whole words.by_place words.fail_on held standard (map (λ name. name.now) words.files.items) (map (λ name. name.now) words.sent.items)
unbegun limits whole (Summary words) held standard = tt
unbegun limits whole (Write words) held standard = tt
unbegun limits whole (Split words) held standard = tt
unbegun limits whole (Join words) held standard = tt
unbegun limits whole (Renumber words) held standard = tt
unbegun limits whole (Select words) held standard = (tt, tt, stopped_apart limits whole words held (stops.Fault Memory))
unbegun limits whole Manual held standard = tt
