-- An import is written to standard output where no file is named.
use Rattle.std.proofs.Common.{◌≡◌, ℕ, Bool, true, false, List, Option, None, Some, Bor, sym, subst}
use Rattle.std.specs.Prelude.{Result, Ok, Err, option_map}
use Rattle.std.specs.Option.{is_some}
use Rattle.cwr_json.specs.declared.encodings.Encoding.{Encoding}
use Rattle.cwr_shape.specs.declared.limits.Limits.{Limits}
use Rattle.cwr_words.specs.declared.words.WriteWords.{WriteWords}
use Rattle.cwr_files.specs.Format.Files.{Texts}
use Rattle.cwr_files.specs.Steps.Inputs.{IsLeftOf}
use Rattle.cwr_endings.specs.declared.endings.Status.{Status}
use Rattle.cwr_endings.specs.declared.endings.Status.TheVariants as statuses
use Rattle.cwr_endings.specs.declared.stops.Stop.{Stop}
use Rattle.cwr_transform.specs.Format.Imports.{HandsOnImport, WritesImport}
use Rattle.cwr.specs.Format.Endings.{import_of}
use Rattle.cwr.specs.Format.Tables.{encoding_of}
use Rattle.cwr.specs.Steps.Tells.{HandsOnWriting, TellsImport}
use Rattle.cwr.proofs.lemmas.Leaves.{import_at}

module _ {W : Type 0} (contents : W → Option (List ℕ)) (old new : W) (limits : Limits) (words : WriteWords) (held : Option Texts)
    (standard : Option (List ℕ)) where
  printed_so : (encoding : Encoding) (left : Option (List ℕ)) (ending : Result Status Stop) → encoding ≡ encoding_of words.utf8
      → IsLeftOf held standard (option_map (λ name. name.now) words.file) left
      → WritesImport (record { limits = limits; encoding = encoding; most = words.line }) left contents old new ending
      → TellsImport false (import_of limits words) held standard (option_map (λ name. name.now) words.file) contents old new ending
  printed_so encoding left (Ok statuses.Good) is opened h = (
    h.0,
    import_at limits words encoding held standard (option_map (λ name. name.now) words.file) left h.0 is opened h.1,
    h.2,
  )
  printed_so encoding left (Ok statuses.Refused) is opened h = tt
  printed_so encoding left (Ok statuses.CommandLine) is opened h = tt
  printed_so encoding left (Ok statuses.Fault) is opened h = tt
  printed_so encoding left (Err stop) is opened h = tt

  -- to standard output
  pub printed : (encoding : Encoding) (left : Option (List ℕ)) (other : Option Texts) (ending : Result Status Stop)
      → encoding ≡ encoding_of words.utf8 → words.out ≡ None → other ≡ held
      → IsLeftOf other standard (option_map (λ name. name.now) words.file) left
      → WritesImport (record { limits = limits; encoding = encoding; most = words.line }) left contents old new ending
      → TellsImport (is_some words.out) (import_of limits words) held standard (option_map (λ name. name.now) words.file) contents old new
      ending
  printed encoding left other ending is none kept opened h =
      subst (λ (o : Option (Bor (List ℕ))). TellsImport (is_some o) (import_of limits words) held standard
      (option_map (λ name. name.now) words.file) contents old new ending) (sym none)
      (printed_so encoding left ending is
      (subst (λ (texts : Option Texts). IsLeftOf texts standard (option_map (λ name. name.now) words.file) left) kept opened) h)

  filed_so : (ending : Result Status Stop)
      → TellsImport true (import_of limits words) held standard (option_map (λ name. name.now) words.file) contents old new ending
  filed_so (Ok statuses.Good) = tt
  filed_so (Ok statuses.Refused) = tt
  filed_so (Ok statuses.CommandLine) = tt
  filed_so (Ok statuses.Fault) = tt
  filed_so (Err stop) = tt

  -- to a file
  pub filed : (out : Bor (List ℕ)) (ending : Result Status Stop) → words.out ≡ Some out
      → TellsImport (is_some words.out) (import_of limits words) held standard (option_map (λ name. name.now) words.file) contents old new
      ending
  filed out ending is =
      subst (λ (o : Option (Bor (List ℕ))). TellsImport (is_some o) (import_of limits words) held standard
      (option_map (λ name. name.now) words.file) contents old new ending) (sym is) (filed_so ending)

-- ---- what is handed on

handed_so : (ending : Result Status Stop) (on : Bool) → HandsOnImport ending on → HandsOnWriting false ending on
handed_so (Ok statuses.Good) on h = h
handed_so (Ok statuses.Refused) on h = tt
handed_so (Ok statuses.CommandLine) on h = tt
handed_so (Ok statuses.Fault) on h = tt
handed_so (Err stop) on h = tt

pub handed : (out : Option (Bor (List ℕ))) (ending : Result Status Stop) (on : Bool) → out ≡ None → HandsOnImport ending on
    → HandsOnWriting (is_some out) ending on
handed out ending on none h =
    subst (λ (o : Option (Bor (List ℕ))). HandsOnWriting (is_some o) ending on) (sym none) (handed_so ending on h)

kept_so : (ending : Result Status Stop) (on : Bool) → HandsOnWriting true ending on
kept_so (Ok statuses.Good) on = tt
kept_so (Ok statuses.Refused) on = tt
kept_so (Ok statuses.CommandLine) on = tt
kept_so (Ok statuses.Fault) on = tt
kept_so (Err stop) on = tt

pub kept_in : (out : Option (Bor (List ℕ))) (name : Bor (List ℕ)) (ending : Result Status Stop) (on : Bool) → out ≡ Some name
    → HandsOnWriting (is_some out) ending on
kept_in out name ending on is = subst (λ (o : Option (Bor (List ℕ))). HandsOnWriting (is_some o) ending on) (sym is) (kept_so ending on)
