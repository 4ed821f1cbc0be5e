-- A run of a work ends as what it reads does.
use Rattle.std.proofs.Common.{◌≡◌, ℕ, ◌<◌, ◌-◌, List, length, Option, Some, ap, subst}
use Rattle.std.specs.Prelude.{◌^◌, Result, Ok, Err, IfOk, IfSome, option_map}
use Rattle.cwr_shape.specs.declared.limits.Limits.{Limits}
use Rattle.cwr_words.specs.declared.words.WriteWords.{WriteWords}
use Rattle.cwr_json.specs.declared.encodings.Encoding.{Encoding}
use Rattle.cwr_files.specs.declared.faults.Fault.TheVariants as faults
use Rattle.cwr_files.specs.Format.Files.{Texts}
use Rattle.cwr_files.specs.Steps.Inputs.{IsLeftOf}
use Rattle.cwr_files.proofs.lemmas.Reads.{if_read}
use Rattle.cwr_endings.specs.declared.endings.Status.{Status}
use Rattle.cwr_endings.specs.declared.endings.Wanted.{Wanted}
use Rattle.cwr_endings.specs.declared.stops.Stop.{Stop}
use Rattle.cwr_endings.specs.declared.stops.Stop.TheVariants as stops
use Rattle.cwr_endings.specs.Format.Endings.{IsStatusOn}
use Rattle.cwr_transform.specs.declared.imports.Import.{Import}
use Rattle.cwr_transform.specs.Format.Imports.{EndsAsFileImport, EndsAsImport, IsImportStatus}
use Rattle.cwr_transform.specs.Format.Splits.{EndsAsSplit}
use Rattle.cwr_transform.specs.declared.joins.Union.{Union}
use Rattle.cwr_transform.specs.Format.Joins.{EndsAsJoin, IsStatusOfJoin}
use Rattle.cwr.specs.Format.Endings.{EndsAsCut, EndsAsUnion, EndsAsWriting, import_of}
use Rattle.cwr.specs.Format.Tables.{encoding_of}

-- an import that ends so
pub writing_ends : (limits : Limits) (words : WriteWords) (import : Import) (held : Option Texts) (standard left : Option (List ℕ))
    (ending : Result Status Stop) → import ≡ import_of limits words
    → IsLeftOf held standard (option_map (λ name. name.now) words.file) left → EndsAsImport import left ending
    → EndsAsWriting limits words held standard ending
writing_ends limits words import held standard left (Err stop) is opened ends = tt
writing_ends limits words import held standard left (Ok status) is opened ends =
    if_read held standard (option_map (λ name. name.now) words.file) left
    (λ text. length text < 2 ^ 64 - 1 → IsImportStatus (import_of limits words) text status) opened
    (subst (λ (i : Import). IfSome left (λ text. length text < 2 ^ 64 - 1 → IsImportStatus i text status)) is ends)

pub file_writing_ends : (limits : Limits) (words : WriteWords) (import : Import) (held : Option Texts) (standard left : Option (List ℕ))
    (ending : Result Status Stop) → import ≡ import_of limits words
    → IsLeftOf held standard (option_map (λ name. name.now) words.file) left → EndsAsFileImport import left ending
    → EndsAsWriting limits words held standard ending
file_writing_ends limits words import held standard left (Err stop) is opened ends = tt
file_writing_ends limits words import held standard left (Ok status) is opened ends =
    writing_ends limits words import held standard left (Ok status) is opened ends

-- a split that ends so
pub cut_ends : (limits : Limits) (wanted given : Wanted) (held : Option Texts) (standard left : Option (List ℕ)) (name : List ℕ)
    (ending : Result Status Stop) → given ≡ wanted → IsLeftOf held standard (Some name) left → EndsAsSplit limits given left ending
    → EndsAsCut limits wanted held standard name ending
cut_ends limits wanted given held standard left name (Err stop) is opened ends = tt
cut_ends limits wanted given held standard left name (Ok status) is opened ends =
    if_read held standard (Some name) left (λ text. IsStatusOn limits wanted text status) opened
    (subst (λ (w : Wanted). IfSome left (λ text. IsStatusOn limits w text status)) is ends)

-- ---- an import in this encoding, of what was opened while the files stayed

import_with : (limits : Limits) (words : WriteWords) (encoding : Encoding) → Import
import_with limits words encoding = record { limits = limits; encoding = encoding; most = words.line }

opened_so : (held now : Option Texts) (standard name left : Option (List ℕ)) → now ≡ held → IsLeftOf now standard name left
    → IsLeftOf held standard name left
opened_so held now standard name left kept opened = subst (λ (h : Option Texts). IsLeftOf h standard name left) kept opened

pub output_written : (limits : Limits) (words : WriteWords) (encoding : Encoding) (held now : Option Texts) (standard left : Option (List ℕ))
    (ending : Result Status Stop) → encoding ≡ encoding_of words.utf8 → now ≡ held
    → IsLeftOf now standard (option_map (λ name. name.now) words.file) left
    → EndsAsImport (record { limits = limits; encoding = encoding; most = words.line }) left ending
    → EndsAsWriting limits words held standard ending
unfolding import_with
output_written limits words encoding held now standard left ending is kept opened ends =
    writing_ends limits words (import_with limits words encoding) held standard left ending (ap (import_with limits words) is)
    (opened_so held now standard (option_map (λ name. name.now) words.file) left kept opened) ends

pub file_written : (limits : Limits) (words : WriteWords) (encoding : Encoding) (held now : Option Texts) (standard left : Option (List ℕ))
    (ending : Result Status Stop) → encoding ≡ encoding_of words.utf8 → now ≡ held
    → IsLeftOf now standard (option_map (λ name. name.now) words.file) left
    → EndsAsFileImport (record { limits = limits; encoding = encoding; most = words.line }) left ending
    → EndsAsWriting limits words held standard ending
unfolding import_with
file_written limits words encoding held now standard left ending is kept opened ends =
    file_writing_ends limits words (import_with limits words encoding) held standard left ending (ap (import_with limits words) is)
    (opened_so held now standard (option_map (λ name. name.now) words.file) left kept opened) ends

-- ---- a join

pub union_ends : (union : Union) (n : ℕ) (limits : Limits) (wanted : Wanted) (held : Option Texts) (standard : Option (List ℕ))
    (names : List (List ℕ)) (ending : Result Status Stop) → EndsAsJoin union n ending
    → IfOk ending (IsStatusOfJoin limits wanted held standard names) → EndsAsUnion limits wanted held standard names ending
union_ends union n limits wanted held standard names (Ok status) ends h = h
union_ends union n limits wanted held standard names (Err stops.Output) ends h = tt
union_ends union n limits wanted held standard names (Err (stops.Fault (faults.Open of reason))) ends h = tt
union_ends union n limits wanted held standard names (Err (stops.Fault (faults.Read told))) ends h = tt
union_ends union n limits wanted held standard names (Err (stops.Fault (faults.Write told))) ends h = tt
union_ends union n limits wanted held standard names (Err (stops.Fault (faults.Output of reason))) ends h = tt
union_ends union n limits wanted held standard names (Err (stops.Fault (faults.IsInput of))) ends h = tt
union_ends union n limits wanted held standard names (Err (stops.Fault (faults.IsThere of))) ends h = tt
union_ends union n limits wanted held standard names (Err (stops.Fault (faults.IsTwice of))) ends h = absurd ends
union_ends union n limits wanted held standard names (Err (stops.Fault (faults.IsOther of))) ends h = tt
union_ends union n limits wanted held standard names (Err (stops.Fault (faults.IsLate of))) ends h = tt
union_ends union n limits wanted held standard names (Err (stops.Fault faults.Memory)) ends h = tt
