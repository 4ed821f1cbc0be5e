-- What a run leaves under names.
use Rattle.std.proofs.Common.{◌≡◌, ◌≢◌, ℕ, Bool, List, Option, Some, None, refl, ap, subst, inl, inr}
use Rattle.std.specs.Prelude.{◌⊎◌, Result, Ok, Err, IfSome, option_map}
use Rattle.clap.specs.declared.error.kind.ErrorKind.{ErrorKind}
use Rattle.clap.specs.declared.error.kind.ErrorKind.TheVariants as kinds
use Rattle.cwr_shape.specs.declared.limits.Limits.{Limits}
use Rattle.cwr_json.specs.declared.encodings.Encoding.{Encoding}
use Rattle.cwr_moments.specs.declared.moments.Moment.{Moment}
use Rattle.cwr_words.specs.declared.words.Task.{Task}
use Rattle.cwr_words.specs.declared.words.WriteWords.{WriteWords}
use Rattle.cwr_words.specs.declared.words.Work.{Work}
use Rattle.cwr_words.specs.declared.words.Work.TheVariants.{Check, Show, Explain, Lint, Advise, Json, Csv, Acks, Summary, Write, Split}
use Rattle.cwr_words.specs.declared.words.Work.TheVariants.{Join, Renumber, Select, Manual}
use Rattle.cwr_words.specs.Format.Words.{AskFor}
use Rattle.cwr_files.specs.declared.faults.Fault.TheVariants.{Memory}
use Rattle.cwr_files.specs.Format.Files.{Same, Texts, Turns}
use Rattle.cwr_files.specs.Steps.Inputs.{IsLeftOf}
use Rattle.cwr_files.proofs.lemmas.Outs.{leaves_same}
use Rattle.cwr_files.proofs.lemmas.Reads.{if_read}
use Rattle.cwr_endings.specs.declared.endings.Status.{Status}
use Rattle.cwr_endings.specs.declared.endings.Status.TheVariants as statuses
use Rattle.cwr_endings.specs.declared.stops.Stop.{Stop}
use Rattle.cwr_endings.specs.declared.stops.Stop.TheVariants as stops
use Rattle.cwr_endings.proofs.lemmas.Outs.{stays, turns_so}
use Rattle.cwr_transform.specs.declared.imports.Import.{Import}
use Rattle.cwr_transform.specs.Format.Imports.{IsImportOf}
use Rattle.cwr_transform.proofs.lemmas.SelectionsNamed.{stopped_same}
use Rattle.cwr.specs.Format.Endings.{import_of, status_code}
use Rattle.cwr_transform.specs.Format.Splits.{LeavesCut}
use Rattle.cwr.specs.Format.Files.{IsImportAt, LeavesCutOf, LeavesOut, LeavesWork}
use Rattle.cwr.specs.Format.Tables.{encoding_of}

-- ---- where there is no memory to begin it

out_unbegun : (out : Option (List ℕ)) (old now : ℕ) (is : List ℕ → Type 0) (texts new : Texts) → Same texts new
    → LeavesOut out old now is (Err (stops.Fault Memory)) texts new
out_unbegun None old now is texts new same = same
out_unbegun (Some out) old now is texts new same = leaves_same out old now texts new same

out_turns : (out : Option (List ℕ)) (old now : ℕ) (is : List ℕ → Type 0) (held : Option Texts)
    → Turns held held (LeavesOut out old now is (Err (stops.Fault Memory)))
out_turns out old now is held =
    turns_so held held Same (LeavesOut out old now is (Err (stops.Fault Memory)))
    (λ texts new same. out_unbegun out old now is texts new same) (stays held held refl)

pub unbegun_leaves : (limits : Limits) (whole : Bool) (work : Work) (held : Option Texts) (standard : Option (List ℕ)) (old now : ℕ)
    → LeavesWork limits whole work held standard old now (Err (stops.Fault Memory)) held
unbegun_leaves limits whole (Check judging) held standard old now = stays held held refl
unbegun_leaves limits whole (Explain judging) held standard old now = stays held held refl
unbegun_leaves limits whole (Show words) held standard old now = stays held held refl
unbegun_leaves limits whole (Lint words) held standard old now = stays held held refl
unbegun_leaves limits whole (Advise words) held standard old now = stays held held refl
unbegun_leaves limits whole (Json words) held standard old now =
    out_turns (option_map (λ name. name.now) words.out) old now _ held
unbegun_leaves limits whole (Csv words) held standard old now =
    out_turns (option_map (λ name. name.now) words.out) old now _ held
unbegun_leaves limits whole (Acks words) held standard old now = stays held held refl
unbegun_leaves limits whole (Summary words) held standard old now = stays held held refl
unbegun_leaves limits whole (Write words) held standard old now =
    out_turns (option_map (λ name. name.now) words.out) old now _ held
unbegun_leaves limits whole (Split words) held standard old now =
    turns_so held held Same _ (λ texts new same. inl same) (stays held held refl)
unbegun_leaves limits whole (Join words) held standard old now =
    turns_so held held Same _ (λ texts new same. leaves_same words.out.now old now texts new same) (stays held held refl)
unbegun_leaves limits whole (Renumber words) held standard old now = tt
unbegun_leaves limits whole (Select words) held standard old now =
    stopped_same (option_map (λ name. name.now) words.out) old now _ (stops.Fault Memory) held held (stays held held refl)
unbegun_leaves limits whole Manual held standard old now = stays held held refl

-- ---- an import of what was opened

import_some : (import : Import) (left : Option (List ℕ)) (text : List ℕ) → IsImportOf import left text
    → IfSome left (λ known. IsImportOf import (Some known) text)
import_some import None text h = tt
import_some import (Some known) text h = h

pub import_at : (limits : Limits) (words : WriteWords) (encoding : Encoding) (held : Option Texts) (standard name left : Option (List ℕ))
    (text : List ℕ) → encoding ≡ encoding_of words.utf8 → IsLeftOf held standard name left
    → IsImportOf (record { limits = limits; encoding = encoding; most = words.line }) left text
    → IsImportAt (import_of limits words) held standard name text
import_at limits words encoding held standard name left text is opened h =
    if_read held standard name left (λ known. IsImportOf (import_of limits words) (Some known) text) opened
    (import_some (import_of limits words) left text
    (subst (λ (e : Encoding). IsImportOf (record { limits = limits; encoding = e; most = words.line }) left text) is h))

-- ---- a split of what was opened

cut_some : (limits : Limits) (n : ℕ) (prefix : List ℕ) (created : Option Moment) (left : Option (List ℕ)) (old now : ℕ)
    (ending : Result Status Stop) (texts new : Texts) → LeavesCut limits n prefix created left old now ending texts new
    → IfSome left (λ known. LeavesCut limits n prefix created (Some known) old now ending texts new)
cut_some limits n prefix created None old now ending texts new h = tt
cut_some limits n prefix created (Some known) old now ending texts new h = h

pub cut_at : (limits : Limits) (n : ℕ) (prefix : List ℕ) (created : Option Moment) (held : Option Texts) (standard : Option (List ℕ))
    (name : List ℕ) (left : Option (List ℕ)) (old now : ℕ) (ending : Result Status Stop) (texts new : Texts)
    → IsLeftOf held standard (Some name) left → LeavesCut limits n prefix created left old now ending texts new
    → LeavesCutOf limits n prefix created held standard name old now ending texts new
cut_at limits n prefix created held standard name left old now (Ok status) texts new opened h =
    if_read held standard (Some name) left (λ known. LeavesCut limits n prefix created (Some known) old now (Ok status) texts new) opened
    (cut_some limits n prefix created left old now (Ok status) texts new h)
cut_at limits n prefix created held standard name left old now (Err stop) texts new opened h =
    inr (if_read held standard (Some name) left
    (λ known. LeavesCut limits n prefix created (Some known) old now (Err stop) texts new) opened
    (cut_some limits n prefix created left old now (Err stop) texts new h))

-- ---- words that are refused

pub refused_code : (words : List (List ℕ)) (kind : ErrorKind) (status : Status) → (kind ≡ kinds.OutOfMemory → status ≡ statuses.Fault)
    → (kind ≢ kinds.OutOfMemory → status ≡ statuses.CommandLine) → ((task : Task) → AskFor words task → kind ≡ kinds.OutOfMemory)
    → ((status_code status ≡ 2) × ((task : Task) → AskFor words task → ⊥)) ⊎ (status_code status ≡ 3)
refused_code words kinds.OutOfMemory status memory other asks = inr (ap status_code (memory refl))
refused_code words kind status memory other asks =
    let another : kind ≢ kinds.OutOfMemory = λ e. cc in
    inl (ap status_code (other another), λ task h. another (asks task h))
