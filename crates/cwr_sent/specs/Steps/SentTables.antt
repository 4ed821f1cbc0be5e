-- The table of what was sent, as items fill it, and as an answer changes it.
use Rattle.std.specs.Prelude.{ℕ, Bool, false, ◌&&◌, nat_lt, List, [], ◌∷◌, ◌++◌, fold, length, Option, Some, None, option_map, slice_get}
use Rattle.std.specs.Prelude.{slice_set, unwrap_or, if◌then◌else◌}
use Rattle.std.specs.List.{list_any}
use Rattle.cwr_values.specs.declared.items.Item.{Item}
use Rattle.cwr_values.specs.declared.items.Item.TheVariants.{Opened, Transaction, GroupClosed}
use Rattle.cwr_sent.specs.declared.answers.AnsweringFile.{AnsweringFile}
use Rattle.cwr_sent.specs.declared.answers.KeptAnswer.{KeptAnswer}
use Rattle.cwr_sent.specs.declared.created.Created.{Created}
use Rattle.cwr_sent.specs.declared.tables.Sent.{Sent}
use Rattle.cwr_sent.specs.Format.SentFacts.{created_never, created_of, facts_of}
use Rattle.cwr_sent.specs.Format.GroupRows.{GroupRows, fresh}
use Rattle.cwr_sent.specs.Format.SentRows.{SentShown, shown_in}
use Rattle.cwr_sent.specs.Steps.Links.{is_same, with_kept}

-- ---- filled by items

-- when it was created, closed groups, and the facts of the open one
pub record Filled : Type 0 where
  pub created : Created
  pub closed : List GroupRows
  pub open_one : GroupRows

-- what a table has
abbrev pub filled_in : Sent → Filled
filled_in sent = record { created = sent.created; closed = (shown_in sent).groups; open_one = sent.pending }

abbrev pub nothing_filled : Filled
nothing_filled = record { created = created_never; closed = []; open_one = fresh [] }

-- with one item more
abbrev pub filled_with : Filled → Item → Filled
filled_with f (Opened r) = record f { created = created_of r }
filled_with f (Transaction t) = record f { open_one = fresh (f.open_one.facts ++ facts_of t ∷ []) }
filled_with f (GroupClosed r) = record f { closed = f.closed ++ f.open_one ∷ []; open_one = fresh [] }
filled_with f item = f

-- after these items
abbrev pub filled_after : List Item → Filled
filled_after items = fold filled_with nothing_filled items

-- ---- changed by answers

abbrev pub kept_in : List AnsweringFile → ℕ → KeptAnswer → GroupRows → GroupRows
kept_in files t new g =
    if nat_lt t (length g.facts) then record g { answers = with_kept files t new g.answers } else g

abbrev pub kept_in_one : List AnsweringFile → ℕ → ℕ → KeptAnswer → List GroupRows → Option GroupRows → List GroupRows
kept_in_one files g t new groups None = groups
kept_in_one files g t new groups (Some group) = slice_set groups g (kept_in files t new group)

-- with an answer more to transaction t of group g, both from 0
abbrev pub kept_at : List AnsweringFile → ℕ → ℕ → KeptAnswer → List GroupRows → List GroupRows
kept_at files g t new groups = kept_in_one files g t new groups (slice_get groups g)

abbrev pub kept_shown : List AnsweringFile → ℕ → ℕ → KeptAnswer → SentShown → SentShown
kept_shown files g t new shown = record shown { groups = kept_at files g t new shown.groups }

-- there is one by the same sender
abbrev pub is_again_in : List AnsweringFile → ℕ → KeptAnswer → GroupRows → Bool
is_again_in files t new g = nat_lt t (length g.facts) && list_any (is_same files t new) g.answers

abbrev pub is_again_at : List AnsweringFile → ℕ → ℕ → KeptAnswer → List GroupRows → Bool
is_again_at files g t new groups = unwrap_or (option_map (is_again_in files t new) (slice_get groups g)) false
