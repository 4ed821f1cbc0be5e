-- What a table of transactions that were sent shows, by groups.
use Rattle.std.specs.Prelude.{◌≡◌, List, map}
use Rattle.cwr_sent.specs.declared.created.Created.{Created}
use Rattle.cwr_sent.specs.declared.tables.Sent.{Sent}
use Rattle.cwr_sent.specs.Format.GroupRows.{GroupRows, fresh}
use Rattle.cwr_sent.specs.Format.SentFacts.{SentContent}

-- ---- what a table shows

-- when the transmission was created, and its groups
pub record SentShown : Type 0 where
  pub created : Created
  pub groups : List GroupRows

abbrev pub shown_in : Sent → SentShown
shown_in sent = record { created = sent.created; groups = sent.groups.items }

-- what is kept of the transmission
abbrev pub content_shown : SentShown → SentContent
content_shown shown = record { created = shown.created; groups = map (λ (g : GroupRows). g.facts) shown.groups }

abbrev pub content_in : Sent → SentContent
content_in sent = content_shown (shown_in sent)

-- none of its transactions is answered
abbrev pub IsFreshShown : SentShown → Type 0
IsFreshShown shown = shown.groups ≡ map fresh (content_shown shown).groups

abbrev pub IsFresh : Sent → Type 0
IsFresh sent = IsFreshShown (shown_in sent)
