-- What a store in memory holds.
use Rattle.std.specs.Prelude.{ℕ, List, [], ◌∷◌, Option, None, Some, option_map, string_bytes}
use Rattle.cwr_files.specs.Format.Files.{Texts, put}
use Rattle.cwr_files.specs.declared.memory_stores.Entry.{Entry}
use Rattle.cwr_files.specs.declared.memory_stores.Entry.TheVariants.{Is, Moved}
use Rattle.cwr_files.specs.declared.memory_stores.MemoryStore.{MemoryStore}

-- one entry over those before it
abbrev pub entered : Entry → Texts → Texts
entered (Is name text) texts = put (string_bytes name) (option_map (λ t. t.items) text) texts
entered (Moved from to text) texts = put (string_bytes to) (Some text.items) (put (string_bytes from) None texts)

-- the latest entry comes first
abbrev pub entries_say : List Entry → Texts
entries_say [] n = None
entries_say (e ∷ es) n = entered e (entries_say es) n

abbrev pub held_in : MemoryStore → Option Texts
held_in store = Some (entries_say store.entries.items)

abbrev pub making_in : MemoryStore → Option (List ℕ)
making_in store = option_map string_bytes store.making
