-- What writers show that are taken back, and what is in them.
use Rattle.std.specs.Prelude.{ℕ, Bool, List, Option, Some, None, if◌then◌else◌}
use Rattle.std.specs.Str.{bytes_eq}
use Rattle.cwr_files.specs.Format.Stamps.{created_by}
use Rattle.cwr_files.specs.declared.outputs.Written.{Written}
use Rattle.cwr_files.specs.declared.progress.Paced.{Paced}
use Rattle.cwr_files.specs.declared.stamps.Stamped.{Stamped}

-- the writer
abbrev pub writer_in : {F : Type 0} → Written F → F
writer_in written = written.writer

-- how often it failed
abbrev pub times_failed : {F : Type 0} → Written F → ℕ
times_failed written = written.failures

-- it has all that was given to it
abbrev pub is_whole : {F : Type 0} → Written F → Bool
is_whole written = written.is_whole

-- the writer that is paced
abbrev pub paced_writer : {O P : Type 0} → Paced O P → O
paced_writer paced = paced.output

-- the file that is stamped
abbrev pub stamped_file : {F : Type 0} → Stamped F → F
stamped_file stamped = stamped.file

-- the cells that stand in it
abbrev pub cells_of : {F : Type 0} → Stamped F → Option (List ℕ)
cells_of stamped = stamped.cells

-- the text, where the file is known, and has it with its cells
abbrev pub known_as : List ℕ → List ℕ → Option (List ℕ) → Option (List ℕ)
known_as text made None = None
known_as text made (Some held) = if bytes_eq held made then Some text else None

-- the text that was written to it, where its file is known to have that with its cells
abbrev pub text_of_stamped : {F : Type 0} → (F → Option (List ℕ)) → Stamped F → Option (List ℕ)
text_of_stamped contents stamped =
    known_as stamped.given.text (created_by stamped.cells stamped.given.text) (contents stamped.file)
