-- What a source with its numbers put right keeps.
use Rattle.std.specs.Prelude.{ℕ, List, [], ◌++◌, drop, Option, option_map, if◌then◌else◌}
use Rattle.cwr_renumber.specs.declared.sources.Renumbered.{Renumbered}
use Rattle.cwr_renumber.specs.Steps.Renumbered.{text_from}

-- the source in it
abbrev pub inner_of : {R : Type 0} → Renumbered R → R
inner_of s = s.inner

-- of the bytes that the last `fill` showed, how many weren't consumed since
abbrev pub shown_of : {R : Type 0} → Renumbered R → ℕ
shown_of s = s.shown

-- what is left of it, where this is left of the source in it: the line that is handed out, and the later ones
abbrev pub left_of : {R : Type 0} → Renumbered R → Option (List ℕ) → Option (List ℕ)
left_of s left = option_map (λ rest. drop s.at s.out ++ (if s.is_over then [] else text_from s.numbering s.line.bytes rest)) left
