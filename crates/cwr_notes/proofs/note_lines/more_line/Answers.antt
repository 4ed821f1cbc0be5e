use Rattle.std.proofs.Common.{◌≡◌, ℕ, false, [], ◌∷◌, ◌++◌, codes, decimal, arith}
use Rattle.std.specs.Prelude.{◌==◌}
use Rattle.cwr_devices.proofs.lemmas.Adding.{adds_as, adds_both}
use Rattle.cwr_notes.specs.Format.FindingNotes.{more_line}
use Rattle.cwr_notes.proofs.note_lines.more_line.Goals as goal

some_more : (n : ℕ) → (n ≡ 0 → ⊥) → codes "  more      records like these: " ++ decimal n ++ 10 ∷ [] ≡ more_line n
some_more n h = let e : (n == 0) ≡ false = grind (arith, h) in rw e

pub returns : goal.returns
returns g c =
    adds_as (some_more c.args.more c.if-more-eq0.false) (adds_both (adds_both c.text.ensures c.number.ensures) c.text-2.ensures)
