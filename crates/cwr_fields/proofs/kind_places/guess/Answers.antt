use Rattle.std.proofs.Common.{◌≡◌, ℕ, ◌+◌, ◌*◌, ap, ◌∙◌, arith}
use Rattle.std.specs.Prelude.{◌%◌, slice_index_or}
use Rattle.cwr_fields.specs.declared.kinds.Kind.TheVariants.{Hdr}
use Rattle.cwr_fields.proofs.lemmas.KindPlaces.{at_places, guessed}
use Rattle.cwr_fields.proofs.kind_places.guess.Goals as goal

pub returns : goal.returns
returns c = λ kind e.
    let same : 11 * c.from.result + c.from-2.result + 2 * c.from-3.result ≡ 11 * c.args.a + c.args.b + 2 * c.args.c =
    omega (arith, c.from.ensures, c.from-2.ensures, c.from-3.ensures) in
    ap (λ (n : ℕ). slice_index_or at_places (n % 128) Hdr) same ∙ guessed kind c.args.a c.args.b c.args.c e
