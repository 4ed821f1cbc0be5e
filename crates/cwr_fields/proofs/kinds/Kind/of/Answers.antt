use Rattle.std.proofs.Common.{◌≡◌, List, ℕ, [], ◌∷◌, sym, ap, ◌∙◌, arith, true≢false}
use Rattle.std.specs.Prelude.{slice_index}
use Rattle.std.proofs.lemmas.Slice.Eq.{bytes_eq-Decides}
use Rattle.cwr_fields.specs.Format.Kinds.{kind_of, letters}
use Rattle.cwr_fields.proofs.lemmas.AllKinds.{kind_of-letters, kind_of-other, kind_of-other_length, three_letters}
use Rattle.cwr_fields.proofs.kinds.Kind.of.Goals as goal

pub returns-in_default-2 : goal.returns-in_default-2
returns-in_default-2 c = sym (kind_of-other_length c.args.text.now (λ e. omega arith))

pub returns-then-eq : goal.returns-then-eq
returns-then-eq c =
    let kind = c.guess-kind.result in
    let named : letters kind ≡ c.args.text.now =
    sym c.letters.ensures ∙ (bytes_eq-Decides c.letters.result.now c.args.text.now).0 (sym c.eq.ensures ∙ c.if-eq.true) in
    sym (kind_of-letters kind) ∙ ap kind_of named

pub returns-else-eq : goal.returns-else-eq
returns-else-eq c = sym (kind_of-other c.args.text.now (λ kind e.
    let bytes = three_letters kind
    ∙ ap (λ (t : List ℕ). slice_index t 0 ∷ slice_index t 1 ∷ slice_index t 2 ∷ []) e in
    let same : c.letters.result.now ≡ c.args.text.now = c.letters.ensures ∙ ap letters (c.guess-kind.ensures kind bytes) ∙ e in
    true≢false (sym ((bytes_eq-Decides c.letters.result.now c.args.text.now).1 same) ∙ sym c.eq.ensures ∙ c.if-eq.false)))
