use Rattle.std.proofs.Common.{ℕ, take, length, ◌≡◌, ◌≤◌, subst}
use Rattle.std.specs.Prelude.{◌↔◌, IsTrue}
use Rattle.cwr_fields.specs.declared.kinds.Kind.TheVariants.{Trl}
use Rattle.cwr_lines.specs.Format.Lines.{without_cr}
use Rattle.cwr_shape.specs.declared.symbols.Symbol.{Symbol}
use Rattle.cwr_shape.specs.declared.symbols.Symbol.TheVariants.{Plain}
use Rattle.cwr_decode.specs.declared.indexing.Accepted.{Accepted}
use Rattle.cwr_decode.proofs.lemmas.LinesAtFront.{quick_line}
use Rattle.cwr_decode.proofs.indexing.take_cut.Goals as goal

pub returns-clause-some : goal.returns-clause-some
returns-clause-some c = λ xs st.
    let got : Accepted =
    record { taken = c.args.taken; length = c.length_without_return-length.result; last = c.is_trailer.result } in
    quick_line c.args.tally.now c.count_quickly.new.tally xs c.args.text.now c.args.cut.now c.known_record.result got st
    c.requires (c.count_quickly.ensures.counted c.if-not-count_quickly.false) c.known_record.ensures
    (subst (λ (s : Symbol). IsTrue c.is_trailer.result ↔ (s ≡ Plain Trl)) c.symbol_of-symbol.ensures c.is_trailer.ensures)
    (subst (λ (k : ℕ). c.length_without_return-length.result ≤ length (take k c.args.text.now)) c.saturating_sub.ensures
    c.length_without_return-length.ensures.within)
    (subst (λ (k : ℕ). take c.length_without_return-length.result (take k c.args.text.now) ≡ without_cr (take k c.args.text.now))
    c.saturating_sub.ensures c.length_without_return-length.ensures.value)
