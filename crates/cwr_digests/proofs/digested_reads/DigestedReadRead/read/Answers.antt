use Rattle.std.proofs.Common.{◌∙◌, ℕ, List, length, take, ap, subst, sym, arith}
use Rattle.std.proofs.KnownBytes.{Consumes-kept, Consumes-trans}
use Rattle.std.proofs.lemmas.List.{length-append}
use Rattle.std.specs.Io.KnownBytes.{Consumes}
use Rattle.cwr_digests.specs.Steps.Digested.{HoldsIf}
use Rattle.cwr_digests.proofs.digested_reads.DigestedReadRead.read.Goals as goal

pub invariant_of-self : goal.invariant_of-self
invariant_of-self g c = record {
  asked = c.args.self.now.asked;
  holds = c.args.self.now.holds;
  counted = c.args.self.now.counted;
  read = Consumes-kept g.B.Whole.whole (g.I.Read.remaining c.args.self.now.inner) (g.I.Read.remaining c.read.new.self)
      c.args.self.now.taken.text c.args.self.now.read c.in_err-count.ensures.bytes;
}

pub invariant_of-self-2 : goal.invariant_of-self-2
invariant_of-self-2 g c =
    let before : List ℕ = c.args.self.now.taken.text in
    let piece : List ℕ = take c.in_ok-count.count c.read.new.buf in
    record {
      asked = c.hash.ensures.kept ∙ c.args.self.now.asked;
      holds = subst (λ (text : List ℕ). HoldsIf c.hash.new.hasher text) (sym c.and-self.ensures)
          (c.hash.ensures.holds before c.args.self.now.holds);
      counted = omega (
        arith,
        c.saturating_add-self.ensures,
        c.args.self.now.counted,
        ap (length {A = ℕ}) c.and-self.ensures,
        length-append before piece,
        c.in_ok-count.ensures.bound.1,
      );
      read = subst (λ (text : List ℕ). Consumes g.B.Whole.whole (g.I.Read.remaining c.read.new.self) text) (sym c.and-self.ensures)
          (Consumes-trans g.B.Whole.whole (g.I.Read.remaining c.args.self.now.inner) (g.I.Read.remaining c.read.new.self) before piece
          c.args.self.now.read c.in_ok-count.ensures.bytes.0);
    }
