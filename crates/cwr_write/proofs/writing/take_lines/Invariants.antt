use Rattle.std.proofs.Common.{◌≡◌, List, false}
use Rattle.std.specs.Prelude.{IfSome}
use Rattle.cwr_values.specs.declared.items.Item.{Item}
use Rattle.cwr_encode.specs.Steps.Encoders.{RepresentsMore, encoder_limits, is_stopped, target_of}
use Rattle.cwr_write.specs.Format.Imports.{given_in}
use Rattle.cwr_write.specs.Steps.Taking.{SaidSoFar, Stands}
use Rattle.cwr_write.proofs.writing.take_lines.Given as goal

abbrev pub invariant-loop-before : goal.invariant-loop-before
invariant-loop-before g l = record {
  unfailed : is_stopped l.encoder ≡ false;
  items : List Item;
  added : RepresentsMore g.W.Target.contents (given_in items) l.initial.encoder l.encoder;
  stands : Stands g.W.Target.contents (g.W.Target.contents (target_of l.initial.encoder)) items l.reached l.encoder;
  said : IfSome (g.R.Source.remaining l.initial.reader)
      (λ text. SaidSoFar l.encoding l.fn.most l.before text (g.R.Source.remaining l.reader) items);
  counts : g.W.Target.failures (target_of l.encoder) ≡ g.W.Target.failures (target_of l.initial.encoder);
  limits : encoder_limits l.encoder ≡ encoder_limits l.initial.encoder;
  reads : g.R.Source.failures l.reader ≡ g.R.Source.failures l.initial.reader;
}
