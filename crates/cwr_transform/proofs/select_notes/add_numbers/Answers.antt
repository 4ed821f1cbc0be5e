use Rattle.std.proofs.Common.{◌≡◌, ℕ, Bor, List, [], Option, refl, sym, ap, subst}
use Rattle.std.specs.Prelude.{option_map}
use Rattle.std.specs.List.{flat_map}
use Rattle.std.specs.Str.{bytes_eq}
use Rattle.cwr_transform.specs.Format.Lists.{number_in}
use Rattle.cwr_transform.specs.Format.Told.{firsts_after}
use Rattle.cwr_transform.specs.Steps.TellingLists.{TellsTo, lines_after, lines_in}
use Rattle.cwr_transform.proofs.lemmas.ListsTold.{can_same, lines_same, same_twice, tells_all, tells_begun}
use Rattle.cwr_transform.proofs.select_notes.add_numbers.Goals as goal

pub lines-init : goal.lines-init
lines-init g c = record {
  same = record { listed = refl; firsts = refl; further = refl; starts = refl };
  tells = λ values lines read within can are noted.
      subst
      (λ (text : List ℕ). TellsTo g.W.Target.contents g.W.Target.failures number_in bytes_eq lines c.args.sought.now.listed.now
      c.args.sought.now.told.items [] (flat_map lines (firsts_after bytes_eq [] values)) (lines_in text) c.args.pen.now c.args.pen.now)
      (sym c.unmarked-rest.ensures)
      (tells_begun g.W.Target.contents g.W.Target.failures number_in bytes_eq lines c.args.sought.now.listed.now []
      (flat_map lines (firsts_after bytes_eq [] values)) c.args.sought.now.told.items c.args.text.now values c.args.pen.now read within noted refl);
}

pub lines-preserved : goal.lines-preserved
lines-preserved g c = record {
  same = same_twice c.args.sought.now c.lines.sought c.tell_if_number.new.sought c.lines.invariant.same c.tell_if_number.ensures.found;
  tells = λ values lines read within can are noted.
      let told : List ℕ = flat_map lines (firsts_after bytes_eq [] values) in
      let same : c.lines.sought.listed.now ≡ c.args.sought.now.listed.now = ap (λ b. b.now) c.lines.invariant.same.listed in
      let after : Option (List ℕ) = option_map (λ rest. rest.now) c.next_value-value.result.1 in
      subst
      (λ (o : Option (Bor (List ℕ))). TellsTo g.W.Target.contents g.W.Target.failures number_in bytes_eq lines c.args.sought.now.listed.now
      c.tell_if_number.new.sought.told.items [] told (lines_after (option_map (λ rest. rest.now) o)) c.args.pen.now c.tell_if_number.new.pen)
      c.in-Some.is
      (subst
      (λ (l : List (List ℕ)). TellsTo g.W.Target.contents g.W.Target.failures number_in bytes_eq lines l
      c.tell_if_number.new.sought.told.items [] told (lines_after after) c.args.pen.now c.tell_if_number.new.pen)
      same
      (c.tell_if_number.ensures.told c.lines.rest.now after lines told c.args.pen.now c.next_value-value.ensures.parts
      (can_same c.args.sought.now c.lines.sought c.lines.invariant.same can)
      (lines_same lines c.args.sought.now c.lines.sought c.lines.invariant.same are)
      (subst
      (λ (l : List (List ℕ)). TellsTo g.W.Target.contents g.W.Target.failures number_in bytes_eq lines l c.lines.sought.told.items [] told
      (lines_in c.lines.rest.now) c.args.pen.now c.lines.pen)
      (sym same) (c.lines.invariant.tells values lines read within can are noted))));
}

pub returns-in-None : goal.returns-in-None
returns-in-None g c = λ values lines read within can are noted.
    let told : List ℕ = flat_map lines (firsts_after bytes_eq [] values) in
    let same : c.lines.sought.listed.now ≡ c.args.sought.now.listed.now = ap (λ b. b.now) c.lines.invariant.same.listed in
    let after : Option (List ℕ) = option_map (λ rest. rest.now) c.next_value-value.result.1 in
    tells_all g.W.Target.contents g.W.Target.failures number_in bytes_eq lines c.lines.sought.listed.now [] told
    c.tell_if_number.new.sought.told.items c.args.pen.now c.tell_if_number.new.pen
    (subst
    (λ (o : Option (Bor (List ℕ))). TellsTo g.W.Target.contents g.W.Target.failures number_in bytes_eq lines c.lines.sought.listed.now
    c.tell_if_number.new.sought.told.items [] told (lines_after (option_map (λ rest. rest.now) o)) c.args.pen.now c.tell_if_number.new.pen)
    c.in-None.is
    (c.tell_if_number.ensures.told c.lines.rest.now after lines told c.args.pen.now c.next_value-value.ensures.parts
    (can_same c.args.sought.now c.lines.sought c.lines.invariant.same can)
    (lines_same lines c.args.sought.now c.lines.sought c.lines.invariant.same are)
    (subst
    (λ (l : List (List ℕ)). TellsTo g.W.Target.contents g.W.Target.failures number_in bytes_eq lines l c.lines.sought.told.items [] told
    (lines_in c.lines.rest.now) c.args.pen.now c.lines.pen)
    (sym same) (c.lines.invariant.tells values lines read within can are noted))))
