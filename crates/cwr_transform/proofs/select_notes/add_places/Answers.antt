use Rattle.std.proofs.Common.{◌≡◌, ℕ, Bor, List, [], Option, refl, sym, ap, subst, ◌∙◌, append-nil}
use Rattle.std.specs.Prelude.{option_map}
use Rattle.std.specs.List.{flat_map}
use Rattle.cwr_transform.specs.Format.Lists.{place_in}
use Rattle.cwr_transform.specs.Format.Missing.{same_place}
use Rattle.cwr_transform.specs.Format.Told.{firsts_after, place_lines}
use Rattle.cwr_transform.specs.Steps.Sought.{AreNoted}
use Rattle.cwr_transform.specs.Steps.TellingLists.{TellsTo, lines_after, lines_in}
use Rattle.cwr_transform.proofs.lemmas.ListsTold.{tells_all, tells_begun}
use Rattle.cwr_transform.proofs.select_notes.add_places.Goals as goal

pub lines-init : goal.lines-init
lines-init g c = record {
  same = refl;
  tells = λ values found read within noted.
      let lines : ℕ × ℕ → List ℕ = λ p. place_lines p found in
      subst
      (λ (text : List ℕ). TellsTo g.W.Target.contents g.W.Target.failures place_in same_place lines c.args.sought.now.listed.now
      c.args.sought.now.found.items found (flat_map lines (firsts_after same_place [] values)) (lines_in text) c.args.pen.now c.args.pen.now)
      (sym c.unmarked-rest.ensures)
      (tells_begun g.W.Target.contents g.W.Target.failures place_in same_place lines c.args.sought.now.listed.now found
      (flat_map lines (firsts_after same_place [] values)) c.args.sought.now.found.items c.args.text.now values c.args.pen.now read within
      (subst (λ (l : List (ℕ × ℕ)). AreNoted same_place c.args.sought.now.listed.now c.args.sought.now.found.items l) (sym (append-nil found)) noted)
      refl);
}

pub lines-preserved : goal.lines-preserved
lines-preserved g c = record {
  same = c.tell_if_place.ensures.listed ∙ c.lines.invariant.same;
  tells = λ values found read within noted.
      let lines : ℕ × ℕ → List ℕ = λ p. place_lines p found in
      let told : List ℕ = flat_map lines (firsts_after same_place [] values) in
      let same : c.lines.sought.listed.now ≡ c.args.sought.now.listed.now = ap (λ b. b.now) c.lines.invariant.same in
      let after : Option (List ℕ) = option_map (λ rest. rest.now) c.next_value-value.result.1 in
      subst
      (λ (o : Option (Bor (List ℕ))). TellsTo g.W.Target.contents g.W.Target.failures place_in same_place lines c.args.sought.now.listed.now
      c.tell_if_place.new.sought.found.items found told (lines_after (option_map (λ rest. rest.now) o)) c.args.pen.now c.tell_if_place.new.pen)
      c.in-Some.is
      (subst
      (λ (l : List (ℕ × ℕ)). TellsTo g.W.Target.contents g.W.Target.failures place_in same_place lines l
      c.tell_if_place.new.sought.found.items found told (lines_after after) c.args.pen.now c.tell_if_place.new.pen)
      same
      (c.tell_if_place.ensures.told c.lines.rest.now after found told c.args.pen.now c.next_value-value.ensures.parts
      (subst
      (λ (l : List (ℕ × ℕ)). TellsTo g.W.Target.contents g.W.Target.failures place_in same_place lines l c.lines.sought.found.items found told
      (lines_in c.lines.rest.now) c.args.pen.now c.lines.pen)
      (sym same) (c.lines.invariant.tells values found read within noted))));
}

pub returns-in-None : goal.returns-in-None
returns-in-None g c = λ values found read within noted.
    let lines : ℕ × ℕ → List ℕ = λ p. place_lines p found in
    let told : List ℕ = flat_map lines (firsts_after same_place [] values) in
    let same : c.lines.sought.listed.now ≡ c.args.sought.now.listed.now = ap (λ b. b.now) c.lines.invariant.same in
    let after : Option (List ℕ) = option_map (λ rest. rest.now) c.next_value-value.result.1 in
    tells_all g.W.Target.contents g.W.Target.failures place_in same_place lines c.lines.sought.listed.now found told
    c.tell_if_place.new.sought.found.items c.args.pen.now c.tell_if_place.new.pen
    (subst
    (λ (o : Option (Bor (List ℕ))). TellsTo g.W.Target.contents g.W.Target.failures place_in same_place lines c.lines.sought.listed.now
    c.tell_if_place.new.sought.found.items found told (lines_after (option_map (λ rest. rest.now) o)) c.args.pen.now c.tell_if_place.new.pen)
    c.in-None.is
    (c.tell_if_place.ensures.told c.lines.rest.now after found told c.args.pen.now c.next_value-value.ensures.parts
    (subst
    (λ (l : List (ℕ × ℕ)). TellsTo g.W.Target.contents g.W.Target.failures place_in same_place lines l c.lines.sought.found.items found told
    (lines_in c.lines.rest.now) c.args.pen.now c.lines.pen)
    (sym same) (c.lines.invariant.tells values found read within noted))))
