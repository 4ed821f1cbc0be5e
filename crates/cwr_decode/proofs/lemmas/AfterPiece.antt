-- What a decoder represents after a piece, line by line.
use Rattle.std.proofs.Common.{◌≡◌, ℕ, zero, suc, ◌+◌, ◌-◌, ◌<◌, ◌≤◌, Bool, true, false, List, [], ◌∷◌, ◌++◌, length, take, drop}
use Rattle.std.proofs.Common.{Option, Some, None, refl, sym, ap, subst, ◌∙◌, append_assoc, append-nil, arith, true≢false}
use Rattle.std.specs.Prelude.{IfSome, IsNone, IsSomeAnd}
use Rattle.std.proofs.lemmas.List.{length-drop, take-append-drop}
use Rattle.cwr_fields.specs.declared.kinds.Kind.{Kind}
use Rattle.cwr_fields.specs.declared.kinds.Kind.TheVariants.{Hdr, Grh, Grt, Trl}
use Rattle.cwr_lines.specs.Format.Records.{RecordValue}
use Rattle.cwr_lines.specs.Steps.Held.{held_record}
use Rattle.cwr_shape.specs.Format.Ranges.{LimitValues}
use Rattle.cwr_values.specs.declared.items.Item.TheVariants as items
use Rattle.cwr_decode.specs.declared.outcomes.Outcome.{Outcome}
use Rattle.cwr_decode.specs.declared.outcomes.Outcome.TheVariants as outcomes
use Rattle.cwr_decode.specs.declared.machine.State.{State}
use Rattle.cwr_decode.specs.declared.machine.State.TheVariants as states
use Rattle.cwr_fields.specs.Format.Kinds.{is_in_transaction}
use Rattle.cwr_decode.specs.Steps.Machines.{Standing, IsReady, Settles, Enters, EntersHeld, WaitsOutside, again, end_input}
use Rattle.cwr_decode.specs.Steps.Represents.{IsRight, IsSound, items_out}
use Rattle.cwr_decode.specs.Steps.Calls.{Advances, CarriesOn, Fed, Feeds, Finishes, seen_input}
use Rattle.cwr_decode.proofs.lemmas.StepsWithoutBytes.{carried_both, carried_same, settled}
use Rattle.cwr_decode.proofs.lemmas.AnsweredAtOnce.{settles_live, if_some}

-- ---- line by line

-- a record that is an item of its own isn't entered without an answer
outside_enters : (kind : Kind) (r : RecordValue) (old new : Standing) → is_in_transaction kind ≡ false
    → Enters kind r old None new → ⊥
outside_enters Hdr r old new out e = cc e.0
outside_enters Grh r old new out e = cc e.0
outside_enters Grt r old new out e = cc e.0
outside_enters Trl r old new out e = cc e.0
outside_enters kind r old new out e = cc out

outside_held : (held : Option RecordValue) (old new : Standing) → IsSomeAnd held (λ r. is_in_transaction r.kind ≡ false)
    → EntersHeld held old None new → ⊥
outside_held None old new w e = e
outside_held (Some r) old new w e = outside_enters r.kind r old new w e

pub outside_known : (old new : Standing) → Settles old.state old None new → ¬ WaitsOutside old
outside_known old new e w = outside_held (held_record old.line) old new w.1 (subst (λ (s : State). Settles s old None new) w.0 e)

pub fed_none : (old d : Standing) (piece : List ℕ) → IsReady old.state old.finished old.line → old.finished ≡ false
    → Settles old.state old None d → Fed old piece 0 d
fed_none old d piece ready fresh e =
    let m = settled old.state old d None refl ready e in
    let live = settles_live old.state old d e in
    record {
      carries =
          carried_same old d (λ input. input) (λ input. input ++ []) old.finished false None (λ input. sym (append-nil input)) fresh
          m.carries;
      within = omega arith;
      reading = m.none live;
      was_fresh = fresh;
      live = live;
      inside = outside_known old d e;
      grows = λ input given st. omega (arith, m.counts);
    }

-- nothing changed
pub fed_same : (old d same : Standing) (piece : List ℕ) (used : ℕ) → Fed old piece used d → same ≡ d → Fed old piece used same
fed_same old d same piece used f e = subst (Fed old piece used) (sym e) f

take-nothing : (k : ℕ) → take {A = ℕ} k [] ≡ []
take-nothing zero = refl
take-nothing (suc k) = refl

take-take_drop : (m n : ℕ) (xs : List ℕ) → take m xs ++ take n (drop m xs) ≡ take (m + n) xs
take-take_drop zero n xs = let same : n ≡ 0 + n = omega arith in ap (λ (k : ℕ). take k xs) same
take-take_drop (suc m) n [] = take-nothing n ∙ sym (take-nothing (suc m + n))
take-take_drop (suc m) n (x ∷ xs) =
    let more : suc (m + n) ≡ suc m + n = omega arith in
    ap (λ (l : List ℕ). x ∷ l) (take-take_drop m n xs) ∙ ap (λ (k : ℕ). take k (x ∷ xs)) more

pub pieces : (input piece : List ℕ) (m n : ℕ) → (input ++ take m piece) ++ take n (drop m piece) ≡ input ++ take (m + n) piece
pieces input piece m n =
    append_assoc input (take m piece) (take n (drop m piece)) ∙ ap (λ (x : List ℕ). input ++ x) (take-take_drop m n piece)

whole_piece : (input piece : List ℕ) (m : ℕ) → (input ++ take m piece) ++ drop m piece ≡ input ++ piece
whole_piece input piece m =
    append_assoc input (take m piece) (drop m piece) ∙ ap (λ (x : List ℕ). input ++ x) (take-append-drop m piece)

-- bytes of a piece, and then of its rest
carried_on : (old d new : Standing) (piece : List ℕ) (used n : ℕ) (was is : Bool) (out : Option Outcome) → was ≡ is
    → CarriesOn old piece used None false d → CarriesOn d (drop used piece) n out was new → CarriesOn old piece (used + n) out is new
carried_on old d new piece used n was is out same f a =
    carried_same old new (λ input. (input ++ take used piece) ++ take n (drop used piece)) (λ input. input ++ take (used + n) piece)
    was is out (λ input. pieces input piece used n) same
    (carried_both old d new (λ input. input ++ take used piece) (λ input. input ++ take n (drop used piece)) false was out f a)

pub fed_more : (old d new : Standing) (piece : List ℕ) (used n : ℕ) → Fed old piece used d
    → Advances d (drop used piece) n None new → Fed old piece (used + n) new
fed_more old d new piece used n f a = record {
  carries = carried_on old d new piece used n d.finished false None f.carries.finished f.carries a.carries;
  within = omega (arith, f.within, a.within, length-drop used piece);
  reading = a.none;
  was_fresh = f.was_fresh;
  live = f.live;
  inside = f.inside;
  grows =
      λ input given st. omega
      (arith, f.grows input given st, (a.grows (input ++ take used piece) given (f.carries.stands input given st)).kept);
}

pub fed_on : (old d new : Standing) (piece : List ℕ) (used n : ℕ) → Fed old piece used d → Fed d (drop used piece) n new
    → Fed old piece (used + n) new
fed_on old d new piece used n f a = record {
  carries = carried_on old d new piece used n false false None refl f.carries a.carries;
  within = omega (arith, f.within, a.within, length-drop used piece);
  reading = a.reading;
  was_fresh = f.was_fresh;
  live = f.live;
  inside = f.inside;
  grows =
      λ input given st. omega
      (arith, f.grows input given st, a.grows (input ++ take used piece) given (f.carries.stands input given st));
}

-- what is left of the piece grows less, as long as nothing is answered
pub rest_smaller : (piece : List ℕ) (used n : ℕ) (d new : Standing) → Advances d (drop used piece) n None new
    → length piece - (used + n) < length piece - used
rest_smaller piece used n d new a = omega (arith, a.some, a.within, length-drop used piece)

-- nothing was fed yet
pub fed_start : (d : Standing) (piece : List ℕ) → IsReady d.state d.finished d.line → d.state ≡ states.Reading
    → d.finished ≡ false → Fed d piece 0 d
fed_start d piece ready s fresh = fed_none d d piece ready fresh (subst (λ (q : State). Settles q d None d) (sym s) (refl, refl))

-- an answer after bytes that were used
pub fed_through : (old d new : Standing) (piece : List ℕ) (used n : ℕ) (o : Outcome) → Fed old piece used d
    → Advances d (drop used piece) n (Some o) new → Advances old piece (used + n) (Some o) new
fed_through old d new piece used n o f a = record {
  carries =
      carried_on old d new piece used n d.finished old.finished (Some o) (f.carries.finished ∙ sym f.was_fresh) f.carries a.carries;
  within = omega (arith, f.within, a.within, length-drop used piece);
  some = tt;
  right = λ input given st.
      subst (λ (k : LimitValues). IsRight k o false (input ++ take (used + n) piece) (input ++ piece) (given ++ items_out o))
      f.carries.limits
      (subst (λ (x : List ℕ). IsRight d.tally.limits o false x (input ++ piece) (given ++ items_out o))
      (pieces input piece used n)
      (subst (λ (x : List ℕ). IsRight d.tally.limits o false ((input ++ take used piece) ++ take n (drop used piece)) x
      (given ++ items_out o)) (whole_piece input piece used)
      (a.right (input ++ take used piece) given (f.carries.stands input given st))));
  more = λ e. omega (arith, f.within, a.more e, length-drop used piece);
  none = tt;
  grows = λ input given st.
      let before : old.tally.counts.records ≤ d.tally.counts.records = f.grows input given st in
      let after = a.grows (input ++ take used piece) given (f.carries.stands input given st) in
      record {
        kept = omega (arith, before, after.kept);
        memory = λ e. omega (arith, before, after.memory e);
        item = λ it e. omega (arith, before, after.item it e);
      };
}

pub fed_out : (old d new : Standing) (piece : List ℕ) (used n : ℕ) (o : Outcome) → Fed old piece used d
    → Advances d (drop used piece) n (Some o) new → Feeds old piece (used + n) o new
fed_out old d new piece used n o f a = record {
  carries =
      carried_on old d new piece used n d.finished old.finished (Some o) (f.carries.finished ∙ sym f.was_fresh) f.carries a.carries;
  within = omega (arith, f.within, a.within, length-drop used piece);
  right = λ l input given st.
      subst (λ (b : Bool). IsRight old.tally.limits o b (input ++ take (used + n) piece) (seen_input b input piece)
      (given ++ items_out o)) (sym f.was_fresh)
      (subst (λ (k : LimitValues). IsRight k o false (input ++ take (used + n) piece) (input ++ piece) (given ++ items_out o))
      f.carries.limits
      (subst (λ (x : List ℕ). IsRight d.tally.limits o false x (input ++ piece) (given ++ items_out o))
      (pieces input piece used n)
      (subst (λ (x : List ℕ). IsRight d.tally.limits o false ((input ++ take used piece) ++ take n (drop used piece)) x
      (given ++ items_out o)) (whole_piece input piece used)
      (a.right (input ++ take used piece) given (f.carries.stands input given st)))));
  again = subst (λ (q : Option Outcome). IfSome q (λ p. (o ≡ p) × (used + n ≡ 0) × (new ≡ old))) (sym f.live) tt;
  more = λ e. (omega (arith, f.within, a.more (ap (λ (x : Outcome). Some x) e), length-drop used piece), f.was_fresh);
  unused = λ z. absurd (true≢false (sym z ∙ f.was_fresh));
  alone = λ w. absurd (f.inside w);
  memory = λ q l input given st few.
      let before : old.tally.counts.records ≤ d.tally.counts.records = f.grows input given st in
      let more : d.tally.counts.records < new.tally.counts.records =
      (a.grows (input ++ take used piece) given (f.carries.stands input given st)).memory (ap (λ (x : Outcome). Some x) q) in
      absurd (omega (arith, few, before, more));
  kept =
      λ input given st. omega
      (arith, f.grows input given st, (a.grows (input ++ take used piece) given (f.carries.stands input given st)).kept);
}

-- what was settled before the piece goes before it
pub fed_whole : (old d new : Standing) (piece : List ℕ) (used : ℕ) (o : Outcome) → IsReady old.state old.finished old.line
    → old.finished ≡ false → Settles old.state old None d → Advances d piece used (Some o) new → Feeds old piece used o new
fed_whole old d new piece used o ready fresh e a =
    let none : 0 + used ≡ used = omega arith in
    subst (λ (n : ℕ). Feeds old piece n o new) none (fed_out old d new piece 0 used o (fed_none old d piece ready fresh e) a)

-- a decoder that was settled and reads stands for some input
pub settled_sound : (old d : Standing) → IsSound old → Settles old.state old None d → IsSound d
settled_sound old d u e =
    let m = settled old.state old d None refl u.ready e in
    let w = u.under_way in
    record {
      ready = m.carries.ready;
      under_way = record { input = w.input; given = w.given; stands = m.carries.stands w.input w.given w.stands };
    }

pub settled_reading : (old d : Standing) → IsSound old → Settles old.state old None d → d.state ≡ states.Reading
settled_reading old d u e = (settled old.state old d None refl u.ready e).none (settles_live old.state old d e)

pub either_sound : (b : Bool) (old d : Standing) → IsSound old → (b ≡ true → Settles old.state old None d) → (b ≡ false → d ≡ old)
    → IsSound d
either_sound true old d u s k = settled_sound old d u (s refl)
either_sound false old d u s k = subst IsSound (sym (k refl)) u

-- after the end of the input nothing of the piece is used
pub finished_feeds : (old new : Standing) (piece : List ℕ) (o : Outcome) → old.finished ≡ true → Finishes old o new
    → Feeds old piece 0 o new
finished_feeds old new piece o is_ended f = record {
  carries =
      carried_same old new (λ input. input) (λ input. input ++ []) true old.finished (Some o) (λ input. sym (append-nil input))
      (sym is_ended) f.carries;
  within = omega arith;
  right = λ l input given st.
      subst (λ (b : Bool). IsRight old.tally.limits o b (input ++ []) (seen_input b input piece) (given ++ items_out o))
      (sym is_ended)
      (subst (λ (x : List ℕ). IsRight old.tally.limits o true x input (given ++ items_out o)) (sym (append-nil input))
      (f.right l input given st));
  again =
      if_some (again old.state) (λ p. (o ≡ p) × (new ≡ end_input old)) (λ p. (o ≡ p) × (0 ≡ 0) × (new ≡ old))
      (λ p h. (h.0, refl, h.1 ∙ same)) f.again;
  more = λ e. absurd (f.more e);
  unused = λ z. refl;
  alone = λ w. (refl, f.more);
  memory = f.memory;
  kept = f.kept;
}
  where
    same : end_input old ≡ old
    same = λ i. record { line = old.line; tally = old.tally; held = old.held; state = old.state; finished = sym is_ended i }

-- a decoder that was fed stands for some input
pub fed_sound : (old d : Standing) (piece : List ℕ) (used : ℕ) → IsSound old → Fed old piece used d → IsSound d
fed_sound old d piece used u f =
    let w = u.under_way in
    record {
      ready = f.carries.ready;
      under_way =
          record { input = w.input ++ take used piece; given = w.given; stands = f.carries.stands w.input w.given w.stands };
    }

fed_item_sound : (old d : Standing) (piece : List ℕ) (used : ℕ) (o : Outcome) → IsSound old → Feeds old piece used o d → IsSound d
fed_item_sound old d piece used o u f =
    let w = u.under_way in
    record {
      ready = f.carries.ready;
      under_way = record
          { input = w.input ++ take used piece; given = w.given ++ items_out o; stands = f.carries.stands w.input w.given w.stands };
    }

pub found_sound : (whole : Option (List RecordValue)) (old d : Standing) (piece : List ℕ) (used : ℕ) → IsSound old
    → IfSome whole (λ w. Feeds old piece used (outcomes.Item (items.Transaction w)) d) → (IsNone whole → Fed old piece used d)
    → IsSound d
found_sound None old d piece used u some none = fed_sound old d piece used u (none refl)
found_sound (Some w) old d piece used u some none = fed_item_sound old d piece used (outcomes.Item (items.Transaction w)) u some

-- a transaction after bytes that were used, while it reads
pub reading_feeds : (old d : Standing) (piece : List ℕ) (used : ℕ) (o : Outcome) → IsReady old.state old.finished old.line
    → old.state ≡ states.Reading → old.finished ≡ false → Advances old piece used (Some o) d → Feeds old piece used o d
reading_feeds old d piece used o ready s fresh a =
    fed_whole old old d piece used o ready fresh (subst (λ (q : State). Settles q old None old) (sym s) (refl, refl)) a

pub found_feeds : (whole : Option (List RecordValue)) (old d : Standing) (piece : List ℕ) (used : ℕ)
    → IsReady old.state old.finished old.line → old.state ≡ states.Reading → old.finished ≡ false
    → IfSome whole (λ w. Advances old piece used (Some (outcomes.Item (items.Transaction w))) d)
    → IfSome whole (λ w. Feeds old piece used (outcomes.Item (items.Transaction w)) d)
found_feeds None old d piece used ready s fresh a = tt
found_feeds (Some w) old d piece used ready s fresh a =
    reading_feeds old d piece used (outcomes.Item (items.Transaction w)) ready s fresh a
