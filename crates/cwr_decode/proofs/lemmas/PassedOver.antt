-- Whole transactions that are passed over, one after another.
use Rattle.std.proofs.Common.{◌≡◌, ℕ, ◌+◌, ◌-◌, ◌≤◌, ◌<◌, Bool, true, false, List, [], ◌∷◌, ◌++◌, length, map, take, drop}
use Rattle.std.proofs.Common.{Option, Some, None, refl, sym, ap, subst, ◌∙◌, append_assoc, append-nil, arith, inl, inr}
use Rattle.std.proofs.Common.{true≢false}
use Rattle.std.specs.Prelude.{◌≢◌, sum_by, IfSome}
use Rattle.std.specs.List.{AllByRecursion}
use Rattle.std.proofs.KnownBytes.{Consumes-nil, Consumes-trans}
use Rattle.std.specs.Io.KnownBytes.{Consumes}
use Rattle.std.proofs.lemmas.List.{length-append, length-drop, map-append}
use Rattle.std.proofs.lemmas.List.Sums.{sum_by-append, sum_by-cons}
use Rattle.cwr_lines.specs.declared.lines.LineEnd.TheVariants.{Open}
use Rattle.cwr_fields.specs.Format.Kinds.{is_in_transaction}
use Rattle.cwr_lines.specs.Format.Records.{RecordValue}
use Rattle.cwr_lines.specs.Steps.Held.{HeldLine, IsHeld, Takes, empty_line, held_record}
use Rattle.cwr_shape.specs.Steps.Tallies.{TallyValue}
use Rattle.cwr_values.specs.declared.items.Item.{Item}
use Rattle.cwr_values.specs.declared.items.Item.TheVariants as items
use Rattle.cwr_decode.specs.declared.machine.Found.{Found}
use Rattle.cwr_decode.specs.declared.machine.Found.TheVariants as founds
use Rattle.cwr_decode.specs.declared.machine.Passed.{Passed}
use Rattle.cwr_decode.specs.declared.machine.State.TheVariants as states
use Rattle.cwr_decode.specs.declared.outcomes.Outcome.{Outcome}
use Rattle.cwr_decode.specs.declared.outcomes.Outcome.TheVariants as outcomes
use Rattle.cwr_decode.specs.Steps.Calls.{Advances, Fed}
use Rattle.cwr_decode.specs.Steps.Machines.{EntersHeld, IsReady, JudgesFront, Standing, again, held_list, reading}
use Rattle.cwr_decode.specs.Steps.Passing.{BeginsHeld, BeginsWaiting, IsPassing, KeepsFront, KeepsLine, Passes, PassesOver}
use Rattle.cwr_decode.specs.Steps.Passing.{at_line, waiting}
use Rattle.cwr_decode.specs.Steps.Readings.{FeedsOn, IsSpent}
use Rattle.cwr_decode.specs.Steps.Represents.{Represents}
use Rattle.cwr_decode.proofs.lemmas.AfterBytes.{advanced_front, ends_used}
use Rattle.cwr_decode.proofs.lemmas.AfterPiece.{fed_more, fed_none, fed_start, fed_through, pieces}
use Rattle.cwr_decode.proofs.lemmas.FrontSteps.{empty_open, front_added, front_ends}
use Rattle.cwr_decode.proofs.lemmas.LineSteps.{adds_inside}

abbrev transaction_out : List RecordValue → Outcome
transaction_out so_far = outcomes.Item (items.Transaction so_far)

all_more : (P : List RecordValue → Type 0) (wholes : List (List RecordValue)) (so_far : List RecordValue)
    → AllByRecursion P wholes → P so_far → AllByRecursion P (wholes ++ so_far ∷ [])
all_more P [] so_far all one = (one, tt)
all_more P (whole ∷ wholes) so_far all one = (all.0, all_more P wholes so_far all.1 one)

one_sum : (so_far : List RecordValue) → sum_by length (so_far ∷ []) ≡ length so_far
one_sum so_far = omega (arith, sum_by-cons length so_far [])

drop-drop : (m n : ℕ) (xs : List ℕ) → drop n (drop m xs) ≡ drop (m + n) xs
drop-drop m n xs = grind (arith, Rattle.std.proofs.lemmas.Grind.common_steps)

-- ---- transactions that were passed over

pub passes_none : (P : List RecordValue → Type 0) (d : Standing) (piece : List ℕ) → IsReady d.state d.finished d.line
    → Passes P d piece (record { used = 0; transactions = 0; records = 0 }) d
passes_none P d piece ready = record {
  within = omega arith;
  wholes = [];
  clean = tt;
  transactions = refl;
  records = refl;
  stands =
      λ input given st. subst (λ (x : List ℕ). Represents d x (given ++ [])) (sym (append-nil input))
      (subst (Represents d input) (sym (append-nil given)) st);
  ready = ready;
  live = λ l. l;
  finished = refl;
  limits = refl;
  grows = λ input given st. record { kept = omega arith; more = λ other. absurd (other refl) };
}

pub passes_more : (P : List RecordValue → Type 0) (old self new : Standing) (piece : List ℕ) (passed : Passed) (n records : ℕ)
    (so_far : List RecordValue) → Passes P old piece passed self → P so_far → records ≡ length so_far
    → Advances self (drop passed.used piece) n (Some (transaction_out so_far)) new
    → Passes P old piece
    (record { used = passed.used + n; transactions = passed.transactions + 1; records = passed.records + records }) new
passes_more P old self new piece passed n records so_far p clean counted a = record {
  within = omega (arith, p.within, a.within, length-drop passed.used piece);
  wholes = p.wholes ++ so_far ∷ [];
  clean = all_more P p.wholes so_far p.clean clean;
  transactions = omega (arith, p.transactions, length-append p.wholes (so_far ∷ []));
  records = omega (arith, p.records, counted, sum_by-append length p.wholes (so_far ∷ []), one_sum so_far);
  stands = λ input given st.
      let q = a.carries.stands (input ++ take passed.used piece) (given ++ map items.Transaction p.wholes) (p.stands input given st) in
      subst (λ (x : List ℕ). Represents new x (given ++ map items.Transaction (p.wholes ++ so_far ∷ [])))
      (pieces input piece passed.used n)
      (subst (Represents new ((input ++ take passed.used piece) ++ take n (drop passed.used piece)))
      (append_assoc given (map items.Transaction p.wholes) (items.Transaction so_far ∷ [])
      ∙ ap (λ (is : List Item). given ++ is) (sym (map-append items.Transaction p.wholes (so_far ∷ [])))) q);
  ready = a.carries.ready;
  live = λ l. ap again a.carries.leaves;
  finished = a.carries.finished ∙ p.finished;
  limits = a.carries.limits ∙ p.limits;
  grows = λ input given st.
      let before = p.grows input given st in
      let one =
      (a.grows (input ++ take passed.used piece) (given ++ map items.Transaction p.wholes) (p.stands input given st)).item (items.Transaction so_far) refl in
      record { kept = omega (arith, before.kept, one); more = λ other. omega (arith, before.kept, one) };
}

-- ---- the open transaction

-- a transaction of one record, at the start of a line
pub held_header : (d : Standing) (header : RecordValue) → d.line.ended ≡ Open → length d.line.bytes ≡ 0
    → d.held ≡ Some (header ∷ []) → d.state ≡ states.Reading → d ≡ at_line d.finished d.tally (header ∷ [])
held_header d header unended none is s =
    λ i. record { line = empty_open d.line unended none i; tally = d.tally; held = is i; state = s i; finished = d.finished }

pub waiting_header : (d : Standing) (header : RecordValue) → d.held ≡ None → held_record d.line ≡ Some header
    → is_in_transaction header.kind ≡ true → EntersHeld (held_record d.line) d None (at_line d.finished d.tally (header ∷ []))
waiting_header d header none carried inside =
    let same : at_line d.finished d.tally (header ∷ []) ≡ reading d (Some (held_list d.held ++ header ∷ [])) =
    ap (λ (h : Option (List RecordValue)). reading d (Some (held_list h ++ header ∷ []))) (sym none) in
    subst (λ (r : Option RecordValue). EntersHeld r d None (at_line d.finished d.tally (header ∷ []))) (sym carried)
    (adds_inside header.kind header d (at_line d.finished d.tally (header ∷ [])) inside same)

module _ {K : Type 0} (S : K → List RecordValue → Type 0) (P : List RecordValue → Type 0) where
  -- what a cut line is found to be, it is found to be at the front of a piece
  pub kept_front : (found : Found) (finished : Bool) (so_far : List RecordValue) (piece : List ℕ) (used : ℕ)
      (tally counted : TallyValue) (kept : K) (cut held : HeldLine)
      → Takes empty_line piece used cut → IsHeld cut → cut.ended ≢ Open → KeepsLine S P found cut so_far tally counted kept held
      → KeepsFront S P found finished so_far piece used tally counted kept held
  kept_front founds.Added finished so_far piece used tally counted kept cut held takes is_held ended k = (
    k.0,
    k.1,
    front_added (at_line finished tally so_far) piece used cut counted (Some (so_far ++ k.0 ∷ [])) refl refl refl
        takes is_held ended k.2,
  )
  kept_front founds.Ends finished so_far piece used tally counted kept cut held takes is_held ended k = (
    k.0,
    front_ends (at_line finished tally so_far) piece used cut held counted (Some so_far) refl refl takes is_held ended k.1
        k.2,
  )
  kept_front founds.Nothing finished so_far piece used tally counted kept cut held takes is_held ended k = tt

  -- a pass begins
  pub begins : (d : Standing) (piece : List ℕ) (kept : K) → IsReady d.state d.finished d.line → d.state ≡ states.Reading
      → d.finished ≡ false → BeginsHeld S d kept
      → IsPassing S P d d piece (record { used = 0; transactions = 0; records = 0 }) 0 1 d.tally kept
  begins d piece kept ready s fresh b = record {
    passes = passes_none P d piece ready;
    so_far = b.header ∷ [];
    stands = b.stands;
    counted = refl;
    fed_on = subst (Fed d piece 0) b.same (fed_start d piece ready s fresh);
    few = omega arith;
    fewer = omega arith;
  }

  -- one record more of the open transaction
  pub one_more : (old self : Standing) (piece : List ℕ) (passed : Passed) (fed records front : ℕ) (tally counted : TallyValue)
      (before kept : K) (p : IsPassing S P old self piece passed fed records tally before) → old.finished ≡ false
      → (k : (next : RecordValue) × S kept (p.so_far ++ next ∷ []) × JudgesFront (at_line self.finished tally p.so_far)
      (drop (passed.used + fed) piece) front None (at_line self.finished counted (p.so_far ++ next ∷ [])))
      → IsPassing S P old self piece passed (fed + front) (records + 1) counted kept
  one_more old self piece passed fed records front tally counted before kept p fresh k =
      let at = at_line self.finished tally p.so_far in
      let more = at_line self.finished counted (p.so_far ++ k.0 ∷ []) in
      let a : Advances at (drop fed (drop passed.used piece)) front None more
      = subst (λ (rest : List ℕ). Advances at rest front None more) (sym (drop-drop passed.used fed piece))
      (advanced_front at more (drop (passed.used + fed) piece) front None refl (p.passes.finished ∙ fresh) k.2) in
      let f = fed_more self at more (drop passed.used piece) fed front p.fed_on a in
      record {
        passes = p.passes;
        so_far = p.so_far ++ k.0 ∷ [];
        stands = k.1;
        counted = omega (arith, p.counted, length-append p.so_far (k.0 ∷ []));
        fed_on = f;
        few = omega (arith, p.few, a.some);
        fewer = p.fewer;
      }

  -- what of the piece is left grows less
  pub one_more_smaller : (old self : Standing) (piece : List ℕ) (passed : Passed) (fed records front : ℕ)
      (tally counted : TallyValue) (before kept : K) (p : IsPassing S P old self piece passed fed records tally before)
      → old.finished ≡ false
      → (k : (next : RecordValue) × S kept (p.so_far ++ next ∷ []) × JudgesFront (at_line self.finished tally p.so_far)
      (drop (passed.used + fed) piece) front None (at_line self.finished counted (p.so_far ++ next ∷ [])))
      → length piece - (passed.used + (fed + front)) < length piece - (passed.used + fed)
  one_more_smaller old self piece passed fed records front tally counted before kept p fresh k =
      let a =
      advanced_front (at_line self.finished tally p.so_far) (at_line self.finished counted (p.so_far ++ k.0 ∷ []))
      (drop (passed.used + fed) piece) front None refl (p.passes.finished ∙ fresh) k.2 in
      omega (arith, a.some, a.within, length-drop (passed.used + fed) piece)

  -- one transaction more
  pub passed_more : (old self new : Standing) (piece : List ℕ) (passed : Passed) (fed records front : ℕ) (tally : TallyValue)
      (before : K) (p : IsPassing S P old self piece passed fed records tally before) → old.finished ≡ false
      → P p.so_far → JudgesFront (at_line self.finished tally p.so_far) (drop (passed.used + fed) piece) front
      (Some (transaction_out p.so_far)) new
      → Passes P old piece (record
      { used = passed.used + (fed + front); transactions = passed.transactions + 1; records = passed.records + records }) new
  passed_more old self new piece passed fed records front tally before p fresh clean j =
      let at = at_line self.finished tally p.so_far in
      let out = transaction_out p.so_far in
      let a : Advances at (drop fed (drop passed.used piece)) front (Some out) new
      = subst (λ (rest : List ℕ). Advances at rest front (Some out) new) (sym (drop-drop passed.used fed piece))
      (advanced_front at new (drop (passed.used + fed) piece) front (Some out) refl (p.passes.finished ∙ fresh) j) in
      passes_more P old self new piece passed (fed + front) records p.so_far p.passes clean p.counted
      (fed_through self at new (drop passed.used piece) fed front out p.fed_on a)

  -- and another begins
  pub begins_next : (old : Standing) (finished : Bool) (tally : TallyValue) (line : HeldLine) (piece : List ℕ) (passed : Passed)
      (kept : K) → Passes P old piece passed (waiting finished tally line) → finished ≡ false
      → passed.records ≤ passed.used → passed.transactions ≤ passed.used → BeginsWaiting S (waiting finished tally line) kept
      → IsPassing S P old (waiting finished tally line) piece passed 0 1 tally kept
  begins_next old finished tally line piece passed kept p fresh few fewer b = record {
    passes = p;
    so_far = b.header ∷ [];
    stands = b.stands;
    counted = refl;
    fed_on =
        fed_none (waiting finished tally line) (at_line finished tally (b.header ∷ [])) (drop passed.used piece) p.ready fresh
        b.enters;
    few = omega (arith, few);
    fewer = fewer;
  }

  -- the numbers after it
  pub few_more : (old self new : Standing) (piece : List ℕ) (passed : Passed) (fed records front : ℕ) (tally : TallyValue)
      (before : K) (p : IsPassing S P old self piece passed fed records tally before)
      → JudgesFront (at_line self.finished tally p.so_far) (drop (passed.used + fed) piece) front
      (Some (transaction_out p.so_far)) new
      → (passed.records + records ≤ passed.used + (fed + front)) × (passed.transactions + 1 ≤ passed.used + (fed + front))
  few_more old self new piece passed fed records front tally before p j =
      let some = ends_used (at_line self.finished tally p.so_far) new (drop (passed.used + fed) piece) front p.so_far j in
      (omega (arith, some, p.few), omega (arith, some, p.fewer))

  -- what of the piece is left grows less with it
  pub ends_smaller : (old self new : Standing) (piece : List ℕ) (passed : Passed) (fed records front : ℕ) (tally : TallyValue)
      (before : K) (p : IsPassing S P old self piece passed fed records tally before) → old.finished ≡ false
      → JudgesFront (at_line self.finished tally p.so_far) (drop (passed.used + fed) piece) front
      (Some (transaction_out p.so_far)) new
      → length piece - ((passed.used + (fed + front)) + 0) < length piece - (passed.used + fed)
  ends_smaller old self new piece passed fed records front tally before p fresh j =
      let some = ends_used (at_line self.finished tally p.so_far) new (drop (passed.used + fed) piece) front p.so_far j in
      let a =
      advanced_front (at_line self.finished tally p.so_far) new (drop (passed.used + fed) piece) front
      (Some (transaction_out p.so_far)) refl (p.passes.finished ∙ fresh) j in
      omega (arith, some, a.within, length-drop (passed.used + fed) piece)

-- ---- from a reader

none_passed_bytes : (P : List RecordValue → Type 0) (d : Standing) (left : Option (List ℕ))
    → PassesOver P d left (record { used = 0; transactions = 0; records = 0 }) d left
none_passed_bytes P d left = record {
  bytes = [];
  consumed = Consumes-nil left;
  wholes = [];
  clean = tt;
  transactions = refl;
  records = refl;
  stands =
      λ input given st. subst (λ (x : List ℕ). Represents d x (given ++ [])) (sym (append-nil input))
      (subst (Represents d input) (sym (append-nil given)) st);
  live = inr (refl, refl, refl);
  spent = λ h. still left h;
  limits = refl;
}
  where
    still : (l : Option (List ℕ)) → IsSpent d l → IfSome l (λ _. IsSpent d l)
    still None h = tt
    still (Some xs) h = h

pub passes_nothing : (P : List RecordValue → Type 0) (d same : Standing) (left : Option (List ℕ)) (passed : Passed)
    → passed ≡ record { used = 0; transactions = 0; records = 0 } → same ≡ d → PassesOver P d left passed same left
passes_nothing P d same left passed e f =
    subst (λ (q : Passed). PassesOver P d left q same left) (sym e) (subst
    (λ (q : Standing). PassesOver P d left (record { used = 0; transactions = 0; records = 0 }) q left) (sym f)
    (none_passed_bytes P d left))

-- once the header that waits is entered, transactions of the piece are passed over
pub passes_shown : (P : List RecordValue → Type 0) (old between new : Standing) (left after : Option (List ℕ)) (piece : List ℕ)
    (passed : Passed) → FeedsOn 0 old left between left → Passes P between piece passed new → Consumes left after
    (take passed.used piece)
    → PassesOver P old left passed new after
passes_shown P old between new left after piece passed f p consumed = record {
  bytes = f.bytes ++ take passed.used piece;
  consumed = Consumes-trans left left after f.bytes (take passed.used piece) f.consumed consumed;
  wholes = p.wholes;
  clean = p.clean;
  transactions = p.transactions;
  records = p.records;
  stands =
      λ input given st. subst (λ (x : List ℕ). Represents new x (given ++ map items.Transaction p.wholes))
      (append_assoc input f.bytes (take passed.used piece)) (p.stands (input ++ f.bytes) given (f.stands input given st));
  live = inl (p.live (ap again f.reading));
  spent = λ _. fresh left;
  limits = p.limits ∙ f.limits;
}
  where
    fresh : (l : Option (List ℕ)) → IfSome l (λ _. IsSpent new after)
    fresh None = tt
    fresh (Some xs) = λ is. absurd (true≢false (sym is ∙ p.finished ∙ f.fresh))
