-- What a decoder represents after an accepted record.
use Rattle.std.proofs.Common.{◌≡◌, ℕ, ◌≤◌, Bool, true, false, cond, List, [], ◌∷◌, ◌++◌, length, map, Option, Some, None, refl}
use Rattle.std.proofs.Common.{sym, ap, subst, ◌∙◌, append-nil, arith, true≢false}
use Rattle.std.specs.Prelude.{IfSome}
use Rattle.cwr_fields.specs.declared.kinds.Kind.{Kind}
use Rattle.cwr_fields.specs.declared.kinds.Kind.TheVariants.{Hdr, Grh, Grt, Trl}
use Rattle.cwr_lines.specs.Format.Records.{RecordValue}
use Rattle.cwr_lines.specs.Steps.Held.{IsHeld, empty_line}
use Rattle.cwr_shape.specs.declared.symbols.Symbol.{Symbol}
use Rattle.cwr_shape.specs.declared.symbols.Symbol.TheVariants.{Plain}
use Rattle.cwr_shape.specs.Format.Outlines.{IsWhole, Continues}
use Rattle.cwr_shape.specs.Format.AnyTransmission.{Any}
use Rattle.cwr_shape.specs.Format.Ranges.{AreInRange}
use Rattle.cwr_shape.specs.Format.NextSymbols as tallies_there
use Rattle.cwr_shape.specs.Format.NextSymbols.{scope_by, scope_after}
use Rattle.cwr_shape.specs.Steps.Tallies.{TallyValue}
use Rattle.cwr_shape.proofs.lemmas.OneMore.{last_or-snoc}
use Rattle.cwr_shape.proofs.lemmas.WithinByFronts.{none_passed}
use Rattle.cwr_values.specs.declared.items.Item.{Item}
use Rattle.cwr_values.specs.declared.items.Item.TheVariants as items
use Rattle.cwr_values.specs.Format.Values.{symbol_of, symbol_by}
use Rattle.cwr_values.proofs.lemmas.OneTransmissionOfRecords.{plain_kind}
use Rattle.cwr_decode.specs.declared.outcomes.Outcome.{Outcome}
use Rattle.cwr_decode.specs.declared.outcomes.Outcome.TheVariants as outcomes
use Rattle.cwr_decode.specs.declared.machine.State.TheVariants as states
use Rattle.cwr_fields.specs.Format.Kinds.{is_in_transaction}
use Rattle.cwr_decode.specs.Steps.Machines.{Standing, Empties, Enters, EntersTransaction, held_list, reading, stopped, held_of}
use Rattle.cwr_judge.specs.Steps.Open.{items_so_far, open_of, item_of}
use Rattle.cwr_decode.specs.Steps.Represents.{AreAccepted, IsInput, Represents, items_in, text_of}
use Rattle.cwr_judge.proofs.lemmas.Trailers.{trailer_ends, whole_ends}

-- ---- lists

map-snoc : (records : List RecordValue) (r : RecordValue)
    → map symbol_of (records ++ r ∷ []) ≡ map symbol_of records ++ symbol_of r ∷ []
map-snoc [] r = refl
map-snoc (q ∷ records) r = ap (λ (xs : List Symbol). symbol_of q ∷ xs) (map-snoc records r)

pub symbols-snoc : (records : List RecordValue) (r : RecordValue)
    → map symbol_of (records ++ r ∷ []) ≡ map symbol_of records ++ symbol_of r ∷ []
symbols-snoc records r = map-snoc records r

-- no more records were read than the limit allows
pub few_records : (tally : TallyValue) (lines : List (List ℕ)) (records : List RecordValue) → AreInRange tally.limits
    → AreAccepted tally lines records → length (map symbol_of records) ≤ 99999999
few_records tally lines records in_range read =
    let keeps =
    none_passed tally.limits (map symbol_of records)
    (read.within (map symbol_of records) [] (sym (append-nil (map symbol_of records)))) in
    omega (arith, keeps.records, in_range.most_records)

-- ---- an accepted record

-- A record of the kind was accepted after others, and isn't entered yet: the items given so far are those before its own,
-- and the records held those of the open transaction before it.
pub record MayEnter (d : Standing) (input : List ℕ) (given : List Item) (kind : Kind) (r : RecordValue) : Type 0 where
  pub of_kind : r.kind ≡ kind
  pub in_range : AreInRange d.tally.limits
  pub lines : List (List ℕ)
  pub records : List RecordValue
  pub read : AreAccepted d.tally lines (records ++ r ∷ [])
  pub split : IsInput d.finished input (text_of lines)
  pub given_are : given ++ item_of kind r ≡ items_so_far (records ++ r ∷ [])
  pub open_now : open_of (records ++ r ∷ []) ≡ cond (is_in_transaction kind) (held_list d.held ++ r ∷ []) []
  pub none : is_in_transaction kind ≡ false → d.held ≡ None

held_snoc : (records : List RecordValue) (r : RecordValue) → Some (records ++ r ∷ []) ≡ held_of (records ++ r ∷ [])
held_snoc [] r = refl
held_snoc (q ∷ records) r = refl

no_line : (input : List ℕ) (lines : List (List ℕ)) (finished : Bool) → IsInput finished input (text_of lines)
    → IsInput finished input (text_of lines ++ [])
no_line input lines finished s = subst (IsInput finished input) (sym (append-nil (text_of lines))) s

empty_held : IsHeld empty_line
empty_held = record { no_lf = refl; short = omega arith; full = tt }

-- the last record isn't TRL
not_whole : (kind : Kind) (records : List RecordValue) (r : RecordValue) → r.kind ≡ kind → (kind ≡ Trl → ⊥)
    → IsWhole (map symbol_of (records ++ r ∷ [])) → ⊥
not_whole kind records r e no_trailer w =
    no_trailer
    (sym e ∙ plain_kind r.kind r Trl (whole_ends (map symbol_of records) (symbol_of r) (subst IsWhole (map-snoc records r) w)))

-- reading continues after a record
reads_on : (d : Standing) (input : List ℕ) (given : List Item) (kind : Kind) (r : RecordValue) (held : Option (List RecordValue))
    (m : MayEnter d input given kind r) → (kind ≡ Trl → ⊥) → held ≡ held_of (open_of (m.records ++ r ∷ []))
    → Represents (reading d held) input (given ++ item_of kind r)
reads_on d input given kind r held m no_trailer h = record {
  in_range = m.in_range;
  here = record {
    lines = m.lines;
    records = m.records ++ r ∷ [];
    read = m.read;
    left = not_whole kind m.records r m.of_kind no_trailer;
    split = no_line input m.lines d.finished m.split;
    open_line = refl;
    line = empty_held;
    held = h;
    given_are = m.given_are;
  };
}

-- an item of its own
around : (d : Standing) (input : List ℕ) (given : List Item) (kind : Kind) (r : RecordValue) (item : Item) (out : Option Outcome)
    (new : Standing) → MayEnter d input given kind r → (kind ≡ Trl → ⊥)
    → is_in_transaction kind ≡ false → item_of kind r ≡ item ∷ [] → (out ≡ Some (outcomes.Item item)) × (new ≡ reading d d.held)
    → Represents new input (given ++ items_in out)
around d input given kind r item out new m no_trailer outside own e =
    let nothing : open_of (m.records ++ r ∷ []) ≡ [] =
    m.open_now ∙ ap (λ (b : Bool). cond b (held_list d.held ++ r ∷ []) []) outside in
    let held : d.held ≡ held_of (open_of (m.records ++ r ∷ [])) = m.none outside ∙ sym (ap held_of nothing) in
    let own_item : item_of kind r ≡ items_in out = own ∙ sym (ap items_in e.0) in
    subst (λ (q : Standing). Represents q input (given ++ items_in out)) (sym e.1)
    (subst (λ (is : List Item). Represents (reading d d.held) input (given ++ is)) own_item
    (reads_on d input given kind r d.held m no_trailer held))

-- the place after a record inside a transaction
pub inside_last : (kind : Kind) (records : List RecordValue) (r : RecordValue) → r.kind ≡ kind → is_in_transaction kind ≡ true
    → tallies_there.has_open_transaction (scope_after (map symbol_of (records ++ r ∷ []))) ≡ true
inside_last kind records r e h =
    ap (λ (xs : List Symbol). tallies_there.has_open_transaction (scope_after xs)) (map-snoc records r)
    ∙ ap (λ (o : Option Symbol). tallies_there.has_open_transaction (scope_by o))
    (last_or-snoc None (map symbol_of records) (symbol_of r) ∙ ap (λ (k : Kind). Some (symbol_by k r)) e)
    ∙ by kind h
  where
    by : (k : Kind) → is_in_transaction k ≡ true → tallies_there.has_open_transaction (scope_by (Some (symbol_by k r))) ≡ true
    by Hdr f = absurd (true≢false (sym f))
    by Grh f = absurd (true≢false (sym f))
    by Grt f = absurd (true≢false (sym f))
    by Trl f = absurd (true≢false (sym f))
    by k f = refl

-- a record inside a transaction
inside : (d : Standing) (input : List ℕ) (given : List Item) (kind : Kind) (r : RecordValue) (out : Option Outcome)
    (new : Standing) → MayEnter d input given kind r → (kind ≡ Trl → ⊥) → is_in_transaction kind ≡ true → item_of kind r ≡ []
    → EntersTransaction r d out new → Represents new input (given ++ items_in out)
inside d input given kind r None new m no_trailer within own e =
    let opened : open_of (m.records ++ r ∷ []) ≡ held_list d.held ++ r ∷ [] =
    m.open_now ∙ ap (λ (b : Bool). cond b (held_list d.held ++ r ∷ []) []) within in
    let held : Some (held_list d.held ++ r ∷ []) ≡ held_of (open_of (m.records ++ r ∷ [])) =
    held_snoc (held_list d.held) r ∙ sym (ap held_of opened) in
    subst (λ (q : Standing). Represents q input (given ++ [])) (sym e)
    (subst (λ (is : List Item). Represents (reading d (Some (held_list d.held ++ r ∷ []))) input (given ++ is)) own
    (reads_on d input given kind r (Some (held_list d.held ++ r ∷ [])) m no_trailer held))
inside d input given kind r (Some o) new m no_trailer within own e =
    let all_items : given ++ items_in (Some o) ≡ items_so_far (m.records ++ r ∷ []) =
    ap (λ (x : Outcome). given ++ items_in (Some x)) e.0 ∙ ap (λ (is : List Item). given ++ is) (sym own) ∙ m.given_are in
    subst (λ (q : Standing). Represents q input (given ++ items_in (Some o))) (sym e.1)
    (record {
      in_range = m.in_range;
      here = record {
        through =
            record {
              lines = m.lines;
              records = m.records ++ r ∷ [];
              read = m.read;
              split = m.split;
              empty = refl;
              nothing = refl;
              given_are = all_items;
            };
        inside = inside_last kind m.records r m.of_kind within;
        earlier = held_list d.held;
        last = r;
        opened = m.open_now ∙ ap (λ (b : Bool). cond b (held_list d.held ++ r ∷ []) []) within;
        asked = e.2;
      };
    })

-- TRL
last : (d : Standing) (input : List ℕ) (given : List Item) (r : RecordValue) (out : Option Outcome) (new : Standing)
    → MayEnter d input given Trl r → Enters Trl r d out new → Represents new input (given ++ items_in out)
last d input given r out new m e =
    let symbol : symbol_of r ≡ Plain Trl = ap (λ (k : Kind). symbol_by k r) m.of_kind in
    let symbols : map symbol_of (m.records ++ r ∷ []) ≡ map symbol_of m.records ++ Plain Trl ∷ [] =
    map-snoc m.records r ∙ ap (λ (s : Symbol). map symbol_of m.records ++ s ∷ []) symbol in
    let whole : IsWhole (map symbol_of (m.records ++ r ∷ [])) =
    subst IsWhole (sym symbols)
    (trailer_ends (map symbol_of m.records) (subst (Continues Any) symbols m.read.counted.stands.begins)) in
    subst (λ (q : Standing). Represents q input (given ++ items_in out)) (sym e.1)
    (subst (λ (o : Option Outcome). Represents (stopped d states.Ended) input (given ++ items_in o)) (sym e.0)
    (record {
      in_range = m.in_range;
      here = record {
        through = record {
          lines = m.lines;
          records = m.records ++ r ∷ [];
          read = m.read;
          split = m.split;
          empty = refl;
          nothing = refl;
          given_are = m.given_are;
        };
        whole = whole;
      };
    }))

pub enters_stands : (d : Standing) (input : List ℕ) (given : List Item) (kind : Kind) (r : RecordValue) (out : Option Outcome)
    (new : Standing) → MayEnter d input given kind r → Enters kind r d out new
    → Represents new input (given ++ items_in out)
enters_stands d input given Hdr r out new m e = around d input given Hdr r _ out new m (λ z. cc z) refl refl e
enters_stands d input given Grh r out new m e = around d input given Grh r _ out new m (λ z. cc z) refl refl e
enters_stands d input given Grt r out new m e = around d input given Grt r _ out new m (λ z. cc z) refl refl e
enters_stands d input given Trl r out new m e = last d input given r out new m e
enters_stands d input given kind r out new m e = inside d input given kind r out new m (λ z. cc z) refl refl e

-- ---- what isn't held after an accepted record

pub empties_by : (new is : Standing) (out o : Option Outcome) → out ≡ o → new ≡ is → IfSome o (λ x. Empties x is)
    → IfSome out (λ x. Empties x new)
empties_by new is out o e f h =
    subst (λ (q : Option Outcome). IfSome q (λ x. Empties x new)) (sym e)
    (subst (λ (q : Standing). IfSome o (λ x. Empties x q)) (sym f) h)

inside_empties : (d new : Standing) (r : RecordValue) (out : Option Outcome) → EntersTransaction r d out new
    → IfSome out (λ o. Empties o new)
inside_empties d new r None e = tt
inside_empties d new r (Some o) e =
    empties_by new (stopped d states.Memory) (Some o) (Some outcomes.Memory) (ap (λ (x : Outcome). Some x) e.0) e.1 tt

pub enters_empties : (d : Standing) (input : List ℕ) (given : List Item) (kind : Kind) (r : RecordValue) (out : Option Outcome)
    (new : Standing) → MayEnter d input given kind r → Enters kind r d out new
    → IfSome out (λ o. Empties o new)
enters_empties d input given Hdr r out new m e =
    empties_by new (reading d d.held) out (Some (outcomes.Item (items.Opened r))) e.0 e.1 (refl, m.none refl)
enters_empties d input given Grh r out new m e =
    empties_by new (reading d d.held) out (Some (outcomes.Item (items.GroupOpened r))) e.0 e.1 (refl, m.none refl)
enters_empties d input given Grt r out new m e =
    empties_by new (reading d d.held) out (Some (outcomes.Item (items.GroupClosed r))) e.0 e.1 (refl, m.none refl)
enters_empties d input given Trl r out new m e =
    empties_by new (stopped d states.Ended) out (Some (outcomes.Item items.Ended)) e.0 e.1 (refl, refl)
enters_empties d input given kind r out new m e = inside_empties d new r out e
