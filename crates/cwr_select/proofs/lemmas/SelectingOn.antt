-- A selection continues with each item that is handed out.
use Rattle.std.proofs.Common.{map, ap₂}
use Rattle.std.proofs.Common.{◌≡◌, ℕ, ◌+◌, ◌≤◌, List, [], ◌∷◌, ◌++◌, length, Option, Some, None, false, refl, sym, ap, subst, ◌∙◌}
use Rattle.std.proofs.Common.{append_assoc, arith}
use Rattle.std.specs.Prelude.{Ok, IfSome}
use Rattle.std.proofs.lemmas.List.{length-append, length-map, map-append}
use Rattle.cwr_shape.specs.declared.limits.Limits.{Limits}
use Rattle.cwr_shape.specs.Format.Ranges.{LimitValues}
use Rattle.cwr_values.specs.declared.items.Item.{Item}
use Rattle.cwr_values.specs.declared.items.Item.TheVariants.{Ended, Opened}
use Rattle.cwr_values.specs.Format.Values.{TransmissionValue, FitsIn, IsTransmission}
use Rattle.cwr_judge.specs.Format.Items.{AreFirstItems, value_items}
use Rattle.cwr_decode.specs.Steps.Machines.{Standing, again}
use Rattle.cwr_decode.specs.Steps.Readings.{Reads, answer_of}
use Rattle.cwr_decode.specs.Steps.Runs.{IsReadingOn}
use Rattle.cwr_decode.proofs.lemmas.ItemsReadSoFar.{fewer_left, some_read}
use Rattle.cwr_encode.specs.Steps.Encoders.{Encodes, encoder_limits, is_stopped, target_of}
use Rattle.cwr_parts.specs.Steps.SplitOutputs.{PutsOn}
use Rattle.cwr_parts.proofs.lemmas.PutItems.{puts_more, puts_none}
use Rattle.cwr_parts.proofs.lemmas.SplittingOn.{begun_so}
use Rattle.cwr_fields.specs.declared.kinds.Kind.TheVariants as kinds
use Rattle.cwr_lines.specs.Format.Records.{RecordValue}
use Rattle.cwr_select.specs.declared.changes.Changes.{Changes}
use Rattle.cwr_select.specs.declared.changes.WorkKind.{WorkKind}
use Rattle.cwr_select.specs.declared.held.Held.{Held}
use Rattle.cwr_select.specs.declared.selecting.Selecting.{Selecting}
use Rattle.cwr_select.specs.Format.Created.{created_at}
use Rattle.cwr_select.specs.Format.Selections.{Choice, selected}
use Rattle.cwr_select.specs.Format.Sent.{sent_as}
use Rattle.cwr_select.specs.Steps.Headers.{created_item}
use Rattle.cwr_select.specs.Steps.Held.{HasRoom, held_after, held_with, items_after, items_with, none_held}
use Rattle.cwr_select.specs.Steps.Selecting.{IsControl, MayTake, TakesItem, held_of, written_of}
use Rattle.cwr_select.specs.Steps.Sent.{sent_after, sent_item, sent_with}
use Rattle.cwr_select.proofs.lemmas.CreatedItems.{created_fits, created_items, created_right, opens_with_header}
use Rattle.cwr_select.proofs.lemmas.HeldItems.{has_room, held_more, is_held, items_more}
use Rattle.cwr_select.proofs.lemmas.SelectedFits.{selected_fits}
use Rattle.cwr_select.proofs.lemmas.SelectedItems.{items_after-append, none_written, some_written}
use Rattle.cwr_select.proofs.lemmas.SentItems.{items_as}
use Rattle.cwr_select.proofs.lemmas.SentWorks.{sent_fits, sent_right}

-- so many items were handed out, and what is selected of them is written
pub record IsSelecting {W : Type 0} (limits : Limits) (changes : Changes) (choice : Choice) (d : Standing)
    (before now : Option (List ℕ))
    (contents : W → Option (List ℕ)) (failures : W → ℕ) (count : ℕ) (old s : Selecting W) : Type 0 where
  pub given : List Item
  pub reading : IsReadingOn limits d before now given
  pub handed_out : count ≡ length given
  pub held : s.held ≡ held_of changes choice given
  pub on : PutsOn contents failures (written_of changes choice given) old.encoder s.encoder

unfoldable pub none_yet : {W : Type 0} (limits : Limits) (changes : Changes) (choice : Choice) (d : Standing)
    (before now : Option (List ℕ))
    (contents : W → Option (List ℕ)) (failures : W → ℕ) (s : Selecting W) → IsReadingOn limits d before now []
    → is_stopped s.encoder ≡ false → s.held ≡ none_held
    → IsSelecting limits changes choice d before now contents failures 0 s s
none_yet limits changes choice d before now contents failures s reading unfailed held =
    record { given = []; reading = reading; handed_out = refl; held = held; on = puts_none contents failures s.encoder unfailed }

-- ---- what is written begins what is selected

front_nil : (xs ys : List Item) → xs ++ ys ≡ [] → xs ≡ []
front_nil [] ys e = refl
front_nil (x ∷ xs) ys e = absurd (cc e)

-- the items that are written with those that were handed out begin those of a transmission
pub begins_selected : (limits : Limits) (works : Option WorkKind) (choice : Choice) (v : TransmissionValue) (given rest : List Item)
    → IsTransmission v → FitsIn limits v → value_items v ≡ given ++ rest → AreFirstItems limits (sent_after works choice given)
begins_selected limits works choice v given rest whole fits e = by (selected choice v) refl
  where
    put : List Item
    put = items_after choice none_held given

    later : List Item
    later = items_after choice (held_after choice none_held given) rest

    all : items_after choice none_held (value_items v) ≡ put ++ later
    all = ap (items_after choice none_held) e ∙ items_after-append choice none_held given rest

    by : (w : Option TransmissionValue) → selected choice v ≡ w → AreFirstItems limits (sent_after works choice given)
    by None none =
        let nothing : put ≡ [] = front_nil put later (sym all ∙ none_written choice v none) in
        subst (λ (l : List Item). AreFirstItems limits (map (sent_item works) l)) (sym nothing)
        (record { value = v; whole = whole; within = fits; rest = value_items v; split = refl })
    by (Some w) some =
        let right = selected_fits limits choice v w whole fits some in
        record {
          value = sent_as works w;
          whole = sent_right works w right.0;
          within = sent_fits limits works w right.1;
          rest = map (sent_item works) (later ++ Ended ∷ []);
          split =
              items_as works w
              ∙ ap (map (sent_item works)) (some_written choice v w some ∙ ap (λ (l : List Item). l ++ Ended ∷ []) all
              ∙ append_assoc put later (Ended ∷ []))
              ∙ map-append (sent_item works) put (later ++ Ended ∷ []);
        }

-- what is written with one item more
pub sent_more : (works : Option WorkKind) (choice : Choice) (given : List Item) (item : Item)
    → sent_after works choice (given ++ item ∷ [])
    ≡ sent_after works choice given ++ sent_with works choice (held_after choice none_held given) item
sent_more works choice given item =
    ap (map (sent_item works)) (items_more choice none_held given item)
    ∙ map-append (sent_item works) (items_after choice none_held given)
    (items_with choice (held_after choice none_held given) item)

-- ---- one item more

pub next_item : {W : Type 0} (limits : Limits) (changes : Changes) (choice : Choice) (d new : Standing)
    (before left after : Option (List ℕ))
    (contents : W → Option (List ℕ)) (failures : W → ℕ) (count : ℕ) (old s : Selecting W) (reported : Option Item) (item : Item)
    (B C : Type 0) → reported ≡ Some item → (h : IsSelecting limits changes choice d before left contents failures count old s)
    → Reads d left (Ok reported) new after → IfSome (again d.state) (λ o. (Some (Ok reported) ≡ answer_of o) × B × C)
    → IsReadingOn limits new before after (h.given ++ item ∷ [])
next_item limits changes choice d new before left after contents failures count old s reported item B C e h r same =
    some_read limits d new before left after h.given reported item B C e h.reading r same

pub few_handed_out : {W : Type 0} (limits : Limits) (changes : Changes) (choice : Choice) (d new : Standing)
    (before left after : Option (List ℕ))
    (contents : W → Option (List ℕ)) (failures : W → ℕ) (count : ℕ) (old s : Selecting W) (item : Item)
    → (h : IsSelecting limits changes choice d before left contents failures count old s)
    → IsReadingOn limits new before after (h.given ++ item ∷ []) → count + 1 ≤ 199999998
few_handed_out limits changes choice d new before left after contents failures count old s item h reading =
    omega (
      arith,
      h.handed_out,
      length-append h.given (item ∷ []),
      fewer_left limits new before after (h.given ++ item ∷ []) reading,
    )

pub may_take : {W : Type 0} (limits : Limits) (changes : Changes) (choice : Choice) (d new : Standing)
    (before left after : Option (List ℕ))
    (contents : W → Option (List ℕ)) (failures : W → ℕ) (count : ℕ) (old s : Selecting W) (item : Item)
    → encoder_limits old.encoder ≡ limits → Encodes contents (contents (target_of old.encoder)) [] old.encoder
    → (h : IsSelecting limits changes choice d before left contents failures count old s)
    → IsReadingOn limits new before after (h.given ++ item ∷ [])
    → MayTake contents changes.works choice (created_item changes.created item) s
may_take limits changes choice d new before left after contents failures count old s item same encodes h reading =
    let f : Item → Item = created_item changes.created in
    let given : List Item = map f h.given in
    let held = is_held choice given in
    let few =
    few_handed_out limits changes choice d new before left after contents failures count old s item h reading in
    let first = begun_so limits new before after h.given (item ∷ []) reading in
    let split : value_items (created_at changes.created first.value) ≡ (given ++ f item ∷ []) ++ map f first.more =
    created_items changes.created first.value ∙ ap (map f) first.split ∙ map-append f h.given (item ∷ first.more)
    ∙ sym (append_assoc given (f item ∷ []) (map f first.more)) in
    let sent : List Item = sent_after changes.works choice given in
    let begun : AreFirstItems limits (sent_after changes.works choice (given ++ f item ∷ [])) =
    begins_selected limits changes.works choice (created_at changes.created first.value) (given ++ f item ∷ []) (map f first.more)
    (created_right changes.created first.value first.whole) (created_fits limits changes.created first.value first.within) split in
    let with : AreFirstItems limits (sent ++ sent_with changes.works choice s.held (f item)) =
    subst (λ (k : Held). AreFirstItems limits (sent ++ sent_with changes.works choice k (f item))) (sym h.held)
    (subst (AreFirstItems limits) (sent_more changes.works choice given (f item)) begun) in
    record {
      unfailed = h.on.unfailed;
      opening = subst (λ (k : Held). IsControl k.opening) (sym h.held) held.opening;
      head = subst (λ (k : Held). IsControl k.head) (sym h.held) held.head;
      room =
          subst HasRoom (sym h.held)
          (has_room (held_after choice none_held given) (length given) held
          (omega (arith, few, h.handed_out, length-map h.given f)));
      may = record {
        start = contents (target_of old.encoder);
        items = sent;
        encodes = h.on.more (contents (target_of old.encoder)) [] encodes;
        first =
            subst (λ (l : LimitValues). AreFirstItems l (sent ++ sent_with changes.works choice s.held (f item)))
            (sym (h.on.limits ∙ same)) with;
      };
    }

-- HDR is the item that opens it
pub opens_so : {W : Type 0} (limits : Limits) (changes : Changes) (choice : Choice) (d new : Standing)
    (before left after : Option (List ℕ)) (contents : W → Option (List ℕ)) (failures : W → ℕ) (count : ℕ) (old s : Selecting W)
    (item : Item) → (h : IsSelecting limits changes choice d before left contents failures count old s)
    → IsReadingOn limits new before after (h.given ++ item ∷ []) → (r : RecordValue) → item ≡ Opened r → r.kind ≡ kinds.Hdr
opens_so limits changes choice d new before left after contents failures count old s item h reading =
    let first = begun_so limits new before after h.given (item ∷ []) reading in
    opens_with_header first.value h.given item first.more first.whole
    (first.split ∙ sym (append_assoc h.given (item ∷ []) first.more))

unfoldable pub item_taken : {W A : Type 0} (limits : Limits) (changes : Changes) (choice : Choice) (d new : Standing)
    (before left after : Option (List ℕ)) (contents : W → Option (List ℕ)) (failures : W → ℕ) (count : ℕ)
    (old s next : Selecting W)
    (item put : Item) (x : A) → put ≡ created_item changes.created item
    → (h : IsSelecting limits changes choice d before left contents failures count old s)
    → IsReadingOn limits new before after (h.given ++ item ∷ [])
    → TakesItem contents failures changes.works (sent_with changes.works choice s.held put) (Ok x) s.encoder next.encoder
    → next.held ≡ held_with choice s.held put
    → IsSelecting limits changes choice new before after contents failures (count + 1) old next
item_taken limits changes choice d new before left after contents failures count old s next item put x e h reading writes held =
    let f : Item → Item = created_item changes.created in
    let given : List Item = map f h.given in
    let all : map f (h.given ++ item ∷ []) ≡ given ++ f item ∷ [] = map-append f h.given (item ∷ []) in
    record {
      given = h.given ++ item ∷ [];
      reading = reading;
      handed_out = omega (arith, h.handed_out, length-append h.given (item ∷ []));
      held =
          held ∙ ap₂ (λ (k : Held) (i : Item). held_with choice k i) h.held e ∙ sym (held_more choice none_held given (f item))
          ∙ ap (held_after choice none_held) (sym all);
      on =
          subst (λ (l : List Item). PutsOn contents failures l old.encoder next.encoder)
          (ap₂ (λ (k : Held) (i : Item). sent_after changes.works choice given ++ sent_with changes.works choice k i) h.held e
          ∙ sym (sent_more changes.works choice given (f item)) ∙ ap (sent_after changes.works choice) (sym all))
          (puts_more contents failures (sent_after changes.works choice given) (sent_with changes.works choice s.held put)
          old.encoder s.encoder next.encoder h.on writes);
    }
