-- What is told of the parts of a split that are finished.
use Rattle.std.proofs.Common.{◌≡◌, ℕ, suc, ◌+◌, Bool, false, List, [], ◌∷◌, ◌++◌, length, Option, Some, None, refl, sym, ap, subst, ◌∙◌, true≢false, arith, length-append}
use Rattle.std.proofs.lemmas.Option.{none-some}
use Rattle.std.specs.Prelude.{IfSome, IsSome}
use Rattle.cwr_devices.specs.Format.Outputs.{AddsText}
use Rattle.cwr_files.specs.Format.Files.{Texts, Turns, put}
use Rattle.cwr_files.specs.Format.Parts.{HoldsParts, LeavesParts, cells_after, created_parts, later_parts, part_name, put_parts}
use Rattle.cwr_files.specs.Format.Stamps.{created_by, later_cells, with_created}
use Rattle.cwr_files.specs.Steps.NumberedFiles.{AreUnasked, HasEnded, IsTied, RestsAt, Stands, StandsAt, StartsAs, WhereTold, created_of, has_stopped, known_texts, lent_of}
use Rattle.cwr_files.specs.Steps.NumberedFiles.{prefix_of, told_texts, with_first, written_at}
use Rattle.cwr_files.proofs.lemmas.PartsInHand.{rests_end}
use Rattle.cwr_moments.specs.declared.moments.Moment.{Moment}
use Rattle.cwr_files.specs.declared.new_files.NewFile.{NewFile}
use Rattle.cwr_files.specs.declared.numberings.Numbering.{Numbering}

-- ---- one text more

abbrev with_last : Option (List (List ℕ)) → Option (List ℕ) → Option (List (List ℕ))
with_last None text = None
with_last (Some parts) None = None
with_last (Some parts) (Some text) = Some (parts ++ text ∷ [])

alone : (text : Option (List ℕ)) → with_first text (Some []) ≡ with_last (Some []) text
alone None = refl
alone (Some text) = refl

first_and_last : (one other : Option (List ℕ)) (parts : Option (List (List ℕ)))
    → with_first one (with_last parts other) ≡ with_last (with_first one parts) other
first_and_last None other parts = refl
first_and_last (Some one) other None = refl
first_and_last (Some one) None (Some parts) = refl
first_and_last (Some one) (Some other) (Some parts) = refl

known_more : {W : Type 0} (contents : W → Option (List ℕ)) (writers : List W) (writer : W)
    → known_texts contents (writers ++ writer ∷ []) ≡ with_last (known_texts contents writers) (contents writer)
known_more contents [] writer = alone (contents writer)
known_more contents (w ∷ writers) writer =
    ap (with_first (contents w)) (known_more contents writers writer)
    ∙ first_and_last (contents w) (contents writer) (known_texts contents writers)

put_more : (prefix : List ℕ) (number : ℕ) (parts : List (List ℕ)) (text : List ℕ) (texts : Texts)
    → put_parts prefix number (parts ++ text ∷ []) texts
    ≡ put (part_name prefix (number + length parts)) (Some text) (put_parts prefix number parts texts)
put_more prefix number [] text texts = ap (λ (n : ℕ). put (part_name prefix n) (Some text) texts) (omega arith)
put_more prefix number (part ∷ parts) text texts =
    put_more prefix (number + 1) parts text (put (part_name prefix number) (Some part) texts)
    ∙ ap (λ (n : ℕ). put (part_name prefix n) (Some text)
    (put_parts prefix (number + 1) parts (put (part_name prefix number) (Some part) texts))) (omega arith)

later_more : (first : Moment) (seconds : ℕ) (parts : List (List ℕ)) (text : List ℕ)
    → later_parts first seconds (parts ++ text ∷ [])
    ≡ later_parts first seconds parts ++ with_created (later_cells first (seconds + length parts)) text ∷ []
later_more first seconds [] text = ap (λ (n : ℕ). with_created (later_cells first n) text ∷ []) (omega arith)
later_more first seconds (part ∷ parts) text =
    ap (λ (l : List (List ℕ)). with_created (later_cells first seconds) part ∷ l) (later_more first (seconds + 1) parts text
    ∙ ap (λ (n : ℕ). later_parts first (seconds + 1) parts ++ with_created (later_cells first n) text ∷ []) (omega arith))

-- so one part more is created
created_more : (first : Option Moment) (parts : List (List ℕ)) (text : List ℕ)
    → created_parts first (parts ++ text ∷ []) ≡ created_parts first parts ++ created_by (cells_after first (length parts)) text ∷ []
created_more None parts text = refl
created_more (Some first) parts text =
    later_more first 0 parts text
    ∙ ap (λ (n : ℕ). later_parts first 0 parts ++ with_created (later_cells first n) text ∷ []) (omega arith)

later_length : (first : Moment) (seconds : ℕ) (parts : List (List ℕ)) → length (later_parts first seconds parts) ≡ length parts
later_length first seconds [] = refl
later_length first seconds (part ∷ parts) = ap suc (later_length first (seconds + 1) parts)

-- they are as many
pub created_length : (first : Option Moment) (parts : List (List ℕ)) → length (created_parts first parts) ≡ length parts
created_length None parts = refl
created_length (Some first) parts = later_length first 0 parts

-- ---- what lies under names

pub tied_more : {W : Type 0} (contents : W → Option (List ℕ)) (writers : List W) (writer : W) (before : Option Texts) (prefix : List ℕ)
    (old : ℕ) (numbering next : Numbering) (making writing : Option (List ℕ)) (held now : Option Texts) (failures after : ℕ)
    → WhereTold before (known_texts contents writers) (IsTied prefix old numbering making held failures)
    → (IsSome before → prefix_of numbering ≡ prefix) → created_of next ≡ created_of numbering
    → ((texts : Texts) (count start : ℕ) (text : List ℕ) → Stands numbering making held failures texts count start → contents writer ≡ Some text
    → Stands next writing now after (put (part_name (prefix_of numbering) (count + 1))
    (Some (created_by (cells_after (created_of numbering) count) text)) texts) (count + 1) start)
    → WhereTold before (known_texts contents (writers ++ writer ∷ [])) (IsTied prefix old next writing now after)
tied_more contents writers writer before prefix old numbering next making writing held now failures after h called same k =
    subst (λ (known : Option (List (List ℕ))). WhereTold before known (IsTied prefix old next writing now after))
    (sym (known_more contents writers writer)) (by before (known_texts contents writers) (contents writer) h called k)
  where
    by : (b : Option Texts) (known : Option (List (List ℕ))) (text : Option (List ℕ))
        → WhereTold b known (IsTied prefix old numbering making held failures) → (IsSome b → prefix_of numbering ≡ prefix)
        → ((texts : Texts) (count start : ℕ) (t : List ℕ) → Stands numbering making held failures texts count start → text ≡ Some t
        → Stands next writing now after (put (part_name (prefix_of numbering) (count + 1))
        (Some (created_by (cells_after (created_of numbering) count) t)) texts) (count + 1) start)
        → WhereTold b (with_last known text) (IsTied prefix old next writing now after)
    by None known text t c j = tt
    by (Some texts) None text t c j = tt
    by (Some texts) (Some parts) None t c j = tt
    by (Some texts) (Some parts) (Some text) t c j =
        let created = created_of numbering in
        let made = created_parts created parts in
        let last = created_by (cells_after created (length parts)) text in
        let base = put_parts prefix 1 made texts in
        let put_here = ap (λ (q : List ℕ). put (part_name q (length parts + 1)) (Some last) base) (c refl)
        ∙ ap (λ (n : ℕ). put (part_name prefix n) (Some last) base) (omega (arith, created_length created parts))
        ∙ sym (put_more prefix 1 made last texts) ∙ ap (λ (l : List (List ℕ)). put_parts prefix 1 l texts) (sym (created_more created parts text))
        ∙ ap (λ (m : Option Moment). put_parts prefix 1 (created_parts m (parts ++ text ∷ [])) texts) (sym same) in
        subst (λ (n : ℕ). Stands next writing now after (put_parts prefix 1 (created_parts (created_of next) (parts ++ text ∷ [])) texts) n old)
        (sym (length-append parts (text ∷ [])))
        (subst (λ (x : Texts). Stands next writing now after x (length parts + 1) old) put_here (j base (length parts) old text t refl))

-- where no part more was finished
pub tied_so : (before : Option Texts) (known : Option (List (List ℕ))) (prefix : List ℕ) (old : ℕ) (numbering next : Numbering)
    (making writing : Option (List ℕ)) (held now : Option Texts) (failures after : ℕ)
    → WhereTold before known (IsTied prefix old numbering making held failures) → created_of next ≡ created_of numbering
    → ((texts : Texts) (count start : ℕ) → Stands numbering making held failures texts count start
    → Stands next writing now after texts count start)
    → WhereTold before known (IsTied prefix old next writing now after)
tied_so None known prefix old numbering next making writing held now failures after h same k = tt
tied_so (Some texts) None prefix old numbering next making writing held now failures after h same k = tt
tied_so (Some texts) (Some parts) prefix old numbering next making writing held now failures after h same k =
    subst (λ (m : Option Moment). Stands next writing now after (put_parts prefix 1 (created_parts m parts) texts) (length parts) old)
    (sym same) (k (put_parts prefix 1 (created_parts (created_of numbering) parts) texts) (length parts) old h)

-- ---- what is told

pub told_added : {W : Type 0} (contents : W → Option (List ℕ)) (writers : List W) (writer : W) (before : Option Texts) (borrow : ℕ)
    → IfSome (contents writer) (AddsText (told_texts before borrow (known_texts contents writers))
    (told_texts before borrow (known_texts contents (writers ++ writer ∷ []))))
told_added contents writers writer before borrow =
    subst (λ (known : Option (List (List ℕ))). IfSome (contents writer)
    (AddsText (told_texts before borrow (known_texts contents writers)) (told_texts before borrow known)))
    (sym (known_more contents writers writer)) (by before (known_texts contents writers) (contents writer))
  where
    by : (b : Option Texts) (known : Option (List (List ℕ))) (text : Option (List ℕ))
        → IfSome text (AddsText (told_texts b borrow known) (told_texts b borrow (with_last known text)))
    by None known None = tt
    by None known (Some text) = tt
    by (Some texts) None None = tt
    by (Some texts) None (Some text) = tt
    by (Some texts) (Some parts) None = tt
    by (Some texts) (Some parts) (Some text) = refl

-- ---- where none was asked for

none_created : (first : Option Moment) → created_parts first [] ≡ []
none_created None = refl
none_created (Some first) = refl

pub tied_first : (before : Option Texts) (known : Option (List (List ℕ))) (prefix : List ℕ) (created : Option Moment) (old : ℕ)
    (numbering : Numbering) (making : Option (List ℕ)) (held : Option Texts) (failures : ℕ)
    → AreUnasked numbering (prefix_of numbering) numbering.created known
    → StartsAs before prefix created old making held failures (prefix_of numbering) numbering.created
    → WhereTold before known (IsTied prefix old numbering making held failures)
tied_first None known prefix created old numbering making held failures u s = tt
tied_first (Some texts) known prefix created old numbering making held failures u s =
    subst (λ (k : Option (List (List ℕ))). WhereTold (Some texts) k (IsTied prefix old numbering making held failures)) (sym u.5)
    (subst (λ (l : List (List ℕ)). Stands numbering making held failures (put_parts prefix 1 l texts) 0 old)
    (sym (none_created numbering.created))
    (subst (λ (x : Bool). StandsAt x (prefix_of numbering) numbering.asked numbering.open_file making held failures texts 0 old)
    (sym u.2)
    (subst (λ (x : Option NewFile). StandsAt false (prefix_of numbering) numbering.asked x making held failures texts 0 old) (sym u.3)
    (subst (λ (h : Option Texts). StandsAt false (prefix_of numbering) numbering.asked None making h failures texts 0 old) (sym s.1)
    (((λ n. refl), s.0, λ lt. omega (arith, s.2)), u.4)))))

pub starts_counted : (before : Option Texts) (prefix : List ℕ) (created : Option Moment) (old : ℕ) (making : Option (List ℕ))
    (held : Option Texts) (failures : ℕ) (given : List ℕ) (dated : Option Moment)
    → StartsAs before prefix created old making held failures given dated → failures ≡ old
starts_counted None prefix created old making held failures given dated s = s
starts_counted (Some texts) prefix created old making held failures given dated s = s.2

pub starts_created : (before : Option Texts) (prefix : List ℕ) (created : Option Moment) (old : ℕ) (numbering : Numbering)
    (making : Option (List ℕ)) (held : Option Texts) (failures : ℕ)
    → StartsAs before prefix created old making held failures (prefix_of numbering) numbering.created → IsSome before
    → created_of numbering ≡ created
starts_created None prefix created old numbering making held failures s some = absurd (true≢false (sym some))
starts_created (Some texts) prefix created old numbering making held failures s some = s.4

pub starts_called : (before : Option Texts) (prefix : List ℕ) (created : Option Moment) (old : ℕ) (numbering : Numbering)
    (making : Option (List ℕ)) (held : Option Texts) (failures : ℕ)
    → StartsAs before prefix created old making held failures (prefix_of numbering) numbering.created → IsSome before
    → prefix_of numbering ≡ prefix
starts_called None prefix created old numbering making held failures s some = absurd (true≢false (sym some))
starts_called (Some texts) prefix created old numbering making held failures s some = s.3

-- ---- where no more are made

none_lent : (file : Option NewFile) → written_at file ≡ 0 → file ≡ None
none_lent None e = refl
none_lent (Some made) e = absurd (omega (arith, e))

told_parts : (texts : Texts) (borrow : ℕ) (known : Option (List (List ℕ))) (mark : List ℕ) (parts : List (List ℕ))
    → told_texts (Some texts) borrow known ≡ Some (mark ∷ parts) → known ≡ Some parts
told_parts texts borrow None mark parts e = absurd (none-some (mark ∷ parts) e)
told_parts texts borrow (Some found) mark parts e = ap (λ (o : Option (List (List ℕ))). behind o) e
  where
    behind : Option (List (List ℕ)) → Option (List (List ℕ))
    behind None = None
    behind (Some []) = None
    behind (Some (one ∷ rest)) = Some rest

-- the parts stand so, none of which is in hand
parts_rest : (texts : Texts) (known : Option (List (List ℕ))) (borrow : ℕ) (mark : List ℕ) (parts : List (List ℕ)) (prefix : List ℕ)
    (created : Option Moment) (old : ℕ) (numbering : Numbering) (making : Option (List ℕ)) (held : Option Texts) (failures : ℕ)
    → WhereTold (Some texts) known (IsTied prefix old numbering making held failures) → created_of numbering ≡ created
    → prefix_of numbering ≡ prefix → lent_of numbering ≡ 0 → told_texts (Some texts) borrow known ≡ Some (mark ∷ parts)
    → RestsAt (has_stopped numbering) prefix numbering.asked making held failures (put_parts prefix 1 (created_parts created parts) texts)
    (length (created_parts created parts)) old
parts_rest texts known borrow mark parts prefix created old numbering making held failures h same called none told =
    let found = told_parts texts borrow known mark parts told in
    let stands = subst (λ (k : Option (List (List ℕ))). WhereTold (Some texts) k (IsTied prefix old numbering making held failures)) found h in
    let of_moment = subst (λ (m : Option Moment). Stands numbering making held failures
    (put_parts prefix 1 (created_parts m parts) texts) (length parts) old) same stands in
    let named = subst (λ (p : List ℕ). StandsAt (has_stopped numbering) p numbering.asked numbering.open_file making held failures
    (put_parts prefix 1 (created_parts created parts) texts) (length parts) old) called of_moment in
    let rests = subst (λ (f : Option NewFile). StandsAt (has_stopped numbering) prefix numbering.asked f making held failures
    (put_parts prefix 1 (created_parts created parts) texts) (length parts) old) (none_lent numbering.open_file none) named in
    subst (λ (n : ℕ). RestsAt (has_stopped numbering) prefix numbering.asked making held failures
    (put_parts prefix 1 (created_parts created parts) texts) n old) (sym (created_length created parts)) rests

pub parts_left : (before : Option Texts) (known : Option (List (List ℕ))) (borrow : ℕ) (mark : List ℕ) (parts : List (List ℕ))
    (prefix : List ℕ) (created : Option Moment) (old : ℕ) (numbering : Numbering) (making : Option (List ℕ)) (held : Option Texts)
    (failures : ℕ) → WhereTold before known (IsTied prefix old numbering making held failures)
    → (IsSome before → created_of numbering ≡ created) → (IsSome before → prefix_of numbering ≡ prefix) → lent_of numbering ≡ 0
    → told_texts before borrow known ≡ Some (mark ∷ parts)
    → Turns before held (LeavesParts prefix (created_parts created parts) old failures)
parts_left None known borrow mark parts prefix created old numbering making held failures h same called none told = tt
parts_left (Some texts) known borrow mark parts prefix created old numbering making held failures h same called none told =
    left held (rests_end (has_stopped numbering) prefix numbering.asked making held failures
    (put_parts prefix 1 (created_parts created parts) texts) (length (created_parts created parts)) old
    (parts_rest texts known borrow mark parts prefix created old numbering making held failures h (same refl) (called refl) none told))
  where
    left : (o : Option Texts) → HasEnded prefix None making o failures (put_parts prefix 1 (created_parts created parts) texts)
        (length (created_parts created parts)) old
        → Turns (Some texts) o (LeavesParts prefix (created_parts created parts) old failures)
    left None k = absurd k
    left (Some new) k = record { others = k.0; all = k.1 }

pub parts_whole : (before : Option Texts) (known : Option (List (List ℕ))) (borrow : ℕ) (mark : List ℕ) (parts : List (List ℕ))
    (prefix : List ℕ) (created : Option Moment) (old : ℕ) (numbering : Numbering) (making : Option (List ℕ)) (held : Option Texts)
    (failures : ℕ) → WhereTold before known (IsTied prefix old numbering making held failures)
    → (IsSome before → created_of numbering ≡ created) → (IsSome before → prefix_of numbering ≡ prefix) → lent_of numbering ≡ 0
    → told_texts before borrow known ≡ Some (mark ∷ parts) → has_stopped numbering ≡ false
    → Turns before held (HoldsParts prefix (created_parts created parts))
parts_whole None known borrow mark parts prefix created old numbering making held failures h same called none told goes = tt
parts_whole (Some texts) known borrow mark parts prefix created old numbering making held failures h same called none told goes =
    whole held (subst (λ (b : Bool). RestsAt b prefix numbering.asked making held failures
    (put_parts prefix 1 (created_parts created parts) texts) (length (created_parts created parts)) old) goes
    (parts_rest texts known borrow mark parts prefix created old numbering making held failures h (same refl) (called refl) none told))
  where
    whole : (o : Option Texts) → RestsAt false prefix numbering.asked making o failures
        (put_parts prefix 1 (created_parts created parts) texts) (length (created_parts created parts)) old
        → Turns (Some texts) o (HoldsParts prefix (created_parts created parts))
    whole None k = absurd k.0
    whole (Some new) k = k.0.0
