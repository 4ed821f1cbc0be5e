-- What lies under names once the part in hand of a split has its name or is dropped.
use Rattle.std.proofs.Common.{◌≡◌, ℕ, zero, suc, ◌+◌, ◌-◌, ◌≤◌, ◌<◌, Bool, true, false, List, Option, Some, None, refl, sym, ap, subst, ◌∙◌, true≢false, arith}
use Rattle.std.proofs.Math.Logic.{∥∥₁_elim}
use Rattle.std.proofs.lemmas.Option.{cond_some, none-some}
use Rattle.std.specs.Io.KnownBytes.{Keeps}
use Rattle.std.specs.Option.{is_some}
use Rattle.std.specs.Prelude.{Ok, IfSome}
use Rattle.std.specs.Str.{bytes_eq}
use Rattle.std.proofs.lemmas.Slice.Eq.{bytes_eq-Decides}
use Rattle.cwr_devices.specs.Format.Failures.{most_failures}
use Rattle.cwr_files.specs.Format.Files.{Same, Texts, Turns, counted_on, put}
use Rattle.cwr_files.specs.Format.Parts.{part_name}
use Rattle.cwr_files.specs.Steps.NewFiles.{EndsDropped, EndsKept, HasBegun, HasKeptCount, IsBegun, final_name}
use Rattle.cwr_files.specs.Steps.NumberedFiles.{HasEnded, IsBegunAs, IsResting, LeavesBut, LeavesBut-prop, RestsAt, Same-prop, StandsAt, written_at}
use Rattle.cwr_files.proofs.lemmas.Outs.{leaves_all}
use Rattle.cwr_files.specs.Format.Stamps.{created_by}
use Rattle.cwr_files.specs.Format.Written.{known_as, text_of_stamped}
use Rattle.cwr_files.specs.declared.new_files.NewFile.{NewFile}
use Rattle.cwr_files.specs.declared.stamps.Stamped.{Stamped}

some_is : (file made : NewFile) → Some file ≡ Some made → file ≡ made
some_is file made e = ap (λ (o : Option NewFile). by o) e
  where
    by : Option NewFile → NewFile
    by None = file
    by (Some it) = it

same_texts : (texts on : Texts) → Same texts on → on ≡ texts
same_texts texts on s = λ i n. s n i

-- ---- where parts go on

-- where nothing is being written, what goes on can end
rest_ends : (prefix : List ℕ) (making : Option (List ℕ)) (held : Option Texts) (failures : ℕ) (texts : Texts) (count old : ℕ)
    → IsResting making held failures texts old → HasEnded prefix None making held failures texts count old
rest_ends prefix making None failures texts count old h = absurd h
rest_ends prefix making (Some new) failures texts count old h = (λ n no. h.0 n, λ le lt. h.0)

pub rests_end : (stopped : Bool) (prefix : List ℕ) (asked : ℕ) (making : Option (List ℕ)) (held : Option Texts) (failures : ℕ) (texts : Texts)
    (count old : ℕ) → RestsAt stopped prefix asked making held failures texts count old
    → HasEnded prefix None making held failures texts count old
rests_end true prefix asked making held failures texts count old h = h
rests_end false prefix asked making held failures texts count old h = rest_ends prefix making held failures texts count old h.0

pub stands_ends : (stopped : Bool) (prefix : List ℕ) (asked : ℕ) (made : Option NewFile) (making : Option (List ℕ)) (held : Option Texts)
    (failures : ℕ) (texts : Texts) (count old : ℕ) → StandsAt stopped prefix asked made making held failures texts count old
    → HasEnded prefix made making held failures texts count old
stands_ends stopped prefix asked None making held failures texts count old h =
    rests_end stopped prefix asked making held failures texts count old h
stands_ends stopped prefix asked (Some made) making held failures texts count old h = h.0

-- no part is asked for any more
pub stands_stopped : (stopped : Bool) (prefix : List ℕ) (asked : ℕ) (made : Option NewFile) (making : Option (List ℕ)) (held : Option Texts)
    (failures : ℕ) (texts : Texts) (count old : ℕ) → StandsAt stopped prefix asked made making held failures texts count old
    → StandsAt true prefix asked made making held failures texts count old
stands_stopped stopped prefix asked None making held failures texts count old h =
    rests_end stopped prefix asked making held failures texts count old h
stands_stopped stopped prefix asked (Some made) making held failures texts count old h = h

-- the part in hand was asked for last
pub asked_last : (stopped : Bool) (prefix : List ℕ) (asked : ℕ) (made : Option NewFile) (making : Option (List ℕ)) (held : Option Texts)
    (failures : ℕ) (texts : Texts) (count old : ℕ) → StandsAt stopped prefix asked made making held failures texts count old
    → written_at made ≡ 1 → asked - 1 ≡ count
asked_last stopped prefix asked None making held failures texts count old h one = absurd (omega (arith, one))
asked_last stopped prefix asked (Some made) making held failures texts count old h one = omega (arith, h.1)

-- the next part may be asked for
pub stands_rests : (stopped : Bool) (prefix : List ℕ) (asked : ℕ) (made : Option NewFile) (making : Option (List ℕ)) (held : Option Texts)
    (failures : ℕ) (texts : Texts) (count old : ℕ) → StandsAt stopped prefix asked made making held failures texts count old
    → stopped ≡ false → made ≡ None → IsResting making held failures texts old × (asked ≡ count)
stands_rests true prefix asked made making held failures texts count old h s m = absurd (true≢false s)
stands_rests false prefix asked (Some file) making held failures texts count old h s m = absurd (none-some file (sym m))
stands_rests false prefix asked None making held failures texts count old h s m = h

kept_on : (old failures after : ℕ) → HasKeptCount old failures → HasKeptCount failures after → HasKeptCount old after
kept_on old failures after k l lt =
    let le : failures ≤ after = l lt in
    let one : old ≤ failures = k (omega (arith, le, lt)) in omega (arith, le, one)

-- it was asked for, and is being written, or nothing changed
pub begins : (prefix : List ℕ) (made : Option NewFile) (making was : Option (List ℕ)) (held now : Option Texts) (failures after : ℕ)
    (texts : Texts) (count old : ℕ) → IsResting making held failures texts old
    → (making ≡ None → Turns held now (IsBegunAs made (part_name prefix (count + 1)) was)) → HasKeptCount failures after
    → HasEnded prefix made was now after texts count old
begins prefix made making was None now failures after texts count old h b k = absurd h
begins prefix made making was (Some on) now failures after texts count old h b k = by made now (b h.1)
  where
    by : (m : Option NewFile) (o : Option Texts) → Turns (Some on) o (IsBegunAs m (part_name prefix (count + 1)) was)
        → HasEnded prefix m was o after texts count old
    by None None t = absurd t
    by (Some file) None t = absurd t
    by None (Some new) t = (λ n no. t.0 n ∙ h.0 n, λ le lt n. t.0 n ∙ h.0 n)
    by (Some file) (Some new) t =
        ((t.0, ∣ subst (λ (x : Texts). IsBegun file was x new) (same_texts texts on h.0) t.1 ∣₁), kept_on old failures after h.2 k)

-- so parts stand where one is in hand
pub goes_on : (stopped : Bool) (prefix : List ℕ) (asked : ℕ) (made : Option NewFile) (making : Option (List ℕ)) (held : Option Texts)
    (failures : ℕ) (texts : Texts) (count old : ℕ) → written_at made ≡ 1 → asked ≡ count + 1
    → HasEnded prefix made making held failures texts count old → StandsAt stopped prefix asked made making held failures texts count old
goes_on stopped prefix asked None making held failures texts count old one e h = absurd (omega (arith, one))
goes_on stopped prefix asked (Some made) making held failures texts count old one e h = (h, e)

-- what is so where texts are known and nothing is being written
pub where_rests : (making : Option (List ℕ)) (held : Option Texts) (failures : ℕ) (texts : Texts) (old : ℕ) (is : Type 0)
    → IsResting making held failures texts old → (making ≡ None → IfSome held (λ _. is)) → is
where_rests making None failures texts old is h k = absurd h
where_rests making (Some new) failures texts old is h k = k h.1

-- so they stand by any other words
pub stands_alike : (stopped ended : Bool) (prefix was : List ℕ) (asked on : ℕ) (made file : Option NewFile) (making : Option (List ℕ))
    (held : Option Texts) (failures : ℕ) (texts : Texts) (count old : ℕ) → ended ≡ stopped → was ≡ prefix → on ≡ asked → file ≡ made
    → StandsAt stopped prefix asked made making held failures texts count old
    → StandsAt ended was on file making held failures texts count old
stands_alike stopped ended prefix was asked on made file making held failures texts count old a b c d h =
    subst (λ (x : Bool). StandsAt x was on file making held failures texts count old) (sym a)
    (subst (λ (x : List ℕ). StandsAt stopped x on file making held failures texts count old) (sym b)
    (subst (λ (x : ℕ). StandsAt stopped prefix x file making held failures texts count old) (sym c)
    (subst (λ (x : Option NewFile). StandsAt stopped prefix asked x making held failures texts count old) (sym d) h)))

pub ends_alike : (prefix was : List ℕ) (made file : Option NewFile) (making : Option (List ℕ)) (held : Option Texts) (failures : ℕ)
    (texts : Texts) (count old : ℕ) → was ≡ prefix → file ≡ made → HasEnded prefix made making held failures texts count old
    → HasEnded was file making held failures texts count old
ends_alike prefix was made file making held failures texts count old p m h =
    subst (λ (q : List ℕ). HasEnded q file making held failures texts count old) (sym p)
    (subst (λ (f : Option NewFile). HasEnded prefix f making held failures texts count old) (sym m) h)

pub stopped_stands : (ended : Bool) (prefix was : List ℕ) (asked : ℕ) (made file : Option NewFile) (making : Option (List ℕ))
    (held : Option Texts) (failures : ℕ) (texts : Texts) (count old : ℕ) → ended ≡ true → was ≡ prefix → file ≡ made → made ≡ None
    → HasEnded prefix made making held failures texts count old → StandsAt ended was asked file making held failures texts count old
stopped_stands ended prefix was asked made file making held failures texts count old a b d none h =
    stands_alike true ended prefix was asked asked None file making held failures texts count old a b refl (d ∙ none)
    (subst (λ (f : Option NewFile). HasEnded prefix f making held failures texts count old) none h)

none_is : (file : Option NewFile) → is_some file ≡ false → file ≡ None
none_is None e = refl
none_is (Some file) e = absurd (true≢false e)

-- where no part is in hand, and none failed, the next one is asked for
pub asks : (stopped : Bool) (prefix was : List ℕ) (asked : ℕ) (file made : Option NewFile) (making writing : Option (List ℕ))
    (held now : Option Texts) (failures after : ℕ) (texts : Texts) (count old : ℕ)
    → StandsAt stopped prefix asked file making held failures texts count old → stopped ≡ false → is_some file ≡ false → was ≡ prefix
    → (file ≡ None → making ≡ None → Turns held now (IsBegunAs made (part_name prefix (asked + 1)) writing)) → HasKeptCount failures after
    → HasEnded was made writing now after texts count old × (asked ≡ count)
asks stopped prefix was asked file made making writing held now failures after texts count old h s f p b k =
    let none = none_is file f in
    let r = stands_rests stopped prefix asked file making held failures texts count old h s none in (
      subst (λ (q : List ℕ). HasEnded q made writing now after texts count old) (sym p)
          (begins prefix made making writing held now failures after texts count old r.0
          (λ quiet. subst (λ (n : ℕ). Turns held now (IsBegunAs made (part_name prefix (n + 1)) writing)) r.1 (b none quiet)) k),
      r.1,
    )

-- ---- where one is finished or dropped

pub counted_up_to : (times failures after : ℕ) → HasKeptCount (counted_on times failures) after
    → after < most_failures → (failures ≤ counted_on times failures) × (failures ≤ after)
counted_up_to zero failures after k lt = (omega arith, k lt)
counted_up_to (suc times) failures after k lt =
    let le : counted_on (suc times) failures ≤ after = k lt in (omega (arith, le, lt), omega (arith, le, lt))

-- what is left of one that is dropped
pub drops : (prefix : List ℕ) (file : Option NewFile) (made : NewFile) (making was : Option (List ℕ)) (held now : Option Texts)
    (failures most after : ℕ) (texts : Texts) (count old : ℕ) → file ≡ Some made
    → HasEnded prefix file making held failures texts count old
    → (HasBegun made making texts held → EndsDropped made most after texts now)
    → (after < most_failures → (failures ≤ most) × (failures ≤ after)) → HasEnded prefix None was now after texts count old
drops prefix None made making was held now failures most after texts count old e h d few = absurd (none-some made e)
drops prefix (Some file) made making was None now failures most after texts count old e h d few = absurd h
drops prefix (Some file) made making was (Some on) now failures most after texts count old e h d few = by now dropped
  where
    same : file ≡ made
    same = some_is file made e

    named : final_name made ≡ part_name prefix (count + 1)
    named = ap final_name (sym same) ∙ h.0.0

    begun : ∥ IsBegun made making texts on ∥₁
    begun = subst (λ (f : NewFile). ∥ IsBegun f making texts on ∥₁) same h.0.1

    dropped : IsBegun made making texts on → EndsDropped made most after texts now
    dropped b = d b

    enough : after ≤ old → after < most_failures → after ≤ most
    enough le lt =
        let both = few lt in
        let kept : old ≤ failures = h.1 (omega (arith, both.1, lt)) in
        omega (arith, both.0, kept, le)

    left : (new : Texts) (b : IsBegun made making texts on) → EndsDropped made most after texts (Some new)
        → LeavesBut (part_name prefix (count + 1)) old after texts new
    left new b k =
        let l = leaves_all made (part_name prefix (count + 1)) making most after texts on new named b k in
        (l.others, λ le lt. l.all (enough le lt) lt)

    by : (o : Option Texts) → (IsBegun made making texts on → EndsDropped made most after texts o)
        → HasEnded prefix None was o after texts count old
    by None k = ∥∥₁_elim begun (λ x y. absurd x) (λ b. k b)
    by (Some new) k =
        ∥∥₁_elim begun (LeavesBut-prop (part_name prefix (count + 1)) old after texts new) (λ b. left new b (k b))

-- one that has its name holds its text
pub rests : (A E : Type 0) (prefix text : List ℕ) (file : Option NewFile) (made : NewFile) (a : A) (making was : Option (List ℕ))
    (held now : Option Texts) (failures after : ℕ) (texts : Texts) (count old : ℕ) → file ≡ Some made
    → HasEnded prefix file making held failures texts count old
    → (HasBegun made making texts held → EndsKept {A = A} {E = E} made text failures after (Ok a) texts now)
    → was ≡ None → HasKeptCount failures after
    → IsResting was now after (put (part_name prefix (count + 1)) (Some text) texts) old
rests A E prefix text None made a making was held now failures after texts count old e h d n k = absurd (none-some made e)
rests A E prefix text (Some file) made a making was None now failures after texts count old e h d n k = absurd h
rests A E prefix text (Some file) made a making was (Some on) now failures after texts count old e h d n k = by now (λ b. d b)
  where
    same : file ≡ made
    same = some_is file made e

    named : final_name made ≡ part_name prefix (count + 1)
    named = ap final_name (sym same) ∙ h.0.0

    begun : ∥ IsBegun made making texts on ∥₁
    begun = subst (λ (f : NewFile). ∥ IsBegun f making texts on ∥₁) same h.0.1

    by : (o : Option Texts) → (IsBegun made making texts on → EndsKept {A = A} {E = E} made text failures after (Ok a) texts o)
        → IsResting was o after (put (part_name prefix (count + 1)) (Some text) texts) old
    by None c = ∥∥₁_elim begun (λ x y. absurd x) (λ b. c b)
    by (Some new) c = (
      ∥∥₁_elim begun (Same-prop (put (part_name prefix (count + 1)) (Some text) texts) new)
          (λ b. subst (λ (m : List ℕ). Same (put m (Some text) texts) new) named (c b)),
      n,
      kept_on old failures after h.1 k,
    )

-- one more is finished
pub finished : (stopped : Bool) (prefix : List ℕ) (asked : ℕ) (made : Option NewFile) (making was : Option (List ℕ)) (held now : Option Texts)
    (failures after : ℕ) (texts next : Texts) (count old : ℕ) → StandsAt stopped prefix asked made making held failures texts count old
    → written_at made ≡ 1 → IsResting was now after next old → StandsAt stopped prefix asked None was now after next (count + 1) old
finished stopped prefix asked None making was held now failures after texts next count old h one r = absurd (omega (arith, one))
finished true prefix asked (Some made) making was held now failures after texts next count old h one r =
    rest_ends prefix was now after next (count + 1) old r
finished false prefix asked (Some made) making was held now failures after texts next count old h one r = (r, h.1)

-- known bytes that are kept are these
pub kept_bytes : (a b : Option (List ℕ)) (text : List ℕ) → Keeps a b → a ≡ Some text → b ≡ Some text
kept_bytes None b text k e = absurd (none-some text e)
kept_bytes (Some xs) None text k e = absurd k
kept_bytes (Some xs) (Some ys) text k e = ap Some k ∙ e

-- where the text that was written is known, the file has it with the cells
pub of_file : {F : Type 0} (contents : F → Option (List ℕ)) (stamped : Stamped F) (text : List ℕ)
    → text_of_stamped contents stamped ≡ Some text → contents stamped.file ≡ Some (created_by stamped.cells text)
of_file contents stamped text e = by (contents stamped.file) e
  where
    by : (o : Option (List ℕ)) → known_as stamped.given.text (created_by stamped.cells stamped.given.text) o ≡ Some text
        → o ≡ Some (created_by stamped.cells text)
    by None k = absurd (none-some text k)
    by (Some held) k =
        let made = created_by stamped.cells stamped.given.text in
        let is = cond_some (bytes_eq held made) stamped.given.text text k in
        ap Some ((bytes_eq-Decides held made).0 is.0 ∙ ap (created_by stamped.cells) is.1)
