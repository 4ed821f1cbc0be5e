-- What lies under names once a part has its name or is dropped.
use Rattle.std.proofs.Common.{◌≡◌, ℕ, ◌+◌, ◌<◌, ◌≤◌, Bool, true, false, List, Option, Some, None, zero, suc, refl, sym, ap, subst, ◌∙◌, arith}
use Rattle.std.proofs.lemmas.Slice.Eq.{bytes_eq-Decides}
use Rattle.std.specs.Prelude.{Result, Ok, Err, OnErr, if◌then◌else◌}
use Rattle.std.specs.Str.{bytes_eq}
use Rattle.cwr_devices.specs.Format.Failures.{most_failures}
use Rattle.cwr_files.specs.Format.Files.{HasCounted, IsClosed, IsGivenUp, Same, SameBut, Texts, Turns, counted_on}
use Rattle.cwr_files.specs.Format.NewFiles.{LeavesNothing}
use Rattle.cwr_files.specs.Steps.NewFiles.{EndsDropped, EndsKept, HasBegun, HasKeptCount, IsDropped, IsFinished, final_name, name_of_part}
use Rattle.cwr_files.specs.declared.new_files.NewFile.{NewFile}

none_at : (texts : Texts) (part n : List ℕ) → texts part ≡ None → bytes_eq n part ≡ true → texts n ≡ None
none_at texts part n h e = ap texts ((bytes_eq-Decides n part).0 e) ∙ h

-- where nothing lies under the part's name, all is as it was
back : (part : List ℕ) (texts new : Texts) → texts part ≡ None → new part ≡ None → SameBut part texts new → Same texts new
back part texts new free gone same n = by (bytes_eq n part) refl
  where
    by : (b : Bool) → bytes_eq n part ≡ b → new n ≡ texts n
    by true t = none_at new part n gone t ∙ sym (none_at texts part n free t)
    by false t = same n t

-- the whole text has the name
whole : (b c : Bool) (x t y z : Option (List ℕ)) → x ≡ (if b then t else (if c then None else y))
    → (c ≡ true → z ≡ None) → (c ≡ false → y ≡ z) → x ≡ (if b then t else z)
whole true c x t y z e h k = e
whole false true x t y z e h k = e ∙ sym (h refl)
whole false false x t y z e h k = e ∙ k refl

kept_ok : (A E : Type 0) (made : NewFile) (text part : List ℕ) (old failures : ℕ) (a : A) (u : Unit {0}) (texts on : Texts) (now : Option Texts)
    → texts part ≡ None → SameBut part texts on
    → Turns (Some on) now (IsFinished {E = E} part (final_name made) text old failures (Ok u))
    → EndsKept {A = A} {E = E} made text old failures (Ok a) texts now
kept_ok A E made text part old failures a u texts on None free same f = absurd f
kept_ok A E made text part old failures a u texts on (Some new) free same f =
    λ n. whole (bytes_eq n (final_name made)) (bytes_eq n part) (new n) (Some text) (on n) (texts n) (f n)
    (λ e. none_at texts part n free e) (λ e. same n e)

left : (part : List ℕ) (most failures : ℕ) (texts on new : Texts) → texts part ≡ None → SameBut part texts on
    → IsDropped part most failures on new → LeavesNothing (Some part) most failures texts new
left part most failures texts on new free same d =
    let kept : SameBut part texts new = λ n e. d.0 n e ∙ same n e in
    (kept, λ le lt. back part texts new free (d.1 le lt) kept)

pub kept : {E : Type 0} (made : NewFile) (text part : List ℕ) (old failures : ℕ) (result : Result (Unit {0}) E) (texts : Texts)
    (on now : Option Texts) (making : Option (List ℕ)) → name_of_part made ≡ Some part → HasBegun made making texts on
    → (making ≡ Some part → Turns on now (IsFinished part (final_name made) text old failures result))
    → EndsKept made text old failures result texts now
kept made text part old failures result texts None now making p h f = absurd h
kept {E} made text part old failures result texts (Some on) now making p h f =
    by_result result now (f (h.is_part.2 ∙ sym (sym p ∙ h.called)))
  where
    same_part : h.part ≡ part
    same_part = cc (h.called, p)

    free : texts part ≡ None
    free = subst (λ (q : List ℕ). texts q ≡ None) same_part h.is_part.0.free

    same : SameBut part texts on
    same = subst (λ (q : List ℕ). SameBut q texts on) same_part h.is_part.1

    by_result : (r : Result (Unit {0}) E) (o : Option Texts) → Turns (Some on) o (IsFinished part (final_name made) text old failures r)
        → EndsKept made text old failures r texts o
    by_result (Ok u) o k = kept_ok (Unit {0}) E made text part old failures u u texts on o free same k
    by_result (Err e) None k = absurd k
    by_result (Err e) (Some new) k =
        subst (λ (q : Option (List ℕ)). LeavesNothing q (old + 1) failures texts new) (sym p)
        (left part (old + 1) failures texts on new free same k)

pub dropped : (made : NewFile) (part : List ℕ) (most failures : ℕ) (texts : Texts) (held on now : Option Texts)
    (making : Option (List ℕ)) → name_of_part made ≡ Some part → HasBegun made making texts held
    → Turns held on (IsGivenUp making) → Turns on now (IsDropped part most failures) → EndsDropped made most failures texts now
dropped made part most failures texts None on now making p h g d = absurd h
dropped made part most failures texts (Some was) None now making p h g d = absurd g
dropped made part most failures texts (Some was) (Some on) None making p h g d = absurd d
dropped made part most failures texts (Some was) (Some on) (Some new) making p h g d =
    let same_part : h.part ≡ part = cc (h.called, p) in
    let free : texts part ≡ None = subst (λ (q : List ℕ). texts q ≡ None) same_part h.is_part.0.free in
    let same : SameBut part texts was = subst (λ (q : List ℕ). SameBut q texts was) same_part h.is_part.1 in
    let writing : making ≡ Some part = h.is_part.2 ∙ sym (sym p ∙ h.called) in
    let gone : SameBut part was on = subst (λ (w : Option (List ℕ)). IsGivenUp w was on) writing g in
    subst (λ (q : Option (List ℕ)). LeavesNothing q most failures texts new) (sym p)
    (left part most failures texts on new free (λ n e. gone n e ∙ same n e) d)

-- ---- what is said of the end, in other counts

pub kept_alike : (A B E F : Type 0) (made : NewFile) (text : List ℕ) (old on failures : ℕ) (a : A) (b : B) (texts : Texts)
    (now : Option Texts) → EndsKept {A = A} {E = E} made text on failures (Ok a) texts now
    → EndsKept {A = B} {E = F} made text old failures (Ok b) texts now
kept_alike A B E F made text old on failures a b texts None h = absurd h
kept_alike A B E F made text old on failures a b texts (Some new) h = h

within : (old on failures : ℕ) → HasKeptCount old on → failures ≤ old + 1 → failures < most_failures → failures ≤ on + 1
within old on failures k le lt = grind (arith, k)

pub left_alike : (A B E F : Type 0) (made : NewFile) (text : List ℕ) (old on failures : ℕ) (e : E) (f : F) (texts : Texts)
    (now : Option Texts) → HasKeptCount old on → EndsKept {A = A} {E = E} made text on failures (Err e) texts now
    → EndsKept {A = B} {E = F} made text old failures (Err f) texts now
left_alike A B E F made text old on failures e f texts None k h = absurd h
left_alike A B E F made text old on failures e f texts (Some new) k h =
    (h.0, λ le lt. h.1 (within old on failures k le lt) lt)

counted_more : (times old failures : ℕ) → 1 ≤ times → failures ≤ old + 1 → failures < most_failures → failures ≤ counted_on times old
counted_more zero old failures some le lt = absurd (omega (arith, some))
counted_more (suc times) old failures some le lt = omega arith

-- what was given up wasn't kept
pub unkept : (A E : Type 0) (made : NewFile) (text : List ℕ) (times old failures : ℕ) (e : E) (texts : Texts)
    (now : Option Texts) → 1 ≤ times → EndsDropped made (counted_on times old) failures texts now
    → EndsKept {A = A} {E = E} made text old failures (Err e) texts now
unkept A E made text times old failures e texts None some h = absurd h
unkept A E made text times old failures e texts (Some new) some h =
    (h.0, λ le lt. h.1 (counted_more times old failures some le lt) lt)

some_counted : (times old : ℕ) → 1 ≤ times → counted_on times old < most_failures → old < counted_on times old
some_counted zero old some lt = absurd (omega (arith, some))
some_counted (suc times) old some lt = omega arith

pub counted_up : (times old failures : ℕ) → 1 ≤ times → HasKeptCount (counted_on times old) failures → HasCounted old failures
counted_up times old failures some k lt =
    let above : counted_on times old ≤ failures = k lt in
    let one : old < counted_on times old = some_counted times old some (omega arith) in
    omega arith

-- ---- what couldn't be kept

closed_but : {E : Type 0} (name : List ℕ) (written : Option (List ℕ)) (r : Result (Unit {0}) E) (texts new : Texts)
    → IsClosed (Some name) written r texts new → SameBut name texts new
closed_but name None (Ok u) texts new h = h
closed_but name None (Err e) texts new h = h
closed_but name (Some text) (Err e) texts new h = h
closed_but name (Some text) (Ok u) texts new h = λ n e. h n ∙ ap (λ (b : Bool). if b then Some text else texts n) e

same_but_dropped : (part : List ℕ) (most old failures : ℕ) (texts mid new : Texts) → (failures ≤ old + 1 → failures < most_failures → failures ≤ most)
    → SameBut part texts mid → IsDropped part most failures mid new → IsDropped part (old + 1) failures texts new
same_but_dropped part most old failures texts mid new few same h =
    (λ n e. h.0 n e ∙ same n e, λ le lt. h.1 (few le lt) lt)

-- what was closed, or couldn't be, is dropped
pub closed_dropped : {E : Type 0} (part : List ℕ) (making written : Option (List ℕ)) (r : Result (Unit {0}) E) (most old failures : ℕ)
    (held mid now : Option Texts) → making ≡ Some part → (failures ≤ old + 1 → failures < most_failures → failures ≤ most)
    → Turns held mid (IsClosed making written r) → Turns mid now (IsDropped part most failures)
    → Turns held now (IsDropped part (old + 1) failures)
closed_dropped part making written r most old failures None mid now m few h d = tt
closed_dropped part making written r most old failures (Some texts) None now m few h d = absurd h
closed_dropped part making written r most old failures (Some texts) (Some on) None m few h d = absurd d
closed_dropped part making written r most old failures (Some texts) (Some on) (Some new) m few h d =
    same_but_dropped part most old failures texts on new few
    (closed_but part written r texts on (subst (λ (w : Option (List ℕ)). IsClosed w written r texts on) m h)) d

turned_back : (held mid now : Option Texts) (how : Texts → Texts → Type 0)
    → ((texts mid new : Texts) → Same texts mid → how mid new → how texts new) → Turns held mid Same → Turns mid now how → Turns held now how
turned_back None mid now how so s h = tt
turned_back (Some texts) None now how so s h = absurd s
turned_back (Some texts) (Some on) None how so s h = absurd h
turned_back (Some texts) (Some on) (Some new) how so s h = so texts on new s h

-- nor changes a rename that failed anything
pub unnamed_dropped : (part : List ℕ) (most failures : ℕ) (held mid now : Option Texts) → Turns held mid Same
    → Turns mid now (IsDropped part most failures) → Turns held now (IsDropped part most failures)
unnamed_dropped part most failures held mid now s d =
    turned_back held mid now (IsDropped part most failures)
    (λ texts on new same h. (λ n e. h.0 n e ∙ same n, h.1)) s d

-- a part that was dropped leaves all as it was when it was begun
pub unfinished : (made : NewFile) (part : List ℕ) (old failures : ℕ) (texts : Texts) (held now : Option Texts)
    (making : Option (List ℕ)) → name_of_part made ≡ Some part → HasBegun made making texts held
    → (making ≡ Some part → Turns held now (IsDropped part (old + 1) failures)) → EndsDropped made (old + 1) failures texts now
unfinished made part old failures texts None now making p h d = absurd h
unfinished made part old failures texts (Some on) now making p h d = by now (d writing) where
  same_part : h.part ≡ part
  same_part = cc (h.called, p)

  writing : making ≡ Some part
  writing = h.is_part.2 ∙ sym (sym p ∙ h.called)

  free : texts part ≡ None
  free = subst (λ (q : List ℕ). texts q ≡ None) same_part h.is_part.0.free

  same : SameBut part texts on
  same = subst (λ (q : List ℕ). SameBut q texts on) same_part h.is_part.1

  by : (o : Option Texts) → Turns (Some on) o (IsDropped part (old + 1) failures) → EndsDropped made (old + 1) failures texts o
  by None k = absurd k
  by (Some new) k = subst (λ (q : Option (List ℕ)). LeavesNothing q (old + 1) failures texts new) (sym p)
      (left part (old + 1) failures texts on new free same k)

pub unfinished_file : {E : Type 0} (made : NewFile) (part : List ℕ) (r : Result (Unit {0}) E) (old failures : ℕ) (texts : Texts)
    (held now : Option Texts) (making : Option (List ℕ)) → name_of_part made ≡ Some part → HasBegun made making texts held
    → (making ≡ Some part → OnErr r (Turns held now (IsDropped part (old + 1) failures)))
    → OnErr r (EndsDropped made (old + 1) failures texts now)
unfinished_file made part (Ok u) old failures texts held now making p h d = tt
unfinished_file made part (Err e) old failures texts held now making p h d = unfinished made part old failures texts held now making p h d

-- the same in another count
pub dropped_alike : (made : NewFile) (old on failures : ℕ) (texts : Texts) (now : Option Texts) → HasKeptCount old on
    → EndsDropped made (on + 1) failures texts now → EndsDropped made (old + 1) failures texts now
dropped_alike made old on failures texts None k h = absurd h
dropped_alike made old on failures texts (Some new) k h = (h.0, λ le lt. h.1 (within old on failures k le lt) lt)

pub unkept_dropped : (made : NewFile) (times old failures : ℕ) (texts : Texts) (now : Option Texts) → 1 ≤ times
    → EndsDropped made (counted_on times old) failures texts now → EndsDropped made (old + 1) failures texts now
unkept_dropped made times old failures texts None some h = absurd h
unkept_dropped made times old failures texts (Some new) some h = (h.0, λ le lt. h.1 (counted_more times old failures some le lt) lt)
