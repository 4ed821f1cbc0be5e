-- The readers of a join have what their words name, and their failures are counted.
use Rattle.std.proofs.Common.{◌≡◌, ℕ, zero, suc, ◌+◌, ◌≤◌, ◌<◌, Bool, true, false, List, [], ◌∷◌, ◌++◌, length, take, set, map, get_or, Option, Some, Bor, refl, sym, ap, ap₂, subst, ◌∙◌, arith, append-nil, inl, inr, ltb, ltb-true, ltb-false}
use Rattle.std.specs.Prelude.{◌≢◌, ◌⊎◌, Any, IfSome, Result, Ok, Err}
use Rattle.std.specs.List.{AllZip}
use Rattle.std.specs.Iterator.{Yields}
use Rattle.std.specs.Vec.Iter.{into_iter_items, into_iter_len, into_iter_steps}
use Rattle.std.specs.declared.vec.IntoIter.{IntoIter}
use Rattle.std.specs.Io.KnownBytes.{prepend_known}
use Rattle.std.proofs.KnownBytes.{prepend_known-nil}
use Rattle.std.proofs.Math.Seq.{take-append_seam}
use Rattle.std.proofs.lemmas.Grind.{common_steps}
use Rattle.std.proofs.lemmas.List.{get_or-set_other, get_or_append_left, get_or_at, length_push, take_more, take_more_set}
use Rattle.std.proofs.lemmas.List.Elements.{All-push}
use Rattle.std.proofs.lemmas.List.Quantifiers.{Any-push}
use Rattle.cwr_devices.specs.Format.Failures.{most_failures, one_more_failure}
use Rattle.cwr_devices.specs.declared.sources.ReadAhead.{ReadAhead}
use Rattle.cwr_devices.specs.Steps.Sources.{ahead_of, inner_of}
use Rattle.cwr_files.specs.declared.inputs.Input.{Input}
use Rattle.cwr_files.specs.Format.Files.{HasCounted, Texts, counted_on}
use Rattle.cwr_files.specs.Format.Inputs.{AreTexts, AreThere}
use Rattle.cwr_files.specs.Steps.Inputs.{IsLeftOf, remaining_of}
use Rattle.cwr_files.specs.Steps.NewFiles.{HasKeptCount}
use Rattle.cwr_files.proofs.lemmas.Reads.{is_there, text_left}
use Rattle.cwr_endings.specs.declared.endings.Look.{Look}
use Rattle.cwr_endings.specs.declared.endings.Look.TheVariants as looks
use Rattle.cwr_endings.specs.Steps.Looks.{CountsLook, IsLook, follows}
use Rattle.cwr_endings.proofs.lemmas.StatusesOnTexts.{nothing_left, something_left}
use Rattle.cwr_transform.specs.Steps.Joins.{HaveTexts, LooksAfter, ReadEach, left_of, seen_with}

-- ---- what they have

zip_more : {A B : Type 0} (R : A → B → Type 0) (xs : List A) (ys : List B) (x : A) (y : B) → AllZip R xs ys → R x y
    → AllZip R (xs ++ x ∷ []) (ys ++ y ∷ [])
zip_more R [] [] x y h r = (r, tt)
zip_more R [] (z ∷ ys) x y h r = absurd h
zip_more R (z ∷ xs) [] x y h r = absurd h
zip_more R (z ∷ xs) (w ∷ ys) x y h r = (h.0, zip_more R xs ys x y h.1 r)

-- one more
pub read_more : {R : Type 0} (held : Option Texts) (standard : Option (List ℕ)) (remaining : R → Option (List ℕ))
    (names : List (Bor (List ℕ))) (readers : List R) (reader : R) (i : ℕ) (d : Bor (List ℕ)) → i < length names
    → ReadEach held standard remaining (take i names) readers → IsLeftOf held standard (Some (get_or names i d).now) (remaining reader)
    → ReadEach held standard remaining (take (i + 1) names) (readers ++ reader ∷ [])
read_more held standard remaining names readers reader i d inside h left =
    subst (λ (l : List (Bor (List ℕ))). ReadEach held standard remaining l (readers ++ reader ∷ [])) (sym (take_more names i d inside))
    (zip_more (λ name r. IsLeftOf held standard (Some name.now) (remaining r)) (take i names) readers (get_or names i d) reader h left)

-- what a reader has that has read nothing so far
pub new_left : {F I P : Type 0} (of_file : F → Option (List ℕ)) (of_standard : I → Option (List ℕ)) (reader : ReadAhead (Input F I P))
    (input : Input F I P) (held : Option Texts) (standard name : Option (List ℕ)) → inner_of reader ≡ input → ahead_of reader ≡ []
    → IsLeftOf held standard name (remaining_of of_file of_standard input)
    → IsLeftOf held standard name (left_of of_file of_standard reader)
new_left of_file of_standard reader input held standard name i a h =
    subst (λ (o : Option (List ℕ)). IsLeftOf held standard name o)
    (sym (ap₂ (λ (xs : List ℕ) (it : _). prepend_known xs (remaining_of of_file of_standard it)) a i
    ∙ prepend_known-nil (remaining_of of_file of_standard input))) h

pub have_texts : {R : Type 0} (held : Option Texts) (standard : Option (List ℕ)) (remaining : R → Option (List ℕ))
    (names : List (Bor (List ℕ))) (readers : List R) (texts : List (List ℕ)) → ReadEach held standard remaining names readers
    → AreTexts held standard (map (λ name. name.now) names) texts → HaveTexts remaining readers texts
have_texts held standard remaining [] [] [] h k = tt
have_texts held standard remaining (n ∷ names) (r ∷ readers) (t ∷ texts) h k =
    (text_left held standard n.now (remaining r) t h.0 k.0, have_texts held standard remaining names readers texts h.1 k.1)
have_texts held standard remaining [] [] (t ∷ texts) h k = absurd k
have_texts held standard remaining [] (r ∷ readers) texts h k = absurd h
have_texts held standard remaining (n ∷ names) [] texts h k = absurd h
have_texts held standard remaining (n ∷ names) (r ∷ readers) [] h k = absurd k

pub are_there : {R : Type 0} (held : Option Texts) (standard : Option (List ℕ)) (remaining : R → Option (List ℕ))
    (names : List (Bor (List ℕ))) (readers : List R) → ReadEach held standard remaining names readers
    → AreThere held standard (map (λ name. name.now) names)
are_there held standard remaining [] readers h k d within = absurd (omega (arith, within))
are_there held standard remaining (n ∷ names) [] h k d within = absurd h
are_there held standard remaining (n ∷ names) (r ∷ readers) h zero d within = is_there held standard n.now (remaining r) h.0
are_there held standard remaining (n ∷ names) (r ∷ readers) h (suc k) d within =
    are_there held standard remaining names readers h.1 k d (omega (arith, within))

pub as_many : {R : Type 0} (held : Option Texts) (standard : Option (List ℕ)) (remaining : R → Option (List ℕ))
    (names : List (Bor (List ℕ))) (readers : List R) → ReadEach held standard remaining names readers → length readers ≡ length names
as_many held standard remaining [] [] h = refl
as_many held standard remaining [] (r ∷ readers) h = absurd h
as_many held standard remaining (n ∷ names) [] h = absurd h
as_many held standard remaining (n ∷ names) (r ∷ readers) h = ap suc (as_many held standard remaining names readers h.1)

-- ---- how their failures are counted

pub kept_more : (times old on new : ℕ) → HasKeptCount old on → new ≡ counted_on times on → HasKeptCount old new
kept_more zero old on new h e below = subst (λ (n : ℕ). old ≤ n) (sym e) (h (subst (λ (n : ℕ). n < most_failures) e below))
kept_more (suc times) old on new h e below = let kept = h (omega (arith, e, below)) in omega (arith, e, below, kept)

pub counted_more : (times old on new : ℕ) → HasCounted old on → new ≡ counted_on times on → HasCounted old new
counted_more zero old on new h e below = subst (λ (n : ℕ). old < n) (sym e) (h (subst (λ (n : ℕ). n < most_failures) e below))
counted_more (suc times) old on new h e below = let kept = h (omega (arith, e, below)) in omega (arith, e, below, kept)

pub counted_now : (times old on new : ℕ) → HasKeptCount old on → 0 < times → new ≡ counted_on times on → HasCounted old new
counted_now zero old on new h some e below = absurd (omega (arith, some))
counted_now (suc times) old on new h some e below = let kept = h (omega (arith, e, below)) in omega (arith, e, below, kept)

any_push : {X : Type 0} (P : X → Type 0) (xs : List X) (y : X) → Any P (xs ++ y ∷ []) → Any P xs ⊎ P y
any_push {X = X} P xs y h = by (ltb h.0 (length xs)) refl where
  by : (b : Bool) → ltb h.0 (length xs) ≡ b → Any P xs ⊎ P y
  by true e = let less = ltb-true h.0 (length xs) e in
      inl (h.0, h.1, less, sym (get_or_append_left xs (y ∷ []) h.1 h.0 less) ∙ h.3, h.4)
  by false e =
      let at : h.0 ≡ length xs = omega (arith, ltb-false h.0 (length xs) e, length_push xs y, h.2) in
      inr (subst P (sym h.3 ∙ get_or_at xs y [] h.1 h.0 (sym at)) h.4)

-- with one that was taken back
pub counted_with : {R : Type 0} (failures : R → ℕ) (readers : List R) (reader : R) (old on new : ℕ)
    → HasKeptCount old on → (Any (λ r. 0 < failures r) readers → HasCounted old on) → new ≡ counted_on (failures reader) on
    → Any (λ r. 0 < failures r) (readers ++ reader ∷ []) → HasCounted old new
counted_with failures readers reader old on new kept counted e any =
    elim (any_push (λ r. 0 < failures r) readers reader any) [
      | inl h ↦ counted_more (failures reader) old on new (counted h) e
      | inr h ↦ counted_now (failures reader) old on new kept h e
    ]

-- ---- what was seen after each

any_longer : {X : Type 0} (P : X → Type 0) (xs : List X) (y : X) → Any P xs → Any P (xs ++ y ∷ [])
any_longer P xs y h = (h.0, h.1, grind (arith, common_steps, h.2), grind (arith, common_steps, h.2, h.3), h.4)

failed_now : {R : Type 0} (failures : R → ℕ) (reader : R) (before : ℕ) → failures reader ≡ one_more_failure before → 0 < failures reader
failed_now failures reader before e = omega (arith, e)

seen_more : {R : Type 0} (remaining : R → Option (List ℕ)) (failures : R → ℕ) (olds news : List R) (old new : R) (seen : Result Bool ℕ)
    (look : Look) (number : ℕ) → LooksAfter remaining failures olds news seen → IsLook (remaining old) (remaining new) look
    → CountsLook look (failures old) (failures new)
    → LooksAfter remaining failures (olds ++ old ∷ []) (news ++ new ∷ []) (seen_with seen look number)
seen_more remaining failures olds news old new (Err n) look number h is counts =
    any_longer (λ reader. 0 < failures reader) news new h
seen_more remaining failures olds news old new (Ok b) looks.Unasked number h is counts = absurd is
seen_more remaining failures olds news old new (Ok b) looks.Failed number h is counts =
    Any-push (λ reader. 0 < failures reader) news new (failed_now failures new (failures old) counts)
seen_more remaining failures olds news old new (Ok true) (looks.Found t) number h is counts =
    any_longer (λ reader. IfSome (remaining reader) (λ more. more ≢ [])) olds old h
seen_more remaining failures olds news old new (Ok false) (looks.Found t) number h is counts = by (follows t) refl where
  by : (b : Bool) → follows t ≡ b → LooksAfter remaining failures (olds ++ old ∷ []) (news ++ new ∷ []) (Ok b)
  by true e = Any-push (λ reader. IfSome (remaining reader) (λ more. more ≢ [])) olds old (something_left (remaining old) (remaining new) t is e)
  by false e = All-push (λ reader. IfSome (remaining reader) (λ more. more ≡ [])) olds old h (nothing_left (remaining old) (remaining new) t is e)

-- one reader more was looked at, in its place among them
pub look_more : {R : Type 0} (remaining : R → Option (List ℕ)) (failures : R → ℕ) (olds news : List R) (new d : R) (i : ℕ)
    (seen now : Result Bool ℕ) (look : Look) → i < length olds → i < length news → get_or news i d ≡ get_or olds i d
    → LooksAfter remaining failures (take i olds) (take i news) seen → IsLook (remaining (get_or news i d)) (remaining new) look
    → CountsLook look (failures (get_or news i d)) (failures new) → now ≡ seen_with seen look (i + 1)
    → LooksAfter remaining failures (take (i + 1) olds) (take (i + 1) (set news i new)) now
look_more {R = R} remaining failures olds news new d i seen now look lt within same h is counts e =
    subst (LooksAfter remaining failures (take (i + 1) olds) (take (i + 1) (set news i new))) (sym e)
    (subst (λ (l : List R). LooksAfter remaining failures l (take (i + 1) (set news i new)) (seen_with seen look (i + 1)))
    (sym (take_more olds i d lt))
    (subst (λ (l : List R). LooksAfter remaining failures (take i olds ++ get_or olds i d ∷ []) l (seen_with seen look (i + 1)))
    (sym (take_more_set news i new within))
    (seen_more remaining failures (take i olds) (take i news) (get_or olds i d) new seen look (i + 1) h
    (subst (λ (r : R). IsLook (remaining r) (remaining new) look) same is)
    (subst (λ (r : R). CountsLook look (failures r) (failures new)) same counts))))

pub none_looked : {R : Type 0} (remaining : R → Option (List ℕ)) (failures : R → ℕ) (olds : List R)
    → LooksAfter remaining failures (take 0 olds) (take 0 olds) (Ok false)
none_looked remaining failures olds k d within = absurd (omega (arith, within))

-- the others stay as they were
pub others_stay : {R : Type 0} (olds news : List R) (new : R) (i : ℕ)
    → ((j : ℕ) (d : R) → i ≤ j → get_or news j d ≡ get_or olds j d)
    → (j : ℕ) (d : R) → i + 1 ≤ j → get_or (set news i new) j d ≡ get_or olds j d
others_stay olds news new i h j d le =
    get_or-set_other news i j new d (λ e. omega (arith, le, e)) ∙ h j d (omega (arith, le))

-- ---- all of them

none_left : {X : Type 0} (xs : List X) → length xs ≡ 0 → xs ≡ []
none_left [] e = refl
none_left (x ∷ xs) e = absurd (omega (arith, e))

front_yielded : {X A : Type 0} (s : IntoIter X A) (xs : List X) (t : IntoIter X A) → Yields into_iter_steps s xs t
    → into_iter_items s ≡ xs ++ into_iter_items t
front_yielded s [] t y = ap into_iter_items y
front_yielded s (x ∷ xs) t y = y.1.0 ∙ ap (λ ys. x ∷ ys) (front_yielded y.0 xs t y.2)

-- what the iterator gave until it had none
pub all_yielded : {X A : Type 0} (s : IntoIter X A) (xs : List X) (t : IntoIter X A) → Yields into_iter_steps s xs t → into_iter_len t ≡ 0
    → into_iter_items s ≡ xs
all_yielded s xs t y none =
    front_yielded s xs t y ∙ ap (λ ys. xs ++ ys) (none_left (into_iter_items t) (sym t.rest.ok.0 ∙ none)) ∙ append-nil xs

-- what was lent as a slice came back in its place
pub front_same : {X : Type 0} (n : ℕ) (xs ys : List X) → length xs ≡ n → take n (xs ++ ys) ≡ xs
front_same n xs ys e = subst (λ (m : ℕ). take m (xs ++ ys) ≡ xs) e (take-append_seam xs ys)
