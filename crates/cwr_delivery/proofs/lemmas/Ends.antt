-- What follows from a fact on an end follows on that end.
use Rattle.std.proofs.Common.{◌≡◌, ℕ, get_or, Some, List, [], ◌∷◌, length, ◌<◌, refl, ap, ◌∙◌}
use Rattle.std.specs.Prelude.{Result, Ok, Err, IfOk, OnOk, OnErr, option_map, slice_get, map}
use Rattle.std.proofs.lemmas.Option.{slice_get-map, slice_get_read}
use Rattle.cwr_sent.specs.declared.tables.Sent.{Sent}
use Rattle.cwr_sent.specs.Format.SentFacts.{SentContent}
use Rattle.cwr_sent.specs.Format.SentRows.{content_in, content_shown, shown_in}

pub on_ok : {A E : Type 0} {P Q : Type 0} (r : Result A E) → (P → Q) → OnOk r P → OnOk r Q
on_ok (Ok a) f h = f h
on_ok (Err e) f h = h

pub on_err : {A E : Type 0} {P Q : Type 0} (r : Result A E) → (P → Q) → OnErr r P → OnErr r Q
on_err (Ok a) f h = h
on_err (Err e) f h = f h

pub if_ok : {A E : Type 0} {P Q : A → Type 0} (r : Result A E) → ((a : A) → P a → Q a) → IfOk r P → IfOk r Q
if_ok (Ok a) f h = f a h
if_ok (Err e) f h = h

-- what is read of a list is shown of what that shows
pub shown_at : {A B : Type 0} (f : A → B) (xs : List A) (i : ℕ) (x : A) → i < length xs
    → x ≡ get_or xs i x → slice_get (map f xs) i ≡ Some (f x)
shown_at f xs i x within is =
    slice_get-map f xs i ∙ ap (option_map f) (slice_get_read xs (length xs) i x refl within is)

-- what is kept of transmissions is that of what they show
pub contents_shown : (sent : List Sent) → map content_in sent ≡ map content_shown (map shown_in sent)
contents_shown [] = refl
contents_shown (s ∷ sent) = ap (λ (l : List SentContent). content_in s ∷ l) (contents_shown sent)
