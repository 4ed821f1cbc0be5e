-- A text that is written in parts.
use Rattle.std.proofs.Common.{◌+◌, ℕ, List, ◌++◌, take, drop, Option, Some, None, sym, ap, subst, ◌∙◌, append_assoc}
use Rattle.std.proofs.Math.Seq.{take-add}
use Rattle.std.specs.Io.KnownBytes.{Appends}

pub appends_both : (a b c : Option (List ℕ)) (xs ys : List ℕ) → Appends a b xs → Appends b c ys → Appends a c (xs ++ ys)
appends_both None b c xs ys h k = tt
appends_both (Some x) None c xs ys h k = absurd h
appends_both (Some x) (Some y) None xs ys h k = absurd k
appends_both (Some x) (Some y) (Some z) xs ys h k = k ∙ ap (λ l. l ++ ys) h ∙ append_assoc x xs ys

-- some bytes more of the text
pub writes_on : (a b c : Option (List ℕ)) (text : List ℕ) (i n : ℕ) → Appends a b (take i text)
    → Appends b c (take n (drop i text)) → Appends a c (take (i + n) text)
writes_on a b c text i n h k =
    subst (Appends a c) (sym (take-add i n text)) (appends_both a b c (take i text) (take n (drop i text)) h k)
