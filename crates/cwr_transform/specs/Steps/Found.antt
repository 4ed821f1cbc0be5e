-- How it is found again where the transactions stand that have a number.
use Rattle.std.specs.Prelude.{◌≡◌, ℕ, ◌+◌, ◌-◌, ◌<◌, ◌≤◌, ◌==◌, nat_lt, Bool, length, map, filter, List, [], ◌∷◌, ◌++◌, slice_index_or, slice_set, if◌then◌else◌}
use Rattle.std.specs.List.Sorted.{IsNonDecreasingBy}
use Rattle.cwr_transform.specs.declared.sought.Further.{Further}

-- ---- counts

-- how many transactions there were before each that is the value, that one counted, where so many and one were before the first
abbrev pub counts_from : {A : Type 0} → (A → A → Bool) → A → ℕ → List A → List ℕ
counts_from same value k [] = []
counts_from same value k (x ∷ xs) =
    if same value x then k ∷ counts_from same value (k + 1) xs else counts_from same value (k + 1) xs

-- those of the further ones that have the number at that place
abbrev pub further_of : ℕ → List Further → List Further
further_of at further = filter (λ f. f.number == at) further

-- the first count, and the further ones; none where that is 0
abbrev pub counts_after : ℕ → List ℕ → List ℕ
counts_after first further = if first == 0 then [] else first ∷ further

abbrev pub counted_at : List ℕ → List Further → ℕ → List ℕ
counted_at firsts further at = counts_after (slice_index_or firsts at 0) (map (λ f. f.count) (further_of at further))

-- of each value of a list the counts are kept of those that are it
pub record HasCounted {A : Type 0} (same : A → A → Bool) (listed xs : List A) (firsts : List ℕ) (further : List Further) : Type 0 where
  pub sized : length firsts ≡ length listed
  pub counts : (i : ℕ) (d : A) → i < length listed → counted_at firsts further i ≡ counts_from same (slice_index_or listed i d) 1 xs
  pub none : (i : ℕ) → slice_index_or firsts i 0 ≡ 0 → further_of i further ≡ []

-- one more is noted for the number at that place
abbrev pub firsts_noted : ℕ → ℕ → List ℕ → List ℕ
firsts_noted at count firsts = if slice_index_or firsts at 0 == 0 then slice_set firsts at count else firsts

abbrev pub further_noted : ℕ → ℕ → List ℕ → List Further → List Further
further_noted at count firsts further =
    if slice_index_or firsts at 0 == 0 then further else further ++ record { number = at; count = count } ∷ []

-- ---- places

-- the place of the transaction of that count, where so many groups came before these, so many transactions before the last one of them, and so
-- many before each of these
abbrev pub place_after : ℕ → ℕ → List ℕ → ℕ → ℕ × ℕ
place_after group before [] count = (group, count - before - 1)
place_after group before (start ∷ starts) count =
    if nat_lt start count then place_after (group + 1) start starts count else (group, count - before - 1)

abbrev pub place_at : List ℕ → ℕ → ℕ × ℕ
place_at starts count = place_after 0 0 starts count

-- these are the places of counts, from that on
abbrev pub AreAt : (ℕ → ℕ × ℕ) → ℕ → List (ℕ × ℕ) → Type 0
AreAt at k [] = Unit {0}
AreAt at k (p ∷ ps) = (at k ≡ p) × AreAt at (k + 1) ps

-- the transactions so far have these places, and the next one that
pub record HasPlaced (places : List (ℕ × ℕ)) (group place : ℕ) (starts : List ℕ) : Type 0 where
  pub groups : length starts ≡ group
  pub next : place_at starts (length places + 1) ≡ (group, place)
  pub low : (i : ℕ) → i < length starts → slice_index_or starts i 0 ≤ length places
  pub rises : IsNonDecreasingBy (λ x. x) starts
  pub at : AreAt (place_at starts) 1 places
