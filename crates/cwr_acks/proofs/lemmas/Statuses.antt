-- The counts of statuses with one item more.
use Rattle.std.proofs.Common.{◌≡◌, ℕ, zero, suc, ◌+◌, ◌<◌, ◌≤◌, Bool, true, false, List, [], ◌∷◌, ◌++◌, length, take, drop}
use Rattle.std.proofs.Common.{Some, refl, sym, ap, ap₂, ◌∙◌, arith, append-nil, append_assoc, lt-ltb}
use Rattle.std.specs.Prelude.{◌||◌, nat_lt, map, slice_get, slice_index, slice_set, zip}
use Rattle.std.specs.List.{flat_map}
use Rattle.std.proofs.lemmas.Grind.{flat_map-append}
use Rattle.std.proofs.lemmas.List.{drop_all, take_all}
use Rattle.cwr_fields.specs.declared.message_codes.TransactionStatus.{TransactionStatus}
use Rattle.cwr_fields.specs.Format.MessageCodes.{status_code, transaction_statuses}
use Rattle.cwr_values.specs.declared.items.Item.{Item}
use Rattle.cwr_acks.specs.declared.counts.Answers.{Answers}
use Rattle.cwr_delivery.specs.Format.Acknowledgements.{has_status, is_answer}
use Rattle.cwr_acks.specs.Format.AckTexts.{status_part}
use Rattle.cwr_acks.specs.Steps.AckSteps.{answers_with, one_more_if}
use Rattle.cwr_acks.specs.Steps.DataTexts.{count_member, count_members}
use Rattle.cwr_delivery.proofs.lemmas.NamedCells.{or_false, or_true}

-- ---- counts with one item more

-- those of the first statuses with the item, the others without
abbrev pub counted_to : ℕ → Item → List TransactionStatus → List ℕ → List ℕ
counted_to i item ss ns =
    map (λ (p : TransactionStatus × ℕ). one_more_if (has_status p.0 item) p.1) (zip (take i ss) (take i ns)) ++ drop i ns

-- the next one
pub counted_at : (i : ℕ) (item : Item) (ss : List TransactionStatus) (ns : List ℕ) → i < length ss → i < length ns
    → slice_index (counted_to i item ss ns) i ≡ slice_index ns i
counted_at i item [] ns h k = absurd (omega (arith, h))
counted_at i item (s ∷ ss) [] h k = absurd (omega (arith, k))
counted_at zero item (s ∷ ss) (n ∷ ns) h k = refl
counted_at (suc i) item (s ∷ ss) (n ∷ ns) h k = counted_at i item ss ns (omega (arith, h)) (omega (arith, k))

-- it has one more
pub counted_with : (i : ℕ) (item : Item) (ss : List TransactionStatus) (ns : List ℕ) (s : TransactionStatus)
    → slice_get ss i ≡ Some s → i < length ns
    → has_status s item ≡ true
    → slice_set (counted_to i item ss ns) i (slice_index (counted_to i item ss ns) i + 1) ≡ counted_to (suc i) item ss ns
counted_with i item [] ns s e k h = absurd (cc e)
counted_with i item (x ∷ ss) [] s e k h = absurd (omega (arith, k))
counted_with zero item (x ∷ ss) (n ∷ ns) s e k h =
    let same : x ≡ s =
    cc e in ap (λ (b : Bool). one_more_if b n ∷ ns) (sym h ∙ ap (λ (y : TransactionStatus). has_status y item) (sym same))
counted_with (suc i) item (x ∷ ss) (n ∷ ns) s e k h =
    ap (λ (l : List ℕ). one_more_if (has_status x item) n ∷ l) (counted_with i item ss ns s e (omega (arith, k)) h)

-- it has not
pub counted_without : (i : ℕ) (item : Item) (ss : List TransactionStatus) (ns : List ℕ) (s : TransactionStatus)
    → slice_get ss i ≡ Some s → i < length ns
    → has_status s item ≡ false
    → counted_to i item ss ns ≡ counted_to (suc i) item ss ns
counted_without i item [] ns s e k h = absurd (cc e)
counted_without i item (x ∷ ss) [] s e k h = absurd (omega (arith, k))
counted_without zero item (x ∷ ss) (n ∷ ns) s e k h =
    let same : x ≡ s =
    cc e in ap (λ (b : Bool). one_more_if b n ∷ ns) (sym h ∙ ap (λ (y : TransactionStatus). has_status y item) (sym same))
counted_without (suc i) item (x ∷ ss) (n ∷ ns) s e k h =
    ap (λ (l : List ℕ). one_more_if (has_status x item) n ∷ l) (counted_without i item ss ns s e (omega (arith, k)) h)

ten_of : (i : ℕ) → 10 ≤ i → i ≤ 10 → i ≡ 10
ten_of i h k = omega (arith, h, k)

-- all of them
pub counted_whole : (i : ℕ) (item : Item) (answers : Answers) (old : Answers) → length old.by_status ≡ 10 → 10 ≤ i → i ≤ 10
    → answers.all ≡ one_more_if (is_answer item) old.all
    → answers.by_status ≡ counted_to i item transaction_statuses old.by_status → answers ≡ answers_with old item
counted_whole i item answers old long least most all each =
    let ns : List ℕ = old.by_status in
    let mapped : List ℕ → List ℕ =
    λ l. map (λ (p : TransactionStatus × ℕ). one_more_if (has_status p.0 item) p.1) (zip transaction_statuses l) in
    let whole : counted_to 10 item transaction_statuses ns ≡ mapped ns
    = ap₂ (λ (l m : List ℕ). mapped l ++ m) (take_all 10 ns (omega (arith, long))) (drop_all 10 ns (omega (arith, long)))
    ∙ append-nil (mapped ns) in
    let every : answers.by_status ≡ mapped ns =
    each ∙ ap (λ (n : ℕ). counted_to n item transaction_statuses ns) (ten_of i least most) ∙ whole in
    λ z. record { all = all z; by_status = every z }

-- ---- the parts of the first counts

abbrev pub parts_to : ℕ → List ℕ → List ℕ
parts_to i ns =
    flat_map (λ (p : TransactionStatus × ℕ). status_part (status_code p.0) p.1) (zip (take i transaction_statuses) (take i ns))

zip_more : (ss : List TransactionStatus) (ns : List ℕ) (i : ℕ) (s : TransactionStatus) → slice_get ss i ≡ Some s → i < length ns
    → zip (take (suc i) ss) (take (suc i) ns) ≡ zip (take i ss) (take i ns) ++ (s, slice_index ns i) ∷ []
zip_more [] ns i s e k = absurd (cc e)
zip_more (x ∷ ss) [] i s e k = absurd (omega (arith, k))
zip_more (x ∷ ss) (n ∷ ns) zero s e k = let same : x ≡ s = cc e in ap (λ (y : TransactionStatus). (y, n) ∷ []) same
zip_more (x ∷ ss) (n ∷ ns) (suc i) s e k =
    ap (λ (l : List (TransactionStatus × ℕ)). (x, n) ∷ l) (zip_more ss ns i s e (omega (arith, k)))

pub parts_more : (ns : List ℕ) (i : ℕ) (s : TransactionStatus) → slice_get transaction_statuses i ≡ Some s → i < length ns
    → parts_to (suc i) ns ≡ parts_to i ns ++ status_part (status_code s) (slice_index ns i)
parts_more ns i s e k =
    let part : (TransactionStatus × ℕ) → List ℕ = λ p. status_part (status_code p.0) p.1 in
    ap (flat_map part) (zip_more transaction_statuses ns i s e k)
    ∙ flat_map-append part (zip (take i transaction_statuses) (take i ns)) ((s, slice_index ns i) ∷ [])
    ∙ ap (λ (l : List ℕ). parts_to i ns ++ l) (append-nil (status_part (status_code s) (slice_index ns i)))

pub parts_whole : (i : ℕ) (ns : List ℕ) → length ns ≡ 10 → 10 ≤ i → i ≤ 10
    → parts_to i ns ≡ flat_map (λ (p : TransactionStatus × ℕ). status_part (status_code p.0) p.1) (zip transaction_statuses ns)
parts_whole i ns long least most =
    ap (λ (n : ℕ). parts_to n ns) (ten_of i least most)
    ∙ ap
    (λ (l : List ℕ). flat_map (λ (p : TransactionStatus × ℕ). status_part (status_code p.0) p.1) (zip transaction_statuses l))
    (take_all 10 ns (omega (arith, long)))

-- ---- the same as JSON

abbrev some_in : {X : Type 0} → List X → Bool
some_in [] = false
some_in (x ∷ xs) = true

members_more : (b : Bool) (xs : List (TransactionStatus × ℕ)) (x : TransactionStatus × ℕ)
    → count_members b (xs ++ x ∷ []) ≡ count_members b xs ++ count_member (b || some_in xs) (status_code x.0) x.1
members_more b [] x =
    append-nil (count_member b (status_code x.0) x.1)
    ∙ ap (λ (later : Bool). count_member later (status_code x.0) x.1) (sym (or_false b))
members_more b (y ∷ ys) x =
    ap (λ (l : List ℕ). count_member b (status_code y.0) y.1 ++ l) (members_more true ys x)
    ∙ sym (append_assoc (count_member b (status_code y.0) y.1) (count_members true ys) (count_member true (status_code x.0) x.1))
    ∙ ap (λ (later : Bool). (count_member b (status_code y.0) y.1 ++ count_members true ys)
    ++ count_member later (status_code x.0) x.1) (sym (or_true b))

some_before : (ns : List ℕ) (i : ℕ) → i < length ns → some_in (zip (take i transaction_statuses) (take i ns)) ≡ nat_lt 0 i
some_before [] i k = absurd (omega (arith, k))
some_before (n ∷ ns) zero k = refl
some_before (n ∷ ns) (suc i) k = sym (lt-ltb 0 (suc i) (omega arith))

abbrev pub counts_to : ℕ → List ℕ → List ℕ
counts_to i ns = count_members false (zip (take i transaction_statuses) (take i ns))

pub counts_more : (ns : List ℕ) (i : ℕ) (s : TransactionStatus) → slice_get transaction_statuses i ≡ Some s → i < length ns
    → counts_to (suc i) ns ≡ counts_to i ns ++ count_member (nat_lt 0 i) (status_code s) (slice_index ns i)
counts_more ns i s e k =
    ap (count_members false) (zip_more transaction_statuses ns i s e k)
    ∙ members_more false (zip (take i transaction_statuses) (take i ns)) (s, slice_index ns i)
    ∙ ap (λ (later : Bool). counts_to i ns ++ count_member later (status_code s) (slice_index ns i)) (some_before ns i k)

pub counts_whole : (i : ℕ) (ns : List ℕ) → length ns ≡ 10 → 10 ≤ i → i ≤ 10
    → counts_to i ns ≡ count_members false (zip transaction_statuses ns)
counts_whole i ns long least most =
    ap (λ (n : ℕ). counts_to n ns) (ten_of i least most)
    ∙ ap (λ (l : List ℕ). count_members false (zip transaction_statuses l)) (take_all 10 ns (omega (arith, long)))
