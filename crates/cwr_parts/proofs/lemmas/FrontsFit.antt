-- A front or a back of a transmission that is within the limits is within them too.
use Rattle.std.proofs.Common.{◌≡◌, ℕ, suc, ◌+◌, ◌≤◌, List, [], ◌∷◌, ◌++◌, length, map, sym, ap, subst, ◌∙◌, append_assoc, arith}
use Rattle.std.specs.List.{AllByRecursion, flat_map}
use Rattle.std.proofs.lemmas.Grind.{flat_map-append}
use Rattle.std.proofs.lemmas.List.{length-append, length-map, map-append}
use Rattle.cwr_fields.specs.declared.kinds.Kind.TheVariants as kinds
use Rattle.cwr_lines.specs.Format.Records.{RecordValue}
use Rattle.cwr_shape.specs.declared.limits.Limits.{Limits}
use Rattle.cwr_shape.specs.declared.symbols.Symbol.{Symbol}
use Rattle.cwr_shape.specs.declared.symbols.Symbol.TheVariants.{Plain}
use Rattle.cwr_shape.specs.Format.Outlines.{GroupOutline, group_symbols, symbols_of}
use Rattle.cwr_values.specs.Format.Values.{GroupValue, FitsIn, symbol_of, outline_of_group}
use Rattle.cwr_parts.proofs.lemmas.SplitParts.{of_groups, group}

-- ---- what holds of each

mapped_front : {X Y : Type 0} (P : Y → Type 0) (f : X → Y) (xs ys : List X) → AllByRecursion P (map f (xs ++ ys))
    → AllByRecursion P (map f xs)
mapped_front P f [] ys h = tt
mapped_front P f (x ∷ xs) ys h = (h.0, mapped_front P f xs ys h.1)

mapped_back : {X Y : Type 0} (P : Y → Type 0) (f : X → Y) (xs ys : List X) → AllByRecursion P (map f (xs ++ ys))
    → AllByRecursion P (map f ys)
mapped_back P f [] ys h = h
mapped_back P f (x ∷ xs) ys h = mapped_back P f xs ys h.1

mapped_both : {X Y : Type 0} (P : Y → Type 0) (f : X → Y) (xs ys : List X) → AllByRecursion P (map f xs)
    → AllByRecursion P (map f ys) → AllByRecursion P (map f (xs ++ ys))
mapped_both P f [] ys h k = k
mapped_both P f (x ∷ xs) ys h k = (h.0, mapped_both P f xs ys h.1 k)

-- ---- how many records

-- of transactions
abbrev of_transactions : List (List RecordValue) → ℕ
of_transactions ts = length (flat_map (λ t. t) (map (map symbol_of) ts))

-- of groups
abbrev of_all : List GroupValue → ℕ
of_all gs = length (flat_map group_symbols (map outline_of_group gs))

transactions_append : (xs ys : List (List RecordValue)) → of_transactions (xs ++ ys) ≡ of_transactions xs + of_transactions ys
transactions_append xs ys =
    let f : List RecordValue → List Symbol = map symbol_of in
    ap (λ (l : List (List Symbol)). length (flat_map (λ t. t) l)) (map-append f xs ys)
    ∙ ap length (flat_map-append (λ t. t) (map f xs) (map f ys))
    ∙ length-append (flat_map (λ t. t) (map f xs)) (flat_map (λ t. t) (map f ys))

all_append : (A B : List GroupValue) → of_all (A ++ B) ≡ of_all A + of_all B
all_append A B =
    ap (λ (l : List GroupOutline). length (flat_map group_symbols l)) (map-append outline_of_group A B)
    ∙ ap length (flat_map-append group_symbols (map outline_of_group A) (map outline_of_group B))
    ∙ length-append (flat_map group_symbols (map outline_of_group A)) (flat_map group_symbols (map outline_of_group B))

-- GRH and GRT are two
all_first : (g : GroupValue) (B : List GroupValue) → of_all (g ∷ B) ≡ of_transactions g.transactions + 2 + of_all B
all_first g B =
    let ts : List Symbol = flat_map (λ t. t) (map (map symbol_of) g.transactions) in
    let one : length (group_symbols (outline_of_group g)) ≡ length ts + 2 =
    ap suc (length-append ts (Plain kinds.Grt ∷ [])) ∙ omega arith in
    length-append (group_symbols (outline_of_group g)) (flat_map group_symbols (map outline_of_group B))
    ∙ ap (λ (k : ℕ). k + of_all B) one

-- HDR and TRL are two
size : (gs : List GroupValue) → length (symbols_of (map outline_of_group gs)) ≡ of_all gs + 2
size gs = ap suc (length-append (flat_map group_symbols (map outline_of_group gs)) (Plain kinds.Trl ∷ [])) ∙ omega arith

-- fewer records, fewer groups, and no other transactions
fits_fewer : (limits : Limits) (o : RecordValue) (gs hs : List GroupValue) → FitsIn limits (of_groups o gs)
    → of_all hs ≤ of_all gs → length hs ≤ length gs
    → AllByRecursion (λ g. AllByRecursion (λ t. length t ≤ limits.transaction) g.transactions) (map outline_of_group hs)
    → FitsIn limits (of_groups o hs)
fits_fewer limits o gs hs fits fewer few each =
    let m : length (symbols_of (map outline_of_group gs)) ≤ limits.records = fits.0 in
    let w : length (map outline_of_group gs) ≤ limits.groups = fits.1 in (
      omega (arith, m, fewer, size gs, size hs),
      omega (arith, w, few, length-map gs outline_of_group, length-map hs outline_of_group),
      each,
    )

-- ---- fronts and backs

-- the first groups
pub fits_groups : (limits : Limits) (o : RecordValue) (A B : List GroupValue) → FitsIn limits (of_groups o (A ++ B))
    → FitsIn limits (of_groups o A)
fits_groups limits o A B fits =
    fits_fewer limits o (A ++ B) A fits (omega (arith, all_append A B)) (omega (arith, length-append A B))
    (mapped_front (λ g. AllByRecursion (λ t. length t ≤ limits.transaction) g.transactions) outline_of_group A B fits.2)

-- the last groups
fits_later : (limits : Limits) (o : RecordValue) (A B : List GroupValue) → FitsIn limits (of_groups o (A ++ B))
    → FitsIn limits (of_groups o B)
fits_later limits o A B fits =
    fits_fewer limits o (A ++ B) B fits (omega (arith, all_append A B)) (omega (arith, length-append A B))
    (mapped_back (λ g. AllByRecursion (λ t. length t ≤ limits.transaction) g.transactions) outline_of_group A B fits.2)

-- the groups after the first
pub fits_rest : (limits : Limits) (o : RecordValue) (g : GroupValue) (B : List GroupValue) → FitsIn limits (of_groups o (g ∷ B))
    → FitsIn limits (of_groups o B)
fits_rest limits o g B fits = fits_later limits o (g ∷ []) B fits

-- a group among the others with fewer transactions
fits_changed : (limits : Limits) (o : RecordValue) (A B : List GroupValue) (h : RecordValue) (ts us : List (List RecordValue))
    (f e : RecordValue) → FitsIn limits (of_groups o (A ++ group h ts f ∷ B)) → of_transactions us ≤ of_transactions ts
    → (AllByRecursion (λ t. length t ≤ limits.transaction) (map (map symbol_of) ts)
    → AllByRecursion (λ t. length t ≤ limits.transaction) (map (map symbol_of) us))
    → FitsIn limits (of_groups o (A ++ group h us e ∷ B))
fits_changed limits o A B h ts us f e fits fewer each =
    let P : GroupOutline → Type 0 = λ g. AllByRecursion (λ t. length t ≤ limits.transaction) g.transactions in
    let back = mapped_back P outline_of_group A (group h ts f ∷ B) fits.2 in
    fits_fewer limits o (A ++ group h ts f ∷ B) (A ++ group h us e ∷ B) fits
    (omega (
      arith,
      fewer,
      all_append A (group h ts f ∷ B),
      all_append A (group h us e ∷ B),
      all_first (group h ts f) B,
      all_first (group h us e) B,
    ))
    (omega (arith, length-append A (group h ts f ∷ B), length-append A (group h us e ∷ B)))
    (mapped_both P outline_of_group A (group h us e ∷ B) (mapped_front P outline_of_group A (group h ts f ∷ B) fits.2)
    (each back.0, back.1))

-- the groups up to a transaction, the last with another GRT
pub fits_front : (limits : Limits) (o : RecordValue) (A B : List GroupValue) (h : RecordValue) (xs ys : List (List RecordValue))
    (f e : RecordValue) → FitsIn limits (of_groups o (A ++ group h (xs ++ ys) f ∷ B)) → FitsIn limits
    (of_groups o (A ++ group h xs e ∷ []))
fits_front limits o A B h xs ys f e fits =
    let changed : FitsIn limits (of_groups o (A ++ group h xs e ∷ B)) =
    fits_changed limits o A B h (xs ++ ys) xs f e fits (omega (arith, transactions_append xs ys))
    (mapped_front (λ t. length t ≤ limits.transaction) (map symbol_of) xs ys) in
    fits_groups limits o (A ++ group h xs e ∷ []) B
    (subst (λ (gs : List GroupValue). FitsIn limits (of_groups o gs)) (sym (append_assoc A (group h xs e ∷ []) B)) changed)

-- the groups from a transaction on
pub fits_back : (limits : Limits) (o : RecordValue) (A B : List GroupValue) (h : RecordValue) (xs ys : List (List RecordValue))
    (f : RecordValue) → FitsIn limits (of_groups o (A ++ group h (xs ++ ys) f ∷ B)) → FitsIn limits
    (of_groups o (group h ys f ∷ B))
fits_back limits o A B h xs ys f fits =
    fits_later limits o A (group h ys f ∷ B)
    (fits_changed limits o A B h (xs ++ ys) ys f f fits (omega (arith, transactions_append xs ys))
    (mapped_back (λ t. length t ≤ limits.transaction) (map symbol_of) xs ys))
