-- The table of symbols has each symbol, and those that may come are found in it one after another.
use Rattle.std.proofs.Common.{◌≡◌, zero, suc, true, false, List, [], ◌∷◌, ◌++◌, append-nil, refl, sym, ap, subst, ◌∙◌, arith, inl}
use Rattle.std.proofs.Common.{append_assoc, inr}
use Rattle.std.specs.Prelude.{◌↔◌, ◌⊎◌, ◌≢◌, Bool, cond, Some, IsSome, Contains, OnErr, Result, Ok, Err, find}
use Rattle.std.specs.List.{filter, flat_map}
use Rattle.std.specs.Str.{bytes_eq}
use Rattle.std.proofs.lemmas.List.Elements.{All-contains, Contains-append_cases, Contains-append_left, Contains-append_right}
use Rattle.std.proofs.lemmas.List.Elements.{filter-append, filter_passes}
use Rattle.cwr_fields.specs.declared.codes.Role.TheVariants as roles
use Rattle.cwr_fields.specs.declared.codes.TransactionType.TheVariants as types
use Rattle.cwr_fields.specs.declared.kinds.Kind.{Kind}
use Rattle.cwr_fields.specs.declared.kinds.Kind.TheVariants as kinds
use Rattle.cwr_fields.specs.Format.Kinds.{all_kinds, letters}
use Rattle.cwr_shape.specs.declared.symbols.Symbol.{Symbol}
use Rattle.cwr_shape.specs.declared.symbols.Symbol.TheVariants.{Plain, Ipa, Grh}
use Rattle.cwr_shape.specs.declared.stages.Stage.{Stage}
use Rattle.cwr_shape.specs.Format.Outlines.{Continues}
use Rattle.cwr_shape.specs.Format.AnyTransmission.{Any}
use Rattle.cwr_shape.specs.Steps.NextStages.{next_stage}
use Rattle.cwr_shape.proofs.lemmas.StageStands.{next_exact}
use Rattle.cwr_causes.specs.Steps.Coming.{AreComing, ComesAt, all_symbols, comes, coming_at, inner_symbols}

-- what holds also holds where a call failed
pub on_err : {X E P : Type 0} (result : Result X E) → P → OnErr result P
on_err (Ok x) p = tt
on_err (Err e) p = p

-- a kind has one symbol, unless its cells say more, or it is asked last
pub one_symbol : (kind : Kind) → kind ≢ kinds.Grh → kind ≢ kinds.Ipa → kind ≢ kinds.Grt → kind ≢ kinds.Trl
    → inner_symbols kind ≡ Plain kind ∷ []
one_symbol kinds.Grh g i f t = absurd (g refl)
one_symbol kinds.Ipa g i f t = absurd (i refl)
one_symbol kinds.Grt g i f t = absurd (f refl)
one_symbol kinds.Trl g i f t = absurd (t refl)
one_symbol this_kind g i f t = refl

-- those that are asked last have none here
pub asks_none : (stage : Stage) (kind : Kind) (found : List Symbol) → (kind ≡ kinds.Grt) ⊎ (kind ≡ kinds.Trl)
    → found ≡ found ++ filter (comes stage) (inner_symbols kind)
asks_none stage kind found is = sym (same is ∙ append-nil found)
  where
    same : (kind ≡ kinds.Grt) ⊎ (kind ≡ kinds.Trl) → found ++ filter (comes stage) (inner_symbols kind) ≡ found ++ []
    same (inl e) = ap (λ (k : Kind). found ++ filter (comes stage) (inner_symbols k)) e
    same (inr e) = ap (λ (k : Kind). found ++ filter (comes stage) (inner_symbols k)) e

-- a symbol that comes is some
pub some_comes : {X E : Type 0} (stage : Stage) (s : Symbol) (result : Result X E) → OnErr result (ComesAt stage s)
    → OnErr result ((symbol : Symbol) × ComesAt stage symbol)
some_comes stage s (Ok x) h = tt
some_comes stage s (Err e) h = (s, h)

-- one symbol more that passes a test, and one that doesn't
pub one_kept : (test : Symbol → Bool) (found : List Symbol) (a : Symbol) (b : Bool) → b ≡ test a → b ≡ true
    → found ++ a ∷ [] ≡ found ++ filter test (a ∷ [])
one_kept test found a b exact is = ap (λ (x : Bool). found ++ cond x (a ∷ []) []) (sym is ∙ exact)

pub one_left : (test : Symbol → Bool) (found : List Symbol) (a : Symbol) (b : Bool) → b ≡ test a → b ≡ false
    → found ≡ found ++ filter test (a ∷ [])
one_left test found a b exact is =
    sym (append-nil found) ∙ ap (λ (x : Bool). found ++ cond x (a ∷ []) []) (sym is ∙ exact)

-- one symbol more that may come, and one that may not
pub one_comes : (stage : Stage) (found : List Symbol) (a : Symbol) (b : Bool) → b ≡ comes stage a → b ≡ true
    → found ++ a ∷ [] ≡ found ++ filter (comes stage) (a ∷ [])
one_comes stage found a b exact is = one_kept (comes stage) found a b exact is

pub one_stays : (stage : Stage) (found : List Symbol) (a : Symbol) (b : Bool) → b ≡ comes stage a → b ≡ false
    → found ≡ found ++ filter (comes stage) (a ∷ [])
one_stays stage found a b exact is = one_left (comes stage) found a b exact is

-- what passes a test is kept
kept : (test : Symbol → Bool) (s : Symbol) (symbols : List Symbol) → test s ≡ true → Contains symbols s
    → Contains (filter test symbols) s
kept test s [] t (k, l, e) = absurd (omega (arith, l))
kept test s (x ∷ symbols) t c =
    subst (λ (xs : List Symbol). Contains xs s) (sym (filter-append test (x ∷ []) symbols))
    (by (Contains-append_cases (x ∷ []) symbols s c) (kept test s symbols t))
  where
    first : Contains (x ∷ []) s → x ≡ s
    first (zero, l, e) = e
    first (suc k, l, e) = absurd (omega (arith, l))

    alone : x ≡ s → s ∷ [] ≡ filter test (x ∷ [])
    alone e = ap (λ (b : Bool). cond b (s ∷ []) []) (sym t) ∙ sym (ap (λ (y : Symbol). filter test (y ∷ [])) e)

    by : Contains (x ∷ []) s ⊎ Contains symbols s → (Contains symbols s → Contains (filter test symbols) s)
        → Contains (filter test (x ∷ []) ++ filter test symbols) s
    by (inl here) rest =
        Contains-append_left (filter test (x ∷ [])) (filter test symbols) s
        (subst (λ (xs : List Symbol). Contains xs s) (alone (first here)) (0, omega arith, refl))
    by (inr there) rest = Contains-append_right (filter test (x ∷ [])) (filter test symbols) s (rest there)

-- those of some more that pass a test are kept after those before
pub more_kept : (test : Symbol → Bool) (old before more all mid new : List Symbol) → all ≡ before ++ more
    → mid ≡ old ++ filter test before → new ≡ mid ++ filter test more → new ≡ old ++ filter test all
more_kept test old before more all mid new split first later =
    later
    ∙ ap (λ (xs : List Symbol). xs ++ filter test more) first
    ∙ append_assoc old (filter test before) (filter test more)
    ∙ ap (λ (xs : List Symbol). old ++ xs) (sym (filter-append test before more))
    ∙ ap (λ (xs : List Symbol). old ++ filter test xs) (sym split)

-- once each kind was asked, and the ends were, those that may come are found
pub all_asked : (stage : Stage) (each : List Kind) (mid new : List Symbol) → each ≡ all_kinds
    → mid ≡ filter (comes stage) (flat_map inner_symbols each)
    → new ≡ mid ++ filter (comes stage) (Plain kinds.Grt ∷ Plain kinds.Trl ∷ []) → new ≡ coming_at stage
unfolding coming_at
all_asked stage each mid new all first later =
    more_kept (comes stage) [] (flat_map inner_symbols all_kinds) (Plain kinds.Grt ∷ Plain kinds.Trl ∷ []) all_symbols mid new refl
    (first ∙ ap (λ (ks : List Kind). filter (comes stage) (flat_map inner_symbols ks)) all) later

-- what is found among symbols is one of them
found_in : (test : Symbol → Bool) (symbols : List Symbol) (s : Symbol) → find test symbols ≡ Some s → Contains symbols s
found_in test [] s e = absurd (cc e)
found_in test (x ∷ symbols) s e = by (test x) refl (found_in test symbols s)
  where
    by : (b : Bool) → test x ≡ b → (find test symbols ≡ Some s → Contains symbols s) → Contains (x ∷ symbols) s
    by true t rest = let here : find test (x ∷ symbols) ≡ Some x = rw t in (0, omega arith, cc (e, here))
    by false t rest =
        let later : find test (x ∷ symbols) ≡ find test symbols = rw t in
        let found = rest (sym later ∙ e) in
        (suc found.0, omega (arith, found.1), found.2)

-- whether two symbols are the same
is_same : Symbol → Symbol → Bool
is_same (Plain kind) (Plain other) = bytes_eq (letters kind) (letters other)
is_same (Ipa roles.Assignor) (Ipa roles.Assignor) = true
is_same (Ipa roles.Acquirer) (Ipa roles.Acquirer) = true
is_same (Grh types.Agreement) (Grh types.Agreement) = true
is_same (Grh types.NewWork) (Grh types.NewWork) = true
is_same (Grh types.RevisedWork) (Grh types.RevisedWork) = true
is_same (Grh types.Acknowledgement) (Grh types.Acknowledgement) = true
is_same s other = false

-- each symbol is asked
all_there : (s : Symbol) → Contains all_symbols s
unfolding is_same
all_there (Plain kinds.Hdr) = found_in (is_same (Plain kinds.Hdr)) all_symbols (Plain kinds.Hdr) refl
all_there (Plain this_kind) = found_in (is_same (Plain this_kind)) all_symbols (Plain this_kind) refl
all_there (Ipa roles.Assignor) = found_in (is_same (Ipa roles.Assignor)) all_symbols (Ipa roles.Assignor) refl
all_there (Ipa this_role) = found_in (is_same (Ipa this_role)) all_symbols (Ipa this_role) refl
all_there (Grh types.Agreement) = found_in (is_same (Grh types.Agreement)) all_symbols (Grh types.Agreement) refl
all_there (Grh this_type) = found_in (is_same (Grh this_type)) all_symbols (Grh this_type) refl

-- so those that come are all that may
pub all_come : (stage : Stage) (found : List Symbol) → found ≡ coming_at stage → AreComing stage found
unfolding coming_at
all_come stage found same xs at s =
    subst (λ (symbols : List Symbol). Contains symbols s ↔ Continues Any (xs ++ s ∷ [])) (sym same) (
      λ c. goes.0 (All-contains (λ (x : Symbol). comes stage x ≡ true) _ s (filter_passes (comes stage) all_symbols) c),
      λ on. kept (comes stage) s all_symbols (goes.1 on) (all_there s),
    )
  where
    goes : IsSome (next_stage stage s) ↔ Continues Any (xs ++ s ∷ [])
    goes = next_exact xs stage s (next_stage stage s) refl at
