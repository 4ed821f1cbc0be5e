-- A whole transmission is what is left at the start.
use Rattle.std.proofs.Common.{◌≡◌, ◌<◌, List, [], ◌∷◌, ◌++◌, length, refl, ap, ap₂, ◌∙◌, inl, inr, arith, lit<}
use Rattle.std.specs.List.{AllByRecursion, flat_map}
use Rattle.cwr_fields.specs.declared.codes.TransactionType.{TransactionType}
use Rattle.cwr_fields.specs.declared.codes.TransactionType.TheVariants.{Agreement, NewWork, RevisedWork, Acknowledgement}
use Rattle.cwr_fields.specs.declared.kinds.Kind.TheVariants as kinds
use Rattle.cwr_shape.specs.declared.symbols.Symbol.{Symbol}
use Rattle.cwr_shape.specs.declared.symbols.Symbol.TheVariants.{Plain, Grh}
use Rattle.cwr_shape.specs.declared.stages.Stage.TheVariants as stages
use Rattle.cwr_shape.specs.Format.Shapes.{one_of, ◌then◌, many, Matches, a, some, pattern_of, IsShape}
use Rattle.cwr_shape.specs.Format.Outlines.{GroupOutline, group_symbols, symbols_of, IsGroupOutline, IsOutline, IsWhole}
use Rattle.cwr_shape.proofs.lemmas.HeadFirst.{rest_after_head, among_one}
use Rattle.cwr_shape.specs.Steps.Left.{group_pattern, any_group, left}

-- one symbol
alone : (s : Symbol) → Matches (one_of (s ∷ [])) (s ∷ [])
alone s = (s, (0, (lit< tt, refl)), refl)

is_alone : (s : Symbol) (xs : List Symbol) → Matches (one_of (s ∷ [])) xs → xs ≡ s ∷ []
is_alone s xs m = m.2 ∙ ap (λ (u : Symbol). u ∷ []) (among_one s m.0 m.1.0 m.1.1.0 m.1.1.1)

-- one or more transactions
transactions_match : (ty : TransactionType) (ts : List (List Symbol)) → 0 < length ts → AllByRecursion (IsShape ty) ts
    → Matches (some (pattern_of ty)) (flat_map (λ t. t) ts)
transactions_match ty [] some h = absurd (omega arith)
transactions_match ty (t ∷ ts) some h = (t, flat_map (λ u. u) ts, refl, h.0, (ts, refl, h.1))

group_matches : (g : GroupOutline) → IsGroupOutline g → Matches (group_pattern g.ty) (group_symbols g)
group_matches g h = (
  Grh g.ty ∷ [],
  flat_map (λ t. t) g.transactions ++ Plain kinds.Grt ∷ [],
  refl,
  alone (Grh g.ty),
  (
    flat_map (λ t. t) g.transactions,
    Plain kinds.Grt ∷ [],
    refl,
    transactions_match g.ty g.transactions h.0 h.1,
    alone (Plain kinds.Grt),
  ),
)

-- a group of some type
of_some_type : (ty : TransactionType) (xs : List Symbol) → Matches (group_pattern ty) xs → Matches any_group xs
of_some_type Agreement xs m = inl m
of_some_type NewWork xs m = inr (inl m)
of_some_type RevisedWork xs m = inr (inr (inl m))
of_some_type Acknowledgement xs m = inr (inr (inr m))

groups_match : (groups : List GroupOutline) → AllByRecursion IsGroupOutline groups
    → Matches (many any_group) (flat_map group_symbols groups)
groups_match [] h = ([], refl, tt)
groups_match (g ∷ groups) h =
    let rest = groups_match groups h.1 in (
      group_symbols g ∷ rest.0,
      ap (λ (xs : List Symbol). group_symbols g ++ xs) rest.1,
      (of_some_type g.ty (group_symbols g) (group_matches g h.0), rest.2),
    )

some_groups_match : (groups : List GroupOutline) → IsOutline groups → Matches (some any_group) (flat_map group_symbols groups)
some_groups_match [] h = absurd (omega (arith, h.0))
some_groups_match (g ∷ groups) h = (
  group_symbols g,
  flat_map group_symbols groups,
  refl,
  of_some_type g.ty (group_symbols g) (group_matches g h.1.0),
  groups_match groups h.1.1,
)

-- what a whole transmission is
pub whole_matches : (groups : List GroupOutline) → IsOutline groups → Matches (left stages.Start) (symbols_of groups)
whole_matches groups h = (
  Plain kinds.Hdr ∷ [],
  flat_map group_symbols groups ++ Plain kinds.Trl ∷ [],
  refl,
  alone (Plain kinds.Hdr),
  (flat_map group_symbols groups, Plain kinds.Trl ∷ [], refl, some_groups_match groups h, alone (Plain kinds.Trl)),
)

-- ---- the other way round

-- the symbols are a group's
abbrev IsGroup : List Symbol → Type 0
IsGroup xs = (g : GroupOutline) × IsGroupOutline g × (xs ≡ group_symbols g)

group_back : (ty : TransactionType) (xs : List Symbol) → Matches (group_pattern ty) xs → IsGroup xs
group_back ty xs m =
    let b = rest_after_head (Grh ty) (some (pattern_of ty) then a kinds.Grt) xs m in
    let foot : b.2.1 ≡ Plain kinds.Grt ∷ [] = is_alone (Plain kinds.Grt) b.2.1 b.2.4 in
    let shapes = b.2.3 in
    let inside : b.2.0 ≡ flat_map (λ t. t) (shapes.0 ∷ shapes.4.0) =
    shapes.2 ∙ ap (λ (ys : List Symbol). shapes.0 ++ ys) shapes.4.1 in (
      record { ty = ty; transactions = shapes.0 ∷ shapes.4.0 },
      (omega arith, (shapes.3, shapes.4.2)),
      b.1 ∙ ap (λ (ys : List Symbol). Grh ty ∷ ys) (b.2.2 ∙ ap₂ (λ (ys zs : List Symbol). ys ++ zs) inside foot),
    )

any_group_back : (xs : List Symbol) → Matches any_group xs → IsGroup xs
any_group_back xs (inl m) = group_back Agreement xs m
any_group_back xs (inr (inl m)) = group_back NewWork xs m
any_group_back xs (inr (inr (inl m))) = group_back RevisedWork xs m
any_group_back xs (inr (inr (inr m))) = group_back Acknowledgement xs m

groups_back : (parts : List (List Symbol)) → AllByRecursion (Matches any_group) parts
    → (groups : List GroupOutline) × AllByRecursion IsGroupOutline groups
    × (flat_map (λ part. part) parts ≡ flat_map group_symbols groups)
groups_back [] h = ([], tt, refl)
groups_back (x ∷ parts) h =
    let g = any_group_back x h.0 in
    let rest = groups_back parts h.1 in
    (g.0 ∷ rest.0, (g.1, rest.1), ap₂ (λ (ys zs : List Symbol). ys ++ zs) g.2 rest.2)

pub matches_whole : (xs : List Symbol) → Matches (left stages.Start) xs → IsWhole xs
matches_whole xs m =
    let b = rest_after_head (Plain kinds.Hdr) (some any_group then a kinds.Trl) xs m in
    let foot : b.2.1 ≡ Plain kinds.Trl ∷ [] = is_alone (Plain kinds.Trl) b.2.1 b.2.4 in
    let first = any_group_back b.2.3.0 b.2.3.3 in
    let rest = groups_back b.2.3.4.0 b.2.3.4.2 in
    let inside : b.2.0 ≡ flat_map group_symbols (first.0 ∷ rest.0) =
    b.2.3.2 ∙ ap₂ (λ (ys zs : List Symbol). ys ++ zs) first.2 (b.2.3.4.1 ∙ rest.2) in (
      first.0 ∷ rest.0,
      (omega arith, (first.1, rest.1)),
      b.1 ∙ ap (λ (ys : List Symbol). Plain kinds.Hdr ∷ ys) (b.2.2 ∙ ap₂ (λ (ys zs : List Symbol). ys ++ zs) inside foot),
    )
