-- The numbers of a transmission, record by record: counters give the same as sums over its groups and transactions.
use Rattle.std.proofs.Common.{◌≡◌, ℕ, suc, ◌+◌, Bool, false, cond, List, [], ◌∷◌, ◌++◌, length, map, refl, sym, ap, ap₂, subst}
use Rattle.std.proofs.Common.{◌∙◌, arith}
use Rattle.std.specs.Prelude.{sum, sum_by, slice_index_or}
use Rattle.std.specs.List.{AllByRecursion, flat_map, enumerate_from}
use Rattle.std.proofs.lemmas.List.{length-map}
use Rattle.std.proofs.lemmas.List.Sums.{sum_by-cons}
use Rattle.cwr_fields.specs.declared.codes.TransactionType.{TransactionType}
use Rattle.cwr_fields.specs.declared.codes.TransactionType.TheVariants.{Agreement, NewWork, RevisedWork, Acknowledgement}
use Rattle.cwr_fields.specs.declared.kinds.Kind.TheVariants as kinds
use Rattle.cwr_shape.specs.declared.symbols.Symbol.{Symbol}
use Rattle.cwr_shape.specs.declared.symbols.Symbol.TheVariants.{Plain}
use Rattle.cwr_shape.specs.declared.tallies.Counts.{Counts}
use Rattle.cwr_shape.specs.Format.Shapes.{IsShape, a}
use Rattle.cwr_shape.specs.Format.Outlines.{GroupOutline, group_symbols, symbols_of, IsGroupOutline, IsOutline}
use Rattle.cwr_shape.specs.Format.Numbers.{transaction_numbers, group_records, group_numbers, all_records, numbers_of, lengths_of}
use Rattle.cwr_shape.specs.Format.Numbers.{symbol_kind}
use Rattle.cwr_shape.specs.Format.NextSymbols.{is_header_of, open_type, counts_of}
use Rattle.cwr_shape.specs.Format.ExpectedNumbers.{expected_numbers}
use Rattle.cwr_shape.specs.Steps.Counting.{counts_with_group, counts_with_header, counts_with_other}
use Rattle.cwr_shape.proofs.lemmas.OneMore.{types_after, open_type_after}
use Rattle.cwr_shape.proofs.lemmas.TransactionNumbers.{walk, counts_after, walk-append, counts_after-append, types_after-append, walk_at}
use Rattle.cwr_shape.proofs.lemmas.TransactionNumbers.{counted, Moved, walks_transaction}

-- ---- the transactions of a group

record WalksTransactions (ty : TransactionType) (c : Counts) (ts : List (List Symbol)) : Type 0 where
  numbers : walk ty c (flat_map (λ t. t) ts)
      ≡ flat_map (λ p. transaction_numbers p.0 p.1) (enumerate_from c.in_group (map length ts))
  moved : Moved c (counts_after ty c (flat_map (λ t. t) ts)) (sum (map length ts)) (length ts)
  same_type : types_after ty (flat_map (λ t. t) ts) ≡ ty

walks_transactions : (ty : TransactionType) (c : Counts) (ts : List (List Symbol)) → AllByRecursion (IsShape ty) ts
    → WalksTransactions ty c ts
walks_transactions ty c [] h = record {
  numbers = refl;
  moved =
      record {
        records_more = omega arith;
        groups_same = refl;
        transactions_more = omega arith;
        in_group_more = omega arith;
        after_more = omega arith;
      };
  same_type = refl;
}
walks_transactions ty c (t ∷ ts) h =
    let one = walks_transaction ty c t h.0 in
    let rest = walks_transactions ty (counts_after ty c t) ts h.1 in
    let same = one.same_type in
    let total : sum (map length (t ∷ ts)) ≡ length t + sum (map length ts) =
    sum_by-cons (λ (x : ℕ). x) (length t) (map length ts) in
    let more : List Symbol = flat_map (λ u. u) ts in
    let on : counts_after ty c (t ++ more) ≡ counts_after ty (counts_after ty c t) more
    = counts_after-append ty c t more ∙ ap (λ (u : TransactionType). counts_after u (counts_after ty c t) more) same in
    record {
      numbers = walk-append ty c t more
          ∙ ap₂ (λ (k l : List (List ℕ)). k ++ l) one.numbers
          (ap (λ (u : TransactionType). walk u (counts_after ty c t) more) same ∙ rest.numbers
          ∙ ap (λ (n : ℕ). flat_map (λ p. transaction_numbers p.0 p.1) (enumerate_from n (map length ts)))
          one.moved.in_group_more);
      moved = subst (λ (b : Counts). Moved c b (sum (map length (t ∷ ts))) (suc (length ts))) (sym on) (record {
        records_more = omega (arith, total, one.moved.records_more, rest.moved.records_more);
        groups_same = rest.moved.groups_same ∙ one.moved.groups_same;
        transactions_more = omega (arith, one.moved.transactions_more, rest.moved.transactions_more);
        in_group_more = omega (arith, one.moved.in_group_more, rest.moved.in_group_more);
        after_more = omega (arith, total, one.moved.after_more, rest.moved.after_more);
      });
      same_type = types_after-append ty t more ∙ ap (λ (u : TransactionType). types_after u more) same ∙ rest.same_type;
    }

-- ---- groups

record WalksGroup (ty : TransactionType) (c : Counts) (g : GroupOutline) : Type 0 where
  numbers : walk ty c (group_symbols g) ≡ group_numbers c.groups (map length g.transactions)
  records_more : (counts_after ty c (group_symbols g)).records ≡ c.records + group_records (map length g.transactions)
  groups_more : (counts_after ty c (group_symbols g)).groups ≡ c.groups + 1
  transactions_more : (counts_after ty c (group_symbols g)).transactions ≡ c.transactions + length g.transactions

walks_group : (ty : TransactionType) (c : Counts) (g : GroupOutline) → AllByRecursion (IsShape g.ty) g.transactions
    → WalksGroup ty c g
walks_group ty c g h =
    let ts : List (List Symbol) = g.transactions in
    let foot : List Symbol = Plain kinds.Grt ∷ [] in
    let inside = walks_transactions g.ty (counts_with_group c) ts h in
    let last : Counts = counts_after g.ty (counts_with_group c) (flat_map (λ t. t) ts) in
    let on : counts_after ty c (group_symbols g) ≡ counts_after g.ty last foot
    = counts_after-append g.ty (counts_with_group c) (flat_map (λ t. t) ts) foot
    ∙ ap (λ (u : TransactionType). counts_after u last foot) inside.same_type in
    let end : counts_after g.ty last foot ≡ counts_with_other last =
    ap (λ (b : Bool). cond b (counts_with_header last) (counts_with_other last)) (no_header g.ty) in
    let moved = inside.moved in
    let numbers : last.groups ∷ last.in_group ∷ (last.after_grh + 2) ∷ []
    ≡ (c.groups + 1) ∷ length (map length ts) ∷ group_records (map length ts) ∷ []
    = numbers_same last.groups (c.groups + 1) last.in_group (length (map length ts)) (last.after_grh + 2)
    (group_records (map length ts))
    moved.groups_same (omega (arith, moved.in_group_more, length-map ts length)) (omega (arith, moved.after_more)) in
    record {
      numbers = ap (λ (l : List (List ℕ)). ((c.groups + 1) ∷ []) ∷ l)
          (walk-append g.ty (counts_with_group c) (flat_map (λ t. t) ts) foot
          ∙ ap₂ (λ (k l : List (List ℕ)). k ++ l) inside.numbers
          (ap (λ (u : TransactionType). walk u last foot) inside.same_type ∙ ap (λ (n : List ℕ). n ∷ []) numbers));
      records_more = ap (λ (b : Counts). b.records) (on ∙ end) ∙ omega (arith, moved.records_more);
      groups_more = ap (λ (b : Counts). b.groups) (on ∙ end) ∙ moved.groups_same;
      transactions_more = ap (λ (b : Counts). b.transactions) (on ∙ end) ∙ omega (arith, moved.transactions_more);
    }
  where
    no_header : (u : TransactionType) → is_header_of u (Plain kinds.Grt) ≡ false
    no_header Agreement = refl
    no_header NewWork = refl
    no_header RevisedWork = refl
    no_header Acknowledgement = refl

    numbers_same : (a b d e m n : ℕ) → a ≡ b → d ≡ e → m ≡ n → a ∷ d ∷ m ∷ [] ≡ b ∷ e ∷ n ∷ []
    numbers_same a b d e m n x y z = cc (x, y, z)

record WalksGroups (ty : TransactionType) (c : Counts) (groups : List GroupOutline) : Type 0 where
  numbers : walk ty c (flat_map group_symbols groups)
      ≡ flat_map (λ p. group_numbers p.0 p.1) (enumerate_from c.groups (lengths_of groups))
  records_more : (counts_after ty c (flat_map group_symbols groups)).records
      ≡ c.records + sum_by group_records (lengths_of groups)
  groups_more : (counts_after ty c (flat_map group_symbols groups)).groups ≡ c.groups + length groups
  transactions_more : (counts_after ty c (flat_map group_symbols groups)).transactions
      ≡ c.transactions + sum_by length (lengths_of groups)

walks_groups : (ty : TransactionType) (c : Counts) (groups : List GroupOutline) → AllByRecursion IsGroupOutline groups
    → WalksGroups ty c groups
walks_groups ty c [] h =
    record { numbers = refl; records_more = omega arith; groups_more = omega arith; transactions_more = omega arith }
walks_groups ty c (g ∷ groups) h =
    let one = walks_group ty c g h.0.1 in
    let rest_after_head : Counts = counts_after ty c (group_symbols g) in
    let more : List Symbol = flat_map group_symbols groups in
    let rest = walks_groups (types_after ty (group_symbols g)) rest_after_head groups h.1 in
    let on : counts_after ty c (group_symbols g ++ more) ≡ counts_after (types_after ty (group_symbols g)) rest_after_head more =
    counts_after-append ty c (group_symbols g) more in
    let records = sum_by-cons group_records (map length g.transactions) (lengths_of groups) in
    let transactions = sum_by-cons length (map length g.transactions) (lengths_of groups) in
    record {
      numbers = walk-append ty c (group_symbols g) more
          ∙ ap₂ (λ (k l : List (List ℕ)). k ++ l) one.numbers
          (rest.numbers
          ∙ ap (λ (n : ℕ). flat_map (λ p. group_numbers p.0 p.1) (enumerate_from n (lengths_of groups))) one.groups_more);
      records_more = ap (λ (b : Counts). b.records) on ∙ omega (arith, rest.records_more, one.records_more, records);
      groups_more = ap (λ (b : Counts). b.groups) on ∙ omega (arith, rest.groups_more, one.groups_more);
      transactions_more =
          ap (λ (b : Counts). b.transactions) on
          ∙ omega (arith, rest.transactions_more, one.transactions_more, transactions, length-map g.transactions length);
    }

-- ---- a transmission

-- the numbers of the model are those that counters give, from none
pub walks_whole : (groups : List GroupOutline) → IsOutline groups
    → walk Acknowledgement (counts_of []) (symbols_of groups) ≡ numbers_of (lengths_of groups)
walks_whole groups h =
    let first : Counts = counts_with_other (counts_of []) in
    let inside = walks_groups Acknowledgement first groups h.1 in
    let symbols : List Symbol = flat_map group_symbols groups in
    let last : Counts = counts_after Acknowledgement first symbols in
    let numbers : last.groups ∷ last.transactions ∷ (last.records + 1) ∷ []
    ≡ length (lengths_of groups) ∷ sum_by length (lengths_of groups) ∷ all_records (lengths_of groups) ∷ []
    = numbers_same last.groups (length (lengths_of groups)) last.transactions (sum_by length (lengths_of groups))
    (last.records + 1) (all_records (lengths_of groups))
    (omega (arith, inside.groups_more, length-map groups (λ g. map length g.transactions)))
    (omega (arith, inside.transactions_more)) (omega (arith, inside.records_more)) in
    ap (λ (l : List (List ℕ)). [] ∷ l)
    (walk-append Acknowledgement first symbols (Plain kinds.Trl ∷ [])
    ∙ ap₂ (λ (k l : List (List ℕ)). k ++ l) inside.numbers (ap (λ (n : List ℕ). n ∷ []) numbers))
  where
    numbers_same : (a b d e m n : ℕ) → a ≡ b → d ≡ e → m ≡ n → a ∷ d ∷ m ∷ [] ≡ b ∷ e ∷ n ∷ []
    numbers_same a b d e m n x y z = cc (x, y, z)

-- In each transmission that continues from some symbols by one more, its numbers are those that are counted of the symbols before it.
pub numbers_counted : (groups : List GroupOutline) (xs : List Symbol) (s : Symbol) (rest : List Symbol) → IsOutline groups
    → symbols_of groups ≡ xs ++ s ∷ rest
    → slice_index_or (numbers_of (lengths_of groups)) (length xs) []
    ≡ expected_numbers (open_type xs) (counts_of xs) (symbol_kind s)
numbers_counted groups xs s rest h e =
    ap (λ (l : List (List ℕ)). slice_index_or l (length xs) [])
    (sym (walks_whole groups h) ∙ ap (walk Acknowledgement (counts_of [])) e)
    ∙ walk_at Acknowledgement (counts_of []) xs s rest
    ∙ ap₂ (λ (ty : TransactionType) (c : Counts). expected_numbers ty c (symbol_kind s)) (sym (open_type_after xs)) (counted xs)
