-- Records in order, whose symbols are those of an outline, are the records of one transmission.
use Rattle.std.proofs.Common.{◌≡◌, ℕ, List, [], ◌∷◌, ◌++◌, length, map, refl, sym, ap, ap₂, subst, ◌∙◌, arith, append_assoc}
use Rattle.std.specs.List.{AllZip, AllByRecursion, flat_map}
use Rattle.std.proofs.lemmas.List.{length-map}
use Rattle.cwr_fields.specs.declared.codes.TransactionType.{TransactionType}
use Rattle.cwr_fields.specs.declared.kinds.Kind.{Kind}
use Rattle.cwr_fields.specs.declared.kinds.Kind.TheVariants as kinds
use Rattle.cwr_lines.specs.Format.Records.{RecordValue, IsRecord, IsCellOf, carried_fields}
use Rattle.cwr_shape.specs.declared.symbols.Symbol.{Symbol}
use Rattle.cwr_shape.specs.declared.symbols.Symbol.TheVariants.{Plain, Grh}
use Rattle.cwr_shape.specs.Format.Shapes.{IsShape}
use Rattle.cwr_shape.specs.Format.Outlines.{GroupOutline, group_symbols, symbols_of, IsGroupOutline, IsOutline}
use Rattle.cwr_values.specs.Format.Values.{GroupValue, TransmissionValue, IsTransmission, IsGroup, IsTransaction, type_of}
use Rattle.cwr_values.specs.Format.Values.{symbol_of, symbol_by, outline_of, outline_of_group}
use Rattle.cwr_values.specs.Format.Rows.{records_of, records_of_group, trailer}

-- the transmission that has these groups in symbols and these records
pub record Built (groups : List GroupOutline) (records : List RecordValue) : Type 0 where
  pub value : TransmissionValue
  pub whole : IsTransmission value
  pub outline : outline_of value ≡ groups
  pub records_are : records_of value ≡ records

-- ---- kinds from symbols

pub plain_kind : (k : Kind) (r : RecordValue) (j : Kind) → symbol_by k r ≡ Plain j → k ≡ j
plain_kind kinds.Ipa r j e = absurd (cc e)
plain_kind kinds.Grh r j e = absurd (cc e)
plain_kind k r j e = cc e

pub head_symbol : (k : Kind) (r : RecordValue) (ty : TransactionType) → symbol_by k r ≡ Grh ty
    → (k ≡ kinds.Grh) × (type_of r ≡ ty)
head_symbol kinds.Grh r ty e = (refl, cc e)
head_symbol k r ty e = absurd (cc e)

no_cells : (k : Kind) (cells : List (List ℕ)) → k ≡ kinds.Trl → AllZip IsCellOf (carried_fields k) cells → cells ≡ []
no_cells k cells e h = none cells (subst (λ (j : Kind). AllZip IsCellOf (carried_fields j) cells) e h)
  where
    none : (cs : List (List ℕ)) → AllZip IsCellOf [] cs → cs ≡ []
    none [] q = refl
    none (c ∷ cs) q = absurd q

-- a TRL record in order carries nothing
pub is_trailer : (r : RecordValue) → r.kind ≡ kinds.Trl → IsRecord r → r ≡ trailer
is_trailer r e h = let cells = no_cells r.kind r.cells e h in λ i. record { kind = e i; cells = cells i }

-- ---- records, part by part

-- records in order with these symbols
record Left (rs : List RecordValue) (xs : List Symbol) : Type 0 where
  symbols : map symbol_of rs ≡ xs
  in_order : AllByRecursion IsRecord rs

-- one record, and then others
record One (rs : List RecordValue) (s : Symbol) (xs : List Symbol) : Type 0 where
  head : RecordValue
  back : List RecordValue
  whole : rs ≡ head ∷ back
  symbol : symbol_of head ≡ s
  head_in_order : IsRecord head
  left : Left back xs

one : (rs : List RecordValue) (s : Symbol) (xs : List Symbol) → Left rs (s ∷ xs) → One rs s xs
one [] s xs h = absurd (empty h.symbols)
  where
    empty : [] ≡ s ∷ xs → ⊥
    empty e = cc e
one (r ∷ rs) s xs h =
    let symbol : symbol_of r ≡ s = cc h.symbols in
    let rest : map symbol_of rs ≡ xs = cc h.symbols in
    record {
      head = r;
      back = rs;
      whole = refl;
      symbol = symbol;
      head_in_order = h.in_order.0;
      left = record { symbols = rest; in_order = h.in_order.1 };
    }

-- some records, and then others
record SomeThen (rs : List RecordValue) (xs ys : List Symbol) : Type 0 where
  front : List RecordValue
  back : List RecordValue
  whole : rs ≡ front ++ back
  taken : Left front xs
  left : Left back ys

some_then : (rs : List RecordValue) (xs ys : List Symbol) → Left rs (xs ++ ys) → SomeThen rs xs ys
some_then rs [] ys h = record { front = []; back = rs; whole = refl; taken = record { symbols = refl; in_order = tt }; left = h }
some_then rs (x ∷ xs) ys h =
    let o = one rs x (xs ++ ys) h in
    let more = some_then o.back xs ys o.left in
    record {
      front = o.head ∷ more.front;
      back = more.back;
      whole = o.whole ∙ ap (λ (l : List RecordValue). o.head ∷ l) more.whole;
      taken =
          record {
            symbols = ap₂ (λ (s : Symbol) (l : List Symbol). s ∷ l) o.symbol more.taken.symbols;
            in_order = (o.head_in_order, more.taken.in_order);
          };
      left = more.left;
    }

-- transactions, and then others
record TransactionsThen (ty : TransactionType) (ts : List (List Symbol)) (rs : List RecordValue) (xs : List Symbol) : Type 0 where
  lists : List (List RecordValue)
  back : List RecordValue
  whole : rs ≡ flat_map (λ t. t) lists ++ back
  outline : map (map symbol_of) lists ≡ ts
  each : AllByRecursion (IsTransaction ty) lists
  left : Left back xs

transactions_then : (ty : TransactionType) (ts : List (List Symbol)) (rs : List RecordValue) (xs : List Symbol)
    → AllByRecursion (IsShape ty) ts → Left rs (flat_map (λ t. t) ts ++ xs)
    → TransactionsThen ty ts rs xs
transactions_then ty [] rs xs h l = record { lists = []; back = rs; whole = refl; outline = refl; each = tt; left = l }
transactions_then ty (t ∷ ts) rs xs h l =
    let p = some_then rs t (flat_map (λ u. u) ts ++ xs) (subst (Left rs) (append_assoc t (flat_map (λ u. u) ts) xs) l) in
    let more = transactions_then ty ts p.back xs h.1 p.left in
    record {
      lists = p.front ∷ more.lists;
      back = more.back;
      whole =
          p.whole ∙ ap (λ (k : List RecordValue). p.front ++ k) more.whole
          ∙ sym (append_assoc p.front (flat_map (λ u. u) more.lists) more.back);
      outline = ap₂ (λ (a : List Symbol) (k : List (List Symbol)). a ∷ k) p.taken.symbols more.outline;
      each = ((p.taken.in_order, subst (IsShape ty) (sym p.taken.symbols) h.0), more.each);
      left = more.left;
    }

-- a group, and then others
record GroupThen (g : GroupOutline) (rs : List RecordValue) (xs : List Symbol) : Type 0 where
  group : GroupValue
  back : List RecordValue
  whole : rs ≡ records_of_group group ++ back
  outline : outline_of_group group ≡ g
  is_group : IsGroup group
  left : Left back xs

group_whole : (rs inner rest : List RecordValue) (head : RecordValue) (lists : List (List RecordValue)) (foot : RecordValue)
    (back : List RecordValue)
    → rs ≡ head ∷ inner → inner ≡ flat_map (λ t. t) lists ++ rest → rest ≡ foot ∷ back
    → rs ≡ (head ∷ (flat_map (λ t. t) lists ++ foot ∷ [])) ++ back
group_whole rs inner rest head lists foot back e f g =
    e ∙ ap (λ (k : List RecordValue). head ∷ k) (f ∙ ap (λ (k : List RecordValue). flat_map (λ t. t) lists ++ k) g
    ∙ sym (append_assoc (flat_map (λ t. t) lists) (foot ∷ []) back))

group_then : (g : GroupOutline) (rs : List RecordValue) (xs : List Symbol) → IsGroupOutline g → Left rs (group_symbols g ++ xs)
    → GroupThen g rs xs
group_then g rs xs h l =
    let inner : List Symbol = flat_map (λ t. t) g.transactions in
    let head = one rs (Grh g.ty) ((inner ++ Plain kinds.Grt ∷ []) ++ xs) l in
    let ts =
    transactions_then g.ty g.transactions head.back (Plain kinds.Grt ∷ xs) h.1
    (subst (Left head.back) (append_assoc inner (Plain kinds.Grt ∷ []) xs) head.left) in
    let foot = one ts.back (Plain kinds.Grt) xs ts.left in
    let is_head = head_symbol head.head.kind head.head g.ty head.symbol in
    let group : GroupValue = record { head = head.head; transactions = ts.lists; foot = foot.head } in
    let some : length ts.lists ≡ length g.transactions = sym (length-map ts.lists (map symbol_of)) ∙ ap length ts.outline in
    let type : type_of head.head ≡ g.ty = is_head.1 in
    let parts : map (map symbol_of) ts.lists ≡ g.transactions = ts.outline in
    record {
      group = group;
      back = foot.back;
      whole = group_whole rs head.back ts.back head.head ts.lists foot.head foot.back head.whole ts.whole foot.whole;
      outline = λ i. record { ty = type i; transactions = parts i };
      is_group = record {
        head = (is_head.0, head.head_in_order);
        some_transaction = omega (arith, h.0, some);
        each = subst (λ (t : TransactionType). AllByRecursion (IsTransaction t) ts.lists) (sym type) ts.each;
        foot = (plain_kind foot.head.kind foot.head kinds.Grt foot.symbol, foot.head_in_order);
      };
      left = foot.left;
    }

-- groups, and then others
record GroupsThen (gs : List GroupOutline) (rs : List RecordValue) (xs : List Symbol) : Type 0 where
  groups : List GroupValue
  back : List RecordValue
  whole : rs ≡ flat_map records_of_group groups ++ back
  outline : map outline_of_group groups ≡ gs
  each : AllByRecursion IsGroup groups
  left : Left back xs

groups_then : (gs : List GroupOutline) (rs : List RecordValue) (xs : List Symbol) → AllByRecursion IsGroupOutline gs
    → Left rs (flat_map group_symbols gs ++ xs) → GroupsThen gs rs xs
groups_then [] rs xs h l = record { groups = []; back = rs; whole = refl; outline = refl; each = tt; left = l }
groups_then (g ∷ gs) rs xs h l =
    let p =
    group_then g rs (flat_map group_symbols gs ++ xs) h.0
    (subst (Left rs) (append_assoc (group_symbols g) (flat_map group_symbols gs) xs) l) in
    let more = groups_then gs p.back xs h.1 p.left in
    record {
      groups = p.group ∷ more.groups;
      back = more.back;
      whole =
          p.whole ∙ ap (λ (k : List RecordValue). records_of_group p.group ++ k) more.whole
          ∙ sym (append_assoc (records_of_group p.group) (flat_map records_of_group more.groups) more.back);
      outline = ap₂ (λ (a : GroupOutline) (k : List GroupOutline). a ∷ k) p.outline more.outline;
      each = (p.is_group, more.each);
      left = more.left;
    }

-- ---- the whole

none_left : (rs : List RecordValue) → map symbol_of rs ≡ [] → rs ≡ []
none_left [] e = refl
none_left (r ∷ rs) e = absurd (nonempty (symbol_of r) (map symbol_of rs) e)
  where
    nonempty : (s : Symbol) (ss : List Symbol) → s ∷ ss ≡ [] → ⊥
    nonempty s ss h = cc h

pub built : (groups : List GroupOutline) (records : List RecordValue) → IsOutline groups
    → map symbol_of records ≡ symbols_of groups → AllByRecursion IsRecord records → Built groups records
built groups records h e k =
    let opening =
    one records (Plain kinds.Hdr) (flat_map group_symbols groups ++ Plain kinds.Trl ∷ [])
    (record { symbols = e; in_order = k }) in
    let inner = groups_then groups opening.back (Plain kinds.Trl ∷ []) h.1 opening.left in
    let last = one inner.back (Plain kinds.Trl) [] inner.left in
    let is_last : last.head ≡ trailer =
    is_trailer last.head (plain_kind last.head.kind last.head kinds.Trl last.symbol) last.head_in_order in
    let end : inner.back ≡ trailer ∷ [] =
    last.whole ∙ ap₂ (λ (r : RecordValue) (rs : List RecordValue). r ∷ rs) is_last (none_left last.back last.left.symbols) in
    let some : length inner.groups ≡ length groups = sym (length-map inner.groups outline_of_group) ∙ ap length inner.outline in
    record {
      value = record { opening = opening.head; groups = inner.groups };
      whole = record {
        opening = (plain_kind opening.head.kind opening.head kinds.Hdr opening.symbol, opening.head_in_order);
        some_group = omega (arith, h.0, some);
        each = inner.each;
      };
      outline = inner.outline;
      records_are =
          sym (opening.whole ∙ ap (λ (rs : List RecordValue). opening.head ∷ rs)
          (inner.whole ∙ ap (λ (rs : List RecordValue). flat_map records_of_group inner.groups ++ rs) end));
    }
