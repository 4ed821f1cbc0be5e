-- The items of a transmission are put together to one, and to no other.
use Rattle.std.proofs.Common.{◌≡◌, ◌<◌, List, [], ◌∷◌, ◌++◌, length, map, refl, sym, ap, ap₂, subst, ◌∙◌, append_assoc}
use Rattle.std.proofs.Common.{append-nil, arith, inl, inr}
use Rattle.std.specs.Prelude.{◌⊎◌}
use Rattle.std.proofs.lemmas.List.{length-append}
use Rattle.std.specs.List.{AllByRecursion, flat_map}
use Rattle.cwr_fields.specs.declared.codes.TransactionType.{TransactionType}
use Rattle.cwr_fields.specs.declared.codes.TransactionType.TheVariants.{Agreement, NewWork, RevisedWork, Acknowledgement}
use Rattle.cwr_fields.specs.declared.kinds.Kind.TheVariants as kinds
use Rattle.cwr_lines.specs.Format.Records.{RecordValue}
use Rattle.cwr_shape.specs.declared.symbols.Symbol.{Symbol}
use Rattle.cwr_shape.specs.declared.symbols.Symbol.TheVariants.{Plain}
use Rattle.cwr_shape.specs.Format.Numbers.{symbol_kind}
use Rattle.cwr_shape.specs.Format.Shapes.{IsShape, some, many, carrying, a, block, publisher, writer, tail_record, copy, ◌then◌}
use Rattle.cwr_shape.specs.Format.NextSymbols.{header_kind}
use Rattle.cwr_shape.proofs.lemmas.HeadFirst.{rest_after_head}
use Rattle.cwr_values.specs.declared.groups.GroupFault.{GroupFault}
use Rattle.cwr_values.specs.declared.groups.GroupFault.TheVariants as faults
use Rattle.cwr_values.specs.declared.items.Item.{Item}
use Rattle.cwr_values.specs.declared.items.Item.TheVariants.{GroupOpened, Transaction, GroupClosed, Ended}
use Rattle.cwr_values.specs.Format.Values.{GroupValue, TransmissionValue, symbol_of, type_of, IsTransaction, IsGroup, IsRecordOf}
use Rattle.cwr_values.specs.Format.Begun.{HasHeaderOf, IsWholeTransaction}
use Rattle.cwr_judge.specs.Format.Items.{group_rest, group_items, value_items}
use Rattle.cwr_decode.specs.Format.Runs.{AreGroupItems}
use Rattle.cwr_judge.proofs.lemmas.NumberCells.{symbol_kind-of}

-- ---- a whole transaction begins with its header

headed : (ty : TransactionType) (xs : List Symbol) → IsShape ty xs → (rest : List Symbol) × (xs ≡ Plain (header_kind ty) ∷ rest)
headed Agreement xs m = let b = rest_after_head (Plain kinds.Agr) (carrying (some block)) xs m in (b.0, b.1)
headed NewWork xs m =
    let b =
    rest_after_head (Plain kinds.Nwr) (carrying (many publisher then some writer then many tail_record)) xs m in (b.0, b.1)
headed RevisedWork xs m =
    let b =
    rest_after_head (Plain kinds.Rev) (carrying (many publisher then some writer then many tail_record)) xs m in (b.0, b.1)
headed Acknowledgement xs m = let b = rest_after_head (Plain kinds.Ack) (many (a kinds.Msg) then copy) xs m in (b.0, b.1)

pub has_header : (ty : TransactionType) (t : List RecordValue) → IsTransaction ty t → HasHeaderOf ty t
has_header ty [] h = let e = (headed ty [] h.1).1 in absurd (cc e)
has_header ty (r ∷ t) h =
    let e = (headed ty (symbol_of r ∷ map symbol_of t) h.1).1 in
    let first : symbol_of r ≡ Plain (header_kind ty) = cc e in
    sym (symbol_kind-of r) ∙ ap symbol_kind first

-- so a group of its type refuses it only where it is out of memory
pub never_refused : (fault : GroupFault) (ty : TransactionType) (t : List RecordValue) → IsTransaction ty t
    → (fault ≡ faults.WrongKind) ⊎ (fault ≡ faults.Incomplete)
    → (fault ≡ faults.WrongKind → ¬ HasHeaderOf ty t) → (fault ≡ faults.Incomplete → HasHeaderOf ty t × ¬ IsWholeTransaction t)
    → ⊥
never_refused fault ty t h (inl e) wrong incomplete = wrong e (has_header ty t h)
never_refused fault ty t h (inr e) wrong incomplete = (incomplete e).1 (ty, h.1)

-- ---- the items of a group

pub next_transaction : (head : RecordValue) (t : List RecordValue) (given : List Item)
    → AreGroupItems head (Transaction t ∷ given) → IsTransaction (type_of head) t × AreGroupItems head given
next_transaction head t given h = by h.transactions h.each h.given_are
  where
    by : (ts : List (List RecordValue)) → AllByRecursion (IsTransaction (type_of head)) ts
        → Transaction t ∷ given ≡ map Transaction ts ++ GroupClosed h.foot ∷ h.rest
        → IsTransaction (type_of head) t × AreGroupItems head given
    by [] each e = absurd (cc e)
    by (u ∷ ts) each e =
        let same : u ≡ t = sym (cc e) in (
          subst (IsTransaction (type_of head)) same each.0,
          record {
            head_is = h.head_is;
            transactions = ts;
            each = each.1;
            foot = h.foot;
            foot_is = h.foot_is;
            rest = h.rest;
            given_are = cc e;
          },
        )

pub next_foot : (head foot : RecordValue) (given : List Item) → AreGroupItems head (GroupClosed foot ∷ given)
    → foot.kind ≡ kinds.Grt
next_foot head foot given h = by h.transactions h.given_are
  where
    by : (ts : List (List RecordValue)) → GroupClosed foot ∷ given ≡ map Transaction ts ++ GroupClosed h.foot ∷ h.rest
        → foot.kind ≡ kinds.Grt
    by [] e = let same : foot ≡ h.foot = cc e in ap (λ (r : RecordValue). r.kind) same ∙ h.foot_is.0
    by (u ∷ ts) e = absurd (cc e)

pub next_in_group : (head : RecordValue) (item : Item) (given : List Item) → AreGroupItems head (item ∷ given)
    → ((t : List RecordValue) → item ≡ Transaction t → ⊥) → ((r : RecordValue) → item ≡ GroupClosed r → ⊥) → ⊥
next_in_group head item given h is_no_transaction is_no_foot = by h.transactions h.given_are
  where
    by : (ts : List (List RecordValue)) → item ∷ given ≡ map Transaction ts ++ GroupClosed h.foot ∷ h.rest → ⊥
    by [] e = is_no_foot h.foot (cc e)
    by (u ∷ ts) e = is_no_transaction u (cc e)

pub more_transactions : (ts : List (List RecordValue)) (t : List RecordValue) (rest : List Item)
    → map Transaction ts ++ Transaction t ∷ rest ≡ map Transaction (ts ++ t ∷ []) ++ rest
more_transactions [] t rest = refl
more_transactions (u ∷ ts) t rest = ap (λ (l : List Item). Transaction u ∷ l) (more_transactions ts t rest)

-- ---- the items once more

-- the items of a group determine its transactions, its GRT record and what comes after them
pub record SameRest (ts us : List (List RecordValue)) (f g : RecordValue) (rest more : List Item) : Type 0 where
  pub transactions : ts ≡ us
  pub foot : f ≡ g
  pub after : rest ≡ more

pub rest_once : (ts us : List (List RecordValue)) (f g : RecordValue) (rest more : List Item)
    → map Transaction ts ++ GroupClosed f ∷ rest ≡ map Transaction us ++ GroupClosed g ∷ more → SameRest ts us f g rest more
rest_once [] [] f g rest more e = record { transactions = refl; foot = cc e; after = cc e }
rest_once [] (u ∷ us) f g rest more e = absurd (cc e)
rest_once (t ∷ ts) [] f g rest more e = absurd (cc e)
rest_once (t ∷ ts) (u ∷ us) f g rest more e =
    let s = rest_once ts us f g rest more (cc e) in
    let same : t ≡ u = cc e in
    record {
      transactions = ap₂ (λ (x : List RecordValue) (xs : List (List RecordValue)). x ∷ xs) same s.transactions;
      foot = s.foot;
      after = s.after;
    }

-- ---- the items of groups

-- the items continue as those of groups, up to the end
pub record AreGroups (given : List Item) : Type 0 where
  pub groups : List GroupValue
  pub each : AllByRecursion IsGroup groups
  pub given_are : given ≡ flat_map group_items groups ++ Ended ∷ []

group_next : (g : GroupValue) (gs : List GroupValue)
    → flat_map group_items (g ∷ gs) ++ Ended ∷ [] ≡ GroupOpened g.head ∷ (group_rest g ++ (flat_map group_items gs ++ Ended ∷ []))
group_next g gs = append_assoc (group_items g) (flat_map group_items gs) (Ended ∷ [])

group_rest_is : (g : GroupValue) (more : List Item)
    → group_rest g ++ more ≡ map Transaction g.transactions ++ GroupClosed g.foot ∷ more
group_rest_is g more = append_assoc (map Transaction g.transactions) (GroupClosed g.foot ∷ []) more

pub group_begins : (head : RecordValue) (given : List Item) → AreGroups (GroupOpened head ∷ given) → AreGroupItems head given
group_begins head given h = by h.groups h.each h.given_are
  where
    by : (gs : List GroupValue) → AllByRecursion IsGroup gs → GroupOpened head ∷ given ≡ flat_map group_items gs ++ Ended ∷ []
        → AreGroupItems head given
    by [] each e = absurd (cc e)
    by (g ∷ gs) each e =
        let whole = e ∙ group_next g gs in
        let same : g.head ≡ head = sym (cc whole) in
        record {
          head_is = subst (IsRecordOf kinds.Grh) same each.0.head;
          transactions = g.transactions;
          each = subst (λ (r : RecordValue). AllByRecursion (IsTransaction (type_of r)) g.transactions) same each.0.each;
          foot = g.foot;
          foot_is = each.0.foot;
          rest = flat_map group_items gs ++ Ended ∷ [];
          given_are =
              let rest : given ≡ group_rest g ++ (flat_map group_items gs ++ Ended ∷ []) =
              cc whole in rest ∙ group_rest_is g (flat_map group_items gs ++ Ended ∷ []);
        }

pub group_ends : (head : RecordValue) (given : List Item) (g : GroupValue) (rest : List Item)
    → AreGroups (GroupOpened head ∷ given) → given ≡ group_rest g ++ rest → (0 < length g.transactions) × AreGroups rest
group_ends head given g rest h split = by h.groups h.each h.given_are
  where
    by : (gs : List GroupValue) → AllByRecursion IsGroup gs → GroupOpened head ∷ given ≡ flat_map group_items gs ++ Ended ∷ []
        → (0 < length g.transactions) × AreGroups rest
    by [] each e = absurd (cc e)
    by (f ∷ gs) each e =
        let whole = e ∙ group_next f gs in
        let there : given ≡ group_rest f ++ (flat_map group_items gs ++ Ended ∷ []) = cc whole in
        let tail : List Item = flat_map group_items gs ++ Ended ∷ [] in
        let once =
        rest_once g.transactions f.transactions g.foot f.foot rest tail
        (sym (group_rest_is g rest) ∙ sym split ∙ there ∙ group_rest_is f tail) in (
          subst (λ (ts : List (List RecordValue)). 0 < length ts) (sym once.transactions) each.0.some_transaction,
          record { groups = gs; each = each.1; given_are = once.after },
        )

pub groups_end : (given : List Item) → AreGroups (Ended ∷ given) → given ≡ []
groups_end given h = by h.groups h.given_are
  where
    by : (gs : List GroupValue) → Ended ∷ given ≡ flat_map group_items gs ++ Ended ∷ [] → given ≡ []
    by [] e = cc e
    by (g ∷ gs) e = let whole = e ∙ group_next g gs in absurd (cc whole)

pub never_over : (given : List Item) → AreGroups given → length given ≡ 0 → ⊥
never_over given h e = omega (arith, e, ap length h.given_are, length-append (flat_map group_items h.groups) (Ended ∷ []))

pub next_group : (item : Item) (given : List Item) → AreGroups (item ∷ given) → ((r : RecordValue) → item ≡ GroupOpened r → ⊥)
    → (item ≡ Ended → ⊥) → ⊥
next_group item given h is_no_group is_no_end = by h.groups h.given_are
  where
    by : (gs : List GroupValue) → item ∷ given ≡ flat_map group_items gs ++ Ended ∷ [] → ⊥
    by [] e = is_no_end (cc e)
    by (g ∷ gs) e = let whole = e ∙ group_next g gs in is_no_group g.head (cc whole)

pub more_groups : (gs : List GroupValue) (g : GroupValue) (rest : List Item)
    → flat_map group_items gs ++ GroupOpened g.head ∷ (group_rest g ++ rest) ≡ flat_map group_items (gs ++ g ∷ []) ++ rest
more_groups [] g rest = ap (λ (l : List Item). l ++ rest) (sym (append-nil (group_items g)))
more_groups (f ∷ gs) g rest =
    append_assoc (group_items f) (flat_map group_items gs) (GroupOpened g.head ∷ (group_rest g ++ rest))
    ∙ ap (λ (l : List Item). group_items f ++ l) (more_groups gs g rest)
    ∙ sym (append_assoc (group_items f) (flat_map group_items (gs ++ g ∷ [])) rest)

-- ---- one transmission

groups_once : (gs hs : List GroupValue) → flat_map group_items gs ++ Ended ∷ [] ≡ flat_map group_items hs ++ Ended ∷ [] → gs ≡ hs
groups_once [] [] e = refl
groups_once [] (h ∷ hs) e = let whole = e ∙ group_next h hs in absurd (cc whole)
groups_once (g ∷ gs) [] e = let whole = sym e ∙ group_next g gs in absurd (cc whole)
groups_once (g ∷ gs) (h ∷ hs) e =
    let whole = sym (group_next g gs) ∙ e ∙ group_next h hs in
    let heads : g.head ≡ h.head = cc whole in
    let more : List Item = flat_map group_items gs ++ Ended ∷ [] in
    let others : List Item = flat_map group_items hs ++ Ended ∷ [] in
    let rest : group_rest g ++ more ≡ group_rest h ++ others = cc whole in
    let once =
    rest_once g.transactions h.transactions g.foot h.foot more others
    (sym (group_rest_is g more) ∙ rest ∙ group_rest_is h others) in
    let tails : gs ≡ hs = groups_once gs hs once.after in
    let same : g ≡ h = λ i. record { head = heads i; transactions = once.transactions i; foot = once.foot i } in
    λ i. same i ∷ tails i

pub items_once : (v w : TransmissionValue) → value_items v ≡ value_items w → v ≡ w
items_once v w e =
    let openings : v.opening ≡ w.opening = cc e in
    let groups = groups_once v.groups w.groups (cc e) in
    λ i. record { opening = openings i; groups = groups i }
