-- A text begins with the spelling of one transmission at most.
use Rattle.std.proofs.Common.{◌≡◌, ℕ, zero, suc, ◌<◌, true, List, [], ◌∷◌, ◌++◌, length, map, refl, sym, ap, ap₂, subst, ◌∙◌}
use Rattle.std.proofs.Common.{append_assoc, append-nil, arith, inl, inr}
use Rattle.std.specs.Prelude.{Contains, ◌⊎◌, ◌==◌, slice_index_or}
use Rattle.std.specs.List.{AllZip, AllByRecursion, flat_map, zip, list_all}
use Rattle.std.proofs.lemmas.List.{map-append, length-map}
use Rattle.std.proofs.lemmas.Bool.{and_parts, eqb-true}
use Rattle.cwr_fields.specs.declared.codes.TransactionType.{TransactionType}
use Rattle.cwr_fields.specs.declared.codes.TransactionType.TheVariants.{Agreement, NewWork, RevisedWork, Acknowledgement}
use Rattle.cwr_fields.proofs.lemmas.LineFeeds.{NoLf}
use Rattle.cwr_fields.specs.declared.kinds.Kind.{Kind}
use Rattle.cwr_fields.specs.declared.kinds.Kind.TheVariants as kinds
use Rattle.cwr_lines.specs.Format.Records.{RecordValue, IsRecord, Row, IsRow, row_of, record_of}
use Rattle.cwr_lines.specs.Format.Lines.{IsLineOf}
use Rattle.cwr_lines.proofs.lemmas.RowLaws.{IsRow-row_of, record_of-row_of, one_row}
use Rattle.cwr_lines.proofs.lemmas.LineLaws.{lines_agree, lines_text}
use Rattle.cwr_shape.specs.declared.symbols.Symbol.{Symbol}
use Rattle.cwr_shape.specs.declared.symbols.Symbol.TheVariants.{Plain, Grh}
use Rattle.cwr_shape.specs.Format.Shapes.{IsShape}
use Rattle.cwr_shape.specs.Format.Outlines.{group_symbols, symbols_of, IsGroupOutline, IsOutline}
use Rattle.cwr_shape.specs.Format.Numbers.{numbers_of}
use Rattle.cwr_shape.proofs.lemmas.HeadFirst.{part_class, HeadFirst, head_first}
use Rattle.cwr_shape.proofs.lemmas.PrefixFree.{prefix_free}
use Rattle.cwr_values.specs.Format.Values.{GroupValue, TransmissionValue, IsTransmission, IsGroup, IsTransaction, type_of}
use Rattle.cwr_values.specs.Format.Values.{symbol_of, symbol_by, outline_of, outline_of_group}
use Rattle.cwr_values.specs.Format.Rows.{records_of, records_of_group, trailer, lengths_of_value, rows, Spells}
use Rattle.cwr_values.proofs.lemmas.Spelling.{records_in_order, length-numbers_of, length-records_of}
use Rattle.cwr_values.proofs.lemmas.OneCutIntoParts.{IsOnePart, Begins, parts_agree}

-- ---- a value from its records

later_records : (ty : TransactionType) (rs : List RecordValue) → list_all (λ s. part_class ty s == 2) (map symbol_of rs) ≡ true
    → AllByRecursion (λ r. part_class ty (symbol_of r) ≡ 2) rs
later_records ty [] h = tt
later_records ty (r ∷ rs) h =
    let parts = and_parts (part_class ty (symbol_of r) == 2) (list_all (λ s. part_class ty s == 2) (map symbol_of rs)) h in
    (eqb-true (part_class ty (symbol_of r)) 2 parts.0, later_records ty rs parts.1)

part_of_records : (ty : TransactionType) (t : List RecordValue) → HeadFirst ty (map symbol_of t)
    → IsOnePart (λ r. part_class ty (symbol_of r)) t
part_of_records ty [] h = absurd (empty h.head h.rest h.whole)
  where
    empty : (s : Symbol) (ss : List Symbol) → [] ≡ s ∷ ss → ⊥
    empty s ss e = cc e
part_of_records ty (r ∷ rs) h =
    let same : symbol_of r ≡ h.head = cc h.whole in
    let rest : map symbol_of rs ≡ h.rest = cc h.whole in
    record {
      head = r;
      rest = rs;
      whole = refl;
      first = ap (part_class ty) same ∙ h.is_head;
      later = later_records ty rs (ap (list_all (λ s. part_class ty s == 2)) rest ∙ h.are_later);
    }

pub parts_of : (ty : TransactionType) (ts : List (List RecordValue)) → AllByRecursion (IsTransaction ty) ts
    → AllByRecursion (IsOnePart (λ r. part_class ty (symbol_of r))) ts
parts_of ty [] h = tt
parts_of ty (t ∷ ts) h = (part_of_records ty t (head_first ty (map symbol_of t) h.0.1), parts_of ty ts h.1)

grt_part : (ty : TransactionType) → part_class ty (Plain kinds.Grt) ≡ 0
grt_part Agreement = refl
grt_part NewWork = refl
grt_part RevisedWork = refl
grt_part Acknowledgement = refl

kind_symbol : (r : RecordValue) (k : Kind) → r.kind ≡ k → symbol_of r ≡ symbol_by k r
kind_symbol r k e = ap (λ (j : Kind). symbol_by j r) e

foot_begins : (ty : TransactionType) (foot : RecordValue) (rest : List RecordValue) → foot.kind ≡ kinds.Grt
    → Begins (λ r. part_class ty (symbol_of r)) 0 (foot ∷ rest)
foot_begins ty foot rest e =
    record { at = foot; rest = rest; whole = refl; class = ap (part_class ty) (kind_symbol foot kinds.Grt e) ∙ grt_part ty }

no_group_is_trailer : (g : GroupValue) (rest others : List RecordValue) → IsGroup g → trailer ∷ others ≡ g.head ∷ rest → ⊥
no_group_is_trailer g rest others h e =
    let same : trailer ≡ g.head = cc e in
    let bad : kinds.Trl ≡ kinds.Grh = ap (λ (r : RecordValue). r.kind) same ∙ h.head.0 in
    cc bad

group_split : (g : GroupValue) (rest : List RecordValue)
    → records_of_group g ++ rest ≡ g.head ∷ (flat_map (λ t. t) g.transactions ++ (g.foot ∷ rest))
group_split g rest =
    ap (λ (xs : List RecordValue). g.head ∷ xs) (append_assoc (flat_map (λ t. t) g.transactions) (g.foot ∷ []) rest)

groups_agree : (gs hs : List GroupValue) → AllByRecursion IsGroup gs → AllByRecursion IsGroup hs
    → flat_map records_of_group gs ++ trailer ∷ [] ≡ flat_map records_of_group hs ++ trailer ∷ [] → gs ≡ hs
groups_agree [] [] h k e = refl
groups_agree [] (g ∷ hs) h k e =
    absurd (no_group_is_trailer g (flat_map (λ t. t) g.transactions ++ (g.foot ∷ (flat_map records_of_group hs ++ trailer ∷ [])))
    [] k.0
    (e ∙ append_assoc (records_of_group g) (flat_map records_of_group hs) (trailer ∷ [])
    ∙ group_split g (flat_map records_of_group hs ++ trailer ∷ [])))
groups_agree (g ∷ gs) [] h k e =
    absurd (no_group_is_trailer g (flat_map (λ t. t) g.transactions ++ (g.foot ∷ (flat_map records_of_group gs ++ trailer ∷ [])))
    [] h.0
    (sym e ∙ append_assoc (records_of_group g) (flat_map records_of_group gs) (trailer ∷ [])
    ∙ group_split g (flat_map records_of_group gs ++ trailer ∷ [])))
groups_agree (g ∷ gs) (f ∷ hs) h k e =
    let x : List RecordValue = flat_map records_of_group gs ++ trailer ∷ [] in
    let y : List RecordValue = flat_map records_of_group hs ++ trailer ∷ [] in
    let whole : g.head ∷ (flat_map (λ t. t) g.transactions ++ (g.foot ∷ x))
    ≡ f.head ∷ (flat_map (λ t. t) f.transactions ++ (f.foot ∷ y)) =
    sym (append_assoc (records_of_group g) (flat_map records_of_group gs) (trailer ∷ []) ∙ group_split g x) ∙ e
    ∙ append_assoc (records_of_group f) (flat_map records_of_group hs) (trailer ∷ []) ∙ group_split f y in
    let head : g.head ≡ f.head = cc whole in
    let inner : flat_map (λ t. t) g.transactions ++ (g.foot ∷ x) ≡ flat_map (λ t. t) f.transactions ++ (f.foot ∷ y) = cc whole in
    let others : AllByRecursion (IsTransaction (type_of g.head)) f.transactions =
    subst (λ (r : RecordValue). AllByRecursion (IsTransaction (type_of r)) f.transactions) (sym head) k.0.each in
    let agree =
    parts_agree (λ r. part_class (type_of g.head) (symbol_of r)) g.transactions f.transactions (g.foot ∷ x) (f.foot ∷ y)
    (parts_of (type_of g.head) g.transactions h.0.each) (parts_of (type_of g.head) f.transactions others)
    (foot_begins (type_of g.head) g.foot x h.0.foot.0) (foot_begins (type_of g.head) f.foot y k.0.foot.0) inner in
    let foot : g.foot ≡ f.foot = cc agree.1 in
    let rest : x ≡ y = cc agree.1 in
    let same : g ≡ f = λ i. record { head = head i; transactions = agree.0 i; foot = foot i } in
    ap₂ (λ (a : GroupValue) (xs : List GroupValue). a ∷ xs) same (groups_agree gs hs h.1 k.1 rest)

-- a transmission is known by its records
pub one_value : (v w : TransmissionValue) → IsTransmission v → IsTransmission w → records_of v ≡ records_of w → v ≡ w
one_value v w h k e =
    let opening : v.opening ≡ w.opening = cc e in
    let rest : flat_map records_of_group v.groups ++ trailer ∷ [] ≡ flat_map records_of_group w.groups ++ trailer ∷ [] = cc e in
    let groups = groups_agree v.groups w.groups h.each k.each rest in
    λ i. record { opening = opening i; groups = groups i }

-- ---- the symbols of the records

symbols-transactions : (ts : List (List RecordValue))
    → flat_map (λ t. t) (map (map symbol_of) ts) ≡ map symbol_of (flat_map (λ t. t) ts)
symbols-transactions [] = refl
symbols-transactions (t ∷ ts) =
    ap (λ (xs : List Symbol). map symbol_of t ++ xs) (symbols-transactions ts)
    ∙ sym (map-append symbol_of t (flat_map (λ u. u) ts))

symbols-group : (g : GroupValue) → IsGroup g → group_symbols (outline_of_group g) ≡ map symbol_of (records_of_group g)
symbols-group g h =
    let head : Grh (type_of g.head) ≡ symbol_of g.head = sym (kind_symbol g.head kinds.Grh h.head.0) in
    let foot : Plain kinds.Grt ≡ symbol_of g.foot = sym (kind_symbol g.foot kinds.Grt h.foot.0) in
    ap₂ (λ (a : Symbol) (xs : List Symbol). a ∷ xs) head
    (ap₂ (λ (xs : List Symbol) (b : Symbol). xs ++ b ∷ []) (symbols-transactions g.transactions) foot
    ∙ sym (map-append symbol_of (flat_map (λ t. t) g.transactions) (g.foot ∷ [])))

symbols-groups : (gs : List GroupValue) → AllByRecursion IsGroup gs
    → flat_map group_symbols (map outline_of_group gs) ≡ map symbol_of (flat_map records_of_group gs)
symbols-groups [] h = refl
symbols-groups (g ∷ gs) h =
    ap₂ (λ (xs ys : List Symbol). xs ++ ys) (symbols-group g h.0) (symbols-groups gs h.1)
    ∙ sym (map-append symbol_of (records_of_group g) (flat_map records_of_group gs))

-- the outline's symbols are those of the records
pub symbols-outline : (v : TransmissionValue) → IsTransmission v → symbols_of (outline_of v) ≡ map symbol_of (records_of v)
symbols-outline v h =
    ap₂ (λ (a : Symbol) (xs : List Symbol). a ∷ xs) (sym (kind_symbol v.opening kinds.Hdr h.opening.0))
    (ap (λ (xs : List Symbol). xs ++ Plain kinds.Trl ∷ []) (symbols-groups v.groups h.each)
    ∙ sym (map-append symbol_of (flat_map records_of_group v.groups) (trailer ∷ [])))

shapes_of : (ty : TransactionType) (ts : List (List RecordValue)) → AllByRecursion (IsTransaction ty) ts
    → AllByRecursion (IsShape ty) (map (map symbol_of) ts)
shapes_of ty [] h = tt
shapes_of ty (t ∷ ts) h = (h.0.1, shapes_of ty ts h.1)

outlines_of : (gs : List GroupValue) → AllByRecursion IsGroup gs → AllByRecursion IsGroupOutline (map outline_of_group gs)
outlines_of [] h = tt
outlines_of (g ∷ gs) h = (
  (
    subst (λ (n : ℕ). 0 < n) (sym (length-map g.transactions (map symbol_of))) h.0.some_transaction,
    shapes_of (type_of g.head) g.transactions h.0.each,
  ),
  outlines_of gs h.1,
)

-- a transmission's outline is whole
pub outline_whole : (v : TransmissionValue) → IsTransmission v → IsOutline (outline_of v)
outline_whole v h =
    (subst (λ (n : ℕ). 0 < n) (sym (length-map v.groups outline_of_group)) h.some_group, outlines_of v.groups h.each)

-- ---- rows and lines

rows_carry : (ns : List (List ℕ)) (rs : List RecordValue) → length ns ≡ length rs → AllByRecursion IsRecord rs
    → map record_of (map (λ p. row_of p.0 p.1) (zip ns rs)) ≡ rs
rows_carry [] [] e h = refl
rows_carry [] (r ∷ rs) e h = absurd (omega arith)
rows_carry (n ∷ ns) [] e h = absurd (omega arith)
rows_carry (n ∷ ns) (r ∷ rs) e h =
    ap₂ (λ (a : RecordValue) (xs : List RecordValue). a ∷ xs) (record_of-row_of n r h.0) (rows_carry ns rs (omega arith) h.1)

-- the records can be read off the rows
pub records-rows : (v : TransmissionValue) → IsTransmission v → map record_of (rows v) ≡ records_of v
unfolding rows
records-rows v h =
    rows_carry (numbers_of (lengths_of_value v)) (records_of v)
    (length-numbers_of (lengths_of_value v) ∙ sym (length-records_of v)) (records_in_order v h)

rows_well : (ns : List (List ℕ)) (rs : List RecordValue) → AllByRecursion IsRecord rs
    → AllByRecursion IsRow (map (λ p. row_of p.0 p.1) (zip ns rs))
rows_well [] rs h = tt
rows_well (n ∷ ns) [] h = tt
rows_well (n ∷ ns) (r ∷ rs) h = (IsRow-row_of n r h.0, rows_well ns rs h.1)

pub rows_are_rows : (v : TransmissionValue) → IsTransmission v → AllByRecursion IsRow (rows v)
unfolding rows
rows_are_rows v h = rows_well (numbers_of (lengths_of_value v)) (records_of v) (records_in_order v h)

pub lines_without_lf : (rs : List Row) (ks : List (List ℕ)) → AllZip IsLineOf rs ks → AllByRecursion NoLf ks
lines_without_lf [] [] h = tt
lines_without_lf [] (k ∷ ks) h = absurd h
lines_without_lf (r ∷ rs) [] h = absurd h
lines_without_lf (r ∷ rs) (k ∷ ks) h = (h.0.0, lines_without_lf rs ks h.1)

-- rows of lines of which some begin with others
pub rows_of_front : (rs ss : List Row) (ks more : List (List ℕ)) → AllByRecursion IsRow rs → AllByRecursion IsRow ss
    → AllZip IsLineOf rs ks → AllZip IsLineOf ss (ks ++ more)
    → (back : List Row) × (ss ≡ rs ++ back) × AllZip IsLineOf back more
rows_of_front [] ss [] more h j p q = (ss, refl, q)
rows_of_front [] ss (k ∷ ks) more h j p q = absurd p
rows_of_front (r ∷ rs) ss [] more h j p q = absurd p
rows_of_front (r ∷ rs) [] (k ∷ ks) more h j p q = absurd q
rows_of_front (r ∷ rs) (s ∷ ss) (k ∷ ks) more h j p q =
    let rest = rows_of_front rs ss ks more h.1 j.1 p.1 q.1 in
    let same : s ≡ r = one_row s r k j.0 h.0 q.0 p.0 in
    (rest.0, ap₂ (λ (a : Row) (xs : List Row). a ∷ xs) same rest.1, rest.2)

no_more_rows : (back : List Row) → map symbol_of (map record_of back) ≡ [] → back ≡ []
no_more_rows [] e = refl
no_more_rows (r ∷ back) e = absurd (nonempty (symbol_of (record_of r)) (map symbol_of (map record_of back)) e)
  where
    nonempty : (s : Symbol) (ss : List Symbol) → s ∷ ss ≡ [] → ⊥
    nonempty s ss h = cc h

no_more_lines : (back : List Row) (more : List (List ℕ)) → back ≡ [] → AllZip IsLineOf back more → more ≡ []
no_more_lines back more e h = none more (subst (λ (b : List Row). AllZip IsLineOf b more) e h)
  where
    none : (ks : List (List ℕ)) → AllZip IsLineOf [] ks → ks ≡ []
    none [] q = refl
    none (k ∷ ks) q = absurd q

-- where the lines of one begin those of another, they are the same
lines_same : (v w : TransmissionValue) (ks more : List (List ℕ)) → IsTransmission v → IsTransmission w
    → AllZip IsLineOf (rows v) ks → AllZip IsLineOf (rows w) (ks ++ more) → (v ≡ w) × (more ≡ [])
lines_same v w ks more h j p q =
    let b = rows_of_front (rows v) (rows w) ks more (rows_are_rows v h) (rows_are_rows w j) p q in
    let records : records_of w ≡ records_of v ++ map record_of b.0 =
    sym (records-rows w j) ∙ ap (map record_of) b.1 ∙ map-append record_of (rows v) b.0
    ∙ ap (λ (xs : List RecordValue). xs ++ map record_of b.0) (records-rows v h) in
    let symbols : symbols_of (outline_of v) ++ map symbol_of (map record_of b.0) ≡ symbols_of (outline_of w) =
    ap (λ (xs : List Symbol). xs ++ map symbol_of (map record_of b.0)) (symbols-outline v h)
    ∙ sym (map-append symbol_of (records_of v) (map record_of b.0)) ∙ sym (ap (map symbol_of) records)
    ∙ sym (symbols-outline w j) in
    let none : b.0 ≡ [] =
    no_more_rows b.0 (prefix_free (outline_of v) (outline_of w) (map symbol_of (map record_of b.0)) (outline_whole v h)
    (outline_whole w j) symbols) in
    let same : records_of v ≡ records_of w =
    sym (append-nil (records_of v)) ∙ ap (λ (xs : List Row). records_of v ++ map record_of xs) (sym none) ∙ sym records in
    (one_value v w h j same, no_more_lines b.0 more none b.2)

-- A text begins with the spelling of one transmission at most, and with one spelling of it.
pub spelled_once : (v w : TransmissionValue) (f g x y : List ℕ) → IsTransmission v → IsTransmission w → Spells v f → Spells w g
    → f ++ x ≡ g ++ y → (v ≡ w) × (f ≡ g)
spelled_once v w f g x y h j s t e =
    by_lines (lines_agree s.0 t.0 x y (lines_without_lf (rows v) s.0 s.1) (lines_without_lf (rows w) t.0 t.1)
    (ap (λ (a : List ℕ). a ++ x) (sym s.2) ∙ e ∙ ap (λ (a : List ℕ). a ++ y) t.2))
  where
    by_lines : ((more : List (List ℕ)) × (t.0 ≡ s.0 ++ more) × (x ≡ lines_text more ++ y))
        ⊎ ((more : List (List ℕ)) × (s.0 ≡ t.0 ++ more) × (y ≡ lines_text more ++ x)) → (v ≡ w) × (f ≡ g)
    by_lines (inl a) =
        let same = lines_same v w s.0 a.0 h j s.1 (subst (λ (ks : List (List ℕ)). AllZip IsLineOf (rows w) ks) a.1 t.1) in (
          same.0,
          s.2 ∙ ap lines_text (sym (append-nil s.0) ∙ ap (λ (m : List (List ℕ)). s.0 ++ m) (sym same.1) ∙ sym a.1)
              ∙ sym t.2,
        )
    by_lines (inr a) =
        let same = lines_same w v t.0 a.0 j h t.1 (subst (λ (ks : List (List ℕ)). AllZip IsLineOf (rows v) ks) a.1 s.1) in
        (sym same.0, s.2 ∙ ap lines_text (a.1 ∙ ap (λ (m : List (List ℕ)). t.0 ++ m) same.1 ∙ append-nil t.0) ∙ sym t.2)

-- what holds of each row holds of one that is among them
of_one : (rs : List Row) (r : Row) → AllByRecursion IsRow rs → Contains rs r → IsRow r
of_one rs r h k = subst IsRow k.2 (at k.0 rs h k.1)
  where
    at : (i : ℕ) (ss : List Row) → AllByRecursion IsRow ss → i < length ss → IsRow (slice_index_or ss i r)
    at i [] a less = absurd (omega arith)
    at zero (s ∷ ss) a less = a.0
    at (suc i) (s ∷ ss) a less = at i ss a.1 (omega arith)

-- a line is that of one row of transmissions at most
pub one_row_of_values : (v w : TransmissionValue) (r s : Row) (line : List ℕ) → IsTransmission v → IsTransmission w
    → Contains (rows v) r → Contains (rows w) s → IsLineOf r line → IsLineOf s line → r ≡ s
one_row_of_values v w r s line h j k l m n =
    one_row r s line (of_one (rows v) r (rows_are_rows v h) k) (of_one (rows w) s (rows_are_rows w j) l) m n
