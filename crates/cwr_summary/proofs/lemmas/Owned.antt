-- The shares of the owners in a right, added up one after another.
use Rattle.std.proofs.Common.{◌≡◌, ℕ, ◌+◌, Bool, true, false, ◌&&◌, ◌||◌, List, [], ◌∷◌, ◌++◌, min, refl, sym, ap, ap₂, ◌∙◌}
use Rattle.std.proofs.Common.{arith, Option, Some, None, filter, if◌then◌else◌, cond}
use Rattle.std.proofs.Common.{◌≤◌, length, take}
use Rattle.std.specs.Prelude.{flat_map, slice_set, sum_by, unwrap_or}
use Rattle.std.specs.List.{fold, list_all}
use Rattle.std.proofs.lemmas.List.Sums.{sum_by-cons}
use Rattle.std.proofs.lemmas.Grind.{fold-append}
use Rattle.std.proofs.lemmas.List.{take_all}
use Rattle.std.proofs.lemmas.List.Elements.{filter-append}
use Rattle.cwr_fields.specs.Format.Bytes.{number_of}
use Rattle.cwr_fields.specs.declared.kinds.Kind.TheVariants as kinds
use Rattle.cwr_lines.specs.Format.Records.{RecordValue, cell_named}
use Rattle.cwr_findings.specs.Format.Findings.{is_a, is_blank, is_off, is_owner, ownership, share_of}
use Rattle.cwr_findings.specs.Steps.Walks.{capped}
use Rattle.cwr_summary.specs.declared.columns.Column.{Column}
use Rattle.cwr_summary.specs.declared.columns.Column.TheVariants.{Controlled, Others, WorksWithout, WorksOff}
use Rattle.cwr_summary.specs.declared.columns.Right.{Right}
use Rattle.cwr_summary.specs.Format.Columns.{place}
use Rattle.cwr_summary.specs.Format.Summaries.{Part, is_controlled, is_other, is_without, right_parts, share_name, share_parts}
use Rattle.cwr_summary.specs.Steps.Counted.{added, counted}
use Rattle.cwr_summary.specs.Steps.Shares.{joined, owned_in, share_in}
use Rattle.cwr_summary.proofs.lemmas.Counting.{counted_both}

-- ---- shares that are joined

joined-none : (share : Option ℕ) → joined share None ≡ share
joined-none None = refl
joined-none (Some n) = refl

joined-joined : (a b c : Option ℕ) → joined (joined a b) c ≡ joined a (joined b c)
joined-joined None b c = refl
joined-joined (Some a) None c = refl
joined-joined (Some a) (Some b) None = refl
joined-joined (Some a) (Some b) (Some c) = ap (λ (n : ℕ). Some n) (omega arith)

-- ---- shares of some records

-- those that aren't blank added up, if there is one
abbrev shares_of : Right → List RecordValue → Option ℕ
shares_of right records =
    if list_all (is_blank (share_name right)) records then None
    else Some (min (sum_by (share_of (share_name right)) records) 18446744073709551615)

nothing_blank : (right : Right) (records : List RecordValue) → list_all (is_blank (share_name right)) records ≡ true
    → sum_by (share_of (share_name right)) records ≡ 0
nothing_blank right [] h = refl
nothing_blank right (r ∷ records) h =
    by (is_blank (share_name right) r) refl h (λ rest. nothing_blank right records rest)
  where
    by : (b : Bool) → is_blank (share_name right) r ≡ b
        → (is_blank (share_name right) r && list_all (is_blank (share_name right)) records) ≡ true
        → (list_all (is_blank (share_name right)) records ≡ true → sum_by (share_of (share_name right)) records ≡ 0)
        → sum_by (share_of (share_name right)) (r ∷ records) ≡ 0
    by true e h before =
        sum_by-cons (share_of (share_name right)) r records
        ∙ ap₂ (λ (b : Bool) (n : ℕ). (if b then 0 else number_of (cell_named (share_name right) r)) + n) e
        (before (ap (λ (b : Bool). b && list_all (is_blank (share_name right)) records) (sym e) ∙ h))
    by false e h before = absurd (cc (ap (λ (b : Bool). b && list_all (is_blank (share_name right)) records) (sym e) ∙ h))

one_more : (b c : Bool) (n s : ℕ) → (c ≡ true → s ≡ 0)
    → joined (if b then None else Some (min n 18446744073709551615)) (if c then None else Some (min s 18446744073709551615))
    ≡ (if b && c then None else Some (min ((if b then 0 else n) + s) 18446744073709551615))
one_more true true n s h = refl
one_more true false n s h = ap (λ (m : ℕ). Some m) (omega arith)
one_more false true n s h = ap (λ (m : ℕ). Some m) (omega (arith, h refl))
one_more false false n s h = ap (λ (m : ℕ). Some m) (omega arith)

share_more : (right : Right) (r : RecordValue) (records : List RecordValue)
    → joined (share_in right r) (shares_of right records) ≡ shares_of right (r ∷ records)
share_more right r records =
    one_more (is_blank (share_name right) r) (list_all (is_blank (share_name right)) records)
    (number_of (cell_named (share_name right) r)) (sum_by (share_of (share_name right)) records) (nothing_blank right records)
    ∙ ap (λ (s : ℕ). if list_all (is_blank (share_name right)) (r ∷ records) then None else Some (min s 18446744073709551615))
    (sym (sum_by-cons (share_of (share_name right)) r records))

all_joined : (right : Right) (share : Option ℕ) (records : List RecordValue)
    → fold (λ share r. joined share (share_in right r)) share records ≡ joined share (shares_of right records)
all_joined right share [] = sym (joined-none share)
all_joined right share (r ∷ records) =
    all_joined right (joined share (share_in right r)) records ∙ joined-joined share (share_in right r) (shares_of right records)
    ∙ ap (joined share) (share_more right r records)

-- ---- the owners of a work

-- they have none, or that is what they have
pub owned_whole : (right : Right) (t : List RecordValue)
    → owned_in right t
    ≡ (if is_without right t then None else Some (capped (ownership (share_name right) t)))
owned_whole right t = all_joined right None (filter is_owner t)

-- with one record more
pub owned_more : (right : Right) (t : List RecordValue) (r : RecordValue)
    → owned_in right (t ++ r ∷ []) ≡ (if is_owner r then joined (owned_in right t) (share_in right r) else owned_in right t)
owned_more right t r =
    let next = λ (share : Option ℕ) (r : RecordValue). joined share (share_in right r) in
    ap (fold next None) (filter-append is_owner t (r ∷ [])) ∙ fold-append next None (filter is_owner t) (filter is_owner (r ∷ []))
    ∙ by (is_owner r)
  where
    by : (b : Bool)
        → fold (λ share r. joined share (share_in right r)) (owned_in right t) (cond b (r ∷ []) [])
        ≡ (if b then joined (owned_in right t) (share_in right r) else owned_in right t)
    by true = refl
    by false = refl

-- ---- what an owner adds

neither : (a b c d : Bool) → (a || b || c || d) ≡ false → ((a || c) ≡ false) × ((b || d) ≡ false)
neither true b c d h = absurd (cc h)
neither false true c d h = absurd (cc h)
neither false false true d h = absurd (cc h)
neither false false false true h = absurd (cc h)
neither false false false false h = (refl, refl)

the_other : (a b c d : Bool) → (a || b || c || d) ≡ true → (a || c) ≡ false → (b || d) ≡ true
the_other true b c d h none = absurd (cc none)
the_other false b true d h none = absurd (cc none)
the_other false true false d h none = refl
the_other false false false true h none = refl
the_other false false false false h none = absurd (cc h)

-- a share that isn't blank, or nothing, is added as it stands
pub share_added : (right : Right) (r : RecordValue) (share : Option ℕ) (column : Column) (numbers : List ℕ) → share ≡ share_in right r
    → added numbers (column, unwrap_or share 0) ≡ added numbers (column, share_of (share_name right) r)
share_added right r share column numbers e =
    ap (λ (s : Option ℕ). added numbers (column, unwrap_or s 0)) e ∙ by (is_blank (share_name right) r)
  where
    by : (b : Bool)
        → added numbers (column, unwrap_or (if b then None else Some (min (number_of (cell_named (share_name right) r)) 18446744073709551615)) 0)
        ≡ added numbers (column, if b then 0 else number_of (cell_named (share_name right) r))
    by true = refl
    by false = ap (λ (n : ℕ). slice_set numbers (place column) n) (omega arith)

-- nobody else adds any
pub none_added : (right : Right) (r : RecordValue) → is_owner r ≡ false → share_parts right r ≡ []
none_added right r h =
    let n = neither (is_a kinds.Spu r) (is_a kinds.Opu r) (is_a kinds.Swr r) (is_a kinds.Owr r) h in
    ap₂ (λ (b c : Bool). if b then (Controlled right, share_of (share_name right) r) ∷ []
    else if c then (Others right, share_of (share_name right) r) ∷ [] else []) n.0 n.1

-- a controlled owner adds its share
pub controlled_added : (right : Right) (r : RecordValue) → is_controlled r ≡ true
    → share_parts right r ≡ (Controlled right, share_of (share_name right) r) ∷ []
controlled_added right r h =
    ap (λ (b : Bool). if b then (Controlled right, share_of (share_name right) r) ∷ []
    else if is_other r then (Others right, share_of (share_name right) r) ∷ [] else []) h

-- and so does any other
pub other_added : (right : Right) (r : RecordValue) → is_owner r ≡ true → is_controlled r ≡ false
    → share_parts right r ≡ (Others right, share_of (share_name right) r) ∷ []
other_added right r owner none =
    let other = the_other (is_a kinds.Spu r) (is_a kinds.Opu r) (is_a kinds.Swr r) (is_a kinds.Owr r) owner none in
    ap₂ (λ (b c : Bool). if b then (Controlled right, share_of (share_name right) r) ∷ []
    else if c then (Others right, share_of (share_name right) r) ∷ [] else []) none other

-- ---- what a work adds beside its shares

-- one, to a column
abbrev pub one_of : Column → List Part
one_of column = (column, 1) ∷ []

-- that it has none, or that they are off
abbrev pub beside : Right → List RecordValue → List Part
beside right t =
    if is_without right t then one_of (WorksWithout right)
    else if is_off (ownership (share_name right) t) then one_of (WorksOff right) else []

pub nothing_owned : (right : Right) (t : List RecordValue) → None ≡ owned_in right t → beside right t ≡ one_of (WorksWithout right)
nothing_owned right t e = by (is_without right t) (e ∙ owned_whole right t) where
  by : (b : Bool) → None ≡ (if b then None else Some (capped (ownership (share_name right) t)))
      → (if b then one_of (WorksWithout right)
      else if is_off (ownership (share_name right) t) then one_of (WorksOff right) else []) ≡ one_of (WorksWithout right)
  by true e = refl
  by false e = absurd (cc e)

pub something_owned : (right : Right) (t : List RecordValue) (sum : ℕ) (off : Bool) → Some sum ≡ owned_in right t
    → ((n : ℕ) → sum ≡ capped n → off ≡ is_off n) → beside right t ≡ (if off then one_of (WorksOff right) else [])
something_owned right t sum off e judged = by (is_without right t) (e ∙ owned_whole right t) where
  by : (b : Bool) → Some sum ≡ (if b then None else Some (capped (ownership (share_name right) t)))
      → (if b then one_of (WorksWithout right)
      else if is_off (ownership (share_name right) t) then one_of (WorksOff right) else [])
      ≡ (if off then one_of (WorksOff right) else [])
  by true e = absurd (cc e)
  by false e =
      let same : sum ≡ capped (ownership (share_name right) t) = cc e in
      ap (λ (b : Bool). if b then one_of (WorksOff right) else []) (sym (judged (ownership (share_name right) t) same))

-- the shares with those of one record more, where that is an owner
pub owner_more : (right : Right) (records : List RecordValue) (r : RecordValue) (share : Option ℕ) → is_owner r ≡ true
    → share ≡ share_in right r → joined (owned_in right records) share ≡ owned_in right (records ++ r ∷ [])
owner_more right records r share owner e =
    ap (joined (owned_in right records)) e
    ∙ ap (λ (b : Bool). if b then joined (owned_in right records) (share_in right r) else owned_in right records) (sym owner)
    ∙ sym (owned_more right records r)

-- and where it is none
pub other_more : (right : Right) (records : List RecordValue) (r : RecordValue) → is_owner r ≡ false
    → joined (owned_in right records) None ≡ owned_in right (records ++ r ∷ [])
other_more right records r none =
    joined-none (owned_in right records)
    ∙ ap (λ (b : Bool). if b then joined (owned_in right records) (share_in right r) else owned_in right records) (sym none)
    ∙ sym (owned_more right records r)

-- ---- all that a work adds for a right

-- what its owners add, and then that
pub right_end : (right : Right) (t : List RecordValue) (old mid new : List ℕ) (i : ℕ) (last : List Part) → length t ≤ i
    → mid ≡ counted old (flat_map (share_parts right) (take i t)) → new ≡ counted mid last → beside right t ≡ last
    → new ≡ counted old (right_parts t right)
right_end right t old mid new i last all first next is =
    counted_both old mid new (flat_map (share_parts right) t) last
    (first ∙ ap (λ (l : List RecordValue). counted old (flat_map (share_parts right) l)) (take_all i t all)) next
    ∙ ap (λ (l : List Part). counted old (flat_map (share_parts right) t ++ l)) (sym is)

-- what was added up is of all
pub all_owned : (right : Right) (t : List RecordValue) (i : ℕ) (owned : Option ℕ) → length t ≤ i → owned ≡ owned_in right (take i t)
    → owned ≡ owned_in right t
all_owned right t i owned all e = e ∙ ap (owned_in right) (take_all i t all)
