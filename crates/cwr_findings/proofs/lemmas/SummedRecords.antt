-- One record more of a work that is added up, and a work whose sums say that nothing is found.
use Rattle.std.proofs.Common.{◌≡◌, ℕ, zero, suc, ◌+◌, ◌<◌, Bool, true, false, not, List, [], ◌∷◌, ◌++◌, length, take}
use Rattle.std.proofs.Common.{refl, sym, ap, ap₂, ◌∙◌, subst, arith, inl, inr}
use Rattle.std.specs.Prelude.{Some, None, Result, Ok, Err, OnOk, ◌&&◌, ◌||◌, ◌==◌, ◌⊎◌, filter, map, slice_get}
use Rattle.std.specs.Prelude.{count_by}
use Rattle.std.specs.Result.{is_ok}
use Rattle.std.specs.List.{list_any}
use Rattle.std.specs.Str.{bytes_eq}
use Rattle.std.proofs.lemmas.Bool.{or_from, or_left, or_right}
use Rattle.std.proofs.lemmas.List.{length-append, take-append-le, take_all}
use Rattle.std.proofs.lemmas.List.Folds.{list_any-append}
use Rattle.cwr_fields.specs.declared.kinds.Kind.{Kind}
use Rattle.cwr_fields.specs.declared.kinds.Kind.TheVariants as kinds
use Rattle.cwr_fields.specs.Format.Bytes.{is_spaces}
use Rattle.cwr_lines.specs.Format.Records.{RecordValue, IsRecord, cell_named}
use Rattle.cwr_findings.specs.declared.rules.Rule.TheVariants.{V1, V2, V3, V4, V5, V6, V7, V8, V9, V10, V11}
use Rattle.cwr_findings.specs.Format.Findings.{all_rules, breaks, counts_others, findings_after, findings_at}
use Rattle.cwr_findings.specs.Format.Findings.{has_party_number, is_a, is_agreement, is_author, is_blank, is_off, is_work, nearest}
use Rattle.cwr_findings.specs.Format.Findings.{ownership}
use Rattle.cwr_findings.specs.declared.sums.Begun.TheVariants.{Work}
use Rattle.cwr_findings.specs.declared.sums.Sums.{Sums}
use Rattle.cwr_findings.specs.declared.totals.TransactionTotals.{TransactionTotals}
use Rattle.cwr_findings.specs.Steps.Sums.{AreNumbersOf, AreSums, AreUnbroken, AsksComponents, IsUnbroken, KeepsNumbers}
use Rattle.cwr_findings.specs.Steps.Sums.{wants_other}
use Rattle.cwr_findings.specs.Steps.Walks.{AreTotals, capped, is_kind, is_publisher}
use Rattle.cwr_findings.proofs.lemmas.CountedRecords.{counts_nothing}
use Rattle.cwr_findings.proofs.lemmas.FalseTests.{and_false, and_left, at_header, middle_false, not_true}
use Rattle.cwr_findings.proofs.lemmas.FoundByRecord.{none_at_any}
use Rattle.cwr_findings.proofs.lemmas.FoundByRule.{finding_of}
use Rattle.cwr_findings.proofs.lemmas.LeftBehind.{number_same, territory_same}
use Rattle.cwr_findings.proofs.lemmas.KindTests.{kind_of}
use Rattle.cwr_findings.proofs.lemmas.NamedCells.{named_cell}
use Rattle.cwr_findings.proofs.lemmas.OneMore.{there_or_last}
use Rattle.cwr_findings.proofs.lemmas.RuleFields.{publisher_of_pwr}
use Rattle.cwr_findings.proofs.lemmas.RuleTests.{blank_excerpt_type, cell_of_field, first_of_agreement, first_of_work, header_of_work}
use Rattle.cwr_findings.proofs.lemmas.RuleTests.{or_none, publisher_of_number}

-- ---- one record more

pub work_more : (t : List RecordValue) (r : RecordValue) → is_work t ≡ true → is_work (t ++ r ∷ []) ≡ true
work_more [] r h = absurd (cc h)
work_more (x ∷ t) r h = sym (first_of_work (x ∷ (t ++ r ∷ [])) x refl) ∙ first_of_work (x ∷ t) x refl ∙ h

first_taken : (t : List RecordValue) (r : RecordValue) → is_work t ≡ true → take 1 (t ++ r ∷ []) ≡ take 1 t
first_taken [] r h = absurd (cc h)
first_taken (x ∷ t) r h = take-append-le 1 (x ∷ t) (r ∷ []) (omega arith)

-- the header stays
pub header_stays : (t : List RecordValue) (r header : RecordValue) → is_work t ≡ true → slice_get (t ++ r ∷ []) 0 ≡ Some header
    → slice_get t 0 ≡ Some header
header_stays [] r header h e = absurd (cc h)
header_stays (x ∷ t) r header h e = e

more_publishers : (p : RecordValue → Bool) (t : List RecordValue) (r : RecordValue) → list_any p t ≡ true
    → list_any p (t ++ r ∷ []) ≡ true
more_publishers p t r h = list_any-append p t (r ∷ []) ∙ or_left (list_any p t) (list_any p (r ∷ [])) h

still_known : (w v a m n : Bool) → w ≡ true → (m ≡ true → n ≡ true) → (w && a && not m) ≡ false → (v && a && not n) ≡ false
still_known w false a m n e more h = refl
still_known w true false m n e more h = refl
still_known w true true m true e more h = refl
still_known true true true true false e more h = absurd (let no : false ≡ true = more refl in cc no)
still_known true true true false false e more h = absurd (cc h)
still_known false true true m false e more h = absurd (cc e)

-- what the rule on territories asks
abbrev other_party : RecordValue → Bool → List RecordValue → Bool
other_party x work before = work
    && ((is_a kinds.Spt x && not (has_party_number (cell_named "interested party number" x) (nearest kinds.Spu before)))
    || (is_a kinds.Swt x && not (has_party_number (cell_named "interested party number" x) (nearest kinds.Swr before))))

-- a record that isn't broken stays so
unbroken_still : (t : List RecordValue) (r : RecordValue) (k : ℕ) (x : RecordValue) → is_work t ≡ true → k < length t
    → IsUnbroken t k x → IsUnbroken (t ++ r ∷ []) k x
unbroken_still t r k x work below h =
    let same : is_work (t ++ r ∷ []) ≡ is_work t = work_more t r work ∙ sym work in
    record {
      iswc = h.iswc;
      party = ap₂ (other_party x) same (take-append-le k t (r ∷ []) (omega (arith, below))) ∙ h.party;
      publisher = still_known (is_work t) (is_work (t ++ r ∷ [])) (is_a kinds.Pwr x) _ _ work
          (more_publishers (λ p. is_a kinds.Spu p && has_party_number (cell_named "publisher interested party number" x) (Some p))
          t r) h.publisher;
      excerpt =
          ap₂ (λ (w : Bool) (first : List RecordValue). w && is_a kinds.Ewt x && list_any (is_blank "excerpt type") first) same
          (first_taken t r work) ∙ h.excerpt;
    }

pub unbroken_more : (t : List RecordValue) (r : RecordValue) → is_work t ≡ true → AreUnbroken t
    → IsUnbroken (t ++ r ∷ []) (length t) r → AreUnbroken (t ++ r ∷ [])
unbroken_more t r work all last = λ k x there. by k x (there_or_last t r k x there)
  where
    by : (k : ℕ) (x : RecordValue) → ((k < length t) × (slice_get t k ≡ Some x)) ⊎ ((k ≡ length t) × (x ≡ r))
        → IsUnbroken (t ++ r ∷ []) k x
    by k x (inl p) = unbroken_still t r k x work p.0 (all k x p.1)
    by k x (inr p) =
        subst (λ (n : ℕ). IsUnbroken (t ++ r ∷ []) n x) (sym p.0)
        (subst (λ (y : RecordValue). IsUnbroken (t ++ r ∷ []) (length t) y) (sym p.1) last)

-- ---- nothing is found

no_agreement : (t : List RecordValue) → is_work t ≡ true → is_agreement t ≡ false
no_agreement [] h = refl
no_agreement (x ∷ t) h =
    sym (first_of_agreement (x ∷ t) x refl) ∙ elim (header_of_work x (first_of_work (x ∷ t) x refl ∙ h))
    [ inl e ↦ none (ap (is_kind kinds.Agr) e) | inr e ↦ none (ap (is_kind kinds.Agr) e) ]
  where
    none : is_a kinds.Agr x ≡ false → is_agreement (x ∷ []) ≡ false
    none e = rw e refl

-- a work whose sums are in order, and of which no record is broken
pub record IsInOrder (t : List RecordValue) : Type 0 where
  pub work : is_work t ≡ true
  pub performing : is_off (ownership "pr share" t) ≡ false
  pub mechanical : is_off (ownership "mr share" t) ≡ false
  pub synchronization : is_off (ownership "sr share" t) ≡ false
  pub author : list_any is_author t ≡ true
  pub components : (header : RecordValue) → slice_get t 0 ≡ Some header
      → counts_others header (count_by (is_a kinds.Com) t) ≡ false
  pub unbroken : AreUnbroken t

none_at : (t : List RecordValue) (n k : ℕ) (r : RecordValue) → IsInOrder t → slice_get t k ≡ Some r → findings_at n t k r ≡ []
none_at t n k r h there =
    let u = h.unbroken k r there in
    let v1 : breaks V1 t k r ≡ false = u.iswc in
    let v2 : breaks V2 t k r ≡ false = u.party in
    let v3 : breaks V3 t k r ≡ false = and_false (is_work t && (k == 0)) (is_off (ownership "pr share" t)) h.performing in
    let v4 : breaks V4 t k r ≡ false = and_false (is_work t && (k == 0)) (is_off (ownership "mr share" t)) h.mechanical in
    let v5 : breaks V5 t k r ≡ false = and_false (is_work t && (k == 0)) (is_off (ownership "sr share" t)) h.synchronization in
    let v6 : breaks V6 t k r ≡ false = and_false (is_work t && (k == 0)) (not (list_any is_author t)) (ap not h.author) in
    let v7 : breaks V7 t k r ≡ false = u.publisher in
    let v8 : breaks V8 t k r ≡ false = u.excerpt in
    let v9 : breaks V9 t k r ≡ false =
    at_header k (is_work t) (counts_others r (count_by (is_a kinds.Com) t))
    (λ first. h.components r (ap (slice_get t) (sym first) ∙ there)) in
    let v10 : breaks V10 t k r ≡ false =
    and_left (is_agreement t && (k == 0)) _ (and_left (is_agreement t) (k == 0) (no_agreement t h.work)) in
    let v11 : breaks V11 t k r ≡ false =
    and_left _ _ (and_left _ _ (and_left (is_agreement t) (is_a kinds.Ter r) (no_agreement t h.work))) in
    let none : filter (λ rule. breaks rule t k r) all_rules ≡ [] = rw (v1, v2, v3, v4, v5, v6, v7, v8, v9, v10, v11) refl in
    ap (map (finding_of n k r)) none

pub none_found : (t : List RecordValue) (n : ℕ) → IsInOrder t → findings_after n t ≡ []
none_found t n h = none_at_any n t (λ k r there. none_at t n k r h there)

-- ---- one record that breaks no rule

-- the records before the last one
pub front_taken : (t : List RecordValue) (r : RecordValue) → take (length t) (t ++ r ∷ []) ≡ t
front_taken t r = take-append-le (length t) t (r ∷ []) (omega arith) ∙ take_all (length t) t (omega arith)

pub excerpt_there : (header : RecordValue) (b : Bool) → is_work (header ∷ []) ≡ true → IsRecord header
    → b ≡ is_spaces (cell_of_field header 16) → not b ≡ true → list_any (is_blank "excerpt type") (header ∷ []) ≡ false
excerpt_there header b work fits e h = sym (blank_excerpt_type (header ∷ []) header refl work fits) ∙ sym e ∙ not_true b h

pub no_writer_here : (t : List RecordValue) (k : ℕ) (r : RecordValue) → is_a kinds.Pwr r ≡ false → breaks V7 t k r ≡ false
no_writer_here t k r h = middle_false (is_work t) (is_a kinds.Pwr r) _ h

pub no_title_here : (t : List RecordValue) (k : ℕ) (r : RecordValue) → is_a kinds.Ewt r ≡ false → breaks V8 t k r ≡ false
no_title_here t k r h = middle_false (is_work t) (is_a kinds.Ewt r) _ h

pub publisher_known : (t : List RecordValue) (k : ℕ) (r : RecordValue) (number : List ℕ) → is_a kinds.Pwr r ≡ true → IsRecord r
    → number ≡ cell_of_field r 4 → list_any (is_publisher number) t ≡ true → breaks V7 (t ++ r ∷ []) k r ≡ false
publisher_known t k r number pwr fits e known =
    let named : number ≡ cell_named "publisher interested party number" r =
    e ∙ named_cell "publisher interested party number" kinds.Pwr 4 9 r publisher_of_pwr (kind_of kinds.Pwr r pwr) fits in
    let there = more_publishers (is_publisher number) t r known in
    and_false (is_work (t ++ r ∷ []) && is_a kinds.Pwr r) _
    (ap (λ (n : List ℕ). not (list_any (is_publisher n) (t ++ r ∷ []))) (sym named) ∙ ap not there)

pub excerpt_known : (t : List RecordValue) (k : ℕ) (r : RecordValue) → is_work t ≡ true
    → list_any (is_blank "excerpt type") (take 1 t) ≡ false → breaks V8 (t ++ r ∷ []) k r ≡ false
excerpt_known t k r work h =
    and_false (is_work (t ++ r ∷ []) && is_a kinds.Ewt r) _ (ap (list_any (is_blank "excerpt type")) (first_taken t r work) ∙ h)

-- ---- the numbers that are kept

pub on_ok : {T E : Type 0} (r : Result T E) (P : Type 0) → is_ok r ≡ true → OnOk r P → P
on_ok (Ok x) P e h = h
on_ok (Err x) P e h = absurd (cc e)

or_false : (a b c : Bool) → (a || (b || c)) ≡ true → c ≡ false → (a ≡ true) ⊎ (b ≡ true)
or_false true b c h e = inl refl
or_false false true c h e = inr refl
or_false false false c h e = absurd (let no : false ≡ true = sym e ∙ h in cc no)

-- the numbers so far, and that of one publisher more
pub numbers_more : (t : List RecordValue) (r : RecordValue) (numbers kept : List (List ℕ)) (number : List ℕ)
    → AreNumbersOf t numbers → kept ≡ numbers ++ number ∷ [] → number ≡ cell_of_field r 5 → r.kind ≡ kinds.Spu → IsRecord r
    → AreNumbersOf (t ++ r ∷ []) kept
numbers_more t r numbers kept number all e own kind fits = λ asked h.
    let parts : (list_any (bytes_eq asked) numbers || (bytes_eq asked number || false)) ≡ true =
    sym (list_any-append (bytes_eq asked) numbers (number ∷ [])) ∙ ap (list_any (bytes_eq asked)) (sym e) ∙ h in
    elim (or_false (list_any (bytes_eq asked) numbers) (bytes_eq asked number) false parts refl) [
      | inl before ↦ more_publishers (is_publisher asked) t r (all asked before)
      | inr this ↦ list_any-append (is_publisher asked) t (r ∷ [])
          ∙ or_right (list_any (is_publisher asked) t) (list_any (is_publisher asked) (r ∷ []))
          (or_left (is_publisher asked r) false
          (sym (publisher_of_number r asked kind fits) ∙ ap (bytes_eq asked) (sym own) ∙ this))
    ]

pub numbers_still : (t : List RecordValue) (r : RecordValue) (numbers : List (List ℕ)) → AreNumbersOf t numbers
    → AreNumbersOf (t ++ r ∷ []) numbers
numbers_still t r numbers all = λ asked h. more_publishers (is_publisher asked) t r (all asked h)

-- ---- the sums

-- the header of a work by itself
pub header_alone : (header : RecordValue) (kind : Kind) → header.kind ≡ kind → breaks V1 (header ∷ []) 0 header ≡ false
    → is_kind kinds.Spt kind ≡ false → is_kind kinds.Swt kind ≡ false → is_kind kinds.Pwr kind ≡ false
    → is_kind kinds.Ewt kind ≡ false
    → IsUnbroken (header ∷ []) 0 header
header_alone header kind e iswc spt swt pwr ewt = record {
  iswc = iswc;
  party =
      and_false (is_work (header ∷ [])) _ (or_from _ _ (and_left (is_a kinds.Spt header) _ (ap (is_kind kinds.Spt) e ∙ spt))
      (and_left (is_a kinds.Swt header) _ (ap (is_kind kinds.Swt) e ∙ swt)));
  publisher = no_writer_here (header ∷ []) 0 header (ap (is_kind kinds.Pwr) e ∙ pwr);
  excerpt = no_title_here (header ∷ []) 0 header (ap (is_kind kinds.Ewt) e ∙ ewt);
}

pub only_header : (header : RecordValue) → IsUnbroken (header ∷ []) 0 header → AreUnbroken (header ∷ [])
only_header header h zero r e = let same : header ≡ r = cc e in subst (λ (x : RecordValue). IsUnbroken (header ∷ []) 0 x) same h
only_header header h (suc k) r e = absurd (cc e)

-- one record more
pub sums_more : (old new : Sums) (t : List RecordValue) (r : RecordValue) (totals : TransactionTotals) → AreSums old t
    → KeepsNumbers t r old new → AreTotals (t ++ r ∷ []) totals → IsUnbroken (t ++ r ∷ []) (length t) r
    → AreSums (record new { records = old.records + 1; totals = totals }) (t ++ r ∷ [])
sums_more old new t r totals h k are last = record {
  begun = ap (λ (s : Sums). s.begun) k.others ∙ h.begun;
  work = work_more t r h.work;
  counted = omega (arith, h.counted, length-append t (r ∷ []));
  totals = are;
  publisher = k.publisher;
  writer = k.writer;
  territory = k.territory;
  publishers = k.publishers;
  excerpt =
      λ yes. ap (list_any (is_blank "excerpt type")) (first_taken t r h.work)
      ∙ h.excerpt (sym (ap (λ (s : Sums). s.has_excerpt_type) k.others) ∙ yes);
  components =
      λ header there. subst (AsksComponents header) (sym (ap (λ (s : Sums). s.components) k.others))
      (h.components header (header_stays t r header h.work there));
  unbroken = unbroken_more t r h.work h.unbroken last;
}

-- what is asked of the kind of a work's header
record IsHeaderKind (kind : Kind) : Type 0 where
  work : (is_kind kinds.Nwr kind || is_kind kinds.Rev kind) ≡ true
  spt : is_kind kinds.Spt kind ≡ false
  swt : is_kind kinds.Swt kind ≡ false
  pwr : is_kind kinds.Pwr kind ≡ false
  ewt : is_kind kinds.Ewt kind ≡ false
  spu : kind ≡ kinds.Spu → ⊥
  opu : kind ≡ kinds.Opu → ⊥
  swr : kind ≡ kinds.Swr → ⊥
  owr : kind ≡ kinds.Owr → ⊥
  component : kind ≡ kinds.Com → ⊥
  ter : kind ≡ kinds.Ter → ⊥
  ipa : kind ≡ kinds.Ipa → ⊥

of_new_work : IsHeaderKind kinds.Nwr
of_new_work =
    record {
      work = refl;
      spt = refl;
      swt = refl;
      pwr = refl;
      ewt = refl;
      spu = λ e. cc e;
      opu = λ e. cc e;
      swr = λ e. cc e;
      owr = λ e. cc e;
      component = λ e. cc e;
      ter = λ e. cc e;
      ipa = λ e. cc e;
    }

of_revised_work : IsHeaderKind kinds.Rev
of_revised_work =
    record {
      work = refl;
      spt = refl;
      swt = refl;
      pwr = refl;
      ewt = refl;
      spu = λ e. cc e;
      opu = λ e. cc e;
      swr = λ e. cc e;
      owr = λ e. cc e;
      component = λ e. cc e;
      ter = λ e. cc e;
      ipa = λ e. cc e;
    }

-- what was set down at the header
pub record IsSetDown (header : RecordValue) (s : Sums) : Type 0 where
  pub begun : s.begun ≡ Work
  pub counted : s.records ≡ 1
  pub totals : AreTotals [] s.totals
  pub publisher : s.publisher ≡ None
  pub writer : s.writer ≡ None
  pub publishers : s.publishers.items ≡ []
  pub excerpt : s.has_excerpt_type ≡ true → list_any (is_blank "excerpt type") (header ∷ []) ≡ false
  pub components : AsksComponents header s.components
  pub iswc : breaks V1 (header ∷ []) 0 header ≡ false

set_down : (header : RecordValue) (kind : Kind) (s : Sums) → header.kind ≡ kind → IsHeaderKind kind → IsSetDown header s
    → AreSums s (header ∷ [])
set_down header kind s e k h = record {
  begun = h.begun;
  work =
      or_none (is_a kinds.Nwr header || is_a kinds.Rev header) ∙ ap (λ (x : Kind). is_kind kinds.Nwr x || is_kind kinds.Rev x) e
      ∙ k.work;
  counted = h.counted;
  totals =
      counts_nothing [] header s.totals h.totals (λ q. k.spu (sym e ∙ q)) (λ q. k.opu (sym e ∙ q)) (λ q. k.swr (sym e ∙ q))
      (λ q. k.owr (sym e ∙ q)) (λ q. k.component (sym e ∙ q));
  publisher = h.publisher ∙ sym (number_same kinds.Spu [] header (λ q. k.spu (sym e ∙ q)));
  writer = h.writer ∙ sym (number_same kinds.Swr [] header (λ q. k.swr (sym e ∙ q)));
  territory = territory_same [] header (λ q. k.ter (sym e ∙ q)) (λ q. k.ipa (sym e ∙ q));
  publishers = λ number among. absurd (let no : true ≡ false = sym among ∙ ap (list_any (bytes_eq number)) h.publishers in cc no);
  excerpt = h.excerpt;
  components =
      λ first there. let same : header ≡ first =
      cc there in subst (λ (r : RecordValue). AsksComponents r s.components) same h.components;
  unbroken = only_header header (header_alone header kind e h.iswc k.spt k.swt k.pwr k.ewt);
}

pub begun_sums : (header : RecordValue) (s : Sums) → is_work (header ∷ []) ≡ true → IsSetDown header s → AreSums s (header ∷ [])
begun_sums header s work h = elim (header_of_work header work)
    [ inl e ↦ set_down header kinds.Nwr s e of_new_work h | inr e ↦ set_down header kinds.Rev s e of_revised_work h ]

-- what the sums of a whole work are asked
pub summed_in_order : (s : Sums) (t : List RecordValue) (from : ℕ) (performing mechanical synchronization others : Bool)
    → AreSums s t
    → ((n : ℕ) → s.totals.ownership.performing ≡ capped n → performing ≡ is_off n) → performing ≡ false
    → ((n : ℕ) → s.totals.ownership.mechanical ≡ capped n → mechanical ≡ is_off n) → mechanical ≡ false
    → ((n : ℕ) → s.totals.ownership.synchronization ≡ capped n → synchronization ≡ is_off n) → synchronization ≡ false
    → s.totals.has_author ≡ true → others ≡ wants_other s.components s.totals.components → not others ≡ true
    → findings_after from t ≡ []
summed_in_order s t from performing mechanical synchronization others h is_p p is_m m is_s n author is_o o =
    none_found t from (record {
      work = h.work;
      performing = sym (is_p (ownership "pr share" t) h.totals.ownership.performing) ∙ p;
      mechanical = sym (is_m (ownership "mr share" t) h.totals.ownership.mechanical) ∙ m;
      synchronization = sym (is_s (ownership "sr share" t) h.totals.ownership.synchronization) ∙ n;
      author = sym h.totals.author ∙ author;
      components =
          λ header there. sym (h.components header there (count_by (is_a kinds.Com) t) s.totals.components h.totals.components)
          ∙ sym is_o ∙ not_true others o;
      unbroken = h.unbroken;
    })
