-- Records that are kept in one text stay as they are where a line is added at its end.
use Rattle.std.proofs.Common.{◌≡◌, ℕ, zero, suc, ◌+◌, ◌≤◌, false, ltb-false, List, [], ◌∷◌, ◌++◌, length, take, drop, None, inl}
use Rattle.std.proofs.Common.{inr, refl, sym, ap, ap₂, subst, ◌∙◌, arith}
use Rattle.std.specs.Prelude.{slice_get, nat_lt}
use Rattle.std.specs.List.{AllByRecursion, flat_map}
use Rattle.std.proofs.lemmas.List.{append-nil, map-append, length-map, length-append, length-drop, drop-append-le, take-append-le}
use Rattle.std.proofs.lemmas.List.Concat.{flat_map-append}
use Rattle.std.proofs.lemmas.List.Sums.{sum_by-append}
use Rattle.std.proofs.Math.Seq.{drop-append_seam, take-append_seam}
use Rattle.cwr_fields.specs.Format.Growth.{Outgrows}
use Rattle.cwr_fields.specs.declared.kinds.Kind.{Kind}
use Rattle.cwr_lines.specs.declared.record_lists.LineStart.{LineStart}
use Rattle.cwr_lines.specs.Format.Growth.{lines_width, AsksMemory}
use Rattle.cwr_fields.specs.Format.Layouts.{line_width}
use Rattle.cwr_lines.specs.Format.Records.{RecordValue, IsRecord}
use Rattle.cwr_lines.specs.Steps.Carried.{record_in}
use Rattle.cwr_lines.specs.Steps.KeptLines.{IsKeptLine, KeepsLines, ended_line_at, kept_records, line_at, record_at}

-- each of them is in order
all_in_order : (text : List ℕ) (starts : List LineStart) → AllByRecursion (IsKeptLine text) starts
    → AllByRecursion IsRecord (kept_records text starts)
all_in_order text [] h = tt
all_in_order text (p ∷ starts) h = (h.0.fits, all_in_order text starts h.1)

-- a line stays where it is
line_stays : (text more : List ℕ) (p : LineStart) → p.start + line_width p.kind ≤ length text
    → line_at (text ++ more) p ≡ line_at text p
line_stays text more p h =
    ap (take (line_width p.kind)) (drop-append-le p.start text more (omega (arith, h)))
    ∙ take-append-le (line_width p.kind) (drop p.start text) more (omega (arith, h, length-drop p.start text))

record_stays : (text more : List ℕ) (p : LineStart) → p.start + line_width p.kind ≤ length text
    → record_at (text ++ more) p ≡ record_at text p
record_stays text more p h = ap (record_in p.kind) (line_stays text more p h)

stays : (text more : List ℕ) (p : LineStart) → IsKeptLine text p → IsKeptLine (text ++ more) p
stays text more p h = record {
  within = omega (arith, h.within, length-append text more);
  fits = subst IsRecord (sym (record_stays text more p h.within)) h.fits;
}

all_stay : (text more : List ℕ) (starts : List LineStart) → AllByRecursion (IsKeptLine text) starts
    → AllByRecursion (IsKeptLine (text ++ more)) starts
all_stay text more [] h = tt
all_stay text more (p ∷ starts) h = (stays text more p h.0, all_stay text more starts h.1)

records_stay : (text more : List ℕ) (starts : List LineStart) → AllByRecursion (IsKeptLine text) starts
    → kept_records (text ++ more) starts ≡ kept_records text starts
records_stay text more [] h = refl
records_stay text more (p ∷ starts) h = ap2 (record_stays text more p h.0.within) (records_stay text more starts h.1)
  where
    ap2 : {r s : RecordValue} {rs ss : List RecordValue} → r ≡ s → rs ≡ ss → r ∷ rs ≡ s ∷ ss
    ap2 e f = cc (e, f)

lines_stay : (text more : List ℕ) (starts : List LineStart) → AllByRecursion (IsKeptLine text) starts
    → flat_map (ended_line_at (text ++ more)) starts ≡ flat_map (ended_line_at text) starts
lines_stay text more [] h = refl
lines_stay text more (p ∷ starts) h =
    ap₂ (λ (x y : List ℕ). (x ++ 13 ∷ 10 ∷ []) ++ y) (line_stays text more p h.0.within) (lines_stay text more starts h.1)

-- ---- a line more

-- a line with its end
abbrev ended : List ℕ → List ℕ
ended line = line ++ 13 ∷ 10 ∷ []

-- the line that was added stands at the end
last_line : (text line : List ℕ) (p : LineStart) → p.start ≡ length text → length line ≡ line_width p.kind
    → line_at (text ++ ended line) p ≡ line
last_line text line p at whole =
    ap (λ (n : ℕ). take (line_width p.kind) (drop n (text ++ ended line))) at
    ∙ ap (take (line_width p.kind)) (drop-append_seam text (ended line))
    ∙ ap (λ (n : ℕ). take n (ended line)) (sym whole) ∙ take-append_seam line (13 ∷ 10 ∷ [])

last_record : (text line : List ℕ) (p : LineStart) (r : RecordValue) → p.start ≡ length text → length line ≡ line_width p.kind
    → r ≡ record_in p.kind line → record_at (text ++ ended line) p ≡ r
last_record text line p r at whole e = ap (record_in p.kind) (last_line text line p at whole) ∙ sym e

last_kept : (text line : List ℕ) (p : LineStart) (r : RecordValue) → p.start ≡ length text → length line ≡ line_width p.kind
    → r ≡ record_in p.kind line → IsRecord r → IsKeptLine (text ++ ended line) p
last_kept text line p r at whole e good = record {
  within = omega (arith, at, whole, length-append text (ended line), length-append line (13 ∷ 10 ∷ []));
  fits = subst IsRecord (sym (last_record text line p r at whole e)) good;
}

and_last : (text : List ℕ) (starts : List LineStart) (p : LineStart) → AllByRecursion (IsKeptLine text) starts → IsKeptLine text p
    → AllByRecursion (IsKeptLine text) (starts ++ p ∷ [])
and_last text [] p h k = (k, tt)
and_last text (q ∷ starts) p h k = (h.0, and_last text starts p h.1 k)

-- all are kept with it
kept_with : (text line : List ℕ) (starts : List LineStart) (p : LineStart) (r : RecordValue)
    → AllByRecursion (IsKeptLine text) starts → p.start ≡ length text → length line ≡ line_width p.kind
    → r ≡ record_in p.kind line → IsRecord r
    → AllByRecursion (IsKeptLine (text ++ ended line)) (starts ++ p ∷ [])
kept_with text line starts p r h at whole e good =
    and_last (text ++ ended line) starts p (all_stay text (ended line) starts h) (last_kept text line p r at whole e good)

-- and it is one record more
records_with : (text line : List ℕ) (starts : List LineStart) (p : LineStart) (r : RecordValue)
    → AllByRecursion (IsKeptLine text) starts → p.start ≡ length text → length line ≡ line_width p.kind
    → r ≡ record_in p.kind line
    → kept_records (text ++ ended line) (starts ++ p ∷ []) ≡ kept_records text starts ++ r ∷ []
records_with text line starts p r h at whole e =
    map-append (record_at (text ++ ended line)) starts (p ∷ [])
    ∙ ap (λ (l : List RecordValue). l ++ record_at (text ++ ended line) p ∷ []) (records_stay text (ended line) starts h)
    ∙ ap (λ (s : RecordValue). kept_records text starts ++ s ∷ []) (last_record text line p r at whole e)

-- and the text is one line longer
joined_with : (text line : List ℕ) (starts : List LineStart) (p : LineStart) → AllByRecursion (IsKeptLine text) starts
    → text ≡ flat_map (ended_line_at text) starts → p.start ≡ length text → length line ≡ line_width p.kind
    → text ++ ended line ≡ flat_map (ended_line_at (text ++ ended line)) (starts ++ p ∷ [])
joined_with text line starts p h e at whole =
    ap₂ (λ (x y : List ℕ). x ++ y) (e ∙ sym (lines_stay text (ended line) starts h))
    (ap ended (sym (last_line text line p at whole)) ∙ sym (append-nil (ended_line_at (text ++ ended line) p)))
    ∙ sym (flat_map-append (ended_line_at (text ++ ended line)) starts (p ∷ []))

-- ---- the list as it is shown

-- its records are in order
pub in_order : (text : List ℕ) (starts : List LineStart) (records : List RecordValue) → KeepsLines text starts
    → kept_records text starts ≡ records → AllByRecursion IsRecord records
in_order text starts records h e = subst (AllByRecursion IsRecord) e (all_in_order text starts h.each)

none_after : {X : Type 0} (xs : List X) (i : ℕ) → length xs ≤ i → None ≡ slice_get xs i
none_after [] i h = refl
none_after (x ∷ xs) zero h = absurd (omega (arith, h))
none_after (x ∷ xs) (suc i) h = none_after xs i (omega (arith, h))

-- it has none after its last place
pub none_there : (text : List ℕ) (starts items : List LineStart) (records : List RecordValue) (i : ℕ)
    → false ≡ nat_lt i (length items) → items ≡ starts → kept_records text starts ≡ records → None ≡ slice_get records i
none_there text starts items records i h same e =
    none_after records i
    (omega (arith, ltb-false i (length items) (sym h), ap length same, ap length e, length-map starts (record_at text)))

-- with a record more
pub shows_more : (text line added : List ℕ) (starts more : List LineStart) (p : LineStart) (old : List RecordValue)
    (r : RecordValue)
    → KeepsLines text starts → kept_records text starts ≡ old → p.start ≡ length text → length line ≡ line_width p.kind
    → r ≡ record_in p.kind line → added ≡ text ++ ended line → more ≡ starts ++ p ∷ [] → kept_records added more ≡ old ++ r ∷ []
shows_more text line added starts more p old r h e at whole carries a b =
    ap (λ (t : List ℕ). kept_records t more) a ∙ ap (kept_records (text ++ ended line)) b
    ∙ records_with text line starts p r h.each at whole carries ∙ ap (λ (l : List RecordValue). l ++ r ∷ []) e

-- its line is as wide as its kind says
width_more : (old : List RecordValue) (r : RecordValue) → lines_width (old ++ r ∷ []) ≡ lines_width old + (line_width r.kind + 2)
width_more old r = omega (arith, sum_by-append (λ (s : RecordValue). line_width s.kind + 2) old (r ∷ []))

pub keeps_more : (text line added : List ℕ) (starts more : List LineStart) (p : LineStart) (r : RecordValue)
    → KeepsLines text starts
    → p.start ≡ length text → length line ≡ line_width p.kind → r ≡ record_in p.kind line → IsRecord r
    → added ≡ text ++ ended line → more ≡ starts ++ p ∷ [] → KeepsLines added more
keeps_more text line added starts more p r h at whole carries good a b = record {
  each = subst (λ (t : List ℕ). AllByRecursion (IsKeptLine t) more) (sym a)
      (subst (AllByRecursion (IsKeptLine (text ++ ended line))) (sym b)
      (kept_with text line starts p r h.each at whole carries good));
  whole =
      let wide : line_width r.kind ≡ line_width p.kind = ap (λ (s : RecordValue). line_width s.kind) carries in
      let after : lines_width (kept_records added more) ≡ lines_width (kept_records text starts) + (line_width r.kind + 2) =
      ap lines_width (shows_more text line added starts more p (kept_records text starts) r h refl at whole carries a b)
      ∙ width_more (kept_records text starts) r in
      omega (
        arith,
        ap length a,
        length-append text (ended line),
        length-append line (13 ∷ 10 ∷ []),
        h.whole,
        whole,
        wide,
        after,
      );
  joined = subst (λ (t : List ℕ). t ≡ flat_map (ended_line_at t) more) (sym a)
      (subst (λ (l : List LineStart). text ++ ended line ≡ flat_map (ended_line_at (text ++ ended line)) l) (sym b)
      (joined_with text line starts p h.each h.joined at whole));
}

-- ---- when it asks for memory

-- for a line
pub asks_for_line : (text line : List ℕ) (starts : List LineStart) (old : List RecordValue) (r : RecordValue) (kind : Kind)
    → KeepsLines text starts → kept_records text starts ≡ old → length line ≡ line_width kind → kind ≡ r.kind
    → Outgrows 2048 (length text) (length text + (length line + 2)) → AsksMemory old r
asks_for_line text line starts old r kind h e whole same asks =
    let before : length text ≡ lines_width old = h.whole ∙ ap lines_width e in
    let more : length line ≡ line_width r.kind = whole ∙ ap line_width same in
    inl (subst (λ (n : ℕ). Outgrows 2048 (lines_width old) (lines_width old + (n + 2))) more
    (subst (λ (n : ℕ). Outgrows 2048 n (n + (length line + 2))) before asks))

-- for a place
pub asks_for_place : (text : List ℕ) (starts : List LineStart) (old : List RecordValue) (r : RecordValue)
    → kept_records text starts ≡ old → Outgrows 16 (length starts) (length starts + 1) → AsksMemory old r
asks_for_place text starts old r e asks =
    let before : length starts ≡ length old = omega (arith, length-map starts (record_at text), ap length e) in
    inr (subst (λ (n : ℕ). Outgrows 16 n (n + 1)) before asks)
