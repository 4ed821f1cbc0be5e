-- What is counted of several inputs, with one more.
use Rattle.std.proofs.Common.{◌≡◌, ◌∙◌, ℕ, ◌+◌, ◌-◌, ◌^◌, Bool, true, false, ◌||◌, List, [], ◌∷◌, ◌++◌, map, length, Option, Some, None, Vec, Global, refl, sym, ap, subst, arith, append-nil, append_assoc, true≢false, if◌then◌else◌}
use denote.Ref.{Bor}
use Rattle.std.specs.Prelude.{cond, flat_map, filter, min, option_map, option_to_list, slice_index, sum_by, bytes_eq, Decides, Ok, Err}
use Rattle.std.specs.List.{list_any}
use Rattle.std.proofs.lemmas.List.{map-append}
use Rattle.std.proofs.lemmas.List.Concat.{flat_map-append}
use Rattle.std.proofs.lemmas.List.Elements.{filter-append}
use Rattle.std.proofs.lemmas.List.Folds.{list_any-append}
use Rattle.std.proofs.lemmas.List.Sums.{sum_by_push}
use Rattle.std.proofs.lemmas.Slice.Eq.{bytes_eq-Decides}
use Rattle.cwr_lines.specs.Format.Records.{RecordValue}
use Rattle.cwr_sent.specs.Format.SentFacts.{sender_of}
use Rattle.cwr_tools.specs.declared.verdicts.Verdict.{Verdict}
use Rattle.cwr_tools.specs.declared.verdicts.Verdict.TheVariants.{Good, Refused, Truncated}
use Rattle.cwr_files.specs.declared.faults.Fault.{Fault}
use Rattle.cwr_endings.specs.declared.sums.Sums.{Sums}
use Rattle.cwr_endings.specs.Format.Sums.{AreSums, is_good, sums_line}
use Rattle.cwr_summary.specs.Format.Columns.{place}
use Rattle.cwr_summary_rows.specs.Format.Rows.{RowValue, no_header}
use Rattle.cwr_summaries.specs.declared.summaries.Found.{Found}
use Rattle.cwr_summaries.specs.declared.summaries.Totals.{Totals}
use Rattle.cwr_summaries.specs.Format.Rows.{IsSumsRow, SummedInput, after_of, bytes_of, different, different_after, good_of, is_among, number_at, senders_of, sum_of, unended, verdict_of}
use Rattle.cwr_summaries.specs.Steps.Rows.{AddsInput, AreTotals, failed_input, input_of, many_with_if}

-- ---- different ones

different_more_after : (before xs : List (List ℕ)) (x : List ℕ)
    → different_after before (xs ++ x ∷ []) ≡ different_after before xs + (if is_among x (before ++ xs) then 0 else 1)
different_more_after before [] x =
    let same : is_among x before ≡ is_among x (before ++ []) = ap (is_among x) (sym (append-nil before)) in
    omega (arith, ap {B = ℕ} (λ (b : Bool). if b then 0 else 1) same)
different_more_after before (y ∷ xs) x =
    let more = different_more_after (before ++ y ∷ []) xs x in
    let same : is_among x ((before ++ y ∷ []) ++ xs) ≡ is_among x (before ++ y ∷ xs) = ap (is_among x) (append_assoc before (y ∷ []) xs) in
    omega (arith, more, ap {B = ℕ} (λ (b : Bool). if b then 0 else 1) same)

-- with one more, or none
different_with : (xs : List (List ℕ)) (more : Option (List ℕ)) (known : List (List ℕ)) → length known ≡ different xs
    → ((one : List ℕ) → is_among one known ≡ is_among one xs) → many_with_if more known ≡ different (xs ++ option_to_list more)
different_with xs None known many same = many ∙ ap different (sym (append-nil xs))
different_with xs (Some x) known many same =
    let more = different_more_after [] xs x in
    omega (arith, many, more, ap {B = ℕ} (λ (b : Bool). if b then 0 else 1) (same x))

-- what was there already is there
pub among_already : (xs : List (List ℕ)) (x : List ℕ) → is_among x xs ≡ true → (one : List ℕ) → is_among one xs ≡ is_among one (xs ++ x ∷ [])
among_already xs x there one =
    by (bytes_eq x one) refl ∙ sym (list_any-append (λ other. bytes_eq other one) xs (x ∷ []))
  where
    equal : (b : Bool) → Decides b (x ≡ one) → b ≡ true → x ≡ one
    equal true same e = same.0 e
    equal false other e = absurd (true≢false (sym e))

    by : (b : Bool) → bytes_eq x one ≡ b → is_among one xs ≡ (is_among one xs || is_among one (x ∷ []))
    by true e =
        let here : is_among one xs ≡ true =
        subst (λ (y : List ℕ). is_among y xs ≡ true) (equal (bytes_eq x one) (bytes_eq-Decides x one) e) there in
        here ∙ ap (λ (b : Bool). b || is_among one (x ∷ [])) (sym here)
    by false e = or_none (is_among one xs) ∙ ap (λ (b : Bool). is_among one xs || (b || false)) (sym e)
      where
        or_none : (b : Bool) → b ≡ (b || false)
        or_none true = refl
        or_none false = refl

among_more : (xs known : List (List ℕ)) (more : List (List ℕ)) → ((one : List ℕ) → is_among one known ≡ is_among one xs)
    → (one : List ℕ) → is_among one (known ++ more) ≡ is_among one (xs ++ more)
among_more xs known more same one =
    list_any-append (λ other. bytes_eq other one) known more ∙ ap (λ (b : Bool). b || is_among one more) (same one)
    ∙ sym (list_any-append (λ other. bytes_eq other one) xs more)

-- ---- one input more

good_more : (inputs : List SummedInput) (input : SummedInput) → is_good (verdict_of input) ≡ true
    → good_of (inputs ++ input ∷ []) ≡ good_of inputs ++ input ∷ []
good_more inputs input good =
    filter-append (λ it. is_good (verdict_of it)) inputs (input ∷ [])
    ∙ ap (λ (b : Bool). good_of inputs ++ cond b (input ∷ []) []) good

none_more : (inputs : List SummedInput) (input : SummedInput) → is_good (verdict_of input) ≡ false → good_of (inputs ++ input ∷ []) ≡ good_of inputs
none_more inputs input bad =
    filter-append (λ it. is_good (verdict_of it)) inputs (input ∷ [])
    ∙ ap (λ (b : Bool). good_of inputs ++ cond b (input ∷ []) []) bad ∙ append-nil (good_of inputs)

sum_more : (number : SummedInput → ℕ) (inputs : List SummedInput) (input : SummedInput) (old new : ℕ) → is_good (verdict_of input) ≡ true
    → old ≡ sum_of number inputs → new ≡ min (old + number input) (2 ^ 64 - 1) → new ≡ sum_of number (inputs ++ input ∷ [])
sum_more number inputs input old new good before next =
    let all : sum_by number (good_of (inputs ++ input ∷ [])) ≡ sum_by number (good_of inputs) + number input =
    ap (sum_by number) (good_more inputs input good) ∙ sum_by_push number (good_of inputs) input in
    omega (arith, before, next, all)

senders_more : (inputs : List SummedInput) (input : SummedInput) → is_good (verdict_of input) ≡ true
    → senders_of (inputs ++ input ∷ []) ≡ senders_of inputs ++ option_to_list (option_map sender_of input.opening)
senders_more inputs input good =
    let of : SummedInput → List (List ℕ) = λ it. map sender_of (option_to_list it.opening) in
    ap (flat_map of) (good_more inputs input good) ∙ flat_map-append of (good_of inputs) (input ∷ [])
    ∙ ap (λ (l : List (List ℕ)). senders_of inputs ++ l) (append-nil (of input) ∙ listed input.opening)
  where
    listed : (opening : Option RecordValue) → map sender_of (option_to_list opening) ≡ option_to_list (option_map sender_of opening)
    listed None = refl
    listed (Some r) = refl

-- the totals with a good one
pub good_counted : (old new : Totals) (input : SummedInput) (inputs : List SummedInput) → is_good (verdict_of input) ≡ true
    → new.bytes ≡ min (old.bytes + bytes_of input) (2 ^ 64 - 1) → new.after ≡ min (old.after + after_of input) (2 ^ 64 - 1)
    → ((i : ℕ) → slice_index new.summary.numbers i ≡ min (slice_index old.summary.numbers i + number_at i input) (2 ^ 64 - 1))
    → length new.senders.items ≡ many_with_if (option_map sender_of input.opening) old.senders.items
    → ((one : List ℕ) → is_among one new.senders.items
    ≡ is_among one (old.senders.items ++ option_to_list (option_map sender_of input.opening)))
    → AreSums new.sums (map verdict_of inputs ++ verdict_of input ∷ []) → AreTotals old inputs → AreTotals new (inputs ++ input ∷ [])
good_counted old new input inputs good bytes after numbers many among sums before =
    let more : Option (List ℕ) = option_map sender_of input.opening in
    let all = senders_more inputs input good in
    record {
      bytes = sum_more bytes_of inputs input old.bytes new.bytes good before.bytes bytes;
      after = sum_more after_of inputs input old.after new.after good before.after after;
      numbers = λ i. sum_more (number_at i) inputs input (slice_index old.summary.numbers i) (slice_index new.summary.numbers i) good
          (before.numbers i) (numbers i);
      many = many ∙ different_with (senders_of inputs) more old.senders.items before.many before.senders ∙ ap different (sym all);
      senders = λ one. among one ∙ among_more (senders_of inputs) old.senders.items (option_to_list more) before.senders one
          ∙ ap (is_among one) (sym all);
      sums = subst (AreSums new.sums) (sym (map-append verdict_of inputs (input ∷ []))) sums;
    }

-- the same with a sender that was read where the HDR lies, and whatever advice is kept
pub added_good : (old counted new : Totals) (input : SummedInput) (inputs : List SummedInput) (verdict : Verdict) (opening : Option (Bor RecordValue))
    → verdict_of input ≡ Some verdict → is_good (Some verdict) ≡ true → option_map (λ r. r.now) opening ≡ input.opening
    → new.bytes ≡ min (old.bytes + bytes_of input) (2 ^ 64 - 1) → new.after ≡ min (old.after + after_of input) (2 ^ 64 - 1)
    → ((i : ℕ) → slice_index new.summary.numbers i ≡ min (slice_index old.summary.numbers i + number_at i input) (2 ^ 64 - 1))
    → new.senders ≡ counted.senders
    → length counted.senders.items ≡ many_with_if (option_map (λ r. sender_of r.now) opening) old.senders.items
    → ((one : List ℕ) → is_among one counted.senders.items
    ≡ is_among one (old.senders.items ++ option_to_list (option_map (λ r. sender_of r.now) opening)))
    → new.sums ≡ counted.sums → AreSums counted.sums (map verdict_of inputs ++ Some verdict ∷ []) → AreTotals old inputs
    → AreTotals new (inputs ++ input ∷ [])
added_good old counted new input inputs verdict opening judged good opened bytes after numbers kept many among same sums before =
    let read : option_map (λ (r : Bor RecordValue). sender_of r.now) opening ≡ option_map sender_of input.opening =
    seen opening ∙ ap (option_map sender_of) opened in
    good_counted old new input inputs (ap is_good judged ∙ good) bytes after numbers
    (ap (λ (v : Vec (List ℕ) Global). length v.items) kept ∙ many ∙ ap (λ (o : Option (List ℕ)). many_with_if o old.senders.items) read)
    (λ one. ap (λ (v : Vec (List ℕ) Global). is_among one v.items) kept ∙ among one
    ∙ ap (λ (o : Option (List ℕ)). is_among one (old.senders.items ++ option_to_list o)) read)
    (subst (λ (s : Sums). AreSums s (map verdict_of inputs ++ verdict_of input ∷ [])) (sym same)
    (subst (λ (v : Option Verdict). AreSums counted.sums (map verdict_of inputs ++ v ∷ [])) (sym judged) sums)) before
  where
    seen : (o : Option (Bor RecordValue)) → option_map (λ (r : Bor RecordValue). sender_of r.now) o
        ≡ option_map sender_of (option_map (λ (r : Bor RecordValue). r.now) o)
    seen None = refl
    seen (Some r) = refl

-- with any other one
pub other_counted : (old new : Totals) (input : SummedInput) (inputs : List SummedInput) → is_good (verdict_of input) ≡ false
    → new ≡ record old { sums = new.sums } → AreSums new.sums (map verdict_of inputs ++ verdict_of input ∷ []) → AreTotals old inputs
    → AreTotals new (inputs ++ input ∷ [])
other_counted old new input inputs bad same sums before =
    let good = none_more inputs input bad in
    record {
      bytes = ap (λ (t : Totals). t.bytes) same ∙ before.bytes ∙ ap (λ (l : List SummedInput). min (sum_by bytes_of l) (2 ^ 64 - 1)) (sym good);
      after = ap (λ (t : Totals). t.after) same ∙ before.after ∙ ap (λ (l : List SummedInput). min (sum_by after_of l) (2 ^ 64 - 1)) (sym good);
      numbers = λ i. ap (λ (t : Totals). slice_index t.summary.numbers i) same ∙ before.numbers i
          ∙ ap (λ (l : List SummedInput). min (sum_by (number_at i) l) (2 ^ 64 - 1)) (sym good);
      many = ap (λ (t : Totals). length t.senders.items) same ∙ before.many
          ∙ ap (λ (l : List SummedInput). different (flat_map (λ it. map sender_of (option_to_list it.opening)) l)) (sym good);
      senders = λ one. ap (λ (t : Totals). is_among one t.senders.items) same ∙ before.senders one
          ∙ ap (λ (l : List SummedInput). is_among one (flat_map (λ it. map sender_of (option_to_list it.opening)) l)) (sym good);
      sums = subst (AreSums new.sums) (sym (map-append verdict_of inputs (input ∷ []))) sums;
    }

-- what isn't good
pub bad_verdict : (verdict : Verdict) → ((g t r : ℕ) → verdict ≡ Good g t r → ⊥) → is_good (Some verdict) ≡ false
bad_verdict (Good groups transactions records) bad = absurd (bad groups transactions records refl)
bad_verdict (Refused refusal) bad = refl
bad_verdict (Truncated records) bad = refl

-- none so far
pub none_counted : (totals : Totals) → totals.bytes ≡ 0 → totals.after ≡ 0 → ((i : ℕ) → slice_index totals.summary.numbers i ≡ 0)
    → totals.senders.items ≡ [] → AreSums totals.sums [] → AreTotals totals []
none_counted totals bytes after numbers senders sums = record {
  bytes = bytes;
  after = after;
  numbers = numbers;
  many = ap length senders;
  senders = λ one. ap (is_among one) senders;
  sums = sums;
}

-- the row of the sums says them
pub sums_row : (files : ℕ) (totals : Totals) (inputs : List SummedInput) (row : RowValue) → AreTotals totals inputs → row.file ≡ None
    → row.bytes ≡ Some totals.bytes → row.after ≡ Some totals.after → row.digest ≡ None → row.canonical ≡ None
    → row.verdict ≡ unended (sums_line files (map verdict_of inputs)) → row.header ≡ no_header
    → row.numbers ≡ Some totals.summary.numbers → row.senders ≡ Some (length totals.senders.items) → IsSumsRow files inputs row
sums_row files totals inputs row are file bytes after digest canonical verdict header numbers senders = record {
  file = file;
  bytes = bytes ∙ ap (λ (n : ℕ). Some n) are.bytes;
  after = after ∙ ap (λ (n : ℕ). Some n) are.after;
  digest = digest;
  canonical = canonical;
  verdict = verdict;
  header = header;
  numbers = totals.summary.numbers;
  told = numbers;
  sums = λ column. are.numbers (place column);
  senders = senders ∙ ap (λ (n : ℕ). Some n) are.many;
}
