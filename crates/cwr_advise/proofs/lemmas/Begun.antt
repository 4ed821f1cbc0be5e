-- A report of advice before its first item, and what it knows after its last.
use Rattle.std.proofs.Common.{◌≡◌, ℕ, Bool, true, false, List, [], ◌∷◌, ◌++◌, Option, None, refl, sym, subst, ap, ap₂, ◌∙◌, arith}
use Rattle.std.proofs.lemmas.List.Sums.{sum_by-append, sum_by-cons}
use Rattle.cwr_shape.specs.declared.reasons.Level.{Level}
use Rattle.cwr_values.specs.declared.items.Item.{Item}
use Rattle.cwr_values.specs.declared.items.Item.TheVariants.{Opened, GroupOpened, Transaction, GroupClosed, Ended}
use Rattle.cwr_tools.specs.Format.Watching.{findings_with, is_reached, item_findings}
use Rattle.cwr_shape.specs.declared.reasons.Level.TheVariants.{E}
use Rattle.cwr_shape.specs.declared.reasons.Reason.TheVariants.{Misplaced}
use Rattle.cwr_judge.specs.declared.refusals.Refusal.{Refusal}
use Rattle.cwr_tools.specs.Format.Reports.{ItemLines}
use Rattle.cwr_tools.specs.declared.verdicts.Verdict.{Verdict}
use Rattle.cwr_tools.specs.declared.verdicts.Verdict.TheVariants.{Good, Refused, Truncated}
use Rattle.cwr_tools.specs.Format.Texts.{verdict_line}
use Rattle.cwr_advise.specs.declared.item_advice.Manner.{Manner}
use Rattle.cwr_advise.specs.declared.advice_lines.AdviceLines.{AdviceLines}
use Rattle.cwr_advise.specs.Format.AdviceLevels.{any_reaches}
use Rattle.cwr_advise.specs.Format.AdviceLines.{advice_on, last_lines, lines_advised}
use Rattle.cwr_advise.specs.Format.RepeatedWorks.{works_in}
use Rattle.cwr_advise.specs.Format.ToldAdvice.{summary_lines}
use Rattle.cwr_advise.specs.Steps.AdviceCounts.{counts_of, summary_by}
use Rattle.cwr_advise.specs.Steps.AdvisedItems.{IsBefore, last_by, told_with}
use Rattle.cwr_advise.specs.Steps.KeptWorks.{AreKeptOf}
use Rattle.cwr_advise.proofs.lemmas.AdviceCounted.{summed}
use Rattle.cwr_advise.proofs.lemmas.LevelsTold.{worst_none}
use Rattle.cwr_advise.proofs.lemmas.WorksKept.{works_none}

-- an item without findings adds none
pub none_told : (count : ℕ) (given : List Item) (item : Item) → item_findings item ≡ 0 → count ≡ findings_with 0 given
    → count ≡ findings_with 0 (given ++ item ∷ [])
none_told count given item none before =
    omega (arith, before, none, sum_by-append item_findings given (item ∷ []), sum_by-cons item_findings item [])

-- it stands for these lines before the first item
pub begun_lines : (lines : AdviceLines) (manner : Manner) (up_to_fault : Bool) (limit : ℕ) → lines.manner ≡ manner
    → lines.up_to_fault ≡ up_to_fault → lines.repeats.limit ≡ limit → IsBefore lines.before [] → AreKeptOf lines.repeats []
    → lines.findings ≡ 0 → lines.told ≡ counts_of (advice_on limit []) → lines.worst.level ≡ None
    → (up_to_fault ≡ true → limit ≡ 0)
    → (lines_advised manner up_to_fault limit ≡ lines_advised lines.manner lines.up_to_fault lines.repeats.limit)
    × IsBefore lines.before [] × AreKeptOf lines.repeats (works_in []) × (lines.findings ≡ findings_with 0 [])
    × (lines.told ≡ counts_of (advice_on lines.repeats.limit []))
    × ((asked : Option Level) → is_reached asked lines.worst.level ≡ any_reaches lines.repeats.limit asked [])
    × (lines.up_to_fault ≡ true → lines.repeats.limit ≡ 0)
begun_lines lines manner up_to_fault limit e f l before works none uncounted untold off = (
  sym (ap₂ (λ (m : Manner) (b : Bool). lines_advised m b lines.repeats.limit) e f ∙ ap (lines_advised manner up_to_fault) l),
  before,
  subst (AreKeptOf lines.repeats) (sym works_none) works,
  none,
  uncounted ∙ ap (λ (n : ℕ). counts_of (advice_on n [])) (sym l),
  worst_none lines.worst.level lines.repeats.limit untold,
  λ up. l ∙ off (sym f ∙ up),
)

-- so many findings were told with those of an item more
pub told_more : (old new : ℕ) (given : List Item) (item : Item) → old ≡ findings_with 0 given → new ≡ told_with old item
    → new ≡ findings_with 0 (given ++ item ∷ [])
told_more old new given (Transaction t) before adds =
    omega (
      arith,
      before,
      adds,
      sum_by-append item_findings given (Transaction t ∷ []),
      sum_by-cons item_findings (Transaction t) [],
    )
told_more old new given (Opened r) before adds = adds ∙ none_told old given (Opened r) refl before
told_more old new given (GroupOpened r) before adds = adds ∙ none_told old given (GroupOpened r) refl before
told_more old new given (GroupClosed r) before adds = adds ∙ none_told old given (GroupClosed r) refl before
told_more old new given Ended before adds = adds ∙ none_told old given Ended refl before

-- what is put at the end, by the counts, is what stands there
pub last_same : (up_to_fault all : Bool) (limit : ℕ) (given : List Item) (told : List ℕ) (verdict : Verdict)
    → told ≡ counts_of (advice_on limit given)
    → last_by up_to_fault all told verdict ≡ last_lines up_to_fault all limit given verdict
last_same false all limit given told verdict e =
    ap (λ (l : List ℕ). l ++ verdict_line verdict) (ap (summary_by all) e ∙ summed all (advice_on limit given))
last_same true all limit given told (Refused refusal) e = refl
last_same true all limit given told (Good groups transactions records) e =
    ap (λ (l : List ℕ). l ++ verdict_line (Good groups transactions records))
    (ap (summary_by all) e ∙ summed all (advice_on limit given))
last_same true all limit given told (Truncated records) e =
    ap (λ (l : List ℕ). l ++ verdict_line (Truncated records)) (ap (summary_by all) e ∙ summed all (advice_on limit given))

-- ---- up to a fault

nothing_after : (xs ys : List ℕ) → [] ≡ xs ++ ys → [] ≡ ys
nothing_after [] ys e = e
nothing_after (x ∷ xs) ys e = absurd (cc e)

some_refusal : Refusal
some_refusal = record { rec = 0; field = 0; level = E; reason = Misplaced }

-- lines without that of a refusal are no others
up_to_it : (manner other : Manner) (up_to_fault : Bool) (limit more : ℕ)
    → lines_advised manner true limit ≡ lines_advised other up_to_fault more → up_to_fault ≡ true
up_to_it manner other true limit more e = refl
up_to_it manner other false limit more e =
    let same : [] ≡ summary_lines other.all (advice_on more []) ++ verdict_line (Refused some_refusal) =
    ap (λ (lines : ItemLines). lines.last [] (Refused some_refusal)) e in
    let none : [] ≡ verdict_line (Refused some_refusal) =
    nothing_after (summary_lines other.all (advice_on more [])) (verdict_line (Refused some_refusal)) same in
    absurd (cc none)

-- so much advice came from each rule, where no numbers are kept
pub counts_up_to_fault : (lines : AdviceLines) (manner : Manner) (given : List Item)
    → lines_advised manner true 0 ≡ lines_advised lines.manner lines.up_to_fault lines.repeats.limit
    → lines.told ≡ counts_of (advice_on lines.repeats.limit given) → (lines.up_to_fault ≡ true → lines.repeats.limit ≡ 0)
    → lines.told ≡ counts_of (advice_on 0 given)
counts_up_to_fault lines manner given same told off =
    told ∙ ap (λ (n : ℕ). counts_of (advice_on n given))
    (off (up_to_it manner lines.manner lines.up_to_fault 0 lines.repeats.limit same))
