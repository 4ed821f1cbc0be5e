-- The findings of items are listed, item by item.
use Rattle.std.proofs.Common.{◌≡◌, ℕ, ◌+◌, ◌<◌, List, [], ◌∷◌, ◌++◌, length, map, take, get_or, Option, Some, refl, sym, ap}
use Rattle.std.proofs.Common.{subst, ◌∙◌, arith, append_assoc, append-nil}
use Rattle.std.specs.Prelude.{Result, Ok, Err, IfOk, IfSome}
use Rattle.std.proofs.lemmas.List.{length-append, map-append}
use Rattle.std.proofs.lemmas.Option.{slice_get-get_or}
use Rattle.cwr_shape.specs.declared.limits.Limits.{Limits}
use Rattle.cwr_values.specs.declared.items.Item.{Item}
use Rattle.cwr_judge.specs.Format.Items.{item_records, records_in}
use Rattle.cwr_decode.specs.Steps.Machines.{Standing, again}
use Rattle.cwr_decode.specs.Steps.Readings.{answer_of, Reads}
use Rattle.cwr_decode.specs.Steps.Runs.{IsReadingOn}
use Rattle.cwr_decode.proofs.lemmas.ItemsReadSoFar.{some_read}
use Rattle.cwr_findings.specs.declared.rules.Finding.{Finding}
use Rattle.cwr_findings.proofs.lemmas.OneMore.{take_more}
use Rattle.cwr_tools.specs.declared.verdicts.Verdict.{Verdict}
use Rattle.cwr_tools.specs.declared.verdicts.Verdict.TheVariants.{Good, Refused, Truncated}
use Rattle.cwr_tools.specs.declared.verdicts.ToolFault.{ToolFault}
use Rattle.cwr_tools.specs.Format.Verdicts.{IsVerdictOn}
use Rattle.cwr_tools.specs.Steps.Verdicts.{IsRightVerdict}
use Rattle.cwr_calls.specs.declared.listing.CwrFinding.{CwrFinding}
use Rattle.cwr_calls.specs.declared.listing.Numbers.{Numbers}
use Rattle.cwr_calls.specs.Format.Copies.{CopiesOut}
use Rattle.cwr_calls.specs.Format.FindingNumbers.{finding_in_c, findings_in_c, item_findings}
use Rattle.cwr_calls.specs.Steps.Listed.{Lists, ListsFrom, PutsMore, numbers_with}
use Rattle.cwr_decode.specs.Steps.TakenLines.{PutsAt}
use Rattle.cwr_calls.proofs.lemmas.CountedItems.{IsCount, count_more}
use Rattle.cwr_calls.proofs.lemmas.PutElements.{copies_more, copies_nothing}

-- ---- elements that are put one after the other

pub puts_none : {X : Type 0} (at : ℕ) (old : List X) → PutsMore [] old at old at
puts_none at old = λ all before h. subst (λ (l : List _). CopiesOut l before old at) (sym (append-nil all)) h

pub puts_one : {X : Type 0} (more : List X) (x : X) (old mid new : List X) (start at next : ℕ) → PutsMore more old start mid at
    → PutsAt at x mid new → next ≡ at + 1 → PutsMore (more ++ x ∷ []) old start new next
puts_one more x old mid new start at next h p e = λ all before c.
    subst (λ (l : List _). CopiesOut l before new next) (append_assoc all more (x ∷ []))
    (copies_more (all ++ more) before mid new at next x (h all before c) p e)

-- the findings of a transaction, one more of them
pub puts_next : (before : ℕ) (found : List Finding) (i : ℕ) (d : Finding) (made : CwrFinding) (old mid new : List CwrFinding)
    (start at next : ℕ) → i < length found → made ≡ finding_in_c before (get_or found i d)
    → PutsMore (map (finding_in_c before) (take i found)) old start mid at → PutsAt at made mid new → next ≡ at + 1
    → PutsMore (map (finding_in_c before) (take (i + 1) found)) old start new next
puts_next before found i d made old mid new start at next within is h p e =
    let f : Finding → CwrFinding = finding_in_c before in
    let more : map f (take (i + 1) found) ≡ map f (take i found) ++ made ∷ [] =
    ap (map f) (take_more found i (get_or found i d) (slice_get-get_or found i d within))
    ∙ map-append f (take i found) (get_or found i d ∷ [])
    ∙ ap (λ (x : CwrFinding). map f (take i found) ++ x ∷ []) (sym is) in
    subst (λ (l : List CwrFinding). PutsMore l old start new next) (sym more)
    (puts_one (map f (take i found)) made old mid new start at next h p e)

-- ---- the findings of one item more

pub findings_more : (before : ℕ) (given : List Item) (item : Item) → findings_in_c before (given ++ item ∷ [])
    ≡ findings_in_c before given ++ item_findings (before + length (records_in given)) item
unfolding findings_in_c
findings_more before [] item =
    let same : before + length (records_in []) ≡ before = omega arith in
    append-nil (item_findings before item) ∙ ap (λ (n : ℕ). item_findings n item) (sym same)
findings_more before (x ∷ given) item =
    let n : ℕ = before + length (item_records x) in
    let same : n + length (records_in given) ≡ before + length (records_in (x ∷ given)) =
    omega (arith, length-append (item_records x) (records_in given)) in
    ap (λ (l : List CwrFinding). item_findings before x ++ l)
    (findings_more n given item ∙ ap (λ (k : ℕ). findings_in_c n given ++ item_findings k item) same)
    ∙ sym (append_assoc (item_findings before x) (findings_in_c n given)
    (item_findings (before + length (records_in (x ∷ given))) item))

-- the findings of the items so far were put
pub record IsListing (limits : Limits) (d : Standing) (before now : Option (List ℕ)) (c : Numbers) (old entries : List CwrFinding)
    (at : ℕ) : Type 0 where
  pub given : List Item
  pub reading : IsReadingOn limits d before now given
  pub counts : IsCount c given
  pub put : CopiesOut (findings_in_c 0 given) old entries at

pub lists_nothing : (limits : Limits) (d : Standing) (before now : Option (List ℕ)) (c : Numbers) (entries : List CwrFinding)
    → IsReadingOn limits d before now [] → IsCount c [] → IsListing limits d before now c entries entries 0
unfolding findings_in_c
lists_nothing limits d before now c entries reading counts =
    record { given = []; reading = reading; counts = counts; put = copies_nothing entries 0 refl }

-- with one item more
pub lists_item : (limits : Limits) (d new : Standing) (before left after : Option (List ℕ)) (c : Numbers)
    (old mid next : List CwrFinding) (at end : ℕ) (reported : Option Item) (item : Item) (B C : Type 0)
    → reported ≡ Some item → (h : IsListing limits d before left c old mid at) → Reads d left (Ok reported) new after
    → IfSome (again d.state) (λ o. (Some (Ok reported) ≡ answer_of o) × B × C)
    → PutsMore (item_findings c.records item) mid at next end
    → IsListing limits new before after (numbers_with c item) old next end
lists_item limits d new before left after c old mid next at end reported item B C e h r same p =
    let here : item_findings c.records item ≡ item_findings (0 + length (records_in h.given)) item =
    ap (λ (n : ℕ). item_findings n item) (omega (arith, h.counts.records)) in
    record {
      given = h.given ++ item ∷ [];
      reading = some_read limits d new before left after h.given reported item B C e h.reading r same;
      counts = count_more c h.given item h.counts;
      put =
          subst (λ (l : List CwrFinding). CopiesOut l old next end)
          (ap (λ (l : List CwrFinding). findings_in_c 0 h.given ++ l) here ∙ sym (findings_more 0 h.given item))
          (p (findings_in_c 0 h.given) old h.put);
    }

-- the verdict after these items
pub lists_before : (limits : Limits) (before after : Option (List ℕ)) (given : List Item) (old entries : List CwrFinding) (at : ℕ)
    (result : Result Verdict ToolFault)
    → IfOk result (λ verdict. IsRightVerdict limits before verdict after given) → CopiesOut (findings_in_c 0 given) old entries at
    → ListsFrom limits before after old entries at result
lists_before limits before after given old entries at (Ok verdict) right put = (given, right, put)
lists_before limits before after given old entries at (Err fault) right put = tt

-- ---- of a text that is known

-- a right verdict is the one on the text
verdict_on : (limits : Limits) (text : List ℕ) (verdict : Verdict) (after : Option (List ℕ)) (given : List Item)
    → IsRightVerdict limits (Some text) verdict after given → IsVerdictOn limits text verdict
verdict_on limits text (Good groups transactions records) after given t = (t.0, length t.1.input, t.1.front.0, t.3)
verdict_on limits text (Refused refusal) after given t = t.0.right.ends
verdict_on limits text (Truncated records) after given t = t.0.right.ends

pub listed_text : (limits : Limits) (text : List ℕ) (before after : Option (List ℕ)) (old new : List CwrFinding) (count : ℕ)
    (result : Result Verdict ToolFault) → before ≡ Some text → ListsFrom limits before after old new count result
    → Lists limits text old new count result
listed_text limits text before after old new count (Ok verdict) same h =
    let right : IsRightVerdict limits (Some text) verdict after h.0 =
    subst (λ (b : Option (List ℕ)). IsRightVerdict limits b verdict after h.0) same h.1 in
    (verdict_on limits text verdict after h.0 right, (h.0, after, right, h.2))
listed_text limits text before after old new count (Err fault) same h = tt
