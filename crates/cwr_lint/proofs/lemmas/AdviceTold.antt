-- What is told of a transaction, with advice and without.
use Rattle.std.proofs.Common.{◌≡◌, ℕ, Bool, true, false, List, ◌++◌, Option, Some, None, refl, sym, ap, ap₂, ◌∙◌, append-nil}
use Rattle.std.specs.Prelude.{◌&&◌, flat_map}
use Rattle.cwr_lines.specs.Format.Records.{RecordValue}
use Rattle.cwr_tools.specs.Format.Reports.{transaction_lines}
use Rattle.cwr_advice.specs.declared.rules.Advice.{Advice}
use Rattle.cwr_advice.specs.declared.said.Said.{Said}
use Rattle.cwr_advise.specs.Format.AdviceTexts.{noted_advice}
use Rattle.cwr_advise.specs.Steps.AdviceCounts.{counts_after, told_by}
use Rattle.cwr_advise.specs.Steps.AdvisedItems.{advised_after}
use Rattle.cwr_lint.specs.Format.FaultsOfLines.{Asking, advice_if, said_if, told_lines}

-- where there is advice, the lines have such numbers
pub some_numbered : (numbered : Bool) (said : Option Said) (x : Said) → said_if numbered said ≡ Some x → numbered ≡ true
some_numbered true said x e = refl
some_numbered false said x e = absurd (cc e)

-- the lines of findings, and those of that advice
both_lines : Bool → Bool → ℕ → ℕ → ℕ → List RecordValue → List Advice → List ℕ
both_lines explained apart group sequence first t advice =
    transaction_lines explained apart group sequence first t ++ flat_map (noted_advice apart group sequence first t) advice

pub told_with : (asked : Asking) (explained apart numbered : Bool) (counts : List ℕ) (said : Said) (group sequence first : ℕ)
    (t : List RecordValue)
    → explained ≡ (asked.explained && numbered) → apart ≡ asked.explained → said_if numbered asked.said ≡ Some said
    → advised_after (record { explained = explained; apart = apart; all = asked.all }) counts said group sequence first t
    ≡ told_lines asked numbered (told_by asked.all counts (advice_if (said_if numbered asked.said) t)) group sequence first t
unfolding both_lines
told_with asked explained apart numbered counts said group sequence first t e a f =
    ap₂ (λ (b c : Bool). both_lines b c group sequence first t (told_by asked.all counts (advice_if (Some said) t))) e a
    ∙ ap (λ (o : Option Said). both_lines (asked.explained && numbered) asked.explained group sequence first t
    (told_by asked.all counts (advice_if o t))) (sym f)

pub told_without : (asked : Asking) (explained apart numbered : Bool) (counts : List ℕ) (group sequence first : ℕ)
    (t : List RecordValue)
    → explained ≡ (asked.explained && numbered) → apart ≡ asked.explained → said_if numbered asked.said ≡ None
    → transaction_lines explained apart group sequence first t
    ≡ told_lines asked numbered (told_by asked.all counts (advice_if (said_if numbered asked.said) t)) group sequence first t
unfolding both_lines
told_without asked explained apart numbered counts group sequence first t e a f =
    sym (append-nil (transaction_lines explained apart group sequence first t))
    ∙ ap₂ (λ (b c : Bool). both_lines b c group sequence first t (told_by asked.all counts (advice_if None t))) e a
    ∙ ap (λ (o : Option Said). both_lines (asked.explained && numbered) asked.explained group sequence first t
    (told_by asked.all counts (advice_if o t))) (sym f)

-- and the counts with it
pub counts_as : (said other : Option Said) (counts : List ℕ) (t : List RecordValue) → said ≡ other
    → counts_after counts (advice_if said t) ≡ counts_after counts (advice_if other t)
counts_as said other counts t e = ap (λ (o : Option Said). counts_after counts (advice_if o t)) e
