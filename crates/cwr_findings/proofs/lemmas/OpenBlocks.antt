-- The parties of an agreement's blocks, with one record more: only those of the last block can become more.
use Rattle.std.proofs.Common.{◌≡◌, ℕ, zero, suc, ◌+◌, ◌<◌, Bool, true, false, cond, List, [], ◌∷◌, ◌++◌, length, take, drop, refl, sym}
use Rattle.std.proofs.Common.{ap, ap₂, ◌∙◌, append_assoc, arith, inl, inr}
use Rattle.std.specs.Prelude.{◌&&◌, ◌⊎◌, Some, slice_get}
use Rattle.std.specs.List.{fold}
use Rattle.std.proofs.lemmas.List.{drop-append-le, take-append-le}
use Rattle.cwr_fields.specs.declared.kinds.Kind.TheVariants as kinds
use Rattle.cwr_lines.specs.Format.Records.{RecordValue}
use Rattle.cwr_findings.specs.declared.rules.Rule.TheVariants.{V11}
use Rattle.cwr_findings.specs.Format.Findings.{breaks, begins_block, have_side_over_whole, is_a, is_agreement, is_party, parties_after}
use Rattle.cwr_findings.specs.Steps.Sums.{last_parties, with_record}
use Rattle.cwr_findings.proofs.lemmas.BlockParties.{end_of_parties, other_left, parties_left, party_is_no_territory, party_left}
use Rattle.cwr_findings.proofs.lemmas.BlockParties.{passed_left}
use Rattle.cwr_findings.proofs.lemmas.FalseTests.{and_false, and_left}

-- ---- the parties after the last territory

-- these parties, and then those of the records
abbrev parties_on : List RecordValue → List RecordValue → List RecordValue
parties_on seen t = fold with_record seen t

with_territory : (seen : List RecordValue) (r : RecordValue) → is_a kinds.Ter r ≡ true → with_record seen r ≡ []
with_territory seen r h = ap (λ (b : Bool). cond b [] (cond (is_party r) (seen ++ r ∷ []) seen)) h

with_party : (seen : List RecordValue) (r : RecordValue) → is_party r ≡ true → with_record seen r ≡ seen ++ r ∷ []
with_party seen r h =
    ap₂ (λ (b c : Bool). cond b [] (cond c (seen ++ r ∷ []) seen)) (party_is_no_territory r h) h

with_other : (seen : List RecordValue) (r : RecordValue) → is_party r ≡ false → is_a kinds.Ter r ≡ false
    → with_record seen r ≡ seen
with_other seen r no_party no_ter = ap₂ (λ (b c : Bool). cond b [] (cond c (seen ++ r ∷ []) seen)) no_ter no_party

on_more : (seen t : List RecordValue) (r : RecordValue) → parties_on seen (t ++ r ∷ []) ≡ with_record (parties_on seen t) r
on_more seen [] r = refl
on_more seen (x ∷ t) r = on_more (with_record seen x) t r

pub territory_is_last : (t : List RecordValue) (r : RecordValue) → is_a kinds.Ter r ≡ true → last_parties (t ++ r ∷ []) ≡ []
territory_is_last t r h = on_more [] t r ∙ with_territory (last_parties t) r h

pub party_is_last : (t : List RecordValue) (r : RecordValue) → is_party r ≡ true
    → last_parties (t ++ r ∷ []) ≡ last_parties t ++ r ∷ []
party_is_last t r h = on_more [] t r ∙ with_party (last_parties t) r h

pub other_is_last : (t : List RecordValue) (r : RecordValue) → is_party r ≡ false → is_a kinds.Ter r ≡ false
    → last_parties (t ++ r ∷ []) ≡ last_parties t
other_is_last t r no_party no_ter = on_more [] t r ∙ with_other (last_parties t) r no_party no_ter

-- after a territory, parties before it don't count
since_territory : (seen t : List RecordValue) (k : ℕ) (x : RecordValue) → slice_get t k ≡ Some x → is_a kinds.Ter x ≡ true
    → parties_on seen t ≡ parties_on [] (drop (suc k) t)
since_territory seen [] k x e h = absurd (cc e)
since_territory seen (y ∷ t) zero x e h =
    let same : y ≡ x = cc e in
    ap (λ (s : List RecordValue). parties_on s t) (with_territory seen y (ap (is_a kinds.Ter) same ∙ h))
since_territory seen (y ∷ t) (suc k) x e h = since_territory (with_record seen y) t k x e h

-- ---- those of a block, with one record more

still_passed : (b : Bool) (r : RecordValue) → is_party r ≡ false → parties_left b (r ∷ []) ≡ parties_left b []
still_passed true r no_party = by (is_a kinds.Ter r) refl
  where
    by : (c : Bool) → is_a kinds.Ter r ≡ c → parties_left true (r ∷ []) ≡ parties_left true []
    by true e = end_of_parties r [] e
    by false e = other_left true r [] e no_party
still_passed false r no_party = passed_left false r [] no_party (λ e. absurd (cc e))

-- what is so of a block's parties, where a walk has seen some of them: they stay the same, or they are the last ones
abbrev StayOrLast : Bool → List RecordValue → List RecordValue → RecordValue → Type 0
StayOrLast b seen t r = (parties_left b (t ++ r ∷ []) ≡ parties_left b t)
    ⊎ (seen ++ parties_left b (t ++ r ∷ []) ≡ parties_on seen (t ++ r ∷ []))

-- the walk goes on over one record, which adds nothing to what it has seen
goes_on : (b : Bool) (seen : List RecordValue) (x : RecordValue) (t : List RecordValue) (r : RecordValue)
    → ((l : List RecordValue) → parties_left b (x ∷ l) ≡ parties_left b l) → with_record seen x ≡ seen → StayOrLast b seen t r
    → StayOrLast b seen (x ∷ t) r
goes_on b seen x t r passed same (inl e) = inl (passed (t ++ r ∷ []) ∙ e ∙ sym (passed t))
goes_on b seen x t r passed same (inr e) =
    inr (ap (λ (l : List RecordValue). seen ++ l) (passed (t ++ r ∷ [])) ∙ e
    ∙ sym (ap (λ (s : List RecordValue). parties_on s (t ++ r ∷ [])) same))

goes_on_party : (b : Bool) (seen : List RecordValue) (x : RecordValue) (t : List RecordValue) (r : RecordValue)
    → is_party x ≡ true → StayOrLast true (seen ++ x ∷ []) t r → StayOrLast b seen (x ∷ t) r
goes_on_party b seen x t r h (inl e) =
    inl (party_left b x (t ++ r ∷ []) h ∙ ap (λ (l : List RecordValue). x ∷ l) e ∙ sym (party_left b x t h))
goes_on_party b seen x t r h (inr e) =
    inr (ap (λ (l : List RecordValue). seen ++ l) (party_left b x (t ++ r ∷ []) h)
    ∙ sym (append_assoc seen (x ∷ []) (parties_left true (t ++ r ∷ []))) ∙ e
    ∙ sym (ap (λ (s : List RecordValue). parties_on s (t ++ r ∷ [])) (with_party seen x h)))

at_territories : (seen : List RecordValue) → seen ≡ [] → (x : RecordValue) (t : List RecordValue) (r : RecordValue)
    → is_party x ≡ false → is_a kinds.Ter x ≡ true → StayOrLast false seen t r → StayOrLast false seen (x ∷ t) r
at_territories seen none x t r no_party ter rest =
    goes_on false seen x t r (λ l. passed_left false x l no_party (λ e. absurd (cc e))) (with_territory seen x ter ∙ sym none) rest

stay_or_last : (b : Bool) (seen t : List RecordValue) (r : RecordValue) → (b ≡ false → seen ≡ []) → StayOrLast b seen t r
stay_or_last b seen [] r h = by (is_party r) refl
  where
    by : (c : Bool) → is_party r ≡ c → StayOrLast b seen [] r
    by true e = inr (ap (λ (l : List RecordValue). seen ++ l) (party_left b r [] e) ∙ sym (with_party seen r e))
    by false e = inl (still_passed b r e)
stay_or_last b seen (x ∷ t) r h = by (is_party x) (is_a kinds.Ter x) b refl refl refl
    (stay_or_last true (seen ++ x ∷ []) t r (λ e. absurd (cc e))) (stay_or_last b seen t r h)
  where
    by : (party ter walk : Bool) → is_party x ≡ party → is_a kinds.Ter x ≡ ter → b ≡ walk
        → StayOrLast true (seen ++ x ∷ []) t r → StayOrLast b seen t r → StayOrLast b seen (x ∷ t) r
    by true ter walk p q w with_it rest = goes_on_party b seen x t r p with_it
    by false false walk p q w with_it rest =
        goes_on b seen x t r (λ l. passed_left b x l p (λ e. q)) (with_other seen x p q) rest
    by false true true p q w with_it rest =
        inl (at_end (t ++ r ∷ []) ∙ sym (at_end t))
      where
        at_end : (l : List RecordValue) → parties_left b (x ∷ l) ≡ []
        at_end l = ap (λ (c : Bool). parties_left c (x ∷ l)) w ∙ end_of_parties x l q
    by false true false p q w with_it rest =
        goes_on b seen x t r (λ l. passed_left b x l p (λ e. absurd (let no : true ≡ false = sym e ∙ w in cc no)))
        (with_territory seen x q ∙ sym (h w)) rest

-- ---- the rule on blocks

-- what the rule asks of a record, and of those before and after it
abbrev begins_over : RecordValue → Bool → List RecordValue → List RecordValue → Bool
begins_over x agreement before parties =
    agreement && is_a kinds.Ter x && begins_block before && have_side_over_whole parties

pub block_still_within : (t : List RecordValue) (r : RecordValue) (k : ℕ) (x : RecordValue)
    → is_agreement (t ++ r ∷ []) ≡ is_agreement t → k < length t → slice_get (t ++ r ∷ []) k ≡ Some x
    → breaks V11 t k x ≡ false → have_side_over_whole (last_parties (t ++ r ∷ [])) ≡ false
    → breaks V11 (t ++ r ∷ []) k x ≡ false
block_still_within t r k x agreement below there before within =
    by (stay_or_last false [] (drop (k + 1) t) r (λ e. refl)) (is_a kinds.Ter x) refl
  where
    further : drop (k + 1) (t ++ r ∷ []) ≡ drop (k + 1) t ++ r ∷ []
    further = drop-append-le (k + 1) t (r ∷ []) (omega (arith, below))

    next : suc k ≡ k + 1
    next = omega arith

    by : StayOrLast false [] (drop (k + 1) t) r → (ter : Bool) → is_a kinds.Ter x ≡ ter → breaks V11 (t ++ r ∷ []) k x ≡ false
    by (inl e) ter q =
        ap₂ (begins_over x (is_agreement (t ++ r ∷ []))) (take-append-le k t (r ∷ []) (omega (arith, below)))
        (ap parties_after further ∙ e)
        ∙ ap (λ (a : Bool). begins_over x a (take k t) (parties_after (drop (k + 1) t))) agreement ∙ before
    by (inr e) true q =
        let last : last_parties (t ++ r ∷ []) ≡ parties_on [] (drop (k + 1) t ++ r ∷ []) =
        since_territory [] (t ++ r ∷ []) k x there q ∙ ap (λ (n : ℕ). parties_on [] (drop n (t ++ r ∷ []))) next
        ∙ ap (parties_on []) further in
        and_false _ _ (ap have_side_over_whole (ap parties_after further ∙ e ∙ sym last) ∙ within)
    by (inr e) false q = and_left _ _ (and_left _ _ (and_false (is_agreement (t ++ r ∷ [])) (is_a kinds.Ter x) q))
