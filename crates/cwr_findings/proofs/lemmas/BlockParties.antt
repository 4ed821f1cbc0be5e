-- The parties of a block, as a walk meets them.
use Rattle.std.proofs.Common.{◌≡◌, ℕ, suc, ◌+◌, ◌≤◌, Bool, true, false, cond, List, [], ◌∷◌, ◌++◌, length, take, drop, refl, sym}
use Rattle.std.proofs.Common.{ap, ◌∙◌, arith, append_assoc}
use Rattle.std.specs.Prelude.{◌||◌, ◌&&◌, not, Some, None, take_while, slice_get}
use Rattle.std.specs.List.{prefix_len, last_or}
use Rattle.std.proofs.lemmas.Bool.{or_left, or_right, or_from}
use Rattle.std.proofs.lemmas.List.{append-nil, drop_all}
use Rattle.std.proofs.lemmas.List.Sums.{take_while-cons}
use Rattle.cwr_fields.specs.declared.kinds.Kind.TheVariants as kinds
use Rattle.cwr_lines.specs.Format.Records.{RecordValue}
use Rattle.cwr_findings.specs.declared.rules.Rule.TheVariants.{V11}
use Rattle.cwr_findings.specs.Format.Findings.{breaks, begins_block, have_side_over_whole, is_a, is_agreement, is_party}
use Rattle.cwr_findings.specs.Format.Findings.{is_territory, in_blocks, parties_after}
use Rattle.cwr_findings.specs.Steps.Walks.{is_kind}
use Rattle.cwr_findings.proofs.lemmas.KindTests.{kind_of}
use Rattle.cwr_findings.proofs.lemmas.OneMore.{drop_more}

-- the parties that still come, where the walk is among the parties or still at the territories
abbrev pub parties_left : Bool → List RecordValue → List RecordValue
parties_left true rest = take_while is_party (in_blocks rest)
parties_left false rest = parties_after rest

pub none_left : (b : Bool) → parties_left b [] ≡ []
none_left true = refl
none_left false = refl

-- without the territories in front
abbrev without_territories : List RecordValue → List RecordValue
without_territories l = drop (prefix_len (is_a kinds.Ter) l) l

without_by : (b : Bool) (r : RecordValue) (l : List RecordValue) (n : ℕ)
    → drop (cond b (1 + n) 0) (r ∷ l) ≡ cond b (drop n l) (r ∷ l)
without_by true r l n = let one_more : 1 + n ≡ suc n = omega arith in ap (λ (m : ℕ). drop m (r ∷ l)) one_more
without_by false r l n = refl

without_one : (r : RecordValue) (l : List RecordValue)
    → without_territories (r ∷ l) ≡ cond (is_a kinds.Ter r) (without_territories l) (r ∷ l)
without_one r l = without_by (is_a kinds.Ter r) r l (prefix_len (is_a kinds.Ter) l)

in_block : (r : RecordValue) (rest : List RecordValue) (b : Bool) → (is_a kinds.Ter r || is_party r) ≡ b
    → in_blocks (r ∷ rest) ≡ cond b (r ∷ in_blocks rest) (in_blocks rest)
in_block r rest b e = ap (λ (c : Bool). cond c (r ∷ in_blocks rest) (in_blocks rest)) e

among : (r : RecordValue) (l : List RecordValue) (b : Bool) → is_party r ≡ b
    → take_while is_party (r ∷ l) ≡ cond b (r ∷ take_while is_party l) []
among r l b e = take_while-cons is_party r l ∙ ap (λ (c : Bool). cond c (r ∷ take_while is_party l) []) e

pub party_is_no_territory : (r : RecordValue) → is_a kinds.Ipa r ≡ true → is_a kinds.Ter r ≡ false
party_is_no_territory r h = ap (is_kind kinds.Ter) (kind_of kinds.Ipa r h)

pub party_left : (b : Bool) (r : RecordValue) (rest : List RecordValue) → is_a kinds.Ipa r ≡ true
    → parties_left b (r ∷ rest) ≡ r ∷ parties_left true rest
party_left true r rest h =
    ap (take_while is_party) (in_block r rest true (or_right (is_a kinds.Ter r) (is_party r) h)) ∙ among r (in_blocks rest) true h
party_left false r rest h =
    ap (λ (l : List RecordValue). take_while is_party (without_territories l))
    (in_block r rest true (or_right (is_a kinds.Ter r) (is_party r) h))
    ∙ ap (take_while is_party) (without_one r (in_blocks rest)
    ∙ ap (λ (c : Bool). cond c (without_territories (in_blocks rest)) (r ∷ in_blocks rest)) (party_is_no_territory r h))
    ∙ among r (in_blocks rest) true h

pub end_of_parties : (r : RecordValue) (rest : List RecordValue) → is_a kinds.Ter r ≡ true → parties_left true (r ∷ rest) ≡ []
end_of_parties r rest h =
    let no_party : is_a kinds.Ipa r ≡ false = ap (is_kind kinds.Ipa) (kind_of kinds.Ter r h) in
    ap (take_while is_party) (in_block r rest true (or_left (is_a kinds.Ter r) (is_party r) h))
    ∙ among r (in_blocks rest) false no_party

pub territory_left : (r : RecordValue) (rest : List RecordValue) → is_a kinds.Ter r ≡ true
    → parties_after (r ∷ rest) ≡ parties_after rest
territory_left r rest h =
    ap (λ (l : List RecordValue). take_while is_party (without_territories l))
    (in_block r rest true (or_left (is_a kinds.Ter r) (is_party r) h))
    ∙ ap (take_while is_party)
    (without_one r (in_blocks rest) ∙ ap (λ (c : Bool). cond c (without_territories (in_blocks rest)) (r ∷ in_blocks rest)) h)

pub other_left : (b : Bool) (r : RecordValue) (rest : List RecordValue) → is_a kinds.Ter r ≡ false → is_a kinds.Ipa r ≡ false
    → parties_left b (r ∷ rest) ≡ parties_left b rest
other_left true r rest no_ter no_party =
    ap (take_while is_party) (in_block r rest false (or_from (is_a kinds.Ter r) (is_party r) no_ter no_party))
other_left false r rest no_ter no_party =
    ap (λ (l : List RecordValue). take_while is_party (without_territories l))
    (in_block r rest false (or_from (is_a kinds.Ter r) (is_party r) no_ter no_party))

-- a walk that isn't among the parties yet passes a territory, and any other record that is no party
pub passed_left : (b : Bool) (r : RecordValue) (rest : List RecordValue) → is_a kinds.Ipa r ≡ false
    → (b ≡ true → is_a kinds.Ter r ≡ false) → parties_left b (r ∷ rest) ≡ parties_left b rest
passed_left true r rest no_party no_ter = other_left true r rest (no_ter refl) no_party
passed_left false r rest no_party no_ter = by (is_a kinds.Ter r) refl
  where
    by : (c : Bool) → is_a kinds.Ter r ≡ c → parties_left false (r ∷ rest) ≡ parties_left false rest
    by true e = territory_left r rest e
    by false e = other_left false r rest e no_party

-- ---- the parties seen, and those that are left

module _ (t : List RecordValue) (first i : ℕ) (seen : List RecordValue) (among_parties : Bool)
    (e : seen ++ parties_left among_parties (drop i t) ≡ parties_after (drop first t)) where
  pub all_seen : length t ≤ i → seen ≡ parties_after (drop first t)
  all_seen h =
      sym (append-nil seen) ∙ ap (λ (l : List RecordValue). seen ++ l)
      (sym (ap (parties_left among_parties) (drop_all i t h) ∙ none_left among_parties)) ∙ e

  pub one_more_seen : (r : RecordValue) → slice_get t i ≡ Some r → is_a kinds.Ipa r ≡ true
      → (seen ++ r ∷ []) ++ parties_left true (drop (i + 1) t) ≡ parties_after (drop first t)
  one_more_seen r there h =
      append_assoc seen (r ∷ []) (parties_left true (drop (i + 1) t))
      ∙ ap (λ (l : List RecordValue). seen ++ l)
      (sym (ap (parties_left among_parties) (drop_more t i r there) ∙ party_left among_parties r (drop (i + 1) t) h)) ∙ e

  pub end_seen : (r : RecordValue) → slice_get t i ≡ Some r → among_parties ≡ true → is_a kinds.Ter r ≡ true
      → seen ≡ parties_after (drop first t)
  end_seen r there now h =
      sym (append-nil seen)
      ∙ ap (λ (l : List RecordValue). seen ++ l) (sym (ap (λ (b : Bool). parties_left b (drop i t)) now
      ∙ ap (parties_left true) (drop_more t i r there) ∙ end_of_parties r (drop (i + 1) t) h)) ∙ e

  pub one_passed : (r : RecordValue) → slice_get t i ≡ Some r → is_a kinds.Ipa r ≡ false
      → (among_parties ≡ true → is_a kinds.Ter r ≡ false)
      → seen ++ parties_left among_parties (drop (i + 1) t) ≡ parties_after (drop first t)
  one_passed r there no_party no_ter =
      ap (λ (l : List RecordValue). seen ++ l) (sym (ap (parties_left among_parties) (drop_more t i r there)
      ∙ passed_left among_parties r (drop (i + 1) t) no_party no_ter)) ∙ e

-- ---- the rule on blocks

all_four : (g a b x : Bool) → g ≡ true → a ≡ true → b ≡ true → x ≡ (g && a && b && x)
all_four true true true x e f h = refl
all_four true true false x e f h = absurd (cc h)
all_four true false b x e f h = absurd (cc f)
all_four false a b x e f h = absurd (cc e)

-- a block's first territory is one of its territories, and so has the same parties after it
pub block_over_whole : (t : List RecordValue) (k : ℕ) (r : RecordValue) (after_territory : Bool) → slice_get t k ≡ Some r
    → is_agreement t ≡ true → is_a kinds.Ter r ≡ true
    → after_territory ≡ is_territory (last_or None (in_blocks (take k t))) → after_territory ≡ false
    → have_side_over_whole (parties_after (drop k t)) ≡ breaks V11 t k r
block_over_whole t k r after_territory there agreement ter known none =
    ap have_side_over_whole (ap parties_after (drop_more t k r there) ∙ territory_left r (drop (k + 1) t) ter)
    ∙ all_four (is_agreement t) (is_a kinds.Ter r) (begins_block (take k t))
    (have_side_over_whole (parties_after (drop (k + 1) t))) agreement ter (ap not (sym known ∙ none))
