-- A transaction is added to an output of a split: HDR and GRH come before it where they weren't written.
use Rattle.std.proofs.Common.{◌≡◌, ◌<◌, ℕ, zero, suc, Bool, true, false, List, [], ◌∷◌, ◌++◌, Option, ap, subst, append_assoc}
use Rattle.std.proofs.Common.{arith}
use Rattle.std.specs.Prelude.{◌==◌, if◌then◌else◌}
use Rattle.std.proofs.Math.Dec.{eqb-suc-zero}
use Rattle.cwr_values.specs.declared.items.Item.{Item}
use Rattle.cwr_encode.specs.declared.encoders.Encoder.{Encoder}
use Rattle.cwr_parts.specs.declared.split_output.SplitOutput.{SplitOutput}
use Rattle.cwr_parts.specs.Steps.SplitOutputs.{MayPut, PutsOn, head_of, opening_of}
use Rattle.cwr_parts.proofs.lemmas.PutItems.{may_first, may_then, puts_more}

-- HDR is written first
pub opening_first : {W : Type 0} (opening : Item) (out : SplitOutput W) → out.transactions ≡ 0
    → opening_of opening out ≡ opening ∷ []
opening_first opening out e = ap (λ (n : ℕ). if n == 0 then opening ∷ [] else []) e

if_some : (n : ℕ) (opening : Item) → 0 < n → (if n == 0 then opening ∷ [] else []) ≡ []
if_some zero opening h = absurd (omega (arith, h))
if_some (suc n) opening h = ap (λ (b : Bool). if b then opening ∷ [] else []) (eqb-suc-zero n)

-- and never again
pub opening_once : {W : Type 0} (opening : Item) (out : SplitOutput W) → 0 < out.transactions → opening_of opening out ≡ []
opening_once opening out h = if_some out.transactions opening h

-- GRH is written where no group is open
pub head_first : {W : Type 0} (head : Item) (out : SplitOutput W) → out.in_group ≡ false → head_of head out ≡ head ∷ []
head_first head out e = ap (λ (b : Bool). if b then [] else head ∷ []) e

pub head_once : {W : Type 0} (head : Item) (out : SplitOutput W) → out.in_group ≡ true → head_of head out ≡ []
head_once head out e = ap (λ (b : Bool). if b then [] else head ∷ []) e

pub same_head : {W : Type 0} (head : Item) (out new : SplitOutput W) → new.in_group ≡ out.in_group
    → head_of head new ≡ head_of head out
same_head head out new e = ap (λ (b : Bool). if b then [] else head ∷ []) e

-- ---- the parts of what is written

apart : {W : Type 0} (contents : W → Option (List ℕ)) (xs ys zs : List Item) (e : Encoder W) → MayPut contents (xs ++ ys ++ zs) e
    → MayPut contents (xs ++ (ys ++ zs)) e
apart contents xs ys zs e may = subst (λ (l : List Item). MayPut contents l e) (append_assoc xs ys zs) may

pub may_begin : {W : Type 0} (contents : W → Option (List ℕ)) (xs ys zs : List Item) (e : Encoder W)
    → MayPut contents (xs ++ ys ++ zs) e → MayPut contents xs e
may_begin contents xs ys zs e may = may_first contents xs (ys ++ zs) e (apart contents xs ys zs e may)

pub may_enter : {W : Type 0} (contents : W → Option (List ℕ)) (failures : W → ℕ) (xs ys zs : List Item) (old new : Encoder W)
    → MayPut contents (xs ++ ys ++ zs) old → PutsOn contents failures xs old new → MayPut contents ys new
may_enter contents failures xs ys zs old new may p =
    may_first contents ys zs new (may_then contents failures xs (ys ++ zs) old new (apart contents xs ys zs old may) p)

pub may_add : {W : Type 0} (contents : W → Option (List ℕ)) (failures : W → ℕ) (xs ys zs : List Item) (old mid new : Encoder W)
    → MayPut contents (xs ++ ys ++ zs) old → PutsOn contents failures xs old mid → PutsOn contents failures ys mid new
    → MayPut contents zs new
may_add contents failures xs ys zs old mid new may p q =
    may_then contents failures ys zs mid new
    (may_then contents failures xs (ys ++ zs) old mid (apart contents xs ys zs old may) p) q

pub all_added : {W : Type 0} (contents : W → Option (List ℕ)) (failures : W → ℕ) (xs ys zs : List Item) (a b c d : Encoder W)
    → PutsOn contents failures xs a b → PutsOn contents failures ys b c → PutsOn contents failures zs c d
    → PutsOn contents failures (xs ++ ys ++ zs) a d
all_added contents failures xs ys zs a b c d p q r =
    puts_more contents failures (xs ++ ys) zs a c d (puts_more contents failures xs ys a b c p q) r
