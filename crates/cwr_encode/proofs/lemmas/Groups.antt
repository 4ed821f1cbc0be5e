-- What the calls around groups know: the numbers of GRH and GRT, and what bars them.
use Rattle.std.proofs.Common.{◌≡◌, ℕ, Bool, true, false, true≢false, List, [], ◌∷◌, ◌++◌, Option, sym, ap, subst, ◌∙◌}
use Rattle.std.proofs.Common.{append_assoc}
use Rattle.std.specs.Prelude.{◌↔◌, unwrap_or, Err}
use Rattle.cwr_fields.specs.declared.kinds.Kind.{Kind}
use Rattle.cwr_fields.specs.declared.kinds.Kind.TheVariants as kinds
use Rattle.cwr_lines.specs.Format.Records.{RecordValue}
use Rattle.cwr_shape.specs.declared.symbols.Symbol.{Symbol}
use Rattle.cwr_shape.specs.declared.symbols.Symbol.TheVariants.{Plain, Grh}
use Rattle.cwr_shape.specs.declared.tallies.Bar.{Bar}
use Rattle.cwr_shape.specs.declared.tallies.Bar.TheVariants.{Misplaced, Limit}
use Rattle.cwr_shape.specs.Format.Numbers.{symbol_kind, number_in, IsNumberAt}
use Rattle.cwr_shape.specs.Format.Outlines.{Continues}
use Rattle.cwr_shape.specs.Format.AnyTransmission.{Any}
use Rattle.cwr_shape.specs.Format.NextSymbols.{MayCome, IsBarred, open_type, counts_of}
use Rattle.cwr_shape.specs.Steps.Tallies.{TallyValue, IsTallyOf}
use Rattle.cwr_shape.specs.Format.ExpectedNumbers.{expected_numbers}
use Rattle.cwr_shape.proofs.lemmas.NumbersAreCounted.{numbers_counted}
use Rattle.cwr_values.specs.Format.Values.{symbol_of, symbol_by, type_of}
use Rattle.cwr_values.specs.Format.Begins.{numbers_after}
use Rattle.cwr_encode.specs.Format.Encoders.{reached, IsBetween, MayBeginGroup, JudgesGroup, IsInGroup, JudgesFoot}
use Rattle.cwr_encode.specs.Steps.Encoders.{fault_of_bar}
use Rattle.cwr_encode.specs.declared.encoders.Reached.{Reached}
use Rattle.cwr_encode.specs.declared.encoders.EncodeFault.TheVariants.{Incomplete}
use Rattle.cwr_encode.proofs.lemmas.Comes.{head_goes, foot_comes}

-- the number that is expected is that of each transmission that continues so
pub number_next : (xs : List Symbol) (s : Symbol) (kind : Kind) (j : ℕ) (n : Option ℕ) → IsNumberAt xs kind j n
    → symbol_kind s ≡ kind → Continues Any (xs ++ s ∷ []) → n ≡ number_in kind j (numbers_after xs kind)
number_next xs s kind j n at k g =
    let split = g.3.1 ∙ append_assoc xs (s ∷ []) g.3.0 in
    at g.0 s g.3.0 g.1 split k
    ∙ ap (number_in kind j) (numbers_counted g.0 xs s g.3.0 g.1 split ∙ ap (expected_numbers (open_type xs) (counts_of xs)) k)

-- a GRH record's symbol has its type
pub head_symbol : (r : RecordValue) → r.kind ≡ kinds.Grh → symbol_of r ≡ Grh (type_of r)
head_symbol r e = ap (λ (k : Kind). symbol_by k r) e

pub head_barred : (t : TallyValue) (xs : List Symbol) (r : RecordValue) (s : Symbol) (bar : Bar) → IsTallyOf t xs
    → MayBeginGroup (reached xs) → r.kind ≡ kinds.Grh → s ≡ symbol_of r → IsBarred t.limits xs s bar
    → JudgesGroup t.limits r xs (Err (fault_of_bar bar))
head_barred t xs r s Misplaced st m k e b =
    absurd
    (b (subst (λ (u : Symbol). Continues Any (xs ++ u ∷ [])) (sym (e ∙ head_symbol r k)) (head_goes t xs (type_of r) st m)))
head_barred t xs r s (Limit limit) st m k e b = (m, k, tt, subst (λ (u : Symbol). IsBarred t.limits xs u (Limit limit)) e b)

head_numbers_of : (xs : List Symbol) (k : Kind) (n : ℕ) → k ≡ kinds.Grh
    → n ≡ unwrap_or (number_in kinds.Grh 3 (numbers_after xs kinds.Grh)) 0 → n ∷ [] ≡ numbers_after xs k
head_numbers_of xs k n e f = ap (λ (m : ℕ). m ∷ []) f ∙ ap (numbers_after xs) (sym e)

pub head_numbers : (xs : List Symbol) (r : RecordValue) (n : ℕ) → r.kind ≡ kinds.Grh
    → n ≡ unwrap_or (number_in kinds.Grh 3 (numbers_after xs kinds.Grh)) 0 → n ∷ [] ≡ numbers_after xs r.kind
head_numbers xs r n e f = head_numbers_of xs r.kind n e f

three_same : (a b d e m n : ℕ) → a ≡ b → d ≡ e → m ≡ n → a ∷ d ∷ m ∷ [] ≡ b ∷ e ∷ n ∷ []
three_same a b d e m n x y z = cc (x, y, z)

pub foot_numbers : (xs : List Symbol) (r : RecordValue) (a b d : ℕ) → r.kind ≡ kinds.Grt
    → a ≡ unwrap_or (number_in kinds.Grt 2 (numbers_after xs kinds.Grt)) 0
    → b ≡ unwrap_or (number_in kinds.Grt 3 (numbers_after xs kinds.Grt)) 0
    → d ≡ unwrap_or (number_in kinds.Grt 4 (numbers_after xs kinds.Grt)) 0 → a ∷ b ∷ d ∷ [] ≡ numbers_after xs r.kind
foot_numbers xs r a b d e x y z = three_same _ _ _ _ _ _ x y z ∙ ap (numbers_after xs) (sym e)

pub in_group : (xs : List Symbol) (at : Reached) (b : Bool) → at ≡ reached xs → (b ≡ true) ↔ IsInGroup at → b ≡ true
    → IsInGroup (reached xs)
in_group xs at b e t h = subst IsInGroup e (t.0 h)

pub not_in_group : (xs : List Symbol) (at : Reached) (b : Bool) → at ≡ reached xs → (b ≡ true) ↔ IsInGroup at → b ≡ false
    → ¬ IsInGroup (reached xs)
not_in_group xs at b e t h k = true≢false (sym (t.1 (subst IsInGroup (sym e) k)) ∙ h)

pub may_begin : (xs : List Symbol) (at : Reached) (b : Bool) → at ≡ reached xs → (b ≡ true) ↔ MayBeginGroup at → b ≡ true
    → MayBeginGroup (reached xs)
may_begin xs at b e t h = subst MayBeginGroup e (t.0 h)

pub foot_incomplete : (t : TallyValue) (xs : List Symbol) (r : RecordValue) → IsTallyOf t xs → IsBetween xs
    → IsInGroup (reached xs) → r.kind ≡ kinds.Grt → ¬ MayCome t.limits xs (Plain kinds.Grt)
    → JudgesFoot t.limits r xs (Err Incomplete)
foot_incomplete t xs r st between inside k barred = (inside, k, λ h. barred (foot_comes t xs st (between h)))
