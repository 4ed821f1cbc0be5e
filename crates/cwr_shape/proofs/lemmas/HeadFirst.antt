-- A transaction begins with its header and has no other.
use Rattle.std.proofs.Common.{◌≡◌, ℕ, zero, suc, ◌<◌, true, List, [], ◌∷◌, ◌++◌, refl, ap, ◌∙◌, arith}
use Rattle.std.specs.Prelude.{◌==◌, slice_index_or}
use Rattle.std.specs.List.{list_all}
use Rattle.cwr_fields.specs.declared.codes.TransactionType.{TransactionType}
use Rattle.cwr_fields.specs.declared.codes.TransactionType.TheVariants.{Agreement, NewWork, RevisedWork, Acknowledgement}
use Rattle.cwr_fields.specs.declared.kinds.Kind.TheVariants as kinds
use Rattle.cwr_shape.specs.declared.symbols.Symbol.{Symbol}
use Rattle.cwr_shape.specs.declared.symbols.Symbol.TheVariants.{Plain, Grh}
use Rattle.cwr_shape.specs.Format.Shapes.{Pattern, one_of, ◌then◌, many, carrying, Matches, IsShape, a, some, block, publisher}
use Rattle.cwr_shape.specs.Format.Shapes.{writer, tail_record, copy}
use Rattle.cwr_shape.proofs.lemmas.PrefixFree.{only, matched_pass}

-- 0 for what stands around transactions, 1 for the header of the type, 2 for any other record
abbrev pub part_class : TransactionType → Symbol → ℕ
part_class ty (Grh t) = 0
part_class ty (Plain kinds.Hdr) = 0
part_class ty (Plain kinds.Grt) = 0
part_class ty (Plain kinds.Trl) = 0
part_class Agreement (Plain kinds.Agr) = 1
part_class NewWork (Plain kinds.Nwr) = 1
part_class RevisedWork (Plain kinds.Rev) = 1
part_class Acknowledgement (Plain kinds.Ack) = 1
part_class ty s = 2

pub among_one : (s t : Symbol) (i : ℕ) → i < 1 → t ≡ slice_index_or (s ∷ []) i t → t ≡ s
among_one s t zero h e = e
among_one s t (suc i) h e = absurd (omega arith)

-- what a pattern of one symbol and then another matches
pub rest_after_head : (s : Symbol) (p : Pattern) (xs : List Symbol) → Matches (one_of (s ∷ []) then p) xs
    → (rest : List Symbol) × (xs ≡ s ∷ rest) × Matches p rest
rest_after_head s p xs m =
    let same : m.3.0 ≡ s = among_one s m.3.0 m.3.1.0 m.3.1.1.0 m.3.1.1.1 in
    (m.1, m.2 ∙ ap (λ (front : List Symbol). front ++ m.1) (m.3.2 ∙ ap (λ (u : Symbol). u ∷ []) same), m.4)

-- a transaction's records are its header and later ones
pub record HeadFirst (ty : TransactionType) (xs : List Symbol) : Type 0 where
  pub head : Symbol
  pub rest : List Symbol
  pub whole : xs ≡ head ∷ rest
  pub is_head : part_class ty head ≡ 1
  pub are_later : list_all (λ s. part_class ty s == 2) rest ≡ true

headed : (ty : TransactionType) (s : Symbol) (p : Pattern) (xs : List Symbol) → part_class ty s ≡ 1
    → only (λ t. part_class ty t == 2) p ≡ true → Matches (one_of (s ∷ []) then p) xs → HeadFirst ty xs
headed ty s p xs h k m =
    let b = rest_after_head s p xs m in
    record { head = s; rest = b.0; whole = b.1; is_head = h; are_later = matched_pass (λ t. part_class ty t == 2) p k b.0 b.2 }

pub head_first : (ty : TransactionType) (xs : List Symbol) → IsShape ty xs → HeadFirst ty xs
unfolding only
head_first Agreement xs m = headed Agreement (Plain kinds.Agr) (carrying (some block)) xs refl refl m
head_first NewWork xs m =
    headed NewWork (Plain kinds.Nwr) (carrying (many publisher then some writer then many tail_record)) xs refl refl m
head_first RevisedWork xs m =
    headed RevisedWork (Plain kinds.Rev) (carrying (many publisher then some writer then many tail_record)) xs refl refl m
head_first Acknowledgement xs m = headed Acknowledgement (Plain kinds.Ack) (many (a kinds.Msg) then copy) xs refl refl m
