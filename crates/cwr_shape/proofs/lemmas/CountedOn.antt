-- What is counted of some records with a whole transaction after them.
use Rattle.std.proofs.Common.{◌≡◌, ℕ, suc, ◌+◌, true, List, [], ◌∷◌, ◌++◌, length, sym, ap, subst, ◌∙◌, arith, append_assoc}
use Rattle.std.proofs.Common.{append-nil}
use Rattle.std.specs.List.{list_all}
use Rattle.std.proofs.lemmas.Bool.{and_parts}
use Rattle.cwr_fields.specs.declared.codes.TransactionType.{TransactionType}
use Rattle.cwr_shape.specs.declared.symbols.Symbol.{Symbol}
use Rattle.cwr_shape.specs.declared.tallies.Counts.{Counts}
use Rattle.cwr_shape.specs.Format.Shapes.{IsShape}
use Rattle.cwr_shape.specs.Format.NextSymbols.{open_type, counts_of, type_after}
use Rattle.cwr_shape.specs.Steps.Counting.{counts_with, counts_with_header, counts_with_other}
use Rattle.cwr_shape.proofs.lemmas.OneMore.{open_type-snoc, counts-snoc}
use Rattle.cwr_shape.proofs.lemmas.TransactionNumbers.{is_inner, headed_shape, inner_symbol}

-- in a group of the type, with so many groups, after the first k records of transaction j
pub record Inside (ty : TransactionType) (groups j k : ℕ) (xs : List Symbol) : Type 0 where
  pub same_type : open_type xs ≡ ty
  pub groups_counted : (counts_of xs).groups ≡ groups
  pub in_group_counted : (counts_of xs).in_group ≡ j + 1
  pub counted_after : (counts_of xs).after_header + 1 ≡ k

pub inside_header : (ty : TransactionType) (xs : List Symbol) (s : Symbol) → open_type xs ≡ ty
    → ((c : Counts) → counts_with ty c s ≡ counts_with_header c) → type_after ty s ≡ ty
    → Inside ty (counts_of xs).groups (counts_of xs).in_group 1 (xs ++ s ∷ [])
inside_header ty xs s e counts same =
    let on : counts_of (xs ++ s ∷ []) ≡ counts_with_header (counts_of xs) =
    sym (counts-snoc xs s) ∙ ap (λ (t : TransactionType). counts_with t (counts_of xs) s) e ∙ counts (counts_of xs) in
    record {
      same_type = open_type-snoc xs s ∙ ap (λ (t : TransactionType). type_after t s) e ∙ same;
      groups_counted = ap (λ (c : Counts). c.groups) on;
      in_group_counted = ap (λ (c : Counts). c.in_group) on;
      counted_after = ap (λ (c : Counts). c.after_header + 1) on;
    }

pub inside_more : (ty : TransactionType) (groups j k : ℕ) (xs : List Symbol) (s : Symbol) → Inside ty groups j k xs
    → is_inner ty s ≡ true → Inside ty groups j (k + 1) (xs ++ s ∷ [])
inside_more ty groups j k xs s h inner =
    let here = inner_symbol ty (counts_of xs) s inner in
    let on : counts_of (xs ++ s ∷ []) ≡ counts_with_other (counts_of xs) =
    sym (counts-snoc xs s) ∙ ap (λ (t : TransactionType). counts_with t (counts_of xs) s) h.same_type ∙ here.counts in
    record {
      same_type = open_type-snoc xs s ∙ ap (λ (t : TransactionType). type_after t s) h.same_type ∙ here.same_type;
      groups_counted = ap (λ (c : Counts). c.groups) on ∙ h.groups_counted;
      in_group_counted = ap (λ (c : Counts). c.in_group) on ∙ h.in_group_counted;
      counted_after = ap (λ (c : Counts). c.after_header + 1) on ∙ ap (λ (n : ℕ). n + 1) h.counted_after;
    }

inside_all : (ty : TransactionType) (groups j k : ℕ) (xs ys : List Symbol) → Inside ty groups j k xs
    → list_all (is_inner ty) ys ≡ true → Inside ty groups j (k + length ys) (xs ++ ys)
inside_all ty groups j k xs [] h a =
    subst (Inside ty groups j (k + 0)) (sym (append-nil xs)) (subst (λ (n : ℕ). Inside ty groups j n xs) (omega arith) h)
inside_all ty groups j k xs (y ∷ ys) h a =
    let p = and_parts (is_inner ty y) (list_all (is_inner ty) ys) a in
    let on : Inside ty groups j ((k + 1) + length ys) ((xs ++ y ∷ []) ++ ys) =
    inside_all ty groups j (k + 1) (xs ++ y ∷ []) ys (inside_more ty groups j k xs y h p.0) p.1 in
    subst (Inside ty groups j (k + suc (length ys))) (append_assoc xs (y ∷ []) ys)
    (subst (λ (n : ℕ). Inside ty groups j n ((xs ++ y ∷ []) ++ ys)) (omega arith) on)

-- after a whole transaction of the open group
pub counted_after_transaction : (ty : TransactionType) (xs t : List Symbol) → open_type xs ≡ ty → IsShape ty t
    → Inside ty (counts_of xs).groups (counts_of xs).in_group (length t) (xs ++ t)
counted_after_transaction ty xs t e shape =
    let h = headed_shape ty t shape in
    let on : Inside ty (counts_of xs).groups (counts_of xs).in_group (1 + length h.rest) ((xs ++ h.head ∷ []) ++ h.rest)
    = inside_all ty (counts_of xs).groups (counts_of xs).in_group 1 (xs ++ h.head ∷ []) h.rest
    (inside_header ty xs h.head e h.counts h.same_type) h.inner in
    let same : (xs ++ h.head ∷ []) ++ h.rest ≡ xs ++ t =
    append_assoc xs (h.head ∷ []) h.rest ∙ ap (λ (l : List Symbol). xs ++ l) (sym h.whole) in
    subst (Inside ty (counts_of xs).groups (counts_of xs).in_group (length t)) same
    (subst (λ (n : ℕ). Inside ty (counts_of xs).groups (counts_of xs).in_group n ((xs ++ h.head ∷ []) ++ h.rest))
    (omega (arith, ap length h.whole)) on)
