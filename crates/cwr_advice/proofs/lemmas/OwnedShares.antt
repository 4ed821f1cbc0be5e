-- What a record owns of a work, read once.
use Rattle.std.proofs.Common.{◌≡◌, ℕ, ◌+◌, Bool, true, false, cond, refl, ap, ap₂, ◌∙◌}
use Rattle.std.specs.Prelude.{nat_lt, ◌&&◌}
use Rattle.cwr_lines.specs.Format.Records.{RecordValue}
use Rattle.cwr_fields.specs.declared.kinds.Kind.TheVariants as kinds
use Rattle.cwr_findings.specs.Format.Findings.{is_a, is_owner, share_of}
use Rattle.cwr_advice.specs.declared.owners.Owned.{Owned}
use Rattle.cwr_advice.specs.Format.Rules.{is_owning_publisher, is_writer, owns_shares}
use Rattle.cwr_advice.specs.Steps.Facts.{AreOwnedBy}
use Rattle.cwr_advice.proofs.lemmas.AdvisedFields.{writer_owns}

some_if : (b : Bool) (x y z : ℕ) → nat_lt 0 (cond b x 0 + cond b y 0 + cond b z 0) ≡ (b && nat_lt 0 (x + y + z))
some_if true x y z = refl
some_if false x y z = refl

-- it is something where the record owns shares
pub owns_something : (r : RecordValue) (s : Owned) → AreOwnedBy r s
    → nat_lt 0 (s.performing + s.mechanical + s.synchronization) ≡ owns_shares r
owns_something r s h =
    ap (nat_lt 0) (ap₂ (λ (a b : ℕ). a + b) (ap₂ (λ (a b : ℕ). a + b) h.performing h.mechanical) h.synchronization)
    ∙ some_if (is_owner r) (share_of "pr share" r) (share_of "mr share" r) (share_of "sr share" r)

if_writer : (w o : Bool) (n : ℕ) → (w ≡ true → o ≡ true) → cond w (cond o n 0) 0 ≡ cond w n 0
if_writer true true n h = refl
if_writer true false n h = absurd (let no : false ≡ true = h refl in cc no)
if_writer false o n h = refl

-- what a writer owns
pub owned_if_writer : (r : RecordValue) (s : Owned) (w : Bool) (n : ℕ) → AreOwnedBy r s → w ≡ is_writer r
    → n ≡ cond w s.performing 0 → n ≡ cond (is_writer r) (share_of "pr share" r) 0
owned_if_writer r s w n h e same =
    same ∙ ap₂ (λ (b : Bool) (m : ℕ). cond b m 0) e h.performing
    ∙ if_writer (is_writer r) (is_owner r) (share_of "pr share" r) (writer_owns r)

-- a publisher whom the submitter controls owns shares
pub publisher_owns_some : (r : RecordValue) (s : Owned) (a b : Bool) → AreOwnedBy r s → a ≡ is_a kinds.Spu r
    → b ≡ nat_lt 0 (s.performing + s.mechanical + s.synchronization) → (a && b) ≡ is_owning_publisher r
publisher_owns_some r s a b h e f = ap₂ (λ (x y : Bool). x && y) e (f ∙ owns_something r s h)
