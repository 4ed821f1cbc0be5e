-- A record that is neither a publisher, nor a writer, nor a territory leaves most of what is kept as it is.
use Prim.Native.String.{String}
use Rattle.std.proofs.Common.{◌≡◌, ℕ, Bool, false, cond, List, [], ◌∷◌, ◌++◌, sym, ap, ◌∙◌, arith}
use Rattle.std.specs.Prelude.{◌||◌, count_by, filter}
use Rattle.std.specs.List.{list_any, sum_by}
use Rattle.std.proofs.lemmas.Bool.{or_from, or_parts}
use Rattle.cwr_fields.specs.declared.kinds.Kind.TheVariants as kinds
use Rattle.cwr_lines.specs.Format.Records.{RecordValue}
use Rattle.cwr_findings.specs.Format.Findings.{is_a, is_owner, share_of}
use Rattle.cwr_findings.specs.Steps.Walks.{capped}
use Rattle.cwr_findings.proofs.lemmas.RuleTests.{or_none}
use Rattle.cwr_advice.specs.declared.owners.Owned.{Owned}
use Rattle.cwr_advice.specs.Format.Rules.{is_publisher, is_territory, is_writer}
use Rattle.cwr_advice.specs.Steps.Kept.{AreAllCollected}
use Rattle.cwr_advice.proofs.lemmas.CountedFacts.{any_more, counted_more, kept_sum_more}

-- ---- what it isn't

other_parts : (r : RecordValue) → is_owner r ≡ false
    → (is_publisher r ≡ false) × (is_a kinds.Swr r ≡ false) × (is_a kinds.Owr r ≡ false)
other_parts r h =
    let last = or_parts (is_publisher r || is_a kinds.Swr r) (is_a kinds.Owr r) h in
    let first = or_parts (is_publisher r) (is_a kinds.Swr r) last.0 in
    (first.0, first.1, last.1)

pub no_publisher : (r : RecordValue) → is_owner r ≡ false → is_publisher r ≡ false
no_publisher r h = (other_parts r h).0

pub no_writer : (r : RecordValue) → is_owner r ≡ false → is_writer r ≡ false
no_writer r h = let parts = other_parts r h in or_from (is_a kinds.Swr r) (is_a kinds.Owr r) parts.1 parts.2

-- ---- what stays

-- whether some passes
pub any_same : (p : RecordValue → Bool) (rs : List RecordValue) (r : RecordValue) (a : Bool) → a ≡ list_any p rs → p r ≡ false
    → a ≡ list_any p (rs ++ r ∷ [])
any_same p rs r a h none = sym (or_none a) ∙ any_more p rs r a false h (sym none)

-- how many pass
pub count_same : (p : RecordValue → Bool) (rs : List RecordValue) (r : RecordValue) (n : ℕ) → n ≡ capped (count_by p rs)
    → p r ≡ false → n ≡ capped (count_by p (rs ++ r ∷ []))
count_same p rs r n h none = counted_more p rs r n 0 n h (sym (ap (λ (b : Bool). cond b 1 0) none)) (omega (arith, h))

-- the shares in a right of those that are kept
pub sum_same : (right : String) (keep : RecordValue → Bool) (rs : List RecordValue) (r : RecordValue) (n : ℕ)
    → n ≡ capped (sum_by (share_of right) (filter keep rs)) → keep r ≡ false
    → n ≡ capped (sum_by (share_of right) (filter keep (rs ++ r ∷ [])))
sum_same right keep rs r n h none =
    kept_sum_more right keep rs r n 0 n h (sym (ap (λ (b : Bool). cond b (share_of right r) 0) none)) (omega (arith, h))

-- what is collected
pub collected_same : (rs : List RecordValue) (r : RecordValue) (s : Owned) → AreAllCollected rs s → is_territory r ≡ false
    → AreAllCollected (rs ++ r ∷ []) s
collected_same rs r s h none = record {
  performing = sum_same "pr collection share" is_territory rs r s.performing h.performing none;
  mechanical = sum_same "mr collection share" is_territory rs r s.mechanical h.mechanical none;
  synchronization = sum_same "sr collection share" is_territory rs r s.synchronization h.synchronization none;
}
