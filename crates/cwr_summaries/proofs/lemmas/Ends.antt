-- The bytes of an input that was read to its end.
use Rattle.std.proofs.Common.{◌≡◌, ℕ, Bool, List, [], ◌∷◌, ◌++◌, Option, Some, None, sym, subst}
use Rattle.std.specs.Prelude.{IfOk, IfSome, OnOk, Result, Ok, Err}
use Rattle.std.specs.Io.KnownBytes.{Consumes, IsAtEnd, prepend_known}
use Rattle.cwr_digests.specs.Format.Digests.{HasBytes}
use Rattle.cwr_tools.specs.declared.verdicts.ToolFault.{ToolFault}
use Rattle.cwr_endings.specs.declared.judgements.Judgement.{Judgement}
use Rattle.cwr_summaries.specs.declared.summaries.Found.{Found}
use Rattle.cwr_summaries.specs.Steps.Rows.{IsFoundOf}

nothing_behind : (ahead left : List ℕ) → ahead ++ left ≡ [] → left ≡ []
nothing_behind [] left e = e
nothing_behind (x ∷ ahead) left e = absurd (cc e)

-- While it is read its bytes are known where all of them were; so at the end nothing is left, and what was counted is all.
pub bytes_known : (digests : Bool) (whole : Option (List ℕ)) (ahead : List ℕ) (left : Option (List ℕ)) (taken : List ℕ) (ahead_then : List ℕ)
    (left_then : Option (List ℕ)) (taken_then : List ℕ) (bytes : ℕ) (digest : Option (List ℕ)) → Consumes whole left taken
    → IfSome (prepend_known ahead left) (λ l. IsAtEnd (prepend_known ahead_then left_then)) → Consumes whole left_then taken_then
    → (IsAtEnd left_then → HasBytes digests whole bytes digest) → HasBytes digests whole bytes digest
bytes_known digests None ahead left taken ahead_then left_then taken_then bytes digest c end d has = tt
bytes_known digests (Some w) ahead None taken ahead_then left_then taken_then bytes digest c end d has = absurd c
bytes_known digests (Some w) ahead (Some l) taken ahead_then None taken_then bytes digest c end d has = absurd d
bytes_known digests (Some w) ahead (Some l) taken ahead_then (Some m) taken_then bytes digest c end d has = has (nothing_behind ahead_then m end)

-- so it is of what was found, where it was judged and read on to its end
pub found_bytes : (digests : Bool) (left : Option (List ℕ)) (judged : Result Judgement ToolFault) (rest : Result ℕ ToolFault) (bytes : ℕ)
    (digest : Option (List ℕ)) (E : Type 0) (found : Result Found ToolFault) → IsFoundOf judged rest found
    → IfOk found (λ f. (f.bytes ≡ bytes) × (f.digest ≡ digest)) → OnOk judged (OnOk rest E) → (E → HasBytes digests left bytes digest)
    → IfOk found (λ f. HasBytes digests left f.bytes f.digest)
found_bytes digests left judged rest bytes digest E (Err fault) of same end has = tt
found_bytes digests left (Err fault) rest bytes digest E (Ok f) of same end has = absurd (cc of)
found_bytes digests left (Ok judgement) (Err fault) bytes digest E (Ok f) of same end has = absurd (cc of)
found_bytes digests left (Ok judgement) (Ok n) bytes digest E (Ok f) of same end has =
    subst (λ (b : ℕ). HasBytes digests left b f.digest) (sym same.0)
    (subst (λ (d : Option (List ℕ)). HasBytes digests left bytes d) (sym same.1) (has end))
