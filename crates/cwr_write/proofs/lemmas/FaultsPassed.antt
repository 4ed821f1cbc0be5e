-- What a `?` hands on is the fault that it met.
use Rattle.std.proofs.Common.{◌≡◌, sym, subst}
use Rattle.std.specs.Prelude.{Result, Ok, Err, IfErr}
use Rattle.std.specs.Result.{IsErrAnd}

pub passed_on : {X E : Type 0} (result : Result X E) (fault : E) (P : E → Type 0) → IsErrAnd result (λ e. e ≡ fault) → P fault
    → IfErr result P
passed_on (Ok x) fault P e h = tt
passed_on (Err f) fault P e h = subst P (sym e) h
