-- A fault that is handed on has the cause that it had.
use Rattle.std.proofs.Common.{◌≡◌, Result, Ok, Err, IfErr, IsErrAnd, sym, subst}
use Rattle.song_pack.specs.declared.faults.PackFault.{PackFault}

pub err_caused : {X : Type 0} (P : PackFault → Type 0) (fault : PackFault) (result : Result X PackFault) →
    IsErrAnd result (λ y. y ≡ fault) → P fault → IfErr result P
err_caused P fault (Ok x) h p = tt
err_caused P fault (Err y) h p = subst P (sym h) p
