-- How the log of a list grows by one write.
use Rattle.std.proofs.Common.{◌≡◌, ℕ, ◌+◌, ◌-◌, ◌<◌, ◌≤◌, min, List, [], ◌∷◌, ◌++◌}
use Rattle.std.proofs.Common.{length, take, refl, arith, length-append}
use Rattle.std.proofs.lemmas.List.{take-append-le, take_all, length-take}
use Rattle.cpu6502.specs.declared.log.SidWrite.{SidWrite}
use Rattle.cpu6502.specs.Log.{log_of}

-- a log with no room counts one more
pub log_of-full : (before : List SidWrite) (write : SidWrite) (beyond : ℕ) → length (take 512 before) ≡ 512 →
    beyond ≡ min (min (length before - 512) 4294967295 + 1) 4294967295 →
    record { writes = take 512 before; beyond = beyond } ≡ log_of (before ++ write ∷ [])
log_of-full before write beyond full count =
    let enough : 512 ≤ length before = omega (arith, length-take 512 before) in
    let same = take-append-le 512 before (write ∷ []) enough in
    let more : beyond ≡ min (length (before ++ write ∷ []) - 512) 4294967295 =
    omega (arith, length-append before (write ∷ [])) in
    rw (more, same) refl

-- a log with room keeps the write
pub log_of-room : (before : List SidWrite) (write : SidWrite) → length (take 512 before) < 512 →
    record { writes = take 512 before ++ write ∷ []; beyond = min (length before - 512) 4294967295 } ≡ log_of
    (before ++ write ∷ [])
log_of-room before write room =
    let short : length before < 512 = omega (arith, length-take 512 before) in
    let all = take_all 512 before (omega arith) in
    let all' = take_all 512 (before ++ write ∷ []) (omega (arith, length-append before (write ∷ []))) in
    let none : min (length before - 512) 4294967295 ≡ 0 = omega arith in
    let none' : min (length (before ++ write ∷ []) - 512) 4294967295 ≡ 0 =
    omega (arith, length-append before (write ∷ [])) in
    rw (all, all', none, none') refl
