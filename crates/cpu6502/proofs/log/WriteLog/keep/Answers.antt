use Rattle.std.proofs.Common.{◌≡◌, ℕ, ◌+◌, ◌-◌, ◌<◌, ◌≤◌, length, min, take, arith, ap, refl}
use Rattle.std.proofs.lemmas.Bool.{false≢true}
use Rattle.cpu6502.proofs.Logs.{log_of-full, log_of-room}
use Rattle.cpu6502.proofs.log.WriteLog.keep.Goals as goal

below_full : (n : ℕ) → n ≤ 512 → (n ≡ 512 → ⊥) → n < 512
below_full n fits apart = omega arith

pub returns-then-is_full : goal.returns-then-is_full
returns-then-is_full c = λ before is.
    let kept : c.args.self.now.writes ≡ take 512 before = ap (λ log. log.writes) is in
    let counted : c.args.self.now.beyond ≡ min (length before - 512) 4294967295 = ap (λ log. log.beyond) is in
    let now_full : length c.args.self.now.writes ≡ 512 = c.if-is_full.ensures.full.0 refl in
    let full : length (take 512 before) ≡ 512 = rw kept at now_full in
    let count : c.saturating_add-self.result ≡ min (min (length before - 512) 4294967295 + 1) 4294967295 =
    rw counted at c.saturating_add-self.ensures in
    rw kept (log_of-full before c.args.write c.saturating_add-self.result full count)

pub returns-else-is_full : goal.returns-else-is_full
returns-else-is_full c = λ before is.
    let kept : c.args.self.now.writes ≡ take 512 before = ap (λ log. log.writes) is in
    let counted : c.args.self.now.beyond ≡ min (length before - 512) 4294967295 = ap (λ log. log.beyond) is in
    let now_room : length c.args.self.now.writes < 512 =
    below_full (length c.args.self.now.writes) c.if-is_full.ensures.fits
    (λ full. false≢true (c.if-is_full.ensures.full.1 full)) in
    let room : length (take 512 before) < 512 = rw kept at now_room in
    rw (c.push.ensures, kept, counted) (log_of-room before c.args.write room)
