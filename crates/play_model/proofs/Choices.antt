-- A value that is chosen by a test, or by a channel.
use Rattle.std.specs.Prelude.{◌==◌, if◌then◌else◌}
use Rattle.std.proofs.Common.{ℕ, Bool, cond}
use Rattle.std.proofs.lemmas.Bool.{cond_both}

-- what holds of both sides holds of the one that is chosen
pub chosen : {X : Type 0} (P : X → Type 0) (z : Bool) (x y : X) → P x → P y → P (cond z x y)
chosen P z x y p q = cond_both z x y P (λ h. p) (λ h. q)

-- and what holds of all three, of the one that is chosen by a channel
pub by_channel : {X : Type 0} (P : X → Type 0) (channel : ℕ) (x y z : X) → P x → P y → P z →
    P (if channel == 1 then x else if channel == 2 then y else z)
by_channel P channel x y z p q r =
    chosen P (channel == 1) x (if channel == 2 then y else z) p (chosen P (channel == 2) y z q r)
