-- Bytes that are found where the code reads them, and what comparisons say.
use Rattle.std.proofs.Common.{◌≡◌, ◌≢◌, ℕ, ◌+◌, ◌-◌, ◌%◌, ◌<◌, true, false, nat_eq, arith}
use Rattle.std.proofs.lemmas.Bool.{eqb-true, eqb-false}
use Rattle.player_desk.proofs.VoiceDesks.{VoiceDesk, Reader, EntryLeads, Listed}

-- a byte is found at a place
pub record Reads (r : Reader) (at byte : ℕ) : Type 0 where
  pub found : r.IsFound at
  pub is : r.before at ≡ byte

-- the entry of a label by a number
abbrev pub place_at : Reader → ℕ → ℕ → ℕ
place_at r label y = (r.layout.address label + y) % 65536

-- it is read as an entry
pub listed : {r : Reader} {Q : ℕ → Type 0} {d : VoiceDesk} (label y byte : ℕ) → Reads r (place_at r label y) byte →
    d.y ≡ y → ((b : ℕ) → b ≡ byte → Q b) → EntryLeads r ((r.layout.address label + d.y) % 65536) Q d
listed {r = r} label y byte reads e follows =
    rw e (Listed reads.found (follows (r.before (place_at r label y)) reads.is))

-- a byte that stands alone is read by its label
pub alone : {r : Reader} {Q : ℕ → Type 0} (label byte : ℕ) → Reads r (r.layout.address label) byte →
    ((b : ℕ) → b ≡ byte → Q b) → r.IsFound (r.layout.address label) × Q (r.before (r.layout.address label))
alone label byte reads follows = (reads.found, follows _ reads.is)

-- what a comparison's zero says of two bytes
pub compared_is : (a b : ℕ) → a < 256 → b < 256 → nat_eq ((a + (256 - b)) % 256) 0 ≡ true → a ≡ b
compared_is a b few small e = (let z = eqb-true ((a + (256 - b)) % 256) 0 e in omega (arith, z, few, small))

pub over_is : (a b : ℕ) → b < 256 → nat_eq ((a + (256 - b)) % 256) 0 ≡ false → a ≢ b
over_is a b small e same =
    let z = eqb-false ((a + (256 - b)) % 256) 0 e in
    z (omega (arith, same, small))
