-- What of a voice's desk stands while its own bytes change, and a byte that the pointer finds.
use Rattle.std.proofs.Common.{◌≡◌, ◌≢◌, ℕ, ◌+◌, ◌*◌, ◌/◌, ◌%◌, ◌<◌, ◌∙◌}
use Rattle.play_model.specs.State.{Playing}
use Rattle.play_model.specs.TickStep.{tempo_of}
use Rattle.player_memory.specs.declared.labels.TheConstants.{LENT, TEMPO}
use Rattle.player_memory.specs.Fetching.{AreHalves}
use Rattle.player_desk.proofs.VoiceDesks.{VoiceDesk, Reader}
use Rattle.player_desk.proofs.Views.{Shared}
use Rattle.player_desk.proofs.Reading.{Reads}

-- all but a voice's own bytes stands: what the voices share, the other tempos, that no command is lent, the registers
pub record Around (r : Reader) (s : Playing) (d m : VoiceDesk) : Type 0 where
  pub common : Shared r.layout.holds s.common m.shared
  pub tempos : (its : ℕ) → its < 3 → its ≢ r.voice → m.shared (TEMPO + 7 * its) ≡ tempo_of (its + 1) s.common
  pub none_lent : m.shared LENT ≡ 0
  pub sid : m.sid ≡ d.sid

-- the same on a desk with the same bytes that no voice owns, and the same registers
pub around_on : {r : Reader} {s : Playing} {d m n : VoiceDesk} → n.shared ≡ m.shared → n.sid ≡ m.sid →
    Around r s d m → Around r s d n
around_on shared sid at = record {
  common = rw shared at.common;
  tempos = rw shared at.tempos;
  none_lent = rw shared at.none_lent;
  sid = sid ∙ at.sid;
}

-- the pointer finds it
pub at_pointer : (r : Reader) (low high place y byte : ℕ) → AreHalves low high place →
    Reads r ((place % 256 + 256 * (place / 256) + y) % 65536) byte → Reads r ((low + 256 * high + y) % 65536) byte
at_pointer r low high place y byte halves reads =
    let low_is = halves.low_is in
    let high_is = halves.high_is in
    rw (low_is, high_is) reads
