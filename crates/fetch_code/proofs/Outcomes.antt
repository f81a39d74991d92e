-- What the code that fetches a row leaves, and where: at its end, or where an option leaves the pulse step out.
use Rattle.std.proofs.Common.{◌≡◌, ℕ, ◌+◌, true, false, nat_eq}
use Rattle.std.proofs.Common.{List}
use Rattle.song_model.specs.declared.orders.Order.{Order}
use Rattle.play_model.specs.LookUps.{LookUps}
use Rattle.play_model.specs.State.{Voice, Playing}
use Rattle.play_model.specs.TickStep.{tempo_of}
use Rattle.scopes.specs.Desk.{Layout}
use Rattle.player_memory.specs.declared.labels.TheConstants.{ORDER_LOW, ORDER_HIGH}
use Rattle.player_memory.specs.Fetching.{SongStands}
use Rattle.player_desk.proofs.VoiceDesks.{Either}
use Rattle.player_desk.proofs.Laws.{VoiceDesk, Reader, Ways, Fields}
use Rattle.player_text.specs.declared.joints.TheConstants.{SOUNDS, PULSED}
use Rattle.fetch_code.specs.FetchBlock.{left_out}
use Rattle.player_desk.proofs.Laws.{Around}

-- this voice stands, with its place in its song; it has the orderlist that it had
pub record Fetched (r : Reader) (look : LookUps) (packed : ℕ → List ℕ) (order : Order) (s : Playing) (v : Voice)
    (d m : VoiceDesk) : Type 0 where
  pub fields : Fields r.layout.holds v (tempo_of (r.voice + 1) s.common) m.own
  pub around : Around r s d m
  pub order_low : m.own ORDER_LOW ≡ d.own ORDER_LOW
  pub order_high : m.own ORDER_HIGH ≡ d.own ORDER_HIGH
  pub song : SongStands r.layout look packed order v m.own

-- at the end, and at PULSED, the pulse step goes on; SOUNDS is left where it is left out
abbrev pub fetch_ways : Layout → Voice → (VoiceDesk → Type 0) → Ways
fetch_ways layout v Q = record {
  Done = λ m. (left_out layout v ≡ false) × Q m;
  Left = λ name m. Either (nat_eq name SOUNDS) ((left_out layout v ≡ true) × Q m)
      (Either (nat_eq name PULSED) ((left_out layout v ≡ false) × Q m) ⊥);
  Again = λ m. ⊥;
}
