-- What the code that fetches a row leaves.
use Rattle.std.proofs.Common.{ℕ, List}
use Rattle.song_model.specs.declared.orders.Order.{Order}
use Rattle.play_model.specs.LookUps.{LookUps}
use Rattle.play_model.specs.State.{Playing}
use Rattle.player_memory.specs.declared.labels.TheConstants.{ORDER_LOW, ORDER_HIGH}
use Rattle.player_memory.specs.Fetching.{AreHalves}
use Rattle.player_desk.proofs.Laws.{VoiceDesk, Reader, Leads}
use Rattle.player_text.specs.Steps.{fetch_tree}
use Rattle.fetch_code.proofs.Outcomes.{Fetched, fetch_ways}
use Rattle.fetch_code.proofs.Reaching.{fetched_voice, FetchGround}
use Rattle.fetch_code.proofs.Fetches.{fetch_leads}
use Rattle.walk_code.proofs.Laws.{WalkGround}
use Rattle.fetch_code.proofs.Begun.{walk_leads}

-- On the desk of a voice that stands in its song, the code comes to its end, or leaves PULSED or SOUNDS, with the voice
-- as the rule leaves it, its place in the song too: SOUNDS exactly where an option that is kept leaves the pulse step
-- out.
pub fetch_step_leads : (r : Reader) (look : LookUps) (packed : ℕ → List ℕ) (order : Order) (s : Playing) (place : ℕ)
    (looks : ℕ → ℕ) (d : VoiceDesk) → FetchGround r look packed order s.voice → WalkGround r order place looks →
    AreHalves (d.own ORDER_LOW) (d.own ORDER_HIGH) place → Fetched r look packed order s s.voice d d →
    Leads r fetch_tree
    (fetch_ways r.layout s.voice (Fetched r look packed order s (fetched_voice look order s.voice) d)) d
fetch_step_leads r look packed order s place looks d ground walks halves stands =
    fetch_leads r look packed order s d ground (walk_leads r look packed order s place looks d walks halves) stands
