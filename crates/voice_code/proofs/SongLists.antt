-- Orderlists and packed patterns stand in a later memory too; and where a voice is in its song.
use Rattle.std.proofs.Common.{◌≡◌, ℕ, List, ap, ◌∙◌}
use Rattle.song_model.specs.declared.orders.Order.{Order}
use Rattle.song_model.specs.Walk.{played}
use Rattle.play_model.specs.LookUps.{LookUps}
use Rattle.song_facts.specs.declared.hold.Hold.{Hold}
use Rattle.song_facts.specs.declared.hold.Hold.TheVariants.{Envelope, Gate}
use Rattle.play_model.specs.State.{Voice}
use Rattle.scopes.specs.Desk.{Layout}
use Rattle.player_memory.specs.declared.labels.TheConstants.{GATE_TIMERS, ONE_TIMER, GATE_FROM, ENVELOPE_FROM}
use Rattle.player_memory.specs.declared.variables.TheConstants.{SONG_BYTES}
use Rattle.player_memory.specs.Playing.{AreSame}
use Rattle.player_memory.specs.Fetching.{AreListed, IsPattern}
use Rattle.fetch_code.specs.FetchBlock.{HasOrderlist, TellsHold, HasRows, next_instrument}
use Rattle.player_memory.specs.Fetching.{IsInSong}
use Rattle.fetch_code.proofs.Laws.{song_stays}
use Rattle.voice_code.proofs.Lists.{ListsStay, listed_stays, alone_stays}
use Rattle.voice_code.proofs.SongFields.{InSong, in_song}

bytes_stay : (layout : Layout) (rows : ℕ) (look : LookUps) (one two : ℕ → ℕ) (label : ℕ) (bytes : List ℕ) →
    ListsStay layout rows look one two → AreListed layout rows one label bytes → AreListed layout rows two label bytes
bytes_stay layout rows look one two label bytes stay are number few =
    listed_stays layout rows look one two label number _ stay (are number few)

pub orderlist_stays : (layout : Layout) (rows : ℕ) (look : LookUps) (one two : ℕ → ℕ) (label : ℕ) (order : Order) →
    ListsStay layout rows look one two → HasOrderlist layout rows one label order →
    HasOrderlist layout rows two label order
orderlist_stays layout rows look one two label order stay has = record {
  address = has.address;
  stands = bytes_stay layout rows look one two label _ stay has.stands;
  endless = has.endless;
  few = has.few;
  each = has.each;
  walks = has.walks;
}

pattern_stays : (layout : Layout) (rows : ℕ) (look : LookUps) (one two : ℕ → ℕ) (number : ℕ) (bytes : List ℕ) →
    ListsStay layout rows look one two → IsPattern layout rows one look number bytes →
    IsPattern layout rows two look number bytes
pattern_stays layout rows look one two number bytes stay is = record {
  spells = is.spells;
  few = is.few;
  listed = bytes_stay layout rows look one two _ bytes stay is.listed;
  from = is.from;
  to = is.to;
  low = listed_stays layout rows look one two _ number _ stay is.low;
  high = listed_stays layout rows look one two _ number _ stay is.high;
  before = is.before;
  reads_before = is.reads_before;
}

tells_stay : (layout : Layout) (rows : ℕ) (look : LookUps) (one two : ℕ → ℕ) (label : ℕ) (hold : Hold)
    (instrument : ℕ) → ListsStay layout rows look one two → TellsHold layout rows one label look hold instrument →
    TellsHold layout rows two label look hold instrument
tells_stay layout rows look one two label hold instrument stay told = record {
  from = told.from;
  stands = alone_stays layout rows look one two label _ stay told.stands;
  tells = told.tells;
}

pub rows_stay : (layout : Layout) (rows : ℕ) (look : LookUps) (one two : ℕ → ℕ) (packed : ℕ → List ℕ)
    (order : Order) (v : Voice) → ListsStay layout rows look one two → HasRows layout rows one look packed order v →
    HasRows layout rows two look packed order v
rows_stay layout rows look one two packed order v stay has = record {
  pattern = λ n. pattern_stays layout rows look one two (played order n).pattern _ stay (has.pattern n);
  timer = λ kept.
      listed_stays layout rows look one two GATE_TIMERS (next_instrument look order v) _ stay (has.timer kept);
  gates = λ out kept. tells_stay layout rows look one two GATE_FROM Gate _ stay (has.gates out kept);
  envelopes = λ out kept. tells_stay layout rows look one two ENVELOPE_FROM Envelope _ stay (has.envelopes out kept);
  one_timer = λ out. alone_stays layout rows look one two ONE_TIMER _ stay (has.one_timer out);
  timer_byte = has.timer_byte;
  tick = has.tick;
  gate_timer = has.gate_timer;
  command = has.command;
  keeps = has.keeps;
}

-- the voice is where it was, with the same bytes
pub in_song_stays : (layout : Layout) (label : ℕ) (look : LookUps) (packed : ℕ → List ℕ) (order : Order)
    (v w : Voice) (one two : ℕ → ℕ) → in_song w ≡ in_song v → AreSame SONG_BYTES two one →
    IsInSong layout label look packed order v one → IsInSong layout label look packed order w two
in_song_stays layout label look packed order v w one two same bytes is = record {
  has = record {
    low_is = bytes.1.1.1.1.0 ∙ is.has.low_is;
    high_is = bytes.1.1.1.1.1.0 ∙ is.has.high_is;
  };
  stands = song_stays layout look packed order v w one two (record {
    plays = ap (λ (at : InSong). at.plays) same;
    row = ap (λ (at : InSong). at.row) same;
    new_command = ap (λ (at : InSong). at.new_command) same;
    new_param = ap (λ (at : InSong). at.new_param) same;
  }) bytes is.stands;
}
