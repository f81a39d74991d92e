-- When a memory holds a state of the playroutine between two frames, and how the labels of a player are laid out for a
-- packed song. This is the project's own player.
use Rattle.std.specs.Prelude.{◌≡◌, ℕ, ◌+◌, ◌*◌, ◌<◌, ◌≤◌, Bool, true, length, if◌then◌else◌}
use Rattle.cpu6502.specs.declared.memory.TheConstants.{MEMORY_SIZE}
use Rattle.song_model.specs.declared.features.Feature.{Feature}
use Rattle.song_model.specs.declared.orders.Order.{Order}
use Rattle.song_model.specs.Feature.{bit_of}
use Rattle.song_model.specs.LookUp.{order_of}
use Rattle.play_model.specs.declared.options.Options.{Options}
use Rattle.play_model.specs.LookUps.{LookUps, look_ups_of}
use Rattle.play_model.specs.State.{FrameState, start_voice, playing_of, voice_of}
use Rattle.play_model.specs.Frame.{subtune_at}
use Rattle.play_model.specs.Uses.{UsesFeature}
use Rattle.packed_form.specs.declared.packed_songs.PackedSong.{PackedSong}
use Rattle.packed_form.specs.Unpacked.{unpacked_song}
use Rattle.scopes.specs.declared.line.TheConstants.{OPEN}
use Rattle.scopes.specs.Desk.{Layout}
use Rattle.scopes.specs.Meaning.{turns_in}
use Rattle.player_memory.specs.declared.labels.TheConstants.{LENT, ORDERS, PATTERNS, FREQUENCY_LOWS, FREQUENCY_HIGHS}
use Rattle.player_memory.specs.declared.labels.TheConstants.{NEXT_FREQUENCY_LOWS, NEXT_FREQUENCY_HIGHS, WAVE_LEFTS}
use Rattle.player_memory.specs.declared.labels.TheConstants.{NEXT_WAVE_LEFTS, WAVE_RIGHTS, NEXT_WAVE_RIGHTS}
use Rattle.player_memory.specs.declared.labels.TheConstants.{PULSE_LEFTS, NEXT_PULSE_LEFTS, FILTER_LEFTS}
use Rattle.player_memory.specs.declared.labels.TheConstants.{NEXT_FILTER_LEFTS, ONE_TIMER, ONE_WAVE}
use Rattle.player_memory.specs.declared.labels.TheConstants.{GATE_FROM, ENVELOPE_FROM}
use Rattle.player_memory.specs.FactLines.{is_run}
use Rattle.player_memory.specs.Rooms.{IsRoom, IsElsewhere, MayUse}
use Rattle.player_memory.specs.Playing.{own_at, shared_at, place_in, IsPlaying}
use Rattle.player_memory.specs.Fetching.{place_before, IsInSong}
use Rattle.player_memory.specs.SongLists.{SongList, IsSongList, HasNumber, list_label, pattern_bytes, slide_rows}
use Rattle.player_memory.specs.SongLists.{HasSongLists}
use Rattle.packed_form.specs.WalkCount.{walk_count}

-- ---- states

-- what the rules look up in a packed song, and the orderlist of a voice of subtune k, which is counted from 0
abbrev pub look_of : PackedSong → LookUps
look_of packed = look_ups_of (unpacked_song packed)

abbrev pub order_in : PackedSong → ℕ → ℕ → Order
order_in packed k voice = order_of (voice + 1) (subtune_at (unpacked_song packed) k)

-- its label
abbrev pub order_label : ℕ → ℕ → ℕ
order_label k voice = ORDERS + (3 * k + voice)

-- a voice, counted from 0, plays in a state of subtune k, and is in its song
pub record VoiceHolds (layout : Layout) (packed : PackedSong) (k voice : ℕ) (x : FrameState) (at : ℕ → ℕ) : Type 0
  where
    pub plays : IsPlaying layout voice (playing_of (voice + 1) x) at
    pub song : IsInSong layout (order_label k voice) (look_of packed) (pattern_bytes packed) (order_in packed k voice)
        (voice_of (voice + 1) x) (own_at layout at voice)

-- the lists and the three voices stand in memory, and no command is lent
pub record Holds (layout : Layout) (packed : PackedSong) (k : ℕ) (x : FrameState) (at : ℕ → ℕ) : Type 0 where
  pub lists : HasSongLists layout packed at
  pub voices : (voice : ℕ) → voice < 3 → VoiceHolds layout packed k voice x at
  pub none_lent : shared_at layout at LENT ≡ 0

-- what memory holds for a state: a voice that isn't run stays as it starts
abbrev pub held : (ℕ → Bool) → FrameState → FrameState
held holds x = record x {
  two = if is_run holds 1 then x.two else start_voice;
  three = if is_run holds 2 then x.three else start_voice;
}

-- ---- layouts

-- the labels that name the byte behind another label's
pub record AreNext (layout : Layout) : Type 0 where
  pub frequency_lows : layout.address NEXT_FREQUENCY_LOWS ≡ layout.address FREQUENCY_LOWS + 1
  pub frequency_highs : layout.address NEXT_FREQUENCY_HIGHS ≡ layout.address FREQUENCY_HIGHS + 1
  pub wave_lefts : layout.address NEXT_WAVE_LEFTS ≡ layout.address WAVE_LEFTS + 1
  pub wave_rights : layout.address NEXT_WAVE_RIGHTS ≡ layout.address WAVE_RIGHTS + 1
  pub pulse_lefts : layout.address NEXT_PULSE_LEFTS ≡ layout.address PULSE_LEFTS + 1
  pub filter_lefts : layout.address NEXT_FILTER_LEFTS ≡ layout.address FILTER_LEFTS + 1

-- Code that reads a packed pattern of 256 bytes to its end reads the place before it, too. So that one is elsewhere,
-- and may be read.
pub record PatternStands (layout : Layout) (packed : PackedSong) (number : ℕ) : Type 0 where
  pub from : 1 ≤ layout.address (PATTERNS + number)
  pub to : layout.address (PATTERNS + number) ≤ MEMORY_SIZE
  pub before : IsElsewhere layout (slide_rows packed) (place_before layout number)
  pub reads_before : layout.may_read (place_before layout number) ≡ true

-- the variables, the slides and the pointer have their room, which the code may use; the bytes of the lists stand from
-- $0800 on, and those that stand alone for all instruments within memory; and an open loop has turns enough for a walk
-- along each orderlist
pub record IsPlayerLayout (layout : Layout) (packed : PackedSong) : Type 0 where
  pub room : IsRoom layout (slide_rows packed)
  pub uses : MayUse layout (slide_rows packed)
  pub next : AreNext layout
  pub lists : (list : SongList) (number : ℕ) → IsSongList layout packed list → HasNumber packed list number →
      0x0800 ≤ place_in layout (list_label list) number
  pub timer : layout.address ONE_TIMER < MEMORY_SIZE
  pub wave : layout.address ONE_WAVE < MEMORY_SIZE
  pub gates : layout.address GATE_FROM < MEMORY_SIZE
  pub envelopes : layout.address ENVELOPE_FROM < MEMORY_SIZE
  pub orders : (number : ℕ) → number < 3 * length packed.subtunes → layout.address (ORDERS + number) < MEMORY_SIZE
  pub patterns : (number : ℕ) → number < length packed.patterns → PatternStands layout packed number
  pub walks : walk_count packed ≤ turns_in layout.open_turns OPEN

-- ---- what is kept

-- each feature of the frame after a state has its lines kept: conditions 0 to 23 are the features, by their bits
abbrev pub KeepsUsed : Layout → PackedSong → Options → ℕ → FrameState → Type 0
KeepsUsed layout packed o k x =
    (feature : Feature) → UsesFeature o (unpacked_song packed) k x feature → layout.holds (bit_of feature) ≡ true
