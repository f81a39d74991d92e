-- The patterns of a packed song, as a voice fetches their rows.
use Rattle.std.proofs.Common.{◌≡◌, ℕ, ◌<◌, ◌==◌, Bool, true, false, length, inl, inr, refl, sym, ◌∙◌}
use Rattle.std.proofs.Common.{[], subst, arith}
use Rattle.std.proofs.lemmas.Bool.{eqb-false}
use Rattle.std.proofs.lemmas.List.{length-map, get_or-map}
use Rattle.std.proofs.lemmas.List.Elements.{Contains-get_or}
use Rattle.song_model.specs.declared.rows.Row.{Row}
use Rattle.song_model.specs.declared.orders.Order.{Order}
use Rattle.song_model.specs.declared.songs.Song.{Song}
use Rattle.song_model.specs.Endless.{IsEndless}
use Rattle.song_model.specs.LookUp.{pattern_at, zero_row, IsNumbered}
use Rattle.song_model.specs.Walk.{played}
use Rattle.song_model.proofs.Laws.{plays_are_patterns_lem}
use Rattle.song_facts.specs.declared.facts.Fact.TheVariants.{RowTone, Legato, NoHardRestart, GateNote}
use Rattle.song_facts.specs.declared.facts.Fact.TheVariants.{OwnTimer, FirstHolds}
use Rattle.song_facts.specs.declared.hold.Hold.TheVariants.{Envelope, Gate}
use Rattle.song_facts.specs.Facts.{timer_of}
use Rattle.play_model.specs.declared.options.Options.{Options}
use Rattle.play_model.specs.State.{Voice, FrameState, Playing}
use Rattle.play_model.specs.FetchRow.{row_taken}
use Rattle.play_model.specs.Used.{IsPlayedOrder, IsUsedPattern, IsUsedRow, IsUsedInstrument}
use Rattle.play_model.proofs.Laws.{whole_lem}
use Rattle.packed_form.specs.declared.packed_songs.PackedSong.{PackedSong}
use Rattle.packed_form.specs.PackedSpells.{PackedSpells}
use Rattle.packed_form.specs.Unpacked.{unpacked_instrument, unpacked_pattern, unpacked_song}
use Rattle.packed_form.specs.StandsFor.{StandsFor}
use Rattle.packed_form.specs.Holders.{AreInOrder, first_holder}
use Rattle.packed_form.proofs.Laws.{holders_stand_last}
use Rattle.scopes.specs.Desk.{Layout}
use Rattle.player_memory.specs.declared.conditions.TheConstants.{OWN_TIMER, FIRST_HOLDS}
use Rattle.player_memory.specs.SongLists.{PatternLows, PatternHighs, PatternBytes, Instruments, OneTimer}
use Rattle.player_memory.specs.SongLists.{GateFrom, EnvelopeFrom}
use Rattle.player_memory.specs.SongLists.{pattern_bytes}
use Rattle.player_memory.specs.SongLists.{slide_rows}
use Rattle.player_memory.specs.FactLines.{KeepsFacts, KeepsShared}
use Rattle.player_memory.specs.Fetching.{IsPattern}
use Rattle.player_memory.specs.Holds.{look_of, order_in, PatternStands}
use Rattle.fetch_code.specs.FetchBlock.{HasRows, KeepsNext, next_instrument, next_row}
use Rattle.frame_scenes.specs.FrameScenes.{Scene}
use Rattle.kept_notes.specs.Voices.{IsUsedTimer}
use Rattle.frame_scenes.proofs.FactsKept.{first_read, gates_stand, envelopes_stand, none_marked}
use Rattle.frame_scenes.proofs.FactsKept.{no_two_differ}
use Rattle.frame_scenes.proofs.Lists.{from_one, from_none, looks, stands_alone}
use Rattle.frame_scenes.proofs.Turns.{AtTurn, IsFine, scene_facts}
use Rattle.frame_scenes.proofs.Orders.{IsPlayedAndShort, order_played}

-- ---- patterns

pattern_rows : (packed : PackedSong) (n : ℕ) → n < length packed.patterns →
    pattern_at (unpacked_song packed) n ≡ unpacked_pattern (pattern_bytes packed n)
unfolding pattern_at
pattern_rows packed n below = get_or-map unpacked_pattern packed.patterns n [] [] below

pattern_spelled : (packed : PackedSong) (song : Song) (n : ℕ) → StandsFor packed song → n < length packed.patterns →
    PackedSpells (pattern_bytes packed n) ((look_of packed).rows n)
pattern_spelled packed song n stands below =
    subst (PackedSpells (pattern_bytes packed n)) (sym (pattern_rows packed n below))
    (stands.packed_song.patterns (pattern_bytes packed n) (Contains-get_or packed.patterns n [] below))

pattern_stands : (layout : Layout) (packed : PackedSong) (song : Song) (o : Options) (k : ℕ) (x : FrameState)
    (at : ℕ → ℕ) (n : ℕ) → Scene layout packed song o k x at → n < length packed.patterns →
    IsPattern layout (slide_rows packed) at (look_of packed) n (pattern_bytes packed n)
pattern_stands layout packed song o k x at n scene below =
    let stands : PatternStands layout packed n = scene.laid.patterns n below in record {
      spells = pattern_spelled packed song n scene.stands below;
      few = scene.short (pattern_bytes packed n) (Contains-get_or packed.patterns n [] below);
      listed = λ number inside.
          scene.has.lists (PatternBytes n) number below (from_none packed (PatternBytes n) number refl inside);
      from = stands.from;
      to = stands.to;
      low = scene.has.lists PatternLows n tt (from_none packed PatternLows n refl below);
      high = scene.has.lists PatternHighs n tt (from_none packed PatternHighs n refl below);
      before = stands.before;
      reads_before = stands.reads_before;
    }

-- ---- plays

play_used : (packed : PackedSong) (order : Order) (n : ℕ) → IsPlayedOrder (unpacked_song packed) order →
    IsEndless order → IsUsedPattern (unpacked_song packed) (played order n).pattern
play_used packed order n is_played endless =
    let plays = plays_are_patterns_lem order n endless in record {
      byte = record { order = order; played = is_played; entry = plays.entry };
      is_pattern = plays.pattern;
    }

play_stored : (packed : PackedSong) (song : Song) (order : Order) (n : ℕ) → StandsFor packed song →
    IsPlayedOrder (unpacked_song packed) order → IsEndless order → (played order n).pattern < length packed.patterns
play_stored packed song order n stands is_played endless =
    let below = (whole_lem (unpacked_song packed) stands.complete.playable).pattern (played order n).pattern
    (play_used packed order n is_played endless) in
    let count = length-map packed.patterns unpacked_pattern in
    omega (arith, below, count)

-- ---- instruments

-- one that the song uses is stored
pub instrument_stored : (packed : PackedSong) (song : Song) (number : ℕ) → StandsFor packed song →
    IsUsedInstrument (unpacked_song packed) number → IsNumbered packed.instruments number
instrument_stored packed song number stands used =
    let stored = stands.complete.instruments number used in
    let count = length-map packed.instruments unpacked_instrument in
    let last = stored.last in
    record { first = stored.first; last = omega (arith, count, last) }

-- the row that comes next is used
next_used : (packed : PackedSong) (order : Order) (v : Voice) → IsPlayedOrder (unpacked_song packed) order →
    IsEndless order → v.row < length (pattern_at (unpacked_song packed) (played order v.plays).pattern) →
    IsUsedRow (unpacked_song packed) (next_row (look_of packed) order v)
next_used packed order v is_played endless inside = record {
  pattern = (played order v.plays).pattern;
  used = play_used packed order v.plays is_played endless;
  has = Contains-get_or (pattern_at (unpacked_song packed) (played order v.plays).pattern) v.row zero_row inside;
}

-- the instrument that a voice has behind it is used
row_instrument : (packed : PackedSong) (order : Order) (v : Voice) → IsUsedInstrument (unpacked_song packed) v.instrument →
    IsUsedRow (unpacked_song packed) (next_row (look_of packed) order v) →
    IsUsedInstrument (unpacked_song packed) (next_instrument (look_of packed) order v)
row_instrument packed order v used next = by_row (row.instrument == 0) refl
  where
    row : Row
    row = next_row (look_of packed) order v

    by_row : (z : Bool) → (row.instrument == 0) ≡ z →
        IsUsedInstrument (unpacked_song packed) (row_taken row v).instrument
    by_row true z = rw z used
    by_row false z =
        rw z (inr (record {
          row = row;
          used = next;
          names = refl;
          some = eqb-false row.instrument 0 z;
        }))

-- what the row asks for is kept
next_kept : (layout : Layout) (packed : PackedSong) (order : Order) (v : Voice) →
    KeepsFacts layout (unpacked_song packed) → KeepsShared layout →
    IsUsedRow (unpacked_song packed) (next_row (look_of packed) order v) →
    IsUsedInstrument (unpacked_song packed) (next_instrument (look_of packed) order v) →
    KeepsNext layout (look_of packed) order v
next_kept layout packed order v facts shared row instrument = record {
  gate = λ is. facts GateNote (record { row = next_row (look_of packed) order v; used = row; is_such = is });
  tone = λ is. facts RowTone (record { row = next_row (look_of packed) order v; used = row; is_such = is });
  legato = λ is.
      facts Legato
      (record { instrument = next_instrument (look_of packed) order v; used = instrument; is_such = is });
  soft = λ is.
      facts NoHardRestart
      (record { instrument = next_instrument (look_of packed) order v; used = instrument; is_such = is });
  shared = shared;
}

-- ---- rows

pub rows_stand : (layout : Layout) (packed : PackedSong) (song : Song) (o : Options) (k voice : ℕ) (x : FrameState)
    (at : ℕ → ℕ) (s : Playing) → AtTurn layout packed song o k voice x at → IsFine packed k voice s →
    IsUsedTimer (unpacked_song packed) s.voice.gate_timer →
    HasRows layout (slide_rows packed) at (look_of packed) (pattern_bytes packed) (order_in packed k voice) s.voice
rows_stand layout packed song o k voice x at s turn fine its_timer = record {
  pattern = λ n.
      pattern_stands layout packed song o k x at (played order n).pattern scene
      (play_stored packed song order n scene.stands is.played is.endless);
  timer = λ kept.
      scene.has.lists (Instruments 7) _ (first_read layout packed scene.alone kept)
      (from_one packed (Instruments 7) _ refl numbered.first numbered.last);
  gates = λ out kept. record {
    from = first_holder packed Gate;
    stands =
        stands_alone layout packed at GateFrom _ scene.has
        (gates_stand layout packed scene.facts scene.alone out kept) refl refl scene.laid.gates refl;
    tells = holders_stand_last packed Gate _ (ordered out) stored;
  };
  envelopes = λ out kept. record {
    from = first_holder packed Envelope;
    stands =
        stands_alone layout packed at EnvelopeFrom _ scene.has
        (envelopes_stand layout packed scene.facts scene.alone out kept) refl refl scene.laid.envelopes refl;
    tells = holders_stand_last packed Envelope _ (ordered out) stored;
  };
  one_timer = λ out.
      stands_alone layout packed at OneTimer _ scene.has
      (none_marked layout packed.facts OwnTimer scene.facts out) refl refl scene.laid.timer
      (no_two_differ layout (unpacked_song packed) timer_of OWN_TIMER ((scene_facts turn) OwnTimer) out 1
      its_timer.instrument (inl refl) its_timer.used ∙ sym its_timer.is);
  timer_byte = ((looks packed scene.stands.packed_song.limits).instrument _).gate_timer;
  tick = fine.range.voice.tick;
  gate_timer = fine.range.voice.gate_timer;
  command = fine.range.voice.new_command;
  keeps = next_kept layout packed order s.voice (scene_facts turn) scene.shared row instrument;
}
  where
    scene : Scene layout packed song o k x at
    scene = turn.scene

    order : Order
    order = order_in packed k voice

    is : IsPlayedAndShort packed (order_in packed k voice)
    is = order_played packed song k voice scene.stands scene.below turn.few

    row : IsUsedRow (unpacked_song packed) (next_row (look_of packed) order s.voice)
    row = next_used packed order s.voice is.played is.endless fine.safe.voice.row

    instrument : IsUsedInstrument (unpacked_song packed) (next_instrument (look_of packed) order s.voice)
    instrument = row_instrument packed order s.voice fine.safe.voice.instrument row

    numbered : IsNumbered packed.instruments (next_instrument (look_of packed) order s.voice)
    numbered = instrument_stored packed song _ scene.stands instrument

    stored : IsNumbered (unpacked_song packed).instruments (next_instrument (look_of packed) order s.voice)
    stored = scene.stands.complete.instruments _ instrument

    -- where the lines for a first that holds more aren't kept, the instruments are in order
    ordered : layout.holds FIRST_HOLDS ≡ false → AreInOrder packed.instruments
    ordered out = scene.stands.order (none_marked layout packed.facts FirstHolds scene.facts out)
