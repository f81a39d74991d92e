-- A memory that holds the start of a subtune, computed; and what doesn't hold it.
use Rattle.std.proofs.Common.{◌≡◌, ℕ, zero, suc, ◌+◌, ◌<◌, ◌≤◌, ◌&&◌, true, false, nat_eq, nat_le}
use Rattle.std.proofs.Common.{nat_lt, length, [], ◌∷◌, pos, refl, ap, arith, inl, inr}
use Rattle.std.proofs.lemmas.Bool.{agree_below_at, ltb-true, leb-true, le-leb, lt-ltb, eqb-false, and_parts, both_ways}
use Rattle.std.proofs.lemmas.List.Elements.{Contains-get_or, All-cons, All-nil}
use Rattle.cpu6502.specs.declared.memory.TheConstants.{MEMORY_SIZE}
use Rattle.code_runs.specs.Runs.{put}
use Rattle.song_model.specs.declared.features.Feature.TheVariants.{FilterTable, Transpose, Repeat}
use Rattle.song_model.specs.declared.tables.TableName.TheVariants.{Wave, Pulse, Filter, Speed}
use Rattle.song_model.specs.Walk.{played, prefix_of, cycle_of}
use Rattle.song_model.specs.Places.{place_of, place_after, prefix_places, cycle_places}
use Rattle.song_model.specs.LookUp.{table_row, instrument_at, pattern_at, playable_subtune}
use Rattle.play_model.specs.Freq.{freq}
use Rattle.play_model.specs.State.{FrameState, no_options, start_state, start_voice, voice_of, playing_of}
use Rattle.play_model.specs.Uses.{UsesFeature}
use Rattle.packed_form.specs.declared.entries.EntryKind.TheVariants.{Note}
use Rattle.packed_form.specs.Entries.{IsEntry, no_command}
use Rattle.packed_form.specs.Unpacked.{unpacked_song, unpacked_pattern}
use Rattle.player_memory.specs.declared.conditions.TheConstants.{FILTER_TABLE}
use Rattle.player_memory.specs.declared.labels.TheConstants.{ORDERS, PATTERNS, REST, PATTERN_LOW}
use Rattle.player_memory.specs.Rooms.{IsElsewhere}
use Rattle.player_memory.specs.declared.variables.TheConstants.{COMMON_BYTES}
use Rattle.player_memory.specs.Playing.{own_at, shared_at, place_in, IsPlaying}
use Rattle.player_memory.specs.Fetching.{SongStands, AtEntry, InRun, InLastRun, Walked, NotWalked, GoesOn}
use Rattle.player_memory.specs.Fetching.{EntriesStand}
use Rattle.player_memory.specs.Starting.{Begins, VoiceBegins, common_with}
use Rattle.player_memory.specs.SongLists.{SongList, FrequencyLows, FrequencyHighs, Lefts, Rights, Periods, Instruments}
use Rattle.player_memory.specs.SongLists.{OneTimer, EnvelopeFrom, OrderLows, OrderHighs, PatternLows, PatternHighs}
use Rattle.player_memory.specs.SongLists.{OrderBytes, PatternBytes}
use Rattle.player_memory.specs.SongLists.{pattern_bytes, first_number, list_length, list_byte, list_label, IsSongList}
use Rattle.player_memory.specs.Holds.{look_of, order_in, order_label, VoiceHolds, AreNext, PatternStands}
use Rattle.player_memory.specs.WorkedPlays.{with_variable}
use Rattle.player_memory.specs.WorkedStarting.{its_orders}
use Rattle.player_memory.specs.WorkedLists.{worked_song, list_layout, plain_song, plain_layout}
use Rattle.player_memory.specs.WorkedHolds.{memory_with, song_memory, HasLists, HasPlainLists, ListsAreInMemory}
use Rattle.player_memory.specs.WorkedHolds.{IsLaidOut, PatternAt, LayoutsAreWorked, HoldsIn, StatesAreHeld, KeepsBut}
use Rattle.player_memory.specs.WorkedHolds.{KeptAreWorked, HeldAreWorked, moved_in, walked_memory, walked_state, HoldsSecond}
use Rattle.player_memory.proofs.Standing.{playing_in}
use Rattle.player_memory.proofs.WorkedRooms.{IsLaid, IsOpen, room_in, uses_in, behind_slides, off_variables}
use Rattle.player_memory.proofs.Starting.{voice_begins, shared_rows_begin, beginnings_play}
use Rattle.player_memory.proofs.SetLists.{all_are_set, lists_stand, behind}
use Rattle.packed_form.specs.WalkCount.{walk_count, most_looks, looks_from}
use Rattle.scopes.specs.declared.line.TheConstants.{OPEN}
use Rattle.scopes.proofs.Laws.{turns_within}

-- ---- lists

is_laid : IsLaid list_layout
is_laid = record { variables = refl; low = refl; high = refl; pointer = refl }

is_open : IsOpen list_layout
is_open = record { reads = refl; writes = refl; reads_slides = refl; writes_slides = refl; registers = refl }

all_set : (low high : ℕ) → all_are_set list_layout worked_song (memory_with low high) ≡ true
unfolding freq table_row instrument_at
all_set low high = refl

all_set_plainly : all_are_set plain_layout plain_song (put song_memory 0x110A 0x03) ≡ true
unfolding freq table_row instrument_at
all_set_plainly = refl

away : (place : ℕ) → 0x1108 ≤ place → place < 0x1400 → IsElsewhere list_layout 4 place
away place from to = behind_slides list_layout is_laid place from (omega (arith, to))

away_plainly : (place : ℕ) → 0x1108 ≤ place → place < 0x1400 → IsElsewhere plain_layout 4 place
away_plainly place from to = record {
  variables = off_variables plain_layout refl place (inr (omega (arith, from)));
  slides_low = λ kept. absurd (both_ways false refl kept);
  slides_high = λ kept. absurd (both_ways false refl kept);
  low = λ e. omega (arith, from, e);
  high = λ e. omega (arith, from, e);
  registers = inl (omega (arith, to));
}

reads : (place : ℕ) → 0x1108 ≤ place → place < 0x1400 → list_layout.may_read place ≡ true
reads place from to = rw (le-leb 0x1000 place (omega (arith, from)), lt-ltb place 0x1400 to) refl

low_slides : (low high number : ℕ) → number < 4 → (table_row (unpacked_song worked_song) Speed number).left < 128 →
    memory_with low high (0x1100 + number) ≡ (table_row (unpacked_song worked_song) Speed number).right
unfolding table_row
low_slides low high zero few plain = refl
low_slides low high (suc zero) few plain = refl
low_slides low high (suc (suc zero)) few plain = absurd (omega (arith, plain))
low_slides low high (suc (suc (suc zero))) few plain = refl
low_slides low high (suc (suc (suc (suc more)))) few plain = absurd (omega (arith, few))

high_slides : (low high number : ℕ) → number < 4 → (table_row (unpacked_song worked_song) Speed number).left < 128 →
    memory_with low high (0x1104 + number) ≡ (table_row (unpacked_song worked_song) Speed number).left
unfolding table_row
high_slides low high zero few plain = refl
high_slides low high (suc zero) few plain = refl
high_slides low high (suc (suc zero)) few plain = absurd (omega (arith, plain))
high_slides low high (suc (suc (suc zero))) few plain = refl
high_slides low high (suc (suc (suc (suc more)))) few plain = absurd (omega (arith, few))

stand : (low high : ℕ) → HasLists (memory_with low high)
stand low high = record {
  lists = lists_stand list_layout _ (memory_with low high) (all_set low high) away reads;
  slides = record {
    low = λ kept. low_slides low high;
    high = λ kept. high_slides low high;
    low_is = λ gone. absurd (both_ways true gone refl);
    high_is = λ gone. absurd (both_ways true gone refl);
    periods = λ gone. absurd (both_ways true gone refl);
  };
}

plain_stand : HasPlainLists plain_layout
plain_stand = record {
  lists = lists_stand plain_layout _ (put song_memory 0x110A 0x03) all_set_plainly away_plainly reads;
  slides = record {
    low = λ kept. absurd (both_ways false refl kept);
    high = λ kept. absurd (both_ways false refl kept);
    low_is = λ gone. refl;
    high_is = λ gone. refl;
    periods = λ gone. refl;
  };
}

-- a byte of a list is another
refuses : (at : ℕ → ℕ) (list : SongList) (number : ℕ) → IsSongList list_layout worked_song list →
    nat_le (first_number worked_song list) number
    && nat_lt number (first_number worked_song list + list_length worked_song list) ≡ true →
    nat_eq (at (place_in list_layout (list_label list) number)) (list_byte list_layout worked_song list number)
    ≡ false → ¬ HasLists at
refuses at list number is inside differs has =
    let ends = and_parts _ _ inside in
    let byte = has.lists list number is (record { from = leb-true _ _ ends.0; to = ltb-true _ _ ends.1 }) in
    eqb-false _ _ differs byte.is

pub lists_are_in_memory : ListsAreInMemory
unfolding freq table_row instrument_at
lists_are_in_memory = record {
  stand = stand;
  plain = plain_stand;
  first_frequency = refuses (put song_memory 0x1215 0) FrequencyLows 5 tt refl refl;
  last_frequency = refuses (put song_memory 0x1301 1) FrequencyHighs 97 tt refl refl;
  speed_row_none = refuses (put song_memory 0x1108 1) (Lefts Speed) 0 tt refl refl;
  last_speed = refuses (put song_memory 0x110F 0) (Rights Speed) 3 tt refl refl;
  last_period = refuses (put song_memory 0x1113 0) Periods 3 refl refl refl;
  first_wave = refuses (put song_memory 0x1114 0) (Lefts Wave) 1 tt refl refl;
  last_wave = refuses (put song_memory 0x111B 0) (Rights Wave) 4 tt refl refl;
  first_pulse = refuses (put song_memory 0x111C 0) (Lefts Pulse) 1 tt refl refl;
  last_pulse = refuses (put song_memory 0x111F 1) (Rights Pulse) 2 tt refl refl;
  first_filter = refuses (put song_memory 0x1120 0) (Lefts Filter) 1 tt refl refl;
  last_filter = refuses (put song_memory 0x1125 1) (Rights Filter) 3 tt refl refl;
  first_ad = refuses (put song_memory 0x1126 0) (Instruments 0) 1 refl refl refl;
  last_first_wave = refuses (put song_memory 0x1137 0) (Instruments 8) 2 refl refl refl;
  one_timer = refuses (put song_memory 0x1160 0x82) OneTimer 0 refl refl refl;
  envelope_from = refuses (put song_memory 0x1162 1) EnvelopeFrom 0 refl refl refl;
  first_order_low = refuses (put song_memory 0x1138 0) OrderLows 0 refl refl refl;
  last_order_high = refuses (put song_memory 0x1143 0) OrderHighs 5 refl refl refl;
  first_pattern_low = refuses (put song_memory 0x1144 0) PatternLows 0 tt refl refl;
  last_pattern_high = refuses (put song_memory 0x1147 0) PatternHighs 1 tt refl refl;
  first_order = refuses (put song_memory 0x1148 1) (OrderBytes 0 0) 0 (omega arith, omega arith) refl refl;
  last_order = refuses (put song_memory 0x13A7 1) (OrderBytes 1 2) 5 (omega arith, omega arith) refl refl;
  first_pattern = refuses (put song_memory 0x1200 0) (PatternBytes 0) 0 (omega arith) refl refl;
  last_pattern = refuses (put song_memory 0x1157 1) (PatternBytes 1) 2 (omega arith) refl refl;
  first_low_slide = λ has. (let byte = has.slides.low refl 0 (omega arith) (omega arith) in omega (arith, byte));
  last_low_slide = λ has. (let byte = has.slides.low refl 3 (omega arith) (omega arith) in omega (arith, byte));
  first_high_slide = λ has. (let byte = has.slides.high refl 0 (omega arith) (omega arith) in omega (arith, byte));
  last_high_slide = λ has. (let byte = has.slides.high refl 3 (omega arith) (omega arith) in omega (arith, byte));
  unread = λ has.
      (let last = has.lists (OrderBytes 1 2) 5 (omega arith, omega arith)
      (record { from = omega arith; to = omega arith }) in
      both_ways false refl last.reads);
  own_low = λ has. (let place = has.slides.low_is refl in omega (arith, place));
  own_high = λ has. (let place = has.slides.high_is refl in omega (arith, place));
  own_periods = λ has. (let place = has.slides.periods refl in omega (arith, place));
}

-- ---- layouts

next : AreNext list_layout
next = record {
  frequency_lows = refl;
  frequency_highs = refl;
  wave_lefts = refl;
  wave_rights = refl;
  pulse_lefts = refl;
  filter_lefts = refl;
}

first_pattern : PatternStands list_layout worked_song 0
first_pattern = record {
  from = omega arith;
  to = omega arith;
  before = away 0x11FF (omega arith) (omega arith);
  reads_before = refl;
}

second_pattern : PatternStands list_layout worked_song 1
second_pattern = record {
  from = omega arith;
  to = omega arith;
  before = away 0x1154 (omega arith) (omega arith);
  reads_before = refl;
}

patterns : (number : ℕ) → number < 2 → PatternStands list_layout worked_song number
patterns zero few = first_pattern
patterns (suc zero) few = second_pattern
patterns (suc (suc more)) few = absurd (omega (arith, few))

orders : (number : ℕ) → number < 6 → list_layout.address (ORDERS + number) < MEMORY_SIZE
orders number few =
    ltb-true _ MEMORY_SIZE
    (agree_below_at (λ n. nat_lt (list_layout.address (ORDERS + n)) MEMORY_SIZE) (λ n. true) 6 number refl few)

walk : walk_count worked_song ≡ 3
unfolding walk_count most_looks looks_from
walk = refl

laid : IsLaidOut list_layout
laid = record {
  room = room_in list_layout is_laid;
  uses = uses_in list_layout is_laid is_open;
  next = next;
  lists = λ list number is has. (let place = behind list_layout _ song_memory (all_set 0 0) list number is has in
      omega (arith, place));
  timer = omega arith;
  wave = omega arith;
  gates = omega arith;
  envelopes = omega arith;
  orders = orders;
  patterns = patterns;
  walks = omega (arith, walk);
}

last_place : PatternAt 0x10000
last_place = record {
  from = omega arith;
  to = omega arith;
  before = record {
    variables = off_variables (moved_in list_layout PATTERNS 0x10000) refl 0xFFFF (inr (omega arith));
    slides_low = λ kept. inr (omega arith);
    slides_high = λ kept. inr (omega arith);
    low = λ e. omega (arith, e);
    high = λ e. omega (arith, e);
    registers = inr (omega arith);
  };
  reads_before = refl;
}

pub layouts_are_worked : LayoutsAreWorked
layouts_are_worked = record {
  laid = laid;
  port = λ is. (let l = is.room.pointer_low in omega (arith, l));
  closed = λ is. both_ways false refl (is.uses.registers 0 (omega arith));
  few_turns = λ is. (let l = is.walks in omega (arith, l, walk));
  long_walk = λ layout packed long is.
      (let most = turns_within layout.open_turns OPEN in let l = is.walks in omega (arith, long, l, most));
  frequency_low = λ is. (let e = is.next.frequency_lows in omega (arith, e));
  frequency_high = λ is. (let e = is.next.frequency_highs in omega (arith, e));
  wave_left = λ is. (let e = is.next.wave_lefts in omega (arith, e));
  wave_right = λ is. (let e = is.next.wave_rights in omega (arith, e));
  pulse_left = λ is. (let e = is.next.pulse_lefts in omega (arith, e));
  filter_left = λ is. (let e = is.next.filter_lefts in omega (arith, e));
  low = λ is.
      (let l = is.lists (Instruments 0) 1 refl (record { from = omega arith; to = omega arith }) in
      omega (arith, l));
  over = λ is. (let l = is.orders 5 (omega arith) in omega (arith, l));
  timer_over = λ is. (let l = is.timer in omega (arith, l));
  wave_over = λ is. (let l = is.wave in omega (arith, l));
  gates_over = λ is. (let l = is.gates in omega (arith, l));
  envelopes_over = λ is. (let l = is.envelopes in omega (arith, l));
  last = last_place;
  past = λ stands. (let l = stands.to in omega (arith, l));
  none = λ stands. (let l = stands.from in omega (arith, l));
  variable = λ stands. stands.before.variables 112 (omega arith) refl;
  unread = λ stands. both_ways false refl stands.reads_before;
  each = λ is. (is.patterns 1 (omega arith)).before.variables 112 (omega arith) refl;
}

-- ---- states

each : (voice : ℕ) → voice < 3 →
    VoiceBegins list_layout.holds 5 (its_orders voice) (own_at list_layout song_memory voice)
each zero few =
    voice_begins list_layout.holds 5 (its_orders 0) (own_at list_layout song_memory 0) refl assumption
each (suc zero) few =
    voice_begins list_layout.holds 5 (its_orders 1) (own_at list_layout song_memory 1) refl assumption
each (suc (suc zero)) few =
    voice_begins list_layout.holds 5 (its_orders 2) (own_at list_layout song_memory 2) refl assumption
each (suc (suc (suc more))) few = absurd (omega (arith, few))

begins : Begins list_layout 5 8 its_orders song_memory
begins = record {
  voices = each;
  common =
      shared_rows_begin list_layout.holds COMMON_BYTES (common_with 5 8) (shared_at list_layout song_memory) refl;
  handed = assumption;
}

address : (voice : ℕ) → voice < 3 → its_orders voice ≡ list_layout.address (order_label 1 voice)
address zero few = refl
address (suc zero) few = refl
address (suc (suc zero)) few = refl
address (suc (suc (suc more))) few = absurd (omega (arith, few))

some : (voice : ℕ) → voice < 3 → 0 < length (order_in worked_song 1 voice).entries
unfolding playable_subtune
some zero few = omega arith
some (suc zero) few = omega arith
some (suc (suc zero)) few = omega arith
some (suc (suc (suc more))) few = absurd (omega (arith, few))

voices : (voice : ℕ) → voice < 3 → VoiceHolds list_layout worked_song 1 voice (start_state no_options) song_memory
voices voice few =
    let plays = beginnings_play list_layout no_options (look_of worked_song) (pattern_bytes worked_song)
    (order_in worked_song 1 voice) its_orders (order_label 1 voice) voice song_memory begins few (address voice few)
    (some voice few) in
    record { plays = plays.plays; song = record { has = plays.has_order; stands = plays.song } }

holds : HoldsIn song_memory
holds = record { lists = stand 0 0; voices = voices; none_lent = refl }

rests : ¬ SongStands list_layout (look_of worked_song) (pattern_bytes worked_song) (order_in worked_song 1 0)
    start_voice (own_at list_layout (with_variable REST 1 song_memory) 0)
rests (AtEntry none walk) = omega (arith, none)
rests (InRun left run inside walk) = (let row = run.begun in omega (arith, row))
rests (InLastRun left run last walk) = (let row = run.begun in omega (arith, row))

walked_plays : IsPlaying list_layout 1 (playing_of 2 walked_state) walked_memory
walked_plays = playing_in list_layout 1 (playing_of 2 walked_state) walked_memory refl refl refl

-- its pattern has one note
is_entry : IsEntry (record { instrument = 2; kind = Note 0x94 })
is_entry = record { instrument = omega arith; kind = record { from = omega arith; to = omega arith } }

entries : EntriesStand (pattern_bytes worked_song 1) ((look_of worked_song).rows 1) no_command 0 1
unfolding pattern_at unpacked_pattern
entries = record {
  entry = record { instrument = 2; kind = Note 0x94 };
  others = [];
  each = All-cons IsEntry (record { instrument = 2; kind = Note 0x94 }) [] is_entry (All-nil IsEntry);
  text = refl;
  left = refl;
}

walked_song : SongStands list_layout (look_of worked_song) (pattern_bytes worked_song) (order_in worked_song 1 1)
    (voice_of 2 walked_state) (own_at list_layout walked_memory 1)
unfolding playable_subtune played prefix_of cycle_of place_of place_after prefix_places cycle_places
walked_song =
    AtEntry refl
    (Walked (omega arith) (λ e. refl, λ e. refl) (record { low_is = refl; high_is = refl }) refl
    (GoesOn (record { place = 1; transpose = pos 0; repeat = 0 }) refl refl refl refl refl) entries)

walked : HoldsSecond walked_memory
walked = record {
  plays = walked_plays;
  song = record { has = record { low_is = refl; high_is = refl }; stands = walked_song };
}

other_pattern : ¬ SongStands list_layout (look_of worked_song) (pattern_bytes worked_song) (order_in worked_song 1 1)
    (voice_of 2 walked_state) (own_at list_layout (with_variable (PATTERN_LOW + 7) 0xFF walked_memory) 1)
unfolding playable_subtune played prefix_of cycle_of
other_pattern (AtEntry none (Walked some_offset first has transpose walk stand)) =
    (let low = has.low_is in omega (arith, low))
other_pattern (AtEntry none (NotWalked through first walk)) = omega (arith, through)
other_pattern (InRun left run inside walk) = left refl
other_pattern (InLastRun left run last walk) = left refl

pub states_are_held : StatesAreHeld
unfolding playable_subtune instrument_at
states_are_held = record {
  label = refl;
  order = refl;
  holds = holds;
  lists = λ is. refuses (put song_memory 0x1126 0) (Instruments 0) 1 refl refl refl is.lists;
  lent = λ is. (let byte = is.none_lent in omega (arith, byte));
  plays = λ is. (let byte = (is.voices 2 (omega arith)).plays.own.0 in omega (arith, byte));
  rests = λ is. rests (is.voices 0 (omega arith)).song.stands;
  other_order = λ is. (let byte = (is.voices 1 (omega arith)).song.has.low_is in omega (arith, byte));
  walked = walked;
  other_pattern = λ is. other_pattern is.song.stands;
  other_tick = λ is. (let byte = is.plays.own.0 in omega (arith, byte));
  other_subtune = λ is. (let byte = (is.voices 0 (omega arith)).song.has.low_is in omega (arith, byte));
}

-- ---- what is kept

unused : KeepsBut FILTER_TABLE (start_state no_options)
unused FilterTable used = absurd (used refl)
unused feature used = refl

transpose : UsesFeature no_options (unpacked_song worked_song) 1 (start_state no_options) Transpose
unfolding playable_subtune
transpose = record {
  channel = 3;
  is_channel = record { first = omega arith; last = omega arith };
  byte = 0xE1;
  entry = Contains-get_or (0xE1 ∷ 0x00 ∷ 0xD2 ∷ 0x01 ∷ []) 0 0 (omega arith);
  low = omega arith;
  high = omega arith;
}

repeat : UsesFeature no_options (unpacked_song worked_song) 1 (start_state no_options) Repeat
unfolding playable_subtune
repeat = record {
  channel = 3;
  is_channel = record { first = omega arith; last = omega arith };
  byte = 0xD2;
  entry = Contains-get_or (0xE1 ∷ 0x00 ∷ 0xD2 ∷ 0x01 ∷ []) 2 0 (omega arith);
  low = omega arith;
  high = omega arith;
}

pub kept_are_worked : KeptAreWorked
kept_are_worked = record {
  unused = unused;
  filter = λ keeps. both_ways false refl (keeps FilterTable (λ e. omega (arith, e)));
  transpose = λ keeps. both_ways false refl (keeps Transpose transpose);
  repeat = λ keeps. both_ways false refl (keeps Repeat repeat);
}

-- ---- voices that aren't run

pub held_are_worked : HeldAreWorked
held_are_worked = record {
  all = refl;
  first = refl;
  second = refl;
  third = refl;
  not_second = λ same. (let tick : 1 ≡ 2 = ap (λ (x : FrameState). x.two.tick) same in omega (arith, tick));
  not_third = λ same. (let row : 0 ≡ 1 = ap (λ (x : FrameState). x.three.row) same in omega (arith, row));
}
