-- A packed song of one note in memory, worked by hand.
use Rattle.std.proofs.Common.{◌≡◌, ◌⊎◌, ℕ, zero, suc, ◌+◌, ◌-◌, ◌<◌, ◌≤◌, ◌&&◌, ◌||◌, Bool}
use Rattle.std.proofs.Common.{true, false, nat_eq, nat_le, nat_lt, inl, inr, refl, sym, ap, ◌∙◌, arith}
use Rattle.std.proofs.lemmas.Bool.Decides.{nat_tests}
use Rattle.std.proofs.lemmas.Bool.{and_parts, leb-true, ltb-true, eqb-true, agree_below, agree_below_at, cases_lt, le-ltb}
use Rattle.song_model.specs.LookUp.{table_row, instrument_at, playable_subtune}
use Rattle.song_model.specs.declared.tables.TableName.TheVariants.{Wave, Pulse, Filter, Speed}
use Rattle.play_model.specs.Freq.{freq}
use Rattle.play_model.specs.FilterStep.{filter_step}
use Rattle.song_facts.specs.declared.facts.Fact.{Fact}
use Rattle.song_facts.specs.declared.facts.Fact.TheVariants.{RowTone, RowSlide, RowOnce, FirstMask, Legato}
use Rattle.song_facts.specs.declared.facts.Fact.TheVariants.{NoHardRestart, WaveDelay, GateNote, NoteVibrato}
use Rattle.song_facts.specs.declared.facts.Fact.TheVariants.{VibratoDelay, NotePulse, NoteFilter, VoiceTempo}
use Rattle.song_facts.specs.declared.facts.Fact.TheVariants.{CommonTempo, FunkTurns, FunkChoice, OwnTimer, OwnWave}
use Rattle.song_facts.specs.declared.facts.Fact.TheVariants.{Subtunes, VoiceTwo, VoiceThree, FirstHolds}
use Rattle.song_facts.specs.Facts.{is_among, all_facts}
use Rattle.packed_form.specs.declared.packed_songs.PackedSong.{PackedSong}
use Rattle.play_model.specs.declared.options.Options.{Options}
use Rattle.code_runs.specs.Runs.{put}
use Rattle.scopes.specs.Desk.{Desk}
use Rattle.packed_form.specs.Unpacked.{unpacked_song}
use Rattle.packed_form.specs.WalkCount.{walk_count, most_looks, looks_from}
use Rattle.cpu6502.specs.declared.memory.TheConstants.{MEMORY_SIZE}
use Rattle.player_memory.specs.declared.labels.TheConstants.{SLIDES_LOW, SLIDES_HIGH, ORDERS, VARIABLES}
use Rattle.player_memory.specs.declared.labels.TheConstants.{FIRST_CLEARED}
use Rattle.player_memory.specs.FactLines.{fact_condition}
use Rattle.player_memory.specs.Holds.{IsPlayerLayout, PatternStands}
use Rattle.player_memory.specs.Rooms.{IsRoom, IsElsewhere, MayUse, MayUseSlide}
use Rattle.player_memory.specs.Playing.{place_in, IsListed}
use Rattle.player_memory.specs.SongLists.{SongList, FrequencyLows, FrequencyHighs, Lefts, Rights, Periods, Instruments}
use Rattle.player_memory.specs.SongLists.{OneTimer, OneWave, GateFrom, EnvelopeFrom}
use Rattle.player_memory.specs.SongLists.{OrderLows, OrderHighs, PatternLows, PatternHighs}
use Rattle.player_memory.specs.SongLists.{OrderBytes, PatternBytes}
use Rattle.player_memory.specs.SongLists.{HasNumber, HasSongLists, list_label, list_byte, ListsStand}
use Rattle.player_memory.specs.SongLists.{has_gate_from, has_envelope_from}
use Rattle.init_code.specs.InitBlock.{IsOutOf, MaySetTimer}
use Rattle.frame_code.specs.InitBlock.{IsCalledWith, ClearsVariables, HaveOrders, ReadsOffTimer}
use Rattle.worked_blocks.specs.WorkedNote.{note_packed, layout_with, mixed_layout, note_memory, note_desk, NoteIsLaid}
use Rattle.worked_blocks.specs.WorkedNote.{NoteBegins, NoteTurns, NotesAreWorked, NoteHasOrders}
use Rattle.frame_code.proofs.Laws.{beginnings_start}
use Rattle.player_memory.proofs.Laws.{InOnePiece, in_one_piece, off_piece, list_behind}
use Rattle.player_memory.proofs.Laws.{read_below}

-- with the lines that take one of several subtunes and without them
walk : (any : PackedSong) → walk_count (note_packed any) ≡ 2
unfolding walk_count most_looks looks_from
walk any = refl

module _ (several : Bool) where
  -- ---- places

  -- from $2000 on and below the registers no place is one of the room's
  piece : InOnePiece (layout_with several) 0x1000
  piece = record {
    from = omega arith;
    to = omega arith;
    each = λ label few. eqb-true _ _
        (agree_below_at (λ l. nat_eq ((layout_with several).address l) (0x1000 + l)) (λ _. true) 113 label refl few);
  }

  elsewhere_at : (place : ℕ) → 0x2000 ≤ place → place < 0xD400 → IsElsewhere (layout_with several) 1 place
  elsewhere_at place from to = record {
    variables = off_piece (layout_with several) 0x1000 piece place (inr (omega (arith, from)));
    slides_low = λ kept. inr (omega (arith, from));
    slides_high = λ kept. inr (omega (arith, from));
    low = λ e. omega (arith, from, e);
    high = λ e. omega (arith, from, e);
    registers = inl to;
  }

  -- ---- the lists

  -- a byte of a list stands where a test says so
  abbrev stands : (ℕ → ℕ) → PackedSong → SongList → ℕ → Bool
  stands at any list number =
      nat_eq (at (place_in (layout_with several) (list_label list) number))
      (list_byte (layout_with several) (note_packed any) list number)
      && (nat_le 0x2000 (place_in (layout_with several) (list_label list) number)
      && nat_lt (place_in (layout_with several) (list_label list) number) 0xD000)

  -- what may be read stands from $1000 up to $D000
  from_read : (place : ℕ) → (layout_with several).may_read place ≡ true → 0x0800 ≤ place
  from_read place reads =
      let low = leb-true 0x1000 place (and_parts (nat_le 0x1000 place) (nat_lt place 0xD000) reads).0 in
      omega (arith, low)

  to_read : (place : ℕ) → (layout_with several).may_read place ≡ true → place < 0xD000
  to_read place reads = ltb-true place 0xD000 (and_parts (nat_le 0x1000 place) (nat_lt place 0xD000) reads).1

  reads_at : (place : ℕ) → 0x2000 ≤ place → place < 0xD000 → (layout_with several).may_read place ≡ true
  reads_at place from to = grind (arith, nat_tests)

  listed : (at : ℕ → ℕ) (any : PackedSong) (list : SongList) (first count : ℕ) →
      agree_below (λ n. stands at any list (first + n)) (λ _. true) count ≡ true → (number : ℕ) → first ≤ number →
      number < first + count →
      IsListed (layout_with several) 1 at (list_label list) number (list_byte (layout_with several) (note_packed any) list number)
  listed at any list first count test number from to =
      let few : number - first < count = omega (arith, from, to) in
      let back : first + (number - first) ≡ number = omega (arith, from) in
      let all = agree_below_at (λ n. stands at any list (first + n)) (λ _. true) count (number - first) test few in
      let here : stands at any list number ≡ true = ap (λ n. stands at any list n) (sym back) ∙ all in
      let parts = and_parts _ _ here in
      let room = and_parts _ _ parts.1 in
      let low = leb-true 0x2000 (place_in (layout_with several) (list_label list) number) room.0 in
      let high = ltb-true (place_in (layout_with several) (list_label list) number) 0xD000 room.1 in record {
        elsewhere = elsewhere_at _ low (omega (arith, high));
        reads = reads_at _ low high;
        is = eqb-true _ _ parts.0;
      }

  -- whether each number of a list does
  abbrev all_stand : PackedSong → SongList → ℕ → ℕ → Bool
  all_stand any list first count = agree_below (λ n. stands note_memory any list (first + n)) (λ _. true) count

  here : (any : PackedSong) (list : SongList) (first count : ℕ) → all_stand any list first count ≡ true → (number : ℕ) →
      first ≤ number → number < first + count →
      IsListed (layout_with several) 1 note_memory (list_label list) number (list_byte (layout_with several) (note_packed any) list number)
  here any list first count test number from to = listed note_memory any list first count test number from to

  lows_stand : (any : PackedSong) → all_stand any FrequencyLows 48 1 ≡ true
  unfolding freq
  lows_stand any = refl

  highs_stand : (any : PackedSong) → all_stand any FrequencyHighs 48 1 ≡ true
  unfolding freq
  highs_stand any = refl

  instruments_stand : (any : PackedSong) (field : ℕ) → field < 9 → all_stand any (Instruments field) 1 1 ≡ true
  unfolding instrument_at
  instruments_stand any zero few = refl
  instruments_stand any (suc zero) few = refl
  instruments_stand any (suc (suc zero)) few = refl
  instruments_stand any (suc (suc (suc zero))) few = refl
  instruments_stand any (suc (suc (suc (suc zero)))) few = refl
  instruments_stand any (suc (suc (suc (suc (suc zero))))) few = refl
  instruments_stand any (suc (suc (suc (suc (suc (suc zero)))))) few = refl
  instruments_stand any (suc (suc (suc (suc (suc (suc (suc zero))))))) few = refl
  instruments_stand any (suc (suc (suc (suc (suc (suc (suc (suc zero)))))))) few = refl
  instruments_stand any (suc (suc (suc (suc (suc (suc (suc (suc (suc more))))))))) few = absurd (omega (arith, few))

  one_timer_stands : (any : PackedSong) → all_stand any OneTimer 0 1 ≡ true
  unfolding instrument_at
  one_timer_stands any = refl

  one_wave_stands : (any : PackedSong) → all_stand any OneWave 0 1 ≡ true
  unfolding instrument_at
  one_wave_stands any = refl

  gate_from_stands : (any : PackedSong) → all_stand any GateFrom 0 1 ≡ true
  gate_from_stands any = refl

  envelope_from_stands : (any : PackedSong) → all_stand any EnvelopeFrom 0 1 ≡ true
  envelope_from_stands any = refl

  orders_stand : (any : PackedSong) (subtune channel : ℕ) → subtune < 1 → channel < 3 →
      all_stand any (OrderBytes subtune channel) 0 3 ≡ true
  orders_stand any zero zero one few = refl
  orders_stand any zero (suc zero) one few = refl
  orders_stand any zero (suc (suc zero)) one few = refl
  orders_stand any zero (suc (suc (suc more))) one few = absurd (omega (arith, few))
  orders_stand any (suc more) channel one few = absurd (omega (arith, one))

  -- each orderlist has three bytes
  order_few : (any : PackedSong) (subtune channel number : ℕ) → subtune < 1 → channel < 3 →
      HasNumber (note_packed any) (OrderBytes subtune channel) number → number < 3
  order_few any zero zero number one few has = has.to
  order_few any zero (suc zero) number one few has = has.to
  order_few any zero (suc (suc zero)) number one few has = has.to
  order_few any zero (suc (suc (suc more))) number one few has = absurd (omega (arith, few))
  order_few any (suc more) channel number one few has = absurd (omega (arith, one))

  lists_stand : (any : PackedSong) → ListsStand (layout_with several) (note_packed any) note_memory
  unfolding table_row
  lists_stand any FrequencyLows number is has = here any FrequencyLows 48 1 (lows_stand any) number has.from has.to
  lists_stand any FrequencyHighs number is has = here any FrequencyHighs 48 1 (highs_stand any) number has.from has.to
  lists_stand any (Lefts Wave) number is has = here any (Lefts Wave) 1 2 refl number has.from has.to
  lists_stand any (Lefts Pulse) number is has = here any (Lefts Pulse) 1 2 refl number has.from has.to
  lists_stand any (Lefts Filter) number is has = here any (Lefts Filter) 1 0 refl number has.from has.to
  lists_stand any (Lefts Speed) number is has = here any (Lefts Speed) 0 1 refl number has.from has.to
  lists_stand any (Rights Wave) number is has = here any (Rights Wave) 1 2 refl number has.from has.to
  lists_stand any (Rights Pulse) number is has = here any (Rights Pulse) 1 2 refl number has.from has.to
  lists_stand any (Rights Filter) number is has = here any (Rights Filter) 1 0 refl number has.from has.to
  lists_stand any (Rights Speed) number is has = here any (Rights Speed) 0 1 refl number has.from has.to
  lists_stand any Periods number is has = here any Periods 0 1 refl number has.from has.to
  lists_stand any (Instruments field) number is has =
      here any (Instruments field) 1 1 (instruments_stand any field (read_below (note_packed any) field is)) number
      has.from has.to
  lists_stand any OneTimer number is has = here any OneTimer 0 1 (one_timer_stands any) number has.from has.to
  lists_stand any OneWave number is has = here any OneWave 0 1 (one_wave_stands any) number has.from has.to
  lists_stand any GateFrom number is has = here any GateFrom 0 1 (gate_from_stands any) number has.from has.to
  lists_stand any EnvelopeFrom number is has =
      here any EnvelopeFrom 0 1 (envelope_from_stands any) number has.from has.to
  lists_stand any OrderLows number is has = here any OrderLows 0 3 refl number has.from has.to
  lists_stand any OrderHighs number is has = here any OrderHighs 0 3 refl number has.from has.to
  lists_stand any PatternLows number is has = here any PatternLows 0 2 refl number has.from has.to
  lists_stand any PatternHighs number is has = here any PatternHighs 0 2 refl number has.from has.to
  lists_stand any (OrderBytes subtune channel) number is has =
      here any (OrderBytes subtune channel) 0 3 (orders_stand any subtune channel is.0 is.1) number has.from
      (order_few any subtune channel number is.0 is.1 has)
  lists_stand any (PatternBytes zero) number is has = here any (PatternBytes 0) 0 4 refl number has.from has.to
  lists_stand any (PatternBytes (suc zero)) number is has = here any (PatternBytes 1) 0 2 refl number has.from has.to
  lists_stand any (PatternBytes (suc (suc more))) number is has = absurd (omega (arith, is))

  slide_low : (any : PackedSong) (number : ℕ) → number < 1 → note_memory ((layout_with several).address SLIDES_LOW + number)
      ≡ (table_row (unpacked_song (note_packed any)) Speed number).right
  unfolding table_row
  slide_low any zero few = refl
  slide_low any (suc more) few = absurd (omega (arith, few))

  slide_high : (any : PackedSong) (number : ℕ) → number < 1 → note_memory ((layout_with several).address SLIDES_HIGH + number)
      ≡ (table_row (unpacked_song (note_packed any)) Speed number).left
  unfolding table_row
  slide_high any zero few = refl
  slide_high any (suc more) few = absurd (omega (arith, few))

  song_lists : (any : PackedSong) → HasSongLists (layout_with several) (note_packed any) note_memory
  song_lists any = record {
    lists = lists_stand any;
    slides = record {
      low = λ kept number few plain. slide_low any number few;
      high = λ kept number few plain. slide_high any number few;
      low_is = λ out. absurd (cc out);
      high_is = λ out. absurd (cc out);
      periods = λ out. absurd (cc out);
    };
  }

  -- ---- the layout

  room : IsRoom (layout_with several) 1
  room = record {
    variables = in_one_piece (layout_with several) 0x1000 piece;
    slides = λ kept. record {
      low = list_behind (layout_with several) 0x1000 piece SLIDES_LOW 1 (omega arith) (omega arith) (omega arith);
      high = list_behind (layout_with several) 0x1000 piece SLIDES_HIGH 1 (omega arith) (omega arith) (omega arith);
      apart = inl (omega arith);
    };
    pointer_low = omega arith;
    pointer_high = omega arith;
  }

  uses : MayUse (layout_with several) 1
  uses = record {
    reads = λ label few.
        agree_below_at (λ l. (layout_with several).may_read ((layout_with several).address l)) (λ _. true) 113 label refl few;
    writes = λ label few.
        agree_below_at (λ l. (layout_with several).may_write ((layout_with several).address l)) (λ _. true) 113 label refl few;
    slides = λ kept row few. slide row few;
    registers = λ register few.
        agree_below_at (λ n. (layout_with several).may_write (0xD400 + n)) (λ _. true) 25 register refl (omega (arith, few));
  }
    where
      slide : (row : ℕ) → row < 1 → MayUseSlide (layout_with several) row
      slide zero few = record { reads_low = refl; reads_high = refl; writes_low = refl; writes_high = refl }
      slide (suc more) few = absurd (omega (arith, few))

  player_layout : (any : PackedSong) → IsPlayerLayout (layout_with several) (note_packed any)
  player_layout any = record {
    room = room;
    uses = uses;
    next = record {
      frequency_lows = refl;
      frequency_highs = refl;
      wave_lefts = refl;
      wave_rights = refl;
      pulse_lefts = refl;
      filter_lefts = refl;
    };
    lists = λ list number is has. from_listed (lists_stand any list number is has);
    timer = omega arith;
    wave = omega arith;
    gates = omega arith;
    envelopes = omega arith;
    orders = orders;
    patterns = patterns;
    walks = omega (arith, walk any);
  }
    where
      from_listed : {label number byte : ℕ} → IsListed (layout_with several) 1 note_memory label number byte →
          0x0800 ≤ place_in (layout_with several) label number
      from_listed {label} {number} is = from_read (place_in (layout_with several) label number) is.reads

      orders : (number : ℕ) → number < 3 → (layout_with several).address (ORDERS + number) < MEMORY_SIZE
      orders zero few = omega arith
      orders (suc zero) few = omega arith
      orders (suc (suc zero)) few = omega arith
      orders (suc (suc (suc more))) few = absurd (omega (arith, few))

      patterns : (number : ℕ) → number < 2 → PatternStands (layout_with several) (note_packed any) number
      patterns zero few = record {
        from = omega arith;
        to = omega arith;
        before = elsewhere_at 0x4FFF (omega arith) (omega arith);
        reads_before = refl;
      }
      patterns (suc zero) few = record {
        from = omega arith;
        to = omega arith;
        before = elsewhere_at 0x50FF (omega arith) (omega arith);
        reads_before = refl;
      }
      patterns (suc (suc more)) few = absurd (omega (arith, few))

  -- ---- the variables

  -- what is none of them isn't cleared
  out_of : (count : ℕ) → count ≤ VARIABLES - FIRST_CLEARED → (place : ℕ) → IsElsewhere (layout_with several) 1 place →
      IsOutOf 0x1015 count place
  out_of count few place away = elim (cases_lt place 0x1015) [
    | inl low ↦ inl low
    | inr from ↦ elim (cases_lt place (0x1015 + count)) [
      | inl inside ↦
          let less : place - 0x1000 < VARIABLES = omega (arith, from, inside, few) in
          let at = piece.each (place - 0x1000) less in
          absurd (away.variables (place - 0x1000) less (omega (arith, at, from)))
      | inr behind ↦ inr behind
    ]
  ]

  -- each but the first ones is cleared, or 0
  each_cleared : (count label : ℕ) → FIRST_CLEARED ≤ label → label < VARIABLES →
      ((0x1015 ≤ (layout_with several).address label) × ((layout_with several).address label < 0x1015 + count))
      ⊎ (IsOutOf 0x1015 count ((layout_with several).address label) × (note_memory ((layout_with several).address label) ≡ 0))
  each_cleared count label from few =
      let at = piece.each label few in
      let test =
      agree_below_at (λ l. nat_lt l FIRST_CLEARED || nat_eq (note_memory ((layout_with several).address l)) 0)
      (λ _. true) 113 label refl few
      in
      let is : note_memory ((layout_with several).address label) ≡ 0 =
      eqb-true _ _ (rw (le-ltb label FIRST_CLEARED from) at test) in
      elim (cases_lt label (FIRST_CLEARED + count)) [
        | inl inside ↦ inl (omega (arith, at, from), omega (arith, at, inside))
        | inr behind ↦ inr (inr (omega (arith, at, behind)), is)
      ]

  clears : (any : PackedSong) (count : ℕ) → 1 ≤ count → count ≤ VARIABLES - FIRST_CLEARED →
      ClearsVariables (layout_with several) (note_packed any) count note_memory
  clears any count some few = record {
    clears = record {
      some = some;
      few = few;
      to = omega (arith, few);
      writes = λ number inside.
          agree_below_at (λ n. (layout_with several).may_write (0x1015 + n)) (λ _. true) 92 number refl
          (omega (arith, inside, few));
      low = λ kept row inside. inr (omega (arith, few));
      high = λ kept row inside. inr (omega (arith, few));
      front = λ label less. (let at = piece.each label (omega (arith, less)) in inl (omega (arith, at, less)));
      each = each_cleared count;
    };
    lists = λ list number is has.
        out_of count few (place_in (layout_with several) (list_label list) number)
        (lists_stand any list number is has).elsewhere;
  }

  out_of_none : (place : ℕ) → 0x1015 ≤ place → place < 0x1071 → IsOutOf 0x1015 92 place → ⊥
  out_of_none place from to (inl low) = omega (arith, from, low)
  out_of_none place from to (inr high) = omega (arith, to, high)

  -- the second that is to be cleared stands behind the first
  second_is : (at : ℕ → ℕ) →
      ((0x1015 ≤ 0x1016) × (0x1016 < 0x1016)) ⊎ (IsOutOf 0x1015 1 0x1016 × (at 0x1016 ≡ 0)) → at 0x1016 ≡ 0
  second_is at (inl inside) = let less : 0x1016 < 0x1016 = inside.1 in absurd (omega (arith, less))
  second_is at (inr out) = out.1

  no_one : (any : PackedSong) → ¬ ClearsVariables (layout_with several) (note_packed any) 1 (put note_memory 0x1016 1)
  no_one any has =
      let is : 1 ≡ 0 = second_is (put note_memory 0x1016 1) (has.clears.each 22 (omega arith) (omega arith)) in
      omega (arith, is)

  no_mixed : (any : PackedSong) →
      ¬ ClearsVariables mixed_layout (note_packed any) (VARIABLES - FIRST_CLEARED) note_memory
  no_mixed any has =
      out_of_none 0x1021 (omega arith) (omega arith)
      (has.lists (Lefts Wave) 1 tt (record { from = omega arith; to = omega arith }))

  -- ---- what it is

  no_wave : (any : PackedSong) → ¬ HasSongLists (layout_with several) (note_packed any) (put note_memory 0x2701 0x11)
  unfolding table_row
  no_wave any has =
      let is : 0x11 ≡ 0x41 = (has.lists (Lefts Wave) 1 tt (record { from = omega arith; to = omega arith })).is in
      omega (arith, is)

  no_first : (any : PackedSong) → ¬ HasSongLists (layout_with several) (note_packed any) (put note_memory 0x2030 1)
  unfolding freq
  no_first any has =
      let is : 1 ≡ 0x68 = (has.lists FrequencyLows 48 tt (record { from = omega arith; to = omega arith })).is in
      omega (arith, is)

  no_last : (any : PackedSong) → ¬ HasSongLists (layout_with several) (note_packed any) (put note_memory 0x2230 1)
  unfolding freq
  no_last any has =
      let is : 1 ≡ 0x11 = (has.lists FrequencyHighs 48 tt (record { from = omega arith; to = omega arith })).is in
      omega (arith, is)

  no_timer : (any : PackedSong) → any.facts.own_timer ≡ false →
      ¬ HasSongLists (layout_with several) (note_packed any) (put note_memory 0x3E00 3)
  unfolding instrument_at
  no_timer any one has =
      let is : 3 ≡ 2 = (has.lists OneTimer 0 one (record { from = omega arith; to = omega arith })).is in
      omega (arith, is)

  no_first_wave : (any : PackedSong) → any.facts.own_wave ≡ false →
      ¬ HasSongLists (layout_with several) (note_packed any) (put note_memory 0x3F00 0x11)
  unfolding instrument_at
  no_first_wave any one has =
      let is : 0x11 ≡ 9 = (has.lists OneWave 0 one (record { from = omega arith; to = omega arith })).is in
      omega (arith, is)

  no_gate_from : (any : PackedSong) → has_gate_from (note_packed any) ≡ true →
      ¬ HasSongLists (layout_with several) (note_packed any) (put note_memory 0x4200 1)
  no_gate_from any ordered has =
      let is : 1 ≡ 2 = (has.lists GateFrom 0 ordered (record { from = omega arith; to = omega arith })).is in
      omega (arith, is)

  no_envelope_from : (any : PackedSong) → has_envelope_from (note_packed any) ≡ true →
      ¬ HasSongLists (layout_with several) (note_packed any) (put note_memory 0x4300 1)
  no_envelope_from any ordered has =
      let is : 1 ≡ 2 = (has.lists EnvelopeFrom 0 ordered (record { from = omega arith; to = omega arith })).is in
      omega (arith, is)

  no_order : (any : PackedSong) → ¬ HasSongLists (layout_with several) (note_packed any) (put note_memory 0x4802 1)
  no_order any has =
      let bytes =
      has.lists (OrderBytes 0 0) 2 (omega arith, omega arith) (record { from = omega arith; to = omega arith }) in
      let is : 1 ≡ 0 = bytes.is in omega (arith, is)

  no_pattern : (any : PackedSong) → ¬ HasSongLists (layout_with several) (note_packed any) (put note_memory 0x5101 1)
  no_pattern any has =
      let bytes = has.lists (PatternBytes 1) 1 (omega arith) (record { from = omega arith; to = omega arith }) in
      let is : 1 ≡ 0 = bytes.is in omega (arith, is)

  no_slide : (any : PackedSong) → ¬ HasSongLists (layout_with several) (note_packed any) (put note_memory 0x1100 1)
  unfolding table_row
  no_slide any has = let is : 1 ≡ 0 = has.slides.low refl 0 (omega arith) (omega arith) in omega (arith, is)

  timer : MaySetTimer (layout_with several)
  timer = record { low = λ timed. refl; high = λ timed. refl }

  off_timer : ReadsOffTimer (layout_with several)
  off_timer timed place reads = inl (let to = to_read place reads in omega (arith, to))

  -- the voices' orderlists
  have_orders : HaveOrders (layout_with several) 0 note_memory
  have_orders off zero few = record { low_is = refl; high_is = refl }
  have_orders off (suc zero) few = record { low_is = refl; high_is = refl }
  have_orders off (suc (suc zero)) few = record { low_is = refl; high_is = refl }
  have_orders off (suc (suc (suc voice))) few = absurd (omega (arith, few))

laid : (any : PackedSong) → NoteIsLaid (note_packed any)
laid any = record {
  is_layout = player_layout true any;
  off_stack = λ place reads. inr (let from = from_read true place reads in omega (arith, from));
  timer = timer true;
  off_timer = off_timer true;
  clears = clears true any;
  none = λ has. (let some = has.clears.some in omega (arith, some));
  one = no_one true any;
  mixed = no_mixed true any;
  lists = song_lists true any;
  wave = no_wave true any;
  first_frequency = no_first true any;
  last_frequency = no_last true any;
  one_timer = no_timer true any;
  one_wave = no_first_wave true any;
  gate_from = no_gate_from true any;
  envelope_from = no_envelope_from true any;
  order = no_order true any;
  pattern = no_pattern true any;
  slide = no_slide true any;
}

called : (any : PackedSong) (desk : Desk) → IsCalledWith (note_packed any) 0 (note_desk desk 0)
unfolding playable_subtune
called any desk = record { a = refl; stored = omega arith; byte = omega arith; playable = refl }

-- each fact of which lines are kept is one of the song's
are_marked : (several : Bool) (fact : Fact) → (layout_with several).holds (fact_condition fact) ≡ true →
    is_among (record all_facts { subtunes = several }) fact ≡ true
are_marked several RowTone on = refl
are_marked several RowSlide on = refl
are_marked several RowOnce on = refl
are_marked several FirstMask on = refl
are_marked several Legato on = refl
are_marked several NoHardRestart on = refl
are_marked several WaveDelay on = refl
are_marked several GateNote on = refl
are_marked several NoteVibrato on = refl
are_marked several VibratoDelay on = refl
are_marked several NotePulse on = refl
are_marked several NoteFilter on = refl
are_marked several VoiceTempo on = refl
are_marked several CommonTempo on = refl
are_marked several FunkTurns on = refl
are_marked several FunkChoice on = refl
are_marked several OwnTimer on = refl
are_marked several OwnWave on = refl
are_marked several Subtunes on = on
are_marked several VoiceTwo on = refl
are_marked several VoiceThree on = refl
are_marked several FirstHolds on = refl

begins : (any : PackedSong) (desk : Desk) (o : Options) → NoteBegins (note_packed any) desk o
begins any desk o = record {
  called = called any desk;
  second = λ two. (let few : 1 < 1 = two.stored in omega (arith, few));
  begins = λ several facts count some few e is.
      beginnings_start (layout_with several) (note_packed any) o 0 count e (note_desk desk 0) is
      (player_layout several any) (λ fact on. ap (λ its. is_among its fact) facts ∙ are_marked several fact on)
      (timer several) (off_timer several) (clears several any count some few) (have_orders several) (called any desk)
      (song_lists several any);
}

orders_are_worked : NoteHasOrders
orders_are_worked = record {
  has = have_orders false;
  none = λ have. (let is : 0 ≡ 0x48 = (have refl 0 (omega arith)).high_is in omega (arith, is));
  low = λ have. (let is : 1 ≡ 0 = (have refl 2 (omega arith)).low_is in omega (arith, is));
  high = λ have. (let is : 0x4A ≡ 0x49 = (have refl 1 (omega arith)).high_is in omega (arith, is));
  several = λ off. absurd cc;
}

turns : (any : PackedSong) (o : Options) → NoteTurns (note_packed any) o
unfolding filter_step playable_subtune
turns any o = record { counts = refl; first = refl; order = refl }

pub notes_are_worked : NotesAreWorked
notes_are_worked = record { turns = turns; laid = laid; orders = orders_are_worked; begins = begins }
