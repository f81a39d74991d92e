-- When each byte of a song's lists stands in a memory like the one that is worked, by a test that is computed.
use Rattle.std.proofs.Common.{◌≡◌, ℕ, zero, suc, ◌+◌, ◌-◌, ◌<◌, ◌≤◌, ◌&&◌, Bool, true, false, List, []}
use Rattle.std.proofs.Common.{nat_eq, nat_le, nat_lt, slice_index_or, subst, arith}
use Rattle.std.proofs.lemmas.Bool.{eqb-true, leb-true, ltb-true, and_parts, agree_below, agree_below_at}
use Rattle.song_model.specs.declared.tables.TableRow.{TableRow}
use Rattle.song_model.specs.declared.tables.TableName.TheVariants.{Wave, Pulse, Filter, Speed}
use Rattle.packed_form.specs.declared.packed_songs.PackedSong.{PackedSong}
use Rattle.scopes.specs.Desk.{Layout}
use Rattle.player_memory.specs.Rooms.{IsElsewhere}
use Rattle.player_memory.specs.Playing.{place_in}
use Rattle.player_memory.specs.SongLists.{SongList, FrequencyLows, FrequencyHighs, Lefts, Rights, Periods, Instruments}
use Rattle.player_memory.specs.SongLists.{OneTimer, OneWave, GateFrom, EnvelopeFrom, OrderLows, OrderHighs}
use Rattle.player_memory.specs.SongLists.{PatternLows, PatternHighs}
use Rattle.player_memory.specs.SongLists.{OrderBytes, PatternBytes}
use Rattle.player_memory.specs.SongLists.{first_number, list_length, list_byte, list_label, IsSongList, HasNumber}
use Rattle.player_memory.specs.SongLists.{slide_rows, ListsStand}
use Rattle.player_memory.proofs.ReadFields.{read_below}
use Rattle.player_memory.specs.WorkedLists.{piece, all_pieces, song_with}

-- which list each piece is
abbrev list_of : ℕ → SongList
list_of n = (slice_index_or all_pieces n (piece FrequencyLows 0 0 0 [])).list

-- a byte is where lists are, and is the list's
abbrev pub byte_is_set : Layout → PackedSong → (ℕ → ℕ) → SongList → ℕ → Bool
byte_is_set layout packed at list number =
    nat_le 0x1108 (place_in layout (list_label list) number)
    && (nat_lt (place_in layout (list_label list) number) 0x1400
    && nat_eq (at (place_in layout (list_label list) number)) (list_byte layout packed list number))

abbrev list_is_set : Layout → PackedSong → (ℕ → ℕ) → SongList → Bool
list_is_set layout packed at list =
    agree_below (λ k. byte_is_set layout packed at list (first_number packed list + k)) (λ k. true)
    (list_length packed list)

abbrev pub all_are_set : Layout → PackedSong → (ℕ → ℕ) → Bool
all_are_set layout packed at =
    agree_below (λ n. list_is_set layout packed at (list_of n)) (λ n. true) 33

module _ (layout : Layout) (speeds : List TableRow) (at : ℕ → ℕ)
    (test : all_are_set layout (song_with speeds) at ≡ true) where
  abbrev packed : PackedSong
  packed = song_with speeds

  at_number : (n : ℕ) → n < 33 → list_is_set layout packed at (list_of n) ≡ true
  at_number n few = agree_below_at (λ k. list_is_set layout packed at (list_of k)) (λ k. true) 33 n test few

  found : (list : SongList) → IsSongList layout packed list → list_is_set layout packed at list ≡ true
  found FrequencyLows is = at_number 0 (omega arith)
  found FrequencyHighs is = at_number 1 (omega arith)
  found (Lefts Speed) is = at_number 2 (omega arith)
  found (Rights Speed) is = at_number 3 (omega arith)
  found Periods is = at_number 4 (omega arith)
  found (Lefts Wave) is = at_number 5 (omega arith)
  found (Rights Wave) is = at_number 6 (omega arith)
  found (Lefts Pulse) is = at_number 7 (omega arith)
  found (Rights Pulse) is = at_number 8 (omega arith)
  found (Lefts Filter) is = at_number 9 (omega arith)
  found (Rights Filter) is = at_number 10 (omega arith)
  found (Instruments zero) is = at_number 11 (omega arith)
  found (Instruments (suc zero)) is = at_number 12 (omega arith)
  found (Instruments (suc (suc zero))) is = at_number 13 (omega arith)
  found (Instruments (suc (suc (suc zero)))) is = at_number 14 (omega arith)
  found (Instruments (suc (suc (suc (suc zero))))) is = at_number 15 (omega arith)
  found (Instruments (suc (suc (suc (suc (suc zero)))))) is = at_number 16 (omega arith)
  found (Instruments (suc (suc (suc (suc (suc (suc zero))))))) is = at_number 17 (omega arith)
  found (Instruments (suc (suc (suc (suc (suc (suc (suc zero)))))))) is = absurd (let off : false ≡ true = is in cc)
  found (Instruments (suc (suc (suc (suc (suc (suc (suc (suc zero))))))))) is = at_number 19 (omega arith)
  found (Instruments (suc (suc (suc (suc (suc (suc (suc (suc (suc more)))))))))) is =
      let few = read_below packed (suc (suc (suc (suc (suc (suc (suc (suc (suc more))))))))) is in
      absurd (omega (arith, few))
  found OneTimer is = at_number 20 (omega arith)
  found OneWave is = absurd (let on : true ≡ false = is in cc)
  found GateFrom is = absurd (let off : false ≡ true = is in cc)
  found EnvelopeFrom is = at_number 18 (omega arith)
  found OrderLows is = at_number 21 (omega arith)
  found OrderHighs is = at_number 22 (omega arith)
  found PatternLows is = at_number 23 (omega arith)
  found PatternHighs is = at_number 24 (omega arith)
  found (OrderBytes zero zero) is = at_number 25 (omega arith)
  found (OrderBytes zero (suc zero)) is = at_number 26 (omega arith)
  found (OrderBytes zero (suc (suc zero))) is = at_number 27 (omega arith)
  found (OrderBytes zero (suc (suc (suc more)))) is = absurd (let few = is.1 in omega (arith, few))
  found (OrderBytes (suc zero) zero) is = at_number 28 (omega arith)
  found (OrderBytes (suc zero) (suc zero)) is = at_number 29 (omega arith)
  found (OrderBytes (suc zero) (suc (suc zero))) is = at_number 30 (omega arith)
  found (OrderBytes (suc zero) (suc (suc (suc more)))) is = absurd (let few = is.1 in omega (arith, few))
  found (OrderBytes (suc (suc more)) channel) is = absurd (let few = is.0 in omega (arith, few))
  found (PatternBytes zero) is = at_number 31 (omega arith)
  found (PatternBytes (suc zero)) is = at_number 32 (omega arith)
  found (PatternBytes (suc (suc more))) is = absurd (omega (arith, is))

  byte_at : (list : SongList) (number : ℕ) → IsSongList layout packed list → HasNumber packed list number →
      byte_is_set layout packed at list number ≡ true
  byte_at list number is has =
      let from = has.from in
      let to = has.to in
      let same : first_number packed list + (number - first_number packed list) ≡ number = omega (arith, from) in
      subst (λ n. byte_is_set layout packed at list n ≡ true) same
      (agree_below_at (λ k. byte_is_set layout packed at list (first_number packed list + k)) (λ k. true)
      (list_length packed list) (number - first_number packed list) (found list is) (omega (arith, from, to)))

  -- each place is behind the slides
  pub behind : (list : SongList) (number : ℕ) → IsSongList layout packed list → HasNumber packed list number →
      0x1108 ≤ place_in layout (list_label list) number
  behind list number is has = leb-true 0x1108 _ (and_parts _ _ (byte_at list number is has)).0

  pub lists_stand :
      ((place : ℕ) → 0x1108 ≤ place → place < 0x1400 → IsElsewhere layout (slide_rows packed) place) →
      ((place : ℕ) → 0x1108 ≤ place → place < 0x1400 → layout.may_read place ≡ true) →
      ListsStand layout packed at
  lists_stand away reads list number is has =
      let parts = and_parts _ _ (byte_at list number is has) in
      let from = leb-true 0x1108 _ parts.0 in
      let others = and_parts _ _ parts.1 in
      let to = ltb-true _ 0x1400 others.0 in
      record { elsewhere = away _ from to; reads = reads _ from to; is = eqb-true _ _ others.1 }
