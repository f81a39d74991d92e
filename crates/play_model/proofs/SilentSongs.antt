-- Songs that play rests: each entry is the number of a stored pattern, and nothing points at a row but instrument 1.
-- Silent songs can be played: they have no instrument, so no row of a table is reached.
use Rattle.std.proofs.Common.{◌≡◌, ◌≢◌, ℕ, ◌-◌, ◌<◌, List, [], ◌∷◌, length, get_or, drop}
use Rattle.std.proofs.Common.{filter, All, Any, Contains, None, Some, slice_get, ◌⊎◌, inl, inr, refl, sym}
use Rattle.std.proofs.Common.{◌∙◌, subst, arith}
use Rattle.std.proofs.lemmas.List.{length-drop}
use Rattle.std.proofs.lemmas.List.Elements.{All-head, All-drop, All-contains, All-filter}
use Rattle.std.proofs.lemmas.Option.{get_or_from_slice_get, slice_get_within, slice_get-get_or}
use Rattle.song_model.specs.declared.rows.Row.{Row}
use Rattle.song_model.specs.declared.orders.Order.{Order}
use Rattle.song_model.specs.declared.orders.Subtune.{Subtune}
use Rattle.song_model.specs.declared.tables.TableName.{TableName}
use Rattle.song_model.specs.declared.tables.TableName.TheVariants.{Wave, Pulse, Filter, Speed}
use Rattle.song_model.specs.declared.songs.Song.{Song}
use Rattle.song_model.specs.Silent.{IsSilentRow, IsSilentOrder, IsSilentSubtune, IsSilent}
use Rattle.song_model.specs.Endless.{IsPatternByte, IsEndless}
use Rattle.song_model.specs.LookUp.{zero_instrument, instrument_at, pattern_at, order_of, is_playable_subtune}
use Rattle.song_model.specs.Pointers.{instrument_pointer, command_table}
use Rattle.song_model.proofs.Laws.{silent_is_playable}
use Rattle.play_model.specs.declared.unplayable.Unplayable.{Unplayable}
use Rattle.play_model.specs.declared.unplayable.Unplayable.TheVariants.{NoSubtune, MissingPattern, BadRestart}
use Rattle.play_model.specs.declared.unplayable.Unplayable.TheVariants.{TableOverflow, PointerToJump}
use Rattle.play_model.specs.Used.{IsPlayedOrder, IsUsedRow}
use Rattle.play_model.specs.Reached.{IsPlayedPointer, of_instrument, of_row, IsReached, played, pointed, led, IsPointer}
use Rattle.play_model.specs.Reached.{of_played, of_wave_row}
use Rattle.play_model.specs.Playable.{HasOrder, MissesPattern, RunsOff, PointsAtJump, Fails}
use Rattle.play_model.specs.SilentLaws.{SilentSongsCanBePlayed}
use Rattle.play_model.proofs.Choices.{chosen, by_channel}

-- its one subtune plays rests, whatever its tables have
pub record PlaysRests (song : Song) : Type 0 where
  pub one_subtune : length song.subtunes ≡ 1
  pub subtunes : All (IsSilentSubtune song.patterns) song.subtunes

rests_of : (song : Song) → IsSilent song → PlaysRests song
rests_of song silent = record { one_subtune = silent.one_subtune; subtunes = silent.subtunes }

-- ---- the orderlists

some_playable : (patterns : List (List Row)) (subtunes : List Subtune) → length subtunes ≡ 1 →
    All (IsSilentSubtune patterns) subtunes → filter is_playable_subtune subtunes ≢ []
some_playable patterns [] n s none = omega arith
some_playable patterns (subtune ∷ others) n s none =
    let first = silent_is_playable patterns subtune (All-head (IsSilentSubtune patterns) subtune others s) in
    let nothing : subtune ∷ filter is_playable_subtune others ≡ [] = rw first at none in
    cc

silent_order_of : (patterns : List (List Row)) (subtune : Subtune) (c : ℕ) → IsSilentSubtune patterns subtune →
    IsSilentOrder patterns (order_of c subtune)
silent_order_of patterns subtune c s =
    by_channel (IsSilentOrder patterns) c subtune.one subtune.two subtune.three s.one s.two s.three

-- what holds of each item holds of one that is found
found_is : {X : Type 0} (P : X → Type 0) (items : List X) (i : ℕ) (item : X) → All P items →
    slice_get items i ≡ Some item → P item
found_is P items i item each found =
    subst P (get_or_from_slice_get items i item item found) (each i item (slice_get_within items i item found))

pub stored_is_silent : (song : Song) (s c : ℕ) (order : Order) → PlaysRests song → HasOrder song s c order →
    IsSilentOrder song.patterns order
stored_is_silent song s c order silent has =
    rw has.order_is
    (silent_order_of song.patterns has.subtune c
    (found_is (IsSilentSubtune song.patterns) song.subtunes (s - 1) has.subtune silent.subtunes has.subtune_is))

pub none_missing : (song : Song) (s c place pattern : ℕ) → PlaysRests song → ¬ MissesPattern song s c place pattern
none_missing song s c place pattern silent m =
    let order = stored_is_silent song s c m.order silent m.has in
    let below = found_is (λ byte. byte < length song.patterns) m.order.entries place pattern order.stored m.names in
    let missing = m.missing in
    omega arith

-- what holds of each item holds of some, where there is one
some_is : {X : Type 0} (P : X → Type 0) (items : List X) → 0 < length items → All P items → Any P items
some_is P [] there each = absurd (omega arith)
some_is P (item ∷ others) there each = (0, item, there, refl, All-head P item others each)

pub silent_is_endless : (patterns : List (List Row)) (order : Order) → IsSilentOrder patterns order → IsEndless order
silent_is_endless patterns order s =
    let restart = s.restart in
    let rest = drop order.restart order.entries in
    let there : 0 < length rest = omega (arith, length-drop order.restart order.entries) in
    record {
      restart = restart;
      pattern = some_is IsPatternByte rest there (All-drop IsPatternByte order.restart order.entries s.plain);
    }

-- ---- the rows of the tables

played_is_silent : (song : Song) (order : Order) → PlaysRests song → IsPlayedOrder song order →
    IsSilentOrder song.patterns order
played_is_silent song order silent p =
    rw p.order_is
    (silent_order_of song.patterns p.subtune p.channel
    (All-contains (IsSilentSubtune song.patterns) (filter is_playable_subtune song.subtunes) p.subtune
    (All-filter is_playable_subtune (IsSilentSubtune song.patterns) song.subtunes silent.subtunes) p.playable))

silent_pattern : (song : Song) (order : Order) (byte : ℕ) → IsSilentOrder song.patterns order →
    Contains order.entries byte →
    All IsSilentRow (pattern_at song byte)
unfolding pattern_at
silent_pattern song order byte s h =
    s.rows byte (get_or song.patterns byte []) h
    (slice_get-get_or song.patterns byte []
    (All-contains (λ b. b < length song.patterns) order.entries byte s.stored h))

pub used_is_silent : (song : Song) (row : Row) → PlaysRests song → IsUsedRow song row → IsSilentRow row
used_is_silent song row silent u =
    let byte = u.used.byte in
    All-contains IsSilentRow _ row
    (silent_pattern song byte.order u.pattern (played_is_silent song byte.order silent byte.played) byte.entry) u.has

zero_pointer : (name : TableName) → instrument_pointer name zero_instrument ≡ 0
zero_pointer Wave = refl
zero_pointer Pulse = refl
zero_pointer Filter = refl
zero_pointer Speed = refl

no_command_table : (command : ℕ) (name : TableName) → command ≡ 0 → command_table command ≢ Some name
no_command_table command name zero some = let nothing : None ≡ Some name = rw zero at some in cc

-- what is played points by instrument 1 alone
pub pointer_is : (song : Song) (name : TableName) (p : ℕ) → PlaysRests song → IsPlayedPointer song name p →
    (instrument_pointer name (instrument_at song 1) ≡ p) × (p ≢ 0)
pointer_is song name p rests (of_instrument i (inl first) is some) = (rw first at is, some)
pointer_is song name p rests (of_instrument i (inr named) is some) =
    absurd (named.some (sym named.names ∙ (used_is_silent song named.row rests named.used).instrument))
pointer_is song name p rests (of_row row used table is some) =
    absurd (no_command_table row.command name (used_is_silent song row rests used).command table)

no_instrument : (song : Song) (n : ℕ) → song.instruments ≡ [] → instrument_at song n ≡ zero_instrument
unfolding instrument_at
no_instrument song n h = rw h (chosen (λ i. i ≡ zero_instrument) _ _ _ refl refl)

no_pointer : (song : Song) (name : TableName) (p : ℕ) → IsSilent song → ¬ IsPlayedPointer song name p
no_pointer song name p silent x =
    let w = pointer_is song name p (rests_of song silent) x in
    w.1 (sym w.0 ∙ (rw (no_instrument song 1 silent.instruments) (zero_pointer name)))

none_reached : (song : Song) (name : TableName) (p : ℕ) → IsSilent song → ¬ IsReached song name p
none_reached song name p silent (played x) = no_pointer song name p silent x
none_reached song name p silent (pointed r h w) = none_reached song Wave r silent h
none_reached song name q silent (led p h e) = none_reached song name p silent h

none_named : (song : Song) (name : TableName) (row : ℕ) → IsSilent song → ¬ IsPointer song name row
none_named song name row silent (of_played x) = no_pointer song name row silent x
none_named song name row silent (of_wave_row r h w) = none_reached song Wave r silent h

none_at_jump : (song : Song) (name : TableName) (row : ℕ) → IsSilent song → ¬ PointsAtJump song name row
none_at_jump song name row silent p =
    elim p.named [
      | inl pointer ↦ none_named song name row silent pointer
      | inr target ↦ none_reached song name target.p silent target.reached
    ]

-- where a song plays rests, only its tables can fail
pub record TablesFail (song : Song) (refusal : Unplayable) : Type 0 where
  pub name : TableName
  pub row : ℕ
  pub how : ((refusal ≡ TableOverflow name row) × RunsOff song name row)
      ⊎ ((refusal ≡ PointerToJump name row) × PointsAtJump song name row)

pub tables_alone : (song : Song) (refusal : Unplayable) → PlaysRests song → Fails song refusal →
    TablesFail song refusal
tables_alone song NoSubtune s h = absurd (some_playable song.patterns song.subtunes s.one_subtune s.subtunes h)
tables_alone song (MissingPattern n c place pattern) s h = absurd (none_missing song n c place pattern s h)
tables_alone song (BadRestart n c) s h =
    absurd (h.stops (silent_is_endless song.patterns h.order (stored_is_silent song n c h.order s h.has)))
tables_alone song (TableOverflow name row) s h = record { name = name; row = row; how = inl (refl, h) }
tables_alone song (PointerToJump name row) s h = record { name = name; row = row; how = inr (refl, h) }

pub silent_songs_can_be_played_lem : SilentSongsCanBePlayed
silent_songs_can_be_played_lem song s refusal h =
    let t = tables_alone song refusal (rests_of song s) h in
    elim t.how [
      | inl runs_off ↦ none_reached song t.name t.row s runs_off.1.reached
      | inr at_jump ↦ none_at_jump song t.name t.row s at_jump.1
    ]
