-- What a song doesn't use doesn't count: two songs that agree on what one uses have the same orderlists, rows,
-- instruments and pointers, and come to the same rows.
use Rattle.std.proofs.Common.{◌≡◌, ℕ, List, Some, sym, ◌∙◌, ap, subst, inl, inr}
use Rattle.std.specs.List.{Contains}
use Rattle.song_model.specs.declared.rows.Row.{Row}
use Rattle.song_model.specs.declared.orders.Order.{Order}
use Rattle.song_model.specs.declared.orders.Subtune.{Subtune}
use Rattle.song_model.specs.declared.instruments.Instrument.{Instrument}
use Rattle.song_model.specs.declared.tables.TableRow.{TableRow}
use Rattle.song_model.specs.declared.tables.TableName.{TableName}
use Rattle.song_model.specs.declared.tables.TableName.TheVariants.{Wave, Pulse, Filter, Speed}
use Rattle.song_model.specs.declared.songs.Song.{Song}
use Rattle.song_model.specs.LookUp.{IsNumbered, table_of, table_row, speed_row, pattern_at, instrument_at, playable_subtunes}
use Rattle.song_model.specs.Pointers.{instrument_pointer, wave_row_table}
use Rattle.play_model.specs.Used.{IsPlayedOrder, IsPlayedByte, IsUsedPattern, IsUsedRow, IsUsedInstrument}
use Rattle.play_model.specs.Reached.{row_led_to, led_to, IsPlayedPointer, of_instrument, of_row, IsWaveRowPointer}
use Rattle.play_model.specs.Reached.{IsReached, played, pointed, led, IsPointer, of_played, of_wave_row}
use Rattle.play_model.specs.Playable.{HasPrograms, IsPlayable}
use Rattle.play_model.specs.UseLaws.{AgreesOnUsed}
use Rattle.play_model.proofs.ReachedRows.{led_by, no_speed_led}
use Rattle.play_model.proofs.PlayableSongs.{whole_lem}

-- ---- orderlists, patterns and instruments

-- they play the same orderlists, with the same patterns and instruments
pub record AgreesOnOrders (song other : Song) : Type 0 where
  pub subtunes : playable_subtunes other ≡ playable_subtunes song
  pub pattern : (n : ℕ) → IsUsedPattern song n → pattern_at other n ≡ pattern_at song n
  pub instrument : (i : ℕ) → IsUsedInstrument song i → instrument_at other i ≡ instrument_at song i

order_to : (song other : Song) → playable_subtunes other ≡ playable_subtunes song → (order : Order) →
    IsPlayedOrder song order → IsPlayedOrder other order
order_to song other same order o = record {
  subtune = o.subtune;
  playable = subst (λ (s : List Subtune). Contains s o.subtune) (sym same) o.playable;
  channel = o.channel;
  is_channel = o.is_channel;
  order_is = o.order_is;
}

pub byte_to : (song other : Song) → playable_subtunes other ≡ playable_subtunes song → (n : ℕ) → IsPlayedByte song n →
    IsPlayedByte other n
byte_to song other same n b =
    record { order = b.order; played = order_to song other same b.order b.played; entry = b.entry }

pub pattern_to : (song other : Song) → playable_subtunes other ≡ playable_subtunes song → (n : ℕ) →
    IsUsedPattern song n → IsUsedPattern other n
pattern_to song other same n u = record { byte = byte_to song other same n u.byte; is_pattern = u.is_pattern }

pub row_to : (song other : Song) → AgreesOnOrders song other → (row : Row) → IsUsedRow song row → IsUsedRow other row
row_to song other a row u = record {
  pattern = u.pattern;
  used = pattern_to song other a.subtunes u.pattern u.used;
  has = subst (λ (rows : List Row). Contains rows row) (sym (a.pattern u.pattern u.used)) u.has;
}

pub instrument_to : (song other : Song) → AgreesOnOrders song other → (i : ℕ) → IsUsedInstrument song i →
    IsUsedInstrument other i
instrument_to song other a i (inl first) = inl first
instrument_to song other a i (inr n) =
    inr (record { row = n.row; used = row_to song other a n.row n.used; names = n.names; some = n.some })

-- and so the other way round
rows_from : (song other : Song) → AgreesOnOrders song other → (row : Row) → IsUsedRow other row → IsUsedRow song row
rows_from song other a row u =
    let used = pattern_to other song (sym a.subtunes) u.pattern u.used in
    record {
      pattern = u.pattern;
      used = used;
      has = subst (λ (rows : List Row). Contains rows row) (a.pattern u.pattern used) u.has;
    }

instrument_from : (song other : Song) → AgreesOnOrders song other → (i : ℕ) → IsUsedInstrument other i →
    IsUsedInstrument song i
instrument_from song other a i (inl first) = inl first
instrument_from song other a i (inr n) =
    inr (record { row = n.row; used = rows_from song other a n.row n.used; names = n.names; some = n.some })

turned_orders : (song other : Song) → AgreesOnOrders song other → AgreesOnOrders other song
turned_orders song other a = record {
  subtunes = sym a.subtunes;
  pattern = λ n u. sym (a.pattern n (pattern_to other song (sym a.subtunes) n u));
  instrument = λ i u. sym (a.instrument i (instrument_from song other a i u));
}

played_pointer_to : (song other : Song) → AgreesOnOrders song other → (name : TableName) (p : ℕ) →
    IsPlayedPointer song name p → IsPlayedPointer other name p
played_pointer_to song other a name p (of_instrument i used is some) =
    let same = ap (λ (x : Instrument). instrument_pointer name x) (a.instrument i used) in
    of_instrument i (instrument_to song other a i used) (same ∙ is) some
played_pointer_to song other a name p (of_row row used command is some) =
    of_row row (row_to song other a row used) command is some

-- ---- rows of tables

-- both have what the one comes to, and alike
pub record AgreesOnRows (song other : Song) : Type 0 where
  pub orders : AgreesOnOrders song other
  pub here : (name : TableName) (p : ℕ) → HasPrograms name → IsReached song name p → IsNumbered (table_of song name) p
  pub there : (name : TableName) (p : ℕ) → HasPrograms name → IsReached song name p → IsNumbered (table_of other name) p
  pub row : (name : TableName) (p : ℕ) → HasPrograms name → IsReached song name p →
      table_row other name p ≡ table_row song name p
  pub speed : (p : ℕ) → IsPointer song Speed p → speed_row other p ≡ speed_row song p

wave_programs : HasPrograms Wave
wave_programs = λ e. cc

pub wave_row_same : (song other : Song) → AgreesOnRows song other → (p : ℕ) → IsReached song Wave p →
    table_row other Wave p ≡ table_row song Wave p
wave_row_same song other a p h = a.row Wave p wave_programs h

-- a row of the wave table points alike where it is alike
points_same : (song other : Song) (r : ℕ) → table_row other Wave r ≡ table_row song Wave r →
    (name : TableName) (p : ℕ) → IsWaveRowPointer song r name p → IsWaveRowPointer other r name p
points_same song other r same name p w = record {
  table = ap (λ (row : TableRow). wave_row_table row.left) same ∙ w.table;
  right = ap (λ (row : TableRow). row.right) same ∙ w.right;
  some = w.some;
}

program_led : (song other : Song) → AgreesOnRows song other → (name : TableName) (p : ℕ) → HasPrograms name →
    IsReached song name p →
    led_to name (table_of other name) p ≡ led_to name (table_of song name) p
program_led song other a name p programs h =
    let x = a.here name p programs h in
    let y = a.there name p programs h in
    let same = ap (λ (row : TableRow). row_led_to name row p) (a.row name p programs h) in
    led_by other name p y.first y.last ∙ same ∙ sym (led_by song name p x.first x.last)

-- a reached row leads to the same row in both, and a row of the speed table nowhere
led_there : (song other : Song) → AgreesOnRows song other → (name : TableName) (p q : ℕ) → IsReached song name p →
    led_to name (table_of song name) p ≡ Some q → led_to name (table_of other name) p ≡ Some q
led_there song other a Wave p q h e = program_led song other a Wave p (λ z. cc) h ∙ e
led_there song other a Pulse p q h e = program_led song other a Pulse p (λ z. cc) h ∙ e
led_there song other a Filter p q h e = program_led song other a Filter p (λ z. cc) h ∙ e
led_there song other a Speed p q h e = absurd (no_speed_led song.speed p q e)

led_here : (song other : Song) → AgreesOnRows song other → (name : TableName) (p q : ℕ) → IsReached song name p →
    led_to name (table_of other name) p ≡ Some q → led_to name (table_of song name) p ≡ Some q
led_here song other a Wave p q h e = sym (program_led song other a Wave p (λ z. cc) h) ∙ e
led_here song other a Pulse p q h e = sym (program_led song other a Pulse p (λ z. cc) h) ∙ e
led_here song other a Filter p q h e = sym (program_led song other a Filter p (λ z. cc) h) ∙ e
led_here song other a Speed p q h e = absurd (no_speed_led other.speed p q e)

pub reached_to : (song other : Song) → AgreesOnRows song other → (name : TableName) (p : ℕ) → IsReached song name p →
    IsReached other name p
reached_to song other a name p (played x) = played (played_pointer_to song other a.orders name p x)
reached_to song other a name p (pointed r h w) =
    pointed r (reached_to song other a Wave r h) (points_same song other r (wave_row_same song other a r h) name p w)
reached_to song other a name q (led p h e) =
    led p (reached_to song other a name p h) (led_there song other a name p q h e)

reached_from : (song other : Song) → AgreesOnRows song other → (name : TableName) (p : ℕ) → IsReached other name p →
    IsReached song name p
reached_from song other a name p (played x) =
    played (played_pointer_to other song (turned_orders song other a.orders) name p x)
reached_from song other a name p (pointed r h w) =
    let before = reached_from song other a Wave r h in
    pointed r before (points_same other song r (sym (wave_row_same song other a r before)) name p w)
reached_from song other a name q (led p h e) =
    let before = reached_from song other a name p h in
    led p before (led_here song other a name p q before e)

pub pointer_to : (song other : Song) → AgreesOnRows song other → (name : TableName) (p : ℕ) → IsPointer song name p →
    IsPointer other name p
pointer_to song other a name p (of_played x) = of_played (played_pointer_to song other a.orders name p x)
pointer_to song other a name p (of_wave_row r h w) =
    let same = wave_row_same song other a r h in
    of_wave_row r (reached_to song other a Wave r h) (points_same song other r same name p w)

pointer_from : (song other : Song) → AgreesOnRows song other → (name : TableName) (p : ℕ) → IsPointer other name p →
    IsPointer song name p
pointer_from song other a name p (of_played x) =
    of_played (played_pointer_to other song (turned_orders song other a.orders) name p x)
pointer_from song other a name p (of_wave_row r h w) =
    let before = reached_from song other a Wave r h in
    of_wave_row r before (points_same other song r (sym (wave_row_same song other a r before)) name p w)

-- ---- both ways

pub turned : (song other : Song) → AgreesOnRows song other → AgreesOnRows other song
turned song other a = record {
  orders = turned_orders song other a.orders;
  here = λ name p programs h. a.there name p programs (reached_from song other a name p h);
  there = λ name p programs h. a.here name p programs (reached_from song other a name p h);
  row = λ name p programs h. sym (a.row name p programs (reached_from song other a name p h));
  speed = λ p x. sym (a.speed p (pointer_from song other a Speed p x));
}

-- of a playable song the reached rows are stored
pub agrees_on_rows : (song other : Song) → IsPlayable song → AgreesOnUsed song other → AgreesOnRows song other
agrees_on_rows song other play a = record {
  orders = record { subtunes = a.subtunes; pattern = a.pattern; instrument = a.instrument };
  here = (whole_lem song play).row;
  there = a.stored;
  row = a.row;
  speed = a.speed;
}
