-- What a song that adds no row plays, the song plays.
use Rattle.std.proofs.Common.{◌≡◌, ℕ, ◌≤◌, List, refl, sym, ap, subst, inl, inr}
use Rattle.song_model.specs.declared.rows.Row.{Row}
use Rattle.song_model.specs.declared.orders.Order.{Order}
use Rattle.song_model.specs.declared.instruments.Instrument.{Instrument}
use Rattle.song_model.specs.declared.tables.TableRow.{TableRow}
use Rattle.song_model.specs.declared.tables.TableName.{TableName}
use Rattle.song_model.specs.declared.songs.Song.{Song}
use Rattle.song_model.specs.LookUp.{numbered, zero_instrument, zero_table_row, table_row, instrument_at, order_of}
use Rattle.play_model.specs.Used.{IsPlayedOrder, IsPlayedByte, IsUsedRow, IsUsedInstrument}
use Rattle.same_uses.specs.SameUses.{NamesNoMore, AddsNoRow}

module _ (song other : Song) (adds : AddsNoRow song other) where
  -- ---- what stands at a number

  pub same_row : (name : TableName) (p : ℕ) → table_row other name p ≡ table_row song name p
  unfolding table_row
  same_row name p = ap (λ (rows : List TableRow). numbered rows p zero_table_row) (adds.tables name)

  pub same_instrument : (i : ℕ) → instrument_at other i ≡ instrument_at song i
  unfolding instrument_at
  same_instrument i = ap (λ (all : List Instrument). numbered all i zero_instrument) adds.instruments

  -- ---- orderlists

  -- an orderlist that the song plays names all that the other's does
  pub record HasOrderFor (beyond : Order) : Type 0 where
    pub order : Order
    pub is_played : IsPlayedOrder song order
    pub names : NamesNoMore song other order beyond

  pub order_for : (beyond : Order) → IsPlayedOrder other beyond → HasOrderFor beyond
  order_for beyond is =
      let from = adds.subtunes is.subtune is.playable in
      record {
        order = order_of is.channel from.subtune;
        is_played = record {
          subtune = from.subtune;
          playable = from.playable;
          channel = is.channel;
          is_channel = is.is_channel;
          order_is = refl;
        };
        names = subst (NamesNoMore song other (order_of is.channel from.subtune)) (sym is.order_is)
            (from.order is.channel is.is_channel);
      }

  pub byte_played : (byte : ℕ) → 0xD0 ≤ byte → IsPlayedByte other byte → IsPlayedByte song byte
  byte_played byte high is =
      let from = order_for is.order is.played in
      record { order = from.order; played = from.is_played; entry = from.names.byte byte high is.entry }

  -- ---- rows and instruments

  pub row_used : (row : Row) → IsUsedRow other row → IsUsedRow song row
  row_used row used =
      let byte = used.used.byte in
      let from = order_for byte.order byte.played in
      let there = from.names.row row
      (record { pattern = used.pattern; entry = byte.entry; is_pattern = used.used.is_pattern; has = used.has }) in
      record {
        pattern = there.pattern;
        used = record {
          byte = record { order = from.order; played = from.is_played; entry = there.entry };
          is_pattern = there.is_pattern;
        };
        has = there.has;
      }

  pub instrument_used : (i : ℕ) → IsUsedInstrument other i → IsUsedInstrument song i
  instrument_used i (inl first) = inl first
  instrument_used i (inr named) = inr (record {
    row = named.row;
    used = row_used named.row named.used;
    names = named.names;
    some = named.some;
  })
