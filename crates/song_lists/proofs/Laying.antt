-- What the player asks of memory and of a layout, in all that the lists decide.
use Rattle.std.proofs.Common.{◌≡◌, ℕ, inl, inr, true, arith}
use Rattle.packed_form.specs.declared.packed_songs.PackedSong.{PackedSong}
use Rattle.asm6502.specs.Standing.{BytesStand}
use Rattle.scopes.specs.Desk.{Layout}
use Rattle.player_memory.specs.declared.conditions.TheConstants.{NOTE_DEPENDENT}
use Rattle.player_memory.specs.Rooms.{IsElsewhere, AreSlides}
use Rattle.player_memory.specs.Playing.{place_in}
use Rattle.player_memory.specs.Fetching.{place_before}
use Rattle.player_memory.specs.SongLists.{HasSongLists, list_label, slide_rows}
use Rattle.song_lists.specs.DataLists.{data_bytes}
use Rattle.song_lists.specs.ListLaws.{IsListLayout, IsInside, IsBesideSlides, IsListRoom, AreLaid}
use Rattle.song_lists.proofs.Inside.{data_stands, lists_stand_inside, orders_stand_inside, patterns_stand_inside}
use Rattle.song_lists.proofs.Inside.{shared_stand_inside, slides_are_inside, next_bytes_are_next}

-- the labels have such addresses
laid_in : (layout : Layout) (packed : PackedSong) (start : ℕ) → IsListRoom layout packed start →
    IsListLayout layout packed start
laid_in layout packed start room = record {
  laid = room.laid;
  ends = let to = room.to in omega arith;
}

-- a place among the bytes, beside the slides, is elsewhere
elsewhere : (layout : Layout) (packed : PackedSong) (start place : ℕ) → IsListRoom layout packed start →
    IsInside layout packed start place → IsBesideSlides layout packed place →
    IsElsewhere layout (slide_rows packed) place
elsewhere layout packed start place room inside beside =
    let least = room.from in
    let most = room.to in
    let pointer = room.pointer in
    let from = inside.from in
    let to = inside.to in record {
      variables = λ label few e.
          elim (room.variables label few) [
            | inl front ↦ omega arith
            | inr behind ↦ omega arith
          ];
      slides_low = beside.low;
      slides_high = beside.high;
      low = omega arith;
      high = omega arith;
      registers = inl (omega arith);
    }

pub song_lists_stand : (layout : Layout) (packed : PackedSong) (start : ℕ) (at : ℕ → ℕ) →
    IsListRoom layout packed start →
    BytesStand at start (data_bytes (layout.holds NOTE_DEPENDENT) packed start) → HasSongLists layout packed at
song_lists_stand layout packed start at room bytes =
    let stand = data_stands layout packed start at (laid_in layout packed start room) bytes in record {
      lists = λ list number is has.
          let here = lists_stand_inside layout packed start list number (laid_in layout packed start room) is has in
          record {
            elsewhere = elsewhere layout packed start (place_in layout (list_label list) number) room here.0 here.1;
            reads = room.reads (place_in layout (list_label list) number) here.0;
            is = stand.lists list number is has;
          };
      slides = stand.slides;
    }

slides_are : (layout : Layout) (packed : PackedSong) (start : ℕ) → IsListRoom layout packed start →
    layout.holds NOTE_DEPENDENT ≡ true → AreSlides layout (slide_rows packed)
slides_are layout packed start room e =
    let inside = slides_are_inside layout packed start (laid_in layout packed start room) e in
    let least = room.from in
    let most = room.to in
    let from = inside.from in
    let apart = inside.apart in
    let to = inside.to in record {
      low = record {
        from = omega arith;
        to = omega arith;
        outside = λ variable few.
            elim (room.variables variable few) [
              | inl front ↦ inl (omega arith)
              | inr behind ↦ inr (omega arith)
            ];
      };
      high = record {
        from = omega arith;
        to = omega arith;
        outside = λ variable few.
            elim (room.variables variable few) [
              | inl front ↦ inl (omega arith)
              | inr behind ↦ inr (omega arith)
            ];
      };
      apart = inl apart;
    }

pub lists_are_laid : (layout : Layout) (packed : PackedSong) (start : ℕ) → IsListRoom layout packed start →
    AreLaid layout packed
lists_are_laid layout packed start room =
    let laid = laid_in layout packed start room in
    let least = room.from in
    let most = room.to in
    let shared = shared_stand_inside layout packed start laid in record {
      slides = slides_are layout packed start room;
      next = next_bytes_are_next layout packed start laid;
      lists = λ list number is has.
          let from = (lists_stand_inside layout packed start list number laid is has).0.from in omega arith;
      timer = omega (arith, shared.0);
      wave = omega (arith, shared.1);
      gates = omega (arith, shared.2);
      envelopes = omega (arith, shared.3);
      orders = λ number inside.
          let to = (orders_stand_inside layout packed start number laid inside).1 in omega arith;
      patterns = λ number inside.
          let there = patterns_stand_inside layout packed start number laid inside in
          let to = there.to in record {
            from = there.from;
            to = omega arith;
            before = elsewhere layout packed start (place_before layout number) room there.inside there.beside;
            reads_before = room.reads (place_before layout number) there.inside;
          };
    }
