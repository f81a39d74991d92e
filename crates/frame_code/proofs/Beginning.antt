-- A subtune begins, as a call.
use Rattle.std.proofs.Common.{◌≡◌, ℕ, zero, suc, ◌+◌, ◌*◌, ◌/◌, ◌%◌, ◌<◌}
use Rattle.std.proofs.Common.{◌&&◌, true}
use Rattle.std.proofs.Common.{length, refl, sym, ap, ◌∙◌, subst, arith}
use Rattle.std.proofs.lemmas.Bool.{and_parts}
use Rattle.song_model.specs.declared.orders.Order.{Order}
use Rattle.song_model.specs.declared.orders.Subtune.{Subtune}
use Rattle.song_model.specs.LookUp.{has_entries, is_playable_subtune, order_of}
use Rattle.play_model.specs.declared.options.Options.{Options}
use Rattle.play_model.specs.State.{start_state}
use Rattle.play_model.specs.Frame.{subtune_at}
use Rattle.song_facts.specs.declared.facts.Fact.TheVariants.{Subtunes}
use Rattle.packed_form.specs.declared.packed_songs.PackedSong.{PackedSong}
use Rattle.packed_form.specs.Unpacked.{unpacked_song}
use Rattle.scopes.specs.Desk.{Desk, Layout}
use Rattle.scopes.specs.Trees.{Tree}
use Rattle.scopes.specs.Meaning.{Ran, each_one, ran}
use Rattle.scope_calls.specs.Meaning.{cleared, returned, entrance_ran}
use Rattle.player_memory.specs.declared.conditions.TheConstants.{NOTE_DEPENDENT}
use Rattle.player_memory.specs.declared.labels.TheConstants.{FIRST_CLEARED, ORDERS_LOW, ORDERS_HIGH}
use Rattle.player_memory.specs.FactLines.{KeepsMarkedAlone}
use Rattle.player_memory.specs.Rooms.{IsRoom, MayUse, IsElsewhere}
use Rattle.player_memory.specs.Playing.{place_in, IsListed, SlidesStay}
use Rattle.player_memory.specs.SongLists.{SongList, IsSongList, HasNumber, HasSongLists, list_label, list_byte}
use Rattle.player_memory.specs.SongLists.{pattern_bytes, slide_rows, OrderLows, OrderHighs}
use Rattle.player_memory.specs.Starting.{Begins}
use Rattle.player_memory.specs.Holds.{Holds, VoiceHolds, IsPlayerLayout, look_of, order_in, order_label}
use Rattle.player_memory.proofs.Laws.{beginnings_play}
use Rattle.player_text.specs.declared.texts.Start.{Start}
use Rattle.player_text.specs.Texts.{init_tree}
use Rattle.init_code.specs.InitBlock.{IsOutOf, IsUntouched, MayClear, MaySetTimer, IsOrderByte, HasOrders}
use Rattle.init_code.specs.InitBlock.{IsAtSubtune, Starts}
use Rattle.init_code.proofs.Laws.{init_block_starts}
use Rattle.frame_code.specs.InitBlock.{ReadsOffTimer, ClearsVariables, HaveOrders, IsCalledWith, BeginsSubtune}
use Rattle.kept_lines.specs.Starts.{start_of}
use Rattle.frame_code.specs.InitBlock.{BeginningsStart}
use Rattle.frame_code.proofs.Calls.{ComesTo, comes_here, beginning_comes}

-- what the block does, whichever tree it is
abbrev InitStarts : Start → ℕ → Tree → Type 0
InitStarts start count tree =
    (layout : Layout) (rows subtune : ℕ) (address : ℕ → ℕ) (desk : Desk) → IsRoom layout rows → MayUse layout rows →
    MayClear layout rows count desk.at → MaySetTimer layout → HasOrders layout rows count desk.at subtune address →
    IsAtSubtune layout subtune desk → Starts layout rows count start address desk (ran each_one layout tree desk)

-- the places of the subtune's orderlists
abbrev pub orders_at : Layout → ℕ → ℕ → ℕ
orders_at layout k voice = layout.address (order_label k voice)

-- ---- the orderlists

-- none of its orderlists is empty
some_entries : (subtune : Subtune) → is_playable_subtune subtune ≡ true → (voice : ℕ) → voice < 3 →
    0 < length (order_of (voice + 1) subtune).entries
some_entries subtune playable voice few = by_voice voice few
  where
    some : (order : Order) → has_entries order ≡ true → 0 < length order.entries
    some order has = grind (arith, has)

    firsts : ((has_entries subtune.one && has_entries subtune.two) ≡ true) × (has_entries subtune.three ≡ true)
    firsts = and_parts _ _ playable

    both : (has_entries subtune.one ≡ true) × (has_entries subtune.two ≡ true)
    both = and_parts _ _ firsts.0

    by_voice : (voice : ℕ) → voice < 3 → 0 < length (order_of (voice + 1) subtune).entries
    by_voice zero few = some subtune.one both.0
    by_voice (suc zero) few = some subtune.two both.1
    by_voice (suc (suc zero)) few = some subtune.three firsts.1
    by_voice (suc (suc (suc more))) few = absurd (omega (arith, few))

-- where the variables begin as a playable subtune does, memory with the song's lists holds the start state
pub begun_holds : (layout : Layout) (packed : PackedSong) (o : Options) (k : ℕ) (at : ℕ → ℕ) →
    HasSongLists layout packed at → Begins layout (start_of o).tempo (start_of o).funk (orders_at layout k) at →
    is_playable_subtune (subtune_at (unpacked_song packed) k) ≡ true → Holds layout packed k (start_state o) at
begun_holds layout packed o k at has begins playable =
    record { lists = has; voices = voices; none_lent = begins.handed.0 }
  where
    voices : (voice : ℕ) → voice < 3 → VoiceHolds layout packed k voice (start_state o) at
    voices voice few =
        let plays = beginnings_play layout o (look_of packed) (pattern_bytes packed) (order_in packed k voice)
        (orders_at layout k) (order_label k voice) voice at begins few refl
        (some_entries (subtune_at (unpacked_song packed) k) playable voice few) in
        record { plays = plays.plays; song = record { has = plays.has_order; stands = plays.song } }

-- lists whose bytes are as before, with their slides
pub lists_at : (layout : Layout) (packed : PackedSong) (one two : ℕ → ℕ) →
    ((list : SongList) (number : ℕ) → IsSongList layout packed list → HasNumber packed list number →
    IsListed layout (slide_rows packed) one (list_label list) number (list_byte layout packed list number) →
    two (place_in layout (list_label list) number) ≡ one (place_in layout (list_label list) number)) →
    (layout.holds NOTE_DEPENDENT ≡ true → (row : ℕ) → row < slide_rows packed → SlidesStay layout row two one) →
    HasSongLists layout packed one → HasSongLists layout packed two
lists_at layout packed one two same slides has = record {
  lists = λ list number is inside.
      let listed = has.lists list number is inside in
      record {
        elsewhere = listed.elsewhere;
        reads = listed.reads;
        is = same list number is inside listed ∙ listed.is;
      };
  slides = record {
    low = λ kept number few plain. (slides kept number few).low ∙ has.slides.low kept number few plain;
    high = λ kept number few plain. (slides kept number few).high ∙ has.slides.high kept number few plain;
    low_is = has.slides.low_is;
    high_is = has.slides.high_is;
    periods = has.slides.periods;
  };
}

-- where a place may be read, and isn't cleared, the code leaves it
untouched : (layout : Layout) (rows count place : ℕ) → ReadsOffTimer layout → IsElsewhere layout rows place →
    IsOutOf (layout.address FIRST_CLEARED) count place → layout.may_read place ≡ true →
    IsUntouched layout rows count place
untouched layout rows count place off away out reads =
    record { elsewhere = away; cleared = out; timer = λ timed. off timed place reads }

has_orders : (layout : Layout) (packed : PackedSong) (k count : ℕ) (at : ℕ → ℕ) → KeepsMarkedAlone layout packed.facts →
    ReadsOffTimer layout → ClearsVariables layout packed count at → HaveOrders layout k at →
    k < length packed.subtunes → HasSongLists layout packed at →
    HasOrders layout (slide_rows packed) count at k (orders_at layout k)
has_orders layout packed k count at alone off clear own stored has = record {
  low = λ on voice few.
      order_byte ORDERS_LOW (3 * k + voice) (orders_at layout k voice % 256)
      (clear.lists OrderLows (3 * k + voice) (alone Subtunes on) (number voice few))
      (has.lists OrderLows (3 * k + voice) (alone Subtunes on) (number voice few));
  high = λ on voice few.
      order_byte ORDERS_HIGH (3 * k + voice) (orders_at layout k voice / 256)
      (clear.lists OrderHighs (3 * k + voice) (alone Subtunes on) (high_number voice few))
      (has.lists OrderHighs (3 * k + voice) (alone Subtunes on) (high_number voice few));
  own = own;
}
  where
    number : (voice : ℕ) → voice < 3 → HasNumber packed OrderLows (3 * k + voice)
    number voice few = record { from = omega arith; to = omega (arith, few, stored) }

    high_number : (voice : ℕ) → voice < 3 → HasNumber packed OrderHighs (3 * k + voice)
    high_number voice few = record { from = omega arith; to = omega (arith, few, stored) }

    order_byte : (label number byte : ℕ) →
        IsOutOf (layout.address FIRST_CLEARED) count (place_in layout label number) →
        IsListed layout (slide_rows packed) at label number byte →
        IsOrderByte layout (slide_rows packed) count at label number byte
    order_byte label number byte out listed = record {
      listed = listed;
      untouched = untouched layout (slide_rows packed) count (place_in layout label number) off listed.elsewhere out
          listed.reads;
    }

-- ---- the call

module _ (layout : Layout) (packed : PackedSong) (o : Options) (k count : ℕ) (desk : Desk)
    (is : IsPlayerLayout layout packed) (off : ReadsOffTimer layout)
    (clear : ClearsVariables layout packed count desk.at) (called : IsCalledWith packed k desk)
    (has : HasSongLists layout packed desk.at) where
  -- behind the block the lists stand
  lists_behind : (run : Ran) →
      Starts layout (slide_rows packed) count (start_of o) (orders_at layout k) (cleared desk) run →
      HasSongLists layout packed run.desk.at
  lists_behind run starts =
      lists_at layout packed desk.at run.desk.at
      (λ list number its inside listed.
      starts.others (place_in layout (list_label list) number)
      (untouched layout (slide_rows packed) count (place_in layout (list_label list) number) off listed.elsewhere
      (clear.lists list number its inside) listed.reads))
      starts.slides has

  holds_behind : (run : Ran) →
      Starts layout (slide_rows packed) count (start_of o) (orders_at layout k) (cleared desk) run →
      Holds layout packed k (start_state o) run.desk.at
  holds_behind run starts =
      begun_holds layout packed o k run.desk.at (lists_behind run starts) starts.begins called.playable

  begun : (run whole : Ran) →
      Starts layout (slide_rows packed) count (start_of o) (orders_at layout k) (cleared desk) run →
      ComesTo whole (returned run.desk) → BeginsSubtune layout packed o k count desk whole
  begun run whole starts comes = record {
    ends = comes.ends;
    holds = subst (λ at. Holds layout packed k (start_state o) at) (sym memory) (holds_behind run starts);
    registers = λ register few.
        ap (λ at. at (0xD400 + register)) memory ∙ starts.registers register (omega (arith, few));
    timer_low = ap (λ at. at 0xDC04) memory ∙ starts.timer_low;
    timer_high = ap (λ at. at 0xDC05) memory ∙ starts.timer_high;
    elsewhere = λ place leaves. ap (λ at. at place) memory ∙ starts.others place leaves;
  }
    where
      memory : whole.desk.at ≡ run.desk.at
      memory = ap (λ (d : Desk). d.at) comes.desk_is

pub beginnings_start : BeginningsStart
beginnings_start layout packed o k count e desk begins is alone may off clear own called has =
    let run = ran each_one layout e.first (cleared desk) in
    let starts = (subst (InitStarts (start_of o) count) (sym begins.first) init_starts) layout (slide_rows packed) k
    (orders_at layout k) (cleared desk) is.room is.uses clear.clears may
    (has_orders layout packed k count desk.at alone off clear own called.stored has)
    (record { a = λ on. called.a; byte = λ on. called.byte; decimal = refl }) in
    begun layout packed o k count desk is off clear called has run (entrance_ran layout e desk) starts
    (beginning_comes layout e desk run.desk begins.voice (comes_here run starts.ends))
  where
    init_starts : InitStarts (start_of o) count (init_tree (start_of o) count)
    init_starts layout rows subtune address desk =
        init_block_starts layout rows subtune count (start_of o) address desk
