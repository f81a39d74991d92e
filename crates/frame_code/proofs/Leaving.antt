-- What a part of a frame's code leaves: what is elsewhere, but on the stack, and the slides that aren't calculated. So
-- the lists stand behind it.
use Rattle.std.proofs.Common.{◌≡◌, ℕ, ◌+◌, ◌<◌, ◌≤◌, true, inr, refl, ◌∙◌, arith}
use Rattle.song_model.specs.declared.tables.TableName.TheVariants.{Speed}
use Rattle.play_model.specs.LookUps.{LookUps}
use Rattle.packed_form.specs.declared.packed_songs.PackedSong.{PackedSong}
use Rattle.scopes.specs.Desk.{Layout}
use Rattle.player_memory.specs.declared.conditions.TheConstants.{NOTE_DEPENDENT}
use Rattle.player_memory.specs.declared.labels.TheConstants.{SLIDES_LOW, SLIDES_HIGH}
use Rattle.player_memory.specs.Rooms.{IsRoom, AreSlides, IsElsewhere}
use Rattle.player_memory.specs.Playing.{SlidesStay}
use Rattle.player_memory.specs.SongLists.{slide_rows, list_label, list_byte, HasSongLists}
use Rattle.player_memory.specs.Holds.{look_of}
use Rattle.voice_code.proofs.Laws.{ListsStay, listed_stays}
use Rattle.frame_code.specs.FrameBlock.{IsOffStack, ReadsOffStack}

pub record Leaves (layout : Layout) (rows : ℕ) (look : LookUps) (one two : ℕ → ℕ) : Type 0 where
  pub elsewhere : (place : ℕ) → IsElsewhere layout rows place → IsOffStack place → two place ≡ one place
  pub slides : layout.holds NOTE_DEPENDENT ≡ true → (row : ℕ) → row < rows → (look.row Speed row).left < 128 →
      SlidesStay layout row two one

pub leaves_none : (layout : Layout) (rows : ℕ) (look : LookUps) (one : ℕ → ℕ) → Leaves layout rows look one one
leaves_none layout rows look one = record {
  elsewhere = λ place away off. refl;
  slides = λ kept row few plain. record { low = refl; high = refl };
}

pub leaves_then : (layout : Layout) (rows : ℕ) (look : LookUps) (one two three : ℕ → ℕ) →
    Leaves layout rows look one two → Leaves layout rows look two three → Leaves layout rows look one three
leaves_then layout rows look one two three first second = record {
  elsewhere = λ place away off. second.elsewhere place away off ∙ first.elsewhere place away off;
  slides = λ kept row few plain.
      let before = first.slides kept row few plain in
      let behind = second.slides kept row few plain in
      record { low = behind.low ∙ before.low; high = behind.high ∙ before.high };
}

-- ---- the stack

-- two memories differ on the stack alone
abbrev pub StackAlone : (ℕ → ℕ) → (ℕ → ℕ) → Type 0
StackAlone one two = (place : ℕ) → IsOffStack place → two place ≡ one place

pub stack_leaves : (layout : Layout) (rows : ℕ) (look : LookUps) (one two : ℕ → ℕ) → IsRoom layout rows →
    StackAlone one two → Leaves layout rows look one two
stack_leaves layout rows look one two room same = record {
  elsewhere = λ place away off. same place off;
  slides = λ kept row few plain.
      let are : AreSlides layout rows = room.slides kept in
      let low : 0x0800 ≤ layout.address SLIDES_LOW = are.low.from in
      let high : 0x0800 ≤ layout.address SLIDES_HIGH = are.high.from in record {
        low = same (layout.address SLIDES_LOW + row) (inr (omega (arith, low)));
        high = same (layout.address SLIDES_HIGH + row) (inr (omega (arith, high)));
      };
}

-- ---- lists

pub lists_stay : (layout : Layout) (rows : ℕ) (look : LookUps) (one two : ℕ → ℕ) → ReadsOffStack layout →
    Leaves layout rows look one two → ListsStay layout rows look one two
lists_stay layout rows look one two reads leaves = record {
  elsewhere = λ place away may. leaves.elsewhere place away (reads place may);
  slides = leaves.slides;
}

pub song_lists_stay : (layout : Layout) (packed : PackedSong) (one two : ℕ → ℕ) →
    ListsStay layout (slide_rows packed) (look_of packed) one two → HasSongLists layout packed one →
    HasSongLists layout packed two
song_lists_stay layout packed one two stay has = record {
  lists = λ list number is has_number.
      listed_stays layout (slide_rows packed) (look_of packed) one two (list_label list) number
      (list_byte layout packed list number) stay (has.lists list number is has_number);
  slides = record {
    low = λ kept number few plain. (stay.slides kept number few plain).low ∙ has.slides.low kept number few plain;
    high = λ kept number few plain. (stay.slides kept number few plain).high ∙ has.slides.high kept number few plain;
    low_is = has.slides.low_is;
    high_is = has.slides.high_is;
    periods = has.slides.periods;
  };
}
