-- The speed table of a packed song, as the steps read it: its rows, periods and slides.
use Rattle.std.proofs.Common.{◌≡◌, ℕ, ◌+◌, ◌%◌, ◌<◌, ◌≤◌, ◌⊎◌, Bool, true, false, length}
use Rattle.std.proofs.Common.{inl, inr, refl, sym, ap, ◌∙◌, subst, arith}
use Rattle.std.proofs.lemmas.Bool.{cases_lt, true≢false}
use Rattle.cpu6502.specs.declared.memory.TheConstants.{MEMORY_SIZE}
use Rattle.song_model.specs.declared.tables.TableName.TheVariants.{Speed}
use Rattle.song_model.specs.Limits.{KeepsLimits}
use Rattle.packed_form.specs.declared.packed_songs.PackedSong.{PackedSong}
use Rattle.packed_form.specs.Unpacked.{unpacked_song}
use Rattle.scopes.specs.Desk.{Layout}
use Rattle.player_memory.specs.declared.conditions.TheConstants.{NOTE_DEPENDENT}
use Rattle.player_memory.specs.declared.labels.TheConstants.{SPEED_LEFTS, SPEED_RIGHTS, PERIODS}
use Rattle.player_memory.specs.declared.labels.TheConstants.{SLIDES_LOW, SLIDES_HIGH}
use Rattle.player_memory.specs.Rooms.{IsElsewhere}
use Rattle.player_memory.specs.Playing.{place_in, IsListed, IsRow}
use Rattle.player_memory.specs.SongLists.{Lefts, Rights, Periods, slide_rows, HasSongLists}
use Rattle.player_memory.specs.Holds.{look_of}
use Rattle.slide_code.specs.SlideBlock.{HasSpeed, HasSpeeds}
use Rattle.frame_scenes.proofs.Lists.{from_none, looks}

-- a byte of a list is that of another whose label has the same address
relabelled : (layout : Layout) (rows : ℕ) (at : ℕ → ℕ) (one two number byte other : ℕ) →
    layout.address one ≡ layout.address two → byte ≡ other → IsListed layout rows at two number byte →
    IsListed layout rows at one number other
relabelled layout rows at one two number byte other e same listed =
    let place : place_in layout one number ≡ place_in layout two number =
    ap (λ (n : ℕ). (n + number) % MEMORY_SIZE) e in record {
      elsewhere = subst (IsElsewhere layout rows) (sym place) listed.elsewhere;
      reads = ap layout.may_read place ∙ listed.reads;
      is = ap at place ∙ (listed.is ∙ same);
    }

-- the sides of a row
sides_stand : (layout : Layout) (packed : PackedSong) (at : ℕ → ℕ) → HasSongLists layout packed at →
    KeepsLimits (unpacked_song packed) → (number : ℕ) → number ≤ length packed.speed →
    IsRow layout (slide_rows packed) at SPEED_LEFTS SPEED_RIGHTS number ((look_of packed).row Speed number)
sides_stand layout packed at has limits number most =
    let bytes = (looks packed limits).row Speed number in record {
      left = has.lists (Lefts Speed) number tt (from_none packed (Lefts Speed) number refl (omega (arith, most)));
      right = has.lists (Rights Speed) number tt (from_none packed (Rights Speed) number refl (omega (arith, most)));
      left_byte = bytes.left;
      right_byte = bytes.right;
    }

-- a period, in a list of its own or in that of the left sides
period_stands : (layout : Layout) (packed : PackedSong) (at : ℕ → ℕ) → HasSongLists layout packed at →
    KeepsLimits (unpacked_song packed) → (number : ℕ) → number ≤ length packed.speed → (z : Bool) →
    layout.holds NOTE_DEPENDENT ≡ z →
    (128 ≤ ((look_of packed).row Speed number).left → layout.holds NOTE_DEPENDENT ≡ true) →
    IsListed layout (slide_rows packed) at PERIODS number (((look_of packed).row Speed number).left % 128)
period_stands layout packed at has limits number most true e kept =
    has.lists Periods number e (from_none packed Periods number refl (omega (arith, most)))
period_stands layout packed at has limits number most false e kept =
    relabelled layout (slide_rows packed) at PERIODS SPEED_LEFTS number left (left % 128) (has.slides.periods e)
    (plain (cases_lt left 128)) (sides_stand layout packed at has limits number most).left
  where
    left : ℕ
    left = ((look_of packed).row Speed number).left

    plain : (left < 128) ⊎ (128 ≤ left) → left ≡ left % 128
    plain (inl below) = omega arith
    plain (inr from) = absurd (true≢false (sym (kept from) ∙ e))

speed_stands : (layout : Layout) (packed : PackedSong) (at : ℕ → ℕ) → HasSongLists layout packed at →
    KeepsLimits (unpacked_song packed) → (number : ℕ) → number ≤ length packed.speed →
    HasSpeed layout (slide_rows packed) at number ((look_of packed).row Speed number)
speed_stands layout packed at has limits number most = record {
  sides = sides;
  period = period_stands layout packed at has limits number most (layout.holds NOTE_DEPENDENT) refl;
  low = λ kept plain. has.slides.low kept number (omega (arith, most)) plain;
  high = λ kept plain. has.slides.high kept number (omega (arith, most)) plain;
  low_listed = λ out.
      relabelled layout (slide_rows packed) at SLIDES_LOW SPEED_RIGHTS number _ _ (has.slides.low_is out) refl
      sides.right;
  high_listed = λ out.
      relabelled layout (slide_rows packed) at SLIDES_HIGH SPEED_LEFTS number _ _ (has.slides.high_is out) refl
      sides.left;
}
  where
    sides : IsRow layout (slide_rows packed) at SPEED_LEFTS SPEED_RIGHTS number ((look_of packed).row Speed number)
    sides = sides_stand layout packed at has limits number most

pub speeds_stand : (layout : Layout) (packed : PackedSong) (at : ℕ → ℕ) → HasSongLists layout packed at →
    KeepsLimits (unpacked_song packed) →
    HasSpeeds layout (slide_rows packed) at (look_of packed) (length packed.speed)
speeds_stand layout packed at has limits = record {
  few = let most = limits.speed.count in omega (arith, most);
  slides = λ kept. omega arith;
  each = speed_stands layout packed at has limits;
}
