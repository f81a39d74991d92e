-- A packed song has one image, and what the system changes in it: the two numbers that the timer is set to. This is
-- the project's own player.
use Rattle.std.specs.Prelude.{◌≡◌, ℕ, ◌/◌, ◌%◌, ◌<◌, ◌≤◌, List, [], ◌∷◌, ◌++◌}
use Rattle.play_model.specs.declared.options.Options.{Options}
use Rattle.play_model.specs.declared.options.System.{System}
use Rattle.play_model.specs.declared.options.System.TheVariants.{Pal, Ntsc}
use Rattle.play_model.specs.Speeds.{IsSpeed, timer_value}
use Rattle.packed_form.specs.declared.packed_songs.PackedSong.{PackedSong}
use Rattle.song_lists.specs.ListLaws.{KeepsCounts}
use Rattle.player_image.specs.Images.{IsImageOf}

-- the code that sets the timer: LDA of a number, STA at $DC04, LDA of a number, STA at $DC05. Source: the opcodes of
-- the MOS 6502 programming manual.
abbrev pub timer_code : System → ℕ → List ℕ
timer_code system speed =
    0xA9 ∷ timer_value system speed % 256 ∷ 0x8D ∷ 0x04 ∷ 0xDC
    ∷ 0xA9 ∷ timer_value system speed / 256 ∷ 0x8D ∷ 0x05 ∷ 0xDC ∷ []

-- two images, for one system and for another, are alike but for these two numbers
pub record AreAlikeButTimer (speed : ℕ) (system other : System) (one two : List ℕ) : Type 0 where
  pub before : List ℕ
  pub behind : List ℕ
  pub one_is : one ≡ before ++ (timer_code system speed ++ behind)
  pub two_is : two ≡ before ++ (timer_code other speed ++ behind)

-- 9,827 is $2663 and 8,546 is $2162; alike are images with one number for the other, not the other way round and not
-- with another byte behind
pub record TimerCodesAreWorked : Type 0 where
  pub pal : timer_code Pal 2
      ≡ 0xA9 ∷ 0x63 ∷ 0x8D ∷ 0x04 ∷ 0xDC ∷ 0xA9 ∷ 0x26 ∷ 0x8D ∷ 0x05 ∷ 0xDC ∷ []
  pub ntsc : timer_code Ntsc 2
      ≡ 0xA9 ∷ 0x62 ∷ 0x8D ∷ 0x04 ∷ 0xDC ∷ 0xA9 ∷ 0x21 ∷ 0x8D ∷ 0x05 ∷ 0xDC ∷ []
  pub alike : AreAlikeButTimer 2 Pal Ntsc (0xD8 ∷ (timer_code Pal 2 ++ 0x60 ∷ []))
      (0xD8 ∷ (timer_code Ntsc 2 ++ 0x60 ∷ []))
  pub exchanged : ¬ AreAlikeButTimer 2 Pal Ntsc (timer_code Ntsc 2) (timer_code Pal 2)
  pub other_behind : ¬ AreAlikeButTimer 2 Pal Ntsc (timer_code Pal 2 ++ 0x60 ∷ []) (timer_code Ntsc 2 ++ 0x40 ∷ [])

-- a packed song has one image for a place, a pointer and options
abbrev pub ImagesAreOne : Type 0
ImagesAreOne =
    (packed : PackedSong) (o : Options) (origin pointer : ℕ) (one two : List ℕ) → KeepsCounts packed →
    IsImageOf packed o origin pointer one → IsImageOf packed o origin pointer two → one ≡ two

-- images for two systems are the same bytes where the play call comes once a picture, and else all but these numbers
pub record AreAlikeOn (other : System) (o : Options) (one two : List ℕ) : Type 0 where
  pub once : o.speed ≤ 1 → one ≡ two
  pub faster : 1 < o.speed → AreAlikeButTimer o.speed o.system other one two

abbrev pub SystemsShareImages : Type 0
SystemsShareImages =
    (packed : PackedSong) (o : Options) (other : System) (origin pointer : ℕ) (one two : List ℕ) →
    KeepsCounts packed → IsSpeed o.speed → IsImageOf packed o origin pointer one →
    IsImageOf packed (record o { system = other }) origin pointer two → AreAlikeOn other o one two
