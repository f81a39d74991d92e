-- Small images at $1000 for a silent song, worked by hand: three that play it, whatever else is in memory, at the speed 1
-- and at the speed 2 of either system; images that play it in order alone; and images beside them, each of which goes
-- wrong in one thing.
use Rattle.std.specs.Prelude.{ℕ, List, [], ◌∷◌, ◌++◌, map}
use Rattle.std.specs.List.{range_with_len}
use Rattle.song_model.specs.declared.songs.Song.{Song}
use Rattle.song_model.specs.Silence.{silence, order_of_zero}
use Rattle.play_model.specs.declared.options.Options.{Options}
use Rattle.play_model.specs.State.{no_options}
use Rattle.faithful.specs.Faithful.{IsFaithful}
use Rattle.faithful.specs.Histories.{PlaysAlways}
use Rattle.faithful.specs.Isolation.{IsIsolated}
use Rattle.faithful.specs.Routines.{Op, LoadA, LoadX, FetchA, StoreA, StoreX, SkipNop, Wait, image_with, image_of}
use Rattle.faithful.specs.WorkedPlaces.{twice, twice_on_ntsc}

-- ---- the right images

-- zeros in the registers 0 to 23
abbrev pub clear : List Op
clear = LoadA 0 ∷ map (λ place. StoreA place) (range_with_len 0xD400 24)

-- a byte at a place
abbrev pub store : ℕ → ℕ → List Op
store byte place = LoadA byte ∷ StoreA place ∷ []

-- zeros in all registers but the volume's
abbrev pub leave : ℕ → List Op
leave volume = clear ++ store volume 0xD418

-- the image of two routines plays a song, and depends on its own bytes alone
abbrev pub Plays : List Op → List Op → Song → Options → Type 0
Plays init play song options = IsFaithful (image_of init play) 0x1000 0xFC song options

abbrev pub StandsAlone : List Op → List Op → Type 0
StandsAlone init play = IsIsolated (image_of init play) 0x1000 silence

-- at speed 2 init sets the timer to 9,827, which is $2663
abbrev pub timed : List Op
timed = leave 0 ++ store 0x63 0xDC04 ++ store 0x26 0xDC05

-- and for NTSC to 8,546, which is $2162
abbrev pub timed_for_ntsc : List Op
timed_for_ntsc = leave 0 ++ store 0x62 0xDC04 ++ store 0x21 0xDC05

-- the silent song twice
abbrev pub two_silences : Song
two_silences = record silence {
  subtunes =
      (record { one = order_of_zero; two = order_of_zero; three = order_of_zero })
      ∷ (record { one = order_of_zero; two = order_of_zero; three = order_of_zero }) ∷ [];
}

-- init leaves zeros in all registers, and play zeros and the volume 15, as the silent song's frames do
pub record RightImagesPlay : Type 0 where
  pub at_one : Plays (leave 0) (leave 15) silence no_options
  pub at_two : Plays timed (leave 15) silence twice
  pub on_ntsc : Plays timed_for_ntsc (leave 15) silence twice_on_ntsc
  pub second : Plays (leave 0) (leave 15) two_silences no_options
  pub always : PlaysAlways (image_of (leave 0) (leave 15)) 0x1000 0xFC silence no_options
  pub alone : StandsAlone (leave 0) (leave 15)

-- ---- images that play in order alone

-- init takes more than 60,000 steps, and less than 200,000
abbrev pub slow : List Op
slow = Wait 100 ∷ leave 0

-- init puts an RTS in place of its own jump
abbrev pub once : List Op
once = leave 0 ++ store 0x60 0x1000

-- init puts the jump to play in place of a byte that is no opcode
abbrev pub late : List Op
late = leave 0 ++ store 0x4C 0x1003

-- in each an init and the plays after it are right, as long as no call may take more than 200,000 steps; but in the first
-- init takes more than 60,000, in the second a second init leaves the registers as it finds them, and in the third a play
-- before the first init doesn't return
pub record OrderIsTold : Type 0 where
  pub slow_plays : Plays slow (leave 15) silence no_options
  pub slow_init : ¬ PlaysAlways (image_of slow (leave 15)) 0x1000 0xFC silence no_options
  pub once_plays : Plays once (leave 15) silence no_options
  pub second_init : ¬ PlaysAlways (image_of once (leave 15)) 0x1000 0xFC silence no_options
  pub late_plays : IsFaithful (image_with 0x02 late (leave 15)) 0x1000 0xFC silence no_options
  pub first_play : ¬ PlaysAlways (image_with 0x02 late (leave 15)) 0x1000 0xFC silence no_options

-- ---- images that go wrong

-- the registers: the volume after init and after play, and the first register after play; the number of the subtune as the
-- volume of init; and the volume of play by STX of the 15 that init left in X
pub record RegistersAreTold : Type 0 where
  pub init : ¬ Plays (leave 1) (leave 15) silence no_options
  pub play : ¬ Plays (leave 0) (leave 14) silence no_options
  pub first : ¬ Plays (leave 0) (leave 15 ++ store 1 0xD400) silence no_options
  pub second : ¬ Plays (StoreA 0xD418 ∷ clear) (leave 15) two_silences no_options
  pub kept : ¬ Plays (leave 0 ++ LoadX 15 ∷ []) (clear ++ StoreX 0xD418 ∷ []) silence no_options

-- init takes more steps than a call may
pub record StepsAreTold : Type 0 where
  pub init : ¬ Plays (Wait 256 ∷ leave 0) (leave 15) silence no_options

-- a store at $0400, at the ninth byte below the stack pointer $FF, and at the processor's port; and at $0400 of the byte
-- that stands there, which changes nothing
pub record StoresAreTold : Type 0 where
  pub screen : ¬ Plays (leave 0 ++ store 1 0x0400) (leave 15) silence no_options
  pub ninth : ¬ Plays (leave 0 ++ store 1 0x01F5) (leave 15) silence no_options
  pub port : ¬ Plays (leave 0 ++ store 1 0x0001) (leave 15) silence no_options
  pub same_byte :
      ¬ PlaysAlways (image_of (FetchA 0x0400 ∷ StoreA 0x0400 ∷ leave 0) (leave 15)) 0x1000 0xFC silence no_options

-- at speed 2 init leaves $2763 for $2663, and play changes the high byte; and init sets the timer of the other system
pub record TimerBytesAreTold : Type 0 where
  pub set : ¬ Plays (leave 0 ++ store 0x63 0xDC04 ++ store 0x27 0xDC05) (leave 15) silence twice
  pub kept : ¬ Plays timed (leave 15 ++ store 0x27 0xDC05) silence twice
  pub for_pal : ¬ Plays timed (leave 15) silence twice_on_ntsc
  pub for_ntsc : ¬ Plays timed_for_ntsc (leave 15) silence twice

-- init, and play after it, that depend on the byte at $0400: by the volume; by the steps alone, where BEQ passes over a
-- NOP; by a byte of the image alone; and play whose volume is the number that it is entered with
pub record DependencesAreTold : Type 0 where
  pub init : ¬ StandsAlone (clear ++ FetchA 0x0400 ∷ StoreA 0xD418 ∷ []) (leave 15)
  pub registers : ¬ StandsAlone (leave 0) (clear ++ FetchA 0x0400 ∷ StoreA 0xD418 ∷ [])
  pub steps : ¬ StandsAlone (leave 0) (leave 15 ++ FetchA 0x0400 ∷ SkipNop ∷ [])
  pub in_image : ¬ StandsAlone (leave 0) (leave 15 ++ FetchA 0x0400 ∷ StoreA 0x1000 ∷ [])
  pub number : ¬ StandsAlone (leave 0) (StoreA 0xD418 ∷ clear)
