-- Small images at $1000, worked by hand: one that keeps within bounds exactly, and others of which one call takes a clock
-- cycle more than bounds say, each for another reason.
use Rattle.std.specs.Prelude.{ℕ, false, List, [], ◌∷◌, replicate}
use Rattle.cpu6502.specs.declared.mnemonic.Mnemonic.TheVariants.{Nop}
use Rattle.scopes.specs.Trees.{DoTree, NoneTree}
use Rattle.song_model.specs.declared.songs.Song.{Song}
use Rattle.song_model.specs.Silence.{silence}
use Rattle.faithful.specs.Routines.{Op, LoadA, LoadX, FetchA, StoreA, SkipNop, image_of}
use Rattle.faithful.specs.WorkedImages.{two_silences}
use Rattle.player_bound.specs.Programs.{Blocks}
use Rattle.player_bound.specs.BoundLaws.{KeepsBounds, KeepsWithin}

-- the image of two routines keeps within these bounds of init and of play
abbrev pub Keeps : List Op → List Op → Song → ℕ → ℕ → Type 0
Keeps init play song of_init of_play =
    KeepsWithin (image_of init play) 0x1000 song (record { init = of_init; play = of_play })

-- ---- the cycles

-- Two loads and three, of 2 cycles each. With 3 for the jump and 6 for RTS they take 13 and 15, which is 2 and 4, and 11.
abbrev pub two_loads : List Op
two_loads = LoadA 0 ∷ LoadX 0 ∷ []

abbrev pub three_loads : List Op
three_loads = LoadA 0 ∷ two_loads

pub record CyclesAreTold : Type 0 where
  pub kept : Keeps two_loads three_loads silence 2 4
  pub init : ¬ Keeps two_loads three_loads silence 1 4
  pub play : ¬ Keeps two_loads three_loads silence 2 3

-- Of these blocks init takes 2 cycles, and play none but the 30 of what calls the voices: numbers are admitted for them from
-- 2 and from 30 on.
abbrev pub few_blocks : Blocks
few_blocks = record {
  init = DoTree Nop;
  first = NoneTree;
  voice = NoneTree;
  setting = record { holds = λ condition. false; open_turns = 0 };
}

abbrev pub KeepsFew : List Op → List Op → Type 0
KeepsFew init play = KeepsBounds (image_of init play) 0x1000 silence few_blocks

-- a load, a BEQ that is taken, of 3 cycles, and seven loads of 4 each: 42 in all, which is 30, and 12
abbrev pub many_loads : List Op
many_loads = LoadA 0 ∷ SkipNop ∷ replicate 7 (FetchA 0x1000)

pub record BlocksAreTold : Type 0 where
  pub kept : KeepsFew two_loads three_loads
  pub init : ¬ KeepsFew three_loads three_loads
  pub play : ¬ KeepsFew two_loads many_loads

-- In the images below a call passes over a NOP by BEQ, which takes 3 cycles, or comes to it, which takes 4.

-- ---- the calls before

-- a 0 is loaded, and BEQ is taken, but init puts 1 in place of this 0, at $1007: it takes 20 cycles, and then 21
abbrev pub longer_again : List Op
longer_again = LoadA 0 ∷ SkipNop ∷ LoadA 1 ∷ StoreA 0x1007 ∷ []

-- here it puts there what stands at $100C, which is 0, and then 1: it takes 26 cycles twice, and then 27
abbrev pub longer_at_last : List Op
longer_at_last = LoadA 0 ∷ SkipNop ∷ LoadA 0 ∷ StoreA 0x1007 ∷ LoadA 1 ∷ StoreA 0x100C ∷ []

-- here play puts the 1 there, and init takes 14 cycles, and 15 after a play
abbrev pub skips : List Op
skips = LoadA 0 ∷ SkipNop ∷ []

abbrev pub disturbs : List Op
disturbs = LoadA 1 ∷ StoreA 0x1007 ∷ []

pub record EarlierCallsAreTold : Type 0 where
  pub second : ¬ Keeps longer_again [] silence 9 0
  pub third : ¬ Keeps longer_at_last [] silence 15 0
  pub after_play : ¬ Keeps skips disturbs silence 3 4

-- ---- the machine that a call begins in

-- Play reads the 0 at $1007, until init makes it read $101D, right behind the image. Init and play both leave 0 there, so
-- play takes 22 cycles, and 23 from a machine that has another byte there than the one before.
abbrev pub turns_outside : List Op
turns_outside = LoadA 0 ∷ StoreA 0x101D ∷ LoadA 0x1D ∷ StoreA 0x1012 ∷ []

abbrev pub reads_there : List Op
reads_there = FetchA 0x1007 ∷ SkipNop ∷ LoadA 0 ∷ StoreA 0x101D ∷ []

-- Play reads this 0 too, until init makes a store of the load, which leaves the flags. Init and play both end with a load of
-- 0, so play takes 18 cycles, and 19 from a machine whose zero flag isn't set, as it is in the one before.
abbrev pub makes_store : List Op
makes_store = LoadX 0 ∷ LoadA 0x8D ∷ StoreA 0x1010 ∷ LoadA 0 ∷ []

abbrev pub reads_or_stores : List Op
reads_or_stores = FetchA 0x1007 ∷ SkipNop ∷ LoadA 0 ∷ []

pub record MachinesAreTold : Type 0 where
  pub memory : ¬ Keeps turns_outside reads_there silence 10 11
  pub flags : ¬ Keeps makes_store reads_or_stores silence 8 7

-- ---- the number in the accumulator

-- a routine that puts the number where its own load reads: it takes 18 cycles for 0, and 19 for others
abbrev pub told_at : ℕ → List Op
told_at place = StoreA place ∷ LoadA 0 ∷ SkipNop ∷ []

-- a number of play, and the second subtune's of init
pub record NumbersAreTold : Type 0 where
  pub play : ¬ Keeps [] (told_at 0x100B) silence 0 7
  pub init : ¬ Keeps (told_at 0x100A) [] two_silences 7 0
