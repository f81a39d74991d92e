-- An image is a player, and so keeps the bounds of its entrances.
use Rattle.std.proofs.Common.{◌≡◌, ℕ, Bool, true, false, min, nat_eq, if◌then◌else◌, refl, sym, ap, subst, arith, Some, None, List}
use Rattle.play_model.specs.declared.options.Options.{Options}
use Rattle.packed_form.specs.declared.packed_songs.PackedSong.{PackedSong}
use Rattle.packed_form.specs.WalkCount.{walk_count, most_looks, looks_from}
use Rattle.asm6502.specs.declared.lines.Line.{Line}
use Rattle.faithful.specs.Histories.{ImageCall, Init, Play}
use Rattle.scopes.specs.declared.line.TheConstants.{OPEN}
use Rattle.scopes.specs.Meaning.{turns_in}
use Rattle.cycle_bound.specs.EntranceRules.{AdmitsCall, AdmitsEntrance}
use Rattle.cycle_bound.proofs.Laws.{admitted_same}
use Rattle.kept_lines.specs.Starts.{start_of}
use Rattle.player_text.specs.Texts.{filter_tree, voice_tree, init_tree}
use Rattle.player_code.specs.CodeLines.{play_entrance, init_entrance, cleared_of}
use Rattle.player_image.specs.Images.{image_holds, image_places, image_count, plan_of}
use Rattle.player_image.proofs.Laws.{images_are_players, placed_length}
use Rattle.player_calls.specs.CallLaws.{entrance_of}
use Rattle.player_calls.proofs.Laws.{players_keep_bounds}
use Rattle.song_model.specs.declared.songs.Song.{Song}
use Rattle.player_bound.specs.BoundLaws.{AdmitsOf, bound_of, KeepsBounds, KeepsWithin, CheckedBoundsAreKept}
use Rattle.player_bound.specs.BoundLaws.{ImagesKeepBounds, TurnsAreItsWalks, ProgramsAreLowered, ProgramsHaveNodes}
use Rattle.player_bound.specs.declared.bounds.CallBounds.{CallBounds}
use Rattle.player_bound.specs.Answers.{AreBounds}
use Rattle.player_bound.specs.Programs.{Blocks, program_blocks, init_numbers, play_numbers}
use Rattle.cycle_bound.specs.Rules.{bound_by}

-- an open loop has the same turns
same_turns : (most count : ℕ) → turns_in (min most OPEN) count ≡ turns_in most count
same_turns most count = by_count (nat_eq count OPEN)
  where
    by_count : (z : Bool) → (if z then min OPEN (min most OPEN) else count) ≡ (if z then min OPEN most else count)
    by_count true = omega arith
    by_count false = refl

module _ (packed : PackedSong) (o : Options) (origin pointer : ℕ) (variables : List ℕ) (lists : List Line) where
  play_admits : (numbers : List ℕ) → AdmitsOf (program_blocks packed o) Play numbers →
      AdmitsEntrance (walk_count packed) (entrance_of (plan_of packed o origin pointer variables lists) Play) numbers
  unfolding play_entrance
  play_admits numbers admitted =
      admitted_same _ (record { holds = image_holds packed o; open_turns = walk_count packed }) refl
      (same_turns (walk_count packed)) filter_tree (Some voice_tree) numbers admitted

  init_admits : (k : ℕ) (numbers : List ℕ) → AdmitsOf (program_blocks packed o) (Init k) numbers →
      AdmitsEntrance (walk_count packed) (entrance_of (plan_of packed o origin pointer variables lists) (Init k)) numbers
  unfolding init_entrance
  init_admits k numbers admitted =
      subst
      (λ count. AdmitsCall (record { holds = image_holds packed o; open_turns = walk_count packed })
      (init_tree (start_of o) (cleared_of count)) None numbers)
      (sym (placed_length (image_places packed o) (image_count packed o) variables))
      (admitted_same _ (record { holds = image_holds packed o; open_turns = walk_count packed }) refl
      (same_turns (walk_count packed)) (init_tree (start_of o) (cleared_of (image_count packed o))) None numbers admitted)

  admits : (call : ImageCall) (numbers : List ℕ) → AdmitsOf (program_blocks packed o) call numbers →
      AdmitsEntrance (walk_count packed) (entrance_of (plan_of packed o origin pointer variables lists) call) numbers
  admits (Init k) numbers admitted = init_admits k numbers admitted
  admits Play numbers admitted = play_admits numbers admitted

-- numbers of the entrance of a call, with this first one
record FirstOf (b : Blocks) (call : ImageCall) (bounds : CallBounds) : Type 0 where
  numbers : List ℕ
  admitted : AdmitsOf b call numbers
  first : bound_of bounds call ≡ bound_by numbers

pub images_keep_bounds : ImagesKeepBounds
images_keep_bounds packed song o origin pointer bytes image stands for earlier call before machine number steps after lead is
    agrees made called numbers admitted =
    players_keep_bounds (plan_of packed o origin pointer image.its.variables image.its.lists) packed song o bytes
    (images_are_players packed song o origin pointer bytes image stands for) earlier call before machine number steps after
    lead is agrees made called numbers (admits packed o origin pointer image.its.variables image.its.lists call numbers admitted)

admitted_bound : (b : Blocks) (call : ImageCall) (numbers : List ℕ) (bounds : CallBounds) → AreBounds b numbers bounds →
    FirstOf b call bounds
admitted_bound b (Init k) numbers bounds are =
    record { numbers = init_numbers b numbers; admitted = are.init_admitted; first = are.init }
admitted_bound b Play numbers bounds are =
    record { numbers = play_numbers b numbers; admitted = are.play_admitted; first = are.play }

-- what keeps the bounds of a program keeps within those that are answered
pub kept_within : (bytes : List ℕ) (origin : ℕ) (song : Song) (b : Blocks) (numbers : List ℕ) (bounds : CallBounds) →
    KeepsBounds bytes origin song b → AreBounds b numbers bounds → KeepsWithin bytes origin song bounds
kept_within bytes origin song b numbers bounds keeps told earlier call before machine number steps after lead is agrees made
    called =
    let first = admitted_bound b call numbers bounds told in
    let kept = keeps earlier call before machine number steps after lead is agrees made called first.numbers first.admitted in
    let same = first.first in
    omega (arith, kept, same)

pub checked_bounds_are_kept : CheckedBoundsAreKept
checked_bounds_are_kept packed song o origin pointer bytes image stands for numbers bounds told =
    kept_within bytes origin song (program_blocks packed o) numbers bounds
    (images_keep_bounds packed song o origin pointer bytes image stands for) told

pub turns_are_its_walks : TurnsAreItsWalks
unfolding walk_count most_looks looks_from
turns_are_its_walks o = refl

-- ---- the program

pub programs_are_lowered : ProgramsAreLowered
unfolding play_entrance init_entrance
programs_are_lowered packed o origin pointer variables lists = record {
  first = refl;
  voice = refl;
  init = λ k.
      ap (λ count. init_tree (start_of o) (cleared_of count))
      (placed_length (image_places packed o) (image_count packed o) variables);
  init_voice = λ k. refl;
  play_holds = refl;
  init_holds = λ k. refl;
  turns = sym (same_turns (walk_count packed) OPEN);
}

pub programs_have_nodes : ProgramsHaveNodes
programs_have_nodes = record { init = λ packed o. refl; play = λ packed o. refl }
