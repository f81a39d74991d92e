-- Two songs in one: what comes of them.
use Rattle.std.proofs.Common.{◌≡◌, ◌≤◌, ℕ, List, [], ◌∷◌, Option, Some, length, ap, ◌∙◌, subst, arith}
use Rattle.std.specs.Option.{option_and_then}
use Rattle.goat_io.specs.Files.{Files, file_of}
use Rattle.goat_io.proofs.Laws.{file_put}
use Rattle.song_model.specs.declared.songs.Song.{Song}
use Rattle.song_model.specs.Canonical.{canonical}
use Rattle.play_model.specs.Playable.{IsPlayable}
use Rattle.song_join.specs.Joined.{joined}
use Rattle.song_join.specs.Refusals.{CanBeJoined}
use Rattle.song_join.specs.JoinLaws.{IsWholeJoin, AreJoinable}
use Rattle.song_join.proofs.Laws.{joined_songs_are_whole_lem}
use Rattle.command_line.specs.Words.{Join}
use Rattle.command_line.proofs.Laws.{one_job}
use Rattle.jobs.specs.Stages.{IsThere, Fits, SpellsSong, CanBePlayed, GoTogether, HoldsSong, AllPass, input_limit}
use Rattle.jobs.specs.Jobs.{stages, Done}
use Rattle.jobs.specs.Outcome as outcome
use Rattle.jobs.specs.Outcome.{Outcome}
use Rattle.jobs.specs.Answers.{AsksToJoin}
use Rattle.jobs.specs.Laws.{JoinedFilesHoldBoth}
use Rattle.jobs.specs.MetPremises.{JoinableSongsAreJoined}
use Rattle.jobs.proofs.Passes.{met_passes, one_song_held, playable_songs_pass_lem}
use Rattle.jobs.proofs.Due.{not_zero}

-- ---- what is written

-- the joined song, which can be played and plays both
pub record Joins (first second : Song) (output : List ℕ) (write : Option (List ℕ × List ℕ)) : Type 0 where
  pub write_is : write ≡ Some (output, canonical (joined first second))
  pub whole : IsWholeJoin (joined first second) first second

module _ (words : List (List ℕ)) (files : Files) (first second : Song) (output : List ℕ)
    (asked : AsksToJoin words files first second output) where
  -- the songs can be played, since the stages pass that ask for it
  plays_in : (name : List ℕ) (song : Song) → HoldsSong files name song → AllPass files (CanBePlayed name ∷ []) →
      IsPlayable song
  plays_in name song held pass = (playable_songs_pass_lem files name song held).0 pass.0

  joins : {lines : List (List ℕ)} {write : Option (List ℕ × List ℕ)} →
      AllPass files (stages (Join asked.input asked.other output)) →
      Done (Join asked.input asked.other output) files lines write → Joins first second output write
  joins pass (file, (song, other, held, other_held, can, is), wrote) =
      let one = one_song_held files asked.input song first held asked.holds in
      let two = one_song_held files asked.other other second other_held asked.other_holds in
      let joinable : AreJoinable first second = record {
        first_limits = asked.holds.spells.limits;
        second_limits = asked.other_holds.spells.limits;
        first_plays = plays_in asked.input first asked.holds (pass.1.1.1.0, tt);
        second_plays = plays_in asked.other second asked.other_holds (pass.1.1.1.1.1.1.1.0, tt);
        can = subst (CanBeJoined first) two (subst (λ s. CanBeJoined s other) one can);
      } in
      record {
        write_is =
            wrote.write_is
            ∙ ap (λ f. Some (output, f))
            (is ∙ ap (λ s. canonical (joined s other)) one ∙ ap (λ s. canonical (joined first s)) two);
        whole = joined_songs_are_whole_lem first second joinable;
      }

  pub songs_join : {lines : List (List ℕ)} {write : Option (List ℕ × List ℕ)} →
      Outcome words files 0 lines write → Joins first second output write
  songs_join (outcome.usage none zero l w) = absurd (omega (arith, zero))
  songs_join {lines} (outcome.ended job form ends w) = absurd (not_zero files (stages job) lines ends)
  songs_join {lines} {write} (outcome.done job form all did zero) =
      let same = one_job words job (Join asked.input asked.other output) form asked.form in
      joins (subst (λ j. AllPass files (stages j)) same all) (subst (λ j. Done j files lines write) same did)

-- songs that can be joined are
all_join : (files : Files) (input other output : List ℕ) (first second : Song) (holds : HoldsSong files input first)
    (other_holds : HoldsSong files other second) → length holds.bytes ≤ input_limit →
    length other_holds.bytes ≤ input_limit → IsPlayable first → IsPlayable second → CanBeJoined first second →
    AllPass files (stages (Join input other output))
all_join files input other output first second holds other_holds fits other_fits plays other_plays can = (
  met_passes files (IsThere input) (holds.bytes, holds.found),
  (
    met_passes files (Fits input input_limit) (holds.bytes, holds.found, fits),
    (
      met_passes files (SpellsSong input) (first, holds),
      (
        met_passes files (CanBePlayed input) (first, holds, plays),
        (
          met_passes files (IsThere other) (other_holds.bytes, other_holds.found),
          (
            met_passes files (Fits other input_limit) (other_holds.bytes, other_holds.found, other_fits),
            (
              met_passes files (SpellsSong other) (second, other_holds),
              (
                met_passes files (CanBePlayed other) (second, other_holds, other_plays),
                (met_passes files (GoTogether input other) (first, second, holds, other_holds, can), tt),
              ),
            ),
          ),
        ),
      ),
    ),
  ),
)

pub joinable_songs_are_joined : JoinableSongsAreJoined
joinable_songs_are_joined words files input other output first second form holds other_holds = (
  record { input = input; other = other; form = form; holds = holds; other_holds = other_holds },
  all_join files input other output first second holds other_holds,
)

-- ---- what a joined file is

pub joined_files_hold_both : JoinedFilesHoldBoth
joined_files_hold_both files first second output now is = record {
  file = ap (λ told. option_and_then (λ known. file_of known output) told) is.files_are ∙ file_put files output _;
  first_song = is.whole.plays.first_song;
  second_song = is.whole.plays.second_song;
}
