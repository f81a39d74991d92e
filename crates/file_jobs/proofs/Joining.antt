-- Two songs in one: how a run of `join` goes through its stages.
use Rattle.std.proofs.Common.{◌≡◌, ◌≢◌, ◌⊎◌, ◌≤◌, ℕ, List, [], ◌∷◌, length, inl, inr}
use Rattle.std.proofs.Common.{refl, ap, arith}
use Rattle.goat_io.specs.Files.{Files}
use Rattle.song_model.specs.declared.songs.Song.{Song}
use Rattle.gts5.specs.Spells.{Spells}
use Rattle.play_model.specs.Playable.{IsPlayable}
use Rattle.song_join.specs.declared.faults.JoinFault.{JoinFault}
use Rattle.song_join.specs.declared.faults.JoinFault.TheVariants.{NoMemory}
use Rattle.song_join.specs.Refusals.{IsRefusedFor}
use Rattle.command_line.specs.Last.{Last, Says}
use Rattle.command_line.specs.Words.{Join}
use Rattle.jobs.specs.Lines.{join_line}
use Rattle.jobs.specs.Stages.{SpellsSong, CanBePlayed, GoTogether, HoldsSong, AllPass, input_limit}
use Rattle.jobs.specs.Endings as ends
use Rattle.jobs.specs.Stands.{FolderState, SinkState}
use Rattle.jobs.specs.Endings.{Refuses, SongWasRead, ReadFails, BothWereRead, JobEnds}
use Rattle.jobs.proofs.Laws.{met_passes, At, met_next}
use Rattle.jobs.proofs.Laws.{BothBegun, both_begun, second_fails}

-- two songs that can't be joined
pub join_fails : {first second : Song} (fault : JoinFault) {last : Last} → fault ≢ NoMemory →
    IsRefusedFor first second fault ⊎ (fault ≡ NoMemory) → last ≡ Says 18 (join_line fault) →
    (files : Files) (name other : List ℕ) → HoldsSong files name first → HoldsSong files other second →
    Refuses files (GoTogether name other) last
join_fails fault not (inr want) says files name other one two = absurd (not want)
join_fails {first} {second} fault not (inl is) says files name other one two =
    ends.ends (join_line fault) (first, second, fault, one, two, is, refl) says

-- ---- the stages

plays_still : {input : List ℕ} {song : Song} → IsPlayable song → (files : Files) → HoldsSong files input song →
    AllPass files (CanBePlayed input ∷ [])
plays_still {input} {song} playable files held = (met_passes files (CanBePlayed input) (song, held, playable), tt)

-- what was read is no longer than it may be
pub both_fit : {input other text : List ℕ} {limit : ℕ} {folder after : FolderState} {song : Song} →
    input_limit ≤ limit → BothWereRead input other limit folder after song text → length text ≤ limit
both_fit within (ends.once spelling is) = omega (arith, within, spelling.read.was.fits, ap length spelling.bytes_are)
both_fit within (ends.each between read differ was) = was.fits

module _ {input second : List ℕ} (output : List ℕ) {folder after : FolderState} {first : Song}
    (playable : IsPlayable first) where
  -- the first song was read and can be played, and the other file wasn't read
  pub other_fails : {last : Last} (sink : SinkState) (between : FolderState) → SongWasRead input folder between first →
      second ≢ input → ReadFails second input_limit between after last →
      JobEnds (Join input second output) last folder after sink sink
  other_fails sink between read differ fails =
      second_fails (Join input second output) input second input_limit (CanBePlayed input ∷ [])
      (SpellsSong second ∷ CanBePlayed second ∷ GoTogether input second ∷ []) refl (plays_still playable) sink between
      read differ fails

  module _ {text : List ℕ} (both : BothWereRead input second input_limit folder after first text) where
    -- or it was
    pub join_begun : BothBegun (Join input second output) folder after
        (SpellsSong second ∷ CanBePlayed second ∷ GoTogether input second ∷ []) input second first text
    join_begun =
        let within : input_limit ≤ input_limit = omega arith in
        both_begun (Join input second output) input second input_limit (CanBePlayed input ∷ [])
        (SpellsSong second ∷ CanBePlayed second ∷ GoTogether input second ∷ []) refl (plays_still playable) both within

    module _ {other : Song} (spells : Spells text other) where
      -- it spells a song
      pub other_held : HoldsSong join_begun.files second other
      other_held = record { bytes = text; found = join_begun.found; spells = spells }

      pub other_begun : At (Join input second output) join_begun.files folder after
          (CanBePlayed second ∷ GoTogether input second ∷ [])
      other_begun = met_next join_begun.at (other, other_held)

      -- which can be played, too
      pub both_play : IsPlayable other →
          At (Join input second output) join_begun.files folder after (GoTogether input second ∷ [])
      both_play other_plays = met_next other_begun (other, other_held, other_plays)
