-- The stages of `bound-check`: the song and the numbers were read, the patterns are short, and the numbers are admitted.
use Rattle.std.proofs.Common.{◌≡◌, ◌≢◌, ◌≤◌, ◌+◌, ℕ, List, [], ◌∷◌, Result, Err, codes, refl, subst, arith}
use Rattle.goat_io.specs.Files.{Files}
use Rattle.song_model.specs.declared.songs.Song.{Song}
use Rattle.play_model.specs.declared.options.Options.{Options}
use Rattle.play_model.specs.Playable.{IsPlayable}
use Rattle.packed_form.specs.declared.packed_songs.PackedSong.{PackedSong}
use Rattle.player_bound.specs.declared.bounds.CallBounds.{CallBounds}
use Rattle.cycle_bound.specs.declared.checks.CertFault.{CertFault}
use Rattle.cycle_bound.specs.Least.{Fit}
use Rattle.player_bound.specs.Programs.{Blocks, program_blocks}
use Rattle.player_bound.specs.Answers.{AreChecked}
use Rattle.bound_text.specs.declared.reading.TextFault.{TextFault}
use Rattle.bound_text.specs.declared.reading.TextFault.TheVariants.{BadNumber}
use Rattle.bound_text.specs.Texts.{numbers_text, IsFaultOf}
use Rattle.command_line.specs.Last.{Last, Says}
use Rattle.command_line.specs.Words.{BoundCheck}
use Rattle.jobs.specs.SongPrograms.{HasProgram}
use Rattle.jobs.specs.Lines.{certificate_line, fault_words}
use Rattle.jobs.specs.Certificates.{IsAdmittedText, bad_number, faulty}
use Rattle.jobs.specs.Stages.{Stage, CanBePlayed, HasShortPatterns, IsAdmitted, HoldsSong, IsMet, AllPass, input_limit}
use Rattle.jobs.specs.Stages.{certificate_limit}
use Rattle.jobs.specs.Stands.{FolderState, SinkState}
use Rattle.jobs.specs.Endings as ends
use Rattle.jobs.specs.Endings.{Refuses, PacksSong, SongWasRead, ReadFails, BothWereRead, CertificateFails, JobEnds}
use Rattle.jobs.proofs.Laws.{met_passes, At, met_next, refused}
use Rattle.jobs.proofs.Laws.{BothBegun, both_begun, second_fails}

-- ---- texts that are refused

pub bad_number_fails : (b : Blocks) (text : List ℕ) (fault : TextFault) (number : ℕ) {last : Last} →
    IsFaultOf text fault → fault ≡ BadNumber number → last ≡ Says 16 (certificate_line number (codes "bad number")) →
    CertificateFails b text last
bad_number_fails b text fault number is same says =
    ends.refused (certificate_line number (codes "bad number"))
    (bad_number number (subst (IsFaultOf text) same is) refl) says

pub numbers_fail : (b : Blocks) (text numbers : List ℕ) (answer : Result CallBounds CertFault) (fault : CertFault)
    {last : Last} → Fit numbers → text ≡ numbers_text numbers → AreChecked b numbers answer → answer ≡ Err fault →
    last ≡ Says 16 (certificate_line (fault.place + 1) (fault_words fault.kind)) → CertificateFails b text last
numbers_fail b text numbers answer fault fit are told same says =
    ends.refused (certificate_line (fault.place + 1) (fault_words fault.kind))
    (faulty numbers fault fit are (subst (AreChecked b numbers) same told) refl) says

-- ---- the stages

-- the program of a song is that of its packed song
pub program_has : (packed : PackedSong) (song : Song) (o : Options) → PacksSong o packed song →
    HasProgram song o (program_blocks packed o)
program_has packed song o packs = record {
  packed = packed;
  packs = record { chosen = packs.chosen; is_for = packs.is_for; is = packs.is };
  are = refl;
}

plays_still : {input : List ℕ} {song : Song} → IsPlayable song → (files : Files) → HoldsSong files input song →
    AllPass files (CanBePlayed input ∷ [])
plays_still {input} {song} playable files held = (met_passes files (CanBePlayed input) (song, held, playable), tt)

-- the stages behind those of the two files
abbrev later : List ℕ → List ℕ → Options → List Stage
later input certificate o = HasShortPatterns input ∷ IsAdmitted input certificate o ∷ []

module _ {input certificate : List ℕ} (o : Options) {folder after : FolderState} {song : Song}
    (playable : IsPlayable song) where
  -- the song was read and can be played, and the numbers weren't read
  pub certificate_fails : {last : Last} (sink : SinkState) (between : FolderState) →
      SongWasRead input folder between song → certificate ≢ input →
      ReadFails certificate certificate_limit between after last →
      JobEnds (BoundCheck input certificate o) last folder after sink sink
  certificate_fails sink between read differ fails =
      second_fails (BoundCheck input certificate o) input certificate certificate_limit (CanBePlayed input ∷ [])
      (later input certificate o) refl (plays_still playable) sink between read differ fails

  module _ {text : List ℕ} (both : BothWereRead input certificate certificate_limit folder after song text) where
    -- or they were
    pub check_begun :
        BothBegun (BoundCheck input certificate o) folder after (later input certificate o) input certificate song text
    check_begun =
        let within : input_limit ≤ certificate_limit = omega arith in
        both_begun (BoundCheck input certificate o) input certificate certificate_limit (CanBePlayed input ∷ [])
        (later input certificate o) refl (plays_still playable) both within

    module _ {packed : PackedSong} (packs : PacksSong o packed song)
        (short : (files : Files) (name : List ℕ) → HoldsSong files name song → IsMet files (HasShortPatterns name)) where
      -- the patterns are short
      pub short_begun : At (BoundCheck input certificate o) check_begun.files folder after
          (IsAdmitted input certificate o ∷ [])
      short_begun = met_next check_begun.at (short check_begun.files input check_begun.held)

      -- the numbers aren't admitted
      pub not_admitted : {last : Last} (sink : SinkState) → CertificateFails (program_blocks packed o) text last →
          JobEnds (BoundCheck input certificate o) last folder after sink sink
      not_admitted {last} sink fails = refused sink short_begun refl (refuses fails)
        where
          refuses : CertificateFails (program_blocks packed o) text last →
              Refuses check_begun.files (IsAdmitted input certificate o) last
          refuses (ends.refused line is says) =
              ends.ends line (
                song,
                program_blocks packed o,
                text,
                line,
                check_begun.held,
                program_has packed song o packs,
                check_begun.found,
                is,
                refl,
              ) says
          refuses (ends.wanting wants) = ends.wanting wants

      -- or they are
      pub all_admitted : (bounds : CallBounds) → IsAdmittedText (program_blocks packed o) text bounds →
          At (BoundCheck input certificate o) check_begun.files folder after []
      all_admitted bounds is =
          met_next short_begun (
            song,
            program_blocks packed o,
            text,
            bounds,
            check_begun.held,
            program_has packed song o packs,
            check_begun.found,
            is,
          )
