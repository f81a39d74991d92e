-- What comes of a song's script, done on the empty song.
use Rattle.std.proofs.Common.{◌≡◌, ◌≤◌, ℕ, List, [], ◌∷◌, Option, Some, length, inl, inr, refl, ap}
use Rattle.std.proofs.Common.{◌∙◌, subst, arith}
use Rattle.std.proofs.lemmas.Bool.{cases_lt}
use Rattle.goat_io.specs.Files.{Files, file_of}
use Rattle.goat_io.proofs.Laws.{file_put}
use Rattle.song_model.specs.declared.songs.Song.{Song}
use Rattle.song_model.specs.Canonical.{canonical}
use Rattle.song_model.specs.Silence.{empty_song}
use Rattle.edit_script.specs.Edited.{IsEditedBy}
use Rattle.edit_script.proofs.Laws.{edits_in_one_way}
use Rattle.song_script.specs.Shown.{script_of}
use Rattle.song_script.proofs.Laws.{scripts_make_the_song}
use Rattle.command_line.specs.Words.{Edit}
use Rattle.command_line.proofs.Laws.{one_job}
use Rattle.jobs.specs.Lines.{script_too_large_line}
use Rattle.jobs.specs.Stages.{IsThere, Fits, SpellsSong, HasShortScript, CanBeEdited, HoldsSong, IsEditedIn, Passes}
use Rattle.jobs.specs.Stages.{AllPass, input_limit, script_limit}
use Rattle.jobs.specs.Jobs.{stages, Done}
use Rattle.jobs.specs.Outcome as outcome
use Rattle.jobs.specs.Outcome.{Outcome, files_after}
use Rattle.jobs.specs.Due as due
use Rattle.jobs.specs.Due.{IsDue}
use Rattle.jobs.specs.Answers.{AsksToMake}
use Rattle.jobs.specs.MetPremises.{ScriptsAreDone}
use Rattle.jobs.specs.Laws.{ScriptsMakeSongsAgain}
use Rattle.jobs.proofs.Passes.{met_passes, one_file, one_song_held}
use Rattle.jobs.proofs.Due.{not_zero}

module _ (words : List (List ℕ)) (files : Files) (song : Song) (output : List ℕ)
    (asked : AsksToMake words files song output) where
  edited : IsEditedBy (script_of song) empty_song song
  edited = scripts_make_the_song song asked.limits

  edited_in : IsEditedIn files asked.input asked.script empty_song song
  edited_in = record { holds = asked.empty; text = script_of song; found = asked.found; edited = edited }

  pass : AllPass files (stages (Edit asked.input asked.script output))
  pass = (
    met_passes files (IsThere asked.input) (asked.empty.bytes, asked.empty.found),
    (
      met_passes files (Fits asked.input input_limit) (asked.empty.bytes, asked.empty.found, asked.short),
      (
        met_passes files (SpellsSong asked.input) (empty_song, asked.empty),
        (
          met_passes files (IsThere asked.script) (script_of song, asked.found),
          (
            met_passes files (Fits asked.script script_limit) (script_of song, asked.found, asked.fits),
            (met_passes files (CanBeEdited asked.input asked.script) (empty_song, song, edited_in), tt),
          ),
        ),
      ),
    ),
  )

  pub script_is_due : IsDue words files 0 (Some output)
  script_is_due = due.done (Edit asked.input asked.script output) asked.form pass refl refl

  -- what is written where it is done
  written : {lines : List (List ℕ)} {write : Option (List ℕ × List ℕ)} →
      Done (Edit asked.input asked.script output) files lines write → write ≡ Some (output, canonical song)
  written (file, (before, after, is, spelled), wrote) =
      let first = one_song_held files asked.input before empty_song is.holds asked.empty in
      let text = one_file files asked.script is.text (script_of song) is.found asked.found in
      let same = edits_in_one_way.one_song (script_of song) empty_song after song
      (subst (λ s. IsEditedBy (script_of song) s after) first (subst (λ t. IsEditedBy t before after) text is.edited))
      edited in
      wrote.write_is ∙ ap (λ f. Some (output, f)) (spelled ∙ ap canonical same)

  pub writes_song : {lines : List (List ℕ)} {write : Option (List ℕ × List ℕ)} →
      Outcome words files 0 lines write → write ≡ Some (output, canonical song)
  writes_song (outcome.usage none zero l w) = absurd (omega (arith, zero))
  writes_song {lines} (outcome.ended job form first w) = absurd (not_zero files (stages job) lines first)
  writes_song {lines} {write} (outcome.done job form all did zero) =
      written
      (subst (λ j. Done j files lines write) (one_job words job (Edit asked.input asked.script output) form asked.form)
      did)

pub scripts_are_done : ScriptsAreDone
scripts_are_done words files input script output song form holds short limits found fits =
    let asked : AsksToMake words files song output = record {
      input = input;
      script = script;
      form = form;
      empty = holds;
      short = short;
      limits = limits;
      found = found;
      fits = fits;
    } in
    (asked, pass words files song output asked)

-- where the stage passes the script is short enough
short_enough : (files : Files) (name : List ℕ) (song : Song) → HoldsSong files name song →
    Passes files (HasShortScript name) → length (script_of song) ≤ script_limit
short_enough files name song held passes = elim (cases_lt script_limit (length (script_of song))) [
  | inl long ↦ absurd
      (passes (script_too_large_line (length (script_of song)) ∷ []) (song, held, long, refl))
  | inr short ↦ short
]

-- what was shown is made again
pub scripts_make_songs_again : ScriptsMakeSongsAgain
scripts_make_songs_again words files input script empty output lines write song held all (file, (other, other_held, is), wrote) holds short form =
    let text : file ≡ script_of song = is ∙ ap script_of (one_song_held files input other song other_held held) in
    let after = ap (files_after files) wrote.write_is in
    record {
      input = empty;
      script = script;
      form = form;
      empty = holds;
      short = short;
      limits = held.spells.limits;
      found = ap (λ f. file_of f script) after ∙ file_put files script file ∙ ap Some text;
      fits = short_enough files input song held all.1.1.1.0;
    }
