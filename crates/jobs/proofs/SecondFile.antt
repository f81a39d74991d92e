-- A run that reads a song, looks at it, and then reads another file: both are among the files that stand for the folder's.
use Rattle.std.proofs.Common.{◌≡◌, ◌≢◌, ℕ, ◌≤◌, List, [], ◌∷◌, ◌++◌, Option, Some, None}
use Rattle.std.proofs.Common.{length, refl, sym, ap, ◌∙◌, subst, arith}
use Rattle.std.specs.Ordering.{nat_cmp}
use Rattle.std.specs.Cmp.Lexicographic.{slice_cmp}
use Rattle.std.specs.FinMap.{empty, get-empty}
use Rattle.std.proofs.lemmas.List.{append_assoc}
use Rattle.goat_io.specs.Files.{Files, file_of, with_file, IsAbsent, IsAbove}
use Rattle.goat_io.proofs.Laws.{file_put, file_beside}
use Rattle.song_model.specs.declared.songs.Song.{Song}
use Rattle.command_line.specs.Words.{Job}
use Rattle.jobs.specs.Lines.{missing_line, too_long_line, read_fault_line}
use Rattle.command_line.specs.Last.{Last, Says}
use Rattle.jobs.specs.Stages.{Stage, IsThere, Fits, SpellsSong, HoldsSong, AllPass, input_limit}
use Rattle.jobs.specs.Jobs.{stages}
use Rattle.jobs.specs.Stands as stands
use Rattle.jobs.specs.Stands.{FolderState, SinkState, AreFiles, Counted, FolderStays, ComesTo}
use Rattle.jobs.specs.Endings as ends
use Rattle.jobs.specs.Endings.{SongWasRead, ReadFails, BothWereRead, BothFail, JobEnds}
use Rattle.jobs.proofs.Told.{counted_on, stays_on}
use Rattle.jobs.proofs.Passes.{met_passes}
use Rattle.jobs.proofs.Ends.{says_ends, has_last, wants_first}
use Rattle.jobs.proofs.Chains.{At, pass_more, hold_fails}

-- ---- files that hold both

-- the song's file, with something that holds of the others
record Beside (input bytes : List ℕ) (told : Option Files) (holds : Files → Type 0) : Type 0 where
  files : Files
  are_files : AreFiles told files
  found : file_of files input ≡ Some bytes
  holds_of : holds files

module _ {input bytes : List ℕ} where
  -- another file is there
  with_other : {other text : List ℕ} (told : Option Files) (a b : Files) → AreFiles told a → AreFiles told b →
      file_of a input ≡ Some bytes → file_of b other ≡ Some text → input ≢ other →
      Beside input bytes told (λ files. file_of files other ≡ Some text)
  with_other {other} {text} None a b p q first second differ = record {
    files = with_file a other text;
    are_files = tt;
    found = file_beside a other text input differ ∙ first;
    holds_of = file_put a other text;
  }
  with_other {other} {text} (Some known) a b p q first second differ = record {
    files = known;
    are_files = refl;
    found = subst (λ files. file_of files input ≡ Some bytes) p first;
    holds_of = subst (λ files. file_of files other ≡ Some text) q second;
  }

  -- another file isn't there
  without_other : {other : List ℕ} (told : Option Files) (a b : Files) → AreFiles told a → AreFiles told b →
      file_of a input ≡ Some bytes → IsAbsent other b → input ≢ other →
      Beside input bytes told (IsAbsent other)
  without_other {other} None a b p q first absent differ = record {
    files = with_file empty input bytes;
    are_files = tt;
    found = file_put empty input bytes;
    holds_of = file_beside empty input bytes other (λ same. differ (sym same)) ∙ get-empty (slice_cmp nat_cmp) other;
  }
  without_other {other} (Some known) a b p q first absent differ = record {
    files = known;
    are_files = refl;
    found = subst (λ files. file_of files input ≡ Some bytes) p first;
    holds_of = subst (IsAbsent other) q absent;
  }

-- the stages of the song's file, and more of the song
abbrev first_stages : List ℕ → List Stage → List Stage
first_stages input more = IsThere input ∷ Fits input input_limit ∷ SpellsSong input ∷ more

-- they are met
first_pass : {input : List ℕ} {song : Song} (more : List Stage) (files : Files) (held : HoldsSong files input song) →
    length held.bytes ≤ input_limit → AllPass files more → AllPass files (first_stages input more)
first_pass {input} {song} more files held fits pass = (
  met_passes files (IsThere input) (held.bytes, held.found),
  (
    met_passes files (Fits input input_limit) (held.bytes, held.found, fits),
    (met_passes files (SpellsSong input) (song, held), pass),
  ),
)

-- the same song in other files that have its bytes
abbrev held_in : {input : List ℕ} {song : Song} {before between : FolderState} (files : Files)
    (read : SongWasRead input before between song) → file_of files input ≡ Some read.bytes →
    HoldsSong files input song
held_in files read found = record { bytes = read.bytes; found = found; spells = read.spells }

-- a job that begins with a song and another file has read both
pub record BothBegun (job : Job) (folder after : FolderState) (rest : List Stage) (input other : List ℕ) (song : Song)
    (text : List ℕ) : Type 0 where
  pub files : Files
  pub held : HoldsSong files input song
  pub found : file_of files other ≡ Some text
  pub at : At job files folder after rest

-- up to the stage that the other file is there
abbrev until_there : List ℕ → List Stage → List ℕ → List Stage
until_there input more other = first_stages input more ++ IsThere other ∷ []

there_pass : {input text : List ℕ} {song : Song} (other : List ℕ) (more : List Stage) (files : Files)
    (held : HoldsSong files input song) → length held.bytes ≤ input_limit → AllPass files more →
    file_of files other ≡ Some text → AllPass files (until_there input more other)
there_pass {input} {text} other more files held fits pass found =
    pass_more files (first_stages input more) (IsThere other) (first_pass more files held fits pass)
    (met_passes files (IsThere other) (text, found))

then_fits : (job : Job) (input other : List ℕ) (limit : ℕ) (more rest : List Stage) →
    stages job ≡ first_stages input more ++ IsThere other ∷ Fits other limit ∷ rest →
    stages job ≡ until_there input more other ++ Fits other limit ∷ rest
then_fits job input other limit more rest are =
    are ∙ sym (append_assoc (first_stages input more) (IsThere other ∷ []) (Fits other limit ∷ rest))

module _ {folder after : FolderState} (job : Job) (input other : List ℕ) (limit : ℕ) (more rest : List Stage)
    (in_stages : stages job ≡ first_stages input more ++ IsThere other ∷ Fits other limit ∷ rest) where
  module _ {song : Song} (files : Files) (held : HoldsSong files input song) (fits : length held.bytes ≤ input_limit)
      (pass : AllPass files more) where
    -- and those of both files
    both_at : {text : List ℕ} → AreFiles folder.told files → FolderStays folder after →
        file_of files other ≡ Some text → length text ≤ limit → At job files folder after rest
    both_at {text} are stays found within = record {
      are_files = are;
      stays = stays;
      met = until_there input more other ++ Fits other limit ∷ [];
      stages_are =
          then_fits job input other limit more rest in_stages
          ∙ sym (append_assoc (until_there input more other) (Fits other limit ∷ []) rest);
      pass =
          pass_more files (until_there input more other) (Fits other limit) (there_pass other more files held fits pass found)
          (met_passes files (Fits other limit) (text, found, within));
    }

    -- the other file isn't there
    missing_at : {line : List ℕ} (sink : SinkState) → AreFiles folder.told files → IsAbsent other files →
        line ≡ missing_line other → after.told ≡ folder.told → Counted 2 folder.counts after.counts →
        JobEnds job (Says 2 line) folder after sink sink
    missing_at sink are absent is same counted =
        says_ends sink files (first_stages input more) (Fits other limit ∷ rest) (IsThere other) are in_stages
        (first_pass more files held fits pass) (absent, ap (λ l. l ∷ []) is) same counted

    -- it has too many bytes
    too_long_at : {line : List ℕ} (sink : SinkState) → AreFiles folder.told files → IsAbove limit other files →
        line ≡ too_long_line other → after.told ≡ folder.told → Counted 3 folder.counts after.counts →
        JobEnds job (Says 3 line) folder after sink sink
    too_long_at sink are above is same counted =
        says_ends sink files (until_there input more other) rest (Fits other limit) are
        (then_fits job input other limit more rest in_stages) (there_pass other more files held fits pass above.1)
        (above, ap (λ l. l ∷ []) is) same counted

    -- its read failed
    failed_at : (sink : SinkState) → AreFiles folder.told files → after.told ≡ folder.told →
        Counted 4 folder.counts after.counts → JobEnds job (Says 4 (read_fault_line other)) folder after sink sink
    failed_at sink are same counted = has_last sink are (λ words form.
        let comes : ComesTo words files (IsThere other) = record {
          job = job;
          form = form;
          earlier = first_stages input more;
          later = Fits other limit ∷ rest;
          stages_are = in_stages;
          pass = first_pass more files held fits pass;
        } in
        stands.read_fault other comes refl refl same) counted

  -- ---- what was read, and what was not

  -- both were read
  pub both_begun : {song : Song} {text : List ℕ} →
      ((files : Files) → HoldsSong files input song → AllPass files more) →
      BothWereRead input other limit folder after song text → input_limit ≤ limit →
      BothBegun job folder after rest input other song text
  both_begun {song} {text} passes (ends.once spelling is) within =
      let read = spelling.read in
      let here : file_of read.was.files input ≡ Some text = read.was.found ∙ ap Some (sym spelling.bytes_are) in
      let found : file_of read.was.files other ≡ Some text =
      subst (λ name. file_of read.was.files name ≡ Some text) (sym is) here in
      let fits : length text ≤ limit = omega (arith, read.was.fits, within, ap length spelling.bytes_are) in
      let held = held_in read.was.files read read.was.found in
      record {
        files = read.was.files;
        held = held;
        found = found;
        at =
            both_at read.was.files held read.was.fits (passes read.was.files held) read.was.are_files read.was.stays found
            fits;
      }
  both_begun passes (ends.each between read differ was) within =
      let are = subst (λ told. AreFiles told was.files) read.was.stays.told was.are_files in
      let with = with_other folder.told read.was.files was.files read.was.are_files are read.was.found was.found
      (λ same. differ (sym same)) in
      let held = held_in with.files read with.found in
      record {
        files = with.files;
        held = held;
        found = with.holds_of;
        at =
            both_at with.files held read.was.fits (passes with.files held) with.are_files
            (stays_on read.was.stays was.stays) with.holds_of was.fits;
      }

  pub second_fails : {song : Song} {last : Last} →
      ((files : Files) → HoldsSong files input song → AllPass files more) → (sink : SinkState) (between : FolderState) →
      SongWasRead input folder between song → other ≢ input → ReadFails other limit between after last →
      JobEnds job last folder after sink sink
  second_fails passes sink between read differ (ends.missing files are absent says same counted) =
      let told = subst (λ told. AreFiles told files) read.was.stays.told are in
      let with = without_other folder.told read.was.files files read.was.are_files told read.was.found absent
      (λ is. differ (sym is)) in
      let held = held_in with.files read with.found in
      rw says (missing_at with.files held read.was.fits (passes with.files held) sink with.are_files with.holds_of refl
      (same ∙ read.was.stays.told) (counted_on read.was.stays.counts counted))
  second_fails passes sink between read differ (ends.too_long files are above says same counted) =
      let told = subst (λ told. AreFiles told files) read.was.stays.told are in
      let with = with_other folder.told read.was.files files read.was.are_files told read.was.found above.1
      (λ is. differ (sym is)) in
      let held = held_in with.files read with.found in
      rw says (too_long_at with.files held read.was.fits (passes with.files held) sink with.are_files
      (above.0, with.holds_of, above.2) refl (same ∙ read.was.stays.told) (counted_on read.was.stays.counts counted))
  second_fails passes sink between read differ (ends.failed says same counted) =
      let held = held_in read.was.files read read.was.found in
      rw says (failed_at read.was.files held read.was.fits (passes read.was.files held) sink read.was.are_files
      (same ∙ read.was.stays.told) (counted_on read.was.stays.counts counted))
  second_fails passes sink between read differ (ends.wanting wants stays) =
      rw wants (wants_first sink (stays_on read.was.stays stays))

  -- or they were not
  pub both_fail : {last : Last} → ((files : Files) (song : Song) → HoldsSong files input song → AllPass files more) →
      (sink : SinkState) → BothFail input other limit folder after last → JobEnds job last folder after sink sink
  both_fail passes sink (ends.first fails) = hold_fails sink in_stages refl fails
  both_fail passes sink (ends.second {song} between read differ fails) =
      second_fails (λ files. passes files song) sink between read differ fails
