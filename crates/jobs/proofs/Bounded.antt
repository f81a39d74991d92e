-- What is told of numbers holds of packed files, and what `bound` writes is admitted.
use Rattle.std.proofs.Common.{◌≡◌, ◌≢◌, ℕ, ◌≤◌, ◌++◌, List, [], ◌∷◌, length, Some, None, inl, inr}
use Rattle.std.proofs.Common.{refl, sym, ap, ◌∙◌, subst, arith}
use Rattle.std.proofs.lemmas.Bool.{cases_lt}
use Rattle.goat_io.specs.Files.{Files, file_of, with_file}
use Rattle.goat_io.proofs.Laws.{file_put, file_beside}
use Rattle.song_model.specs.declared.songs.Song.{Song}
use Rattle.play_model.specs.declared.options.Options.{Options}
use Rattle.play_model.specs.declared.options.System.{System}
use Rattle.cut_pack.specs.Chosen.{IsPackedFor, in_pieces, as_it_is}
use Rattle.play_model.specs.Playable.{IsPlayable}
use Rattle.cycle_bound.specs.Least.{Fit}
use Rattle.cycle_bound.specs.Rules.{bound_by}
use Rattle.player_bound.specs.declared.bounds.CallBounds.{CallBounds}
use Rattle.player_bound.specs.Programs.{Blocks, program_blocks, least_init, least_play}
use Rattle.player_bound.specs.Answers.{AreBounds}
use Rattle.player_bound.proofs.Laws.{kept_within, systems_are_bound_alike, least_bounds_are_least}
use Rattle.player_bound.proofs.Laws.{init_fits, play_fits, numbers_are_few}
use Rattle.bound_text.specs.Texts.{numbers_text}
use Rattle.bound_text.proofs.Laws.{text_is_short}
use Rattle.command_line.specs.Words.{Bound, BoundCheck}
use Rattle.jobs.specs.Lines.{bound_line, too_long_line}
use Rattle.jobs.specs.SongPrograms.{HasProgram}
use Rattle.jobs.specs.Certificates.{IsAdmittedText}
use Rattle.jobs.specs.Stages.{IsThere, Fits, SpellsSong, CanBePlayed, HasShortPatterns, IsAdmitted, HoldsSong, Passes}
use Rattle.jobs.specs.Stages.{AllPass, input_limit, certificate_limit}
use Rattle.jobs.specs.Jobs.{stages, Done}
use Rattle.jobs.specs.Outcome.{files_after}
use Rattle.jobs.specs.Laws.{WrittenBoundsAreAdmitted, ToldBoundsAreKept, LeastTextsAreAdmitted, SongsHaveOneProgram}
use Rattle.jobs.specs.Laws.{BoundsHaveOneOutcome}
use Rattle.jobs.specs.MetPremises.{PlayableSongsAreBounded}
use Rattle.jobs.proofs.OneProgram.{one_program}
use Rattle.jobs.proofs.Passes.{met_passes, one_song_held, playable_songs_pass_lem}

-- ---- both systems

abbrev in_system : Options → System → Options
in_system o system = record o { system = system }

packed_in : (o : Options) (system : System) (song chosen : Song) → IsPackedFor o song chosen →
    IsPackedFor (in_system o system) song chosen
packed_in o system song chosen (in_pieces whole cut shorter) = in_pieces whole cut shorter
packed_in o system song chosen (as_it_is same longer) = as_it_is same longer

program_in : (o : Options) (system : System) (song : Song) (b : Blocks) → (has : HasProgram song o b) →
    HasProgram song (in_system o system) (program_blocks has.packed (in_system o system))
program_in o system song b has = record {
  packed = has.packed;
  packs = record {
    chosen = has.packs.chosen;
    is_for = packed_in o system song has.packs.chosen has.packs.is_for;
    is = has.packs.is;
  };
  are = refl;
}

pub told_bounds_are_kept : ToldBoundsAreKept
told_bounds_are_kept song o b text bounds system psid address zero_page chip file has is written =
    let answer = subst (λ p. AreBounds p is.numbers bounds) has.are is.answer in
    kept_within written.packed.image address song (program_blocks has.packed (in_system o system)) is.numbers bounds
    (written.bounded (program_blocks has.packed (in_system o system)) (program_in o system song b has))
    (systems_are_bound_alike has.packed o system is.numbers bounds answer)

-- ---- the least numbers

both_fit : (one two : List ℕ) → Fit one → Fit two → Fit (one ++ two)
both_fit [] two a b = b
both_fit (number ∷ one) two a b = (a.0, both_fit one two a.1 b)

least_fits : (song : Song) (options : Options) (b : Blocks) → HasProgram song options b →
    Fit (least_init b ++ least_play b)
least_fits song options b has =
    subst (λ p. Fit (least_init p ++ least_play p)) (sym has.are)
    (both_fit (least_init (program_blocks has.packed options)) (least_play (program_blocks has.packed options))
    (init_fits has.packed options) (play_fits has.packed options))

least_few : (song : Song) (options : Options) (b : Blocks) → HasProgram song options b →
    length (least_init b ++ least_play b) ≤ 2000
least_few song options b has =
    subst (λ p. length (least_init p ++ least_play p) ≤ 2000) (sym has.are) (numbers_are_few has.packed options)

pub least_texts_are_admitted : LeastTextsAreAdmitted
least_texts_are_admitted song options b has =
    let least = least_bounds_are_least b in (
      least.bounds,
      least.init,
      least.play,
      record {
        numbers = least_init b ++ least_play b;
        fit = least_fits song options b has;
        are = refl;
        answer = least.told;
      },
    )

-- ---- what was written

-- where the stage passes the file isn't too long
fits_in : (files : Files) (name bytes : List ℕ) (limit : ℕ) → file_of files name ≡ Some bytes →
    Passes files (Fits name limit) → length bytes ≤ limit
fits_in files name bytes limit found passes = elim (cases_lt limit (length bytes)) [
  | inl long ↦ absurd (passes (too_long_line name ∷ []) ((bytes, found, long), refl))
  | inr short ↦ short
]

module _ (files : Files) (input output : List ℕ) (o : Options) (differ : input ≢ output) (song : Song) (b : Blocks)
    (holds : HoldsSong files input song) (has : HasProgram song o b) (text : List ℕ)
    (are : text ≡ numbers_text (least_init b ++ least_play b)) (all : AllPass files (stages (Bound input output o))) where
  abbrev after : Files
  after = with_file files output text

  beside : file_of after input ≡ file_of files input
  beside = file_beside files output text input differ

  abbrev held : HoldsSong after input song
  held = record { bytes = holds.bytes; found = beside ∙ holds.found; spells = holds.spells }

  back : (other : Song) → HoldsSong after input other → HoldsSong files input other
  back other is = record { bytes = is.bytes; found = sym beside ∙ is.found; spells = is.spells }

  short_still : Passes after (HasShortPatterns input)
  short_still lines ends =
      all.1.1.1.1.0 lines (ends.0, ends.1, ends.2, ends.3, back ends.0 ends.4, ends.5, ends.6, ends.7)

  playable : IsPlayable song
  playable = (playable_songs_pass_lem files input song holds).0 all.1.1.1.0

  few : length text ≤ certificate_limit
  few =
      let bytes = text_is_short (least_init b ++ least_play b) (least_fits song o b has) in
      let most = least_few song o b has in
      let same = ap length are in
      omega (arith, bytes, most, same)

  admitted : (bounds : CallBounds) × (bounds.init ≡ bound_by (least_init b)) × (bounds.play ≡ bound_by (least_play b))
      × IsAdmittedText b (numbers_text (least_init b ++ least_play b)) bounds
  admitted = least_texts_are_admitted song o b has

  is_admitted : IsAdmittedText b text admitted.0
  is_admitted = subst (λ t. IsAdmittedText b t admitted.0) (sym are) admitted.3

  pass : AllPass after (stages (BoundCheck input output o))
  pass = (
    met_passes after (IsThere input) (held.bytes, held.found),
    (
      met_passes after (Fits input input_limit)
          (held.bytes, held.found, fits_in files input holds.bytes input_limit holds.found all.1.0),
      (
        met_passes after (SpellsSong input) (song, held),
        (
          met_passes after (CanBePlayed input) (song, held, playable),
          (
            met_passes after (IsThere output) (text, file_put files output text),
            (
              met_passes after (Fits output certificate_limit) (text, file_put files output text, few),
              (
                short_still,
                (
                  met_passes after (IsAdmitted input output o)
                      (song, b, text, admitted.0, held, has, file_put files output text, is_admitted),
                  tt,
                ),
              ),
            ),
          ),
        ),
      ),
    ),
  )

  tells : (lines : List (List ℕ)) → lines ≡ bound_line (bound_by (least_init b)) (bound_by (least_play b)) ∷ [] →
      Done (BoundCheck input output o) after lines None
  tells lines is = (
    (
      song,
      b,
      text,
      admitted.0,
      held,
      has,
      file_put files output text,
      is_admitted,
      is ∙ ap (λ n. bound_line n (bound_by (least_play b)) ∷ []) (sym admitted.1)
          ∙ ap (λ n. bound_line admitted.0.init n ∷ []) (sym admitted.2),
    ),
    refl,
  )

pub written_bounds_are_admitted : WrittenBoundsAreAdmitted
written_bounds_are_admitted files input output o lines write differ all (text, (song, b, holds, has, are, is), wrote) =
    subst
    (λ now. AllPass now (stages (BoundCheck input output o)) × Done (BoundCheck input output o) now lines None)
    (sym (ap (files_after files) wrote)) (
      pass files input output o differ song b holds has text are all,
      tells files input output o differ song b holds has text are all lines is,
    )

-- ---- one outcome

pub songs_have_one_program : SongsHaveOneProgram
songs_have_one_program = one_program

pub bounds_have_one_outcome : BoundsHaveOneOutcome
bounds_have_one_outcome files input output o lines others write other (text, (song, b, holds, has, are, is), wrote)
    (text', (song', b', holds', has', are', is'), wrote') =
    let same = one_song_held files input song song' holds holds' in
    let program = one_program song' o b b' (subst (λ s. HasProgram s o b) same has) has' in
    let texts = are ∙ ap (λ p. numbers_text (least_init p ++ least_play p)) program ∙ sym are' in (
      is ∙ ap (λ p. bound_line (bound_by (least_init p)) (bound_by (least_play p)) ∷ []) program ∙ sym is',
      wrote ∙ ap (λ t. Some (output, t)) texts ∙ sym wrote',
    )

-- ---- songs that are bounded

pub playable_songs_are_bounded : PlayableSongsAreBounded
playable_songs_are_bounded files input output o song used holds fits playable are_used short = (
  met_passes files (IsThere input) (holds.bytes, holds.found),
  (
    met_passes files (Fits input input_limit) (holds.bytes, holds.found, fits),
    (
      met_passes files (SpellsSong input) (song, holds),
      (
        met_passes files (CanBePlayed input) (song, holds, playable),
        (met_passes files (HasShortPatterns input) (song, used, holds, are_used, short), tt),
      ),
    ),
  ),
)
