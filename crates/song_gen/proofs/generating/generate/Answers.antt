use Rattle.std.proofs.Common.{◌≡◌, ℕ, List, sym, ap, ◌∙◌, subst}
use Rattle.song_model.specs.declared.rows.Row.{Row}
use Rattle.song_model.specs.declared.orders.Subtune.{Subtune}
use Rattle.song_model.specs.declared.instruments.Instrument.{Instrument}
use Rattle.song_model.specs.declared.tables.TableRow.{TableRow}
use Rattle.song_model.specs.declared.songs.Song.{Song}
use Rattle.song_model.specs.Silence.{empty_song}
use Rattle.play_model.specs.Playable.{IsPlayable}
use Rattle.song_gen.specs.Draws.{after}
use Rattle.song_gen.specs.GeneratedSong.{wave_rows, pulse_rows, filter_rows, speed_rows, instruments_from}
use Rattle.song_gen.specs.GeneratedSong.{patterns_from, subtunes_from, behind_rows, behind_patterns, generated_song}
use Rattle.song_gen.specs.GeneratedLaws.{PatternsAreShort, IsSmall}
use Rattle.song_gen.proofs.Playable.{generated_songs_are_playable}
use Rattle.song_gen.proofs.Small.{generated_patterns_are_short, generated_songs_are_small}
use Rattle.song_gen.proofs.generating.generate.Goals as goal

abbrev song_of : List Subtune → List Instrument → List TableRow → List TableRow → List TableRow → List TableRow →
    List (List Row) → Song
song_of subtunes instruments wave pulse filter speed patterns = record empty_song {
  subtunes = subtunes;
  instruments = instruments;
  wave = wave;
  pulse = pulse;
  filter = filter;
  speed = speed;
  patterns = patterns;
}

-- the song of these parts, each drawn from the number behind the one before
song_is : (x y z : ℕ) (subtunes : List Subtune) (instruments : List Instrument) (wave pulse filter speed : List TableRow)
    (patterns : List (List Row)) → instruments ≡ instruments_from x → y ≡ after x 12 → patterns ≡ patterns_from y →
    z ≡ behind_rows y 3200 → subtunes ≡ subtunes_from z → wave ≡ wave_rows → pulse ≡ pulse_rows →
    filter ≡ filter_rows → speed ≡ speed_rows →
    song_of subtunes instruments wave pulse filter speed patterns ≡ generated_song x
unfolding generated_song
song_is x y z subtunes instruments wave pulse filter speed patterns is e are f those w p l s =
    ap (λ i. song_of subtunes i wave pulse filter speed patterns) is
    ∙ ap (λ t. song_of t (instruments_from x) wave pulse filter speed patterns)
    (those ∙ ap subtunes_from (f ∙ ap (λ n. behind_rows n 3200) e))
    ∙ ap (λ t. song_of (subtunes_from (behind_patterns x)) (instruments_from x) t pulse filter speed patterns) w
    ∙ ap (λ t. song_of (subtunes_from (behind_patterns x)) (instruments_from x) wave_rows t filter speed patterns) p
    ∙ ap (λ t. song_of (subtunes_from (behind_patterns x)) (instruments_from x) wave_rows pulse_rows t speed patterns) l
    ∙ ap (λ t. song_of (subtunes_from (behind_patterns x)) (instruments_from x) wave_rows pulse_rows filter_rows t patterns)
    s
    ∙ ap (song_of (subtunes_from (behind_patterns x)) (instruments_from x) wave_rows pulse_rows filter_rows speed_rows)
    (are ∙ ap patterns_from e)

pub returns-clause-song : goal.returns-clause-song
returns-clause-song c =
    let same : c.instruments.inside.items ≡ c.in_ok-instruments.instruments = c.instruments.view_is in
    song_is c.args.number c.draw_instruments.new.draws.number c.draw_patterns.new.draws.number
    c.in_ok-subtunes.subtunes c.instruments.inside.items c.in_ok-wave_table.field-0 c.in_ok-pulse_table.field-0
    c.in_ok-filter_table.field-0 c.in_ok-speed_table.field-0 c.in_ok-patterns.patterns
    (same ∙ c.in_ok-instruments.ensures.instruments) c.in_ok-instruments.ensures.behind
    c.in_ok-patterns.ensures.patterns c.in_ok-patterns.ensures.behind c.in_ok-subtunes.ensures
    c.in_ok-wave_table.ensures c.in_ok-pulse_table.ensures c.in_ok-filter_table.ensures c.in_ok-speed_table.ensures

pub returns-clause-playable : goal.returns-clause-playable
returns-clause-playable c = subst IsPlayable (sym (returns-clause-song c)) (generated_songs_are_playable c.args.number)

pub returns-clause-short : goal.returns-clause-short
returns-clause-short c = subst PatternsAreShort (sym (returns-clause-song c)) (generated_patterns_are_short c.args.number)

pub returns-clause-small : goal.returns-clause-small
returns-clause-small c = subst IsSmall (sym (returns-clause-song c)) (generated_songs_are_small c.args.number)
