-- A song's script makes the song of the empty one.
use Rattle.std.proofs.Common.{[], codes, refl}
use Rattle.song_model.specs.declared.songs.Song.{Song}
use Rattle.song_model.specs.Silence.{empty_song}
use Rattle.song_model.specs.Limits.{KeepsLimits}
use Rattle.song_script.specs.Parts.{texts_said, tables_said}
use Rattle.song_script.specs.Shown.{title_words, statements_of, edits_of}
use Rattle.song_script.specs.ScriptLaws.{EditsMakeTheSong, ScriptsMakeTheSong}
use Rattle.song_script.proofs.AfterLaws.{Makes, none_makes, both_make, comment_makes}
use Rattle.song_script.proofs.MadeLaws.{blank_of, parts_make}
use Rattle.song_script.proofs.FillLaws.{text_makes, instruments_fill, table_fills}
use Rattle.song_script.proofs.OrderLaws.{subtunes_fill}
use Rattle.song_script.proofs.PatternFills.{patterns_fill}
use Rattle.song_script.proofs.ReadLaws.{commands_of, gives}
use Rattle.song_script.proofs.SaidLaws.{statements_read}
use Rattle.song_script.proofs.FoldLaws.{stands, fold_goes}

-- the song with its texts alone, with subtunes and so on
abbrev with_texts : Song → Song
with_texts song = record (blank_of song) { name = song.name; author = song.author; copyright = song.copyright }

abbrev with_subtunes : Song → Song
with_subtunes song = record (with_texts song) { subtunes = song.subtunes }

abbrev with_instruments : Song → Song
with_instruments song = record (with_subtunes song) { instruments = song.instruments }

abbrev with_tables : Song → Song
with_tables song = record (with_instruments song) {
  wave = song.wave;
  pulse = song.pulse;
  filter = song.filter;
  speed = song.speed;
}

texts_make : (song : Song) → KeepsLimits song → Makes (texts_said song) (blank_of song) (with_texts song)
unfolding texts_said
texts_make song keeps =
    let one : Song = record (blank_of song) { name = song.name } in
    let two : Song = record one { author = song.author } in
    both_make
    (both_make (text_makes (blank_of song) 0 (codes "name") song.name refl keeps.name refl)
    (text_makes one 1 (codes "author") song.author refl keeps.author refl))
    (text_makes two 2 (codes "copyright") song.copyright refl keeps.copyright refl)

tables_make : (song : Song) → Makes (tables_said song) (with_instruments song) (with_tables song)
unfolding tables_said
tables_make song =
    let none = with_instruments song in
    let one : Song = record none { wave = song.wave } in
    let two : Song = record one { pulse = song.pulse } in
    let three : Song = record two { filter = song.filter } in
    both_make
    (both_make
    (both_make (table_fills none 0 (codes "wave") song.wave refl)
    (table_fills one 1 (codes "pulse") song.pulse refl))
    (table_fills two 2 (codes "filter") song.filter refl))
    (table_fills three 3 (codes "speed") song.speed refl)

statements_make : (song : Song) → KeepsLimits song → Makes (statements_of song) empty_song song
unfolding statements_of
statements_make song keeps =
    both_make
    (both_make
    (both_make
    (both_make
    (both_make
    (both_make (comment_makes title_words (none_makes empty_song)) (parts_make song keeps))
    (texts_make song keeps))
    (subtunes_fill (with_texts song) song.subtunes keeps.subtunes))
    (instruments_fill (with_subtunes song) song.instruments keeps.instruments))
    (tables_make song))
    (patterns_fill (with_tables song) song.patterns keeps.patterns)

pub edits_make_the_song : EditsMakeTheSong
edits_make_the_song song keeps = (statements_make song keeps).is

pub scripts_make_the_song : ScriptsMakeTheSong
scripts_make_the_song song keeps = record {
  commands = commands_of 1 (statements_of song);
  is_script = gives 1 (statements_of song) (statements_read song keeps);
  history = stands empty_song (edits_of song);
  done = fold_goes empty_song song 1 (statements_of song) [] (edits_make_the_song song keeps);
  after_is = edits_make_the_song song keeps;
}
