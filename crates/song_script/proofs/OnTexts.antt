-- What an answer unfolds to compute the text of a song that is written out.
use Rattle.std.specs.Prelude.{⊤}
use Rattle.hex.specs.Hex.{encode_with}
use Rattle.song_script.specs.Parts.{parts_made, texts_said, name_words, tables_said}
use Rattle.song_script.specs.Shown.{statements_of}

unfoldable pub showing_texts : ⊤
unfolding statements_of parts_made texts_said name_words tables_said encode_with
showing_texts = tt
