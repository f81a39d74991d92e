-- Edits of texts, and of how many subtunes and patterns a song has.
use Rattle.std.specs.Prelude.{ℕ, Bool, ◌==◌, nat_lt, List, length, replicate, if◌then◌else◌}
use Rattle.song_model.specs.declared.rows.Row.{Row}
use Rattle.song_model.specs.declared.songs.Song.{Song}
use Rattle.song_model.specs.Silence.{rest_row}

-- the texts are 0 name, 1 author, 2 copyright
abbrev pub lacks_text : ℕ → Bool
lacks_text which = nat_lt 2 which

abbrev pub text_of : Song → ℕ → List ℕ
text_of song which =
    if which == 0 then song.name else if which == 1 then song.author else song.copyright

abbrev pub with_text : Song → ℕ → List ℕ → Song
with_text song which text =
    if which == 0 then record song { name = text }
    else if which == 1 then record song { author = text }
    else record song { copyright = text }

-- a song has at most 32 subtunes
abbrev pub has_subtunes : Song → ℕ → Bool
has_subtunes song n = length song.subtunes == n

-- a song has at most 208 patterns
abbrev pub is_no_count : ℕ → Bool
is_no_count n = nat_lt 208 n

-- a pattern that is added: 64 rests
abbrev pub rest_pattern : List Row
rest_pattern = replicate 64 rest_row
