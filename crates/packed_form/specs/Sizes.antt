-- How many bytes packed data have in memory, from this project's own packed form.
use Rattle.std.specs.Prelude.{ℕ, ◌+◌, ◌*◌, List, length, sum_by}
use Rattle.packed_form.specs.declared.packed_songs.PackedSubtune.{PackedSubtune}
use Rattle.packed_form.specs.declared.packed_songs.PackedSong.{PackedSong}

-- the bytes of an orderlist or a pattern, and two for the address at which the first one stands
abbrev pub list_size : List ℕ → ℕ
list_size bytes = length bytes + 2

abbrev pub subtune_size : PackedSubtune → ℕ
subtune_size subtune = list_size subtune.one + list_size subtune.two + list_size subtune.three

-- an instrument has nine bytes, and a table's row two
abbrev pub packed_song_size : PackedSong → ℕ
packed_song_size packed =
    sum_by subtune_size packed.subtunes + sum_by list_size packed.patterns + 9 * length packed.instruments
    + 2 * length packed.wave + 2 * length packed.pulse + 2 * length packed.filter + 2 * length packed.speed
