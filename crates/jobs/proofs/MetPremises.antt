-- What the clauses on statuses, packing and running ask for.
use Rattle.std.proofs.Common.{◌≡◌, ◌≤◌, ◌++◌, ℕ, List, length, refl, ap, arith, length-append}
use Rattle.song_model.specs.declared.songs.Song.{Song}
use Rattle.play_model.specs.declared.options.Options.{Options}
use Rattle.psid.specs.declared.header.Header.{Header}
use Rattle.psid.specs.Format.{header_fields, header_bytes}
use Rattle.psid.specs.Words.{address_bytes}
use Rattle.jobs.specs.Packed.{song_header}
use Rattle.jobs.specs.Stages.{input_limit}
use Rattle.jobs.specs.Answers.{IsPackedPsid}
use Rattle.jobs.specs.MetPremises.{StatusesAreOrdinary, FittingSongsArePacked, PackedFilesAreRun}
use Rattle.jobs.proofs.SmallSongs.{small_songs}

pub statuses_are_ordinary : StatusesAreOrdinary
statuses_are_ordinary = record {
  done = record {
    no_read_fault = λ e. omega arith;
    no_write_fault = λ e. omega arith;
    no_sink_fault = λ e. omega arith;
    no_want = λ e. omega arith;
  };
  done_printed = record { no_sink_fault = λ e. omega arith; no_want = λ e. omega arith };
  ordinary = λ status read write sink want.
      record { no_read_fault = read; no_write_fault = write; no_sink_fault = sink; no_want = want };
  printed = λ status sink want. record { no_sink_fault = sink; no_want = want };
  before_writing = λ status done write sink want.
      record { not_done = done; no_write_fault = write; no_sink_fault = sink; no_want = want };
  read_fault = λ h. h.no_read_fault refl;
  write_fault = λ h. h.no_write_fault refl;
  unprinted = λ h. h.no_sink_fault refl;
  no_memory = λ h. h.no_want refl;
  sink_fault = λ h. h.no_sink_fault refl;
  want = λ h. h.no_want refl;
  written = λ h. h.not_done refl;
}

pub fitting_songs_are_packed : FittingSongsArePacked
fitting_songs_are_packed files input output psid address zero_page o chip song used features holds fits
    playable are_used are_features short room =
    small_songs files input output psid address zero_page o chip
    (record {
      song = song;
      used = used;
      features = features;
      holds = holds;
      fits = fits;
      playable = playable;
      are_used = are_used;
      are_features = are_features;
      short = short;
      room = room;
    })

-- a header has 124 bytes
header_length : (header : Header) → length header.name ≡ 32 → length header.author ≡ 32 →
    length header.released ≡ 32 → length (header_bytes header) ≡ 124
unfolding header_fields
header_length header name author released = simp length-append (omega (arith, name, author, released))

-- so a packed file has at most 124 and 2 bytes more than its image
pub packed_is_short : (song : Song) (o : Options) (file : List ℕ) → IsPackedPsid song o file → length file ≤ input_limit
packed_is_short song o file is =
    let image = is.packed.image in
    let header = song_header song is.address o is.chip in
    let head : length (header_bytes header) ≡ 124 =
    header_length header is.keeps.name.count is.keeps.author.count is.keeps.copyright.count in
    let below = is.packed.below in
    let two : length (address_bytes is.address) ≡ 2 = refl in
    let front = length-append (header_bytes header) (address_bytes is.address) in
    let whole = length-append (header_bytes header ++ address_bytes is.address) image in
    let same = ap length is.packed.holds in
    omega (arith, head, two, front, whole, same, below)

pub packed_files_are_run : PackedFilesAreRun
packed_files_are_run words files song o input file subtune frames form found is first last = record {
  input = input;
  form = form;
  file = file;
  found = found;
  fits = packed_is_short song o file is;
  is_packed = is;
  first = first;
  last = last;
}
