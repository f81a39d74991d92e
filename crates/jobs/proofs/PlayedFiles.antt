-- A packed file that is run plays its song.
use Rattle.std.proofs.Common.{◌≡◌, ℕ, zero, suc, ◌+◌, ◌-◌, ◌%◌, ◌≤◌, ◌<◌, ◌^◌, Bool}
use Rattle.std.proofs.Common.{true, false, if◌then◌else◌, nat_eq, List, [], None, Ok, length, refl, sym, ap}
use Rattle.std.proofs.Common.{◌∙◌, subst, arith, lit≤, lit<}
use Rattle.song_model.specs.declared.songs.Song.{Song}
use Rattle.song_model.specs.Limits.{KeepsLimits}
use Rattle.base.specs.Bytes.{AreBytes}
use Rattle.std.proofs.lemmas.List.Sums.{length-filter, count_by-le-length}
use Rattle.song_model.specs.LookUp.{playable_subtunes, is_playable_subtune}
use Rattle.play_model.specs.declared.options.Options.{Options}
use Rattle.play_model.specs.Frame.{trace_with}
use Rattle.cpu6502.specs.declared.machine.Machine.{Machine}
use Rattle.cpu6502.specs.Code.{IsMachine}
use Rattle.cpu6502.proofs.Laws.{call_keeps}
use Rattle.psid.specs.declared.header.Psid.{Psid}
use Rattle.psid.specs.Format.{IsHeader, IsWritable}
use Rattle.psid.specs.Reading.{psid_read}
use Rattle.psid.proofs.Laws.{written_is_read_as_is}
use Rattle.sid_run.specs.State.{RunnerState, loaded, loaded_machine}
use Rattle.sid_run.proofs.Laws.{image_stands, loaded_is_machine}
use Rattle.goat_io.specs.Files.{Files}
use Rattle.play_model.specs.declared.options.System.{System}
use Rattle.play_model.specs.declared.options.System.TheVariants.{Pal, Ntsc}
use Rattle.command_line.specs.declared.chip.Chip.{Chip}
use Rattle.command_line.specs.declared.chip.Chip.TheVariants.{Mos6581, Mos8580}
use Rattle.command_line.specs.Words.{Run}
use Rattle.jobs.specs.Calls.{HasSubtune, ReturnsTo, FirstCalls}
use Rattle.faithful.specs.Faithful.{Leaves, PlaysOn, IsFaithful}
use Rattle.packed_form.specs.ImagePlaces.{IsAddress}
use Rattle.jobs.specs.Packed.{song_header, psid_file, caller_bits, flags_of}
use Rattle.command_line.specs.RegisterText.{register_lines}
use Rattle.jobs.specs.Stages.{IsThere, Fits, IsPsid, OffersSubtune, CallsReturn, HoldsPsid, AllPass, input_limit}
use Rattle.jobs.specs.Jobs.{stages, Shows}
use Rattle.jobs.specs.Outcome as outcome
use Rattle.jobs.specs.Outcome.{Outcome}
use Rattle.jobs.specs.Due as due
use Rattle.jobs.specs.Due.{IsDue}
use Rattle.jobs.specs.Traces.{first_traces}
use Rattle.jobs.specs.Answers.{IsPackedPsid, RunsPacked}
use Rattle.jobs.specs.Laws.{WrittenFilesArePacked, PackedFilesPlay}
use Rattle.jobs.proofs.RegisterLines.{traces_more}
use Rattle.jobs.proofs.Passes.{met_passes}

-- what a call of a faithful image leaves is what a call of a loaded file returns with
returned_by : (image : List ℕ) (address zero_page : ℕ) (o : Options) (machine : Machine) (entry number : ℕ)
    (registers : List ℕ) (after : Machine) →
    Leaves image address zero_page o machine entry number registers after →
    ReturnsTo machine entry number registers after
returned_by image address zero_page o machine entry number registers after leaves = record {
  steps = leaves.steps;
  takes = record { called = leaves.called; within = leaves.within };
  registers_are = leaves.registers_are;
}

module _ (file : RunnerState) (image : List ℕ) (address zero_page : ℕ) (song : Song) (o : Options) (k : ℕ)
    (init : file.init ≡ address) (play : file.play ≡ address + 3) (play_small : address + 3 < 65536) where
  -- the machine that the first calls leave, with the plays that follow
  record PlaysOnFrom (calls : ℕ) : Type 0 where
    after : Machine
    is : IsMachine after
    first : FirstCalls file k calls (first_traces o song k calls) after

  play_on : (n i : ℕ) (before : Machine) → IsMachine before →
      FirstCalls file k (suc i) (first_traces o song k (suc i)) before →
      PlaysOn image address zero_page song o k (suc i) n before → PlaysOnFrom (n + suc i)
  play_on zero i before is first plays =
      let z : 0 + suc i ≡ suc i = omega arith in rw z (record { after = before; is = is; first = first })
  play_on (suc n) i before is first plays =
      let next = plays before before.cpu.a is is.a (record { same = λ j inside. refl }) in
      let after = next.after in
      let returns =
      subst (λ entry. ReturnsTo before entry before.cpu.a (trace_with o song k (suc i)) after) (sym play)
      (returned_by image address zero_page o before (address + 3) before.cpu.a (trace_with o song k (suc i)) after next.leaves)
      in
      let there = call_keeps before after (address + 3) before.cpu.a next.leaves.steps is play_small is.a next.leaves.called in
      let z : suc n + suc i ≡ n + suc (suc i) = omega arith in
      rw z
      (play_on n (suc i) after there
      (first_traces o song k (suc i), before, trace_with o song k (suc i), first, returns, traces_more o song k (suc i))
      next.goes_on)

  -- init, and the plays after it
  plays_all : (frames : ℕ) → IsMachine file.machine → k < 256 → (after : Machine) →
      Leaves image address zero_page o file.machine address k (trace_with o song k 0) after →
      PlaysOn image address zero_page song o k 1 frames after → PlaysOnFrom (frames + 1)
  plays_all frames is small after leaves plays =
      let returns =
      subst (λ entry. ReturnsTo file.machine entry k (trace_with o song k 0) after) (sym init)
      (returned_by image address zero_page o file.machine address k (trace_with o song k 0) after leaves) in
      let there =
      call_keeps file.machine after address k leaves.steps is (omega (arith, play_small)) small leaves.called in
      play_on frames 0 after there ([], file.machine, trace_with o song k 0, (refl, refl), returns, refl) plays

-- ---- a packed file

pub count_small : (song : Song) → KeepsLimits song → length (playable_subtunes song) ≤ 32
count_small song keeps =
    omega (
      arith,
      length-filter is_playable_subtune song.subtunes,
      count_by-le-length is_playable_subtune song.subtunes,
      keeps.subtunes.count,
    )

caller_small : (speed : ℕ) → caller_bits speed < 2 ^ 32
caller_small speed = both (nat_eq speed 1)
  where
    both : (one : Bool) → (if one then 0 else 0xFFFFFFFF) < 2 ^ 32
    both true = lit< tt
    both false = lit< tt

flags_small : (system : System) (chip : Chip) → flags_of system chip < 2 ^ 16
flags_small Pal Mos6581 = lit< tt
flags_small Pal Mos8580 = lit< tt
flags_small Ntsc Mos6581 = lit< tt
flags_small Ntsc Mos8580 = lit< tt

-- bits 0 and 1 are clear
flags_whole : (system : System) (chip : Chip) → flags_of system chip % 4 ≡ 0
flags_whole Pal Mos6581 = refl
flags_whole Pal Mos8580 = refl
flags_whole Ntsc Mos6581 = refl
flags_whole Ntsc Mos8580 = refl

header_is : (song : Song) (address : ℕ) (o : Options) (chip : Chip) → KeepsLimits song → IsAddress address →
    IsHeader (song_header song address o chip)
header_is song address o chip keeps place = record {
  init = omega (arith, place.most);
  play = omega (arith, place.most);
  songs = omega (arith, count_small song keeps);
  start_song = lit≤ tt;
  speed = caller_small o.speed;
  name = keeps.name.count;
  author = keeps.author.count;
  released = keeps.copyright.count;
  flags = flags_small o.system chip;
}

pub writable : (song : Song) (address : ℕ) (image : List ℕ) (o : Options) (chip : Chip) → KeepsLimits song →
    address + length image ≤ 0xD000 → 1 ≤ length (playable_subtunes song) →
    IsWritable (song_header song address o chip) address image
writable song address image o chip keeps below some = record {
  has_play = omega arith;
  has_no_kind = flags_whole o.system chip;
  has_song = some;
  most_songs = omega (arith, count_small song keeps);
  has_start = lit≤ tt;
  start_is_song = some;
  fits = omega (arith, below);
}

module _ (song : Song) (o : Options) (chip : Chip) (address zero_page : ℕ) (image : List ℕ)
    (keeps : KeepsLimits song) (place : IsAddress address) (below : address + length image ≤ 0xD000)
    (faithful : IsFaithful image address zero_page song o) where
  abbrev packed : Psid
  packed = record { header = song_header song address o chip; load = address; image = image }

  -- the calls of a packed file, with the registers of the song's trace
  pub record Plays (subtune frames : ℕ) : Type 0 where
    pub reads : psid_read (psid_file song address image o chip) ≡ Ok packed
    pub after : Machine
    pub calls : FirstCalls (loaded packed) (subtune - 1) (frames + 1)
        (first_traces o song (subtune - 1) (frames + 1)) after

  plays_its_song : (subtune frames : ℕ) → AreBytes image → 1 ≤ subtune →
      subtune ≤ length (playable_subtunes song) → Plays subtune frames
  plays_its_song subtune frames bytes first last =
      let fits : address + length image ≤ 65536 = omega (arith, below) in
      let reads =
      written_is_read_as_is (song_header song address o chip) address image
      (header_is song address o chip keeps place) (omega (arith, place.most))
      (writable song address image o chip keeps below (omega (arith, first, last)))
      (λ never. omega (arith, never, place.least)) in
      let is = loaded_is_machine packed fits bytes in
      let holds = image_stands packed fits in
      let began = faithful.plays (subtune - 1) frames (loaded_machine packed) (omega (arith, first, last)) is holds in
      let later =
      plays_all (loaded packed) image address zero_page song o (subtune - 1) refl refl (omega (arith, place.most))
      frames is (omega (arith, last, count_small song keeps)) began.after began.leaves began.goes_on in
      record { reads = reads; after = later.after; calls = later.first }

-- the packed file of a song, as a PSID file
abbrev pub psid_of : (song : Song) (o : Options) (file : List ℕ) → IsPackedPsid song o file → Psid
psid_of song o file is =
    record { header = song_header song is.address o is.chip; load = is.address; image = is.packed.image }

plays : (song : Song) (o : Options) (file : List ℕ) (subtune frames : ℕ) (is : IsPackedPsid song o file) →
    1 ≤ subtune → subtune ≤ length (playable_subtunes song) →
    Plays song o is.chip is.address is.zero_page is.packed.image is.keeps is.place is.packed.below is.packed.faithful
    subtune frames
plays song o file subtune frames is first last =
    plays_its_song song o is.chip is.address is.zero_page is.packed.image is.keeps is.place is.packed.below
    is.packed.faithful subtune frames is.packed.bytes first last

-- its bytes are read as such
pub packed_reads : (song : Song) (o : Options) (file : List ℕ) (is : IsPackedPsid song o file) (subtune : ℕ) → 1 ≤ subtune →
    subtune ≤ length (playable_subtunes song) → psid_read file ≡ Ok (psid_of song o file is)
packed_reads song o file is subtune first last =
    ap psid_read is.packed.holds ∙ (plays song o file subtune 0 is first last).reads

pub written_files_are_packed : WrittenFilesArePacked
written_files_are_packed song o address zero_page chip file keeps place is =
    record { keeps = keeps; address = address; zero_page = zero_page; place = place; chip = chip; packed = is.packed }

pub packed_files_play : PackedFilesPlay
packed_files_play song o file subtune frames is first last =
    let its = plays song o file subtune frames is first last in
    let has : HasSubtune (psid_of song o file is) subtune = record { first = first; last = last } in
    (psid_of song o file is, ap psid_read is.packed.holds ∙ its.reads, has, its.after, its.calls)

module _ (words : List (List ℕ)) (files : Files) (song : Song) (o : Options) (subtune frames : ℕ)
    (runs : RunsPacked words files song o subtune frames) where
  abbrev traces : List (List ℕ)
  traces = first_traces o song (subtune - 1) (frames + 1)

  pub record Met : Type 0 where
    pub psid : Psid
    pub holds : HoldsPsid files runs.input psid
    pub after : Machine
    pub calls : FirstCalls (loaded psid) (subtune - 1) (frames + 1) traces after
    pub pass : AllPass files (stages (Run runs.input subtune frames))

  met : Met
  met =
      let is = packed_files_play song o runs.file subtune frames runs.is_packed runs.first runs.last in
      let held : HoldsPsid files runs.input is.0 = record { bytes = runs.file; found = runs.found; reads = is.1 } in
      record {
        psid = is.0;
        holds = held;
        after = is.3;
        calls = is.4;
        pass = (
          met_passes files (IsThere runs.input) (runs.file, runs.found),
          (
            met_passes files (Fits runs.input input_limit) (runs.file, runs.found, runs.fits),
            (
              met_passes files (IsPsid runs.input) (is.0, held),
              (
                met_passes files (OffersSubtune runs.input subtune) (is.0, held, is.2),
                (met_passes files (CallsReturn runs.input subtune frames) (is.0, held, traces, is.3, is.4), tt),
              ),
            ),
          ),
        );
      }

  pub packed_file_plays : Outcome words files 0 (register_lines traces) None
  packed_file_plays =
      let shows : Shows met.psid subtune (frames + 1) (register_lines traces) =
      record { registers = traces; after = met.after; returned = met.calls; lines_are = refl } in
      outcome.done (Run runs.input subtune frames) runs.form met.pass ((met.psid, met.holds, shows), refl) refl

  pub packed_file_is_due : IsDue words files 0 None
  packed_file_is_due = due.done (Run runs.input subtune frames) runs.form met.pass refl refl
