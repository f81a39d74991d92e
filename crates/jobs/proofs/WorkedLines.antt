-- The lines, limits and headers that are worked by hand are as they say.
use Rattle.std.proofs.Common.{◌≡◌, ℕ, ◌+◌, ◌<◌, ◌≤◌, length, drop, refl, ap, arith}
use Rattle.std.specs.Fmt.{digits}
use Rattle.hex.specs.Hex.{encode_with}
use Rattle.psid.specs.Format.{header_fields}
use Rattle.jobs.specs.WorkedLines.{LinesAreWorked, CostLinesAreWorked, FaultsAreWorked, ListingFaultsAreWorked}
use Rattle.jobs.specs.WorkedLines.{JoinFaultsAreWorked, RefusalsAreWorked, StatusesAreWorked, LimitsAreWorked}
use Rattle.jobs.specs.WorkedLines.{HeadersAreWorked, FlagsAreWorked, LargeImagesAreNotPacked}

pub lines_are_worked : LinesAreWorked
unfolding digits encode_with
lines_are_worked = record {
  usage = refl;
  missing = refl;
  too_long = refl;
  read_fault = refl;
  write_fault = refl;
  checked = refl;
  wrote = refl;
  script = refl;
  no_subtune = refl;
  no_memory = refl;
  bound = refl;
  great_bound = refl;
  bad_number = refl;
  bad_shape = refl;
  too_small = refl;
  measured = refl;
  unmeasured = refl;
  measured_all = refl;
  selftest = refl;
}

pub cost_lines_are_worked : CostLinesAreWorked
unfolding digits encode_with
cost_lines_are_worked = record {
  kinds = refl;
  in_order = refl;
  in_pattern = refl;
  in_instrument = refl;
  in_wave_table = refl;
  in_common = refl;
  by_skip = refl;
  by_first = refl;
  by_speed = refl;
  names = refl;
}

pub faults_are_worked : FaultsAreWorked
unfolding digits
faults_are_worked = record {
  not_gts5 = refl;
  cut = refl;
  over = refl;
  order = refl;
  row = refl;
  not_psid = refl;
  psid_cut = refl;
  unsupported = refl;
  bad_field = refl;
}

pub listing_faults_are_worked : ListingFaultsAreWorked
unfolding digits
listing_faults_are_worked = record { bad = refl; double = refl; unknown = refl; past = refl; far = refl }

pub join_faults_are_worked : JoinFaultsAreWorked
unfolding digits
join_faults_are_worked = record {
  subtunes = refl;
  instruments = refl;
  wave = refl;
  pulse = refl;
  filter = refl;
  speed = refl;
  patterns = refl;
  instrument = refl;
  row = refl;
  timers = refl;
  note = refl;
}

pub refusals_are_worked : RefusalsAreWorked
unfolding digits encode_with
refusals_are_worked = record {
  none = refl;
  pattern = refl;
  restart = refl;
  row = refl;
  pulse_row = refl;
  jump = refl;
  text = refl;
  shown = refl;
  image = refl;
  at_illegal = refl;
  at_break = refl;
  at_decimal = refl;
  budget = refl;
}

pub statuses_are_worked : StatusesAreWorked
statuses_are_worked = record {
  no_file = refl;
  long_file = refl;
  no_song = refl;
  unplayable = refl;
  no_playable_subtune = refl;
  long_pattern = refl;
  long_script = refl;
  long_image = refl;
  no_edit = refl;
  no_psid = refl;
  no_subtune = refl;
  no_return = refl;
  not_measured = refl;
  not_drawn = refl;
  no_listing = refl;
  not_joined = refl;
  not_admitted = refl;
}

pub limits_are_worked : LimitsAreWorked
limits_are_worked = record {
  input = refl;
  script = refl;
  listing = refl;
  certificate = refl;
  allowed = refl;
  around = refl;
  frames = refl;
  subtune = refl;
  measured = refl;
  drawn = refl;
  number = refl;
  calls = refl;
}

pub headers_are_worked : HeadersAreWorked
headers_are_worked = record {
  name = λ s. refl;
  author = λ s. refl;
  released = λ s. refl;
  init = λ s. refl;
  play = λ s. refl;
  songs = refl;
  first = λ s. refl;
  by_picture = λ s. refl;
  by_timer = λ s. refl;
  raw = refl;
}

pub flags_are_worked : FlagsAreWorked
unfolding header_fields
flags_are_worked = record { pal_6581 = refl; pal_8580 = refl; ntsc_6581 = refl; ntsc_8580 = refl; all_four = refl }

pub large_images_are_not_packed : LargeImagesAreNotPacked
large_images_are_not_packed address zero_page song options chip image large packed =
    let same : image ≡ packed.image = ap (drop 2) packed.holds in
    no_room address (length image) (length packed.image) (ap length same) large packed.below
  where
    no_room : (address n m : ℕ) → n ≡ m → 0xD000 < address + n → address + m ≤ 0xD000 → ⊥
    no_room address n m e large below = omega (arith, e, large, below)
