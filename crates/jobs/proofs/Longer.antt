-- No image is longer than that of the song packed as it is.
use Rattle.std.proofs.Common.{◌≡◌, ℕ, ◌+◌, ◌-◌, ◌*◌, ◌≤◌, length, sym, ap, ◌∙◌, subst, arith}
use Rattle.song_model.specs.declared.tables.TableName.TheVariants.{Speed}
use Rattle.song_model.specs.declared.songs.Song.{Song}
use Rattle.song_model.specs.LookUp.{playable_subtunes}
use Rattle.play_model.specs.declared.options.Options.{Options}
use Rattle.asked_numbers.specs.declared.range.NumberRange.{NumberRange}
use Rattle.asked_numbers.proofs.Laws.{songs_have_one_range}
use Rattle.packing_rules.specs.UsedSets.{UsedSets}
use Rattle.packing_rules.specs.Renumbering.{speed_rows}
use Rattle.packing_rules.specs.SongSizes.{packed_size}
use Rattle.pattern_cut.specs.CutLaws.{AsksSame}
use Rattle.cut_pack.proofs.Laws.{chosen_serves_lem, chosen_no_longer_lem, features_of, facts_of, range_of, speeds_of}
use Rattle.cut_pack.proofs.Laws.{sets_of_both}
use Rattle.kept_lines.specs.Asked.{Asks}
use Rattle.image_parts.specs.CodeParts.{zero_bytes, code_length}
use Rattle.image_parts.specs.Lengths.{slide_bytes, read_bytes, frequency_bytes, unread_bytes, unlisted_bytes, shared_bytes}
use Rattle.song_costs.specs.Kinds.{instrument_count}
use Rattle.jobs.specs.Laws.{NoImageIsLonger}
use Rattle.jobs.proofs.OneAsked.{one_asked}

-- the length of an image with so many bytes of packed data, instruments, subtunes and speeds
abbrev total : ℕ → ℕ → ℕ → ℕ → ℕ → NumberRange → Options → ℕ
total size instruments subtunes speeds asked range o =
    read_bytes asked instruments subtunes size + slide_bytes asked speeds
    + frequency_bytes range (read_bytes asked instruments subtunes size) + code_length asked o

-- it grows with the packed data: what the gap in front of the frequencies is short of
grows : (first two front shared unread slides code less more : ℕ) → less ≤ more →
    less + shared - unread + slides + (first - (front + (less + shared - unread)) + two) + code
    ≤ more + shared - unread + slides + (first - (front + (more + shared - unread)) + two) + code
grows first two front shared unread slides code less more within = omega (arith, within)

asks_of : (song other : Song) (asked : ℕ) → AsksSame song other → Asks other asked → Asks song asked
asks_of song other asked same asks = record {
  features = asks.features;
  facts = asks.facts;
  are_features = features_of song other asks.features same asks.are_features;
  are_facts = facts_of song other asks.facts same asks.are_facts;
  is = asks.is;
}

pub no_image_is_longer : NoImageIsLonger
no_image_is_longer song o own count limits playable was now =
    let chosen = now.chosen in
    let is = now.length_is in
    let serves = chosen_serves_lem o song chosen limits playable now.is_for in
    let sets = sets_of_both o song chosen was.used is.used limits playable now.is_for was.are_used is.are_used in
    let asked = one_asked song is.asked was.asked (asks_of song chosen is.asked serves.asks is.asks) was.asks in
    let range = songs_have_one_range song is.numbers was.numbers (range_of song chosen is.numbers serves.asks is.are_numbers)
    was.are_numbers in
    let instruments : instrument_count is.used ≡ instrument_count was.used =
    ap (λ (u : UsedSets). instrument_count u) sets in
    let speeds : length (speed_rows chosen (is.used.pointers Speed)) ≡ length (speed_rows song (was.used.pointers Speed)) =
    ap length (speeds_of o song chosen (is.used.pointers Speed) now.is_for)
    ∙ ap (λ (u : UsedSets). length (speed_rows song (u.pointers Speed))) sets in
    let size = packed_size chosen is.used in
    let rows = length (speed_rows chosen (is.used.pointers Speed)) in
    let subtunes = length (playable_subtunes chosen) in
    let moved = is.count_is
    ∙ ap (λ n. total size n subtunes rows is.asked is.numbers o) instruments
    ∙ ap (λ n. total size (instrument_count was.used) n rows is.asked is.numbers o) serves.plays.count
    ∙ ap (λ n. total size (instrument_count was.used) (length (playable_subtunes song)) n is.asked is.numbers o) speeds
    ∙ ap (λ n. total size (instrument_count was.used) (length (playable_subtunes song))
    (length (speed_rows song (was.used.pointers Speed))) n is.numbers o) asked
    ∙ ap (λ r. total size (instrument_count was.used) (length (playable_subtunes song))
    (length (speed_rows song (was.used.pointers Speed))) was.asked r o) range in
    let within = chosen_no_longer_lem o song chosen was.used is.used now.is_for was.are_used is.are_used in
    let used_instruments = instrument_count was.used in
    let own_subtunes = length (playable_subtunes song) in
    let own_rows = length (speed_rows song (was.used.pointers Speed)) in
    let most = grows was.numbers.first (2 * was.numbers.count) zero_bytes (shared_bytes was.asked)
    (unread_bytes was.asked used_instruments + unlisted_bytes was.asked own_subtunes) (slide_bytes was.asked own_rows)
    (code_length was.asked o) size (packed_size song was.used) within in
    subst (λ n. n ≤ own) (sym moved)
    (subst (λ n. total size used_instruments own_subtunes own_rows was.asked was.numbers o ≤ n) (sym was.count_is) most)
