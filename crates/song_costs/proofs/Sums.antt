-- The kinds add up to the image, and the parts to the player.
use Rattle.std.proofs.Common.{◌≡◌, ℕ, ◌+◌, ◌-◌, ◌*◌, ◌≤◌, Bool, true, false, if◌then◌else◌, List, length}
use Rattle.std.proofs.Common.{refl, sym, ◌∙◌, ap, subst, arith}
use Rattle.std.specs.List.{range_with_len, sum_by}
use Rattle.std.specs.Str.{bytes_eq}
use Rattle.song_model.specs.declared.tables.TableName.TheVariants.{Speed}
use Rattle.song_model.specs.declared.songs.Song.{Song}
use Rattle.song_model.specs.LookUp.{playable_subtunes}
use Rattle.play_model.specs.declared.options.Options.{Options}
use Rattle.asked_numbers.specs.declared.range.NumberRange.{NumberRange}
use Rattle.packed_form.specs.Sizes.{list_size}
use Rattle.packing_rules.specs.UsedSets.{UsedSets}
use Rattle.packing_rules.specs.Segments.{keeps as stays}
use Rattle.packing_rules.specs.Renumbering.{first_seen, speed_rows, filter_programs, pulse_programs, wave_programs}
use Rattle.packing_rules.specs.Renumbering.{pattern_texts}
use Rattle.packing_rules.specs.SongSizes.{orders_size, rows_size, packed_size}
use Rattle.player_memory.specs.declared.conditions.TheConstants.{SUBTUNES}
use Rattle.kept_lines.specs.Asked.{is_in}
use Rattle.kept_lines.specs.KeptLines.{keeps}
use Rattle.image_parts.specs.CodeParts.{always, code_parts, part_length, code_length}
use Rattle.image_parts.specs.Lengths.{slide_bytes, shared_bytes, unread_bytes, unlisted_bytes, frequency_bytes}
use Rattle.image_parts.proofs.Laws as image_parts
use Rattle.song_costs.specs.Kinds.{instrument_count, subtune_count, read_data, costs_of, data_bytes}
use Rattle.song_costs.specs.CostLaws.{song_size, CostsAddUp, PartsAddUp}
use Rattle.song_costs.proofs.ToldSums.{DropsNone, dropped_sum, all_below}
use Rattle.song_costs.proofs.ByteKinds.{subtunes_are_large}

-- ---- kinds

-- where the speed table has so many rows, and the slides and the frequencies so many bytes
sizes_add_up : (orders patterns instruments shared unread unlisted wave pulse filters rows slides frequencies
    size : ℕ) → size ≡ orders + 9 * instruments + 2 * rows + patterns + (wave + pulse + filters) →
    unread ≤ 6 * instruments → unlisted ≤ orders →
    orders - unlisted + patterns + (9 * instruments + shared - unread) + wave + pulse + filters + (2 * rows + slides)
    + frequencies
    ≡ size + shared - (unread + unlisted) + slides + frequencies
sizes_add_up orders patterns instruments shared unread unlisted wave pulse filters rows slides frequencies size is few
    within = omega (arith, is, few, within)

-- the addresses that are in no list are bytes of the orderlists
unlisted_most : (asked : ℕ) (song : Song) →
    unlisted_bytes asked (subtune_count song) ≤ sum_by orders_size (playable_subtunes song)
unlisted_most asked song =
    at_most (is_in asked SUBTUNES) (subtunes_are_large (playable_subtunes song))
  where
    at_most : (z : Bool) {n sum : ℕ} → n ≤ sum → (if z then 0 else n) ≤ sum
    at_most true within = omega arith
    at_most false within = within

size_is : (song : Song) (used : UsedSets) → packed_size song used
    ≡ sum_by orders_size (playable_subtunes song) + 9 * instrument_count used
    + 2 * length (speed_rows song (used.pointers Speed))
    + sum_by list_size (first_seen bytes_eq (pattern_texts song used))
    + (rows_size stays (wave_programs song used) + rows_size stays (pulse_programs song used)
    + rows_size stays (filter_programs song used))
unfolding packed_size
size_is song used = refl

data_adds_up : (song : Song) (used : UsedSets) (asked : ℕ) (range : NumberRange) (options : Options) →
    data_bytes (costs_of song used asked range options) ≡ song_size song used asked range
data_adds_up song used asked range options =
    sizes_add_up _ _ (instrument_count used) (shared_bytes asked) (unread_bytes asked (instrument_count used))
    (unlisted_bytes asked (subtune_count song)) _ _ _
    (length (speed_rows song (used.pointers Speed)))
    (slide_bytes asked (length (speed_rows song (used.pointers Speed))))
    (frequency_bytes range (read_data song used asked)) (packed_size song used) (size_is song used)
    (image_parts.unread_most asked (instrument_count used)) (unlisted_most asked song)

plus_player : (player bytes size : ℕ) → bytes ≡ size → player + bytes ≡ size + player
plus_player player bytes size e = omega (arith, e)

pub costs_add_up : CostsAddUp
costs_add_up song used asked range options = (
  data_adds_up song used asked range options,
  plus_player (code_length asked options) (data_bytes (costs_of song used asked range options))
      (song_size song used asked range) (data_adds_up song used asked range options),
)

-- ---- parts

pub parts_add_up : PartsAddUp
parts_add_up asked options =
    image_parts.parts_add_up asked options
    ∙ ap (λ (bytes : ℕ). part_length asked options always + bytes)
    (sym (dropped_sum (keeps asked options) (part_length asked options) (range_with_len 0 61)
    (all_below (DropsNone (keeps asked options) (part_length asked options)) 61
    (λ part high out. image_parts.unkept_parts_have_none asked options part
    (λ is. omega (arith, high, is)) out))))

-- ---- the code

pub few_bytes : (asked : ℕ) (options : Options) (code : List ℕ) → code ≡ code_parts asked options →
    length code ≤ 65535
few_bytes asked options code is =
    subst (λ (c : List ℕ). length c ≤ 65535) (sym is)
    (without (length (code_parts asked options)) (image_parts.code_is_short asked options))
  where
    without : (n : ℕ) → n + 2 ≤ 1669 → n ≤ 65535
    without n few = omega (arith, few)
