-- Bounds of sizes that were worked out by hand.
use Rattle.std.specs.Prelude.{◌≡◌, ◌+◌, ◌*◌, true}
use Rattle.song_model.specs.declared.orders.TheConstants.{MOST_SUBTUNES}
use Rattle.song_model.specs.declared.patterns.TheConstants.{MOST_PATTERNS}
use Rattle.song_model.specs.declared.instruments.TheConstants.{MOST_INSTRUMENTS}
use Rattle.song_model.specs.declared.tables.TheConstants.{MOST_TABLE_ROWS}
use Rattle.play_model.specs.declared.options.System.TheVariants.{Ntsc}
use Rattle.play_model.specs.State.{no_options, at_speed}
use Rattle.packed_form.specs.declared.packed_patterns.TheConstants.{MOST_PACKED_BYTES}
use Rattle.packed_form.specs.declared.packed_songs.TheConstants.{MOST_ORDER_BYTES}
use Rattle.packed_form.specs.declared.sizes.TheConstants.{MOST_PACKED_SIZE}
use Rattle.packed_form.specs.CodeBounds.{code_bound}

-- 3,072 bytes and 320 for each of two features, for each of the options alone, and for all four; none for the system
pub record CodeBoundsAre : Type 0 where
  pub none : code_bound 0 no_options ≡ 3072
  pub two : code_bound 0x402000 no_options ≡ 3712
  pub effects : code_bound 0 (record no_options { skip_effects = true }) ≡ 3392
  pub pulse : code_bound 0 (record no_options { skip_pulse = true }) ≡ 3392
  pub first : code_bound 0 (record no_options { skip_first = true }) ≡ 3392
  pub twice : code_bound 0 (at_speed 2) ≡ 3392
  pub six : code_bound 0x402000
      (record { skip_effects = true; skip_pulse = true; skip_first = true; speed = 4; system = Ntsc }) ≡ 4992
  pub system : code_bound 0 (record no_options { system = Ntsc }) ≡ 3072
  pub all : code_bound 0xFFFFFF no_options ≡ 10752

-- three full orderlists in each of 32 subtunes, 208 full patterns, nine bytes in each of 63 instruments and 255 rows in
-- each of four tables: each list with its address
abbrev pub MostSizeIs : Type 0
MostSizeIs = MOST_PACKED_SIZE ≡ MOST_SUBTUNES * (3 * (MOST_ORDER_BYTES + 2)) + MOST_PATTERNS * (MOST_PACKED_BYTES + 2)
    + 9 * MOST_INSTRUMENTS + 4 * (2 * MOST_TABLE_ROWS)
