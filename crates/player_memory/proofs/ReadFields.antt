-- Which fields of instruments are read.
use Rattle.std.proofs.Common.{◌≡◌, ℕ, ◌+◌, ◌*◌, ◌<◌, ◌≤◌, Bool, true, false, length, if◌then◌else◌, ◌||◌, refl, inl, inr}
use Rattle.std.proofs.Common.{List, [], ◌∷◌}
use Rattle.std.proofs.Common.{arith}
use Rattle.std.specs.Prelude.{sum_by}
use Rattle.std.proofs.lemmas.List.Sums.{sum_by-cons}
use Rattle.std.proofs.lemmas.Bool.{cases_lt, both_ways, ne_eqb, le-ltb}
use Rattle.packed_form.specs.declared.packed_songs.PackedSubtune.{PackedSubtune}
use Rattle.packed_form.specs.declared.packed_songs.PackedSong.{PackedSong}
use Rattle.packed_form.specs.Sizes.{list_size, subtune_size, packed_song_size}
use Rattle.player_memory.specs.SongLists.{is_read, unread_size, unlisted_size, shared_size, has_gate_from}
use Rattle.player_memory.specs.SongLists.{has_envelope_from}

-- only the nine fields are read
pub read_below : (packed : PackedSong) (field : ℕ) → is_read packed field ≡ true → field < 9
read_below packed field is = elim (cases_lt field 9) [
  | inl few ↦ few
  | inr many ↦
      absurd (both_ways (is_read packed field)
      (rw (
        ne_eqb field 3 (λ e. omega (arith, e, many)),
        ne_eqb field 4 (λ e. omega (arith, e, many)),
        ne_eqb field 5 (λ e. omega (arith, e, many)),
        ne_eqb field 6 (λ e. omega (arith, e, many)),
        ne_eqb field 7 (λ e. omega (arith, e, many)),
        ne_eqb field 8 (λ e. omega (arith, e, many)),
        le-ltb field 9 many,
      ) refl) is)
]

-- those that aren't are six at most
pub unread_few : (packed : PackedSong) → unread_size packed ≤ 6 * length packed.instruments
unread_few packed =
    let pulse = at_most packed.facts.note_pulse in
    let filter = at_most packed.facts.note_filter in
    let vibrato = at_most packed.facts.note_vibrato in
    let delay = at_most packed.facts.vibrato_delay in
    let timer = at_most (packed.facts.own_timer || packed.facts.first_holds) in
    let wave = at_most packed.facts.own_wave in
    omega arith
  where
    at_most : (z : Bool) → (if z then 0 else length packed.instruments) ≤ length packed.instruments
    at_most true = omega arith
    at_most false = omega arith

-- the addresses of orderlists are six bytes of each subtune
pub subtunes_are_large : (subtunes : List PackedSubtune) → 6 * length subtunes ≤ sum_by subtune_size subtunes
subtunes_are_large [] = omega arith
subtunes_are_large (subtune ∷ others) =
    let fewer = subtunes_are_large others in
    let sum = sum_by-cons subtune_size subtune others in
    omega (arith, fewer, sum)

pub unlisted_few : (packed : PackedSong) → unlisted_size packed ≤ 6 * length packed.subtunes
unlisted_few packed = at_most packed.facts.subtunes
  where
    at_most : (z : Bool) → (if z then 0 else 6 * length packed.subtunes) ≤ 6 * length packed.subtunes
    at_most true = omega arith
    at_most false = omega arith

-- so these and those are bytes of the packed song
pub left_out_within : (packed : PackedSong) → unread_size packed + unlisted_size packed ≤ packed_song_size packed
left_out_within packed =
    within (length packed.subtunes) (sum_by subtune_size packed.subtunes) (sum_by list_size packed.patterns)
    (length packed.instruments) (length packed.wave) (length packed.pulse) (length packed.filter)
    (length packed.speed) (unread_size packed) (unlisted_size packed) (unread_few packed) (unlisted_few packed)
    (subtunes_are_large packed.subtunes)
  where
    within : (subtunes orders texts instruments wave pulse filter speed unread unlisted : ℕ) →
        unread ≤ 6 * instruments → unlisted ≤ 6 * subtunes → 6 * subtunes ≤ orders →
        unread + unlisted ≤ orders + texts + 9 * instruments + 2 * wave + 2 * pulse + 2 * filter + 2 * speed
    within subtunes orders texts instruments wave pulse filter speed unread unlisted few none large =
        omega (arith, few, none, large)

-- at most four bytes stand for all instruments
pub shared_few : (packed : PackedSong) → shared_size packed ≤ 4
shared_few packed =
    let timer = at_most packed.facts.own_timer in
    let wave = at_most packed.facts.own_wave in
    let gates = one_at_most (has_gate_from packed) in
    let envelopes = one_at_most (has_envelope_from packed) in
    omega arith
  where
    at_most : (z : Bool) → (if z then 0 else 1) ≤ 1
    at_most true = omega arith
    at_most false = omega arith

    one_at_most : (z : Bool) → (if z then 1 else 0) ≤ 1
    one_at_most true = omega arith
    one_at_most false = omega arith
