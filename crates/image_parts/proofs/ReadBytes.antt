-- What is read of a packed song, by what it asks for and by its facts.
use Rattle.std.specs.Prelude.{sum_by}
use Rattle.std.proofs.Common.{◌≡◌, ℕ, ◌+◌, ◌-◌, ◌*◌, ◌≤◌, Bool, true, false, not, ◌&&◌, ◌||◌, length}
use Rattle.std.proofs.Common.{if◌then◌else◌, refl, ap, arith}
use Rattle.packed_form.specs.declared.packed_songs.PackedSong.{PackedSong}
use Rattle.packed_form.specs.Sizes.{list_size, subtune_size, packed_song_size}
use Rattle.player_memory.specs.declared.conditions.TheConstants.{NOTE_PULSE, NOTE_FILTER, NOTE_VIBRATO, VIBRATO_DELAY}
use Rattle.player_memory.specs.declared.conditions.TheConstants.{LEGATO, NO_HARD_RESTART, OWN_TIMER, OWN_WAVE, SUBTUNES}
use Rattle.player_memory.specs.declared.conditions.TheConstants.{FIRST_HOLDS}
use Rattle.player_memory.specs.SongLists.{unread, unread_size, unlisted_size, shared_size, bytes_read, bytes_in_front}
use Rattle.player_memory.proofs.Laws.{unread_few, unlisted_few, subtunes_are_large}
use Rattle.kept_lines.specs.Asked.{is_in, asked_by}
use Rattle.kept_lines.proofs.Laws.{asked_is_exact}
use Rattle.image_parts.specs.CodeParts.{zero_bytes}
use Rattle.image_parts.specs.Lengths.{unread_of, unread_timers, unread_bytes, unlisted_bytes, shared_bytes, read_of}

-- of each instrument six bytes at most aren't read
pub unread_most : (asked instruments : ℕ) → unread_bytes asked instruments ≤ 6 * instruments
unread_most asked instruments =
    let pulse = at_most (is_in asked NOTE_PULSE) in
    let filter = at_most (is_in asked NOTE_FILTER) in
    let vibrato = at_most (is_in asked NOTE_VIBRATO) in
    let delay = at_most (is_in asked VIBRATO_DELAY) in
    let timer = at_most (is_in asked OWN_TIMER || is_in asked FIRST_HOLDS) in
    let wave = at_most (is_in asked OWN_WAVE) in
    omega arith
  where
    at_most : (z : Bool) → (if z then 0 else instruments) ≤ instruments
    at_most true = omega arith
    at_most false = omega arith

-- and four at most stand alone for all of them
pub shared_most : (asked : ℕ) → shared_bytes asked ≤ 4
shared_most asked =
    let timer = at_most (is_in asked OWN_TIMER) in
    let wave = at_most (is_in asked OWN_WAVE) in
    let gates = one_at_most (is_in asked LEGATO && not (is_in asked FIRST_HOLDS)) in
    let envelopes = one_at_most (is_in asked NO_HARD_RESTART && not (is_in asked FIRST_HOLDS)) in
    omega arith
  where
    at_most : (z : Bool) → (if z then 0 else 1) ≤ 1
    at_most true = omega arith
    at_most false = omega arith

    one_at_most : (z : Bool) → (if z then 1 else 0) ≤ 1
    one_at_most true = omega arith
    one_at_most false = omega arith

-- a field isn't read exactly where the song doesn't ask for its condition, or for neither of two
pub unread_is : (packed : PackedSong) → unread_bytes (asked_by packed) (length packed.instruments) ≡ unread_size packed
unread_is packed =
    let exact = asked_is_exact packed.features.0 packed.facts in
    let pulse : unread_of (asked_by packed) NOTE_PULSE count ≡ unread packed 3 = ap if_not (exact NOTE_PULSE) in
    let filter : unread_of (asked_by packed) NOTE_FILTER count ≡ unread packed 4 = ap if_not (exact NOTE_FILTER) in
    let vibrato : unread_of (asked_by packed) NOTE_VIBRATO count ≡ unread packed 5 = ap if_not (exact NOTE_VIBRATO) in
    let delay : unread_of (asked_by packed) VIBRATO_DELAY count ≡ unread packed 6 = ap if_not (exact VIBRATO_DELAY) in
    let timer : unread_timers (asked_by packed) count ≡ unread packed 7 =
    if_none (exact OWN_TIMER) (exact FIRST_HOLDS) in
    let wave : unread_of (asked_by packed) OWN_WAVE count ≡ unread packed 8 = ap if_not (exact OWN_WAVE) in
    omega arith
  where
    count : ℕ
    count = length packed.instruments

    if_not : Bool → ℕ
    if_not read = if read then 0 else length packed.instruments

    if_none : {a b x y : Bool} → a ≡ x → b ≡ y → if_not (a || b) ≡ if_not (x || y)
    if_none e f = rw (e, f) refl

pub shared_is : (packed : PackedSong) → shared_bytes (asked_by packed) ≡ shared_size packed
shared_is packed =
    let exact = asked_is_exact packed.features.0 packed.facts in
    let timer = ap if_not (exact OWN_TIMER) in
    let wave = ap if_not (exact OWN_WAVE) in
    let gates = if_in_order (exact LEGATO) (exact FIRST_HOLDS) in
    let envelopes = if_in_order (exact NO_HARD_RESTART) (exact FIRST_HOLDS) in
    omega (arith, timer, wave, gates, envelopes)
  where
    if_not : Bool → ℕ
    if_not own = if own then 0 else 1

    number : Bool → Bool → ℕ
    number held more = if held && not more then 1 else 0

    if_in_order : {a b x y : Bool} → a ≡ x → b ≡ y → number a b ≡ number x y
    if_in_order e f = rw (e, f) refl

pub unlisted_is : (packed : PackedSong) →
    unlisted_bytes (asked_by packed) (length packed.subtunes) ≡ unlisted_size packed
unlisted_is packed =
    ap (λ (z : Bool). if z then 0 else 6 * length packed.subtunes)
    (asked_is_exact packed.features.0 packed.facts SUBTUNES)

-- so the song's facts say what is read
pub read_is : (packed : PackedSong) → read_of packed ≡ bytes_read packed
read_is packed =
    all (packed_song_size packed) _ _ _ _ _ _ (shared_is packed) (unread_is packed) (unlisted_is packed)
  where
    all : (size more shared less unread none unlisted : ℕ) → more ≡ shared → less ≡ unread → none ≡ unlisted →
        size + more - (less + none) ≡ size + shared - (unread + unlisted)
    all size more shared less unread none unlisted e f g = rw (e, f, g) refl

-- and it is what stands in front of the frequencies, but for the zeros
pub front_is : (packed : PackedSong) → zero_bytes + read_of packed ≡ bytes_in_front packed
front_is packed = ap (λ (read : ℕ). zero_bytes + read) (read_is packed)

-- the packed song, but for what stands alone for all instruments, is no smaller
pub read_most : (packed : PackedSong) → read_of packed ≤ packed_song_size packed + shared_bytes (asked_by packed)
read_most packed =
    less (packed_song_size packed + shared_bytes (asked_by packed))
    (unread_bytes (asked_by packed) (length packed.instruments)
    + unlisted_bytes (asked_by packed) (length packed.subtunes))
  where
    less : (size unread : ℕ) → size - unread ≤ size
    less size unread = omega arith

-- the speed table is read
pub speeds_are_read : (packed : PackedSong) → length packed.speed ≤ read_of packed
speeds_are_read packed =
    within (length packed.subtunes) (sum_by subtune_size packed.subtunes) (sum_by list_size packed.patterns)
    (length packed.instruments) (length packed.wave) (length packed.pulse) (length packed.filter) (length packed.speed)
    (shared_size packed) (unread_size packed) (unlisted_size packed) (read_of packed) (read_is packed)
    (unread_few packed) (unlisted_few packed) (subtunes_are_large packed.subtunes)
  where
    within : (subtunes orders texts instruments wave pulse filter speed shared unread unlisted read : ℕ) →
        read ≡ orders + texts + 9 * instruments + 2 * wave + 2 * pulse + 2 * filter + 2 * speed + shared
        - (unread + unlisted) →
        unread ≤ 6 * instruments → unlisted ≤ 6 * subtunes → 6 * subtunes ≤ orders → speed ≤ read
    within subtunes orders texts instruments wave pulse filter speed shared unread unlisted read is few none large =
        omega (arith, is, few, none, large)
