-- The kinds of a packed song have the bytes that its song says.
use Rattle.std.proofs.Common.{◌≡◌, ℕ, ◌+◌, ◌-◌, ◌*◌, ◌≤◌, List, [], ◌∷◌, map, length, refl, sym}
use Rattle.std.proofs.Common.{◌∙◌, ap, arith}
use Rattle.std.specs.List.{filter, sum_by}
use Rattle.std.proofs.lemmas.List.{length-map, length-append}
use Rattle.std.proofs.lemmas.List.Sums.{sum_by-cons, length-filter}
use Rattle.song_model.specs.declared.orders.Order.{Order}
use Rattle.song_model.specs.declared.orders.Subtune.{Subtune}
use Rattle.song_model.specs.declared.tables.TableRow.{TableRow}
use Rattle.song_model.specs.declared.songs.Song.{Song}
use Rattle.song_model.specs.LookUp.{playable_subtunes}
use Rattle.play_model.specs.declared.options.Options.{Options}
use Rattle.packed_form.specs.declared.packed_songs.PackedSong.{PackedSong}
use Rattle.packed_form.specs.Sizes.{list_size, subtune_size, packed_song_size}
use Rattle.player_memory.specs.SongLists.{shared_size, unread_size, unlisted_size}
use Rattle.packing_rules.specs.Segments.{ProgramTable, numbers, row_of, keeps}
use Rattle.packing_rules.specs.ProgramMaps.{retargeted}
use Rattle.packing_rules.specs.UsedSets.{UsedSets, AreUsedSets}
use Rattle.packing_rules.specs.Renumbering.{program_rows, program_number, pattern_number, wave_programs}
use Rattle.packing_rules.specs.Renumbering.{pulse_programs, filter_programs}
use Rattle.packing_rules.specs.SongSizes.{order_size, orders_size, rows_size}
use Rattle.kept_lines.specs.Asked.{asked_by}
use Rattle.image_parts.specs.CodeParts.{code_length}
use Rattle.image_parts.specs.Lengths.{slide_bytes, shared_bytes, unread_bytes, unlisted_bytes, read_of, frequency_bytes}
use Rattle.image_parts.proofs.Laws.{shared_is, unread_is, unlisted_is, read_is}
use Rattle.player_memory.proofs.Laws.{unread_few, unlisted_few}
use Rattle.player_memory.proofs.Laws as player_memory
use Rattle.song_pack.specs.Packed.{order_byte, order_bytes, packed_subtune, IsPacked}
use Rattle.song_pack.proofs.Laws.{instruments_are_counted, size_is}
use Rattle.song_costs.specs.declared.costs.Costs.{Costs}
use Rattle.song_costs.specs.Kinds.{speed_bytes, instrument_count, subtune_count, costs_of}

order_bytes_are : (number : ℕ → ℕ) (order : Order) → list_size (order_bytes number order) ≡ order_size order
order_bytes_are number order =
    let all = length-append (map (order_byte number) order.entries) (0xFF ∷ order.restart ∷ []) in
    let entries = length-map order.entries (order_byte number) in
    omega arith

orders_are : (number : ℕ → ℕ) (subtunes : List Subtune) →
    sum_by subtune_size (map (packed_subtune number) subtunes) ≡ sum_by orders_size subtunes
orders_are number [] = refl
orders_are number (subtune ∷ subtunes) =
    let packed = sum_by-cons subtune_size (packed_subtune number subtune) (map (packed_subtune number) subtunes) in
    let plain = sum_by-cons orders_size subtune subtunes in
    let one = order_bytes_are number subtune.one in
    let two = order_bytes_are number subtune.two in
    let three = order_bytes_are number subtune.three in
    let rest = orders_are number subtunes in
    omega arith

rows_are : (table : ProgramTable) (rows : List TableRow) → rows ≡ program_rows table →
    2 * length rows ≡ rows_size keeps table
unfolding program_rows
rows_are table rows are =
    let all = ap length are in
    let kept = length-map (filter (keeps table) (numbers (length table.rows)))
    (λ p. retargeted (program_number table) (row_of table p)) in
    let count = length-filter (keeps table) (numbers (length table.rows)) in
    omega arith

pub instruments_are : (song : Song) (used : UsedSets) (packed : PackedSong) → AreUsedSets song used →
    IsPacked song used packed → length packed.instruments ≡ instrument_count used
instruments_are song used packed are is = instruments_are_counted song used packed are is

pub subtunes_are : (song : Song) (used : UsedSets) (packed : PackedSong) → IsPacked song used packed →
    length packed.subtunes ≡ subtune_count song
subtunes_are song used packed is =
    ap length is.subtunes ∙ length-map (playable_subtunes song) (packed_subtune (pattern_number song used))

-- each has six bytes for the addresses of its orderlists
pub subtunes_are_large : (subtunes : List Subtune) → 6 * length subtunes ≤ sum_by orders_size subtunes
subtunes_are_large subtunes =
    let packed = map (packed_subtune (λ pattern. pattern)) subtunes in
    let large = player_memory.subtunes_are_large packed in
    let sizes = orders_are (λ pattern. pattern) subtunes in
    let count = length-map subtunes (packed_subtune (λ pattern. pattern)) in
    omega (arith, large, sizes, count)

-- what is left of the whole size is that of the orderlists
rest_is : (orders patterns instruments wave pulse filters speed size : ℕ) →
    size ≡ orders + patterns + instruments + wave + pulse + filters + speed →
    size - patterns - instruments - wave - pulse - filters - speed ≡ orders
rest_is orders patterns instruments wave pulse filters speed size e = omega arith

same_costs : {r r' o o' p p' i i' w w' u u' f f' s s' n n' : ℕ} → r ≡ r' → o ≡ o' → p ≡ p' → i ≡ i' → w ≡ w' →
    u ≡ u' → f ≡ f' → s ≡ s' → n ≡ n' → ◌≡◌ {A = Costs}
    (record {
      player = r;
      orders = o;
      patterns = p;
      instruments = i;
      wave = w;
      pulse = u;
      filter = f;
      speed = s;
      frequencies = n;
    })
    (record {
      player = r';
      orders = o';
      patterns = p';
      instruments = i';
      wave = w';
      pulse = u';
      filter = f';
      speed = s';
      frequencies = n';
    })
same_costs a b c d e f g h i = rw (a, b, c, d, e, f, g, h, i) refl

-- those that are in no list are bytes of the orderlists
pub unlisted_within : (packed : PackedSong) → unlisted_size packed ≤ sum_by subtune_size packed.subtunes
unlisted_within packed =
    let few = unlisted_few packed in
    let large = player_memory.subtunes_are_large packed.subtunes in
    omega (arith, few, large)

-- where each kind has the bytes that were counted, all have those of the image
pub kinds_add_up : (packed : PackedSong) (slides frequencies : ℕ)
    {player code patterns count shared unread unlisted wave pulse filters speed size : ℕ} → player ≡ code →
    patterns ≡ sum_by list_size packed.patterns → count ≡ length packed.instruments →
    shared ≡ shared_size packed → unread ≡ unread_size packed → unlisted ≡ unlisted_size packed →
    wave ≡ 2 * length packed.wave → pulse ≡ 2 * length packed.pulse →
    filters ≡ 2 * length packed.filter → speed ≡ 2 * length packed.speed →
    size ≡ packed_song_size packed →
    player + (size - patterns - 9 * count - wave - pulse - filters - speed - unlisted + patterns
    + (9 * count + shared - unread) + wave + pulse + filters + (speed + slides) + frequencies)
    ≡ read_of packed + slides + frequencies + code
kinds_add_up packed slides frequencies a b c s u l d e f g h =
    let read = read_is packed in
    let few = unread_few packed in
    let within = unlisted_within packed in
    sum (sum_by subtune_size packed.subtunes) _ _ _ _ _ _ _ _ _ _ _ _ (read_of packed) _ _ (length packed.instruments) a
    (omega (arith, b, c, d, e, f, g, h)) c (omega (arith, u, few)) (omega (arith, l, within))
    (omega (arith, read, s, u, l, h))
  where
    sum : (orders player code patterns count shared unread unlisted wave pulse filters speed size read slides
        frequencies instruments : ℕ) → player ≡ code →
        size ≡ orders + patterns + 9 * count + wave + pulse + filters + speed → count ≡ instruments →
        unread ≤ 6 * instruments → unlisted ≤ orders → read ≡ size + shared - (unread + unlisted) →
        player + (size - patterns - 9 * count - wave - pulse - filters - speed - unlisted + patterns
        + (9 * count + shared - unread) + wave + pulse + filters + (speed + slides) + frequencies)
        ≡ read + slides + frequencies + code
    sum orders player code patterns count shared unread unlisted wave pulse filters speed size read slides frequencies
        instruments one two three four five six = omega (arith, one, two, three, four, five, six)

-- numbers that were taken from the packed song
pub costs_are : (song : Song) (used : UsedSets) (packed : PackedSong) (options : Options) → AreUsedSets song used →
    IsPacked song used packed →
    {player patterns count shared unread unlisted wave pulse filters speed slides size frequencies : ℕ} →
    player ≡ code_length (asked_by packed) options → patterns ≡ sum_by list_size packed.patterns →
    count ≡ length packed.instruments → shared ≡ shared_size packed → unread ≡ unread_size packed →
    unlisted ≡ unlisted_size packed → wave ≡ 2 * length packed.wave → pulse ≡ 2 * length packed.pulse →
    filters ≡ 2 * length packed.filter → speed ≡ 2 * length packed.speed →
    slides ≡ slide_bytes (asked_by packed) (length packed.speed) → size ≡ packed_song_size packed →
    frequencies ≡ frequency_bytes packed.numbers (read_of packed) →
    ◌≡◌ {A = Costs}
    (record {
      player = player;
      orders = size - patterns - 9 * count - wave - pulse - filters - speed - unlisted;
      patterns = patterns;
      instruments = 9 * count + shared - unread;
      wave = wave;
      pulse = pulse;
      filter = filters;
      speed = speed + slides;
      frequencies = frequencies;
    })
    (costs_of song used (asked_by packed) packed.numbers options)
costs_are song used packed options are is {player} {patterns} {count} {shared} {unread} {unlisted} {wave} {pulse}
    {filters} {speed} {slides} {size} {frequencies} a b c o u l d e f g s h n =
    let orders : size - patterns - 9 * count - wave - pulse - filters - speed ≡ sum_by subtune_size packed.subtunes =
    rest_is (sum_by subtune_size packed.subtunes) patterns (9 * count) wave pulse filters speed size (omega arith) in
    same_costs a
    (less (orders ∙ ap (sum_by subtune_size) is.subtunes
    ∙ orders_are (pattern_number song used) (playable_subtunes song))
    (l ∙ sym (unlisted_is packed) ∙ ap (unlisted_bytes (asked_by packed)) subtunes))
    (b ∙ ap (sum_by list_size) is.patterns)
    (fewer (c ∙ counted) (o ∙ sym (shared_is packed))
    (u ∙ sym (unread_is packed) ∙ ap (unread_bytes (asked_by packed)) counted))
    (d ∙ rows_are (wave_programs song used) packed.wave is.wave)
    (e ∙ rows_are (pulse_programs song used) packed.pulse is.pulse)
    (f ∙ rows_are (filter_programs song used) packed.filter is.filter)
    (both g s ∙ ap (λ (rows : List TableRow). speed_bytes (asked_by packed) (length rows)) is.speed.rows_are)
    (n ∙ ap (frequency_bytes packed.numbers)
    (read (asked_by packed) counted subtunes (size_is song used packed are is)))
  where
    counted : length packed.instruments ≡ instrument_count used
    counted = instruments_are song used packed are is

    subtunes : length packed.subtunes ≡ subtune_count song
    subtunes = subtunes_are song used packed is

    -- what is read is a matter of how many instruments, subtunes and bytes there are
    read : (asked : ℕ) {i i' t t' s s' : ℕ} → i ≡ i' → t ≡ t' → s ≡ s' →
        s + shared_bytes asked - (unread_bytes asked i + unlisted_bytes asked t)
        ≡ s' + shared_bytes asked - (unread_bytes asked i' + unlisted_bytes asked t')
    read asked x y z = rw (x, y, z) refl

    less : {a b c d : ℕ} → a ≡ c → b ≡ d → a - b ≡ c - d
    less x y = rw (x, y) refl

    fewer : {a b c d e f : ℕ} → a ≡ d → b ≡ e → c ≡ f → 9 * a + b - c ≡ 9 * d + e - f
    fewer x y z = rw (x, y, z) refl

    both : {a b c d : ℕ} → a ≡ c → b ≡ d → a + b ≡ c + d
    both x y = rw (x, y) refl
