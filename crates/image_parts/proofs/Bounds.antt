-- Bounds of the parts and of an image.
use Rattle.std.proofs.Common.{◌≡◌, ℕ, ◌+◌, ◌-◌, ◌*◌, ◌<◌, ◌≤◌, nat_le, Bool, true}
use Rattle.std.proofs.Common.{List, ◌++◌, replicate, refl, arith, inl, inr, mul-le-mul_right}
use Rattle.std.proofs.lemmas.Bool.{cases_lt, cases_Bool, agree_below_at, leb-true, ne_eqb}
use Rattle.std.proofs.lemmas.List.Folds.{sum_by-replicate}
use Rattle.std.proofs.lemmas.List.Sums.{sum_by-append}
use Rattle.play_model.specs.declared.options.Options.{Options}
use Rattle.asked_numbers.specs.declared.range.NumberRange.{NumberRange}
use Rattle.packed_form.specs.Sizes.{packed_song_size}
use Rattle.packed_form.specs.CodeBounds.{kept_parts}
use Rattle.scopes.specs.Trees.{Tree}
use Rattle.scope_lines.specs.Readings.{holds_in}
use Rattle.scope_parts.specs.Parts.{parts, bytes_of}
use Rattle.scope_parts.specs.PartLaws.{most_of}
use Rattle.scope_parts.proofs.Laws.{parts_are_bounded}
use Rattle.player_memory.specs.declared.conditions.TheConstants.{NOTE_DEPENDENT}
use Rattle.player_text.specs.Texts.{filter_tree, voice_tree, init_tree}
use Rattle.player_text.specs.declared.texts.Start.{Start}
use Rattle.player_text.proofs.Laws.{are_measured}
use Rattle.kept_lines.specs.Starts.{start_of}
use Rattle.kept_lines.specs.Asked.{is_in, asked_by}
use Rattle.kept_lines.specs.KeptLines.{kept_set}
use Rattle.kept_lines.proofs.Laws.{no_more}
use Rattle.variable_places.specs.Places.{variable_count}
use Rattle.variable_places.proofs.Laws.{counts_are_few}
use Rattle.player_code.specs.CodeLines.{cleared_of}
use Rattle.image_parts.specs.CodeParts.{always, code_parts}
use Rattle.image_parts.specs.Lengths.{slide_bytes, read_of, frequency_bytes}
use Rattle.image_parts.specs.PartLaws.{CodeIsShort, PartsAreShort, CodeIsBounded, ImagesAreBounded}
use Rattle.image_parts.proofs.Counts.{one_if}
use Rattle.image_parts.proofs.ReadBytes.{shared_most, read_most}
use Rattle.image_parts.proofs.Sums.{around, code_takes_its_parts, unkept_parts_have_none}

-- ---- parts

pub both : (part : ℕ) (one other : List ℕ) → bytes_of part (one ++ other) ≡ bytes_of part one + bytes_of part other
both part one other = sum_by-append (one_if part) one other

pub plain_is : (part n : ℕ) → bytes_of part (replicate n always) ≡ n * one_if part always
plain_is part n = sum_by-replicate (one_if part) n always

no_longer : (n m k : ℕ) → n ≤ m → n * k ≤ m * k
no_longer n m k few = mul-le-mul_right k few

-- the most that stands in three blocks and around them, where the variables are 113
abbrev most_around : ℕ → Tree → Tree → Tree → ℕ
most_around part filter voice init =
    135 * one_if part always + most_of part always filter + most_of part always voice + most_of part always init

around_most : (holds : ℕ → Bool) (part variables : ℕ) (filter voice init : Tree) → variables ≤ 113 →
    bytes_of part (around holds variables filter voice init) ≤ most_around part filter voice init
around_most holds part variables filter voice init few =
    let last = replicate 1 always in
    let after_voice = replicate 2 always ++ (parts holds always init ++ last) in
    let after_calls = parts holds always voice ++ after_voice in
    let after_filter = replicate 12 always ++ after_calls in
    let a = both part (replicate (7 + variables) always) (parts holds always filter ++ after_filter) in
    let b = both part (parts holds always filter) after_filter in
    let c = both part (replicate 12 always) after_calls in
    let d = both part (parts holds always voice) after_voice in
    let e = both part (replicate 2 always) (parts holds always init ++ last) in
    let f = both part (parts holds always init) last in
    let n = plain_is part (7 + variables) in
    let front = no_longer (7 + variables) 120 (one_if part always) (omega (arith, few)) in
    let m = plain_is part 12 in
    let l = plain_is part 2 in
    let k = plain_is part 1 in
    let x = parts_are_bounded holds part always filter in
    let y = parts_are_bounded holds part always voice in
    let z = parts_are_bounded holds part always init in
    omega (arith, a, b, c, d, e, f, n, front, m, l, k, x, y, z)

-- the numbers, computed
few_of : (start : Start) (cleared part : ℕ) → part < 61 →
    most_around part filter_tree voice_tree (init_tree start cleared) ≤ 320
few_of start cleared part low =
    leb-true _ 320
    (agree_below_at (λ n. nat_le (most_around n filter_tree voice_tree (init_tree start cleared)) 320) (λ n. true)
    61 part refl low)

rest_of : (start : Start) (cleared : ℕ) →
    most_around always filter_tree voice_tree (init_tree start cleared) ≤ 3070
rest_of start cleared = leb-true _ 3070 refl

-- how many variables are cleared for what a song asks for and options, and what begins a subtune then
abbrev cleared_by : ℕ → Options → ℕ
cleared_by asked o = cleared_of (variable_count (holds_in (kept_set asked o)))

abbrev begins : ℕ → Options → Tree
begins asked o = init_tree (start_of o) (cleared_by asked o)

code_most : (asked : ℕ) (o : Options) (part : ℕ) →
    bytes_of part (code_parts asked o) ≤ most_around part filter_tree voice_tree (begins asked o)
code_most asked o part =
    let holds = holds_in (kept_set asked o) in
    around_most holds part (variable_count holds) filter_tree voice_tree (begins asked o) (counts_are_few holds).1

no_more_than : (n m : ℕ) → n ≤ m → m ≤ 320 → n + 0 ≤ 320
no_more_than n m a b = omega (arith, a, b)

pub parts_are_short : PartsAreShort
parts_are_short asked o = record {
  parts = λ part other. elim (cases_lt part 61) [
    | inl low ↦
        rw (ne_eqb part always other)
        (no_more_than _ _ (code_most asked o part) (few_of (start_of o) (cleared_by asked o) part low))
    | inr high ↦ few _ (unkept_parts_have_none asked o part other (no_more asked o part high))
  ];
  rest = with_zeros _ _ (code_most asked o always) (rest_of (start_of o) (cleared_by asked o));
} where
  few : (n : ℕ) → n ≡ 0 → n ≤ 320
  few n e = omega (arith, e)

  with_zeros : (n m : ℕ) → n ≤ m → m ≤ 3070 → n + 2 ≤ 3072
  with_zeros n m a b = omega (arith, a, b)

-- ---- the code, with the slides and the frequencies

slides_most : (asked rows : ℕ) → rows ≤ 255 → slide_bytes asked rows ≤ 768
slides_most asked rows few = elim (cases_Bool (is_in asked NOTE_DEPENDENT)) [
  | inl on ↦ rw on (omega (arith, few))
  | inr off ↦ rw off (omega arith)
]

pub code_is_short : CodeIsShort
code_is_short asked o =
    let holds = holds_in (kept_set asked o) in
    bounds _ _ _ _ _ (code_takes_its_parts asked o) (counts_are_few holds).1 (are_measured.filter.takes_most holds)
    (are_measured.voice.takes_most holds) ((are_measured.init (start_of o) (cleared_by asked o)).takes_most holds)
  where
    bounds : (all n f v i : ℕ) → all ≡ 22 + n + f + v + i → n ≤ 113 → f ≤ 102 → v ≤ 1338 → i ≤ 92 → all + 2 ≤ 1669
    bounds all n f v i e few one two three = omega (arith, e, few, one, two, three)

frequencies_most : (range : NumberRange) (size : ℕ) → range.first + range.count ≤ 129 → frequency_bytes range size ≤ 258
frequencies_most range size few = most range.first range.count (2 + size) few
  where
    most : (first count front : ℕ) → first + count ≤ 129 → first - front + 2 * count ≤ 258
    most first count front few = omega (arith, few)

pub code_is_bounded : CodeIsBounded
code_is_bounded asked features rows size range o few low =
    within _ _ _ _ (kept_parts features o) (shared_most asked) (slides_most asked rows few)
    (frequencies_most range size low) (code_is_short asked o)
  where
    within : (shared slides frequencies code kept : ℕ) → shared ≤ 4 → slides ≤ 768 → frequencies ≤ 258 →
        code ≤ 1669 → shared + slides + frequencies + code ≤ 3072 + 320 * kept
    within shared slides frequencies code kept a b c d = omega (arith, a, b, c, d)

pub images_are_bounded : ImagesAreBounded
images_are_bounded packed o few =
    all (packed_song_size packed) (read_of packed) _ _ _ _ _ (read_most packed)
    (code_is_bounded (asked_by packed) packed.features.0 _ (read_of packed) packed.numbers o few
    packed.numbers_within)
  where
    all : (packed read shared slides frequencies code bound : ℕ) → read ≤ packed + shared →
        shared + slides + frequencies + code ≤ bound → read + slides + frequencies + code ≤ packed + bound
    all packed read shared slides frequencies code bound less h = omega (arith, less, h)
