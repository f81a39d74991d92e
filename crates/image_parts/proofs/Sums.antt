-- The parts of the code add up to it, and those that aren't kept have no bytes.
use Rattle.std.proofs.Common.{◌≡◌, ◌≢◌, ℕ, ◌+◌, ◌<◌, ◌⊎◌, ◌==◌, Bool, true, if◌then◌else◌}
use Rattle.std.proofs.Common.{List, ◌++◌, length, replicate, All, refl, sym, ap, ◌∙◌, arith, inl, inr}
use Rattle.std.specs.List.{sum_by, range_with_len}
use Rattle.std.proofs.lemmas.Bool.{cases_lt, ne_eqb, true≢false}
use Rattle.std.proofs.lemmas.List.{length-append, length-replicate}
use Rattle.std.proofs.lemmas.List.Elements.{All-append, All-replicate, All-weaker}
use Rattle.play_model.specs.declared.options.Options.{Options}
use Rattle.scopes.specs.Trees.{Tree}
use Rattle.scope_lines.specs.Sizes.{size}
use Rattle.scope_lines.specs.Readings.{holds_in}
use Rattle.scope_parts.specs.Parts.{parts, bytes_of}
use Rattle.scope_parts.proofs.Laws.{parts_take_size, parts_are_kept}
use Rattle.player_text.specs.Texts.{filter_tree, voice_tree, init_tree}
use Rattle.kept_lines.specs.Starts.{start_of}
use Rattle.kept_lines.specs.KeptLines.{kept_set}
use Rattle.kept_lines.proofs.Laws.{sets_are_exact, no_more}
use Rattle.variable_places.specs.Places.{variable_count}
use Rattle.player_code.specs.CodeLines.{cleared_of}
use Rattle.image_parts.specs.CodeParts.{always, code_parts, part_length}
use Rattle.image_parts.specs.PartLaws.{CodeTakesItsParts, PartsAddUp, UnkeptPartsHaveNone}
use Rattle.image_parts.proofs.Counts.{below, below_same, IsPart, counted, none_of}

-- the parts of three blocks with what stands around them
abbrev pub around : (ℕ → Bool) → ℕ → Tree → Tree → Tree → List ℕ
around holds variables filter voice init =
    replicate (7 + variables) always ++ (parts holds always filter
    ++ (replicate 12 always ++ (parts holds always voice
    ++ (replicate 2 always ++ (parts holds always init ++ replicate 1 always)))))

-- ---- as many as bytes

more : (n : ℕ) (rest : List ℕ) → length (replicate n always ++ rest) ≡ n + length rest
more n rest = length-append (replicate n always) rest ∙ ap (λ k. k + length rest) (length-replicate n always)

block : (holds : ℕ → Bool) (tree : Tree) (rest : List ℕ) →
    length (parts holds always tree ++ rest) ≡ size holds tree + length rest
block holds tree rest =
    length-append (parts holds always tree) rest ∙ ap (λ k. k + length rest) (parts_take_size holds always tree)

around_long : (holds : ℕ → Bool) (variables : ℕ) (filter voice init : Tree) →
    length (around holds variables filter voice init)
    ≡ 22 + variables + size holds filter + size holds voice + size holds init
around_long holds variables filter voice init =
    let last = replicate 1 always in
    let after_voice = replicate 2 always ++ (parts holds always init ++ last) in
    let after_calls = parts holds always voice ++ after_voice in
    let after_filter = replicate 12 always ++ after_calls in
    let a = more (7 + variables) (parts holds always filter ++ after_filter) in
    let b = block holds filter after_filter in
    let c = more 12 after_calls in
    let d = block holds voice after_voice in
    let e = more 2 (parts holds always init ++ last) in
    let f = block holds init last in
    let g = length-replicate 1 always in
    omega (arith, a, b, c, d, e, f, g)

pub code_takes_its_parts : CodeTakesItsParts
code_takes_its_parts asked o =
    let holds = holds_in (kept_set asked o) in
    around_long holds (variable_count holds) filter_tree voice_tree
    (init_tree (start_of o) (cleared_of (variable_count holds)))

-- ---- which

abbrev IsKept : (ℕ → Bool) → ℕ → Type 0
IsKept holds part = (part ≡ always) ⊎ (holds part ≡ true)

all_around : (holds : ℕ → Bool) (variables : ℕ) (filter voice init : Tree) →
    All (IsKept holds) (around holds variables filter voice init)
all_around holds variables filter voice init =
    let few : (n : ℕ) → All (IsKept holds) (replicate n always) =
    (λ n. All-replicate (IsKept holds) n always (inl refl)) in
    let last = replicate 1 always in
    let after_voice = replicate 2 always ++ (parts holds always init ++ last) in
    let after_calls = parts holds always voice ++ after_voice in
    let after_filter = replicate 12 always ++ after_calls in
    All-append (IsKept holds) (replicate (7 + variables) always) (parts holds always filter ++ after_filter)
    (few (7 + variables))
    (All-append (IsKept holds) (parts holds always filter) after_filter (parts_are_kept holds always filter)
    (All-append (IsKept holds) (replicate 12 always) after_calls (few 12)
    (All-append (IsKept holds) (parts holds always voice) after_voice (parts_are_kept holds always voice)
    (All-append (IsKept holds) (replicate 2 always) (parts holds always init ++ last) (few 2)
    (All-append (IsKept holds) (parts holds always init) last (parts_are_kept holds always init) (few 1))))))

kept_is : (asked : ℕ) (o : Options) → All (IsKept (holds_in (kept_set asked o))) (code_parts asked o)
kept_is asked o =
    let holds = holds_in (kept_set asked o) in
    all_around holds (variable_count holds) filter_tree voice_tree
    (init_tree (start_of o) (cleared_of (variable_count holds)))

-- a condition that holds is one of 61
few_hold : (asked : ℕ) (o : Options) (part : ℕ) → holds_in (kept_set asked o) part ≡ true → part < 61
few_hold asked o part holds = elim (cases_lt part 61) [
  | inl low ↦ low
  | inr high ↦
      absurd (true≢false (sym holds ∙ sets_are_exact asked o part ∙ no_more asked o part high))
]

pub all_are_parts : (asked : ℕ) (o : Options) → All (IsPart always 61) (code_parts asked o)
all_are_parts asked o =
    All-weaker (IsKept (holds_in (kept_set asked o))) (IsPart always 61) weaker (code_parts asked o)
    (kept_is asked o)
  where
    weaker : (part : ℕ) → IsKept (holds_in (kept_set asked o)) part → IsPart always 61 part
    weaker part (inl is) = inl is
    weaker part (inr holds) = inr (few_hold asked o part holds)

-- ---- sums

sum_of_all : (number : ℕ → ℕ) → sum_by number (range_with_len 0 61) ≡ below number 61
sum_of_all number = omega arith

-- a part below the last one is counted without the zeros
own_bytes : (code : List ℕ) (part : ℕ) → part < 61 →
    bytes_of part code ≡ bytes_of part code + (if part == always then 2 else 0)
own_bytes code part few =
    rw (ne_eqb part always (λ is. omega (arith, few, is))) (plain (bytes_of part code))
  where
    plain : (n : ℕ) → n ≡ n + 0
    plain n = omega arith

pub parts_add_up : PartsAddUp
parts_add_up asked o =
    let code = code_parts asked o in
    let all = counted always 61 (omega arith) code (all_are_parts asked o) in
    let same = below_same (λ part. bytes_of part code) (part_length asked o) 61 (own_bytes code) in
    let sum = sum_of_all (part_length asked o) in
    add (length code) (bytes_of always code) _ _ _ all same sum
  where
    add : (all rest own full sum : ℕ) → all ≡ rest + own → own ≡ full → sum ≡ full → all + 2 ≡ rest + 2 + sum
    add all rest own full sum a b c = omega (arith, a, b, c)

-- ---- parts that aren't kept

pub unkept_parts_have_none : UnkeptPartsHaveNone
unkept_parts_have_none asked o part other not =
    let code = code_parts asked o in
    let none = none_of part code
    (All-weaker (IsKept (holds_in (kept_set asked o))) (λ own. own ≢ part) differs code (kept_is asked o)) in
    rw (ne_eqb part always other) (plain (bytes_of part code) none)
  where
    plain : (n : ℕ) → n ≡ 0 → n + 0 ≡ 0
    plain n e = omega (arith, e)

    differs : (own : ℕ) → IsKept (holds_in (kept_set asked o)) own → own ≢ part
    differs own (inl is) same = other (sym same ∙ is)
    differs own (inr holds) same =
        true≢false (sym holds ∙ ap (holds_in (kept_set asked o)) same ∙ sets_are_exact asked o part ∙ not)
