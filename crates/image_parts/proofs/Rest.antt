-- What each image has: its lines, its variables, and what stands in the place of lines that aren't kept.
use Rattle.std.proofs.Common.{◌≡◌, ℕ, ◌+◌, ◌≤◌, inl, inr, Bool, true, false, not, nat_eq, ◌||◌, ◌&&◌, List, [], ◌∷◌}
use Rattle.std.proofs.Common.{◌++◌, replicate, if◌then◌else◌, refl, sym, ap, subst, ◌∙◌, arith}
use Rattle.std.specs.List.{AllByRecursion}
use Rattle.std.proofs.lemmas.Bool.{eqb-true, or_cases, or_parts, and_parts, true≢false}
use Rattle.play_model.specs.declared.options.Options.{Options}
use Rattle.scopes.specs.Trees.{Tree, ThenTree}
use Rattle.scope_lines.specs.Readings.{holds_in}
use Rattle.scope_parts.specs.Parts.{parts, bytes_of}
use Rattle.scope_parts.specs.PartLaws.{most_of, least_of}
use Rattle.scope_parts.proofs.Laws.{parts_are_bounded, parts_are_there}
use Rattle.player_memory.specs.declared.conditions.TheConstants.{PULSE_TABLE, SET_VOLUME, WAVE_COMMAND, ROW_SLIDE}
use Rattle.player_memory.specs.declared.conditions.TheConstants.{EFFECTS, PORTA_UP, PORTA_DOWN, TONE_PORTA, TIE_NOTE}
use Rattle.player_memory.specs.declared.conditions.TheConstants.{OWN_TIMER, OWN_WAVE, FUNK_TEMPO, VOICE_TWO, VOICE_THREE}
use Rattle.player_text.specs.declared.joints.TheConstants.{SOUNDS}
use Rattle.player_text.specs.declared.register.TheConstants.{REGISTERS}
use Rattle.player_text.specs.declared.silence.TheConstants.{SILENCE}
use Rattle.player_text.specs.declared.texts.Start.{Start}
use Rattle.player_text.specs.Steps.{all_of, in_scope, text, sounding_pieces}
use Rattle.player_text.specs.Texts.{filter_tree, voice_tree, init_tree}
use Rattle.kept_lines.specs.Starts.{start_of}
use Rattle.kept_lines.specs.Asked.{is_in}
use Rattle.kept_lines.specs.KeptLines.{asks_vibrato, kept_set}
use Rattle.kept_lines.proofs.Laws.{sets_are_exact}
use Rattle.variable_places.specs.Places.{voice_rows, shared_rows, asks, has_byte, voice_labels, other_labels}
use Rattle.variable_places.specs.Places.{free_places, funk_place, variable_count}
use Rattle.variable_places.proofs.Laws.{counts_are_few, counts_rise, counts_are_no_fewer}
use Rattle.player_code.specs.CodeLines.{cleared_of}
use Rattle.image_parts.specs.CodeParts.{always}
use Rattle.image_parts.specs.PartLaws.{RestIsExact, RestIsBounded}
use Rattle.image_parts.proofs.Sums.{around}
use Rattle.image_parts.proofs.Settled.{settled, settled_has_the_parts}
use Rattle.image_parts.proofs.Bounds.{both, plain_is}

-- ---- a test in all ways in which five conditions hold or don't

abbrev either_way : (Bool → Bool) → Bool
either_way test = test true && test false

abbrev in_all_ways : (Bool → Bool → Bool → Bool → Bool → Bool) → Bool
in_all_ways test =
    either_way (λ a. either_way (λ b. either_way (λ c. either_way (λ d. either_way (λ e. test a b c d e)))))

-- so it is in each of them
in_one : (test : Bool → Bool) (z : Bool) → either_way test ≡ true → test z ≡ true
in_one test true all = (and_parts (test true) (test false) all).0
in_one test false all = (and_parts (test true) (test false) all).1

in_each : (test : Bool → Bool → Bool → Bool → Bool → Bool) (a b c d e : Bool) → in_all_ways test ≡ true →
    test a b c d e ≡ true
in_each test a b c d e all =
    in_one (λ z. test a b c d z) e
    (in_one (λ y. either_way (λ z. test a b c y z)) d
    (in_one (λ x. either_way (λ y. either_way (λ z. test a b x y z))) c
    (in_one (λ w. either_way (λ x. either_way (λ y. either_way (λ z. test a w x y z)))) b
    (in_one (λ v. either_way (λ w. either_way (λ x. either_way (λ y. either_way (λ z. test v w x y z))))) a all))))

-- ---- a block whose choices by five conditions are made

abbrev made : Bool → Bool → Bool → Bool → Bool → Tree → Tree
made pulse volume effects timer wave tree =
    settled PULSE_TABLE pulse (settled SET_VOLUME volume (settled EFFECTS effects
    (settled OWN_TIMER timer (settled OWN_WAVE wave tree))))

abbrev made_by : (ℕ → Bool) → Tree → Tree
made_by holds =
    made (holds PULSE_TABLE) (holds SET_VOLUME) (holds EFFECTS) (holds OWN_TIMER) (holds OWN_WAVE)

made_has_the_parts : (holds : ℕ → Bool) (tree : Tree) →
    parts holds always (made_by holds tree) ≡ parts holds always tree
made_has_the_parts holds tree =
    let wave = settled OWN_WAVE (holds OWN_WAVE) tree in
    let timer = settled OWN_TIMER (holds OWN_TIMER) wave in
    let effects = settled EFFECTS (holds EFFECTS) timer in
    let volume = settled SET_VOLUME (holds SET_VOLUME) effects in
    settled_has_the_parts holds PULSE_TABLE (holds PULSE_TABLE) refl always volume
    ∙ settled_has_the_parts holds SET_VOLUME (holds SET_VOLUME) refl always effects
    ∙ settled_has_the_parts holds EFFECTS (holds EFFECTS) refl always timer
    ∙ settled_has_the_parts holds OWN_TIMER (holds OWN_TIMER) refl always wave
    ∙ settled_has_the_parts holds OWN_WAVE (holds OWN_WAVE) refl always tree

-- how many bytes stand in the place of others, by what holds
abbrev in_place_of : Bool → Bool → Bool → Bool → Bool → ℕ
in_place_of pulse volume effects timer wave =
    (if pulse then 0 else 2) + (if volume then 0 else 2) + (if effects then 0 else 3) + (if timer then 0 else 6)
    + (if wave then 0 else 3)

-- the lines that tell whether a voice is run, and what stands behind them
abbrev front_of : Tree → Tree
front_of (ThenTree first rest) = first
front_of tree = tree

abbrev told_tree : Tree
told_tree = front_of (text SILENCE)

abbrev run_tree : Tree
run_tree = all_of (in_scope SOUNDS sounding_pieces ∷ text REGISTERS ∷ [])

-- the bytes of three blocks, by a number of each
abbrev of_blocks : (Tree → ℕ) → Start → ℕ → ℕ
of_blocks number start cleared = number filter_tree + number run_tree + number (init_tree start cleared)

-- they have at least so many, and at most so many
abbrev has_as_many : Start → ℕ → Bool → Bool → Bool → Bool → Bool → Bool
has_as_many start variables pulse volume effects timer wave =
    nat_eq (of_blocks (λ tree. least_of always always (made pulse volume effects timer wave tree)) start variables)
    (352 + in_place_of pulse volume effects timer wave)
    && nat_eq (of_blocks (λ tree. most_of always always (made pulse volume effects timer wave tree)) start variables)
    (352 + in_place_of pulse volume effects timer wave)

all_have_as_many : (start : Start) (variables : ℕ) → in_all_ways (has_as_many start variables) ≡ true
all_have_as_many start variables = refl

between : (holds : ℕ → Bool) (tree : Tree) →
    (least_of always always (made_by holds tree) ≤ bytes_of always (parts holds always tree))
    × (bytes_of always (parts holds always tree) ≤ most_of always always (made_by holds tree))
between holds tree =
    let known = made_by holds tree in
    subst
    (λ ps. (least_of always always known ≤ bytes_of always ps) × (bytes_of always ps ≤ most_of always always known))
    (made_has_the_parts holds tree)
    (parts_are_there holds always always known, parts_are_bounded holds always always known)

blocks_are : (holds : ℕ → Bool) (start : Start) (variables : ℕ) →
    of_blocks (λ tree. bytes_of always (parts holds always tree)) start variables
    ≡ 352 + in_place_of (holds PULSE_TABLE) (holds SET_VOLUME) (holds EFFECTS) (holds OWN_TIMER) (holds OWN_WAVE)
blocks_are holds start variables =
    let its = in_place_of (holds PULSE_TABLE) (holds SET_VOLUME) (holds EFFECTS) (holds OWN_TIMER) (holds OWN_WAVE) in
    let both = and_parts
    (nat_eq (of_blocks (λ tree. least_of always always (made_by holds tree)) start variables)
    (352 + its))
    (nat_eq (of_blocks (λ tree. most_of always always (made_by holds tree)) start variables)
    (352 + its))
    (in_each (has_as_many start variables) (holds PULSE_TABLE) (holds SET_VOLUME) (holds EFFECTS) (holds OWN_TIMER)
    (holds OWN_WAVE) (all_have_as_many start variables)) in
    squeezed _ _ _ _ _ _ _ _ _ _ (between holds filter_tree) (between holds run_tree)
    (between holds (init_tree start variables)) (eqb-true _ _ both.0) (eqb-true _ _ both.1)
  where
    squeezed : (l f m k v n j i o all : ℕ) → (l ≤ f) × (f ≤ m) → (k ≤ v) × (v ≤ n) → (j ≤ i) × (i ≤ o) →
        l + k + j ≡ all → m + n + o ≡ all → f + v + i ≡ all
    squeezed l f m k v n j i o all (a, b) (c, d) (e, g) least most = omega (arith, a, b, c, d, e, g, least, most)

-- the lines that tell whether a voice is run
abbrev in_place_of_silence : Bool → Bool → Bool → ℕ
in_place_of_silence funk two three = if funk || two || three then 0 else 6

silence_is : (holds : ℕ → Bool) (funk two three : Bool) → holds FUNK_TEMPO ≡ funk → holds VOICE_TWO ≡ two →
    holds VOICE_THREE ≡ three → bytes_of always (parts holds always told_tree) ≡ in_place_of_silence funk two three
silence_is holds true two three f t h = rw f refl
silence_is holds false true true f t h = rw (f, t, h) refl
silence_is holds false true false f t h = rw (f, t, h) refl
silence_is holds false false true f t h = rw (f, t, h) refl
silence_is holds false false false f t h = rw (f, t, h) refl

-- and the voice behind them
voice_has : (holds : ℕ → Bool) →
    bytes_of always (parts holds always voice_tree)
    ≡ bytes_of always (parts holds always told_tree) + bytes_of always (parts holds always run_tree)
voice_has holds =
    let silence = parts holds always told_tree in
    let sounds = parts holds always (all_of sounding_pieces) in
    let registers = parts holds always (all_of (text REGISTERS ∷ [])) in
    let one = both always (silence ++ sounds) registers in
    let two = both always silence sounds in
    let three = both always sounds registers in
    same_sum _ _ _ _ _ _ _ one two three (ap (bytes_of always) voice_parts)
  where
    voice_parts : parts holds always voice_tree
        ≡ (parts holds always told_tree ++ parts holds always (all_of sounding_pieces))
        ++ parts holds always (all_of (text REGISTERS ∷ []))
    voice_parts = refl

    same_sum : (voice all front silence sounds registers run : ℕ) → all ≡ front + registers → front ≡ silence + sounds →
        run ≡ sounds + registers → voice ≡ all → voice ≡ silence + run
    same_sum voice all front silence sounds registers run a b c d = omega (arith, a, b, c, d)

-- and with what stands around them
around_is : (holds : ℕ → Bool) (variables : ℕ) (filter voice init : Tree) →
    bytes_of always (around holds variables filter voice init)
    ≡ 22 + variables
    + (bytes_of always (parts holds always filter) + bytes_of always (parts holds always voice)
    + bytes_of always (parts holds always init))
around_is holds variables filter voice init =
    let last = replicate 1 always in
    let after_voice = replicate 2 always ++ (parts holds always init ++ last) in
    let after_calls = parts holds always voice ++ after_voice in
    let after_filter = replicate 12 always ++ after_calls in
    let a = both always (replicate (7 + variables) always) (parts holds always filter ++ after_filter) in
    let b = both always (parts holds always filter) after_filter in
    let c = both always (replicate 12 always) after_calls in
    let d = both always (parts holds always voice) after_voice in
    let e = both always (replicate 2 always) (parts holds always init ++ last) in
    let f = both always (parts holds always init) last in
    let n = plain_is always (7 + variables) in
    let m = plain_is always 12 in
    let l = plain_is always 2 in
    let k = plain_is always 1 in
    omega (arith, a, b, c, d, e, f, n, m, l, k)

pub rest_is_exact : RestIsExact
rest_is_exact asked o =
    let holds = holds_in (kept_set asked o) in
    let variables = variable_count holds in
    with_zeros _ variables _ _ _ _ _ _ _
    (around_is holds variables filter_tree voice_tree (init_tree (start_of o) (cleared_of variables)))
    (blocks_are holds (start_of o) (cleared_of variables)) (voice_has holds)
    (silence_is holds (holds FUNK_TEMPO) (holds VOICE_TWO) (holds VOICE_THREE) refl refl refl)
  where
    with_zeros : (all variables filter voice init run silence its more : ℕ) →
        all ≡ 22 + variables + (filter + voice + init) → filter + run + init ≡ 352 + its → voice ≡ silence + run →
        silence ≡ more → all + 2 ≡ 376 + variables + (its + more)
    with_zeros all variables filter voice init run silence its more e f g h = omega (arith, e, f, g, h)

-- ---- how many variables there are where conditions hold, or don't

abbrev among : List ℕ → ℕ → Bool
among [] condition = false
among (known ∷ rest) condition = nat_eq condition known || among rest condition

-- those that hold keep at least what they keep alone
held : (holds : ℕ → Bool) (known : List ℕ) → AllByRecursion (λ one. holds one ≡ true) known → (condition : ℕ) →
    among known condition ≡ true → holds condition ≡ true
held holds [] all condition is = absurd (cc)
held holds (one ∷ rest) all condition is = elim (or_cases (nat_eq condition one) (among rest condition) is) [
  | inl same ↦ ap holds (eqb-true condition one same) ∙ all.0
  | inr later ↦ held holds rest all.1 condition later
]

with_these : (holds : ℕ → Bool) (known : List ℕ) → AllByRecursion (λ one. holds one ≡ true) known →
    variable_count (among known) ≤ variable_count holds
with_these holds known all = counts_rise (among known) holds (held holds known all)

-- and where others don't, no more is kept than by all but these
left_out : (holds : ℕ → Bool) (out : List ℕ) → AllByRecursion (λ one. holds one ≡ false) out → (condition : ℕ) →
    holds condition ≡ true → not (among out condition) ≡ true
left_out holds [] all condition on = refl
left_out holds (one ∷ rest) all condition on =
    by_test (nat_eq condition one) refl (left_out holds rest all.1 condition on)
  where
    by_test : (z : Bool) → nat_eq condition one ≡ z → not (among rest condition) ≡ true →
        not (nat_eq condition one || among rest condition) ≡ true
    by_test true same later = absurd (true≢false (sym on ∙ (ap holds (eqb-true condition one same) ∙ all.0)))
    by_test false other later = rw other later

without_these : (holds : ℕ → Bool) (out : List ℕ) → AllByRecursion (λ one. holds one ≡ false) out →
    variable_count holds ≤ variable_count (λ condition. not (among out condition))
without_these holds out all = counts_rise holds (λ condition. not (among out condition)) (left_out holds out all)

-- how many these are
pub record CountsOfSome : Type 0 where
  pub pulse : variable_count (among (PULSE_TABLE ∷ [])) ≡ 79
  pub effects : variable_count (among (EFFECTS ∷ [])) ≡ 63
  pub effects_timer : variable_count (among (EFFECTS ∷ OWN_TIMER ∷ [])) ≡ 78
  pub timer : variable_count (among (OWN_TIMER ∷ [])) ≡ 62

counts_of_some : CountsOfSome
unfolding voice_rows shared_rows asks has_byte voice_labels other_labels free_places funk_place variable_count
counts_of_some = record { pulse = refl; effects = refl; effects_timer = refl; timer = refl }

-- where no effect runs there is no command of the wave table, and none that slides
abbrev silent : List ℕ
silent = EFFECTS ∷ WAVE_COMMAND ∷ ROW_SLIDE ∷ []

pub record CountsOfOthers : Type 0 where
  pub pulse : variable_count (λ condition. not (among (PULSE_TABLE ∷ []) condition)) ≡ 107
  pub timer : variable_count (λ condition. not (among (OWN_TIMER ∷ []) condition)) ≡ 110
  pub volume_timer : variable_count (λ condition. not (among (SET_VOLUME ∷ OWN_TIMER ∷ []) condition)) ≡ 109
  pub effects : variable_count (λ condition. not (among silent condition)) ≡ 105
  pub effects_timer : variable_count (λ condition. not (among (OWN_TIMER ∷ silent) condition)) ≡ 103

counts_of_others : CountsOfOthers
unfolding voice_rows shared_rows asks has_byte voice_labels other_labels free_places funk_place variable_count
counts_of_others = record { pulse = refl; timer = refl; volume_timer = refl; effects = refl; effects_timer = refl }

last_two : (a b c d v w r : Bool) → (a || b || c || d || v || w || r) ≡ false → (w ≡ false) × (r ≡ false)
last_two a b c d v w r none =
    let last = or_parts (a || b || c || d || v || w) r none in
    let one = or_parts (a || b || c || d || v) w last.0 in (one.1, last.1)

are_silent : (asked : ℕ) (o : Options) → holds_in (kept_set asked o) EFFECTS ≡ false →
    AllByRecursion (λ one. holds_in (kept_set asked o) one ≡ false) silent
are_silent asked o off =
    let none = last_two (is_in asked PORTA_UP) (is_in asked PORTA_DOWN) (is_in asked TONE_PORTA) (is_in asked TIE_NOTE)
    (asks_vibrato asked) (is_in asked WAVE_COMMAND) (is_in asked ROW_SLIDE)
    (sym (sets_are_exact asked o EFFECTS) ∙ off) in
    (off, (sets_are_exact asked o WAVE_COMMAND ∙ none.0, (sets_are_exact asked o ROW_SLIDE ∙ none.1, tt)))

-- ---- so it is within these

-- with what stands in the place of others there are at least so many
at_least : (holds : ℕ → Bool) (pulse volume effects timer wave : Bool) → holds PULSE_TABLE ≡ pulse →
    holds EFFECTS ≡ effects → holds OWN_TIMER ≡ timer →
    67 ≤ variable_count holds + in_place_of pulse volume effects timer wave
at_least holds true volume effects timer wave p e t =
    omega (arith, counts_of_some.pulse, with_these holds (PULSE_TABLE ∷ []) (p, tt))
at_least holds false volume true true wave p e t =
    omega (arith, counts_of_some.effects_timer, with_these holds (EFFECTS ∷ OWN_TIMER ∷ []) (e, (t, tt)))
at_least holds false volume true false wave p e t =
    omega (arith, counts_of_some.effects, with_these holds (EFFECTS ∷ []) (e, tt))
at_least holds false volume false true wave p e t =
    omega (arith, counts_of_some.timer, with_these holds (OWN_TIMER ∷ []) (t, tt))
at_least holds false volume false false wave p e t = omega (arith, counts_are_no_fewer holds)

no_more : (n : ℕ) (z : Bool) → (if z then 0 else n) ≤ n
no_more n true = omega arith
no_more n false = omega arith

-- and at most so many
at_most : (asked : ℕ) (o : Options) (pulse volume effects timer wave : Bool) →
    holds_in (kept_set asked o) PULSE_TABLE ≡ pulse → holds_in (kept_set asked o) SET_VOLUME ≡ volume →
    holds_in (kept_set asked o) EFFECTS ≡ effects → holds_in (kept_set asked o) OWN_TIMER ≡ timer →
    variable_count (holds_in (kept_set asked o)) + in_place_of pulse volume effects timer wave ≤ 120
at_most asked o pulse volume false true wave p v e t =
    omega (
      arith,
      counts_of_others.effects,
      without_these (holds_in (kept_set asked o)) silent (are_silent asked o e),
      no_more 2 pulse,
      no_more 2 volume,
      no_more 3 wave,
    )
at_most asked o pulse volume false false wave p v e t =
    omega (
      arith,
      counts_of_others.effects_timer,
      without_these (holds_in (kept_set asked o)) (OWN_TIMER ∷ silent) (t, are_silent asked o e),
      no_more 2 pulse,
      no_more 2 volume,
      no_more 3 wave,
    )
at_most asked o false volume true timer wave p v e t =
    omega (
      arith,
      counts_of_others.pulse,
      without_these (holds_in (kept_set asked o)) (PULSE_TABLE ∷ []) (p, tt),
      no_more 2 volume,
      no_more 6 timer,
      no_more 3 wave,
    )
at_most asked o true volume true true wave p v e t =
    omega (arith, (counts_are_few (holds_in (kept_set asked o))).1, no_more 2 volume, no_more 3 wave)
at_most asked o true true true false wave p v e t =
    omega (
      arith,
      counts_of_others.timer,
      without_these (holds_in (kept_set asked o)) (OWN_TIMER ∷ []) (t, tt),
      no_more 3 wave,
    )
at_most asked o true false true false wave p v e t =
    omega (
      arith,
      counts_of_others.volume_timer,
      without_these (holds_in (kept_set asked o)) (SET_VOLUME ∷ OWN_TIMER ∷ []) (v, (t, tt)),
      no_more 3 wave,
    )

pub rest_is_bounded : RestIsBounded
rest_is_bounded asked o =
    let holds = holds_in (kept_set asked o) in
    let exact = rest_is_exact asked o in
    let least = at_least holds (holds PULSE_TABLE) (holds SET_VOLUME) (holds EFFECTS) (holds OWN_TIMER)
    (holds OWN_WAVE) refl refl refl in
    let most = at_most asked o (holds PULSE_TABLE) (holds SET_VOLUME) (holds EFFECTS) (holds OWN_TIMER)
    (holds OWN_WAVE) refl refl refl refl in
    record {
      from = from _ (variable_count holds) _ _ exact least;
      to = to _ (variable_count holds) _ _ exact most
          (no_more 6 (holds FUNK_TEMPO || holds VOICE_TWO || holds VOICE_THREE));
    }
  where
    from : (rest variables more silence : ℕ) → rest ≡ 376 + variables + (more + silence) → 67 ≤ variables + more →
        443 ≤ rest
    from rest variables more silence is least = omega (arith, is, least)

    to : (rest variables more silence : ℕ) → rest ≡ 376 + variables + (more + silence) → variables + more ≤ 120 →
        silence ≤ 6 → rest ≤ 502
    to rest variables more silence is most few = omega (arith, is, most, few)
