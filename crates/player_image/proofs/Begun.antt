-- Variables that begin alike are the same bytes: each of them is one of a voice's or one of all voices.
use Rattle.std.proofs.Common.{◌≡◌, ℕ, zero, suc, ◌+◌, ◌-◌, ◌*◌, ◌<◌, ◌==◌, ◌&&◌, ◌||◌, nat_le, Bool}
use Rattle.std.proofs.Common.{true, false, List, [], ◌∷◌, length, slice_index, inl, inr, refl, sym, ◌∙◌, subst, arith}
use Rattle.std.proofs.lemmas.Bool.{or_cases, and_parts, cases_lt, leb-true, eqb-true}
use Rattle.std.proofs.lemmas.List.{ext_get_or}
use Rattle.play_model.specs.State.{Common}
use Rattle.player_memory.specs.declared.labels.TheConstants.{VARIABLES, LENT, KEPT_COMMAND, KEPT_PARAM}
use Rattle.player_memory.specs.declared.labels.TheConstants.{PATTERN_LOW, PATTERN_HIGH}
use Rattle.player_memory.specs.declared.variables.Kept.{Kept}
use Rattle.player_memory.specs.declared.variables.Kept.TheVariants.{Always, Where, Else}
use Rattle.player_memory.specs.declared.variables.VoiceByte.{VoiceByte}
use Rattle.player_memory.specs.declared.variables.CommonByte.{CommonByte}
use Rattle.player_memory.specs.declared.variables.TheConstants.{VOICE_BYTES, COMMON_BYTES, FIRST_SONG_BYTES}
use Rattle.player_memory.specs.Variables.{stands}
use Rattle.player_memory.specs.Playing.{own_at, AreSame}
use Rattle.player_memory.specs.Starting.{common_with, VoiceRowsBegin, SongRowsBegin, CommonRowsBegin, AreZero, Begins}
use Rattle.player_image.specs.Images.{numbered, HaveNoPattern}

-- ---- what begins by the same rows is the same

abbrev labels_of : {X Y : Type 0} → List (ℕ × X × Y) → List ℕ
labels_of [] = []
labels_of (row ∷ rows) = row.0 ∷ labels_of rows

-- where all lines are kept each byte holds something
all_stand : (kept : Kept) → stands numbered.holds kept ≡ true
all_stand Always = refl
all_stand (Where condition) = refl
all_stand (Else condition number) = refl

voice_same : (rows : List (ℕ × VoiceByte × Kept)) (tempo : ℕ) (one two : ℕ → ℕ) →
    VoiceRowsBegin numbered.holds rows tempo one → VoiceRowsBegin numbered.holds rows tempo two →
    AreSame (labels_of rows) one two
voice_same [] tempo one two here there = tt
voice_same (row ∷ rows) tempo one two here there =
    let on = all_stand row.2 in
    (here.0 on ∙ sym (there.0 on), voice_same rows tempo one two here.1 there.1)

song_same : (labels : List ℕ) (address : ℕ) (one two : ℕ → ℕ) → SongRowsBegin labels address one →
    SongRowsBegin labels address two → AreSame labels one two
song_same [] address one two here there = tt
song_same (label ∷ labels) address one two here there =
    (here.0 ∙ sym there.0, song_same labels address one two here.1 there.1)

common_same : (rows : List (ℕ × CommonByte × Kept)) (c : Common) (one two : ℕ → ℕ) →
    CommonRowsBegin numbered.holds rows c one → CommonRowsBegin numbered.holds rows c two →
    AreSame (labels_of rows) one two
common_same [] c one two here there = tt
common_same (row ∷ rows) c one two here there =
    let on = all_stand row.2 in
    (here.0 on ∙ sym (there.0 on), common_same rows c one two here.1 there.1)

zeros_same : (labels : List ℕ) (one two : ℕ → ℕ) → AreZero labels one → AreZero labels two → AreSame labels one two
zeros_same [] one two here there = tt
zeros_same (label ∷ labels) one two here there = (here.0 ∙ sym there.0, zeros_same labels one two here.1 there.1)

-- ---- a label among those of the rows

abbrev is_among : ℕ → List ℕ → Bool
is_among label [] = false
is_among label (other ∷ others) = label == other || is_among label others

among : (label : ℕ) (labels : List ℕ) (one two : ℕ → ℕ) → is_among label labels ≡ true → AreSame labels one two →
    one label ≡ two label
among label [] one two is same = absurd (cc)
among label (other ∷ others) one two is same =
    elim (or_cases (label == other) (is_among label others) is) [
      | inl this ↦ subst (λ l. one l ≡ two l) (sym (eqb-true label other this)) same.0
      | inr later ↦ among label others one two later same.1
    ]

-- the bytes of its pattern's place
abbrev unplayed : List ℕ
unplayed = PATTERN_LOW ∷ PATTERN_HIGH ∷ []

abbrev is_in_voice : ℕ → Bool
is_in_voice label =
    is_among label (labels_of VOICE_BYTES) || (is_among label FIRST_SONG_BYTES || is_among label unplayed)

abbrev is_of_voice : ℕ → ℕ → Bool
is_of_voice voice label = nat_le (7 * voice) label && is_in_voice (label - 7 * voice)

abbrev is_of_all : ℕ → Bool
is_of_all label =
    is_among label (labels_of COMMON_BYTES) || is_among label (LENT ∷ KEPT_COMMAND ∷ KEPT_PARAM ∷ [])

abbrev is_begun : ℕ → Bool
is_begun label = (is_of_voice 0 label || is_of_voice 1 label) || (is_of_voice 2 label || is_of_all label)

-- ---- each label below so many

abbrev all_below : ℕ → (ℕ → Bool) → Bool
all_below zero test = true
all_below (suc n) test = test n && all_below n test

each_below : (n label : ℕ) (test : ℕ → Bool) → all_below n test ≡ true → label < n → test label ≡ true
each_below zero label test all below = absurd (omega (arith, below))
each_below (suc n) label test all below =
    let both = and_parts (test n) (all_below n test) all in
    elim (cases_lt label n) [
      | inl low ↦ each_below n label test both.1 low
      | inr high ↦ let is : n ≡ label = omega (arith, below, high) in subst (λ l. test l ≡ true) is both.0
    ]

-- ---- all variables

module _ (tempo funk : ℕ) (address : ℕ → ℕ) (one two : ℕ → ℕ) (here : Begins numbered tempo funk address one)
    (there : Begins numbered tempo funk address two) (no_pattern : HaveNoPattern one) (none : HaveNoPattern two) where
  of_voice : (voice label : ℕ) → voice < 3 → is_of_voice voice label ≡ true → one label ≡ two label
  of_voice voice label few is =
      let both = and_parts (nat_le (7 * voice) label) (is_in_voice (label - 7 * voice)) is in
      let from = leb-true (7 * voice) label both.0 in
      let mine = here.voices voice few in
      let other = there.voices voice few in
      let back : label - 7 * voice + 7 * voice ≡ label = omega (arith, from) in
      subst (λ l. one l ≡ two l) back
      (elim (or_cases (is_among (label - 7 * voice) (labels_of VOICE_BYTES))
      (is_among (label - 7 * voice) FIRST_SONG_BYTES || is_among (label - 7 * voice) unplayed) both.1) [
        | inl state ↦
            among (label - 7 * voice) (labels_of VOICE_BYTES) (own_at numbered one voice)
            (own_at numbered two voice) state
            (voice_same VOICE_BYTES tempo (own_at numbered one voice) (own_at numbered two voice) mine.state other.state)
        | inr in_song ↦
            elim (or_cases (is_among (label - 7 * voice) FIRST_SONG_BYTES) (is_among (label - 7 * voice) unplayed) in_song) [
              | inl song ↦
                  among (label - 7 * voice) FIRST_SONG_BYTES (own_at numbered one voice) (own_at numbered two voice) song
                  (song_same FIRST_SONG_BYTES (address voice) (own_at numbered one voice) (own_at numbered two voice)
                  mine.song other.song)
              | inr pattern ↦
                  among (label - 7 * voice) unplayed (own_at numbered one voice) (own_at numbered two voice) pattern
                  (zeros_same unplayed (own_at numbered one voice) (own_at numbered two voice) (no_pattern voice few)
                  (none voice few))
            ]
      ])

  of_all : (label : ℕ) → is_of_all label ≡ true → one label ≡ two label
  of_all label is =
      elim (or_cases (is_among label (labels_of COMMON_BYTES))
      (is_among label (LENT ∷ KEPT_COMMAND ∷ KEPT_PARAM ∷ [])) is) [
        | inl common ↦
            among label (labels_of COMMON_BYTES) one two common
            (common_same COMMON_BYTES (common_with tempo funk) one two here.common there.common)
        | inr handed ↦
            among label (LENT ∷ KEPT_COMMAND ∷ KEPT_PARAM ∷ []) one two handed
            (zeros_same (LENT ∷ KEPT_COMMAND ∷ KEPT_PARAM ∷ []) one two here.handed there.handed)
      ]

  same_byte : (label : ℕ) → label < VARIABLES → one label ≡ two label
  same_byte label below =
      elim (or_cases (is_of_voice 0 label || is_of_voice 1 label) (is_of_voice 2 label || is_of_all label)
      (each_below VARIABLES label is_begun refl below)) [
        | inl first ↦
            elim (or_cases (is_of_voice 0 label) (is_of_voice 1 label) first) [
              | inl zeroth ↦ of_voice 0 label (omega arith) zeroth
              | inr next ↦ of_voice 1 label (omega arith) next
            ]
        | inr last ↦
            elim (or_cases (is_of_voice 2 label) (is_of_all label) last) [
              | inl third ↦ of_voice 2 label (omega arith) third
              | inr shared ↦ of_all label shared
            ]
      ]

pub variables_are_one : (tempo funk : ℕ) (address : ℕ → ℕ) (one two : List ℕ) → length one ≡ VARIABLES →
    length two ≡ VARIABLES → Begins numbered tempo funk address (slice_index one) →
    Begins numbered tempo funk address (slice_index two) → HaveNoPattern (slice_index one) →
    HaveNoPattern (slice_index two) → one ≡ two
variables_are_one tempo funk address one two all both here there no_pattern none =
    ext_get_or 0 one two (all ∙ sym both)
    (λ label below.
    same_byte tempo funk address (slice_index one) (slice_index two) here there no_pattern none label
    (omega (arith, below, all)))
