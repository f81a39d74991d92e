-- Variables that begin so in a list begin so in each memory that has them at the places of their labels, and zeros for
-- those that have no byte.
use Rattle.std.proofs.Common.{◌≡◌, ℕ, ◌+◌, ◌*◌, ◌<◌, ◌&&◌, ◌||◌, Bool, true, false, List, [], ◌∷◌}
use Rattle.std.proofs.Common.{nat_eq, nat_lt, inl, inr, refl, sym, ap, ◌∙◌, arith}
use Rattle.std.proofs.lemmas.Bool.{and_parts, or_cases, both_ways, eqb-true, ltb-true}
use Rattle.play_model.specs.State.{Common, start_voice}
use Rattle.scopes.specs.Desk.{Layout}
use Rattle.narrow_runs.specs.Named.{any_holds, stands_under, is_one_of}
use Rattle.player_memory.specs.declared.labels.TheConstants.{VARIABLES, LENT, KEPT_COMMAND, KEPT_PARAM}
use Rattle.player_memory.specs.declared.variables.Kept.{Kept}
use Rattle.player_memory.specs.declared.variables.Kept.TheVariants.{Always, Where, Else}
use Rattle.player_memory.specs.declared.variables.VoiceByte.{VoiceByte}
use Rattle.player_memory.specs.declared.variables.CommonByte.{CommonByte}
use Rattle.player_memory.specs.declared.variables.TheConstants.{VOICE_BYTES, COMMON_BYTES, FIRST_SONG_BYTES}
use Rattle.player_memory.specs.Labels.{is_own}
use Rattle.player_memory.specs.Variables.{stands, voice_byte, common_byte}
use Rattle.player_memory.specs.Playing.{own_at, shared_at}
use Rattle.player_memory.specs.Starting.{common_with, song_byte, VoiceRowsBegin, SongRowsBegin, CommonRowsBegin}
use Rattle.player_memory.specs.Starting.{Begins}
use Rattle.variable_places.specs.Places.{voice_rows, shared_rows, asks, has_byte}
use Rattle.variable_places.proofs.Laws.{voices_are_alike}
use Rattle.player_image.specs.Images.{numbered}

-- ---- a byte that isn't there holds nothing, or begins with 0

abbrev is_nil : List ℕ → Bool
is_nil [] = true
is_nil (condition ∷ conditions) = false

-- its row says so: it is there where it holds something
abbrev row_is_there : ℕ → Kept → ℕ → Bool
row_is_there label Always value = is_nil (asks label) || nat_eq value 0
row_is_there label (Where condition) value = is_one_of (asks label) condition
row_is_there label (Else condition number) value = is_one_of (asks label) condition

one_holds : (holds : ℕ → Bool) (condition : ℕ) (conditions : List ℕ) → is_one_of conditions condition ≡ true →
    holds condition ≡ true → any_holds holds conditions ≡ true
one_holds holds condition [] is on = absurd (both_ways false refl is)
one_holds holds condition (first ∷ conditions) is on =
    elim (or_cases (nat_eq first condition) (is_one_of conditions condition) is) [
      | inl this ↦
          let here : holds first ≡ true = ap holds (eqb-true first condition this) ∙ on in
          rw here refl
      | inr later ↦ behind (holds first) (any_holds holds conditions) (one_holds holds condition conditions later on)
    ]
  where
    behind : (a b : Bool) → b ≡ true → (a || b) ≡ true
    behind true b e = refl
    behind false b e = e

stands_by_one : (holds : ℕ → Bool) (conditions : List ℕ) → any_holds holds conditions ≡ true →
    stands_under holds conditions ≡ true
stands_by_one holds [] any = refl
stands_by_one holds (condition ∷ conditions) any = any

stands_always : (holds : ℕ → Bool) (conditions : List ℕ) → is_nil conditions ≡ true →
    stands_under holds conditions ≡ true
stands_always holds [] none = refl
stands_always holds (condition ∷ conditions) none = absurd (both_ways false refl none)

absent_is_zero : (holds : ℕ → Bool) (label : ℕ) (kept : Kept) (value : ℕ) → row_is_there label kept value ≡ true →
    has_byte holds label ≡ false → stands holds kept ≡ true → value ≡ 0
unfolding has_byte
absent_is_zero holds label Always value there none on =
    elim (or_cases (is_nil (asks label)) (nat_eq value 0) there) [
      | inl always ↦ absurd (both_ways (stands_under holds (asks label)) none (stands_always holds (asks label) always))
      | inr is ↦ eqb-true value 0 is
    ]
absent_is_zero holds label (Where condition) value there none on =
    absurd
    (both_ways (stands_under holds (asks label)) none
    (stands_by_one holds (asks label) (one_holds holds condition (asks label) there on)))
absent_is_zero holds label (Else condition number) value there none on =
    absurd
    (both_ways (stands_under holds (asks label)) none
    (stands_by_one holds (asks label) (one_holds holds condition (asks label) there on)))

all_stand : (kept : Kept) → stands numbered.holds kept ≡ true
all_stand Always = refl
all_stand (Where condition) = refl
all_stand (Else condition number) = refl

-- ---- the rows say so

voices_there : List (ℕ × VoiceByte × Kept) → ℕ → Bool
voices_there [] tempo = true
voices_there (row ∷ rows) tempo =
    row_is_there row.0 row.2 (voice_byte row.1 start_voice tempo) && (is_own row.0 && voices_there rows tempo)

songs_there : List ℕ → ℕ → Bool
songs_there [] address = true
songs_there (label ∷ labels) address =
    row_is_there label Always (song_byte address label) && (is_own label && songs_there labels address)

commons_there : List (ℕ × CommonByte × Kept) → Common → Bool
commons_there [] c = true
commons_there (row ∷ rows) c =
    row_is_there row.0 row.2 (common_byte row.1 c) && (nat_lt row.0 VARIABLES && commons_there rows c)

voices_are_there : (tempo : ℕ) → voices_there VOICE_BYTES tempo ≡ true
unfolding voices_there asks voice_rows shared_rows
voices_are_there tempo = refl

songs_are_there : (address : ℕ) → songs_there FIRST_SONG_BYTES address ≡ true
unfolding songs_there asks voice_rows shared_rows
songs_are_there address = refl

commons_are_there : (tempo funk : ℕ) → commons_there COMMON_BYTES (common_with tempo funk) ≡ true
unfolding commons_there asks voice_rows shared_rows
commons_are_there tempo funk = refl

-- ---- from the list into memory

module _ (layout : Layout) (variables at : ℕ → ℕ)
    (own : (label : ℕ) → label < VARIABLES → has_byte layout.holds label ≡ true →
    at (layout.address label) ≡ variables label)
    (spare : (label : ℕ) → label < VARIABLES → has_byte layout.holds label ≡ false → at (layout.address label) ≡ 0) where
  -- one byte
  byte_begins : (label base value : ℕ) (kept : Kept) → label < VARIABLES →
      has_byte layout.holds label ≡ has_byte layout.holds base → row_is_there base kept value ≡ true →
      stands layout.holds kept ≡ true → variables label ≡ value → at (layout.address label) ≡ value
  byte_begins label base value kept few same there on is = by_case (has_byte layout.holds label) refl
    where
      by_case : (z : Bool) → has_byte layout.holds label ≡ z → at (layout.address label) ≡ value
      by_case true has = own label few has ∙ is
      by_case false none =
          spare label few none ∙ sym (absent_is_zero layout.holds base kept value there (sym same ∙ none) on)

  own_few : (voice label : ℕ) → voice < 3 → is_own label ≡ true → label + 7 * voice < VARIABLES
  own_few voice label few own =
      let small = ltb-true label 90 (and_parts (nat_lt label 90) _ own).0 in omega (arith, small, few)

  voice_begins : (voice : ℕ) → voice < 3 → (rows : List (ℕ × VoiceByte × Kept)) (tempo : ℕ) →
      voices_there rows tempo ≡ true → VoiceRowsBegin numbered.holds rows tempo (own_at numbered variables voice) →
      VoiceRowsBegin layout.holds rows tempo (own_at layout at voice)
  unfolding voices_there
  voice_begins voice few [] tempo there begin = tt
  voice_begins voice few (row ∷ rows) tempo there begin =
      let parts = and_parts _ _ there in
      let both = and_parts (is_own row.0) (voices_there rows tempo) parts.1 in (
        λ on.
            byte_begins (row.0 + 7 * voice) row.0 _ row.2 (own_few voice row.0 few both.0)
            (voices_are_alike layout.holds row.0 voice both.0 few) parts.0 on (begin.0 (all_stand row.2)),
        voice_begins voice few rows tempo both.1 begin.1,
      )

  song_begins : (voice : ℕ) → voice < 3 → (labels : List ℕ) (address : ℕ) → songs_there labels address ≡ true →
      SongRowsBegin labels address (own_at numbered variables voice) →
      SongRowsBegin labels address (own_at layout at voice)
  unfolding songs_there
  song_begins voice few [] address there begin = tt
  song_begins voice few (label ∷ labels) address there begin =
      let parts = and_parts _ _ there in
      let both = and_parts (is_own label) (songs_there labels address) parts.1 in (
        byte_begins (label + 7 * voice) label _ Always (own_few voice label few both.0)
            (voices_are_alike layout.holds label voice both.0 few) parts.0 refl begin.0,
        song_begins voice few labels address both.1 begin.1,
      )

  common_begins : (rows : List (ℕ × CommonByte × Kept)) (c : Common) → commons_there rows c ≡ true →
      CommonRowsBegin numbered.holds rows c variables → CommonRowsBegin layout.holds rows c (shared_at layout at)
  unfolding commons_there
  common_begins [] c there begin = tt
  common_begins (row ∷ rows) c there begin =
      let parts = and_parts _ _ there in
      let both = and_parts (nat_lt row.0 VARIABLES) (commons_there rows c) parts.1 in (
        λ on.
            byte_begins row.0 row.0 _ row.2 (ltb-true row.0 VARIABLES both.0) refl parts.0 on
            (begin.0 (all_stand row.2)),
        common_begins rows c both.1 begin.1,
      )

  zero_begins : (label : ℕ) → label < VARIABLES → variables label ≡ 0 → at (layout.address label) ≡ 0
  zero_begins label few zero_is = by_case (has_byte layout.holds label) refl
    where
      by_case : (z : Bool) → has_byte layout.holds label ≡ z → at (layout.address label) ≡ 0
      by_case true has = own label few has ∙ zero_is
      by_case false none = spare label few none

  pub begins_moved : (tempo funk : ℕ) (address : ℕ → ℕ) → Begins numbered tempo funk address variables →
      Begins layout tempo funk address at
  begins_moved tempo funk address begins = record {
    voices = λ voice few.
        let mine = begins.voices voice few in record {
          state = voice_begins voice few VOICE_BYTES tempo (voices_are_there tempo) mine.state;
          song = song_begins voice few FIRST_SONG_BYTES (address voice) (songs_are_there (address voice)) mine.song;
        };
    common = common_begins COMMON_BYTES (common_with tempo funk) (commons_are_there tempo funk) begins.common;
    handed = (
      zero_begins LENT (omega arith) begins.handed.0,
      (
        zero_begins KEPT_COMMAND (omega arith) begins.handed.1.0,
        (zero_begins KEPT_PARAM (omega arith) begins.handed.1.1.0, tt),
      ),
    );
  }
