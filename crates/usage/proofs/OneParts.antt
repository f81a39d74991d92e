-- A song has one count of each kind of used parts, one set of features and one of facts.
use Rattle.std.proofs.Common.{◌≡◌, ℕ, suc, ◌<◌, ◌↔◌, Bool, true, false, List, [], ◌∷◌, length}
use Rattle.std.proofs.Common.{get_or, refl, sym, ◌∙◌, ap, inl, inr, arith}
use Rattle.std.specs.Prelude.{IsBitSet}
use Rattle.std.specs.Int.{bit_at}
use Rattle.std.specs.List.{filter}
use Rattle.std.proofs.lemmas.List.Sums.{length-filter}
use Rattle.std.proofs.lemmas.Bool.{cases_lt}
use Rattle.std.proofs.lemmas.Nat.Bits.{bit_at-lt, bit_at_above, same_from_bits}
use Rattle.song_model.specs.declared.features.Feature.{Feature}
use Rattle.song_model.specs.declared.features.Feature.TheVariants.{Transpose}
use Rattle.song_model.specs.declared.songs.Song.{Song}
use Rattle.song_model.specs.Feature.{bit_of}
use Rattle.play_model.specs.Features.{AreFeatures}
use Rattle.song_facts.specs.declared.facts.Fact.{Fact}
use Rattle.song_facts.specs.declared.facts.Facts.{Facts}
use Rattle.song_facts.specs.declared.facts.Fact.TheVariants.{RowTone, RowSlide, RowOnce, FirstMask, Legato, NoHardRestart}
use Rattle.song_facts.specs.declared.facts.Fact.TheVariants.{WaveDelay, GateNote, NoteVibrato, VibratoDelay, NotePulse, NoteFilter}
use Rattle.song_facts.specs.declared.facts.Fact.TheVariants.{VoiceTempo, CommonTempo, FunkTurns, FunkChoice}
use Rattle.song_facts.specs.declared.facts.Fact.TheVariants.{OwnTimer, OwnWave, Subtunes, VoiceTwo, VoiceThree, FirstHolds}
use Rattle.song_facts.specs.Facts.{is_among, AreFacts}
use Rattle.usage.specs.declared.features.TheConstants.{FEATURES}
use Rattle.usage.specs.Marks.{IsMarked, count_of, AreMarks}
use Rattle.usage.specs.PartLaws.{PartsAreTheSongs}
use Rattle.usage.proofs.SetBits.{bit_set, bit_is_set, place_is_bit}

-- ---- counts

-- the same numbers are marked
pub record MarksAlike (a b : List Bool) : Type 0 where
  pub each : (n : ℕ) → IsMarked a n ↔ IsMarked b n

tails_alike : {x y : Bool} {xs ys : List Bool} → MarksAlike (x ∷ xs) (y ∷ ys) → MarksAlike xs ys
tails_alike m = record { each = λ n. m.each (suc n) }

-- the marks that are set
kept : List Bool → List Bool
kept xs = filter (λ marked. marked) xs

no_marks : (xs : List Bool) → ((n : ℕ) → IsMarked xs n → ⊥) → length (kept xs) ≡ 0
unfolding kept
no_marks [] none = refl
no_marks (true ∷ xs) none = absurd (none 0 refl)
no_marks (false ∷ xs) none = no_marks xs (λ n m. none (suc n) m)

one_length : (xs ys : List Bool) → MarksAlike xs ys → length (kept xs) ≡ length (kept ys)
unfolding kept
one_length [] ys m = sym (no_marks ys (λ n h. let never = (m.each n).1 h in absurd (cc)))
one_length (x ∷ xs) [] m = no_marks (x ∷ xs) (λ n h. let never = (m.each n).0 h in absurd (cc))
one_length (true ∷ xs) (true ∷ ys) m = ap suc (one_length xs ys (tails_alike m))
one_length (false ∷ xs) (false ∷ ys) m = one_length xs ys (tails_alike m)
one_length (true ∷ xs) (false ∷ ys) m = let never : IsMarked (false ∷ ys) 0 = (m.each 0).0 refl in absurd (cc)
one_length (false ∷ xs) (true ∷ ys) m = let never : IsMarked (false ∷ xs) 0 = (m.each 0).1 refl in absurd (cc)

one_count : (xs ys : List Bool) → MarksAlike xs ys → count_of xs ≡ count_of ys
unfolding kept
one_count xs ys m = sym (length-filter (λ marked. marked) xs) ∙ one_length xs ys m ∙ length-filter (λ marked. marked) ys

alike : {P : ℕ → Type 0} {a b : List Bool} → AreMarks P a → AreMarks P b → count_of a ≡ count_of b
alike {P} {a} {b} m k = one_count a b (record {
  each = λ n. (
    λ (h : IsMarked a n). (k.each n).1 ((m.each n).0 h),
    λ (h : IsMarked b n).
        (m.each n).1 ((k.each n).0 h),
  );
})

-- ---- features

one_bit : (song : Song) (a b i : ℕ) → AreFeatures song a → AreFeatures song b → i < 24 → bit_at a i ≡ 1 → bit_at b i ≡ 1
one_bit song a b i f g low is =
    let feature : Feature = get_or FEATURES i Transpose in
    let place : bit_of feature ≡ i = place_is_bit i Transpose low in
    let set : IsBitSet a (bit_of feature) = rw place (bit_set a i is) in
    bit_is_set b i (rw place at ((g.each feature).1 ((f.each feature).0 set)))

same_bit : (song : Song) (a b i : ℕ) → AreFeatures song a → AreFeatures song b → bit_at a i ≡ bit_at b i
same_bit song a b i f g = elim (cases_lt i 24) [
  | inl low ↦ both (bit_at-lt a i) (bit_at-lt b i) (one_bit song a b i f g low) (one_bit song b a i g f low)
  | inr high ↦ bit_at_above a 24 i f.small high ∙ sym (bit_at_above b 24 i g.small high)
]
  where
    both : {x y : ℕ} → x < 2 → y < 2 → (x ≡ 1 → y ≡ 1) → (y ≡ 1 → x ≡ 1) → x ≡ y
    both {x} {y} p q to from = elim (cases_lt x 1) [
      | inl none ↦ (elim (cases_lt y 1) [
        | inl zero_too ↦ omega arith
        | inr one ↦ absurd
            (let e = from (omega arith) in omega arith)
      ])
      | inr one ↦ (let e = to (omega arith) in omega arith)
    ]

pub one_features : (song : Song) (a b : ℕ) → AreFeatures song a → AreFeatures song b → a ≡ b
one_features song a b f g = same_from_bits a b (λ i. same_bit song a b i f g)

-- ---- facts

-- two answers that are yes in the same cases
same_answer : (x y : Bool) → (x ≡ true → y ≡ true) → (y ≡ true → x ≡ true) → x ≡ y
same_answer true y to from = sym (to refl)
same_answer false true to from = from refl
same_answer false false to from = refl

-- the facts with these answers
facts_with : (has : Fact → Bool) → Facts
facts_with has = record {
  row_tone = has RowTone;
  row_slide = has RowSlide;
  row_once = has RowOnce;
  first_mask = has FirstMask;
  legato = has Legato;
  no_hard_restart = has NoHardRestart;
  wave_delay = has WaveDelay;
  gate_note = has GateNote;
  note_vibrato = has NoteVibrato;
  vibrato_delay = has VibratoDelay;
  note_pulse = has NotePulse;
  note_filter = has NoteFilter;
  voice_tempo = has VoiceTempo;
  common_tempo = has CommonTempo;
  funk_turns = has FunkTurns;
  funk_choice = has FunkChoice;
  own_timer = has OwnTimer;
  own_wave = has OwnWave;
  subtunes = has Subtunes;
  voice_two = has VoiceTwo;
  voice_three = has VoiceThree;
  first_holds = has FirstHolds;
}

-- each is had in both or in neither
same_fact : (song : Song) (a b : Facts) → AreFacts song a → AreFacts song b → (fact : Fact) →
    is_among a fact ≡ is_among b fact
same_fact song a b f g fact =
    same_answer (is_among a fact) (is_among b fact) (λ e. (g.each fact).1 ((f.each fact).0 e))
    (λ e. (f.each fact).1 ((g.each fact).0 e))

-- facts are their answers
facts_of : (has : Fact → Bool) (f : Facts) → ((fact : Fact) → has fact ≡ is_among f fact) → facts_with has ≡ f
unfolding facts_with
facts_of has f same =
    rw (
      same RowTone,
      same RowSlide,
      same RowOnce,
      same FirstMask,
      same Legato,
      same NoHardRestart,
      same WaveDelay,
      same GateNote,
      same NoteVibrato,
      same VibratoDelay,
      same NotePulse,
      same NoteFilter,
      same VoiceTempo,
      same CommonTempo,
      same FunkTurns,
      same FunkChoice,
      same OwnTimer,
      same OwnWave,
      same Subtunes,
      same VoiceTwo,
      same VoiceThree,
      same FirstHolds,
    ) refl

pub one_facts : (song : Song) (a b : Facts) → AreFacts song a → AreFacts song b → a ≡ b
unfolding facts_with
one_facts song a b f g = facts_of (is_among a) b (same_fact song a b f g)

pub parts_are_the_songs_lem : PartsAreTheSongs
parts_are_the_songs_lem song a b p q = record {
  patterns = alike p.patterns q.patterns;
  instruments = alike p.instruments q.instruments;
  wave = alike p.wave q.wave;
  pulse = alike p.pulse q.pulse;
  filter = alike p.filter q.filter;
  speed = alike p.speed q.speed;
  features = one_features song a.features.0 b.features.0 p.features q.features;
  facts = one_facts song a.facts b.facts p.facts q.facts;
}
