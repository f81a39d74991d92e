-- A layout with the set of a song and of options keeps their lines.
use Rattle.std.proofs.Common.{◌≡◌, ℕ, ◌<◌, Bool, true, false, ◌||◌, nat_lt, refl, sym, ap, ◌∙◌, arith}
use Rattle.std.proofs.Common.{IsBitSet}
use Rattle.std.specs.Int.{bit_at}
use Rattle.std.proofs.Math.Bool.{or_assoc}
use Rattle.std.proofs.lemmas.Bool.{eq-eqb, lt-ltb}
use Rattle.std.proofs.lemmas.Nat.{bit_set_by_shift}
use Rattle.std.proofs.lemmas.Nat.Bits.{shr_and_one}
use Rattle.song_model.specs.declared.features.Feature.{Feature}
use Rattle.song_model.specs.declared.features.Feature.TheVariants.{Transpose, Repeat, PortaUp, PortaDown, TonePorta}
use Rattle.song_model.specs.declared.features.Feature.TheVariants.{TieNote, Vibrato, InstrumentVibrato, NoteDependent}
use Rattle.song_model.specs.declared.features.Feature.TheVariants.{SetAd, SetSr, SetWave}
use Rattle.song_model.specs.declared.features.Feature.TheVariants.{SetWavePointer, PulseTable, SetPulsePointer}
use Rattle.song_model.specs.declared.features.Feature.TheVariants.{FilterTable, SetFilterPointer, FilterControl, Cutoff}
use Rattle.song_model.specs.declared.features.Feature.TheVariants.{Volume, FunkTempo, SetTempo, WaveTable, WaveCommand}
use Rattle.song_model.specs.Feature.{bit_of}
use Rattle.song_facts.specs.declared.facts.Fact.{Fact}
use Rattle.song_facts.specs.declared.facts.Fact.TheVariants.{RowTone, RowSlide, RowOnce, FirstMask, Legato}
use Rattle.song_facts.specs.declared.facts.Fact.TheVariants.{NoHardRestart}
use Rattle.song_facts.specs.declared.facts.Fact.TheVariants.{WaveDelay, GateNote, NoteVibrato, VibratoDelay, NotePulse}
use Rattle.song_facts.specs.declared.facts.Fact.TheVariants.{NoteFilter}
use Rattle.song_facts.specs.declared.facts.Fact.TheVariants.{VoiceTempo, CommonTempo, FunkTurns, FunkChoice}
use Rattle.song_facts.specs.declared.facts.Fact.TheVariants.{OwnTimer, OwnWave, Subtunes, VoiceTwo, VoiceThree}
use Rattle.song_facts.specs.declared.facts.Fact.TheVariants.{FirstHolds}
use Rattle.song_facts.specs.declared.facts.Facts.{Facts}
use Rattle.song_facts.specs.Facts.{is_among}
use Rattle.play_model.specs.declared.options.Options.{Options}
use Rattle.scopes.specs.Desk.{Layout}
use Rattle.slide_code.specs.SlideBlock.{KeepsCommon}
use Rattle.player_memory.specs.FactLines.{fact_condition, KeepsShared}
use Rattle.player_memory.specs.declared.conditions.TheConstants.{ROW_TONE, ROW_SLIDE, ROW_ONCE, FIRST_MASK, LEGATO}
use Rattle.player_memory.specs.declared.conditions.TheConstants.{NO_HARD_RESTART, WAVE_DELAY, GATE_NOTE, ROW_COMMAND}
use Rattle.player_memory.specs.declared.conditions.TheConstants.{NOTE_VIBRATO, VIBRATO_DELAY, NOTE_PULSE, NOTE_FILTER}
use Rattle.player_memory.specs.declared.conditions.TheConstants.{VOICE_TEMPO, COMMON_TEMPO, FUNK_TURNS, FUNK_CHOICE}
use Rattle.player_memory.specs.declared.conditions.TheConstants.{OWN_TIMER, OWN_WAVE, SUBTUNES, VOICE_TWO, VOICE_THREE}
use Rattle.player_memory.specs.declared.conditions.TheConstants.{SPECIAL_ROW, HELD_NOTE, WAVE_COMMAND, EFFECTS}
use Rattle.player_memory.specs.declared.conditions.TheConstants.{FILTER_USED, FIRST_HOLDS}
use Rattle.player_memory.specs.declared.conditions.TheConstants.{FILTER_TABLE, SET_FILTER_CONTROL, SET_CUTOFF}
use Rattle.kept_lines.specs.Asked.{is_in, asked}
use Rattle.kept_lines.specs.KeptLines.{keeps}
use Rattle.kept_lines.proofs.Laws.{sets_are_exact, asked_is_exact}
use Rattle.kept_blocks.specs.KeptBlocks.{SetsKeepTheirLines}

bit_in : (features bit : ℕ) → IsBitSet features bit → bit_at features bit ≡ 1
bit_in features bit set = sym (shr_and_one features bit) ∙ (bit_set_by_shift features bit).1 set

bit_few : (feature : Feature) → bit_of feature < 24
bit_few Transpose = omega arith
bit_few Repeat = omega arith
bit_few PortaUp = omega arith
bit_few PortaDown = omega arith
bit_few TonePorta = omega arith
bit_few TieNote = omega arith
bit_few Vibrato = omega arith
bit_few InstrumentVibrato = omega arith
bit_few NoteDependent = omega arith
bit_few SetAd = omega arith
bit_few SetSr = omega arith
bit_few SetWave = omega arith
bit_few SetWavePointer = omega arith
bit_few PulseTable = omega arith
bit_few SetPulsePointer = omega arith
bit_few FilterTable = omega arith
bit_few SetFilterPointer = omega arith
bit_few FilterControl = omega arith
bit_few Cutoff = omega arith
bit_few Volume = omega arith
bit_few FunkTempo = omega arith
bit_few SetTempo = omega arith
bit_few WaveTable = omega arith
bit_few WaveCommand = omega arith

-- the condition of a feature that is used holds
used : (features : ℕ) (facts : Facts) (options : Options) (feature : Feature) → IsBitSet features (bit_of feature) →
    keeps (asked features facts) options (bit_of feature) ≡ true
used features facts options feature set =
    let few = bit_few feature in
    let below : nat_lt (bit_of feature) 24 ≡ true = lt-ltb (bit_of feature) 24 few in
    rw (below, asked_is_exact features facts (bit_of feature), below)
    (eq-eqb (bit_at features (bit_of feature)) 1 (bit_in features (bit_of feature) set))

-- and that of a fact where the song has it, and only there
had : (features : ℕ) (facts : Facts) (options : Options) (fact : Fact) →
    keeps (asked features facts) options (fact_condition fact) ≡ is_among facts fact
had features facts options RowTone = asked_is_exact features facts ROW_TONE
had features facts options RowSlide = asked_is_exact features facts ROW_SLIDE
had features facts options RowOnce = asked_is_exact features facts ROW_ONCE
had features facts options FirstMask = asked_is_exact features facts FIRST_MASK
had features facts options Legato = asked_is_exact features facts LEGATO
had features facts options NoHardRestart = asked_is_exact features facts NO_HARD_RESTART
had features facts options WaveDelay = asked_is_exact features facts WAVE_DELAY
had features facts options GateNote = asked_is_exact features facts GATE_NOTE
had features facts options NoteVibrato = asked_is_exact features facts NOTE_VIBRATO
had features facts options VibratoDelay = asked_is_exact features facts VIBRATO_DELAY
had features facts options NotePulse = asked_is_exact features facts NOTE_PULSE
had features facts options NoteFilter = asked_is_exact features facts NOTE_FILTER
had features facts options VoiceTempo = asked_is_exact features facts VOICE_TEMPO
had features facts options CommonTempo = asked_is_exact features facts COMMON_TEMPO
had features facts options FunkTurns = asked_is_exact features facts FUNK_TURNS
had features facts options FunkChoice = asked_is_exact features facts FUNK_CHOICE
had features facts options OwnTimer = asked_is_exact features facts OWN_TIMER
had features facts options OwnWave = asked_is_exact features facts OWN_WAVE
had features facts options Subtunes = asked_is_exact features facts SUBTUNES
had features facts options VoiceTwo = asked_is_exact features facts VOICE_TWO
had features facts options VoiceThree = asked_is_exact features facts VOICE_THREE
had features facts options FirstHolds = asked_is_exact features facts FIRST_HOLDS

-- either of two
or_first : (z y : Bool) → z ≡ true → (z || y) ≡ true
or_first z y e = rw e refl

or_second : (z y : Bool) → y ≡ true → (z || y) ≡ true
or_second true y e = refl
or_second false y e = e

shared_of : (set : ℕ) (options : Options) (layout : Layout) →
    ((condition : ℕ) → layout.holds condition ≡ keeps set options condition) → KeepsShared layout
shared_of set options layout is = record {
  tone = λ on.
      is ROW_COMMAND
      ∙ or_first (is_in set ROW_TONE || is_in set ROW_SLIDE) (is_in set ROW_ONCE)
      (or_first (is_in set ROW_TONE) (is_in set ROW_SLIDE) (sym (is ROW_TONE) ∙ on));
  slide = λ on.
      is ROW_COMMAND
      ∙ or_first (is_in set ROW_TONE || is_in set ROW_SLIDE) (is_in set ROW_ONCE)
      (or_second (is_in set ROW_TONE) (is_in set ROW_SLIDE) (sym (is ROW_SLIDE) ∙ on));
  once = λ on.
      is ROW_COMMAND
      ∙ or_second (is_in set ROW_TONE || is_in set ROW_SLIDE) (is_in set ROW_ONCE) (sym (is ROW_ONCE) ∙ on);
  delay = λ on. is SPECIAL_ROW ∙ or_first (is_in set WAVE_DELAY) (is_in set WAVE_COMMAND) (sym (is WAVE_DELAY) ∙ on);
  command = λ on.
      is SPECIAL_ROW ∙ or_second (is_in set WAVE_DELAY) (is_in set WAVE_COMMAND) (sym (is WAVE_COMMAND) ∙ on);
  legato = λ on. is HELD_NOTE ∙ or_first (is_in set LEGATO) (is_in set NO_HARD_RESTART) (sym (is LEGATO) ∙ on);
  soft = λ on. is HELD_NOTE ∙ or_second (is_in set LEGATO) (is_in set NO_HARD_RESTART) (sym (is NO_HARD_RESTART) ∙ on);
  filter = λ on.
      is FILTER_USED
      ∙ or_first (is_in set FILTER_TABLE || is_in set SET_FILTER_CONTROL) (is_in set SET_CUTOFF)
      (or_first (is_in set FILTER_TABLE) (is_in set SET_FILTER_CONTROL) (sym (is FILTER_TABLE) ∙ on));
  control = λ on.
      is FILTER_USED
      ∙ or_first (is_in set FILTER_TABLE || is_in set SET_FILTER_CONTROL) (is_in set SET_CUTOFF)
      (or_second (is_in set FILTER_TABLE) (is_in set SET_FILTER_CONTROL) (sym (is SET_FILTER_CONTROL) ∙ on));
  cutoff = λ on.
      is FILTER_USED
      ∙ or_second (is_in set FILTER_TABLE || is_in set SET_FILTER_CONTROL) (is_in set SET_CUTOFF)
      (sym (is SET_CUTOFF) ∙ on);
}

common_of : (set : ℕ) (options : Options) (layout : Layout) →
    ((condition : ℕ) → layout.holds condition ≡ keeps set options condition) → KeepsCommon layout
common_of set options layout is = record {
  swings = λ any. is 28 ∙ (sym (two (is 6) (is 7)) ∙ any);
  climb = λ any. is 29 ∙ (sym (three (is 2) (is 4) (is 8)) ∙ any);
  drop = λ any. is 30 ∙ (sym (three (is 3) (is 4) (is 8)) ∙ any);
  rise = λ any. is 31 ∙ (sym (four (is 2) (is 4) (is 6) (is 7)) ∙ any);
  sink = λ any. is 32 ∙ (sym (four (is 3) (is 4) (is 6) (is 7)) ∙ any);
  found = λ any. is 33 ∙ (sym (two (is 4) (is 5)) ∙ any);
  effects = λ any.
      is EFFECTS
      ∙ or_first (asks_running set) (is_in set ROW_SLIDE)
      (sym (seven (is 2) (is 3) (is 4) (is 5) (is 6) (is 7) (is 23)) ∙ any);
}
  where
    -- what is asked for that may run, but for a row's command
    asks_running : ℕ → Bool
    asks_running s =
        is_in s 2 || is_in s 3 || is_in s 4 || is_in s 5 || (is_in s 6 || is_in s 7) || is_in s 23

    seven : {a b c d e f g x y z u v w t : Bool} → a ≡ x → b ≡ y → c ≡ z → d ≡ u → e ≡ v → f ≡ w → g ≡ t →
        (a || b || c || d || e || f || g) ≡ (x || y || z || u || (v || w) || t)
    seven {x = x} {y = y} {z = z} {u = u} {v = v} {w = w} {t = t} one two three four five six last =
        rw (one, two, three, four, five, six, last)
        (ap (λ (n : Bool). n || t) (or_assoc (x || y || z || u) v w))

    two : {a b x y : Bool} → a ≡ x → b ≡ y → (a || b) ≡ (x || y)
    two e f = rw (e, f) refl

    three : {a b c x y z : Bool} → a ≡ x → b ≡ y → c ≡ z → (a || b || c) ≡ (x || y || z)
    three e f g = rw (e, f, g) refl

    four : {a b c d x y z u : Bool} → a ≡ x → b ≡ y → c ≡ z → d ≡ u →
        (a || b || c || d) ≡ (x || y || (z || u))
    four {x = x} {y = y} {z = z} {u = u} e f g h = rw (e, f, g, h) (or_assoc (x || y) z u)

pub sets_keep_their_lines : SetsKeepTheirLines
sets_keep_their_lines layout features facts options holds = record {
  features_are = λ feature set. is (bit_of feature) ∙ used features facts options feature set;
  facts_are = λ fact has. is (fact_condition fact) ∙ (had features facts options fact ∙ has);
  facts_alone = λ fact on. sym (had features facts options fact) ∙ (sym (is (fact_condition fact)) ∙ on);
  options_are = record { effects = is 24; pulse = is 25; first = is 27 };
  common = common_of (asked features facts) options layout is;
  shared = shared_of (asked features facts) options layout is;
  timer = is 26;
}
  where
    is : (condition : ℕ) → layout.holds condition ≡ keeps (asked features facts) options condition
    is condition = holds condition ∙ sets_are_exact (asked features facts) options condition
