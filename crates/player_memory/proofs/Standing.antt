-- The bytes of a state, one by one, stand where a test says so, which is computed.
use Rattle.std.proofs.Common.{◌≡◌, ℕ, ◌%◌, ◌/◌, ◌&&◌, ◌||◌, Bool, true, false, nat_eq, inl, inr, if◌then◌else◌}
use Rattle.std.proofs.Common.{zero, suc, ◌+◌, ◌<◌, List, [], ◌∷◌, arith}
use Rattle.std.proofs.lemmas.Bool.{and_parts, or_cases, eqb-true}
use Rattle.play_model.specs.State.{Voice, Common, Playing}
use Rattle.play_model.specs.TickStep.{tempo_of}
use Rattle.scopes.specs.Desk.{Layout}
use Rattle.player_memory.specs.declared.labels.TheConstants.{TEMPO}
use Rattle.player_memory.specs.declared.variables.Kept.{Kept}
use Rattle.player_memory.specs.declared.variables.Kept.TheVariants.{Always, Where, Else}
use Rattle.player_memory.specs.declared.variables.VoiceByte.{VoiceByte}
use Rattle.player_memory.specs.declared.variables.VoiceByte.TheVariants.{Tick, GateTimer, Instrument, Note, NewNote}
use Rattle.player_memory.specs.declared.variables.VoiceByte.TheVariants.{NewCommand, NewParam, Command, Param, Ad, Sr}
use Rattle.player_memory.specs.declared.variables.VoiceByte.TheVariants.{VibTime, VibDelay, Wave, Gate, FreqLow}
use Rattle.player_memory.specs.declared.variables.VoiceByte.TheVariants.{FreqHigh, LastNote, WavePtr, WaveTime}
use Rattle.player_memory.specs.declared.variables.VoiceByte.TheVariants.{PulsePtr, PulseTime, PulseLow, PulseHigh}
use Rattle.player_memory.specs.declared.variables.VoiceByte.TheVariants.{Tempo}
use Rattle.player_memory.specs.declared.variables.CommonByte.{CommonByte}
use Rattle.player_memory.specs.declared.variables.TheConstants.{VOICE_BYTES, COMMON_BYTES}
use Rattle.player_memory.specs.Variables.{HoldsWhere, voice_byte, IsVoiceByte, VoiceRowsStand, VoiceBytesStand}
use Rattle.player_memory.specs.Variables.{common_byte, CommonRowsStand, CommonBytesStand}
use Rattle.player_memory.specs.Playing.{own_at, shared_at, IsPlaying, AreSame}

-- ---- where it is kept

-- by a test of what it holds
abbrev pub is_kept : (ℕ → Bool) → Kept → Bool → ℕ → Bool
is_kept holds Always held part = held
is_kept holds (Where condition) held part = if holds condition then held else true
is_kept holds (Else condition number) held part = if holds condition then held else nat_eq part number

holds_where : (holds : ℕ → Bool) (kept : Kept) (Held : Type 0) (held : Bool) (part : ℕ) → (held ≡ true → Held) →
    is_kept holds kept held part ≡ true → HoldsWhere holds kept Held part
holds_where holds Always Held held part is e = is e
holds_where holds (Where condition) Held held part is e = λ on. is (by_value (holds condition) on e)
  where
    by_value : (b : Bool) → b ≡ true → (if b then held else true) ≡ true → held ≡ true
    by_value true on e = e
    by_value false never e = absurd cc
holds_where holds (Else condition number) Held held part is e =
    (λ on. is (kept_so (holds condition) on e), λ off. is_number (holds condition) off e)
  where
    kept_so : (b : Bool) → b ≡ true → (if b then held else nat_eq part number) ≡ true → held ≡ true
    kept_so true on e = e
    kept_so false never e = absurd cc

    is_number : (b : Bool) → b ≡ false → (if b then held else nat_eq part number) ≡ true → part ≡ number
    is_number true never e = absurd cc
    is_number false off e = eqb-true part number e

-- ---- by a test

abbrev pub is_held : VoiceByte → Voice → ℕ → ℕ → Bool
is_held PulseHigh v tempo byte = nat_eq (byte % 16) (v.pulse / 256)
is_held NewParam v tempo byte = nat_eq v.new_command 0 || nat_eq byte v.new_param
is_held held v tempo byte = nat_eq byte (voice_byte held v tempo)

abbrev pub are_held : (ℕ → Bool) → List (ℕ × VoiceByte × Kept) → Voice → ℕ → (ℕ → ℕ) → Bool
are_held holds [] v tempo own = true
are_held holds (row ∷ rows) v tempo own =
    is_kept holds row.2 (is_held row.1 v tempo (own row.0)) (voice_byte row.1 v tempo)
    && are_held holds rows v tempo own

held : (what : VoiceByte) (v : Voice) (tempo byte : ℕ) → is_held what v tempo byte ≡ true →
    IsVoiceByte what v tempo byte
held Tick v tempo byte e = eqb-true byte v.tick e
held GateTimer v tempo byte e = eqb-true byte v.gate_timer e
held Instrument v tempo byte e = eqb-true byte v.instrument e
held Note v tempo byte e = eqb-true byte (v.note % 128) e
held NewNote v tempo byte e = eqb-true byte v.new_note e
held NewCommand v tempo byte e = eqb-true byte v.new_command e
held NewParam v tempo byte e = λ some.
    elim (or_cases (nat_eq v.new_command 0) (nat_eq byte v.new_param) e) [
      | inl none ↦ absurd (some (eqb-true v.new_command 0 none))
      | inr is ↦ eqb-true byte v.new_param is
    ]
held Command v tempo byte e = eqb-true byte v.command e
held Param v tempo byte e = eqb-true byte v.param e
held Ad v tempo byte e = eqb-true byte v.ad e
held Sr v tempo byte e = eqb-true byte v.sr e
held VibTime v tempo byte e = eqb-true byte v.vib_time e
held VibDelay v tempo byte e = eqb-true byte (voice_byte VibDelay v tempo) e
held Wave v tempo byte e = eqb-true byte v.wave e
held Gate v tempo byte e = eqb-true byte v.gate e
held FreqLow v tempo byte e = eqb-true byte (v.freq % 256) e
held FreqHigh v tempo byte e = eqb-true byte (v.freq / 256) e
held LastNote v tempo byte e = eqb-true byte v.last_note e
held WavePtr v tempo byte e = eqb-true byte v.wave_ptr e
held WaveTime v tempo byte e = eqb-true byte v.wave_time e
held PulsePtr v tempo byte e = eqb-true byte v.pulse_ptr e
held PulseTime v tempo byte e = eqb-true byte v.pulse_time e
held PulseLow v tempo byte e = eqb-true byte (v.pulse % 256) e
held PulseHigh v tempo byte e = eqb-true (byte % 16) (v.pulse / 256) e
held Tempo v tempo byte e = eqb-true byte tempo e

pub rows_stand : (holds : ℕ → Bool) (rows : List (ℕ × VoiceByte × Kept)) (v : Voice) (tempo : ℕ) (own : ℕ → ℕ) →
    are_held holds rows v tempo own ≡ true → VoiceRowsStand holds rows v tempo own
rows_stand holds [] v tempo own e = tt
rows_stand holds (row ∷ rows) v tempo own e =
    let both = and_parts
    (is_kept holds row.2 (is_held row.1 v tempo (own row.0)) (voice_byte row.1 v tempo))
    (are_held holds rows v tempo own) e in (
      holds_where holds row.2 (IsVoiceByte row.1 v tempo (own row.0)) (is_held row.1 v tempo (own row.0))
          (voice_byte row.1 v tempo) (held row.1 v tempo (own row.0)) both.0,
      rows_stand holds rows v tempo own both.1,
    )

-- a voice's bytes stand where the test says so
pub bytes_stand : (holds : ℕ → Bool) (v : Voice) (tempo : ℕ) (own : ℕ → ℕ) →
    are_held holds VOICE_BYTES v tempo own ≡ true → VoiceBytesStand holds v tempo own
bytes_stand holds v tempo own e = rows_stand holds VOICE_BYTES v tempo own e

abbrev pub are_shared : (ℕ → Bool) → List (ℕ × CommonByte × Kept) → Common → (ℕ → ℕ) → Bool
are_shared holds [] c shared = true
are_shared holds (row ∷ rows) c shared =
    is_kept holds row.2 (nat_eq (shared row.0) (common_byte row.1 c)) (common_byte row.1 c)
    && are_shared holds rows c shared

shared_rows_stand : (holds : ℕ → Bool) (rows : List (ℕ × CommonByte × Kept)) (c : Common) (shared : ℕ → ℕ) →
    are_shared holds rows c shared ≡ true → CommonRowsStand holds rows c shared
shared_rows_stand holds [] c shared e = tt
shared_rows_stand holds (row ∷ rows) c shared e =
    let both = and_parts
    (is_kept holds row.2 (nat_eq (shared row.0) (common_byte row.1 c)) (common_byte row.1 c))
    (are_shared holds rows c shared) e in (
      holds_where holds row.2 (shared row.0 ≡ common_byte row.1 c) (nat_eq (shared row.0) (common_byte row.1 c))
          (common_byte row.1 c) (eqb-true (shared row.0) (common_byte row.1 c)) both.0,
      shared_rows_stand holds rows c shared both.1,
    )

-- and so do those that the voices share
pub shared_bytes_stand : (holds : ℕ → Bool) (c : Common) (shared : ℕ → ℕ) →
    are_shared holds COMMON_BYTES c shared ≡ true → CommonBytesStand holds c shared
shared_bytes_stand holds c shared e = shared_rows_stand holds COMMON_BYTES c shared e

-- and each voice's tempo
abbrev pub are_tempos : Layout → (ℕ → ℕ) → Common → Bool
are_tempos layout at c =
    nat_eq (own_at layout at 0 TEMPO) c.tempo_one && nat_eq (own_at layout at 1 TEMPO) c.tempo_two
    && nat_eq (own_at layout at 2 TEMPO) c.tempo_three

tempos_stand : (layout : Layout) (at : ℕ → ℕ) (c : Common) → are_tempos layout at c ≡ true → (its : ℕ) →
    its < 3 →
    own_at layout at its TEMPO ≡ tempo_of (its + 1) c
tempos_stand layout at c e its few = by_voice its few
  where
    all : ((nat_eq (own_at layout at 0 TEMPO) c.tempo_one && nat_eq (own_at layout at 1 TEMPO) c.tempo_two) ≡ true)
        × (nat_eq (own_at layout at 2 TEMPO) c.tempo_three ≡ true)
    all = and_parts _ _ e

    firsts : (nat_eq (own_at layout at 0 TEMPO) c.tempo_one ≡ true)
        × (nat_eq (own_at layout at 1 TEMPO) c.tempo_two ≡ true)
    firsts = and_parts _ _ all.0

    by_voice : (its : ℕ) → its < 3 → own_at layout at its TEMPO ≡ tempo_of (its + 1) c
    by_voice zero few = eqb-true _ _ firsts.0
    by_voice (suc zero) few = eqb-true _ _ firsts.1
    by_voice (suc (suc zero)) few = eqb-true _ _ all.1
    by_voice (suc (suc (suc more))) few = absurd (omega (arith, few))

-- so a voice is playing in a memory where three tests say so
pub playing_in : (layout : Layout) (voice : ℕ) (s : Playing) (at : ℕ → ℕ) →
    are_held layout.holds VOICE_BYTES s.voice (tempo_of (voice + 1) s.common) (own_at layout at voice) ≡ true →
    are_shared layout.holds COMMON_BYTES s.common (shared_at layout at) ≡ true →
    are_tempos layout at s.common ≡ true →
    IsPlaying layout voice s at
playing_in layout voice s at own common tempos = record {
  own = bytes_stand layout.holds s.voice (tempo_of (voice + 1) s.common) (own_at layout at voice) own;
  common = shared_bytes_stand layout.holds s.common (shared_at layout at) common;
  tempos = tempos_stand layout at s.common tempos;
}

-- ---- the same bytes

abbrev pub have_same : List ℕ → (ℕ → ℕ) → (ℕ → ℕ) → Bool
have_same [] one two = true
have_same (label ∷ labels) one two = nat_eq (one label) (two label) && have_same labels one two

-- bytes are as before where a test says so
pub are_same : (labels : List ℕ) (one two : ℕ → ℕ) → have_same labels one two ≡ true → AreSame labels one two
are_same [] one two e = tt
are_same (label ∷ labels) one two e =
    let both = and_parts (nat_eq (one label) (two label)) (have_same labels one two) e in
    (eqb-true (one label) (two label) both.0, are_same labels one two both.1)
