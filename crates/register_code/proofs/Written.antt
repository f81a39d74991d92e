-- What the code of a voice's registers leaves.
use Rattle.std.proofs.Common.{◌≡◌, ◌⊎◌, ℕ, zero, suc, ◌+◌, ◌*◌, ◌/◌, ◌<◌, ◌≤◌, List}
use Rattle.std.proofs.Common.{◌%◌, Bool, true, false, if◌then◌else◌, sym}
use Rattle.std.proofs.Common.{[], ◌∷◌, length, slice_index}
use Rattle.std.proofs.Common.{bit_and}
use Rattle.std.proofs.Common.{inl, inr, refl, ap, ◌∙◌, arith}
use Rattle.std.proofs.lemmas.Bool.{both_ways}
use Rattle.std.proofs.lemmas.Nat.{and_mask}
use Rattle.code_runs.specs.Runs.{put}
use Rattle.code_runs.proofs.Laws.{put_same, put_other}
use Rattle.play_model.specs.State.{Voice}
use Rattle.play_model.specs.Frame.{voice_registers}
use Rattle.player_memory.specs.declared.labels.TheConstants.{FREQ_LOW, FREQ_HIGH, PULSE_LOW, PULSE_HIGH, WAVE, GATE}
use Rattle.player_memory.specs.declared.labels.TheConstants.{AD, SR}
use Rattle.player_memory.specs.declared.conditions.TheConstants.{PULSE_TABLE}
use Rattle.player_desk.proofs.Laws.{VoiceDesk, Reader, Leads, ends, Fields}
use Rattle.register_code.specs.RegisterBlock.{register_tree}

-- the bytes that it writes, where the code of the pulse table is kept or isn't
abbrev pub own_registers : Bool → (ℕ → ℕ) → List ℕ
own_registers kept own =
    own FREQ_LOW ∷ own FREQ_HIGH ∷ (if kept then own PULSE_LOW else 0)
    ∷ (if kept then bit_and (own PULSE_HIGH) 15 else 0) ∷ bit_and (own WAVE) (own GATE) ∷ own AD ∷ own SR ∷ []

-- the SID with bytes in a voice's registers, from one on
abbrev pub sid_with : ℕ → ℕ → List ℕ → (ℕ → ℕ) → ℕ → ℕ
sid_with voice first [] sid = sid
sid_with voice first (byte ∷ bytes) sid = sid_with voice (suc first) bytes (put sid (first + 7 * voice) byte)

-- the voice's registers have these bytes, and all else that the code sees is as it was, but for A and the flags
pub record Written (voice : ℕ) (bytes : List ℕ) (d m : VoiceDesk) : Type 0 where
  pub own : m.own ≡ d.own
  pub shared : m.shared ≡ d.shared
  pub low : m.low ≡ d.low
  pub high : m.high ≡ d.high
  pub slide_low : m.slide_low ≡ d.slide_low
  pub slide_high : m.slide_high ≡ d.slide_high
  pub sid : m.sid ≡ sid_with voice 0 bytes d.sid

-- From any desk the code leads to one on which the registers are written.
pub registers_lead : (r : Reader) (d : VoiceDesk) →
    Leads r register_tree (ends (Written r.voice (own_registers (r.layout.holds PULSE_TABLE) d.own) d)) d
registers_lead r d = (
  λ kept. (
    λ on.
        by_kept true _ kept (record {
          own = refl;
          shared = refl;
          low = refl;
          high = refl;
          slide_low = refl;
          slide_high = refl;
          sid = refl;
        }),
    λ off. absurd (both_ways (r.layout.holds PULSE_TABLE) off kept),
  ),
  λ out. (
    λ on. absurd (both_ways (r.layout.holds PULSE_TABLE) out on),
    λ off.
        by_kept false _ out (record {
          own = refl;
          shared = refl;
          low = refl;
          high = refl;
          slide_low = refl;
          slide_high = refl;
          sid = refl;
        }),
  ),
)
  where
    by_kept : (kept : Bool) (m : VoiceDesk) → r.layout.holds PULSE_TABLE ≡ kept →
        Written r.voice (own_registers kept d.own) d m →
        Written r.voice (own_registers (r.layout.holds PULSE_TABLE) d.own) d m
    by_kept kept m is written = rw is written

-- the bytes are those that a frame has from the voice's state
pub registers_are : (holds : ℕ → Bool) (v : Voice) (tempo : ℕ) (own : ℕ → ℕ) → Fields holds v tempo own →
    own_registers (holds PULSE_TABLE) own ≡ voice_registers v
unfolding voice_registers
registers_are holds v tempo own f =
    let freq_low = f.freq_low in
    let freq_high = f.freq_high in
    let pulse_low = low (holds PULSE_TABLE) refl in
    let pulse_high = high (holds PULSE_TABLE) refl in
    let wave = f.wave in
    let gate = f.gate in
    let ad = f.ad in
    let sr = f.sr in
    rw (freq_low, freq_high, pulse_low, pulse_high, wave, gate, ad, sr) refl
  where
    low : (kept : Bool) → holds PULSE_TABLE ≡ kept → (if kept then own PULSE_LOW else 0) ≡ v.pulse % 256
    low true on = f.pulse_low on
    low false off = sym (f.no_pulse_low off)

    high : (kept : Bool) → holds PULSE_TABLE ≡ kept →
        (if kept then bit_and (own PULSE_HIGH) 15 else 0) ≡ v.pulse / 256
    high true on = and_mask (own PULSE_HIGH) 4 ∙ f.pulse_high on
    high false off = sym (f.no_pulse_high off)

-- ---- the registers by their numbers

-- the others stay
pub sid_stays : (voice first : ℕ) (bytes : List ℕ) (sid : ℕ → ℕ) (register : ℕ) →
    (register < first + 7 * voice) ⊎ (first + length bytes + 7 * voice ≤ register) →
    sid_with voice first bytes sid register ≡ sid register
sid_stays voice first [] sid register out = refl
sid_stays voice first (byte ∷ bytes) sid register (inl before) =
    sid_stays voice (suc first) bytes _ register (inl (omega (arith, before)))
    ∙ put_other sid (first + 7 * voice) byte register (λ same. omega (arith, before, same))
sid_stays voice first (byte ∷ bytes) sid register (inr behind) =
    sid_stays voice (suc first) bytes _ register (inr (omega (arith, behind)))
    ∙ put_other sid (first + 7 * voice) byte register (λ same. omega (arith, behind, same))

pub sid_byte : (voice first : ℕ) (bytes : List ℕ) (sid : ℕ → ℕ) (number : ℕ) → number < length bytes →
    sid_with voice first bytes sid (first + number + 7 * voice) ≡ slice_index bytes number
sid_byte voice first [] sid number few = absurd (omega (arith, few))
sid_byte voice first (byte ∷ bytes) sid zero few =
    let here : first + 0 + 7 * voice ≡ first + 7 * voice = omega arith in
    ap (sid_with voice (suc first) bytes (put sid (first + 7 * voice) byte)) here
    ∙ (sid_stays voice (suc first) bytes _ (first + 7 * voice) (inl (omega arith))
    ∙ put_same sid (first + 7 * voice) byte)
sid_byte voice first (byte ∷ bytes) sid (suc more) few =
    let next : first + suc more + 7 * voice ≡ suc first + more + 7 * voice = omega arith in
    ap (sid_with voice (suc first) bytes (put sid (first + 7 * voice) byte)) next
    ∙ sid_byte voice (suc first) bytes _ more (omega (arith, few))
