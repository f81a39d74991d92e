-- The 25 registers of a frame are each voice's seven and the filter's four.
use Rattle.std.proofs.Common.{◌≡◌, ℕ, zero, suc, ◌+◌, ◌*◌, ◌<◌, ◌++◌, List, slice_index, refl, arith}
use Rattle.play_model.specs.State.{Voice, Common}
use Rattle.play_model.specs.Frame.{voice_registers, filter_registers}

abbrev pub frame_registers : Voice → Voice → Voice → Common → List ℕ
frame_registers one two three c =
    voice_registers one ++ voice_registers two ++ voice_registers three ++ filter_registers c

pub sounds_one : (one two three : Voice) (c : Common) (register : ℕ) → register < 7 →
    slice_index (frame_registers one two three c) (7 * 0 + register) ≡ slice_index (voice_registers one) register
unfolding voice_registers filter_registers
sounds_one one two three c zero few = refl
sounds_one one two three c (suc zero) few = refl
sounds_one one two three c (suc (suc zero)) few = refl
sounds_one one two three c (suc (suc (suc zero))) few = refl
sounds_one one two three c (suc (suc (suc (suc zero)))) few = refl
sounds_one one two three c (suc (suc (suc (suc (suc zero))))) few = refl
sounds_one one two three c (suc (suc (suc (suc (suc (suc zero)))))) few = refl
sounds_one one two three c (suc (suc (suc (suc (suc (suc (suc more))))))) few = absurd (omega (arith, few))

pub sounds_two : (one two three : Voice) (c : Common) (register : ℕ) → register < 7 →
    slice_index (frame_registers one two three c) (7 * 1 + register) ≡ slice_index (voice_registers two) register
unfolding voice_registers filter_registers
sounds_two one two three c zero few = refl
sounds_two one two three c (suc zero) few = refl
sounds_two one two three c (suc (suc zero)) few = refl
sounds_two one two three c (suc (suc (suc zero))) few = refl
sounds_two one two three c (suc (suc (suc (suc zero)))) few = refl
sounds_two one two three c (suc (suc (suc (suc (suc zero))))) few = refl
sounds_two one two three c (suc (suc (suc (suc (suc (suc zero)))))) few = refl
sounds_two one two three c (suc (suc (suc (suc (suc (suc (suc more))))))) few = absurd (omega (arith, few))

pub sounds_three : (one two three : Voice) (c : Common) (register : ℕ) → register < 7 →
    slice_index (frame_registers one two three c) (7 * 2 + register) ≡ slice_index (voice_registers three) register
unfolding voice_registers filter_registers
sounds_three one two three c zero few = refl
sounds_three one two three c (suc zero) few = refl
sounds_three one two three c (suc (suc zero)) few = refl
sounds_three one two three c (suc (suc (suc zero))) few = refl
sounds_three one two three c (suc (suc (suc (suc zero)))) few = refl
sounds_three one two three c (suc (suc (suc (suc (suc zero))))) few = refl
sounds_three one two three c (suc (suc (suc (suc (suc (suc zero)))))) few = refl
sounds_three one two three c (suc (suc (suc (suc (suc (suc (suc more))))))) few = absurd (omega (arith, few))

pub sounds_last : (one two three : Voice) (c : Common) (number : ℕ) → number < 4 →
    slice_index (frame_registers one two three c) (21 + number) ≡ slice_index (filter_registers c) number
unfolding voice_registers filter_registers
sounds_last one two three c zero few = refl
sounds_last one two three c (suc zero) few = refl
sounds_last one two three c (suc (suc zero)) few = refl
sounds_last one two three c (suc (suc (suc zero))) few = refl
sounds_last one two three c (suc (suc (suc (suc more)))) few = absurd (omega (arith, few))
