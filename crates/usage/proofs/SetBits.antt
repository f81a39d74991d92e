-- The bits of features, set one after the other.
use Rattle.std.proofs.Common.{◌≡◌, ℕ, ◌+◌, ◌*◌, ◌%◌, ◌^◌, ◌<◌, ◌⊎◌, ◌↔◌, List}
use Rattle.std.proofs.Common.{get_or, map, bit_or, w32, zero-add, refl, sym, ◌∙◌, ap, subst, inl, inr, lit<}
use Rattle.std.proofs.Common.{arith}
use Rattle.std.specs.Prelude.{IsBitSet}
use Rattle.std.specs.Int.{bit_at}
use Rattle.std.proofs.lemmas.Bool.{cases_lt, cases_eq}
use Rattle.std.proofs.lemmas.Nat.{or_lt, bit_set_by_shift}
use Rattle.std.proofs.Math.Pow.{pow-lt}
use Rattle.std.proofs.lemmas.List.{get_or-map}
use Rattle.std.proofs.lemmas.List.FromFn.{get_or-range_with_len}
use Rattle.std.specs.List.{range_with_len}
use Rattle.std.proofs.lemmas.Nat.Bits.{shr_and_one, bit_at_set_same, bit_at_set_other}
use Rattle.song_model.specs.declared.features.Feature.{Feature}
use Rattle.song_model.specs.declared.features.Feature.TheVariants.{Transpose, Repeat, PortaUp, PortaDown, TonePorta}
use Rattle.song_model.specs.declared.features.Feature.TheVariants.{TieNote, Vibrato, InstrumentVibrato, NoteDependent}
use Rattle.song_model.specs.declared.features.Feature.TheVariants.{SetAd, SetSr, SetWave, SetWavePointer, PulseTable}
use Rattle.song_model.specs.declared.features.Feature.TheVariants.{SetPulsePointer, FilterTable, SetFilterPointer}
use Rattle.song_model.specs.declared.features.Feature.TheVariants.{FilterControl, Cutoff, Volume, FunkTempo, SetTempo}
use Rattle.song_model.specs.declared.features.Feature.TheVariants.{WaveTable, WaveCommand}
use Rattle.song_model.specs.declared.songs.Song.{Song}
use Rattle.song_model.specs.Feature.{bit_of}
use Rattle.play_model.specs.Features.{HasFeature}
use Rattle.usage.specs.declared.features.TheConstants.{FEATURES}
use Rattle.usage.specs.FeatureParts.{AddsBit}

-- ---- one bit

pub bit_set : (n k : ℕ) → bit_at n k ≡ 1 → IsBitSet n k
bit_set n k e = (bit_set_by_shift n k).0 (shr_and_one n k ∙ e)

pub bit_is_set : (n k : ℕ) → IsBitSet n k → bit_at n k ≡ 1
bit_is_set n k h = sym (shr_and_one n k) ∙ (bit_set_by_shift n k).1 h

set_here : (n k : ℕ) → k < 24 → IsBitSet (bit_or n (1 * 2 ^ k % 2 ^ 32)) k
set_here n k small = bit_set (bit_or n (1 * 2 ^ k % 2 ^ 32)) k (bit_at_set_same w32 n k (omega arith))

set_other : (n k i : ℕ) → k < 24 → IsBitSet n i → IsBitSet (bit_or n (1 * 2 ^ k % 2 ^ 32)) i
set_other n k i small h = elim (cases_eq i k) [
  | inl here ↦ rw here (set_here n k small)
  | inr other ↦ bit_set (bit_or n (1 * 2 ^ k % 2 ^ 32)) i
      (bit_at_set_other w32 n k (omega arith) i other ∙ bit_is_set n i h)
]

set_of : (n k i : ℕ) → k < 24 → IsBitSet (bit_or n (1 * 2 ^ k % 2 ^ 32)) i → IsBitSet n i ⊎ (i ≡ k)
set_of n k i small h = elim (cases_eq i k) [
  | inl here ↦ inr here
  | inr other ↦ inl (bit_set n i (sym (bit_at_set_other w32 n k (omega arith) i other) ∙ bit_is_set
      (bit_or n (1 * 2 ^ k % 2 ^ 32)) i h))
]

pub bit_small : (feature : Feature) → bit_of feature < 24
bit_small Transpose = lit< tt
bit_small Repeat = lit< tt
bit_small PortaUp = lit< tt
bit_small PortaDown = lit< tt
bit_small TonePorta = lit< tt
bit_small TieNote = lit< tt
bit_small Vibrato = lit< tt
bit_small InstrumentVibrato = lit< tt
bit_small NoteDependent = lit< tt
bit_small SetAd = lit< tt
bit_small SetSr = lit< tt
bit_small SetWave = lit< tt
bit_small SetWavePointer = lit< tt
bit_small PulseTable = lit< tt
bit_small SetPulsePointer = lit< tt
bit_small FilterTable = lit< tt
bit_small SetFilterPointer = lit< tt
bit_small FilterControl = lit< tt
bit_small Cutoff = lit< tt
bit_small Volume = lit< tt
bit_small FunkTempo = lit< tt
bit_small SetTempo = lit< tt
bit_small WaveTable = lit< tt
bit_small WaveCommand = lit< tt

pub added_bit : (song : Song) (feature : Feature) (n k : ℕ) → k ≡ bit_of feature → HasFeature song feature →
    AddsBit song feature n (bit_or n (1 * 2 ^ k % 2 ^ 32))
added_bit song feature n k e has =
    let small : k < 24 = rw e (bit_small feature) in
    record {
      each = λ i. (
        λ (h : IsBitSet (bit_or n (1 * 2 ^ k % 2 ^ 32)) i).
            (let w = set_of n k i small h in elim w [ inl o ↦ inl o | inr here ↦ inr (here ∙ e, has) ]),
        λ (w : IsBitSet n i ⊎ ((i ≡ bit_of feature) × HasFeature song feature)). elim w [
          | inl o ↦ set_other n k i small o
          | inr x ↦ (let here : i ≡ k = x.0 ∙ sym e in rw here (set_here n k small))
        ],
      );
    }

low_mod : (x : ℕ) → x < 2 ^ 24 → 1 * x % 2 ^ 32 < 2 ^ 24
low_mod x low = omega arith

pub small_bits : (n k : ℕ) → n < 2 ^ 24 → k < 24 → bit_or n (1 * 2 ^ k % 2 ^ 32) < 2 ^ 24
small_bits n k small low = or_lt 24 n (1 * 2 ^ k % 2 ^ 32) small (low_mod (2 ^ k) (pow-lt low))

-- ---- all features

-- each feature stands in the list at its bit
pub at_its_bit : (feature d : Feature) → get_or FEATURES (bit_of feature) d ≡ feature
at_its_bit Transpose d = refl
at_its_bit Repeat d = refl
at_its_bit PortaUp d = refl
at_its_bit PortaDown d = refl
at_its_bit TonePorta d = refl
at_its_bit TieNote d = refl
at_its_bit Vibrato d = refl
at_its_bit InstrumentVibrato d = refl
at_its_bit NoteDependent d = refl
at_its_bit SetAd d = refl
at_its_bit SetSr d = refl
at_its_bit SetWave d = refl
at_its_bit SetWavePointer d = refl
at_its_bit PulseTable d = refl
at_its_bit SetPulsePointer d = refl
at_its_bit FilterTable d = refl
at_its_bit SetFilterPointer d = refl
at_its_bit FilterControl d = refl
at_its_bit Cutoff d = refl
at_its_bit Volume d = refl
at_its_bit FunkTempo d = refl
at_its_bit SetTempo d = refl
at_its_bit WaveTable d = refl
at_its_bit WaveCommand d = refl

-- the features in front of place i that the song uses
pub record IsUsedBit (song : Song) (i k : ℕ) : Type 0 where
  pub feature : Feature
  pub bit_is : bit_of feature ≡ k
  pub below : k < i
  pub has : HasFeature song feature

pub record AreBitsBelow (song : Song) (i set : ℕ) : Type 0 where
  pub small : set < 2 ^ 24
  pub each : (k : ℕ) → IsBitSet set k ↔ IsUsedBit song i k

same_feature : (a b : Feature) → bit_of a ≡ bit_of b → a ≡ b
same_feature a b e = sym (at_its_bit a b) ∙ ap (λ (k : ℕ). get_or FEATURES k b) e ∙ at_its_bit b b

bits_in_order : map bit_of FEATURES ≡ range_with_len 0 24
bits_in_order = refl

pub place_is_bit : (i : ℕ) (d : Feature) → i < 24 → bit_of (get_or FEATURES i d) ≡ i
place_is_bit i d low =
    sym (get_or-map bit_of FEATURES i d (bit_of d) low) ∙ ap (λ (xs : List ℕ). get_or xs i (bit_of d)) bits_in_order ∙
    get_or-range_with_len 0 24 i (bit_of d) low ∙ zero-add i

pub bits_more : (song : Song) (i old new : ℕ) (feature : Feature) → i < 24 → bit_of feature ≡ i → new < 2 ^ 24 →
    AreBitsBelow song i old → AddsBit song feature old new →
    AreBitsBelow song (i + 1) new
bits_more song i old new feature low place small a b = record {
  small = small;
  each = λ k. (
    λ (h : IsBitSet new k). (let w = (b.each k).0 h in elim w [
      | inl o ↦ (let u = (a.each k).0 o in let under = u.below in
          record { feature = u.feature; bit_is = u.bit_is; below = omega arith; has = u.has })
      | inr x ↦ (let here = x.0 in record { feature = feature; bit_is = sym here; below = omega arith; has = x.1 })
    ]),
    λ (u : IsUsedBit song (i + 1) k). (let under = u.below in elim (cases_lt k i) [
      | inl before ↦ (b.each k).1 (inl ((a.each k).1
          (record { feature = u.feature; bit_is = u.bit_is; below = before; has = u.has })))
      | inr on ↦ (
          let here : k ≡ bit_of feature = omega arith in
          (b.each k).1 (inr (
            here,
            subst (λ (f : Feature). HasFeature song f)
                (same_feature u.feature feature (u.bit_is ∙ here)) u.has,
          )))
    ]),
  );
}
