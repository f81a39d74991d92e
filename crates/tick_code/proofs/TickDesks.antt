-- The desk of a voice in its tick step, from one piece of the code to the next.
use Rattle.std.proofs.Common.{◌≡◌, ◌≢◌, ℕ, ◌%◌, ◌<◌, Bool, true}
use Rattle.std.proofs.Common.{false, nat_eq, bit_and}
use Rattle.std.proofs.Common.{if◌then◌else◌}
use Rattle.std.proofs.Common.{inl, inr, refl, subst}
use Rattle.std.proofs.lemmas.Bool.{agree_below_at, eqb-true, both_ways}
use Rattle.std.proofs.lemmas.Bool.Decides.{eqb_tells}
use Rattle.play_model.specs.State.{Playing}
use Rattle.scopes.specs.Desk.{Layout}
use Rattle.player_desk.proofs.Laws.{VoiceDesk, Reader, Lent, Done}

-- a desk on which a voice and what the voices share stand, with a number in Y
pub record Ticking (y : ℕ) (r : Reader) (s : Playing) (handed : Lent) (d m : VoiceDesk) : Type 0 where
  pub done : Done r.layout.holds r.voice s handed d m
  pub y_is : m.y ≡ y

-- the note that waits is used up
abbrev pub cleared : Playing → Playing
cleared s = record s { voice = record s.voice { new_note = 0 } }

-- the same said in another way
pub ticking_as : (y : ℕ) (r : Reader) (s u : Playing) (handed : Lent) (d m : VoiceDesk) → s ≡ u →
    Ticking y r s handed d m → Ticking y r u handed d m
ticking_as y r s u handed d m e at = subst (λ x. Ticking y r x handed d m) e at

pub done_as_is : (r : Reader) (s u : Playing) (handed : Lent) (d m : VoiceDesk) → s ≡ u →
    Done r.layout.holds r.voice s handed d m → Done r.layout.holds r.voice u handed d m
done_as_is r s u handed d m e at = subst (λ x. Done r.layout.holds r.voice x handed d m) e at

-- ---- numbers

pub low_six : (n : ℕ) → n < 256 → bit_and n 0x3F ≡ n % 64
low_six n l =
    eqb-true _ _ (agree_below_at (λ n. nat_eq (bit_and n 0x3F) (n % 64)) (λ _. true) 256 n refl l)

-- what an instrument would keep lines for is 0 where they aren't kept
pub none_unkept : (layout : Layout) (condition n : ℕ) → (n ≢ 0 → layout.holds condition ≡ true) →
    layout.holds condition ≡ false → n ≡ 0
none_unkept layout condition n keeps out = elim (eqb_tells n 0) [
  | inl none ↦ none.1
  | inr some ↦ absurd (both_ways (layout.holds condition) out (keeps some.1))
]

-- of a byte that isn't kept nothing is said
pub not_held : (r : Reader) (condition n k : ℕ) → r.layout.holds condition ≡ false →
    r.layout.holds condition ≡ true → n ≡ k
not_held r condition n k off on = absurd (both_ways (r.layout.holds condition) off on)

-- a number that depends on a test
pub if_so : (b : Bool) (x y n : ℕ) → b ≡ true → n ≡ x → n ≡ (if b then x else y)
if_so b x y n e same = rw e same

pub if_not : (b : Bool) (x y n : ℕ) → b ≡ false → n ≡ y → n ≡ (if b then x else y)
if_not b x y n e same = rw e same
