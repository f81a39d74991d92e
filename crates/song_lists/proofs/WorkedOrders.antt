-- The addresses of the small song's orderlists, computed, and such as aren't theirs.
use Rattle.std.proofs.Common.{◌≡◌, ℕ, zero, suc, ◌+◌, ◌<◌, Bool, true, false, List, [], ◌∷◌}
use Rattle.std.proofs.Common.{slice_index, nat_eq, refl, sym, ap, ◌∙◌, arith}
use Rattle.std.proofs.lemmas.Bool.{eqb-false}
use Rattle.packed_form.specs.declared.packed_songs.PackedSong.{PackedSong}
use Rattle.song_lists.specs.DataLists.{fields_before, order_places, AreFirstOrders}
use Rattle.song_lists.specs.WorkedLists.{IsSmallSong, FirstOrdersAreWorked}

plain_places_are : (packed : PackedSong) → IsSmallSong packed → order_places false packed ≡ 40 ∷ 43 ∷ 47 ∷ []
unfolding fields_before
plain_places_are packed is =
    rw (is.subtunes, is.patterns, is.instruments, is.wave, is.pulse, is.filter, is.speed, is.facts) refl

kept_places_are : (packed : PackedSong) → IsSmallSong packed → order_places true packed ≡ 46 ∷ 49 ∷ 53 ∷ []
unfolding fields_before
kept_places_are packed is =
    rw (is.subtunes, is.patterns, is.instruments, is.wave, is.pulse, is.filter, is.speed, is.facts) refl

pub are_orders : (dependent : Bool) (packed : PackedSong) (start one two three : ℕ) →
    order_places dependent packed ≡ one ∷ two ∷ three ∷ [] →
    AreFirstOrders dependent packed start ((start + one) ∷ (start + two) ∷ (start + three) ∷ [])
are_orders dependent packed start one two three are zero below =
    ap (λ (places : List ℕ). start + slice_index places 0) (sym are)
are_orders dependent packed start one two three are (suc zero) below =
    ap (λ (places : List ℕ). start + slice_index places 1) (sym are)
are_orders dependent packed start one two three are (suc (suc zero)) below =
    ap (λ (places : List ℕ). start + slice_index places 2) (sym are)
are_orders dependent packed start one two three are (suc (suc (suc voice))) below = absurd (omega arith)

-- an address that isn't this voice's
pub other_order : (dependent : Bool) (packed : PackedSong) (start voice : ℕ) (orders places : List ℕ) →
    order_places dependent packed ≡ places → voice < 3 →
    nat_eq (slice_index orders voice) (start + slice_index places voice) ≡ false →
    ¬ AreFirstOrders dependent packed start orders
other_order dependent packed start voice orders places are below other have =
    eqb-false (slice_index orders voice) (start + slice_index places voice) other
    (have voice below ∙ ap (λ (ps : List ℕ). start + slice_index ps voice) are)

pub first_orders_are_worked : (packed : PackedSong) → IsSmallSong packed → FirstOrdersAreWorked packed
first_orders_are_worked packed is =
    let plain = plain_places_are packed is in
    let kept = kept_places_are packed is in
    let places : List ℕ = 40 ∷ 43 ∷ 47 ∷ [] in
    let others : List ℕ = 46 ∷ 49 ∷ 53 ∷ [] in record {
      plain = are_orders false packed 0x1FCD 40 43 47 plain;
      kept = are_orders true packed 0x1FC7 46 49 53 kept;
      one = other_order false packed 0x1FCD 0 (0x1FF6 ∷ 0x1FF8 ∷ 0x1FFC ∷ []) places plain (omega arith) refl;
      two = other_order false packed 0x1FCD 1 (0x1FF5 ∷ 0x1FF9 ∷ 0x1FFC ∷ []) places plain (omega arith) refl;
      three = other_order false packed 0x1FCD 2 (0x1FF5 ∷ 0x1FF8 ∷ 0x1FFD ∷ []) places plain (omega arith) refl;
      elsewhere = other_order false packed 0x1FCE 0 (0x1FF5 ∷ 0x1FF8 ∷ 0x1FFC ∷ []) places plain (omega arith) refl;
      flag = other_order true packed 0x1FCD 0 (0x1FF5 ∷ 0x1FF8 ∷ 0x1FFC ∷ []) others kept (omega arith) refl;
    }
