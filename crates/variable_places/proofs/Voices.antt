-- The bytes of the second and the third voice stand 7 and 14 behind those of the first, and the second funk tempo behind
-- the first.
use Rattle.std.proofs.Common.{◌≡◌, ℕ, ◌+◌, ◌*◌, ◌<◌, Bool, true, false, ◌&&◌, ◌||◌, not, nat_eq, nat_lt, refl, sym, ap}
use Rattle.std.proofs.Common.{◌∙◌, ap₂, arith}
use Rattle.std.proofs.lemmas.Bool.{and_parts, not-true, eqb-true, ltb-true, agree_below, agree_below_at}
use Rattle.narrow_runs.specs.Named.{stands_under}
use Rattle.player_memory.specs.Labels.{is_own, is_shared}
use Rattle.variable_places.specs.Places.{voice_rows, asked_in, voice_of, base_of, has_byte, position_in}
use Rattle.variable_places.specs.Places.{voice_labels, own_place, place_of}
use Rattle.variable_places.specs.PlaceLaws.{VoicesAreAlike, VoicesAreInStep, FunkIsTogether}
use Rattle.variable_places.proofs.Owners.{own_asks, own_stands, shared_stands, second_too}

-- ---- whose byte a label is, tested for each of the first voice's

abbrev is_of : ℕ → ℕ → Bool
is_of label voice =
    (not (is_shared (label + 7 * voice)) && nat_eq (base_of (label + 7 * voice)) label)
    && (nat_eq (voice_of (label + 7 * voice)) voice && nat_lt (label + 7 * voice) 113)

abbrev are_of : ℕ → Bool
are_of label = not (is_own label) || agree_below (is_of label) (λ _. true) 3

all_are_of : agree_below are_of (λ _. true) 90 ≡ true
all_are_of = refl

record IsOf (label voice other : ℕ) : Type 0 where
  own : is_shared other ≡ false
  base_is : base_of other ≡ label
  voice_is : voice_of other ≡ voice
  low : other < 113

of_voice : (label voice other : ℕ) → is_own label ≡ true → voice < 3 → label + 7 * voice ≡ other →
    IsOf label voice other
of_voice label voice other own three is =
    let below = ltb-true label 90 (and_parts (nat_lt label 90) _ own).0 in
    let each : agree_below (is_of label) (λ _. true) 3 ≡ true =
    (rw own at (agree_below_at are_of (λ _. true) 90 label all_are_of below)) in
    let both : is_of label voice ≡ true = agree_below_at (is_of label) (λ _. true) 3 voice each three in
    let parts = and_parts (not (is_shared other) && nat_eq (base_of other) label) _ (rw is at both) in
    let one = and_parts (not (is_shared other)) _ parts.0 in
    let two = and_parts (nat_eq (voice_of other) voice) _ parts.1 in
    record {
      own = not-true (is_shared other) one.0;
      base_is = eqb-true (base_of other) label one.1;
      voice_is = eqb-true (voice_of other) voice two.0;
      low = ltb-true other 113 two.1;
    }

-- ---- voices

own_has : (holds : ℕ → Bool) (label voice other : ℕ) → IsOf label voice other →
    has_byte holds other ≡ stands_under holds (asked_in voice_rows label)
unfolding has_byte
own_has holds label voice other its =
    ap (stands_under holds) (own_asks other its.own its.low ∙ ap (asked_in voice_rows) its.base_is)

own_is : (holds : ℕ → Bool) (label voice other : ℕ) → IsOf label voice other → has_byte holds other ≡ true →
    place_of holds other ≡ own_place (position_in (voice_labels holds) label) voice
own_is holds label voice other its there =
    own_stands holds other there its.own
    ∙ ap₂ own_place (ap (position_in (voice_labels holds)) its.base_is) its.voice_is

pub voices_are_alike : VoicesAreAlike
voices_are_alike holds label voice own three =
    own_has holds label voice (label + 7 * voice) (of_voice label voice (label + 7 * voice) own three refl)
    ∙ sym (own_has holds label 0 label (of_voice label 0 label own (omega arith) (omega arith)))

further : (field voice : ℕ) → own_place field voice ≡ own_place field 0 + 7 * voice
further field voice = omega arith

pub voices_are_in_step : VoicesAreInStep
voices_are_in_step holds label voice own three there =
    own_is holds label voice (label + 7 * voice) (of_voice label voice (label + 7 * voice) own three refl)
    (voices_are_alike holds label voice own three ∙ there)
    ∙ (further (position_in (voice_labels holds) label) voice
    ∙ ap (λ place. place + 7 * voice)
    (sym (own_is holds label 0 label (of_voice label 0 label own (omega arith) (omega arith)) there)))

-- ---- the funk tempos

pub funk_is_together : FunkIsTogether
funk_is_together holds = (
  second_too holds,
  λ there.
      shared_stands holds 112 (second_too holds ∙ there) refl
      ∙ ap (λ place. place + 1) (sym (shared_stands holds 111 there refl)),
)
