-- The second song's subtunes name instruments first in the joined song too, and begin with the same timer.
use Rattle.std.specs.Prelude.{not, ◌==◌, ◌||◌, ◌%◌}
use Rattle.std.proofs.Common.{◌≡◌, ◌≢◌, ℕ, suc, ◌+◌, ◌-◌, ◌<◌, Bool, List, [], ◌∷◌, map}
use Rattle.std.proofs.Common.{length, Contains, refl, sym, ap, ◌∙◌, subst, inl, inr, arith}
use Rattle.std.specs.Prelude.{Option, Some, None}
use Rattle.std.specs.Option.{option_map}
use Rattle.std.specs.List.{find}
use Rattle.std.proofs.lemmas.Bool.{cases_eq, cases_Bool, ne_eqb}
use Rattle.std.proofs.lemmas.List.{length-map}
use Rattle.song_model.specs.declared.rows.Row.{Row}
use Rattle.song_model.specs.declared.instruments.Instrument.{Instrument}
use Rattle.song_model.specs.declared.orders.Order.{Order}
use Rattle.song_model.specs.declared.orders.Step.{Step}
use Rattle.song_model.specs.declared.songs.Song.{Song}
use Rattle.song_model.specs.PatternLimits.{IsPatternLength}
use Rattle.song_model.specs.Walk.{played}
use Rattle.song_model.specs.LookUp.{order_of, instrument_at, pattern_at, playable_subtunes}
use Rattle.song_model.proofs.Laws.{plays_are_patterns_lem}
use Rattle.play_model.specs.LookUps.{look_ups_of}
use Rattle.play_model.specs.FetchRow.{is_note}
use Rattle.play_model.specs.Frame.{subtune_at}
use Rattle.play_model.specs.Used.{IsPlayedOrder, IsUsedPattern}
use Rattle.play_model.proofs.Laws.{whole_lem}
use Rattle.safe_states.proofs.Laws.{is_played, play_length}
use Rattle.same_frames.specs.Agreement.{PlaysFor, SubtunePlaysFor}
use Rattle.same_frames.specs.OrderLaws.{moved_subtune}
use Rattle.same_frames.specs.Begins.{is_opening, opening, opening_of_play, BeginsUnnamed as BeginsUnnamedIn, timer_of}
use Rattle.same_frames.specs.Begins.{MayBeginWith}
use Rattle.song_join.specs.Joined.{moved_pattern_row}
use Rattle.song_join.specs.JoinLaws.{AreJoinable}
use Rattle.song_join.proofs.FoundParts.{first_instrument}
use Rattle.song_join.proofs.FirstPart.{instrument_stored}
use Rattle.song_join.proofs.SecondPart.{maps, both, play, no_instrument, instrument_is, row_some, pattern_is}

-- ---- the first item that passes a test, among what a function makes

find_made : {X Y : Type 0} (f : X → Y) (p : X → Bool) (q : Y → Bool) (xs : List X) →
    ((x : X) → Contains xs x → q (f x) ≡ p x) → find q (map f xs) ≡ option_map f (find p xs)
find_made f p q [] same = refl
find_made {X} f p q (x ∷ xs) same =
    let here : q (f x) ≡ p x = same x (0, omega arith, refl) in
    let rest = find_made f p q xs (λ y (k, inside, is). same y (suc k, omega arith, is)) in
    elim (cases_Bool (p x)) [
      | inl pass ↦ (let its = here ∙ pass in rw pass (rw its refl))
      | inr fail ↦ (let its = here ∙ fail in rw fail (rw its rest))
    ]

find_has : {X : Type 0} (p : X → Bool) (xs : List X) (x : X) → find p xs ≡ Some x → Contains xs x
find_has p [] x e = absurd (cc)
find_has {X} p (y ∷ xs) x e = elim (cases_Bool (p y)) [
  | inl pass ↦ (
      let some : Some y ≡ Some x = rw pass at e in
      let same : y ≡ x = cc in
      subst (λ (z : X). Contains (y ∷ xs) z) same (0, omega arith, refl))
  | inr fail ↦ (
      let rest = find_has p xs x (rw fail at e) in
      (suc rest.0, (let inside = rest.1 in omega arith), rest.2))
]

-- what a value that may be there was before
pub record WasBefore {X Y : Type 0} (f : X → Y) (o : Option X) (y : Y) : Type 0 where
  pub x : X
  pub was : o ≡ Some x
  pub is : f x ≡ y

some_before : {X Y : Type 0} (f : X → Y) (o : Option X) (y : Y) → option_map f o ≡ Some y → WasBefore f o y
some_before f None y e = absurd (cc)
some_before f (Some x) y e = record { x = x; was = refl; is = (let h : Some (f x) ≡ Some y = e in cc) }

none_before : {X Y : Type 0} (f : X → Y) (o : Option X) → option_map f o ≡ None → o ≡ None
none_before f None e = refl
none_before f (Some x) e = absurd (cc)

-- ---- openings

same_test : (to : ℕ → ℕ) (i : ℕ) → to 0 ≡ 0 → (i ≢ 0 → to i ≢ 0) → (to i == 0) ≡ (i == 0)
same_test to i nothing some = elim (cases_eq i 0) [
  | inl z ↦ rw z (rw nothing refl)
  | inr n ↦ ne_eqb (to i) 0 (some n) ∙ sym (ne_eqb i 0 n)
]

module _ (first second : Song) (j : AreJoinable first second) where
  move : Row → Row
  move row = moved_pattern_row (maps first second j) row

  same_opening : (row : Row) → (row.instrument ≢ 0 → (maps first second j).instrument row.instrument ≢ 0) →
      is_opening (move row) ≡ is_opening row
  unfolding move
  same_opening row some =
      ap (λ (z : Bool). is_note row.note || not z)
      (same_test (maps first second j).instrument row.instrument (no_instrument first second j) some)

  pattern_some : (n : ℕ) → IsUsedPattern second n → (row : Row) → Contains (pattern_at second n) row →
      row.instrument ≢ 0 → (maps first second j).instrument row.instrument ≢ 0
  pattern_some n used row has = row_some first second j row (record { pattern = n; used = used; has = has })

  opening_moved : (n : ℕ) → IsUsedPattern second n →
      opening ((both first second j).rows ((maps first second j).pattern n)) ≡ option_map move (opening (pattern_at second n))
  unfolding move
  opening_moved n used =
      ap opening (pattern_is first second j n used)
      ∙ find_made (moved_pattern_row (maps first second j)) is_opening is_opening (pattern_at second n)
      (λ row has. same_opening row (pattern_some n used row has))

  -- ---- an orderlist of the second song

  play_used : (order : Order) (i : ℕ) → IsPlayedOrder second order → IsUsedPattern second (played order i).pattern
  play_used order i o =
      let plays = plays_are_patterns_lem order i ((whole_lem second j.second_plays).order order o) in
      record { byte = record { order = order; played = o; entry = plays.entry }; is_pattern = plays.pattern }

  opening_of : (order beyond : Order) (i : ℕ) → IsPlayedOrder second order → PlaysFor (maps first second j) order beyond →
      opening_of_play (both first second j) beyond i ≡ option_map move (opening (pattern_at second (played order i).pattern))
  opening_of order beyond i o plays =
      ap (λ (step : Step). opening ((both first second j).rows step.pattern)) (plays i)
      ∙ opening_moved (played order i).pattern (play_used order i o)

  named_still : (order beyond : Order) → IsPlayedOrder second order → PlaysFor (maps first second j) order beyond →
      BeginsUnnamedIn (both first second j) beyond → BeginsUnnamedIn (look_ups_of second) order
  unfolding move
  named_still order beyond o plays b =
      let n = (played order b.play).pattern in
      let was =
      some_before move (opening (pattern_at second n)) b.row (sym (opening_of order beyond b.play o plays) ∙ b.opens) in
      let has = find_has is_opening (pattern_at second n) was.x was.was in
      record {
        play = b.play;
        row = was.x;
        opens = was.was;
        unnamed = elim (cases_eq was.x.instrument 0) [
          | inl none ↦ none
          | inr some ↦ absurd (pattern_some n (play_used order b.play o) was.x has some
              (ap (λ (row : Row). row.instrument) was.is ∙ b.unnamed))
        ];
        before = λ i low.
            none_before move (opening (pattern_at second (played order i).pattern))
            (sym (opening_of order beyond i o plays) ∙ b.before i low);
      }

  -- ---- the timers

  timer_first : timer_of (both first second j) 1 ≡ (instrument_at first 1).gate_timer % 64
  timer_first =
      ap (λ (x : Instrument). x.gate_timer % 64)
      (first_instrument first second 1 (instrument_stored first j.can.instruments.first_song 1 (inl refl)))

  timer_second : timer_of (both first second j) ((maps first second j).instrument 1)
      ≡ (instrument_at second 1).gate_timer % 64
  timer_second = ap (λ (x : Instrument). x.gate_timer % 64) (instrument_is first second j 1 (inl refl))

  -- ---- a subtune of the second song

  pub may_begin : (k : ℕ) → k < length (playable_subtunes second) →
      SubtunePlaysFor (maps first second j) (subtune_at second k)
      (moved_subtune (maps first second j) (subtune_at second k)) →
      MayBeginWith (both first second j) (moved_subtune (maps first second j) (subtune_at second k))
      ((maps first second j).instrument 1) 1
  may_begin k low plays = record {
    timer = timer_first ∙ j.can.timers ∙ sym timer_second;
    named = λ channel c begins.
        let place : k + 1 - 1 ≡ k = omega arith in
        j.can.named (k + 1) channel (record {
          first = omega arith;
          last = omega arith;
          is_channel = c;
          begins =
              subst (λ (n : ℕ). BeginsUnnamedIn (look_ups_of second) (order_of channel (subtune_at second n)))
              (sym place)
              (named_still (order_of channel (subtune_at second k)) _ (is_played second k channel low c) (plays channel c)
              begins);
        });
    lengths = λ channel n c.
        let order = order_of channel (subtune_at second k) in
        let o = is_played second k channel low c in
        let long =
        ap (λ (step : Step). length ((both first second j).rows step.pattern)) (plays channel c n)
        ∙ ap length (pattern_is first second j (played order n).pattern (play_used order n o))
        ∙ length-map (pattern_at second (played order n).pattern) (moved_pattern_row (maps first second j)) in
        subst IsPatternLength (sym long) (play_length second order n (play first second j) o);
  }
