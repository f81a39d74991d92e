-- The still song keeps the limits and can be played, so two of it are joined as they should.
use Rattle.std.proofs.Common.{◌≡◌, ℕ, zero, suc, ◌-◌, ◌<◌, [], ◌∷◌, All, Some, None, replicate}
use Rattle.std.proofs.Common.{slice_get, ◌≤◌, ◌⊎◌, refl, sym, ap, ◌∙◌, inl, inr, arith, lit<, lit≤}
use Rattle.std.proofs.lemmas.List.{get_or_past}
use Rattle.std.proofs.lemmas.List.Elements.{All-nil, All-cons, All-contains, All-replicate}
use Rattle.std.proofs.lemmas.Option.{get_or_from_slice_get, slice_get_within}
use Rattle.song_model.specs.declared.rows.Row.{Row}
use Rattle.song_model.specs.declared.orders.Order.{Order}
use Rattle.song_model.specs.declared.orders.Subtune.{Subtune}
use Rattle.song_model.specs.declared.tables.TableName.{TableName}
use Rattle.song_model.specs.declared.tables.TableName.TheVariants.{Wave, Pulse, Filter, Speed}
use Rattle.song_model.specs.Basics.{IsByte}
use Rattle.song_model.specs.Endless.{IsEndless}
use Rattle.song_model.specs.Limits.{IsOrder, IsSubtune, IsInstrument, IsTable, IsTableRow, KeepsLimits}
use Rattle.song_model.specs.PatternLimits.{IsRow, IsPattern}
use Rattle.song_model.specs.LookUp.{zero_instrument, instrument_at, pattern_at, order_of}
use Rattle.song_model.specs.Pointers.{instrument_pointer, command_table}
use Rattle.song_model.specs.Silence.{rest_row, order_of_zero}
use Rattle.play_model.specs.declared.unplayable.Unplayable.TheVariants.{NoSubtune, MissingPattern, BadRestart}
use Rattle.play_model.specs.declared.unplayable.Unplayable.TheVariants.{TableOverflow, PointerToJump}
use Rattle.play_model.specs.Used.{IsChannel, IsUsedRow}
use Rattle.play_model.specs.Reached.{of_instrument, of_row, of_played, of_wave_row, IsPlayedPointer, IsPointer}
use Rattle.play_model.specs.Reached.{IsReached, played, pointed, led}
use Rattle.play_model.specs.Playable.{HasOrder, IsJumpTarget, IsPlayable}
use Rattle.song_join.specs.JoinLaws.{AreJoinable}
use Rattle.song_join.specs.WorkedJoinable.{still_song}
use Rattle.song_join.proofs.FoundParts.{some_number}
use Rattle.song_join.proofs.WorkedJoinable.{joinable_songs_lem}

-- ---- its limits

text_is : (n : ℕ) → All IsByte (replicate n 0)
text_is n = All-replicate IsByte n 0 (lit< tt)

order_is : IsOrder order_of_zero
order_is = record {
  entries = record { count = lit≤ tt; each = All-cons (λ b. b < 0xFF) 0 [] (lit< tt) (All-nil (λ b. b < 0xFF)) };
  restart = lit< tt;
}

instrument_is : IsInstrument zero_instrument
instrument_is = record {
  ad = lit< tt;
  sr = lit< tt;
  wave = lit< tt;
  pulse = lit< tt;
  filter = lit< tt;
  vibrato = lit< tt;
  vibrato_delay = lit< tt;
  gate_timer = lit< tt;
  first_wave = lit< tt;
  name = record { count = refl; each = text_is 16 };
}

row_is : IsRow rest_row
row_is = record {
  note_from = lit≤ tt;
  note_to = lit≤ tt;
  instrument = lit≤ tt;
  command = lit≤ tt;
  param = lit< tt;
}

pattern_is : IsPattern (rest_row ∷ [])
pattern_is = record {
  count = record { least = lit≤ tt; most = lit≤ tt };
  each = All-cons IsRow rest_row [] row_is (All-nil IsRow);
}

no_rows : IsTable []
no_rows = record { count = lit≤ tt; each = All-nil IsTableRow }

still_limits : KeepsLimits still_song
still_limits = record {
  name = record { count = refl; each = text_is 32 };
  author = record { count = refl; each = text_is 32 };
  copyright = record { count = refl; each = text_is 32 };
  subtunes = record {
    count = lit≤ tt;
    each = All-cons IsSubtune _ [] (record { one = order_is; two = order_is; three = order_is }) (All-nil IsSubtune);
  };
  instruments = record {
    count = lit≤ tt;
    each = All-cons IsInstrument zero_instrument [] instrument_is (All-nil IsInstrument);
  };
  wave = no_rows;
  pulse = no_rows;
  filter = no_rows;
  speed = no_rows;
  patterns = record { count = lit≤ tt; each = All-cons IsPattern (rest_row ∷ []) [] pattern_is (All-nil IsPattern) };
}

-- ---- its orderlists

abbrev zero_subtune : Subtune
zero_subtune = record { one = order_of_zero; two = order_of_zero; three = order_of_zero }

-- one item is found at place 0 alone
only_one : {X : Type 0} (one item : X) (place : ℕ) → slice_get (one ∷ []) place ≡ Some item → one ≡ item
only_one one item place found =
    let low : place < 1 = slice_get_within (one ∷ []) place item found in
    let first : place ≡ 0 = omega arith in
    let at_first : slice_get (one ∷ []) 0 ≡ Some item = rw first at found in
    get_or_from_slice_get (one ∷ []) 0 item one at_first

zero_order : (channel : ℕ) → IsChannel channel → order_of channel zero_subtune ≡ order_of_zero
zero_order zero is = let least = is.first in absurd (omega arith)
zero_order (suc zero) is = refl
zero_order (suc (suc zero)) is = refl
zero_order (suc (suc (suc zero))) is = refl
zero_order (suc (suc (suc (suc n)))) is = let last = is.last in absurd (omega arith)

has_zero : (s c : ℕ) (order : Order) → HasOrder still_song s c order → order ≡ order_of_zero
has_zero s c order has =
    let is : zero_subtune ≡ has.subtune = only_one zero_subtune has.subtune (s - 1) has.subtune_is in
    has.order_is ∙ (ap (λ x. order_of c x) (sym is) ∙ zero_order c has.is_channel)

zero_endless : IsEndless order_of_zero
zero_endless = record { restart = lit< tt; pattern = (0, 0, lit< tt, refl, lit< tt) }

-- ---- nothing points

still_rows : (n : ℕ) → All (λ (r : Row). r.command ≡ 0) (pattern_at still_song n)
unfolding pattern_at
still_rows zero zero d low = refl
still_rows zero (suc k) d low = absurd (omega arith)
still_rows (suc n) k d low = absurd (omega arith)

no_command : (r : Row) → IsUsedRow still_song r → r.command ≡ 0
no_command r used =
    All-contains (λ (x : Row). x.command ≡ 0) (pattern_at still_song used.pattern) r (still_rows used.pattern) used.has

each_zero : (i : ℕ) → instrument_at still_song i ≡ zero_instrument
unfolding instrument_at
each_zero zero = refl
each_zero (suc zero) = refl
each_zero (suc (suc i)) =
    some_number (zero_instrument ∷ []) (suc (suc i)) zero_instrument (λ e. omega arith)
    ∙ get_or_past (zero_instrument ∷ []) (suc (suc i) - 1) zero_instrument (omega arith)

zero_pointer : (name : TableName) → instrument_pointer name zero_instrument ≡ 0
zero_pointer Wave = refl
zero_pointer Pulse = refl
zero_pointer Filter = refl
zero_pointer Speed = refl

none_played : (name : TableName) (p : ℕ) → ¬ IsPlayedPointer still_song name p
none_played name p (of_instrument i used is some) =
    some (sym is ∙ (ap (λ x. instrument_pointer name x) (each_zero i) ∙ zero_pointer name))
none_played name p (of_row r used command is some) =
    let e : None ≡ Some name = sym (ap (λ x. command_table x) (no_command r used)) ∙ command in
    cc

none_reached : (name : TableName) (p : ℕ) → ¬ IsReached still_song name p
none_reached name p (played x) = none_played name p x
none_reached name p (pointed r h w) = none_reached Wave r h
none_reached name q (led p h e) = none_reached name p h

none_pointed : (name : TableName) (p : ℕ) → ¬ IsPointer still_song name p
none_pointed name p (of_played x) = none_played name p x
none_pointed name p (of_wave_row r h w) = none_reached Wave r h

-- ---- so it can be played

still_plays : IsPlayable still_song
still_plays NoSubtune none = let nothing : zero_subtune ∷ [] ≡ [] = none in cc
still_plays (MissingPattern s c place pattern) m =
    let order = has_zero s c m.order m.has in
    let names : slice_get (0 ∷ []) place ≡ Some pattern = rw order at m.names in
    let is : 0 ≡ pattern = only_one 0 pattern place names in
    let missing : 1 ≤ pattern = m.missing in
    omega arith
still_plays (BadRestart s c) x = x.stops (rw (has_zero s c x.order x.has) zero_endless)
still_plays (TableOverflow name row) x = none_reached name row x.reached
still_plays (PointerToJump name row) x = unnamed x.named
  where
    unnamed : IsPointer still_song name row ⊎ IsJumpTarget still_song name row → ⊥
    unnamed (inl pointer) = none_pointed name row pointer
    unnamed (inr target) = none_reached name target.p target.reached

pub still_joinable : AreJoinable still_song still_song
still_joinable = record {
  first_limits = still_limits;
  second_limits = still_limits;
  first_plays = still_plays;
  second_plays = still_plays;
  can = joinable_songs_lem.can;
}
