-- First places of channels that have something to play, worked out by hand.
use Rattle.std.proofs.Common.{◌≡◌, ℕ, zero, suc, ◌<◌, ◌≤◌, [], ◌∷◌, Some, slice_get, lit<, lit≤, refl, sym, ◌∙◌, ap}
use Rattle.std.proofs.Common.{subst, inl, inr, arith}
use Rattle.std.specs.List.{Any}
use Rattle.std.proofs.lemmas.Bool.{cases_order}
use Rattle.base.proofs.Laws.{same_some}
use Rattle.song_model.specs.declared.orders.Order.{Order}
use Rattle.song_model.specs.declared.orders.Subtune.{Subtune}
use Rattle.song_model.specs.declared.songs.Song.{Song}
use Rattle.song_model.specs.LookUp.{order_of, pattern_at}
use Rattle.song_model.specs.Silence.{rest_row}
use Rattle.play_model.specs.Used.{IsChannel}
use Rattle.play_model.specs.Playable.{HasOrder}
use Rattle.play_model.specs.WorkedSongs.{subtune, row}
use Rattle.play_model.proofs.Laws.{one_order}
use Rattle.song_facts.specs.declared.facts.Fact.TheVariants.{VoiceTwo}
use Rattle.song_facts.specs.Facts.{IsHeard}
use Rattle.song_places.specs.declared.places.Place.{Place}
use Rattle.song_places.specs.declared.places.Place.TheVariants.{InOrder, InPattern, InInstrument, InWaveTable}
use Rattle.song_places.specs.Needs.{NamesHeard}
use Rattle.song_places.specs.Places.{IsNeededAt, NeedsFactAt, IsNotAfter}
use Rattle.song_places.specs.WorkedPlaces.{sounding, VoicesAreWorked}
use Rattle.song_places.proofs.Ranks.{lower, begun}
use Rattle.song_places.proofs.HeardBytes.{channel_two, channel_three, heard_on}
use Rattle.song_places.proofs.WorkedPlaces.{is_second}

-- ---- its orderlists

second : Subtune
second = subtune (1 ∷ []) (0 ∷ 1 ∷ 1 ∷ []) (0xF1 ∷ 0xD2 ∷ 2 ∷ [])

in_second : (s c : ℕ) (order : Order) → HasOrder sounding s c order → s ≡ 2
in_second = is_second sounding (subtune (1 ∷ []) (1 ∷ []) []) refl refl refl

order_second : (c : ℕ) → IsChannel c → HasOrder sounding 2 c (order_of c second)
unfolding second
order_second c is = record {
  subtune = second;
  stored = record { first = lit≤ tt; last = lit≤ tt };
  subtune_is = refl;
  playable = refl;
  is_channel = is;
  order_is = refl;
}

-- a byte of one that gives the fact
abbrev IsGivenAt : ℕ → ℕ → Type 0
IsGivenAt channel i = IsNeededAt sounding (heard_on sounding channel) (InOrder 2 channel i)

given_at : (channel i b : ℕ) → IsChannel channel → slice_get (order_of channel second).entries i ≡ Some b →
    NamesHeard sounding b → IsGivenAt channel i
given_at channel i b is there names = record {
  order = order_of channel second;
  has = order_second channel is;
  byte = b;
  there = there;
  is_meant = (refl, names);
}

names_at : (channel i b : ℕ) → IsChannel channel → slice_get (order_of channel second).entries i ≡ Some b →
    IsGivenAt channel i → NamesHeard sounding b
names_at channel i b is there at =
    let own = order_of channel second in
    let same : at.order ≡ own = one_order sounding 2 channel own at.order (order_second channel is) at.has in
    subst (NamesHeard sounding)
    (same_some at.byte b (sym at.there ∙ ap (λ (order : Order). slice_get order.entries i) same ∙ there)) at.is_meant.1

-- ---- its patterns

note_named : NamesHeard sounding 1
unfolding pattern_at
note_named = record {
  is_pattern = lit< tt;
  heard = (1, row 0x90 1 0 0, lit< tt, refl, inl (lit≤ tt, lit≤ tt));
}

command_named : NamesHeard sounding 2
unfolding pattern_at
command_named = record {
  is_pattern = lit< tt;
  heard = (0, row 0xBD 0 5 0, lit< tt, refl, inr (λ e. omega (arith, e)));
}

no_rest : ¬ NamesHeard sounding 0
unfolding pattern_at
no_rest names = none names.heard
  where
    rests : ¬ IsHeard rest_row
    rests (inl note) = (let high = note.1 in omega (arith, high))
    rests (inr command) = command refl

    none : Any IsHeard (rest_row ∷ []) → ⊥
    none (zero, r, inside, is, heard) = rests (subst IsHeard (sym is) heard)
    none (suc k, r, inside, is, heard) = omega (arith, inside)

no_pattern : (song : Song) (b : ℕ) → 0xD0 ≤ b → ¬ NamesHeard song b
no_pattern song b high names = (let low = names.is_pattern in omega (arith, high, low))

-- ---- its places

-- the first of the channel is this one where none before it is
first_of : (channel i : ℕ) → ((k : ℕ) → k < i → ¬ IsGivenAt channel k) → (other : Place) →
    IsNeededAt sounding (heard_on sounding channel) other → IsNotAfter (InOrder 2 channel i) other
first_of channel i none (InOrder s c k) at =
    let is_two = in_second s c at.order at.has in
    let is_own = at.is_meant.0 in
    let same : InOrder s c k ≡ InOrder 2 channel k = rw (is_two, is_own) refl in
    subst (IsNotAfter (InOrder 2 channel i)) (sym same) (elim (cases_order i k) [
      | inl here ↦
          subst (λ (n : ℕ). IsNotAfter (InOrder 2 channel i) (InOrder 2 channel n)) here
          (begun (1 ∷ 2 ∷ channel ∷ i ∷ []) []).is
      | inr other ↦ elim other [
        | inl later ↦ (lower (1 ∷ 2 ∷ channel ∷ []) i k [] [] later).is
        | inr before ↦ absurd (none k before (subst (IsNeededAt sounding (heard_on sounding channel)) same at))
      ]
    ])
first_of channel i none (InPattern p k) at = absurd at.is_meant
first_of channel i none (InInstrument n) at = absurd at.is_meant
first_of channel i none (InWaveTable p) at = absurd at.is_meant

before_note : (k : ℕ) → k < 1 → ¬ IsGivenAt 2 k
unfolding second
before_note zero few at = no_rest (names_at 2 0 0 channel_two refl at)
before_note (suc k) few at = omega (arith, few)

before_command : (k : ℕ) → k < 2 → ¬ IsGivenAt 3 k
unfolding second
before_command zero few at = no_pattern sounding 0xF1 (lit≤ tt) (names_at 3 0 0xF1 channel_three refl at)
before_command (suc zero) few at = no_pattern sounding 0xD2 (lit≤ tt) (names_at 3 1 0xD2 channel_three refl at)
before_command (suc (suc k)) few at = omega (arith, few)

note_given : NeedsFactAt sounding VoiceTwo (InOrder 2 2 1)
unfolding second
note_given = given_at 2 1 1 channel_two refl note_named

pub voices_are_worked : VoicesAreWorked
unfolding second
voices_are_worked = record {
  two = record { is_such = note_given; first = first_of 2 1 before_note };
  rest = before_note 0 (lit< tt);
  next_byte = given_at 2 2 1 channel_two refl note_named;
  not_next_byte = λ first. (let e = first.first (InOrder 2 2 1) note_given in cc);
  of_one = λ at. (let on = at.is_meant.0 in omega (arith, on));
  of_three = λ at. (let on = at.is_meant.0 in omega (arith, on));
  unplayable = λ at. (let e = in_second 1 2 at.order at.has in omega (arith, e));
  no_row = λ at. at.is_meant;
  three = record {
    is_such = given_at 3 2 2 channel_three refl command_named;
    first = first_of 3 2 before_command;
  };
  of_two = λ at. (let on = at.is_meant.0 in omega (arith, on));
  no_transpose = before_command 0 (lit< tt);
  no_repeat = before_command 1 (lit< tt);
  no_pattern = no_pattern;
}
