-- What an image does for one song it does for each song that plays the same: the number of playable subtunes tells
-- which calls may be made and which machines they lead to, and the trace what a call leaves.
use Rattle.std.proofs.Common.{ℕ, zero, suc, ◌<◌, List, [], ◌∷◌, length, Option, Some, None, ◌∙◌, subst}
use Rattle.std.specs.Option.{option_map}
use Rattle.song_model.specs.declared.songs.Song.{Song}
use Rattle.song_model.specs.LookUp.{playable_subtunes}
use Rattle.play_model.specs.declared.options.Options.{Options}
use Rattle.play_model.specs.Frame.{trace_with}
use Rattle.cpu6502.specs.declared.machine.Machine.{Machine}
use Rattle.same_frames.specs.SamePlays.{PlaysSame}
use Rattle.faithful.specs.Faithful.{Leaves, PlaysOn, IsFaithful}
use Rattle.faithful.specs.Histories.{ImageCall, Init, Play, IsMade, LeadTo, since_init, PlaysAlways}
use Rattle.faithful.specs.Isolation.{IsIsolated}
use Rattle.faithful.specs.SamePlays.{SameSongsAreServed}
use Rattle.faithful.proofs.Always.{led_by}

-- ---- after an init a playable subtune is played

-- the subtune of the last init, where there was one, is a playable one
abbrev IsPlayed : Song → Option (ℕ × ℕ) → Type 0
IsPlayed song None = Unit {0}
IsPlayed song (Some last) = last.0 < length (playable_subtunes song)

-- and still is after one more play
played_on : (song : Song) (before : Option (ℕ × ℕ)) → IsPlayed song before →
    IsPlayed song (option_map (λ (last : ℕ × ℕ). (last.0, suc last.1)) before)
played_on song None played = tt
played_on song (Some last) played = played

played_after : (image : List ℕ) (address : ℕ) (song : Song) (calls : List ImageCall) (last : Machine) →
    LeadTo image address song calls last → IsPlayed song (since_init calls)
played_after image address song [] last led = tt
played_after image address song (Init k ∷ earlier) last led = led.made.0
played_after image address song (Play ∷ earlier) last led =
    played_on song (since_init earlier) (played_after image address song earlier led.before led.stood)

module _ (image : List ℕ) (address zero_page : ℕ) (o : Options) (song other : Song) (same : PlaysSame o song other)
  where
    -- ---- the same calls lead to the same machines

    pub made_for : (call : ImageCall) (number : ℕ) → IsMade song call number → IsMade other call number
    made_for (Init k) number made = (rw same.count made.0, made.1)
    made_for Play number made = made

    pub led_for : (calls : List ImageCall) (last : Machine) → LeadTo image address song calls last →
        LeadTo image address other calls last
    led_for [] last led = led
    led_for (call ∷ earlier) last led =
        led_by led.before led.machine led.number led.steps last (led_for earlier led.before led.stood) led.is led.agrees
        (made_for call led.number led.made) led.called

    -- ---- an init and plays after it

    leaves_for : (k i : ℕ) → k < length (playable_subtunes song) → (machine : Machine) (entry number : ℕ)
        (after : Machine) →
        Leaves image address zero_page o machine entry number (trace_with o other k i) after →
        Leaves image address zero_page o machine entry number (trace_with o song k i) after
    leaves_for k i few machine entry number after leaves =
        subst (λ (registers : List ℕ). Leaves image address zero_page o machine entry number registers after)
        (same.trace k i few) leaves

    plays_on : (k i n : ℕ) (before : Machine) → k < length (playable_subtunes song) →
        PlaysOn image address zero_page other o k i n before → PlaysOn image address zero_page song o k i n before
    plays_on k i zero before few plays = tt
    plays_on k i (suc n) before few plays = λ machine number is small agrees.
        let next = plays machine number is small agrees in
        record {
          after = next.after;
          leaves = leaves_for k i few machine _ number next.after next.leaves;
          timer = next.timer;
          goes_on = plays_on k (suc i) n next.after few next.goes_on;
        }

    faithful_for : IsFaithful image address zero_page other o → IsFaithful image address zero_page song o
    faithful_for faithful = record {
      plays = λ k n machine few is holds.
          let first = faithful.plays k n machine (rw same.count few) is holds in
          record {
            after = first.after;
            leaves = leaves_for k 0 few machine address k first.after first.leaves;
            timer = first.timer;
            goes_on = plays_on k 1 n first.after few first.goes_on;
          };
    }

    -- ---- any calls

    always_for : PlaysAlways image address zero_page other o → PlaysAlways image address zero_page song o
    always_for always = record {
      serves = λ earlier call before machine number led is agrees made.
          let s =
          always.serves earlier call before machine number (led_for earlier before led) is agrees
          (made_for call number made) in
          let played =
          played_after image address song (call ∷ earlier) s.after
          (led_by before machine number s.steps s.after led is agrees made s.called) in
          record {
            steps = s.steps;
            within = s.within;
            after = s.after;
            called = s.called;
            confined = s.confined;
            stores = s.stores;
            timer = s.timer;
            registers = λ k n last. s.registers k n last ∙ same.trace k n (subst (IsPlayed song) last played);
          };
    }

    isolated_for : IsIsolated image address other → IsIsolated image address song
    isolated_for isolated = record {
      alike = λ earlier call before one two number number' led some is agrees made is' agrees' made'.
          isolated.alike earlier call before one two number number' (led_for earlier before led) some is agrees
          (made_for call number made) is' agrees' (made_for call number' made');
    }

pub same_songs_lem : SameSongsAreServed
same_songs_lem image address zero_page o song other same = record {
  faithful = faithful_for image address zero_page o song other same;
  always = always_for image address zero_page o song other same;
  isolated = isolated_for image address zero_page o song other same;
}
