-- What the lines in front of the parts find.
use Rattle.std.proofs.Common.{◌≡◌, ◌≢◌, ℕ, ◌+◌, ◌-◌, ◌<◌, ◌⊎◌, Bool, true, false, ◌&&◌}
use Rattle.std.proofs.Common.{if◌then◌else◌, nat_eq, nat_le, refl, ◌∙◌, inl, inr, arith}
use Rattle.std.proofs.lemmas.Bool.{le-leb, lt-leb, lt-ltb, le-ltb, ne_eqb, eq-eqb, cases_lt}
use Rattle.std.specs.Int.Bits.{bit_and}
use Rattle.std.proofs.lemmas.Grind.{and_numeral}
use Rattle.song_model.specs.declared.orders.Order.{Order}
use Rattle.play_model.specs.State.{Playing}
use Rattle.scopes.specs.Desk.{Desk, Layout}
use Rattle.player_memory.specs.declared.conditions.TheConstants.{REPEATS}
use Rattle.player_memory.specs.declared.labels.TheConstants.{TICK, TEMPO, NEW_COMMAND, NEW_PARAM, COMMAND, PARAM}
use Rattle.player_memory.specs.declared.labels.TheConstants.{WAVE_POINTER, REPEAT}
use Rattle.player_memory.specs.Fetching.{WalkStands, GoesOn, Repeats}
use Rattle.idle_parts.specs.Idle.{HoldsVoice}
use Rattle.idle_parts.specs.Fronts.{FrontsEnd, StoredIsLow, CommandsAreFound, EffectsAreFound, NotesAreFound}
use Rattle.idle_parts.specs.Fronts.{LentAreFound}
use Rattle.idle_parts.specs.Fronts.{PlaysAreFound}
use Rattle.idle_parts.proofs.Reading.{own_sees, own_writes, own_is, own_bytes}

pub fronts_end : {layout : Layout} {rows voice : ℕ} {s : Playing} {desk : Desk} →
    HoldsVoice layout rows voice s desk → FrontsEnd layout rows voice s desk
fronts_end {layout} {rows} {voice} {s} {desk} h = record {
  tempo = λ over. (
      let sees = own_sees h TICK refl in
      let is = own_is h TICK 0 refl ((own_bytes h).tick ∙ over) in
      let writes = own_writes h TICK refl in
      let sees_tempo = own_sees h TEMPO refl in
      rw (sees, is, writes, sees_tempo) refl);
  vibrato = λ kept none. (
      let sees = own_sees h COMMAND refl in
      let is = own_is h COMMAND 0 refl ((own_bytes h).command kept ∙ none) in
      rw (sees, is) refl);
  command = λ left some listed high. (
      let sees = own_sees h WAVE_POINTER refl in
      let is = own_is h WAVE_POINTER s.voice.wave_ptr refl (own_bytes h).wave_pointer in
      let z = ne_eqb s.voice.wave_ptr 0 some in
      let sees_left = listed.reads in
      let is_left = listed.is in
      let c : nat_le 0xE0 left ≡ true = le-leb 0xE0 left high in
      rw (sees, is, z, sees_left, is_left, c) refl);
}

either_low : (left : ℕ) (w : Bool) → left < 0xF0 → (if w then left - 0xE0 else left) < 0xF0
either_low left true low = omega (arith, low)
either_low left false low = low

pub stored_is_low : StoredIsLow
stored_is_low left low = elim (cases_lt left 0x10) [
  | inl few ↦ rw (lt-ltb left 0x10 few) (omega (arith, few))
  | inr many ↦ rw (le-ltb left 0x10 many) (either_low left (nat_le 0xE0 left && nat_le left 0xEF) low)
]

pub commands_are_found : CommandsAreFound
commands_are_found layout rows voice s desk h row kept high =
    let some : s.voice.new_command ≢ 0 = λ e. absurd (omega (arith, high, e)) in
    let sees = own_sees h NEW_COMMAND refl in
    let is = own_is h NEW_COMMAND s.voice.new_command refl ((own_bytes h).new_command row) in
    let sees_param = own_sees h NEW_PARAM refl in
    let is_param = own_is h NEW_PARAM s.voice.new_param refl ((own_bytes h).new_param row some) in
    let z = ne_eqb s.voice.new_command 0 some in
    let c : nat_le 5 s.voice.new_command ≡ true = le-leb 5 s.voice.new_command high in
    record {
      ends = rw (sees, is, row, z, kept, c, sees_param) refl;
      a_is = rw (sees, is, row, z, kept, c, sees_param, is_param) refl;
      y_is = rw (sees, is, row, z, kept, c, sees_param) refl;
      stays = λ place. rw (sees, is, row, z, kept, c, sees_param) refl;
      x = rw (sees, is, row, z, kept, c, sees_param) refl;
      decimal = rw (sees, is, row, z, kept, c, sees_param) refl;
    }

pub effects_are_found : EffectsAreFound
effects_are_found layout rows voice s desk h effects out =
    let sees = own_sees h PARAM refl in
    let is = own_is h PARAM s.voice.param refl ((own_bytes h).param effects) in
    record {
      ends = rw (sees, out) refl;
      a_is = rw (sees, out) refl;
      y_is = rw (sees, out, is) refl;
      stays = λ place. rw (sees, out) refl;
      x = rw (sees, out) refl;
      decimal = rw (sees, out) refl;
    }

pub notes_are_found : NotesAreFound
notes_are_found layout desk from to =
    let named : nat_le 0x60 desk.cpu.a ≡ true = le-leb 0x60 desk.cpu.a from in
    let c : nat_le 0xBD desk.cpu.a ≡ false = lt-leb 0xBD desk.cpu.a to in
    record {
      finds = record {
        ends = rw (named, c) refl;
        a_is = rw (named, c) refl;
        y_is = rw (named, c) refl;
        stays = λ place. rw (named, c) refl;
        x = rw (named, c) refl;
        decimal = rw (named, c) refl;
      };
      carry = rw (named, c) refl;
    }

pub lent_are_found : LentAreFound
lent_are_found layout rows desk command right some few a listed =
    let low : bit_and (0xF0 + command) 15 ≡ command = and_numeral (0xF0 + command) 14 refl ∙ omega (arith, few) in
    let z = ne_eqb command 0 (λ e. absurd (omega (arith, some, e))) in
    let c : nat_le 5 command ≡ true = le-leb 5 command some in
    let here : nat_eq layout.pointer layout.pointer ≡ true = eq-eqb layout.pointer layout.pointer refl in
    let sees = listed.reads in
    let is = listed.is in
    let other = ne_eqb _ _ listed.elsewhere.low in
    record {
      ends = rw (a, low, z, c, here, sees) refl;
      a_is = rw (a, low, z, c, here, sees, other, is) refl;
      y_is = rw (a, low, z, c, here, sees, here) refl;
      stays = λ place apart. (let away = ne_eqb place layout.pointer apart in rw (a, low, z, c, here, sees, away) refl);
    }

plays_found : (layout : Layout) (order : Order) (n : ℕ) (own : ℕ → ℕ) → WalkStands layout order n own →
    (own REPEAT ≡ 0) ⊎ ((own REPEAT ≢ 0) × (layout.holds REPEATS ≡ true))
plays_found layout order n own (GoesOn at is none place transpose repeat) = inl repeat
plays_found layout order n own (Repeats kept pattern has place transpose repeat) =
    inr ((λ e. absurd (omega (arith, repeat, e))), kept)

pub plays_are_found : PlaysAreFound
plays_are_found layout order n own walk = plays_found layout order n own walk
