-- The worked memory, computed by the checker.
use Rattle.std.proofs.Common.{ℕ, ◌+◌, ◌≡◌, Bool, true, false, inl, inr, refl}
use Rattle.std.proofs.Common.{sym, ap, arith}
use Rattle.std.proofs.lemmas.Bool.{true≢false}
use Rattle.scopes.specs.Meaning.{Outcome, Stuck}
use Rattle.play_model.specs.Frame.{voice_registers}
use Rattle.player_memory.specs.Rooms.{IsRoom, MayUse}
use Rattle.player_memory.proofs.Laws.{playing_in, InOnePiece, in_one_piece, list_behind}
use Rattle.player_memory.specs.declared.labels.TheConstants.{SLIDES_LOW, SLIDES_HIGH}
use Rattle.scopes.specs.Desk.{Layout}
use Rattle.player_memory.specs.Playing.{IsPlaying, IsAtVoice}
use Rattle.register_code.specs.WorkedRegisters.{from_1000, bare, counting, counted, bare_counted}
use Rattle.register_code.specs.WorkedRegisters.{RegistersAreWorked, OthersAreDenied}
use Rattle.register_code.proofs.Sounding.{register_block_writes}

piece : (layout : Layout) → ((label : ℕ) → layout.address label ≡ 0x1000 + label) → InOnePiece layout 0x1000
piece layout is = record { from = omega arith; to = omega arith; each = λ label few. is label }

room : IsRoom from_1000 0
room = record {
  variables = in_one_piece from_1000 0x1000 (piece from_1000 (λ label. refl));
  slides = λ kept. record {
    low = list_behind from_1000 0x1000 (piece from_1000 (λ label. refl)) SLIDES_LOW 0 (omega arith) (omega arith)
        (omega arith);
    high = list_behind from_1000 0x1000 (piece from_1000 (λ label. refl)) SLIDES_HIGH 0 (omega arith) (omega arith)
        (omega arith);
    apart = inl (omega arith);
  };
  pointer_low = omega arith;
  pointer_high = omega arith;
}

bare_room : IsRoom bare 0
bare_room = record {
  variables = in_one_piece bare 0x1000 (piece bare (λ label. refl));
  slides = λ kept. absurd (true≢false (sym kept));
  pointer_low = omega arith;
  pointer_high = omega arith;
}

uses : MayUse from_1000 0
uses = record {
  reads = λ label few. refl;
  writes = λ label few. refl;
  slides = λ kept row few. absurd (omega (arith, few));
  registers = λ register few. refl;
}

bare_uses : MayUse bare 0
bare_uses = record {
  reads = λ label few. refl;
  writes = λ label few. refl;
  slides = λ kept row few. absurd (omega (arith, few));
  registers = λ register few. refl;
}

plays : IsPlaying from_1000 1 counted counting.at
plays = playing_in from_1000 1 counted counting.at refl refl refl

bare_plays : IsPlaying bare 1 bare_counted counting.at
bare_plays = playing_in bare 1 bare_counted counting.at refl refl refl

at_voice : IsAtVoice 1 counting
at_voice = record { x = refl; decimal = refl }

pub registers_are_worked : RegistersAreWorked
unfolding voice_registers
registers_are_worked = record {
  room = room;
  uses = uses;
  at_voice = at_voice;
  plays = plays;
  registers = refl;
  sounds = register_block_writes from_1000 0 1 counted counting room uses (omega arith) at_voice plays;
  cost = refl;
  bare_room = bare_room;
  bare_uses = bare_uses;
  bare_plays = bare_plays;
  bare_width = refl;
  bare_sounds =
      register_block_writes bare 0 1 bare_counted counting bare_room bare_uses (omega arith) at_voice bare_plays;
  bare_cost = refl;
}

abbrev is_stuck : Outcome → Bool
is_stuck Stuck = true
is_stuck _ = false

pub others_are_denied : OthersAreDenied
others_are_denied = record {
  stuck = λ s. true≢false (ap is_stuck s.ends);
  no_voice = λ s. (let e : 7 ≡ 0 = s.at_voice.x in omega (arith, e));
  first = λ s. (let e : 0 ≡ 73 = s.sounds 0 (omega arith) in omega (arith, e));
  last = λ s. (let e : 0 ≡ 54 = s.sounds 6 (omega arith) in omega (arith, e));
  width = λ s. (let e : 0 ≡ 94 = s.sounds 2 (omega arith) in omega (arith, e));
  before = λ s. (let e : 0 ≡ 6 = s.leaves 0xD406 (inl (omega arith)) in omega (arith, e));
  behind = λ s. (let e : 0 ≡ 14 = s.leaves 0xD40E (inr (omega arith)) in omega (arith, e));
  variable = λ s. (let e : 0 ≡ 23 = s.leaves 0x1017 (inl (omega arith)) in omega (arith, e));
}
