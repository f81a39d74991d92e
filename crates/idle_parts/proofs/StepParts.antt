-- Where the parts of the tick step do nothing.
use Rattle.std.proofs.Common.{◌≡◌, ◌≢◌, ℕ, ◌+◌, ◌*◌, ◌-◌, ◌%◌, ◌<◌, ◌≤◌, [], ◌∷◌, Bool, true, false, nat_eq, nat_le}
use Rattle.std.proofs.Common.{refl}
use Rattle.std.proofs.Common.{◌∙◌, sym, inl, inr, lit<, lit≤, arith}
use Rattle.std.proofs.lemmas.Bool.Decides.{eqb_tells}
use Rattle.std.proofs.lemmas.Bool.{le-leb, lt-leb, ne_eqb, cases_lt}
use Rattle.cpu6502.specs.declared.mnemonic.Mnemonic.TheVariants.{Cpy}
use Rattle.play_model.specs.State.{Playing}
use Rattle.scopes.specs.declared.line.Operand.TheVariants.{Number}
use Rattle.scopes.specs.declared.line.Flag.TheVariants.{Zero}
use Rattle.scopes.specs.declared.line.Test.TheVariants.{Off}
use Rattle.scopes.specs.Desk.{Desk, Layout}
use Rattle.scopes.specs.Trees.{Tree, WithTree, NoneTree, ThenTree, ScopeTree, LeaveIfTree}
use Rattle.player_text.specs.declared.commands.TheConstants.{OTHER}
use Rattle.idle_parts.specs.Idle.{HoldsVoice, Idles, IdlesWhereMet, A, Y, part}
use Rattle.player_memory.specs.declared.conditions.TheConstants.{SET_TEMPO, WAVE_COMMAND, FUNK_TEMPO}
use Rattle.player_memory.specs.declared.conditions.TheConstants.{VOICE_TEMPO, COMMON_TEMPO}
use Rattle.player_text.specs.declared.commands.TheConstants.{TEMPO_SET}
use Rattle.player_text.specs.declared.wave.TheConstants.{WAVE_STEP}
use Rattle.player_text.specs.declared.tick.TheConstants.{FRAME_COUNTED}
use Rattle.std.specs.Int.Bits.{bit_and}
use Rattle.std.proofs.lemmas.Grind.{and_numeral}
use Rattle.idle_parts.specs.IdleParts.{TemposIdle, CommandsIdle, ProgramsIdle}
use Rattle.play_model.specs.TickStep.{tempo_of}
use Rattle.player_memory.specs.declared.labels.TheConstants.{TICK, TEMPO, WAVE_POINTER, WAVE_LEFTS, PULSE_POINTER}
use Rattle.idle_parts.proofs.Reading.{own_place, own_sees, own_writes, own_is, own_bytes}

-- Y is another number: the difference isn't 0
apart : (y command : ℕ) → y < 256 → 1 ≤ command → command < 256 → y ≢ command →
    nat_eq ((y + (256 - command)) % 256) 0 ≡ false
apart y command byte some small other =
    ne_eqb ((y + (256 - command)) % 256) 0 (λ e. absurd (other (omega (arith, byte, some, small, e))))

-- the lines for a command, whatever they do for it
abbrev for_command : ℕ → Tree → Tree
for_command command rest =
    ThenTree (ScopeTree OTHER (ThenTree (WithTree Cpy (Number command)) (ThenTree (LeaveIfTree OTHER (Off Zero)) rest)))
    NoneTree

other_idles : {rest : Tree} (command : ℕ) → 1 ≤ command → command < 256 → (layout : Layout) (desk : Desk) →
    desk.cpu.y < 256 → desk.cpu.y ≢ command → Idles layout (for_command command rest) desk (A ∷ Y ∷ [])
other_idles command some small layout desk byte other =
    let z = apart desk.cpu.y command byte some small other in
    record {
      ends = rw z refl;
      stays = λ place. rw z refl;
      x = rw z refl;
      decimal = rw z refl;
      kept_are = rw z (refl, (refl, tt));
    }

low_seven : (n : ℕ) → bit_and n 127 ≡ n % 128
low_seven n = and_numeral n 126 refl

-- a tempo that is too short, for all voices and for one, whichever of their lines are kept
short_idles : (layout : Layout) (desk : Desk) → nat_eq ((desk.cpu.y + 241) % 256) 0 ≡ true → desk.cpu.a < 3 →
    (voice common : Bool) → layout.holds VOICE_TEMPO ≡ voice → layout.holds COMMON_TEMPO ≡ common →
    Idles layout (part SET_TEMPO 0 TEMPO_SET.now) desk (Y ∷ [])
short_idles layout desk z short true true v k =
    let m : nat_le 128 desk.cpu.a ≡ false = lt-leb 128 desk.cpu.a (omega (arith, short)) in
    let c : nat_le 3 desk.cpu.a ≡ false = lt-leb 3 desk.cpu.a short in
    record {
      ends = rw (z, v, m, k, c) refl;
      stays = λ place. rw (z, v, m, k, c) refl;
      x = rw (z, v, m, k, c) refl;
      decimal = rw (z, v, m, k, c) refl;
      kept_are = rw (z, v, m, k, c) (refl, tt);
    }
short_idles layout desk z short true false v k =
    let m : nat_le 128 desk.cpu.a ≡ false = lt-leb 128 desk.cpu.a (omega (arith, short)) in
    record {
      ends = rw (z, v, m, k) refl;
      stays = λ place. rw (z, v, m, k) refl;
      x = rw (z, v, m, k) refl;
      decimal = rw (z, v, m, k) refl;
      kept_are = rw (z, v, m, k) (refl, tt);
    }
short_idles layout desk z short false true v k =
    let c : nat_le 3 desk.cpu.a ≡ false = lt-leb 3 desk.cpu.a short in
    record {
      ends = rw (z, v, k, c) refl;
      stays = λ place. rw (z, v, k, c) refl;
      x = rw (z, v, k, c) refl;
      decimal = rw (z, v, k, c) refl;
      kept_are = rw (z, v, k, c) (refl, tt);
    }
short_idles layout desk z short false false v k = record {
  ends = rw (z, v, k) refl;
  stays = λ place. rw (z, v, k) refl;
  x = rw (z, v, k) refl;
  decimal = rw (z, v, k) refl;
  kept_are = rw (z, v, k) (refl, tt);
}

short_voice_idles : (layout : Layout) (desk : Desk) → nat_eq ((desk.cpu.y + 241) % 256) 0 ≡ true →
    desk.cpu.a % 128 < 3 → 128 ≤ desk.cpu.a → layout.holds VOICE_TEMPO ≡ true →
    Idles layout (part SET_TEMPO 0 TEMPO_SET.now) desk (Y ∷ [])
short_voice_idles layout desk z short high v =
    let m : nat_le 128 desk.cpu.a ≡ true = le-leb 128 desk.cpu.a high in
    let seven = low_seven desk.cpu.a in
    let c : nat_le 3 (desk.cpu.a % 128) ≡ false = lt-leb 3 (desk.cpu.a % 128) short in
    record {
      ends = rw (z, v, m, seven, c) refl;
      stays = λ place. rw (z, v, m, seven, c) refl;
      x = rw (z, v, m, seven, c) refl;
      decimal = rw (z, v, m, seven, c) refl;
      kept_are = rw (z, v, m, seven, c) (refl, tt);
    }

pub commands_idle : CommandsIdle
commands_idle = record {
  ad = other_idles 5 (lit≤ tt) (lit< tt);
  sr = other_idles 6 (lit≤ tt) (lit< tt);
  wave = other_idles 7 (lit≤ tt) (lit< tt);
  wave_pointer = other_idles 8 (lit≤ tt) (lit< tt);
  pulse_pointer = other_idles 9 (lit≤ tt) (lit< tt);
  filter_pointer = other_idles 10 (lit≤ tt) (lit< tt);
  filter_control = other_idles 11 (lit≤ tt) (lit< tt);
  cutoff = other_idles 12 (lit≤ tt) (lit< tt);
  volume = other_idles 13 (lit≤ tt) (lit< tt);
  choice = other_idles 14 (lit≤ tt) (lit< tt);
  turns = other_idles 15 (lit≤ tt) (lit< tt);
  tempo = other_idles 15 (lit≤ tt) (lit< tt);
  long = λ layout desk byte long. elim (eqb_tells ((desk.cpu.y + 241) % 256) 0) [
    | inl same ↦ (
        let z = same.0 in
        let c : nat_le 2 desk.cpu.a ≡ true = le-leb 2 desk.cpu.a long in
        record {
          ends = rw (z, c) refl;
          stays = λ place. rw (z, c) refl;
          x = rw (z, c) refl;
          decimal = rw (z, c) refl;
          kept_are = rw (z, c) (refl, (refl, tt));
        })
    | inr other ↦ (
        let z = other.0 in
        record {
          ends = rw z refl;
          stays = λ place. rw z refl;
          x = rw z refl;
          decimal = rw z refl;
          kept_are = rw z (refl, (refl, tt));
        })
  ];
  short = λ layout desk small byte short keeps. elim (eqb_tells ((desk.cpu.y + 241) % 256) 0) [
    | inl same ↦ (elim (cases_lt desk.cpu.a 128) [
      | inl low ↦ short_idles layout desk same.0 (omega (arith, short, low)) _ _ refl refl
      | inr high ↦ short_voice_idles layout desk same.0 short high (keeps high)
    ])
    | inr other ↦ (
        let z = other.0 in
        record {
          ends = rw z refl;
          stays = λ place. rw z refl;
          x = rw z refl;
          decimal = rw z refl;
          kept_are = rw z (refl, tt);
        })
  ];
  for_all = λ layout desk low. (
      let m : nat_le 128 desk.cpu.a ≡ false = lt-leb 128 desk.cpu.a low in
      record {
        ends = rw m refl;
        stays = λ place. rw m refl;
        x = rw m refl;
        decimal = rw m refl;
        kept_are = rw m (refl, (refl, tt));
      });
  none = λ layout desk short. (
      let c : nat_le 3 desk.cpu.a ≡ false = lt-leb 3 desk.cpu.a short in
      record {
        ends = rw c refl;
        stays = λ place. rw c refl;
        x = rw c refl;
        decimal = rw c refl;
        kept_are = rw c (refl, (refl, tt));
      });
}

-- the voice's tempo is read where its tick falls below 0
record ReadsTempo (layout : Layout) (desk : Desk) (tick tempo : ℕ) : Type 0 where
  sees : layout.may_read ((layout.address TICK + desk.cpu.x) % 65536) ≡ true
  is : desk.at ((layout.address TICK + desk.cpu.x) % 65536) ≡ tick
  writes : layout.may_write ((layout.address TICK + desk.cpu.x) % 65536) ≡ true
  sees_tempo : layout.may_read ((layout.address TEMPO + desk.cpu.x) % 65536) ≡ true
  is_tempo : desk.at ((layout.address TEMPO + desk.cpu.x) % 65536) ≡ tempo
  apart : nat_eq ((layout.address TEMPO + desk.cpu.x) % 65536) ((layout.address TICK + desk.cpu.x) % 65536) ≡ false

tempo_idles : (layout : Layout) (desk : Desk) (tick tempo : ℕ) → ReadsTempo layout desk tick tempo → 2 ≤ tempo →
    (z n : Bool) → nat_eq ((tick + 255) % 256) 0 ≡ z → nat_le 128 ((tick + 255) % 256) ≡ n →
    IdlesWhereMet layout FUNK_TEMPO FRAME_COUNTED.now desk (A ∷ Y ∷ [])
tempo_idles layout desk tick tempo r long true n zero minus came =
    let bad = rw (r.sees, r.is, r.writes, zero) at came in absurd (cc)
tempo_idles layout desk tick tempo r long false false zero minus came =
    let bad = rw (r.sees, r.is, r.writes, zero, minus) at came in absurd (cc)
tempo_idles layout desk tick tempo r long false true zero minus came =
    let c : nat_le 2 tempo ≡ true = le-leb 2 tempo long in
    record {
      ends = rw (r.sees, r.is, r.writes, zero, minus, r.sees_tempo, r.apart, r.is_tempo, c) refl;
      stays = λ place. rw (r.sees, r.is, r.writes, zero, minus, r.sees_tempo, r.apart, r.is_tempo, c) refl;
      x = rw (r.sees, r.is, r.writes, zero, minus, r.sees_tempo, r.apart, r.is_tempo, c) refl;
      decimal = rw (r.sees, r.is, r.writes, zero, minus, r.sees_tempo, r.apart, r.is_tempo, c) refl;
      kept_are = rw (r.sees, r.is, r.writes, zero, minus, r.sees_tempo, r.apart, r.is_tempo, c) (refl, (refl, tt));
    }

pub tempos_idle : TemposIdle
tempos_idle layout rows voice s desk h long came =
    let few = h.few in
    let apart =
    h.room.variables.apart (TICK + 7 * voice) (TEMPO + 7 * voice) (omega (arith, few)) (omega (arith, few)) in
    let tick_place = own_place h TICK refl in
    let tempo_place = own_place h TEMPO refl in
    tempo_idles layout desk s.voice.tick (tempo_of (voice + 1) s.common) (record {
      sees = own_sees h TICK refl;
      is = own_is h TICK s.voice.tick refl (own_bytes h).tick;
      writes = own_writes h TICK refl;
      sees_tempo = own_sees h TEMPO refl;
      is_tempo = own_is h TEMPO (tempo_of (voice + 1) s.common) refl (h.plays.tempos voice h.few);
      apart = ne_eqb _ _ (λ e.
          (let same = apart (sym tick_place ∙ sym e ∙ tempo_place) in absurd (omega (arith, same))));
    }) long _ _ refl refl came

-- behind a row's left side, where it isn't a waveform
wave_idles : (layout : Layout) (desk : Desk) (p left : ℕ) →
    layout.may_read ((layout.address WAVE_POINTER + desk.cpu.x) % 65536) ≡ true →
    desk.at ((layout.address WAVE_POINTER + desk.cpu.x) % 65536) ≡ p →
    layout.may_read ((layout.address WAVE_LEFTS + p) % 65536) ≡ true →
    desk.at ((layout.address WAVE_LEFTS + p) % 65536) ≡ left → left < 0xF0 → (z c : Bool) → nat_eq p 0 ≡ z →
    nat_le 0xE0 left ≡ c → IdlesWhereMet layout WAVE_COMMAND WAVE_STEP.now desk (A ∷ Y ∷ [])
wave_idles layout desk p left sees is sees_left is_left low true c zero high came =
    let bad = rw (sees, is, zero) at came in absurd (cc)
wave_idles layout desk p left sees is sees_left is_left low false false zero high came =
    let bad = rw (sees, is, zero, sees_left, is_left, high) at came in absurd (cc)
wave_idles layout desk p left sees is sees_left is_left low false true zero high came =
    let f : nat_le 0xF0 left ≡ false = lt-leb 0xF0 left low in
    record {
      ends = rw (sees, is, zero, sees_left, is_left, high, f) refl;
      stays = λ place. rw (sees, is, zero, sees_left, is_left, high, f) refl;
      x = rw (sees, is, zero, sees_left, is_left, high, f) refl;
      decimal = rw (sees, is, zero, sees_left, is_left, high, f) refl;
      kept_are = rw (sees, is, zero, sees_left, is_left, high, f) (refl, (refl, tt));
    }

pub programs_idle : (layout : Layout) (rows voice : ℕ) (s : Playing) (desk : Desk) →
    HoldsVoice layout rows voice s desk → ProgramsIdle layout rows voice s desk
programs_idle layout rows voice s desk h = record {
  wave = λ none. (
      let sees = own_sees h WAVE_POINTER refl in
      let is = own_is h WAVE_POINTER 0 refl ((own_bytes h).wave_pointer ∙ none) in
      record {
        ends = rw (sees, is) refl;
        stays = λ place. rw (sees, is) refl;
        x = rw (sees, is) refl;
        decimal = rw (sees, is) refl;
        kept_are = tt;
      });
  command = λ left listed low came. (
      let sees = own_sees h WAVE_POINTER refl in
      let is = own_is h WAVE_POINTER s.voice.wave_ptr refl (own_bytes h).wave_pointer in
      wave_idles layout desk s.voice.wave_ptr left sees is listed.reads listed.is low _ _ refl refl came);
  row_done = λ left listed low off. (
      let sees = listed.reads in
      let is = listed.is in
      let c : nat_le 0xF0 left ≡ false = lt-leb 0xF0 left low in
      record {
        ends = rw (sees, is, c) refl;
        stays = λ place. rw (sees, is, c) refl;
        x = rw (sees, is, c) refl;
        decimal = rw (sees, is, c) refl;
        kept_are = rw (sees, is, c) (refl, (sym off, tt));
      });
  pulse = λ none. (
      let sees = own_sees h PULSE_POINTER refl in
      let is = own_is h PULSE_POINTER 0 refl ((own_bytes h).pulse_pointer ∙ none) in
      record {
        ends = rw (sees, is) refl;
        stays = λ place. rw (sees, is) refl;
        x = rw (sees, is) refl;
        decimal = rw (sees, is) refl;
        kept_are = tt;
      });
}
