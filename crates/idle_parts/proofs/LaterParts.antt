-- Where the parts of the effect step, of the fetch, of the walk and of the filter do nothing.
use Rattle.std.proofs.Common.{◌≡◌, ◌≢◌, ℕ, ◌+◌, ◌%◌, ◌<◌, ◌⊎◌, [], Bool, true, false, nat_eq}
use Rattle.std.proofs.Common.{nat_le, refl, ◌∙◌, sym, subst, inl, inr, lit<, arith}
use Rattle.std.proofs.lemmas.Bool.{le-leb, lt-leb, ne_eqb, eq-eqb}
use Rattle.std.proofs.lemmas.Bool.Decides.{eqb_tells}
use Rattle.play_model.specs.State.{Playing}
use Rattle.scopes.specs.Desk.{Desk, Layout}
use Rattle.player_memory.specs.declared.conditions.TheConstants.{INSTRUMENT_VIBRATO, SKIP_EFFECTS, EFFECTS}
use Rattle.player_memory.specs.declared.labels.TheConstants.{TICK, COMMAND, PARAM, VIB_DELAY, TRANSPOSE, REPEAT, LENT}
use Rattle.player_memory.specs.declared.labels.TheConstants.{FILTER_POINTER}
use Rattle.player_text.specs.declared.effect.TheConstants.{EFFECT_BEGUN}
use Rattle.idle_parts.specs.Idle.{HoldsVoice, Idles, part, met}
use Rattle.idle_parts.specs.IdleParts.{EffectsIdle, FetchesIdle, FiltersIdle}
use Rattle.idle_parts.proofs.Reading.{own_sees, own_is, own_bytes}

pub filters_idle : FiltersIdle
filters_idle layout rows c desk room may stands none =
    let sees = may.reads FILTER_POINTER (lit< tt) in
    let is : desk.at (layout.address FILTER_POINTER) ≡ 0 = stands.0 ∙ none in
    record {
      ends = rw (sees, is) refl;
      stays = λ place. rw (sees, is) refl;
      x = rw (sees, is) refl;
      decimal = rw (sees, is) refl;
      kept_are = tt;
    }

same_byte : (n : ℕ) → n < 256 → (n + 0 + 0) % 256 ≡ n
same_byte n byte = omega (arith, byte)

pub fetches_idle : {layout : Layout} {rows voice : ℕ} {s : Playing} {desk : Desk} →
    HoldsVoice layout rows voice s desk → FetchesIdle layout voice desk
fetches_idle {layout} {rows} {voice} {s} {desk} h = record {
  note = λ none byte off. (
      let sees = own_sees h TRANSPOSE refl in
      let is = own_is h TRANSPOSE 0 refl none in
      let plain = h.at_voice.decimal in
      record {
        ends = rw (sees, is, plain) refl;
        stays = λ place. rw (sees, is, plain) refl;
        x = rw (sees, is, plain) refl;
        decimal = rw (sees, is, plain) refl;
        kept_are = (
          rw (sees, is, plain, off) (same_byte desk.cpu.a byte),
          (rw (sees, is, plain) refl, (rw (sees, is, plain) (sym off), tt)),
        );
      });
  play = λ none. (
      let sees = own_sees h REPEAT refl in
      let is = own_is h REPEAT 0 refl none in
      record {
        ends = rw (sees, is) refl;
        stays = λ place. rw (sees, is) refl;
        x = rw (sees, is) refl;
        decimal = rw (sees, is) refl;
        kept_are = tt;
      });
  repeat = λ high on. (
      let c : nat_le 0xE0 desk.cpu.a ≡ true = le-leb 0xE0 desk.cpu.a high in
      record {
        ends = rw c refl;
        stays = λ place. rw c refl;
        x = rw c refl;
        decimal = rw c refl;
        kept_are = rw c (refl, (refl, (sym on, tt)));
      });
  transpose = λ end on. (
      record {
        ends = rw end refl;
        stays = λ place. rw end refl;
        x = rw end refl;
        decimal = rw end refl;
        kept_are = rw end (refl, (refl, (sym on, tt)));
      });
}

-- what the code reads there, where there is a parameter
record ReadsDelay (layout : Layout) (desk : Desk) (param tick delay : ℕ) : Type 0 where
  sees_param : layout.may_read ((layout.address PARAM + desk.cpu.x) % 65536) ≡ true
  is_param : desk.at ((layout.address PARAM + desk.cpu.x) % 65536) ≡ param
  some : nat_eq param 0 ≡ false
  sees_tick : layout.may_read ((layout.address TICK + desk.cpu.x) % 65536) ≡ true
  is_tick : desk.at ((layout.address TICK + desk.cpu.x) % 65536) ≡ tick
  sees_delay : layout.may_read ((layout.address VIB_DELAY + desk.cpu.x) % 65536) ≡ true
  is_delay : desk.at ((layout.address VIB_DELAY + desk.cpu.x) % 65536) ≡ (delay + 255) % 256

-- the step is left out
skip_idles : (layout : Layout) (desk : Desk) (param tick delay : ℕ) → ReadsDelay layout desk param tick delay →
    layout.holds SKIP_EFFECTS ≡ true → nat_eq tick 0 ≡ true →
    Idles layout (part INSTRUMENT_VIBRATO 0 EFFECT_BEGUN.now) desk []
skip_idles layout desk param tick delay c holds zero =
    record {
      ends = rw (c.sees_param, c.is_param, c.some, holds, c.sees_tick, c.is_tick, zero) refl;
      stays = λ place. rw (c.sees_param, c.is_param, c.some, holds, c.sees_tick, c.is_tick, zero) refl;
      x = rw (c.sees_param, c.is_param, c.some, holds, c.sees_tick, c.is_tick, zero) refl;
      decimal = rw (c.sees_param, c.is_param, c.some, holds, c.sees_tick, c.is_tick, zero) refl;
      kept_are = tt;
    }

-- the delay is 255, whether the step is left out or not
delay_idles : (layout : Layout) (desk : Desk) (param tick : ℕ) (k z : Bool) → ReadsDelay layout desk param tick 0 →
    layout.holds SKIP_EFFECTS ≡ k → nat_eq tick 0 ≡ z →
    Idles layout (part INSTRUMENT_VIBRATO 0 EFFECT_BEGUN.now) desk []
delay_idles layout desk param tick true true c holds zero = skip_idles layout desk param tick 0 c holds zero
delay_idles layout desk param tick false z c holds zero =
    record {
      ends = rw (c.sees_param, c.is_param, c.some, holds, c.sees_delay, c.is_delay) refl;
      stays = λ place. rw (c.sees_param, c.is_param, c.some, holds, c.sees_delay, c.is_delay) refl;
      x = rw (c.sees_param, c.is_param, c.some, holds, c.sees_delay, c.is_delay) refl;
      decimal = rw (c.sees_param, c.is_param, c.some, holds, c.sees_delay, c.is_delay) refl;
      kept_are = tt;
    }
delay_idles layout desk param tick true false c holds zero =
    record {
      ends = rw (c.sees_param, c.is_param, c.some, holds, c.sees_tick, c.is_tick, zero, c.sees_delay, c.is_delay) refl;
      stays = λ place. rw (c.sees_param, c.is_param, c.some, holds, c.sees_tick, c.is_tick, zero, c.sees_delay, c.is_delay) refl;
      x = rw (c.sees_param, c.is_param, c.some, holds, c.sees_tick, c.is_tick, zero, c.sees_delay, c.is_delay) refl;
      decimal = rw (c.sees_param, c.is_param, c.some, holds, c.sees_tick, c.is_tick, zero, c.sees_delay, c.is_delay) refl;
      kept_are = tt;
    }

-- the cases of a voice with a parameter
some_idles : (layout : Layout) (desk : Desk) (param tick delay : ℕ) → ReadsDelay layout desk param tick delay →
    param ≢ 0 → (param ≡ 0) ⊎ (delay ≡ 0) ⊎ ((layout.holds SKIP_EFFECTS ≡ true) × (tick ≡ 0)) →
    Idles layout (part INSTRUMENT_VIBRATO 0 EFFECT_BEGUN.now) desk []
some_idles layout desk param tick delay c some (inl bare) = absurd (some bare)
some_idles layout desk param tick delay c some (inr (inl over)) =
    delay_idles layout desk param tick _ _ (subst (ReadsDelay layout desk param tick) over c) refl refl
some_idles layout desk param tick delay c some (inr (inr out)) =
    skip_idles layout desk param tick delay c out.0 (eq-eqb tick 0 out.1)

-- the vibrato's parameter is 0, its delay 255, or the step is left out
vibrato_idles : {layout : Layout} {rows voice : ℕ} {s : Playing} {desk : Desk} → HoldsVoice layout rows voice s desk →
    layout.holds EFFECTS ≡ true → layout.holds INSTRUMENT_VIBRATO ≡ true →
    (s.voice.param ≡ 0) ⊎ (s.voice.vib_delay ≡ 0) ⊎ ((layout.holds SKIP_EFFECTS ≡ true) × (s.voice.tick ≡ 0)) →
    Idles layout (part INSTRUMENT_VIBRATO 0 EFFECT_BEGUN.now) desk []
vibrato_idles {layout} {rows} {voice} {s} {desk} h effects kept clear =
    let sees = own_sees h PARAM refl in
    let is = own_is h PARAM s.voice.param refl ((own_bytes h).param effects) in
    elim (eqb_tells s.voice.param 0) [
      | inl bare ↦ (
          let z = bare.0 in
          record {
            ends = rw (sees, is, z) refl;
            stays = λ place. rw (sees, is, z) refl;
            x = rw (sees, is, z) refl;
            decimal = rw (sees, is, z) refl;
            kept_are = tt;
          })
      | inr some ↦ some_idles layout desk s.voice.param s.voice.tick s.voice.vib_delay (record {
        sees_param = sees;
        is_param = is;
        some = some.0;
        sees_tick = own_sees h TICK refl;
        is_tick = own_is h TICK s.voice.tick refl (own_bytes h).tick;
        sees_delay = own_sees h VIB_DELAY refl;
        is_delay = own_is h VIB_DELAY ((s.voice.vib_delay + 255) % 256) refl ((own_bytes h).vib_delay kept);
      }) some.1 clear
    ]

pub effects_idle : {layout : Layout} {rows voice : ℕ} {s : Playing} {desk : Desk} →
    HoldsVoice layout rows voice s desk → EffectsIdle layout rows voice s desk
effects_idle {layout} {rows} {voice} {s} {desk} h = record {
  vibrato = λ effects kept none came. (
      let sees = own_sees h COMMAND refl in
      let is = own_is h COMMAND s.voice.command refl ((own_bytes h).command effects) in
      elim (eqb_tells s.voice.command 0) [
        | inl runs ↦ (
            let z = runs.0 in
            let there : HoldsVoice layout rows voice s (met layout INSTRUMENT_VIBRATO EFFECT_BEGUN.now desk).desk =
            record {
              room = h.room;
              may = h.may;
              few = h.few;
              at_voice = record { x = rw (sees, is, z) h.at_voice.x; decimal = rw (sees, is, z) h.at_voice.decimal };
              plays = rw (sees, is, z) h.plays;
            } in
            vibrato_idles there effects kept none)
        | inr other ↦ (let z = other.0 in let bad = rw (sees, is, z) at came in absurd (cc))
      ]);
  speed = λ effects command left listed low runs a came. (
      let sees = own_sees h PARAM refl in
      let is = own_is h PARAM s.voice.param refl ((own_bytes h).param effects) in
      let sees_row = listed.reads in
      let is_row = listed.is in
      let n : nat_le 128 left ≡ false = lt-leb 128 left low in
      let sees_command = own_sees h COMMAND refl in
      let is_command = own_is h COMMAND s.voice.command refl ((own_bytes h).command effects) in
      elim runs [
        | inl some ↦ (
            let z = ne_eqb s.voice.command 0 some.0 in
            let same = sym (a ∙ some.1) in
            record {
              ends = rw (sees, is, sees_row, is_row, n, sees_command, is_command, z) refl;
              stays = λ place. rw (sees, is, sees_row, is_row, n, sees_command, is_command, z) refl;
              x = rw (sees, is, sees_row, is_row, n, sees_command, is_command, z) refl;
              decimal = rw (sees, is, sees_row, is_row, n, sees_command, is_command, z) refl;
              kept_are = rw (sees, is, sees_row, is_row, n, sees_command, is_command, z) (same, (refl, tt));
            })
        | inr none ↦ (
            let z = eq-eqb s.voice.command 0 none.0 in
            let same = sym (a ∙ none.1) in
            record {
              ends = rw (sees, is, sees_row, is_row, n, sees_command, is_command, z) refl;
              stays = λ place. rw (sees, is, sees_row, is_row, n, sees_command, is_command, z) refl;
              x = rw (sees, is, sees_row, is_row, n, sees_command, is_command, z) refl;
              decimal = rw (sees, is, sees_row, is_row, n, sees_command, is_command, z) refl;
              kept_are = rw (sees, is, sees_row, is_row, n, sees_command, is_command, z) (same, (refl, tt));
            })
      ]);
  swing_speed = λ left listed low. (
      let sees = listed.reads in
      let is = listed.is in
      let n : nat_le 128 left ≡ false = lt-leb 128 left low in
      record {
        ends = rw (sees, is, n) refl;
        stays = λ place. rw (sees, is, n) refl;
        x = rw (sees, is, n) refl;
        decimal = rw (sees, is, n) refl;
        kept_are = rw (sees, is, n) (refl, (refl, tt));
      });
  swing = λ low. (
      let c : nat_le 4 desk.cpu.a ≡ false = lt-leb 4 desk.cpu.a low in
      record {
        ends = rw c refl;
        stays = λ place. rw c refl;
        x = rw c refl;
        decimal = rw c refl;
        kept_are = rw c (refl, (refl, tt));
      });
  up = λ high. (
      let c : nat_le 2 desk.cpu.a ≡ true = le-leb 2 desk.cpu.a high in
      record {
        ends = rw c refl;
        stays = λ place. rw c refl;
        x = rw c refl;
        decimal = rw c refl;
        kept_are = rw c (refl, (refl, tt));
      });
  down = λ byte other. (
      let z : nat_eq ((desk.cpu.a + 254) % 256) 0 ≡ false =
      ne_eqb ((desk.cpu.a + 254) % 256) 0 (λ e. absurd (other (omega (arith, byte, e)))) in
      record {
        ends = rw z refl;
        stays = λ place. rw z refl;
        x = rw z refl;
        decimal = rw z refl;
        kept_are = rw z (refl, (refl, tt));
      });
  tie = λ byte some. (
      let z : nat_eq ((desk.cpu.y + 256) % 256) 0 ≡ false =
      ne_eqb ((desk.cpu.y + 256) % 256) 0 (λ e. absurd (some (omega (arith, byte, e)))) in
      record {
        ends = rw z refl;
        stays = λ place. rw z refl;
        x = rw z refl;
        decimal = rw z refl;
        kept_are = rw z (refl, (refl, tt));
      });
  tied = λ holds zero. rw (holds, zero) refl;
  given_back = λ none. (
      let sees = h.may.reads LENT (lit< tt) in
      let is : desk.at (layout.address LENT) ≡ 0 = none in
      record {
        ends = rw (sees, is) refl;
        stays = λ place. rw (sees, is) refl;
        x = rw (sees, is) refl;
        decimal = rw (sees, is) refl;
        kept_are = tt;
      });
}
