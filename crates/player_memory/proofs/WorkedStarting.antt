-- Variables as a subtune begins, worked.
use Rattle.std.proofs.Common.{ℕ, zero, suc, ◌+◌, ◌<◌, [], ◌∷◌, refl, arith}
use Rattle.player_memory.specs.declared.variables.TheConstants.{COMMON_BYTES}
use Rattle.player_memory.specs.Playing.{own_at, shared_at}
use Rattle.player_memory.specs.Starting.{VoiceBegins, CommonRowsBegin, AreZero, common_with}
use Rattle.player_memory.specs.Fetching.{SongStands, AtEntry, InRun, InLastRun}
use Rattle.player_memory.specs.WorkedPlays.{with_variable}
use Rattle.player_memory.proofs.Starting.{tempo_byte, voice_begins, shared_rows_begin, beginnings_play}
use Rattle.player_memory.specs.WorkedStarting.{BeginningsAreWorked, FirstPlaysAreWorked, BeginsSo, begun, its_orders}
use Rattle.player_memory.specs.WorkedStarting.{with_orders}
use Rattle.player_memory.specs.WorkedMemory.{everywhere, nowhere}
use Rattle.player_memory.specs.WorkedFetching.{its_order, its_packed}
use Rattle.player_memory.specs.declared.labels.TheConstants.{REST, ORDERS, VIB_DELAY, PATTERN_LOW, PATTERN_HIGH}
use Rattle.player_memory.specs.declared.labels.TheConstants.{LENT, KEPT_COMMAND, KEPT_PARAM}
use Rattle.play_model.specs.LookUps.{LookUps}
use Rattle.play_model.specs.State.{at_speed, start_voice}

-- where each of the three voices begins so, and what no voice owns
begins_so : (at : ℕ → ℕ) → VoiceBegins everywhere 5 (its_orders 0) (own_at with_orders at 0) →
    VoiceBegins everywhere 5 (its_orders 1) (own_at with_orders at 1) →
    VoiceBegins everywhere 5 (its_orders 2) (own_at with_orders at 2) →
    CommonRowsBegin everywhere COMMON_BYTES (common_with 5 8) (shared_at with_orders at) →
    AreZero (LENT ∷ KEPT_COMMAND ∷ KEPT_PARAM ∷ []) (shared_at with_orders at) → BeginsSo at
begins_so at one two three common handed = record { voices = each; common = common; handed = handed }
  where
    each : (voice : ℕ) → voice < 3 → VoiceBegins everywhere 5 (its_orders voice) (own_at with_orders at voice)
    each zero few = one
    each (suc zero) few = two
    each (suc (suc zero)) few = three
    each (suc (suc (suc more))) few = absurd (omega (arith, few))

begins : BeginsSo begun
begins =
    begins_so begun (voice_begins everywhere 5 (its_orders 0) (own_at with_orders begun 0) refl assumption)
    (voice_begins everywhere 5 (its_orders 1) (own_at with_orders begun 1) refl assumption)
    (voice_begins everywhere 5 (its_orders 2) (own_at with_orders begun 2) refl assumption)
    (shared_rows_begin everywhere COMMON_BYTES (common_with 5 8) (shared_at with_orders begun) refl) assumption

-- a byte of the second voice's pattern's place is 1, or one of the third's
pattern_low_so : BeginsSo (with_variable (PATTERN_LOW + 7) 1 begun)
pattern_low_so =
    let at : ℕ → ℕ = with_variable (PATTERN_LOW + 7) 1 begun in
    begins_so at (voice_begins everywhere 5 (its_orders 0) (own_at with_orders at 0) refl assumption)
    (voice_begins everywhere 5 (its_orders 1) (own_at with_orders at 1) refl assumption)
    (voice_begins everywhere 5 (its_orders 2) (own_at with_orders at 2) refl assumption)
    (shared_rows_begin everywhere COMMON_BYTES (common_with 5 8) (shared_at with_orders at) refl) assumption

pattern_high_so : BeginsSo (with_variable (PATTERN_HIGH + 14) 1 begun)
pattern_high_so =
    let at : ℕ → ℕ = with_variable (PATTERN_HIGH + 14) 1 begun in
    begins_so at (voice_begins everywhere 5 (its_orders 0) (own_at with_orders at 0) refl assumption)
    (voice_begins everywhere 5 (its_orders 1) (own_at with_orders at 1) refl assumption)
    (voice_begins everywhere 5 (its_orders 2) (own_at with_orders at 2) refl assumption)
    (shared_rows_begin everywhere COMMON_BYTES (common_with 5 8) (shared_at with_orders at) refl) assumption

-- the third voice's delay is 0
abbrev undelayed : ℕ → ℕ
undelayed = with_variable (VIB_DELAY + 14) 0 begun

each_bare : (voice : ℕ) → voice < 3 → VoiceBegins nowhere 5 (its_orders voice) (own_at with_orders undelayed voice)
each_bare zero few =
    voice_begins nowhere 5 (its_orders 0) (own_at with_orders undelayed 0) refl assumption
each_bare (suc zero) few =
    voice_begins nowhere 5 (its_orders 1) (own_at with_orders undelayed 1) refl assumption
each_bare (suc (suc zero)) few =
    voice_begins nowhere 5 (its_orders 2) (own_at with_orders undelayed 2) refl assumption
each_bare (suc (suc (suc more))) few = absurd (omega (arith, few))

pub beginnings_are_worked : BeginningsAreWorked
beginnings_are_worked = record {
  begins = begins;
  no_lines = record {
    voices = each_bare;
    common = shared_rows_begin nowhere COMMON_BYTES (common_with 5 8) (shared_at with_orders undelayed) refl;
    handed = assumption;
  };
  always = λ b. (let byte = (b.voices 0 (omega arith)).state.0 refl in omega (arith, byte));
  tick = λ b. (let byte = (b.voices 0 (omega arith)).state.0 refl in omega (arith, byte));
  instrument = λ b. (let byte = (b.voices 1 (omega arith)).state.1.1.0 refl in omega (arith, byte));
  gate = λ b. (let byte = (b.voices 2 (omega arith)).state.1.1.1.1.1.1.1.1.1.1.1.1.1.1.0 refl in omega (arith, byte));
  delay = λ b. (let byte = (b.voices 2 (omega arith)).state.1.1.1.1.1.1.1.1.1.1.1.1.0 refl in omega (arith, byte));
  high_bits = λ b.
      (let byte = (b.voices 1 (omega arith)).state.1.1.1.1.1.1.1.1.1.1.1.1.1.1.1.1.1.1.1.1.1.1.1.0 refl in
      omega (arith, byte));
  param = λ b. (let byte = (b.voices 0 (omega arith)).state.1.1.1.1.1.1.0 refl in omega (arith, byte));
  tempo = λ b. (let byte = tempo_byte everywhere _ _ _ (b.voices 2 (omega arith)) in omega (arith, byte));
  low = λ b. (let byte = (b.voices 0 (omega arith)).song.1.1.0 in omega (arith, byte));
  high = λ b. (let byte = (b.voices 2 (omega arith)).song.1.1.1.0 in omega (arith, byte));
  rest = λ b. (let byte = (b.voices 0 (omega arith)).song.0 in omega (arith, byte));
  offset = λ b. (let byte = (b.voices 1 (omega arith)).song.1.0 in omega (arith, byte));
  place = λ b. (let byte = (b.voices 2 (omega arith)).song.1.1.1.1.0 in omega (arith, byte));
  transpose = λ b. (let byte = (b.voices 0 (omega arith)).song.1.1.1.1.1.0 in omega (arith, byte));
  repeat = λ b. (let byte = (b.voices 1 (omega arith)).song.1.1.1.1.1.1.0 in omega (arith, byte));
  pattern_low = pattern_low_so;
  pattern_high = pattern_high_so;
  filter = λ b. (let byte = b.common.0 refl in omega (arith, byte));
  volume = λ b. (let byte = b.common.1.1.1.1.1.0 refl in omega (arith, byte));
  funk_one = λ b. (let byte = b.common.1.1.1.1.1.1.0 refl in omega (arith, byte));
  funk_two = λ b. (let byte = b.common.1.1.1.1.1.1.1.0 refl in omega (arith, byte));
  lent = λ b. (let byte = b.handed.0 in omega (arith, byte));
  kept_command = λ b. (let byte = b.handed.1.0 in omega (arith, byte));
  kept_param = λ b. (let byte = b.handed.1.1.0 in omega (arith, byte));
}

in_rests : (look : LookUps) →
    ¬ SongStands with_orders look its_packed its_order start_voice
    (own_at with_orders (with_variable (REST + 7) 1 begun) 1)
in_rests look (AtEntry none next) = omega (arith, none)
in_rests look (InRun some rests inside next) = (let row = rests.begun in omega (arith, row))
in_rests look (InLastRun some rests last next) = (let row = rests.begun in omega (arith, row))

pub first_plays_are_worked : (look : LookUps) → FirstPlaysAreWorked look
first_plays_are_worked look = record {
  plays =
      beginnings_play with_orders (at_speed 1) look its_packed its_order its_orders (ORDERS + 1) 1 begun begins
      (omega arith) refl (omega arith);
  other_speed = λ is. (let tempo = is.plays.tempos 1 (omega arith) in omega (arith, tempo));
  other_order = λ is. (let low = is.has_order.low_is in omega (arith, low));
  in_rests = λ is. in_rests look is.song;
}
