-- Sums of registers and counts of steps, a call and a subtune more at a time.
use Rattle.std.proofs.Common.{◌≡◌, ℕ, zero, suc, ◌+◌, ◌*◌, ◌-◌, ◌^◌, ◌≤◌, ◌<◌, inl}
use Rattle.std.proofs.Common.{inr, List, [], ◌∷◌, ◌++◌, length, take, get_or, slice_index, None, Ok, true}
use Rattle.std.proofs.Common.{refl, sym, ap, ◌∙◌, subst, arith}
use Rattle.std.specs.List.{sum, sum_by, range_with_len}
use Rattle.std.proofs.Math.Seq.{take-length}
use Rattle.std.proofs.lemmas.Bool.{cases_lt}
use Rattle.std.proofs.lemmas.List.{take_more, length-append, get_or_append_left, get_or_push}
use Rattle.std.proofs.lemmas.List.Sums.{sum_by_push}
use Rattle.song_model.specs.declared.songs.Song.{Song}
use Rattle.song_model.specs.Limits.{KeepsLimits}
use Rattle.song_model.specs.LookUp.{playable_subtunes}
use Rattle.play_model.specs.Frame.{trace_with}
use Rattle.play_model.specs.declared.options.Options.{Options}
use Rattle.play_model.specs.State.{no_options, start_state}
use Rattle.command_line.specs.declared.chip.Chip.TheVariants.{Mos6581}
use Rattle.packed_form.specs.ImagePlaces.{IsAddress}
use Rattle.packing_rules.specs.UsedSets.{UsedSets}
use Rattle.song_pack.specs.Answers.{IsTooLong}
use Rattle.song_gen.specs.GeneratedSong.{generated_song}
use Rattle.song_gen.specs.GeneratedLaws.{PatternsAreShort}
use Rattle.psid.specs.declared.header.Psid.{Psid}
use Rattle.psid.specs.Reading.{psid_read}
use Rattle.playroutine.specs.Playback.{Playback, PlaysSubtune, PlayerStandsFor}
use Rattle.playroutine.specs.Played.{StandsAfter}
use Rattle.playroutine.proofs.Laws.{start_after}
use Rattle.packing_rules.proofs.Laws.{range_more}
use Rattle.cpu6502.specs.declared.machine.Machine.{Machine}
use Rattle.cpu6502.specs.declared.stop.CallStop.{CallStop}
use Rattle.cpu6502.specs.Call.{FailsBy}
use Rattle.sid_run.specs.State.{RunnerState, most_steps, sid_registers, loaded}
use Rattle.song_length.specs.Plays.{Takes}
use Rattle.jobs.specs.Calls.{entry_of, accumulator_of, FirstCalls, FirstCallsTake}
use Rattle.jobs.specs.Traces.{first_traces}
use Rattle.jobs.specs.Selftest.{calls_sum, subtunes_sum, register_sum, selftest_calls, CallsTake, SubtunesTake, TakesSteps}
use Rattle.command_line.specs.Words.{Selftest}
use Rattle.jobs.specs.Lines.{selftest_line}
use Rattle.command_line.specs.Last.{Says}
use Rattle.jobs.specs.Outcome as outcome
use Rattle.jobs.specs.Stands as stands
use Rattle.jobs.specs.Stands.{FolderState, SinkState}
use Rattle.jobs.specs.Packed.{IsWrittenFile}
use Rattle.jobs.specs.Endings.{FirstCallsReturn, JobEnds}
use Rattle.jobs.proofs.Told.{some_files, as_before, uncounted, stays_itself}
use Rattle.jobs.proofs.RegisterLines.{traces_more}
use Rattle.jobs.proofs.Ends.{has_last}
use Rattle.jobs.proofs.Calls.{returned_or_stopped}
use Rattle.jobs.proofs.PlayedFiles.{written_files_are_packed, packed_files_play}

-- ---- sums

-- a byte more
pub record BytesSoFar (bytes : List ℕ) (i total : ℕ) : Type 0 where
  pub is : total ≡ sum (take i bytes)
  pub most : total ≤ 255 * i

pub no_bytes : (bytes : List ℕ) → BytesSoFar bytes 0 0
no_bytes bytes = record { is = refl; most = omega arith }

pub byte_more : {bytes : List ℕ} {i total : ℕ} (byte more : ℕ) → BytesSoFar bytes i total → i < length bytes →
    byte ≡ get_or bytes i byte → byte < 256 → more ≡ total + byte → BytesSoFar bytes (i + 1) more
byte_more {bytes} {i} {total} byte more so_far inside is small adds =
    let most = so_far.most in
    record {
      is = adds ∙ ap (λ (n : ℕ). n + byte) so_far.is ∙ sym (sum_by_push (λ n. n) (take i bytes) byte)
          ∙ ap (λ (b : ℕ). sum (take i bytes ++ b ∷ [])) is
          ∙ ap sum (sym (take_more bytes i byte inside));
      most = omega (arith, most, small, adds);
    }

pub all_bytes : {bytes : List ℕ} {i total : ℕ} → BytesSoFar bytes i total → length bytes ≡ i → total ≡ sum bytes
all_bytes {bytes} {i} so_far all =
    so_far.is ∙ ap (λ (n : ℕ). sum (take n bytes)) (sym all) ∙ ap sum (take-length bytes)

-- the sum of the first calls of a subtune, which a player has played
pub record SummedSoFar (song : Song) (k calls : ℕ) (player : Playback) (total : ℕ) : Type 0 where
  pub stands : StandsAfter player song k no_options (calls - 1)
  pub is : total ≡ calls_sum song k calls
  pub most : total ≤ 25 * 255 * calls

pub none_summed : (song : Song) (k : ℕ) (player : Playback) → StandsAfter player song k no_options 0 →
    SummedSoFar song k 0 player 0
unfolding calls_sum
none_summed song k player stands = record { stands = stands; is = refl; most = omega arith }

-- a player that was started plays the subtune from its start
pub player_stands : (song : Song) (k : ℕ) (o : Options) (player : Playback) → o ≡ no_options →
    PlaysSubtune player song k o → PlayerStandsFor player (start_state o) → StandsAfter player song k no_options 0
player_stands song k o player is plays stands =
    subst (λ (x : Options). StandsAfter player song k x 0) is (start_after player song k o plays stands)

pub call_summed : {song : Song} {k calls : ℕ} {player : Playback} {total : ℕ} (later : Playback) (registers : List ℕ)
    (own more : ℕ) → SummedSoFar song k calls player total → registers ≡ trace_with no_options song k calls →
    StandsAfter later song k no_options calls → own ≡ sum registers → own ≤ 25 * 255 → more ≡ total + own →
    SummedSoFar song k (calls + 1) later more
unfolding calls_sum
call_summed {song} {k} {calls} {player} {total} later registers own more so_far is stands own_is own_most adds =
    let most = so_far.most in
    let z : calls ≡ calls + 1 - 1 = omega arith in
    let one : suc calls ≡ calls + 1 = omega arith in
    record {
      stands = subst (StandsAfter later song k no_options) z stands;
      is = adds ∙ ap (λ (n : ℕ). n + own) so_far.is
          ∙ ap (λ (n : ℕ). calls_sum song k calls + n) (own_is ∙ ap sum is)
          ∙ sym (sum_by_push sum (first_traces no_options song k calls) (trace_with no_options song k calls))
          ∙ ap (sum_by sum) (sym (traces_more no_options song k calls)) ∙ ap (calls_sum song k) one;
      most = omega (arith, most, own_most, adds);
    }

-- the sum of the first subtunes
pub record SubtunesSummed (song : Song) (count total : ℕ) : Type 0 where
  pub is : total ≡ subtunes_sum song count
  pub most : total ≤ 301 * 25 * 255 * count

pub no_subtune_summed : (song : Song) → SubtunesSummed song 0 0
unfolding subtunes_sum
no_subtune_summed song = record { is = refl; most = omega arith }

pub subtune_summed : {song : Song} {count total : ℕ} (own more : ℕ) → SubtunesSummed song count total →
    own ≡ calls_sum song count selftest_calls → own ≤ 301 * 25 * 255 → more ≡ total + own →
    SubtunesSummed song (count + 1) more
unfolding subtunes_sum
subtune_summed {song} {count} {total} own more so_far own_is own_most adds =
    let most = so_far.most in
    let first : 0 + count ≡ count = omega arith in
    let one : suc count ≡ count + 1 = omega arith in
    let f : ℕ → ℕ = λ k. calls_sum song k selftest_calls in
    record {
      is = adds ∙ ap (λ (n : ℕ). n + own) so_far.is ∙ ap (λ (n : ℕ). subtunes_sum song count + n) own_is
          ∙ sym (sum_by_push f (range_with_len 0 count) count)
          ∙ ap (λ (k : ℕ). sum_by f (range_with_len 0 count ++ k ∷ [])) (sym first)
          ∙ ap (sum_by f) (sym (range_more 0 count)) ∙ ap (subtunes_sum song) one;
      most = omega (arith, most, own_most, adds);
    }

-- ---- steps

-- they are the first calls of the file, and none takes more than a call may
record Shown (file : RunnerState) (subtune calls : ℕ) (each : List ℕ) (machine : Machine) : Type 0 where
  registers : List (List ℕ)
  first : FirstCalls file subtune calls registers machine
  most : sum each ≤ 200000 * calls

shown : (file : RunnerState) (subtune calls : ℕ) (each : List ℕ) (machine : Machine) →
    FirstCallsTake file subtune calls each machine → Shown file subtune calls each machine
shown file subtune zero each machine take =
    record { registers = []; first = (refl, take.1); most = rw take.0 (omega arith) }
shown file subtune (suc calls) each machine (before_each, before, last, first, takes, are) =
    let earlier = shown file subtune calls before_each before first in
    let registers = sid_registers machine in
    let total = ap sum are ∙ sum_by_push (λ n. n) before_each last in
    let most = earlier.most in
    let own = takes.within in
    record {
      registers = earlier.registers ++ registers ∷ [];
      first = (
        earlier.registers,
        before,
        registers,
        earlier.first,
        record { steps = last; takes = takes; registers_are = refl },
        refl,
      );
      most = omega (arith, most, own, total);
    }

-- what a runner has taken of a loaded file's calls
pub record HasTaken (file : RunnerState) (subtune calls steps : ℕ) (now : RunnerState) : Type 0 where
  pub each : List ℕ
  pub take : FirstCallsTake file subtune calls each now.machine
  pub adds : steps ≡ sum each
  pub same_init : now.init ≡ file.init
  pub same_play : now.play ≡ file.play
  pub running : now.stopped ≡ None

pub none_taken : (file : RunnerState) (subtune : ℕ) → file.stopped ≡ None → HasTaken file subtune 0 0 file
none_taken file subtune running = record {
  each = [];
  take = (refl, refl);
  adds = refl;
  same_init = refl;
  same_play = refl;
  running = running;
}

entry_same : (now file : RunnerState) (call : ℕ) → now.init ≡ file.init → now.play ≡ file.play →
    entry_of now call ≡ entry_of file call
entry_same now file zero init play = init
entry_same now file (suc call) init play = play

pub call_taken : {file now : RunnerState} {subtune calls steps : ℕ} (later : RunnerState) (own more : ℕ) →
    HasTaken file subtune calls steps now →
    Takes now.machine (entry_of now calls) (accumulator_of subtune calls now.machine) own later.machine →
    later.init ≡ now.init → later.play ≡ now.play → later.stopped ≡ None → more ≡ steps + own →
    HasTaken file subtune (calls + 1) more later
call_taken {file} {now} {subtune} {calls} {steps} later own more so_far takes init play running adds =
    let one : suc calls ≡ calls + 1 = omega arith in
    let entry = entry_same now file calls so_far.same_init so_far.same_play in
    let moved =
    subst (λ e. Takes now.machine e (accumulator_of subtune calls now.machine) own later.machine) entry takes in
    let took : FirstCallsTake file subtune (suc calls) (so_far.each ++ own ∷ []) later.machine =
    (so_far.each, now.machine, own, so_far.take, moved, refl) in
    record {
      each = so_far.each ++ own ∷ [];
      take = subst (λ n. FirstCallsTake file subtune n (so_far.each ++ own ∷ []) later.machine) one took;
      adds = adds ∙ ap (λ n. n + own) so_far.adds ∙ sym (sum_by_push (λ n. n) so_far.each own);
      same_init = init ∙ so_far.same_init;
      same_play = play ∙ so_far.same_play;
      running = running;
    }

-- of a file whose calls return none fails
pub none_fails : {file now : RunnerState} {subtune calls steps : ℕ} (all : ℕ) (after : Machine) (reason : CallStop) →
    FirstCallsReturn file subtune all → HasTaken file subtune calls steps now → calls < all →
    FailsBy now.machine (entry_of now calls) (accumulator_of subtune calls now.machine) most_steps reason after → ⊥
none_fails {file} {now} {subtune} {calls} {steps} all after reason return so_far inside fails =
    let before = shown file subtune calls so_far.each now.machine so_far.take in
    let entry = entry_same now file calls so_far.same_init so_far.same_play in
    returned_or_stopped file subtune all calls return.registers before.registers return.after reason return.first inside
    (record {
      before = now.machine;
      calls = before.first;
      after = after;
      fails = subst
          (λ e. FailsBy now.machine e (accumulator_of subtune calls now.machine) most_steps reason after) entry fails;
    })

pub few_taken : {file now : RunnerState} {subtune calls steps : ℕ} → HasTaken file subtune calls steps now →
    calls ≤ selftest_calls → steps ≤ 301 * 200000
few_taken {file} {now} {subtune} {calls} {steps} so_far most =
    let within = (shown file subtune calls so_far.each now.machine so_far.take).most in
    let adds = so_far.adds in
    omega (arith, within, most, adds)

-- all the first calls
pub all_taken : {file now : RunnerState} {subtune calls steps : ℕ} → HasTaken file subtune calls steps now →
    calls ≤ selftest_calls → selftest_calls ≤ calls → CallsTake file subtune selftest_calls steps
all_taken {file} {now} {subtune} {calls} {steps} so_far most least =
    let all : calls ≡ 301 = omega (arith, most, least) in
    record {
      each = so_far.each;
      after = now.machine;
      take = subst (λ n. FirstCallsTake file subtune n so_far.each now.machine) all so_far.take;
      steps_are = so_far.adds;
    }

-- the steps of the first subtunes
pub record HaveTaken (file : RunnerState) (count steps : ℕ) : Type 0 where
  pub each : List ℕ
  pub take : SubtunesTake file count each
  pub adds : steps ≡ sum each
  pub most : steps ≤ 301 * 200000 * count

pub no_subtune_taken : (file : RunnerState) → HaveTaken file 0 0
no_subtune_taken file = record {
  each = [];
  take = record { many = refl; take = λ subtune few. absurd (omega (arith, few)) };
  adds = refl;
  most = omega arith;
}

pub subtune_taken : {file : RunnerState} {count steps : ℕ} (own more : ℕ) → HaveTaken file count steps →
    CallsTake file count selftest_calls own → own ≤ 301 * 200000 → more ≡ steps + own → HaveTaken file (count + 1) more
subtune_taken {file} {count} {steps} own more so_far calls few adds =
    let most = so_far.most in
    let many = so_far.take.many in
    let each = so_far.each ++ own ∷ [] in
    record {
      each = each;
      take = record {
        many = length-append so_far.each (own ∷ []) ∙ ap (λ n. n + 1) many;
        take = λ subtune inside.
            elim (cases_lt subtune count) [
              | inl below ↦
                  subst (λ n. CallsTake file subtune selftest_calls n)
                  (sym (get_or_append_left so_far.each (own ∷ []) 0 subtune (omega (arith, below, many))))
                  (so_far.take.take subtune below)
              | inr above ↦
                  let here : count ≡ subtune = omega (arith, inside, above) in
                  subst (λ n. CallsTake file n selftest_calls (slice_index each n)) here
                  (subst (CallsTake file count selftest_calls) (sym (get_or_push so_far.each own 0 count many)) calls)
            ];
      };
      adds = adds ∙ ap (λ n. n + own) so_far.adds ∙ sym (sum_by_push (λ n. n) so_far.each own);
      most = omega (arith, most, adds, few);
    }

-- all subtunes
pub all_subtunes_taken : {file : RunnerState} {count steps : ℕ} (all : ℕ) → (so_far : HaveTaken file count steps) →
    count ≤ all → all ≤ count → SubtunesTake file all so_far.each
all_subtunes_taken {file} {count} {steps} all so_far most least =
    let same : count ≡ all = omega (arith, most, least) in
    subst (λ n. SubtunesTake file n so_far.each) same so_far.take

pub few_subtunes_taken : {file : RunnerState} {count steps : ℕ} → HaveTaken file count steps → count ≤ 32 →
    steps < 10 ^ 10
few_subtunes_taken so_far few = (let most = so_far.most in omega (arith, most, few))

-- ---- the packed file

-- a short pattern isn't too long
pub short_is_not_long : (song : Song) (used : UsedSets) (pattern n : ℕ) → PatternsAreShort song →
    IsTooLong song used pattern n → ⊥
short_is_not_long song used pattern n short long =
    let text = long.text in
    let above = long.long in
    let below = short used pattern in
    omega (arith, text, above, below)

at_1000 : IsAddress 0x1000
at_1000 = record { whole_page = refl; least = omega arith; most = omega arith }

-- the calls of its subtunes return
pub file_returns : (song : Song) (file : List ℕ) (psid : Psid) (k : ℕ) → KeepsLimits song →
    IsWrittenFile true 0x1000 0xFC song no_options Mos6581 file → psid_read file ≡ Ok psid →
    k < length (playable_subtunes song) → FirstCallsReturn (loaded psid) k selftest_calls
file_returns song file psid k keeps written reads few =
    let is = written_files_are_packed song no_options 0x1000 0xFC Mos6581 file keeps at_1000 written in
    let play = packed_files_play song no_options file (k + 1) 300 is (omega arith) (omega (arith, few)) in
    let same : play.0 ≡ psid = cc (play.1, reads) in
    let number : k + 1 - 1 ≡ k = omega arith in
    let first = subst (λ p. FirstCalls (loaded p) (k + 1 - 1) 301 (first_traces no_options song (k + 1 - 1) 301) play.3)
    same play.4 in
    record {
      registers = first_traces no_options song (k + 1 - 1) 301;
      after = play.3;
      first = subst (λ n. FirstCalls (loaded psid) n 301 (first_traces no_options song (k + 1 - 1) 301) play.3) number
          first;
    }

pub file_is_read : (song : Song) (file : List ℕ) → KeepsLimits song →
    IsWrittenFile true 0x1000 0xFC song no_options Mos6581 file → 1 ≤ length (playable_subtunes song) →
    (psid : Psid) × (psid_read file ≡ Ok psid)
file_is_read song file keeps written some =
    let is = written_files_are_packed song no_options 0x1000 0xFC Mos6581 file keeps at_1000 written in
    let play = packed_files_play song no_options file 1 0 is (omega arith) some in
    (play.0, play.1)

-- ---- how the job ends

pub selftest_ends : (number count sum steps : ℕ) (song : Song) → song ≡ generated_song number →
    count ≡ length (playable_subtunes song) → sum ≡ register_sum song → TakesSteps song steps →
    (folder : FolderState) (sink : SinkState) →
    JobEnds (Selftest number) (Says 0 (selftest_line number count sum steps)) folder folder sink sink
selftest_ends number count sum steps song is counted summed takes folder sink =
    let some = some_files folder.told in
    let line = ap (λ n. selftest_line number n sum steps) (counted ∙ ap (λ s. length (playable_subtunes s)) is)
    ∙ ap (λ n. selftest_line number (length (playable_subtunes (generated_song number))) n steps)
    (summed ∙ ap register_sum is) in
    has_last sink {files = some.files} some.are_files
    (λ words form.
    stands.outcome None
    (outcome.done (Selftest number) form tt
    ((steps, subst (λ s. TakesSteps s steps) is takes, ap (λ (l : List ℕ). l ∷ []) line), refl) refl)
    (as_before folder.told))
    (uncounted refl (stays_itself folder).counts)
