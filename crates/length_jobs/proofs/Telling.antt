-- The lines of subtunes, one more after the other.
use Rattle.std.proofs.Common.{◌≡◌, ℕ, suc, ◌+◌, ◌<◌, ◌≤◌, ◌^◌, List, [], ◌∷◌, ◌++◌, Option, Some, None, IfSome, refl}
use Rattle.std.proofs.Common.{sym, ap, ◌∙◌, subst, arith}
use Rattle.std.specs.List.{concat}
use Rattle.std.proofs.lemmas.List.{append-nil}
use Rattle.std.proofs.lemmas.List.Folds.{concat-append}
use Rattle.goat_io.specs.Files.{Files}
use Rattle.goat_io.specs.declared.fault.SinkFault.{SinkFault}
use Rattle.goat_io.specs.declared.fault.SinkFault.TheVariants as sink
use Rattle.psid.specs.declared.header.Psid.{Psid}
use Rattle.sid_run.specs.State.{loaded}
use Rattle.cpu6502.specs.declared.machine.Machine.{Machine}
use Rattle.song_length.specs.declared.counts.Dearest.{Dearest}
use Rattle.song_length.specs.declared.measuring.Repeat.{Repeat}
use Rattle.song_length.specs.declared.measuring.Measured.{Measured}
use Rattle.song_length.specs.declared.measuring.MeasureFault.{MeasureFault}
use Rattle.song_length.specs.declared.measuring.MeasureFault.TheVariants.{NoMemory, Stopped}
use Rattle.song_length.specs.Told.{AreTold, IsMeasured, IsFault}
use Rattle.song_length.proofs.Laws.{few_are_told}
use Rattle.command_line.specs.Words.{Measure, measure_limit}
use Rattle.command_line.specs.Last.{Last, SaysNothing, last_of, IsOfSink}
use Rattle.command_line.specs.declared.refusal.Refusal.{Refusal}
use Rattle.jobs.specs.Lines.{measured_line}
use Rattle.jobs.specs.Lengths.{TellLengths}
use Rattle.jobs.specs.Stages.{HoldsPsid, SubtunesReturn}
use Rattle.jobs.specs.Stands.{SinkState, Appends}
use Rattle.jobs.specs.Endings as ends
use Rattle.jobs.specs.Endings.{StageEnds, PutFails}
use Rattle.jobs.proofs.Laws.{tell_none, tell_more, appends_nothing, appends_both, appends_none, fails_then}
use Rattle.length_jobs.specs.Refusals.{refusal_says}
use Rattle.length_jobs.specs.Numbers.{HasFewDigits}

-- ---- what is told has few digits

few_told : (play : ℕ) (first : Machine) (calls : ℕ) (dearest : Dearest) (repeat : Option Repeat) → calls ≤ measure_limit →
    AreTold play first calls dearest repeat → (dearest.call < 10 ^ 7)
    × IfSome repeat (λ (r : Repeat). r.from < 10 ^ 7) × IfSome repeat (λ (r : Repeat). r.length < 10 ^ 7)
few_told play first calls dearest (Some repeat) few are =
    let within = are.0 in
    let call = are.2.1 in
    (omega (arith, few, within, call), omega (arith, few, within), omega (arith, few, within))
few_told play first calls dearest None few are = (let call = are.2.1 in omega (arith, few, call), tt, tt)

pub few_digits : (psid : Psid) (song calls : ℕ) (told : Measured) → calls ≤ measure_limit →
    IsMeasured psid song calls told → HasFewDigits told
few_digits psid song calls told few is =
    let little = few_are_told psid song calls told is in
    let init = little.0 in
    let dearest = little.1 in
    let others = few_told (loaded psid).play is.first calls told.dearest told.repeat few is.told in
    record {
      init = omega (arith, init);
      cycles = omega (arith, dearest);
      call = others.0;
      from = others.1;
      length = others.2;
    }

-- ---- the lines

-- those of the first subtunes are printed
pub record ToldSoFar (psid : Psid) (calls songs : ℕ) (before after : SinkState) : Type 0 where
  pub lines : List (List ℕ)
  pub tell : TellLengths psid calls songs lines
  pub printed : Appends (concat lines) before after

pub none_told : (psid : Psid) (calls : ℕ) (sink : SinkState) → ToldSoFar psid calls 0 sink sink
none_told psid calls sink = record { lines = []; tell = tell_none psid calls; printed = appends_nothing sink }

concat_more : (lines : List (List ℕ)) (line : List ℕ) → concat (lines ++ line ∷ []) ≡ concat lines ++ line
concat_more lines line = concat-append lines (line ∷ []) ∙ ap (λ t. concat lines ++ t) (append-nil line)

module _ {psid : Psid} {calls songs : ℕ} {before after : SinkState} (so_far : ToldSoFar psid calls songs before after)
  where
    -- one subtune more
    pub told_on : (told : Measured) {shown : SinkState} → IsMeasured psid songs calls told →
        Appends (measured_line calls (songs + 1) told) after shown → ToldSoFar psid calls (suc songs) before shown
    told_on told {shown} is appends = record {
      lines = so_far.lines ++ measured_line calls (songs + 1) told ∷ [];
      tell = tell_more psid calls songs so_far.lines told so_far.tell is;
      printed =
          subst (λ text. Appends text before shown) (sym (concat_more so_far.lines (measured_line calls (songs + 1) told)))
          (appends_both so_far.printed appends);
    }

    module _ (files : Files) (name : List ℕ) (holds : HoldsPsid files name psid) (few : songs < psid.header.songs) where
      -- the line of a subtune was not put
      pub line_cut : (told : Measured) {shown : SinkState} → IsMeasured psid songs calls told → (fault : SinkFault)
          (it : Refusal) → IsOfSink fault it →
          (fault ≡ sink.Failed → PutFails (measured_line calls (songs + 1) told) after shown) →
          (fault ≡ sink.NoMemory → Appends [] after shown) →
          StageEnds (Measure name calls) files (SubtunesReturn name calls) (last_of it) before shown
      line_cut told is sink.Failed it says fails none =
          let failing = fails refl in
          let more = tell_more psid calls songs so_far.lines told so_far.tell is in
          rw says (ends.failed so_far.lines (measured_line calls (songs + 1) told) failing.kept
          (psid, holds, suc songs, omega (arith, few), more) refl (fails_then so_far.printed failing.fails))
      line_cut told is sink.NoMemory it says fails none =
          let more = tell_more psid calls songs so_far.lines told so_far.tell is in
          rw says (ends.wanting so_far.lines (measured_line calls (songs + 1) told)
          (psid, holds, suc songs, omega (arith, few), more) refl (appends_none so_far.printed (none refl)))

      -- nothing is told of a subtune
      pub untold : (fault : MeasureFault) (last : Last) → IsFault psid songs calls fault → last ≡ refusal_says fault →
          StageEnds (Measure name calls) files (SubtunesReturn name calls) last before after
      untold NoMemory last is says =
          ends.wanting_next so_far.lines (psid, holds, songs, few, so_far.tell) says so_far.printed
      untold (Stopped call reason) last is says =
          ends.ended so_far.lines _ (
            psid,
            holds,
            record {
              subtune = songs;
              there = few;
              earlier = so_far.lines;
              tell = so_far.tell;
              call = call;
              reason = reason;
              stops = is;
              lines_are = refl;
            },
          ) says so_far.printed

    -- all are told
    pub all_told : (files : Files) (name : List ℕ) → HoldsPsid files name psid → songs ≡ psid.header.songs →
        StageEnds (Measure name calls) files (SubtunesReturn name calls) SaysNothing before after
    all_told files name holds all =
        let tell = subst (λ n. TellLengths psid calls n so_far.lines) all so_far.tell in
        ends.met so_far.lines (psid, tell.told, holds, tell.are) ((psid, holds, tell), refl) refl so_far.printed
