-- The frames of a player, printed one after the other.
use Rattle.std.proofs.Common.{◌≡◌, ℕ, suc, ◌-◌, ◌<◌, List, [], refl, sym, subst, arith}
use Rattle.std.specs.List.{concat}
use Rattle.goat_io.specs.declared.fault.SinkFault.{SinkFault}
use Rattle.goat_io.specs.declared.fault.SinkFault.TheVariants as sink
use Rattle.song_model.specs.declared.songs.Song.{Song}
use Rattle.play_model.specs.declared.options.Options.{Options}
use Rattle.play_model.specs.Frame.{trace_with}
use Rattle.playroutine.specs.Playback.{Playback}
use Rattle.playroutine.specs.Played.{StandsAfter}
use Rattle.command_line.specs.declared.refusal.Refusal.{Refusal}
use Rattle.command_line.specs.RegisterText.{register_line, register_lines}
use Rattle.jobs.specs.Traces.{first_traces}
use Rattle.command_line.specs.Last.{SaysNothing, last_of, IsOfSink}
use Rattle.jobs.specs.Stands.{SinkState, Appends}
use Rattle.jobs.specs.Endings.{LinesEnd, PutFails, shown, cut, unsaid}
use Rattle.jobs.proofs.RegisterLines.{trace_text_more, has_later}
use Rattle.jobs.proofs.Told.{appends_nothing, appends_both, appends_none, fails_then}

-- the lines of the first calls are printed, and the player stands after the last of them
pub record TracedSoFar (song : Song) (k : ℕ) (o : Options) (calls : ℕ) (player : Playback)
    (before after : SinkState) : Type 0 where
  pub stands : StandsAfter player song k o (calls - 1)
  pub printed : Appends (concat (register_lines (first_traces o song k calls))) before after

pub none_traced : {song : Song} {k : ℕ} {o : Options} {player : Playback} (s : SinkState) →
    StandsAfter player song k o 0 → TracedSoFar song k o 0 player s s
none_traced s stands = record { stands = stands; printed = appends_nothing s }

module _ {song : Song} {k : ℕ} {o : Options} {calls : ℕ} {player : Playback} {before after : SinkState}
    (so_far : TracedSoFar song k o calls player before after) where
  -- one call more
  pub traced_on : (later : Playback) (registers : List ℕ) {told : SinkState} → registers ≡ trace_with o song k calls →
      StandsAfter later song k o calls → Appends (register_line calls registers) after told →
      TracedSoFar song k o (suc calls) later before told
  traced_on later registers {told} is stands appends =
      let line = subst (λ r. Appends (register_line calls r) after told) is appends in
      let z : suc calls - 1 ≡ calls = omega arith in
      record {
        stands = rw z stands;
        printed =
            subst (λ text. Appends text before told)
            (sym (trace_text_more o song k calls))
            (appends_both so_far.printed line);
      }

  -- the line of a call was not put
  pub trace_cut : (all : ℕ) → calls < all → (registers : List ℕ) → registers ≡ trace_with o song k calls →
      {told : SinkState} (fault : SinkFault) (it : Refusal) → IsOfSink fault it →
      (fault ≡ sink.Failed → PutFails (register_line calls registers) after told) →
      (fault ≡ sink.NoMemory → Appends [] after told) →
      LinesEnd (register_lines (first_traces o song k all)) (last_of it) before told
  trace_cut all below registers same {told} sink.Failed it is fails none =
      let rest = has_later o song k calls all below in
      let failing = subst (λ r. PutFails (register_line calls r) after told) same (fails refl) in
      rw is (cut (register_lines (first_traces o song k calls)) rest.later
      (register_line calls (trace_with o song k calls)) failing.kept rest.lines_are refl
      (fails_then so_far.printed failing.fails))
  trace_cut all below registers same sink.NoMemory it is fails none =
      let rest = has_later o song k calls all below in
      rw is (unsaid (register_lines (first_traces o song k calls)) rest.later
      (register_line calls (trace_with o song k calls)) rest.lines_are refl (appends_none so_far.printed (none refl)))

  -- all lines are printed
  pub all_traced : (all : ℕ) → calls ≡ all →
      LinesEnd (register_lines (first_traces o song k all)) SaysNothing before after
  all_traced all is =
      let P : ℕ → Type 0 = λ n. Appends (concat (register_lines (first_traces o song k n))) before after in
      shown refl (subst P is so_far.printed)
