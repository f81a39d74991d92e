-- The numbers of a program are the same for both systems, since only numbers that are loaded differ.
use Rattle.std.proofs.Common.{◌≡◌, ℕ, List, refl, sym, subst}
use Rattle.play_model.specs.declared.options.Options.{Options}
use Rattle.play_model.specs.declared.options.System.{System}
use Rattle.packed_form.specs.declared.packed_songs.PackedSong.{PackedSong}
use Rattle.packed_form.specs.WalkCount.{walk_count}
use Rattle.kept_lines.specs.Asked.{asked_by}
use Rattle.kept_lines.specs.KeptLines.{kept_set}
use Rattle.player_bound.specs.declared.bounds.CallBounds.{CallBounds}
use Rattle.player_bound.specs.Programs.{Blocks, program_blocks}
use Rattle.player_bound.specs.Answers.{AreBounds}
use Rattle.player_bound.specs.BoundLaws.{SystemsAreBoundAlike}
use Rattle.player_bound.proofs.SamePrograms.{program}

same_kept : (set : ℕ) (o : Options) (system : System) → kept_set set (record o { system = system }) ≡ kept_set set o
unfolding kept_set
same_kept set o system = refl

alike : (o : Options) (system : System) (kept turns : ℕ) (numbers : List ℕ) (bounds : CallBounds) →
    AreBounds (program o kept turns) numbers bounds →
    AreBounds (program (record o { system = system }) kept turns) numbers bounds
alike o system kept turns numbers bounds are = record {
  init_admitted = are.init_admitted;
  play_admitted = are.play_admitted;
  init = are.init;
  play = are.play;
}

pub systems_are_bound_alike : SystemsAreBoundAlike
systems_are_bound_alike packed o system numbers bounds are =
    subst (λ kept. AreBounds (program (record o { system = system }) kept (walk_count packed)) numbers bounds)
    (sym (same_kept (asked_by packed) o system))
    (alike o system (kept_set (asked_by packed) o) (walk_count packed) numbers bounds are)
