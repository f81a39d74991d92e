-- What a joined song has of each part.
use Rattle.std.proofs.Common.{◌≡◌, ℕ, ◌+◌, List, ◌++◌, map, length, ap, ◌∙◌, length-append}
use Rattle.std.proofs.lemmas.List.{length-map}
use Rattle.song_model.specs.LookUp.{playable_subtunes}
use Rattle.song_join.specs.declared.faults.JoinPart.TheVariants.{Subtunes, Instruments, Wave, Pulse, Filter, Speed, Patterns}
use Rattle.song_join.specs.Joined.{joined}
use Rattle.song_join.specs.JoinLaws.{SumsAdd}

behind : {X Y : Type 0} (f : Y → X) (xs : List X) (ys : List Y) (n : ℕ) →
    length (xs ++ map f ys) + n ≡ length xs + length ys + n
behind f xs ys n = ap (λ k. k + n) (length-append xs (map f ys) ∙ ap (λ k. length xs + k) (length-map ys f))

pub sums_add_lem : SumsAdd
unfolding joined
sums_add_lem first second third Subtunes =
    behind _ first.subtunes (playable_subtunes second) (length (playable_subtunes third))
sums_add_lem first second third Instruments =
    behind _ first.instruments second.instruments (length third.instruments)
sums_add_lem first second third Wave = behind _ first.wave second.wave (length third.wave)
sums_add_lem first second third Pulse = behind _ first.pulse second.pulse (length third.pulse)
sums_add_lem first second third Filter = behind _ first.filter second.filter (length third.filter)
sums_add_lem first second third Speed = behind _ first.speed second.speed (length third.speed)
sums_add_lem first second third Patterns = behind _ first.patterns second.patterns (length third.patterns)
