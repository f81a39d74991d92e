-- A song under new numbers is complete: it can be played, and it stores all that it names.
use Rattle.std.proofs.Common.{◌≡◌, ℕ, ◌<◌, ◌⊎◌, true, false, List, [], ◌∷◌, map, length, refl}
use Rattle.std.proofs.Common.{sym, ◌∙◌, subst, inl, inr, arith}
use Rattle.song_model.specs.declared.tables.TableName.{TableName}
use Rattle.song_model.specs.declared.tables.TableName.TheVariants.{Speed}
use Rattle.song_model.specs.declared.songs.Song.{Song}
use Rattle.song_model.specs.Endless.{IsEndless}
use Rattle.song_model.specs.LookUp.{IsNumbered, table_of, playable_subtunes}
use Rattle.play_model.specs.declared.unplayable.Unplayable.TheVariants.{NoSubtune, MissingPattern, BadRestart}
use Rattle.play_model.specs.declared.unplayable.Unplayable.TheVariants.{TableOverflow, PointerToJump}
use Rattle.play_model.specs.Used.{IsUsedPattern}
use Rattle.play_model.specs.Reached.{IsPointer, IsStep}
use Rattle.play_model.specs.Playable.{IsJumpTarget, IsPlayable}
use Rattle.play_model.proofs.Laws.{closed_lem, whole_lem}
use Rattle.same_frames.specs.Maps.{Maps}
use Rattle.same_frames.specs.OrderLaws.{moved_subtune}
use Rattle.packed_form.specs.StandsFor.{IsComplete}
use Rattle.same_frames.proofs.Laws.{StandsForOne, endless_moved, is_there, stored_is_played, target_from, step_from}
use Rattle.same_frames.proofs.Laws.{no_jump_there}
use Rattle.song_pack.proofs.UsedParts.{IsMoved, under, order_from, pattern_from, instrument_from, reached_from, pointer_from}

-- ---- what is pointed at

-- what a pointer or a jump of the other song names stands for a row that isn't a jump
named_step : (maps : Maps) (song other : Song) → IsMoved maps song other → (name : TableName) (row : ℕ) →
    IsPointer other name row ⊎ IsJumpTarget other name row → StandsForOne (maps.row name) (IsStep song name) row
named_step maps song other m name row (inl pointer) =
    step_from maps song other (under maps song other m) name row (pointer_from maps song other m name row pointer)
named_step maps song other m name row (inr target) =
    target_from maps song other (under maps song other m) name row target
    (reached_from maps song other m name target.p target.reached)

-- ---- the other song can be played

none_of_map : {X Y : Type 0} (f : X → Y) (xs : List X) → map f xs ≡ [] → xs ≡ []
none_of_map f [] e = refl
none_of_map f (x ∷ xs) e = absurd cc

can_be_played : (maps : Maps) (song other : Song) → IsMoved maps song other → IsPlayable other
can_be_played maps song other m NoSubtune none =
    (whole_lem song m.playable).subtune
    (none_of_map (moved_subtune maps) (playable_subtunes song) (sym m.subtunes ∙ none))
can_be_played maps song other m (MissingPattern s c place pattern) misses =
    let used : IsUsedPattern other pattern = record {
      byte = record {
        order = misses.order;
        played = stored_is_played other s c misses.order misses.has;
        entry = is_there misses.order.entries place pattern misses.names;
      };
      is_pattern = misses.is_pattern;
    } in
    let from = pattern_from maps song other m pattern used in
    let there = subst (λ (n : ℕ). n < length other.patterns) from.new (m.pattern from.old from.is_such) in
    let missing = misses.missing in
    absurd (omega arith)
can_be_played maps song other m (BadRestart s c) stops =
    let from = order_from maps song other m stops.order (stored_is_played other s c stops.order stops.has) in
    stops.stops
    (subst IsEndless from.is
    (endless_moved maps from.from ((whole_lem song m.playable).order from.from from.played)
    (λ byte has low. m.number byte
    (record { byte = record { order = from.from; played = from.played; entry = has }; is_pattern = low }))))
can_be_played maps song other m (TableOverflow name row) runs =
    let from = reached_from maps song other m name row runs.reached in
    let there = subst (IsNumbered (table_of other name)) from.new (m.row name from.old from.is_such) in
    let above = runs.above in
    let last = there.last in
    absurd (omega arith)
can_be_played maps song other m (PointerToJump name row) points =
    let stays =
    no_jump_there maps song other (under maps song other m) name row
    (named_step maps song other m name row points.named) in
    let jump : true ≡ false = sym points.jump ∙ stays in
    absurd cc

pub complete_lem : (maps : Maps) (song other : Song) → IsMoved maps song other →
    playable_subtunes other ≡ other.subtunes → IsComplete other
complete_lem maps song other m all = record {
  subtunes = all;
  playable = can_be_played maps song other m;
  instruments = λ i used.
      let from = instrument_from maps song other m i used in
      subst (IsNumbered other.instruments) from.new (m.instrument from.old from.is_such);
  speeds = λ p pointer.
      let from = reached_from maps song other m Speed p ((closed_lem other).pointer Speed p pointer) in
      subst (IsNumbered other.speed) from.new (m.row Speed from.old from.is_such);
}
