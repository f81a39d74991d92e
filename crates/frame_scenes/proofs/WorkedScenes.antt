-- Packed patterns that are short enough, or too long; and what is no scene.
use Rattle.std.proofs.Common.{◌≡◌, ℕ, zero, suc, List, [], ◌∷◌, length}
use Rattle.std.proofs.Common.{replicate, Contains, inl, inr, refl, sym, ap, ◌∙◌, arith}
use Rattle.std.proofs.lemmas.Bool.{true≢false}
use Rattle.std.proofs.lemmas.List.{length-replicate}
use Rattle.song_model.specs.declared.features.Feature.TheVariants.{FilterTable}
use Rattle.song_facts.specs.declared.facts.Fact.TheVariants.{GateNote}
use Rattle.play_model.specs.Safe.{IsSafeNote}
use Rattle.packed_form.specs.declared.packed_songs.PackedSong.{PackedSong}
use Rattle.player_memory.specs.SongLists.{FrequencyLows}
use Rattle.frame_scenes.specs.FrameScenes.{KeepsPatternLimits}
use Rattle.frame_scenes.specs.WorkedScenes.{PatternLimitsAreWorked, NoneAreScenes}
use Rattle.frame_scenes.proofs.Lists.{listed_number}

-- the one item of a list
only : (one item : List ℕ) → Contains (one ∷ []) item → item ≡ one
only one item (zero, inside, e) = sym e
only one item (suc n, inside, e) = absurd (omega (arith, inside))

too_long : (packed : PackedSong) → KeepsPatternLimits packed → ¬ Contains packed.patterns (replicate 257 0xBD)
too_long packed keeps has =
    let most = keeps (replicate 257 0xBD) has in
    let count = length-replicate {A = ℕ} 257 0xBD in
    omega (arith, most, count)

pub pattern_limits_are_worked : (packed : PackedSong) → PatternLimitsAreWorked packed
pattern_limits_are_worked packed = record {
  longest = λ pattern has.
      let count = ap length (only (replicate 256 0xBD) pattern has) ∙ length-replicate {A = ℕ} 256 0xBD in
      omega (arith, count);
  longer = λ keeps.
      too_long (record packed { patterns = replicate 257 0xBD ∷ [] }) keeps (0, omega arith, refl);
}

no_note : (note : ℕ) → note ≡ 200 → ¬ IsSafeNote note
no_note note e (inl low) = omega (arith, e, low)
no_note note e (inr high) = let from = high.0 in omega (arith, e, from)

pub none_are_scenes : NoneAreScenes
none_are_scenes layout packed song o k x at = record {
  stands = λ other scene. other scene.stands.subtunes;
  order = λ none fall scene. fall (scene.stands.order none);
  short = λ has scene. too_long packed scene.short has;
  laid = λ e scene. let least = scene.laid.room.pointer_low in omega (arith, e, least);
  has = λ n inside other scene.
      let frequency = scene.has.lists FrequencyLows n tt (listed_number packed FrequencyLows n refl refl inside) in
      other frequency.is;
  used = λ some out scene. true≢false (sym (scene.used FilterTable some) ∙ out);
  facts = λ has out scene. true≢false (sym (scene.facts GateNote has) ∙ out);
  alone = λ none on scene. true≢false (sym (scene.alone GateNote on) ∙ none);
  shared = λ on out scene. true≢false (sym (scene.shared.once on) ∙ out);
  options = λ on out scene. true≢false (sym on ∙ (sym scene.options.pulse ∙ out));
  common = λ on out scene. true≢false (sym (scene.common.rise (rw on refl)) ∙ out);
  below = λ past scene. let below = scene.below in omega (arith, past, below);
  safe = λ e scene. no_note x.one.note e scene.safe.one.note;
  notes = λ no scene. no scene.notes.one.last;
  timer = λ other none scene.
      elim scene.notes.one.timer [
        | inl begins ↦ other begins.1
        | inr used ↦ none used
      ];
  mute = λ silent loud scene. loud (scene.mute 1 (omega arith) silent).ad;
  range = λ e scene. let word = scene.range.one.freq in omega (arith, e, word);
}
