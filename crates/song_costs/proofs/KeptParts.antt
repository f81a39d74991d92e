-- The parts that are kept have one cause, and what is told of them.
use Rattle.std.proofs.Common.{◌≡◌, ◌≢◌, ℕ, ◌↔◌, ◌⊎◌, true, false, Some, refl, sym, ◌∙◌, ap, subst, inl, inr, arith}
use Rattle.std.proofs.lemmas.Bool.{true≢false}
use Rattle.song_model.specs.declared.songs.Song.{Song}
use Rattle.song_model.specs.Feature.{bit_of}
use Rattle.play_model.specs.declared.options.Options.{Options}
use Rattle.player_memory.specs.declared.conditions.TheConstants.{SKIP_EFFECTS, SKIP_PULSE, TIMED, SKIP_FIRST}
use Rattle.player_memory.specs.FactLines.{fact_condition}
use Rattle.kept_lines.specs.KeptLines.{keeps}
use Rattle.image_parts.specs.CodeParts.{part_length}
use Rattle.song_places.specs.declared.places.Place.{Place}
use Rattle.song_costs.specs.declared.kept.Cause.{Cause}
use Rattle.song_costs.specs.declared.kept.Cause.TheVariants.{InSong, SkipOption, SpeedOption}
use Rattle.song_costs.specs.declared.kept.PartCost.{PartCost}
use Rattle.song_places.specs.PartPlaces.{keeps_part, NeedsFor}
use Rattle.song_costs.specs.Kept.{IsCause, IsPartCost}
use Rattle.song_places.proofs.Laws.{one_first}

-- ---- one cause

abbrev IsSkip : ℕ → Type 0
IsSkip part = (part ≡ SKIP_EFFECTS) ⊎ (part ≡ SKIP_PULSE) ⊎ (part ≡ SKIP_FIRST)

-- no feature and no fact keeps a part of the options
not_of_skip : (condition part : ℕ) → keeps_part condition part ≡ true → IsSkip part → ⊥
not_of_skip condition part kept (inl is) =
    (let out : false ≡ true = subst (λ (p : ℕ). keeps_part condition p ≡ true) is kept in true≢false (sym out))
not_of_skip condition part kept (inr (inl is)) =
    (let out : false ≡ true = subst (λ (p : ℕ). keeps_part condition p ≡ true) is kept in true≢false (sym out))
not_of_skip condition part kept (inr (inr is)) =
    (let out : false ≡ true = subst (λ (p : ℕ). keeps_part condition p ≡ true) is kept in true≢false (sym out))

not_of_speed : (condition part : ℕ) → keeps_part condition part ≡ true → part ≡ TIMED → ⊥
not_of_speed condition part kept is =
    (let out : false ≡ true = subst (λ (p : ℕ). keeps_part condition p ≡ true) is kept in true≢false (sym out))

not_skip : (song : Song) (part : ℕ) (place : Place) → NeedsFor song part place → IsSkip part → ⊥
not_skip song part place (inl h) skip = not_of_skip (bit_of h.feature) part h.is_kept skip
not_skip song part place (inr h) skip = not_of_skip (fact_condition h.fact) part h.is_kept skip

not_timed : (song : Song) (part : ℕ) (place : Place) → NeedsFor song part place → part ≡ TIMED → ⊥
not_timed song part place (inl h) timed = not_of_speed (bit_of h.feature) part h.is_kept timed
not_timed song part place (inr h) timed = not_of_speed (fact_condition h.fact) part h.is_kept timed

not_both : (part : ℕ) → IsSkip part → part ≡ TIMED → ⊥
not_both part (inl e) timed = omega arith
not_both part (inr (inl e)) timed = omega arith
not_both part (inr (inr e)) timed = omega arith

pub one_cause : (song : Song) (part : ℕ) (one other : Cause) → IsCause song part one → IsCause song part other →
    one ≡ other
one_cause song part (InSong a) (InSong b) f g =
    ap (λ (place : Place). InSong place) (one_first (NeedsFor song part) a b f g)
one_cause song part (InSong a) SkipOption f g = absurd (not_skip song part a f.is_such g)
one_cause song part (InSong a) SpeedOption f g = absurd (not_timed song part a f.is_such g)
one_cause song part SkipOption (InSong b) f g = absurd (not_skip song part b g.is_such f)
one_cause song part SkipOption SkipOption f g = refl
one_cause song part SkipOption SpeedOption f g = absurd (not_both part f g)
one_cause song part SpeedOption (InSong b) f g = absurd (not_timed song part b g.is_such f)
one_cause song part SpeedOption SkipOption f g = absurd (not_both part g f)
one_cause song part SpeedOption SpeedOption f g = refl

-- ---- what is told

pub same_cost : (cost : PartCost) (part bytes : ℕ) (cause : Cause) → cost.part ≡ part → cost.bytes ≡ bytes →
    cost.cause ≡ cause → ◌≡◌ {A = PartCost} (record { part = part; bytes = bytes; cause = cause }) cost
same_cost cost part bytes cause a b c = rw (sym a, sym b, sym c) refl

same_some_cost : (a b : PartCost) → Some a ≡ Some b → a ≡ b
same_some_cost a b e = cc

pub cost_exactly : (song : Song) (asked : ℕ) (options : Options) (part bytes : ℕ) (cause : Cause) →
    keeps asked options part ≡ true → bytes ≡ part_length asked options part → bytes ≢ 0 →
    IsCause song part cause → (cost : PartCost) →
    (Some (record { part = part; bytes = bytes; cause = cause }) ≡ Some cost)
    ↔ ((cost.part ≡ part) × IsPartCost song asked options cost)
cost_exactly song asked options part bytes cause kept is some why cost = (
  λ e. subst (λ (c : PartCost). (c.part ≡ part) × IsPartCost song asked options c) (same_some_cost _ cost e)
      (refl, record { kept = kept; bytes = is; some = some; cause = why }),
  λ told. ap (λ (c : PartCost). Some c) (same_cost cost part bytes cause told.0
      (told.1.bytes ∙ ap (part_length asked options) told.0 ∙ sym is)
      (one_cause song part cost.cause cause (subst (λ (n : ℕ). IsCause song n cost.cause) told.0 told.1.cause) why)),
)
