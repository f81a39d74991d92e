-- A state that a memory holds with spare bytes beside it, for each wide layout.
use Rattle.std.proofs.Common.{◌≡◌, ℕ, ◌||◌, Bool, true, false, List, if◌then◌else◌, inl, inr, refl}
use Rattle.std.proofs.Common.{sym, ◌∙◌}
use Rattle.std.proofs.lemmas.Bool.{or_cases, both_ways}
use Rattle.song_model.specs.declared.songs.Song.{Song}
use Rattle.play_model.specs.declared.options.Options.{Options}
use Rattle.play_model.specs.State.{FrameState}
use Rattle.packed_form.specs.declared.packed_songs.PackedSong.{PackedSong}
use Rattle.scopes.specs.Desk.{Desk}
use Rattle.player_memory.specs.Holds.{Holds}
use Rattle.frame_code.proofs.Laws.{holds_where_read}
use Rattle.narrow_runs.specs.Narrow.{IsSameBut}
use Rattle.player_code.specs.Plans.{Plan}
use Rattle.player_calls.specs.WideLayouts.{is_spare, wide_layout}
use Rattle.player_calls.specs.Players.{IsPlayer}

-- a memory that is as this one but for the spare bytes holds the state
pub record Spared (plan : Plan) (packed : PackedSong) (k : ℕ) (x : FrameState) (at : ℕ → ℕ) (which : Bool) : Type 0
  where
    pub memory : ℕ → ℕ
    pub same : (place : ℕ) → is_spare which place ≡ false → memory place ≡ at place
    pub holds : Holds (wide_layout plan which) packed k x memory

-- these spare bytes beside a memory
abbrev pub beside : Bool → (ℕ → ℕ) → (ℕ → ℕ) → ℕ → ℕ
beside which spare at place = if is_spare which place then spare place else at place

pub beside_none : (which : Bool) (spare at : ℕ → ℕ) (place : ℕ) → is_spare which place ≡ false →
    beside which spare at place ≡ at place
beside_none which spare at place none = rw none refl

-- it does in another memory with the same bytes where the code may read
pub moved : {packed : PackedSong} {song : Song} {o : Options} {bytes : List ℕ} (plan : Plan) →
    IsPlayer plan packed song o bytes → (k : ℕ) (x : FrameState) (one two : ℕ → ℕ) (which : Bool) →
    ((place : ℕ) → plan.may_read place ≡ true → two place ≡ one place) → Spared plan packed k x one which →
    Spared plan packed k x two which
moved {packed = packed} plan p k x one two which same spared = record {
  memory = beside which spared.memory two;
  same = beside_none which spared.memory two;
  holds = holds_where_read (wide_layout plan which) packed k x spared.memory (beside which spared.memory two)
      (p.laid which).uses as_read spared.holds;
}
  where
    as_read : (place : ℕ) → (plan.may_read place || is_spare which place) ≡ true →
        beside which spared.memory two place ≡ spared.memory place
    as_read place may = by_case (is_spare which place) refl
      where
        by_case : (z : Bool) → is_spare which place ≡ z → beside which spared.memory two place ≡ spared.memory place
        by_case true is = rw is refl
        by_case false none =
            elim (or_cases (plan.may_read place) (is_spare which place) may) [
              | inl own ↦ beside_none which spared.memory two place none ∙ same place own ∙ sym (spared.same place none)
              | inr is ↦ absurd (both_ways (is_spare which place) none is)
            ]

-- a desk with a memory like its own but for the spare bytes
abbrev pub with_memory : Desk → (ℕ → ℕ) → Desk
with_memory desk memory = record desk { at = memory }

pub same_but : (which : Bool) (desk : Desk) (memory : ℕ → ℕ) →
    ((place : ℕ) → is_spare which place ≡ false → memory place ≡ desk.at place) →
    IsSameBut (is_spare which) desk (with_memory desk memory)
same_but which desk memory same = record { cpu = refl; at = λ place none. sym (same place none) }
