-- A memory that is the same where the code may read holds the same state.
use Rattle.std.proofs.Common.{◌≡◌, ℕ, ◌+◌, ◌*◌, true, refl, ◌∙◌, arith}
use Rattle.play_model.specs.State.{FrameState, playing_of}
use Rattle.packed_form.specs.declared.packed_songs.PackedSong.{PackedSong}
use Rattle.scopes.specs.Desk.{Layout}
use Rattle.player_memory.specs.declared.labels.TheConstants.{LENT}
use Rattle.player_memory.specs.Rooms.{MayUse}
use Rattle.player_memory.specs.Playing.{IsPlaying}
use Rattle.player_memory.specs.SongLists.{HasSongLists, slide_rows}
use Rattle.player_memory.specs.Holds.{Holds}
use Rattle.player_desk.proofs.Laws.{SameVariables, playing_stays, own_below}
use Rattle.frame_code.proofs.Leaving.{song_lists_stay}
use Rattle.frame_code.proofs.Holding.{other_holds}

-- the same where the code may read
abbrev pub SameRead : Layout → (ℕ → ℕ) → (ℕ → ℕ) → Type 0
SameRead layout one two = (place : ℕ) → layout.may_read place ≡ true → two place ≡ one place

pub lists_where_read : (layout : Layout) (packed : PackedSong) (one two : ℕ → ℕ) → MayUse layout (slide_rows packed) →
    SameRead layout one two → HasSongLists layout packed one → HasSongLists layout packed two
lists_where_read layout packed one two uses same =
    song_lists_stay layout packed one two (record {
      elsewhere = λ place away may. same place may;
      slides = λ kept row few plain.
          let may = uses.slides kept row few in record { low = same _ may.reads_low; high = same _ may.reads_high };
    })

pub holds_where_read : (layout : Layout) (packed : PackedSong) (k : ℕ) (x : FrameState) (one two : ℕ → ℕ) →
    MayUse layout (slide_rows packed) → SameRead layout one two → Holds layout packed k x one →
    Holds layout packed k x two
holds_where_read layout packed k x one two uses same holds = record {
  lists = lists_where_read layout packed one two uses same holds.lists;
  voices = λ voice few.
      let mine = holds.voices voice few in
      let plays : IsPlaying layout voice (playing_of (voice + 1) x) two =
      playing_stays layout one two voice (playing_of (voice + 1) x) variables few mine.plays in
      other_holds layout packed k voice x x x.common one two few refl
      (λ label own other. variables (label + 7 * voice) (own_below label voice own few)) plays.common plays.tempos mine;
  none_lent = variables LENT (omega arith) ∙ holds.none_lent;
}
  where
    variables : SameVariables layout one two
    variables label below = same (layout.address label) (uses.reads label below)
