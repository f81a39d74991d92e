-- Small songs whose voices begin with one instrument or another, worked out by hand.
use Rattle.std.specs.Prelude.{◌≡◌, ℕ, List, [], ◌∷◌}
use Rattle.song_model.specs.declared.rows.Row.{Row}
use Rattle.song_model.specs.declared.songs.Song.{Song}
use Rattle.play_model.specs.LookUps.{look_ups_of}
use Rattle.play_model.specs.State.{no_options}
use Rattle.play_model.specs.WorkedSongs.{order, subtune, row, sides, plucked, rests, one_note}
use Rattle.same_frames.specs.FrameLaws.{start_with}
use Rattle.same_frames.specs.Begins.{BeginsUnnamed, timer_of, MayBeginWith}
use Rattle.same_frames.specs.WorkedMaps.{frames_from}

-- A song with two instruments, of which the second has another envelope, a vibrato and this gateoff timer; voice 1 plays
-- these rows.
abbrev pub two_instruments : ℕ → List Row → Song
two_instruments timer rows = record one_note {
  instruments = plucked ∷ record plucked { ad = 0x12; vibrato = 1; vibrato_delay = 1; gate_timer = timer } ∷ [];
  speed = sides 3 0x10 ∷ [];
  patterns = rows ∷ rests 1 ∷ [];
}

-- a row with a command, and then a note that names its instrument
abbrev pub named_rows : List Row
named_rows = row 0xBD 0 5 0x20 ∷ row 0x90 1 0 0 ∷ []

-- a note that names none
abbrev pub unnamed_rows : List Row
unnamed_rows = row 0xBD 0 5 0x20 ∷ row 0x90 0 0 0 ∷ row 0x90 1 0 0 ∷ []

pub record BeginningsAreUnnamed : Type 0 where
  pub note : BeginsUnnamed (look_ups_of (two_instruments 2 unnamed_rows)) (order (0 ∷ []))
  pub later : BeginsUnnamed (look_ups_of (two_instruments 2 unnamed_rows)) (order (1 ∷ 0 ∷ []))
  pub own : ¬ BeginsUnnamed (look_ups_of (two_instruments 2 named_rows)) (order (0 ∷ []))
  pub earlier : ¬ BeginsUnnamed (look_ups_of (two_instruments 2 (row 0xBD 2 0 0 ∷ unnamed_rows))) (order (0 ∷ []))

-- in the subtune of such a song the voices may begin with instrument 1 or 2
abbrev pub MayBeginWithBoth : ℕ → List Row → Type 0
MayBeginWithBoth timer rows =
    MayBeginWith (look_ups_of (two_instruments timer rows)) (subtune (0 ∷ []) (1 ∷ []) (1 ∷ [])) 1 2

-- not where the timers differ, nor where a note comes before an instrument, nor where a pattern has no row
pub record EitherBegins : Type 0 where
  pub both : MayBeginWithBoth 0xC2 named_rows
  pub timer : ¬ MayBeginWithBoth 3 named_rows
  pub named : ¬ MayBeginWithBoth 2 unnamed_rows
  pub lengths : ¬ MayBeginWithBoth 2 []

-- the registers of 30 frames, where each voice begins with this instrument
abbrev pub begun_with : ℕ → Song → List (List ℕ)
begun_with i song = frames_from no_options song 30 (start_with no_options i)

-- Where a row names an instrument with the first note, it doesn't show with which one a voice began, and bits 6 and 7 of
-- the timers don't count. It shows where none is named, and where the low six bits of the timers differ.
pub record BeginningsShow : Type 0 where
  pub same_timers : timer_of (look_ups_of (two_instruments 0xC2 named_rows)) 2
      ≡ timer_of (look_ups_of (two_instruments 0xC2 named_rows)) 1
  pub named : begun_with 2 (two_instruments 0xC2 named_rows) ≡ begun_with 1 (two_instruments 0xC2 named_rows)
  pub unnamed : ¬ (begun_with 2 (two_instruments 2 unnamed_rows) ≡ begun_with 1 (two_instruments 2 unnamed_rows))
  pub timer : ¬ (begun_with 2 (two_instruments 3 named_rows) ≡ begun_with 1 (two_instruments 3 named_rows))

pub record BeginningsAreAsWorked : Type 0 where
  pub unnamed : BeginningsAreUnnamed
  pub either : EitherBegins
  pub show : BeginningsShow
