-- The first song's part of the joined song: what the first song comes to stands under its own numbers.
use Rattle.std.proofs.Common.{◌≡◌, ℕ, ◌≤◌, length, refl, sym, ap, ◌∙◌, subst, inl, inr, arith}
use Rattle.std.proofs.lemmas.Bool.{cases_lt}
use Rattle.song_model.specs.declared.instruments.Instrument.{Instrument}
use Rattle.song_model.specs.declared.tables.TableName.{TableName}
use Rattle.song_model.specs.declared.tables.TableName.TheVariants.{Wave, Pulse, Filter, Speed}
use Rattle.song_model.specs.declared.songs.Song.{Song}
use Rattle.song_model.specs.LookUp.{IsNumbered, zero_table_row, table_of, table_row, instrument_at, pattern_at}
use Rattle.play_model.specs.LookUps.{look_ups_of}
use Rattle.play_model.specs.Used.{IsUsedInstrument}
use Rattle.play_model.specs.Reached.{IsReached}
use Rattle.play_model.specs.Playable.{IsPlayable}
use Rattle.play_model.proofs.Laws.{closed_lem, whole_lem}
use Rattle.same_frames.specs.Maps.{same_numbers, IsPatternFor}
use Rattle.same_frames.specs.Agreement.{Agrees}
use Rattle.same_frames.proofs.Laws.{themselves_lem}
use Rattle.song_join.specs.Joined.{joined}
use Rattle.song_join.specs.Loose.{IsLooseInstrument, IsLooseSpeed}
use Rattle.song_join.specs.JoinLaws.{AreJoinable}
use Rattle.song_join.proofs.FoundParts.{first_row, first_instrument, first_pattern}

-- ---- what a song uses is stored

used_least : (song : Song) (i : ℕ) → IsUsedInstrument song i → 1 ≤ i
used_least song i (inl first) = omega arith
used_least song i (inr named) = elim (cases_lt i 1) [
  | inl low ↦ (let none : i ≡ 0 = omega arith in absurd (named.some none))
  | inr some ↦ some
]

pub instrument_stored : (song : Song) → ((n : ℕ) → ¬ IsLooseInstrument song n) → (i : ℕ) → IsUsedInstrument song i →
    IsNumbered song.instruments i
instrument_stored song none i used = record {
  first = used_least song i used;
  last = elim (cases_lt (length song.instruments) i) [
    | inl above ↦ absurd (none i (record { used = used; above = above }))
    | inr there ↦ there
  ];
}

speed_stored : (song : Song) → ((n : ℕ) → ¬ IsLooseSpeed song n) → (p : ℕ) → IsReached song Speed p →
    IsNumbered song.speed p
speed_stored song none p reached =
    let some = (closed_lem song).some Speed p reached in
    record {
      first = elim (cases_lt p 1) [
        | inl low ↦ (let zero : p ≡ 0 = omega arith in absurd (some zero))
        | inr least ↦ least
      ];
      last = elim (cases_lt (length song.speed) p) [
        | inl above ↦ absurd (none p (record { pointer = ((closed_lem song).speed p).0 reached; above = above }))
        | inr there ↦ there
      ];
    }

pub row_stored : (song : Song) → IsPlayable song → ((n : ℕ) → ¬ IsLooseSpeed song n) → (name : TableName) (p : ℕ) →
    IsReached song name p → IsNumbered (table_of song name) p
row_stored song play none Wave p reached = (whole_lem song play).row Wave p (λ e. cc) reached
row_stored song play none Pulse p reached = (whole_lem song play).row Pulse p (λ e. cc) reached
row_stored song play none Filter p reached = (whole_lem song play).row Filter p (λ e. cc) reached
row_stored song play none Speed p reached = speed_stored song none p reached

-- ---- agreement

speed_zero : (song : Song) → table_row song Speed 0 ≡ zero_table_row
unfolding table_row
speed_zero song = refl

module _ (first second : Song) (j : AreJoinable first second) where
  own : Agrees same_numbers first (look_ups_of first)
  own = themselves_lem first j.first_limits j.first_plays

  pub first_agrees : Agrees same_numbers first (look_ups_of (joined first second))
  first_agrees = record {
    rows = λ name. record {
      nothing = refl;
      some = (closed_lem first).some name;
      row = λ p is.
          first_row first second name p (row_stored first j.first_plays j.can.speeds.first_song name p is)
          ∙ (own.rows name).row p is;
    };
    programs = own.programs;
    no_speed = speed_zero (joined first second);
    instruments = record {
      nothing = refl;
      some = own.instruments.some;
      stands_for = λ i used. record {
        moved = ap (λ (x : Instrument). record x { name = (instrument_at first i).name })
            (first_instrument first second i (instrument_stored first j.can.instruments.first_song i used));
      };
    };
    patterns = λ n used.
        subst (IsPatternFor same_numbers (pattern_at first n))
        (sym (first_pattern first second n ((whole_lem first j.first_plays).pattern n used))) (own.patterns n used);
  }
