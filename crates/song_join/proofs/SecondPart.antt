-- The second song's part of the joined song: what the second song comes to stands under its new numbers.
use Rattle.std.specs.Prelude.{◌==◌}
use Rattle.std.proofs.Common.{◌≡◌, ◌≢◌, ℕ, suc, ◌+◌, cond, List, [], ◌∷◌, map, length, Contains}
use Rattle.std.proofs.Common.{refl, sym, ap, ◌∙◌, subst, inl, inr, arith}
use Rattle.std.proofs.lemmas.Bool.{cases_eq, ne_eqb}
use Rattle.song_model.specs.declared.rows.Row.{Row}
use Rattle.song_model.specs.declared.instruments.Instrument.{Instrument}
use Rattle.song_model.specs.declared.tables.TableName.{TableName}
use Rattle.song_model.specs.declared.tables.TableName.TheVariants.{Speed}
use Rattle.song_model.specs.declared.songs.Song.{Song}
use Rattle.song_model.specs.LookUp.{IsNumbered, zero_table_row, table_of, table_row, instrument_at, pattern_at}
use Rattle.play_model.specs.LookUps.{LookUps, look_ups_of}
use Rattle.play_model.specs.Used.{IsUsedPattern, IsUsedRow, IsUsedInstrument}
use Rattle.play_model.specs.Reached.{IsReached}
use Rattle.play_model.specs.Playable.{HasPrograms}
use Rattle.play_model.proofs.Laws.{closed_lem, whole_lem}
use Rattle.safe_states.proofs.Laws.{CanBePlayed}
use Rattle.same_frames.specs.Maps.{Maps, moved_instrument, named_after, IsPatternFor, AreRowsFor}
use Rattle.same_frames.specs.Agreement.{Agrees, RowsAgree, ProgramsAgree, InstrumentsAgree}
use Rattle.same_frames.proofs.Laws.{after_reached}
use Rattle.song_join.specs.Numbers.{new_numbers}
use Rattle.song_join.specs.Joined.{moved_pattern_row, joined}
use Rattle.song_join.specs.JoinLaws.{AreJoinable}
use Rattle.song_join.proofs.Ranges.{rows_within}
use Rattle.song_join.proofs.FoundParts.{row_number, second_row, instrument_number, second_instrument, second_pattern}
use Rattle.song_join.proofs.FirstPart.{instrument_stored, row_stored}

-- ---- rows of patterns

named_for : (to : ℕ → ℕ) (last a : ℕ) → to 0 ≡ 0 → (a ≢ 0 → to a ≢ 0) →
    cond (to a == 0) (to last) (to a) ≡ to (cond (a == 0) last a)
named_for to last a nothing some = elim (cases_eq a 0) [
  | inl z ↦ rw z (rw nothing refl)
  | inr n ↦ (
      let f = ne_eqb a 0 n in
      let g = ne_eqb (to a) 0 (some n) in
      rw f (rw g refl))
]

has_first : {X : Type 0} (x : X) (xs : List X) → Contains (x ∷ xs) x
has_first x xs = (0, omega arith, refl)

has_later : {X : Type 0} (y : X) (xs : List X) (x : X) → Contains xs x → Contains (y ∷ xs) x
has_later y xs x (k, inside, is) = (suc k, omega arith, is)

rows_for : (maps : Maps) (last : ℕ) (rows : List Row) → maps.instrument 0 ≡ 0 →
    ((row : Row) → Contains rows row → row.instrument ≢ 0 → maps.instrument row.instrument ≢ 0) →
    AreRowsFor maps last rows (map (moved_pattern_row maps) rows)
rows_for maps last [] nothing some = tt
rows_for maps last (row ∷ rows) nothing some = (
  record {
    note = refl;
    instrument = named_for maps.instrument last row.instrument nothing (some row (has_first row rows));
    command = refl;
    param = λ is. refl;
  },
  rows_for maps (named_after last row) rows nothing (λ r has. some r (has_later row rows r has)),
)

speed_zero : (song : Song) → table_row song Speed 0 ≡ zero_table_row
unfolding table_row
speed_zero song = refl

module _ (first second : Song) (j : AreJoinable first second) where
  abbrev pub maps : Maps
  maps = new_numbers first second

  abbrev pub both : LookUps
  both = look_ups_of (joined first second)

  pub play : CanBePlayed second
  play = record { limits = j.second_limits; playable = j.second_plays }

  -- ---- tables

  no_row : (name : TableName) → maps.row name 0 ≡ 0
  unfolding new_numbers
  no_row name = refl

  pub stored : (name : TableName) (p : ℕ) → IsReached second name p → IsNumbered (table_of second name) p
  stored name p is = row_stored second j.second_plays j.can.speeds.second_song name p is

  pub row_is : (name : TableName) (p : ℕ) → IsReached second name p →
      maps.row name p ≡ p + length (table_of first name)
  row_is name p is = row_number first second name p (stored name p is)

  rows_agree : (name : TableName) → RowsAgree maps second both name
  rows_agree name = record {
    nothing = no_row name;
    some =
        λ p is none.
        let e = row_is name p is in
        (closed_lem second).some name p is (omega arith);
    row = λ p is.
        ap (table_row (joined first second) name) (row_is name p is)
        ∙ second_row first second name p (stored name p is);
  }

  programs_agree : (name : TableName) → HasPrograms name → ProgramsAgree maps second name
  programs_agree name programs = record {
    small =
        λ p is.
        let e = row_is name p is in
        let most = (stored name p is).last in
        let few = rows_within first second name j.can.within in
        omega arith;
    next =
        λ p is no_jump more.
        let here = row_is name p is in
        let after =
        row_is name (p + 1)
        (after_reached second name p play programs (record { reached = is; no_jump = no_jump }) more) in
        omega arith;
  }

  -- ---- instruments

  pub no_instrument : maps.instrument 0 ≡ 0
  unfolding new_numbers
  no_instrument = refl

  pub used_stored : (i : ℕ) → IsUsedInstrument second i → IsNumbered second.instruments i
  used_stored i used = instrument_stored second j.can.instruments.second_song i used

  pub used_number : (i : ℕ) → IsUsedInstrument second i → maps.instrument i ≡ i + length first.instruments
  used_number i used = instrument_number first second i (used_stored i used)

  pub used_some : (i : ℕ) → IsUsedInstrument second i → maps.instrument i ≢ 0
  used_some i used none =
      let e = used_number i used in
      let least = (used_stored i used).first in
      omega arith

  pub instrument_is : (i : ℕ) → IsUsedInstrument second i →
      both.instrument (maps.instrument i) ≡ moved_instrument maps (instrument_at second i)
  instrument_is i used =
      ap (instrument_at (joined first second)) (used_number i used)
      ∙ second_instrument first second i (used_stored i used)

  instruments_agree : InstrumentsAgree maps second both
  instruments_agree = record {
    nothing = no_instrument;
    some = used_some;
    stands_for = λ i used. record {
      moved = ap (λ (x : Instrument). record x { name = (instrument_at second i).name }) (instrument_is i used);
    };
  }

  -- ---- patterns

  pub row_some : (row : Row) → IsUsedRow second row → row.instrument ≢ 0 → maps.instrument row.instrument ≢ 0
  row_some row used some =
      used_some row.instrument (inr (record { row = row; used = used; names = refl; some = some }))

  pattern_number : (n : ℕ) → maps.pattern n ≡ n + length first.patterns
  unfolding new_numbers
  pattern_number n = refl

  pub pattern_is : (n : ℕ) → IsUsedPattern second n →
      both.rows (maps.pattern n) ≡ map (moved_pattern_row maps) (pattern_at second n)
  pattern_is n used =
      ap (pattern_at (joined first second)) (pattern_number n)
      ∙ second_pattern first second n ((whole_lem second j.second_plays).pattern n used)

  patterns_agree : (n : ℕ) → IsUsedPattern second n →
      IsPatternFor maps (pattern_at second n) (both.rows (maps.pattern n))
  patterns_agree n used =
      subst (IsPatternFor maps (pattern_at second n)) (sym (pattern_is n used))
      (record {
        each =
            rows_for maps 0 (pattern_at second n) no_instrument
            (λ row has. row_some row (record { pattern = n; used = used; has = has }));
      })

  pub second_agrees : Agrees maps second both
  second_agrees = record {
    rows = rows_agree;
    programs = programs_agree;
    no_speed = speed_zero (joined first second);
    instruments = instruments_agree;
    patterns = patterns_agree;
  }
