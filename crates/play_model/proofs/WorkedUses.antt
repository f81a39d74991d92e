-- What a small song uses, and which songs can be played, worked out by hand.
use Rattle.std.proofs.Common.{◌≡◌, ◌≢◌, ℕ, zero, suc, ◌<◌, true, false, List, [], ◌∷◌, length}
use Rattle.std.proofs.Common.{All, Contains, Some, None, slice_get, lit<, lit≤, inl, inr, refl, sym, ◌∙◌, subst}
use Rattle.std.proofs.Common.{arith}
use Rattle.std.proofs.lemmas.List.Elements.{All-cons, All-nil}
use Rattle.base.proofs.Laws.{same_some}
use Rattle.song_model.specs.declared.rows.Row.{Row}
use Rattle.song_model.specs.declared.features.Feature.TheVariants.{PortaUp, FilterTable}
use Rattle.song_model.specs.declared.instruments.Instrument.{Instrument}
use Rattle.song_model.specs.declared.tables.TableName.{TableName}
use Rattle.song_model.specs.declared.tables.TableName.TheVariants.{Wave, Pulse, Filter, Speed}
use Rattle.song_model.specs.declared.tables.TableRow.{TableRow}
use Rattle.song_model.specs.LookUp.{instrument_at, table_row, table_of}
use Rattle.song_model.specs.Silence.{silence, rest_row, order_of_zero}
use Rattle.song_model.specs.Silent.{IsSilentRow, IsSilentOrder, IsSilentSubtune}
use Rattle.play_model.specs.Reached.{is_jump, led_to, IsPlayedPointer, of_instrument, IsWaveRowPointer, IsReached}
use Rattle.play_model.specs.Reached.{played, pointed, led, IsPointer, of_played, of_wave_row}
use Rattle.play_model.specs.Playable.{RunsOff, IsJumpTarget, PointsAtJump, IsPlayable}
use Rattle.play_model.specs.Features.{HasRow, HasFeature}
use Rattle.play_model.specs.WorkedUses.{with_programs, looping_song, UsesAreAsWorked}
use Rattle.play_model.proofs.ReachedRows.{no_wave_pointer}
use Rattle.play_model.proofs.SilentSongs.{PlaysRests, used_is_silent, pointer_is, tables_alone, silent_songs_can_be_played_lem}

-- ---- the silent song's orderlists

pub only : {X : Type 0} (y x : X) → Contains (y ∷ []) x → y ≡ x
only y x (zero, inside, is) = is
only y x (suc k, inside, is) = absurd (omega arith)

zero_is_silent : IsSilentOrder silence.patterns order_of_zero
zero_is_silent = record {
  entry = lit< tt;
  plain = All-cons (λ b. b < 0xD0) 0 [] (lit< tt) (All-nil (λ b. b < 0xD0));
  stored = All-cons (λ b. b < 1) 0 [] (lit< tt) (All-nil (λ b. b < 1));
  restart = lit< tt;
  rows = λ byte rows has stored.
      rows_are byte rows (only 0 byte has) stored;
}
  where
    rest_is_silent : All IsSilentRow (rest_row ∷ [])
    rest_is_silent =
        All-cons IsSilentRow rest_row [] (record { note = refl; instrument = refl; command = refl }) (All-nil IsSilentRow)

    rows_are : (byte : ℕ) (rows : List Row) → 0 ≡ byte → slice_get silence.patterns byte ≡ Some rows →
        All IsSilentRow rows
    rows_are byte rows zero_is stored =
        let first : Some (rest_row ∷ []) ≡ Some rows = rw (sym zero_is) at stored in
        subst (λ (items : List Row). All IsSilentRow items) (same_some (rest_row ∷ []) rows first) rest_is_silent

pub rests_lem : (instrument : Instrument) (wave pulse : List TableRow) →
    PlaysRests (with_programs instrument wave pulse)
rests_lem instrument wave pulse = record {
  one_subtune = refl;
  subtunes =
      All-cons (IsSilentSubtune silence.patterns) _ []
      (record { one = zero_is_silent; two = zero_is_silent; three = zero_is_silent })
      (All-nil (IsSilentSubtune silence.patterns));
}

-- ---- the rows that the looping song comes to

rests : PlaysRests looping_song
rests = rests_lem _ looping_song.wave looping_song.pulse

-- no more than these
abbrev pub Comes : TableName → ℕ → Type 0
Comes Wave p = Contains (1 ∷ 2 ∷ 3 ∷ 4 ∷ []) p
Comes Pulse p = Contains (1 ∷ 2 ∷ []) p
Comes Filter p = ⊥
Comes Speed p = 1 ≡ p

played_comes : (name : TableName) (p : ℕ) → IsPlayedPointer looping_song name p → Comes name p
unfolding instrument_at
played_comes Wave p x = (0, lit< tt, (pointer_is looping_song Wave p rests x).0)
played_comes Pulse p x = (0, lit< tt, (pointer_is looping_song Pulse p rests x).0)
played_comes Filter p x = (let w = pointer_is looping_song Filter p rests x in w.1 (sym w.0))
played_comes Speed p x = (let w = pointer_is looping_song Speed p rests x in absurd (w.1 (sym w.0)))

pointed_comes : (name : TableName) (r p : ℕ) → Comes Wave r → IsWaveRowPointer looping_song r name p → Comes name p
unfolding table_row
pointed_comes name r p (zero, inside, is) w = (let no : None ≡ Some name = rw (sym is) at w.table in absurd (cc))
pointed_comes name r p (suc zero, inside, is) w = (let no : None ≡ Some name = rw (sym is) at w.table in absurd (cc))
pointed_comes name r p (suc (suc zero), inside, is) w =
    let table : Some Speed ≡ Some name = rw (sym is) at w.table in
    let right : 1 ≡ p = rw (sym is) at w.right in
    subst (λ (n : TableName). Comes n p) (same_some Speed name table) right
pointed_comes name r p (suc (suc (suc zero)), inside, is) w =
    let no : None ≡ Some name = rw (sym is) at w.table in
    absurd (cc)
pointed_comes name r p (suc (suc (suc (suc k))), inside, is) w = absurd (omega arith)

led_comes : (name : TableName) (p q : ℕ) → Comes name p → led_to name (table_of looping_song name) p ≡ Some q →
    Comes name q
led_comes Wave p q (zero, inside, is) e =
    let next : Some 2 ≡ Some q = rw (sym is) at e in
    (1, lit< tt, same_some 2 q next)
led_comes Wave p q (suc zero, inside, is) e =
    let next : Some 3 ≡ Some q = rw (sym is) at e in
    (2, lit< tt, same_some 3 q next)
led_comes Wave p q (suc (suc zero), inside, is) e =
    let next : Some 4 ≡ Some q = rw (sym is) at e in
    (3, lit< tt, same_some 4 q next)
led_comes Wave p q (suc (suc (suc zero)), inside, is) e =
    let next : Some 3 ≡ Some q = rw (sym is) at e in
    (2, lit< tt, same_some 3 q next)
led_comes Wave p q (suc (suc (suc (suc k))), inside, is) e = absurd (omega arith)
led_comes Pulse p q (zero, inside, is) e =
    let next : Some 2 ≡ Some q = rw (sym is) at e in
    (1, lit< tt, same_some 2 q next)
led_comes Pulse p q (suc zero, inside, is) e = (let no : None ≡ Some q = rw (sym is) at e in absurd (cc))
led_comes Pulse p q (suc (suc k), inside, is) e = absurd (omega arith)
led_comes Filter p q here e = absurd here
led_comes Speed p q is e = (let no : None ≡ Some q = rw (sym is) at e in absurd (cc))

reached_comes : (name : TableName) (p : ℕ) → IsReached looping_song name p → Comes name p
reached_comes name p (played x) = played_comes name p x
reached_comes name p (pointed r h w) = pointed_comes name r p (reached_comes Wave r h) w
reached_comes name q (led p h e) = led_comes name p q (reached_comes name p h) e

-- ---- and all of these

first_wave : IsPlayedPointer looping_song Wave 1
unfolding instrument_at
first_wave = of_instrument 1 (inl refl) refl (λ e. omega arith)

first_pulse : IsPlayedPointer looping_song Pulse 1
unfolding instrument_at
first_pulse = of_instrument 1 (inl refl) refl (λ e. omega arith)

third_wave : IsReached looping_song Wave 3
third_wave = led 2 (led 1 (played first_wave) refl) refl

comes_wave : (p : ℕ) → Comes Wave p → IsReached looping_song Wave p
comes_wave p (zero, inside, is) = rw (sym is) (played first_wave)
comes_wave p (suc zero, inside, is) = rw (sym is) (led 1 (played first_wave) refl)
comes_wave p (suc (suc zero), inside, is) = rw (sym is) third_wave
comes_wave p (suc (suc (suc zero)), inside, is) = rw (sym is) (led 3 third_wave refl)
comes_wave p (suc (suc (suc (suc k))), inside, is) = absurd (omega arith)

comes_pulse : (p : ℕ) → Comes Pulse p → IsReached looping_song Pulse p
comes_pulse p (zero, inside, is) = rw (sym is) (played first_pulse)
comes_pulse p (suc zero, inside, is) = rw (sym is) (led 1 (played first_pulse) refl)
comes_pulse p (suc (suc k), inside, is) = absurd (omega arith)

speed_pointer : IsPointer looping_song Speed 1
unfolding table_row
speed_pointer = of_wave_row 3 third_wave (record { table = refl; right = refl; some = λ e. omega arith })

-- ---- its features

no_row : (command : ℕ) (IsMeant : ℕ → Type 0) → command ≢ 0 → ¬ HasRow looping_song command IsMeant
no_row command IsMeant some h =
    some (sym h.command_is ∙ (used_is_silent looping_song h.row rests h.used).command)

-- the left sides of its rows
no_wave_row : (left p : ℕ) → Comes Wave p → (table_row looping_song Wave p).left ≡ left → left ≢ 0x41 →
    left ≢ 0xF2 →
    left ≡ 0xFF
unfolding table_row
no_wave_row left p (zero, inside, is) e a b = (let l : 0x41 ≡ left = rw (sym is) at e in absurd (a (sym l)))
no_wave_row left p (suc zero, inside, is) e a b = (let l : 0x41 ≡ left = rw (sym is) at e in absurd (a (sym l)))
no_wave_row left p (suc (suc zero), inside, is) e a b = (let l : 0xF2 ≡ left = rw (sym is) at e in absurd (b (sym l)))
no_wave_row left p (suc (suc (suc zero)), inside, is) e a b = (let l : 0xFF ≡ left = rw (sym is) at e in sym l)
no_wave_row left p (suc (suc (suc (suc k))), inside, is) e a b = absurd (omega arith)

no_porta_up : ¬ HasFeature looping_song PortaUp
no_porta_up (inl row) = no_row 1 _ (λ e. omega arith) row
no_porta_up (inr wave) =
    let left = no_wave_row 0xF1 wave.p (reached_comes Wave wave.p wave.reached) wave.command_is in
    let no : 0xF1 ≡ 0xFF = left (λ e. omega arith) (λ e. omega arith) in
    omega arith

pointer_reached : (name : TableName) (p : ℕ) → IsPointer looping_song name p → IsReached looping_song name p
pointer_reached name p (of_played x) = played x
pointer_reached name p (of_wave_row r h w) = pointed r h w

no_filter : ¬ HasFeature looping_song FilterTable
no_filter h = reached_comes Filter h.p (pointer_reached Filter h.p h.pointer)

-- ---- it can be played

-- the wave table's jump is its fourth row, and the pulse table has none that is reached
jump_is_last : (p : ℕ) → Comes Wave p → is_jump Wave (table_row looping_song Wave p) ≡ true → 4 ≡ p
unfolding table_row
jump_is_last p (zero, inside, is) e = (let no : false ≡ true = rw (sym is) at e in absurd (cc))
jump_is_last p (suc zero, inside, is) e = (let no : false ≡ true = rw (sym is) at e in absurd (cc))
jump_is_last p (suc (suc zero), inside, is) e = (let no : false ≡ true = rw (sym is) at e in absurd (cc))
jump_is_last p (suc (suc (suc zero)), inside, is) e = is
jump_is_last p (suc (suc (suc (suc k))), inside, is) e = absurd (omega arith)

no_pulse_jump : (p : ℕ) → Comes Pulse p → is_jump Pulse (table_row looping_song Pulse p) ≡ true → ⊥
unfolding table_row
no_pulse_jump p (zero, inside, is) e = (let no : false ≡ true = rw (sym is) at e in cc)
no_pulse_jump p (suc zero, inside, is) e = (let no : false ≡ true = rw (sym is) at e in cc)
no_pulse_jump p (suc (suc k), inside, is) e = omega arith

wave_pointer : (p : ℕ) → IsPointer looping_song Wave p → 1 ≡ p
unfolding instrument_at
wave_pointer p (of_played x) = (pointer_is looping_song Wave p rests x).0
wave_pointer p (of_wave_row r h w) = absurd (no_wave_pointer (table_row looping_song Wave r).left w.table)

wave_target : (row : ℕ) → IsJumpTarget looping_song Wave row → 3 ≡ row
unfolding table_row
wave_target row t = rw (sym (jump_is_last t.p (reached_comes Wave t.p t.reached) t.jump)) at t.target

-- so no row that a pointer or a jump names is a jump
no_jump_named : (name : TableName) (row : ℕ) → ¬ PointsAtJump looping_song name row
no_jump_named Wave row at =
    elim at.named [
      | inl pointer ↦ (
          let first = wave_pointer row pointer in
          let last = jump_is_last row (0, lit< tt, first) at.jump in
          omega arith)
      | inr target ↦ (
          let third = wave_target row target in
          let last = jump_is_last row (2, lit< tt, third) at.jump in
          omega arith)
    ]
no_jump_named Pulse row at =
    elim at.named [
      | inl pointer ↦ no_pulse_jump row (reached_comes Pulse row (pointer_reached Pulse row pointer)) at.jump
      | inr target ↦ no_pulse_jump target.p (reached_comes Pulse target.p target.reached) target.jump
    ]
no_jump_named Filter row at =
    elim at.named [
      | inl pointer ↦ reached_comes Filter row (pointer_reached Filter row pointer)
      | inr target ↦ reached_comes Filter target.p target.reached
    ]
no_jump_named Speed row at = (let no : false ≡ true = at.jump in cc)

no_overflow : (name : TableName) (row : ℕ) → ¬ RunsOff looping_song name row
no_overflow name row off = inside name row (reached_comes name row off.reached) off.programs off.above
  where
    inside : (name : TableName) (row : ℕ) → Comes name row → name ≢ Speed →
        length (table_of looping_song name) < row → ⊥
    inside Wave row (zero, below, is) programs above = omega arith
    inside Wave row (suc zero, below, is) programs above = omega arith
    inside Wave row (suc (suc zero), below, is) programs above = omega arith
    inside Wave row (suc (suc (suc zero)), below, is) programs above = omega arith
    inside Wave row (suc (suc (suc (suc k))), below, is) programs above = omega arith
    inside Pulse row (zero, below, is) programs above = omega arith
    inside Pulse row (suc zero, below, is) programs above = omega arith
    inside Pulse row (suc (suc k), below, is) programs above = omega arith
    inside Filter row here programs above = here
    inside Speed row here programs above = programs refl

silence_can_be_played : IsPlayable silence
silence_can_be_played =
    silent_songs_can_be_played_lem silence
    (record {
      one_subtune = refl;
      subtunes = rests.subtunes;
      instruments = refl;
      wave = refl;
      pulse = refl;
      filter = refl;
      speed = refl;
    })

looping_can_be_played : IsPlayable looping_song
looping_can_be_played refusal h =
    let t = tables_alone looping_song refusal rests h in
    elim t.how [ inl off ↦ no_overflow t.name t.row off.1 | inr at ↦ no_jump_named t.name t.row at.1 ]

pub uses_are_as_worked_lem : UsesAreAsWorked
unfolding table_row
uses_are_as_worked_lem = record {
  silent = silence_can_be_played;
  playable = looping_can_be_played;
  wave_rows = λ p. (reached_comes Wave p, comes_wave p);
  pulse_rows = λ p. (reached_comes Pulse p, comes_pulse p);
  pointer = speed_pointer;
  command = inr (record { p = 3; reached = third_wave; command_is = refl; is_meant = tt });
  wave_command = record { p = 3; reached = third_wave; from = lit≤ tt; to = lit≤ tt };
  wave_table = record { p = 1; pointer = of_played first_wave };
  pulse_table = record { p = 1; pointer = of_played first_pulse };
  other_command = no_porta_up;
  no_filter = no_filter;
  no_tempo = no_row 0xF _ (λ e. omega arith);
}
