-- Fetching a row that stands for another, over any two look-ups.
use Rattle.std.specs.Prelude.{ℤ, bit_and, not, ◌==◌, ◌||◌}
use Rattle.std.proofs.Common.{◌≡◌, ◌≢◌, ℕ, true, cond, List, length, refl, ap, sym, ◌∙◌, inl, inr}
use Rattle.std.proofs.lemmas.Bool.{cases_eq, ne_eqb}
use Rattle.song_model.specs.declared.rows.Row.{Row}
use Rattle.song_model.specs.LookUp.{pattern_row}
use Rattle.play_model.specs.LookUps.{LookUps}
use Rattle.play_model.specs.Wrap.{byte_plus}
use Rattle.play_model.specs.State.{Voice}
use Rattle.play_model.specs.FetchRow.{row_taken, gate_keyed, is_note, transposed, gate_shut, note_waits, row_moved}
use Rattle.play_model.specs.FetchRow.{row_done, fetched_from}
use Rattle.same_frames.specs.Maps.{Maps, same_numbers, named_after, IsRowFor}
use Rattle.same_frames.specs.Alike.{moved_voice}
use Rattle.same_frames.proofs.Choices.{choice_moved, same_choice}
use Rattle.same_frames.proofs.Moved.{Held, held_of, put, moved_held, moved_again}

-- ---- the instrument

-- the other row leaves it out too
left_out : (to : ℕ → ℕ) (b i : ℕ) → to 0 ≡ 0 → cond (b == 0) (to 0) b ≡ to 0 → cond (b == 0) (to i) b ≡ to i
left_out to b i nothing e = elim (cases_eq b 0) [
  | inl z ↦ rw z refl
  | inr n ↦ absurd (n ((rw (ne_eqb b 0 n) at e) ∙ nothing))
]

-- the other row names it too
names : (to : ℕ → ℕ) (a b i : ℕ) → to 0 ≡ 0 → to a ≢ 0 → cond (b == 0) (to 0) b ≡ to a →
    cond (b == 0) (to i) b ≡ to a
names to a b i nothing some e = elim (cases_eq b 0) [
  | inl z ↦ absurd (some (sym (rw z at e) ∙ nothing))
  | inr n ↦ (let f = ne_eqb b 0 n in rw f (rw f at e))
]

by_number : (to : ℕ → ℕ) (last i a b : ℕ) → to 0 ≡ 0 → (a ≢ 0 → to a ≢ 0) → (last ≢ 0 → i ≡ last) →
    cond (b == 0) (to last) b ≡ to (cond (a == 0) last a) → cond (b == 0) (to i) b ≡ to (cond (a == 0) i a)
by_number to last i a b nothing some is named = elim (cases_eq last 0) [
  | inl none ↦ elim (cases_eq a 0) [
    | inl out ↦ rw out (left_out to b i nothing (rw (none, out) at named))
    | inr n ↦ (let f = ne_eqb a 0 n in rw f (names to a b i nothing (some n) (rw (none, f) at named)))
  ]
  | inr above ↦ rw (is above) named
]

-- Where the voice has the last instrument named above its row, or none is named there, the two rows leave the two
-- voices with instruments of which one stands for the other.
pub named_moved : (maps : Maps) (last instrument : ℕ) (row other : Row) → maps.instrument 0 ≡ 0 →
    (row.instrument ≢ 0 → maps.instrument row.instrument ≢ 0) → (last ≢ 0 → instrument ≡ last) →
    named_after (maps.instrument last) other ≡ maps.instrument (named_after last row) →
    named_after (maps.instrument instrument) other ≡ maps.instrument (named_after instrument row)
named_moved maps last instrument row other nothing some is named =
    by_number maps.instrument last instrument row.instrument other.instrument nothing some is named

-- ---- what the row leaves

-- what a fetch meets: the voice's row, the other row, and the last instrument named above them
pub record IsFetchFor (maps : Maps) (look other : LookUps) (last : ℕ) (row beyond : Row) (v : Voice) : Type 0 where
  pub row_for : IsRowFor maps last row beyond
  pub nothing : maps.instrument 0 ≡ 0
  pub some : row.instrument ≢ 0 → maps.instrument row.instrument ≢ 0
  pub named : last ≢ 0 → v.instrument ≡ last
  pub timer : (other.instrument (maps.instrument (named_after v.instrument row))).gate_timer
      ≡ (look.instrument (named_after v.instrument row)).gate_timer

taken_moved : (maps : Maps) (look other : LookUps) (last p : ℕ) (row beyond : Row) (v : Voice) →
    IsFetchFor maps look other last row beyond v →
    row_taken beyond (moved_voice maps p v) ≡ moved_voice maps beyond.param (row_taken row v)
taken_moved maps look other last p row beyond v q =
    rw (named_moved maps last v.instrument row beyond q.nothing q.some q.named q.row_for.instrument)
    (rw q.row_for.command refl)

keyed_moved : (maps : Maps) (h : Held) (note : ℕ) (v : Voice) →
    gate_keyed note (put maps h v) ≡ put maps h (gate_keyed note v)
keyed_moved maps h note v =
    same_choice (put maps h) (note == 0xBE) _ _ _ _ (λ z. refl)
    (λ z. same_choice (put maps h) (note == 0xBF) _ v _ (put maps h v) (λ z. refl) (λ z. refl))

shut_moved : (maps : Maps) (h : Held) (timer : ℕ) (v : Voice) → h.new_command ≡ v.new_command →
    gate_shut timer (put maps h v) ≡ put maps h (gate_shut timer v)
shut_moved maps h timer v is =
    choice_moved (put maps h) ((v.new_command == 3) || not (bit_and timer 0x40 == 0))
    ((h.new_command == 3) || not (bit_and timer 0x40 == 0)) v _ (put maps h v) _ (rw is refl) (λ z. refl)
    (λ z. same_choice (put maps h) (bit_and timer 0x80 == 0) _ _ _ _ (λ z. refl) (λ z. refl))

waits_moved : (maps : Maps) (h : Held) (look other : LookUps) (note : ℕ) (transpose : ℤ) (v : Voice) →
    h.new_command ≡ v.new_command →
    (is_note note ≡ true → (other.instrument h.instrument).gate_timer ≡ (look.instrument v.instrument).gate_timer) →
    note_waits other note transpose (put maps h v) ≡ put maps h (note_waits look note transpose v)
waits_moved maps h look other note transpose v is timer =
    same_choice (put maps h) (is_note note) _ v _ (put maps h v)
    (λ z. rw (timer z) (shut_moved maps h (look.instrument v.instrument).gate_timer
    (record v { new_note = transposed note transpose }) is))
    (λ z. refl)

-- behind what the row says at once nothing that is held changes
pub after_taken : (maps : Maps) (h : Held) (look other : LookUps) (note : ℕ) (transpose : ℤ) (v : Voice) →
    h.new_command ≡ (gate_keyed note v).new_command →
    (is_note note ≡ true →
    (other.instrument h.instrument).gate_timer ≡ (look.instrument (gate_keyed note v).instrument).gate_timer) →
    note_waits other note transpose (gate_keyed note (put maps h v))
    ≡ put maps h (note_waits look note transpose (gate_keyed note v))
after_taken maps h look other note transpose v is timer =
    ap (note_waits other note transpose) (keyed_moved maps h note v)
    ∙ waits_moved maps h look other note transpose (gate_keyed note v) is timer

pub keyed_holds : (note : ℕ) (v : Voice) → held_of (gate_keyed note v) ≡ held_of v
keyed_holds note v = ap held_of (keyed_moved same_numbers (held_of v) note v)

waits_holds : (look : LookUps) (note : ℕ) (transpose : ℤ) (v : Voice) →
    held_of (note_waits look note transpose v) ≡ held_of v
waits_holds look note transpose v =
    ap held_of (waits_moved same_numbers (held_of v) look look note transpose v refl (λ z. refl))

pub done_holds : (look : LookUps) (row : Row) (transpose : ℤ) (v : Voice) →
    held_of (row_done look row transpose v) ≡ held_of (row_taken row v)
done_holds look row transpose v =
    waits_holds look row.note transpose (gate_keyed row.note (row_taken row v))
    ∙ keyed_holds row.note (row_taken row v)

done_moved : (maps : Maps) (look other : LookUps) (last p : ℕ) (row beyond : Row) (transpose : ℤ) (v : Voice) →
    IsFetchFor maps look other last row beyond v →
    row_done other beyond transpose (moved_voice maps p v)
    ≡ moved_voice maps beyond.param (row_done look row transpose v)
done_moved maps look other last p row beyond transpose v q =
    let taken = row_taken row v in
    let keyed = keyed_holds row.note taken in
    ap (λ (x : Voice). note_waits other beyond.note transpose (gate_keyed beyond.note x))
    (taken_moved maps look other last p row beyond v q)
    ∙ ap (λ (note : ℕ). note_waits other note transpose (gate_keyed note (moved_voice maps beyond.param taken)))
    q.row_for.note
    ∙ after_taken maps (moved_held maps beyond.param (held_of taken)) look other row.note transpose taken
    (sym (ap (λ (h : Held). h.new_command) keyed))
    (λ z. q.timer ∙ ap (λ (h : Held). (look.instrument h.instrument).gate_timer) (sym keyed))
    ∙ moved_again maps beyond.param (row_done look row transpose v) taken (done_holds look row transpose v)

-- ---- the next row

next_moved : (maps : Maps) (p rows : ℕ) (v : Voice) →
    row_moved rows (moved_voice maps p v) ≡ moved_voice maps p (row_moved rows v)
next_moved maps p rows v =
    same_choice (moved_voice maps p) (byte_plus v.row 1 == rows) _ _ _ _ (λ z. refl) (λ z. refl)

pub fetch_moved : (maps : Maps) (look other : LookUps) (last p : ℕ) (rows others : List Row) (transpose : ℤ)
    (v : Voice) → length others ≡ length rows →
    IsFetchFor maps look other last (pattern_row rows v.row) (pattern_row others v.row) v →
    fetched_from other others transpose (moved_voice maps p v)
    ≡ moved_voice maps (pattern_row others v.row).param (fetched_from look rows transpose v)
fetch_moved maps look other last p rows others transpose v long q =
    let row = pattern_row rows v.row in
    let beyond = pattern_row others v.row in
    ap (row_moved (length others)) (done_moved maps look other last p row beyond transpose v q)
    ∙ ap (λ (n : ℕ). row_moved n (moved_voice maps beyond.param (row_done look row transpose v))) long
    ∙ next_moved maps beyond.param (length rows) (row_done look row transpose v)
