-- The filter step and the pulse step with other numbers for the rows of tables, over any two look-ups.
use Rattle.std.specs.Prelude.{nat_le, ◌==◌, ◌&&◌, if◌then◌else◌}
use Rattle.std.proofs.Common.{◌≡◌, ◌≢◌, ℕ, ◌+◌, true, false, refl, arith}
use Rattle.std.proofs.lemmas.Bool.{eqb-true, eqb-false}
use Rattle.std.proofs.lemmas.Bool.Decides.{nat_tests}
use Rattle.song_model.specs.declared.tables.TableRow.{TableRow}
use Rattle.song_model.specs.declared.tables.TableName.{TableName}
use Rattle.song_model.specs.declared.tables.TableName.TheVariants.{Pulse, Filter}
use Rattle.play_model.specs.LookUps.{LookUps}
use Rattle.play_model.specs.Wrap.{byte_minus}
use Rattle.play_model.specs.State.{Voice, Common}
use Rattle.play_model.specs.Helpers.{next_row}
use Rattle.play_model.specs.FilterStep.{filter_set, filter_cutoff, filter_slide, filter_row, filter_step}
use Rattle.play_model.specs.PulseStep.{pulse_set, pulse_slide, pulse_row, pulse_step}
use Rattle.same_frames.specs.Maps.{Maps}
use Rattle.same_frames.specs.Alike.{moved_common}
use Rattle.same_frames.proofs.Choices.{choice_moved, same_choice}
use Rattle.same_frames.proofs.Moved.{Held, put}

-- the program goes on from the other row where it goes on from this one
abbrev pub GoesOnFor : Maps → LookUps → LookUps → TableName → ℕ → Type 0
GoesOnFor maps look other name p =
    next_row other name (maps.row name p) ≡ maps.row name (next_row look name p)

-- a row lasts, and at its end the program goes on
left_moved : (maps : Maps) (look other : LookUps) (name : TableName) (p time : ℕ) → GoesOnFor maps look other name p →
    (if byte_minus time 1 == 0 then next_row other name (maps.row name p) else maps.row name p)
    ≡ maps.row name (if byte_minus time 1 == 0 then next_row look name p else p)
left_moved maps look other name p time next =
    same_choice (maps.row name) (byte_minus time 1 == 0) (next_row look name p) p
    (next_row other name (maps.row name p)) (maps.row name p) (λ z. next) (λ z. refl)

-- ---- the pulse step

-- a pulse program is at row p, within it for so many frames more
pub record IsPulseFor (maps : Maps) (look other : LookUps) (p time : ℕ) : Type 0 where
  pub row : other.row Pulse (maps.row Pulse p) ≡ look.row Pulse p
  pub next : (time == 0) && ((look.row Pulse p).left == 0) ≡ false → GoesOnFor maps look other Pulse p

-- a row that sets the width isn't one that stops
sets_goes_on : (time left : ℕ) → ((time == 0) && nat_le 0x80 left) ≡ true → ((time == 0) && (left == 0)) ≡ false
sets_goes_on time left h = grind (arith, nat_tests)

pulse_row_moved : (maps : Maps) (h : Held) (look other : LookUps) (v : Voice) →
    IsPulseFor maps look other v.pulse_ptr v.pulse_time →
    pulse_row other (look.row Pulse v.pulse_ptr) (put maps h v)
    ≡ put maps h (pulse_row look (look.row Pulse v.pulse_ptr) v)
pulse_row_moved maps h look other v s =
    same_choice (put maps h) ((v.pulse_time == 0) && nat_le 0x80 row.left) (pulse_set look row v) _
    (pulse_set other row (put maps h v)) _
    (λ z. rw (s.next (sets_goes_on v.pulse_time row.left z)) refl)
    (λ z. same_choice (put maps h) ((v.pulse_time == 0) && (row.left == 0)) v (pulse_slide look row time v)
    (put maps h v) (pulse_slide other row time (put maps h v)) (λ z. refl)
    (λ z. rw (left_moved maps look other Pulse v.pulse_ptr time (s.next z)) refl))
  where
    row : TableRow
    row = look.row Pulse v.pulse_ptr

    time : ℕ
    time = if v.pulse_time == 0 then row.left else v.pulse_time

pub pulse_moved_lem : (maps : Maps) (h : Held) (look other : LookUps) (v : Voice) →
    (maps.row Pulse v.pulse_ptr == 0) ≡ (v.pulse_ptr == 0) →
    (v.pulse_ptr ≢ 0 → IsPulseFor maps look other v.pulse_ptr v.pulse_time) →
    pulse_step other (put maps h v) ≡ put maps h (pulse_step look v)
unfolding pulse_step
pulse_moved_lem maps h look other v none some =
    choice_moved (put maps h) (v.pulse_ptr == 0) (maps.row Pulse v.pulse_ptr == 0) v
    (pulse_row look (look.row Pulse v.pulse_ptr) v) (put maps h v)
    (pulse_row other (other.row Pulse (maps.row Pulse v.pulse_ptr)) (put maps h v)) none (λ z. refl)
    (λ z. let s = some (eqb-false v.pulse_ptr 0 z) in rw s.row (pulse_row_moved maps h look other v s))

-- ---- the filter step

-- a filter program is at row p
pub record IsFilterFor (maps : Maps) (look other : LookUps) (p : ℕ) : Type 0 where
  pub row : other.row Filter (maps.row Filter p) ≡ look.row Filter p
  pub next : GoesOnFor maps look other Filter p
  -- the row after it, which may belong to it
  pub left : (other.row Filter (maps.row Filter p + 1)).left ≡ (look.row Filter (p + 1)).left
  pub right : (look.row Filter (p + 1)).left ≡ 0 →
      (other.row Filter (maps.row Filter p + 1)).right ≡ (look.row Filter (p + 1)).right
  pub past : (look.row Filter (p + 1)).left ≡ 0 →
      next_row other Filter (maps.row Filter p + 1) ≡ maps.row Filter (next_row look Filter (p + 1))

filter_set_moved : (maps : Maps) (look other : LookUps) (c : Common) → IsFilterFor maps look other c.filter_ptr →
    filter_set other (look.row Filter c.filter_ptr) (other.row Filter (maps.row Filter c.filter_ptr + 1))
    (moved_common maps c)
    ≡ moved_common maps (filter_set look (look.row Filter c.filter_ptr) (look.row Filter (c.filter_ptr + 1)) c)
filter_set_moved maps look other c s =
    choice_moved (moved_common maps) (following.left == 0) (beyond.left == 0) _ _ _ _ (rw s.left refl)
    (λ z. let e = eqb-true following.left 0 z in rw (s.right e) (rw (s.past e) refl)) (λ z. rw s.next refl)
  where
    following : TableRow
    following = look.row Filter (c.filter_ptr + 1)

    beyond : TableRow
    beyond = other.row Filter (maps.row Filter c.filter_ptr + 1)

filter_row_moved : (maps : Maps) (look other : LookUps) (c : Common) → IsFilterFor maps look other c.filter_ptr →
    filter_row other (look.row Filter c.filter_ptr) (moved_common maps c)
    ≡ moved_common maps (filter_row look (look.row Filter c.filter_ptr) c)
filter_row_moved maps look other c s =
    same_choice (moved_common maps) ((c.filter_time == 0) && nat_le 0x80 row.left) _ _ _ _
    (λ z. filter_set_moved maps look other c s)
    (λ z. same_choice (moved_common maps) ((c.filter_time == 0) && (row.left == 0)) (filter_cutoff look row c)
    (filter_slide look row time c) (filter_cutoff other row (moved_common maps c))
    (filter_slide other row time (moved_common maps c)) (λ z. rw s.next refl)
    (λ z. rw (left_moved maps look other Filter c.filter_ptr time s.next) refl))
  where
    row : TableRow
    row = look.row Filter c.filter_ptr

    time : ℕ
    time = if c.filter_time == 0 then row.left else c.filter_time

pub filter_moved : (maps : Maps) (look other : LookUps) (c : Common) →
    (maps.row Filter c.filter_ptr == 0) ≡ (c.filter_ptr == 0) →
    (c.filter_ptr ≢ 0 → IsFilterFor maps look other c.filter_ptr) →
    filter_step other (moved_common maps c) ≡ moved_common maps (filter_step look c)
unfolding filter_step
filter_moved maps look other c none some =
    choice_moved (moved_common maps) (c.filter_ptr == 0) (maps.row Filter c.filter_ptr == 0) c
    (filter_row look (look.row Filter c.filter_ptr) c) (moved_common maps c)
    (filter_row other (other.row Filter (maps.row Filter c.filter_ptr)) (moved_common maps c)) none (λ z. refl)
    (λ z. let s = some (eqb-false c.filter_ptr 0 z) in rw s.row (filter_row_moved maps look other c s))
