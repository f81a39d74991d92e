-- The layouts and memories of the small song's lists, computed, and such as they aren't in.
use Rattle.std.proofs.Common.{◌/◌, ◌≡◌, ℕ, zero, suc, ◌+◌, ◌-◌, ◌<◌, ◌≤◌, ◌&&◌, ◌⊎◌, inl, inr}
use Rattle.std.proofs.Common.{Bool, true, false}
use Rattle.std.proofs.Common.{List, [], ◌∷◌, length, get_or, nat_eq, refl, sym, ap, subst, ◌∙◌, arith, Contains}
use Rattle.std.proofs.lemmas.Bool.{eqb-true, eqb-false, and_parts, lt-ltb}
use Rattle.std.proofs.lemmas.List.Elements.{Contains-get_or}
use Rattle.song_model.specs.LookUp.{instrument_at, table_row}
use Rattle.play_model.specs.Freq.{freq}
use Rattle.packed_form.specs.declared.packed_songs.PackedSong.{PackedSong}
use Rattle.asm6502.specs.Standing.{BytesStand}
use Rattle.scopes.specs.Desk.{Layout}
use Rattle.player_memory.specs.declared.labels.TheConstants.{FREQUENCY_LOWS, SLIDES_LOW, PATTERNS}
use Rattle.player_memory.specs.SongLists.{FrequencyLows, FrequencyHighs, Periods, OneTimer, EnvelopeFrom, PatternBytes}
use Rattle.player_memory.specs.SongLists.{list_byte, has_envelope_from, HasSongLists}
use Rattle.song_lists.specs.declared.marks.Mark.{Mark}
use Rattle.song_lists.specs.DataLists.{data_bytes, data_marks, IsDataLayout}
use Rattle.song_lists.specs.ListLaws.{IsListRoom, IsDataLabel}
use Rattle.song_lists.specs.WorkedLists.{IsSmallSong, plain_bytes, kept_bytes}
use Rattle.song_lists.specs.WorkedLayouts.{plain_marks, kept_marks, laid_out, plain_layout, kept_layout, with_label}
use Rattle.song_lists.specs.WorkedLayouts.{standing, with_byte, plain_memory, kept_memory}
use Rattle.song_lists.specs.WorkedLayouts.{SmallLayoutsAreWorked, OtherLayoutsAreNot, OthersAreNotLaid}
use Rattle.song_lists.specs.WorkedLayouts.{PlacesAreWorked, LabelsAreWorked}
use Rattle.song_lists.proofs.Standing.{no_mark}
use Rattle.song_lists.proofs.Laying.{song_lists_stand, lists_are_laid}
use Rattle.song_lists.proofs.WorkedLists.{plain_bytes_are, kept_bytes_are, plain_marks_are, kept_marks_are}
use Rattle.song_lists.proofs.WorkedDenials.{plain_size, kept_size}

-- ---- labels that have their addresses, by a test

abbrev are_laid : Layout → ℕ → List Mark → Bool
are_laid layout start [] = true
are_laid layout start (mark ∷ marks) =
    nat_eq (layout.address mark.label) (start + mark.place) && are_laid layout start marks

laid_at : (layout : Layout) (start : ℕ) (marks : List Mark) (k : ℕ) (d : Mark) →
    are_laid layout start marks ≡ true → k < length marks →
    layout.address (get_or marks k d).label ≡ start + (get_or marks k d).place
laid_at layout start [] k d test inside = absurd (omega arith)
laid_at layout start (mark ∷ marks) zero d test inside =
    eqb-true (layout.address mark.label) (start + mark.place)
    (and_parts (nat_eq (layout.address mark.label) (start + mark.place)) (are_laid layout start marks) test).0
laid_at layout start (mark ∷ marks) (suc k) d test inside =
    laid_at layout start marks k d
    (and_parts (nat_eq (layout.address mark.label) (start + mark.place)) (are_laid layout start marks) test).1
    (omega arith)

data_laid : (layout : Layout) (dependent : Bool) (packed : PackedSong) (start : ℕ) (marks : List Mark) →
    data_marks dependent packed ≡ marks → are_laid layout start marks ≡ true →
    IsDataLayout layout dependent packed start
data_laid layout dependent packed start marks are test = record {
  stands = λ mark has.
      let there : Contains marks mark = subst (λ (ms : List Mark). Contains ms mark) are has in
      subst (λ (m : Mark). layout.address m.label ≡ start + m.place) there.2
      (laid_at layout start marks there.0 mark test there.1);
}

-- and such as don't
mark_stands : (layout : Layout) (dependent : Bool) (packed : PackedSong) (start : ℕ) (marks : List Mark) (k : ℕ) →
    data_marks dependent packed ≡ marks → k < length marks → IsDataLayout layout dependent packed start →
    layout.address (get_or marks k no_mark).label ≡ start + (get_or marks k no_mark).place
mark_stands layout dependent packed start marks k are inside laid =
    laid.stands (get_or marks k no_mark)
    (subst (λ (ms : List Mark). Contains ms (get_or marks k no_mark)) (sym are)
    (Contains-get_or marks k no_mark inside))

other_label : (layout : Layout) (dependent : Bool) (packed : PackedSong) (start : ℕ) (marks : List Mark) (k : ℕ) →
    data_marks dependent packed ≡ marks → k < length marks →
    nat_eq (layout.address (get_or marks k no_mark).label) (start + (get_or marks k no_mark).place) ≡ false →
    ¬ IsDataLayout layout dependent packed start
other_label layout dependent packed start marks k are inside other laid =
    eqb-false (layout.address (get_or marks k no_mark).label) (start + (get_or marks k no_mark).place) other
    (mark_stands layout dependent packed start marks k are inside laid)

-- ---- bytes that stand

bytes_standing : (start : ℕ) (bytes whole : List ℕ) → whole ≡ bytes → BytesStand (standing start bytes) start whole
bytes_standing start bytes whole are = record {
  byte = λ k inside.
      let e : start + k - start ≡ k = omega arith in
      ap (λ (n : ℕ). get_or bytes n 0) e ∙ ap (λ (bs : List ℕ). get_or bs k 0) (sym are);
}

-- ---- the small song's

plain_room : (packed : PackedSong) → IsSmallSong packed → IsListRoom plain_layout packed 0x1FCD
plain_room packed is =
    let size = plain_size packed is in record {
      laid = data_laid plain_layout false packed 0x1FCD plain_marks (plain_marks_are packed is) refl;
      from = omega arith;
      to = omega arith;
      variables = λ label few. (let e = lt-ltb label 113 few in rw e (inr (omega arith)));
      pointer = omega arith;
      reads = λ place inside. refl;
    }

kept_room : (packed : PackedSong) → IsSmallSong packed → IsListRoom kept_layout packed 0x1FC7
kept_room packed is =
    let size = kept_size packed is in record {
      laid = data_laid kept_layout true packed 0x1FC7 kept_marks (kept_marks_are packed is) refl;
      from = omega arith;
      to = omega arith;
      variables = λ label few. (let e = lt-ltb label 113 few in rw e (inr (omega arith)));
      pointer = omega arith;
      reads = λ place inside. refl;
    }

pub small_layouts_are_worked : (packed : PackedSong) → IsSmallSong packed → SmallLayoutsAreWorked packed
small_layouts_are_worked packed is = record {
  plain_marks_are = plain_marks_are packed is;
  kept_marks_are = kept_marks_are packed is;
  plain = plain_room packed is;
  kept = kept_room packed is;
  plain_laid = lists_are_laid plain_layout packed 0x1FCD (plain_room packed is);
  kept_laid = lists_are_laid kept_layout packed 0x1FC7 (kept_room packed is);
  plain_lists = song_lists_stand plain_layout packed 0x1FCD plain_memory (plain_room packed is)
      (bytes_standing 0x1FCD plain_bytes (data_bytes false packed 0x1FCD) (plain_bytes_are packed is));
  kept_lists = song_lists_stand kept_layout packed 0x1FC7 kept_memory (kept_room packed is)
      (bytes_standing 0x1FC7 kept_bytes (data_bytes true packed 0x1FC7) (kept_bytes_are packed is));
}

-- ---- memories that don't have the lists

period_is : (packed : PackedSong) → IsSmallSong packed → list_byte kept_layout packed Periods 1 ≡ 3
unfolding table_row
period_is packed is = rw is.speed refl

-- so the period that has bit 7 isn't it
other_period : (packed : PackedSong) (at : ℕ → ℕ) → IsSmallSong packed → nat_eq (at 0x1FD0) 3 ≡ false →
    ¬ HasSongLists kept_layout packed at
other_period packed at is other has =
    let count = ap length is.speed in
    eqb-false (at 0x1FD0) 3 other
    ((has.lists Periods 1 refl (record { from = omega arith; to = omega arith })).is ∙ period_is packed is)

other_slide : (packed : PackedSong) (at : ℕ → ℕ) → nat_eq (at 0x1FCB) 0 ≡ false →
    ¬ HasSongLists kept_layout packed at
unfolding table_row
other_slide packed at other has =
    eqb-false (at 0x1FCB) 0 other (has.slides.low refl 0 (omega arith) (omega arith))

timer_is : (packed : PackedSong) → IsSmallSong packed → list_byte plain_layout packed OneTimer 0 ≡ 2
unfolding instrument_at
timer_is packed is = rw is.instruments refl

other_timer : (packed : PackedSong) (at : ℕ → ℕ) → IsSmallSong packed → nat_eq (at 0x1FEB) 2 ≡ false →
    ¬ HasSongLists plain_layout packed at
other_timer packed at is other has =
    let one : packed.facts.own_timer ≡ false = rw is.facts refl in
    eqb-false (at 0x1FEB) 2 other
    ((has.lists OneTimer 0 one (record { from = omega arith; to = omega arith })).is ∙ timer_is packed is)

envelope_is : (packed : PackedSong) → IsSmallSong packed → list_byte plain_layout packed EnvelopeFrom 0 ≡ 2
envelope_is packed is = rw is.instruments refl

other_envelope : (packed : PackedSong) (at : ℕ → ℕ) → IsSmallSong packed → nat_eq (at 0x1FEC) 2 ≡ false →
    ¬ HasSongLists plain_layout packed at
other_envelope packed at is other has =
    let held : has_envelope_from packed ≡ true = rw is.facts refl in
    eqb-false (at 0x1FEC) 2 other
    ((has.lists EnvelopeFrom 0 held (record { from = omega arith; to = omega arith })).is ∙ envelope_is packed is)

last_is : (packed : PackedSong) → IsSmallSong packed → list_byte plain_layout packed (PatternBytes 0) 1 ≡ 0
last_is packed is = rw is.patterns refl

other_last : (packed : PackedSong) (at : ℕ → ℕ) → IsSmallSong packed → nat_eq (at 0x2001) 0 ≡ false →
    ¬ HasSongLists plain_layout packed at
other_last packed at is other has =
    let count = ap length is.patterns in
    let size : length (get_or packed.patterns 0 []) ≡ 2 = rw is.patterns refl in
    eqb-false (at 0x2001) 0 other
    ((has.lists (PatternBytes 0) 1 (omega arith) (record { from = omega arith; to = omega arith })).is
    ∙ last_is packed is)

frequencies_are : (packed : PackedSong) → IsSmallSong packed →
    (packed.numbers.first ≡ 36) × (packed.numbers.count ≡ 3)
frequencies_are packed is = (rw is.numbers refl, rw is.numbers refl)

last_frequency : freq 38 / 256 ≡ 9
unfolding freq
last_frequency = refl

other_frequency : (packed : PackedSong) (at : ℕ → ℕ) → IsSmallSong packed → nat_eq (at 0x2007) 9 ≡ false →
    ¬ HasSongLists plain_layout packed at
other_frequency packed at is other has =
    let listed = frequencies_are packed is in
    eqb-false (at 0x2007) 9 other
    ((has.lists FrequencyHighs 38 tt (record { from = omega arith; to = omega arith })).is ∙ last_frequency)

pub other_layouts_are_not : (packed : PackedSong) → IsSmallSong packed → OtherLayoutsAreNot packed
other_layouts_are_not packed is =
    let plain = plain_marks_are packed is in
    let kept = kept_marks_are packed is in
    let size = plain_size packed is in record {
      label = λ room.
          other_label (with_label SLIDES_LOW 0x2000 plain_layout) false packed 0x1FCD plain_marks 32 plain (omega arith)
          refl room.laid;
      text = λ room.
          other_label (with_label PATTERNS 0x2001 plain_layout) false packed 0x1FCD plain_marks 39 plain (omega arith)
          refl room.laid;
      frequencies = λ room.
          other_label (with_label FREQUENCY_LOWS 0x2002 plain_layout) false packed 0x1FCD plain_marks 0 plain (omega arith)
          refl room.laid;
      lists = λ room.
          other_label (laid_out true 0x1FCD plain_marks) true packed 0x1FCD kept_marks 32 kept (omega arith) refl
          room.laid;
      place = λ room.
          other_label plain_layout false packed 0x1FCE plain_marks 0 plain (omega arith) refl room.laid;
      low = λ room. (let from = room.from in omega arith);
      high = λ room. (let to = room.to in omega arith);
      first_variable = λ room.
          elim (room.variables 0 (omega arith)) [
            | inl front ↦ omega arith
            | inr behind ↦ omega arith
          ];
      last_variable = λ room.
          elim (room.variables 112 (omega arith)) [
            | inl front ↦ omega arith
            | inr behind ↦ omega arith
          ];
      pointer = λ room. (let at = room.pointer in omega arith);
      unread = λ room.
          let may = room.reads 0x2007 (record { from = omega arith; to = omega arith }) in absurd (cc);
      period = other_period packed (with_byte 0x1FD0 0x83 kept_memory) is refl;
      slide = other_slide packed (with_byte 0x1FCB 0x01 kept_memory) refl;
      timer = other_timer packed (with_byte 0x1FEB 0x82 plain_memory) is refl;
      envelope = other_envelope packed (with_byte 0x1FEC 0x03 plain_memory) is refl;
      last = other_last packed (with_byte 0x2001 0x01 plain_memory) is refl;
      frequency = other_frequency packed (with_byte 0x2007 0x08 plain_memory) is refl;
      shorter = other_period packed (standing 0x1FC7 plain_bytes) is refl;
    }

-- ---- layouts that the lists don't decide so, and places

pub others_are_not_laid : (packed : PackedSong) → IsSmallSong packed → OthersAreNotLaid packed
others_are_not_laid packed is =
    let subtunes = ap length is.subtunes in
    let patterns = ap length is.patterns in
    let listed = frequencies_are packed is in record {
      next = λ laid. absurd (eqb-false 0x2000 0x1FD1 refl laid.next.wave_lefts);
      slides = λ laid. elim ((laid.slides refl).apart) [
        | inl front ↦ omega arith
        | inr behind ↦ omega arith
      ];
      low = λ laid.
          let from = laid.lists FrequencyLows 36 tt (record { from = omega arith; to = omega arith }) in omega arith;
      timer = λ laid. (let below = laid.timer in omega arith);
      wave = λ laid. (let below = laid.wave in omega arith);
      gates = λ laid. (let below = laid.gates in omega arith);
      envelopes = λ laid. (let below = laid.envelopes in omega arith);
      order = λ laid. (let below = laid.orders 0 (omega arith) in omega arith);
      pattern = λ laid. (let from = (laid.patterns 0 (omega arith)).from in omega arith);
    }

pub small_places_are : (packed : PackedSong) → IsSmallSong packed → PlacesAreWorked packed
small_places_are packed is =
    let size = kept_size packed is in
    let rows = ap length is.speed in
    let subtunes = ap length is.subtunes in
    let patterns = ap length is.patterns in record {
      first = record { from = omega arith; to = omega arith };
      last = record { from = omega arith; to = omega arith };
      front = λ inside. (let from = inside.from in omega arith);
      behind = λ inside. (let to = inside.to in omega arith);
      speed = record { low = λ e. inl (omega arith); high = λ e. inl (omega arith) };
      period = record { low = λ e. inr (omega arith); high = λ e. inr (omega arith) };
      slide_low = λ beside. elim (beside.low refl) [
        | inl front ↦ omega arith
        | inr behind ↦ omega arith
      ];
      slide_high = λ beside. elim (beside.high refl) [
        | inl front ↦ omega arith
        | inr behind ↦ omega arith
      ];
      counts = record { subtunes = omega arith; patterns = omega arith };
      subtunes = λ counts. (let few = counts.subtunes in omega arith);
      patterns = λ counts. (let few = counts.patterns in omega arith);
    }

-- ---- labels and lines

-- a label that is of none of three stretches
no_label : (label : ℕ) → (label < 128) ⊎ (164 ≤ label) → (label < 256) ⊎ (720 ≤ label) → ¬ IsDataLabel label
no_label label low high (inl (inl list)) = elim low [
  | inl front ↦ (let from = list.0 in omega arith)
  | inr behind ↦ (let to = list.1 in omega arith)
]
no_label label low high (inl (inr slides)) = elim low [
  | inl front ↦ (let from = slides.0 in omega arith)
  | inr behind ↦ (let to = slides.1 in omega arith)
]
no_label label low high (inr text) = elim high [
  | inl front ↦ (let from = text.0 in omega arith)
  | inr behind ↦ (let to = text.1 in omega arith)
]

pub labels_are_worked : LabelsAreWorked
labels_are_worked = record {
  last_list = inl (omega arith, omega arith);
  first_slide = inr (omega arith, omega arith);
  last_holder = inr (omega arith, omega arith);
  last_pattern = inr (omega arith, omega arith);
  variable = no_label 127 (inl (omega arith)) (inl (omega arith));
  behind_holders = no_label 164 (inr (omega arith)) (inl (omega arith));
  before_orders = no_label 255 (inr (omega arith)) (inl (omega arith));
  behind_patterns = no_label 720 (inr (omega arith)) (inr (omega arith));
  no_list = λ list. elim list [
    | inl lists ↦ (let to = lists.1 in omega arith)
    | inr slides ↦ (let to = slides.1 in omega arith)
  ];
  bytes = record { part = refl; item = refl };
  code = λ plain. (let item = plain.item in absurd (cc));
  part = λ plain. absurd (eqb-false 0 255 refl plain.part);
}
