-- The notes of orderlists: of their patterns by their transposes, modulo 128.
use Rattle.std.proofs.Common.{◌≡◌, ℕ, ◌+◌, ◌-◌, ◌*◌, ◌%◌, ◌≤◌, ◌⊎◌, true}
use Rattle.std.proofs.Common.{ℤ, pos, ◌+ℤ◌, ◌-ℤ◌, unsigned_abs, Any, inl, inr, refl, sym, ◌∙◌, ap, subst, arith}
use Rattle.std.proofs.lemmas.Int.{ints, int_rem_euclid_is}
use Rattle.std.proofs.lemmas.Bool.{cases_lt, leb-true, and_parts}
use Rattle.base.proofs.Laws.{filter_keeps, filter_of}
use Rattle.song_model.specs.declared.rows.Row.{Row}
use Rattle.song_model.specs.declared.orders.Order.{Order}
use Rattle.song_model.specs.declared.orders.Subtune.{Subtune}
use Rattle.song_model.specs.declared.songs.Song.{Song}
use Rattle.song_model.specs.LookUp.{order_of, is_playable_subtune}
use Rattle.play_model.specs.Wrap.{byte_minus}
use Rattle.play_model.specs.FetchRow.{is_note, transposed}
use Rattle.play_model.specs.Used.{IsChannel}
use Rattle.asked_numbers.specs.Numbers.{IsTransposeOf}
use Rattle.number_range.specs.Sets.{IsSetOf, IsSum}
use Rattle.number_range.specs.Notes.{NamesNote, TransposeBy, IsOrderNote, IsSubtuneNote}
use Rattle.number_range.specs.Notes.{IsPlayedWithin}
use Rattle.number_range.specs.declared.sets.NumberSet.{NumberSet}
use Rattle.number_range.proofs.MadeSets.{set_same}

-- ---- transposed notes

least_note : (note : ℕ) → is_note note ≡ true → 0x60 ≤ note
least_note note is = leb-true 0x60 note (and_parts _ _ is).0

-- the note by no transpose
plain : (note : ℕ) → 0x60 ≤ note → (note - 0x60 + 0) % 128 ≡ byte_minus (transposed note (pos 0)) 0x60 % 128
plain note low = omega (arith, low)

-- by that of an entry
shifted : (note byte : ℕ) → 0x60 ≤ note → 0xE0 ≤ byte →
    (note - 0x60 + (byte + 0x10) % 128) % 128 ≡ byte_minus (transposed note (pos byte -ℤ pos 0xF0)) 0x60 % 128
shifted note byte low from =
    let sum : (pos note +ℤ (pos byte -ℤ pos 0xF0)) +ℤ pos (0 * 256) ≡ pos (note + byte - 0xF0) =
    omega (arith, ints, low, from) in
    let is : transposed note (pos byte -ℤ pos 0xF0) ≡ (note + byte - 0xF0) % 256 =
    ap unsigned_abs
    (int_rem_euclid_is (pos note +ℤ (pos byte -ℤ pos 0xF0)) (pos 256) 256 0 (note + byte - 0xF0) (omega arith) refl
    sum) in
    rw is (omega (arith, low, from))

-- ---- one orderlist

-- the number is the note by a transpose of the orderlist
abbrev IsByTranspose : Order → ℕ → ℕ → Type 0
IsByTranspose order note n = (t : ℤ) × IsTransposeOf order t × (n ≡ byte_minus (transposed note t) 0x60 % 128)

-- what names and transposes come to
abbrev IsSumOf : Song → Order → ℕ → Type 0
IsSumOf song order = IsSum (λ n. Any (λ byte. NamesNote song byte n) order.entries) (TransposeBy order.entries)

note_of_sum : (song : Song) (order : Order) (n : ℕ) → IsSumOf song order n → IsOrderNote song order n
note_of_sum song order n sum = named sum.is_first sum.is_second
  where
    named : Any (λ byte. NamesNote song byte sum.first) order.entries → TransposeBy order.entries sum.second →
        IsOrderNote song order n
    named (k, pattern, inside, at, (is_pattern, (i, row, within, stands, (plays, note_is)))) by =
        let low = least_note row.note plays in
        let (transpose, is_of, adds) = transpose_of row low note_is by in
        record {
          pattern = pattern;
          entry = (k, inside, at);
          is_pattern = is_pattern;
          row = row;
          has = (i, within, stands);
          plays = plays;
          transpose = transpose;
          by = is_of;
          is = adds;
        }
      where
        transpose_of : (row : Row) → 0x60 ≤ row.note → sum.first ≡ row.note - 0x60 →
            TransposeBy order.entries sum.second → IsByTranspose order row.note n
        transpose_of row low note_is (inl none) =
            (pos 0, inl refl, sum.is ∙ rw (note_is, none) (plain row.note low))
        transpose_of row low note_is (inr (j, byte, there, at, (from, shift_is))) = (
          pos byte -ℤ pos 0xF0,
          inr (record { byte = byte; entry = (j, there, at); from = from; sets = refl }),
          sum.is ∙ rw (note_is, shift_is) (shifted row.note byte low from),
        )

sum_of_note : (song : Song) (order : Order) (n : ℕ) → IsOrderNote song order n → IsSumOf song order n
sum_of_note song order n o = by_transpose o.by
  where
    low : 0x60 ≤ o.row.note
    low = least_note o.row.note o.plays

    names : Any (λ byte. NamesNote song byte (o.row.note - 0x60)) order.entries
    names = (
      o.entry.0,
      o.pattern,
      o.entry.1,
      o.entry.2,
      (o.is_pattern, (o.has.0, o.row, o.has.1, o.has.2, (o.plays, refl))),
    )

    by_transpose : IsTransposeOf order o.transpose → IsSumOf song order n
    by_transpose (inl none) = record {
      first = o.row.note - 0x60;
      second = 0;
      is_first = names;
      is_second = inl refl;
      is = rw none at o.is ∙ sym (plain o.row.note low);
    }
    by_transpose (inr set) = record {
      first = o.row.note - 0x60;
      second = (set.byte + 0x10) % 128;
      is_first = names;
      is_second = inr (set.entry.0, set.byte, set.entry.1, set.entry.2, (set.from, refl));
      is = rw set.sets at o.is ∙ sym (shifted o.row.note set.byte low set.from);
    }

pub order_notes_are : {set : NumberSet} (song : Song) (order : Order) → IsSetOf (IsSumOf song order) set →
    IsSetOf (IsOrderNote song order) set
order_notes_are song order s = set_same (IsOrderNote song order) (note_of_sum song order) (sum_of_note song order) s

-- ---- one subtune

-- a note of one of the three orderlists
abbrev IsOneOfThree : Song → Subtune → ℕ → Type 0
IsOneOfThree song subtune n =
    (IsOrderNote song subtune.one n ⊎ IsOrderNote song subtune.two n) ⊎ IsOrderNote song subtune.three n

of_channel : (song : Song) (subtune : Subtune) (n channel : ℕ) → IsChannel channel →
    IsOrderNote song (order_of channel subtune) n → IsOneOfThree song subtune n
of_channel song subtune n channel is note =
    elim (cases_lt channel 2) [
      | inl low ↦ inl (inl (let one : channel ≡ 1 = (let a = is.first in omega arith) in rw one at note))
      | inr high ↦ elim (cases_lt channel 3) [
        | inl below ↦ inl (inr (let two : channel ≡ 2 = omega arith in rw two at note))
        | inr last ↦ inr (let three : channel ≡ 3 = (let b = is.last in omega arith) in rw three at note)
      ]
    ]

pub subtune_notes_are : {set : NumberSet} (song : Song) (subtune : Subtune) → is_playable_subtune subtune ≡ true →
    IsSetOf (IsOneOfThree song subtune) set → IsSetOf (IsSubtuneNote song subtune) set
subtune_notes_are song subtune playable s =
    set_same (IsSubtuneNote song subtune)
    (λ n w. elim w [
      | inl early ↦ (elim early [
        | inl one ↦ note 1 n (omega arith) (omega arith) one
        | inr two ↦ note 2 n (omega arith) (omega arith) two
      ])
      | inr three ↦ note 3 n (omega arith) (omega arith) three
    ])
    (λ n sounds. of_channel song subtune n sounds.channel sounds.is_channel sounds.note) s
  where
    note : (channel n : ℕ) → 1 ≤ channel → channel ≤ 3 → IsOrderNote song (order_of channel subtune) n →
        IsSubtuneNote song subtune n
    note channel n first last is =
        record { playable = playable; channel = channel; is_channel = record { first = first; last = last }; note = is }

-- ---- all subtunes

played_from : (song : Song) (n : ℕ) → Any (λ subtune. IsSubtuneNote song subtune n) song.subtunes →
    IsPlayedWithin song n
played_from song n (k, subtune, inside, at, s) = record {
  note = byte_minus (transposed s.note.row.note s.note.transpose) 0x60;
  played = record {
    order = order_of s.channel subtune;
    played = record {
      subtune = subtune;
      playable = filter_keeps is_playable_subtune song.subtunes subtune (k, inside, at) s.playable;
      channel = s.channel;
      is_channel = s.is_channel;
      order_is = refl;
    };
    pattern = s.note.pattern;
    entry = s.note.entry;
    is_pattern = s.note.is_pattern;
    row = s.note.row;
    has = s.note.has;
    plays = s.note.plays;
    transpose = s.note.transpose;
    by = s.note.by;
    note_is = refl;
  };
  is = s.note.is;
}

in_subtune : (song : Song) (n : ℕ) → IsPlayedWithin song n → Any (λ subtune. IsSubtuneNote song subtune n) song.subtunes
in_subtune song n w =
    let p = w.played in
    let o = p.played in
    let (there, playable) = filter_of is_playable_subtune song.subtunes o.subtune o.playable in (
      there.0,
      o.subtune,
      there.1,
      there.2,
      record {
        playable = playable;
        channel = o.channel;
        is_channel = o.is_channel;
        note = subst (λ (order : Order). IsOrderNote song order n) o.order_is (record {
          pattern = p.pattern;
          entry = p.entry;
          is_pattern = p.is_pattern;
          row = p.row;
          has = p.has;
          plays = p.plays;
          transpose = p.transpose;
          by = p.by;
          is = rw p.note_is at w.is;
        });
      },
    )

pub played_notes_are : {set : NumberSet} (song : Song) →
    IsSetOf (λ n. Any (λ subtune. IsSubtuneNote song subtune n) song.subtunes) set → IsSetOf (IsPlayedWithin song) set
played_notes_are song s = set_same (IsPlayedWithin song) (played_from song) (in_subtune song) s
