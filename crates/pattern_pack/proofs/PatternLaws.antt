-- The laws of packed patterns.
use Rattle.std.proofs.Common.{◌≡◌, ℕ, zero, suc, ◌+◌, ◌*◌, ◌≤◌, List, [], ◌∷◌, length, None}
use Rattle.std.proofs.Common.{Result, Ok, Err, MatchOption, refl, ap, sym, subst, ◌∙◌, arith, length-append}
use Rattle.std.specs.List.{All, flat_map}
use Rattle.song_model.specs.declared.rows.Row.{Row}
use Rattle.song_model.specs.Basics.{IsByte}
use Rattle.song_model.specs.PatternLimits.{IsPattern, IsPatternLength, IsRow}
use Rattle.packed_form.specs.declared.entries.Command.{Command}
use Rattle.packed_form.specs.declared.faults.PackedFault.{PackedFault}
use Rattle.packed_form.specs.Entries.{no_command, entry_bytes, command_of, more_rests}
use Rattle.packed_form.specs.PackedSpells.{PackedSpells}
use Rattle.packed_form.specs.Normal.{normal_rows}
use Rattle.packed_form.specs.PackedText.{first_kind, first_entry, entries_from, packed_entries, packed_text}
use Rattle.packed_form.specs.Faults.{unpacked, fault_in, packed_fault_of}
use Rattle.pattern_pack.proofs.InRange.{no_command_is, rows_are}
use Rattle.pattern_pack.proofs.Packings.{rows_of_entries, entries_are, normal_are_plain, normal_length, entry_short}
use Rattle.pattern_pack.proofs.Shortest.{shortest_from}
use Rattle.pattern_pack.proofs.Whole.{unpacked_is_spelled, spelled_is_unpacked}

pub packed_is_spelled : (rows : List Row) → IsPattern rows → PackedSpells (packed_text rows) (normal_rows rows)
unfolding packed_text
packed_is_spelled rows is = record {
  entries = packed_entries (normal_rows rows);
  each = entries_are (normal_rows rows) no_command 0 (normal_are_plain rows 0 is.each);
  text = refl;
  are = sym (rows_of_entries (normal_rows rows) no_command 0);
  count = subst IsPatternLength (sym (normal_length rows 0)) is.count;
}

pub no_fault : (bytes : List ℕ) (rows : List Row) → PackedSpells bytes rows → packed_fault_of bytes ≡ None
unfolding packed_fault_of
no_fault bytes rows spelled = ap fault_in (spelled_is_unpacked bytes rows spelled)

pub packed_has_no_fault : (rows : List Row) → IsPattern rows → packed_fault_of (packed_text rows) ≡ None
packed_has_no_fault rows is = no_fault (packed_text rows) (normal_rows rows) (packed_is_spelled rows is)

abbrev these : List Row → Result (List Row) PackedFault
these rows = Ok rows

same_rows : (rows others : List Row) → these rows ≡ these others → rows ≡ others
same_rows rows others e = cc

pub spelled_once : (bytes : List ℕ) (rows others : List Row) → PackedSpells bytes rows → PackedSpells bytes others →
    rows ≡ others
spelled_once bytes rows others one other =
    same_rows rows others (sym (spelled_is_unpacked bytes rows one) ∙ spelled_is_unpacked bytes others other)

pub spelled_are_patterns : (bytes : List ℕ) (rows : List Row) → PackedSpells bytes rows → IsPattern rows
spelled_are_patterns bytes rows spelled = record {
  count = spelled.count;
  each = subst (All IsRow) (sym spelled.are) (rows_are no_command spelled.entries no_command_is spelled.each);
}

either : (bytes : List ℕ) → All IsByte bytes → (r : Result (List Row) PackedFault) → unpacked bytes ≡ r →
    MatchOption (fault_in r) ((rows : List Row) × PackedSpells bytes rows)
    (λ fault. (rows : List Row) → ¬ PackedSpells bytes rows)
either bytes are (Ok rows) e = (rows, unpacked_is_spelled bytes rows are e)
either bytes are (Err fault) e = λ rows spelled. let h = spelled_is_unpacked bytes rows spelled in absurd cc

pub rows_or_fault : (bytes : List ℕ) → All IsByte bytes →
    MatchOption (packed_fault_of bytes) ((rows : List Row) × PackedSpells bytes rows)
    (λ fault. (rows : List Row) → ¬ PackedSpells bytes rows)
unfolding packed_fault_of
rows_or_fault bytes are = either bytes are (unpacked bytes) refl

entries_short : (rows : List Row) (running : Command) (k : ℕ) →
    length (flat_map entry_bytes (entries_from running k rows)) ≤ 4 * length rows
entries_short [] running k = omega arith
entries_short (row ∷ rows) running zero =
    let entry = first_entry running row rows in
    let behind = entries_from (command_of row) (more_rests (first_kind running row rows)) rows in
    omega (
      arith,
      length-append (entry_bytes entry) (flat_map entry_bytes behind),
      entry_short entry,
      entries_short rows (command_of row) (more_rests (first_kind running row rows)),
    )
entries_short (row ∷ rows) running (suc k) = omega (arith, entries_short rows running k)

pub text_is_short : (rows : List Row) → length (packed_text rows) ≤ 4 * length rows + 1
unfolding packed_text
text_is_short rows = omega (
  arith,
  length-append (flat_map entry_bytes (packed_entries (normal_rows rows))) (0 ∷ []),
  entries_short (normal_rows rows) no_command 0,
  normal_length rows 0,
)

pub none_is_shorter : (rows : List Row) (bytes : List ℕ) → PackedSpells bytes (normal_rows rows) →
    length (packed_text rows) ≤ length bytes
unfolding packed_text
none_is_shorter rows bytes spelled =
    let entries = spelled.entries in
    let packed = packed_entries (normal_rows rows) in
    omega (
      arith,
      ap length spelled.text,
      length-append (flat_map entry_bytes entries) (0 ∷ []),
      length-append (flat_map entry_bytes packed) (0 ∷ []),
      subst (λ (t : List Row). length (flat_map entry_bytes (entries_from no_command 0 t))
          ≤ length (flat_map entry_bytes entries)) (sym spelled.are) (shortest_from entries no_command spelled.each),
    )
