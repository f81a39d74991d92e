-- What is kept of rows, and how many there are.
use Rattle.std.proofs.Common.{◌≡◌, ℕ, ◌+◌, ◌<◌, ◌≤◌, List, [], ◌∷◌, ◌++◌, length, take}
use Rattle.std.proofs.Common.{replicate, Ok, sym, ap, subst, ◌∙◌, append_assoc, arith, length-append}
use Rattle.std.specs.List.{All}
use Rattle.std.proofs.lemmas.Bool.{le-leb}
use Rattle.std.proofs.lemmas.List.{take_all, take-append-le, append-nil}
use Rattle.song_model.specs.declared.rows.Row.{Row}
use Rattle.song_model.specs.PatternLimits.{IsRow, IsPattern}
use Rattle.packed_form.specs.declared.entries.Command.{Command}
use Rattle.packed_form.specs.declared.entries.Entry.{Entry}
use Rattle.packed_form.specs.Entries.{no_command, command_behind, entry_note, more_rests, row_with, rows_from}
use Rattle.packed_form.specs.Faults.{within_length}
use Rattle.pattern_pack.specs.Answers.{command_after}
use Rattle.pattern_pack.proofs.InRange.{rows_from-append, command_after-append}

-- where there is room, one more row is kept
pub kept_more : (all kept : List Row) (row : Row) → kept ≡ take 128 all → length all < 128 →
    kept ++ row ∷ [] ≡ take 128 (all ++ row ∷ [])
kept_more all kept row e short =
    ap (λ (t : List Row). t ++ row ∷ []) (e ∙ take_all 128 all (omega arith))
    ∙ sym (take_all 128 (all ++ row ∷ []) (omega (arith, length-append all (row ∷ []))))

-- where there is none, what is kept stays
pub kept_full : (all kept : List Row) (row : Row) → kept ≡ take 128 all → 128 ≤ length all →
    kept ≡ take 128 (all ++ row ∷ [])
kept_full all kept row e long = e ∙ sym (take-append-le 128 all (row ∷ []) long)

-- where there are few, all are kept
pub kept_all : (all kept : List Row) → kept ≡ take 128 all → length all ≤ 128 → kept ≡ all
kept_all all kept e few = e ∙ take_all 128 all few

pub length_more : (all : List Row) (row : Row) (count : ℕ) → count ≡ length all → count + 1 ≡ length (all ++ row ∷ [])
length_more all row count e = omega (arith, length-append all (row ∷ []))

-- ---- as a pattern

pub kept_is_pattern : (all kept : List Row) → kept ≡ take 128 all → All IsRow all → 1 ≤ length all →
    length all ≤ 128 → IsPattern kept
kept_is_pattern all kept e are least most =
    subst IsPattern (sym (kept_all all kept e most))
    (record { count = record { least = least; most = most }; each = are })

pub kept_within : (all kept : List Row) → kept ≡ take 128 all → 1 ≤ length all → length all ≤ 128 →
    within_length all ≡ Ok kept
kept_within all kept e least most =
    rw (le-leb 1 (length all) least, le-leb (length all) 128 most) (ap (λ (t : List Row). Ok t) (sym (kept_all all kept e most)))

-- ---- with the rows of one more entry

pub rows_added : (done : List Entry) (entry : Entry) (running : Command) → running ≡ command_after no_command done →
    (rows_from no_command done
    ++ row_with (entry_note entry.kind) entry.instrument (command_behind running entry.kind) ∷ [])
    ++ replicate (more_rests entry.kind) (row_with 0xBD 0 (command_behind running entry.kind))
    ≡ rows_from no_command (done ++ entry ∷ [])
rows_added done entry running e =
    let behind = command_behind running entry.kind in
    let first = row_with (entry_note entry.kind) entry.instrument behind in
    let rests = replicate (more_rests entry.kind) (row_with 0xBD 0 behind) in
    append_assoc (rows_from no_command done) (first ∷ []) rests
    ∙ ap (λ (t : List Row). rows_from no_command done ++ t) (sym (append-nil (first ∷ rests)))
    ∙ ap (λ (r : Command). rows_from no_command done ++ rows_from r (entry ∷ [])) e
    ∙ sym (rows_from-append no_command done (entry ∷ []))

pub running_added : (done : List Entry) (entry : Entry) (running : Command) → running ≡ command_after no_command done →
    command_behind running entry.kind ≡ command_after no_command (done ++ entry ∷ [])
running_added done entry running e =
    ap (λ (r : Command). command_behind r entry.kind) e ∙ sym (command_after-append no_command done (entry ∷ []))

pub entry_added : (done : List Entry) (entry : Entry) (running behind : Command) (row : Row) (more : ℕ) →
    running ≡ command_after no_command done →
    row ≡ row_with (entry_note entry.kind) entry.instrument (command_behind running entry.kind) →
    more ≡ more_rests entry.kind → behind ≡ command_behind running entry.kind →
    (rows_from no_command done ++ row ∷ []) ++ replicate more (row_with 0xBD 0 behind)
    ≡ rows_from no_command (done ++ entry ∷ [])
entry_added done entry running behind row more e one many same = rw (one, many, same) (rows_added done entry running e)
