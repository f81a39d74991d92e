-- A pattern that is read is spelled by its piece, and one that is spelled is read.
use Rattle.std.proofs.Common.{◌≡◌, ◌≢◌, ℕ, zero, suc, ◌+◌, ◌*◌, ◌<◌, ◌≤◌, Bool, true}
use Rattle.std.proofs.Common.{false, cond, eqb, leb, ◌&&◌, List, [], ◌∷◌, ◌++◌, length, get_or, drop}
use Rattle.std.proofs.Common.{Result, Ok, Err, refl, ap, subst, ◌∙◌, arith}
use Rattle.std.specs.List.{All, flat_map}
use Rattle.std.proofs.lemmas.Bool.{eqb-true, eqb-false, eq-eqb, ne_eqb, leb-true, le-leb, and_parts, and_from}
use Rattle.std.proofs.lemmas.List.{drop_more, length-drop, length-append}
use Rattle.std.proofs.lemmas.List.Elements.{All-nil, All-cons, All-head, All-tail, All-drop}
use Rattle.base.proofs.Laws.{length-flat_map-same}
use Rattle.song_model.specs.declared.rows.Row.{Row}
use Rattle.song_model.specs.Basics.{IsByte}
use Rattle.song_model.specs.PatternLimits.{IsRow, IsPattern}
use Rattle.song_model.specs.Canonical.{row_text}
use Rattle.gts5.specs.declared.faults.SongFault.{SongFault}
use Rattle.gts5.specs.Faults.{◌>>=◌, offset_of, row_of, has_ranges}
use Rattle.gts5.specs.Reading.{bytes_at, byte_at, rows_of, ends_at, cut_at, pattern_at}
use Rattle.gts5.specs.Spells.{SpellsPattern}
use Rattle.gts5.proofs.Takes.{bind_ok, ok_is, Takes, bytes_take, bytes_again, byte_takes, byte_again}

-- ---- one row

abbrev judged : Bool → Bool → Bool → Bool → SongFault → SongFault → SongFault → Result Bool SongFault
judged marked first full ranged f g h =
    cond marked (cond first (Err f) (Ok true)) (cond full (Err g) (cond ranged (Ok false) (Err h)))

judged_end : (marked first full ranged : Bool) (f g h : SongFault) → judged marked first full ranged f g h ≡ Ok true →
    (marked ≡ true) × (first ≡ false)
judged_end true true full ranged f g h e = absurd cc
judged_end true false full ranged f g h e = (refl, refl)
judged_end false first true ranged f g h e = absurd cc
judged_end false first false true f g h e = absurd (cc (ok_is false true e))
judged_end false first false false f g h e = absurd cc

judged_row : (marked first full ranged : Bool) (f g h : SongFault) → judged marked first full ranged f g h ≡ Ok false →
    (full ≡ false) × (ranged ≡ true)
judged_row true true full ranged f g h e = absurd cc
judged_row true false full ranged f g h e = absurd (cc (ok_is true false e))
judged_row false first true ranged f g h e = absurd cc
judged_row false first false true f g h e = (refl, refl)
judged_row false first false false f g h e = absurd cc

is_row : (row : Row) → IsByte row.param → has_ranges row ≡ true → IsRow row
is_row row param e =
    let a = and_parts (leb 96 row.note && leb row.note 191 && leb row.instrument 63) (leb row.command 15) e in
    let b = and_parts (leb 96 row.note && leb row.note 191) (leb row.instrument 63) a.0 in
    let c = and_parts (leb 96 row.note) (leb row.note 191) b.0 in
    record {
      note_from = leb-true _ _ c.0;
      note_to = leb-true _ _ c.1;
      instrument = leb-true _ _ b.1;
      command = leb-true _ _ a.1;
      param = param;
    }

row_is : (row : Row) → IsRow row → has_ranges row ≡ true
row_is row is =
    and_from (leb 96 row.note && leb row.note 191 && leb row.instrument 63) (leb row.command 15)
    (and_from (leb 96 row.note && leb row.note 191) (leb row.instrument 63)
    (and_from (leb 96 row.note) (leb row.note 191) (le-leb _ _ is.note_from) (le-leb _ _ is.note_to))
    (le-leb _ _ is.instrument))
    (le-leb _ _ is.command)

ends_true : (at i : ℕ) (row : Row) → ends_at at i row ≡ Ok true → (row.note ≡ 255) × (1 ≤ i)
unfolding ends_at
ends_true at i row e =
    let j = judged_end (eqb row.note 255) (eqb i 0) (eqb i 128) (has_ranges row) _ _ _ e in
    let other = eqb-false i 0 j.1 in
    (eqb-true _ _ j.0, omega arith)

ends_false : (at i : ℕ) (row : Row) → IsByte row.param → ends_at at i row ≡ Ok false → IsRow row × (i ≢ 128)
unfolding ends_at
ends_false at i row param e =
    let j = judged_row (eqb row.note 255) (eqb i 0) (eqb i 128) (has_ranges row) _ _ _ e in
    (is_row row param j.1, eqb-false i 128 j.0)

true_end : (at i : ℕ) (row : Row) → row.note ≡ 255 → 1 ≤ i → ends_at at i row ≡ Ok true
unfolding ends_at
true_end at i row note later = rw (eq-eqb row.note 255 note, ne_eqb i 0 (λ e. absurd (omega arith))) refl

true_row : (at i : ℕ) (row : Row) → IsRow row → i < 128 → ends_at at i row ≡ Ok false
unfolding ends_at
true_row at i row is early =
    rw (ne_eqb row.note 255 (λ e. absurd (omega arith)), ne_eqb i 128 (λ e. absurd (omega arith)), row_is row is) refl

-- ---- the rows before the end row

four : (xs : List ℕ) → 4 ≤ length xs → xs ≡ get_or xs 0 0 ∷ get_or xs 1 0 ∷ get_or xs 2 0 ∷ get_or xs 3 0 ∷ drop 4 xs
four (a ∷ b ∷ c ∷ d ∷ xs) l = refl
four _ l = absurd (omega arith)

pub record CutsRows (i m : ℕ) (piece : List ℕ) (rows : List Row) : Type 0 where
  pub more : ℕ
  pub ignored : List ℕ
  pub counted : m ≡ length rows + 1 + more
  pub ignored_rows : length ignored ≡ 3 + 4 * more
  pub parts : piece ≡ flat_map row_text rows ++ 255 ∷ ignored
  pub each : All IsRow rows
  pub most : i + length rows ≤ 128
  pub least : 1 ≤ i + length rows

end_cut : (i m : ℕ) (piece : List ℕ) → length piece ≡ 4 * suc m → i ≤ 128 → (row_of piece).note ≡ 255 → 1 ≤ i →
    CutsRows i (suc m) piece []
end_cut i m piece size bound note later = record {
  more = m;
  ignored = drop 1 piece;
  counted = omega arith;
  ignored_rows = omega (arith, length-drop 1 piece);
  parts = drop_more piece 0 0 (omega arith) ∙ ap (λ (b : ℕ). b ∷ drop 1 piece) note;
  each = All-nil IsRow;
  most = omega arith;
  least = omega arith;
}

row_cut : (i m : ℕ) (piece : List ℕ) (rows : List Row) → length piece ≡ 4 * suc m → IsRow (row_of piece) →
    CutsRows (i + 1) m (drop 4 piece) rows → CutsRows i (suc m) piece (row_of piece ∷ rows)
row_cut i m piece rows size is others =
    let counted = others.counted in
    let most = others.most in
    record {
      more = others.more;
      ignored = others.ignored;
      counted = omega arith;
      ignored_rows = others.ignored_rows;
      parts = four piece (omega arith)
          ∙ ap (λ (t : List ℕ). get_or piece 0 0 ∷ get_or piece 1 0 ∷ get_or piece 2 0 ∷ get_or piece 3 0 ∷ t)
          others.parts;
      each = All-cons IsRow (row_of piece) rows is others.each;
      most = omega arith;
      least = omega arith;
    }

cut_step : (at i m : ℕ) (piece : List ℕ) (rows : List Row) → length piece ≡ 4 * suc m → All IsByte piece → i ≤ 128
    → ((others : List Row) → length (drop 4 piece) ≡ 4 * m → All IsByte (drop 4 piece) → i + 1 ≤ 128 →
    cut_at at (i + 1) (rows_of m (drop 4 piece)) ≡ Ok others → CutsRows (i + 1) m (drop 4 piece) others)
    → (ends : Bool) → ends_at at i (row_of piece) ≡ Ok ends
    → cond ends (Ok []) (cut_at at (i + 1) (rows_of m (drop 4 piece)) >>= λ others. Ok (row_of piece ∷ others))
    ≡ Ok rows → CutsRows i (suc m) piece rows
cut_step at i m piece rows size are bound others true h e =
    let t = ends_true at i (row_of piece) h in
    subst (CutsRows i (suc m) piece) (ok_is [] rows e) (end_cut i m piece size bound t.0 t.1)
cut_step at i m piece rows size are bound others false h e =
    let t = ends_false at i (row_of piece) (are 3 0 (omega arith)) h in
    let early = t.1 in
    let b = bind_ok (cut_at at (i + 1) (rows_of m (drop 4 piece))) (λ rest. Ok (row_of piece ∷ rest)) rows e in
    let rest = others b.0 (omega (arith, length-drop 4 piece)) (All-drop IsByte 4 piece are) (omega arith) b.1 in
    subst (CutsRows i (suc m) piece) (ok_is (row_of piece ∷ b.0) rows b.2) (row_cut i m piece b.0 size t.0 rest)

pub cut_takes : (at i m : ℕ) (piece : List ℕ) (rows : List Row) → length piece ≡ 4 * m → All IsByte piece → i ≤ 128 →
    cut_at at i (rows_of m piece) ≡ Ok rows → CutsRows i m piece rows
cut_takes at i zero piece rows size are bound e = absurd cc
cut_takes at i (suc m) piece rows size are bound e =
    let row = row_of piece in
    let a = bind_ok (ends_at at i row)
    (λ ends. cond ends (Ok []) (cut_at at (i + 1) (rows_of m (drop 4 piece)) >>= λ others. Ok (row ∷ others))) rows e in
    cut_step at i m piece rows size are bound (λ others. cut_takes at (i + 1) m (drop 4 piece) others) a.0 a.1 a.2

cut_again : (at i : ℕ) (rows : List Row) (more : ℕ) (ignored : List ℕ) → All IsRow rows → 1 ≤ i + length rows →
    i + length rows ≤ 128 →
    cut_at at i (rows_of (length rows + 1 + more) (flat_map row_text rows ++ 255 ∷ ignored)) ≡ Ok rows
cut_again at i [] more ignored are least most =
    let k : 0 + 1 + more ≡ suc more = omega arith in
    rw (k, true_end at i (row_of (255 ∷ ignored)) refl (omega arith)) refl
cut_again at i (row ∷ rows) more ignored are least most =
    let k : suc (length rows) + 1 + more ≡ suc (length rows + 1 + more) = omega arith in
    rw (
      k,
      true_row at i row (All-head IsRow row rows are) (omega arith),
      cut_again at (i + 1) rows more ignored (All-tail IsRow row rows are) (omega arith) (omega arith),
    ) refl

-- ---- the pattern

pub pattern_takes : (total : ℕ) (bytes : List ℕ) (x : List Row × List ℕ) → All IsByte bytes →
    pattern_at total bytes ≡ Ok x → Takes SpellsPattern IsPattern bytes x.0 x.1
unfolding pattern_at
pattern_takes total bytes x are e =
    let a = bind_ok (byte_at total bytes) _ x e in
    let b = bind_ok (bytes_at total (4 * a.0.0) a.0.1) _ x a.2 in
    let m = a.0.0 in
    let piece = b.0.0 in
    let c = bind_ok (cut_at (offset_of total bytes) 0 (rows_of m piece)) (λ rows. Ok (rows, b.0.1)) x b.2 in
    let count = byte_takes total bytes a.0 are a.1 in
    let run = bytes_take total (4 * m) a.0.1 b.0 count.left b.1 in
    let cut = cut_takes (offset_of total bytes) 0 m piece c.0 run.size run.each (omega arith) c.1 in
    let made : List Row × List ℕ = (c.0, b.0.1) in
    let most = cut.most in
    let least = cut.least in
    subst (λ (y : List Row × List ℕ). Takes SpellsPattern IsPattern bytes y.0 y.1) (ok_is made x c.2) (record {
      piece = m ∷ piece;
      spelled = record {
        more = cut.more;
        ignored = cut.ignored;
        each = cut.each;
        ignored_rows = cut.ignored_rows;
        parts = ap (λ (k : ℕ). k ∷ piece) cut.counted ∙ ap (λ (t : List ℕ). (length c.0 + 1 + cut.more) ∷ t) cut.parts;
      };
      within = record { count = record { least = omega arith; most = omega arith }; each = cut.each };
      parts = count.parts ∙ ap (λ (t : List ℕ). m ∷ t) run.parts;
      left = run.left;
    })

pub pattern_again : (total : ℕ) (rows : List Row) (piece rest : List ℕ) → IsPattern rows → SpellsPattern rows piece →
    pattern_at total (piece ++ rest) ≡ Ok (rows, rest)
unfolding pattern_at
pattern_again total rows piece rest is spelled =
    let m = length rows + 1 + spelled.more in
    let run = flat_map row_text rows ++ 255 ∷ spelled.ignored in
    let skipped = spelled.ignored_rows in
    let least = is.count.least in
    let most = is.count.most in
    let size : length run ≡ 4 * m =
    omega (
      arith,
      length-append (flat_map row_text rows) (255 ∷ spelled.ignored),
      length-flat_map-same row_text 4 (λ row. refl) rows,
    ) in
    let whole : piece ++ rest ≡ m ∷ (run ++ rest) = ap (λ (t : List ℕ). t ++ rest) spelled.parts in
    ap (pattern_at total) whole
    ∙ rw (
      byte_again total m (run ++ rest),
      bytes_again total (4 * m) run rest size,
      cut_again (offset_of total (m ∷ (run ++ rest))) 0 rows spelled.more spelled.ignored spelled.each (omega arith)
          (omega arith),
    ) refl
