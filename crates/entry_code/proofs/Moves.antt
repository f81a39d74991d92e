-- The rule's voice behind a row, and where it is in its song.
use Rattle.std.proofs.Common.{◌≡◌, ℕ, ℤ, zero, suc, ◌+◌, ◌-◌, ◌%◌, ◌<◌, ◌≤◌, ◌||◌}
use Rattle.std.proofs.Common.{Bool, true, false, not, nat_eq}
use Rattle.std.proofs.Common.{bit_and}
use Rattle.std.proofs.Common.{if◌then◌else◌, List, [], ◌∷◌, ◌++◌, length, drop, replicate, All, refl}
use Rattle.std.proofs.Common.{sym, ap, ◌∙◌}
use Rattle.std.proofs.Common.{subst, arith}
use Rattle.std.proofs.lemmas.Bool.{eq-eqb, ne_eqb, cond_both}
use Rattle.std.proofs.lemmas.List.{length-drop}
use Rattle.song_model.specs.declared.rows.Row.{Row}
use Rattle.song_model.specs.declared.orders.Order.{Order}
use Rattle.song_model.specs.LookUp.{zero_row}
use Rattle.song_model.specs.Walk.{played}
use Rattle.play_model.specs.LookUps.{LookUps}
use Rattle.play_model.specs.State.{Voice}
use Rattle.play_model.specs.FetchRow.{row_taken, gate_keyed, is_note, transposed, gate_shut, note_waits, row_done}
use Rattle.play_model.specs.FetchRow.{row_moved}
use Rattle.packed_form.specs.declared.entries.Entry.{Entry}
use Rattle.packed_form.specs.Entries.{IsEntry, row_with, rows_from}
use Rattle.packed_form.specs.PackedSpells.{text_of}
use Rattle.scopes.specs.Desk.{Layout}
use Rattle.player_memory.specs.declared.labels.TheConstants.{REST, OFFSET, TRANSPOSE}
use Rattle.player_memory.specs.Fetching.{HasPattern, transpose_byte, WalkStands, GoesOn, Repeats, EntryIsNext, Walked}
use Rattle.player_memory.specs.Fetching.{NotWalked}
use Rattle.player_memory.specs.Fetching.{last_command, running_command, AreRests, SongStands, AtEntry, InRun, InLastRun}
use Rattle.player_desk.proofs.Laws.{Fields}
use Rattle.entry_code.proofs.Texts.{stands_there}
use Rattle.entry_code.proofs.Takes.{SamePlay}
use Rattle.entry_code.proofs.Ends.{NextOffset, NoEntry, SomeEntry}

-- ---- what no step of taking a row changes

if_same : {X : Type 0} (f : X → ℕ) (b : Bool) (x y : X) (n : ℕ) → f x ≡ n → f y ≡ n → f (if b then x else y) ≡ n
if_same f true x y n here there = here
if_same f false x y n here there = there

record Keeps (f : Voice → ℕ) : Type 0 where
  pub gate : (v : Voice) (gate : ℕ) → f (record v { gate = gate }) ≡ f v
  pub shut : (v : Voice) → f (record v { gate = 0xFE; ad = 0x0F; sr = 0 }) ≡ f v
  pub new_note : (v : Voice) (note : ℕ) → f (record v { new_note = note }) ≡ f v

keyed_keeps : (f : Voice → ℕ) → Keeps f → (note : ℕ) (v : Voice) → f (gate_keyed note v) ≡ f v
keyed_keeps f keeps note v =
    if_same f (nat_eq note 0xBE) _ _ (f v) (keeps.gate v 0xFE)
    (if_same f (nat_eq note 0xBF) _ v (f v) (keeps.gate v 0xFF) refl)

shut_keeps : (f : Voice → ℕ) → Keeps f → (timer : ℕ) (v : Voice) → f (gate_shut timer v) ≡ f v
shut_keeps f keeps timer v =
    if_same f (nat_eq v.new_command 3 || not (nat_eq (bit_and timer 0x40) 0)) v _ (f v) refl
    (if_same f (nat_eq (bit_and timer 0x80) 0) _ _ (f v) (keeps.shut v) (keeps.gate v 0xFE))

waits_keeps : (f : Voice → ℕ) → Keeps f → (look : LookUps) (note : ℕ) (transpose : ℤ) (v : Voice) →
    f (note_waits look note transpose v) ≡ f v
waits_keeps f keeps look note transpose v =
    if_same f (is_note note) _ v (f v)
    (shut_keeps f keeps (look.instrument v.instrument).gate_timer (record v { new_note = transposed note transpose })
    ∙ keeps.new_note v (transposed note transpose)) refl

done_keeps : (f : Voice → ℕ) → Keeps f → (look : LookUps) (row : Row) (transpose : ℤ) (v : Voice) →
    f (row_done look row transpose v) ≡ f (row_taken row v)
done_keeps f keeps look row transpose v =
    waits_keeps f keeps look row.note transpose (gate_keyed row.note (row_taken row v))
    ∙ keyed_keeps f keeps row.note (row_taken row v)

pub row_kept : (look : LookUps) (row : Row) (transpose : ℤ) (v : Voice) → (row_done look row transpose v).row ≡ v.row
row_kept look row transpose v =
    done_keeps (λ w. w.row) (record { gate = λ w gate. refl; shut = λ w. refl; new_note = λ w note. refl }) look row
    transpose v

pub plays_kept : (look : LookUps) (row : Row) (transpose : ℤ) (v : Voice) →
    (row_done look row transpose v).plays ≡ v.plays
plays_kept look row transpose v =
    done_keeps (λ w. w.plays) (record { gate = λ w gate. refl; shut = λ w. refl; new_note = λ w note. refl }) look row
    transpose v

-- the row's command is the voice's
pub command_taken : (look : LookUps) (row : Row) (transpose : ℤ) (v : Voice) →
    last_command (row_done look row transpose v) ≡ record { number = row.command; param = row.param }
command_taken look row transpose v =
    let number : (row_done look row transpose v).new_command ≡ row.command =
    done_keeps (λ w. w.new_command) (record { gate = λ w gate. refl; shut = λ w. refl; new_note = λ w note. refl }) look
    row transpose v in
    let param : (row_done look row transpose v).new_param ≡ row.param =
    done_keeps (λ w. w.new_param) (record { gate = λ w gate. refl; shut = λ w. refl; new_note = λ w note. refl }) look
    row transpose v in
    rw (number, param) refl

-- ---- in the orderlist

-- the bytes of a play are the same
pub same_pattern : (layout : Layout) (order : Order) (n : ℕ) (one two : ℕ → ℕ) → SamePlay two one →
    HasPattern layout (played order n) one → HasPattern layout (played order n) two
same_pattern layout order n one two same at =
    record { low_is = same.pattern_low ∙ at.low_is; high_is = same.pattern_high ∙ at.high_is }

pub same_walk : (layout : Layout) (order : Order) (n : ℕ) (one two : ℕ → ℕ) → SamePlay two one →
    WalkStands layout order n one → WalkStands layout order n two
same_walk layout order n one two same (GoesOn at is none place transpose repeat) =
    GoesOn at is none (same.order_place ∙ place) (same.transpose ∙ transpose) (same.repeat ∙ repeat)
same_walk layout order n one two same (Repeats kept at pattern place transpose repeat) =
    Repeats kept at (same_pattern layout order n one two same pattern) (same.order_place ∙ place)
    (same.transpose ∙ transpose) (same.repeat ∙ repeat)

-- ---- in the pattern

-- behind so many rows that are alike
record IsOver (rows : List Row) (place : ℕ) (left : List Row) : Type 0 where
  inside : place ≤ length rows
  left_is : drop place rows ≡ left

over : (rows : List Row) (row : Row) (count place : ℕ) (left : List Row) → place ≤ length rows →
    drop place rows ≡ replicate count row ++ left → IsOver rows (place + count) left
over rows row zero place left inside e =
    let same : place + 0 ≡ place = omega arith in
    rw same (record { inside = inside; left_is = e })
over rows row (suc count) place left inside e =
    let here = stands_there rows place row zero_row (replicate count row ++ left) e in
    let l = here.inside in
    let next : place + suc count ≡ place + 1 + count = omega arith in
    rw next (over rows row count (place + 1) left (omega (arith, l)) here.rest_is)

-- the voice goes on to its next row, or to the next play's first
pub moved_on : (count : ℕ) (w : Voice) → w.row + 1 < count → count ≤ 128 →
    row_moved count w ≡ record w { row = w.row + 1 }
moved_on count w inside few =
    let next : (w.row + 1) % 256 ≡ w.row + 1 = omega (arith, inside, few) in
    let test : nat_eq (w.row + 1) count ≡ false = ne_eqb (w.row + 1) count (λ e. omega (arith, e, inside)) in
    rw (next, test) refl

pub moved_out : (count : ℕ) (w : Voice) → w.row + 1 ≡ count → count ≤ 128 →
    row_moved count w ≡ record w { row = 0; plays = w.plays + 1 }
moved_out count w last few =
    let next : (w.row + 1) % 256 ≡ count = omega (arith, last, few) in
    let test : nat_eq count count ≡ true = eq-eqb count count refl in
    rw (next, test) refl

-- what stands of a play that the voice is in
pub record InPlay (layout : Layout) (order : Order) (n : ℕ) (own : ℕ → ℕ) : Type 0 where
  pub pattern : HasPattern layout (played order n) own
  pub transpose : own TRANSPOSE ≡ transpose_byte (played order n).transpose
  pub walk : WalkStands layout order (n + 1) own

-- Behind a row, with so many rests left and these entries, the voice stands in its song.
pub stands_behind : (layout : Layout) (look : LookUps) (packed : ℕ → List ℕ) (order : Order) (w : Voice)
    (rest : ℕ) (entries : List Entry) (own : ℕ → ℕ) → w.row < length (look.rows (played order w.plays).pattern) →
    length (look.rows (played order w.plays).pattern) ≤ 128 → own REST ≡ rest → InPlay layout order w.plays own →
    All IsEntry entries → NextOffset (packed (played order w.plays).pattern) entries (own OFFSET) →
    drop (w.row + 1) (look.rows (played order w.plays).pattern)
    ≡ replicate rest (row_with 0xBD 0 (last_command w)) ++ rows_from (last_command w) entries →
    SongStands layout look packed order (row_moved (length (look.rows (played order w.plays).pattern)) w) own
stands_behind layout look packed order w rest entries own inside few rest_is play each next left =
    by_rest rest refl next
  where
    rows : List Row
    rows = look.rows (played order w.plays).pattern

    behind : IsOver rows (w.row + 1 + rest) (rows_from (last_command w) entries)
    behind = over rows (row_with 0xBD 0 (last_command w)) rest (w.row + 1) (rows_from (last_command w) entries)
        (omega (arith, inside)) left

    -- the voice behind the row
    on : Voice
    on = record w { row = w.row + 1 }

    -- no entry is left, or one is
    last : entries ≡ [] → w.row + 1 + rest ≡ length rows
    last e =
        let none : length (drop (w.row + 1 + rest) rows) ≡ 0 =
        ap length (behind.left_is ∙ ap (rows_from (last_command w)) e) in
        let size = length-drop (w.row + 1 + rest) rows in
        let most = behind.inside in
        omega (arith, none, size, most)

    more : (entry : Entry) (others : List Entry) → entries ≡ entry ∷ others → w.row + 1 + rest < length rows
    more entry others e =
        (stands_there rows (w.row + 1 + rest) _ zero_row _ (behind.left_is ∙ ap (rows_from (last_command w)) e)).inside

    walked : (entry : Entry) (others : List Entry) → entries ≡ entry ∷ others → 2 ≤ own OFFSET →
        drop (own OFFSET - 1) (packed (played order w.plays).pattern) ≡ text_of entries →
        EntryIsNext layout look packed order on w.plays (w.row + 1 + rest) own
    walked entry others is from text =
        let test : nat_eq (own OFFSET) 1 ≡ false = ne_eqb (own OFFSET) 1 (λ e. omega (arith, e, from)) in
        let running : running_command on (own OFFSET) ≡ last_command w = rw test refl in
        Walked (omega (arith, from)) (λ e. absurd (omega (arith, e)), λ e. absurd (omega (arith, e, from))) play.pattern
        play.transpose play.walk (record {
          entry = entry;
          others = others;
          each = subst (All IsEntry) is each;
          text = text ∙ ap text_of is;
          left = behind.left_is ∙ (ap (rows_from (last_command w)) is ∙ ap (λ c. rows_from c (entry ∷ others))
              (sym running));
        })

    -- the rests that are left
    rests : AreRests rows on rest
    rests = record {
      begun = omega arith;
      inside = behind.inside;
      each = left ∙ ap
          (λ xs. replicate rest (row_with 0xBD 0 (last_command w)) ++ xs) (sym behind.left_is);
    }

    by_rest : (count : ℕ) → rest ≡ count → NextOffset (packed (played order w.plays).pattern) entries (own OFFSET) →
        SongStands layout look packed order (row_moved (length rows) w) own
    by_rest zero e (NoEntry none offset) =
        let end = last none in
        let moved = moved_out (length rows) w (omega (arith, end, e)) few in
        subst (λ u. SongStands layout look packed order u own) (sym moved)
        (AtEntry (rest_is ∙ e) (NotWalked offset refl play.walk))
    by_rest zero e (SomeEntry entry others is from text) =
        let l = more entry others is in
        let place : w.row + 1 + rest ≡ w.row + 1 = omega (arith, e) in
        let moved = moved_on (length rows) w (omega (arith, l)) few in
        subst (λ u. SongStands layout look packed order u own) (sym moved)
        (AtEntry (rest_is ∙ e)
        (subst (λ n. EntryIsNext layout look packed order on w.plays n own) place (walked entry others is from text)))
    by_rest (suc count) e (NoEntry none offset) =
        let end = last none in
        let moved = moved_on (length rows) w (omega (arith, end, e)) few in
        subst (λ u. SongStands layout look packed order u own) (sym moved)
        (InLastRun (λ zero. omega (arith, zero, rest_is, e)) (subst (AreRests rows on) (sym rest_is) rests)
        (omega (arith, end, rest_is)) (NotWalked offset refl play.walk))
    by_rest (suc count) e (SomeEntry entry others is from text) =
        let l = more entry others is in
        let moved = moved_on (length rows) w (omega (arith, l)) few in
        subst (λ u. SongStands layout look packed order u own) (sym moved)
        (InRun (λ zero. omega (arith, zero, rest_is, e)) (subst (AreRests rows on) (sym rest_is) rests)
        (omega (arith, l, rest_is))
        (subst (λ n. EntryIsNext layout look packed order on w.plays (w.row + 1 + n) own) (sym rest_is)
        (walked entry others is from text)))

-- the same, said of the voice before the row
pub stands_next : (layout : Layout) (look : LookUps) (packed : ℕ → List ℕ) (order : Order) (v w : Voice) (rest : ℕ)
    (entries : List Entry) (own : ℕ → ℕ) → w.row ≡ v.row → w.plays ≡ v.plays →
    v.row < length (look.rows (played order v.plays).pattern) →
    length (look.rows (played order v.plays).pattern) ≤ 128 → own REST ≡ rest → InPlay layout order v.plays own →
    All IsEntry entries → NextOffset (packed (played order v.plays).pattern) entries (own OFFSET) →
    drop (v.row + 1) (look.rows (played order v.plays).pattern)
    ≡ replicate rest (row_with 0xBD 0 (last_command w)) ++ rows_from (last_command w) entries →
    SongStands layout look packed order (row_moved (length (look.rows (played order v.plays).pattern)) w) own
stands_next layout look packed order v w rest entries own row plays inside few rest_is play each next left =
    subst (λ n. SongStands layout look packed order (row_moved (length (look.rows (played order n).pattern)) w) own)
    plays
    (stands_behind layout look packed order w rest entries own (rw (row, plays) inside) (rw plays few) rest_is
    (rw plays play) each (rw plays next) (rw (row, plays) left))

-- the move changes no byte's field
pub fields_moved : (holds : ℕ → Bool) (count : ℕ) (w : Voice) (tempo : ℕ) (own : ℕ → ℕ) → Fields holds w tempo own →
    Fields holds (row_moved count w) tempo own
fields_moved holds count w tempo own fields =
    cond_both (nat_eq ((w.row + 1) % 256) count) (record w { row = 0; plays = w.plays + 1 })
    (record w { row = (w.row + 1) % 256 }) (λ u. Fields holds u tempo own) (λ z. assumption fields)
    (λ z. assumption fields)
