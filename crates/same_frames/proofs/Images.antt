-- A song whose rows another song has under new numbers: what the other song comes to from them is what the song comes to.
use Rattle.std.specs.Prelude.{◌==◌}
use Rattle.std.proofs.Common.{◌≡◌, ◌≢◌, ℕ, ◌+◌, ◌<◌, ◌≤◌, true, false, List, map, drop}
use Rattle.std.proofs.Common.{Contains, refl, sym, ◌∙◌, ap, subst, inl, inr}
use Rattle.std.specs.Prelude.{Option, Some, None, slice_get}
use Rattle.std.specs.List.{Any}
use Rattle.std.specs.Option.{unwrap_or}
use Rattle.std.proofs.lemmas.Bool.{cases_eq, cases_Bool, eqb-true, eq-eqb, ne_eqb, lt-ltb, le-ltb}
use Rattle.std.proofs.lemmas.List.{length-map, get_or-map, drop-map}
use Rattle.std.proofs.lemmas.List.Elements.{All-drop, All-map, All-weaker, All-contains, All-contains_itself}
use Rattle.std.proofs.lemmas.Option.{slice_get_within, get_or_from_slice_get}
use Rattle.base.proofs.Laws.{filter_keeps}
use Rattle.song_model.specs.declared.orders.Order.{Order}
use Rattle.song_model.specs.declared.orders.Subtune.{Subtune}
use Rattle.song_model.specs.declared.tables.TableRow.{TableRow}
use Rattle.song_model.specs.declared.tables.TableName.{TableName}
use Rattle.song_model.specs.declared.tables.TableName.TheVariants.{Wave, Pulse, Filter, Speed}
use Rattle.song_model.specs.declared.songs.Song.{Song}
use Rattle.song_model.specs.Endless.{IsPatternByte, IsEndless}
use Rattle.song_model.specs.LookUp.{IsNumbered, table_of, table_row, order_of, is_playable_subtune}
use Rattle.song_model.specs.Pointers.{wave_row_table}
use Rattle.play_model.specs.LookUps.{look_ups_of}
use Rattle.play_model.specs.Used.{IsPlayedOrder}
use Rattle.play_model.specs.Reached.{is_jump, is_last, row_led_to, led_to, IsWaveRowPointer, IsReached, led, IsPointer, IsStep}
use Rattle.play_model.specs.Playable.{HasOrder, HasPrograms, IsJumpTarget, IsPlayable}
use Rattle.play_model.proofs.Laws.{whole_lem, led_by, no_speed_led}
use Rattle.same_frames.specs.Maps.{Maps, moved_pointer, moved_row}
use Rattle.same_frames.specs.Agreement.{Agrees}
use Rattle.same_frames.specs.OrderLaws.{moved_byte, moved_order, moved_subtune}

-- the other song has the rows that a playable song comes to
pub record IsUnder (maps : Maps) (song other : Song) : Type 0 where
  pub playable : IsPlayable song
  pub agrees : Agrees maps song (look_ups_of other)
  pub row : (name : TableName) (p : ℕ) → IsReached song name p → IsNumbered (table_of other name) (maps.row name p)

-- a number that stands for one with this property
pub record StandsForOne (map : ℕ → ℕ) (IsSuch : ℕ → Type 0) (n : ℕ) : Type 0 where
  pub old : ℕ
  pub is_such : IsSuch old
  pub new : map old ≡ n

-- ---- items that a function has made

pub record IsImage {X Y : Type 0} (f : X → Y) (xs : List X) (y : Y) : Type 0 where
  pub from : X
  pub has : Contains xs from
  pub is : f from ≡ y

pub image_of : {X Y : Type 0} (f : X → Y) (xs : List X) (y : Y) → Contains (map f xs) y → IsImage f xs y
image_of f xs y has =
    All-contains (IsImage f xs) (map f xs) y
    (All-map (IsImage f xs) f xs
    (All-weaker (Contains xs) (λ x. IsImage f xs (f x)) (λ x there. record { from = x; has = there; is = refl }) xs
    (All-contains_itself xs))) has

-- ---- orderlists

-- an orderlist with new numbers goes on for ever too
pub endless_moved : (maps : Maps) (order : Order) → IsEndless order →
    ((byte : ℕ) → Contains order.entries byte → IsPatternByte byte → IsPatternByte (maps.pattern byte)) →
    IsEndless (moved_order maps order)
endless_moved maps order endless keeps = record {
  restart = subst (λ (n : ℕ). order.restart < n) (sym (length-map order.entries (moved_byte maps))) endless.restart;
  pattern = subst (Any IsPatternByte) (sym (drop-map (moved_byte maps) order.restart order.entries))
      (moved_any (drop order.restart order.entries) endless.pattern
      (λ byte has. All-contains (Contains order.entries) (drop order.restart order.entries) byte
      (All-drop (Contains order.entries) order.restart order.entries (All-contains_itself order.entries)) has));
}
  where
    moved_low : (byte : ℕ) → byte < 0xD0 → IsPatternByte (maps.pattern byte) → IsPatternByte (moved_byte maps byte)
    moved_low byte low small = let e = lt-ltb byte 0xD0 low in rw e small

    moved_any : (bytes : List ℕ) → Any IsPatternByte bytes →
        ((byte : ℕ) → Contains bytes byte → Contains order.entries byte) →
        Any IsPatternByte (map (moved_byte maps) bytes)
    moved_any bytes (k, byte, inside, is, low) within = (
      k,
      moved_byte maps byte,
      subst (λ (n : ℕ). k < n) (sym (length-map bytes (moved_byte maps))) inside,
      get_or-map (moved_byte maps) bytes k byte (moved_byte maps byte) inside ∙ ap (moved_byte maps) is,
      moved_low byte low (keeps byte (within byte (k, inside, is)) low),
    )

pub channel_moved : (maps : Maps) (subtune : Subtune) (channel : ℕ) →
    order_of channel (moved_subtune maps subtune) ≡ moved_order maps (order_of channel subtune)
channel_moved maps subtune channel = by_first (channel == 1) refl
  where
    by_second : (b : _) → (channel == 2) ≡ b → (channel == 1) ≡ false →
        order_of channel (moved_subtune maps subtune) ≡ moved_order maps (order_of channel subtune)
    by_second true e f = rw (f, e) refl
    by_second false e f = rw (f, e) refl

    by_first : (b : _) → (channel == 1) ≡ b →
        order_of channel (moved_subtune maps subtune) ≡ moved_order maps (order_of channel subtune)
    by_first true e = rw e refl
    by_first false e = by_second (channel == 2) refl e

pub low_byte : (maps : Maps) (byte : ℕ) → byte < 0xD0 → moved_byte maps byte ≡ maps.pattern byte
low_byte maps byte low = let e = lt-ltb byte 0xD0 low in rw e refl

pub high_byte : (maps : Maps) (byte : ℕ) → 0xD0 ≤ byte → moved_byte maps byte ≡ byte
high_byte maps byte high = let e = le-ltb byte 0xD0 high in rw e refl

-- a stored orderlist of a playable subtune is played
pub is_there : {X : Type 0} (xs : List X) (i : ℕ) (x : X) → slice_get xs i ≡ Some x → Contains xs x
is_there xs i x is = (i, slice_get_within xs i x is, get_or_from_slice_get xs i x x is)

pub stored_is_played : (song : Song) (s c : ℕ) (order : Order) → HasOrder song s c order → IsPlayedOrder song order
stored_is_played song s c order has = record {
  subtune = has.subtune;
  playable = filter_keeps is_playable_subtune song.subtunes has.subtune
      (is_there song.subtunes _ has.subtune has.subtune_is) has.playable;
  channel = c;
  is_channel = has.is_channel;
  order_is = has.order_is;
}

-- ---- pointers

pub old_some : (maps : Maps) (song other : Song) (name : TableName) → IsUnder maps song other → (p n : ℕ) →
    maps.row name p ≡ n → n ≢ 0 → p ≢ 0
old_some maps song other name m p n is some none = some
    (sym is ∙ ap (maps.row name) none ∙ (m.agrees.rows name).nothing)

-- ---- reached rows

-- the row of the other song under a number that stands for a reached row
pub row_under : (maps : Maps) (song other : Song) → IsUnder maps song other → (name : TableName) (q : ℕ) →
    (from : StandsForOne (maps.row name) (IsReached song name) q) →
    table_row other name q ≡ moved_row maps name (table_row song name from.old)
row_under maps song other m name q from =
    ap (table_row other name) (sym from.new) ∙ (m.agrees.rows name).row from.old from.is_such

wave_pointer_goes : (maps : Maps) (row : TableRow) (name : TableName) → wave_row_table row.left ≡ Some name →
    (moved_row maps Wave row).right ≡ maps.row name row.right
wave_pointer_goes maps row name is = elim (cases_Bool (row.left == 0xFF)) [
  | inl jump ↦ (
      let e : row.left ≡ 0xFF = eqb-true row.left 0xFF jump in
      let f : wave_row_table 0xFF ≡ Some name = subst (λ (left : ℕ). wave_row_table left ≡ Some name) e is in
      absurd cc)
  | inr goes ↦ rw goes (ap (λ t. moved_pointer maps t row.right) is)
]

pub wave_pointer_from : (maps : Maps) (song other : Song) → IsUnder maps song other → (name : TableName) (r p : ℕ) →
    (from : StandsForOne (maps.row Wave) (IsReached song Wave) r) → IsWaveRowPointer other r name p →
    StandsForOne (maps.row name) (IsWaveRowPointer song from.old name) p
wave_pointer_from maps song other m name r p from pointer =
    let here = row_under maps song other m Wave r from in
    let row = table_row song Wave from.old in
    let table : wave_row_table row.left ≡ Some name =
    ap (λ (x : TableRow). wave_row_table x.left) (sym here) ∙ pointer.table in
    let new : maps.row name row.right ≡ p =
    sym (wave_pointer_goes maps row name table) ∙ ap (λ (x : TableRow). x.right) (sym here) ∙ pointer.right in
    record {
      old = row.right;
      is_such = record {
        table = table;
        right = refl;
        some = old_some maps song other name m row.right p new pointer.some;
      };
      new = new;
    }

-- ---- where programs go on

-- new numbers leave the left side
pub same_jump : (maps : Maps) (name : TableName) (row : TableRow) →
    is_jump name (moved_row maps name row) ≡ is_jump name row
same_jump maps Wave row = refl
same_jump maps Pulse row = refl
same_jump maps Filter row = refl
same_jump maps Speed row = refl

same_last : (maps : Maps) (name : TableName) (row : TableRow) →
    is_last name (moved_row maps name row) ≡ is_last name row
same_last maps Wave row = refl
same_last maps Pulse row = refl
same_last maps Filter row = refl
same_last maps Speed row = refl

some_same : {X : Type 0} {x y : X} → Some x ≡ Some y → x ≡ y
some_same {X} {x} {y} e = ap (λ (o : Option X). unwrap_or o x) e

record JumpsTo (row : TableRow) (q : ℕ) : Type 0 where
  some : row.right ≢ 0
  is : row.right ≡ q

jumps_to : (name : TableName) (row : TableRow) (p q : ℕ) → is_jump name row ≡ true → row_led_to name row p ≡ Some q →
    JumpsTo row q
jumps_to name row p q jump is = elim (cases_eq row.right 0) [
  | inl none ↦ absurd
      (let e : None ≡ Some q = sym (rw jump (let f = eq-eqb row.right 0 none in rw f refl)) ∙ is in cc)
  | inr some ↦ record {
    some = some;
    is = let f = ne_eqb row.right 0 some in let e : Some row.right ≡ Some q = sym (rw jump (rw f refl))
        ∙ is in some_same e;
  }
]

jump_leads : (name : TableName) (row : TableRow) (p : ℕ) → is_jump name row ≡ true → row.right ≢ 0 →
    row_led_to name row p ≡ Some row.right
jump_leads name row p jump some = let f = ne_eqb row.right 0 some in rw jump (rw f refl)

record StepsTo (name : TableName) (row : TableRow) (p q : ℕ) : Type 0 where
  more : is_last name row ≡ false
  is : p + 1 ≡ q

steps_to : (name : TableName) (row : TableRow) (p q : ℕ) → is_jump name row ≡ false → row_led_to name row p ≡ Some q →
    StepsTo name row p q
steps_to name row p q no_jump is = elim (cases_Bool (is_last name row)) [
  | inl last ↦ absurd (let e : None ≡ Some q = sym (rw no_jump (rw last refl)) ∙ is in cc)
  | inr more ↦ record {
    more = more;
    is = let e : Some (p + 1) ≡ Some q = sym (rw no_jump (rw more refl)) ∙ is in some_same e;
  }
]

step_leads : (name : TableName) (row : TableRow) (p : ℕ) → is_jump name row ≡ false → is_last name row ≡ false →
    row_led_to name row p ≡ Some (p + 1)
step_leads name row p no_jump more = rw no_jump (rw more refl)

pub jump_right : (maps : Maps) (name : TableName) (row : TableRow) → is_jump name row ≡ true →
    (moved_row maps name row).right ≡ maps.row name row.right
jump_right maps name row jump = rw jump refl

led_on : (maps : Maps) (song other : Song) → IsUnder maps song other → (name : TableName) (p q : ℕ) →
    HasPrograms name → (from : StandsForOne (maps.row name) (IsReached song name) p) →
    row_led_to name (table_row other name p) p ≡ Some q → StandsForOne (maps.row name) (IsReached song name) q
led_on maps song other m name p q programs from is =
    let row = table_row song name from.old in
    let here = (whole_lem song m.playable).row name from.old programs from.is_such in
    let goes = λ (n : ℕ) (e : row_led_to name row from.old ≡ Some n).
    led from.old from.is_such (led_by song name from.old here.first here.last ∙ e) in
    let there : row_led_to name (moved_row maps name row) p ≡ Some q =
    ap (λ (x : TableRow). row_led_to name x p) (sym (row_under maps song other m name p from)) ∙ is in
    elim (cases_Bool (is_jump name row)) [
      | inl jump ↦ (
          let to = jumps_to name (moved_row maps name row) p q (same_jump maps name row ∙ jump) there in
          let new : maps.row name row.right ≡ q = sym (jump_right maps name row jump) ∙ to.is in
          let some = old_some maps song other name m row.right q new (λ z. to.some (to.is ∙ z)) in
          record { old = row.right; is_such = goes row.right (jump_leads name row from.old jump some); new = new })
      | inr no_jump ↦ (
          let to = steps_to name (moved_row maps name row) p q (same_jump maps name row ∙ no_jump) there in
          let more : is_last name row ≡ false = sym (same_last maps name row) ∙ to.more in
          record {
            old = from.old + 1;
            is_such = goes (from.old + 1) (step_leads name row from.old no_jump more);
            new = (m.agrees.programs name programs).next from.old from.is_such no_jump more
                ∙ ap (λ (n : ℕ). n + 1) from.new ∙ to.is;
          })
    ]

leading_programs : (name : TableName) (rows : List TableRow) (p q : ℕ) → led_to name rows p ≡ Some q → HasPrograms name
leading_programs Wave rows p q is = λ e. cc
leading_programs Pulse rows p q is = λ e. cc
leading_programs Filter rows p q is = λ e. cc
leading_programs Speed rows p q is = absurd (no_speed_led rows p q is)

-- a row that a program of the other song goes on to
pub led_from : (maps : Maps) (song other : Song) → IsUnder maps song other → (name : TableName) (r p : ℕ) →
    StandsForOne (maps.row name) (IsReached song name) r → led_to name (table_of other name) r ≡ Some p →
    StandsForOne (maps.row name) (IsReached song name) p
led_from maps song other m name r p at goes =
    let there : IsNumbered (table_of other name) r =
    subst (IsNumbered (table_of other name)) at.new (m.row name at.old at.is_such) in
    led_on maps song other m name r p (leading_programs name (table_of other name) r p goes) at
    (sym (led_by other name r there.first there.last) ∙ goes)

-- ---- what is named is no jump

pub target_from : (maps : Maps) (song other : Song) → IsUnder maps song other → (name : TableName) (row : ℕ) →
    (target : IsJumpTarget other name row) → StandsForOne (maps.row name) (IsReached song name) target.p →
    StandsForOne (maps.row name) (IsStep song name) row
target_from maps song other m name row target from =
    let at = table_row song name from.old in
    let there = row_under maps song other m name target.p from in
    let jump : is_jump name at ≡ true =
    sym (same_jump maps name at) ∙ sym (ap (is_jump name) there) ∙ target.jump in
    let new : maps.row name at.right ≡ row =
    sym (jump_right maps name at jump) ∙ sym (ap (λ (r : TableRow). r.right) there) ∙ target.target in
    let is : IsJumpTarget song name at.right = record {
      p = from.old;
      reached = from.is_such;
      jump = jump;
      target = refl;
      some = old_some maps song other name m at.right row new target.some;
    } in
    record { old = at.right; is_such = (whole_lem song m.playable).target name at.right is; new = new }

pub step_from : (maps : Maps) (song other : Song) → IsUnder maps song other → (name : TableName) (row : ℕ) →
    StandsForOne (maps.row name) (IsPointer song name) row → StandsForOne (maps.row name) (IsStep song name) row
step_from maps song other m name row from = record {
  old = from.old;
  is_such = (whole_lem song m.playable).pointer name from.old from.is_such;
  new = from.new;
}

pub no_jump_there : (maps : Maps) (song other : Song) → IsUnder maps song other → (name : TableName) (row : ℕ) →
    StandsForOne (maps.row name) (IsStep song name) row → is_jump name (table_row other name row) ≡ false
no_jump_there maps song other m name row at =
    ap (is_jump name)
    (row_under maps song other m name row
    (record { old = at.old; is_such = at.is_such.reached; new = at.new }))
    ∙ same_jump maps name (table_row song name at.old) ∙ at.is_such.no_jump

pub row_there : (maps : Maps) (song other : Song) → IsUnder maps song other → (name : TableName) (row : ℕ) →
    StandsForOne (maps.row name) (IsReached song name) row → IsNumbered (table_of other name) row
row_there maps song other m name row from =
    subst (IsNumbered (table_of other name)) from.new (m.row name from.old from.is_such)
