-- The reader's walk stops at the fault that the rules of the format name.
use Rattle.std.proofs.Common.{◌≡◌, ℕ, zero, suc, ◌+◌, ◌*◌, ◌<◌, ◌≤◌, Bool, true, false, cond}
use Rattle.std.proofs.Common.{eqb, ltb, List, [], ◌∷◌, length, get_or, take, drop, Result, Ok, Err, refl, sym, ap}
use Rattle.std.proofs.Common.{◌∙◌, arith, add-one, inl, inr}
use Rattle.std.specs.List.{list_any}
use Rattle.std.proofs.lemmas.Bool.{cases_lt, cases_eq, lt-ltb, le-ltb, eq-eqb, ne_eqb, ltb-false}
use Rattle.std.proofs.lemmas.List.{length-drop, drop-drop}
use Rattle.song_model.specs.declared.rows.Row.{Row}
use Rattle.song_model.specs.declared.orders.Order.{Order}
use Rattle.song_model.specs.declared.songs.Song.{Song}
use Rattle.gts5.specs.declared.faults.SongFault.{SongFault}
use Rattle.gts5.specs.declared.faults.SongFault.TheVariants.{Truncated, OutOfLimit, BadOrder, BadRow}
use Rattle.gts5.specs.Faults.{◌>>=◌, offset_of, after_magic, after_bytes, after_each, after_counted, after_order}
use Rattle.gts5.specs.Faults.{after_table, row_of, has_ranges, after_rows, after_pattern, after_song, fault_in}
use Rattle.gts5.specs.Faults.{fault_of}
use Rattle.gts5.specs.Reading.{bytes_at, byte_at, count_at, each_at, texts_at, endmark_of, order_at, subtune_at}
use Rattle.gts5.specs.Reading.{subtunes_at, instrument_at, instruments_at, table_rows, table_at, tables_at, rows_of}
use Rattle.gts5.specs.Reading.{ends_at, cut_at, pattern_at, patterns_at, song_of}

-- what follows a piece, without what it gives
abbrev follows : {X : Type 0} → Result (X × List ℕ) SongFault → Result (List ℕ) SongFault
follows r = r >>= λ x. Ok x.1

abbrev given : {X : Type 0} → X → List ℕ → Result (X × List ℕ) SongFault
given x rest = Ok (x, rest)

-- a step that gives a value and one that doesn't go on alike
bind_follows : {X Y : Type 0} (r : Result (X × List ℕ) SongFault) (f : X × List ℕ → Result (Y × List ℕ) SongFault)
    (g : List ℕ → Result (List ℕ) SongFault) (after : Result (List ℕ) SongFault)
    → follows r ≡ after → ((x : X × List ℕ) → follows (f x) ≡ g x.1) → follows (r >>= f) ≡ (after >>= g)
bind_follows (Ok x) f g after same more = more x ∙ ap (λ (a : Result (List ℕ) SongFault). a >>= g) same
bind_follows (Err fault) f g after same more = ap (λ (a : Result (List ℕ) SongFault). a >>= g) same

-- the last step
last_follows : {X Y : Type 0} (r : Result (X × List ℕ) SongFault) (f : X → Y) (after : Result (List ℕ) SongFault) →
    follows r ≡ after → follows (r >>= λ x. Ok (f x.0, x.1)) ≡ after
last_follows (Ok x) f after same = same
last_follows (Err fault) f after same = same

-- ---- bytes

bytes_test : (b : Bool) (fault : SongFault) (text rest : List ℕ) →
    follows (cond b (Err fault) (Ok (text, rest))) ≡ cond b (Err fault) (Ok rest)
bytes_test true fault text rest = refl
bytes_test false fault text rest = refl

bytes_follow : (total n : ℕ) (bytes : List ℕ) → follows (bytes_at total n bytes) ≡ after_bytes total n bytes
unfolding bytes_at after_bytes
bytes_follow total n bytes = bytes_test (ltb (length bytes) n) (Truncated total) (take n bytes) (drop n bytes)

-- a run of bytes in two parts
two_runs : (total m n : ℕ) (bytes : List ℕ) →
    (after_bytes total m bytes >>= λ rest. after_bytes total n rest) ≡ after_bytes total (m + n) bytes
unfolding after_bytes
two_runs total m n bytes =
    elim (cases_lt (length bytes) m) [
      | inl short ↦ rw (lt-ltb (length bytes) m short, lt-ltb (length bytes) (m + n) (omega arith)) refl
      | inr long ↦
          elim (cases_lt (length bytes) (m + n)) [
            | inl short ↦ rw (
              le-ltb (length bytes) m long,
              lt-ltb (length bytes) (m + n) short,
              lt-ltb (length (drop m bytes)) n (omega (arith, length-drop m bytes)),
            ) refl
            | inr all ↦ rw (
              le-ltb (length bytes) m long,
              le-ltb (length bytes) (m + n) all,
              le-ltb (length (drop m bytes)) n (omega (arith, length-drop m bytes)),
              drop-drop n m bytes,
            ) refl
          ]
    ]

no_bytes : (total : ℕ) (bytes : List ℕ) → after_bytes total 0 bytes ≡ Ok bytes
unfolding after_bytes
no_bytes total bytes = rw (le-ltb (length bytes) 0 (omega arith)) refl

-- ---- counted pieces

counted_test : {X : Type 0} (b : Bool) (fault : SongFault) (n : ℕ) (rest : List ℕ)
    (f : ℕ → List ℕ → Result (List X × List ℕ) SongFault) (g : ℕ → List ℕ → Result (List ℕ) SongFault)
    → follows (f n rest) ≡ g n rest →
    follows (cond b (Err fault) (given n rest) >>= λ count. f count.0 count.1) ≡ cond b (Err fault) (g n rest)
counted_test true fault n rest f g same = refl
counted_test false fault n rest f g same = same

counted_follow : {X : Type 0} (total limit : ℕ) (bytes : List ℕ) (f : ℕ → List ℕ → Result (List X × List ℕ) SongFault)
    (g : ℕ → List ℕ → Result (List ℕ) SongFault)
    → ((n : ℕ) (rest : List ℕ) → follows (f n rest) ≡ g n rest) →
    follows (count_at total limit bytes >>= λ count. f count.0 count.1) ≡ after_counted total limit g bytes
unfolding count_at byte_at after_counted
counted_follow total limit [] f g same = refl
counted_follow total limit (n ∷ rest) f g same = counted_test (ltb limit n) (OutOfLimit (offset_of total (n ∷ rest))) n
    rest f g (same n rest)

each_follow : {X : Type 0} (one : List ℕ → Result (X × List ℕ) SongFault) (after : List ℕ → Result (List ℕ) SongFault) →
    ((bytes : List ℕ) → follows (one bytes) ≡ after bytes)
    → (n : ℕ) (bytes : List ℕ) → follows (each_at one n bytes) ≡ after_each after n bytes
each_follow one after same zero bytes = refl
each_follow one after same (suc n) bytes =
    bind_follows (one bytes) (λ first. each_at one n first.1 >>= λ others. Ok (first.0 ∷ others.0, others.1))
    (λ rest. after_each after n rest) (after bytes) (same bytes)
    (λ first. last_follows (each_at one n first.1) (λ others. first.0 ∷ others) (after_each after n first.1)
    (each_follow one after same n first.1))

-- ---- texts, instruments, tables

texts_follow : (total : ℕ) (bytes : List ℕ) → follows (texts_at total bytes) ≡ after_bytes total 96 bytes
unfolding texts_at
texts_follow total bytes =
    bind_follows (bytes_at total 32 bytes) _ (λ rest. after_bytes total 64 rest) (after_bytes total 32 bytes)
    (bytes_follow total 32 bytes)
    (λ name. bind_follows (bytes_at total 32 name.1) _ (λ rest. after_bytes total 32 rest) (after_bytes total 32 name.1)
    (bytes_follow total 32 name.1)
    (λ author. last_follows (bytes_at total 32 author.1)
    (λ copyright. record { name = name.0; author = author.0; copyright = copyright }) (after_bytes total 32 author.1)
    (bytes_follow total 32 author.1))
    ∙ two_runs total 32 32 name.1)
    ∙ two_runs total 32 64 bytes

instrument_follows : (total : ℕ) (bytes : List ℕ) → follows (instrument_at total bytes) ≡ after_bytes total 25 bytes
unfolding instrument_at
instrument_follows total bytes =
    bind_follows (bytes_at total 9 bytes) _ (λ rest. after_bytes total 16 rest) (after_bytes total 9 bytes)
    (bytes_follow total 9 bytes)
    (λ fields. last_follows (bytes_at total 16 fields.1) _ (after_bytes total 16 fields.1)
    (bytes_follow total 16 fields.1))
    ∙ two_runs total 9 16 bytes

runs_of_25 : (total k : ℕ) (bytes : List ℕ) →
    after_each (after_bytes total 25) k bytes ≡ after_bytes total (25 * k) bytes
runs_of_25 total zero bytes = sym (no_bytes total bytes)
runs_of_25 total (suc k) bytes =
    let count : 25 + 25 * k ≡ 25 * suc k = omega arith in
    ap (λ (go : List ℕ → Result (List ℕ) SongFault). after_bytes total 25 bytes >>= go)
    (λ i rest. runs_of_25 total k rest i) ∙ two_runs total 25 (25 * k) bytes ∙ ap (λ (n : ℕ). after_bytes total n bytes)
    count

instruments_follow : (total : ℕ) (bytes : List ℕ) →
    follows (instruments_at total bytes) ≡ after_counted total 63 (λ k. after_bytes total (25 * k)) bytes
unfolding instruments_at
instruments_follow total bytes =
    counted_follow total 63 bytes (each_at (instrument_at total)) (λ k. after_bytes total (25 * k))
    (λ k rest. each_follow (instrument_at total) (after_bytes total 25) (instrument_follows total) k rest
    ∙ runs_of_25 total k rest)

table_follows : (total : ℕ) (bytes : List ℕ) → follows (table_at total bytes) ≡ after_table total bytes
unfolding table_at byte_at after_table
table_follows total [] = refl
table_follows total (n ∷ rest) =
    let twice : n + n ≡ 2 * n = omega arith in
    bind_follows (bytes_at total n rest) _ (λ more. after_bytes total n more) (after_bytes total n rest)
    (bytes_follow total n rest)
    (λ lefts. last_follows (bytes_at total n lefts.1) (λ rights. table_rows lefts.0 rights)
    (after_bytes total n lefts.1) (bytes_follow total n lefts.1))
    ∙ two_runs total n n rest ∙ ap (λ (k : ℕ). after_bytes total k rest) twice

tables_follow : (total : ℕ) (bytes : List ℕ) → follows (tables_at total bytes) ≡ after_each (after_table total) 4 bytes
unfolding tables_at
tables_follow total bytes =
    bind_follows (table_at total bytes) _ (λ rest. after_each (after_table total) 3 rest) (after_table total bytes)
    (table_follows total bytes) (λ wave.
    bind_follows (table_at total wave.1) _ (λ rest. after_each (after_table total) 2 rest) (after_table total wave.1)
    (table_follows total wave.1) (λ pulse.
    bind_follows (table_at total pulse.1) _ (λ rest. after_each (after_table total) 1 rest) (after_table total pulse.1)
    (table_follows total pulse.1) (λ filter.
    bind_follows (table_at total filter.1) _ (λ rest. Ok rest) (after_table total filter.1)
    (table_follows total filter.1) (λ speed. refl))))

-- ---- orderlists

later : (e n : ℕ) → ltb (e + 1) (suc n) ≡ ltb e n
later e n =
    elim (cases_lt e n) [
      | inl lt ↦ lt-ltb (e + 1) (suc n) (omega arith) ∙ sym (lt-ltb e n lt)
      | inr le ↦ le-ltb (e + 1) (suc n) (omega arith) ∙ sym (le-ltb e n le)
    ]

-- the endmark of n + 1 bytes stands among the first n where one of those is $FF
endmark_among : (n : ℕ) (bytes : List ℕ) → n < length bytes →
    ltb (endmark_of (take (suc n) bytes)) n ≡ list_any (λ byte. eqb byte 255) (take n bytes)
endmark_among zero bytes long = le-ltb _ 0 (omega arith)
endmark_among (suc n) [] long = absurd (omega arith)
endmark_among (suc n) (x ∷ xs) long =
    elim (cases_eq x 255) [
      | inl e ↦ rw (eq-eqb x 255 e) (lt-ltb 0 (suc n) (omega arith))
      | inr d ↦ rw (ne_eqb x 255 d) (later (endmark_of (take (suc n) xs)) n ∙ endmark_among n xs (omega arith))
    ]

mark_test : (mark any : Bool) (fault : SongFault) (order : Order) (rest : List ℕ) → mark ≡ any →
    follows (cond mark (given order rest) (Err fault)) ≡ cond any (Ok rest) (Err fault)
mark_test true any fault order rest same = ap (λ (b : Bool). cond b (Ok rest) (Err fault)) same
mark_test false any fault order rest same = ap (λ (b : Bool). cond b (Ok rest) (Err fault)) same

order_test : (short any : Bool) (f g : SongFault) (mark : List ℕ → Bool) (cut : List ℕ → Order) (piece rest : List ℕ) →
    (short ≡ false → mark piece ≡ any)
    → follows (cond short (Err f) (given piece rest) >>= λ x. cond (mark x.0) (given (cut x.0) x.1) (Err g))
    ≡ (cond short (Err f) (Ok rest) >>= λ after. cond any (Ok after) (Err g))
order_test true any f g mark cut piece rest same = refl
order_test false any f g mark cut piece rest same = mark_test (mark piece) any g (cut piece) rest (same refl)

order_follows : (total : ℕ) (bytes : List ℕ) → follows (order_at total bytes) ≡ after_order total bytes
unfolding order_at byte_at bytes_at after_order after_bytes
order_follows total [] = refl
order_follows total (n ∷ rest) =
    order_test (ltb (length rest) (n + 1)) (list_any (λ byte. eqb byte 255) (take n rest)) (Truncated total)
    (BadOrder (offset_of total (n ∷ rest)))
    (λ piece. ltb (endmark_of piece) n)
    (λ piece. record { entries = take (endmark_of piece) piece; restart = get_or piece (endmark_of piece + 1) 0 })
    (take (n + 1) rest) (drop (n + 1) rest)
    (λ short. let long : n + 1 ≤ length rest = ltb-false _ _ short in rw add-one (endmark_among n rest (omega arith)))

subtune_follows : (total : ℕ) (bytes : List ℕ) →
    follows (subtune_at total bytes) ≡ after_each (after_order total) 3 bytes
unfolding subtune_at
subtune_follows total bytes =
    bind_follows (order_at total bytes) _ (λ rest. after_each (after_order total) 2 rest) (after_order total bytes)
    (order_follows total bytes) (λ one.
    bind_follows (order_at total one.1) _ (λ rest. after_each (after_order total) 1 rest) (after_order total one.1)
    (order_follows total one.1) (λ two.
    bind_follows (order_at total two.1) _ (λ rest. Ok rest) (after_order total two.1) (order_follows total two.1)
    (λ three. refl)))

subtunes_follow : (total : ℕ) (bytes : List ℕ) →
    follows (subtunes_at total bytes) ≡ after_counted total 32 (after_each (after_each (after_order total) 3)) bytes
unfolding subtunes_at
subtunes_follow total bytes =
    counted_follow total 32 bytes (each_at (subtune_at total)) (after_each (after_each (after_order total) 3))
    (each_follow (subtune_at total) (after_each (after_order total) 3) (subtune_follows total))

-- ---- patterns

abbrev keep : Result (List Row) SongFault → List ℕ → Result (List ℕ) SongFault
keep r after = r >>= λ rows. Ok after

row_test : (marked first full ranged : Bool) (f g h : SongFault) (next : Result (List Row) SongFault) (row : Row)
    (after : List ℕ) →
    keep (cond marked (cond first (Err f) (Ok true)) (cond full (Err g) (cond ranged (Ok false) (Err h))) >>= λ ends.
    cond ends (Ok []) (next >>= λ others. Ok (row ∷ others))) after
    ≡ cond marked (cond first (Err f) (Ok after)) (cond full (Err g) (cond ranged (keep next after) (Err h)))
row_test true true full ranged f g h next row after = refl
row_test true false full ranged f g h next row after = refl
row_test false first true ranged f g h next row after = refl
row_test false first false true f g h (Ok rows) row after = refl
row_test false first false true f g h (Err fault) row after = refl
row_test false first false false f g h next row after = refl

rows_follow : (at i m : ℕ) (piece after : List ℕ) →
    keep (cut_at at i (rows_of m piece)) after ≡ after_rows at i m piece after
unfolding ends_at
rows_follow at i zero piece after = refl
rows_follow at i (suc m) piece after =
    row_test (eqb (row_of piece).note 255) (eqb i 0) (eqb i 128) (has_ranges (row_of piece)) (BadRow (at + 1))
    (OutOfLimit at) (BadRow (at + 1 + 4 * i)) (cut_at at (i + 1) (rows_of m (drop 4 piece))) (row_of piece) after
    ∙ ap (λ (next : Result (List ℕ) SongFault). cond (eqb (row_of piece).note 255)
    (cond (eqb i 0) (Err (BadRow (at + 1))) (Ok after))
    (cond (eqb i 128) (Err (OutOfLimit at)) (cond (has_ranges (row_of piece)) next (Err (BadRow (at + 1 + 4 * i))))))
    (rows_follow at (i + 1) m (drop 4 piece) after)

rows_kept : (r : Result (List Row) SongFault) (rest : List ℕ) → follows (r >>= λ rows. Ok (rows, rest)) ≡ keep r rest
rows_kept (Ok rows) rest = refl
rows_kept (Err fault) rest = refl

pattern_test : (short : Bool) (fault : SongFault) (piece rest : List ℕ) (f : List ℕ → Result (List Row) SongFault)
    (g : List ℕ → Result (List ℕ) SongFault) → keep (f piece) rest ≡ g rest
    → follows (cond short (Err fault) (given piece rest) >>= λ x. f x.0 >>= λ rows. Ok (rows, x.1))
    ≡ (cond short (Err fault) (Ok rest) >>= g)
pattern_test true fault piece rest f g same = refl
pattern_test false fault piece rest f g same = rows_kept (f piece) rest ∙ same

pattern_follows : (total : ℕ) (bytes : List ℕ) → follows (pattern_at total bytes) ≡ after_pattern total bytes
unfolding pattern_at byte_at bytes_at after_pattern after_bytes
pattern_follows total [] = refl
pattern_follows total (m ∷ rest) =
    let at = offset_of total (m ∷ rest) in
    pattern_test (ltb (length rest) (4 * m)) (Truncated total) (take (4 * m) rest) (drop (4 * m) rest)
    (λ piece. cut_at at 0 (rows_of m piece)) (λ after. after_rows at 0 m (take (4 * m) rest) after)
    (rows_follow at 0 m (take (4 * m) rest) (drop (4 * m) rest))

patterns_follow : (total : ℕ) (bytes : List ℕ) →
    follows (patterns_at total bytes) ≡ after_counted total 208 (after_each (after_pattern total)) bytes
unfolding patterns_at
patterns_follow total bytes =
    counted_follow total 208 bytes (each_at (pattern_at total)) (after_each (after_pattern total))
    (each_follow (pattern_at total) (after_pattern total) (pattern_follows total))

-- ---- the song

bind_fault : {X Y : Type 0} (r : Result (X × List ℕ) SongFault) (f : X × List ℕ → Result Y SongFault)
    (g : List ℕ → Result (List ℕ) SongFault) (after : Result (List ℕ) SongFault)
    → follows r ≡ after → ((x : X × List ℕ) → fault_in (g x.1) ≡ fault_in (f x)) →
    fault_in (after >>= g) ≡ fault_in (r >>= f)
bind_fault (Ok x) f g after same more = ap (λ (a : Result (List ℕ) SongFault). fault_in (a >>= g)) (sym same) ∙ more x
bind_fault (Err fault) f g after same more = ap (λ (a : Result (List ℕ) SongFault). fault_in (a >>= g)) (sym same)

magic_fault : (r : Result (List ℕ) SongFault) (f : List ℕ → Result Song SongFault)
    (g : List ℕ → Result (List ℕ) SongFault) → ((x : List ℕ) → fault_in (g x) ≡ fault_in (f x)) →
    fault_in (r >>= g) ≡ fault_in (r >>= f)
magic_fault (Ok x) f g more = more x
magic_fault (Err fault) f g more = refl

last_fault : {X Y : Type 0} (r : Result (X × List ℕ) SongFault) (f : X × List ℕ → Y)
    (after : Result (List ℕ) SongFault) → follows r ≡ after → fault_in after ≡ fault_in (r >>= λ x. Ok (f x))
last_fault (Ok x) f after same = ap fault_in (sym same)
last_fault (Err fault) f after same = ap fault_in (sym same)

pub same_fault : (bytes : List ℕ) → fault_of bytes ≡ fault_in (song_of bytes)
unfolding fault_of after_song song_of
same_fault bytes =
    let total = length bytes in
    magic_fault (after_magic bytes) _ _ (λ a.
    bind_fault (texts_at total a) _ _ (after_bytes total 96 a) (texts_follow total a) (λ texts.
    bind_fault (subtunes_at total texts.1) _ _
    (after_counted total 32 (after_each (after_each (after_order total) 3)) texts.1) (subtunes_follow total texts.1)
    (λ subtunes.
    bind_fault (instruments_at total subtunes.1) _ _
    (after_counted total 63 (λ k. after_bytes total (25 * k)) subtunes.1) (instruments_follow total subtunes.1)
    (λ instruments.
    bind_fault (tables_at total instruments.1) _ _ (after_each (after_table total) 4 instruments.1)
    (tables_follow total instruments.1) (λ tables.
    last_fault (patterns_at total tables.1) _ (after_counted total 208 (after_each (after_pattern total)) tables.1)
    (patterns_follow total tables.1))))))
