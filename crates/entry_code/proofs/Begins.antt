-- An entry is begun: the command that runs on, the pointer, the instrument.
use Rattle.std.proofs.Common.{◌≡◌, ◌≢◌, ◌↔◌, ℕ, zero, suc, ◌+◌, ◌-◌, ◌*◌, ◌/◌}
use Rattle.std.proofs.Common.{◌%◌, ◌<◌, ◌≤◌, ◌&&◌, Bool, true, false}
use Rattle.std.proofs.Common.{nat_eq}
use Rattle.std.proofs.Common.{if◌then◌else◌, List, ◌∷◌, ◌++◌, drop, refl, sym, ap, ◌∙◌, subst, arith}
use Rattle.std.proofs.lemmas.Bool.{leb-true, leb-false, not-true, not-false, both_ways, eq-eqb, ne_eqb}
use Rattle.std.proofs.lemmas.List.Elements.{All-head, All-tail}
use Rattle.code_runs.specs.Runs.{put}
use Rattle.song_model.specs.declared.rows.Row.{Row}
use Rattle.play_model.specs.State.{Voice, Playing}
use Rattle.play_model.specs.TickStep.{tempo_of}
use Rattle.play_model.specs.Frame.{is_between_patterns}
use Rattle.packed_form.specs.declared.entries.EntryKind.{EntryKind}
use Rattle.packed_form.specs.declared.entries.EntryKind.TheVariants.{NamedNote, NamedRest, Note, Rests}
use Rattle.packed_form.specs.declared.entries.Entry.{Entry}
use Rattle.packed_form.specs.Entries.{IsEntry, no_command}
use Rattle.packed_form.specs.PackedSpells.{text_of}
use Rattle.scopes.specs.Trees.{Tree, NoneTree}
use Rattle.player_memory.specs.declared.conditions.TheConstants.{SKIP_FIRST, ROW_COMMAND}
use Rattle.player_memory.specs.declared.labels.TheConstants.{REST, OFFSET, PATTERN_LOW, PATTERN_HIGH}
use Rattle.player_memory.specs.declared.labels.TheConstants.{TICK, NEW_COMMAND, NEW_PARAM, KEPT_PARAM, TEMPO}
use Rattle.player_memory.specs.Fetching.{AreHalves, EntriesStand, last_command, running_command}
use Rattle.player_desk.proofs.Laws.{VoiceDesk, Reader, Ways, Fields, Shared, Leads, Reads, done_as, in_scope, body_of}
use Rattle.player_desk.proofs.Laws.{rest_of, joined, goes_on, loaded, compared_is, over_is}
use Rattle.player_text.specs.declared.fetch.TheConstants.{RUNNING_ON, LATER, OLD}
use Rattle.entry_code.proofs.Texts.{stands_there, kind_first, kind_others, kind_from, text_with, text_without}
use Rattle.entry_code.proofs.Texts.{text_begins, Begun, first_same, rest_same}
use Rattle.player_desk.proofs.Laws.{around_on, Around}
use Rattle.entry_code.proofs.Takes.{take_tree, PatternAt, SamePlay, Taking, IsBefore, IsByte, takes}
use Rattle.player_desk.proofs.Laws.{at_pointer}
use Rattle.entry_code.proofs.Takes.{next_byte}
use Rattle.entry_code.proofs.LastBytes.{first_of, behind}
use Rattle.entry_code.proofs.Readings.{taken}

-- ---- where it begins

-- the voice's row is fetched: its entry is the one that Y names
pub record AtFetch (r : Reader) (s : Playing) (place : ℕ) (bytes : List ℕ) (rows : List Row) (d : VoiceDesk)
    : Type 0 where
  pub fields : Fields r.layout.holds s.voice (tempo_of (r.voice + 1) s.common) d.own
  pub rest_is : d.own REST ≡ 0
  pub around : Around r s d d
  pub pattern : AreHalves (d.own PATTERN_LOW) (d.own PATTERN_HIGH) place
  pub y : d.y ≡ d.own OFFSET
  pub some : 1 ≤ d.own OFFSET
  pub first : s.voice.row ≡ 0 ↔ d.own OFFSET ≡ 1
  pub entries : EntriesStand bytes rows (running_command s.voice (d.own OFFSET)) s.voice.row (d.own OFFSET)

-- the command that runs on stands
record AtRunning (r : Reader) (s : Playing) (d m : VoiceDesk) : Type 0 where
  fields : Fields r.layout.holds (taken 0 (running_command s.voice (d.own OFFSET)) s.voice)
      (tempo_of (r.voice + 1) s.common) m.own
  rest_is : m.own REST ≡ 0
  play : SamePlay m.own d.own
  around : Around r s d m
  marked : r.layout.holds SKIP_FIRST ≡ true → nat_eq (m.shared KEPT_PARAM) 0 ≡ is_between_patterns s.voice
  y : m.y ≡ d.own OFFSET

-- A is the entry's first byte behind its instrument's
pub record AtKind (r : Reader) (s : Playing) (d : VoiceDesk) (place : ℕ) (bytes : List ℕ) (entry : Entry)
    (left : List ℕ) (m : VoiceDesk) : Type 0 where
  pub taking : Taking r s d place (taken entry.instrument (running_command s.voice (d.own OFFSET)) s.voice) 0 m
  pub is : IsByte bytes (kind_first entry.kind) (kind_others entry.kind ++ left) m

-- ---- the command that runs on

-- another byte is stored
tempos_kept : (voice label byte : ℕ) (shared tempo : ℕ → ℕ) → nat_eq TEMPO label ≡ false →
    nat_eq (TEMPO + 7) label ≡ false → nat_eq (TEMPO + 14) label ≡ false →
    ((its : ℕ) → its < 3 → its ≢ voice → shared (TEMPO + 7 * its) ≡ tempo its) → (its : ℕ) → its < 3 →
    its ≢ voice →
    put shared label byte (TEMPO + 7 * its) ≡ tempo its
tempos_kept voice label byte shared tempo one two three kept zero l other = rw one (kept 0 l other)
tempos_kept voice label byte shared tempo one two three kept (suc zero) l other = rw two (kept 1 l other)
tempos_kept voice label byte shared tempo one two three kept (suc (suc zero)) l other = rw three (kept 2 l other)
tempos_kept voice label byte shared tempo one two three kept (suc (suc (suc its))) l other = absurd (omega (arith, l))

-- a mark is set
marks : (r : Reader) (s : Playing) (d m : VoiceDesk) (byte : ℕ) (n : VoiceDesk) →
    n.shared ≡ put m.shared KEPT_PARAM byte → n.sid ≡ m.sid → Around r s d m → Around r s d n
marks r s d m byte n shared sid at =
    let common : Shared r.layout.holds s.common (put m.shared KEPT_PARAM byte) = assumption at.common in record {
      common = rw shared common;
      tempos = rw shared
          (tempos_kept r.voice KEPT_PARAM byte m.shared (λ its. tempo_of (its + 1) s.common) refl refl refl at.tempos);
      none_lent = rw shared at.none_lent;
      sid = sid ∙ at.sid;
    }

and_first : (b : Bool) → (b && true) ≡ b
and_first true = refl
and_first false = refl

and_none : (b : Bool) → (b && false) ≡ false
and_none true = refl
and_none false = refl

-- whether the voice is between two patterns: at its first row, and at another
at_first : (v : Voice) → v.row ≡ 0 → nat_eq v.tick 0 ≡ is_between_patterns v
at_first v row =
    let z : nat_eq v.row 0 ≡ true = eq-eqb v.row 0 row in
    rw z (sym (and_first (nat_eq v.tick 0)))

at_other : (v : Voice) → v.row ≢ 0 → false ≡ is_between_patterns v
at_other v row =
    let z : nat_eq v.row 0 ≡ false = ne_eqb v.row 0 row in
    rw z (sym (and_none (nat_eq v.tick 0)))

same : {one two : ℕ → ℕ} → one ≡ two → SamePlay one two
same e = rw e (record {
  pattern_low = refl;
  pattern_high = refl;
  order_low = refl;
  order_high = refl;
  order_place = refl;
  transpose = refl;
  repeat = refl;
})

-- what is remembered of the row stands: whether it is a pattern's first at tick 0
record AtMarked (r : Reader) (s : Playing) (d m : VoiceDesk) : Type 0 where
  own : m.own ≡ d.own
  around : Around r s d m
  marked : r.layout.holds SKIP_FIRST ≡ true → nat_eq (m.shared KEPT_PARAM) 0 ≡ is_between_patterns s.voice
  y : m.y ≡ d.own OFFSET

mark_leads : (r : Reader) (s : Playing) (place : ℕ) (bytes : List ℕ) (rows : List Row) (ways : Ways) (d : VoiceDesk) →
    AtFetch r s place bytes rows d → d.own OFFSET < 256 →
    Leads r (first_of take_tree) (done_as (AtMarked r s d) ways) d
mark_leads r s place bytes rows ways d at few = (
  λ kept.
      joined true r LATER (body_of LATER take_tree) NoneTree (AtMarked r s d) (done_as (AtMarked r s d) ways) d (
        λ other.
            let isnt : d.y ≢ 1 = over_is d.y 1 (omega arith) (not-true _ other) in
            let some = at.some in
            let y = at.y in record {
              own = refl;
              around = marks r s d d d.y _ refl refl at.around;
              marked = λ held.
                  ne_eqb d.y 0 (λ e. omega (arith, e, y, some))
                  ∙ at_other s.voice (λ row. isnt (at.y ∙ at.first.0 row));
              y = at.y;
            },
        λ one.
            let y = at.y in
            let is : d.own OFFSET ≡ 1 =
            sym at.y ∙ compared_is d.y 1 (omega (arith, y, few)) (omega arith) (not-false _ one) in record {
              own = refl;
              around = marks r s d (record d { shared = put d.shared KEPT_PARAM d.y }) (d.own TICK) _ refl refl
                  (marks r s d d d.y _ refl refl at.around);
              marked = λ held. ap (λ t. nat_eq t 0) at.fields.tick ∙ at_first s.voice (at.first.1 is);
              y = at.y;
            },
      )
      (λ n marked. marked),
  λ out. record {
    own = refl;
    around = at.around;
    marked = λ held. absurd (both_ways (r.layout.holds SKIP_FIRST) out held);
    y = at.y;
  },
)

running_on_leads : (r : Reader) (s : Playing) (place : ℕ) (bytes : List ℕ) (rows : List Row) (ways : Ways)
    (d m : VoiceDesk) → AtFetch r s place bytes rows d → d.own OFFSET < 256 → AtMarked r s d m →
    Leads r (body_of RUNNING_ON take_tree) (in_scope RUNNING_ON (done_as (AtRunning r s d) ways)) m
running_on_leads r s place bytes rows ways d m at few on = (
  λ other.
      let isnt : m.y ≢ 1 = over_is m.y 1 (omega arith) (not-true _ other) in
      let more : d.own OFFSET ≢ 1 = λ e. isnt (on.y ∙ e) in
      let test : nat_eq (d.own OFFSET) 1 ≡ false = ne_eqb (d.own OFFSET) 1 more in
      let running : running_command s.voice (d.own OFFSET) ≡ last_command s.voice = rw test refl in
      let fields : Fields r.layout.holds (taken 0 (last_command s.voice) s.voice) (tempo_of (r.voice + 1) s.common)
      d.own = assumption at.fields in
      runs _ refl refl refl refl (rw (running, on.own) fields),
  λ one.
      let y = on.y in
      let is : d.own OFFSET ≡ 1 = sym y ∙ compared_is m.y 1 (omega (arith, y, few)) (omega arith) (not-false _ one) in
      let test : nat_eq (d.own OFFSET) 1 ≡ true = eq-eqb (d.own OFFSET) 1 is in
      let running : running_command s.voice (d.own OFFSET) ≡ no_command = rw test refl in
      let none : r.layout.holds ROW_COMMAND ≡ true → no_command.number ≢ 0 → m.own NEW_PARAM ≡ no_command.param =
      λ kept some. absurd (some refl) in
      let before : Fields r.layout.holds s.voice (tempo_of (r.voice + 1) s.common) m.own = rw on.own at.fields in
      let fields : Fields r.layout.holds (taken 0 no_command s.voice) (tempo_of (r.voice + 1) s.common)
      (put m.own NEW_COMMAND 0) = assumption (none, before) in
      let play : SamePlay m.own d.own = same on.own in record {
        fields = rw running fields;
        rest_is = ap (λ f. f REST) on.own ∙ at.rest_is;
        play = assumption play;
        around = around_on refl refl on.around;
        marked = on.marked;
        y = on.y;
      },
)
  where
    runs : (n : VoiceDesk) → n.own ≡ m.own → n.shared ≡ m.shared → n.sid ≡ m.sid → n.y ≡ m.y →
        Fields r.layout.holds (taken 0 (running_command s.voice (d.own OFFSET)) s.voice)
        (tempo_of (r.voice + 1) s.common) m.own → AtRunning r s d n
    runs n own shared sid y fields = record {
      fields = rw own fields;
      rest_is = ap (λ f. f REST) (own ∙ on.own) ∙ at.rest_is;
      play = same (own ∙ on.own);
      around = around_on shared sid on.around;
      marked = λ held. ap (λ f. nat_eq (f KEPT_PARAM) 0) shared ∙ on.marked held;
      y = y ∙ on.y;
    }

-- where the lines of rows' commands aren't kept their bytes may be any
row_leads : (r : Reader) (s : Playing) (place : ℕ) (bytes : List ℕ) (rows : List Row) (ways : Ways)
    (d m : VoiceDesk) → AtFetch r s place bytes rows d → d.own OFFSET < 256 → AtMarked r s d m →
    Leads r (first_of (behind take_tree)) (done_as (AtRunning r s d) ways) m
row_leads r s place bytes rows ways d m at few on = (
  λ kept.
      joined true r RUNNING_ON (body_of RUNNING_ON take_tree) NoneTree (AtRunning r s d)
      (done_as (AtRunning r s d) ways) m
      (running_on_leads r s place bytes rows (done_as (AtRunning r s d) ways) d m at few on)
      (λ n runs. runs),
  λ out.
      let running = running_command s.voice (d.own OFFSET) in
      let bare : r.layout.holds ROW_COMMAND ≡ true → m.own NEW_COMMAND ≡ running.number =
      λ kept. absurd (both_ways (r.layout.holds ROW_COMMAND) out kept) in
      let none : r.layout.holds ROW_COMMAND ≡ true → running.number ≢ 0 → m.own NEW_PARAM ≡ running.param =
      λ kept some. absurd (both_ways (r.layout.holds ROW_COMMAND) out kept) in
      let before : Fields r.layout.holds s.voice (tempo_of (r.voice + 1) s.common) m.own = rw on.own at.fields in record {
        fields = assumption (none, bare, before);
        rest_is = ap (λ f. f REST) on.own ∙ at.rest_is;
        play = same on.own;
        around = on.around;
        marked = on.marked;
        y = on.y;
      },
)

-- ---- the instrument

-- the byte that an offset names
here_byte : (r : Reader) (place : ℕ) (bytes : List ℕ) → PatternAt r place bytes → (byte : ℕ) (left : List ℕ)
    (offset : ℕ) → 1 ≤ offset → drop (offset - 1) bytes ≡ byte ∷ left →
    (Reads r ((place % 256 + 256 * (place / 256) + offset) % 65536) byte) × IsBefore bytes left offset
here_byte r place bytes ground byte left offset some e =
    let here = stands_there bytes (offset - 1) byte 0 left e in
    let at : (place % 256 + 256 * (place / 256) + offset) % 65536 ≡ (place + 1 + (offset - 1)) % 65536 =
    ap (λ n. n % 65536) (omega (arith, some)) in (
      rw at (record {
        found = (ground.each (offset - 1) here.inside).found;
        is = (ground.each (offset - 1) here.inside).is ∙ here.is;
      }),
      record { number = offset - 1; y_is = omega (arith, some); left_is = here.rest_is },
    )

-- some byte stands behind a kind's first
kind_goes_on : (kind : EntryKind) (left : List ℕ) (byte : ℕ) (others : List ℕ) → left ≡ byte ∷ others →
    (first : ℕ) × (more : List ℕ) × (kind_others kind ++ left ≡ first ∷ more)
kind_goes_on (NamedNote command note) left byte others e = (command.param, note ∷ left, refl)
kind_goes_on (NamedRest command) left byte others e = (command.param, left, refl)
kind_goes_on (Note note) left byte others e = (byte, others, e)
kind_goes_on (Rests more) left byte others e = (byte, others, e)

old_leads : (r : Reader) (s : Playing) (place : ℕ) (bytes : List ℕ) (ways : Ways) (d : VoiceDesk) (entry : Entry)
    (entries : List Entry) (byte : ℕ) (others : List ℕ) (first : ℕ) (left : List ℕ) (m : VoiceDesk) →
    PatternAt r place bytes → IsEntry entry → text_of entries ≡ byte ∷ others →
    text_of (entry ∷ entries) ≡ first ∷ left →
    Taking r s d place (taken 0 (running_command s.voice (d.own OFFSET)) s.voice) 0 m → IsByte bytes first left m →
    Leads r (body_of OLD take_tree) (in_scope OLD (done_as (AtKind r s d place bytes entry (text_of entries)) ways)) m
old_leads r s place bytes ways d entry entries byte others first left m ground is_entry begun text at is =
    by_instrument (nat_eq entry.instrument 0) refl
  where
    by_instrument : (z : Bool) → nat_eq entry.instrument 0 ≡ z →
        Leads r (body_of OLD take_tree)
        (in_scope OLD (done_as (AtKind r s d place bytes entry (text_of entries)) ways)) m
    by_instrument true e =
        let whole = sym text ∙ text_without entry entries e in
        let first_is : first ≡ kind_first entry.kind = first_same _ _ _ _ whole in
        let left_is : left ≡ kind_others entry.kind ++ text_of entries = rest_same _ _ _ _ whole in
        let from = kind_from entry.kind is_entry.kind in
        let acc : m.a ≡ kind_first entry.kind = is.a ∙ first_is in
        let fields : Fields r.layout.holds (taken entry.instrument (running_command s.voice (d.own OFFSET)) s.voice)
        (tempo_of (r.voice + 1) s.common) m.own = rw e at.fields in (
          λ old. record {
            taking = takes r s d place _ _ 0 0 m _ refl refl refl refl fields at.rest_is at.play at;
            is = record { a = acc; before = subst (λ xs. IsBefore bytes xs m.y) left_is is.before };
          },
          λ new. (let below = leb-false 0x40 m.a new in absurd (omega (arith, below, acc, from))),
        )
    by_instrument false e =
        let whole = sym text ∙ text_with entry entries e in
        let first_is : first ≡ entry.instrument = first_same _ _ _ _ whole in
        let left_is : left ≡ kind_first entry.kind ∷ (kind_others entry.kind ++ text_of entries) = rest_same _ _ _ _
        whole in
        let low = is_entry.instrument in
        let acc : m.a ≡ entry.instrument = is.a ∙ first_is in
        let more = kind_goes_on entry.kind (text_of entries) byte others begun in
        let next = next_byte r place bytes ground (kind_first entry.kind) more.0 more.1 m.y
        (subst (λ xs. IsBefore bytes xs m.y) (left_is ∙ ap (λ xs. kind_first entry.kind ∷ xs) more.2) is.before) in
        let second = at_pointer r m.low m.high place ((m.y + 1) % 256) (kind_first entry.kind) at.pointer next.reads in
        let instrument : m.a ≡ (if nat_eq entry.instrument 0 then s.voice.instrument else entry.instrument) =
        acc ∙ sym (rw e refl) in (
          λ old. (let above = leb-true 0x40 m.a old in absurd (omega (arith, above, acc, low))),
          λ new. (
            second.found,
            record {
              taking = takes r s d place _ _ 0 0 m _ refl refl refl refl (assumption (instrument, at.fields)) at.rest_is
                  (assumption at.play) at;
              is = record {
                a = second.is;
                before = subst (λ xs. IsBefore bytes xs ((m.y + 1) % 256)) (sym more.2) next.before;
              };
            },
          ),
        )

-- an entry and what is behind it are two bytes at least
pub two_bytes : (entry : Entry) (entries : List Entry) (z : Bool) → nat_eq entry.instrument 0 ≡ z → Begun entries →
    (one : ℕ) × (two : ℕ) × (left : List ℕ) × (text_of (entry ∷ entries) ≡ one ∷ two ∷ left)
two_bytes entry entries true e begun =
    let more = kind_goes_on entry.kind (text_of entries) begun.byte begun.others begun.is in (
      kind_first entry.kind,
      more.0,
      more.1,
      text_without entry entries e ∙ ap (λ xs. kind_first entry.kind ∷ xs) more.2,
    )
two_bytes entry entries false e begun = (
  entry.instrument,
  kind_first entry.kind,
  kind_others entry.kind ++ text_of entries,
  text_with entry entries e,
)

-- ---- the beginning

-- behind the pointer
abbrev pub pointer_tree : Tree
pointer_tree = behind (behind take_tree)

pub begin_leads : (r : Reader) (s : Playing) (place : ℕ) (bytes : List ℕ) (rows : List Row) (ways : Ways)
    (d : VoiceDesk) → PatternAt r place bytes → (at : AtFetch r s place bytes rows d) →
    ((m : VoiceDesk) → AtKind r s d place bytes at.entries.entry (text_of at.entries.others) m →
    Leads r (rest_of OLD take_tree) ways m) →
    Leads r take_tree ways d
begin_leads r s place bytes rows ways d ground at goes =
    goes_on true r (first_of take_tree) (behind take_tree) (AtMarked r s d) ways d
    (mark_leads r s place bytes rows ways d at few)
    (λ m marked.
    goes_on true r (first_of (behind take_tree)) pointer_tree (AtRunning r s d) ways m
    (row_leads r s place bytes rows ways d m at few marked) pointed_leads)
  where
    entry : Entry
    entry = at.entries.entry

    entries : List Entry
    entries = at.entries.others

    is_entry : IsEntry entry
    is_entry = All-head IsEntry entry entries at.entries.each

    begun : Begun entries
    begun = text_begins entries (All-tail IsEntry entry entries at.entries.each)

    first : Begun (entry ∷ entries)
    first = text_begins (entry ∷ entries) at.entries.each

    here : (Reads r ((place % 256 + 256 * (place / 256) + d.own OFFSET) % 65536) first.byte)
        × IsBefore bytes first.others (d.own OFFSET)
    here = here_byte r place bytes ground first.byte first.others (d.own OFFSET) at.some (at.entries.text ∙ first.is)

    few : d.own OFFSET < 256
    few =
        let two = two_bytes entry entries (nat_eq entry.instrument 0) refl begun in
        let one = stands_there bytes (d.own OFFSET - 1) two.0 0 (two.1 ∷ two.2) (at.entries.text ∙ two.3) in
        let inside = (stands_there bytes (d.own OFFSET - 1 + 1) two.1 0 two.2 one.rest_is).inside in
        let most = ground.few in
        let some = at.some in
        omega (arith, inside, most, some)

    pointed_leads : (m : VoiceDesk) → AtRunning r s d m → Leads r pointer_tree ways m
    pointed_leads m on =
        let low : m.own PATTERN_LOW ≡ place % 256 = on.play.pattern_low ∙ at.pattern.low_is in
        let high : m.own PATTERN_HIGH ≡ place / 256 = on.play.pattern_high ∙ at.pattern.high_is in
        let halves : AreHalves (m.own PATTERN_LOW) (m.own PATTERN_HIGH) place = record
        { low_is = low; high_is = high } in
        let reads = at_pointer r (m.own PATTERN_LOW) (m.own PATTERN_HIGH) place m.y first.byte halves
        (subst (λ y. Reads r ((place % 256 + 256 * (place / 256) + y) % 65536) first.byte) (sym on.y) here.0) in
        let begun_desk : VoiceDesk =
        loaded (r.before ((m.own PATTERN_LOW + 256 * m.own PATTERN_HIGH + m.y) % 65536))
        (record m { low = m.own PATTERN_LOW; high = m.own PATTERN_HIGH }) in (
          reads.found,
          joined true r OLD (body_of OLD take_tree) (rest_of OLD take_tree)
              (AtKind r s d place bytes entry (text_of entries)) ways begun_desk
              (old_leads r s place bytes ways d entry entries begun.byte begun.others first.byte first.others begun_desk
              ground
              is_entry begun.is first.is
              (record {
                fields = on.fields;
                rest_is = on.rest_is;
                play = on.play;
                around = around_on refl refl on.around;
                marked = on.marked;
                pointer = halves;
              })
              (record { a = reads.is; before = subst (IsBefore bytes first.others) (sym on.y) here.1 }))
              goes,
        )
