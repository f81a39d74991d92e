-- An entry is read: its command, and what follows it.
use Rattle.std.proofs.Common.{◌≡◌, ◌≢◌, ℕ, ℤ, ◌+◌, ◌-◌, ◌*◌}
use Rattle.std.proofs.Common.{◌%◌, ◌≤◌}
use Rattle.std.proofs.Common.{true, false, nat_eq, nat_le, bit_and, if◌then◌else◌, List, ◌∷◌, ◌++◌}
use Rattle.std.proofs.Common.{refl, sym, ap, ◌∙◌, subst, arith}
use Rattle.std.proofs.lemmas.Bool.{leb-true, leb-false}
use Rattle.std.proofs.lemmas.Bool.{agree_below_at, both_ways, eqb-true}
use Rattle.code_runs.specs.Runs.{put}
use Rattle.play_model.specs.State.{Voice, Playing}
use Rattle.play_model.specs.TickStep.{tempo_of}
use Rattle.scopes.specs.Trees.{Tree}
use Rattle.packed_form.specs.declared.entries.Command.{Command}
use Rattle.packed_form.specs.declared.entries.EntryKind.{EntryKind}
use Rattle.packed_form.specs.declared.entries.EntryKind.TheVariants.{NamedNote, NamedRest, Note, Rests}
use Rattle.packed_form.specs.Entries.{IsKind, entry_note, more_rests, command_behind}
use Rattle.player_memory.specs.declared.conditions.TheConstants.{TRANSPOSES, ROW_COMMAND}
use Rattle.player_memory.specs.declared.labels.TheConstants.{REST, TRANSPOSE, NEW_COMMAND, NEW_PARAM}
use Rattle.player_memory.specs.Fetching.{AreHalves, transpose_byte}
use Rattle.player_desk.proofs.Laws.{VoiceDesk, Reader, Ways, Leads, done_as, in_scope, body_of, rest_of}
use Rattle.player_desk.proofs.Laws.{joined, loaded, indexed, Fields}
use Rattle.player_text.specs.declared.fetch.TheConstants.{READ, NOTES, UNNAMED}
use Rattle.entry_code.proofs.Texts.{kind_first, kind_others}
use Rattle.entry_code.proofs.Takes.{take_tree, PatternAt, SamePlay, Taking, IsBefore, IsByte, takes, IsNext, next_byte}
use Rattle.player_desk.proofs.Laws.{at_pointer}
use Rattle.entry_code.proofs.LastBytes.{AtRead, AtNote, AtLast, KeepsNote, note_leads, last_note_leads}
use Rattle.entry_code.proofs.LastBytes.{last_rests_leads, behind}

-- ---- the command

-- a voice with the instrument and the command of a row
abbrev pub taken : ℕ → Command → Voice → Voice
taken instrument command v = record v {
  instrument = if nat_eq instrument 0 then v.instrument else instrument;
  new_command = command.number;
  new_param = command.param;
}

-- the byte of a named command holds its number
number_is : (number : ℕ) → number ≤ 15 → bit_and (0x40 + number) 0x0F ≡ number
number_is number few =
    eqb-true _ _
    (agree_below_at (λ n. nat_eq (bit_and (0x40 + n) 0x0F) n) (λ n. true) 16 number refl (omega (arith, few)))

number_was : (number : ℕ) → number ≤ 15 → bit_and (0x50 + number) 0x0F ≡ number
number_was number few =
    eqb-true _ _
    (agree_below_at (λ n. nat_eq (bit_and (0x50 + n) 0x0F) n) (λ n. true) 16 number refl (omega (arith, few)))

-- A is the entry's last byte, which a rest with a command doesn't come to
abbrev LastIs : Reader → Playing → VoiceDesk → ℕ → List ℕ → List ℕ → Voice → EntryKind → VoiceDesk →
    Type 0
LastIs r s d place bytes left v (NamedNote command note) m = AtLast r s d place bytes left v note m
LastIs r s d place bytes left v (NamedRest command) m = ⊥
LastIs r s d place bytes left v (Note note) m = AtLast r s d place bytes left v note m
LastIs r s d place bytes left v (Rests more) m = AtLast r s d place bytes left v (0xC0 + more) m

-- what is to be where the entry is read
abbrev pub Read : Reader → Playing → VoiceDesk → ℕ → List ℕ → List ℕ → ℤ → ℕ → Command → EntryKind →
    VoiceDesk → Type 0
Read r s d place bytes left transpose instrument running kind =
    AtRead r s d place bytes left transpose (taken instrument (command_behind running kind) s.voice) (entry_note kind)
    (more_rests kind)

-- behind the tests of a command's first byte, and behind its two bytes
abbrev number_tree : Tree
number_tree = behind (behind (behind (body_of UNNAMED take_tree)))

abbrev param_tree : Tree
param_tree = behind (behind (behind number_tree))

-- the command stands, where it is kept, and Y is its second byte; the carry stays
command_leads : (r : Reader) (s : Playing) (d : VoiceDesk) (place : ℕ) (bytes left : List ℕ) (instrument : ℕ)
    (running command : Command) (other : ℕ) (ways : Ways) (m : VoiceDesk) → PatternAt r place bytes →
    bit_and m.a 0x0F ≡ command.number → Taking r s d place (taken instrument running s.voice) 0 m →
    IsBefore bytes (command.param ∷ other ∷ left) m.y →
    ((n : VoiceDesk) → n.c ≡ m.c → Taking r s d place (taken instrument command s.voice) 0 n →
    IsBefore bytes (other ∷ left) n.y → Leads r param_tree ways n) → Leads r number_tree ways m
command_leads r s d place bytes left instrument running command other ways m ground number at before goes = (
  λ kept.
      let its : r.layout.holds ROW_COMMAND ≡ true → bit_and m.a 0x0F ≡ command.number = λ on. number in
      let param : r.layout.holds ROW_COMMAND ≡ true → command.number ≢ 0 → command.param ≡ command.param =
      λ on some. refl in
      behind_number (record (loaded (bit_and m.a 0x0F) m) { own = put m.own NEW_COMMAND (bit_and m.a 0x0F) }) refl refl
      refl refl refl refl (assumption (its, param, at.fields)) at.rest_is (assumption at.play),
  λ out.
      let none : r.layout.holds ROW_COMMAND ≡ true → m.own NEW_COMMAND ≡ command.number =
      λ on. absurd (both_ways (r.layout.holds ROW_COMMAND) out on) in
      let param : r.layout.holds ROW_COMMAND ≡ true → command.number ≢ 0 → command.param ≡ command.param =
      λ on some. refl in
      behind_number m refl refl refl refl refl refl (assumption (none, param, at.fields)) at.rest_is at.play,
)
  where
    next : IsNext r bytes command.param (other ∷ left) place ((m.y + 1) % 256)
    next = next_byte r place bytes ground command.param other left m.y before

    -- the voice's bytes would be so with the second byte among them
    behind_number : (n : VoiceDesk) → n.shared ≡ m.shared → n.sid ≡ m.sid → n.low ≡ m.low → n.high ≡ m.high →
        n.y ≡ m.y → n.c ≡ m.c → Fields r.layout.holds (taken instrument command s.voice)
        (tempo_of (r.voice + 1) s.common) (put n.own NEW_PARAM command.param) → n.own REST ≡ 0 → SamePlay n.own d.own →
        Leads r (behind number_tree) ways n
    behind_number n shared sid low high y c fields rest_is play =
        let halves : AreHalves n.low n.high place =
        record { low_is = low ∙ at.pointer.low_is; high_is = high ∙ at.pointer.high_is } in
        let y_next : (n.y + 1) % 256 ≡ (m.y + 1) % 256 = ap (λ b. (b + 1) % 256) y in
        let read = at_pointer r n.low n.high place ((n.y + 1) % 256) command.param halves (rw y_next next.reads) in
        let there : VoiceDesk =
        loaded (r.before ((n.low + 256 * n.high + (n.y + 1) % 256) % 65536)) (indexed ((n.y + 1) % 256) n) in
        let is_before : IsBefore bytes (other ∷ left) ((n.y + 1) % 256) = rw y_next next.before in (
          λ kept. (
            read.found,
            let param : r.layout.holds ROW_COMMAND ≡ true → command.number ≢ 0 → there.a ≡ command.param =
                λ on some. read.is in
                goes (record there { own = put n.own NEW_PARAM there.a }) c
                (takes r s d place _ _ 0 0 m _ shared sid low high (assumption (param, fields)) rest_is (assumption play) at)
                is_before,
          ),
          λ out.
              let none : r.layout.holds ROW_COMMAND ≡ true → command.number ≢ 0 → n.own NEW_PARAM ≡ command.param =
              λ on some. absurd (both_ways (r.layout.holds ROW_COMMAND) out on) in
              goes (indexed ((n.y + 1) % 256) n) c
              (takes r s d place _ _ 0 0 m _ shared sid low high (assumption (none, fields)) rest_is play at) is_before,
        )

-- where the scope's lines lead
abbrev unnamed_ways : Reader → Playing → VoiceDesk → ℕ → List ℕ → List ℕ → ℤ → ℕ → Command → EntryKind →
    (VoiceDesk → Type 0) → Ways → Ways
unnamed_ways r s d place bytes left transpose instrument running kind goes ways =
    in_scope UNNAMED (done_as (LastIs r s d place bytes left
    (taken instrument (command_behind running kind) s.voice) kind)
    (in_scope NOTES (done_as goes
    (in_scope READ (done_as (Read r s d place bytes left transpose instrument running kind) ways)))))

-- A has been compared
abbrev pub compared : ℕ → VoiceDesk → VoiceDesk
compared number m = record m {
  c = nat_le number m.a;
  z = nat_eq ((m.a + (256 - number)) % 256) 0;
  n = nat_le 128 ((m.a + (256 - number)) % 256);
}

unnamed_leads : (r : Reader) (s : Playing) (d : VoiceDesk) (place : ℕ) (bytes left : List ℕ) (transpose : ℤ)
    (instrument : ℕ) (running : Command) (kind : EntryKind) (byte : ℕ) (others : List ℕ) (goes : VoiceDesk → Type 0)
    (ways : Ways) (m : VoiceDesk) → PatternAt r place bytes → left ≡ byte ∷ others → IsKind kind →
    Taking r s d place (taken instrument running s.voice) 0 m →
    IsByte bytes (kind_first kind) (kind_others kind ++ left) m →
    Leads r (body_of UNNAMED take_tree)
    (unnamed_ways r s d place bytes left transpose instrument running kind goes ways) m
unnamed_leads r s d place bytes left transpose instrument running (NamedNote command note) byte others goes ways m
    ground begun kind at is =
    let acc = is.a in
    let few = kind.0.number in (
      λ high. (let above = leb-true 0x60 m.a high in absurd (omega (arith, above, acc, few))),
      λ low.
          command_leads r s d place bytes left instrument running command note
          (unnamed_ways r s d place bytes left transpose instrument running (NamedNote command note) goes ways)
          (compared 0x50 m) ground
          (ap (λ a. bit_and a 0x0F) acc ∙ number_is command.number few)
          (takes r s d place _ _ 0 0 m _ refl refl refl refl at.fields at.rest_is at.play at) is.before
          (λ n carry taking before.
          let two = next_byte r place bytes ground note byte others n.y
          (subst (λ xs. IsBefore bytes (note ∷ xs) n.y) begun before) in
          let second = at_pointer r n.low n.high place ((n.y + 1) % 256) note taking.pointer two.reads in (
            λ rest. (let above = leb-true 0x50 m.a (sym carry ∙ rest) in absurd (omega (arith, above, acc, few))),
            λ named. (
              second.found,
              record {
                taking = takes r s d place _ _ 0 0 n _ refl refl refl refl taking.fields taking.rest_is taking.play
                    taking;
                is = record {
                  a = second.is;
                  before = subst (λ xs. IsBefore bytes xs ((n.y + 1) % 256)) (sym begun) two.before;
                };
              },
            ),
          )),
    )
unnamed_leads r s d place bytes left transpose instrument running (NamedRest command) byte others goes ways m ground
    begun kind at is =
    let acc = is.a in
    let few = kind.number in (
      λ high. (let above = leb-true 0x60 m.a high in absurd (omega (arith, above, acc, few))),
      λ low.
          command_leads r s d place bytes others instrument running command byte
          (unnamed_ways r s d place bytes left transpose instrument running (NamedRest command) goes ways)
          (compared 0x50 m) ground
          (ap (λ a. bit_and a 0x0F) acc ∙ number_was command.number few)
          (takes r s d place _ _ 0 0 m _ refl refl refl refl at.fields at.rest_is at.play at)
          (subst (λ xs. IsBefore bytes (command.param ∷ xs) m.y) begun is.before)
          (λ n carry taking before. (
            λ rest. record {
              taking = takes r s d place _ _ 0 0 n _ refl refl refl refl taking.fields taking.rest_is taking.play
                  taking;
              before = subst (λ xs. IsBefore bytes xs n.y) (sym begun) before;
              carry = rest;
            },
            λ named. (let below = leb-false 0x50 m.a (sym carry ∙ named) in absurd (omega (arith, below, acc))),
          )),
    )
unnamed_leads r s d place bytes left transpose instrument running (Note note) byte others goes ways m ground begun kind
    at is =
    let acc = is.a in
    let from = kind.from in (
      λ high. record {
        taking = takes r s d place _ _ 0 0 m _ refl refl refl refl at.fields at.rest_is at.play at;
        is = record { a = is.a; before = is.before };
      },
      λ low. (let below = leb-false 0x60 m.a low in absurd (omega (arith, below, acc, from))),
    )
unnamed_leads r s d place bytes left transpose instrument running (Rests more) byte others goes ways m ground begun kind
    at is =
    let acc = is.a in (
      λ high. record {
        taking = takes r s d place _ _ 0 0 m _ refl refl refl refl at.fields at.rest_is at.play at;
        is = record { a = is.a; before = is.before };
      },
      λ low. (let below = leb-false 0x60 m.a low in absurd (omega (arith, below, acc))),
    )

-- ---- the entry

-- behind its command
last_leads : (r : Reader) (s : Playing) (d : VoiceDesk) (place : ℕ) (bytes left : List ℕ) (transpose : ℤ)
    (instrument : ℕ) (running : Command) (kind : EntryKind) (ways : Ways) (m : VoiceDesk) → IsKind kind →
    KeepsNote r (entry_note kind) →
    LastIs r s d place bytes left (taken instrument (command_behind running kind) s.voice) kind m →
    Leads r (rest_of UNNAMED take_tree)
    (in_scope NOTES (done_as (AtNote r s d place bytes left (taken instrument (command_behind running kind) s.voice)
    (entry_note kind))
    (in_scope READ (done_as (Read r s d place bytes left transpose instrument running kind) ways)))) m
last_leads r s d place bytes left transpose instrument running (NamedNote command note) ways m kind gate at =
    last_note_leads r s d place bytes left transpose (taken instrument command s.voice) note ways m kind.1.from
    kind.1.to gate at
last_leads r s d place bytes left transpose instrument running (NamedRest command) ways m kind gate none = absurd none
last_leads r s d place bytes left transpose instrument running (Note note) ways m kind gate at =
    last_note_leads r s d place bytes left transpose (taken instrument running s.voice) note ways m kind.from kind.to
    gate at
last_leads r s d place bytes left transpose instrument running (Rests more) ways m kind gate at =
    last_rests_leads r s d place bytes left transpose (taken instrument running s.voice) more
    (AtNote r s d place bytes left (taken instrument running s.voice) 0xBD) ways m kind at

-- a note
sounding_leads : (r : Reader) (s : Playing) (d : VoiceDesk) (place : ℕ) (bytes left : List ℕ) (transpose : ℤ)
    (instrument : ℕ) (running : Command) (kind : EntryKind) (ways : Ways) (m : VoiceDesk) →
    d.own TRANSPOSE ≡ transpose_byte transpose →
    (r.layout.holds TRANSPOSES ≡ false → transpose_byte transpose ≡ 0) →
    AtNote r s d place bytes left (taken instrument (command_behind running kind) s.voice) (entry_note kind) m →
    Leads r (rest_of NOTES take_tree)
    (in_scope READ (done_as (Read r s d place bytes left transpose instrument running kind) ways)) m
sounding_leads r s d place bytes left transpose instrument running (NamedNote command note) ways m t idle at =
    note_leads r s d place bytes left transpose (taken instrument command s.voice) note ways m t idle at
sounding_leads r s d place bytes left transpose instrument running (NamedRest command) ways m t idle at =
    (let to = at.to in absurd (omega (arith, to)))
sounding_leads r s d place bytes left transpose instrument running (Note note) ways m t idle at =
    note_leads r s d place bytes left transpose (taken instrument running s.voice) note ways m t idle at
sounding_leads r s d place bytes left transpose instrument running (Rests more) ways m t idle at =
    (let to = at.to in absurd (omega (arith, to)))

-- A is the first byte behind the instrument's; the voice behind it is that of the row, so far
pub read_leads : (r : Reader) (s : Playing) (d : VoiceDesk) (place : ℕ) (bytes left : List ℕ) (transpose : ℤ)
    (instrument : ℕ) (running : Command) (kind : EntryKind) (byte : ℕ) (others : List ℕ) (ways : Ways) (m : VoiceDesk) →
    PatternAt r place bytes → left ≡ byte ∷ others → IsKind kind → d.own TRANSPOSE ≡ transpose_byte transpose →
    (r.layout.holds TRANSPOSES ≡ false → transpose_byte transpose ≡ 0) → KeepsNote r (entry_note kind) →
    Taking r s d place (taken instrument running s.voice) 0 m →
    IsByte bytes (kind_first kind) (kind_others kind ++ left) m →
    Leads r (body_of READ take_tree)
    (in_scope READ (done_as (Read r s d place bytes left transpose instrument running kind) ways)) m
read_leads r s d place bytes left transpose instrument running kind byte others ways m ground begun is_kind t idle
    gate at is =
    joined true r NOTES (body_of NOTES take_tree) (rest_of NOTES take_tree) IsSounding goal m
    (joined true r UNNAMED (body_of UNNAMED take_tree) (rest_of UNNAMED take_tree)
    (LastIs r s d place bytes left (taken instrument (command_behind running kind) s.voice) kind)
    (in_scope NOTES (done_as IsSounding goal)) m
    (unnamed_leads r s d place bytes left transpose instrument running kind byte others IsSounding ways m ground begun
    is_kind
    at is)
    (λ n last. last_leads r s d place bytes left transpose instrument running kind ways n is_kind gate last))
    (λ n note. sounding_leads r s d place bytes left transpose instrument running kind ways n t idle note)
  where
    IsSounding : VoiceDesk → Type 0
    IsSounding = AtNote r s d place bytes left (taken instrument (command_behind running kind) s.voice)
        (entry_note kind)

    goal : Ways
    goal = in_scope READ (done_as (Read r s d place bytes left transpose instrument running kind) ways)
