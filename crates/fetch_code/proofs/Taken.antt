-- The entry of a row is taken.
use Rattle.std.proofs.Common.{◌≡◌, ℕ, ◌+◌, ◌%◌, ◌<◌, ◌≤◌, Bool, true, false, nat_eq}
use Rattle.std.proofs.Common.{List, ◌++◌, length, drop, replicate, All, refl, sym, ap, ◌∙◌, subst, arith}
use Rattle.std.proofs.lemmas.List.Elements.{All-head, All-tail}
use Rattle.code_runs.specs.Runs.{put}
use Rattle.song_model.specs.declared.rows.Row.{Row}
use Rattle.song_model.specs.declared.orders.Order.{Order}
use Rattle.song_model.specs.declared.orders.Step.{Step}
use Rattle.song_model.specs.LookUp.{pattern_row, zero_row}
use Rattle.song_model.specs.Walk.{played}
use Rattle.play_model.specs.LookUps.{LookUps}
use Rattle.play_model.specs.State.{Voice, Playing}
use Rattle.play_model.specs.FetchRow.{gate_keyed, row_taken, row_done, row_moved, fetch_row}
use Rattle.play_model.specs.TickStep.{tempo_of}
use Rattle.play_model.specs.Frame.{is_at_fetch}
use Rattle.song_facts.specs.Facts.{IsGateNote, IsTone, IsLegato, KeepsEnvelope}
use Rattle.packed_form.specs.declared.entries.Command.{Command}
use Rattle.packed_form.specs.declared.entries.EntryKind.{EntryKind}
use Rattle.packed_form.specs.declared.entries.EntryKind.TheVariants.{NamedNote, NamedRest, Note, Rests}
use Rattle.packed_form.specs.declared.entries.Entry.{Entry}
use Rattle.packed_form.specs.Entries.{IsEntry, IsKind, row_with, rows_from, entry_note, more_rests, command_behind}
use Rattle.packed_form.specs.PackedSpells.{text_of}
use Rattle.player_memory.specs.declared.conditions.TheConstants.{TRANSPOSES}
use Rattle.player_memory.specs.declared.labels.TheConstants.{OFFSET, ORDER_LOW, ORDER_HIGH}
use Rattle.player_memory.specs.Fetching.{transpose_byte, place_before, running_command, last_command, SongStands}
use Rattle.player_desk.proofs.Laws.{VoiceDesk, Reader, Fields, Ways, Leads, body_of, rest_of, joined, indexed}
use Rattle.player_text.specs.declared.fetch.TheConstants.{READ, END, HELD}
use Rattle.entry_code.proofs.Laws.{Stands, stands_there, text_begins, Begun}
use Rattle.player_desk.proofs.Laws.{around_on}
use Rattle.entry_code.proofs.Laws.{take_tree, PatternAt, takes}
use Rattle.entry_code.proofs.Laws.{noted, KeepsNote}
use Rattle.entry_code.proofs.Laws.{taken, Read, read_leads}
use Rattle.entry_code.proofs.Laws.{AtFetch, begin_leads}
use Rattle.entry_code.proofs.Laws.{TimerAt, KeepsGate, AtHeld, AtOffset, end_leads, held_leads}
use Rattle.entry_code.proofs.Laws.{InPlay, same_pattern, same_walk, row_kept, plays_kept, command_taken, stands_next}
use Rattle.entry_code.proofs.Laws.{fields_moved}
use Rattle.fetch_code.specs.FetchBlock.{next_instrument, KeepsNext}
use Rattle.fetch_code.proofs.Outcomes.{Fetched, fetch_ways}

pub fetch_is : (look : LookUps) (order : Order) (v : Voice) (row : Row) →
    pattern_row (look.rows (played order v.plays).pattern) v.row ≡ row →
    fetch_row look order v
    ≡ row_moved (length (look.rows (played order v.plays).pattern))
    (row_done look row (played order v.plays).transpose v)
unfolding fetch_row
fetch_is look order v row e = rw e refl

-- a command is a byte
command_small : (running : Command) (kind : EntryKind) → running.number < 256 → IsKind kind →
    (command_behind running kind).number < 256
command_small running (NamedNote command note) small is = (let h = is.0.number in omega (arith, h))
command_small running (NamedRest command) small is = (let h = is.number in omega (arith, h))
command_small running (Note note) small is = small
command_small running (Rests more) small is = small

running_small : (v : Voice) (offset : ℕ) → v.new_command < 256 → (z : Bool) → nat_eq offset 1 ≡ z →
    (running_command v offset).number < 256
running_small v offset small true e = rw e (omega arith)
running_small v offset small false e = rw e small

pub take_leads : (r : Reader) (look : LookUps) (packed : ℕ → List ℕ) (order : Order) (s : Playing) (d : VoiceDesk) →
    PatternAt r (place_before r.layout (played order s.voice.plays).pattern)
    (packed (played order s.voice.plays).pattern) →
    AtFetch r s (place_before r.layout (played order s.voice.plays).pattern)
    (packed (played order s.voice.plays).pattern) (look.rows (played order s.voice.plays).pattern) d →
    InPlay r.layout order s.voice.plays d.own → length (look.rows (played order s.voice.plays).pattern) ≤ 128 →
    TimerAt r look (next_instrument look order s.voice) → KeepsNext r.layout look order s.voice →
    (r.layout.holds TRANSPOSES ≡ false → transpose_byte (played order s.voice.plays).transpose ≡ 0) →
    s.voice.new_command < 256 → is_at_fetch s.voice ≡ true →
    Leads r take_tree
    (fetch_ways r.layout s.voice (Fetched r look packed order s (fetch_row look order s.voice) d)) d
take_leads r look packed order s d ground at play few timer keeps idle small due =
    begin_leads r s place bytes rows ways d ground at
    (λ m kind.
    joined true r READ (body_of READ take_tree) (rest_of READ take_tree)
    (Read r s d place bytes (text_of entries) step.transpose entry.instrument running entry.kind) ways m
    (read_leads r s d place bytes (text_of entries) step.transpose entry.instrument running entry.kind begun.byte
    begun.others ways m ground begun.is is_entry.kind play.transpose idle keeps_note kind.taking kind.is)
    (λ n read.
    joined true r END (body_of END take_tree) (rest_of END take_tree)
    (AtOffset r s d place bytes entries (noted note step.transpose (gate_keyed note v)) note rest) ways
    (indexed ((n.y + 1) % 256) n)
    (end_leads r s d place bytes entries (noted note step.transpose (gate_keyed note v)) note rest ways n ground
    others_each read.taking read.carry read.before) offset_leads))
  where
    step : Step
    step = played order s.voice.plays

    place : ℕ
    place = place_before r.layout step.pattern

    bytes : List ℕ
    bytes = packed step.pattern

    rows : List Row
    rows = look.rows step.pattern

    entry : Entry
    entry = at.entries.entry

    entries : List Entry
    entries = at.entries.others

    running : Command
    running = running_command s.voice (d.own OFFSET)

    is_entry : IsEntry entry
    is_entry = All-head IsEntry entry entries at.entries.each

    others_each : All IsEntry entries
    others_each = All-tail IsEntry entry entries at.entries.each

    begun : Begun entries
    begun = text_begins entries others_each

    ways : Ways
    ways = fetch_ways r.layout s.voice (Fetched r look packed order s (fetch_row look order s.voice) d)

    command : Command
    command = command_behind running entry.kind

    note : ℕ
    note = entry_note entry.kind

    rest : ℕ
    rest = more_rests entry.kind

    -- the voice with the row's instrument and command, and the whole row
    v : Voice
    v = taken entry.instrument command s.voice

    row : Row
    row = row_with note entry.instrument command

    w : Voice
    w = row_done look row step.transpose s.voice

    here : Stands rows s.voice.row row zero_row (replicate rest (row_with 0xBD 0 command) ++ rows_from command entries)
    here = stands_there rows s.voice.row row zero_row
        (replicate rest (row_with 0xBD 0 command) ++ rows_from command entries) at.entries.left

    -- the lines that the row asks for
    keeps_note : KeepsNote r note
    keeps_note key = keeps.gate (subst IsGateNote (sym here.is) key)

    keeps_gate : KeepsGate r look v
    keeps_gate = record {
      tone = λ tone. keeps.tone (subst IsTone (sym here.is) tone);
      legato = λ legato.
          keeps.legato (subst (λ x. IsLegato (look.instrument (row_taken x s.voice).instrument)) (sym here.is) legato);
      soft = λ soft.
          keeps.soft (subst (λ x. KeepsEnvelope (look.instrument (row_taken x s.voice).instrument)) (sym here.is) soft);
      shared = keeps.shared;
    }

    fetched_is : fetch_row look order s.voice ≡ row_moved (length rows) w
    fetched_is = fetch_is look order s.voice row here.is

    command_is : last_command w ≡ command
    command_is = command_taken look row step.transpose s.voice

    done : (h n : VoiceDesk) → n.own ≡ h.own → n.shared ≡ h.shared → n.sid ≡ h.sid →
        AtHeld r look s d place bytes entries step.transpose v note rest h →
        Fetched r look packed order s (fetch_row look order s.voice) d n
    done h n own shared sid held =
        let same = held.taking.play in
        let song : SongStands r.layout look packed order (row_moved (length rows) w) h.own =
        stands_next r.layout look packed order s.voice w rest entries h.own (row_kept look row step.transpose s.voice)
        (plays_kept look row step.transpose s.voice) here.inside few held.taking.rest_is
        (record {
          pattern = same_pattern r.layout order s.voice.plays d.own h.own same play.pattern;
          transpose = same.transpose ∙ play.transpose;
          walk = same_walk r.layout order (s.voice.plays + 1) d.own h.own same play.walk;
        }) others_each held.next
        (subst (λ c. drop (s.voice.row + 1) rows ≡ replicate rest (row_with 0xBD 0 c) ++ rows_from c entries)
        (sym command_is) here.rest_is) in
        let fields : Fields r.layout.holds (row_moved (length rows) w) (tempo_of (r.voice + 1) s.common) h.own =
        fields_moved r.layout.holds (length rows) w (tempo_of (r.voice + 1) s.common) h.own held.taking.fields in
        subst (λ u. Fetched r look packed order s u d n) (sym fetched_is) (record {
          fields = rw own fields;
          around = around_on shared sid held.taking.around;
          order_low = ap (λ f. f ORDER_LOW) own ∙ same.order_low;
          order_high = ap (λ f. f ORDER_HIGH) own ∙ same.order_high;
          song = rw own song;
        })

    offset_leads : (k : VoiceDesk) →
        AtOffset r s d place bytes entries (noted note step.transpose (gate_keyed note v)) note rest k →
        Leads r (rest_of END take_tree) ways k
    offset_leads k next =
        joined true r HELD (body_of HELD take_tree) (rest_of HELD take_tree)
        (AtHeld r look s d place bytes entries step.transpose v note rest) ways
        (record k { own = put k.own OFFSET k.a })
        (held_leads r look s d place bytes entries step.transpose v note rest ways
        (record k { own = put k.own OFFSET k.a })
        (subst (λ x. TimerAt r look (row_taken x s.voice).instrument) here.is timer) keeps_gate
        (command_small running entry.kind (running_small s.voice (d.own OFFSET) small (nat_eq (d.own OFFSET) 1) refl)
        is_entry.kind)
        (record {
          taking = takes r s d place (noted note step.transpose (gate_keyed note v))
              (noted note step.transpose (gate_keyed note v)) rest rest k _ refl refl refl refl
              (assumption next.taking.fields) next.taking.rest_is (assumption next.taking.play) next.taking;
          carry = next.carry;
          next = next.next;
        }))
        (λ h held. (
          λ pulse. (rw (pulse, due) refl, done h h refl refl refl held),
          λ plays. (
            λ first. (
              λ zero. (
                rw (plays, first, sym (held.taking.marked first) ∙ zero) refl,
                done h _ refl refl refl held,
              ),
              λ some. (
                rw (plays, first, sym (held.taking.marked first) ∙ some) refl,
                done h _ refl refl refl held,
              ),
            ),
            λ other. (rw (plays, other) refl, done h _ refl refl refl held),
          ),
        ))
