-- At a row the note that waits starts.
use Rattle.std.proofs.Common.{◌≡◌, ◌≢◌, ℕ, ◌+◌, ◌-◌, ◌%◌, ◌<◌, true, false, not, nat_eq}
use Rattle.std.proofs.Common.{nat_le, bit_and, bit_xor}
use Rattle.std.proofs.Common.{refl, sym, ap, ◌∙◌}
use Rattle.std.proofs.lemmas.Bool.{not-true, not-false, eqb-true, eqb-false, eq-eqb, ne_eqb, both_ways}
use Rattle.code_runs.specs.Runs.{put}
use Rattle.song_model.specs.declared.instruments.Instrument.{Instrument}
use Rattle.play_model.specs.LookUps.{LookUps}
use Rattle.play_model.specs.State.{Playing}
use Rattle.play_model.specs.TickStep.{note_started, row_command}
use Rattle.scopes.specs.Trees.{Tree}
use Rattle.player_memory.specs.declared.conditions.TheConstants.{ROW_TONE, ROW_COMMAND, VIBRATO_DELAY}
use Rattle.player_memory.specs.declared.labels.TheConstants.{NOTE, NEW_NOTE, NEW_COMMAND, DELAYS}
use Rattle.player_memory.specs.FactLines.{KeepsShared}
use Rattle.player_desk.proofs.Laws.{VoiceDesk, Reader, Ways, Leads, done_as, in_scope, body_of, rest_of, joined}
use Rattle.player_desk.proofs.Laws.{goes_on, Lent, own_done, done_over, listed}
use Rattle.player_text.specs.declared.joints.TheConstants.{TAKEN}
use Rattle.player_text.specs.declared.tick.TheConstants.{STARTS}
use Rattle.tick_code.specs.TickBlock.{tick_tree, KeepsRow, KeepsInstrument}
use Rattle.tick_code.proofs.Pieces.{first_of, behind, past, sound_tree}
use Rattle.tick_code.proofs.TickDesks.{Ticking, cleared, ticking_as, none_unkept}
use Rattle.tick_code.proofs.TickGrounds.{InstrumentAt}
use Rattle.tick_code.proofs.NoteRules.{note_row, starts, starts_none, starts_slide, starts_sound, none_started}
use Rattle.tick_code.proofs.NoteRules.{slide_started, sound_started, noted, slide_same, is_slide, note_is}
use Rattle.tick_code.proofs.SoundBegins.{sounding, sound_leads}

-- Y is the instrument. From this state the row's command leaves what it leaves behind the start of the note, but that
-- the note that waits isn't used up where it has started.
pub record AtCommand (r : Reader) (look : LookUps) (number : ℕ) (s : Playing) (handed : Lent) (d m : VoiceDesk)
    : Type 0 where
  pub u : Playing
  pub here : Ticking number r u handed d m
  pub command_is : u.voice.new_command ≡ s.voice.new_command
  pub param_is : u.voice.new_param ≡ s.voice.new_param
  pub note : nat_eq u.voice.new_note 0 ≡ not (starts s)
  pub is : cleared (row_command (r.voice + 1) look (look.instrument number) s.voice.new_command s.voice.new_param u)
      ≡ cleared
      (row_command (r.voice + 1) look (look.instrument number) s.voice.new_command s.voice.new_param
      (note_started (look.instrument number) s))

-- ---- the three ways there

not_starts : (s : Playing) (n : ℕ) → n ≡ 0 → starts s ≡ false → nat_eq n 0 ≡ not (starts s)
not_starts s n none e = rw (none, e) refl

does_start : (s : Playing) (n : ℕ) → n ≢ 0 → starts s ≡ true → nat_eq n 0 ≡ not (starts s)
does_start s n some e =
    let z : nat_eq n 0 ≡ false = ne_eqb n 0 some in
    rw (z, e) refl

at_none : (r : Reader) (look : LookUps) (number : ℕ) (s : Playing) (handed : Lent) (d m : VoiceDesk) →
    s.voice.new_note ≡ 0 → Ticking number r s handed d m → AtCommand r look number s handed d m
at_none r look number s handed d m none here = record {
  u = s;
  here = here;
  command_is = refl;
  param_is = refl;
  note = not_starts s s.voice.new_note none (starts_none s none);
  is =
      ap
      (λ x. cleared (row_command (r.voice + 1) look (look.instrument number) s.voice.new_command s.voice.new_param x))
      (none_started (look.instrument number) s none);
}

at_slide : (r : Reader) (look : LookUps) (number : ℕ) (s : Playing) (handed : Lent) (d m : VoiceDesk) →
    s.voice.new_note ≢ 0 → s.voice.new_command ≡ 3 →
    Ticking number r (cleared (noted (look.instrument number) s)) handed d m →
    AtCommand r look number s handed d m
at_slide r look number s handed d m some slides here = record {
  u = cleared (noted (look.instrument number) s);
  here = here;
  command_is = refl;
  param_is = refl;
  note = not_starts s 0 refl (starts_slide s some slides);
  is =
      slide_same (r.voice + 1) look (look.instrument number) s.voice.new_command s.voice.new_param s slides
      ∙ ap
      (λ x. cleared (row_command (r.voice + 1) look (look.instrument number) s.voice.new_command s.voice.new_param x))
      (slide_started (look.instrument number) s some slides);
}

at_sound : (r : Reader) (look : LookUps) (number : ℕ) (s : Playing) (handed : Lent) (d m : VoiceDesk) →
    s.voice.new_note ≢ 0 → s.voice.new_command ≢ 3 →
    Ticking number r (sounding (look.instrument number) s) handed d m → AtCommand r look number s handed d m
at_sound r look number s handed d m some sounds here =
    let row = note_row (look.instrument number) s in record {
      u = note_started (look.instrument number) s;
      here = ticking_as number r _ _ handed d m (sound_started (look.instrument number) s some sounds) here;
      command_is = row.new_command;
      param_is = row.new_param;
      note =
          does_start s (note_started (look.instrument number) s).voice.new_note (λ none. some (sym row.new_note ∙ none))
          (starts_sound s some sounds);
      is = refl;
    }

-- ---- whether it slides

record AtBegins (r : Reader) (look : LookUps) (number : ℕ) (s : Playing) (handed : Lent) (d m : VoiceDesk)
    : Type 0 where
  at : Ticking number r (noted (look.instrument number) s) handed d m
  sounds : s.voice.new_command ≢ 3

begins_leads : (r : Reader) (look : LookUps) (number : ℕ) (s : Playing) (handed : Lent) (d : VoiceDesk)
    (ways : Ways) (m : VoiceDesk) → r.layout.holds ROW_COMMAND ≡ true → s.voice.new_note ≢ 0 →
    s.voice.new_command < 256 → Ticking number r (noted (look.instrument number) s) handed d m →
    Leads r (body_of STARTS tick_tree)
    (in_scope STARTS (done_as (AtBegins r look number s handed d)
    (in_scope TAKEN (done_as (AtCommand r look number s handed d) ways)))) m
begins_leads r look number s handed d ways m command some small at = (
  λ other. record {
    at = record { done = done_over r.layout.holds r.voice _ handed d m _ refl refl refl at.done; y_is = at.y_is };
    sounds = λ e. both_ways _ (not-true _ other) (turned ∙ eq-eqb s.voice.new_command 3 e);
  },
  λ slides.
      let none : bit_xor (m.own NEW_COMMAND) 3 ≡ 0 = eqb-true (bit_xor (m.own NEW_COMMAND) 3) 0 (not-false _ slides)
      in (
        λ met.
            at_slide r look number s handed d _ some
            (eqb-true s.voice.new_command 3 (sym turned ∙ not-false _ slides)) (record {
              done =
                  own_done r.layout.holds r.voice (noted i s) (cleared (noted i s)) handed d m _ refl refl refl
                  (assumption (none, at.done.fields)) (assumption at.done.song) at.done;
              y_is = at.y_is;
            }),
        λ unmet. both_ways _ unmet (not-false _ slides),
      ),
)
  where
    i : Instrument
    i = look.instrument number

    turned : nat_eq (bit_xor (m.own NEW_COMMAND) 3) 0 ≡ nat_eq s.voice.new_command 3
    turned = ap (λ n. nat_eq (bit_xor n 3) 0) (at.done.fields.new_command command) ∙ is_slide s.voice.new_command small

-- ---- the note

abbrev delay_tree : Tree
delay_tree = past 6 (body_of TAKEN tick_tree)

abbrev taken : Playing → Playing
taken s = record s { voice = record s.voice { note = (s.voice.new_note + 256 - 0x60) % 256 } }

-- where no delay is kept, neither the instrument nor the voice has one
delay_leads : (r : Reader) (look : LookUps) (number : ℕ) (s : Playing) (handed : Lent) (d : VoiceDesk)
    (ways : Ways) (m : VoiceDesk) → InstrumentAt r look number →
    KeepsInstrument r.layout (look.instrument number) s.voice.vib_delay →
    Ticking number r (taken s) handed d m →
    Leads r (first_of delay_tree) (done_as (Ticking number r (noted (look.instrument number) s) handed d) ways) m
delay_leads r look number s handed d ways m ground keeps at = (
  λ kept.
      listed DELAYS number ((i.vibrato_delay + 255) % 256) (ground.delay kept) at.y_is
      (λ b e. record {
        done =
            own_done r.layout.holds r.voice (taken s) (noted i s) handed d m _ refl refl refl
            (assumption (e, at.done.fields)) (assumption at.done.song) at.done;
        y_is = at.y_is;
      }),
  λ out. ticking_as number r (taken s) (noted i s) handed d m (same_delay (none out)) at,
)
  where
    i : Instrument
    i = look.instrument number

    none : r.layout.holds VIBRATO_DELAY ≡ false → s.voice.vib_delay ≡ i.vibrato_delay
    none out =
        none_unkept r.layout VIBRATO_DELAY s.voice.vib_delay keeps.waits out
        ∙ sym (none_unkept r.layout VIBRATO_DELAY i.vibrato_delay keeps.delay out)

    same_delay : s.voice.vib_delay ≡ i.vibrato_delay → taken s ≡ noted i s
    same_delay e = ap (λ n. record (taken s) { voice = record (taken s).voice { vib_delay = n } }) e

-- A is the note that waits
taken_leads : (r : Reader) (look : LookUps) (number : ℕ) (s : Playing) (handed : Lent) (d : VoiceDesk)
    (ways : Ways) (m : VoiceDesk) → InstrumentAt r look number →
    KeepsInstrument r.layout (look.instrument number) s.voice.vib_delay →
    KeepsRow r.layout s.voice.new_command → KeepsShared r.layout → s.voice.new_note ≢ 0 →
    s.voice.new_command < 256 → Ticking number r (taken s) handed d m →
    Leads r delay_tree (in_scope TAKEN (done_as (AtCommand r look number s handed d) ways)) m
taken_leads r look number s handed d ways m ground keeps row shared some small at =
    goes_on true r (first_of delay_tree) (behind delay_tree) (Ticking number r (noted i s) handed d) goal m
    (delay_leads r look number s handed d goal m ground keeps at) on
  where
    i : Instrument
    i = look.instrument number

    goal : Ways
    goal = in_scope TAKEN (done_as (AtCommand r look number s handed d) ways)

    sounds : (k : VoiceDesk) → s.voice.new_command ≢ 3 → Ticking number r (noted i s) handed d k →
        Leads r sound_tree goal k
    sounds k apart at =
        sound_leads r look number s.voice.vib_delay s handed d ways (AtCommand r look number s handed d) k
        (λ l sounds. at_sound r look number s handed d l some apart sounds) ground keeps at

    -- from behind the delay on
    on : (k : VoiceDesk) → Ticking number r (noted i s) handed d k → Leads r (behind delay_tree) goal k
    on k at = (
      λ kept.
          joined true r STARTS (body_of STARTS tick_tree) (rest_of STARTS tick_tree)
          (AtBegins r look number s handed d) (done_as (Leads r sound_tree goal) goal) k
          (begins_leads r look number s handed d ways k (shared.tone kept) some small at)
          (λ l begins. sounds l begins.sounds begins.at),
      λ out. sounds k (λ slides. both_ways (r.layout.holds ROW_TONE) out (row.tone slides)) at,
    )

pub note_leads : (r : Reader) (look : LookUps) (number : ℕ) (s : Playing) (handed : Lent) (d : VoiceDesk)
    (ways : Ways) (m : VoiceDesk) → InstrumentAt r look number →
    KeepsInstrument r.layout (look.instrument number) s.voice.vib_delay →
    KeepsRow r.layout s.voice.new_command → KeepsShared r.layout → s.voice.new_command < 256 →
    Ticking number r s handed d m →
    Leads r (body_of TAKEN tick_tree) (in_scope TAKEN (done_as (AtCommand r look number s handed d) ways)) m
note_leads r look number s handed d ways m ground keeps row shared small at = (
  λ zero.
      at_none r look number s handed d _ (sym note ∙ eqb-true (m.own NEW_NOTE) 0 zero) (record {
        done = done_over r.layout.holds r.voice s handed d m _ refl refl refl at.done;
        y_is = at.y_is;
      }),
  λ not_zero.
      let note_taken_is = note_is (m.own NEW_NOTE) s.voice.new_note note in
      taken_leads r look number s handed d ways quiet ground keeps row shared
      (λ e. eqb-false (m.own NEW_NOTE) 0 not_zero (note ∙ e)) small
      (record {
        done =
            own_done r.layout.holds r.voice s (taken s) handed d m quiet refl refl refl
            (assumption (note_taken_is, at.done.fields)) (assumption at.done.song) at.done;
        y_is = at.y_is;
      }),
)
  where
    note : m.own NEW_NOTE ≡ s.voice.new_note
    note = at.done.fields.new_note

    sum : ℕ
    sum = m.own NEW_NOTE + 159 + 1

    rest : ℕ
    rest = bit_and (sum % 256) 0x7F

    quiet : VoiceDesk
    quiet = record m {
      own = put m.own NOTE rest;
      a = rest;
      c = nat_le 256 sum;
      z = nat_eq rest 0;
      n = nat_le 128 rest;
    }
