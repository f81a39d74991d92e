-- The sound of a note begins: the first frame's waveform, the instrument's programs and its envelope.
use Rattle.std.proofs.Common.{◌≡◌, ◌≢◌, ℕ, ◌+◌, ◌<◌, ◌≤◌, ◌⊎◌, true, false, nat_eq, nat_le, inl, inr}
use Rattle.std.proofs.Common.{if◌then◌else◌, refl, sym, ap, ◌∙◌}
use Rattle.std.proofs.lemmas.Bool.{eqb-true, eqb-false, both_ways, cases_lt, lt-leb}
use Rattle.code_runs.specs.Runs.{put}
use Rattle.song_model.specs.declared.instruments.Instrument.{Instrument}
use Rattle.song_facts.specs.Facts.{IsMask}
use Rattle.play_model.specs.LookUps.{LookUps}
use Rattle.play_model.specs.State.{Voice, Common, Playing}
use Rattle.play_model.specs.TickStep.{tempo_of, note_taken, first_wave_set, sound_begun}
use Rattle.player_memory.specs.declared.conditions.TheConstants.{FIRST_MASK, NOTE_VIBRATO, NOTE_PULSE, NOTE_FILTER}
use Rattle.player_memory.specs.declared.conditions.TheConstants.{WAVE_DELAY, EFFECTS}
use Rattle.player_memory.specs.declared.labels.TheConstants.{WAVE, GATE, FILTER_POINTER, FILTER_TIME, WAVES, ADS, SRS}
use Rattle.player_memory.specs.declared.labels.TheConstants.{COMMAND, WAVE_TIME, PARAM, VIBRATOS, FIRST_WAVES, PULSES}
use Rattle.player_memory.specs.declared.labels.TheConstants.{ONE_WAVE}
use Rattle.player_memory.specs.declared.labels.TheConstants.{FILTERS}
use Rattle.player_desk.proofs.Laws.{VoiceDesk, Reader, Ways, Leads, done_as, in_scope, body_of, rest_of, joined}
use Rattle.player_desk.proofs.Laws.{goes_on, loaded, Lent, Done, own_done, done_over, listed, alone}
use Rattle.player_text.specs.declared.joints.TheConstants.{TAKEN}
use Rattle.player_text.specs.declared.tick.TheConstants.{MASKED, MASK, NO_PULSE, NO_FILTER}
use Rattle.scopes.specs.Trees.{Tree}
use Rattle.tick_code.specs.TickBlock.{tick_tree, KeepsInstrument}
use Rattle.command_code.proofs.Laws.{shared_done, tempos_kept}
use Rattle.tick_code.proofs.Pieces.{first_of, behind, chosen, sound_tree}
use Rattle.tick_code.proofs.TickDesks.{Ticking, ticking_as, done_as_is, none_unkept, not_held, if_so, if_not}
use Rattle.tick_code.proofs.TickGrounds.{InstrumentAt}
use Rattle.tick_code.proofs.NoteRules.{noted, wave_same, wave_mask, wave_plain}

-- ---- the first frame's waveform

-- the lines for a first waveform that is a mask are kept where the instrument's is one
abbrev KeepsMask : Reader → LookUps → ℕ → Type 0
KeepsMask r look number = IsMask (look.instrument number) → r.layout.holds FIRST_MASK ≡ true

-- a delay of the wave program begins anew
abbrev waved : Voice → Playing → Playing
waved v s = record s { voice = record v { wave_time = 0 } }

masked_leads : (r : Reader) (look : LookUps) (number : ℕ) (s : Playing) (v : Voice) (handed : Lent) (d : VoiceDesk)
    (ways : Ways) (m : VoiceDesk) → InstrumentAt r look number → KeepsMask r look number →
    Ticking number r (waved v s) handed d m →
    Leads r (body_of MASKED tick_tree)
    (in_scope MASKED (done_as
    (Ticking number r (waved (first_wave_set (look.instrument number).first_wave v) s) handed d) ways)) m
masked_leads r look number s v handed d ways m ground keeps at = (
  λ own. listed FIRST_WAVES number wave (ground.first_wave own) at.y_is loads,
  λ one. alone ONE_WAVE wave (ground.one_wave one) loads,
)
  where
    wave : ℕ
    wave = (look.instrument number).first_wave

    goal : Ways
    goal =
        in_scope MASKED (done_as
        (Ticking number r (waved (first_wave_set (look.instrument number).first_wave v) s) handed d) ways)

    done : Done r.layout.holds r.voice (waved v s) handed d m
    done = at.done

    plain : (n : VoiceDesk) (b : ℕ) → b ≡ wave → n.own ≡ put (put m.own WAVE b) GATE 0xFF → n.shared ≡ m.shared →
        n.sid ≡ m.sid → wave ≢ 0 → nat_le 0xFE wave ≡ false →
        Done r.layout.holds r.voice (waved (first_wave_set wave v) s) handed d n
    plain n b e own shared sid some low =
        done_as_is r _ _ handed d n (ap (λ x. waved x s) (wave_plain wave v some low))
        (own_done r.layout.holds r.voice (waved v s) (waved (record v { wave = wave; gate = 0xFF }) s) handed d m n
        shared sid refl (rw own (assumption (e, done.fields))) (rw own (assumption done.song)) done)

    below : r.layout.holds FIRST_MASK ≡ false → (wave < 0xFE) ⊎ (0xFE ≤ wave) → nat_le 0xFE wave ≡ false
    below out (inl low) = lt-leb 0xFE wave low
    below out (inr high) = absurd (both_ways (r.layout.holds FIRST_MASK) out (keeps (inr high)))

    -- A is the first waveform
    loads : (b : ℕ) → b ≡ wave →
        Leads r (behind (body_of MASK tick_tree))
        (in_scope MASK (done_as (Leads r (rest_of MASK tick_tree) goal) goal)) (loaded b m)
    loads b e = (
      λ kept. (
        λ zero. record {
          done =
              done_as_is r _ _ handed d _ (ap (λ x. waved x s) (wave_same wave v (sym e ∙ eqb-true b 0 zero)))
              (done_over r.layout.holds r.voice (waved v s) handed d m _ refl refl refl done);
          y_is = at.y_is;
        },
        λ some. (
          λ mask. record {
            done =
                done_as_is r _ _ handed d _
                (ap (λ x. waved x s) (wave_mask wave v (ap (λ n. nat_le 0xFE n) (sym e) ∙ mask)))
                (own_done r.layout.holds r.voice (waved v s) (waved (record v { gate = wave }) s) handed d m _ refl refl
                refl (assumption (e, done.fields)) (assumption done.song) done);
            y_is = at.y_is;
          },
          λ low. record {
            done =
                plain _ b e refl refl refl (λ none. eqb-false b 0 some (e ∙ none))
                (ap (λ n. nat_le 0xFE n) (sym e) ∙ low);
            y_is = at.y_is;
          },
        ),
      ),
      λ out. record {
        done =
            plain _ b e refl refl refl (λ none. both_ways (r.layout.holds FIRST_MASK) out (keeps (inl none)))
            (below out (cases_lt wave 0xFE));
        y_is = at.y_is;
      },
    )

-- ---- the programs

abbrev pulse_begun : Instrument → Playing → Playing
pulse_begun i s = record s {
  voice = record s.voice {
    pulse_ptr = if nat_eq i.pulse 0 then s.voice.pulse_ptr else i.pulse;
    pulse_time = if nat_eq i.pulse 0 then s.voice.pulse_time else 0;
  };
}

abbrev filter_begun : Instrument → Common → Common
filter_begun i c = record c {
  filter_ptr = if nat_eq i.filter 0 then c.filter_ptr else i.filter;
  filter_time = if nat_eq i.filter 0 then c.filter_time else 0;
}

abbrev wave_begun : Instrument → Playing → Playing
wave_begun i s = record s { voice = record s.voice { wave_ptr = i.wave; ad = i.ad; sr = i.sr } }

pulse_leads : (r : Reader) (look : LookUps) (number : ℕ) (s : Playing) (handed : Lent) (d : VoiceDesk)
    (ways : Ways) (m : VoiceDesk) → InstrumentAt r look number → r.layout.holds NOTE_PULSE ≡ true →
    Ticking number r s handed d m → Leads r (body_of NO_PULSE tick_tree)
    (in_scope NO_PULSE (done_as (Ticking number r (pulse_begun (look.instrument number) s) handed d) ways)) m
pulse_leads r look number s handed d ways m ground kept at =
    let done : Done r.layout.holds r.voice s handed d m = at.done in
    let pulse = (look.instrument number).pulse in
    listed PULSES number pulse (ground.pulse kept) at.y_is
    (λ b e. (
      λ zero.
          let test : nat_eq pulse 0 ≡ true = ap (λ n. nat_eq n 0) (sym e) ∙ zero in
          let ptr = if_so (nat_eq pulse 0) s.voice.pulse_ptr pulse _ test done.fields.pulse_ptr in
          let time = if_so (nat_eq pulse 0) s.voice.pulse_time 0 _ test done.fields.pulse_time in record {
            done =
                own_done r.layout.holds r.voice s (pulse_begun (look.instrument number) s) handed d m _ refl refl refl
                (assumption (ptr, time, done.fields)) (assumption done.song) done;
            y_is = at.y_is;
          },
      λ some.
          let test : nat_eq pulse 0 ≡ false = ap (λ n. nat_eq n 0) (sym e) ∙ some in
          let ptr = if_not (nat_eq pulse 0) s.voice.pulse_ptr pulse b test e in
          let time = if_not (nat_eq pulse 0) s.voice.pulse_time 0 0 test refl in record {
            done =
                own_done r.layout.holds r.voice s (pulse_begun (look.instrument number) s) handed d m _ refl refl refl
                (assumption (ptr, time, done.fields)) (assumption done.song) done;
            y_is = at.y_is;
          },
    ))

filter_leads : (r : Reader) (look : LookUps) (number : ℕ) (s : Playing) (handed : Lent) (d : VoiceDesk)
    (ways : Ways) (m : VoiceDesk) → InstrumentAt r look number → r.layout.holds NOTE_FILTER ≡ true →
    Ticking number r s handed d m → Leads r (body_of NO_FILTER tick_tree)
    (in_scope NO_FILTER (done_as
    (Ticking number r (record s { common = filter_begun (look.instrument number) s.common }) handed d) ways)) m
filter_leads r look number s handed d ways m ground kept at =
    let done : Done r.layout.holds r.voice s handed d m = at.done in
    let filter = (look.instrument number).filter in
    let common = filter_begun (look.instrument number) s.common in
    let tempo = λ (its : ℕ). tempo_of (its + 1) s.common in
    listed FILTERS number filter (ground.filter kept) at.y_is
    (λ b e. (
      λ zero.
          let test : nat_eq filter 0 ≡ true = ap (λ n. nat_eq n 0) (sym e) ∙ zero in
          let ptr = if_so (nat_eq filter 0) s.common.filter_ptr filter _ test done.common.filter_ptr in
          let time = if_so (nat_eq filter 0) s.common.filter_time 0 _ test done.common.filter_time in record {
            done =
                shared_done r.layout.holds r.voice s common handed d m _ refl refl refl done.tempos
                (assumption (ptr, time, done.common))
                done.lent done;
            y_is = at.y_is;
          },
      λ some.
          let test : nat_eq filter 0 ≡ false = ap (λ n. nat_eq n 0) (sym e) ∙ some in
          let ptr = if_not (nat_eq filter 0) s.common.filter_ptr filter b test e in
          let time = if_not (nat_eq filter 0) s.common.filter_time 0 0 test refl in record {
            done =
                shared_done r.layout.holds r.voice s common handed d m _ refl refl refl
                (tempos_kept r.voice FILTER_TIME 0 (put m.shared FILTER_POINTER b) tempo refl refl refl
                (tempos_kept r.voice FILTER_POINTER b m.shared tempo refl refl refl done.tempos))
                (assumption (ptr, time, done.common)) (assumption done.lent) done;
            y_is = at.y_is;
          },
    ))

-- the time of a delay, and the command and its parameter
-- the two sides of the first line
abbrev effects_tree : Tree
effects_tree = behind (chosen (first_of sound_tree))

abbrev effect_tree : Tree
effect_tree = behind effects_tree

abbrev pulse_tree : Tree
pulse_tree = rest_of MASKED tick_tree

abbrev filter_tree : Tree
filter_tree = behind pulse_tree

-- the wave program and the envelope
wave_leads : (r : Reader) (look : LookUps) (number : ℕ) (s : Playing) (handed : Lent) (d : VoiceDesk)
    (ways : Ways) (Q : VoiceDesk → Type 0) (m : VoiceDesk) →
    ((n : VoiceDesk) → Ticking number r (wave_begun (look.instrument number) s) handed d n → Q n) →
    InstrumentAt r look number → Ticking number r s handed d m →
    Leads r (behind filter_tree) (in_scope TAKEN (done_as Q ways)) m
wave_leads r look number s handed d ways Q m into ground at =
    let done : Done r.layout.holds r.voice s handed d m = at.done in
    listed WAVES number (look.instrument number).wave ground.wave at.y_is
    (λ a wave.
    listed ADS number (look.instrument number).ad ground.ad at.y_is
    (λ b ad.
    listed SRS number (look.instrument number).sr ground.sr at.y_is
    (λ c sr.
    into _ (record {
      done =
          own_done r.layout.holds r.voice s (wave_begun (look.instrument number) s) handed d m _ refl refl refl
          (assumption (wave, ad, sr, done.fields)) (assumption done.song) done;
      y_is = at.y_is;
    }))))

-- ---- the whole

-- where the instrument has no pulse program, or no filter program, none is begun
no_pulse : (i : Instrument) (s : Playing) → i.pulse ≡ 0 → s ≡ pulse_begun i s
no_pulse i s none = rw none refl

no_filter : (i : Instrument) (s : Playing) → i.filter ≡ 0 → s ≡ record s { common = filter_begun i s.common }
no_filter i s none = rw none refl

-- the sound of the note
abbrev pub sounding : Instrument → Playing → Playing
sounding i s = sound_begun i (record s { voice = note_taken i s.voice })

-- from the first frame's waveform on
begun_leads : (r : Reader) (look : LookUps) (number waits : ℕ) (s : Playing) (handed : Lent) (d : VoiceDesk)
    (ways : Ways) (Q : VoiceDesk → Type 0) (m : VoiceDesk) →
    ((n : VoiceDesk) → Ticking number r (sounding (look.instrument number) s) handed d n → Q n) →
    InstrumentAt r look number → KeepsInstrument r.layout (look.instrument number) waits →
    Ticking number r (waved (note_taken (look.instrument number) s.voice) s) handed d m →
    Leads r (behind sound_tree) (in_scope TAKEN (done_as Q ways)) m
begun_leads r look number waits s handed d ways Q m into ground keeps at =
    joined true r MASKED (body_of MASKED tick_tree) pulse_tree (Ticking number r first handed d) goal m
    (masked_leads r look number s (note_taken i s.voice) handed d goal m ground keeps.mask at) pulses
  where
    i : Instrument
    i = look.instrument number

    first : Playing
    first = waved (first_wave_set i.first_wave (note_taken i s.voice)) s

    second : Playing
    second = record (pulse_begun i first) { common = filter_begun i s.common }

    goal : Ways
    goal = in_scope TAKEN (done_as Q ways)

    filters : (k : VoiceDesk) → Ticking number r (pulse_begun i first) handed d k → Leads r filter_tree goal k
    filters k at = (
      λ kept.
          joined true r NO_FILTER (body_of NO_FILTER tick_tree) (rest_of NO_FILTER tick_tree)
          (Ticking number r second handed d) (done_as (Leads r (behind filter_tree) goal) goal) k
          (filter_leads r look number (pulse_begun i first) handed d
          (done_as (Leads r (behind filter_tree) goal) goal) k ground kept at)
          (λ l filtered. wave_leads r look number second handed d ways Q l into ground filtered),
      λ out.
          wave_leads r look number second handed d ways Q k into ground
          (ticking_as number r (pulse_begun i first) second handed d k
          (no_filter i (pulse_begun i first) (none_unkept r.layout NOTE_FILTER i.filter keeps.filter out)) at),
    )

    pulses : (n : VoiceDesk) → Ticking number r first handed d n → Leads r pulse_tree goal n
    pulses n at = (
      λ kept.
          joined true r NO_PULSE (body_of NO_PULSE tick_tree) (rest_of NO_PULSE tick_tree)
          (Ticking number r (pulse_begun i first) handed d) (done_as (Leads r filter_tree goal) goal) n
          (pulse_leads r look number first handed d (done_as (Leads r filter_tree goal) goal) n ground kept at) filters,
      λ out.
          filters n (ticking_as number r first (pulse_begun i first) handed d n
          (no_pulse i first (none_unkept r.layout NOTE_PULSE i.pulse keeps.pulse out)) at),
    )

-- a delay of the wave program begins anew, or there is none
delay_begun : (number : ℕ) (r : Reader) (s : Playing) (handed : Lent) (d m n : VoiceDesk) →
    Ticking number r s handed d m → n.own ≡ put m.own WAVE_TIME 0 → n.shared ≡ m.shared → n.sid ≡ m.sid → n.y ≡ m.y →
    Ticking number r (waved s.voice s) handed d n
delay_begun number r s handed d m n at own shared sid y =
    let done : Done r.layout.holds r.voice s handed d m = at.done in record {
      done =
          own_done r.layout.holds r.voice s (waved s.voice s) handed d m n shared sid refl
          (rw own (assumption done.fields)) (rw own (assumption done.song)) done;
      y_is = y ∙ at.y_is;
    }

no_delay : (number : ℕ) (r : Reader) (s : Playing) (handed : Lent) (d m : VoiceDesk) →
    r.layout.holds WAVE_DELAY ≡ false → Ticking number r s handed d m → Ticking number r (waved s.voice s) handed d m
no_delay number r s handed d m off at =
    let done : Done r.layout.holds r.voice s handed d m = at.done in
    let untimed = not_held r WAVE_DELAY (m.own WAVE_TIME) 0 off in record {
      done =
          own_done r.layout.holds r.voice s (waved s.voice s) handed d m m refl refl refl
          (assumption (untimed, done.fields)) (assumption done.song) done;
      y_is = at.y_is;
    }

-- A is 0, and a delay of the wave program begins anew
record AtTimed (number : ℕ) (r : Reader) (s : Playing) (handed : Lent) (d m : VoiceDesk) : Type 0 where
  at : Ticking number r (waved s.voice s) handed d m
  a : m.a ≡ 0

timed_leads : (r : Reader) (number : ℕ) (s : Playing) (handed : Lent) (d : VoiceDesk) (ways : Ways) (m : VoiceDesk) →
    m.a ≡ 0 → Ticking number r s handed d m →
    Leads r (first_of effects_tree) (done_as (AtTimed number r s handed d) ways) m
timed_leads r number s handed d ways m zero at =
    let done : Done r.layout.holds r.voice s handed d m = at.done in (
      λ on. record { at = delay_begun number r s handed d m _ at (ap (put m.own WAVE_TIME) zero) refl refl refl; a = zero },
      λ off. record { at = no_delay number r s handed d m off at; a = zero },
    )

-- the note has no command, and for its parameter the instrument's vibrato
effect_leads : (r : Reader) (look : LookUps) (number waits : ℕ) (s : Playing) (handed : Lent) (d : VoiceDesk)
    (ways : Ways) (m : VoiceDesk) → InstrumentAt r look number →
    KeepsInstrument r.layout (look.instrument number) waits →
    AtTimed number r (noted (look.instrument number) s) handed d m →
    Leads r effect_tree
    (done_as (Ticking number r (waved (note_taken (look.instrument number) s.voice) s) handed d) ways) m
effect_leads r look number waits s handed d ways m ground keeps timed = (
  λ kept.
      listed VIBRATOS number vibrato (ground.vibrato kept) timed.at.y_is
      (λ b e. record { done = begun _ b e refl refl refl; y_is = timed.at.y_is }),
  λ out. record {
    done =
        begun _ m.a (timed.a ∙ sym (none_unkept r.layout NOTE_VIBRATO vibrato keeps.vibrato out)) refl refl refl;
    y_is = timed.at.y_is;
  },
)
  where
    i : Instrument
    i = look.instrument number

    vibrato : ℕ
    vibrato = i.vibrato

    before : Playing
    before = waved (noted i s).voice (noted i s)

    after : Playing
    after = waved (note_taken i s.voice) s

    begun : (n : VoiceDesk) (b : ℕ) → b ≡ vibrato → n.own ≡ put (put m.own COMMAND m.a) PARAM b →
        n.shared ≡ m.shared → n.sid ≡ m.sid → Done r.layout.holds r.voice after handed d n
    begun n b e own shared sid =
        let zero : m.a ≡ 0 = timed.a in
        let done : Done r.layout.holds r.voice before handed d m = timed.at.done in
        own_done r.layout.holds r.voice before after handed d m n shared sid refl
        (rw own (assumption (zero, e, done.fields))) (rw own (assumption done.song)) done

-- where no command may run the note has none, whatever its bytes are
no_effect : (number : ℕ) (r : Reader) (i : Instrument) (s : Playing) (handed : Lent) (d m : VoiceDesk) →
    r.layout.holds EFFECTS ≡ false → Ticking number r (waved (noted i s).voice (noted i s)) handed d m →
    Ticking number r (waved (note_taken i s.voice) s) handed d m
no_effect number r i s handed d m off at =
    let no_command = not_held r EFFECTS (m.own COMMAND) 0 off in
    let no_param = not_held r EFFECTS (m.own PARAM) i.vibrato off in
    let done : Done r.layout.holds r.voice (waved (noted i s).voice (noted i s)) handed d m = at.done in record {
      done =
          own_done r.layout.holds r.voice (waved (noted i s).voice (noted i s)) (waved (note_taken i s.voice) s) handed d
          m m refl refl refl (assumption (no_command, no_param, done.fields)) (assumption done.song) done;
      y_is = at.y_is;
    }

pub sound_leads : (r : Reader) (look : LookUps) (number waits : ℕ) (s : Playing) (handed : Lent) (d : VoiceDesk)
    (ways : Ways) (Q : VoiceDesk → Type 0) (m : VoiceDesk) →
    ((n : VoiceDesk) → Ticking number r (sounding (look.instrument number) s) handed d n → Q n) →
    InstrumentAt r look number → KeepsInstrument r.layout (look.instrument number) waits →
    Ticking number r (noted (look.instrument number) s) handed d m →
    Leads r sound_tree (in_scope TAKEN (done_as Q ways)) m
sound_leads r look number waits s handed d ways Q m into ground keeps at =
    goes_on true r (first_of sound_tree) (behind sound_tree)
    (Ticking number r (waved (note_taken i s.voice) s) handed d) goal m (
      λ on.
          goes_on true r (first_of effects_tree) effect_tree (AtTimed number r (noted i s) handed d) taken (loaded 0 m)
          (timed_leads r number (noted i s) handed d taken (loaded 0 m) refl (record {
            done = done_over r.layout.holds r.voice (noted i s) handed d m _ refl refl refl at.done;
            y_is = at.y_is;
          }))
          (λ n timed. effect_leads r look number waits s handed d goal n ground keeps timed),
      λ off. (
        λ delay.
            no_effect number r i s handed d _ off
            (delay_begun number r (noted i s) handed d m _ at refl refl refl refl),
        λ none. no_effect number r i s handed d m off (no_delay number r (noted i s) handed d m none at),
      ),
    )
    (λ k at. begun_leads r look number waits s handed d ways Q k into ground keeps at)
  where
    i : Instrument
    i = look.instrument number

    goal : Ways
    goal = in_scope TAKEN (done_as Q ways)

    taken : Ways
    taken = done_as (Ticking number r (waved (note_taken i s.voice) s) handed d) goal
