-- The row's command is done: one from 0 to 4 runs from now on, another one is done once.
use Rattle.std.proofs.Common.{◌≡◌, ◌≢◌, ℕ, ◌+◌, ◌<◌, ◌≤◌, ◌⊎◌, true, false}
use Rattle.std.proofs.Common.{inl, inr, refl, sym, ◌∙◌, arith}
use Rattle.std.proofs.lemmas.Bool.{leb-true, leb-false, eqb-true, eqb-false, both_ways, cases_lt}
use Rattle.std.proofs.lemmas.Bool.Decides.{eqb_tells}
use Rattle.code_runs.specs.Runs.{put}
use Rattle.song_model.specs.declared.instruments.Instrument.{Instrument}
use Rattle.song_facts.specs.Facts.{HasVibrato}
use Rattle.play_model.specs.LookUps.{LookUps}
use Rattle.play_model.specs.State.{Voice, Playing}
use Rattle.play_model.specs.TickStep.{tempo_of, row_command}
use Rattle.player_memory.specs.declared.conditions.TheConstants.{ROW_COMMAND, ROW_SLIDE, ROW_ONCE, NOTE_VIBRATO}
use Rattle.player_memory.specs.declared.conditions.TheConstants.{EFFECTS, SWINGS}
use Rattle.player_memory.specs.declared.labels.TheConstants.{NEW_COMMAND, NEW_PARAM, COMMAND, PARAM, VIBRATOS}
use Rattle.player_memory.specs.declared.labels.TheConstants.{VIB_TIME}
use Rattle.player_memory.specs.Commands.{KeepsTempo}
use Rattle.player_memory.specs.FactLines.{KeepsShared}
use Rattle.player_desk.proofs.Laws.{VoiceDesk, Reader, Ways, Leads, done_as, in_scope, body_of, rest_of, joined, loaded}
use Rattle.player_desk.proofs.Laws.{indexed, Lent, Done, own_done, done_over, done_by, listed, kept_lead, unkept_lead}
use Rattle.player_desk.proofs.Laws.{Fields, SameSong, goes_on}
use Rattle.player_text.specs.declared.joints.TheConstants.{DONE}
use Rattle.player_text.specs.declared.tick.TheConstants.{ONCE, SETTLED, BARE}
use Rattle.tick_code.specs.TickBlock.{tick_tree, KeepsCommand, KeepsRow}
use Rattle.tick_code.proofs.Pieces.{first_of, behind, under, running_tree, once_tree}
use Rattle.tick_code.proofs.TickDesks.{Ticking, none_unkept, not_held}
use Rattle.tick_code.proofs.TickGrounds.{InstrumentAt, SpeedAt}
use Rattle.tick_code.proofs.Commands.{row_vibrato, row_porta, row_runs}
use Rattle.tick_code.proofs.OnceChain.{Ended, once_leads}

-- A is the row's command, which is done once
record AtOnce (r : Reader) (c : ℕ) (u : Playing) (handed : Lent) (d m : VoiceDesk) : Type 0 where
  done : Done r.layout.holds r.voice u handed d m
  a : m.a ≡ c
  from : 5 ≤ c

-- the command is one that is done once; or it has been done, where there is none such
data AtTaken (r : Reader) (look : LookUps) (i : Instrument) (c p : ℕ) (u : Playing) (handed : Lent) (d m : VoiceDesk)
    : Type 0 where
  Once : AtOnce r c u handed d m → AtTaken r look i c p u handed d m
  Over : r.layout.holds ROW_ONCE ≡ false → Ended r look i c p u handed d m → AtTaken r look i c p u handed d m

-- A is the parameter of the command that runs, where its byte is kept, and with it this voice is what the rule leaves
record AtSettled (r : Reader) (look : LookUps) (i : Instrument) (c p : ℕ) (u : Playing) (handed : Lent)
    (d m : VoiceDesk) : Type 0 where
  v : Voice
  param : ℕ
  done : Done r.layout.holds r.voice (record u { voice = v }) handed d m
  a : r.layout.holds EFFECTS ≡ true → m.a ≡ param
  is : record u { voice = record v { param = param } } ≡ row_command (r.voice + 1) look i c p u

-- where the row's command is settled
abbrev settled_ways : Reader → LookUps → Instrument → ℕ → ℕ → Playing → Lent → VoiceDesk → Ways → Ways
settled_ways r look i c p u handed d ways =
    in_scope SETTLED (done_as (AtSettled r look i c p u handed d)
    (in_scope ONCE (done_as (AtTaken r look i c p u handed d) ways)))

-- the lines that read an instrument's vibrato are kept where it has one
abbrev pub KeepsVibrato : Reader → LookUps → ℕ → Type 0
KeepsVibrato r look number = HasVibrato (look.instrument number) → r.layout.holds NOTE_VIBRATO ≡ true

-- there is no command, and A is 0 where its byte is kept
bare_leads : (r : Reader) (look : LookUps) (number c p : ℕ) (u : Playing) (handed : Lent) (d : VoiceDesk)
    (ways : Ways) (m : VoiceDesk) → InstrumentAt r look number → KeepsVibrato r look number → c ≡ 0 →
    (r.layout.holds EFFECTS ≡ true → m.a ≡ 0) → Ticking number r u handed d m →
    Leads r (rest_of BARE tick_tree) (settled_ways r look (look.instrument number) c p u handed d ways) m
bare_leads r look number c p u handed d ways m ground keeps none a at = (
  λ on. (
    λ kept. listed VIBRATOS number vibrato (ground.vibrato kept) at.y_is (λ b e. settles _ (a on) refl refl refl e),
    λ out. settles _ (a on) refl refl refl (a on ∙ sym (none_unkept r.layout NOTE_VIBRATO vibrato keeps out)),
  ),
  λ off.
      let no_command = not_held r EFFECTS (m.own COMMAND) 0 off in
      let done : Done r.layout.holds r.voice u handed d m = at.done in record {
        v = record u.voice { command = 0 };
        param = vibrato;
        done =
            own_done r.layout.holds r.voice u (record u { voice = record u.voice { command = 0 } }) handed d m m refl
            refl refl (assumption (no_command, done.fields)) (assumption done.song) done;
        a = not_held r EFFECTS m.a vibrato off;
        is = row_vibrato (r.voice + 1) look (look.instrument number) c p u none;
      },
)
  where
    vibrato : ℕ
    vibrato = (look.instrument number).vibrato

    settles : (n : VoiceDesk) → m.a ≡ 0 → n.own ≡ put m.own COMMAND m.a → n.shared ≡ m.shared → n.sid ≡ m.sid →
        n.a ≡ vibrato → AtSettled r look (look.instrument number) c p u handed d n
    settles n zero own shared sid is =
        let done : Done r.layout.holds r.voice u handed d m = at.done in
        record {
          v = record u.voice { command = 0 };
          param = vibrato;
          done =
              own_done r.layout.holds r.voice u (record u { voice = record u.voice { command = 0 } }) handed d m n
              shared sid refl (rw own (assumption (zero, done.fields))) (rw own (assumption done.song)) done;
          a = λ on. is;
          is = row_vibrato (r.voice + 1) look (look.instrument number) c p u none;
        }

-- A is the command, which runs
running_leads : (r : Reader) (look : LookUps) (number c p : ℕ) (u : Playing) (handed : Lent) (d : VoiceDesk)
    (ways : Ways) (m : VoiceDesk) → KeepsRow r.layout c → r.layout.holds ROW_COMMAND ≡ true → c ≢ 0 → c < 5 →
    u.voice.new_command ≡ c → u.voice.new_param ≡ p → m.a ≡ c → Done r.layout.holds r.voice u handed d m →
    Leads r running_tree (in_scope BARE (done_as
    (Leads r (rest_of BARE tick_tree) (settled_ways r look (look.instrument number) c p u handed d ways))
    (settled_ways r look (look.instrument number) c p u handed d ways))) m
running_leads r look number c p u handed d ways m keeps row some below command_is param_is a done =
    kept_lead true r ROW_SLIDE (under (first_of running_tree)) (behind running_tree)
    (in_scope BARE (done_as
    (Leads r (rest_of BARE tick_tree) (settled_ways r look i c p u handed d ways))
    (settled_ways r look i c p u handed d ways))) m
    (keeps.slide (omega (arith, some)) (omega (arith, below))) (
      λ on. (
        λ over. late (let z = leb-true 3 m.a over in omega (arith, z, a)) _ refl refl refl refl,
        λ few.
            early (let z = leb-false 3 m.a few in omega (arith, z, a)) _ refl refl refl (assumption (a, done.fields))
            (assumption done.song),
      ),
      λ off.
          let untimed = not_held r SWINGS (m.own VIB_TIME) 0 off in
          elim (cases_lt c 3) [
            | inl low ↦ early low _ refl refl refl (assumption (a, untimed, done.fields)) (assumption done.song)
            | inr high ↦ late high _ refl refl refl refl
          ],
    )
  where
    i : Instrument
    i = look.instrument number

    param : m.own NEW_PARAM ≡ p
    param = done.fields.new_param row (λ none. some (sym command_is ∙ none)) ∙ param_is

    -- from 3 on the vibrato goes on in time
    late : 3 ≤ c → (n : VoiceDesk) → n.own ≡ put m.own COMMAND m.a → n.shared ≡ m.shared → n.sid ≡ m.sid →
        n.a ≡ m.own NEW_PARAM → AtSettled r look i c p u handed d n
    late high n own shared sid same = record {
      v = record u.voice { command = c };
      param = p;
      done =
          own_done r.layout.holds r.voice u (record u { voice = record u.voice { command = c } }) handed d m n shared
          sid refl (rw own (assumption (a, done.fields))) (rw own (assumption done.song)) done;
      a = λ on. same ∙ param;
      is = row_runs (r.voice + 1) look i c p u high below;
    }

    -- and below 3 it begins anew
    anew : Voice
    anew = record u.voice { vib_time = 0; command = c }

    early : c < 3 → (n : VoiceDesk) → n.shared ≡ m.shared → n.sid ≡ m.sid → n.a ≡ m.own NEW_PARAM →
        Fields r.layout.holds anew (tempo_of (r.voice + 1) u.common) n.own → SameSong n.own d.own →
        AtSettled r look i c p u handed d n
    early low n shared sid same fields song = record {
      v = anew;
      param = p;
      done =
          own_done r.layout.holds r.voice u (record u { voice = anew }) handed d m n shared sid refl fields song done;
      a = λ on. same ∙ param;
      is = row_porta (r.voice + 1) look i c p u some low;
    }

settled_leads : (r : Reader) (look : LookUps) (number c p : ℕ) (u : Playing) (handed : Lent) (d : VoiceDesk)
    (ways : Ways) (m : VoiceDesk) → InstrumentAt r look number → KeepsRow r.layout c → KeepsVibrato r look number →
    KeepsShared r.layout → u.voice.new_command ≡ c → u.voice.new_param ≡ p → Ticking number r u handed d m →
    Leads r (body_of SETTLED tick_tree) (settled_ways r look (look.instrument number) c p u handed d ways) m
settled_leads r look number c p u handed d ways m ground keeps vibrato shared command_is param_is at =
    let done : Done r.layout.holds r.voice u handed d m = at.done in (
      λ kept.
          let command : m.own NEW_COMMAND ≡ c = done.fields.new_command kept ∙ command_is in (
            λ zero.
                let none : m.own NEW_COMMAND ≡ 0 = eqb-true (m.own NEW_COMMAND) 0 zero in
                bare (loaded (m.own NEW_COMMAND) m) (sym command ∙ none) (λ on. none) refl refl refl refl,
            λ not_zero.
                let some : c ≢ 0 = λ none. eqb-false (m.own NEW_COMMAND) 0 not_zero (command ∙ none) in (
                  λ kept_once. (
                    λ many. Once (record {
                      done = done_over r.layout.holds r.voice u handed d m _ refl refl refl done;
                      a = command;
                      from = (let z = leb-true 5 (m.own NEW_COMMAND) many in omega (arith, z, command));
                    }),
                    λ few.
                        running_leads r look number c p u handed d ways _ keeps kept some
                        (let z = leb-false 5 (m.own NEW_COMMAND) few in omega (arith, z, command)) command_is param_is
                        command (done_over r.layout.holds r.voice u handed d m _ refl refl refl done),
                  ),
                  λ out_once.
                      running_leads r look number c p u handed d ways (loaded (m.own NEW_COMMAND) m) keeps kept some
                      (below out_once (cases_lt c 5)) command_is param_is command
                      (done_over r.layout.holds r.voice u handed d m _ refl refl refl done),
                ),
          ),
      λ out.
          let none : c ≡ 0 = no_command out in (
            λ on. bare (loaded 0 m) none (λ on. refl) refl refl refl refl,
            λ off. bare m none (λ on. absurd (both_ways (r.layout.holds EFFECTS) off on)) refl refl refl refl,
          ),
    )
  where
    i : Instrument
    i = look.instrument number

    bare : (n : VoiceDesk) → c ≡ 0 → (r.layout.holds EFFECTS ≡ true → n.a ≡ 0) → n.own ≡ m.own → n.shared ≡ m.shared → n.sid ≡ m.sid → n.y ≡ m.y →
        Leads r (rest_of BARE tick_tree) (settled_ways r look i c p u handed d ways) n
    bare n none a own shared sid y =
        bare_leads r look number c p u handed d ways n ground vibrato none a
        (record { done = done_over r.layout.holds r.voice u handed d m n own shared sid at.done; y_is = y ∙ at.y_is })

    below : r.layout.holds ROW_ONCE ≡ false → (c < 5) ⊎ (5 ≤ c) → c < 5
    below out (inl low) = low
    below out (inr high) = absurd (both_ways (r.layout.holds ROW_ONCE) out (keeps.once high))

    no_row : r.layout.holds ROW_COMMAND ≡ false → (c < 5) ⊎ (5 ≤ c) → c ≢ 0 → ⊥
    no_row out (inl low) some =
        both_ways (r.layout.holds ROW_COMMAND) out
        (shared.slide (keeps.slide (omega (arith, some)) (omega (arith, low))))
    no_row out (inr high) some = both_ways (r.layout.holds ROW_COMMAND) out (shared.once (keeps.once high))

    no_command : r.layout.holds ROW_COMMAND ≡ false → c ≡ 0
    no_command out =
        elim (eqb_tells c 0) [
          | inl none ↦ none.1
          | inr some ↦ absurd (no_row out (cases_lt c 5) some.1)
        ]

-- Y is the instrument
pub command_leads : (r : Reader) (look : LookUps) (number c p : ℕ) (u : Playing) (handed : Lent) (d : VoiceDesk)
    (ways : Ways) (m : VoiceDesk) → r.voice < 3 → c < 256 → p < 256 → InstrumentAt r look number →
    KeepsCommand r.layout c p → KeepsRow r.layout c → KeepsTempo r.layout c p → KeepsVibrato r look number →
    KeepsShared r.layout → (c ≡ 0xE → p ≢ 0 → SpeedAt r look p) →
    u.voice.new_command ≡ c → u.voice.new_param ≡ p → Ticking number r u handed d m →
    Leads r (body_of DONE tick_tree)
    (in_scope DONE (done_as (Ended r look (look.instrument number) c p u handed d) ways)) m
command_leads r look number c p u handed d ways m voice few small ground keeps row tempo vibrato shared sides
    command_is param_is at =
    joined true r ONCE (body_of ONCE tick_tree) (rest_of ONCE tick_tree) (AtTaken r look i c p u handed d) goal m
    (joined true r SETTLED (body_of SETTLED tick_tree) (rest_of SETTLED tick_tree)
    (AtSettled r look i c p u handed d) runs m
    (settled_leads r look number c p u handed d goal m ground row vibrato shared command_is param_is at)
    (λ n settled.
    goes_on true r (first_of (rest_of SETTLED tick_tree)) (behind (rest_of SETTLED tick_tree))
    (Ended r look i c p u handed d) runs n
    (param_leads n settled) (λ k ended. (λ kept. ended, λ out. Over out ended))))
    (λ n taken. taken_leads n taken)
  where
    i : Instrument
    i = look.instrument number

    goal : Ways
    goal = in_scope DONE (done_as (Ended r look i c p u handed d) ways)

    runs : Ways
    runs = in_scope ONCE (done_as (AtTaken r look i c p u handed d) goal)

    -- the parameter stands, where its byte is kept
    settles : (k n : VoiceDesk) (settled : AtSettled r look i c p u handed d n) → k.shared ≡ n.shared →
        k.sid ≡ n.sid →
        Fields r.layout.holds (record settled.v { param = settled.param }) (tempo_of (r.voice + 1) u.common) k.own →
        SameSong k.own d.own → Ended r look i c p u handed d k
    settles k n settled shared sid fields song =
        done_by r.layout.holds r.voice _ _ handed d k (sym settled.is)
        (own_done r.layout.holds r.voice _ (record u { voice = record settled.v { param = settled.param } }) handed d n
        k shared sid refl fields song settled.done)

    param_leads : (n : VoiceDesk) → AtSettled r look i c p u handed d n →
        Leads r (first_of (rest_of SETTLED tick_tree)) (done_as (Ended r look i c p u handed d) runs) n
    param_leads n settled = (
      λ on.
          let a : n.a ≡ settled.param = settled.a on in
          settles _ n settled refl refl (assumption (a, settled.done.fields)) (assumption settled.done.song),
      λ off.
          let no_param = not_held r EFFECTS (n.own PARAM) settled.param off in
          settles n n settled refl refl (assumption (no_param, settled.done.fields)) settled.done.song,
    )

    taken_leads : (n : VoiceDesk) → AtTaken r look i c p u handed d n → Leads r (rest_of ONCE tick_tree) goal n
    taken_leads n (Over out done) =
        unkept_lead true r ROW_ONCE once_tree (behind (rest_of ONCE tick_tree)) goal n out done
    taken_leads n (Once once) =
        let from : 5 ≤ c = once.from in
        kept_lead true r ROW_ONCE once_tree (behind (rest_of ONCE tick_tree)) goal n (row.once from)
        (once_leads r look i c p u handed d goal (loaded (n.own NEW_PARAM) (indexed n.a n)) voice from few small keeps
        tempo shared sides
        (record {
          y = once.a;
          was = λ was. absurd (omega (arith, was, from));
          waits = λ waits. done_over r.layout.holds r.voice u handed d n _ refl refl refl once.done;
          a = λ keeps.
              once.done.fields.new_param (shared.once (row.once from))
              (λ none. absurd (omega (arith, from, none, command_is))) ∙ param_is;
        }))
