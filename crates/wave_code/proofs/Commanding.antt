-- The code of a command of the wave table, in memory.
use Rattle.std.proofs.Common.{◌≡◌, ℕ, ◌≤◌, Bool, true, false, nat_eq, inl, inr, refl, sym, ap}
use Rattle.std.proofs.Common.{◌∙◌, arith}
use Rattle.std.proofs.lemmas.Bool.{ne_eqb}
use Rattle.std.proofs.lemmas.Bool.Decides.{eqb_tells}
use Rattle.song_model.specs.Silence.{empty_song}
use Rattle.play_model.specs.LookUps.{LookUps, look_ups_of}
use Rattle.play_model.specs.State.{Playing}
use Rattle.play_model.specs.Helpers.{do_command}
use Rattle.play_model.specs.WaveStep.{program_moved, wave_command}
use Rattle.player_memory.specs.declared.labels.TheConstants.{WAVE_RIGHTS, LENT, KEPT_COMMAND, KEPT_PARAM}
use Rattle.scopes.specs.Meaning.{each_one, ran}
use Rattle.player_memory.specs.Playing.{there}
use Rattle.player_text.specs.declared.joints.TheConstants.{RUNNING, EFFECTED}
use Rattle.player_desk.proofs.Laws.{VoiceDesk, Reader, Ways, Lent, Leads, leaves, leads_on, SharedSpot}
use Rattle.player_desk.proofs.Laws.{is_playing, song_stays, others_stay, all_slides_stay}
use Rattle.player_desk.proofs.Laws.{leaves_still, plays_so, reader_of, voice_desk, lent_of, begins, finds}
use Rattle.player_desk.proofs.VoiceDesks.{Either}
use Rattle.wave_code.specs.CommandBlock.{command_row_tree, CommandBlockDoes, CommandsLeaveTheProgram}
use Rattle.wave_code.specs.CommandBlock.{lent_out, CommandBlockLends}
use Rattle.wave_code.proofs.CommandRows.{AtOnce, AtLent, command_ways, command_row_leads, wave_once, wave_none}

-- ---- the program

moves_once : (look : LookUps) (c x p : ℕ) (s : Playing) →
    program_moved look p (do_command c x s) ≡ do_command c x (program_moved look p s)
unfolding do_command
moves_once look c x p s =
    elim (eqb_tells c 5) [
      | inl is_5 ↦ (let same = is_5.1 in rw same refl)
      | inr no_5 ↦
          elim (eqb_tells c 6) [
            | inl is_6 ↦ (let same = is_6.1 in rw same refl)
            | inr no_6 ↦
                elim (eqb_tells c 7) [
                  | inl is_7 ↦ (let same = is_7.1 in rw same refl)
                  | inr no_7 ↦
                      elim (eqb_tells c 9) [
                        | inl is_9 ↦ (let same = is_9.1 in rw same refl)
                        | inr no_9 ↦
                            elim (eqb_tells c 10) [
                              | inl is_10 ↦ (let same = is_10.1 in rw same refl)
                              | inr no_10 ↦
                                  elim (eqb_tells c 11) [
                                    | inl is_11 ↦ (let same = is_11.1 in rw same refl)
                                    | inr no_11 ↦
                                        elim (eqb_tells c 12) [
                                          | inl is_12 ↦ (let same = is_12.1 in rw same refl)
                                          | inr no_12 ↦
                                              elim (eqb_tells c 13) [
                                                | inl is_13 ↦ (let same = is_13.1 in rw same refl)
                                                | inr no_13 ↦
                                                    let e_5 : nat_eq c 5 ≡ false = ne_eqb c 5 no_5.1 in
                                                    let e_6 : nat_eq c 6 ≡ false = ne_eqb c 6 no_6.1 in
                                                    let e_7 : nat_eq c 7 ≡ false = ne_eqb c 7 no_7.1 in
                                                    let e_9 : nat_eq c 9 ≡ false = ne_eqb c 9 no_9.1 in
                                                    let e_10 : nat_eq c 10 ≡ false = ne_eqb c 10 no_10.1 in
                                                    let e_11 : nat_eq c 11 ≡ false = ne_eqb c 11 no_11.1 in
                                                    let e_12 : nat_eq c 12 ≡ false = ne_eqb c 12 no_12.1 in
                                                    let e_13 : nat_eq c 13 ≡ false = ne_eqb c 13 no_13.1 in
                                                    rw (e_5, e_6, e_7, e_9, e_10, e_11, e_12, e_13) refl
                                              ]
                                        ]
                                  ]
                            ]
                      ]
                ]
          ]
    ]

pub commands_leave_the_program : CommandsLeaveTheProgram
commands_leave_the_program look c x p s which =
    elim which [
      | inl none ↦
          ap (program_moved look p) (sym (wave_none look c x s none)) ∙ wave_none look c x (program_moved look p s) none
      | inr from ↦
          ap (program_moved look p) (sym (wave_once look c x s from))
          ∙ (moves_once look c x p s ∙ wave_once look c x (program_moved look p s) from)
    ]

-- ---- the clauses

pub command_block_does : CommandBlockDoes
command_block_does layout rows voice number command param look s desk room uses few at playing here which keeps =
    let Q = AtOnce r look command param s handed d in
    let went = leaves_still EFFECTED layout rows voice command_row_tree desk Q refl room uses few at
    (leads_on true r command_row_tree (command_ways r look command param s handed d) (leaves EFFECTED Q) d
    (record {
      done = λ m q. q;
      left = λ name m q. on (nat_eq name RUNNING) (nat_eq name EFFECTED) m q;
      again = λ m q. q;
    }) leads) in
    record {
      way = went.way;
      plays = plays_so layout rows voice desk Q (there (ran each_one layout command_row_tree desk))
          (wave_command look command param s) went.came (λ m q. q.done);
    }
  where
    r : Reader
    r = reader_of layout rows voice desk

    d : VoiceDesk
    d = voice_desk layout voice desk

    handed : Lent
    handed = lent_of layout desk

    apart : 1 ≤ command → command ≤ 4 → ⊥
    apart least most =
        elim which [
          | inl none ↦ (let e = none in omega (arith, e, least))
          | inr from ↦ (let l = from in omega (arith, l, most))
        ]

    leads : Leads r command_row_tree (command_ways r look command param s handed d) d
    leads =
        command_row_leads r look command param number s handed d d here.few here.byte
        (finds layout rows voice desk WAVE_RIGHTS number _ here.listed) here.lent keeps.commands (λ from. keeps)
        (λ least most. absurd (apart least most)) here.a here.y
        (begins layout voice desk s playing)

    on : (x y : Bool) (m : VoiceDesk) →
        Either x (AtLent r command param s d m) (Either y (AtOnce r look command param s handed d m) ⊥) →
        Either y (AtOnce r look command param s handed d m) ⊥
    on true y m q = absurd (apart q.least q.most)
    on false true m q = q
    on false false m q = q

-- it looks nothing up
any_look : LookUps
any_look = look_ups_of empty_song

pub command_block_lends : CommandBlockLends
command_block_lends layout rows voice number command param s desk room uses few at playing here least most kept
    effects =
    let Q = AtLent r command param s d in
    let went = leaves_still RUNNING layout rows voice command_row_tree desk Q refl room uses few at
    (leads_on true r command_row_tree ways (leaves RUNNING Q) d
    (record {
      done = λ m q. q;
      left = λ name m q. on (nat_eq name RUNNING) (nat_eq name EFFECTED) m q;
      again = λ m q. q;
    }) leads) in
    let m = went.came.after in
    let shows = went.came.shows in
    let done = went.came.holds.1.done in
    let behind = (ran each_one layout command_row_tree desk).desk in record {
      way = went.way;
      a = shows.a ∙ went.came.holds.1.a;
      at_voice = went.came.at_voice;
      plays = is_playing layout rows voice desk (lent_out command param s) behind m shows done.fields done.common
          done.tempos;
      song = song_stays layout rows voice desk behind m shows done.song;
      lent = shows.memory (SharedSpot LENT) refl ∙ done.lent.lent;
      kept_command = shows.memory (SharedSpot KEPT_COMMAND) refl ∙ done.lent.command (λ e. omega (arith, e));
      kept_param = shows.memory (SharedSpot KEPT_PARAM) refl ∙ done.lent.param (λ e. omega (arith, e));
      stays = others_stay layout rows voice desk behind m shows done.sid;
      slides = all_slides_stay layout rows voice desk behind m shows went.came.holds.0;
    }
  where
    r : Reader
    r = reader_of layout rows voice desk

    d : VoiceDesk
    d = voice_desk layout voice desk

    ways : Ways
    ways = command_ways r any_look command param s (lent_of layout desk) d

    leads : Leads r command_row_tree ways d
    leads =
        command_row_leads r any_look command param number s (lent_of layout desk) d d here.few here.byte
        (finds layout rows voice desk WAVE_RIGHTS number _ here.listed) here.lent
        kept (λ from. absurd (omega (arith, from, most))) (λ l m. effects) here.a here.y
        (begins layout voice desk s playing)

    on : (x y : Bool) (m : VoiceDesk) →
        Either x (AtLent r command param s d m)
        (Either y (AtOnce r any_look command param s (lent_of layout desk) d m) ⊥) →
        Either x (AtLent r command param s d m) ⊥
    on true y m q = q
    on false true m q =
        elim q.which [
          | inl none ↦ (let e = none in omega (arith, e, least))
          | inr from ↦ (let l = from in omega (arith, l, most))
        ]
    on false false m q = q
