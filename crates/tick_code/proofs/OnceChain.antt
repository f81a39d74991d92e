-- A row's command from 5 on: the lines for each of them, one after the other.
use Rattle.std.proofs.Common.{◌≡◌, ◌≢◌, ℕ, ◌+◌, ◌<◌, ◌≤◌, false}
use Rattle.std.proofs.Common.{nat_eq, Some, None, inl, inr, refl, sym, ap, subst, ◌∙◌, arith}
use Rattle.std.proofs.lemmas.Bool.{both_ways, cases_lt, ne_eqb}
use Rattle.std.proofs.lemmas.Bool.Decides.{eqb_tells}
use Rattle.song_model.specs.declared.instruments.Instrument.{Instrument}
use Rattle.play_model.specs.LookUps.{LookUps}
use Rattle.play_model.specs.State.{Playing}
use Rattle.play_model.specs.TickStep.{row_command}
use Rattle.player_memory.specs.declared.conditions.TheConstants.{SET_WAVE_POINTER, SET_TEMPO, FUNK_TURNS, FUNK_CHOICE}
use Rattle.player_memory.specs.Commands.{condition_of, condition_of_both, AreKept, KeepsTempo}
use Rattle.player_memory.specs.FactLines.{KeepsShared}
use Rattle.player_desk.proofs.Laws.{VoiceDesk, Reader, Ways, Leads, done_as, Lent, Done, done_by}
use Rattle.command_code.proofs.Laws.{Between, Before, part_leads, passed, link, wave_pointer_does, tempo_lead, SpeedAt}
use Rattle.command_code.proofs.Laws.{funk_leads, Ruled, early_lead, late_lead}
use Rattle.tick_code.specs.TickBlock.{KeepsCommand}
use Rattle.tick_code.proofs.Pieces.{first_of, body_for, from_ad, from_wave_pointer, from_pulse_pointer, from_chosen}
use Rattle.tick_code.proofs.Pieces.{from_length, from_funk}
use Rattle.tick_code.proofs.Commands.{row_once, row_wave_pointer, row_funk, row_tempo, row_same}

-- ---- commands that the wave table has too

both_is : (c p : ℕ) → c ≢ 8 → c ≢ 14 → c ≢ 15 → condition_of c p ≡ condition_of_both c
both_is c p eight last tempo =
    let a : nat_eq c 8 ≡ false = ne_eqb c 8 eight in
    let b : nat_eq c 14 ≡ false = ne_eqb c 14 last in
    let d : nat_eq c 15 ≡ false = ne_eqb c 15 tempo in
    rw (a, b, d) refl

-- one that has a condition there is none that has none
other_than : (k c condition : ℕ) → condition_of_both k ≡ None → condition_of_both c ≡ Some condition → c ≢ k
other_than k c condition none some e = absurd (let is = ap condition_of_both e in cc)

-- ---- the lines one after the other

-- what the rule leaves; and that the command has been done
abbrev left_by : Reader → LookUps → Instrument → ℕ → ℕ → Playing → Playing
left_by r look i c p u = row_command (r.voice + 1) look i c p u

abbrev pub Ended : Reader → LookUps → Instrument → ℕ → ℕ → Playing → Lent → VoiceDesk → VoiceDesk → Type 0
Ended r look i c p u handed d m = Done r.layout.holds r.voice (left_by r look i c p u) handed d m

-- Y is the command, from 5 on, and A its parameter
pub once_leads : (r : Reader) (look : LookUps) (i : Instrument) (c p : ℕ) (u : Playing) (handed : Lent)
    (d : VoiceDesk) (ways : Ways) (m : VoiceDesk) → r.voice < 3 → 5 ≤ c → c < 256 → p < 256 →
    KeepsCommand r.layout c p → KeepsTempo r.layout c p → KeepsShared r.layout →
    (c ≡ 0xE → p ≢ 0 → SpeedAt r look p) →
    Before 5 r c p u (left_by r look i c p u) handed d m →
    Leads r from_ad (done_as (Ended r look i c p u handed d) ways) m
once_leads r look i c p u handed d ways m voice from few small keeps tempo shared sides at =
    early_lead r c p u t handed d from_wave_pointer goal m ruled at_wave_pointer at
  where
    goal : Ways
    goal = done_as (Ended r look i c p u handed d) ways

    t : Playing
    t = left_by r look i c p u

    kept : (k : ℕ) → c ≡ k → KeepsCommand r.layout k p
    kept k e = subst (λ n. KeepsCommand r.layout n p) e keeps

    ruled : Ruled r c p u t
    ruled = record {
      few = few;
      small = small;
      kept = λ condition is.
          subst (AreKept r.layout)
          (both_is c p (other_than 8 c condition refl is) (other_than 14 c condition refl is)
          (other_than 15 c condition refl is) ∙ is) keeps;
      rule = λ condition is.
          row_once (r.voice + 1) look i c p u from (other_than 8 c condition refl is)
          (other_than 14 c condition refl is) (other_than 15 c condition refl is);
      shared = shared;
    }

    at_funk : (n : VoiceDesk) → Between r c p u t handed d (c ≢ 14) (c ≡ 14) (c ≡ 14) n → Leads r from_funk goal n
    at_funk n at =
        part_leads r c p u t handed d (c ≢ 14) (c ≡ 14) (c ≡ 14) FUNK_CHOICE 14 (body_for (first_of from_funk)) goal
        (Ended r look i c p u handed d) n few (omega arith) (λ k other at. at.was other)
        (λ left same. absurd (both_ways (r.layout.holds FUNK_CHOICE) left (kept 14 same)))
        (λ k same at.
        funk_leads r look p u t handed d goal k voice (sides same) (row_funk (r.voice + 1) look i c p u same)
        (at.a same) (at.waits same)) at

    -- $F has been done, or another command from 14 on waits
    done_before : (n : VoiceDesk) → c ≢ 15 → Before 14 r c p u t handed d n →
        Between r c p u t handed d (c ≢ 14) (c ≡ 14) (c ≡ 14) n
    done_before n apart at = record {
      y = at.y;
      was = λ other.
          elim (cases_lt c 14) [
            | inl low ↦ at.was low
            | inr high ↦
                let l : 14 ≤ c = high in
                done_by r.layout.holds r.voice u t handed d n
                (sym (row_same (r.voice + 1) look i c p u (omega (arith, l, other, apart)))) (at.waits high)
          ];
      waits = λ same. at.waits (omega (arith, same));
      a = λ same. at.a (omega (arith, same));
    }

    at_chosen : (n : VoiceDesk) → Before 14 r c p u t handed d n → Leads r from_chosen goal n
    at_chosen n at =
        elim (eqb_tells c 15) [
          | inl same ↦
              let e : c ≡ 15 = same.1 in
              let late : 14 ≤ c = omega (arith, e) in
              tempo_lead r c p u t handed d from_funk goal n voice e small (kept 15 e) tempo
              (row_tempo (r.voice + 1) look i c p u e)
              (λ k at.
              at_funk k (record {
                y = at.y;
                was = λ other. at.was tt;
                waits = λ last. absurd (omega (arith, e, last));
                a = λ last. absurd (omega (arith, e, last));
              })) at.y (at.a late) (at.waits late)
          | inr other ↦
              passed r c p u t handed d (c < 14) (14 ≤ c) (14 ≤ c) FUNK_TURNS 15 (body_for (first_of from_chosen))
              from_length goal n few (omega arith) other.1
              (λ k at.
              passed r c p u t handed d (c < 14) (14 ≤ c) (14 ≤ c) SET_TEMPO 15 (body_for (first_of from_length))
              from_funk goal k few (omega arith) other.1 (λ l at. at_funk l (done_before l other.1 at)) at) at
        ]

    at_pulse_pointer : (n : VoiceDesk) → Before 9 r c p u t handed d n → Leads r from_pulse_pointer goal n
    at_pulse_pointer n at = late_lead r c p u t handed d from_chosen goal n ruled at_chosen at

    at_wave_pointer : (n : VoiceDesk) → Before 8 r c p u t handed d n → Leads r from_wave_pointer goal n
    at_wave_pointer n at =
        link r c p u t handed d SET_WAVE_POINTER 8 (body_for (first_of from_wave_pointer)) from_pulse_pointer goal n few
        (omega arith) (λ e. kept 8 e)
        (λ e. wave_pointer_does r c p u t handed d (row_wave_pointer (r.voice + 1) look i c p u e)) at_pulse_pointer at
