-- A command of the wave table from 5 on is done once, by the lines for it.
use Rattle.std.proofs.Common.{◌≡◌, ℕ, ◌<◌}
use Rattle.std.proofs.Common.{inl, inr, refl, sym, subst, arith}
use Rattle.std.proofs.lemmas.Bool.{cases_lt}
use Rattle.play_model.specs.State.{Playing}
use Rattle.play_model.specs.Helpers.{do_command}
use Rattle.player_memory.specs.Commands.{AreKept}
use Rattle.player_desk.proofs.Laws.{VoiceDesk, Reader, Ways, Leads, done_as, Lent, Done, done_by}
use Rattle.command_code.proofs.Laws.{Before, Ruled, early_lead, late_lead, do_eight, do_over}
use Rattle.wave_code.specs.CommandBlock.{KeepsOnce}
use Rattle.wave_code.proofs.Pieces.{from_ad, from_pulse_pointer, from_end}

abbrev pub OnceDone : Reader → ℕ → ℕ → Playing → Lent → VoiceDesk → VoiceDesk → Type 0
OnceDone r c p u handed d m = Done r.layout.holds r.voice (do_command c p u) handed d m

-- before the lines for command k
abbrev pub BeforeOnce : ℕ → Reader → ℕ → ℕ → Playing → Lent → VoiceDesk → VoiceDesk → Type 0
BeforeOnce k r c p u handed d m = Before k r c p u (do_command c p u) handed d m

-- command 8 has no lines
past_eight : (r : Reader) (c p : ℕ) (u : Playing) (handed : Lent) (d n : VoiceDesk) →
    BeforeOnce 8 r c p u handed d n → BeforeOnce 9 r c p u handed d n
past_eight r c p u handed d n at = record {
  y = at.y;
  was = λ was.
      elim (cases_lt c 8) [
        | inl low ↦ at.was low
        | inr high ↦
            let same : c ≡ 8 = (let h = high in omega (arith, h, was)) in
            done_by r.layout.holds r.voice u _ handed d n (sym (do_eight c p u same)) (at.waits high)
      ];
  waits = λ waits. at.waits (omega (arith, waits));
  a = λ keeps. at.a (omega (arith, keeps));
}

-- nor has $E
past_last : (r : Reader) (c p : ℕ) (u : Playing) (handed : Lent) (d n : VoiceDesk) →
    BeforeOnce 14 r c p u handed d n → OnceDone r c p u handed d n
past_last r c p u handed d n at =
    elim (cases_lt c 14) [
      | inl low ↦ at.was low
      | inr high ↦ done_by r.layout.holds r.voice u _ handed d n (sym (do_over c p u high)) (at.waits high)
    ]

-- Y is the command, and A its parameter
pub once_leads : (r : Reader) (c p : ℕ) (u : Playing) (handed : Lent) (d : VoiceDesk) (ways : Ways) (m : VoiceDesk) →
    c < 15 → p < 256 → KeepsOnce r.layout c → BeforeOnce 5 r c p u handed d m →
    Leads r from_ad (done_as (OnceDone r c p u handed d) ways) m
once_leads r c p u handed d ways m few small keeps at =
    early_lead r c p u (do_command c p u) handed d from_pulse_pointer goal m ruled
    (λ n at.
    late_lead r c p u (do_command c p u) handed d from_end goal n ruled (λ k at. past_last r c p u handed d k at)
    (past_eight r c p u handed d n at)) at
  where
    goal : Ways
    goal = done_as (OnceDone r c p u handed d) ways

    ruled : Ruled r c p u (do_command c p u)
    ruled = record {
      few = omega (arith, few);
      small = small;
      kept = λ condition is. subst (AreKept r.layout) is keeps.lines;
      rule = λ condition is. refl;
      shared = keeps.shared;
    }
