-- Bytes that the voices share are stored, and tempos.
use Rattle.std.proofs.Common.{◌≡◌, ◌≢◌, ℕ, zero, suc, ◌+◌, ◌*◌, ◌%◌, ◌<◌, Bool, true, false}
use Rattle.std.proofs.Common.{nat_eq, bit_and, refl, ◌∙◌, arith}
use Rattle.std.proofs.lemmas.Bool.{agree_below_at, eqb-true}
use Rattle.code_runs.specs.Runs.{put}
use Rattle.play_model.specs.State.{Common, Playing}
use Rattle.play_model.specs.TickStep.{tempo_of, with_tempo, with_all_tempos}
use Rattle.player_memory.specs.declared.labels.TheConstants.{TEMPO}
use Rattle.player_desk.proofs.Laws.{VoiceDesk, Lent, LentStands, Shared, Done, with_tempo as with_its_tempo}

-- ---- bytes that the voices share

-- they have changed, but for the tempos
pub shared_done : (holds : ℕ → Bool) (voice : ℕ) (s : Playing) (c : Common) (handed : Lent) (d m n : VoiceDesk) →
    n.own ≡ m.own → n.sid ≡ m.sid → tempo_of (voice + 1) c ≡ tempo_of (voice + 1) s.common →
    ((its : ℕ) → its < 3 → its ≢ voice → n.shared (TEMPO + 7 * its) ≡ tempo_of (its + 1) c) →
    Shared holds c n.shared → LentStands handed n.shared → Done holds voice s handed d m →
    Done holds voice (record s { common = c }) handed d n
shared_done holds voice s c handed d m n own sid tempo tempos common lent done = record {
  fields = rw (own, tempo) done.fields;
  common = common;
  tempos = tempos;
  lent = lent;
  song = rw own done.song;
  sid = sid ∙ done.sid;
}

-- another byte is stored
pub tempos_kept : (voice label byte : ℕ) (shared tempo : ℕ → ℕ) → nat_eq TEMPO label ≡ false →
    nat_eq (TEMPO + 7) label ≡ false → nat_eq (TEMPO + 14) label ≡ false →
    ((its : ℕ) → its < 3 → its ≢ voice → shared (TEMPO + 7 * its) ≡ tempo its) → (its : ℕ) → its < 3 →
    its ≢ voice → put shared label byte (TEMPO + 7 * its) ≡ tempo its
tempos_kept voice label byte shared tempo one two three kept zero l other = rw one (kept 0 l other)
tempos_kept voice label byte shared tempo one two three kept (suc zero) l other = rw two (kept 1 l other)
tempos_kept voice label byte shared tempo one two three kept (suc (suc zero)) l other = rw three (kept 2 l other)
tempos_kept voice label byte shared tempo one two three kept (suc (suc (suc its))) l other = absurd (omega (arith, l))

-- ---- tempos

-- the voice's own tempo is stored
pub own_tempo_set : (holds : ℕ → Bool) (voice : ℕ) (s : Playing) (handed : Lent) (d m : VoiceDesk) (tempo : ℕ) →
    voice < 3 → Done holds voice s handed d m →
    Done holds voice (record s { common = with_tempo (voice + 1) tempo s.common }) handed d
    (record m { own = put m.own TEMPO tempo })
own_tempo_set holds zero s handed d m tempo few at = record {
  fields = assumption at.fields;
  common = assumption at.common;
  tempos = tempos;
  lent = at.lent;
  song = assumption at.song;
  sid = at.sid;
}
  where
    tempos : (its : ℕ) → its < 3 → its ≢ 0 →
        m.shared (TEMPO + 7 * its) ≡ tempo_of (its + 1) (with_tempo 1 tempo s.common)
    tempos zero l other = absurd (other refl)
    tempos (suc zero) l other = at.tempos 1 l other
    tempos (suc (suc zero)) l other = at.tempos 2 l other
    tempos (suc (suc (suc its))) l other = absurd (omega (arith, l))
own_tempo_set holds (suc zero) s handed d m tempo few at = record {
  fields = assumption at.fields;
  common = assumption at.common;
  tempos = tempos;
  lent = at.lent;
  song = assumption at.song;
  sid = at.sid;
}
  where
    tempos : (its : ℕ) → its < 3 → its ≢ 1 →
        m.shared (TEMPO + 7 * its) ≡ tempo_of (its + 1) (with_tempo 2 tempo s.common)
    tempos zero l other = at.tempos 0 l other
    tempos (suc zero) l other = absurd (other refl)
    tempos (suc (suc zero)) l other = at.tempos 2 l other
    tempos (suc (suc (suc its))) l other = absurd (omega (arith, l))
own_tempo_set holds (suc (suc zero)) s handed d m tempo few at = record {
  fields = assumption at.fields;
  common = assumption at.common;
  tempos = tempos;
  lent = at.lent;
  song = assumption at.song;
  sid = at.sid;
}
  where
    tempos : (its : ℕ) → its < 3 → its ≢ 2 →
        m.shared (TEMPO + 7 * its) ≡ tempo_of (its + 1) (with_tempo 3 tempo s.common)
    tempos zero l other = at.tempos 0 l other
    tempos (suc zero) l other = at.tempos 1 l other
    tempos (suc (suc zero)) l other = absurd (other refl)
    tempos (suc (suc (suc its))) l other = absurd (omega (arith, l))
own_tempo_set holds (suc (suc (suc voice))) s handed d m tempo few at = absurd (omega (arith, few))

-- the three tempos are stored
abbrev pub with_tempos : ℕ → ℕ → VoiceDesk → VoiceDesk
with_tempos voice tempo m =
    with_its_tempo voice (TEMPO + 14) tempo (with_its_tempo voice (TEMPO + 7) tempo
    (with_its_tempo voice TEMPO tempo m))

pub all_tempos_set : (holds : ℕ → Bool) (voice : ℕ) (s : Playing) (handed : Lent) (d m : VoiceDesk) (tempo : ℕ) →
    voice < 3 → Done holds voice s handed d m →
    Done holds voice (record s { common = with_all_tempos tempo s.common }) handed d (with_tempos voice tempo m)
all_tempos_set holds zero s handed d m tempo few at = record {
  fields = assumption at.fields;
  common = assumption at.common;
  tempos = tempos;
  lent = assumption at.lent;
  song = assumption at.song;
  sid = at.sid;
}
  where
    tempos : (its : ℕ) → its < 3 → its ≢ 0 →
        (with_tempos 0 tempo m).shared (TEMPO + 7 * its) ≡ tempo_of (its + 1) (with_all_tempos tempo s.common)
    tempos zero l other = absurd (other refl)
    tempos (suc zero) l other = refl
    tempos (suc (suc zero)) l other = refl
    tempos (suc (suc (suc its))) l other = absurd (omega (arith, l))
all_tempos_set holds (suc zero) s handed d m tempo few at = record {
  fields = assumption at.fields;
  common = assumption at.common;
  tempos = tempos;
  lent = assumption at.lent;
  song = assumption at.song;
  sid = at.sid;
}
  where
    tempos : (its : ℕ) → its < 3 → its ≢ 1 →
        (with_tempos 1 tempo m).shared (TEMPO + 7 * its) ≡ tempo_of (its + 1) (with_all_tempos tempo s.common)
    tempos zero l other = refl
    tempos (suc zero) l other = absurd (other refl)
    tempos (suc (suc zero)) l other = refl
    tempos (suc (suc (suc its))) l other = absurd (omega (arith, l))
all_tempos_set holds (suc (suc zero)) s handed d m tempo few at = record {
  fields = assumption at.fields;
  common = assumption at.common;
  tempos = tempos;
  lent = assumption at.lent;
  song = assumption at.song;
  sid = at.sid;
}
  where
    tempos : (its : ℕ) → its < 3 → its ≢ 2 →
        (with_tempos 2 tempo m).shared (TEMPO + 7 * its) ≡ tempo_of (its + 1) (with_all_tempos tempo s.common)
    tempos zero l other = refl
    tempos (suc zero) l other = refl
    tempos (suc (suc zero)) l other = absurd (other refl)
    tempos (suc (suc (suc its))) l other = absurd (omega (arith, l))
all_tempos_set holds (suc (suc (suc voice))) s handed d m tempo few at = absurd (omega (arith, few))

-- ---- numbers

pub low_seven : (n : ℕ) → n < 256 → bit_and n 0x7F ≡ n % 128
low_seven n l =
    eqb-true _ _ (agree_below_at (λ n. nat_eq (bit_and n 0x7F) (n % 128)) (λ _. true) 256 n refl l)
