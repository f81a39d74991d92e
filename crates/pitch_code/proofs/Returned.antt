-- What the code of a lent command leaves.
use Rattle.std.proofs.Common.{◌≡◌, ◌≢◌, ℕ, ◌+◌, ◌*◌, Bool, true, refl, ap, ◌∙◌, arith}
use Rattle.std.proofs.lemmas.Bool.{eqb-true, eqb-false, both_ways}
use Rattle.code_runs.specs.Runs.{put}
use Rattle.code_runs.proofs.Laws.{put_other}
use Rattle.play_model.specs.State.{Playing}
use Rattle.player_memory.specs.declared.conditions.TheConstants.{WAVE_COMMAND, EFFECTS}
use Rattle.player_memory.specs.declared.labels.TheConstants.{COMMAND, PARAM, LENT, KEPT_COMMAND, KEPT_PARAM, TEMPO}
use Rattle.player_desk.proofs.Laws.{VoiceDesk, Reader, Leads, ends, Lent, Done, done_over}
use Rattle.pitch_code.specs.GivenBackBlock.{given_back_tree}

-- these bytes are the voice's own and no voice's, and all else that the code sees is as it was, but for A and the flags
pub record IsLeftWith (own shared : ℕ → ℕ) (d m : VoiceDesk) : Type 0 where
  pub own_is : m.own ≡ own
  pub shared_is : m.shared ≡ shared
  pub low : m.low ≡ d.low
  pub high : m.high ≡ d.high
  pub slide_low : m.slide_low ≡ d.slide_low
  pub slide_high : m.slide_high ≡ d.slide_high
  pub sid : m.sid ≡ d.sid

-- the voice's own command is back, and none is lent
abbrev pub own_back : VoiceDesk → ℕ → ℕ
own_back d = put (put d.own PARAM (d.shared KEPT_PARAM)) COMMAND (d.shared KEPT_COMMAND)

abbrev pub GivenBack : VoiceDesk → VoiceDesk → Type 0
GivenBack d m = IsLeftWith (own_back d) (put d.shared LENT 0) d m

abbrev pub Unchanged : VoiceDesk → VoiceDesk → Type 0
Unchanged d m = IsLeftWith d.own d.shared d m

-- where a command is lent, for which the code is kept
pub lent_leads : (r : Reader) (d : VoiceDesk) → d.shared LENT ≡ 1 → r.layout.holds WAVE_COMMAND ≡ true →
    Leads r given_back_tree (ends (GivenBack d)) d
lent_leads r d lent keeps = (
  λ kept. (
    λ zero. (let none = eqb-true (d.shared LENT) 0 zero in absurd (omega (arith, none, lent))),
    λ some. record {
      own_is = refl;
      shared_is = ap (put d.shared LENT) (omega (arith, lent));
      low = refl;
      high = refl;
      slide_low = refl;
      slide_high = refl;
      sid = refl;
    },
  ),
  λ out. absurd (both_ways (r.layout.holds WAVE_COMMAND) out keeps),
)

-- where none is
pub none_leads : (r : Reader) (d : VoiceDesk) → d.shared LENT ≡ 0 → Leads r given_back_tree (ends (Unchanged d)) d
none_leads r d none = (
  λ kept. (
    λ zero. unchanged _ refl refl refl refl refl refl refl,
    λ some. absurd (eqb-false (d.shared LENT) 0 some none),
  ),
  λ out. unchanged d refl refl refl refl refl refl refl,
)
  where
    unchanged : (m : VoiceDesk) → m.own ≡ d.own → m.shared ≡ d.shared → m.low ≡ d.low → m.high ≡ d.high →
        m.slide_low ≡ d.slide_low → m.slide_high ≡ d.slide_high → m.sid ≡ d.sid → Unchanged d m
    unchanged m own shared low high slide_low slide_high sid = record {
      own_is = own;
      shared_is = shared;
      low = low;
      high = high;
      slide_low = slide_low;
      slide_high = slide_high;
      sid = sid;
    }

-- ---- by the state of a voice

-- the voice's own command and parameter are back
abbrev pub with_own : Lent → Playing → Playing
with_own handed s = record s { voice = record s.voice { command = handed.command; param = handed.param } }

-- none is lent
abbrev pub none_lent : Lent → Lent
none_lent handed = record handed { lent = 0 }

pub back_done : (holds : ℕ → Bool) (voice : ℕ) (s : Playing) (handed : Lent) (d m n : VoiceDesk) →
    handed.lent ≡ 1 → GivenBack m n → Done holds voice s handed d m →
    Done holds voice (with_own handed s) (none_lent handed) d n
back_done holds voice s handed d m n lent back done = record {
  fields = rw back.own_is (assumption (command, param, done.fields));
  common = rw back.shared_is (assumption done.common);
  tempos = λ its three other.
      ap (λ byte. byte (TEMPO + 7 * its)) back.shared_is
      ∙ (put_other m.shared LENT 0 (TEMPO + 7 * its) (λ same. omega (arith, same, three))
      ∙ done.tempos its three other);
  lent = record {
    lent = ap (λ byte. byte LENT) back.shared_is;
    command = λ some. absurd (some refl);
    param = λ some. absurd (some refl);
  };
  song = rw back.own_is (assumption done.song);
  sid = back.sid ∙ done.sid;
}
  where
    lends : handed.lent ≢ 0
    lends none = omega (arith, lent, none)

    command : holds EFFECTS ≡ true → m.shared KEPT_COMMAND ≡ handed.command
    command on = done.lent.command lends

    param : holds EFFECTS ≡ true → m.shared KEPT_PARAM ≡ handed.param
    param on = done.lent.param lends

-- where none is lent, the state stays
pub none_done : (holds : ℕ → Bool) (voice : ℕ) (s : Playing) (handed : Lent) (d m n : VoiceDesk) → Unchanged m n →
    Done holds voice s handed d m → Done holds voice s handed d n
none_done holds voice s handed d m n left done =
    done_over holds voice s handed d m n left.own_is left.shared_is left.sid done
