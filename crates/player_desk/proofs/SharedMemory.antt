-- The desk as code that no voice owns sees it, read from memory; and what a block of it leaves there.
use Rattle.std.proofs.Common.{◌≡◌, ℕ, ◌+◌, ◌<◌, Bool, true, inl, inr, refl, sym, ap, ◌∙◌, subst}
use Rattle.std.proofs.Common.{◌≢◌, zero, suc, ◌*◌, false, List, slice_index, arith}
use Rattle.std.proofs.lemmas.Bool.Decides.{eqb_tells}
use Rattle.play_model.specs.State.{Common}
use Rattle.scopes.specs.Desk.{Desk, Layout}
use Rattle.scopes.specs.Trees.{Tree}
use Rattle.scopes.specs.Meaning.{each_one, ran}
use Rattle.player_memory.specs.declared.labels.TheConstants.{TEMPO}
use Rattle.player_memory.specs.declared.labels.TheConstants.{LENT, KEPT_COMMAND, KEPT_PARAM}
use Rattle.player_memory.specs.Labels.{is_own}
use Rattle.player_memory.specs.Rooms.{IsRoom, MayUse}
use Rattle.player_memory.specs.Playing.{own_at, shared_at, PlaysShared}
use Rattle.player_desk.proofs.VoiceDesks.{VoiceDesk, Reader, LeadsAlone}
use Rattle.player_memory.specs.Variables.{CommonBytesStand}
use Rattle.player_desk.proofs.Spots.{Own, Shared as SharedSpot, Sid, Tempo, Others, Elsewhere, Slide}
use Rattle.scopes.specs.declared.line.Half.TheVariants.{Low, High}
use Rattle.player_desk.proofs.Leading.{Led, led}
use Rattle.player_desk.proofs.Joining.{ends}
use Rattle.player_desk.proofs.Views.{Shared}
use Rattle.player_desk.proofs.Views.{shared_of, shared_stand}
use Rattle.player_desk.proofs.Memory.{reader_of, voice_desk, ground_of, spots_are, shared_here, AtEnd, at_end}

-- what such code leaves of the bytes that aren't the common state's: what is lent, and the tempos that aren't the first
-- voice's, which has its own bytes on the desk
pub record SameLent (one two : ℕ → ℕ) : Type 0 where
  pub lent : one LENT ≡ two LENT
  pub command : one KEPT_COMMAND ≡ two KEPT_COMMAND
  pub param : one KEPT_PARAM ≡ two KEPT_PARAM
  pub tempo_two : one (TEMPO + 7) ≡ two (TEMPO + 7)
  pub tempo_three : one (TEMPO + 14) ≡ two (TEMPO + 14)

-- the desk tells what the voices share, and all else but the registers stays
pub record CommonDone (holds : ℕ → Bool) (c : Common) (d m : VoiceDesk) : Type 0 where
  pub common : Shared holds c m.shared
  pub lent : SameLent m.shared d.shared
  pub own : m.own ≡ d.own
  pub slide_low : m.slide_low ≡ d.slide_low
  pub slide_high : m.slide_high ≡ d.slide_high

-- and these bytes are in the registers from 21 on, and the others stay
pub record SharedDone (holds : ℕ → Bool) (c : Common) (bytes : List ℕ) (d m : VoiceDesk) : Type 0 where
  pub done : CommonDone holds c d m
  pub last : (number : ℕ) → number < 4 → m.sid (21 + number) ≡ slice_index bytes number
  pub registers : (register : ℕ) → register < 21 → m.sid register ≡ d.sid register

-- the common state stands on its desk
pub begins_shared : (layout : Layout) (desk : Desk) (c : Common) →
    CommonBytesStand layout.holds c (shared_at layout desk.at) →
    CommonDone layout.holds c (voice_desk layout 0 desk) (voice_desk layout 0 desk)
begins_shared layout desk c stand = record {
  common = shared_of layout.holds c (shared_at layout desk.at) stand;
  lent = record { lent = refl; command = refl; param = refl; tempo_two = refl; tempo_three = refl };
  own = refl;
  slide_low = refl;
  slide_high = refl;
}

-- A block that leads from the desk to where a rule's code does leaves the state that the rule gives.
pub plays_shared : (layout : Layout) (rows : ℕ) (tree : Tree) (desk : Desk) (c : Common) (bytes : List ℕ) →
    IsRoom layout rows → MayUse layout rows → desk.cpu.d ≡ false →
    LeadsAlone (reader_of layout rows 0 desk) tree
    (ends (SharedDone layout.holds c bytes (voice_desk layout 0 desk))) (voice_desk layout 0 desk) →
    PlaysShared layout rows desk (ran each_one layout tree desk) c bytes
plays_shared layout rows tree desk c bytes room uses decimal leads = record {
  ends = end.is;
  decimal = behind.shows.decimal;
  common =
      shared_stand layout.holds c _
      (shared_here layout.holds c m.shared _ (λ label is. behind.shows.memory (SharedSpot label) is)
      end.holds.done.common);
  last = λ number few.
      behind.shows.memory (Sid (21 + number)) (omega (arith, few)) ∙ end.holds.last number few;
  lent = assumption (
    behind.shows.memory (SharedSpot LENT) refl ∙ end.holds.done.lent.lent,
    behind.shows.memory (SharedSpot KEPT_COMMAND) refl ∙ end.holds.done.lent.command,
    behind.shows.memory (SharedSpot KEPT_PARAM) refl ∙ end.holds.done.lent.param,
  );
  voices = voices;
  registers = λ register few.
      behind.shows.memory (Sid register) (omega (arith, few)) ∙ end.holds.registers register few;
  slides = λ kept row few. record {
    low = behind.shows.memory (Slide Low row) (kept, few) ∙ ap (λ slide. slide row) end.holds.done.slide_low;
    high = behind.shows.memory (Slide High row) (kept, few) ∙ ap (λ slide. slide row) end.holds.done.slide_high;
  };
  elsewhere = λ place away. behind.shows.memory (Elsewhere place) away;
}
  where
    r : Reader
    r = reader_of layout rows 0 desk

    d : VoiceDesk
    d = voice_desk layout 0 desk

    behind : Led false r (ends (SharedDone layout.holds c bytes d)) (ran each_one layout tree desk)
    behind =
        led (ground_of layout rows 0 desk room uses (omega arith)) tree (ends (SharedDone layout.holds c bytes d))
        desk d
        (record {
          memory = spots_are layout rows 0 desk;
          a = refl;
          y = refl;
          c = refl;
          z = refl;
          n = refl;
          x = λ never. absurd (cc);
          decimal = decimal;
        }) leads

    m : VoiceDesk
    m = behind.after

    end : AtEnd (SharedDone layout.holds c bytes d) (ran each_one layout tree desk).outcome m
    end = at_end (SharedDone layout.holds c bytes d) (ran each_one layout tree desk).outcome m behind.way

    after : ℕ → ℕ
    after = (ran each_one layout tree desk).desk.at

    tempos : (voice : ℕ) → voice < 3 → voice ≢ 0 → m.shared (TEMPO + 7 * voice) ≡ d.shared (TEMPO + 7 * voice)
    tempos zero few other = absurd (other refl)
    tempos (suc zero) few other = end.holds.done.lent.tempo_two
    tempos (suc (suc zero)) few other = end.holds.done.lent.tempo_three
    tempos (suc (suc (suc more))) few other = absurd (omega (arith, few))

    voices : (voice label : ℕ) → voice < 3 → is_own label ≡ true →
        own_at layout after voice label ≡ own_at layout desk.at voice label
    voices voice label few is =
        elim (eqb_tells voice 0) [
          | inl first ↦
              subst (λ n. own_at layout after n label ≡ own_at layout desk.at n label) (sym first.1)
              (behind.shows.memory (Own label) is ∙ ap (λ own. own label) end.holds.done.own)
          | inr other ↦
              elim (eqb_tells label TEMPO) [
                | inl tempo ↦
                    subst (λ n. own_at layout after voice n ≡ own_at layout desk.at voice n) (sym tempo.1)
                    (behind.shows.memory (Tempo voice) (few, other.1) ∙ tempos voice few other.1)
                | inr apart ↦ behind.shows.memory (Others label voice) (is, few, other.1, apart.1)
              ]
        ]
