-- The lines for several commands, one after the other: what holds before those for each of them.
use Rattle.std.proofs.Common.{◌≡◌, ◌≢◌, ℕ, ◌+◌, ◌<◌, ◌≤◌, true, false}
use Rattle.std.proofs.Common.{inl, inr, refl, sym, ◌∙◌, arith}
use Rattle.std.proofs.lemmas.Bool.{not-true, not-false, both_ways}
use Rattle.std.proofs.lemmas.Bool.Decides.{eqb_tells}
use Rattle.scopes.specs.Trees.{Tree, ThenTree}
use Rattle.play_model.specs.State.{Playing}
use Rattle.player_desk.proofs.Laws.{VoiceDesk, Reader, Ways, Leads, done_as, in_scope, goes_on, Lent, Done, done_over}
use Rattle.player_desk.proofs.Laws.{compared_is, over_is}
use Rattle.player_text.specs.declared.commands.TheConstants.{OTHER}
use Rattle.command_code.proofs.Lines.{lines_for}

-- Y is the command. Either it has been done, which leaves t, or it waits, from u; and A is its parameter, where later
-- lines ask for it.
pub record Between (r : Reader) (c p : ℕ) (u t : Playing) (handed : Lent) (d : VoiceDesk) (Was Waits Keeps : Type 0)
    (m : VoiceDesk) : Type 0 where
  pub y : m.y ≡ c
  pub was : Was → Done r.layout.holds r.voice t handed d m
  pub waits : Waits → Done r.layout.holds r.voice u handed d m
  pub a : Keeps → m.a ≡ p

-- the same, where registers alone have changed, of which A and Y haven't
pub between_over : (r : Reader) (c p : ℕ) (u t : Playing) (handed : Lent) (d m n : VoiceDesk)
    (Was Waits Keeps : Type 0) → n.own ≡ m.own → n.shared ≡ m.shared → n.sid ≡ m.sid → n.y ≡ m.y → n.a ≡ m.a →
    Between r c p u t handed d Was Waits Keeps m → Between r c p u t handed d Was Waits Keeps n
between_over r c p u t handed d m n Was Waits Keeps own shared sid y a at = record {
  y = y ∙ at.y;
  was = λ was. done_over r.layout.holds r.voice t handed d m n own shared sid (at.was was);
  waits = λ waits. done_over r.layout.holds r.voice u handed d m n own shared sid (at.waits waits);
  a = λ keeps. a ∙ at.a keeps;
}

-- the lines for one command; where they aren't kept, the command isn't this one, or does nothing
pub part_leads : (r : Reader) (c p : ℕ) (u t : Playing) (handed : Lent) (d : VoiceDesk) (Was Waits Keeps : Type 0)
    (condition k : ℕ) (body : Tree) (ways : Ways) (Q : VoiceDesk → Type 0) (m : VoiceDesk) → c < 256 → k < 256 →
    ((n : VoiceDesk) → c ≢ k → Between r c p u t handed d Was Waits Keeps n → Q n) →
    (r.layout.holds condition ≡ false → c ≡ k → Q m) →
    ((n : VoiceDesk) → c ≡ k → Between r c p u t handed d Was Waits Keeps n →
    Leads r body (in_scope OTHER (done_as Q ways)) n) → Between r c p u t handed d Was Waits Keeps m →
    Leads r (lines_for condition k body) (done_as Q ways) m
part_leads r c p u t handed d Was Waits Keeps condition k body ways Q m few small goes left does at = (
  λ kept. (
    λ unmet.
        let y = at.y in
        goes _ (λ e. over_is m.y k small (not-true _ unmet) (y ∙ e))
        (between_over r c p u t handed d m _ Was Waits Keeps refl refl refl refl refl at),
    λ met.
        let y = at.y in
        does _ (sym y ∙ compared_is m.y k (omega (arith, y, few)) small (not-false _ met))
        (between_over r c p u t handed d m _ Was Waits Keeps refl refl refl refl refl at),
  ),
  λ gone.
      elim (eqb_tells c k) [
        | inl same ↦ left gone same.1
        | inr other ↦ goes m other.1 at
      ],
)

-- the lines for another command are passed
pub passed : (r : Reader) (c p : ℕ) (u t : Playing) (handed : Lent) (d : VoiceDesk) (Was Waits Keeps : Type 0)
    (condition k : ℕ) (body rest : Tree) (ways : Ways) (m : VoiceDesk) → c < 256 → k < 256 → c ≢ k →
    ((n : VoiceDesk) → Between r c p u t handed d Was Waits Keeps n → Leads r rest ways n) →
    Between r c p u t handed d Was Waits Keeps m → Leads r (ThenTree (lines_for condition k body) rest) ways m
passed r c p u t handed d Was Waits Keeps condition k body rest ways m few small apart on at =
    goes_on true r (lines_for condition k body) rest (Between r c p u t handed d Was Waits Keeps) ways m
    (part_leads r c p u t handed d Was Waits Keeps condition k body ways (Between r c p u t handed d Was Waits Keeps) m
    few small (λ n other at. at) (λ left same. absurd (apart same)) (λ n same at. absurd (apart same)) at) on

-- ---- in the order of their numbers

-- before the lines for command k
abbrev pub Before : ℕ → Reader → ℕ → ℕ → Playing → Playing → Lent → VoiceDesk → VoiceDesk → Type 0
Before k r c p u t handed d m = Between r c p u t handed d (c < k) (k ≤ c) (k ≤ c) m

-- what is done for a command does it: with Y as the command, A as its parameter and the voice in u it leads to where
-- the voice is in t, with Y as it was
abbrev pub Does : Reader → ℕ → ℕ → Playing → Playing → Lent → VoiceDesk → Tree → Type 1
Does r c p u t handed d body =
    (ways : Ways) (Q : VoiceDesk → Type 0) (m : VoiceDesk) →
    ((n : VoiceDesk) → n.y ≡ c → Done r.layout.holds r.voice t handed d n → Q n) → m.y ≡ c → m.a ≡ p →
    Done r.layout.holds r.voice u handed d m → Leads r body (in_scope OTHER (done_as Q ways)) m

-- from before the lines for one command to before those for the next
pub link : (r : Reader) (c p : ℕ) (u t : Playing) (handed : Lent) (d : VoiceDesk) (condition k : ℕ) (body rest : Tree)
    (ways : Ways) (m : VoiceDesk) → c < 256 → k < 256 → (c ≡ k → r.layout.holds condition ≡ true) →
    (c ≡ k → Does r c p u t handed d body) →
    ((n : VoiceDesk) → Before (k + 1) r c p u t handed d n → Leads r rest ways n) → Before k r c p u t handed d m →
    Leads r (ThenTree (lines_for condition k body) rest) ways m
link r c p u t handed d condition k body rest ways m few small kept does on at =
    goes_on true r (lines_for condition k body) rest (Before (k + 1) r c p u t handed d) ways m
    (part_leads r c p u t handed d (c < k) (k ≤ c) (k ≤ c) condition k body ways (Before (k + 1) r c p u t handed d) m
    few small (λ n other at. next n other at)
    (λ left same. absurd (both_ways (r.layout.holds condition) left (kept same)))
    (λ n same at.
    let from : k ≤ c = omega (arith, same) in
    does same ways (Before (k + 1) r c p u t handed d) n (λ l y done. did l same y done) at.y (at.a from)
    (at.waits from)) at) on
  where
    next : (n : VoiceDesk) → c ≢ k → Before k r c p u t handed d n → Before (k + 1) r c p u t handed d n
    next n other at = record {
      y = at.y;
      was = λ was. at.was (omega (arith, was, other));
      waits = λ waits. at.waits (omega (arith, waits));
      a = λ keeps. at.a (omega (arith, keeps));
    }

    did : (n : VoiceDesk) → c ≡ k → n.y ≡ c → Done r.layout.holds r.voice t handed d n →
        Before (k + 1) r c p u t handed d n
    did n same y done = record {
      y = y;
      was = λ was. done;
      waits = λ waits. absurd (omega (arith, same, waits));
      a = λ keeps. absurd (omega (arith, same, keeps));
    }
