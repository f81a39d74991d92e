-- Commands $E and $F of a row set tempos, for this voice or for all.
use Rattle.std.specs.Prelude.{⊤}
use Rattle.std.proofs.Common.{◌≡◌, ◌≢◌, ℕ, ◌+◌, ◌-◌, ◌%◌, ◌<◌, ◌≤◌, ◌⊎◌, Bool, true, false}
use Rattle.std.proofs.Common.{nat_le, bit_and}
use Rattle.std.proofs.Common.{Some, inl, inr, refl, sym, ap, subst, ◌∙◌, arith}
use Rattle.std.proofs.lemmas.Bool.{not-true, not-false, leb-true, leb-false, eqb-true, eqb-false, cases_lt, both_ways}
use Rattle.std.proofs.lemmas.Bool.{le-leb, lt-leb}
use Rattle.code_runs.specs.Runs.{put}
use Rattle.cpu6502.specs.Registers.{one_if}
use Rattle.song_model.specs.declared.tables.TableName.TheVariants.{Speed}
use Rattle.scopes.specs.Trees.{Tree, ThenTree}
use Rattle.play_model.specs.LookUps.{LookUps}
use Rattle.play_model.specs.State.{Common, Playing}
use Rattle.play_model.specs.TickStep.{tempo_of, with_tempo, with_all_tempos, funk_set, funk_tempo, tempo_set}
use Rattle.player_memory.specs.declared.conditions.TheConstants.{SET_TEMPO, VOICE_TEMPO, COMMON_TEMPO, FUNK_TURNS}
use Rattle.player_memory.specs.declared.labels.TheConstants.{FUNK_ONE, FUNK_TWO, SPEED_LEFTS, SPEED_RIGHTS}
use Rattle.player_memory.specs.Commands.{condition_of_tempo, AreKept, KeepsTempo}
use Rattle.player_text.specs.declared.commands.TheConstants.{OTHER, TURNS, FUNK_SET, TEMPO_SET, FUNK_CHOSEN}
use Rattle.player_desk.proofs.Laws.{VoiceDesk, Reader, Ways, Leads, done_as, in_scope, body_of, rest_of, joined}
use Rattle.player_desk.proofs.Laws.{goes_on, Lent, Done, done_over, done_by, Reads, listed, place_at}
use Rattle.command_code.proofs.Lines.{behind, lines_for, lines_of}
use Rattle.command_code.proofs.Rules.{tempo_chosen, tempo_all, tempo_own, tempo_none, funk_none, funk_some}
use Rattle.command_code.proofs.Bytes.{shared_done, tempos_kept, own_tempo_set, all_tempos_set, low_seven}
use Rattle.command_code.proofs.Links.{Between, between_over, part_leads}
use Rattle.command_code.proofs.Commands.{shared_by}

-- ---- $F with 0 and 1

-- Y is the command, and A its parameter: with 0 and 1 a funk tempo has been chosen, else the command waits
abbrev AtLengths : Reader → ℕ → ℕ → Playing → Playing → Lent → VoiceDesk → VoiceDesk → Type 0
AtLengths r c p u t handed d m = Between r c p u t handed d (p < 2) (2 ≤ p) ⊤ m

chosen_leads : (r : Reader) (c p : ℕ) (u t : Playing) (handed : Lent) (d : VoiceDesk) (ways : Ways) (m : VoiceDesk) →
    r.voice < 3 → shared_by (tempo_set (r.voice + 1) p u.common) u ≡ t → m.y ≡ c → m.a ≡ p →
    Done r.layout.holds r.voice u handed d m →
    Leads r (lines_of FUNK_SET) (in_scope OTHER (done_as (AtLengths r c p u t handed d) ways)) m
chosen_leads r c p u t handed d ways m few rule y a done = (
  λ met.
      let long : 2 ≤ p = (let z = leb-true 2 m.a met in omega (arith, z, a)) in record {
        y = y;
        was = λ was. absurd (omega (arith, was, long));
        waits = λ waits. done_over r.layout.holds r.voice u handed d m _ refl refl refl done;
        a = λ keeps. a;
      },
  λ unmet.
      let short : p < 2 = (let z = leb-false 2 m.a unmet in omega (arith, z, a)) in record {
        y = y;
        was = λ was.
            done_by r.layout.holds r.voice _ t handed d _
            (sym (ap (λ q. shared_by (with_all_tempos q u.common) u) a
            ∙ (ap (λ q. shared_by q u) (tempo_chosen (r.voice + 1) p u.common short) ∙ rule)))
            (all_tempos_set r.layout.holds r.voice u handed d _ m.a few
            (done_over r.layout.holds r.voice u handed d m _ refl refl refl done));
        waits = λ waits. absurd (omega (arith, waits, short));
        a = λ keeps. a;
      },
)

-- ---- $F with other numbers

one_less_is : (a n : ℕ) (carry : Bool) → a ≡ n → 1 ≤ n → n < 256 → carry ≡ true →
    (a + 254 + one_if carry) % 256 ≡ n - 1
one_less_is a n carry e least most c = rw (e, c) (omega (arith, least, most))

-- a number that sets no length
unset : (r : Reader) (c p : ℕ) (u t : Playing) (handed : Lent) (d m : VoiceDesk) → p < 256 → p % 128 < 3 →
    shared_by (tempo_set (r.voice + 1) p u.common) u ≡ t → AtLengths r c p u t handed d m →
    Done r.layout.holds r.voice t handed d m
unset r c p u t handed d m small low rule at =
    elim (cases_lt p 2) [
      | inl short ↦ at.was short
      | inr long ↦
          done_by r.layout.holds r.voice u t handed d m
          (sym (ap (λ q. shared_by q u) (tempo_none (r.voice + 1) p u.common long small low) ∙ rule)) (at.waits long)
    ]

-- one that is no length for one voice
common_leads : (r : Reader) (c p : ℕ) (u t : Playing) (handed : Lent) (d : VoiceDesk) (ways : Ways)
    (Q : VoiceDesk → Type 0) (m : VoiceDesk) → r.voice < 3 → p < 128 →
    (3 ≤ p → r.layout.holds COMMON_TEMPO ≡ true) → shared_by (tempo_set (r.voice + 1) p u.common) u ≡ t →
    ((n : VoiceDesk) → n.y ≡ c → Done r.layout.holds r.voice t handed d n → Q n) → AtLengths r c p u t handed d m →
    Leads r (behind (lines_of TEMPO_SET)) (in_scope OTHER (done_as Q ways)) m
common_leads r c p u t handed d ways Q m few under keeps rule ends at =
    let a : m.a ≡ p = at.a tt in (
      λ kept. (
        λ less.
            let low : p % 128 < 3 = (let z = leb-false 3 m.a (not-true _ less) in omega (arith, z, a, under)) in
            ends _ at.y
            (done_over r.layout.holds r.voice t handed d m _ refl refl refl
            (unset r c p u t handed d m (omega (arith, under)) low rule at)),
        λ more.
            let carry : nat_le 3 m.a ≡ true = not-false _ more in
            let from : 3 ≤ p = (let z = leb-true 3 m.a carry in omega (arith, z, a)) in
            let tempo = one_less_is m.a p (nat_le 3 m.a) a (omega (arith, from)) (omega (arith, under)) carry in
            let done : Done r.layout.holds r.voice u handed d m = at.waits (omega (arith, from)) in
            ends _ at.y
            (done_by r.layout.holds r.voice _ t handed d _
            (sym (ap (λ q. shared_by (with_all_tempos q u.common) u) tempo
            ∙ (ap (λ q. shared_by q u) (tempo_all (r.voice + 1) p u.common from under) ∙ rule)))
            (all_tempos_set r.layout.holds r.voice u handed d _ ((m.a + 254 + one_if (nat_le 3 m.a)) % 256) few
            (done_over r.layout.holds r.voice u handed d m _ refl refl refl done))),
      ),
      λ out.
          let low : p < 3 = no_common out (cases_lt p 3) in
          ends m at.y (unset r c p u t handed d m (omega (arith, under)) (omega (arith, low)) rule at),
    )
  where
    no_common : r.layout.holds COMMON_TEMPO ≡ false → (p < 3) ⊎ (3 ≤ p) → p < 3
    no_common out (inl low) = low
    no_common out (inr from) = absurd (both_ways (r.layout.holds COMMON_TEMPO) out (keeps from))

length_leads : (r : Reader) (c p : ℕ) (u t : Playing) (handed : Lent) (d : VoiceDesk) (ways : Ways)
    (Q : VoiceDesk → Type 0) (m : VoiceDesk) → r.voice < 3 → p < 256 → c ≡ 0xF → KeepsTempo r.layout c p →
    shared_by (tempo_set (r.voice + 1) p u.common) u ≡ t →
    ((n : VoiceDesk) → n.y ≡ c → Done r.layout.holds r.voice t handed d n → Q n) → AtLengths r c p u t handed d m →
    Leads r (lines_of TEMPO_SET) (in_scope OTHER (done_as Q ways)) m
length_leads r c p u t handed d ways Q m few small is keeps rule ends at =
    let a : m.a ≡ p = at.a tt in (
      λ kept. (
        λ below.
            let under : p < 128 = (let z = leb-false 128 m.a (not-true _ below) in omega (arith, z, a)) in
            common_leads r c p u t handed d ways Q _ few under (λ from. keeps.common is from under) rule ends
            (between_over r c p u t handed d m _ (p < 2) (2 ≤ p) ⊤ refl refl refl refl refl at),
        λ above.
            let over : 128 ≤ p = (let z = leb-true 128 m.a (not-false _ above) in omega (arith, z, a)) in
            let rest : bit_and m.a 0x7F ≡ p % 128 = ap (λ n. bit_and n 0x7F) a ∙ low_seven p small in (
              λ less.
                  let low : p % 128 < 3 =
                  (let z = leb-false 3 (bit_and m.a 0x7F) (not-true _ less) in omega (arith, z, rest)) in
                  ends _ at.y
                  (done_over r.layout.holds r.voice t handed d m _ refl refl refl
                  (unset r c p u t handed d m small low rule at)),
              λ more.
                  let carry : nat_le 3 (bit_and m.a 0x7F) ≡ true = not-false _ more in
                  let from : 3 ≤ p % 128 = (let z = leb-true 3 (bit_and m.a 0x7F) carry in omega (arith, z, rest)) in
                  let tempo = one_less_is (bit_and m.a 0x7F) (p % 128) (nat_le 3 (bit_and m.a 0x7F)) rest
                  (omega (arith, from)) (omega arith) carry in
                  let same : p % 128 - 1 ≡ p - 0x81 = omega (arith, small, over, from) in
                  let done : Done r.layout.holds r.voice u handed d m = at.waits (omega (arith, over)) in
                  ends _ at.y
                  (done_by r.layout.holds r.voice _ t handed d _
                  (sym (ap (λ q. shared_by (with_tempo (r.voice + 1) q u.common) u) (tempo ∙ same)
                  ∙ (ap (λ q. shared_by q u) (tempo_own (r.voice + 1) p u.common (omega (arith, small, over, from)))
                  ∙ rule)))
                  (done_over r.layout.holds r.voice _ handed d _ _ refl refl refl
                  (own_tempo_set r.layout.holds r.voice u handed d m
                  ((bit_and m.a 0x7F + 254 + one_if (nat_le 3 (bit_and m.a 0x7F))) % 256) few done))),
            ),
      ),
      λ out.
          let under : p < 128 = no_voice out (cases_lt p 128) in
          common_leads r c p u t handed d ways Q m few under (λ from. keeps.common is from under) rule ends at,
    )
  where
    no_voice : r.layout.holds VOICE_TEMPO ≡ false → (p < 128) ⊎ (128 ≤ p) → p < 128
    no_voice out (inl low) = low
    no_voice out (inr high) = absurd (both_ways (r.layout.holds VOICE_TEMPO) out (keeps.voice is high))

-- ---- $F

chosen_is : (p : ℕ) → p < 2 → condition_of_tempo p ≡ Some FUNK_TURNS
chosen_is p short =
    let a : nat_le p 1 ≡ true = le-leb p 1 (omega (arith, short)) in
    rw a refl

length_is : (p : ℕ) → 3 ≤ p % 128 → condition_of_tempo p ≡ Some SET_TEMPO
length_is p long =
    let a : nat_le p 1 ≡ false = lt-leb p 1 (omega (arith, long)) in
    let b : nat_le 3 (p % 128) ≡ true = le-leb 3 (p % 128) long in
    rw (a, b) refl

abbrev length_lines : Tree → Tree
length_lines rest = ThenTree (lines_for SET_TEMPO 0xF (lines_of TEMPO_SET)) rest

abbrev pub tempo_lines : Tree → Tree
tempo_lines rest = ThenTree (lines_for FUNK_TURNS 0xF (lines_of FUNK_SET)) (length_lines rest)

-- the command is done by two blocks, of which each may be left out where its condition isn't the command's
pub tempo_lead : (r : Reader) (c p : ℕ) (u t : Playing) (handed : Lent) (d : VoiceDesk) (rest : Tree) (ways : Ways)
    (m : VoiceDesk) → r.voice < 3 → c ≡ 0xF → p < 256 → AreKept r.layout (condition_of_tempo p) →
    KeepsTempo r.layout c p →
    shared_by (tempo_set (r.voice + 1) p u.common) u ≡ t →
    ((n : VoiceDesk) → Between r c p u t handed d ⊤ ⊥ ⊥ n → Leads r rest ways n) → m.y ≡ c → m.a ≡ p →
    Done r.layout.holds r.voice u handed d m → Leads r (tempo_lines rest) ways m
tempo_lead r c p u t handed d rest ways m voice e small kept tempo rule on y a done =
    goes_on true r (lines_for FUNK_TURNS 0xF (lines_of FUNK_SET)) (length_lines rest) (AtLengths r c p u t handed d)
    ways m
    (part_leads r c p u t handed d ⊥ ⊤ ⊤ FUNK_TURNS 0xF (lines_of FUNK_SET) ways (AtLengths r c p u t handed d) m few
    (omega arith) (λ n other at. absurd (other e)) (λ left same. not_chosen left)
    (λ n same at. chosen_leads r c p u t handed d ways n voice rule at.y (at.a tt) (at.waits tt))
    (record { y = y; was = λ was. absurd was; waits = λ waits. done; a = λ keeps. a }))
    (λ n at.
    goes_on true r (lines_for SET_TEMPO 0xF (lines_of TEMPO_SET)) rest (Between r c p u t handed d ⊤ ⊥ ⊥) ways n
    (part_leads r c p u t handed d (p < 2) (2 ≤ p) ⊤ SET_TEMPO 0xF (lines_of TEMPO_SET) ways
    (Between r c p u t handed d ⊤ ⊥ ⊥) n few (omega arith) (λ k other at. absurd (other e))
    (λ left same. no_length n left at)
    (λ k same at. length_leads r c p u t handed d ways (Between r c p u t handed d ⊤ ⊥ ⊥) k voice small e tempo rule
    ended at)
    at) on)
  where
    few : c < 256
    few = omega (arith, e)

    not_chosen : r.layout.holds FUNK_TURNS ≡ false → AtLengths r c p u t handed d m
    not_chosen left = record {
      y = y;
      was = λ short.
          absurd (both_ways (r.layout.holds FUNK_TURNS) left (subst (AreKept r.layout) (chosen_is p short) kept));
      waits = λ long. done;
      a = λ keeps. a;
    }

    ended : (n : VoiceDesk) → n.y ≡ c → Done r.layout.holds r.voice t handed d n → Between r c p u t handed d ⊤ ⊥ ⊥ n
    ended n y done =
        record { y = y; was = λ was. done; waits = λ waits. absurd waits; a = λ keeps. absurd keeps }

    no_length : (n : VoiceDesk) → r.layout.holds SET_TEMPO ≡ false → AtLengths r c p u t handed d n →
        Between r c p u t handed d ⊤ ⊥ ⊥ n
    no_length n left at =
        elim (cases_lt (p % 128) 3) [
          | inl low ↦ ended n at.y (unset r c p u t handed d n small low rule at)
          | inr high ↦
              absurd (both_ways (r.layout.holds SET_TEMPO) left
              (subst (AreKept r.layout) (length_is p high) kept))
        ]

-- ---- $E

-- a row of the speed table
pub record SpeedAt (r : Reader) (look : LookUps) (p : ℕ) : Type 0 where
  pub left : Reads r (place_at r SPEED_LEFTS p) (look.row Speed p).left
  pub right : Reads r (place_at r SPEED_RIGHTS p) (look.row Speed p).right

-- the two funk tempos stand, and A is 0
record AtTurns (r : Reader) (look : LookUps) (p : ℕ) (u : Playing) (handed : Lent) (d m : VoiceDesk) : Type 0 where
  common : Common
  is : with_all_tempos 0 common ≡ funk_tempo look p u.common
  done : Done r.layout.holds r.voice (record u { common = common }) handed d m
  a : m.a ≡ 0

value_is : (byte side : ℕ) → byte ≡ side → (byte + 254 + 1) % 256 ≡ (side + 256 - 1) % 256
value_is byte side e = rw e (omega arith)

turns_leads : (r : Reader) (look : LookUps) (p : ℕ) (u : Playing) (handed : Lent) (d : VoiceDesk) (ways : Ways)
    (m : VoiceDesk) → (p ≢ 0 → SpeedAt r look p) → m.a ≡ p → Done r.layout.holds r.voice u handed d m →
    Leads r (body_of TURNS (lines_of FUNK_CHOSEN)) (in_scope TURNS (done_as (AtTurns r look p u handed d) ways)) m
turns_leads r look p u handed d ways m sides a done = (
  λ zero.
      let none : m.a ≡ 0 = eqb-true m.a 0 zero in record {
        common = u.common;
        is = funk_none look p u.common (sym a ∙ none);
        done = done_over r.layout.holds r.voice u handed d m _ refl refl refl done;
        a = none;
      },
  λ not_zero.
      let some : p ≢ 0 = λ none. eqb-false m.a 0 not_zero (a ∙ none) in
      let side = sides some in
      let row = look.row Speed p in
      let tempo = λ (its : ℕ). tempo_of (its + 1) u.common in
      listed SPEED_LEFTS p row.left side.left a
      (λ b e.
      listed SPEED_RIGHTS p row.right side.right a
      (λ g f.
      let one = value_is b row.left e in
      let two = value_is g row.right f in record {
        common = funk_set row u.common;
        is = funk_some look p u.common some;
        done =
            shared_done r.layout.holds r.voice u (funk_set row u.common) handed d m _ refl refl refl
            (tempos_kept r.voice FUNK_TWO ((g + 254 + 1) % 256) (put m.shared FUNK_ONE ((b + 254 + 1) % 256)) tempo refl
            refl refl
            (tempos_kept r.voice FUNK_ONE ((b + 254 + 1) % 256) m.shared tempo refl refl refl done.tempos))
            (assumption (one, two, done.common)) (assumption done.lent) done;
        a = refl;
      })),
)

-- what is done for command $E, which keeps no register
pub funk_leads : (r : Reader) (look : LookUps) (p : ℕ) (u t : Playing) (handed : Lent) (d : VoiceDesk) (ways : Ways)
    (m : VoiceDesk) → r.voice < 3 → (p ≢ 0 → SpeedAt r look p) → shared_by (funk_tempo look p u.common) u ≡ t →
    m.a ≡ p → Done r.layout.holds r.voice u handed d m →
    Leads r (lines_of FUNK_CHOSEN) (in_scope OTHER (done_as (Done r.layout.holds r.voice t handed d) ways)) m
funk_leads r look p u t handed d ways m few sides rule a done =
    joined true r TURNS (body_of TURNS (lines_of FUNK_CHOSEN)) (rest_of TURNS (lines_of FUNK_CHOSEN))
    (AtTurns r look p u handed d) goal m (turns_leads r look p u handed d goal m sides a done)
    (λ n turned.
    done_by r.layout.holds r.voice _ t handed d _
    (sym (ap (λ q. shared_by (with_all_tempos q turned.common) u) turned.a
    ∙ (ap (λ q. shared_by q u) turned.is ∙ rule)))
    (all_tempos_set r.layout.holds r.voice (shared_by turned.common u) handed d n n.a few turned.done))
  where
    goal : Ways
    goal = in_scope OTHER (done_as (Done r.layout.holds r.voice t handed d) ways)
