-- What the code of a command of the wave table leaves.
use Rattle.std.proofs.Common.{◌≡◌, ◌≢◌, ℕ, ◌+◌, ◌%◌, ◌<◌, ◌≤◌, ◌⊎◌, true, false}
use Rattle.std.proofs.Common.{nat_eq, bit_and}
use Rattle.std.proofs.Common.{inl, inr, refl, sym, ◌∙◌, arith}
use Rattle.std.proofs.lemmas.Bool.{eqb-true, eqb-false, leb-true, leb-false, both_ways, ne_eqb}
use Rattle.std.proofs.lemmas.Bool.Decides.{eqb_tells}
use Rattle.code_runs.specs.Runs.{put}
use Rattle.play_model.specs.LookUps.{LookUps}
use Rattle.play_model.specs.State.{Voice, Playing}
use Rattle.play_model.specs.TickStep.{tempo_of}
use Rattle.play_model.specs.Helpers.{do_command}
use Rattle.play_model.specs.WaveStep.{wave_command}
use Rattle.player_memory.specs.declared.conditions.TheConstants.{WAVE_COMMAND, EFFECTS}
use Rattle.player_memory.specs.declared.labels.TheConstants.{COMMAND, PARAM, WAVE_RIGHTS, LENT, KEPT_COMMAND}
use Rattle.player_memory.specs.declared.labels.TheConstants.{KEPT_PARAM}
use Rattle.player_text.specs.declared.joints.TheConstants.{RUNNING, EFFECTED, NOTHING}
use Rattle.player_desk.proofs.Laws.{VoiceDesk, Reader, Ways, Leads, done_as, in_scope, leads_on, loaded, indexed}
use Rattle.player_desk.proofs.Laws.{body_of, rest_of, joined, goes_on}
use Rattle.player_desk.proofs.Laws.{Lent, Done, done_over, done_by, Reads, listed, place_at}
use Rattle.player_desk.proofs.VoiceDesks.{Either}
use Rattle.wave_code.specs.CommandBlock.{command_row_tree, KeepsOnce, lent_out}
use Rattle.wave_code.proofs.StoredRows.{low_four}
use Rattle.wave_code.proofs.Pieces.{ONCE, read_tree, from_index, from_ad}
use Rattle.command_code.proofs.Laws.{tempos_kept, do_eight, do_over}
use Rattle.wave_code.proofs.Once.{OnceDone, once_leads}

-- ---- the rule

pub wave_none : (look : LookUps) (c x : ℕ) (s : Playing) → c ≡ 0 → s ≡ wave_command look c x s
unfolding wave_command
wave_none look c x s e = rw e refl

-- one from 5 on is done once
pub wave_once : (look : LookUps) (c x : ℕ) (s : Playing) → 5 ≤ c → do_command c x s ≡ wave_command look c x s
unfolding wave_command
wave_once look c x s from =
    elim (eqb_tells c 8) [
      | inl eight ↦ (let same = eight.1 in sym (do_eight c x s same) ∙ rw same refl)
      | inr other ↦
          elim (eqb_tells c 14) [
            | inl last ↦ (let same = last.1 in sym (do_over c x s (omega (arith, same))) ∙ rw same refl)
            | inr apart ↦
                let a : nat_eq c 0 ≡ false = ne_eqb c 0 (λ e. omega (arith, e, from)) in
                let b : nat_eq c 1 ≡ false = ne_eqb c 1 (λ e. omega (arith, e, from)) in
                let d : nat_eq c 2 ≡ false = ne_eqb c 2 (λ e. omega (arith, e, from)) in
                let f : nat_eq c 3 ≡ false = ne_eqb c 3 (λ e. omega (arith, e, from)) in
                let g : nat_eq c 4 ≡ false = ne_eqb c 4 (λ e. omega (arith, e, from)) in
                let h : nat_eq c 8 ≡ false = ne_eqb c 8 other.1 in
                let i : nat_eq c 14 ≡ false = ne_eqb c 14 apart.1 in
                rw (a, b, d, f, g, h, i) refl
          ]
    ]

-- ---- where its ways lead

-- the voice's own command and parameter are kept for afterwards
abbrev pub lent_handed : Voice → Lent
lent_handed v = record { lent = 1; command = v.command; param = v.param }

-- the command is done; and it is lent, with A as the command
pub record AtOnce (r : Reader) (look : LookUps) (c x : ℕ) (s : Playing) (handed : Lent) (d m : VoiceDesk) : Type 0 where
  pub which : (c ≡ 0) ⊎ (5 ≤ c)
  pub done : Done r.layout.holds r.voice (wave_command look c x s) handed d m

pub record AtLent (r : Reader) (c x : ℕ) (s : Playing) (d m : VoiceDesk) : Type 0 where
  pub least : 1 ≤ c
  pub most : c ≤ 4
  pub a : m.a ≡ c
  pub done : Done r.layout.holds r.voice (lent_out c x s) (lent_handed s.voice) d m

abbrev pub command_ways : Reader → LookUps → ℕ → ℕ → Playing → Lent → VoiceDesk → Ways
command_ways r look c x s handed d = record {
  Done = λ m. ⊥;
  Left = λ name m.
      Either (nat_eq name RUNNING) (AtLent r c x s d m)
      (Either (nat_eq name EFFECTED) (AtOnce r look c x s handed d m) ⊥);
  Again = λ m. ⊥;
}

-- ---- one that is done once

abbrev in_nothing : Reader → LookUps → ℕ → ℕ → Playing → Lent → VoiceDesk → Ways
in_nothing r look c x s handed d =
    in_scope NOTHING (done_as (AtOnce r look c x s handed d) (command_ways r look c x s handed d))

-- A is the command, and Y its row
record AtRow (r : Reader) (c p : ℕ) (s : Playing) (handed : Lent) (d m : VoiceDesk) : Type 0 where
  from : 5 ≤ c
  a : m.a ≡ c
  y : m.y ≡ p
  done : Done r.layout.holds r.voice s handed d m

-- A is its parameter, and the pointer's low byte the command
record AtParam (r : Reader) (c x : ℕ) (s : Playing) (handed : Lent) (d m : VoiceDesk) : Type 0 where
  low : m.low ≡ c
  a : m.a ≡ x
  done : Done r.layout.holds r.voice s handed d m

index_leads : (r : Reader) (look : LookUps) (c x : ℕ) (s : Playing) (handed : Lent) (d m : VoiceDesk) → c < 15 →
    x < 256 → 5 ≤ c → KeepsOnce r.layout c → AtParam r c x s handed d m →
    Leads r from_index (in_nothing r look c x s handed d) m
index_leads r look c x s handed d m few byte from keeps at =
    leads_on true r from_ad (done_as (OnceDone r c x s handed d) goal) goal (indexed m.low m)
    (record {
      done = λ n q. record {
        which = inr from;
        done = done_by r.layout.holds r.voice (do_command c x s) _ handed d n (sym (wave_once look c x s from)) q;
      };
      left = λ name n q. q;
      again = λ n q. q;
    })
    (once_leads r c x s handed d goal (indexed m.low m) few byte keeps
    (record {
      y = at.low;
      was = λ was. absurd (omega (arith, was, from));
      waits = λ waits. done_over r.layout.holds r.voice s handed d m _ refl refl refl at.done;
      a = λ keeps. at.a;
    }))
  where
    goal : Ways
    goal = in_nothing r look c x s handed d

row_leads : (r : Reader) (look : LookUps) (c x p : ℕ) (s : Playing) (handed : Lent) (d m : VoiceDesk) → c < 15 →
    x < 256 → Reads r (place_at r WAVE_RIGHTS p) x → (5 ≤ c → KeepsOnce r.layout c) → AtRow r c p s handed d m →
    Leads r (rest_of ONCE command_row_tree) (in_nothing r look c x s handed d) m
row_leads r look c x p s handed d m few byte reads keeps at =
    goes_on true r read_tree from_index (AtParam r c x s handed d) (in_nothing r look c x s handed d)
    (record m { low = m.a })
    (listed WAVE_RIGHTS p x reads at.y
    (λ b e.
    record { low = at.a; a = e; done = done_over r.layout.holds r.voice s handed d m _ refl refl refl at.done }))
    (λ n param. index_leads r look c x s handed d n few byte at.from (keeps at.from) param)

-- ---- one that is lent

once_or_lent : (r : Reader) (look : LookUps) (c x p : ℕ) (s : Playing) (handed : Lent) (d m : VoiceDesk) →
    c < 15 → x < 256 → Reads r (place_at r WAVE_RIGHTS p) x → handed.lent ≡ 0 →
    (c ≤ 4 → r.layout.holds EFFECTS ≡ true) → 1 ≤ c → m.a ≡ c → m.y ≡ p → Done r.layout.holds r.voice s handed d m →
    Leads r (body_of ONCE command_row_tree)
    (in_scope ONCE (done_as (AtRow r c p s handed d) (in_nothing r look c x s handed d))) m
once_or_lent r look c x p s handed d m few byte reads free effects least is y done = (
  λ once. record {
    from = (let l = leb-true 5 m.a once in omega (arith, l, is));
    a = is;
    y = y;
    done = done_over r.layout.holds r.voice s handed d m _ refl refl refl done;
  },
  λ lends.
      let most : c ≤ 4 = (let l = leb-false 5 m.a lends in omega (arith, l, is)) in
      listed WAVE_RIGHTS p x reads y
      (λ b e. record { least = least; most = most; a = is; done = lent most b e _ refl refl refl }),
)
  where
    -- the bytes that no voice owns
    after : ℕ → ℕ
    after =
        put (put (put m.shared KEPT_COMMAND (m.own COMMAND)) KEPT_PARAM (m.own PARAM)) LENT ((m.shared LENT + 1) % 256)

    tempo : ℕ → ℕ
    tempo its = tempo_of (its + 1) s.common

    lent : c ≤ 4 → (b : ℕ) → b ≡ x → (n : VoiceDesk) → n.own ≡ put (put m.own PARAM b) COMMAND m.a →
        n.shared ≡ after → n.sid ≡ m.sid → Done r.layout.holds r.voice (lent_out c x s) (lent_handed s.voice) d n
    lent most b e n own shared sid = record {
      fields = rw own (assumption (e, is, done.fields));
      common = rw shared (assumption done.common);
      tempos = rw shared
          (tempos_kept r.voice LENT ((m.shared LENT + 1) % 256)
          (put (put m.shared KEPT_COMMAND (m.own COMMAND)) KEPT_PARAM (m.own PARAM)) tempo refl refl refl
          (tempos_kept r.voice KEPT_PARAM (m.own PARAM) (put m.shared KEPT_COMMAND (m.own COMMAND)) tempo refl refl refl
          (tempos_kept r.voice KEPT_COMMAND (m.own COMMAND) m.shared tempo refl refl refl done.tempos)));
      lent = rw shared (record {
        lent = (let l = done.lent.lent in omega (arith, l, free));
        command = λ some. done.fields.command (effects most);
        param = λ some. done.fields.param (effects most);
      });
      song = rw own (assumption done.song);
      sid = sid ∙ done.sid;
    }

-- ---- the law

-- On the desk of a voice with a command of the wave table in A and its row in Y, the code leads to where the command is
-- done, or lent to the effect step, whose code is kept.
pub command_row_leads : (r : Reader) (look : LookUps) (c x p : ℕ) (s : Playing) (handed : Lent) (d m : VoiceDesk) →
    c < 15 → x < 256 → Reads r (place_at r WAVE_RIGHTS p) x → handed.lent ≡ 0 →
    r.layout.holds WAVE_COMMAND ≡ true → (5 ≤ c → KeepsOnce r.layout c) →
    (1 ≤ c → c ≤ 4 → r.layout.holds EFFECTS ≡ true) → m.a ≡ 0xF0 + c → m.y ≡ p →
    Done r.layout.holds r.voice s handed d m →
    Leads r command_row_tree (command_ways r look c x s handed d) m
command_row_leads r look c x p s handed d m few byte reads free commands keeps effects a y done = (
  λ kept. (
    λ zero.
        let none : c ≡ 0 = (let z = eqb-true (bit_and m.a 0x0F) 0 zero in omega (arith, z, is)) in record {
          which = inl none;
          done =
              done_by r.layout.holds r.voice s _ handed d _ (sym (wave_none look c x s none))
              (done_over r.layout.holds r.voice s handed d m _ refl refl refl done);
        },
    λ some.
        joined true r ONCE (body_of ONCE command_row_tree) (rest_of ONCE command_row_tree) (AtRow r c p s handed d)
        (in_nothing r look c x s handed d) (loaded (bit_and m.a 0x0F) m)
        (once_or_lent r look c x p s handed d (loaded (bit_and m.a 0x0F) m) few byte reads free
        (effects (positive (λ e. eqb-false (bit_and m.a 0x0F) 0 some (is ∙ e))))
        (positive (λ e. eqb-false (bit_and m.a 0x0F) 0 some (is ∙ e))) is y
        (done_over r.layout.holds r.voice s handed d m _ refl refl refl done))
        (λ n row. row_leads r look c x p s handed d n few byte reads keeps row),
  ),
  λ out. absurd (both_ways (r.layout.holds WAVE_COMMAND) out commands),
)
  where
    is : bit_and m.a 0x0F ≡ c
    is = low_four m.a (omega (arith, a, few)) ∙ omega (arith, a, few)

    positive : c ≢ 0 → 1 ≤ c
    positive some =
        elim (eqb_tells c 0) [ inl none ↦ absurd (some none.1) | inr other ↦ (let z = other.1 in omega (arith, z)) ]
