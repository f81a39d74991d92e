-- Between rows a row's length is loaded where the tick has passed 0.
use Rattle.std.proofs.Common.{◌≡◌, ℕ, zero, suc, ◌+◌, ◌%◌, ◌<◌, ◌≤◌, true, false, nat_le, bit_xor}
use Rattle.std.proofs.Common.{inl, inr, refl, sym, ap, ◌∙◌, arith}
use Rattle.std.proofs.lemmas.Bool.{leb-true, leb-false, le-leb, cases_lt, both_ways}
use Rattle.std.proofs.lemmas.Bool.Decides.{eqb_tells}
use Rattle.code_runs.specs.Runs.{put}
use Rattle.play_model.specs.State.{Common, Playing}
use Rattle.play_model.specs.TickStep.{tempo_of, with_tempo, reloaded, between_rows}
use Rattle.scopes.specs.Trees.{Tree}
use Rattle.player_memory.specs.Rooms.{IsRoom}
use Rattle.player_memory.specs.declared.labels.TheConstants.{TEMPO, FUNK_ONE, FUNK_TWO}
use Rattle.player_memory.specs.declared.conditions.TheConstants.{FUNK_TEMPO}
use Rattle.player_desk.proofs.Laws.{VoiceDesk, Reader, Ways, Leads, done_as, body_of, goes_on, OfAll, Lent, Done}
use Rattle.player_desk.proofs.Laws.{own_done, done_over, done_by}
use Rattle.player_text.specs.declared.tick.TheConstants.{RUNS}
use Rattle.tick_code.specs.TickBlock.{tick_tree}
use Rattle.command_code.proofs.Laws.{own_tempo_set}
use Rattle.tick_code.proofs.Pieces.{first_of, behind}

-- ---- the rule

abbrev with_tick : ℕ → Playing → Playing
with_tick tick s = record s { voice = record s.voice { tick = tick } }

length_is : (channel tempo : ℕ) (s : Playing) → 2 ≤ tempo → with_tick tempo s ≡ reloaded channel tempo s
length_is channel tempo s long =
    let z : nat_le 2 tempo ≡ true = le-leb 2 tempo long in
    rw z refl

first_is : (channel tempo turned : ℕ) (s : Playing) → tempo ≡ 0 → turned ≡ 1 →
    with_tick s.common.funk_one (record s { common = with_tempo channel turned s.common }) ≡ reloaded channel tempo s
first_is channel tempo turned s e f = rw (e, f) refl

second_is : (channel tempo turned : ℕ) (s : Playing) → tempo ≡ 1 → turned ≡ 0 →
    with_tick s.common.funk_two (record s { common = with_tempo channel turned s.common }) ≡ reloaded channel tempo s
second_is channel tempo turned s e f = rw (e, f) refl

pub past_is : (channel : ℕ) (s : Playing) → nat_le 0x80 s.voice.tick ≡ true →
    reloaded channel (tempo_of channel s.common) s ≡ between_rows channel s
unfolding between_rows
past_is channel s past = rw past refl

pub counts_is : (channel : ℕ) (s : Playing) → nat_le 0x80 s.voice.tick ≡ false → s ≡ between_rows channel s
unfolding between_rows
counts_is channel s counts = rw counts refl

-- ---- the code

-- A is the tick that is loaded
record AtLength (r : Reader) (tempo : ℕ) (s : Playing) (handed : Lent) (d m : VoiceDesk) : Type 0 where
  common : Common
  tick : ℕ
  done : Done r.layout.holds r.voice (record s { common = common }) handed d m
  a : m.a ≡ tick
  is : with_tick tick (record s { common = common }) ≡ reloaded (r.voice + 1) tempo s

abbrev length_tree : Tree
length_tree = behind (behind (behind (behind (body_of RUNS tick_tree))))

-- the two funk tempos stand one behind the other
funk_place : (r : Reader) (label number y : ℕ) → IsRoom r.layout r.rows → number < 2 → label ≡ FUNK_ONE + number →
    y ≡ number → (r.layout.address FUNK_ONE + y) % 65536 ≡ r.layout.address label
funk_place r label number y room few is e =
    let ends = room.variables.to FUNK_TWO (omega arith) in
    let behind = room.variables.funk in
    let at : r.layout.address (FUNK_ONE + number) ≡ r.layout.address FUNK_ONE + number = by_number number few in
    rw (e, is) (omega (arith, at, ends, behind, few))
  where
    by_number : (n : ℕ) → n < 2 → r.layout.address (FUNK_ONE + n) ≡ r.layout.address FUNK_ONE + n
    by_number zero few = omega arith
    by_number (suc zero) few = room.variables.funk
    by_number (suc (suc more)) few = absurd (omega (arith, few))

turn_leads : (r : Reader) (tempo : ℕ) (s : Playing) (handed : Lent) (d : VoiceDesk) (ways : Ways) (m : VoiceDesk) →
    r.voice < 3 → IsRoom r.layout r.rows → (tempo < 2 → r.layout.holds FUNK_TEMPO ≡ true) → m.a ≡ tempo →
    Done r.layout.holds r.voice s handed d m →
    Leads r (first_of length_tree) (done_as (AtLength r tempo s handed d) ways) m
turn_leads r tempo s handed d ways m few room keeps a done = (
  λ kept. (
    λ long. stays _ refl refl refl refl (let z = leb-true 2 m.a long in omega (arith, z, a)),
    λ short.
        let below : tempo < 2 = (let z = leb-false 2 m.a short in omega (arith, z, a)) in
        elim (eqb_tells tempo 0) [
          | inl is_zero ↦
              let none : tempo ≡ 0 = is_zero.1 in
              OfAll FUNK_ONE refl (funk_place r FUNK_ONE 0 m.a room (omega arith) refl (a ∙ none)) (record {
                common = with_tempo (r.voice + 1) (bit_xor m.a 1) s.common;
                tick = s.common.funk_one;
                done = turned _ refl refl refl;
                a = done.common.funk_one kept;
                is =
                    first_is (r.voice + 1) tempo (bit_xor m.a 1) s none (ap (λ n. bit_xor n 1) (a ∙ none));
              })
          | inr some ↦
              let one : tempo ≡ 1 = (let z = some.1 in omega (arith, z, below)) in
              OfAll FUNK_TWO refl (funk_place r FUNK_TWO 1 m.a room (omega arith) refl (a ∙ one)) (record {
                common = with_tempo (r.voice + 1) (bit_xor m.a 1) s.common;
                tick = s.common.funk_two;
                done = turned _ refl refl refl;
                a = done.common.funk_two kept;
                is =
                    second_is (r.voice + 1) tempo (bit_xor m.a 1) s one (ap (λ n. bit_xor n 1) (a ∙ one));
              })
        ],
  ),
  λ out.
      elim (cases_lt tempo 2) [
        | inl short ↦ absurd (both_ways (r.layout.holds FUNK_TEMPO) out (keeps short))
        | inr long ↦ stays m refl refl refl refl long
      ],
)
  where
    stays : (n : VoiceDesk) → n.own ≡ m.own → n.shared ≡ m.shared → n.sid ≡ m.sid → n.a ≡ m.a → 2 ≤ tempo →
        AtLength r tempo s handed d n
    stays n own shared sid same long = record {
      common = s.common;
      tick = tempo;
      done = done_over r.layout.holds r.voice s handed d m n own shared sid done;
      a = same ∙ a;
      is = length_is (r.voice + 1) tempo s long;
    }

    turned : (n : VoiceDesk) → n.own ≡ put m.own TEMPO (bit_xor m.a 1) → n.shared ≡ m.shared → n.sid ≡ m.sid →
        Done r.layout.holds r.voice (record s { common = with_tempo (r.voice + 1) (bit_xor m.a 1) s.common }) handed d n
    turned n own shared sid =
        done_over r.layout.holds r.voice _ handed d (record m { own = put m.own TEMPO (bit_xor m.a 1) }) n own shared
        sid
        (own_tempo_set r.layout.holds r.voice s handed d m (bit_xor m.a 1) few done)

-- A is the tempo
pub reload_leads : (r : Reader) (s : Playing) (handed : Lent) (d : VoiceDesk) (ways : Ways) (Q : VoiceDesk → Type 0)
    (m : VoiceDesk) → r.voice < 3 → IsRoom r.layout r.rows →
    (tempo_of (r.voice + 1) s.common < 2 → r.layout.holds FUNK_TEMPO ≡ true) →
    m.a ≡ tempo_of (r.voice + 1) s.common →
    ((n : VoiceDesk) →
    Done r.layout.holds r.voice (reloaded (r.voice + 1) (tempo_of (r.voice + 1) s.common) s) handed d n → Q n) →
    Done r.layout.holds r.voice s handed d m → Leads r length_tree (done_as Q ways) m
reload_leads r s handed d ways Q m few room keeps a into done =
    goes_on true r (first_of length_tree) (behind length_tree) (AtLength r tempo s handed d) (done_as Q ways) m
    (turn_leads r tempo s handed d (done_as Q ways) m few room keeps a done)
    (λ n at.
    let tick : n.a ≡ at.tick = at.a in
    into _
    (done_by r.layout.holds r.voice _ _ handed d _ (sym at.is)
    (own_done r.layout.holds r.voice (record s { common = at.common })
    (with_tick at.tick (record s { common = at.common })) handed d n _ refl refl refl
    (assumption (tick, at.done.fields)) (assumption at.done.song) at.done)))
  where
    tempo : ℕ
    tempo = tempo_of (r.voice + 1) s.common
