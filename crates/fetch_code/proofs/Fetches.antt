-- The whole step that fetches a row.
use Rattle.std.proofs.Common.{◌≡◌, ◌≢◌, ℕ, ◌+◌, ◌<◌, ◌&&◌, Bool, true, false, nat_eq}
use Rattle.std.proofs.Common.{if◌then◌else◌, List, [], ◌∷◌, length, All, refl, sym, ap, ◌∙◌, subst, arith}
use Rattle.std.proofs.lemmas.Bool.{both_ways, eq-eqb, ne_eqb, eqb-true, eqb-false}
use Rattle.code_runs.specs.Runs.{put}
use Rattle.song_model.specs.declared.rows.Row.{Row}
use Rattle.song_model.specs.declared.orders.Order.{Order}
use Rattle.song_model.specs.Walk.{played}
use Rattle.play_model.specs.LookUps.{LookUps}
use Rattle.play_model.specs.State.{Voice, Playing}
use Rattle.play_model.specs.TickStep.{tempo_of}
use Rattle.play_model.specs.FetchRow.{fetch_row}
use Rattle.play_model.specs.Frame.{is_at_fetch, is_between_patterns}
use Rattle.packed_form.specs.declared.entries.Entry.{Entry}
use Rattle.packed_form.specs.Entries.{IsEntry, no_command, rows_from}
use Rattle.packed_form.specs.PackedSpells.{PackedSpells, text_of}
use Rattle.player_memory.specs.declared.conditions.TheConstants.{SKIP_PULSE, SKIP_FIRST}
use Rattle.player_memory.specs.declared.labels.TheConstants.{REST, OFFSET, TICK, GATE_TIMER, ORDER_LOW, ORDER_HIGH}
use Rattle.player_memory.specs.declared.labels.TheConstants.{ONE_TIMER}
use Rattle.player_memory.specs.Fetching.{EntriesStand, EntryIsNext, Walked, NotWalked, AreRests, SongStands, AtEntry}
use Rattle.player_memory.specs.Fetching.{InRun, InLastRun}
use Rattle.player_desk.proofs.Laws.{VoiceDesk, Reader, Ways, Fields, Leads, leads_on, done_as, in_scope, body_of}
use Rattle.player_desk.proofs.Laws.{rest_of, joined, loaded, alone, compared_is, over_is}
use Rattle.player_desk.proofs.VoiceDesks.{Either}
use Rattle.scopes.specs.Trees.{Tree, ThenTree, WhenTree, NeverTree}
use Rattle.player_text.specs.declared.joints.TheConstants.{FETCHES, FIRST, LATE, WALKS, BEGINS, SOUNDS, PULSED}
use Rattle.player_text.specs.Steps.{fetch_tree}
use Rattle.player_desk.proofs.Laws.{around_on, Around}
use Rattle.entry_code.proofs.Laws.{behind, compared, take_tree, SamePlay}
use Rattle.entry_code.proofs.Laws.{InPlay, same_pattern, same_walk}
use Rattle.fetch_code.proofs.Taken.{take_leads}
use Rattle.fetch_code.proofs.Outcomes.{Fetched, fetch_ways}
use Rattle.fetch_code.proofs.Reaching.{fetched_voice, AtWalk, AtLate, AtFirst, AtFetches, FetchGround, waits_on}
use Rattle.fetch_code.proofs.Reaching.{at_fetch, not_at_fetch, later, within, between, no_and, stays, rests_within}
use Rattle.fetch_code.proofs.Reaching.{pulsed, fetches}
use Rattle.fetch_code.proofs.Reaching.{await_tree, awaited_leads}

-- where the step goes on from a scope
abbrev pub EndWays : Reader → LookUps → (ℕ → List ℕ) → Order → Playing → VoiceDesk → Ways
EndWays r look packed order s d =
    fetch_ways r.layout s.voice (Fetched r look packed order s (fetched_voice look order s.voice) d)

abbrev pub FetchWays : Reader → LookUps → (ℕ → List ℕ) → Order → Playing → VoiceDesk → Ways
FetchWays r look packed order s d =
    in_scope FETCHES (done_as (AtFetches r look packed order s d) (EndWays r look packed order s d))

abbrev pub FirstWays : Reader → LookUps → (ℕ → List ℕ) → Order → Playing → VoiceDesk → Ways
FirstWays r look packed order s d =
    in_scope FIRST (done_as (AtFirst r look packed order s d) (FetchWays r look packed order s d))

abbrev pub LateWays : Reader → LookUps → (ℕ → List ℕ) → Order → Playing → VoiceDesk → Ways
LateWays r look packed order s d =
    in_scope LATE (done_as (AtLate r look packed order s d) (FirstWays r look packed order s d))

-- ---- the pattern's first entry is next

late_leads : (r : Reader) (look : LookUps) (packed : ℕ → List ℕ) (order : Order) (s : Playing) (d m : VoiceDesk) →
    FetchGround r look packed order s.voice → AtLate r look packed order s d m →
    Leads r (rest_of LATE fetch_tree) (FirstWays r look packed order s d) m
late_leads r look packed order s d m ground at = (
  λ asked. (
    λ zero. record {
      late = record {
        waiting = waits_on r look packed order s d m _ refl refl refl at.waiting;
        offset = at.offset;
        y = at.y;
      };
      a = eqb-true (m.own TICK) 0 zero;
      tick = sym tick ∙ eqb-true (m.own TICK) 0 zero;
      asked = asked;
    },
    λ some.
        by_timer
        (no_and (r.layout.holds SKIP_FIRST) (is_between_patterns s.voice)
        (later s.voice (λ z. eqb-false (m.own TICK) 0 some (tick ∙ z)))),
  ),
  λ out. by_timer (rw out refl),
)
  where
    tick : m.own TICK ≡ s.voice.tick
    tick = at.waiting.stands.fields.tick

    -- the tick is compared with the timer
    told : (r.layout.holds SKIP_FIRST && is_between_patterns s.voice) ≡ false → (b : ℕ) → b ≡ s.voice.gate_timer →
        Leads r (behind (behind (behind (rest_of LATE fetch_tree)))) (FirstWays r look packed order s d)
        (compared b (loaded (m.own TICK) m))
    told out b timer =
        let tick_byte = ground.tick in
        let timer_byte = ground.gate_timer in (
          λ zero. record {
            waiting = waits_on r look packed order s d m _ refl refl refl at.waiting;
            now =
                sym tick
                ∙ (compared_is (m.own TICK) b (omega (arith, tick, tick_byte)) (omega (arith, timer, timer_byte)) zero
                ∙ timer);
            some = λ none. (let is = at.offset in omega (arith, none, is));
            y = at.y ∙ sym at.offset;
          },
          λ other.
              let apart : s.voice.tick ≢ s.voice.gate_timer = λ e.
              over_is (m.own TICK) b (omega (arith, timer, timer_byte)) other (tick ∙ (e ∙ sym timer)) in (
                stays r s.voice
                    (no_and (r.layout.holds SKIP_PULSE) (is_at_fetch s.voice) (not_at_fetch s.voice apart)) out,
                pulsed r look packed order s d m _ refl refl refl apart at.waiting.stands,
              ),
        )

    by_timer : (r.layout.holds SKIP_FIRST && is_between_patterns s.voice) ≡ false →
        Leads r (behind (behind (rest_of LATE fetch_tree))) (FirstWays r look packed order s d)
        (loaded (m.own TICK) m)
    by_timer out = (
      λ own. told out (m.own GATE_TIMER) (at.waiting.stands.fields.gate_timer own),
      λ one. alone ONE_TIMER s.voice.gate_timer (ground.one_timer one) (told out),
    )

-- ---- the same at tick 0

-- with no rests left and the first entry next, the row is the first
first_row : (r : Reader) (look : LookUps) (packed : ℕ → List ℕ) (order : Order) (v : Voice) (own : ℕ → ℕ) →
    own REST ≡ 0 → own OFFSET ≡ 1 → SongStands r.layout look packed order v own → v.row ≡ 0
first_row r look packed order v own none one (AtEntry nothing (Walked some first pattern transpose walk entries)) =
    first.1 one
first_row r look packed order v own none one (AtEntry nothing (NotWalked through first walk)) = first
first_row r look packed order v own none one (InRun some rests inside next) = absurd (some none)
first_row r look packed order v own none one (InLastRun some rests last next) = absurd (some none)

-- the lines under a condition, where these are the first
abbrev under_first : Tree → Tree
under_first (ThenTree (WhenTree condition body) rest) = body
under_first tree = NeverTree

first_leads : (r : Reader) (look : LookUps) (packed : ℕ → List ℕ) (order : Order) (s : Playing) (d m : VoiceDesk) →
    FetchGround r look packed order s.voice → AtFirst r look packed order s d m →
    Leads r (rest_of FIRST fetch_tree) (FetchWays r look packed order s d) m
first_leads r look packed order s d m ground at = (
  λ asked. (
    λ own. told asked (m.own GATE_TIMER) (at.late.waiting.stands.fields.gate_timer own),
    λ one. alone ONE_TIMER s.voice.gate_timer (ground.one_timer one) (told asked),
  ),
  λ out. absurd (both_ways (r.layout.holds SKIP_FIRST) out at.asked),
)
  where
    acc : m.a ≡ 0
    acc = at.a

    -- A, which is the tick, is compared with the timer
    told : r.layout.holds SKIP_FIRST ≡ true → (b : ℕ) → b ≡ s.voice.gate_timer →
        Leads r (behind (under_first (rest_of FIRST fetch_tree))) (FetchWays r look packed order s d) (compared b m)
    told asked b timer =
        let timer_byte = ground.gate_timer in
        let small : b < 256 = omega (arith, timer, timer_byte) in (
          λ zero. record {
            waiting = waits_on r look packed order s d m _ refl refl refl at.late.waiting;
            now = at.tick ∙ (sym acc ∙ (compared_is m.a b (omega (arith, acc)) small zero ∙ timer));
            some = λ none. (let is = at.late.offset in omega (arith, none, is));
            y = at.late.y ∙ sym at.late.offset;
          },
          λ other.
              let apart : s.voice.tick ≢ s.voice.gate_timer = λ e.
              over_is m.a b small other (acc ∙ (sym at.tick ∙ (e ∙ sym timer))) in
              let none : (r.layout.holds SKIP_PULSE && is_at_fetch s.voice) ≡ false =
              no_and (r.layout.holds SKIP_PULSE) (is_at_fetch s.voice) (not_at_fetch s.voice apart) in (
                λ rest.
                    let row : s.voice.row ≡ 0 =
                    first_row r look packed order s.voice m.own (eqb-true (m.own REST) 0 rest) at.late.offset
                    at.late.waiting.stands.song in (
                      rw (none, asked, between s.voice at.tick row) refl,
                      pulsed r look packed order s d m _ refl refl refl apart at.late.waiting.stands,
                    ),
                λ more. (
                  stays r s.voice none
                      (no_and (r.layout.holds SKIP_FIRST) (is_between_patterns s.voice)
                      (within s.voice (rests_within r look packed order s.voice m.own (eqb-false (m.own REST) 0 more)
                      at.late.waiting.stands.song))),
                  pulsed r look packed order s d m _ refl refl refl apart at.late.waiting.stands,
                ),
              ),
        )

-- ---- the entry is taken

taking_leads : (r : Reader) (look : LookUps) (packed : ℕ → List ℕ) (order : Order) (s : Playing) (d m : VoiceDesk) →
    FetchGround r look packed order s.voice → AtFetches r look packed order s d m →
    Leads r take_tree (EndWays r look packed order s d) m
taking_leads r look packed order s d m ground at = by_song at.waiting.stands.song
  where
    none : m.own REST ≡ 0
    none = at.waiting.due at.now

    ends : (n : VoiceDesk) → Fetched r look packed order s (fetch_row look order s.voice) m n →
        Fetched r look packed order s (fetched_voice look order s.voice) d n
    ends n done = fetches r look packed order s d n at.now (record {
      fields = done.fields;
      around = record {
        common = done.around.common;
        tempos = done.around.tempos;
        none_lent = done.around.none_lent;
        sid = done.around.sid ∙ at.waiting.stands.around.sid;
      };
      order_low = done.order_low ∙ at.waiting.stands.order_low;
      order_high = done.order_high ∙ at.waiting.stands.order_high;
      song = done.song;
    })

    either_of : (z : Bool) (P Q R S : Type 0) → (P → R) → (Q → S) → Either z P Q → Either z R S
    either_of true P Q R S one two p = one p
    either_of false P Q R S one two p = two p

    by_song : SongStands r.layout look packed order s.voice m.own →
        Leads r take_tree (EndWays r look packed order s d) m
    by_song (InRun some rests inside next) = absurd (some none)
    by_song (InLastRun some rests last next) = absurd (some none)
    by_song (AtEntry nothing (NotWalked through first walk)) = absurd (at.some through)
    by_song (AtEntry nothing (Walked least first pattern transpose walk entries)) =
        leads_on true r take_tree
        (fetch_ways r.layout s.voice (Fetched r look packed order s (fetch_row look order s.voice) m))
        (EndWays r look packed order s d) m
        (record {
          done = λ n done. (done.0, ends n done.1);
          left = λ name n left.
              either_of (nat_eq name SOUNDS) _ _ _ _ (λ done. (done.0, ends n done.1))
              (λ other.
              either_of (nat_eq name PULSED) _ ⊥ _ ⊥ (λ done. (done.0, ends n done.1)) (λ never. never) other) left;
          again = λ n never. never;
        })
        (take_leads r look packed order s m (ground.pattern s.voice.plays)
        (record {
          fields = at.waiting.stands.fields;
          rest_is = none;
          around = record {
            common = at.waiting.stands.around.common;
            tempos = at.waiting.stands.around.tempos;
            none_lent = at.waiting.stands.around.none_lent;
            sid = refl;
          };
          pattern = pattern;
          y = at.y;
          some = least;
          first = first;
          entries = entries;
        })
        (record { pattern = pattern; transpose = transpose; walk = walk }) (ground.spells s.voice.plays).count.most
        ground.timer ground.keeps (λ out. ground.idle out s.voice.plays) ground.new_command (at_fetch s.voice at.now))

-- ---- the pattern begins

-- the play to which the orderlist is walked: the voice's own, or, where rests of that are left, the one behind it
abbrev pub next_play : Voice → (ℕ → ℕ) → ℕ
next_play v own = if nat_eq (own REST) 0 then v.plays else v.plays + 1

-- the orderlist has been walked from a desk on
pub record AtBegun (r : Reader) (look : LookUps) (packed : ℕ → List ℕ) (order : Order) (s : Playing) (d b m : VoiceDesk)
    : Type 0 where
  pub fields : Fields r.layout.holds s.voice (tempo_of (r.voice + 1) s.common) m.own
  pub around : Around r s d m
  pub order_low : m.own ORDER_LOW ≡ d.own ORDER_LOW
  pub order_high : m.own ORDER_HIGH ≡ d.own ORDER_HIGH
  pub rest_is : m.own REST ≡ b.own REST
  pub play : InPlay r.layout order (next_play s.voice b.own) m.own

-- a packed pattern begins with its first entry
begins_with : (bytes : List ℕ) (rows : List Row) (spells : PackedSpells bytes rows) → EntriesStand bytes rows
    no_command 0 1
begins_with bytes rows spells = by_entries spells.entries spells.each spells.text spells.are
  where
    by_entries : (entries : List Entry) → All IsEntry entries → bytes ≡ text_of entries →
        rows ≡ rows_from no_command entries → EntriesStand bytes rows no_command 0 1
    by_entries [] each text are =
        (let none = ap length are in let least = spells.count.least in absurd (omega (arith, none, least)))
    by_entries (entry ∷ others) each text are =
        record { entry = entry; others = others; each = each; text = text; left = are }

begun_leads : (r : Reader) (look : LookUps) (packed : ℕ → List ℕ) (order : Order) (s : Playing) (d b m : VoiceDesk) →
    FetchGround r look packed order s.voice → AtWalk r look packed order s d b →
    AtBegun r look packed order s d b m →
    Leads r (rest_of BEGINS fetch_tree) (LateWays r look packed order s d) m
begun_leads r look packed order s d b m ground walk at = record {
  waiting = record {
    stands = record {
      fields = assumption at.fields;
      around = around_on refl refl at.around;
      order_low = at.order_low;
      order_high = at.order_high;
      song = by_song walk.waiting.stands.song;
    };
    early = walk.waiting.early;
    due = λ now. at.rest_is ∙ walk.waiting.due now;
  };
  offset = refl;
  y = refl;
}
  where
    own : ℕ → ℕ
    own = put m.own OFFSET 1

    walked : (n row : ℕ) → next_play s.voice b.own ≡ n → row ≡ 0 → EntryIsNext r.layout look packed order s.voice n
        row own
    walked n row is first =
        let play : InPlay r.layout order n m.own = subst (λ k. InPlay r.layout order k m.own) is at.play in
        let same : SamePlay own m.own = record {
          pattern_low = refl;
          pattern_high = refl;
          order_low = refl;
          order_high = refl;
          order_place = refl;
          transpose = refl;
          repeat = refl;
        } in
        Walked (omega arith) (λ e. refl, λ e. first) (same_pattern r.layout order n m.own own same play.pattern)
        play.transpose (same_walk r.layout order (n + 1) m.own own same play.walk)
        (rw first (begins_with (packed (played order n).pattern) (look.rows (played order n).pattern)
        (ground.spells n)))

    by_song : SongStands r.layout look packed order s.voice b.own → SongStands r.layout look packed order s.voice own
    by_song (AtEntry none (Walked some first pattern transpose goes entries)) =
        (let through = walk.offset in absurd (omega (arith, through, some)))
    by_song (AtEntry none (NotWalked through first goes)) =
        let test : nat_eq (b.own REST) 0 ≡ true = eq-eqb (b.own REST) 0 none in
        AtEntry (at.rest_is ∙ none) (walked s.voice.plays s.voice.row (rw test refl) first)
    by_song (InRun some rests inside (Walked least first pattern transpose goes entries)) =
        (let through = walk.offset in absurd (omega (arith, through, least)))
    by_song (InRun some rests inside (NotWalked through first goes)) =
        (let begun = rests.begun in absurd (omega (arith, begun, first)))
    by_song (InLastRun some rests last next) =
        let test : nat_eq (b.own REST) 0 ≡ false = ne_eqb (b.own REST) 0 some in
        let same = at.rest_is in
        InLastRun (λ none. some (sym same ∙ none))
        (subst (AreRests (look.rows (played order s.voice.plays).pattern) s.voice) (sym same) rests)
        (ap (λ n. s.voice.row + n) same ∙ last) (walked (s.voice.plays + 1) 0 (rw test refl) refl)

-- ---- the whole

-- what the walk does
abbrev pub WalkLeads : Reader → LookUps → (ℕ → List ℕ) → Order → Playing → VoiceDesk → Type 0
WalkLeads r look packed order s d =
    (b : VoiceDesk) → AtWalk r look packed order s d b →
    Leads r (body_of BEGINS fetch_tree)
    (in_scope BEGINS (done_as (AtBegun r look packed order s d b) (LateWays r look packed order s d))) b

-- On the desk of a voice that stands in its song, the code leaves what the rule says, its place in the song too; and it
-- leaves out the pulse step exactly where an option that is kept does.
pub fetch_leads : (r : Reader) (look : LookUps) (packed : ℕ → List ℕ) (order : Order) (s : Playing) (d : VoiceDesk) →
    FetchGround r look packed order s.voice → WalkLeads r look packed order s d →
    Fetched r look packed order s s.voice d d → Leads r fetch_tree (EndWays r look packed order s d) d
fetch_leads r look packed order s d ground walks stands =
    joined true r FETCHES (body_of FETCHES fetch_tree) take_tree (AtFetches r look packed order s d)
    (EndWays r look packed order s d) d
    (joined true r FIRST (body_of FIRST fetch_tree) (rest_of FIRST fetch_tree) (AtFirst r look packed order s d)
    (FetchWays r look packed order s d) d
    (joined true r LATE (body_of LATE fetch_tree) (rest_of LATE fetch_tree) (AtLate r look packed order s d)
    (FirstWays r look packed order s d) d
    (joined true r WALKS await_tree (rest_of WALKS fetch_tree) (AtWalk r look packed order s d)
    (LateWays r look packed order s d) d (awaited_leads r look packed order s d d ground stands)
    (λ b walk.
    joined true r BEGINS (body_of BEGINS fetch_tree) (rest_of BEGINS fetch_tree) (AtBegun r look packed order s d b)
    (LateWays r look packed order s d) b (walks b walk)
    (λ m begun. begun_leads r look packed order s d b m ground walk begun)))
    (λ m late. late_leads r look packed order s d m ground late))
    (λ m first. first_leads r look packed order s d m ground first))
    (λ m due. taking_leads r look packed order s d m ground due)
