-- The next entry is reached: where a row is due, and where the orderlist is to be walked.
use Rattle.std.proofs.Common.{◌≡◌, ◌≢◌, ℕ, ◌+◌, ◌-◌, ◌%◌, ◌<◌, ◌≤◌, ◌&&◌, Bool}
use Rattle.std.proofs.Common.{true, false, nat_eq}
use Rattle.std.proofs.Common.{if◌then◌else◌, List, ◌∷◌, length, refl, sym, ap, ◌∙◌, subst, arith}
use Rattle.std.proofs.lemmas.Bool.{leb-true, leb-false, not-true, not-false, eq-eqb, ne_eqb, eqb-true, eqb-false}
use Rattle.std.proofs.lemmas.List.Elements.{All-tail}
use Rattle.code_runs.specs.Runs.{put}
use Rattle.song_model.specs.declared.orders.Order.{Order}
use Rattle.song_model.specs.Walk.{played}
use Rattle.play_model.specs.LookUps.{LookUps}
use Rattle.play_model.specs.State.{Voice, Playing}
use Rattle.play_model.specs.TickStep.{tempo_of}
use Rattle.play_model.specs.FetchRow.{fetch_row}
use Rattle.play_model.specs.Frame.{is_at_fetch, is_between_patterns}
use Rattle.packed_form.specs.Entries.{IsEntry}
use Rattle.packed_form.specs.PackedSpells.{PackedSpells}
use Rattle.scopes.specs.Trees.{Tree}
use Rattle.player_memory.specs.declared.conditions.TheConstants.{TRANSPOSES, SKIP_PULSE, SKIP_FIRST, OWN_TIMER}
use Rattle.player_memory.specs.declared.labels.TheConstants.{REST, OFFSET, TICK, GATE_TIMER, ORDER_LOW, ORDER_HIGH}
use Rattle.player_memory.specs.declared.labels.TheConstants.{ONE_TIMER}
use Rattle.player_memory.specs.Fetching.{transpose_byte, place_before, EntryIsNext, Walked, NotWalked, SongStands}
use Rattle.player_memory.specs.Fetching.{AtEntry, InRun, InLastRun}
use Rattle.player_desk.proofs.Laws.{VoiceDesk, Reader, Ways, Fields, Leads, done_as, in_scope, body_of, rest_of}
use Rattle.player_desk.proofs.Laws.{joined, loaded, Reads, alone, compared_is, over_is}
use Rattle.player_text.specs.declared.joints.TheConstants.{FETCHES, FIRST, LATE, WALKS}
use Rattle.player_text.specs.declared.fetch.TheConstants.{DUE, ENTRY}
use Rattle.player_text.specs.Steps.{fetch_tree}
use Rattle.entry_code.proofs.Laws.{behind, compared, stands_there, text_begins}
use Rattle.player_desk.proofs.Laws.{around_on}
use Rattle.entry_code.proofs.Laws.{PatternAt, SamePlay}
use Rattle.entry_code.proofs.Laws.{two_bytes}
use Rattle.entry_code.proofs.Laws.{TimerAt}
use Rattle.entry_code.proofs.Laws.{fields_moved}
use Rattle.fetch_code.proofs.Rests.{stands_behind_rest, rest_moves}
use Rattle.fetch_code.specs.FetchBlock.{left_out, next_instrument, KeepsNext}
use Rattle.fetch_code.proofs.Outcomes.{Fetched, fetch_ways}

-- the voice behind the step: its row is fetched where that is due
abbrev pub fetched_voice : LookUps → Order → Voice → Voice
fetched_voice look order v = if is_at_fetch v then fetch_row look order v else v

-- ---- what holds on the way

-- the voice stands as before the step, in its song too; a row is due now or comes
pub record Waiting (r : Reader) (look : LookUps) (packed : ℕ → List ℕ) (order : Order) (s : Playing) (d m : VoiceDesk)
    : Type 0 where
  pub stands : Fetched r look packed order s s.voice d m
  pub early : s.voice.tick ≤ s.voice.gate_timer
  pub due : s.voice.tick ≡ s.voice.gate_timer → m.own REST ≡ 0

-- the pattern is through, and the orderlist isn't walked
pub record AtWalk (r : Reader) (look : LookUps) (packed : ℕ → List ℕ) (order : Order) (s : Playing) (d m : VoiceDesk)
    : Type 0 where
  pub waiting : Waiting r look packed order s d m
  pub offset : m.own OFFSET ≡ 0

-- the pattern's first entry is next
pub record AtLate (r : Reader) (look : LookUps) (packed : ℕ → List ℕ) (order : Order) (s : Playing) (d m : VoiceDesk)
    : Type 0 where
  pub waiting : Waiting r look packed order s d m
  pub offset : m.own OFFSET ≡ 1
  pub y : m.y ≡ 1

-- the same at tick 0, where an option asks for it
pub record AtFirst (r : Reader) (look : LookUps) (packed : ℕ → List ℕ) (order : Order) (s : Playing) (d m : VoiceDesk)
    : Type 0 where
  pub late : AtLate r look packed order s d m
  pub a : m.a ≡ 0
  pub tick : s.voice.tick ≡ 0
  pub asked : r.layout.holds SKIP_FIRST ≡ true

-- a row is due, which has the entry that Y names
pub record AtFetches (r : Reader) (look : LookUps) (packed : ℕ → List ℕ) (order : Order) (s : Playing) (d m : VoiceDesk)
    : Type 0 where
  pub waiting : Waiting r look packed order s d m
  pub now : s.voice.tick ≡ s.voice.gate_timer
  pub some : m.own OFFSET ≢ 0
  pub y : m.y ≡ m.own OFFSET

-- a row is due
record AtDue (r : Reader) (look : LookUps) (packed : ℕ → List ℕ) (order : Order) (s : Playing) (d m : VoiceDesk)
    : Type 0 where
  stands : Fetched r look packed order s s.voice d m
  now : s.voice.tick ≡ s.voice.gate_timer

-- ---- desks

-- the same on a desk with the same bytes
pub stands_on : (r : Reader) (look : LookUps) (packed : ℕ → List ℕ) (order : Order) (s : Playing) (v : Voice)
    (d m n : VoiceDesk) → n.own ≡ m.own → n.shared ≡ m.shared → n.sid ≡ m.sid →
    Fetched r look packed order s v d m → Fetched r look packed order s v d n
stands_on r look packed order s v d m n own shared sid at = record {
  fields = rw own at.fields;
  around = around_on shared sid at.around;
  order_low = ap (λ f. f ORDER_LOW) own ∙ at.order_low;
  order_high = ap (λ f. f ORDER_HIGH) own ∙ at.order_high;
  song = rw own at.song;
}

pub waits_on : (r : Reader) (look : LookUps) (packed : ℕ → List ℕ) (order : Order) (s : Playing) (d m n : VoiceDesk) →
    n.own ≡ m.own → n.shared ≡ m.shared → n.sid ≡ m.sid → Waiting r look packed order s d m →
    Waiting r look packed order s d n
waits_on r look packed order s d m n own shared sid at = record {
  stands = stands_on r look packed order s s.voice d m n own shared sid at.stands;
  early = at.early;
  due = λ now. ap (λ f. f REST) own ∙ at.due now;
}

-- ---- options

pub at_fetch : (v : Voice) → v.tick ≡ v.gate_timer → is_at_fetch v ≡ true
at_fetch v e = eq-eqb v.tick v.gate_timer e

pub not_at_fetch : (v : Voice) → v.tick ≢ v.gate_timer → is_at_fetch v ≡ false
not_at_fetch v e = ne_eqb v.tick v.gate_timer e

pub later : (v : Voice) → v.tick ≢ 0 → is_between_patterns v ≡ false
later v some =
    let z : nat_eq v.tick 0 ≡ false = ne_eqb v.tick 0 some in
    rw z refl

pub within : (v : Voice) → v.row ≢ 0 → is_between_patterns v ≡ false
within v some = by (nat_eq v.tick 0) (ne_eqb v.row 0 some)
  where
    by : (b : Bool) → nat_eq v.row 0 ≡ false → (b && nat_eq v.row 0) ≡ false
    by true e = e
    by false e = refl

pub between : (v : Voice) → v.tick ≡ 0 → v.row ≡ 0 → is_between_patterns v ≡ true
between v tick row =
    let y : nat_eq v.tick 0 ≡ true = eq-eqb v.tick 0 tick in
    let z : nat_eq v.row 0 ≡ true = eq-eqb v.row 0 row in
    rw (y, z) refl

-- an "and" with no
pub no_and : (b c : Bool) → c ≡ false → (b && c) ≡ false
no_and true c e = e
no_and false c e = refl

-- neither option leaves the pulse step out
pub stays : (r : Reader) (v : Voice) → (r.layout.holds SKIP_PULSE && is_at_fetch v) ≡ false →
    (r.layout.holds SKIP_FIRST && is_between_patterns v) ≡ false → left_out r.layout v ≡ false
stays r v one two = rw (one, two) refl

-- with rests left the voice is within a pattern
pub rests_within : (r : Reader) (look : LookUps) (packed : ℕ → List ℕ) (order : Order) (v : Voice) (own : ℕ → ℕ) →
    own REST ≢ 0 → SongStands r.layout look packed order v own → v.row ≢ 0
rests_within r look packed order v own some (AtEntry none next) e = absurd (some none)
rests_within r look packed order v own some (InRun more rests inside next) e =
    (let from = rests.begun in omega (arith, from, e))
rests_within r look packed order v own some (InLastRun more rests last next) e =
    (let from = rests.begun in omega (arith, from, e))

-- and so it is behind the first entry
entry_within : (r : Reader) (look : LookUps) (packed : ℕ → List ℕ) (order : Order) (v : Voice) (own : ℕ → ℕ) →
    own OFFSET ≢ 0 → own OFFSET ≢ 1 → SongStands r.layout look packed order v own → v.row ≢ 0
entry_within r look packed order v own some more (AtEntry none (Walked least first pattern transpose walk entries)) e =
    more (first.0 e)
entry_within r look packed order v own some more (AtEntry none (NotWalked through first walk)) e = some through
entry_within r look packed order v own some more (InRun left rests inside next) e =
    rests_within r look packed order v own left (InRun left rests inside next) e
entry_within r look packed order v own some more (InLastRun left rests last next) e =
    rests_within r look packed order v own left (InLastRun left rests last next) e

-- ---- what the step stands on

-- the patterns that the orderlist plays are found, and spell their rows; where transposes aren't kept, none is played;
-- the gateoff timer of the instrument that the voice has behind its row is found, and the voice's, where one stands for
-- all; and the lines are kept that the row asks for
pub record FetchGround (r : Reader) (look : LookUps) (packed : ℕ → List ℕ) (order : Order) (v : Voice) : Type 0 where
  pub pattern : (n : ℕ) → PatternAt r (place_before r.layout (played order n).pattern) (packed (played order n).pattern)
  pub spells : (n : ℕ) → PackedSpells (packed (played order n).pattern) (look.rows (played order n).pattern)
  pub idle : r.layout.holds TRANSPOSES ≡ false → (n : ℕ) → transpose_byte (played order n).transpose ≡ 0
  pub timer : TimerAt r look (next_instrument look order v)
  pub one_timer : r.layout.holds OWN_TIMER ≡ false → Reads r (r.layout.address ONE_TIMER) v.gate_timer
  pub keeps : KeepsNext r.layout look order v
  pub tick : v.tick < 256
  pub gate_timer : v.gate_timer < 256
  pub new_command : v.new_command < 256

-- an offset is a byte
next_small : (r : Reader) (look : LookUps) (packed : ℕ → List ℕ) (order : Order) (v : Voice) (n row : ℕ)
    (own : ℕ → ℕ) → length (packed (played order n).pattern) ≤ 256 →
    EntryIsNext r.layout look packed order v n row own → own OFFSET < 256
next_small r look packed order v n row own few (Walked some first pattern transpose walk entries) =
    let bytes = packed (played order n).pattern in
    let two = two_bytes entries.entry entries.others (nat_eq entries.entry.instrument 0) refl
    (text_begins entries.others (All-tail IsEntry entries.entry entries.others entries.each)) in
    let one = stands_there bytes (own OFFSET - 1) two.0 0 (two.1 ∷ two.2) (entries.text ∙ two.3) in
    let inside = (stands_there bytes (own OFFSET - 1 + 1) two.1 0 two.2 one.rest_is).inside in
    omega (arith, inside, few, some)
next_small r look packed order v n row own few (NotWalked none first walk) = omega (arith, none)

pub offset_small : (r : Reader) (look : LookUps) (packed : ℕ → List ℕ) (order : Order) (v : Voice) (own : ℕ → ℕ) →
    FetchGround r look packed order v → SongStands r.layout look packed order v own → own OFFSET < 256
offset_small r look packed order v own ground (AtEntry none next) =
    next_small r look packed order v v.plays v.row own (ground.pattern v.plays).few next
offset_small r look packed order v own ground (InRun more rests inside next) =
    next_small r look packed order v v.plays (v.row + own REST) own (ground.pattern v.plays).few next
offset_small r look packed order v own ground (InLastRun more rests last next) =
    next_small r look packed order v (v.plays + 1) 0 own (ground.pattern (v.plays + 1)).few next

pub rest_small : (r : Reader) (look : LookUps) (packed : ℕ → List ℕ) (order : Order) (v : Voice) (own : ℕ → ℕ) →
    FetchGround r look packed order v → SongStands r.layout look packed order v own → own REST < 256
rest_small r look packed order v own ground (AtEntry none next) = omega (arith, none)
rest_small r look packed order v own ground (InRun more rests inside next) =
    (let most = rests.inside in let few = (ground.spells v.plays).count.most in omega (arith, most, few))
rest_small r look packed order v own ground (InLastRun more rests last next) =
    (let most = rests.inside in let few = (ground.spells v.plays).count.most in omega (arith, most, few))

-- ---- a row that isn't due, or is a rest

abbrev pub await_tree : Tree
await_tree = body_of WALKS fetch_tree

-- where the lines before the walk go on
abbrev pub AwaitWays : Reader → LookUps → (ℕ → List ℕ) → Order → Playing → VoiceDesk → Ways
AwaitWays r look packed order s d =
    in_scope WALKS (done_as (AtWalk r look packed order s d)
    (in_scope LATE (done_as (AtLate r look packed order s d)
    (in_scope FIRST (done_as (AtFirst r look packed order s d)
    (in_scope FETCHES (done_as (AtFetches r look packed order s d)
    (fetch_ways r.layout s.voice (Fetched r look packed order s (fetched_voice look order s.voice) d)))))))))

-- no row is fetched
pub pulsed : (r : Reader) (look : LookUps) (packed : ℕ → List ℕ) (order : Order) (s : Playing) (d m n : VoiceDesk) →
    n.own ≡ m.own → n.shared ≡ m.shared → n.sid ≡ m.sid → s.voice.tick ≢ s.voice.gate_timer →
    Fetched r look packed order s s.voice d m → Fetched r look packed order s (fetched_voice look order s.voice) d n
pulsed r look packed order s d m n own shared sid apart at =
    let out = not_at_fetch s.voice apart in
    let same : fetched_voice look order s.voice ≡ s.voice = rw out refl in
    subst (λ u. Fetched r look packed order s u d n) (sym same)
    (stands_on r look packed order s s.voice d m n own shared sid at)

-- a row is fetched
pub fetches : (r : Reader) (look : LookUps) (packed : ℕ → List ℕ) (order : Order) (s : Playing) (d n : VoiceDesk) →
    s.voice.tick ≡ s.voice.gate_timer → Fetched r look packed order s (fetch_row look order s.voice) d n →
    Fetched r look packed order s (fetched_voice look order s.voice) d n
fetches r look packed order s d n now at =
    let on = at_fetch s.voice now in
    let same : fetched_voice look order s.voice ≡ fetch_row look order s.voice = rw on refl in
    subst (λ u. Fetched r look packed order s u d n) (sym same) at

due_leads : (r : Reader) (look : LookUps) (packed : ℕ → List ℕ) (order : Order) (s : Playing) (d m : VoiceDesk) →
    FetchGround r look packed order s.voice → Fetched r look packed order s s.voice d m →
    Leads r (body_of DUE await_tree)
    (in_scope DUE (done_as (AtDue r look packed order s d) (AwaitWays r look packed order s d))) m
due_leads r look packed order s d m ground at = (
  λ own. told (m.own GATE_TIMER) (at.fields.gate_timer own),
  λ one. alone ONE_TIMER s.voice.gate_timer (ground.one_timer one) told,
)
  where
    told : (b : ℕ) → b ≡ s.voice.gate_timer →
        Leads r (behind (behind (body_of DUE await_tree)))
        (in_scope DUE (done_as (AtDue r look packed order s d) (AwaitWays r look packed order s d)))
        (compared b (loaded (m.own TICK) m))
    told b timer =
        let tick = at.fields.tick in
        let tick_byte = ground.tick in
        let timer_byte = ground.gate_timer in (
          λ zero. record {
            stands = stands_on r look packed order s s.voice d m _ refl refl refl at;
            now =
                sym tick
                ∙ (compared_is (m.own TICK) (b) (omega (arith, tick, tick_byte))
                (omega (arith, timer, timer_byte)) zero ∙ timer);
          },
          λ other.
              let apart : s.voice.tick ≢ s.voice.gate_timer = λ e.
              over_is (m.own TICK) (b) (omega (arith, timer, timer_byte)) other (tick ∙ (e ∙ sym timer)) in
              let none : (r.layout.holds SKIP_PULSE && is_at_fetch s.voice) ≡ false =
              no_and (r.layout.holds SKIP_PULSE) (is_at_fetch s.voice) (not_at_fetch s.voice apart) in (
                λ early.
                    let under = leb-false (b) (m.own TICK) (not-true _ early) in
                    let before : s.voice.tick ≤ s.voice.gate_timer = omega (arith, under, tick, timer) in
                    let waiting : (n : VoiceDesk) → n.own ≡ m.own → n.shared ≡ m.shared → n.sid ≡ m.sid →
                    Waiting r look packed order s d n = λ n own shared sid. record {
                      stands = stands_on r look packed order s s.voice d m n own shared sid at;
                      early = before;
                      due = λ now. absurd (apart now);
                    } in (
                      λ through. record {
                        waiting = waiting _ refl refl refl;
                        offset = eqb-true (m.own OFFSET) 0 through;
                      },
                      λ some.
                          let isnt : m.own OFFSET ≢ 0 = eqb-false (m.own OFFSET) 0 some in (
                            λ asked. (
                              λ one.
                                  let is : m.own OFFSET ≡ 1 = compared_is (m.own OFFSET) 1
                                  (offset_small r look packed order s.voice m.own ground at.song) (omega arith) one in
                                  record {
                                    waiting = waiting _ refl refl refl;
                                    offset = is;
                                    y = is;
                                  },
                              λ more.
                                  let other : m.own OFFSET ≢ 1 = over_is (m.own OFFSET) 1 (omega arith) more in (
                                    stays r s.voice none
                                        (no_and (r.layout.holds SKIP_FIRST) (is_between_patterns s.voice)
                                        (within s.voice (entry_within r look packed order s.voice m.own isnt other
                                        at.song))),
                                    pulsed r look packed order s d m _ refl refl refl apart at,
                                  ),
                            ),
                            λ out. (
                              stays r s.voice none (rw out refl),
                              pulsed r look packed order s d m _ refl refl refl apart at,
                            ),
                          ),
                    ),
                λ late.
                    let over = leb-true (b) (m.own TICK) (not-false _ late) in (
                      stays r s.voice none
                          (no_and (r.layout.holds SKIP_FIRST) (is_between_patterns s.voice)
                          (later s.voice (λ z. apart (omega (arith, over, tick, timer, z))))),
                      pulsed r look packed order s d m _ refl refl refl apart at,
                    ),
              ),
        )

-- a rest is fetched, or the offset tells whether an entry is left
pub awaited_leads : (r : Reader) (look : LookUps) (packed : ℕ → List ℕ) (order : Order) (s : Playing)
    (d m : VoiceDesk) →
    FetchGround r look packed order s.voice → Fetched r look packed order s s.voice d m →
    Leads r await_tree (AwaitWays r look packed order s d) m
awaited_leads r look packed order s d m ground at =
    joined true r DUE (body_of DUE await_tree) (rest_of DUE await_tree) (AtDue r look packed order s d)
    (AwaitWays r look packed order s d) m (due_leads r look packed order s d m ground at)
    (λ n due.
    joined true r ENTRY (body_of ENTRY await_tree) (rest_of ENTRY await_tree)
    (λ k. Waiting r look packed order s d k) (AwaitWays r look packed order s d) n (
      λ none. record {
        stands = stands_on r look packed order s s.voice d n _ refl refl refl due.stands;
        early = omega (arith, due.now);
        due = λ now. eqb-true (n.own REST) 0 none;
      },
      λ some.
          let isnt : n.own REST ≢ 0 = eqb-false (n.own REST) 0 some in
          let inside : (r.layout.holds SKIP_FIRST && is_between_patterns s.voice) ≡ false =
          no_and (r.layout.holds SKIP_FIRST) (is_between_patterns s.voice)
          (within s.voice (rests_within r look packed order s.voice n.own isnt due.stands.song)) in (
            λ left. (
              rw (left, at_fetch s.voice due.now) refl,
              fetches r look packed order s d _ due.now (rested n _ refl refl refl isnt due.stands),
            ),
            λ stayed. (
              stays r s.voice (rw stayed refl) inside,
              fetches r look packed order s d _ due.now (rested n _ refl refl refl isnt due.stands),
            ),
          ),
    )
    (λ k waiting. (
      λ some. record {
        waiting = waits_on r look packed order s d k _ refl refl refl waiting;
        now = due.now;
        some = eqb-false (k.own OFFSET) 0 (not-true _ some);
        y = refl;
      },
      λ none. record {
        waiting = waits_on r look packed order s d k _ refl refl refl waiting;
        offset = eqb-true (k.own OFFSET) 0 (not-false _ none);
      },
    )))
  where
    rested : (n k : VoiceDesk) → k.own ≡ put n.own REST ((n.own REST + 255) % 256) → k.shared ≡ n.shared →
        k.sid ≡ n.sid → n.own REST ≢ 0 → Fetched r look packed order s s.voice d n →
        Fetched r look packed order s (fetch_row look order s.voice) d k
    rested n k own shared sid some at =
        let rows = look.rows (played order s.voice.plays).pattern in
        let few = (ground.spells s.voice.plays).count.most in
        let play : SamePlay (put n.own REST ((n.own REST + 255) % 256)) n.own = record {
          pattern_low = refl;
          pattern_high = refl;
          order_low = refl;
          order_high = refl;
          order_place = refl;
          transpose = refl;
          repeat = refl;
        } in
        let song : SongStands r.layout look packed order (fetch_row look order s.voice)
        (put n.own REST ((n.own REST + 255) % 256)) =
        stands_behind_rest r.layout look packed order s.voice n.own (put n.own REST ((n.own REST + 255) % 256)) few play
        refl some refl at.song in
        let fields : Fields r.layout.holds s.voice (tempo_of (r.voice + 1) s.common)
        (put n.own REST ((n.own REST + 255) % 256)) = assumption at.fields in
        let moved : Fields r.layout.holds (fetch_row look order s.voice) (tempo_of (r.voice + 1) s.common)
        (put n.own REST ((n.own REST + 255) % 256)) =
        subst
        (λ u. Fields r.layout.holds u (tempo_of (r.voice + 1) s.common) (put n.own REST ((n.own REST + 255) % 256)))
        (sym (rest_moves r.layout look packed order s.voice n.own some at.song))
        (fields_moved r.layout.holds (length rows) s.voice (tempo_of (r.voice + 1) s.common)
        (put n.own REST ((n.own REST + 255) % 256)) fields) in record {
          fields = rw own moved;
          around = around_on shared sid at.around;
          order_low = ap (λ f. f ORDER_LOW) own ∙ at.order_low;
          order_high = ap (λ f. f ORDER_HIGH) own ∙ at.order_high;
          song = rw own song;
        }
