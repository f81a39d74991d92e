-- The code that fetches a row, in memory.
use Rattle.std.proofs.Common.{◌≡◌, ℕ, ◌+◌, ◌<◌, Bool, true, false, nat_eq, List, length, All}
use Rattle.std.proofs.Common.{get_or, refl, sym, ap, ◌∙◌, subst, inl, inr, arith}
use Rattle.std.proofs.lemmas.Bool.{both_ways, eqb-true}
use Rattle.std.proofs.lemmas.List.Elements.{All-get_or, All-from_get_or}
use Rattle.song_model.specs.declared.orders.Order.{Order}
use Rattle.song_model.specs.Walk.{played}
use Rattle.play_model.specs.LookUps.{LookUps}
use Rattle.play_model.specs.State.{Voice, Playing}
use Rattle.play_model.specs.Frame.{is_at_fetch, row_fetched}
use Rattle.packed_form.specs.WalkCount.{looks_from}
use Rattle.scopes.specs.Desk.{Desk, Layout}
use Rattle.scopes.specs.Meaning.{Outcome, Done, Left, Ran, each_one, ran}
use Rattle.player_memory.specs.declared.conditions.TheConstants.{TRANSPOSES}
use Rattle.player_memory.specs.declared.labels.TheConstants.{REST, OFFSET, PATTERN_LOW, PATTERN_HIGH, ORDER_LOW}
use Rattle.player_memory.specs.declared.labels.TheConstants.{ORDER_HIGH, ORDER_PLACE, TRANSPOSE, REPEAT, LENT}
use Rattle.player_memory.specs.declared.labels.TheConstants.{GATE_TIMERS, ONE_TIMER, GATE_FROM, ENVELOPE_FROM}
use Rattle.player_memory.specs.Labels.{is_own}
use Rattle.player_memory.specs.Playing.{own_at, with_voice}
use Rattle.player_memory.specs.Fetching.{transpose_byte, HasOrder, EntryIsNext, AreRests, SongStands}
use Rattle.player_memory.specs.Fetching.{AtEntry, InRun, InLastRun}
use Rattle.player_desk.proofs.Laws.{VoiceDesk, Reader, Leads, leads_on, Still, Went}
use Rattle.player_desk.proofs.Laws.{reader_of, voice_desk, finds, finds_alone, begins, ends_still, leaves_still}
use Rattle.player_desk.proofs.Laws.{Shows, is_playing, others_stay, all_slides_stay, OwnSpot, SharedSpot}
use Rattle.player_desk.proofs.VoiceDesks.{Either}
use Rattle.player_text.specs.Steps.{fetch_tree as step_tree}
use Rattle.player_text.specs.declared.joints.TheConstants.{SOUNDS, PULSED}
use Rattle.fetch_code.specs.FetchBlock.{fetch_tree, left_out, way_of, IsKept, HasOrderlist, TellsHold, HasRows}
use Rattle.fetch_code.specs.FetchBlock.{Fetches}
use Rattle.fetch_code.specs.FetchBlock.{FetchBlockFetches}
use Rattle.song_facts.specs.declared.hold.Hold.{Hold}
use Rattle.song_facts.specs.declared.hold.Hold.TheVariants.{Envelope, Gate}
use Rattle.entry_code.proofs.Laws.{SamePlay, HoldersAt}
use Rattle.fetch_code.proofs.Rests.{same_next}
use Rattle.fetch_code.proofs.Outcomes.{Fetched, fetch_ways}
use Rattle.fetch_code.proofs.Reaching.{fetched_voice, FetchGround}
use Rattle.walk_code.proofs.Laws.{WalkGround}
use Rattle.walk_code.proofs.Laws.{IsNone, none_played}
use Rattle.fetch_code.proofs.Grounds.{pattern_at, low_at, high_at, order_at}
use Rattle.fetch_code.proofs.Leading.{fetch_step_leads}

-- ---- what the step stands on

no_transposes : (layout : Layout) (order : Order) → All (IsKept layout) order.entries →
    layout.holds TRANSPOSES ≡ false → All IsNone order.entries
no_transposes layout order each none =
    All-from_get_or IsNone order.entries 0
    (λ i inside. (All-get_or (IsKept layout) order.entries i 0 inside each).transpose none)

-- a number that tells what instruments hold is found
holders_at : (layout : Layout) (rows voice : ℕ) (desk : Desk) (label : ℕ) (look : LookUps) (hold : Hold)
    (instrument : ℕ) → TellsHold layout rows desk.at label look hold instrument →
    HoldersAt (reader_of layout rows voice desk) label look hold instrument
holders_at layout rows voice desk label look hold instrument told = record {
  from = told.from;
  reads = finds_alone layout rows voice desk label _ told.stands;
  tells = told.tells;
}

fetch_ground : (layout : Layout) (rows voice : ℕ) (desk : Desk) (label : ℕ) (look : LookUps) (packed : ℕ → List ℕ)
    (order : Order) (v : Voice) → HasOrderlist layout rows desk.at label order →
    HasRows layout rows desk.at look packed order v → FetchGround (reader_of layout rows voice desk) look packed order v
fetch_ground layout rows voice desk label look packed order v has at = record {
  pattern = λ n. pattern_at layout rows voice desk look (played order n).pattern (packed (played order n).pattern)
      (at.pattern n);
  spells = λ n. (at.pattern n).spells;
  idle = λ none n. ap transpose_byte (none_played order (no_transposes layout order has.each none) n);
  timer = record {
    reads = λ kept. finds layout rows voice desk GATE_TIMERS _ _ (at.timer kept);
    gates = λ out kept. holders_at layout rows voice desk GATE_FROM look Gate _ (at.gates out kept);
    envelopes = λ out kept. holders_at layout rows voice desk ENVELOPE_FROM look Envelope _ (at.envelopes out kept);
    byte = at.timer_byte;
  };
  one_timer = λ out. finds_alone layout rows voice desk ONE_TIMER _ (at.one_timer out);
  tick = at.tick;
  gate_timer = at.gate_timer;
  new_command = at.command;
  keeps = at.keeps;
}

walk_ground : (layout : Layout) (rows voice : ℕ) (desk : Desk) (label : ℕ) (look : LookUps) (packed : ℕ → List ℕ)
    (order : Order) (v : Voice) → HasOrderlist layout rows desk.at label order →
    HasRows layout rows desk.at look packed order v →
    WalkGround (reader_of layout rows voice desk) order (layout.address label) (looks_from order)
walk_ground layout rows voice desk label look packed order v has at = record {
  endless = has.endless;
  small = has.address;
  found = order_at layout rows voice desk label order has.stands;
  most = has.few;
  each = λ i inside. (kept i inside).below;
  transposes = λ none i inside. (kept i inside).transpose none;
  repeats = λ none i inside high.
      elim ((kept i inside).repeat none)
      [ inl low ↦ (let l = low in absurd (omega (arith, l, high))) | inr over ↦ over ];
  looks_on = λ p inside high. has.walks.goes_on.other p inside high;
  looks_round = has.walks.goes_on.endmark;
  looks_few = has.walks.within;
  low = λ n. low_at layout rows voice desk look (played order n).pattern (packed (played order n).pattern)
      (at.pattern n);
  high = λ n. high_at layout rows voice desk look (played order n).pattern (packed (played order n).pattern)
      (at.pattern n);
}
  where
    kept : (i : ℕ) → i < length order.entries → IsKept layout (get_or order.entries i 0)
    kept i inside = All-get_or (IsKept layout) order.entries i 0 inside has.each

-- ---- in its song

-- the voice is in its song where the same bytes say so
song_on : (layout : Layout) (look : LookUps) (packed : ℕ → List ℕ) (order : Order) (v : Voice) (one two : ℕ → ℕ) →
    SamePlay two one → two REST ≡ one REST → two OFFSET ≡ one OFFSET → SongStands layout look packed order v one →
    SongStands layout look packed order v two
song_on layout look packed order v one two same rest offset (AtEntry none next) =
    AtEntry (rest ∙ none)
    (same_next layout look packed order v v v.plays v.row one two same offset refl refl next)
song_on layout look packed order v one two same rest offset (InRun some rests inside next) =
    InRun (λ none. some (sym rest ∙ none))
    (subst (AreRests (look.rows (played order v.plays).pattern) v) (sym rest) rests) (rw rest inside)
    (subst (λ n. EntryIsNext layout look packed order v v.plays (v.row + n) two) (sym rest)
    (same_next layout look packed order v v v.plays (v.row + one REST) one two same offset refl refl next))
song_on layout look packed order v one two same rest offset (InLastRun some rests last next) =
    InLastRun (λ none. some (sym rest ∙ none))
    (subst (AreRests (look.rows (played order v.plays).pattern) v) (sym rest) rests) (rw rest last)
    (same_next layout look packed order v v (v.plays + 1) 0 one two same offset refl refl next)

-- the state whose row is fetched
fetched_is : (look : LookUps) (order : Order) (s : Playing) (b : Bool) → is_at_fetch s.voice ≡ b →
    row_fetched look order s ≡ with_voice (fetched_voice look order s.voice) s
fetched_is look order s true e = rw e refl
fetched_is look order s false e = rw e refl

-- ---- the clause

-- what is left behind a way
left : (layout : Layout) (rows voice label : ℕ) (look : LookUps) (packed : ℕ → List ℕ) (order : Order) (s : Playing)
    (desk : Desk) (run : Ran) (way : Outcome) → HasOrder layout label (own_at layout desk.at voice) →
    Went layout rows voice desk (Still (voice_desk layout voice desk)
    (Fetched (reader_of layout rows voice desk) look packed order s (fetched_voice look order s.voice)
    (voice_desk layout voice desk))) run way →
    Fetches layout rows voice label look packed order desk run way (row_fetched look order s)
left layout rows voice label look packed order s desk run way has went =
    subst (Fetches layout rows voice label look packed order desk run way)
    (sym (fetched_is look order s (is_at_fetch s.voice) refl))
    (record {
      takes = went.way;
      at_voice = went.came.at_voice;
      plays = is_playing layout rows voice desk (with_voice (fetched_voice look order s.voice) s) run.desk m shows
          at.fields at.around.common at.around.tempos;
      song = record {
        has = record {
          low_is = own ORDER_LOW refl ∙ at.order_low ∙ has.low_is;
          high_is = own ORDER_HIGH refl ∙ at.order_high ∙ has.high_is;
        };
        stands =
            song_on layout look packed order (fetched_voice look order s.voice) m.own (own_at layout run.desk.at voice)
            same (own REST refl) (own OFFSET refl) at.song;
      };
      lent = shows.memory (SharedSpot LENT) refl ∙ at.around.none_lent;
      stays = others_stay layout rows voice desk run.desk m shows at.around.sid;
      slides = all_slides_stay layout rows voice desk run.desk m shows went.came.holds.0;
    })
  where
    m : VoiceDesk
    m = went.came.after

    shows : Shows true (reader_of layout rows voice desk) run.desk m
    shows = went.came.shows

    at : Fetched (reader_of layout rows voice desk) look packed order s (fetched_voice look order s.voice)
        (voice_desk layout voice desk) m
    at = went.came.holds.1

    own : (l : ℕ) → is_own l ≡ true → own_at layout run.desk.at voice l ≡ m.own l
    own l is = shows.memory (OwnSpot l) is

    same : SamePlay (own_at layout run.desk.at voice) m.own
    same = record {
      pattern_low = own PATTERN_LOW refl;
      pattern_high = own PATTERN_HIGH refl;
      order_low = own ORDER_LOW refl;
      order_high = own ORDER_HIGH refl;
      order_place = own ORDER_PLACE refl;
      transpose = own TRANSPOSE refl;
      repeat = own REPEAT refl;
    }

pub fetch_block_fetches : FetchBlockFetches
fetch_block_fetches layout rows voice label look packed order s desk room uses few at playing none_lent song has ready =
    by_way (left_out layout s.voice) refl
  where
    r : Reader
    r = reader_of layout rows voice desk

    d : VoiceDesk
    d = voice_desk layout voice desk

    Q : VoiceDesk → Type 0
    Q = Fetched r look packed order s (fetched_voice look order s.voice) d

    run : Ran
    run = ran each_one layout fetch_tree desk

    begun : Fetched r look packed order s s.voice d d
    begun =
        let done = begins layout voice desk s playing in record {
          fields = done.fields;
          around = record { common = done.common; tempos = done.tempos; none_lent = none_lent; sid = refl };
          order_low = refl;
          order_high = refl;
          song = song.stands;
        }

    leads : Leads r step_tree (fetch_ways layout s.voice Q) d
    leads =
        fetch_step_leads r look packed order s (layout.address label) (looks_from order) d
        (fetch_ground layout rows voice desk label look packed order s.voice has ready)
        (walk_ground layout rows voice desk label look packed order s.voice has ready) song.has begun

    -- at the end, or at PULSED
    ended : left_out layout s.voice ≡ false → (x y : Bool) (m : VoiceDesk) →
        Either x ((left_out layout s.voice ≡ true) × Q m) (Either y ((left_out layout s.voice ≡ false) × Q m) ⊥) →
        Either y (Q m) ⊥
    ended e true y m q = absurd (both_ways (left_out layout s.voice) e q.0)
    ended e false true m q = q.1
    ended e false false m never = never

    -- past the pulse step, which is another way
    passed : left_out layout s.voice ≡ true → (name : ℕ) (x y : Bool) → nat_eq name SOUNDS ≡ x →
        nat_eq name PULSED ≡ y → (m : VoiceDesk) →
        Either x ((left_out layout s.voice ≡ true) × Q m) (Either y ((left_out layout s.voice ≡ false) × Q m) ⊥) →
        Either y ⊥ (Either x (Q m) ⊥)
    passed e name true true is also m q =
        (let one = eqb-true name SOUNDS is in let two = eqb-true name PULSED also in omega (arith, one, two))
    passed e name true false is also m q = q.1
    passed e name false true is also m q = both_ways (left_out layout s.voice) q.0 e
    passed e name false false is also m never = never

    by_way : (b : Bool) → left_out layout s.voice ≡ b →
        Fetches layout rows voice label look packed order desk run (way_of (left_out layout s.voice))
        (row_fetched look order s)
    by_way false e =
        subst (λ b. Fetches layout rows voice label look packed order desk run (way_of b) (row_fetched look order s))
        (sym e)
        (left layout rows voice label look packed order s desk run Done song.has
        (ends_still layout rows voice fetch_tree desk Q refl room uses few at
        (leads_on true r step_tree (fetch_ways layout s.voice Q)
        (record { Done = Q; Left = λ name m. Either (nat_eq name PULSED) (Q m) ⊥; Again = λ m. ⊥ }) d
        (record {
          done = λ m q. q.1;
          left = λ name m q. ended e (nat_eq name SOUNDS) (nat_eq name PULSED) m q;
          again = λ m q. q;
        }) leads)))
    by_way true e =
        subst (λ b. Fetches layout rows voice label look packed order desk run (way_of b) (row_fetched look order s))
        (sym e)
        (left layout rows voice label look packed order s desk run (Left SOUNDS) song.has
        (leaves_still SOUNDS layout rows voice fetch_tree desk Q refl room uses few at
        (leads_on true r step_tree (fetch_ways layout s.voice Q)
        (record {
          Done = λ m. ⊥;
          Left = λ name m. Either (nat_eq name PULSED) ⊥ (Either (nat_eq name SOUNDS) (Q m) ⊥);
          Again = λ m. ⊥;
        }) d
        (record {
          done = λ m q. both_ways (left_out layout s.voice) q.0 e;
          left = λ name m q. passed e name (nat_eq name SOUNDS) (nat_eq name PULSED) refl refl m q;
          again = λ m q. q;
        }) leads)))
