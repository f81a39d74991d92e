-- An init: the call that begins a subtune, in any machine that holds the player and its lists.
use Rattle.std.proofs.Common.{◌≡◌, ◌⊎◌, ℕ, ◌+◌, ◌*◌, ◌/◌, ◌%◌, ◌<◌, ◌≤◌, ◌||◌, Bool, true, false, List, length, replicate}
use Rattle.std.proofs.Common.{if◌then◌else◌, inl, inr, refl, sym, ap, ◌∙◌}
use Rattle.std.proofs.Common.{subst, arith}
use Rattle.std.specs.Prelude.{slice_index}
use Rattle.std.proofs.lemmas.Bool.{or_cases, lt-ltb, cases_lt, both_ways}
use Rattle.std.proofs.lemmas.List.{get_or-replicate}
use Rattle.std.proofs.lemmas.List.Elements.{All-get_or, filter_passes}
use Rattle.std.proofs.lemmas.Option.{unwrap_or-slice_get}
use Rattle.song_model.specs.declared.songs.Song.{Song}
use Rattle.song_model.specs.LookUp.{is_playable_subtune, playable_subtunes, playable_subtune, void_subtune}
use Rattle.play_model.specs.declared.options.Options.{Options}
use Rattle.play_model.specs.Frame.{subtune_at, state_after_with, trace_with}
use Rattle.play_model.specs.State.{FrameState, start_state}
use Rattle.song_facts.specs.declared.facts.Fact.TheVariants.{Subtunes}
use Rattle.packed_form.specs.declared.packed_songs.PackedSong.{PackedSong}
use Rattle.packed_form.specs.Unpacked.{unpacked_song, packed_state}
use Rattle.cpu6502.specs.declared.machine.Machine.{Machine}
use Rattle.cpu6502.specs.Code.{IsMachine}
use Rattle.code_runs.specs.Runs.{State}
use Rattle.sid_run.specs.State.{sid_registers}
use Rattle.faithful.specs.Timers.{SetsTimer}
use Rattle.scopes.specs.Desk.{Desk, Layout}
use Rattle.scopes.specs.Meaning.{Done, Ran}
use Rattle.scope_calls.specs.Meaning.{entrance_ran}
use Rattle.scope_calls.specs.Listed.{HasCode, entrance_desk, meant}
use Rattle.scope_calls.specs.EntranceLaws.{Returns}
use Rattle.scope_calls.proofs.Laws.{entrances_return, code_stays}
use Rattle.player_memory.specs.declared.conditions.TheConstants.{TIMED, SUBTUNES}
use Rattle.player_memory.specs.declared.labels.TheConstants.{VARIABLES, FIRST_CLEARED, ORDER_LOW, ORDER_HIGH}
use Rattle.player_memory.specs.SongLists.{HasSongLists}
use Rattle.player_text.specs.declared.texts.Start.{Start}
use Rattle.variable_places.specs.Places.{has_byte}
use Rattle.variable_places.proofs.Laws.{uncleared_are_first}
use Rattle.init_code.specs.InitBlock.{IsOutOf}
use Rattle.player_memory.specs.Holds.{order_label}
use Rattle.frame_code.specs.InitBlock.{BeginsSubtunes, ReadsOffTimer, ClearsVariables, HaveOrders, BeginsSubtune}
use Rattle.kept_lines.specs.Starts.{start_of}
use Rattle.frame_code.proofs.Laws.{beginnings_start, lists_at, held_start}
use Rattle.player_code.specs.CodeLines.{init_entrance, cleared_of}
use Rattle.player_code.specs.Plans.{Plan, plan_layout, its_init, play_listed, init_listed}
use Rattle.player_code.proofs.Laws.{entrances_are_in_one_listing, labels_stand_in_place, size_is}
use Rattle.player_calls.specs.WideLayouts.{spare_from, is_spare, wide_address, wide_layout, with_zeros}
use Rattle.player_calls.specs.Players.{IsPlayer, IsOfLists}
use Rattle.player_calls.proofs.Wide.{in_spare, no_spare, spare_is, or_left, wide_at, Narrowed, init_narrowed}
use Rattle.player_calls.proofs.Spared.{Spared, with_memory, same_but}
use Rattle.player_calls.proofs.Places.{well_entered, first_at, init_apart, play_code, init_code}
use Rattle.player_calls.proofs.Plays.{Ready, read_low, entry_same, bytes_are}

-- ---- the number of the call

-- each subtune of a packed song can be played
pub playable_at : (song : Song) (k : ℕ) → k < length (playable_subtunes song) →
    is_playable_subtune (subtune_at song k) ≡ true
unfolding playable_subtune
playable_at song k below =
    subst (λ s. is_playable_subtune s ≡ true) (sym (unwrap_or-slice_get (playable_subtunes song) k void_subtune))
    (All-get_or (λ s. is_playable_subtune s ≡ true) (playable_subtunes song) k void_subtune below
    (filter_passes is_playable_subtune song.subtunes))

-- ---- an init

abbrev pub init_desk : Plan → Machine → ℕ → Desk
init_desk plan machine number = entrance_desk (init_listed plan) machine number

abbrev pub init_ran : Plan → Machine → ℕ → Ran
init_ran plan machine number = entrance_ran (plan_layout plan) (its_init plan) (init_desk plan machine number)

-- how many bytes it clears
abbrev count_of : Plan → ℕ
count_of plan = cleared_of (length plan.variables)

init_is : (plan : Plan) → BeginsSubtunes (its_init plan) plan.start (count_of plan)
unfolding init_entrance
init_is plan = record { first = refl; voice = refl }

off_timer : {packed : PackedSong} {song : Song} {o : Options} {bytes : List ℕ} (plan : Plan) →
    IsPlayer plan packed song o bytes → (which : Bool) → ReadsOffTimer (wide_layout plan which)
off_timer plan p which timed place may =
    elim (or_cases (plan.may_read place) (is_spare which place) may) [
      | inl own ↦ (let low = read_low plan p place own in let ends = p.ends in inl (omega (arith, low, ends)))
      | inr spare ↦ (let to = (in_spare which place spare).to in inl (omega (arith, to)))
    ]

-- ---- what is cleared

-- a place of the lists is behind the variables, and none of the spare ones
list_behind : {packed : PackedSong} {song : Song} {o : Options} {bytes : List ℕ} (plan : Plan) →
    IsPlayer plan packed song o bytes → (place : ℕ) → IsOfLists plan place →
    plan.origin + 6 + length plan.variables ≤ place
list_behind plan p place is =
    let from = is.from in let size = (labels_stand_in_place plan p.is).size in omega (arith, from, size)

list_own : {packed : PackedSong} {song : Song} {o : Options} {bytes : List ℕ} (plan : Plan) →
    IsPlayer plan packed song o bytes → (which : Bool) (place : ℕ) → IsOfLists plan place →
    is_spare which place ≡ false
list_own plan p which place is =
    let from = is.from in let begins = p.begins in no_spare which place (inr (omega (arith, from, begins)))

wide_first : {packed : PackedSong} {song : Song} {o : Options} {bytes : List ℕ} (plan : Plan) →
    IsPlayer plan packed song o bytes → (which : Bool) →
    (wide_layout plan which).address FIRST_CLEARED ≡ plan.origin + 6 + FIRST_CLEARED
wide_first plan p which =
    wide_at plan which FIRST_CLEARED (λ few. (uncleared_are_first plan.holds FIRST_CLEARED (omega arith)).0)
    ∙ first_at plan p

-- a variable in front of it stands at the place of its number
wide_front : {packed : PackedSong} {song : Song} {o : Options} {bytes : List ℕ} (plan : Plan) →
    IsPlayer plan packed song o bytes → (which : Bool) (label : ℕ) → label < FIRST_CLEARED →
    wide_address plan which label ≡ plan.origin + 6 + label
wide_front plan p which label less =
    let first = p.first label (omega (arith, less)) in
    let at = (labels_stand_in_place plan p.is).variables label (omega (arith, less)) in
    wide_at plan which label (λ few. (uncleared_are_first plan.holds label (omega (arith, less))).0)
    ∙ omega (arith, at, first)

-- each other one that has a byte is cleared, and one that has none is 0
variable_clears : {packed : PackedSong} {song : Song} {o : Options} {bytes : List ℕ} (plan : Plan) →
    IsPlayer plan packed song o bytes → (which : Bool) (at : ℕ → ℕ) (label : ℕ) → FIRST_CLEARED ≤ label →
    label < VARIABLES →
    ((plan.origin + 6 + FIRST_CLEARED ≤ wide_address plan which label)
    × (wide_address plan which label < plan.origin + 6 + FIRST_CLEARED + count_of plan))
    ⊎ (IsOutOf (plan.origin + 6 + FIRST_CLEARED) (count_of plan) (wide_address plan which label)
    × (with_zeros which at (wide_address plan which label) ≡ 0))
variable_clears plan p which at label from few = by_case (has_byte plan.holds label) refl
  where
    by_case : (z : Bool) → has_byte plan.holds label ≡ z →
        ((plan.origin + 6 + FIRST_CLEARED ≤ wide_address plan which label)
        × (wide_address plan which label < plan.origin + 6 + FIRST_CLEARED + count_of plan))
        ⊎ (IsOutOf (plan.origin + 6 + FIRST_CLEARED) (count_of plan) (wide_address plan which label)
        × (with_zeros which at (wide_address plan which label) ≡ 0))
    by_case true has =
        let is = wide_at plan which label (λ less. has) in
        let at = (labels_stand_in_place plan p.is).variables label few in
        let place = p.is.places label few in
        let behind = p.behind label from few has in
        inl (omega (arith, is, at, behind), omega (arith, is, at, place))
    by_case false none =
        let begins = p.begins in
        let is : wide_address plan which label ≡ spare_from which + label = rw (lt-ltb label VARIABLES few, none) refl in
        let spare : is_spare which (spare_from which + label) ≡ true = spare_is which label few in
        let place = in_spare which (spare_from which + label) spare in
        let to = place.to in
        inr (
          rw is (inl (omega (arith, to, begins))),
          ap (with_zeros which at) is ∙ rw spare refl,
        )

module _ {packed : PackedSong} {song : Song} {o : Options} {bytes : List ℕ} (plan : Plan)
    (p : IsPlayer plan packed song o bytes) (which : Bool) where
  -- the wide layout with the address of the first variable that is cleared
  clears : (at : ℕ → ℕ) → ClearsVariables (wide_layout plan which) packed (count_of plan) (with_zeros which at)
  clears at =
      let first = wide_first plan p which in
      let n = labels_stand_in_place plan p.is in
      let size = n.size in
      let all = size_is plan in
      let ends = p.ends in
      let low = p.is.variables_low in
      let high = p.is.variables_high in record {
        clears = record {
          some = omega (arith, low);
          few = omega (arith, high);
          to = omega (arith, first, size, all, ends, low);
          writes = λ number less.
              ap (λ place. plan.may_write (place + number) || is_spare which (place + number)) first
              ∙ or_left (plan.may_write (plan.origin + 6 + FIRST_CLEARED + number))
              (is_spare which (plan.origin + 6 + FIRST_CLEARED + number))
              (p.writes_variables (plan.origin + 6 + FIRST_CLEARED + number)
              (record { from = omega arith; to = omega (arith, less) }));
          low = λ kept row less. out _ (p.slides which kept row less).low;
          high = λ kept row less. out _ (p.slides which kept row less).high;
          front = λ label less.
              (let at = wide_front plan p which label less in inl (omega (arith, at, first, less)));
          each = λ label from few.
              subst
              (λ base. ((base ≤ wide_address plan which label)
              × (wide_address plan which label < base + count_of plan))
              ⊎ (IsOutOf base (count_of plan) (wide_address plan which label)
              × (with_zeros which at (wide_address plan which label) ≡ 0))) (sym first)
              (variable_clears plan p which at label from few);
        };
        lists = λ list number is has. out _ (p.inside which list number is has);
      }
    where
      out : (place : ℕ) → IsOfLists plan place →
          IsOutOf ((wide_layout plan which).address FIRST_CLEARED) (count_of plan) place
      out place is =
          let first = wide_first plan p which in
          let low = p.is.variables_low in
          let behind = list_behind plan p place is in inr (omega (arith, first, behind, low))

  -- the lists stand in another memory with the same bytes of theirs
  lists_stand : (one two : ℕ → ℕ) → ((place : ℕ) → IsOfLists plan place → two place ≡ one place) →
      HasSongLists (wide_layout plan which) packed one → HasSongLists (wide_layout plan which) packed two
  lists_stand one two same =
      lists_at (wide_layout plan which) packed one two
      (λ list number is has listed. same _ (p.inside which list number is has))
      (λ kept row few.
      let slides = p.slides which kept row few in
      record { low = same _ slides.low; high = same _ slides.high })

-- ---- one subtune alone

-- where no lines for several subtunes are kept there is one at most
few_subtunes : {packed : PackedSong} {song : Song} {o : Options} {bytes : List ℕ} (plan : Plan) →
    IsPlayer plan packed song o bytes → plan.holds SUBTUNES ≡ false → length packed.subtunes ≤ 1
few_subtunes {packed = packed} {song = song} plan p off = elim (cases_lt 1 (length packed.subtunes)) [
  | inl several ↦
      let has = (p.stands.facts.each Subtunes).1 (subst (λ n. 1 < n) p.stands.subtunes several) in
      absurd (both_ways (plan.holds SUBTUNES) off (p.facts Subtunes has))
  | inr few ↦ few
]

-- ---- an init

-- The subtune begins: the call ends, memory holds the start state, the registers are 0, and the timer has its value where
-- it is set.
pub record Begun (plan : Plan) (packed : PackedSong) (o : Options) (k : ℕ) (before : Desk) (run : Ran) : Type 0 where
  pub ends : run.outcome ≡ Done
  pub holds : (which : Bool) → Spared plan packed k (start_state o) run.desk.at which
  pub registers : (register : ℕ) → register < 25 → run.desk.at (0xD400 + register) ≡ 0
  pub timer_low : plan.holds TIMED ≡ true → run.desk.at 0xDC04 ≡ (start_of o).timer_low
  pub timer_high : plan.holds TIMED ≡ true → run.desk.at 0xDC05 ≡ (start_of o).timer_high

module _ {packed : PackedSong} {song : Song} {o : Options} {bytes : List ℕ} (plan : Plan)
    (p : IsPlayer plan packed song o bytes) (k : ℕ) (machine : Machine) (is : IsMachine machine)
    (below : k < length packed.subtunes) (plays : k < length (playable_subtunes (unpacked_song packed)))
    (x : FrameState) (j : ℕ) (before : j < length packed.subtunes)
    (holds : (which : Bool) → Spared plan packed j x (slice_index machine.memory) which) where
  wide_init : Bool → Desk
  wide_init which = with_memory (init_desk plan machine k) (with_zeros which (init_desk plan machine k).at)

  no_zeros : (which : Bool) (place : ℕ) → is_spare which place ≡ false →
      with_zeros which (init_desk plan machine k).at place ≡ (init_desk plan machine k).at place
  no_zeros which place none = rw none refl

  lists_are : (which : Bool) → HasSongLists (wide_layout plan which) packed (wide_init which).at
  unfolding wide_init
  lists_are which =
      lists_stand plan p which (holds which).memory (with_zeros which (init_desk plan machine k).at)
      (λ place its.
      let own = list_own plan p which place its in
      no_zeros which place own
      ∙ entry_same plan p machine plan.origin k is.size place (p.reads_lists place its)
      ∙ sym ((holds which).same place own))
      (holds which).holds.lists

  -- a byte of a voice that isn't cleared is as it is held
  own_is : (which : Bool) (label : ℕ) → label < FIRST_CLEARED →
      (wide_init which).at (wide_address plan which label) ≡ (holds which).memory (wide_address plan which label)
  unfolding wide_init
  own_is which label less =
      let at = wide_front plan p which label less in
      let place : ℕ = wide_address plan which label in
      let from = p.begins in
      let low = p.is.variables_low in
      let own = no_spare which place (inr (omega (arith, at, from))) in
      no_zeros which place own
      ∙ entry_same plan p machine plan.origin k is.size place
      (p.reads_variables place (record { from = omega (arith, at); to = omega (arith, at, less, low) }))
      ∙ sym ((holds which).same place own)

  -- so where there is one subtune alone each voice has its orderlist
  orders_are : (which : Bool) → HaveOrders (wide_layout plan which) k (wide_init which).at
  orders_are which off voice few =
      let one = few_subtunes plan p off in
      let same : j ≡ k = omega (arith, one, below, before) in
      let has = ((holds which).holds.voices voice few).song.has in record {
        low_is = own_is which (ORDER_LOW + 7 * voice) (omega (arith, few)) ∙ has.low_is
            ∙ ap (λ n. (wide_layout plan which).address (order_label n voice) % 256) same;
        high_is = own_is which (ORDER_HIGH + 7 * voice) (omega (arith, few)) ∙ has.high_is
            ∙ ap (λ n. (wide_layout plan which).address (order_label n voice) / 256) same;
      }

  starts : (which : Bool) →
      BeginsSubtune (wide_layout plan which) packed o k (count_of plan) (wide_init which)
      (entrance_ran (wide_layout plan which) (its_init plan) (wide_init which))
  unfolding wide_init
  starts which =
      let few = p.subtunes in
      beginnings_start (wide_layout plan which) packed o k (count_of plan) (its_init plan) (wide_init which)
      (subst (λ (s : Start). BeginsSubtunes (its_init plan) s (count_of plan)) p.start (init_is plan))
      (p.laid which) p.alone (p.timer which) (off_timer plan p which) (clears plan p which (init_desk plan machine k).at)
      (orders_are which)
      (record {
        a = refl;
        stored = below;
        byte = omega (arith, below, few);
        playable = playable_at (unpacked_song packed) k plays;
      })
      (lists_are which)

  narrow : Narrowed plan (its_init plan) (init_desk plan machine k) wide_init
  unfolding wide_init
  narrow =
      init_narrowed plan p (well_entered plan p).init.lines (init_desk plan machine k) wide_init
      (λ which. same_but which (init_desk plan machine k) (with_zeros which (init_desk plan machine k).at)
      (no_zeros which)) (λ which. (starts which).ends)

  -- a place that isn't spare is as in the wide layout
  as_wide : (place : ℕ) → 0x0371 ≤ place →
      (init_ran plan machine k).desk.at place
      ≡ (entrance_ran (wide_layout plan false) (its_init plan) (wide_init false)).desk.at place
  as_wide place from = (narrow.side false).at place (no_spare false place (inr from))

  pub init_begins : Begun plan packed o k (init_desk plan machine k) (init_ran plan machine k)
  init_begins = record {
    ends = narrow.ends;
    holds = λ which. record {
      memory = (entrance_ran (wide_layout plan which) (its_init plan) (wide_init which)).desk.at;
      same = λ place none. sym ((narrow.side which).at place none);
      holds = (starts which).holds;
    };
    registers = λ register few. as_wide (0xD400 + register) (omega arith) ∙ (starts false).registers register few;
    timer_low = λ timed.
        as_wide 0xDC04 (omega arith) ∙ (starts false).timer_low
        ∙ ap (λ (z : Bool). if z then (start_of o).timer_low else (wide_init false).at 0xDC04) timed;
    timer_high = λ timed.
        as_wide 0xDC05 (omega arith) ∙ (starts false).timer_high
        ∙ ap (λ (z : Bool). if z then (start_of o).timer_high else (wide_init false).at 0xDC05) timed;
  }

pub init_meant : {packed : PackedSong} {song : Song} {o : Options} {bytes : List ℕ} (plan : Plan) →
    IsPlayer plan packed song o bytes → (machine : Machine) (number : ℕ) →
    meant (init_listed plan) machine number ≡ init_ran plan machine number
init_meant plan p machine number =
    ap (λ (l : Layout). entrance_ran l (its_init plan) (init_desk plan machine number))
    (entrances_are_in_one_listing plan p.is).init_layout

pub init_returns : {packed : PackedSong} {song : Song} {o : Options} {bytes : List ℕ} (plan : Plan) →
    IsPlayer plan packed song o bytes → (k : ℕ) (machine : Machine) → IsMachine machine →
    HasCode (init_listed plan) (slice_index machine.memory) →
    Begun plan packed o k (init_desk plan machine k) (init_ran plan machine k) →
    Returns (init_listed plan) machine k
init_returns plan p k machine is code begun =
    entrances_return (init_listed plan) machine k (well_entered plan p).init is.size is.sp code
    (ap (λ (r : Ran). r.outcome) (init_meant plan p machine k) ∙ begun.ends)

pub init_memory : {packed : PackedSong} {song : Song} {o : Options} {bytes : List ℕ} (plan : Plan) →
    IsPlayer plan packed song o bytes → (machine : Machine) (number : ℕ) →
    (r : Returns (init_listed plan) machine number) →
    slice_index r.after.memory ≡ (init_ran plan machine number).desk.at
init_memory plan p machine number r =
    ap (λ (s : State). s.at) r.seen ∙ ap (λ (run : Ran). run.desk.at) (init_meant plan p machine number)

pub init_registers : {packed : PackedSong} {song : Song} {o : Options} {bytes : List ℕ} (plan : Plan) →
    IsPlayer plan packed song o bytes → (k : ℕ) (machine : Machine) →
    Begun plan packed o k (init_desk plan machine k) (init_ran plan machine k) →
    (r : Returns (init_listed plan) machine k) → sid_registers r.after ≡ trace_with o song k 0
init_registers plan p k machine begun r =
    bytes_are (slice_index r.after.memory) 25 0xD400 (replicate 25 0) refl
    (λ i few. ap (λ (at : ℕ → ℕ). at (0xD400 + i)) (init_memory plan p machine k r) ∙ begun.registers i few
    ∙ sym (get_or-replicate 25 i 0 0 few))

pub init_timer : {packed : PackedSong} {song : Song} {o : Options} {bytes : List ℕ} (plan : Plan) →
    IsPlayer plan packed song o bytes → (k : ℕ) (machine : Machine) →
    Begun plan packed o k (init_desk plan machine k) (init_ran plan machine k) →
    (r : Returns (init_listed plan) machine k) → SetsTimer o r.after
init_timer {o = o} plan p k machine begun r fast =
    let timed : plan.holds TIMED ≡ true = p.timed ∙ lt-ltb 1 o.speed fast in record {
      low = ap (λ (m : ℕ → ℕ). m 0xDC04) (init_memory plan p machine k r) ∙ begun.timer_low timed;
      high = ap (λ (m : ℕ → ℕ). m 0xDC05) (init_memory plan p machine k r) ∙ begun.timer_high timed;
    }

-- the player goes on behind it
pub init_ready : {packed : PackedSong} {song : Song} {o : Options} {bytes : List ℕ} (plan : Plan) →
    IsPlayer plan packed song o bytes → (k : ℕ) (machine : Machine) →
    HasCode (play_listed plan) (slice_index machine.memory) → HasCode (init_listed plan) (slice_index machine.memory) →
    Begun plan packed o k (init_desk plan machine k) (init_ran plan machine k) →
    (r : Returns (init_listed plan) machine k) →
    Ready plan packed k (packed_state packed k o 0) (slice_index r.after.memory)
unfolding state_after_with
init_ready {packed = packed} {o = o} plan p k machine its_play its_init begun r =
    let well = well_entered plan p in record {
      play_code = code_stays (init_listed plan) (play_listed plan) machine k well.init well.play r
          (λ q is. init_apart plan p q (play_code plan p q is)) its_play;
      init_code = code_stays (init_listed plan) (init_listed plan) machine k well.init well.init r
          (λ q is. init_apart plan p q (init_code plan p q is)) its_init;
      holds = λ which.
          subst (λ x. Spared plan packed k x (slice_index r.after.memory) which) (sym (held_start plan.holds o))
          (subst (λ at. Spared plan packed k (start_state o) at which) (sym (init_memory plan p machine k r))
          (begun.holds which));
    }
