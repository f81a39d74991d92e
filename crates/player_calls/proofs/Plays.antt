-- A play: the call of a frame, in any machine that holds the player and a state.
use Rattle.std.proofs.Common.{◌≡◌, ℕ, zero, suc, ◌+◌, ◌<◌, ◌≤◌, Bool, true, false, List, [], ◌∷◌, length}
use Rattle.std.proofs.Common.{inl, inr, refl, sym, ap, ◌∙◌, subst, arith}
use Rattle.std.specs.Prelude.{slice_index}
use Rattle.std.proofs.lemmas.Bool.{or_cases}
use Rattle.song_model.specs.declared.songs.Song.{Song}
use Rattle.play_model.specs.declared.options.Options.{Options}
use Rattle.play_model.specs.State.{FrameState}
use Rattle.play_model.specs.Frame.{frame_with, frame_of, voice_registers, filter_registers, state_after_with, trace_with}
use Rattle.packed_form.specs.declared.packed_songs.PackedSong.{PackedSong}
use Rattle.packed_form.specs.Unpacked.{unpacked_song, packed_state}
use Rattle.cpu6502.specs.declared.machine.Machine.{Machine}
use Rattle.cpu6502.specs.declared.memory.TheConstants.{MEMORY_SIZE}
use Rattle.cpu6502.specs.Call.{entered}
use Rattle.cpu6502.specs.Code.{IsMachine, bytes_at}
use Rattle.code_runs.specs.Runs.{State}
use Rattle.code_runs.proofs.Laws.{entry_kept}
use Rattle.sid_run.specs.State.{sid_registers}
use Rattle.faithful.specs.Timers.{SameTimer}
use Rattle.scopes.specs.Desk.{Desk, Layout}
use Rattle.scopes.specs.Meaning.{Done, Ran}
use Rattle.scope_calls.specs.Meaning.{entrance_ran}
use Rattle.scope_calls.specs.Listed.{HasCode, entrance_desk, meant}
use Rattle.scope_calls.specs.EntranceLaws.{Returns}
use Rattle.scope_calls.proofs.Laws.{entrances_return, code_stays}
use Rattle.player_memory.specs.Rooms.{IsElsewhere, IsRoom}
use Rattle.player_memory.specs.SongLists.{slide_rows}
use Rattle.player_memory.specs.Holds.{Holds, held}
use Rattle.frame_code.specs.FrameBlock.{PlaysFrames, Frames, ReadsOffStack}
use Rattle.frame_code.proofs.Laws.{frames_play}
use Rattle.frame_scenes.proofs.Laws.{packed_frames_are_ready}
use Rattle.player_code.specs.CodeLines.{play_entrance}
use Rattle.player_code.specs.Plans.{Plan, plan_size, plan_layout, its_play, play_listed, init_listed}
use Rattle.player_code.proofs.Laws.{entrances_are_in_one_listing, labels_stand_in_place, size_is}
use Rattle.player_calls.specs.WideLayouts.{is_spare, wide_layout}
use Rattle.player_calls.specs.Players.{IsPlayer}
use Rattle.player_calls.proofs.Wide.{in_spare, no_spare, read_behind, Narrowed, play_narrowed}
use Rattle.player_calls.proofs.Spared.{Spared, moved, with_memory, same_but}
use Rattle.player_calls.proofs.Places.{well_entered, play_apart, play_code, init_code}

-- a memory in which a player goes on: its code stands, and a state, but voices that aren't run as they start
pub record Ready (plan : Plan) (packed : PackedSong) (k : ℕ) (x : FrameState) (at : ℕ → ℕ) : Type 0 where
  pub play_code : HasCode (play_listed plan) at
  pub init_code : HasCode (init_listed plan) at
  pub holds : (which : Bool) → Spared plan packed k (held plan.holds x) at which

-- ---- the memory as a call begins

pub read_from : {packed : PackedSong} {song : Song} {o : Options} {bytes : List ℕ} (plan : Plan) →
    IsPlayer plan packed song o bytes → (place : ℕ) → plan.may_read place ≡ true → plan.origin ≤ place
read_from plan p place may =
    elim (p.reads place may) [
      | inl variable ↦ let from = variable.from in omega (arith, from)
      | inr list ↦ let from = list.from in omega (arith, from)
    ]

pub read_low : {packed : PackedSong} {song : Song} {o : Options} {bytes : List ℕ} (plan : Plan) →
    IsPlayer plan packed song o bytes → (place : ℕ) → plan.may_read place ≡ true → place < plan.origin + plan_size plan
read_low plan p place may =
    let size = (labels_stand_in_place plan p.is).size in
    let all = size_is plan in
    elim (p.reads place may) [
      | inl variable ↦ let to = variable.to in omega (arith, to, size, all)
      | inr list ↦ list.to
    ]

-- each byte that is read is as in the machine
pub entry_same : {packed : PackedSong} {song : Song} {o : Options} {bytes : List ℕ} (plan : Plan) →
    IsPlayer plan packed song o bytes → (machine : Machine) (entry number : ℕ) → length machine.memory ≡ MEMORY_SIZE →
    (place : ℕ) → plan.may_read place ≡ true →
    slice_index (entered machine entry number).memory place ≡ slice_index machine.memory place
entry_same plan p machine entry number size place may =
    let high = read_behind plan p place may in entry_kept machine place size (omega (arith, high))

pub off_stack : {packed : PackedSong} {song : Song} {o : Options} {bytes : List ℕ} (plan : Plan) →
    IsPlayer plan packed song o bytes → ReadsOffStack (plan_layout plan)
off_stack plan p place may = (let high = read_behind plan p place may in inr (omega (arith, high)))

-- nor does it read its spare bytes there
wide_off_stack : {packed : PackedSong} {song : Song} {o : Options} {bytes : List ℕ} (plan : Plan) →
    IsPlayer plan packed song o bytes → (which : Bool) → ReadsOffStack (wide_layout plan which)
wide_off_stack plan p which place may =
    elim (or_cases (plan.may_read place) (is_spare which place) may) [
      | inl own ↦ off_stack plan p place own
      | inr spare ↦ inr (in_spare which place spare).from
    ]

-- ---- registers

-- so many bytes from a place on
pub bytes_are : (at : ℕ → ℕ) (n place : ℕ) (bytes : List ℕ) → length bytes ≡ n →
    ((i : ℕ) → i < n → at (place + i) ≡ slice_index bytes i) → bytes_at at place n ≡ bytes
bytes_are at zero place [] size same = refl
bytes_are at zero place (byte ∷ bytes) size same = absurd cc
bytes_are at (suc n) place [] size same = absurd cc
bytes_are at (suc n) place (byte ∷ bytes) size same =
    let first : at place ≡ byte = ap at (omega arith) ∙ same 0 (omega arith) in
    let rest = bytes_are at n (place + 1) bytes (omega (arith, size))
    (λ i below. ap at (omega arith) ∙ same (suc i) (omega (arith, below))) in
    ap (λ (b : ℕ). b ∷ bytes_at at (place + 1) n) first ∙ ap (λ (bs : List ℕ). byte ∷ bs) rest

frame_size : (o : Options) (song : Song) (k : ℕ) (x : FrameState) → length (frame_with o song k x).registers ≡ 25
unfolding frame_of voice_registers filter_registers
frame_size o song k x = refl

-- ---- a play

abbrev pub play_desk : Plan → Machine → ℕ → Desk
play_desk plan machine number = entrance_desk (play_listed plan) machine number

abbrev pub play_ran : Plan → Machine → ℕ → Ran
play_ran plan machine number = entrance_ran (plan_layout plan) (its_play plan) (play_desk plan machine number)

play_is : (plan : Plan) → PlaysFrames (its_play plan)
unfolding play_entrance
play_is plan = record { first = refl; voice = refl }

-- the frame that the entrance plays: it ends, holds the state behind it, and leaves its registers, and all that is
-- behind those
pub record Played (plan : Plan) (packed : PackedSong) (o : Options) (k : ℕ) (x : FrameState) (before : Desk) (run : Ran)
    : Type 0 where
  pub ends : run.outcome ≡ Done
  pub holds : (which : Bool) →
      Spared plan packed k (held plan.holds (frame_with o (unpacked_song packed) k x).state) run.desk.at which
  pub registers : (register : ℕ) → register < 25 →
      run.desk.at (0xD400 + register) ≡ slice_index (frame_with o (unpacked_song packed) k x).registers register
  pub behind : (place : ℕ) → 0xDC04 ≤ place → run.desk.at place ≡ before.at place

-- the timer's bytes are elsewhere
timer_elsewhere : (layout : Layout) (rows place : ℕ) → IsRoom layout rows → 0xDC04 ≤ place →
    IsElsewhere layout rows place
timer_elsewhere layout rows place room from =
    let pointer = room.pointer_high in record {
      variables = λ label few e. (let to = room.variables.to label few in omega (arith, to, from, e));
      slides_low = λ kept. (let to = (room.slides kept).low.to in inr (omega (arith, to, from)));
      slides_high = λ kept. (let to = (room.slides kept).high.to in inr (omega (arith, to, from)));
      low = λ e. omega (arith, e, pointer, from);
      high = λ e. omega (arith, e, pointer, from);
      registers = inr (omega (arith, from));
    }

module _ {packed : PackedSong} {song : Song} {o : Options} {bytes : List ℕ} (plan : Plan)
    (p : IsPlayer plan packed song o bytes) (k i : ℕ) (machine : Machine) (number : ℕ) (is : IsMachine machine)
    (below : k < length packed.subtunes)
    (ready : Ready plan packed k (packed_state packed k o i) (slice_index machine.memory)) where
  -- the state as the call begins, with spare bytes
  spared : (which : Bool) →
      Spared plan packed k (held plan.holds (packed_state packed k o i)) (play_desk plan machine number).at which
  spared which =
      moved plan p k (held plan.holds (packed_state packed k o i)) (slice_index machine.memory)
      (play_desk plan machine number).at which
      (λ place may. entry_same plan p machine (plan.origin + 3) number is.size place may) (ready.holds which)

  wide_desk : Bool → Desk
  wide_desk which = with_memory (play_desk plan machine number) (spared which).memory

  -- what the entrance means in a wide layout
  frames : (which : Bool) →
      Frames (wide_layout plan which) packed o k (packed_state packed k o i) (wide_desk which)
      (entrance_ran (wide_layout plan which) (its_play plan) (wide_desk which))
  unfolding wide_desk spared
  frames which =
      let stands : Holds (wide_layout plan which) packed k (held plan.holds (packed_state packed k o i))
      (spared which).memory =
      (spared which).holds in
      frames_play (wide_layout plan which) packed o k (packed_state packed k o i) (its_play plan) (wide_desk which)
      (play_is plan) (p.laid which) (wide_off_stack plan p which) stands
      (packed_frames_are_ready (wide_layout plan which) packed song o k i (spared which).memory p.stands p.short
      (p.laid which) stands.lists p.features p.facts p.alone (p.shared which) (p.options which)
      (p.common which) below p.speed)

  narrow : Narrowed plan (its_play plan) (play_desk plan machine number) wide_desk
  unfolding wide_desk
  narrow =
      play_narrowed plan p (well_entered plan p).play.lines (play_desk plan machine number) wide_desk
      (λ which. same_but which (play_desk plan machine number) (spared which).memory (spared which).same)
      (λ which. (frames which).ends)

  -- and so in the image's
  pub play_plays : Played plan packed o k (packed_state packed k o i) (play_desk plan machine number)
      (play_ran plan machine number)
  unfolding wide_desk
  play_plays = record {
    ends = narrow.ends;
    holds = λ which. record {
      memory = (entrance_ran (wide_layout plan which) (its_play plan) (wide_desk which)).desk.at;
      same = λ place none. sym ((narrow.side which).at place none);
      holds = (frames which).holds;
    };
    registers = λ register few.
        (narrow.side false).at (0xD400 + register) (no_spare false (0xD400 + register) (inr (omega arith)))
        ∙ (frames false).registers register few;
    behind = λ place from.
        let free = no_spare false place (inr (omega (arith, from))) in
        (narrow.side false).at place free
        ∙ (frames false).elsewhere place
        (timer_elsewhere (wide_layout plan false) (slide_rows packed) place (p.laid false).room from)
        (inr (omega (arith, from)))
        ∙ (spared false).same place free;
  }

pub play_meant : {packed : PackedSong} {song : Song} {o : Options} {bytes : List ℕ} (plan : Plan) →
    IsPlayer plan packed song o bytes → (machine : Machine) (number : ℕ) →
    meant (play_listed plan) machine number ≡ play_ran plan machine number
play_meant plan p machine number =
    ap (λ (l : Layout). entrance_ran l (its_play plan) (play_desk plan machine number))
    (entrances_are_in_one_listing plan p.is).play_layout

pub play_returns : {packed : PackedSong} {song : Song} {o : Options} {bytes : List ℕ} (plan : Plan) →
    IsPlayer plan packed song o bytes → (k i : ℕ) (machine : Machine) (number : ℕ) → IsMachine machine →
    k < length packed.subtunes → Ready plan packed k (packed_state packed k o i) (slice_index machine.memory) →
    Returns (play_listed plan) machine number
play_returns plan p k i machine number is below ready =
    entrances_return (play_listed plan) machine number (well_entered plan p).play is.size is.sp ready.play_code
    (ap (λ (r : Ran). r.outcome) (play_meant plan p machine number)
    ∙ (play_plays plan p k i machine number is below ready).ends)

-- the memory behind it
pub play_memory : {packed : PackedSong} {song : Song} {o : Options} {bytes : List ℕ} (plan : Plan) →
    IsPlayer plan packed song o bytes → (machine : Machine) (number : ℕ) →
    (r : Returns (play_listed plan) machine number) →
    slice_index r.after.memory ≡ (play_ran plan machine number).desk.at
play_memory plan p machine number r =
    ap (λ (s : State). s.at) r.seen ∙ ap (λ (run : Ran). run.desk.at) (play_meant plan p machine number)

pub play_registers : {packed : PackedSong} {song : Song} {o : Options} {bytes : List ℕ} (plan : Plan) →
    IsPlayer plan packed song o bytes → (k i : ℕ) (machine : Machine) (number : ℕ) → k < length packed.subtunes →
    Played plan packed o k (packed_state packed k o i) (play_desk plan machine number)
    (play_ran plan machine number) → (r : Returns (play_listed plan) machine number) →
    sid_registers r.after ≡ trace_with o song k (suc i)
play_registers {packed = packed} {song = song} {o = o} plan p k i machine number below frames r =
    let x = packed_state packed k o i in
    bytes_are (slice_index r.after.memory) 25 0xD400 (frame_with o (unpacked_song packed) k x).registers
    (frame_size o (unpacked_song packed) k x)
    (λ j few. ap (λ (at : ℕ → ℕ). at (0xD400 + j)) (play_memory plan p machine number r) ∙ frames.registers j few)
    ∙ (p.stands.plays o k p.speed (subst (λ n. k < n) p.stands.subtunes below)).trace (suc i)

pub play_timer : {packed : PackedSong} {song : Song} {o : Options} {bytes : List ℕ} (plan : Plan) →
    IsPlayer plan packed song o bytes → (k i : ℕ) (machine : Machine) (number : ℕ) → IsMachine machine →
    Played plan packed o k (packed_state packed k o i) (play_desk plan machine number)
    (play_ran plan machine number) → (r : Returns (play_listed plan) machine number) → SameTimer machine r.after
play_timer {packed = packed} plan p k i machine number is frames r =
    record { low = far 0xDC04 (omega arith); high = far 0xDC05 (omega arith) }
  where
    far : (place : ℕ) → 0xDC04 ≤ place → slice_index r.after.memory place ≡ slice_index machine.memory place
    far place from =
        ap (λ (at : ℕ → ℕ). at place) (play_memory plan p machine number r)
        ∙ frames.behind place from
        ∙ entry_kept machine place is.size (omega (arith, from))

-- the player goes on behind it
pub play_ready : {packed : PackedSong} {song : Song} {o : Options} {bytes : List ℕ} (plan : Plan) →
    IsPlayer plan packed song o bytes → (k i : ℕ) (machine : Machine) (number : ℕ) →
    Ready plan packed k (packed_state packed k o i) (slice_index machine.memory) →
    Played plan packed o k (packed_state packed k o i) (play_desk plan machine number)
    (play_ran plan machine number) → (r : Returns (play_listed plan) machine number) →
    Ready plan packed k (packed_state packed k o (suc i)) (slice_index r.after.memory)
unfolding state_after_with
play_ready {packed = packed} {o = o} plan p k i machine number ready frames r =
    let well = well_entered plan p in record {
      play_code = code_stays (play_listed plan) (play_listed plan) machine number well.play well.play r
          (λ q is. play_apart plan p q (play_code plan p q is)) ready.play_code;
      init_code = code_stays (play_listed plan) (init_listed plan) machine number well.play well.init r
          (λ q is. play_apart plan p q (init_code plan p q is)) ready.init_code;
      holds = λ which.
          subst
          (λ at. Spared plan packed k
          (held plan.holds (frame_with o (unpacked_song packed) k (packed_state packed k o i)).state) at which)
          (sym (play_memory plan p machine number r)) (frames.holds which);
    }
