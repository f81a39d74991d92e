-- A frame: the filter, and then each voice, one behind the other.
use Rattle.std.proofs.Common.{◌≡◌, ◌≢◌, ℕ, ◌+◌, ◌*◌, ◌<◌, ◌≤◌, ◌⊎◌, Bool, false, true}
use Rattle.std.proofs.Common.{List, length, replicate, slice_index}
use Rattle.std.proofs.Common.{refl, sym, ap, ◌∙◌, subst, arith}
use Rattle.std.proofs.lemmas.Bool.{cases_lt}
use Rattle.song_model.specs.declared.orders.Order.{Order}
use Rattle.song_model.specs.declared.tables.TableName.TheVariants.{Filter}
use Rattle.song_model.specs.LookUp.{table_of}
use Rattle.play_model.specs.declared.options.Options.{Options}
use Rattle.play_model.specs.LookUps.{LookUps}
use Rattle.play_model.specs.State.{Voice, Common, FrameState, Playing, playing_of, voice_of}
use Rattle.play_model.specs.FilterStep.{filter_step}
use Rattle.play_model.specs.Frame.{voice_step, voice_registers, filter_registers, voice_done}
use Rattle.play_model.specs.Frame.{frame_of, frame_with, subtune_at}
use Rattle.play_model.specs.Uses.{before_voice}
use Rattle.silent_voices.specs.Mute.{StaysSilent}
use Rattle.packed_form.specs.declared.packed_songs.PackedSong.{PackedSong}
use Rattle.packed_form.specs.Unpacked.{unpacked_song}
use Rattle.scopes.specs.Desk.{Desk, Layout}
use Rattle.scopes.specs.Trees.{Tree}
use Rattle.scopes.specs.Meaning.{Ran, Done, each_one, ran}
use Rattle.scope_calls.specs.Meaning.{cleared, at_voice, returned, entrance_ran}
use Rattle.player_memory.specs.declared.conditions.TheConstants.{FILTER_TABLE}
use Rattle.player_memory.specs.declared.labels.TheConstants.{LENT}
use Rattle.player_memory.specs.FactLines.{KeepsShared, is_run}
use Rattle.player_memory.specs.Rooms.{IsRoom, MayUse}
use Rattle.player_memory.specs.Variables.{CommonBytesStand}
use Rattle.player_memory.specs.Fetching.{IsInSong}
use Rattle.player_memory.specs.Playing.{own_at, shared_at, IsPlaying, IsAtVoice, PlaysShared}
use Rattle.player_memory.specs.SongLists.{pattern_bytes, slide_rows}
use Rattle.player_memory.specs.Holds.{Holds, IsPlayerLayout, held, look_of, order_in, order_label}
use Rattle.player_text.specs.Texts.{filter_tree, voice_tree}
use Rattle.filter_code.specs.FilterBlock.{HasFilterTable, IsOnFilterRow}
use Rattle.filter_code.proofs.Laws.{filter_block_steps}
use Rattle.slide_code.specs.SlideBlock.{KeepsCommon}
use Rattle.fetch_code.specs.FetchBlock.{HasOrderlist}
use Rattle.voice_code.specs.VoiceBlock.{Counts, HasVoiceLists, KeepsOptions, VoiceIsReady, VoicePlays}
use Rattle.voice_code.proofs.Laws.{voice_block_plays, voice_block_rests, ListsStay, orderlist_stays, voice_lists_stay, voice_stays_ready}
use Rattle.frame_code.specs.FrameBlock.{counts_of, turn_in, FrameIsReady, TurnIsReady, ReadsOffStack}
use Rattle.frame_code.specs.FrameBlock.{Frames, FramesPlay}
use Rattle.frame_code.proofs.Leaving.{lists_stay, song_lists_stay}
use Rattle.frame_code.proofs.Turns.{held_run, held_with, held_starts, held_still}
use Rattle.frame_code.proofs.Behind.{Behind, stacked, filtered, voiced}
use Rattle.frame_code.proofs.Calls.{ComesTo, comes_here, in_front, PartsCome, call_place, entrance_comes, calls_stack}
use Rattle.frame_code.proofs.Sounding.{sounds_one, sounds_two, sounds_three, sounds_last}

-- ---- what the blocks do, whichever trees they are

abbrev FilterSteps : Tree → Type 0
FilterSteps tree =
    (layout : Layout) (rows count : ℕ) (look : LookUps) (c : Common) (desk : Desk) → IsRoom layout rows →
    MayUse layout rows → HasFilterTable layout rows desk.at look count → desk.cpu.d ≡ false →
    CommonBytesStand layout.holds c (shared_at layout desk.at) → IsOnFilterRow look count c →
    (c.filter_ptr ≢ 0 → layout.holds FILTER_TABLE ≡ true) → KeepsShared layout →
    PlaysShared layout rows desk (ran each_one layout tree desk) (filter_step look c)
    (filter_registers (filter_step look c))

abbrev VoiceSteps : Tree → Type 0
VoiceSteps tree =
    (layout : Layout) (rows voice label : ℕ) (o : Options) (look : LookUps) (packed : ℕ → List ℕ) (order : Order)
    (counts : Counts) (s : Playing) (desk : Desk) → IsRoom layout rows → MayUse layout rows → voice < 3 →
    is_run layout.holds voice ≡ true → KeepsCommon layout → KeepsOptions layout o → HasVoiceLists layout rows desk.at look counts →
    HasOrderlist layout rows desk.at label order → IsAtVoice voice desk → IsPlaying layout voice s desk.at →
    shared_at layout desk.at LENT ≡ 0 → IsInSong layout label look packed order s.voice (own_at layout desk.at voice) →
    VoiceIsReady layout rows desk.at (voice + 1) o look packed order counts s →
    VoicePlays layout rows voice label look packed order desk (ran each_one layout tree desk)
    (voice_step (voice + 1) o look order s)

abbrev VoiceRests : Tree → Type 0
VoiceRests tree =
    (layout : Layout) (rows voice label : ℕ) (look : LookUps) (packed : ℕ → List ℕ) (order : Order) (s : Playing)
    (desk : Desk) → IsRoom layout rows → MayUse layout rows → voice < 3 → is_run layout.holds voice ≡ false →
    IsAtVoice voice desk → IsPlaying layout voice s desk.at → shared_at layout desk.at LENT ≡ 0 →
    IsInSong layout label look packed order s.voice (own_at layout desk.at voice) →
    VoicePlays layout rows voice label look packed order desk (ran each_one layout tree desk) s

-- what a voice's block does
record Voices (tree : Tree) : Type 0 where
  steps : VoiceSteps tree
  rests : VoiceRests tree

-- ---- what the frame begins with

record Start (layout : Layout) (packed : PackedSong) (o : Options) (k : ℕ) (x : FrameState) (at : ℕ → ℕ) : Type 0 where
  is_layout : IsPlayerLayout layout packed
  reads : ReadsOffStack layout
  holds : Holds layout packed k (held layout.holds x) at
  ready : FrameIsReady layout packed o k x at

-- the state in front of a voice, and the voice behind its step
abbrev front_state : PackedSong → Options → ℕ → ℕ → FrameState → FrameState
front_state packed o k voice x =
    before_voice (voice + 1) o (look_of packed) (subtune_at (unpacked_song packed) k) x

-- and what memory holds of it
abbrev pub front_held : Layout → PackedSong → Options → ℕ → ℕ → FrameState → FrameState
front_held layout packed o k voice x = held layout.holds (front_state packed o k voice x)

abbrev stepped : PackedSong → Options → ℕ → ℕ → FrameState → Playing
stepped packed o k voice x =
    voice_step (voice + 1) o (look_of packed) (order_in packed k voice) (turn_in packed o k voice x)

-- the registers of a frame, each by its number
abbrev sounds_of : PackedSong → Options → ℕ → FrameState → ℕ → ℕ
sounds_of packed o k x register = slice_index (frame_with o (unpacked_song packed) k x).registers register

abbrev Heard : PackedSong → Options → ℕ → FrameState → ℕ → Type 0
Heard packed o k x voice =
    (register : ℕ) → register < 7 →
    sounds_of packed o k x (7 * voice + register)
    ≡ slice_index (voice_registers (stepped packed o k voice x).voice) register

-- ---- a voice

voice_comes : (layout : Layout) (packed : PackedSong) (o : Options) (k voice : ℕ) (x : FrameState) (at : ℕ → ℕ)
    (block : Tree) (desk : Desk) → VoiceSteps block → Start layout packed o k x at → voice < 3 →
    is_run layout.holds voice ≡ true → IsAtVoice voice desk →
    Behind layout packed k at (sounds_of packed o k x) voice (front_held layout packed o k voice x) desk →
    VoicePlays layout (slide_rows packed) voice (order_label k voice) (look_of packed) (pattern_bytes packed)
    (order_in packed k voice) desk (ran each_one layout block desk) (stepped packed o k voice x)
voice_comes layout packed o k voice x at block desk steps start few runs at_voice behind =
    steps layout rows voice (order_label k voice) o look (pattern_bytes packed) (order_in packed k voice)
    (counts_of packed) (turn_in packed o k voice x) desk start.is_layout.room start.is_layout.uses few runs
    start.ready.common start.ready.options
    (voice_lists_stay layout rows look at desk.at (counts_of packed) stay start.ready.lists)
    (orderlist_stays layout rows look at desk.at (order_label k voice) (order_in packed k voice) stay turn.orderlist)
    at_voice (subst (λ s. IsPlaying layout voice s desk.at) same (behind.voices voice few).plays) behind.none_lent
    (subst (λ (s : Playing). IsInSong layout (order_label k voice) look (pattern_bytes packed) (order_in packed k voice)
    s.voice (own_at layout desk.at voice)) same (behind.voices voice few).song)
    (voice_stays_ready layout rows look at desk.at (voice + 1) o (pattern_bytes packed) (order_in packed k voice)
    (counts_of packed) (turn_in packed o k voice x) stay turn.ready)
  where
    rows : ℕ
    rows = slide_rows packed

    look : LookUps
    look = look_of packed

    turn : TurnIsReady layout packed o k voice x at
    turn = start.ready.turns voice few runs

    stay : ListsStay layout rows look at desk.at
    stay = lists_stay layout rows look at desk.at start.reads behind.leaves

    same : playing_of (voice + 1) (front_held layout packed o k voice x) ≡ turn_in packed o k voice x
    same = held_run layout.holds voice (front_state packed o k voice x) few runs

-- where the run of a part has come to
record Came (layout : Layout) (packed : PackedSong) (o : Options) (k : ℕ) (x : FrameState) (at : ℕ → ℕ) (count : ℕ)
    (y : FrameState) (run : Ran) : Type 0 where
  ends : run.outcome ≡ Done
  behind : Behind layout packed k at (sounds_of packed o k x) count y run.desk

-- the state behind a voice, and what memory holds of it
abbrev pub turned : PackedSong → Options → ℕ → ℕ → FrameState → FrameState
turned packed o k voice x =
    voice_done (voice + 1) o (look_of packed) (subtune_at (unpacked_song packed) k) (front_state packed o k voice x)

abbrev pub turned_held : Layout → PackedSong → Options → ℕ → ℕ → FrameState → FrameState
turned_held layout packed o k voice x = held layout.holds (turned packed o k voice x)

run_turns : (layout : Layout) (packed : PackedSong) (o : Options) (k voice : ℕ) (x : FrameState) (at : ℕ → ℕ)
    (block : Tree) (desk : Desk) → VoiceSteps block → Start layout packed o k x at → voice < 3 →
    is_run layout.holds voice ≡ true → IsAtVoice voice desk → Heard packed o k x voice →
    Behind layout packed k at (sounds_of packed o k x) voice (front_held layout packed o k voice x) desk →
    Came layout packed o k x at (voice + 1) (turned_held layout packed o k voice x) (ran each_one layout block desk)
run_turns layout packed o k voice x at block desk steps start few runs at_voice heard behind =
    let plays = voice_comes layout packed o k voice x at block desk steps start few runs at_voice behind in record {
      ends = plays.ends;
      behind = subst (λ y. Behind layout packed k at (sounds_of packed o k x) (voice + 1) y
          (ran each_one layout block desk).desk)
          (held_with layout.holds voice (stepped packed o k voice x) (front_state packed o k voice x) few runs)
          (voiced layout packed k at (sounds_of packed o k x) voice (front_held layout packed o k voice x)
          (stepped packed o k voice x) desk (ran each_one layout block desk) few heard behind plays);
    }

-- the registers of a voice that isn't run are 0
still_heard : (layout : Layout) (packed : PackedSong) (o : Options) (k voice : ℕ) (x : FrameState) → voice < 3 →
    is_run layout.holds voice ≡ false →
    StaysSilent o (look_of packed) (order_in packed k voice) (voice + 1) (turn_in packed o k voice x) →
    Heard packed o k x voice → (register : ℕ) → register < 7 →
    sounds_of packed o k x (7 * voice + register)
    ≡ slice_index (voice_registers (voice_of (voice + 1) (front_held layout packed o k voice x))) register
unfolding voice_registers
still_heard layout packed o k voice x few rests silent heard register small =
    heard register small ∙ ap (λ bytes. slice_index bytes register) silent.registers ∙ zeros
  where
    zeros : slice_index (replicate 7 0) register
        ≡ slice_index (voice_registers (voice_of (voice + 1) (front_held layout packed o k voice x))) register
    zeros =
        ap (λ (v : Voice). slice_index (voice_registers v) register)
        (sym (held_starts layout.holds voice (front_state packed o k voice x) few rests))

still_turns : (layout : Layout) (packed : PackedSong) (o : Options) (k voice : ℕ) (x : FrameState) (at : ℕ → ℕ)
    (block : Tree) (desk : Desk) → VoiceRests block → Start layout packed o k x at → voice < 3 →
    is_run layout.holds voice ≡ false → IsAtVoice voice desk → Heard packed o k x voice →
    Behind layout packed k at (sounds_of packed o k x) voice (front_held layout packed o k voice x) desk →
    Came layout packed o k x at (voice + 1) (turned_held layout packed o k voice x) (ran each_one layout block desk)
still_turns layout packed o k voice x at block desk rest start few rests at_voice heard behind = record {
  ends = plays.ends;
  behind = subst (λ y. Behind layout packed k at (sounds_of packed o k x) (voice + 1) y
      (ran each_one layout block desk).desk)
      (held_still layout.holds voice (stepped packed o k voice x) (front_state packed o k voice x) few rests
      silent.common)
      (voiced layout packed k at (sounds_of packed o k x) voice (front_held layout packed o k voice x) s desk
      (ran each_one layout block desk) few (still_heard layout packed o k voice x few rests silent heard) behind plays);
}
  where
    s : Playing
    s = playing_of (voice + 1) (front_held layout packed o k voice x)

    silent : StaysSilent o (look_of packed) (order_in packed k voice) (voice + 1) (turn_in packed o k voice x)
    silent = start.ready.still voice few rests

    plays : VoicePlays layout (slide_rows packed) voice (order_label k voice) (look_of packed) (pattern_bytes packed)
        (order_in packed k voice) desk (ran each_one layout block desk) s
    plays =
        rest layout (slide_rows packed) voice (order_label k voice) (look_of packed) (pattern_bytes packed)
        (order_in packed k voice) s desk start.is_layout.room start.is_layout.uses few rests at_voice
        (behind.voices voice few).plays behind.none_lent (behind.voices voice few).song

voice_turns : (layout : Layout) (packed : PackedSong) (o : Options) (k voice : ℕ) (x : FrameState) (at : ℕ → ℕ)
    (block : Tree) (desk : Desk) → Voices block → Start layout packed o k x at → voice < 3 → IsAtVoice voice desk →
    Heard packed o k x voice →
    Behind layout packed k at (sounds_of packed o k x) voice (front_held layout packed o k voice x) desk →
    Came layout packed o k x at (voice + 1) (turned_held layout packed o k voice x) (ran each_one layout block desk)
voice_turns layout packed o k voice x at block desk does start few at_voice heard behind =
    by_run (is_run layout.holds voice) refl
  where
    by_run : (runs : Bool) → is_run layout.holds voice ≡ runs →
        Came layout packed o k x at (voice + 1) (turned_held layout packed o k voice x) (ran each_one layout block desk)
    by_run true runs =
        run_turns layout packed o k voice x at block desk does.steps start few runs at_voice heard behind
    by_run false rests =
        still_turns layout packed o k voice x at block desk does.rests start few rests at_voice heard behind

-- ---- its registers

heard_one : (packed : PackedSong) (o : Options) (k : ℕ) (x : FrameState) → Heard packed o k x 0
unfolding frame_of
heard_one packed o k x register few = sounds_one _ _ _ _ register few

heard_two : (packed : PackedSong) (o : Options) (k : ℕ) (x : FrameState) → Heard packed o k x 1
unfolding frame_of
heard_two packed o k x register few = sounds_two _ _ _ _ register few

heard_three : (packed : PackedSong) (o : Options) (k : ℕ) (x : FrameState) → Heard packed o k x 2
unfolding frame_of
heard_three packed o k x register few = sounds_three _ _ _ _ register few

heard_last : (packed : PackedSong) (o : Options) (k : ℕ) (x : FrameState) (number : ℕ) → number < 4 →
    sounds_of packed o k x (21 + number)
    ≡ slice_index (filter_registers (filter_step (look_of packed) x.common)) number
unfolding frame_of
heard_last packed o k x number few = sounds_last _ _ _ _ number few

-- ---- one behind the other

record FrameCame (layout : Layout) (packed : PackedSong) (o : Options) (k : ℕ) (x : FrameState) (first block : Tree)
    (one two : ℕ) (desk : Desk) : Type 0 where
  after : Desk
  parts : PartsCome layout first block one two desk after
  behind : Behind layout packed k desk.at (sounds_of packed o k x) 3
      (held layout.holds (frame_with o (unpacked_song packed) k x).state) after

filter_comes : (layout : Layout) (packed : PackedSong) (o : Options) (k : ℕ) (x : FrameState) (first : Tree)
    (desk : Desk) → FilterSteps first → Start layout packed o k x desk.at →
    Came layout packed o k x desk.at 0 (front_held layout packed o k 0 x) (ran each_one layout first (cleared desk))
filter_comes layout packed o k x first desk steps start =
    let plays = steps layout (slide_rows packed) (length (table_of (unpacked_song packed) Filter)) (look_of packed)
    x.common (cleared desk) start.is_layout.room start.is_layout.uses start.ready.filter_table refl
    (start.holds.voices 0 (omega arith)).plays.common start.ready.filter_row start.ready.filter_kept
    start.ready.shared in record {
      ends = plays.ends;
      behind = filtered layout packed k (sounds_of packed o k x) (held layout.holds x) (cleared desk)
          (ran each_one layout first (cleared desk))
          (filter_registers (filter_step (look_of packed) x.common)) (heard_last packed o k x) start.holds plays;
    }

state_is : (packed : PackedSong) (o : Options) (k : ℕ) (x : FrameState) →
    turned packed o k 2 x ≡ (frame_with o (unpacked_song packed) k x).state
unfolding frame_of
state_is packed o k x = refl

-- registers of the processor have changed alone
same_memory : (layout : Layout) (packed : PackedSong) (o : Options) (k count : ℕ) (x y : FrameState) (at : ℕ → ℕ)
    (one two : Desk) → Start layout packed o k x at → two.at ≡ one.at → two.cpu.d ≡ one.cpu.d →
    Behind layout packed k at (sounds_of packed o k x) count y one →
    Behind layout packed k at (sounds_of packed o k x) count y two
same_memory layout packed o k count x y at one two start same decimal behind =
    stacked layout packed k at (sounds_of packed o k x) count y one two start.is_layout.room
    (λ place off. ap (λ memory. memory place) same) decimal behind

-- a voice that is called, behind a part that has come to a desk
called_turns : (layout : Layout) (packed : PackedSong) (o : Options) (k voice last : ℕ) (x : FrameState) (at : ℕ → ℕ)
    (block : Tree) (desk : Desk) → Voices block → Start layout packed o k x at → voice < 3 →
    Heard packed o k x voice →
    Behind layout packed k at (sounds_of packed o k x) voice (front_held layout packed o k voice x) desk →
    Came layout packed o k x at (voice + 1) (turned_held layout packed o k voice x)
    (ran each_one layout block (in_front last voice desk))
called_turns layout packed o k voice last x at block desk steps start few heard behind =
    voice_turns layout packed o k voice x at block (in_front last voice desk) steps start few
    (record { x = refl; decimal = behind.decimal }) heard
    (stacked layout packed k at (sounds_of packed o k x) voice (front_held layout packed o k voice x) desk
    (in_front last voice desk) start.is_layout.room (calls_stack last voice desk) refl behind)

-- the third, into which the code goes on
last_turns : (layout : Layout) (packed : PackedSong) (o : Options) (k : ℕ) (x : FrameState) (at : ℕ → ℕ)
    (block : Tree) (desk : Desk) → Voices block → Start layout packed o k x at →
    Behind layout packed k at (sounds_of packed o k x) 2 (front_held layout packed o k 2 x) desk →
    Came layout packed o k x at 3 (turned_held layout packed o k 2 x) (ran each_one layout block (at_voice 2 desk))
last_turns layout packed o k x at block desk steps start behind =
    voice_turns layout packed o k 2 x at block (at_voice 2 desk) steps start (omega arith)
    (record { x = refl; decimal = behind.decimal }) (heard_three packed o k x)
    (same_memory layout packed o k 2 x (front_held layout packed o k 2 x) at desk (at_voice 2 desk) start refl refl behind)

frame_comes : (layout : Layout) (packed : PackedSong) (o : Options) (k : ℕ) (x : FrameState) (first block : Tree)
    (one two : ℕ) (desk : Desk) → FilterSteps first → Voices block → Start layout packed o k x desk.at →
    FrameCame layout packed o k x first block one two desk
frame_comes layout packed o k x first block one two desk filters steps start =
    let filter = filter_comes layout packed o k x first desk filters start in
    let filter_at = (ran each_one layout first (cleared desk)).desk in
    let voice_one = called_turns layout packed o k 0 one x desk.at block filter_at steps start (omega arith)
    (heard_one packed o k x) filter.behind in
    let one_at = (ran each_one layout block (in_front one 0 filter_at)).desk in
    let voice_two = called_turns layout packed o k 1 two x desk.at block (returned one_at) steps start (omega arith)
    (heard_two packed o k x)
    (same_memory layout packed o k 1 x (turned_held layout packed o k 0 x) desk.at one_at (returned one_at) start refl refl
    voice_one.behind) in
    let two_at = (ran each_one layout block (in_front two 1 (returned one_at))).desk in
    let voice_three = last_turns layout packed o k x desk.at block (returned two_at) steps start
    (same_memory layout packed o k 2 x (turned_held layout packed o k 1 x) desk.at two_at (returned two_at) start refl refl
    voice_two.behind) in record {
      after = (ran each_one layout block (at_voice 2 (returned two_at))).desk;
      parts = record {
        filter = filter_at;
        voice_one = one_at;
        voice_two = two_at;
        filter_is = comes_here (ran each_one layout first (cleared desk)) filter.ends;
        one_is = comes_here (ran each_one layout block (in_front one 0 filter_at)) voice_one.ends;
        two_is = comes_here (ran each_one layout block (in_front two 1 (returned one_at))) voice_two.ends;
        three_is = comes_here (ran each_one layout block (at_voice 2 (returned two_at))) voice_three.ends;
      };
      behind = rw (sym (state_is packed o k x)) voice_three.behind;
    }

-- ---- the call

-- where the parts have come to, memory is that of the frame
frames : (layout : Layout) (packed : PackedSong) (o : Options) (k : ℕ) (x : FrameState) (desk after : Desk)
    (run : Ran) → Start layout packed o k x desk.at → ComesTo run (returned after) →
    Behind layout packed k desk.at (sounds_of packed o k x) 3
    (held layout.holds (frame_with o (unpacked_song packed) k x).state) after → Frames layout packed o k x desk run
frames layout packed o k x desk after run start comes behind = record {
  ends = comes.ends;
  holds = subst (λ at. Holds layout packed k (held layout.holds (frame_with o (unpacked_song packed) k x).state) at)
      (sym memory) (record {
        lists = song_lists_stay layout packed desk.at after.at
            (lists_stay layout (slide_rows packed) (look_of packed) desk.at after.at start.reads behind.leaves)
            start.holds.lists;
        voices = behind.voices;
        none_lent = behind.none_lent;
      });
  registers = λ register few.
      ap (λ at. at (0xD400 + register)) memory ∙ behind.registers register few (by_number register);
  elsewhere = λ place away off. ap (λ at. at place) memory ∙ behind.leaves.elsewhere place away off;
}
  where
    memory : run.desk.at ≡ after.at
    memory = ap (λ (d : Desk). d.at) comes.desk_is

    by_number : (register : ℕ) → (register < 21) ⊎ (21 ≤ register)
    by_number register = cases_lt register 21

pub frames_play : FramesPlay
frames_play layout packed o k x e desk plays is_layout reads holds ready =
    let start : Start layout packed o k x desk.at =
    record { is_layout = is_layout; reads = reads; holds = holds; ready = ready } in
    let came = frame_comes layout packed o k x e.first voice_tree (call_place layout e + 4) (call_place layout e + 9)
    desk
    (subst FilterSteps (sym plays.first) filter_steps) voices start in
    frames layout packed o k x desk came.after (entrance_ran layout e desk) start
    (entrance_comes layout e voice_tree desk came.after plays.voice came.parts) came.behind
  where
    filter_steps : FilterSteps filter_tree
    filter_steps = filter_block_steps

    voices : Voices voice_tree
    voices = record { steps = voice_block_plays; rests = voice_block_rests }
