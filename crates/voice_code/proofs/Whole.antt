-- A voice's step of a frame, with its registers, in memory.
use Rattle.std.proofs.Common.{◌≡◌, ℕ, ◌+◌, Bool, true, false, List, refl, sym, ap, ◌∙◌, subst}
use Rattle.song_model.specs.declared.orders.Order.{Order}
use Rattle.play_model.specs.declared.options.Options.{Options}
use Rattle.play_model.specs.LookUps.{LookUps}
use Rattle.play_model.specs.State.{Playing}
use Rattle.play_model.specs.TickStep.{tick_step}
use Rattle.play_model.specs.PulseStep.{pulse_step}
use Rattle.play_model.specs.Frame.{pulse_left_out, row_fetched, voice_step}
use Rattle.scopes.specs.Desk.{Desk, Layout}
use Rattle.scopes.specs.Trees.{Tree, NoneTree, ScopeTree}
use Rattle.scopes.specs.Meaning.{Done, Left, Ran, each_one, ran}
use Rattle.player_memory.specs.declared.labels.TheConstants.{LENT}
use Rattle.player_memory.specs.Playing.{own_at, shared_at, IsPlaying, IsAtVoice, with_voice, there}
use Rattle.player_text.specs.declared.joints.TheConstants.{SOUNDS, TICKED, PULSED}
use Rattle.player_text.specs.Steps.{tick_tree as tick_text, fetch_tree as fetch_text, then_lines}
use Rattle.player_text.specs.Texts.{voice_tree}
use Rattle.tick_code.specs.TickBlock.{tick_tree, Ticks, way_of}
use Rattle.tick_code.proofs.Laws.{tick_block_steps}
use Rattle.pitch_code.specs.GivenBackBlock.{given_back_tree}
use Rattle.fetch_code.specs.FetchBlock.{fetch_tree, HasOrderlist, Fetches, left_out}
use Rattle.player_memory.specs.Fetching.{IsInSong}
use Rattle.fetch_code.specs.FetchBlock.{way_of as fetch_way}
use Rattle.fetch_code.proofs.Laws.{fetch_block_fetches}
use Rattle.pulse_code.specs.PulseBlock.{pulse_tree}
use Rattle.pulse_code.proofs.Laws.{pulse_block_steps}
use Rattle.register_code.specs.RegisterBlock.{register_tree}
use Rattle.voice_code.specs.VoiceBlock.{Counts, HasVoiceLists, KeepsOptions, VoiceIsReady, VoicePlays}
use Rattle.voice_code.specs.VoiceBlock.{VoiceBlockPlays, VoiceBlockRests, waved, effected}
use Rattle.voice_code.proofs.Joining.{Comes, here, shed, then_it, then_on, leaves_on, scope_left, scope_same}
use Rattle.voice_code.proofs.Joining.{then_same}
use Rattle.voice_code.proofs.Silence.{silence_tree, Told, told_run, told_rests}
use Rattle.voice_code.proofs.Ways.{sounding, whole, voice_started, voice_left_out, voice_pulsed}
use Rattle.voice_code.proofs.Lists.{ListsStay, waves_stay, tones_stay, speeds_stay, pulses_stay}
use Rattle.voice_code.proofs.SongLists.{orderlist_stays, rows_stay, in_song_stays}
use Rattle.voice_code.proofs.SongFields.{in_song, tick_same, wave_same, effected_same}
use Rattle.voice_code.proofs.Orders.{pulse_behind, fetch_first, row_fetched_pulse}
use Rattle.voice_code.proofs.Stages.{Stage, NoneLent, stage_of, stage_then, none_stays, lists_of, begins_at}
use Rattle.voice_code.proofs.Effects.{Ground}
use Rattle.voice_code.proofs.Waving.{effects_tree}
use Rattle.voice_code.proofs.Commanding.{waves}
use Rattle.voice_code.proofs.Ending.{Played, written}
use Rattle.voice_code.proofs.Stepping.{Returned, returned, Fetched, played_of, left_out_is, on_row, pulse_kept}
use Rattle.voice_code.proofs.Stepping.{pulsed}

-- what the voice's step begins with
record Start (layout : Layout) (rows voice label : ℕ) (o : Options) (look : LookUps) (packed : ℕ → List ℕ)
    (order : Order) (counts : Counts) (s : Playing) (desk : Desk) : Type 0 where
  ground : Ground layout rows voice
  options : KeepsOptions layout o
  lists : HasVoiceLists layout rows desk.at look counts
  orderlist : HasOrderlist layout rows desk.at label order
  at_voice : IsAtVoice voice desk
  plays : IsPlaying layout voice s desk.at
  none : NoneLent layout desk
  song : IsInSong layout label look packed order s.voice (own_at layout desk.at voice)
  ready : VoiceIsReady layout rows desk.at (voice + 1) o look packed order counts s

-- the text, in words of its blocks
abbrev sounds_tree : Tree
sounds_tree = sounding tick_text effects_tree given_back_tree fetch_text pulse_tree

-- a voice that is run
abbrev run_tree : Tree
run_tree = whole sounds_tree register_tree

-- a run that comes to where another one comes plays the same
plays_there : (layout : Layout) (rows voice label : ℕ) (look : LookUps) (packed : ℕ → List ℕ) (order : Order)
    (before : Desk) (run other : Ran) (s : Playing) → run.outcome ≡ Done → run.desk ≡ other.desk →
    VoicePlays layout rows voice label look packed order before other s →
    VoicePlays layout rows voice label look packed order before run s
plays_there layout rows voice label look packed order before run other s way at last = record {
  ends = way;
  at_voice = rw at last.at_voice;
  plays = rw at last.plays;
  song = rw at last.song;
  none_lent = rw at last.none_lent;
  sounds = rw at last.sounds;
  others = rw at last.others;
  registers = rw at last.registers;
  slides = rw at last.slides;
  elsewhere = rw at last.elsewhere;
}

-- where the blocks before the registers have come to, the registers are written
ends_with : (layout : Layout) (rows voice label : ℕ) (look : LookUps) (packed : ℕ → List ℕ) (order : Order)
    (before mid : Desk) (s : Playing) → Ground layout rows voice →
    Played layout rows voice label look packed order before mid s →
    Comes layout run_tree before Done (ran each_one layout register_tree mid).desk →
    VoicePlays layout rows voice label look packed order before (ran each_one layout run_tree before) s
ends_with layout rows voice label look packed order before mid s ground played comes =
    plays_there layout rows voice label look packed order before (ran each_one layout run_tree before)
    (ran each_one layout register_tree mid) s comes.way comes.desk_is
    (written layout rows voice label look packed order before mid s ground.room ground.uses ground.few played)

-- ---- up to the fetch

fetched : (layout : Layout) (rows voice label : ℕ) (o : Options) (look : LookUps) (packed : ℕ → List ℕ) (order : Order)
    (counts : Counts) (s : Playing) (desk : Desk) →
    Start layout rows voice label o look packed order counts s desk →
    Comes layout (ScopeTree TICKED tick_text) desk Done (ran each_one layout tick_tree desk).desk →
    Stage layout rows voice look desk (ran each_one layout tick_tree desk).desk
    (tick_step (voice + 1) look s).playing → NoneLent layout (ran each_one layout tick_tree desk).desk →
    (tick_step (voice + 1) look s).started ≡ false →
    Fetched layout rows voice label look packed order desk
    (pulse_left_out o (effected (voice + 1) o look s).voice) (row_fetched look order (effected (voice + 1) o look s))
fetched layout rows voice label o look packed order counts s desk start tick_comes ticked none waits = record {
  after = run.desk;
  ways = record {
    ticked = mid;
    effected = back.lent_at;
    returned = back.after;
    tick_comes = tick_comes;
    effects_come = back.effects_come;
    back_comes = back.back_comes;
    fetch_comes = shed layout (ScopeTree PULSED fetch_text) back.after (fetch_way out) run.desk
        (here layout fetch_tree back.after (fetch_way out) (does.takes ∙ ap fetch_way kept));
  };
  played = subst (λ way. Played layout rows voice label look packed order desk run.desk (row_fetched look order e)) kept
      (played_of layout rows voice label look packed order desk back.after run (left_out layout e.voice) e
      (row_fetched look order e) here_stage does);
}
  where
    mid : Desk
    mid = (ran each_one layout tick_tree desk).desk

    e : Playing
    e = effected (voice + 1) o look s

    out : Bool
    out = pulse_left_out o e.voice

    kept : left_out layout e.voice ≡ out
    kept = left_out_is layout o e.voice start.options

    stay : ListsStay layout rows look desk.at mid.at
    stay = lists_of layout rows voice look desk mid (tick_step (voice + 1) look s).playing ticked

    back : Returned layout rows voice look mid e
    back =
        returned layout rows voice look mid e start.ground
        (waves layout rows voice look counts o (tick_step (voice + 1) look s).playing mid start.ground (record {
          at_voice = ticked.at_voice;
          plays = ticked.plays;
          none = none;
          tables = record {
            waves = waves_stay layout rows look desk.at mid.at counts.waves stay start.lists.waves;
            tones = tones_stay layout rows look desk.at mid.at counts.numbers stay start.lists.tones;
            speeds = speeds_stay layout rows look desk.at mid.at counts.speeds stay start.lists.speeds;
          };
          options = start.options;
          wave = start.ready.wave waits;
          effect = start.ready.effect waits;
        }))

    here_stage : Stage layout rows voice look desk back.after e
    here_stage =
        stage_then layout rows voice look desk mid back.after (tick_step (voice + 1) look s).playing e ticked back.stage

    here_lists : ListsStay layout rows look desk.at back.after.at
    here_lists = lists_of layout rows voice look desk back.after e here_stage

    run : Ran
    run = ran each_one layout fetch_tree back.after

    same_place : in_song e.voice ≡ in_song s.voice
    same_place =
        effected_same o look (waved (voice + 1) look s)
        ∙ (wave_same look (tick_step (voice + 1) look s).playing ∙ tick_same (voice + 1) look s)

    does : Fetches layout rows voice label look packed order back.after run (fetch_way (left_out layout e.voice))
        (row_fetched look order e)
    does =
        fetch_block_fetches layout rows voice label look packed order e back.after start.ground.room start.ground.uses
        start.ground.few here_stage.at_voice here_stage.plays back.none
        (in_song_stays layout label look packed order s.voice e.voice (own_at layout desk.at voice)
        (own_at layout back.after.at voice) same_place here_stage.song start.song)
        (orderlist_stays layout rows look desk.at back.after.at label order here_lists start.orderlist)
        (rows_stay layout rows look desk.at back.after.at packed order e.voice here_lists (start.ready.fetch waits))

-- ---- behind it

-- the pulse step is left out, or done
behind_fetch : (layout : Layout) (rows voice label : ℕ) (o : Options) (look : LookUps) (packed : ℕ → List ℕ)
    (order : Order) (counts : Counts) (s : Playing) (desk : Desk) →
    Start layout rows voice label o look packed order counts s desk →
    (tick_step (voice + 1) look s).started ≡ false → (out : Bool) →
    pulse_left_out o (effected (voice + 1) o look s).voice ≡ out →
    Fetched layout rows voice label look packed order desk out
    (row_fetched look order (effected (voice + 1) o look s)) →
    VoicePlays layout rows voice label look packed order desk (ran each_one layout run_tree desk)
    (pulse_behind o look (effected (voice + 1) o look s) (row_fetched look order (effected (voice + 1) o look s)))
behind_fetch layout rows voice label o look packed order counts s desk start waits true is f =
    let e = effected (voice + 1) o look s in
    let t = row_fetched look order e in
    let last = ran each_one layout register_tree f.after in
    let same : t ≡ pulse_behind o look e t = rw is refl in
    subst (VoicePlays layout rows voice label look packed order desk (ran each_one layout run_tree desk)) same
    (ends_with layout rows voice label look packed order desk f.after t start.ground f.played
    (voice_left_out layout tick_text effects_tree given_back_tree fetch_text pulse_tree register_tree desk f.after
    last.desk f.ways
    (here layout register_tree f.after Done
    (written layout rows voice label look packed order desk f.after t start.ground.room start.ground.uses
    start.ground.few f.played).ends)))
behind_fetch layout rows voice label o look packed order counts s desk start waits false is f =
    let e = effected (voice + 1) o look s in
    let t = row_fetched look order e in
    let u = with_voice (pulse_step look t.voice) t in
    let run = ran each_one layout pulse_tree f.after in
    let last = ran each_one layout register_tree run.desk in
    let stay : ListsStay layout rows look desk.at f.after.at =
    record { elsewhere = λ place away reads. f.played.stays.elsewhere place away; slides = f.played.slides } in
    let ready = start.ready.pulse waits is in
    let fields = row_fetched_pulse look order e in
    let plays = pulse_block_steps layout rows voice counts.pulses look t f.after start.ground.room start.ground.uses
    (pulses_stay layout rows look desk.at f.after.at counts.pulses stay start.lists.pulses) start.ground.few
    f.played.at_voice f.played.plays (on_row look counts.pulses e.voice t.voice fields ready.on)
    (pulse_kept layout e.voice t.voice fields ready.keeps) in
    let played = pulsed layout rows voice label look packed order desk f.after run t f.played plays in
    let same : u ≡ pulse_behind o look e t = rw is refl in
    subst (VoicePlays layout rows voice label look packed order desk (ran each_one layout run_tree desk)) same
    (ends_with layout rows voice label look packed order desk run.desk u start.ground played
    (voice_pulsed layout tick_text effects_tree given_back_tree fetch_text pulse_tree register_tree desk f.after run.desk
    last.desk f.ways (here layout pulse_tree f.after Done plays.but_slides.ends)
    (here layout register_tree run.desk Done
    (written layout rows voice label look packed order desk run.desk u start.ground.room start.ground.uses
    start.ground.few played).ends)))

-- ---- the whole

step_started : (channel : ℕ) (o : Options) (look : LookUps) (order : Order) (s : Playing) →
    (tick_step channel look s).started ≡ true → voice_step channel o look order s ≡ (tick_step channel look s).playing
unfolding voice_step
step_started channel o look order s starts = rw starts refl

step_goes_on : (channel : ℕ) (o : Options) (look : LookUps) (order : Order) (s : Playing) →
    (tick_step channel look s).started ≡ false → voice_step channel o look order s
    ≡ pulse_behind o look (effected channel o look s) (row_fetched look order (effected channel o look s))
unfolding voice_step
step_goes_on channel o look order s waits = rw waits (fetch_first o look order (effected channel o look s))

steps : (layout : Layout) (rows voice label : ℕ) (o : Options) (look : LookUps) (packed : ℕ → List ℕ) (order : Order)
    (counts : Counts) (s : Playing) (desk : Desk) →
    Start layout rows voice label o look packed order counts s desk →
    VoicePlays layout rows voice label look packed order desk (ran each_one layout run_tree desk)
    (voice_step (voice + 1) o look order s)
steps layout rows voice label o look packed order counts s desk start =
    by_start (tick_step (voice + 1) look s).started refl
  where
    run : Ran
    run = ran each_one layout tick_tree desk

    does : Ticks layout rows voice desk run (tick_step (voice + 1) look s)
    does =
        tick_block_steps layout rows voice counts.instruments counts.speeds look s desk start.ground.room
        start.ground.uses start.lists.ticks start.ground.few start.at_voice start.plays start.ready.lists
        start.ready.keeps start.ready.first_wave

    stage : Stage layout rows voice look desk run.desk (tick_step (voice + 1) look s).playing
    stage = stage_of layout rows voice look desk (there run) _ does.plays

    none : NoneLent layout run.desk
    none = none_stays layout rows voice desk (there run) _ does.plays.but_slides start.none

    played : Played layout rows voice label look packed order desk run.desk (tick_step (voice + 1) look s).playing
    played = record {
      at_voice = stage.at_voice;
      plays = stage.plays;
      song = in_song_stays layout label look packed order s.voice (tick_step (voice + 1) look s).playing.voice
          (own_at layout desk.at voice) (own_at layout run.desk.at voice) (tick_same (voice + 1) look s) stage.song
          start.song;
      none = none;
      stays = stage.stays;
      slides = stage.slides;
    }

    by_start : (started : Bool) → (tick_step (voice + 1) look s).started ≡ started →
        VoicePlays layout rows voice label look packed order desk (ran each_one layout run_tree desk)
        (voice_step (voice + 1) o look order s)
    by_start true e =
        (let t = (tick_step (voice + 1) look s).playing in
        let last = ran each_one layout register_tree run.desk in
        subst (VoicePlays layout rows voice label look packed order desk (ran each_one layout run_tree desk))
        (sym (step_started (voice + 1) o look order s e))
        (ends_with layout rows voice label look packed order desk run.desk t start.ground played
        (voice_started layout tick_text effects_tree given_back_tree fetch_text pulse_tree register_tree desk run.desk
        last.desk
        (shed layout (ScopeTree TICKED tick_text) desk (Left SOUNDS) run.desk
        (here layout tick_tree desk (Left SOUNDS) (does.way ∙ ap way_of e)))
        (here layout register_tree run.desk Done
        (written layout rows voice label look packed order desk run.desk t start.ground.room start.ground.uses
        start.ground.few played).ends))))
    by_start false e =
        subst (VoicePlays layout rows voice label look packed order desk (ran each_one layout run_tree desk))
        (sym (step_goes_on (voice + 1) o look order s e))
        (behind_fetch layout rows voice label o look packed order counts s desk start e
        (pulse_left_out o (effected (voice + 1) o look s).voice) refl
        (fetched layout rows voice label o look packed order counts s desk start
        (shed layout (ScopeTree TICKED tick_text) desk Done run.desk
        (here layout tick_tree desk Done (does.way ∙ ap way_of e))) stage none e))

-- ---- where the voice is told

-- a desk with the same memory before it
before_same : (layout : Layout) (rows voice label : ℕ) (look : LookUps) (packed : ℕ → List ℕ) (order : Order)
    (before mid : Desk) (run : Ran) (s : Playing) → mid.at ≡ before.at →
    VoicePlays layout rows voice label look packed order mid run s →
    VoicePlays layout rows voice label look packed order before run s
before_same layout rows voice label look packed order before mid run s same plays = record {
  ends = plays.ends;
  at_voice = plays.at_voice;
  plays = plays.plays;
  song = plays.song;
  none_lent = plays.none_lent;
  sounds = plays.sounds;
  others = rw (sym same) plays.others;
  registers = rw (sym same) plays.registers;
  slides = rw (sym same) plays.slides;
  elsewhere = rw (sym same) plays.elsewhere;
}

-- the voice is run behind the block that tells it
run_behind : (layout : Layout) (desk mid : Desk) → Comes layout silence_tree desk Done mid →
    Comes layout voice_tree desk (ran each_one layout run_tree mid).outcome (ran each_one layout run_tree mid).desk
run_behind layout desk mid told =
    then_same layout (ScopeTree SOUNDS (then_lines silence_tree sounds_tree)) (ScopeTree SOUNDS sounds_tree)
    (then_lines register_tree NoneTree) desk mid
    (scope_same layout SOUNDS (then_lines silence_tree sounds_tree) sounds_tree desk mid
    (then_on layout silence_tree sounds_tree desk mid (ran each_one layout sounds_tree mid).outcome
    (ran each_one layout sounds_tree mid).desk told
    (here layout sounds_tree mid (ran each_one layout sounds_tree mid).outcome refl)))

pub voice_block_plays : VoiceBlockPlays
voice_block_plays layout rows voice label o look packed order counts s desk room uses few runs common options lists
    orderlist at plays none song ready =
    before_same layout rows voice label look packed order desk mid (ran each_one layout voice_tree desk) _ told.memory
    (plays_there layout rows voice label look packed order mid (ran each_one layout voice_tree desk)
    (ran each_one layout run_tree mid) _ (comes.way ∙ steps_there.ends) comes.desk_is steps_there)
  where
    told : Told layout voice desk Done
    told = told_run layout voice desk few at runs

    mid : Desk
    mid = told.after

    comes : Comes layout voice_tree desk (ran each_one layout run_tree mid).outcome
        (ran each_one layout run_tree mid).desk
    comes = run_behind layout desk mid told.comes

    steps_there : VoicePlays layout rows voice label look packed order mid (ran each_one layout run_tree mid)
        (voice_step (voice + 1) o look order s)
    steps_there =
        (let same = sym told.memory in
        steps layout rows voice label o look packed order counts s mid (record {
          ground = record { room = room; uses = uses; few = few; common = common };
          options = options;
          lists = subst (λ memory. HasVoiceLists layout rows memory look counts) same lists;
          orderlist = subst (λ memory. HasOrderlist layout rows memory label order) same orderlist;
          at_voice = told.at_voice;
          plays = subst (IsPlaying layout voice s) same plays;
          none = subst (λ memory. shared_at layout memory LENT ≡ 0) same none;
          song = subst (λ memory. IsInSong layout label look packed order s.voice (own_at layout memory voice)) same song;
          ready = subst (λ memory. VoiceIsReady layout rows memory (voice + 1) o look packed order counts s) same ready;
        }))

-- a voice that isn't run has its registers written
pub voice_block_rests : VoiceBlockRests
voice_block_rests layout rows voice label look packed order s desk room uses few rests at plays none song =
    before_same layout rows voice label look packed order desk mid (ran each_one layout voice_tree desk) s told.memory
    (plays_there layout rows voice label look packed order mid (ran each_one layout voice_tree desk)
    (ran each_one layout register_tree mid) s comes.way comes.desk_is last)
  where
    told : Told layout voice desk (Left SOUNDS)
    told = told_rests layout voice desk few at rests

    mid : Desk
    mid = told.after

    last : VoicePlays layout rows voice label look packed order mid (ran each_one layout register_tree mid) s
    last =
        (let same = sym told.memory in
        written layout rows voice label look packed order mid mid s room uses few (record {
          at_voice = told.at_voice;
          plays = subst (IsPlaying layout voice s) same plays;
          song = subst (λ memory. IsInSong layout label look packed order s.voice (own_at layout memory voice)) same song;
          none = subst (λ memory. shared_at layout memory LENT ≡ 0) same none;
          stays = (begins_at layout rows voice look mid s told.at_voice (subst (IsPlaying layout voice s) same plays)).stays;
          slides = (begins_at layout rows voice look mid s told.at_voice (subst (IsPlaying layout voice s) same plays)).slides;
        }))

    comes : Comes layout voice_tree desk Done (ran each_one layout register_tree mid).desk
    comes =
        then_it layout (ScopeTree SOUNDS (then_lines silence_tree sounds_tree)) (then_lines register_tree NoneTree) desk mid
        Done (ran each_one layout register_tree mid).desk
        (scope_left layout SOUNDS (then_lines silence_tree sounds_tree) desk mid
        (leaves_on layout silence_tree sounds_tree desk SOUNDS mid told.comes))
        (then_on layout register_tree NoneTree mid (ran each_one layout register_tree mid).desk Done
        (ran each_one layout register_tree mid).desk (here layout register_tree mid Done last.ends)
        (record { way = refl; desk_is = refl }))
