-- The desk of a voice as it is read from memory; and what a block leaves there that leads to where a rule's code does.
use Rattle.std.proofs.Common.{◌≡◌, ◌≢◌, ℕ, ◌+◌, ◌*◌, ◌%◌, ◌<◌, Bool, true, inl, inr, refl, sym, ap}
use Rattle.std.proofs.Common.{◌∙◌, subst}
use Rattle.std.proofs.lemmas.Bool.Decides.{eqb_tells}
use Rattle.play_model.specs.State.{Voice, Common, Playing}
use Rattle.play_model.specs.TickStep.{tempo_of}
use Rattle.scopes.specs.Desk.{Desk, Layout}
use Rattle.scopes.specs.Trees.{Tree}
use Rattle.scopes.specs.Meaning.{Outcome, Ran, Done, Left, Again, Stuck, each_one, ran}
use Rattle.player_memory.specs.declared.labels.TheConstants.{TICK, GATE_TIMER, INSTRUMENT, NOTE, NEW_NOTE}
use Rattle.player_memory.specs.declared.labels.TheConstants.{NEW_COMMAND, NEW_PARAM, COMMAND, PARAM, AD, SR, VIB_TIME}
use Rattle.player_memory.specs.declared.labels.TheConstants.{VIB_DELAY, WAVE, GATE, FREQ_LOW, FREQ_HIGH, LAST_NOTE}
use Rattle.player_memory.specs.declared.labels.TheConstants.{WAVE_POINTER, WAVE_TIME, PULSE_POINTER, PULSE_TIME}
use Rattle.player_memory.specs.declared.labels.TheConstants.{PULSE_LOW, PULSE_HIGH, TEMPO, FILTER_POINTER}
use Rattle.player_memory.specs.declared.labels.TheConstants.{FILTER_TIME, FILTER_TYPE, FILTER_CONTROL, CUTOFF, VOLUME}
use Rattle.player_memory.specs.declared.labels.TheConstants.{FUNK_ONE, FUNK_TWO, REST, OFFSET, PATTERN_LOW}
use Rattle.player_memory.specs.declared.labels.TheConstants.{PATTERN_HIGH, ORDER_LOW, ORDER_HIGH, ORDER_PLACE}
use Rattle.player_memory.specs.declared.labels.TheConstants.{TRANSPOSE, REPEAT, LENT, KEPT_COMMAND, KEPT_PARAM}
use Rattle.player_memory.specs.declared.labels.TheConstants.{SLIDES_LOW, SLIDES_HIGH}
use Rattle.player_memory.specs.declared.variables.TheConstants.{SONG_BYTES}
use Rattle.player_memory.specs.Labels.{is_own, is_shared}
use Rattle.player_memory.specs.Rooms.{IsRoom, IsElsewhere, MayUse}
use Rattle.player_memory.specs.Playing.{own_at, shared_at, IsListed, IsAlone, IsPlaying, IsAtVoice, AreSame, Plays}
use Rattle.player_memory.specs.Playing.{PlaysButSlides, AllSlidesStay, OthersStay}
use Rattle.player_desk.proofs.VoiceDesks.{VoiceDesk, Reader, Leads}
use Rattle.player_desk.proofs.Spots.{Own, Shared as SharedSpot, Sid, Tempo, Others, Elsewhere, LowSpot, HighSpot}
use Rattle.player_desk.proofs.Spots.{Slide}
use Rattle.scopes.specs.declared.line.Half.TheVariants.{Low, High}
use Rattle.player_desk.proofs.Spots.{Spot, IsSpot, spot_place, spot_byte}
use Rattle.player_desk.proofs.Showing.{Shows, Ground}
use Rattle.player_desk.proofs.Leading.{At, led}
use Rattle.player_desk.proofs.Places.{spot_at, IsSameAt, same_byte}
use Rattle.player_desk.proofs.Joining.{ends}
use Rattle.player_desk.proofs.Following.{leads_on}
use Rattle.player_desk.proofs.SlidesStay.{leaves_slides, SameSlides, with_slides, slides_stay}
use Rattle.player_desk.proofs.Reading.{Reads, place_at}
use Rattle.player_desk.proofs.Views.{Fields, Shared, Lent, SameSong, Done as IsDone}
use Rattle.player_desk.proofs.Views.{fields_of, fields_stand, shared_of, shared_stand}

-- ---- before a block

-- what the code may read, and leaves
pub record IsFound (layout : Layout) (rows place : ℕ) : Type 0 where
  pub elsewhere : IsElsewhere layout rows place
  pub reads : layout.may_read place ≡ true

abbrev pub reader_of : Layout → ℕ → ℕ → Desk → Reader
reader_of layout rows voice desk =
    record { layout = layout; voice = voice; rows = rows; before = desk.at; IsFound = IsFound layout rows }

abbrev pub voice_desk : Layout → ℕ → Desk → VoiceDesk
voice_desk layout voice desk = record {
  own = own_at layout desk.at voice;
  shared = shared_at layout desk.at;
  low = desk.at layout.pointer;
  high = desk.at (layout.pointer + 1);
  slide_low = λ row. desk.at (layout.address SLIDES_LOW + row);
  slide_high = λ row. desk.at (layout.address SLIDES_HIGH + row);
  sid = λ register. desk.at (0xD400 + register);
  a = desk.cpu.a;
  y = desk.cpu.y;
  c = desk.cpu.c;
  z = desk.cpu.z;
  n = desk.cpu.n;
}

abbrev pub lent_of : Layout → Desk → Lent
lent_of layout desk = record {
  lent = shared_at layout desk.at LENT;
  command = shared_at layout desk.at KEPT_COMMAND;
  param = shared_at layout desk.at KEPT_PARAM;
}

pub ground_of : (layout : Layout) (rows voice : ℕ) (desk : Desk) → IsRoom layout rows → MayUse layout rows → voice < 3 →
    Ground (reader_of layout rows voice desk)
ground_of layout rows voice desk room uses three = record {
  room = room;
  uses = uses;
  voice = three;
  found = λ place is. is.elsewhere;
  reads_found = λ place is. is.reads;
}

pub spots_are : (layout : Layout) (rows voice : ℕ) (desk : Desk) (s : Spot) → IsSpot
    (reader_of layout rows voice desk) s →
    desk.at (spot_place (reader_of layout rows voice desk) s)
    ≡ spot_byte (reader_of layout rows voice desk) s (voice_desk layout voice desk)
spots_are layout rows voice desk (Own label) is = refl
spots_are layout rows voice desk (SharedSpot label) is = refl
spots_are layout rows voice desk LowSpot is = refl
spots_are layout rows voice desk HighSpot is = refl
spots_are layout rows voice desk (Sid register) is = refl
spots_are layout rows voice desk (Slide Low row) is = refl
spots_are layout rows voice desk (Slide High row) is = refl
spots_are layout rows voice desk (Tempo its) is = refl
spots_are layout rows voice desk (Others label its) is = refl
spots_are layout rows voice desk (Elsewhere place) is = refl

pub shows_desk : (layout : Layout) (rows voice : ℕ) (desk : Desk) → IsAtVoice voice desk →
    Shows true (reader_of layout rows voice desk) desk (voice_desk layout voice desk)
shows_desk layout rows voice desk at = record {
  memory = spots_are layout rows voice desk;
  a = refl;
  y = refl;
  c = refl;
  z = refl;
  n = refl;
  x = λ voiced. at.x;
  decimal = at.decimal;
}

-- a byte of a list is found
pub finds : (layout : Layout) (rows voice : ℕ) (desk : Desk) (label number byte : ℕ) →
    IsListed layout rows desk.at label number byte →
    Reads (reader_of layout rows voice desk) (place_at (reader_of layout rows voice desk) label number) byte
finds layout rows voice desk label number byte listed =
    record { found = record { elsewhere = listed.elsewhere; reads = listed.reads }; is = listed.is }

-- and so is one that stands alone
pub finds_alone : (layout : Layout) (rows voice : ℕ) (desk : Desk) (label byte : ℕ) →
    IsAlone layout rows desk.at label byte →
    Reads (reader_of layout rows voice desk) (layout.address label) byte
finds_alone layout rows voice desk label byte has =
    record { found = record { elsewhere = has.elsewhere; reads = has.reads }; is = has.is }

-- the voice that is playing stands on its desk
pub begins : (layout : Layout) (voice : ℕ) (desk : Desk) (s : Playing) → IsPlaying layout voice s desk.at →
    IsDone layout.holds voice s (lent_of layout desk) (voice_desk layout voice desk) (voice_desk layout voice desk)
begins layout voice desk s plays = record {
  fields = fields_of layout.holds s.voice (tempo_of (voice + 1) s.common) (own_at layout desk.at voice) plays.own;
  common = shared_of layout.holds s.common (shared_at layout desk.at) plays.common;
  tempos = λ its three other. plays.tempos its three;
  lent = record { lent = refl; command = λ some. refl; param = λ some. refl };
  song = record {
    rest = refl;
    offset = refl;
    pattern_low = refl;
    pattern_high = refl;
    order_low = refl;
    order_high = refl;
    order_place = refl;
    transpose = refl;
    repeat = refl;
  };
  sid = refl;
}

-- ---- behind it

-- the same bytes under another name
pub fields_at : (holds : ℕ → Bool) (v : Voice) (tempo : ℕ) (own other : ℕ → ℕ) →
    ((label : ℕ) → is_own label ≡ true → other label ≡ own label) →
    Fields holds v tempo own → Fields holds v tempo other
fields_at holds v tempo own other same f = record {
  tick = same TICK refl ∙ f.tick;
  gate_timer = λ kept. same GATE_TIMER refl ∙ f.gate_timer kept;
  instrument = same INSTRUMENT refl ∙ f.instrument;
  note = same NOTE refl ∙ f.note;
  new_note = same NEW_NOTE refl ∙ f.new_note;
  new_command = λ on. same NEW_COMMAND refl ∙ f.new_command on;
  new_param = λ on some. same NEW_PARAM refl ∙ f.new_param on some;
  command = λ on. same COMMAND refl ∙ f.command on;
  param = λ on. same PARAM refl ∙ f.param on;
  ad = same AD refl ∙ f.ad;
  sr = same SR refl ∙ f.sr;
  vib_time = λ on. same VIB_TIME refl ∙ f.vib_time on;
  vib_delay = λ on. same VIB_DELAY refl ∙ f.vib_delay on;
  wave = same WAVE refl ∙ f.wave;
  gate = same GATE refl ∙ f.gate;
  freq_low = same FREQ_LOW refl ∙ f.freq_low;
  freq_high = same FREQ_HIGH refl ∙ f.freq_high;
  last_note = λ on. same LAST_NOTE refl ∙ f.last_note on;
  wave_ptr = same WAVE_POINTER refl ∙ f.wave_ptr;
  wave_time = λ on. same WAVE_TIME refl ∙ f.wave_time on;
  pulse_ptr = same PULSE_POINTER refl ∙ f.pulse_ptr;
  pulse_time = same PULSE_TIME refl ∙ f.pulse_time;
  pulse_low = λ on. same PULSE_LOW refl ∙ f.pulse_low on;
  no_pulse_low = f.no_pulse_low;
  pulse_high = λ on. ap (λ byte. byte % 16) (same PULSE_HIGH refl) ∙ f.pulse_high on;
  no_pulse_high = f.no_pulse_high;
  tempo_is = same TEMPO refl ∙ f.tempo_is;
}

pub shared_here : (holds : ℕ → Bool) (c : Common) (shared other : ℕ → ℕ) →
    ((label : ℕ) → is_shared label ≡ true → other label ≡ shared label) → Shared holds c shared →
    Shared holds c other
shared_here holds c shared other same f = record {
  filter_ptr = same FILTER_POINTER refl ∙ f.filter_ptr;
  filter_time = same FILTER_TIME refl ∙ f.filter_time;
  filter_type = λ on. same FILTER_TYPE refl ∙ f.filter_type on;
  no_filter_type = f.no_filter_type;
  filter_control = λ on. same FILTER_CONTROL refl ∙ f.filter_control on;
  no_filter_control = f.no_filter_control;
  cutoff = λ on. same CUTOFF refl ∙ f.cutoff on;
  no_cutoff = f.no_cutoff;
  volume = λ on. same VOLUME refl ∙ f.volume on;
  no_volume = f.no_volume;
  funk_one = λ on. same FUNK_ONE refl ∙ f.funk_one on;
  funk_two = λ on. same FUNK_TWO refl ∙ f.funk_two on;
}

song_at : (own other before : ℕ → ℕ) → ((label : ℕ) → is_own label ≡ true → other label ≡ own label) →
    SameSong own before → AreSame SONG_BYTES other before
song_at own other before same s =
    let rest = same REST refl ∙ s.rest in
    let offset = same OFFSET refl ∙ s.offset in
    let pattern_low = same PATTERN_LOW refl ∙ s.pattern_low in
    let pattern_high = same PATTERN_HIGH refl ∙ s.pattern_high in
    let order_low = same ORDER_LOW refl ∙ s.order_low in
    let order_high = same ORDER_HIGH refl ∙ s.order_high in
    let order_place = same ORDER_PLACE refl ∙ s.order_place in
    let transpose = same TRANSPOSE refl ∙ s.transpose in
    let repeat = same REPEAT refl ∙ s.repeat in
    assumption (rest, offset, pattern_low, pattern_high, order_low, order_high, order_place, transpose, repeat)

-- what the desk tells of a state stands in the memory that shows it
pub is_playing : (layout : Layout) (rows voice : ℕ) (before : Desk) (t : Playing) (after : Desk) (m : VoiceDesk) →
    Shows true (reader_of layout rows voice before) after m →
    Fields layout.holds t.voice (tempo_of (voice + 1) t.common) m.own → Shared layout.holds t.common m.shared →
    ((its : ℕ) → its < 3 → its ≢ voice → m.shared (TEMPO + 7 * its) ≡ tempo_of (its + 1) t.common) →
    IsPlaying layout voice t after.at
is_playing layout rows voice before t after m shows fields common others = record {
  own = fields_stand layout.holds t.voice (tempo_of (voice + 1) t.common) _ here;
  common = shared_stand layout.holds t.common _
      (shared_here layout.holds t.common m.shared _ (λ label is. shows.memory (SharedSpot label) is) common);
  tempos = tempos;
}
  where
    here : Fields layout.holds t.voice (tempo_of (voice + 1) t.common) (own_at layout after.at voice)
    here =
        fields_at layout.holds t.voice (tempo_of (voice + 1) t.common) m.own _
        (λ label is. shows.memory (Own label) is) fields

    tempos : (its : ℕ) → its < 3 → own_at layout after.at its TEMPO ≡ tempo_of (its + 1) t.common
    tempos its few =
        elim (eqb_tells its voice) [
          | inl same ↦
              subst (λ n. own_at layout after.at n TEMPO ≡ tempo_of (n + 1) t.common) (sym same.1) here.tempo_is
          | inr other ↦ shows.memory (Tempo its) (few, other.1) ∙ others its few other.1
        ]

-- so does where the voice is in its song
pub song_stays : (layout : Layout) (rows voice : ℕ) (before after : Desk) (m : VoiceDesk) →
    Shows true (reader_of layout rows voice before) after m → SameSong m.own (own_at layout before.at voice) →
    AreSame SONG_BYTES (own_at layout after.at voice) (own_at layout before.at voice)
song_stays layout rows voice before after m shows same =
    song_at m.own _ _ (λ label is. shows.memory (Own label) is) same

-- what a voice's code leaves whatever it does, but for the registers
pub others_stay : (layout : Layout) (rows voice : ℕ) (before after : Desk) (m : VoiceDesk) →
    Shows true (reader_of layout rows voice before) after m → m.sid ≡ (voice_desk layout voice before).sid →
    OthersStay layout rows voice before.at after.at
others_stay layout rows voice before after m shows sid = record {
  others = λ its label few other is not_tempo. shows.memory (Others label its) (is, few, other, not_tempo);
  registers = λ register few. shows.memory (Sid register) few ∙ ap (λ bytes. bytes register) sid;
  elsewhere = λ place away. shows.memory (Elsewhere place) away;
}

-- and the slides, where they are as before on the desk
pub all_slides_stay : (layout : Layout) (rows voice : ℕ) (before after : Desk) (m : VoiceDesk) →
    Shows true (reader_of layout rows voice before) after m → SameSlides (voice_desk layout voice before) m →
    AllSlidesStay layout rows after.at before.at
all_slides_stay layout rows voice before after m shows same kept row few = record {
  low = shows.memory (Slide Low row) (kept, few) ∙ ap (λ slides. slides row) same.low;
  high = shows.memory (Slide High row) (kept, few) ∙ ap (λ slides. slides row) same.high;
}

-- ---- whatever a block is for

-- A block has come to its end with a desk of which Q holds. What is as it was on the desk is as it was in memory.
pub record Came (layout : Layout) (rows voice : ℕ) (desk : Desk) (Q : VoiceDesk → Type 0) (run : Ran) : Type 0 where
  pub ends : run.outcome ≡ Done
  pub at_voice : IsAtVoice voice run.desk
  pub after : VoiceDesk
  pub shows : Shows true (reader_of layout rows voice desk) run.desk after
  pub holds : Q after
  pub stays : (place : ℕ) → IsSameAt (reader_of layout rows voice desk) (voice_desk layout voice desk) after place →
      run.desk.at place ≡ desk.at place

pub came : (layout : Layout) (rows voice : ℕ) (desk : Desk) (Q : VoiceDesk → Type 0) (run : Ran) (after : VoiceDesk) →
    IsRoom layout rows → run.outcome ≡ Done → Shows true (reader_of layout rows voice desk) run.desk after → Q after →
    Came layout rows voice desk Q run
came layout rows voice desk Q run after room is shows holds = record {
  ends = is;
  at_voice = record { x = shows.x refl; decimal = shows.decimal };
  after = after;
  shows = shows;
  holds = holds;
  stays = λ place same.
      let p = spot_at (reader_of layout rows voice desk) place in
      ap run.desk.at p.at
      ∙ (shows.memory p.spot p.is
      ∙ (same_byte (reader_of layout rows voice desk) (voice_desk layout voice desk) after place same p.spot p.at
      ∙ sym (ap desk.at p.at ∙ spots_are layout rows voice desk p.spot p.is)));
}

-- what leads to an end alone has come there
pub record AtEnd (Q : VoiceDesk → Type 0) (outcome : Outcome) (d : VoiceDesk) : Type 0 where
  pub is : outcome ≡ Done
  pub holds : Q d

pub at_end : (Q : VoiceDesk → Type 0) (outcome : Outcome) (d : VoiceDesk) → At (ends Q) outcome d → AtEnd Q outcome d
at_end Q Done d way = record { is = refl; holds = way }
at_end Q (Left name) d never = elim never [ ]
at_end Q Again d never = elim never [ ]
at_end Q Stuck d never = elim never [ ]

pub comes : (layout : Layout) (rows voice : ℕ) (tree : Tree) (desk : Desk) (Q : VoiceDesk → Type 0) →
    IsRoom layout rows → MayUse layout rows → voice < 3 → IsAtVoice voice desk →
    Leads (reader_of layout rows voice desk) tree (ends Q) (voice_desk layout voice desk) →
    Came layout rows voice desk Q (ran each_one layout tree desk)
comes layout rows voice tree desk Q room uses three at leads =
    let behind = led (ground_of layout rows voice desk room uses three) tree (ends Q) desk
    (voice_desk layout voice desk) (shows_desk layout rows voice desk at) leads in
    let end = at_end Q (ran each_one layout tree desk).outcome behind.after behind.way in
    came layout rows voice desk Q (ran each_one layout tree desk) behind.after room end.is behind.shows end.holds

-- ---- a rule's code

-- A block that has come to where a rule's code does leaves the state that the rule gives.
pub but_slides_so : (layout : Layout) (rows voice : ℕ) (desk : Desk) (Q : VoiceDesk → Type 0) (run : Ran)
    (t : Playing) → Came layout rows voice desk Q run →
    ((m : VoiceDesk) → Q m → IsDone layout.holds voice t (lent_of layout desk) (voice_desk layout voice desk) m) →
    PlaysButSlides layout rows voice desk run t
but_slides_so layout rows voice desk Q run t came does =
    let shows = came.shows in
    let done = does came.after came.holds in record {
      ends = came.ends;
      at_voice = came.at_voice;
      plays = is_playing layout rows voice desk t run.desk came.after shows done.fields done.common done.tempos;
      song = song_stays layout rows voice desk run.desk came.after shows done.song;
      lent = shows.memory (SharedSpot LENT) refl ∙ done.lent.lent;
      kept = λ some. (
        shows.memory (SharedSpot KEPT_COMMAND) refl ∙ done.lent.command some,
        (shows.memory (SharedSpot KEPT_PARAM) refl ∙ done.lent.param some, tt),
      );
      stays = others_stay layout rows voice desk run.desk came.after shows done.sid;
    }

-- one that stores no slide leaves the slides, too
abbrev pub Still : VoiceDesk → (VoiceDesk → Type 0) → VoiceDesk → Type 0
Still d Q m = SameSlides d m × Q m

pub still_ends : (r : Reader) (tree : Tree) (Q : VoiceDesk → Type 0) (d : VoiceDesk) → leaves_slides tree ≡ true →
    Leads r tree (ends Q) d → Leads r tree (ends (Still d Q)) d
still_ends r tree Q d leaves leads =
    leads_on true r tree (with_slides d (ends Q)) (ends (Still d Q)) d
    (record { done = λ m q. q; left = λ name m q. q.1; again = λ m q. q.1 })
    (slides_stay true r tree (ends Q) d leaves leads)

pub plays_so : (layout : Layout) (rows voice : ℕ) (desk : Desk) (Q : VoiceDesk → Type 0) (run : Ran) (t : Playing) →
    Came layout rows voice desk (Still (voice_desk layout voice desk) Q) run →
    ((m : VoiceDesk) → Q m → IsDone layout.holds voice t (lent_of layout desk) (voice_desk layout voice desk) m) →
    Plays layout rows voice desk run t
plays_so layout rows voice desk Q run t came does = record {
  but_slides = but_slides_so layout rows voice desk (Still (voice_desk layout voice desk) Q) run t came
      (λ m q. does m q.1);
  slides = all_slides_stay layout rows voice desk run.desk came.after came.shows came.holds.0;
}

pub plays : (layout : Layout) (rows voice : ℕ) (tree : Tree) (desk : Desk) (t : Playing) →
    leaves_slides tree ≡ true → IsRoom layout rows → MayUse layout rows → voice < 3 → IsAtVoice voice desk →
    Leads (reader_of layout rows voice desk) tree
    (ends (IsDone layout.holds voice t (lent_of layout desk) (voice_desk layout voice desk)))
    (voice_desk layout voice desk) →
    Plays layout rows voice desk (ran each_one layout tree desk) t
plays layout rows voice tree desk t leaves room uses three at leads =
    plays_so layout rows voice desk Q (ran each_one layout tree desk) t
    (comes layout rows voice tree desk (Still (voice_desk layout voice desk) Q) room uses three at
    (still_ends (reader_of layout rows voice desk) tree Q (voice_desk layout voice desk) leaves leads)) (λ m q. q)
  where
    Q : VoiceDesk → Type 0
    Q = IsDone layout.holds voice t (lent_of layout desk) (voice_desk layout voice desk)
