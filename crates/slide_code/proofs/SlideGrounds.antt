-- What the code of the effect step stands on, and where its ways lead.
use Rattle.std.proofs.Common.{◌≡◌, ℕ, ◌+◌, ◌/◌, ◌%◌, ◌<◌, ◌≤◌, Bool, true, false, nat_eq}
use Rattle.std.proofs.Common.{refl}
use Rattle.song_model.specs.declared.tables.TableName.TheVariants.{Speed}
use Rattle.play_model.specs.LookUps.{LookUps}
use Rattle.play_model.specs.Freq.{freq, slide}
use Rattle.play_model.specs.State.{Voice, Playing}
use Rattle.play_model.specs.Wrap.{freq_plus, freq_minus}
use Rattle.play_model.specs.Helpers.{at_target}
use Rattle.play_model.specs.WaveStep.{with_note}
use Rattle.asked_numbers.specs.declared.range.NumberRange.{NumberRange}
use Rattle.asked_numbers.specs.Range.{IsInRange}
use Rattle.player_memory.specs.declared.labels.TheConstants.{SLIDES_LOW, SLIDES_HIGH, PERIODS, SPEED_LEFTS}
use Rattle.player_memory.specs.declared.labels.TheConstants.{SPEED_RIGHTS}
use Rattle.player_memory.specs.declared.labels.TheConstants.{FREQUENCY_LOWS, FREQUENCY_HIGHS}
use Rattle.player_memory.specs.declared.labels.TheConstants.{NEXT_FREQUENCY_LOWS, NEXT_FREQUENCY_HIGHS}
use Rattle.player_memory.specs.declared.conditions.TheConstants.{NOTE_DEPENDENT, EFFECTS}
use Rattle.player_memory.specs.declared.conditions.TheConstants.{CLIMB, DROP, RISE, SINK, FOUND_NOTE}
use Rattle.player_desk.proofs.Laws.{VoiceDesk, Reader, Ways, Lent, Done, Reads, place_at, listed}
use Rattle.player_desk.proofs.Laws.{EntryLeads, LowSlide, HighSlide, done_as, in_scope}
use Rattle.player_desk.proofs.VoiceDesks.{Either}
use Rattle.player_text.specs.declared.joints.TheConstants.{EFFECTED, FOUND, FALLS, DOWN, RISES, UP}
use Rattle.slide_code.specs.SlideBlock.{moved_by, arrives, NeedsSpeed, KeepsSlide, KeepsCommon, LooksUpWithin}
use Rattle.player_memory.specs.Playing.{with_voice}

-- ---- slides

-- where the slide of a row stands, where speeds are calculated
pub record SlidePlaces (r : Reader) (p : ℕ) : Type 0 where
  pub row : r.layout.holds NOTE_DEPENDENT ≡ true → p < r.rows
  pub low : r.layout.holds NOTE_DEPENDENT ≡ true → place_at r SLIDES_LOW p ≡ r.layout.address SLIDES_LOW + p
  pub high : r.layout.holds NOTE_DEPENDENT ≡ true → place_at r SLIDES_HIGH p ≡ r.layout.address SLIDES_HIGH + p

-- a byte of the slide of a row: one of the slides, where speeds are calculated, else one of a list
pub record IsSlide (r : Reader) (label p : ℕ) (slides : ℕ → ℕ) (byte : ℕ) : Type 0 where
  pub own : r.layout.holds NOTE_DEPENDENT ≡ true → slides p ≡ byte
  pub in_list : r.layout.holds NOTE_DEPENDENT ≡ false → Reads r (place_at r label p) byte

pub low_read : {r : Reader} {Q : ℕ → Type 0} {d : VoiceDesk} (p byte : ℕ) → SlidePlaces r p →
    IsSlide r SLIDES_LOW p d.slide_low byte → d.y ≡ p → ((b : ℕ) → b ≡ byte → Q b) →
    EntryLeads r ((r.layout.address SLIDES_LOW + d.y) % 65536) Q d
low_read {r = r} {Q = Q} {d = d} p byte places is y follows = by_kept (r.layout.holds NOTE_DEPENDENT) refl
  where
    by_kept : (z : Bool) → r.layout.holds NOTE_DEPENDENT ≡ z →
        EntryLeads r ((r.layout.address SLIDES_LOW + d.y) % 65536) Q d
    by_kept true kept = rw y (LowSlide p kept (places.row kept) (places.low kept)
        (follows (d.slide_low p) (is.own kept)))
    by_kept false none = listed SLIDES_LOW p byte (is.in_list none) y follows

pub high_read : {r : Reader} {Q : ℕ → Type 0} {d : VoiceDesk} (p byte : ℕ) → SlidePlaces r p →
    IsSlide r SLIDES_HIGH p d.slide_high byte → d.y ≡ p → ((b : ℕ) → b ≡ byte → Q b) →
    EntryLeads r ((r.layout.address SLIDES_HIGH + d.y) % 65536) Q d
high_read {r = r} {Q = Q} {d = d} p byte places is y follows = by_kept (r.layout.holds NOTE_DEPENDENT) refl
  where
    by_kept : (z : Bool) → r.layout.holds NOTE_DEPENDENT ≡ z →
        EntryLeads r ((r.layout.address SLIDES_HIGH + d.y) % 65536) Q d
    by_kept true kept =
        rw y (HighSlide p kept (places.row kept) (places.high kept) (follows (d.slide_high p) (is.own kept)))
    by_kept false none = listed SLIDES_HIGH p byte (is.in_list none) y follows

-- ---- what the code stands on

-- the bytes of the frequencies of a range, and these beside the number before
pub record NotesAt (r : Reader) (range : NumberRange) : Type 0 where
  pub low : (n : ℕ) → IsInRange range n → Reads r (place_at r FREQUENCY_LOWS n) (freq n % 256)
  pub high : (n : ℕ) → IsInRange range n → Reads r (place_at r FREQUENCY_HIGHS n) (freq n / 256)
  pub next_low : (n : ℕ) → IsInRange range (n + 1) →
      Reads r (place_at r NEXT_FREQUENCY_LOWS n) (freq (n + 1) % 256)
  pub next_high : (n : ℕ) → IsInRange range (n + 1) →
      Reads r (place_at r NEXT_FREQUENCY_HIGHS n) (freq (n + 1) / 256)

-- A row of the speed table, and on a desk its slide, which is the row's sides, unless the left one says that the speed
-- is calculated.
pub record SpeedAt (r : Reader) (look : LookUps) (p : ℕ) (m : VoiceDesk) : Type 0 where
  pub left : Reads r (place_at r SPEED_LEFTS p) (look.row Speed p).left
  pub right : Reads r (place_at r SPEED_RIGHTS p) (look.row Speed p).right
  pub period : (128 ≤ (look.row Speed p).left → r.layout.holds NOTE_DEPENDENT ≡ true) →
      Reads r (place_at r PERIODS p) ((look.row Speed p).left % 128)
  pub left_byte : (look.row Speed p).left < 256
  pub right_byte : (look.row Speed p).right < 256
  pub places : SlidePlaces r p
  pub low : (look.row Speed p).left < 128 → IsSlide r SLIDES_LOW p m.slide_low (look.row Speed p).right
  pub high : (look.row Speed p).left < 128 → IsSlide r SLIDES_HIGH p m.slide_high (look.row Speed p).left

-- ---- where its ways lead

-- a command that runs: the numbers that are listed, the voice, what is lent, the desk before its frame, and the one on
-- which the block begins
pub record Running : Type 1 where
  pub r : Reader
  pub range : NumberRange
  pub look : LookUps
  pub s : Playing
  pub handed : Lent
  pub d : VoiceDesk
  pub before : VoiceDesk
  pub command : ℕ

-- what the command's rule leaves
abbrev pub moved : Running → Voice
moved g = moved_by g.command g.look g.s.voice

-- the slides of rows whose left side is below $80 are as before
pub record SlidesLeft (look : LookUps) (before m : VoiceDesk) : Type 0 where
  pub low : (row : ℕ) → (look.row Speed row).left < 128 → m.slide_low row ≡ before.slide_low row
  pub high : (row : ℕ) → (look.row Speed row).left < 128 → m.slide_high row ≡ before.slide_high row

-- the desk tells this voice
pub record Tells (g : Running) (v : Voice) (m : VoiceDesk) : Type 0 where
  pub done : Done g.r.layout.holds g.r.voice (with_voice v g.s) g.handed g.d m
  pub slides : SlidesLeft g.look g.before m

-- the frequency arrives: A is a note's number, and the rule sets that note
pub record Pitched (g : Running) (m : VoiceDesk) : Type 0 where
  pub tells : Tells g g.s.voice m
  pub arrives : arrives g.command g.look g.s.voice ≡ true
  pub number : m.a ≡ g.s.voice.note % 128
  pub is : moved g ≡ with_note m.a g.s.voice

-- it doesn't, and what the rule leaves is told
pub record Effected (g : Running) (m : VoiceDesk) : Type 0 where
  pub tells : Tells g (moved g) m
  pub passes : arrives g.command g.look g.s.voice ≡ false

-- the block's end is come to where the frequency arrives at the note; else it leaves EFFECTED
abbrev pub slide_ways : Running → Ways
slide_ways g = record {
  Done = Pitched g;
  Left = λ name m. Either (nat_eq name EFFECTED) (Effected g m) ⊥;
  Again = λ m. ⊥;
}

-- ---- on the way

-- the voice with this vibrato's time and frequency
abbrev pub set_at : ℕ → ℕ → Voice → Voice
set_at time word v = record v { vib_time = time; freq = word }

-- the slide has reached the note
pub record AtFound (g : Running) (m : VoiceDesk) : Type 0 where
  pub tells : Tells g g.s.voice m
  pub arrives : arrives g.command g.look g.s.voice ≡ true
  pub is : moved g ≡ at_target (freq g.s.voice.note) g.s.voice
  pub kept : g.r.layout.holds FOUND_NOTE ≡ true

-- the frequency goes up or down by the low byte of the slide at Y
pub record AtRises (g : Running) (m : VoiceDesk) : Type 0 where
  pub time : ℕ
  pub word : ℕ
  pub byte : ℕ
  pub tells : Tells g (set_at time word g.s.voice) m
  pub y : m.y ≡ g.s.voice.param
  pub carry : m.c ≡ false
  pub small : word < 65536
  pub few : byte < 256
  pub low : IsSlide g.r SLIDES_LOW g.s.voice.param m.slide_low byte
  pub is : moved g ≡ set_at time (freq_plus word byte) g.s.voice
  pub passes : arrives g.command g.look g.s.voice ≡ false
  pub kept : g.r.layout.holds RISE ≡ true

pub record AtFalls (g : Running) (m : VoiceDesk) : Type 0 where
  pub time : ℕ
  pub word : ℕ
  pub byte : ℕ
  pub tells : Tells g (set_at time word g.s.voice) m
  pub y : m.y ≡ g.s.voice.param
  pub carry : m.c ≡ true
  pub small : word < 65536
  pub few : byte < 256
  pub low : IsSlide g.r SLIDES_LOW g.s.voice.param m.slide_low byte
  pub is : moved g ≡ set_at time (freq_minus word byte) g.s.voice
  pub passes : arrives g.command g.look g.s.voice ≡ false
  pub kept : g.r.layout.holds SINK ≡ true

-- the slide at Y is this speed
pub record HasSpeed (g : Running) (speed : ℕ) (m : VoiceDesk) : Type 0 where
  pub low : IsSlide g.r SLIDES_LOW g.s.voice.param m.slide_low (speed % 256)
  pub high : IsSlide g.r SLIDES_HIGH g.s.voice.param m.slide_high (speed / 256)
  pub small : speed < 65536

-- it goes up or down by it
pub record AtUp (g : Running) (m : VoiceDesk) : Type 0 where
  pub time : ℕ
  pub speed : ℕ
  pub tells : Tells g (set_at time g.s.voice.freq g.s.voice) m
  pub y : m.y ≡ g.s.voice.param
  pub carry : m.c ≡ false
  pub has : HasSpeed g speed m
  pub is : moved g ≡ set_at time (freq_plus g.s.voice.freq speed) g.s.voice
  pub passes : arrives g.command g.look g.s.voice ≡ false
  pub climbs : g.r.layout.holds CLIMB ≡ true
  pub rises : g.r.layout.holds RISE ≡ true

pub record AtDown (g : Running) (m : VoiceDesk) : Type 0 where
  pub time : ℕ
  pub speed : ℕ
  pub tells : Tells g (set_at time g.s.voice.freq g.s.voice) m
  pub y : m.y ≡ g.s.voice.param
  pub carry : m.c ≡ true
  pub has : HasSpeed g speed m
  pub is : moved g ≡ set_at time (freq_minus g.s.voice.freq speed) g.s.voice
  pub passes : arrives g.command g.look g.s.voice ≡ false
  pub drops : g.r.layout.holds DROP ≡ true
  pub sinks : g.r.layout.holds SINK ≡ true

-- the ways of each scope's lines
abbrev pub found_ways : Running → Ways
found_ways g = in_scope FOUND (done_as (AtFound g) (slide_ways g))

abbrev pub falls_ways : Running → Ways
falls_ways g = in_scope FALLS (done_as (AtFalls g) (found_ways g))

abbrev pub down_ways : Running → Ways
down_ways g = in_scope DOWN (done_as (AtDown g) (falls_ways g))

abbrev pub rises_ways : Running → Ways
rises_ways g = in_scope RISES (done_as (AtRises g) (down_ways g))

abbrev pub up_ways : Running → Ways
up_ways g = in_scope UP (done_as (AtUp g) (rises_ways g))

-- A is the command and Y its parameter, whose slide stands where it is needed
pub record AtNamed (g : Running) (m : VoiceDesk) : Type 0 where
  pub tells : Tells g g.s.voice m
  pub a : m.a ≡ g.command
  pub y : m.y ≡ g.s.voice.param
  pub has : NeedsSpeed g.command g.s.voice.param → HasSpeed g (slide g.look g.s.voice.param g.s.voice.last_note) m

-- what all of the code stands on
pub record Stands (g : Running) : Type 0 where
  pub notes : NotesAt g.r g.range
  pub looks : LooksUpWithin g.range g.look g.command g.s.voice
  -- the note's number has its frequency
  pub sounds : freq (g.s.voice.note % 128) ≡ freq g.s.voice.note
  pub row : SpeedAt g.r g.look g.s.voice.param g.before
  pub keeps : KeepsSlide g.r.layout g.look g.command g.s.voice
  pub common : KeepsCommon g.r.layout
  pub effects : g.r.layout.holds EFFECTS ≡ true
  pub small : g.s.voice.freq < 65536
  pub param : g.s.voice.param < 256
  pub least : 1 ≤ g.command
  pub most : g.command ≤ 4
