-- The variables with which an image begins, computed byte by byte.
use Rattle.std.proofs.Common.{◌≡◌, ℕ, zero, suc, ◌+◌, ◌/◌, ◌%◌, ◌<◌, List, replicate}
use Rattle.std.proofs.Common.{slice_index, slice_set, arith}
use Rattle.player_memory.specs.declared.labels.TheConstants.{ORDER_LOW, ORDER_HIGH, TICK, INSTRUMENT, VIB_DELAY, GATE}
use Rattle.player_memory.specs.declared.labels.TheConstants.{TEMPO, VOLUME, FUNK_ONE, FUNK_TWO, VARIABLES}
use Rattle.player_memory.specs.Playing.{own_at}
use Rattle.player_memory.specs.Starting.{VoiceBegins, Begins}
use Rattle.player_text.specs.declared.texts.Start.{Start}
use Rattle.player_image.specs.Images.{numbered, HaveNoPattern}
use Rattle.player_image.proofs.variables.start_variables.Goals as goal

-- with the bytes of a voice that don't begin with 0
abbrev with_voice : ℕ → ℕ → ℕ → List ℕ → List ℕ
with_voice behind order tempo bytes =
    slice_set (slice_set (slice_set (slice_set (slice_set (slice_set (slice_set bytes
    (ORDER_LOW + behind) (order % 256)) (ORDER_HIGH + behind) (order / 256))
    (TICK + behind) 1) (INSTRUMENT + behind) 1) (VIB_DELAY + behind) 255)
    (GATE + behind) 0xFE) (TEMPO + behind) tempo

-- and with those of no voice
abbrev with_shared : ℕ → ℕ → List ℕ → List ℕ
with_shared tempo funk bytes = slice_set (slice_set (slice_set bytes VOLUME 15) FUNK_ONE funk) FUNK_TWO tempo

abbrev all_begun : ℕ → ℕ → List ℕ → List ℕ
all_begun tempo funk orders =
    with_shared tempo funk
    (with_voice 14 (slice_index orders 2) tempo
    (with_voice 7 (slice_index orders 1) tempo
    (with_voice 0 (slice_index orders 0) tempo (replicate VARIABLES 0))))

each : (tempo funk : ℕ) (orders : List ℕ) (voice : ℕ) → voice < 3 →
    VoiceBegins numbered.holds tempo (slice_index orders voice)
    (own_at numbered (slice_index (all_begun tempo funk orders)) voice)
each tempo funk orders zero few = assumption
each tempo funk orders (suc zero) few = assumption
each tempo funk orders (suc (suc zero)) few = assumption
each tempo funk orders (suc (suc (suc more))) few = absurd (omega (arith, few))

begun : (tempo funk : ℕ) (orders : List ℕ) →
    Begins numbered tempo funk (slice_index orders) (slice_index (all_begun tempo funk orders))
begun tempo funk orders = record { voices = each tempo funk orders; common = assumption; handed = assumption }

-- so they do where each voice's bytes are set in turn, with the numbers of a start
set_in_turn : (its start : Start) (orders one two three : List ℕ) → its ≡ start →
    one ≡ with_voice 0 (slice_index orders 0) its.tempo (replicate VARIABLES 0) →
    two ≡ with_voice 7 (slice_index orders 1) its.tempo one →
    three ≡ with_voice 14 (slice_index orders 2) its.tempo two →
    Begins numbered start.tempo start.funk (slice_index orders) (slice_index (with_shared its.tempo its.funk three))
set_in_turn its start orders one two three same first second third =
    rw third (rw second (rw first (rw same (begun start.tempo start.funk orders))))

-- no voice has a pattern
no_pattern : (tempo funk : ℕ) (orders : List ℕ) → HaveNoPattern (slice_index (all_begun tempo funk orders))
no_pattern tempo funk orders zero few = assumption
no_pattern tempo funk orders (suc zero) few = assumption
no_pattern tempo funk orders (suc (suc zero)) few = assumption
no_pattern tempo funk orders (suc (suc (suc more))) few = absurd (omega (arith, few))

none_in_turn : (its : Start) (orders one two three : List ℕ) →
    one ≡ with_voice 0 (slice_index orders 0) its.tempo (replicate VARIABLES 0) →
    two ≡ with_voice 7 (slice_index orders 1) its.tempo one →
    three ≡ with_voice 14 (slice_index orders 2) its.tempo two →
    HaveNoPattern (slice_index (with_shared its.tempo its.funk three))
none_in_turn its orders one two three first second third =
    rw third (rw second (rw first (no_pattern its.tempo its.funk orders)))

pub returns-clause-begin : goal.returns-clause-begin
returns-clause-begin c =
    set_in_turn c.start_of-start.result _ c.args.orders c.begin_voice.new.variables c.begin_voice-2.new.variables
    c.begin_voice-3.new.variables c.start_of-start.ensures c.begin_voice.ensures c.begin_voice-2.ensures
    c.begin_voice-3.ensures

pub returns-clause-unplayed : goal.returns-clause-unplayed
returns-clause-unplayed c =
    none_in_turn c.start_of-start.result c.args.orders c.begin_voice.new.variables c.begin_voice-2.new.variables
    c.begin_voice-3.new.variables c.begin_voice.ensures c.begin_voice-2.ensures c.begin_voice-3.ensures
