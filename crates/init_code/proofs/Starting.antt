-- The whole block, in memory.
use Rattle.std.proofs.Common.{◌≡◌, ℕ, zero, suc, ◌+◌, ◌*◌, ◌<◌, ◌≤◌}
use Rattle.std.proofs.Common.{◌&&◌, Bool, true, nat_lt, List, [], ◌∷◌, if◌then◌else◌}
use Rattle.std.proofs.Common.{inl, inr, refl, ◌∙◌, arith}
use Rattle.std.proofs.lemmas.Bool.{and_parts, ltb-true}
use Rattle.scopes.specs.Desk.{Desk, Layout}
use Rattle.scopes.specs.Meaning.{Done, each_one, ran}
use Rattle.player_memory.specs.declared.conditions.TheConstants.{INSTRUMENT_VIBRATO, SET_VOLUME, FUNK_TEMPO}
use Rattle.player_memory.specs.declared.labels.TheConstants.{VARIABLES, FIRST_CLEARED, SLIDES_LOW, SLIDES_HIGH}
use Rattle.player_memory.specs.declared.variables.Kept.{Kept}
use Rattle.player_memory.specs.declared.variables.VoiceByte.{VoiceByte}
use Rattle.player_memory.specs.declared.variables.TheConstants.{VOICE_BYTES, FIRST_SONG_BYTES}
use Rattle.player_memory.specs.Rooms.{IsRoom, IsList}
use Rattle.player_memory.specs.Playing.{own_at}
use Rattle.player_memory.specs.Starting.{VoiceRowsBegin, SongRowsBegin, VoiceBegins, Begins}
use Rattle.player_text.specs.declared.texts.Start.{Start}
use Rattle.player_text.specs.Texts.{init_tree}
use Rattle.init_code.specs.InitBlock.{IsOutOf, MayClear, Starts, InitBlockStarts}
use Rattle.init_code.proofs.Going.{Goes}
use Rattle.init_code.proofs.Variables.{IsNoVariable}
use Rattle.init_code.proofs.Beginning.{IsBegun, cleared_variables, last_variables, block_begins}

-- ---- a voice's bytes, from the variables

abbrev voice_below : List (ℕ × VoiceByte × Kept) → Bool
voice_below [] = true
voice_below (row ∷ rows) = nat_lt row.0 99 && voice_below rows

abbrev song_below : List ℕ → Bool
song_below [] = true
song_below (label ∷ labels) = nat_lt label 99 && song_below labels

rows_begin : (holds : ℕ → Bool) (rows : List (ℕ × VoiceByte × Kept)) (tempo : ℕ) (own vars : ℕ → ℕ) →
    ((label : ℕ) → label < 99 → own label ≡ vars label) → voice_below rows ≡ true →
    VoiceRowsBegin holds rows tempo vars → VoiceRowsBegin holds rows tempo own
rows_begin holds [] tempo own vars same few begins = tt
rows_begin holds (row ∷ rows) tempo own vars same few begins =
    let parts = and_parts (nat_lt row.0 99) (voice_below rows) few in (
      λ on. same row.0 (ltb-true row.0 99 parts.0) ∙ begins.0 on,
      rows_begin holds rows tempo own vars same parts.1 begins.1,
    )

song_begins : (labels : List ℕ) (address : ℕ) (own vars : ℕ → ℕ) →
    ((label : ℕ) → label < 99 → own label ≡ vars label) → song_below labels ≡ true →
    SongRowsBegin labels address vars → SongRowsBegin labels address own
song_begins [] address own vars same few begins = tt
song_begins (label ∷ labels) address own vars same few begins =
    let parts = and_parts (nat_lt label 99) (song_below labels) few in (
      same label (ltb-true label 99 parts.0) ∙ begins.0,
      song_begins labels address own vars same parts.1 begins.1,
    )

voice_begins : (holds : ℕ → Bool) (tempo address : ℕ) (own vars : ℕ → ℕ) →
    ((label : ℕ) → label < 99 → own label ≡ vars label) → VoiceBegins holds tempo address vars →
    VoiceBegins holds tempo address own
voice_begins holds tempo address own vars same begins = record {
  state = rows_begin holds VOICE_BYTES tempo own vars same refl begins.state;
  song = song_begins FIRST_SONG_BYTES address own vars same refl begins.song;
}

-- a number where a condition holds
where_on : (holds : Bool) (number other : ℕ) → holds ≡ true → (if holds then number else other) ≡ number
where_on holds number other on = rw on refl

-- the variables at the end, from a memory in front
abbrev left : Layout → Start → (ℕ → ℕ) → (ℕ → ℕ) → ℕ → ℕ
left layout start address before = last_variables layout.holds start address (cleared_variables layout before)

each_voice : (layout : Layout) (start : Start) (address before : ℕ → ℕ) (voice : ℕ) → voice < 3 →
    VoiceBegins layout.holds start.tempo (address voice) (λ label. left layout start address before (label + 7 * voice))
each_voice layout start address before zero few =
    let delay = where_on (layout.holds INSTRUMENT_VIBRATO) 255 0 in record { state = assumption delay; song = assumption }
each_voice layout start address before (suc zero) few =
    let delay = where_on (layout.holds INSTRUMENT_VIBRATO) 255 0 in record { state = assumption delay; song = assumption }
each_voice layout start address before (suc (suc zero)) few =
    let delay = where_on (layout.holds INSTRUMENT_VIBRATO) 255 0 in record { state = assumption delay; song = assumption }
each_voice layout start address before (suc (suc (suc more))) never = absurd (omega (arith, never))

begins : (layout : Layout) (start : Start) (address before at : ℕ → ℕ) →
    ((label : ℕ) → label < VARIABLES → at (layout.address label) ≡ left layout start address before label) →
    Begins layout start.tempo start.funk address at
begins layout start address before at each = record {
  voices = λ voice few.
      voice_begins layout.holds start.tempo (address voice) (own_at layout at voice)
      (λ label. left layout start address before (label + 7 * voice))
      (λ label below. each (label + 7 * voice) (omega (arith, few, below)))
      (each_voice layout start address before voice few);
  common = (
    λ on. each 90 (omega arith),
    (
      λ on. each 97 (omega arith),
      (
        λ on. each 104 (omega arith),
        (
          λ on. each 105 (omega arith),
          (
            λ on. each 106 (omega arith),
            (
              λ on. each 107 (omega arith) ∙ where_on (layout.holds SET_VOLUME) 15 0 on,
              (
                λ on. each 111 (omega arith) ∙ where_on (layout.holds FUNK_TEMPO) start.funk 0 on,
                (λ on. each 112 (omega arith) ∙ where_on (layout.holds FUNK_TEMPO) start.tempo _ on, tt),
              ),
            ),
          ),
        ),
      ),
    ),
  );
  handed = (each 108 (omega arith), (each 109 (omega arith), (each 110 (omega arith), tt)));
}

-- ---- the block

-- a place of the slides is none of the variables
slide_out : (layout : Layout) (label rows row : ℕ) → IsList layout label rows → row < rows →
    IsNoVariable layout (layout.address label + row)
slide_out layout label rows row is few variable less e =
    elim (is.outside variable less) [
      | inl before ↦ omega (arith, before, e)
      | inr behind ↦ omega (arith, behind, few, e)
    ]

module _ (layout : Layout) (rows : ℕ) (room : IsRoom layout rows) where
  high_out : (place : ℕ) → 0xD000 ≤ place → IsNoVariable layout place
  high_out place high label few e = (let to = room.variables.to label few in omega (arith, to, high, e))

  slide_stays : (count : ℕ) (start : Start) (address : ℕ → ℕ) (before after : Desk) (label row : ℕ) →
      IsList layout label rows → row < rows → IsOutOf (layout.address FIRST_CLEARED) count (layout.address label + row) →
      IsBegun layout count start address before after →
      after.at (layout.address label + row) ≡ before.at (layout.address label + row)
  slide_stays count start address before after label row is few out begun =
      begun.here.others (layout.address label + row) (slide_out layout label rows row is few)
      ∙ begun.is_past.others (layout.address label + row)
      (λ e. (let low = room.pointer_high in let from = is.from in omega (arith, e, low, from)))
      (inl (let to = is.to in omega (arith, to, few))) (λ timed. inl (let to = is.to in omega (arith, to, few))) out

  starts : (count : ℕ) (start : Start) (address : ℕ → ℕ) (before : Desk) → MayClear layout rows count before.at →
      Goes layout (init_tree start count) Done (IsBegun layout count start address before) before →
      Starts layout rows count start address before (ran each_one layout (init_tree start count) before)
  starts count start address before clear goes = record {
    ends = goes.ends;
    decimal = goes.to.here.decimal;
    begins = begins layout start address before.at _ goes.to.here.variables;
    registers = λ register few.
        goes.to.here.others (0xD400 + register) (high_out (0xD400 + register) (omega arith))
        ∙ goes.to.is_past.registers register (omega (arith, few));
    timer_low = goes.to.here.others 0xDC04 (high_out 0xDC04 (omega arith)) ∙ goes.to.is_past.timer_low;
    timer_high = goes.to.here.others 0xDC05 (high_out 0xDC05 (omega arith)) ∙ goes.to.is_past.timer_high;
    slides = λ kept row few. record {
      low = slide_stays count start address before _ SLIDES_LOW row (room.slides kept).low few
          (clear.low kept row few) goes.to;
      high = slide_stays count start address before _ SLIDES_HIGH row (room.slides kept).high few
          (clear.high kept row few) goes.to;
    };
    others = λ place is.
        goes.to.here.others place is.elsewhere.variables
        ∙ goes.to.is_past.others place is.elsewhere.low is.elsewhere.registers is.timer is.cleared;
  }

pub init_block_starts : InitBlockStarts
init_block_starts layout rows subtune count start address desk room may clear timer orders is =
    starts layout rows room count start address desk clear
    (block_begins layout rows room may subtune count start address desk clear timer orders is)
