-- What the variables begin with: the start state of each voice and of what the voices share; and of its song, that a
-- voice is in front of its orderlist. This is the project's own player.
use Rattle.std.specs.Prelude.{◌≡◌, ℕ, ◌+◌, ◌-◌, ◌*◌, ◌/◌, ◌%◌, ◌<◌, ◌==◌, Bool, true, if◌then◌else◌}
use Rattle.std.specs.Prelude.{List, [], ◌∷◌, length}
use Rattle.song_model.specs.declared.orders.Order.{Order}
use Rattle.play_model.specs.declared.options.Options.{Options}
use Rattle.play_model.specs.LookUps.{LookUps}
use Rattle.play_model.specs.State.{Common, start_voice, start_common, start_state, playing_of, voice_of}
use Rattle.scopes.specs.Desk.{Layout}
use Rattle.player_memory.specs.declared.labels.TheConstants.{ORDER_LOW, ORDER_HIGH, LENT, KEPT_COMMAND, KEPT_PARAM}
use Rattle.player_memory.specs.declared.variables.Kept.{Kept}
use Rattle.player_memory.specs.declared.variables.VoiceByte.{VoiceByte}
use Rattle.player_memory.specs.declared.variables.CommonByte.{CommonByte}
use Rattle.player_memory.specs.declared.variables.TheConstants.{VOICE_BYTES, COMMON_BYTES, FIRST_SONG_BYTES}
use Rattle.player_memory.specs.Variables.{stands, voice_byte, common_byte}
use Rattle.player_memory.specs.Playing.{own_at, shared_at, IsPlaying}
use Rattle.player_memory.specs.Fetching.{HasOrder, SongStands}

-- ---- a voice

-- each byte of the table that holds something is what stands for that part of a voice at the start, with its tempo
abbrev pub VoiceRowsBegin : (ℕ → Bool) → List (ℕ × VoiceByte × Kept) → ℕ → (ℕ → ℕ) → Type 0
VoiceRowsBegin holds [] tempo own = Unit {0}
VoiceRowsBegin holds (row ∷ rows) tempo own =
    (stands holds row.2 ≡ true → own row.0 ≡ voice_byte row.1 start_voice tempo)
    × VoiceRowsBegin holds rows tempo own

-- Of the bytes that say where it is in its song those of the pattern's place may be any: it has none yet. The others
-- are 0, but for those of its orderlist's address.
abbrev pub song_byte : ℕ → ℕ → ℕ
song_byte address label =
    if label == ORDER_LOW then address % 256 else if label == ORDER_HIGH then address / 256 else 0

abbrev pub SongRowsBegin : List ℕ → ℕ → (ℕ → ℕ) → Type 0
SongRowsBegin [] address own = Unit {0}
SongRowsBegin (label ∷ labels) address own =
    (own label ≡ song_byte address label) × SongRowsBegin labels address own

pub record VoiceBegins (holds : ℕ → Bool) (tempo address : ℕ) (own : ℕ → ℕ) : Type 0 where
  pub state : VoiceRowsBegin holds VOICE_BYTES tempo own
  pub song : SongRowsBegin FIRST_SONG_BYTES address own

-- ---- what no voice owns

-- what the voices share at the start: this tempo of each voice, which is also the second funk tempo, and this first one
abbrev pub common_with : ℕ → ℕ → Common
common_with tempo funk = record (start_common 1) {
  tempo_one = tempo;
  tempo_two = tempo;
  tempo_three = tempo;
  funk_one = funk;
  funk_two = tempo;
}

-- each byte of their table that holds something is what stands for that part of it
abbrev pub CommonRowsBegin : (ℕ → Bool) → List (ℕ × CommonByte × Kept) → Common → (ℕ → ℕ) → Type 0
CommonRowsBegin holds [] c shared = Unit {0}
CommonRowsBegin holds (row ∷ rows) c shared =
    (stands holds row.2 ≡ true → shared row.0 ≡ common_byte row.1 c) × CommonRowsBegin holds rows c shared

abbrev pub AreZero : List ℕ → (ℕ → ℕ) → Type 0
AreZero [] shared = Unit {0}
AreZero (label ∷ labels) shared = (shared label ≡ 0) × AreZero labels shared

-- ---- all variables

-- They begin so, where the orderlists of the three voices have these addresses. No command is lent, and nothing is kept
-- for it.
pub record Begins (layout : Layout) (tempo funk : ℕ) (address : ℕ → ℕ) (at : ℕ → ℕ) : Type 0 where
  pub voices : (voice : ℕ) → voice < 3 →
      VoiceBegins layout.holds tempo (address voice) (own_at layout at voice)
  pub common : CommonRowsBegin layout.holds COMMON_BYTES (common_with tempo funk) (shared_at layout at)
  pub handed : AreZero (LENT ∷ KEPT_COMMAND ∷ KEPT_PARAM ∷ []) (shared_at layout at)

-- ---- what they hold then

-- a voice plays in the start state, in front of the first play of the orderlist under this label
pub record PlaysFromStart (layout : Layout) (o : Options) (look : LookUps) (packed : ℕ → List ℕ) (order : Order)
    (label voice : ℕ) (at : ℕ → ℕ) : Type 0 where
  pub plays : IsPlaying layout voice (playing_of (voice + 1) (start_state o)) at
  pub has_order : HasOrder layout label (own_at layout at voice)
  pub song : SongStands layout look packed order (voice_of (voice + 1) (start_state o)) (own_at layout at voice)

-- Where the variables begin with the tempos of the start state, each voice plays from the start, in whatever orderlist
-- stands at its address, if it isn't empty.
abbrev pub BeginningsPlay : Type 0
BeginningsPlay =
    (layout : Layout) (o : Options) (look : LookUps) (packed : ℕ → List ℕ) (order : Order)
    (address : ℕ → ℕ)
    (label voice : ℕ) (at : ℕ → ℕ) → Begins layout (6 * o.speed - 1) (9 * o.speed - 1) address at → voice < 3 →
    address voice ≡ layout.address label → 0 < length order.entries →
    PlaysFromStart layout o look packed order label voice at
