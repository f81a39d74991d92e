-- Where the variables begin as a subtune does, each voice plays from the start.
use Rattle.std.proofs.Common.{◌≡◌, ℕ, zero, suc, ◌+◌, ◌-◌, ◌*◌, ◌/◌, ◌%◌, ◌<◌}
use Rattle.std.proofs.Common.{◌&&◌, ◌||◌, Bool, true, false, not, List, [], ◌∷◌, length}
use Rattle.std.proofs.Common.{refl, ap, ◌∙◌, arith, nat_eq}
use Rattle.std.proofs.lemmas.Bool.{and_parts, eqb-true, ne_eqb}
use Rattle.song_model.specs.declared.orders.Order.{Order}
use Rattle.song_model.specs.Places.{first_place, place_of, restarted}
use Rattle.play_model.specs.declared.options.Options.{Options}
use Rattle.play_model.specs.LookUps.{LookUps}
use Rattle.play_model.specs.State.{Common, start_voice, start_state, playing_of, voice_of}
use Rattle.play_model.specs.TickStep.{tempo_of}
use Rattle.scopes.specs.Desk.{Layout}
use Rattle.player_memory.specs.declared.labels.TheConstants.{TEMPO}
use Rattle.player_memory.specs.declared.variables.Kept.{Kept}
use Rattle.player_memory.specs.declared.variables.Kept.TheVariants.{Always, Where, Else}
use Rattle.player_memory.specs.declared.variables.CommonByte.{CommonByte}
use Rattle.player_memory.specs.declared.variables.VoiceByte.{VoiceByte}
use Rattle.player_memory.specs.declared.variables.VoiceByte.TheVariants.{PulseHigh, NewParam}
use Rattle.player_memory.specs.declared.variables.TheConstants.{VOICE_BYTES, COMMON_BYTES, FIRST_SONG_BYTES}
use Rattle.player_memory.specs.Variables.{HoldsWhere, stands, voice_byte, IsVoiceByte, VoiceRowsStand, common_byte}
use Rattle.player_memory.specs.Variables.{CommonRowsStand}
use Rattle.player_memory.specs.Playing.{own_at, shared_at, IsPlaying}
use Rattle.player_memory.specs.Fetching.{SongStands, AtEntry, NotWalked, GoesOn}
use Rattle.player_memory.specs.Starting.{VoiceRowsBegin, SongRowsBegin, VoiceBegins, CommonRowsBegin, common_with}
use Rattle.player_memory.specs.Starting.{Begins, BeginningsPlay}

-- ---- where it is kept

-- what stands for a part where its lines aren't kept is what it begins with
abbrev is_start : Kept → ℕ → Bool
is_start Always part = true
is_start (Where condition) part = true
is_start (Else condition number) part = nat_eq part number

begins_where : (holds : ℕ → Bool) (kept : Kept) (Held : Type 0) (part : ℕ) → is_start kept part ≡ true →
    (stands holds kept ≡ true → Held) → HoldsWhere holds kept Held part
begins_where holds Always Held part start is = is refl
begins_where holds (Where condition) Held part start is = is
begins_where holds (Else condition number) Held part start is = (is, λ off. eqb-true part number start)

-- ---- the state

begun : (held : VoiceByte) (tempo byte : ℕ) → byte ≡ voice_byte held start_voice tempo →
    IsVoiceByte held start_voice tempo byte
begun PulseHigh tempo byte is = ap (λ b. b % 16) is
begun NewParam tempo byte is = λ some. absurd (some refl)
begun held tempo byte is = is

abbrev are_start : List (ℕ × VoiceByte × Kept) → ℕ → Bool
are_start [] tempo = true
are_start (row ∷ rows) tempo = is_start row.2 (voice_byte row.1 start_voice tempo) && are_start rows tempo

rows_stand : (holds : ℕ → Bool) (rows : List (ℕ × VoiceByte × Kept)) (tempo : ℕ) (own : ℕ → ℕ) →
    are_start rows tempo ≡ true → VoiceRowsBegin holds rows tempo own →
    VoiceRowsStand holds rows start_voice tempo own
rows_stand holds [] tempo own start begins = tt
rows_stand holds (row ∷ rows) tempo own start begins =
    let both = and_parts (is_start row.2 (voice_byte row.1 start_voice tempo)) (are_start rows tempo) start in (
      begins_where holds row.2 (IsVoiceByte row.1 start_voice tempo (own row.0)) (voice_byte row.1 start_voice tempo)
          both.0 (λ on. begun row.1 tempo (own row.0) (begins.0 on)),
      rows_stand holds rows tempo own both.1 begins.1,
    )

abbrev shared_start : List (ℕ × CommonByte × Kept) → Common → Bool
shared_start [] c = true
shared_start (row ∷ rows) c = is_start row.2 (common_byte row.1 c) && shared_start rows c

shared_rows_stand : (holds : ℕ → Bool) (rows : List (ℕ × CommonByte × Kept)) (c : Common) (shared : ℕ → ℕ) →
    shared_start rows c ≡ true → CommonRowsBegin holds rows c shared → CommonRowsStand holds rows c shared
shared_rows_stand holds [] c shared start begins = tt
shared_rows_stand holds (row ∷ rows) c shared start begins =
    let both = and_parts (is_start row.2 (common_byte row.1 c)) (shared_start rows c) start in (
      begins_where holds row.2 (shared row.0 ≡ common_byte row.1 c) (common_byte row.1 c) both.0 begins.0,
      shared_rows_stand holds rows c shared both.1 begins.1,
    )

pub tempo_byte : (holds : ℕ → Bool) (tempo address : ℕ) (own : ℕ → ℕ) → VoiceBegins holds tempo address own →
    own TEMPO ≡ tempo
tempo_byte holds tempo address own begins =
    begins.state.1.1.1.1.1.1.1.1.1.1.1.1.1.1.1.1.1.1.1.1.1.1.1.1.0 refl

tempos_are : (layout : Layout) (tempo funk : ℕ) (address : ℕ → ℕ) (at : ℕ → ℕ) →
    Begins layout tempo funk address at → (its : ℕ) → its < 3 →
    own_at layout at its TEMPO ≡ tempo_of (its + 1) (common_with tempo funk)
tempos_are layout tempo funk address at begins zero few = tempo_byte layout.holds _ _ _ (begins.voices 0 few)
tempos_are layout tempo funk address at begins (suc zero) few = tempo_byte layout.holds _ _ _ (begins.voices 1 few)
tempos_are layout tempo funk address at begins (suc (suc zero)) few =
    tempo_byte layout.holds _ _ _ (begins.voices 2 few)
tempos_are layout tempo funk address at begins (suc (suc (suc more))) never = absurd (omega (arith, never))

plays_of : (layout : Layout) (tempo funk voice : ℕ) (address : ℕ → ℕ) (at : ℕ → ℕ) →
    Begins layout tempo funk address at → voice < 3 → tempo_of (voice + 1) (common_with tempo funk) ≡ tempo →
    IsPlaying layout voice (record { voice = start_voice; common = common_with tempo funk }) at
plays_of layout tempo funk voice address at begins few is = record {
  own = rw is
      (rows_stand layout.holds VOICE_BYTES tempo (own_at layout at voice) refl (begins.voices voice few).state);
  common =
      shared_rows_stand layout.holds COMMON_BYTES (common_with tempo funk) (shared_at layout at) refl begins.common;
  tempos = tempos_are layout tempo funk address at begins;
}

plays : (layout : Layout) (o : Options) (address : ℕ → ℕ) (at : ℕ → ℕ) →
    Begins layout (6 * o.speed - 1) (9 * o.speed - 1) address at → (voice : ℕ) → voice < 3 →
    IsPlaying layout voice (playing_of (voice + 1) (start_state o)) at
plays layout o address at begins zero few =
    plays_of layout (6 * o.speed - 1) (9 * o.speed - 1) 0 address at begins few refl
plays layout o address at begins (suc zero) few =
    plays_of layout (6 * o.speed - 1) (9 * o.speed - 1) 1 address at begins few refl
plays layout o address at begins (suc (suc zero)) few =
    plays_of layout (6 * o.speed - 1) (9 * o.speed - 1) 2 address at begins few refl
plays layout o address at begins (suc (suc (suc more))) never = absurd (omega (arith, never))

-- ---- by a test

abbrev are_begun : (ℕ → Bool) → List (ℕ × VoiceByte × Kept) → ℕ → (ℕ → ℕ) → Bool
are_begun holds [] tempo own = true
are_begun holds (row ∷ rows) tempo own =
    (not (stands holds row.2) || nat_eq (own row.0) (voice_byte row.1 start_voice tempo))
    && are_begun holds rows tempo own

where_kept : (kept is : Bool) → (not kept || is) ≡ true → kept ≡ true → is ≡ true
where_kept true is e on = e
where_kept false is e never = absurd cc

rows_begin : (holds : ℕ → Bool) (rows : List (ℕ × VoiceByte × Kept)) (tempo : ℕ) (own : ℕ → ℕ) →
    are_begun holds rows tempo own ≡ true → VoiceRowsBegin holds rows tempo own
rows_begin holds [] tempo own e = tt
rows_begin holds (row ∷ rows) tempo own e =
    let byte : Bool = nat_eq (own row.0) (voice_byte row.1 start_voice tempo) in
    let both = and_parts (not (stands holds row.2) || byte) (are_begun holds rows tempo own) e in (
      λ on. eqb-true (own row.0) (voice_byte row.1 start_voice tempo)
          (where_kept (stands holds row.2) byte both.0 on),
      rows_begin holds rows tempo own both.1,
    )

-- a voice begins where a test says so, and its other bytes are so
pub voice_begins : (holds : ℕ → Bool) (tempo address : ℕ) (own : ℕ → ℕ) →
    are_begun holds VOICE_BYTES tempo own ≡ true → SongRowsBegin FIRST_SONG_BYTES address own →
    VoiceBegins holds tempo address own
voice_begins holds tempo address own e song =
    record { state = rows_begin holds VOICE_BYTES tempo own e; song = song }

abbrev shared_begun : (ℕ → Bool) → List (ℕ × CommonByte × Kept) → Common → (ℕ → ℕ) → Bool
shared_begun holds [] c shared = true
shared_begun holds (row ∷ rows) c shared =
    (not (stands holds row.2) || nat_eq (shared row.0) (common_byte row.1 c)) && shared_begun holds rows c shared

pub shared_rows_begin : (holds : ℕ → Bool) (rows : List (ℕ × CommonByte × Kept)) (c : Common) (shared : ℕ → ℕ) →
    shared_begun holds rows c shared ≡ true → CommonRowsBegin holds rows c shared
shared_rows_begin holds [] c shared e = tt
shared_rows_begin holds (row ∷ rows) c shared e =
    let byte : Bool = nat_eq (shared row.0) (common_byte row.1 c) in
    let both = and_parts (not (stands holds row.2) || byte) (shared_begun holds rows c shared) e in (
      λ on. eqb-true (shared row.0) (common_byte row.1 c) (where_kept (stands holds row.2) byte both.0 on),
      shared_rows_begin holds rows c shared both.1,
    )

-- ---- the song

in_song : (layout : Layout) (look : LookUps) (packed : ℕ → List ℕ) (order : Order) (tempo address : ℕ)
    (own : ℕ → ℕ) → VoiceBegins layout.holds tempo address own → 0 < length order.entries →
    SongStands layout look packed order start_voice own
unfolding place_of
in_song layout look packed order tempo address own begins some =
    AtEntry begins.song.0
    (NotWalked begins.song.1.0 refl
    (GoesOn first_place first refl begins.song.1.1.1.1.0 begins.song.1.1.1.1.1.0 begins.song.1.1.1.1.1.1.0))
  where
    first : restarted order first_place ≡ first_place
    first =
        let e : nat_eq 0 (length order.entries) ≡ false = ne_eqb 0 (length order.entries)
        (λ e. omega (arith, some, e)) in
        rw e refl

voices_alike : (o : Options) (voice : ℕ) → voice < 3 → voice_of (voice + 1) (start_state o) ≡ start_voice
voices_alike o zero few = refl
voices_alike o (suc zero) few = refl
voices_alike o (suc (suc zero)) few = refl
voices_alike o (suc (suc (suc more))) never = absurd (omega (arith, never))

pub beginnings_play : BeginningsPlay
beginnings_play layout o look packed order address label voice at begins few is some = record {
  plays = plays layout o address at begins voice few;
  has_order = let song = (begins.voices voice few).song in record {
    low_is = song.1.1.0 ∙ ap (λ n. n % 256) is;
    high_is = song.1.1.1.0 ∙ ap (λ n. n / 256) is;
  };
  song = rw (voices_alike o voice few)
      (in_song layout look packed order _ (address voice) (own_at layout at voice) (begins.voices voice few) some);
}
