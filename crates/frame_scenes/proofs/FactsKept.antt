-- The lines of the facts that a voice meets are kept.
use Rattle.std.proofs.Common.{◌≡◌, ◌≢◌, ℕ, ◌∙◌, ◌||◌, Bool, true, false, refl, inl, inr, arith}
use Rattle.std.proofs.lemmas.Bool.{both_ways, false_from_ne_true}
use Rattle.std.proofs.lemmas.Bool.Decides.{eqb_tells}
use Rattle.song_model.specs.declared.instruments.Instrument.{Instrument}
use Rattle.song_model.specs.declared.songs.Song.{Song}
use Rattle.song_model.specs.LookUp.{instrument_at}
use Rattle.song_facts.specs.declared.facts.Fact.{Fact}
use Rattle.song_facts.specs.declared.facts.Facts.{Facts}
use Rattle.song_facts.specs.Facts.{HasSuchPair, is_among}
use Rattle.song_facts.specs.declared.facts.Fact.TheVariants.{RowTone, RowSlide, RowOnce, FirstMask}
use Rattle.song_facts.specs.declared.facts.Fact.TheVariants.{OwnTimer, Legato, NoHardRestart, FirstHolds}
use Rattle.song_facts.specs.declared.facts.Fact.TheVariants.{NoteVibrato, VibratoDelay, NotePulse, NoteFilter}
use Rattle.song_facts.specs.declared.facts.Fact.TheVariants.{VoiceTempo, CommonTempo, FunkTurns, FunkChoice}
use Rattle.play_model.specs.Used.{IsUsedInstrument}
use Rattle.play_model.specs.Features.{HasInstrument}
use Rattle.play_model.specs.Safe.{IsSafeWaiting, none, of_row}
use Rattle.packed_form.specs.declared.packed_songs.PackedSong.{PackedSong}
use Rattle.packed_form.specs.Unpacked.{unpacked_song}
use Rattle.packed_form.specs.StandsFor.{StandsFor}
use Rattle.scopes.specs.Desk.{Layout}
use Rattle.player_memory.specs.Commands.{KeepsTempo}
use Rattle.player_memory.specs.declared.conditions.TheConstants.{OWN_TIMER, FIRST_HOLDS, LEGATO}
use Rattle.player_memory.specs.declared.conditions.TheConstants.{NO_HARD_RESTART}
use Rattle.player_memory.specs.FactLines.{fact_condition, KeepsMarked, KeepsMarkedAlone, KeepsFacts}
use Rattle.player_memory.specs.SongLists.{is_read, has_gate_from, has_envelope_from}
use Rattle.tick_code.specs.TickBlock.{KeepsRow, KeepsInstrument}

-- where those of all facts of the song that the packed song stands for are kept, those of the packed song's are
pub facts_kept : (layout : Layout) (packed : PackedSong) (song : Song) → StandsFor packed song →
    KeepsMarked layout packed.facts → KeepsFacts layout (unpacked_song packed)
facts_kept layout packed song stands marked fact has = marked fact ((stands.facts.each fact).1 (stands.covers fact has))

-- of a command that waits
pub row_kept : (layout : Layout) (song : Song) (command param : ℕ) → KeepsFacts layout song →
    IsSafeWaiting song command param → KeepsRow layout command
row_kept layout song command param facts none = record {
  tone = λ e. absurd (omega (arith, e));
  slide = λ from to. absurd (omega (arith, from));
  once = λ from. absurd (omega (arith, from));
}
row_kept layout song command param facts (of_row has) = record {
  tone = λ e. facts RowTone (record { row = has.row; used = has.used; is_such = has.command_is ∙ e });
  slide = λ from to.
      let is = has.command_is in
      facts RowSlide
      (record { row = has.row; used = has.used; is_such = (omega (arith, is, from), omega (arith, is, to)) });
  once = λ from.
      let is = has.command_is in
      facts RowOnce (record { row = has.row; used = has.used; is_such = omega (arith, is, from) });
}

-- and of one that sets tempos
pub tempo_kept : (layout : Layout) (song : Song) (command param : ℕ) → KeepsFacts layout song →
    IsSafeWaiting song command param → KeepsTempo layout command param
tempo_kept layout song command param facts none = record {
  voice = λ e. absurd (omega (arith, e));
  common = λ e. absurd (omega (arith, e));
  turns = λ e. absurd (omega (arith, e));
  choice = λ e. absurd (omega (arith, e));
}
tempo_kept layout song command param facts (of_row has) = record {
  voice = λ e from.
      let param_is = has.param_is in
      facts VoiceTempo
      (record { row = has.row; used = has.used; is_such = (has.command_is ∙ e, omega (arith, param_is, from)) });
  common = λ e from to.
      let param_is = has.param_is in
      facts CommonTempo
      (record {
        row = has.row;
        used = has.used;
        is_such = (has.command_is ∙ e, (omega (arith, param_is, from), omega (arith, param_is, to)));
      });
  turns = λ e low.
      let param_is = has.param_is in
      facts FunkTurns
      (record { row = has.row; used = has.used; is_such = (has.command_is ∙ e, omega (arith, param_is, low)) });
  choice = λ e. facts FunkChoice (record { row = has.row; used = has.used; is_such = has.command_is ∙ e });
}

-- of a used instrument, and of a delay that is left from one
pub instrument_kept : (layout : Layout) (song : Song) (number waits : ℕ) → KeepsFacts layout song →
    IsUsedInstrument song number → (waits ≢ 0 → HasInstrument song (λ i. (instrument_at song i).vibrato_delay)) →
    KeepsInstrument layout (instrument_at song number) waits
instrument_kept layout song number waits facts used left = record {
  mask = λ is. facts FirstMask (record { instrument = number; used = used; is_such = is });
  vibrato = λ is. facts NoteVibrato (record { instrument = number; used = used; is_such = is });
  delay = λ is. facts VibratoDelay (record { instrument = number; used = used; is_such = is });
  waits = λ some.
      let has = left some in
      facts VibratoDelay (record { instrument = has.instrument; used = has.used; is_such = has.some });
  pulse = λ is. facts NotePulse (record { instrument = number; used = used; is_such = is });
  filter = λ is. facts NoteFilter (record { instrument = number; used = used; is_such = is });
}

-- where the lines aren't kept for what two instruments differ in, no two used ones do
pub no_two_differ : (layout : Layout) (song : Song) (part : Instrument → ℕ) (condition : ℕ) →
    (HasSuchPair song (λ one other. part one ≢ part other) → layout.holds condition ≡ true) →
    layout.holds condition ≡ false → (one other : ℕ) → IsUsedInstrument song one → IsUsedInstrument song other →
    part (instrument_at song one) ≡ part (instrument_at song other)
no_two_differ layout song part condition keeps out one other one_used other_used =
    elim (eqb_tells (part (instrument_at song one)) (part (instrument_at song other))) [
      | inl same ↦ same.1
      | inr differ ↦
          absurd (both_ways (layout.holds condition) out
          (keeps (record {
            one = one;
            other = other;
            one_used = one_used;
            other_used = other_used;
            differ = differ.1;
          })))
    ]

-- a fact whose lines aren't kept isn't the packed song's
pub none_marked : (layout : Layout) (facts : Facts) (fact : Fact) → KeepsMarked layout facts →
    layout.holds (fact_condition fact) ≡ false → is_among facts fact ≡ false
none_marked layout facts fact marked out =
    false_from_ne_true (is_among facts fact)
    (λ on. both_ways (layout.holds (fact_condition fact)) out (marked fact on))

-- the gateoff timers are read where two differ, and where the first instrument holds more than another
pub timers_read : (layout : Layout) (packed : PackedSong) → KeepsMarkedAlone layout packed.facts →
    layout.holds OWN_TIMER ≡ true → is_read packed 7 ≡ true
timers_read layout packed alone kept = rw (alone OwnTimer kept) refl

pub first_read : (layout : Layout) (packed : PackedSong) → KeepsMarkedAlone layout packed.facts →
    layout.holds FIRST_HOLDS ≡ true → is_read packed 7 ≡ true
first_read layout packed alone kept = rw (alone FirstHolds kept) (by_timer packed.facts.own_timer)
  where
    by_timer : (timer : Bool) → (timer || true) ≡ true
    by_timer true = refl
    by_timer false = refl

-- else the numbers stand from which on instruments hold the gate, and the envelope
pub gates_stand : (layout : Layout) (packed : PackedSong) → KeepsMarked layout packed.facts →
    KeepsMarkedAlone layout packed.facts → layout.holds FIRST_HOLDS ≡ false → layout.holds LEGATO ≡ true →
    has_gate_from packed ≡ true
gates_stand layout packed marked alone out kept =
    rw (alone Legato kept, none_marked layout packed.facts FirstHolds marked out) refl

pub envelopes_stand : (layout : Layout) (packed : PackedSong) → KeepsMarked layout packed.facts →
    KeepsMarkedAlone layout packed.facts → layout.holds FIRST_HOLDS ≡ false → layout.holds NO_HARD_RESTART ≡ true →
    has_envelope_from packed ≡ true
envelopes_stand layout packed marked alone out kept =
    rw (alone NoHardRestart kept, none_marked layout packed.facts FirstHolds marked out) refl
