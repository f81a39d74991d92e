-- The row that is worked by hand.
use Rattle.std.proofs.Common.{◌≡◌, ℕ, zero, suc, ◌+◌, ◌*◌, ◌%◌, ◌<◌, ◌≤◌, Bool, true, false, nat_eq, nat_lt}
use Rattle.std.proofs.Common.{inl, inr, refl, sym}
use Rattle.std.proofs.Common.{ap, subst, arith}
use Rattle.std.proofs.lemmas.Bool.{lt-ltb, ltb-true, and_parts, true≢false, both_ways}
use Rattle.play_model.specs.TickStep.{tempo_of, tick_step, at_row as done_at_row, note_started, row_command}
use Rattle.scopes.specs.Meaning.{Outcome, Left}
use Rattle.player_memory.specs.declared.labels.TheConstants.{TEMPO, ADS, SRS, WAVES, PULSES, FILTERS, VIBRATOS, DELAYS}
use Rattle.player_memory.specs.declared.labels.TheConstants.{GATE_TIMERS, ONE_WAVE}
use Rattle.player_memory.specs.Rooms.{IsRoom, IsElsewhere, MayUse}
use Rattle.player_memory.specs.Playing.{own_at, shared_at, place_in, IsListed, IsPlaying}
use Rattle.player_text.specs.declared.joints.TheConstants.{SOUNDS, TICKED}
use Rattle.player_desk.proofs.Laws.{fields_stand, shared_stand}
use Rattle.tick_code.specs.TickBlock.{HasInstrument, HasTickLists, HasOneWave, IsInLists, KeepsCommand, KeepsTick}
use Rattle.player_memory.specs.FactLines.{KeepsShared}
use Rattle.player_memory.specs.declared.conditions.TheConstants.{FUNK_TEMPO}
use Rattle.tick_code.specs.WorkedTick.{laid, sound, bare, with_one, with_instrument, look, waiting, memory}
use Rattle.tick_code.specs.WorkedTick.{FieldsAreRead, TickIsWorked}

abbrev is_left : ℕ → Outcome → Bool
is_left name (Left other) = nat_eq other name
is_left name _ = false

in_one_piece : (label : ℕ) → label < 113 → laid.address label ≡ 0x1000 + label
in_one_piece label few =
    let z : nat_lt label 113 ≡ true = lt-ltb label 113 few in
    rw z refl

-- a place between the variables and the registers
elsewhere : (place : ℕ) → 0x2000 ≤ place → place < 0xD000 → IsElsewhere laid 1 place
elsewhere place from to = record {
  variables = λ label few e. (let at = in_one_piece label few in omega (arith, at, from, few, e));
  slides_low = λ kept. absurd (true≢false (sym kept));
  slides_high = λ kept. absurd (true≢false (sym kept));
  low = λ e. absurd (omega (arith, from, e));
  high = λ e. absurd (omega (arith, from, e));
  registers = inl (omega (arith, to));
}

room : IsRoom laid 1
room = record {
  variables = record {
    from = λ label few. (let at = in_one_piece label few in omega (arith, at));
    to = λ label few. (let at = in_one_piece label few in omega (arith, at, few));
    apart = λ one two few less e.
        let at = in_one_piece one few in
        let its = in_one_piece two less in
        omega (arith, at, its, e);
    voices = λ label voice own few.
        let small = ltb-true label 90 (and_parts (nat_lt label 90) (nat_lt (label % 21) 7) own).0 in
        let at = in_one_piece label (omega (arith, small)) in
        let its = in_one_piece (label + 7 * voice) (omega (arith, small, few)) in
        omega (arith, at, its);
    funk = refl;
  };
  slides = λ kept. absurd (true≢false (sym kept));
  pointer_low = omega arith;
  pointer_high = omega arith;
}

uses : MayUse laid 1
uses = record {
  reads = λ label few. refl;
  writes = λ label few. refl;
  slides = λ kept. absurd (true≢false (sym kept));
  registers = λ register few. refl;
}

-- the one instrument
listed_at : (label byte : ℕ) → 0x2000 ≤ place_in laid label 1 → place_in laid label 1 < 0xD000 →
    memory (place_in laid label 1) ≡ byte → IsListed laid 1 memory label 1 byte
listed_at label byte from to is =
    record { elsewhere = elsewhere (place_in laid label 1) from to; reads = refl; is = is }

-- where the lines of pulse programs, of vibratos and of first waveforms aren't kept, these bytes may be others
first_with : (pulse vibrato wave : ℕ) →
    HasInstrument laid 1 memory
    (with_instrument (record sound { pulse = pulse; vibrato = vibrato; first_wave = wave })) 1
first_with pulse vibrato wave = record {
  ad = listed_at ADS 0x12 (omega arith) (omega arith) refl;
  sr = listed_at SRS 0x34 (omega arith) (omega arith) refl;
  wave = listed_at WAVES 1 (omega arith) (omega arith) refl;
  pulse = λ kept. absurd cc;
  filter = λ kept. listed_at FILTERS 2 (omega arith) (omega arith) refl;
  vibrato = λ kept. absurd cc;
  delay = λ kept. listed_at DELAYS 2 (omega arith) (omega arith) refl;
  gate_timer = λ kept. listed_at GATE_TIMERS 0x42 (omega arith) (omega arith) refl;
  first_wave = λ kept. absurd cc;
  gate_timer_byte = omega arith;
}

first : HasInstrument laid 1 memory look 1
first = first_with 0 0 9

one_wave : HasOneWave laid 1 memory sound
one_wave out =
    record { elsewhere = elsewhere (laid.address ONE_WAVE) (omega arith) (omega arith); reads = refl; is = refl }

fields_are_read : FieldsAreRead
fields_are_read = record {
  unread = first_with 7 8 7;
  pulse = λ has. (let byte = (has.pulse refl).is in omega (arith, byte));
  vibrato = λ has. (let byte = (has.vibrato refl).is in omega (arith, byte));
  filter = λ has. (let byte = (has.filter refl).is in omega (arith, byte));
  delay = λ has. (let byte = (has.delay refl).is in omega (arith, byte));
  timer = λ has. (let byte = (has.gate_timer refl).is in omega (arith, byte));
  wave = λ has. (let byte = (has.first_wave refl).is in omega (arith, byte));
  one_wave = λ has. (let byte = (has refl).is in omega (arith, byte));
  own_wave = λ out. absurd cc;
}

lists : HasTickLists laid 1 memory look 1 0
lists = record {
  instrument = λ number from to. subst (HasInstrument laid 1 memory look) (omega (arith, from, to)) first;
  speed = record {
    few = omega arith;
    each = λ number from to. absurd (omega (arith, from, to));
  };
}

tempos : (its : ℕ) → its < 3 → own_at laid memory its TEMPO ≡ tempo_of (its + 1) waiting.common
tempos zero few = refl
tempos (suc zero) few = refl
tempos (suc (suc zero)) few = refl
tempos (suc (suc (suc its))) few = absurd (omega (arith, few))

playing : IsPlaying laid 1 waiting memory
playing = record {
  own = fields_stand laid.holds waiting.voice 5 (own_at laid memory 1) (record {
    tick = refl;
    gate_timer = λ on. refl;
    instrument = refl;
    note = refl;
    new_note = refl;
    new_command = λ on. refl;
    new_param = λ on some. refl;
    command = λ on. refl;
    param = λ on. refl;
    ad = refl;
    sr = refl;
    vib_time = λ on. refl;
    vib_delay = λ on. refl;
    wave = refl;
    gate = refl;
    freq_low = refl;
    freq_high = refl;
    last_note = λ on. refl;
    wave_ptr = refl;
    wave_time = λ on. refl;
    pulse_ptr = refl;
    pulse_time = refl;
    pulse_low = λ on. refl;
    no_pulse_low = λ off. refl;
    pulse_high = λ on. refl;
    no_pulse_high = λ off. refl;
    tempo_is = refl;
  });
  common = shared_stand laid.holds waiting.common (shared_at laid memory) (record {
    filter_ptr = refl;
    filter_time = refl;
    filter_type = λ on. refl;
    no_filter_type = λ off. refl;
    filter_control = λ on. refl;
    no_filter_control = λ off. refl;
    cutoff = λ on. refl;
    no_cutoff = λ off. refl;
    volume = λ on. refl;
    no_volume = λ off. refl;
    funk_one = λ on. refl;
    funk_two = λ on. refl;
  });
  tempos = tempos;
}

at_row : IsInLists 1 0 waiting.voice
at_row = record {
  from = omega arith;
  to = omega arith;
  command = omega arith;
  param = omega arith;
  speed = λ e. absurd (omega (arith, e));
}

keeps : KeepsTick laid 2 look waiting
keeps = record {
  command = λ now. refl;
  row = λ now. record {
    tone = λ e. absurd (omega (arith, e));
    slide = λ from to. absurd (omega (arith, to));
    once = λ from. refl;
  };
  tempo = λ now. record {
    voice = λ is from. refl;
    common = λ is from to. absurd (omega (arith, to));
    turns = λ is low. absurd (omega (arith, low));
    choice = λ is. absurd (omega (arith, is));
  };
  instrument = λ now. record {
    mask = λ is. elim is [ inl none ↦ absurd (omega (arith, none)) | inr high ↦ absurd (omega (arith, high)) ];
    vibrato = λ some. absurd (some refl);
    delay = λ some. refl;
    waits = λ some. refl;
    pulse = λ some. absurd (some refl);
    filter = λ some. refl;
  };
  length = λ past short. absurd (omega (arith, past));
  shared = record {
    tone = λ on. refl;
    slide = λ on. refl;
    once = λ on. refl;
    delay = λ on. absurd cc;
    command = λ on. absurd cc;
    legato = λ on. absurd cc;
    soft = λ on. absurd cc;
    filter = λ on. absurd cc;
    control = λ on. absurd cc;
    cutoff = λ on. absurd cc;
  };
}

-- where no line is kept, and where one of a tempo is, there is nothing in common
bare_shared : KeepsShared bare
bare_shared = record {
  tone = λ on. absurd cc;
  slide = λ on. absurd cc;
  once = λ on. absurd cc;
  delay = λ on. absurd cc;
  command = λ on. absurd cc;
  legato = λ on. absurd cc;
  soft = λ on. absurd cc;
  filter = λ on. absurd cc;
  control = λ on. absurd cc;
  cutoff = λ on. absurd cc;
}

funk_shared : KeepsShared (with_one FUNK_TEMPO)
funk_shared = record {
  tone = λ on. absurd cc;
  slide = λ on. absurd cc;
  once = λ on. absurd cc;
  delay = λ on. absurd cc;
  command = λ on. absurd cc;
  legato = λ on. absurd cc;
  soft = λ on. absurd cc;
  filter = λ on. absurd cc;
  control = λ on. absurd cc;
  cutoff = λ on. absurd cc;
}

runs : (command param : ℕ) → command ≤ 4 → KeepsCommand bare command param
runs zero param few = tt
runs (suc zero) param few = tt
runs (suc (suc zero)) param few = tt
runs (suc (suc (suc zero))) param few = tt
runs (suc (suc (suc (suc zero)))) param few = tt
runs (suc (suc (suc (suc (suc command))))) param few = absurd (omega (arith, few))

pub tick_is_worked : TickIsWorked
unfolding tick_step done_at_row note_started row_command
tick_is_worked = record {
  met = record {
    room = room;
    uses = uses;
    lists = lists;
    at_voice = record { x = refl; decimal = refl };
    playing = playing;
    at_row = at_row;
    keeps = keeps;
    one_wave = one_wave;
  };
  worked = record {
    way = refl;
    tick = refl;
    note = refl;
    new_note = refl;
    gate_timer = refl;
    delay = refl;
    wave = refl;
    gate = refl;
    ad = refl;
    filter = refl;
    tempo = refl;
    another_tempo = refl;
  };
  commands = record {
    runs = runs;
    idle = tt;
    idle_up = tt;
    idle_last = tt;
    ad = refl;
    sr = refl;
    wave = refl;
    wave_pointer = refl;
    pulse_pointer = refl;
    filter_pointer = refl;
    filter_control = refl;
    cutoff = refl;
    volume = refl;
    funk = refl;
    funk_chosen = refl;
    length = refl;
  };
  lengths = record {
    goes_on = record {
      command = λ now. absurd (omega (arith, now));
      row = λ now. absurd (omega (arith, now));
      tempo = λ now. absurd (omega (arith, now));
      instrument = λ now. absurd (omega (arith, now));
      length = λ past short. absurd (omega (arith, past));
      shared = bare_shared;
    };
    two = record {
      command = λ now. absurd (omega (arith, now));
      row = λ now. absurd (omega (arith, now));
      tempo = λ now. absurd (omega (arith, now));
      instrument = λ now. absurd (omega (arith, now));
      length = λ past short. absurd (omega (arith, short));
      shared = bare_shared;
    };
    one = record {
      command = λ now. absurd (omega (arith, now));
      row = λ now. absurd (omega (arith, now));
      tempo = λ now. absurd (omega (arith, now));
      instrument = λ now. absurd (omega (arith, now));
      length = λ past short. refl;
      shared = funk_shared;
    };
  };
  rows = record {
    none = record {
      tone = λ e. absurd (omega (arith, e));
      slide = λ from to. absurd (omega (arith, from));
      once = λ from. absurd (omega (arith, from));
    };
    tone = λ keeps. (let on = keeps.tone refl in absurd cc);
    slide = λ keeps. (let on = keeps.slide (omega arith) (omega arith) in absurd cc);
    last_slide = λ keeps. (let on = keeps.slide (omega arith) (omega arith) in absurd cc);
    once = λ keeps. (let on = keeps.once (omega arith) in absurd cc);
    waveform = record {
      command = λ now. tt;
      row = λ now. record {
        tone = λ e. absurd (omega (arith, e));
        slide = λ from to. absurd (omega (arith, from));
        once = λ from. absurd (omega (arith, from));
      };
      tempo = λ now. record {
        voice = λ is. absurd (omega (arith, is));
        common = λ is. absurd (omega (arith, is));
        turns = λ is. absurd (omega (arith, is));
        choice = λ is. absurd (omega (arith, is));
      };
      instrument = λ now. record {
        mask = λ is. elim is [ inl none ↦ absurd (omega (arith, none)) | inr high ↦ absurd (omega (arith, high)) ];
        vibrato = λ some. absurd (some refl);
        delay = λ some. absurd (some refl);
        waits = λ some. absurd (some refl);
        pulse = λ some. absurd (some refl);
        filter = λ some. absurd (some refl);
      };
      length = λ past short. absurd (omega (arith, past));
      shared = bare_shared;
    };
    mask = λ keeps. (let on = (keeps.instrument refl).mask (inr (omega arith)) in absurd cc);
    nothing = λ keeps. (let on = (keeps.instrument refl).mask (inl refl) in absurd cc);
    vibrato = λ keeps. (let on = (keeps.instrument refl).vibrato (λ e. omega (arith, e)) in absurd cc);
    delay = λ keeps. (let on = (keeps.instrument refl).delay (λ e. omega (arith, e)) in absurd cc);
    waits = λ keeps. (let on = (keeps.instrument refl).waits (λ e. omega (arith, e)) in absurd cc);
    pulse = λ keeps. (let on = (keeps.instrument refl).pulse (λ e. omega (arith, e)) in absurd cc);
    filter = λ keeps. (let on = (keeps.instrument refl).filter (λ e. omega (arith, e)) in absurd cc);
    tempo = λ keeps. (let on = (keeps.tempo refl).voice refl (omega arith) in absurd cc);
    kept_tempo = record {
      command = λ now. refl;
      row = λ now. record {
        tone = λ e. absurd (omega (arith, e));
        slide = λ from to. absurd (omega (arith, to));
        once = λ from. refl;
      };
      tempo = λ now. record {
        voice = λ is from. refl;
        common = λ is from to. absurd (omega (arith, to));
        turns = λ is low. absurd (omega (arith, low));
        choice = λ is. absurd (omega (arith, is));
      };
      instrument = λ now. record {
        mask = λ is. elim is [ inl none ↦ absurd (omega (arith, none)) | inr high ↦ absurd (omega (arith, high)) ];
        vibrato = λ some. absurd (some refl);
        delay = λ some. absurd (some refl);
        waits = λ some. absurd (some refl);
        pulse = λ some. absurd (some refl);
        filter = λ some. absurd (some refl);
      };
      length = λ past short. absurd (omega (arith, past));
      shared = record {
        tone = λ on. refl;
        slide = λ on. absurd cc;
        once = λ on. refl;
        delay = λ on. absurd cc;
        command = λ on. absurd cc;
        legato = λ on. absurd cc;
        soft = λ on. absurd cc;
        filter = λ on. absurd cc;
        control = λ on. absurd cc;
        cutoff = λ on. absurd cc;
      };
    };
    shared = λ keeps. (let on = keeps.shared.once refl in absurd cc);
  };
  lists = record {
    last = record {
      from = omega arith;
      to = omega arith;
      command = omega arith;
      param = omega arith;
      speed = λ e. absurd (omega (arith, e));
    };
    last_row = record {
      from = omega arith;
      to = omega arith;
      command = omega arith;
      param = omega arith;
      speed = λ e. omega arith;
    };
    no_row = record {
      from = omega arith;
      to = omega arith;
      command = omega arith;
      param = omega arith;
      speed = λ e. omega arith;
    };
  };
  fields = fields_are_read;
  others = record {
    goes_on = λ ticks. (let e = ticks.way in absurd (cc));
    elsewhere = λ ticks. (let e = ticks.way in both_ways (is_left SOUNDS (Left TICKED)) refl (ap (is_left SOUNDS) e));
    gate = λ ticks. (let byte = ticks.plays.but_slides.plays.own.1.1.1.1.1.1.1.1.1.1.1.1.1.1.0 in omega (arith, byte));
    place = λ ticks. (let byte = ticks.plays.but_slides.stays.elsewhere 0x3000
        (elsewhere 0x3000 (omega arith) (omega arith)) in
        omega (arith, byte));
  };
}
