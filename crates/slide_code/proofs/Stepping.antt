-- The code of the effect step in memory.
use Rattle.std.proofs.Common.{◌≡◌, ℕ, ◌+◌, ◌/◌, ◌%◌, ◌<◌, ◌≤◌, Bool, true, false, nat_eq}
use Rattle.std.proofs.Common.{refl, sym, ap, ◌∙◌, subst}
use Rattle.std.proofs.Common.{arith}
use Rattle.std.proofs.lemmas.Bool.{both_ways}
use Rattle.song_model.specs.declared.tables.TableName.TheVariants.{Speed}
use Rattle.play_model.specs.LookUps.{LookUps}
use Rattle.play_model.specs.Freq.{freq}
use Rattle.play_model.specs.State.{Playing}
use Rattle.play_model.specs.WaveStep.{with_note}
use Rattle.asked_numbers.specs.declared.range.NumberRange.{NumberRange}
use Rattle.scopes.specs.Desk.{Desk, Layout}
use Rattle.scopes.specs.Meaning.{Ran, each_one, ran}
use Rattle.player_memory.specs.declared.conditions.TheConstants.{NOTE_DEPENDENT}
use Rattle.player_memory.specs.declared.labels.TheConstants.{FREQUENCY_LOWS, FREQUENCY_HIGHS, NEXT_FREQUENCY_LOWS}
use Rattle.player_memory.specs.declared.labels.TheConstants.{NEXT_FREQUENCY_HIGHS, SPEED_LEFTS, SPEED_RIGHTS, PERIODS}
use Rattle.player_memory.specs.declared.labels.TheConstants.{SLIDES_LOW, SLIDES_HIGH}
use Rattle.player_memory.specs.Rooms.{IsRoom, MayUse}
use Rattle.player_memory.specs.Playing.{place_in, IsAtVoice, PlaysButSlides, SlidesStay}
use Rattle.scopes.specs.declared.line.Half.TheVariants.{Low, High}
use Rattle.player_desk.proofs.Laws.{VoiceDesk, Leads, Shows, SlideSpot}
use Rattle.player_desk.proofs.Laws.{ends, leaves, leads_on, Reads}
use Rattle.player_desk.proofs.Laws.{reader_of, voice_desk, lent_of, finds, begins, but_slides_so, ends_so, leaves_so}
use Rattle.player_desk.proofs.VoiceDesks.{Either}
use Rattle.player_text.specs.declared.joints.TheConstants.{EFFECTED}
use Rattle.slide_code.specs.SlideBlock.{slide_tree, moved_by, arrives, HasHalfTones, HasSpeeds, way_of}
use Rattle.player_memory.specs.Playing.{with_voice}
use Rattle.slide_code.specs.SlideBlock.{left_by}
use Rattle.player_memory.specs.Playing.{there}
use Rattle.slide_code.specs.SlideBlock.{Slides, SlideBlockSteps}
use Rattle.slide_code.proofs.SlideGrounds.{NotesAt, SpeedAt, Stands, Running, SlidesLeft, Pitched, Effected, slide_ways}
use Rattle.slide_code.proofs.Kept.{commands_keep}
use Rattle.slide_code.proofs.Slides.{note_sounds, slide_leads}

-- ---- the lists

next_place : (layout : Layout) (label next number : ℕ) → layout.address next ≡ layout.address label + 1 →
    place_in layout label (number + 1) ≡ place_in layout next number
next_place layout label next number e = rw e (ap (λ n. n % 65536) (omega arith))

pub notes_at : (layout : Layout) (rows voice : ℕ) (range : NumberRange) (desk : Desk) →
    HasHalfTones layout rows desk.at range → NotesAt (reader_of layout rows voice desk) range
notes_at layout rows voice range desk has = record {
  low = λ n inside. finds layout rows voice desk FREQUENCY_LOWS n _ (has.frequencies.low n inside);
  high = λ n inside. finds layout rows voice desk FREQUENCY_HIGHS n _ (has.frequencies.high n inside);
  next_low = λ n inside.
      subst (λ place. Reads (reader_of layout rows voice desk) place (freq (n + 1) % 256))
      (next_place layout FREQUENCY_LOWS NEXT_FREQUENCY_LOWS n has.next_low)
      (finds layout rows voice desk FREQUENCY_LOWS (n + 1) _ (has.frequencies.low (n + 1) inside));
  next_high = λ n inside.
      subst (λ place. Reads (reader_of layout rows voice desk) place (freq (n + 1) / 256))
      (next_place layout FREQUENCY_HIGHS NEXT_FREQUENCY_HIGHS n has.next_high)
      (finds layout rows voice desk FREQUENCY_HIGHS (n + 1) _ (has.frequencies.high (n + 1) inside));
}

-- a slide stands below the end of memory
inside : (address rows p : ℕ) → address + rows ≤ 0xD000 → p < rows → (address + p) % 65536 ≡ address + p
inside address rows p most few = omega (arith, most, few)

pub speed_at : (layout : Layout) (rows voice count : ℕ) (look : LookUps) (desk : Desk) (p : ℕ) → IsRoom layout rows →
    HasSpeeds layout rows desk.at look count → p ≤ count →
    SpeedAt (reader_of layout rows voice desk) look p (voice_desk layout voice desk)
speed_at layout rows voice count look desk p room has few =
    let each = has.each p few in record {
      left = finds layout rows voice desk SPEED_LEFTS p _ each.sides.left;
      right = finds layout rows voice desk SPEED_RIGHTS p _ each.sides.right;
      period = λ kept. finds layout rows voice desk PERIODS p _ (each.period kept);
      left_byte = each.sides.left_byte;
      right_byte = each.sides.right_byte;
      places = record {
        row = row;
        low = λ kept. inside (layout.address SLIDES_LOW) rows p (room.slides kept).low.to (row kept);
        high = λ kept. inside (layout.address SLIDES_HIGH) rows p (room.slides kept).high.to (row kept);
      };
      low = λ plain. record {
        own = λ kept. each.low kept plain;
        in_list = λ none. finds layout rows voice desk SLIDES_LOW p _ (each.low_listed none);
      };
      high = λ plain. record {
        own = λ kept. each.high kept plain;
        in_list = λ none. finds layout rows voice desk SLIDES_HIGH p _ (each.high_listed none);
      };
    }
  where
    row : layout.holds NOTE_DEPENDENT ≡ true → p < rows
    row kept = (let most = has.slides kept in omega (arith, most, few))

-- ---- both ways

abbrev running : Layout → ℕ → ℕ → ℕ → NumberRange → LookUps → Playing → Desk → Running
running layout rows voice command range look s desk = record {
  r = reader_of layout rows voice desk;
  range = range;
  look = look;
  s = s;
  handed = lent_of layout desk;
  d = voice_desk layout voice desk;
  before = voice_desk layout voice desk;
  command = command;
}

-- slides that are as before on the desk are so in memory
slides_stay : (layout : Layout) (rows voice : ℕ) (look : LookUps) (desk after : Desk) (m : VoiceDesk) →
    Shows true (reader_of layout rows voice desk) after m → SlidesLeft look (voice_desk layout voice desk) m →
    layout.holds NOTE_DEPENDENT ≡ true → (row : ℕ) → row < rows → (look.row Speed row).left < 128 →
    SlidesStay layout row after.at desk.at
slides_stay layout rows voice look desk after m shows left kept row few plain = record {
  low = shows.memory (SlideSpot Low row) (kept, few) ∙ left.low row plain;
  high = shows.memory (SlideSpot High row) (kept, few) ∙ left.high row plain;
}

slides : (layout : Layout) (rows voice command : ℕ) (range : NumberRange) (look : LookUps) (s : Playing)
    (desk : Desk) → IsRoom layout rows → MayUse layout rows → voice < 3 → IsAtVoice voice desk →
    Leads (reader_of layout rows voice desk) slide_tree (slide_ways (running layout rows voice command range look s desk))
    (voice_desk layout voice desk) → (b : Bool) → arrives command look s.voice ≡ b →
    Slides layout rows voice desk (ran each_one layout slide_tree desk) command look s
slides layout rows voice command range look s desk room uses few at leads true e =
    let went = ends_so layout rows voice slide_tree desk (Pitched g) room uses few at
    (leads_on true g.r slide_tree (slide_ways g) (ends (Pitched g)) g.d
    (record { done = λ m done. done; left = λ name m q. absurd (never name m q); again = λ m q. q }) leads) in
    let came = went.came in
    record {
      way = went.way ∙ ap way_of (sym e);
      plays =
          subst (λ v. PlaysButSlides layout rows voice desk (there run) (with_voice v s)) (sym stays)
          (but_slides_so layout rows voice desk (Pitched g) (there run) s came (λ m q. q.tells.done));
      note = λ yes. record {
        number = came.shows.a ∙ came.holds.number;
        is = subst (λ a. moved_by command look s.voice ≡ with_note a s.voice) (sym came.shows.a) came.holds.is;
      };
      slides = slides_stay layout rows voice look desk run.desk came.after came.shows came.holds.tells.slides;
    }
  where
    g : Running
    g = running layout rows voice command range look s desk

    run : Ran
    run = ran each_one layout slide_tree desk

    stays : left_by command look s.voice ≡ s.voice
    stays = rw e refl

    never : (name : ℕ) (m : VoiceDesk) → (slide_ways g).Left name m → ⊥
    never name m q = by_name (nat_eq name EFFECTED) q
      where
        by_name : (z : Bool) → Either z (Effected g m) ⊥ → ⊥
        by_name true effected = both_ways _ effected.passes e
        by_name false none = none
slides layout rows voice command range look s desk room uses few at leads false e =
    let went = leaves_so EFFECTED layout rows voice slide_tree desk (Effected g) room uses few at
    (leads_on true g.r slide_tree (slide_ways g) (leaves EFFECTED (Effected g)) g.d
    (record {
      done = λ m done. absurd (both_ways _ e done.arrives);
      left = λ name m q. q;
      again = λ m q. q;
    }) leads) in
    let came = went.came in
    record {
      way = went.way ∙ ap way_of (sym e);
      plays =
          subst (λ v. PlaysButSlides layout rows voice desk (there run) (with_voice v s)) (sym moves)
          (but_slides_so layout rows voice desk (Effected g) (there run) (with_voice (moved_by command look s.voice) s)
          came (λ m q. q.tells.done));
      note = λ yes. absurd (both_ways _ e yes);
      slides = slides_stay layout rows voice look desk run.desk came.after came.shows came.holds.tells.slides;
    }
  where
    g : Running
    g = running layout rows voice command range look s desk

    run : Ran
    run = ran each_one layout slide_tree desk

    moves : left_by command look s.voice ≡ moved_by command look s.voice
    moves = rw e refl

-- ---- the clause

pub slide_block_steps : SlideBlockSteps
slide_block_steps layout rows voice count command range look s desk room uses notes has few at playing on looks keeps
    common =
    slides layout rows voice command range look s desk room uses few at
    (slide_leads (running layout rows voice command range look s desk) stands on.its on.a
    (begins layout voice desk s playing))
    (arrives command look s.voice) refl
  where
    stands : Stands (running layout rows voice command range look s desk)
    stands = record {
      notes = notes_at layout rows voice range desk notes;
      looks = looks;
      sounds = note_sounds s.voice.note on.note.sounds on.note.byte;
      row = speed_at layout rows voice count look desk s.voice.param room has on.param;
      keeps = keeps;
      common = common;
      effects = commands_keep layout look command s.voice common keeps on.least on.most;
      small = on.frequency;
      param = (let p = on.param in let f = has.few in omega (arith, p, f));
      least = on.least;
      most = on.most;
    }
