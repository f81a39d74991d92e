-- The code of a lent command in memory.
use Rattle.std.proofs.Common.{◌≡◌, ◌≢◌, ℕ, ◌+◌, ◌*◌, ◌<◌, true, refl, ap, ◌∙◌}
use Rattle.code_runs.specs.Runs.{put}
use Rattle.code_runs.proofs.Laws.{put_other}
use Rattle.play_model.specs.State.{Playing}
use Rattle.scopes.specs.Desk.{Desk, Layout}
use Rattle.scopes.specs.Meaning.{each_one, ran}
use Rattle.player_memory.specs.declared.conditions.TheConstants.{WAVE_COMMAND}
use Rattle.player_memory.specs.declared.labels.TheConstants.{COMMAND, PARAM, LENT, KEPT_COMMAND, KEPT_PARAM}
use Rattle.player_memory.specs.Rooms.{IsRoom, MayUse}
use Rattle.player_memory.specs.Playing.{shared_at, IsPlaying, IsAtVoice}
use Rattle.player_desk.proofs.Laws.{VoiceDesk, Reader, reader_of, voice_desk, Came, comes, OwnSpot, SharedSpot}
use Rattle.player_desk.proofs.Laws.{IsSameAt, Done as IsDone, lent_of, begins, is_playing, song_stays, others_stay}
use Rattle.player_desk.proofs.Laws.{all_slides_stay, plays, leads_on, ends}
use Rattle.pitch_code.specs.GivenBackBlock.{given_back_tree, GivesBack, GivesNothing, GivenBackBlockGives}
use Rattle.pitch_code.specs.GivenBackBlock.{with_command, PlaysOwn, GivenBackBlockPlays}
use Rattle.pitch_code.proofs.Returned.{IsLeftWith, own_back, GivenBack, Unchanged, lent_leads, none_leads}
use Rattle.pitch_code.proofs.Returned.{with_own, none_lent, back_done, none_done}

-- a place stays where the voice's own byte and no voice's byte does
stays_left : (r : Reader) (own shared : ℕ → ℕ) (d m : VoiceDesk) (place : ℕ) → IsLeftWith own shared d m →
    ((label : ℕ) → place ≡ r.layout.address (label + 7 * r.voice) → own label ≡ d.own label) →
    ((label : ℕ) → place ≡ r.layout.address label → shared label ≡ d.shared label) → IsSameAt r d m place
stays_left r own shared d m place left owns shares = record {
  own = λ label at. ap (λ byte. byte label) left.own_is ∙ owns label at;
  shared = λ label at. ap (λ byte. byte label) left.shared_is ∙ shares label at;
  low = λ at. left.low;
  high = λ at. left.high;
  slide_low = λ row at. ap (λ byte. byte row) left.slide_low;
  slide_high = λ row at. ap (λ byte. byte row) left.slide_high;
  sid = λ register at. ap (λ byte. byte register) left.sid;
}

gives_back : (layout : Layout) (rows voice : ℕ) (desk : Desk) → IsRoom layout rows → MayUse layout rows → voice < 3 →
    IsAtVoice voice desk → shared_at layout desk.at LENT ≡ 1 → layout.holds WAVE_COMMAND ≡ true →
    GivesBack layout voice desk (ran each_one layout given_back_tree desk)
gives_back layout rows voice desk room uses three at lent keeps = record {
  ends = came.ends;
  at_voice = came.at_voice;
  command = came.shows.memory (OwnSpot COMMAND) refl ∙ ap (λ byte. byte COMMAND) came.holds.own_is;
  param = came.shows.memory (OwnSpot PARAM) refl ∙ ap (λ byte. byte PARAM) came.holds.own_is;
  lent = came.shows.memory (SharedSpot LENT) refl ∙ ap (λ byte. byte LENT) came.holds.shared_is;
  leaves = λ place command param lends.
      came.stays place
      (stays_left r (own_back d) (put d.shared LENT 0) d came.after place came.holds
      (owns place command param)
      (λ label is. put_other d.shared LENT 0 label (λ same. lends (is ∙ ap layout.address same))));
}
  where
    r : Reader
    r = reader_of layout rows voice desk

    d : VoiceDesk
    d = voice_desk layout voice desk

    owns : (place : ℕ) → place ≢ layout.address (COMMAND + 7 * voice) → place ≢ layout.address (PARAM + 7 * voice) →
        (label : ℕ) → place ≡ layout.address (label + 7 * voice) → own_back d label ≡ d.own label
    owns place command param label is =
        put_other (put d.own PARAM (d.shared KEPT_PARAM)) COMMAND (d.shared KEPT_COMMAND) label
        (λ same. command (is ∙ ap (λ n. layout.address (n + 7 * voice)) same))
        ∙ put_other d.own PARAM (d.shared KEPT_PARAM) label
        (λ same. param (is ∙ ap (λ n. layout.address (n + 7 * voice)) same))

    came : Came layout rows voice desk (GivenBack d) (ran each_one layout given_back_tree desk)
    came = comes layout rows voice given_back_tree desk (GivenBack d) room uses three at (lent_leads r d lent keeps)

gives_nothing : (layout : Layout) (rows voice : ℕ) (desk : Desk) → IsRoom layout rows → MayUse layout rows → voice < 3 →
    IsAtVoice voice desk → shared_at layout desk.at LENT ≡ 0 →
    GivesNothing voice desk (ran each_one layout given_back_tree desk)
gives_nothing layout rows voice desk room uses three at none = record {
  ends = came.ends;
  at_voice = came.at_voice;
  leaves = λ place.
      came.stays place
      (stays_left r d.own d.shared d came.after place came.holds (λ label is. refl) (λ label is. refl));
}
  where
    r : Reader
    r = reader_of layout rows voice desk

    d : VoiceDesk
    d = voice_desk layout voice desk

    came : Came layout rows voice desk (Unchanged d) (ran each_one layout given_back_tree desk)
    came = comes layout rows voice given_back_tree desk (Unchanged d) room uses three at (none_leads r d none)

pub given_back_block_gives : GivenBackBlockGives
given_back_block_gives layout rows voice desk room uses three at =
    record {
      lent = gives_back layout rows voice desk room uses three at;
      none = gives_nothing layout rows voice desk room uses three at;
    }

-- ---- of a voice that is playing

plays_own : (layout : Layout) (rows voice : ℕ) (s : Playing) (desk : Desk) → IsRoom layout rows →
    MayUse layout rows → voice < 3 → IsAtVoice voice desk → IsPlaying layout voice s desk.at →
    shared_at layout desk.at LENT ≡ 1 → layout.holds WAVE_COMMAND ≡ true →
    PlaysOwn layout rows voice desk (ran each_one layout given_back_tree desk)
    (with_command (shared_at layout desk.at KEPT_COMMAND) (shared_at layout desk.at KEPT_PARAM) s)
plays_own layout rows voice s desk room uses three at playing lent keeps = record {
  ends = came.ends;
  at_voice = came.at_voice;
  plays = is_playing layout rows voice desk (with_own (lent_of layout desk) s) after m came.shows done.fields
      done.common done.tempos;
  song = song_stays layout rows voice desk after m came.shows done.song;
  lent = came.shows.memory (SharedSpot LENT) refl ∙ done.lent.lent;
  stays = others_stay layout rows voice desk after m came.shows done.sid;
  slides = all_slides_stay layout rows voice desk after m came.shows
      (record { low = came.holds.slide_low; high = came.holds.slide_high });
}
  where
    d : VoiceDesk
    d = voice_desk layout voice desk

    came : Came layout rows voice desk (GivenBack d) (ran each_one layout given_back_tree desk)
    came =
        comes layout rows voice given_back_tree desk (GivenBack d) room uses three at
        (lent_leads (reader_of layout rows voice desk) d lent keeps)

    after : Desk
    after = (ran each_one layout given_back_tree desk).desk

    m : VoiceDesk
    m = came.after

    done : IsDone layout.holds voice (with_own (lent_of layout desk) s) (none_lent (lent_of layout desk)) d m
    done =
        back_done layout.holds voice s (lent_of layout desk) d d m lent came.holds (begins layout voice desk s playing)

pub given_back_block_plays : GivenBackBlockPlays
given_back_block_plays layout rows voice s desk room uses three at playing = record {
  lent = plays_own layout rows voice s desk room uses three at playing;
  none = λ none.
      plays layout rows voice given_back_tree desk s refl room uses three at
      (leads_on true r given_back_tree (ends (Unchanged d))
      (ends (IsDone layout.holds voice s (lent_of layout desk) d)) d
      (record {
        done = λ m left. none_done layout.holds voice s (lent_of layout desk) d d m left
            (begins layout voice desk s playing);
        left = λ name m never. never;
        again = λ m never. never;
      }) (none_leads r d none));
}
  where
    r : Reader
    r = reader_of layout rows voice desk

    d : VoiceDesk
    d = voice_desk layout voice desk
