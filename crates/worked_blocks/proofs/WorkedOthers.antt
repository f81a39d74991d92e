-- What is no voice in its song, and what the code that fetches a row doesn't leave, worked.
use Rattle.std.proofs.Common.{◌≡◌, ℕ, ◌+◌, ◌<◌, ◌≤◌, Bool, true, false, refl, ap, subst, inl, inr, arith}
use Rattle.std.proofs.lemmas.Bool.{both_ways}
use Rattle.std.proofs.lemmas.List.Elements.{All-get_or}
use Rattle.song_model.specs.Walk.{played, prefix_of, cycle_of}
use Rattle.play_model.specs.LookUps.{LookUps}
use Rattle.play_model.specs.FetchRow.{fetch_row}
use Rattle.play_model.specs.Frame.{row_fetched}
use Rattle.song_facts.specs.declared.hold.Hold.{Hold}
use Rattle.song_facts.specs.Hold.{hold_of, how_much}
use Rattle.scopes.specs.Desk.{Layout}
use Rattle.scopes.specs.Meaning.{Outcome, Done}
use Rattle.player_memory.specs.declared.labels.TheConstants.{TICK, GATE_TIMER, NEW_NOTE, OFFSET, ORDERS}
use Rattle.player_memory.specs.Playing.{own_at, IsPlaying}
use Rattle.player_memory.specs.Fetching.{IsPattern, SongStands, Walked, NotWalked, AtEntry, InRun, InLastRun}
use Rattle.player_memory.specs.WorkedFetching.{its_packed}
use Rattle.player_memory.specs.WorkedPlays.{its_desk}
use Rattle.player_memory.proofs.Laws.{behind_slides}
use Rattle.player_desk.proofs.Laws.{Fields, fields_of}
use Rattle.fetch_code.specs.FetchBlock.{IsKept, TellsHold, Fetches}
use Rattle.worked_blocks.specs.WorkedFetches.{laid, its_order, at_note, with_own}
use Rattle.worked_blocks.specs.WorkedGrounds.{looked_up, on_row, on, HasRowsIn, bare, OthersAreDenied, noted}
use Rattle.worked_blocks.specs.WorkedGrounds.{LeavesNote, note_run, with_other, LeavingIsWorked}
use Rattle.fetch_code.proofs.Laws.{fetch_block_fetches}
use Rattle.worked_blocks.proofs.WorkedGrounds.{is_laid, room, uses, playing, note, orderlist, rows, plays_zero}

-- ---- no voice in its song

pattern_of : (look : LookUps) (at : ℕ → ℕ) → HasRowsIn at (looked_up look) (on_row 2) →
    IsPattern (laid false) 4 at (looked_up look) 0 (its_packed 0)
pattern_of look at has =
    subst (λ p. IsPattern (laid false) 4 at (looked_up look) p (its_packed p)) (plays_zero 0) (has.pattern 0)

-- with an offset of 1 the row is the first
first_row : (look : LookUps) → ¬ SongStands (laid false) (looked_up look) its_packed its_order (on_row 2)
    (own_at (laid false) (with_own OFFSET 1 (at_note 2)) 1)
first_row look (AtEntry none (Walked some first pattern transpose walk entries)) =
    (let row = first.1 refl in omega (arith, row))
first_row look (AtEntry none (NotWalked through first walk)) = omega (arith, through)
first_row look (InRun some rests inside next) = some refl
first_row look (InLastRun some rests last next) = some refl

-- a number that stands there tells what this instrument holds
not_from : {layout : Layout} {at : ℕ → ℕ} {label : ℕ} {look : LookUps} {hold : Hold} (from instrument : ℕ) →
    TellsHold layout 4 at label look hold instrument → at (layout.address label) ≡ from →
    how_much hold ≤ how_much (hold_of (look.instrument instrument)) → instrument < from → ⊥
not_from from instrument tells is holds less =
    let below = tells.tells.1 holds in
    let stands = tells.stands.is in
    omega (arith, below, stands, is, less)

not_below : {layout : Layout} {at : ℕ → ℕ} {label : ℕ} {look : LookUps} {hold : Hold} (from instrument : ℕ) →
    TellsHold layout 4 at label look hold instrument → at (layout.address label) ≡ from → from ≤ instrument →
    how_much (hold_of (look.instrument instrument)) < how_much hold → ⊥
not_below from instrument tells is high less =
    let stands = tells.stands.is in
    let holds = tells.tells.0 (omega (arith, stands, is, high)) in
    omega (arith, holds, less)

pub others_are_denied : (look : LookUps) → OthersAreDenied look
others_are_denied look = record {
  endmark = λ kept. (let below = kept.below in omega (arith, below));
  transpose = λ kept. (let low = kept.transpose refl in omega (arith, low));
  repeat = λ kept.
      elim (kept.repeat refl) [
        | inl low ↦ (let l = low in omega (arith, l))
        | inr high ↦ (let l = high in omega (arith, l))
      ];
  number = record { below = omega arith; transpose = λ none. omega arith; repeat = λ none. inl (omega arith) };
  address = λ has. (let small = has.address in omega (arith, small));
  last_byte = λ has. (let byte = (has.stands 4 (omega arith)).is in omega (arith, byte));
  end_byte = λ has. (let byte = (has.stands 3 (omega arith)).is in omega (arith, byte));
  restart = λ has. (let inside = has.endless.restart in omega (arith, inside));
  not_kept = λ has.
      (let low = (All-get_or (IsKept bare) its_order.entries 0 0 (omega arith) has.each).transpose refl in
      omega (arith, low));
  pattern = λ has. (let byte = ((pattern_of look _ has).listed 1 (omega arith)).is in omega (arith, byte));
  low = λ has. (let byte = (pattern_of look _ has).low.is in omega (arith, byte));
  high = λ has. (let byte = (pattern_of look _ has).high.is in omega (arith, byte));
  spells = λ has. (let least = (has.pattern 0).spells.count.least in omega (arith, least));
  timer = λ has. (let byte = (has.timer refl).is in omega (arith, byte));
  timer_byte = λ has. (let byte = has.timer_byte in omega (arith, byte));
  other_timer = λ has. (let byte = (has.one_timer refl).is in omega (arith, byte));
  own_timer = λ has. (has.one_timer refl).elsewhere.variables (GATE_TIMER + 7) (omega arith) refl;
  unread_timer = λ has. absurd (cc ((has.one_timer refl).reads));
  gate_behind = λ has. not_from 2 1 (has.gates refl refl) refl (omega arith) (omega arith);
  gate_from = λ has. not_below 1 1 (has.gates refl refl) refl (omega arith) (omega arith);
  envelope_behind = λ has. not_from 2 1 (has.envelopes refl refl) refl (omega arith) (omega arith);
  envelope_from = λ has. not_below 1 1 (has.envelopes refl refl) refl (omega arith) (omega arith);
  unread_gate_from = λ has. absurd (cc ((has.gates refl refl).stands.reads));
  by_timer = λ has. (let byte = (has.timer refl).is in omega (arith, byte));
  plain = record {
    gate = λ is. elim is [ inl off ↦ absurd (omega (arith, off)) | inr on ↦ absurd (omega (arith, on)) ];
    tone = λ is. absurd (omega (arith, is));
    legato = λ is. absurd (is refl);
    soft = λ is. absurd (is.1 refl);
    shared = record {
      tone = λ on. absurd cc;
      slide = λ on. absurd cc;
      once = λ on. absurd cc;
      delay = λ on. absurd cc;
      command = λ on. absurd cc;
      legato = λ on. absurd cc;
      soft = λ on. absurd cc;
      filter = λ on. absurd cc;
      control = λ on. absurd cc;
      cutoff = λ on. absurd cc;
    };
  };
  key_off = λ keeps. (let on = keeps.gate (inl refl) in absurd cc);
  key_on = λ keeps. (let on = keeps.gate (inr refl) in absurd cc);
  tone = λ keeps. (let on = keeps.tone refl in absurd cc);
  legato = λ keeps. (let on = keeps.legato (λ e. omega (arith, e)) in absurd cc);
  soft = λ keeps. (let on = keeps.soft (refl, λ e. omega (arith, e)) in absurd cc);
  shared = λ keeps. (let on = keeps.shared.legato refl in absurd cc);
  tick = λ has. (let byte = has.tick in omega (arith, byte));
  gate_timer = λ has. (let byte = has.gate_timer in omega (arith, byte));
  command = λ has. (let byte = has.command in omega (arith, byte));
  order_low = λ sung. (let byte = sung.has.low_is in omega (arith, byte));
  order_high = λ sung. (let byte = sung.has.high_is in omega (arith, byte));
  entry = λ sung. first_row look sung.stands;
  at_fetch = refl;
  not_asked = refl;
  between = refl;
  later = refl;
  within = refl;
}

-- ---- what is left

noted_is : (look : LookUps) → row_fetched (looked_up look) its_order (on 2) ≡ noted
unfolding fetch_row played prefix_of cycle_of
noted_is look = refl

leaves_note : (look : LookUps) → LeavesNote look note_run
leaves_note look =
    subst (Fetches (laid false) 4 1 ORDERS (looked_up look) its_packed its_order (its_desk 7 false (at_note 2)) note_run
    Done) (noted_is look)
    (fetch_block_fetches (laid false) 4 1 ORDERS (looked_up look) its_packed its_order (on 2)
    (its_desk 7 false (at_note 2)) room uses (omega arith) (record { x = refl; decimal = refl }) playing refl
    (note look) orderlist (rows look))

abbrev is_done : Outcome → Bool
is_done Done = true
is_done outcome = false

its_fields : (at : ℕ → ℕ) → IsPlaying (laid false) 1 noted at →
    Fields (laid false).holds noted.voice 5 (own_at (laid false) at 1)
its_fields at plays = fields_of (laid false).holds noted.voice 5 (own_at (laid false) at 1) plays.own

other_song : (look : LookUps) → ¬ SongStands (laid false) (looked_up look) its_packed its_order noted.voice
    (own_at (laid false) (with_other (OFFSET + 7) 2).desk.at 1)
other_song look (AtEntry none (Walked some first pattern transpose walk entries)) =
    (let offset = first.0 refl in omega (arith, offset))
other_song look (AtEntry none (NotWalked through first walk)) = omega (arith, through)
other_song look (InRun some rests inside next) = some refl
other_song look (InLastRun some rests last next) = some refl

pub leaving_is_worked : (look : LookUps) → LeavingIsWorked look
leaving_is_worked look = record {
  note = leaves_note look;
  passed = λ l. both_ways false refl (ap is_done l.takes);
  other_x = λ l. (let x = l.at_voice.x in omega (arith, x));
  other_note = λ l. (let byte = (its_fields (with_other (NEW_NOTE + 7) 0x60).desk.at l.plays).new_note in
      omega (arith, byte));
  order = λ l. (let byte = l.song.has.low_is in omega (arith, byte));
  song = λ l. other_song look l.song.stands;
  lent = λ l. (let byte = l.lent in omega (arith, byte));
  other_voice = λ l. (let byte = l.stays.others 0 TICK (omega arith) (λ e. omega (arith, e)) refl
      (λ e. omega (arith, e)) in omega (arith, byte));
  register = λ l. (let byte = l.stays.registers 4 (omega arith) in omega (arith, byte));
  elsewhere = λ l. (let byte = l.stays.elsewhere 0x2000
      (behind_slides (laid false) is_laid 0x2000 (omega arith) (omega arith)) in omega (arith, byte));
  slide = λ l. (let byte = (l.slides refl 3 (omega arith)).high in omega (arith, byte));
}
