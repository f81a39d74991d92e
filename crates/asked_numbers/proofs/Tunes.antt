-- The notes of small songs: what their rows and orderlists play.
use Rattle.std.proofs.Common.{◌≡◌, ℕ, ℤ, pos, ◌<◌, ◌≤◌, true, List, [], ◌∷◌, All, Contains, inl, inr, refl, sym, subst}
use Rattle.std.proofs.Common.{arith}
use Rattle.std.proofs.lemmas.List.Elements.{All-nil, All-cons}
use Rattle.song_model.specs.declared.rows.Row.{Row}
use Rattle.song_model.specs.declared.orders.Order.{Order}
use Rattle.song_model.specs.declared.orders.Subtune.{Subtune}
use Rattle.song_model.specs.declared.songs.Song.{Song}
use Rattle.song_model.specs.LookUp.{pattern_at, playable_subtunes}
use Rattle.song_model.specs.Silence.{rest_row}
use Rattle.play_model.specs.Wrap.{byte_minus}
use Rattle.play_model.specs.FetchRow.{is_note, transposed}
use Rattle.play_model.specs.Used.{IsPlayedOrder}
use Rattle.play_model.specs.WorkedSongs.{order, subtune, row, rests, one_note}
use Rattle.asked_numbers.specs.Numbers.{IsTransposeOf, IsPlayedNote}
use Rattle.asked_numbers.proofs.Made.{EachOrder, SetsSuch, HasSuch, NamesSuch, Plays, PlaysAlone, plays_alone}
use Rattle.asked_numbers.proofs.Made.{played_notes, IsTame}

-- ---- rows and orderlists

pub tame : (note instrument command param : ℕ) → instrument ≤ 1 → (command ≡ 8 → param ≡ 1) →
    IsTame command (row note instrument command param)
tame note instrument command param first begins =
    record { instrument = first; command_is = inr refl; begins = begins }

pub rest_tame : (command : ℕ) → All (IsTame command) (rests 1)
rest_tame command =
    All-cons (IsTame command) rest_row []
    (record { instrument = omega arith; command_is = inl refl; begins = λ e. absurd (omega (arith, e)) })
    (All-nil (IsTame command))

-- a row alone
pub row_tame : (note : ℕ) → All (IsTame 0) (row note 1 0 0 ∷ [])
row_tame note =
    All-cons (IsTame 0) (row note 1 0 0) [] (tame note 1 0 0 (omega arith) (λ e. absurd (omega (arith, e))))
    (All-nil (IsTame 0))

-- a row and a keyoff
pub keyed_tame : (note : ℕ) → All (IsTame 0) (row note 1 0 0 ∷ row 0xBE 0 0 0 ∷ [])
keyed_tame note =
    All-cons (IsTame 0) (row note 1 0 0) (row 0xBE 0 0 0 ∷ [])
    (tame note 1 0 0 (omega arith) (λ e. absurd (omega (arith, e))))
    (All-cons (IsTame 0) (row 0xBE 0 0 0) [] (tame 0xBE 0 0 0 (omega arith) (λ e. absurd (omega (arith, e))))
    (All-nil (IsTame 0)))

-- first a pattern, and then rests
pub two_tame : (command : ℕ) (first : List Row) → All (IsTame command) first →
    All (All (IsTame command)) (first ∷ rests 1 ∷ [])
two_tame command first h =
    All-cons (All (IsTame command)) first (rests 1 ∷ []) h
    (All-cons (All (IsTame command)) (rests 1) [] (rest_tame command) (All-nil (All (IsTame command))))

pub one_has : (note : ℕ) → All (HasSuch (λ n. n ≡ note)) (row note 1 0 0 ∷ [])
one_has note =
    All-cons (HasSuch (λ n. n ≡ note)) (row note 1 0 0) [] (λ h. refl) (All-nil (HasSuch (λ n. n ≡ note)))

pub keyed_has : (note : ℕ) → All (HasSuch (λ n. n ≡ note)) (row note 1 0 0 ∷ row 0xBE 0 0 0 ∷ [])
keyed_has note =
    All-cons (HasSuch (λ n. n ≡ note)) (row note 1 0 0) (row 0xBE 0 0 0 ∷ []) (λ h. refl)
    (All-cons (HasSuch (λ n. n ≡ note)) (row 0xBE 0 0 0) [] (λ h. absurd cc) (All-nil (HasSuch (λ n. n ≡ note))))

abbrev pub NoNote : ℕ → Type 0
NoNote note = ⊥

pub rest_has : (command param : ℕ) → All (HasSuch NoNote) (row 0xBD 0 command param ∷ [])
rest_has command param =
    All-cons (HasSuch NoNote) (row 0xBD 0 command param) [] (λ h. absurd cc) (All-nil (HasSuch NoNote))

abbrev pub Any : ℤ → Type 0
Any transpose = Unit {0}

abbrev pub NoShift : ℤ → Type 0
NoShift transpose = transpose ≡ pos 0

-- an orderlist of one entry below $E0
pub plays_one : (song : Song) (IsSuch : ℕ → Type 0) (byte : ℕ) → byte < 0xE0 → NamesSuch song IsSuch byte →
    Plays song IsSuch NoShift (order (byte ∷ []))
plays_one song IsSuch byte low names = record {
  none = refl;
  sets =
      All-cons (SetsSuch NoShift) byte [] (λ high. absurd (omega (arith, low, high))) (All-nil (SetsSuch NoShift));
  rows = All-cons (NamesSuch song IsSuch) byte [] names (All-nil (NamesSuch song IsSuch));
}

-- an orderlist of a repeat or a transpose and an entry below $E0
pub plays_after : (song : Song) (IsSuch : ℕ → Type 0) (IsShift : ℤ → Type 0) (before byte : ℕ) → 0xD0 ≤ before →
    byte < 0xE0 → IsShift (pos 0) → SetsSuch IsShift before → NamesSuch song IsSuch byte →
    Plays song IsSuch IsShift (order (before ∷ byte ∷ []))
plays_after song IsSuch IsShift before byte high low none sets names = record {
  none = none;
  sets =
      All-cons (SetsSuch IsShift) before (byte ∷ []) sets
      (All-cons (SetsSuch IsShift) byte [] (λ from. absurd (omega (arith, low, from))) (All-nil (SetsSuch IsShift)));
  rows =
      All-cons (NamesSuch song IsSuch) before (byte ∷ []) (λ is. absurd (omega (arith, high, is)))
      (All-cons (NamesSuch song IsSuch) byte [] names (All-nil (NamesSuch song IsSuch)));
}

-- an orderlist whose patterns have no notes plays none
pub quiet : (song : Song) (IsNote : ℕ → Type 0) (IsShift : ℤ → Type 0) (o : Order) → Plays song NoNote IsShift o →
    PlaysAlone song IsNote o
quiet song IsNote IsShift o plays = plays_alone song IsNote NoNote IsShift o (λ note t none by. absurd none) plays

-- the orderlist of the first voice of a subtune that can be played
pub first_is_played : (song : Song) (one two : List ℕ) →
    Contains (playable_subtunes song) (subtune one two (1 ∷ [])) → IsPlayedOrder song (order one)
first_is_played song one two playable = record {
  subtune = subtune one two (1 ∷ []);
  playable = playable;
  channel = 1;
  is_channel = record { first = omega arith; last = omega arith };
  order_is = refl;
}

pub its_note : (song : Song) (one two : List ℕ) (pattern : ℕ) (r : Row) (t : ℤ) →
    Contains (playable_subtunes song) (subtune one two (1 ∷ [])) → Contains one pattern → pattern < 0xD0 →
    Contains (pattern_at song pattern) r → is_note r.note ≡ true → IsTransposeOf (order one) t →
    IsPlayedNote song (byte_minus (transposed r.note t) 0x60)
its_note song one two pattern r t playable entry low has sounds by = record {
  order = order one;
  played = first_is_played song one two playable;
  pattern = pattern;
  entry = entry;
  is_pattern = low;
  row = r;
  has = has;
  plays = sounds;
  transpose = t;
  by = by;
  note_is = refl;
}

-- ---- notes

-- of one subtune, whose third orderlist rests
module _ (song : Song) (IsNote : ℕ → Type 0) (rest : NamesSuch song NoNote 1) where
  pub rests_one : PlaysAlone song IsNote (order (1 ∷ []))
  rests_one = quiet song IsNote NoShift (order (1 ∷ [])) (plays_one song NoNote 1 (omega arith) rest)

  pub tunes : (one two : List ℕ) → song.subtunes ≡ subtune one two (1 ∷ []) ∷ [] → PlaysAlone song IsNote (order one) →
      PlaysAlone song IsNote (order two) → (note : ℕ) → IsPlayedNote song note → IsNote note
  tunes one two is first second =
      played_notes song IsNote
      (subst (λ (all : List Subtune). All (EachOrder (PlaysAlone song IsNote)) all) (sym is)
      (All-cons (EachOrder (PlaysAlone song IsNote)) (subtune one two (1 ∷ [])) []
      (record { one = first; two = second; three = rests_one })
      (All-nil (EachOrder (PlaysAlone song IsNote)))))

-- note 48 alone
pub note_alone : (song : Song) (IsNote : ℕ → Type 0) → IsNote 48 → (entries : List ℕ) →
    Plays song (λ n. n ≡ 0x90) NoShift (order entries) → PlaysAlone song IsNote (order entries)
note_alone song IsNote is entries plays =
    plays_alone song IsNote (λ n. n ≡ 0x90) NoShift (order entries) (λ note t e f. rw (e, f) is) plays

pub one_tame : All (All (IsTame 0)) one_note.patterns
one_tame = two_tame 0 (row 0x90 1 0 0 ∷ row 0xBE 0 0 0 ∷ []) (keyed_tame 0x90)
