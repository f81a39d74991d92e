-- What the code of a note's frequency leaves.
use Rattle.std.proofs.Common.{◌≡◌, ℕ, ◌/◌, ◌%◌, true, refl}
use Rattle.std.proofs.lemmas.Bool.{both_ways}
use Rattle.play_model.specs.Freq.{freq}
use Rattle.play_model.specs.State.{Playing}
use Rattle.play_model.specs.WaveStep.{with_note}
use Rattle.asked_numbers.specs.declared.range.NumberRange.{NumberRange}
use Rattle.asked_numbers.specs.Range.{IsInRange}
use Rattle.scopes.specs.Trees.{Tree, ThenTree, NeverTree}
use Rattle.player_memory.specs.declared.conditions.TheConstants.{NOTE_DEPENDENT, SWINGS}
use Rattle.player_memory.specs.declared.labels.TheConstants.{LAST_NOTE, VIB_TIME, FREQUENCY_LOWS, FREQUENCY_HIGHS}
use Rattle.player_desk.proofs.Laws.{VoiceDesk, Reader, Leads, ends, goes_on, indexed}
use Rattle.player_desk.proofs.Laws.{Lent, Done, own_done, Reads, listed, place_at}
use Rattle.pitch_code.specs.PitchBlock.{pitch_tree}

-- the bytes of the frequencies of a range
pub record FrequenciesAt (r : Reader) (range : NumberRange) : Type 0 where
  pub low : (n : ℕ) → IsInRange range n → Reads r (place_at r FREQUENCY_LOWS n) (freq n % 256)
  pub high : (n : ℕ) → IsInRange range n → Reads r (place_at r FREQUENCY_HIGHS n) (freq n / 256)

abbrev pub sounding : ℕ → Playing → Playing
sounding note s = record s { voice = with_note note s.voice }

-- ---- on the way

abbrev behind : Tree → Tree
behind (ThenTree first rest) = rest
behind tree = NeverTree

abbrev first_of : Tree → Tree
first_of (ThenTree first rest) = first
first_of tree = NeverTree

-- from behind the lines that keep the note, and from those of the vibrato's time on
abbrev from_number : Tree
from_number = behind pitch_tree

abbrev from_time : Tree
from_time = behind from_number

-- the note is the voice's last one; and the vibrato begins
abbrev noted : ℕ → Playing → Playing
noted note s = record s { voice = record s.voice { last_note = note } }

abbrev timed : ℕ → Playing → Playing
timed note s = record s { voice = record s.voice { last_note = note; vib_time = 0 } }

-- A is the note
record AtNoted (r : Reader) (s : Playing) (handed : Lent) (d : VoiceDesk) (note : ℕ) (m : VoiceDesk) : Type 0 where
  a : m.a ≡ note
  done : Done r.layout.holds r.voice (noted note s) handed d m

-- Y is it
record AtTimed (r : Reader) (s : Playing) (handed : Lent) (d : VoiceDesk) (note : ℕ) (m : VoiceDesk) : Type 0 where
  y : m.y ≡ note
  done : Done r.layout.holds r.voice (timed note s) handed d m

noted_leads : (r : Reader) (s : Playing) (handed : Lent) (d m : VoiceDesk) → Done r.layout.holds r.voice s handed d m →
    Leads r (first_of pitch_tree) (ends (AtNoted r s handed d m.a)) m
noted_leads r s handed d m done = (
  λ kept. record {
    a = refl;
    done =
        let is : r.layout.holds NOTE_DEPENDENT ≡ true → m.a ≡ m.a = λ on. refl in
        own_done r.layout.holds r.voice s (noted m.a s) handed d m _ refl refl refl
        (assumption (is, done.fields)) (assumption done.song) done;
  },
  λ out. record {
    a = refl;
    done =
        let is : r.layout.holds NOTE_DEPENDENT ≡ true → m.own LAST_NOTE ≡ m.a = λ on. absurd (both_ways _ out on) in
        own_done r.layout.holds r.voice s (noted m.a s) handed d m m refl refl refl
        (assumption (is, done.fields)) done.song done;
  },
)

timed_leads : (r : Reader) (s : Playing) (handed : Lent) (d : VoiceDesk) (note : ℕ) (m : VoiceDesk) →
    AtNoted r s handed d note m →
    Leads r (first_of from_time) (ends (AtTimed r s handed d note)) (indexed m.a m)
timed_leads r s handed d note m at = (
  λ kept. record {
    y = at.a;
    done =
        let is : r.layout.holds SWINGS ≡ true → ◌≡◌ {A = ℕ} 0 0 = λ on. refl in
        own_done r.layout.holds r.voice (noted note s) (timed note s) handed d m _ refl refl refl
        (assumption (is, at.done.fields)) (assumption at.done.song) at.done;
  },
  λ out. record {
    y = at.a;
    done =
        let is : r.layout.holds SWINGS ≡ true → m.own VIB_TIME ≡ 0 = λ on. absurd (both_ways _ out on) in
        own_done r.layout.holds r.voice (noted note s) (timed note s) handed d m (indexed m.a m) refl refl refl
        (assumption (is, at.done.fields)) at.done.song at.done;
  },
)

-- ---- the frequency

frequency_leads : (r : Reader) (range : NumberRange) (s : Playing) (handed : Lent) (d : VoiceDesk) (note : ℕ)
    (m : VoiceDesk) → FrequenciesAt r range → IsInRange range note → AtTimed r s handed d note m →
    Leads r (behind from_time) (ends (Done r.layout.holds r.voice (sounding note s) handed d)) m
frequency_leads r range s handed d note m at inside begun =
    listed FREQUENCY_LOWS note (freq note % 256) (at.low note inside) begun.y
    (λ low e.
    listed FREQUENCY_HIGHS note (freq note / 256) (at.high note inside) begun.y
    (λ high f.
    own_done r.layout.holds r.voice (timed note s) (sounding note s) handed d m _ refl refl refl
    (assumption (e, f, begun.done.fields)) (assumption begun.done.song) begun.done))

-- On the desk of a voice the code sets the note in A, whose frequency is found.
pub pitch_leads : (r : Reader) (range : NumberRange) (s : Playing) (handed : Lent) (d m : VoiceDesk) →
    FrequenciesAt r range → IsInRange range m.a → Done r.layout.holds r.voice s handed d m →
    Leads r pitch_tree (ends (Done r.layout.holds r.voice (sounding m.a s) handed d)) m
pitch_leads r range s handed d m at inside done =
    goes_on true r (first_of pitch_tree) from_number (AtNoted r s handed d m.a)
    (ends (Done r.layout.holds r.voice (sounding m.a s) handed d)) m
    (noted_leads r s handed d m done)
    (λ n is.
    goes_on true r (first_of from_time) (behind from_time) (AtTimed r s handed d m.a)
    (ends (Done r.layout.holds r.voice (sounding m.a s) handed d)) (indexed n.a n)
    (timed_leads r s handed d m.a n is)
    (λ k begun. frequency_leads r range s handed d m.a k at inside begun))
