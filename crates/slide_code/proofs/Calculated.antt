-- What the code of a calculated speed leaves: the half tone at the last note, halved.
use Rattle.std.proofs.Common.{◌≡◌, ℕ, ◌+◌, ◌-◌, ◌/◌, ◌%◌, ◌^◌, ◌<◌, ◌≤◌, true}
use Rattle.std.proofs.Common.{refl, sym, ap, ◌∙◌, arith, nat_eq, nat_le}
use Rattle.std.proofs.lemmas.Bool.{leb-true, leb-false, not-true, not-false}
use Rattle.cpu6502.specs.Registers.{one_if}
use Rattle.scopes.specs.Trees.{Tree}
use Rattle.song_model.specs.declared.tables.TableName.TheVariants.{Speed}
use Rattle.play_model.specs.Freq.{freq, half_tone}
use Rattle.asked_numbers.specs.Range.{IsInRange}
use Rattle.player_memory.specs.declared.labels.TheConstants.{PARAM, SPEED_RIGHTS}
use Rattle.player_memory.specs.declared.labels.TheConstants.{FREQUENCY_LOWS, FREQUENCY_HIGHS}
use Rattle.player_memory.specs.declared.labels.TheConstants.{NEXT_FREQUENCY_LOWS, NEXT_FREQUENCY_HIGHS}
use Rattle.player_memory.specs.declared.conditions.TheConstants.{NOTE_DEPENDENT}
use Rattle.player_desk.proofs.Laws.{VoiceDesk, Leads, body_of, rest_of, joined, loaded, indexed, listed, done_as}
use Rattle.player_desk.proofs.Laws.{in_scope}
use Rattle.player_text.specs.declared.slide.TheConstants.{STORED, FEW, WHOLE}
use Rattle.slide_code.proofs.Words.{IsWord}
use Rattle.slide_code.proofs.Distances.{difference}
use Rattle.slide_code.proofs.SlideGrounds.{Running, Tells, Stands}
use Rattle.slide_code.proofs.Moves.{tells_over}
use Rattle.slide_code.proofs.Rules.{speed_of, calculated_speed}
use Rattle.slide_code.proofs.Tones.{behind, from_speed, frequency_small}
use Rattle.slide_code.proofs.Speeds.{half_tone_small, few_halves, all_halves, AtNote, AtFew, AtWhole}
use Rattle.slide_code.proofs.Speeds.{stored_ways, whole_leads, halves_lead}

-- ---- how often

few_leads : (g : Running) (m : VoiceDesk) → Stands g → 128 ≤ (g.look.row Speed g.s.voice.param).left →
    Tells g g.s.voice m → IsWord m.low m.high (half_tone g.s.voice.last_note) →
    m.a ≡ (g.look.row Speed g.s.voice.param).right →
    Leads g.r (body_of FEW from_speed) (in_scope FEW (done_as (AtFew g) (stored_ways g))) m
few_leads g m on high tells halves a = (
  λ below.
      let few : m.a < 17 = leb-false 17 m.a (not-true _ below) in
      record {
        tells = tells_over g g.s.voice m _ refl refl refl refl refl tells;
        word = half_tone g.s.voice.last_note;
        halves = halves;
        few = omega (arith, few);
        is =
            ap (λ n. half_tone g.s.voice.last_note / 2 ^ n) a
            ∙ (few_halves (half_tone g.s.voice.last_note) right (half_tone_small g.s.voice.last_note)
            (omega (arith, few, a))
            ∙ sym (calculated_speed g.look g.s.voice.param g.s.voice.last_note high));
      },
  λ above.
      let many : 17 ≤ m.a = leb-true 17 m.a (not-false _ above) in
      record {
        tells = tells_over g g.s.voice m _ refl refl refl refl refl tells;
        word = half_tone g.s.voice.last_note;
        halves = halves;
        few = omega arith;
        is =
            all_halves (half_tone g.s.voice.last_note) right (half_tone_small g.s.voice.last_note)
            (omega (arith, many, a))
            ∙ sym (calculated_speed g.look g.s.voice.param g.s.voice.last_note high);
      },
)
  where
    right : ℕ
    right = (g.look.row Speed g.s.voice.param).right

-- ---- the half tone

-- from where Y is the last note, from the high bytes on, and from the count on
abbrev pub from_lows : Tree
from_lows = behind (behind (behind (body_of STORED from_speed)))

abbrev from_highs : Tree
from_highs = behind (behind (behind (behind from_lows)))

abbrev from_count : Tree
from_count = behind (behind (behind from_highs))

count_leads : (g : Running) (m : VoiceDesk) → Stands g → g.r.layout.holds NOTE_DEPENDENT ≡ true →
    128 ≤ (g.look.row Speed g.s.voice.param).left → speed_of g.look g.s.voice < 65536 → Tells g g.s.voice m →
    IsWord m.low m.high (half_tone g.s.voice.last_note) → Leads g.r from_count (stored_ways g) m
count_leads g m on kept high small tells halves =
    listed SPEED_RIGHTS g.s.voice.param (g.look.row Speed g.s.voice.param).right on.row.right
    (tells.done.fields.param on.effects)
    (λ b e.
    joined true g.r FEW (body_of FEW from_speed) (rest_of FEW from_speed) (AtFew g) (stored_ways g)
    (loaded b (indexed (m.own PARAM) m))
    (few_leads g (loaded b (indexed (m.own PARAM) m)) on high
    (tells_over g g.s.voice m (loaded b (indexed (m.own PARAM) m)) refl refl refl refl refl tells) halves e)
    (λ n few.
    joined true g.r WHOLE (body_of WHOLE from_speed) (rest_of WHOLE from_speed) (AtWhole g) (stored_ways g) n
    (halves_lead g n few) (λ k whole. whole_leads g k on kept high small whole)))

-- the pointer's low byte, and the carry, are those of the difference
record AtLowByte (g : Running) (m : VoiceDesk) : Type 0 where
  note : AtNote g m
  first : ℕ
  second : ℕ
  first_is : first ≡ freq (m.y + 1) % 256
  second_is : second ≡ freq m.y % 256
  low : m.low ≡ (first + (255 - second) + 1) % 256
  carry : m.c ≡ nat_le 256 (first + (255 - second) + 1)

-- the pointer's high byte is written behind a difference
abbrev with_high : ℕ → ℕ → VoiceDesk → VoiceDesk
with_high first second m = record m {
  high = (first + (255 - second) + one_if m.c) % 256;
  a = (first + (255 - second) + one_if m.c) % 256;
  c = nat_le 256 (first + (255 - second) + one_if m.c);
  z = nat_eq ((first + (255 - second) + one_if m.c) % 256) 0;
  n = nat_le 128 ((first + (255 - second) + one_if m.c) % 256);
}

high_is : (g : Running) (m : VoiceDesk) (first second : ℕ) → AtLowByte g m → first ≡ freq (m.y + 1) / 256 →
    second ≡ freq m.y / 256 →
    IsWord m.low ((first + (255 - second) + one_if m.c) % 256) (half_tone g.s.voice.last_note)
unfolding half_tone
high_is g m first second at e f =
    rw (sym at.note.is, at.low, at.carry)
    (difference at.first first (freq (m.y + 1)) at.second second (freq m.y) (frequency_small (m.y + 1))
    (frequency_small m.y) (record { low_is = at.first_is; high_is = e }) at.second_is f)

-- both ends of the half tone are listed
from_in : (g : Running) (m : VoiceDesk) → Stands g → 128 ≤ (g.look.row Speed g.s.voice.param).left → AtNote g m →
    IsInRange g.range m.y
from_in g m on high at = rw at.is (on.looks.half_tone_from high)

to_in : (g : Running) (m : VoiceDesk) → Stands g → 128 ≤ (g.look.row Speed g.s.voice.param).left → AtNote g m →
    IsInRange g.range (m.y + 1)
to_in g m on high at = rw at.is (on.looks.half_tone_to high)

highs_lead : (g : Running) (m : VoiceDesk) → Stands g → g.r.layout.holds NOTE_DEPENDENT ≡ true →
    128 ≤ (g.look.row Speed g.s.voice.param).left → speed_of g.look g.s.voice < 65536 → AtLowByte g m →
    Leads g.r from_highs (stored_ways g) m
highs_lead g m on kept high small at =
    listed NEXT_FREQUENCY_HIGHS m.y (freq (m.y + 1) / 256) (on.notes.next_high m.y (to_in g m on high at.note)) refl
    (λ first e.
    listed FREQUENCY_HIGHS m.y (freq m.y / 256) (on.notes.high m.y (from_in g m on high at.note)) refl
    (λ second f.
    count_leads g (with_high first second m) on kept high small
    (tells_over g g.s.voice m (with_high first second m) refl refl refl refl refl at.note.tells)
    (high_is g m first second at e f)))

abbrev with_low : ℕ → ℕ → VoiceDesk → VoiceDesk
with_low first second m = record m {
  low = (first + (255 - second) + 1) % 256;
  a = (first + (255 - second) + 1) % 256;
  c = nat_le 256 (first + (255 - second) + 1);
  z = nat_eq ((first + (255 - second) + 1) % 256) 0;
  n = nat_le 128 ((first + (255 - second) + 1) % 256);
}

pub difference_leads : (g : Running) (m : VoiceDesk) → Stands g → g.r.layout.holds NOTE_DEPENDENT ≡ true →
    128 ≤ (g.look.row Speed g.s.voice.param).left → speed_of g.look g.s.voice < 65536 → AtNote g m →
    Leads g.r from_lows (stored_ways g) m
difference_leads g m on kept high small at =
    listed NEXT_FREQUENCY_LOWS m.y (freq (m.y + 1) % 256) (on.notes.next_low m.y (to_in g m on high at)) refl
    (λ first e.
    listed FREQUENCY_LOWS m.y (freq m.y % 256) (on.notes.low m.y (from_in g m on high at)) refl
    (λ second f.
    highs_lead g (with_low first second m) on kept high small (record {
      note = record {
        tells = tells_over g g.s.voice m (with_low first second m) refl refl refl refl refl at.tells;
        is = at.is;
      };
      first = first;
      second = second;
      first_is = e;
      second_is = f;
      low = refl;
      carry = refl;
    })))
