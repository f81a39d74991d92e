-- What the code of a speed leaves: the slide of the row that the parameter names.
use Rattle.std.proofs.Common.{◌≡◌, ◌≢◌, ℕ, zero, suc, ◌+◌, ◌*◌, ◌/◌, ◌%◌, ◌^◌}
use Rattle.std.proofs.Common.{◌<◌, ◌≤◌, true, false, inl, inr}
use Rattle.std.proofs.Common.{refl, sym, ap, ◌∙◌, subst, arith, nat_eq, nat_lt, if◌then◌else◌}
use Rattle.std.proofs.lemmas.Bool.{not-true, not-false, both_ways, eqb-true, eqb-false, cases_lt, lt-ltb, le-ltb}
use Rattle.std.proofs.lemmas.Bool.{ne_eqb, eq-eqb}
use Rattle.std.proofs.lemmas.Bool.Decides.{eqb_tells}
use Rattle.std.proofs.lemmas.Nat.{shr-shr}
use Rattle.cpu6502.specs.Registers.{one_if}
use Rattle.code_runs.specs.Runs.{put}
use Rattle.scopes.specs.Trees.{Tree, NoneTree, LoopTree, NeverTree}
use Rattle.song_model.specs.declared.tables.TableName.TheVariants.{Speed}
use Rattle.play_model.specs.Wrap.{shifted_right}
use Rattle.play_model.specs.Freq.{half_tone}
use Rattle.player_memory.specs.declared.labels.TheConstants.{PARAM}
use Rattle.player_memory.specs.declared.conditions.TheConstants.{NOTE_DEPENDENT}
use Rattle.player_desk.proofs.Laws.{VoiceDesk, Ways, Leads, TurnsLead, body_of, rest_of, indexed, done_as, in_scope}
use Rattle.player_desk.proofs.Laws.{done_over}
use Rattle.player_text.specs.declared.slide.TheConstants.{STORED, WHOLE}
use Rattle.player_memory.specs.Playing.{with_voice}
use Rattle.slide_code.proofs.Words.{IsWord}
use Rattle.slide_code.specs.SlideBlock.{NeedsSpeed}
use Rattle.slide_code.proofs.SlideGrounds.{Running, Tells, HasSpeed, up_ways, Stands}
use Rattle.slide_code.proofs.Moves.{tells_over}
use Rattle.slide_code.proofs.Rules.{speed_of}
use Rattle.slide_code.proofs.Tones.{first_of, behind, from_speed, from_swing}

-- ---- half tones

pub half_tone_small : (n : ℕ) → half_tone n < 65536
unfolding half_tone
half_tone_small n = omega arith

once_more : (word k : ℕ) → word / 2 / 2 ^ k ≡ word / 2 ^ suc k
once_more word k =
    let e : 1 + k ≡ suc k = omega arith in
    shr-shr word 1 k ∙ ap (λ n. word / 2 ^ n) e

-- a word halved, by its bytes
halved : (low high word : ℕ) → IsWord low high word →
    IsWord (low / 2 + 128 * one_if (nat_eq (high % 2) 1)) (high / 2) (word / 2)
halved low high word is =
    let l = is.low_is in
    let h = is.high_is in
    elim (eqb_tells (high % 2) 1) [
      | inl odd ↦
          let e = odd.1 in
          rw odd.0 (record { low_is = omega (arith, l, h, e); high_is = omega (arith, l, h, e) })
      | inr even ↦
          let e = even.1 in
          rw even.0 (record { low_is = omega (arith, l, h, e); high_is = omega (arith, l, h, e) })
    ]

-- as often as the row's right side says, but at most 16 times
pub few_halves : (word right : ℕ) → word < 65536 → right ≤ 16 →
    word / 2 ^ right ≡ (if nat_lt right 16 then shifted_right word right else 0)
few_halves word right small few =
    elim (cases_lt right 16) [
      | inl less ↦ let e : nat_lt right 16 ≡ true = lt-ltb right 16 less in rw e refl
      | inr all ↦
          let e : nat_lt right 16 ≡ false = le-ltb right 16 all in
          let s : right ≡ 16 = omega (arith, all, few) in
          rw (e, s) (omega (arith, small))
    ]

pub all_halves : (word right : ℕ) → word < 65536 → 16 ≤ right →
    word / 2 ^ 16 ≡ (if nat_lt right 16 then shifted_right word right else 0)
all_halves word right small many =
    let e : nat_lt right 16 ≡ false = le-ltb right 16 many in
    rw e (omega (arith, small))

-- ---- on the way

abbrev pub named_ways : Running → Ways
named_ways g = done_as (Leads g.r from_swing (up_ways g)) (up_ways g)

-- Y is the row, whose slide stands
pub record AtStored (g : Running) (m : VoiceDesk) : Type 0 where
  pub tells : Tells g g.s.voice m
  pub y : m.y ≡ g.s.voice.param
  pub has : NeedsSpeed g.command g.s.voice.param → HasSpeed g (speed_of g.look g.s.voice) m

abbrev pub stored_ways : Running → Ways
stored_ways g =
    in_scope STORED (done_as (AtStored g)
    (done_as (Leads g.r (rest_of STORED from_speed) (named_ways g)) (named_ways g)))

-- Y is the note whose half tone is taken
pub record AtNote (g : Running) (m : VoiceDesk) : Type 0 where
  pub tells : Tells g g.s.voice m
  pub is : m.y ≡ g.s.voice.last_note

-- A is how often the half tone in the pointer is halved
pub record AtFew (g : Running) (m : VoiceDesk) : Type 0 where
  pub tells : Tells g g.s.voice m
  pub word : ℕ
  pub halves : IsWord m.low m.high word
  pub few : m.a ≤ 16
  pub is : word / 2 ^ m.a ≡ speed_of g.look g.s.voice

-- the slide is in the pointer
pub record AtWhole (g : Running) (m : VoiceDesk) : Type 0 where
  pub tells : Tells g g.s.voice m
  pub halves : IsWord m.low m.high (speed_of g.look g.s.voice)

-- ---- the slide is stored

put_here : (slides : ℕ → ℕ) (place p byte : ℕ) → place ≡ p → put slides place byte p ≡ byte
put_here slides place p byte e = (let z : nat_eq p place ≡ true = eq-eqb p place (sym e) in rw z refl)

put_other : (slides : ℕ → ℕ) (place row byte : ℕ) → row ≢ place → put slides place byte row ≡ slides row
put_other slides place row byte other = (let z : nat_eq row place ≡ false = ne_eqb row place other in rw z refl)

pub whole_leads : (g : Running) (m : VoiceDesk) → Stands g → g.r.layout.holds NOTE_DEPENDENT ≡ true →
    128 ≤ (g.look.row Speed g.s.voice.param).left → speed_of g.look g.s.voice < 65536 → AtWhole g m →
    Leads g.r (rest_of WHOLE from_speed) (stored_ways g) m
whole_leads g m on kept high small at = (
  kept,
  inside,
  (
    kept,
    inside,
    record {
      tells = record {
        done =
            done_over g.r.layout.holds g.r.voice (with_voice g.s.voice g.s) g.handed g.d m _ refl refl refl
            at.tells.done;
        slides = record {
          low = λ row low.
              put_other m.slide_low (m.own PARAM) row m.low (apart row low) ∙ at.tells.slides.low row low;
          high = λ row low.
              put_other m.slide_high (m.own PARAM) row m.high (apart row low) ∙ at.tells.slides.high row low;
        };
      };
      y = param;
      has = λ needs. record {
        low = record {
          own = λ yes. put_here m.slide_low (m.own PARAM) g.s.voice.param m.low param ∙ at.halves.low_is;
          in_list = λ no. absurd (both_ways _ no kept);
        };
        high = record {
          own = λ yes. put_here m.slide_high (m.own PARAM) g.s.voice.param m.high param ∙ at.halves.high_is;
          in_list = λ no. absurd (both_ways _ no kept);
        };
        small = small;
      };
    },
  ),
)
  where
    param : m.own PARAM ≡ g.s.voice.param
    param = at.tells.done.fields.param on.effects

    inside : m.own PARAM < g.r.rows
    inside = rw param (on.row.places.row kept)

    apart : (row : ℕ) → (g.look.row Speed row).left < 128 → row ≢ m.own PARAM
    apart row low e =
        let same : (g.look.row Speed row).left ≡ (g.look.row Speed g.s.voice.param).left =
        ap (λ n. (g.look.row Speed n).left) (e ∙ param) in
        omega (arith, low, same, high)

-- ---- halvings

abbrev lines_in : Tree → Tree
lines_in (LoopTree count body) = body
lines_in tree = NeverTree

abbrev halving : Tree
halving = lines_in (first_of (behind (behind (body_of WHOLE from_speed))))

abbrev whole_ways : Running → Ways
whole_ways g = in_scope WHOLE (done_as (AtWhole g) (stored_ways g))

abbrev halving_ways : Running → Ways
halving_ways g = done_as (Leads g.r NoneTree (whole_ways g)) (whole_ways g)

once : (word : ℕ) → word / 2 ≡ word / 2 ^ 1
once word = omega arith

turns_lead : (g : Running) (turns left word : ℕ) (m : VoiceDesk) → m.y ≡ suc left → suc left ≤ turns →
    turns ≤ 16 →
    Tells g g.s.voice m → IsWord m.low m.high word → word / 2 ^ suc left ≡ speed_of g.look g.s.voice →
    TurnsLead turns (Leads g.r halving) (halving_ways g) m
turns_lead g zero left word m y few most tells halves is = absurd (omega (arith, few))
turns_lead g (suc turns) zero word m y few most tells halves is = (
  λ again.
      let z = eqb-false _ 0 (not-true _ again) in absurd (z (omega (arith, y))),
  λ over. record {
    tells = tells_over g g.s.voice m _ refl refl refl refl refl tells;
    halves = subst (IsWord _ _) (once word ∙ is) (halved m.low m.high word halves);
  },
)
turns_lead g (suc turns) (suc left) word m y few most tells halves is = (
  λ again.
      turns_lead g turns left (word / 2) _ (omega (arith, y, few, most)) (omega (arith, few)) (omega (arith, most))
      (tells_over g g.s.voice m _ refl refl refl refl refl tells) (halved m.low m.high word halves)
      (once_more word (suc left) ∙ is),
  λ over.
      let z = eqb-true _ 0 (not-false _ over) in absurd (omega (arith, y, few, most, z)),
)

pub halves_lead : (g : Running) (m : VoiceDesk) → AtFew g m →
    Leads g.r (body_of WHOLE from_speed) (whole_ways g) m
halves_lead g m at = (
  λ zero_left. record {
    tells = tells_over g g.s.voice m _ refl refl refl refl refl at.tells;
    halves = subst (IsWord m.low m.high) (none m.a (eqb-true m.a 0 zero_left) at.is) at.halves;
  },
  λ some. by_count m.a refl (eqb-false m.a 0 some),
)
  where
    none : (a : ℕ) → a ≡ 0 → at.word / 2 ^ a ≡ speed_of g.look g.s.voice → at.word ≡ speed_of g.look g.s.voice
    none a e is = (let z : at.word / 2 ^ a ≡ at.word = rw e (omega arith) in sym z ∙ is)

    by_count : (n : ℕ) → m.a ≡ n → n ≢ 0 →
        TurnsLead 16 (Leads g.r halving) (halving_ways g) (indexed m.a m)
    by_count zero e some = absurd (some refl)
    by_count (suc left) e some =
        turns_lead g 16 left at.word (indexed m.a m) e (let f = at.few in omega (arith, e, f)) (omega arith)
        (tells_over g g.s.voice m _ refl refl refl refl refl at.tells) at.halves
        (ap (λ n. at.word / 2 ^ n) (sym e) ∙ at.is)
