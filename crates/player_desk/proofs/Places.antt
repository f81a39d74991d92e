-- Each place of memory stands on the desk as the code of a voice sees it, or is another voice's byte, or elsewhere.
use Rattle.std.proofs.Common.{◌≡◌, ◌≢◌, ◌⊎◌, ℕ, zero, suc, ◌+◌, ◌-◌, ◌*◌, ◌/◌, ◌%◌}
use Rattle.std.proofs.Common.{◌<◌, ◌≤◌, ◌&&◌, ◌||◌, Bool, true, false}
use Rattle.std.proofs.Common.{nat_eq, inl, inr, refl, ap, ◌∙◌, arith}
use Rattle.std.proofs.lemmas.Bool.{and_parts, or_cases, agree_below_at, eqb-true, both_ways}
use Rattle.std.proofs.lemmas.Bool.Decides.{leb_tells, eqb_tells}
use Rattle.player_memory.specs.declared.labels.TheConstants.{TEMPO, VARIABLES, SLIDES_LOW, SLIDES_HIGH}
use Rattle.player_memory.specs.declared.conditions.TheConstants.{NOTE_DEPENDENT}
use Rattle.player_memory.specs.Labels.{is_own, is_shared}
use Rattle.scopes.specs.Desk.{Layout}
use Rattle.scopes.specs.declared.line.Half.TheVariants.{Low, High}
use Rattle.player_desk.proofs.VoiceDesks.{VoiceDesk, Reader}
use Rattle.player_desk.proofs.Spots.{Spot, Own, Shared, LowSpot, HighSpot, Sid, Slide, Tempo, Others}
use Rattle.player_desk.proofs.Spots.{Elsewhere, spot_place, IsSpot, spot_byte}

pub record AtSpot (r : Reader) (place : ℕ) : Type 0 where
  pub spot : Spot
  pub is : IsSpot r spot
  pub at : place ≡ spot_place r spot

-- ---- labels

-- the voice whose byte a variable would be, and its label
abbrev voice_at : ℕ → ℕ
voice_at label = label % 21 / 7

abbrev label_at : ℕ → ℕ
label_at label = label - 7 * voice_at label

-- a variable is a voice's or no voice's
abbrev is_someones : ℕ → Bool
is_someones label =
    is_shared label || (is_own (label_at label) && nat_eq label (label_at label + 7 * voice_at label))

variable_spot : (r : Reader) (label : ℕ) → label < VARIABLES → AtSpot r (r.layout.address label)
variable_spot r label few =
    elim (or_cases (is_shared label) _ (agree_below_at is_someones (λ _. true) 113 label refl few)) [
      | inl shared ↦ record { spot = Shared label; is = shared; at = refl }
      | inr own ↦
          owned (and_parts (is_own (label_at label)) _ own).0
          (ap r.layout.address (eqb-true _ _ (and_parts (is_own (label_at label)) _ own).1))
    ]
  where
    its : ℕ
    its = voice_at label

    three : its < 3
    three = omega arith

    owned : is_own (label_at label) ≡ true → r.layout.address label ≡ r.layout.address (label_at label + 7 * its) →
        AtSpot r (r.layout.address label)
    owned own at =
        elim (eqb_tells its r.voice) [
          | inl same ↦ record {
            spot = Own (label_at label);
            is = own;
            at = at ∙ ap (λ n. r.layout.address (label_at label + 7 * n)) same.1;
          }
          | inr other ↦
              elim (eqb_tells (label_at label) TEMPO) [
                | inl tempo ↦ record {
                  spot = Tempo its;
                  is = (three, other.1);
                  at = at ∙ ap (λ n. r.layout.address (n + 7 * its)) tempo.1;
                }
                | inr not ↦ record { spot = Others (label_at label) its; is = (own, three, other.1, not.1); at = at }
              ]
        ]

-- ---- places

-- a place is among so many from one on, or before or behind them
data Among (place from count : ℕ) : Type 0 where
  In : (number : ℕ) → number < count → place ≡ from + number → Among place from count
  Out : (place < from) ⊎ (from + count ≤ place) → Among place from count

among : (place from count : ℕ) → Among place from count
among place from count =
    elim (leb_tells from place) [
      | inl up ↦
          elim (leb_tells (from + count) place) [
            | inl behind ↦ Out (inr behind.1)
            | inr within ↦
                (let a = up.1 in let b = within.1 in In (place - from) (omega (arith, a, b)) (omega (arith, a)))
          ]
      | inr before ↦ Out (inl before.1)
    ]

-- and it is that of one of the first labels, or of none
data AmongVariables (layout : Layout) (place count : ℕ) : Type 0 where
  At : (label : ℕ) → label < count → place ≡ layout.address label → AmongVariables layout place count
  Apart : ((label : ℕ) → label < count → place ≢ layout.address label) → AmongVariables layout place count

among_variables : (layout : Layout) (place count : ℕ) → AmongVariables layout place count
among_variables layout place zero = Apart (λ label few e. omega (arith, few))
among_variables layout place (suc count) =
    elim (eqb_tells place (layout.address count)) [
      | inl last ↦ At count (omega arith) last.1
      | inr other ↦
          elim (among_variables layout place count) [
            | At label few at ↦ At label (omega (arith, few)) at
            | Apart others ↦ Apart (λ label few.
                elim (eqb_tells label count) [
                  | inl is ↦ (λ e. other.1 (e ∙ ap layout.address is.1))
                  | inr less ↦ (let not = less.1 in others label (omega (arith, few, not)))
                ])
          ]
    ]

-- a place that is none of the others is a slide or elsewhere
slide_spot : (r : Reader) (place : ℕ) → place ≢ r.layout.pointer → place ≢ r.layout.pointer + 1 →
    (place < 0xD400) ⊎ (0xD419 ≤ place) → ((label : ℕ) → label < VARIABLES → place ≢ r.layout.address label) →
    AtSpot r place
slide_spot r place low high registers variables = by_condition (r.layout.holds NOTE_DEPENDENT) refl
  where
    by_condition : (z : Bool) → r.layout.holds NOTE_DEPENDENT ≡ z → AtSpot r place
    by_condition false out = record {
      spot = Elsewhere place;
      is = record {
        variables = variables;
        slides_low = λ kept. absurd (both_ways (r.layout.holds NOTE_DEPENDENT) out kept);
        slides_high = λ kept. absurd (both_ways (r.layout.holds NOTE_DEPENDENT) out kept);
        low = low;
        high = high;
        registers = registers;
      };
      at = refl;
    }
    by_condition true kept =
        elim (among place (r.layout.address SLIDES_LOW) r.rows) [
          | In row few at ↦ record { spot = Slide Low row; is = (kept, few); at = at }
          | Out lows ↦
              elim (among place (r.layout.address SLIDES_HIGH) r.rows) [
                | In row few at ↦ record { spot = Slide High row; is = (kept, few); at = at }
                | Out highs ↦ record {
                  spot = Elsewhere place;
                  is = record {
                    variables = variables;
                    slides_low = λ kept. lows;
                    slides_high = λ kept. highs;
                    low = low;
                    high = high;
                    registers = registers;
                  };
                  at = refl;
                }
              ]
        ]

pub spot_at : (r : Reader) (place : ℕ) → AtSpot r place
spot_at r place =
    elim (eqb_tells place r.layout.pointer) [
      | inl low ↦ record { spot = LowSpot; is = record {}; at = low.1 }
      | inr not_low ↦
          elim (eqb_tells place (r.layout.pointer + 1)) [
            | inl high ↦ record { spot = HighSpot; is = record {}; at = high.1 }
            | inr not_high ↦
                elim (among place 0xD400 25) [
                  | In register few at ↦ record { spot = Sid register; is = omega (arith, few); at = at }
                  | Out registers ↦
                      elim (among_variables r.layout place VARIABLES) [
                        | At label few at ↦ variable_at label few at
                        | Apart variables ↦ slide_spot r place not_low.1 not_high.1 registers variables
                      ]
                ]
          ]
    ]
  where
    variable_at : (label : ℕ) → label < VARIABLES → place ≡ r.layout.address label → AtSpot r place
    variable_at label few e = (let v = variable_spot r label few in record { spot = v.spot; is = v.is; at = e ∙ v.at })

-- ---- what stays

-- what stands at a place is on one desk as on another
pub record IsSameAt (r : Reader) (d m : VoiceDesk) (place : ℕ) : Type 0 where
  pub own : (label : ℕ) → place ≡ r.layout.address (label + 7 * r.voice) → m.own label ≡ d.own label
  pub shared : (label : ℕ) → place ≡ r.layout.address label → m.shared label ≡ d.shared label
  pub low : place ≡ r.layout.pointer → m.low ≡ d.low
  pub high : place ≡ r.layout.pointer + 1 → m.high ≡ d.high
  pub slide_low : (row : ℕ) → place ≡ r.layout.address SLIDES_LOW + row → m.slide_low row ≡ d.slide_low row
  pub slide_high : (row : ℕ) → place ≡ r.layout.address SLIDES_HIGH + row → m.slide_high row ≡ d.slide_high row
  pub sid : (register : ℕ) → place ≡ 0xD400 + register → m.sid register ≡ d.sid register

pub same_byte : (r : Reader) (d m : VoiceDesk) (place : ℕ) → IsSameAt r d m place → (s : Spot) →
    place ≡ spot_place r s → spot_byte r s m ≡ spot_byte r s d
same_byte r d m place same (Own label) at = same.own label at
same_byte r d m place same (Shared label) at = same.shared label at
same_byte r d m place same LowSpot at = same.low at
same_byte r d m place same HighSpot at = same.high at
same_byte r d m place same (Sid register) at = same.sid register at
same_byte r d m place same (Slide Low row) at = same.slide_low row at
same_byte r d m place same (Slide High row) at = same.slide_high row at
same_byte r d m place same (Tempo its) at = same.shared (TEMPO + 7 * its) at
same_byte r d m place same (Others label its) at = refl
same_byte r d m place same (Elsewhere other) at = refl
