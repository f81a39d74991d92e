-- Where spots are apart: among the variables, in page 0, among the registers, in the slides, or elsewhere.
use Rattle.std.proofs.Common.{◌≡◌, ◌≢◌, ◌⊎◌, ℕ, ◌+◌, ◌*◌}
use Rattle.std.proofs.Common.{◌<◌, ◌≤◌, true}
use Rattle.std.proofs.Common.{inl, inr, refl, sym, ◌∙◌, arith}
use Rattle.code_runs.specs.Runs.{put}
use Rattle.code_runs.proofs.Laws.{put_other}
use Rattle.scopes.specs.Desk.{Layout}
use Rattle.player_memory.specs.declared.labels.TheConstants.{TEMPO, VARIABLES, SLIDES_LOW, SLIDES_HIGH}
use Rattle.player_memory.specs.declared.conditions.TheConstants.{NOTE_DEPENDENT}
use Rattle.player_memory.specs.Labels.{is_own, is_shared}
use Rattle.player_memory.specs.Rooms.{IsRoom, IsList, IsElsewhere}
use Rattle.player_desk.proofs.VoiceDesks.{Reader}
use Rattle.player_desk.proofs.Owners.{own_label, shared_label}
use Rattle.player_desk.proofs.Spots.{Spot, spot_place, IsSpot, Own, Shared, LowSpot, HighSpot, Sid, Slide}
use Rattle.player_desk.proofs.Spots.{Tempo, Others, Elsewhere, slides_at}
use Rattle.scopes.specs.declared.line.Half.{Half}
use Rattle.scopes.specs.declared.line.Half.TheVariants.{Low, High}

-- where a spot is as a number: in the variables, in page 0, among the registers, or elsewhere
pub record InVariables (layout : Layout) (place label : ℕ) : Type 0 where
  pub is : place ≡ layout.address label
  pub below : label < VARIABLES

pub own_in : (layout : Layout) (label voice : ℕ) → is_own label ≡ true → voice < 3 →
    InVariables layout (layout.address (label + 7 * voice)) (label + 7 * voice)
own_in layout label voice h l =
    let small = (own_label label voice h l).below in
    record { is = refl; below = omega (arith, small) }

pub shared_in : (layout : Layout) (label : ℕ) → is_shared label ≡ true → InVariables layout (layout.address label) label
shared_in layout label h = record { is = refl; below = (shared_label label h).below }

-- two bytes of variables at one place have one label
pub one_label : (layout : Layout) (rows : ℕ) → IsRoom layout rows → (p q l m : ℕ) → InVariables layout p l →
    InVariables layout q m → p ≡ q → l ≡ m
one_label layout rows room p q l m one two e =
    room.variables.apart l m one.below two.below (sym one.is ∙ e ∙ two.is)

-- a variable isn't the pointer, nor a register, nor elsewhere
pub variable_apart : (layout : Layout) (rows : ℕ) → IsRoom layout rows → (p l : ℕ) → InVariables layout p l →
    (p ≢ layout.pointer) × (p ≢ layout.pointer + 1) × ((register : ℕ) → p ≢ 0xD400 + register)
    × ((place : ℕ) → IsElsewhere layout rows place → p ≢ place)
variable_apart layout rows room p l inside =
    let is = inside.is in
    let a = room.variables.from l inside.below in
    let b = room.variables.to l inside.below in
    let c = room.pointer_high in (
      λ e. omega (arith, is, a, c, e),
      λ e. omega (arith, is, a, c, e),
      λ register e. omega (arith, is, b, e),
      λ place away e. away.variables l inside.below (sym e ∙ is),
    )

pub elsewhere_not_sid : (layout : Layout) (rows place register : ℕ) → IsElsewhere layout rows place → register ≤ 24 →
    0xD400 + register ≢ place
elsewhere_not_sid layout rows place register away l e =
    elim away.registers [
      | inl low ↦ let f = low in omega (arith, e, f)
      | inr high ↦ let f = high in omega (arith, e, f, l)
    ]

-- ---- slides

-- a slide isn't a variable, the pointer, a register, nor elsewhere
pub record IsSlide (layout : Layout) (rows place : ℕ) : Type 0 where
  pub from : 0x0800 ≤ place
  pub to : place < 0xD000
  pub outside : (label : ℕ) → label < VARIABLES → place ≢ layout.address label
  pub elsewhere : (other : ℕ) → IsElsewhere layout rows other → place ≢ other

-- a byte of either list is one
slide_of : (layout : Layout) (rows row label : ℕ) → IsList layout label rows → row < rows →
    ((other : ℕ) → IsElsewhere layout rows other →
    (other < layout.address label) ⊎ (layout.address label + rows ≤ other)) →
    IsSlide layout rows (layout.address label + row)
slide_of layout rows row label list few aside =
    let a = list.from in
    let b = list.to in record {
      from = omega (arith, a);
      to = omega (arith, b, few);
      outside = λ variable less e.
          elim (list.outside variable less) [
            | inl before ↦ omega (arith, before, e)
            | inr behind ↦ omega (arith, behind, few, e)
          ];
      elsewhere = λ other away e.
          elim (aside other away) [
            | inl before ↦ omega (arith, before, e)
            | inr behind ↦ omega (arith, behind, e, few)
          ];
    }

pub slide_is : (half : Half) (layout : Layout) (rows row : ℕ) → IsRoom layout rows →
    (layout.holds NOTE_DEPENDENT ≡ true) × (row < rows) →
    IsSlide layout rows (layout.address (slides_at half) + row)
slide_is Low layout rows row room is =
    slide_of layout rows row SLIDES_LOW (room.slides is.0).low is.1 (λ other away. away.slides_low is.0)
slide_is High layout rows row room is =
    slide_of layout rows row SLIDES_HIGH (room.slides is.0).high is.1 (λ other away. away.slides_high is.0)

slide_not_variable : (layout : Layout) (rows p q l : ℕ) → IsSlide layout rows p → InVariables layout q l → q ≢ p
slide_not_variable layout rows p q l slide inside e = slide.outside l inside.below (sym e ∙ inside.is)

pub low_not_high : (layout : Layout) (rows i k : ℕ) → IsRoom layout rows → layout.holds NOTE_DEPENDENT ≡ true →
    i < rows → k < rows → layout.address SLIDES_LOW + i ≢ layout.address SLIDES_HIGH + k
low_not_high layout rows i k room kept few less e =
    elim (room.slides kept).apart [
      | inl before ↦ omega (arith, before, e, few, less)
      | inr behind ↦ omega (arith, behind, e, few, less)
    ]

-- a spot that is none of the slides
abbrev pub IsNoSlide : Spot → Type 0
IsNoSlide (Slide half row) = ⊥
IsNoSlide spot = Unit {0}

-- it isn't where a slide is
pub not_at_slide : (r : Reader) → IsRoom r.layout r.rows → r.voice < 3 → (s : Spot) → IsSpot r s → IsNoSlide s →
    (place : ℕ) → IsSlide r.layout r.rows place → spot_place r s ≢ place
not_at_slide r room v (Own l) is none place slide =
    slide_not_variable r.layout r.rows place _ _ slide (own_in r.layout l r.voice is v)
not_at_slide r room v (Shared l) is none place slide =
    slide_not_variable r.layout r.rows place _ _ slide (shared_in r.layout l is)
not_at_slide r room v LowSpot is none place slide =
    let from = slide.from in let c = room.pointer_high in λ e. omega (arith, from, c, e)
not_at_slide r room v HighSpot is none place slide =
    let from = slide.from in let c = room.pointer_high in λ e. omega (arith, from, c, e)
not_at_slide r room v (Sid register) is none place slide = let to = slide.to in λ e. omega (arith, to, e)
not_at_slide r room v (Slide half row) is none place slide = elim none [ ]
not_at_slide r room v (Tempo its) is none place slide =
    slide_not_variable r.layout r.rows place _ _ slide (own_in r.layout TEMPO its refl is.0)
not_at_slide r room v (Others l its) is none place slide =
    slide_not_variable r.layout r.rows place _ _ slide (own_in r.layout l its is.0 is.1)
not_at_slide r room v (Elsewhere other) is none place slide = λ e. slide.elsewhere other is (sym e)

-- so a byte written there leaves the slides, and a slide that is written leaves it
pub leaves_slide : (r : Reader) → IsRoom r.layout r.rows → r.voice < 3 → (w : Spot) → IsSpot r w → IsNoSlide w →
    (place : ℕ) → IsSlide r.layout r.rows place → (at : ℕ → ℕ) (byte : ℕ) →
    put at (spot_place r w) byte place ≡ at place
leaves_slide r room v w is none place slide at byte =
    put_other at (spot_place r w) byte place (λ q. not_at_slide r room v w is none place slide (sym q))

pub slide_leaves : (r : Reader) → IsRoom r.layout r.rows → r.voice < 3 → (s : Spot) → IsSpot r s → IsNoSlide s →
    (place : ℕ) → IsSlide r.layout r.rows place → (at : ℕ → ℕ) (byte : ℕ) →
    put at place byte (spot_place r s) ≡ at (spot_place r s)
slide_leaves r room v s is none place slide at byte =
    put_other at place byte (spot_place r s) (not_at_slide r room v s is none place slide)
