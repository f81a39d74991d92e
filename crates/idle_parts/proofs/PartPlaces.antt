-- How the parts that no clear state comes to are come to.
use Rattle.std.proofs.Common.{◌≡◌, Bool, true, false, refl}
use Rattle.scopes.specs.Desk.{Desk, Layout}
use Rattle.scopes.specs.Trees.{tree_of}
use Rattle.scopes.specs.Meaning.{Left, each_one, ran}
use Rattle.player_text.specs.declared.joints.TheConstants.{DOWN}
use Rattle.player_text.specs.declared.slide.TheConstants.{PORTA_STEP}
use Rattle.player_memory.specs.declared.conditions.TheConstants.{PORTA_UP, PORTA_DOWN}
use Rattle.idle_parts.specs.Places.{PartsAreComeTo, OnceIsComeTo, SlidesLeave}

pub parts_are_come_to : PartsAreComeTo
parts_are_come_to = record {
  up = refl;
  down = refl;
  rises = refl;
  falls = refl;
  found = refl;
  running = refl;
  commanded = refl;
  up_ends = refl;
  commanded_ends = refl;
}

pub once_is_come_to : OnceIsComeTo
once_is_come_to = record { once = refl; done = refl }

goes_down : (layout : Layout) (desk : Desk) (k : Bool) → layout.holds PORTA_UP ≡ k → layout.holds PORTA_DOWN ≡ true →
    desk.cpu.a ≡ 2 → (ran each_one layout (tree_of PORTA_STEP.now) desk).outcome ≡ Left DOWN
goes_down layout desk true up kept two = rw (up, kept, two) refl
goes_down layout desk false up kept two = rw (up, kept, two) refl

pub slides_leave : (layout : Layout) (desk : Desk) → SlidesLeave layout desk
slides_leave layout desk = record {
  up = λ kept one. rw (kept, one) refl;
  down = λ kept two. goes_down layout desk _ refl kept two;
}
