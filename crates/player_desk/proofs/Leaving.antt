-- A block that takes one of its ways, to its end or out of a scope around it, in memory.
use Rattle.std.proofs.Common.{◌≡◌, ℕ, ◌<◌, Bool, true, false, nat_eq, refl, ap}
use Rattle.std.proofs.lemmas.Bool.{eqb-true}
use Rattle.scopes.specs.Desk.{Desk, Layout}
use Rattle.scopes.specs.Trees.{Tree}
use Rattle.scopes.specs.Meaning.{Outcome, Done, Left, Again, Stuck, Ran, each_one, ran}
use Rattle.player_memory.specs.Rooms.{IsRoom, MayUse}
use Rattle.player_memory.specs.Playing.{IsAtVoice, there}
use Rattle.player_desk.proofs.VoiceDesks.{VoiceDesk, Reader, Leads, Either}
use Rattle.player_desk.proofs.Following.{leads_on}
use Rattle.player_desk.proofs.Joining.{ends, leaves}
use Rattle.player_desk.proofs.SlidesStay.{leaves_slides, SameSlides, with_slides, slides_stay}
use Rattle.player_desk.proofs.Leading.{At, led}
use Rattle.player_desk.proofs.Memory.{reader_of, voice_desk, ground_of, shows_desk, at_end, Came, came, Still}
use Rattle.player_desk.proofs.Memory.{still_ends}

-- a block has taken this way, to a desk of which Q holds
pub record Went (layout : Layout) (rows voice : ℕ) (desk : Desk) (Q : VoiceDesk → Type 0) (run : Ran) (o : Outcome)
    : Type 0 where
  pub way : run.outcome ≡ o
  pub came : Came layout rows voice desk Q (there run)

-- ---- to the end

pub ends_so : (layout : Layout) (rows voice : ℕ) (tree : Tree) (desk : Desk) (Q : VoiceDesk → Type 0) →
    IsRoom layout rows → MayUse layout rows → voice < 3 → IsAtVoice voice desk →
    Leads (reader_of layout rows voice desk) tree (ends Q) (voice_desk layout voice desk) →
    Went layout rows voice desk Q (ran each_one layout tree desk) Done
ends_so layout rows voice tree desk Q room uses three at leads =
    let behind = led (ground_of layout rows voice desk room uses three) tree (ends Q) desk
    (voice_desk layout voice desk) (shows_desk layout rows voice desk at) leads in
    let run = ran each_one layout tree desk in
    let end = at_end Q run.outcome behind.after behind.way in record {
      way = end.is;
      came = came layout rows voice desk Q (there run) behind.after room refl behind.shows end.holds;
    }

-- ---- out of a scope

-- what leads out of one scope alone has left it
record AtLeft (scope : ℕ) (Q : VoiceDesk → Type 0) (outcome : Outcome) (d : VoiceDesk) : Type 0 where
  is : outcome ≡ Left scope
  holds : Q d

at_left : (scope : ℕ) (Q : VoiceDesk → Type 0) (outcome : Outcome) (d : VoiceDesk) → At (leaves scope Q) outcome d →
    AtLeft scope Q outcome d
at_left scope Q Done d never = elim never [ ]
at_left scope Q (Left name) d way = by_name (nat_eq name scope) refl way
  where
    by_name : (z : Bool) → nat_eq name scope ≡ z → Either z (Q d) ⊥ → AtLeft scope Q (Left name) d
    by_name true e q = record { is = ap Left (eqb-true name scope e); holds = q }
    by_name false e never = elim never [ ]
at_left scope Q Again d never = elim never [ ]
at_left scope Q Stuck d never = elim never [ ]

pub leaves_so : (scope : ℕ) (layout : Layout) (rows voice : ℕ) (tree : Tree) (desk : Desk) (Q : VoiceDesk → Type 0) →
    IsRoom layout rows → MayUse layout rows → voice < 3 → IsAtVoice voice desk →
    Leads (reader_of layout rows voice desk) tree (leaves scope Q) (voice_desk layout voice desk) →
    Went layout rows voice desk Q (ran each_one layout tree desk) (Left scope)
leaves_so scope layout rows voice tree desk Q room uses three at leads =
    let behind = led (ground_of layout rows voice desk room uses three) tree (leaves scope Q) desk
    (voice_desk layout voice desk) (shows_desk layout rows voice desk at) leads in
    let run = ran each_one layout tree desk in
    let left = at_left scope Q run.outcome behind.after behind.way in record {
      way = left.is;
      came = came layout rows voice desk Q (there run) behind.after room refl behind.shows left.holds;
    }

-- ---- where no slide is stored

still_leaves : (scope : ℕ) (r : Reader) (tree : Tree) (Q : VoiceDesk → Type 0) (d : VoiceDesk) →
    leaves_slides tree ≡ true → Leads r tree (leaves scope Q) d → Leads r tree (leaves scope (Still d Q)) d
still_leaves scope r tree Q d stores leads =
    leads_on true r tree (with_slides d (leaves scope Q)) (leaves scope (Still d Q)) d
    (record {
      done = λ m q. q.1;
      left = λ name m q. by_name (nat_eq name scope) m q.0 q.1;
      again = λ m q. q.1;
    }) (slides_stay true r tree (leaves scope Q) d stores leads)
  where
    by_name : (z : Bool) (m : VoiceDesk) → SameSlides d m → Either z (Q m) ⊥ → Either z (Still d Q m) ⊥
    by_name true m same q = (same, q)
    by_name false m same never = never

pub ends_still : (layout : Layout) (rows voice : ℕ) (tree : Tree) (desk : Desk) (Q : VoiceDesk → Type 0) →
    leaves_slides tree ≡ true → IsRoom layout rows → MayUse layout rows → voice < 3 → IsAtVoice voice desk →
    Leads (reader_of layout rows voice desk) tree (ends Q) (voice_desk layout voice desk) →
    Went layout rows voice desk (Still (voice_desk layout voice desk) Q) (ran each_one layout tree desk) Done
ends_still layout rows voice tree desk Q stores room uses three at leads =
    ends_so layout rows voice tree desk (Still (voice_desk layout voice desk) Q) room uses three at
    (still_ends (reader_of layout rows voice desk) tree Q (voice_desk layout voice desk) stores leads)

pub leaves_still : (scope : ℕ) (layout : Layout) (rows voice : ℕ) (tree : Tree) (desk : Desk)
    (Q : VoiceDesk → Type 0) → leaves_slides tree ≡ true → IsRoom layout rows → MayUse layout rows → voice < 3 →
    IsAtVoice voice desk →
    Leads (reader_of layout rows voice desk) tree (leaves scope Q) (voice_desk layout voice desk) →
    Went layout rows voice desk (Still (voice_desk layout voice desk) Q) (ran each_one layout tree desk) (Left scope)
leaves_still scope layout rows voice tree desk Q stores room uses three at leads =
    leaves_so scope layout rows voice tree desk (Still (voice_desk layout voice desk) Q) room uses three at
    (still_leaves scope (reader_of layout rows voice desk) tree Q (voice_desk layout voice desk) stores leads)
