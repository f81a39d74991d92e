-- Scopes one after the other: what leads through a scope to a desk of which something holds, and on from each such
-- desk.
use Rattle.std.proofs.Common.{◌≡◌, ℕ, nat_eq, Bool, true, false, Option, Some, None, if◌then◌else◌}
use Rattle.std.proofs.lemmas.Bool.{both_ways}
use Rattle.std.specs.Option.{option_or}
use Rattle.scopes.specs.Trees.{Tree, ThenTree, ScopeTree, LoopTree, WhenTree, ChooseTree, NeverTree}
use Rattle.player_desk.proofs.VoiceDesks.{VoiceDesk, Reader, Either, Ways, done_as, in_scope, Leading}
use Rattle.player_desk.proofs.Following.{leads_on}

-- ---- parts of a tree, by the names of scopes

-- a scope with this name, and what follows it
pub record Cut : Type 0 where
  pub body : Tree
  pub rest : Tree

abbrev pub cut_at : ℕ → Tree → Option Cut
cut_at name (ThenTree (ScopeTree other body) rest) =
    if nat_eq other name then Some (record { body = body; rest = rest })
    else option_or (cut_at name body) (cut_at name rest)
cut_at name (ThenTree first rest) = option_or (cut_at name first) (cut_at name rest)
cut_at name (ScopeTree other body) = cut_at name body
cut_at name (LoopTree count body) = cut_at name body
cut_at name (WhenTree condition body) = cut_at name body
cut_at name (ChooseTree condition this other) = option_or (cut_at name this) (cut_at name other)
cut_at name tree = None

abbrev pub body_in : Option Cut → Tree
body_in (Some cut) = cut.body
body_in None = NeverTree

abbrev pub rest_in : Option Cut → Tree
rest_in (Some cut) = cut.rest
rest_in None = NeverTree

-- the lines of the first scope with this name, and those behind it
abbrev pub body_of : ℕ → Tree → Tree
body_of name tree = body_in (cut_at name tree)

abbrev pub rest_of : ℕ → Tree → Tree
rest_of name tree = rest_in (cut_at name tree)

-- ---- joining

either_on : (z : Bool) (P Q R S : Type 0) → (P → R) → (Q → S) → Either z P Q → Either z R S
either_on true P Q R S one two p = one p
either_on false P Q R S one two p = two p

-- a scope in which each way to its end leads to a desk of which P holds
pub joined : (voiced : Bool) (r : Reader) (name : ℕ) (body rest : Tree) (P : VoiceDesk → Type 0) (ways : Ways)
    (d : VoiceDesk) → Leading voiced r body (in_scope name (done_as P ways)) d →
    ((m : VoiceDesk) → P m → Leading voiced r rest ways m) →
    Leading voiced r (ThenTree (ScopeTree name body) rest) ways d
joined voiced r name body rest P ways d leads on =
    leads_on voiced r body (in_scope name (done_as P ways))
    (in_scope name (done_as (Leading voiced r rest ways) ways)) d
    (record {
      done = on;
      left = λ other m q.
          either_on (nat_eq other name) (P m) (ways.Left other m) (Leading voiced r rest ways m) (ways.Left other m)
          (on m) (λ same. same) q;
      again = λ m q. q;
    }) leads

-- any lines, likewise
pub goes_on : (voiced : Bool) (r : Reader) (first rest : Tree) (P : VoiceDesk → Type 0) (ways : Ways) (d : VoiceDesk) →
    Leading voiced r first (done_as P ways) d → ((m : VoiceDesk) → P m → Leading voiced r rest ways m) →
    Leading voiced r (ThenTree first rest) ways d
goes_on voiced r first rest P ways d leads on =
    leads_on voiced r first (done_as P ways) (done_as (Leading voiced r rest ways) ways) d
    (record { done = on; left = λ other m q. q; again = λ m q. q }) leads

-- lines under a condition that holds, and under one that doesn't
pub kept_lead : (voiced : Bool) (r : Reader) (condition : ℕ) (body rest : Tree) (ways : Ways) (d : VoiceDesk) →
    r.layout.holds condition ≡ true → Leading voiced r body (done_as (Leading voiced r rest ways) ways) d →
    Leading voiced r (ThenTree (WhenTree condition body) rest) ways d
kept_lead voiced r condition body rest ways d on leads =
    (λ kept. leads, λ out. absurd (both_ways (r.layout.holds condition) out on))

pub unkept_lead : (voiced : Bool) (r : Reader) (condition : ℕ) (body rest : Tree) (ways : Ways) (d : VoiceDesk) →
    r.layout.holds condition ≡ false → Leading voiced r rest ways d →
    Leading voiced r (ThenTree (WhenTree condition body) rest) ways d
unkept_lead voiced r condition body rest ways d off leads =
    (λ kept. absurd (both_ways (r.layout.holds condition) off kept), λ out. leads)

-- nowhere but to the end
abbrev pub ends : (VoiceDesk → Type 0) → Ways
ends Q = record { Done = Q; Left = λ name d. ⊥; Again = λ d. ⊥ }

-- nowhere but out of this scope
abbrev pub leaves : ℕ → (VoiceDesk → Type 0) → Ways
leaves scope Q = record { Done = λ d. ⊥; Left = λ name d. Either (nat_eq name scope) (Q d) ⊥; Again = λ d. ⊥ }
