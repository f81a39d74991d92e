-- A text is a listing in one way, or has one first bad line, and never both.
use Rattle.std.proofs.Common.{◌≡◌, ℕ, List, [], ◌∷◌, refl, sym, ◌∙◌, subst, inl, inr, arith}
use Rattle.base.proofs.Laws.{same_head, same_tail}
use Rattle.asm_text.specs.declared.statements.Written.{Written}
use Rattle.asm_text.specs.Lines.{IsOriginLine, Say, over, nothing, something, IsListing, IsFirstBad, unended, here}
use Rattle.asm_text.specs.Lines.{later, IsBadAt, no_line, no_origin, behind}
use Rattle.asm_text.proofs.WordLaws.{spells_one, origin_again}
use Rattle.asm_text.proofs.TextLaws.{nothing_spells}

-- ---- the lines behind the first

nothing_said : {number : ℕ} {script : List Written} → Say number [] script → ⊥
nothing_said says = elim says [ ]

nothing_bad : {number bad : ℕ} → IsFirstBad number [] bad → ⊥
nothing_bad is = elim is [ ]

pub same_script : {number : ℕ} {ls : List (List ℕ)} {a b : List Written} → Say number ls a → Say number ls b → a ≡ b
same_script over over = refl
same_script over (nothing says more) = absurd (nothing_said more)
same_script over (something statement spells more) = absurd (nothing_said more)
same_script (nothing says more) over = absurd (nothing_said more)
same_script (nothing says more) (nothing says2 more2) = same_script more more2
same_script (nothing {line} says more) (something statement spells more2) =
    absurd (nothing_spells line statement says spells)
same_script (something statement spells more) over = absurd (nothing_said more)
same_script (something {line} statement spells more) (nothing says more2) =
    absurd (nothing_spells line statement says spells)
same_script (something {number} {line} statement spells more) (something other spells2 more2) =
    let same : statement ≡ other = spells_one line statement other spells spells2 in
    let others = same_script more more2 in
    cc

pub never_said : {number bad : ℕ} {ls : List (List ℕ)} {script : List Written} → Say number ls script →
    IsFirstBad number ls bad → ⊥
never_said over (unended some) = absurd (omega (arith, some))
never_said over (later is more) = nothing_bad more
never_said (nothing says more) (unended some) = nothing_said more
never_said (nothing says more) (here never) = never (inl says)
never_said (nothing says more) (later is bad) = never_said more bad
never_said (something statement spells more) (unended some) = nothing_said more
never_said (something statement spells more) (here never) = never (inr (statement, spells))
never_said (something statement spells more) (later is bad) = never_said more bad

pub same_bad : {number a b : ℕ} {ls : List (List ℕ)} → IsFirstBad number ls a → IsFirstBad number ls b → a ≡ b
same_bad (unended some) (unended other) = refl
same_bad (unended some) (later is more) = absurd (nothing_bad more)
same_bad (here never) (here other) = refl
same_bad (here never) (later is more) = absurd (never is)
same_bad (later is more) (unended some) = absurd (nothing_bad more)
same_bad (later is more) (here never) = absurd (never is)
same_bad (later is more) (later is2 more2) = same_bad more more2

-- ---- a text

pub same_origin : (one other : ℕ) (line : List ℕ) → IsOriginLine one line → IsOriginLine other line → one ≡ other
same_origin one other line p q = sym (origin_again one line p) ∙ origin_again other line q

-- two listings of a text have their origins and their statements from the same parts
pub record IsOneListing (one other : ℕ) (script second : List Written) : Type 0 where
  pub origins : one ≡ other
  pub scripts : script ≡ second

pub one_listing : (text : List ℕ) (one other : ℕ) (script second : List Written) → IsListing text one script →
    IsListing text other second → IsOneListing one other script second
one_listing text one other script second p q =
    let cut : p.first ∷ p.others ≡ q.first ∷ q.others = sym p.cut ∙ q.cut in
    let first : p.first ≡ q.first = same_head p.first q.first p.others q.others cut in
    let others : p.others ≡ q.others = same_tail p.first q.first p.others q.others cut in
    record {
      origins =
          same_origin one other q.first (subst (λ line. IsOriginLine one line) first p.origin_line) q.origin_line;
      scripts = same_script (subst (λ ls. Say 2 ls script) others p.say) q.say;
    }

-- a text has one first bad line
one_by_one : (text : List ℕ) (a b : ℕ) → IsBadAt text a → IsBadAt text b → a ≡ b
one_by_one text a b (no_line first cut) (no_line second cut2) = refl
one_by_one text a b (no_line first cut) (no_origin second others cut2 never) = refl
one_by_one text a b (no_line first cut) (behind second others origin bad cut2 is more) =
    let same = same_tail first second [] others (sym cut ∙ cut2) in
    absurd (nothing_bad (subst (λ ls. IsFirstBad 2 ls b) (sym same) more))
one_by_one text a b (no_origin first others cut never) (no_line second cut2) = refl
one_by_one text a b (no_origin first others cut never) (no_origin second others2 cut2 never2) = refl
one_by_one text a b (no_origin first others cut never) (behind second others2 origin bad cut2 is more) =
    let same = same_head first second others others2 (sym cut ∙ cut2) in
    absurd (never origin (subst (λ line. IsOriginLine origin line) (sym same) is))
one_by_one text a b (behind first others origin bad cut is more) (no_line second cut2) =
    let same = same_tail first second others [] (sym cut ∙ cut2) in
    absurd (nothing_bad (subst (λ ls. IsFirstBad 2 ls a) same more))
one_by_one text a b (behind first others origin bad cut is more) (no_origin second others2 cut2 never) =
    let same = same_head first second others others2 (sym cut ∙ cut2) in
    absurd (never origin (subst (λ line. IsOriginLine origin line) same is))
one_by_one text a b (behind first others origin bad cut is more) (behind second others2 origin2 bad2 cut2 is2 more2) =
    let same = same_tail first second others others2 (sym cut ∙ cut2) in
    same_bad (subst (λ ls. IsFirstBad 2 ls a) same more) more2

pub one_bad_line : (text : List ℕ) (a b : ℕ) → IsBadAt text a → IsBadAt text b → a ≡ b
one_bad_line text a b p q = one_by_one text a b p q

-- and where it is a listing, none
pub no_bad_line : (text : List ℕ) (origin : ℕ) (script : List Written) (bad : ℕ) → IsListing text origin script →
    IsBadAt text bad → ⊥
no_bad_line text origin script bad is (no_line first cut) =
    let same = same_tail is.first first is.others [] (sym is.cut ∙ cut) in
    nothing_said (subst (λ ls. Say 2 ls script) same is.say)
no_bad_line text origin script bad is (no_origin first others cut never) =
    let same = same_head is.first first is.others others (sym is.cut ∙ cut) in
    never origin (subst (λ line. IsOriginLine origin line) same is.origin_line)
no_bad_line text origin script bad is (behind first others other bad2 cut first_is more) =
    let same = same_tail is.first first is.others others (sym is.cut ∙ cut) in
    never_said (subst (λ ls. Say 2 ls script) same is.say) more
