-- The variables and the registers on the way, once all are cleared; instruction by instruction.
use Rattle.std.proofs.Common.{◌≡◌, ◌≢◌, ℕ, ◌+◌, ◌%◌, ◌<◌, Bool, true, false, nat_eq, nat_le, if◌then◌else◌}
use Rattle.std.proofs.Common.{refl, sym, ap, ◌∙◌, arith}
use Rattle.std.proofs.lemmas.Bool.{eqb-true, eqb-false}
use Rattle.cpu6502.specs.declared.memory.TheConstants.{MEMORY_SIZE}
use Rattle.cpu6502.specs.declared.mnemonic.Mnemonic.TheVariants.{Lda, Ldx, Sta, Dec, Dey, Txa, Sec, Sbc, Tax}
use Rattle.cpu6502.specs.declared.cpu.Cpu.{Cpu}
use Rattle.cpu6502.specs.Registers.{with_a, with_sign_and_zero, with_x, with_y}
use Rattle.cpu6502.specs.Arithmetic.{added}
use Rattle.code_runs.specs.Runs.{put}
use Rattle.code_runs.proofs.Laws.{put_same, put_other}
use Rattle.scopes.specs.declared.line.Operand.TheVariants.{Number, Var, Own, Entry}
use Rattle.scopes.specs.Desk.{Desk, Layout}
use Rattle.scopes.specs.Meaning.{Outcome, Done}
use Rattle.scopes.specs.Trees.{Tree, DoTree, WithTree, ThenTree, WhenTree}
use Rattle.player_memory.specs.declared.labels.TheConstants.{VARIABLES}
use Rattle.player_memory.specs.Rooms.{IsRoom, MayUse}
use Rattle.player_memory.specs.Playing.{place_in}
use Rattle.init_code.proofs.Going.{Goes, goes_on, then_goes, loaded, stored, step, step_alone, kept, not_kept}

-- a place at which no variable stands
abbrev pub IsNoVariable : Layout → ℕ → Type 0
IsNoVariable layout place = (label : ℕ) → label < VARIABLES → place ≢ layout.address label

-- the registers, the variables by their labels, and what stands elsewhere
pub record IsHere (layout : Layout) (past vars : ℕ → ℕ) (a x y : ℕ) (d : Desk) : Type 0 where
  pub a_is : d.cpu.a ≡ a
  pub x_is : d.cpu.x ≡ x
  pub y_is : d.cpu.y ≡ y
  pub decimal : d.cpu.d ≡ false
  pub variables : (label : ℕ) → label < VARIABLES → d.at (layout.address label) ≡ vars label
  pub others : (place : ℕ) → IsNoVariable layout place → d.at place ≡ past place

-- what follows goes on wherever they are so
abbrev pub Onward : (layout : Layout) (past vars : ℕ → ℕ) (a x y : ℕ) → Tree → Outcome → (Desk → Type 0) →
    Type 0
Onward layout past vars a x y rest end P = (m : Desk) → IsHere layout past vars a x y m → Goes layout rest end P m

-- ---- registers

-- other registers
moved : {layout : Layout} {past vars : ℕ → ℕ} {a x y a_then x_then y_then : ℕ} {d : Desk} (cpu : Cpu) →
    IsHere layout past vars a x y d → cpu.a ≡ a_then → cpu.x ≡ x_then → cpu.y ≡ y_then → cpu.d ≡ false →
    IsHere layout past vars a_then x_then y_then (record d { cpu = cpu })
moved cpu here a_is x_is y_is decimal = record {
  a_is = a_is;
  x_is = x_is;
  y_is = y_is;
  decimal = decimal;
  variables = here.variables;
  others = here.others;
}

pub lda_number : {layout : Layout} {past vars : ℕ → ℕ} {a x y number : ℕ} {rest : Tree} {end : Outcome}
    {P : Desk → Type 0} {d : Desk} → IsHere layout past vars a x y d →
    Onward layout past vars number x y rest end P → Goes layout (ThenTree (WithTree Lda (Number number)) rest) end P d
lda_number {layout = layout} {number = number} {rest = rest} {end = end} {P = P} {d = d} here follows =
    step layout Lda (Number number) rest end P d (loaded number d) refl
    (follows _ (moved (with_a d.cpu number) here refl here.x_is here.y_is here.decimal))

pub ldx_number : {layout : Layout} {past vars : ℕ → ℕ} {a x y number : ℕ} {rest : Tree} {end : Outcome}
    {P : Desk → Type 0} {d : Desk} → IsHere layout past vars a x y d →
    Onward layout past vars a number y rest end P → Goes layout (ThenTree (WithTree Ldx (Number number)) rest) end P d
ldx_number {layout = layout} {number = number} {rest = rest} {end = end} {P = P} {d = d} here follows =
    step layout Ldx (Number number) rest end P d (record d { cpu = with_x d.cpu number }) refl
    (follows _ (moved (with_x d.cpu number) here here.a_is refl here.y_is here.decimal))

pub dey : {layout : Layout} {past vars : ℕ → ℕ} {a x y : ℕ} {rest : Tree} {end : Outcome} {P : Desk → Type 0}
    {d : Desk} → IsHere layout past vars a x y d → Onward layout past vars a x ((y + 255) % 256) rest end P →
    Goes layout (ThenTree (DoTree Dey) rest) end P d
dey {layout = layout} {y = y} {rest = rest} {end = end} {P = P} {d = d} here follows =
    step_alone layout Dey rest end P d (record d { cpu = with_y d.cpu ((d.cpu.y + 255) % 256) }) refl
    (follows _ (moved (with_y d.cpu ((d.cpu.y + 255) % 256)) here here.a_is here.x_is
    (ap (λ n. (n + 255) % 256) here.y_is) here.decimal))

-- ---- where a condition holds

-- a byte is put under a label where it does, and else the one that it has
abbrev pub put_where : Bool → (ℕ → ℕ) → ℕ → ℕ → ℕ → ℕ
put_where holds vars label byte = put vars label (if holds then byte else vars label)

same_put : (vars : ℕ → ℕ) (label other : ℕ) → put vars label (vars label) other ≡ vars other
same_put vars label other = by_case (nat_eq other label) refl
  where
    by_case : (z : Bool) → nat_eq other label ≡ z → put vars label (vars label) other ≡ vars other
    by_case true e =
        let same = eqb-true other label e in rw same (put_same vars label (vars label))
    by_case false e = put_other vars label (vars label) other (eqb-false other label e)

put_here : {layout : Layout} {past : ℕ → ℕ} {a x y : ℕ} {d : Desk} (holds : Bool) (vars : ℕ → ℕ) (label byte : ℕ) →
    holds ≡ true → IsHere layout past (put vars label byte) a x y d →
    IsHere layout past (put_where holds vars label byte) a x y d
put_here holds vars label byte on here = rw on here

not_put : {layout : Layout} {past vars : ℕ → ℕ} {a x y : ℕ} {d : Desk} (holds : Bool) (label byte : ℕ) →
    holds ≡ false → IsHere layout past vars a x y d → IsHere layout past (put_where holds vars label byte) a x y d
not_put {vars = vars} holds label byte off here = record {
  a_is = here.a_is;
  x_is = here.x_is;
  y_is = here.y_is;
  decimal = here.decimal;
  variables = λ other few. rw off (here.variables other few ∙ sym (same_put vars label other));
  others = here.others;
}

-- a byte that is there already is put
pub with_same : {layout : Layout} {past vars : ℕ → ℕ} {a x y : ℕ} {d : Desk} (label byte : ℕ) → vars label ≡ byte →
    IsHere layout past vars a x y d → IsHere layout past (put vars label byte) a x y d
with_same {vars = vars} label byte is here = record {
  a_is = here.a_is;
  x_is = here.x_is;
  y_is = here.y_is;
  decimal = here.decimal;
  variables = λ other few.
      here.variables other few ∙ sym (ap (λ n. put vars label n other) (sym is) ∙ same_put vars label other);
  others = here.others;
}

-- Lines that put a byte under a label, and stand under a condition, put it where that holds. A may be another behind
-- them.
pub where_kept : {layout : Layout} {past vars : ℕ → ℕ} {a a_then x y : ℕ} {rest : Tree} {end : Outcome}
    {P : Desk → Type 0} {d : Desk} (condition label byte : ℕ) (body : Tree) → IsHere layout past vars a x y d →
    Goes layout body Done (IsHere layout past (put vars label byte) a_then x y) d →
    ((its : ℕ) → Onward layout past (put_where (layout.holds condition) vars label byte) its x y rest end P) →
    Goes layout (ThenTree (WhenTree condition body) rest) end P d
where_kept {layout = layout} {vars = vars} {a = a} {a_then = a_then} {rest = rest} {end = end} {P = P} {d = d}
    condition label byte body here goes follows =
    then_goes layout (WhenTree condition body) rest end P d (by_case (layout.holds condition) refl)
  where
    by_case : (z : Bool) → layout.holds condition ≡ z →
        Goes layout (WhenTree condition body) Done (Goes layout rest end P) d
    by_case true on =
        kept layout condition body Done _ d on
        (goes_on layout body Done _ _ d
        (λ m stored. follows a_then m (put_here (layout.holds condition) vars label byte on stored)) goes)
    by_case false off =
        not_kept layout condition body _ d off (follows a d (not_put (layout.holds condition) label byte off here))

-- ---- variables

-- the byte of a voice at X stands so far behind the first voice's
pub record IsVoiceAt (layout : Layout) (label x : ℕ) : Type 0 where
  pub few : label + x < VARIABLES
  pub at : layout.address (label + x) ≡ layout.address label + x

-- behind a byte that is counted
abbrev counted : ℕ → ℕ → Desk → Desk
counted place byte d = record { cpu = with_sign_and_zero d.cpu byte; at = put d.at place byte }

module _ (layout : Layout) (rows : ℕ) (room : IsRoom layout rows) (may : MayUse layout rows) where
  apart : (one two : ℕ) → one < VARIABLES → two < VARIABLES → one ≢ two → layout.address one ≢ layout.address two
  apart one two few less other e = other (room.variables.apart one two few less e)

  -- a byte is put under a label
  put_variables : (at vars : ℕ → ℕ) (label byte its : ℕ) → label < VARIABLES → byte ≡ its →
      ((other : ℕ) → other < VARIABLES → at (layout.address other) ≡ vars other) → (other : ℕ) →
      other < VARIABLES → put at (layout.address label) byte (layout.address other) ≡ put vars label its other
  put_variables at vars label byte its few is each other less = by_case (nat_eq other label) refl
    where
      by_case : (z : Bool) → nat_eq other label ≡ z →
          put at (layout.address label) byte (layout.address other) ≡ put vars label its other
      by_case true e =
          let same = eqb-true other label e in
          rw same (put_same at (layout.address label) byte ∙ is ∙ sym (put_same vars label its))
      by_case false e =
          let away = eqb-false other label e in
          put_other at (layout.address label) byte (layout.address other) (apart other label less few away)
          ∙ each other less ∙ sym (put_other vars label its other away)

  -- registers that are so, but for flags, with a byte under a label
  written : {past vars : ℕ → ℕ} {a x y : ℕ} {d : Desk} (cpu : Cpu) (label byte its : ℕ) → label < VARIABLES →
      byte ≡ its → IsHere layout past vars a x y d → IsHere layout past vars a x y (record d { cpu = cpu }) →
      IsHere layout past (put vars label its) a x y (record { cpu = cpu; at = put d.at (layout.address label) byte })
  written {vars = vars} {d = d} cpu label byte its few is here after = record {
    a_is = after.a_is;
    x_is = after.x_is;
    y_is = after.y_is;
    decimal = after.decimal;
    variables = put_variables d.at vars label byte its few is here.variables;
    others = λ place out.
        put_other d.at (layout.address label) byte place (out label few) ∙ here.others place out;
  }

  -- the place of a voice's byte
  own_place : {past vars : ℕ → ℕ} {a x y : ℕ} {d : Desk} (label : ℕ) → IsVoiceAt layout label x →
      IsHere layout past vars a x y d → (layout.address label + d.cpu.x) % MEMORY_SIZE ≡ layout.address (label + x)
  own_place {x = x} label own here =
      let at = own.at in
      let to = room.variables.to (label + x) own.few in
      let e = here.x_is in omega (arith, at, to, e)

  pub sta_var : {past vars : ℕ → ℕ} {a x y label : ℕ} {rest : Tree} {end : Outcome} {P : Desk → Type 0} {d : Desk} →
      label < VARIABLES → IsHere layout past vars a x y d →
      Onward layout past (put vars label a) a x y rest end P →
      Goes layout (ThenTree (WithTree Sta (Var label)) rest) end P d
  sta_var {label = label} {rest = rest} {end = end} {P = P} {d = d} few here follows =
      step layout Sta (Var label) rest end P d (stored (layout.address label) d) (rw (may.writes label few) refl)
      (follows _ (written d.cpu label d.cpu.a _ few here.a_is here here))

  pub sta_own : {past vars : ℕ → ℕ} {a x y label : ℕ} {rest : Tree} {end : Outcome} {P : Desk → Type 0} {d : Desk} →
      IsVoiceAt layout label x → IsHere layout past vars a x y d →
      Onward layout past (put vars (label + x) a) a x y rest end P →
      Goes layout (ThenTree (WithTree Sta (Own label)) rest) end P d
  sta_own {x = x} {label = label} {rest = rest} {end = end} {P = P} {d = d} own here follows =
      step layout Sta (Own label) rest end P d (stored (layout.address (label + x)) d)
      (rw (own_place label own here, may.writes (label + x) own.few) refl)
      (follows _ (written d.cpu (label + x) d.cpu.a _ own.few here.a_is here here))

  -- a byte is counted down
  pub dec_own : {past vars : ℕ → ℕ} {a x y label : ℕ} {rest : Tree} {end : Outcome} {P : Desk → Type 0} {d : Desk} →
      IsVoiceAt layout label x → IsHere layout past vars a x y d →
      Onward layout past (put vars (label + x) ((vars (label + x) + 255) % 256)) a x y rest end P →
      Goes layout (ThenTree (WithTree Dec (Own label)) rest) end P d
  dec_own {x = x} {label = label} {rest = rest} {end = end} {P = P} {d = d} own here follows =
      step layout Dec (Own label) rest end P d (counted (layout.address (label + x)) byte d)
      (rw (own_place label own here, may.reads (label + x) own.few, may.writes (label + x) own.few) refl)
      (follows _ (written (with_sign_and_zero d.cpu byte) (label + x) byte _ own.few
      (ap (λ n. (n + 255) % 256) (here.variables (label + x) own.few)) here
      (moved _ here here.a_is here.x_is here.y_is here.decimal)))
    where
      byte : ℕ
      byte = (d.at (layout.address (label + x)) + 255) % 256

-- ---- lists

-- a list has this byte, outside of the variables
pub record IsEntry (layout : Layout) (past : ℕ → ℕ) (label number byte : ℕ) : Type 0 where
  pub reads : layout.may_read (place_in layout label number) ≡ true
  pub out : IsNoVariable layout (place_in layout label number)
  pub is : past (place_in layout label number) ≡ byte

pub lda_entry : {layout : Layout} {past vars : ℕ → ℕ} {a x y label byte : ℕ} {rest : Tree} {end : Outcome}
    {P : Desk → Type 0} {d : Desk} → IsEntry layout past label y byte → IsHere layout past vars a x y d →
    Onward layout past vars byte x y rest end P → Goes layout (ThenTree (WithTree Lda (Entry label)) rest) end P d
lda_entry {layout = layout} {y = y} {label = label} {rest = rest} {end = end} {P = P} {d = d} entry here follows =
    step layout Lda (Entry label) rest end P d (loaded (d.at (place_in layout label y)) d)
    (rw (place, entry.reads) refl)
    (follows _ (moved _ here (here.others (place_in layout label y) entry.out ∙ entry.is) here.x_is here.y_is
    here.decimal))
  where
    place : (layout.address label + d.cpu.y) % MEMORY_SIZE ≡ place_in layout label y
    place = ap (λ n. (layout.address label + n) % MEMORY_SIZE) here.y_is

-- ---- the next voice

abbrev pub next_tree : Tree → Tree
next_tree rest =
    ThenTree (DoTree Txa) (ThenTree (DoTree Sec) (ThenTree (WithTree Sbc (Number 7)) (ThenTree (DoTree Tax) rest)))

abbrev x_in_a : Desk → Desk
x_in_a d = loaded d.cpu.x d

abbrev with_carry : Desk → Desk
with_carry d = record d { cpu = record (d.cpu) { c = true } }

abbrev seven_less : Desk → Desk
seven_less d = record d { cpu = added d.cpu 248 }

abbrev a_in_x : Desk → Desk
a_in_x d = record d { cpu = with_x d.cpu d.cpu.a }

-- X is 7 less, and the carry says whether it was as much
pub next_voice : (layout : Layout) (past vars : ℕ → ℕ) (a x y : ℕ) (rest : Tree) (end : Outcome) (P : Desk → Type 0)
    (d : Desk) → IsHere layout past vars a x y d →
    ((m : Desk) → m.cpu.c ≡ nat_le 256 (x + 248 + 1) →
    IsHere layout past vars ((x + 248 + 1) % 256) ((x + 248 + 1) % 256) y m → Goes layout rest end P m) →
    Goes layout (next_tree rest) end P d
next_voice layout past vars a x y rest end P d here follows =
    step_alone layout Txa _ end P d (x_in_a d) refl
    (step_alone layout Sec _ end P _ (with_carry (x_in_a d)) refl
    (step layout Sbc (Number 7) _ end P _ (seven_less (with_carry (x_in_a d))) (rw here.decimal refl)
    (step_alone layout Tax _ end P _ (a_in_x (seven_less (with_carry (x_in_a d)))) refl
    (follows _ (ap (λ n. nat_le 256 (n + 248 + 1)) here.x_is) (moved _ here sum sum here.y_is here.decimal)))))
  where
    sum : (d.cpu.x + 248 + 1) % 256 ≡ (x + 248 + 1) % 256
    sum = ap (λ n. (n + 248 + 1) % 256) here.x_is
