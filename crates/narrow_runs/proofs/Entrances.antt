-- An entrance does the same in a layout that has no places but those that two others have in common.
use Rattle.std.proofs.Common.{◌≡◌, ◌≢◌, ℕ, ◌+◌, ◌*◌, ◌/◌, ◌%◌, ◌||◌, Bool, true, false, nat_eq}
use Rattle.std.proofs.Common.{Option, Some, None, refl, sym, ap, ◌∙◌}
use Rattle.std.proofs.lemmas.Bool.{and_parts, eq-eqb, or_left, or_right}
use Rattle.cpu6502.specs.declared.cpu.Cpu.{Cpu}
use Rattle.cpu6502.specs.Registers.{stack_place, with_x}
use Rattle.code_runs.specs.Runs.{put}
use Rattle.scopes.specs.Desk.{Desk, Layout}
use Rattle.scopes.specs.Trees.{Tree}
use Rattle.scopes.specs.Meaning.{Done, Stuck, Ran, each_one, and_then, ran}
use Rattle.scope_lines.specs.Reach.{nothing_around, has_lines}
use Rattle.scope_calls.specs.Entrances.{Entrance, voices_place, voice_has_lines}
use Rattle.scope_calls.specs.Meaning.{cleared, at_voice, called_from, returned, back}
use Rattle.scope_calls.specs.Meaning.{voice_called}
use Rattle.scope_calls.specs.Meaning.{voice_last, voices_ran}
use Rattle.narrow_runs.specs.Named.{names, voice_names, entrance_names}
use Rattle.narrow_runs.specs.Narrow.{AgreesOn, IsNarrow, IsSameBut, CameTo, EntrancesAreNarrow}
use Rattle.narrow_runs.proofs.Instructions.{put_alike}
use Rattle.narrow_runs.proofs.Lines.{came_to, pays_narrow, then_narrow}
use Rattle.narrow_runs.proofs.Trees.{agrees_less, trees_are_narrow}

-- ---- single instructions

cleared_alike : {more : ℕ → Bool} {desk first : Desk} → IsSameBut more desk first →
    IsSameBut more (cleared desk) (cleared first)
cleared_alike same = record { cpu = ap {A = Cpu} (λ c. record c { d = false }) same.cpu; at = same.at }

voice_alike : {more : ℕ → Bool} {desk first : Desk} (voice : ℕ) → IsSameBut more desk first →
    IsSameBut more (at_voice voice desk) (at_voice voice first)
voice_alike voice same = record { cpu = ap (λ c. with_x c (7 * voice)) same.cpu; at = same.at }

-- the same place is pushed at the same places
called_alike : {more : ℕ → Bool} {desk first : Desk} (last last' : ℕ) → last' ≡ last → IsSameBut more desk first →
    IsSameBut more (called_from last desk) (called_from last' first)
called_alike {more = more} {desk = desk} {first = first} last last' e same = record {
  cpu = ap {A = Cpu} (λ c. record c { sp = (c.sp + 254) % 256 }) same.cpu;
  at = λ q f.
      put_alike more (put desk.at (stack_place desk.cpu.sp) (last / 256))
      (put first.at (stack_place desk.cpu.sp) (last / 256)) (stack_place (desk.cpu.sp + 255)) (last % 256)
      (put_alike more desk.at first.at (stack_place desk.cpu.sp) (last / 256) same.at) q f
      ∙ (ap (λ c. put (put first.at (stack_place c.sp) (last / 256)) (stack_place (c.sp + 255)) (last % 256) q) same.cpu
      ∙ ap (λ n. put (put first.at (stack_place first.cpu.sp) (n / 256)) (stack_place (first.cpu.sp + 255)) (n % 256) q)
      (sym e));
}

returned_alike : {more : ℕ → Bool} {desk first : Desk} → IsSameBut more desk first →
    IsSameBut more (returned desk) (returned first)
returned_alike same = record { cpu = ap {A = Cpu} (λ c. record c { sp = (c.sp + 2) % 256 }) same.cpu; at = same.at }

back_narrow : {more other : ℕ → Bool} {desk first second : Desk} → IsSameBut more desk first →
    IsSameBut other desk second → CameTo more other (back desk) (back first) (back second)
back_narrow same same' = came_to Done 1 (returned_alike same) (returned_alike same')

-- ---- voices

called_narrow : {more other : ℕ → Bool} (narrow one two : Layout) (block : Tree) (last last' last'' voice : ℕ)
    (desk first second : Desk) → has_lines nothing_around block ≡ true →
    AgreesOn (names narrow.holds block) narrow one → AgreesOn (names narrow.holds block) narrow two →
    IsNarrow narrow one two more other → last' ≡ last → last'' ≡ last →
    (voice_called one block last' voice first).outcome ≢ Stuck →
    (voice_called two block last'' voice second).outcome ≢ Stuck → IsSameBut more desk first →
    IsSameBut other desk second →
    CameTo more other (voice_called narrow block last voice desk) (voice_called one block last' voice first)
    (voice_called two block last'' voice second)
called_narrow {more = more} {other = other} narrow one two block last last' last'' voice desk first second has agrees
    agrees' is e f goes goes' same same' =
    let here = called_from last (at_voice voice desk) in
    let there = called_from last' (at_voice voice first) in
    let yonder = called_from last'' (at_voice voice second) in
    pays_narrow 2 2 2 refl
    (then_narrow (ran each_one narrow block here) (ran each_one one block there) (ran each_one two block yonder) back
    back back goes goes'
    (λ g g'.
    trees_are_narrow nothing_around block narrow one two more other here there yonder has agrees agrees' is
    (called_alike last last' e (voice_alike voice same)) (called_alike last last'' f (voice_alike voice same')) g g')
    (λ s s' g g'. back_narrow s s'))

last_narrow : {more other : ℕ → Bool} (narrow one two : Layout) (block : Tree) (desk first second : Desk) →
    has_lines nothing_around block ≡ true → AgreesOn (names narrow.holds block) narrow one →
    AgreesOn (names narrow.holds block) narrow two → IsNarrow narrow one two more other →
    (voice_last one block first).outcome ≢ Stuck → (voice_last two block second).outcome ≢ Stuck →
    IsSameBut more desk first → IsSameBut other desk second →
    CameTo more other (voice_last narrow block desk) (voice_last one block first) (voice_last two block second)
last_narrow {more = more} {other = other} narrow one two block desk first second has agrees agrees' is goes goes' same
    same' =
    pays_narrow 1 1 1 refl
    (trees_are_narrow nothing_around block narrow one two more other (at_voice 2 desk) (at_voice 2 first)
    (at_voice 2 second) has agrees agrees' is (voice_alike 2 same) (voice_alike 2 same') goes goes')

voices_narrow : {more other : ℕ → Bool} (narrow one two : Layout) (voice : Option Tree) (place place' place'' : ℕ)
    (desk first second : Desk) → voice_has_lines voice ≡ true →
    AgreesOn (voice_names narrow.holds voice) narrow one → AgreesOn (voice_names narrow.holds voice) narrow two →
    IsNarrow narrow one two more other → place' ≡ place → place'' ≡ place →
    (voices_ran one voice place' first).outcome ≢ Stuck → (voices_ran two voice place'' second).outcome ≢ Stuck →
    IsSameBut more desk first → IsSameBut other desk second →
    CameTo more other (voices_ran narrow voice place desk) (voices_ran one voice place' first)
    (voices_ran two voice place'' second)
voices_narrow narrow one two None place place' place'' desk first second has agrees agrees' is e f goes goes' same
    same' =
    came_to Done 0 same same'
voices_narrow {more = more} {other = other} narrow one two (Some block) place place' place'' desk first second has
    agrees agrees' is e f goes goes' same same' =
    then_narrow (voice_called narrow block (place + 4) 0 desk) (voice_called one block (place' + 4) 0 first)
    (voice_called two block (place'' + 4) 0 second) (rest narrow place) (rest one place') (rest two place'') goes goes'
    (λ g g'.
    called_narrow narrow one two block (place + 4) (place' + 4) (place'' + 4) 0 desk first second has on_one on_two is
    (ap (λ p. p + 4) e) (ap (λ p. p + 4) f) g g' same same')
    (λ s s' g g'.
    after (voice_called narrow block (place + 4) 0 desk).desk (voice_called one block (place' + 4) 0 first).desk
    (voice_called two block (place'' + 4) 0 second).desk s s' g g')
  where
    rest : Layout → ℕ → Desk → Ran
    rest layout p d = and_then (voice_called layout block (p + 9) 1 d) (voice_last layout block)

    on_one : AgreesOn (names narrow.holds block) narrow one
    on_one = agrees_less (λ label e. e) agrees

    on_two : AgreesOn (names narrow.holds block) narrow two
    on_two = agrees_less (λ label e. e) agrees'

    after : (d b c : Desk) → IsSameBut more d b → IsSameBut other d c → (rest one place' b).outcome ≢ Stuck →
        (rest two place'' c).outcome ≢ Stuck →
        CameTo more other (rest narrow place d) (rest one place' b) (rest two place'' c)
    after d b c s s' goes goes' =
        then_narrow (voice_called narrow block (place + 9) 1 d) (voice_called one block (place' + 9) 1 b)
        (voice_called two block (place'' + 9) 1 c) (voice_last narrow block) (voice_last one block)
        (voice_last two block) goes goes'
        (λ g g'.
        called_narrow narrow one two block (place + 9) (place' + 9) (place'' + 9) 1 d b c has on_one on_two is
        (ap (λ p. p + 9) e) (ap (λ p. p + 9) f) g g' s s')
        (λ t t' g g'.
        last_narrow narrow one two block (voice_called narrow block (place + 9) 1 d).desk
        (voice_called one block (place' + 9) 1 b).desk (voice_called two block (place'' + 9) 1 c).desk has on_one on_two
        is g g' t t')

-- ---- all of it

-- what the blocks name
abbrev first_or_voices : (ℕ → Bool) → Entrance → ℕ → Bool
first_or_voices holds e label = names holds e.first label || voice_names holds e.voice label

record AgreesOnParts (e : Entrance) (narrow wide : Layout) : Type 0 where
  place : wide.address e.label + voices_place e ≡ narrow.address e.label + voices_place e
  first : AgreesOn (names narrow.holds e.first) narrow wide
  voice : AgreesOn (voice_names narrow.holds e.voice) narrow wide

on_parts : (e : Entrance) (narrow wide : Layout) → AgreesOn (entrance_names narrow.holds e) narrow wide →
    AgreesOnParts e narrow wide
on_parts e narrow wide agrees = record {
  place = ap (λ n. n + voices_place e)
      (agrees.addresses e.label
      (or_left (nat_eq e.label e.label) (first_or_voices narrow.holds e e.label) (eq-eqb e.label e.label refl)));
  first = agrees_less
      (λ label f.
      behind label (or_left (names narrow.holds e.first label) (voice_names narrow.holds e.voice label) f)) agrees;
  voice = agrees_less
      (λ label f.
      behind label (or_right (names narrow.holds e.first label) (voice_names narrow.holds e.voice label) f)) agrees;
}
  where
    behind : (label : ℕ) → first_or_voices narrow.holds e label ≡ true → entrance_names narrow.holds e label ≡ true
    behind label f = or_right (nat_eq e.label label) (first_or_voices narrow.holds e label) f

pub entrances_are_narrow : EntrancesAreNarrow
entrances_are_narrow e narrow one two more other desk first second has agrees agrees' is same same' goes goes' =
    pays_narrow 1 1 1 refl
    (then_narrow (ran each_one narrow e.first (cleared desk)) (ran each_one one e.first (cleared first))
    (ran each_one two e.first (cleared second)) (rest narrow) (rest one) (rest two) goes goes'
    (λ g g'.
    trees_are_narrow nothing_around e.first narrow one two more other (cleared desk) (cleared first) (cleared second)
    lines.0 on_one.first on_two.first is (cleared_alike same) (cleared_alike same') g g')
    (λ s s' g g'.
    after (ran each_one narrow e.first (cleared desk)).desk (ran each_one one e.first (cleared first)).desk
    (ran each_one two e.first (cleared second)).desk s s' g g'))
  where
    lines : (has_lines nothing_around e.first ≡ true) × (voice_has_lines e.voice ≡ true)
    lines = and_parts (has_lines nothing_around e.first) (voice_has_lines e.voice) has

    on_one : AgreesOnParts e narrow one
    on_one = on_parts e narrow one agrees

    on_two : AgreesOnParts e narrow two
    on_two = on_parts e narrow two agrees'

    voices : Layout → Desk → Ran
    voices layout d = voices_ran layout e.voice (layout.address e.label + voices_place e) d

    rest : Layout → Desk → Ran
    rest layout d = and_then (voices layout d) back

    after : (d b c : Desk) → IsSameBut more d b → IsSameBut other d c → (rest one b).outcome ≢ Stuck →
        (rest two c).outcome ≢ Stuck → CameTo more other (rest narrow d) (rest one b) (rest two c)
    after d b c s s' goes goes' =
        then_narrow (voices narrow d) (voices one b) (voices two c) back back back goes goes'
        (λ g g'.
        voices_narrow narrow one two e.voice (narrow.address e.label + voices_place e)
        (one.address e.label + voices_place e) (two.address e.label + voices_place e) d b c lines.1 on_one.voice
        on_two.voice is on_one.place on_two.place g g' s s')
        (λ t t' g g'. back_narrow t t')
