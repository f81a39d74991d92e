-- An entrance of a player does what it does in two layouts in which each variable has a byte: their spare bytes are
-- neither read nor written.
use Rattle.std.proofs.Common.{◌≡◌, ◌≢◌, ℕ, ◌+◌, ◌<◌, ◌≤◌, ◌⊎◌, ◌||◌, Bool, true, false, nat_eq, nat_le, nat_lt}
use Rattle.std.proofs.Common.{List, length, inl, inr, refl, ap, ◌∙◌, arith}
use Rattle.std.proofs.lemmas.Bool.{or_cases, and_parts, both_ways, eqb-true, leb-true, ltb-true, le-leb, lt-ltb}
use Rattle.song_model.specs.declared.songs.Song.{Song}
use Rattle.play_model.specs.declared.options.Options.{Options}
use Rattle.packed_form.specs.declared.packed_songs.PackedSong.{PackedSong}
use Rattle.scopes.specs.Desk.{Desk}
use Rattle.scopes.specs.Meaning.{Outcome, Done, Stuck}
use Rattle.scope_calls.specs.Entrances.{Entrance, have_lines}
use Rattle.scope_calls.specs.Meaning.{entrance_ran}
use Rattle.narrow_runs.specs.Named.{names, entrance_names}
use Rattle.narrow_runs.specs.Narrow.{AgreesOn, IsNarrow, IsSameBut, CameTo}
use Rattle.narrow_runs.proofs.Laws.{entrances_are_narrow}
use Rattle.player_memory.specs.declared.labels.TheConstants.{VARIABLES}
use Rattle.player_text.specs.Texts.{filter_tree, voice_tree, init_tree}
use Rattle.variable_places.specs.Places.{has_byte}
use Rattle.variable_places.proofs.Laws.{named_have_bytes}
use Rattle.player_code.specs.declared.labels.TheConstants.{INIT_CODE, PLAY_CODE}
use Rattle.player_code.specs.CodeLines.{play_entrance, init_entrance, cleared_of}
use Rattle.player_code.specs.Plans.{Plan, plan_layout, its_play, its_init}
use Rattle.player_calls.specs.WideLayouts.{spare_from, is_spare, wide_address, wide_layout}
use Rattle.player_calls.specs.Players.{IsPlayer, MayBeWritten, AtVariable, InLists, AtRegister, AtTimer}

-- ---- spare places

pub record InSpare (place : ℕ) : Type 0 where
  pub from : 0x0200 ≤ place
  pub to : place < 0x0371

pub in_spare : (which : Bool) (place : ℕ) → is_spare which place ≡ true → InSpare place
in_spare false place is =
    let parts = and_parts (nat_le 0x0200 place) (nat_lt place 0x0271) is in
    let from = leb-true 0x0200 place parts.0 in
    let to = ltb-true place 0x0271 parts.1 in
    record { from = from; to = omega (arith, to) }
in_spare true place is =
    let parts = and_parts (nat_le 0x0300 place) (nat_lt place 0x0371) is in
    let from = leb-true 0x0300 place parts.0 in
    let to = ltb-true place 0x0371 parts.1 in
    record { from = omega (arith, from); to = to }

pub spare_is : (which : Bool) (label : ℕ) → label < VARIABLES → is_spare which (spare_from which + label) ≡ true
spare_is false label few = rw (le-leb 0x0200 (0x0200 + label) (omega arith), lt-ltb (0x0200 + label) 0x0271 (omega (arith, few))) refl
spare_is true label few = rw (le-leb 0x0300 (0x0300 + label) (omega arith), lt-ltb (0x0300 + label) 0x0371 (omega (arith, few))) refl

-- none of the one layout's is one of the other's
spare_once : (place : ℕ) → is_spare false place ≡ true → is_spare true place ≡ true → ⊥
spare_once place one two =
    let to = ltb-true place 0x0271 (and_parts (nat_le 0x0200 place) (nat_lt place 0x0271) one).1 in
    let from = leb-true 0x0300 place (and_parts (nat_le 0x0300 place) (nat_lt place 0x0371) two).0 in
    omega (arith, to, from)

-- what stands before or behind them is none
pub no_spare : (which : Bool) (place : ℕ) → (place < 0x0200) ⊎ (0x0371 ≤ place) → is_spare which place ≡ false
no_spare which place out = by_case (is_spare which place) refl
  where
    by_case : (z : Bool) → is_spare which place ≡ z → is_spare which place ≡ false
    by_case false e = e
    by_case true e =
        let is = in_spare which place e in
        let from = is.from in
        let to = is.to in
        elim out [
          | inl before ↦ absurd (omega (arith, before, from))
          | inr behind ↦ absurd (omega (arith, behind, to))
        ]

pub read_behind : {packed : PackedSong} {song : Song} {o : Options} {bytes : List ℕ} (plan : Plan) →
    IsPlayer plan packed song o bytes → (place : ℕ) → plan.may_read place ≡ true → 0x0800 ≤ place
read_behind plan p place may =
    let begins = p.begins in
    elim (p.reads place may) [
      | inl variable ↦ let from = variable.from in omega (arith, begins, from)
      | inr list ↦ let from = list.from in omega (arith, begins, from)
    ]

written_behind : {packed : PackedSong} {song : Song} {o : Options} {bytes : List ℕ} (plan : Plan) →
    IsPlayer plan packed song o bytes → (place : ℕ) → MayBeWritten plan place → 0x0800 ≤ place
written_behind plan p place (AtVariable is) =
    let begins = p.begins in let from = is.from in omega (arith, begins, from)
written_behind plan p place (InLists is) = let begins = p.begins in let from = is.from in omega (arith, begins, from)
written_behind plan p place (AtRegister from to) = omega (arith, from)
written_behind plan p place (AtTimer holds (inl is)) = omega (arith, is)
written_behind plan p place (AtTimer holds (inr is)) = omega (arith, is)

-- ---- the layouts

pub or_left : (a b : Bool) → a ≡ true → (a || b) ≡ true
or_left true b e = refl
or_left false b e = absurd (cc)

-- what may be there in both is in the image's own layout
both_may : (own : ℕ → Bool) (place : ℕ) → (own place ≡ true → 0x0800 ≤ place) →
    (own place || is_spare false place) ≡ true → (own place || is_spare true place) ≡ true →
    (own place ≡ true) × (is_spare false place ≡ false) × (is_spare true place ≡ false)
both_may own place behind one two =
    elim (or_cases (own place) (is_spare false place) one) [
      | inl may ↦ mine may
      | inr spare ↦
          elim (or_cases (own place) (is_spare true place) two) [
            | inl may ↦ mine may
            | inr other ↦ absurd (spare_once place spare other)
          ]
    ]
  where
    mine : own place ≡ true → (own place ≡ true) × (is_spare false place ≡ false) × (is_spare true place ≡ false)
    mine may =
        let far = behind may in
        (may, no_spare false place (inr (omega (arith, far))), no_spare true place (inr (omega (arith, far))))

is_narrow : {packed : PackedSong} {song : Song} {o : Options} {bytes : List ℕ} (plan : Plan) →
    IsPlayer plan packed song o bytes →
    IsNarrow (plan_layout plan) (wide_layout plan false) (wide_layout plan true) (is_spare false) (is_spare true)
is_narrow plan p =
    let high = p.is.pointer_high in record {
      reads = λ place one two. both_may plan.may_read place (read_behind plan p place) one two;
      writes = λ place one two.
          both_may plan.may_write place (λ may. written_behind plan p place (p.writes place may)) one two;
      low = (
        no_spare false plan.pointer (inl (omega (arith, high))),
        no_spare true plan.pointer (inl (omega (arith, high))),
      );
      high = (
        no_spare false (plan.pointer + 1) (inl (omega (arith, high))),
        no_spare true (plan.pointer + 1) (inl (omega (arith, high))),
      );
    }

-- a label is a variable's that has a byte, or a list's or the code's
abbrev pub HasPlace : Plan → ℕ → Type 0
HasPlace plan label = label < VARIABLES → has_byte plan.holds label ≡ true

pub wide_at : (plan : Plan) (which : Bool) (label : ℕ) → HasPlace plan label →
    wide_address plan which label ≡ (plan_layout plan).address label
wide_at plan which label has = by_case (nat_lt label VARIABLES) refl
  where
    by_case : (z : Bool) → nat_lt label VARIABLES ≡ z →
        wide_address plan which label ≡ (plan_layout plan).address label
    by_case false e = rw e refl
    by_case true e = let is = has (ltb-true label VARIABLES e) in rw (e, is) refl

agrees : (plan : Plan) (which : Bool) (named : ℕ → Bool) → ((label : ℕ) → named label ≡ true → HasPlace plan label) →
    AgreesOn named (plan_layout plan) (wide_layout plan which)
agrees plan which named has = record {
  addresses = λ label is. wide_at plan which label (has label is);
  pointer = refl;
  holds = λ condition. refl;
  open_turns = refl;
}

-- ---- the two entrances

play_names : (plan : Plan) (label : ℕ) → entrance_names plan.holds (its_play plan) label ≡ true → HasPlace plan label
unfolding play_entrance
play_names plan label named few =
    let law = named_have_bytes plan.holds plan.start 0 label in
    elim (or_cases (nat_eq PLAY_CODE label)
    (names plan.holds filter_tree label || names plan.holds voice_tree label) named) [
      | inl code ↦ (let is = eqb-true PLAY_CODE label code in absurd (omega (arith, is, few)))
      | inr blocks ↦
          elim (or_cases (names plan.holds filter_tree label) (names plan.holds voice_tree label) blocks) [
            | inl filter ↦ law.0 filter
            | inr voice ↦ law.1 voice
          ]
    ]

init_names : (plan : Plan) (label : ℕ) → entrance_names plan.holds (its_init plan) label ≡ true → HasPlace plan label
unfolding init_entrance
init_names plan label named few =
    let cleared = cleared_of (length plan.variables) in
    let law = named_have_bytes plan.holds plan.start cleared label in
    elim (or_cases (nat_eq INIT_CODE label) (names plan.holds (init_tree plan.start cleared) label || false) named) [
      | inl code ↦ (let is = eqb-true INIT_CODE label code in absurd (omega (arith, is, few)))
      | inr block ↦
          elim (or_cases (names plan.holds (init_tree plan.start cleared) label) false block) [
            | inl init ↦ law.2 init
            | inr never ↦ absurd (both_ways false refl never)
          ]
    ]

-- ---- what both have in common

-- a run of an entrance has come to its end, and to the same as in each wide layout, but for the spare bytes
pub record Narrowed (plan : Plan) (e : Entrance) (desk : Desk) (wide : Bool → Desk) : Type 0 where
  pub ends : (entrance_ran (plan_layout plan) e desk).outcome ≡ Done
  pub side : (which : Bool) →
      IsSameBut (is_spare which) (entrance_ran (plan_layout plan) e desk).desk
      (entrance_ran (wide_layout plan which) e (wide which)).desk

abbrev is_stuck : Outcome → Bool
is_stuck Stuck = true
is_stuck outcome = false

not_stuck : (outcome : Outcome) → outcome ≡ Done → outcome ≢ Stuck
not_stuck outcome ends stuck = both_ways (is_stuck outcome) (ap is_stuck ends) (ap is_stuck stuck)

narrowed : {packed : PackedSong} {song : Song} {o : Options} {bytes : List ℕ} (plan : Plan) →
    IsPlayer plan packed song o bytes → (e : Entrance) → have_lines e ≡ true →
    ((label : ℕ) → entrance_names plan.holds e label ≡ true → HasPlace plan label) → (desk : Desk)
    (wide : Bool → Desk) → ((which : Bool) → IsSameBut (is_spare which) desk (wide which)) →
    ((which : Bool) → (entrance_ran (wide_layout plan which) e (wide which)).outcome ≡ Done) →
    Narrowed plan e desk wide
narrowed plan p e lines has desk wide same ends = record { ends = came.as_one ∙ ends false; side = side }
  where
    came : CameTo (is_spare false) (is_spare true) (entrance_ran (plan_layout plan) e desk)
        (entrance_ran (wide_layout plan false) e (wide false)) (entrance_ran (wide_layout plan true) e (wide true))
    came =
        entrances_are_narrow e (plan_layout plan) (wide_layout plan false) (wide_layout plan true) (is_spare false)
        (is_spare true) desk (wide false) (wide true) lines
        (agrees plan false (entrance_names plan.holds e) has) (agrees plan true (entrance_names plan.holds e) has)
        (is_narrow plan p) (same false) (same true) (not_stuck _ (ends false)) (not_stuck _ (ends true))

    side : (which : Bool) →
        IsSameBut (is_spare which) (entrance_ran (plan_layout plan) e desk).desk
        (entrance_ran (wide_layout plan which) e (wide which)).desk
    side false = came.first
    side true = came.second

pub play_narrowed : {packed : PackedSong} {song : Song} {o : Options} {bytes : List ℕ} (plan : Plan) →
    IsPlayer plan packed song o bytes → have_lines (its_play plan) ≡ true → (desk : Desk) (wide : Bool → Desk) →
    ((which : Bool) → IsSameBut (is_spare which) desk (wide which)) →
    ((which : Bool) → (entrance_ran (wide_layout plan which) (its_play plan) (wide which)).outcome ≡ Done) →
    Narrowed plan (its_play plan) desk wide
play_narrowed plan p lines = narrowed plan p (its_play plan) lines (play_names plan)

pub init_narrowed : {packed : PackedSong} {song : Song} {o : Options} {bytes : List ℕ} (plan : Plan) →
    IsPlayer plan packed song o bytes → have_lines (its_init plan) ≡ true → (desk : Desk) (wide : Bool → Desk) →
    ((which : Bool) → IsSameBut (is_spare which) desk (wide which)) →
    ((which : Bool) → (entrance_ran (wide_layout plan which) (its_init plan) (wide which)).outcome ≡ Done) →
    Narrowed plan (its_init plan) desk wide
init_narrowed plan p lines = narrowed plan p (its_init plan) lines (init_names plan)
