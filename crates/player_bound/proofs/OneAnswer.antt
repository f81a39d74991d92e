-- Numbers are answered in one way, and what an image keeps for one song it keeps for each that plays the same.
use Rattle.std.proofs.Common.{◌≡◌, ℕ, zero, suc, ◌+◌, ◌<◌, ◌≤◌, ◌++◌, List, [], ◌∷◌, length, get_or, Ok, Err, Result, inl, inr}
use Rattle.std.proofs.Common.{refl, sym, ap, ◌∙◌, subst, arith}
use Rattle.std.proofs.lemmas.Bool.{cases_lt}
use Rattle.std.proofs.lemmas.List.{take-append-drop, length-append}
use Rattle.song_model.specs.declared.songs.Song.{Song}
use Rattle.play_model.specs.declared.options.Options.{Options}
use Rattle.same_frames.specs.SamePlays.{PlaysSame}
use Rattle.faithful.proofs.Laws.{made_for, led_for}
use Rattle.cycle_bound.specs.declared.checks.CertFault.{CertFault}
use Rattle.cycle_bound.specs.declared.checks.CertKind.{CertKind}
use Rattle.cycle_bound.specs.declared.checks.CertKind.TheVariants.{BadShape, TooSmall}
use Rattle.cycle_bound.specs.EntranceRules.{call_asked}
use Rattle.cycle_bound.specs.Faults.{IsShort}
use Rattle.cycle_bound.specs.Rules.{Reaches}
use Rattle.std.proofs.Common.{Some, None}
use Rattle.cycle_bound.proofs.Laws.{admitted_length}
use Rattle.player_bound.specs.declared.bounds.CallBounds.{CallBounds}
use Rattle.player_bound.specs.Programs.{Blocks, init_nodes, init_numbers, play_numbers, both_asked}
use Rattle.player_bound.specs.Answers.{AreBounds, IsFault, AreChecked, all_nodes}
use Rattle.player_bound.specs.BoundLaws.{KeepsBounds, OneAnswer}

-- ---- bounds and faults with the same parts

same_bounds : (x y : CallBounds) → x.init ≡ y.init → x.play ≡ y.play → x ≡ y
same_bounds x y p q =
    let one : x ≡ record { init = y.init; play = x.play } = ap (λ n. record { init = n; play = x.play }) p in
    one ∙ ap (λ n. record { init = y.init; play = n }) q

same_fault : (x y : CertFault) → x.place ≡ y.place → x.kind ≡ y.kind → x ≡ y
same_fault x y p q =
    let one : x ≡ record { place = y.place; kind = x.kind } = ap (λ n. record { place = n; kind = x.kind }) p in
    one ∙ ap (λ n. record { place = y.place; kind = n }) q

-- ---- numbers that are admitted have no fault

reaches_at : (least numbers : List ℕ) (place : ℕ) → Reaches least numbers → get_or least place 0 ≤ get_or numbers place 0
reaches_at [] [] place reaches = omega arith
reaches_at [] (number ∷ numbers) place reaches = absurd reaches
reaches_at (l ∷ least) [] place reaches = absurd reaches
reaches_at (l ∷ least) (number ∷ numbers) zero reaches = reaches.0
reaches_at (l ∷ least) (number ∷ numbers) (suc place) reaches = reaches_at least numbers place reaches.1

reach_both : (least numbers more others : List ℕ) → Reaches least numbers → Reaches more others →
    Reaches (least ++ more) (numbers ++ others)
reach_both [] [] more others one two = two
reach_both [] (number ∷ numbers) more others one two = absurd one
reach_both (l ∷ least) [] more others one two = absurd one
reach_both (l ∷ least) (number ∷ numbers) more others one two =
    (one.0, reach_both least numbers more others one.1 two)

module _ (b : Blocks) (numbers : List ℕ) where
  no_fault : (bounds : CallBounds) (kind : CertKind) (place : ℕ) → AreBounds b numbers bounds →
      IsFault b numbers kind place → ⊥
  no_fault bounds BadShape place are fault =
      let front = admitted_length b.setting b.init None (init_numbers b numbers) are.init_admitted in
      let back = admitted_length b.setting b.first (Some b.voice) (play_numbers b numbers) are.play_admitted in
      let all = length-append (init_numbers b numbers) (play_numbers b numbers) in
      let whole = ap length (take-append-drop (init_nodes b) numbers) in
      fault.0 (omega (arith, front, back, all, whole))
  no_fault bounds TooSmall place are fault =
      let both = reach_both (call_asked b.setting b.init None (init_numbers b numbers)) (init_numbers b numbers)
      (call_asked b.setting b.first (Some b.voice) (play_numbers b numbers)) (play_numbers b numbers) are.init_admitted
      are.play_admitted in
      let reaches = subst (Reaches (both_asked b numbers)) (take-append-drop (init_nodes b) numbers) both in
      let least = reaches_at (both_asked b numbers) numbers place reaches in
      let short = fault.1.short in
      absurd (omega (arith, least, short))

  not_before : (p q : ℕ) → IsShort (both_asked b numbers) numbers p → IsShort (both_asked b numbers) numbers q → q ≤ p
  not_before p q one other = elim (cases_lt p q) [
    | inl before ↦ absurd (let least = other.before p before in let short = one.short in omega (arith, least, short))
    | inr after ↦ after
  ]

  one_fault : (kind other : CertKind) (p q : ℕ) → IsFault b numbers kind p → IsFault b numbers other q →
      (p ≡ q) × (kind ≡ other)
  one_fault BadShape BadShape p q one two = (one.1 ∙ sym two.1, refl)
  one_fault BadShape TooSmall p q one two = absurd (one.0 two.0)
  one_fault TooSmall BadShape p q one two = absurd (two.0 one.0)
  one_fault TooSmall TooSmall p q one two =
      let low = not_before p q one.1 two.1 in let high = not_before q p two.1 one.1 in (omega (arith, low, high), refl)

pub one_answer : OneAnswer
one_answer b numbers (Ok x) (Ok y) one two =
    ap (λ (bounds : CallBounds). Ok bounds) (same_bounds x y (one.init ∙ sym two.init) (one.play ∙ sym two.play))
one_answer b numbers (Ok x) (Err f) one two = absurd (no_fault b numbers x f.kind f.place one two)
one_answer b numbers (Err f) (Ok x) one two = absurd (no_fault b numbers x f.kind f.place two one)
one_answer b numbers (Err f) (Err g) one two =
    let same = one_fault b numbers f.kind g.kind f.place g.place one two in
    ap (λ (fault : CertFault). Err fault) (same_fault f g same.0 same.1)

-- ---- songs that play the same

pub kept_for : (bytes : List ℕ) (origin zero_page : ℕ) (o : Options) (song other : Song) (b : Blocks) →
    PlaysSame o song other → KeepsBounds bytes origin other b → KeepsBounds bytes origin song b
kept_for bytes origin zero_page o song other b same keeps earlier call before machine number steps after lead is agrees made
    called numbers admitted =
    keeps earlier call before machine number steps after
    (led_for bytes origin zero_page o song other same earlier before lead) is agrees
    (made_for bytes origin zero_page o song other same call number made) called numbers admitted
