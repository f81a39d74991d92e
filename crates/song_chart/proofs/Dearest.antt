-- The mark of the dearest call.
use Rattle.std.proofs.Common.{◌≡◌, ℕ, suc, ◌<◌, ◌≤◌, Bool, Option, Some, None, List, [], ◌∷◌, ◌++◌, ◌==◌, All, length}
use Rattle.std.proofs.Common.{get_or, cond}
use Rattle.std.proofs.Common.{inl, inr, arith, Result, OnOk, position, sym, ap, subst, ◌∙◌}
use Rattle.std.proofs.lemmas.Bool.{cases_lt, cases_order, eqb-true, eqb-false, lt-ltb}
use Rattle.std.proofs.lemmas.List.Sums.{fails_before_first, passes_at_first}
use Rattle.std.proofs.lemmas.List.{append-nil}
use Rattle.std.specs.List.{position_or_len}
use Rattle.song_chart.specs.Laws.{DearestIsMarked}
use Rattle.song_chart.proofs.Greatest.{first_more, all_low}
use Rattle.song_chart.specs.declared.plot.Plot.{Plot}
use Rattle.song_chart.specs.Columns.{greatest}
use Rattle.song_chart.specs.Elements.{elements_text}
use Rattle.song_chart.specs.Picture.{dearest, mark_of}

pub dearest_is : (cycles : List ℕ) (most : ℕ) (place : Option ℕ) → most ≡ greatest cycles →
    place ≡ position (λ call. call == most) cycles → dearest cycles ≡ place
dearest_is cycles most place same is = sym (is ∙ ap (λ m. position (λ call. call == m) cycles) same)

pub no_mark : (old : List ℕ) (plot : Plot) (most : ℕ) (place : Option ℕ) → place ≡ None →
    old ≡ old ++ elements_text (mark_of plot most place)
no_mark old plot most place none =
    sym (ap (λ (p : Option ℕ). old ++ elements_text (mark_of plot most p)) none ∙ append-nil old)

pub some_mark : {T E : Type 0} (r : Result T E) (old after : List ℕ) (plot : Plot) (most : ℕ) (place here : Option ℕ) →
    place ≡ here → OnOk r (after ≡ old ++ elements_text (mark_of plot most here)) →
    OnOk r (after ≡ old ++ elements_text (mark_of plot most place))
some_mark r old after plot most place here is put =
    subst (λ (p : Option ℕ). OnOk r (after ≡ old ++ elements_text (mark_of plot most p))) (sym is) put

-- ---- the first of the dearest

record IsReached (calls : List ℕ) : Type 0 where
  place : ℕ
  inside : place < length calls
  is : get_or calls place 0 ≡ greatest calls

reached : (call : ℕ) (calls : List ℕ) → IsReached (call ∷ calls)
reached call [] =
    let first = first_more call [] in
    record { place = 0; inside = omega arith; is = omega (arith, first) }
reached call (next ∷ calls) =
    let rest = reached next calls in
    let first = first_more call (next ∷ calls) in
    elim (cases_lt (greatest (next ∷ calls)) call) [
      | inl dearer ↦ record { place = 0; inside = omega arith; is = omega (arith, first, dearer) }
      | inr no_dearer ↦
          record {
            place = suc rest.place;
            inside = let inside = rest.inside in omega (arith, inside);
            is = let is = rest.is in omega (arith, first, no_dearer, is);
          }
    ]

pub dearest_is_marked : DearestIsMarked
dearest_is_marked [] some = absurd (omega (arith, some))
dearest_is_marked (call ∷ calls) some =
    let cycles = call ∷ calls in
    let most = greatest cycles in
    let test : ℕ → Bool = λ c. c == most in
    let place = position_or_len test cycles in
    let one = reached call calls in
    let there : place < length cycles =
    elim (cases_lt place (length cycles)) [
      | inl inside ↦ inside
      | inr past ↦
          absurd
          (let inside = one.inside in
          let fails = fails_before_first test cycles one.place 0 (omega (arith, past, inside)) in
          eqb-false (get_or cycles one.place 0) most fails one.is)
    ] in
    let passes : get_or cycles place 0 ≡ most =
    eqb-true (get_or cycles place 0) most (passes_at_first test cycles 0 there) in
    let all = all_low cycles in (
      place,
      ap (λ b. cond b (Some place) None) (lt-ltb place (length cycles) there),
      record {
        inside = there;
        most = subst (λ n. All (λ c. c ≤ n) cycles) (sym passes) all;
        first = λ k before.
            (let fails = fails_before_first test cycles k 0 before in
            let other = eqb-false (get_or cycles k 0) most fails in
            let low = all k 0 (omega (arith, before, there)) in
            elim (cases_order (get_or cycles k 0) most) [
              | inl same ↦ absurd (other same)
              | inr either ↦ omega (arith, either, low, passes)
            ]);
      },
    )
