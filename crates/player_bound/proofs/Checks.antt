-- What is told of the numbers of one entrance is told of those of both.
use Rattle.std.proofs.Common.{◌≡◌, ℕ, ◌+◌, ◌≤◌, ◌++◌, List, length, Some, None, refl, sym, ap, ◌∙◌, subst, arith, take, drop}
use Rattle.std.proofs.Math.Seq.{take-append_seam, drop-append_seam}
use Rattle.std.proofs.lemmas.List.{length-take-le, length-append, take-append-drop}
use Rattle.cycle_bound.specs.declared.checks.CertKind.{CertKind}
use Rattle.cycle_bound.specs.declared.checks.CertKind.TheVariants.{BadShape, TooSmall}
use Rattle.cycle_bound.specs.EntranceRules.{call_asked}
use Rattle.cycle_bound.specs.Faults.{IsFault as IsFaultOf, IsShort}
use Rattle.cycle_bound.specs.Rules.{bound_by}
use Rattle.cycle_bound.proofs.Laws.{call_count, short_first, short_second, admitted_length, first_least, least_are_least}
use Rattle.player_bound.specs.BoundLaws.{LeastBoundsAreLeast}
use Rattle.player_bound.specs.Programs.{AdmitsPlay, least_init, least_play}
use Rattle.player_bound.specs.Programs.{Blocks, init_nodes, play_nodes, init_numbers, play_numbers, both_asked, AdmitsInit}
use Rattle.player_bound.specs.Answers.{IsFault, all_nodes}

init_length : (b : Blocks) (numbers : List ℕ) → length numbers ≡ all_nodes b →
    length (init_numbers b numbers) ≡ init_nodes b
init_length b numbers e = length-take-le (init_nodes b) numbers (omega (arith, e))

play_length : (b : Blocks) (numbers : List ℕ) → length numbers ≡ all_nodes b →
    length (play_numbers b numbers) ≡ play_nodes b
play_length b numbers e =
    let front = init_length b numbers e in
    let all = length-append (init_numbers b numbers) (play_numbers b numbers) in
    let whole = ap length (take-append-drop (init_nodes b) numbers) in
    omega (arith, e, front, all, whole)

both_are : (b : Blocks) (numbers : List ℕ) → init_numbers b numbers ++ play_numbers b numbers ≡ numbers
both_are b numbers = take-append-drop (init_nodes b) numbers

pub init_fault : (b : Blocks) (numbers : List ℕ) (kind : CertKind) (place : ℕ) → length numbers ≡ all_nodes b →
    IsFaultOf b.setting b.init None (init_numbers b numbers) kind place → IsFault b numbers kind place
init_fault b numbers BadShape place e told = absurd (told.0 (init_length b numbers e))
init_fault b numbers TooSmall place e told = (
  e,
  subst (λ l. IsShort (both_asked b numbers) l place) (both_are b numbers)
      (short_first (call_asked b.setting b.init None (init_numbers b numbers))
      (call_asked b.setting b.first (Some b.voice) (play_numbers b numbers)) (init_numbers b numbers)
      (play_numbers b numbers) place
      (call_count b.setting b.init None (init_numbers b numbers) ∙ sym (init_length b numbers e)) told.1),
)

pub play_fault : (b : Blocks) (numbers : List ℕ) (kind : CertKind) (front place : ℕ) → length numbers ≡ all_nodes b →
    front ≡ init_nodes b → AdmitsInit b (init_numbers b numbers) →
    IsFaultOf b.setting b.first (Some b.voice) (play_numbers b numbers) kind place →
    IsFault b numbers kind (front + place)
play_fault b numbers BadShape front place e f admitted told = absurd (told.0 (play_length b numbers e))
play_fault b numbers TooSmall front place e f admitted told =
    let long = init_length b numbers e in (
      e,
      subst (λ n. IsShort (both_asked b numbers) numbers (n + place)) (long ∙ sym f)
          (subst (λ l. IsShort (both_asked b numbers) l (length (init_numbers b numbers) + place)) (both_are b numbers)
          (short_second (call_asked b.setting b.init None (init_numbers b numbers))
          (call_asked b.setting b.first (Some b.voice) (play_numbers b numbers)) (init_numbers b numbers)
          (play_numbers b numbers) place (call_count b.setting b.init None (init_numbers b numbers) ∙ sym long) admitted
          told.1)),
    )

-- ---- the least

pub least_bounds_are_least : LeastBoundsAreLeast
least_bounds_are_least b =
    let of_init = least_are_least b.setting b.init None in
    let of_play = least_are_least b.setting b.first (Some b.voice) in
    let long = admitted_length b.setting b.init None (least_init b) of_init.admitted in
    let front : init_numbers b (least_init b ++ least_play b) ≡ least_init b =
    subst (λ n. take n (least_init b ++ least_play b) ≡ least_init b) long (take-append_seam (least_init b) (least_play b)) in
    let back : play_numbers b (least_init b ++ least_play b) ≡ least_play b =
    subst (λ n. drop n (least_init b ++ least_play b) ≡ least_play b) long (drop-append_seam (least_init b) (least_play b)) in
    record {
      bounds = record { init = bound_by (least_init b); play = bound_by (least_play b) };
      init = refl;
      play = refl;
      told = record {
        init_admitted = subst (λ l. AdmitsInit b l) (sym front) of_init.admitted;
        play_admitted = subst (λ l. AdmitsPlay b l) (sym back) of_play.admitted;
        init = ap bound_by (sym front);
        play = ap bound_by (sym back);
      };
      least = λ numbers others told. (
        subst (λ n. bound_by (least_init b) ≤ n) (sym told.init)
            (first_least (least_init b) (init_numbers b numbers) (of_init.least (init_numbers b numbers) told.init_admitted)),
        subst (λ n. bound_by (least_play b) ≤ n) (sym told.play)
            (first_least (least_play b) (play_numbers b numbers) (of_play.least (play_numbers b numbers) told.play_admitted)),
      );
    }
