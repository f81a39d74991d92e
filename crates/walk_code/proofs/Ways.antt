-- The way from a place of an orderlist to its next play: byte by byte, and at the end to the restart position.
use Rattle.std.proofs.Common.{◌≡◌, ℕ, ℤ, pos, zero, suc, ◌+◌, ◌<◌, ◌≤◌, Bool, true, false, nat_eq, nat_lt}
use Rattle.std.proofs.Common.{if◌then◌else◌, List, [], ◌∷◌, ◌++◌, length, drop, get_or, inl, inr, refl, sym}
use Rattle.std.proofs.Common.{ap, ◌∙◌, subst, arith, add-one}
use Rattle.std.proofs.lemmas.Bool.{lt-ltb, le-ltb, eq-eqb, ne_eqb, eqb-true}
use Rattle.std.proofs.lemmas.Bool.Decides.{eqb_tells}
use Rattle.song_model.specs.declared.orders.Order.{Order}
use Rattle.song_model.specs.declared.orders.OrderPlace.{OrderPlace}
use Rattle.song_model.specs.declared.orders.Step.{Step}
use Rattle.song_model.specs.Walk.{transpose_after, repeat_after, walk_plays, end_transpose, end_repeat, cycle_of}
use Rattle.song_model.specs.Walk.{played}
use Rattle.song_model.specs.Walk.{no_step}
use Rattle.song_model.specs.Endless.{IsEndless}
use Rattle.song_model.specs.Places.{first_place, walk_places, cycle_places, restarted, place_of}
use Rattle.song_model.proofs.Laws.{one_cycle_is_enough_lem, comes_at, place_of_next}

-- from here, with this transpose and this repeat, this play comes next, with this place behind it
pub record OnWay (order : Order) (step : Step) (after : OrderPlace) (p : ℕ) (t : ℤ) (r : ℕ) : Type 0 where
  pub inside : p ≤ length order.entries
  pub transpose : end_transpose (drop p order.entries) t ≡ end_transpose order.entries (pos 0)
  pub repeat : end_repeat (drop p order.entries) r ≡ end_repeat order.entries 0
  pub play : get_or (walk_plays (drop p order.entries) t r ++ cycle_of order) 0 no_step ≡ step
  pub place : get_or (walk_places (drop p order.entries) p t r ++ cycle_places order) 0 first_place ≡ after

-- the place where the walk goes on: at the end it is the restart position
abbrev pub wrapped : Order → ℕ → ℕ
wrapped order p = if nat_eq p (length order.entries) then order.restart else p

-- from here or, at the end, from the restart position
pub record Way (order : Order) (step : Step) (after : OrderPlace) (p : ℕ) (t : ℤ) (r : ℕ) : Type 0 where
  pub before : p ≤ length order.entries
  pub on : OnWay order step after (wrapped order p) t r

-- an item of a list, and what follows it
drop_at : (bytes : List ℕ) (p : ℕ) → p < length bytes → drop p bytes ≡ get_or bytes p 0 ∷ drop (p + 1) bytes
drop_at [] p l = absurd (omega arith)
drop_at (byte ∷ bytes) zero l = refl
drop_at (byte ∷ bytes) (suc p) l = rw add-one (drop_at bytes p (omega arith) ∙ rw add-one refl)

drop_end : (bytes : List ℕ) (p : ℕ) → p ≡ length bytes → drop p bytes ≡ []
drop_end [] p e = rw e refl
drop_end (byte ∷ bytes) zero e = absurd (omega (arith, e))
drop_end (byte ∷ bytes) (suc p) e = drop_end bytes p (omega (arith, e))

-- a byte that is no pattern is passed
on_way : (order : Order) (step : Step) (after : OrderPlace) (p byte : ℕ) (t : ℤ) (r : ℕ) →
    drop p order.entries ≡ byte ∷ drop (p + 1) order.entries → p + 1 ≤ length order.entries → 0xD0 ≤ byte →
    OnWay order step after p t r →
    OnWay order step after (p + 1) (transpose_after byte t) (repeat_after byte r)
on_way order step after p byte t r e l h way =
    let high : nat_lt byte 0xD0 ≡ false = le-ltb byte 0xD0 h in record {
      inside = l;
      transpose = sym (ap (λ bytes. end_transpose bytes t) e) ∙ way.transpose;
      repeat = sym (ap (λ bytes. end_repeat bytes r) e) ∙ way.repeat;
      play =
          sym (ap (λ bytes. get_or (walk_plays bytes t r ++ cycle_of order) 0 no_step) e ∙ rw high refl) ∙ way.play;
      place =
          sym (ap (λ bytes. get_or (walk_places bytes p t r ++ cycle_places order) 0 first_place) e ∙ rw high refl)
          ∙ way.place;
    }

twice : {X : Type 0} (xs : List X) (x : X) → get_or (xs ++ xs) 0 x ≡ get_or xs 0 x
twice [] x = refl
twice (x ∷ xs) y = refl

-- at the end it goes on at the restart position
round : (order : Order) (step : Step) (after : OrderPlace) (p : ℕ) (t : ℤ) (r : ℕ) → IsEndless order →
    p ≡ length order.entries → OnWay order step after p t r → OnWay order step after order.restart t r
unfolding cycle_of cycle_places
round order step after p t r endless e way =
    let none = drop_end order.entries p e in
    let same = one_cycle_is_enough_lem order in
    let et : t ≡ end_transpose order.entries (pos 0) = sym (ap (λ bytes. end_transpose bytes t) none) ∙ way.transpose in
    let er : r ≡ end_repeat order.entries 0 = sym (ap (λ bytes. end_repeat bytes r) none) ∙ way.repeat in
    let play : get_or (cycle_of order) 0 no_step ≡ step =
    sym (ap (λ bytes. get_or (walk_plays bytes t r ++ cycle_of order) 0 no_step) none) ∙ way.play in
    let place : get_or (cycle_places order) 0 first_place ≡ after =
    sym (ap (λ bytes. get_or (walk_places bytes p t r ++ cycle_places order) 0 first_place) none) ∙ way.place in
    rw (et, er) (record {
      inside = omega (arith, endless.restart);
      transpose = same.transpose;
      repeat = same.repeat;
      play = twice (cycle_of order) no_step ∙ play;
      place = twice (cycle_places order) first_place ∙ place;
    })

restart_inside : (order : Order) → IsEndless order → wrapped order order.restart ≡ order.restart
restart_inside order endless =
    let l = endless.restart in
    let no : nat_eq order.restart (length order.entries) ≡ false =
    ne_eqb order.restart (length order.entries) (λ e. omega (arith, l, e)) in
    rw no refl

-- from the endmark
pub way_round : (order : Order) (step : Step) (after : OrderPlace) (t : ℤ) (r : ℕ) → IsEndless order →
    Way order step after (length order.entries) t r → Way order step after order.restart t r
way_round order step after t r endless way =
    let l = endless.restart in
    let yes : nat_eq (length order.entries) (length order.entries) ≡ true = eq-eqb _ _ refl in
    let on : OnWay order step after order.restart t r = subst (λ p. OnWay order step after p t r) (rw yes refl) way.on
    in
    record {
      before = omega (arith, l);
      on = subst (λ p. OnWay order step after p t r) (sym (restart_inside order endless)) on;
    }

here_is : (order : Order) (p : ℕ) → p < length order.entries → wrapped order p ≡ p
here_is order p l =
    let no : nat_eq p (length order.entries) ≡ false = ne_eqb p (length order.entries) (λ e. omega (arith, l, e)) in
    rw no refl

-- from a byte that is no pattern
pub way_on : (order : Order) (step : Step) (after : OrderPlace) (p : ℕ) (t : ℤ) (r : ℕ) → IsEndless order →
    p < length order.entries → 0xD0 ≤ get_or order.entries p 0 → Way order step after p t r →
    Way order step after (p + 1) (transpose_after (get_or order.entries p 0) t)
    (repeat_after (get_or order.entries p 0) r)
way_on order step after p t r endless l h way =
    let byte = get_or order.entries p 0 in
    let here : OnWay order step after p t r = subst (λ q. OnWay order step after q t r) (here_is order p l) way.on in
    let next : OnWay order step after (p + 1) (transpose_after byte t) (repeat_after byte r) =
    on_way order step after p byte t r (drop_at order.entries p l) (omega (arith, l)) h here in record {
      before = omega (arith, l);
      on =
          elim (eqb_tells (p + 1) (length order.entries)) [
            | inl end ↦
                let e = end.1 in
                rw end.0 (round order step after (p + 1) (transpose_after byte t) (repeat_after byte r) endless e next)
            | inr more ↦ rw more.0 next
          ];
    }

-- the place behind a pattern that is played: it stays while plays are left
abbrev pub place_behind : ℕ → ℤ → ℕ → OrderPlace
place_behind p t zero = record { place = p + 1; transpose = t; repeat = 0 }
place_behind p t (suc r) = record { place = p; transpose = t; repeat = r }

first_place_is : (p : ℕ) (byte : ℕ) (t : ℤ) (r : ℕ) (bytes : List ℕ) (others : List OrderPlace) → byte < 0xD0 →
    get_or (walk_places (byte ∷ bytes) p t r ++ others) 0 first_place ≡ place_behind p t r
first_place_is p byte t zero bytes others l = let low : nat_lt byte 0xD0 ≡ true = lt-ltb byte 0xD0 l in rw low refl
first_place_is p byte t (suc r) bytes others l = let low : nat_lt byte 0xD0 ≡ true = lt-ltb byte 0xD0 l in rw low refl

first_play_is : (byte : ℕ) (t : ℤ) (r : ℕ) (bytes : List ℕ) (others : List Step) → byte < 0xD0 →
    get_or (walk_plays (byte ∷ bytes) t r ++ others) 0 no_step ≡ record { pattern = byte; transpose = t }
first_play_is byte t zero bytes others l = let low : nat_lt byte 0xD0 ≡ true = lt-ltb byte 0xD0 l in rw low refl
first_play_is byte t (suc r) bytes others l =
    let low : nat_lt byte 0xD0 ≡ true = lt-ltb byte 0xD0 l in
    let more : suc r + 1 ≡ suc (r + 1) = omega arith in
    rw (low, more) refl

-- a pattern is played
pub record Arrives (order : Order) (step : Step) (after : OrderPlace) (p : ℕ) (t : ℤ) (r : ℕ) : Type 0 where
  pub step_is : step ≡ record { pattern = get_or order.entries p 0; transpose = t }
  pub after_is : after ≡ place_behind p t r

pub arrives : (order : Order) (step : Step) (after : OrderPlace) (p : ℕ) (t : ℤ) (r : ℕ) → p < length order.entries →
    get_or order.entries p 0 < 0xD0 → Way order step after p t r → Arrives order step after p t r
arrives order step after p t r l h way =
    let byte = get_or order.entries p 0 in
    let here : OnWay order step after p t r = subst (λ q. OnWay order step after q t r) (here_is order p l) way.on in
    let e = drop_at order.entries p l in record {
      step_is =
          sym here.play
          ∙ (ap (λ bytes. get_or (walk_plays bytes t r ++ cycle_of order) 0 no_step) e
          ∙ first_play_is byte t r (drop (p + 1) order.entries) (cycle_of order) h);
      after_is =
          sym here.place
          ∙ (ap (λ bytes. get_or (walk_places bytes p t r ++ cycle_places order) 0 first_place) e
          ∙ first_place_is p byte t r (drop (p + 1) order.entries) (cycle_places order) h);
    }

-- the walk's place behind play n, before it is restarted
pub record NextPlace (order : Order) (n : ℕ) (after : OrderPlace) : Type 0 where
  pub next : restarted order after ≡ place_of order (n + 1)

-- where a walk stands before play n, the way begins
pub record Begun (order : Order) (n : ℕ) (at : OrderPlace) : Type 0 where
  pub after : OrderPlace
  pub next : NextPlace order n after
  pub way : Way order (played order n) after at.place at.transpose at.repeat

moved_way : (order : Order) (step : Step) (after : OrderPlace) (p q : ℕ) (t u : ℤ) (r s : ℕ) → p ≡ q → t ≡ u →
    r ≡ s →
    OnWay order step after q u s → OnWay order step after p t r
moved_way order step after p q t u r s ep et er on = rw (ep, et, er) on

way_of : (order : Order) (step : Step) (after at there : OrderPlace) (z : Bool) →
    nat_eq at.place (length order.entries) ≡ z → restarted order at ≡ there → at.place ≤ length order.entries →
    OnWay order step after there.place there.transpose there.repeat →
    Way order step after at.place at.transpose at.repeat
way_of order step after at there true z e l on =
    let place : order.restart ≡ there.place = sym (rw z refl) ∙ ap (λ p. p.place) e in
    let transpose : at.transpose ≡ there.transpose = sym (rw z refl) ∙ ap (λ p. p.transpose) e in
    let repeat : at.repeat ≡ there.repeat = sym (rw z refl) ∙ ap (λ p. p.repeat) e in
    let go : OnWay order step after order.restart at.transpose at.repeat =
    moved_way order step after _ _ _ _ _ _ place transpose repeat on in
    record { before = l; on = rw z go }
way_of order step after at there false z e l on =
    let same : at ≡ there = sym (rw z refl) ∙ e in
    record { before = l; on = rw z (rw same on) }

place_small : (order : Order) (at there : OrderPlace) (z : Bool) → nat_eq at.place (length order.entries) ≡ z →
    restarted order at ≡ there → there.place ≤ length order.entries → at.place ≤ length order.entries
place_small order at there true z e l = let same : at.place ≡ length order.entries = eqb-true _ _ z in omega
    (arith, same)
place_small order at there false z e l =
    let same : at ≡ there = sym (rw z refl) ∙ e in let p = ap (λ q. q.place) same in omega (arith, p, l)

pub begun : (order : Order) → IsEndless order → (n : ℕ) (at : OrderPlace) → restarted order at ≡ place_of order n →
    Begun order n at
begun order endless n at e =
    let comes = comes_at order endless n in
    let walk = comes.on_walk in
    let z = nat_eq at.place (length order.entries) in
    let l = place_small order at (place_of order n) z refl e walk.inside in record {
      after = _;
      next = record { next = sym (place_of_next order n) };
      way =
          way_of order (played order n) _ at (place_of order n) z refl e l (record {
            inside = walk.inside;
            transpose = walk.transpose;
            repeat = walk.repeat;
            play = comes.play;
            place = comes.place;
          });
    }
