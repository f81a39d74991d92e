-- An orderlist that is read is spelled by its piece, and one that is spelled is read.
use Rattle.std.proofs.Common.{◌≡◌, ℕ, ◌+◌, ◌<◌, Bool, true, false, cond, ltb, List, ◌∷◌, ◌++◌}
use Rattle.std.proofs.Common.{length, get_or, take, drop, Ok, Err, refl, sym, ap, subst, ◌∙◌, arith}
use Rattle.std.specs.List.{All}
use Rattle.std.proofs.lemmas.Bool.{ltb-true, lt-ltb}
use Rattle.std.proofs.lemmas.List.{length-take-le, length-drop, length-append, drop_more, take_at, get_or-append-add}
use Rattle.base.proofs.Laws.{regroup3}
use Rattle.song_model.specs.declared.orders.Order.{Order}
use Rattle.song_model.specs.declared.orders.Subtune.{Subtune}
use Rattle.song_model.specs.Basics.{IsByte}
use Rattle.song_model.specs.Limits.{IsOrder, IsSubtune}
use Rattle.gts5.specs.declared.faults.SongFault.{SongFault}
use Rattle.gts5.specs.declared.faults.SongFault.TheVariants.{BadOrder}
use Rattle.gts5.specs.Faults.{offset_of}
use Rattle.gts5.specs.Reading.{bytes_at, byte_at, endmark_of, order_at, subtune_at}
use Rattle.gts5.specs.Spells.{SpellsOrder, SpellsSubtune}
use Rattle.gts5.proofs.Takes.{bind_ok, ok_is, Takes, bytes_take, bytes_again, byte_takes, byte_again}
use Rattle.gts5.proofs.Cuts.{entries_before, cut_endmark, endmark_after}

-- a test that passed
chosen_ok : {A : Type 0} (b : Bool) (fault : SongFault) (x y : A) → cond b (Ok x) (Err fault) ≡ Ok y →
    (b ≡ true) × (x ≡ y)
chosen_ok true fault x y e = (refl, ok_is x y e)
chosen_ok false fault x y e = absurd cc

-- the orderlist that n + 1 bytes spell
abbrev cut_order : List ℕ → Order
cut_order piece = record { entries = take (endmark_of piece) piece; restart = get_or piece (endmark_of piece + 1) 0 }

cut_is_spelled : (n : ℕ) (piece : List ℕ) → length piece ≡ n + 1 → endmark_of piece < n → All IsByte piece →
    SpellsOrder (cut_order piece) (n ∷ piece)
cut_is_spelled n piece size mark are =
    let place = endmark_of piece in
    let front : length (take place piece) ≡ place = length-take-le place piece (omega arith) in
    let more : drop (place + 1) piece ≡ get_or piece (place + 1) 0 ∷ drop (place + 1 + 1) piece =
    drop_more piece (place + 1) 0 (omega arith) in
    let counted : n ≡ length (take place piece) + 1 + length (drop (place + 1 + 1) piece) =
    omega (arith, length-drop (place + 1 + 1) piece) in
    record {
      ignored = drop (place + 1 + 1) piece;
      entries = entries_before piece are;
      parts = ap (λ (k : ℕ). k ∷ piece) counted
          ∙ ap (λ (t : List ℕ). (length (take place piece) + 1 + length (drop (place + 1 + 1) piece)) ∷ t)
          (cut_endmark piece (omega arith) ∙ ap (λ (t : List ℕ). take place piece ++ 255 ∷ t) more);
    }

cut_is_within : (n : ℕ) (piece : List ℕ) → length piece ≡ n + 1 → n < 256 → endmark_of piece < n → All IsByte piece →
    IsOrder (cut_order piece)
cut_is_within n piece size fits mark are =
    let place = endmark_of piece in
    let front : length (take place piece) ≡ place = length-take-le place piece (omega arith) in
    record {
      entries = record { count = omega arith; each = entries_before piece are };
      restart = are (place + 1) 0 (omega arith);
    }

pub order_takes : (total : ℕ) (bytes : List ℕ) (x : Order × List ℕ) → All IsByte bytes → order_at total bytes ≡ Ok x →
    Takes SpellsOrder IsOrder bytes x.0 x.1
unfolding order_at
order_takes total bytes x are e =
    let a = bind_ok (byte_at total bytes) _ x e in
    let b = bind_ok (bytes_at total (a.0.0 + 1) a.0.1) _ x a.2 in
    let n = a.0.0 in
    let piece = b.0.0 in
    let g = chosen_ok (ltb (endmark_of piece) n) (BadOrder (offset_of total bytes)) (cut_order piece, b.0.1) x b.2 in
    let count = byte_takes total bytes a.0 are a.1 in
    let run = bytes_take total (n + 1) a.0.1 b.0 count.left b.1 in
    let mark : endmark_of piece < n = ltb-true _ _ g.0 in
    subst (λ (y : Order × List ℕ). Takes SpellsOrder IsOrder bytes y.0 y.1) g.1 (record {
      piece = n ∷ piece;
      spelled = cut_is_spelled n piece run.size mark run.each;
      within = cut_is_within n piece run.size count.fits mark run.each;
      parts = count.parts ∙ ap (λ (t : List ℕ). n ∷ t) run.parts;
      left = run.left;
    })

pub order_again : (total : ℕ) (order : Order) (piece rest : List ℕ) → SpellsOrder order piece →
    order_at total (piece ++ rest) ≡ Ok (order, rest)
unfolding order_at
order_again total order piece rest spelled =
    let n = length order.entries + 1 + length spelled.ignored in
    let run = order.entries ++ 255 ∷ order.restart ∷ spelled.ignored in
    let size : length run ≡ n + 1 = omega (arith, length-append order.entries (255 ∷ order.restart ∷ spelled.ignored))
    in
    let mark : endmark_of run ≡ length order.entries =
    endmark_after order.entries (order.restart ∷ spelled.ignored) spelled.entries in
    let inside : ltb (endmark_of run) n ≡ true = lt-ltb _ _ (omega arith) in
    let entries : take (endmark_of run) run ≡ order.entries =
    rw mark (take_at order.entries (255 ∷ order.restart ∷ spelled.ignored) (length order.entries) refl) in
    let restart : get_or run (endmark_of run + 1) 0 ≡ order.restart =
    rw mark (get_or-append-add order.entries (255 ∷ order.restart ∷ spelled.ignored) 1 0) in
    let cut : cut_order run ≡ order = λ i. record { entries = entries i; restart = restart i } in
    let whole : piece ++ rest ≡ n ∷ (run ++ rest) = ap (λ (t : List ℕ). t ++ rest) spelled.parts in
    let reads : order_at total (n ∷ (run ++ rest)) ≡ Ok (cut_order run, rest) =
    rw (byte_again total n (run ++ rest), bytes_again total (n + 1) run rest size, inside) refl in
    ap (order_at total) whole ∙ reads ∙ ap (λ (o : Order). Ok (o, rest)) cut

pub subtune_takes : (total : ℕ) (bytes : List ℕ) (x : Subtune × List ℕ) → All IsByte bytes →
    subtune_at total bytes ≡ Ok x → Takes SpellsSubtune IsSubtune bytes x.0 x.1
unfolding subtune_at
subtune_takes total bytes x are e =
    let a = bind_ok (order_at total bytes) _ x e in
    let b = bind_ok (order_at total a.0.1) _ x a.2 in
    let c = bind_ok (order_at total b.0.1) _ x b.2 in
    let one = order_takes total bytes a.0 are a.1 in
    let two = order_takes total a.0.1 b.0 one.left b.1 in
    let three = order_takes total b.0.1 c.0 two.left c.1 in
    let made : Subtune × List ℕ = (record { one = a.0.0; two = b.0.0; three = c.0.0 }, c.0.1) in
    subst (λ (y : Subtune × List ℕ). Takes SpellsSubtune IsSubtune bytes y.0 y.1) (ok_is made x c.2) (record {
      piece = one.piece ++ (two.piece ++ three.piece);
      spelled = record {
        one = one.piece;
        two = two.piece;
        three = three.piece;
        parts = refl;
        spells_one = one.spelled;
        spells_two = two.spelled;
        spells_three = three.spelled;
      };
      within = record { one = one.within; two = two.within; three = three.within };
      parts = one.parts ∙ ap (λ (t : List ℕ). one.piece ++ t)
          (two.parts ∙ ap (λ (t : List ℕ). two.piece ++ t) three.parts)
          ∙ sym (regroup3 one.piece two.piece three.piece c.0.1);
      left = three.left;
    })

pub subtune_again : (total : ℕ) (subtune : Subtune) (piece rest : List ℕ) → SpellsSubtune subtune piece →
    subtune_at total (piece ++ rest) ≡ Ok (subtune, rest)
unfolding subtune_at
subtune_again total subtune piece rest spelled =
    let whole : piece ++ rest ≡ spelled.one ++ (spelled.two ++ (spelled.three ++ rest)) =
    ap (λ (t : List ℕ). t ++ rest) spelled.parts ∙ regroup3 spelled.one spelled.two spelled.three rest in
    ap (subtune_at total) whole
    ∙ rw (
      order_again total subtune.one spelled.one (spelled.two ++ (spelled.three ++ rest)) spelled.spells_one,
      order_again total subtune.two spelled.two (spelled.three ++ rest) spelled.spells_two,
      order_again total subtune.three spelled.three rest spelled.spells_three,
    ) refl
