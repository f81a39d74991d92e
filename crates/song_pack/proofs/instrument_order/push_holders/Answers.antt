use Rattle.std.proofs.Common.{◌≡◌, ℕ, suc, ◌+◌, ◌==◌, ◌&&◌, Bool, true, false, List, [], ◌∷◌, ◌++◌, sym, ◌∙◌, ap, arith}
use Rattle.std.specs.Prelude.{if◌then◌else◌}
use Rattle.std.specs.List.{filter, range_with_len}
use Rattle.std.proofs.lemmas.List.{append_assoc, append-nil}
use Rattle.std.proofs.lemmas.List.Elements.{filter-append}
use Rattle.song_model.specs.LookUp.{instrument_at}
use Rattle.song_facts.specs.Hold.{hold_of, how_much}
use Rattle.packing_rules.proofs.Laws.{range_more}
use Rattle.table_pack.specs.Marks.{is_marked}
use Rattle.song_pack.proofs.instrument_order.push_holders.Goals as goal
use Rattle.song_pack.proofs.instrument_order.push_holders.Goals.{then-is_holder+in_ok-push, else-is_holder}

filter_next : (test : ℕ → Bool) (n : ℕ) →
    filter test (range_with_len 2 (n + 1))
    ≡ filter test (range_with_len 2 n) ++ (if test (n + 2) then (n + 2) ∷ [] else [])
filter_next test n =
    let more : n + 1 ≡ suc n = omega arith in
    let last : 2 + n ≡ n + 2 = omega arith in
    ap (λ (k : ℕ). filter test (range_with_len 2 k)) more ∙ ap (filter test) (range_more 2 n)
    ∙ filter-append test (range_with_len 2 n) ((2 + n) ∷ [])
    ∙ ap (λ (k : ℕ). filter test (range_with_len 2 n) ++ filter test (k ∷ [])) last

one_more : (test : ℕ → Bool) (n : ℕ) (old items : List ℕ) → items ≡ old ++ filter test (range_with_len 2 n) →
    test (n + 2) ≡ true → items ++ (n + 2) ∷ [] ≡ old ++ filter test (range_with_len 2 (n + 1))
one_more test n old items are is =
    ap (λ (xs : List ℕ). xs ++ (n + 2) ∷ []) are
    ∙ append_assoc old (filter test (range_with_len 2 n)) ((n + 2) ∷ [])
    ∙ ap (λ (xs : List ℕ). old ++ xs)
    (sym (filter_next test n
    ∙ ap (λ (b : Bool). filter test (range_with_len 2 n) ++ (if b then (n + 2) ∷ [] else [])) is))

left_out : (test : ℕ → Bool) (n : ℕ) (old items : List ℕ) → items ≡ old ++ filter test (range_with_len 2 n) →
    test (n + 2) ≡ false → items ≡ old ++ filter test (range_with_len 2 (n + 1))
left_out test n old items are fails =
    are
    ∙ ap (λ (xs : List ℕ). old ++ xs)
    (sym (filter_next test n
    ∙ ap (λ (b : Bool). filter test (range_with_len 2 n) ++ (if b then (n + 2) ∷ [] else [])) fails
    ∙ append-nil (filter test (range_with_len 2 n))))

pub loop-index-init : goal.loop-index-init
loop-index-init c = sym (append-nil c.args.order.now.items)

pub loop-index-preserved : goal.loop-index-preserved
loop-index-preserved c =
    let test : ℕ → Bool = λ n.
    is_marked c.args.usage.now.instruments n
    && (how_much (hold_of (instrument_at c.args.song.now n)) == how_much c.args.hold) in
    elim c.if-is_holder.branch [
      | then-is_holder+in_ok-push w ↦ rw (w.order-is, w.in_ok-push.ensures.items)
          (one_more test c.loop-index.index c.args.order.now.items c.loop-index.order.items c.loop-index.invariant
          (sym c.is_holder.ensures ∙ w.if-is_holder.true))
      | else-is_holder w ↦ rw w.order-is
          (left_out test c.loop-index.index c.args.order.now.items c.loop-index.order.items c.loop-index.invariant
          (sym c.is_holder.ensures ∙ w.if-is_holder.false))
    ]

pub returns : goal.returns
returns c =
    let test : ℕ → Bool = λ n.
    is_marked c.args.usage.now.instruments n
    && (how_much (hold_of (instrument_at c.args.song.now n)) == how_much c.args.hold) in
    let low = c.loop-index-test.false in
    let high = c.loop-index.auto.index-end in
    let all : c.loop-index.index ≡ 62 = omega arith in
    c.loop-index.invariant
    ∙ ap (λ (n : ℕ). c.args.order.now.items ++ filter test (range_with_len 2 n)) all
