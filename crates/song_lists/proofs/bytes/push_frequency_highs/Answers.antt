-- One number more, and all of them.
use Rattle.std.proofs.Common.{◌≡◌, ℕ, ◌+◌, ◌-◌, ◌≤◌, ◌/◌, ◌++◌, [], ◌∷◌, List, map, ap, ◌∙◌, subst, arith}
use Rattle.std.specs.List.{range_with_len}
use Rattle.play_model.specs.Freq.{freq}
use Rattle.song_lists.specs.DataLists.{frequency_highs}
use Rattle.song_lists.proofs.ByteSteps.{more_from}
use Rattle.song_lists.proofs.bytes.push_frequency_highs.Goals as goal

-- the bytes up to a number
one_more : (start before after : List ℕ) (from n byte : ℕ) → from ≤ n →
    before ≡ start ++ map (λ k. freq k / 256) (range_with_len from (n - from)) → after ≡ before ++ byte ∷ [] →
    byte ≡ freq n / 256 → after ≡ start ++ map (λ k. freq k / 256) (range_with_len from (n + 1 - from))
one_more start before after from n byte le old new is =
    let next : n - from + 1 ≡ n + 1 - from = omega (arith, le) in
    more_from (λ k. freq k / 256) start before after from (n - from) n byte old new (omega (arith, le)) is
    ∙ ap (λ (count : ℕ). start ++ map (λ k. freq k / 256) (range_with_len from count)) next

pub loop-n-preserved : goal.loop-n-preserved
loop-n-preserved c = record {
  from = let from = c.loop-n.invariant.from in omega arith;
  bytes = one_more c.args.bytes.now c.loop-n.bytes c.push.new.self c.args.packed.now.numbers.first c.loop-n.n
      (c.freq.result / 256) c.loop-n.invariant.from c.loop-n.invariant.bytes c.in_ok-push.ensures.ok
      (ap (λ (n : ℕ). n / 256) c.freq.ensures);
}

pub returns : goal.returns
unfolding frequency_highs
returns c =
    let all : c.loop-n.n - c.args.packed.now.numbers.first ≡ c.args.packed.now.numbers.count = omega arith in
    subst (λ (count : ℕ). c.loop-n.bytes
    ≡ c.args.bytes.now ++ map (λ n. freq n / 256) (range_with_len c.args.packed.now.numbers.first count)) all
    c.loop-n.invariant.bytes
