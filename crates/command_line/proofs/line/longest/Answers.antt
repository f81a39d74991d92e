-- A word that is longer than those before it is the longest so far.
use Rattle.std.proofs.Common.{◌≤◌, length, take, All, String, subst, arith}
use Rattle.std.proofs.lemmas.List.{take_all}
use Rattle.std.proofs.lemmas.List.Elements.{All-map, All-more, All-weaker}
use Rattle.std.specs.Global.{Global}
use Rattle.std.specs.String.{string_bytes}
use Rattle.command_line.proofs.line.longest.Goals as goal
use Rattle.command_line.proofs.line.longest.Goals.{then-most-len, else-most-len}

pub loop-word-preserved : goal.loop-word-preserved
loop-word-preserved c =
    let words = c.args.words.now in
    let index = c.loop-word.word-index in
    let item = c.word-item.result in
    let most = c.if-most-len.most in
    let bounds : (c.loop-word.most ≤ most) × (length (string_bytes item) ≤ most) =
    elim c.if-most-len.branch [
      | then-most-len w ↦ (
        omega (arith, w.if-most-len, w.most-is, w.len-most.ensures, c.len.ensures),
        omega (arith, w.most-is, w.len-most.ensures),
      )
      | else-most-len w ↦ (omega (arith, w.most-is), omega (arith, w.if-most-len, w.most-is, c.len.ensures))
    ] in
    let earlier =
    All-weaker (λ (word : String Global). length (string_bytes word) ≤ c.loop-word.most)
    (λ word. length (string_bytes word) ≤ most) (λ word least. omega (arith, least, bounds.0))
    (take index words) c.loop-word.invariant in
    All-more (λ word. length (string_bytes word) ≤ most) words index item c.loop-word-test.true earlier
    (subst (λ word. length (string_bytes word) ≤ most) c.word-item.is bounds.1)

pub returns : goal.returns
returns c =
    All-map (λ word. length word ≤ c.loop-word.most) string_bytes c.args.words.now
    (subst (All (λ (word : String Global). length (string_bytes word) ≤ c.loop-word.most))
    (take_all c.loop-word.word-index c.args.words.now c.loop-word-test.false) c.loop-word.invariant)
