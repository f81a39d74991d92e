use Rattle.std.proofs.Common.{◌≡◌, ℕ, ◌<◌, replicate, sym, ◌∙◌, ap, arith}
use Rattle.std.specs.List.{fold}
use Rattle.song_model.specs.declared.patterns.TheConstants.{MOST_PATTERNS}
use Rattle.pattern_cut.specs.Pieces.{named}
use Rattle.pattern_cut.specs.Choice.{settled, settled_from}
use Rattle.song_cut.proofs.ChosenWays.{named_below, settled_next, settled_left}
use Rattle.song_cut.proofs.choice.settled_from.Goals as goal
use Rattle.song_cut.proofs.choice.settled_from.Goals.{then-table-from, else-table-from}

pub loop-n-preserved : goal.loop-n-preserved
loop-n-preserved c =
    let small : c.loop-n.n < 256 = omega arith in
    elim c.if-table-from.branch [
      | then-table-from w ↦ rw w.ways-is
          (settled_next c.args.song.now (replicate MOST_PATTERNS c.args.length) c.loop-n.ways w.settled-next.result
          c.loop-n.n
          (sym (c.requires.table.named.each c.loop-n.n small) ∙ rw c.from.ensures at w.if-table-from.true)
          c.loop-n.invariant w.settled-next.ensures)
      | else-table-from w ↦ rw w.ways-is
          (settled_left c.args.song.now (replicate MOST_PATTERNS c.args.length) c.loop-n.ways c.loop-n.n
          (sym (c.requires.table.named.each c.loop-n.n small) ∙ rw c.from.ensures at w.if-table-from.false)
          c.loop-n.invariant)
    ]

pub returns : goal.returns
unfolding settled_from named
returns c =
    let end = c.loop-n.auto.n-end in
    let all : c.loop-n.n ≡ MOST_PATTERNS = omega arith in
    c.loop-n.invariant
    ∙ ap (λ (n : ℕ). fold (settled c.args.song.now) (replicate MOST_PATTERNS c.args.length) (named_below
    c.args.song.now n)) all
