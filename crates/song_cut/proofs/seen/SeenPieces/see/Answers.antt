use Rattle.std.proofs.Common.{length, ap, sym}
use Rattle.std.proofs.Math.ListN.{set}
use Rattle.std.proofs.lemmas.Bool.{eqb-true}
use Rattle.song_model.specs.declared.patterns.TheConstants.{MOST_PATTERNS}
use Rattle.song_cut.proofs.Gathering.{seen_there, seen_full, seen_new}
use Rattle.song_cut.proofs.seen.SeenPieces.see.Goals as goal

pub returns-then-self-from : goal.returns-then-self-from
returns-then-self-from c =
    seen_there c.args.self.now c.args.number c.requires.marked c.requires.number (rw c.from.ensures at
    c.if-self-from.true)

pub returns-then-is_full : goal.returns-then-is_full
returns-then-is_full c =
    seen_full c.args.self.now c.args.number c.requires.marked c.requires.number
    (rw c.from.ensures at c.if-self-from.false)
    (eqb-true (length c.args.self.now.numbers.items) MOST_PATTERNS (sym c.if-is_full.ensures.value))

pub returns : goal.returns
returns c =
    seen_new c.args.self.now _ c.args.number c.requires.marked c.requires.number
    (rw c.from.ensures at c.if-self-from.false)
    (ap (λ k. set c.args.self.now.marks k _) c.from-2.ensures) c.push.ensures.items
