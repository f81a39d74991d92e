use Rattle.std.proofs.Common.{◌≡◌, ◌+◌, ◌-◌, ◌∷◌, [], ◌++◌, reverse, drop, vec_len, sym, ap}
use Rattle.std.proofs.Common.{◌∙◌, append_assoc, arith, List}
use Rattle.std.proofs.lemmas.List.{reverse-append}
use Rattle.edit_ops.proofs.SpliceLaws.{last_out}
use Rattle.edit_ops.proofs.splices.move_last.Goals as goal

pub loop-i-preserved : goal.loop-i-preserved
loop-i-preserved g c =
    let inv = c.loop-i.invariant in
    let all = c.args.from.now.items in
    let n = vec_len c.args.from.now in
    let out = last_out all c.take_last.new.self.items c.take_last.result (n - c.loop-i._i) (n - (c.loop-i._i + 1))
    (omega (arith, c.loop-i-test.true, c.requires.stored)) (omega (arith, c.args.from.now.ok.0))
    (sym inv.0 ∙ c.take_last.ensures.items) in
    let back : reverse (drop (n - (c.loop-i._i + 1)) all)
    ≡ reverse (drop (n - c.loop-i._i) all) ++ c.take_last.result ∷ [] =
    ap reverse out.1 ∙ reverse-append (c.take_last.result ∷ []) (drop (n - c.loop-i._i) all) in (
      out.0,
      c.push_reserved.ensures.items ∙ ap (λ (xs : List g.row.T.Denot). xs ++ c.take_last.result ∷ []) inv.1
          ∙ append_assoc c.args.to.now.items (reverse (drop (n - c.loop-i._i) all)) (c.take_last.result ∷ [])
          ∙ ap (λ (xs : List g.row.T.Denot). c.args.to.now.items ++ xs) (sym back),
      omega (arith, inv.2, c.take_last.ensures.len),
      omega (arith, inv.3, c.push_reserved.ensures.len),
      c.take_last.ensures.capacity ∙ inv.4,
      c.push_reserved.ensures.capacity ∙ inv.5,
    )
