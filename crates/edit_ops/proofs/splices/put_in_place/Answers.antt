use Rattle.std.proofs.Common.{◌≡◌, ◌+◌, ◌-◌, ◌++◌, take, drop, reverse, vec_len, ap, ◌∙◌, arith}
use Rattle.std.proofs.Common.{List, length, ℕ, ◌≤◌}
use Rattle.edit_ops.proofs.SpliceLaws.{goes, comes, whole_made}
use Rattle.edit_ops.proofs.splices.put_in_place.Goals as goal

pub returns-clause-gone : goal.returns-clause-gone
returns-clause-gone g c =
    let all = c.args.list.now in
    let inside : c.args.at + c.args.count ≤ length all.items = omega (arith, all.ok.0, c.requires.stored) in
    let kept : vec_len c.reverse.new.self - (c.len.result - c.args.count) ≡ c.args.count =
    omega (arith, c.reverse.ensures.len, c.rotate_left.ensures.len, c.len.ensures, c.requires.stored) in
    c.reverse-2.ensures.items
    ∙ ap reverse (c.move_last.ensures.left ∙ ap (λ (n : ℕ). take n c.reverse.new.self.items) kept)
    ∙ goes all.items c.args.at c.args.count inside c.reverse.new.self.items
    (c.reverse.ensures.items ∙ ap reverse c.rotate_left.ensures.items)

pub returns-clause-whole : goal.returns-clause-whole
returns-clause-whole g c =
    let all = c.args.list.now in
    let inside : c.args.at + c.args.count ≤ length all.items = omega (arith, all.ok.0, c.requires.stored) in
    let kept : vec_len c.reverse.new.self - (c.len.result - c.args.count) ≡ c.args.count =
    omega (arith, c.reverse.ensures.len, c.rotate_left.ensures.len, c.len.ensures, c.requires.stored) in
    let turned = c.reverse.ensures.items ∙ ap reverse c.rotate_left.ensures.items in
    let moved = c.move_last.ensures.moved
    ∙ ap (λ (xs : List g.row.T.Denot). c.args.items.now.items ++ xs)
    (ap (λ (n : ℕ). reverse (drop n c.reverse.new.self.items)) kept
    ∙ comes all.items c.args.at c.args.count inside c.reverse.new.self.items turned) in
    c.rotate_right.ensures.items
    ∙ whole_made all.items c.args.at c.args.count inside c.args.items.now.items c.move_last.new.to.items
    (vec_len c.move_last.new.to) moved c.move_last.new.to.ok.0
