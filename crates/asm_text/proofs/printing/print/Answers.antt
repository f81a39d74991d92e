use Rattle.std.proofs.Common.{◌+◌, ◌<◌, [], ◌∷◌, ◌++◌, length, drop, sym, ap, subst, ◌∙◌, arith}
use Rattle.std.proofs.lemmas.Bool.{eqb-true}
use Rattle.asm_text.specs.Statements.{size}
use Rattle.asm_text.proofs.Printed.{IsPrinted, is_inside, printed_none, printed_more, printed_all}
use Rattle.asm_text.proofs.TextLaws.{some_left}
use Rattle.asm_text.proofs.printing.print.Goals as goal

pub loop-left-init : goal.loop-left-init
loop-left-init c =
    subst (λ pc. IsPrinted c.args.origin c.args.image.now c.args.image.now pc c.put_line.new.text)
    (sym c.from-pc.ensures)
    (printed_none c.args.origin c.args.image.now c.put_line.new.text
    (c.in_ok-put_line.ensures ∙ ap (λ text. text ++ (c.origin_text.result ++ 10 ∷ [])) c.new-text.ensures
    ∙ ap (λ text. text ++ 10 ∷ []) c.origin_text.ensures))

pub loop-left-preserved : goal.loop-left-preserved
loop-left-preserved c =
    printed_more c.args.origin c.args.image.now c.loop-left.left.now c.loop-left.pc
    (c.loop-left.pc + c.from-pc-in-loop-left.result) c.loop-left.text c.put_line-in-loop-left.new.text
    c.statement_of-statement.result c.split_at.result.1.now c.loop-left.invariant
    (some_left (length c.loop-left.left.now) (sym c.loop-left-test.ensures)) c.statement_of-statement.ensures
    (c.split_at.ensures.back ∙ ap (λ n. drop n c.loop-left.left.now) (c.from.ensures ∙ c.size-size.ensures))
    (c.in_ok-put_line-2.ensures ∙ ap (λ text. c.loop-left.text ++ (text ++ 10 ∷ [])) c.spelling.ensures)
    (ap (λ n. c.loop-left.pc + n) (c.from-pc-in-loop-left.ensures ∙ c.size-size.ensures))

pub split_at-requires : goal.split_at-requires
split_at-requires c =
    let inside =
    is_inside c.loop-left.pc c.loop-left.left.now
    (some_left (length c.loop-left.left.now) (sym c.loop-left-test.ensures)) in
    let same = c.from.ensures ∙ c.size-size.ensures ∙ ap size c.statement_of-statement.ensures in
    omega (arith, same, inside.there)

pub loop-left-smaller : goal.loop-left-smaller
loop-left-smaller c =
    let inside =
    is_inside c.loop-left.pc c.loop-left.left.now
    (some_left (length c.loop-left.left.now) (sym c.loop-left-test.ensures)) in
    let same = c.from.ensures ∙ c.size-size.ensures ∙ ap size c.statement_of-statement.ensures in
    let less : length c.split_at.result.1.now < length c.loop-left.left.now =
    omega (arith, same, inside.some, c.split_at.ensures.back_len) in
    less

pub returns : goal.returns
returns c =
    printed_all c.args.origin c.args.image.now c.loop-left.left.now c.loop-left.pc c.loop-left.text
    c.loop-left.invariant (eqb-true _ 0 (sym c.loop-left-test.ensures))
