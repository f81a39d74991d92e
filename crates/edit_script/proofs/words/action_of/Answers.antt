use Rattle.std.proofs.Common.{◌≤◌, sum, Some, sym, subst, ap, ◌∙◌, arith}
use Rattle.edit_script.proofs.ActionLaws.{action_read, no_word_read, no_arguments_read, sizes_fit}
use Rattle.edit_script.proofs.words.action_of.Goals as goal

pub returns-in_err-keyword : goal.returns-in_err-keyword
returns-in_err-keyword c =
    c.from_residual.ensures
    ∙ sym (no_word_read c.args.line.now c.split_word.result.0.now c.split_word.ensures.word
    c.in_err-keyword.ensures.none)

pub read_arguments-requires : goal.read_arguments-requires
read_arguments-requires c =
    subst (λ sizes. sum sizes ≤ 33) (sym c.in_ok-keyword.ensures.sizes) (sizes_fit c.in_ok-keyword.field-0.keyword)

pub returns-in_err-bytes : goal.returns-in_err-bytes
returns-in_err-bytes c =
    let form = c.in_ok-keyword.field-0 in
    let is = c.in_ok-keyword.ensures in
    c.from_residual-in_err-bytes.ensures
    ∙ sym (no_arguments_read c.args.line.now c.split_word.result.0.now c.split_word.result.1.now form.keyword
    form.sizes.now c.split_word.ensures.word c.split_word.ensures.behind is.found is.sizes c.in_err-bytes.ensures.read)

pub returns : goal.returns
returns c =
    let form = c.in_ok-keyword.field-0 in
    let is = c.in_ok-keyword.ensures in
    ap Some c.action_with.ensures
    ∙ sym (action_read c.args.line.now c.split_word.result.0.now c.split_word.result.1.now form.keyword
    form.sizes.now c.in_ok-bytes.bytes c.split_word.ensures.word c.split_word.ensures.behind is.found is.sizes
    c.in_ok-bytes.ensures.read (omega (arith, c.in_ok-bytes.ensures.size)))
