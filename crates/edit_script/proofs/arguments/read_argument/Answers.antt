use Rattle.std.proofs.Common.{◌≡◌, [], ◌∷◌, length, Some, None, sym, ap, ◌∙◌}
use Rattle.std.specs.Result.{result_ok}
use Rattle.std.proofs.lemmas.Bool.Decides.{Decides-eqb}
use Rattle.std.proofs.lemmas.Slice.Eq.{strip_prefix_is}
use Rattle.hex.specs.Hex.{decode_sized}
use Rattle.edit_script.proofs.ArgumentLaws.{no_blank, too_short, no_digits, some_digits, undecoded, is_decoded}
use Rattle.edit_script.proofs.arguments.read_argument.Goals as goal

pub returns-in_err-behind : goal.returns-in_err-behind
returns-in_err-behind c =
    let none = strip_prefix_is Decides-eqb c.args.text.now (32 ∷ []) None c.in_err-behind.ensures.cases in
    rw c.from_residual.ensures (no_blank (length c.args.bytes.now) c.args.text.now none)

pub returns-in_err-digits : goal.returns-in_err-digits
returns-in_err-digits c =
    let parts =
    strip_prefix_is Decides-eqb c.args.text.now (32 ∷ []) (Some c.in_ok-behind.behind) c.in_ok-behind.ensures.cases in
    rw c.from_residual-in_err-digits.ensures
    (too_short (length c.args.bytes.now) c.args.text.now c.in_ok-behind.behind.now parts c.in_err-digits.ensures.cases)

pub returns-in_err-ok : goal.returns-in_err-ok
returns-in_err-ok c =
    let size = length c.args.bytes.now in
    let behind = c.in_ok-behind.behind.now in
    let parts =
    strip_prefix_is Decides-eqb c.args.text.now (32 ∷ []) (Some c.in_ok-behind.behind) c.in_ok-behind.ensures.cases in
    let split = c.in_ok-digits.ensures.cases in
    let none : result_ok c.decode_to_slice.result ≡ None = sym c.ok.ensures.value ∙ c.in_err-ok.was in
    let undone : result_ok (decode_sized c.in_ok-digits.digits.now size) ≡ None =
    undecoded _ c.decode_to_slice.result c.decode_to_slice.new.out c.decode_to_slice.ensures.value none in
    rw c.from_residual-in_err-ok.ensures
    (no_digits size c.args.text.now behind parts split.0
    (ap (λ digits. result_ok (decode_sized digits size)) (sym split.1) ∙ undone))

pub returns : goal.returns
returns c =
    let size = length c.args.bytes.now in
    let behind = c.in_ok-behind.behind.now in
    let parts =
    strip_prefix_is Decides-eqb c.args.text.now (32 ∷ []) (Some c.in_ok-behind.behind) c.in_ok-behind.ensures.cases in
    let split = c.in_ok-digits.ensures.cases in
    let some : result_ok c.decode_to_slice.result ≡ Some c.in_ok-ok.field-0 =
    sym c.ok.ensures.value ∙ c.in_ok-ok.was in
    let done =
    is_decoded (decode_sized c.in_ok-digits.digits.now size) c.decode_to_slice.result c.decode_to_slice.new.out
    c.in_ok-ok.field-0 c.decode_to_slice.ensures.value some in
    some_digits size c.args.text.now behind c.decode_to_slice.new.out parts
    (ap (λ digits. decode_sized digits size) (sym split.1) ∙ done)
    ∙ ap (λ rest. Some (c.decode_to_slice.new.out, rest)) (sym split.2)
