use Rattle.std.proofs.Common.{Some, refl, sym, ap, ◌∙◌}
use Rattle.std.proofs.lemmas.Result.{err_from_is_err_and}
use Rattle.jobs.specs.Packed.{raw_file}
use Rattle.jobs.proofs.Laws.{read_ends, wants_first, begun, met_next, refused, listing_held, written}
use Rattle.file_jobs.proofs.asm.assemble_listing.Goals as goal

pub returns-in_err-text : goal.returns-in_err-text
returns-in_err-text g c =
    let p = err_from_is_err_and c.from_residual.result c.from_residual.ensures.1 in
    rw (p.1, p.2) (λ sink. read_ends sink _ refl c.in_err-text.ensures.refused)

pub returns-in_err-assembled : goal.returns-in_err-assembled
returns-in_err-assembled g c =
    let was = c.in_ok-text.ensures.read in
    let p = err_from_is_err_and c.from_residual-in_err-assembled.result c.from_residual-in_err-assembled.ensures.1 in
    let found = was.found ∙ ap Some (sym c.deref.ensures.value) in
    rw (p.1, p.2)
    (λ sink. refused sink (begun refl was) refl (c.in_err-assembled.ensures.refused was.files c.args.input.now found))

pub returns-in_err-file : goal.returns-in_err-file
returns-in_err-file g c =
    let p = err_from_is_err_and c.from_residual-in_err-file.result c.from_residual-in_err-file.ensures.1 in
    rw (p.1, p.2) (λ sink. wants_first sink c.in_ok-text.ensures.read.stays)

pub returns : goal.returns
returns g c = λ sink.
    let was = c.in_ok-text.ensures.read in
    let done = c.in_ok-assembled.assembled in
    let holds = listing_held was (rw c.deref.ensures.value at c.in_ok-assembled.ensures.reads) in
    let writes = rw (c.deref-2.ensures.value, c.in_ok-file.ensures, c.as_slice.ensures) at c.write_file.ensures in
    written sink (met_next (begun refl was) (done.origin, done.bytes, holds))
    (raw_file done.origin done.bytes, (done.origin, done.bytes, holds, refl), record { lines_are = refl; write_is = refl }) writes
