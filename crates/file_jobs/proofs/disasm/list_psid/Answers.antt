use Rattle.std.proofs.Common.{refl}
use Rattle.std.proofs.lemmas.Result.{err_from_is_err_and}
use Rattle.asm_text.specs.Printing.{listing_of}
use Rattle.jobs.proofs.Laws.{wants_first, psid_begun, psid_held, hold_fails, written}
use Rattle.file_jobs.proofs.disasm.list_psid.Goals as goal

pub returns-in_err-psid : goal.returns-in_err-psid
returns-in_err-psid g c =
    let p = err_from_is_err_and c.from_residual.result c.from_residual.ensures.1 in
    rw (p.1, p.2) (λ sink. hold_fails sink refl refl c.in_err-psid.ensures.refused)

pub returns-in_err-listing : goal.returns-in_err-listing
returns-in_err-listing g c =
    let p = err_from_is_err_and c.from_residual-in_err-listing.result c.from_residual-in_err-listing.ensures.1 in
    rw (p.1, p.2) (λ sink. wants_first sink c.in_ok-psid.ensures.read.was.stays)

pub returns : goal.returns
returns g c = λ sink.
    let read = c.in_ok-psid.ensures.read in
    let psid = c.in_ok-psid.psid in
    let writes = rw (c.as_slice-2.ensures, c.in_ok-listing.ensures, c.as_slice.ensures) at c.write_file.ensures in
    written sink (psid_begun refl read)
    (listing_of psid.load psid.image, (psid, psid_held read, refl), record { lines_are = refl; write_is = refl }) writes
