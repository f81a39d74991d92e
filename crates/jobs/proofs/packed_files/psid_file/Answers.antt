use Rattle.std.proofs.Common.{subst, sym}
use Rattle.psid.specs.Format.{IsWritable}
use Rattle.jobs.proofs.PlayedFiles.{writable}
use Rattle.jobs.proofs.packed_files.psid_file.Goals as goal

pub write-requires : goal.write-requires
write-requires c =
    subst (λ header. IsWritable header c.args.address c.args.image.now) (sym c.song_header-header.ensures)
    (writable c.args.song.now c.args.address c.args.image.now c.args.options.now c.args.chip c.requires.limits c.requires.below
    c.requires.some)
