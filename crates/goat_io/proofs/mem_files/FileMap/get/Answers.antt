use Rattle.std.proofs.Common.{Some, sym, ap, ◌∙◌}
use Rattle.goat_io.specs.Files.{file_of}
use Rattle.goat_io.proofs.Texts.{bytes_in, file_of-files_of}
use Rattle.goat_io.proofs.mem_files.FileMap.get.Goals as goal

pub returns-in-Some : goal.returns-in-Some
returns-in-Some c =
    ap Some c.as_slice.ensures.value ∙ ap bytes_in c.in-Some.ensures.value
    ∙ sym (file_of-files_of c.self.inside.entries c.args.name.now)
    ∙ ap (λ files. file_of files c.args.name.now) c.self.view_is

pub returns-in-None : goal.returns-in-None
returns-in-None c =
    ap bytes_in c.in-None.ensures.value
    ∙ sym (file_of-files_of c.self.inside.entries c.args.name.now)
    ∙ ap (λ files. file_of files c.args.name.now) c.self.view_is
