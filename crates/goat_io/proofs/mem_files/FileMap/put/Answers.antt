use Rattle.std.specs.String.{string_bytes}
use Rattle.goat_io.proofs.Texts.{files_of-updated}
use Rattle.goat_io.proofs.mem_files.FileMap.put.Goals as goal

pub returns-clause-ok : goal.returns-clause-ok
returns-clause-ok c =
    let is_name = c.in_ok-name.ensures.ok in
    let is_bytes = c.in_ok-bytes.ensures.items in
    let put = files_of-updated c.self.inside.entries c.insert.new.self (string_bytes c.in_ok-name.name)
    c.in_ok-bytes.bytes c.in_ok-insert.ensures.updates in
    let was = c.self.view_is in
    cc
