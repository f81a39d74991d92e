-- What a folder answers, as what a stage answers: where no files are told, some files stand for them.
use Rattle.std.proofs.Common.{◌≡◌, ℕ, ◌+◌, ◌≤◌, List, Option, Some, None, IfSome, cond, Ok, Err}
use Rattle.std.proofs.Common.{length, replicate, refl, ap, ◌∙◌, arith}
use Rattle.std.proofs.lemmas.Cmp.{nat_list_cmp_total, eq_by_cmp_equiv}
use Rattle.std.proofs.lemmas.List.{length-replicate}
use Rattle.std.specs.Cmp.Lexicographic.{slice_cmp}
use Rattle.std.specs.FinMap.{empty, get-empty, get-insert}
use Rattle.std.specs.Ordering.{nat_cmp}
use Rattle.goat_io.specs.declared.fault.ReadFault.TheVariants as read
use Rattle.goat_io.specs.declared.folder_counts.FolderCounts.{FolderCounts}
use Rattle.goat_io.specs.FolderCounts.{CountsRead}
use Rattle.goat_io.specs.Files.{Files, file_of, with_file, IsAbsent, IsAbove}
use Rattle.jobs.specs.Lines.{missing_line, too_long_line}
use Rattle.command_line.specs.Last.{Last, Says}
use Rattle.jobs.specs.Stands.{FolderState, AreFiles, Counted, FolderStays}
use Rattle.jobs.proofs.Told.{same_count, still}
use Rattle.jobs.specs.Endings as ends
use Rattle.jobs.specs.Endings.{WasRead, ReadFails}

-- ---- files

one_file : (name bytes : List ℕ) → file_of (with_file empty name bytes) name ≡ Some bytes
one_file name bytes =
    let found =
    ap (λ same. cond same (Some bytes) (file_of empty name)) ((eq_by_cmp_equiv nat_list_cmp_total).refl name) in
    get-insert nat_list_cmp_total empty name bytes name ∙ found

-- some files have what is said of the told ones
record SomeFiles (told : Option Files) (P : Files → Type 0) : Type 0 where
  files : Files
  are_files : AreFiles told files
  has : P files

some_of : (told : Option Files) (P : Files → Type 0) (other : Files) → P other → IfSome told P → SomeFiles told P
some_of None P other holds known = record { files = other; are_files = tt; has = holds }
some_of (Some files) P other holds known = record { files = files; are_files = refl; has = known }

-- ---- counts

module _ {X : Type 0} {before after : FolderCounts} where
  pub read_counted : {x : X} → CountsRead {X = X} (Ok x) before after → Counted 0 before after
  read_counted c = still refl c.misses c.excesses c.read_faults c.write_faults

  pub miss_counted : CountsRead {X = X} (Err read.Missing) before after → Counted 2 before after
  miss_counted c = record {
    misses = record { rose = λ e. c.misses; stays = λ e. absurd (e refl) };
    excesses = same_count (λ e. omega arith) c.excesses;
    read_faults = same_count (λ e. omega arith) c.read_faults;
    write_faults = same_count (λ e. omega arith) c.write_faults;
  }

  pub excess_counted : CountsRead {X = X} (Err read.TooLong) before after → Counted 3 before after
  excess_counted c = record {
    misses = same_count (λ e. omega arith) c.misses;
    excesses = record { rose = λ e. c.excesses; stays = λ e. absurd (e refl) };
    read_faults = same_count (λ e. omega arith) c.read_faults;
    write_faults = same_count (λ e. omega arith) c.write_faults;
  }

-- ---- answers

module _ (name : List ℕ) (limit : ℕ) {before after : FolderState} (same : after.told ≡ before.told) where
  pub was_read : (bytes : List ℕ) → IfSome before.told (λ files. file_of files name ≡ Some bytes) →
      length bytes ≤ limit →
      Counted 0 before.counts after.counts → WasRead name limit before after bytes
  was_read bytes known fits counted =
      let some =
      some_of before.told (λ files. file_of files name ≡ Some bytes) (with_file empty name bytes)
      (one_file name bytes) known in
      let stays : FolderStays before after = record { told = same; counts = counted } in
      record { files = some.files; are_files = some.are_files; found = some.has; fits = fits; stays = stays }

  pub was_missing : {last : Last} → IfSome before.told (IsAbsent name) → Counted 2 before.counts after.counts →
      last ≡ Says 2 (missing_line name) → ReadFails name limit before after last
  was_missing known counted says =
      let some = some_of before.told (IsAbsent name) empty (get-empty (slice_cmp nat_cmp) name) known in
      ends.missing some.files some.are_files some.has says same counted

  pub was_too_long : {last : Last} → IfSome before.told (IsAbove limit name) → Counted 3 before.counts after.counts →
      last ≡ Says 3 (too_long_line name) → ReadFails name limit before after last
  was_too_long known counted says =
      let long = replicate (limit + 1) 0 in
      let above : IsAbove limit name (with_file empty name long) =
      (long, one_file name long, omega (arith, length-replicate {A = ℕ} (limit + 1) 0)) in
      let some = some_of before.told (IsAbove limit name) (with_file empty name long) above known in
      ends.too_long some.files some.are_files some.has says same counted
