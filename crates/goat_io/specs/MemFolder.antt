-- A folder in memory as its user sees it.
use Rattle.std.specs.Prelude.{ℕ, List, Bool, ◌==◌, refl}
use Rattle.std.specs.Coded.{Coded, code_by, coded×, coded_ℕ, coded_list}
use Rattle.std.specs.FinMap.{code}
use Rattle.std.specs.List.{list_any}
use Rattle.goat_io.specs.Files.{Files}
use Rattle.goat_io.specs.declared.folder_counts.FolderCounts.{FolderCounts}

-- its files, the numbers of the calls that fail, the number of the next call, and the four counts
pub record MemFiles : Type 0 where
  pub files : Files
  pub failing : List ℕ
  pub calls : ℕ
  pub counts : FolderCounts

-- the next call is one of those that fail
abbrev pub next_fails : MemFiles → Bool
next_fails folder = list_any (λ n. n == folder.calls) folder.failing

-- as the tuple of its parts
abbrev pub mem_files_code : Coded MemFiles
mem_files_code =
    code_by ((Files × List ℕ) × ((ℕ × ℕ) × (ℕ × (ℕ × ℕ))))
    (coded× (coded× (code (coded_list coded_ℕ) (coded_list coded_ℕ)) (coded_list coded_ℕ))
    (coded× (coded× coded_ℕ coded_ℕ) (coded× coded_ℕ (coded× coded_ℕ coded_ℕ))))
    (λ f. (
      (f.files, f.failing),
      ((f.calls, f.counts.read_faults), (f.counts.write_faults, (f.counts.misses, f.counts.excesses))),
    ))
    (λ p. record {
      files = p.0.0;
      failing = p.0.1;
      calls = p.1.0.0;
      counts = record { read_faults = p.1.0.1; write_faults = p.1.1.0; misses = p.1.1.1.0; excesses = p.1.1.1.1 };
    })
    (λ _. refl)
