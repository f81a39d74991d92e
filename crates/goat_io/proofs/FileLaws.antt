-- What stands under a name after a file was put in.
use Rattle.std.proofs.Common.{◌≡◌, ◌≢◌, ℕ, List, Bool, true, false, Some, cond, ap, ◌∙◌, refl}
use Rattle.std.specs.Ordering.{nat_cmp, eq_by_cmp}
use Rattle.std.specs.Cmp.{eq_by_cmp_equiv}
use Rattle.std.specs.Cmp.Lexicographic.{slice_cmp, nat_list_cmp_total}
use Rattle.std.specs.FinMap.{get-insert}
use Rattle.std.proofs.lemmas.Map.Lookups.{exact_bytes}
use Rattle.std.proofs.lemmas.Map.Views.{tells_apart}
use Rattle.goat_io.specs.Files.{Files, file_of, with_file}

-- names that aren't the same are told apart
apart : (name other : List ℕ) (b : Bool) → eq_by_cmp (slice_cmp nat_cmp) other name ≡ b → other ≢ name → b ≡ false
apart name other true is differ = absurd (differ (tells_apart exact_bytes other name is))
apart name other false is differ = refl

module _ (files : Files) (name bytes : List ℕ) where
  -- the bytes under its name
  pub file_put : file_of (with_file files name bytes) name ≡ Some bytes
  file_put =
      get-insert nat_list_cmp_total files name bytes name
      ∙ ap (λ b. cond b (Some bytes) (file_of files name)) ((eq_by_cmp_equiv nat_list_cmp_total).refl name)

  -- and under another name what stood there
  pub file_beside : (other : List ℕ) → other ≢ name → file_of (with_file files name bytes) other ≡ file_of files other
  file_beside other differ =
      get-insert nat_list_cmp_total files name bytes other
      ∙ ap (λ b. cond b (Some bytes) (file_of files other)) (apart name other _ refl differ)
