-- What folders and sinks tell, and their counts.
use Rattle.std.proofs.Common.{◌≡◌, ℕ, List, [], ◌++◌, Option, Some, None, Bool, true, false, not, ◌&&◌}
use Rattle.std.proofs.Common.{◌==◌, refl, sym, ap, ◌∙◌, subst, arith}
use Rattle.std.proofs.lemmas.List.{append-nil}
use Rattle.std.specs.FinMap.{empty}
use Rattle.goat_io.specs.declared.folder_counts.FolderCounts.{FolderCounts}
use Rattle.goat_io.specs.Count.{Rose}
use Rattle.goat_io.specs.Files.{Files}
use Rattle.goat_io.specs.Written.{told_with_piece}
use Rattle.goat_io.proofs.Laws.{told_nothing, told_both}
use Rattle.jobs.specs.Outcome.{told_after}
use Rattle.jobs.specs.Stands as stands
use Rattle.jobs.specs.Stands.{FolderState, SinkState, AreFiles, RisesWith, Counted, FolderStays, Appends, FailsAfter}
use Rattle.jobs.specs.Stands.{TellsWant}

-- ---- folders

-- some files stand for a folder's
pub record SomeFiles (told : Option Files) : Type 0 where
  pub files : Files
  pub are_files : AreFiles told files

pub some_files : (told : Option Files) → SomeFiles told
some_files None = record { files = empty; are_files = tt }
some_files (Some files) = record { files = files; are_files = refl }

pub as_before : (told : Option Files) → told ≡ told_after told None
as_before None = refl
as_before (Some files) = refl

-- ---- counts

-- a status that tells of no count
abbrev pub is_uncounted : ℕ → Bool
is_uncounted n = not (n == 2) && (not (n == 3) && (not (n == 4) && not (n == 9)))

unlike : (n own : ℕ) → is_uncounted n ≡ true → n ≡ own → is_uncounted own ≡ false → ⊥
unlike n own test is other = let never : true ≡ false = sym test ∙ ap is_uncounted is ∙ other in absurd (cc (never))

pub same_count : {own n before after : ℕ} → (n ≡ own → ⊥) → after ≡ before → RisesWith own n before after
same_count other same = record { rose = λ is. absurd (other is); stays = λ is. same }

-- all counts are as before, with such a status
pub still : {n : ℕ} {before after : FolderCounts} → is_uncounted n ≡ true → after.misses ≡ before.misses →
    after.excesses ≡ before.excesses → after.read_faults ≡ before.read_faults →
    after.write_faults ≡ before.write_faults →
    Counted n before after
still {n} test m e r w = record {
  misses = same_count (λ is. unlike n 2 test is refl) m;
  excesses = same_count (λ is. unlike n 3 test is refl) e;
  read_faults = same_count (λ is. unlike n 4 test is refl) r;
  write_faults = same_count (λ is. unlike n 9 test is refl) w;
}

pub uncounted : {n : ℕ} {before after : FolderCounts} → is_uncounted n ≡ true → Counted 0 before after →
    Counted n before after
uncounted test c =
    still test (c.misses.stays (λ e. omega arith)) (c.excesses.stays (λ e. omega arith))
    (c.read_faults.stays (λ e. omega arith)) (c.write_faults.stays (λ e. omega arith))

rises_on : {own n before between after : ℕ} → between ≡ before → RisesWith own n between after →
    RisesWith own n before after
rises_on {own} {n} {after} same r = subst (λ b. RisesWith own n b after) same r

pub counted_on : {n : ℕ} {before between after : FolderCounts} → Counted 0 before between → Counted n between after →
    Counted n before after
counted_on c d = record {
  misses = rises_on (c.misses.stays (λ e. omega arith)) d.misses;
  excesses = rises_on (c.excesses.stays (λ e. omega arith)) d.excesses;
  read_faults = rises_on (c.read_faults.stays (λ e. omega arith)) d.read_faults;
  write_faults = rises_on (c.write_faults.stays (λ e. omega arith)) d.write_faults;
}

pub stays_itself : (folder : FolderState) → FolderStays folder folder
stays_itself folder = record { told = refl; counts = still refl refl refl refl refl }

pub stays_on : {a b c : FolderState} → FolderStays a b → FolderStays b c → FolderStays a c
stays_on p q = record { told = q.told ∙ p.told; counts = counted_on p.counts q.counts }

-- ---- sinks

pub appends_nothing : (sink : SinkState) → Appends [] sink sink
appends_nothing sink = record { told = sym (told_nothing sink.told); faults = refl }

module _ {a b : List ℕ} {s t u : SinkState} (first : Appends a s t) where
  pub appends_both : Appends b t u → Appends (a ++ b) s u
  appends_both then = record {
    told = then.told ∙ ap (λ told. told_with_piece told b) first.told ∙ told_both s.told a b;
    faults = then.faults ∙ first.faults;
  }

  pub fails_then : FailsAfter b t u → FailsAfter (a ++ b) s u
  fails_then then = record {
    told = then.told ∙ ap (λ told. told_with_piece told b) first.told ∙ told_both s.told a b;
    faults = subst (λ n. Rose n u.faults) first.faults then.faults;
  }

pub appends_none : {a : List ℕ} {s t u : SinkState} → Appends a s t → Appends [] t u → Appends a s u
appends_none {a} {s} {u} first none = subst (λ b. Appends b s u) (append-nil a) (appends_both first none)

-- the line that tells of running out of memory comes after what was printed
pub tells_then : {a : List ℕ} {answer : ℕ} {s t u : SinkState} → Appends a s t → TellsWant [] answer t u →
    TellsWant a answer s u
tells_then first (stands.told is appends) = stands.told is (appends_both first appends)
tells_then first (stands.failed kept is fails) = stands.failed kept is (fails_then first fails)
tells_then first (stands.untold is appends) = stands.untold is (appends_none first appends)
