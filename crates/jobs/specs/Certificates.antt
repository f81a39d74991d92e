-- Texts of numbers that bound the clock cycles of a program, and what is told of others.
use Rattle.std.specs.Prelude.{◌≡◌, ℕ, ◌+◌, List, Ok, Err, codes}
use Rattle.cycle_bound.specs.declared.checks.CertFault.{CertFault}
use Rattle.cycle_bound.specs.Least.{Fit}
use Rattle.player_bound.specs.declared.bounds.CallBounds.{CallBounds}
use Rattle.player_bound.specs.Programs.{Blocks}
use Rattle.player_bound.specs.Answers.{AreChecked}
use Rattle.bound_text.specs.Texts.{numbers_text, IsBadLine}
use Rattle.jobs.specs.Lines.{certificate_line, fault_words}

-- it is that of numbers that are admitted for the program, with these first ones
pub record IsAdmittedText (b : Blocks) (text : List ℕ) (bounds : CallBounds) : Type 0 where
  pub numbers : List ℕ
  pub fit : Fit numbers
  pub are : text ≡ numbers_text numbers
  pub answer : AreChecked b numbers (Ok bounds)

-- it isn't, and this line is told: of its first line that is no number's; or else of the first fault of its numbers, whose
-- lines are counted from 1
pub data IsRefusedText (b : Blocks) (text line : List ℕ) : Type 0 where
  bad_number : (number : ℕ) → IsBadLine text number → line ≡ certificate_line number (codes "bad number") →
      IsRefusedText b text line
  faulty : (numbers : List ℕ) (fault : CertFault) → Fit numbers → text ≡ numbers_text numbers →
      AreChecked b numbers (Err fault) → line ≡ certificate_line (fault.place + 1) (fault_words fault.kind) →
      IsRefusedText b text line
