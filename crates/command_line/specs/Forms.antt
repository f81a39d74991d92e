-- The forms of the command line: the words that name each job.
use Rattle.std.specs.Prelude.{◌≡◌, ◌≢◌, ℕ, List, [], ◌∷◌, codes, ◌||◌, if◌then◌else◌}
use Rattle.std.specs.Option.{option_to_list}
use Rattle.std.specs.Str.{bytes_eq}
use Rattle.command_line.specs.Topics.{form_word}
use Rattle.command_line.specs.Words as asked
use Rattle.command_line.specs.Words.{Job, ArePackArguments, AreTraceArguments, AreRunArguments, AreSelftestArguments}
use Rattle.command_line.specs.Words.{ArePartsArguments, AreBoundArguments, AreMeasureArguments, AreChartArguments}

-- a command, and the words after it
pub record Form : Type 1 where
  pub command : List ℕ
  pub has_arguments : List (List ℕ) → Type 0

-- the arguments are `IN OUT`
pub record AreTwoNames (words : List (List ℕ)) (input output : List ℕ) : Type 0 where
  pub form : words ≡ input ∷ output ∷ []
  pub in_named : input ≢ []
  pub out_named : output ≢ []

-- the arguments are `IN SCRIPT OUT`, or `IN SECOND OUT`
pub record AreThreeNames (words : List (List ℕ)) (input other output : List ℕ) : Type 0 where
  pub form : words ≡ input ∷ other ∷ output ∷ []
  pub in_named : input ≢ []
  pub other_named : other ≢ []
  pub out_named : output ≢ []

abbrev pub form_of : Job → Form
form_of (asked.Pack input output psid address zero_page options chip) = record {
  command = codes "pack";
  has_arguments = λ words. ArePackArguments words input output psid address zero_page options chip;
}
form_of (asked.Copy input output) = record {
  command = codes "copy";
  has_arguments = λ words. AreTwoNames words input output;
}
form_of (asked.Edit input script output) = record {
  command = codes "edit";
  has_arguments = λ words. AreThreeNames words input script output;
}
-- the argument is `IN`
form_of (asked.Check input) = record {
  command = codes "check";
  has_arguments = λ words. (words ≡ input ∷ []) × (input ≢ []);
}
form_of (asked.Trace input subtune frames options) = record {
  command = codes "trace";
  has_arguments = λ words. AreTraceArguments words input subtune frames options;
}
form_of (asked.Run input subtune frames) = record {
  command = codes "run";
  has_arguments = λ words. AreRunArguments words input subtune frames;
}
form_of (asked.Selftest number) = record {
  command = codes "selftest";
  has_arguments = λ words. AreSelftestArguments words number;
}
form_of (asked.Disasm input output) = record {
  command = codes "disasm";
  has_arguments = λ words. AreTwoNames words input output;
}
form_of (asked.Asm input output) = record {
  command = codes "asm";
  has_arguments = λ words. AreTwoNames words input output;
}
form_of (asked.Join input second output) = record {
  command = codes "join";
  has_arguments = λ words. AreThreeNames words input second output;
}
-- there is no argument, or the first word of a form
form_of (asked.Help topic) = record {
  command = codes "help";
  has_arguments = λ words. words ≡ option_to_list (form_word topic);
}
form_of asked.Version = record {
  command = codes "version";
  has_arguments = λ words. words ≡ [];
}
form_of (asked.Show input output) = record {
  command = codes "show";
  has_arguments = λ words. AreTwoNames words input output;
}
form_of (asked.Parts input options) = record {
  command = codes "parts";
  has_arguments = λ words. ArePartsArguments words input options;
}
form_of (asked.Bound input output options) = record {
  command = codes "bound";
  has_arguments = λ words. AreBoundArguments words input output options;
}
form_of (asked.BoundCheck input certificate options) = record {
  command = codes "bound-check";
  has_arguments = λ words. AreBoundArguments words input certificate options;
}
form_of (asked.Measure input calls) = record {
  command = codes "measure";
  has_arguments = λ words. AreMeasureArguments words input calls;
}
form_of (asked.Chart input output subtune calls) = record {
  command = codes "chart";
  has_arguments = λ words. AreChartArguments words input output subtune calls;
}

abbrev pub command_of : Job → List ℕ
command_of job = (form_of job).command

abbrev pub AreArgumentsOf : Job → List (List ℕ) → Type 0
AreArgumentsOf job words = (form_of job).has_arguments words

-- the command that a first word names: its own, but for the words that other programs have for help and version
abbrev pub command_named : List ℕ → List ℕ
command_named word =
    if bytes_eq word (codes "--help") || bytes_eq word (codes "-h") then codes "help"
    else if bytes_eq word (codes "--version") then codes "version" else word

-- the words name this job
pub record WordsOf (words : List (List ℕ)) (job : Job) : Type 0 where
  pub first : List ℕ
  pub arguments : List (List ℕ)
  pub words_are : words ≡ first ∷ arguments
  pub is_command : command_named first ≡ command_of job
  pub are_arguments : AreArgumentsOf job arguments

-- no form of the command line has these words
abbrev pub IsNoForm : List (List ℕ) → Type 0
IsNoForm words = (job : Job) → ¬ WordsOf words job
