-- What is told of numbers of both entrances, of a small program worked by hand: init is one instruction of two cycles, and so
-- are what a frame does once and what it does for each voice.
use Rattle.std.specs.Prelude.{◌≡◌, ℕ, false, Result, Ok, Err, List, [], ◌∷◌}
use Rattle.cpu6502.specs.declared.mnemonic.Mnemonic.TheVariants.{Tax, Tay, Inx}
use Rattle.scopes.specs.Trees.{DoTree}
use Rattle.cycle_bound.specs.declared.checks.CertFault.{CertFault}
use Rattle.cycle_bound.specs.declared.checks.CertKind.{CertKind}
use Rattle.cycle_bound.specs.declared.checks.CertKind.TheVariants.{BadShape, TooSmall}
use Rattle.player_bound.specs.declared.bounds.CallBounds.{CallBounds}
use Rattle.player_bound.specs.Programs.{Blocks}
use Rattle.player_bound.specs.Answers.{AreChecked}

abbrev pub small : Blocks
small = record {
  init = DoTree Tax;
  first = DoTree Tay;
  voice = DoTree Inx;
  setting = record { holds = λ condition. false; open_turns = 0 };
}

abbrev pub told : List ℕ → Result CallBounds CertFault → Type 0
told numbers answer = AreChecked small numbers answer

abbrev pub bounds : ℕ → ℕ → Result CallBounds CertFault
bounds init play = Ok (record { init = init; play = play })

abbrev pub fault : CertKind → ℕ → Result CallBounds CertFault
fault kind place = Err (record { place = place; kind = kind })

-- init has its number and that of its line, play its own, that of its line, and that of the voices': 2 and three times 2, with
-- 30. The least are answered, and others in which a first number is greater; one that is less is told where it stands, those
-- of init first; and so is the first that is missing or too much, before any that is less
pub record AnswersAreWorked : Type 0 where
  pub least : told (2 ∷ 2 ∷ 38 ∷ 2 ∷ 2 ∷ []) (bounds 2 38)
  pub raised : told (7 ∷ 2 ∷ 40 ∷ 2 ∷ 2 ∷ []) (bounds 7 40)
  pub of_init : told (2 ∷ 1 ∷ 38 ∷ 2 ∷ 2 ∷ []) (fault TooSmall 1)
  pub of_play : told (2 ∷ 2 ∷ 37 ∷ 2 ∷ 2 ∷ []) (fault TooSmall 2)
  pub of_voice : told (2 ∷ 2 ∷ 38 ∷ 2 ∷ 1 ∷ []) (fault TooSmall 4)
  pub missing : told (1 ∷ 2 ∷ 38 ∷ 2 ∷ []) (fault BadShape 4)
  pub none : told [] (fault BadShape 0)
  pub more : told (2 ∷ 2 ∷ 38 ∷ 2 ∷ 2 ∷ 0 ∷ []) (fault BadShape 5)
  pub not_exchanged : ¬ told (2 ∷ 2 ∷ 38 ∷ 2 ∷ 2 ∷ []) (bounds 38 2)
  pub not_by_its_own : ¬ told (2 ∷ 2 ∷ 37 ∷ 2 ∷ 2 ∷ []) (fault TooSmall 0)
  pub not_later : ¬ told (1 ∷ 2 ∷ 37 ∷ 2 ∷ 2 ∷ []) (fault TooSmall 2)
  pub not_admitted : ¬ told (2 ∷ 2 ∷ 37 ∷ 2 ∷ 2 ∷ []) (bounds 2 37)
