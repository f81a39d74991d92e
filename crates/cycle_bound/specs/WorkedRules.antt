-- Numbers of small blocks, worked by hand from the cycles of the MOS 6502 programming manual, and numbers that aren't
-- admitted.
use Rattle.std.specs.Prelude.{◌≡◌, ℕ, false, nat_eq, List, [], ◌∷◌, Result, Ok, Err}
use Rattle.cycle_bound.specs.declared.checks.CertFault.{CertFault}
use Rattle.cycle_bound.specs.declared.checks.CertKind.{CertKind}
use Rattle.cycle_bound.specs.declared.checks.CertKind.TheVariants.{BadShape, TooSmall}
use Rattle.cycle_bound.specs.Faults.{IsChecked}
use Rattle.scopes.specs.Trees.{Tree, tree_of}
use Rattle.scope_lines.specs.declared.worked.TheConstants.{CAPPED, LOUD, SOUGHT, SUMMED}
use Rattle.cycle_bound.specs.declared.worked.TheConstants.{KEPT, ONE_OF_TWO, IN_LOOPS, WRITES, LEFT_FAR, SAME_NAME}
use Rattle.cycle_bound.specs.declared.worked.TheConstants.{LEFT_EITHER, ENDLESS}
use Rattle.scope_calls.specs.WorkedEntrances.{volume_entrance, voices_entrance}
use Rattle.cycle_bound.specs.Rules.{nowhere, asked, Admits, Setting}
use Rattle.cycle_bound.specs.EntranceRules.{calling_most, around_cycles, AdmitsEntrance, setting_at}
use Rattle.cycle_bound.specs.Least.{least_all}
use Rattle.cycle_bound.specs.Spans.{span, call_span}
use Rattle.scope_calls.specs.Entrances.{Entrance}
use Rattle.scopes.specs.declared.worked.TheConstants.{HALVED_OPEN}

-- no condition holds, and an open loop has no turn; one condition holds alone; and an open loop has so many turns
abbrev pub none : Setting
none = record { holds = λ condition. false; open_turns = 0 }

abbrev pub only : ℕ → Setting
only one = record none { holds = λ condition. nat_eq condition one }

abbrev pub with_turns : ℕ → Setting
with_turns turns = record none { open_turns = turns }

-- each number is as great as its rule asks, and no greater
abbrev pub AreLeast : Setting → Tree → List ℕ → Type 0
AreLeast setting tree numbers = (asked setting nowhere 0 tree numbers ≡ numbers) × Admits setting tree numbers

-- ---- a loop

abbrev pub sought : List ℕ → Type 0
sought numbers = Admits none (tree_of SOUGHT.now) numbers

-- From the end: a jump takes 3; a branch 2 and what follows, or 4 where it leaves; DEY 2; CMP by Y at most 5. So a turn
-- takes at most 14, and four of them 56. A number may be greater, but then the ones before it must reach it.
pub record LoopsAreCounted : Type 0 where
  pub least : AreLeast none (tree_of SOUGHT.now) (58 ∷ 58 ∷ 56 ∷ 14 ∷ 9 ∷ 7 ∷ 5 ∷ 3 ∷ [])
  pub raised : sought (63 ∷ 58 ∷ 56 ∷ 14 ∷ 9 ∷ 7 ∷ 5 ∷ 3 ∷ [])
  pub all_raised : sought (62 ∷ 62 ∷ 60 ∷ 15 ∷ 9 ∷ 7 ∷ 5 ∷ 3 ∷ [])
  pub lowered : ¬ sought (57 ∷ 58 ∷ 56 ∷ 14 ∷ 9 ∷ 7 ∷ 5 ∷ 3 ∷ [])
  pub inner_raised : ¬ sought (58 ∷ 58 ∷ 56 ∷ 15 ∷ 9 ∷ 7 ∷ 5 ∷ 3 ∷ [])
  pub one_turn : ¬ sought (16 ∷ 16 ∷ 14 ∷ 14 ∷ 9 ∷ 7 ∷ 5 ∷ 3 ∷ [])
  pub free_page : ¬ sought (54 ∷ 54 ∷ 52 ∷ 13 ∷ 9 ∷ 7 ∷ 5 ∷ 3 ∷ [])
  pub short_jump : ¬ sought (54 ∷ 54 ∷ 52 ∷ 13 ∷ 8 ∷ 6 ∷ 4 ∷ 2 ∷ [])
  pub one_less : ¬ sought (58 ∷ 58 ∷ 56 ∷ 14 ∷ 9 ∷ 7 ∷ 5 ∷ [])
  pub one_more : ¬ sought (58 ∷ 58 ∷ 56 ∷ 14 ∷ 9 ∷ 7 ∷ 5 ∷ 3 ∷ 0 ∷ [])
  pub no_number : ¬ sought []

-- a loop in a loop that both may leave for what is behind: 7 cycles behind the outer one, 24 in each of its three turns
abbrev pub in_loops : List ℕ → Type 0
in_loops numbers = Admits none (tree_of IN_LOOPS.now) numbers

pub record WaysOutAreCounted : Type 0 where
  pub least : AreLeast none (tree_of IN_LOOPS.now) (79 ∷ 79 ∷ 24 ∷ 20 ∷ 8 ∷ 6 ∷ 4 ∷ 4 ∷ 7 ∷ 5 ∷ 3 ∷ [])
  pub way_out_free : ¬ in_loops (72 ∷ 72 ∷ 24 ∷ 20 ∷ 8 ∷ 6 ∷ 4 ∷ 4 ∷ 7 ∷ 5 ∷ 3 ∷ [])
  pub inner_once : ¬ in_loops (55 ∷ 55 ∷ 16 ∷ 12 ∷ 8 ∷ 6 ∷ 4 ∷ 4 ∷ 7 ∷ 5 ∷ 3 ∷ [])

-- A loop whose own end is never come to, with 4 cycles behind the outer scope and 6 behind the inner one: it comes out at
-- the greater number of those that it may be left for, of what is kept; and a scope in it is none of those around it. What
-- comes to no end has numbers, too.
pub record FarWaysAreCounted : Type 0 where
  pub kept : AreLeast (only KEPT) (tree_of LEFT_FAR.now)
      (20 ∷ 20 ∷ 20 ∷ 7 ∷ 5 ∷ 5 ∷ 3 ∷ 0 ∷ 6 ∷ 4 ∷ 2 ∷ [])
  pub left_out : AreLeast none (tree_of LEFT_FAR.now) (14 ∷ 14 ∷ 14 ∷ 5 ∷ 3 ∷ 5 ∷ 3 ∷ 0 ∷ 6 ∷ 4 ∷ 2 ∷ [])
  pub either : AreLeast (only KEPT) (tree_of LEFT_EITHER.now) (16 ∷ 16 ∷ 16 ∷ 5 ∷ 5 ∷ 5 ∷ 3 ∷ 0 ∷ 6 ∷ 4 ∷ 2 ∷ [])
  pub other : AreLeast none (tree_of LEFT_EITHER.now) (14 ∷ 14 ∷ 14 ∷ 5 ∷ 5 ∷ 5 ∷ 3 ∷ 0 ∷ 6 ∷ 4 ∷ 2 ∷ [])
  pub endless : AreLeast none (tree_of ENDLESS.now) (3 ∷ 3 ∷ [])
  pub same_name : AreLeast none (tree_of SAME_NAME.now) (14 ∷ 14 ∷ 7 ∷ 7 ∷ 3 ∷ 0 ∷ 2 ∷ [])

-- An open loop counts as often as the setting says, and at most 255 times; where it has no turn nothing but its way out is
-- counted. A turn takes at most 8: LSR 2, DEY 2, and a branch that is taken 4.
pub record OpenLoopsAreCounted : Type 0 where
  pub none : AreLeast (with_turns 0) (tree_of HALVED_OPEN.now) (0 ∷ 8 ∷ 6 ∷ 4 ∷ [])
  pub two : AreLeast (with_turns 2) (tree_of HALVED_OPEN.now) (16 ∷ 8 ∷ 6 ∷ 4 ∷ [])
  pub most : AreLeast (with_turns 300) (tree_of HALVED_OPEN.now) (2040 ∷ 8 ∷ 6 ∷ 4 ∷ [])
  pub more : Admits (with_turns 2) (tree_of HALVED_OPEN.now) (2040 ∷ 8 ∷ 6 ∷ 4 ∷ [])
  pub once : ¬ Admits (with_turns 2) (tree_of HALVED_OPEN.now) (8 ∷ 8 ∷ 6 ∷ 4 ∷ [])
  pub fewer : ¬ Admits (with_turns 3) (tree_of HALVED_OPEN.now) (16 ∷ 8 ∷ 6 ∷ 4 ∷ [])

-- what is written by an index takes no more in another page; and nothing is behind what is never come to
pub record WritesAreCounted : Type 0 where
  pub least : AreLeast none (tree_of WRITES.now) (12 ∷ 7 ∷ 0 ∷ 2 ∷ [])

-- ---- branches

abbrev pub one_of_two : List ℕ → Type 0
one_of_two numbers = Admits none (tree_of ONE_OF_TWO.now) numbers

-- one of two ways: the greater counts, 2 and 9, and not the lesser, 4 and 2; nor both
pub record BranchesAreCounted : Type 0 where
  pub least : AreLeast none (tree_of ONE_OF_TWO.now) (11 ∷ 11 ∷ 11 ∷ 9 ∷ 7 ∷ 3 ∷ 2 ∷ [])
  pub lesser : ¬ one_of_two (6 ∷ 6 ∷ 6 ∷ 9 ∷ 7 ∷ 3 ∷ 2 ∷ [])
  pub short_branch : ¬ one_of_two (11 ∷ 11 ∷ 10 ∷ 9 ∷ 7 ∷ 3 ∷ 2 ∷ [])

-- ---- conditions

abbrev pub summed : Setting → List ℕ → Type 0
summed setting numbers = Admits setting (tree_of SUMMED.now) numbers

-- what a condition keeps counts; what it doesn't keep is asked for its own, and counts for none of the others
pub record ConditionsAreCounted : Type 0 where
  pub capped : AreLeast (only CAPPED) (tree_of SUMMED.now)
      (34 ∷ 32 ∷ 29 ∷ 27 ∷ 24 ∷ 22 ∷ 22 ∷ 20 ∷ 14 ∷ 10 ∷ 10 ∷ 8 ∷ 8 ∷ 3 ∷ 4 ∷ 8 ∷ 4 ∷ 4 ∷ [])
  pub loud : AreLeast (only LOUD) (tree_of SUMMED.now)
      (32 ∷ 30 ∷ 27 ∷ 25 ∷ 22 ∷ 20 ∷ 20 ∷ 18 ∷ 12 ∷ 8 ∷ 14 ∷ 12 ∷ 12 ∷ 3 ∷ 8 ∷ 8 ∷ 4 ∷ 4 ∷ [])
  pub not_kept : ¬ summed (only CAPPED)
      (28 ∷ 26 ∷ 23 ∷ 21 ∷ 18 ∷ 16 ∷ 16 ∷ 14 ∷ 8 ∷ 4 ∷ 10 ∷ 8 ∷ 8 ∷ 3 ∷ 4 ∷ 8 ∷ 4 ∷ 4 ∷ [])
  pub other_side : ¬ summed (only LOUD)
      (28 ∷ 26 ∷ 23 ∷ 21 ∷ 18 ∷ 16 ∷ 16 ∷ 14 ∷ 8 ∷ 4 ∷ 10 ∷ 8 ∷ 8 ∷ 3 ∷ 4 ∷ 8 ∷ 4 ∷ 4 ∷ [])
  pub its_own : ¬ summed (only LOUD)
      (32 ∷ 30 ∷ 27 ∷ 25 ∷ 22 ∷ 20 ∷ 20 ∷ 18 ∷ 12 ∷ 8 ∷ 0 ∷ 0 ∷ 0 ∷ 0 ∷ 8 ∷ 8 ∷ 4 ∷ 4 ∷ [])

-- ---- entrances

-- STA of the volume, 4 cycles; and LDA and STA, 6, with the voices' TXA and STA, 7, three times, and 30 that call them
abbrev pub least_at : Entrance → List ℕ
least_at e = least_all (setting_at 0 e) e.first e.voice

abbrev pub volume_admits : List ℕ → Type 0
volume_admits numbers = AdmitsEntrance 0 volume_entrance.entrance numbers

abbrev pub voices_admit : List ℕ → Type 0
voices_admit numbers = AdmitsEntrance 0 voices_entrance.entrance numbers

pub record EntrancesAreCounted : Type 0 where
  pub volume : least_at volume_entrance.entrance ≡ 4 ∷ 4 ∷ []
  pub voices : least_at voices_entrance.entrance ≡ 57 ∷ 6 ∷ 4 ∷ 7 ∷ 5 ∷ []
  pub volume_least : volume_admits (4 ∷ 4 ∷ [])
  pub voices_least : voices_admit (57 ∷ 6 ∷ 4 ∷ 7 ∷ 5 ∷ [])
  pub lowered : ¬ volume_admits (3 ∷ 4 ∷ [])
  pub two_voices : ¬ voices_admit (50 ∷ 6 ∷ 4 ∷ 7 ∷ 5 ∷ [])
  pub uncalled : ¬ voices_admit (27 ∷ 6 ∷ 4 ∷ 7 ∷ 5 ∷ [])
  pub exchanged : ¬ voices_admit (57 ∷ 7 ∷ 5 ∷ 6 ∷ 4 ∷ [])
  pub no_voices : ¬ voices_admit (57 ∷ 6 ∷ 4 ∷ [])
  pub around : around_cycles ≡ 11
  pub calling : calling_most ≡ 30

-- ---- faults

-- of the entrance of two lines, whose least numbers are 4 and 4
abbrev pub volume_told : List ℕ → Result ℕ CertFault → Type 0
volume_told numbers told = IsChecked (setting_at 0 volume_entrance.entrance) volume_entrance.entrance.first
    volume_entrance.entrance.voice numbers told

abbrev pub fault : CertKind → ℕ → Result ℕ CertFault
fault kind place = Err (record { place = place; kind = kind })

-- and of the one with voices, whose least numbers are 57, 6, 4, 7 and 5
abbrev pub voices_told : List ℕ → Result ℕ CertFault → Type 0
voices_told numbers told = IsChecked (setting_at 0 voices_entrance.entrance) voices_entrance.entrance.first
    voices_entrance.entrance.voice numbers told

-- A number is too small by those behind it, be these as they may. The first fault is told, and one in how many there are
-- before one in a number.
pub record FaultsAreWorked : Type 0 where
  pub least : volume_told (4 ∷ 4 ∷ []) (Ok 4)
  pub raised : volume_told (9 ∷ 4 ∷ []) (Ok 9)
  pub lowered : volume_told (3 ∷ 4 ∷ []) (fault TooSmall 0)
  pub second : volume_told (4 ∷ 3 ∷ []) (fault TooSmall 1)
  pub missing : volume_told (3 ∷ []) (fault BadShape 1)
  pub empty : volume_told [] (fault BadShape 0)
  pub more : volume_told (3 ∷ 4 ∷ 0 ∷ []) (fault BadShape 2)
  pub not_its : ¬ volume_told (9 ∷ 4 ∷ []) (Ok 4)
  pub not_admitted : ¬ volume_told (3 ∷ 4 ∷ []) (Ok 3)
  pub not_first : ¬ volume_told (2 ∷ 3 ∷ []) (fault TooSmall 1)
  pub not_small : ¬ volume_told (4 ∷ 4 ∷ []) (fault TooSmall 0)
  pub not_bad : ¬ volume_told (4 ∷ 4 ∷ []) (fault BadShape 2)
  pub shape_first : ¬ volume_told (3 ∷ []) (fault TooSmall 0)
  pub by_those_behind : volume_told (3 ∷ 3 ∷ []) (fault TooSmall 1)
  pub not_by_least : ¬ volume_told (3 ∷ 3 ∷ []) (fault TooSmall 0)
  pub last_of_voice : voices_told (57 ∷ 6 ∷ 4 ∷ 7 ∷ 4 ∷ []) (fault TooSmall 4)
  pub first_of_voice : voices_told (57 ∷ 6 ∷ 4 ∷ 6 ∷ 5 ∷ []) (fault TooSmall 3)
  pub no_voice : voices_told (57 ∷ 6 ∷ 4 ∷ []) (fault BadShape 3)
  pub voice_and_more : voices_told (57 ∷ 6 ∷ 4 ∷ 7 ∷ 5 ∷ 0 ∷ []) (fault BadShape 5)
  pub far_more : ¬ volume_told (4 ∷ 4 ∷ 0 ∷ 0 ∷ []) (fault BadShape 4)

-- 8 a line, the voices' three times, with 30; and a loop's once more than its turns: 4 times
-- 2 and 3 times 3 lines, and 3 behind them
pub record SpansAreWorked : Type 0 where
  pub volume : call_span volume_entrance.entrance.first volume_entrance.entrance.voice ≡ 8
  pub voices : call_span voices_entrance.entrance.first voices_entrance.entrance.voice ≡ 94
  pub loops : span (tree_of IN_LOOPS.now) ≡ 376

pub record NumbersAreAsWorked : Type 0 where
  pub spans : SpansAreWorked
  pub faults : FaultsAreWorked
  pub far : FarWaysAreCounted
  pub writes : WritesAreCounted
  pub entrances : EntrancesAreCounted
  pub loops : LoopsAreCounted
  pub open_loops : OpenLoopsAreCounted
  pub ways_out : WaysOutAreCounted
  pub branches : BranchesAreCounted
  pub conditions : ConditionsAreCounted
