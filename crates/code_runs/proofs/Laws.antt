-- What upper crates may cite of the proofs of this crate.

-- how runs are put together, and what they leave alone
pub use Rattle.code_runs.proofs.Moves.{stay, does, goes, puts, goes_once, puts_once, leads_on, in_steps, ends_at}
pub use Rattle.code_runs.proofs.Moves.{begins_at, leads_wider}
pub use Rattle.code_runs.proofs.Moves.{put_same, put_other, leads_stay}
-- instructions that stand: from the bytes, and after writes elsewhere
pub use Rattle.code_runs.proofs.Standing.{stand_alone, stand_by_byte, stand_by_word, stands_relative}
pub use Rattle.code_runs.proofs.Standing.{stands_implied, stands_immediate, stands_absolute, stands_absolute_x}
pub use Rattle.code_runs.proofs.Standing.{stands_stay, code_stays}
-- the step of an instruction: where it works, by its mode
pub use Rattle.code_runs.specs.Steps.{jumped, Works, Reads, WorksOnA}
pub use Rattle.code_runs.proofs.Modes.{works, works_on_a, standing_has_effect, reads, reads_immediate}
-- and what it does, by its name: a record for each group of them
pub use Rattle.code_runs.proofs.Steps.{load_steps, transfer_steps, logic_steps, sum_steps, compare_steps, shift_steps}
pub use Rattle.code_runs.proofs.Steps.{count_steps, flag_steps, jump_steps, stack_steps}
pub use Rattle.code_runs.proofs.Steps.{lda, ldx, sta, dex, jmp, rts}
pub use Rattle.code_runs.specs.Steps.{summed}
pub use Rattle.code_runs.proofs.Branches.{branch_steps}
pub use Rattle.code_runs.proofs.Branches.{bcc_taken, bcs_taken, bne_taken, beq_taken, bpl_taken, bmi_taken, bvc_taken, bvs_taken}
pub use Rattle.code_runs.proofs.Branches.{bcc_passed, bcs_passed, bne_passed, beq_passed, bpl_passed, bmi_passed}
pub use Rattle.code_runs.proofs.Branches.{bvc_passed, bvs_passed}
-- from runs to the machine and its calls
pub use Rattle.code_runs.proofs.Bridge.{machines_follow, call_returns}
pub use Rattle.code_runs.proofs.Entry.{entry_pulls, entry_kept}
-- how many cycles they take
pub use Rattle.code_runs.proofs.Cycles.{step_takes, cycles_on}
pub use Rattle.code_runs.specs.Runs.{Lasts}
pub use Rattle.code_runs.proofs.Cycles.{lasts_none, lasts_on, lasts_to, lasts_as, lasts_in, lasts_wider, lasts_once}
