use Rattle.std.proofs.Common.{◌+◌, refl, subst, arith}
use Rattle.sid_run.specs.State.{loaded}
use Rattle.jobs.specs.Selftest.{SubtunesTake}
use Rattle.jobs.proofs.SmallSongs.{has_subtune}
use Rattle.jobs.proofs.PlayedFiles.{count_small}
use Rattle.jobs.proofs.Measured.{file_is_read, file_returns, no_subtune_taken, subtune_taken, all_subtunes_taken}
use Rattle.jobs.proofs.Measured.{few_subtunes_taken}
use Rattle.jobs.proofs.measuring.steps_of.Goals as goal

pub read_packed-requires : goal.read_packed-requires
read_packed-requires c =
    file_is_read c.args.song.now c.args.file.now c.requires.limits c.requires.written
    (has_subtune c.args.song.now c.requires.playable)

pub loop-subtune-init : goal.loop-subtune-init
loop-subtune-init c = no_subtune_taken (loaded c.in_ok-psid.psid)

pub subtune_steps-requires-clause-room : goal.subtune_steps-requires-clause-room
subtune_steps-requires-clause-room c = c.in_ok-psid.ensures.fits

pub subtune_steps-requires-clause-returns : goal.subtune_steps-requires-clause-returns
subtune_steps-requires-clause-returns c =
    let below = c.loop-subtune-test.true in
    let count = c.playable_count-subtune-end.ensures in
    file_returns c.args.song.now c.args.file.now c.in_ok-psid.psid c.loop-subtune.subtune c.requires.limits
    c.requires.written c.in_ok-psid.ensures.reads (omega (arith, below, count))

pub loop-subtune-preserved : goal.loop-subtune-preserved
loop-subtune-preserved c =
    subtune_taken c.in_ok-steps.field-0 (c.loop-subtune.steps + c.in_ok-steps.field-0)
    c.loop-subtune.invariant c.in_ok-steps.ensures.take c.in_ok-steps.ensures.most refl

pub returns-clause-steps : goal.returns-clause-steps
returns-clause-steps c = record {
  psid = c.in_ok-psid.psid;
  reads = c.in_ok-psid.ensures.reads;
  each = c.loop-subtune.invariant.each;
  take = subst (λ n. SubtunesTake (loaded c.in_ok-psid.psid) n c.loop-subtune.invariant.each)
      c.playable_count-subtune-end.ensures
      (all_subtunes_taken c.playable_count-subtune-end.result c.loop-subtune.invariant c.loop-subtune.auto.subtune-end
      c.loop-subtune-test.false);
  steps_are = c.loop-subtune.invariant.adds;
}

pub returns-clause-most : goal.returns-clause-most
returns-clause-most c =
    let few = count_small c.args.song.now c.requires.limits in
    let count = c.playable_count-subtune-end.ensures in
    let most = c.loop-subtune.auto.subtune-end in
    few_subtunes_taken c.loop-subtune.invariant (omega (arith, few, count, most))
