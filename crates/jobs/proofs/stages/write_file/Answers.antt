use Rattle.jobs.proofs.stages.write_file.Goals as goal

pub returns : goal.returns
returns g c = c.write_and_tell.ensures _ c.says-told.ensures
