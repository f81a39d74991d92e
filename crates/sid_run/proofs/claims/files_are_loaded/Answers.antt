use Rattle.sid_run.proofs.Images.{image_stands, elsewhere_is_zero, loaded_is_machine}
use Rattle.sid_run.proofs.claims.files_are_loaded.Goals as goal

pub returns-clause-image : goal.returns-clause-image
returns-clause-image c = image_stands

pub returns-clause-machine : goal.returns-clause-machine
returns-clause-machine c = loaded_is_machine

pub returns-clause-elsewhere : goal.returns-clause-elsewhere
returns-clause-elsewhere c = elsewhere_is_zero
