use Rattle.jobs.proofs.Costs.{costs_are_the_images}
use Rattle.jobs.proofs.claims.costs_are_the_images.Goals as goal

pub returns : goal.returns
returns c = costs_are_the_images
