-- What the parts of a run come to.
mod Bounding
mod Costs
mod Room
