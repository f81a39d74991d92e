-- What the parts of a run come to.
mod Room
mod Telling
mod Drawing
