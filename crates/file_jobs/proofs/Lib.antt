-- What the parts of a run come to.
mod Edited
mod Joining
mod Listed
mod Room
mod Showing
