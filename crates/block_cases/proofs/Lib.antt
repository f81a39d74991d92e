-- Lines in good form, as the code reads them.
mod Leading
mod Reading
-- What is around the lines that are left.
mod Going
