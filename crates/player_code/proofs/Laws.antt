-- What upper crates may cite of the proofs of this crate.

-- the listing of an image assembles, its labels are in place, and its entrances are well entered
pub use Rattle.player_code.proofs.Whole.{code_assembles, entrances_are_in_one_listing, labels_stand_in_place}
pub use Rattle.player_code.proofs.Whole.{code_is_well_entered, size_is, listed_ends}
-- all lines of the code, and of the variables, are kept
pub use Rattle.player_code.proofs.Whole.{code_kept}
pub use Rattle.player_code.proofs.Sizes.{front_size}
pub use Rattle.player_code.proofs.Variables.{variables_kept, variables_size, names_kept, names_size}
-- all lines of an image are kept; those of the code are few
pub use Rattle.player_code.proofs.Whole.{kept_is}
pub use Rattle.player_code.proofs.CodeCounts.{code_is_few, data_append}
-- the code of both stands in a memory with its bytes
pub use Rattle.player_code.proofs.Stands.{assembled_code_stands, fewer}
-- the lines that begin a subtune are a block
pub use Rattle.player_code.proofs.Fits.{init_is_block}
-- how many bytes the code takes
pub use Rattle.player_code.proofs.CodeSizes.{code_takes_its_blocks}
pub use Rattle.player_code.proofs.WorkedCode.{code_is_measured}
