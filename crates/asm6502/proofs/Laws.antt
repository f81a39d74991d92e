-- What upper crates may cite of the proofs of this crate.

-- instructions and their bytes, and how far a branch goes
pub use Rattle.asm6502.proofs.Rounds.{what_is_encoded_decodes, nothing_else_decodes}
pub use Rattle.asm6502.proofs.Reaches.{branches_reach, far_is_out_of_reach, branches_keep_distance}
pub use Rattle.asm6502.proofs.Reaches.{branches_reach_after, branches_reach_before}
-- kept lines, their sizes and the places of labels, one list after another
pub use Rattle.asm6502.proofs.Naming.{kept-append, kept_more, kept_same, size_of-append, place_of-append}
pub use Rattle.asm6502.proofs.Parts.{part_size-append, parts_add_up, parts_stand_together}
-- lines that stand
pub use Rattle.asm6502.proofs.Standing.{fronts_stand, backs_stand, both_stand, lines_stay, bytes_append}
pub use Rattle.asm6502.proofs.Whole.{assembled_lines_stand}
pub use Rattle.asm6502.proofs.Stretches.{stretches_stand}
-- what passes in any listing, and where its labels are
pub use Rattle.asm6502.proofs.Home.{names_append, names_split, homes_append, homes_grow, home_at, stretches_pass}
pub use Rattle.asm6502.proofs.Home.{passed_listings_assemble, label_stands, labels_stand_where_named}
pub use Rattle.asm6502.proofs.Found.{first_is_first, none_found, all_passed}
