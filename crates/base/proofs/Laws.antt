-- The lemmas that upper crates may cite. Look in std first (`rt lemma`): what stands here, std doesn't have.

-- numbers: halves of words, rests, and places beside a stretch
pub use Rattle.base.proofs.Numbers.{half_small, word_small, and_small, one_if_small, outside, mod_goes_on, mod_goes_round}
-- a value that may be there
pub use Rattle.base.proofs.Options.{some_of, same_some, or_first, or_none}
-- lists: their parts, their ends, and what stands in them
pub use Rattle.base.proofs.Lists.{same_head, same_tail, nil_is_no_append, split_append, some_append_left}
pub use Rattle.base.proofs.Lists.{some_append_right, first_of_append, first_of_rest, first_after_all, regroup3}
pub use Rattle.base.proofs.Lists.{regroup4, regroup6, drop_past, All-append_right, All-get_or_any, get_or-replicate_any}
pub use Rattle.base.proofs.Lists.{drop-replicate_add, set-append_add, length-flat_map-le, length-flat_map-same}
pub use Rattle.base.proofs.Lists.{InFront, InBack, front_or_back}
-- what holds of some item, one item more at a time, and what a filter keeps
pub use Rattle.base.proofs.SomeItem.{any_of_push, any_left, any_last, none_of_nil, any_of_more, any_more}
pub use Rattle.base.proofs.SomeItem.{any_from_contains, contains_from_any, filter_keeps, filter_of, contains_map}
-- the first item that isn't as it must be
pub use Rattle.base.proofs.FirstBad.{none_bad, same_first_bad}
