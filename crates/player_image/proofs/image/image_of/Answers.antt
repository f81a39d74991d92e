-- The listing is assembled, and is an image.
use Rattle.std.proofs.Common.{Result, Ok, Err}
use Rattle.std.specs.Prelude.{IfOk}
use Rattle.player_image.proofs.Assembled.{few_lines, few_bytes, nothing_wrong, image_is, size_here}
use Rattle.player_image.proofs.image.image_of.Goals as goal

-- what comes of the value, where there is one
if_ok : {X E : Type 0} {P Q : X → Type 0} (result : Result X E) → ((x : X) → P x → Q x) →
    IfOk result P → IfOk result Q
if_ok (Ok x) more holds = more x holds
if_ok (Err e) more holds = tt

pub assembled-requires-clause-lines : goal.assembled-requires-clause-lines
assembled-requires-clause-lines c =
    few_lines c.args.packed.now c.args.options.now c.args.origin c.args.zero_page c.keep_limits.ensures.speed
    c.keep_limits.ensures.counts c.requires.low c.requires.high c.requires.fits c.in_ok-listing.listing
    c.in_ok-listing.ensures

pub assembled-requires-clause-bytes : goal.assembled-requires-clause-bytes
assembled-requires-clause-bytes c =
    few_bytes c.args.packed.now c.args.options.now c.args.origin c.args.zero_page c.keep_limits.ensures.speed
    c.keep_limits.ensures.counts c.requires.low c.requires.high c.requires.fits c.in_ok-listing.listing
    c.in_ok-listing.ensures

pub assembled-requires-clause-right : goal.assembled-requires-clause-right
assembled-requires-clause-right c =
    nothing_wrong c.args.packed.now c.args.options.now c.args.origin c.args.zero_page c.keep_limits.ensures.speed
    c.keep_limits.ensures.counts c.requires.low c.requires.high c.requires.fits c.in_ok-listing.listing
    c.in_ok-listing.ensures

pub returns-clause-image : goal.returns-clause-image
returns-clause-image c =
    if_ok c.assembled.result
    (λ bytes are.
    image_is c.args.packed.now c.args.options.now c.args.origin c.args.zero_page c.keep_limits.ensures.speed
    c.keep_limits.ensures.counts c.requires.low c.requires.high c.requires.fits c.in_ok-listing.listing
    c.in_ok-listing.ensures bytes are)
    c.assembled.ensures.bytes

pub returns-clause-size : goal.returns-clause-size
returns-clause-size c =
    if_ok c.assembled.result
    (λ bytes size.
    size_here c.args.packed.now c.args.options.now c.args.origin c.args.zero_page c.keep_limits.ensures.speed
    c.keep_limits.ensures.counts c.requires.low c.requires.high c.requires.fits c.in_ok-listing.listing
    c.in_ok-listing.ensures bytes size)
    c.assembled.ensures.size
