use Rattle.std.proofs.Common.{◌≡◌, List, map, length, slice_index, refl, sym, ◌∙◌, ap}
use Rattle.song_model.specs.declared.rows.Row.{Row}
use Rattle.song_model.specs.LookUp.{pattern_at}
use Rattle.packed_form.specs.PackedText.{packed_text}
use Rattle.song_pack.specs.Numbers.{row_of, numbered_row}
use Rattle.song_pack.specs.Texts.{text_under}
use Rattle.song_pack.proofs.patterns.packed_pattern.Goals as goal

pub returns-clause-fault : goal.returns-clause-fault
unfolding text_under
returns-clause-fault c =
    let made = numbered_row (row_of c.args.numbers.now) (slice_index c.args.instruments.now) in
    let rows : c.in_ok-numbered.numbered ≡ map made (pattern_at c.args.song.now c.args.p) =
    c.in_ok-numbered.ensures ∙ ap (map made) c.in-Some.ensures.some in
    let long = (c.in-Err.ensures.too_long c.in-Err.long.length).0 refl in
    (refl, ap (λ (r : List Row). length (packed_text r)) (sym rows) ∙ long.0, long.1)
