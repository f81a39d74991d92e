-- One list more.
use Rattle.std.proofs.Common.{◌≡◌, ℕ, ◌+◌, ◌*◌, ◌≤◌, sym, ap, ◌∙◌, arith}
use Rattle.std.proofs.lemmas.List.{append-nil}
use Rattle.player_memory.specs.declared.labels.TheConstants.{ADS}
use Rattle.player_memory.specs.SongLists.{Instruments}
use Rattle.song_lists.specs.declared.marks.Mark.{Mark}
use Rattle.song_lists.specs.Marks.{mark_at}
use Rattle.song_lists.specs.DataLists.{own_mark}
use Rattle.song_lists.proofs.ByteSteps.{more_made}
use Rattle.song_lists.proofs.Lists.{field_sums, field_more}
use Rattle.song_lists.proofs.labels.push_instrument_marks.Goals as goal

same_mark : (label place place' : ℕ) (mark : Mark) → mark ≡ mark_at label place → place ≡ place' →
    mark ≡ mark_at label place'
same_mark label place place' mark is e = is ∙ ap (mark_at label) e

-- the first list stands at the place of the instruments
at_first : (place before : ℕ) → before ≡ 0 → place ≡ place + before
at_first place before none = omega (arith, none)

-- and the next one behind it
at_next : (here front before size its after : ℕ) → here ≡ front + before → size ≡ its → after ≡ before + its →
    here + size ≡ front + after
at_next here front before size its after one two three = omega (arith, one, two, three)

-- within a few bytes a field
few_more : (place size field : ℕ) → place ≤ 2809 + 63 * field → size ≤ 63 → place + size ≤ 2809 + 63 * (field + 1)
few_more place size field most few = omega (arith, most, few)

pub loop-field-init : goal.loop-field-init
loop-field-init c =
    let most = c.instruments_place-place.ensures.most in (
      sym (append-nil c.args.marks.now),
      (
        c.instruments_place-place.ensures.place ∙ at_first _ _ (field_sums c.args.packed.now).none,
        omega (arith, most),
      ),
    )

pub loop-field-preserved : goal.loop-field-preserved
loop-field-preserved c = (
  more_made (λ field. own_mark c.args.dependent c.args.packed.now (Instruments field)) c.args.marks.now
      c.loop-field.marks c.push.new.self c.loop-field.field c.mark_at.result c.loop-field.invariant.0
      c.in_ok-push.ensures.ok
      (same_mark (ADS + c.loop-field.field) c.loop-field.place _ c.mark_at.result c.mark_at.ensures
      c.loop-field.invariant.1.0),
  (
    at_next c.loop-field.place _ _ c.field_size-place.result _ _ c.loop-field.invariant.1.0
        c.field_size-place.ensures.size (field_more c.args.packed.now c.loop-field.field),
    few_more c.loop-field.place c.field_size-place.result c.loop-field.field c.loop-field.invariant.1.1
        c.field_size-place.ensures.most,
  ),
)
