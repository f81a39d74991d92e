-- The lines are those of the packed song's lists.
use Rattle.std.proofs.Common.{◌≡◌, ℕ, ◌+◌, ◌≤◌, Bool, List, All, length, ap, sym, ◌∙◌, subst}
use Rattle.std.specs.Prelude.{IsPermutation}
use Rattle.std.specs.List.Sorted.{IsNonDecreasingBy}
use Rattle.std.proofs.lemmas.List.Elements.{All-same}
use Rattle.std.proofs.lemmas.List.Sorted.{All-permutation}
use Rattle.std.proofs.lemmas.Result.{IfOk-weaker}
use Rattle.packed_form.specs.declared.packed_songs.PackedSong.{PackedSong}
use Rattle.asm6502.specs.declared.lines.Line.{Line}
use Rattle.song_lists.specs.declared.marks.Mark.{Mark}
use Rattle.song_lists.specs.Marks.{marked}
use Rattle.song_lists.specs.DataLists.{order_places, pattern_places, data_bytes, data_marks, HasLines}
use Rattle.song_lists.proofs.DataPlaces.{order_addresses_fit, pattern_addresses_fit, places_within}
use Rattle.song_lists.proofs.DataPlaces.{order_places_begin, pattern_places_begin}
use Rattle.song_lists.proofs.listing.data_listing.Goals as goal

pub data_bytes-requires-clause-order_addresses : goal.data_bytes-requires-clause-order_addresses
data_bytes-requires-clause-order_addresses c =
    All-same (λ place. c.args.start + place ≤ 65535) c.as_slice.result.now
    (order_places c.args.dependent c.args.packed.now)
    (c.as_slice.ensures ∙ c.in_ok-orders.ensures.orders)
    (order_addresses_fit c.args.dependent c.args.packed.now c.args.start c.requires)

pub data_bytes-requires-clause-pattern_addresses : goal.data_bytes-requires-clause-pattern_addresses
data_bytes-requires-clause-pattern_addresses c =
    All-same (λ place. c.args.start + place ≤ 65535) c.as_slice-2.result.now
    (pattern_places c.args.dependent c.args.packed.now)
    (c.as_slice-2.ensures ∙ c.in_ok-orders.ensures.patterns)
    (pattern_addresses_fit c.args.dependent c.args.packed.now c.args.start c.requires)

pub data_bytes-requires-clause-order_places : goal.data_bytes-requires-clause-order_places
data_bytes-requires-clause-order_places c =
    All-same (λ place. 0 ≤ place) c.as_slice.result.now (order_places c.args.dependent c.args.packed.now)
    (c.as_slice.ensures ∙ c.in_ok-orders.ensures.orders) (order_places_begin c.args.dependent c.args.packed.now)

pub data_bytes-requires-clause-pattern_places : goal.data_bytes-requires-clause-pattern_places
data_bytes-requires-clause-pattern_places c =
    All-same (λ place. 1 ≤ place) c.as_slice-2.result.now (pattern_places c.args.dependent c.args.packed.now)
    (c.as_slice-2.ensures ∙ c.in_ok-orders.ensures.patterns) (pattern_places_begin c.args.dependent c.args.packed.now)

-- the marks in another order are none behind the last byte
sorted_within : (dependent : Bool) (packed : PackedSong) (start : ℕ) (marks sorted : List Mark) (bytes : List ℕ) →
    marks ≡ data_marks dependent packed → IsPermutation marks sorted → bytes ≡ data_bytes dependent packed start →
    All (λ (mark : Mark). mark.place ≤ length bytes) sorted
sorted_within dependent packed start marks sorted bytes are same is =
    subst (λ (bs : List ℕ). All (λ (mark : Mark). mark.place ≤ length bs) sorted) (sym is)
    (All-permutation (λ (mark : Mark). mark.place ≤ length (data_bytes dependent packed start)) marks sorted same
    (All-same (λ (mark : Mark). mark.place ≤ length (data_bytes dependent packed start)) marks
    (data_marks dependent packed) are
    (places_within dependent packed start)))

pub cut-requires-clause-within : goal.cut-requires-clause-within
cut-requires-clause-within c =
    All-same (λ (mark : Mark). mark.place ≤ length c.as_slice-3.result.now) c.as_slice-4.result.now c.in_ok-marks.marks
    c.as_slice-4.ensures
    (sorted_within c.args.dependent c.args.packed.now c.args.start c.in_ok-data_marks.field-0 c.in_ok-marks.marks
    c.as_slice-3.result.now
    c.in_ok-data_marks.ensures c.in_ok-marks.ensures.same (c.as_slice-3.ensures ∙ c.in_ok-bytes.ensures))

has_lines : (dependent : Bool) (packed : PackedSong) (start : ℕ) (marks sorted : List Mark) (bytes : List ℕ)
    (lines : List Line) →
    marks ≡ data_marks dependent packed → IsPermutation marks sorted → IsNonDecreasingBy (λ mark. mark.place) sorted →
    bytes ≡ data_bytes dependent packed start → lines ≡ marked 0 sorted bytes → HasLines dependent packed start lines
has_lines dependent packed start marks sorted bytes lines are same rise is cut = record {
  marks = sorted;
  same = subst (λ (ms : List Mark). IsPermutation ms sorted) are same;
  rise = rise;
  are = cut ∙ ap (marked 0 sorted) is;
}

pub returns : goal.returns
returns c =
    IfOk-weaker c.cut.result (λ lines. lines ≡ marked 0 c.as_slice-4.result.now c.as_slice-3.result.now)
    (HasLines c.args.dependent c.args.packed.now c.args.start)
    (λ lines cut.
    has_lines c.args.dependent c.args.packed.now c.args.start c.in_ok-data_marks.field-0 c.in_ok-marks.marks
    c.as_slice-3.result.now lines
    c.in_ok-data_marks.ensures c.in_ok-marks.ensures.same c.in_ok-marks.ensures.rise
    (c.as_slice-3.ensures ∙ c.in_ok-bytes.ensures)
    (cut ∙ ap (λ (marks : List Mark). marked 0 marks c.as_slice-3.result.now) c.as_slice-4.ensures))
    c.cut.ensures
