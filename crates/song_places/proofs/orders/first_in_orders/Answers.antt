use Rattle.std.proofs.Common.{◌≡◌, ℕ, ◌+◌, ◌<◌, List, length, get_or, slice_get, Some, sym, ◌∙◌, ap, subst}
use Rattle.std.proofs.lemmas.Option.{slice_get-get_or}
use Rattle.song_model.specs.declared.orders.Subtune.{Subtune}
use Rattle.song_places.specs.Search.{meant, IsKnown}
use Rattle.song_places.proofs.OrderPlaces.{none_before, first_subtune, subtune_passed, subtunes_end}
use Rattle.song_places.proofs.SeveralSubtunes.{none_behind, next_behind, still_behind}
use Rattle.song_places.proofs.orders.first_in_orders.Goals as goal
use Rattle.song_places.proofs.orders.first_in_orders.Goals.{then-is_playable, else-is_playable}

pub loop-i-init : goal.loop-i-init
loop-i-init c = record {
  none = none_before c.args.song.now (meant c.args.song.now c.args.wanted);
  known = record { behind = none_behind c.args.song.now; heard = c.heard_for.ensures };
}

pub returns-in-Some-clause-found : goal.returns-in-Some-clause-found
returns-in-Some-clause-found c =
    first_subtune c.args.song.now (meant c.args.song.now c.args.wanted) c.loop-i.i c.in-Some.place
    c.loop-i.invariant.none c.in-Some.ensures.found

-- the subtune is the one of the song at this place
stands : (subtunes all : List Subtune) (i : ℕ) (subtune : Subtune) → subtunes ≡ all → i < length subtunes →
    subtune ≡ get_or subtunes i subtune → slice_get all i ≡ Some subtune
stands subtunes all i subtune same inside is =
    ap (λ (xs : List Subtune). slice_get xs i) (sym same) ∙ slice_get-get_or subtunes i subtune inside
    ∙ ap (λ (s : Subtune). Some s) (sym is)

pub loop-i-preserved : goal.loop-i-preserved
loop-i-preserved c =
    let song = c.args.song.now in
    let i = c.loop-i.i in
    let subtune = c.index-subtunes-i.result in
    let there : slice_get song.subtunes i ≡ Some subtune =
    stands c.as_slice-subtunes.result.now song.subtunes i subtune c.as_slice-subtunes.ensures.items c.loop-i-test.true
    c.index-subtunes-i.is in
    let next = IsKnown song c.args.wanted (i + 1 + 1) in
    let so_far = c.loop-i.invariant.known in
    record {
      none = subtune_passed song (meant song c.args.wanted) i c.loop-i.invariant.none c.in_default.ensures.none;
      known = elim c.if-is_playable.branch [
        | then-is_playable w ↦
            subst next (sym w.known-is) (record {
              behind = next_behind song i subtune there (sym c.is_playable.ensures ∙ w.if-is_playable.true);
              heard = so_far.heard;
            })
        | else-is_playable w ↦
            subst next (sym w.known-is) (record {
              behind = still_behind song i subtune c.loop-i.known.behind there
                  (sym c.is_playable.ensures ∙ w.if-is_playable.false) so_far.behind;
              heard = so_far.heard;
            })
      ];
    }

pub returns-clause-none : goal.returns-clause-none
returns-clause-none c =
    subtunes_end c.args.song.now (meant c.args.song.now c.args.wanted) c.loop-i.i
    (rw c.as_slice-subtunes.ensures.items at c.loop-i-test.false) c.loop-i.invariant.none
