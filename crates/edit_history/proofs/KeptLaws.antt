-- What a session keeps: edits that come and go at the end of its lists.
use Rattle.std.proofs.Common.{◌≡◌, List, [], ◌∷◌, ◌++◌, Result, Ok, Err, Some, refl, sym, ap}
use Rattle.song_model.specs.declared.songs.Song.{Song}
use Rattle.edit_ops.specs.declared.edits.Edit.{Edit}
use Rattle.edit_ops.specs.declared.edits.EditFault.{EditFault}
use Rattle.edit_ops.specs.Edits.{edited}
use Rattle.edit_ops.specs.Back.{back}
use Rattle.edit_history.specs.declared.done.Done.{Done}
use Rattle.edit_history.specs.History.{goes_on, song_after}
use Rattle.edit_history.specs.Kept.{unwound, edits_of, Stands, CanFollow}

-- ---- edits that stand

pub stands_push : (first mid song : Song) (dones : List Done) (done : Done) → Stands first dones mid →
    edited mid done.edit ≡ Ok song → back song done.inverse ≡ Some mid → Stands first (dones ++ done ∷ []) song
unfolding Stands
stands_push first mid song [] done is e b = (song, rw is e, rw is b, refl)
stands_push first mid song (d ∷ dones) done s e b =
    (s.0, s.1, s.2, stands_push s.0 mid song dones done s.3 e b)

pub record LastStands (first : Song) (dones : List Done) (done : Done) (song : Song) : Type 0 where
  pub before : Song
  pub stands : Stands first dones before
  pub edit : edited before done.edit ≡ Ok song
  pub back_is : back song done.inverse ≡ Some before

pub stands_pop : (first song : Song) (dones : List Done) (done : Done) → Stands first (dones ++ done ∷ []) song →
    LastStands first dones done song
unfolding Stands
stands_pop first song [] done s =
    record { before = first; stands = refl; edit = rw (sym s.3) s.1; back_is = rw (sym s.3) s.2 }
stands_pop first song (d ∷ dones) done s =
    let last = stands_pop s.0 song dones done s.3 in
    record { before = last.before; stands = (s.0, s.1, s.2, last.stands); edit = last.edit; back_is = last.back_is }

pub unwound_is : (first song : Song) (dones : List Done) → Stands first dones song → unwound song dones ≡ first
unfolding Stands
unwound_is first song [] s = sym s
unwound_is first song (d ∷ dones) s =
    let next : unwound song dones ≡ s.0 = unwound_is s.0 song dones s.3 in
    rw (next, s.2) refl

pub stands_unwound : (first song : Song) (dones : List Done) → Stands first dones song → Stands (unwound song dones)
    dones song
stands_unwound first song dones s = rw (unwound_is first song dones s) s

-- ---- the song that they give

pub song_is : (first song : Song) (dones : List Done) → Stands first dones song → song_after first
    (edits_of dones) ≡ Ok song
unfolding Stands
song_is first song [] s = ap Ok s
song_is first song (d ∷ dones) s = rw s.1 (song_is s.0 song dones s.3)

stops : (r : Result Song EditFault) → goes_on r (λ next. Ok next) ≡ r
stops (Ok song) = refl
stops (Err fault) = refl

goes_further : (r : Result Song EditFault) (f g : Song → Result Song EditFault) (song : Song)
    (end : Result Song EditFault) →
    ((next : Song) → f next ≡ Ok song → g next ≡ end) → goes_on r f ≡ Ok song → goes_on r g ≡ end
goes_further (Ok next) f g song end further e = further next e
goes_further (Err fault) f g song end further e = absurd (cc)

pub song_push : (first song : Song) (edits : List Edit) (edit : Edit) → song_after first edits ≡ Ok song →
    song_after first (edits ++ edit ∷ []) ≡ edited song edit
song_push first song [] edit e =
    let same : first ≡ song = cc in
    rw same (stops (edited song edit))
song_push first song (before ∷ edits) edit e =
    goes_further (edited first before) (λ next. song_after next edits)
    (λ next. song_after next (edits ++ edit ∷ [])) song (edited song edit)
    (λ next is. song_push next song edits edit is) e

-- ---- edits that can be redone

pub follow_push : (before song end : Song) (dones : List Done) (done : Done) → CanFollow song dones end →
    edited before done.edit ≡ Ok song → back before done.inverse ≡ Some song → CanFollow before (dones ++ done ∷ []) end
unfolding CanFollow
follow_push before song end [] done is e b = (before, refl, rw (sym is) e, rw (sym is) b)
follow_push before song end (d ∷ dones) done f e b =
    (f.0, follow_push before song f.0 dones done f.1 e b, f.2, f.3)

pub record NextFollows (song : Song) (dones : List Done) (done : Done) (end : Song) : Type 0 where
  pub next : Song
  pub follows : CanFollow next dones end
  pub edit : edited song done.edit ≡ Ok next
  pub back_is : back song done.inverse ≡ Some next

pub follow_pop : (song end : Song) (dones : List Done) (done : Done) → CanFollow song (dones ++ done ∷ []) end →
    NextFollows song dones done end
unfolding CanFollow
follow_pop song end [] done f = record { next = end; follows = refl; edit = rw f.1 f.2; back_is = rw f.1 f.3 }
follow_pop song end (d ∷ dones) done f =
    let n = follow_pop song f.0 dones done f.1 in
    record { next = n.next; follows = (f.0, n.follows, f.2, f.3); edit = n.edit; back_is = n.back_is }
