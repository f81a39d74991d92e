-- A voice that has taken a row, and moved on, stands for the fetch of that row.
use Rattle.std.proofs.Common.{◌≡◌, ℕ, ◌+◌, List, length, refl, ◌∙◌, ap, subst}
use Rattle.song_model.specs.declared.rows.Row.{Row}
use Rattle.song_model.specs.declared.orders.Order.{Order}
use Rattle.song_model.specs.declared.orders.OrderPlace.{OrderPlace}
use Rattle.song_model.specs.declared.orders.Step.{Step}
use Rattle.song_model.specs.Walk.{played}
use Rattle.song_model.specs.Places.{place_of}
use Rattle.song_model.specs.LookUp.{pattern_row}
use Rattle.play_model.specs.declared.states.VoiceState.{VoiceState}
use Rattle.play_model.specs.State.{Voice}
use Rattle.play_model.specs.LookUps.{LookUps}
use Rattle.play_model.specs.StandsFor.{voice_after, VoiceStandsFor}
use Rattle.play_model.specs.FetchRow.{row_done, row_moved, fetched_from, fetch_row}

-- a voice stands for itself, with the plays whose place it has
own : (order : Order) (state : VoiceState) (plays : ℕ) → state.place ≡ place_of order plays →
    VoiceStandsFor order state (voice_after plays state)
own order state plays e = record { place = e; rest = refl }

pub fetched_lem : (look : LookUps) (order : Order) (v : Voice) (old done new : VoiceState) (next : OrderPlace)
    (play : Step) (rows : List Row) (row : Row) →
    VoiceStandsFor order old v → play ≡ played order v.plays → rows ≡ look.rows play.pattern →
    row ≡ pattern_row rows old.row →
    ((plays : ℕ) → voice_after plays done ≡ row_done look row play.transpose (voice_after plays old)) →
    done.place ≡ old.place → next ≡ place_of order (v.plays + 1) →
    ((w : Voice) → VoiceStandsFor order done w → next ≡ place_of order (w.plays + 1) →
    VoiceStandsFor order new (row_moved (length rows) w)) →
    VoiceStandsFor order new (fetch_row look order v)
unfolding fetch_row
fetched_lem look order v old done new next play rows row stands play_is rows_is row_is rule place next_is law =
    let was = voice_after v.plays old in
    let moved = law (voice_after v.plays done) (own order done v.plays (place ∙ stands.place)) next_is in
    let P : Voice → Type 0 = λ w. VoiceStandsFor order new (row_moved (length rows) w) in
    let Q : Voice → Type 0 = λ w. VoiceStandsFor order new (fetched_from look rows play.transpose w) in
    let done_is : voice_after v.plays done ≡ row_done look row play.transpose was = rule v.plays in
    let at_row = subst P (done_is ∙ ap (λ (r : Row). row_done look r play.transpose was) row_is) moved in
    let at_voice = subst Q stands.rest at_row in
    let R : Step → Type 0 = λ p. VoiceStandsFor order new (fetched_from look (look.rows p.pattern) p.transpose v) in
    let S : List Row → Type 0 = λ l. VoiceStandsFor order new (fetched_from look l play.transpose v) in
    subst R play_is (subst S rows_is at_voice)
