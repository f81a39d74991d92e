use Rattle.std.proofs.Common.{ap, sym, ◌∙◌}
use Rattle.edit_history.specs.History.{song_of}
use Rattle.edit_history.proofs.SessionLaws.{kept_song}
use Rattle.edit_history.proofs.session.Session.into_song.Goals as goal

pub returns : goal.returns
returns c =
    let kept = c.self.inside in
    ap song_of (sym c.self.view_is) ∙ kept_song kept.song kept.standing kept.undone c.self.invariant
