-- What a session keeps in place of its history: the song as it is now, and each edit with the inverse that leads over
-- it.
use Rattle.std.specs.Prelude.{◌≡◌, ◌+◌, ◌≤◌, List, [], ◌∷◌, map, Ok, Some, unwrap_or, vec_len, vec_capacity}
use Rattle.std.specs.Global.{Vec}
use Rattle.song_model.specs.declared.songs.Song.{Song}
use Rattle.edit_ops.specs.declared.edits.Edit.{Edit}
use Rattle.edit_ops.specs.Edits.{edited}
use Rattle.edit_ops.specs.Back.{back}
use Rattle.edit_history.specs.declared.done.Done.{Done}
use Rattle.edit_history.specs.History.{History}

-- the song before these edits: their inverses applied from the last to the first
abbrev pub unwound : Song → List Done → Song
unwound song [] = song
unwound song (done ∷ dones) = unwrap_or (back (unwound song dones) done.inverse) (unwound song dones)

abbrev pub edits_of : List Done → List Edit
edits_of dones = map (λ done. done.edit) dones

abbrev pub history_kept : Song → List Done → List Done → History
history_kept song standing undone = record {
  first = unwound song standing;
  standing = edits_of standing;
  undone = edits_of undone;
}

-- each of these edits can be done, from the first song on, and its inverse leads back; the last leads to the song
unfoldable pub Stands : Song → List Done → Song → Type 0
Stands first [] song = first ≡ song
Stands first (done ∷ dones) song =
    (next : Song) × (edited first done.edit ≡ Ok next) × (back next done.inverse ≡ Some first) × Stands next dones song

-- each of these edits can be done, from the last one on, and its inverse leads there; the first leads to the end
unfoldable pub CanFollow : Song → List Done → Song → Type 0
CanFollow song [] end = song ≡ end
CanFollow song (done ∷ dones) end =
    (before : Song) × CanFollow song dones before × (edited before done.edit ≡ Ok end)
    × (back before done.inverse ≡ Some end)

-- there is room for all edits in both lists
pub record IsKept (song : Song) (standing undone : Vec Done) : Type 0 where
  pub stands : Stands (unwound song standing.items) standing.items song
  pub end : Song
  pub follows : CanFollow song undone.items end
  pub standing_room : vec_len standing + vec_len undone ≤ vec_capacity standing
  pub undone_room : vec_len standing + vec_len undone ≤ vec_capacity undone
