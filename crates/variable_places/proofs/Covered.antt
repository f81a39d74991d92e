-- The lines of the player that name a label stand under one of the conditions that its row lists, so that where they
-- are kept it has a byte.
use Rattle.std.proofs.Common.{◌≡◌, ℕ, [], true, refl}
use Rattle.player_text.specs.declared.texts.Start.{Start}
use Rattle.player_text.specs.Texts.{filter_tree, voice_tree, init_tree}
use Rattle.narrow_runs.specs.Named.{are_covered}
use Rattle.narrow_runs.proofs.Laws.{named_labels_stand}
use Rattle.variable_places.specs.Places.{voice_rows, shared_rows, asks, has_byte}
use Rattle.variable_places.specs.PlaceLaws.{NamedHaveBytes}

filter_is_covered : are_covered asks [] filter_tree ≡ true
unfolding voice_rows shared_rows asks
filter_is_covered = refl

voice_is_covered : are_covered asks [] voice_tree ≡ true
unfolding voice_rows shared_rows asks
voice_is_covered = refl

init_is_covered : (start : Start) (variables : ℕ) → are_covered asks [] (init_tree start variables) ≡ true
unfolding voice_rows shared_rows asks
init_is_covered start variables = refl

pub named_have_bytes : NamedHaveBytes
unfolding has_byte
named_have_bytes holds start variables label = (
  λ named. named_labels_stand asks holds filter_tree label filter_is_covered named,
  λ named. named_labels_stand asks holds voice_tree label voice_is_covered named,
  λ named. named_labels_stand asks holds (init_tree start variables) label (init_is_covered start variables) named,
)
