-- What a song asks of its player is one set.
use Rattle.std.proofs.Common.{◌≡◌, ℕ, sym, ap, ◌∙◌}
use Rattle.song_model.specs.declared.songs.Song.{Song}
use Rattle.usage.proofs.Laws.{one_features, one_facts}
use Rattle.kept_lines.specs.Asked.{asked, Asks}

pub one_asked : (song : Song) (a b : ℕ) → Asks song a → Asks song b → a ≡ b
one_asked song a b p q =
    p.is
    ∙ (ap (λ features. asked features p.facts) (one_features song p.features q.features p.are_features q.are_features)
    ∙ (ap (asked q.features) (one_facts song p.facts q.facts p.are_facts q.are_facts) ∙ sym q.is))
