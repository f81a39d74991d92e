use Rattle.song_places.proofs.needs.orders_give_fact.Goals as goal

pub returns-in-Subtunes : goal.returns-in-Subtunes
returns-in-Subtunes c = λ song s known. rw c.in-Subtunes.is known.behind
