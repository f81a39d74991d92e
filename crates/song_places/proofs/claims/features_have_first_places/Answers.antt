use Rattle.song_places.proofs.FeaturePlaces.{features_are_needed}
use Rattle.song_places.proofs.OnePlace.{first_places_are_one}
use Rattle.song_places.proofs.FactPlaces.{facts_are_needed}
use Rattle.song_places.proofs.KeptParts.{parts_are_needed, own_places_are_first, fact_places_are_first}
use Rattle.song_places.proofs.claims.features_have_first_places.Goals as goal

pub returns : goal.returns
returns c =
    record {
      needed = features_are_needed;
      facts = facts_are_needed;
      parts = parts_are_needed;
      own = own_places_are_first;
      own_facts = fact_places_are_first;
      one = first_places_are_one;
    }
