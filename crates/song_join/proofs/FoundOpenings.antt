-- The opening rows of patterns, one pattern after the other.
use Rattle.std.proofs.Common.{◌≡◌, ◌≢◌, ℕ, ◌+◌, ◌<◌, ◌≤◌, List, [], length, get_or, set}
use Rattle.std.proofs.Common.{replicate, refl, ◌∙◌, inl, inr, arith, get_or-set_other, get_or-set_same}
use Rattle.std.specs.Prelude.{Option, None}
use Rattle.std.proofs.lemmas.Bool.{cases_lt, cases_eq}
use Rattle.std.proofs.lemmas.List.{get_or_past, length-replicate}
use Rattle.std.proofs.Math.ListN.{length-set}
use Rattle.base.proofs.Laws.{get_or-replicate_any}
use Rattle.song_model.specs.declared.rows.Row.{Row}
use Rattle.song_model.specs.declared.songs.Song.{Song}
use Rattle.song_model.specs.LookUp.{pattern_at}
use Rattle.song_join.specs.Openings.{opening}
use Rattle.song_join.specs.Parts.{AreOpenings}

-- those of the first patterns are found, and no others
pub record AreOpeningsBelow (patterns : List (List Row)) (openings : List (Option Row)) (i : ℕ) : Type 0 where
  pub found : (n : ℕ) → n < i → get_or openings n None ≡ opening (get_or patterns n [])
  pub left : (n : ℕ) → i ≤ n → get_or openings n None ≡ None
  pub long : length openings ≡ 208

pub openings_at_first : (patterns : List (List Row)) → AreOpeningsBelow patterns (replicate 208 None) 0
openings_at_first patterns = record {
  found = λ n low. absurd (omega arith);
  left = λ n high. get_or-replicate_any 208 n None;
  long = length-replicate {A = Option Row} 208 None;
}

pub openings_more : (patterns : List (List Row)) (openings : List (Option Row)) (i : ℕ) (row : Option Row) →
    i < 208 → AreOpeningsBelow patterns openings i → row ≡ opening (get_or patterns i []) →
    AreOpeningsBelow patterns (set openings i row) (i + 1)
openings_more patterns openings i row small below is =
    let long = below.long in
    let inside : i < length openings = omega arith in
    record {
      found = λ n low. elim (cases_eq n i) [
        | inl here ↦ rw here (rw (get_or-set_same openings i row None) is)
        | inr other ↦ rw (get_or-set_other openings i n row None) (below.found n (omega arith))
      ];
      left = λ n high. let other : n ≢ i = omega arith in rw (get_or-set_other openings i n row None) (below.left n (omega arith));
      long = length-set openings i row ∙ below.long;
    }

pub all_openings : (song : Song) (openings : List (Option Row)) (i : ℕ) → length song.patterns ≤ i →
    AreOpeningsBelow song.patterns openings i → AreOpenings song openings
unfolding pattern_at
all_openings song openings i end below = record {
  each = λ n. elim (cases_lt n i) [
    | inl there ↦ below.found n there
    | inr past ↦ (
        let nothing : get_or song.patterns n [] ≡ [] = get_or_past song.patterns n [] (omega arith) in
        below.left n past ∙ rw nothing refl)
  ];
}
