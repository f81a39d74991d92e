-- The used parts of a song, from all that is found of it.
use Rattle.std.proofs.Common.{◌≡◌, ℕ, ◌<◌, ◌≤◌, Bool, false, List, length, take, sym, ◌∙◌, inl}
use Rattle.std.proofs.Common.{inr, arith}
use Rattle.std.proofs.lemmas.Bool.{cases_lt}
use Rattle.std.proofs.lemmas.List.{get_or-take, get_or_past, take_all, length-take-le}
use Rattle.song_model.specs.declared.tables.TableName.{TableName}
use Rattle.song_model.specs.declared.tables.TableName.TheVariants.{Wave, Pulse, Filter}
use Rattle.song_model.specs.declared.songs.Song.{Song}
use Rattle.song_model.specs.LookUp.{table_of}
use Rattle.play_model.specs.declared.unplayable.Unplayable.TheVariants.{TableOverflow}
use Rattle.play_model.specs.Reached.{IsReached}
use Rattle.play_model.specs.Playable.{HasPrograms}
use Rattle.play_model.specs.Features.{AreFeatures}
use Rattle.song_facts.specs.Facts.{AreFacts}
use Rattle.usage.specs.Marks.{IsMarked, AreMarks}
use Rattle.usage.specs.Search.{IsNowhere}
use Rattle.usage.specs.Found.{IsFoundOf, ProgramFails}
use Rattle.usage.specs.Parts.{AreUsedParts}
use Rattle.usage.specs.declared.found.Found.{Found}
use Rattle.usage.specs.declared.parts.UsedParts.{UsedParts}

-- ---- the first marks of a list

marked_in_front : (n k : ℕ) (marks : List Bool) → IsMarked (take n marks) k → (k < n) × IsMarked marks k
marked_in_front n k marks m = elim (cases_lt k n) [
  | inl inside ↦ (inside, sym (get_or-take n marks k false inside) ∙ m)
  | inr past ↦ (let e = get_or_past (take n marks) k false (length_of_take n k marks past) in absurd (cc))
]
  where
    length_of_take : (n k : ℕ) (marks : List Bool) → n ≤ k → length (take n marks) ≤ k
    length_of_take n k marks past = elim (cases_lt (length marks) n) [
      | inl short ↦ rw (take_all n marks (omega arith)) (omega arith)
      | inr long ↦ rw (length-take-le n marks long) past
    ]

front : {P Q : ℕ → Type 0} (n : ℕ) {marks kept : List Bool} → kept ≡ take n marks → AreMarks P marks →
    ((k : ℕ) → k < n → P k → Q k) → ((k : ℕ) → Q k → (k < n) × P k) → AreMarks Q kept
front {P} {Q} n {marks} {kept} is m to from = record {
  each = λ k. (
    λ (h : IsMarked kept k). (let f = marked_in_front n k marks (rw is at h) in to k f.0 ((m.each k).0 f.1)),
    λ (q : Q k). (let f = from k q in rw is (get_or-take n marks k false f.0 ∙ (m.each k).1 f.1)),
  );
}

-- ---- what is kept

row_small : (song : Song) (name : TableName) (p : ℕ) → HasPrograms name → length (table_of song name) ≤ 255 →
    IsNowhere (ProgramFails song) → IsReached song name p → p < 256
row_small song name p programs few none reached = elim (cases_lt (length (table_of song name)) p) [
  | inl above ↦ absurd (none (TableOverflow name p) (record { programs = programs; reached = reached; above = above }))
  | inr stored ↦ omega arith
]

pub rows_kept : (song : Song) (name : TableName) {marks kept : List Bool} → HasPrograms name →
    length (table_of song name) ≤ 255 → IsNowhere (ProgramFails song) →
    kept ≡ take 256 marks → AreMarks (IsReached song name) marks → AreMarks (IsReached song name) kept
rows_kept song name programs few none is m =
    front 256 is m (λ k low r. r) (λ k r. (row_small song name k programs few none r, r))

pub kept_parts : (song : Song) (found : Found) (parts : UsedParts) → IsFoundOf song found →
    IsNowhere (ProgramFails song) →
    parts.patterns ≡ take 208 found.bytes → parts.instruments ≡ found.rows.instruments →
    parts.wave ≡ take 256 found.wave.reached →
    parts.pulse ≡ take 256 found.pulse.reached → parts.filter ≡ take 256 found.filter.reached →
    parts.speed ≡ found.speed →
    parts.wave_pointers ≡ found.wave.pointers → parts.pulse_pointers ≡ found.pulse.pointers →
    parts.filter_pointers ≡ found.filter.pointers →
    AreFeatures song parts.features.0 → AreFacts song parts.facts → AreUsedParts song parts
kept_parts song found parts f none patterns instruments wave pulse filter speed waves pulses filters features facts =
    record {
      patterns = front 208 patterns f.bytes (λ k low byte. record { byte = byte; is_pattern = low })
          (λ k used. (used.is_pattern, used.byte));
      instruments = rw instruments f.rows.instruments;
      wave = rows_kept song Wave (λ e. cc) f.wave_rows none wave f.wave.reached;
      pulse = rows_kept song Pulse (λ e. cc) f.pulse_rows none pulse f.pulse.reached;
      filter = rows_kept song Filter (λ e. cc) f.filter_rows none filter f.filter.reached;
      speed = rw speed f.speed;
      wave_pointers = rw waves f.wave.pointers;
      pulse_pointers = rw pulses f.pulse.pointers;
      filter_pointers = rw filters f.filter.pointers;
      features = features;
      facts = facts;
    }
