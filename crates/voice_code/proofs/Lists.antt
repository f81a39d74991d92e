-- Lists stand in a later memory too: what is elsewhere stays, and of the slides those that aren't calculated.
use Rattle.std.proofs.Common.{◌≡◌, ℕ, ◌<◌, true, ◌∙◌, arith}
use Rattle.song_model.specs.declared.tables.TableRow.{TableRow}
use Rattle.song_model.specs.declared.tables.TableName.TheVariants.{Speed}
use Rattle.play_model.specs.LookUps.{LookUps}
use Rattle.asked_numbers.specs.declared.range.NumberRange.{NumberRange}
use Rattle.scopes.specs.Desk.{Layout}
use Rattle.player_memory.specs.declared.conditions.TheConstants.{NOTE_DEPENDENT}
use Rattle.player_memory.specs.Rooms.{IsElsewhere}
use Rattle.player_memory.specs.Playing.{place_in, IsListed, IsAlone, IsRow, IsTable, SlidesStay}
use Rattle.wave_code.specs.WaveBlock.{HasWaveTable}
use Rattle.slide_code.specs.SlideBlock.{HasHalfTones, HasSpeed, HasSpeeds}
use Rattle.pulse_code.specs.PulseBlock.{HasPulseTable}

-- what is elsewhere and may be read is in one memory as in another, and so is each slide that isn't calculated
pub record ListsStay (layout : Layout) (rows : ℕ) (look : LookUps) (one two : ℕ → ℕ) : Type 0 where
  pub elsewhere : (place : ℕ) → IsElsewhere layout rows place → layout.may_read place ≡ true → two place ≡ one place
  pub slides : layout.holds NOTE_DEPENDENT ≡ true → (row : ℕ) → row < rows → (look.row Speed row).left < 128 →
      SlidesStay layout row two one

pub listed_stays : (layout : Layout) (rows : ℕ) (look : LookUps) (one two : ℕ → ℕ) (label number byte : ℕ) →
    ListsStay layout rows look one two → IsListed layout rows one label number byte →
    IsListed layout rows two label number byte
listed_stays layout rows look one two label number byte stay listed = record {
  elsewhere = listed.elsewhere;
  reads = listed.reads;
  is = stay.elsewhere (place_in layout label number) listed.elsewhere listed.reads ∙ listed.is;
}

-- and so does one that stands alone
pub alone_stays : (layout : Layout) (rows : ℕ) (look : LookUps) (one two : ℕ → ℕ) (label byte : ℕ) →
    ListsStay layout rows look one two → IsAlone layout rows one label byte → IsAlone layout rows two label byte
alone_stays layout rows look one two label byte stay has = record {
  elsewhere = has.elsewhere;
  reads = has.reads;
  is = stay.elsewhere (layout.address label) has.elsewhere has.reads ∙ has.is;
}

row_stays : (layout : Layout) (rows : ℕ) (look : LookUps) (one two : ℕ → ℕ) (lefts rights number : ℕ)
    (row : TableRow) → ListsStay layout rows look one two → IsRow layout rows one lefts rights number row →
    IsRow layout rows two lefts rights number row
row_stays layout rows look one two lefts rights number row stay is = record {
  left = listed_stays layout rows look one two lefts number row.left stay is.left;
  right = listed_stays layout rows look one two rights number row.right stay is.right;
  left_byte = is.left_byte;
  right_byte = is.right_byte;
}

pub table_stays : (layout : Layout) (rows : ℕ) (look : LookUps) (one two : ℕ → ℕ) (lefts rights count : ℕ)
    (row : ℕ → TableRow) → ListsStay layout rows look one two → IsTable layout rows one lefts rights count row →
    IsTable layout rows two lefts rights count row
table_stays layout rows look one two lefts rights count row stay table = record {
  few = table.few;
  each = λ number least most.
      row_stays layout rows look one two lefts rights number (row number) stay (table.each number least most);
}

pub waves_stay : (layout : Layout) (rows : ℕ) (look : LookUps) (one two : ℕ → ℕ) (count : ℕ) →
    ListsStay layout rows look one two → HasWaveTable layout rows one look count →
    HasWaveTable layout rows two look count
waves_stay layout rows look one two count stay has = record {
  table = table_stays layout rows look one two _ _ count _ stay has.table;
  bytes = has.bytes;
  next_left = has.next_left;
  next_right = has.next_right;
}

pub pulses_stay : (layout : Layout) (rows : ℕ) (look : LookUps) (one two : ℕ → ℕ) (count : ℕ) →
    ListsStay layout rows look one two → HasPulseTable layout rows one look count →
    HasPulseTable layout rows two look count
pulses_stay layout rows look one two count stay has =
    record { table = table_stays layout rows look one two _ _ count _ stay has.table; next = has.next }

pub tones_stay : (layout : Layout) (rows : ℕ) (look : LookUps) (one two : ℕ → ℕ) (range : NumberRange) →
    ListsStay layout rows look one two → HasHalfTones layout rows one range → HasHalfTones layout rows two range
tones_stay layout rows look one two range stay has = record {
  frequencies = record {
    low = λ n inside. listed_stays layout rows look one two _ n _ stay (has.frequencies.low n inside);
    high = λ n inside. listed_stays layout rows look one two _ n _ stay (has.frequencies.high n inside);
  };
  next_low = has.next_low;
  next_high = has.next_high;
}

speed_stays : (layout : Layout) (rows : ℕ) (look : LookUps) (one two : ℕ → ℕ) (number : ℕ) →
    ListsStay layout rows look one two → (layout.holds NOTE_DEPENDENT ≡ true → number < rows) →
    HasSpeed layout rows one number (look.row Speed number) → HasSpeed layout rows two number (look.row Speed number)
speed_stays layout rows look one two number stay few has = record {
  sides = row_stays layout rows look one two _ _ number (look.row Speed number) stay has.sides;
  period = λ kept. listed_stays layout rows look one two _ number _ stay (has.period kept);
  low = λ kept plain. (stay.slides kept number (few kept) plain).low ∙ has.low kept plain;
  high = λ kept plain. (stay.slides kept number (few kept) plain).high ∙ has.high kept plain;
  low_listed = λ out. listed_stays layout rows look one two _ number _ stay (has.low_listed out);
  high_listed = λ out. listed_stays layout rows look one two _ number _ stay (has.high_listed out);
}

pub speeds_stay : (layout : Layout) (rows : ℕ) (look : LookUps) (one two : ℕ → ℕ) (count : ℕ) →
    ListsStay layout rows look one two → HasSpeeds layout rows one look count → HasSpeeds layout rows two look count
speeds_stay layout rows look one two count stay has = record {
  few = has.few;
  slides = has.slides;
  each = λ number most.
      let below : layout.holds NOTE_DEPENDENT ≡ true → number < rows =
      λ kept. (let all = has.slides kept in omega (arith, all, most)) in
      speed_stays layout rows look one two number stay below (has.each number most);
}
