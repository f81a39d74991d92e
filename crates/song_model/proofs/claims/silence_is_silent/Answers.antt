use Rattle.std.proofs.Common.{refl, lit<, lit≤, [], ◌∷◌}
use Rattle.std.proofs.lemmas.List.Elements.{All-nil, All-cons, All-replicate}
use Rattle.song_model.specs.Basics.{IsByte}
use Rattle.song_model.specs.PatternLimits.{IsRow, IsPattern}
use Rattle.song_model.specs.OrderLimits.{IsEntry}
use Rattle.song_model.specs.Limits.{IsText, IsOrder, IsSubtune, IsInstrument, IsTableRow, IsTable}
use Rattle.song_model.specs.Silence.{rest_row, order_of_zero, silence}
use Rattle.song_model.proofs.claims.silence_is_silent.Goals as goal

zero_text : IsText 32 silence.name
zero_text = record { count = refl; each = All-replicate IsByte 32 0 (lit< tt) }

order_in_range : IsOrder order_of_zero
order_in_range = record {
  entries = record { count = lit≤ tt; each = All-cons IsEntry 0 [] (lit< tt) (All-nil IsEntry) };
  restart = lit< tt;
}

row_in_range : IsRow rest_row
row_in_range =
    record { note_from = lit≤ tt; note_to = lit≤ tt; instrument = lit≤ tt; command = lit≤ tt; param = lit< tt }

pattern_in_range : IsPattern (rest_row ∷ [])
pattern_in_range = record {
  count = record { least = lit≤ tt; most = lit≤ tt };
  each = All-cons IsRow rest_row [] row_in_range (All-nil IsRow);
}

no_rows : IsTable []
no_rows = record { count = lit≤ tt; each = All-nil IsTableRow }

pub returns-clause-limits : goal.returns-clause-limits
returns-clause-limits c = record {
  name = zero_text;
  author = zero_text;
  copyright = zero_text;
  subtunes = record {
    count = lit≤ tt;
    each =
        All-cons IsSubtune _ [] (record { one = order_in_range; two = order_in_range; three = order_in_range })
        (All-nil IsSubtune);
  };
  instruments = record { count = lit≤ tt; each = All-nil IsInstrument };
  wave = no_rows;
  pulse = no_rows;
  filter = no_rows;
  speed = no_rows;
  patterns =
      record { count = lit≤ tt; each = All-cons IsPattern (rest_row ∷ []) [] pattern_in_range (All-nil IsPattern) };
}
