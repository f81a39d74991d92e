-- The ranges of an orderlist, from the GoatTracker 2 readme's format.
use Rattle.std.specs.Prelude.{ℕ, ◌<◌, List}
use Rattle.song_model.specs.Basics.{KeepsLimit}
use Rattle.song_model.specs.declared.orders.TheConstants.{MOST_ENTRIES, ENDMARK}

-- a pattern number, a repeat or a transpose; $FF is the endmark, which isn't an entry
abbrev pub IsEntry : ℕ → Type 0
IsEntry byte = byte < ENDMARK

-- at most 254 entries before the endmark
abbrev pub AreEntries : List ℕ → Type 0
AreEntries entries = KeepsLimit MOST_ENTRIES IsEntry entries
