-- Inner: lists item by item.
mod Lists
-- Inner: marks that are added.
mod Marking
-- Inner: numbers that are gathered, each once.
mod Gathering
-- Inner: how many pieces patterns have.
mod Counting
-- Inner: where a number stands.
mod Places
-- Inner: the lengths of orderlists, and where pieces stand.
mod AddedLengths
mod Placing
-- Inner: pieces that are added.
mod AddedPieces
-- Inner: what a song names, and the table of its pieces.
mod NamedPatterns
mod PieceTables
-- Inner: the pieces of a song that is cut.
mod SeenMaps
mod CutPieces
mod CutOrders
-- Inner: what a song weighs that is cut, that its parts are within their limits, and how its pieces are chosen.
mod CutWeights
mod Cuttable
mod ChosenWays
