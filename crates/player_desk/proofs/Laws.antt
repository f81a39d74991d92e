-- The lemmas that upper crates may cite, and the words that they are said in.

-- the desk as the code of a voice sees it, and where a tree leads from it
pub use Rattle.player_desk.proofs.VoiceDesks.{VoiceDesk, Reader, Ways, pointed, with_tempo, loaded, indexed, Leading}
pub use Rattle.player_desk.proofs.VoiceDesks.{Leads, LeadsAlone}
pub use Rattle.player_desk.proofs.VoiceDesks.{EntryLeads, Listed, OfAll, LowSlide, HighSlide}
-- what leads somewhere leads to all that follows
pub use Rattle.player_desk.proofs.Following.{Follows, leads_on}
pub use Rattle.player_desk.proofs.VoiceDesks.{done_as, in_scope, again_as, TurnsLead}
pub use Rattle.player_desk.proofs.Joining.{body_of, rest_of, joined, goes_on, ends, leaves}
pub use Rattle.player_desk.proofs.Joining.{kept_lead, unkept_lead}
-- and it does so in memory
pub use Rattle.player_desk.proofs.Spots.{Spot, spot_place, IsSpot, spot_byte}
pub use Rattle.player_desk.proofs.Showing.{Shows, Ground}
pub use Rattle.player_desk.proofs.Leading.{At, Led, led}
-- the rows of the table of variables, and what the code of a rule leaves
pub use Rattle.player_desk.proofs.Views.{Fields, Shared, fields_of, fields_stand, shared_of, shared_stand}
pub use Rattle.player_desk.proofs.Views.{Lent, LentStands, SameSong, Done, own_done, done_over, done_by}
-- bytes that are found where the code reads them
pub use Rattle.player_desk.proofs.Reading.{Reads, listed, alone, place_at, compared_is, over_is}
-- what of a voice's desk stands while its own bytes change, and a byte that the pointer finds
pub use Rattle.player_desk.proofs.Arounds.{Around, around_on, at_pointer}
-- a voice in memory, and what a block leaves there
pub use Rattle.player_desk.proofs.Memory.{IsFound, reader_of, voice_desk, lent_of, finds, finds_alone, begins}
pub use Rattle.player_desk.proofs.Memory.{plays}
pub use Rattle.player_desk.proofs.Memory.{but_slides_so, plays_so}
pub use Rattle.player_desk.proofs.Memory.{is_playing, song_stays, others_stay, all_slides_stay}
pub use Rattle.player_desk.proofs.SlidesStay.{leaves_slides, SameSlides}
pub use Rattle.player_desk.proofs.SharedMemory.{SameLent, CommonDone, SharedDone, begins_shared, plays_shared}
-- whatever a block is for: it leaves in memory what it leaves on the desk
pub use Rattle.player_desk.proofs.Places.{IsSameAt}
pub use Rattle.player_desk.proofs.Memory.{Came, comes}
-- a block that takes one of its ways, also where it leaves the slides
pub use Rattle.player_desk.proofs.Memory.{Still}
pub use Rattle.player_desk.proofs.Leaving.{Went, ends_so, leaves_so, ends_still, leaves_still}
pub use Rattle.player_desk.proofs.Spots.{Own as OwnSpot, Shared as SharedSpot, Sid as SidSpot}
pub use Rattle.player_desk.proofs.Spots.{Slide as SlideSpot}
-- a voice plays in each memory that has the same variables
pub use Rattle.player_desk.proofs.Variables.{SameVariables, playing_stays}
pub use Rattle.player_desk.proofs.Owners.{own_below}
