-- The lemmas that upper crates may cite, and the words that they are said in.

-- lines of a tree, and those of a command
pub use Rattle.command_code.proofs.Lines.{first_of, behind, past, under, body_for}
-- bytes that voices share are stored, and tempos; a byte without bit 7
pub use Rattle.command_code.proofs.Bytes.{shared_done, tempos_kept, own_tempo_set, low_seven}
-- the desk between the lines of one command and those of the next
pub use Rattle.command_code.proofs.Links.{Between, Before, Does, part_leads, passed, link}
-- commands of a row alone: the row of the wave program is set, and tempos are
pub use Rattle.command_code.proofs.Commands.{wave_pointer_does}
pub use Rattle.command_code.proofs.Tempos.{tempo_lead, SpeedAt, funk_leads}
-- commands 5 to 7, and 9 to $D
pub use Rattle.command_code.proofs.Lists.{from_ad_to_wave, from_pulse_to_volume, Ruled, early_lead, late_lead}
-- other commands do nothing
pub use Rattle.command_code.proofs.Rules.{do_eight, do_over}
