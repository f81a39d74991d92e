-- How many bytes the parts take, and the images of two small songs.
use Rattle.image_parts.proofs.WorkedLengths.{parts_are_measured, frequencies_are_measured, silences_are_measured}
use Rattle.image_parts.proofs.WorkedLengths.{read_bytes_are_measured, notes_are_measured}
use Rattle.image_parts.proofs.claims.worked_lengths.Goals as goal

pub returns-clause-parts : goal.returns-clause-parts
returns-clause-parts c = parts_are_measured

pub returns-clause-frequencies : goal.returns-clause-frequencies
returns-clause-frequencies c = frequencies_are_measured

pub returns-clause-read : goal.returns-clause-read
returns-clause-read c = read_bytes_are_measured

pub returns-clause-silence : goal.returns-clause-silence
returns-clause-silence c = silences_are_measured

pub returns-clause-note : goal.returns-clause-note
returns-clause-note c = notes_are_measured
