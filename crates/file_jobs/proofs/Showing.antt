-- How a song whose script is too long is refused.
use Rattle.std.proofs.Common.{◌≡◌, ◌⊎◌, ◌<◌, ℕ, List, length, inl, inr, refl, ap, ◌∙◌}
use Rattle.goat_io.specs.Files.{Files}
use Rattle.song_model.specs.declared.songs.Song.{Song}
use Rattle.edit_script.specs.declared.parsing.TheConstants.{MOST_BYTES}
use Rattle.song_script.specs.declared.showing.ShowFault.{ShowFault}
use Rattle.song_script.specs.declared.showing.ShowFault.TheVariants.{TooLarge, NoMemory}
use Rattle.song_script.specs.Shown.{script_of}
use Rattle.command_line.specs.Last.{Last, Says}
use Rattle.jobs.specs.Lines.{script_too_large_line}
use Rattle.jobs.specs.Stages.{HasShortScript, HoldsSong}
use Rattle.jobs.specs.Endings as ends
use Rattle.jobs.specs.Endings.{Refuses}

pub script_fails : {song : Song} (count : ℕ) (fault : ShowFault) {last : Last} → fault ≡ TooLarge count →
    (fault ≡ NoMemory) ⊎ ((fault ≡ TooLarge (length (script_of song))) × (MOST_BYTES < length (script_of song))) →
    last ≡ Says 7 (script_too_large_line count) → (files : Files) (name : List ℕ) → HoldsSong files name song →
    Refuses files (HasShortScript name) last
script_fails count fault is (inl none) says files name holds = absurd (cc (is, none))
script_fails {song} count fault is (inr long) says files name holds =
    let same : count ≡ length (script_of song) = let is_long = long.0 in cc (is, is_long) in
    ends.ends (script_too_large_line (length (script_of song))) (song, holds, long.1, refl)
    (says ∙ ap (λ n. Says 7 (script_too_large_line n)) same)
