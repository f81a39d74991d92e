-- The code of a voice's registers in memory.
use Rattle.std.proofs.Common.{◌≡◌, ◌⊎◌, ℕ, ◌+◌, ◌*◌, ◌<◌, ◌≤◌, List, length}
use Rattle.std.proofs.Common.{slice_index, inl, inr, refl, ap, ◌∙◌}
use Rattle.std.proofs.Common.{arith}
use Rattle.play_model.specs.TickStep.{tempo_of}
use Rattle.play_model.specs.Frame.{voice_registers}
use Rattle.scopes.specs.Meaning.{each_one, ran}
use Rattle.player_memory.specs.declared.conditions.TheConstants.{PULSE_TABLE}
use Rattle.player_desk.proofs.Laws.{VoiceDesk, Reader, reader_of, voice_desk, fields_of, Came, comes}
use Rattle.player_desk.proofs.Laws.{SidSpot, IsSameAt}
use Rattle.register_code.specs.RegisterBlock.{register_tree, registers_of, RegisterBlockWrites}
use Rattle.register_code.proofs.Written.{own_registers, Written, registers_lead, registers_are, sid_stays, sid_byte}

-- each place but the voice's registers is as it was
others_stay : (r : Reader) (bytes : List ℕ) (d m : VoiceDesk) → length bytes ≡ 7 → Written r.voice bytes d m →
    (place : ℕ) → (place < registers_of r.voice) ⊎ (registers_of r.voice + 7 ≤ place) → IsSameAt r d m place
others_stay r bytes d m seven done place away = record {
  own = λ label at. ap (λ byte. byte label) done.own;
  shared = λ label at. ap (λ byte. byte label) done.shared;
  low = λ at. done.low;
  high = λ at. done.high;
  slide_low = λ row at. ap (λ byte. byte row) done.slide_low;
  slide_high = λ row at. ap (λ byte. byte row) done.slide_high;
  sid = λ register at.
      ap (λ byte. byte register) done.sid ∙ sid_stays r.voice 0 bytes d.sid register (not_among register at away);
}
  where
    not_among : (register : ℕ) → place ≡ 0xD400 + register →
        (place < registers_of r.voice) ⊎ (registers_of r.voice + 7 ≤ place) →
        (register < 0 + 7 * r.voice) ⊎ (0 + length bytes + 7 * r.voice ≤ register)
    not_among register at (inl before) = inl (omega (arith, before, at))
    not_among register at (inr behind) = inr (omega (arith, behind, at, seven))

pub register_block_writes : RegisterBlockWrites
register_block_writes layout rows voice s desk room uses three at playing = record {
  ends = came.ends;
  at_voice = came.at_voice;
  sounds = λ register few.
      ap (ran each_one layout register_tree desk).desk.at (omega arith)
      ∙ (came.shows.memory (SidSpot (0 + register + 7 * voice)) (omega (arith, few, three))
      ∙ (ap (λ sid. sid (0 + register + 7 * voice)) came.holds.sid
      ∙ (sid_byte voice 0 its d.sid register few
      ∙ ap (λ bytes. slice_index bytes register) are)));
  leaves = λ place away.
      came.stays place
      (others_stay (reader_of layout rows voice desk) its d came.after refl came.holds place away);
}
  where
    d : VoiceDesk
    d = voice_desk layout voice desk

    its : List ℕ
    its = own_registers (layout.holds PULSE_TABLE) d.own

    came : Came layout rows voice desk (Written voice its d) (ran each_one layout register_tree desk)
    came =
        comes layout rows voice register_tree desk (Written voice its d) room uses three at
        (registers_lead (reader_of layout rows voice desk) d)

    are : its ≡ voice_registers s.voice
    are =
        registers_are layout.holds s.voice (tempo_of (voice + 1) s.common) d.own
        (fields_of layout.holds s.voice _ d.own playing.own)
