-- What a voice looks up is asked for, where the voice is safe and keeps the song's notes.
use Rattle.std.specs.Prelude.{nat_lt}
use Rattle.std.proofs.Common.{◌≡◌, ℕ, ◌%◌, ◌≤◌, false, ap, sym, ◌∙◌, refl, inl, inr, arith}
use Rattle.std.proofs.lemmas.Bool.Decides.{nat_tests}
use Rattle.song_model.specs.declared.tables.TableName.TheVariants.{Wave}
use Rattle.play_model.specs.Freq.{freq}
use Rattle.play_model.specs.Safe.{IsSafeNote}
use Rattle.safe_states.proofs.Laws.{is_step}
use Rattle.asked_numbers.specs.Numbers.{of_wave_row, of_slide, sounded, half_tone_from, half_tone_to}
use Rattle.kept_notes.specs.NoteLaws.{VoicesLookUpAsked}
use Rattle.kept_notes.proofs.Keeping.{note_of_program, note_of_slide}
use Rattle.kept_notes.proofs.Waves.{slide_runs, wave_slides}

-- a note that sounds has the frequency of its number: below 128 it is its number, and both are none from 240 on
none_beyond : (n : ℕ) → 96 ≤ n → freq n ≡ 0
unfolding freq
none_beyond n high = let e : nat_lt n 96 ≡ false = grind (arith, nat_tests) in rw e refl

same_frequency : (note : ℕ) → IsSafeNote note → freq note ≡ freq (note % 128)
same_frequency note (inl low) = ap freq (omega (arith, low))
same_frequency note (inr high) =
    let least = high.0 in
    let most = high.1 in
    none_beyond note (omega (arith, least)) ∙ sym (none_beyond (note % 128) (omega (arith, least, most)))

pub voices_look_up_asked_lem : VoicesLookUpAsked
voices_look_up_asked_lem song order v safe q = record {
  row = λ some plain sets.
      sounded (of_wave_row v.wave_ptr v.note
      (record { step = is_step song Wave v.wave_ptr safe.wave some; no_command = plain; sets = sets })
      (note_of_program song v.note v.wave_ptr v.command q.note some) refl);
  wave_slide = λ some left.
      sounded (of_slide v.note
      (wave_slides song v.wave_ptr (is_step song Wave v.wave_ptr safe.wave some).reached left)
      (note_of_program song v.note v.wave_ptr v.command q.note some) refl);
  slide = λ slides.
      sounded (of_slide v.note (slide_runs song v.command v.param safe.running slides)
      (note_of_slide song v.note v.wave_ptr v.command q.note slides) refl);
  target = same_frequency v.note safe.note;
  half_tone_from = λ depends. half_tone_from depends q.last;
  half_tone_to = λ depends. half_tone_to v.last_note depends q.last refl;
}
