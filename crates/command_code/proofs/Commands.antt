-- Each command is done by its lines.
use Rattle.std.proofs.Common.{◌≡◌, ◌≢◌, ℕ, ◌+◌, ◌*◌, ◌<◌, ◌≤◌, true, false}
use Rattle.std.proofs.Common.{refl, sym, ◌∙◌, arith}
use Rattle.std.proofs.lemmas.Bool.{not-true, not-false, leb-true, leb-false, both_ways}
use Rattle.code_runs.specs.Runs.{put}
use Rattle.play_model.specs.State.{Voice, Common, Playing}
use Rattle.play_model.specs.TickStep.{tempo_of}
use Rattle.play_model.specs.Helpers.{do_command}
use Rattle.player_memory.specs.declared.conditions.TheConstants.{WAVE_DELAY, FILTER_USED, SET_VOLUME}
use Rattle.player_memory.specs.declared.labels.TheConstants.{FILTER_POINTER, FILTER_TIME, FILTER_CONTROL, CUTOFF}
use Rattle.player_memory.specs.declared.labels.TheConstants.{VOLUME, TEMPO, WAVE_TIME}
use Rattle.player_text.specs.declared.commands.TheConstants.{AD_SET, SR_SET, WAVE_SET, WAVE_POINTER_SET}
use Rattle.player_text.specs.declared.commands.TheConstants.{PULSE_POINTER_SET, FILTER_POINTER_SET}
use Rattle.player_text.specs.declared.commands.TheConstants.{FILTER_CONTROL_SET, CUTOFF_SET, VOLUME_SET}
use Rattle.player_desk.proofs.Laws.{VoiceDesk, Reader, Lent, Fields, SameSong, Shared, LentStands, Done, own_done}
use Rattle.player_desk.proofs.Laws.{done_over, done_by, compared_is, over_is}
use Rattle.command_code.proofs.Lines.{lines_of}
use Rattle.command_code.proofs.Rules.{do_ad, do_sr, do_wave, do_pulse_pointer, do_filter_pointer, do_filter_off}
use Rattle.command_code.proofs.Rules.{do_filter_control, do_cutoff, do_volume, do_loud}
use Rattle.command_code.proofs.Bytes.{shared_done, tempos_kept}
use Rattle.command_code.proofs.Links.{Does}

-- ---- the voice's bytes

-- its voice alone
abbrev spoken : Voice → Playing → Playing
spoken v u = record u { voice = v }

voice_set : (r : Reader) (u t : Playing) (v : Voice) (handed : Lent) (d m n : VoiceDesk) → spoken v u ≡ t →
    n.shared ≡ m.shared → n.sid ≡ m.sid → Fields r.layout.holds v (tempo_of (r.voice + 1) u.common) n.own →
    SameSong n.own d.own → Done r.layout.holds r.voice u handed d m → Done r.layout.holds r.voice t handed d n
voice_set r u t v handed d m n is shared sid fields song done =
    done_by r.layout.holds r.voice (spoken v u) t handed d n (sym is)
    (own_done r.layout.holds r.voice u (spoken v u) handed d m n shared sid refl fields song done)

pub ad_does : (r : Reader) (c p : ℕ) (u t : Playing) (handed : Lent) (d : VoiceDesk) → c ≡ 5 →
    do_command c p u ≡ t → Does r c p u t handed d (lines_of AD_SET)
ad_does r c p u t handed d e rule ways Q m ends y a done =
    ends _ y
    (voice_set r u t (record u.voice { ad = p }) handed d m _ (do_ad c p u e ∙ rule) refl refl
    (assumption (a, done.fields)) (assumption done.song) done)

pub sr_does : (r : Reader) (c p : ℕ) (u t : Playing) (handed : Lent) (d : VoiceDesk) → c ≡ 6 →
    do_command c p u ≡ t → Does r c p u t handed d (lines_of SR_SET)
sr_does r c p u t handed d e rule ways Q m ends y a done =
    ends _ y
    (voice_set r u t (record u.voice { sr = p }) handed d m _ (do_sr c p u e ∙ rule) refl refl
    (assumption (a, done.fields)) (assumption done.song) done)

pub wave_does : (r : Reader) (c p : ℕ) (u t : Playing) (handed : Lent) (d : VoiceDesk) → c ≡ 7 →
    do_command c p u ≡ t → Does r c p u t handed d (lines_of WAVE_SET)
wave_does r c p u t handed d e rule ways Q m ends y a done =
    ends _ y
    (voice_set r u t (record u.voice { wave = p }) handed d m _ (do_wave c p u e ∙ rule) refl refl
    (assumption (a, done.fields)) (assumption done.song) done)

-- a row alone does this one
pub wave_pointer_does : (r : Reader) (c p : ℕ) (u t : Playing) (handed : Lent) (d : VoiceDesk) →
    record u { voice = record u.voice { wave_ptr = p; wave_time = 0 } } ≡ t →
    Does r c p u t handed d (lines_of WAVE_POINTER_SET)
wave_pointer_does r c p u t handed d rule ways Q m ends y a done = (
  λ on.
      ends _ y
      (voice_set r u t (record u.voice { wave_ptr = p; wave_time = 0 }) handed d m _ rule refl refl
      (assumption (a, done.fields)) (assumption done.song) done),
  λ off.
      ends _ y
      (voice_set r u t (record u.voice { wave_ptr = p; wave_time = 0 }) handed d m _ rule refl refl
      (assumption (a, untimed off, done.fields)) (assumption done.song) done),
)
  where
    -- no byte holds the time then
    untimed : r.layout.holds WAVE_DELAY ≡ false → r.layout.holds WAVE_DELAY ≡ true → m.own WAVE_TIME ≡ 0
    untimed off on = absurd (both_ways (r.layout.holds WAVE_DELAY) off on)

pub pulse_pointer_does : (r : Reader) (c p : ℕ) (u t : Playing) (handed : Lent) (d : VoiceDesk) → c ≡ 9 →
    do_command c p u ≡ t → Does r c p u t handed d (lines_of PULSE_POINTER_SET)
pulse_pointer_does r c p u t handed d e rule ways Q m ends y a done =
    ends _ y
    (voice_set r u t (record u.voice { pulse_ptr = p; pulse_time = 0 }) handed d m _ (do_pulse_pointer c p u e ∙ rule)
    refl refl (assumption (a, done.fields)) (assumption done.song) done)

-- ---- what the voices share

-- The byte that is set is kept: there is nothing to show for where it isn't.
unless_kept : (r : Reader) (condition n k : ℕ) → r.layout.holds condition ≡ true →
    r.layout.holds condition ≡ false → n ≡ k
unless_kept r condition n k on off = absurd (both_ways (r.layout.holds condition) off on)

abbrev pub shared_by : Common → Playing → Playing
shared_by common u = record u { common = common }

shared_set : (r : Reader) (u t : Playing) (common : Common) (handed : Lent) (d m n : VoiceDesk) →
    shared_by common u ≡ t → n.own ≡ m.own → n.sid ≡ m.sid →
    tempo_of (r.voice + 1) common ≡ tempo_of (r.voice + 1) u.common →
    ((its : ℕ) → its < 3 → its ≢ r.voice → n.shared (TEMPO + 7 * its) ≡ tempo_of (its + 1) common) →
    Shared r.layout.holds common n.shared → LentStands handed n.shared → Done r.layout.holds r.voice u handed d m →
    Done r.layout.holds r.voice t handed d n
shared_set r u t common handed d m n is own sid tempo tempos shared lent done =
    done_by r.layout.holds r.voice (shared_by common u) t handed d n (sym is)
    (shared_done r.layout.holds r.voice u common handed d m n own sid tempo tempos shared lent done)

pub filter_pointer_does : (r : Reader) (c p : ℕ) (u t : Playing) (handed : Lent) (d : VoiceDesk) → c ≡ 0xA →
    do_command c p u ≡ t → Does r c p u t handed d (lines_of FILTER_POINTER_SET)
filter_pointer_does r c p u t handed d e rule ways Q m ends y a done =
    let tempo = λ (its : ℕ). tempo_of (its + 1) u.common in
    ends _ y
    (shared_set r u t (record u.common { filter_ptr = p; filter_time = 0 }) handed d m _
    (do_filter_pointer c p u e ∙ rule) refl refl refl
    (tempos_kept r.voice FILTER_TIME 0 (put m.shared FILTER_POINTER m.a) tempo refl refl refl
    (tempos_kept r.voice FILTER_POINTER m.a m.shared tempo refl refl refl done.tempos)) (assumption (a, done.common))
    (assumption done.lent) done)

pub filter_control_does : (r : Reader) (c p : ℕ) (u t : Playing) (handed : Lent) (d : VoiceDesk) →
    r.layout.holds FILTER_USED ≡ true → p < 256 → c ≡ 0xB → do_command c p u ≡ t →
    Does r c p u t handed d (lines_of FILTER_CONTROL_SET)
filter_control_does r c p u t handed d used small e rule ways Q m ends y a done =
    let set = unless_kept r FILTER_USED p 0 used in
    let tempo = λ (its : ℕ). tempo_of (its + 1) u.common in (
      λ unmet.
          let some : p ≢ 0 = λ none. over_is m.a 0 (omega arith) (not-true _ unmet) (a ∙ none) in
          ends _ y
          (shared_set r u t (record u.common { filter_control = p }) handed d m _
          (do_filter_control c p u e some ∙ rule) refl refl refl
          (tempos_kept r.voice FILTER_CONTROL m.a m.shared tempo refl refl refl done.tempos)
          (assumption (a, set, done.common)) (assumption done.lent) done),
      λ met.
          let none : p ≡ 0 = sym a ∙ compared_is m.a 0 (omega (arith, a, small)) (omega arith) (not-false _ met) in
          ends _ y
          (shared_set r u t (record u.common { filter_control = p; filter_ptr = p }) handed d m _
          (do_filter_off c p u e none ∙ rule) refl refl refl
          (tempos_kept r.voice FILTER_POINTER m.a (put m.shared FILTER_CONTROL m.a) tempo refl refl refl
          (tempos_kept r.voice FILTER_CONTROL m.a m.shared tempo refl refl refl done.tempos))
          (assumption (a, set, done.common)) (assumption done.lent) done),
    )

pub cutoff_does : (r : Reader) (c p : ℕ) (u t : Playing) (handed : Lent) (d : VoiceDesk) →
    r.layout.holds FILTER_USED ≡ true → c ≡ 0xC → do_command c p u ≡ t →
    Does r c p u t handed d (lines_of CUTOFF_SET)
cutoff_does r c p u t handed d used e rule ways Q m ends y a done =
    let set = unless_kept r FILTER_USED p 0 used in
    ends _ y
    (shared_set r u t (record u.common { cutoff = p }) handed d m _ (do_cutoff c p u e ∙ rule) refl refl refl
    (tempos_kept r.voice CUTOFF m.a m.shared (λ its. tempo_of (its + 1) u.common) refl refl refl done.tempos)
    (assumption (a, set, done.common)) (assumption done.lent) done)

pub volume_does : (r : Reader) (c p : ℕ) (u t : Playing) (handed : Lent) (d : VoiceDesk) →
    r.layout.holds SET_VOLUME ≡ true → c ≡ 0xD → do_command c p u ≡ t →
    Does r c p u t handed d (lines_of VOLUME_SET)
volume_does r c p u t handed d kept e rule ways Q m ends y a done = (
  λ met.
      let high : 16 ≤ p = (let z = leb-true 16 m.a met in omega (arith, z, a)) in
      ends _ y
      (done_by r.layout.holds r.voice u t handed d _ (sym (do_loud c p u e high ∙ rule))
      (done_over r.layout.holds r.voice u handed d m _ refl refl refl done)),
  λ unmet.
      let low : p < 16 = (let z = leb-false 16 m.a unmet in omega (arith, z, a)) in
      let set = unless_kept r SET_VOLUME p 15 kept in
      ends _ y
      (shared_set r u t (record u.common { volume = p }) handed d m _ (do_volume c p u e low ∙ rule) refl refl refl
      (tempos_kept r.voice VOLUME m.a m.shared (λ its. tempo_of (its + 1) u.common) refl refl refl done.tempos)
      (assumption (a, set, done.common)) (assumption done.lent) done),
)
