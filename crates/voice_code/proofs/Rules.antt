-- What the rules of the wave step and of the effect step come to, way by way.
use Rattle.std.proofs.Common.{◌≡◌, ◌≢◌, ℕ, zero, suc, ◌-◌, ◌≤◌, ◌&&◌, ◌||◌, Bool, true}
use Rattle.std.proofs.Common.{false, nat_eq, nat_le, nat_lt}
use Rattle.std.proofs.Common.{if◌then◌else◌, inl, inr, refl, sym, ap, ◌∙◌, arith}
use Rattle.std.proofs.lemmas.Bool.{eq-eqb, leb-true, lt-leb, le-ltb, and_parts, both_ways, cases_lt, true≢false}
use Rattle.song_model.specs.declared.tables.TableRow.{TableRow}
use Rattle.song_model.specs.declared.tables.TableName.TheVariants.{Wave}
use Rattle.play_model.specs.declared.options.Options.{Options}
use Rattle.play_model.specs.LookUps.{LookUps}
use Rattle.play_model.specs.Freq.{freq, slide}
use Rattle.play_model.specs.Wrap.{distance}
use Rattle.play_model.specs.State.{Voice, Playing}
use Rattle.play_model.specs.Helpers.{next_row, porta_up, porta_down, tone, vibrato}
use Rattle.play_model.specs.WaveStep.{Waved, is_wave_command, wave_command, left_done, program_moved}
use Rattle.play_model.specs.WaveStep.{wave_step}
use Rattle.play_model.specs.EffectStep.{effect_step}
use Rattle.play_model.specs.Frame.{effect_done}
use Rattle.scopes.specs.Meaning.{Outcome, Done, Left}
use Rattle.player_text.specs.declared.joints.TheConstants.{COMMANDED, PITCHED}
use Rattle.player_memory.specs.Playing.{with_voice}
use Rattle.wave_code.specs.WaveBlock.{its_row, begun, way_of}
use Rattle.wave_code.specs.EffectBlock.{left_out}
use Rattle.wave_code.proofs.Laws.{commands_leave_the_program}
use Rattle.voice_code.specs.VoiceBlock.{its_command, its_param, MeetsCommand}

-- ---- a command, and the program

on_voice : (f : Voice → Voice) (b : Bool) (x y one two : Voice) → one ≡ f x → two ≡ f y →
    (if b then one else two) ≡ f (if b then x else y)
on_voice f true x y one two here there = here
on_voice f false x y one two here there = there

-- the program's row, and the time that it has waited for
abbrev at_row : ℕ → Voice → Voice
at_row p v = record v { wave_time = 0; wave_ptr = p }

up_on : (look : LookUps) (d p : ℕ) (v : Voice) → porta_up look d (at_row p v) ≡ at_row p (porta_up look d v)
unfolding porta_up
up_on look d p v = refl

down_on : (look : LookUps) (d p : ℕ) (v : Voice) → porta_down look d (at_row p v) ≡ at_row p (porta_down look d v)
unfolding porta_down
down_on look d p v = refl

tone_on : (look : LookUps) (d p : ℕ) (v : Voice) → tone look d (at_row p v) ≡ at_row p (tone look d v)
unfolding tone
tone_on look d p v =
    on_voice (at_row p) (nat_eq d 0 || nat_le (distance v.freq (freq v.note)) (slide look d v.last_note)) _ _ _ _ refl
    refl

swing_on : (look : LookUps) (d p : ℕ) (v : Voice) → vibrato look d (at_row p v) ≡ at_row p (vibrato look d v)
unfolding vibrato
swing_on look d p v = refl

abbrev moved : ℕ → Playing → Playing
moved p s = record s { voice = at_row p s.voice }

lent_on : (look : LookUps) (c d p : ℕ) (s : Playing) → 1 ≤ c → c ≤ 4 →
    wave_command look c d (moved p s) ≡ moved p (wave_command look c d s)
unfolding wave_command
lent_on look zero d p s least most = absurd (omega (arith, least))
lent_on look (suc zero) d p s least most = ap (λ v. with_voice v s) (up_on look d p s.voice)
lent_on look (suc (suc zero)) d p s least most = ap (λ v. with_voice v s) (down_on look d p s.voice)
lent_on look (suc (suc (suc zero))) d p s least most = ap (λ v. with_voice v s) (tone_on look d p s.voice)
lent_on look (suc (suc (suc (suc zero)))) d p s least most = ap (λ v. with_voice v s) (swing_on look d p s.voice)
lent_on look (suc (suc (suc (suc (suc c))))) d p s least most = absurd (omega (arith, most))

-- it doesn't matter whether the program goes on before a command or behind it
command_on : (look : LookUps) (c d row : ℕ) (s : Playing) →
    program_moved look row (wave_command look c d s) ≡ wave_command look c d (program_moved look row s)
command_on look c d row s =
    elim (cases_lt c 1) [
      | inl none ↦ (let l = none in commands_leave_the_program look c d row s (inl (omega (arith, l))))
      | inr some ↦ elim (cases_lt c 5) [
        | inl few ↦
            (let least = some in
            let l = few in sym (lent_on look c d (next_row look Wave row) s least (omega (arith, l))))
        | inr more ↦ commands_leave_the_program look c d row s (inr more)
      ]
    ]

-- ---- the wave step's ways

pub lets_run : (look : LookUps) (s : Playing) → way_of look s ≡ Done → (wave_step look s).effect ≡ true
lets_run look s way = by_effect (wave_step look s).effect (is_wave_command (its_row look s.voice)) refl refl
  where
    by_effect : (effect command : Bool) → (wave_step look s).effect ≡ effect →
        is_wave_command (its_row look s.voice) ≡ command → (wave_step look s).effect ≡ true
    by_effect true command e c = e
    by_effect false true e c =
        (let same : way_of look s ≡ Left COMMANDED = rw (e, c) refl in
        let no : Done ≡ Left COMMANDED = sym way ∙ same in absurd (cc))
    by_effect false false e c =
        (let same : way_of look s ≡ Left PITCHED = rw (e, c) refl in
        let no : Done ≡ Left PITCHED = sym way ∙ same in absurd (cc))

rests_behind : (look : LookUps) (s : Playing) (name : ℕ) → way_of look s ≡ Left name →
    (wave_step look s).effect ≡ false
rests_behind look s name way = by_effect (wave_step look s).effect refl
  where
    by_effect : (effect : Bool) → (wave_step look s).effect ≡ effect → (wave_step look s).effect ≡ false
    by_effect true e =
        (let same : way_of look s ≡ Done = rw e refl in
        let no : Done ≡ Left name = sym same ∙ way in absurd (cc))
    by_effect false e = e

pub note_rests : (look : LookUps) (s : Playing) → way_of look s ≡ Left PITCHED → (wave_step look s).effect ≡ false
note_rests look s way = rests_behind look s PITCHED way

-- a row that is a command, with what the wave step leaves
pub record IsCommand (look : LookUps) (s : Playing) : Type 0 where
  pub rests : (wave_step look s).effect ≡ false
  pub from : 0xF0 ≤ (its_row look s.voice).left
  pub to : (its_row look s.voice).left ≤ 0xFE
  pub some : s.voice.wave_ptr ≢ 0
  pub leaves : (wave_step look s).playing
      ≡ wave_command look (its_command look s.voice) (its_param look s.voice) (begun look s)

abbrev is_pitched : Outcome → Bool
is_pitched (Left name) = nat_eq name PITCHED
is_pitched other = false

a_command : (look : LookUps) (s : Playing) → MeetsCommand look s → is_wave_command (its_row look s.voice) ≡ true
a_command look s meets = by_row (is_wave_command (its_row look s.voice)) refl
  where
    by_row : (command : Bool) → is_wave_command (its_row look s.voice) ≡ command →
        is_wave_command (its_row look s.voice) ≡ true
    by_row true c = c
    by_row false c =
        (let e = rests_behind look s COMMANDED meets in
        let same : way_of look s ≡ Left PITCHED = rw (e, c) refl in
        absurd (true≢false (ap is_pitched (sym same ∙ meets))))

-- the program isn't stopped, and its row is no delay
row_done : (look : LookUps) (s : Playing) → is_wave_command (its_row look s.voice) ≡ true →
    nat_eq s.voice.wave_ptr 0 ≡ false → (wave_step look s).playing
    ≡ program_moved look s.voice.wave_ptr (left_done look (its_row look s.voice) s)
unfolding wave_step
row_done look s command some =
    let from = leb-true 0xF0 (its_row look s.voice).left (and_parts _ _ command).0 in
    let long : nat_lt (its_row look s.voice).left 0x10 ≡ false = not_less (its_row look s.voice).left 0x10
    (omega (arith, from)) in
    rw (some, long, command) refl
  where
    not_less : (a b : ℕ) → b ≤ a → nat_lt a b ≡ false
    not_less a b h = le-ltb a b h

command_done : (look : LookUps) (row : TableRow) (s : Playing) → is_wave_command row ≡ true →
    left_done look row s ≡ wave_command look (row.left - 0xF0) row.right s
command_done look row s command =
    let from = leb-true 0xF0 row.left (and_parts _ _ command).0 in
    let wave : nat_le row.left 0xDF ≡ false = lt-leb row.left 0xDF (omega (arith, from)) in
    let silent : nat_le row.left 0xEF ≡ false = lt-leb row.left 0xEF (omega (arith, from)) in
    let first : (nat_le 0x10 row.left && nat_le row.left 0xDF) ≡ false = rw wave (no_and (nat_le 0x10 row.left)) in
    let second : (nat_le 0xE0 row.left && nat_le row.left 0xEF) ≡ false = rw silent (no_and (nat_le 0xE0 row.left)) in
    rw (first, second, command) refl
  where
    no_and : (b : Bool) → (b && false) ≡ false
    no_and true = refl
    no_and false = refl

stopped_runs : (look : LookUps) (s : Playing) → nat_eq s.voice.wave_ptr 0 ≡ true → (wave_step look s).effect ≡ true
unfolding wave_step
stopped_runs look s none = rw none refl

pub is_command : (look : LookUps) (s : Playing) → MeetsCommand look s → IsCommand look s
is_command look s meets = record {
  rests = rests;
  from = leb-true 0xF0 (its_row look s.voice).left (and_parts _ _ command).0;
  to = leb-true (its_row look s.voice).left 0xFE (and_parts _ _ command).1;
  some = λ none. absurd (both_ways (nat_eq s.voice.wave_ptr 0) goes_on (eq-eqb s.voice.wave_ptr 0 none));
  leaves = row_done look s command goes_on
      ∙ (ap (program_moved look s.voice.wave_ptr) (command_done look (its_row look s.voice) s command)
      ∙ (command_on look (its_command look s.voice) (its_param look s.voice) s.voice.wave_ptr s ∙ begins));
}
  where
    rests : (wave_step look s).effect ≡ false
    rests = rests_behind look s COMMANDED meets

    command : is_wave_command (its_row look s.voice) ≡ true
    command = a_command look s meets

    goes_on : nat_eq s.voice.wave_ptr 0 ≡ false
    goes_on = by_row (nat_eq s.voice.wave_ptr 0) refl
      where
        by_row : (none : Bool) → nat_eq s.voice.wave_ptr 0 ≡ none → nat_eq s.voice.wave_ptr 0 ≡ false
        by_row true e = absurd (both_ways (wave_step look s).effect rests (stopped_runs look s e))
        by_row false e = e

    begins : wave_command look (its_command look s.voice) (its_param look s.voice)
        (program_moved look s.voice.wave_ptr s)
        ≡ wave_command look (its_command look s.voice) (its_param look s.voice) (begun look s)
    begins = rw command refl

-- ---- the effect step's ways

pub effect_rests : (o : Options) (look : LookUps) (w : Waved) → w.effect ≡ false → effect_done o look w ≡ w.playing
effect_rests o look w rests = rw rests refl

pub effect_left_out : (o : Options) (look : LookUps) (w : Waved) → left_out o.skip_effects w.playing.voice ≡ true →
    effect_done o look w ≡ w.playing
effect_left_out o look w out = by_effect w.effect refl
  where
    by_effect : (effect : Bool) → w.effect ≡ effect → effect_done o look w ≡ w.playing
    by_effect true e = rw (e, out) refl
    by_effect false e = rw e refl

pub effect_runs : (o : Options) (look : LookUps) (w : Waved) → w.effect ≡ true →
    left_out o.skip_effects w.playing.voice ≡ false →
    effect_done o look w ≡ with_voice (effect_step look w.playing.voice) w.playing
effect_runs o look w effect out = rw (effect, out) refl
