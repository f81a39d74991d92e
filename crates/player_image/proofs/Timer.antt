-- The lines of an image around those that set the timer, and what these are assembled to.
use Rattle.std.proofs.Common.{◌≡◌, ℕ, zero, suc, ◌+◌, ◌-◌, ◌/◌, ◌%◌, Bool, if◌then◌else◌, List, [], ◌∷◌, ◌++◌}
use Rattle.std.proofs.Common.{length, refl, ap, ◌∙◌, arith, append_assoc}
use Rattle.cpu6502.specs.declared.mnemonic.Mnemonic.TheVariants.{Lda, Ldx, Rts, Sta}
use Rattle.cpu6502.specs.declared.mnemonic.Mode.TheVariants.{Implied, Immediate, Absolute}
use Rattle.asm6502.specs.declared.lines.Operand.TheVariants.{Nothing, Number}
use Rattle.asm6502.specs.declared.lines.Line.{Line}
use Rattle.asm6502.specs.Lines.{kept, size_of, address_in}
use Rattle.asm6502.specs.Assembly.{bytes_of}
use Rattle.asm6502.proofs.Laws.{kept-append}
use Rattle.play_model.specs.declared.options.System.{System}
use Rattle.play_model.specs.declared.options.System.TheVariants.{Pal, Ntsc}
use Rattle.play_model.specs.Speeds.{IsSpeed, timer_value}
use Rattle.scopes.specs.declared.line.Line.TheVariants.{With, When, Loop, End}
use Rattle.scopes.specs.declared.line.Operand.TheVariants.{Number as Numeral}
use Rattle.scopes.specs.Trees.{Tree, tree_of}
use Rattle.scope_lines.specs.Instructions.{code}
use Rattle.scope_lines.specs.Lines.{block_lines}
use Rattle.scope_calls.specs.Entrances.{lead_lines, entrance_lines, entrance_size}
use Rattle.player_memory.specs.declared.conditions.TheConstants.{TIMED, FUNK_TEMPO, SUBTUNES}
use Rattle.player_text.specs.declared.init.TheConstants.{SUBTUNE_TAKEN, REGISTERS_CLEARED, VARIABLES_CLEARED}
use Rattle.player_text.specs.declared.init.TheConstants.{FUNK_STARTED, VOICES_STARTED, VOICE_STARTED, TEMPO_STARTED}
use Rattle.player_text.specs.declared.texts.Start.{Start}
use Rattle.player_code.specs.declared.labels.TheConstants.{INIT_CODE}
use Rattle.player_code.specs.CodeLines.{play_entrance, init_entrance, cleared_of, front_lines, middle_lines, code_lines}
use Rattle.player_image.specs.Systems.{timer_code, AreAlikeButTimer}
use Rattle.player_image.proofs.Places.{same_self, same_both, same_addresses}
use Rattle.player_image.proofs.Alone.{bytes_along}

-- ---- the code that begins a subtune

-- the lines that set the timer
abbrev pub timer_lines : ℕ → ℕ → List Line
timer_lines low high =
    code Lda Immediate (Number low) ∷ code Sta Absolute (Number 0xDC04)
    ∷ code Lda Immediate (Number high) ∷ code Sta Absolute (Number 0xDC05) ∷ []

-- where they are kept
abbrev pub if_timed : Bool → ℕ → ℕ → List Line
if_timed timed low high = if timed then timer_lines low high else []

-- what stands in front of them
abbrev taken_lines : ℕ → (ℕ → Bool) → List Line
taken_lines pointer holds = lead_lines ++ block_lines INIT_CODE pointer holds 1 (tree_of SUBTUNE_TAKEN.now)

-- and behind them: the block's other lines, and the return
abbrev started_tree : ℕ → ℕ → ℕ → Tree
started_tree tempo funk count =
    tree_of ((REGISTERS_CLEARED.now ++ With Ldx (Numeral (count - 1)) ∷ VARIABLES_CLEARED.now)
    ++ (When FUNK_TEMPO ∷ With Lda (Numeral funk) ∷ (FUNK_STARTED.now ++ End ∷ [])
    ++ (VOICES_STARTED.now
    ++ Loop 3 ∷ (VOICE_STARTED.now ++ With Lda (Numeral tempo) ∷ (TEMPO_STARTED.now ++ End ∷ [])))))

abbrev started_block : ℕ → (ℕ → Bool) → ℕ → ℕ → ℕ → List Line
started_block pointer holds tempo funk count =
    block_lines INIT_CODE pointer holds (1 + (if holds SUBTUNES then 7 else 0) + 1 + (if holds TIMED then 10 else 0))
    (started_tree tempo funk count)

abbrev pub started_lines : ℕ → (ℕ → Bool) → ℕ → ℕ → ℕ → List Line
started_lines pointer holds tempo funk count =
    started_block pointer holds tempo funk count ++ code Rts Implied Nothing ∷ []

-- the lines of the number, the last of which is always kept, those of the timer, the others, and the return
joined : (number : List Line) (last : Line) (timer others back : List Line) →
    (number ++ last ∷ (timer ++ others)) ++ back ≡ (number ++ last ∷ []) ++ (timer ++ (others ++ back))
joined number last timer others back = simp append_assoc

init_lines_are : (pointer : ℕ) (holds : ℕ → Bool) (start : Start) (count : ℕ) →
    entrance_lines (init_entrance pointer holds start count)
    ≡ taken_lines pointer holds
    ++ (if_timed (holds TIMED) start.timer_low start.timer_high
    ++ started_lines pointer holds start.tempo start.funk count)
unfolding init_entrance
init_lines_are pointer holds start count =
    ap (λ ls. lead_lines ++ ls)
    (joined _ _ (if_timed (holds TIMED) start.timer_low start.timer_high)
    (started_block pointer holds start.tempo start.funk count) (code Rts Implied Nothing ∷ []))

-- it takes as many bytes, whatever the numbers are
pub init_sizes : (pointer : ℕ) (holds : ℕ → Bool) (start other : Start) (count : ℕ) →
    entrance_size (init_entrance pointer holds start count) ≡ entrance_size (init_entrance pointer holds other count)
unfolding init_entrance
init_sizes pointer holds start other count = refl

-- ---- all lines

-- what stands in front of the timer's lines, and what behind them
abbrev pub before_timer : (ℕ → ℕ) → List ℕ → ℕ → (ℕ → Bool) → List Line
before_timer places variables pointer holds =
    front_lines places variables
    ++ (entrance_lines (play_entrance pointer holds) ++ (middle_lines ++ taken_lines pointer holds))

abbrev pub behind_timer : ℕ → (ℕ → Bool) → ℕ → ℕ → ℕ → List Line → List Line
behind_timer pointer holds tempo funk count lists = started_lines pointer holds tempo funk count ++ lists

regrouped : (a b c d t e h : List Line) →
    (a ++ (b ++ (c ++ (d ++ (t ++ e))))) ++ h ≡ (a ++ (b ++ (c ++ d))) ++ (t ++ (e ++ h))
regrouped a b c d t e h = simp append_assoc

pub around : (places : ℕ → ℕ) (variables : List ℕ) (pointer : ℕ) (holds : ℕ → Bool) (start : Start)
    (lists : List Line) →
    code_lines places variables pointer holds start ++ lists
    ≡ before_timer places variables pointer holds
    ++ (if_timed (holds TIMED) start.timer_low start.timer_high
    ++ behind_timer pointer holds start.tempo start.funk (cleared_of (length variables)) lists)
around places variables pointer holds start lists =
    ap (λ init.
    (front_lines places variables
    ++ (entrance_lines (play_entrance pointer holds) ++ (middle_lines ++ init)))
    ++ lists)
    (init_lines_are pointer holds start (cleared_of (length variables)))
    ∙ regrouped (front_lines places variables) (entrance_lines (play_entrance pointer holds)) middle_lines
    (taken_lines pointer holds) (if_timed (holds TIMED) start.timer_low start.timer_high)
    (started_lines pointer holds start.tempo start.funk (cleared_of (length variables))) lists

-- ---- the bytes

-- lines around those that set the timer for a system
abbrev pub with_timer : List Line → System → ℕ → List Line → List Line
with_timer front system speed back =
    front ++ (timer_lines (timer_value system speed % 256) (timer_value system speed / 256) ++ back)

-- which are always kept
pub kept_timer : (system : System) (speed : ℕ) (front back : List Line) →
    kept 0 (with_timer front system speed back) ≡ with_timer (kept 0 front) system speed (kept 0 back)
kept_timer system speed front back =
    kept-append 0 front (timer_lines (timer_value system speed % 256) (timer_value system speed / 256) ++ back)
    ∙ ap (λ rest. kept 0 front ++ rest)
    (kept-append 0 (timer_lines (timer_value system speed % 256) (timer_value system speed / 256)) back)

-- what they are assembled to
timer_bytes : (address : ℕ → ℕ) (place : ℕ) (system : System) (speed : ℕ) → IsSpeed speed →
    bytes_of address place (timer_lines (timer_value system speed % 256) (timer_value system speed / 256))
    ≡ timer_code system speed
timer_bytes address place system zero is = let least = is.least in absurd (omega (arith, least))
timer_bytes address place Pal (suc zero) is = refl
timer_bytes address place Pal (suc (suc zero)) is = refl
timer_bytes address place Pal (suc (suc (suc zero))) is = refl
timer_bytes address place Pal (suc (suc (suc (suc zero)))) is = refl
timer_bytes address place Ntsc (suc zero) is = refl
timer_bytes address place Ntsc (suc (suc zero)) is = refl
timer_bytes address place Ntsc (suc (suc (suc zero))) is = refl
timer_bytes address place Ntsc (suc (suc (suc (suc zero)))) is = refl
timer_bytes address place system (suc (suc (suc (suc (suc more))))) is =
    let most = is.most in absurd (omega (arith, most))

-- the bytes of lines with them, where labels have these addresses
timed_bytes : (address : ℕ → ℕ) (front back : List Line) (origin : ℕ) (system : System) (speed : ℕ) → IsSpeed speed →
    bytes_of address origin (with_timer front system speed back)
    ≡ bytes_of address origin front ++ (timer_code system speed ++ bytes_of address (origin + size_of front + 10) back)
timed_bytes address front back origin system speed is =
    bytes_along address origin front
    (timer_lines (timer_value system speed % 256) (timer_value system speed / 256) ++ back)
    ∙ ap (λ rest. bytes_of address origin front ++ rest)
    (bytes_along address (origin + size_of front)
    (timer_lines (timer_value system speed % 256) (timer_value system speed / 256)) back
    ∙ ap (λ timer. timer ++ bytes_of address (origin + size_of front + 10) back)
    (timer_bytes address (origin + size_of front) system speed is))

-- labels have the same addresses, whatever the timer is set to
addresses_same : (front back : List Line) (origin speed : ℕ) (one two : System) →
    address_in (with_timer front one speed back) origin ≡ address_in (with_timer front two speed back) origin
addresses_same front back origin speed one two =
    same_addresses (with_timer front one speed back) (with_timer front two speed back) origin
    (same_both front front
    (timer_lines (timer_value one speed % 256) (timer_value one speed / 256) ++ back)
    (timer_lines (timer_value two speed % 256) (timer_value two speed / 256) ++ back) (same_self front)
    (record { size = refl; places = λ label. refl }))

-- so the bytes are alike but for it
abbrev pub listed_bytes : ℕ → List Line → List ℕ
listed_bytes origin lines = bytes_of (address_in lines origin) origin lines

pub alike_around : (front back : List Line) (origin speed : ℕ) (one two : System) → IsSpeed speed →
    AreAlikeButTimer speed one two (listed_bytes origin (with_timer front one speed back))
    (listed_bytes origin (with_timer front two speed back))
alike_around front back origin speed one two is =
    record {
      before = bytes_of (address_in (with_timer front one speed back) origin) origin front;
      behind =
          bytes_of (address_in (with_timer front one speed back) origin) (origin + size_of front + 10) back;
      one_is = timed_bytes (address_in (with_timer front one speed back) origin) front back origin one speed is;
      two_is =
          ap (λ (address : ℕ → ℕ). bytes_of address origin (with_timer front two speed back))
          (addresses_same front back origin speed two one)
          ∙ timed_bytes (address_in (with_timer front one speed back) origin) front back origin two speed is;
    }
