-- The words of the command line, and the job that they name.
use Rattle.std.proofs.Common.{◌≡◌, ℕ, ◌≤◌, ◌<◌, ◌+◌, ◌-◌, ◌*◌, ◌^◌, Bool, true, false}
use Rattle.std.proofs.Common.{if◌then◌else◌, codes, List, [], ◌∷◌, length, get_or, drop, Option, Some, None}
use Rattle.std.proofs.Common.{subst, Result, Ok, Err, IfOk, OnErr, refl, sym, ap, ◌∙◌, String, arith}
use Rattle.std.proofs.lemmas.Fmt.{decimal_injective, decimal_digit}
use Rattle.std.specs.Global.{Global}
use Rattle.std.specs.String.{string_bytes}
use Rattle.std.specs.Str.{bytes_eq}
use Rattle.std.specs.Option.{option_to_list}
use Rattle.base.proofs.Laws.{same_head}
use Rattle.play_model.specs.declared.options.Options.{Options}
use Rattle.play_model.specs.declared.options.System.{System}
use Rattle.play_model.specs.declared.options.System.TheVariants.{Pal, Ntsc}
use Rattle.play_model.specs.Speeds.{IsSpeed}
use Rattle.play_model.specs.State.{no_options}
use Rattle.command_line.specs.declared.chip.Chip.{Chip}
use Rattle.command_line.specs.declared.chip.Chip.TheVariants.{Mos6581, Mos8580}
use Rattle.command_line.specs.declared.topics.Topic.{Topic}
use Rattle.command_line.specs.declared.topics.Topic.TheVariants.{All, Check, Parts, Trace, Pack, Run, Show, Edit, Copy}
use Rattle.command_line.specs.declared.topics.Topic.TheVariants.{Join, Disasm, Asm, Selftest, Help, Version, Bound, BoundCheck}
use Rattle.command_line.specs.declared.topics.Topic.TheVariants.{Measure, Chart}
use Rattle.command_line.specs.Topics.{form_word}
use Rattle.command_line.specs.Words as asked
use Rattle.command_line.specs.Words.{Job, texts, format_word, skip_word, system_word, chip_word, IsAddressWord}
use Rattle.command_line.specs.Words.{IsZeroPageWord, IsNumberWord, IsCountWord, IsSpeedWord}
use Rattle.command_line.specs.Words.{AreOptionWords, unsaid, said, ArePackOptionWords, untold, told, ArePackArguments}
use Rattle.command_line.specs.Forms.{WordsOf, command_of, command_named}

module _ {T E : Type 0} where
  pub ok_mapped : {P Q : T → Type 0} (r : Result T E) → ((x : T) → P x → Q x) → IfOk r P → IfOk r Q
  ok_mapped (Ok x) f p = f x p
  ok_mapped (Err e) f p = tt

  pub err_mapped : {P Q : Type 0} (r : Result T E) → (P → Q) → OnErr r P → OnErr r Q
  err_mapped (Ok x) f p = tt
  err_mapped (Err e) f p = f p

-- ---- how a song is played

-- a number that is no speed says none
pub no_speed : (word : List ℕ) (calls : ℕ) → IsNumberWord 4 word calls → (IsSpeed calls → ⊥) → (speed : ℕ) →
    IsSpeedWord word speed → ⊥
no_speed word calls number none speed is =
    let same : speed ≡ calls =
    decimal_injective speed calls (omega (arith, is.allowed.most)) (omega (arith, number.allowed))
    (sym is.spelled ∙ number.spelled) in
    none (subst IsSpeed same is.allowed)

-- no words say the options of no words
pub none_said : (words : List (String Global)) → length words < 1 → AreOptionWords (texts words) no_options
none_said [] none = unsaid
none_said (word ∷ words) none = absurd (omega arith)

-- what four words say
pub record Tells (skip speed system_said chip_said : List ℕ) : Type 0 where
  pub options : Options
  pub system : System
  pub chip : Chip
  pub are_options : AreOptionWords (skip ∷ speed ∷ []) options
  pub is_system : system_said ≡ system_word system
  pub is_chip : chip_said ≡ chip_word chip

tells : {words : List (List ℕ)} {o : Options} {sid : Chip} (skip speed system_said chip_said : List ℕ) →
    words ≡ skip ∷ speed ∷ system_said ∷ chip_said ∷ [] → ArePackOptionWords words o sid →
    Tells skip speed system_said chip_said
tells skip speed system_said chip_said same (untold unsaid) = absurd (cc (same))
tells skip speed system_said chip_said same (untold (said o skips calls pal)) = absurd (cc (same))
tells skip speed system_said chip_said same (told {options} are system chip) = record {
  options = options;
  system = system;
  chip = chip;
  are_options = subst (λ words. AreOptionWords words options) (cc (same)) are;
  is_system = cc (same);
  is_chip = cc (same);
}

-- words that say nothing are no words for a packed file
pub none_told : (skip speed system_said chip_said : List ℕ) → (Tells skip speed system_said chip_said → ⊥) →
    (o : Options) (sid : Chip) → ArePackOptionWords (skip ∷ speed ∷ system_said ∷ chip_said ∷ []) o sid → ⊥
none_told skip speed system_said chip_said none o sid are = none (tells skip speed system_said chip_said refl are)

-- ---- the arguments of `pack`

pub no_address_said : (a b c d e : List ℕ) → ((address : ℕ) → IsAddressWord d address → ⊥) →
    (words : List (List ℕ)) (input output : List ℕ) (psid : Bool) (address zero_page : ℕ) (o : Options) (sid : Chip) →
    ArePackArguments (a ∷ b ∷ c ∷ d ∷ e ∷ words) input output psid address zero_page o sid → ⊥
no_address_said a b c d e none = λ words input output psid address zero_page o sid w.
    let same : w.address_word ≡ d = cc (w.form) in
    none address (subst (λ word. IsAddressWord word address) same w.address_spelled)

-- the words behind the first five
pub behind_five : (ws : List (String Global)) (a b c d e : String Global) → 5 ≤ length ws → a ≡ get_or ws 0 a →
    b ≡ get_or ws 1 b → c ≡ get_or ws 2 c → d ≡ get_or ws 3 d → e ≡ get_or ws 4 e →
    texts ws
    ≡ string_bytes a ∷ string_bytes b ∷ string_bytes c ∷ string_bytes d ∷ string_bytes e ∷ texts (drop 5 ws)
behind_five [] a b c d e l q r s t u = absurd (omega arith)
behind_five (x0 ∷ []) a b c d e l q r s t u = absurd (omega arith)
behind_five (x0 ∷ x1 ∷ []) a b c d e l q r s t u = absurd (omega arith)
behind_five (x0 ∷ x1 ∷ x2 ∷ []) a b c d e l q r s t u = absurd (omega arith)
behind_five (x0 ∷ x1 ∷ x2 ∷ x3 ∷ []) a b c d e l q r s t u = absurd (omega arith)
behind_five (x0 ∷ x1 ∷ x2 ∷ x3 ∷ x4 ∷ ws) a b c d e l q r s t u = cc

-- ---- the words name one job

-- a word is a format in one way, and a number in one way
same_format : (a b : Bool) → format_word a ≡ format_word b → a ≡ b
same_format true true e = refl
same_format false false e = refl
same_format true false e = absurd (cc)
same_format false true e = absurd (cc)

same_number : {limit : ℕ} {v w : List ℕ} {a b : ℕ} → limit < 2 ^ 64 → v ≡ w → IsNumberWord limit v a →
    IsNumberWord limit w b → a ≡ b
same_number {a} {b} small same p q =
    decimal_injective a b (omega (arith, p.allowed, small)) (omega (arith, q.allowed, small))
    (sym p.spelled ∙ same ∙ q.spelled)

same_count : {limit : ℕ} {v w : List ℕ} {a b : ℕ} → limit < 2 ^ 64 → v ≡ w → IsCountWord limit v a →
    IsCountWord limit w b → a ≡ b
same_count small same p q =
    same_number small same (record { spelled = p.spelled; allowed = p.allowed })
    (record { spelled = q.spelled; allowed = q.allowed })

-- a word that spells 0 spells no count
pub no_count : {limit : ℕ} {word : List ℕ} → limit < 2 ^ 64 → IsNumberWord limit word 0 → (number : ℕ) →
    IsCountWord limit word number → ⊥
no_count small spells number is =
    let none = same_number small refl (record { spelled = is.spelled; allowed = is.allowed }) spells in
    omega (arith, none, is.some)

same_address : {v w : List ℕ} {a b : ℕ} → v ≡ w → IsAddressWord v a → IsAddressWord w b → a ≡ b
same_address same p q =
    let d = p.digits in
    let e = q.digits in
    let high : p.high ≡ q.high = cc in
    let low : p.low ≡ q.low = cc in
    p.value ∙ ap (λ h. 256 * h + p.low) high ∙ ap (λ l. 256 * q.high + l) low ∙ sym q.value

same_zero_page : {v w : List ℕ} {a b : ℕ} → v ≡ w → IsZeroPageWord v a → IsZeroPageWord w b → a ≡ b
same_zero_page same p q =
    let d = p.digits in
    let e = q.digits in
    cc

-- what words say of options, read back
abbrev skips_in : Option (List ℕ) → Options
skips_in None = no_options
skips_in (Some word) =
    if bytes_eq word (codes "effects") then record no_options { skip_effects = true }
    else if bytes_eq word (codes "pulse") then record no_options { skip_pulse = true }
    else if bytes_eq word (codes "both") then record no_options { skip_effects = true; skip_pulse = true }
    else if bytes_eq word (codes "all") then
    record no_options { skip_effects = true; skip_pulse = true; skip_first = true }
    else no_options

skips_back : (a b c : Bool) (word : List ℕ) → skip_word a b c ≡ Some word →
    skips_in (Some word) ≡ record no_options { skip_effects = a; skip_pulse = b; skip_first = c }
skips_back false false false word e = sym (ap skips_in e)
skips_back true false false word e = sym (ap skips_in e)
skips_back false true false word e = sym (ap skips_in e)
skips_back true true false word e = sym (ap skips_in e)
skips_back true true true word e = sym (ap skips_in e)
skips_back false false true word e = absurd (cc (e))
skips_back true false true word e = absurd (cc (e))
skips_back false true true word e = absurd (cc (e))

-- a digit is a byte, $30 and its number
abbrev speed_in : List ℕ → ℕ
speed_in word = get_or word 0 0x30 - 0x30

speed_back : {word : List ℕ} {speed : ℕ} → IsSpeedWord word speed → speed_in word ≡ speed
speed_back {speed} is =
    let small : speed < 10 = omega (arith, is.allowed.most) in
    ap speed_in is.spelled ∙ ap speed_in (decimal_digit speed small) ∙ omega arith

abbrev options_in : List (List ℕ) → Options
options_in (skip ∷ speed ∷ words) = record (skips_in (Some skip)) { speed = speed_in speed }
options_in words = no_options

options_back : {words : List (List ℕ)} {o : Options} → AreOptionWords words o → options_in words ≡ o
options_back unsaid = refl
options_back (said {word} {speed_word} o skips speed pal) =
    ap (λ (x : Options). record x { speed = speed_in speed_word })
    (skips_back o.skip_effects o.skip_pulse o.skip_first word skips)
    ∙ ap (λ (n : ℕ). record o { speed = n; system = Pal }) (speed_back speed)
    ∙ ap (λ (s : System). record o { system = s }) (sym pal)

same_options : {v w : List (List ℕ)} {a b : Options} → v ≡ w → AreOptionWords v a → AreOptionWords w b → a ≡ b
same_options same p q = sym (options_back p) ∙ ap options_in same ∙ options_back q

-- what words say of the system and the SID, read back
abbrev system_in : List ℕ → System
system_in word = if bytes_eq word (codes "ntsc") then Ntsc else Pal

system_back : (system : System) → system_in (system_word system) ≡ system
system_back Pal = refl
system_back Ntsc = refl

abbrev chip_in : List ℕ → Chip
chip_in word = if bytes_eq word (codes "8580") then Mos8580 else Mos6581

chip_back : (chip : Chip) → chip_in (chip_word chip) ≡ chip
chip_back Mos6581 = refl
chip_back Mos8580 = refl

-- what is chosen for a packed file
record Choice : Type 0 where
  options : Options
  chip : Chip

abbrev choice_in : List (List ℕ) → Choice
choice_in (skip ∷ speed ∷ system ∷ chip ∷ words) =
    record { options = record (options_in (skip ∷ speed ∷ [])) { system = system_in system }; chip = chip_in chip }
choice_in words = record { options = options_in words; chip = Mos6581 }

choice_back : {words : List (List ℕ)} {o : Options} {chip : Chip} → ArePackOptionWords words o chip →
    choice_in words ≡ record { options = o; chip = chip }
choice_back (untold unsaid) = refl
choice_back (untold (said o skips speed pal)) =
    ap (λ (o : Options). record { options = o; chip = Mos6581 }) (options_back (said o skips speed pal))
choice_back (told {skip} {speed} {options} is system chip) =
    ap (λ (o : Options).
    record { options = record o { system = system_in (system_word system) }; chip = chip_in (chip_word chip) })
    (options_back is)
    ∙ ap (λ (s : System). record { options = record options { system = s }; chip = chip_in (chip_word chip) })
    (system_back system)
    ∙ ap (λ (c : Chip). record { options = record options { system = system }; chip = c }) (chip_back chip)

same_choice : {v w : List (List ℕ)} {a b : Options} {c d : Chip} → v ≡ w → ArePackOptionWords v a c →
    ArePackOptionWords w b d → ◌≡◌ {A = Choice} (record { options = a; chip = c }) (record { options = b; chip = d })
same_choice same p q = sym (choice_back p) ∙ ap choice_in same ∙ choice_back q

-- the topic that words tell
abbrev topic_in : List (List ℕ) → Topic
topic_in [] = All
topic_in (word ∷ words) =
    if bytes_eq word (codes "check") then Check
    else if bytes_eq word (codes "parts") then Parts
    else if bytes_eq word (codes "bound") then Bound
    else if bytes_eq word (codes "bound-check") then BoundCheck
    else if bytes_eq word (codes "trace") then Trace
    else if bytes_eq word (codes "pack") then Pack
    else if bytes_eq word (codes "run") then Run
    else if bytes_eq word (codes "measure") then Measure
    else if bytes_eq word (codes "chart") then Chart
    else if bytes_eq word (codes "show") then Show
    else if bytes_eq word (codes "edit") then Edit
    else if bytes_eq word (codes "copy") then Copy
    else if bytes_eq word (codes "join") then Join
    else if bytes_eq word (codes "disasm") then Disasm
    else if bytes_eq word (codes "asm") then Asm
    else if bytes_eq word (codes "selftest") then Selftest
    else if bytes_eq word (codes "help") then Help
    else if bytes_eq word (codes "version") then Version
    else All

told_back : (topic : Topic) → topic_in (option_to_list (form_word topic)) ≡ topic
told_back All = refl
told_back Check = refl
told_back Parts = refl
told_back Bound = refl
told_back BoundCheck = refl
told_back Trace = refl
told_back Pack = refl
told_back Run = refl
told_back Measure = refl
told_back Chart = refl
told_back Show = refl
told_back Edit = refl
told_back Copy = refl
told_back Join = refl
told_back Disasm = refl
told_back Asm = refl
told_back Selftest = refl
told_back Help = refl
told_back Version = refl

same_topic : (a b : Topic) → option_to_list (form_word a) ≡ option_to_list (form_word b) → a ≡ b
same_topic a b same = sym (told_back a) ∙ ap topic_in same ∙ told_back b

-- a first word is that of one command
differ : (ws : List (List ℕ)) (a b : Job) → WordsOf ws a → WordsOf ws b →
    bytes_eq (command_of a) (command_of a) ≡ true → bytes_eq (command_of a) (command_of b) ≡ false → ⊥
differ ws a b p q same other =
    let word = same_head _ _ _ _ (sym p.words_are ∙ q.words_are) in
    let first : command_of a ≡ command_of b = sym p.is_command ∙ ap command_named word ∙ q.is_command in
    let never : true ≡ false = sym same ∙ ap (bytes_eq (command_of a)) first ∙ other in absurd (cc (never))

-- words of one list name one job
pub one_job : (ws : List (List ℕ)) (a b : Job) → WordsOf ws a → WordsOf ws b → a ≡ b
one_job ws (asked.Pack i o f a z x c) (asked.Pack i2 o2 f2 a2 z2 x2 c2) p q =
    let v = p.are_arguments in
    let w = q.are_arguments in
    let format : f ≡ f2 = same_format f f2 (cc (p.words_are, q.words_are, v.form, w.form)) in
    let address : a ≡ a2 =
    same_address (cc (p.words_are, q.words_are, v.form, w.form)) v.address_spelled w.address_spelled in
    let page : z ≡ z2 =
    same_zero_page (cc (p.words_are, q.words_are, v.form, w.form)) v.zero_page_spelled w.zero_page_spelled in
    let choice = same_choice (cc (p.words_are, q.words_are, v.form, w.form)) v.options_spelled w.options_spelled in
    let options : x ≡ x2 = ap (λ chosen. chosen.options) choice in
    let chip : c ≡ c2 = ap (λ chosen. chosen.chip) choice in
    cc (p.words_are, q.words_are, v.form, w.form)
one_job ws (asked.Pack i o f a z x c) other p q = absurd (differ ws (asked.Pack i o f a z x c) other p q refl refl)
one_job ws (asked.Copy i o) (asked.Copy i2 o2) p q =
    cc (p.words_are, q.words_are, p.are_arguments.form, q.are_arguments.form)
one_job ws (asked.Copy i o) other p q = absurd (differ ws (asked.Copy i o) other p q refl refl)
one_job ws (asked.Edit i s o) (asked.Edit i2 s2 o2) p q =
    cc (p.words_are, q.words_are, p.are_arguments.form, q.are_arguments.form)
one_job ws (asked.Edit i s o) other p q = absurd (differ ws (asked.Edit i s o) other p q refl refl)
one_job ws (asked.Check i) (asked.Check i2) p q = cc (p.words_are, q.words_are, p.are_arguments.0, q.are_arguments.0)
one_job ws (asked.Check i) other p q = absurd (differ ws (asked.Check i) other p q refl refl)
one_job ws (asked.Trace i s n o) (asked.Trace i2 s2 n2 o2) p q =
    let v = p.are_arguments in
    let w = q.are_arguments in
    let subtune : s ≡ s2 =
    same_number (omega arith) (cc (p.words_are, q.words_are, v.form, w.form)) v.subtune_spelled w.subtune_spelled in
    let frames : n ≡ n2 =
    same_number (omega arith) (cc (p.words_are, q.words_are, v.form, w.form)) v.frames_spelled w.frames_spelled in
    let options : o ≡ o2 =
    same_options (cc (p.words_are, q.words_are, v.form, w.form)) v.options_spelled w.options_spelled in
    cc (p.words_are, q.words_are, v.form, w.form)
one_job ws (asked.Trace i s n o) other p q = absurd (differ ws (asked.Trace i s n o) other p q refl refl)
one_job ws (asked.Run i s n) (asked.Run i2 s2 n2) p q =
    let v = p.are_arguments in
    let w = q.are_arguments in
    let subtune : s ≡ s2 =
    same_number (omega arith) (cc (p.words_are, q.words_are, v.form, w.form)) v.subtune_spelled w.subtune_spelled in
    let frames : n ≡ n2 =
    same_number (omega arith) (cc (p.words_are, q.words_are, v.form, w.form)) v.frames_spelled w.frames_spelled in
    cc (p.words_are, q.words_are, v.form, w.form)
one_job ws (asked.Run i s n) other p q = absurd (differ ws (asked.Run i s n) other p q refl refl)
one_job ws (asked.Selftest n) (asked.Selftest n2) p q =
    let v = p.are_arguments in
    let w = q.are_arguments in
    let number : n ≡ n2 =
    same_number (omega arith) (cc (p.words_are, q.words_are, v.form, w.form)) v.number_spelled w.number_spelled in
    cc (number)
one_job ws (asked.Selftest n) other p q = absurd (differ ws (asked.Selftest n) other p q refl refl)
one_job ws (asked.Disasm i o) (asked.Disasm i2 o2) p q =
    cc (p.words_are, q.words_are, p.are_arguments.form, q.are_arguments.form)
one_job ws (asked.Disasm i o) other p q = absurd (differ ws (asked.Disasm i o) other p q refl refl)
one_job ws (asked.Asm i o) (asked.Asm i2 o2) p q =
    cc (p.words_are, q.words_are, p.are_arguments.form, q.are_arguments.form)
one_job ws (asked.Asm i o) other p q = absurd (differ ws (asked.Asm i o) other p q refl refl)
one_job ws (asked.Join i s o) (asked.Join i2 s2 o2) p q =
    cc (p.words_are, q.words_are, p.are_arguments.form, q.are_arguments.form)
one_job ws (asked.Join i s o) other p q = absurd (differ ws (asked.Join i s o) other p q refl refl)
one_job ws (asked.Help t) (asked.Help t2) p q =
    ap asked.Help (same_topic t t2 (cc (p.words_are, q.words_are, p.are_arguments, q.are_arguments)))
one_job ws (asked.Help t) other p q = absurd (differ ws (asked.Help t) other p q refl refl)
one_job ws asked.Version asked.Version p q = refl
one_job ws asked.Version other p q = absurd (differ ws asked.Version other p q refl refl)
one_job ws (asked.Show i o) (asked.Show i2 o2) p q =
    cc (p.words_are, q.words_are, p.are_arguments.form, q.are_arguments.form)
one_job ws (asked.Show i o) other p q = absurd (differ ws (asked.Show i o) other p q refl refl)
one_job ws (asked.Parts i x) (asked.Parts i2 x2) p q =
    let v = p.are_arguments in
    let w = q.are_arguments in
    let options : x ≡ x2 =
    same_options (cc (p.words_are, q.words_are, v.form, w.form)) v.options_spelled w.options_spelled in
    cc (p.words_are, q.words_are, v.form, w.form, options)
one_job ws (asked.Parts i x) other p q = absurd (differ ws (asked.Parts i x) other p q refl refl)
one_job ws (asked.Bound i f x) (asked.Bound i2 f2 x2) p q =
    let v = p.are_arguments in
    let w = q.are_arguments in
    let options : x ≡ x2 =
    same_options (cc (p.words_are, q.words_are, v.form, w.form)) v.options_spelled w.options_spelled in
    cc (p.words_are, q.words_are, v.form, w.form, options)
one_job ws (asked.Bound i f x) other p q = absurd (differ ws (asked.Bound i f x) other p q refl refl)
one_job ws (asked.BoundCheck i f x) (asked.BoundCheck i2 f2 x2) p q =
    let v = p.are_arguments in
    let w = q.are_arguments in
    let options : x ≡ x2 =
    same_options (cc (p.words_are, q.words_are, v.form, w.form)) v.options_spelled w.options_spelled in
    cc (p.words_are, q.words_are, v.form, w.form, options)
one_job ws (asked.BoundCheck i f x) other p q = absurd (differ ws (asked.BoundCheck i f x) other p q refl refl)
one_job ws (asked.Measure i n) (asked.Measure i2 n2) p q =
    let v = p.are_arguments in
    let w = q.are_arguments in
    let calls : n ≡ n2 =
    same_count (omega arith) (cc (p.words_are, q.words_are, v.form, w.form)) v.calls_spelled w.calls_spelled in
    cc (p.words_are, q.words_are, v.form, w.form, calls)
one_job ws (asked.Measure i n) other p q = absurd (differ ws (asked.Measure i n) other p q refl refl)
one_job ws (asked.Chart i o s n) (asked.Chart i2 o2 s2 n2) p q =
    let v = p.are_arguments in
    let w = q.are_arguments in
    let subtune : s ≡ s2 =
    same_number (omega arith) (cc (p.words_are, q.words_are, v.form, w.form)) v.subtune_spelled w.subtune_spelled in
    let calls : n ≡ n2 =
    same_count (omega arith) (cc (p.words_are, q.words_are, v.form, w.form)) v.calls_spelled w.calls_spelled in
    cc (p.words_are, q.words_are, v.form, w.form, subtune, calls)
one_job ws (asked.Chart i o s n) other p q = absurd (differ ws (asked.Chart i o s n) other p q refl refl)
