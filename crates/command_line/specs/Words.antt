-- The command line's words, and the job that they ask for.
use Rattle.std.specs.Prelude.{◌≡◌, ◌≢◌, ℕ, ◌+◌, ◌-◌, ◌*◌, ◌^◌, ◌≤◌, List, []}
use Rattle.std.specs.Prelude.{◌∷◌, map, codes, decimal, String, Ok, Option, Some, None, Bool, true, false}
use Rattle.std.specs.Global.{Global}
use Rattle.std.specs.String.{string_bytes}
use Rattle.hex.specs.Hex.{decode_sized}
use Rattle.play_model.specs.declared.options.Options.{Options}
use Rattle.play_model.specs.declared.options.System.{System}
use Rattle.play_model.specs.declared.options.System.TheVariants.{Pal, Ntsc}
use Rattle.play_model.specs.Speeds.{IsSpeed}
use Rattle.play_model.specs.State.{no_options}
use Rattle.packed_form.specs.ImagePlaces.{IsAddress, IsZeroPage}
use Rattle.command_line.specs.declared.chip.Chip.{Chip}
use Rattle.command_line.specs.declared.chip.Chip.TheVariants.{Mos6581, Mos8580}
use Rattle.command_line.specs.declared.topics.Topic.{Topic}

-- the words' bytes
abbrev pub texts : List (String Global) → List (List ℕ)
texts words = map string_bytes words

-- four hexadecimal digits, in either case, that spell an allowed address
pub record IsAddressWord (word : List ℕ) (address : ℕ) : Type 0 where
  pub high : ℕ
  pub low : ℕ
  pub digits : decode_sized word 2 ≡ Ok (high ∷ low ∷ [])
  pub value : address ≡ 256 * high + low
  pub allowed : IsAddress address

-- two hexadecimal digits, in either case, that spell an allowed zero page byte
pub record IsZeroPageWord (word : List ℕ) (zero_page : ℕ) : Type 0 where
  pub digits : decode_sized word 1 ≡ Ok (zero_page ∷ [])
  pub allowed : IsZeroPage zero_page

-- a number in decimal, without leading zeros, that is at most the limit
pub record IsNumberWord (limit : ℕ) (word : List ℕ) (number : ℕ) : Type 0 where
  pub spelled : word ≡ decimal number
  pub allowed : number ≤ limit

-- such a number that is at least 1
pub record IsCountWord (limit : ℕ) (word : List ℕ) (number : ℕ) : Type 0 where
  pub spelled : word ≡ decimal number
  pub some : 1 ≤ number
  pub allowed : number ≤ limit

-- the most frames that may be asked for
abbrev pub frame_limit : ℕ
frame_limit = 100000

-- the most plays of a subtune that may be measured
abbrev pub measure_limit : ℕ
measure_limit = 1000000

-- the most plays that may be drawn
abbrev pub chart_limit : ℕ
chart_limit = 100000

-- the greatest number that a song may be made from: of 64 bits
abbrev pub song_number_limit : ℕ
song_number_limit = 2 ^ 64 - 1

-- the greatest number of a subtune that may be asked for
abbrev pub subtune_limit : ℕ
subtune_limit = 255

-- what the program is asked to do: pack the song in one file into another, a PSID file or a raw one; copy it into
-- another file; edit it by a script, into another file; tell what a song uses; trace a song, or run a PSID file: a
-- subtune, counted from 1, and a number of frames. Of a song that is packed or traced, how it is played, and of one
-- that is packed, for which SID it is made. Or to make a song from a number, and to pack, trace and run it. Or to write
-- a listing of a PSID file's image into another file, or the bytes of a listing. Or to write the songs in two files into
-- another, as one song. Or to tell of the forms, or the version. Or to write a song as a script into another file, or
-- to tell what it costs when it is packed. Or to write numbers that bound the cycles of a packed song's calls, or to
-- check such numbers. Or to tell of each subtune of a PSID file how long it is and what its dearest call costs, within
-- a number of plays, or to write a picture of what each of so many plays of one subtune costs into another file
pub data Job : Type 0 where
  Pack : (input output : List ℕ) (psid : Bool) (address zero_page : ℕ) (options : Options)
      (chip : Chip) → Job
  Copy : (input output : List ℕ) → Job
  Edit : (input script output : List ℕ) → Job
  Check : (input : List ℕ) → Job
  Trace : (input : List ℕ) (subtune frames : ℕ) (options : Options) → Job
  Run : (input : List ℕ) (subtune frames : ℕ) → Job
  Selftest : (number : ℕ) → Job
  Disasm : (input output : List ℕ) → Job
  Asm : (input output : List ℕ) → Job
  Join : (input second output : List ℕ) → Job
  Help : (topic : Topic) → Job
  Version : Job
  Show : (input output : List ℕ) → Job
  Parts : (input : List ℕ) (options : Options) → Job
  Bound : (input output : List ℕ) (options : Options) → Job
  BoundCheck : (input certificate : List ℕ) (options : Options) → Job
  Measure : (input : List ℕ) (calls : ℕ) → Job
  Chart : (input output : List ℕ) (subtune calls : ℕ) → Job

-- the word for what is left out of a frame: the effect step, the pulse step where a row is fetched, and the pulse step
-- between two patterns. The other three choices have none
abbrev pub skip_word : Bool → Bool → Bool → Option (List ℕ)
skip_word false false false = Some (codes "none")
skip_word true false false = Some (codes "effects")
skip_word false true false = Some (codes "pulse")
skip_word true true false = Some (codes "both")
skip_word true true true = Some (codes "all")
skip_word false false true = None
skip_word true false true = None
skip_word false true true = None

-- a digit from 1 to 4
pub record IsSpeedWord (word : List ℕ) (speed : ℕ) : Type 0 where
  pub spelled : word ≡ decimal speed
  pub allowed : IsSpeed speed

-- how a song is played, on the PAL system: without words nothing is left out and the speed is 1, else the words are
-- `SKIP SPEED`
pub data AreOptionWords : List (List ℕ) → Options → Type 0 where
  unsaid : AreOptionWords [] no_options
  said : {word speed_word : List ℕ} (options : Options) →
      skip_word options.skip_effects options.skip_pulse options.skip_first ≡ Some word →
      IsSpeedWord speed_word options.speed → options.system ≡ Pal →
      AreOptionWords (word ∷ speed_word ∷ []) options

-- the word for the system
abbrev pub system_word : System → List ℕ
system_word Pal = codes "pal"
system_word Ntsc = codes "ntsc"

-- the word for the SID
abbrev pub chip_word : Chip → List ℕ
chip_word Mos6581 = codes "6581"
chip_word Mos8580 = codes "8580"

-- how a song is played that is packed, and for which SID it is made: as above and for the 6581, or the words are
-- `SKIP SPEED SYSTEM CHIP`
pub data ArePackOptionWords : List (List ℕ) → Options → Chip → Type 0 where
  untold : {words : List (List ℕ)} {options : Options} → AreOptionWords words options →
      ArePackOptionWords words options Mos6581
  told : {skip speed : List ℕ} {options : Options} → AreOptionWords (skip ∷ speed ∷ []) options →
      (system : System) (chip : Chip) →
      ArePackOptionWords (skip ∷ speed ∷ system_word system ∷ chip_word chip ∷ [])
      (record options { system = system }) chip

-- the word for the format of a packed file
abbrev pub format_word : Bool → List ℕ
format_word true = codes "psid"
format_word false = codes "raw"

-- the arguments are `IN OUT psid ADDRESS ZP`, or `raw` in place of `psid`, and then how the song is played and for
-- which SID it is made
pub record ArePackArguments (arguments : List (List ℕ)) (input output : List ℕ) (psid : Bool) (address zero_page : ℕ)
    (options : Options) (chip : Chip) : Type 0 where
  pub address_word : List ℕ
  pub zero_page_word : List ℕ
  pub option_words : List (List ℕ)
  pub form : arguments ≡ input ∷ output ∷ format_word psid ∷ address_word ∷ zero_page_word ∷ option_words
  pub in_named : input ≢ []
  pub out_named : output ≢ []
  pub address_spelled : IsAddressWord address_word address
  pub zero_page_spelled : IsZeroPageWord zero_page_word zero_page
  pub options_spelled : ArePackOptionWords option_words options chip

-- the arguments are `IN SUBTUNE FRAMES`, and then how the song is played
pub record AreTraceArguments (arguments : List (List ℕ)) (input : List ℕ) (subtune frames : ℕ)
    (options : Options) : Type 0 where
  pub subtune_word : List ℕ
  pub frames_word : List ℕ
  pub option_words : List (List ℕ)
  pub form : arguments ≡ input ∷ subtune_word ∷ frames_word ∷ option_words
  pub in_named : input ≢ []
  pub subtune_spelled : IsNumberWord subtune_limit subtune_word subtune
  pub frames_spelled : IsNumberWord frame_limit frames_word frames
  pub options_spelled : AreOptionWords option_words options

-- the arguments are `IN SUBTUNE FRAMES`, with a subtune of at most 255 and at most 100,000 frames
pub record AreRunArguments (arguments : List (List ℕ)) (input : List ℕ) (subtune frames : ℕ) : Type 0 where
  pub subtune_word : List ℕ
  pub frames_word : List ℕ
  pub form : arguments ≡ input ∷ subtune_word ∷ frames_word ∷ []
  pub in_named : input ≢ []
  pub subtune_spelled : IsNumberWord subtune_limit subtune_word subtune
  pub frames_spelled : IsNumberWord frame_limit frames_word frames

-- the argument is a number, of 64 bits at most
pub record AreSelftestArguments (arguments : List (List ℕ)) (number : ℕ) : Type 0 where
  pub number_word : List ℕ
  pub form : arguments ≡ number_word ∷ []
  pub number_spelled : IsNumberWord song_number_limit number_word number

-- the arguments are `IN SKIP SPEED`
pub record ArePartsArguments (arguments : List (List ℕ)) (input : List ℕ) (options : Options) : Type 0 where
  pub skip_word : List ℕ
  pub speed_word : List ℕ
  pub form : arguments ≡ input ∷ skip_word ∷ speed_word ∷ []
  pub in_named : input ≢ []
  pub options_spelled : AreOptionWords (skip_word ∷ speed_word ∷ []) options

-- the arguments are `IN OUT SKIP SPEED`, or `IN CERT SKIP SPEED`
pub record AreBoundArguments (arguments : List (List ℕ)) (input other : List ℕ) (options : Options) : Type 0 where
  pub skip_word : List ℕ
  pub speed_word : List ℕ
  pub form : arguments ≡ input ∷ other ∷ skip_word ∷ speed_word ∷ []
  pub in_named : input ≢ []
  pub other_named : other ≢ []
  pub options_spelled : AreOptionWords (skip_word ∷ speed_word ∷ []) options

-- the arguments are `IN CALLS`, with 1 to 1,000,000 calls
pub record AreMeasureArguments (arguments : List (List ℕ)) (input : List ℕ) (calls : ℕ) : Type 0 where
  pub calls_word : List ℕ
  pub form : arguments ≡ input ∷ calls_word ∷ []
  pub in_named : input ≢ []
  pub calls_spelled : IsCountWord measure_limit calls_word calls

-- the arguments are `IN OUT SUBTUNE CALLS`, with a subtune of at most 255 and 1 to 100,000 calls
pub record AreChartArguments (arguments : List (List ℕ)) (input output : List ℕ) (subtune calls : ℕ) : Type 0 where
  pub subtune_word : List ℕ
  pub calls_word : List ℕ
  pub form : arguments ≡ input ∷ output ∷ subtune_word ∷ calls_word ∷ []
  pub in_named : input ≢ []
  pub out_named : output ≢ []
  pub subtune_spelled : IsNumberWord subtune_limit subtune_word subtune
  pub calls_spelled : IsCountWord chart_limit calls_word calls

-- the numbers of a job are allowed: an image can stand at the address and have the two bytes of page 0, there are at
-- most 100,000 frames, 1 to 1,000,000 plays that are measured, and 1 to 100,000 that are drawn
abbrev pub HasAllowedNumbers : Job → Type 0
HasAllowedNumbers (Pack input output psid address zero_page options chip) = IsAddress address × IsZeroPage zero_page
HasAllowedNumbers (Trace input subtune frames options) = frames ≤ frame_limit
HasAllowedNumbers (Run input subtune frames) = frames ≤ frame_limit
HasAllowedNumbers (Measure input calls) = (1 ≤ calls) × (calls ≤ measure_limit)
HasAllowedNumbers (Chart input output subtune calls) = (1 ≤ calls) × (calls ≤ chart_limit)
HasAllowedNumbers _ = Unit {0}
