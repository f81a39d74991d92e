-- What a reader may rely on: a text is read in one way, and the listing of an image gives the image.
use Rattle.std.specs.Prelude.{◌≡◌, ℕ, ◌+◌, ◌≤◌, List, [], length, None}
use Rattle.base.specs.Bytes.{IsWord, AreBytes}
use Rattle.cpu6502.specs.declared.memory.TheConstants.{MEMORY_SIZE}
use Rattle.asm6502.specs.declared.assembled.Assembled.{Assembled}
use Rattle.asm6502.specs.Assembly.{assembled_bytes, assembled_fixes}
use Rattle.asm_text.specs.declared.statements.Statement.{Statement}
use Rattle.asm_text.specs.declared.statements.Written.{Written}
use Rattle.asm_text.specs.declared.faults.TextFault.{TextFault}
use Rattle.asm_text.specs.declared.reading.TheConstants.{MOST_BYTES}
use Rattle.asm_text.specs.Lines.{Spells, SaysNothing, IsListing}
use Rattle.asm_text.specs.Laying.{listing_at}
use Rattle.asm_text.specs.Faults.{fault_in, IsFaultOf, Reads}
use Rattle.asm_text.specs.Printing.{listing_of}

-- a text may have 1,048,576 bytes
abbrev pub ConstantIs : Type 0
ConstantIs = MOST_BYTES ≡ 1048576

-- a line says one thing: nothing, or one statement
pub record SaysOneThing (line : List ℕ) : Type 0 where
  pub one : (statement other : Statement) → Spells line statement → Spells line other → statement ≡ other
  pub never_both : (statement : Statement) → SaysNothing line → Spells line statement → ⊥

abbrev pub LinesSayOneThing : Type 0
LinesSayOneThing = (line : List ℕ) → SaysOneThing line

-- two results have the same origin, bytes and fixes
pub record AreSame (one other : Assembled) : Type 0 where
  pub origins : one.origin ≡ other.origin
  pub bytes : one.bytes ≡ other.bytes
  pub fixes : one.fixes ≡ other.fixes

-- a text is read to one result, or has one fault, and never both
pub record ReadsInOneWay (text : List ℕ) : Type 0 where
  pub one_result : (one other : Assembled) → Reads text one → Reads text other → AreSame one other
  pub one_fault : (one other : TextFault) → IsFaultOf text one → IsFaultOf text other → one ≡ other
  pub never_both : (result : Assembled) (fault : TextFault) → Reads text result → IsFaultOf text fault → ⊥

abbrev pub TextsReadInOneWay : Type 0
TextsReadInOneWay = (text : List ℕ) → ReadsInOneWay text

-- the listing of an image is a listing with its origin; nothing is wrong with it; and its statements give the image,
-- none of whose bytes are addresses of labels
pub record ReadsBack (origin : ℕ) (image : List ℕ) : Type 0 where
  pub script : List Written
  pub listing : IsListing (listing_of origin image) origin script
  pub sound : fault_in origin script ≡ None
  pub bytes : assembled_bytes 0 origin (listing_at origin script) ≡ image
  pub fixes : assembled_fixes 0 (listing_at origin script) ≡ []

abbrev pub ListingsReadBack : Type 0
ListingsReadBack =
    (origin : ℕ) (image : List ℕ) → IsWord origin → origin + length image ≤ MEMORY_SIZE → AreBytes image →
    ReadsBack origin image

-- so what is read from the listing of an image is the image at its origin
abbrev pub WhatIsPrintedIsRead : Type 0
WhatIsPrintedIsRead =
    (origin : ℕ) (image : List ℕ) (result : Assembled) → IsWord origin → origin + length image ≤ MEMORY_SIZE →
    AreBytes image → Reads (listing_of origin image) result → (result.origin ≡ origin) × (result.bytes ≡ image)
    × (result.fixes ≡ [])

-- and it has no fault
abbrev pub WhatIsPrintedHasNoFault : Type 0
WhatIsPrintedHasNoFault =
    (origin : ℕ) (image : List ℕ) (fault : TextFault) → IsWord origin → origin + length image ≤ MEMORY_SIZE →
    AreBytes image → IsFaultOf (listing_of origin image) fault → ⊥
