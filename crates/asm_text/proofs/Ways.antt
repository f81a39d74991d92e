-- A text is read in one way, and what is printed is read back.
use Rattle.std.proofs.Common.{◌≡◌, ℕ, List, Option, Some, None, Result, Ok, Err, OnOk, IfOk, IfErr, MatchResult}
use Rattle.std.proofs.Common.{◌⊎◌, inl, inr, sym, ap, ◌∙◌, subst}
use Rattle.base.proofs.Laws.{same_some}
use Rattle.asm6502.specs.declared.assembled.Assembled.{Assembled}
use Rattle.asm6502.specs.Moving.{IsAssembly}
use Rattle.asm6502.specs.Assembly.{assembled_bytes, assembled_fixes}
use Rattle.asm_text.specs.declared.statements.Written.{Written}
use Rattle.asm_text.specs.declared.faults.TextFault.{TextFault}
use Rattle.asm_text.specs.declared.faults.TextKind.TheVariants.{BadLine, NoMemory}
use Rattle.asm_text.specs.Lines.{IsListing, IsBadAt}
use Rattle.asm_text.specs.Laying.{listing_at}
use Rattle.asm_text.specs.Faults.{fault_in, IsFaultOf, bad_line, in_script, Reads}
use Rattle.asm_text.specs.Laws.{LinesSayOneThing, AreSame, TextsReadInOneWay, WhatIsPrintedIsRead, WhatIsPrintedHasNoFault}
use Rattle.asm_text.proofs.WordLaws.{spells_one}
use Rattle.asm_text.proofs.TextLaws.{nothing_spells}
use Rattle.asm_text.proofs.SameTexts.{IsOneListing, one_listing, one_bad_line, no_bad_line}
use Rattle.asm_text.proofs.Round.{listings_read_back}

pub lines_say_one_thing : LinesSayOneThing
lines_say_one_thing line = record {
  one = λ statement other p q. spells_one line statement other p q;
  never_both = λ statement says spells. nothing_spells line statement says spells;
}

same_fault : (one other : ℕ) (script second : List Written) (fault : Option TextFault) →
    IsOneListing one other script second → fault_in one script ≡ fault → fault_in other second ≡ fault
same_fault one other script second fault same h =
    ap (λ o. fault_in o second) (sym same.origins) ∙ ap (fault_in one) (sym same.scripts) ∙ h

same_results : (text : List ℕ) (one other : Assembled) → Reads text one → Reads text other → AreSame one other
same_results text one other p q =
    let same = one_listing text p.origin q.origin p.script q.script p.listing q.listing in
    let lines : listing_at p.origin p.script ≡ listing_at q.origin q.script =
    ap (λ o. listing_at o p.script) same.origins ∙ ap (listing_at q.origin) same.scripts in
    record {
      origins = p.given.origin_is ∙ same.origins ∙ sym q.given.origin_is;
      bytes =
          p.given.bytes_are ∙ ap (λ o. assembled_bytes 0 o (listing_at p.origin p.script)) same.origins
          ∙ ap (assembled_bytes 0 q.origin) lines ∙ sym q.given.bytes_are;
      fixes = p.given.fixes_are ∙ ap (assembled_fixes 0) lines ∙ sym q.given.fixes_are;
    }

never_read : (text : List ℕ) (result : Assembled) (fault : TextFault) → Reads text result → IsFaultOf text fault → ⊥
never_read text result fault p (bad_line kind bad) =
    no_bad_line text p.origin p.script fault.line p.listing bad
never_read text result fault p (in_script origin script listing found) =
    let same = one_listing text p.origin origin p.script script p.listing listing in
    let none = same_fault p.origin origin p.script script None same p.sound in
    absurd (cc (none, found))

fault_of_parts : (one other : TextFault) → one.line ≡ other.line → one.kind ≡ other.kind → one ≡ other
fault_of_parts one other lines kinds = λ i. record { line = lines i; kind = kinds i }

same_faults : (text : List ℕ) (one other : TextFault) → IsFaultOf text one → IsFaultOf text other → one ≡ other
same_faults text one other (bad_line kind bad) (bad_line kind2 bad2) =
    fault_of_parts one other (one_bad_line text one.line other.line bad bad2) (kind ∙ sym kind2)
same_faults text one other (bad_line kind bad) (in_script origin script listing found) =
    absurd (no_bad_line text origin script one.line listing bad)
same_faults text one other (in_script origin script listing found) (bad_line kind bad) =
    absurd (no_bad_line text origin script other.line listing bad)
same_faults text one other (in_script origin script listing found) (in_script origin2 script2 listing2 found2) =
    let same = one_listing text origin origin2 script script2 listing listing2 in
    same_some one other (sym (same_fault origin origin2 script script2 (Some one) same found) ∙ found2)

pub texts_read_in_one_way : TextsReadInOneWay
texts_read_in_one_way text = record {
  one_result = λ one other p q. same_results text one other p q;
  one_fault = λ one other p q. same_faults text one other p q;
  never_both = λ result fault p q. never_read text result fault p q;
}

pub what_is_printed_is_read : WhatIsPrintedIsRead
what_is_printed_is_read origin image result low fits are p =
    let back = listings_read_back origin image low fits are in
    let same = one_listing _ p.origin origin p.script back.script p.listing back.listing in
    let lines : listing_at p.origin p.script ≡ listing_at origin back.script =
    ap (λ o. listing_at o p.script) same.origins ∙ ap (listing_at origin) same.scripts in (
      p.given.origin_is ∙ same.origins,
      p.given.bytes_are ∙ ap (λ o. assembled_bytes 0 o (listing_at p.origin p.script)) same.origins
          ∙ ap (assembled_bytes 0 origin) lines ∙ back.bytes,
      p.given.fixes_are ∙ ap (assembled_fixes 0) lines ∙ back.fixes,
    )

-- a listing with which nothing is wrong has no fault
pub sound_listings_have_no_fault : (text : List ℕ) (origin : ℕ) (script : List Written) (fault : TextFault) →
    IsListing text origin script → fault_in origin script ≡ None → IsFaultOf text fault → ⊥
sound_listings_have_no_fault text origin script fault listing sound (bad_line kind bad) =
    no_bad_line text origin script fault.line listing bad
sound_listings_have_no_fault text origin script fault listing sound (in_script origin2 script2 listing2 found) =
    let same = one_listing text origin origin2 script script2 listing listing2 in
    let none = same_fault origin origin2 script script2 None same sound in
    absurd (cc (none, found))

pub what_is_printed_has_no_fault : WhatIsPrintedHasNoFault
what_is_printed_has_no_fault origin image fault low fits are wrong =
    let back = listings_read_back origin image low fits are in
    sound_listings_have_no_fault _ origin back.script fault back.listing back.sound wrong

-- ---- what is answered

-- the answer is what the text gives, or its fault, or want of memory
pub record IsAnswered (text : List ℕ) (result : Result Assembled TextFault) : Type 0 where
  pub found : IfOk result (Reads text)
  pub fault : IfErr result (λ fault. (fault.kind ≡ NoMemory) ⊎ IsFaultOf text fault)
  pub only : (given : Assembled) → Reads text given → IfErr result (λ fault. fault.kind ≡ NoMemory)
  pub exact : (wrong : TextFault) → IsFaultOf text wrong →
      MatchResult result (λ _. ⊥) (λ fault. (fault.kind ≡ NoMemory) ⊎ (fault ≡ wrong))

answered_fault : (text : List ℕ) (fault : TextFault) → (fault.kind ≡ NoMemory) ⊎ IsFaultOf text fault →
    IsAnswered text (Err fault)
answered_fault text fault (inl out) =
    record { found = tt; fault = inl out; only = λ given reads. out; exact = λ wrong is. inl out }
answered_fault text fault (inr is) = record {
  found = tt;
  fault = inr is;
  only = λ given reads. absurd (never_read text given fault reads is);
  exact = λ wrong other. inr (same_faults text fault wrong is other);
}

-- where the statements of a listing were assembled or refused
pub answered : (text : List ℕ) (origin : ℕ) (script slice : List Written) (result : Result Assembled TextFault) →
    IsListing text origin script → slice ≡ script → OnOk result (fault_in origin slice ≡ None) →
    IfOk result (λ done. IsAssembly done 0 origin (listing_at origin slice)) →
    IfErr result (λ fault. (fault.kind ≡ NoMemory) ⊎ (fault_in origin slice ≡ Some fault)) →
    IsAnswered text result
answered text origin script slice (Ok done) is same sound given h =
    let reads : Reads text done = record {
      origin = origin;
      script = script;
      listing = is;
      sound = ap (fault_in origin) (sym same) ∙ sound;
      given = subst (λ ws. IsAssembly done 0 origin (listing_at origin ws)) same given;
    } in
    record {
      found = reads;
      fault = h;
      only = λ other also. h;
      exact = λ wrong is. never_read text done wrong reads is;
    }
answered text origin script slice (Err fault) is same sound given (inl out) = answered_fault text fault (inl out)
answered text origin script slice (Err fault) is same sound given (inr found) =
    answered_fault text fault (inr (in_script origin script is (ap (fault_in origin) (sym same) ∙ found)))

-- where its lines were refused
pub answered_bad : (text : List ℕ) (fault answered : TextFault) → answered ≡ fault →
    (fault.kind ≡ NoMemory) ⊎ ((fault.kind ≡ BadLine) × IsBadAt text fault.line) → IsAnswered text (Err answered)
answered_bad text fault answered same (inl out) =
    answered_fault text answered (inl (ap (λ (f : TextFault). f.kind) same ∙ out))
answered_bad text fault answered same (inr (kind, bad)) =
    answered_fault text answered (inr (subst (IsFaultOf text) (sym same) (bad_line kind bad)))
