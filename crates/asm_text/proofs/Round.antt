-- Reading the listing of an image gives the image.
use Rattle.std.proofs.Common.{◌≡◌, ℕ, ◌+◌, ◌/◌, ◌%◌, ◌<◌, ◌≤◌, Bool, true, false}
use Rattle.std.proofs.Common.{◌&&◌, not, List, [], ◌∷◌, ◌++◌, length, eqb, if◌then◌else◌, codes}
use Rattle.std.proofs.Common.{None, refl, sym, ap, ◌∙◌, subst, append_assoc, length-append, arith}
use Rattle.std.specs.List.{All}
use Rattle.std.proofs.lemmas.Bool.{and_parts, false≢true, and_from, not-true}
use Rattle.std.proofs.lemmas.List.Elements.{All-nil, All-cons}
use Rattle.std.proofs.lemmas.List.Splits.{slice_split_at}
use Rattle.base.specs.Bytes.{AreBytes}
use Rattle.cpu6502.specs.declared.memory.TheConstants.{MEMORY_SIZE}
use Rattle.cpu6502.specs.declared.mnemonic.Mnemonic.{Mnemonic}
use Rattle.cpu6502.specs.declared.mnemonic.Mnemonic.TheVariants.{Adc}
use Rattle.cpu6502.specs.declared.mnemonic.Mode.{Mode}
use Rattle.cpu6502.specs.declared.mnemonic.Mode.TheVariants.{Implied}
use Rattle.asm6502.specs.Operands.{takes_label}
use Rattle.asm6502.specs.Lines.{address_in, item_size}
use Rattle.asm6502.specs.Assembly.{item_bytes, item_fixes, along, bytes_of, fixes_of}
use Rattle.asm_text.specs.declared.statements.Operand.{Operand}
use Rattle.asm_text.specs.declared.statements.Operand.TheVariants.{Nothing, Number, Label as LabelOf}
use Rattle.asm_text.specs.declared.statements.Statement.{Statement}
use Rattle.asm_text.specs.declared.statements.Statement.TheVariants.{Label, Byte, Code}
use Rattle.asm_text.specs.declared.statements.Written.{Written}
use Rattle.asm_text.specs.Names.{letters_of}
use Rattle.asm_text.specs.Numbers.{byte_digits, word_digits}
use Rattle.asm_text.specs.Statements.{before, behind, digits, operand_text, OperandInRange, InRange, size, spelling, origin_text}
use Rattle.asm_text.specs.Lines.{Spells, IsListing, parts, Say, over, something}
use Rattle.asm_text.specs.Laying.{item_at, listing_at, size_of}
use Rattle.asm_text.specs.Printing.{statements_of, lines_of, listing_of}
use Rattle.asm_text.specs.Faults.{is_double, is_unknown, is_far_at, is_far, first_found, fault_in}
use Rattle.asm_text.specs.Laws.{ListingsReadBack}
use Rattle.asm_text.proofs.Laid.{kept_all, size_one_more}
use Rattle.asm_text.proofs.Digits.{no_feed, high_half, low_half, high_byte, low_byte}
use Rattle.asm_text.proofs.Tests.{end_none}
use Rattle.asm_text.proofs.Follows.{is_plain, Follow, ended, next, numbered, follows}

-- ---- they give the image, and nothing is wrong with them

item_long : (pc : ℕ) (statement : Statement) → item_size (item_at pc statement) ≡ size statement
item_long pc (Label label) = refl
item_long pc (Byte byte) = refl
item_long pc (Code mnemonic mode operand) = refl

pub follow_bytes : {pc number : ℕ} {script : List Written} {bytes : List ℕ} → Follow pc number script bytes →
    (address : ℕ → ℕ) → bytes_of address pc (listing_at pc script) ≡ bytes
follow_bytes ended address = refl
follow_bytes (next {pc} {number} {statement} {here} {rest} {script} is more) address =
    ap (λ bs. bs ++ along (item_bytes address) (pc + item_size (item_at pc statement)) (listing_at (pc + size statement) script))
    (is.laid address)
    ∙ ap (λ n. here ++ along (item_bytes address) (pc + n) (listing_at (pc + size statement) script))
    (item_long pc statement)
    ∙ ap (λ bs. here ++ bs) (follow_bytes more address)

pub follow_fixes : {pc number : ℕ} {script : List Written} {bytes : List ℕ} → Follow pc number script bytes →
    (place : ℕ → ℕ) (at : ℕ) → fixes_of place at (listing_at pc script) ≡ []
follow_fixes ended place at = refl
follow_fixes (next {pc} {number} {statement} {here} {rest} {script} is more) place at =
    ap
    (λ fs. fs
    ++ along (item_fixes place) (at + item_size (item_at pc statement)) (listing_at (pc + size statement) script))
    (is.free place at)
    ∙ follow_fixes more place (at + item_size (item_at pc statement))

pub follow_size : {pc number : ℕ} {script : List Written} {bytes : List ℕ} → Follow pc number script bytes →
    size_of script ≡ length bytes
follow_size ended = refl
follow_size (next {here} {rest} is more) =
    omega (arith, is.long, follow_size more, length-append here rest)

plain_double : (front : List Written) (statement : Statement) → is_plain statement ≡ true →
    is_double front statement ≡ false
plain_double front (Label label) h = absurd (false≢true h)
plain_double front (Byte byte) h = refl
plain_double front (Code mnemonic mode operand) h = refl

plain_unknown : (script front : List Written) (statement : Statement) → is_plain statement ≡ true →
    is_unknown script front statement ≡ false
plain_unknown script front (Label label) h = refl
plain_unknown script front (Byte byte) h = refl
plain_unknown script front (Code mnemonic mode Nothing) h = refl
plain_unknown script front (Code mnemonic mode (Number number)) h = refl
plain_unknown script front (Code mnemonic mode (LabelOf label)) h = absurd (false≢true h)

no_doubles : {pc number : ℕ} {script : List Written} {bytes : List ℕ} → Follow pc number script bytes →
    (front : List Written) → first_found is_double front script ≡ None
no_doubles ended front = refl
no_doubles (next {number} {statement} is more) front =
    rw (plain_double front statement is.plain)
    (no_doubles more (front ++ record { line = number; statement = statement } ∷ []))

no_unknowns : {pc number : ℕ} {script : List Written} {bytes : List ℕ} → Follow pc number script bytes →
    (all front : List Written) → first_found (is_unknown all) front script ≡ None
no_unknowns ended all front = refl
no_unknowns (next {number} {statement} is more) all front =
    rw (plain_unknown all front statement is.plain)
    (no_unknowns more all (front ++ record { line = number; statement = statement } ∷ []))

no_far : {pc number : ℕ} {script : List Written} {bytes : List ℕ} → Follow pc number script bytes →
    (origin : ℕ) (all front : List Written) → pc ≡ origin + size_of front →
    first_found (is_far origin all) front script ≡ None
no_far ended origin all front place = refl
no_far (next {pc} {number} {statement} is more) origin all front place =
    let written : Written = record { line = number; statement = statement } in
    let near : is_far origin all front statement ≡ false =
    ap (λ n. is_far_at (address_in (listing_at origin all) origin) n statement) (sym place)
    ∙ is.near (address_in (listing_at origin all) origin) in
    rw near
    (no_far more origin all (front ++ record { line = number; statement = statement } ∷ [])
    (omega (arith, place, size_one_more front (record { line = number; statement = statement }))))

-- ---- their lines are read as they are

-- no byte of a text is a line feed
abbrev is_free : List ℕ → Bool
is_free [] = true
is_free (byte ∷ rest) = not (eqb byte 10) && is_free rest

free-append : (front back : List ℕ) → is_free front ≡ true → is_free back ≡ true → is_free (front ++ back) ≡ true
free-append [] back h e = e
free-append (byte ∷ front) back h e =
    let parts = and_parts (not (eqb byte 10)) (is_free front) h in
    and_from (not (eqb byte 10)) (is_free (front ++ back)) parts.0 (free-append front back parts.1 e)

free_all : (text : List ℕ) → is_free text ≡ true → All (λ byte. eqb byte 10 ≡ false) text
free_all [] h = All-nil (λ byte. eqb byte 10 ≡ false)
free_all (byte ∷ rest) h =
    let parts = and_parts (not (eqb byte 10)) (is_free rest) h in
    All-cons (λ byte. eqb byte 10 ≡ false) byte rest (not-true (eqb byte 10) parts.0) (free_all rest parts.1)

free_byte : (byte : ℕ) → byte < 256 → is_free (byte_digits byte) ≡ true
free_byte byte lt =
    let one = no_feed (byte / 16) (high_half byte lt) in
    let two = no_feed (byte % 16) (low_half byte) in
    rw (one, two) refl

free_word : (word : ℕ) → word < 65536 → is_free (word_digits word) ≡ true
free_word word lt =
    free-append (byte_digits (word / 256)) (byte_digits (word % 256)) (free_byte (word / 256) (high_byte word lt))
    (free_byte (word % 256) (low_byte word))

free_digits : (y : Bool) (n : ℕ) → n < 65536 →
    is_free (if y then word_digits n else byte_digits (n % 256)) ≡ true
free_digits true n lt = free_word n lt
free_digits false n lt = free_byte (n % 256) (low_byte n)

free_before : (mode : Mode) → is_free (before mode) ≡ true
free_before Implied = refl
free_before mode = refl

free_behind : (mode : Mode) → is_free (behind mode) ≡ true
free_behind Implied = refl
free_behind mode = refl

free_operand : (mode : Mode) (operand : Operand) → OperandInRange operand → is_free (operand_text mode operand) ≡ true
free_operand mode Nothing range = free_before mode
free_operand mode (Number n) range =
    free-append (before mode ++ codes "$" ++ digits mode n) (behind mode)
    (free-append (before mode ++ codes "$") (digits mode n)
    (free-append (before mode) (codes "$") (free_before mode) refl) (free_digits (takes_label mode) n range))
    (free_behind mode)
free_operand mode (LabelOf n) range =
    free-append (before mode ++ codes "L" ++ word_digits n) (behind mode)
    (free-append (before mode ++ codes "L") (word_digits n)
    (free-append (before mode) (codes "L") (free_before mode) refl) (free_word n range)) (free_behind mode)

free_letters : (mnemonic : Mnemonic) → is_free (letters_of mnemonic) ≡ true
free_letters Adc = refl
free_letters mnemonic = refl

free_spelling : (statement : Statement) → InRange statement → is_free (spelling statement) ≡ true
free_spelling (Label label) range =
    free-append (codes "L" ++ word_digits label) (codes ":")
    (free-append (codes "L") (word_digits label) refl (free_word label range)) refl
free_spelling (Byte byte) range = free-append (codes ".byte $") (byte_digits byte) refl (free_byte byte range)
free_spelling (Code mnemonic mode operand) range =
    free-append (letters_of mnemonic) (operand_text mode operand) (free_letters mnemonic)
    (free_operand mode operand range)

free_origin : (origin : ℕ) → origin < 65536 → is_free (origin_text origin) ≡ true
free_origin origin lt = free-append (codes "* = $") (word_digits origin) refl (free_word origin lt)

cut_line : (line text : List ℕ) → is_free line ≡ true → parts ((line ++ 10 ∷ []) ++ text) ≡ line ∷ parts text
cut_line line text h =
    ap parts (append_assoc line (10 ∷ []) text)
    ∙ slice_split_at (λ byte. eqb byte 10) line 10 text (free_all line h) refl

-- the text of statements, line by line
abbrev text_of : List Written → List ℕ
text_of [] = []
text_of (written ∷ rest) = (spelling written.statement ++ 10 ∷ []) ++ text_of rest

text_same : (number : ℕ) (statements : List Statement) → text_of (numbered number statements) ≡ lines_of statements
text_same number [] = refl
text_same number (statement ∷ rest) =
    ap (λ text. (spelling statement ++ 10 ∷ []) ++ text) (text_same (number + 1) rest)

said : {pc number : ℕ} {script : List Written} {bytes : List ℕ} → Follow pc number script bytes →
    Say number (parts (text_of script)) script
said ended = over
said (next {pc} {number} {statement} {here} {rest} {script} is more) =
    let spells : Spells (spelling statement) statement = record { right = is.right; range = is.range; text = refl } in
    subst (λ ls. Say number ls (record { line = number; statement = statement } ∷ script))
    (sym (cut_line (spelling statement) (text_of script) (free_spelling statement is.range)))
    (something statement spells (said more))

-- ---- the law

abbrev script_of : ℕ → List ℕ → List Written
script_of origin image = numbered 2 (statements_of (length image) origin image)

follows_image : (origin : ℕ) (image : List ℕ) → origin + length image ≤ MEMORY_SIZE → AreBytes image →
    Follow origin 2 (script_of origin image) image
follows_image origin image fits are = follows (length image) 2 origin image (omega arith) fits are

is_listing : (origin : ℕ) (image : List ℕ) → origin < 65536 → Follow origin 2 (script_of origin image) image →
    IsListing (listing_of origin image) origin (script_of origin image)
is_listing origin image low f =
    let lines = lines_of (statements_of (length image) origin image) in
    record {
      first = origin_text origin;
      others = parts (lines_of (statements_of (length image) origin image));
      cut =
          cut_line (origin_text origin) (lines_of (statements_of (length image) origin image))
          (free_origin origin low);
      origin_line = record { range = low; text = refl };
      say =
          subst (λ text. Say 2 (parts text) (script_of origin image))
          (text_same 2 (statements_of (length image) origin image)) (said f);
    }

is_sound : (origin : ℕ) (image : List ℕ) → origin + length image ≤ MEMORY_SIZE →
    Follow origin 2 (script_of origin image) image → fault_in origin (script_of origin image) ≡ None
is_sound origin image fits f =
    let script = script_of origin image in
    let one = no_doubles f [] in
    let two = no_unknowns f (script_of origin image) [] in
    let three = end_none origin [] (script_of origin image) (omega (arith, follow_size f, fits)) in
    let four = no_far f origin (script_of origin image) [] (omega arith) in
    rw (one, two, three, four) refl

pub listings_read_back : ListingsReadBack
listings_read_back origin image low fits are =
    let f = follows_image origin image fits are in
    record {
      script = script_of origin image;
      listing = is_listing origin image low f;
      sound = is_sound origin image fits f;
      bytes =
          ap (λ ls. bytes_of (address_in ls origin) origin ls) (kept_all origin (script_of origin image))
          ∙ follow_bytes f (address_in (listing_at origin (script_of origin image)) origin);
      fixes =
          ap (λ ls. fixes_of (address_in ls 0) 0 ls) (kept_all origin (script_of origin image))
          ∙ follow_fixes f (address_in (listing_at origin (script_of origin image)) 0) 0;
    }
