-- The text of statements is a script of their edits, each with the number of its line.
use Rattle.std.proofs.Common.{◌≡◌, ℕ, zero, suc, ◌+◌, ◌*◌, ◌-◌, ◌<◌, true, eqb, codes, List, []}
use Rattle.std.proofs.Common.{◌∷◌, ◌++◌, length, replicate, All, Ok, refl, sym, ap, ◌∙◌, subst, arith}
use Rattle.std.specs.List.{flat_map, slice_split}
use Rattle.std.specs.Str.Lines.{lines, lines_of_parts, strip_carriage_return}
use Rattle.std.proofs.lemmas.List.{append_assoc}
use Rattle.std.proofs.lemmas.List.Elements.{All-nil, All-cons}
use Rattle.std.proofs.lemmas.List.Splits.{slice_split_at, length-slice_split}
use Rattle.hex.specs.Hex.{decode_sized, encode_upper, upper_digits, IsBytes}
use Rattle.hex.proofs.HexLemmas.{decode_sized-twice, decode_of-encode_upper, length-encode_with}
use Rattle.base.specs.Bytes.{IsByte}
use Rattle.base.proofs.Laws.{All-get_or_any}
use Rattle.edit_ops.specs.declared.edits.Edit.{Edit}
use Rattle.edit_script.specs.declared.commands.Action.TheVariants as action
use Rattle.edit_script.specs.declared.commands.Command.{Command}
use Rattle.edit_script.specs.Forms.{Argument, numbers, edit_form}
use Rattle.edit_script.specs.Spells.{SaysNothing, comment, AreSpelled, Spells}
use Rattle.edit_script.specs.Scripts.{LinesGive, none, nothing, something}
use Rattle.song_script.specs.Statements.{Statement, Comment, Do, argument_text, edit_text, text_of, each_from}
use Rattle.song_script.proofs.FreeLaws.{are_free, free_append, edit_free, no_feed, no_return}

-- ---- arguments are spelled

-- numbers that a byte holds, one after the other
pub data AreSmall : List ℕ → Type 0 where
  done : AreSmall []
  next : {byte : ℕ} {bytes : List ℕ} → byte < 256 → AreSmall bytes → AreSmall (byte ∷ bytes)

abbrev pub AreArguments : List Argument → Type 0
AreArguments [] = Unit {0}
AreArguments (argument ∷ arguments) =
    (length argument.bytes ≡ argument.size) × All IsByte argument.bytes × AreArguments arguments

pub numbers_are : (bytes : List ℕ) → AreSmall bytes → AreArguments (numbers bytes)
numbers_are [] done = tt
numbers_are (byte ∷ bytes) (next small others) =
    (refl, All-cons IsByte byte [] small (All-nil IsByte), numbers_are bytes others)

digits_read : (argument : Argument) → length argument.bytes ≡ argument.size → All IsByte argument.bytes →
    decode_sized (encode_upper argument.bytes) argument.size ≡ Ok argument.bytes
digits_read argument long are =
    let count : length (encode_upper argument.bytes) ≡ 2 * argument.size =
    omega (arith, length-encode_with upper_digits argument.bytes, long) in
    let small : IsBytes argument.bytes = λ i. All-get_or_any IsByte argument.bytes i 0 (omega arith) are in
    decode_sized-twice (encode_upper argument.bytes) argument.size count
    ∙ decode_of-encode_upper argument.bytes small

are_spelled : (arguments : List Argument) → AreArguments arguments →
    AreSpelled arguments (flat_map argument_text arguments)
are_spelled [] are = refl
are_spelled (argument ∷ arguments) (long, small, others) = (
  encode_upper argument.bytes,
  flat_map argument_text arguments,
  refl,
  digits_read argument long small,
  are_spelled arguments others,
)

edit_spelled : (edit : Edit) → AreArguments (edit_form edit).arguments → Spells (edit_text edit) (action.Edit edit)
edit_spelled edit are = record {
  behind = flat_map argument_text (edit_form edit).arguments;
  parts = refl;
  arguments = are_spelled (edit_form edit).arguments are;
}

-- ---- statements that are read as they are

abbrev pub IsRead : Statement → Type 0
IsRead (Comment words) = are_free words ≡ true
IsRead (Do edit) = AreArguments (edit_form edit).arguments

abbrev AllRead : List Statement → Type 0
AllRead [] = Unit {0}
AllRead (statement ∷ rest) = IsRead statement × AllRead rest

pub record AreRead (statements : List Statement) : Type 0 where
  pub all : AllRead statements

all_join : (a b : List Statement) → AllRead a → AllRead b → AllRead (a ++ b)
all_join [] b one two = two
all_join (statement ∷ a) b (here, more) two = (here, all_join a b more two)

pub none_read : AreRead []
none_read = record { all = tt }

pub one_read : {statement : Statement} → IsRead statement → AreRead (statement ∷ [])
one_read is = record { all = (is, tt) }

pub next_read : {statement : Statement} {rest : List Statement} → IsRead statement → AreRead rest →
    AreRead (statement ∷ rest)
next_read is rest = record { all = (is, rest.all) }

pub both_read : {a b : List Statement} → AreRead a → AreRead b → AreRead (a ++ b)
both_read {a} {b} one two = record { all = all_join a b one.all two.all }

pub again_read : (n : ℕ) (statement : Statement) → IsRead statement → AreRead (replicate n statement)
again_read zero statement is = none_read
again_read (suc n) statement is = next_read is (again_read n statement is)

pub each_read : {X : Type 0} (whole : List X) (said : ℕ → X → List Statement) (base : ℕ) →
    ((front : List X) (x : X) (back : List X) (n : ℕ) → whole ≡ front ++ x ∷ back → n ≡ base + length front →
    AreRead (said n x)) →
    (front back : List X) (n : ℕ) → n ≡ base + length front → whole ≡ front ++ back → AreRead (each_from n said back)
each_read whole said base step front [] n is all = none_read
each_read {X} whole said base step front (x ∷ back) n is all =
    both_read (step front x back n all is)
    (each_read whole said base step (front ++ x ∷ []) back (n + 1) (omega (arith, is, long front))
    (all ∙ sym (append_assoc front (x ∷ []) back)))
  where
    long : (xs : List X) → length (xs ++ x ∷ []) ≡ length xs + 1
    long [] = refl
    long (y ∷ xs) = let more = long xs in omega (arith, more)

pub all_read : {X : Type 0} (whole : List X) (said : ℕ → X → List Statement) (base : ℕ) →
    ((front : List X) (x : X) (back : List X) (n : ℕ) → whole ≡ front ++ x ∷ back → n ≡ base + length front →
    AreRead (said n x)) → AreRead (each_from base said whole)
all_read whole said base step = each_read whole said base step [] whole base (omega arith) refl

-- ---- lines

strips : (line : List ℕ) (parts : List (List ℕ)) → 0 < length parts →
    lines_of_parts (line ∷ parts) ≡ strip_carriage_return line ∷ lines_of_parts parts
strips line [] some = absurd (omega arith)
strips line (part ∷ parts) some = refl

first_line : (line text : List ℕ) → are_free line ≡ true → lines (line ++ 10 ∷ text) ≡ line ∷ lines text
first_line line text free =
    let parts : List (List ℕ) = slice_split (λ byte. eqb byte 10) text in
    let some : 0 < length parts = omega (arith, length-slice_split (λ byte. eqb byte 10) text) in
    let stays : strip_carriage_return line ≡ line = rw (no_return line (length line - 1) free) refl in
    ap lines_of_parts (slice_split_at (λ byte. eqb byte 10) line 10 text (no_feed line free) refl)
    ∙ strips line parts some ∙ ap (λ (first : List ℕ). first ∷ lines text) stays

-- the edits as commands, the first line of which has this number
abbrev pub commands_of : ℕ → List Statement → List Command
commands_of n [] = []
commands_of n (Comment words ∷ rest) = commands_of (n + 1) rest
commands_of n (Do edit ∷ rest) = record { line = n; action = action.Edit edit } ∷ commands_of (n + 1) rest

give : (n : ℕ) (statements : List Statement) → AllRead statements →
    LinesGive n (lines (text_of statements)) (commands_of n statements)
give n [] are = none
give n (Comment words ∷ rest) (free, others) =
    let line : List ℕ = codes "# " ++ words in
    let says : SaysNothing (codes "# " ++ words) = comment (32 ∷ words) refl in
    subst (λ ls. LinesGive n ls (commands_of (n + 1) rest))
    (sym (first_line line (text_of rest) (free_append (codes "# ") words refl free)))
    (nothing says (give (n + 1) rest others))
give n (Do edit ∷ rest) (are, others) =
    subst (λ ls. LinesGive n ls (commands_of n (Do edit ∷ rest)))
    (sym (first_line (edit_text edit) (text_of rest) (edit_free edit)))
    (something (action.Edit edit) (edit_spelled edit are) (give (n + 1) rest others))

pub gives : (n : ℕ) (statements : List Statement) → AreRead statements →
    LinesGive n (lines (text_of statements)) (commands_of n statements)
gives n statements are = give n statements are.all
