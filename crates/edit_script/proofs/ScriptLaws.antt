-- A text is a script of one list of commands, or has one first bad line.
use Rattle.std.proofs.Common.{◌≡◌, ℕ, ◌+◌, ◌<◌, zero, suc, true, false, eqb, ltb, List, [], ◌∷◌}
use Rattle.std.proofs.Common.{◌++◌, length, get_or, Option, Some, None, refl, sym, ap, ◌∙◌, subst, ◌⊎◌}
use Rattle.std.proofs.Common.{inl, inr, lit<, arith}
use Rattle.std.specs.List.{All}
use Rattle.std.specs.Str.Lines.{lines}
use Rattle.std.proofs.lemmas.Bool.{cases_eq, eqb-false, ltb-true}
use Rattle.std.proofs.lemmas.List.{append-nil}
use Rattle.std.proofs.lemmas.List.Elements.{All-nil, All-cons}
use Rattle.base.specs.FirstBad.{IsFirstBad}
use Rattle.base.proofs.Laws.{none_bad, same_first_bad}
use Rattle.edit_ops.specs.declared.edits.Edit.{Edit}
use Rattle.edit_ops.specs.declared.edits.Edit.TheVariants.{AddSubtune}
use Rattle.edit_script.specs.declared.commands.Action.{Action}
use Rattle.edit_script.specs.declared.commands.Action.TheVariants as action
use Rattle.edit_script.specs.declared.commands.Command.{Command}
use Rattle.edit_script.specs.Forms.{edit_form, form_of}
use Rattle.edit_script.specs.Spells.{SaysNothing, empty, comment, Spells, IsLine}
use Rattle.edit_script.specs.Scripts.{LinesGive, none, nothing, something, IsScript, IsFirstBadLine}
use Rattle.edit_script.specs.ScriptLaws.{OneScriptOrOneBadLine}
use Rattle.edit_script.specs.Answers.{Adds}
use Rattle.edit_script.specs.Reading.{action_in}
use Rattle.edit_script.proofs.ActionLaws.{action_again, action_takes}

-- ---- one line

-- each word begins with a letter
edit_letter : (edit : Edit) → ltb 96 (get_or (edit_form edit).word 0 0) ≡ true
edit_letter AddSubtune = refl
edit_letter edit = refl

letter : (a : Action) → ltb 96 (get_or (form_of a).word 0 0) ≡ true
letter (action.Edit edit) = edit_letter edit
letter action.Undo = refl
letter action.Redo = refl

first_stays : (word behind : List ℕ) → 96 < get_or word 0 0 → 96 < get_or (word ++ behind) 0 0
first_stays [] behind large = absurd (omega arith)
first_stays (byte ∷ word) behind large = large

nothing_begins : (line : List ℕ) → SaysNothing line → get_or line 0 0 < 36
nothing_begins line (empty nil) = rw nil (lit< tt)
nothing_begins line (comment words parts) = rw parts (lit< tt)

pub nothing_no_action : (line : List ℕ) (a : Action) → SaysNothing line → Spells line a → ⊥
nothing_no_action line a says spells =
    let large = first_stays (form_of a).word spells.behind (ltb-true 96 _ (letter a)) in
    let small = nothing_begins line says in
    let same : get_or line 0 0 ≡ get_or ((form_of a).word ++ spells.behind) 0 0 =
    ap (λ bytes. get_or bytes 0 0) spells.parts in
    absurd (omega (arith, large, small, same))

pub one_action : (line : List ℕ) (a b : Action) → Spells line a → Spells line b → a ≡ b
one_action line a b p q =
    let one = action_again line a p in
    let two = action_again line b q in
    cc

pub is_no_line : (line : List ℕ) → (SaysNothing line → ⊥) → action_in line ≡ None → IsLine line → ⊥
is_no_line line never read (inl says) = never says
is_no_line line never read (inr (a, spells)) = let again = action_again line a spells in absurd (cc (read, again))

-- whether a line may stand in a script
abbrev pub IsDecided : List ℕ → Type 0
IsDecided line = IsLine line ⊎ (IsLine line → ⊥)

decide_word : (line : List ℕ) → (SaysNothing line → ⊥) → (o : Option Action) → action_in line ≡ o → IsDecided line
decide_word line never (Some a) read = inl (inr (a, action_takes line a read))
decide_word line never None read =
    inr (is_no_line line never read)

no_comment : (first : ℕ) (words : List ℕ) → (first ≡ 35 → ⊥) → SaysNothing (first ∷ words) → ⊥
no_comment first words never (empty nil) = absurd (cc (nil))
no_comment first words never (comment others parts) = never (cc (parts))

pub decide_line : (line : List ℕ) → IsDecided line
decide_line [] = inl (inl (empty refl))
decide_line (first ∷ words) =
    elim (cases_eq first 35) [
      | inl is ↦ inl (inl (comment words (ap (λ (byte : ℕ). byte ∷ words) is)))
      | inr never ↦ decide_word (first ∷ words) (no_comment first words never) (action_in (first ∷ words)) refl
    ]

-- ---- lines one after the other

pub all_lines : {number : ℕ} {ls : List (List ℕ)} {commands : List Command} → LinesGive number ls commands →
    All IsLine ls
all_lines none = All-nil IsLine
all_lines (nothing {line} {others} says more) = All-cons IsLine line others (inl says) (all_lines more)
all_lines (something {line} {others} a spells more) = All-cons IsLine line others (inr (a, spells)) (all_lines more)

pub same_commands : {number : ℕ} {ls : List (List ℕ)} {c d : List Command} → LinesGive number ls c →
    LinesGive number ls d → c ≡ d
same_commands none none = refl
same_commands (nothing says more) (nothing says2 more2) = same_commands more more2
same_commands (nothing {line} says more) (something a spells more2) = absurd (nothing_no_action line a says spells)
same_commands (something {line} a spells more) (nothing says more2) = absurd (nothing_no_action line a says spells)
same_commands (something {number} {line} a spells more) (something b spells2 more2) =
    let same : a ≡ b = one_action line a b spells spells2 in
    let others = same_commands more more2 in
    cc

pub lines_join : {number : ℕ} {xs ys : List (List ℕ)} {c d : List Command} → LinesGive number xs c →
    LinesGive (number + length xs) ys d → LinesGive number (xs ++ ys) (c ++ d)
lines_join {number} {ys} {d} none more =
    let z : number + 0 ≡ number = omega arith in subst (λ n. LinesGive n ys d) z more
lines_join {number} {ys} {d} (nothing {others} says rest) more =
    let z : number + suc (length others) ≡ number + 1 + length others = omega arith in
    nothing says (lines_join rest (subst (λ n. LinesGive n ys d) z more))
lines_join {number} {ys} {d} (something {others} a spells rest) more =
    let z : number + suc (length others) ≡ number + 1 + length others = omega arith in
    something a spells (lines_join rest (subst (λ n. LinesGive n ys d) z more))

-- ---- the first bad line

pub first_here : (line : List ℕ) (others : List (List ℕ)) → (IsLine line → ⊥) → IsFirstBad IsLine (line ∷ others) 0
first_here line others never = record {
  inside = omega arith;
  bad = λ d. never;
  before = λ k d lt. absurd (omega (arith, lt));
}

before_later : (line : List ℕ) (others : List (List ℕ)) (place k : ℕ) (d : List ℕ) → IsLine line →
    IsFirstBad IsLine others place → k < suc place → IsLine (get_or (line ∷ others) k d)
before_later line others place zero d is bad lt = is
before_later line others place (suc k) d is bad lt = bad.before k d (omega (arith, lt))

pub first_later : (line : List ℕ) (others : List (List ℕ)) (place : ℕ) → IsLine line → IsFirstBad IsLine others place →
    IsFirstBad IsLine (line ∷ others) (suc place)
first_later line others place is bad =
    let inside = bad.inside in
    record {
      inside = omega arith;
      bad = λ d. bad.bad d;
      before = λ k d lt. before_later line others place k d is bad lt;
    }

abbrev IsScanned : ℕ → List (List ℕ) → Type 0
IsScanned number ls = ((commands : List Command) × LinesGive number ls commands)
    ⊎ ((place : ℕ) × IsFirstBad IsLine ls place)

give_more : (number : ℕ) (line : List ℕ) (others : List (List ℕ)) (commands : List Command) → IsLine line →
    LinesGive (number + 1) others commands → (all : List Command) × LinesGive number (line ∷ others) all
give_more number line others commands (inl says) more = (commands, nothing says more)
give_more number line others commands (inr (a, spells)) more =
    (record { line = number; action = a } ∷ commands, something a spells more)

scan_on : (number : ℕ) (line : List ℕ) (others : List (List ℕ)) → IsLine line → IsScanned (number + 1) others →
    IsScanned number (line ∷ others)
scan_on number line others is (inl (commands, more)) = inl (give_more number line others commands is more)
scan_on number line others is (inr (place, bad)) = inr (suc place, first_later line others place is bad)

scan : (ls : List (List ℕ)) (number : ℕ) → IsScanned number ls
scan [] number = inl ([], none)
scan (line ∷ others) number =
    let rest = scan others (number + 1) in
    elim (decide_line line) [
      | inl is ↦ scan_on number line others is rest
      | inr never ↦ inr (0, first_here line others never)
    ]

-- ---- a text

pub one_script : (text : List ℕ) (c d : List Command) → IsScript text c → IsScript text d → c ≡ d
one_script text c d p q = same_commands p q

pub one_bad_line : (text : List ℕ) (m n : ℕ) → IsFirstBadLine text m → IsFirstBadLine text n → m ≡ n
one_bad_line text m n p q =
    let same : p.place ≡ q.place = same_first_bad IsLine (lines text) [] p.place q.place p.first q.first in
    p.counted ∙ ap (λ place. place + 1) same ∙ sym q.counted

pub no_bad_line : (text : List ℕ) (commands : List Command) (number : ℕ) → IsScript text commands →
    IsFirstBadLine text number → ⊥
no_bad_line text commands number script bad = none_bad IsLine (lines text) [] bad.place (all_lines script) bad.first

pub script_or_bad_line : OneScriptOrOneBadLine
script_or_bad_line text = elim (scan (lines text) 1) [
  | inl script ↦ inl (
    script.0,
    record {
      is_script = script.1;
      only = λ others is. one_script text others script.0 is script.1;
      no_bad = λ number bad. no_bad_line text script.0 number script.1 bad;
    },
  )
  | inr bad ↦
      let first : IsFirstBadLine text (bad.0 + 1) = record { place = bad.0; counted = refl; first = bad.1 } in
      inr (
        bad.0 + 1,
        record {
          is_bad = first;
          only = λ other is. one_bad_line text other (bad.0 + 1) is first;
          no_script = λ commands is. no_bad_line text commands (bad.0 + 1) is first;
        },
      )
]

-- ---- what a line adds

pub adds_nothing : (number : ℕ) (line : List ℕ) (before after : List Command) → SaysNothing line → after ≡ before →
    Adds number line before after
adds_nothing number line before after says same =
    record { more = []; gives = nothing says none; after_is = same ∙ sym (append-nil before) }

pub adds_action : (number : ℕ) (line : List ℕ) (before after : List Command) (a : Action) →
    action_in line ≡ Some a → after ≡ before ++ record { line = number; action = a } ∷ [] →
    Adds number line before after
adds_action number line before after a read same = record {
  more = record { line = number; action = a } ∷ [];
  gives = something a (action_takes line a read) none;
  after_is = same;
}

-- a line that is no remark and spells nothing
pub is_bad_line : (first : ℕ) (rest : List ℕ) → eqb first 35 ≡ false → action_in (first ∷ rest) ≡ None →
    IsLine (first ∷ rest) → ⊥
is_bad_line first rest never read =
    is_no_line (first ∷ rest) (no_comment first rest (eqb-false first 35 never)) read
