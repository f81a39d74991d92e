-- Where numbers don't reach what is asked, line by line.
use Rattle.std.proofs.Common.{◌≡◌, ℕ, zero, suc, ◌+◌, ◌-◌, ◌<◌, ◌≤◌, ◌++◌, Bool, true, false, nat_lt, if◌then◌else◌}
use Rattle.std.proofs.Common.{List, [], ◌∷◌, length, get_or, take, drop, Option, Some, None, refl, sym, ap, subst, ◌∙◌, arith}
use Rattle.std.proofs.lemmas.Bool.{ltb-true, ltb-false}
use Rattle.std.proofs.lemmas.List.{length-append, get_or_append_left, get_or-append-add}
use Rattle.std.specs.Option.{option_or}
use Rattle.scopes.specs.declared.line.Line.{Line}
use Rattle.scopes.specs.declared.line.Line.TheVariants.{Do, With, Scope, Leave, LeaveIf, Loop, Again, AgainIf, When}
use Rattle.scopes.specs.declared.line.Line.TheVariants.{Choose, Or, Never, End}
use Rattle.scopes.specs.Trees.{Tree, ThenTree, Open, led}
use Rattle.scope_lines.specs.Readings.{first_of, are_open}
use Rattle.scope_lines.proofs.Laws.{simple_reads, scope_reads, loop_reads, when_reads, choose_reads}
use Rattle.cycle_bound.specs.Rules.{Setting, Ends, nowhere, entry, nodes, asked, Reaches, bound_by}
use Rattle.cycle_bound.specs.EntranceRules.{AdmitsCall, voice_asked, call_asked, first_numbers, voice_numbers}
use Rattle.cycle_bound.specs.Faults.{IsShort, voice_nodes, call_nodes}
use Rattle.cycle_bound.specs.Private.{short_from, head_of, rest_of, has_number}
use Rattle.cycle_bound.proofs.Bounds.{asked_count, one_more, length_both}

-- ---- lists

none_short : (place : ℕ) (least : List ℕ) → short_from place least [] ≡ None
none_short place [] = refl
none_short place (l ∷ least) = refl

-- of two lists that are asked, one behind the other
pub short_both : (place n : ℕ) (one two numbers : List ℕ) → length one ≡ n →
    short_from place (one ++ two) numbers
    ≡ option_or (short_from place one (take n numbers)) (short_from (place + n) two (drop n numbers))
short_both place zero [] two numbers e = ap (λ p. short_from p two numbers) (plus place)
  where
    plus : (p : ℕ) → p ≡ p + 0
    plus p = omega arith
short_both place (suc n) [] two numbers e = absurd (omega (arith, e))
short_both place zero (l ∷ one) two numbers e = absurd (omega (arith, e))
short_both place (suc n) (l ∷ one) two [] e =
    sym (none_short (place + suc n) two)
short_both place (suc n) (l ∷ one) two (number ∷ numbers) e =
    let less : length one ≡ n = omega (arith, e) in
    let moved : place + 1 + n ≡ place + suc n = omega arith in
    by_test (nat_lt number l)
    (short_both (place + 1) n one two numbers less
    ∙ ap (λ p. option_or (short_from (place + 1) one (take n numbers)) (short_from p two (drop n numbers))) moved)
  where
    by_test : (z : Bool) →
        short_from (place + 1) (one ++ two) numbers
        ≡ option_or (short_from (place + 1) one (take n numbers)) (short_from (place + suc n) two (drop n numbers)) →
        (if z then Some place else short_from (place + 1) (one ++ two) numbers)
        ≡ option_or (if z then Some place else short_from (place + 1) one (take n numbers))
        (short_from (place + suc n) two (drop n numbers))
    by_test true behind = refl
    by_test false behind = behind

-- ---- lines

-- a line that has a number stands in front of others
pub record Stands (tree : Tree) : Type 0 where
  pub is : tree ≡ ThenTree (head_of tree) (rest_of tree)
  pub some : 1 ≤ nodes (head_of tree)

split_head : (tree first rest : Tree) → tree ≡ ThenTree first rest → 1 ≤ nodes first → Stands tree
split_head tree first rest e some =
    subst Stands (sym e) (record { is = refl; some = some })

pub line_stands : (line : Line) (opens : List Open) → are_open (led line opens) ≡ true → has_number line ≡ true →
    Stands (first_of (led line opens))
line_stands (Do mnemonic) opens o n = split_head _ _ _ (simple_reads (Do mnemonic) opens refl o).first (omega arith)
line_stands (With mnemonic operand) opens o n =
    split_head _ _ _ (simple_reads (With mnemonic operand) opens refl o).first (omega arith)
line_stands (Scope name) opens o n = split_head _ _ _ (scope_reads name opens o).first (omega arith)
line_stands (Leave name) opens o n = split_head _ _ _ (simple_reads (Leave name) opens refl o).first (omega arith)
line_stands (LeaveIf name test) opens o n =
    split_head _ _ _ (simple_reads (LeaveIf name test) opens refl o).first (omega arith)
line_stands (Loop count) opens o n = split_head _ _ _ (loop_reads count opens o).first (omega arith)
line_stands Again opens o n = split_head _ _ _ (simple_reads Again opens refl o).first (omega arith)
line_stands (AgainIf test) opens o n = split_head _ _ _ (simple_reads (AgainIf test) opens refl o).first (omega arith)
line_stands (When condition) opens o n = split_head _ _ _ (when_reads condition opens o).first (omega arith)
line_stands (Choose condition) opens o n = split_head _ _ _ (choose_reads condition opens o).first (omega arith)
line_stands Never opens o n = split_head _ _ _ (simple_reads Never opens refl o).first (omega arith)
line_stands Or opens o n = absurd (cc)
line_stands End opens o n = absurd (cc)

-- the numbers of a line and of those in it, and those of the lines behind
short_then : (setting : Setting) (ends : Ends) (follows : ℕ) (first rest : Tree) (numbers : List ℕ) (place : ℕ) →
    short_from place (asked setting ends follows (ThenTree first rest) numbers) numbers
    ≡ option_or
    (short_from place (asked setting ends (entry (drop (nodes first) numbers) follows) first (take (nodes first) numbers))
    (take (nodes first) numbers))
    (short_from (place + nodes first) (asked setting ends follows rest (drop (nodes first) numbers))
    (drop (nodes first) numbers))
short_then setting ends follows first rest numbers place =
    short_both place (nodes first) _ _ numbers
    (asked_count setting ends (entry (drop (nodes first) numbers) follows) first (take (nodes first) numbers))

pub short_on : (setting : Setting) (ends : Ends) (follows : ℕ) (line : Line) (opens : List Open) (numbers : List ℕ)
    (place : ℕ) → are_open (led line opens) ≡ true → has_number line ≡ true →
    short_from place (asked setting ends follows (first_of (led line opens)) numbers) numbers
    ≡ option_or
    (short_from place
    (asked setting ends (entry (drop (nodes (head_of (first_of (led line opens)))) numbers) follows)
    (head_of (first_of (led line opens))) (take (nodes (head_of (first_of (led line opens)))) numbers))
    (take (nodes (head_of (first_of (led line opens)))) numbers))
    (short_from (place + nodes (head_of (first_of (led line opens))))
    (asked setting ends follows (rest_of (first_of (led line opens)))
    (drop (nodes (head_of (first_of (led line opens)))) numbers))
    (drop (nodes (head_of (first_of (led line opens)))) numbers))
short_on setting ends follows line opens numbers place o n =
    ap (λ t. short_from place (asked setting ends follows t numbers) numbers) (line_stands line opens o n).is
    ∙ short_then setting ends follows (head_of (first_of (led line opens))) (rest_of (first_of (led line opens))) numbers
    place

-- ---- what is found

-- no place is short where each number reaches
test_said : (z : Bool) (place : ℕ) (more : Option ℕ) → (if z then Some place else more) ≡ None → z ≡ false
test_said true place more e = absurd (cc)
test_said false place more e = refl

test_on : (z : Bool) (place : ℕ) (more : Option ℕ) → (if z then Some place else more) ≡ None → more ≡ None
test_on true place more e = absurd (cc)
test_on false place more e = e

not_less : (number least : ℕ) → nat_lt number least ≡ false → least ≤ number
not_less number least e = ltb-false number least e

pub none_reaches : (place : ℕ) (least numbers : List ℕ) → length least ≡ length numbers →
    short_from place least numbers ≡ None → Reaches least numbers
none_reaches place [] [] e none = tt
none_reaches place [] (number ∷ numbers) e none = absurd (omega (arith, e))
none_reaches place (l ∷ least) [] e none = absurd (omega (arith, e))
none_reaches place (l ∷ least) (number ∷ numbers) e none =
    let less : length least ≡ length numbers = omega (arith, e) in (
      not_less number l (test_said (nat_lt number l) place _ none),
      none_reaches (place + 1) least numbers less (test_on (nat_lt number l) place _ none),
    )

-- a place that is found is the first one
record FoundAt (place : ℕ) (least numbers : List ℕ) (found : ℕ) : Type 0 where
  behind : ℕ
  is : found ≡ place + behind
  short : IsShort least numbers behind

some_same : (one two : ℕ) → Some one ≡ Some two → one ≡ two
some_same one two e = cc

found_at : (place : ℕ) (least numbers : List ℕ) (found : ℕ) → length least ≡ length numbers →
    short_from place least numbers ≡ Some found → FoundAt place least numbers found
found_at place [] numbers found e some = absurd (cc)
found_at place (l ∷ least) [] found e some = absurd (omega (arith, e))
found_at place (l ∷ least) (number ∷ numbers) found e some =
    let fewer : length least ≡ length numbers = omega (arith, e) in
    by_test (nat_lt number l) refl (found_at (place + 1) least numbers found fewer) some
  where
    earlier : nat_lt number l ≡ false → (on : FoundAt (place + 1) least numbers found) (other : ℕ) →
        other < suc on.behind → get_or (l ∷ least) other 0 ≤ get_or (number ∷ numbers) other 0
    earlier is on zero less = not_less number l is
    earlier is on (suc other) less = on.short.before other (omega (arith, less))

    by_test : (z : Bool) → nat_lt number l ≡ z →
        (short_from (place + 1) least numbers ≡ Some found → FoundAt (place + 1) least numbers found) →
        (if z then Some place else short_from (place + 1) least numbers) ≡ Some found →
        FoundAt place (l ∷ least) (number ∷ numbers) found
    by_test true is later here =
        let same = some_same place found here in
        record {
          behind = 0;
          is = omega (arith, same);
          short = record {
            there = omega arith;
            short = ltb-true number l is;
            before = λ other less. absurd (omega (arith, less));
          };
        }
    by_test false is later more =
        let on = later more in
        let further = on.is in
        let inside = on.short.there in
        record {
          behind = suc on.behind;
          is = omega (arith, further);
          short = record {
            there = omega (arith, inside);
            short = on.short.short;
            before = earlier is on;
          };
        }

pub first_short_is : (least numbers : List ℕ) (found : ℕ) → length least ≡ length numbers →
    short_from 0 least numbers ≡ Some found → IsShort least numbers found
first_short_is least numbers found e some =
    let at = found_at 0 least numbers found e some in
    let same : at.behind ≡ found = (let is = at.is in omega (arith, is)) in
    subst (λ place. IsShort least numbers place) same at.short

-- ---- of a call

voice_count : (setting : Setting) (voice : Option Tree) (numbers : List ℕ) →
    length (voice_asked setting voice numbers) ≡ voice_nodes voice
voice_count setting None numbers = refl
voice_count setting (Some block) numbers = asked_count setting nowhere 0 block numbers

pub call_count : (setting : Setting) (first : Tree) (voice : Option Tree) (numbers : List ℕ) →
    length (call_asked setting first voice numbers) ≡ call_nodes first voice
call_count setting first voice numbers =
    one_more _ _
    (length_both (asked setting nowhere 0 first (first_numbers first numbers))
    (voice_asked setting voice (voice_numbers first numbers)) (nodes first) (voice_nodes voice)
    (asked_count setting nowhere 0 first (first_numbers first numbers))
    (voice_count setting voice (voice_numbers first numbers)))

-- ---- of two lists of numbers

-- the first that is too small of the first list is that of both
pub short_first : (least more numbers others : List ℕ) (place : ℕ) → length least ≡ length numbers →
    IsShort least numbers place → IsShort (least ++ more) (numbers ++ others) place
short_first least more numbers others place e short =
    let there = short.there in
    let room = length-append numbers others in
    record {
      there = omega (arith, there, room);
      short = rw
          (get_or_append_left numbers others 0 place there, get_or_append_left least more 0 place (omega (arith, there, e)))
          short.short;
      before = λ other less.
          rw (
            get_or_append_left least more 0 other (omega (arith, there, e, less)),
            get_or_append_left numbers others 0 other (omega (arith, there, less)),
          )
          (short.before other less);
    }

-- and that of the second where none of the first is too small
reaches_at : (least numbers : List ℕ) (place : ℕ) → Reaches least numbers → get_or least place 0 ≤ get_or numbers place 0
reaches_at [] [] place reaches = omega arith
reaches_at [] (number ∷ numbers) place reaches = absurd reaches
reaches_at (l ∷ least) [] place reaches = absurd reaches
reaches_at (l ∷ least) (number ∷ numbers) zero reaches = reaches.0
reaches_at (l ∷ least) (number ∷ numbers) (suc place) reaches = reaches_at least numbers place reaches.1

pub short_second : (least more numbers others : List ℕ) (place : ℕ) → length least ≡ length numbers →
    Reaches least numbers → IsShort more others place →
    IsShort (least ++ more) (numbers ++ others) (length numbers + place)
short_second least more numbers others place e reaches short =
    let there = short.there in
    let room = length-append numbers others in
    record {
      there = omega (arith, there, room);
      short = rw (
        get_or-append-add numbers others place 0,
        subst (λ n. get_or (least ++ more) (n + place) 0 ≡ get_or more place 0) e (get_or-append-add least more place 0),
      )
          short.short;
      before = λ other less. by_side other less (nat_lt other (length numbers)) refl;
    }
  where
    behind : (other rest : ℕ) → other ≡ length numbers + rest → other < length numbers + place →
        get_or (least ++ more) other 0 ≤ get_or (numbers ++ others) other 0
    behind other rest is less =
        subst (λ n. get_or (least ++ more) n 0 ≤ get_or (numbers ++ others) n 0) (sym is)
        (rw (
          get_or-append-add numbers others rest 0,
          subst (λ n. get_or (least ++ more) (n + rest) 0 ≡ get_or more rest 0) e (get_or-append-add least more rest 0),
        )
        (short.before rest (omega (arith, is, less))))

    by_side : (other : ℕ) → other < length numbers + place → (z : Bool) → nat_lt other (length numbers) ≡ z →
        get_or (least ++ more) other 0 ≤ get_or (numbers ++ others) other 0
    by_side other less true is =
        let inside = ltb-true other (length numbers) is in
        rw (
          get_or_append_left least more 0 other (omega (arith, inside, e)),
          get_or_append_left numbers others 0 other inside,
        )
        (reaches_at least numbers other reaches)
    by_side other less false is =
        let outside = ltb-false other (length numbers) is in
        behind other (other - length numbers) (omega (arith, outside)) less

-- ---- where they are admitted

pub reaches_length : (least numbers : List ℕ) → Reaches least numbers → length numbers ≡ length least
reaches_length [] [] reaches = refl
reaches_length [] (number ∷ numbers) reaches = absurd reaches
reaches_length (l ∷ least) [] reaches = absurd reaches
reaches_length (l ∷ least) (number ∷ numbers) reaches =
    let more = reaches_length least numbers reaches.1 in omega (arith, more)

-- those of a call are as many as it has
pub admitted_length : (setting : Setting) (first : Tree) (voice : Option Tree) (numbers : List ℕ) →
    AdmitsCall setting first voice numbers → length numbers ≡ call_nodes first voice
admitted_length setting first voice numbers admitted =
    reaches_length (call_asked setting first voice numbers) numbers admitted
    ∙ call_count setting first voice numbers

-- and the first of the least ones is the least
pub first_least : (least numbers : List ℕ) → Reaches least numbers → bound_by least ≤ bound_by numbers
first_least [] [] reaches = omega arith
first_least [] (number ∷ numbers) reaches = absurd reaches
first_least (l ∷ least) [] reaches = absurd reaches
first_least (l ∷ least) (number ∷ numbers) reaches = reaches.0
