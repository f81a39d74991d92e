-- The least numbers are admitted, and all others that are admitted reach them.
use Rattle.std.proofs.Common.{◌≡◌, ℕ, zero, suc, ◌+◌, ◌*◌, ◌≤◌, ◌++◌, Bool, true, false, max, nat_eq, List, [], ◌∷◌, length}
use Rattle.std.proofs.Common.{take, drop, Option, Some, None, refl, sym, ap, ◌∙◌, subst, arith, if◌then◌else◌}
use Rattle.std.proofs.Math.Nat.{le-max_left, le-max_right, max-le}
use Rattle.scopes.specs.Trees.{Tree, DoTree, WithTree, NoneTree, ThenTree, ScopeTree, LeaveTree, LeaveIfTree, LoopTree}
use Rattle.scopes.specs.Trees.{AgainTree, AgainIfTree, WhenTree, ChooseTree, NeverTree}
use Rattle.cycle_bound.specs.Rules.{Ends, nowhere, in_scope, Setting}
use Rattle.cycle_bound.specs.Rules.{entry, behind_first, furthest, nodes, asked, Reaches}
use Rattle.cycle_bound.specs.EntranceRules.{voice_most, voice_asked, first_numbers, voice_numbers, call_asked}
use Rattle.cycle_bound.specs.Least.{least, least_of, least_voice, least_all, LeastAreLeast}
use Rattle.cycle_bound.proofs.Bounds.{length_both, one_more, reaches_both, rest_reaches, asked_count}
use Rattle.scopes.specs.Meaning.{turns_in}

-- ---- lists

pub reaches_itself : (numbers : List ℕ) → Reaches numbers numbers
reaches_itself [] = tt
reaches_itself (number ∷ numbers) = (omega arith, reaches_itself numbers)

take_length : (one two : List ℕ) (n : ℕ) → length one ≡ n → take n (one ++ two) ≡ one
take_length [] two zero e = refl
take_length [] two (suc n) e = absurd (omega (arith, e))
take_length (x ∷ one) two zero e = absurd (omega (arith, e))
take_length (x ∷ one) two (suc n) e =
    let less : length one ≡ n = omega (arith, e) in ap (λ l. x ∷ l) (take_length one two n less)

drop_length : (one two : List ℕ) (n : ℕ) → length one ≡ n → drop n (one ++ two) ≡ two
drop_length [] two zero e = refl
drop_length [] two (suc n) e = absurd (omega (arith, e))
drop_length (x ∷ one) two zero e = absurd (omega (arith, e))
drop_length (x ∷ one) two (suc n) e =
    let less : length one ≡ n = omega (arith, e) in drop_length one two n less

pub least_count : (setting : Setting) (ends : Ends) (behind : ℕ) (tree : Tree) →
    length (least setting ends behind tree) ≡ nodes tree
least_count setting ends behind (DoTree mnemonic) = refl
least_count setting ends behind (WithTree mnemonic operand) = refl
least_count setting ends behind NoneTree = refl
least_count setting ends behind (ThenTree first rest) =
    length_both (least setting ends (entry (least setting ends behind rest) behind) first)
    (least setting ends behind rest) (nodes first) (nodes rest)
    (least_count setting ends (entry (least setting ends behind rest) behind) first)
    (least_count setting ends behind rest)
least_count setting ends behind (ScopeTree name body) =
    one_more _ _ (least_count setting (in_scope name behind ends) behind body)
least_count setting ends behind (LeaveTree name) = refl
least_count setting ends behind (LeaveIfTree name test) = refl
least_count setting ends behind (LoopTree count body) = one_more _ _ (least_count setting nowhere 0 body)
least_count setting ends behind AgainTree = refl
least_count setting ends behind (AgainIfTree test) = refl
least_count setting ends behind (WhenTree condition body) = one_more _ _ (least_count setting ends behind body)
least_count setting ends behind (ChooseTree condition this other) =
    one_more _ _
    (length_both (least setting ends behind this) (least setting ends behind other) (nodes this) (nodes other)
    (least_count setting ends behind this) (least_count setting ends behind other))
least_count setting ends behind NeverTree = refl

-- ---- what the rules ask of the least numbers is these

pub two_lists : {a b c d : List ℕ} → a ≡ b → c ≡ d → (a ++ c) ≡ (b ++ d)
two_lists {b = b} {c = c} e f = ap (λ l. l ++ c) e ∙ ap (λ l. b ++ l) f

least_asked : (setting : Setting) (ends : Ends) (behind : ℕ) (tree : Tree) →
    asked setting ends behind tree (least setting ends behind tree) ≡ least setting ends behind tree
least_asked setting ends behind (DoTree mnemonic) = refl
least_asked setting ends behind (WithTree mnemonic operand) = refl
least_asked setting ends behind NoneTree = refl
least_asked setting ends behind (ThenTree first rest) =
    let ys = least setting ends behind rest in
    let xs = least setting ends (entry ys behind) first in
    let count = least_count setting ends (entry ys behind) first in
    let firsts = take_length xs ys (nodes first) count in
    let rests = drop_length xs ys (nodes first) count in
    two_lists
    (ap (λ l. asked setting ends (entry l behind) first (take (nodes first) (xs ++ ys))) rests
    ∙ (ap (λ l. asked setting ends (entry ys behind) first l) firsts
    ∙ least_asked setting ends (entry ys behind) first))
    (ap (λ l. asked setting ends behind rest l) rests ∙ least_asked setting ends behind rest)
least_asked setting ends behind (ScopeTree name body) =
    ap (λ l. entry (least setting (in_scope name behind ends) behind body) behind ∷ l)
    (least_asked setting (in_scope name behind ends) behind body)
least_asked setting ends behind (LeaveTree name) = refl
least_asked setting ends behind (LeaveIfTree name test) = refl
least_asked setting ends behind (LoopTree count body) =
    ap
    (λ l. (turns_in setting.open_turns count * entry (least setting nowhere 0 body) 0
    + max behind (furthest setting.holds ends body)) ∷ l)
    (least_asked setting nowhere 0 body)
least_asked setting ends behind AgainTree = refl
least_asked setting ends behind (AgainIfTree test) = refl
least_asked setting ends behind (WhenTree condition body) =
    ap (λ l. (if setting.holds condition then entry (least setting ends behind body) behind else behind) ∷ l)
    (least_asked setting ends behind body)
least_asked setting ends behind (ChooseTree condition this other) =
    let xs = least setting ends behind this in
    let ys = least setting ends behind other in
    let count = least_count setting ends behind this in
    let firsts = take_length xs ys (nodes this) count in
    let rests = drop_length xs ys (nodes this) count in
    ap (λ l. (if setting.holds condition then entry l behind else entry (drop (nodes this) (xs ++ ys)) behind)
    ∷ (asked setting ends behind this l ++ asked setting ends behind other (drop (nodes this) (xs ++ ys)))) firsts
    ∙ (ap (λ l. (if setting.holds condition then entry xs behind else entry l behind)
    ∷ (asked setting ends behind this xs ++ asked setting ends behind other l)) rests
    ∙ ap (λ l. (if setting.holds condition then entry xs behind else entry ys behind) ∷ l)
    (two_lists (least_asked setting ends behind this) (least_asked setting ends behind other)))
least_asked setting ends behind NeverTree = refl

-- ---- whatever is admitted reaches them

-- ends with numbers that are no greater
record IsBelow (one two : Ends) : Type 0 where
  ends : (name : ℕ) → one name ≤ two name

itself_below : (ends : Ends) → IsBelow ends ends
itself_below ends = record { ends = λ name. omega arith }

scope_below : {one two : Ends} (name m n : ℕ) → m ≤ n → IsBelow one two →
    IsBelow (in_scope name m one) (in_scope name n two)
scope_below {one = one} {two = two} name m n few below =
    record { ends = λ other. by_name (nat_eq other name) other }
  where
    by_name : (z : Bool) (other : ℕ) → (if z then m else one other) ≤ (if z then n else two other)
    by_name true other = few
    by_name false other = below.ends other

two_most : {a b c d : ℕ} → a ≤ b → c ≤ d → max a c ≤ max b d
two_most {a = a} {b = b} {c = c} {d = d} one two =
    let left = le-max_left b d in
    let right = le-max_right b d in
    max-le (omega (arith, one, left)) (omega (arith, two, right))

sides_below : (z : Bool) {a b c d : ℕ} → a ≤ b → c ≤ d → (if z then a else c) ≤ (if z then b else d)
sides_below true this other = this
sides_below false this other = other

furthest_below : (holds : ℕ → Bool) (tree : Tree) (one two : Ends) → IsBelow one two →
    furthest holds one tree ≤ furthest holds two tree
furthest_below holds (DoTree mnemonic) one two below = omega arith
furthest_below holds (WithTree mnemonic operand) one two below = omega arith
furthest_below holds NoneTree one two below = omega arith
furthest_below holds (ThenTree first rest) one two below =
    two_most (furthest_below holds first one two below) (furthest_below holds rest one two below)
furthest_below holds (ScopeTree name body) one two below =
    furthest_below holds body (in_scope name 0 one) (in_scope name 0 two) (scope_below name 0 0 (omega arith) below)
furthest_below holds (LeaveTree name) one two below = below.ends name
furthest_below holds (LeaveIfTree name test) one two below = below.ends name
furthest_below holds (LoopTree count body) one two below = furthest_below holds body one two below
furthest_below holds AgainTree one two below = omega arith
furthest_below holds (AgainIfTree test) one two below = omega arith
furthest_below holds (WhenTree condition body) one two below =
    sides_below (holds condition) (furthest_below holds body one two below) (omega arith)
furthest_below holds (ChooseTree condition this other) one two below =
    sides_below (holds condition) (furthest_below holds this one two below) (furthest_below holds other one two below)
furthest_below holds NeverTree one two below = omega arith

entry_below : {d e : ℕ} (least numbers : List ℕ) → Reaches least numbers → d ≤ e → entry least d ≤ entry numbers e
entry_below [] [] reaches few = few
entry_below [] (number ∷ numbers) reaches few = absurd reaches
entry_below (x ∷ least) [] reaches few = absurd reaches
entry_below (x ∷ least) (number ∷ numbers) reaches few = reaches.0

-- the first one is no greater, and the others are reached
lower_first : (asks more : ℕ) (others rest numbers : List ℕ) → more ≤ asks → Reaches (asks ∷ others) numbers →
    Reaches rest (behind_first numbers) → Reaches (more ∷ rest) numbers
lower_first asks more others rest [] few reaches behind = absurd reaches
lower_first asks more others rest (number ∷ numbers) few reaches behind = (omega (arith, few, reaches.0), behind)

lower_one : (asks more : ℕ) (numbers : List ℕ) → more ≤ asks → Reaches (asks ∷ []) numbers →
    Reaches (more ∷ []) numbers
lower_one asks more numbers few reaches =
    lower_first asks more [] [] numbers few reaches (rest_reaches asks [] numbers reaches)

reaches_join : (one two numbers : List ℕ) (n : ℕ) → length one ≡ n → Reaches one (take n numbers) →
    Reaches two (drop n numbers) → Reaches (one ++ two) numbers
reaches_join [] two numbers zero e here there = there
reaches_join [] two numbers (suc n) e here there = absurd (omega (arith, e))
reaches_join (x ∷ one) two numbers zero e here there = absurd (omega (arith, e))
reaches_join (x ∷ one) two [] (suc n) e here there = absurd here
reaches_join (x ∷ one) two (number ∷ numbers) (suc n) e here there =
    let less : length one ≡ n = omega (arith, e) in (here.0, reaches_join one two numbers n less here.1 there)

-- what is asked of numbers that stand behind a first one
inner : (asks : ℕ) (others numbers : List ℕ) → Reaches (asks ∷ others) numbers → Reaches others (behind_first numbers)
inner asks others numbers reaches = rest_reaches asks others numbers reaches

least_reached : (setting : Setting) (one two : Ends) (behind more : ℕ) (tree : Tree) (numbers : List ℕ) →
    IsBelow one two → behind ≤ more → Reaches (asked setting two more tree numbers) numbers →
    Reaches (least setting one behind tree) numbers
least_reached setting one two behind more (DoTree mnemonic) numbers below few reaches =
    lower_one _ _ numbers (omega (arith, few)) reaches
least_reached setting one two behind more (WithTree mnemonic operand) numbers below few reaches =
    lower_one _ _ numbers (omega (arith, few)) reaches
least_reached setting one two behind more NoneTree numbers below few reaches = reaches
least_reached setting one two behind more (ThenTree first rest) numbers below few reaches =
    let ys = drop (nodes first) numbers in
    let xs = take (nodes first) numbers in
    let mid = entry ys more in
    let asks = asked setting two mid first xs in
    let others = asked setting two more rest ys in
    let both =
    subst (λ n. Reaches asks (take n numbers) × Reaches others (drop n numbers)) (asked_count setting two mid first xs)
    (reaches_both asks others numbers reaches) in
    let behinds = least_reached setting one two behind more rest ys below few both.1 in
    let own = entry (least setting one behind rest) behind in
    let fronts =
    least_reached setting one two own mid first xs below (entry_below (least setting one behind rest) ys behinds few) both.0
    in
    reaches_join (least setting one own first) (least setting one behind rest) numbers (nodes first)
    (least_count setting one own first) fronts behinds
least_reached setting one two behind more (ScopeTree name body) numbers below few reaches =
    let asks = entry (behind_first numbers) more in
    let others = asked setting (in_scope name more two) more body (behind_first numbers) in
    let body_reached =
    least_reached setting (in_scope name behind one) (in_scope name more two) behind more body (behind_first numbers)
    (scope_below name behind more few below) few (inner asks others numbers reaches) in
    lower_first asks (entry (least setting (in_scope name behind one) behind body) behind) others
    (least setting (in_scope name behind one) behind body) numbers
    (entry_below (least setting (in_scope name behind one) behind body) (behind_first numbers) body_reached few) reaches
    body_reached
least_reached setting one two behind more (LeaveTree name) numbers below few reaches =
    let less = below.ends name in lower_one _ _ numbers (omega (arith, less)) reaches
least_reached setting one two behind more (LeaveIfTree name test) numbers below few reaches =
    let less = below.ends name in
    lower_one _ _ numbers (two_most (omega (arith, few)) (omega (arith, less))) reaches
least_reached setting one two behind more (LoopTree count body) numbers below few reaches =
    let most = entry (behind_first numbers) 0 in
    let turns = turns_in setting.open_turns count in
    let asks = turns * most + max more (furthest setting.holds two body) in
    let others = asked setting nowhere 0 body (behind_first numbers) in
    let body_reached =
    least_reached setting nowhere nowhere 0 0 body (behind_first numbers) (itself_below nowhere) (omega arith)
    (inner asks others numbers reaches) in
    let own = entry (least setting nowhere 0 body) 0 in
    let far = two_most few (furthest_below setting.holds body one two below) in
    let turn = times_below turns own most
    (entry_below (least setting nowhere 0 body) (behind_first numbers) body_reached (omega arith)) in
    lower_first asks (turns * own + max behind (furthest setting.holds one body)) others (least setting nowhere 0 body) numbers
    (omega (arith, turn, far)) reaches body_reached
  where
    times_below : (n a b : ℕ) → a ≤ b → n * a ≤ n * b
    times_below zero a b less = omega arith
    times_below (suc n) a b less =
        let rest = times_below n a b less in
        let x : suc n * a ≡ a + n * a = omega arith in
        let y : suc n * b ≡ b + n * b = omega arith in
        omega (arith, rest, x, y, less)
least_reached setting one two behind more AgainTree numbers below few reaches =
    lower_one _ _ numbers (omega arith) reaches
least_reached setting one two behind more (AgainIfTree test) numbers below few reaches =
    lower_one _ _ numbers (two_most (omega (arith, few)) (omega arith)) reaches
least_reached setting one two behind more (WhenTree condition body) numbers below few reaches =
    let asks = if setting.holds condition then entry (behind_first numbers) more else more in
    let others = asked setting two more body (behind_first numbers) in
    let body_reached =
    least_reached setting one two behind more body (behind_first numbers) below few (inner asks others numbers reaches) in
    lower_first asks (if setting.holds condition then entry (least setting one behind body) behind else behind) others
    (least setting one behind body) numbers
    (sides_below (setting.holds condition) (entry_below (least setting one behind body) (behind_first numbers) body_reached few)
    few) reaches body_reached
least_reached setting one two behind more (ChooseTree condition this other) numbers below few reaches =
    let xs = take (nodes this) (behind_first numbers) in
    let ys = drop (nodes this) (behind_first numbers) in
    let asks = if setting.holds condition then entry xs more else entry ys more in
    let first = asked setting two more this xs in
    let second = asked setting two more other ys in
    let both =
    subst (λ n. Reaches first (take n (behind_first numbers)) × Reaches second (drop n (behind_first numbers)))
    (asked_count setting two more this xs)
    (reaches_both first second (behind_first numbers) (inner asks (first ++ second) numbers reaches)) in
    let here = least_reached setting one two behind more this xs below few both.0 in
    let there = least_reached setting one two behind more other ys below few both.1 in
    lower_first asks
    (if setting.holds condition then entry (least setting one behind this) behind
    else entry (least setting one behind other) behind)
    (first ++ second) (least setting one behind this ++ least setting one behind other) numbers
    (sides_below (setting.holds condition) (entry_below (least setting one behind this) xs here few)
    (entry_below (least setting one behind other) ys there few)) reaches
    (reaches_join (least setting one behind this) (least setting one behind other) (behind_first numbers) (nodes this)
    (least_count setting one behind this) here there)
least_reached setting one two behind more NeverTree numbers below few reaches = reaches

-- ---- entrances

voice_admitted : (setting : Setting) (voice : Option Tree) →
    voice_asked setting voice (least_voice setting voice) ≡ least_voice setting voice
voice_admitted setting None = refl
voice_admitted setting (Some block) = least_asked setting nowhere 0 block

all_admitted : (setting : Setting) (first : Tree) (voice : Option Tree) →
    call_asked setting first voice (least_all setting first voice) ≡ least_all setting first voice
all_admitted setting first voice =
    let xs = least_of setting first in
    let ys = least_voice setting voice in
    let count = least_count setting nowhere 0 first in
    let firsts = take_length xs ys (nodes first) count in
    let rests = drop_length xs ys (nodes first) count in
    ap (λ l. (entry l 0 + voice_most voice (drop (nodes first) (xs ++ ys)))
    ∷ (asked setting nowhere 0 first l ++ voice_asked setting voice (drop (nodes first) (xs ++ ys)))) firsts
    ∙ (ap (λ l. (entry xs 0 + voice_most voice l)
    ∷ (asked setting nowhere 0 first xs ++ voice_asked setting voice l)) rests
    ∙ ap (λ l. (entry xs 0 + voice_most voice ys) ∷ l)
    (two_lists (least_asked setting nowhere 0 first) (voice_admitted setting voice)))

voice_reached : (setting : Setting) (voice : Option Tree) (numbers : List ℕ) →
    Reaches (voice_asked setting voice numbers) numbers → Reaches (least_voice setting voice) numbers
voice_reached setting None numbers reaches = reaches
voice_reached setting (Some block) numbers reaches =
    least_reached setting nowhere nowhere 0 0 block numbers (itself_below nowhere) (omega arith) reaches

voice_below : (setting : Setting) (voice : Option Tree) (numbers : List ℕ) →
    Reaches (least_voice setting voice) numbers → voice_most voice (least_voice setting voice) ≤ voice_most voice numbers
voice_below setting None numbers reaches = omega arith
voice_below setting (Some block) numbers reaches =
    let less = entry_below {d = 0} {e = 0} (least_of setting block) numbers reaches (omega arith) in omega (arith, less)

all_reached : (setting : Setting) (first : Tree) (voice : Option Tree) (numbers : List ℕ) →
    Reaches (call_asked setting first voice numbers) numbers → Reaches (least_all setting first voice) numbers
all_reached setting first voice numbers reaches =
    let xs = first_numbers first numbers in
    let ys = voice_numbers first numbers in
    let asks = entry xs 0 + voice_most voice ys in
    let asks_first = asked setting nowhere 0 first xs in
    let asks_second = voice_asked setting voice ys in
    let both =
    subst (λ n. Reaches asks_first (take n (behind_first numbers)) × Reaches asks_second (drop n (behind_first numbers)))
    (asked_count setting nowhere 0 first xs)
    (reaches_both asks_first asks_second (behind_first numbers) (inner asks (asks_first ++ asks_second) numbers reaches)) in
    let here =
    least_reached setting nowhere nowhere 0 0 first xs (itself_below nowhere) (omega arith) both.0 in
    let there = voice_reached setting voice ys both.1 in
    let one = entry_below {d = 0} {e = 0} (least_of setting first) xs here (omega arith) in
    let two = voice_below setting voice ys there in
    lower_first asks (entry (least_of setting first) 0 + voice_most voice (least_voice setting voice))
    (asks_first ++ asks_second) (least_of setting first ++ least_voice setting voice) numbers (omega (arith, one, two)) reaches
    (reaches_join (least_of setting first) (least_voice setting voice) (behind_first numbers) (nodes first)
    (least_count setting nowhere 0 first) here there)

pub least_are_least : LeastAreLeast
least_are_least setting first voice = record {
  admitted = subst (λ l. Reaches l (least_all setting first voice)) (sym (all_admitted setting first voice))
      (reaches_itself (least_all setting first voice));
  least = all_reached setting first voice;
}
