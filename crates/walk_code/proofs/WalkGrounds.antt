-- Where a walk along the orderlist stands, and what it stands on.
use Rattle.std.proofs.Common.{◌≡◌, ℕ, ℤ, pos, ◌-ℤ◌, zero, suc, ◌+◌, ◌*◌, ◌/◌}
use Rattle.std.proofs.Common.{◌%◌, ◌<◌, ◌≤◌, Bool, true, false}
use Rattle.std.proofs.Common.{nat_eq}
use Rattle.std.proofs.Common.{List, [], ◌∷◌, ◌++◌, length, get_or, refl, ap, ◌∙◌, arith}
use Rattle.std.proofs.lemmas.Bool.{eqb-true}
use Rattle.std.proofs.lemmas.Bool.{agree_below_at}
use Rattle.song_model.specs.declared.orders.Order.{Order}
use Rattle.song_model.specs.declared.orders.OrderPlace.{OrderPlace}
use Rattle.song_model.specs.declared.orders.Step.{Step}
use Rattle.song_model.specs.Endless.{IsEndless}
use Rattle.song_model.specs.Walk.{played}
use Rattle.play_model.specs.State.{Playing}
use Rattle.play_model.specs.TickStep.{tempo_of}
use Rattle.scopes.specs.Trees.{Tree, ThenTree, LoopTree, NeverTree}
use Rattle.player_memory.specs.declared.conditions.TheConstants.{TRANSPOSES, REPEATS}
use Rattle.player_memory.specs.declared.labels.TheConstants.{REST, ORDER_LOW, ORDER_HIGH, TRANSPOSE, REPEAT}
use Rattle.player_memory.specs.declared.labels.TheConstants.{PATTERNS_LOW, PATTERNS_HIGH}
use Rattle.player_memory.specs.Fetching.{AreHalves, place_before, transpose_byte}
use Rattle.player_desk.proofs.Laws.{VoiceDesk, Reader, Fields, Reads, place_at}
use Rattle.player_desk.proofs.Laws.{body_of}
use Rattle.player_text.specs.declared.joints.TheConstants.{BEGINS}
use Rattle.player_text.specs.declared.walk.TheConstants.{PATTERN}
use Rattle.player_text.specs.Steps.{fetch_tree}
use Rattle.player_desk.proofs.Laws.{around_on, Around, at_pointer}
use Rattle.walk_code.proofs.Ways.{Way, Arrives}
use Rattle.scopes.specs.declared.line.TheConstants.{OPEN}
use Rattle.scopes.specs.Meaning.{turns_in}

-- ---- bytes

-- byte i of a packed orderlist: its entries, the endmark and the restart position
abbrev pub order_byte : Order → ℕ → ℕ
order_byte order i = get_or (order.entries ++ 0xFF ∷ order.restart ∷ []) i 0

pub in_front : (xs ys : List ℕ) (i : ℕ) → i < length xs → get_or (xs ++ ys) i 0 ≡ get_or xs i 0
in_front [] ys i l = absurd (omega arith)
in_front (x ∷ xs) ys zero l = refl
in_front (x ∷ xs) ys (suc i) l = in_front xs ys i (omega (arith, l))

pub behind_all : (xs ys : List ℕ) (i j : ℕ) → i ≡ length xs + j → get_or (xs ++ ys) i 0 ≡ get_or ys j 0
behind_all [] ys i j e = ap (λ n. get_or ys n 0) (omega (arith, e))
behind_all (x ∷ xs) ys zero j e = absurd (omega (arith, e))
behind_all (x ∷ xs) ys (suc i) j e = behind_all xs ys i j (omega (arith, e))

-- a transpose's byte
abbrev pub transposes_well : ℕ → Bool
transposes_well byte = nat_eq ((byte + 16 + 0) % 256) (transpose_byte (pos byte -ℤ pos 0xF0))

pub transpose_is : (byte : ℕ) → byte < 256 → (byte + 16 + 0) % 256 ≡ transpose_byte (pos byte -ℤ pos 0xF0)
transpose_is byte l = eqb-true _ _ (agree_below_at transposes_well (λ _. true) 256 byte refl l)

-- ---- trees

abbrev pub begin_tree : Tree
begin_tree = body_of BEGINS fetch_tree

abbrev pub loop_of : Tree → Tree
loop_of (ThenTree (LoopTree count body) rest) = body
loop_of tree = NeverTree

abbrev pub behind : Tree → Tree
behind (ThenTree first rest) = rest
behind tree = NeverTree

-- a turn of the walk, from its condition for transposes on, and its end
abbrev pub turn_tree : Tree
turn_tree = loop_of (body_of PATTERN begin_tree)

abbrev pub passed_tree : Tree
passed_tree = behind (behind (behind (behind (behind turn_tree))))

abbrev pub round_tree : Tree
round_tree = behind passed_tree

-- ---- where a walk stands

-- What the walk stands on: an endless orderlist found at a place, whose bytes are transposes and repeats only where the
-- code for them is kept; how many bytes are looked at from each place before the next pattern's; and the places before
-- the patterns that it plays are listed.
pub record WalkGround (r : Reader) (order : Order) (place : ℕ) (looks : ℕ → ℕ) : Type 0 where
  pub endless : IsEndless order
  pub small : place < 65536
  pub found : (i : ℕ) → i < length order.entries + 2 → Reads r ((place + i) % 65536) (order_byte order i)
  pub most : length order.entries ≤ 254
  pub each : (i : ℕ) → i < length order.entries → get_or order.entries i 0 < 0xFF
  pub transposes : r.layout.holds TRANSPOSES ≡ false → (i : ℕ) → i < length order.entries → get_or order.entries i 0 <
      0xE0
  pub repeats : r.layout.holds REPEATS ≡ false → (i : ℕ) → i < length order.entries →
      0xD0 ≤ get_or order.entries i 0 →
      0xE0 ≤ get_or order.entries i 0
  pub looks_on : (p : ℕ) → p < length order.entries → 0xD0 ≤ get_or order.entries p 0 → looks p ≡ 1 + looks (p + 1)
  pub looks_round : looks (length order.entries) ≡ 1 + looks order.restart
  pub looks_few : (p : ℕ) → p ≤ length order.entries → looks p < turns_in r.layout.open_turns OPEN
  pub low : (n : ℕ) → Reads r (place_at r PATTERNS_LOW (played order n).pattern)
      (place_before r.layout (played order n).pattern % 256)
  pub high : (n : ℕ) → Reads r (place_at r PATTERNS_HIGH (played order n).pattern)
      (place_before r.layout (played order n).pattern / 256)

-- the voice stands as where the walk began, but for its place in the orderlist
pub record Walking (r : Reader) (s : Playing) (d b m : VoiceDesk) : Type 0 where
  pub fields : Fields r.layout.holds s.voice (tempo_of (r.voice + 1) s.common) m.own
  pub around : Around r s d m
  pub order_low : m.own ORDER_LOW ≡ d.own ORDER_LOW
  pub order_high : m.own ORDER_HIGH ≡ d.own ORDER_HIGH
  pub rest_is : m.own REST ≡ b.own REST

-- the desk at a byte of the orderlist, with this transpose and this repeat
pub record WalksAt (r : Reader) (s : Playing) (place : ℕ) (d b m : VoiceDesk) (p : ℕ) (t : ℤ) (rep : ℕ) : Type 0 where
  pub walking : Walking r s d b m
  pub pointer : AreHalves m.low m.high place
  pub y : m.y ≡ p
  pub transpose : m.own TRANSPOSE ≡ transpose_byte t
  pub repeat : m.own REPEAT ≡ rep

-- a repeat is at most 15, and none where the code for repeats isn't kept
pub record Fine (r : Reader) (rep : ℕ) : Type 0 where
  pub small : rep < 16
  pub none : r.layout.holds REPEATS ≡ false → rep ≡ 0

-- where the walk is, with the play that comes and the place behind it
pub record IsOn (r : Reader) (s : Playing) (order : Order) (place : ℕ) (step : Step) (after : OrderPlace)
    (d b : VoiceDesk)
    (looks : ℕ → ℕ) (n : ℕ) (m : VoiceDesk) : Type 0 where
  pub p : ℕ
  pub t : ℤ
  pub rep : ℕ
  pub walks : WalksAt r s place d b m p t rep
  pub way : Way order step after p t rep
  pub fine : Fine r rep
  pub looks_left : looks p < n

-- the walk has come to a pattern: A is its number, and Y the place behind it
pub record IsThere (r : Reader) (s : Playing) (order : Order) (step : Step) (after : OrderPlace) (d b m : VoiceDesk)
    : Type 0 where
  pub p : ℕ
  pub t : ℤ
  pub rep : ℕ
  pub walking : Walking r s d b m
  pub y : m.y ≡ p + 1
  pub transpose : m.own TRANSPOSE ≡ transpose_byte t
  pub repeat : m.own REPEAT ≡ rep
  pub a : m.a ≡ get_or order.entries p 0
  pub fine : Fine r rep
  pub inside : p < length order.entries
  pub low : get_or order.entries p 0 < 0xD0
  pub comes : Arrives order step after p t rep

-- the same with other registers
pub walks_on : (r : Reader) (s : Playing) (d b m n : VoiceDesk) → n.own ≡ m.own → n.shared ≡ m.shared →
    n.sid ≡ m.sid →
    Walking r s d b m → Walking r s d b n
walks_on r s d b m n own shared sid at = record {
  fields = rw own at.fields;
  around = around_on shared sid at.around;
  order_low = ap (λ f. f ORDER_LOW) own ∙ at.order_low;
  order_high = ap (λ f. f ORDER_HIGH) own ∙ at.order_high;
  rest_is = ap (λ f. f REST) own ∙ at.rest_is;
}

-- a byte that Y names
pub reads_byte : (r : Reader) (order : Order) (place : ℕ) (looks : ℕ → ℕ) → WalkGround r order place looks →
    (low high y p : ℕ) → AreHalves low high place → y ≡ p → p < length order.entries + 2 →
    Reads r ((low + 256 * high + y) % 65536) (order_byte order p)
reads_byte r order place looks ground low high y p halves e inside =
    let small = ground.small in
    let same : (place % 256 + 256 * (place / 256) + y) % 65536 ≡ (place + p) % 65536 =
    ap (λ n. n % 65536) (omega (arith, e)) in
    at_pointer r low high place y (order_byte order p) halves (rw same (ground.found p inside))
