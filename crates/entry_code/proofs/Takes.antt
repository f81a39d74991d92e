-- The desk of a voice whose next entry is read, from one scope to the next.
use Rattle.std.proofs.Common.{◌≡◌, ℕ, ◌+◌, ◌*◌, ◌/◌, ◌%◌, ◌<◌, ◌≤◌, true}
use Rattle.std.proofs.Common.{nat_eq, List, ◌∷◌, length, drop, get_or}
use Rattle.std.proofs.Common.{ap, ◌∙◌, arith}
use Rattle.play_model.specs.State.{Voice, Playing}
use Rattle.play_model.specs.TickStep.{tempo_of}
use Rattle.play_model.specs.Frame.{is_between_patterns}
use Rattle.scopes.specs.Trees.{Tree}
use Rattle.player_memory.specs.declared.conditions.TheConstants.{SKIP_FIRST}
use Rattle.player_memory.specs.declared.labels.TheConstants.{REST, PATTERN_LOW, PATTERN_HIGH, ORDER_LOW}
use Rattle.player_memory.specs.declared.labels.TheConstants.{ORDER_HIGH, ORDER_PLACE, TRANSPOSE, REPEAT}
use Rattle.player_memory.specs.declared.labels.TheConstants.{KEPT_PARAM}
use Rattle.player_memory.specs.Fetching.{AreHalves}
use Rattle.player_desk.proofs.Laws.{VoiceDesk, Reader, Fields, Reads, rest_of}
use Rattle.player_text.specs.declared.joints.TheConstants.{FETCHES}
use Rattle.player_text.specs.Steps.{fetch_tree}
use Rattle.player_desk.proofs.Laws.{around_on, Around}
use Rattle.entry_code.proofs.Texts.{stands_there}

-- behind the scope, the entry is taken
abbrev pub take_tree : Tree
take_tree = rest_of FETCHES fetch_tree

-- ---- what the code reads

-- a packed pattern is found behind a place: its bytes, and the place itself
pub record PatternAt (r : Reader) (place : ℕ) (bytes : List ℕ) : Type 0 where
  pub few : length bytes ≤ 256
  pub small : place < 65536
  pub each : (i : ℕ) → i < length bytes → Reads r ((place + 1 + i) % 65536) (get_or bytes i 0)
  pub before : r.IsFound place

-- ---- desks

-- the voice is where it was in its orderlist, with its pattern
pub record SamePlay (one two : ℕ → ℕ) : Type 0 where
  pub pattern_low : one PATTERN_LOW ≡ two PATTERN_LOW
  pub pattern_high : one PATTERN_HIGH ≡ two PATTERN_HIGH
  pub order_low : one ORDER_LOW ≡ two ORDER_LOW
  pub order_high : one ORDER_HIGH ≡ two ORDER_HIGH
  pub order_place : one ORDER_PLACE ≡ two ORDER_PLACE
  pub transpose : one TRANSPOSE ≡ two TRANSPOSE
  pub repeat : one REPEAT ≡ two REPEAT

-- An entry is being taken: so far this voice stands, with so many rests left, and the pointer is the place before the
-- pattern. Where an option asks for it, the voice is marked as between two patterns.
pub record Taking (r : Reader) (s : Playing) (d : VoiceDesk) (place : ℕ) (v : Voice) (rest : ℕ) (m : VoiceDesk)
    : Type 0 where
  pub fields : Fields r.layout.holds v (tempo_of (r.voice + 1) s.common) m.own
  pub rest_is : m.own REST ≡ rest
  pub play : SamePlay m.own d.own
  pub around : Around r s d m
  pub marked : r.layout.holds SKIP_FIRST ≡ true → nat_eq (m.shared KEPT_PARAM) 0 ≡ is_between_patterns s.voice
  pub pointer : AreHalves m.low m.high place

-- an offset is that of the byte before these bytes of the pattern
pub record IsBefore (bytes : List ℕ) (left : List ℕ) (y : ℕ) : Type 0 where
  pub number : ℕ
  pub y_is : y ≡ number + 1
  pub left_is : drop (number + 1) bytes ≡ left

-- A is this byte of the pattern, which Y names, and these stand behind it
pub record IsByte (bytes : List ℕ) (byte : ℕ) (left : List ℕ) (m : VoiceDesk) : Type 0 where
  pub a : m.a ≡ byte
  pub before : IsBefore bytes left m.y

-- the own bytes alone have changed
pub takes : (r : Reader) (s : Playing) (d : VoiceDesk) (place : ℕ) (v w : Voice) (rest after : ℕ) (m n : VoiceDesk) →
    n.shared ≡ m.shared → n.sid ≡ m.sid → n.low ≡ m.low → n.high ≡ m.high →
    Fields r.layout.holds w (tempo_of (r.voice + 1) s.common) n.own → n.own REST ≡ after → SamePlay n.own d.own →
    Taking r s d place v rest m → Taking r s d place w after n
takes r s d place v w rest after m n shared sid low high fields rest_is play at = record {
  fields = fields;
  rest_is = rest_is;
  play = play;
  around = around_on shared sid at.around;
  marked = rw shared at.marked;
  pointer = record { low_is = low ∙ at.pointer.low_is; high_is = high ∙ at.pointer.high_is };
}

-- ---- the next byte

-- behind the byte that Y names stands this one, and the code finds it
pub record IsNext (r : Reader) (bytes : List ℕ) (byte : ℕ) (left : List ℕ) (place y : ℕ) : Type 0 where
  pub reads : Reads r ((place % 256 + 256 * (place / 256) + y) % 65536) byte
  pub before : IsBefore bytes left y

-- with another one behind it Y doesn't pass 255
pub next_byte : (r : Reader) (place : ℕ) (bytes : List ℕ) → PatternAt r place bytes → (byte other : ℕ)
    (left : List ℕ) (y : ℕ) → IsBefore bytes (byte ∷ other ∷ left) y →
    IsNext r bytes byte (other ∷ left) place ((y + 1) % 256)
next_byte r place bytes ground byte other left y at =
    let number = at.number in
    let y_is = at.y_is in
    let e = at.left_is in
    let here = stands_there bytes (number + 1) byte 0 (other ∷ left) e in
    let there = stands_there bytes (number + 1 + 1) other 0 left here.rest_is in
    let few = ground.few in
    let inside = there.inside in
    let next : (y + 1) % 256 ≡ number + 1 + 1 = omega (arith, y_is, inside, few) in
    let at : (place % 256 + 256 * (place / 256) + (y + 1) % 256) % 65536 ≡ (place + 1 + (number + 1)) % 65536 =
    ap (λ n. n % 65536) (omega (arith, next)) in record {
      reads = rw at (record {
        found = (ground.each (number + 1) here.inside).found;
        is = (ground.each (number + 1) here.inside).is ∙ here.is;
      });
      before = record { number = number + 1; y_is = next; left_is = here.rest_is };
    }
