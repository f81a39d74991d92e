-- The loop that looks for a statement.
use Rattle.std.proofs.Common.{◌≡◌, ℕ, ◌+◌, ◌<◌, ◌≤◌, Bool, true, false, ◌||◌, List, []}
use Rattle.std.proofs.Common.{◌∷◌, ◌++◌, length, take, get_or, Some, None, refl, sym, ap, ◌∙◌, arith}
use Rattle.std.specs.Option.{option_map}
use Rattle.std.proofs.lemmas.List.{take_more, get_or_default, drop_all}
use Rattle.asm_text.specs.declared.statements.Written.{Written}
use Rattle.asm_text.specs.declared.refusing.Sought.{Sought}
use Rattle.asm_text.specs.declared.refusing.Seen.{Seen}
use Rattle.asm_text.specs.Statements.{size}
use Rattle.asm_text.specs.Laying.{size_of}
use Rattle.asm_text.specs.Faults.{names, is_named, first_found}
use Rattle.asm_text.specs.Searching.{label_sought, finds, line_found}
use Rattle.asm_text.proofs.Laid.{front_small}
use Rattle.asm_text.proofs.Pairs.{IsSearched, searched_more, found_here, sizes_more}

-- the statements up to place k are none of those that are looked for, and have given this
pub record IsLooked (sought : Sought) (origin : ℕ) (script : List Written) (k : ℕ) (seen : Seen) : Type 0 where
  pub size_is : seen.size ≡ size_of (take k script)
  pub named_is : seen.is_named ≡ is_named (take k script) (label_sought sought)
  pub searched : IsSearched (finds sought origin) script k

pub looked_none : (sought : Sought) (origin : ℕ) (script : List Written) →
    IsLooked sought origin script 0 (record { size = 0; is_named = false })
looked_none sought origin script = record { size_is = refl; named_is = refl; searched = record { rest = refl } }

named_one_more : (front : List Written) (written : Written) (label : ℕ) →
    is_named (front ++ written ∷ []) label ≡ (is_named front label || names label written.statement)
named_one_more [] written label = or_false (names label written.statement)
  where
    or_false : (y : Bool) → (y || false) ≡ y
    or_false true = refl
    or_false false = refl
named_one_more (first ∷ front) written label =
    ap (λ y. names label first.statement || y) (named_one_more front written label)
    ∙ or_assoc (names label first.statement) (is_named front label) (names label written.statement)
  where
    or_assoc : (x y z : Bool) → (x || (y || z)) ≡ (x || y || z)
    or_assoc true y z = refl
    or_assoc false y z = refl

pub looked_small : (sought : Sought) (origin : ℕ) (script : List Written) (k : ℕ) (seen : Seen) → origin < 65536 →
    length script ≤ 262144 → IsLooked sought origin script k seen → origin + seen.size ≤ 1000000
looked_small sought origin script k seen low few looked =
    omega (arith, low, few, looked.size_is, front_small script k)

pub looked_more : (sought : Sought) (origin : ℕ) (script : List Written) (k : ℕ) (seen after : Seen) (x : Written) →
    k < length script → x ≡ get_or script k x → IsLooked sought origin script k seen →
    finds sought origin (take k script) x.statement ≡ false → after.size ≡ seen.size + size x.statement →
    after.is_named ≡ (seen.is_named || names (label_sought sought) x.statement) →
    IsLooked sought origin script (k + 1) after
looked_more sought origin script k seen after x lt e looked never sizes named =
    let front : take (k + 1) script ≡ take k script ++ x ∷ [] =
    take_more script k x lt ∙ ap (λ (y : Written). take k script ++ y ∷ []) (sym e) in
    record {
      size_is = sizes ∙ ap (λ n. n + size x.statement) looked.size_is ∙ sym (sizes_more script k x lt e);
      named_is =
          named ∙ ap (λ y. y || names (label_sought sought) x.statement) looked.named_is
          ∙ sym (named_one_more (take k script) x (label_sought sought))
          ∙ ap (λ ws. is_named ws (label_sought sought)) (sym front);
      searched = searched_more (finds sought origin) script k x lt e never looked.searched;
    }

-- the same where the statement is read from its place
pub looked_at : (sought : Sought) (origin : ℕ) (script : List Written) (k : ℕ) (seen after : Seen) (d : Written) →
    k < length script → IsLooked sought origin script k seen →
    finds sought origin (take k script) (get_or script k d).statement ≡ false →
    after.size ≡ seen.size + size (get_or script k d).statement →
    after.is_named ≡ (seen.is_named || names (label_sought sought) (get_or script k d).statement) →
    IsLooked sought origin script (k + 1) after
looked_at sought origin script k seen after d lt looked never sizes named =
    looked_more sought origin script k seen after (get_or script k d) lt
    (get_or_default script k d (get_or script k d) lt) looked never sizes named

pub found_at : (sought : Sought) (origin : ℕ) (script : List Written) (k : ℕ) (seen : Seen) (d : Written) →
    k < length script → IsLooked sought origin script k seen →
    finds sought origin (take k script) (get_or script k d).statement ≡ true →
    Some (get_or script k d).line ≡ line_found (finds sought origin) script
found_at sought origin script k seen d lt looked holds =
    sym
    (ap (option_map (λ written. written.line))
    (found_here (finds sought origin) script k (get_or script k d) lt
    (get_or_default script k d (get_or script k d) lt) holds looked.searched))

pub found_nowhere : (sought : Sought) (origin : ℕ) (script : List Written) (k : ℕ) (seen : Seen) →
    length script ≤ k → IsLooked sought origin script k seen →
    None ≡ line_found (finds sought origin) script
found_nowhere sought origin script k seen all looked =
    ap (option_map (λ written. written.line))
    (sym (ap (first_found (finds sought origin) (take k script)) (drop_all k script all)) ∙ looked.searched.rest)
