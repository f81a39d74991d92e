-- How many bytes an entrance's lines take, that all of them are kept and name no label, and where the parts stand.
use Rattle.std.proofs.Common.{◌≡◌, ℕ, ◌+◌, ◌≤◌, Bool, true, false, List, [], ◌∷◌, ◌++◌}
use Rattle.std.proofs.Common.{Option, Some, None, unwrap_or, if◌then◌else◌, refl, ap, ◌∙◌, subst, arith}
use Rattle.std.specs.Option.{option_map}
use Rattle.cpu6502.specs.declared.mnemonic.Mnemonic.TheVariants.{Rts}
use Rattle.cpu6502.specs.declared.mnemonic.Mode.TheVariants.{Implied}
use Rattle.code_runs.specs.Code.{Stands}
use Rattle.asm6502.specs.declared.lines.Operand.TheVariants.{Nothing}
use Rattle.asm6502.specs.declared.lines.Line.{Line}
use Rattle.asm6502.specs.Lines.{kept, item_size, names, place_of, size_of}
use Rattle.asm6502.specs.Standing.{LinesAt}
use Rattle.asm6502.proofs.Laws.{size_of-append, kept-append, fronts_stand, backs_stand}
use Rattle.scopes.specs.Trees.{Tree}
use Rattle.scope_lines.specs.Instructions.{code}
use Rattle.scope_lines.specs.Sizes.{size}
use Rattle.scope_lines.specs.Lines.{block_around, block_lines}
use Rattle.scope_lines.proofs.Laws.{lines_size, lines_kept, both_unnamed, lines_name_none}
use Rattle.scope_lines.proofs.Laws.{AreCode, both_code, lines_are_code}
use Rattle.scope_calls.specs.Entrances.{Entrance, lead_lines, first_place, voices_place, call_lines, voice_lines}
use Rattle.scope_calls.specs.Entrances.{voice_size, entrance_lines, EntrancesTakeSize}

-- the parts of an entrance
abbrev pub first_lines : Entrance → List Line
first_lines e = block_lines e.label e.pointer e.holds first_place e.first

abbrev pub last_lines : List Line
last_lines = code Rts Implied Nothing ∷ []

-- ---- sizes

pub block_takes : (e : Entrance) (place : ℕ) (tree : Tree) →
    size_of (block_lines e.label e.pointer e.holds place tree) ≡ size e.holds tree
block_takes e place tree = lines_size (block_around e.label e.pointer e.holds) place tree

voices_take : (e : Entrance) (place : ℕ) (voice : Option Tree) →
    size_of (voice_lines e place voice) ≡ voice_size e.holds voice
voices_take e place None = refl
voices_take e place (Some voice) =
    size_of-append (call_lines e.label place) (block_lines e.label e.pointer e.holds (place + 12) voice)
    ∙ ap (λ n. 12 + n) (block_takes e (place + 12) voice)

pub entrances_take_size : EntrancesTakeSize
entrances_take_size e =
    let voices = voice_lines e (voices_place e) e.voice in
    let a = size_of-append lead_lines (first_lines e ++ (voices ++ last_lines)) in
    let b = size_of-append (first_lines e) (voices ++ last_lines) in
    let c = size_of-append voices last_lines in
    let f = block_takes e first_place e.first in
    let v = voices_take e (voices_place e) e.voice in
    omega (arith, a, b, c, f, v)

-- ---- all are kept

both_kept : (set : ℕ) (front back : List Line) → kept set front ≡ front → kept set back ≡ back →
    kept set (front ++ back) ≡ front ++ back
both_kept set front back e f =
    kept-append set front back ∙ (ap (λ l. l ++ kept set back) e ∙ ap (λ l. front ++ l) f)

block_kept : (set : ℕ) (e : Entrance) (place : ℕ) (tree : Tree) →
    kept set (block_lines e.label e.pointer e.holds place tree) ≡ block_lines e.label e.pointer e.holds place tree
block_kept set e place tree = lines_kept set (block_around e.label e.pointer e.holds) place tree

voices_kept : (set : ℕ) (e : Entrance) (place : ℕ) (voice : Option Tree) →
    kept set (voice_lines e place voice) ≡ voice_lines e place voice
voices_kept set e place None = refl
voices_kept set e place (Some voice) =
    both_kept set (call_lines e.label place) (block_lines e.label e.pointer e.holds (place + 12) voice) refl
    (block_kept set e (place + 12) voice)

pub entrance_kept : (set : ℕ) (e : Entrance) → kept set (entrance_lines e) ≡ entrance_lines e
entrance_kept set e =
    let voices = voice_lines e (voices_place e) e.voice in
    both_kept set lead_lines (first_lines e ++ (voices ++ last_lines)) refl
    (both_kept set (first_lines e) (voices ++ last_lines) (block_kept set e first_place e.first)
    (both_kept set voices last_lines (voices_kept set e (voices_place e) e.voice) refl))

-- ---- none names a label

block_names_none : (label : ℕ) (e : Entrance) (place : ℕ) (tree : Tree) →
    place_of (block_lines e.label e.pointer e.holds place tree) label ≡ None
block_names_none label e place tree =
    lines_name_none label (block_around e.label e.pointer e.holds) place tree

voices_name_none : (label : ℕ) (e : Entrance) (place : ℕ) (voice : Option Tree) →
    place_of (voice_lines e place voice) label ≡ None
voices_name_none label e place None = refl
voices_name_none label e place (Some voice) =
    both_unnamed label (call_lines e.label place) (block_lines e.label e.pointer e.holds (place + 12) voice) refl
    (block_names_none label e (place + 12) voice)

pub entrance_names_none : (label : ℕ) (e : Entrance) → place_of (entrance_lines e) label ≡ None
entrance_names_none label e =
    let voices = voice_lines e (voices_place e) e.voice in
    both_unnamed label lead_lines (first_lines e ++ (voices ++ last_lines)) refl
    (both_unnamed label (first_lines e) (voices ++ last_lines) (block_names_none label e first_place e.first)
    (both_unnamed label voices last_lines (voices_name_none label e (voices_place e) e.voice) refl))

-- ---- how many there are

voices_are_code : (e : Entrance) (place : ℕ) (voice : Option Tree) → AreCode (voice_lines e place voice)
voices_are_code e place None = record { few = omega arith; bytes = refl }
voices_are_code e place (Some voice) =
    both_code (call_lines e.label place) (block_lines e.label e.pointer e.holds (place + 12) voice)
    (record { few = omega arith; bytes = refl })
    (lines_are_code (block_around e.label e.pointer e.holds) (place + 12) voice)

pub entrance_is_code : (e : Entrance) → AreCode (entrance_lines e)
entrance_is_code e =
    let voices = voice_lines e (voices_place e) e.voice in
    both_code lead_lines (first_lines e ++ (voices ++ last_lines)) (record { few = omega arith; bytes = refl })
    (both_code (first_lines e) (voices ++ last_lines)
    (lines_are_code (block_around e.label e.pointer e.holds) first_place e.first)
    (both_code voices last_lines (voices_are_code e (voices_place e) e.voice)
    (record { few = omega arith; bytes = refl })))

-- ---- where the parts stand

pub record Parts (e : Entrance) (address at : ℕ → ℕ) (start : ℕ) : Type 0 where
  pub lead : LinesAt address at start lead_lines
  pub first : LinesAt address at (start + first_place) (first_lines e)
  pub voices : LinesAt address at (start + voices_place e) (voice_lines e (voices_place e) e.voice)
  pub last : Stands at (start + (voices_place e + voice_size e.holds e.voice)) Rts Implied 0

pub parts_stand : (e : Entrance) (address at : ℕ → ℕ) (start : ℕ) → LinesAt address at start (entrance_lines e) →
    Parts e address at start
parts_stand e address at start s =
    let voices = voice_lines e (voices_place e) e.voice in
    let first = block_takes e first_place e.first in
    let taken = voices_take e (voices_place e) e.voice in
    let s1 = backs_stand address at start lead_lines (first_lines e ++ (voices ++ last_lines)) s in
    let s2 =
    backs_stand address at (start + first_place) (first_lines e) (voices ++ last_lines) s1 in
    let s3 =
    backs_stand address at (start + first_place + size_of (first_lines e)) voices last_lines s2 in
    let at_voices : start + first_place + size_of (first_lines e) ≡ start + voices_place e =
    omega (arith, first) in
    let at_last : start + first_place + size_of (first_lines e) + size_of voices
    ≡ start + (voices_place e + voice_size e.holds e.voice) = omega (arith, first, taken) in
    record {
      lead = fronts_stand address at start lead_lines (first_lines e ++ (voices ++ last_lines)) s;
      first = fronts_stand address at (start + first_place) (first_lines e) (voices ++ last_lines) s1;
      voices = subst (λ p. LinesAt address at p voices) at_voices
          (fronts_stand address at (start + first_place + size_of (first_lines e)) voices last_lines
          s2);
      last = subst (λ p. Stands at p Rts Implied 0) at_last s3.0;
    }

-- ---- labels

-- a label is in its lines, or right behind them
pub place_within : (lines : List Line) (label : ℕ) → unwrap_or (place_of lines label) 0 ≤ size_of lines
place_within [] label = omega arith
place_within (line ∷ rest) label =
    by_name (names label line.item) (place_of rest label) (item_size line.item) (size_of rest) (place_within rest label)
  where
    by_name : (z : Bool) (place : Option ℕ) (bytes more : ℕ) → unwrap_or place 0 ≤ more →
        unwrap_or (if z then Some 0 else option_map (λ p. bytes + p) place) 0 ≤ bytes + more
    by_name true place bytes more h = omega arith
    by_name false None bytes more h = omega arith
    by_name false (Some p) bytes more h = omega (arith, h)
