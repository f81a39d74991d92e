-- What stands in a memory with an image's bytes: the song's lists, and the variables.
use Rattle.std.proofs.Common.{◌≡◌, ℕ, zero, suc, ◌+◌, ◌<◌, ◌≤◌, Bool, true, false, List, [], ◌∷◌, ◌++◌}
use Rattle.std.proofs.Common.{length, None, inr, refl, sym, ap}
use Rattle.std.proofs.lemmas.Bool.{lt-ltb}
use Rattle.std.proofs.Common.{◌∙◌, subst, arith, append_assoc}
use Rattle.std.specs.Prelude.{slice_index}
use Rattle.std.proofs.lemmas.List.{append-nil}
use Rattle.play_model.specs.declared.options.Options.{Options}
use Rattle.packed_form.specs.declared.packed_songs.PackedSong.{PackedSong}
use Rattle.cpu6502.proofs.Laws.{opcodes_have_rows}
use Rattle.asm6502.specs.declared.lines.Line.{Line}
use Rattle.asm6502.specs.Lines.{kept, item_size, size_of, address_in}
use Rattle.asm6502.specs.Assembly.{assembled_bytes}
use Rattle.asm6502.specs.Faults.{fault_of}
use Rattle.asm6502.specs.Standing.{LinesAt}
use Rattle.asm6502.specs.Stretches.{HasBytes}
use Rattle.asm6502.proofs.Laws.{stretches_stand}
use Rattle.scope_calls.specs.Entrances.{entrance_lines}
use Rattle.player_memory.specs.declared.conditions.TheConstants.{NOTE_DEPENDENT}
use Rattle.player_memory.specs.declared.labels.TheConstants.{VARIABLES}
use Rattle.player_memory.specs.SongLists.{HasSongLists}
use Rattle.song_lists.specs.DataLists.{data_bytes}
use Rattle.song_lists.proofs.Laws.{lines_are_kept, marked_stand, song_lists_stand}
use Rattle.player_code.specs.CodeLines.{byte_line, names_at, variable_lines, jump_lines, name, middle_lines}
use Rattle.player_code.specs.declared.labels.TheConstants.{PLAY_CODE}
use Rattle.player_code.specs.Plans.{Plan, plan_code, plan_lines, plan_size, its_play, its_init}
use Rattle.player_code.proofs.Laws.{code_assembles, labels_stand_in_place, size_is, code_kept, variables_kept}
use Rattle.player_code.proofs.Laws.{fewer, variables_size, names_size}
use Rattle.variable_places.specs.Places.{has_byte}
use Rattle.variable_places.proofs.Laws.{places_are_within}
use Rattle.player_calls.specs.WideLayouts.{spare_from, wide_address, wide_layout, with_zeros}
use Rattle.player_calls.specs.Players.{HasImage}
use Rattle.player_calls.proofs.Laws.{spare_is, no_spare, wide_at}
use Rattle.player_image.specs.Images.{image_holds, image_places, image_count, image_variables, code_bytes, plan_of}
use Rattle.player_image.proofs.Placed.{placed_length}
use Rattle.player_image.proofs.Placing.{own_byte_at}
use Rattle.player_image.proofs.Laying.{Laid, list_room}

-- a stretch of the listing stands where its bytes do
stretch_stands : (plan : Plan) (at : ℕ → ℕ) (lines front stretch back : List Line) →
    lines ≡ front ++ (stretch ++ back) → fault_of 0 plan.origin lines ≡ None →
    size_of (kept 0 front) + size_of (kept 0 stretch) ≤ plan_size plan →
    HasBytes at plan.origin 0 (plan_size plan) (assembled_bytes 0 plan.origin lines) →
    LinesAt (address_in (kept 0 lines) plan.origin) at (plan.origin + size_of (kept 0 front)) (kept 0 stretch)
stretch_stands plan at lines front stretch back split none within has =
    subst (λ ls. LinesAt (address_in (kept 0 ls) plan.origin) at (plan.origin + size_of (kept 0 front)) (kept 0 stretch))
    (sym split)
    (stretches_stand opcodes_have_rows 0 plan.origin front stretch back at
    (subst (λ ls. fault_of 0 plan.origin ls ≡ None) split none)
    (subst (λ ls. HasBytes at plan.origin (size_of (kept 0 front)) (size_of (kept 0 stretch))
    (assembled_bytes 0 plan.origin ls)) split
    (fewer at plan.origin (plan_size plan) (size_of (kept 0 front)) (size_of (kept 0 stretch)) _ within has)))

-- the lines behind the variables
abbrev entrances_of : Plan → List Line
entrances_of plan = entrance_lines (its_play plan) ++ (middle_lines ++ entrance_lines (its_init plan))

split_is : (these : List Line) (line : Line) (rest lists : List Line) →
    ((jump_lines ++ (these ++ line ∷ [])) ++ rest) ++ lists ≡ jump_lines ++ (these ++ (line ∷ (rest ++ lists)))
split_is these line rest lists =
    ap (λ ls. jump_lines ++ ls)
    (append_assoc (these ++ line ∷ []) rest lists ∙ append_assoc these (line ∷ []) (rest ++ lists))

-- where two lists of lines are kept, they take the bytes of both
sizes : (one two front back : List Line) (all : ℕ) → one ≡ front → two ≡ back →
    all ≡ size_of front + size_of back → size_of one + size_of two ≤ all
sizes one two front back all e f is =
    let first = ap size_of e in let second = ap size_of f in omega (arith, first, second, is)

-- lines that stand behind others
stand_behind : (address at : ℕ → ℕ) (pc : ℕ) (front back : List Line) → LinesAt address at pc (front ++ back) →
    LinesAt address at (pc + size_of front) back
stand_behind address at pc [] back stand = subst (λ p. LinesAt address at p back) (omega arith) stand
stand_behind address at pc (line ∷ front) back stand =
    subst (λ p. LinesAt address at p back) (omega arith)
    (stand_behind address at (pc + item_size line.item) front back stand.1)

-- a byte of variables that stand, behind the names of its place
variable_byte : (address at places : ℕ → ℕ) (pc first k : ℕ) (bytes : List ℕ) → k < length bytes →
    LinesAt address at pc (variable_lines places first bytes) → at (pc + k) ≡ slice_index bytes k
variable_byte address at places pc first k [] below stand = absurd (omega (arith, below))
variable_byte address at places pc first k (byte ∷ bytes) below stand =
    by_place k below
    (λ its few. variable_byte address at places (pc + size_of (names_at places first) + 1) (first + 1) its bytes few here.1)
  where
    here : LinesAt address at (pc + size_of (names_at places first))
        (byte_line byte ∷ variable_lines places (first + 1) bytes)
    here = stand_behind address at pc (names_at places first) _ stand

    none : size_of (names_at places first) ≡ 0
    none = names_size places first

    by_place : (k : ℕ) → k < suc (length bytes) →
        ((its : ℕ) → its < length bytes →
        at (pc + size_of (names_at places first) + 1 + its) ≡ slice_index bytes its) →
        at (pc + k) ≡ slice_index (byte ∷ bytes) k
    by_place zero few later = ap at (omega (arith, none)) ∙ here.0.byte 0 (omega arith)
    by_place (suc k) few later = ap at (omega (arith, none)) ∙ later k (omega (arith, few))

module _ (packed : PackedSong) (o : Options) (origin pointer : ℕ) (variables : List ℕ) (lists : List Line)
    (l : Laid packed o origin pointer variables lists) (at : ℕ → ℕ)
    (has : HasImage (plan_of packed o origin pointer variables lists) at) where
  none : fault_of 0 origin (plan_lines (plan_of packed o origin pointer variables lists)) ≡ None
  none =
      let ends = l.ends in
      code_assembles (plan_of packed o origin pointer variables lists) l.is (omega (arith, ends))

  pub lists_stand : (which : Bool) →
      HasSongLists (wide_layout (plan_of packed o origin pointer variables lists) which) packed at
  lists_stand which =
      let plan = plan_of packed o origin pointer variables lists in
      let all = size_is plan in
      let start = origin + code_bytes packed o pointer variables in
      let code = code_kept plan 0 in
      let its = lines_are_kept (image_holds packed o NOTE_DEPENDENT) packed start 0 lists l.has in
      let size : size_of (kept 0 (plan_code plan)) + size_of (kept 0 lists) ≤ plan_size plan =
      sizes (kept 0 (plan_code plan)) (kept 0 lists) (plan_code plan) lists (plan_size plan) code its all in
      let stand = stretch_stands plan at (plan_lines plan) (plan_code plan) lists []
      (ap (λ ls. plan_code plan ++ ls) (sym (append-nil lists))) none size has in
      let here : LinesAt (address_in (kept 0 (plan_lines plan)) origin) at start (kept 0 lists) =
      subst (λ ls. LinesAt (address_in (kept 0 (plan_lines plan)) origin) at (origin + size_of ls) (kept 0 lists)) code
      stand in
      song_lists_stand (wide_layout plan which) packed start at
      (list_room packed o origin pointer variables lists l which)
      (marked_stand (address_in (kept 0 (plan_lines plan)) origin) at l.has.marks start 0
      (data_bytes (image_holds packed o NOTE_DEPENDENT) packed start)
      (subst (λ ls. LinesAt (address_in (kept 0 (plan_lines plan)) origin) at start ls) (its ∙ l.has.are) here))

  -- the bytes of the variables stand behind the two jumps
  places_stand : (place : ℕ) → place < image_count packed o →
      at (origin + 6 + place) ≡ slice_index (image_variables packed o variables) place
  places_stand place below =
      let plan = plan_of packed o origin pointer variables lists in
      let places = image_places packed o in
      let own = image_variables packed o variables in
      let there = labels_stand_in_place plan l.is in
      let all = size_is plan in
      let code = there.size in
      let count = placed_length places (image_count packed o) variables in
      let kept_is = variables_kept places 0 0 own in
      let bytes = variables_size places 0 own in
      let size : 6 + size_of (kept 0 (variable_lines places 0 own)) ≤ plan_size plan =
      rw kept_is (omega (arith, bytes, all, code)) in
      let stand = stretch_stands plan at (plan_lines plan) jump_lines (variable_lines places 0 own)
      (name PLAY_CODE ∷ (entrances_of plan ++ lists))
      (split_is (variable_lines places 0 own) (name PLAY_CODE) (entrances_of plan) lists) none size has in
      variable_byte (address_in (kept 0 (plan_lines plan)) origin) at places (origin + 6) 0 place own
      (omega (arith, below, count))
      (subst (λ ls. LinesAt (address_in (kept 0 (plan_lines plan)) origin) at (origin + 6) ls) kept_is stand)

  -- so a variable that has a byte begins with its own, and one that has none with 0
  pub own_stand : (which : Bool) (label : ℕ) → label < VARIABLES → has_byte (image_holds packed o) label ≡ true →
      with_zeros which at (wide_address (plan_of packed o origin pointer variables lists) which label)
      ≡ slice_index variables label
  own_stand which label few has_own =
      let begins = l.begins in
      let address : wide_address (plan_of packed o origin pointer variables lists) which label
      ≡ origin + 6 + image_places packed o label =
      wide_at (plan_of packed o origin pointer variables lists) which label (λ less. has_own)
      ∙ (labels_stand_in_place (plan_of packed o origin pointer variables lists) l.is).variables label few
      ∙ omega arith in
      ap (with_zeros which at) address
      ∙ rw (no_spare which (origin + 6 + image_places packed o label) (inr (omega (arith, begins))))
      (places_stand (image_places packed o label) (places_are_within (image_holds packed o) label few))
      ∙ own_byte_at (image_holds packed o) variables label few has_own

  pub spare_stand : (which : Bool) (label : ℕ) → label < VARIABLES → has_byte (image_holds packed o) label ≡ false →
      with_zeros which at (wide_address (plan_of packed o origin pointer variables lists) which label) ≡ 0
  spare_stand which label few none_own =
      let address : wide_address (plan_of packed o origin pointer variables lists) which label
      ≡ spare_from which + label =
      rw (lt-ltb label VARIABLES few, none_own) refl in
      ap (with_zeros which at) address ∙ rw (spare_is which label few) refl
