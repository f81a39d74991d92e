-- A packed song has one image for a place, a pointer and options: its variables begin with the same bytes, and its
-- lists are the same ones, in whatever order their labels of one place stand.
use Rattle.std.proofs.Common.{◌≡◌, ◌≢◌, ℕ, zero, suc, ◌+◌, ◌-◌, ◌<◌, ◌⊎◌, Bool, List, [], ◌∷◌, ◌++◌}
use Rattle.std.proofs.Common.{length, take, drop, slice_index, slice_index_or, Contains, None, inl, inr}
use Rattle.std.proofs.Common.{refl, sym, ap, ◌∙◌, subst, arith, append_assoc}
use Rattle.std.proofs.lemmas.Bool.{cases_eq, ne_eqb}
use Rattle.std.proofs.lemmas.List.{append-nil, take-append-drop}
use Rattle.std.proofs.lemmas.List.Sorted.{Contains-permutation, IsPermutation-sym}
use Rattle.play_model.specs.declared.options.Options.{Options}
use Rattle.scope_calls.specs.Entrances.{Entrance, entrance_size}
use Rattle.packed_form.specs.declared.packed_songs.PackedSong.{PackedSong}
use Rattle.asm6502.specs.declared.lines.Line.{Line}
use Rattle.asm6502.specs.Lines.{kept, item_size, size_of, place_of, address_in}
use Rattle.asm6502.specs.Assembly.{item_bytes, bytes_of, assembled_bytes}
use Rattle.asm6502.proofs.Laws.{kept-append}
use Rattle.player_memory.specs.declared.conditions.TheConstants.{NOTE_DEPENDENT}
use Rattle.player_memory.specs.Starting.{Begins}
use Rattle.kept_lines.specs.Starts.{start_of}
use Rattle.song_lists.specs.declared.marks.Mark.{Mark}
use Rattle.song_lists.specs.Marks.{marked}
use Rattle.song_lists.specs.DataLists.{data_bytes, data_marks, order_places, HasLines}
use Rattle.song_lists.specs.ListLaws.{KeepsCounts}
use Rattle.song_lists.proofs.Laws.{lines_are_kept, lines_take_size, labels_have_places}
use Rattle.player_code.specs.CodeLines.{cleared_of, code_lines, play_entrance, init_entrance}
use Rattle.player_image.specs.Images.{image_holds, image_places, image_count, image_variables, code_bytes, numbered}
use Rattle.player_image.specs.Images.{first_order, IsListingOf}
use Rattle.player_image.specs.Systems.{ImagesAreOne}
use Rattle.player_image.proofs.Begun.{variables_are_one}
use Rattle.player_image.proofs.Placed.{placed_length}
use Rattle.player_image.proofs.Places.{SamePlaces, same_self, same_both, same_addresses, code_same}

-- ---- a label among marks

record Found (marks : List Mark) (label : ℕ) : Type 0 where
  mark : Mark
  there : Contains marks mark
  is : mark.label ≡ label

abbrev IsNoLabel : List Mark → ℕ → Type 0
IsNoLabel marks label = (mark : Mark) → Contains marks mark → mark.label ≢ label

none_later : (first : Mark) (marks : List Mark) (label : ℕ) → first.label ≢ label → IsNoLabel marks label →
    (mark : Mark) (k : ℕ) → k < suc (length marks) → slice_index_or (first ∷ marks) k mark ≡ mark → mark.label ≢ label
none_later first marks label other none mark zero few is = λ same. other (ap (λ (m : Mark). m.label) is ∙ same)
none_later first marks label other none mark (suc k) few is = none mark (k, omega (arith, few), is)

found : (marks : List Mark) (label : ℕ) → Found marks label ⊎ IsNoLabel marks label
found [] label = inr (λ mark there. let few = there.1 in absurd (omega (arith, few)))
found (first ∷ marks) label =
    elim (cases_eq first.label label) [
      | inl same ↦ inl (record { mark = first; there = (0, omega arith, refl); is = same })
      | inr other ↦
          elim (found marks label) [
            | inl later ↦
                let few = later.there.1 in
                inl (record {
                  mark = later.mark;
                  there = (suc later.there.0, omega (arith, few), later.there.2);
                  is = later.is;
                })
            | inr none ↦ inr (λ mark there. none_later first marks label other none mark there.0 there.1 there.2)
          ]
    ]

-- no line names a label that no mark has
unmarked : (from : ℕ) (marks : List Mark) (bytes : List ℕ) (label : ℕ) → IsNoLabel marks label →
    place_of (marked from marks bytes) label ≡ None
unmarked from [] bytes label none = refl
unmarked from (mark ∷ marks) bytes label none =
    let other = ne_eqb mark.label label (none mark (0, omega arith, refl)) in
    let rest = unmarked mark.place marks (drop (mark.place - from) bytes) label
    (λ m there. let few = there.1 in none m (suc there.0, omega (arith, few), there.2)) in
    rw (other, rest) refl

-- ---- bytes

-- lines one behind the other
pub bytes_along : (address : ℕ → ℕ) (place : ℕ) (front back : List Line) →
    bytes_of address place (front ++ back)
    ≡ bytes_of address place front ++ bytes_of address (place + size_of front) back
bytes_along address place [] back = ap (λ p. bytes_of address p back) (omega arith)
bytes_along address place (line ∷ front) back =
    let further : place + item_size line.item + size_of front ≡ place + (item_size line.item + size_of front) =
    omega arith in
    ap (λ rest. item_bytes address place line.item ++ rest)
    (bytes_along address (place + item_size line.item) front back
    ∙ ap (λ p. bytes_of address (place + item_size line.item) front ++ bytes_of address p back) further)
    ∙ sym (append_assoc (item_bytes address place line.item) (bytes_of address (place + item_size line.item) front)
    (bytes_of address (place + (item_size line.item + size_of front)) back))

-- bytes with labels among them are those bytes
marked_bytes : (address : ℕ → ℕ) (from : ℕ) (marks : List Mark) (bytes : List ℕ) (place : ℕ) →
    bytes_of address place (marked from marks bytes) ≡ bytes
marked_bytes address from [] bytes place = append-nil bytes
marked_bytes address from (mark ∷ marks) bytes place =
    ap (λ rest. take (mark.place - from) bytes ++ rest)
    (marked_bytes address mark.place marks (drop (mark.place - from) bytes)
    (place + length (take (mark.place - from) bytes) + 0))
    ∙ take-append-drop (mark.place - from) bytes

-- ---- a song's lists

module _ (dependent : Bool) (packed : PackedSong) (start : ℕ) where
  nowhere : (lines : List Line) (label : ℕ) → HasLines dependent packed start lines →
      IsNoLabel (data_marks dependent packed) label → place_of lines label ≡ None
  nowhere lines label has none =
      ap (λ ls. place_of ls label) has.are
      ∙ unmarked 0 has.marks (data_bytes dependent packed start) label
      (λ m at.
      none m (Contains-permutation has.marks (data_marks dependent packed) m
      (IsPermutation-sym (data_marks dependent packed) has.marks has.same) at))

  -- each label has one place in their lines
  same_place : (one two : List Line) (label : ℕ) → KeepsCounts packed → HasLines dependent packed start one →
      HasLines dependent packed start two → place_of one label ≡ place_of two label
  same_place one two label counts here there =
      elim (found (data_marks dependent packed) label) [
        | inl named ↦
            subst (λ l. place_of one l ≡ place_of two l) named.is
            (labels_have_places dependent packed start one named.mark counts here named.there
            ∙ sym (labels_have_places dependent packed start two named.mark counts there named.there))
        | inr none ↦ nowhere one label here none ∙ sym (nowhere two label there none)
      ]

  lists_same : (one two : List Line) → KeepsCounts packed → HasLines dependent packed start one →
      HasLines dependent packed start two → SamePlaces one two
  lists_same one two counts here there = record {
    size = (lines_take_size dependent packed start one here).0 ∙ sym (lines_take_size dependent packed start two there).0;
    places = λ label. same_place one two label counts here there;
  }

  -- the code, and the lists behind it
  bytes_are : (origin : ℕ) (code lines : List Line) → HasLines dependent packed start lines →
      assembled_bytes 0 origin (code ++ lines)
      ≡ bytes_of (address_in (kept 0 code ++ lines) origin) origin (kept 0 code) ++ data_bytes dependent packed start
  bytes_are origin code lines has =
      ap (λ ls. bytes_of (address_in ls origin) origin ls)
      (kept-append 0 code lines ∙ ap (λ ls. kept 0 code ++ ls) (lines_are_kept dependent packed start 0 lines has))
      ∙ (bytes_along (address_in (kept 0 code ++ lines) origin) origin (kept 0 code) lines
      ∙ ap (λ rest. bytes_of (address_in (kept 0 code ++ lines) origin) origin (kept 0 code) ++ rest)
      (ap (bytes_of (address_in (kept 0 code ++ lines) origin) (origin + size_of (kept 0 code))) has.are
      ∙ marked_bytes (address_in (kept 0 code ++ lines) origin) 0 has.marks (data_bytes dependent packed start)
      (origin + size_of (kept 0 code))))

  one_image : (origin : ℕ) (code one two : List Line) → KeepsCounts packed → HasLines dependent packed start one →
      HasLines dependent packed start two → assembled_bytes 0 origin (code ++ one) ≡ assembled_bytes 0 origin (code ++ two)
  one_image origin code one two counts here there =
      bytes_are origin code one here
      ∙ (ap (λ (address : ℕ → ℕ). bytes_of address origin (kept 0 code) ++ data_bytes dependent packed start)
      (same_addresses (kept 0 code ++ one) (kept 0 code ++ two) origin
      (same_both (kept 0 code) (kept 0 code) one two (same_self (kept 0 code)) (lists_same one two counts here there)))
      ∙ sym (bytes_are origin code two there))

-- ---- images

-- the code with these variables, by their labels
abbrev with_variables : PackedSong → Options → ℕ → List ℕ → List Line
with_variables packed o pointer variables =
    code_lines (image_places packed o) (image_variables packed o variables) pointer (image_holds packed o) (start_of o)

abbrev init_with : PackedSong → Options → ℕ → List ℕ → Entrance
init_with packed o pointer variables =
    init_entrance pointer (image_holds packed o) (start_of o)
    (cleared_of (length (image_variables packed o variables)))

module _ (packed : PackedSong) (o : Options) (origin pointer : ℕ) (counts : KeepsCounts packed) (one two : List Line)
    (here : IsListingOf packed o origin pointer one) (there : IsListingOf packed o origin pointer two) where
  its_count : length (image_variables packed o here.variables) ≡ length (image_variables packed o there.variables)
  its_count =
      placed_length (image_places packed o) (image_count packed o) here.variables
      ∙ sym (placed_length (image_places packed o) (image_count packed o) there.variables)

  its_code : SamePlaces (with_variables packed o pointer here.variables) (with_variables packed o pointer there.variables)
  its_code =
      code_same (image_places packed o) (image_variables packed o here.variables)
      (image_variables packed o there.variables) (play_entrance pointer (image_holds packed o))
      (init_with packed o pointer here.variables) (init_with packed o pointer there.variables) its_count
      (ap (λ n. entrance_size (init_entrance pointer (image_holds packed o) (start_of o) (cleared_of n))) its_count)

  its_lists : HasLines (image_holds packed o NOTE_DEPENDENT) packed (origin + code_bytes packed o pointer here.variables)
      there.lists
  its_lists =
      subst (λ n. HasLines (image_holds packed o NOTE_DEPENDENT) packed (origin + n) there.lists) (sym its_code.size)
      there.has_lines

  its_places : SamePlaces (with_variables packed o pointer here.variables ++ here.lists)
      (with_variables packed o pointer there.variables ++ there.lists)
  its_places =
      same_both (with_variables packed o pointer here.variables) (with_variables packed o pointer there.variables)
      here.lists there.lists its_code
      (lists_same (image_holds packed o NOTE_DEPENDENT) packed (origin + code_bytes packed o pointer here.variables)
      here.lists there.lists counts here.has_lines its_lists)

  -- the orderlists have the same addresses in both, so the variables begin alike
  its_variables : here.variables ≡ there.variables
  its_variables =
      variables_are_one (start_of o).tempo (start_of o).funk (first_order packed o origin pointer here.variables)
      here.variables there.variables here.all there.all here.first
      (subst (λ (n : ℕ).
      Begins numbered (start_of o).tempo (start_of o).funk
      (λ voice. origin + n + slice_index (order_places (image_holds packed o NOTE_DEPENDENT) packed) voice)
      (slice_index there.variables))
      (sym its_code.size) there.first) here.unplayed there.unplayed

  same_bytes : assembled_bytes 0 origin one ≡ assembled_bytes 0 origin two
  same_bytes =
      ap (assembled_bytes 0 origin) here.are
      ∙ (ap (λ variables. assembled_bytes 0 origin (with_variables packed o pointer variables ++ here.lists)) its_variables
      ∙ (one_image (image_holds packed o NOTE_DEPENDENT) packed (origin + code_bytes packed o pointer here.variables) origin
      (with_variables packed o pointer there.variables) here.lists there.lists counts here.has_lines its_lists
      ∙ sym (ap (assembled_bytes 0 origin) there.are)))

pub images_are_one : ImagesAreOne
images_are_one packed o origin pointer one two counts here there =
    here.are
    ∙ (same_bytes packed o origin pointer counts here.listing there.listing here.its there.its ∙ sym there.are)
