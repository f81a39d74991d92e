-- The layout of an image is a player's: its variables and lists have their room, which the blocks may use.
use Rattle.std.proofs.Common.{◌≡◌, ℕ, ◌+◌, ◌*◌, ◌%◌, ◌<◌, ◌≤◌, ◌⊎◌, ◌&&◌, ◌||◌, nat_le}
use Rattle.std.proofs.Common.{nat_lt, Bool, true, false, List, Contains}
use Rattle.std.proofs.Common.{refl, sym, subst, ap, ◌∙◌, arith, inl, inr}
use Rattle.std.proofs.lemmas.Bool.{or_cases, and_parts, both_ways, cases_lt, leb-true, ltb-true, le-leb, lt-ltb}
use Rattle.std.proofs.lemmas.List.Elements.{All-contains}
use Rattle.play_model.specs.declared.options.Options.{Options}
use Rattle.packed_form.specs.declared.packed_songs.PackedSong.{PackedSong}
use Rattle.packed_form.specs.WalkCount.{walk_count}
use Rattle.scopes.proofs.Laws.{open_turns_are}
use Rattle.asm6502.specs.declared.lines.Line.{Line}
use Rattle.asm6502.specs.Lines.{size_of}
use Rattle.player_memory.specs.declared.conditions.TheConstants.{NOTE_DEPENDENT, TIMED}
use Rattle.player_memory.specs.declared.labels.TheConstants.{VARIABLES, FUNK_ONE, FUNK_TWO}
use Rattle.player_memory.specs.Labels.{is_own}
use Rattle.player_memory.specs.Playing.{place_in}
use Rattle.player_memory.specs.Rooms.{IsRoom, MayUse}
use Rattle.player_memory.specs.SongLists.{SongList, IsSongList, HasNumber, list_label, slide_rows}
use Rattle.player_memory.specs.Holds.{IsPlayerLayout}
use Rattle.init_code.specs.InitBlock.{MaySetTimer}
use Rattle.variable_places.specs.Places.{has_byte}
use Rattle.variable_places.proofs.Laws.{places_are_within, places_are_apart, voices_are_alike, voices_are_in_step}
use Rattle.variable_places.proofs.Laws.{funk_is_together}
use Rattle.song_lists.specs.declared.marks.Mark.{Mark}
use Rattle.song_lists.specs.DataLists.{HasLines, IsDataLayout, data_marks}
use Rattle.song_lists.specs.ListLaws.{KeepsCounts, IsDataLabel, lists_size, IsInside, IsListLayout, IsListRoom, AreLaid}
use Rattle.song_lists.proofs.Laws.{lines_take_size, labels_have_places, are_data_labels, slides_are_inside}
use Rattle.song_lists.proofs.Laws.{lists_are_laid, lists_stand_inside}
use Rattle.player_code.specs.Plans.{IsPlan, plan_size}
use Rattle.player_code.proofs.Laws.{labels_stand_in_place, size_is}
use Rattle.player_calls.specs.WideLayouts.{spare_from, is_spare, wide_address, wide_layout}
use Rattle.player_calls.specs.Players.{IsVariable, IsOfLists, HasSlideInside, MayBeWritten, AtVariable, InLists}
use Rattle.player_calls.specs.Players.{AtRegister, AtTimer}
use Rattle.player_calls.proofs.Laws.{in_spare, spare_is, wide_at}
use Rattle.player_image.specs.Images.{image_holds, image_places, image_count, code_bytes, is_within, is_read, plan_of}
use Rattle.player_image.proofs.Placed.{placed_length}

-- ---- places

pub or_left : (a b : Bool) → a ≡ true → (a || b) ≡ true
or_left true b e = refl
or_left false b e = absurd (cc)

pub or_right : (a b : Bool) → b ≡ true → (a || b) ≡ true
or_right true b e = refl
or_right false b e = e

both : (a b : Bool) → a ≡ true → b ≡ true → (a && b) ≡ true
both a b e f = rw (e, f) refl

within_is : (from to place : ℕ) → from ≤ place → place < to → is_within from to place ≡ true
within_is from to place low high =
    both (nat_le from place) (nat_lt place to) (le-leb from place low) (lt-ltb place to high)

is_in : (from to place : ℕ) → is_within from to place ≡ true → (from ≤ place) × (place < to)
is_in from to place e =
    let parts = and_parts (nat_le from place) (nat_lt place to) e in
    (leb-true from place parts.0, ltb-true place to parts.1)

module _ (packed : PackedSong) (o : Options) (origin pointer : ℕ) (variables : List ℕ) (lists : List Line) where
  -- a place of the variables by their count
  variable_here : (place : ℕ) → IsVariable (plan_of packed o origin pointer variables lists) place →
      place < origin + (6 + image_count packed o)
  variable_here place is =
      let to = is.to in
      let count = placed_length (image_places packed o) (image_count packed o) variables in omega (arith, to, count)

  pub reads_variables : (place : ℕ) → IsVariable (plan_of packed o origin pointer variables lists) place →
      (plan_of packed o origin pointer variables lists).may_read place ≡ true
  reads_variables place is =
      or_left (is_within (origin + 6) (origin + (6 + image_count packed o)) place) _
      (within_is (origin + 6) (origin + (6 + image_count packed o)) place is.from (variable_here place is))

  pub reads_lists : (place : ℕ) → IsOfLists (plan_of packed o origin pointer variables lists) place →
      (plan_of packed o origin pointer variables lists).may_read place ≡ true
  reads_lists place is =
      let all = size_is (plan_of packed o origin pointer variables lists) in
      let to = is.to in
      or_right (is_within (origin + 6) (origin + (6 + image_count packed o)) place) _
      (within_is _ _ place is.from (omega (arith, to, all)))

  pub reads : (place : ℕ) → (plan_of packed o origin pointer variables lists).may_read place ≡ true →
      IsVariable (plan_of packed o origin pointer variables lists) place
      ⊎ IsOfLists (plan_of packed o origin pointer variables lists) place
  reads place may =
      let all = size_is (plan_of packed o origin pointer variables lists) in
      elim (or_cases (is_within (origin + 6) (origin + (6 + image_count packed o)) place) _ may) [
        | inl variable ↦
            let is = is_in (origin + 6) (origin + (6 + image_count packed o)) place variable in
            let count = placed_length (image_places packed o) (image_count packed o) variables in
            inl (record { from = is.0; to = omega (arith, is, count) })
        | inr list ↦
            let is = is_in _ _ place list in inr (record { from = is.0; to = omega (arith, is, all) })
      ]

  pub writes_read : (place : ℕ) → (plan_of packed o origin pointer variables lists).may_read place ≡ true →
      (plan_of packed o origin pointer variables lists).may_write place ≡ true
  writes_read place may = or_left _ _ may

  pub writes_register : (place : ℕ) → 0xD400 ≤ place → place ≤ 0xD418 →
      (plan_of packed o origin pointer variables lists).may_write place ≡ true
  writes_register place from to =
      or_right (is_read _ _ _ _ place) _ (or_left _ _ (within_is 0xD400 0xD419 place from (omega (arith, to))))

  pub writes_timer : image_holds packed o TIMED ≡ true → (place : ℕ) → 0xDC04 ≤ place → place < 0xDC06 →
      (plan_of packed o origin pointer variables lists).may_write place ≡ true
  writes_timer timed place from to =
      or_right (is_read _ _ _ _ place) _ (or_right (is_within 0xD400 0xD419 place) _
      (both _ _ timed (within_is 0xDC04 0xDC06 place from to)))

  pub sets_timer : (which : Bool) → MaySetTimer (wide_layout (plan_of packed o origin pointer variables lists) which)
  sets_timer which = record {
    low = λ timed. or_left _ (is_spare which 0xDC04) (writes_timer timed 0xDC04 (omega arith) (omega arith));
    high = λ timed. or_left _ (is_spare which 0xDC05) (writes_timer timed 0xDC05 (omega arith) (omega arith));
  }

  pub writes : (place : ℕ) → (plan_of packed o origin pointer variables lists).may_write place ≡ true →
      MayBeWritten (plan_of packed o origin pointer variables lists) place
  writes place may =
      elim (or_cases (is_read _ _ _ _ place) _ may) [
        | inl read ↦
            elim (reads place read) [
              | inl variable ↦ AtVariable variable
              | inr list ↦ InLists list
            ]
        | inr other ↦
            elim (or_cases (is_within 0xD400 0xD419 place) _ other) [
              | inl register ↦
                  let is = is_in 0xD400 0xD419 place register in AtRegister is.0 (omega (arith, is))
              | inr timer ↦
                  let parts = and_parts (image_holds packed o TIMED) (is_within 0xDC04 0xDC06 place) timer in
                  let is = is_in 0xDC04 0xDC06 place parts.1 in
                  AtTimer parts.0 (one_of place is.0 is.1)
            ]
      ]
    where
      one_of : (place : ℕ) → 0xDC04 ≤ place → place < 0xDC06 → (place ≡ 0xDC04) ⊎ (place ≡ 0xDC05)
      one_of place from to =
          elim (cases_lt place 0xDC05) [
            | inl low ↦ inl (omega (arith, low, from))
            | inr high ↦ inr (omega (arith, high, to))
          ]

-- ---- the layouts

-- what is known of an image
pub record Laid (packed : PackedSong) (o : Options) (origin pointer : ℕ) (variables : List ℕ) (lists : List Line)
    : Type 0 where
  pub is : IsPlan (plan_of packed o origin pointer variables lists)
  pub counts : KeepsCounts packed
  pub has : HasLines (image_holds packed o NOTE_DEPENDENT) packed (origin + code_bytes packed o pointer variables) lists
  pub begins : 0x0800 ≤ origin
  pub ends : origin + plan_size (plan_of packed o origin pointer variables lists) ≤ 0xD000

-- where a variable stands in a wide layout: at its place, or where the spare bytes are
pub data Standing (packed : PackedSong) (o : Options) (origin : ℕ) (which : Bool) (label address : ℕ) : Type 0 where
  Own : has_byte (image_holds packed o) label ≡ true → address ≡ origin + (6 + image_places packed o label) →
      Standing packed o origin which label address
  Spare : has_byte (image_holds packed o) label ≡ false → address ≡ spare_from which + label →
      Standing packed o origin which label address

module _ (packed : PackedSong) (o : Options) (origin pointer : ℕ) (variables : List ℕ) (lists : List Line)
    (l : Laid packed o origin pointer variables lists) (which : Bool) where
  pub standing : (label : ℕ) → label < VARIABLES →
      Standing packed o origin which label
      (wide_address (plan_of packed o origin pointer variables lists) which label)
  standing label few = by_case (has_byte (image_holds packed o) label) refl
    where
      by_case : (z : Bool) → has_byte (image_holds packed o) label ≡ z →
          Standing packed o origin which label
          (wide_address (plan_of packed o origin pointer variables lists) which label)
      by_case true has =
          Own has (wide_at (plan_of packed o origin pointer variables lists) which label (λ less. has)
          ∙ (labels_stand_in_place (plan_of packed o origin pointer variables lists) l.is).variables label few)
      by_case false none = Spare none (rw (lt-ltb label VARIABLES few, none) refl)

  -- what is behind the variables and the code, in numbers
  record Ends : Type 0 where
    begins : 0x0800 ≤ origin
    behind : origin + (6 + image_count packed o) ≤ origin + code_bytes packed o pointer variables
    ends : origin + code_bytes packed o pointer variables ≤ 0xD000

  its_ends : Ends
  its_ends =
      let code = (labels_stand_in_place (plan_of packed o origin pointer variables lists) l.is).size in
      let count = placed_length (image_places packed o) (image_count packed o) variables in
      let all = size_is (plan_of packed o origin pointer variables lists) in
      let ends = l.ends in
      record { begins = l.begins; behind = omega (arith, code, count); ends = omega (arith, all, ends) }

  -- in front of the code, and in memory
  in_front : (label address : ℕ) → label < VARIABLES → Standing packed o origin which label address →
      address < origin + code_bytes packed o pointer variables
  in_front label address few (Own has is) =
      let place = places_are_within (image_holds packed o) label few in
      let behind = its_ends.behind in omega (arith, is, place, behind)
  in_front label address few (Spare none is) =
      let to = (in_spare which (spare_from which + label) (spare_is which label few)).to in
      let begins = its_ends.begins in
      let behind = its_ends.behind in omega (arith, is, to, begins, behind)

  from_stack : (label address : ℕ) → label < VARIABLES → Standing packed o origin which label address → 0x0200 ≤ address
  from_stack label address few (Own has is) = (let begins = its_ends.begins in omega (arith, is, begins))
  from_stack label address few (Spare none is) =
      let from = (in_spare which (spare_from which + label) (spare_is which label few)).from in omega (arith, is, from)

  -- no two at one place
  are_apart : (one two p q : ℕ) → one < VARIABLES → two < VARIABLES → Standing packed o origin which one p →
      Standing packed o origin which two q → p ≡ q → one ≡ two
  are_apart one two p q few less (Own has is) (Own its at) e =
      places_are_apart (image_holds packed o) one two few less has its (omega (arith, is, at, e))
  are_apart one two p q few less (Own has is) (Spare none at) e =
      let to = (in_spare which (spare_from which + two) (spare_is which two less)).to in
      let begins = its_ends.begins in absurd (omega (arith, is, at, e, to, begins))
  are_apart one two p q few less (Spare none is) (Own has at) e =
      let to = (in_spare which (spare_from which + one) (spare_is which one few)).to in
      let begins = its_ends.begins in absurd (omega (arith, is, at, e, to, begins))
  are_apart one two p q few less (Spare none is) (Spare other at) e = omega (arith, is, at, e)

  -- a voice's behind the first one's
  in_step : (label voice p q : ℕ) → is_own label ≡ true → voice < 3 → Standing packed o origin which label p →
      Standing packed o origin which (label + 7 * voice) q → q ≡ p + 7 * voice
  in_step label voice p q own few (Own has is) (Own its at) =
      let step = voices_are_in_step (image_holds packed o) label voice own few has in omega (arith, is, at, step)
  in_step label voice p q own few (Own has is) (Spare none at) =
      absurd (both_ways _ none (voices_are_alike (image_holds packed o) label voice own few ∙ has))
  in_step label voice p q own few (Spare none is) (Own has at) =
      absurd (both_ways _ (voices_are_alike (image_holds packed o) label voice own few ∙ none) has)
  in_step label voice p q own few (Spare none is) (Spare other at) = omega (arith, is, at)

  funk_step : (p q : ℕ) → Standing packed o origin which FUNK_ONE p → Standing packed o origin which FUNK_TWO q →
      q ≡ p + 1
  funk_step p q (Own has is) (Own its at) =
      let step = (funk_is_together (image_holds packed o)).1 has in omega (arith, is, at, step)
  funk_step p q (Own has is) (Spare none at) =
      absurd (both_ways _ none ((funk_is_together (image_holds packed o)).0 ∙ has))
  funk_step p q (Spare none is) (Own has at) =
      absurd (both_ways _ ((funk_is_together (image_holds packed o)).0 ∙ none) has)
  funk_step p q (Spare none is) (Spare other at) = omega (arith, is, at)

  -- ---- the lists

  pub data_laid : IsDataLayout (wide_layout (plan_of packed o origin pointer variables lists) which)
      (image_holds packed o NOTE_DEPENDENT) packed (origin + code_bytes packed o pointer variables)
  data_laid = record {
    stands = λ mark is.
        wide_at (plan_of packed o origin pointer variables lists) which mark.label
        (λ few. absurd (behind_variables mark is few))
        ∙ (labels_stand_in_place (plan_of packed o origin pointer variables lists) l.is).lists mark.label mark.place
        (labels_have_places (image_holds packed o NOTE_DEPENDENT) packed (origin + code_bytes packed o pointer variables)
        lists mark l.counts l.has is);
  }
    where
      no_variable : (label : ℕ) → IsDataLabel label → label < VARIABLES → ⊥
      no_variable label (inl (inl low)) few = omega (arith, low, few)
      no_variable label (inl (inr high)) few = omega (arith, high, few)
      no_variable label (inr own) few = omega (arith, own, few)

      behind_variables : (mark : Mark) → Contains (data_marks (image_holds packed o NOTE_DEPENDENT) packed) mark →
          mark.label < VARIABLES → ⊥
      behind_variables mark is =
          no_variable mark.label
          (All-contains (λ (m : Mark). IsDataLabel m.label) (data_marks (image_holds packed o NOTE_DEPENDENT) packed) mark
          (are_data_labels (image_holds packed o NOTE_DEPENDENT) packed l.counts) is)

  taken : size_of lists ≡ lists_size (image_holds packed o NOTE_DEPENDENT) packed
  taken =
      (lines_take_size (image_holds packed o NOTE_DEPENDENT) packed (origin + code_bytes packed o pointer variables) lists
      l.has).0

  -- a place of the lists is one behind the code
  inside : (place : ℕ) → IsInside (wide_layout (plan_of packed o origin pointer variables lists) which) packed
      (origin + code_bytes packed o pointer variables) place →
      IsOfLists (plan_of packed o origin pointer variables lists) place
  inside place is =
      let all = size_is (plan_of packed o origin pointer variables lists) in
      let size = taken in
      let to = is.to in
      record { from = is.from; to = omega (arith, to, all, size) }

  pub list_room : IsListRoom (wide_layout (plan_of packed o origin pointer variables lists) which) packed
      (origin + code_bytes packed o pointer variables)
  list_room =
      let all = size_is (plan_of packed o origin pointer variables lists) in
      let size = taken in
      let begins = l.begins in
      let ends = l.ends in
      record {
        laid = data_laid;
        from = omega (arith, begins);
        to = omega (arith, ends, all, size);
        variables = λ label few. inl (in_front label _ few (standing label few));
        pointer = l.is.pointer_high;
        reads = λ place is.
            or_left _ (is_spare which place)
            (reads_lists packed o origin pointer variables lists place (inside place is));
      }

  pub are_laid : AreLaid (wide_layout (plan_of packed o origin pointer variables lists) which) packed
  are_laid =
      lists_are_laid (wide_layout (plan_of packed o origin pointer variables lists) which) packed
      (origin + code_bytes packed o pointer variables) list_room

  list_layout : IsListLayout (wide_layout (plan_of packed o origin pointer variables lists) which) packed
      (origin + code_bytes packed o pointer variables)
  list_layout = record { laid = data_laid; ends = (let to = list_room.to in omega (arith, to)) }

  -- each byte of a list, and each slide, is such a place
  pub lists_inside : (list : SongList) (number : ℕ) →
      IsSongList (wide_layout (plan_of packed o origin pointer variables lists) which) packed list →
      HasNumber packed list number →
      IsOfLists (plan_of packed o origin pointer variables lists)
      (place_in (wide_layout (plan_of packed o origin pointer variables lists) which) (list_label list) number)
  lists_inside list number is has =
      inside _
      (lists_stand_inside (wide_layout (plan_of packed o origin pointer variables lists) which) packed
      (origin + code_bytes packed o pointer variables) list number list_layout is has).0

  pub slides_inside : image_holds packed o NOTE_DEPENDENT ≡ true → (row : ℕ) → row < slide_rows packed →
      HasSlideInside (plan_of packed o origin pointer variables lists) which row
  slides_inside kept row few =
      let its = slides_are_inside (wide_layout (plan_of packed o origin pointer variables lists) which) packed
      (origin + code_bytes packed o pointer variables) list_layout kept in
      let from = its.from in
      let apart = its.apart in
      let to = its.to in
      record {
        low = inside _ (record { from = omega (arith, from); to = omega (arith, few, apart, to) });
        high = inside _ (record { from = omega (arith, from, apart); to = omega (arith, few, to) });
      }

  -- ---- the room

  room : IsRoom (wide_layout (plan_of packed o origin pointer variables lists) which) (slide_rows packed)
  room = record {
    variables = record {
      from = λ label few. from_stack label _ few (standing label few);
      to = λ label few.
          (let front = in_front label _ few (standing label few) in let ends = its_ends.ends in omega (arith, front, ends));
      apart = λ one two few less e. are_apart one two _ _ few less (standing one few) (standing two less) e;
      voices = λ label voice own few.
          let small = ltb-true label 90 (and_parts (nat_lt label 90) (nat_lt (label % 21) 7) own).0 in
          in_step label voice _ _ own few (standing label (omega (arith, small)))
          (standing (label + 7 * voice) (omega (arith, small, few)));
      funk = funk_step _ _ (standing FUNK_ONE (omega arith)) (standing FUNK_TWO (omega arith));
    };
    slides = are_laid.slides;
    pointer_low = l.is.pointer_low;
    pointer_high = l.is.pointer_high;
  }

  -- a variable's byte may be read
  variable_reads : (label address : ℕ) → label < VARIABLES → Standing packed o origin which label address →
      (wide_layout (plan_of packed o origin pointer variables lists) which).may_read address ≡ true
  variable_reads label address few (Own has is) =
      let place = places_are_within (image_holds packed o) label few in
      let count = placed_length (image_places packed o) (image_count packed o) variables in
      or_left _ (is_spare which address)
      (reads_variables packed o origin pointer variables lists address
      (record { from = omega (arith, is); to = omega (arith, is, place, count) }))
  variable_reads label address few (Spare none is) =
      or_right ((plan_of packed o origin pointer variables lists).may_read address) (is_spare which address)
      (ap (is_spare which) is ∙ spare_is which label few)

  -- and what may be read may be written
  wide_writes : (place : ℕ) →
      (wide_layout (plan_of packed o origin pointer variables lists) which).may_read place ≡ true →
      (wide_layout (plan_of packed o origin pointer variables lists) which).may_write place ≡ true
  wide_writes place may =
      elim (or_cases ((plan_of packed o origin pointer variables lists).may_read place) (is_spare which place) may) [
        | inl own ↦
            or_left _ (is_spare which place) (writes_read packed o origin pointer variables lists place own)
        | inr spare ↦
            or_right ((plan_of packed o origin pointer variables lists).may_write place) (is_spare which place) spare
      ]

  uses : MayUse (wide_layout (plan_of packed o origin pointer variables lists) which) (slide_rows packed)
  uses = record {
    reads = λ label few. variable_reads label _ few (standing label few);
    writes = λ label few. wide_writes _ (variable_reads label _ few (standing label few));
    slides = λ kept row few.
        let its = slides_inside kept row few in
        let low = or_left _ (is_spare which _) (reads_lists packed o origin pointer variables lists _ its.low) in
        let high = or_left _ (is_spare which _) (reads_lists packed o origin pointer variables lists _ its.high) in
        record {
          reads_low = low;
          reads_high = high;
          writes_low = wide_writes _ low;
          writes_high = wide_writes _ high;
        };
    registers = λ register few.
        or_left _ (is_spare which (0xD400 + register))
        (writes_register packed o origin pointer variables lists (0xD400 + register) (omega arith) (omega (arith, few)));
  }

  pub player_layout : walk_count packed ≤ 255 →
      IsPlayerLayout (wide_layout (plan_of packed o origin pointer variables lists) which) packed
  player_layout few =
      let laid = are_laid in record {
        room = room;
        uses = uses;
        next = laid.next;
        lists = laid.lists;
        timer = laid.timer;
        wave = laid.wave;
        gates = laid.gates;
        envelopes = laid.envelopes;
        orders = laid.orders;
        patterns = laid.patterns;
        walks = subst (λ turns. walk_count packed ≤ turns) (sym (open_turns_are (walk_count packed) few)) (omega arith);
      }
