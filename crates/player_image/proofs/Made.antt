-- The listing that is made is an image's, and nothing is wrong with it.
use Rattle.std.proofs.Common.{◌≡◌, ℕ, ◌+◌, ◌<◌, ◌≤◌, Bool, List, ◌++◌, length, slice_index, sym}
use Rattle.std.proofs.Common.{ap, ◌∙◌, subst, arith}
use Rattle.play_model.specs.declared.options.Options.{Options}
use Rattle.play_model.specs.Speeds.{IsSpeed}
use Rattle.packed_form.specs.declared.packed_songs.PackedSong.{PackedSong}
use Rattle.asm6502.specs.declared.lines.Line.{Line}
use Rattle.asm6502.specs.Lines.{size_of}
use Rattle.scope_lines.specs.Readings.{holds_in}
use Rattle.player_memory.specs.declared.conditions.TheConstants.{NOTE_DEPENDENT}
use Rattle.player_memory.specs.declared.labels.TheConstants.{VARIABLES}
use Rattle.player_memory.specs.Starting.{Begins}
use Rattle.player_text.specs.declared.texts.Start.{Start}
use Rattle.kept_lines.specs.Starts.{start_of}
use Rattle.kept_lines.specs.Asked.{asked_by}
use Rattle.kept_lines.specs.KeptLines.{kept_set}
use Rattle.variable_places.specs.Places.{place_of, variable_count}
use Rattle.variable_places.proofs.Laws.{places_are_within, counts_are_few, counts_are_no_fewer}
use Rattle.song_lists.specs.DataLists.{HasLines, AreFirstOrders, order_places}
use Rattle.song_lists.specs.ListLaws.{KeepsCounts}
use Rattle.player_code.specs.CodeLines.{code_lines}
use Rattle.player_code.specs.CodeLaws.{code_takes}
use Rattle.player_code.specs.Plans.{IsPlan}
use Rattle.player_code.proofs.Laws.{code_takes_its_blocks}
use Rattle.player_image.specs.Images.{image_holds, image_places, image_count, image_variables, code_bytes, placed}
use Rattle.player_image.specs.Images.{HaveNoPattern}
use Rattle.player_image.specs.Images.{plan_of, numbered, first_order, IsListingOf}
use Rattle.player_image.proofs.Lists.{lists_are_data}
use Rattle.player_image.proofs.Placed.{placed_length, placed_same, codes_same}
use Rattle.player_image.proofs.Whole.{start_bytes, addressed}

module _ (packed : PackedSong) (o : Options) (origin pointer : ℕ) (speed : IsSpeed o.speed) (counts : KeepsCounts packed)
    (low : 2 ≤ pointer) (high : pointer ≤ 254) where
  pub plan_is : (variables : List ℕ) (lists : List Line) →
      HasLines (image_holds packed o NOTE_DEPENDENT) packed (origin + code_bytes packed o pointer variables) lists →
      IsPlan (plan_of packed o origin pointer variables lists)
  plan_is variables lists has =
      let count = placed_length (image_places packed o) (image_count packed o) variables in
      let few = counts_are_few (image_holds packed o) in record {
        variables_low = (let least = counts_are_no_fewer (image_holds packed o) in omega (arith, least, count));
        variables_high = omega (arith, few.1, count);
        places = λ label below.
            (let within = places_are_within (image_holds packed o) label below in omega (arith, within, count));
        pointer_low = low;
        pointer_high = high;
        start = start_bytes o speed;
        lists = lists_are_data (image_holds packed o NOTE_DEPENDENT) packed
            (origin + code_bytes packed o pointer variables) lists counts has;
      }

  -- the lines that come of the numbers as they are made
  pub listing_is : (variables orders bytes : List ℕ) (places : ℕ → ℕ) (set first count : ℕ) (start : Start)
      (dependent : Bool) (code lists listing : List Line) → length variables ≡ VARIABLES →
      set ≡ kept_set (asked_by packed) o → start ≡ start_of o → dependent ≡ holds_in set NOTE_DEPENDENT →
      ((label : ℕ) → label < VARIABLES → places label ≡ place_of (holds_in set) label) →
      count ≡ variable_count (holds_in set) → first ≡ origin + code_takes (holds_in set) start count →
      AreFirstOrders dependent packed first orders →
      Begins numbered (start_of o).tempo (start_of o).funk (λ voice. slice_index orders voice) (slice_index variables) →
      HaveNoPattern (slice_index variables) → bytes ≡ placed places count variables → code ≡ code_lines places bytes pointer (holds_in set) start →
      HasLines dependent packed first lists → listing ≡ code ++ lists → IsListingOf packed o origin pointer listing
  listing_is variables orders bytes places set first count start dependent code lists listing all sets starts depends
      stand counted begins are start_is unplayed places_are codes has is =
      record {
        variables = variables;
        lists = lists;
        all = all;
        has_lines = lines;
        first = addressed numbered (start_of o).tempo (start_of o).funk (λ voice. slice_index orders voice)
            (first_order packed o origin pointer variables) (slice_index variables) place start_is;
        unplayed = unplayed;
        are = is ∙ ap (λ ls. ls ++ lists) code_is;
      }
    where
      kept : dependent ≡ image_holds packed o NOTE_DEPENDENT
      kept = depends ∙ ap (λ s. holds_in s NOTE_DEPENDENT) sets

      its_places : (label : ℕ) → label < VARIABLES → places label ≡ image_places packed o label
      its_places label below = stand label below ∙ ap (λ s. place_of (holds_in s) label) sets

      its_count : count ≡ image_count packed o
      its_count = counted ∙ ap (λ s. variable_count (holds_in s)) sets

      its_bytes : bytes ≡ image_variables packed o variables
      its_bytes =
          places_are
          ∙ (ap (λ n. placed places n variables) its_count
          ∙ placed_same places (image_places packed o) its_places (image_count packed o) variables)

      takes : size_of
          (code_lines (image_places packed o) (image_variables packed o variables) pointer (image_holds packed o)
          (start_of o))
          ≡ code_takes (image_holds packed o) (start_of o) (image_count packed o)
      takes =
          code_takes_its_blocks (image_places packed o) (image_variables packed o variables) pointer
          (image_holds packed o) (start_of o)
          ∙ ap (λ n. code_takes (image_holds packed o) (start_of o) n)
          (placed_length (image_places packed o) (image_count packed o) variables)

      from : first ≡ origin + code_bytes packed o pointer variables
      from =
          begins
          ∙ (ap (λ s. origin + code_takes (holds_in s) start count) sets
          ∙ (ap (λ b. origin + code_takes (image_holds packed o) b count) starts
          ∙ (ap (λ n. origin + code_takes (image_holds packed o) (start_of o) n) its_count
          ∙ ap (λ n. origin + n) (sym takes))))

      code_is : code
          ≡ code_lines (image_places packed o) (image_variables packed o variables) pointer (image_holds packed o)
          (start_of o)
      code_is =
          codes
          ∙ (ap (λ s. code_lines places bytes pointer (holds_in s) start) sets
          ∙ (ap (λ b. code_lines places bytes pointer (image_holds packed o) b) starts
          ∙ (codes_same places (image_places packed o) its_places bytes pointer (image_holds packed o) (start_of o)
          ∙ ap (λ vs. code_lines (image_places packed o) vs pointer (image_holds packed o) (start_of o)) its_bytes)))

      lines : HasLines (image_holds packed o NOTE_DEPENDENT) packed (origin + code_bytes packed o pointer variables) lists
      lines =
          subst (λ n. HasLines (image_holds packed o NOTE_DEPENDENT) packed n lists) from
          (subst (λ b. HasLines b packed first lists) kept has)

      place : (voice : ℕ) → voice < 3 → slice_index orders voice
          ≡ origin + code_bytes packed o pointer variables
          + slice_index (order_places (image_holds packed o NOTE_DEPENDENT) packed) voice
      place voice few =
          are voice few
          ∙ (ap (λ b. first + slice_index (order_places b packed) voice) kept
          ∙ ap (λ n. n + slice_index (order_places (image_holds packed o NOTE_DEPENDENT) packed) voice) from)
