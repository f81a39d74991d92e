-- What is made of an image's listing: nothing is wrong with it, it is within the assembler's limits, and it takes the
-- bytes of an image.
use Rattle.std.proofs.Common.{◌≡◌, ℕ, ◌+◌, ◌≤◌, List, length, None}
use Rattle.std.proofs.Common.{sym, ap, ◌∙◌, subst, arith}
use Rattle.std.proofs.Common.{length-append}
use Rattle.play_model.specs.declared.options.Options.{Options}
use Rattle.play_model.specs.Speeds.{IsSpeed}
use Rattle.packed_form.specs.declared.packed_songs.PackedSong.{PackedSong}
use Rattle.asm6502.specs.declared.lines.Line.{Line}
use Rattle.asm6502.specs.Lines.{kept, size_of, data_size}
use Rattle.asm6502.specs.Assembly.{assembled_bytes}
use Rattle.asm6502.specs.Faults.{fault_of}
use Rattle.player_memory.specs.declared.conditions.TheConstants.{NOTE_DEPENDENT}
use Rattle.kept_lines.specs.Starts.{start_of}
use Rattle.song_lists.specs.ListLaws.{KeepsCounts}
use Rattle.song_lists.proofs.Laws.{lines_take_size, lines_are_few}
use Rattle.variable_places.proofs.Laws.{counts_are_few}
use Rattle.player_code.specs.CodeLaws.{code_takes}
use Rattle.player_code.specs.Plans.{IsPlan, plan_code, plan_lines, plan_size}
use Rattle.player_code.proofs.Laws.{code_assembles, size_is, kept_is, code_is_few, code_takes_its_blocks, data_append}
use Rattle.player_image.specs.Images.{image_holds, image_places, image_count, image_variables, code_bytes, plan_of}
use Rattle.player_image.specs.Images.{IsListingOf, IsImageOf, image_size}
use Rattle.player_image.proofs.Placed.{placed_length}
use Rattle.player_image.proofs.Made.{plan_is}

module _ (packed : PackedSong) (o : Options) (origin pointer : ℕ) (speed : IsSpeed o.speed) (counts : KeepsCounts packed)
    (low : 2 ≤ pointer) (high : pointer ≤ 254)
    (fits : origin + image_size packed o ≤ 0xD000) (listing : List Line)
    (is : IsListingOf packed o origin pointer listing) where
  plan_here : IsPlan (plan_of packed o origin pointer is.variables is.lists)
  plan_here = plan_is packed o origin pointer speed counts low high is.variables is.lists is.has_lines

  -- so many variables
  its_count : length (image_variables packed o is.variables) ≡ image_count packed o
  its_count = placed_length (image_places packed o) (image_count packed o) is.variables

  -- so the code takes the bytes that an image's code does
  takes_same : code_takes (image_holds packed o) (start_of o) (length (image_variables packed o is.variables))
      ≡ code_takes (image_holds packed o) (start_of o) (image_count packed o)
  takes_same = ap (λ n. code_takes (image_holds packed o) (start_of o) n) its_count

  code_takes_here : code_bytes packed o pointer is.variables
      ≡ code_takes (image_holds packed o) (start_of o) (image_count packed o)
  code_takes_here =
      code_takes_its_blocks (image_places packed o) (image_variables packed o is.variables) pointer
      (image_holds packed o) (start_of o)
      ∙ takes_same

  pub its_size : plan_size (plan_of packed o origin pointer is.variables is.lists) ≡ image_size packed o
  its_size =
      let all = size_is (plan_of packed o origin pointer is.variables is.lists) in
      let code = code_takes_here in
      let lists = (lines_take_size (image_holds packed o NOTE_DEPENDENT) packed
      (origin + code_bytes packed o pointer is.variables) is.lists is.has_lines).0 in
      omega (arith, all, code, lists)

  pub nothing_wrong : fault_of 0 origin listing ≡ None
  nothing_wrong =
      let size = its_size in
      ap (fault_of 0 origin) is.are
      ∙ code_assembles (plan_of packed o origin pointer is.variables is.lists) plan_here (omega (arith, fits, size))

  lines_fit : length (plan_lines (plan_of packed o origin pointer is.variables is.lists)) ≤ 1000000
  lines_fit =
      let code = code_is_few (image_places packed o) (image_variables packed o is.variables) pointer
      (image_holds packed o) (start_of o) in
      let few = code.lines in
      let takes = takes_same in
      let lists = lines_are_few (image_holds packed o NOTE_DEPENDENT) packed
      (origin + code_bytes packed o pointer is.variables) is.lists counts is.has_lines in
      let all = length-append (plan_code (plan_of packed o origin pointer is.variables is.lists)) is.lists in
      omega (arith, few, takes, lists, all, fits)

  bytes_fit : data_size (plan_lines (plan_of packed o origin pointer is.variables is.lists)) ≤ 1000000
  bytes_fit =
      let code = code_is_few (image_places packed o) (image_variables packed o is.variables) pointer
      (image_holds packed o) (start_of o) in
      let raw = code.bytes in
      let count = its_count in
      let most = (counts_are_few (image_holds packed o)).1 in
      let lists = (lines_take_size (image_holds packed o NOTE_DEPENDENT) packed
      (origin + code_bytes packed o pointer is.variables) is.lists is.has_lines).1 in
      let all = data_append (plan_code (plan_of packed o origin pointer is.variables is.lists)) is.lists in
      omega (arith, raw, count, most, lists, all, fits)

  pub few_lines : length listing ≤ 1000000
  few_lines = subst (λ ls. length ls ≤ 1000000) (sym is.are) lines_fit

  pub few_bytes : data_size listing ≤ 1000000
  few_bytes = subst (λ ls. data_size ls ≤ 1000000) (sym is.are) bytes_fit

  pub image_is : (bytes : List ℕ) → bytes ≡ assembled_bytes 0 origin listing → IsImageOf packed o origin pointer bytes
  image_is bytes are = record { listing = listing; its = is; are = are }

  pub size_here : (bytes : List ℕ) → length bytes ≡ size_of (kept 0 listing) → length bytes ≡ image_size packed o
  size_here bytes size =
      size
      ∙ (ap (λ ls. size_of (kept 0 ls)) is.are
      ∙ (ap size_of (kept_is (plan_of packed o origin pointer is.variables is.lists) plan_here) ∙ its_size))
