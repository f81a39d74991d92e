-- Images for two systems differ in the two numbers that the timer is set to.
use Rattle.std.proofs.Common.{◌≡◌, ℕ, ◌+◌, ◌/◌, ◌%◌, Bool, true, false, nat_lt, List, [], ◌∷◌, ◌++◌}
use Rattle.std.proofs.Common.{length, slice_index, refl, sym, ap, ◌∙◌, subst, arith}
use Rattle.std.proofs.lemmas.Bool.{lt-ltb, le-ltb}
use Rattle.std.proofs.lemmas.List.{length-append}
use Rattle.asm6502.specs.declared.lines.Line.{Line}
use Rattle.asm6502.specs.Lines.{kept}
use Rattle.asm6502.specs.Assembly.{assembled_bytes}
use Rattle.play_model.specs.declared.options.Options.{Options}
use Rattle.play_model.specs.declared.options.System.{System}
use Rattle.play_model.specs.declared.options.System.TheVariants.{Pal, Ntsc}
use Rattle.play_model.specs.Speeds.{IsSpeed, timer_value}
use Rattle.packed_form.specs.declared.packed_songs.PackedSong.{PackedSong}
use Rattle.player_memory.specs.declared.conditions.TheConstants.{NOTE_DEPENDENT, TIMED}
use Rattle.player_memory.specs.Starting.{Begins}
use Rattle.kept_lines.specs.Asked.{asked_by}
use Rattle.kept_lines.specs.KeptLines.{kept_set}
use Rattle.kept_lines.specs.Starts.{start_of}
use Rattle.kept_lines.proofs.Laws.{sets_are_exact}
use Rattle.song_lists.specs.DataLists.{order_places, HasLines}
use Rattle.player_code.specs.CodeLines.{cleared_of, code_lines, play_entrance, init_entrance}
use Rattle.player_image.specs.Images.{image_holds, image_places, image_variables, code_bytes, numbered, IsListingOf}
use Rattle.player_image.specs.Systems.{timer_code, AreAlikeButTimer, SystemsShareImages, TimerCodesAreWorked}
use Rattle.player_image.proofs.Places.{SamePlaces, same_self, same_both, code_same}
use Rattle.player_image.proofs.Alone.{images_are_one}
use Rattle.player_image.proofs.Timer.{if_timed, init_sizes, before_timer, behind_timer, around, with_timer, kept_timer}
use Rattle.player_image.proofs.Timer.{listed_bytes, alike_around}

-- ---- the lines for each system

abbrev on_system : System → Options → Options
on_system system o = record o { system = system }

-- with these lists behind the code
abbrev lines_on : System → (ℕ → ℕ) → List ℕ → ℕ → (ℕ → Bool) → Options → List Line → List Line
lines_on system places variables pointer holds o lists =
    code_lines places variables pointer holds (start_of (on_system system o)) ++ lists

module _ (places : ℕ → ℕ) (variables : List ℕ) (pointer : ℕ) (holds : ℕ → Bool) (o : Options)
    (lists : List Line) where
  split_lines : (system : System) (timed : Bool) → holds TIMED ≡ timed →
      lines_on system places variables pointer holds o lists
      ≡ before_timer places variables pointer holds
      ++ (if_timed timed (timer_value system o.speed % 256) (timer_value system o.speed / 256)
      ++ behind_timer pointer holds (start_of o).tempo (start_of o).funk (cleared_of (length variables)) lists)
  split_lines system timed is =
      around places variables pointer holds (start_of (on_system system o)) lists
      ∙ ap (λ z.
      before_timer places variables pointer holds
      ++ (if_timed z (timer_value system o.speed % 256) (timer_value system o.speed / 256)
      ++ behind_timer pointer holds (start_of o).tempo (start_of o).funk (cleared_of (length variables)) lists)) is

  timed_lines : (system : System) → holds TIMED ≡ true →
      kept 0 (lines_on system places variables pointer holds o lists)
      ≡ with_timer (kept 0 (before_timer places variables pointer holds)) system o.speed
      (kept 0 (behind_timer pointer holds (start_of o).tempo (start_of o).funk (cleared_of (length variables)) lists))
  timed_lines system timed =
      ap (kept 0) (split_lines system true timed)
      ∙ kept_timer system o.speed (before_timer places variables pointer holds)
      (behind_timer pointer holds (start_of o).tempo (start_of o).funk (cleared_of (length variables)) lists)

  faster_alike : (origin : ℕ) (one two : System) → IsSpeed o.speed → holds TIMED ≡ true →
      AreAlikeButTimer o.speed one two (assembled_bytes 0 origin (lines_on one places variables pointer holds o lists))
      (assembled_bytes 0 origin (lines_on two places variables pointer holds o lists))
  faster_alike origin one two is timed =
      let alike = alike_around (kept 0 (before_timer places variables pointer holds))
      (kept 0 (behind_timer pointer holds (start_of o).tempo (start_of o).funk (cleared_of (length variables)) lists)) origin o.speed
      one two is in
      record {
        before = alike.before;
        behind = alike.behind;
        one_is = ap (listed_bytes origin) (timed_lines one timed) ∙ alike.one_is;
        two_is = ap (listed_bytes origin) (timed_lines two timed) ∙ alike.two_is;
      }

  once_same : (origin : ℕ) (one two : System) → holds TIMED ≡ false →
      assembled_bytes 0 origin (lines_on one places variables pointer holds o lists)
      ≡ assembled_bytes 0 origin (lines_on two places variables pointer holds o lists)
  once_same origin one two untimed =
      ap (assembled_bytes 0 origin) (split_lines one false untimed ∙ sym (split_lines two false untimed))

  -- labels are at the same places for each
  its_code : (one two : System) →
      SamePlaces (code_lines places variables pointer holds (start_of (on_system one o)))
      (code_lines places variables pointer holds (start_of (on_system two o)))
  its_code one two =
      code_same places variables variables (play_entrance pointer holds)
      (init_entrance pointer holds (start_of (on_system one o)) (cleared_of (length variables)))
      (init_entrance pointer holds (start_of (on_system two o)) (cleared_of (length variables))) refl
      (init_sizes pointer holds (start_of (on_system one o)) (start_of (on_system two o)) (cleared_of (length variables)))

  places_same : (one two : System) →
      SamePlaces (lines_on one places variables pointer holds o lists)
      (lines_on two places variables pointer holds o lists)
  places_same one two =
      same_both (code_lines places variables pointer holds (start_of (on_system one o)))
      (code_lines places variables pointer holds (start_of (on_system two o))) lists lists (its_code one two)
      (same_self lists)

-- ---- images

-- the lines with these variables, by their labels
abbrev image_lines : PackedSong → Options → System → ℕ → List ℕ → List Line → List Line
image_lines packed o system pointer variables lists =
    lines_on system (image_places packed o) (image_variables packed o variables) pointer (image_holds packed o) o lists

module _ (packed : PackedSong) (o : Options) (other : System) (origin pointer : ℕ) (listing : List Line)
    (here : IsListingOf packed o origin pointer listing) where
  size_same : code_bytes packed o pointer here.variables ≡ code_bytes packed (on_system other o) pointer here.variables
  unfolding kept_set
  size_same =
      (its_code (image_places packed o) (image_variables packed o here.variables) pointer (image_holds packed o) o
      here.lists o.system other).size

  -- with the same variables and lists there is a listing for the other system
  moved : IsListingOf packed (on_system other o) origin pointer
      (image_lines packed o other pointer here.variables here.lists)
  unfolding kept_set
  moved = record {
    variables = here.variables;
    lists = here.lists;
    all = here.all;
    has_lines =
        subst (λ n. HasLines (image_holds packed o NOTE_DEPENDENT) packed (origin + n) here.lists) size_same
        here.has_lines;
    first =
        subst (λ (n : ℕ).
        Begins numbered (start_of o).tempo (start_of o).funk
        (λ voice. origin + n + slice_index (order_places (image_holds packed o NOTE_DEPENDENT) packed) voice)
        (slice_index here.variables))
        size_same here.first;
    unplayed = here.unplayed;
    are = refl;
  }

pub systems_share_images : SystemsShareImages
systems_share_images packed o other origin pointer one two counts speed here there =
    let timer : image_holds packed o TIMED ≡ nat_lt 1 o.speed = sets_are_exact (asked_by packed) o TIMED in
    let mine : one ≡ assembled_bytes 0 origin
    (image_lines packed o o.system pointer here.its.variables here.its.lists) =
    here.are ∙ ap (assembled_bytes 0 origin) here.its.are in
    let its : two ≡ assembled_bytes 0 origin (image_lines packed o other pointer here.its.variables here.its.lists) =
    images_are_one packed (on_system other o) origin pointer two
    (assembled_bytes 0 origin (image_lines packed o other pointer here.its.variables here.its.lists)) counts there
    (record {
      listing = image_lines packed o other pointer here.its.variables here.its.lists;
      its = moved packed o other origin pointer here.listing here.its;
      are = refl;
    }) in
    record {
      once = λ slow.
          mine
          ∙ (once_same (image_places packed o) (image_variables packed o here.its.variables) pointer
          (image_holds packed o) o here.its.lists origin o.system other (timer ∙ le-ltb 1 o.speed slow)
          ∙ sym its);
      faster = λ fast.
          let alike = faster_alike (image_places packed o) (image_variables packed o here.its.variables) pointer
          (image_holds packed o) o here.its.lists origin o.system other speed (timer ∙ lt-ltb 1 o.speed fast) in
          record {
            before = alike.before;
            behind = alike.behind;
            one_is = mine ∙ alike.one_is;
            two_is = its ∙ alike.two_is;
          };
    }

-- ---- worked by hand

-- bytes that have the code in them have room for what stands in front of it
in_front : (speed : ℕ) (system : System) (bytes before behind : List ℕ) →
    bytes ≡ before ++ (timer_code system speed ++ behind) → length bytes ≡ length before + (10 + length behind)
in_front speed system bytes before behind is =
    ap length is ∙ length-append before (timer_code system speed ++ behind)
    ∙ ap (λ n. length before + n) (length-append (timer_code system speed) behind)

exchanged : AreAlikeButTimer 2 Pal Ntsc (timer_code Ntsc 2) (timer_code Pal 2) → ⊥
exchanged alike = by_front alike.before alike.behind alike.one_is
  where
    by_front : (before behind : List ℕ) → timer_code Ntsc 2 ≡ before ++ (timer_code Pal 2 ++ behind) → ⊥
    by_front [] behind is = (let low = ap (λ bytes. slice_index bytes 1) is in omega (arith, low))
    by_front (byte ∷ before) behind is =
        let room = in_front 2 Pal (timer_code Ntsc 2) (byte ∷ before) behind is in omega (arith, room)

other_behind : AreAlikeButTimer 2 Pal Ntsc (timer_code Pal 2 ++ 0x60 ∷ []) (timer_code Ntsc 2 ++ 0x40 ∷ []) → ⊥
other_behind alike = by_front alike.before alike.behind alike.one_is alike.two_is
  where
    by_front : (before behind : List ℕ) → timer_code Pal 2 ++ 0x60 ∷ [] ≡ before ++ (timer_code Pal 2 ++ behind) →
        timer_code Ntsc 2 ++ 0x40 ∷ [] ≡ before ++ (timer_code Ntsc 2 ++ behind) → ⊥
    by_front [] behind one two =
        let first = ap (λ bytes. slice_index bytes 10) one in
        let second = ap (λ bytes. slice_index bytes 10) two in
        let no : ◌≡◌ {A = ℕ} 0x60 0x40 = first ∙ sym second in omega (arith, no)
    by_front (byte ∷ []) behind one two = (let low = ap (λ bytes. slice_index bytes 1) one in omega (arith, low))
    by_front (byte ∷ other ∷ before) behind one two =
        let room = in_front 2 Pal (timer_code Pal 2 ++ 0x60 ∷ []) (byte ∷ other ∷ before) behind one in
        omega (arith, room)

pub timer_codes_are_worked : TimerCodesAreWorked
timer_codes_are_worked = record {
  pal = refl;
  ntsc = refl;
  alike = record { before = 0xD8 ∷ []; behind = 0x60 ∷ []; one_is = refl; two_is = refl };
  exchanged = exchanged;
  other_behind = other_behind;
}
