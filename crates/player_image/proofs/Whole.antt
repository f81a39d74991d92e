-- Each image is a player, and so plays its song.
use Rattle.std.proofs.Common.{◌≡◌, ℕ, ◌+◌, ◌<◌, Bool, List, length, slice_index, refl, sym, ap, ◌∙◌, subst}
use Rattle.std.proofs.Common.{arith}
use Rattle.song_model.specs.declared.songs.Song.{Song}
use Rattle.play_model.specs.declared.options.Options.{Options}
use Rattle.play_model.specs.declared.options.System.{System}
use Rattle.play_model.specs.declared.options.System.TheVariants.{Pal, Ntsc}
use Rattle.play_model.specs.Speeds.{IsSpeed, timer_value}
use Rattle.packed_form.specs.declared.packed_songs.PackedSong.{PackedSong}
use Rattle.packed_form.specs.StandsFor.{StandsFor}
use Rattle.asm6502.specs.Assembly.{assembled_bytes}
use Rattle.asm6502.specs.Standing.{BytesStand}
use Rattle.frame_scenes.proofs.Laws.{walk_is_byte}
use Rattle.player_memory.specs.Holds.{order_label}
use Rattle.player_memory.specs.declared.labels.TheConstants.{ORDERS}
use Rattle.player_memory.specs.declared.variables.TheConstants.{FIRST_SONG_BYTES}
use Rattle.player_memory.specs.Playing.{own_at}
use Rattle.player_memory.specs.Starting.{SongRowsBegin, Begins}
use Rattle.scopes.specs.Desk.{Layout}
use Rattle.song_lists.specs.DataLists.{order_places}
use Rattle.song_lists.specs.Marks.{mark_at}
use Rattle.song_lists.proofs.Laws.{labels_have_places, first_orders_are_marked}
use Rattle.player_text.specs.Facts.{HasBytes}
use Rattle.player_memory.specs.declared.conditions.TheConstants.{NOTE_DEPENDENT}
use Rattle.kept_lines.specs.Starts.{start_of}
use Rattle.kept_blocks.specs.KeptBlocks.{KeepsLines}
use Rattle.kept_blocks.proofs.Laws.{sets_keep_their_lines}
use Rattle.player_code.specs.Plans.{Plan, IsPlan, plan_lines, plan_size, plan_layout}
use Rattle.variable_places.proofs.Laws.{places_are_within, counts_are_few, counts_are_no_fewer, uncleared_are_first}
use Rattle.variable_places.proofs.Laws.{cleared_are_behind}
use Rattle.player_calls.specs.WideLayouts.{wide_layout, with_zeros}
use Rattle.player_calls.specs.Players.{IsPlayer, HasImage}
use Rattle.player_code.proofs.Laws.{labels_stand_in_place}
use Rattle.player_calls.proofs.Laws.{players_play, players_are_isolated, players_hold_the_start, songs_have_subtunes}
use Rattle.player_calls.proofs.Laws.{wide_at}
use Rattle.player_image.specs.Images.{image_holds, image_places, image_count, code_bytes, plan_of, first_order}
use Rattle.player_image.specs.Images.{IsImageOf}
use Rattle.player_image.proofs.Placed.{placed_length}
use Rattle.player_image.specs.ImageLaws.{Stands, ImagesArePlayers, ImagesPlay}
use Rattle.player_image.proofs.Lists.{lists_are_data}
use Rattle.player_image.proofs.Laying.{Laid, reads, reads_variables, reads_lists, writes, writes_read, sets_timer}
use Rattle.player_image.proofs.Laying.{lists_inside, slides_inside, player_layout}
use Rattle.player_image.proofs.Standing.{lists_stand, own_stand, spare_stand}
use Rattle.player_image.proofs.Beginning.{begins_moved}

-- the numbers with which a subtune begins are bytes
timer_small : (system : System) (speed : ℕ) → timer_value system speed < 65536
timer_small Pal speed = omega arith
timer_small Ntsc speed = omega arith

pub start_bytes : (o : Options) → IsSpeed o.speed → HasBytes (start_of o)
start_bytes o speed =
    let most = speed.most in
    let timer = timer_small o.system o.speed in
    record {
      tempo = omega (arith, most);
      funk = omega (arith, most);
      timer_low = omega arith;
      timer_high = omega (arith, timer);
    }

-- the addresses that count are those of the three voices
pub addressed : (layout : Layout) (tempo funk : ℕ) (one two : ℕ → ℕ) (at : ℕ → ℕ) →
    ((voice : ℕ) → voice < 3 → one voice ≡ two voice) →
    Begins layout tempo funk one at → Begins layout tempo funk two at
addressed layout tempo funk one two at same begins = record {
  voices = λ voice few.
      let mine = begins.voices voice few in record {
        state = mine.state;
        song = subst (λ address. SongRowsBegin FIRST_SONG_BYTES address (own_at layout at voice)) (same voice few) mine.song;
      };
  common = begins.common;
  handed = begins.handed;
}

module _ (packed : PackedSong) (song : Song) (o : Options) (origin pointer : ℕ) (bytes : List ℕ)
    (image : IsImageOf packed o origin pointer bytes) (s : Stands packed o origin pointer bytes image)
    (stands : StandsFor packed song) where
  its_plan : IsPlan (plan_of packed o origin pointer image.its.variables image.its.lists)
  its_plan =
      let count = placed_length (image_places packed o) (image_count packed o) image.its.variables in
      let few = counts_are_few (image_holds packed o) in
      let least = counts_are_no_fewer (image_holds packed o) in record {
        variables_low = omega (arith, count, least);
        variables_high = omega (arith, count, few);
        places = λ label less. (let place = places_are_within (image_holds packed o) label less in omega (arith, place, count));
        pointer_low = s.pointer_low;
        pointer_high = s.pointer_high;
        start = start_bytes o s.speed;
        lists = lists_are_data (image_holds packed o NOTE_DEPENDENT) packed
            (origin + code_bytes packed o pointer image.its.variables) image.its.lists s.counts image.its.has_lines;
      }

  laid : Laid packed o origin pointer image.its.variables image.its.lists
  laid =
      let size = s.size in
      let ends = s.ends in
      record { is = its_plan; counts = s.counts; has = image.its.has_lines; begins = s.begins; ends = omega (arith, size, ends) }

  -- where the first subtune's orderlists stand
  order_address : (which : Bool) (voice : ℕ) → voice < 3 →
      (wide_layout (plan_of packed o origin pointer image.its.variables image.its.lists) which).address
      (order_label 0 voice)
      ≡ first_order packed o origin pointer image.its.variables voice
  order_address which voice few =
      wide_at (plan_of packed o origin pointer image.its.variables image.its.lists) which (order_label 0 voice)
      (λ less. absurd (omega (arith, less)))
      ∙ ap (plan_layout (plan_of packed o origin pointer image.its.variables image.its.lists)).address (omega arith)
      ∙ (labels_stand_in_place (plan_of packed o origin pointer image.its.variables image.its.lists) its_plan).lists
      (ORDERS + voice) _
      (labels_have_places (image_holds packed o NOTE_DEPENDENT) packed
      (origin + code_bytes packed o pointer image.its.variables) image.its.lists
      (mark_at (ORDERS + voice) (slice_index (order_places (image_holds packed o NOTE_DEPENDENT) packed) voice))
      s.counts image.its.has_lines
      (first_orders_are_marked (image_holds packed o NOTE_DEPENDENT) packed voice few (songs_have_subtunes packed song stands)))

  first : (which : Bool) (at : ℕ → ℕ) →
      HasImage (plan_of packed o origin pointer image.its.variables image.its.lists) at →
      Begins (wide_layout (plan_of packed o origin pointer image.its.variables image.its.lists) which) (start_of o).tempo
      (start_of o).funk
      (λ voice.
      (wide_layout (plan_of packed o origin pointer image.its.variables image.its.lists) which).address
      (order_label 0 voice)) (with_zeros which at)
  first which at has =
      addressed (wide_layout (plan_of packed o origin pointer image.its.variables image.its.lists) which)
      (start_of o).tempo (start_of o).funk (first_order packed o origin pointer image.its.variables) _
      (with_zeros which at) (λ voice few. sym (order_address which voice few))
      (begins_moved (wide_layout (plan_of packed o origin pointer image.its.variables image.its.lists) which)
      (slice_index image.its.variables) (with_zeros which at)
      (own_stand packed o origin pointer image.its.variables image.its.lists laid at has which)
      (spare_stand packed o origin pointer image.its.variables image.its.lists laid at has which) (start_of o).tempo
      (start_of o).funk _ image.its.first)

  is_player : IsPlayer (plan_of packed o origin pointer image.its.variables image.its.lists) packed song o bytes
  is_player =
      let kept = sets_keep_their_lines (plan_layout (plan_of packed o origin pointer image.its.variables image.its.lists))
      packed.features.0 packed.facts o (λ condition. refl) in
      let wide : (which : Bool) →
      KeepsLines (wide_layout (plan_of packed o origin pointer image.its.variables image.its.lists) which)
      packed.features.0 packed.facts o =
      λ which.
      sets_keep_their_lines
      (wide_layout (plan_of packed o origin pointer image.its.variables image.its.lists) which) packed.features.0
      packed.facts o (λ condition. refl) in
      let few = s.counts.subtunes in
      record {
        is = its_plan;
        are = image.are ∙ ap (assembled_bytes 0 origin) image.its.are;
        size = s.size;
        begins = s.begins;
        ends = laid.ends;
        stands = stands;
        short = s.short;
        subtunes = omega (arith, few);
        speed = s.speed;
        start = refl;
        features = kept.features_are;
        facts = kept.facts_are;
        alone = kept.facts_alone;
        shared = λ which. (wide which).shared;
        common = λ which. (wide which).common;
        options = λ which. (wide which).options_are;
        timed = kept.timer;
        laid = λ which.
            player_layout packed o origin pointer image.its.variables image.its.lists laid which
            (walk_is_byte packed song stands);
        first = λ label few. (uncleared_are_first (image_holds packed o) label few).1;
        behind = cleared_are_behind (image_holds packed o);
        timer = sets_timer packed o origin pointer image.its.variables image.its.lists;
        reads_variables = reads_variables packed o origin pointer image.its.variables image.its.lists;
        reads_lists = reads_lists packed o origin pointer image.its.variables image.its.lists;
        reads = reads packed o origin pointer image.its.variables image.its.lists;
        writes_variables = λ place is.
            writes_read packed o origin pointer image.its.variables image.its.lists place
            (reads_variables packed o origin pointer image.its.variables image.its.lists place is);
        inside = lists_inside packed o origin pointer image.its.variables image.its.lists laid;
        slides = slides_inside packed o origin pointer image.its.variables image.its.lists laid;
        writes = writes packed o origin pointer image.its.variables image.its.lists;
        lists = λ which at has. lists_stand packed o origin pointer image.its.variables image.its.lists laid at has which;
        variables = first;
      }

-- a memory in which the bytes stand has the image
has_image : (plan : Plan) (bytes : List ℕ) (at : ℕ → ℕ) → bytes ≡ assembled_bytes 0 plan.origin (plan_lines plan) →
    length bytes ≡ plan_size plan → BytesStand at plan.origin bytes → HasImage plan at
has_image plan bytes at are size stand = record {
  byte = λ k below.
      subst (λ q. at (plan.origin + q) ≡ slice_index (assembled_bytes 0 plan.origin (plan_lines plan)) q) (omega arith)
      (stand.byte k (omega (arith, below, size)) ∙ ap (λ bs. slice_index bs k) are);
}

pub images_are_players : ImagesArePlayers
images_are_players packed song o origin pointer bytes image s stands =
    is_player packed song o origin pointer bytes image s stands

pub images_play : ImagesPlay
images_play packed song o origin pointer bytes image s stands =
    let player = is_player packed song o origin pointer bytes image s stands in record {
      always = players_play (plan_of packed o origin pointer image.its.variables image.its.lists) packed song o bytes player;
      isolated =
          players_are_isolated (plan_of packed o origin pointer image.its.variables image.its.lists) packed song o bytes player;
      start = λ which at stand.
          players_hold_the_start (plan_of packed o origin pointer image.its.variables image.its.lists) packed song o bytes
          which at player
          (has_image (plan_of packed o origin pointer image.its.variables image.its.lists) bytes at player.are player.size stand);
    }
