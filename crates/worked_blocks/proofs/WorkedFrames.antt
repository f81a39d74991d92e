-- What the definitions of the two entrances take, and what they refuse.
use Rattle.std.proofs.Common.{◌≡◌, ◌⊎◌, ℕ, ◌+◌, ◌-◌, ◌%◌, ◌<◌, ◌≤◌, Bool, if◌then◌else◌}
use Rattle.std.proofs.Common.{List, [], ◌∷◌, ◌++◌, slice_index}
use Rattle.std.proofs.Common.{Some, None, inl, inr, refl, sym, ap, ◌∙◌, arith, nat_eq, nat_le}
use Rattle.std.proofs.lemmas.Bool.{or_cases, leb-true, eqb-true}
use Rattle.code_runs.specs.Runs.{put}
use Rattle.code_runs.proofs.Laws.{put_same}
use Rattle.play_model.specs.declared.options.Options.{Options}
use Rattle.play_model.specs.State.{FrameState}
use Rattle.packed_form.specs.declared.packed_songs.PackedSong.{PackedSong}
use Rattle.scopes.specs.Desk.{Desk, Layout}
use Rattle.cpu6502.specs.declared.mnemonic.Mnemonic.TheVariants.{Ldx}
use Rattle.scopes.specs.declared.line.Operand.TheVariants.{Number}
use Rattle.scopes.specs.Trees.{Tree, ThenTree, ScopeTree, LoopTree, WhenTree, WithTree}
use Rattle.scopes.specs.Meaning.{Ran}
use Rattle.player_memory.specs.declared.labels.TheConstants.{TICK, NEW_COMMAND, PULSE_POINTER, VOLUME, ORDER_LOW}
use Rattle.player_memory.specs.declared.labels.TheConstants.{LENT}
use Rattle.player_memory.specs.Playing.{own_at, shared_at, place_in}
use Rattle.player_memory.specs.SongLists.{list_label, list_byte}
use Rattle.player_memory.specs.Holds.{order_label}
use Rattle.player_desk.proofs.Laws.{fields_of, shared_of}
use Rattle.player_text.specs.declared.texts.Start.{Start}
use Rattle.player_text.specs.Texts.{voice_tree, init_tree}
use Rattle.kept_lines.specs.Starts.{start_of}
use Rattle.worked_blocks.specs.WorkedFrames.{EntrancesAreTold, PlacesAreTold, HoldsExactly, FramesExactly}
use Rattle.worked_blocks.specs.WorkedFrames.{BeginsExactly, ReadyExactly, EntrancesAreExact}

-- ---- entrances

no_tree : (tree : Tree) → Some tree ≡ None → ⊥
no_tree tree e = cc

-- the numbers that are loaded in X
abbrev x_loads : Tree → List ℕ
x_loads (ThenTree first rest) = x_loads first ++ x_loads rest
x_loads (ScopeTree name body) = x_loads body
x_loads (LoopTree count body) = x_loads body
x_loads (WhenTree condition body) = x_loads body
x_loads (WithTree Ldx (Number number)) = number ∷ []
x_loads tree = []

-- the second of them tells how many variables are cleared
another_count : (start : Start) (count : ℕ) → 1 ≤ count →
    init_tree start count ≡ init_tree start (count + 1) → ⊥
another_count start count some e =
    let same : count - 1 ≡ count + 1 - 1 = ap (λ tree. slice_index (x_loads tree) 1) e in
    omega (arith, same, some)

entrances : (label pointer count : ℕ) (start : Start) → EntrancesAreTold label pointer count start
entrances label pointer count start = record {
  frames = record { first = refl; voice = refl };
  alone = λ plays. no_tree voice_tree (sym plays.voice);
  beginnings = record { first = refl; voice = refl };
  another = λ some begins. another_count start count some begins.first;
  voices = λ begins. no_tree voice_tree begins.voice;
}

-- ---- states and calls

-- a byte that is put can't be another
not_put : (at : ℕ → ℕ) (place byte : ℕ) → put at place (byte + 1) place ≡ byte → ⊥
not_put at place byte e =
    let over : byte + 1 ≡ byte = sym (put_same at place (byte + 1)) ∙ e in omega (arith, over)

states : (layout : Layout) (packed : PackedSong) (k : ℕ) (x : FrameState) (at : ℕ → ℕ) →
    HoldsExactly layout packed k x at
states layout packed k x at = record {
  tick = λ holds.
      let own = (holds.voices 0 (omega arith)).plays.own in
      not_put at (layout.address TICK) x.one.tick
      (fields_of layout.holds x.one _ (own_at layout (put at (layout.address TICK) (x.one.tick + 1)) 0) own).tick;
  third = λ holds.
      let own = (holds.voices 2 (omega arith)).plays.own in
      not_put at (layout.address (PULSE_POINTER + 14)) x.three.pulse_ptr
      (fields_of layout.holds x.three _
      (own_at layout (put at (layout.address (PULSE_POINTER + 14)) (x.three.pulse_ptr + 1)) 2) own).pulse_ptr;
  command = λ kept holds.
      let own = (holds.voices 0 (omega arith)).plays.own in
      not_put at (layout.address NEW_COMMAND) x.one.new_command
      ((fields_of layout.holds x.one _
      (own_at layout (put at (layout.address NEW_COMMAND) (x.one.new_command + 1)) 0) own).new_command kept);
  width = λ unkept other holds.
      let fields = fields_of layout.holds x.one _ (own_at layout at 0) (holds.voices 0 (omega arith)).plays.own in
      let low = fields.no_pulse_low unkept in let high = fields.no_pulse_high unkept in
      other (omega (arith, low, high));
  volume = λ kept holds.
      not_put at (layout.address VOLUME) x.common.volume
      ((shared_of layout.holds x.common (shared_at layout (put at (layout.address VOLUME) (x.common.volume + 1)))
      (holds.voices 0 (omega arith)).plays.common).volume kept);
  no_volume = λ unkept other holds.
      other ((shared_of layout.holds x.common (shared_at layout at)
      (holds.voices 0 (omega arith)).plays.common).no_volume unkept);
  order = λ holds.
      not_put at (layout.address (ORDER_LOW + 7)) (layout.address (order_label k 1) % 256)
      (holds.voices 1 (omega arith)).song.has.low_is;
  lent = λ holds. not_put at (layout.address LENT) 0 holds.none_lent;
  listed = λ list number is has holds.
      not_put at (place_in layout (list_label list) number) (list_byte layout packed list number)
      (holds.lists.lists list number is has).is;
}

frames : (layout : Layout) (packed : PackedSong) (o : Options) (k : ℕ) (x : FrameState) (before : Desk) (run : Ran) →
    FramesExactly layout packed o k x before run
frames layout packed o k x before run = record {
  ends = λ outcome other plays. other plays.ends;
  holds = λ other plays. other plays.holds;
  register = λ register few plays. not_put run.desk.at (0xD400 + register) _ (plays.registers register few);
  elsewhere = λ place away off plays. not_put run.desk.at place (before.at place) (plays.elsewhere place away off);
}

beginnings : (layout : Layout) (packed : PackedSong) (o : Options) (k count : ℕ) (before : Desk) (run : Ran) →
    BeginsExactly layout packed o k count before run
beginnings layout packed o k count before run = record {
  ends = λ outcome other begins. other begins.ends;
  register = λ register few begins. not_put run.desk.at (0xD400 + register) 0 (begins.registers register few);
  timer_low = λ timed begins.
      not_put run.desk.at 0xDC04 (start_of o).timer_low
      (begins.timer_low ∙ ap (λ (kept : Bool). if kept then (start_of o).timer_low else before.at 0xDC04) timed);
  timer_high = λ timed begins.
      not_put run.desk.at 0xDC05 (start_of o).timer_high
      (begins.timer_high ∙ ap (λ (kept : Bool). if kept then (start_of o).timer_high else before.at 0xDC05) timed);
  no_timer = λ untimed begins.
      not_put run.desk.at 0xDC04 (before.at 0xDC04)
      (begins.timer_low ∙ ap (λ (kept : Bool). if kept then (start_of o).timer_low else before.at 0xDC04) untimed);
  elsewhere = λ place leaves begins. not_put run.desk.at place (before.at place) (begins.elsewhere place leaves);
}

ready : (layout : Layout) (packed : PackedSong) (o : Options) (k : ℕ) (x : FrameState) (at : ℕ → ℕ) (desk : Desk) →
    ReadyExactly layout packed o k x at desk
ready layout packed o k x at desk = record {
  filter = λ on out ready. (let kept = ready.filter_kept on in cc);
  shared = λ on out ready. (let kept = ready.shared.filter on in cc);
  still = λ voice register few rests other ready.
      other (ap (λ bytes. slice_index bytes register) (ready.still voice few rests).registers);
  a = λ called. (let is = called.a in omega (arith, is));
  stored = λ called. (let few = called.stored in omega (arith, few));
  byte = λ many called. (let few = called.byte in omega (arith, many, few));
}

-- ---- places

on_stack : (place : ℕ) → 256 ≤ place → place < 512 → (place < 256) ⊎ (512 ≤ place) → ⊥
on_stack place from to (inl low) = omega (arith, from, low)
on_stack place from to (inr high) = omega (arith, to, high)

on_timer : (place : ℕ) → 0xDC04 ≤ place → place < 0xDC06 → (place < 0xDC04) ⊎ (0xDC06 ≤ place) → ⊥
on_timer place from to (inl low) = omega (arith, from, low)
on_timer place from to (inr high) = omega (arith, to, high)

places : (layout : Layout) → PlacesAreTold layout
places layout = record {
  page = λ place reads.
      elim (or_cases (nat_le 0x0200 place) (nat_eq place 0x00FF) reads) [
        | inl from ↦ inr (leb-true 0x0200 place from)
        | inr is ↦ inl (let e = eqb-true place 0x00FF is in omega (arith, e))
      ];
  last = λ off. on_stack 0x01FF (omega arith) (omega arith) (off 0x01FF refl);
  first = λ off. on_stack 0x0100 (omega arith) (omega arith) (off 0x0100 refl);
  timer = λ timed place reads.
      elim (or_cases (nat_le 0xDC06 place) (nat_le (place + 1) 0xDC04) reads) [
        | inl from ↦ inr (leb-true 0xDC06 place from)
        | inr to ↦ inl (let low = leb-true (place + 1) 0xDC04 to in omega (arith, low))
      ];
  low = λ off. on_timer 0xDC04 (omega arith) (omega arith) (off refl 0xDC04 refl);
  high = λ off. on_timer 0xDC05 (omega arith) (omega arith) (off refl 0xDC05 refl);
  untimed = λ timed. absurd (cc timed);
}

pub entrances_are_exact : EntrancesAreExact
entrances_are_exact = record {
  entrances = entrances;
  places = places;
  states = states;
  frames = frames;
  beginnings = beginnings;
  ready = ready;
}
