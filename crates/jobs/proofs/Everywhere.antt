-- What is told of a packed file holds of its image on any machine.
use Rattle.std.proofs.Common.{◌≡◌, ◌≢◌, ℕ, zero, suc, ◌+◌, ◌-◌, ◌<◌, ◌≤◌, List, [], Option, Some, None, Ok, length, refl}
use Rattle.std.proofs.Common.{sym, ap, ◌∙◌, subst, arith}
use Rattle.std.specs.Option.{option_map}
use Rattle.song_model.specs.declared.songs.Song.{Song}
use Rattle.song_model.specs.LookUp.{playable_subtunes}
use Rattle.play_model.specs.declared.options.Options.{Options}
use Rattle.cpu6502.specs.declared.machine.Machine.{Machine}
use Rattle.cpu6502.specs.Call.{Called, call_cycles}
use Rattle.cpu6502.specs.Code.{IsMachine, Holds}
use Rattle.cpu6502.proofs.Laws.{call_keeps}
use Rattle.psid.specs.declared.header.Psid.{Psid}
use Rattle.sid_run.specs.State.{loaded, loaded_machine, sid_registers}
use Rattle.sid_run.proofs.Laws.{image_stands, loaded_is_machine}
use Rattle.song_length.specs.declared.counts.Dearest.{Dearest}
use Rattle.song_length.specs.declared.measuring.Repeat.{Repeat}
use Rattle.song_length.specs.declared.measuring.Measured.{Measured}
use Rattle.song_length.specs.Plays.{Lead, PlayTold, Tells}
use Rattle.song_length.specs.Told.{Begins, AreTold, IsMeasured}
use Rattle.song_length.specs.Laws.{GoesOnAsTold}
use Rattle.song_length.proofs.Laws.{measured_songs_go_on, begins_once, tells_once}
use Rattle.faithful.specs.Faithful.{AgreesOn}
use Rattle.faithful.specs.Histories.{Init, Play, LeadTo, since_init, PlaysAlways}
use Rattle.faithful.specs.Isolation.{Duration, IsIsolated}
use Rattle.jobs.specs.Answers.{IsPackedPsid}
use Rattle.jobs.specs.Everywhere.{song_calls, PlaysAnywhere, TookWhatIsTold, TakesAsTold, PackedSongsTakeAsTold}
use Rattle.jobs.proofs.PlayedFiles.{psid_of, packed_reads, count_small}

-- after init and some plays there was an init
since_song : (k n : ℕ) → since_init (song_calls k n) ≡ Some (k, n)
since_song k zero = refl
since_song k (suc n) = ap (option_map (λ (last : ℕ × ℕ). (last.0, suc last.1))) (since_song k n)

was_begun : (k n : ℕ) → since_init (song_calls k n) ≢ None
was_begun k n none = let never : Some (k, n) ≡ None = sym (since_song k n) ∙ none in absurd (cc (never))

-- machines that hold an image agree on its bytes
both_hold : (image : List ℕ) (address : ℕ) (one two : Machine) → Holds one.memory address image →
    Holds two.memory address image → AgreesOn image address one two
both_hold image address one two p q = record { same = λ j inside. q.byte j inside ∙ sym (p.byte j inside) }

agrees_itself : (image : List ℕ) (address : ℕ) (machine : Machine) → AgreesOn image address machine machine
agrees_itself image address machine = record { same = λ j inside. refl }

module _ (song : Song) (options : Options) (image : List ℕ) (address zero_page k : ℕ) (psid : Psid) (init_cycles : ℕ)
    (first : Machine) (always : PlaysAlways image address zero_page song options)
    (isolated : IsIsolated image address song) (there : k < length (playable_subtunes song)) (few : k < 256)
    (low : address + 3 < 65536) (is_init : psid.header.init ≡ address) (is_play : psid.header.play ≡ address + 3)
    (is : IsMachine (loaded_machine psid)) (holds : Holds (loaded_machine psid).memory address image)
    (begins : Begins psid k init_cycles first) where
  here_called : Called (loaded_machine psid) address k begins.steps first
  here_called = subst (λ entry. Called (loaded_machine psid) entry k begins.steps first) is_init begins.takes.called

  is_first : IsMachine first
  is_first = call_keeps (loaded_machine psid) first address k begins.steps is (omega (arith, low)) few here_called

  -- init takes as long from any machine that holds the image
  init_alike : (machine after : Machine) (steps : ℕ) → IsMachine machine → Holds machine.memory address image →
      Called machine address k steps after → call_cycles machine address k steps ≡ init_cycles
  init_alike machine after steps is_one holds_one called =
      let alike = isolated.alike [] (Init k) machine machine (loaded_machine psid) k k (is_one, holds_one) (was_begun k 0)
      is_one (agrees_itself image address machine) (there, refl) is
      (both_hold image address machine (loaded_machine psid) holds_one holds) (there, refl) steps after called begins.steps
      first here_called in
      ap (λ (took : Duration). took.cycles) alike.same_duration
      ∙ ap (λ entry. call_cycles (loaded_machine psid) entry k begins.steps) (sym is_init) ∙ sym begins.cycles_are

  -- a machine of the file behind so many plays, and a machine with the same bytes of the image
  record Beside (n : ℕ) (before : Machine) : Type 0 where
    machine : Machine
    led : Lead (loaded psid).play n first machine
    is_one : IsMachine machine
    agrees : AgreesOn image address before machine

  -- the next play of the file
  record NextOf (n : ℕ) (machine : Machine) : Type 0 where
    steps : ℕ
    after : Machine
    called : Called machine (address + 3) machine.cpu.a steps after
    led : Lead (loaded psid).play (suc n) first after
    is_one : IsMachine after
    tells : Tells (loaded psid).play first n (record {
      steps = steps;
      cycles = call_cycles machine (address + 3) machine.cpu.a steps;
      registers = sid_registers after;
    })

  next_of : (n : ℕ) (before : Machine) → LeadTo image address song (song_calls k n) before →
      (beside : Beside n before) → NextOf n beside.machine
  next_of n before leads beside =
      let m = beside.machine in
      let serves = always.serves (song_calls k n) Play before m m.cpu.a leads beside.is_one beside.agrees beside.is_one.a in
      let within = serves.within in
      let called = subst (λ entry. Called m entry m.cpu.a serves.steps serves.after) (sym is_play) serves.called in
      record {
        steps = serves.steps;
        after = serves.after;
        called = serves.called;
        led = (m, serves.steps, beside.led, record { called = called; within = omega (arith, within) });
        is_one =
            call_keeps m serves.after (address + 3) m.cpu.a serves.steps beside.is_one low beside.is_one.a serves.called;
        tells = record {
          before = m;
          after = serves.after;
          led = beside.led;
          takes = record { called = called; within = omega (arith, within) };
          cycles = ap (λ entry. call_cycles m entry m.cpu.a serves.steps) (sym is_play);
          registers = refl;
        };
      }

  beside : (n : ℕ) (before : Machine) → LeadTo image address song (song_calls k n) before → Beside n before
  beside zero before leads =
      let one = leads.machine in
      let called = subst (λ number. Called one address number leads.steps before) leads.made.1 leads.called in
      let alike = isolated.alike [] (Init k) leads.before one (loaded_machine psid) k k leads.stood (was_begun k 0)
      leads.is leads.agrees (there, refl) is
      (both_hold image address leads.before (loaded_machine psid) leads.stood.1 holds) (there, refl) leads.steps before
      called begins.steps first here_called in
      record { machine = first; led = refl; is_one = is_first; agrees = alike.same_image }
  beside (suc n) before leads =
      let at = beside n leads.before leads.stood in
      let next = next_of n leads.before leads.stood at in
      let alike = isolated.alike (song_calls k n) Play leads.before leads.machine at.machine leads.number at.machine.cpu.a
      leads.stood (was_begun k (suc n)) leads.is leads.agrees leads.made at.is_one at.agrees at.is_one.a leads.steps before
      leads.called next.steps next.after next.called in
      record { machine = next.after; led = next.led; is_one = next.is_one; agrees = alike.same_image }

  plays_alike : (n : ℕ) (machine after : Machine) (number steps : ℕ) →
      PlaysAnywhere image address song k n machine number steps after →
      (told : PlayTold) × Tells (loaded psid).play first n told
      × TookWhatIsTold told machine (address + 3) number steps after
  plays_alike n machine after number steps here =
      let at = beside n here.before here.led in
      let next = next_of n here.before here.led at in
      let alike = isolated.alike (song_calls k n) Play here.before machine at.machine number at.machine.cpu.a here.led
      (was_begun k (suc n)) here.is here.agrees here.small at.is_one at.agrees at.is_one.a steps after here.called next.steps
      next.after next.called in (
        (record {
          steps = next.steps;
          cycles = call_cycles at.machine (address + 3) at.machine.cpu.a next.steps;
          registers = sid_registers next.after;
        }),
        next.tells,
        record {
          steps_are = ap (λ (took : Duration). took.steps) alike.same_duration;
          cycles_are = ap (λ (took : Duration). took.cycles) alike.same_duration;
          registers_are = alike.same_registers;
        },
      )

  -- ---- what is told holds of them

  module _ (calls : ℕ) (measured : Measured) (told : IsMeasured psid k calls measured) (is_first_of : told.first ≡ first)
    where
      tells_dearest : (d : Dearest) (r : Option Repeat) → AreTold (loaded psid).play first calls d r →
          (it : PlayTold) × Tells (loaded psid).play first (d.call - 1) it × (it.cycles ≡ d.cycles)
      tells_dearest d (Some r) are = are.2.2
      tells_dearest d None are = are.2.2

      takes_dearest : (machine after : Machine) (number steps : ℕ) →
          PlaysAnywhere image address song k (measured.dearest.call - 1) machine number steps after →
          call_cycles machine (address + 3) number steps ≡ measured.dearest.cycles
      takes_dearest machine after number steps here =
          let play = plays_alike (measured.dearest.call - 1) machine after number steps here in
          let its = tells_dearest measured.dearest measured.repeat
          (subst (λ m. AreTold (loaded psid).play m calls measured.dearest measured.repeat) is_first_of told.told) in
          let once = tells_once (loaded psid).play first (measured.dearest.call - 1) play.0 its.0 play.1 its.1 in
          play.2.cycles_are ∙ once.1 ∙ its.2

      module _ (repeat : Repeat) (repeats : measured.repeat ≡ Some repeat) where
        goes : GoesOnAsTold psid k measured repeat
        goes = measured_songs_go_on psid k calls measured repeat told repeats

        same_first : first ≡ goes.first
        same_first = begins_once psid k init_cycles measured.init first goes.first begins goes.begins

        takes_no_more : (n : ℕ) (machine after : Machine) (number steps : ℕ) →
            PlaysAnywhere image address song k n machine number steps after →
            call_cycles machine (address + 3) number steps ≤ measured.dearest.cycles
        takes_no_more n machine after number steps here =
            let play = plays_alike n machine after number steps here in
            let most = goes.most n play.0 (subst (λ m. Tells (loaded psid).play m n play.0) same_first play.1) in
            let cycles = play.2.cycles_are in
            omega (arith, most, cycles)

        takes_again : (n : ℕ) (one two after last : Machine) (number other steps more : ℕ) → repeat.from ≤ n →
            PlaysAnywhere image address song k n one number steps after →
            PlaysAnywhere image address song k (n + repeat.length) two other more last →
            (steps ≡ more)
            × (call_cycles one (address + 3) number steps ≡ call_cycles two (address + 3) other more)
            × (sid_registers after ≡ sid_registers last)
        takes_again n one two after last number other steps more beyond here there_too =
            let p = plays_alike n one after number steps here in
            let q = plays_alike (n + repeat.length) two last other more there_too in
            let later = (goes.goes.again n p.0 beyond).0
            (subst (λ m. Tells (loaded psid).play m n p.0) same_first p.1) in
            let here_too = subst (λ m. Tells (loaded psid).play m (n + repeat.length) p.0) (sym same_first) later in
            let once = tells_once (loaded psid).play first (n + repeat.length) p.0 q.0 here_too q.1 in (
              p.2.steps_are ∙ once.0 ∙ sym q.2.steps_are,
              p.2.cycles_are ∙ once.1 ∙ sym q.2.cycles_are,
              p.2.registers_are ∙ once.2 ∙ sym q.2.registers_are,
            )

  pub takes_as_told : (calls : ℕ) (measured : Measured) (told : IsMeasured psid k calls measured) →
      told.first ≡ first → init_cycles ≡ measured.init → TakesAsTold image address song k psid measured
  takes_as_told calls measured told is_first_of is_init_of = record {
    init = λ machine after steps is_one holds_one called.
        init_alike machine after steps is_one holds_one called ∙ is_init_of;
    first = first;
    begins = subst (λ n. Begins psid k n first) is_init_of begins;
    plays = plays_alike;
    dearest = takes_dearest calls measured told is_first_of;
    most = λ repeat n machine after number steps repeats here.
        takes_no_more calls measured told is_first_of repeat repeats n machine after number steps here;
    again = λ repeat n one two after last number other steps more repeats beyond here there_too.
        takes_again calls measured told is_first_of repeat repeats n one two after last number other steps more beyond here
        there_too;
  }

pub packed_songs_take_as_told : PackedSongsTakeAsTold
packed_songs_take_as_told song options address zero_page chip file psid k calls measured keeps place written reads there is =
    let packed : IsPackedPsid song options file =
    record
    { keeps = keeps; address = address; zero_page = zero_page; place = place; chip = chip; packed = written.packed } in
    let own = packed_reads song options file packed (k + 1) (omega arith) (omega (arith, there)) in
    let both : Ok (psid_of song options file packed) ≡ Ok psid = sym own ∙ reads in
    let image = written.packed.image in
    let below = written.packed.below in
    let fits : address + length image ≤ 65536 = omega (arith, below) in
    let small = count_small song keeps in
    let most = place.most in
    subst (λ (p : Psid). IsMeasured p k calls measured → TakesAsTold image address song k p measured) (cc (both))
    (λ its.
    takes_as_told song options image address zero_page k (psid_of song options file packed) measured.init its.first
    written.always written.isolated there (omega (arith, there, small)) (omega (arith, most)) refl refl
    (loaded_is_machine (psid_of song options file packed) fits written.packed.bytes)
    (image_stands (psid_of song options file packed) fits) its.begins calls measured its refl refl)
    is
