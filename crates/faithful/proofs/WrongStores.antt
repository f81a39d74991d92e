-- Small images that don't play the silent song: they store at places that aren't their own.
use Rattle.std.proofs.Common.{◌≡◌, ℕ, List, [], ◌∷◌, ◌++◌, length, Contains, lit<, refl, sym, ap}
use Rattle.std.proofs.Common.{◌∙◌, subst, arith}
use Rattle.song_model.specs.Silence.{silence}
use Rattle.play_model.specs.State.{no_options}
use Rattle.cpu6502.specs.declared.effect.Write.{Write}
use Rattle.cpu6502.specs.Call.{run, entered, writes_in}
use Rattle.cpu6502.proofs.Laws.{called_once, writes_in-add}
use Rattle.sid_run.specs.State.{loaded_memory}
use Rattle.faithful.specs.Histories.{Init, PlaysAlways}
use Rattle.faithful.specs.Routines.{FetchA, StoreA, image_of}
use Rattle.faithful.specs.WorkedMachines.{machine_with}
use Rattle.faithful.specs.WorkedImages.{store, leave, Plays, StoresAreTold}
use Rattle.faithful.proofs.FreeCalls.{calls_store_at_home}
use Rattle.faithful.proofs.LoadedCalls.{after_of, done_is}
use Rattle.faithful.proofs.Routines.{call_steps}
use Rattle.faithful.proofs.LoadedImages.{zeros_is, zeros_hold, ran, place_denied}
use Rattle.faithful.proofs.WorkedPlaces.{not_own}

stores_on_screen : ¬ Plays (leave 0 ++ store 1 0x0400) (leave 15) silence no_options
unfolding loaded_memory
stores_on_screen = place_denied (leave 0 ++ store 1 0x0400) (leave 15) refl 0x0400 (lit< tt) refl refl

stores_at_ninth : ¬ Plays (leave 0 ++ store 1 0x01F5) (leave 15) silence no_options
unfolding loaded_memory
stores_at_ninth = place_denied (leave 0 ++ store 1 0x01F5) (leave 15) refl 0x01F5 (lit< tt) refl refl

stores_at_port : ¬ Plays (leave 0 ++ store 1 0x0001) (leave 15) silence no_options
unfolding loaded_memory
stores_at_port = place_denied (leave 0 ++ store 1 0x0001) (leave 15) refl 0x0001 (lit< tt) refl refl

-- the first store of init is at $0400, and leaves the byte as it was
abbrev on_screen : Write
on_screen = record { place = 0x0400; value = 0 }

leads_with : (rest : List Write) → Contains ((on_screen ∷ []) ++ rest) on_screen
leads_with rest = (0, omega arith, refl)

stores_same_byte :
    ¬ PlaysAlways (image_of (FetchA 0x0400 ∷ StoreA 0x0400 ∷ leave 0) (leave 15)) 0x1000 0xFC silence no_options
unfolding loaded_memory
stores_same_byte always =
    let init = FetchA 0x0400 ∷ StoreA 0x0400 ∷ leave 0 in
    let image = image_of init (leave 15) in
    let machine = machine_with image in
    let is = zeros_is init (leave 15) refl in
    let held = zeros_hold init (leave 15) refl in
    let s =
    always.serves [] (Init 0) machine machine 0 (is, held) is (record { same = λ j lt. refl }) (lit< tt, refl) in
    let c = ran init (leave 15) refl machine (Init 0) 0 is held refl in
    let start = entered machine 0x1000 0 in
    let between = after_of start (run 3 start) in
    let steps : s.steps ≡ 31 =
    called_once machine 0x1000 0 s.steps (call_steps machine 0x1000 0 init) s.after c.after s.called c.called in
    let begins : writes_in 3 start ≡ on_screen ∷ [] = refl in
    let writes : writes_in 31 start ≡ (on_screen ∷ []) ++ writes_in 28 between =
    writes_in-add 3 28 start between (done_is start (run 3 start) refl)
    ∙ ap (λ (ws : List Write). ws ++ writes_in 28 between) begins in
    let there : Contains (writes_in s.steps start) on_screen =
    subst (λ (n : ℕ). Contains (writes_in n start) on_screen) (sym steps)
    (subst (λ (ws : List Write). Contains ws on_screen) (sym writes) (leads_with (writes_in 28 between))) in
    not_own (length image) no_options 0xFD 0x0400 refl
    (calls_store_at_home image 0x1000 0xFC silence no_options [] (Init 0) machine 0 s on_screen there)

pub stores_are_told : StoresAreTold
stores_are_told = record {
  screen = stores_on_screen;
  ninth = stores_at_ninth;
  port = stores_at_port;
  same_byte = stores_same_byte;
}
