-- From the first init on a call of a player depends on the image's bytes alone, and init on its number.
use Rattle.std.proofs.Common.{◌≡◌, ◌≢◌, ℕ, ◌+◌, ◌<◌, ◌≤◌, ◌⊎◌, ◌&&◌, Bool, true}
use Rattle.std.proofs.Common.{List, ◌∷◌, length, Option}
use Rattle.std.proofs.Common.{Some, None, inl, inr, refl, sym, ap, ◌∙◌, subst, arith}
use Rattle.std.specs.Prelude.{slice_index}
use Rattle.std.proofs.lemmas.Bool.{cases_lt}
use Rattle.song_model.specs.declared.songs.Song.{Song}
use Rattle.play_model.specs.declared.options.Options.{Options}
use Rattle.play_model.specs.Frame.{trace_with}
use Rattle.packed_form.specs.declared.packed_songs.PackedSong.{PackedSong}
use Rattle.cpu6502.specs.declared.machine.Machine.{Machine}
use Rattle.cpu6502.specs.Call.{Called}
use Rattle.cpu6502.specs.Code.{IsMachine}
use Rattle.cpu6502.proofs.Laws.{called_once}
use Rattle.sid_run.specs.State.{sid_registers}
use Rattle.faithful.specs.Faithful.{AgreesOn}
use Rattle.faithful.specs.Histories.{ImageCall, Init, Play, entry_of, IsMade, LeadTo, since_init, Serves}
use Rattle.faithful.specs.Isolation.{Duration, duration, EndAlike}
use Rattle.scopes.specs.Meaning.{Ran, Done}
use Rattle.scope_lines.specs.Known.{nothing, the_a, the_x, shown, either, known}
use Rattle.scope_calls.specs.Listed.{Listed, end_at, meant}
use Rattle.scope_calls.specs.EntranceLaws.{Returns, AreAlike, are_known}
use Rattle.scope_calls.proofs.Laws.{entrances_are_isolated, listings_stay}
use Rattle.player_text.specs.declared.texts.Start.{Start}
use Rattle.player_text.specs.Texts.{filter_tree, voice_tree, init_tree}
use Rattle.player_text.proofs.Laws.{rest_on_few}
use Rattle.player_code.specs.CodeLines.{play_entrance, init_entrance, cleared_of}
use Rattle.player_code.specs.Plans.{Plan, plan_size, code_size, play_listed, init_listed}
use Rattle.player_code.proofs.Laws.{listed_ends, labels_stand_in_place, size_is}
use Rattle.player_calls.specs.Players.{IsPlayer}
use Rattle.player_calls.specs.CallLaws.{PlayersAreIsolated}
use Rattle.player_calls.proofs.Places.{IsCodePlace, well_entered, play_apart, init_apart}
use Rattle.player_calls.proofs.Plays.{off_stack, read_from, read_low, play_plays, play_meant, play_returns}
use Rattle.player_calls.proofs.Begins.{init_begins, init_meant, init_returns}
use Rattle.player_calls.proofs.Loaded.{plays_at}
use Rattle.player_calls.proofs.Histories.{agrees_at, spot_after, same_after, Stand, stand_moved, stand_after, subtune_few}
use Rattle.player_calls.proofs.Served.{players_play}

-- ---- places of the image

-- each is read, or of the code
kind : {packed : PackedSong} {song : Song} {o : Options} {bytes : List ℕ} (plan : Plan) →
    IsPlayer plan packed song o bytes → (place : ℕ) → plan.origin ≤ place → place < plan.origin + plan_size plan →
    (plan.may_read place ≡ true) ⊎ IsCodePlace plan place
kind plan p place from to =
    elim (cases_lt place (plan.origin + 6)) [
      | inl jump ↦ inr (record { is = inl (from, jump) })
      | inr behind ↦
          elim (cases_lt place (plan.origin + (6 + length plan.variables))) [
            | inl variable ↦ inl (p.reads_variables place (record { from = behind; to = variable }))
            | inr after ↦
                elim (cases_lt place (plan.origin + code_size plan)) [
                  | inl code ↦ inr (record { is = inr (after, code) })
                  | inr list ↦ inl (p.reads_lists place (record { from = list; to = to }))
                ]
          ]
    ]

-- the code is in the image
code_within : {packed : PackedSong} {song : Song} {o : Options} {bytes : List ℕ} (plan : Plan) →
    IsPlayer plan packed song o bytes → (place : ℕ) → IsCodePlace plan place →
    (plan.origin ≤ place) × (place < plan.origin + plan_size plan)
code_within plan p place code =
    let size = (labels_stand_in_place plan p.is).size in
    let all = size_is plan in
    elim code.is [
      | inl jump ↦ (jump.0, omega (arith, jump, size, all))
      | inr its ↦ (omega (arith, its), omega (arith, its, all))
    ]

-- two machines that agree with one on the image agree with each other
both_same : {packed : PackedSong} {song : Song} {o : Options} {bytes : List ℕ} (plan : Plan) →
    IsPlayer plan packed song o bytes → (before one two : Machine) → AgreesOn bytes plan.origin before one →
    AgreesOn bytes plan.origin before two → (place : ℕ) → plan.origin ≤ place →
    place < plan.origin + plan_size plan → slice_index one.memory place ≡ slice_index two.memory place
both_same plan p before one two a b place from to =
    agrees_at plan p before one a place from to ∙ sym (agrees_at plan p before two b place from to)

-- ---- two calls of one entrance

-- what is asked of them, and what they leave
record Pair (plan : Plan) (e : Listed) (bytes : List ℕ) (one two : Machine) (number other : ℕ)
    (a : Returns e one number) (b : Returns e two other) : Type 0 where
  alike : AreAlike e one two number other a b
  one_code : (place : ℕ) → IsCodePlace plan place → slice_index a.after.memory place ≡ slice_index one.memory place
  two_code : (place : ℕ) → IsCodePlace plan place → slice_index b.after.memory place ≡ slice_index two.memory place

two_durations : (m n c d : ℕ) → m ≡ n → c ≡ d →
    (let one : Duration = record { steps = m; cycles = c } in
    let two : Duration = record { steps = n; cycles = d } in one ≡ two)
two_durations m n c d steps cycles =
    ap (λ k. (let x : Duration = record { steps = k; cycles = c } in x)) steps
    ∙ ap (λ k. (let x : Duration = record { steps = n; cycles = k } in x)) cycles

ends_alike : {packed : PackedSong} {song : Song} {o : Options} {bytes : List ℕ} (plan : Plan) →
    IsPlayer plan packed song o bytes → (e : Listed) → ((place : ℕ) → e.may_read place ≡ plan.may_read place) →
    (one two : Machine) (number other : ℕ) (a : Returns e one number) (b : Returns e two other) →
    Pair plan e bytes one two number other a b →
    ((place : ℕ) → plan.origin ≤ place → place < plan.origin + plan_size plan →
    slice_index one.memory place ≡ slice_index two.memory place) → (registers : List ℕ) →
    sid_registers a.after ≡ registers → sid_registers b.after ≡ registers →
    EndAlike bytes plan.origin (duration one e.entry number a.steps) (duration two e.entry other b.steps) a.after b.after
ends_alike plan p e reads one two number other a b pair same registers first second = record {
  same_duration = two_durations a.steps b.steps _ _ pair.alike.steps pair.alike.cycles;
  same_registers = first ∙ sym second;
  same_image = record {
    same = λ k few.
        let size = p.size in
        by_kind (plan.origin + k) (omega arith) (omega (arith, few, size))
        (kind plan p (plan.origin + k) (omega arith) (omega (arith, few, size)));
  };
}
  where
    by_kind : (place : ℕ) → plan.origin ≤ place → place < plan.origin + plan_size plan →
        (plan.may_read place ≡ true) ⊎ IsCodePlace plan place →
        slice_index b.after.memory place ≡ slice_index a.after.memory place
    by_kind place from to (inl may) = sym (pair.alike.bytes place (reads place ∙ may))
    by_kind place from to (inr code) =
        pair.two_code place code ∙ (sym (same place from to) ∙ sym (pair.one_code place code))

-- as any two calls that return
as_called : {bytes : List ℕ} {address : ℕ} (one two : Machine) (entry number other n m n' m' : ℕ)
    (after after' last last' : Machine) →
    EndAlike bytes address (duration one entry number n) (duration two entry other m) after after' →
    Called one entry number n after →
    Called two entry other m after' → Called one entry number n' last → Called two entry other m' last' →
    EndAlike bytes address (duration one entry number n') (duration two entry other m') last last'
as_called {bytes = bytes} {address = address} one two entry number other n m n' m' after after' last last' alike a b c d =
    let first : after ≡ last = same_after one entry number n n' after last a c in
    let second : after' ≡ last' = same_after two entry other m m' after' last' b d in
    record {
      same_duration = ap (duration one entry number) (called_once one entry number n' n last after c a)
          ∙ (alike.same_duration
          ∙ ap (duration two entry other) (called_once two entry other m m' after' last' b d));
      same_registers = ap sid_registers (sym first) ∙ alike.same_registers ∙ ap sid_registers second;
      same_image = subst (λ (x : Machine). AgreesOn bytes address x last') first
          (subst (λ (y : Machine). AgreesOn bytes address after y) second alike.same_image);
    }

both : (one two : Bool) → one ≡ true → two ≡ true → (one && two) ≡ true
both one two first second = rw (first, second) refl

play_known : (pointer : ℕ) (holds : ℕ → Bool) → are_known (play_entrance pointer holds) ≡ true
unfolding play_entrance
play_known pointer holds =
    both (known filter_tree nothing).reads_known (known voice_tree (either the_x shown)).reads_known rest_on_few.filter
    rest_on_few.voice_by_load

init_known : (pointer : ℕ) (holds : ℕ → Bool) (start : Start) (cleared : ℕ) →
    are_known (init_entrance pointer holds start cleared) ≡ true
unfolding init_entrance
init_known pointer holds start cleared =
    both (known (init_tree start cleared) the_a).reads_known true (rest_on_few.init start cleared) refl

-- plays come with no number
unnumbered : (pointer : ℕ) (holds : ℕ → Bool) → (play_entrance pointer holds).numbered ≡ true → ⊥
unfolding play_entrance
unnumbered pointer holds e = absurd (cc)

-- ---- plays

play_pair : {packed : PackedSong} {song : Song} {o : Options} {bytes : List ℕ} (plan : Plan) →
    IsPlayer plan packed song o bytes → (one two : Machine) (number other : ℕ) →
    ((place : ℕ) → plan.origin ≤ place → place < plan.origin + plan_size plan →
    slice_index one.memory place ≡ slice_index two.memory place) → (meant (play_listed plan) one number).outcome ≡ Done →
    (meant (play_listed plan) two other).outcome ≡ Done → (a : Returns (play_listed plan) one number)
    (b : Returns (play_listed plan) two other) → Pair plan (play_listed plan) bytes one two number other a b
play_pair plan p one two number other same done done' a b =
    let well = (well_entered plan p).play in record {
      alike = entrances_are_isolated (play_listed plan) one two number other well (play_known plan.pointer plan.holds)
          (record {
            at = λ place may. same place (read_from plan p place may) (read_low plan p place may);
            off_stack = λ place may. off_stack plan p place may;
          })
          (λ numbered. absurd (unnumbered plan.pointer plan.holds numbered)) done done' a b;
      one_code = λ place code.
          listings_stay (play_listed plan) one number well a place (in_listing place code) (play_apart plan p place code);
      two_code = λ place code.
          listings_stay (play_listed plan) two other well b place (in_listing place code) (play_apart plan p place code);
    }
  where
    in_listing : (place : ℕ) → IsCodePlace plan place → (plan.origin ≤ place) × (place < end_at (play_listed plan))
    in_listing place code =
        let within = code_within plan p place code in
        let end = (listed_ends plan p.is).0 in
        (within.0, omega (arith, within, end))

-- ---- inits

init_pair : {packed : PackedSong} {song : Song} {o : Options} {bytes : List ℕ} (plan : Plan) →
    IsPlayer plan packed song o bytes → (one two : Machine) (k : ℕ) →
    ((place : ℕ) → plan.origin ≤ place → place < plan.origin + plan_size plan →
    slice_index one.memory place ≡ slice_index two.memory place) → (meant (init_listed plan) one k).outcome ≡ Done →
    (meant (init_listed plan) two k).outcome ≡ Done → (a : Returns (init_listed plan) one k)
    (b : Returns (init_listed plan) two k) → Pair plan (init_listed plan) bytes one two k k a b
init_pair plan p one two k same done done' a b =
    let well = (well_entered plan p).init in record {
      alike = entrances_are_isolated (init_listed plan) one two k k well
          (init_known plan.pointer plan.holds plan.start (cleared_of (length plan.variables)))
          (record {
            at = λ place may. same place (read_from plan p place may) (read_low plan p place may);
            off_stack = λ place may. off_stack plan p place may;
          })
          (λ numbered. refl) done done' a b;
      one_code = λ place code.
          listings_stay (init_listed plan) one k well a place (in_listing place code) (init_apart plan p place code);
      two_code = λ place code.
          listings_stay (init_listed plan) two k well b place (in_listing place code) (init_apart plan p place code);
    }
  where
    in_listing : (place : ℕ) → IsCodePlace plan place → (plan.origin ≤ place) × (place < end_at (init_listed plan))
    in_listing place code =
        let within = code_within plan p place code in
        let end = (listed_ends plan p.is).1 in
        (within.0, omega (arith, within, end))

-- ---- any calls

-- calls with an init among them
record Since (calls : List ImageCall) : Type 0 where
  k : ℕ
  n : ℕ
  is : since_init calls ≡ Some (k, n)

since_some : (z : Option (ℕ × ℕ)) → z ≢ None → (k : ℕ) × (n : ℕ) × (z ≡ Some (k, n))
since_some None some = absurd (some refl)
since_some (Some (k, n)) some = (k, n, refl)

since : (calls : List ImageCall) → since_init calls ≢ None → Since calls
since calls some =
    let is = since_some (since_init calls) some in record { k = is.0; n = is.1; is = is.2 }

pub players_are_isolated : PlayersAreIsolated
players_are_isolated plan packed song o bytes p = record { alike = by_call } where
  -- the registers of a call that serves, in the machine of another that returns
  registers_of : (earlier : List ImageCall) (call : ImageCall) (machine : Machine) (number n : ℕ) (after : Machine) →
      Serves bytes plan.origin plan.pointer song o earlier call machine number →
      Called machine (entry_of plan.origin call) number n after → (s : Since (call ∷ earlier)) →
      sid_registers after ≡ trace_with o song s.k s.n
  registers_of earlier call machine number n after serves called s =
      ap sid_registers
      (sym (same_after machine (entry_of plan.origin call) number serves.steps n serves.after after serves.called called))
      ∙ serves.registers s.k s.n s.is

  play_done : (earlier : List ImageCall) (machine : Machine) (number : ℕ) → IsMachine machine →
      Stand plan packed o earlier machine → (meant (play_listed plan) machine number).outcome ≡ Done
  play_done earlier machine number is stand =
      ap (λ (r : Ran). r.outcome) (play_meant plan p machine number)
      ∙ (play_plays plan p (spot_after earlier).subtune (spot_after earlier).plays machine number is stand.below
      stand.ready).ends

  init_done : (earlier : List ImageCall) (k : ℕ) (machine : Machine) → IsMachine machine → k < length packed.subtunes →
      Stand plan packed o earlier machine → (meant (init_listed plan) machine k).outcome ≡ Done
  init_done earlier k machine is few stand =
      ap (λ (r : Ran). r.outcome) (init_meant plan p machine k)
      ∙ (init_begins plan p k machine is few (plays_at plan p k few) _ _ stand.below stand.ready.holds).ends

  by_call : (earlier : List ImageCall) (call : ImageCall) (before one two : Machine) (number other : ℕ) →
      LeadTo bytes plan.origin song earlier before → since_init (call ∷ earlier) ≢ None →
      IsMachine one → AgreesOn bytes plan.origin before one → IsMade song call number →
      IsMachine two → AgreesOn bytes plan.origin before two → IsMade song call other →
      (steps : ℕ) (after : Machine) → Called one (entry_of plan.origin call) number steps after →
      (steps' : ℕ) (after' : Machine) → Called two (entry_of plan.origin call) other steps' after' →
      EndAlike bytes plan.origin (duration one (entry_of plan.origin call) number steps)
      (duration two (entry_of plan.origin call) other steps') after after'
  by_call earlier Play before one two number other led begun is agrees made is' agrees' made' n after called m after'
      called' =
      let s = since (Play ∷ earlier) begun in
      let stand = stand_after plan p earlier before led in
      let first = stand_moved plan p earlier before one agrees stand in
      let second = stand_moved plan p earlier before two agrees' stand in
      let j = (spot_after earlier).subtune in
      let i = (spot_after earlier).plays in
      let a = play_returns plan p j i one number is first.below first.ready in
      let b = play_returns plan p j i two other is' second.below second.ready in
      let same = both_same plan p before one two agrees agrees' in
      let pair = play_pair plan p one two number other same (play_done earlier one number is first)
      (play_done earlier two other is' second) a b in
      let serves = (players_play plan packed song o bytes p).serves in
      as_called one two (plan.origin + 3) number other a.steps b.steps n m a.after b.after after after'
      (ends_alike plan p (play_listed plan) (λ place. refl) one two number other a b pair same
      (trace_with o song s.k s.n)
      (registers_of earlier Play one number a.steps a.after (serves earlier Play before one number led is agrees made)
      a.called s)
      (registers_of earlier Play two other b.steps b.after (serves earlier Play before two other led is' agrees' made')
      b.called s))
      a.called b.called called called'
  by_call earlier (Init k) before one two number other led begun is agrees made is' agrees' made' n after called m after'
      called' =
      let s = since (Init k ∷ earlier) begun in
      let stand = stand_after plan p earlier before led in
      let first = stand_moved plan p earlier before one agrees stand in
      let second = stand_moved plan p earlier before two agrees' stand in
      let few = subtune_few plan p k made.0 in
      let a = init_returns plan p k one is first.ready.init_code
      (init_begins plan p k one is few (plays_at plan p k few) _ _ first.below first.ready.holds) in
      let b = init_returns plan p k two is' second.ready.init_code
      (init_begins plan p k two is' few (plays_at plan p k few) _ _ second.below second.ready.holds) in
      let same = both_same plan p before one two agrees agrees' in
      let pair = init_pair plan p one two k same (init_done earlier k one is few first)
      (init_done earlier k two is' few second) a b in
      let serves = (players_play plan packed song o bytes p).serves in
      let c = subst (λ i. Called one plan.origin i n after) made.1 called in
      let d = subst (λ i. Called two plan.origin i m after') made'.1 called' in
      let ends =
      as_called one two plan.origin k k a.steps b.steps n m a.after b.after after after'
      (ends_alike plan p (init_listed plan) (λ place. refl) one two k k a b pair same (trace_with o song s.k s.n)
      (registers_of earlier (Init k) one k a.steps a.after
      (serves earlier (Init k) before one k led is agrees (made.0, refl)) a.called s)
      (registers_of earlier (Init k) two k b.steps b.after
      (serves earlier (Init k) before two k led is' agrees' (made.0, refl)) b.called s))
      a.called b.called c d in
      subst (λ i. EndAlike bytes plan.origin (duration one plan.origin i n) (duration two plan.origin other m) after after')
      (sym made.1)
      (subst (λ i. EndAlike bytes plan.origin (duration one plan.origin k n) (duration two plan.origin i m) after after')
      (sym made'.1) ends)
