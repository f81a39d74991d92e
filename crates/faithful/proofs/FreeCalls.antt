-- Calls of an image that may begin in any machine that has its bytes.
use Rattle.std.proofs.Common.{◌+◌, ◌%◌, [], ◌∷◌, length, refl, sym, ◌∙◌}
use Rattle.std.proofs.lemmas.List.Elements.{All-contains}
use Rattle.cpu6502.specs.declared.effect.Write.{Write}
use Rattle.cpu6502.specs.Call.{entered, writes_in}
use Rattle.faithful.specs.Confined.{IsOwnPlace}
use Rattle.faithful.specs.Histories.{Init, Play, entry_of, LeadTo}
use Rattle.faithful.specs.Laws.{CallsStoreAtHome, FirstPlaysAreFree, InitsEndAlike, PlaysEndAlike}

pub calls_store_at_home : CallsStoreAtHome
calls_store_at_home image address zero_page song options earlier call machine number s write has =
    All-contains
    (λ (write : Write). IsOwnPlace (length image) address zero_page options ((machine.cpu.sp + 254) % 256) write.place)
    (writes_in s.steps (entered machine (entry_of address call) number)) write s.stores has

pub first_plays_are_free : FirstPlaysAreFree
first_plays_are_free image address zero_page song options f k few machine is holds = f.plays k 1 machine few is holds

pub inits_end_alike : InitsEndAlike
inits_end_alike image address song isolated k few one two is holds is' holds' steps other after after' called called' =
    isolated.alike [] (Init k) one one two k k (is, holds) (λ e. cc) is (record { same = λ j lt. refl }) (few, refl) is'
    (record { same = λ j lt. holds'.byte j lt ∙ sym (holds.byte j lt) }) (few, refl)
    steps after called other after' called'

pub plays_end_alike : PlaysEndAlike
plays_end_alike image address song isolated k few first last n is holds begun one two number other is-one one-agrees small
    is-two two-agrees small' steps steps' after after' called called' =
    isolated.alike (Init k ∷ []) Play last one two number other led (λ e. cc) is-one one-agrees small is-two two-agrees small'
    steps after called steps' after' called'
  where
    led : LeadTo image address song (Init k ∷ []) last
    led = record {
      before = first;
      stood = (is, holds);
      machine = first;
      number = k;
      steps = n;
      is = is;
      agrees = record { same = λ j lt. refl };
      made = (few, refl);
      called = begun;
    }
