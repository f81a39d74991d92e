-- It is the packed song's, or the one that stands where there is none.
use Rattle.std.proofs.Common.{◌≡◌, ◌<◌, ◌≤◌, List, [], ◌∷◌, length, get_or, map, refl, sym, ap, subst, ◌∙◌, arith}
use Rattle.song_model.specs.LookUp.{instrument_at, zero_instrument}
use Rattle.packed_form.specs.declared.packed_songs.PackedInstrument.{PackedInstrument}
use Rattle.packed_form.specs.declared.packed_songs.PackedSong.{PackedSong}
use Rattle.packed_form.specs.Unpacked.{unpacked_instrument, unpacked_song}
use Rattle.song_lists.proofs.Standing.{no_instrument, stored_instrument}
use Rattle.song_lists.proofs.bytes.first_instrument.Goals as goal

first_is : (packed : PackedSong) (items : List PackedInstrument) (one : PackedInstrument) →
    items ≡ packed.instruments → 0 < length items → one ≡ get_or items 0 no_instrument →
    unpacked_instrument one ≡ instrument_at (unpacked_song packed) 1
first_is packed items one same some is =
    ap unpacked_instrument (is ∙ ap (λ (all : List PackedInstrument). get_or all 0 no_instrument) same)
    ∙ sym (stored_instrument packed 0 (subst (λ (all : List PackedInstrument). 0 < length all) same some))

none_is : (packed : PackedSong) → length packed.instruments ≤ 0 →
    zero_instrument ≡ instrument_at (unpacked_song packed) 1
unfolding instrument_at
none_is packed none = sym (of_none packed.instruments none)
  where
    of_none : (items : List PackedInstrument) → length items ≤ 0 →
        get_or (map unpacked_instrument items) 0 zero_instrument ≡ zero_instrument
    of_none [] few = refl
    of_none (item ∷ items) few = absurd (omega arith)

pub returns-in-Some : goal.returns-in-Some
returns-in-Some c =
    let there = c.in-Some.ensures.item.3 in
    first_is c.args.packed.now c.as_slice.result.now c.in-Some.instrument.now c.as_slice.ensures.items there.0
    (there.1 no_instrument)

pub returns-in-None : goal.returns-in-None
returns-in-None c =
    none_is c.args.packed.now
    (subst (λ (all : List PackedInstrument). length all ≤ 0) c.as_slice.ensures.items c.in-None.ensures.item.3)
