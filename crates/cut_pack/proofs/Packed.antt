-- What packing a song answers: the shorter one of two packed songs.
use Rattle.std.proofs.Common.{◌≡◌, ℕ, Bool, true, false, ltb, Option, Some, None, refl, sym, ap, ◌∙◌}
use Rattle.std.proofs.Common.{arith}
use Rattle.std.proofs.lemmas.Bool.{ltb-true, lt-ltb, true≢false}
use Rattle.song_model.specs.declared.songs.Song.{Song}
use Rattle.play_model.specs.declared.options.Options.{Options}
use Rattle.usage.specs.declared.parts.UsedParts.{UsedParts}
use Rattle.usage.specs.Parts.{AreUsedParts}
use Rattle.packed_form.specs.declared.packed_songs.PackedSong.{PackedSong}
use Rattle.packed_form.specs.Sizes.{packed_song_size}
use Rattle.packed_form.specs.StandsFor.{StandsFor}
use Rattle.packing_rules.specs.UsedSets.{UsedSets, AreUsedSets}
use Rattle.packing_rules.specs.SongSizes.{packed_size}
use Rattle.packing_rules.proofs.Laws.{same_sets}
use Rattle.pattern_cut.specs.Choice.{cut_song}
use Rattle.song_pack.specs.Answers.{HasPackedSize, AreShort, IsTooLong}
use Rattle.song_pack.specs.Numbers.{sets_of}
use Rattle.song_pack.specs.Packed.{IsPacked}
use Rattle.song_pack.proofs.Laws.{used_sets}
use Rattle.cut_pack.specs.Chosen.{IsShorter, in_pieces, as_it_is}
use Rattle.cut_pack.specs.Answers.{IsPackedOf, shorter_of, IsPackedCut, Packs}

-- what packing a song as it is answers
pub packed_of : (song : Song) (parts : UsedParts) (packed : PackedSong) → AreUsedParts song parts →
    StandsFor packed song → ((used : UsedSets) → AreUsedSets song used → IsPacked song used packed) →
    ((used : UsedSets) → AreUsedSets song used → HasPackedSize packed song used) → IsPackedOf packed song
packed_of song parts packed are stands exact size =
    let used = used_sets song parts are in
    record {
      stands = stands;
      used = sets_of parts;
      are_used = used;
      exact = exact (sets_of parts) used;
      size = (size (sets_of parts) used).is;
    }

-- a pattern that is too long isn't short
pub long_is_not_short : (song : Song) (used : UsedSets) (pattern n : ℕ) → IsTooLong song used pattern n →
    ¬ AreShort song used
long_is_not_short song used pattern n long short =
    let most = short pattern long.is_used in
    let text = long.text in
    let above = long.long in
    omega (arith, most, text, above)

pub itself : (o : Options) (song : Song) (packed : PackedSong) → IsPackedOf packed song →
    (o.skip_first ≡ false → ¬ IsShorter song (cut_song song)) → Packs o packed song
itself o song packed is longer = record { chosen = song; is_for = as_it_is refl longer; is = is }

-- the size of a packed song is the packed size of its song, with whatever sets
pub one_size : (song : Song) (packed : PackedSong) (is : IsPackedOf packed song) (used : UsedSets) →
    AreUsedSets song used → packed_song_size packed ≡ packed_size song used
one_size song packed is used are = is.size ∙ ap (packed_size song) (same_sets song is.used used is.are_used are)

pub packs_shorter : (o : Options) (song : Song) (whole : PackedSong) (cut : Option PackedSong) → o.skip_first ≡ false →
    IsPackedOf whole song → IsPackedCut (cut_song song) cut → Packs o (shorter_of whole cut) song
packs_shorter o song whole None kept is none =
    itself o song whole is (λ z shorter. none shorter.other_used shorter.are_other_used shorter.short)
packs_shorter o song whole (Some cut) kept is (is_cut, short) =
    by_size (ltb (packed_song_size cut) (packed_song_size whole)) refl
  where
    by_size : (b : Bool) → ltb (packed_song_size cut) (packed_song_size whole) ≡ b →
        Packs o (shorter_of whole (Some cut)) song
    by_size true e = rw e (record {
      chosen = cut_song song;
      is_for = in_pieces kept refl (record {
        used = is.used;
        are_used = is.are_used;
        other_used = is_cut.used;
        are_other_used = is_cut.are_used;
        short = short is_cut.used is_cut.are_used;
        less =
            let less = ltb-true (packed_song_size cut) (packed_song_size whole) e in
            let one = is.size in
            let other = is_cut.size in
            omega (arith, less, one, other);
      });
      is = is_cut;
    })
    by_size false e = rw e (itself o song whole is (λ z shorter. not_less shorter))
      where
        not_less : ¬ IsShorter song (cut_song song)
        not_less shorter =
            let less = shorter.less in
            let one = one_size song whole is shorter.used shorter.are_used in
            let other = one_size (cut_song song) cut is_cut shorter.other_used shorter.are_other_used in
            let yes = lt-ltb (packed_song_size cut) (packed_song_size whole) (omega (arith, less, one, other)) in
            true≢false (sym yes ∙ e)
