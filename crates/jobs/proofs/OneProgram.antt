-- The program of a song's images is one, and a text is admitted for it or refused in one way.
use Rattle.std.proofs.Common.{◌≡◌, ℕ, ◌+◌, List, map, Ok, Err, codes, refl, sym, ap, ◌∙◌, subst}
use Rattle.song_model.specs.declared.songs.Song.{Song}
use Rattle.song_model.specs.LookUp.{playable_subtunes}
use Rattle.play_model.specs.declared.options.Options.{Options}
use Rattle.packed_form.specs.declared.packed_songs.PackedSong.{PackedSong}
use Rattle.packed_form.specs.Unpacked.{unpacked_subtune}
use Rattle.packed_form.specs.WalkCount.{greatest, subtune_looks, walk_count}
use Rattle.packing_rules.proofs.Laws.{same_sets}
use Rattle.packing_rules.specs.Renumbering.{pattern_number}
use Rattle.song_pack.specs.Packed.{packed_subtune}
use Rattle.cut_pack.specs.Answers.{IsPackedOf}
use Rattle.cut_pack.proofs.Laws.{one_is_packed_lem}
use Rattle.kept_lines.specs.Asked.{Asks, asked_by}
use Rattle.cycle_bound.specs.declared.checks.CertFault.{CertFault}
use Rattle.player_bound.specs.declared.bounds.CallBounds.{CallBounds}
use Rattle.player_bound.specs.Programs.{Blocks, program_blocks}
use Rattle.player_bound.specs.Answers.{AreChecked}
use Rattle.player_bound.proofs.Laws.{one_answer, same_programs}
use Rattle.bound_text.specs.Texts.{IsBadLine}
use Rattle.bound_text.proofs.Laws.{texts_have_no_bad_line, texts_are_of_one_list, one_bad_line}
use Rattle.jobs.specs.Lines.{certificate_line, fault_words}
use Rattle.jobs.specs.SongPrograms.{HasProgram}
use Rattle.jobs.specs.Certificates.{IsAdmittedText, IsRefusedText, bad_number, faulty}
use Rattle.jobs.proofs.OneAsked.{one_asked}

-- ---- the program

asks_by : (packed : PackedSong) (song : Song) → IsPackedOf packed song → Asks song (asked_by packed)
asks_by packed song is = record {
  features = packed.features.0;
  facts = packed.facts;
  are_features = is.exact.features;
  are_facts = is.exact.facts;
  is = refl;
}

same_walks : (one other : PackedSong) → one.subtunes ≡ other.subtunes → walk_count one ≡ walk_count other
unfolding walk_count
same_walks one other same = ap (λ l. 1 + greatest (λ subtune. subtune_looks (unpacked_subtune subtune)) l) same

same_program : (song : Song) (o : Options) (one other : PackedSong) → IsPackedOf one song → IsPackedOf other song →
    program_blocks one o ≡ program_blocks other o
same_program song o one other p q =
    let asked = one_asked song (asked_by one) (asked_by other) (asks_by one song p) (asks_by other song q) in
    let used = same_sets song p.used q.used p.are_used q.are_used in
    let subtunes = p.exact.subtunes
    ∙ ap (λ sets. map (packed_subtune (pattern_number song sets)) (playable_subtunes song)) used ∙ sym q.exact.subtunes in
    same_programs one other o asked (same_walks one other subtunes)

pub one_program : (song : Song) (o : Options) (b c : Blocks) → HasProgram song o b → HasProgram song o c → b ≡ c
one_program song o b c p q =
    let chosen = one_is_packed_lem o song p.packs.chosen q.packs.chosen p.packs.is_for q.packs.is_for in
    p.are
    ∙ same_program q.packs.chosen o p.packed q.packed (subst (IsPackedOf p.packed) chosen p.packs.is) q.packs.is
    ∙ sym q.are

-- ---- texts of numbers

-- it has one first number of each entrance
pub one_bound : (b : Blocks) (text : List ℕ) (one other : CallBounds) → IsAdmittedText b text one →
    IsAdmittedText b text other → one ≡ other
one_bound b text one other p q =
    let same = texts_are_of_one_list p.numbers q.numbers p.fit q.fit (sym p.are ∙ q.are) in
    let both = one_answer b q.numbers (Ok one) (Ok other) (subst (λ ns. AreChecked b ns (Ok one)) same p.answer) q.answer in
    cc (both)

-- it isn't admitted and refused
pub admitted_or_refused : (b : Blocks) (text : List ℕ) (bounds : CallBounds) (line : List ℕ) → IsAdmittedText b text bounds →
    IsRefusedText b text line → ⊥
admitted_or_refused b text bounds line is (bad_number number bad says) =
    texts_have_no_bad_line is.numbers number is.fit (subst (λ t. IsBadLine t number) is.are bad)
admitted_or_refused b text bounds line is (faulty numbers fault fit are told says) =
    let same = texts_are_of_one_list is.numbers numbers is.fit fit (sym is.are ∙ are) in
    let never : Ok bounds ≡ Err fault =
    one_answer b numbers (Ok bounds) (Err fault) (subst (λ ns. AreChecked b ns (Ok bounds)) same is.answer) told in
    absurd (cc (never))

-- it is refused with one line
pub one_refused_line : (b : Blocks) (text one other : List ℕ) → IsRefusedText b text one → IsRefusedText b text other →
    one ≡ other
one_refused_line b text one other (bad_number n bad says) (bad_number m worse tells) =
    says ∙ ap (λ k. certificate_line k (codes "bad number")) (one_bad_line text n m bad worse) ∙ sym tells
one_refused_line b text one other (bad_number n bad says) (faulty numbers fault fit are told tells) =
    absurd (texts_have_no_bad_line numbers n fit (subst (λ t. IsBadLine t n) are bad))
one_refused_line b text one other (faulty numbers fault fit are told says) (bad_number n bad tells) =
    absurd (texts_have_no_bad_line numbers n fit (subst (λ t. IsBadLine t n) are bad))
one_refused_line b text one other (faulty ns f fit are told says) (faulty ms g fits is tell tells) =
    let same = texts_are_of_one_list ns ms fit fits (sym are ∙ is) in
    let both : Err f ≡ Err g = one_answer b ms (Err f) (Err g) (subst (λ l. AreChecked b l (Err f)) same told) tell in
    says ∙ ap (λ (fault : CertFault). certificate_line (fault.place + 1) (fault_words fault.kind)) (cc (both)) ∙ sym tells
