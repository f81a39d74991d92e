-- Each stage passes where what it asks for is there, and ends a run with one text.
use Rattle.std.proofs.Common.{◌≡◌, ℕ, ◌+◌, ◌-◌, ◌<◌, ◌≤◌, List, [], ◌∷◌, ◌++◌, Some}
use Rattle.std.proofs.Common.{None, Ok, Err, length, refl, sym, ap, ◌∙◌, subst, inl, inr, arith}
use Rattle.std.proofs.lemmas.Bool.{cases_lt}
use Rattle.goat_io.specs.Files.{Files, file_of}
use Rattle.song_model.specs.declared.songs.Song.{Song}
use Rattle.song_model.specs.LookUp.{IsNumbered, playable_subtunes}
use Rattle.gts5.specs.Spells.{Spells}
use Rattle.gts5.specs.Faults.{fault_of}
use Rattle.edit_script.specs.Edited.{IsEditedBy, FailsAt}
use Rattle.song_script.specs.Shown.{script_of}
use Rattle.edit_script.proofs.Laws.{edits_in_one_way}
use Rattle.psid.specs.declared.header.Psid.{Psid}
use Rattle.psid.specs.Reading.{psid_read}
use Rattle.sid_run.specs.State.{loaded}
use Rattle.jobs.specs.Calls.{HasSubtune, FirstCalls, MeetsStopAt, StopsIn}
use Rattle.command_line.specs.RegisterText.{register_lines}
use Rattle.jobs.specs.Lines.{song_fault_line, unplayable_line, too_large_line, image_too_large_line, psid_fault_line}
use Rattle.jobs.specs.Lines.{no_subtune_line, script_line, stop_line, listing_line, join_line, script_too_large_line}
use Rattle.jobs.specs.Stages.{Stage, IsThere, Fits, SpellsSong, CanBePlayed, HasShortPatterns, HasRoomForImage}
use Rattle.jobs.specs.Stages.{HasPlayableSubtune, CanBeEdited, IsPsid, OffersSubtune, CallsReturn, CanBeAssembled}
use Rattle.jobs.specs.Stages.{SubtunesReturn, SubtuneReturns}
use Rattle.song_length.specs.Told.{IsMeasured, StopsAt}
use Rattle.song_length.proofs.Laws.{songs_are_told_once, songs_stop_once}
use Rattle.jobs.specs.Lengths.{AreMeasured, StopsMeasuring}
use Rattle.jobs.proofs.Lengths.{told_or_stopped, one_stop_text}
use Rattle.jobs.specs.Stages.{GoTogether, IsAdmitted, HoldsSong, HoldsPsid, IsMet, Ends, Passes, HasShortScript}
use Rattle.jobs.specs.Stages.{script_limit}
use Rattle.play_model.specs.declared.options.Options.{Options}
use Rattle.play_model.specs.Playable.{IsPlayable, IsRefusedFor}
use Rattle.play_model.proofs.Laws.{refused_or_playable_lem}
use Rattle.usage.proofs.Laws.{one_refusal}
use Rattle.packing_rules.specs.UsedSets.{UsedSets, AreUsedSets}
use Rattle.packing_rules.specs.Renumbering.{pattern_text}
use Rattle.asked_numbers.proofs.Laws.{songs_have_one_range}
use Rattle.packing_rules.proofs.Laws.{same_sets}
use Rattle.song_pack.specs.Answers.{AreShort, IsTooLong}
use Rattle.image_parts.specs.CodeParts.{code_length}
use Rattle.song_costs.specs.CostLaws.{song_size}
use Rattle.cut_pack.proofs.Laws.{one_is_packed_lem}
use Rattle.jobs.specs.Packed.{IsLengthOf, IsImageLength}
use Rattle.jobs.specs.Laws.{PlayableSongsPass}
use Rattle.gts5.proofs.Laws.{spells_once, spells_has_no_fault}
use Rattle.song_join.specs.Refusals.{CanBeJoined, IsRefusedFor as IsNotJoined}
use Rattle.song_join.proofs.Laws.{none_refused, one_reason as one_join_reason}
use Rattle.asm_text.specs.Lines.{IsListing}
use Rattle.asm_text.specs.Faults.{IsFaultOf}
use Rattle.asm_text.proofs.Laws.{sound_listings_have_no_fault, texts_read_in_one_way}
use Rattle.jobs.proofs.Calls.{returned_or_stopped, one_list, one_stop_at, one_reason}
use Rattle.jobs.specs.SongPrograms.{HasProgram}
use Rattle.jobs.specs.Certificates.{IsAdmittedText, IsRefusedText}
use Rattle.jobs.proofs.OneProgram.{one_program, admitted_or_refused, one_refused_line}
use Rattle.jobs.proofs.OneAsked.{one_asked}

-- a name has one file, which spells one song and is one PSID file
pub one_file : (files : Files) (name a b : List ℕ) → file_of files name ≡ Some a → file_of files name ≡ Some b → a ≡ b
one_file files name a b p q = let same : Some a ≡ Some b = sym p ∙ q in cc (same)

pub one_song_held : (files : Files) (name : List ℕ) (a b : Song) → HoldsSong files name a → HoldsSong files name b →
    a ≡ b
one_song_held files name a b p q =
    let same = one_file files name p.bytes q.bytes p.found q.found in
    spells_once q.bytes a b (subst (λ bytes. Spells bytes a) same p.spells) q.spells

pub one_psid_held : (files : Files) (name : List ℕ) (a b : Psid) → HoldsPsid files name a → HoldsPsid files name b →
    a ≡ b
one_psid_held files name a b p q =
    let same = one_file files name p.bytes q.bytes p.found q.found in
    let both : Ok a ≡ Ok b = sym p.reads ∙ ap psid_read same ∙ q.reads in
    cc (both)

-- a call that doesn't return is told in one way
one_stop : (subtune frames : ℕ) (a b : Psid) → a ≡ b → (p : StopsIn a subtune frames) (q : StopsIn b subtune frames) →
    register_lines p.registers ++ stop_line p.reason p.call ∷ [] ≡ register_lines q.registers ++ stop_line q.reason
    q.call ∷ []
one_stop subtune frames a b same p q =
    let meets = subst (λ x. MeetsStopAt (loaded x) (subtune - 1) p.call p.registers p.reason) same p.meets in
    let call = one_stop_at (loaded b) (subtune - 1) meets q.meets in
    let there = subst (λ c. MeetsStopAt (loaded b) (subtune - 1) c p.registers p.reason) call meets in
    let registers =
    one_list (loaded b) (subtune - 1) q.call p.registers q.registers there.before q.meets.before there.calls
    q.meets.calls in
    let reason = one_reason (loaded b) (subtune - 1) there q.meets in
    ap (λ r. register_lines r ++ stop_line p.reason p.call ∷ []) registers
    ∙ ap (λ r. register_lines q.registers ++ stop_line r p.call ∷ []) reason
    ∙ ap (λ c. register_lines q.registers ++ stop_line q.reason c ∷ []) call

-- a text is too long or short, and the first one that is too long is one
never_both : (song : Song) (used : UsedSets) (pattern count : ℕ) → AreShort song used →
    IsTooLong song used pattern count → ⊥
never_both song used pattern count short long =
    let most = short pattern long.is_used in
    let is = long.text in
    let above = long.long in
    omega arith

not_before : (song : Song) (used : UsedSets) (p q m n : ℕ) → IsTooLong song used p m → IsTooLong song used q n → q ≤ p
not_before song used p q m n one other = elim (cases_lt p q) [
  | inl before ↦ absurd
      (let most = other.first p before one.is_used in
      let is = one.text in
      let above = one.long in
      omega arith)
  | inr after ↦ after
]

one_too_long : (song : Song) (used : UsedSets) (p q m n : ℕ) → IsTooLong song used p m → IsTooLong song used q n →
    too_large_line p m ∷ [] ≡ too_large_line q n ∷ []
one_too_long song used p q m n one other =
    let low = not_before song used p q m n one other in
    let high = not_before song used q p n m other one in
    let same : p ≡ q = omega arith in
    let count : m ≡ n = sym one.text ∙ ap (λ k. length (pattern_text song used k)) same ∙ other.text in
    ap (λ k. too_large_line k m ∷ []) same ∙ ap (λ k. too_large_line q k ∷ []) count

-- the image of a song has one length, packed as it is
one_own_length : (song : Song) (o : Options) (m n : ℕ) → IsLengthOf song o m → IsLengthOf song o n → m ≡ n
one_own_length song o m n p q =
    let used = same_sets song p.used q.used p.are_used q.are_used in
    let asked = one_asked song p.asked q.asked p.asks q.asks in
    let numbers = songs_have_one_range song p.numbers q.numbers p.are_numbers q.are_numbers in
    p.count_is ∙ ap (λ u. song_size song u p.asked p.numbers + code_length p.asked o) used
    ∙ ap (λ set. song_size song q.used set p.numbers + code_length set o) asked
    ∙ ap (λ range. song_size song q.used q.asked range + code_length q.asked o) numbers ∙ sym q.count_is

-- and as it is packed
pub one_length : (song : Song) (o : Options) (m n : ℕ) → IsImageLength song o m → IsImageLength song o n → m ≡ n
one_length song o m n p q =
    let chosen = one_is_packed_lem o song p.chosen q.chosen p.is_for q.is_for in
    one_own_length q.chosen o m n (subst (λ s. IsLengthOf s o m) chosen p.length_is) q.length_is

too_large_or_not : (end address m n : ℕ) → m ≡ n → address + m ≤ end → end < address + n → ⊥
too_large_or_not end address m n same fits passes = omega arith

-- ---- what each stage asks for lets it pass, and each stage ends a run with one text

pub record StageFacts (files : Files) (stage : Stage) : Type 0 where
  pub passes : IsMet files stage → Passes files stage
  pub once : (lines others : List (List ℕ)) → Ends files stage lines → Ends files stage others → lines ≡ others

module _ (files : Files) where
  pub stage_facts : (stage : Stage) → StageFacts files stage
  stage_facts (IsThere name) = record {
    passes = λ met lines ends. let never : Some met.0 ≡ None = sym met.1 ∙ ends.0 in absurd (cc (never));
    once = λ lines others p q. p.1 ∙ sym q.1;
  }
  stage_facts (Fits name limit) = record {
    passes =
        λ met lines ends.
        absurd (omega (arith, ap length (one_file files name met.0 ends.0.0 met.1 ends.0.1), ends.0.2, met.2));
    once = λ lines others p q. p.1 ∙ sym q.1;
  }
  stage_facts (SpellsSong name) = record {
    passes = λ met lines ends.
        let never : None ≡ Some ends.1 =
        sym (spells_has_no_fault met.1.bytes met.0 met.1.spells)
        ∙ ap fault_of (one_file files name met.1.bytes ends.0 met.1.found ends.2) ∙ ends.3 in
        absurd (cc (never));
    once = λ lines others p q.
        let both : Some p.1 ≡ Some q.1 = sym p.3 ∙ ap fault_of (one_file files name p.0 q.0 p.2 q.2) ∙ q.3 in
        p.4 ∙ ap (λ f. song_fault_line f ∷ []) (cc (both)) ∙ sym q.4;
  }
  stage_facts (CanBePlayed name) = record {
    passes = λ met lines ends.
        let same = one_song_held files name met.0 ends.0 met.1 ends.2 in
        subst IsPlayable same met.2 ends.1 ends.3.is_such;
    once = λ lines others p q.
        let same = one_song_held files name p.0 q.0 p.2 q.2 in
        let one = one_refusal q.0 p.1 q.1 (subst (λ song. IsRefusedFor song p.1) same p.3) q.3 in
        p.4 ∙ ap (λ refusal. unplayable_line refusal ∷ []) one ∙ sym q.4;
  }
  stage_facts (HasShortPatterns name) = record {
    passes = λ met lines ends.
        let song = one_song_held files name met.0 ends.0 met.2 ends.4 in
        let used = same_sets ends.0 met.1 ends.1 (subst (λ s. AreUsedSets s met.1) song met.3) ends.5 in
        never_both ends.0 ends.1 ends.2 ends.3
        (subst (AreShort ends.0) used (subst (λ s. AreShort s met.1) song met.4)) ends.6;
    once = λ lines others p q.
        let song = one_song_held files name p.0 q.0 p.4 q.4 in
        let used = same_sets q.0 p.1 q.1 (subst (λ s. AreUsedSets s p.1) song p.5) q.5 in
        let long = subst (λ u. IsTooLong q.0 u p.2 p.3) used (subst (λ s. IsTooLong s p.1 p.2 p.3) song p.6) in
        p.7 ∙ one_too_long q.0 q.1 p.2 q.2 p.3 q.3 long q.6 ∙ sym q.7;
  }
  stage_facts (HasShortScript name) = record {
    passes = λ met lines ends.
        let song = one_song_held files name met.0 ends.0 met.1 ends.1 in
        let fits = subst (λ s. length (script_of s) ≤ script_limit) song met.2 in
        absurd (omega (arith, fits, ends.2));
    once = λ lines others p q.
        p.3 ∙ ap (λ s. script_too_large_line (length (script_of s)) ∷ []) (one_song_held files name p.0 q.0 p.1 q.1)
        ∙ sym q.3;
  }
  stage_facts (HasRoomForImage name address o) = record {
    passes = λ met lines ends.
        let song = one_song_held files name met.0 ends.0 met.2 ends.2 in
        let count =
        one_length ends.0 o met.1 ends.1 (subst (λ s. IsImageLength s o met.1) song met.3) ends.3 in
        too_large_or_not 0xD000 address met.1 ends.1 count met.4 ends.4;
    once = λ lines others p q.
        let song = one_song_held files name p.0 q.0 p.2 q.2 in
        let count = one_length q.0 o p.1 q.1 (subst (λ s. IsImageLength s o p.1) song p.3) q.3 in
        p.5 ∙ ap (λ n. image_too_large_line n ∷ []) count ∙ sym q.5;
  }
  stage_facts (CanBeEdited name script) = record {
    passes = λ met lines ends.
        let is = met.2 in
        let fails = ends.4 in
        let same = one_song_held files name met.0 ends.0 is.holds ends.3 in
        let text = one_file files script is.text fails.text is.found fails.found in
        edits_in_one_way.never_both fails.text ends.0 met.1 ends.1 ends.2
        (subst (λ bytes. IsEditedBy bytes ends.0 met.1) text (subst (λ song. IsEditedBy is.text song met.1) same is.edited))
        fails.fails;
    once = λ lines others p q.
        let one = p.4 in
        let other = q.4 in
        let same = one_song_held files name p.0 q.0 p.3 q.3 in
        let text = one_file files script one.text other.text one.found other.found in
        let both = edits_in_one_way.one_failure other.text q.0 p.1 q.1 p.2 q.2
        (subst (λ bytes. FailsAt bytes q.0 p.1 p.2) text (subst (λ song. FailsAt one.text song p.1 p.2) same one.fails))
        other.fails in
        p.5 ∙ ap (λ number. script_line number p.2 ∷ []) both.0 ∙ ap (λ words. script_line q.1 words ∷ []) both.1
        ∙ sym q.5;
  }
  stage_facts (HasPlayableSubtune name subtune) = record {
    passes =
        λ met lines ends.
        ends.2
        (subst (λ song. IsNumbered (playable_subtunes song) subtune)
        (one_song_held files name met.0 ends.0 met.1 ends.1) met.2);
    once =
        λ lines others p q. p.3
        ∙ ap (λ song. no_subtune_line subtune (length (playable_subtunes song)) ∷ [])
        (one_song_held files name p.0 q.0 p.1 q.1)
        ∙ sym q.3;
  }
  stage_facts (IsPsid name) = record {
    passes = λ met lines ends.
        let never : Ok met.0 ≡ Err ends.1 =
        sym met.1.reads ∙ ap psid_read (one_file files name met.1.bytes ends.0 met.1.found ends.2) ∙ ends.3 in
        absurd (cc (never));
    once = λ lines others p q.
        let both : Err p.1 ≡ Err q.1 = sym p.3 ∙ ap psid_read (one_file files name p.0 q.0 p.2 q.2) ∙ q.3 in
        p.4 ∙ ap (λ f. psid_fault_line f ∷ []) (cc (both)) ∙ sym q.4;
  }
  stage_facts (OffersSubtune name subtune) = record {
    passes =
        λ met lines ends.
        ends.2 (subst (λ p. HasSubtune p subtune) (one_psid_held files name met.0 ends.0 met.1 ends.1) met.2);
    once =
        λ lines others p q. p.3
        ∙ ap (λ psid. no_subtune_line subtune psid.header.songs ∷ []) (one_psid_held files name p.0 q.0 p.1 q.1)
        ∙ sym q.3;
  }
  stage_facts (CallsReturn name subtune frames) = record {
    passes = λ met lines ends.
        let same = one_psid_held files name met.0 ends.0 met.1 ends.1 in
        let calls = subst (λ p. FirstCalls (loaded p) (subtune - 1) (frames + 1) met.2 met.3) same met.4 in
        let stop = ends.2 in
        returned_or_stopped (loaded ends.0) (subtune - 1) (frames + 1) stop.call met.2 stop.registers met.3 stop.reason
        calls (omega (arith, stop.within)) stop.meets;
    once =
        λ lines others p q. p.3 ∙ one_stop subtune frames p.0 q.0 (one_psid_held files name p.0 q.0 p.1 q.1) p.2 q.2
        ∙ sym q.3;
  }
  stage_facts (SubtunesReturn name calls) = record {
    passes = λ met lines ends.
        let same = one_psid_held files name met.0 ends.0 met.2 ends.1 in
        told_or_stopped ends.0 calls met.1 lines
        (subst (λ psid. AreMeasured psid calls psid.header.songs met.1) same met.3) ends.2;
    once = λ lines others p q.
        let same = one_psid_held files name p.0 q.0 p.1 q.1 in
        one_stop_text q.0 calls lines others (subst (λ psid. StopsMeasuring psid calls lines) same p.2) q.2;
  }
  stage_facts (SubtuneReturns name subtune calls) = record {
    passes = λ met lines ends.
        let same = one_psid_held files name met.0 ends.0 met.2 ends.3 in
        let told = subst (λ psid. IsMeasured psid (subtune - 1) calls met.1) same met.3 in
        (songs_are_told_once ends.0 (subtune - 1) calls met.1 told).returns ends.1 ends.2 ends.4;
    once = λ lines others p q.
        let same = one_psid_held files name p.0 q.0 p.3 q.3 in
        let stops = subst (λ psid. StopsAt psid (subtune - 1) calls p.1 p.2) same p.4 in
        let once = songs_stop_once q.0 (subtune - 1) calls calls p.1 q.1 p.2 q.2 stops q.4 in
        p.5 ∙ ap (λ call. stop_line p.2 call ∷ []) once.0 ∙ ap (λ reason. stop_line reason q.1 ∷ []) once.1 ∙ sym q.5;
  }
  stage_facts (CanBeAssembled name) = record {
    passes = λ met lines ends.
        let held = met.2 in
        let text = one_file files name held.text ends.0 held.found ends.2 in
        sound_listings_have_no_fault ends.0 met.0 held.script ends.1
        (subst (λ t. IsListing t met.0 held.script) text held.listing) held.sound ends.3;
    once = λ lines others p q.
        let text = one_file files name p.0 q.0 p.2 q.2 in
        let one = (texts_read_in_one_way q.0).one_fault p.1 q.1 (subst (λ t. IsFaultOf t p.1) text p.3) q.3 in
        p.4 ∙ ap (λ fault. listing_line fault ∷ []) one ∙ sym q.4;
  }
  stage_facts (GoTogether name other) = record {
    passes = λ met lines ends.
        let one = one_song_held files name met.0 ends.0 met.2 ends.3 in
        let two = one_song_held files other met.1 ends.1 met.3 ends.4 in
        none_refused ends.0 ends.1 ends.2
        (subst (CanBeJoined ends.0) two (subst (λ song. CanBeJoined song met.1) one met.4)) ends.5;
    once = λ lines others p q.
        let one = one_song_held files name p.0 q.0 p.3 q.3 in
        let two = one_song_held files other p.1 q.1 p.4 q.4 in
        let here = subst (λ song. IsNotJoined q.0 song p.2) two (subst (λ song. IsNotJoined song p.1 p.2) one p.5) in
        p.6 ∙ ap (λ fault. join_line fault ∷ []) (one_join_reason q.0 q.1 p.2 q.2 here q.5) ∙ sym q.6;
  }
  stage_facts (IsAdmitted name certificate o) = record {
    passes = λ met lines ends.
        let song = one_song_held files name met.0 ends.0 met.4 ends.4 in
        let program = one_program ends.0 o met.1 ends.1 (subst (λ s. HasProgram s o met.1) song met.5) ends.5 in
        let text = one_file files certificate met.2 ends.2 met.6 ends.6 in
        admitted_or_refused ends.1 ends.2 met.3 ends.3
        (subst (λ b. IsAdmittedText b ends.2 met.3) program (subst (λ t. IsAdmittedText met.1 t met.3) text met.7)) ends.7;
    once = λ lines others p q.
        let song = one_song_held files name p.0 q.0 p.4 q.4 in
        let program = one_program q.0 o p.1 q.1 (subst (λ s. HasProgram s o p.1) song p.5) q.5 in
        let text = one_file files certificate p.2 q.2 p.6 q.6 in
        let here = subst (λ b. IsRefusedText b q.2 p.3) program (subst (λ t. IsRefusedText p.1 t p.3) text p.7) in
        p.8 ∙ ap (λ line. line ∷ []) (one_refused_line q.1 q.2 p.3 q.3 here q.7) ∙ sym q.8;
  }

  pub met_passes : (stage : Stage) → IsMet files stage → Passes files stage
  met_passes stage met = (stage_facts stage).passes met

pub playable_songs_pass_lem : PlayableSongsPass
playable_songs_pass_lem files name song held = (
  λ (passes : Passes files (CanBePlayed name)). refused_or_playable_lem song
      (λ refusal refused. passes (unplayable_line refusal ∷ []) (song, refusal, held, refused, refl)),
  λ (playable : IsPlayable song). met_passes files (CanBePlayed name) (song, held, playable),
)
