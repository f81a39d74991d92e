-- Lines that are known before they are printed, one of each item after the other.
use Rattle.std.proofs.Common.{◌≡◌, ℕ, suc, ◌+◌, ◌<◌, ◌≤◌, List, [], ◌∷◌, ◌++◌, length}
use Rattle.std.proofs.Common.{take, drop, get_or, map, Ok, refl, sym, ap, ◌∙◌, subst}
use Rattle.std.specs.List.{concat}
use Rattle.std.proofs.Math.Seq.{split_at, take-add, drop-cons}
use Rattle.std.proofs.lemmas.List.{append-nil, append_assoc, take_all}
use Rattle.std.proofs.lemmas.List.Folds.{concat-append}
use Rattle.std.proofs.lemmas.List.{map-append}
use Rattle.goat_io.specs.declared.fault.SinkFault.{SinkFault}
use Rattle.goat_io.specs.declared.fault.SinkFault.TheVariants as sink
use Rattle.command_line.specs.declared.refusal.Refusal.{Refusal}
use Rattle.command_line.specs.declared.refusal.Refusal.TheVariants as refusal
use Rattle.command_line.specs.declared.refusal.Report.{Report}
use Rattle.command_line.specs.declared.refusal.Report.TheVariants as report
use Rattle.command_line.specs.Last.{Last, SaysNothing, last_of, last_word, IsOfSink}
use Rattle.jobs.specs.Stands.{SinkState, Appends, FailsAfter}
use Rattle.jobs.specs.Endings.{LinesEnd, PutFails, shown, cut, unsaid}
use Rattle.jobs.proofs.Told.{appends_nothing, appends_both, appends_none, fails_then}

module _ {X : Type 0} (line_of : X → List ℕ) where
  -- those of the first items are printed
  pub record PrintedSoFar (items : List X) (count : ℕ) (before after : SinkState) : Type 0 where
    pub printed : Appends (concat (map line_of (take count items))) before after

  text_more : (items : List X) (count : ℕ) (item : X) → count < length items →
      concat (map line_of (take count items)) ++ line_of (get_or items count item)
      ≡ concat (map line_of (take (count + 1) items))
  text_more items count item below =
      let last = get_or items count item in
      let more : take (count + 1) items ≡ take count items ++ last ∷ [] =
      take-add count 1 items ∙ ap (λ l. take count items ++ take 1 l) (drop-cons items count item below) in
      ap (λ l. concat (map line_of (take count items)) ++ l) (sym (append-nil (line_of last)))
      ∙ sym (concat-append (map line_of (take count items)) (line_of last ∷ []))
      ∙ ap concat (sym (map-append line_of (take count items) (last ∷ [])) ∙ ap (map line_of) (sym more))

  cut_at : (items : List X) (count : ℕ) (item : X) → count < length items →
      map line_of items
      ≡ map line_of (take count items) ++ line_of (get_or items count item) ∷ map line_of (drop (suc count) items)
  cut_at items count item below =
      ap (map line_of) (split_at items count item below)
      ∙ map-append line_of (take count items) (get_or items count item ∷ drop (suc count) items)

  pub none_printed : {items : List X} (sink : SinkState) → PrintedSoFar items 0 sink sink
  none_printed sink = record { printed = appends_nothing sink }

  module _ {items : List X} {count : ℕ} {before after : SinkState}
      (so_far : PrintedSoFar items count before after) where
    -- one line more
    pub printed_on : {told : SinkState} (item : X) → count < length items →
        Appends (line_of (get_or items count item)) after told → PrintedSoFar items (count + 1) before told
    printed_on {told} item below appends = record {
      printed = subst (λ text. Appends text before told) (text_more items count item below)
          (appends_both so_far.printed appends);
    }

    -- a line was not put
    pub printing_cut : {told : SinkState} (item : X) → count < length items → (fault : SinkFault) (it : Refusal) →
        IsOfSink fault it → (fault ≡ sink.Failed → PutFails (line_of (get_or items count item)) after told) →
        (fault ≡ sink.NoMemory → Appends [] after told) → LinesEnd (map line_of items) (last_of it) before told
    printing_cut item below sink.Failed it is fails none =
        let failing = fails refl in
        rw is (cut (map line_of (take count items)) (map line_of (drop (suc count) items))
        (line_of (get_or items count item)) failing.kept (cut_at items count item below) refl
        (fails_then so_far.printed failing.fails))
    printing_cut item below sink.NoMemory it is fails none =
        rw is (unsaid (map line_of (take count items)) (map line_of (drop (suc count) items))
        (line_of (get_or items count item)) (cut_at items count item below) refl
        (appends_none so_far.printed (none refl)))

    -- all lines are printed
    pub all_printed : length items ≤ count → LinesEnd (map line_of items) SaysNothing before after
    all_printed all =
        shown refl
        (subst (λ l. Appends (concat (map line_of l)) before after) (take_all count items all) so_far.printed)

-- ---- lines after others

-- a refusal says something
refusal_says : (it : Refusal) → last_of it ≡ SaysNothing → ⊥
refusal_says (refusal.Says message) is = absurd (cc (is))
refusal_says refusal.SinkFault is = absurd (cc (is))
refusal_says refusal.NoMemory is = absurd (cc (is))

module _ (a b : List (List ℕ)) where
  behind : {last : Last} {s t u : SinkState} → Appends (concat a) s t → LinesEnd b last t u → LinesEnd (a ++ b) last s u
  behind {s} {u} one (shown is two) =
      shown is (subst (λ l. Appends l s u) (sym (concat-append a b)) (appends_both one two))
  behind {s} {u} one (cut earlier later line kept are is fails) =
      let all : concat a ++ (concat earlier ++ take kept line) ≡ concat (a ++ earlier) ++ take kept line =
      sym (append_assoc (concat a) (concat earlier) (take kept line))
      ∙ ap (λ l. l ++ take kept line) (sym (concat-append a earlier)) in
      cut (a ++ earlier) later line kept
      (ap (λ l. a ++ l) are ∙ sym (append_assoc a earlier (line ∷ later))) is
      (subst (λ l. FailsAfter l s u) all (fails_then one fails))
  behind {s} {u} one (unsaid earlier later line are is appends) =
      unsaid (a ++ earlier) later line (ap (λ l. a ++ l) are ∙ sym (append_assoc a earlier (line ∷ later))) is
      (subst (λ l. Appends l s u) (sym (concat-append a earlier)) (appends_both one appends))

  -- the first are printed
  pub lines_then : {last : Last} {s t u : SinkState} (told : Report) → LinesEnd a (last_word (Ok told)) s t →
      LinesEnd b last t u → LinesEnd (a ++ b) last s u
  lines_then report.Shown (shown is one) two = behind one two
  lines_then report.Shown (cut earlier later line kept are is fails) two = absurd (cc (is))
  lines_then report.Shown (unsaid earlier later line are is appends) two = absurd (cc (is))
  lines_then (report.Says message) (shown is one) two = absurd (cc (is))
  lines_then (report.Says message) (cut earlier later line kept are is fails) two = absurd (cc (is))
  lines_then (report.Says message) (unsaid earlier later line are is appends) two = absurd (cc (is))

  -- or they aren't
  pub lines_failed : {s t : SinkState} (it : Refusal) → LinesEnd a (last_of it) s t → LinesEnd (a ++ b) (last_of it) s t
  lines_failed it (shown is one) = absurd (refusal_says it is)
  lines_failed it (cut earlier later line kept are is fails) =
      cut earlier (later ++ b) line kept (ap (λ l. l ++ b) are ∙ append_assoc earlier (line ∷ later) b) is fails
  lines_failed it (unsaid earlier later line are is appends) =
      unsaid earlier (later ++ b) line (ap (λ l. l ++ b) are ∙ append_assoc earlier (line ∷ later) b) is appends
