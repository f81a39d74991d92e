-- Of the subtunes of a PSID file one thing is told.
use Rattle.std.proofs.Common.{◌≡◌, ℕ, zero, suc, ◌+◌, ◌<◌, List, [], ◌∷◌, ◌++◌, length, inl, inr, refl, sym, ap, ◌∙◌}
use Rattle.std.proofs.Common.{subst, arith, length-append}
use Rattle.std.proofs.lemmas.Bool.{cases_lt}
use Rattle.cpu6502.specs.declared.stop.CallStop.{CallStop}
use Rattle.psid.specs.declared.header.Psid.{Psid}
use Rattle.song_length.specs.declared.measuring.Measured.{Measured}
use Rattle.song_length.specs.Told.{IsMeasured, StopsAt}
use Rattle.song_length.proofs.Laws.{songs_are_told_once, songs_stop_once}
use Rattle.jobs.specs.Lines.{measured_line, stop_line}
use Rattle.jobs.specs.Lengths.{AreMeasured, measured_from, measured_lines, TellLengths, StopsMeasuring}

module _ (psid : Psid) (calls : ℕ) where
  -- something is told of each of the first subtunes
  pub told_of : (subtunes subtune : ℕ) (told : List Measured) → AreMeasured psid calls subtunes told → subtune < subtunes →
      (one : Measured) × IsMeasured psid subtune calls one
  told_of zero subtune told are below = absurd (omega (arith, below))
  told_of (suc subtunes) subtune told are below = elim (cases_lt subtune subtunes) [
    | inl before ↦ told_of subtunes subtune are.0 are.2 before
    | inr last ↦
        let same : subtunes ≡ subtune = omega (arith, below, last) in
        (are.1, subst (λ s. IsMeasured psid s calls are.1) same are.3)
  ]

  one_list : (subtunes : ℕ) (told others : List Measured) → AreMeasured psid calls subtunes told →
      AreMeasured psid calls subtunes others → told ≡ others
  one_list zero told others p q = p ∙ sym q
  one_list (suc subtunes) told others p q =
      let before = one_list subtunes p.0 q.0 p.2 q.2 in
      let last = (songs_are_told_once psid subtunes calls q.1 q.3).one p.1 p.3 in
      p.4 ∙ ap (λ l. l ++ p.1 ∷ []) before ∙ ap (λ one. q.0 ++ one ∷ []) last ∙ sym q.4

  pub one_text : (subtunes : ℕ) (lines others : List (List ℕ)) → TellLengths psid calls subtunes lines →
      TellLengths psid calls subtunes others → lines ≡ others
  one_text subtunes lines others p q =
      p.lines_are ∙ ap (measured_lines calls) (one_list subtunes p.told q.told p.are q.are) ∙ sym q.lines_are

  -- a subtune of which something is told doesn't stop
  never_stops : (subtunes : ℕ) (told : List Measured) (subtune call : ℕ) (reason : CallStop) →
      AreMeasured psid calls subtunes told → subtune < subtunes → StopsAt psid subtune calls call reason → ⊥
  never_stops subtunes told subtune call reason are below stops =
      let its = told_of subtunes subtune told are below in
      (songs_are_told_once psid subtune calls its.0 its.1).returns call reason stops

  pub told_or_stopped : (told : List Measured) (lines : List (List ℕ)) → AreMeasured psid calls psid.header.songs told →
      StopsMeasuring psid calls lines → ⊥
  told_or_stopped told lines are stop =
      never_stops psid.header.songs told stop.subtune stop.call stop.reason are stop.there stop.stops

  pub one_stop_text : (lines others : List (List ℕ)) → StopsMeasuring psid calls lines →
      StopsMeasuring psid calls others → lines ≡ others
  one_stop_text lines others p q = elim (cases_lt p.subtune q.subtune) [
    | inl below ↦ absurd (never_stops q.subtune q.tell.told p.subtune p.call p.reason q.tell.are below p.stops)
    | inr above ↦ elim (cases_lt q.subtune p.subtune) [
      | inl below ↦ absurd (never_stops p.subtune p.tell.told q.subtune q.call q.reason p.tell.are below q.stops)
      | inr even ↦
          let same : p.subtune ≡ q.subtune = omega (arith, above, even) in
          let stops = subst (λ s. StopsAt psid s calls p.call p.reason) same p.stops in
          let once = songs_stop_once psid q.subtune calls calls p.call q.call p.reason q.reason stops q.stops in
          let earlier = one_text q.subtune p.earlier q.earlier
          (subst (λ s. TellLengths psid calls s p.earlier) same p.tell) q.tell in
          p.lines_are ∙ ap (λ l. l ++ stop_line p.reason p.call ∷ []) earlier
          ∙ ap (λ call. q.earlier ++ stop_line p.reason call ∷ []) once.0
          ∙ ap (λ reason. q.earlier ++ stop_line reason q.call ∷ []) once.1 ∙ sym q.lines_are
    ]
  ]

  -- ---- one subtune more

  pub many_told : (subtunes : ℕ) (told : List Measured) → AreMeasured psid calls subtunes told → length told ≡ subtunes
  many_told zero told are = ap length are
  many_told (suc subtunes) told are =
      let before = many_told subtunes are.0 are.2 in
      let more = length-append are.0 (are.1 ∷ []) in
      let all = ap length are.4 in
      omega (arith, before, more, all)

  lines_append : (first : ℕ) (told : List Measured) (last : Measured) →
      measured_from calls first (told ++ last ∷ [])
      ≡ measured_from calls first told ++ measured_line calls (first + length told) last ∷ []
  lines_append first [] last = let z : first + 0 ≡ first = omega arith in rw z refl
  lines_append first (one ∷ rest) last =
      let z : first + 1 + length rest ≡ first + suc (length rest) = omega arith in
      ap (λ lines. measured_line calls first one ∷ lines) (lines_append (first + 1) rest last)
      ∙ ap (λ n. (measured_line calls first one ∷ measured_from calls (first + 1) rest) ++ measured_line calls n last ∷ []) z

  pub tell_none : TellLengths psid calls 0 []
  tell_none = record { told = []; are = refl; lines_are = refl }

  pub tell_more : (subtunes : ℕ) (lines : List (List ℕ)) (last : Measured) → TellLengths psid calls subtunes lines →
      IsMeasured psid subtunes calls last →
      TellLengths psid calls (suc subtunes) (lines ++ measured_line calls (subtunes + 1) last ∷ [])
  tell_more subtunes lines last tell is =
      let many = many_told subtunes tell.told tell.are in
      let number : 1 + length tell.told ≡ subtunes + 1 = omega (arith, many) in
      record {
        told = tell.told ++ last ∷ [];
        are = (tell.told, last, tell.are, is, refl);
        lines_are =
            ap (λ l. l ++ measured_line calls (subtunes + 1) last ∷ []) tell.lines_are
            ∙ ap (λ n. measured_lines calls tell.told ++ measured_line calls n last ∷ []) (sym number)
            ∙ sym (lines_append 1 tell.told last);
      }
