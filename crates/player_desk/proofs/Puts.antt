-- A byte that is written at a spot leaves the others.
use Rattle.std.proofs.Common.{◌≡◌, ℕ, ◌+◌, ◌*◌}
use Rattle.std.proofs.Common.{◌<◌}
use Rattle.std.proofs.Common.{inl, inr, refl, sym, ◌∙◌, arith}
use Rattle.std.proofs.lemmas.Bool.Decides.{eqb_tells}
use Rattle.code_runs.specs.Runs.{put}
use Rattle.code_runs.proofs.Laws.{put_same, put_other}
use Rattle.player_memory.specs.declared.labels.TheConstants.{TEMPO, SLIDES_LOW, SLIDES_HIGH}
use Rattle.player_memory.specs.Rooms.{IsRoom}
use Rattle.scopes.specs.declared.line.Half.TheVariants.{Low, High}
use Rattle.player_desk.proofs.VoiceDesks.{VoiceDesk, Reader}
use Rattle.player_desk.proofs.Owners.{same_own, not_shared}
use Rattle.player_desk.proofs.Spots.{Spot, spot_place, IsSpot, spot_byte, spot_set, IsWritten, Own, Shared, LowSpot}
use Rattle.player_desk.proofs.Spots.{HighSpot, Sid, Slide, Tempo, Others, Elsewhere}
use Rattle.player_desk.proofs.Apart.{own_in, shared_in, one_label, variable_apart, elsewhere_not_sid, slide_is}
use Rattle.player_desk.proofs.Apart.{low_not_high, leaves_slide, slide_leaves}

-- bytes of one sort, by their labels
by_label : (at own place : ℕ → ℕ) (l m byte : ℕ) → (place m ≡ place l → m ≡ l) → at (place m) ≡ own m →
    put at (place l) byte (place m) ≡ put own l byte m
by_label at own place l m byte one e =
    elim (eqb_tells m l) [
      | inl same ↦ let h = same.1 in rw h (put_same at (place l) byte ∙ sym (put_same own l byte))
      | inr other ↦
          let n = other.1 in
          put_other at (place l) byte (place m) (λ q. n (one q)) ∙ e ∙ sym (put_other own l byte m n)
    ]

-- a byte is put at a spot, and the others stay
pub put_at : (r : Reader) → IsRoom r.layout r.rows → r.voice < 3 → (w s : Spot) → IsWritten w → IsSpot r w → IsSpot r
    s →
    (at : ℕ → ℕ) (byte : ℕ) (d : VoiceDesk) → at (spot_place r s) ≡ spot_byte r s d →
    put at (spot_place r w) byte (spot_place r s) ≡ spot_byte r s (spot_set w byte d)
put_at r room v (Own l) (Own m) written ws ss at byte d e =
    by_label at d.own (λ label. r.layout.address (label + 7 * r.voice)) l m byte
    (λ q. (same_own m l r.voice r.voice ss ws v v
    (one_label r.layout r.rows room _ _ _ _ (own_in r.layout m r.voice ss v)
    (own_in r.layout l r.voice ws v) q)).1) e
put_at r room v (Own l) (Shared m) written ws ss at byte d e =
    put_other at _ byte _ (λ q. not_shared l m r.voice ws ss v
    (one_label r.layout r.rows room _ _ _ _ (own_in r.layout l r.voice ws v) (shared_in r.layout m ss)
    (sym q))) ∙ e
put_at r room v (Own l) LowSpot written ws ss at byte d e =
    let apart = variable_apart r.layout r.rows room _ _ (own_in r.layout l r.voice ws v) in
    put_other at _ byte _ (λ q. apart.0 (sym q)) ∙ e
put_at r room v (Own l) HighSpot written ws ss at byte d e =
    let apart = variable_apart r.layout r.rows room _ _ (own_in r.layout l r.voice ws v) in
    put_other at _ byte _ (λ q. apart.1 (sym q)) ∙ e
put_at r room v (Own l) (Sid register) written ws ss at byte d e =
    let apart = variable_apart r.layout r.rows room _ _ (own_in r.layout l r.voice ws v) in
    put_other at _ byte _ (λ q. apart.2 register (sym q)) ∙ e
put_at r room v (Own l) (Tempo m) written ws ss at byte d e =
    put_other at _ byte _ (λ q. ss.1 (same_own TEMPO l m r.voice refl ws ss.0 v
    (one_label r.layout r.rows room _ _ _ _ (own_in r.layout TEMPO m refl ss.0)
    (own_in r.layout l r.voice ws v) q)).0) ∙ e
put_at r room v (Own l) (Others m its) written ws ss at byte d e =
    put_other at _ byte _ (λ q. ss.2 (same_own m l its r.voice ss.0 ws ss.1 v
    (one_label r.layout r.rows room _ _ _ _ (own_in r.layout m its ss.0 ss.1)
    (own_in r.layout l r.voice ws v) q)).0) ∙ e
put_at r room v (Own l) (Elsewhere place) written ws ss at byte d e =
    let apart = variable_apart r.layout r.rows room _ _ (own_in r.layout l r.voice ws v) in
    put_other at _ byte _ (λ q. apart.3 place ss (sym q)) ∙ e
put_at r room v (Shared l) (Own m) written ws ss at byte d e =
    put_other at _ byte _ (λ q. not_shared m l r.voice ss ws v
    (one_label r.layout r.rows room _ _ _ _ (own_in r.layout m r.voice ss v) (shared_in r.layout l ws) q))
    ∙ e
put_at r room v (Shared l) (Shared m) written ws ss at byte d e =
    by_label at d.shared r.layout.address l m byte
    (λ q. one_label r.layout r.rows room _ _ _ _ (shared_in r.layout m ss) (shared_in r.layout l ws) q) e
put_at r room v (Shared l) LowSpot written ws ss at byte d e =
    let apart = variable_apart r.layout r.rows room _ _ (shared_in r.layout l ws) in
    put_other at _ byte _ (λ q. apart.0 (sym q)) ∙ e
put_at r room v (Shared l) HighSpot written ws ss at byte d e =
    let apart = variable_apart r.layout r.rows room _ _ (shared_in r.layout l ws) in
    put_other at _ byte _ (λ q. apart.1 (sym q)) ∙ e
put_at r room v (Shared l) (Sid register) written ws ss at byte d e =
    let apart = variable_apart r.layout r.rows room _ _ (shared_in r.layout l ws) in
    put_other at _ byte _ (λ q. apart.2 register (sym q)) ∙ e
put_at r room v (Shared l) (Tempo m) written ws ss at byte d e =
    put_other at _ byte _ (λ q. not_shared TEMPO l m refl ws ss.0
    (one_label r.layout r.rows room _ _ _ _ (own_in r.layout TEMPO m refl ss.0) (shared_in r.layout l ws)
    q))
    ∙ e ∙ sym (put_other d.shared l byte (TEMPO + 7 * m) (not_shared TEMPO l m refl ws ss.0))
put_at r room v (Shared l) (Others m its) written ws ss at byte d e =
    put_other at _ byte _ (λ q. not_shared m l its ss.0 ws ss.1
    (one_label r.layout r.rows room _ _ _ _ (own_in r.layout m its ss.0 ss.1) (shared_in r.layout l ws)
    q)) ∙ e
put_at r room v (Shared l) (Elsewhere place) written ws ss at byte d e =
    let apart = variable_apart r.layout r.rows room _ _ (shared_in r.layout l ws) in
    put_other at _ byte _ (λ q. apart.3 place ss (sym q)) ∙ e
put_at r room v LowSpot (Own m) written ws ss at byte d e =
    put_other at _ byte _ (variable_apart r.layout r.rows room _ _ (own_in r.layout m r.voice ss v)).0 ∙ e
put_at r room v LowSpot (Shared m) written ws ss at byte d e =
    put_other at _ byte _ (variable_apart r.layout r.rows room _ _ (shared_in r.layout m ss)).0 ∙ e
put_at r room v LowSpot LowSpot written ws ss at byte d e = put_same at r.layout.pointer byte
put_at r room v LowSpot HighSpot written ws ss at byte d e = put_other at _ byte _ (λ q. omega (arith, q)) ∙ e
put_at r room v LowSpot (Sid register) written ws ss at byte d e =
    let most = room.pointer_high in put_other at _ byte _ (λ q. omega (arith, q, most)) ∙ e
put_at r room v LowSpot (Tempo m) written ws ss at byte d e =
    put_other at _ byte _ (variable_apart r.layout r.rows room _ _ (own_in r.layout TEMPO m refl ss.0)).0
    ∙ e
put_at r room v LowSpot (Others m its) written ws ss at byte d e =
    put_other at _ byte _ (variable_apart r.layout r.rows room _ _ (own_in r.layout m its ss.0 ss.1)).0 ∙ e
put_at r room v LowSpot (Elsewhere place) written ws ss at byte d e = put_other at _ byte _ ss.low ∙ e
put_at r room v HighSpot (Own m) written ws ss at byte d e =
    put_other at _ byte _ (variable_apart r.layout r.rows room _ _ (own_in r.layout m r.voice ss v)).1 ∙ e
put_at r room v HighSpot (Shared m) written ws ss at byte d e =
    put_other at _ byte _ (variable_apart r.layout r.rows room _ _ (shared_in r.layout m ss)).1 ∙ e
put_at r room v HighSpot LowSpot written ws ss at byte d e = put_other at _ byte _ (λ q. omega (arith, q)) ∙ e
put_at r room v HighSpot HighSpot written ws ss at byte d e = put_same at (r.layout.pointer + 1) byte
put_at r room v HighSpot (Sid register) written ws ss at byte d e =
    let most = room.pointer_high in put_other at _ byte _ (λ q. omega (arith, q, most)) ∙ e
put_at r room v HighSpot (Tempo m) written ws ss at byte d e =
    put_other at _ byte _ (variable_apart r.layout r.rows room _ _ (own_in r.layout TEMPO m refl ss.0)).1
    ∙ e
put_at r room v HighSpot (Others m its) written ws ss at byte d e =
    put_other at _ byte _ (variable_apart r.layout r.rows room _ _ (own_in r.layout m its ss.0 ss.1)).1 ∙ e
put_at r room v HighSpot (Elsewhere place) written ws ss at byte d e = put_other at _ byte _ ss.high ∙ e
put_at r room v (Sid register) (Own m) written ws ss at byte d e =
    put_other at _ byte _ ((variable_apart r.layout r.rows room _ _ (own_in r.layout m r.voice ss v)).2
    register) ∙ e
put_at r room v (Sid register) (Shared m) written ws ss at byte d e =
    put_other at _ byte _ ((variable_apart r.layout r.rows room _ _ (shared_in r.layout m ss)).2 register)
    ∙ e
put_at r room v (Sid register) LowSpot written ws ss at byte d e =
    let most = room.pointer_high in put_other at _ byte _ (λ q. omega (arith, q, most)) ∙ e
put_at r room v (Sid register) HighSpot written ws ss at byte d e =
    let most = room.pointer_high in put_other at _ byte _ (λ q. omega (arith, q, most)) ∙ e
put_at r room v (Sid register) (Sid other) written ws ss at byte d e =
    by_label at d.sid (λ n. 0xD400 + n) register other byte (λ q. omega (arith, q)) e
put_at r room v (Sid register) (Tempo m) written ws ss at byte d e =
    put_other at _ byte _ ((variable_apart r.layout r.rows room _ _ (own_in r.layout TEMPO m refl ss.0)).2
    register) ∙ e
put_at r room v (Sid register) (Others m its) written ws ss at byte d e =
    put_other at _ byte _ ((variable_apart r.layout r.rows room _ _ (own_in r.layout m its ss.0 ss.1)).2
    register) ∙ e
put_at r room v (Sid register) (Elsewhere place) written ws ss at byte d e =
    put_other at _ byte _ (λ q. elsewhere_not_sid r.layout r.rows place register ss ws (sym q)) ∙ e
put_at r room v (Tempo l) (Own m) written ws ss at byte d e =
    put_other at _ byte _ (λ q. ws.1 (sym (same_own m TEMPO r.voice l ss refl v ws.0
    (one_label r.layout r.rows room _ _ _ _ (own_in r.layout m r.voice ss v)
    (own_in r.layout TEMPO l refl ws.0) q)).0)) ∙ e
put_at r room v (Tempo l) (Shared m) written ws ss at byte d e =
    put_other at _ byte _ (λ q. not_shared TEMPO m l refl ss ws.0
    (one_label r.layout r.rows room _ _ _ _ (own_in r.layout TEMPO l refl ws.0) (shared_in r.layout m ss)
    (sym q)))
    ∙ e ∙ sym (put_other d.shared (TEMPO + 7 * l) byte m (λ q. not_shared TEMPO m l refl ss ws.0 (sym q)))
put_at r room v (Tempo l) LowSpot written ws ss at byte d e =
    let apart = variable_apart r.layout r.rows room _ _ (own_in r.layout TEMPO l refl ws.0) in
    put_other at _ byte _ (λ q. apart.0 (sym q)) ∙ e
put_at r room v (Tempo l) HighSpot written ws ss at byte d e =
    let apart = variable_apart r.layout r.rows room _ _ (own_in r.layout TEMPO l refl ws.0) in
    put_other at _ byte _ (λ q. apart.1 (sym q)) ∙ e
put_at r room v (Tempo l) (Sid register) written ws ss at byte d e =
    let apart = variable_apart r.layout r.rows room _ _ (own_in r.layout TEMPO l refl ws.0) in
    put_other at _ byte _ (λ q. apart.2 register (sym q)) ∙ e
put_at r room v (Tempo l) (Tempo m) written ws ss at byte d e =
    by_label at d.shared r.layout.address (TEMPO + 7 * l) (TEMPO + 7 * m) byte
    (λ q. one_label r.layout r.rows room _ _ _ _ (own_in r.layout TEMPO m refl ss.0)
    (own_in r.layout TEMPO l refl ws.0) q)
    e
put_at r room v (Tempo l) (Others m its) written ws ss at byte d e =
    put_other at _ byte _ (λ q. ss.3 (same_own m TEMPO its l ss.0 refl ss.1 ws.0
    (one_label r.layout r.rows room _ _ _ _ (own_in r.layout m its ss.0 ss.1)
    (own_in r.layout TEMPO l refl ws.0) q)).1) ∙ e
put_at r room v (Tempo l) (Elsewhere place) written ws ss at byte d e =
    let apart = variable_apart r.layout r.rows room _ _ (own_in r.layout TEMPO l refl ws.0) in
    put_other at _ byte _ (λ q. apart.3 place ss (sym q)) ∙ e
put_at r room v (Own l) (Slide half i) written ws ss at byte d e =
    leaves_slide r room v (Own l) ws tt _ (slide_is half r.layout r.rows i room ss) at byte ∙ e
put_at r room v (Shared l) (Slide half i) written ws ss at byte d e =
    leaves_slide r room v (Shared l) ws tt _ (slide_is half r.layout r.rows i room ss) at byte ∙ e
put_at r room v LowSpot (Slide half i) written ws ss at byte d e =
    leaves_slide r room v LowSpot ws tt _ (slide_is half r.layout r.rows i room ss) at byte ∙ e
put_at r room v HighSpot (Slide half i) written ws ss at byte d e =
    leaves_slide r room v HighSpot ws tt _ (slide_is half r.layout r.rows i room ss) at byte ∙ e
put_at r room v (Sid register) (Slide half i) written ws ss at byte d e =
    leaves_slide r room v (Sid register) ws tt _ (slide_is half r.layout r.rows i room ss) at byte ∙ e
put_at r room v (Tempo l) (Slide half i) written ws ss at byte d e =
    leaves_slide r room v (Tempo l) ws tt _ (slide_is half r.layout r.rows i room ss) at byte ∙ e
put_at r room v (Slide half i) (Own m) written ws ss at byte d e =
    slide_leaves r room v (Own m) ss tt _ (slide_is half r.layout r.rows i room ws) at byte ∙ e
put_at r room v (Slide half i) (Shared m) written ws ss at byte d e =
    slide_leaves r room v (Shared m) ss tt _ (slide_is half r.layout r.rows i room ws) at byte ∙ e
put_at r room v (Slide half i) LowSpot written ws ss at byte d e =
    slide_leaves r room v LowSpot ss tt _ (slide_is half r.layout r.rows i room ws) at byte ∙ e
put_at r room v (Slide half i) HighSpot written ws ss at byte d e =
    slide_leaves r room v HighSpot ss tt _ (slide_is half r.layout r.rows i room ws) at byte ∙ e
put_at r room v (Slide half i) (Sid register) written ws ss at byte d e =
    slide_leaves r room v (Sid register) ss tt _ (slide_is half r.layout r.rows i room ws) at byte ∙ e
put_at r room v (Slide half i) (Tempo m) written ws ss at byte d e =
    slide_leaves r room v (Tempo m) ss tt _ (slide_is half r.layout r.rows i room ws) at byte ∙ e
put_at r room v (Slide half i) (Others m its) written ws ss at byte d e =
    slide_leaves r room v (Others m its) ss tt _ (slide_is half r.layout r.rows i room ws) at byte ∙ e
put_at r room v (Slide half i) (Elsewhere place) written ws ss at byte d e =
    slide_leaves r room v (Elsewhere place) ss tt _ (slide_is half r.layout r.rows i room ws) at byte ∙ e
put_at r room v (Slide Low i) (Slide Low k) written ws ss at byte d e =
    by_label at d.slide_low (λ n. r.layout.address SLIDES_LOW + n) i k byte (λ q. omega (arith, q)) e
put_at r room v (Slide High i) (Slide High k) written ws ss at byte d e =
    by_label at d.slide_high (λ n. r.layout.address SLIDES_HIGH + n) i k byte (λ q. omega (arith, q)) e
put_at r room v (Slide Low i) (Slide High k) written ws ss at byte d e =
    put_other at _ byte _ (λ q. low_not_high r.layout r.rows i k room ws.0 ws.1 ss.1 (sym q)) ∙ e
put_at r room v (Slide High i) (Slide Low k) written ws ss at byte d e =
    put_other at _ byte _ (low_not_high r.layout r.rows k i room ss.0 ss.1 ws.1) ∙ e
put_at r room v (Others label its) s never ws ss at byte d e = elim never [ ]
put_at r room v (Elsewhere place) s never ws ss at byte d e = elim never [ ]
