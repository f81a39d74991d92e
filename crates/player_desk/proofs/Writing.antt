-- A byte that the code of a voice writes is written in memory, where it may be.
use Rattle.std.proofs.Common.{◌≡◌, ◌≢◌, ℕ, ◌+◌, ◌*◌, ◌%◌, ◌<◌, ◌≤◌}
use Rattle.std.proofs.Common.{◌||◌, Bool, true, false}
use Rattle.std.proofs.Common.{nat_eq, nat_le, inl, inr, refl, sym, ap, ◌∙◌, subst, arith}
use Rattle.std.proofs.lemmas.Bool.{leb-true, eqb-true, eqb-false, eq-eqb, or_cases}
use Rattle.code_runs.specs.Runs.{put}
use Rattle.scopes.specs.declared.line.Operand.{Operand}
use Rattle.scopes.specs.declared.line.Operand.TheVariants.{Number, Var, Own, Entry, Pointed, Pointer, Register}
use Rattle.scopes.specs.declared.line.Operand.TheVariants.{OwnRegister, Timer}
use Rattle.scopes.specs.declared.line.Half.TheVariants.{Low, High}
use Rattle.scopes.specs.declared.line.Half.{Half}
use Rattle.scopes.specs.Desk.{Layout, Desk, operand_place}
use Rattle.scopes.specs.Steps.{may_change}
use Rattle.player_memory.specs.declared.labels.TheConstants.{TEMPO, SLIDES_LOW, SLIDES_HIGH}
use Rattle.player_memory.specs.Labels.{is_own, is_shared, is_tempo}
use Rattle.player_memory.specs.Rooms.{AreSlides, MayUseSlide}
use Rattle.player_desk.proofs.VoiceDesks.{VoiceDesk, Reader, Fits, Either}
use Rattle.player_desk.proofs.VoiceDesks.{SlideLeads}
use Rattle.player_desk.proofs.VoiceDesks.{with_tempo, VarLeads, PutLeads}
use Rattle.player_desk.proofs.Owners.{own_below, shared_below}
use Rattle.player_desk.proofs.Spots.{Spot, spot_place, IsSpot, spot_set, IsWritten, Own as OwnSpot, Shared, LowSpot}
use Rattle.player_desk.proofs.Spots.{HighSpot, Sid, Slide, slides_at, slide_set, Tempo, Others, Elsewhere}
use Rattle.player_desk.proofs.Puts.{put_at}
use Rattle.player_desk.proofs.Showing.{Shows, Ground, fit, fit_both, own_place}

-- ---- writes

-- a desk of which Q holds is shown
pub record Put (voiced : Bool) (r : Reader) (desk : Desk) (Q : VoiceDesk → Type 0) : Type 0 where
  pub after : VoiceDesk
  pub shows : Shows voiced r desk after
  pub follows : Q after

pub registers_stay : (w : Spot) (byte : ℕ) (d : VoiceDesk) →
    (d.a ≡ (spot_set w byte d).a) × (d.y ≡ (spot_set w byte d).y) × (d.c ≡ (spot_set w byte d).c)
    × (d.z ≡ (spot_set w byte d).z) × (d.n ≡ (spot_set w byte d).n)
registers_stay (OwnSpot label) byte d = (refl, refl, refl, refl, refl)
registers_stay (Shared label) byte d = (refl, refl, refl, refl, refl)
registers_stay LowSpot byte d = (refl, refl, refl, refl, refl)
registers_stay HighSpot byte d = (refl, refl, refl, refl, refl)
registers_stay (Sid register) byte d = (refl, refl, refl, refl, refl)
registers_stay (Slide half row) byte d = (refl, refl, refl, refl, refl)
registers_stay (Tempo voice) byte d = (refl, refl, refl, refl, refl)
registers_stay (Others label voice) byte d = (refl, refl, refl, refl, refl)
registers_stay (Elsewhere place) byte d = (refl, refl, refl, refl, refl)

pub put_shows : {voiced : Bool} {r : Reader} {desk : Desk} {d : VoiceDesk} → Ground r → (w : Spot) → IsWritten w →
    IsSpot r w → (place byte : ℕ) → place ≡ spot_place r w → Shows voiced r desk d →
    Shows voiced r (record { cpu = desk.cpu; at = put desk.at place byte }) (spot_set w byte d)
put_shows {r = r} {desk = desk} {d = d} ground w written is place byte e shows =
    let stay = registers_stay w byte d in record {
      memory = λ s h. rw e (put_at r ground.room ground.voice w s written is h desk.at byte d (shows.memory s h));
      a = shows.a ∙ stay.0;
      y = shows.y ∙ stay.1;
      c = shows.c ∙ stay.2;
      z = shows.z ∙ stay.3;
      n = shows.n ∙ stay.4;
      x = shows.x;
      decimal = shows.decimal;
    }

-- a write, where it may be
pub record Written (voiced : Bool) (r : Reader) (operand : Operand) (desk : Desk) (place byte : ℕ)
    (Q : VoiceDesk → Type 0) : Type 0 where
  pub may : may_change r.layout operand place ≡ true
  pub put_is : Put voiced r (record { cpu = desk.cpu; at = put desk.at place byte }) Q

-- a tempo is one of three voices'
pub tempo_voice : (label : ℕ) → is_tempo label ≡ true → (its : ℕ) × (its < 3) × (label ≡ TEMPO + 7 * its)
tempo_voice label h =
    elim (or_cases (nat_eq label TEMPO || nat_eq label (TEMPO + 7)) (nat_eq label (TEMPO + 14)) h) [
      | inl low ↦
          elim (or_cases (nat_eq label TEMPO) (nat_eq label (TEMPO + 7)) low) [
            | inl one ↦ (0, omega arith, eqb-true label TEMPO one)
            | inr two ↦ (1, omega arith, eqb-true label (TEMPO + 7) two)
          ]
      | inr three ↦ (2, omega arith, eqb-true label (TEMPO + 14) three)
    ]

-- the voice's own tempo, or another's
pub tempo_shows : {voiced : Bool} {r : Reader} {desk : Desk} {d : VoiceDesk} → Ground r → (label : ℕ) →
    is_tempo label ≡ true → (z : Bool) → nat_eq label (TEMPO + 7 * r.voice) ≡ z → (byte : ℕ) →
    Shows voiced r desk d → Shows voiced r (record { cpu = desk.cpu; at = put desk.at (r.layout.address label) byte })
    (with_tempo r.voice label byte d)
tempo_shows {r = r} ground label tempo true own byte shows =
    let place = ap r.layout.address (eqb-true label (TEMPO + 7 * r.voice) own) in
    rw own (put_shows ground (OwnSpot TEMPO) tt refl _ byte place shows)
tempo_shows {r = r} ground label tempo false other byte shows =
    let its = tempo_voice label tempo in
    let is = its.2 in
    let apart : its.0 ≢ r.voice =
    λ same. eqb-false label (TEMPO + 7 * r.voice) other (is ∙ ap (λ n. TEMPO + 7 * n) same) in
    rw (other, is) (put_shows ground (Tempo its.0) tt (its.1, apart) _ byte refl shows)

pub tempo_may : (r : Reader) → Ground r → (label : ℕ) → is_tempo label ≡ true →
    r.layout.may_write (r.layout.address label) ≡ true
tempo_may r ground label tempo =
    let its = tempo_voice label tempo in
    ap (λ l. r.layout.may_write (r.layout.address l)) its.2 ∙ ground.uses.writes _ (own_below TEMPO its.0 refl its.1)

-- a variable that is shared, or a tempo
pub var_written : {voiced : Bool} {r : Reader} {desk : Desk} {d : VoiceDesk} → Ground r → (label : ℕ)
    (one tempo : Bool) → is_shared label ≡ one → is_tempo label ≡ tempo →
    (byte : ℕ) (Q : VoiceDesk → Type 0) → Shows voiced r desk d →
    VarLeads one tempo r.voice label byte Q d → Written voiced r (Var label) desk (r.layout.address label) byte Q
var_written {d = d} ground label true tempo is its byte Q shows leads = record {
  may = ground.uses.writes label (shared_below label is);
  put_is = record {
    after = spot_set (Shared label) byte d;
    shows = put_shows ground (Shared label) tt is _ byte refl shows;
    follows = leads;
  };
}
var_written {r = r} {d = d} ground label false true is its byte Q shows leads = record {
  may = tempo_may r ground label its;
  put_is = record {
    after = with_tempo r.voice label byte d;
    shows = tempo_shows ground label its (nat_eq label (TEMPO + 7 * r.voice)) refl byte shows;
    follows = leads;
  };
}
var_written ground label false false is its byte Q shows never = elim never [ ]

-- a slide, of either half
half_ends : (half : Half) (layout : Layout) (rows : ℕ) → AreSlides layout rows →
    layout.address (slides_at half) + rows ≤ 0xD000
half_ends Low layout rows are = are.low.to
half_ends High layout rows are = are.high.to

half_may : (half : Half) (layout : Layout) (row : ℕ) → MayUseSlide layout row →
    layout.may_write (layout.address (slides_at half) + row) ≡ true
half_may Low layout row uses = uses.writes_low
half_may High layout row uses = uses.writes_high

half_written : {voiced : Bool} {r : Reader} {desk : Desk} {d : VoiceDesk} → Ground r → (half : Half)
    (label y place byte : ℕ) (Q : VoiceDesk → Type 0) → place ≡ (r.layout.address label + y) % 65536 → y ≡ d.y →
    Shows voiced r desk d → label ≡ slides_at half → SlideLeads r (Q (slide_set half d.y byte d)) d →
    Written voiced r (Entry label) desk place byte Q
half_written {r = r} {d = d} ground half label y place byte Q is at shows named leads =
    let top = half_ends half r.layout r.rows (ground.room.slides leads.0) in
    let few = leads.1 in
    let here : place ≡ r.layout.address (slides_at half) + d.y =
    is ∙ (rw (named, at) (omega (arith, top, few))) in record {
      may = ap r.layout.may_write here ∙ half_may half r.layout d.y (ground.uses.slides leads.0 d.y few);
      put_is = record {
        after = slide_set half d.y byte d;
        shows = put_shows ground (Slide half d.y) tt (leads.0, few) place byte here shows;
        follows = leads.2;
      };
    }

slide_written : {voiced : Bool} {r : Reader} {desk : Desk} {d : VoiceDesk} → Ground r → (label y place byte : ℕ)
    (Q : VoiceDesk → Type 0) → place ≡ (r.layout.address label + y) % 65536 → y ≡ d.y → Shows voiced r desk d →
    (low high : Bool) → nat_eq label SLIDES_LOW ≡ low → nat_eq label SLIDES_HIGH ≡ high →
    Either low (SlideLeads r (Q (record d { slide_low = put d.slide_low d.y byte })) d)
    (Fits high (SlideLeads r (Q (record d { slide_high = put d.slide_high d.y byte })) d)) →
    Written voiced r (Entry label) desk place byte Q
slide_written ground label y place byte Q is at shows true high e f leads =
    half_written ground Low label y place byte Q is at shows (eqb-true label SLIDES_LOW e) leads
slide_written ground label y place byte Q is at shows false true e f leads =
    half_written ground High label y place byte Q is at shows (eqb-true label SLIDES_HIGH f) leads
slide_written ground label y place byte Q is at shows false false e f never = elim never [ ]

pub written : {voiced : Bool} {r : Reader} {desk : Desk} {d : VoiceDesk} → Ground r → (operand : Operand) (x y : ℕ)
    (place byte : ℕ) (Q : VoiceDesk → Type 0) → (voiced ≡ true → x ≡ 7 * r.voice) →
    y ≡ d.y → place ≡ operand_place r.layout operand (record { cpu = record desk.cpu { x = x; y = y }; at = desk.at }) →
    Shows voiced r desk d → PutLeads voiced r operand byte Q d → Written voiced r operand desk place byte Q
written ground (Number number) x y place byte Q index same is shows never = elim never [ ]
written {voiced = voiced} {r = r} {desk = desk} ground (Var label) x y place byte Q index same is shows leads =
    subst (λ p. Written voiced r (Var label) desk p byte Q) (sym is)
    (var_written ground label (is_shared label) (is_tempo label) refl refl byte Q shows leads)
written {voiced = voiced} {r = r} {d = d} ground (Own label) x y place byte Q index same is shows leads =
    let f = fit_both voiced (is_own label) (Q (record d { own = put d.own label byte })) leads in
    let at = is ∙ own_place r ground label x f.1 (index f.0) in record {
      may = ap r.layout.may_write at ∙ ground.uses.writes _ (own_below label r.voice f.1 ground.voice);
      put_is = record {
        after = spot_set (OwnSpot label) byte d;
        shows = put_shows ground (OwnSpot label) tt f.1 _ byte at shows;
        follows = f.2;
      };
    }
written {voiced = voiced} {r = r} {desk = desk} {d = d} ground (Entry label) x y place byte Q index same is shows
    leads =
    slide_written ground label y place byte Q is same shows (nat_eq label SLIDES_LOW) (nat_eq label SLIDES_HIGH) refl
    refl leads
written ground Pointed x y place byte Q index same is shows never = elim never [ ]
written {r = r} {d = d} ground (Pointer Low) x y place byte Q index same is shows leads = record {
  may = eq-eqb place r.layout.pointer is;
  put_is = record {
    after = spot_set LowSpot byte d;
    shows = put_shows ground LowSpot tt tt _ byte is shows;
    follows = leads;
  };
}
written {r = r} {d = d} ground (Pointer High) x y place byte Q index same is shows leads = record {
  may = eq-eqb place (r.layout.pointer + 1) is;
  put_is = record {
    after = spot_set HighSpot byte d;
    shows = put_shows ground HighSpot tt tt _ byte is shows;
    follows = leads;
  };
}
written {r = r} {d = d} ground (Register register) x y place byte Q index same is shows leads =
    let f = fit (nat_le register 24) (Q (record d { sid = put d.sid register byte })) leads in
    let few = leb-true register 24 f.0 in record {
      may = ap r.layout.may_write is ∙ ground.uses.registers register few;
      put_is = record {
        after = spot_set (Sid register) byte d;
        shows = put_shows ground (Sid register) tt few _ byte is shows;
        follows = f.1;
      };
    }
written {voiced = voiced} {r = r} {d = d} ground (OwnRegister register) x y place byte Q index same is shows leads =
    let f =
    fit_both voiced (nat_le register 6) (Q (record d { sid = put d.sid (register + 7 * r.voice) byte })) leads in
    let few = leb-true register 6 f.1 in
    let three = ground.voice in
    let e = index f.0 in
    let at : place ≡ 0xD400 + (register + 7 * r.voice) = is ∙ (rw e (omega (arith, few, three))) in
    let most : register + 7 * r.voice ≤ 24 = omega (arith, few, three) in record {
      may = ap r.layout.may_write at ∙ ground.uses.registers (register + 7 * r.voice) most;
      put_is = record {
        after = spot_set (Sid (register + 7 * r.voice)) byte d;
        shows = put_shows ground (Sid (register + 7 * r.voice)) tt most _ byte at shows;
        follows = f.2;
      };
    }
written ground (Timer half) x y place byte Q index same is shows never = elim never [ ]
