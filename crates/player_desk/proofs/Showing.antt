-- A desk in memory is what the code of a voice sees: its registers, and the byte that an instruction reads.
use Rattle.std.proofs.Common.{◌≡◌, ℕ, ◌+◌, ◌*◌, ◌%◌, ◌<◌}
use Rattle.std.proofs.Common.{◌&&◌, Bool, true, false}
use Rattle.std.proofs.Common.{refl, ap, ◌∙◌, arith}
use Rattle.cpu6502.specs.declared.cpu.Cpu.{Cpu}
use Rattle.scopes.specs.declared.line.Operand.{Operand}
use Rattle.scopes.specs.declared.line.Operand.TheVariants.{Number, Var, Own, Entry, Pointed, Pointer, Register}
use Rattle.scopes.specs.declared.line.Operand.TheVariants.{OwnRegister, Timer}
use Rattle.scopes.specs.declared.line.Half.TheVariants.{Low, High}
use Rattle.scopes.specs.Desk.{Desk, Layout, operand_place, operand_read}
use Rattle.scopes.specs.Steps.{may_see}
use Rattle.player_memory.specs.Labels.{is_own, is_shared}
use Rattle.player_desk.proofs.VoiceDesks.{VoiceDesk, Reader, with_cpu, Fits, Either, pointed}
use Rattle.player_desk.proofs.VoiceDesks.{EntryLeads, Listed, OfAll, LowSlide, HighSlide, SeenLeads}
use Rattle.player_memory.specs.Rooms.{IsRoom, IsElsewhere, MayUse}
use Rattle.player_desk.proofs.Effects.{cpu_with, AgreeOn}
use Rattle.player_desk.proofs.Owners.{own_label, own_below, shared_below}
use Rattle.player_desk.proofs.Spots.{Spot, spot_place, IsSpot, spot_byte, Own as OwnSpot, Shared, LowSpot, HighSpot}
use Rattle.player_desk.proofs.Spots.{Sid, Slide, Tempo, Others, Elsewhere}

-- ---- desks

-- the desk is what the code sees; the decimal flag is clear, and in the code of a voice X is 7 times its number
pub record Shows (voiced : Bool) (r : Reader) (desk : Desk) (d : VoiceDesk) : Type 0 where
  pub memory : (s : Spot) → IsSpot r s → desk.at (spot_place r s) ≡ spot_byte r s d
  pub a : desk.cpu.a ≡ d.a
  pub y : desk.cpu.y ≡ d.y
  pub c : desk.cpu.c ≡ d.c
  pub z : desk.cpu.z ≡ d.z
  pub n : desk.cpu.n ≡ d.n
  pub x : voiced ≡ true → desk.cpu.x ≡ 7 * r.voice
  pub decimal : desk.cpu.d ≡ false

-- what this stands on: the player's room and what it may use, one of three voices, and that what is found is elsewhere
-- and may be read
pub record Ground (r : Reader) : Type 0 where
  pub room : IsRoom r.layout r.rows
  pub uses : MayUse r.layout r.rows
  pub voice : r.voice < 3
  pub found : (place : ℕ) → r.IsFound place → IsElsewhere r.layout r.rows place
  pub reads_found : (place : ℕ) → r.IsFound place → r.layout.may_read place ≡ true

-- ---- registers

pub bytes_stay : (r : Reader) (s : Spot) (cpu : Cpu) (d : VoiceDesk) → spot_byte r s d ≡ spot_byte r s (with_cpu cpu d)
bytes_stay r (OwnSpot label) cpu d = refl
bytes_stay r (Shared label) cpu d = refl
bytes_stay r LowSpot cpu d = refl
bytes_stay r HighSpot cpu d = refl
bytes_stay r (Sid register) cpu d = refl
bytes_stay r (Slide half row) cpu d = refl
bytes_stay r (Tempo voice) cpu d = refl
bytes_stay r (Others label voice) cpu d = refl
bytes_stay r (Elsewhere place) cpu d = refl

-- other registers
pub cpu_shows : {voiced : Bool} {r : Reader} {desk : Desk} {d : VoiceDesk} → Shows voiced r desk d → (one two : Cpu) →
    AgreeOn desk.cpu one two → Shows voiced r (record { cpu = one; at = desk.at }) (with_cpu two d)
cpu_shows {r = r} {d = d} shows one two agree = record {
  memory = λ s h. shows.memory s h ∙ bytes_stay r s two d;
  a = agree.a;
  y = agree.y;
  c = agree.c;
  z = agree.z;
  n = agree.n;
  x = λ voiced. agree.x ∙ shows.x voiced;
  decimal = agree.d;
}

-- the whole registers are those that the code sees, and the rest
pub seen_cpu : {voiced : Bool} {r : Reader} {desk : Desk} {d : VoiceDesk} → Shows voiced r desk d →
    desk.cpu ≡ cpu_with desk.cpu d
seen_cpu {desk = desk} {d = d} shows =
    same desk.cpu d shows.a shows.y shows.c shows.z shows.n shows.decimal
  where
    same : (cpu : Cpu) (d : VoiceDesk) → cpu.a ≡ d.a → cpu.y ≡ d.y → cpu.c ≡ d.c → cpu.z ≡ d.z →
        cpu.n ≡ d.n → cpu.d ≡ false → cpu ≡ cpu_with cpu d
    same cpu d a y c z n f =
        ap (λ q. (let s : Cpu = record cpu { a = q } in s)) a
        ∙ (ap (λ q. (let s : Cpu = record cpu { a = d.a; y = q } in s)) y
        ∙ (ap (λ q. (let s : Cpu = record cpu { a = d.a; y = d.y; c = q } in s)) c
        ∙ (ap (λ q. (let s : Cpu = record cpu { a = d.a; y = d.y; c = d.c; z = q } in s)) z
        ∙ (ap (λ q. (let s : Cpu = record cpu { a = d.a; y = d.y; c = d.c; z = d.z; n = q } in s)) n
        ∙ ap (λ q. (let s : Cpu = record cpu { a = d.a; y = d.y; c = d.c; z = d.z; n = d.n; d = q } in s)) f))))

-- ---- bytes

-- what `Fits` says
pub fit : (b : Bool) (Q : Type 0) → Fits b Q → (b ≡ true) × Q
fit true Q q = (refl, q)
fit false Q never = elim never [ ]

pub fit_both : (b k : Bool) (Q : Type 0) → Fits (b && k) Q → (b ≡ true) × (k ≡ true) × Q
fit_both true true Q q = (refl, refl, q)
fit_both true false Q never = elim never [ ]
fit_both false k Q never = elim never [ ]

-- where a voice's byte is
pub own_place : (r : Reader) → Ground r → (label x : ℕ) → is_own label ≡ true → x ≡ 7 * r.voice →
    (r.layout.address label + x) % 65536 ≡ r.layout.address (label + 7 * r.voice)
own_place r ground label x own e =
    let small = (own_label label r.voice own ground.voice).below in
    let at = ground.room.variables.voices label r.voice own ground.voice in
    let ends = ground.room.variables.to (label + 7 * r.voice) (omega (arith, small)) in
    rw (e, at) (omega (arith, at, ends))

-- a byte that is read, as the code sees it
pub record Seen (layout : Layout) (operand : Operand) (desk : Desk) (Q : ℕ → Type 0) : Type 0 where
  pub byte : ℕ
  pub same : operand_read operand desk (operand_place layout operand desk) ≡ byte
  pub may : may_see layout operand (operand_place layout operand desk) ≡ true
  pub follows : Q byte

pub entry_seen : {voiced : Bool} {r : Reader} {desk : Desk} {d : VoiceDesk} {Q : ℕ → Type 0} → Ground r →
    (label : ℕ) → Shows voiced r desk d →
    (r.layout.address label + desk.cpu.y) % 65536 ≡ (r.layout.address label + d.y) % 65536 →
    EntryLeads r ((r.layout.address label + d.y) % 65536) Q d → Seen r.layout (Entry label) desk Q
entry_seen {r = r} {desk = desk} {d = d} ground label shows place (Listed found leads) = record {
  byte = r.before ((r.layout.address label + d.y) % 65536);
  same = ap desk.at place ∙ shows.memory (Elsewhere ((r.layout.address label + d.y) % 65536)) (ground.found _ found);
  may = ap r.layout.may_read place ∙ ground.reads_found _ found;
  follows = leads;
}
entry_seen {r = r} {desk = desk} {d = d} ground label shows place (OfAll other of_all is leads) = record {
  byte = d.shared other;
  same = ap desk.at (place ∙ is) ∙ shows.memory (Shared other) of_all;
  may = ap r.layout.may_read (place ∙ is) ∙ ground.uses.reads other (shared_below other of_all);
  follows = leads;
}
entry_seen {r = r} {desk = desk} {d = d} ground label shows place (LowSlide row kept few is leads) = record {
  byte = d.slide_low row;
  same = ap desk.at (place ∙ is) ∙ shows.memory (Slide Low row) (kept, few);
  may = ap r.layout.may_read (place ∙ is) ∙ (ground.uses.slides kept row few).reads_low;
  follows = leads;
}
entry_seen {r = r} {desk = desk} {d = d} ground label shows place (HighSlide row kept few is leads) = record {
  byte = d.slide_high row;
  same = ap desk.at (place ∙ is) ∙ shows.memory (Slide High row) (kept, few);
  may = ap r.layout.may_read (place ∙ is) ∙ (ground.uses.slides kept row few).reads_high;
  follows = leads;
}

-- what is read by its label alone
var_seen : {voiced : Bool} {r : Reader} {desk : Desk} {d : VoiceDesk} → Ground r → (label : ℕ) (Q : ℕ → Type 0) →
    Shows voiced r desk d → (z : Bool) → is_shared label ≡ z →
    Either z (Q (d.shared label)) (r.IsFound (r.layout.address label) × Q (r.before (r.layout.address label))) →
    Seen r.layout (Var label) desk Q
var_seen {d = d} ground label Q shows true is leads = record {
  byte = d.shared label;
  same = shows.memory (Shared label) is;
  may = ground.uses.reads label (shared_below label is);
  follows = leads;
}
var_seen {r = r} ground label Q shows false is leads = record {
  byte = r.before (r.layout.address label);
  same = shows.memory (Elsewhere (r.layout.address label)) (ground.found _ leads.0);
  may = ground.reads_found _ leads.0;
  follows = leads.1;
}

pub seen : {voiced : Bool} {r : Reader} {desk : Desk} {d : VoiceDesk} → Ground r → (operand : Operand)
    (Q : ℕ → Type 0) → Shows voiced r desk d → SeenLeads voiced r operand Q d → Seen r.layout operand desk Q
seen ground (Number number) Q shows leads = record { byte = number; same = refl; may = refl; follows = leads }
seen ground (Var label) Q shows leads = var_seen ground label Q shows (is_shared label) refl leads
seen {voiced = voiced} {r = r} {desk = desk} {d = d} ground (Own label) Q shows leads =
    let f = fit_both voiced (is_own label) (Q (d.own label)) leads in
    let place = own_place r ground label desk.cpu.x f.1 (shows.x f.0) in record {
      byte = d.own label;
      same = ap desk.at place ∙ shows.memory (OwnSpot label) f.1;
      may = ap r.layout.may_read place ∙ ground.uses.reads _ (own_below label r.voice f.1 ground.voice);
      follows = f.2;
    }
seen {r = r} {desk = desk} {d = d} ground (Entry label) Q shows leads =
    entry_seen ground label shows (ap (λ y. (r.layout.address label + y) % 65536) shows.y) leads
seen {r = r} {desk = desk} {d = d} ground Pointed Q shows leads =
    let l = shows.memory LowSpot tt in
    let h = shows.memory HighSpot tt in
    let y = shows.y in
    let place : (desk.at r.layout.pointer + 256 * desk.at (r.layout.pointer + 1) + desk.cpu.y) % 65536 ≡ pointed d =
    rw (l, h, y) refl in record {
      byte = r.before (pointed d);
      same = ap desk.at place ∙ shows.memory (Elsewhere (pointed d)) (ground.found (pointed d) leads.0);
      may = ap r.layout.may_read place ∙ ground.reads_found (pointed d) leads.0;
      follows = leads.1;
    }
seen {d = d} ground (Pointer Low) Q shows leads =
    record { byte = d.low; same = shows.memory LowSpot tt; may = refl; follows = leads }
seen {d = d} ground (Pointer High) Q shows leads =
    record { byte = d.high; same = shows.memory HighSpot tt; may = refl; follows = leads }
seen ground (Register register) Q shows never = elim never [ ]
seen ground (OwnRegister register) Q shows never = elim never [ ]
seen ground (Timer half) Q shows never = elim never [ ]
