-- Lowered blocks do what they mean.
use Rattle.std.proofs.Common.{◌≡◌, ◌≢◌, ℕ, ◌+◌, refl, sym, ap, subst, ◌∙◌, arith}
use Rattle.cpu6502.proofs.Laws.{opcodes_have_rows}
use Rattle.code_runs.specs.Runs.{State}
use Rattle.code_runs.specs.Calls.{In}
use Rattle.code_runs.proofs.Laws.{Lasts, lasts_to}
use Rattle.asm6502.specs.Lines.{kept, size_of}
use Rattle.asm6502.specs.Assembly.{assembled_bytes}
use Rattle.asm6502.specs.Standing.{LinesAt}
use Rattle.asm6502.specs.Stretches.{HasBytes}
use Rattle.asm6502.proofs.Laws.{stretches_stand}
use Rattle.scopes.specs.Meaning.{Outcome, Done, Stuck}
use Rattle.scope_lines.specs.Sizes.{size}
use Rattle.scope_lines.specs.Lines.{Around, block_around}
use Rattle.scope_lines.specs.Reach.{nothing_around}
use Rattle.scope_lines.specs.Lowered.{Site, lines_at, listing_at, low_at, high_at, layout_at, writes_at, desk_of, spot, meant}
use Rattle.scope_lines.specs.Lowered.{IsWellPlaced, Enters, LoweredBlocksDo}
use Rattle.scope_lines.specs.Cycles.{block_cycles, LoweredBlocksTake}
use Rattle.scope_lines.proofs.Sizing.{lines_size, lines_kept}
use Rattle.scope_lines.proofs.Nearing.{nothing_near}
use Rattle.scope_lines.proofs.Ways.{Ground, IsAround, target}
use Rattle.scope_lines.proofs.Meant.{tree_comes}

-- ---- a site

abbrev pub around_site : Site → Around
around_site site = block_around site.label site.pointer site.holds

-- the lines of a site stand in a memory that has their bytes
pub site_stands : (site : Site) (state : State) → IsWellPlaced site → Enters site state →
    LinesAt (layout_at site).address state.at (low_at site) (lines_at site)
site_stands site state placed enters =
    let same = lines_kept site.set (around_site site) site.first site.tree in
    let bytes : HasBytes state.at site.origin (size_of (kept site.set site.front))
    (size_of (kept site.set (lines_at site)))
    (assembled_bytes site.set site.origin (listing_at site)) =
    subst (λ ls. HasBytes state.at site.origin (size_of (kept site.set site.front)) (size_of ls)
    (assembled_bytes site.set site.origin (listing_at site))) (sym same) enters.bytes in
    subst (λ ls. LinesAt (layout_at site).address state.at (low_at site) ls) same
    (stretches_stand opcodes_have_rows site.set site.origin site.front
    (lines_at site) site.back state.at placed.assembles
    bytes)

abbrev pub site_ground : (site : Site) → (code : ℕ → ℕ) → IsWellPlaced site → Ground
site_ground site code placed = record {
  layout = layout_at site;
  code = code;
  start = (layout_at site).address site.label;
  low = low_at site;
  high = high_at site;
  laid = record { labels = placed.labels; pointer = placed.pointer };
  away = placed.away;
  ends = placed.ends;
  apart = placed.kept;
}

nothing_is_around : (site : Site) (code : ℕ → ℕ) (placed : IsWellPlaced site) (end : ℕ) →
    IsAround (site_ground site code placed) (around_site site) nothing_around site.first end
nothing_is_around site code placed end = record {
  label = refl;
  pointer = refl;
  holds = refl;
  near = nothing_near (around_site site) site.first end;
  inside = λ name far e. absurd (cc);
}

pub done_runs : (outcome : Outcome) → outcome ≡ Done → outcome ≢ Stuck
done_runs outcome e stuck = (let no : Done ≡ Stuck = sym e ∙ stuck in cc)

at_spot : (state : State) (pc : ℕ) → state.cpu.pc ≡ pc → spot pc (desk_of state) ≡ state
at_spot state pc e =
    ap (λ q. (let s : State = record { cpu = record state.cpu { pc = q }; at = state.at } in s)) (sym e)

record Way (site : Site) (state : State) : Type 0 where
  lasts : Lasts (In (writes_at (layout_at site))) (meant site state).cost (block_cycles site state) state
      (spot (high_at site) (meant site state).desk)

block_goes : (site : Site) (state : State) → IsWellPlaced site → Enters site state →
    (meant site state).outcome ≡ Done → Way site state
block_goes site state placed enters done =
    let g = site_ground site state.at placed in
    let around = around_site site in
    let r = meant site state in
    let c = block_cycles site state in
    let begins = placed.begins in
    let sized = lines_size around site.first site.tree in
    let end = site.first + size site.holds site.tree in
    let ends : g.start + end ≡ high_at site = omega (arith, begins, sized) in
    let stands =
    subst (λ p. LinesAt (layout_at site).address state.at p (lines_at site)) (sym begins)
    (site_stands site state placed enters) in
    let way =
    tree_comes g around nothing_around site.tree site.first (desk_of state) placed.lines
    (nothing_is_around site state.at placed end) (omega (arith, begins)) (omega (arith, ends))
    (record { same = λ q low high. refl }) stands (done_runs r.outcome done) in
    let there : Lasts (In (writes_at (layout_at site))) r.cost c (spot (g.start + site.first) (desk_of state))
    (spot (g.start + end) r.desk) =
    subst (λ o. Lasts (In (writes_at (layout_at site))) r.cost c (spot (g.start + site.first) (desk_of state))
    (spot (g.start + target around end o) r.desk)) done way.lasts in
    let here : spot (g.start + site.first) (desk_of state) ≡ state =
    ap (λ q. spot q (desk_of state)) begins ∙ at_spot state (low_at site) enters.pc in
    record {
      lasts =
          subst (λ s. Lasts (In (writes_at (layout_at site))) r.cost c s (spot (high_at site) r.desk)) here
          (lasts_to (ap (λ q. spot q r.desk) ends) there);
    }

pub lowered_blocks_do : LoweredBlocksDo
lowered_blocks_do site state placed enters done = (block_goes site state placed enters done).lasts.leads

-- ---- in as many cycles

pub lowered_blocks_take : LoweredBlocksTake
lowered_blocks_take site state placed enters done = (block_goes site state placed enters done).lasts.takes
