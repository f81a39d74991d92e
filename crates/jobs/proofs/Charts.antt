-- Of a subtune one picture is drawn.
use Rattle.std.proofs.Common.{◌≡◌, ℕ, ◌-◌, List, [], ◌∷◌, Some, length, option_map, sym, ap, ◌∙◌, subst}
use Rattle.psid.specs.declared.header.Psid.{Psid}
use Rattle.song_length.specs.declared.measuring.Measured.{Measured}
use Rattle.song_length.proofs.Laws.{songs_are_told_once, songs_cost_once}
use Rattle.song_chart.specs.Picture.{chart_text}
use Rattle.jobs.specs.Lines.{wrote_line}
use Rattle.jobs.specs.Lengths.{again_of, IsChart}
use Rattle.jobs.specs.Laws.{ChartsHaveOneOutcome}
use Rattle.jobs.proofs.Passes.{one_psid_held}

one_chart : (psid : Psid) (subtune calls : ℕ) (file other : List ℕ) → IsChart psid subtune calls file →
    IsChart psid subtune calls other → file ≡ other
one_chart psid subtune calls file other p q =
    let cycles = songs_cost_once psid (subtune - 1) calls p.cycles q.cycles p.cost q.cost in
    let told = (songs_are_told_once psid (subtune - 1) calls q.told q.is_told).one p.told p.is_told in
    p.file_is ∙ ap (λ all. chart_text subtune all (option_map again_of p.told.repeat)) cycles
    ∙ ap (λ (one : Measured). chart_text subtune q.cycles (option_map again_of one.repeat)) told ∙ sym q.file_is

pub charts_have_one_outcome : ChartsHaveOneOutcome
charts_have_one_outcome files input output subtune calls lines others write other p q =
    let psid = one_psid_held files input p.1.0 q.1.0 p.1.1 q.1.1 in
    let file = one_chart q.1.0 subtune calls p.0 q.0 (subst (λ one. IsChart one subtune calls p.0) psid p.1.2) q.1.2 in (
      p.2.lines_are ∙ ap (λ bytes. wrote_line (length bytes) ∷ []) file ∙ sym q.2.lines_are,
      p.2.write_is ∙ ap (λ bytes. Some (output, bytes)) file ∙ sym q.2.write_is,
    )
