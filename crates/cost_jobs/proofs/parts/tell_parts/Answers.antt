use Rattle.std.proofs.Common.{refl, sym, ap, ◌∙◌, ◌++◌, map, subst}
use Rattle.std.proofs.lemmas.Result.{err_from_is_err_and}
use Rattle.kept_lines.specs.Asked.{asked, asked_by, Asks}
use Rattle.image_parts.specs.CodeParts.{code_parts}
use Rattle.song_costs.specs.Kept.{AreKeptParts}
use Rattle.song_costs.proofs.Laws.{few_bytes}
use Rattle.cut_pack.proofs.Laws.{features_of, facts_of}
use Rattle.jobs.specs.Costs.{TellCosts, kind_lines, part_line}
use Rattle.jobs.proofs.Laws.{song_begun, hold_fails, song_held, met_next, refused, wants_first, lines_over, one_asked}
use Rattle.cost_jobs.proofs.parts.tell_parts.Goals as goal

pub returns-in_err-song : goal.returns-in_err-song
returns-in_err-song g c =
    let p = err_from_is_err_and c.from_residual.result c.from_residual.ensures.1 in
    rw (p.1, p.2) (hold_fails _ refl refl c.in_err-song.ensures.refused)

pub returns-in_err-parts : goal.returns-in_err-parts
returns-in_err-parts g c =
    let read = c.in_ok-song.ensures.read in
    let p = err_from_is_err_and c.from_residual-in_err-parts.result c.from_residual-in_err-parts.ensures.1 in
    let refuses = c.in_err-parts.ensures.refused read.was.files c.args.input.now (song_held read) in
    rw (p.1, p.2) (refused _ (song_begun refl read) refl refuses)

pub returns-in_err-packed : goal.returns-in_err-packed
returns-in_err-packed g c =
    let read = c.in_ok-song.ensures.read in
    let holds = song_held read in
    let p = err_from_is_err_and c.from_residual-in_err-packed.result c.from_residual-in_err-packed.ensures.1 in
    let refuses = c.in_err-packed.ensures.refused read.was.files c.args.input.now holds in
    rw (p.1, p.2)
    (refused _ (met_next (song_begun refl read) (c.in_ok-song.song, holds, c.in_ok-parts.ensures.playable)) refl refuses)

pub returns-in_err-code : goal.returns-in_err-code
returns-in_err-code g c =
    let p = err_from_is_err_and c.from_residual-in_err-code.result c.from_residual-in_err-code.ensures.1 in
    rw (p.1, p.2) (wants_first _ c.in_ok-song.ensures.read.was.stays)

pub costs_by_kind-costs-requires : goal.costs_by_kind-costs-requires
costs_by_kind-costs-requires g c =
    few_bytes _ c.args.options c.as_slice.result.now
    (c.as_slice.ensures ∙ c.in_ok-code.ensures)

pub part_costs-requires-clause-code : goal.part_costs-requires-clause-code
part_costs-requires-clause-code g c =
    c.as_slice-2.ensures ∙ c.in_ok-code.ensures ∙ ap (λ set. code_parts set c.args.options) c.asked.ensures

pub returns-in_err-told : goal.returns-in_err-told
returns-in_err-told g c =
    let p = err_from_is_err_and c.from_residual-in_err-told.result c.from_residual-in_err-told.ensures.1 in
    rw (p.1, p.2) (wants_first _ c.in_ok-song.ensures.read.was.stays)

pub returns : goal.returns
returns g c =
    let read = c.in_ok-song.ensures.read in
    let song = c.in_ok-song.song in
    let holds = song_held read in
    let parts = c.in_ok-parts.parts in
    let packs = c.in_ok-packed.ensures.packs in
    let packed = c.in_ok-packed.packed in
    let asks : Asks song (asked parts.features.0 parts.facts) = record {
      features = parts.features.0;
      facts = parts.facts;
      are_features = c.in_ok-parts.ensures.parts.features;
      are_facts = c.in_ok-parts.ensures.parts.facts;
      is = refl;
    } in
    let as_packed : Asks song (asked_by packed) = record {
      features = packed.features.0;
      facts = packed.facts;
      are_features = features_of song packs.chosen packed.features.0 packs.serves.asks packs.is.exact.features;
      are_facts = facts_of song packs.chosen packed.facts packs.serves.asks packs.is.exact.facts;
      is = refl;
    } in
    let same = one_asked song _ _ as_packed asks in
    let code = c.as_slice.ensures ∙ c.in_ok-code.ensures
    ∙ ap (λ set. code_parts set c.args.options) (c.asked.ensures ∙ sym same) in
    let told : TellCosts song c.args.options (kind_lines c.costs_by_kind-costs.result ++ map part_line c.in_ok-told.told.items) =
    record {
      chosen = packs.chosen;
      is_for = packs.is_for;
      used = packs.is.used;
      are_used = packs.is.are_used;
      asked = asked_by packed;
      asks = record {
        features = packed.features.0;
        facts = packed.facts;
        are_features = packs.is.exact.features;
        are_facts = packs.is.exact.facts;
        is = refl;
      };
      numbers = packed.numbers;
      are_numbers = packs.is.exact.numbers;
      parts = c.in_ok-told.told.items;
      are_parts = subst (λ set. AreKeptParts song set c.args.options c.in_ok-told.told.items) (sym same)
          c.in_ok-told.ensures.kept;
      lines_are = ap (λ k. kind_lines k ++ map part_line c.in_ok-told.told.items)
          (c.costs_by_kind-costs.ensures.exact packs.chosen packs.is.used c.args.options packs.is.are_used packs.is.exact
          code);
    } in
    let short = c.in_ok-packed.ensures.short read.was.files c.args.input.now holds in
    lines_over (met_next (met_next (song_begun refl read) (song, holds, c.in_ok-parts.ensures.playable)) short)
    ((song, holds, told), refl) (rw c.as_slice-3.ensures.value at c.show_costs.ensures)
