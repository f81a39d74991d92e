-- A song has one text of costs, and its image is as long as it says.
use Rattle.std.proofs.Common.{◌≡◌, List, ℕ, ◌++◌, map, sym, ap, ◌∙◌, subst}
use Rattle.song_model.specs.declared.songs.Song.{Song}
use Rattle.play_model.specs.declared.options.Options.{Options}
use Rattle.asked_numbers.specs.Range.{IsNumberRange}
use Rattle.asked_numbers.proofs.Laws.{songs_have_one_range}
use Rattle.packing_rules.specs.UsedSets.{AreUsedSets}
use Rattle.packing_rules.proofs.Laws.{same_sets}
use Rattle.cut_pack.proofs.Laws.{one_is_packed_lem}
use Rattle.kept_lines.specs.Asked.{Asks}
use Rattle.song_costs.specs.Kinds.{costs_of, all_bytes}
use Rattle.song_costs.specs.Kept.{AreKeptParts}
use Rattle.song_costs.proofs.Laws.{costs_add_up, kept_parts_are_one}
use Rattle.jobs.specs.Costs.{TellCosts, kind_lines, part_line}
use Rattle.jobs.specs.Packed.{IsImageLength}
use Rattle.jobs.specs.Laws.{CostsAreTheImages}
use Rattle.jobs.proofs.OneAsked.{one_asked}
use Rattle.jobs.proofs.Passes.{one_length}

pub one_cost_text : (song : Song) (o : Options) (lines others : List (List ℕ)) → TellCosts song o lines →
    TellCosts song o others → lines ≡ others
one_cost_text song o lines others p q =
    let chosen = one_is_packed_lem o song p.chosen q.chosen p.is_for q.is_for in
    let used = same_sets q.chosen p.used q.used (subst (λ s. AreUsedSets s p.used) chosen p.are_used) q.are_used in
    let asked = one_asked q.chosen p.asked q.asked (subst (λ s. Asks s p.asked) chosen p.asks) q.asks in
    let numbers = songs_have_one_range q.chosen p.numbers q.numbers
    (subst (λ s. IsNumberRange s p.numbers) chosen p.are_numbers) q.are_numbers in
    let mine = subst (λ set. AreKeptParts song set o p.parts) asked p.are_parts in
    let parts = kept_parts_are_one song q.asked o p.parts q.parts mine q.are_parts in
    p.lines_are ∙ ap (λ s. kind_lines (costs_of s p.used p.asked p.numbers o) ++ map part_line p.parts) chosen
    ∙ ap (λ u. kind_lines (costs_of q.chosen u p.asked p.numbers o) ++ map part_line p.parts) used
    ∙ ap (λ set. kind_lines (costs_of q.chosen q.used set p.numbers o) ++ map part_line p.parts) asked
    ∙ ap (λ range. kind_lines (costs_of q.chosen q.used q.asked range o) ++ map part_line p.parts) numbers
    ∙ ap (λ l. kind_lines (costs_of q.chosen q.used q.asked q.numbers o) ++ map part_line l) parts ∙ sym q.lines_are

pub costs_are_the_images : CostsAreTheImages
costs_are_the_images song o lines psid address zero_page chip file told written =
    let mine : IsImageLength song o (all_bytes (costs_of told.chosen told.used told.asked told.numbers o)) = record {
      chosen = told.chosen;
      is_for = told.is_for;
      length_is = record {
        used = told.used;
        asked = told.asked;
        numbers = told.numbers;
        are_used = told.are_used;
        asks = told.asks;
        are_numbers = told.are_numbers;
        count_is = (costs_add_up told.chosen told.used told.asked told.numbers o).1;
      };
    } in
    one_length song o _ _ written.size mine
