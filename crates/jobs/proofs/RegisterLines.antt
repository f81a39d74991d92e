-- The lines of calls, one more after the other.
use Rattle.std.proofs.Common.{◌≡◌, ℕ, zero, suc, ◌+◌, ◌<◌, inl, inr, List, [], ◌∷◌, ◌++◌}
use Rattle.std.proofs.Common.{length, refl, ap, ◌∙◌, arith}
use Rattle.std.proofs.lemmas.Bool.{cases_lt}
use Rattle.std.proofs.lemmas.List.{append-nil, append_assoc, length-map}
use Rattle.std.proofs.lemmas.List.Folds.{concat-append}
use Rattle.std.proofs.lemmas.List.FromFn.{length-range_with_len, map-range_with_len_more}
use Rattle.std.specs.List.{concat, range_with_len}
use Rattle.song_model.specs.declared.songs.Song.{Song}
use Rattle.play_model.specs.declared.options.Options.{Options}
use Rattle.play_model.specs.Frame.{trace_with}
use Rattle.command_line.specs.RegisterText.{register_line, lines_from, register_lines}
use Rattle.jobs.specs.Traces.{first_traces}

lines-append : (call : ℕ) (registers : List (List ℕ)) (last : List ℕ) →
    lines_from call (registers ++ last ∷ []) ≡ lines_from call registers ++ register_line (call + length registers) last
    ∷ []
lines-append call [] last = let z : call + 0 ≡ call = omega arith in rw z refl
lines-append call (first ∷ rest) last =
    let z : call + 1 + length rest ≡ call + suc (length rest) = omega arith in
    ap (λ lines. register_line call first ∷ lines) (lines-append (call + 1) rest last)
    ∙ ap (λ n. (register_line call first ∷ lines_from (call + 1) rest) ++ register_line n last ∷ []) z

-- the lines of some calls and of the next one, and their text
pub lines_more : {calls : ℕ} (registers : List (List ℕ)) (last : List ℕ) → length registers ≡ calls →
    register_lines (registers ++ last ∷ []) ≡ register_lines registers ++ register_line calls last ∷ []
lines_more {calls} registers last many =
    let z : 0 + length registers ≡ calls = omega (arith, many) in
    lines-append 0 registers last ∙ ap (λ n. register_lines registers ++ register_line n last ∷ []) z

pub text_more : {calls : ℕ} (registers : List (List ℕ)) (last : List ℕ) → length registers ≡ calls →
    concat (register_lines (registers ++ last ∷ [])) ≡ concat (register_lines registers) ++ register_line calls last
text_more {calls} registers last many =
    let lines = register_lines registers in
    ap concat (lines_more registers last many)
    ∙ concat-append lines (register_line calls last ∷ [])
    ∙ ap (λ t. concat lines ++ t) (append-nil (register_line calls last))

-- ---- traces

module _ (o : Options) (song : Song) (k : ℕ) where
  as_many_traces : (calls : ℕ) → length (first_traces o song k calls) ≡ calls
  as_many_traces calls = length-map (range_with_len 0 calls) (trace_with o song k) ∙ length-range_with_len 0 calls

  pub traces_more : (calls : ℕ) →
      first_traces o song k (suc calls) ≡ first_traces o song k calls ++ trace_with o song k calls ∷ []
  traces_more calls =
      let one : suc calls ≡ calls + 1 = omega arith in
      ap (first_traces o song k) one ∙ map-range_with_len_more (trace_with o song k) 0 calls calls (omega arith)

  trace_lines_more : (calls : ℕ) →
      register_lines (first_traces o song k (suc calls)) ≡
      register_lines (first_traces o song k calls) ++ register_line calls (trace_with o song k calls) ∷ []
  trace_lines_more calls =
      ap register_lines (traces_more calls)
      ∙ lines_more (first_traces o song k calls) (trace_with o song k calls) (as_many_traces calls)

  pub trace_text_more : (calls : ℕ) →
      concat (register_lines (first_traces o song k (suc calls))) ≡
      concat (register_lines (first_traces o song k calls)) ++ register_line calls (trace_with o song k calls)
  trace_text_more calls =
      ap (λ traces. concat (register_lines traces)) (traces_more calls)
      ∙ text_more (first_traces o song k calls) (trace_with o song k calls) (as_many_traces calls)

  -- the lines that come after those of the first calls and the next one
  pub record HasLater (calls all : ℕ) : Type 0 where
    pub later : List (List ℕ)
    pub lines_are : register_lines (first_traces o song k all) ≡
        register_lines (first_traces o song k calls) ++ register_line calls (trace_with o song k calls) ∷ later

  pub has_later : (calls all : ℕ) → calls < all → HasLater calls all
  has_later calls zero below = absurd (omega arith)
  has_later calls (suc all) below = elim (cases_lt calls all) [
    | inl before ↦
        let rest = has_later calls all before in
        let last = trace_with o song k all in
        record {
          later = rest.later ++ register_line all last ∷ [];
          lines_are =
              trace_lines_more all
              ∙ ap (λ lines. lines ++ register_line all last ∷ []) rest.lines_are
              ∙ append_assoc (register_lines (first_traces o song k calls))
              (register_line calls (trace_with o song k calls) ∷ rest.later) (register_line all last ∷ []);
        }
    | inr after ↦
        let same : all ≡ calls = omega (arith, after, below) in
        rw same
        (record { later = []; lines_are = trace_lines_more calls })
  ]
