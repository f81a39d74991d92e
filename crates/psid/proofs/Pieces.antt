-- Pieces of a list of bytes: one put in after what stands already, and one found after others.
use Rattle.std.proofs.Common.{◌≡◌, ℕ, ◌+◌, List, ◌++◌, length, take, drop, replicate, sym, ap}
use Rattle.std.proofs.Common.{◌∙◌, arith, length-append}
use Rattle.std.proofs.lemmas.List.{take_at}
use Rattle.std.proofs.Math.Seq.{drop-append-add}
use Rattle.base.proofs.Laws.{drop-replicate_add}
use Rattle.psid.specs.Words.{with_bytes, text_at}

-- bytes hold these at the front, up to a place, and then zeros
pub record IsFilled (bytes front : List ℕ) (place left : ℕ) : Type 0 where
  pub is : bytes ≡ front ++ replicate left 0
  pub size : length front ≡ place

-- a piece put in where the front ends
pub with_bytes-next : (front piece rest : List ℕ) (place n : ℕ) → length front ≡ place → length piece ≡ n
    → with_bytes (front ++ rest) place piece ≡ (front ++ piece) ++ drop n rest
unfolding with_bytes
with_bytes-next front piece rest place n f p =
    let front_is = take_at front rest place f in
    let rest_is : drop (place + length piece) (front ++ rest) ≡ drop n rest =
    ap (λ (k : ℕ). drop (k + length piece) (front ++ rest)) (sym f) ∙ drop-append-add front rest (length piece)
    ∙ ap (λ (k : ℕ). drop k rest) p in
    rw (front_is, rest_is)

-- the next piece is put in
pub fill_next : (before after front piece : List ℕ) (place n left : ℕ) → after ≡ with_bytes before place piece →
    length piece ≡ n
    → IsFilled before front place (n + left) → IsFilled after (front ++ piece) (place + n) left
fill_next before after front piece place n left e p f = record {
  is = e ∙ ap (λ (xs : List ℕ). with_bytes xs place piece) f.is ∙ with_bytes-next front piece (replicate (n + left) 0)
      place n f.size p
      ∙ ap (λ (xs : List ℕ). (front ++ piece) ++ xs) (drop-replicate_add n left 0);
  size = let l = length-append front piece in let s = f.size in omega (arith, l, s, p);
}

-- a text of 32 bytes
pub text_at-piece : (bytes text rest : List ℕ) (place : ℕ) → drop place bytes ≡ text ++ rest → length text ≡ 32 →
    text_at bytes place ≡ text
unfolding text_at
text_at-piece bytes text rest place e p = ap (λ (xs : List ℕ). take 32 xs) e ∙ take_at text rest 32 p
