-- The first rule that a song breaks: the rules on orderlists come before those on programs, and one refusal is the
-- first.
use Rattle.std.proofs.Common.{◌≡◌, ℕ, ◌<◌, ◌⊎◌, ◌↔◌, List, [], ◌∷◌, length, Result, Ok}
use Rattle.std.proofs.Common.{Err, OnOk, IfErr, refl, ap, subst, inl, inr, arith}
use Rattle.std.specs.Prelude.{IsErrOf}
use Rattle.song_model.specs.declared.songs.Song.{Song}
use Rattle.song_model.specs.LookUp.{playable_subtunes}
use Rattle.play_model.specs.declared.unplayable.Unplayable.{Unplayable}
use Rattle.play_model.specs.declared.unplayable.Unplayable.TheVariants.{NoSubtune, MissingPattern, BadRestart}
use Rattle.play_model.specs.declared.unplayable.Unplayable.TheVariants.{TableOverflow, PointerToJump}
use Rattle.play_model.specs.Playable.{rank_of, table_number, Fails, IsNotAfter, IsFirst, IsPlayable, IsRefusedFor}
use Rattle.play_model.proofs.Laws.{one_refusal}
use Rattle.usage.specs.declared.orders.OrderRule.TheVariants.{NamesStored, NeverEnds}
use Rattle.usage.specs.Search.{IsNowhere, FailsBy, OrderFails}
use Rattle.usage.specs.Found.{ProgramFails}
use Rattle.usage.proofs.Ranks.{lower, first_of, ordered}

-- ---- orderlists

-- a refusal of a rule on orderlists is one that its rank tells
names_into : (song : Song) (refusal : Unplayable) → FailsBy NamesStored song refusal → OrderFails song refusal
names_into song NoSubtune f = absurd f.fails.fails
names_into song (MissingPattern s c l p) f = (let w = f.fails.fails in rw (w.0, w.1) w.2)
names_into song (BadRestart s c) f = absurd f.fails.fails
names_into song (TableOverflow t r) f = absurd f.fails.fails
names_into song (PointerToJump t r) f = absurd f.fails.fails

names_others : (song : Song) (s c l p : ℕ) → (playable_subtunes song ≡ [] → ⊥) → (other : Unplayable) →
    OrderFails song other →
    FailsBy NamesStored song other ⊎ IsNotAfter (MissingPattern s c l p) other
names_others song s c l p some NoSubtune h = absurd (some h)
names_others song s c l p some (MissingPattern t d k q) h =
    inl (record { subtune = t; fails = record { channel = d; fails = (refl, refl, h) } })
names_others song s c l p some (BadRestart t d) h =
    inr (lower {x = 2} {y = 3} {xs = s ∷ c ∷ l ∷ []} {ys = t ∷ d ∷ []} (omega arith)).is
names_others song s c l p some (TableOverflow t r) h = absurd h
names_others song s c l p some (PointerToJump t r) h = absurd h

pub names_are_first : (song : Song) (refusal : Unplayable) → (length (playable_subtunes song) ≡ 0 → ⊥) →
    IsFirst (FailsBy NamesStored song) refusal →
    IsFirst (OrderFails song) refusal
names_are_first song refusal some f = first_of (OrderFails song) refusal f (names_into song refusal f.is_such)
    (others refusal f.is_such)
  where
    others : (refusal : Unplayable) → FailsBy NamesStored song refusal → (other : Unplayable) → OrderFails song other →
        FailsBy NamesStored song other ⊎ IsNotAfter refusal other
    others NoSubtune f = absurd f.fails.fails
    others (MissingPattern s c l p) f = names_others song s c l p (λ e. some (ap length e))
    others (BadRestart s c) f = absurd f.fails.fails
    others (TableOverflow t r) f = absurd f.fails.fails
    others (PointerToJump t r) f = absurd f.fails.fails

end_into : (song : Song) (refusal : Unplayable) → FailsBy NeverEnds song refusal → OrderFails song refusal
end_into song NoSubtune f = absurd f.fails.fails
end_into song (MissingPattern s c l p) f = absurd f.fails.fails
end_into song (BadRestart s c) f = (let w = f.fails.fails in rw (w.0, w.1) w.2)
end_into song (TableOverflow t r) f = absurd f.fails.fails
end_into song (PointerToJump t r) f = absurd f.fails.fails

end_others : (song : Song) (refusal : Unplayable) → (playable_subtunes song ≡ [] → ⊥) →
    IsNowhere (FailsBy NamesStored song) → (other : Unplayable) → OrderFails song other →
    FailsBy NeverEnds song other ⊎ IsNotAfter refusal other
end_others song refusal some none NoSubtune h = absurd (some h)
end_others song refusal some none (MissingPattern t d k q) h =
    absurd (none (MissingPattern t d k q) (record
    { subtune = t; fails = record { channel = d; fails = (refl, refl, h) } }))
end_others song refusal some none (BadRestart t d) h =
    inl (record { subtune = t; fails = record { channel = d; fails = (refl, refl, h) } })
end_others song refusal some none (TableOverflow t r) h = absurd h
end_others song refusal some none (PointerToJump t r) h = absurd h

pub end_is_first : (song : Song) (refusal : Unplayable) → (length (playable_subtunes song) ≡ 0 → ⊥) →
    IsNowhere (FailsBy NamesStored song) →
    IsFirst (FailsBy NeverEnds song) refusal → IsFirst (OrderFails song) refusal
end_is_first song refusal some none f =
    first_of (OrderFails song) refusal f (end_into song refusal f.is_such)
    (end_others song refusal (λ e. some (ap length e)) none)

none_of_both : (song : Song) → (playable_subtunes song ≡ [] → ⊥) → IsNowhere (FailsBy NamesStored song) →
    IsNowhere (FailsBy NeverEnds song) → IsNowhere (OrderFails song)
none_of_both song some names ends NoSubtune h = some h
none_of_both song some names ends (MissingPattern t d k q) h =
    names (MissingPattern t d k q) (record { subtune = t; fails = record { channel = d; fails = (refl, refl, h) } })
none_of_both song some names ends (BadRestart t d) h =
    ends (BadRestart t d) (record { subtune = t; fails = record { channel = d; fails = (refl, refl, h) } })
none_of_both song some names ends (TableOverflow t r) h = h
none_of_both song some names ends (PointerToJump t r) h = h

pub none_at_end : {T E : Type 0} (song : Song) (last : Result T E) → (length (playable_subtunes song) ≡ 0 → ⊥) →
    IsNowhere (FailsBy NamesStored song) →
    OnOk last (IsNowhere (FailsBy NeverEnds song)) → OnOk last (IsNowhere (OrderFails song))
none_at_end song (Ok x) some names ends = none_of_both song (λ e. some (ap length e)) names ends
none_at_end song (Err e) some names ends = ends

-- ---- all rules

order_into : (song : Song) (refusal : Unplayable) → OrderFails song refusal → Fails song refusal
order_into song NoSubtune h = h
order_into song (MissingPattern s c l p) h = h
order_into song (BadRestart s c) h = h
order_into song (TableOverflow t r) h = absurd h
order_into song (PointerToJump t r) h = absurd h

-- a refusal of an orderlist comes before one of a program
order_rank : (song : Song) (refusal : Unplayable) → OrderFails song refusal →
    (rule : ℕ) × (rest : List ℕ) × (rank_of refusal ≡ rule ∷ rest) × (rule < 4)
order_rank song NoSubtune h = (1, [], refl, omega arith)
order_rank song (MissingPattern s c l p) h = (2, s ∷ c ∷ l ∷ [], refl, omega arith)
order_rank song (BadRestart s c) h = (3, s ∷ c ∷ [], refl, omega arith)
order_rank song (TableOverflow t r) h = absurd h
order_rank song (PointerToJump t r) h = absurd h

order_others : (song : Song) (refusal : Unplayable) → OrderFails song refusal → (other : Unplayable) →
    Fails song other → OrderFails song other ⊎ IsNotAfter refusal other
order_others song refusal f NoSubtune h = inl h
order_others song refusal f (MissingPattern s c l p) h = inl h
order_others song refusal f (BadRestart s c) h = inl h
order_others song refusal f (TableOverflow t r) h =
    let w = order_rank song refusal f in
    let low = w.3 in
    inr (ordered refusal (TableOverflow t r) (w.0 ∷ w.1) (4 ∷ table_number t ∷ r ∷ []) w.2 refl (lower low))
order_others song refusal f (PointerToJump t r) h =
    let w = order_rank song refusal f in
    let low = w.3 in
    inr (ordered refusal (PointerToJump t r) (w.0 ∷ w.1) (5 ∷ table_number t ∷ r ∷ []) w.2 refl (lower (omega arith)))

pub order_is_first : (song : Song) (refusal : Unplayable) → IsFirst (OrderFails song) refusal →
    IsFirst (Fails song) refusal
order_is_first song refusal f = first_of (Fails song) refusal f (order_into song refusal f.is_such)
    (order_others song refusal f.is_such)

program_into : (song : Song) (refusal : Unplayable) → ProgramFails song refusal → Fails song refusal
program_into song NoSubtune h = absurd h
program_into song (MissingPattern s c l p) h = absurd h
program_into song (BadRestart s c) h = absurd h
program_into song (TableOverflow t r) h = h
program_into song (PointerToJump t r) h = h

program_others : (song : Song) (refusal : Unplayable) → IsNowhere (OrderFails song) → (other : Unplayable) →
    Fails song other → ProgramFails song other ⊎ IsNotAfter refusal other
program_others song refusal none NoSubtune h = absurd (none NoSubtune h)
program_others song refusal none (MissingPattern s c l p) h = absurd (none (MissingPattern s c l p) h)
program_others song refusal none (BadRestart s c) h = absurd (none (BadRestart s c) h)
program_others song refusal none (TableOverflow t r) h = inl h
program_others song refusal none (PointerToJump t r) h = inl h

pub program_is_first : (song : Song) (refusal : Unplayable) → IsNowhere (OrderFails song) →
    IsFirst (ProgramFails song) refusal → IsFirst (Fails song) refusal
program_is_first song refusal none f = first_of (Fails song) refusal f (program_into song refusal f.is_such)
    (program_others song refusal none)

pub none_is_playable : (song : Song) → IsNowhere (OrderFails song) → IsNowhere (ProgramFails song) → IsPlayable song
none_is_playable song orders programs NoSubtune h = orders NoSubtune h
none_is_playable song orders programs (MissingPattern s c l p) h = orders (MissingPattern s c l p) h
none_is_playable song orders programs (BadRestart s c) h = orders (BadRestart s c) h
none_is_playable song orders programs (TableOverflow t r) h = programs (TableOverflow t r) h
none_is_playable song orders programs (PointerToJump t r) h = programs (PointerToJump t r) h

-- ---- the result

error_is : {T : Type 0} (a b : Unplayable) (r : Result T Unplayable) → r ≡ Err a → r ≡ Err b → a ≡ b
error_is a b r e f = cc

same_error : {T : Type 0} (a b : Unplayable) → a ≡ b → IsErrOf {T = T} (Err a) b
same_error a b e = cc

pub refused_exactly : {T : Type 0} (song : Song) (result : Result T Unplayable) → IfErr result (IsFirst (Fails song)) →
    OnOk result (IsPlayable song) →
    (refusal : Unplayable) → IsErrOf result refusal ↔ IsRefusedFor song refusal
refused_exactly {T} song (Ok parts) found none refusal = (
  λ (h : IsErrOf (Ok parts) refusal). absurd (cc),
  λ (f : IsRefusedFor song refusal).
      absurd (none refusal f.is_such),
)
refused_exactly {T} song (Err e) found none refusal = (
  λ (h : IsErrOf (Err e) refusal). subst (λ (u : Unplayable). IsFirst (Fails song) u)
      (error_is e refusal (Err e) refl h) found,
  λ (f : IsRefusedFor song refusal). same_error e refusal (one_refusal song e refusal found f),
)
