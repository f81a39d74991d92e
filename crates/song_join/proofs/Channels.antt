-- The first channel in which a note is played before any row names an instrument.
use Rattle.std.proofs.Common.{◌≡◌, ℕ, suc, ◌+◌, ◌-◌, ◌<◌, ◌≤◌, Bool, true, false, List, []}
use Rattle.std.proofs.Common.{◌∷◌, ◌++◌, length, get_or, take, drop, refl, sym, ap, ◌∙◌, subst, inl}
use Rattle.std.proofs.Common.{inr, arith, length-append}
use Rattle.std.specs.List.{filter}
use Rattle.std.proofs.lemmas.Bool.{cases_lt, cases_Bool}
use Rattle.std.proofs.lemmas.List.{take-append-drop, take_more, take_all, get_or_default}
use Rattle.std.proofs.lemmas.List.Elements.{filter-append}
use Rattle.std.proofs.lemmas.Option.{unwrap_or-slice_get}
use Rattle.std.proofs.Math.Seq.{drop-cons, get_or-append_seam}
use Rattle.song_model.specs.declared.orders.Order.{Order}
use Rattle.song_model.specs.declared.orders.Subtune.{Subtune}
use Rattle.song_model.specs.declared.songs.Song.{Song}
use Rattle.song_model.specs.Endless.{IsEndless}
use Rattle.song_model.specs.LookUp.{order_of, void_subtune, is_playable_subtune, playable_subtunes, playable_subtune}
use Rattle.play_model.specs.Frame.{subtune_at}
use Rattle.play_model.specs.Used.{IsChannel}
use Rattle.play_model.specs.Playable.{IsPlayable}
use Rattle.play_model.proofs.Laws.{whole_lem}
use Rattle.safe_states.proofs.Laws.{is_played}
use Rattle.song_join.specs.declared.faults.JoinFault.{JoinFault}
use Rattle.song_join.specs.Openings.{BeginsUnnamed, IsUnnamedAt, NamesFirst}
use Rattle.song_join.specs.Parts.{IsPlayableSubtune, IsChannelOf, IsUnnamedFault, IsFirstUnnamedIn, NoneUnnamedIn, IsFirstUnnamed}

-- ---- channels

pub channel_unnamed : (song : Song) (s channel : ℕ) (order : Order) → IsChannelOf song s channel order →
    BeginsUnnamed song order → IsUnnamedAt song s channel
channel_unnamed song s channel order is begins = record {
  first = is.first;
  last = is.last;
  is_channel = is.is_channel;
  begins = subst (BeginsUnnamed song) is.order_is begins;
}

pub channel_named : (song : Song) (s channel : ℕ) (order : Order) → IsChannelOf song s channel order →
    ¬ BeginsUnnamed song order → ¬ IsUnnamedAt song s channel
channel_named song s channel order is none at = none (subst (BeginsUnnamed song) (sym is.order_is) at.begins)

-- the three channels of a subtune
pub channel_of : (song : Song) (s channel : ℕ) (subtune : Subtune) → IsPlayable song →
    IsPlayableSubtune song s subtune → IsChannel channel → IsChannelOf song s channel (order_of channel subtune)
channel_of song s channel subtune play is is_channel =
    let least = is.first in
    let most = is.last in
    record {
      first = is.first;
      last = is.last;
      is_channel = is_channel;
      order_is = ap (order_of channel) is.is;
      endless =
          subst (λ (x : Subtune). IsEndless (order_of channel x)) (sym is.is)
          ((whole_lem song play).order (order_of channel (subtune_at song (s - 1)))
          (is_played song (s - 1) channel (omega arith) is_channel));
    }

pub none_of_three : (song : Song) (s : ℕ) → ¬ IsUnnamedAt song s 1 → ¬ IsUnnamedAt song s 2 → ¬ IsUnnamedAt song s 3 →
    NoneUnnamedIn song s
none_of_three song s one two three channel at =
    let least = at.is_channel.first in
    let most = at.is_channel.last in
    elim (cases_lt channel 2) [
      | inl low ↦ (let e : channel ≡ 1 = omega arith in one (subst (IsUnnamedAt song s) e at))
      | inr more ↦ elim (cases_lt channel 3) [
        | inl on ↦ (let e : channel ≡ 2 = omega arith in two (subst (IsUnnamedAt song s) e at))
        | inr last ↦ (let e : channel ≡ 3 = omega arith in three (subst (IsUnnamedAt song s) e at))
      ]
    ]

-- the first of the three
pub first_one : (song : Song) (s : ℕ) (fault : JoinFault) → IsUnnamedFault song s 1 fault → IsFirstUnnamedIn song s fault
first_one song s fault here = record {
  channel = 1;
  fault_is = here.fault_is;
  unnamed = here.unnamed;
  earlier = λ d low at. let least = at.is_channel.first in omega arith;
}

pub first_two : (song : Song) (s : ℕ) (fault : JoinFault) → ¬ IsUnnamedAt song s 1 →
    IsUnnamedFault song s 2 fault → IsFirstUnnamedIn song s fault
first_two song s fault one here = record {
  channel = 2;
  fault_is = here.fault_is;
  unnamed = here.unnamed;
  earlier =
      λ d low at.
      let least = at.is_channel.first in
      let e : d ≡ 1 = omega arith in
      one (subst (IsUnnamedAt song s) e at);
}

pub first_three : (song : Song) (s : ℕ) (fault : JoinFault) → ¬ IsUnnamedAt song s 1 → ¬ IsUnnamedAt song s 2 →
    IsUnnamedFault song s 3 fault → IsFirstUnnamedIn song s fault
first_three song s fault one two here = record {
  channel = 3;
  fault_is = here.fault_is;
  unnamed = here.unnamed;
  earlier =
      λ d low at.
      let least = at.is_channel.first in
      elim (cases_lt d 2) [
        | inl low ↦ (let e : d ≡ 1 = omega arith in one (subst (IsUnnamedAt song s) e at))
        | inr on ↦ (let e : d ≡ 2 = omega arith in two (subst (IsUnnamedAt song s) e at))
      ];
}

-- ---- subtunes

kept_first : {X : Type 0} (p : X → Bool) (x : X) (xs : List X) → p x ≡ true → filter p (x ∷ xs) ≡ x ∷ filter p xs
kept_first p x xs pass = rw pass refl

dropped_first : {X : Type 0} (p : X → Bool) (x : X) (xs : List X) → p x ≡ false → filter p (x ∷ xs) ≡ filter p xs
dropped_first p x xs fail = rw fail refl

-- the playable subtune after the first ones of a list
next_of_filter : {X : Type 0} (p : X → Bool) (xs : List X) (i : ℕ) (d : X) → i < length xs → p (get_or xs i d) ≡ true →
    get_or (filter p xs) (length (filter p (take i xs))) d ≡ get_or xs i d
next_of_filter {X} p xs i d inside pass =
    let x = get_or xs i d in
    let split : xs ≡ take i xs ++ x ∷ drop (suc i) xs =
    sym (take-append-drop i xs) ∙ ap (λ (ys : List X). take i xs ++ ys) (drop-cons xs i d inside) in
    let kept : filter p xs ≡ filter p (take i xs) ++ x ∷ filter p (drop (suc i) xs) =
    ap (filter p) split
    ∙ filter-append p (take i xs) (x ∷ drop (suc i) xs)
    ∙ ap (λ (ys : List X). filter p (take i xs) ++ ys) (kept_first p x (drop (suc i) xs) pass) in
    ap (λ (ys : List X). get_or ys (length (filter p (take i xs))) d) kept
    ∙ get_or-append_seam (filter p (take i xs)) x (filter p (drop (suc i) xs)) d

count_more : {X : Type 0} (p : X → Bool) (xs : List X) (i : ℕ) (d : X) → i < length xs → p (get_or xs i d) ≡ true →
    length (filter p (take (i + 1) xs)) ≡ length (filter p (take i xs)) + 1
count_more {X} p xs i d inside pass =
    let x = get_or xs i d in
    ap (λ (ys : List X). length (filter p ys)) (take_more xs i d inside)
    ∙ ap length (filter-append p (take i xs) (x ∷ []))
    ∙ ap (λ (ys : List X). length (filter p (take i xs) ++ ys)) (kept_first p x [] pass)
    ∙ length-append (filter p (take i xs)) (x ∷ [])

count_same : {X : Type 0} (p : X → Bool) (xs : List X) (i : ℕ) (d : X) → i < length xs → p (get_or xs i d) ≡ false →
    length (filter p (take (i + 1) xs)) ≡ length (filter p (take i xs))
count_same {X} p xs i d inside fail =
    let x = get_or xs i d in
    ap (λ (ys : List X). length (filter p ys)) (take_more xs i d inside)
    ∙ ap length (filter-append p (take i xs) (x ∷ []))
    ∙ ap (λ (ys : List X). length (filter p (take i xs) ++ ys)) (dropped_first p x [] fail)
    ∙ length-append (filter p (take i xs)) []
    ∙ omega arith

pub count_few : {X : Type 0} (p : X → Bool) (xs : List X) (i : ℕ) → length (filter p (take i xs)) ≤ length (filter p xs)
count_few {X} p xs i =
    let split =
    ap (λ (ys : List X). length (filter p ys)) (take-append-drop i xs) in
    let parts = ap length (filter-append p (take i xs) (drop i xs)) in
    let sum = length-append (filter p (take i xs)) (filter p (drop i xs)) in
    omega arith

pub filter_few : {X : Type 0} (p : X → Bool) (xs : List X) → length (filter p xs) ≤ length xs
filter_few p [] = omega arith
filter_few p (x ∷ xs) =
    let rest = filter_few p xs in
    elim (cases_Bool (p x)) [ inl pass ↦ rw pass (omega arith) | inr fail ↦ rw fail (omega arith) ]

-- as many playable subtunes are among the first i, and in none of them a note comes first
pub record AreNamedUpTo (song : Song) (i number : ℕ) : Type 0 where
  pub count : number ≡ length (filter is_playable_subtune (take i song.subtunes))
  pub none : (s channel : ℕ) → s ≤ number → ¬ IsUnnamedAt song s channel

pub named_at_first : (song : Song) → AreNamedUpTo song 0 0
named_at_first song = record {
  count = refl;
  none = λ s channel low at. let least = at.first in omega arith;
}

subtune_is : (song : Song) (k : ℕ) → subtune_at song k ≡ get_or (playable_subtunes song) k void_subtune
unfolding playable_subtune
subtune_is song k = unwrap_or-slice_get (playable_subtunes song) k void_subtune

pub next_playable : (song : Song) (i number : ℕ) (subtune : Subtune) → i < length song.subtunes →
    AreNamedUpTo song i number → subtune ≡ get_or song.subtunes i subtune → is_playable_subtune subtune ≡ true →
    IsPlayableSubtune song (number + 1) subtune
next_playable song i number subtune inside up_to is pass =
    let d = void_subtune in
    let same : get_or song.subtunes i d ≡ subtune = get_or_default song.subtunes i d subtune inside ∙ sym is in
    let test : is_playable_subtune (get_or song.subtunes i d) ≡ true = ap is_playable_subtune same ∙ pass in
    let more = count_more is_playable_subtune song.subtunes i d inside test in
    let few = count_few is_playable_subtune song.subtunes (i + 1) in
    let count = up_to.count in
    let place : number + 1 - 1 ≡ length (filter is_playable_subtune (take i song.subtunes)) = omega arith in
    record {
      first = omega arith;
      last = omega arith;
      is =
          sym (ap (subtune_at song) place
          ∙ subtune_is song (length (filter is_playable_subtune (take i song.subtunes)))
          ∙ next_of_filter is_playable_subtune song.subtunes i d inside test ∙ same);
    }

pub named_more : (song : Song) (i number : ℕ) (subtune : Subtune) → i < length song.subtunes →
    AreNamedUpTo song i number → subtune ≡ get_or song.subtunes i subtune → is_playable_subtune subtune ≡ true →
    NoneUnnamedIn song (number + 1) → AreNamedUpTo song (i + 1) (number + 1)
named_more song i number subtune inside up_to is pass here =
    let d = void_subtune in
    let same : get_or song.subtunes i d ≡ subtune = get_or_default song.subtunes i d subtune inside ∙ sym is in
    let test : is_playable_subtune (get_or song.subtunes i d) ≡ true = ap is_playable_subtune same ∙ pass in
    let more = count_more is_playable_subtune song.subtunes i d inside test in
    let count = up_to.count in
    record {
      count = omega arith;
      none = λ s channel low at. elim (cases_lt number s) [
        | inr before ↦ up_to.none s channel before at
        | inl on ↦ (let e : s ≡ number + 1 = omega arith in
            here channel (subst (λ (t : ℕ). IsUnnamedAt song t channel) e at))
      ];
    }

pub named_same : (song : Song) (i number : ℕ) (subtune : Subtune) → i < length song.subtunes →
    AreNamedUpTo song i number → subtune ≡ get_or song.subtunes i subtune → is_playable_subtune subtune ≡ false →
    AreNamedUpTo song (i + 1) number
named_same song i number subtune inside up_to is fail =
    let d = void_subtune in
    let same : get_or song.subtunes i d ≡ subtune = get_or_default song.subtunes i d subtune inside ∙ sym is in
    let test : is_playable_subtune (get_or song.subtunes i d) ≡ false = ap is_playable_subtune same ∙ fail in
    let equal = count_same is_playable_subtune song.subtunes i d inside test in
    let count = up_to.count in
    record { count = omega arith; none = up_to.none }

pub first_of_song : (song : Song) (i number : ℕ) (fault : JoinFault) → AreNamedUpTo song i number →
    IsFirstUnnamedIn song (number + 1) fault → IsFirstUnnamed song fault
first_of_song song i number fault up_to here = record {
  subtune = number + 1;
  channel = here.channel;
  fault_is = here.fault_is;
  first = record {
    is_such = here.unnamed;
    before = λ s channel low. up_to.none s channel (omega arith);
    below = here.earlier;
  };
}

pub all_named : (song : Song) (i number : ℕ) → length song.subtunes ≤ i → AreNamedUpTo song i number → NamesFirst song
all_named song i number end up_to s channel at =
    let all = ap (λ (xs : List Subtune). length (filter is_playable_subtune xs)) (take_all i song.subtunes end) in
    let count = up_to.count in
    let most = at.last in
    up_to.none s channel (omega arith) at
