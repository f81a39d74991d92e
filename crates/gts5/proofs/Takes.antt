-- What reading takes from the front spells what it gives: bytes, counts, and n pieces.
use Rattle.std.proofs.Common.{◌≡◌, ℕ, zero, suc, ◌<◌, ◌≤◌, Bool, true, false, cond, ltb, List, []}
use Rattle.std.proofs.Common.{◌∷◌, ◌++◌, length, take, drop, Result, Ok, Err, refl, sym, ap, subst, ◌∙◌}
use Rattle.std.proofs.Common.{append_assoc, arith, take-append-drop}
use Rattle.std.specs.List.{All, flat_map}
use Rattle.std.proofs.lemmas.Bool.{ltb-false, le-ltb}
use Rattle.std.proofs.lemmas.List.{length-take-le, take_at, drop_at, length-append}
use Rattle.std.proofs.lemmas.List.Elements.{All-nil, All-cons, All-head, All-tail, All-take, All-drop}
use Rattle.song_model.specs.Basics.{IsByte}
use Rattle.gts5.specs.declared.faults.SongFault.{SongFault}
use Rattle.gts5.specs.declared.faults.SongFault.TheVariants.{Truncated, OutOfLimit}
use Rattle.gts5.specs.Faults.{◌>>=◌, offset_of}
use Rattle.gts5.specs.Reading.{bytes_at, byte_at, count_at, each_at}
use Rattle.gts5.specs.Spells.{SpellsEach}

-- the value of a step that had no fault
pub bind_ok : {A B : Type 0} (r : Result A SongFault) (f : A → Result B SongFault) (y : B) → (r >>= f) ≡ Ok y →
    (x : A) × (r ≡ Ok x) × (f x ≡ Ok y)
bind_ok (Ok x) f y e = (x, refl, e)
bind_ok (Err fault) f y e = absurd cc

-- a test that had no fault
pub guard_ok : {A : Type 0} (b : Bool) (fault : SongFault) (x y : A) → cond b (Err fault) (Ok x) ≡ Ok y →
    (b ≡ false) × (x ≡ y)
guard_ok true fault x y e = absurd cc
guard_ok false fault x y e = (refl, cc)

abbrev done : {A : Type 0} → A → Result A SongFault
done x = Ok x

pub ok_is : {A : Type 0} (x y : A) → done x ≡ done y → x ≡ y
ok_is x y e = cc

-- ---- bytes

pub record TakesBytes (bytes : List ℕ) (n : ℕ) (text rest : List ℕ) : Type 0 where
  pub parts : bytes ≡ text ++ rest
  pub size : length text ≡ n
  pub each : All IsByte text
  pub left : All IsByte rest

pub bytes_take : (total n : ℕ) (bytes : List ℕ) (x : List ℕ × List ℕ) → All IsByte bytes →
    bytes_at total n bytes ≡ Ok x → TakesBytes bytes n x.0 x.1
unfolding bytes_at
bytes_take total n bytes x are e =
    let g = guard_ok (ltb (length bytes) n) (Truncated total) (take n bytes, drop n bytes) x e in
    let long : n ≤ length bytes = ltb-false _ _ g.0 in
    subst (λ (y : List ℕ × List ℕ). TakesBytes bytes n y.0 y.1) g.1 (record {
      parts = sym (take-append-drop n bytes);
      size = length-take-le n bytes long;
      each = All-take IsByte n bytes are;
      left = All-drop IsByte n bytes are;
    })

pub bytes_again : (total n : ℕ) (text rest : List ℕ) → length text ≡ n →
    bytes_at total n (text ++ rest) ≡ Ok (text, rest)
unfolding bytes_at
bytes_again total n text rest size =
    let long : ltb (length (text ++ rest)) n ≡ false = le-ltb _ _ (omega (arith, length-append text rest)) in
    rw (long, take_at text rest n size, drop_at text rest n size) refl

-- ---- counts

pub record TakesCount (bytes : List ℕ) (n : ℕ) (rest : List ℕ) : Type 0 where
  pub parts : bytes ≡ n ∷ rest
  pub fits : n < 256
  pub left : All IsByte rest

pub byte_takes : (total : ℕ) (bytes : List ℕ) (x : ℕ × List ℕ) → All IsByte bytes → byte_at total bytes ≡ Ok x →
    TakesCount bytes x.0 x.1
unfolding byte_at
byte_takes total [] x are e = absurd cc
byte_takes total (byte ∷ bytes) x are e =
    subst (λ (y : ℕ × List ℕ). TakesCount (byte ∷ bytes) y.0 y.1) (ok_is (byte, bytes) x e) (record {
      parts = refl;
      fits = All-head IsByte byte bytes are;
      left = All-tail IsByte byte bytes are;
    })

pub byte_again : (total n : ℕ) (rest : List ℕ) → byte_at total (n ∷ rest) ≡ Ok (n, rest)
unfolding byte_at
byte_again total n rest = refl

pub count_takes : (total limit : ℕ) (bytes : List ℕ) (x : ℕ × List ℕ) → All IsByte bytes →
    count_at total limit bytes ≡ Ok x → TakesCount bytes x.0 x.1 × (x.0 ≤ limit)
unfolding count_at
count_takes total limit bytes x are e =
    let b = bind_ok (byte_at total bytes) _ x e in
    let g = guard_ok (ltb limit b.0.0) (OutOfLimit (offset_of total bytes)) b.0 x b.2 in
    let within : b.0.0 ≤ limit = ltb-false _ _ g.0 in
    subst (λ (y : ℕ × List ℕ). TakesCount bytes y.0 y.1 × (y.0 ≤ limit)) g.1
    (byte_takes total bytes b.0 are b.1, within)

pub count_again : (total limit n : ℕ) (rest : List ℕ) → n ≤ limit → count_at total limit (n ∷ rest) ≡ Ok (n, rest)
unfolding count_at
count_again total limit n rest within =
    let small : ltb limit n ≡ false = le-ltb _ _ within in
    rw (byte_again total n rest, small) refl

-- ---- pieces

-- a piece in front that spells x, which is within its limits, and the bytes after it
pub record Takes {X : Type 0} (Spelled : X → List ℕ → Type 0) (Within : X → Type 0) (bytes : List ℕ) (x : X)
    (rest : List ℕ) : Type 0 where
  pub piece : List ℕ
  pub spelled : Spelled x piece
  pub within : Within x
  pub parts : bytes ≡ piece ++ rest
  pub left : All IsByte rest

-- n items within their limits
pub record AreMany {X : Type 0} (Within : X → Type 0) (n : ℕ) (items : List X) : Type 0 where
  pub number : length items ≡ n
  pub each : All Within items

pub each_takes : {X : Type 0} (one : List ℕ → Result (X × List ℕ) SongFault) (Spelled : X → List ℕ → Type 0)
    (Within : X → Type 0)
    → ((bytes : List ℕ) (x : X × List ℕ) → All IsByte bytes → one bytes ≡ Ok x → Takes Spelled Within bytes x.0 x.1)
    → (n : ℕ) (bytes : List ℕ) (x : List X × List ℕ) → All IsByte bytes → each_at one n bytes ≡ Ok x →
    Takes (SpellsEach Spelled) (AreMany Within n) bytes x.0 x.1
each_takes {X} one Spelled Within takes zero bytes x are e =
    subst (λ (y : List X × List ℕ). Takes (SpellsEach Spelled) (AreMany Within 0) bytes y.0 y.1) (ok_is ([], bytes) x e)
    (record {
      piece = [];
      spelled = refl;
      within = record { number = refl; each = All-nil Within };
      parts = refl;
      left = are;
    })
each_takes {X} one Spelled Within takes (suc n) bytes x are e =
    let a = bind_ok (one bytes) (λ first. each_at one n first.1 >>= λ others. Ok (first.0 ∷ others.0, others.1)) x e in
    let b = bind_ok (each_at one n a.0.1) (λ others. Ok (a.0.0 ∷ others.0, others.1)) x a.2 in
    let first = takes bytes a.0 are a.1 in
    let others = each_takes one Spelled Within takes n a.0.1 b.0 first.left b.1 in
    let made : List X × List ℕ = (a.0.0 ∷ b.0.0, b.0.1) in
    subst (λ (y : List X × List ℕ). Takes (SpellsEach Spelled) (AreMany Within (suc n)) bytes y.0 y.1)
    (ok_is made x b.2) (record {
      piece = first.piece ++ others.piece;
      spelled = (first.piece, others.piece, refl, first.spelled, others.spelled);
      within =
          record {
            number = ap suc others.within.number;
            each = All-cons Within a.0.0 b.0.0 first.within others.within.each;
          };
      parts = first.parts ∙ ap (λ t. first.piece ++ t) others.parts ∙ sym (append_assoc first.piece others.piece b.0.1);
      left = others.left;
    })

pub each_again : {X : Type 0} (one : List ℕ → Result (X × List ℕ) SongFault) (Spelled : X → List ℕ → Type 0)
    (Within : X → Type 0)
    → ((x : X) (piece rest : List ℕ) → Within x → Spelled x piece → one (piece ++ rest) ≡ Ok (x, rest))
    → (xs : List X) (text rest : List ℕ) → All Within xs → SpellsEach Spelled xs text →
    each_at one (length xs) (text ++ rest) ≡ Ok (xs, rest)
each_again one Spelled Within again [] text rest are spelled = ap (λ t. done ([], t ++ rest)) spelled
each_again one Spelled Within again (x ∷ xs) text rest are spelled =
    let piece = spelled.0 in
    let others = spelled.1 in
    let apart : text ++ rest ≡ piece ++ (others ++ rest) = ap (λ t. t ++ rest) spelled.2
    ∙ append_assoc piece others rest in
    ap (each_at one (suc (length xs))) apart
    ∙ rw (
      again x piece (others ++ rest) (All-head Within x xs are) spelled.3,
      each_again one Spelled Within again xs others rest (All-tail Within x xs are) spelled.4,
    ) refl

-- where each piece is the text of its item, so is the whole
pub each_text : {X : Type 0} (text_of : X → List ℕ) (xs : List X) (text : List ℕ) →
    SpellsEach (λ x piece. piece ≡ text_of x) xs text → text ≡ flat_map text_of xs
each_text text_of [] text spelled = spelled
each_text text_of (x ∷ xs) text spelled = spelled.2 ∙ ap (λ t. t ++ spelled.1) spelled.3
    ∙ ap (λ t. text_of x ++ t) (each_text text_of xs spelled.1 spelled.4)

pub text_each : {X : Type 0} (text_of : X → List ℕ) (Spelled : X → List ℕ → Type 0) (Within : X → Type 0) →
    ((x : X) → Within x → Spelled x (text_of x)) → (xs : List X) → All Within xs →
    SpellsEach Spelled xs (flat_map text_of xs)
text_each text_of Spelled Within spells [] are = refl
text_each text_of Spelled Within spells (x ∷ xs) are = (
  text_of x,
  flat_map text_of xs,
  refl,
  spells x (All-head Within x xs are),
  text_each text_of Spelled Within spells xs (All-tail Within x xs are),
)
