-- What calls add to a text, one behind the other.
use Rattle.std.proofs.Common.{◌≡◌, ℕ, ◌+◌, ◌<◌, List, [], ◌∷◌, ◌++◌, length, take, replicate}
use Rattle.std.proofs.Common.{get_or, Result, OnOk, sym, ap, ◌∙◌}
use Rattle.std.proofs.lemmas.List.{append_assoc}
use Rattle.std.proofs.lemmas.Result.{on_ok_weaker}
use Rattle.song_script.specs.Statements.{Statement, Comment, text_of, each_from}
use Rattle.song_script.proofs.EachLaws.{text_append, text_more, text_again}

pub put_more : (old before after x y z : List ℕ) → before ≡ old ++ x → after ≡ before ++ y → z ≡ x ++ y →
    after ≡ old ++ z
put_more old before after x y z one two all =
    two ∙ ap (λ text. text ++ y) one ∙ append_assoc old x y ∙ ap (λ text. old ++ text) (sym all)

pub put_last : {T E : Type 0} (r : Result T E) (old before after x y z : List ℕ) → before ≡ old ++ x →
    OnOk r (after ≡ before ++ y) → z ≡ x ++ y → OnOk r (after ≡ old ++ z)
put_last r old before after x y z one two all =
    on_ok_weaker r (λ is. put_more old before after x y z one is all) two

pub put_same : {T E : Type 0} (r : Result T E) (old after y z : List ℕ) → OnOk r (after ≡ old ++ y) → z ≡ y →
    OnOk r (after ≡ old ++ z)
put_same r old after y z one all = on_ok_weaker r (λ is. is ∙ ap (λ text. old ++ text) (sym all)) one

-- ---- statements

pub join_more : (a b : List Statement) (old before after : List ℕ) → before ≡ old ++ text_of a →
    after ≡ before ++ text_of b → after ≡ old ++ text_of (a ++ b)
join_more a b old before after one two =
    put_more old before after (text_of a) (text_of b) (text_of (a ++ b)) one two (text_append a b)

pub join_last : {T E : Type 0} (r : Result T E) (a b : List Statement) (old before after : List ℕ) →
    before ≡ old ++ text_of a → OnOk r (after ≡ before ++ text_of b) → OnOk r (after ≡ old ++ text_of (a ++ b))
join_last r a b old before after one two =
    put_last r old before after (text_of a) (text_of b) (text_of (a ++ b)) one two (text_append a b)

-- a comment's line and two parts
pub comment_join : {T E : Type 0} (r : Result T E) (words : List ℕ) (a b : List Statement) (old one two after : List
    ℕ) →
    one ≡ old ++ text_of (Comment words ∷ []) → two ≡ one ++ text_of a → OnOk r (after ≡ two ++ text_of b) →
    OnOk r (after ≡ old ++ text_of (Comment words ∷ (a ++ b)))
comment_join r words a b old one two after e f g =
    join_last r (Comment words ∷ a) b old two after (join_more (Comment words ∷ []) a old one two e f) g

pub each_more : {X : Type 0} (number : ℕ) (said : ℕ → X → List Statement) (xs : List X) (i k : ℕ) (d : X)
    (old before after : List ℕ) → i < length xs →
    before ≡ old ++ text_of (each_from number said (take i xs)) →
    after ≡ before ++ text_of (said k (get_or xs i d)) → k ≡ number + i →
    after ≡ old ++ text_of (each_from number said (take (i + 1) xs))
each_more number said xs i k d old before after lt one two at =
    let x = get_or xs i d in
    put_more old before after (text_of (each_from number said (take i xs))) (text_of (said k x))
    (text_of (each_from number said (take (i + 1) xs))) one two
    (text_more number said xs i d lt
    ∙ ap (λ n. text_of (each_from number said (take i xs)) ++ text_of (said n x)) (sym at))

-- the same for an item that is its own default
pub each_item : {X : Type 0} (number : ℕ) (said : ℕ → X → List Statement) (xs : List X) (i k : ℕ) (x : X)
    (old before after : List ℕ) → i < length xs → x ≡ get_or xs i x →
    before ≡ old ++ text_of (each_from number said (take i xs)) → after ≡ before ++ text_of (said k x) →
    k ≡ number + i → after ≡ old ++ text_of (each_from number said (take (i + 1) xs))
each_item number said xs i k x old before after lt is one two at =
    each_more number said xs i k x old before after lt one
    (two ∙ ap (λ y. before ++ text_of (said k y)) is) at

pub again_more : (n : ℕ) (statement : Statement) (old before after : List ℕ) →
    before ≡ old ++ text_of (replicate n statement) → after ≡ before ++ text_of (statement ∷ []) →
    after ≡ old ++ text_of (replicate (n + 1) statement)
again_more n statement old before after one two =
    put_more old before after (text_of (replicate n statement)) (text_of (statement ∷ []))
    (text_of (replicate (n + 1) statement)) one two (text_again n statement)

-- what is said of as many as an equal list has
pub counted_more : {X : Type 0} (said : ℕ → List Statement) (xs ys : List X) → xs ≡ ys → (before after : List ℕ) →
    after ≡ before ++ text_of (said (length xs)) → after ≡ before ++ text_of (said (length ys))
counted_more {X} said xs ys same before after is =
    is ∙ ap (λ (zs : List X). before ++ text_of (said (length zs))) same

pub counted_last : {X T E : Type 0} (r : Result T E) (said : ℕ → List Statement) (xs ys : List X) → xs ≡ ys →
    (before after : List ℕ) → OnOk r (after ≡ before ++ text_of (said (length xs))) →
    OnOk r (after ≡ before ++ text_of (said (length ys)))
counted_last r said xs ys same before after is =
    on_ok_weaker r (λ e. counted_more said xs ys same before after e) is
