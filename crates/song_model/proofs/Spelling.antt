-- The canonical spelling tells songs apart: each piece of it says where it ends.
use Rattle.std.proofs.Common.{◌≡◌, ℕ, ◌+◌, List, [], ◌∷◌, ◌++◌, length, map, All, refl, sym, ap}
use Rattle.std.proofs.Common.{◌∙◌, append_assoc, arith}
use Rattle.std.specs.List.{flat_map}
use Rattle.std.specs.Prelude.{codes}
use Rattle.std.proofs.lemmas.List.{length-map}
use Rattle.std.proofs.lemmas.List.Elements.{All-head, All-tail}
use Rattle.base.proofs.Laws.{split_append}
use Rattle.song_model.specs.declared.tables.TableRow.{TableRow}
use Rattle.song_model.specs.Basics.{KeepsLimit}
use Rattle.song_model.specs.PatternLimits.{IsRow, IsPattern}
use Rattle.song_model.specs.Limits.{IsText, IsOrder, IsSubtune, IsInstrument, IsTable, KeepsLimits}
use Rattle.song_model.specs.Canonical.{order_text, subtune_text, subtunes_text, instrument_text, instruments_text}
use Rattle.song_model.specs.Canonical.{table_text, row_text, end_row_text, pattern_text, patterns_text, texts_text}
use Rattle.song_model.specs.Canonical.{tables_text, canonical}
use Rattle.song_model.specs.CanonicalLaws.{SpellingsDiffer}

-- A text tells a part of what it spells, and where it ends, whatever follows it.
abbrev Tells : {S X : Type 0} → (S → Type 0) → (S → List ℕ) → (S → X) → Type 0
Tells {S} P text part = (s t : S) (u v : List ℕ) → P s → P t → text s ++ u ≡ text t ++ v → (part s ≡ part t) × (u ≡ v)

-- one text after another tells both parts
both : {S X Y : Type 0} (P : S → Type 0) (f g : S → List ℕ) (a : S → X) (b : S → Y) →
    Tells P f a → Tells P g b → Tells {X = X × Y} P (λ s. f s ++ g s) (λ s. (a s, b s))
both P f g a b first second s t u v p q e =
    let apart : f s ++ (g s ++ u) ≡ f t ++ (g t ++ v) =
    sym (append_assoc (f s) (g s) u) ∙ e ∙ append_assoc (f t) (g t) v in
    let one = first s t (g s ++ u) (g t ++ v) p q apart in
    let two = second s t u v p q one.1 in
    (let x = one.0 in let y = two.0 in (cc), two.1)

-- as many items one after the other, each of which tells itself
items_tell : {X : Type 0} (P : X → Type 0) (f : X → List ℕ) → Tells P f (λ x. x) →
    (xs ys : List X) (u v : List ℕ) → length xs ≡ length ys → All P xs → All P ys →
    flat_map f xs ++ u ≡ flat_map f ys ++ v → (xs ≡ ys) × (u ≡ v)
items_tell P f tells [] [] u v n p q e = (refl, e)
items_tell P f tells [] (y ∷ ys) u v n p q e = absurd (omega arith)
items_tell P f tells (x ∷ xs) [] u v n p q e = absurd (omega arith)
items_tell P f tells (x ∷ xs) (y ∷ ys) u v n p q e =
    let apart : f x ++ (flat_map f xs ++ u) ≡ f y ++ (flat_map f ys ++ v) =
    sym (append_assoc (f x) (flat_map f xs) u) ∙ e ∙ append_assoc (f y) (flat_map f ys) v in
    let one = tells x y (flat_map f xs ++ u) (flat_map f ys ++ v) (All-head P x xs p) (All-head P y ys q) apart in
    let m : length xs ≡ length ys = omega arith in
    let two = items_tell P f tells xs ys u v m (All-tail P x xs p) (All-tail P y ys q) one.1 in
    (let a = one.0 in let b = two.0 in (cc), two.1)

-- the count in front says how many
counted_tells : {X : Type 0} (limit : ℕ) (P : X → Type 0) (f : X → List ℕ) → Tells P f (λ x. x) →
    Tells (KeepsLimit limit P) (λ xs. length xs ∷ flat_map f xs) (λ xs. xs)
counted_tells limit P f tells xs ys u v p q e =
    let n : length xs ≡ length ys = (cc) in
    let tail : flat_map f xs ++ u ≡ flat_map f ys ++ v = (cc) in
    items_tell P f tells xs ys u v n p.each q.each tail

row_tells : Tells IsRow row_text (λ r. r)
row_tells s t u v p q e =
    let note : s.note ≡ t.note = (cc) in
    let instrument : s.instrument ≡ t.instrument = (cc) in
    let command : s.command ≡ t.command = (cc) in
    let param : s.param ≡ t.param = (cc) in
    let rest : u ≡ v = (cc) in
    (λ i. record { note = note i; instrument = instrument i; command = command i; param = param i }, rest)

pattern_tells : Tells IsPattern pattern_text (λ rows. rows)
pattern_tells s t u v p q e =
    let n : length s + 1 ≡ length t + 1 = (cc) in
    let m : length s ≡ length t = omega arith in
    let tail : (flat_map row_text s ++ end_row_text) ++ u ≡ (flat_map row_text t ++ end_row_text) ++ v = (cc) in
    let apart : flat_map row_text s ++ (end_row_text ++ u) ≡ flat_map row_text t ++ (end_row_text ++ v) =
    sym (append_assoc (flat_map row_text s) end_row_text u) ∙ tail ∙ append_assoc
    (flat_map row_text t) end_row_text v in
    let one = items_tell IsRow row_text row_tells s t (end_row_text ++ u) (end_row_text ++ v) m p.each q.each apart in
    (one.0, (split_append end_row_text end_row_text u v refl one.1).1)

order_tells : Tells IsOrder order_text (λ order. order)
order_tells s t u v p q e =
    let n : length s.entries + 1 ≡ length t.entries + 1 = (cc) in
    let m : length s.entries ≡ length t.entries = omega arith in
    let tail : (s.entries ++ 0xFF ∷ s.restart ∷ []) ++ u ≡ (t.entries ++ 0xFF ∷ t.restart ∷ []) ++ v = (cc) in
    let apart : s.entries ++ 0xFF ∷ s.restart ∷ u ≡ t.entries ++ 0xFF ∷ t.restart ∷ v =
    sym (append_assoc s.entries (0xFF ∷ s.restart ∷ []) u) ∙ tail ∙ append_assoc t.entries (0xFF ∷ t.restart ∷ []) v in
    let one = split_append s.entries t.entries (0xFF ∷ s.restart ∷ u) (0xFF ∷ t.restart ∷ v) m apart in
    let beyond = one.1 in
    let restart : s.restart ≡ t.restart = (cc) in
    let rest : u ≡ v = (cc) in
    let entries = one.0 in
    (λ i. record { entries = entries i; restart = restart i }, rest)

-- a part that tells itself, of a greater whole
of_part : {S X : Type 0} (P : S → Type 0) (Q : X → Type 0) (f : X → List ℕ) (part : S → X) →
    ((s : S) → P s → Q (part s)) → Tells Q f (λ x. x) → Tells P (λ s. f (part s)) part
of_part P Q f part keeps tells s t u v p q e = tells (part s) (part t) u v (keeps s p) (keeps t q) e

subtune_tells : Tells IsSubtune subtune_text (λ subtune. subtune)
subtune_tells s t u v p q e =
    let one : Tells IsSubtune (λ s. order_text s.one) (λ s. s.one) =
    of_part IsSubtune IsOrder order_text (λ s. s.one) (λ s k. k.one) order_tells in
    let two : Tells IsSubtune (λ s. order_text s.two) (λ s. s.two) =
    of_part IsSubtune IsOrder order_text (λ s. s.two) (λ s k. k.two) order_tells in
    let three : Tells IsSubtune (λ s. order_text s.three) (λ s. s.three) =
    of_part IsSubtune IsOrder order_text (λ s. s.three) (λ s k. k.three) order_tells in
    let r =
    both IsSubtune (λ s. order_text s.one ++ order_text s.two) (λ s. order_text s.three) (λ s. (s.one, s.two))
    (λ s. s.three)
    (both IsSubtune (λ s. order_text s.one) (λ s. order_text s.two) (λ s. s.one)
    (λ s. s.two) one two) three s t u v p q e in
    let same = r.0 in
    (λ i. record { one = (same i).0.0; two = (same i).0.1; three = (same i).1 }, r.1)

instrument_tells : Tells IsInstrument instrument_text (λ instrument. instrument)
instrument_tells s t u v p q e =
    let ad : s.ad ≡ t.ad = (cc) in
    let sr : s.sr ≡ t.sr = (cc) in
    let wave : s.wave ≡ t.wave = (cc) in
    let pulse : s.pulse ≡ t.pulse = (cc) in
    let filter : s.filter ≡ t.filter = (cc) in
    let vibrato : s.vibrato ≡ t.vibrato = (cc) in
    let vibrato_delay : s.vibrato_delay ≡ t.vibrato_delay = (cc) in
    let gate_timer : s.gate_timer ≡ t.gate_timer = (cc) in
    let first_wave : s.first_wave ≡ t.first_wave = (cc) in
    let tail : s.name ++ u ≡ t.name ++ v = (cc) in
    let m : length s.name ≡ length t.name = p.name.count ∙ sym q.name.count in
    let one = split_append s.name t.name u v m tail in
    let name = one.0 in (
      λ i. record {
        ad = ad i;
        sr = sr i;
        wave = wave i;
        pulse = pulse i;
        filter = filter i;
        vibrato = vibrato i;
        vibrato_delay = vibrato_delay i;
        gate_timer = gate_timer i;
        first_wave = first_wave i;
        name = name i;
      },
      one.1,
    )

-- as many rows with the same sides are the same
same_rows : (xs ys : List TableRow) → length xs ≡ length ys → map (λ row. row.left) xs ≡ map (λ row. row.left) ys →
    map (λ row. row.right) xs ≡ map (λ row. row.right) ys → xs ≡ ys
same_rows [] [] n l r = refl
same_rows [] (y ∷ ys) n l r = absurd (omega arith)
same_rows (x ∷ xs) [] n l r = absurd (omega arith)
same_rows (x ∷ xs) (y ∷ ys) n l r =
    let left : x.left ≡ y.left = (cc) in
    let right : x.right ≡ y.right = (cc) in
    let lefts : map (λ row. row.left) xs ≡ map (λ row. row.left) ys = (cc) in
    let rights : map (λ row. row.right) xs ≡ map (λ row. row.right) ys = (cc) in
    let m : length xs ≡ length ys = omega arith in
    let rest = same_rows xs ys m lefts rights in
    λ i. (record { left = left i; right = right i }) ∷ rest i

table_tells : Tells IsTable table_text (λ rows. rows)
table_tells s t u v p q e =
    let n : length s ≡ length t = (cc) in
    let tail : (map (λ row. row.left) s ++ map (λ row. row.right) s) ++ u ≡
    (map (λ row. row.left) t ++ map (λ row. row.right) t) ++ v = (cc) in
    let apart : map (λ row. row.left) s ++ (map (λ row. row.right) s ++ u) ≡ map (λ row. row.left) t ++
    (map (λ row. row.right) t ++ v) =
    sym (append_assoc (map (λ row. row.left) s) (map (λ row. row.right) s) u) ∙ tail ∙ append_assoc
    (map (λ row. row.left) t) (map (λ row. row.right) t) v in
    let m : length (map (λ row. row.left) s) ≡ length (map (λ row. row.left) t) =
    length-map s _ ∙ n ∙ sym (length-map t _) in
    let k : length (map (λ row. row.right) s) ≡ length (map (λ row. row.right) t) =
    length-map s _ ∙ n ∙ sym (length-map t _) in
    let one =
    split_append (map (λ row. row.left) s) (map (λ row. row.left) t) (map (λ row. row.right) s ++ u)
    (map (λ row. row.right) t ++ v) m apart in
    let two = split_append (map (λ row. row.right) s) (map (λ row. row.right) t) u v k one.1 in
    (same_rows s t n one.0 two.0, two.1)

-- the parts of a song in the order of their texts

text_tells : (n : ℕ) → Tells (IsText n) (λ text. text) (λ text. text)
text_tells n s t u v p q e = split_append s t u v (p.count ∙ sym q.count) e

texts_tell : Tells {X = (List ℕ × List ℕ) × List ℕ} KeepsLimits texts_text (λ s. ((s.name, s.author), s.copyright))
texts_tell =
    both KeepsLimits (λ s. s.name ++ s.author) (λ s. s.copyright) (λ s. (s.name, s.author)) (λ s. s.copyright)
    (both KeepsLimits (λ s. s.name) (λ s. s.author) (λ s. s.name) (λ s. s.author)
    (of_part KeepsLimits (IsText 32) (λ text. text) (λ s. s.name) (λ s k. k.name) (text_tells 32))
    (of_part KeepsLimits (IsText 32) (λ text. text) (λ s. s.author) (λ s k. k.author) (text_tells 32)))
    (of_part KeepsLimits (IsText 32) (λ text. text) (λ s. s.copyright) (λ s k. k.copyright) (text_tells 32))

subtunes_tell : Tells KeepsLimits (λ s. subtunes_text s.subtunes) (λ s. s.subtunes)
subtunes_tell =
    of_part KeepsLimits (KeepsLimit 32 IsSubtune) subtunes_text (λ s. s.subtunes) (λ s k. k.subtunes)
    (counted_tells 32 IsSubtune subtune_text subtune_tells)

instruments_tell : Tells KeepsLimits (λ s. instruments_text s.instruments) (λ s. s.instruments)
instruments_tell =
    of_part KeepsLimits (KeepsLimit 63 IsInstrument) instruments_text (λ s. s.instruments) (λ s k. k.instruments)
    (counted_tells 63 IsInstrument instrument_text instrument_tells)

patterns_tell : Tells KeepsLimits (λ s. patterns_text s.patterns) (λ s. s.patterns)
patterns_tell =
    of_part KeepsLimits (KeepsLimit 208 IsPattern) patterns_text (λ s. s.patterns) (λ s k. k.patterns)
    (counted_tells 208 IsPattern pattern_text pattern_tells)

tables_tell : Tells {X = ((List TableRow × List TableRow) × List TableRow) × List TableRow} KeepsLimits tables_text
    (λ s. (((s.wave, s.pulse), s.filter), s.speed))
tables_tell =
    both KeepsLimits (λ s. table_text s.wave ++ table_text s.pulse ++ table_text s.filter) (λ s. table_text s.speed)
    (λ s. ((s.wave, s.pulse), s.filter)) (λ s. s.speed)
    (both KeepsLimits (λ s. table_text s.wave ++ table_text s.pulse) (λ s. table_text s.filter)
    (λ s. (s.wave, s.pulse)) (λ s. s.filter)
    (both KeepsLimits (λ s. table_text s.wave) (λ s. table_text s.pulse) (λ s. s.wave) (λ s. s.pulse)
    (of_part KeepsLimits IsTable table_text (λ s. s.wave) (λ s k. k.wave) table_tells)
    (of_part KeepsLimits IsTable table_text (λ s. s.pulse) (λ s k. k.pulse) table_tells))
    (of_part KeepsLimits IsTable table_text (λ s. s.filter) (λ s k. k.filter) table_tells))
    (of_part KeepsLimits IsTable table_text (λ s. s.speed) (λ s k. k.speed) table_tells)

magic_tells : Tells KeepsLimits (λ s. codes "GTS5") (λ s. tt {0})
magic_tells s t u v p q e = (refl, (split_append (codes "GTS5") (codes "GTS5") u v refl e).1)

-- the spelling tells all of them, whatever follows it
pub canonical_tells : Tells KeepsLimits canonical (λ s. s)
unfolding canonical
canonical_tells s t u v p q e =
    let front1 =
    both KeepsLimits (λ s. codes "GTS5") texts_text (λ s. tt {0})
    (λ s. ((s.name, s.author), s.copyright)) magic_tells texts_tell in
    let front2 = both KeepsLimits (λ s. codes "GTS5" ++ texts_text s) (λ s. subtunes_text s.subtunes)
    (λ s. (tt {0}, ((s.name, s.author), s.copyright))) (λ s. s.subtunes) front1 subtunes_tell in
    let front3 =
    both KeepsLimits (λ s. codes "GTS5" ++ texts_text s ++ subtunes_text s.subtunes)
    (λ s. instruments_text s.instruments)
    (λ s. ((tt {0}, ((s.name, s.author), s.copyright)), s.subtunes)) (λ s. s.instruments) front2 instruments_tell in
    let front4 =
    both KeepsLimits
    (λ s. codes "GTS5" ++ texts_text s ++ subtunes_text s.subtunes ++ instruments_text s.instruments) tables_text
    (λ s. (((tt {0}, ((s.name, s.author), s.copyright)), s.subtunes), s.instruments))
    (λ s. (((s.wave, s.pulse), s.filter), s.speed)) front3 tables_tell in
    let whole =
    both KeepsLimits
    (λ s. codes "GTS5" ++ texts_text s ++ subtunes_text s.subtunes ++ instruments_text s.instruments ++ tables_text s)
    (λ s. patterns_text s.patterns)
    (λ s. (
      (((tt {0}, ((s.name, s.author), s.copyright)), s.subtunes), s.instruments),
      (((s.wave, s.pulse), s.filter), s.speed),
    )) (λ s. s.patterns)
    front4 patterns_tell s t u v p q e in
    let same = whole.0 in (
      λ i. record {
        name = (same i).0.0.0.0.1.0.0;
        author = (same i).0.0.0.0.1.0.1;
        copyright = (same i).0.0.0.0.1.1;
        subtunes = (same i).0.0.0.1;
        instruments = (same i).0.0.1;
        wave = (same i).0.1.0.0.0;
        pulse = (same i).0.1.0.0.1;
        filter = (same i).0.1.0.1;
        speed = (same i).0.1.1;
        patterns = (same i).1;
      },
      whole.1,
    )

pub spellings_differ_lem : SpellingsDiffer
spellings_differ_lem song other p q e = (canonical_tells song other [] [] p q (ap (λ bytes. bytes ++ []) e)).0
